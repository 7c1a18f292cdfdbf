-- What a picture is.
use Rattle.std.specs.Prelude.{◌≡◌, ℕ, List, [], ◌++◌}
use Rattle.ciel_look_shown.specs.Markup.{Markup, element_bytes}
use Rattle.ciel_look_shown.specs.declared.tag.Tag.{Tag}

-- well-formed markup that is one element
pub record IsPicture (text : List ℕ) : Type 0 where
  pub markup : Markup text
  pub attributes : List ℕ
  pub inner : List ℕ
  pub element : text ≡ element_bytes Tag.Svg attributes inner

-- in it, behind all else, stand these marks
pub record Holds (marks text : List ℕ) : Type 0 where
  pub attributes : List ℕ
  pub front : List ℕ
  pub element : text ≡ element_bytes Tag.Svg attributes (front ++ element_bytes Tag.Group [] marks)
