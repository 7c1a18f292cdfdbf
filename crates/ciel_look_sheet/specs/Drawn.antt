-- What is drawn: boxes and arrows with their titles, crosses, and lines and text.
use Rattle.std.specs.Prelude.{◌≡◌, ◌+◌, ℕ, List, [], ◌∷◌, ◌++◌, flat_map}
use Rattle.std.specs.List.{sum_by}
use Rattle.ciel_look_shown.specs.Markup.{element_bytes, escape, leaf_bytes}
use Rattle.ciel_look_shown.specs.declared.tag.Tag.{Tag}

-- a box with its title, its shape and the text in it; an arrow with its title; a cross; a line; text
pub data Piece : Type 0 where
  boxed : (title shape place label : List ℕ) → Piece
  arrow : (title path : List ℕ) → Piece
  cross : (path : List ℕ) → Piece
  line : (ends : List ℕ) → Piece
  words : (place label : List ℕ) → Piece

abbrev pub title_bytes : List ℕ → List ℕ
title_bytes title = element_bytes Tag.Title [] (escape title)

abbrev pub words_bytes : (place label : List ℕ) → List ℕ
words_bytes place label = element_bytes Tag.Text place (escape label)

abbrev pub piece_bytes : Piece → List ℕ
piece_bytes (boxed title shape place label) =
    element_bytes Tag.Group [] ((title_bytes title ++ leaf_bytes Tag.Rect shape) ++ words_bytes place label)
piece_bytes (arrow title path) = element_bytes Tag.Group [] (title_bytes title ++ leaf_bytes Tag.Path path)
piece_bytes (cross path) = leaf_bytes Tag.Path path
piece_bytes (line ends) = leaf_bytes Tag.Line ends
piece_bytes (words place label) = words_bytes place label

abbrev pub drawing : List Piece → List ℕ
drawing pieces = flat_map piece_bytes pieces

-- ---- what there is among them

abbrev pub box_title : Piece → List (List ℕ)
box_title (boxed title shape place label) = title ∷ []
box_title (arrow title path) = []
box_title (cross path) = []
box_title (line ends) = []
box_title (words place label) = []

abbrev pub arrow_title : Piece → List (List ℕ)
arrow_title (boxed title shape place label) = []
arrow_title (arrow title path) = title ∷ []
arrow_title (cross path) = []
arrow_title (line ends) = []
arrow_title (words place label) = []

abbrev pub one_cross : Piece → ℕ
one_cross (boxed title shape place label) = 0
one_cross (arrow title path) = 0
one_cross (cross path) = 1
one_cross (line ends) = 0
one_cross (words place label) = 0

-- behind the old markup stand pieces: the boxes and the arrows among them have these titles, in order, and there are so many crosses
pub record Draws (boxes arrows : List (List ℕ)) (crosses : ℕ) (old new : List ℕ) : Type 0 where
  pub pieces : List Piece
  pub drawn : new ≡ old ++ drawing pieces
  pub its_boxes : flat_map box_title pieces ≡ boxes
  pub its_arrows : flat_map arrow_title pieces ≡ arrows
  pub its_crosses : sum_by one_cross pieces ≡ crosses
