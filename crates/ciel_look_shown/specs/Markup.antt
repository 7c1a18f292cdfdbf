-- Markup that is well formed: elements with attributes, and text between them in which nothing is markup.
use Rattle.std.specs.Prelude.{◌≡◌, ℕ, List, [], ◌∷◌, ◌++◌, cond, codes, flat_map, nat_eq}
use Rattle.std.specs.List.{All}
use Rattle.ciel_look_shown.specs.Plain.{IsPlain}
use Rattle.ciel_look_shown.specs.declared.tag.Attribute.{Attribute}
use Rattle.ciel_look_shown.specs.declared.tag.Tag.{Tag}

-- ---- text, in which the five characters of markup stand as references

abbrev pub escaped_byte : ℕ → List ℕ
escaped_byte b =
    cond (nat_eq b 38) (codes "&amp;") (cond (nat_eq b 60) (codes "&lt;") (cond (nat_eq b 62) (codes "&gt;")
    (cond (nat_eq b 34) (codes "&quot;") (cond (nat_eq b 39) (codes "&#39;") (b ∷ [])))))

abbrev pub escape : List ℕ → List ℕ
escape text = flat_map escaped_byte text

-- ---- the names of elements and attributes

abbrev pub tag_name : Tag → List ℕ
tag_name Tag.Svg = codes "svg"
tag_name Tag.Defs = codes "defs"
tag_name Tag.Marker = codes "marker"
tag_name Tag.Group = codes "g"
tag_name Tag.Title = codes "title"
tag_name Tag.Text = codes "text"
tag_name Tag.Rect = codes "rect"
tag_name Tag.Path = codes "path"
tag_name Tag.Line = codes "line"

abbrev pub attribute_name : Attribute → List ℕ
attribute_name Attribute.Xmlns = codes "xmlns"
attribute_name Attribute.ViewBox = codes "viewBox"
attribute_name Attribute.Width = codes "width"
attribute_name Attribute.Height = codes "height"
attribute_name Attribute.FontFamily = codes "font-family"
attribute_name Attribute.FontSize = codes "font-size"
attribute_name Attribute.FontWeight = codes "font-weight"
attribute_name Attribute.TextAnchor = codes "text-anchor"
attribute_name Attribute.Id = codes "id"
attribute_name Attribute.RefX = codes "refX"
attribute_name Attribute.RefY = codes "refY"
attribute_name Attribute.MarkerWidth = codes "markerWidth"
attribute_name Attribute.MarkerHeight = codes "markerHeight"
attribute_name Attribute.MarkerEnd = codes "marker-end"
attribute_name Attribute.Orient = codes "orient"
attribute_name Attribute.X = codes "x"
attribute_name Attribute.Y = codes "y"
attribute_name Attribute.X1 = codes "x1"
attribute_name Attribute.Y1 = codes "y1"
attribute_name Attribute.X2 = codes "x2"
attribute_name Attribute.Y2 = codes "y2"
attribute_name Attribute.Rx = codes "rx"
attribute_name Attribute.D = codes "d"
attribute_name Attribute.Fill = codes "fill"
attribute_name Attribute.Stroke = codes "stroke"
attribute_name Attribute.StrokeWidth = codes "stroke-width"
attribute_name Attribute.StrokeDash = codes "stroke-dasharray"

-- ---- elements

-- an attribute with its value
abbrev pub attribute_bytes : Attribute × List ℕ → List ℕ
attribute_bytes a = 32 ∷ (attribute_name a.0 ++ (61 ∷ 34 ∷ (escape a.1 ++ 34 ∷ [])))

abbrev pub attributes_bytes : List (Attribute × List ℕ) → List ℕ
attributes_bytes attributes = flat_map attribute_bytes attributes

abbrev pub ArePlain : List (Attribute × List ℕ) → Type 0
ArePlain attributes = All (λ (a : Attribute × List ℕ). IsPlain a.1) attributes

-- with nothing in it
abbrev pub leaf_bytes : Tag → List ℕ → List ℕ
leaf_bytes tag attributes = 60 ∷ (tag_name tag ++ (attributes ++ 47 ∷ 62 ∷ []))

abbrev pub end_bytes : Tag → List ℕ
end_bytes tag = 60 ∷ 47 ∷ (tag_name tag ++ 62 ∷ [])

-- with markup in it
abbrev pub element_bytes : Tag → List ℕ → List ℕ → List ℕ
element_bytes tag attributes inner =
    60 ∷ (tag_name tag ++ (attributes ++ (62 ∷ (inner ++ end_bytes tag))))

-- text and elements, one behind the other
pub data Markup : List ℕ → Type 0 where
  nothing : Markup []
  text : {rest : List ℕ} (t : List ℕ) → IsPlain t → Markup rest → Markup (escape t ++ rest)
  leaf : {rest : List ℕ} (tag : Tag) (its : List (Attribute × List ℕ)) → ArePlain its → Markup rest
      → Markup (leaf_bytes tag (attributes_bytes its) ++ rest)
  element : {inner rest : List ℕ} (tag : Tag) (its : List (Attribute × List ℕ)) → ArePlain its → Markup inner → Markup rest
      → Markup (element_bytes tag (attributes_bytes its) inner ++ rest)

-- attributes, whatever they are
abbrev pub AreAttributes : List ℕ → Type 0
AreAttributes bytes = (its : List (Attribute × List ℕ)) × ArePlain its × (bytes ≡ attributes_bytes its)
