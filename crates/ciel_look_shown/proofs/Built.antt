-- Markup that is put behind markup.
use Rattle.std.proofs.Common.{◌≡◌, ℕ, List, [], ◌∷◌, ◌++◌, Bool, true, false, cond, subst, sym, append_assoc, append-nil, ap, ◌∙◌, rules}
use Rattle.std.proofs.lemmas.Grind.{flat_map-append}
use Rattle.std.proofs.lemmas.List.Elements.{All-append}
use Rattle.ciel_look_shown.specs.Markup.{ArePlain, AreAttributes, Markup, attribute_bytes, attributes_bytes, element_bytes, escape, leaf_bytes}
use Rattle.ciel_look_shown.specs.Plain.{IsPlain}
use Rattle.ciel_look_shown.specs.declared.tag.Attribute.{Attribute}
use Rattle.ciel_look_shown.specs.declared.tag.Tag.{Tag}

pub markup_append : {a b : List ℕ} → Markup a → Markup b → Markup (a ++ b)
markup_append Markup.nothing n = n
markup_append {b = b} (Markup.text {rest = rest} t p m) n = subst Markup (sym (append_assoc (escape t) rest b)) (Markup.text t p (markup_append m n))
markup_append {b = b} (Markup.leaf {rest = rest} tag its p m) n =
    subst Markup (sym (append_assoc (leaf_bytes tag (attributes_bytes its)) rest b)) (Markup.leaf tag its p (markup_append m n))
markup_append {b = b} (Markup.element {inner = inner} {rest = rest} tag its p i m) n =
    subst Markup (sym (append_assoc (element_bytes tag (attributes_bytes its) inner) rest b)) (Markup.element tag its p i (markup_append m n))

-- what was put, or nothing
pub put_if : (b : Bool) (old piece : List ℕ) → Markup old → Markup piece → Markup (cond b (old ++ piece) old)
put_if true old piece m n = markup_append m n
put_if false old piece m n = m

pub text_alone : (t : List ℕ) → IsPlain t → Markup (escape t)
text_alone t p = subst Markup (append-nil (escape t)) (Markup.text t p Markup.nothing)

pub leaf_alone : (tag : Tag) (bytes : List ℕ) → AreAttributes bytes → Markup (leaf_bytes tag bytes)
leaf_alone tag bytes a =
    subst (λ b. Markup (leaf_bytes tag b)) (sym a.2) (subst Markup (append-nil (leaf_bytes tag (attributes_bytes a.0)))
    (Markup.leaf tag a.0 a.1 Markup.nothing))

pub element_alone : (tag : Tag) (bytes inner : List ℕ) → AreAttributes bytes → Markup inner → Markup (element_bytes tag bytes inner)
element_alone tag bytes inner a m =
    subst (λ b. Markup (element_bytes tag b inner)) (sym a.2) (subst Markup (append-nil (element_bytes tag (attributes_bytes a.0) inner))
    (Markup.element tag a.0 a.1 m Markup.nothing))

-- ---- attributes

one_plain : (attribute : Attribute) (value : List ℕ) → IsPlain value → ArePlain ((attribute, value) ∷ [])
one_plain attribute value p = search rules

pub attributes_put : (b : Bool) (old value : List ℕ) (attribute : Attribute) → AreAttributes old → IsPlain value
    → AreAttributes (cond b (old ++ attribute_bytes (attribute, value)) old)
attributes_put false old value attribute a p = a
attributes_put true old value attribute a p =
    let its = a.0 in
    let one : List (Attribute × List ℕ) = (attribute, value) ∷ [] in
    let same : old ++ attribute_bytes (attribute, value) ≡ attributes_bytes (its ++ one) =
    ap (λ o. o ++ attribute_bytes (attribute, value)) a.2
    ∙ ap (λ o. attributes_bytes its ++ o) (sym (append-nil (attribute_bytes (attribute, value))))
    ∙ sym (flat_map-append attribute_bytes its one) in
    (its ++ one, All-append (λ (x : Attribute × List ℕ). IsPlain x.1) its one a.1 (one_plain attribute value p), same)
