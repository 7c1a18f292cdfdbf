-- What a form makes of its parts, inside of forms, by the word of the code.
use Rattle.std.proofs.Common.{◌≡◌, ℕ, List, sym, ap, ◌∙◌}
use Rattle.sky_base.specs.Tree.{Place}
use Rattle.sky_base.specs.Eval.{World, formed}
use Rattle.sky_base.specs.declared.object.Named.{Named}
use Rattle.sky_base_scope.specs.Plain.{Val, Vars}
use Rattle.sky_machine_code.specs.Shapes.{form_view}
use Rattle.sky_machine_code.specs.declared.shape.PartForm.{PartForm}
use Rattle.sky_machine_entries.specs.Config.{Run, rest_in}
use Rattle.sky_machine_entries.specs.declared.entry.Entry.{Entry}
use Rattle.sky_machine_parts.specs.Made.{whole}

module _ (digest : List ℕ → List ℕ) (old : List Named) (w : World (List ℕ)) (es : List Entry) (vs : List Val) (n : ℕ) (p : Place) (st : Vars) where
  pub as_form : (o o' : PartForm) → o ≡ o' → whole digest old (rest_in w es (formed w (form_view o') vs n p st))
      ≡ whole digest old (rest_in w es (formed w (form_view o) vs n p st))
  as_form o o' e = ap (λ x. whole digest old (rest_in w es (formed w (form_view x) vs n p st))) (sym e)

  -- a form that makes no description
  pub as_end : (o o' : PartForm) (r : Run) → o ≡ o' → formed w (form_view o') vs n p st ≡ r → whole digest old (rest_in w es r)
      ≡ whole digest old (rest_in w es (formed w (form_view o) vs n p st))
  as_end o o' r e g = ap (λ x. whole digest old (rest_in w es x)) (sym g) ∙ as_form o o' e
