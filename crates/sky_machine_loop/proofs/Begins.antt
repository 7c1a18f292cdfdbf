-- An expression is begun as its shape says.
use Rattle.std.proofs.Common.{◌≡◌, ℕ, List, Option, sym, ap, ◌∙◌, subst}
use Rattle.sky_base.specs.Tree.{Exp}
use Rattle.sky_base.specs.Res.{Fin}
use Rattle.sky_base.specs.Eval.{World, eval}
use Rattle.sky_base.specs.declared.object.Named.{Named}
use Rattle.sky_base_law.specs.Opened.{Node, HasExp}
use Rattle.sky_base_scope.specs.Plain.{Vars}
use Rattle.sky_machine_entries.specs.Config.{body_in, rest_in, config}
use Rattle.sky_machine_entries.specs.Entries.{end_of, forms}
use Rattle.sky_machine_entries.specs.declared.control.End.{End}
use Rattle.sky_machine_entries.specs.declared.control.Control.{Control}
use Rattle.sky_machine_entries.specs.declared.entry.Entry as rust
use Rattle.sky_machine_parts.specs.Made.{whole}

module _ (w : World (List ℕ)) (digest : List ℕ → List ℕ) (made : List Named) (es : List rust.Entry) (s e : Exp) (n : ℕ) (is : s ≡ e) where
  -- it has ended at once
  pub leaf_so : (st t : Vars) (x : End) → eval w (body_in w (forms es)) s n st ≡ Fin (end_of x) t
      → whole digest made (config w es (Control.End x) t) ≡ whole digest made (rest_in w es (eval w (body_in w (forms es)) e n st))
  leaf_so st t x h =
      ap (λ r. whole digest made (rest_in w es r)) (sym h ∙ ap (λ y. eval w (body_in w (forms es)) y n st) is)

  -- nothing was made
  pub begins_so : (fs : List rust.Entry) (c : Control) (st t : Vars) → config w fs c t ≡ rest_in w es (eval w (body_in w (forms es)) s n st)
      → whole digest made (config w fs c t) ≡ whole digest made (rest_in w es (eval w (body_in w (forms es)) e n st))
  begins_so fs c st t h =
      ap (whole digest made) (h ∙ ap (λ y. rest_in w es (eval w (body_in w (forms es)) y n st)) is)

  -- what the parts have made stands in the list
  pub parts_so : (new : List Named) (fs : List rust.Entry) (c : Control) (st t : Vars) → whole digest new (config w fs c t)
      ≡ whole digest made (rest_in w es (eval w (body_in w (forms es)) s n st)) → whole digest new (config w fs c t)
      ≡ whole digest made (rest_in w es (eval w (body_in w (forms es)) e n st))
  parts_so new fs c st t h = h ∙ ap (λ y. whole digest made (rest_in w es (eval w (body_in w (forms es)) y n st))) is

pub has_so : (at : ℕ → Option Node) (s e : Exp) (n : ℕ) → s ≡ e → HasExp at e n → HasExp at s n
has_so at s e n is h = subst (λ (y : Exp). HasExp at y n) (sym is) h
