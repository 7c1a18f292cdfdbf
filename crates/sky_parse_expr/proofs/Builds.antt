-- Where something stands behind an operand, they make a tree.
use Rattle.std.proofs.Common.{◌≡◌, suc, true, false, List, [], ◌∷◌, length, refl, arith}
use Rattle.std.specs.Prelude.{◌==◌}
use Rattle.std.proofs.lemmas.Bool.{eqb-true}
use Rattle.sky_base.specs.Tree.{Junction, Exp}
use Rattle.sky_base.specs.TreeView.{links_view, ands_view, steps_view, signs_view}
use Rattle.sky_base.specs.declared.tree.Link.{Link}
use Rattle.sky_base.specs.declared.tree.Join.{Join}
use Rattle.sky_base.specs.declared.tree.SignAt.{SignAt}
use Rattle.sky_base.specs.declared.tree.Step.{Step}
use Rattle.sky_parse_expr.specs.Built.{chained, joined, prefixed, stepped}

pub emptied : {A : Type 0} (xs : List A) → (length xs == 0) ≡ true → xs ≡ []
emptied [] h = refl
emptied (x ∷ xs) h = absurd (omega (arith, eqb-true (suc (length xs)) 0 h))

pub links_are : (e : Exp) (xs : List Link) → (length xs == 0) ≡ false → chained e (links_view xs) ≡ Exp.chain e (links_view xs)
links_are e [] h = absurd cc
links_are e (x ∷ xs) h = refl

pub ands_are : (j : Junction) (e : Exp) (xs : List Join) → (length xs == 0) ≡ false → joined j e (ands_view xs) ≡ Exp.logic j e (ands_view xs)
ands_are j e [] h = absurd cc
ands_are j e (x ∷ xs) h = refl

pub signs_are : (e : Exp) (xs : List SignAt) → (length xs == 0) ≡ false → prefixed (signs_view xs) e ≡ Exp.prefix (signs_view xs) e
signs_are e [] h = absurd cc
signs_are e (x ∷ xs) h = refl

pub steps_are : (e : Exp) (xs : List Step) → (length xs == 0) ≡ false → stepped e (steps_view xs) ≡ Exp.postfix e (steps_view xs)
steps_are e [] h = absurd cc
steps_are e (Step.Index i l c ∷ xs) h = refl
steps_are e (Step.Call es l c ∷ xs) h = refl

pub ruleset builds = (emptied, links_are, ands_are, signs_are, steps_are)
