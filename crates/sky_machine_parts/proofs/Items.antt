-- The values of parts, by their number.
use Rattle.std.proofs.Common.{◌≡◌, ◌≢◌, ℕ, zero, suc, ◌≤◌, ◌++◌, List, [], ◌∷◌, Some, None, refl, ap, ap₂, ◌∙◌, arith}
use Rattle.sky_base.specs.Val.{Val, Vals, no_vals, val, count, vals_of, add_val}
use Rattle.sky_base.specs.Op.{val_at}
use Rattle.sky_base.specs.Kept.{Kept}
use Rattle.sky_base.specs.Tree.{Place}
use Rattle.sky_base.specs.Res.{fails}
use Rattle.sky_base.specs.Eval.{with_one, with_two, with_three}
use Rattle.sky_base.specs.declared.fault.FaultKind.{FaultKind}
use Rattle.sky_base_scope.specs.Plain.{Vars, items}
use Rattle.sky_base_scope.specs.RunView.{KeptVals}
use Rattle.sky_base_scope.proofs.Vars.{kept_at}
use Rattle.sky_machine_entries.specs.Config.{Run}

abbrev V : Type 0
V = Val (List ℕ)

abbrev Vs : Type 0
Vs = Vals (List ℕ)

pub items_push : (vs : Vs) (v : V) → items (add_val vs v) ≡ items vs ++ v ∷ []
items_push no_vals v = refl
items_push (val u vs) v = ap (λ xs. u ∷ xs) (items_push vs v)

pub items_vals : (vs : Vs) → vals_of (items vs) ≡ vs
items_vals no_vals = refl
items_vals (val v vs) = ap (val v) (items_vals vs)

pub kept_push : (vs : Vs) (v : V) → KeptVals vs → Kept v → KeptVals (add_val vs v)
kept_push no_vals v h k = (k, tt)
kept_push (val u vs) v h k = (h.0, kept_push vs v h.1 k)

pub one_item : (vs : Vs) (v : V) → count vs ≡ 1 → val_at vs 0 ≡ Some v → items vs ≡ v ∷ []
one_item no_vals v h e = absurd cc
one_item (val u no_vals) v h e = let f : u ≡ v = cc in ap (λ x. x ∷ []) f
one_item (val u (val t vs)) v h e = absurd (omega arith)

pub two_items : (vs : Vs) (a b : V) → count vs ≡ 2 → val_at vs 0 ≡ Some a → val_at vs 1 ≡ Some b → items vs ≡ a ∷ b ∷ []
two_items no_vals a b h e g = absurd cc
two_items (val u no_vals) a b h e g = absurd (omega arith)
two_items (val u (val t no_vals)) a b h e g = let f : u ≡ a = cc in let k : t ≡ b = cc in ap₂ (λ x y. x ∷ y ∷ []) f k
two_items (val u (val t (val s vs))) a b h e g = absurd (omega arith)

pub three_items : (vs : Vs) (a b c : V) → count vs ≡ 3 → val_at vs 0 ≡ Some a → val_at vs 1 ≡ Some b → val_at vs 2 ≡ Some c → items vs ≡ a ∷ b
    ∷ c ∷ []
three_items no_vals a b c h e g i = absurd cc
three_items (val u no_vals) a b c h e g i = absurd (omega arith)
three_items (val u (val t no_vals)) a b c h e g i = absurd (omega arith)
three_items (val u (val t (val s no_vals))) a b c h e g i =
    let f : u ≡ a = cc in
    let k : t ≡ b = cc in
    let l : s ≡ c = cc in ap₂ (λ x y. x ∷ y ∷ s ∷ []) f k ∙ ap (λ z. a ∷ b ∷ z ∷ []) l
three_items (val u (val t (val s (val r vs)))) a b c h e g i = absurd (omega arith)

pub not_one : (vs : Vs) (p : Place) (st : Vars) (k : V → Run) → count vs ≢ 1 → with_one (items vs) p st k ≡ fails FaultKind.BadKind p st
not_one no_vals p st k h = refl
not_one (val u no_vals) p st k h = absurd (h refl)
not_one (val u (val t vs)) p st k h = refl

pub not_two : (vs : Vs) (p : Place) (st : Vars) (k : V → V → Run) → count vs ≢ 2 → with_two (items vs) p st k ≡ fails FaultKind.BadKind p st
not_two no_vals p st k h = refl
not_two (val u no_vals) p st k h = refl
not_two (val u (val t no_vals)) p st k h = absurd (h refl)
not_two (val u (val t (val s vs))) p st k h = refl

pub not_three : (vs : Vs) (p : Place) (st : Vars) (k : V → V → V → Run) → count vs ≢ 3 → with_three (items vs) p st k ≡ fails FaultKind.BadKind p st
not_three no_vals p st k h = refl
not_three (val u no_vals) p st k h = refl
not_three (val u (val t no_vals)) p st k h = refl
not_three (val u (val t (val s no_vals))) p st k h = absurd (h refl)
not_three (val u (val t (val s (val r vs)))) p st k h = refl

-- a place before the end has a value
pub there_is : (vs : Vs) (i : ℕ) → val_at vs i ≡ None → count vs ≤ i
there_is no_vals i e = omega arith
there_is (val u vs) zero e = absurd cc
there_is (val u vs) (suc i) e = omega (arith, there_is vs i e)

pub ruleset part_rules = (one_item, two_items, three_items, not_one, not_two, not_three, there_is, kept_at)
