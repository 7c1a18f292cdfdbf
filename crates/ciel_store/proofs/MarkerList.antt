-- The marker's list after a mark.
use Rattle.std.proofs.Common.{◌≡◌, ◌≢◌, ℕ, zero, suc, ◌+◌, ◌-◌, ◌==◌, true, false, List, [], ◌∷◌, ◌++◌, sym, refl, ap, ◌∙◌, subst, arith}
use Rattle.std.specs.Prelude.{Bool, ◌||◌}
use Rattle.std.proofs.lemmas.Bool.Decides.{nat_tests}
use mathlib.Core.Option.{some, some-injective, some-ne-none}
use native.Mathlib.Decide.{ℕ_discrete}
use lib.ListN.{get_elem?}
use Rattle.ciel_store.specs.declared.loss.Loss.{Loss}
use Rattle.ciel_store.specs.declared.loss.View.{View}
use Rattle.ciel_store.specs.Words.{loss, Has, HasMarked}
use Rattle.ciel_store.specs.Seen.{is_lost, marked}

differ : (a b : ℕ) → a ≢ b → (a == b) ≡ false
differ a b n = grind (arith, nat_tests)

agree : (a b : ℕ) → a ≡ b → (a == b) ≡ true
agree a b e = grind (arith, nat_tests)

none_lost : (ls : List Loss) (w : ℕ) → ((l : Loss) → Has ls l → l.worker ≢ w) → is_lost ls w ≡ false
none_lost [] w f = refl
none_lost (l ∷ ls) w f = rw (differ l.worker w (f l (0, refl))) (none_lost ls w (λ x h. f x (suc h.0, h.1)))

or_true : (b : Bool) → (b || true) ≡ true
or_true true = refl
or_true false = refl

some_lost : (ls : List Loss) (w n k : ℕ) → get_elem? ls k ≡ some (loss n w) → is_lost ls w ≡ true
some_lost [] w n k e = absurd (some-ne-none (loss n w) (sym e))
some_lost (l ∷ ls) w n zero e = let same : l ≡ loss n w = some-injective l (loss n w) e in rw (agree l.worker w (ap (λ (x : Loss). x.worker) same))
some_lost (l ∷ ls) w n (suc k) e = rw (some_lost ls w n k e) (or_true (l.worker == w))

go : (word number : ℕ) (v w : View) (n : ℕ) (l : Loss) → l.worker ≡ word → number ≡ l.number → HasMarked word (number + 1) v n w → Dec (n ≡ 0)
    → w.own ≡ marked v.own l
go word number v w n l ew en h (yes z) =
    let f = h.fresh z in
    let none : is_lost v.own l.worker ≡ false = none_lost v.own l.worker (λ x i e. f.1 x i (e ∙ ew)) in
    let m : number + 1 - 1 ≡ l.number = omega (arith, en) in
    rw none (ap (λ (x : View). x.own) f.0 ∙ λ k. v.own ++ loss (m k) (sym ew k) ∷ [])
go word number v w n l ew en h (no ne) =
    let f = h.stale (omega arith) in
    let lost : is_lost v.own l.worker ≡ true = some_lost v.own l.worker (n - 1) f.1.0
    (subst (λ (x : ℕ). get_elem? v.own f.1.0 ≡ some (loss (n - 1) x)) (sym ew) f.1.1) in
    rw lost (ap (λ (x : View). x.own) f.0)

pub marked_is : (word number : ℕ) (v w : View) (n : ℕ) (l : Loss) → l.worker ≡ word → number ≡ l.number → HasMarked word (number + 1) v n w
    → w.own ≡ marked v.own l
marked_is word number v w n l ew en h = go word number v w n l ew en h (ℕ_discrete n 0)
