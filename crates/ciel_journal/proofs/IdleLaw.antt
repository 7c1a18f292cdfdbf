-- The idle workers from one on.
use Rattle.std.proofs.Common.{◌≡◌, ℕ, suc, ◌+◌, ◌-◌, ◌<◌, List, [], ◌∷◌, ◌++◌, true, false, cond, ap, sym, ◌∙◌, arith, append_assoc}
use Rattle.ciel_journal.specs.Turns.{idle_from, is_idle}

idle_next : (gone busy : List ℕ) (w n : ℕ) → w < n → idle_from gone busy w (n - w)
    ≡ cond (is_idle gone busy w) (w ∷ idle_from gone busy (w + 1) (n - (w + 1))) (idle_from gone busy (w + 1) (n - (w + 1)))
idle_next gone busy w n l = let e : n - w ≡ suc (n - (w + 1)) = omega (arith, l) in ap (idle_from gone busy w) e

pub idle_taken : (gone busy xs : List ℕ) (w n : ℕ) → w < n → is_idle gone busy w ≡ true → (xs ++ w ∷ [])
    ++ idle_from gone busy (w + 1) (n - (w + 1)) ≡ xs ++ idle_from gone busy w (n - w)
idle_taken gone busy xs w n l e =
    append_assoc xs (w ∷ []) (idle_from gone busy (w + 1) (n - (w + 1)))
    ∙ ap (λ ys. xs ++ ys) (sym (idle_next gone busy w n l
    ∙ ap (λ b. cond b (w ∷ idle_from gone busy (w + 1) (n - (w + 1))) (idle_from gone busy (w + 1) (n - (w + 1)))) e))

pub idle_passed : (gone busy xs : List ℕ) (w n : ℕ) → w < n → is_idle gone busy w ≡ false → xs ++ idle_from gone busy (w + 1) (n - (w + 1)) ≡ xs
    ++ idle_from gone busy w (n - w)
idle_passed gone busy xs w n l e =
    ap (λ ys. xs ++ ys) (sym (idle_next gone busy w n l
    ∙ ap (λ b. cond b (w ∷ idle_from gone busy (w + 1) (n - (w + 1))) (idle_from gone busy (w + 1) (n - (w + 1)))) e))
