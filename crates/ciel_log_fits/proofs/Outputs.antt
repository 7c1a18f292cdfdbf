-- The names of a task's outputs, one after another.
use Rattle.std.proofs.Common.{◌≡◌, ◌<◌, ◌-◌, ◌+◌, ℕ, suc, List, [], ◌∷◌, ◌++◌, append_assoc, sym, ap, ◌∙◌, arith}
use Rattle.sky_base.specs.Name.{digested}
use Rattle.sky_base.specs.Val.{Val, out}
use Rattle.ciel_master_safe.specs.Reports.{names_from}

module _ (digest : List ℕ → List ℕ) (x : List ℕ) (a : Val (List ℕ)) (n : ℕ) where
  pub outputs_step : (k : ℕ) (names new : List (List ℕ)) (d : List ℕ) (all : List (List ℕ)) → k < n → d ≡ digested digest (out x a n k)
      → new ≡ names ++ d ∷ [] → names ++ names_from digest x a n k (n - k) ≡ all
      → new ++ names_from digest x a n (k + 1) (n - (k + 1)) ≡ all
  outputs_step k names new d all h e pushed so_far =
      let next : k + 1 ≡ suc k = omega arith in
      let left : n - k ≡ suc (n - (k + 1)) = omega (arith, h) in
      let rest = names_from digest x a n (suc k) (n - (k + 1)) in
      ap (λ j. new ++ names_from digest x a n j (n - (k + 1))) next
      ∙ ap (λ ns. ns ++ rest) (pushed ∙ ap (λ b. names ++ b ∷ []) e)
      ∙ append_assoc names (digested digest (out x a n k) ∷ []) rest
      ∙ ap (λ m. names ++ names_from digest x a n k m) (sym left) ∙ so_far
