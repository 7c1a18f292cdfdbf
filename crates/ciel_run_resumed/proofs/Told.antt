-- What gates tell, once those of the workers were put before the others again.
use Rattle.std.proofs.Common.{◌≡◌, ◌∙◌, ℕ, suc, List, [], ◌∷◌, ◌++◌, length, map, take, Option, refl, sym, ap, subst}
use Rattle.sky_base.specs.declared.object.TaskId.{TaskId}
use Rattle.ciel_journal.specs.Entries.{Entry}
use Rattle.ciel_run_job.proofs.Lent.{take_append}
use Rattle.ciel_run_job.specs.Told.{told_of}
use Rattle.ciel_run_onward.specs.Gates.{ToldSince}

-- as many gates come back
pub since_many : {G : Type 0} (entered : G → Option (List TaskId)) (R J : List Entry) (first back : List G)
    → ToldSince R J (map entered first) (map entered back) → length back ≡ length first
since_many entered R J first back t =
    let a = length_of entered back in
    let b = length_of entered first in
    sym a ∙ t.2 ∙ b
  where
    length_of : {A B : Type 0} (f : A → B) (xs : List A) → length (map f xs) ≡ length xs
    length_of f [] = refl
    length_of f (x ∷ xs) = ap (λ n. suc n) (length_of f xs)

-- of all gates, where those of the workers were put before the others again
pub since_back : {G : Type 0} (entered : G → Option (List TaskId)) (w : ℕ) (old own others back new : List G) → own ≡ take w old → length back ≡ w
    → new ≡ back ++ others → (R J : List Entry) → ToldSince R J (map entered own) (map entered back)
    → ToldSince R J (told_of entered w old) (told_of entered w new)
since_back {G} entered w old own others back new own_is many new_is R J t =
    let taken : take w new ≡ back = ap (take w) new_is ∙ take_append w back others many in
    subst (λ (x : List G × List G). ToldSince R J (map entered x.0) (map entered x.1)) (λ i. (own_is i, sym taken i)) t
