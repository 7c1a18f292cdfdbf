-- No wait of a task is for a description twice.
use Rattle.std.proofs.Common.{◌≡◌, ℕ, zero, suc, List, [], ◌∷◌, map, Option, Some, None, Bool, true, false, nat_le, refl, ap, subst, arith}
use Rattle.sky_base.specs.Val.{call, out, input, known}
use Rattle.sky_base.specs.Tree.{nowhere}
use Rattle.sky_base.specs.Res.{bodies}
use Rattle.sky_base.specs.Eval.{outputs}
use Rattle.sky_base.specs.Read.{Halt, halt}
use Rattle.sky_base.specs.See.{Val, Desc, Job, Around, run_of, world_of, start_st, see, wave}
use Rattle.sky_base.specs.Needed.{Task, wait_at, wave_refs, unless_none, only_if, halt_refs, distinct_refs}
use Rattle.sky_base_law.specs.Tasks.{Apart}
use Rattle.sky_base_law.proofs.CountLaw.{ApartAt, MakesApart, apart_waits, climbs_call}
use Rattle.sky_base_law.proofs.FormsLaw.{Within}
use Rattle.sky_base_law.proofs.Lists.{some_is, none_some}
use Rattle.sky_base_law.proofs.TaskOutputs.{distinct_refs_apart, outputs_apart}

same_all : {A : Type 0} (xs : List A) → xs ≡ map (λ x. x) xs
same_all [] = refl
same_all (x ∷ xs) = ap (λ ys. x ∷ ys) (same_all xs)

module _ (job : Job) (around : Around) where
  makes_apart : MakesApart (world_of job.script around)
  makes_apart x a n = subst Apart (same_all (outputs x a n 0 n)) (outputs_apart x a n n 0)

  unless_apart : (es ds : List Desc) → Apart es → unless_none es ≡ Some ds → Apart ds
  unless_apart [] ds a e = absurd (none_some ds e)
  unless_apart (x ∷ es) ds a e = subst Apart (some_is _ ds e) a

  wave_apart : (b : Bool) (x : Option Val) (ds : List Desc) → only_if b (wave_refs x) ≡ Some ds → Apart ds
  wave_apart false x ds e = absurd (none_some ds e)
  wave_apart true None ds e = absurd (none_some ds e)
  wave_apart true (Some a) ds e = unless_apart (distinct_refs a) ds (distinct_refs_apart a) e

  halt_apart : (n : ℕ) (x : Option (Halt ⊥)) (ds : List Desc) → ApartAt (world_of job.script around) (see job around n) x → halt_refs x ≡ Some ds
      → Apart ds
  halt_apart n None ds a e = absurd (none_some ds e)
  halt_apart n (Some h) ds a e = subst Apart (some_is _ ds e) a

  pub waits_apart : (n : ℕ) (t : Task) (j : ℕ) (ds : List Desc) → wait_at job around n t j ≡ Some ds → Apart ds
  waits_apart n Task.show zero ds e = subst Apart (some_is _ ds e) (λ i. i, tt)
  waits_apart n Task.show (suc j) ds e = wave_apart (nat_le (suc j) 100) (wave job around n (suc j)) ds e
  waits_apart n (Task.of (call f c vs)) zero ds e = subst Apart (some_is _ ds e) tt
  waits_apart n (Task.of (call f c vs)) (suc j) ds e =
      halt_apart n (halt (see job around n) j (run_of job around f c vs)) ds
      (apart_waits (world_of job.script around) (see job around n) makes_apart (run_of job around f c vs) 0 j []
      (climbs_call (world_of job.script around) bodies f c vs nowhere 0 start_st begun)) e
    where
      begun : Within (world_of job.script around) 0 start_st
      begun = (omega arith, omega arith)
  waits_apart n (Task.of (out x a m i)) zero ds e = subst Apart (some_is _ ds e) (distinct_refs_apart a)
  waits_apart n (Task.of (out x a m i)) (suc j) ds e = absurd (none_some ds e)
  waits_apart n (Task.of (input k)) j ds e = absurd (none_some ds e)
  waits_apart n (Task.of (known b)) j ds e = absurd b
