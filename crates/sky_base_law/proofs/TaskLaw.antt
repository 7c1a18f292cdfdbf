-- What a task does from a wait on, over whole descriptions and over names.
use Rattle.std.proofs.Common.{◌≡◌, ℕ, suc, List, map, Option, Some, refl, sym, ap, ◌∙◌, arith}
use Rattle.std.specs.Option.{option_map}
use Rattle.sky_base.specs.Val.{Vals, Pairs, Desc, known}
use Rattle.sky_base.specs.Name.{low_desc}
use Rattle.sky_base.specs.Op.{Answer}
use Rattle.sky_base.specs.Tree.{nowhere}
use Rattle.sky_base.specs.Res.{others, Object, Res, Fin, Tell, Ask}
use Rattle.sky_base.specs.Read.{Halt, refs_of, see_all, segment, outcome, halt, segment_from, first_end, first_halt, rest_of}
use Rattle.sky_base_law.specs.Lower.{lower, low_obj, low_halt, low_stop, named_as, names_world}
use Rattle.sky_base.specs.See.{Job, Around, run_of, world_of, start_st}
use Rattle.sky_base_law.proofs.Low.{tag_low}
use Rattle.sky_base_law.proofs.FormsLaw.{Good, good_task}
use Rattle.sky_base_law.proofs.WaitsLaw.{ends_on, halts_on, makes_on}
use Rattle.sky_base_law.proofs.LowLaw.{Rel, rel_rest}
use Rattle.sky_base_law.proofs.LowStack.{segment_low, first_end_low, first_halt_low}

module _ {N : Type 0} (see : Desc N → Option (Object N)) where
  pub halt_is : (r : Res N) → halt see 0 r ≡ first_halt r
  halt_is (Fin e st) = refl
  halt_is (Tell d r) = halt_is r
  halt_is (Ask w fr st k) = refl

module _ (job : Job) (around : Around) where
  -- a task's run is good, where its body is open and the others may be
  pub task_good : (f : List ℕ) (c : Pairs ⊥) (vs : Vals ⊥) → Good (world_of job.script around) others 0 (run_of job around f c vs)
  task_good f c vs = good_task (world_of job.script around) others f c vs nowhere start_st (omega arith)

  module _ (see : Desc ⊥ → Option (Object ⊥)) (f : List ℕ) (c : Pairs ⊥) (vs : Vals ⊥) (j : ℕ) (h : Halt ⊥) (os : List (Object ⊥))
      (at : halt see j (run_of job around f c vs) ≡ Some h) (seen : see_all see (refs_of h.wait) ≡ Some os) where
    -- the rest of the task from its wait
    abbrev pub onward : Res ⊥
    onward = rest_of (world_of job.script around) others h os

    pub task_ends : outcome see (run_of job around f c vs) ≡ outcome see onward
    task_ends = ends_on (world_of job.script around) others see (run_of job around f c vs) 0 j h os (task_good f c vs) at seen

    pub task_halts : halt see (suc j) (run_of job around f c vs) ≡ first_halt onward
    task_halts =
        halts_on (world_of job.script around) others see (run_of job around f c vs) 0 j h os (task_good f c vs) at seen ∙ halt_is see onward

    pub task_makes : segment_from see (suc j) (run_of job around f c vs) ≡ segment onward
    task_makes = makes_on (world_of job.script around) others see (run_of job around f c vs) 0 j h os (task_good f c vs) at seen

    module _ (tag : Desc (List ℕ) → List ℕ) (read : List ℕ → Answer (List ℕ))
        (reads_alike : (b : List ℕ) → read b ≡ lower {N = ⊥} (λ n. absurd n) tag (around.reads b)) where
      -- the rest of the task over names: from the lowered forms and the lowered objects
      abbrev pub onward_low : Res (List ℕ)
      onward_low =
          rest_of (names_world tag job.script read) others (low_halt (λ n. absurd n) tag h) (map (low_obj (λ n. absurd n) tag) os)

      pub rest_low : Rel (λ n. absurd n) tag onward onward_low
      rest_low =
          rel_rest (λ n. absurd n) tag (world_of job.script around) (named_as tag) read (λ d. ap known (tag_low tag d)) reads_alike others h.wait
          h.forms h.st os

      -- what the step machine is to do where no names clash
      pub resume_halts : first_halt onward_low ≡ option_map (low_halt (λ n. absurd n) tag) (halt see (suc j) (run_of job around f c vs))
      resume_halts = first_halt_low (λ n. absurd n) tag onward onward_low rest_low ∙ ap (option_map (low_halt (λ n. absurd n) tag)) (sym task_halts)

      pub resume_makes : segment onward_low ≡ map (low_desc (λ n. absurd n) tag) (segment_from see (suc j) (run_of job around f c vs))
      resume_makes = segment_low (λ n. absurd n) tag onward onward_low rest_low ∙ ap (map (low_desc (λ n. absurd n) tag)) (sym task_makes)

      pub resume_ends : first_end onward_low ≡ option_map (low_stop (λ n. absurd n) tag) (first_end onward)
      resume_ends = first_end_low (λ n. absurd n) tag onward onward_low rest_low
