-- What a call and the root task come to, as a step of a task.
use Rattle.std.proofs.Common.{◌≡◌, ◌<◌, ◌++◌, ℕ, zero, suc, List, [], ◌∷◌, map, true, Option, Some, None, refl, sym, ap, ◌∙◌, subst, arith}
use Rattle.sky_base.specs.Val as v
use Rattle.sky_base.specs.Val.{call, out, input, known, refs, distinct}
use Rattle.std.proofs.lemmas.List.{append_cancel_left}
use Rattle.sky_base.specs.Name.{digested, low_desc}
use Rattle.sky_base.specs.Tree.{Script}
use Rattle.sky_base.specs.Res.{Object}
use Rattle.sky_base.specs.Eval.{body_of, Body}
use Rattle.sky_base.specs.Read.{Run, Halt, halt, run_of_halt}
use Rattle.sky_base.specs.See.{Val, Vals, Pairs, Desc, Job, Around, see, run_of, wave}
use Rattle.sky_base.specs.Needed.{Task, State, WaitOf, halt_state, halt_refs, start_frame, wave_state}
use Rattle.sky_base.specs.ObjectView.{object_view}
use Rattle.sky_base.specs.declared.object.Object as rust
use Rattle.sky_base_law.specs.Lower.{low_run}
use Rattle.sky_base_law.specs.NamesLaws.{Tag, no_name, ReadsAlike}
use Rattle.sky_base_law.specs.Tasks.{made_between}
use Rattle.sky_base_known.specs.Data.{data_of}
use Rattle.sky_state.specs.Stand.{Stand, low_state}
use Rattle.sky_state.specs.Stands.{Stands}
use Rattle.sky_state_law.specs.Moves as moves
use Rattle.sky_state_law.specs.Moves.{HasWait}
use Rattle.sky_machine_resume.specs.Comes.{with_name}
use Rattle.sky_machine_resume.specs.Standing.{AnsweredBy, StandsOn, GoesOnAs, MakesAs}
use Rattle.sky_machine_resume.specs.declared.on.Came.{Came}
use Rattle.sky_machine.specs.Steps.{Spawned, step_of, stop_of, Resumed}
use Rattle.sky_machine.specs.declared.step.Step.{Step}
use Rattle.sky_base_law.proofs.Lists.{none_some}

-- ---- which states stand for calls

IsRun : Stand (List ℕ) → Type 0
IsRun (Stand.run r) = Unit {0}
IsRun (Stand.show_at u w) = ⊥

not_shown : (tag : Tag) (j : ℕ) (x : Option Val) (a : State) (r : Run (List ℕ)) → wave_state j x ≡ Some a → Stand.run r ≡ low_state tag a → ⊥
unfolding IsRun
not_shown tag j None a r e low = none_some a e
not_shown tag j (Some u) a r e low =
    let same : State.show_at u j ≡ a = cc in
    subst IsRun (low ∙ ap (low_state tag) (sym same)) tt

-- a call stands at its wait where there is one
halt_has : (f : List ℕ) (j : ℕ) (x : Option (Halt ⊥)) (a : State) → halt_state f j x ≡ Some a → (ds : List Desc) × (halt_refs x ≡ Some ds)
halt_has f j None a e = absurd (none_some a e)
halt_has f j (Some h) a e = (_, refl)

pub call_waits : (tag : Tag) (job : Job) (around : Around) (s : Stand (List ℕ)) (f : List ℕ) (c : Pairs) (vs : Vals) (j : ℕ)
    → Stands job around tag s (Task.of (call f c vs)) (suc j) → HasWait tag job around (Task.of (call f c vs)) (suc j)
call_waits tag job around s f c vs j (a, (n, is), low) =
    let w = halt_has f (suc j) (halt (see job around n) j (run_of job around f c vs)) a is in
    (w.0, (n, w.1))

-- ---- what was made, told by how what was spawned grew

firsts_of : (digest : List ℕ → List ℕ) (xs : List (v.Desc (List ℕ))) → map (λ (p : List ℕ × v.Desc (List ℕ)). p.1) (map (with_name digest) xs) ≡ xs
firsts_of digest [] = refl
firsts_of digest (x ∷ xs) = ap (λ ys. x ∷ ys) (firsts_of digest xs)

pub same_made : (digest : List ℕ → List ℕ) (before after : Spawned) (xs ys : List (v.Desc (List ℕ))) → after ≡ before
    ++ map (with_name digest) xs → after ≡ before ++ map (with_name digest) ys → xs ≡ ys
same_made digest before after xs ys e g =
    sym (firsts_of digest xs) ∙ ap (map (λ (p : List ℕ × v.Desc (List ℕ)). p.1))
    (append_cancel_left before (map (with_name digest) xs) (map (with_name digest) ys) (sym e ∙ g)) ∙ firsts_of digest ys

-- ---- a call's step

module _ (digest : List ℕ → List ℕ) (sc : Script) (old new : Run (List ℕ)) (answers : List rust.Object) (came : Came) (before after : Spawned)
    (ms : List (v.Desc (List ℕ))) (grew : after ≡ before ++ map (with_name digest) ms)
    (stands : (j : ℕ) → GoesOnAs digest j sc old answers came new) (makes : (j : ℕ) → MakesAs digest j sc old answers before after) where
  abbrev tag : Tag
  tag = digested digest

  module _ (job : Job) (around : Around) (is : job.script ≡ sc) (alike : ReadsAlike (digested digest) around data_of) where
    given : (n : ℕ) (t : Task) (j : ℕ) → moves.Answers tag job around t n j (map object_view answers)
        → AnsweredBy digest job around n t j (map object_view answers)
    given n t j a = (a.waited, a.objects, a.is_wait, a.seen, a.are)

    on_step : (f : List ℕ) (c : Pairs) (vs : Vals) (j : ℕ) (o : Came) → StandsOn digest job around (call f c vs) j o new
        → moves.StepsTo tag job around (Task.of (call f c vs)) j (stop_of (step_of o) (Stand.run new))
    on_step f c vs j (Came.Ended o) h = h
    on_step f c vs j Came.Waits h = (h, call_waits tag job around (Stand.run new) f c vs j h)

    steps : (t : Task) (j n : ℕ) → Stands job around tag (Stand.run old) t j → moves.Answers tag job around t n j (map object_view answers)
        → moves.StepsTo tag job around t j (stop_of (step_of came) (Stand.run new))
    steps Task.show j n (a, (m, at), low) ans = absurd (not_shown tag j (wave job around m j) a old at low)
    steps (Task.of (call f c vs)) j n s ans = on_step f c vs j came (stands j job around f c vs n is alike s (given n (Task.of (call f c vs)) j ans))
    steps (Task.of (out x u m i)) j n (a, (k, at), low) ans = absurd (none_some a at)
    steps (Task.of (input k)) j n (a, (m, at), low) ans = absurd (none_some a at)
    steps (Task.of (known b)) j n s ans = absurd b

    made : (t : Task) (j n : ℕ) → Stands job around tag (Stand.run old) t j → moves.Answers tag job around t n j (map object_view answers) → ms
        ≡ map (low_desc no_name tag) (made_between job around n t j (suc j))
    made Task.show j n (a, (m, at), low) ans = absurd (not_shown tag j (wave job around m j) a old at low)
    made (Task.of (call f c vs)) j n s ans =
        same_made digest before after ms (map (low_desc no_name tag) (made_between job around n (Task.of (call f c vs)) j (suc j))) grew
        (makes j job around f c vs n is alike s (given n (Task.of (call f c vs)) j ans))
    made (Task.of (out x u m i)) j n (a, (k, at), low) ans = absurd (none_some a at)
    made (Task.of (input k)) j n (a, (m, at), low) ans = absurd (none_some a at)
    made (Task.of (known b)) j n s ans = absurd b

  pub call_resumed : Resumed digest sc (Stand.run old) (Stand.run new) (map object_view answers) (step_of came) before after
  call_resumed =
      record {
        made = ms;
        grew = grew;
        moves = λ job around t is alike
            writes. record { steps = λ j n s a. steps job around is alike t j n s a; makes = λ j n s a. made job around is alike t j n s a };
      }
