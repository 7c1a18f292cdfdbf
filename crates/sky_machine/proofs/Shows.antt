-- What the root task comes to, as a step of a task.
use Rattle.std.proofs.Common.{◌≡◌, ◌≢◌, ◌++◌, ℕ, zero, suc, List, [], ◌∷◌, map, Bool, true, false, Option, Some, None, nat_le, refl, sym, ap, ◌∙◌}
use Rattle.std.proofs.Common.{subst, append-nil, inl, inr}
use Rattle.sky_base.specs.Val as v
use Rattle.sky_base.specs.Val.{call, out, input, known, refs, stands_in, unless_in, distinct_from, distinct}
use Rattle.sky_base.specs.Name.{digested, low_desc}
use Rattle.sky_base.specs.Tree.{Script}
use Rattle.sky_base.specs.Res.{Object}
use Rattle.sky_base.specs.Eval.{Body, body_of}
use Rattle.sky_base.specs.Read.{Run, Halt, Act, made, waited, halt, see_all}
use Rattle.sky_base.specs.See.{Val, Vals, Pairs, Desc, Obj, Job, Around, Answered, see, run_of, wave, main_call, job_answer}
use Rattle.sky_base.specs.Needed.{Task, State, WaitOf, wait_at, halt_state, start_frame, wave_state, distinct_refs, wave_refs, unless_none, only_if}
use Rattle.sky_base.specs.View.{view}
use Rattle.sky_base_law.specs.Tasks.{In, Apart, after_wait, made_before, made_between, is_answer, wait_then, waves_from, acts_of, ended}
use Rattle.sky_base_law.specs.NamesLaws.{Tag, no_name, ReadsAlike}
use Rattle.sky_base_law.proofs.ApartLaw.{waits_apart}
use Rattle.sky_base_law.proofs.Lists.{some_is, none_some}
use Rattle.sky_base_law.proofs.TaskOutputs.{apart_refs}
use Rattle.sky_base_known.specs.Data.{data_of}
use Rattle.sky_state.specs.Stand.{Stand, low_state}
use Rattle.sky_state.specs.Stands.{Stands}
use Rattle.sky_base_waves.specs.Seen.{WritesAlike}
use Rattle.sky_machine_show.specs.Shows.{shown_view}
use Rattle.sky_machine_show.specs.Standing as shown
use Rattle.sky_machine_show.specs.declared.show.Came as shows
use Rattle.sky_state_law.specs.Moves as moves
use Rattle.sky_machine_resume.proofs.Later.{no_later}
use Rattle.sky_machine.specs.Steps.{stop_of, Resumed}
use Rattle.sky_machine.specs.declared.step.Step.{Step}

-- ---- the root task makes nothing

abbrev OnlyWaits : List (Act ⊥) → Type 0
OnlyWaits [] = Unit {0}
OnlyWaits (made d ∷ done) = ⊥
OnlyWaits (waited ds ∷ done) = OnlyWaits done

only_made : (done : List (Act ⊥)) → OnlyWaits done → (k : ℕ) → made_before k done ≡ []
only_made [] h zero = refl
only_made [] h (suc k) = refl
only_made (made d ∷ done) h k = absurd h
only_made (waited ds ∷ done) h zero = refl
only_made (waited ds ∷ done) h (suc k) = only_made done h k

only_after : (done : List (Act ⊥)) → OnlyWaits done → (j : ℕ) → OnlyWaits (after_wait j done)
only_after done h zero = h
only_after [] h (suc j) = tt
only_after (made d ∷ done) h (suc j) = absurd h
only_after (waited ds ∷ done) h (suc j) = only_after done h j

then_only : (o : Option (List Desc)) (rest : List (Act ⊥)) → OnlyWaits rest → OnlyWaits (wait_then o rest)
then_only None rest h = tt
then_only (Some ds) rest h = h

waves_only : (job : Job) (around : Around) (n k j : ℕ) → OnlyWaits (waves_from job around n k j)
unfolding waves_from
waves_only job around n zero j = tt
waves_only job around n (suc k) j =
    then_only (wave_refs (wave job around n j)) (waves_from job around n k (suc j)) (waves_only job around n k (suc j))

show_makes : (job : Job) (around : Around) (n j : ℕ) → made_between job around n Task.show j (suc j) ≡ []
show_makes job around n j =
    only_made (after_wait j (acts_of job around n Task.show)) (only_after (acts_of job around n Task.show) (waves_only job around n 100 1) j) _

-- ---- what the root task waits for is distinct

show_once : (job : Job) (around : Around) (n j : ℕ) (ds : List Desc) → wait_at job around n Task.show j ≡ Some ds → distinct (λ a b. true) ds ≡ ds
show_once job around n j ds e = apart_refs ds (waits_apart job around n Task.show j ds e)

-- ---- which states stand for the root task

IsShow : Stand (List ℕ) → Type 0
IsShow (Stand.run r) = ⊥
IsShow (Stand.show_at u w) = Unit {0}

not_run : (tag : Tag) (r : Run ⊥) (a : State) (s : Stand (List ℕ)) → State.run r ≡ a → s ≡ low_state tag a → IsShow s → ⊥
unfolding IsShow
not_run tag r a s e low h = subst IsShow (low ∙ ap (low_state tag) (sym e)) h

not_started : (tag : Tag) (f : List ℕ) (c : Pairs) (vs : Vals) (o : Option Body) (a : State) (s : Stand (List ℕ)) → start_frame f c vs o ≡ Some a
    → s ≡ low_state tag a → IsShow s → ⊥
not_started tag f c vs None a s e low h = none_some a e
not_started tag f c vs (Some b) a s e low h = not_run tag _ a s (some_is _ a e) low h

not_halted : (tag : Tag) (f : List ℕ) (j : ℕ) (x : Option (Halt ⊥)) (a : State) (s : Stand (List ℕ)) → halt_state f j x ≡ Some a → s
    ≡ low_state tag a → IsShow s → ⊥
not_halted tag f j None a s e low h = none_some a e
not_halted tag f j (Some x) a s e low h = not_run tag _ a s (some_is _ a e) low h

is_told : (a : Answered) → a ≢ Answered.not_yet → is_answer a ≡ true
is_told Answered.not_yet ne = absurd (ne refl)
is_told (Answered.bytes b) ne = refl
is_told (Answered.fault f) ne = refl

-- the step of what the root task came to, and the state after it
abbrev pub shows_step : shows.Came → Step
shows_step (shows.Came.Shown s) = Step.Shown s
shows_step (shows.Came.Next u) = Step.Waits

abbrev pub shows_next : v.Val (List ℕ) → ℕ → shows.Came → Stand (List ℕ)
shows_next u w (shows.Came.Shown s) = Stand.show_at u w
shows_next u w (shows.Came.Next x) = Stand.show_at (view x) (suc w)

module _ (digest : List ℕ → List ℕ) (sc : Script) (u : v.Val (List ℕ)) (w : ℕ) (os : List (Object (List ℕ))) (came : shows.Came)
    (goes : shown.GoesOnShown u w os came) where
  abbrev tag : Tag
  tag = digested digest

  module _ (job : Job) (around : Around) (alike : ReadsAlike (digested digest) around data_of) (writes : WritesAlike (digested digest) around) where
    at_wave : (n j : ℕ) (o : shows.Came) → shown.ShownOrStands tag job around n j w o
        → moves.StepsTo tag job around Task.show j (stop_of (shows_step o) (shows_next u w o))
    at_wave n j (shows.Came.Shown s) (is, ne, none) =
        ((n, is, ne), no_later tag job around n Task.show j (ap is_answer is ∙ is_told (shown_view s) ne) none)
    at_wave n j (shows.Came.Next x) (stands, ds, wait) = (stands, (ds, (n, wait)))

    at_show : (j n : ℕ) → Stands job around tag (Stand.show_at u w) Task.show j → moves.Answers tag job around Task.show n j os
        → moves.StepsTo tag job around Task.show j (stop_of (shows_step came) (shows_next u w came))
    at_show j n s a =
        let once = show_once job around n j a.waited a.is_wait in
        let all : see_all (see job around n) a.waited ≡ Some a.objects = ap (see_all (see job around n)) (sym once) ∙ a.seen in
        at_wave n j came (goes tag job around n j a.waited a.objects alike writes s a.is_wait all a.are a.apart)

    steps : (t : Task) (j n : ℕ) → Stands job around tag (Stand.show_at u w) t j → moves.Answers tag job around t n j os
        → moves.StepsTo tag job around t j (stop_of (shows_step came) (shows_next u w came))
    unfolding IsShow
    steps Task.show j n s a = at_show j n s a
    steps (Task.of (call f c vs)) zero n (x, (m, at), low) a = absurd (not_started tag f c vs (body_of f job.script) x (Stand.show_at u w) at low tt)
    steps (Task.of (call f c vs)) (suc j) n (x, (m, at), low) a =
        absurd (not_halted tag f (suc j) (halt (see job around m) j (run_of job around f c vs)) x (Stand.show_at u w) at low tt)
    steps (Task.of (out x y m i)) j n (b, (k, at), low) a = absurd (none_some b at)
    steps (Task.of (input k)) j n (b, (m, at), low) a = absurd (none_some b at)
    steps (Task.of (known b)) j n s a = absurd b

    makes : (t : Task) (j n : ℕ) → Stands job around tag (Stand.show_at u w) t j → moves.Answers tag job around t n j os → []
        ≡ map (low_desc no_name tag) (made_between job around n t j (suc j))
    unfolding IsShow
    makes Task.show j n s a = sym (ap (map (low_desc no_name tag)) (show_makes job around n j))
    makes (Task.of (call f c vs)) zero n (x, (m, at), low) a = absurd (not_started tag f c vs (body_of f job.script) x (Stand.show_at u w) at low tt)
    makes (Task.of (call f c vs)) (suc j) n (x, (m, at), low) a =
        absurd (not_halted tag f (suc j) (halt (see job around m) j (run_of job around f c vs)) x (Stand.show_at u w) at low tt)
    makes (Task.of (out x y m i)) j n (b, (k, at), low) a = absurd (none_some b at)
    makes (Task.of (input k)) j n (b, (m, at), low) a = absurd (none_some b at)
    makes (Task.of (known b)) j n s a = absurd b

  pub show_resumed : Resumed digest sc (Stand.show_at u w) (shows_next u w came) os (shows_step came) [] []
  show_resumed =
      record {
        made = [];
        grew = refl;
        moves = λ job around t is alike
            writes. record {
              steps = λ j n s a. steps job around alike writes t j n s a;
              makes =
                  λ j n s a. makes job around alike writes t j n s a;
            };
      }
