-- The state that stands for a call at its start is the start of the call over names, and it goes on as the call does.
use Rattle.std.proofs.Common.{◌≡◌, ◌++◌, ℕ, List, [], ◌∷◌, map, is_some, Option, Some, None, refl, sym, ap, ◌∙◌, subst}
use Rattle.std.specs.Option.{option_map}
use Rattle.sky_base.specs.Val as v
use Rattle.sky_base.specs.Val.{call}
use Rattle.sky_base.specs.Name.{digested, low_desc, low_pairs, low_vals}
use Rattle.sky_base.specs.Tree.{Script, nowhere}
use Rattle.sky_base.specs.Res.{bodies, End, St, Res}
use Rattle.sky_base.specs.Eval.{Body, bind, body_of, body_at}
use Rattle.sky_base.specs.Read.{Run, Halt, segment, first_end, first_halt, run_of_halt}
use Rattle.sky_base.specs.See.{Vals, Pairs, Desc, Job, Around, see, run_of, start_st, object_of}
use Rattle.sky_base.specs.Needed.{Task, State, start_frame, halt_state, halt_refs}
use Rattle.sky_base_law.specs.Lower.{low_halt, low_run, low_stop}
use Rattle.sky_base_law.specs.NamesLaws.{no_name, ReadsAlike}
use Rattle.sky_base_law.specs.Tasks.{made_between}
use Rattle.sky_base_law.proofs.LowLaw.{Rel}
use Rattle.sky_base_law.proofs.LowStack.{job_low, stack_low, segment_low, first_end_low, first_halt_low}
use Rattle.sky_base_law.proofs.SeenLaw.{stands_one}
use Rattle.sky_base_law.proofs.TaskLaw.{halt_is}
use Rattle.sky_base_known.specs.Data.{data_of}
use Rattle.sky_state.specs.Stand.{Stand, low_state}
use Rattle.sky_state.specs.Start.{StartsIn, StartsCall, start_in}
use Rattle.sky_state.specs.Stands.{Stands}
use Rattle.sky_state.proofs.FitsLaw.{start_of_call}
use Rattle.sky_machine_resume.specs.Comes.{over_names, with_name, object_at, Comes}
use Rattle.sky_machine_resume.specs.Standing.{StandsOn, GoesOnAs, MakesAs}
use Rattle.sky_machine_resume.specs.declared.on.Came.{Came}
use Rattle.sky_machine_resume.proofs.Later.{no_later}
use Rattle.sky_machine_resume.proofs.StandLaw.{mapped, made_one, end_outcome, end_object, end_no_halt}
use Rattle.sky_base_law.proofs.Lists.{none_some}

module _ (digest : List ℕ → List ℕ) (job : Job) (around : Around) (f : List ℕ) (c : Pairs) (vs : Vals) where
  abbrev caught : v.Pairs (List ℕ)
  caught = low_pairs no_name (digested digest) c

  abbrev args : v.Vals (List ℕ)
  args = low_vals no_name (digested digest) vs

  -- the state at the start is the start over names
  pub starts : (s : Stand (List ℕ)) → Stands job around (digested digest) s (Task.of (call f c vs)) 0 → StartsCall job.script f caught args s
  starts s (a, (n, is), low) = go (body_of f job.script) refl is
    where
      go : (o : Option Body) → body_of f job.script ≡ o → start_frame f c vs o ≡ Some a → StartsIn o f caught args s
      go None e g = absurd (none_some a g)
      go (Some b) e g =
          let begun : StartsCall job.script f caught args (start_in f caught args b) =
          subst (λ o. StartsIn o f caught args (start_in f caught args b)) (sym e) refl in
          let other = start_of_call (digested digest) job around f c vs (start_in f caught args b) begun in
          low ∙ ap (low_state (digested digest)) (stands_one job around (Task.of (call f c vs)) 0 a other.0 (n, is) other.1) ∙ sym other.2

  module _ (alike : ReadsAlike (digested digest) around data_of) where
    abbrev whole : Res (List ℕ)
    whole = body_at (over_names digest job.script) bodies f caught args nowhere start_st

    low : Rel no_name (digested digest) (run_of job around f c vs) whole
    low = job_low job around (digested digest) data_of alike f c vs

    pub begins_on : (came : Came) (new : Run (List ℕ)) → Comes f 0 whole came new → StandsOn digest job around (call f c vs) 0 came new
    unfolding see
    begins_on (Came.Ended o) new (e, is, object) =
        let run = run_of job around f c vs in
        let over = mapped (low_stop no_name (digested digest)) (first_end run) e (sym is ∙ first_end_low no_name (digested digest) run whole low) in
        let x = end_object digest over.0.0 over.0.1 in
        let out : see job around 1 (call f c vs) ≡ Some x.0 = ap object_of (end_outcome (see job around 0) run over.0 over.1) ∙ x.1 in (
          (1, x.0, out, object ∙ ap (λ (y : End (List ℕ) × St (List ℕ)). object_at y.0) over.2 ∙ x.2),
          no_later (digested digest) job around 0 (Task.of (call f c vs)) 0 (ap is_some out)
              (ap halt_refs (end_no_halt run over.0 over.1 (see job around 0) 0)),
        )
    begins_on Came.Waits new (h, is, stack) =
        let next = mapped (low_halt no_name (digested digest)) (first_halt (run_of job around f c vs)) h
        (sym is ∙ first_halt_low no_name (digested digest) (run_of job around f c vs) whole low) in
        let run : new ≡ low_run no_name (digested digest) (run_of_halt f 1 next.0) = stack ∙ ap (λ x. run_of_halt f 1 x) next.2
        ∙ stack_low no_name (digested digest) f 1 next.0 in (
          State.run (run_of_halt f 1 next.0),
          (0, ap (halt_state f 1) (halt_is (see job around 0) (run_of job around f c vs) ∙ next.1)),
          ap Stand.run run,
        )

    pub begin_makes : (n : ℕ) → segment whole ≡ map (low_desc no_name (digested digest)) (made_between job around n (Task.of (call f c vs)) 0 1)
    begin_makes n =
        segment_low no_name (digested digest) (run_of job around f c vs) whole low
        ∙ ap (map (low_desc no_name (digested digest))) (sym (made_one job around n f c vs 0))

-- ---- what is said of all jobs

pub begins_as : (digest : List ℕ → List ℕ) (sc : Script) (old new : Run (List ℕ)) (came : Came)
    → ((f : List ℕ) (c : v.Pairs (List ℕ)) (vs : v.Vals (List ℕ)) → StartsCall sc f c vs (Stand.run old)
    → Comes f 0 (body_at (over_names digest sc) bodies f c vs nowhere start_st) came new) → GoesOnAs digest 0 sc old [] came new
begins_as digest sc old new came comes = λ job around f c vs n is alike s a.
    let tag = digested digest in
    let start = starts digest job around f c vs (Stand.run old) s in
    begins_on digest job around f c vs alike came new
    (subst (λ x. StartsCall x f (low_pairs no_name tag c) (low_vals no_name tag vs) (Stand.run old)
    → Comes f 0 (body_at (over_names digest x) bodies f (low_pairs no_name tag c) (low_vals no_name tag vs) nowhere start_st) came new)
    (sym is) (comes f (low_pairs no_name tag c) (low_vals no_name tag vs)) start)

pub begin_makes_as : (digest : List ℕ → List ℕ) (sc : Script) (stack : Run (List ℕ)) (old new : List (List ℕ × v.Desc (List ℕ)))
    → ((f : List ℕ) (c : v.Pairs (List ℕ)) (vs : v.Vals (List ℕ)) → StartsCall sc f c vs (Stand.run stack) → new ≡ old
    ++ map (with_name digest) (segment (body_at (over_names digest sc) bodies f c vs nowhere start_st))) → MakesAs digest 0 sc stack [] old new
begin_makes_as digest sc stack old new made = λ job around f c vs n is alike s a.
    let tag = digested digest in
    let start = starts digest job around f c vs (Stand.run stack) s in
    subst (λ x. StartsCall x f (low_pairs no_name tag c) (low_vals no_name tag vs) (Stand.run stack) → new ≡ old
    ++ map (with_name digest) (segment (body_at (over_names digest x) bodies f (low_pairs no_name tag c) (low_vals no_name tag vs) nowhere
    start_st))) (sym is) (made f (low_pairs no_name tag c) (low_vals no_name tag vs)) start
    ∙ ap (λ ds. old ++ map (with_name digest) ds) (begin_makes digest job around f c vs alike n)
