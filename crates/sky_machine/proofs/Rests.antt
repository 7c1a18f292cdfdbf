-- A call that goes on from its state comes to what the rest of its run does.
use Rattle.std.proofs.Common.{◌≡◌, ◌≤◌, ◌<◌, ◌++◌, ℕ, zero, suc, List, [], ◌∷◌, map, length, Option, Some, None, refl, sym, ap, ◌∙◌, subst, arith}
use Rattle.std.proofs.Common.{◌⊎◌, inl, inr}
use Rattle.sky_base.specs.Val.{Vals, Pairs, Desc, call, no_vals}
use Rattle.sky_base.specs.Name.{digested}
use Rattle.sky_base.specs.Tree.{Script, nowhere}
use Rattle.sky_base.specs.Res.{others, bodies, Object, Res}
use Rattle.sky_base.specs.Eval.{Body, body_of, body_at}
use Rattle.sky_base.specs.Read.{Halt, Run, halt, run_of_halt, rest_of, segment, first_end}
use Rattle.sky_base.specs.See as see
use Rattle.sky_base.specs.See.{Job, Around, start_st}
use Rattle.sky_base.specs.Needed.{Task, State, halt_state}
use Rattle.sky_base.specs.ObjectView.{object_view}
use Rattle.sky_base.specs.declared.object.Object as rust
use Rattle.sky_base_law.specs.Sound.{SoundDesc, SoundObject}
use Rattle.sky_base_law.specs.Tasks.{Each}
use Rattle.sky_base_law.specs.NamesLaws.{Tag}
use Rattle.sky_base_known.specs.Known.{KeptObject}
use Rattle.sky_state.specs.Fits.{FitsRun}
use Rattle.sky_state.specs.Stand.{Stand, low_state}
use Rattle.sky_state.specs.Stands.{Stands}
use Rattle.sky_state.specs.Start.{StartsIn, StartsCall}
use Rattle.sky_machine_waits.specs.Answers.{AnswersKept}
use Rattle.sky_machine_waits.specs.Sounds.{EndsSound}
use Rattle.sky_machine_waits.proofs.Begin.{start_fits, start_makes}
use Rattle.sky_machine_resume.specs.Comes.{StepsFit, over_names, with_name, LeftAt, object_at, Comes}
use Rattle.sky_machine_resume.specs.Standing.{GoesOnAs, MakesAs}
use Rattle.sky_machine_resume.specs.declared.on.Came.{Came}
use Rattle.sky_machine_resume.proofs.BeginLaw.{starts}
use Rattle.sky_machine.specs.Exactly.{gone_of}
use Rattle.sky_machine.specs.Laws.{Answered, CameTo, Stays}
use Rattle.sky_machine.specs.Rest.{IsWhole, IsLeft, IsRest}
use Rattle.sky_machine.specs.Onward.{IsRead, AnswersSound, ComesOf, MakesOf, GrewSoundly}
use Rattle.sky_machine.proofs.Onward.{steps_fit, sound_world, sound_at, makes_next, stays}
use Rattle.sky_machine.proofs.Starts.{is_start, start_calls}
use Rattle.sky_machine.proofs.InnermostWaits.{stack_left}

pub read_fits : (sc : Script) → IsRead sc → StepsFit sc
read_fits sc (source, keys, is, few) = steps_fit source keys sc is few

-- ---- how many waits there were

pub start_waits : (o : Option Body) (f : List ℕ) (c : Pairs (List ℕ)) (vs : Vals (List ℕ)) (r : Run (List ℕ)) → StartsIn o f c vs (Stand.run r)
    → r.waits ≡ 0
start_waits None f c vs r h = absurd h
start_waits (Some b) f c vs r h = ap gone_of h

halt_waits : (tag : Tag) (f : List ℕ) (j : ℕ) (x : Option (Halt ⊥)) (a : State) (s : Stand (List ℕ)) → halt_state f j x ≡ Some a → s
    ≡ low_state tag a → gone_of s ≡ j
halt_waits tag f j None a s e low = absurd cc
halt_waits tag f j (Some h) a s e low =
    let same : State.run (run_of_halt f j h) ≡ a = cc in
    ap gone_of (low ∙ ap (low_state tag) (sym same))

-- ---- at the start

module _ (digest : List ℕ → List ℕ) (sc : Script) (old new : Run (List ℕ)) (none : old.waits ≡ 0) (answers : List rust.Object) where
  abbrev Whole : List ℕ → Pairs (List ℕ) → Vals (List ℕ) → Res (List ℕ)
  Whole f c vs = body_at (over_names digest sc) bodies f c vs nowhere start_st

  pub begun_comes : (came : Came) → ((f : List ℕ) (c : Pairs (List ℕ)) (vs : Vals (List ℕ)) → StartsCall sc f c vs (Stand.run old)
      → Comes f 0 (Whole f c vs) came new) → ComesOf digest sc old answers came new
  begun_comes came comes f r (inl w) =
      subst (λ j. Comes f j r came new) (sym none) (subst (λ q. Comes f 0 q came new) (sym w.is) (comes f w.caught w.args w.start))
  begun_comes came comes f r (inr l) = absurd (omega (arith, none, l.waits))

  pub begun_makes : (xs ys : List (List ℕ × Desc (List ℕ)))
      → ((f : List ℕ) (c : Pairs (List ℕ)) (vs : Vals (List ℕ)) → StartsCall sc f c vs (Stand.run old) → ys ≡ xs
      ++ map (with_name digest) (segment (Whole f c vs))) → MakesOf digest sc old answers xs ys
  begun_makes xs ys made f r (inl w) = made f w.caught w.args w.start ∙ ap (λ q. xs ++ map (with_name digest) (segment q)) (sym w.is)
  begun_makes xs ys made f r (inr l) = absurd (omega (arith, none, l.waits))

  no_wait : (job : Job) (around : Around) (f : List ℕ) (c : see.Pairs) (vs : see.Vals) (j : ℕ)
      → Stands job around (digested digest) (Stand.run old) (Task.of (call f c vs)) (suc j) → ⊥
  no_wait job around f c vs j (a, (n, is), low) =
      let many : old.waits ≡ suc j = halt_waits (digested digest) f (suc j) (halt (see.see job around n) j (see.run_of job around f c vs)) a
      (Stand.run old) is low in
      omega (arith, none, many)

  pub begun_stands : (came : Came) → GoesOnAs digest 0 sc old [] came new → (j : ℕ) → GoesOnAs digest j sc old answers came new
  begun_stands came g zero = λ job around f c vs n is alike s a. g job around f c vs n is alike s ([], [], refl, refl, refl)
  begun_stands came g (suc j) = λ job around f c vs n is alike s a. absurd (no_wait job around f c vs j s)

  pub begun_makes_as : (xs ys : List (List ℕ × Desc (List ℕ))) → MakesAs digest 0 sc old [] xs ys → (j : ℕ) → MakesAs digest j sc old answers xs ys
  begun_makes_as xs ys g zero = λ job around f c vs n is alike s a. g job around f c vs n is alike s ([], [], refl, refl, refl)
  begun_makes_as xs ys g (suc j) = λ job around f c vs n is alike s a. absurd (no_wait job around f c vs j s)

  pub begun_stays : (came : Came) → FitsRun sc old
      → ((f : List ℕ) (c : Pairs (List ℕ)) (vs : Vals (List ℕ)) → StartsCall sc f c vs (Stand.run old) → Comes f 0 (Whole f c vs) came new)
      → Stays sc came new
  begun_stays came fits comes =
      let s = start_calls sc old (is_start sc old fits none) in
      go s.0 s.1 s.2 came (comes s.0 s.1 no_vals s.2)
    where
      go : (f : List ℕ) (c : Pairs (List ℕ)) → StartsCall sc f c no_vals (Stand.run old) → (o : Came) → Comes f 0 (Whole f c no_vals) o new
          → Stays sc o new
      go f c start (Came.Ended o) (s, is, e) =
          subst (SoundObject sc) (sym e) (sound_at digest sc s.0
          (subst (EndsSound sc) is (start_makes (over_names digest sc) (sound_world digest sc) old fits f c no_vals start).1))
      go f c start Came.Waits (g, is, e) =
          subst (FitsRun sc) (sym e) (start_fits (over_names digest sc) (sound_world digest sc) old fits f c no_vals start g is)

  pub begun_sound : (xs ys : List (List ℕ × Desc (List ℕ))) → FitsRun sc old
      → ((f : List ℕ) (c : Pairs (List ℕ)) (vs : Vals (List ℕ)) → StartsCall sc f c vs (Stand.run old) → ys ≡ xs
      ++ map (with_name digest) (segment (Whole f c vs))) → GrewSoundly digest sc xs ys
  begun_sound xs ys fits made =
      let s = start_calls sc old (is_start sc old fits none) in
      record {
        made = segment (Whole s.0 s.1 no_vals);
        grew = made s.0 s.1 no_vals s.2;
        sound =
            (start_makes (over_names digest sc) (sound_world digest sc) old fits s.0 s.1 no_vals s.2).0;
      }

-- ---- at a wait

pub sound_kept : (sc : Script) (os : List rust.Object) → AnswersSound sc os → AnswersKept os
sound_kept sc [] h = tt
sound_kept sc (o ∷ os) h = (kept (object_view o) h.0, sound_kept sc os h.1)
  where
    kept : (x : Object (List ℕ)) → SoundObject sc x → KeptObject x
    kept (Object.bytes b) h = tt
    kept (Object.data_of v) h = h.0
    kept (Object.fault f) h = tt

module _ (digest : List ℕ → List ℕ) (sc : Script) (old new : Run (List ℕ)) (some : 0 < old.waits) (answers : List rust.Object) where
  abbrev Left : Halt (List ℕ) → Res (List ℕ)
  Left h = rest_of (over_names digest sc) others h (map object_view answers)

  no_start : (f : List ℕ) (c : Pairs (List ℕ)) (vs : Vals (List ℕ)) → StartsCall sc f c vs (Stand.run old) → ⊥
  no_start f c vs h = omega (arith, some, start_waits (body_of f sc) f c vs old h)

  pub left_comes : (came : Came) → ((f : List ℕ) (h : Halt (List ℕ)) → LeftAt sc f h old → Comes f old.waits (Left h) came new)
      → ComesOf digest sc old answers came new
  left_comes came comes f r (inl w) = absurd (no_start f w.caught w.args w.start)
  left_comes came comes f r (inr l) = subst (λ q. Comes f old.waits q came new) (sym l.is) (comes f l.halt l.left)

  pub left_makes : (xs ys : List (List ℕ × Desc (List ℕ)))
      → ((f : List ℕ) (h : Halt (List ℕ)) → LeftAt sc f h old → ys ≡ xs ++ map (with_name digest) (segment (Left h)))
      → MakesOf digest sc old answers xs ys
  left_makes xs ys made f r (inl w) = absurd (no_start f w.caught w.args w.start)
  left_makes xs ys made f r (inr l) = made f l.halt l.left ∙ ap (λ q. xs ++ map (with_name digest) (segment q)) (sym l.is)

  not_first : (job : Job) (around : Around) (f : List ℕ) (c : see.Pairs) (vs : see.Vals)
      → Stands job around (digested digest) (Stand.run old) (Task.of (call f c vs)) 0 → ⊥
  not_first job around f c vs s =
      omega (arith, some, start_waits (body_of f job.script) f _ _ old (starts digest job around f c vs (Stand.run old) s))

  pub left_stands : (came : Came) → ((j : ℕ) → GoesOnAs digest (suc j) sc old answers came new) → (j : ℕ) → GoesOnAs digest j sc old answers came new
  left_stands came g zero = λ job around f c vs n is alike s a. absurd (not_first job around f c vs s)
  left_stands came g (suc j) = g j

  pub left_makes_as : (xs ys : List (List ℕ × Desc (List ℕ))) → ((j : ℕ) → MakesAs digest (suc j) sc old answers xs ys) → (j : ℕ)
      → MakesAs digest j sc old answers xs ys
  left_makes_as xs ys g zero = λ job around f c vs n is alike s a. absurd (not_first job around f c vs s)
  left_makes_as xs ys g (suc j) = g j

  module _ (fits : FitsRun sc old) (objects : AnswersSound sc answers) where
    answered : Answered sc old (map object_view answers)
    answered = record { waits = some; fits = fits; objects = objects }

    pub left_stays : (came : Came) → CameTo digest sc old (map object_view answers) came new → Stays sc came new
    left_stays came comes = stays digest sc old (map object_view answers) answered came new comes

    pub left_sound : (xs ys : List (List ℕ × Desc (List ℕ)))
        → ((f : List ℕ) (h : Halt (List ℕ)) → LeftAt sc f h old → ys ≡ xs ++ map (with_name digest) (segment (Left h)))
        → GrewSoundly digest sc xs ys
    left_sound xs ys made =
        let l = stack_left sc old fits some in
        record { made = segment (Left l.1); grew = made l.0 l.1 l.2; sound = makes_next digest sc old (map object_view answers) answered l.0 l.1 l.2 }

-- ---- there is a rest

pub has_rest : (digest : List ℕ → List ℕ) (sc : Script) (stack : Run (List ℕ)) (os : List (Object (List ℕ))) → FitsRun sc stack → (f : List ℕ)
    × (r : Res (List ℕ)) × IsRest digest sc stack os f r
has_rest digest sc stack os fits = go stack.waits refl
  where
    go : (k : ℕ) → stack.waits ≡ k → (f : List ℕ) × (r : Res (List ℕ)) × IsRest digest sc stack os f r
    go zero e =
        let s = start_calls sc stack (is_start sc stack fits e) in (
          s.0,
          body_at (over_names digest sc) bodies s.0 s.1 no_vals nowhere start_st,
          inl (record { caught = s.1; args = no_vals; start = s.2; is = refl }),
        )
    go (suc k) e =
        let some : 0 < stack.waits = omega (arith, e) in
        let l = stack_left sc stack fits some in
        (l.0, rest_of (over_names digest sc) others l.1 os, inr (record { waits = some; halt = l.1; left = l.2; is = refl }))
