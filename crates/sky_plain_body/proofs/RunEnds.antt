-- How the run of a call ends, from what its body does.
use Rattle.std.proofs.Common.{◌≡◌, ◌≢◌, ℕ, List, Option, Result, Ok, Err, refl, ap, sym, ◌∙◌, subst}
use Rattle.sky_base.specs.Val.{null, known}
use Rattle.sky_base.specs.Tree.{nowhere, Script}
use Rattle.sky_base.specs.Res.{bodies, others, Object, End}
use Rattle.sky_base.specs.Op.{Answer}
use Rattle.sky_base.specs.Eval as run
use Rattle.sky_base.specs.Eval.{World}
use Rattle.sky_base.specs.See.{start_st}
use Rattle.sky_base_law.specs.Tasks.{Apart}
use Rattle.sky_base.specs.declared.fault.Fault.{Fault}
use Rattle.sky_base.specs.View.{view}
use Rattle.sky_base.specs.declared.value.Value.{Value}
use Rattle.sky_base_scope.specs.declared.cut.Cut.{Cut}
use Rattle.sky_base_scope.specs.declared.cut.Flow.{Flow}
use Rattle.sky_base_scope.specs.RunView.{Flows, cut_of}
use Rattle.sky_base_known.specs.Walk.{Row, Stop, Walked, walk, known_of, Numbers}
use Rattle.sky_base_known.specs.Number.{tag_of}
use Rattle.sky_plain_body.specs.Stops.{Runs, EndsAs, WaitsFor, IsFull}
use Rattle.sky_plain_body.specs.Ran.{Begins}
use Rattle.sky_base_scope.specs.Plain as plain
use Rattle.sky_base_scope.specs.Plain.{Val, Vals, Pairs, Vars, Out, Cutoff, Ground}
use Rattle.sky_plain_body.proofs.PlainLaw.{plain_ends, walk_begins, held, Ends}
use Rattle.sky_base_known.proofs.Numbers.{numbers_hold}

most_bodies : bodies ≡ 64
unfolding others
most_bodies = refl

abbrev pub ground : Script → (List ℕ → Answer (List ℕ)) → List (Option (Object (List ℕ))) → Ground
ground script reads objects = record { script = script; reads = reads; objects = objects }

module _ (script : Script) (reads : List ℕ → Answer (List ℕ)) (objects : List (Option (Object (List ℕ)))) (rows : List Row) (f : List ℕ)
    (ca : Pairs) (vs : Vals) where
  ends_so : (w : World (List ℕ)) → w.script ≡ script → w.reads ≡ reads → (o : Out)
      → plain.body_at (ground script reads objects) 64 f ca vs nowhere rows 0 ≡ o → Numbers (held o) w.make
      → Ends o (walk (known_of objects) rows (run.body_at w bodies f ca vs nowhere start_st))
  ends_so w s r o h n =
      let e : plain.body_at (ground script reads objects) bodies f ca vs nowhere rows 0 ≡ o =
      ap (λ m. plain.body_at (ground script reads objects) m f ca vs nowhere rows 0) most_bodies ∙ h in
      subst (λ x. Ends x (walk (known_of objects) rows (run.body_at w bodies f ca vs nowhere start_st))) e
      (plain_ends (ground script reads objects) w s r bodies f ca vs nowhere rows start_st (subst (λ x. Numbers (held x) w.make) (sym e) n))

  -- what the code answered, said of the body
  pub went : (r : Result Flow Cut) (after : List Row) (st : Vars) (m : ℕ) → m ≡ 0
      → Flows r after st (plain.body_at (ground script reads objects) 64 f ca vs nowhere rows m) → r ≡ Ok Flow.Goes
      → plain.body_at (ground script reads objects) 64 f ca vs nowhere rows 0 ≡ Out.goes after st
  went r after st m e h q =
      subst (λ (x : Result Flow Cut). Flows x after st (plain.body_at (ground script reads objects) 64 f ca vs nowhere rows 0)) q
      (subst (λ k. Flows r after st (plain.body_at (ground script reads objects) 64 f ca vs nowhere rows k)) e h)

  pub gave : (r : Result Flow Cut) (after : List Row) (st : Vars) (m : ℕ) (v : Value) → m ≡ 0
      → Flows r after st (plain.body_at (ground script reads objects) 64 f ca vs nowhere rows m) → r ≡ Ok (Flow.Returned v)
      → plain.body_at (ground script reads objects) 64 f ca vs nowhere rows 0 ≡ Out.returned (view v) after st
  gave r after st m v e h q =
      subst (λ (x : Result Flow Cut). Flows x after st (plain.body_at (ground script reads objects) 64 f ca vs nowhere rows 0)) q
      (subst (λ k. Flows r after st (plain.body_at (ground script reads objects) 64 f ca vs nowhere rows k)) e h)

  pub was_cut : (r : Result Flow Cut) (after : List Row) (st : Vars) (m : ℕ) (c : Cut) → c ≢ Cut.Memory → m ≡ 0
      → Flows r after st (plain.body_at (ground script reads objects) 64 f ca vs nowhere rows m) → r ≡ Err c
      → plain.body_at (ground script reads objects) 64 f ca vs nowhere rows 0 ≡ Out.cut (cut_of c) after
  was_cut r after st m c ne e h q =
      subst (λ (x : Result Flow Cut). Flows x after st (plain.body_at (ground script reads objects) 64 f ca vs nowhere rows 0)) q
      (subst (λ k. Flows r after st (plain.body_at (ground script reads objects) 64 f ca vs nowhere rows k)) e h) ne

  pub run_goes : (after : List Row) (st : Vars) → plain.body_at (ground script reads objects) 64 f ca vs nowhere rows 0 ≡ Out.goes after st
      → Runs script reads objects rows f ca vs after (EndsAs (Object.data_of null))
  run_goes after st h = λ w s r n. (Stop.ended End.goes st, ends_so w s r (Out.goes after st) h n, refl)

  pub run_returned : (after : List Row) (st : Vars) (v : Val) → plain.body_at (ground script reads objects) 64 f ca vs nowhere rows 0
      ≡ Out.returned v after st → Runs script reads objects rows f ca vs after (EndsAs (Object.data_of v))
  run_returned after st v h = λ w s r n. (Stop.ended (End.returned v) st, ends_so w s r (Out.returned v after st) h n, refl)

  pub run_fault : (after : List Row) (x : Fault) → plain.body_at (ground script reads objects) 64 f ca vs nowhere rows 0
      ≡ Out.cut (Cutoff.fault x) after → Runs script reads objects rows f ca vs after (EndsAs (Object.fault x))
  run_fault after x h = λ w s r n.
      let e = ends_so w s r (Out.cut (Cutoff.fault x) after) h n in
      (Stop.ended (End.failed x) e.0, e.1, refl)

  pub run_waits : (after : List Row) (n : List ℕ) → plain.body_at (ground script reads objects) 64 f ca vs nowhere rows 0
      ≡ Out.cut (Cutoff.waits (known n)) after → Runs script reads objects rows f ca vs after (WaitsFor n)
  run_waits after n h = λ w s r k. (Stop.waits (known n), ends_so w s r (Out.cut (Cutoff.waits (known n)) after) h k, refl)

  pub run_full : (after : List Row) → plain.body_at (ground script reads objects) 64 f ca vs nowhere rows 0 ≡ Out.cut Cutoff.full after
      → Runs script reads objects rows f ca vs after IsFull
  run_full after h = λ w s r n.
      let e = ends_so w s r (Out.cut Cutoff.full after) h n in
      (Stop.full e.0, e.1, tt)

  -- what is held at the end begins with what was held
  runs_begin : (after : List Row) (S : Stop → Type 0) → Runs script reads objects rows f ca vs after S → Apart after → Begins rows after
  runs_begin after S k a =
      let w : World (List ℕ) = record { make = λ d. known (tag_of after d); reads = reads; script = script } in
      let x = k w refl refl (numbers_hold after a) in
      subst (λ (z : Walked). Begins rows z.rows) x.1 (walk_begins (known_of objects) (run.body_at w bodies f ca vs nowhere start_st) rows)

  pub begins_goes : (after : List Row) (st : Vars) → plain.body_at (ground script reads objects) 64 f ca vs nowhere rows 0 ≡ Out.goes after st
      → Apart after → Begins rows after
  begins_goes after st h = runs_begin after (EndsAs (Object.data_of null)) (run_goes after st h)

  pub begins_returned : (after : List Row) (st : Vars) (v : Val) → plain.body_at (ground script reads objects) 64 f ca vs nowhere rows 0
      ≡ Out.returned v after st → Apart after → Begins rows after
  begins_returned after st v h = runs_begin after (EndsAs (Object.data_of v)) (run_returned after st v h)

  pub begins_fault : (after : List Row) (x : Fault) → plain.body_at (ground script reads objects) 64 f ca vs nowhere rows 0
      ≡ Out.cut (Cutoff.fault x) after → Apart after → Begins rows after
  begins_fault after x h = runs_begin after (EndsAs (Object.fault x)) (run_fault after x h)

  pub begins_waits : (after : List Row) (n : List ℕ) → plain.body_at (ground script reads objects) 64 f ca vs nowhere rows 0
      ≡ Out.cut (Cutoff.waits (known n)) after → Apart after → Begins rows after
  begins_waits after n h = runs_begin after (WaitsFor n) (run_waits after n h)

  pub begins_full : (after : List Row) → plain.body_at (ground script reads objects) 64 f ca vs nowhere rows 0 ≡ Out.cut Cutoff.full after
      → Apart after → Begins rows after
  begins_full after h = runs_begin after IsFull (run_full after h)

pub ruleset run_ends = (run_goes, run_returned, run_fault, run_waits, run_full, begins_goes, begins_returned, begins_fault, begins_waits, begins_full)
