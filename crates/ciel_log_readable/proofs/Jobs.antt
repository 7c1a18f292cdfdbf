-- What is known of the values of a job's run: they are data, the places of faults have 32 bits, and stacks can be read again.
use Rattle.std.proofs.Common.{◌≡◌, ◌≤◌, ◌<◌, ◌^◌, ◌+◌, ℕ, List, length, Bool, true, false, Some, nat_lt}
use Rattle.std.proofs.Common.{refl, sym, subst, arith, ltb-true}
use Rattle.sky_base.specs.KitView.{Gives}
use Rattle.sky_base.specs.Name.{digested, low_desc}
use Rattle.sky_base.specs.Needed as n
use Rattle.sky_base.specs.Res.{Object}
use Rattle.sky_base.specs.See as s
use Rattle.sky_base.specs.Tree.{Script}
use Rattle.sky_base.specs.Val.{Desc, call, input, known, out}
use Rattle.sky_base.specs.declared.fault.Fault.{Fault}
use Rattle.sky_base_law.specs.NamesLaws.{Tag, no_name}
use Rattle.sky_base_law.specs.Sound.{SoundDesc, SoundObject, SoundReads, SoundTask}
use Rattle.sky_base_law.specs.Tasks as t
use Rattle.sky_base_law.specs.Typed.{TypedDesc, TypedJob, TypedObject, TypedTask}
use Rattle.sky_base_law.proofs.SoundJobs.{made_sound, needed_sound, see_sound}
use Rattle.sky_base_law.proofs.SoundLow.{sound_desc_low, sound_low}
use Rattle.sky_base_law.proofs.SoundOps.{caught_kept}
use Rattle.sky_base_law.proofs.TypedJobs.{needed_typed, see_typed, stands_typed}
use Rattle.sky_parse.specs.Source.{IsScript}
use Rattle.sky_parse_places.proofs.Faults.{meant_at, place_within, seen_at}
use Rattle.sky_state.specs.Fits.{Fits}
use Rattle.sky_state.specs.Pending.{stand_wait}
use Rattle.sky_state.specs.Stand.{Stand, low_state}
use Rattle.sky_state.proofs.FitsLaw.{stands_fits}
use Rattle.sky_state.proofs.WaitLaw.{stands_wait_is}
use Rattle.sky_frozen_bytes.specs.Bytes.{frozen_bytes}
use Rattle.sky_frozen_bytes.specs.Codes.{Fits32}
use Rattle.sky_frozen_bytes.specs.Spelled.{StandSpelled}
use Rattle.ciel_journal.specs.Job.{In, IsJob, Job, Needed, Task, WaitOf, made_in}
use Rattle.ciel_journal_job.specs.Real.{back}
use Rattle.ciel_journal_job.proofs.AlikeLaw.{is_one, made_is, needed_to, wait_to}
use Rattle.ciel_journal_job.proofs.RealLaw.{in_from, made_of, real_laws}
use Rattle.ciel_json.specs.Around.{json_around}
use Rattle.ciel_json.proofs.ReadLaw.{json_reads_sound}
use Rattle.ciel_name.specs.Descs.{IsDescData, IsObjectData, KeptDesc}
use Rattle.ciel_name.specs.Spelled.{IsName}
use Rattle.ciel_name_law.specs.Typed.{GivesNames, NamedUseNothing}
use Rattle.ciel_name_law.proofs.JsonTyped.{json_reads_typed}
use Rattle.ciel_name_law.proofs.Lowered.{made_spelled}
use Rattle.ciel_name_law.proofs.Made.{script_uses}
use Rattle.ciel_name_law.proofs.Scripts.{script_typed}
use Rattle.ciel_task_order.specs.Named.{by_names, frozen_mark, mark_of, name_of, object_by_names, shop_job, state_by_names}
use Rattle.ciel_log_readable.specs.Readable.{OfShortBytes}
use Rattle.ciel_log_readable.proofs.Names.{name_given, value_data}
use Rattle.ciel_log_readable.proofs.Nodes.{todo_fits}
use Rattle.ciel_log_read.proofs.Sizes.{Short}
use Rattle.ciel_log_readable.proofs.Stacks.{few_visits, stand_spelled}

-- ---- what a sound description over names keeps

kept_desc : (sc : Script) (d : Desc (List ℕ)) → SoundDesc sc d → KeptDesc d
kept_desc sc (call f c vs) h = (caught_kept f c h.1, h.0)
kept_desc sc (out x v m i) h = h.1
kept_desc sc (input k) h = tt
kept_desc sc (known z) h = tt

-- ---- outputs of a task

only_below : {A : Type 0} (b : Bool) (x y : A) → n.only_if b (Some x) ≡ Some y → (b ≡ true) × (x ≡ y)
only_below true x y e = let same : x ≡ y = cc in (refl, same)
only_below false x y e = absurd cc

-- each output of a sound task is sound, and of a typed one typed
output_sound : (sc : Script) (u : n.Task) → SoundTask sc u → (d : s.Desc) → t.maker d ≡ Some u → SoundDesc sc d
output_sound sc u h (call f c vs) e = let same : n.Task.of (call f c vs) ≡ u = cc in subst (SoundTask sc) (sym same) h
output_sound sc u h (out x v m i) e =
    let at = only_below (nat_lt i m) (n.Task.of (out x v m 0)) u e in
    let own : SoundDesc sc (out x v m 0) = subst (SoundTask sc) (sym at.1) h in
    (own.0, own.1, own.2, ltb-true i m at.0, own.4)
output_sound sc u h (input k) e = absurd cc
output_sound sc u h (known z) e = absurd z

output_typed : (u : n.Task) → TypedTask u → (d : s.Desc) → t.maker d ≡ Some u → TypedDesc d
output_typed u h (call f c vs) e = let same : n.Task.of (call f c vs) ≡ u = cc in subst TypedTask (sym same) h
output_typed u h (out x v m i) e =
    let at = only_below (nat_lt i m) (n.Task.of (out x v m 0)) u e in subst TypedTask (sym at.1) h
output_typed u h (input k) e = absurd cc
output_typed u h (known z) e = absurd z

module _ (digest : List ℕ → List ℕ) (job : s.Job) (gives : Gives) (script : OfShortBytes job) (names : GivesNames (digested digest)) where
  abbrev pub the : Job s.Desc
  the = shop_job digest job gives

  abbrev pub around : s.Around
  around = json_around gives

  abbrev tag : Tag
  tag = digested digest

  pub laws : IsJob the
  laws = real_laws job around (name_of digest) (mark_of digest) (frozen_mark digest)

  reads : SoundReads job.script around
  reads = json_reads_sound job.script gives

  start : TypedJob job around
  start = record { script = script_typed script.0 script.1 job.script script.2; reads = json_reads_typed gives; sound = reads }

  bare : NamedUseNothing job.script.funs
  bare = go script.2
    where
      go : IsScript script.0 script.1 job.script → NamedUseNothing job.script.funs
      go (ts, tops, found, valid, is) = subst (λ (sc : Script). NamedUseNothing sc.funs) (sym is) (script_uses script.1 tops)

  -- ---- names

  pub named : (d : s.Desc) → IsName (known (the.name d))
  named d = name_given tag names d

  -- ---- faults

  few_places : (line col : ℕ) → (line ≤ length script.0 + 1) × (col ≤ length script.0 + 1) → (line < 2 ^ 32) × (col < 2 ^ 32)
  few_places line col h =
      let few = script.3 in
      let a = h.0 in
      let b = h.1 in
      let l : line < 4294967296 = omega (arith, few, a) in
      let c : col < 4294967296 = omega (arith, few, b) in
      (l, c)

  seen_fits : (k : ℕ) (d : s.Desc) (f : Fault) → s.see job around k d ≡ Some (Object.fault f) → (f.line < 2 ^ 32) × (f.col < 2 ^ 32)
  seen_fits k d f e =
      few_places f.line f.col (place_within script.0 (record { line = f.line; col = f.col }) (seen_at script.0 script.1 job around script.2 k d f e))

  pub meant_fits : (f : Fault) → s.Means job around (s.Answered.fault f) → (f.line < 2 ^ 32) × (f.col < 2 ^ 32)
  meant_fits f m =
      few_places f.line f.col (place_within script.0 (record { line = f.line; col = f.col }) (meant_at script.0 script.1 job around script.2 f m))

  -- ---- needed tasks

  module _ (u : Task s.Desc) (need : Needed the u) where
    needed : n.Needed job around (back u)
    needed = needed_to job around (name_of digest) (mark_of digest) (frozen_mark digest) u need

    sound : SoundTask job.script (back u)
    sound = needed_sound job around reads (back u) needed

    typed : TypedTask (back u)
    typed = needed_typed job around start (back u) needed

    -- what it makes
    pub made_data : (k : ℕ) (d : s.Desc) → In d (made_in (the.acts k u)) → IsDescData (by_names digest d)
    made_data k d i =
        let there : t.In d (t.made_in (t.acts_of job around k (back u))) =
        in_from d (t.made_in (t.acts_of job around k (back u))) (subst (In d) (made_is (t.acts_of job around k (back u))) i) in
        record {
          spelled = made_spelled tag names job gives (script.0, script.1, script.2) k (back u) d needed there;
          kept = kept_desc job.script (low_desc no_name tag d) (sound_desc_low no_name tag job.script d
              (made_sound job around reads k (back u) d sound there));
        }

    -- the objects of its outputs
    pub output_data : (d : s.Desc) → In d (the.outputs u) → (k : ℕ) (x : s.Obj) → s.see job around k d ≡ Some x → IsObjectData (object_by_names digest x)
    output_data d i k x e =
        let at : t.maker d ≡ Some (back u) = made_of d u (laws.makes d u i) in
        let is_sound = output_sound job.script (back u) sound d at in
        data_of x e (see_sound job around reads k d x is_sound e)
        (see_typed job around start k d x is_sound (output_typed (back u) typed d at) e)
      where
        data_of : (x : s.Obj) → s.see job around k d ≡ Some x → SoundObject job.script x → TypedObject x → IsObjectData (object_by_names digest x)
        data_of (Object.bytes b) e h i = tt
        data_of (Object.data_of v) e h i = value_data tag names job.script bare v i (sound_low no_name tag job.script v h)
        data_of (Object.fault f) e h i = seen_fits k d f e

    -- ---- its states at waits

    module _ (j : ℕ) (ds : List s.Desc) (wait : WaitOf the u j ds) (a : n.State) (stands : n.StandsAt job around (back u) j a) where
      fits : Fits job.script (low_state tag a)
      fits =
          stands_fits tag job around reads (back u) j a ds sound stands
          (wait_to job around (name_of digest) (mark_of digest) (frozen_mark digest) u
          (is_one job around (name_of digest) (mark_of digest) (frozen_mark digest) u need) j ds wait)

      -- the number of the wait
      pub wait_fits : Fits32 j
      wait_fits =
          subst Fits32 (stands_wait_is job around tag (low_state tag a) (back u) j (a, stands, refl)) (few (low_state tag a) fits)
        where
          few : (q : Stand (List ℕ)) → Fits job.script q → Fits32 (stand_wait q)
          few (Stand.run r) h =
              let waits = h.waits in
              let count : r.count < 4294967296 = few_visits r.count h.count in
              let lt : r.waits < 4294967296 = omega (arith, waits, count) in
              lt
          few (Stand.show_at v w) h = let wave = h.wave in let lt : w < 4294967296 = omega (arith, wave) in lt

      pub stack_spelled : Short (frozen_bytes (state_by_names digest a)) → StandSpelled (state_by_names digest a)
      stack_spelled l =
          stand_spelled tag names job.script bare (todo_fits script.0 script.1 job.script script.2 script.3) a
          (stands_typed job around start (back u) j a needed stands) fits l
