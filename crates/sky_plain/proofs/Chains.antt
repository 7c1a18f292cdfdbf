-- Descriptions that are open make a chain of the job, and each that is held is made by a needed task.
use Rattle.std.proofs.Common.{◌≡◌, ◌<◌, ℕ, suc, List, [], ◌∷◌, ◌++◌, length, Option, Some, None, slice_get, ◌⊎◌, inl, inr, refl, sym, ap, subst, ◌∙◌}
use Rattle.sky_base.specs.Val.{Vals, Pairs, call, known}
use Rattle.sky_base.specs.Name.{low_vals, low_pairs, low_desc}
use Rattle.sky_base.specs.Op.{Answer}
use Rattle.sky_base.specs.Res.{Object}
use Rattle.sky_base.specs.Read.{refs_of}
use Rattle.sky_base_law.specs.Lower.{lower, low_ref}
use Rattle.sky_base.specs.See.{Desc, Job, Around, run_of, slot}
use Rattle.sky_base.specs.Needed.{Task, task_of, halt_refs, Needed}
use Rattle.sky_base_law.specs.Tasks.{In}
use Rattle.sky_base_law.proofs.TaskOutputs.{contains_in}
use Rattle.sky_base_known.specs.Walk.{Row, Stop, stops, number_of, learn_to}
use Rattle.sky_base_known.specs.Number.{index_of, tag_of, Grown}
use Rattle.sky_plain.specs.Needs.{Waits, Chain, Makes}
use Rattle.sky_plain.specs.Stand.{spell, KnownAt, Knows, Holds, Opened, Opens, Made}
use Rattle.sky_plain_body.specs.Stops.{Runs, WaitsFor, IsFull}
use Rattle.sky_plain.proofs.Full.{FullAt}
use Rattle.sky_plain.proofs.Sim.{Sim, StopIs, MadeBy}
use Rattle.sky_base_known.proofs.Numbers.{got_more, number_slot}
use Rattle.sky_plain.proofs.Knows.{name_tag, index_most, held_at, grown_back, from_call, ran}

some_is : {A : Type 0} (a b : A) → Some a ≡ Some b → a ≡ b
some_is a b q = cc

module _ (job : Job) (around : Around) where
  -- ---- chains

  pub chain_of : (rows : List Row) (ks : List ℕ) (d : Desc) → Opened job around rows ks d → Chain job around (length ks) d
  chain_of rows [] d h = h
  chain_of rows (k ∷ []) d h = h.1
  chain_of rows (k ∷ l ∷ ks) d (at, (e, t, rest, task, wait)) = (e, t, chain_of rows (l ∷ ks) e rest, task, wait)

  needs : (t u : Task) (d : Desc) → Needed job around t → Waits job around t d → task_of d ≡ Some u → Needed job around u
  needs t u d need (j, ds, wait, is) task = Needed.waited need j ds d wait (contains_in d ds is) task

  -- each task on a chain is needed
  pub chain_needed : (rows : List Row) (ks : List ℕ) (d : Desc) (t : Task) → Opened job around rows ks d → task_of d ≡ Some t → Needed job around t
  chain_needed rows [] d t h task = absurd h
  chain_needed rows (k ∷ []) d t h task = needs Task.show t d Needed.root h.1 task
  chain_needed rows (k ∷ l ∷ ks) d t (at, (e, u, rest, is, wait)) task =
      needs u t d (chain_needed rows (l ∷ ks) e u rest is) wait task

  pub opened_at : (rows : List Row) (k : ℕ) (ks : List ℕ) (d : Desc) → Opened job around rows (k ∷ ks) d → Holds job around rows k d
  opened_at rows k [] d h = h.0
  opened_at rows k (l ∷ ks) d h = h.0

  -- the description of a reference with a number that is held
  pub held_ref : (after later : List Row) (d : Desc) (n : List ℕ) → Grown after later → number_of n < length after
      → low_ref spell (tag_of later) d ≡ known n → Holds job around later (number_of n) d
  held_ref after later d n g below e =
      subst (λ x. slice_get x (number_of n) ≡ Some (low_desc spell (tag_of later) d)) (sym g.begins)
      (got_more after g.more (number_of n) (low_desc spell (tag_of later) d)
      (held_at after later (low_desc spell (tag_of later) d) (number_of n) g index_is below))
    where
      known_is : (a b : List ℕ) → known a ≡ known b → a ≡ b
      known_is a b q = cc

      slots : slot (index_of (low_desc spell (tag_of later) d) later) ≡ n
      slots = known_is _ _ (sym (name_tag (tag_of later) d) ∙ e)

      index_is : index_of (low_desc spell (tag_of later) d) later ≡ number_of n
      index_is =
          sym (number_slot (index_of (low_desc spell (tag_of later) d) later) (index_most (low_desc spell (tag_of later) d) later g.room))
          ∙ ap number_of slots

  module _ (reads : List ℕ → Answer (List ℕ)) (alike : (tag : Row → List ℕ) (b : List ℕ) → reads b ≡ lower {N = ⊥} spell tag (around.reads b))
      (rows more after : List Row) (objects : List (Option (Object (List ℕ)))) (knows : Knows job around rows objects)
      (begins : after ≡ rows ++ more) (k : ℕ) (ks : List ℕ) (f : List ℕ) (ca : Pairs (List ℕ)) (us : Vals (List ℕ))
      (at : slice_get rows k ≡ Some (call f ca us)) (opens : Opens job around rows (k ∷ ks)) where
    -- the call that is open last, and what its run shows
    record Open (later : List Row) (S : Stop → Type 0) : Type 0 where
      n : ℕ
      cs : Pairs ⊥
      vs : Vals ⊥
      s : Stop
      opened : Opened job around later (k ∷ ks) (call f cs vs)
      sim : Sim job around (tag_of later) n (run_of job around f cs vs) rows (stops after s)
      full : FullAt (stops after s)
      is : S s

    open_now : (later : List Row) (S : Stop → Type 0) → Grown after later → Runs job.script reads objects rows f ca us after S → Open later S
    open_now later S g run = go (knows later back) (opens later back)
      where
        back : Grown rows later
        back = grown_back rows more after later begins g

        go : (n : ℕ) × KnownAt job around later objects n → (d : Desc) × Opened job around later (k ∷ ks) d → Open later S
        go (n, kn) (d, od) = of_call (from_call d (tag_of later) f ca us row)
          where
            row : low_desc spell (tag_of later) d ≡ call f ca us
            row =
                some_is _ _ (sym (opened_at later k ks d od)
                ∙ (subst (λ x. slice_get x k ≡ Some (call f ca us)) (sym back.begins) (got_more rows back.more k (call f ca us) at)))

            of_call : (cs : Pairs ⊥) × (vs : Vals ⊥) × (d ≡ call f cs vs) × (low_pairs spell (tag_of later) cs ≡ ca)
                × (low_vals spell (tag_of later) vs ≡ us) → Open later S
            of_call (cs, vs, is, caught, low) = of_run
                (ran job around reads alike rows after later objects n f cs vs S g kn
                (subst (λ us. Runs job.script reads objects rows f (low_pairs spell (tag_of later) cs) us after S) (sym low)
                (subst (λ ca. Runs job.script reads objects rows f ca us after S) (sym caught) run)))
              where
                of_run : (s : Stop) × Sim job around (tag_of later) n (run_of job around f cs vs) rows (stops after s) × FullAt (stops after s)
                    × S s → Open later S
                of_run (s, sim, full, q) =
                    record { n = n; cs = cs; vs = vs; s = s; full = full; opened = subst (Opened job around later (k ∷ ks)) is od; sim = sim; is = q }

    -- what the open call waits for goes on the chain
    pub opens_more : (name : List ℕ) → number_of name < length after → Runs job.script reads objects rows f ca us after (WaitsFor name)
        → Opens job around after (number_of name ∷ k ∷ ks)
    opens_more name below run later g = go (open_now later (WaitsFor name) g run)
      where
        go : Open later (WaitsFor name) → (d : Desc) × Opened job around later (number_of name ∷ k ∷ ks) d
        go o = waits (subst (StopIs job around (tag_of later) o.n (run_of job around f o.cs o.vs)) o.is o.sim.stop_is)
          where
            waits : StopIs job around (tag_of later) o.n (run_of job around f o.cs o.vs) (Stop.waits (known name)) → (d : Desc)
                × Opened job around later (number_of name ∷ k ∷ ks) d
            waits (i, h, d, halts, is, low) = (
              d,
              (
                held_ref after later d name g below low,
                (call f o.cs o.vs, Task.of (call f o.cs o.vs), o.opened, refl, (suc i, refs_of h.wait, (o.n, ap halt_refs halts), is)),
              ),
            )

    -- what the open call makes is made
    pub made_more : (S : Stop → Type 0) → Made job around rows → Runs job.script reads objects rows f ca us after S → Made job around after
    made_more S made run later g e i = go (open_now later S g run)
      where
        go : Open later S → (d : Desc) × Makes job around d × (low_desc spell (tag_of later) d ≡ e)
        go o = either (o.sim.rows_from e i)
          where
            either : In e rows ⊎ MadeBy job around (tag_of later) o.n (run_of job around f o.cs o.vs) e → (d : Desc) × Makes job around d
                × (low_desc spell (tag_of later) d ≡ e)
            either (inl h) = made later (grown_back rows more after later begins g) e h
            either (inr (d, h, l)) = (
              d,
              inr (
                Task.of (call f o.cs o.vs),
                o.n,
                chain_needed later (k ∷ ks) (call f o.cs o.vs) (Task.of (call f o.cs o.vs)) o.opened refl,
                h,
              ),
              l,
            )

    -- and so is the one that is too many
    pub made_last : Grown after after → Runs job.script reads objects rows f ca us after IsFull → (e : Row) × (d : Desc)
        × (learn_to after e ≡ None) × Makes job around d × (low_desc spell (tag_of after) d ≡ e)
    made_last g run = go (open_now after IsFull g run)
      where
        go : Open after IsFull → (e : Row) × (d : Desc) × (learn_to after e ≡ None) × Makes job around d × (low_desc spell (tag_of after) d ≡ e)
        go o = last o.s o.sim.stop_is o.full o.is
          where
            last : (s : Stop) → StopIs job around (tag_of after) o.n (run_of job around f o.cs o.vs) s → FullAt (stops after s) → IsFull s
                → (e : Row) × (d : Desc) × (learn_to after e ≡ None) × Makes job around d × (low_desc spell (tag_of after) d ≡ e)
            last (Stop.ended e st) h full q = absurd q
            last (Stop.waits e) h full q = absurd q
            last (Stop.full e) (d, h, l) full q = (
              e,
              d,
              full e refl,
              inr (
                Task.of (call f o.cs o.vs),
                o.n,
                chain_needed after (k ∷ ks) (call f o.cs o.vs) (Task.of (call f o.cs o.vs)) o.opened refl,
                h,
              ),
              l,
            )
