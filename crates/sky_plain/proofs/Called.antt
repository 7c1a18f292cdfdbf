-- A call that is open last, where data is JSON.
use Rattle.std.proofs.Common.{◌≡◌, ◌≤◌, ◌<◌, ℕ, List, [], ◌∷◌, ◌++◌, length, true, Option, Some, None, Ok, Err, slice_get, ◌⊎◌, inl, inr, refl, sym}
use Rattle.std.proofs.Common.{subst}
use Rattle.sky_base.specs.Val.{Val, Vals, Pairs, null, truth, num, text, list, dict, fun, ref, no_vals, val, no_pairs, pair, call, out, input, known}
use Rattle.sky_base.specs.Val.{refs, vals_refs, pairs_refs}
use Rattle.sky_base.specs.KitView.{Gives}
use Rattle.sky_base.specs.Op.{Answer}
use Rattle.sky_base.specs.Tree.{nowhere, Script}
use Rattle.sky_base.specs.Res.{bodies, Object}
use Rattle.sky_base.specs.Eval.{body_at}
use Rattle.sky_base.specs.See.{Job, start_st, input_bytes}
use Rattle.sky_base_law.specs.Sound.{RefsOver, ValsOver, PairsOver, DescOver}
use Rattle.sky_base_law.specs.Tasks.{In, Apart}
use Rattle.ciel_json.specs.Around.{json_around}
use Rattle.sky_base_known.specs.Data.{data_of}
use Rattle.ciel_json.specs.Text.{text_of}
use Rattle.ciel_json.proofs.LowLaw.{reads_named, text_named}
use Rattle.ciel_json.proofs.ReadLaw.{reads_sound}
use Rattle.sky_base_known.specs.Walk.{Row, Stop, stops, walk, known_of, number_of, object_at, is_known, most_rows}
use Rattle.sky_base_known.specs.Known.{with_object}
use Rattle.sky_plain.specs.Needs.{MakesMany}
use Rattle.sky_base_known.specs.Number.{numbered}
use Rattle.sky_plain_body.specs.Ran.{Begins}
use Rattle.sky_plain.specs.Stand.{Below, Fits, ReadFits, Opens, Standing}
use Rattle.sky_plain_body.specs.Stops.{Runs, EndsAs, WaitsFor, IsFull}
use Rattle.sky_plain.specs.Stage.{AllKnown}
use Rattle.sky_base_exec.specs.Perform.{made}
use Rattle.sky_base_exec.specs.Outputs.{OnlyOutputs, KnownOutputs}
use Rattle.sky_plain.proofs.Counts.{puts_with}
use Rattle.sky_plain.proofs.Full.{WaitsAt, walk_waits}
use Rattle.sky_base_known.proofs.Numbers.{numbers_hold, got_in}
use Rattle.sky_plain.proofs.Performs.{opens_out}
use Rattle.sky_plain.proofs.Steps.{standing_ends, standing_waits, standing_many, standing_outputs, standing_input}

pub read_fits : (sc : Script) (b : List ℕ) → ReadFits sc (data_of b)
read_fits sc b = go (data_of b) refl
  where
    go : (a : Answer (List ℕ)) → data_of b ≡ a → ReadFits sc a
    go (Ok v) e = reads_sound (λ n. ⊥) sc b v e
    go (Err k) e = tt

-- what a run waits for isn't known
waits_unknown : (script : Script) (objects : List (Option (Object (List ℕ)))) (rows after : List Row) (f : List ℕ) (ca : Pairs (List ℕ))
    (us : Vals (List ℕ)) (n : List ℕ) → Apart after → Runs script data_of objects rows f ca us after (WaitsFor n)
    → object_at objects (number_of n) ≡ None
waits_unknown script objects rows after f ca us n apart run = go (run (numbered after data_of script) refl refl (numbers_hold after apart))
  where
    go : (s : Stop) × (walk (known_of objects) rows (body_at (numbered after data_of script) bodies f ca us nowhere start_st) ≡ stops after s)
        × WaitsFor n s → object_at objects (number_of n) ≡ None
    go (s, e, is) =
        subst (WaitsAt (known_of objects)) e (walk_waits (known_of objects)
        (body_at (numbered after data_of script) bodies f ca us nowhere start_st) rows) (known n) is

module _ (job : Job) (gives : Gives) (rows after : List Row) (objects : List (Option (Object (List ℕ)))) (k : ℕ) (f : List ℕ)
    (ca : Pairs (List ℕ)) (us : Vals (List ℕ)) (begins : Begins rows after) (apart : Apart after) (room : length after ≤ most_rows)
    (at : slice_get rows k ≡ Some (call f ca us)) (ks : List ℕ) (standing : Standing job (json_around gives) rows objects)
    (opens : Opens job (json_around gives) rows (k ∷ ks)) where
  pub called_ends : (o : Object (List ℕ)) → Runs job.script data_of objects rows f ca us after (EndsAs o)
      → Standing job (json_around gives) after (with_object k o objects)
  called_ends o run =
      standing_ends job (json_around gives) data_of (λ tag b. reads_named tag b) (read_fits job.script) rows begins.0 after objects standing
      begins.1 apart room k f ca us at ks o (with_object k o objects) opens run (puts_with k o objects)

  pub called_waits : (n : List ℕ) → Runs job.script data_of objects rows f ca us after (WaitsFor n)
      → Standing job (json_around gives) after objects × (number_of n < length after)
      × Opens job (json_around gives) after (number_of n ∷ k ∷ ks)
  called_waits n run =
      standing_waits job (json_around gives) data_of (λ tag b. reads_named tag b) (read_fits job.script) rows begins.0 after objects standing
      begins.1 apart room k f ca us at ks n opens run

  pub called_unknown : (n : List ℕ) → Runs job.script data_of objects rows f ca us after (WaitsFor n) → object_at objects (number_of n) ≡ None
  called_unknown n run = waits_unknown job.script objects rows after f ca us n apart run

  pub called_many : Runs job.script data_of objects rows f ca us after IsFull → MakesMany job (json_around gives) 65537
  called_many run =
      standing_many job (json_around gives) data_of (λ tag b. reads_named tag b) (read_fits job.script) rows begins.0 after objects standing
      begins.1 apart room k f ca us at ks opens run

-- ---- rows of executor tasks and of inputs

abbrev pub Writes : Val (List ℕ) → Option (List ℕ)
Writes v = text_of {N = List ℕ} v

module _ (sc : Script) (m : ℕ) (n : List ℕ) where
  either : (ds es : List Row) → In (known n) (ds ++ es) → In (known n) ds ⊎ In (known n) es
  either [] es j = inr j
  either (d ∷ ds) es (inl e) = inl (inl e)
  either (d ∷ ds) es (inr j) = go (either ds es j)
    where
      go : In (known n) ds ⊎ In (known n) es → In (known n) (d ∷ ds) ⊎ In (known n) es
      go (inl h) = inl (inr h)
      go (inr h) = inr h

  by_either : (ds es : List Row) → In (known n) (ds ++ es) → (In (known n) ds → number_of n < m) → (In (known n) es → number_of n < m)
      → number_of n < m
  by_either ds es j f g = go (either ds es j)
    where
      go : In (known n) ds ⊎ In (known n) es → number_of n < m
      go (inl i) = f i
      go (inr i) = g i

  mutual
    pub in_val : (v : Val (List ℕ)) → RefsOver (Below m) sc v → In (known n) (refs v) → number_of n < m
    in_val null h j = absurd j
    in_val (truth b) h j = absurd j
    in_val (num z) h j = absurd j
    in_val (text t) h j = absurd j
    in_val (list vs) h j = in_vals vs h j
    in_val (dict ps) h j = in_pairs ps h j
    in_val (fun f c) h j = in_pairs c h.1 j
    in_val (ref d) h (inl e) = subst (DescOver (Below m) sc) (sym e) h
    in_val (ref d) h (inr j) = absurd j

    in_vals : (vs : Vals (List ℕ)) → ValsOver (Below m) sc vs → In (known n) (vals_refs vs) → number_of n < m
    in_vals no_vals h j = absurd j
    in_vals (val v vs) h j = by_either (refs v) (vals_refs vs) j (λ i. in_val v h.0 i) (λ i. in_vals vs h.1 i)

    in_pairs : (ps : Pairs (List ℕ)) → PairsOver (Below m) sc ps → In (known n) (pairs_refs ps) → number_of n < m
    in_pairs no_pairs h j = absurd j
    in_pairs (pair k v ps) h j = by_either (refs v) (pairs_refs ps) j (λ i. in_val v h.0 i) (λ i. in_pairs ps h.1 i)

fits_number : (sc : Script) (rows : List Row) (objects : List (Option (Object (List ℕ)))) (k : ℕ) (x : List ℕ) (us : Val (List ℕ)) (c i : ℕ)
    (n : List ℕ) → Fits sc rows objects → slice_get rows k ≡ Some (out x us c i) → In (known n) (refs us) → number_of n < length rows
fits_number sc rows objects k x us c i n fits at is =
    in_val sc (length rows) n us (fits.rows_fit (out x us c i) (got_in rows k (out x us c i) at)).2 is

module _ (job : Job) (gives : Gives) (rows : List Row) (objects : List (Option (Object (List ℕ)))) (k : ℕ)
    (standing : Standing job (json_around gives) rows objects) where
  module _ (x : List ℕ) (us : Val (List ℕ)) (c i : ℕ) (at : slice_get rows k ≡ Some (out x us c i)) where
    pub executed_waits : (ks : List ℕ) (n : List ℕ) → Opens job (json_around gives) rows (k ∷ ks) → In (known n) (refs us)
        → (number_of n < length rows) × Opens job (json_around gives) rows (number_of n ∷ k ∷ ks)
    executed_waits ks n opens is =
        let below : number_of n < length rows = fits_number job.script rows objects k x us c i n standing.fits at is in
        (below, opens_out job (json_around gives) rows k ks x us c i n at opens is below)

    -- all its outputs that are held are known then, this one among them
    pub executed_known : (objects' : List (Option (Object (List ℕ)))) → AllKnown objects (refs us)
        → OnlyOutputs rows x us c (made gives Writes (known_of objects) x us c) c objects objects'
        → Standing job (json_around gives) rows objects'
    executed_known objects' all only =
        standing_outputs job (json_around gives) data_of (λ tag b. reads_named tag b) Writes (λ tag a. text_named tag a) rows objects objects'
        standing x us c c all only

    pub executed_here : (objects' : List (Option (Object (List ℕ)))) → KnownOutputs rows x us c c objects' → is_known (object_at objects' k) ≡ true
    executed_here objects' all = all i (standing.fits.rows_fit (out x us c i) (got_in rows k (out x us c i) at)).3 k at

  pub inputs_known : (key : List ℕ) → slice_get rows k ≡ Some (input key)
      → Standing job (json_around gives) rows (with_object k (Object.bytes (input_bytes key job.inputs)) objects)
  inputs_known key at =
      standing_input job (json_around gives) data_of (λ tag b. reads_named tag b) Writes (λ tag a. text_named tag a) rows objects
      (with_object k (Object.bytes (input_bytes key job.inputs)) objects) standing k key at
      (puts_with k (Object.bytes (input_bytes key job.inputs)) objects)
