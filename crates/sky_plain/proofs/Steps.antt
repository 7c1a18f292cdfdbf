-- What stands of a sequential run, step by step.
use Rattle.std.proofs.Common.{◌≡◌, ◌≤◌, ◌<◌, ℕ, zero, suc, ◌+◌, List, [], ◌∷◌, ◌++◌, length, Option, Some, None, Result, Ok, Err, slice_get, ◌⊎◌, inl}
use Rattle.std.proofs.Common.{inr, refl, sym, ap, subst, ◌∙◌, arith}
use Rattle.std.proofs.lemmas.List.{length-append}
use Rattle.sky_base.specs.Val as v
use Rattle.sky_base.specs.Val.{Vals, Pairs, no_vals, no_pairs, call, out, input, known, refs}
use Rattle.sky_base.specs.Name.{low, low_desc}
use Rattle.sky_base.specs.Op.{Answer}
use Rattle.sky_base.specs.Res.{Object}
use Rattle.sky_base_law.specs.Lower.{lower, low_ref}
use Rattle.sky_base.specs.See.{Val, Desc, Job, Around, main_call, input_bytes}
use Rattle.sky_base_law.specs.Tasks.{In, Apart}
use Rattle.sky_base_known.specs.Walk.{Row, known_of, number_of, object_at, learn_to, most_rows}
use Rattle.sky_base_known.specs.Number.{tag_of}
use Rattle.sky_plain.specs.Needs.{Makes, MakesMany, Chain}
use Rattle.sky_plain.specs.Stand.{spell, Puts, ReadFits, RowFits, ObjectFits, Fits, Knows, Opened, Opens, Made, Standing}
use Rattle.sky_plain_body.specs.Stops.{Runs, EndsAs, WaitsFor, IsFull}
use Rattle.sky_plain.specs.Stage.{AllKnown}
use Rattle.sky_base_exec.specs.Perform.{output_at, output_of, made}
use Rattle.sky_base_exec.specs.Outputs.{OnlyOutputs}
use Rattle.sky_base_exec.proofs.Withs.{nat_same}
use Rattle.sky_base.specs.declared.fault.Fault.{Fault}
use Rattle.sky_base_known.proofs.Numbers.{got_in, got_more}
use Rattle.sky_plain.proofs.Knows.{learns_call, grown_back}
use Rattle.sky_plain.proofs.Holds.{fits_waiting, fits_learning}
use Rattle.sky_plain.proofs.Chains.{chain_of, opens_more, made_more, made_last}
use Rattle.sky_plain.proofs.Many.{itself, makes_many}
use Rattle.sky_plain.proofs.Performs.{learns_outputs, learns_input}

module _ (job : Job) (around : Around) where
  -- a chain stays one where more is held
  pub opens_grow : (rows more after : List Row) (ks : List ℕ) → after ≡ rows ++ more → Opens job around rows ks → Opens job around after ks
  opens_grow rows more after ks e opens later g = opens later (grown_back rows more after later e g)

  -- and without its last
  pub opens_rest : (rows : List Row) (k l : ℕ) (ks : List ℕ) → Opens job around rows (k ∷ l ∷ ks) → Opens job around rows (l ∷ ks)
  opens_rest rows k l ks opens later g = go (opens later g)
    where
      go : (d : Desc) × Opened job around later (k ∷ l ∷ ks) d → (d : Desc) × Opened job around later (l ∷ ks) d
      go (d, (at, (e, t, rest, task, wait))) = (e, rest)

  -- open descriptions are a chain of the job
  pub opens_chain : (rows : List Row) (ks : List ℕ) → Apart rows → length rows ≤ most_rows → Opens job around rows ks → (d : Desc)
      × Chain job around (length ks) d
  opens_chain rows ks apart room opens = go (opens rows (itself job around rows apart room))
    where
      go : (d : Desc) × Opened job around rows ks d → (d : Desc) × Chain job around (length ks) d
      go (d, od) = (d, chain_of job around rows ks d od)

  -- at first the main call alone is held
  pub standing_start : Standing job around (call [] no_pairs no_vals ∷ []) []
  standing_start =
      record {
        knows = λ later g. (0, λ d o e. absurd (nothing (low_ref spell (tag_of later) d) o e));
        fits = record { rows_fit = main_fits; objects_fit = λ k o e. absurd cc };
        made = main_made;
        main_is = refl;
      }
    where
      nothing : (d : Row) (o : Object (List ℕ)) → known_of [] d ≡ Some o → ⊥
      nothing (call f c vs) o e = absurd cc
      nothing (out x a n i) o e = absurd cc
      nothing (input k) o e = absurd cc
      nothing (known n) o e = absurd cc

      main_fits : (d : Row) → In d (call [] no_pairs no_vals ∷ []) → RowFits job.script 1 d
      main_fits d (inl e) =
          subst (λ x. RowFits job.script 1 x) (sym e) (
            record { deep = omega arith; large = omega arith },
            record { deep = omega arith; large = omega arith },
            tt,
            tt,
            inl (refl, refl, refl),
          )
      main_fits d (inr i) = absurd i

      main_made : Made job around (call [] no_pairs no_vals ∷ [])
      main_made later g d (inl e) = (main_call, inl refl, sym e)
      main_made later g d (inr i) = absurd i

  module _ (reads : List ℕ → Answer (List ℕ)) (alike : (tag : Row → List ℕ) (b : List ℕ) → reads b ≡ lower {N = ⊥} spell tag (around.reads b))
      (read_fits : (b : List ℕ) → ReadFits job.script (reads b)) (rows more after : List Row) (objects : List (Option (Object (List ℕ))))
      (standing : Standing job around rows objects) (begins : after ≡ rows ++ more) (apart : Apart after) (room : length after ≤ most_rows)
      (k : ℕ) (f : List ℕ) (ca : Pairs (List ℕ)) (us : Vals (List ℕ)) (at : slice_get rows k ≡ Some (call f ca us)) where
    longer : length rows ≤ length after
    longer =
        let h : length after ≡ length rows + length more = ap length begins ∙ length-append rows more in
        omega (arith, h)

    some : 0 < length after
    some = go rows standing.main_is longer
      where
        go : (rs : List Row) → slice_get rs 0 ≡ Some (call [] no_pairs no_vals) → length rs ≤ length after → 0 < length after
        go [] e l = absurd cc
        go (r ∷ rs) e l = omega (arith, l)

    main_stays : slice_get after 0 ≡ Some (call [] no_pairs no_vals)
    main_stays = subst (λ x. slice_get x 0 ≡ Some (call [] no_pairs no_vals)) (sym begins)
        (got_more rows more 0 (call [] no_pairs no_vals) standing.main_is)

    -- a call that is open last ends
    pub standing_ends : (ks : List ℕ) (o : Object (List ℕ)) (objects' : List (Option (Object (List ℕ)))) → Opens job around rows (k ∷ ks)
        → Runs job.script reads objects rows f ca us after (EndsAs o) → Puts objects k o objects' → Standing job around after objects'
    standing_ends ks o objects' opens run puts =
        record {
          knows = learns_call job around reads alike rows more after objects objects' k f ca us o standing.knows begins
              (subst (λ x. slice_get x k ≡ Some (call f ca us)) (sym begins) (got_more rows more k (call f ca us) at)) run puts;
          fits = fits_learning job.script reads read_fits rows more after objects standing.fits begins apart room some objects' k f ca us o
              (got_in rows k (call f ca us) at) run puts;
          made = made_more job around reads alike rows more after objects standing.knows begins k ks f ca us at opens (EndsAs o) standing.made run;
          main_is = main_stays;
        }

    -- it waits for what isn't known
    pub standing_waits : (ks : List ℕ) (name : List ℕ) → Opens job around rows (k ∷ ks)
        → Runs job.script reads objects rows f ca us after (WaitsFor name) → Standing job around after objects × (number_of name < length after)
        × Opens job around after (number_of name ∷ k ∷ ks)
    standing_waits ks name opens run =
        go (fits_waiting job.script reads read_fits rows more after objects standing.fits begins apart room some f ca us name
        (got_in rows k (call f ca us) at) run)
      where
        go : Fits job.script after objects × (number_of name < length after) → Standing job around after objects
            × (number_of name < length after) × Opens job around after (number_of name ∷ k ∷ ks)
        go (fits, below) = (
          record {
            knows = λ later g. standing.knows later (grown_back rows more after later begins g);
            fits = fits;
            made = made_more job around reads alike rows more after objects standing.knows begins k ks f ca us at opens (WaitsFor name)
                standing.made run;
            main_is = main_stays;
          },
          below,
          opens_more job around reads alike rows more after objects standing.knows begins k ks f ca us at opens name below run,
        )

    -- it makes one description too many
    pub standing_many : (ks : List ℕ) → Opens job around rows (k ∷ ks) → Runs job.script reads objects rows f ca us after IsFull
        → MakesMany job around 65537
    standing_many ks opens run = go (made_last job around reads alike rows more after objects standing.knows begins k ks f ca us at opens
        (itself job around after apart room) run)
      where
        go : (e : Row) × (d : Desc) × (learn_to after e ≡ None) × Makes job around d × (low_desc spell (tag_of after) d ≡ e)
            → MakesMany job around 65537
        go (e, d, none, makes, is) =
            makes_many job around after e apart room none
            (made_more job around reads alike rows more after objects standing.knows begins k ks f ca us at opens IsFull standing.made run)
            (d, makes, is)

  -- ---- rows that no run makes anything of

  abbrev pub NoValue : Object (List ℕ) → Type 0
  NoValue (Object.bytes b) = Unit {0}
  NoValue (Object.data_of a) = ⊥
  NoValue (Object.fault f) = Unit {0}

  no_value_fits : (n : ℕ) (o : Object (List ℕ)) → NoValue o → ObjectFits job.script n o
  no_value_fits n (Object.bytes b) h = tt
  no_value_fits n (Object.data_of a) h = absurd h
  no_value_fits n (Object.fault f) h = tt

  -- what is known besides is no value
  standing_known : (rows : List Row) (objects objects' : List (Option (Object (List ℕ)))) → Standing job around rows objects
      → ((k : ℕ) (u : Object (List ℕ)) → object_at objects' k ≡ Some u → (object_at objects k ≡ Some u) ⊎ NoValue u)
      → Knows job around rows objects' → Standing job around rows objects'
  standing_known rows objects objects' standing from knows =
      record {
        knows = knows;
        fits = record { rows_fit = standing.fits.rows_fit; objects_fit = each };
        made = standing.made;
        main_is =
            standing.main_is;
      }
    where
      each : (j : ℕ) (u : Object (List ℕ)) → object_at objects' j ≡ Some u → ObjectFits job.script (length rows) u
      each j u q = go (from j u q)
        where
          go : (object_at objects j ≡ Some u) ⊎ NoValue u → ObjectFits job.script (length rows) u
          go (inl h) = standing.fits.objects_fit j u h
          go (inr no_value) = no_value_fits (length rows) u no_value

  puts_from : (objects objects' : List (Option (Object (List ℕ)))) (k : ℕ) (o : Object (List ℕ)) → NoValue o → Puts objects k o objects'
      → (j : ℕ) (u : Object (List ℕ)) → object_at objects' j ≡ Some u → (object_at objects j ≡ Some u) ⊎ NoValue u
  puts_from objects objects' k o no_value puts j u e = test (nat_same j k)
    where
      some_is : (a b : Object (List ℕ)) → Some a ≡ Some b → a ≡ b
      some_is a b q = cc

      test : (j ≡ k) ⊎ (j ≡ k → ⊥) → (object_at objects j ≡ Some u) ⊎ NoValue u
      test (inl q) = inr (subst NoValue (some_is o u (sym puts.here ∙ ap (object_at objects') (sym q) ∙ e)) no_value)
      test (inr n) = inl (sym (puts.there j n) ∙ e)

  output_no_value : (bs : List (List ℕ)) (i : ℕ) → NoValue (output_at bs i)
  output_no_value [] i = tt
  output_no_value (b ∷ bs) zero = tt
  output_no_value (b ∷ bs) (suc i) = output_no_value bs i

  made_no_value : (r : Result (List (List ℕ)) Fault) (i : ℕ) → NoValue (output_of r i)
  made_no_value (Ok bs) i = output_no_value bs i
  made_no_value (Err f) i = tt

  module _ (reads : List ℕ → Answer (List ℕ)) (alike : (tag : Row → List ℕ) (b : List ℕ) → reads b ≡ lower {N = ⊥} spell tag (around.reads b))
      (writes : v.Val (List ℕ) → Option (List ℕ)) (writes_alike : (tag : Row → List ℕ) (a : Val) → writes (low spell tag a) ≡ around.writes a)
      (rows : List Row) (objects objects' : List (Option (Object (List ℕ)))) (standing : Standing job around rows objects) where
    -- outputs of an executor task whose inputs are known
    pub standing_outputs : (x : List ℕ) (us : v.Val (List ℕ)) (c l : ℕ) → AllKnown objects (refs us)
        → OnlyOutputs rows x us c (made around.runs writes (known_of objects) x us c) l objects objects' → Standing job around rows objects'
    standing_outputs x us c l all only = standing_known rows objects objects' standing from
        (learns_outputs job around reads alike writes writes_alike rows objects standing.knows objects' x us c l all only)
      where
        from : (k : ℕ) (u : Object (List ℕ)) → object_at objects' k ≡ Some u → (object_at objects k ≡ Some u) ⊎ NoValue u
        from k u e = go (only k u e)
          where
            go : (object_at objects k ≡ Some u) ⊎ ((i : ℕ) × (i < l) × (slice_get rows k ≡ Some (out x us c i))
                × (u ≡ output_of (made around.runs writes (known_of objects) x us c) i)) → (object_at objects k ≡ Some u) ⊎ NoValue u
            go (inl h) = inl h
            go (inr (i, h, at, is)) = inr (subst NoValue (sym is) (made_no_value (made around.runs writes (known_of objects) x us c) i))

    -- an input
    pub standing_input : (k : ℕ) (key : List ℕ) → slice_get rows k ≡ Some (input key)
        → Puts objects k (Object.bytes (input_bytes key job.inputs)) objects' → Standing job around rows objects'
    standing_input k key at puts =
        standing_known rows objects objects' standing (puts_from objects objects' k (Object.bytes (input_bytes key job.inputs)) tt puts)
        (learns_input job around reads alike writes writes_alike rows objects standing.knows objects' k key at puts)
