-- After a run, what is referred to is held still.
use Rattle.std.proofs.Common.{◌≡◌, ◌≤◌, ◌<◌, ℕ, zero, ◌+◌, List, ◌++◌, length, Bool, true, false, Option, Some, Ok, Err, ◌⊎◌, inl, inr, nat_lt, refl}
use Rattle.std.proofs.Common.{sym, ap, subst, ◌∙◌, arith, nat_eq, eqb-true, eq-eqb, ltb-true, lt-ltb}
use Rattle.std.proofs.lemmas.List.{length-append}
use Rattle.sky_base.specs.Val.{Val, Vals, Pairs, call, known}
use Rattle.sky_base.specs.Op.{Answer}
use Rattle.sky_base.specs.Tree.{nowhere, Script}
use Rattle.sky_base.specs.Res.{others, bodies, Object, End}
use Rattle.sky_base.specs.Eval.{World, body_at}
use Rattle.sky_base.specs.See.{slot, start_st}
use Rattle.sky_base_law.specs.Tasks.{In, Apart}
use Rattle.sky_base_law.specs.Sound.{DescOver, SoundOver}
use Rattle.sky_base_law.proofs.FineLaw.{Closed, ObjectOk, fine_call}
use Rattle.sky_base_law.proofs.SoundOps.{SoundAnswer, Vars, sound_closed, caught_kept, dict_inside}
use Rattle.sky_base_law.proofs.WrittenLaw.{any_lit, any_made, any_name, written_any}
use Rattle.sky_base_known.specs.Walk.{Row, Stop, stops, walk, known_of, object_at, number_of, Numbers, most_rows}
use Rattle.sky_base_known.specs.Number.{index_of}
use Rattle.sky_plain.specs.Stand.{Puts, Below, RowFits, ObjectFits, Fits, StopFits, ReadFits}
use Rattle.sky_plain_body.specs.Stops.{Runs, EndsAs, WaitsFor}
use Rattle.sky_base_known.proofs.Numbers.{got_below, index_at, number_slot}
use Rattle.sky_base_known.proofs.Learn.{most_is}
use Rattle.sky_plain.proofs.Fits.{desc_over, sound_over, StopOk, WalkOk, walk_ok}

-- a number that is held in any case
abbrev safe_if : Bool → ℕ → ℕ
safe_if true i = i
safe_if false i = zero

abbrev safe : Row → List Row → ℕ
safe d rows = safe_if (nat_lt (index_of d rows) (length rows)) (index_of d rows)

safe_below : (d : Row) (rows : List Row) → 0 < length rows → safe d rows < length rows
safe_below d rows some = go (nat_lt (index_of d rows) (length rows)) refl
  where
    go : (b : Bool) → nat_lt (index_of d rows) (length rows) ≡ b → safe_if b (index_of d rows) < length rows
    go true e = ltb-true (index_of d rows) (length rows) e
    go false e = some

safe_numbers : (rows : List Row) → Apart rows → Numbers rows (λ d. known (slot (safe d rows)))
safe_numbers rows apart k d e = ap (λ i. known (slot i)) is
  where
    at : index_of d rows ≡ k
    at = index_at rows k d apart e

    is : safe d rows ≡ k
    is =
        ap (λ b. safe_if b (index_of d rows)) (ap (λ i. nat_lt i (length rows)) at ∙ lt-ltb k (length rows) (got_below rows k d e)) ∙ at

more_below : (n m : ℕ) → n ≤ m → (b : List ℕ) → Below n b → Below m b
more_below n m le b h = omega (arith, le, h)

object_more : (sc : Script) (n m : ℕ) (o : Object (List ℕ)) → n ≤ m → ObjectFits sc n o → ObjectFits sc m o
object_more sc n m (Object.bytes b) le h = tt
object_more sc n m (Object.data_of v) le h = sound_over sc (Below n) (Below m) (more_below n m le) v h
object_more sc n m (Object.fault f) le h = tt

module _ (sc : Script) (reads : List ℕ → Answer (List ℕ)) (read_fits : (b : List ℕ) → ReadFits sc (reads b)) where
  read_answer : (n : ℕ) (a : Answer (List ℕ)) → ReadFits sc a → SoundAnswer (List ℕ) (Below n) sc a
  read_answer n (Ok v) h = sound_over sc (λ b. ⊥) (Below n) (λ b x. absurd x) v h
  read_answer n (Err k) h = tt

  module _ (rows more after : List Row) (objects : List (Option (Object (List ℕ)))) (fits : Fits sc rows objects) (begins : after ≡ rows ++ more)
      (apart : Apart after) (room : length after ≤ most_rows) (some : 0 < length after) where
    abbrev K : List ℕ → Type 0
    K = Below (length after)

    abbrev P : Val (List ℕ) → Type 0
    P = SoundOver K sc

    abbrev Q : Row → Type 0
    Q = DescOver K sc

    abbrev safe_world : World (List ℕ)
    safe_world = record { make = λ d. known (slot (safe d after)); reads = reads; script = sc }

    longer : length rows ≤ length after
    longer =
        let h : length after ≡ length rows + length more = ap length begins ∙ length-append rows more in
        omega (arith, h)

    abbrev V : Pairs (List ℕ) → Type 0
    V ps = Vars (List ℕ) K sc safe_world ps

    slot_below : (d : Row) → K (slot (safe d after))
    slot_below d =
        let l : safe d after < length after = safe_below d after some in
        let s : length after ≤ 65536 = subst (λ m. length after ≤ m) most_is room in
        let e : number_of (slot (safe d after)) ≡ safe d after = number_slot (safe d after) (omega (arith, l, s)) in
        subst (λ i. i < length after) (sym e) l

    closed : Closed safe_world P Q V any_made any_lit any_name
    closed =
        sound_closed (List ℕ) K sc safe_world (λ f. refl) (λ k. refl) (λ b. read_answer (length after) (reads b) (read_fits b)) (λ d h. slot_below d)

    object_ok : (o : Object (List ℕ)) → ObjectFits sc (length after) o → ObjectOk safe_world P Q o
    object_ok (Object.bytes b) h = tt
    object_ok (Object.data_of v) h = h
    object_ok (Object.fault f) h = tt

    known_ok : (d : Row) (o : Object (List ℕ)) → Q d → known_of objects d ≡ Some o → ObjectOk safe_world P Q o
    known_ok (known b) o q e =
        object_ok o (object_more sc (length rows) (length after) o longer (fits.objects_fit (number_of b) o e))
    known_ok (call f c vs) o q e = absurd cc
    known_ok _ o q e = absurd cc

    stop_fits : (s : Stop) → StopOk safe_world P Q V (known_of objects) known_ok s → StopFits sc (length after) s
    stop_fits (Stop.ended End.goes st) h = closed.null_ok
    stop_fits (Stop.ended (End.got v) st) h = h
    stop_fits (Stop.ended (End.returned v) st) h = h
    stop_fits (Stop.ended (End.failed f) st) h = tt
    stop_fits (Stop.waits d) h = h
    stop_fits (Stop.full d) h = tt

    before_fits : (d : Row) → In d rows → RowFits sc (length after) d
    before_fits d i =
        desc_over sc (Below (length rows)) (Below (length after)) (more_below (length rows) (length after) longer) d (fits.rows_fit d i)

    abbrev Fit : Stop → Type 0
    Fit s = ((d : Row) → In d after → RowFits sc (length after) d) × StopFits sc (length after) s

    ran_fits : (f : List ℕ) (ca : Pairs (List ℕ)) (us : Vals (List ℕ)) (S : Stop → Type 0) → In (call f ca us) rows
        → Runs sc reads objects rows f ca us after S → (s : Stop) × Fit s × S s
    ran_fits f ca us S i run = go (run safe_world refl refl (safe_numbers after apart))
      where
        args : RowFits sc (length after) (call f ca us)
        args = before_fits (call f ca us) i

        either : (d : Row) → In d rows ⊎ Q d → RowFits sc (length after) d
        either d (inl j) = before_fits d j
        either d (inr h) = h

        go : (s : Stop) × (walk (known_of objects) rows (body_at safe_world bodies f ca us nowhere start_st) ≡ stops after s) × S s → (s : Stop)
            × Fit s × S s
        go (s, e, is) = (s, fit, is)
          where
            ok : WalkOk safe_world P Q V (known_of objects) known_ok rows (stops after s)
            ok =
                subst (WalkOk safe_world P Q V (known_of objects) known_ok rows) e
                (walk_ok safe_world P Q V (known_of objects) known_ok (λ d h. h.1) (body_at safe_world bodies f ca us nowhere start_st)
                others rows (fine_call safe_world P Q V any_made any_lit any_name closed (written_any sc) others f ca us nowhere start_st tt
                (dict_inside (List ℕ) K sc ca (caught_kept f ca args.1, args.3)) (closed.inside_ok us (args.0, args.2))))

            fit : Fit s
            fit = (λ d j. either d (ok.rows_ok d j), stop_fits s ok.stop_ok)

    same_objects : (k : ℕ) (o : Object (List ℕ)) → object_at objects k ≡ Some o → ObjectFits sc (length after) o
    same_objects k o e = object_more sc (length rows) (length after) o longer (fits.objects_fit k o e)

    -- where a run waits, what it waits for is held
    pub fits_waiting : (f : List ℕ) (ca : Pairs (List ℕ)) (us : Vals (List ℕ)) (n : List ℕ) → In (call f ca us) rows
        → Runs sc reads objects rows f ca us after (WaitsFor n) → Fits sc after objects × (number_of n < length after)
    fits_waiting f ca us n i run = go (ran_fits f ca us (WaitsFor n) i run)
      where
        go : (s : Stop) × Fit s × WaitsFor n s → Fits sc after objects × (number_of n < length after)
        go (s, h, is) = (record { rows_fit = h.0; objects_fit = same_objects }, below)
          where
            below : Below (length after) n
            below = subst (StopFits sc (length after)) is h.1

    -- where it ends, its object may be kept
    pub fits_learning : (objects' : List (Option (Object (List ℕ)))) (k : ℕ) (f : List ℕ) (ca : Pairs (List ℕ)) (us : Vals (List ℕ))
        (o : Object (List ℕ)) → In (call f ca us) rows → Runs sc reads objects rows f ca us after (EndsAs o) → Puts objects k o objects'
        → Fits sc after objects'
    fits_learning objects' k f ca us o i run puts = go (ran_fits f ca us (EndsAs o) i run)
      where
        some_is : (a b : Object (List ℕ)) → Some a ≡ Some b → a ≡ b
        some_is a b q = cc

        object_fits : (s : Stop) → StopFits sc (length after) s → EndsAs o s → ObjectFits sc (length after) o
        object_fits (Stop.ended e st) h q = subst (ObjectFits sc (length after)) q h
        object_fits (Stop.waits d) h q = absurd q
        object_fits (Stop.full d) h q = absurd q

        go : (s : Stop) × Fit s × EndsAs o s → Fits sc after objects'
        go (s, h, is) = record { rows_fit = h.0; objects_fit = each }
          where
            each : (j : ℕ) (u : Object (List ℕ)) → object_at objects' j ≡ Some u → ObjectFits sc (length after) u
            each j u q = test (nat_eq j k) refl
              where
                test : (b : Bool) → nat_eq j k ≡ b → ObjectFits sc (length after) u
                test true t =
                    subst (ObjectFits sc (length after)) (some_is o u (sym puts.here ∙ ap (object_at objects') (sym (eqb-true j k t)) ∙ q))
                    (object_fits s h.1 is)
                test false t = same_objects j u (sym (puts.there j (λ same. differ same)) ∙ q)
                  where
                    false_true : false ≡ true → ⊥
                    false_true p = absurd cc

                    differ : j ≡ k → ⊥
                    differ same = false_true (sym t ∙ eq-eqb j k same)
