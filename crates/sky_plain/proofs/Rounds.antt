-- From wave to wave, where data is JSON: each value keeps the limits, and all that it refers to becomes known.
use Rattle.std.proofs.Common.{◌≡◌, ◌≢◌, ◌≤◌, ◌<◌, ℕ, suc, ◌+◌, ◌-◌, List, [], ◌∷◌, length, Option, Some, None, Ok, refl, sym, ap, subst, ◌∙◌, arith}
use Rattle.std.proofs.lemmas.List.{length-append}
use Rattle.sky_base.specs.Val.{Val, Vals, Pairs, ref, no_vals, no_pairs, call, out, input, known, refs}
use Rattle.sky_base.specs.KitView.{Gives}
use Rattle.sky_base.specs.Tree.{Script}
use Rattle.sky_base.specs.Res.{Object}
use Rattle.sky_base.specs.See.{Job, Answered, Means, slot}
use Rattle.sky_base_law.specs.Sound.{RefsOver, SoundOver}
use Rattle.sky_base.specs.declared.fault.Fault.{Fault}
use Rattle.sky_base_law.specs.Tasks.{Apart}
use Rattle.ciel_json.specs.Around.{json_around}
use Rattle.ciel_json.proofs.LowLaw.{reads_named, text_named}
use Rattle.ciel_json.proofs.ReadLaw.{reads_sound}
use Rattle.sky_base_known.specs.Data.{data_of}
use Rattle.sky_base_known.specs.Walk.{Obj}
use Rattle.sky_base_known.specs.Walk.{Row, known_of, number_of, most_rows, learn_to}
use Rattle.sky_base_waves.specs.Wave.{Turned, turn_at, last_at}
use Rattle.sky_base_waves.proofs.Sounds.{next_sound}
use Rattle.sky_plain_body.specs.Ran.{Begins}
use Rattle.sky_plain.specs.Stand.{Below, Fits, Standing}
use Rattle.sky_plain.specs.Stage.{Stage, AllKnown}
use Rattle.sky_plain.specs.Whole.{OpensAll}
use Rattle.sky_plain.proofs.Fits.{sound_over}
use Rattle.sky_plain.proofs.Many.{itself}
use Rattle.sky_base_known.proofs.Learn.{full_means}
use Rattle.sky_plain.proofs.Stages.{stage_next, stage_end, stage_last, opens_first}
use Rattle.sky_plain.proofs.Steps.{opens_grow}
use Rattle.sky_plain.proofs.Called.{Writes, in_val}

-- ---- what stands in the place of references refers to what is held

module _ (sc : Script) (rows : List Row) (objects : List (Option Obj)) (fits : Fits sc rows objects) where
  read_fine : (b : List ℕ) (v : Val (List ℕ)) → data_of b ≡ Ok v → RefsOver (Below (length rows)) sc v
  read_fine b v e = (reads_sound (Below (length rows)) sc b v e).1

  known_fine : (d : Row) (v : Val (List ℕ)) → known_of objects d ≡ Some (Object.data_of v) → RefsOver (Below (length rows)) sc v
  known_fine (known n) v e = (fits.objects_fit (number_of n) (Object.data_of v) e).1
  known_fine (call f c vs) v e = absurd cc
  known_fine (out x a n i) v e = absurd cc
  known_fine (input k) v e = absurd cc

  -- the value at the next wave keeps the limits and refers to what is held
  pub next_fine : (a b : Val (List ℕ)) → SoundOver (Below (length rows)) sc a → turn_at data_of Writes (known_of objects) a ≡ Turned.next b
      → SoundOver (Below (length rows)) sc b
  next_fine a b h e =
      next_sound (Below (length rows)) sc data_of Writes (known_of objects) read_fine known_fine a b h e

-- it does so where more is held
pub fine_more : (sc : Script) (rows after : List Row) (a : Val (List ℕ)) → Begins rows after → SoundOver (Below (length rows)) sc a
    → SoundOver (Below (length after)) sc a
fine_more sc rows after a (more, e) h =
    sound_over sc (Below (length rows)) (Below (length after)) (λ n l. longer n l) a h
  where
    longer : (n : List ℕ) → number_of n < length rows → number_of n < length after
    longer n l =
        let all : length after ≡ length rows + length more = ap length e ∙ length-append rows more in
        omega (arith, all, l)

-- the reference to the main call
pub start_fine : (sc : Script) (rows : List Row) → 0 < length rows → SoundOver (Below (length rows)) sc (ref (known (slot 0)))
start_fine sc rows h = (record { deep = omega arith; large = omega arith }, h)

-- ---- the waves

module _ (job : Job) (gives : Gives) where
  -- each reference of the value at a wave may be the first of a chain
  pub opens_all : (rows : List Row) (j k : ℕ) (a : Val (List ℕ)) → j ≤ 100 → Stage job (json_around gives) rows j k a
      → SoundOver (Below (length rows)) job.script a → OpensAll job (json_around gives) rows (refs a)
  opens_all rows j k a le st fine n is =
      let below : number_of n < length rows = in_val job.script (length rows) n a fine.1 is in
      (below, opens_first job (json_around gives) rows j k n a le st is below)

  pub opens_all_grow : (rows after : List Row) (ds : List Row) → Begins rows after → OpensAll job (json_around gives) rows ds
      → OpensAll job (json_around gives) after ds
  opens_all_grow rows after ds (more, e) opens n is =
      let at = opens n is in
      (longer at.0, opens_grow job (json_around gives) rows more after (number_of n ∷ []) e at.1)
    where
      longer : number_of n < length rows → number_of n < length after
      longer l =
          let all : length after ≡ length rows + length more = ap length e ∙ length-append rows more in
          omega (arith, all, l)

  -- waves that are left
  left_is : (j : ℕ) → j ≤ 100 → 101 - j ≡ suc (100 - j)
  left_is j h = omega (arith, h)

  module _ (rows : List Row) (objects : List (Option Obj)) (j : ℕ) (le : j ≤ 100) (a : Val (List ℕ))
      (st : Stage job (json_around gives) rows j (101 - j) a) (standing : Standing job (json_around gives) rows objects)
      (all : AllKnown objects (refs a)) where
    stage_suc : Stage job (json_around gives) rows j (suc (100 - j)) a
    stage_suc = subst (λ k. Stage job (json_around gives) rows j k a) (left_is j le) st

    pub wave_next : (b : Val (List ℕ)) → turn_at data_of Writes (known_of objects) a ≡ Turned.next b
        → Stage job (json_around gives) rows (j + 1) (101 - (j + 1)) b
    wave_next b e =
        let more : suc j ≡ j + 1 = omega arith in
        let fewer : 100 - j ≡ 101 - (j + 1) = omega (arith, le) in
        subst (λ i. Stage job (json_around gives) rows i (101 - (j + 1)) b) more
        (subst (λ k. Stage job (json_around gives) rows (suc j) k b) fewer
        (stage_next job (json_around gives) data_of Writes (λ tag b. reads_named tag b) (λ tag a. text_named tag a) rows j (100 - j) a b
        objects stage_suc standing.knows all e))

    pub wave_ends : (x : Answered) → Apart rows → length rows ≤ most_rows → x ≢ Answered.not_yet → turn_at data_of Writes (known_of objects) a
        ≡ Turned.ends x → Means job (json_around gives) x
    wave_ends x apart room ne e =
        stage_end job (json_around gives) data_of Writes (λ tag b. reads_named tag b) (λ tag a. text_named tag a) rows j (100 - j) a x objects
        (itself job (json_around gives) rows apart room) ne stage_suc standing.knows all e

  pub wave_last : (rows : List Row) (j : ℕ) (a : Val (List ℕ)) (x : Answered) → 100 < j → j ≤ 101
      → Stage job (json_around gives) rows j (101 - j) a → Apart rows → length rows ≤ most_rows → x ≢ Answered.not_yet
      → last_at (refs a) (Writes a) ≡ x → Means job (json_around gives) x
  wave_last rows j a x h l st apart room ne e =
      let none : 101 - j ≡ 0 = omega (arith, h, l) in
      stage_last job (json_around gives) data_of Writes (λ tag b. reads_named tag b) (λ tag a. text_named tag a) rows j a x
      (itself job (json_around gives) rows apart room) ne (subst (λ k. Stage job (json_around gives) rows j k a) none st) e

pub bytes_some : (b : List ℕ) → Answered.bytes b ≢ Answered.not_yet
bytes_some b e = absurd cc

pub fault_some : (f : Fault) → Answered.fault f ≢ Answered.not_yet
fault_some f e = absurd cc

-- ---- the start

start_row : learn_to [] (call [] no_pairs no_vals) ≡ Some (call [] no_pairs no_vals ∷ [])
unfolding most_rows
start_row = refl

rows_is : (a b : List Row) → Some a ≡ Some b → a ≡ b
rows_is a b e = cc

pub main_learned : (rows after : List Row) (f : List ℕ) (ca : Pairs (List ℕ)) (us : Vals (List ℕ)) → rows ≡ [] → f ≡ [] → ca ≡ no_pairs → us
    ≡ no_vals → learn_to rows (call f ca us) ≡ Some after → after ≡ call [] no_pairs no_vals ∷ []
main_learned rows after f ca us p q t r e =
    rows_is after (call [] no_pairs no_vals ∷ [])
    (sym e ∙ ap (λ x. learn_to x (call f ca us)) p ∙ ap (λ x. learn_to [] (call x ca us)) q ∙ ap (λ x. learn_to [] (call [] x us)) t
    ∙ ap (λ x. learn_to [] (call [] no_pairs x)) r ∙ start_row)

pub never_full : (rows : List Row) (d : Row) → rows ≡ [] → learn_to rows d ≡ None → ⊥
never_full rows d p e =
    let many : 65536 ≤ length rows = (full_means rows d e).1 in
    let none : length rows ≡ 0 = ap length p in
    omega (arith, many, none)
