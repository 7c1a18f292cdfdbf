-- The stack of a task at a wait can be read again.
use Rattle.std.proofs.Common.{◌≤◌, ◌<◌, ◌+◌, ◌++◌, ℕ, List, [], ◌∷◌, map, length, arith}
use Rattle.sky_base.specs.Name.{big_endian, bytes, bytes_of_text, low, low_pairs, pairs_bytes}
use Rattle.sky_base.specs.Needed.{State}
use Rattle.sky_base.specs.Read.{Frame, Todo}
use Rattle.sky_base.specs.Res.{visits}
use Rattle.sky_base.specs.Tree.{Script}
use Rattle.sky_base.specs.Val.{Val, Pairs, Rising, no_pairs, pair, pair_count}
use Rattle.sky_base_law.specs.Lower.{low_frame, low_run}
use Rattle.sky_base_law.specs.NamesLaws.{Tag, no_name}
use Rattle.sky_base_law.specs.Sound.{Sound, SoundVars}
use Rattle.sky_base_law.specs.Tasks.{Each}
use Rattle.sky_base_law.specs.Typed.{EachTyped, Typed, TypedFrame, TypedState}
use Rattle.sky_state.specs.Fits.{Fits, FitsFrame, row_of}
use Rattle.sky_state.specs.Stand.{low_state}
use Rattle.sky_state.specs.Table.{IsStep}
use Rattle.sky_frozen_bytes.specs.Bytes.{counted, frame_bytes, frozen_bytes, run_bytes, todo_bytes, vars_bytes}
use Rattle.sky_frozen_bytes.specs.Codes.{Fits32}
use Rattle.sky_frozen_bytes.specs.Spelled.{EachKept, FrameSpelled, StandSpelled, TodoSpelled, VarsSpelled}
use Rattle.ciel_name.specs.Spelled.{IsData, PairsSpelled}
use Rattle.ciel_name_law.specs.Typed.{GivesNames, NamedUseNothing}
use Rattle.ciel_log_readable.proofs.Names.{rising_low, value_data}
use Rattle.ciel_log_read.proofs.Sizes.{Short, back_short, counted_short, front_short, pairs_many, tail_short, value_some}

pub few_visits : (n : ℕ) → n ≤ visits → Fits32 n
unfolding visits
few_visits n h = let l : n ≤ 1000000 = h in let lt : n < 4294967296 = omega (arith, l) in lt

-- each value of the variables keeps the limits
each_kept : (sc : Script) (ps : Pairs (List ℕ)) → SoundVars sc ps → EachKept ps
each_kept sc no_pairs h = tt
each_kept sc (pair k v ps) h = (h.0.0, each_kept sc ps h.1)

todo_some : (t : Todo) → 0 < length (todo_bytes t)
todo_some t = omega arith

frame_some : (f : Frame (List ℕ)) → 0 < length (frame_bytes f)
frame_some f = omega arith

module _ (tag : Tag) (gives : GivesNames tag) (sc : Script) (bare : NamedUseNothing sc.funs)
    (todo_fits : (t : Todo) → IsStep (row_of sc t) → TodoSpelled t) where
  -- ---- the variables

  pairs_spelled : (ps : Pairs ⊥) → EachTyped (λ b. Unit {0}) ps → SoundVars sc (low_pairs no_name tag ps)
      → Short (pairs_bytes (low_pairs no_name tag ps)) → PairsSpelled (low_pairs no_name tag ps)
  pairs_spelled no_pairs t s l = tt
  pairs_spelled (pair k v ps) t s l =
      let key = front_short (bytes_of_text k) (bytes (low no_name tag v) ++ pairs_bytes (low_pairs no_name tag ps)) l in
      let more = back_short (bytes_of_text k) (bytes (low no_name tag v) ++ pairs_bytes (low_pairs no_name tag ps)) l in (
        (t.0, back_short (big_endian 4 (length k)) k key),
        (
          (value_data tag gives sc bare v t.1 s.0).spelled,
          pairs_spelled ps t.2 s.1 (back_short (bytes (low no_name tag v)) (pairs_bytes (low_pairs no_name tag ps)) more),
        ),
      )

  vars_spelled : (ps : Pairs ⊥) → EachTyped (λ b. Unit {0}) ps → Rising ps → SoundVars sc (low_pairs no_name tag ps)
      → Short (vars_bytes (low_pairs no_name tag ps)) → VarsSpelled (low_pairs no_name tag ps)
  vars_spelled ps t r s l =
      let low_ps : Pairs (List ℕ) = low_pairs no_name tag ps in
      let within : length (pairs_bytes low_ps) < 4294967296 = back_short (big_endian 4 (pair_count low_ps)) (pairs_bytes low_ps) l in
      let many = pairs_many low_ps in
      let few : pair_count low_ps < 4294967296 = omega (arith, many, within) in
      (pairs_spelled ps t s within, rising_low tag ps r, few, each_kept sc low_ps s)

  -- ---- the values, and the forms under way

  each_data : (vs : List (Val ⊥)) → Each Typed vs → Each (Sound sc) (map (low no_name tag) vs)
      → Each (λ v. Short (bytes v) → IsData v) (map (low no_name tag) vs)
  each_data [] t s = tt
  each_data (v ∷ vs) t s = (λ l. value_data tag gives sc bare v t.0 s.0, each_data vs t.1 s.1)

  each_todo : (ts : List Todo) → Each (λ t. IsStep (row_of sc t)) ts → Each (λ t. Short (todo_bytes t) → TodoSpelled t) ts
  each_todo [] s = tt
  each_todo (t ∷ ts) s = (λ l. todo_fits t s.0, each_todo ts s.1)

  -- ---- frames

  frame_spelled : (f : Frame ⊥) → TypedFrame f → FitsFrame sc (low_frame no_name tag f) → Short (frame_bytes (low_frame no_name tag f))
      → FrameSpelled (low_frame no_name tag f)
  frame_spelled f t s l =
      let vars : Pairs (List ℕ) = low_pairs no_name tag f.vars in
      let stack : List (Val (List ℕ)) = map (low no_name tag) f.stack in
      let lists : List ℕ = counted bytes stack ++ counted todo_bytes f.todo in
      let fun = front_short (bytes_of_text f.fun) (vars_bytes vars ++ lists) l in
      let behind = back_short (bytes_of_text f.fun) (vars_bytes vars ++ lists) l in
      let both = back_short (vars_bytes vars) lists behind in (
        (t.0, back_short (big_endian 4 (length f.fun)) f.fun fun),
        (
          vars_spelled f.vars t.1.0 t.1.1 s.vars (front_short (vars_bytes vars) lists behind),
          (
            counted_short bytes IsData value_some stack (each_data f.stack t.2 s.values)
                (front_short (counted bytes stack) (counted todo_bytes f.todo) both),
            counted_short todo_bytes TodoSpelled todo_some f.todo (each_todo f.todo s.steps)
                (back_short (counted bytes stack) (counted todo_bytes f.todo) both),
          ),
        ),
      )

  each_frame : (fs : List (Frame ⊥)) → Each TypedFrame fs → Each (FitsFrame sc) (map (low_frame no_name tag) fs)
      → Each (λ f. Short (frame_bytes f) → FrameSpelled f) (map (low_frame no_name tag) fs)
  each_frame [] t s = tt
  each_frame (f ∷ fs) t s = (λ l. frame_spelled f t.0 s.0 l, each_frame fs t.1 s.1)

  -- ---- states

  pub stand_spelled : (a : State) → TypedState a → Fits sc (low_state tag a) → Short (frozen_bytes (low_state tag a)) → StandSpelled (low_state tag a)
  stand_spelled (State.run r) t s l =
      let frames : List (Frame (List ℕ)) = map (low_frame no_name tag) r.frames in
      let all = tail_short 0 (run_bytes (low_run no_name tag r)) (tail_short 1 (0 ∷ run_bytes (low_run no_name tag r))
      (tail_short 75 (1 ∷ 0 ∷ run_bytes (low_run no_name tag r)) l)) in
      let behind = back_short (big_endian 4 r.count) (big_endian 4 r.waits ++ counted frame_bytes frames) all in
      let waits = s.waits in
      let count : r.count < 4294967296 = few_visits r.count s.count in
      let few : r.waits < 4294967296 = omega (arith, waits, count) in (
        count,
        (
          few,
          counted_short frame_bytes FrameSpelled frame_some frames (each_frame r.frames t s.frames)
              (back_short (big_endian 4 r.waits) (counted frame_bytes frames) behind),
        ),
      )
  stand_spelled (State.show_at v w) t s l =
      let wave = s.wave in
      let few : w < 4294967296 = omega (arith, wave) in
      (few, value_data tag gives sc bare v t s.value)
