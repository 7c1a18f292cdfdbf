-- Worked rows: states that fit a script, and states that don't.
use Rattle.std.proofs.Common.{◌≡◌, ℕ, ◌+◌, true, false, List, [], ◌∷◌, map, pos, refl, ap, inl, inr, ◌⊎◌, ◌<◌, ◌≤◌, ◌↔◌, arith}
use Rattle.sky_base.specs.Val.{Val, Pairs, null, num, list, ref, no_vals, val, no_pairs, pair, known}
use Rattle.sky_base.specs.Tree.{Oper, Sign, Form, Exp, Exps, Steps, Stm, Arms, Else, Script}
use Rattle.sky_base.specs.Res.{visits, others, bodies}
use Rattle.sky_base.specs.Read.{Todo, Frame, Run}
use Rattle.sky_base_law.specs.Sound.{Sound}
use Rattle.sky_base_law.specs.Tasks.{In}
use Rattle.sky_base_law.proofs.Rows.{at, n, t, b, name, block, form, op, with_fun, star, squares_row, waiting_exec_row}
use Rattle.sky_state.specs.Table.{part, pending, no_step, IsWaiting}
use Rattle.sky_state.specs.Table as table
use Rattle.sky_state.specs.Fits.{row_of, FitsFrame, FitsRun, IsStart, Last, Fits}
use Rattle.sky_state.specs.Stand.{Stand}
use Rattle.sky_base.specs.Eval.{is_one_of}

abbrev V : Type 0
V = Val (List ℕ)

abbrev todo : ℕ → ℕ → Todo
todo i k = record { node = i; step = k }

abbrev at_name : ℕ → V
at_name a = ref (known (a ∷ []))

abbrev x : List ℕ
x = 120 ∷ []

-- `a = spawn(f, [3]); b = spawn(f, [4]); return *a + *b;`
abbrev squares : Script
squares = squares_row.script

-- the rows of its nodes
squares_block : map (row_of squares) (todo 0 0 ∷ todo 0 1 ∷ todo 0 2 ∷ todo 0 3 ∷ todo 0 4 ∷ []) ≡ part 0 [] ∷ pending 0 1 ∷ pending 0 6
    ∷ pending 0 11 ∷ no_step ∷ []
squares_block = refl

squares_statements : map (row_of squares) (todo 1 0 ∷ todo 1 1 ∷ todo 1 2 ∷ todo 11 1 ∷ []) ≡ no_step ∷ pending 0 2 ∷ no_step ∷ pending 0 12 ∷ []
squares_statements = refl

-- `spawn(f, [3])`, a name, the sum and `*a`
squares_parts : map (row_of squares) (todo 2 1 ∷ todo 2 2 ∷ todo 2 3 ∷ todo 3 1 ∷ todo 12 1 ∷ todo 12 2 ∷ todo 12 3 ∷ todo 13 1 ∷ todo 13 2
    ∷ todo 13 3 ∷ []) ≡ pending 0 3 ∷ pending 1 4 ∷ no_step ∷ no_step ∷ pending 0 13 ∷ pending 1 15 ∷ no_step ∷ pending 0 14 ∷ table.star
    ∷ no_step ∷ []
squares_parts = refl

abbrev f : List ℕ
f = 102 ∷ []

abbrev one_two : V
one_two = list (val (num (pos 1)) (val (num (pos 2)) no_vals))

module _ (sc : Script) where
  name_ok : (a : ℕ) → Sound sc (at_name a)
  name_ok a = (record { deep = omega arith; large = omega arith }, tt)

  num_ok : (k : ℕ) → Sound {N = List ℕ} sc (num (pos k))
  num_ok k = (record { deep = omega arith; large = omega arith }, tt)

  nums_ok : Sound sc one_two
  nums_ok = (record { deep = omega arith; large = omega arith }, (tt, (tt, tt)))

  refs_ok : (a : ℕ) → Sound sc (list (val (at_name a) no_vals))
  refs_ok a = (record { deep = omega arith; large = omega arith }, (tt, tt))

below_visits : {k : ℕ} → k < 100 → k ≤ visits
unfolding visits
below_visits h = omega (arith, h)

below_bodies : {k : ℕ} → k < 10 → k ≤ bodies
unfolding others
below_bodies h = omega (arith, h)

-- after a wait a state is no start
after_wait : (sc : Script) (r : Run (List ℕ)) → 0 < r.waits → (0 < r.waits) ↔ (IsStart sc r → ⊥)
after_wait sc r h = (λ _ s. absurd (omega (arith, s.waits, h)), λ _. h)

-- its first wait, for `*a`
abbrev squares_one_frame0 : Frame (List ℕ)
squares_one_frame0 = record {
  fun = [];
  vars = (pair (97 ∷ []) (at_name 65) (pair (98 ∷ []) (at_name 66) no_pairs));
  stack = at_name 65 ∷ [];
  todo = todo 0 3 ∷ todo 11 1 ∷ todo 12 1 ∷ todo 13 2 ∷ [];
}

abbrev squares_one : Run (List ℕ)
squares_one = record { frames = squares_one_frame0 ∷ []; count = 13; waits = 1 }

squares_one_fits0 : FitsFrame squares squares_one_frame0
squares_one_fits0 =
    record {
      bottom = refl;
      steps = (tt, (tt, (tt, (tt, tt))));
      parts = (inl refl, (inl refl, (inl refl, tt)));
      as_many = refl;
      kinds =
          (tt, (tt, (tt, (tt, tt))));
      taken = (tt, (tt, (tt, (tt, tt))));
      vars = ((name_ok squares 65), ((name_ok squares 66), tt));
      values =
          ((name_ok squares 65), tt);
    }

squares_one_fits : FitsRun squares squares_one
squares_one_fits =
    record {
      some_frame = omega arith;
      few_frames = below_bodies (omega arith);
      count = below_visits (omega arith);
      waits = omega arith;
      functions = (inl refl, tt);
      frames = (squares_one_fits0, tt);
      calls = tt;
      top = inl tt;
      started =
          after_wait squares squares_one (omega arith);
    }

-- its second wait, for `*b`: the sum keeps 9
abbrev squares_two_frame0 : Frame (List ℕ)
squares_two_frame0 = record {
  fun = [];
  vars = (pair (97 ∷ []) (at_name 65) (pair (98 ∷ []) (at_name 66) no_pairs));
  stack = (num (pos 9))
      ∷ at_name 66 ∷ [];
  todo = todo 0 3 ∷ todo 11 1 ∷ todo 12 2 ∷ todo 15 2 ∷ [];
}

abbrev squares_two : Run (List ℕ)
squares_two = record { frames = squares_two_frame0 ∷ []; count = 15; waits = 2 }

squares_two_fits0 : FitsFrame squares squares_two_frame0
squares_two_fits0 =
    record {
      bottom = refl;
      steps = (tt, (tt, (tt, (tt, tt))));
      parts = (inl refl, (inl refl, (inl refl, tt)));
      as_many = refl;
      kinds =
          (tt, (tt, (tt, (tt, tt))));
      taken = (tt, (tt, (tt, (tt, tt))));
      vars = ((name_ok squares 65), ((name_ok squares 66), tt));
      values =
          ((num_ok squares 9), ((name_ok squares 66), tt));
    }

squares_two_fits : FitsRun squares squares_two
squares_two_fits =
    record {
      some_frame = omega arith;
      few_frames = below_bodies (omega arith);
      count = below_visits (omega arith);
      waits = omega arith;
      functions = (inl refl, tt);
      frames = (squares_two_fits0, tt);
      calls = tt;
      top = inl tt;
      started =
          after_wait squares squares_two (omega arith);
    }

-- `function f(x) { return *x + 1; } return f(spawn(f, [2]));`
abbrev calls : Exp → ℕ → Exp
calls e c = Exp.postfix (name f c) (Steps.call (Exps.exp e Exps.no_exps) (at (c + 1)) Steps.no_steps)

abbrev two_frames : Script
two_frames =
    (with_fun f (x ∷ []) (Stm.return (at 17) (op (star 24 (name x 25)) Oper.plus 27 (n 1 29)) ∷ [])
    (Stm.return (at 34) (calls (form Form.spawn 43 (name f 49 ∷ form Form.list 52 (n 2 53 ∷ []) ∷ [])) 41) ∷ [])).script

-- inside the call
abbrev called_frame0 : Frame (List ℕ)
called_frame0 = record { fun = []; vars = no_pairs; stack = []; todo = todo 0 1 ∷ todo 1 1 ∷ todo 2 3 ∷ [] }

abbrev called_frame1 : Frame (List ℕ)
called_frame1 = record {
  fun = f;
  vars = (pair (120 ∷ []) (at_name 65) no_pairs);
  stack = at_name 65 ∷ [];
  todo = todo 8 1 ∷ todo 9 1 ∷ todo 10 1
      ∷ todo 11 2 ∷ [];
}

abbrev called : Run (List ℕ)
called = record { frames = called_frame0 ∷ called_frame1 ∷ []; count = 10; waits = 1 }

called_fits0 : FitsFrame two_frames called_frame0
called_fits0 =
    record {
      bottom = refl;
      steps = (tt, (tt, (tt, tt)));
      parts = (inl refl, (inl refl, tt));
      as_many = refl;
      kinds = (tt, (tt, (tt, tt)));
      taken = (tt, (tt, (tt, tt)));
      vars = tt;
      values = tt;
    }

called_fits1 : FitsFrame two_frames called_frame1
called_fits1 =
    record {
      bottom = refl;
      steps = (tt, (tt, (tt, (tt, tt))));
      parts = (inl refl, (inl refl, (inl refl, tt)));
      as_many = refl;
      kinds =
          (tt, (tt, (tt, (tt, tt))));
      taken = (tt, (tt, (tt, (tt, tt))));
      vars = ((name_ok two_frames 65), tt);
      values =
          ((name_ok two_frames 65), tt);
    }

called_fits : FitsRun two_frames called
called_fits =
    record {
      some_frame = omega arith;
      few_frames = below_bodies (omega arith);
      count = below_visits (omega arith);
      waits = omega arith;
      functions = (inl refl, (refl, tt));
      frames = (called_fits0, (called_fits1, tt));
      calls = (tt, tt);
      top = inl tt;
      started =
          after_wait two_frames called (omega arith);
    }

-- `for (x in [1, 2]) { y = *ref("t"); }`
abbrev of_t : ℕ → Exp
of_t c = form Form.ref c (t (116 ∷ []) (c + 4) ∷ [])

abbrev with_t : List Stm → Script
with_t ss = record { funs = []; main = block ss; keys = (116 ∷ []) ∷ [] }

abbrev over_list : Script
over_list =
    with_t (Stm.for (at 1) x (form Form.list 11 (n 1 12 ∷ n 2 15 ∷ [])) (block (Stm.set (121 ∷ []) (at 20) (star 24 (of_t 25)) ∷ [])) ∷ [])

-- in the first turn
abbrev in_turn_frame0 : Frame (List ℕ)
in_turn_frame0 = record {
  fun = [];
  vars = (pair (120 ∷ []) (num (pos 1)) no_pairs);
  stack = one_two ∷ (num (pos 1)) ∷ at_name 65 ∷ [];
  todo =
      todo 0 1 ∷ todo 1 2 ∷ todo 5 1 ∷ todo 6 1 ∷ todo 7 2 ∷ [];
}

abbrev in_turn : Run (List ℕ)
in_turn = record { frames = in_turn_frame0 ∷ []; count = 9; waits = 1 }

in_turn_fits0 : FitsFrame over_list in_turn_frame0
in_turn_fits0 =
    record {
      bottom = refl;
      steps = (tt, (tt, (tt, (tt, (tt, tt)))));
      parts = (inl refl, (inl refl, (inl refl, (inl refl, tt))));
      as_many = refl;
      kinds = (tt, ((tt, tt), (tt, (tt, (tt, tt)))));
      taken = (tt, (omega arith, (tt, (tt, (tt, tt)))));
      vars = ((num_ok over_list 1), tt);
      values = ((nums_ok over_list), ((num_ok over_list 1), ((name_ok over_list 65), tt)));
    }

in_turn_fits : FitsRun over_list in_turn
in_turn_fits =
    record {
      some_frame = omega arith;
      few_frames = below_bodies (omega arith);
      count = below_visits (omega arith);
      waits = omega arith;
      functions = (inl refl, tt);
      frames = (in_turn_fits0, tt);
      calls = tt;
      top = inl tt;
      started =
          after_wait over_list in_turn (omega arith);
    }

-- `return -*ref("t");`
abbrev minus_star : Script
minus_star =
    with_t (Stm.return (at 1) (Exp.prefix (record { sign = Sign.minus; place = at 8 } ∷ record { sign = Sign.star; place = at 9 } ∷ [])
    (of_t 10)) ∷ [])

-- under the minus
abbrev under_minus_frame0 : Frame (List ℕ)
under_minus_frame0 = record { fun = []; vars = no_pairs; stack = at_name 65 ∷ []; todo = todo 0 1 ∷ todo 1 1 ∷ todo 2 2 ∷ [] }

abbrev under_minus : Run (List ℕ)
under_minus = record { frames = under_minus_frame0 ∷ []; count = 4; waits = 1 }

under_minus_fits0 : FitsFrame minus_star under_minus_frame0
under_minus_fits0 =
    record {
      bottom = refl;
      steps = (tt, (tt, (tt, tt)));
      parts = (inl refl, (inl refl, tt));
      as_many = refl;
      kinds = (tt, (tt, (tt, tt)));
      taken = (tt, (tt, (tt, tt)));
      vars = tt;
      values = ((name_ok minus_star 65), tt);
    }

under_minus_fits : FitsRun minus_star under_minus
under_minus_fits =
    record {
      some_frame = omega arith;
      few_frames = below_bodies (omega arith);
      count = below_visits (omega arith);
      waits = omega arith;
      functions = (inl refl, tt);
      frames = (under_minus_fits0, tt);
      calls = tt;
      top = inl tt;
      started =
          after_wait minus_star under_minus (omega arith);
    }

-- `x = exec("cat", {"in": ref("t")}, 1); return x[0];`
abbrev executing : Script
executing = waiting_exec_row.script

-- inside `exec`
abbrev in_exec_frame0 : Frame (List ℕ)
in_exec_frame0 = record { fun = []; vars = no_pairs; stack = (list (val (at_name 65) no_vals)) ∷ []; todo = todo 0 1 ∷ todo 1 1 ∷ todo 2 4 ∷ [] }

abbrev in_exec : Run (List ℕ)
in_exec = record { frames = in_exec_frame0 ∷ []; count = 8; waits = 1 }

in_exec_fits0 : FitsFrame executing in_exec_frame0
in_exec_fits0 =
    record {
      bottom = refl;
      steps = (tt, (tt, (tt, tt)));
      parts = (inl refl, (inl refl, tt));
      as_many = refl;
      kinds = (tt, (tt, ((tt, tt), tt)));
      taken = (tt, (tt, (tt, tt)));
      vars = tt;
      values = ((refs_ok executing 65), tt);
    }

in_exec_fits : FitsRun executing in_exec
in_exec_fits =
    record {
      some_frame = omega arith;
      few_frames = below_bodies (omega arith);
      count = below_visits (omega arith);
      waits = omega arith;
      functions = (inl refl, tt);
      frames = (in_exec_fits0, tt);
      calls = tt;
      top = inl tt;
      started =
          after_wait executing in_exec (omega arith);
    }

-- `if (false) { } else if (true) { return *ref("t"); } else { }`
abbrev choosing : Script
choosing =
    with_t (Stm.cases (at 1) (Arms.arm (at 1) (b false 5) (block [])
    (Arms.arm (at 18) (b true 22) (block (Stm.return (at 30) (star 37 (of_t 38)) ∷ [])) Arms.no_arms)) (Else.otherwise (block [])) ∷ [])

-- in the second arm, whose `if` is no longer under way
abbrev in_arm_frame0 : Frame (List ℕ)
in_arm_frame0 = record { fun = []; vars = no_pairs; stack = at_name 65 ∷ []; todo = todo 0 1 ∷ todo 5 1 ∷ todo 6 1 ∷ todo 7 2 ∷ [] }

abbrev in_arm : Run (List ℕ)
in_arm = record { frames = in_arm_frame0 ∷ []; count = 5; waits = 1 }

in_arm_fits0 : FitsFrame choosing in_arm_frame0
in_arm_fits0 =
    record {
      bottom = refl;
      steps = (tt, (tt, (tt, (tt, tt))));
      parts = (inr (inr (inl refl)), (inl refl, (inl refl, tt)));
      as_many = refl;
      kinds = (tt, (tt, (tt, (tt, tt))));
      taken = (tt, (tt, (tt, (tt, tt))));
      vars = tt;
      values = ((name_ok choosing 65), tt);
    }

in_arm_fits : FitsRun choosing in_arm
in_arm_fits =
    record {
      some_frame = omega arith;
      few_frames = below_bodies (omega arith);
      count = below_visits (omega arith);
      waits = omega arith;
      functions = (inl refl, tt);
      frames = (in_arm_fits0, tt);
      calls = tt;
      top = inl tt;
      started = after_wait choosing in_arm (omega arith);
    }

-- ---- starts, and the result

abbrev starts : List ℕ → Pairs (List ℕ) → Frame (List ℕ)
starts g ps = record { fun = g; vars = ps; stack = []; todo = todo 17 0 ∷ [] }

abbrev started : List ℕ → Pairs (List ℕ) → Run (List ℕ)
started g ps = record { frames = starts g ps ∷ []; count = 0; waits = 0 }

-- the start of `f(7)`
abbrev seven : Pairs (List ℕ)
seven = pair x (num (pos 7)) no_pairs

abbrev start_of_f : Run (List ℕ)
start_of_f = started f seven

is_start : IsStart squares start_of_f
is_start =
    record {
      frame = record { bottom = refl; at_start = refl; stack = refl; vars = ((inl (inl refl), tt), (inl refl, tt)) };
      count = refl;
      waits = refl;
    }

start_fits : FitsRun squares start_of_f
start_fits =
    record {
      some_frame = omega arith;
      few_frames = below_bodies (omega arith);
      count = below_visits (omega arith);
      waits = omega arith;
      functions = (inr refl, tt);
      frames = (body, tt);
      calls = tt;
      top = inr is_start;
      started =
          (λ h. absurd (omega (arith, h)), λ h. absurd (h is_start));
    }
  where
    body : FitsFrame squares (starts f seven)
    body =
        record {
          bottom = refl;
          steps = (tt, tt);
          parts = tt;
          as_many = refl;
          kinds = (tt, tt);
          taken = (tt, tt);
          vars = (num_ok squares 7, tt);
          values = tt;
        }

show_fits : Fits squares (Stand.show_at (at_name 65) 100)
show_fits = record { wave = omega arith; value = name_ok squares 65; refers = omega arith }

-- ---- what doesn't fit

-- the first wait of the squares with other entries, another stack and another number of waits
abbrev squares_with : List Todo → List V → ℕ → Run (List ℕ)
squares_with ts vs j = record { frames = record { fun = []; vars = no_pairs; stack = vs; todo = ts } ∷ []; count = 13; waits = j }

abbrev entries : List Todo
entries = todo 0 3 ∷ todo 11 1 ∷ todo 12 1 ∷ todo 13 2 ∷ []

-- a value more, and a value less, than the entries keep
no_more : FitsRun squares (squares_with entries (at_name 65 ∷ at_name 66 ∷ []) 1) → ⊥
no_more h = omega (arith, h.frames.0.as_many)

no_less : FitsRun squares (squares_with entries [] 1) → ⊥
no_less h = omega (arith, h.frames.0.as_many)

-- a `*` keeps a reference
no_number : FitsRun squares (squares_with entries (num (pos 1) ∷ []) 1) → ⊥
no_number h = h.frames.0.kinds.1.1.1.0

-- a step that isn't there
no_such_step : FitsRun squares (squares_with (todo 0 3 ∷ todo 11 1 ∷ todo 12 1 ∷ todo 13 3 ∷ []) (at_name 65 ∷ []) 1) → ⊥
no_such_step h = h.frames.0.steps.1.1.1.0

-- an entry that is no part of the one below: the sum is missed
no_gap : FitsRun squares (squares_with (todo 0 3 ∷ todo 11 1 ∷ todo 13 2 ∷ []) (at_name 65 ∷ []) 1) → ⊥
no_gap h = go h.frames.0.parts.1.0
  where
    go : In {A = ℕ} 13 (12 ∷ []) → ⊥
    go (inl e) = omega (arith, e)
    go (inr e) = e

-- the bottom entry is another node than the body's block
no_block : FitsRun squares (squares_with (todo 11 1 ∷ todo 12 1 ∷ todo 13 2 ∷ []) (at_name 65 ∷ []) 1) → ⊥
no_block h = omega (arith, h.frames.0.bottom)

-- the last entry doesn't wait, and it is no start
no_wait : FitsRun squares (squares_with (todo 0 3 ∷ todo 11 1 ∷ []) [] 1) → ⊥
no_wait h = go h.top
  where
    go : Last (λ g. Last (λ t. IsWaiting (row_of squares t)) g.todo) (squares_with (todo 0 3 ∷ todo 11 1 ∷ []) [] 1).frames
        ⊎ IsStart squares (squares_with (todo 0 3 ∷ todo 11 1 ∷ []) [] 1) → ⊥
    go (inl e) = e
    go (inr s) = omega (arith, s.waits)

-- it waits, and has no wait
no_count_of_waits : FitsRun squares (squares_with entries (at_name 65 ∷ []) 0) → ⊥
no_count_of_waits h = absurd (omega (arith, h.started.1 (λ s. omega (arith, s.count))))

abbrev first_byte : List ℕ → ℕ
first_byte [] = 0
first_byte (b ∷ bs) = b

-- a start of `f` that sets another name, or not its parameter
no_other_name : IsStart squares (started f (pair x null (pair (121 ∷ []) null no_pairs))) → ⊥
no_other_name s = go s.frame.vars.0.1.0
  where
    go : In {A = List ℕ} (121 ∷ []) (x ∷ []) ⊎ (is_one_of (121 ∷ []) [] ≡ true) → ⊥
    go (inl (inl e)) = omega (arith, ap first_byte e)
    go (inl (inr e)) = e
    go (inr e) = cc

no_parameter : IsStart squares (started f no_pairs) → ⊥
no_parameter s = s.frame.vars.1.0

-- a function that isn't of the script
no_function : FitsRun squares (started (103 ∷ []) no_pairs) → ⊥
no_function h = h.frames.0.bottom

-- more elements taken than the list has
no_third : FitsFrame over_list
    (record {
      fun = [];
      vars = no_pairs;
      stack = one_two ∷ num (pos 3) ∷ at_name 65 ∷ [];
      todo = todo 0 1 ∷ todo 1 2 ∷ todo 5 1 ∷ todo 6 1
          ∷ todo 7 2 ∷ [];
    }) → ⊥
no_third h = omega (arith, h.taken.1.0)

-- a frame below the top one without an open call
no_open_call : FitsRun two_frames
    (record {
      frames = record { fun = []; vars = no_pairs; stack = []; todo = todo 0 1 ∷ todo 1 1 ∷ todo 2 1 ∷ [] } ∷ called_frame1 ∷ [];
      count =
          10;
      waits = 1;
    }) → ⊥
no_open_call h = h.calls.0

-- a value without a reference, and a wave too late
abbrev nothing : Stand (List ℕ)
nothing = Stand.show_at null 1

no_reference : Fits squares nothing → ⊥
no_reference h = omega (arith, h.refers)

no_wave : Fits squares (Stand.show_at (at_name 65) 101) → ⊥
no_wave h = omega (arith, h.wave)
