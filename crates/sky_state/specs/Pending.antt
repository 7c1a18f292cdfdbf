-- What a state waits for, and what it holds.
use Rattle.std.specs.Prelude.{ℕ, List, [], ◌∷◌, ◌++◌, Bool, flat_map}
use Rattle.sky_base.specs.Val.{Val, Desc, refs, pairs_refs, distinct}
use Rattle.sky_base.specs.Read.{Frame}
use Rattle.sky_state.specs.Stand.{Stand}

module _ {N : Type 0} where
  abbrev pub last_refs : List (Val N) → List (Desc N)
  last_refs [] = []
  last_refs (v ∷ []) = refs v
  last_refs (v ∷ w ∷ vs) = last_refs (w ∷ vs)

  -- the references of the last value on the stack of the top frame: where a form waits it is what that form keeps, and at a
  -- start the stack is empty
  abbrev pub top_refs : List (Frame N) → List (Desc N)
  top_refs [] = []
  top_refs (f ∷ []) = last_refs f.stack
  top_refs (f ∷ g ∷ gs) = top_refs (g ∷ gs)

  abbrev pub waited_refs : Stand N → List (Desc N)
  waited_refs (Stand.run r) = top_refs r.frames
  waited_refs (Stand.show_at v w) = refs v

  abbrev pub stack_refs : List (Val N) → List (Desc N)
  stack_refs vs = flat_map refs vs

  -- the bottom frame first, in each the variables in the order of their names and then the stack, the deepest value first
  abbrev pub frames_refs : List (Frame N) → List (Desc N)
  frames_refs fs = flat_map (λ f. pairs_refs f.vars ++ stack_refs f.stack) fs

  -- the number of the wait at which it stands, of the root task that of the wave
  abbrev pub stand_wait : Stand N → ℕ
  stand_wait (Stand.run r) = r.waits
  stand_wait (Stand.show_at v w) = w

  abbrev pub all_refs : Stand N → List (Desc N)
  all_refs (Stand.run r) = frames_refs r.frames
  all_refs (Stand.show_at v w) = refs v

-- each once, in the order of their first places
module _ {N : Type 0} (same_known : N → N → Bool) where
  abbrev pub pending_in : Stand N → List (Desc N)
  pending_in s = distinct same_known (waited_refs s)

  abbrev pub held_in : Stand N → List (Desc N)
  held_in s = distinct same_known (all_refs s)
