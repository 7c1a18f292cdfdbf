-- The forms under way of a saved stack, one saved entry after the other.
use Rattle.std.specs.Prelude.{ℕ, List, [], ◌∷◌, ◌++◌, take, drop, Option, Some, None}
use Rattle.std.specs.Option.{option_map, option_and_then}
use Rattle.sky_base.specs.Val.{Val, Pairs}
use Rattle.sky_base.specs.Tree.{Script}
use Rattle.sky_base.specs.Res.{Entry}
use Rattle.sky_base.specs.Read.{Todo, Frame, joined}
use Rattle.sky_base_law.specs.Opened.{opened}
use Rattle.sky_base_law.specs.Nodes.{node_at}
use Rattle.sky_state.specs.Table.{keeps}
use Rattle.sky_state.specs.Fits.{row_of}

-- a call that may be open: the function, and the caller's variables
abbrev pub Call : Type 0 → Type 0
Call N = Option (List ℕ × Pairs N)

module _ {N : Type 0} where
  -- what the last entry of a frame with these variables opened: the body of the frame above
  abbrev pub call_above : Pairs N → List (Frame N) → Call N
  call_above xs [] = None
  call_above xs (g ∷ gs) = Some (g.fun, xs)

  -- only the last entry of a frame is an open call
  abbrev pub call_last : Call N → List Todo → Call N
  call_last c [] = c
  call_last c (t ∷ ts) = None

  module _ (sc : Script) where
    -- the form of a saved entry with the values that are its own
    abbrev pub form_at : Todo → List (Val N) → Call N → Option (Entry N)
    form_at t vs c = option_and_then (λ n. opened n t.node t.step vs c) (node_at sc t.node)

    -- the values of the stack from an entry on: its own, and those of the further entries
    abbrev pub own : Todo → List (Val N) → List (Val N)
    own t vs = take (keeps (row_of sc t)) vs

    abbrev pub others : Todo → List (Val N) → List (Val N)
    others t vs = drop (keeps (row_of sc t)) vs

    -- the forms of these entries of a frame, and then the further ones
    abbrev pub todo_forms : Call N → List Todo → List (Val N) → Option (List (Entry N)) → Option (List (Entry N))
    todo_forms c [] vs more = more
    todo_forms c (t ∷ ts) vs more = joined (form_at t (own t vs) (call_last c ts)) (todo_forms c ts (others t vs) more)

    -- the forms of all entries, the outermost first
    abbrev pub frames_forms : List (Frame N) → Option (List (Entry N))
    frames_forms [] = Some []
    frames_forms (f ∷ fs) = todo_forms (call_above f.vars fs) f.todo f.stack (frames_forms fs)

  -- the forms behind these
  abbrev pub after_these : List (Entry N) → Option (List (Entry N)) → Option (List (Entry N))
  after_these es o = option_map (λ fr. es ++ fr) o

  -- the variables of the innermost body
  abbrev pub top_vars : List (Frame N) → Option (Pairs N)
  top_vars [] = None
  top_vars (f ∷ []) = Some f.vars
  top_vars (f ∷ g ∷ gs) = top_vars (g ∷ gs)
