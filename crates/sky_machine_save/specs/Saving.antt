-- Frames from forms under way, one form at a time.
use Rattle.std.specs.Prelude.{ℕ, ◌<◌, ◌^◌, List, [], ◌∷◌, ◌++◌}
use Rattle.sky_base.specs.Val.{Val, Pairs}
use Rattle.sky_base.specs.Res.{Entry, step_of, kept_of, for_body}
use Rattle.sky_base.specs.Read.{Todo, Frame, todo_of, frames_of}
use Rattle.sky_state.specs.StandView.{todos_view, stack_view, frames_view}
use Rattle.sky_machine_save.specs.declared.save.Saving.{Saving}

-- how many elements a `for` has taken, as a number of the language
abbrev pub TakenFits : {N : Type 0} → Entry N → Type 0
TakenFits (for_body n m t p x vs b) = t < 2 ^ 63
TakenFits _ = Unit {0}

-- the numbers of a form's entry fit those of a saved one
abbrev pub CanSave : {N : Type 0} → Entry N → Type 0
CanSave en = (step_of en < 2 ^ 32) × TakenFits en

abbrev pub AllCanSave : {N : Type 0} → List (Entry N) → Type 0
AllCanSave [] = Unit {0}
AllCanSave (en ∷ fr) = CanSave en × AllCanSave fr

-- what is saved so far: the frames that are whole, and the function, the values and the forms of the one that is in work
pub record Part : Type 0 where
  pub done : List (Frame (List ℕ))
  pub fun : List ℕ
  pub stack : List (Val (List ℕ))
  pub todo : List Todo

abbrev pub part_of : Saving → Part
part_of s =
    record { done = frames_view s.done.items; fun = s.fun; stack = stack_view s.stack.items; todo = todos_view s.todo.items }

-- the part with a form's node, step and values
abbrev pub put_on : Part → Entry (List ℕ) → Part
put_on p en = record { done = p.done; fun = p.fun; stack = p.stack ++ kept_of en; todo = p.todo ++ todo_of en ∷ [] }

-- the frame in work is whole, with these variables, and one of this function begins
abbrev pub closed : Part → List ℕ → Pairs (List ℕ) → Part
closed p f xs = record {
  done = p.done ++ record { fun = p.fun; vars = xs; stack = p.stack; todo = p.todo } ∷ [];
  fun = f;
  stack = [];
  todo = [];
}

-- the bottom frame with these forms and values in front
abbrev pub with_front : List Todo → List (Val (List ℕ)) → List (Frame (List ℕ)) → List (Frame (List ℕ))
with_front ts vs [] = []
with_front ts vs (f ∷ fs) = record { fun = f.fun; vars = f.vars; stack = vs ++ f.stack; todo = ts ++ f.todo } ∷ fs

-- all frames, where these forms are still to be saved and the innermost body has these variables
abbrev pub with_rest : Part → List (Entry (List ℕ)) → Pairs (List ℕ) → List (Frame (List ℕ))
with_rest p fr xs = p.done ++ with_front p.todo p.stack (frames_of fr p.fun xs)
