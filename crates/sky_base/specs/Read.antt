-- How a run goes, where it is told what each description is seen as.
use Rattle.std.specs.Prelude.{ℕ, zero, suc, List, [], ◌∷◌, ◌++◌, Option, Some, None}
use Rattle.sky_base.specs.Val.{Val, Pairs, Desc}
use Rattle.sky_base.specs.Res.{Object, End, St, Entry, Wait, one_of, all_of, Res, Fin, Tell, Ask, node_of, step_of, kept_of, opens}
use Rattle.sky_base.specs.Eval.{World, wait_end, plug}

pub data Outcome (N : Type 0) : Type 0 where
  ended : End N → St N → Outcome N
  no_fuel : Outcome N

-- what a task made, and what it waited for
pub data Act (N : Type 0) : Type 0 where
  made : Desc N → Act N
  waited : List (Desc N) → Act N

-- where a run stands at a wait
pub record Halt (N : Type 0) : Type 0 where
  pub wait : Wait N
  -- the forms under way, the outermost first
  pub forms : List (Entry N)
  pub st : St N

pub record Todo : Type 0 where
  pub node : ℕ
  pub step : ℕ

pub record Frame (N : Type 0) : Type 0 where
  pub fun : List ℕ
  pub vars : Pairs N
  -- the deepest first
  pub stack : List (Val N)
  -- the outermost first
  pub todo : List Todo

-- the stack of a task; what it spawned stands beside it
pub record Run (N : Type 0) : Type 0 where
  -- the bottom frame first
  pub frames : List (Frame N)
  pub count : ℕ
  pub waits : ℕ

abbrev pub joined : {A : Type 0} → Option A → Option (List A) → Option (List A)
joined None ys = None
joined (Some x) None = None
joined (Some x) (Some ys) = Some (x ∷ ys)

module _ {N : Type 0} where
  abbrev pub refs_of : Wait N → List (Desc N)
  refs_of (one_of p d) = d ∷ []
  refs_of (all_of ds) = ds

  -- the objects of all of these, or none where one has not enough fuel
  abbrev pub see_all : (Desc N → Option (Object N)) → List (Desc N) → Option (List (Object N))
  see_all see [] = Some []
  see_all see (d ∷ ds) = joined (see d) (see_all see ds)

  abbrev pub on_seen : Option (List (Object N)) → (List (Object N) → Outcome N) → Outcome N
  on_seen None k = no_fuel
  on_seen (Some os) k = k os

  abbrev pub acts_seen : Option (List (Object N)) → (List (Object N) → List (Act N)) → List (Act N)
  acts_seen None k = []
  acts_seen (Some os) k = k os

  abbrev pub halts_seen : Option (List (Object N)) → (List (Object N) → Option (Halt N)) → Option (Halt N)
  halts_seen None k = None
  halts_seen (Some os) k = k os

  abbrev pub seen_list : {A : Type 0} → Option (List (Object N)) → (List (Object N) → List A) → List A
  seen_list None k = []
  seen_list (Some os) k = k os

  -- what is made before the next wait or the end
  abbrev pub segment : Res N → List (Desc N)
  segment (Fin e st) = []
  segment (Tell d r) = d ∷ segment r
  segment (Ask w fr st k) = []

  -- how it ends, where it comes to no wait before
  abbrev pub first_end : Res N → Option (End N × St N)
  first_end (Fin e st) = Some (e, st)
  first_end (Tell d r) = first_end r
  first_end (Ask w fr st k) = None

  -- where it first waits
  abbrev pub first_halt : Res N → Option (Halt N)
  first_halt (Fin e st) = None
  first_halt (Tell d r) = first_halt r
  first_halt (Ask w fr st k) = Some (record { wait = w; forms = fr; st = st })

  module _ (see : Desc N → Option (Object N)) where
    -- how the run ends
    abbrev pub outcome : Res N → Outcome N
    outcome (Fin e st) = ended e st
    outcome (Tell d r) = outcome r
    outcome (Ask w fr st k) = on_seen (see_all see (refs_of w)) (λ os. outcome (k os))

    -- what it made and waited for, in order
    abbrev pub acts : Res N → List (Act N)
    acts (Fin e st) = []
    acts (Tell d r) = made d ∷ acts r
    acts (Ask w fr st k) = waited (refs_of w) ∷ acts_seen (see_all see (refs_of w)) (λ os. acts (k os))

    -- where it stands at the wait of this number, from 0
    abbrev pub halt : ℕ → Res N → Option (Halt N)
    halt j (Fin e st) = None
    halt j (Tell d r) = halt j r
    halt zero (Ask w fr st k) = Some (record { wait = w; forms = fr; st = st })
    halt (suc j) (Ask w fr st k) = halts_seen (see_all see (refs_of w)) (λ os. halt j (k os))

    -- what is made after the wait of this number, from 1, and before the next one or the end; at 0, what is made first
    abbrev pub segment_from : ℕ → Res N → List (Desc N)
    segment_from zero r = segment r
    segment_from (suc j) (Fin e st) = []
    segment_from (suc j) (Tell d r) = segment_from (suc j) r
    segment_from (suc j) (Ask w fr st k) = seen_list (see_all see (refs_of w)) (λ os. segment_from j (k os))

  -- ---- frames

  abbrev pub todo_of : Entry N → Todo
  todo_of en = record { node = node_of en; step = step_of en }

  -- the bottom frame with an entry and its values in front
  abbrev pub in_front : Todo → List (Val N) → List (Frame N) → List (Frame N)
  in_front t vs [] = []
  in_front t vs (f ∷ fs) =
      record { fun = f.fun; vars = f.vars; stack = vs ++ f.stack; todo = t ∷ f.todo } ∷ fs

  abbrev pub frame_of : Option (List ℕ × Pairs N) → List ℕ → Todo → List (Val N) → List (Frame N) → (List ℕ → List (Frame N)) → List (Frame N)
  frame_of None f t vs same above = in_front t vs same
  frame_of (Some c) f t vs same above = record { fun = f; vars = c.1; stack = vs; todo = t ∷ [] } ∷ above c.0

  -- the frames of a body and of those that it has open, from its forms under way and the variables of the innermost body
  abbrev pub frames_of : List (Entry N) → List ℕ → Pairs N → List (Frame N)
  frames_of [] f xs = record { fun = f; vars = xs; stack = []; todo = [] } ∷ []
  frames_of (en ∷ fr) f xs =
      frame_of (opens en) f (todo_of en) (kept_of en) (frames_of fr f xs) (λ g. frames_of fr g xs)

  -- the stack at a wait, which is the j-th, of the task of this function
  abbrev pub run_of_halt : List ℕ → ℕ → Halt N → Run N
  run_of_halt f j h = record { frames = frames_of h.forms f h.st.vars; count = h.st.count; waits = j }

module _ {N : Type 0} (w : World N) where
  -- the rest of the forms under way, where what is waited for gives these objects and d bodies may be opened
  abbrev pub rest_of : ℕ → Halt N → List (Object N) → Res N
  rest_of d h os = plug w d h.forms (Fin (wait_end w h.wait os) h.st)
