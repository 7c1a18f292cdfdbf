-- A stack that fits and doesn't wait is the start of a call.
use Rattle.std.proofs.Common.{◌≡◌, ◌<◌, ◌↔◌, ℕ, List, [], ◌∷◌, Option, Some, None, refl, sym, ap, ◌∙◌, subst, arith, ◌⊎◌, inl, inr}
use Rattle.sky_base.specs.Val.{Pairs, no_vals}
use Rattle.sky_base.specs.Tree.{Exp, Script}
use Rattle.sky_base.specs.Eval.{Body, bind, body_of}
use Rattle.sky_base.specs.Read.{Todo, Frame, Run}
use Rattle.sky_base_law.specs.Nodes.{node_at}
use Rattle.sky_base_law.specs.Opened.{Node, exp_node, stm_node, block_node}
use Rattle.sky_state.specs.Table.{row, exp_row, IsWaiting}
use Rattle.sky_state.specs.Fits.{Last, AtStart, OnBody, row_of, StartFrame, OneFrame, IsStart, FitsRun}
use Rattle.sky_state.specs.Stand.{Stand}
use Rattle.sky_state.specs.Start.{StartsIn, StartsCall}
use Rattle.sky_machine_waits.proofs.Begin.{bind_none}
use Rattle.sky_machine.proofs.InnermostWaits.{stm_not, block_not}

exp_not : (x : Exp) (n : ℕ) → IsWaiting (exp_row x n 0) → ⊥
exp_not (Exp.literal l p) n h = h
exp_not (Exp.name x p) n h = h
exp_not (Exp.func x p) n h = h
exp_not (Exp.parens x) n h = h
exp_not (Exp.parts o p es) n h = h
exp_not (Exp.chain x ls) n h = h
exp_not (Exp.logic j x ls) n h = h
exp_not (Exp.prefix ss x) n h = h
exp_not (Exp.postfix x ss) n h = h

-- nothing waits at step 0
first_not : (o : Option Node) (n : ℕ) → IsWaiting (row o n 0) → ⊥
first_not None n h = h
first_not (Some (exp_node x)) n h = exp_not x n h
first_not (Some (stm_node a)) n h = stm_not a n 0 h
first_not (Some (block_node b)) n h = block_not b n 0 h

module _ (sc : Script) where
  todo_not : (ts : List Todo) → AtStart ts → Last (λ t. IsWaiting (row_of sc t)) ts → ⊥
  todo_not [] a l = l
  todo_not (t ∷ []) a l = first_not (node_at sc t.node) t.node (subst (λ k. IsWaiting (row (node_at sc t.node) t.node k)) a l)
  todo_not (t ∷ u ∷ us) a l = a

  start_not : (fs : List (Frame (List ℕ))) → OneFrame sc fs → Last (λ f. Last (λ t. IsWaiting (row_of sc t)) f.todo) fs → ⊥
  start_not [] o l = l
  start_not (f ∷ []) o l = todo_not f.todo o.at_start l
  start_not (f ∷ g ∷ gs) o l = o

  pub is_start : (r : Run (List ℕ)) → FitsRun sc r → r.waits ≡ 0 → IsStart sc r
  is_start r h none = go h.top
    where
      go : Last (λ f. Last (λ t. IsWaiting (row_of sc t)) f.todo) r.frames ⊎ IsStart sc r → IsStart sc r
      go (inr s) = s
      go (inl l) = absurd (omega (arith, none, h.started.1 (λ s. start_not r.frames s.frame l)))

  one_todo : (ts : List Todo) (o : Option Body) (b : Body) → o ≡ Some b → OnBody sc o ts → AtStart ts → ts ≡ record { node = b.node; step = 0 } ∷ []
  one_todo [] o b e h a = absurd a
  one_todo (t ∷ []) None b e h a = absurd cc
  one_todo (t ∷ []) (Some x) b e h a =
      let same : x ≡ b = cc in
      λ i. record { node = (h ∙ ap (λ (y : Body). y.node) same) i; step = a i } ∷ []
  one_todo (t ∷ u ∷ us) o b e h a = absurd a

  frame_is : (f : Frame (List ℕ)) (b : Body) → body_of f.fun sc ≡ Some b → StartFrame sc f → f
      ≡ record { fun = f.fun; vars = bind b.params no_vals f.vars; stack = []; todo = record { node = b.node; step = 0 } ∷ [] }
  frame_is f b e s =
      λ i. record {
        fun = f.fun;
        vars = sym (bind_none b.params f.vars) i;
        stack = s.stack i;
        todo =
            one_todo f.todo (body_of f.fun sc) b e s.bottom s.at_start i;
      }

  no_body : (o : Option Body) (ts : List Todo) → o ≡ None → OnBody sc o ts → ⊥
  no_body None ts e h = h
  no_body (Some b) ts e h = absurd cc

  -- a start is that of a call which captured all its variables
  pub start_calls : (r : Run (List ℕ)) → IsStart sc r → (f : List ℕ) × (xs : Pairs (List ℕ)) × StartsCall sc f xs no_vals (Stand.run r)
  start_calls r s = go r.frames refl s.frame
    where
      here : (f : Frame (List ℕ)) → r.frames ≡ f ∷ [] → StartFrame sc f → (o : Option Body) → body_of f.fun sc ≡ o
          → StartsIn o f.fun f.vars no_vals (Stand.run r)
      here f e h None is = no_body (body_of f.fun sc) f.todo is h.bottom
      here f e h (Some b) is =
          λ i. Stand.run (record { frames = (e ∙ ap (λ g. g ∷ []) (frame_is f b is h)) i; count = s.count i; waits = s.waits i })

      go : (fs : List (Frame (List ℕ))) → r.frames ≡ fs → OneFrame sc fs → (f : List ℕ) × (xs : Pairs (List ℕ))
          × StartsCall sc f xs no_vals (Stand.run r)
      go [] e h = absurd h
      go (f ∷ []) e h = (f.fun, f.vars, here f e h (body_of f.fun sc) refl)
      go (f ∷ g ∷ gs) e h = absurd h
