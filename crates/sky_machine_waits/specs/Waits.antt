-- What a stack of forms under way waits for.
use Rattle.std.specs.Prelude.{ℕ, suc, List, [], ◌∷◌, reverse, Option, Some, None, slice_get}
use Rattle.sky_base.specs.Val.{Desc}
use Rattle.sky_base.specs.Tree.{SignAt, Exp, Script}
use Rattle.sky_base.specs.Res.{Entry, star_wait, exec_wait, node_of, Wait, one_of, all_of}
use Rattle.sky_base.specs.TreeView.{at, sign_view}
use Rattle.sky_base.specs.declared.tree.SignAt as rust
use Rattle.sky_base_law.specs.Opened.{Node, exp_node}
use Rattle.sky_base_law.specs.Nodes.{node_at}

-- the signs of a prefix, in the order of the text
abbrev pub signs_of : Option Node → List SignAt
signs_of (Some (exp_node (Exp.prefix ss e))) = ss
signs_of _ = []

-- at step 1 + m of a prefix the m-th sign from the inside waits, from 1
abbrev pub sign_at : List SignAt → (step : ℕ) → Option SignAt
sign_at ss (suc (suc i)) = slice_get (reverse ss) i
sign_at ss _ = None

module _ {N : Type 0} where
  -- the object of this description, at the place of this sign
  abbrev pub star_at : Option SignAt → Desc N → Option (Wait N)
  star_at None d = None
  star_at (Some s) d = Some (one_of s.place d)

  -- what a form waits for: a `*` for the object of its reference, at its own place, and an `exec` for those of all its outputs; no
  -- other form waits. First the node at which the form stands
  abbrev pub waits_for : Option Node → Entry N → Option (Wait N)
  waits_for t (star_wait n k d ss) = star_at (sign_at (signs_of t) k) d
  waits_for t (exec_wait n ds) = Some (all_of ds)
  waits_for t _ = None

  -- what forms under way wait for, the outermost first: what the innermost of them does
  abbrev pub wait_at : (ℕ → Option Node) → List (Entry N) → Option (Wait N)
  wait_at at [] = None
  wait_at at (en ∷ []) = waits_for (at (node_of en)) en
  wait_at at (en ∷ e ∷ fr) = wait_at at (e ∷ fr)

  -- in a script
  abbrev pub wait_in : Script → List (Entry N) → Option (Wait N)
  wait_in sc fr = wait_at (λ i. node_at sc i) fr

-- the sign that one of the code stands for
abbrev pub sign_of : rust.SignAt → SignAt
sign_of s = record { sign = sign_view s.sign; place = at s.line s.col }
