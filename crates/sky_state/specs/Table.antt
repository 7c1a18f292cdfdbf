-- The table of saved forms: which part of a form is pending or running at a step, and what the form keeps there.
use Rattle.std.specs.Prelude.{ℕ, zero, suc, ◌+◌, List, [], ◌∷◌, ◌++◌, reverse, Option, Some, None}
use Rattle.std.specs.Option.{option_and_then}
use Rattle.sky_base.specs.Tree.{Place, Sign, SignAt, Form, Exp, Exps, Links, Ands, Steps, Stm, Stms, Arms, Else, nodes, stm_nodes, block_nodes}
use Rattle.sky_base.specs.Tree.{arms_nodes}
use Rattle.sky_base_law.specs.Opened.{Node, exp_node, stm_node, block_node}

pub data Row : Type 0 where
  -- one of these nodes is pending or runs; so many values are kept, of any kind
  part : (kept : ℕ) → (nodes : List ℕ) → Row
  -- the body of a `for` runs, at this node; the list and the number of elements taken are kept
  turn : (node : ℕ) → Row
  -- a `*` waits; its reference is kept
  star : Row
  -- an `exec` waits; the list of the references to its outputs is kept
  outputs : Row
  -- a call is open; nothing is kept
  open_call : Row
  -- there is no such step
  no_step : Row

-- one node is pending
abbrev pub pending : (kept node : ℕ) → Row
pending k m = part k (m ∷ [])

-- so many times, where each can be done
abbrev pub on_by : {A : Type 0} → (A → Option A) → ℕ → A → Option A
on_by f zero x = Some x
on_by f (suc i) x = option_and_then f (on_by f i x)

-- ---- places inside a form: the node that comes next, and what comes from there on; each such step goes past one part

abbrev pub past_part : ℕ × Exps → Option (ℕ × Exps)
past_part (m, Exps.no_exps) = None
past_part (m, Exps.exp e es) = Some (m + nodes e, es)

abbrev pub past_link : ℕ × Links → Option (ℕ × Links)
past_link (m, Links.no_links) = None
past_link (m, Links.link o p e ls) = Some (m + nodes e, ls)

abbrev pub past_and : ℕ × Ands → Option (ℕ × Ands)
past_and (m, Ands.no_ands) = None
past_and (m, Ands.and p e ls) = Some (m + nodes e, ls)

abbrev pub past_arm : ℕ × Arms → Option (ℕ × Arms)
past_arm (m, Arms.no_arms) = None
past_arm (m, Arms.arm p e b arms) = Some (m + nodes e + block_nodes b, arms)

abbrev pub past_stm : ℕ × Stms → Option (ℕ × Stms)
past_stm (m, Stms.no_stms) = None
past_stm (m, Stms.stm a more) = Some (m + stm_nodes a, more)

abbrev pub past_sign : List SignAt → Option (List SignAt)
past_sign [] = None
past_sign (s ∷ ss) = Some ss

-- a place in a postfix: at its end, at an index, or at an argument of a call, or behind the last one; so many arguments come before it
pub data Spot : Type 0 where
  finished : Spot
  in_index : (node : ℕ) → Exp → Place → Steps → Spot
  in_call : (node before : ℕ) → Exps → Place → Steps → Spot

abbrev pub spot_of : ℕ → Steps → Spot
spot_of m Steps.no_steps = finished
spot_of m (Steps.index e p ss) = in_index m e p ss
spot_of m (Steps.call es p ss) = in_call m 0 es p ss

abbrev pub past_spot : Spot → Option Spot
past_spot finished = None
past_spot (in_index m e p ss) = Some (spot_of (m + nodes e) ss)
past_spot (in_call m i Exps.no_exps p ss) = Some (spot_of m ss)
past_spot (in_call m i (Exps.exp e es) p ss) = Some (in_call (m + nodes e) (i + 1) es p ss)

-- ---- expressions

-- when all parts are there an `exec`, which has three, waits
abbrev pub parts_row : Form → ℕ → Row
parts_row Form.exec (suc (suc (suc zero))) = outputs
parts_row _ _ = no_step

-- after so many parts
abbrev pub part_row : Form → ℕ → Option (ℕ × Exps) → Row
part_row o i (Some (m, Exps.exp e es)) = pending i m
part_row o i (Some (m, Exps.no_exps)) = parts_row o i
part_row o i None = no_step

abbrev pub link_row : Option (ℕ × Links) → Row
link_row (Some (m, Links.link o p e ls)) = pending 1 m
link_row _ = no_step

abbrev pub and_row : Option (ℕ × Ands) → Row
and_row (Some (m, Ands.and p e ls)) = pending 0 m
and_row _ = no_step

abbrev pub sign_is : Sign → Row
sign_is Sign.star = star
sign_is _ = no_step

abbrev pub sign_row : Option (List SignAt) → Row
sign_row (Some (s ∷ ss)) = sign_is s.sign
sign_row _ = no_step

-- at an argument the value so far and the arguments so far are kept
abbrev pub spot_row : Option Spot → Row
spot_row (Some (in_index m e p ss)) = pending 1 m
spot_row (Some (in_call m i (Exps.exp e es) p ss)) = pending (1 + i) m
spot_row (Some (in_call m i Exps.no_exps p ss)) = open_call
spot_row _ = no_step

-- the expression at the node n, at the step k
abbrev pub exp_row : Exp → (n k : ℕ) → Row
exp_row (Exp.parens e) n (suc zero) = pending 0 (n + 1)
exp_row (Exp.parts o p es) n (suc i) = part_row o i (on_by past_part i (n + 1, es))
exp_row (Exp.chain e ls) n (suc zero) = pending 0 (n + 1)
exp_row (Exp.chain e ls) n (suc (suc i)) = link_row (on_by past_link i (n + 1 + nodes e, ls))
exp_row (Exp.logic j e ls) n (suc zero) = pending 0 (n + 1)
exp_row (Exp.logic j e ls) n (suc (suc i)) = and_row (on_by past_and i (n + 1 + nodes e, ls))
exp_row (Exp.prefix ss e) n (suc zero) = pending 0 (n + 1)
exp_row (Exp.prefix ss e) n (suc (suc i)) = sign_row (on_by past_sign i (reverse ss))
exp_row (Exp.postfix e ss) n (suc zero) = pending 0 (n + 1)
exp_row (Exp.postfix e ss) n (suc (suc i)) = spot_row (on_by past_spot i (spot_of (n + 1 + nodes e) ss))
exp_row _ n k = no_step

-- ---- statements and blocks

abbrev pub arm_row : Option (ℕ × Arms) → Row
arm_row (Some (m, Arms.arm p e b arms)) = pending 0 m
arm_row _ = no_step

abbrev pub stm_row : Stm → (n k : ℕ) → Row
stm_row (Stm.set x p e) n (suc zero) = pending 0 (n + 1)
stm_row (Stm.add x q p e) n (suc zero) = pending 0 (n + 1)
stm_row (Stm.put x q p i e) n (suc zero) = pending 0 (n + 1)
stm_row (Stm.put x q p i e) n (suc (suc zero)) = pending 1 (n + 1 + nodes i)
stm_row (Stm.return p e) n (suc zero) = pending 0 (n + 1)
stm_row (Stm.cases p arms els) n (suc i) = arm_row (on_by past_arm i (n + 1, arms))
stm_row (Stm.while p e b) n (suc zero) = pending 0 (n + 1)
stm_row (Stm.while p e b) n (suc (suc zero)) = pending 0 (n + 1 + nodes e)
stm_row (Stm.repeat p b e) n (suc zero) = pending 0 (n + 1)
stm_row (Stm.repeat p b e) n (suc (suc zero)) = pending 0 (n + 1 + block_nodes b)
stm_row (Stm.for p x e b) n (suc zero) = pending 0 (n + 1)
stm_row (Stm.for p x e b) n (suc (suc zero)) = turn (n + 1 + nodes e)
stm_row (Stm.just p e) n (suc zero) = pending 0 (n + 1)
stm_row _ n k = no_step

-- the nodes of the arms' blocks, from an arm at this node on
abbrev pub arm_blocks : ℕ → Arms → List ℕ
arm_blocks m Arms.no_arms = []
arm_blocks m (Arms.arm p e b arms) = (m + nodes e) ∷ arm_blocks (m + nodes e + block_nodes b) arms

abbrev pub else_block : ℕ → Else → List ℕ
else_block m Else.no_else = []
else_block m (Else.otherwise b) = m ∷ []

-- the nodes that may run for the statement at this node: an `if` is no longer under way where the block of one of its arms runs
abbrev pub stm_places : ℕ → Stm → List ℕ
stm_places m (Stm.cases p arms els) = m ∷ (arm_blocks (m + 1) arms ++ else_block (m + 1 + arms_nodes arms) els)
stm_places m _ = m ∷ []

-- the statement before the next one runs
abbrev pub ran_row : Option (ℕ × Stms) → Row
ran_row (Some (m, Stms.stm a more)) = part 0 (stm_places m a)
ran_row _ = no_step

-- at step k the statement k is next, from 0; before the first one nothing runs
abbrev pub block_row : Stms → (n k : ℕ) → Row
block_row b n zero = part 0 []
block_row b n (suc i) = ran_row (on_by past_stm i (n + 1, b))

abbrev pub row : Option Node → (n k : ℕ) → Row
row (Some (exp_node e)) n k = exp_row e n k
row (Some (stm_node a)) n k = stm_row a n k
row (Some (block_node b)) n k = block_row b n k
row None n k = no_step

-- ---- what a row says

-- how many values are kept
abbrev pub keeps : Row → ℕ
keeps (part k ms) = k
keeps (turn m) = 2
keeps star = 1
keeps outputs = 1
keeps open_call = 0
keeps no_step = 0

-- the nodes that are pending or run
abbrev pub places : Row → List ℕ
places (part k ms) = ms
places (turn m) = m ∷ []
places star = []
places outputs = []
places open_call = []
places no_step = []

abbrev pub IsStep : Row → Type 0
IsStep no_step = ⊥
IsStep _ = Unit {0}

abbrev pub IsOpenCall : Row → Type 0
IsOpenCall open_call = Unit {0}
IsOpenCall _ = ⊥

abbrev pub IsWaiting : Row → Type 0
IsWaiting star = Unit {0}
IsWaiting outputs = Unit {0}
IsWaiting _ = ⊥
