-- What a piece of script means: an end, or a description made and what comes then, or a wait and what comes for each answer.
use Rattle.std.specs.Prelude.{ℕ, suc, ◌+◌, List, [], ◌∷◌, Bool, true, false, Option, Some, None, Ok, Err, nat_lt, pos}
use Rattle.sky_base.specs.Val.{Val, Vals, Pairs, Desc, null, num, list, refs, refs_to}
use Rattle.sky_base.specs.Op.{Answer}
use Rattle.sky_base.specs.Tree.{Place, Form, Junction, SignAt, Exp, Exps, Links, Ands, Steps, Stms, Arms, Else, Oper}
use Rattle.sky_base.specs.declared.fault.FaultKind.{FaultKind}
use Rattle.sky_base.specs.declared.fault.Fault.{Fault}

-- how many nodes a task may visit
unfoldable pub visits : ℕ
visits = 1000000

-- how many bodies a task may have open beside its own
unfoldable pub others : ℕ
others = 63

abbrev pub bodies : ℕ
bodies = suc others

-- an object: bytes, a value or a fault
pub data Object (N : Type 0) : Type 0 where
  bytes : List ℕ → Object N
  data_of : Val N → Object N
  fault : Fault → Object N

-- what an object refers to
abbrev pub object_refs : {N : Type 0} → Object N → List (Desc N)
object_refs (Object.bytes b) = []
object_refs (Object.data_of v) = refs v
object_refs (Object.fault f) = []

-- how a piece of script ends: it goes on, or it is an expression with its value, or the body returns, or there is a fault
pub data End (N : Type 0) : Type 0 where
  goes : End N
  got : Val N → End N
  returned : Val N → End N
  failed : Fault → End N

pub record St (N : Type 0) : Type 0 where
  pub vars : Pairs N
  pub count : ℕ

-- A form that is under way: its node, its step (where the form has more than one), the number of the node that comes next, what is still to come, and
-- what it keeps.
pub data Entry (N : Type 0) : Type 0 where
  parens_in : (n : ℕ) → Entry N
  part_at : (n step next : ℕ) → Form → Place → List (Val N) → Exps → Entry N
  chain_first : (n next : ℕ) → Links → Entry N
  chain_more : (n step next : ℕ) → Oper → Place → Val N → Links → Entry N
  -- the place is that of the operator before this operand
  logic_at : (n step next : ℕ) → Junction → Place → Ands → Entry N
  -- the signs that are still to come, the nearest first
  prefix_part : (n : ℕ) → List SignAt → Entry N
  star_wait : (n step : ℕ) → Desc N → List SignAt → Entry N
  postfix_first : (n next : ℕ) → Steps → Entry N
  index_at : (n step next : ℕ) → Place → Val N → Steps → Entry N
  -- the function, the arguments so far, those to come, and the steps after this call
  arg_at : (n step next : ℕ) → Place → Val N → List (Val N) → Exps → Steps → Entry N
  -- the name of the function whose body is open, and the caller's variables
  call_open : (n step next : ℕ) → List ℕ → Pairs N → Steps → Entry N
  exec_wait : (n : ℕ) → List (Desc N) → Entry N
  set_part : (n : ℕ) → List ℕ → Entry N
  add_part : (n : ℕ) → List ℕ → Place → Place → Entry N
  put_index : (n next : ℕ) → List ℕ → Place → Place → Exp → Entry N
  put_value : (n : ℕ) → List ℕ → Place → Place → Val N → Entry N
  return_part : (n : ℕ) → Entry N
  just_part : (n : ℕ) → Entry N
  -- the arm's block and its node, the further arms, and the last block with its node
  arm_test : (n step block other : ℕ) → Place → Stms → Arms → Else → Entry N
  while_test : (n block : ℕ) → Place → Exp → Stms → Entry N
  while_body : (n block : ℕ) → Place → Exp → Stms → Entry N
  repeat_body : (n test : ℕ) → Place → Stms → Exp → Entry N
  repeat_test : (n test : ℕ) → Place → Stms → Exp → Entry N
  for_list : (n block : ℕ) → Place → List ℕ → Stms → Entry N
  -- the list as it was at the start, and how many elements were taken
  for_body : (n block taken : ℕ) → Place → List ℕ → Vals N → Stms → Entry N
  -- the statement that is next, its node and those after it
  block_at : (n step next : ℕ) → Stms → Entry N

-- what is waited for: one reference, at the place of the `*`, or all outputs of an `exec`
pub data Wait (N : Type 0) : Type 0 where
  one_of : Place → Desc N → Wait N
  all_of : List (Desc N) → Wait N

pub data Res (N : Type 0) : Type 0 where
  Fin : End N → St N → Res N
  -- a description is made
  Tell : Desc N → Res N → Res N
  -- the forms under way, the outermost first, and what comes for the objects of the wait, in its order
  Ask : Wait N → List (Entry N) → St N → (List (Object N) → Res N) → Res N

abbrev pub fault_at : FaultKind → Place → Fault
fault_at k p = record { kind = k; line = p.line; col = p.col }

module _ {N : Type 0} where
  -- the node and the step of an entry, as saved stacks number them
  abbrev pub node_of : Entry N → ℕ
  node_of (parens_in n) = n
  node_of (part_at n k m o p vs es) = n
  node_of (chain_first n m ls) = n
  node_of (chain_more n k m o p v ls) = n
  node_of (logic_at n k m j p ls) = n
  node_of (prefix_part n ss) = n
  node_of (star_wait n k d ss) = n
  node_of (postfix_first n m ss) = n
  node_of (index_at n k m p v ss) = n
  node_of (arg_at n k m p f vs es ss) = n
  node_of (call_open n k m f xs ss) = n
  node_of (exec_wait n ds) = n
  node_of (set_part n x) = n
  node_of (add_part n x q p) = n
  node_of (put_index n m x q p e) = n
  node_of (put_value n x q p v) = n
  node_of (return_part n) = n
  node_of (just_part n) = n
  node_of (arm_test n k m i p b arms els) = n
  node_of (while_test n m p e b) = n
  node_of (while_body n m p e b) = n
  node_of (repeat_body n m p b e) = n
  node_of (repeat_test n m p b e) = n
  node_of (for_list n m p x b) = n
  node_of (for_body n m t p x vs b) = n
  node_of (block_at n k m b) = n

  abbrev pub step_of : Entry N → ℕ
  step_of (parens_in n) = 1
  step_of (part_at n k m o p vs es) = k
  step_of (chain_first n m ls) = 1
  step_of (chain_more n k m o p v ls) = k
  step_of (logic_at n k m j p ls) = k
  step_of (prefix_part n ss) = 1
  step_of (star_wait n k d ss) = k
  step_of (postfix_first n m ss) = 1
  step_of (index_at n k m p v ss) = k
  step_of (arg_at n k m p f vs es ss) = k
  step_of (call_open n k m f xs ss) = k
  step_of (exec_wait n ds) = 4
  step_of (set_part n x) = 1
  step_of (add_part n x q p) = 1
  step_of (put_index n m x q p e) = 1
  step_of (put_value n x q p v) = 2
  step_of (return_part n) = 1
  step_of (just_part n) = 1
  step_of (arm_test n k m i p b arms els) = k
  step_of (while_test n m p e b) = 1
  step_of (while_body n m p e b) = 2
  step_of (repeat_body n m p b e) = 1
  step_of (repeat_test n m p b e) = 2
  step_of (for_list n m p x b) = 1
  step_of (for_body n m t p x vs b) = 2
  step_of (block_at n k m b) = k

  -- the values of the frame's stack that belong to an entry, the deepest first
  abbrev pub kept_of : Entry N → List (Val N)
  kept_of (part_at n k m o p vs es) = vs
  kept_of (chain_more n k m o p v ls) = v ∷ []
  kept_of (star_wait n k d ss) = Val.ref d ∷ []
  kept_of (index_at n k m p v ss) = v ∷ []
  kept_of (arg_at n k m p f vs es ss) = f ∷ vs
  kept_of (exec_wait n ds) = list (refs_to ds) ∷ []
  kept_of (put_value n x q p v) = v ∷ []
  kept_of (for_body n m t p x vs b) = list vs ∷ num (pos t) ∷ []
  kept_of _ = []

  -- the function and the caller's variables, where the entry is an open call
  abbrev pub opens : Entry N → Option (List ℕ × Pairs N)
  opens (call_open n k m f xs ss) = Some (f, xs)
  opens _ = None

  -- goes on from the end of a run; at each of its waits the form is under way
  abbrev pub then_do : Res N → Entry N → (End N → St N → Res N) → Res N
  then_do (Fin e st) en k = k e st
  then_do (Tell d r) en k = Tell d (then_do r en k)
  then_do (Ask w fr st c) en k = Ask w (en ∷ fr) st (λ os. then_do (c os) en k)

  -- goes on from a value; the other ends pass
  abbrev pub on_got : (Val N → St N → Res N) → End N → St N → Res N
  on_got k End.goes st = Fin End.goes st
  on_got k (End.got v) st = k v st
  on_got k (End.returned v) st = Fin (End.returned v) st
  on_got k (End.failed f) st = Fin (End.failed f) st

  -- goes on from a statement that does; the other ends pass
  abbrev pub on_goes : (St N → Res N) → End N → St N → Res N
  on_goes k End.goes st = k st
  on_goes k (End.got v) st = Fin (End.got v) st
  on_goes k (End.returned v) st = Fin (End.returned v) st
  on_goes k (End.failed f) st = Fin (End.failed f) st

  abbrev pub with_vars : Pairs N → St N → St N
  with_vars xs st = record { vars = xs; count = st.count }

  -- goes on from a body's end with the caller's variables: without `return` the value is null
  abbrev pub on_body : Pairs N → (Val N → St N → Res N) → End N → St N → Res N
  on_body xs k End.goes st = k null (with_vars xs st)
  on_body xs k (End.got v) st = k v (with_vars xs st)
  on_body xs k (End.returned v) st = k v (with_vars xs st)
  on_body xs k (End.failed f) st = Fin (End.failed f) (with_vars xs st)

  abbrev pub fails : FaultKind → Place → St N → Res N
  fails k p st = Fin (End.failed (fault_at k p)) st

  -- an expression ends with this value
  abbrev pub gives : Val N → St N → Res N
  gives v st = Fin (End.got v) st

  abbrev pub counted : St N → St N
  counted st = record { vars = st.vars; count = st.count + 1 }

  abbrev pub visited : Bool → Place → St N → (St N → Res N) → Res N
  visited true p st k = k (counted st)
  visited false p st k = fails FaultKind.TooLong p st

  -- one visit more, or TooLong at this place
  abbrev pub visit : Place → St N → (St N → Res N) → Res N
  visit p st k = visited (nat_lt st.count visits) p st k

  -- goes on with an operator's value, or ends with its fault at this place
  abbrev pub answer : Answer N → Place → St N → (Val N → St N → Res N) → Res N
  answer (Ok v) p st k = k v st
  answer (Err e) p st k = fails e p st

  -- these descriptions are made, in order
  abbrev pub tell_all : List (Desc N) → Res N → Res N
  tell_all [] r = r
  tell_all (d ∷ ds) r = Tell d (tell_all ds r)
