-- What a piece of script does.
use Rattle.std.specs.Prelude.{ℕ, zero, suc, ◌+◌, List, [], ◌∷◌, ◌++◌, length, reverse, map, Bool, true, false, ◌&&◌, Option, Some, None, Ok, Err}
use Rattle.std.specs.Prelude.{nat_eq, nat_lt, pos, negsuc}
use Rattle.sky_base.specs.Val.{Val, Vals, Pairs, Desc, null, truth, num, text, list, fun, ref, no_vals, val, no_pairs, pair, call, out, input, count}
use Rattle.sky_base.specs.Val.{vals_of, refs_to, same_text}
use Rattle.sky_base.specs.Op.{Answer, plus, minus, times, over, rest, compare, index, set_at, limited, find, put, negated, opposite, len, keys, has}
use Rattle.sky_base.specs.Op.{range, grown, dict_from}
use Rattle.sky_base.specs.Tree.{Place, nowhere, Lit, Oper, Junction, Sign, SignAt, Form, Exp, Exps, Links, Ands, Steps, Stm, Stms, Arms, Else, FunDef}
use Rattle.sky_base.specs.Tree.{Script, nodes, stm_nodes, block_nodes, arms_nodes}
use Rattle.sky_base.specs.Res.{visits, Object, End, St, Entry, parens_in, part_at, chain_first, chain_more, logic_at, prefix_part, star_wait}
use Rattle.sky_base.specs.Res.{postfix_first, index_at, arg_at, call_open, exec_wait, set_part, add_part, put_index, put_value, return_part}
use Rattle.sky_base.specs.Res.{just_part, arm_test, while_test, while_body, repeat_body, repeat_test, for_list, for_body, block_at, Wait, one_of}
use Rattle.sky_base.specs.Res.{all_of, Res, Fin, Tell, Ask, fault_at, then_do, on_got, on_goes, with_vars, on_body, fails, gives, visit, answer}
use Rattle.sky_base.specs.Res.{tell_all}
use Rattle.sky_base.specs.declared.fault.FaultKind.{FaultKind}

-- what a script is run with: what a reference to a new description holds, and how bytes are read as data
pub record World (N : Type 0) : Type 0 where
  pub make : Desc N → Desc N
  pub reads : List ℕ → Answer N
  pub script : Script

-- how many outputs an executor task may have
abbrev pub most_outputs : ℕ
most_outputs = 64

-- ---- functions and names

abbrev pub find_fun_if : Bool → FunDef → Option FunDef → Option FunDef
find_fun_if true f rest = Some f
find_fun_if false f rest = rest

abbrev pub find_fun : List ℕ → List FunDef → Option FunDef
find_fun x [] = None
find_fun x (f ∷ fs) = find_fun_if (same_text x f.name) f (find_fun x fs)

abbrev pub is_one_of : List ℕ → List (List ℕ) → Bool
is_one_of x [] = false
is_one_of x (k ∷ ks) = either_of (same_text x k) (is_one_of x ks)
  where
    either_of : Bool → Bool → Bool
    either_of true b = true
    either_of false b = b

-- a body with its parameters and the node of its block
pub record Body : Type 0 where
  pub params : List (List ℕ)
  pub block : Stms
  pub node : ℕ

abbrev pub find_body_if : Bool → FunDef → ℕ → Option Body → Option Body
find_body_if true f i rest = Some (record { params = f.params; block = f.body; node = i })
find_body_if false f i rest = rest

abbrev pub find_body : List ℕ → List FunDef → ℕ → Option Body
find_body x [] i = None
find_body x (f ∷ fs) i = find_body_if (same_text x f.name) f i (find_body x fs (i + block_nodes f.body))

-- the body of a function; the empty name is that of `main`
abbrev pub body_of : List ℕ → Script → Option Body
body_of [] sc = Some (record { params = []; block = sc.main; node = 0 })
body_of (b ∷ bs) sc = find_body (b ∷ bs) sc.funs (block_nodes sc.main)

module _ {N : Type 0} where
  -- the parameters bound to the arguments
  abbrev pub bind : List (List ℕ) → Vals N → Pairs N → Pairs N
  bind [] vs ps = ps
  bind (x ∷ xs) no_vals ps = ps
  bind (x ∷ xs) (val v vs) ps = bind xs vs (put x v ps)

  abbrev pub set_var : List ℕ → Val N → St N → St N
  set_var x v st = with_vars (put x v st.vars) st

  abbrev pub lit_val : Lit → Val N
  lit_val Lit.null = null
  lit_val (Lit.truth b) = truth b
  lit_val (Lit.num z) = num z
  lit_val (Lit.text t) = text t

  -- the variable, else the function of that name, else Unknown
  abbrev pub fun_named : Option FunDef → List ℕ → Answer N
  fun_named None x = Err FaultKind.Unknown
  fun_named (Some f) x = limited (fun x no_pairs)

  -- those of the pairs whose keys are among these names
  abbrev pub caught_if : Bool → List ℕ → Val N → Pairs N → Pairs N
  caught_if true k v ps = pair k v ps
  caught_if false k v ps = ps

  abbrev pub caught_by : List (List ℕ) → Pairs N → Pairs N
  caught_by xs no_pairs = no_pairs
  caught_by xs (pair k v ps) = caught_if (is_one_of k xs) k v (caught_by xs ps)

  -- an anonymous function, which captures the variables that its body uses
  abbrev pub closed : Option FunDef → List ℕ → Pairs N → Answer N
  closed None x vars = Err FaultKind.Unknown
  closed (Some f) x vars = limited (fun x (caught_by f.uses vars))

  abbrev pub named : Option (Val N) → List ℕ → List FunDef → Answer N
  named (Some v) x fs = Ok v
  named None x fs = fun_named (find_fun x fs) x

  abbrev pub oper : Oper → Val N → Val N → Answer N
  oper Oper.plus a b = plus a b
  oper Oper.minus a b = minus a b
  oper Oper.times a b = times a b
  oper Oper.over a b = over a b
  oper Oper.rest a b = rest a b
  oper (Oper.compare o) a b = compare o a b

  -- ---- waits

  -- the first of these that is a fault; else the list of the references
  abbrev pub exec_end : List (Desc N) → List (Object N) → End N
  exec_end ds [] = End.got (list (refs_to ds))
  exec_end ds (Object.bytes b ∷ os) = exec_end ds os
  exec_end ds (Object.data_of v ∷ os) = exec_end ds os
  exec_end ds (Object.fault f ∷ os) = End.failed f

  abbrev pub read_end : Answer N → Place → End N
  read_end (Ok v) p = End.got v
  read_end (Err k) p = End.failed (fault_at k p)

  -- the n outputs of an executor task, from the i-th
  abbrev pub outputs : List ℕ → Val N → ℕ → ℕ → ℕ → List (Desc N)
  outputs x a n i zero = []
  outputs x a n i (suc m) = out x a n i ∷ outputs x a n (suc i) m

  -- ---- truth values

  -- a truth value, or BadKind
  abbrev pub truth_of : Val N → Answer N
  truth_of (truth b) = Ok (truth b)
  truth_of _ = Err FaultKind.BadKind

  -- by a truth value, or BadKind at this place
  abbrev pub decide : Val N → Place → St N → (St N → Res N) → (St N → Res N) → Res N
  decide (truth true) p st on off = on st
  decide (truth false) p st on off = off st
  decide _ p st on off = fails FaultKind.BadKind p st

  -- whether a left value decides a chain; else it goes on
  abbrev pub joins : Junction → Val N → Place → St N → (St N → Res N) → Res N
  joins Junction.both v p st k = decide v p st k (λ s. gives (truth false) s)
  joins Junction.either v p st k = decide v p st (λ s. gives (truth true) s) k

  -- ---- `x += e;` and `x[i] = e;`

  abbrev pub add_to : Option (Val N) → List ℕ → Place → Place → Val N → St N → Res N
  add_to None x q p e st = fails FaultKind.Unknown q st
  add_to (Some v) x q p e st = answer (grown v e) p st (λ u s. Fin End.goes (set_var x u s))

  abbrev pub put_in : Option (Val N) → List ℕ → Place → Place → Val N → Val N → St N → Res N
  put_in None x q p i e st = fails FaultKind.Unknown q st
  put_in (Some v) x q p i e st = answer (set_at v i e) p st (λ u s. Fin End.goes (set_var x u s))

  -- what is left of a list
  abbrev pub left : ℕ → Vals N → Vals N
  left zero vs = vs
  left (suc k) no_vals = no_vals
  left (suc k) (val v vs) = left k vs

  -- ---- loops: at most so many turns, each of which visits a node

  abbrev pub turns : ℕ → (n block : ℕ) → Place → Exp → Stms → (St N → Res N) → (St N → Res N) → St N → Res N
  turns zero n m p e b test run st = fails FaultKind.TooLong p st
  turns (suc f) n m p e b test run st =
      then_do (test st) (while_test n m p e b) (on_got
      (λ v s. decide v p s (λ t. then_do (run t) (while_body n m p e b) (on_goes (turns f n m p e b test run))) (λ t. Fin End.goes t)))

  abbrev pub repeats : ℕ → (n test : ℕ) → Place → Stms → Exp → (St N → Res N) → (St N → Res N) → St N → Res N
  repeats zero n m p b e run test st = fails FaultKind.TooLong p st
  repeats (suc f) n m p b e run test st =
      then_do (run st) (repeat_body n m p b e) (on_goes
      (λ s. then_do (test s) (repeat_test n m p b e) (on_got (λ v t. decide v p t (repeats f n m p b e run test) (λ u. Fin End.goes u)))))

  -- a turn for each element that is left, of which so many are taken
  abbrev pub each : Vals N → (n block taken : ℕ) → Place → List ℕ → Vals N → Stms → (St N → Res N) → St N → Res N
  each no_vals n m t p x whole b run st = Fin End.goes st
  each (val v vs) n m t p x whole b run st =
      visit p st (λ s. then_do (run (set_var x v s)) (for_body n m (suc t) p x whole b) (on_goes (each vs n m (suc t) p x whole b run)))

  abbrev pub each_of : Val N → (n block : ℕ) → Place → List ℕ → Stms → (St N → Res N) → St N → Res N
  each_of (list vs) n m p x b run st = each vs n m 0 p x vs b run st
  each_of _ n m p x b run st = fails FaultKind.BadKind p st

  -- ---- parts of a form, by their number

  abbrev pub with_one : List (Val N) → Place → St N → (Val N → Res N) → Res N
  with_one (a ∷ []) p st k = k a
  with_one _ p st k = fails FaultKind.BadKind p st

  abbrev pub with_two : List (Val N) → Place → St N → (Val N → Val N → Res N) → Res N
  with_two (a ∷ b ∷ []) p st k = k a b
  with_two _ p st k = fails FaultKind.BadKind p st

  abbrev pub with_three : List (Val N) → Place → St N → (Val N → Val N → Val N → Res N) → Res N
  with_three (a ∷ b ∷ c ∷ []) p st k = k a b c
  with_three _ p st k = fails FaultKind.BadKind p st

module _ {N : Type 0} (w : World N) where
  -- how a wait ends with the objects of what it waits for
  abbrev pub wait_end : Wait N → List (Object N) → End N
  wait_end (one_of p d) [] = End.got null
  wait_end (one_of p d) (Object.bytes b ∷ os) = read_end (w.reads b) p
  wait_end (one_of p d) (Object.data_of v ∷ os) = End.got v
  wait_end (one_of p d) (Object.fault f ∷ os) = End.failed f
  wait_end (all_of ds) os = exec_end ds os

  abbrev pub ask : Wait N → St N → Res N
  ask q st = Ask q [] st (λ os. Fin (wait_end q os) st)

  -- ---- the words that make descriptions

  abbrev pub make_one : Desc N → St N → Res N
  make_one d st = Tell d (gives (ref (w.make d)) st)

  abbrev pub spawn_if : Bool → Desc N → Place → St N → Res N
  spawn_if false d p st = fails FaultKind.WrongCount p st
  spawn_if true d p st = make_one d st

  abbrev pub spawn_fun : Option FunDef → List ℕ → Pairs N → Vals N → Place → St N → Res N
  spawn_fun None f c vs p st = fails FaultKind.BadKind p st
  spawn_fun (Some d) f c vs p st = spawn_if (nat_eq (length d.params) (count vs)) (call f c vs) p st

  abbrev pub spawn_list : List ℕ → Pairs N → Val N → Place → St N → Res N
  spawn_list f c (list vs) p st = spawn_fun (find_fun f w.script.funs) f c vs p st
  spawn_list f c _ p st = fails FaultKind.BadKind p st

  abbrev pub spawned : Val N → Val N → Place → St N → Res N
  spawned (fun f c) a p st = spawn_list f c a p st
  spawned _ a p st = fails FaultKind.BadKind p st

  -- the outputs of an executor task where their number is right, made in order, with the references to them
  abbrev pub outputs_if : Bool → List (Desc N) → Place → St N → (List (Desc N) → St N → Res N) → Res N
  outputs_if false ds p st k = fails FaultKind.BadCount p st
  outputs_if true ds p st k = tell_all ds (k (map w.make ds) st)

  abbrev pub outputs_count : List ℕ → Val N → Val N → Place → St N → (List (Desc N) → St N → Res N) → Res N
  outputs_count x a (num (pos n)) p st k = outputs_if (nat_lt 0 n && nat_lt n (suc most_outputs)) (outputs x a n 0 n) p st k
  outputs_count x a (num (negsuc n)) p st k = fails FaultKind.BadCount p st
  outputs_count x a _ p st k = fails FaultKind.BadKind p st

  abbrev pub outputs_of : Val N → Val N → Val N → Place → St N → (List (Desc N) → St N → Res N) → Res N
  outputs_of (text x) a n p st k = outputs_count x a n p st k
  outputs_of _ a n p st k = fails FaultKind.BadKind p st

  abbrev pub exec_ask : ℕ → List (Desc N) → St N → Res N
  exec_ask n ds st = then_do (ask (all_of ds) st) (exec_wait n ds) (on_got gives)

  abbrev pub input_if : Bool → List ℕ → Place → St N → Res N
  input_if false k p st = fails FaultKind.Unknown p st
  input_if true k p st = make_one (input k) st

  abbrev pub input_of : Val N → Place → St N → Res N
  input_of (text k) p st = input_if (is_one_of k w.script.keys) k p st
  input_of _ p st = fails FaultKind.BadKind p st

  -- what a form makes of its parts, when it has been visited
  abbrev pub formed : Form → List (Val N) → ℕ → Place → St N → Res N
  formed Form.list vs n p st = answer (limited (list (vals_of vs))) p st gives
  formed Form.dict vs n p st = answer (dict_from vs no_pairs) p st gives
  formed Form.spawn vs n p st = with_two vs p st (λ g a. spawned g a p st)
  formed Form.spawn_exec vs n p st =
      with_three vs p st (λ x a c. outputs_of x a c p st (λ ds s. gives (list (refs_to ds)) s))
  formed Form.exec vs n p st = with_three vs p st (λ x a c. outputs_of x a c p st (λ ds s. exec_ask n ds s))
  formed Form.ref vs n p st = with_one vs p st (λ k. input_of k p st)
  formed Form.len vs n p st = with_one vs p st (λ v. answer (len v) p st gives)
  formed Form.keys vs n p st = with_one vs p st (λ v. answer (keys v) p st gives)
  formed Form.has vs n p st = with_two vs p st (λ d k. answer (has d k) p st gives)
  formed Form.range vs n p st = with_two vs p st (λ a b. answer (range a b) p st gives)

  -- ---- signs, the nearest first, from a step

  abbrev pub deref : Val N → (n step : ℕ) → List SignAt → Place → St N → (Val N → St N → Res N) → Res N
  deref (ref d) n k ss p st go = then_do (ask (one_of p d) st) (star_wait n k d ss) (on_got go)
  deref _ n k ss p st go = fails FaultKind.BadKind p st

  abbrev pub signed : Sign → Val N → (n step : ℕ) → List SignAt → Place → St N → (Val N → St N → Res N) → Res N
  signed Sign.not v n k ss p st go = answer (opposite v) p st go
  signed Sign.minus v n k ss p st go = answer (negated v) p st go
  signed Sign.star v n k ss p st go = deref v n k ss p st go

  abbrev pub signs : List SignAt → (n step : ℕ) → Val N → St N → Res N
  signs [] n k v st = gives v st
  signs (o ∷ ss) n k v st =
      visit o.place st (λ s. signed o.sign v n k ss o.place s (λ u t. signs ss n (k + 1) u t))

  -- ---- calls

  abbrev pub call_if : Bool → Place → St N → Res N → Res N
  call_if false p st r = fails FaultKind.WrongCount p st
  call_if true p st r = r

  abbrev pub call_fun : Option FunDef → Vals N → Place → St N → Res N → Res N
  call_fun None vs p st r = fails FaultKind.BadKind p st
  call_fun (Some d) vs p st r = call_if (nat_eq (length d.params) (count vs)) p st r

  abbrev pub called : Val N → Vals N → Place → St N → (List ℕ → Pairs N → Res N) → Res N
  called (fun f c) vs p st k = call_fun (find_fun f w.script.funs) vs p st (k f c)
  called _ vs p st k = fails FaultKind.BadKind p st

  -- what a call of a function with this number of arguments does: handed in, for the bodies below
  module _ (body : List ℕ → Pairs N → Vals N → Place → St N → Res N) where
    -- opens the body, and goes on with its value and the caller's variables
    abbrev pub enter : List ℕ → Pairs N → Vals N → Place → (n step next : ℕ) → Steps → St N → (Val N → St N → Res N) → Res N
    enter f c vs p n k m ss st go = then_do (body f c vs p st) (call_open n k m f st.vars ss) (on_body st.vars go)

    abbrev mutual
      -- an expression at its node
      pub eval : Exp → ℕ → St N → Res N
      eval (Exp.literal v p) n st = visit p st (λ s. answer (limited (lit_val v)) p s gives)
      eval (Exp.name x p) n st = visit p st (λ s. answer (named (find x s.vars) x w.script.funs) p s gives)
      eval (Exp.func x p) n st = visit p st (λ s. answer (closed (find_fun x w.script.funs) x s.vars) p s gives)
      eval (Exp.parens e) n st = then_do (eval e (n + 1) st) (parens_in n) (on_got gives)
      eval (Exp.parts o p es) n st = eval_parts es n 1 (n + 1) o p [] st
      eval (Exp.chain e ls) n st =
          then_do (eval e (n + 1) st) (chain_first n (n + 1 + nodes e) ls) (on_got (λ v s. eval_links ls n 2 (n + 1 + nodes e) v s))
      eval (Exp.logic j e ls) n st =
          then_do (eval e (n + 1) st) (logic_at n 1 (n + 1 + nodes e) j nowhere ls) (on_got (λ v s. eval_ands ls n 2 (n + 1 + nodes e) j nowhere v s))
      eval (Exp.prefix ss e) n st =
          then_do (eval e (n + 1) st) (prefix_part n (reverse ss)) (on_got (λ v s. signs (reverse ss) n 2 v s))
      eval (Exp.postfix e ss) n st =
          then_do (eval e (n + 1) st) (postfix_first n (n + 1 + nodes e) ss) (on_got (λ v s. eval_steps ss n 2 (n + 1 + nodes e) v s))

      -- the parts of a form from a step and a node, with the values so far
      pub eval_parts : Exps → (n step next : ℕ) → Form → Place → List (Val N) → St N → Res N
      eval_parts Exps.no_exps n k m o p vs st = visit p st (λ s. formed o vs n p s)
      eval_parts (Exps.exp e es) n k m o p vs st =
          then_do (eval e m st) (part_at n k (m + nodes e) o p vs es) (on_got (λ v s. eval_parts es n (k + 1) (m + nodes e) o p (vs ++ v ∷ []) s))

      -- the operators of a chain, with the value so far
      pub eval_links : Links → (n step next : ℕ) → Val N → St N → Res N
      eval_links Links.no_links n k m v st = gives v st
      eval_links (Links.link o p e ls) n k m v st =
          then_do (eval e m st) (chain_more n k (m + nodes e) o p v ls)
          (on_got (λ x s. visit p s (λ t. answer (oper o v x) p t (λ y u. eval_links ls n (k + 1) (m + nodes e) y u))))

      -- the operators after an operand with this value, before which the operator at q stands
      pub eval_ands : Ands → (n step next : ℕ) → Junction → Place → Val N → St N → Res N
      eval_ands Ands.no_ands n k m j q v st = answer (truth_of v) q st gives
      eval_ands (Ands.and p e ls) n k m j q v st =
          visit p st (λ s. joins j v p s (λ t. then_do (eval e m t) (logic_at n k (m + nodes e) j p ls)
          (on_got (λ x u. eval_ands ls n (k + 1) (m + nodes e) j p x u))))

      -- the indices and calls, with the value so far
      pub eval_steps : Steps → (n step next : ℕ) → Val N → St N → Res N
      eval_steps Steps.no_steps n k m v st = gives v st
      eval_steps (Steps.index e p ss) n k m v st =
          then_do (eval e m st) (index_at n k (m + nodes e) p v ss)
          (on_got (λ x s. visit p s (λ t. answer (index v x) p t (λ y u. eval_steps ss n (k + 1) (m + nodes e) y u))))
      eval_steps (Steps.call es p ss) n k m v st =
          eval_args es n k m p v [] ss (λ l i f c vs s. enter f c vs p n l i ss s (λ y u. eval_steps ss n (l + 1) i y u)) st

      -- the arguments from a step and a node, with those so far; then the call, at the step and the node that come next
      pub eval_args : Exps → (n step next : ℕ) → Place → Val N → List (Val N) → Steps → (ℕ → ℕ → List ℕ → Pairs N → Vals N → St N → Res N) → St N
          → Res N
      eval_args Exps.no_exps n k m p g vs ss go st =
          visit p st (λ s. called g (vals_of vs) p s (λ f c. go k m f c (vals_of vs) s))
      eval_args (Exps.exp e es) n k m p g vs ss go st =
          then_do (eval e m st) (arg_at n k (m + nodes e) p g vs es ss)
          (on_got (λ v s. eval_args es n (k + 1) (m + nodes e) p g (vs ++ v ∷ []) ss go s))

    abbrev mutual
      -- a statement at its node
      pub eval_stm : Stm → ℕ → St N → Res N
      eval_stm (Stm.set x p e) n st =
          visit p st (λ s. then_do (eval e (n + 1) s) (set_part n x) (on_got (λ v t. Fin End.goes (set_var x v t))))
      eval_stm (Stm.add x q p e) n st =
          visit p st (λ s. then_do (eval e (n + 1) s) (add_part n x q p) (on_got (λ v t. add_to (find x t.vars) x q p v t)))
      eval_stm (Stm.put x q p i e) n st =
          visit p st (λ s. then_do (eval i (n + 1) s) (put_index n (n + 1 + nodes i) x q p e)
          (on_got (λ v t. then_do (eval e (n + 1 + nodes i) t) (put_value n x q p v) (on_got (λ y u. put_in (find x u.vars) x q p v y u)))))
      eval_stm (Stm.return p e) n st =
          visit p st (λ s. then_do (eval e (n + 1) s) (return_part n) (on_got (λ v t. Fin (End.returned v) t)))
      eval_stm (Stm.leave p) n st = visit p st (λ s. Fin (End.returned null) s)
      eval_stm (Stm.cases p arms els) n st =
          visit p st (λ s. eval_arms arms n 1 (n + 1) (n + 1 + arms_nodes arms) els (λ t. eval_else els (n + 1 + arms_nodes arms) t) s)
      eval_stm (Stm.while p e b) n st =
          visit p st (λ s. turns (suc visits) n (n + 1 + nodes e) p e b (eval e (n + 1)) (eval_stms b (n + 1 + nodes e) 0 (n + 1 + nodes e + 1)) s)
      eval_stm (Stm.repeat p b e) n st =
          visit p st (λ s. repeats (suc visits) n (n + 1 + block_nodes b) p b e (eval_stms b (n + 1) 0 (n + 1 + 1))
          (eval e (n + 1 + block_nodes b)) s)
      eval_stm (Stm.for p x e b) n st =
          visit p st (λ s. then_do (eval e (n + 1) s) (for_list n (n + 1 + nodes e) p x b)
          (on_got (λ v t. each_of v n (n + 1 + nodes e) p x b (eval_stms b (n + 1 + nodes e) 0 (n + 1 + nodes e + 1)) t)))
      eval_stm (Stm.just p e) n st =
          visit p st (λ s. then_do (eval e (n + 1) s) (just_part n) (on_got (λ v t. Fin End.goes t)))

      -- the statements of a block, from the one of this number and its node
      pub eval_stms : Stms → (n step next : ℕ) → St N → Res N
      eval_stms Stms.no_stms n k m st = Fin End.goes st
      eval_stms (Stms.stm a more) n k m st =
          then_do (eval_stm a m st) (block_at n (k + 1) (m + stm_nodes a) more) (on_goes (λ s. eval_stms more n (k + 1) (m + stm_nodes a) s))

      -- the arms from one of this number and its node; then the last block, which is at the node i
      pub eval_arms : Arms → (n step next i : ℕ) → Else → (St N → Res N) → St N → Res N
      eval_arms Arms.no_arms n k m i els go st = go st
      eval_arms (Arms.arm p e b arms) n k m i els go st =
          then_do (eval e m st) (arm_test n k (m + nodes e) i p b arms els)
          (on_got (λ v s. decide v p s (λ t. eval_stms b (m + nodes e) 0 (m + nodes e + 1) t)
          (λ t. eval_arms arms n (k + 1) (m + nodes e + block_nodes b) i els go t)))

      pub eval_else : Else → ℕ → St N → Res N
      eval_else Else.no_else n st = Fin End.goes st
      eval_else (Else.otherwise b) n st = eval_stms b n 0 (n + 1) st

    -- the block at a node
    abbrev pub eval_block : Stms → ℕ → St N → Res N
    eval_block b n st = eval_stms b n 0 (n + 1) st

    abbrev pub go_while : (n block : ℕ) → Place → Exp → Stms → St N → Res N
    go_while n m p e b st = turns (suc visits) n m p e b (eval e (n + 1)) (eval_block b m) st

    abbrev pub go_repeat : (n test : ℕ) → Place → Stms → Exp → St N → Res N
    go_repeat n m p b e st = repeats (suc visits) n m p b e (eval_block b (n + 1)) (eval e m) st

    -- what a form under way does with the end of its part
    abbrev pub after : Entry N → End N → St N → Res N
    after (parens_in n) = on_got gives
    after (part_at n k m o p vs es) = on_got (λ v s. eval_parts es n (k + 1) m o p (vs ++ v ∷ []) s)
    after (chain_first n m ls) = on_got (λ v s. eval_links ls n 2 m v s)
    after (chain_more n k m o p v ls) =
        on_got (λ x s. visit p s (λ t. answer (oper o v x) p t (λ y u. eval_links ls n (k + 1) m y u)))
    after (logic_at n k m j q ls) = on_got (λ v s. eval_ands ls n (k + 1) m j q v s)
    after (prefix_part n ss) = on_got (λ v s. signs ss n 2 v s)
    after (star_wait n k d ss) = on_got (λ u t. signs ss n (k + 1) u t)
    after (postfix_first n m ss) = on_got (λ v s. eval_steps ss n 2 m v s)
    after (index_at n k m p v ss) =
        on_got (λ x s. visit p s (λ t. answer (index v x) p t (λ y u. eval_steps ss n (k + 1) m y u)))
    after (arg_at n k m p g vs es ss) =
        on_got (λ v s. eval_args es n (k + 1) m p g (vs ++ v ∷ []) ss
        (λ l i f c us s. enter f c us p n l i ss s (λ y u. eval_steps ss n (l + 1) i y u)) s)
    after (call_open n k m f xs ss) = on_body xs (λ y u. eval_steps ss n (k + 1) m y u)
    after (exec_wait n ds) = on_got gives
    after (set_part n x) = on_got (λ v t. Fin End.goes (set_var x v t))
    after (add_part n x q p) = on_got (λ v t. add_to (find x t.vars) x q p v t)
    after (put_index n m x q p e) =
        on_got (λ v t. then_do (eval e m t) (put_value n x q p v) (on_got (λ y u. put_in (find x u.vars) x q p v y u)))
    after (put_value n x q p v) = on_got (λ y u. put_in (find x u.vars) x q p v y u)
    after (return_part n) = on_got (λ v t. Fin (End.returned v) t)
    after (just_part n) = on_got (λ v t. Fin End.goes t)
    after (arm_test n k m i p b arms els) =
        on_got (λ v s. decide v p s (λ t. eval_block b m t) (λ t. eval_arms arms n (k + 1) (m + block_nodes b) i els (λ u. eval_else els i u) t))
    after (while_test n m p e b) =
        on_got (λ v s. decide v p s (λ t. then_do (eval_block b m t) (while_body n m p e b) (on_goes (go_while n m p e b))) (λ t. Fin End.goes t))
    after (while_body n m p e b) = on_goes (go_while n m p e b)
    after (repeat_body n m p b e) =
        on_goes (λ s. then_do (eval e m s) (repeat_test n m p b e) (on_got (λ v t. decide v p t (go_repeat n m p b e) (λ u. Fin End.goes u))))
    after (repeat_test n m p b e) = on_got (λ v t. decide v p t (go_repeat n m p b e) (λ u. Fin End.goes u))
    after (for_list n m p x b) = on_got (λ v t. each_of v n m p x b (eval_block b m) t)
    after (for_body n m t p x vs b) = on_goes (each (left t vs) n m t p x vs b (eval_block b m))
    after (block_at n k m more) = on_goes (λ s. eval_stms more n k m s)

  -- a body on its arguments, where its block is run by `run`
  abbrev pub in_body : Option Body → Pairs N → Vals N → Place → St N → (Stms → ℕ → St N → Res N) → Res N
  in_body None c vs p st run = fails FaultKind.BadKind p st
  in_body (Some b) c vs p st run = run b.block b.node (with_vars (bind b.params vs c) st)

  -- the body of a function, where so many bodies may still be opened, this one included
  abbrev pub body_at : ℕ → List ℕ → Pairs N → Vals N → Place → St N → Res N
  body_at zero f c vs p st = fails FaultKind.TooDeep p st
  body_at (suc d) f c vs p st = in_body (body_of f w.script) c vs p st (λ b n s. eval_block (body_at d) b n s)

  -- an open call leaves one body less
  abbrev pub inside : Entry N → ℕ → ℕ
  inside (call_open n k m f xs ss) zero = zero
  inside (call_open n k m f xs ss) (suc d) = d
  inside _ d = d

  -- goes on with the forms under way, the outermost first, where d bodies may be opened
  abbrev pub plug : ℕ → List (Entry N) → Res N → Res N
  plug d [] r = r
  plug d (en ∷ fr) r = then_do (plug (inside en d) fr r) en (after (body_at d) en)
