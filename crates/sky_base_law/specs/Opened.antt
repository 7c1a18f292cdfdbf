-- A saved entry opened again: from its node, its step, what it keeps and, for an open call, the function and the caller's variables.
use Rattle.std.specs.Prelude.{◌≡◌, ℕ, zero, suc, ◌+◌, List, [], ◌∷◌, reverse, Option, Some, None, pos}
use Rattle.std.specs.Option.{option_map}
use Rattle.sky_base.specs.Val.{Val, Vals, Pairs, Desc, num, list, ref, no_vals, val}
use Rattle.sky_base.specs.Tree.{Place, nowhere, Junction, SignAt, Form, Exp, Exps, Links, Ands, Steps, Stm, Stms, Arms, Else, FunDef, Script, nodes}
use Rattle.sky_base.specs.Tree.{exps_nodes, stm_nodes, block_nodes, arms_nodes}
use Rattle.sky_base.specs.Res.{Entry, parens_in, part_at, chain_first, chain_more, logic_at, prefix_part, star_wait, postfix_first, index_at, arg_at}
use Rattle.sky_base.specs.Res.{call_open, exec_wait, set_part, add_part, put_index, put_value, return_part, just_part, arm_test, while_test}
use Rattle.sky_base.specs.Res.{while_body, repeat_body, repeat_test, for_list, for_body, block_at, node_of, step_of, kept_of, opens}

pub data Node : Type 0 where
  exp_node : Exp → Node
  stm_node : Stm → Node
  block_node : Stms → Node

-- ---- places inside a form: the node that comes next, and what is still to come

abbrev pub next_part : ℕ × Exps → ℕ × Exps
next_part (m, Exps.no_exps) = (m, Exps.no_exps)
next_part (m, Exps.exp e es) = (m + nodes e, es)

abbrev pub next_link : ℕ × Links → ℕ × Links
next_link (m, Links.no_links) = (m, Links.no_links)
next_link (m, Links.link o p e ls) = (m + nodes e, ls)

abbrev pub next_and : ℕ × Ands → ℕ × Ands
next_and (m, Ands.no_ands) = (m, Ands.no_ands)
next_and (m, Ands.and p e ls) = (m + nodes e, ls)

abbrev pub next_arm : ℕ × Arms → ℕ × Arms
next_arm (m, Arms.no_arms) = (m, Arms.no_arms)
next_arm (m, Arms.arm p e b arms) = (m + nodes e + block_nodes b, arms)

abbrev pub next_stm : ℕ × Stms → ℕ × Stms
next_stm (m, Stms.no_stms) = (m, Stms.no_stms)
next_stm (m, Stms.stm a more) = (m + stm_nodes a, more)

pub data Pos : Type 0 where
  finished : Pos
  in_index : ℕ → Exp → Place → Steps → Pos
  in_args : ℕ → Exps → Place → Steps → Pos

abbrev pub enter_pos : ℕ → Steps → Pos
enter_pos m Steps.no_steps = finished
enter_pos m (Steps.index e p ss) = in_index m e p ss
enter_pos m (Steps.call es p ss) = in_args m es p ss

abbrev pub next_pos : Pos → Pos
next_pos finished = finished
next_pos (in_index m e p ss) = enter_pos (m + nodes e) ss
next_pos (in_args m Exps.no_exps p ss) = enter_pos m ss
next_pos (in_args m (Exps.exp e es) p ss) = in_args (m + nodes e) es p ss

-- so many times
abbrev pub times : {A : Type 0} → (A → A) → ℕ → A → A
times f zero x = x
times f (suc i) x = f (times f i x)

abbrev pub next_sign : List SignAt → List SignAt
next_sign [] = []
next_sign (s ∷ ss) = ss

module _ {N : Type 0} where
  -- step 1, where nothing is kept
  abbrev pub at_first : ℕ → List (Val N) → Entry N → Option (Entry N)
  at_first (suc zero) [] en = Some en
  at_first _ _ en = None

  -- step 1, or step 2, where nothing is kept
  abbrev pub at_two : ℕ → List (Val N) → Entry N → Entry N → Option (Entry N)
  at_two (suc zero) [] en fn = Some en
  at_two (suc (suc zero)) [] en fn = Some fn
  at_two _ _ en fn = None

  abbrev pub ref_on : Val N → Option (List (Desc N)) → Option (List (Desc N))
  ref_on (ref d) o = option_map (λ ds. d ∷ ds) o
  ref_on _ o = None

  -- the descriptions of a list of references
  abbrev pub descs_of : Vals N → Option (List (Desc N))
  descs_of no_vals = Some []
  descs_of (val v vs) = ref_on v (descs_of vs)

  abbrev pub exec_list : ℕ → Val N → Option (Entry N)
  exec_list n (list vs) = option_map (exec_wait n) (descs_of vs)
  exec_list n _ = None

  abbrev pub exec_open : Form → ℕ → List (Val N) → Option (Entry N)
  exec_open Form.exec n (v ∷ []) = exec_list n v
  exec_open _ n vs = None

  abbrev pub part_open : ℕ × Exps → (n k : ℕ) → Form → Place → List (Val N) → Option (Entry N)
  part_open (m, Exps.no_exps) n k o p vs = exec_open o n vs
  part_open (m, Exps.exp e es) n k o p vs = Some (part_at n k (m + nodes e) o p vs es)

  abbrev pub link_open : ℕ × Links → (n k : ℕ) → List (Val N) → Option (Entry N)
  link_open (m, Links.link o p e ls) n k (v ∷ []) = Some (chain_more n k (m + nodes e) o p v ls)
  link_open _ n k vs = None

  abbrev pub and_open : ℕ × Ands → (n k : ℕ) → Junction → List (Val N) → Option (Entry N)
  and_open (m, Ands.and p e ls) n k j [] = Some (logic_at n k (m + nodes e) j p ls)
  and_open _ n k j vs = None

  abbrev pub sign_open : List SignAt → (n k : ℕ) → List (Val N) → Option (Entry N)
  sign_open ss n k (ref d ∷ []) = Some (star_wait n k d ss)
  sign_open ss n k _ = None

  abbrev pub pos_open : Pos → (n k : ℕ) → List (Val N) → Option (List ℕ × Pairs N) → Option (Entry N)
  pos_open finished n k vs c = None
  pos_open (in_index m e p ss) n k (v ∷ []) c = Some (index_at n k (m + nodes e) p v ss)
  pos_open (in_index m e p ss) n k _ c = None
  pos_open (in_args m Exps.no_exps p ss) n k vs (Some (f, xs)) = Some (call_open n k m f xs ss)
  pos_open (in_args m Exps.no_exps p ss) n k vs None = None
  pos_open (in_args m (Exps.exp e es) p ss) n k (f ∷ vs) c = Some (arg_at n k (m + nodes e) p f vs es ss)
  pos_open (in_args m (Exps.exp e es) p ss) n k [] c = None

  abbrev pub chain_open : Exp → Links → (n k : ℕ) → List (Val N) → Option (Entry N)
  chain_open e ls n (suc zero) vs = Some (chain_first n (n + 1 + nodes e) ls)
  chain_open e ls n (suc (suc i)) vs = link_open (times next_link i (n + 1 + nodes e, ls)) n (suc (suc i)) vs
  chain_open e ls n zero vs = None

  abbrev pub logic_open : Junction → Exp → Ands → (n k : ℕ) → List (Val N) → Option (Entry N)
  logic_open j e ls n (suc zero) vs = Some (logic_at n 1 (n + 1 + nodes e) j nowhere ls)
  logic_open j e ls n (suc (suc i)) vs = and_open (times next_and i (n + 1 + nodes e, ls)) n (suc (suc i)) j vs
  logic_open j e ls n zero vs = None

  abbrev pub prefix_open : List SignAt → (n k : ℕ) → List (Val N) → Option (Entry N)
  prefix_open ss n (suc zero) vs = Some (prefix_part n (reverse ss))
  prefix_open ss n (suc (suc i)) vs = sign_open (times next_sign (suc i) (reverse ss)) n (suc (suc i)) vs
  prefix_open ss n zero vs = None

  abbrev pub postfix_open : Exp → Steps → (n k : ℕ) → List (Val N) → Option (List ℕ × Pairs N) → Option (Entry N)
  postfix_open e ss n (suc zero) vs c = Some (postfix_first n (n + 1 + nodes e) ss)
  postfix_open e ss n (suc (suc i)) vs c = pos_open (times next_pos i (enter_pos (n + 1 + nodes e) ss)) n (suc (suc i)) vs c
  postfix_open e ss n zero vs c = None

  abbrev pub form_open : Form → Place → Exps → (n k : ℕ) → List (Val N) → Option (Entry N)
  form_open o p es n zero vs = None
  form_open o p es n (suc i) vs = part_open (times next_part i (n + 1, es)) n (suc i) o p vs

  abbrev pub opened_exp : Exp → (n k : ℕ) → List (Val N) → Option (List ℕ × Pairs N) → Option (Entry N)
  opened_exp (Exp.literal l p) n k vs c = None
  opened_exp (Exp.name x p) n k vs c = None
  opened_exp (Exp.func x p) n k vs c = None
  opened_exp (Exp.parens e) n k vs c = at_first k vs (parens_in n)
  opened_exp (Exp.parts o p es) n k vs c = form_open o p es n k vs
  opened_exp (Exp.chain e ls) n k vs c = chain_open e ls n k vs
  opened_exp (Exp.logic j e ls) n k vs c = logic_open j e ls n k vs
  opened_exp (Exp.prefix ss e) n k vs c = prefix_open ss n k vs
  opened_exp (Exp.postfix e ss) n k vs c = postfix_open e ss n k vs c

  abbrev pub put_open : List ℕ → Place → Place → Exp → Exp → (n k : ℕ) → List (Val N) → Option (Entry N)
  put_open x q p i e n (suc zero) [] = Some (put_index n (n + 1 + nodes i) x q p e)
  put_open x q p i e n (suc (suc zero)) (v ∷ []) = Some (put_value n x q p v)
  put_open x q p i e n _ _ = None

  abbrev pub arm_open : ℕ × Arms → (n k i : ℕ) → Else → Option (Entry N)
  arm_open (m, Arms.no_arms) n k i els = None
  arm_open (m, Arms.arm p e b arms) n k i els = Some (arm_test n k (m + nodes e) i p b arms els)

  abbrev pub cases_open : Arms → Else → (n k : ℕ) → Option (Entry N)
  cases_open arms els n zero = None
  cases_open arms els n (suc i) = arm_open (times next_arm i (n + 1, arms)) n (suc i) (n + 1 + arms_nodes arms) els

  abbrev pub each_open : (n block : ℕ) → Place → List ℕ → Stms → List (Val N) → Option (Entry N)
  each_open n m p x b (list us ∷ num (pos t) ∷ []) = Some (for_body n m t p x us b)
  each_open n m p x b _ = None

  abbrev pub for_open : Place → List ℕ → Exp → Stms → (n k : ℕ) → List (Val N) → Option (Entry N)
  for_open p x e b n (suc zero) vs = Some (for_list n (n + 1 + nodes e) p x b)
  for_open p x e b n (suc (suc zero)) vs = each_open n (n + 1 + nodes e) p x b vs
  for_open p x e b n _ vs = None

  abbrev pub opened_stm : Stm → (n k : ℕ) → List (Val N) → Option (Entry N)
  opened_stm (Stm.set x p e) n k vs = at_first k vs (set_part n x)
  opened_stm (Stm.add x q p e) n k vs = at_first k vs (add_part n x q p)
  opened_stm (Stm.put x q p i e) n k vs = put_open x q p i e n k vs
  opened_stm (Stm.return p e) n k vs = at_first k vs (return_part n)
  opened_stm (Stm.leave p) n k vs = None
  opened_stm (Stm.cases p arms els) n k vs = cases_open arms els n k
  opened_stm (Stm.while p e b) n k vs = at_two k vs (while_test n (n + 1 + nodes e) p e b) (while_body n (n + 1 + nodes e) p e b)
  opened_stm (Stm.repeat p b e) n k vs =
      at_two k vs (repeat_body n (n + 1 + block_nodes b) p b e) (repeat_test n (n + 1 + block_nodes b) p b e)
  opened_stm (Stm.for p x e b) n k vs = for_open p x e b n k vs
  opened_stm (Stm.just p e) n k vs = at_first k vs (just_part n)

  abbrev pub stms_open : ℕ × Stms → (n k : ℕ) → Option (Entry N)
  stms_open r n k = Some (block_at n k r.0 r.1)

  abbrev pub opened : Node → (n k : ℕ) → List (Val N) → Option (List ℕ × Pairs N) → Option (Entry N)
  opened (exp_node e) n k vs c = opened_exp e n k vs c
  opened (stm_node a) n k vs c = opened_stm a n k vs
  opened (block_node b) n k vs c = stms_open (times next_stm k (n + 1, b)) n k

-- `at` gives the node of each number of a tree
module _ (at : ℕ → Option Node) where
  abbrev mutual
    pub HasExp : Exp → ℕ → Type 0
    HasExp (Exp.literal l p) n = at n ≡ Some (exp_node (Exp.literal l p))
    HasExp (Exp.name x p) n = at n ≡ Some (exp_node (Exp.name x p))
    HasExp (Exp.func x p) n = at n ≡ Some (exp_node (Exp.func x p))
    HasExp (Exp.parens e) n = (at n ≡ Some (exp_node (Exp.parens e))) × HasExp e (n + 1)
    HasExp (Exp.parts o p es) n = (at n ≡ Some (exp_node (Exp.parts o p es))) × HasExps es (n + 1)
    HasExp (Exp.chain e ls) n = (at n ≡ Some (exp_node (Exp.chain e ls))) × HasExp e (n + 1) × HasLinks ls (n + 1 + nodes e)
    HasExp (Exp.logic j e ls) n = (at n ≡ Some (exp_node (Exp.logic j e ls))) × HasExp e (n + 1) × HasAnds ls (n + 1 + nodes e)
    HasExp (Exp.prefix ss e) n = (at n ≡ Some (exp_node (Exp.prefix ss e))) × HasExp e (n + 1)
    HasExp (Exp.postfix e ss) n = (at n ≡ Some (exp_node (Exp.postfix e ss))) × HasExp e (n + 1) × HasSteps ss (n + 1 + nodes e)

    pub HasExps : Exps → ℕ → Type 0
    HasExps Exps.no_exps m = Unit {0}
    HasExps (Exps.exp e es) m = HasExp e m × HasExps es (m + nodes e)

    pub HasLinks : Links → ℕ → Type 0
    HasLinks Links.no_links m = Unit {0}
    HasLinks (Links.link o p e ls) m = HasExp e m × HasLinks ls (m + nodes e)

    pub HasAnds : Ands → ℕ → Type 0
    HasAnds Ands.no_ands m = Unit {0}
    HasAnds (Ands.and p e ls) m = HasExp e m × HasAnds ls (m + nodes e)

    pub HasSteps : Steps → ℕ → Type 0
    HasSteps Steps.no_steps m = Unit {0}
    HasSteps (Steps.index e p ss) m = HasExp e m × HasSteps ss (m + nodes e)
    HasSteps (Steps.call es p ss) m = HasExps es m × HasSteps ss (m + exps_nodes es)

  abbrev mutual
    pub HasStm : Stm → ℕ → Type 0
    HasStm (Stm.set x p e) n = (at n ≡ Some (stm_node (Stm.set x p e))) × HasExp e (n + 1)
    HasStm (Stm.add x q p e) n = (at n ≡ Some (stm_node (Stm.add x q p e))) × HasExp e (n + 1)
    HasStm (Stm.put x q p i e) n = (at n ≡ Some (stm_node (Stm.put x q p i e))) × HasExp i (n + 1) × HasExp e (n + 1 + nodes i)
    HasStm (Stm.return p e) n = (at n ≡ Some (stm_node (Stm.return p e))) × HasExp e (n + 1)
    HasStm (Stm.leave p) n = at n ≡ Some (stm_node (Stm.leave p))
    HasStm (Stm.cases p arms els) n = (at n ≡ Some (stm_node (Stm.cases p arms els))) × HasArms arms (n + 1) × HasElse els (n + 1 + arms_nodes arms)
    HasStm (Stm.while p e b) n = (at n ≡ Some (stm_node (Stm.while p e b))) × HasExp e (n + 1) × (at (n + 1 + nodes e) ≡ Some (block_node b))
        × HasStms b (n + 1 + nodes e + 1)
    HasStm (Stm.repeat p b e) n = (at n ≡ Some (stm_node (Stm.repeat p b e))) × HasExp e (n + 1 + block_nodes b)
        × (at (n + 1) ≡ Some (block_node b)) × HasStms b (n + 1 + 1)
    HasStm (Stm.for p x e b) n = (at n ≡ Some (stm_node (Stm.for p x e b))) × HasExp e (n + 1) × (at (n + 1 + nodes e) ≡ Some (block_node b))
        × HasStms b (n + 1 + nodes e + 1)
    HasStm (Stm.just p e) n = (at n ≡ Some (stm_node (Stm.just p e))) × HasExp e (n + 1)

    pub HasStms : Stms → ℕ → Type 0
    HasStms Stms.no_stms m = Unit {0}
    HasStms (Stms.stm a more) m = HasStm a m × HasStms more (m + stm_nodes a)

    pub HasArms : Arms → ℕ → Type 0
    HasArms Arms.no_arms m = Unit {0}
    HasArms (Arms.arm p e b arms) m = HasExp e m × (at (m + nodes e) ≡ Some (block_node b)) × HasStms b (m + nodes e + 1)
        × HasArms arms (m + nodes e + block_nodes b)

    pub HasElse : Else → ℕ → Type 0
    HasElse Else.no_else n = Unit {0}
    HasElse (Else.otherwise b) n = (at n ≡ Some (block_node b)) × HasStms b (n + 1)

  abbrev pub HasFuns : List FunDef → ℕ → Type 0
  HasFuns [] i = Unit {0}
  HasFuns (f ∷ fs) i = ((at i ≡ Some (block_node f.body)) × HasStms f.body (i + 1)) × HasFuns fs (i + block_nodes f.body)

  abbrev pub HasScript : Script → Type 0
  HasScript sc = ((at 0 ≡ Some (block_node sc.main)) × HasStms sc.main 1) × HasFuns sc.funs (block_nodes sc.main)

  -- an entry is what its own node, step and kept values open
  abbrev pub Opened : {N : Type 0} → Entry N → Type 0
  Opened en = (t : Node) × (at (node_of en) ≡ Some t) × (opened t (node_of en) (step_of en) (kept_of en) (opens en) ≡ Some en)
