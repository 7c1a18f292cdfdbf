-- The nodes in preorder have the numbers that the meaning gives them.
use Rattle.std.proofs.Common.{◌≡◌, ℕ, suc, ◌+◌, List, [], ◌∷◌, ◌++◌, length, Option, Some, slice_get, refl, ap, ◌∙◌, subst, arith}
use Rattle.sky_base.specs.Tree.{Exp, Exps, Links, Ands, Steps, Stm, Stms, Arms, Else, FunDef, Script, nodes, exps_nodes, links_nodes, ands_nodes}
use Rattle.sky_base.specs.Tree.{steps_nodes, stm_nodes, stms_nodes, arms_nodes, else_nodes, block_nodes, funs_nodes, script_nodes}
use Rattle.sky_base_law.specs.Opened.{Node, HasExp, HasExps, HasLinks, HasAnds, HasSteps, HasStm, HasStms, HasArms, HasElse, HasFuns, HasScript}
use Rattle.sky_base_law.specs.Nodes.{pre_exp, pre_exps, pre_links, pre_ands, pre_steps, pre_stm, pre_stms, pre_arms, pre_else, pre_block, pre_funs}
use Rattle.sky_base_law.specs.Nodes.{pre_script, node_at}

length_join : {A : Type 0} (xs ys : List A) → length (xs ++ ys) ≡ length xs + length ys
length_join [] ys = omega arith
length_join (x ∷ xs) ys = ap suc (length_join xs ys) ∙ omega arith

-- ---- as many as the numbers say

mutual
  pub exp_count : (e : Exp) → length (pre_exp e) ≡ nodes e
  exp_count (Exp.literal l p) = refl
  exp_count (Exp.name x p) = refl
  exp_count (Exp.func x p) = refl
  exp_count (Exp.parens e) = omega (arith, exp_count e)
  exp_count (Exp.parts o p es) = omega (arith, exps_count es)
  exp_count (Exp.chain e ls) = omega (arith, length_join (pre_exp e) (pre_links ls), exp_count e, links_count ls)
  exp_count (Exp.logic j e ls) = omega (arith, length_join (pre_exp e) (pre_ands ls), exp_count e, ands_count ls)
  exp_count (Exp.prefix ss e) = omega (arith, exp_count e)
  exp_count (Exp.postfix e ss) = omega (arith, length_join (pre_exp e) (pre_steps ss), exp_count e, steps_count ss)

  pub exps_count : (es : Exps) → length (pre_exps es) ≡ exps_nodes es
  exps_count Exps.no_exps = refl
  exps_count (Exps.exp e es) = omega (arith, length_join (pre_exp e) (pre_exps es), exp_count e, exps_count es)

  pub links_count : (ls : Links) → length (pre_links ls) ≡ links_nodes ls
  links_count Links.no_links = refl
  links_count (Links.link o p e ls) = omega (arith, length_join (pre_exp e) (pre_links ls), exp_count e, links_count ls)

  pub ands_count : (ls : Ands) → length (pre_ands ls) ≡ ands_nodes ls
  ands_count Ands.no_ands = refl
  ands_count (Ands.and p e ls) = omega (arith, length_join (pre_exp e) (pre_ands ls), exp_count e, ands_count ls)

  pub steps_count : (ss : Steps) → length (pre_steps ss) ≡ steps_nodes ss
  steps_count Steps.no_steps = refl
  steps_count (Steps.index e p ss) = omega (arith, length_join (pre_exp e) (pre_steps ss), exp_count e, steps_count ss)
  steps_count (Steps.call es p ss) = omega (arith, length_join (pre_exps es) (pre_steps ss), exps_count es, steps_count ss)

mutual
  pub stm_count : (a : Stm) → length (pre_stm a) ≡ stm_nodes a
  stm_count (Stm.set x p e) = omega (arith, exp_count e)
  stm_count (Stm.add x q p e) = omega (arith, exp_count e)
  stm_count (Stm.put x q p i e) = omega (arith, length_join (pre_exp i) (pre_exp e), exp_count i, exp_count e)
  stm_count (Stm.return p e) = omega (arith, exp_count e)
  stm_count (Stm.leave p) = refl
  stm_count (Stm.cases p arms els) = omega (arith, length_join (pre_arms arms) (pre_else els), arms_count arms, else_count els)
  stm_count (Stm.while p e b) = omega (arith, length_join (pre_exp e) (pre_block b), exp_count e, stms_count b)
  stm_count (Stm.repeat p b e) = omega (arith, length_join (pre_stms b) (pre_exp e), exp_count e, stms_count b)
  stm_count (Stm.for p x e b) = omega (arith, length_join (pre_exp e) (pre_block b), exp_count e, stms_count b)
  stm_count (Stm.just p e) = omega (arith, exp_count e)

  pub stms_count : (b : Stms) → length (pre_stms b) ≡ stms_nodes b
  stms_count Stms.no_stms = refl
  stms_count (Stms.stm a more) = omega (arith, length_join (pre_stm a) (pre_stms more), stm_count a, stms_count more)

  pub arms_count : (arms : Arms) → length (pre_arms arms) ≡ arms_nodes arms
  arms_count Arms.no_arms = refl
  arms_count (Arms.arm p e b arms) =
      omega (
        arith,
        length_join (pre_exp e) (pre_block b ++ pre_arms arms),
        length_join (pre_stms b) (pre_arms arms),
        exp_count e,
        stms_count b,
        arms_count arms,
      )

  pub else_count : (els : Else) → length (pre_else els) ≡ else_nodes els
  else_count Else.no_else = refl
  else_count (Else.otherwise b) = omega (arith, stms_count b)

pub block_count : (b : Stms) → length (pre_block b) ≡ block_nodes b
block_count b = omega (arith, stms_count b)

pub funs_count : (fs : List FunDef) → length (pre_funs fs) ≡ funs_nodes fs
funs_count [] = refl
funs_count (f ∷ fs) = omega (arith, length_join (pre_block f.body) (pre_funs fs), block_count f.body, funs_count fs)

pub script_count : (sc : Script) → length (pre_script sc) ≡ script_nodes sc
script_count sc = omega (arith, length_join (pre_block sc.main) (pre_funs sc.funs), block_count sc.main, funs_count sc.funs)

-- ---- each at its number

module _ (at : ℕ → Option Node) where
  -- these nodes have the numbers from n on
  From : ℕ → List Node → Type 0
  From n [] = Unit {0}
  From n (x ∷ xs) = (at n ≡ Some x) × From (n + 1) xs

  from_at : (n m : ℕ) (xs : List Node) → n ≡ m → From n xs → From m xs
  from_at n m xs e h = subst (λ i. From i xs) e h

  head_of : (n : ℕ) (x : Node) (xs : List Node) → From n (x ∷ xs) → at n ≡ Some x
  unfolding From
  head_of n x xs h = h.0

  tail_of : (n : ℕ) (x : Node) (xs : List Node) → From n (x ∷ xs) → From (n + 1) xs
  unfolding From
  tail_of n x xs h = h.1

  first_of : (n : ℕ) (xs ys : List Node) → From n (xs ++ ys) → From n xs
  unfolding From
  first_of n [] ys h = tt
  first_of n (x ∷ xs) ys h = (h.0, first_of (n + 1) xs ys h.1)

  -- the others, where the first are so many
  second_of : (n k : ℕ) (xs ys : List Node) → length xs ≡ k → From n (xs ++ ys) → From (n + k) ys
  unfolding From
  second_of n k [] ys e h = from_at n (n + k) ys (omega (arith, e)) h
  second_of n k (x ∷ xs) ys e h = from_at (n + 1 + length xs) (n + k) ys (omega (arith, e)) (second_of (n + 1) (length xs) xs ys refl h.1)

  mutual
    has_exp : (e : Exp) (n : ℕ) → From n (pre_exp e) → HasExp at e n
    has_exp (Exp.literal l p) n h = head_of n _ _ h
    has_exp (Exp.name x p) n h = head_of n _ _ h
    has_exp (Exp.func x p) n h = head_of n _ _ h
    has_exp (Exp.parens e) n h = (head_of n _ _ h, has_exp e (n + 1) (tail_of n _ _ h))
    has_exp (Exp.parts o p es) n h = (head_of n _ _ h, has_exps es (n + 1) (tail_of n _ _ h))
    has_exp (Exp.chain e ls) n h = (
      head_of n _ _ h,
      has_exp e (n + 1) (first_of (n + 1) (pre_exp e) (pre_links ls) (tail_of n _ _ h)),
      has_links ls (n + 1 + nodes e) (second_of (n + 1) (nodes e) (pre_exp e) (pre_links ls) (exp_count e) (tail_of n _ _ h)),
    )
    has_exp (Exp.logic j e ls) n h = (
      head_of n _ _ h,
      has_exp e (n + 1) (first_of (n + 1) (pre_exp e) (pre_ands ls) (tail_of n _ _ h)),
      has_ands ls (n + 1 + nodes e) (second_of (n + 1) (nodes e) (pre_exp e) (pre_ands ls) (exp_count e) (tail_of n _ _ h)),
    )
    has_exp (Exp.prefix ss e) n h = (head_of n _ _ h, has_exp e (n + 1) (tail_of n _ _ h))
    has_exp (Exp.postfix e ss) n h = (
      head_of n _ _ h,
      has_exp e (n + 1) (first_of (n + 1) (pre_exp e) (pre_steps ss) (tail_of n _ _ h)),
      has_steps ss (n + 1 + nodes e) (second_of (n + 1) (nodes e) (pre_exp e) (pre_steps ss) (exp_count e) (tail_of n _ _ h)),
    )

    has_exps : (es : Exps) (m : ℕ) → From m (pre_exps es) → HasExps at es m
    has_exps Exps.no_exps m h = tt
    has_exps (Exps.exp e es) m h = (
      has_exp e m (first_of m (pre_exp e) (pre_exps es) h),
      has_exps es (m + nodes e) (second_of m (nodes e) (pre_exp e) (pre_exps es) (exp_count e) h),
    )

    has_links : (ls : Links) (m : ℕ) → From m (pre_links ls) → HasLinks at ls m
    has_links Links.no_links m h = tt
    has_links (Links.link o p e ls) m h = (
      has_exp e m (first_of m (pre_exp e) (pre_links ls) h),
      has_links ls (m + nodes e) (second_of m (nodes e) (pre_exp e) (pre_links ls) (exp_count e) h),
    )

    has_ands : (ls : Ands) (m : ℕ) → From m (pre_ands ls) → HasAnds at ls m
    has_ands Ands.no_ands m h = tt
    has_ands (Ands.and p e ls) m h = (
      has_exp e m (first_of m (pre_exp e) (pre_ands ls) h),
      has_ands ls (m + nodes e) (second_of m (nodes e) (pre_exp e) (pre_ands ls) (exp_count e) h),
    )

    has_steps : (ss : Steps) (m : ℕ) → From m (pre_steps ss) → HasSteps at ss m
    has_steps Steps.no_steps m h = tt
    has_steps (Steps.index e p ss) m h = (
      has_exp e m (first_of m (pre_exp e) (pre_steps ss) h),
      has_steps ss (m + nodes e) (second_of m (nodes e) (pre_exp e) (pre_steps ss) (exp_count e) h),
    )
    has_steps (Steps.call es p ss) m h = (
      has_exps es m (first_of m (pre_exps es) (pre_steps ss) h),
      has_steps ss (m + exps_nodes es) (second_of m (exps_nodes es) (pre_exps es) (pre_steps ss) (exps_count es) h),
    )

  mutual
    has_stm : (a : Stm) (n : ℕ) → From n (pre_stm a) → HasStm at a n
    has_stm (Stm.set x p e) n h = (head_of n _ _ h, has_exp e (n + 1) (tail_of n _ _ h))
    has_stm (Stm.add x q p e) n h = (head_of n _ _ h, has_exp e (n + 1) (tail_of n _ _ h))
    has_stm (Stm.put x q p i e) n h = (
      head_of n _ _ h,
      has_exp i (n + 1) (first_of (n + 1) (pre_exp i) (pre_exp e) (tail_of n _ _ h)),
      has_exp e (n + 1 + nodes i) (second_of (n + 1) (nodes i) (pre_exp i) (pre_exp e) (exp_count i) (tail_of n _ _ h)),
    )
    has_stm (Stm.return p e) n h = (head_of n _ _ h, has_exp e (n + 1) (tail_of n _ _ h))
    has_stm (Stm.leave p) n h = head_of n _ _ h
    has_stm (Stm.cases p arms els) n h = (
      head_of n _ _ h,
      has_arms arms (n + 1) (first_of (n + 1) (pre_arms arms) (pre_else els) (tail_of n _ _ h)),
      has_else els (n + 1 + arms_nodes arms) (second_of (n + 1) (arms_nodes arms) (pre_arms arms) (pre_else els) (arms_count arms)
          (tail_of n _ _ h)),
    )
    has_stm (Stm.while p e b) n h =
        let rest = second_of (n + 1) (nodes e) (pre_exp e) (pre_block b) (exp_count e) (tail_of n _ _ h) in (
          head_of n _ _ h,
          has_exp e (n + 1) (first_of (n + 1) (pre_exp e) (pre_block b) (tail_of n _ _ h)),
          head_of (n + 1 + nodes e) _ _ rest,
          has_stms b (n + 1 + nodes e + 1) (tail_of (n + 1 + nodes e) _ _ rest),
        )
    has_stm (Stm.repeat p b e) n h =
        let front = first_of (n + 1) (pre_block b) (pre_exp e) (tail_of n _ _ h) in (
          head_of n _ _ h,
          has_exp e (n + 1 + block_nodes b)
              (second_of (n + 1) (block_nodes b) (pre_block b) (pre_exp e) (block_count b) (tail_of n _ _ h)),
          head_of (n + 1) _ _ front,
          has_stms b (n + 1 + 1) (tail_of (n + 1) _ _ front),
        )
    has_stm (Stm.for p x e b) n h =
        let rest = second_of (n + 1) (nodes e) (pre_exp e) (pre_block b) (exp_count e) (tail_of n _ _ h) in (
          head_of n _ _ h,
          has_exp e (n + 1) (first_of (n + 1) (pre_exp e) (pre_block b) (tail_of n _ _ h)),
          head_of (n + 1 + nodes e) _ _ rest,
          has_stms b (n + 1 + nodes e + 1) (tail_of (n + 1 + nodes e) _ _ rest),
        )
    has_stm (Stm.just p e) n h = (head_of n _ _ h, has_exp e (n + 1) (tail_of n _ _ h))

    has_stms : (b : Stms) (m : ℕ) → From m (pre_stms b) → HasStms at b m
    has_stms Stms.no_stms m h = tt
    has_stms (Stms.stm a more) m h = (
      has_stm a m (first_of m (pre_stm a) (pre_stms more) h),
      has_stms more (m + stm_nodes a) (second_of m (stm_nodes a) (pre_stm a) (pre_stms more) (stm_count a) h),
    )

    has_arms : (arms : Arms) (m : ℕ) → From m (pre_arms arms) → HasArms at arms m
    has_arms Arms.no_arms m h = tt
    has_arms (Arms.arm p e b arms) m h =
        let rest = second_of m (nodes e) (pre_exp e) (pre_block b ++ pre_arms arms) (exp_count e) h in
        let blk = first_of (m + nodes e) (pre_block b) (pre_arms arms) rest in (
          has_exp e m (first_of m (pre_exp e) (pre_block b ++ pre_arms arms) h),
          head_of (m + nodes e) _ _ blk,
          has_stms b (m + nodes e + 1) (tail_of (m + nodes e) _ _ blk),
          has_arms arms (m + nodes e + block_nodes b)
              (second_of (m + nodes e) (block_nodes b) (pre_block b) (pre_arms arms) (block_count b) rest),
        )

    has_else : (els : Else) (n : ℕ) → From n (pre_else els) → HasElse at els n
    has_else Else.no_else n h = tt
    has_else (Else.otherwise b) n h = (head_of n _ _ h, has_stms b (n + 1) (tail_of n _ _ h))

  has_funs : (fs : List FunDef) (i : ℕ) → From i (pre_funs fs) → HasFuns at fs i
  has_funs [] i h = tt
  has_funs (f ∷ fs) i h =
      let blk = first_of i (pre_block f.body) (pre_funs fs) h in (
        (head_of i _ _ blk, has_stms f.body (i + 1) (tail_of i _ _ blk)),
        has_funs fs (i + block_nodes f.body) (second_of i (block_nodes f.body) (pre_block f.body) (pre_funs fs) (block_count f.body) h),
      )

  has_all : (sc : Script) → From 0 (pre_script sc) → HasScript at sc
  has_all sc h =
      let blk = first_of 0 (pre_block sc.main) (pre_funs sc.funs) h in (
        (head_of 0 _ _ blk, has_stms sc.main 1 (from_at (0 + 1) 1 (pre_stms sc.main) (omega arith) (tail_of 0 _ _ blk))),
        has_funs sc.funs (block_nodes sc.main) (from_at (0 + block_nodes sc.main) (block_nodes sc.main) (pre_funs sc.funs) (omega arith)
            (second_of 0 (block_nodes sc.main) (pre_block sc.main) (pre_funs sc.funs) (block_count sc.main) h)),
      )

-- ---- a list has its own elements

got_at : (front : List Node) (x : Node) (xs : List Node) → slice_get (front ++ x ∷ xs) (length front) ≡ Some x
got_at [] x xs = refl
got_at (y ∷ front) x xs = got_at front x xs

join_push : (front : List Node) (x : Node) (xs : List Node) → (front ++ x ∷ []) ++ xs ≡ front ++ x ∷ xs
join_push [] x xs = refl
join_push (y ∷ front) x xs = ap (λ zs. y ∷ zs) (join_push front x xs)

own : (front xs : List Node) → From (λ i. slice_get (front ++ xs) i) (length front) xs
unfolding From
own front [] = tt
own front (x ∷ xs) = (
  got_at front x xs,
  subst (λ l. From (λ i. slice_get l i) (length front + 1) xs) (join_push front x xs)
      (from_at (λ i. slice_get ((front ++ x ∷ []) ++ xs) i) (length (front ++ x ∷ [])) (length front + 1) xs (length_join front (x ∷ []))
      (own (front ++ x ∷ []) xs)),
)

-- the nodes in preorder have the numbers that `eval` gives them
pub has_script : (sc : Script) → HasScript (λ i. node_at sc i) sc
has_script sc = has_all (λ i. node_at sc i) sc (own [] (pre_script sc))
