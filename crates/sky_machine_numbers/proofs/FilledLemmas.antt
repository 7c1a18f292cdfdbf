-- The table of a script's nodes, as it grows.
use Rattle.std.proofs.Common.{◌≡◌, ◌<◌, ◌≤◌, ◌+◌, ◌^◌, ℕ, suc, List, [], ◌∷◌, ◌++◌, length, length-append, append-nil, append_assoc, set, refl, sym}
use Rattle.std.proofs.Common.{ap, ◌∙◌, subst, arith}
use Rattle.sky_base.specs.Tree.{Exp, Stm, Stms, FunDef, Script, nodes, stm_nodes, block_nodes, script_nodes}
use Rattle.sky_base.specs.TreeView.{exp_view, steps_view}
use Rattle.sky_base.specs.StmtView.{arms_view}
use Rattle.sky_base.specs.declared.tree.Step.{Step}
use Rattle.sky_base.specs.declared.stmt.Arm.{Arm}
use Rattle.sky_base_law.specs.Opened.{Node, exp_node, stm_node}
use Rattle.sky_base_law.specs.Nodes.{pre_exp, pre_steps, pre_stm, pre_stms, pre_arms, pre_block, pre_funs, pre_script}
use Rattle.sky_machine_code.specs.Numbers.{node_size, ends_from, ends_of, starts_from, starts_of}
use Rattle.sky_machine_numbers.specs.Filled.{begun, ended, Filled, Fits, in_exp, in_stm, in_step}
use Rattle.sky_base_law.proofs.NodesLaw.{exp_count, stm_count, block_count, script_count}

ends_append : (xs ys : List Node) (n : ℕ) → ends_from (xs ++ ys) n ≡ ends_from xs n ++ ends_from ys (n + length xs)
ends_append [] ys n = let e : n ≡ n + 0 = omega arith in ap (ends_from ys) e
ends_append (t ∷ xs) ys n =
    let e : n + 1 + length xs ≡ n + length (t ∷ xs) = omega arith in
    ap (λ zs. (n + node_size t) ∷ zs) (ends_append xs ys (n + 1)) ∙ ap (λ m. (n + node_size t) ∷ (ends_from xs (n + 1) ++ ends_from ys m)) e

ends_length : (ts : List Node) (n : ℕ) → length (ends_from ts n) ≡ length ts
ends_length [] n = refl
ends_length (t ∷ ts) n = ap suc (ends_length ts (n + 1))

-- the table is longer by as many
pub filled_length : (old new : List ℕ) (ts : List Node) → Filled old new ts → length new ≡ length old + length ts
filled_length old new ts h =
    let n = length old in
    ap length h.ends ∙ length-append old (ends_from ts n) ∙ ap (λ k. n + k) (ends_length ts n)

pub filled_none : (old : List ℕ) → Filled old old []
filled_none old = record { ends = sym (append-nil old) }

-- one after the other
pub filled_both : (a b c : List ℕ) (xs ys : List Node) → Filled a b xs → Filled b c ys → Filled a c (xs ++ ys)
filled_both a b c xs ys h g =
    let n = length a in
    record {
      ends = g.ends ∙ ap (λ m. b ++ ends_from ys m) (filled_length a b xs h) ∙ ap (λ zs. zs ++ ends_from ys (n + length xs)) h.ends
          ∙ append_assoc a (ends_from xs n) (ends_from ys (n + length xs)) ∙ ap (λ zs. a ++ zs) (sym (ends_append xs ys n));
    }

pub fits_first : (old : List ℕ) (xs ys : List Node) → Fits old (xs ++ ys) → Fits old xs
fits_first old xs ys h = omega (arith, h, length-append xs ys)

pub fits_more : (old new : List ℕ) (xs ys : List Node) → Filled old new xs → Fits old (xs ++ ys) → Fits new ys
fits_more old new xs ys f h = omega (arith, h, length-append xs ys, filled_length old new xs f)

-- ---- a node is begun, what is in it is numbered, and it ends

set_first : (old more : List ℕ) (x y : ℕ) → set (old ++ x ∷ more) (length old) y ≡ old ++ y ∷ more
set_first [] more x y = refl
set_first (o ∷ old) more x y = ap (λ zs. o ∷ zs) (set_first old more x y)

node_filled : (old mid : List ℕ) (t : Node) (ts : List Node) → node_size t ≡ 1 + length ts → Filled (begun old) mid ts
    → Filled old (ended mid (length old)) (t ∷ ts)
node_filled old mid t ts size h =
    let n = length old in
    let one : length (old ++ 0 ∷ []) ≡ n + 1 = length-append old (0 ∷ []) in
    let is : mid ≡ old ++ 0 ∷ ends_from ts (n + 1) = h.ends ∙ ap (λ m. (old ++ 0 ∷ []) ++ ends_from ts m) one
    ∙ append_assoc old (0 ∷ []) (ends_from ts (n + 1)) in
    let last : length mid ≡ n + node_size t = omega (arith, filled_length (begun old) mid ts h, one, size) in
    record {
      ends = ap (λ zs. set zs n (length mid)) is ∙ set_first old (ends_from ts (n + 1)) 0 (length mid)
          ∙ ap (λ k. old ++ k ∷ ends_from ts (n + 1)) last;
    }

node_end : (old mid : List ℕ) (t : Node) (ts : List Node) → Fits old (t ∷ ts) → Filled (begun old) mid ts → (length old < length mid)
    × (length mid < 2 ^ 32)
node_end old mid t ts h f =
    let n = filled_length (begun old) mid ts f in
    let one = length-append old (0 ∷ []) in (omega (arith, n, one), omega (arith, n, one, h))

-- ---- the nodes of an expression, a statement and a block: the first, and what is in it

pub exp_nodes : (e : Exp) → pre_exp e ≡ exp_node e ∷ in_exp e
exp_nodes (Exp.literal l p) = refl
exp_nodes (Exp.name x p) = refl
exp_nodes (Exp.func x p) = refl
exp_nodes (Exp.parens e) = refl
exp_nodes (Exp.parts o p es) = refl
exp_nodes (Exp.chain e ls) = refl
exp_nodes (Exp.logic j e ls) = refl
exp_nodes (Exp.prefix ss e) = refl
exp_nodes (Exp.postfix e ss) = refl

pub stm_nodes_are : (a : Stm) → pre_stm a ≡ stm_node a ∷ in_stm a
stm_nodes_are (Stm.set x p e) = refl
stm_nodes_are (Stm.add x q p e) = refl
stm_nodes_are (Stm.put x q p i e) = refl
stm_nodes_are (Stm.return p e) = refl
stm_nodes_are (Stm.leave p) = refl
stm_nodes_are (Stm.cases p arms els) = refl
stm_nodes_are (Stm.while p e b) = refl
stm_nodes_are (Stm.repeat p b e) = refl
stm_nodes_are (Stm.for p x e b) = refl
stm_nodes_are (Stm.just p e) = refl

pub exp_size : (e : Exp) → nodes e ≡ 1 + length (in_exp e)
exp_size e = omega (arith, exp_count e, ap length (exp_nodes e))

pub stm_size : (a : Stm) → stm_nodes a ≡ 1 + length (in_stm a)
stm_size a = omega (arith, stm_count a, ap length (stm_nodes_are a))

pub block_size : (b : Stms) → block_nodes b ≡ 1 + length (pre_stms b)
block_size b = omega (arith, block_count b)

-- ---- one list of trees after the other

-- of all these nodes, the first of which stands at the table's first length, so many are left
pub record Left (first now : List ℕ) (all left : List Node) : Type 0 where
  pub fits : Fits now left
  pub most : length left ≤ length all
  pub filled : (new : List ℕ) → Filled now new left → Filled first new all

pub left_start : (first : List ℕ) (all : List Node) → Fits first all → Left first first all all
left_start first all h = record { fits = h; most = omega arith; filled = λ new f. f }

pub left_fits : (first now : List ℕ) (all left xs ys : List Node) → left ≡ xs ++ ys → Left first now all left → Fits now xs × (length xs ≤ length all)
left_fits first now all left xs ys e h =
    (fits_first now xs ys (subst (Fits now) e h.fits), omega (arith, h.most, ap length e, length-append xs ys))

pub left_next : (first now mid : List ℕ) (all left xs ys : List Node) → left ≡ xs ++ ys → Filled now mid xs → Left first now all left
    → Left first mid all ys
left_next first now mid all left xs ys e f h =
    record {
      fits = fits_more now mid xs ys f (subst (Fits now) e h.fits);
      most = omega (arith, h.most, ap length e, length-append xs ys);
      filled = λ new g. h.filled new (subst (Filled now new) (sym e) (filled_both now mid new xs ys f g));
    }

pub left_done : (first now : List ℕ) (all left : List Node) → left ≡ [] → Left first now all left → Filled first now all
left_done first now all left e h = h.filled now (subst (Filled now now) (sym e) (filled_none now))

-- ---- from the begin of a node to its end

-- the table when the node is begun, when what is in it is numbered, and at its end
module _ (old start : List ℕ) (t : Node) (ts all : List Node) (are : all ≡ t ∷ ts) (one : start ≡ begun old) where
  pub end_in : (mid : List ℕ) (at : ℕ) → at ≡ length old → Fits old all → Filled start mid ts → (at < length mid) × (length mid < 2 ^ 32)
  end_in mid at e h f =
      let both = node_end old mid t ts (subst (Fits old) are h) (subst (λ r. Filled r mid ts) one f) in
      (omega (arith, e, both.0), both.1)

  pub node_ended : (mid new : List ℕ) (at : ℕ) → at ≡ length old → node_size t ≡ 1 + length ts → Filled start mid ts → new ≡ ended mid at
      → Filled old new all
  node_ended mid new at e size f g =
      subst (Filled old new) (sym are) (subst (λ r. Filled old r (t ∷ ts)) (sym (g ∙ ap (ended mid) e))
      (node_filled old mid t ts size (subst (λ r. Filled r mid ts) one f)))

pub no_more : {A : Type 0} (xs : List A) → length xs ≡ 0 → xs ≡ []
no_more [] e = refl
no_more (x ∷ xs) e = absurd (omega (arith, e))

-- ---- the first of some indices and calls, and of some arms

pub steps_first : (s : Step) (ss : List Step) → pre_steps (steps_view (s ∷ ss)) ≡ in_step s ++ pre_steps (steps_view ss)
steps_first (Step.Index e l c) ss = refl
steps_first (Step.Call es l c) ss = refl

pub arms_first : (a : Arm) (more : List Arm) → pre_arms (arms_view (a ∷ more)) ≡ (pre_exp (exp_view a.test) ++ pre_block a.body)
    ++ pre_arms (arms_view more)
arms_first a more = sym (append_assoc (pre_exp (exp_view a.test)) (pre_block a.body) (pre_arms (arms_view more)))

-- ---- the blocks of functions, and the whole script

pub starts_next : (starts new : List ℕ) (now mid : List ℕ) (f : FunDef) (fs : List FunDef) → new ≡ starts ++ length now ∷ []
    → Filled now mid (pre_block f.body) → new ++ starts_from fs (length mid) ≡ starts ++ starts_from (f ∷ fs) (length now)
starts_next starts new now mid f fs e h =
    let n = length now in
    let next : length mid ≡ n + block_nodes f.body = omega (arith, filled_length now mid (pre_block f.body) h, block_count f.body) in
    ap (λ zs. zs ++ starts_from fs (length mid)) e ∙ append_assoc starts (n ∷ []) (starts_from fs (length mid))
    ∙ ap (λ k. starts ++ (n ∷ starts_from fs k)) next

module _ (sc : Script) (few : script_nodes sc < 2 ^ 32) where
  pub script_fits : Fits [] (pre_script sc)
  script_fits = omega (arith, few, script_count sc)

  -- first the block of the main body, then those of the functions
  module _ (first last : List ℕ) (main : Filled [] first (pre_block sc.main)) (funs : Filled first last (pre_funs sc.funs)) where
    pub ends_are : last ≡ ends_of sc
    ends_are = (filled_both [] first last (pre_block sc.main) (pre_funs sc.funs) main funs).ends

    pub starts_are : (starts : List ℕ) → starts ≡ starts_from sc.funs (length first) → starts ≡ starts_of sc
    starts_are starts e =
        let n : length first ≡ block_nodes sc.main = omega (arith, filled_length [] first (pre_block sc.main) main, block_count sc.main) in
        e ∙ ap (starts_from sc.funs) n
