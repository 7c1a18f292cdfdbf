-- The innermost form of a stack that waits and fits waits for something.
use Rattle.std.proofs.Common.{◌≡◌, ◌<◌, ◌+◌, ℕ, zero, suc, List, [], ◌∷◌, reverse, Option, Some, None, slice_get, refl, sym, ap, ◌∙◌, subst, arith}
use Rattle.std.proofs.Common.{◌⊎◌, inl, inr}
use Rattle.std.specs.Option.{option_and_then, option_map}
use Rattle.sky_base.specs.Val.{Val, Pairs, Desc, null, truth, num, text, list, dict, fun, ref}
use Rattle.sky_base.specs.Tree.{Place, SignAt, Form, Exp, Exps, Links, Ands, Stm, Stms, Arms, Script, nodes}
use Rattle.sky_base.specs.Res.{Entry, star_wait, exec_wait, node_of, step_of, kept_of, opens, Wait, one_of, all_of}
use Rattle.sky_base.specs.Read.{Halt, Run}
use Rattle.sky_base_law.specs.Nodes.{node_at}
use Rattle.sky_base_law.specs.Opened.{Node, exp_node, stm_node, block_node, times, next_part, next_sign, descs_of, exec_open, part_open, sign_open}
use Rattle.sky_base_law.specs.Opened.{opened_exp, opened, Opened}
use Rattle.sky_state.specs.Table.{Row, part, turn, star, outputs, open_call, no_step, on_by, past_part, past_link, past_and, past_arm, past_stm}
use Rattle.sky_state.specs.Table.{past_sign, Spot, finished, in_index, in_call, spot_of, past_spot, part_row, link_row, and_row, sign_row, spot_row}
use Rattle.sky_state.specs.Table.{exp_row, arm_row, stm_row, ran_row, block_row, row, IsWaiting}
use Rattle.sky_state.specs.Chained.{Above, AllOpened, Chained, row_at}
use Rattle.sky_state.specs.Fits.{FitsRun}
use Rattle.sky_state.proofs.OpenEntry.{times_are, part_past}
use Rattle.sky_state.proofs.OpenFrames.{run_formed}
use Rattle.sky_machine_waits.specs.Waits.{star_at, waits_for, wait_in}
use Rattle.sky_machine_resume.specs.Comes.{LeftAt}

-- what a form at this node waits for
abbrev Found : Option Node → Entry (List ℕ) → Type 0
Found t en = (q : Wait (List ℕ)) × (waits_for t en ≡ Some q)

-- ---- an `exec`

list_found : (n : ℕ) (o : Option (List (Desc (List ℕ)))) (t : Option Node) (en : Entry (List ℕ)) → option_map (exec_wait n) o ≡ Some en → Found t en
list_found n None t en e = absurd cc
list_found n (Some ds) t en e = let same : exec_wait n ds ≡ en = cc in subst (Found t) same (all_of ds, refl)

exec_found : (o : Form) (n : ℕ) (vs : List (Val (List ℕ))) (t : Option Node) (en : Entry (List ℕ)) → exec_open o n vs ≡ Some en → Found t en
exec_found Form.list n vs t en e = absurd cc
exec_found Form.dict n vs t en e = absurd cc
exec_found Form.spawn n vs t en e = absurd cc
exec_found Form.spawn_exec n vs t en e = absurd cc
exec_found Form.ref n vs t en e = absurd cc
exec_found Form.len n vs t en e = absurd cc
exec_found Form.keys n vs t en e = absurd cc
exec_found Form.has n vs t en e = absurd cc
exec_found Form.range n vs t en e = absurd cc
exec_found Form.exec n [] t en e = absurd cc
exec_found Form.exec n (v ∷ u ∷ vs) t en e = absurd cc
exec_found Form.exec n (list us ∷ []) t en e = list_found n (descs_of us) t en e
exec_found Form.exec n (null ∷ []) t en e = absurd cc
exec_found Form.exec n (truth b ∷ []) t en e = absurd cc
exec_found Form.exec n (num z ∷ []) t en e = absurd cc
exec_found Form.exec n (text x ∷ []) t en e = absurd cc
exec_found Form.exec n (dict ps ∷ []) t en e = absurd cc
exec_found Form.exec n (fun f c ∷ []) t en e = absurd cc
exec_found Form.exec n (ref d ∷ []) t en e = absurd cc

parts_found : (o : Form) (p : Place) (es : Exps) (n i : ℕ) (vs : List (Val (List ℕ))) (t : Option Node) (en : Entry (List ℕ))
    (y : Option (ℕ × Exps)) → on_by past_part i (n + 1, es) ≡ y → IsWaiting (part_row o i y)
    → part_open (times next_part i (n + 1, es)) n (suc i) o p vs ≡ Some en → Found t en
parts_found o p es n i vs t en None is w e = absurd w
parts_found o p es n i vs t en (Some (m, Exps.exp x xs)) is w e = absurd w
parts_found o p es n i vs t en (Some (m, Exps.no_exps)) is w e =
    exec_found o n vs t en (sym (ap (λ r. part_open r n (suc i) o p vs)
    (times_are past_part next_part (λ r. r) part_past i (n + 1, es) (m, Exps.no_exps) is)) ∙ e)

-- ---- a `*`

-- what stands behind so many signs, by its number
signs_behind : (i k : ℕ) (xs ys : List SignAt) → on_by past_sign i xs ≡ Some ys → slice_get xs (i + k) ≡ slice_get ys k
signs_behind zero k xs ys e =
    let same : xs ≡ ys = cc in
    let start : 0 + k ≡ k = omega arith in
    ap (slice_get xs) start ∙ ap (λ l. slice_get l k) same
signs_behind (suc i) k xs ys e = go (on_by past_sign i xs) e (λ zs j d. signs_behind i j xs zs d) refl
  where
    go : (o : Option (List SignAt)) → option_and_then past_sign o ≡ Some ys
        → ((zs : List SignAt) (j : ℕ) → on_by past_sign i xs ≡ Some zs → slice_get xs (i + j) ≡ slice_get zs j) → on_by past_sign i xs ≡ o
        → slice_get xs (suc i + k) ≡ slice_get ys k
    go None f before is = absurd cc
    go (Some []) f before is = absurd cc
    go (Some (z ∷ zs)) f before is =
        let same : zs ≡ ys = cc in
        let next : suc i + k ≡ i + suc k = omega arith in
        ap (slice_get xs) next ∙ before (z ∷ zs) (suc k) is ∙ ap (λ l. slice_get l k) same

signs_found : (ss : List SignAt) (x : Exp) (n i : ℕ) (vs : List (Val (List ℕ))) (en : Entry (List ℕ)) (y : Option (List SignAt))
    → on_by past_sign i (reverse ss) ≡ y → IsWaiting (sign_row y) → sign_open (times next_sign (suc i) (reverse ss)) n (suc (suc i)) vs ≡ Some en
    → Found (Some (exp_node (Exp.prefix ss x))) en
signs_found ss x n i vs en None is w e = absurd w
signs_found ss x n i vs en (Some []) is w e = absurd w
signs_found ss x n i [] en (Some (s ∷ rest)) is w e = absurd cc
signs_found ss x n i (ref d ∷ u ∷ us) en (Some (s ∷ rest)) is w e = absurd cc
signs_found ss x n i (null ∷ us) en (Some (s ∷ rest)) is w e = absurd cc
signs_found ss x n i (truth b ∷ us) en (Some (s ∷ rest)) is w e = absurd cc
signs_found ss x n i (num z ∷ us) en (Some (s ∷ rest)) is w e = absurd cc
signs_found ss x n i (text k ∷ us) en (Some (s ∷ rest)) is w e = absurd cc
signs_found ss x n i (list vs ∷ us) en (Some (s ∷ rest)) is w e = absurd cc
signs_found ss x n i (dict ps ∷ us) en (Some (s ∷ rest)) is w e = absurd cc
signs_found ss x n i (fun f c ∷ us) en (Some (s ∷ rest)) is w e = absurd cc
signs_found ss x n i (ref d ∷ []) en (Some (s ∷ rest)) is w e =
    let same : star_wait n (suc (suc i)) d (times next_sign (suc i) (reverse ss)) ≡ en = cc in
    let first : i ≡ i + 0 = omega arith in
    subst (Found (Some (exp_node (Exp.prefix ss x)))) same
    (one_of s.place d, ap (λ o. star_at o d) (ap (slice_get (reverse ss)) first ∙ signs_behind i 0 (reverse ss) (s ∷ rest) is))

-- ---- no other form waits

link_not : (o : Option (ℕ × Links)) → IsWaiting (link_row o) → ⊥
link_not None h = h
link_not (Some (m, Links.no_links)) h = h
link_not (Some (m, Links.link o p e ls)) h = h

and_not : (o : Option (ℕ × Ands)) → IsWaiting (and_row o) → ⊥
and_not None h = h
and_not (Some (m, Ands.no_ands)) h = h
and_not (Some (m, Ands.and p e ls)) h = h

spot_not : (o : Option Spot) → IsWaiting (spot_row o) → ⊥
spot_not None h = h
spot_not (Some finished) h = h
spot_not (Some (in_index m e p ss)) h = h
spot_not (Some (in_call m i Exps.no_exps p ss)) h = h
spot_not (Some (in_call m i (Exps.exp e es) p ss)) h = h

arm_not : (o : Option (ℕ × Arms)) → IsWaiting (arm_row o) → ⊥
arm_not None h = h
arm_not (Some (m, Arms.no_arms)) h = h
arm_not (Some (m, Arms.arm p e b arms)) h = h

ran_not : (o : Option (ℕ × Stms)) → IsWaiting (ran_row o) → ⊥
ran_not None h = h
ran_not (Some (m, Stms.no_stms)) h = h
ran_not (Some (m, Stms.stm a more)) h = h

pub stm_not : (a : Stm) (n k : ℕ) → IsWaiting (stm_row a n k) → ⊥
stm_not (Stm.set x p e) n zero h = h
stm_not (Stm.set x p e) n (suc zero) h = h
stm_not (Stm.set x p e) n (suc (suc i)) h = h
stm_not (Stm.add x q p e) n zero h = h
stm_not (Stm.add x q p e) n (suc zero) h = h
stm_not (Stm.add x q p e) n (suc (suc i)) h = h
stm_not (Stm.put x q p j e) n zero h = h
stm_not (Stm.put x q p j e) n (suc zero) h = h
stm_not (Stm.put x q p j e) n (suc (suc zero)) h = h
stm_not (Stm.put x q p j e) n (suc (suc (suc i))) h = h
stm_not (Stm.return p e) n zero h = h
stm_not (Stm.return p e) n (suc zero) h = h
stm_not (Stm.return p e) n (suc (suc i)) h = h
stm_not (Stm.leave p) n k h = h
stm_not (Stm.cases p arms els) n zero h = h
stm_not (Stm.cases p arms els) n (suc i) h = arm_not (on_by past_arm i (n + 1, arms)) h
stm_not (Stm.while p e b) n zero h = h
stm_not (Stm.while p e b) n (suc zero) h = h
stm_not (Stm.while p e b) n (suc (suc zero)) h = h
stm_not (Stm.while p e b) n (suc (suc (suc i))) h = h
stm_not (Stm.repeat p b e) n zero h = h
stm_not (Stm.repeat p b e) n (suc zero) h = h
stm_not (Stm.repeat p b e) n (suc (suc zero)) h = h
stm_not (Stm.repeat p b e) n (suc (suc (suc i))) h = h
stm_not (Stm.for p x e b) n zero h = h
stm_not (Stm.for p x e b) n (suc zero) h = h
stm_not (Stm.for p x e b) n (suc (suc zero)) h = h
stm_not (Stm.for p x e b) n (suc (suc (suc i))) h = h
stm_not (Stm.just p e) n zero h = h
stm_not (Stm.just p e) n (suc zero) h = h
stm_not (Stm.just p e) n (suc (suc i)) h = h

pub block_not : (b : Stms) (n k : ℕ) → IsWaiting (block_row b n k) → ⊥
block_not b n zero h = h
block_not b n (suc i) h = ran_not (on_by past_stm i (n + 1, b)) h

-- ---- forms

module _ (n : ℕ) (vs : List (Val (List ℕ))) (c : Option (List ℕ × Pairs (List ℕ))) (en : Entry (List ℕ)) where
  exp_found : (x : Exp) (k : ℕ) → IsWaiting (exp_row x n k) → opened_exp x n k vs c ≡ Some en → Found (Some (exp_node x)) en
  exp_found (Exp.literal l p) k w e = absurd w
  exp_found (Exp.name x p) k w e = absurd w
  exp_found (Exp.func x p) k w e = absurd w
  exp_found (Exp.parens x) zero w e = absurd w
  exp_found (Exp.parens x) (suc zero) w e = absurd w
  exp_found (Exp.parens x) (suc (suc i)) w e = absurd w
  exp_found (Exp.parts o p es) zero w e = absurd w
  exp_found (Exp.parts o p es) (suc i) w e = parts_found o p es n i vs (Some (exp_node (Exp.parts o p es))) en (on_by past_part i (n + 1, es))
      refl w e
  exp_found (Exp.chain x ls) zero w e = absurd w
  exp_found (Exp.chain x ls) (suc zero) w e = absurd w
  exp_found (Exp.chain x ls) (suc (suc i)) w e = absurd (link_not (on_by past_link i (n + 1 + nodes x, ls)) w)
  exp_found (Exp.logic j x ls) zero w e = absurd w
  exp_found (Exp.logic j x ls) (suc zero) w e = absurd w
  exp_found (Exp.logic j x ls) (suc (suc i)) w e = absurd (and_not (on_by past_and i (n + 1 + nodes x, ls)) w)
  exp_found (Exp.prefix ss x) zero w e = absurd w
  exp_found (Exp.prefix ss x) (suc zero) w e = absurd w
  exp_found (Exp.prefix ss x) (suc (suc i)) w e = signs_found ss x n i vs en (on_by past_sign i (reverse ss)) refl w e
  exp_found (Exp.postfix x ss) zero w e = absurd w
  exp_found (Exp.postfix x ss) (suc zero) w e = absurd w
  exp_found (Exp.postfix x ss) (suc (suc i)) w e = absurd (spot_not (on_by past_spot i (spot_of (n + 1 + nodes x) ss)) w)

  node_found : (t : Node) (k : ℕ) → IsWaiting (row (Some t) n k) → opened t n k vs c ≡ Some en → Found (Some t) en
  node_found (exp_node x) k w e = exp_found x k w e
  node_found (stm_node a) k w e = absurd (stm_not a n k w)
  node_found (block_node b) k w e = absurd (block_not b n k w)

module _ (sc : Script) where
  abbrev at : ℕ → Option Node
  at i = node_at sc i

  form_found : (en : Entry (List ℕ)) → IsWaiting (row_at sc at en) → Opened at en → Found (at (node_of en)) en
  form_found en w (t, is, e) =
      subst (λ x. Found x en) (sym is) (node_found (node_of en) (kept_of en) (opens en) en t (step_of en)
      (subst (λ x. IsWaiting (row x (node_of en) (step_of en))) is w) e)

  -- a form waits, and nothing stands above it, or more stands there
  above_or : (r : Row) (o : Option (List ℕ × Pairs (List ℕ))) (X : Type 0) (M : List ℕ → Type 0) → Above sc at r o X M → (IsWaiting r × X)
      ⊎ ((ms : List ℕ) × M ms)
  above_or (part k ms) None X M h = inr (ms, h)
  above_or (turn m) None X M h = inr (m ∷ [], h)
  above_or star None X M h = inl (tt, h)
  above_or outputs None X M h = inl (tt, h)
  above_or open_call (Some c) X M h = inr (_, h.1)
  above_or (part k ms) (Some c) X M h = absurd h
  above_or (turn m) (Some c) X M h = absurd h
  above_or star (Some c) X M h = absurd h
  above_or outputs (Some c) X M h = absurd h
  above_or open_call None X M h = absurd h
  above_or no_step None X M h = absurd h
  above_or no_step (Some c) X M h = absurd h

  abbrev no_forms : List (Entry (List ℕ))
  no_forms = []

  pub forms_found : (fr : List (Entry (List ℕ))) (ps : List ℕ) → Chained sc at ps fr → AllOpened at fr → (q : Wait (List ℕ))
      × (wait_in sc fr ≡ Some q)
  forms_found [] ps c o = absurd c
  forms_found (en ∷ []) ps c o = go (above_or (row_at sc at en) (opens en) (no_forms ≡ []) (λ ms. Chained sc at ms no_forms) c.2)
    where
      go : (IsWaiting (row_at sc at en) × (no_forms ≡ [])) ⊎ ((ms : List ℕ) × Chained sc at ms no_forms) → Found (at (node_of en)) en
      go (inl w) = form_found en w.0 o.0
      go (inr m) = absurd m.1
  forms_found (en ∷ x ∷ fr) ps c o = go (above_or (row_at sc at en) (opens en) (x ∷ fr ≡ []) (λ ms. Chained sc at ms (x ∷ fr)) c.2)
      (λ ms d. forms_found (x ∷ fr) ms d o.1)
    where
      none : x ∷ fr ≡ [] → ⊥
      none e = cc

      go : (IsWaiting (row_at sc at en) × (x ∷ fr ≡ [])) ⊎ ((ms : List ℕ) × Chained sc at ms (x ∷ fr))
          → ((ms : List ℕ) → Chained sc at ms (x ∷ fr) → (q : Wait (List ℕ)) × (wait_in sc (x ∷ fr) ≡ Some q)) → (q : Wait (List ℕ))
          × (wait_in sc (x ∷ fr) ≡ Some q)
      go (inl w) f = absurd (none w.1)
      go (inr m) f = f m.0 m.1

  pub stack_left : (r : Run (List ℕ)) → FitsRun sc r → 0 < r.waits → (f : List ℕ) × (h : Halt (List ℕ)) × LeftAt sc f h r
  stack_left r fits waits =
      let o = run_formed sc r fits waits in
      let q = forms_found o.2.forms _ o.2.chained o.2.all_opened in (
        o.0,
        record { wait = q.0; forms = o.2.forms; st = record { vars = o.1; count = r.count } },
        record { frames = o.2.frames; count = refl; follow = o.2.chained; opened = o.2.all_opened; wait = q.1 },
      )
