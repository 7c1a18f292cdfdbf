-- A form that is opened from what was saved of it is ready to go on.
use Rattle.std.proofs.Common.{◌≡◌, ◌<◌, ◌≤◌, ◌+◌, ◌^◌, ℕ, zero, suc, List, [], ◌∷◌, length, reverse, Option, Some, None, pos, negsuc, refl, sym, ap}
use Rattle.std.proofs.Common.{◌∙◌, subst, arith}
use Rattle.std.proofs.lemmas.List.{length-reverse}
use Rattle.std.specs.Option.{option_map, option_and_then}
use Rattle.sky_base.specs.Val.{Val, Desc, null, truth, num, text, list, dict, fun, ref, vals_of}
use Rattle.sky_base.specs.Tree.{Place, Junction, SignAt, Form, Exp, Exps, Links, Ands, Steps, Stm, Stms, Arms, Else, nodes, exps_nodes, stm_nodes}
use Rattle.sky_base.specs.Tree.{arms_nodes}
use Rattle.sky_base.specs.Kept.{Kept}
use Rattle.sky_base.specs.Res.{Entry, exec_wait, part_at, chain_more, logic_at, star_wait, index_at, arg_at, call_open, put_index, put_value}
use Rattle.sky_base.specs.Res.{arm_test, for_list, for_body, block_at}
use Rattle.sky_base_law.specs.Opened.{Node, exp_node, stm_node, block_node, Pos, finished, in_index, in_args, HasExp, HasExps, HasLinks, HasAnds, HasSteps}
use Rattle.sky_base_law.specs.Opened.{HasStm, HasStms, HasArms, HasElse, next_part, next_link, next_and, next_arm, next_stm, next_sign, enter_pos}
use Rattle.sky_base_law.specs.Opened.{next_pos, times, at_first, at_two, descs_of, exec_open, part_open, link_open, and_open, sign_open, pos_open}
use Rattle.sky_base_law.specs.Opened.{put_open, arm_open, each_open, for_open, opened_exp, opened_stm, opened}
use Rattle.sky_base_law.specs.Tasks.{Each}
use Rattle.sky_base_law.proofs.Lists.{some_is, none_some}
use Rattle.sky_machine_numbers.specs.Standing.{HasNode}
use Rattle.sky_machine_code.proofs.Bodies.{nodes_pos, stm_nodes_pos}
use Rattle.sky_base_scope.specs.RunView.{KeptVals, KeptPairs}
use Rattle.sky_machine_entries.specs.Ready.{steps_left, IsReady, HasBlock}
use Rattle.sky_state.specs.Table.{on_by, past_stm, ran_row, row, IsStep}
use Rattle.sky_machine_open.specs.Spots.{HasPos}
use Rattle.sky_machine_open.proofs.Places.{enter_has, next_has}
use Rattle.sky_machine_restore.specs.Few.{FewSteps, Few}
use Rattle.sky_machine_restore.specs.Restoring.{Call}

abbrev Value : Type 0
Value = Val (List ℕ)

abbrev En : Type 0
En = Entry (List ℕ)

abbrev pub KeptCall : Call (List ℕ) → Type 0
KeptCall None = Unit {0}
KeptCall (Some c) = KeptPairs c.1

kept_vals : (vs : List Value) → Each (Kept {N = List ℕ}) vs → KeptVals (vals_of vs)
kept_vals [] h = tt
kept_vals (v ∷ vs) h = (h.0, kept_vals vs h.1)

module _ (at : ℕ → Option Node) where
  abbrev R : En → Type 0
  R en = IsReady at en

  -- the form that it is
  is_ready : (x en : En) → Some x ≡ Some en → R x → R en
  is_ready x en e h = subst R (some_is x en e) h

  first_ready : (k : ℕ) (vs : List Value) (x en : En) → at_first k vs x ≡ Some en → R x → R en
  first_ready zero vs x en e h = absurd (none_some en e)
  first_ready (suc zero) [] x en e h = is_ready x en e h
  first_ready (suc zero) (v ∷ vs) x en e h = absurd (none_some en e)
  first_ready (suc (suc k)) vs x en e h = absurd (none_some en e)

  two_ready : (k : ℕ) (vs : List Value) (x y en : En) → at_two k vs x y ≡ Some en → R x → R y → R en
  two_ready zero vs x y en e h g = absurd (none_some en e)
  two_ready (suc zero) [] x y en e h g = is_ready x en e h
  two_ready (suc zero) (v ∷ vs) x y en e h g = absurd (none_some en e)
  two_ready (suc (suc zero)) [] x y en e h g = is_ready y en e g
  two_ready (suc (suc zero)) (v ∷ vs) x y en e h g = absurd (none_some en e)
  two_ready (suc (suc (suc k))) vs x y en e h g = absurd (none_some en e)

  -- ---- places: what stands there, and that their numbers grow with the steps

  abbrev PartsOk : ℕ → ℕ × Exps → Type 0
  PartsOk b (m, Exps.no_exps) = Unit {0}
  PartsOk b (m, Exps.exp e es) = (b ≤ m) × HasExps at (Exps.exp e es) m

  part_ok : (b : ℕ) (x : ℕ × Exps) → PartsOk b x → PartsOk (b + 1) (next_part x)
  part_ok b (m, Exps.no_exps) h = tt
  part_ok b (m, Exps.exp e Exps.no_exps) h = tt
  part_ok b (m, Exps.exp e (Exps.exp y ys)) h = (omega (arith, h.0, nodes_pos e), h.1.1)

  parts_ok : (i b : ℕ) (x : ℕ × Exps) → PartsOk b x → PartsOk (b + i) (times next_part i x)
  parts_ok zero b x h = subst (λ n. PartsOk n x) (omega arith) h
  parts_ok (suc i) b x h = subst (λ n. PartsOk n (next_part (times next_part i x))) (omega arith)
      (part_ok (b + i) (times next_part i x) (parts_ok i b x h))

  parts_start : (m : ℕ) (es : Exps) → HasExps at es m → PartsOk m (m, es)
  parts_start m Exps.no_exps h = tt
  parts_start m (Exps.exp e es) h = (omega arith, h)

  abbrev LinksOk : ℕ → ℕ × Links → Type 0
  LinksOk b (m, Links.no_links) = Unit {0}
  LinksOk b (m, Links.link o p e ls) = (b ≤ m) × HasLinks at (Links.link o p e ls) m

  link_ok : (b : ℕ) (x : ℕ × Links) → LinksOk b x → LinksOk (b + 1) (next_link x)
  link_ok b (m, Links.no_links) h = tt
  link_ok b (m, Links.link o p e Links.no_links) h = tt
  link_ok b (m, Links.link o p e (Links.link q r y ys)) h = (omega (arith, h.0, nodes_pos e), h.1.1)

  links_ok : (i b : ℕ) (x : ℕ × Links) → LinksOk b x → LinksOk (b + i) (times next_link i x)
  links_ok zero b x h = subst (λ n. LinksOk n x) (omega arith) h
  links_ok (suc i) b x h = subst (λ n. LinksOk n (next_link (times next_link i x))) (omega arith)
      (link_ok (b + i) (times next_link i x) (links_ok i b x h))

  links_start : (m : ℕ) (ls : Links) → HasLinks at ls m → LinksOk m (m, ls)
  links_start m Links.no_links h = tt
  links_start m (Links.link o p e ls) h = (omega arith, h)

  abbrev AndsOk : ℕ → ℕ × Ands → Type 0
  AndsOk b (m, Ands.no_ands) = Unit {0}
  AndsOk b (m, Ands.and p e ls) = (b ≤ m) × HasAnds at (Ands.and p e ls) m

  and_ok : (b : ℕ) (x : ℕ × Ands) → AndsOk b x → AndsOk (b + 1) (next_and x)
  and_ok b (m, Ands.no_ands) h = tt
  and_ok b (m, Ands.and p e Ands.no_ands) h = tt
  and_ok b (m, Ands.and p e (Ands.and r y ys)) h = (omega (arith, h.0, nodes_pos e), h.1.1)

  ands_ok : (i b : ℕ) (x : ℕ × Ands) → AndsOk b x → AndsOk (b + i) (times next_and i x)
  ands_ok zero b x h = subst (λ n. AndsOk n x) (omega arith) h
  ands_ok (suc i) b x h = subst (λ n. AndsOk n (next_and (times next_and i x))) (omega arith) (and_ok (b + i) (times next_and i x) (ands_ok i b x h))

  ands_start : (m : ℕ) (ls : Ands) → HasAnds at ls m → AndsOk m (m, ls)
  ands_start m Ands.no_ands h = tt
  ands_start m (Ands.and p e ls) h = (omega arith, h)

  abbrev ArmsOk : ℕ → ℕ × Arms → Type 0
  ArmsOk b (m, Arms.no_arms) = Unit {0}
  ArmsOk b (m, Arms.arm p e s arms) = (b ≤ m) × HasArms at (Arms.arm p e s arms) m

  arm_ok : (b : ℕ) (x : ℕ × Arms) → ArmsOk b x → ArmsOk (b + 1) (next_arm x)
  arm_ok b (m, Arms.no_arms) h = tt
  arm_ok b (m, Arms.arm p e s Arms.no_arms) h = tt
  arm_ok b (m, Arms.arm p e s (Arms.arm q y r more)) h = (omega (arith, h.0, nodes_pos e), h.1.3)

  arms_ok : (i b : ℕ) (x : ℕ × Arms) → ArmsOk b x → ArmsOk (b + i) (times next_arm i x)
  arms_ok zero b x h = subst (λ n. ArmsOk n x) (omega arith) h
  arms_ok (suc i) b x h = subst (λ n. ArmsOk n (next_arm (times next_arm i x))) (omega arith) (arm_ok (b + i) (times next_arm i x) (arms_ok i b x h))

  arms_start : (m : ℕ) (arms : Arms) → HasArms at arms m → ArmsOk m (m, arms)
  arms_start m Arms.no_arms h = tt
  arms_start m (Arms.arm p e s arms) h = (omega arith, h)

  -- statements, as far as there are some
  stms_ok : (i m r : ℕ) (b : Stms) (s : Stm) (more : Stms) → HasStms at b m → on_by past_stm i (m, b) ≡ Some (r, Stms.stm s more) → (m + i ≤ r)
      × HasStms at (Stms.stm s more) r × (times next_stm i (m, b) ≡ (r, Stms.stm s more))
  stms_ok zero m r b s more h e =
      let f : (m, b) ≡ (r, Stms.stm s more) = some_is (m, b) (r, Stms.stm s more) e in
      let g : m ≡ r = ap (λ (x : ℕ × Stms). x.0) f in
      (omega (arith, g), subst (λ (x : ℕ × Stms). HasStms at x.1 x.0) f h, f)
  stms_ok (suc i) m r b s more h e = go (on_by past_stm i (m, b)) refl e (λ n x xs d. stms_ok i m n b x xs h d)
    where
      go : (o : Option (ℕ × Stms)) → on_by past_stm i (m, b) ≡ o → option_and_then past_stm o ≡ Some (r, Stms.stm s more)
          → ((n : ℕ) (x : Stm) (xs : Stms) → on_by past_stm i (m, b) ≡ Some (n, Stms.stm x xs) → (m + i ≤ n) × HasStms at (Stms.stm x xs) n
          × (times next_stm i (m, b) ≡ (n, Stms.stm x xs))) → (m + suc i ≤ r) × HasStms at (Stms.stm s more) r
          × (times next_stm (suc i) (m, b) ≡ (r, Stms.stm s more))
      go None d q again = absurd (none_some (r, Stms.stm s more) q)
      go (Some (n, Stms.no_stms)) d q again = absurd (none_some (r, Stms.stm s more) q)
      go (Some (n, Stms.stm x xs)) d q again =
          let up = again n x xs d in
          let f : (n + stm_nodes x, xs) ≡ (r, Stms.stm s more) = some_is (n + stm_nodes x, xs) (r, Stms.stm s more) q in
          let g : n + stm_nodes x ≡ r = ap (λ (z : ℕ × Stms). z.0) f in
          (omega (arith, up.0, g, stm_nodes_pos x), subst (λ (z : ℕ × Stms). HasStms at z.1 z.0) f up.1.1, ap next_stm up.2 ∙ f)

  -- ---- expressions

  exec_ready : (o : Form) (n : ℕ) (vs : List Value) (en : En) → exec_open o n vs ≡ Some en → R en
  exec_ready Form.exec n (list us ∷ []) en e = go (descs_of us) e
    where
      go : (o : Option (List (Desc (List ℕ)))) → option_map (exec_wait n) o ≡ Some en → R en
      go None e = absurd (none_some en e)
      go (Some ds) e = is_ready (exec_wait n ds) en e tt
  exec_ready Form.exec n (null ∷ []) en e = absurd (none_some en e)
  exec_ready Form.exec n (truth b ∷ []) en e = absurd (none_some en e)
  exec_ready Form.exec n (num z ∷ []) en e = absurd (none_some en e)
  exec_ready Form.exec n (text t ∷ []) en e = absurd (none_some en e)
  exec_ready Form.exec n (dict ps ∷ []) en e = absurd (none_some en e)
  exec_ready Form.exec n (fun f c ∷ []) en e = absurd (none_some en e)
  exec_ready Form.exec n (ref d ∷ []) en e = absurd (none_some en e)
  exec_ready Form.exec n [] en e = absurd (none_some en e)
  exec_ready Form.exec n (v ∷ u ∷ vs) en e = absurd (none_some en e)
  exec_ready Form.list n vs en e = absurd (none_some en e)
  exec_ready Form.dict n vs en e = absurd (none_some en e)
  exec_ready Form.spawn n vs en e = absurd (none_some en e)
  exec_ready Form.spawn_exec n vs en e = absurd (none_some en e)
  exec_ready Form.ref n vs en e = absurd (none_some en e)
  exec_ready Form.len n vs en e = absurd (none_some en e)
  exec_ready Form.keys n vs en e = absurd (none_some en e)
  exec_ready Form.has n vs en e = absurd (none_some en e)
  exec_ready Form.range n vs en e = absurd (none_some en e)

  part_ready : (x : ℕ × Exps) (n k : ℕ) (o : Form) (p : Place) (vs : List Value) (en : En) → Each (Kept {N = List ℕ}) vs → PartsOk k x
      → part_open x n k o p vs ≡ Some en → R en
  part_ready (m, Exps.no_exps) n k o p vs en v h e = exec_ready o n vs en e
  part_ready (m, Exps.exp y ys) n k o p vs en v h e =
      is_ready (part_at n k (m + nodes y) o p vs ys) en e (omega (arith, h.0, nodes_pos y), h.1.1, kept_vals vs v)

  link_ready : (x : ℕ × Links) (n k : ℕ) (vs : List Value) (en : En) → Each (Kept {N = List ℕ}) vs → LinksOk k x → link_open x n k vs ≡ Some en → R en
  link_ready (m, Links.no_links) n k vs en v h e = absurd (none_some en e)
  link_ready (m, Links.link o p y ys) n k [] en v h e = absurd (none_some en e)
  link_ready (m, Links.link o p y ys) n k (u ∷ []) en v h e =
      is_ready (chain_more n k (m + nodes y) o p u ys) en e (omega (arith, h.0, nodes_pos y), h.1.1, v.0)
  link_ready (m, Links.link o p y ys) n k (u ∷ w ∷ vs) en v h e = absurd (none_some en e)

  and_ready : (x : ℕ × Ands) (n k : ℕ) (j : Junction) (vs : List Value) (en : En) → AndsOk k x → and_open x n k j vs ≡ Some en → R en
  and_ready (m, Ands.no_ands) n k j vs en h e = absurd (none_some en e)
  and_ready (m, Ands.and p y ys) n k j [] en h e =
      is_ready (logic_at n k (m + nodes y) j p ys) en e (omega (arith, h.0, nodes_pos y), h.1.1)
  and_ready (m, Ands.and p y ys) n k j (v ∷ vs) en h e = absurd (none_some en e)

  -- fewer signs are left
  signs_fewer : (i : ℕ) (ss : List SignAt) → length (times next_sign i ss) ≤ length ss
  signs_fewer zero ss = omega arith
  signs_fewer (suc i) ss = go (times next_sign i ss) (signs_fewer i ss)
    where
      go : (xs : List SignAt) → length xs ≤ length ss → length (next_sign xs) ≤ length ss
      go [] h = h
      go (x ∷ xs) h = omega (arith, h)

  sign_ready : (ss : List SignAt) (n k : ℕ) (vs : List Value) (en : En) → k < 2 ^ 32 → length ss < 2 ^ 64 → sign_open ss n k vs ≡ Some en → R en
  sign_ready ss n k (ref d ∷ []) en b f e = is_ready (star_wait n k d ss) en e (omega (arith, b, f))
  sign_ready ss n k [] en b f e = absurd (none_some en e)
  sign_ready ss n k (ref d ∷ u ∷ vs) en b f e = absurd (none_some en e)
  sign_ready ss n k (null ∷ vs) en b f e = absurd (none_some en e)
  sign_ready ss n k (truth x ∷ vs) en b f e = absurd (none_some en e)
  sign_ready ss n k (num z ∷ vs) en b f e = absurd (none_some en e)
  sign_ready ss n k (text t ∷ vs) en b f e = absurd (none_some en e)
  sign_ready ss n k (list us ∷ vs) en b f e = absurd (none_some en e)
  sign_ready ss n k (dict ps ∷ vs) en b f e = absurd (none_some en e)
  sign_ready ss n k (fun x c ∷ vs) en b f e = absurd (none_some en e)

  -- how many steps are left from a place on, at most
  abbrev pos_left : Pos → ℕ
  pos_left finished = 0
  pos_left (in_index m e p ss) = steps_left ss
  pos_left (in_args m es p ss) = exps_nodes es + steps_left ss

  enter_left : (m : ℕ) (ss : Steps) → pos_left (enter_pos m ss) ≤ steps_left ss
  enter_left m Steps.no_steps = omega arith
  enter_left m (Steps.index e p ss) = omega arith
  enter_left m (Steps.call es p ss) = omega arith

  next_left : (x : Pos) → pos_left (next_pos x) ≤ pos_left x
  next_left finished = omega arith
  next_left (in_index m e p ss) = enter_left (m + nodes e) ss
  next_left (in_args m Exps.no_exps p ss) = omega (arith, enter_left m ss)
  next_left (in_args m (Exps.exp e es) p ss) = omega arith

  abbrev PosOk : ℕ → Pos → Type 0
  PosOk b x = HasPos at x × (pos_left x ≤ b)

  poses_ok : (i b : ℕ) (x : Pos) → PosOk b x → PosOk b (times next_pos i x)
  poses_ok zero b x h = h
  poses_ok (suc i) b x h =
      let up = poses_ok i b x h in
      (next_has at (times next_pos i x) up.0, omega (arith, up.1, next_left (times next_pos i x)))

  pos_ready : (x : Pos) (n k : ℕ) (vs : List Value) (c : Call (List ℕ)) (en : En) → k < 2 ^ 32 → PosOk (2 ^ 65) x → Each (Kept {N = List ℕ}) vs
      → KeptCall c → pos_open x n k vs c ≡ Some en → R en
  pos_ready finished n k vs c en b h v w e = absurd (none_some en e)
  pos_ready (in_index m y p ss) n k [] c en b h v w e = absurd (none_some en e)
  pos_ready (in_index m y p ss) n k (u ∷ []) c en b h v w e =
      is_ready (index_at n k (m + nodes y) p u ss) en e (h.0.1, v.0, omega (arith, b, h.1))
  pos_ready (in_index m y p ss) n k (u ∷ z ∷ vs) c en b h v w e = absurd (none_some en e)
  pos_ready (in_args m Exps.no_exps p ss) n k vs None en b h v w e = absurd (none_some en e)
  pos_ready (in_args m Exps.no_exps p ss) n k vs (Some (f, xs)) en b h v w e =
      is_ready (call_open n k m f xs ss) en e (subst (HasSteps at ss) (omega arith) h.0.1, w, omega (arith, b, h.1))
  pos_ready (in_args m (Exps.exp y ys) p ss) n k [] c en b h v w e = absurd (none_some en e)
  pos_ready (in_args m (Exps.exp y ys) p ss) n k (f ∷ vs) c en b h v w e =
      is_ready (arg_at n k (m + nodes y) p f vs ys ss) en e
      (h.0.0.1, subst (HasSteps at ss) (omega arith) h.0.1, v.0, kept_vals vs v.1, omega (arith, b, h.1, nodes_pos y))

  exp_ready : (x : Exp) (n k : ℕ) (vs : List Value) (c : Call (List ℕ)) (en : En) → HasExp at x n → FewSteps x → k < 2 ^ 32
      → Each (Kept {N = List ℕ}) vs → KeptCall c → opened_exp x n k vs c ≡ Some en → R en
  exp_ready (Exp.literal l p) n k vs c en h f b v w e = absurd (none_some en e)
  exp_ready (Exp.name x p) n k vs c en h f b v w e = absurd (none_some en e)
  exp_ready (Exp.func x p) n k vs c en h f b v w e = absurd (none_some en e)
  exp_ready (Exp.parens x) n k vs c en h f b v w e = first_ready k vs _ en e tt
  exp_ready (Exp.parts o p es) n zero vs c en h f b v w e = absurd (none_some en e)
  exp_ready (Exp.parts o p es) n (suc i) vs c en h f b v w e =
      part_ready (times next_part i (n + 1, es)) n (suc i) o p vs en v
      (parts_most i n (times next_part i (n + 1, es)) (parts_ok i (n + 1) (n + 1, es) (parts_start (n + 1) es h.1))) e
    where
      parts_most : (i n : ℕ) (x : ℕ × Exps) → PartsOk (n + 1 + i) x → PartsOk (suc i) x
      parts_most i n (m, Exps.no_exps) h = tt
      parts_most i n (m, Exps.exp y ys) h = (omega (arith, h.0), h.1)
  exp_ready (Exp.chain x ls) n zero vs c en h f b v w e = absurd (none_some en e)
  exp_ready (Exp.chain x ls) n (suc zero) vs c en h f b v w e = is_ready _ en e (omega (arith, nodes_pos x), h.2)
  exp_ready (Exp.chain x ls) n (suc (suc i)) vs c en h f b v w e =
      link_ready (times next_link i (n + 1 + nodes x, ls)) n (suc (suc i)) vs en v
      (links_most (times next_link i (n + 1 + nodes x, ls))
      (links_ok i (n + 1 + nodes x) (n + 1 + nodes x, ls) (links_start (n + 1 + nodes x) ls h.2))) e
    where
      links_most : (z : ℕ × Links) → LinksOk (n + 1 + nodes x + i) z → LinksOk (suc (suc i)) z
      links_most (m, Links.no_links) h = tt
      links_most (m, Links.link o p y ys) h = (omega (arith, h.0, nodes_pos x), h.1)
  exp_ready (Exp.logic j x ls) n zero vs c en h f b v w e = absurd (none_some en e)
  exp_ready (Exp.logic j x ls) n (suc zero) vs c en h f b v w e = is_ready _ en e (omega (arith, nodes_pos x), h.2)
  exp_ready (Exp.logic j x ls) n (suc (suc i)) vs c en h f b v w e =
      and_ready (times next_and i (n + 1 + nodes x, ls)) n (suc (suc i)) j vs en
      (ands_most (times next_and i (n + 1 + nodes x, ls))
      (ands_ok i (n + 1 + nodes x) (n + 1 + nodes x, ls) (ands_start (n + 1 + nodes x) ls h.2))) e
    where
      ands_most : (z : ℕ × Ands) → AndsOk (n + 1 + nodes x + i) z → AndsOk (suc (suc i)) z
      ands_most (m, Ands.no_ands) h = tt
      ands_most (m, Ands.and p y ys) h = (omega (arith, h.0, nodes_pos x), h.1)
  exp_ready (Exp.prefix ss x) n zero vs c en h f b v w e = absurd (none_some en e)
  exp_ready (Exp.prefix ss x) n (suc zero) vs c en h f b v w e = is_ready _ en e tt
  exp_ready (Exp.prefix ss x) n (suc (suc i)) vs c en h f b v w e =
      sign_ready (times next_sign (suc i) (reverse ss)) n (suc (suc i)) vs en b
      (omega (arith, f, signs_fewer (suc i) (reverse ss), length-reverse ss)) e
  exp_ready (Exp.postfix x ss) n zero vs c en h f b v w e = absurd (none_some en e)
  exp_ready (Exp.postfix x ss) n (suc zero) vs c en h f b v w e = is_ready _ en e (h.2, omega (arith, f))
  exp_ready (Exp.postfix x ss) n (suc (suc i)) vs c en h f b v w e =
      let m = n + 1 + nodes x in
      pos_ready (times next_pos i (enter_pos m ss)) n (suc (suc i)) vs c en b
      (poses_ok i (2 ^ 65) (enter_pos m ss) (enter_has at m ss h.2, omega (arith, f, enter_left m ss))) v w e

  -- ---- statements and blocks

  put_ready : (x : List ℕ) (q p : Place) (i y : Exp) (n k : ℕ) (vs : List Value) (en : En) → HasExp at y (n + 1 + nodes i)
      → Each (Kept {N = List ℕ}) vs → put_open x q p i y n k vs ≡ Some en → R en
  put_ready x q p i y n zero vs en h v e = absurd (none_some en e)
  put_ready x q p i y n (suc zero) [] en h v e = is_ready (put_index n (n + 1 + nodes i) x q p y) en e h
  put_ready x q p i y n (suc zero) (u ∷ vs) en h v e = absurd (none_some en e)
  put_ready x q p i y n (suc (suc zero)) [] en h v e = absurd (none_some en e)
  put_ready x q p i y n (suc (suc zero)) (u ∷ []) en h v e = is_ready (put_value n x q p u) en e v.0
  put_ready x q p i y n (suc (suc zero)) (u ∷ w ∷ vs) en h v e = absurd (none_some en e)
  put_ready x q p i y n (suc (suc (suc k))) vs en h v e = absurd (none_some en e)

  arm_ready : (x : ℕ × Arms) (n k i : ℕ) (els : Else) (en : En) → ArmsOk k x → HasElse at els i → arm_open x n k i els ≡ Some en → R en
  arm_ready (m, Arms.no_arms) n k i els en h g e = absurd (none_some en e)
  arm_ready (m, Arms.arm p y b more) n k i els en h g e =
      is_ready (arm_test n k (m + nodes y) i p b more els) en e (omega (arith, h.0, nodes_pos y), (h.1.1, h.1.2), h.1.3, g)

  each_ready : (n m : ℕ) (p : Place) (x : List ℕ) (b : Stms) (vs : List Value) (en : En) → HasBlock at m b → Each (Kept {N = List ℕ}) vs
      → each_open n m p x b vs ≡ Some en → R en
  each_ready n m p x b (list us ∷ num (pos t) ∷ []) en h v e = is_ready (for_body n m t p x us b) en e (h, v.0)
  each_ready n m p x b [] en h v e = absurd (none_some en e)
  each_ready n m p x b (list us ∷ []) en h v e = absurd (none_some en e)
  each_ready n m p x b (list us ∷ num (negsuc t) ∷ vs) en h v e = absurd (none_some en e)
  each_ready n m p x b (list us ∷ num (pos t) ∷ u ∷ vs) en h v e = absurd (none_some en e)
  each_ready n m p x b (list us ∷ null ∷ vs) en h v e = absurd (none_some en e)
  each_ready n m p x b (list us ∷ truth z ∷ vs) en h v e = absurd (none_some en e)
  each_ready n m p x b (list us ∷ text t ∷ vs) en h v e = absurd (none_some en e)
  each_ready n m p x b (list us ∷ list ws ∷ vs) en h v e = absurd (none_some en e)
  each_ready n m p x b (list us ∷ dict ps ∷ vs) en h v e = absurd (none_some en e)
  each_ready n m p x b (list us ∷ fun f c ∷ vs) en h v e = absurd (none_some en e)
  each_ready n m p x b (list us ∷ ref d ∷ vs) en h v e = absurd (none_some en e)
  each_ready n m p x b (null ∷ vs) en h v e = absurd (none_some en e)
  each_ready n m p x b (truth z ∷ vs) en h v e = absurd (none_some en e)
  each_ready n m p x b (num z ∷ vs) en h v e = absurd (none_some en e)
  each_ready n m p x b (text t ∷ vs) en h v e = absurd (none_some en e)
  each_ready n m p x b (dict ps ∷ vs) en h v e = absurd (none_some en e)
  each_ready n m p x b (fun f c ∷ vs) en h v e = absurd (none_some en e)
  each_ready n m p x b (ref d ∷ vs) en h v e = absurd (none_some en e)

  for_ready : (p : Place) (x : List ℕ) (y : Exp) (b : Stms) (n k : ℕ) (vs : List Value) (en : En) → HasBlock at (n + 1 + nodes y) b
      → Each (Kept {N = List ℕ}) vs → for_open p x y b n k vs ≡ Some en → R en
  for_ready p x y b n zero vs en h v e = absurd (none_some en e)
  for_ready p x y b n (suc zero) vs en h v e = is_ready (for_list n (n + 1 + nodes y) p x b) en e h
  for_ready p x y b n (suc (suc zero)) vs en h v e = each_ready n (n + 1 + nodes y) p x b vs en h v e
  for_ready p x y b n (suc (suc (suc k))) vs en h v e = absurd (none_some en e)

  stm_ready : (s : Stm) (n k : ℕ) (vs : List Value) (en : En) → HasStm at s n → Each (Kept {N = List ℕ}) vs → opened_stm s n k vs ≡ Some en → R en
  stm_ready (Stm.set x p y) n k vs en h v e = first_ready k vs _ en e tt
  stm_ready (Stm.add x q p y) n k vs en h v e = first_ready k vs _ en e tt
  stm_ready (Stm.put x q p i y) n k vs en h v e = put_ready x q p i y n k vs en h.2 v e
  stm_ready (Stm.return p y) n k vs en h v e = first_ready k vs _ en e tt
  stm_ready (Stm.leave p) n k vs en h v e = absurd (none_some en e)
  stm_ready (Stm.cases p arms els) n zero vs en h v e = absurd (none_some en e)
  stm_ready (Stm.cases p arms els) n (suc i) vs en h v e =
      arm_ready (times next_arm i (n + 1, arms)) n (suc i) (n + 1 + arms_nodes arms) els en
      (arms_most (times next_arm i (n + 1, arms)) (arms_ok i (n + 1) (n + 1, arms) (arms_start (n + 1) arms h.1))) h.2 e
    where
      arms_most : (z : ℕ × Arms) → ArmsOk (n + 1 + i) z → ArmsOk (suc i) z
      arms_most (m, Arms.no_arms) h = tt
      arms_most (m, Arms.arm p y b more) h = (omega (arith, h.0), h.1)
  stm_ready (Stm.while p y b) n k vs en h v e = two_ready k vs _ _ en e (h.1, (h.2, h.3)) (h.1, (h.2, h.3))
  stm_ready (Stm.repeat p b y) n k vs en h v e = two_ready k vs _ _ en e (h.1, (h.2, h.3)) (h.1, (h.2, h.3))
  stm_ready (Stm.for p x y b) n k vs en h v e = for_ready p x y b n k vs en (h.2, h.3) v e
  stm_ready (Stm.just p y) n k vs en h v e = first_ready k vs _ en e tt

  block_ready : (b : Stms) (n k : ℕ) (vs : List Value) (c : Call (List ℕ)) (en : En) → HasStms at b (n + 1)
      → IsStep (row (Some (block_node b)) n k) → opened (block_node b) n k vs c ≡ Some en → R en
  block_ready b n zero vs c en h s e = is_ready (block_at n 0 (n + 1) b) en e (omega arith, h)
  block_ready b n (suc i) vs c en h s e = go (on_by past_stm i (n + 1, b)) refl s
    where
      go : (o : Option (ℕ × Stms)) → on_by past_stm i (n + 1, b) ≡ o → IsStep (ran_row o) → R en
      go None d g = absurd g
      go (Some (m, Stms.no_stms)) d g = absurd g
      go (Some (m, Stms.stm x xs)) d g =
          let up = stms_ok i (n + 1) m b x xs h d in
          let is : times next_stm (suc i) (n + 1, b) ≡ (m + stm_nodes x, xs) = ap next_stm up.2 in
          is_ready (block_at n (suc i) (m + stm_nodes x) xs) en (ap (λ (z : ℕ × Stms). Some (block_at n (suc i) z.0 z.1)) (sym is) ∙ e)
          (omega (arith, up.0), up.1.1)

  -- a form that is opened at a step which the table has is ready, where the values that it keeps, and the caller's variables, keep
  -- the limits
  pub node_ready : (t : Node) (n k : ℕ) (vs : List Value) (c : Call (List ℕ)) (en : En) → HasNode at t n → Few t → k < 2 ^ 32
      → Each (Kept {N = List ℕ}) vs → KeptCall c → IsStep (row (Some t) n k) → opened t n k vs c ≡ Some en → R en
  node_ready (exp_node x) n k vs c en h f b v w s e = exp_ready x n k vs c en h f b v w e
  node_ready (stm_node x) n k vs c en h f b v w s e = stm_ready x n k vs en h v e
  node_ready (block_node x) n k vs c en h f b v w s e = block_ready x n k vs c en h.1 s e
