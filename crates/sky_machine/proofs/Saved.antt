-- Forms that follow each other in a script with narrow nodes can be saved.
use Rattle.std.proofs.Common.{◌≡◌, ◌≤◌, ◌<◌, ◌+◌, ◌^◌, ℕ, List, [], ◌∷◌, Bool, true, false, Option, Some, None, pos, refl, subst, sym, arith, ◌⊎◌}
use Rattle.std.proofs.Common.{inl, inr}
use Rattle.sky_base.specs.Val.{Val, Vals, Pairs, list, num, count, sizes}
use Rattle.sky_base.specs.Tree.{Script}
use Rattle.sky_base.specs.Tree as tree
use Rattle.sky_base.specs.Kept.{Kept}
use Rattle.sky_base.specs.Res.{parens_in, part_at, chain_first, chain_more, logic_at, prefix_part, star_wait, postfix_first, index_at, arg_at}
use Rattle.sky_base.specs.Res.{call_open, exec_wait, set_part, add_part, put_index, put_value, return_part, just_part, arm_test, while_test}
use Rattle.sky_base.specs.Res.{while_body, repeat_body, repeat_test, for_list, for_body, block_at, node_of, step_of, kept_of, opens}
use Rattle.sky_base.specs.Tree.{Place, SignAt, Exp, Exps, Links, Ands, Arms, Stm, Stms, nodes, block_nodes, arms_nodes}
use Rattle.sky_base_law.specs.Opened.{Node, exp_node, stm_node, block_node, Pos, finished, in_index, in_args, enter_pos, next_part, next_link, next_and}
use Rattle.sky_base_law.specs.Opened.{next_pos, next_arm, times, part_open, exec_open, link_open, and_open, pos_open, arm_open, opened, opened_exp, Opened}
use Rattle.sky_base_law.specs.Nodes.{node_at}
use Rattle.sky_base_law.proofs.TypedOps.{count_small}
use Rattle.sky_state.specs.Table.{Row, part, turn, star, outputs, open_call, no_step, row, IsStep}
use Rattle.sky_state.specs.Chained.{Above, AllOpened, Chained, KeptBy, row_at}
use Rattle.sky_state.specs.Fits.{TakenFrom}
use Rattle.sky_machine_entries.specs.Entries.{Form}
use Rattle.sky_machine_entries.specs.Ready.{AreReady, IsReady}
use Rattle.sky_machine_save.specs.Saving.{AllCanSave, CanSave, TakenFits}
use Rattle.sky_machine.specs.Width.{width, Narrow}
use Rattle.sky_machine.proofs.NarrowSteps.{step_within}

-- ---- an entry of the body of a `for` stands at a `for`

abbrev is_for : Form → Bool
is_for (for_body n m t p x vs b) = true
is_for _ = false

abbrev NotFor : Option Form → Type 0
NotFor None = Unit {0}
NotFor (Some en) = is_for en ≡ false

module _ (us : Vals (List ℕ)) (t : ℕ) where
  -- what the body of a `for` keeps
  abbrev two : List (Val (List ℕ))
  two = list us ∷ num (pos t) ∷ []

  exec_not : (o : tree.Form) (n : ℕ) → NotFor (exec_open o n two)
  exec_not tree.Form.list n = tt
  exec_not tree.Form.dict n = tt
  exec_not tree.Form.spawn n = tt
  exec_not tree.Form.spawn_exec n = tt
  exec_not tree.Form.exec n = tt
  exec_not tree.Form.ref n = tt
  exec_not tree.Form.len n = tt
  exec_not tree.Form.keys n = tt
  exec_not tree.Form.has n = tt
  exec_not tree.Form.range n = tt

  part_not : (r : ℕ × Exps) (n k : ℕ) (o : tree.Form) (p : Place) → NotFor (part_open r n k o p two)
  part_not (m, Exps.no_exps) n k o p = exec_not o n
  part_not (m, Exps.exp e es) n k o p = refl

  link_not : (r : ℕ × Links) (n k : ℕ) → NotFor (link_open r n k two)
  link_not (m, Links.no_links) n k = tt
  link_not (m, Links.link o p e ls) n k = tt

  and_not : (r : ℕ × Ands) (n k : ℕ) (j : tree.Junction) → NotFor (and_open r n k j two)
  and_not (m, Ands.no_ands) n k j = tt
  and_not (m, Ands.and p e ls) n k j = tt

  pos_not : (r : Pos) (n k : ℕ) → NotFor (pos_open r n k two None)
  pos_not finished n k = tt
  pos_not (in_index m e p ss) n k = tt
  pos_not (in_args m Exps.no_exps p ss) n k = tt
  pos_not (in_args m (Exps.exp e es) p ss) n k = refl

  arm_not : (r : ℕ × Arms) (n k i : ℕ) (els : tree.Else) → NotFor (arm_open {N = List ℕ} r n k i els)
  arm_not (m, Arms.no_arms) n k i els = tt
  arm_not (m, Arms.arm p e b arms) n k i els = refl

  exp_not : (e : Exp) (n : ℕ) → NotFor (opened_exp e n 2 two None)
  exp_not (Exp.literal l p) n = tt
  exp_not (Exp.name x p) n = tt
  exp_not (Exp.func x p) n = tt
  exp_not (Exp.parens e) n = tt
  exp_not (Exp.parts o p es) n = part_not (times next_part 1 (n + 1, es)) n 2 o p
  exp_not (Exp.chain e ls) n = link_not (times next_link 0 (n + 1 + nodes e, ls)) n 2
  exp_not (Exp.logic j e ls) n = and_not (times next_and 0 (n + 1 + nodes e, ls)) n 2 j
  exp_not (Exp.prefix ss e) n = tt
  exp_not (Exp.postfix e ss) n = pos_not (times next_pos 0 (enter_pos (n + 1 + nodes e) ss)) n 2

  for_not : (o : Option Form) (en : Form) → is_for en ≡ true → NotFor o → o ≡ Some en → ⊥
  for_not None en f h e = cc
  for_not (Some fr) en f h e = let same : fr ≡ en = cc in let left : is_for fr ≡ is_for en = (λ j. is_for (same j)) in cc

  -- so the row of the entry says that at most the whole list is taken
  for_taken : (d : Node) (n : ℕ) (en : Form) → is_for en ≡ true → opened d n 2 two None ≡ Some en → TakenFrom (row (Some d) n 2) two → t ≤ count us
  for_taken (exp_node e) n en f o h = absurd (for_not (opened_exp e n 2 two None) en f (exp_not e n) o)
  for_taken (block_node b) n en f o h = absurd (for_not (opened (block_node b) n 2 two None) en f refl o)
  for_taken (stm_node (Stm.for p x e b)) n en f o h = h
  for_taken (stm_node (Stm.set x p e)) n en f o h = absurd (for_not None en f tt o)
  for_taken (stm_node (Stm.add x q p e)) n en f o h = absurd (for_not None en f tt o)
  for_taken (stm_node (Stm.put x q p i e)) n en f o h = absurd (for_not None en f tt o)
  for_taken (stm_node (Stm.return p e)) n en f o h = absurd (for_not None en f tt o)
  for_taken (stm_node (Stm.leave p)) n en f o h = absurd (for_not None en f tt o)
  for_taken (stm_node (Stm.cases p arms els)) n en f o h =
      absurd (for_not (arm_open (times next_arm 1 (n + 1, arms)) n 2 (n + 1 + arms_nodes arms) els) en f
      (arm_not (times next_arm 1 (n + 1, arms)) n 2 (n + 1 + arms_nodes arms) els) o)
  for_taken (stm_node (Stm.while p e b)) n en f o h = absurd (for_not None en f tt o)
  for_taken (stm_node (Stm.repeat p b e)) n en f o h = absurd (for_not None en f tt o)
  for_taken (stm_node (Stm.just p e)) n en f o h = absurd (for_not None en f tt o)

module _ (sc : Script) (narrow : Narrow sc) where
  abbrev at : ℕ → Option Node
  at i = node_at sc i

  -- what stands above a form says that its step is one, and goes on with the forms above it
  above_step : (r : Row) (o : Option (List ℕ × Pairs (List ℕ))) (X : Type 0) (M : List ℕ → Type 0) → Above sc at r o X M → IsStep r
  above_step (part k ms) o X M h = tt
  above_step (turn m) o X M h = tt
  above_step star o X M h = tt
  above_step outputs o X M h = tt
  above_step open_call o X M h = tt
  above_step no_step None X M h = absurd h
  above_step no_step (Some c) X M h = absurd h

  step_fits : (t : Option Node) (n k : ℕ) → node_at sc n ≡ t → IsStep (row t n k) → k < 2 ^ 32
  step_fits None n k e h = absurd h
  step_fits (Some t) n k e h = let small : width t + 2 < 4294967296 = narrow n t e in let le : k ≤ width t + 2 = step_within t n k h in
      let lt : k < 4294967296 = omega (arith, small, le) in lt

  -- a list that keeps the limits has fewer members than a number of the language can count
  few_taken : (t : ℕ) (us : Vals (List ℕ)) → t ≤ count us → Kept (list us) → t < 2 ^ 63
  few_taken t us le kept =
      let s : 1 + sizes us ≤ 262144 = kept.large in
      let lt : t < 9223372036854775808 = omega (arith, count_small us, le, s) in lt

  taken_fits : (en : Form) → Opened at en → KeptBy sc at (row_at sc at en) (kept_of en) → IsReady at en → TakenFits en
  taken_fits (for_body n m t p x us b) (d, e, o) kept ready =
      few_taken t us (for_taken us t d n (for_body n m t p x us b) refl o
      (subst (λ (s : Option Node). TakenFrom (row s n 2) (two us t)) e kept.taken)) ready.1
  taken_fits (parens_in n) o k r = tt
  taken_fits (part_at n k m o p vs es) d e r = tt
  taken_fits (chain_first n m ls) o k r = tt
  taken_fits (chain_more n k m o p v ls) d e r = tt
  taken_fits (logic_at n k m j p ls) d e r = tt
  taken_fits (prefix_part n ss) o k r = tt
  taken_fits (star_wait n k x ss) d e r = tt
  taken_fits (postfix_first n m ss) o k r = tt
  taken_fits (index_at n k m p v ss) d e r = tt
  taken_fits (arg_at n k m p f vs es ss) d e r = tt
  taken_fits (call_open n k m f xs ss) d e r = tt
  taken_fits (exec_wait n ds) o k r = tt
  taken_fits (set_part n x) o k r = tt
  taken_fits (add_part n x q p) o k r = tt
  taken_fits (put_index n m x q p e) o k r = tt
  taken_fits (put_value n x q p v) o k r = tt
  taken_fits (return_part n) o k r = tt
  taken_fits (just_part n) o k r = tt
  taken_fits (arm_test n k m i p b arms els) d e r = tt
  taken_fits (while_test n m p e b) o k r = tt
  taken_fits (while_body n m p e b) o k r = tt
  taken_fits (repeat_body n m p b e) o k r = tt
  taken_fits (repeat_test n m p b e) o k r = tt
  taken_fits (for_list n m p x b) o k r = tt
  taken_fits (block_at n k m b) d e r = tt

  can_save : (en : Form) (X : Type 0) (M : List ℕ → Type 0) → KeptBy sc at (row_at sc at en) (kept_of en)
      → Above sc at (row_at sc at en) (opens en) X M → Opened at en → IsReady at en → CanSave en
  can_save en X M kept above o r =
      (step_fits (at (node_of en)) (node_of en) (step_of en) refl (above_step (row_at sc at en) (opens en) X M above), taken_fits en o kept r)

  -- what stands above goes on
  above_more : (r : Row) (o : Option (List ℕ × Pairs (List ℕ))) (fr : List Form) → Above sc at r o (fr ≡ []) (λ ms. Chained sc at ms fr)
      → (fr ≡ []) ⊎ ((ms : List ℕ) × Chained sc at ms fr)
  above_more (part k ms) None fr h = inr (ms, h)
  above_more (turn m) None fr h = inr (m ∷ [], h)
  above_more star None fr h = inl h
  above_more outputs None fr h = inl h
  above_more open_call (Some c) fr h = inr (_, h.1)
  above_more (part k ms) (Some c) fr h = absurd h
  above_more (turn m) (Some c) fr h = absurd h
  above_more star (Some c) fr h = absurd h
  above_more outputs (Some c) fr h = absurd h
  above_more open_call None fr h = absurd h
  above_more no_step o fr h = absurd (nothing o h)
    where
      nothing : (o : Option (List ℕ × Pairs (List ℕ))) → Above sc at no_step o (fr ≡ []) (λ ms. Chained sc at ms fr) → ⊥
      nothing None h = h
      nothing (Some c) h = h

  pub all_can_save : (ps : List ℕ) (fr : List Form) → Chained sc at ps fr → AllOpened at fr → AreReady at fr → AllCanSave fr
  all_can_save ps [] c o r = absurd c
  all_can_save ps (en ∷ fr) c o r = (
    can_save en (fr ≡ []) (λ ms. Chained sc at ms fr) c.1 c.2 o.0 r.0,
    rest (above_more (row_at sc at en) (opens en) fr c.2) (λ ms h. all_can_save ms fr h o.1 r.1),
  )
    where
      rest : (fr ≡ []) ⊎ ((ms : List ℕ) × Chained sc at ms fr) → ((ms : List ℕ) → Chained sc at ms fr → AllCanSave fr) → AllCanSave fr
      rest (inl e) go = subst AllCanSave (sym e) tt
      rest (inr (ms, h)) go = go ms h
