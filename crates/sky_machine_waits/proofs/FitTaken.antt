-- In a stack that fits, a `for` under way has taken no more elements than its list has.
use Rattle.std.proofs.Common.{◌≡◌, ℕ, ◌+◌, List, [], ◌∷◌, Option, Some, None, pos, subst}
use Rattle.sky_base.specs.Val.{Val, Vals, Pairs, list, num}
use Rattle.sky_base.specs.Tree.{Place, Form, Exp, Exps, Links, Ands, Stm, Stms, Arms, Else, Script, nodes, arms_nodes}
use Rattle.sky_base.specs.Res.{Entry, parens_in, part_at, chain_first, chain_more, logic_at, prefix_part, star_wait, postfix_first, index_at, arg_at}
use Rattle.sky_base.specs.Res.{call_open, exec_wait, set_part, add_part, put_index, put_value, return_part, just_part, arm_test, while_test}
use Rattle.sky_base.specs.Res.{while_body, repeat_body, repeat_test, for_list, for_body, block_at, kept_of, opens}
use Rattle.sky_base.specs.Eval.{body_of}
use Rattle.sky_base_law.specs.Opened.{Node, exp_node, stm_node, block_node, next_part, next_arm, Pos, finished, in_index, in_args, enter_pos, times}
use Rattle.sky_base_law.specs.Opened.{exec_open, part_open, link_open, and_open, pos_open, arm_open, opened, Opened}
use Rattle.sky_base_law.specs.Nodes.{node_at}
use Rattle.sky_state.specs.Table.{Row, part, turn, star, outputs, open_call, no_step, row}
use Rattle.sky_state.specs.Chained.{body_places, row_at, KeptBy, Above, Chained, AllOpened}
use Rattle.sky_machine_waits.specs.Taken.{TakenIn, AllTaken}

abbrev AtIn : Script → ℕ → Option Node
AtIn sc i = node_at sc i

module _ {N : Type 0} (sc : Script) where
  module _ (n m t : ℕ) (p : Place) (x : List ℕ) (vs : Vals N) (b : Stms) where
    abbrev Turn : Entry N
    Turn = for_body n m t p x vs b

    abbrev Two : List (Val N)
    Two = list vs ∷ num (pos t) ∷ []

    no_exec : (o : Form) → exec_open o n Two ≡ Some Turn → ⊥
    no_exec Form.list e = cc
    no_exec Form.dict e = cc
    no_exec Form.spawn e = cc
    no_exec Form.spawn_exec e = cc
    no_exec Form.exec e = cc
    no_exec Form.ref e = cc
    no_exec Form.len e = cc
    no_exec Form.keys e = cc
    no_exec Form.has e = cc
    no_exec Form.range e = cc

    no_part : (r : ℕ × Exps) (o : Form) (q : Place) → part_open r n 2 o q Two ≡ Some Turn → ⊥
    no_part (k, Exps.no_exps) o q e = no_exec o e
    no_part (k, Exps.exp a es) o q e = cc

    no_link : (r : ℕ × Links) → link_open r n 2 Two ≡ Some Turn → ⊥
    no_link (k, Links.no_links) e = cc
    no_link (k, Links.link o q a ls) e = cc

    no_pos : (r : Pos) → pos_open r n 2 Two None ≡ Some Turn → ⊥
    no_pos finished e = cc
    no_pos (in_index k a q ss) e = cc
    no_pos (in_args k Exps.no_exps q ss) e = cc
    no_pos (in_args k (Exps.exp a es) q ss) e = cc

    no_arm : (r : ℕ × Arms) (i : ℕ) (els : Else) → arm_open {N = N} r n 2 i els ≡ Some Turn → ⊥
    no_arm (k, Arms.no_arms) i els e = cc
    no_arm (k, Arms.arm q a c arms) i els e = cc

    -- only a `for` has such a form, and there the table says how many elements are taken at most
    turn_taken : (a : Node) → opened a n 2 Two None ≡ Some Turn → KeptBy sc (AtIn sc) (row (Some a) n 2) Two → TakenIn Turn
    turn_taken (exp_node (Exp.literal l q)) e k = absurd cc
    turn_taken (exp_node (Exp.name y q)) e k = absurd cc
    turn_taken (exp_node (Exp.func y q)) e k = absurd cc
    turn_taken (exp_node (Exp.parens a)) e k = absurd cc
    turn_taken (exp_node (Exp.parts o q es)) e k = absurd (no_part (times next_part 1 (n + 1, es)) o q e)
    turn_taken (exp_node (Exp.chain a ls)) e k = absurd (no_link (n + 1 + nodes a, ls) e)
    turn_taken (exp_node (Exp.logic j a ls)) e k = absurd (no_and (n + 1 + nodes a, ls) e)
      where
        no_and : (r : ℕ × Ands) → and_open r n 2 j Two ≡ Some Turn → ⊥
        no_and (i, Ands.no_ands) d = cc
        no_and (i, Ands.and q c more) d = cc
    turn_taken (exp_node (Exp.prefix ss a)) e k = absurd cc
    turn_taken (exp_node (Exp.postfix a ss)) e k = absurd (no_pos (enter_pos (n + 1 + nodes a) ss) e)
    turn_taken (stm_node (Stm.set y q a)) e k = absurd cc
    turn_taken (stm_node (Stm.add y o q a)) e k = absurd cc
    turn_taken (stm_node (Stm.put y o q i a)) e k = absurd cc
    turn_taken (stm_node (Stm.return q a)) e k = absurd cc
    turn_taken (stm_node (Stm.leave q)) e k = absurd cc
    turn_taken (stm_node (Stm.cases q arms els)) e k = absurd (no_arm (times next_arm 1 (n + 1, arms)) (n + 1 + arms_nodes arms) els e)
    turn_taken (stm_node (Stm.while q a c)) e k = absurd cc
    turn_taken (stm_node (Stm.repeat q c a)) e k = absurd cc
    turn_taken (stm_node (Stm.for q y a c)) e k = k.taken
    turn_taken (stm_node (Stm.just q a)) e k = absurd cc
    turn_taken (block_node c) e k = absurd cc

  -- a form that is opened by what is saved of it, and keeps what the table says
  taken_in : (en : Entry N) → Opened (AtIn sc) en → KeptBy sc (AtIn sc) (row_at sc (AtIn sc) en) (kept_of en) → TakenIn en
  taken_in (parens_in n) o k = tt
  taken_in (part_at n i m f p vs es) o k = tt
  taken_in (chain_first n m ls) o k = tt
  taken_in (chain_more n i m f p v ls) o k = tt
  taken_in (logic_at n i m j p ls) o k = tt
  taken_in (prefix_part n ss) o k = tt
  taken_in (star_wait n i d ss) o k = tt
  taken_in (postfix_first n m ss) o k = tt
  taken_in (index_at n i m p v ss) o k = tt
  taken_in (arg_at n i m p f vs es ss) o k = tt
  taken_in (call_open n i m f xs ss) o k = tt
  taken_in (exec_wait n ds) o k = tt
  taken_in (set_part n x) o k = tt
  taken_in (add_part n x q p) o k = tt
  taken_in (put_index n m x q p e) o k = tt
  taken_in (put_value n x q p v) o k = tt
  taken_in (return_part n) o k = tt
  taken_in (just_part n) o k = tt
  taken_in (arm_test n i m j p b arms els) o k = tt
  taken_in (while_test n m p e b) o k = tt
  taken_in (while_body n m p e b) o k = tt
  taken_in (repeat_body n m p b e) o k = tt
  taken_in (repeat_test n m p b e) o k = tt
  taken_in (for_list n m p x b) o k = tt
  taken_in (for_body n m t p x vs b) (a, here, is) k =
      turn_taken n m t p x vs b a is (subst (λ y. KeptBy sc (AtIn sc) (row y n 2) (list vs ∷ num (pos t) ∷ [])) here k)
  taken_in (block_at n i m b) o k = tt

  pub fit_taken : (fr : List (Entry N)) (ps : List ℕ) → Chained sc (AtIn sc) ps fr → AllOpened (AtIn sc) fr → AllTaken fr
  fit_taken [] ps c o = tt
  fit_taken (en ∷ []) ps c o = (taken_in en o.0 c.1, tt)
  fit_taken (en ∷ x ∷ fr) ps c o = (taken_in en o.0 c.1, go (row_at sc (AtIn sc) en) (opens en) c.2 (λ ms k. fit_taken (x ∷ fr) ms k o.1))
    where
      go : (r : Row) (y : Option (List ℕ × Pairs N)) → Above sc (AtIn sc) r y ((x ∷ fr) ≡ []) (λ ms. Chained sc (AtIn sc) ms (x ∷ fr))
          → ((ms : List ℕ) → Chained sc (AtIn sc) ms (x ∷ fr) → AllTaken (x ∷ fr)) → AllTaken (x ∷ fr)
      go (part k ms) None h up = up ms h
      go (part k ms) (Some c) h up = absurd h
      go (turn m) None h up = up (m ∷ []) h
      go (turn m) (Some c) h up = absurd h
      go star None h up = absurd cc
      go star (Some c) h up = absurd h
      go outputs None h up = absurd cc
      go outputs (Some c) h up = absurd h
      go open_call None h up = absurd h
      go open_call (Some c) h up = up (body_places (body_of c.0 sc)) h.1
      go no_step None h up = absurd h
      go no_step (Some c) h up = absurd h
