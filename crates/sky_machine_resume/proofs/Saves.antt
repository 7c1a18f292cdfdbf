-- Forms under way that follow each other can be saved.
use Rattle.std.proofs.Common.{◌≡◌, ◌≤◌, ◌<◌, ◌^◌, ℕ, List, [], ◌∷◌, Option, Some, None, refl, arith}
use Rattle.sky_base.specs.Val.{Pairs, sizes}
use Rattle.sky_base.specs.Tree.{Script}
use Rattle.sky_base.specs.Res.{Entry, parens_in, part_at, chain_first, chain_more, logic_at, prefix_part, star_wait, postfix_first, index_at, arg_at}
use Rattle.sky_base.specs.Res.{call_open, exec_wait, set_part, add_part, put_index, put_value, return_part, just_part, arm_test, while_test}
use Rattle.sky_base.specs.Res.{while_body, repeat_body, repeat_test, for_list, for_body, block_at, node_of, step_of, opens}
use Rattle.sky_base.specs.Eval.{body_of}
use Rattle.sky_base_law.specs.Opened.{Node}
use Rattle.sky_base_law.specs.Nodes.{node_at}
use Rattle.sky_base_scope.proofs.OpLaw.{count_least}
use Rattle.sky_machine_entries.specs.Ready.{IsReady, AreReady}
use Rattle.sky_state.specs.Table.{Row, part, turn, star, outputs, open_call, no_step, row, IsStep}
use Rattle.sky_state.specs.Chained.{body_places, row_at, Above, Chained}
use Rattle.sky_machine_save.specs.Saving.{TakenFits, CanSave, AllCanSave}
use Rattle.sky_machine_waits.specs.Taken.{TakenIn, AllTaken}
use Rattle.sky_machine_resume.specs.Comes.{StepsFit}

abbrev AtIn : Script → ℕ → Option Node
AtIn sc i = node_at sc i

taken_fits : (at : ℕ → Option Node) (en : Entry (List ℕ)) → TakenIn en → IsReady at en → TakenFits en
taken_fits at (parens_in n) t r = tt
taken_fits at (part_at n i m f p vs es) t r = tt
taken_fits at (chain_first n m ls) t r = tt
taken_fits at (chain_more n i m f p v ls) t r = tt
taken_fits at (logic_at n i m j p ls) t r = tt
taken_fits at (prefix_part n ss) t r = tt
taken_fits at (star_wait n i d ss) t r = tt
taken_fits at (postfix_first n m ss) t r = tt
taken_fits at (index_at n i m p v ss) t r = tt
taken_fits at (arg_at n i m p f vs es ss) t r = tt
taken_fits at (call_open n i m f xs ss) t r = tt
taken_fits at (exec_wait n ds) t r = tt
taken_fits at (set_part n x) t r = tt
taken_fits at (add_part n x q p) t r = tt
taken_fits at (put_index n m x q p e) t r = tt
taken_fits at (put_value n x q p v) t r = tt
taken_fits at (return_part n) t r = tt
taken_fits at (just_part n) t r = tt
taken_fits at (arm_test n i m j p b arms els) t r = tt
taken_fits at (while_test n m p e b) t r = tt
taken_fits at (while_body n m p e b) t r = tt
taken_fits at (repeat_body n m p b e) t r = tt
taken_fits at (repeat_test n m p b e) t r = tt
taken_fits at (for_list n m p x b) t r = tt
taken_fits at (for_body n m i p x vs b) t r =
    let few = count_least vs in
    let large : sizes vs ≤ 262144 = omega (arith, r.1.large) in
    omega (arith, t, few, large)
taken_fits at (block_at n i m b) t r = tt

module _ (sc : Script) (fits : StepsFit sc) where
  abbrev Chain : List ℕ → List (Entry (List ℕ)) → Type 0
  Chain ps fr = Chained sc (AtIn sc) ps fr

  is_step : (r : Row) (o : Option (List ℕ × Pairs (List ℕ))) (fr : List (Entry (List ℕ))) → Above sc (AtIn sc) r o (fr ≡ []) (λ ms. Chain ms fr)
      → IsStep r
  is_step (part k ms) o fr h = tt
  is_step (turn m) o fr h = tt
  is_step star o fr h = tt
  is_step outputs o fr h = tt
  is_step open_call o fr h = tt
  is_step no_step None fr h = h
  is_step no_step (Some c) fr h = h

  step_fits : (n k : ℕ) → IsStep (row (AtIn sc n) n k) → k < 2 ^ 32
  step_fits n k s = go (AtIn sc n) refl s
    where
      go : (t : Option Node) → node_at sc n ≡ t → IsStep (row t n k) → k < 2 ^ 32
      go None e s = absurd s
      go (Some t) e s = fits t n k s e

  above_more : (r : Row) (o : Option (List ℕ × Pairs (List ℕ))) (x : Entry (List ℕ)) (fr : List (Entry (List ℕ)))
      → Above sc (AtIn sc) r o ((x ∷ fr) ≡ []) (λ ms. Chain ms (x ∷ fr)) → (ms : List ℕ) × Chain ms (x ∷ fr)
  above_more (part k ms) None x fr h = (ms, h)
  above_more (part k ms) (Some c) x fr h = absurd h
  above_more (turn m) None x fr h = (m ∷ [], h)
  above_more (turn m) (Some c) x fr h = absurd h
  above_more star None x fr h = absurd cc
  above_more star (Some c) x fr h = absurd h
  above_more outputs None x fr h = absurd cc
  above_more outputs (Some c) x fr h = absurd h
  above_more open_call None x fr h = absurd h
  above_more open_call (Some c) x fr h = (body_places (body_of c.0 sc), h.1)
  above_more no_step None x fr h = absurd h
  above_more no_step (Some c) x fr h = absurd h

  one_saves : (en : Entry (List ℕ)) (fr : List (Entry (List ℕ))) (ps : List ℕ) → Chain ps (en ∷ fr) → TakenIn en → IsReady (AtIn sc) en → CanSave en
  one_saves en fr ps c t r =
      (step_fits (node_of en) (step_of en) (is_step (row_at sc (AtIn sc) en) (opens en) fr c.2), taken_fits (AtIn sc) en t r)

  pub can_save : (fr : List (Entry (List ℕ))) (ps : List ℕ) → Chain ps fr → AllTaken fr → AreReady (AtIn sc) fr → AllCanSave fr
  can_save [] ps c t r = tt
  can_save (en ∷ []) ps c t r = (one_saves en [] ps c t.0 r.0, tt)
  can_save (en ∷ x ∷ fr) ps c t r =
      let up = above_more (row_at sc (AtIn sc) en) (opens en) x fr c.2 in
      (one_saves en (x ∷ fr) ps c t.0 r.0, can_save (x ∷ fr) up.0 up.1 t.1 r.1)
