-- At each wait of a task its forms under way say what it waits for.
use Rattle.std.proofs.Common.{◌≡◌, ℕ, zero, suc, List, [], ◌∷◌, map, Option, Some, None, refl, ap, ◌∙◌}
use Rattle.std.specs.Option.{option_map}
use Rattle.sky_base.specs.Val.{Vals, Pairs, Desc}
use Rattle.sky_base.specs.Tree.{nowhere, SignAt}
use Rattle.sky_base.specs.Res.{bodies, Object, Entry, parens_in, part_at, chain_first, chain_more, logic_at, prefix_part, star_wait, postfix_first}
use Rattle.sky_base.specs.Res.{index_at, arg_at, call_open, exec_wait, set_part, add_part, put_index, put_value, return_part, just_part, arm_test}
use Rattle.sky_base.specs.Res.{while_test, while_body, repeat_body, repeat_test, for_list, for_body, block_at, node_of, Wait, Res, Fin, Tell, Ask}
use Rattle.sky_base.specs.Read.{Halt, refs_of, see_all, halt, halts_seen}
use Rattle.sky_base.specs.See.{Job, Around, run_of, world_of, start_st}
use Rattle.sky_base_law.specs.Lower.{low_entry, low_wait, low_ref}
use Rattle.sky_base_law.specs.NamesLaws.{Tag, no_name}
use Rattle.sky_base_law.specs.Opened.{Node}
use Rattle.sky_base_law.specs.Nodes.{node_at}
use Rattle.sky_base_law.proofs.NodesLaw.{has_script}
use Rattle.sky_machine_waits.specs.Waits.{signs_of, sign_at, star_at, waits_for, wait_at}
use Rattle.sky_machine_waits.proofs.AskLaw.{Asks, asks_call}

module _ (job : Job) (around : Around) (see : Desc ⊥ → Option (Object ⊥)) where
  abbrev At : ℕ → Option Node
  At i = node_at job.script i

  at_seen : (x : Option (List (Object ⊥))) (k : List (Object ⊥) → Option (Halt ⊥)) (h : Halt ⊥)
      → ((os : List (Object ⊥)) → k os ≡ Some h → wait_at At h.forms ≡ Some h.wait) → halts_seen x k ≡ Some h → wait_at At h.forms ≡ Some h.wait
  at_seen None k h g e = absurd cc
  at_seen (Some os) k h g e = g os e

  at_wait : (j : ℕ) (r : Res ⊥) (h : Halt ⊥) → Asks (world_of job.script around) At r → halt see j r ≡ Some h → wait_at At h.forms ≡ Some h.wait
  at_wait j (Fin e st) h g is = absurd cc
  at_wait j (Tell d r) h g is = at_wait j r h g.1 is
  at_wait zero (Ask q fr st k) h g is = rw here g.0
    where
      here : h ≡ record { wait = q; forms = fr; st = st }
      here = cc
  at_wait (suc j) (Ask q fr st k) h g is = at_seen (see_all see (refs_of q)) (λ os. halt see j (k os)) h (λ os e. at_wait j (k os) h (g.1 os) e) is

  pub found : (f : List ℕ) (c : Pairs ⊥) (vs : Vals ⊥) (j : ℕ) (h : Halt ⊥) → halt see j (run_of job around f c vs) ≡ Some h → wait_at At h.forms
      ≡ Some h.wait
  found f c vs j h is =
      at_wait j (run_of job around f c vs) h (asks_call (world_of job.script around) At bodies f c vs nowhere start_st (has_script job.script)) is

-- ---- over names

module _ (tag : Tag) (at : ℕ → Option Node) where
  star_low : (s : Option SignAt) (d : Desc ⊥) → star_at s (low_ref no_name tag d) ≡ option_map (low_wait no_name tag) (star_at s d)
  star_low None d = refl
  star_low (Some s) d = refl

  node_low : (en : Entry ⊥) → node_of (low_entry no_name tag en) ≡ node_of en
  node_low (parens_in n) = refl
  node_low (part_at n k m o p vs es) = refl
  node_low (chain_first n m ls) = refl
  node_low (chain_more n k m o p v ls) = refl
  node_low (logic_at n k m j p ls) = refl
  node_low (prefix_part n ss) = refl
  node_low (star_wait n k d ss) = refl
  node_low (postfix_first n m ss) = refl
  node_low (index_at n k m p v ss) = refl
  node_low (arg_at n k m p f vs es ss) = refl
  node_low (call_open n k m f xs ss) = refl
  node_low (exec_wait n ds) = refl
  node_low (set_part n x) = refl
  node_low (add_part n x q p) = refl
  node_low (put_index n m x q p e) = refl
  node_low (put_value n x q p v) = refl
  node_low (return_part n) = refl
  node_low (just_part n) = refl
  node_low (arm_test n k m i p b arms els) = refl
  node_low (while_test n m p e b) = refl
  node_low (while_body n m p e b) = refl
  node_low (repeat_body n m p b e) = refl
  node_low (repeat_test n m p b e) = refl
  node_low (for_list n m p x b) = refl
  node_low (for_body n m t p x vs b) = refl
  node_low (block_at n k m b) = refl

  form_low : (t : Option Node) (en : Entry ⊥) → waits_for t (low_entry no_name tag en) ≡ option_map (low_wait no_name tag) (waits_for t en)
  form_low t (parens_in n) = refl
  form_low t (part_at n k m o p vs es) = refl
  form_low t (chain_first n m ls) = refl
  form_low t (chain_more n k m o p v ls) = refl
  form_low t (logic_at n k m j p ls) = refl
  form_low t (prefix_part n ss) = refl
  form_low t (star_wait n k d ss) = star_low (sign_at (signs_of t) k) d
  form_low t (postfix_first n m ss) = refl
  form_low t (index_at n k m p v ss) = refl
  form_low t (arg_at n k m p f vs es ss) = refl
  form_low t (call_open n k m f xs ss) = refl
  form_low t (exec_wait n ds) = refl
  form_low t (set_part n x) = refl
  form_low t (add_part n x q p) = refl
  form_low t (put_index n m x q p e) = refl
  form_low t (put_value n x q p v) = refl
  form_low t (return_part n) = refl
  form_low t (just_part n) = refl
  form_low t (arm_test n k m i p b arms els) = refl
  form_low t (while_test n m p e b) = refl
  form_low t (while_body n m p e b) = refl
  form_low t (repeat_body n m p b e) = refl
  form_low t (repeat_test n m p b e) = refl
  form_low t (for_list n m p x b) = refl
  form_low t (for_body n m i p x vs b) = refl
  form_low t (block_at n k m b) = refl

  pub found_low : (fr : List (Entry ⊥)) (q : Wait ⊥) → wait_at at fr ≡ Some q → wait_at at (map (low_entry no_name tag) fr)
      ≡ Some (low_wait no_name tag q)
  found_low [] q is = absurd cc
  found_low (en ∷ []) q is =
      ap (λ n. waits_for (at n) (low_entry no_name tag en)) (node_low en) ∙ form_low (at (node_of en)) en ∙ ap (option_map (low_wait no_name tag)) is
  found_low (en ∷ e ∷ fr) q is = found_low (e ∷ fr) q is
