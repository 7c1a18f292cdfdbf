-- What is waited for is kept by the innermost form.
use Rattle.std.proofs.Common.{◌≡◌, ℕ, List, [], ◌∷◌, Option, Some, None, subst}
use Rattle.sky_base.specs.Val.{Val, Pairs, Desc, ref}
use Rattle.sky_base.specs.Tree.{SignAt}
use Rattle.sky_base.specs.Res.{Entry, parens_in, part_at, chain_first, chain_more, logic_at, prefix_part, star_wait, postfix_first, index_at, arg_at}
use Rattle.sky_base.specs.Res.{call_open, exec_wait, set_part, add_part, put_index, put_value, return_part, just_part, arm_test, while_test}
use Rattle.sky_base.specs.Res.{while_body, repeat_body, repeat_test, for_list, for_body, block_at, node_of, kept_of, Wait, one_of, all_of}
use Rattle.sky_base.specs.Eval.{World, inside}
use Rattle.sky_base_law.specs.Nodes.{node_at}
use Rattle.sky_base_law.specs.Opened.{Node}
use Rattle.sky_base_law.specs.Tasks.{Each}
use Rattle.sky_base_law.proofs.FineLaw.{FormsOk}
use Rattle.sky_machine_waits.specs.Waits.{star_at, waits_for, wait_in}
use Rattle.sky_machine_waits.specs.Sounds.{asked}

-- P is of values, Q of descriptions and V of variables
module _ (w : World (List ℕ)) (P : Val (List ℕ) → Type 0) (Q : Desc (List ℕ) → Type 0) (V : Pairs (List ℕ) → Type 0) where
  star_asked : (o : Option SignAt) (d : Desc (List ℕ)) (q : Wait (List ℕ)) → star_at o d ≡ Some q → P (ref d) → P (asked q)
  star_asked None d q e h = absurd cc
  star_asked (Some s) d q e h = let same : one_of s.place d ≡ q = cc in subst (λ x. P (asked x)) same h

  form_asked : (t : Option Node) (en : Entry (List ℕ)) (q : Wait (List ℕ)) → waits_for t en ≡ Some q → Each P (kept_of en) → P (asked q)
  form_asked t (star_wait n k d ss) q e h = star_asked _ d q e h.0
  form_asked t (exec_wait n ds) q e h = let same : all_of ds ≡ q = cc in subst (λ x. P (asked x)) same h.0
  form_asked t (parens_in n) q e h = absurd cc
  form_asked t (part_at n k m o p vs es) q e h = absurd cc
  form_asked t (chain_first n m ls) q e h = absurd cc
  form_asked t (chain_more n k m o p v ls) q e h = absurd cc
  form_asked t (logic_at n k m j p ls) q e h = absurd cc
  form_asked t (prefix_part n ss) q e h = absurd cc
  form_asked t (postfix_first n m ss) q e h = absurd cc
  form_asked t (index_at n k m p v ss) q e h = absurd cc
  form_asked t (arg_at n k m p f vs es ss) q e h = absurd cc
  form_asked t (call_open n k m f xs ss) q e h = absurd cc
  form_asked t (set_part n x) q e h = absurd cc
  form_asked t (add_part n x p o) q e h = absurd cc
  form_asked t (put_index n m x p o i) q e h = absurd cc
  form_asked t (put_value n x p o v) q e h = absurd cc
  form_asked t (return_part n) q e h = absurd cc
  form_asked t (just_part n) q e h = absurd cc
  form_asked t (arm_test n k m i p b arms els) q e h = absurd cc
  form_asked t (while_test n m p i b) q e h = absurd cc
  form_asked t (while_body n m p i b) q e h = absurd cc
  form_asked t (repeat_body n m p b i) q e h = absurd cc
  form_asked t (repeat_test n m p b i) q e h = absurd cc
  form_asked t (for_list n m p x b) q e h = absurd cc
  form_asked t (for_body n m i p x vs b) q e h = absurd cc
  form_asked t (block_at n k m b) q e h = absurd cc

  pub forms_asked : (fr : List (Entry (List ℕ))) (d : ℕ) (q : Wait (List ℕ)) → FormsOk w P Q V d fr → wait_in w.script fr ≡ Some q → P (asked q)
  forms_asked [] d q h e = absurd cc
  forms_asked (en ∷ []) d q h e = form_asked (node_at w.script (node_of en)) en q e h.0.0
  forms_asked (en ∷ en' ∷ fr) d q h e = forms_asked (en' ∷ fr) (inside w en d) q h.1 e
