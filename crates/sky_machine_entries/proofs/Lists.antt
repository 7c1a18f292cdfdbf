-- One more form under way.
use Rattle.std.proofs.Common.{◌≡◌, ℕ, ◌+◌, List, [], ◌∷◌, ◌++◌, refl, sym, ap, ◌∙◌, subst, arith}
use Rattle.sky_base.specs.Tree.{Script}
use Rattle.sky_base.specs.Res.{others, parens_in, part_at, chain_first, chain_more, logic_at, prefix_part, star_wait, postfix_first, index_at, arg_at}
use Rattle.sky_base.specs.Res.{call_open, exec_wait, set_part, add_part, put_index, put_value, return_part, just_part, arm_test, while_test}
use Rattle.sky_base.specs.Res.{while_body, repeat_body, repeat_test, for_list, for_body, block_at, then_do}
use Rattle.sky_base.specs.Eval.{World, inside, plug}
use Rattle.sky_base_law.proofs.FormsLaw.{inner, plug_push}
use Rattle.sky_base_law.specs.Nodes.{node_at}
use Rattle.sky_machine_entries.specs.Config.{Run, opened, room, goes_on, rest_in}
use Rattle.sky_machine_entries.specs.Entries.{Form, entry_of, forms}
use Rattle.sky_machine_entries.specs.Ready.{IsReady, AreReady, Ready, AllReady}
use Rattle.sky_machine_entries.specs.declared.entry.Entry as rust

pub forms_push : (es : List rust.Entry) (en : rust.Entry) → forms (es ++ en ∷ []) ≡ forms es ++ entry_of en ∷ []
forms_push [] en = refl
forms_push (e ∷ es) en = ap (λ fr. entry_of e ∷ fr) (forms_push es en)

module _ (w : World (List ℕ)) where
  inner_push : (fr : List Form) (d : ℕ) (en : Form) → inner w (fr ++ en ∷ []) d ≡ inside w en (inner w fr d)
  inner_push [] d en = refl
  inner_push (f ∷ fr) d en = inner_push fr (inside w f d) en

  pub rest_push : (es : List rust.Entry) (en : rust.Entry) (r : Run) → rest_in w (es ++ en ∷ []) r
      ≡ rest_in w es (then_do r (entry_of en) (goes_on w (forms es) (entry_of en)))
  rest_push es en r =
      ap (λ fr. plug w others fr r) (forms_push es en) ∙ plug_push w (forms es) others (entry_of en) r

  pub room_push : (es : List rust.Entry) (en : rust.Entry) → room w (forms (es ++ en ∷ [])) ≡ inside w (entry_of en) (room w (forms es))
  room_push es en = ap (λ fr. inner w fr others) (forms_push es en) ∙ inner_push (forms es) others (entry_of en)

opened_more : (fr : List Form) (en : Form) → opened (fr ++ en ∷ []) ≡ opened fr + opened (en ∷ [])
opened_more [] en = omega arith
opened_more (call_open n k m f xs ss ∷ fr) en = omega (arith, opened_more fr en)
opened_more (parens_in n ∷ fr) en = opened_more fr en
opened_more (part_at n k m o p vs es ∷ fr) en = opened_more fr en
opened_more (chain_first n m ls ∷ fr) en = opened_more fr en
opened_more (chain_more n k m o p v ls ∷ fr) en = opened_more fr en
opened_more (logic_at n k m j p ls ∷ fr) en = opened_more fr en
opened_more (prefix_part n ss ∷ fr) en = opened_more fr en
opened_more (star_wait n k d ss ∷ fr) en = opened_more fr en
opened_more (postfix_first n m ss ∷ fr) en = opened_more fr en
opened_more (index_at n k m p v ss ∷ fr) en = opened_more fr en
opened_more (arg_at n k m p f vs es ss ∷ fr) en = opened_more fr en
opened_more (exec_wait n ds ∷ fr) en = opened_more fr en
opened_more (set_part n x ∷ fr) en = opened_more fr en
opened_more (add_part n x q p ∷ fr) en = opened_more fr en
opened_more (put_index n m x q p e ∷ fr) en = opened_more fr en
opened_more (put_value n x q p v ∷ fr) en = opened_more fr en
opened_more (return_part n ∷ fr) en = opened_more fr en
opened_more (just_part n ∷ fr) en = opened_more fr en
opened_more (arm_test n k m i p b arms els ∷ fr) en = opened_more fr en
opened_more (while_test n m p e b ∷ fr) en = opened_more fr en
opened_more (while_body n m p e b ∷ fr) en = opened_more fr en
opened_more (repeat_body n m p b e ∷ fr) en = opened_more fr en
opened_more (repeat_test n m p b e ∷ fr) en = opened_more fr en
opened_more (for_list n m p x b ∷ fr) en = opened_more fr en
opened_more (for_body n m t p x vs b ∷ fr) en = opened_more fr en
opened_more (block_at n k m b ∷ fr) en = opened_more fr en

pub opened_push : (es : List rust.Entry) (en : rust.Entry) → opened (forms (es ++ en ∷ [])) ≡ opened (forms es) + opened (entry_of en ∷ [])
opened_push es en = ap opened (forms_push es en) ∙ opened_more (forms es) (entry_of en)

module _ (sc : Script) where
  are_push : (fr : List Form) (en : Form) → AreReady (λ i. node_at sc i) fr → IsReady (λ i. node_at sc i) en
      → AreReady (λ i. node_at sc i) (fr ++ en ∷ [])
  are_push [] en h i = (i, tt)
  are_push (f ∷ fr) en h i = (h.0, are_push fr en h.1 i)

  are_pop : (fr : List Form) (en : Form) → AreReady (λ i. node_at sc i) (fr ++ en ∷ []) → AreReady (λ i. node_at sc i) fr
      × IsReady (λ i. node_at sc i) en
  are_pop [] en h = (tt, h.0)
  are_pop (f ∷ fr) en h = let r = are_pop fr en h.1 in ((h.0, r.0), r.1)

  pub ready_push : (es : List rust.Entry) (en : rust.Entry) → AllReady sc es → Ready sc (entry_of en) → AllReady sc (es ++ en ∷ [])
  ready_push es en h i = subst (AreReady (λ i. node_at sc i)) (sym (forms_push es en)) (are_push (forms es) (entry_of en) h i)

  pub ready_pop : (es : List rust.Entry) (en : rust.Entry) → AllReady sc (es ++ en ∷ []) → AllReady sc es × Ready sc (entry_of en)
  ready_pop es en h = are_pop (forms es) (entry_of en) (subst (AreReady (λ i. node_at sc i)) (forms_push es en) h)
