-- The innermost form is taken off the list, and goes on.
use Rattle.std.proofs.Common.{◌≡◌, ◌<◌, ℕ, zero, suc, ◌+◌, List, [], ◌∷◌, ◌++◌, length, Some, slice_get, sym, ap, ◌∙◌, subst, arith}
use Rattle.sky_base.specs.Tree.{Exp, Stm, Script}
use Rattle.sky_base.specs.Res.{others, Fin}
use Rattle.sky_base.specs.Eval.{World}
use Rattle.sky_base_law.specs.Opened.{Node, exp_node, stm_node, HasExp, HasStm}
use Rattle.sky_base_law.specs.Nodes.{pre_script, node_at}
use Rattle.sky_base_scope.specs.Plain.{Vars}
use Rattle.sky_machine_code.proofs.Bodies.{own_exp, own_stm}
use Rattle.sky_machine_entries.proofs.Lists.{rest_push, opened_push, ready_pop}
use Rattle.sky_machine_entries.specs.Config.{opened, goes_on, rest_in, config}
use Rattle.sky_machine_entries.specs.Entries.{entry_of, end_of, forms}
use Rattle.sky_machine_entries.specs.Ready.{Ready, AllReady}
use Rattle.sky_machine_entries.specs.declared.control.End.{End}
use Rattle.sky_machine_entries.specs.declared.control.Control.{Control}
use Rattle.sky_machine_entries.specs.declared.entry.Entry as rust

pub popped : (w : World (List ℕ)) (es mid : List rust.Entry) (en : rust.Entry) (e : End) (st : Vars) → es ≡ mid ++ en ∷ []
    → rest_in w mid (goes_on w (forms mid) (entry_of en) (end_of e) st) ≡ config w es (Control.End e) st
popped w es mid en e st is =
    sym (ap (λ xs. rest_in w xs (Fin (end_of e) st)) is ∙ rest_push w mid en (Fin (end_of e) st))

pub popped_ready : (sc : Script) (es mid : List rust.Entry) (en : rust.Entry) → es ≡ mid ++ en ∷ [] → AllReady sc es → AllReady sc mid
    × Ready sc (entry_of en)
popped_ready sc es mid en is h = ready_pop sc mid en (subst (AllReady sc) is h)

pub popped_room : (es mid : List rust.Entry) (en : rust.Entry) (left : ℕ) → es ≡ mid ++ en ∷ [] → opened (forms es) + left ≡ others
    → opened (forms mid) + (opened (entry_of en ∷ []) + left) ≡ others
popped_room es mid en left is h =
    let both = ap (λ xs. opened (forms xs)) is ∙ opened_push mid en in omega (arith, both, h)

-- a node that stands in a script has a number below that of its nodes
there : (ts : List Node) (n : ℕ) (t : Node) → slice_get ts n ≡ Some t → n < length ts
there [] n t e = absurd cc
there (x ∷ ts) zero t e = omega arith
there (x ∷ ts) (suc n) t e = omega (arith, there ts n t e)

pub exp_within : (sc : Script) (e : Exp) (n : ℕ) → HasExp (λ i. node_at sc i) e n → n < length (pre_script sc)
exp_within sc e n h = there (pre_script sc) n (exp_node e) (own_exp (λ i. node_at sc i) e n h)

pub stm_within : (sc : Script) (a : Stm) (n : ℕ) → HasStm (λ i. node_at sc i) a n → n < length (pre_script sc)
stm_within sc a n h = there (pre_script sc) n (stm_node a) (own_stm (λ i. node_at sc i) a n h)
