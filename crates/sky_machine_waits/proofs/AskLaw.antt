-- At each wait of a run its innermost form waits for what the run waits for.
use Rattle.std.proofs.Common.{◌≡◌, ℕ, zero, suc, ◌+◌, Bool, true, false, List, [], ◌∷◌, ◌++◌, map, length, reverse, Option, Some, None, Ok, Err}
use Rattle.std.proofs.Common.{nat_lt, nat_eq, ◌&&◌, pos, negsuc, slice_get, refl, sym, ap, ◌∙◌, subst, arith}
use Rattle.sky_base.specs.Val.{Val, Vals, Pairs, Desc, null, truth, num, text, list, dict, fun, ref, no_vals, val, no_pairs, count, vals_of, refs_to}
use Rattle.sky_base.specs.Op.{Answer, index, find, negated, opposite, len, keys, has, range, limited, set_at, grown, dict_from}
use Rattle.sky_base.specs.Tree.{Place, nowhere, Junction, Sign, SignAt, Form, Exp, Exps, Links, Ands, Steps, Stm, Stms, Arms, Else, FunDef, nodes}
use Rattle.sky_base.specs.Tree.{exps_nodes, stm_nodes, block_nodes, arms_nodes}
use Rattle.sky_base.specs.Res.{visits, Object, End, St, Entry, parens_in, part_at, chain_first, chain_more, logic_at, prefix_part, star_wait}
use Rattle.sky_base.specs.Res.{postfix_first, index_at, arg_at, call_open, exec_wait, set_part, add_part, put_index, put_value, return_part}
use Rattle.sky_base.specs.Res.{just_part, arm_test, while_test, while_body, repeat_body, repeat_test, for_list, for_body, block_at, node_of, Wait}
use Rattle.sky_base.specs.Res.{one_of, all_of, Res, Fin, Tell, Ask, then_do, on_got, on_goes, with_vars, on_body, gives, counted, visited, visit}
use Rattle.sky_base.specs.Res.{answer, tell_all}
use Rattle.sky_base.specs.Eval.{World, find_fun, is_one_of, Body, body_of, bind, set_var, lit_val, named, closed, oper, outputs, truth_of, decide}
use Rattle.sky_base.specs.Eval.{joins, add_to, put_in, turns, repeats, each, each_of, with_one, with_two, with_three, ask, wait_end, spawn_if}
use Rattle.sky_base.specs.Eval.{spawn_fun, spawn_list, spawned, outputs_if, outputs_count, outputs_of, exec_ask, input_if, input_of, formed, deref}
use Rattle.sky_base.specs.Eval.{signed, signs, call_if, call_fun, called, enter, eval, eval_parts, eval_links, eval_ands, eval_steps, eval_args}
use Rattle.sky_base.specs.Eval.{eval_stm, eval_stms, eval_arms, eval_else, in_body, body_at}
use Rattle.sky_base_law.specs.Opened.{Node, exp_node, times, next_sign, HasExp, HasExps, HasLinks, HasAnds, HasSteps, HasStm, HasStms, HasArms, HasElse}
use Rattle.sky_base_law.specs.Opened.{HasScript}
use Rattle.sky_base_law.proofs.BodiesLaw.{HasBody, has_body}
use Rattle.sky_machine_waits.specs.Waits.{signs_of, sign_at, star_at, waits_for, wait_at}

-- ---- signs by their numbers

no_sign : (i : ℕ) (o : SignAt) (ss : List SignAt) → times next_sign i [] ≡ o ∷ ss → ⊥
no_sign i o ss e = absurd (none_left (times next_sign i []) (empty i) e)
  where
    empty : (j : ℕ) → times next_sign j [] ≡ []
    empty zero = refl
    empty (suc j) = ap next_sign (empty j)

    none_left : (xs : List SignAt) → xs ≡ [] → xs ≡ o ∷ ss → ⊥
    none_left [] e f = absurd cc
    none_left (x ∷ xs) e f = absurd cc

past_first : (i : ℕ) (s : SignAt) (ss : List SignAt) → times next_sign (suc i) (s ∷ ss) ≡ times next_sign i ss
past_first zero s ss = refl
past_first (suc i) s ss = ap next_sign (past_first i s ss)

-- what stands first after so many signs has that number
numbered : (i : ℕ) (all ss : List SignAt) (o : SignAt) → times next_sign i all ≡ o ∷ ss → slice_get all i ≡ Some o
numbered i [] ss o e = absurd (no_sign i o ss e)
numbered zero (s ∷ all) ss o e = cc
numbered (suc i) (s ∷ all) ss o e = numbered i all ss o (sym (past_first i s all) ∙ e)

up_two : (k i : ℕ) → k ≡ suc (suc i) → k + 1 ≡ suc (suc (suc i))
up_two k i e = omega (arith, e)

module _ {N : Type 0} (w : World N) (at : ℕ → Option Node) where
  abbrev pub Asks : Res N → Type 0
  Asks (Fin e st) = Unit {0}
  Asks (Tell d r) = Unit {0} × Asks r
  Asks (Ask q fr st k) = (wait_at at fr ≡ Some q) × ((os : List (Object N)) → Asks (k os))

  -- a form further out changes nothing
  over : (q : Wait N) (en : Entry N) (fr : List (Entry N)) → wait_at at fr ≡ Some q → wait_at at (en ∷ fr) ≡ Some q
  over q en [] e = absurd cc
  over q en (x ∷ fr) e = e

  asks_then : (r : Res N) (en : Entry N) (k : End N → St N → Res N) → Asks r → ((e : End N) (st : St N) → Asks (k e st)) → Asks (then_do r en k)
  asks_then (Fin e st) en k g h = h e st
  asks_then (Tell d r) en k g h = (tt, asks_then r en k g.1 h)
  asks_then (Ask q fr st p) en k g h = (over q en fr g.0, λ os. asks_then (p os) en k (g.1 os) h)

  got_each : (k : Val N → St N → Res N) → ((v : Val N) (st : St N) → Asks (k v st)) → (e : End N) (st : St N) → Asks (on_got k e st)
  got_each k h End.goes st = tt
  got_each k h (End.got v) st = h v st
  got_each k h (End.returned v) st = tt
  got_each k h (End.failed f) st = tt

  asks_got : (r : Res N) (en : Entry N) (k : Val N → St N → Res N) → Asks r → ((v : Val N) (st : St N) → Asks (k v st))
      → Asks (then_do r en (on_got k))
  asks_got r en k g h = asks_then r en (on_got k) g (got_each k h)

  asks_goes : (r : Res N) (en : Entry N) (k : St N → Res N) → Asks r → ((st : St N) → Asks (k st)) → Asks (then_do r en (on_goes k))
  asks_goes r en k g h = asks_then r en (on_goes k) g each
    where
      each : (e : End N) (st : St N) → Asks (on_goes k e st)
      each End.goes st = h st
      each (End.got v) st = tt
      each (End.returned v) st = tt
      each (End.failed f) st = tt

  -- the form that waits
  asks_ask : (q : Wait N) (en : Entry N) (st : St N) (k : Val N → St N → Res N) → waits_for (at (node_of en)) en ≡ Some q
      → ((v : Val N) (s : St N) → Asks (k v s)) → Asks (then_do (ask w q st) en (on_got k))
  asks_ask q en st k is h = (is, λ os. got_each k h (wait_end w q os) st)

  asks_body : (xs : Pairs N) (k : Val N → St N → Res N) → ((v : Val N) (st : St N) → Asks (k v st)) → (e : End N) (st : St N)
      → Asks (on_body xs k e st)
  asks_body xs k h End.goes st = h null (with_vars xs st)
  asks_body xs k h (End.got v) st = h v (with_vars xs st)
  asks_body xs k h (End.returned v) st = h v (with_vars xs st)
  asks_body xs k h (End.failed f) st = tt

  asks_visit : (p : Place) (st : St N) (k : St N → Res N) → ((s : St N) → Asks (k s)) → Asks (visit p st k)
  asks_visit p st k h = go (nat_lt st.count visits)
    where
      go : (b : Bool) → Asks (visited b p st k)
      go true = h (counted st)
      go false = tt

  asks_answer : (o : Answer N) (p : Place) (st : St N) (k : Val N → St N → Res N) → ((v : Val N) → Asks (k v st)) → Asks (answer o p st k)
  asks_answer (Ok v) p st k h = h v
  asks_answer (Err e) p st k h = tt

  asks_decide : (v : Val N) (p : Place) (st : St N) (on off : St N → Res N) → Asks (on st) → Asks (off st) → Asks (decide v p st on off)
  asks_decide (truth true) p st on off g h = g
  asks_decide (truth false) p st on off g h = h
  asks_decide null p st on off g h = tt
  asks_decide (num z) p st on off g h = tt
  asks_decide (text t) p st on off g h = tt
  asks_decide (list vs) p st on off g h = tt
  asks_decide (dict ps) p st on off g h = tt
  asks_decide (fun f c) p st on off g h = tt
  asks_decide (ref e) p st on off g h = tt

  asks_joins : (j : Junction) (v : Val N) (p : Place) (st : St N) (k : St N → Res N) → Asks (k st) → Asks (joins j v p st k)
  asks_joins Junction.both v p st k g = asks_decide v p st k _ g tt
  asks_joins Junction.either v p st k g = asks_decide v p st _ k tt g

  asks_add : (o : Option (Val N)) (x : List ℕ) (q p : Place) (e : Val N) (st : St N) → Asks (add_to o x q p e st)
  asks_add None x q p e st = tt
  asks_add (Some v) x q p e st = asks_answer (grown v e) p st _ (λ u. tt)

  asks_put : (o : Option (Val N)) (x : List ℕ) (q p : Place) (i e : Val N) (st : St N) → Asks (put_in o x q p i e st)
  asks_put None x q p i e st = tt
  asks_put (Some v) x q p i e st = asks_answer (set_at v i e) p st _ (λ u. tt)

  -- ---- forms of parts

  asks_spawn_if : (b : Bool) (d : Desc N) (p : Place) (st : St N) → Asks (spawn_if w b d p st)
  asks_spawn_if false d p st = tt
  asks_spawn_if true d p st = (tt, tt)

  asks_spawn_fun : (o : Option FunDef) (f : List ℕ) (c : Pairs N) (vs : Vals N) (p : Place) (st : St N) → Asks (spawn_fun w o f c vs p st)
  asks_spawn_fun None f c vs p st = tt
  asks_spawn_fun (Some x) f c vs p st = asks_spawn_if _ _ p st

  asks_spawn_list : (f : List ℕ) (c : Pairs N) (a : Val N) (p : Place) (st : St N) → Asks (spawn_list w f c a p st)
  asks_spawn_list f c (list vs) p st = asks_spawn_fun (find_fun f w.script.funs) f c vs p st
  asks_spawn_list f c null p st = tt
  asks_spawn_list f c (truth x) p st = tt
  asks_spawn_list f c (num z) p st = tt
  asks_spawn_list f c (text t) p st = tt
  asks_spawn_list f c (dict ps) p st = tt
  asks_spawn_list f c (fun g cb) p st = tt
  asks_spawn_list f c (ref e) p st = tt

  asks_spawned : (g a : Val N) (p : Place) (st : St N) → Asks (spawned w g a p st)
  asks_spawned (fun f c) a p st = asks_spawn_list f c a p st
  asks_spawned null a p st = tt
  asks_spawned (truth x) a p st = tt
  asks_spawned (num z) a p st = tt
  asks_spawned (text t) a p st = tt
  asks_spawned (list vs) a p st = tt
  asks_spawned (dict ps) a p st = tt
  asks_spawned (ref e) a p st = tt

  asks_tell : (ds : List (Desc N)) (r : Res N) → Asks r → Asks (tell_all ds r)
  asks_tell [] r g = g
  asks_tell (x ∷ ds) r g = (tt, asks_tell ds r g)

  module _ (k : List (Desc N) → St N → Res N) (g : (es : List (Desc N)) (st : St N) → Asks (k es st)) where
    asks_outputs_if : (b : Bool) (ds : List (Desc N)) (p : Place) (st : St N) → Asks (outputs_if w b ds p st k)
    asks_outputs_if false ds p st = tt
    asks_outputs_if true ds p st = asks_tell ds _ (g (map w.make ds) st)

    asks_outputs_count : (x : List ℕ) (a n : Val N) (p : Place) (st : St N) → Asks (outputs_count w x a n p st k)
    asks_outputs_count x a (num (pos n)) p st = asks_outputs_if (nat_lt 0 n && nat_lt n 65) (outputs x a n 0 n) p st
    asks_outputs_count x a (num (negsuc n)) p st = tt
    asks_outputs_count x a null p st = tt
    asks_outputs_count x a (truth b) p st = tt
    asks_outputs_count x a (text t) p st = tt
    asks_outputs_count x a (list vs) p st = tt
    asks_outputs_count x a (dict ps) p st = tt
    asks_outputs_count x a (fun f c) p st = tt
    asks_outputs_count x a (ref d) p st = tt

    asks_outputs : (x a n : Val N) (p : Place) (st : St N) → Asks (outputs_of w x a n p st k)
    asks_outputs (text x) a n p st = asks_outputs_count x a n p st
    asks_outputs null a n p st = tt
    asks_outputs (truth b) a n p st = tt
    asks_outputs (num z) a n p st = tt
    asks_outputs (list vs) a n p st = tt
    asks_outputs (dict ps) a n p st = tt
    asks_outputs (fun f c) a n p st = tt
    asks_outputs (ref d) a n p st = tt

  asks_input_if : (b : Bool) (k : List ℕ) (p : Place) (st : St N) → Asks (input_if w b k p st)
  asks_input_if false k p st = tt
  asks_input_if true k p st = (tt, tt)

  asks_input : (v : Val N) (p : Place) (st : St N) → Asks (input_of w v p st)
  asks_input (text k) p st = asks_input_if (is_one_of k w.script.keys) k p st
  asks_input null p st = tt
  asks_input (truth y) p st = tt
  asks_input (num z) p st = tt
  asks_input (list vs) p st = tt
  asks_input (dict ps) p st = tt
  asks_input (fun f c) p st = tt
  asks_input (ref e) p st = tt

  asks_one : (vs : List (Val N)) (p : Place) (st : St N) (k : Val N → Res N) → ((x : Val N) → Asks (k x)) → Asks (with_one vs p st k)
  asks_one [] p st k g = tt
  asks_one (x ∷ []) p st k g = g x
  asks_one (x ∷ y ∷ vs) p st k g = tt

  asks_two : (vs : List (Val N)) (p : Place) (st : St N) (k : Val N → Val N → Res N) → ((x y : Val N) → Asks (k x y)) → Asks (with_two vs p st k)
  asks_two [] p st k g = tt
  asks_two (x ∷ []) p st k g = tt
  asks_two (x ∷ y ∷ []) p st k g = g x y
  asks_two (x ∷ y ∷ z ∷ vs) p st k g = tt

  asks_three : (vs : List (Val N)) (p : Place) (st : St N) (k : Val N → Val N → Val N → Res N) → ((x y z : Val N) → Asks (k x y z))
      → Asks (with_three vs p st k)
  asks_three [] p st k g = tt
  asks_three (x ∷ []) p st k g = tt
  asks_three (x ∷ y ∷ []) p st k g = tt
  asks_three (x ∷ y ∷ z ∷ []) p st k g = g x y z
  asks_three (x ∷ y ∷ z ∷ u ∷ vs) p st k g = tt

  -- an `exec` whose outputs are made waits for them
  asks_exec : (n : ℕ) (ds : List (Desc N)) (st : St N) → Asks (exec_ask w n ds st)
  asks_exec n ds st = asks_ask (all_of ds) (exec_wait n ds) st gives refl (λ v s. tt)

  asks_formed : (o : Form) (vs : List (Val N)) (n : ℕ) (p : Place) (st : St N) → Asks (formed w o vs n p st)
  asks_formed Form.list vs n p st = asks_answer (limited (list (vals_of vs))) p st gives (λ v. tt)
  asks_formed Form.dict vs n p st = asks_answer (dict_from vs no_pairs) p st gives (λ v. tt)
  asks_formed Form.spawn vs n p st = asks_two vs p st _ (λ x y. asks_spawned x y p st)
  asks_formed Form.spawn_exec vs n p st =
      asks_three vs p st _ (λ x y z. asks_outputs (λ ds s. gives (list (refs_to ds)) s) (λ ds s. tt) x y z p st)
  asks_formed Form.exec vs n p st =
      asks_three vs p st _ (λ x y z. asks_outputs (λ ds s. exec_ask w n ds s) (λ ds s. asks_exec n ds s) x y z p st)
  asks_formed Form.ref vs n p st = asks_one vs p st _ (λ x. asks_input x p st)
  asks_formed Form.len vs n p st = asks_one vs p st _ (λ x. asks_answer (len x) p st gives (λ v. tt))
  asks_formed Form.keys vs n p st = asks_one vs p st _ (λ x. asks_answer (keys x) p st gives (λ v. tt))
  asks_formed Form.has vs n p st = asks_two vs p st _ (λ x y. asks_answer (has x y) p st gives (λ v. tt))
  asks_formed Form.range vs n p st = asks_two vs p st _ (λ x y. asks_answer (range x y) p st gives (λ v. tt))

  -- ---- signs

  -- a `*` waits at its own place
  at_its_sign : (n k i : ℕ) (d : Desc N) (o : SignAt) (ss all : List SignAt) (f : Exp) → at n ≡ Some (exp_node (Exp.prefix all f))
      → times next_sign i (reverse all) ≡ o ∷ ss → k ≡ suc (suc i) → waits_for (at n) (star_wait n k d ss) ≡ Some (one_of o.place d)
  at_its_sign n k i d o ss all f here rest is =
      ap (λ t. star_at (sign_at (signs_of t) k) d) here ∙ ap (λ x. star_at (sign_at all x) d) is
      ∙ ap (λ s. star_at s d) (numbered i (reverse all) ss o rest)

  asks_deref : (v : Val N) (n k i : ℕ) (o : SignAt) (ss all : List SignAt) (f : Exp) (st : St N) (go : Val N → St N → Res N) → at n
      ≡ Some (exp_node (Exp.prefix all f)) → times next_sign i (reverse all) ≡ o ∷ ss → k ≡ suc (suc i)
      → ((u : Val N) (t : St N) → Asks (go u t)) → Asks (deref w v n k ss o.place st go)
  asks_deref (ref d) n k i o ss all f st go here rest is g =
      asks_ask (one_of o.place d) (star_wait n k d ss) st go (at_its_sign n k i d o ss all f here rest is) g
  asks_deref null n k i o ss all f st go here rest is g = tt
  asks_deref (truth y) n k i o ss all f st go here rest is g = tt
  asks_deref (num z) n k i o ss all f st go here rest is g = tt
  asks_deref (text t) n k i o ss all f st go here rest is g = tt
  asks_deref (list vs) n k i o ss all f st go here rest is g = tt
  asks_deref (dict ps) n k i o ss all f st go here rest is g = tt
  asks_deref (fun h c) n k i o ss all f st go here rest is g = tt

  asks_signed : (s : Sign) (v : Val N) (n k i : ℕ) (o : SignAt) (ss all : List SignAt) (f : Exp) (st : St N) (go : Val N → St N → Res N) → at n
      ≡ Some (exp_node (Exp.prefix all f)) → times next_sign i (reverse all) ≡ o ∷ ss → k ≡ suc (suc i)
      → ((u : Val N) (t : St N) → Asks (go u t)) → Asks (signed w s v n k ss o.place st go)
  asks_signed Sign.not v n k i o ss all f st go here rest is g = asks_answer (opposite v) o.place st go (λ u. g u st)
  asks_signed Sign.minus v n k i o ss all f st go here rest is g = asks_answer (negated v) o.place st go (λ u. g u st)
  asks_signed Sign.star v n k i o ss all f st go here rest is g = asks_deref v n k i o ss all f st go here rest is g

  asks_signs : (ss : List SignAt) (n k i : ℕ) (v : Val N) (all : List SignAt) (f : Exp) (st : St N) → at n ≡ Some (exp_node (Exp.prefix all f))
      → times next_sign i (reverse all) ≡ ss → k ≡ suc (suc i) → Asks (signs w ss n k v st)
  asks_signs [] n k i v all f st here rest is = tt
  asks_signs (o ∷ ss) n k i v all f st here rest is =
      asks_visit o.place st (λ s. signed w o.sign v n k ss o.place s (λ u t. signs w ss n (k + 1) u t))
      (λ s. asks_signed o.sign v n k i o ss all f s _ here rest is
      (λ u t. asks_signs ss n (k + 1) (suc i) u all f t here (ap next_sign rest) (up_two k i is)))

  -- ---- calls

  asks_call_if : (b : Bool) (p : Place) (st : St N) (r : Res N) → Asks r → Asks (call_if w b p st r)
  asks_call_if false p st r g = tt
  asks_call_if true p st r g = g

  asks_call_fun : (o : Option FunDef) (vs : Vals N) (p : Place) (st : St N) (r : Res N) → Asks r → Asks (call_fun w o vs p st r)
  asks_call_fun None vs p st r g = tt
  asks_call_fun (Some x) vs p st r g = asks_call_if (nat_eq (length x.params) (count vs)) p st r g

  asks_called : (v : Val N) (vs : Vals N) (p : Place) (st : St N) (k : List ℕ → Pairs N → Res N) → ((f : List ℕ) (c : Pairs N) → Asks (k f c))
      → Asks (called w v vs p st k)
  asks_called (fun f c) vs p st k g = asks_call_fun (find_fun f w.script.funs) vs p st (k f c) (g f c)
  asks_called null vs p st k g = tt
  asks_called (truth y) vs p st k g = tt
  asks_called (num z) vs p st k g = tt
  asks_called (text t) vs p st k g = tt
  asks_called (list us) vs p st k g = tt
  asks_called (dict ps) vs p st k g = tt
  asks_called (ref e) vs p st k g = tt

  module _ (body : List ℕ → Pairs N → Vals N → Place → St N → Res N)
      (bodies_ask : (f : List ℕ) (c : Pairs N) (vs : Vals N) (p : Place) (st : St N) → Asks (body f c vs p st)) where
    mutual
      asks_eval : (e : Exp) (n : ℕ) (st : St N) → HasExp at e n → Asks (eval w body e n st)
      asks_eval (Exp.literal v p) n st h = asks_visit p st _ (λ s. asks_answer (limited (lit_val v)) p s gives (λ x. tt))
      asks_eval (Exp.name x p) n st h = asks_visit p st (λ s. answer (named (find x s.vars) x w.script.funs) p s gives)
          (λ s. asks_answer (named (find x s.vars) x w.script.funs) p s gives (λ y. tt))
      asks_eval (Exp.func x p) n st h = asks_visit p st (λ s. answer (closed (find_fun x w.script.funs) x s.vars) p s gives)
          (λ s. asks_answer (closed (find_fun x w.script.funs) x s.vars) p s gives (λ y. tt))
      asks_eval (Exp.parens e) n st h = asks_got (eval w body e (n + 1) st) (parens_in n) gives (asks_eval e (n + 1) st h.1) (λ v s. tt)
      asks_eval (Exp.parts o p es) n st h = asks_parts es n 1 (n + 1) o p [] st h.1
      asks_eval (Exp.chain e ls) n st h =
          asks_got _ (chain_first n (n + 1 + nodes e) ls) _ (asks_eval e (n + 1) st h.1) (λ v s. asks_links ls n 2 (n + 1 + nodes e) v s h.2)
      asks_eval (Exp.logic j e ls) n st h =
          asks_got _ (logic_at n 1 (n + 1 + nodes e) j nowhere ls) _ (asks_eval e (n + 1) st h.1)
          (λ v s. asks_ands ls n 2 (n + 1 + nodes e) j nowhere v s h.2)
      asks_eval (Exp.prefix ss e) n st h =
          asks_got _ (prefix_part n (reverse ss)) _ (asks_eval e (n + 1) st h.1) (λ v s. asks_signs (reverse ss) n 2 0 v ss e s h.0 refl refl)
      asks_eval (Exp.postfix e ss) n st h =
          asks_got _ (postfix_first n (n + 1 + nodes e) ss) _ (asks_eval e (n + 1) st h.1) (λ v s. asks_steps ss n 2 (n + 1 + nodes e) v s h.2)

      asks_parts : (es : Exps) (n k m : ℕ) (o : Form) (p : Place) (vs : List (Val N)) (st : St N) → HasExps at es m
          → Asks (eval_parts w body es n k m o p vs st)
      asks_parts Exps.no_exps n k m o p vs st h = asks_visit p st (λ s. formed w o vs n p s) (λ s. asks_formed o vs n p s)
      asks_parts (Exps.exp e es) n k m o p vs st h =
          asks_got _ (part_at n k (m + nodes e) o p vs es) _ (asks_eval e m st h.0)
          (λ v s. asks_parts es n (k + 1) (m + nodes e) o p (vs ++ v ∷ []) s h.1)

      asks_links : (ls : Links) (n k m : ℕ) (v : Val N) (st : St N) → HasLinks at ls m → Asks (eval_links w body ls n k m v st)
      asks_links Links.no_links n k m v st h = tt
      asks_links (Links.link o p e ls) n k m v st h =
          asks_got _ (chain_more n k (m + nodes e) o p v ls) _ (asks_eval e m st h.0)
          (λ x s. asks_visit p s _ (λ t. asks_answer (oper o v x) p t _ (λ y. asks_links ls n (k + 1) (m + nodes e) y t h.1)))

      asks_ands : (ls : Ands) (n k m : ℕ) (j : Junction) (q : Place) (v : Val N) (st : St N) → HasAnds at ls m
          → Asks (eval_ands w body ls n k m j q v st)
      asks_ands Ands.no_ands n k m j q v st h = asks_answer (truth_of v) q st gives (λ x. tt)
      asks_ands (Ands.and p e ls) n k m j q v st h =
          asks_visit p st _ (λ s. asks_joins j v p s _
          (asks_got _ (logic_at n k (m + nodes e) j p ls) _ (asks_eval e m s h.0) (λ x u. asks_ands ls n (k + 1) (m + nodes e) j p x u h.1)))

      asks_steps : (ss : Steps) (n k m : ℕ) (v : Val N) (st : St N) → HasSteps at ss m → Asks (eval_steps w body ss n k m v st)
      asks_steps Steps.no_steps n k m v st h = tt
      asks_steps (Steps.index e p ss) n k m v st h =
          asks_got _ (index_at n k (m + nodes e) p v ss) _ (asks_eval e m st h.0)
          (λ x s. asks_visit p s _ (λ t. asks_answer (index v x) p t _ (λ y. asks_steps ss n (k + 1) (m + nodes e) y t h.1)))
      asks_steps (Steps.call es p ss) n k m v st h =
          asks_args es n k m p v [] ss st h.0 (m + exps_nodes es) refl
          (λ l i y u is_next. asks_steps ss n l i y u (subst (HasSteps at ss) (sym is_next) h.1))

      asks_args : (es : Exps) (n k m : ℕ) (p : Place) (g : Val N) (vs : List (Val N)) (ss : Steps) (st : St N) → HasExps at es m → (end : ℕ)
          → m + exps_nodes es ≡ end → ((l i : ℕ) (y : Val N) (u : St N) → i ≡ end → Asks (eval_steps w body ss n l i y u))
          → Asks (eval_args w body es n k m p g vs ss
          (λ l i f c us s. enter w body f c us p n l i ss s (λ y u. eval_steps w body ss n (l + 1) i y u)) st)
      asks_args Exps.no_exps n k m p g vs ss st h end reach steps =
          asks_visit p st _ (λ s. asks_called g (vals_of vs) p s _
          (λ x c. asks_then (body x c (vals_of vs) p s) (call_open n k m x s.vars ss)
          (on_body s.vars (λ y u. eval_steps w body ss n (k + 1) m y u)) (bodies_ask x c (vals_of vs) p s)
          (asks_body s.vars _ (λ y u. steps (k + 1) m y u (omega (arith, reach))))))
      asks_args (Exps.exp e es) n k m p g vs ss st h end reach steps =
          asks_got _ (arg_at n k (m + nodes e) p g vs es ss) _ (asks_eval e m st h.0)
          (λ v s. asks_args es n (k + 1) (m + nodes e) p g (vs ++ v ∷ []) ss s h.1 end (omega (arith, reach)) steps)

    -- ---- loops

    module _ (n m : ℕ) (p : Place) (blk : Stms) (run : St N → Res N) (run_asks : (st : St N) → Asks (run st)) where
      asks_turns : (f : ℕ) (e : Exp) (st : St N) → HasExp at e (n + 1) → Asks (turns f n m p e blk (eval w body e (n + 1)) run st)
      asks_turns zero e st h = tt
      asks_turns (suc f) e st h =
          asks_got _ (while_test n m p e blk) _ (asks_eval e (n + 1) st h)
          (λ v s. asks_decide v p s _ _ (asks_goes (run s) (while_body n m p e blk) _ (run_asks s) (λ z. asks_turns f e z h)) tt)

      asks_repeats : (f : ℕ) (e : Exp) (st : St N) → HasExp at e m → Asks (repeats f n m p blk e run (eval w body e m) st)
      asks_repeats zero e st h = tt
      asks_repeats (suc f) e st h =
          asks_goes (run st) (repeat_body n m p blk e) _ (run_asks st)
          (λ s. asks_got _ (repeat_test n m p blk e) _ (asks_eval e m s h) (λ v t. asks_decide v p t _ _ (asks_repeats f e t h) tt))

      asks_each : (vs : Vals N) (t : ℕ) (x : List ℕ) (whole : Vals N) (st : St N) → Asks (each vs n m t p x whole blk run st)
      asks_each no_vals t x whole st = tt
      asks_each (val v vs) t x whole st =
          asks_visit p st _ (λ s. asks_goes (run (set_var x v s)) (for_body n m (suc t) p x whole blk) _ (run_asks (set_var x v s))
          (λ z. asks_each vs (suc t) x whole z))

      asks_each_of : (v : Val N) (x : List ℕ) (st : St N) → Asks (each_of v n m p x blk run st)
      asks_each_of (list vs) x st = asks_each vs 0 x vs st
      asks_each_of null x st = tt
      asks_each_of (truth b) x st = tt
      asks_each_of (num z) x st = tt
      asks_each_of (text t) x st = tt
      asks_each_of (dict ps) x st = tt
      asks_each_of (fun f c) x st = tt
      asks_each_of (ref d) x st = tt

    mutual
      asks_stm : (a : Stm) (n : ℕ) (st : St N) → HasStm at a n → Asks (eval_stm w body a n st)
      asks_stm (Stm.set x p e) n st h =
          asks_visit p st _ (λ s. asks_got _ (set_part n x) _ (asks_eval e (n + 1) s h.1) (λ v t. tt))
      asks_stm (Stm.add x q p e) n st h =
          asks_visit p st _ (λ s. asks_got _ (add_part n x q p) (λ v t. add_to (find x t.vars) x q p v t) (asks_eval e (n + 1) s h.1)
          (λ v t. asks_add (find x t.vars) x q p v t))
      asks_stm (Stm.put x q p i e) n st h =
          asks_visit p st _ (λ s. asks_got _ (put_index n (n + 1 + nodes i) x q p e) _ (asks_eval i (n + 1) s h.1)
          (λ v t. asks_got _ (put_value n x q p v) (λ y u. put_in (find x u.vars) x q p v y u) (asks_eval e (n + 1 + nodes i) t h.2)
          (λ y u. asks_put (find x u.vars) x q p v y u)))
      asks_stm (Stm.return p e) n st h =
          asks_visit p st _ (λ s. asks_got _ (return_part n) _ (asks_eval e (n + 1) s h.1) (λ v t. tt))
      asks_stm (Stm.leave p) n st h = asks_visit p st _ (λ s. tt)
      asks_stm (Stm.cases p arms els) n st h =
          asks_visit p st _ (λ s. asks_arms arms n 1 (n + 1) (n + 1 + arms_nodes arms) els
          (λ t. eval_else w body els (n + 1 + arms_nodes arms) t) s h.1 (λ t. asks_else els (n + 1 + arms_nodes arms) t h.2))
      asks_stm (Stm.while p e b) n st h =
          asks_visit p st _ (λ s. asks_turns n (n + 1 + nodes e) p b _ (λ z. asks_stms b (n + 1 + nodes e) 0 (n + 1 + nodes e + 1) z h.3)
          (suc visits) e s h.1)
      asks_stm (Stm.repeat p b e) n st h =
          asks_visit p st _ (λ s. asks_repeats n (n + 1 + block_nodes b) p b _ (λ z. asks_stms b (n + 1) 0 (n + 1 + 1) z h.3) (suc visits) e s h.1)
      asks_stm (Stm.for p x e b) n st h =
          asks_visit p st _ (λ s. asks_got _ (for_list n (n + 1 + nodes e) p x b) _ (asks_eval e (n + 1) s h.1)
          (λ v t. asks_each_of n (n + 1 + nodes e) p b (eval_stms w body b (n + 1 + nodes e) 0 (n + 1 + nodes e + 1))
          (λ z. asks_stms b (n + 1 + nodes e) 0 (n + 1 + nodes e + 1) z h.3) v x t))
      asks_stm (Stm.just p e) n st h =
          asks_visit p st _ (λ s. asks_got _ (just_part n) _ (asks_eval e (n + 1) s h.1) (λ v t. tt))

      asks_stms : (b : Stms) (n k m : ℕ) (st : St N) → HasStms at b m → Asks (eval_stms w body b n k m st)
      asks_stms Stms.no_stms n k m st h = tt
      asks_stms (Stms.stm a more) n k m st h =
          asks_goes _ (block_at n (k + 1) (m + stm_nodes a) more) _ (asks_stm a m st h.0) (λ s. asks_stms more n (k + 1) (m + stm_nodes a) s h.1)

      asks_arms : (arms : Arms) (n k m i : ℕ) (els : Else) (go : St N → Res N) (st : St N) → HasArms at arms m → ((s : St N) → Asks (go s))
          → Asks (eval_arms w body arms n k m i els go st)
      asks_arms Arms.no_arms n k m i els go st h last = last st
      asks_arms (Arms.arm p e b arms) n k m i els go st h last =
          asks_got _ (arm_test n k (m + nodes e) i p b arms els) _ (asks_eval e m st h.0)
          (λ v s. asks_decide v p s _ _ (asks_stms b (m + nodes e) 0 (m + nodes e + 1) s h.2)
          (asks_arms arms n (k + 1) (m + nodes e + block_nodes b) i els go s h.3 last))

      asks_else : (els : Else) (n : ℕ) (st : St N) → HasElse at els n → Asks (eval_else w body els n st)
      asks_else Else.no_else n st h = tt
      asks_else (Else.otherwise b) n st h = asks_stms b n 0 (n + 1) st h.1

  -- ---- bodies

  asks_in_body : (o : Option Body) (c : Pairs N) (vs : Vals N) (p : Place) (st : St N) (run : Stms → ℕ → St N → Res N) → HasBody at o
      → ((b : Stms) (n : ℕ) (s : St N) → HasStms at b (n + 1) → Asks (run b n s)) → Asks (in_body w o c vs p st run)
  asks_in_body None c vs p st run h g = tt
  asks_in_body (Some x) c vs p st run h g = g x.block x.node (with_vars (bind x.params vs c) st) h.1

  -- at every wait of a body
  pub asks_call : (d : ℕ) (f : List ℕ) (c : Pairs N) (vs : Vals N) (p : Place) (st : St N) → HasScript at w.script → Asks (body_at w d f c vs p st)
  asks_call zero f c vs p st h = tt
  asks_call (suc d) f c vs p st h =
      asks_in_body (body_of f w.script) c vs p st _ (has_body at f w.script h)
      (λ b n s g. asks_stms (body_at w d) (λ f' c' vs' p' st'. asks_call d f' c' vs' p' st' h) b n 0 (n + 1) s g)
