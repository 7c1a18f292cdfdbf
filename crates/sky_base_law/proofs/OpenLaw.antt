-- At each wait, each form under way is what its node, its step and its kept values open.
use Rattle.std.proofs.Common.{◌≡◌, ℕ, zero, suc, ◌+◌, Bool, true, false, List, [], ◌∷◌, ◌++◌, map, length, reverse, Option, Some, None, Ok, Err}
use Rattle.std.proofs.Common.{nat_lt, nat_eq, ◌&&◌, pos, negsuc, refl, sym, ap, ◌∙◌, subst, arith}
use Rattle.std.specs.Option.{option_map}
use Rattle.sky_base.specs.Val.{Val, Vals, Pairs, Desc, null, truth, num, text, list, dict, fun, ref, no_vals, val, no_pairs, count, vals_of, refs_to}
use Rattle.sky_base.specs.Op.{Answer, index, find, negated, opposite, len, keys, has, range, limited, set_at, grown, dict_from}
use Rattle.sky_base.specs.Tree.{Place, nowhere, Oper, Junction, Sign, SignAt, Form, Exp, Exps, Links, Ands, Steps, Stm, Stms, Arms, Else, FunDef}
use Rattle.sky_base.specs.Tree.{nodes, exps_nodes, stm_nodes, block_nodes, arms_nodes}
use Rattle.sky_base.specs.Res.{visits, Object, End, St, Entry, parens_in, part_at, chain_first, chain_more, logic_at, prefix_part, star_wait}
use Rattle.sky_base.specs.Res.{postfix_first, index_at, arg_at, call_open, exec_wait, set_part, add_part, put_index, put_value, return_part}
use Rattle.sky_base.specs.Res.{just_part, arm_test, while_test, while_body, repeat_body, repeat_test, for_list, for_body, block_at, one_of, all_of}
use Rattle.sky_base.specs.Res.{Res, Fin, Tell, Ask, then_do, on_got, on_goes, with_vars, on_body, gives, counted, visited, visit, answer, tell_all}
use Rattle.sky_base.specs.Eval.{World, find_fun, is_one_of, Body, body_of, bind, set_var, lit_val, named, closed, oper, outputs, truth_of, decide}
use Rattle.sky_base.specs.Eval.{joins, add_to, put_in, turns, repeats, each, each_of, with_one, with_two, with_three, ask, spawn_if, spawn_fun}
use Rattle.sky_base.specs.Eval.{spawn_list, spawned, outputs_if, outputs_count, outputs_of, exec_ask, input_if, input_of, formed, deref, signed}
use Rattle.sky_base.specs.Eval.{signs, call_if, call_fun, called, enter, eval, eval_parts, eval_links, eval_ands, eval_steps, eval_args, eval_stm}
use Rattle.sky_base.specs.Eval.{eval_stms, eval_arms, eval_else, in_body, body_at}
use Rattle.sky_base_law.specs.Opened.{Node, exp_node, stm_node, block_node, next_part, next_link, next_and, next_arm, next_stm, Pos, in_index, in_args}
use Rattle.sky_base_law.specs.Opened.{enter_pos, next_pos, times, next_sign, descs_of, part_open, link_open, and_open, sign_open, pos_open, chain_open}
use Rattle.sky_base_law.specs.Opened.{logic_open, prefix_open, postfix_open, form_open, arm_open, cases_open, stms_open, opened, HasExp, HasExps, HasLinks}
use Rattle.sky_base_law.specs.Opened.{HasAnds, HasSteps, HasStm, HasStms, HasArms, HasElse, HasScript, Opened}
use Rattle.sky_base_law.proofs.BodiesLaw.{HasBody, has_body}
use Rattle.sky_base_law.proofs.Lists.{length_push, up_two}

module _ {N : Type 0} (w : World N) (at : ℕ → Option Node) where
  abbrev pub AllOpened : List (Entry N) → Type 0
  AllOpened [] = Unit {0}
  AllOpened (en ∷ fr) = Opened at en × AllOpened fr

  abbrev pub Opens : Res N → Type 0
  Opens (Fin e st) = Unit {0}
  Opens (Tell d r) = Unit {0} × Opens r
  Opens (Ask q fr st k) = AllOpened fr × ((os : List (Object N)) → Opens (k os))

  opens_then : (r : Res N) (en : Entry N) (k : End N → St N → Res N) → Opens r → Opened at en → ((e : End N) (st : St N) → Opens (k e st))
      → Opens (then_do r en k)
  opens_then (Fin e st) en k g o h = h e st
  opens_then (Tell d r) en k g o h = (tt, opens_then r en k g.1 o h)
  opens_then (Ask q fr st p) en k g o h = ((o, g.0), λ os. opens_then (p os) en k (g.1 os) o h)

  opens_got : (r : Res N) (en : Entry N) (k : Val N → St N → Res N) → Opens r → Opened at en → ((v : Val N) (st : St N) → Opens (k v st))
      → Opens (then_do r en (on_got k))
  opens_got r en k g o h = opens_then r en (on_got k) g o each
    where
      each : (e : End N) (st : St N) → Opens (on_got k e st)
      each End.goes st = tt
      each (End.got v) st = h v st
      each (End.returned v) st = tt
      each (End.failed f) st = tt

  opens_goes : (r : Res N) (en : Entry N) (k : St N → Res N) → Opens r → Opened at en → ((st : St N) → Opens (k st))
      → Opens (then_do r en (on_goes k))
  opens_goes r en k g o h = opens_then r en (on_goes k) g o each
    where
      each : (e : End N) (st : St N) → Opens (on_goes k e st)
      each End.goes st = h st
      each (End.got v) st = tt
      each (End.returned v) st = tt
      each (End.failed f) st = tt

  opens_body : (xs : Pairs N) (k : Val N → St N → Res N) → ((v : Val N) (st : St N) → Opens (k v st)) → (e : End N) (st : St N)
      → Opens (on_body xs k e st)
  opens_body xs k h End.goes st = h null (with_vars xs st)
  opens_body xs k h (End.got v) st = h v (with_vars xs st)
  opens_body xs k h (End.returned v) st = h v (with_vars xs st)
  opens_body xs k h (End.failed f) st = tt

  opens_visit : (p : Place) (st : St N) (k : St N → Res N) → ((s : St N) → Opens (k s)) → Opens (visit p st k)
  opens_visit p st k h = go (nat_lt st.count visits)
    where
      go : (b : Bool) → Opens (visited b p st k)
      go true = h (counted st)
      go false = tt

  opens_answer : (o : Answer N) (p : Place) (st : St N) (k : Val N → St N → Res N) → ((v : Val N) → Opens (k v st)) → Opens (answer o p st k)
  opens_answer (Ok v) p st k h = h v
  opens_answer (Err e) p st k h = tt

  opens_decide : (v : Val N) (p : Place) (st : St N) (on off : St N → Res N) → Opens (on st) → Opens (off st) → Opens (decide v p st on off)
  opens_decide (truth true) p st on off g h = g
  opens_decide (truth false) p st on off g h = h
  opens_decide null p st on off g h = tt
  opens_decide (num z) p st on off g h = tt
  opens_decide (text t) p st on off g h = tt
  opens_decide (list vs) p st on off g h = tt
  opens_decide (dict ps) p st on off g h = tt
  opens_decide (fun f c) p st on off g h = tt
  opens_decide (ref e) p st on off g h = tt

  opens_joins : (j : Junction) (v : Val N) (p : Place) (st : St N) (k : St N → Res N) → Opens (k st) → Opens (joins j v p st k)
  opens_joins Junction.both v p st k g = opens_decide v p st k _ g tt
  opens_joins Junction.either v p st k g = opens_decide v p st _ k tt g

  opens_add : (o : Option (Val N)) (x : List ℕ) (q p : Place) (e : Val N) (st : St N) → Opens (add_to o x q p e st)
  opens_add None x q p e st = tt
  opens_add (Some v) x q p e st = opens_answer (grown v e) p st _ (λ u. tt)

  opens_put : (o : Option (Val N)) (x : List ℕ) (q p : Place) (i e : Val N) (st : St N) → Opens (put_in o x q p i e st)
  opens_put None x q p i e st = tt
  opens_put (Some v) x q p i e st = opens_answer (set_at v i e) p st _ (λ u. tt)

  -- ---- forms of parts

  descs_are : (ds : List (Desc N)) → descs_of (refs_to ds) ≡ Some ds
  descs_are [] = refl
  descs_are (d ∷ ds) = ap (option_map (λ es. d ∷ es)) (descs_are ds)

  opens_spawn_if : (b : Bool) (d : Desc N) (p : Place) (st : St N) → Opens (spawn_if w b d p st)
  opens_spawn_if false d p st = tt
  opens_spawn_if true d p st = (tt, tt)

  opens_spawn_fun : (o : Option FunDef) (f : List ℕ) (c : Pairs N) (vs : Vals N) (p : Place) (st : St N) → Opens (spawn_fun w o f c vs p st)
  opens_spawn_fun None f c vs p st = tt
  opens_spawn_fun (Some x) f c vs p st = opens_spawn_if _ _ p st

  opens_spawn_list : (f : List ℕ) (c : Pairs N) (a : Val N) (p : Place) (st : St N) → Opens (spawn_list w f c a p st)
  opens_spawn_list f c (list vs) p st = opens_spawn_fun (find_fun f w.script.funs) f c vs p st
  opens_spawn_list f c null p st = tt
  opens_spawn_list f c (truth x) p st = tt
  opens_spawn_list f c (num z) p st = tt
  opens_spawn_list f c (text t) p st = tt
  opens_spawn_list f c (dict ps) p st = tt
  opens_spawn_list f c (fun g cb) p st = tt
  opens_spawn_list f c (ref e) p st = tt

  opens_spawned : (g a : Val N) (p : Place) (st : St N) → Opens (spawned w g a p st)
  opens_spawned (fun f c) a p st = opens_spawn_list f c a p st
  opens_spawned null a p st = tt
  opens_spawned (truth x) a p st = tt
  opens_spawned (num z) a p st = tt
  opens_spawned (text t) a p st = tt
  opens_spawned (list vs) a p st = tt
  opens_spawned (dict ps) a p st = tt
  opens_spawned (ref e) a p st = tt

  opens_tell : (ds : List (Desc N)) (r : Res N) → Opens r → Opens (tell_all ds r)
  opens_tell [] r g = g
  opens_tell (x ∷ ds) r g = (tt, opens_tell ds r g)

  module _ (k : List (Desc N) → St N → Res N) (g : (es : List (Desc N)) (st : St N) → Opens (k es st)) where
    opens_outputs_if : (b : Bool) (ds : List (Desc N)) (p : Place) (st : St N) → Opens (outputs_if w b ds p st k)
    opens_outputs_if false ds p st = tt
    opens_outputs_if true ds p st = opens_tell ds _ (g (map w.make ds) st)

    opens_outputs_count : (x : List ℕ) (a n : Val N) (p : Place) (st : St N) → Opens (outputs_count w x a n p st k)
    opens_outputs_count x a (num (pos n)) p st = opens_outputs_if (nat_lt 0 n && nat_lt n 65) (outputs x a n 0 n) p st
    opens_outputs_count x a (num (negsuc n)) p st = tt
    opens_outputs_count x a null p st = tt
    opens_outputs_count x a (truth b) p st = tt
    opens_outputs_count x a (text t) p st = tt
    opens_outputs_count x a (list vs) p st = tt
    opens_outputs_count x a (dict ps) p st = tt
    opens_outputs_count x a (fun f c) p st = tt
    opens_outputs_count x a (ref d) p st = tt

    opens_outputs : (x a n : Val N) (p : Place) (st : St N) → Opens (outputs_of w x a n p st k)
    opens_outputs (text x) a n p st = opens_outputs_count x a n p st
    opens_outputs null a n p st = tt
    opens_outputs (truth b) a n p st = tt
    opens_outputs (num z) a n p st = tt
    opens_outputs (list vs) a n p st = tt
    opens_outputs (dict ps) a n p st = tt
    opens_outputs (fun f c) a n p st = tt
    opens_outputs (ref d) a n p st = tt

  opens_input_if : (b : Bool) (k : List ℕ) (p : Place) (st : St N) → Opens (input_if w b k p st)
  opens_input_if false k p st = tt
  opens_input_if true k p st = (tt, tt)

  opens_input : (v : Val N) (p : Place) (st : St N) → Opens (input_of w v p st)
  opens_input (text k) p st = opens_input_if (is_one_of k w.script.keys) k p st
  opens_input null p st = tt
  opens_input (truth y) p st = tt
  opens_input (num z) p st = tt
  opens_input (list vs) p st = tt
  opens_input (dict ps) p st = tt
  opens_input (fun f c) p st = tt
  opens_input (ref e) p st = tt

  opens_one : (vs : List (Val N)) (p : Place) (st : St N) (k : Val N → Res N) → ((x : Val N) → Opens (k x)) → Opens (with_one vs p st k)
  opens_one [] p st k g = tt
  opens_one (x ∷ []) p st k g = g x
  opens_one (x ∷ y ∷ vs) p st k g = tt

  opens_two : (vs : List (Val N)) (p : Place) (st : St N) (k : Val N → Val N → Res N) → ((x y : Val N) → Opens (k x y)) → Opens (with_two vs p st k)
  opens_two [] p st k g = tt
  opens_two (x ∷ []) p st k g = tt
  opens_two (x ∷ y ∷ []) p st k g = g x y
  opens_two (x ∷ y ∷ z ∷ vs) p st k g = tt

  opens_three : (vs : List (Val N)) (p : Place) (st : St N) (k : Val N → Val N → Val N → Res N)
      → (length vs ≡ 3 → (x y z : Val N) → Opens (k x y z)) → Opens (with_three vs p st k)
  opens_three [] p st k g = tt
  opens_three (x ∷ []) p st k g = tt
  opens_three (x ∷ y ∷ []) p st k g = tt
  opens_three (x ∷ y ∷ z ∷ []) p st k g = g refl x y z
  opens_three (x ∷ y ∷ z ∷ u ∷ vs) p st k g = tt

  -- an `exec` whose parts are all there waits at step 4
  exec_opened : (n : ℕ) (p : Place) (es : Exps) (m : ℕ) (ds : List (Desc N)) → at n ≡ Some (exp_node (Exp.parts Form.exec p es))
      → times next_part 3 (n + 1, es) ≡ (m, Exps.no_exps) → Opened at (exec_wait n ds)
  exec_opened n p es m ds here done = (
    exp_node (Exp.parts Form.exec p es),
    here,
    ap (λ x. part_open x n 4 Form.exec p (list (refs_to ds) ∷ [])) done
        ∙ ap (option_map (exec_wait n)) (descs_are ds),
  )

  opens_exec : (n : ℕ) (p : Place) (es : Exps) (m i : ℕ) (ds : List (Desc N)) (st : St N) → at n ≡ Some (exp_node (Exp.parts Form.exec p es))
      → times next_part i (n + 1, es) ≡ (m, Exps.no_exps) → i ≡ 3 → Opens (exec_ask w n ds st)
  opens_exec n p es m i ds st here done is =
      opens_got (ask w (all_of ds) st) (exec_wait n ds) gives (tt, λ os. tt)
      (exec_opened n p es m ds here (ap (λ j. times next_part j (n + 1, es)) (sym is) ∙ done)) (λ v s. tt)

  opens_formed : (o : Form) (vs : List (Val N)) (n : ℕ) (p : Place) (es : Exps) (m i : ℕ) (st : St N) → at n ≡ Some (exp_node (Exp.parts o p es))
      → times next_part i (n + 1, es) ≡ (m, Exps.no_exps) → length vs ≡ i → Opens (formed w o vs n p st)
  opens_formed Form.list vs n p es m i st here done is = opens_answer (limited (list (vals_of vs))) p st gives (λ v. tt)
  opens_formed Form.dict vs n p es m i st here done is = opens_answer (dict_from vs no_pairs) p st gives (λ v. tt)
  opens_formed Form.spawn vs n p es m i st here done is = opens_two vs p st _ (λ x y. opens_spawned x y p st)
  opens_formed Form.spawn_exec vs n p es m i st here done is =
      opens_three vs p st _ (λ len x y z. opens_outputs (λ ds s. gives (list (refs_to ds)) s) (λ ds s. tt) x y z p st)
  opens_formed Form.exec vs n p es m i st here done is =
      opens_three vs p st _ (λ len x y z. opens_outputs (λ ds s. exec_ask w n ds s) (λ ds s. opens_exec n p es m i ds s here done (sym is ∙ len))
      x y z p st)
  opens_formed Form.ref vs n p es m i st here done is = opens_one vs p st _ (λ x. opens_input x p st)
  opens_formed Form.len vs n p es m i st here done is = opens_one vs p st _ (λ x. opens_answer (len x) p st gives (λ v. tt))
  opens_formed Form.keys vs n p es m i st here done is = opens_one vs p st _ (λ x. opens_answer (keys x) p st gives (λ v. tt))
  opens_formed Form.has vs n p es m i st here done is = opens_two vs p st _ (λ x y. opens_answer (has x y) p st gives (λ v. tt))
  opens_formed Form.range vs n p es m i st here done is = opens_two vs p st _ (λ x y. opens_answer (range x y) p st gives (λ v. tt))

  up_one : (k i : ℕ) → k ≡ suc i → k + 1 ≡ suc (suc i)
  up_one k i e = omega (arith, e)

  after_one : (k : ℕ) → k + 1 ≡ suc k
  after_one k = omega arith

  part_opened : (n k m i : ℕ) (o : Form) (p : Place) (vs : List (Val N)) (e : Exp) (es all : Exps) → at n ≡ Some (exp_node (Exp.parts o p all))
      → times next_part i (n + 1, all) ≡ (m, Exps.exp e es) → k ≡ suc i → Opened at (part_at n k (m + nodes e) o p vs es)
  part_opened n k m i o p vs e es all here rest is = (
    exp_node (Exp.parts o p all),
    here,
    ap (λ j. form_open o p all n j vs) is ∙ ap (λ x. part_open x n (suc i) o p vs) rest
        ∙ ap (λ j. Some (part_at n j (m + nodes e) o p vs es)) (sym is),
  )

  link_opened : (n k m i : ℕ) (o : Oper) (p : Place) (v : Val N) (e : Exp) (ls : Links) (f : Exp) (all : Links) → at n
      ≡ Some (exp_node (Exp.chain f all)) → times next_link i (n + 1 + nodes f, all) ≡ (m, Links.link o p e ls) → k ≡ suc (suc i)
      → Opened at (chain_more n k (m + nodes e) o p v ls)
  link_opened n k m i o p v e ls f all here rest is = (
    exp_node (Exp.chain f all),
    here,
    ap (λ j. chain_open f all n j (v ∷ [])) is ∙ ap (λ x. link_open x n (suc (suc i)) (v ∷ [])) rest
        ∙ ap (λ j. Some (chain_more n j (m + nodes e) o p v ls)) (sym is),
  )

  and_opened : (n k m i : ℕ) (j : Junction) (p : Place) (e : Exp) (ls : Ands) (f : Exp) (all : Ands) → at n ≡ Some (exp_node (Exp.logic j f all))
      → times next_and i (n + 1 + nodes f, all) ≡ (m, Ands.and p e ls) → k ≡ suc (suc i) → Opened at {N = N} (logic_at n k (m + nodes e) j p ls)
  and_opened n k m i j p e ls f all here rest is = (
    exp_node (Exp.logic j f all),
    here,
    ap (λ x. logic_open j f all n x []) is ∙ ap (λ x. and_open x n (suc (suc i)) j []) rest
        ∙ ap (λ x. Some (logic_at n x (m + nodes e) j p ls)) (sym is),
  )

  star_opened : (n k i : ℕ) (d : Desc N) (o : SignAt) (ss all : List SignAt) (f : Exp) → at n ≡ Some (exp_node (Exp.prefix all f))
      → times next_sign i (reverse all) ≡ o ∷ ss → k ≡ suc (suc i) → Opened at (star_wait n k d ss)
  star_opened n k i d o ss all f here rest is = (
    exp_node (Exp.prefix all f),
    here,
    ap (λ x. prefix_open all n x (ref d ∷ [])) is
        ∙ ap (λ x. sign_open (next_sign x) n (suc (suc i)) (ref d ∷ [])) rest ∙ ap (λ x. Some (star_wait n x d ss)) (sym is),
  )

  pos_opened : (n k i : ℕ) (vs : List (Val N)) (c : Option (List ℕ × Pairs N)) (q : Pos) (en : ℕ → Entry N) (f : Exp) (all : Steps)
      → times next_pos i (enter_pos (n + 1 + nodes f) all) ≡ q → k ≡ suc (suc i) → ((j : ℕ) → pos_open q n j vs c ≡ Some (en j))
      → opened (exp_node (Exp.postfix f all)) n k vs c ≡ Some (en k)
  pos_opened n k i vs c q en f all rest is there =
      ap (λ x. postfix_open f all n x vs c) is ∙ ap (λ x. pos_open x n (suc (suc i)) vs c) rest ∙ there (suc (suc i)) ∙ ap (λ x. Some (en x)) (sym is)

  -- ---- signs

  opens_deref : (v : Val N) (n k i : ℕ) (o : SignAt) (ss all : List SignAt) (f : Exp) (p : Place) (st : St N) (go : Val N → St N → Res N) → at n
      ≡ Some (exp_node (Exp.prefix all f)) → times next_sign i (reverse all) ≡ o ∷ ss → k ≡ suc (suc i)
      → ((u : Val N) (t : St N) → Opens (go u t)) → Opens (deref w v n k ss p st go)
  opens_deref (ref d) n k i o ss all f p st go here rest is g =
      opens_got (ask w (one_of p d) st) (star_wait n k d ss) go (tt, λ os. tt) (star_opened n k i d o ss all f here rest is) g
  opens_deref null n k i o ss all f p st go here rest is g = tt
  opens_deref (truth y) n k i o ss all f p st go here rest is g = tt
  opens_deref (num z) n k i o ss all f p st go here rest is g = tt
  opens_deref (text t) n k i o ss all f p st go here rest is g = tt
  opens_deref (list vs) n k i o ss all f p st go here rest is g = tt
  opens_deref (dict ps) n k i o ss all f p st go here rest is g = tt
  opens_deref (fun h c) n k i o ss all f p st go here rest is g = tt

  opens_signed : (s : Sign) (v : Val N) (n k i : ℕ) (o : SignAt) (ss all : List SignAt) (f : Exp) (p : Place) (st : St N)
      (go : Val N → St N → Res N) → at n ≡ Some (exp_node (Exp.prefix all f)) → times next_sign i (reverse all) ≡ o ∷ ss → k ≡ suc (suc i)
      → ((u : Val N) (t : St N) → Opens (go u t)) → Opens (signed w s v n k ss p st go)
  opens_signed Sign.not v n k i o ss all f p st go here rest is g = opens_answer (opposite v) p st go (λ u. g u st)
  opens_signed Sign.minus v n k i o ss all f p st go here rest is g = opens_answer (negated v) p st go (λ u. g u st)
  opens_signed Sign.star v n k i o ss all f p st go here rest is g = opens_deref v n k i o ss all f p st go here rest is g

  opens_signs : (ss : List SignAt) (n k i : ℕ) (v : Val N) (all : List SignAt) (f : Exp) (st : St N) → at n ≡ Some (exp_node (Exp.prefix all f))
      → times next_sign i (reverse all) ≡ ss → k ≡ suc (suc i) → Opens (signs w ss n k v st)
  opens_signs [] n k i v all f st here rest is = tt
  opens_signs (o ∷ ss) n k i v all f st here rest is =
      opens_visit o.place st (λ s. signed w o.sign v n k ss o.place s (λ u t. signs w ss n (k + 1) u t))
      (λ s. opens_signed o.sign v n k i o ss all f o.place s _ here rest is
      (λ u t. opens_signs ss n (k + 1) (suc i) u all f t here (ap next_sign rest) (up_two k i is)))

  -- ---- calls

  opens_call_if : (b : Bool) (p : Place) (st : St N) (r : Res N) → Opens r → Opens (call_if w b p st r)
  opens_call_if false p st r g = tt
  opens_call_if true p st r g = g

  opens_call_fun : (o : Option FunDef) (vs : Vals N) (p : Place) (st : St N) (r : Res N) → Opens r → Opens (call_fun w o vs p st r)
  opens_call_fun None vs p st r g = tt
  opens_call_fun (Some x) vs p st r g = opens_call_if (nat_eq (length x.params) (count vs)) p st r g

  opens_called : (v : Val N) (vs : Vals N) (p : Place) (st : St N) (k : List ℕ → Pairs N → Res N) → ((f : List ℕ) (c : Pairs N) → Opens (k f c))
      → Opens (called w v vs p st k)
  opens_called (fun f c) vs p st k g = opens_call_fun (find_fun f w.script.funs) vs p st (k f c) (g f c)
  opens_called null vs p st k g = tt
  opens_called (truth y) vs p st k g = tt
  opens_called (num z) vs p st k g = tt
  opens_called (text t) vs p st k g = tt
  opens_called (list us) vs p st k g = tt
  opens_called (dict ps) vs p st k g = tt
  opens_called (ref e) vs p st k g = tt

  module _ (body : List ℕ → Pairs N → Vals N → Place → St N → Res N)
      (bodies_open : (f : List ℕ) (c : Pairs N) (vs : Vals N) (p : Place) (st : St N) → Opens (body f c vs p st)) where
    mutual
      opens_eval : (e : Exp) (n : ℕ) (st : St N) → HasExp at e n → Opens (eval w body e n st)
      opens_eval (Exp.literal v p) n st h = opens_visit p st _ (λ s. opens_answer (limited (lit_val v)) p s gives (λ x. tt))
      opens_eval (Exp.name x p) n st h = opens_visit p st (λ s. answer (named (find x s.vars) x w.script.funs) p s gives)
          (λ s. opens_answer (named (find x s.vars) x w.script.funs) p s gives (λ y. tt))
      opens_eval (Exp.func x p) n st h = opens_visit p st (λ s. answer (closed (find_fun x w.script.funs) x s.vars) p s gives)
          (λ s. opens_answer (closed (find_fun x w.script.funs) x s.vars) p s gives (λ y. tt))
      opens_eval (Exp.parens e) n st h = opens_got (eval w body e (n + 1) st) (parens_in n) gives (opens_eval e (n + 1) st h.1)
          (exp_node (Exp.parens e), h.0, refl) (λ v s. tt)
      opens_eval (Exp.parts o p es) n st h = opens_parts es n 1 (n + 1) 0 o p [] es st h.0 refl (omega arith) refl h.1
      opens_eval (Exp.chain e ls) n st h =
          opens_got _ (chain_first n (n + 1 + nodes e) ls) _ (opens_eval e (n + 1) st h.1) (exp_node (Exp.chain e ls), h.0, refl)
          (λ v s. opens_links ls n 2 (n + 1 + nodes e) 0 v e ls s h.0 refl refl h.2)
      opens_eval (Exp.logic j e ls) n st h =
          opens_got _ (logic_at n 1 (n + 1 + nodes e) j nowhere ls) _ (opens_eval e (n + 1) st h.1) (exp_node (Exp.logic j e ls), h.0, refl)
          (λ v s. opens_ands ls n 2 (n + 1 + nodes e) 0 j nowhere v e ls s h.0 refl refl h.2)
      opens_eval (Exp.prefix ss e) n st h =
          opens_got _ (prefix_part n (reverse ss)) _ (opens_eval e (n + 1) st h.1) (exp_node (Exp.prefix ss e), h.0, refl)
          (λ v s. opens_signs (reverse ss) n 2 0 v ss e s h.0 refl refl)
      opens_eval (Exp.postfix e ss) n st h =
          opens_got _ (postfix_first n (n + 1 + nodes e) ss) _ (opens_eval e (n + 1) st h.1) (exp_node (Exp.postfix e ss), h.0, refl)
          (λ v s. opens_steps ss n 2 (n + 1 + nodes e) 0 v e ss s h.0 refl refl h.2)

      opens_parts : (es : Exps) (n k m i : ℕ) (o : Form) (p : Place) (vs : List (Val N)) (all : Exps) (st : St N) → at n
          ≡ Some (exp_node (Exp.parts o p all)) → times next_part i (n + 1, all) ≡ (m, es) → k ≡ suc i → length vs ≡ i → HasExps at es m
          → Opens (eval_parts w body es n k m o p vs st)
      opens_parts Exps.no_exps n k m i o p vs all st here rest is long h =
          opens_visit p st (λ s. formed w o vs n p s) (λ s. opens_formed o vs n p all m i s here rest long)
      opens_parts (Exps.exp e es) n k m i o p vs all st here rest is long h =
          opens_got _ (part_at n k (m + nodes e) o p vs es) _ (opens_eval e m st h.0) (part_opened n k m i o p vs e es all here rest is)
          (λ v s. opens_parts es n (k + 1) (m + nodes e) (suc i) o p (vs ++ v ∷ []) all s here (ap next_part rest) (up_one k i is)
          (length_push vs v i long) h.1)

      opens_links : (ls : Links) (n k m i : ℕ) (v : Val N) (f : Exp) (all : Links) (st : St N) → at n ≡ Some (exp_node (Exp.chain f all))
          → times next_link i (n + 1 + nodes f, all) ≡ (m, ls) → k ≡ suc (suc i) → HasLinks at ls m → Opens (eval_links w body ls n k m v st)
      opens_links Links.no_links n k m i v f all st here rest is h = tt
      opens_links (Links.link o p e ls) n k m i v f all st here rest is h =
          opens_got _ (chain_more n k (m + nodes e) o p v ls) _ (opens_eval e m st h.0) (link_opened n k m i o p v e ls f all here rest is)
          (λ x s. opens_visit p s _ (λ t. opens_answer (oper o v x) p t _
          (λ y. opens_links ls n (k + 1) (m + nodes e) (suc i) y f all t here (ap next_link rest) (up_two k i is) h.1)))

      opens_ands : (ls : Ands) (n k m i : ℕ) (j : Junction) (q : Place) (v : Val N) (f : Exp) (all : Ands) (st : St N) → at n
          ≡ Some (exp_node (Exp.logic j f all)) → times next_and i (n + 1 + nodes f, all) ≡ (m, ls) → k ≡ suc (suc i) → HasAnds at ls m
          → Opens (eval_ands w body ls n k m j q v st)
      opens_ands Ands.no_ands n k m i j q v f all st here rest is h = opens_answer (truth_of v) q st gives (λ x. tt)
      opens_ands (Ands.and p e ls) n k m i j q v f all st here rest is h =
          opens_visit p st _ (λ s. opens_joins j v p s _
          (opens_got _ (logic_at n k (m + nodes e) j p ls) _ (opens_eval e m s h.0) (and_opened n k m i j p e ls f all here rest is)
          (λ x u. opens_ands ls n (k + 1) (m + nodes e) (suc i) j p x f all u here (ap next_and rest) (up_two k i is) h.1)))

      opens_steps : (ss : Steps) (n k m i : ℕ) (v : Val N) (f : Exp) (all : Steps) (st : St N) → at n ≡ Some (exp_node (Exp.postfix f all))
          → times next_pos i (enter_pos (n + 1 + nodes f) all) ≡ enter_pos m ss → k ≡ suc (suc i) → HasSteps at ss m
          → Opens (eval_steps w body ss n k m v st)
      opens_steps Steps.no_steps n k m i v f all st here rest is h = tt
      opens_steps (Steps.index e p ss) n k m i v f all st here rest is h =
          opens_got _ (index_at n k (m + nodes e) p v ss) _ (opens_eval e m st h.0) (
            exp_node (Exp.postfix f all),
            here,
            pos_opened n k i (v ∷ []) None (in_index m e p ss) (λ j. index_at n j (m + nodes e) p v ss) f
                all rest is (λ j. refl),
          ) (λ x s. opens_visit p s _
          (λ t. opens_answer (index v x) p t _ (λ y. opens_steps ss n (k + 1) (m + nodes e) (suc i) y f all t here (ap next_pos rest)
          (up_two k i is) h.1)))
      opens_steps (Steps.call es p ss) n k m i v f all st here rest is h =
          opens_args es n k m i p v [] ss f all st here rest is h.0 (m + exps_nodes es) refl
          (λ l m' i' y u walk count is_next. opens_steps ss n l m' i' y f all u here walk count (subst (HasSteps at ss) (sym is_next) h.1))

      opens_args : (es : Exps) (n k m i : ℕ) (p : Place) (g : Val N) (vs : List (Val N)) (ss : Steps) (f : Exp) (all : Steps) (st : St N) → at n
          ≡ Some (exp_node (Exp.postfix f all)) → times next_pos i (enter_pos (n + 1 + nodes f) all) ≡ in_args m es p ss → k ≡ suc (suc i)
          → HasExps at es m → (end : ℕ) → m + exps_nodes es ≡ end
          → ((l m' i' : ℕ) (y : Val N) (u : St N) → times next_pos i' (enter_pos (n + 1 + nodes f) all) ≡ enter_pos m' ss → l ≡ suc (suc i') → m'
          ≡ end → Opens (eval_steps w body ss n l m' y u))
          → Opens (eval_args w body es n k m p g vs ss
          (λ l i f c us s. enter w body f c us p n l i ss s (λ y u. eval_steps w body ss n (l + 1) i y u)) st)
      opens_args Exps.no_exps n k m i p g vs ss f all st here rest is h end reach steps =
          opens_visit p st _ (λ s. opens_called g (vals_of vs) p s _
          (λ x c. opens_then (body x c (vals_of vs) p s) (call_open n k m x s.vars ss)
          (on_body s.vars (λ y u. eval_steps w body ss n (k + 1) m y u)) (bodies_open x c (vals_of vs) p s) (
            exp_node (Exp.postfix f all),
            here,
            pos_opened n k i [] (Some (x, s.vars)) (in_args m Exps.no_exps p ss)
                (λ j. call_open n j m x s.vars ss) f all rest is (λ j. refl),
          )
          (opens_body s.vars _ (λ y u. steps (k + 1) m (suc i) y u (ap next_pos rest) (up_two k i is) (omega (arith, reach))))))
      opens_args (Exps.exp e es) n k m i p g vs ss f all st here rest is h end reach steps =
          opens_got _ (arg_at n k (m + nodes e) p g vs es ss) _ (opens_eval e m st h.0) (
            exp_node (Exp.postfix f all),
            here,
            pos_opened n k i (g ∷ vs) None (in_args m (Exps.exp e es) p ss)
                (λ j. arg_at n j (m + nodes e) p g vs es ss) f all rest is (λ j. refl),
          )
          (λ v s. opens_args es n (k + 1) (m + nodes e) (suc i) p g (vs ++ v ∷ []) ss f all s here (ap next_pos rest) (up_two k i is) h.1 end
          (omega (arith, reach)) steps)

    -- ---- loops

    module _ (n m : ℕ) (p : Place) (blk : Stms) (run : St N → Res N) (run_opens : (st : St N) → Opens (run st)) where
      opens_turns : (f : ℕ) (e : Exp) (st : St N) → at n ≡ Some (stm_node (Stm.while p e blk)) → m ≡ n + 1 + nodes e → HasExp at e (n + 1)
          → Opens (turns f n m p e blk (eval w body e (n + 1)) run st)
      opens_turns zero e st here is h = tt
      opens_turns (suc f) e st here is h =
          opens_got _ (while_test n m p e blk) _ (opens_eval e (n + 1) st h)
          (stm_node (Stm.while p e blk), here, ap (λ i. Some (while_test n i p e blk)) (sym is))
          (λ v s. opens_decide v p s _ _ (opens_goes (run s) (while_body n m p e blk) _ (run_opens s)
          (stm_node (Stm.while p e blk), here, ap (λ i. Some (while_body n i p e blk)) (sym is)) (λ z. opens_turns f e z here is h)) tt)

      opens_repeats : (f : ℕ) (e : Exp) (st : St N) → at n ≡ Some (stm_node (Stm.repeat p blk e)) → m ≡ n + 1 + block_nodes blk → HasExp at e m
          → Opens (repeats f n m p blk e run (eval w body e m) st)
      opens_repeats zero e st here is h = tt
      opens_repeats (suc f) e st here is h =
          opens_goes (run st) (repeat_body n m p blk e) _ (run_opens st)
          (stm_node (Stm.repeat p blk e), here, ap (λ i. Some (repeat_body n i p blk e)) (sym is))
          (λ s. opens_got _ (repeat_test n m p blk e) _ (opens_eval e m s h)
          (stm_node (Stm.repeat p blk e), here, ap (λ i. Some (repeat_test n i p blk e)) (sym is))
          (λ v t. opens_decide v p t _ _ (opens_repeats f e t here is h) tt))

      opens_each : (vs : Vals N) (t : ℕ) (x : List ℕ) (e : Exp) (whole : Vals N) (st : St N) → at n ≡ Some (stm_node (Stm.for p x e blk)) → m
          ≡ n + 1 + nodes e → Opens (each vs n m t p x whole blk run st)
      opens_each no_vals t x e whole st here is = tt
      opens_each (val v vs) t x e whole st here is =
          opens_visit p st _ (λ s. opens_goes (run (set_var x v s)) (for_body n m (suc t) p x whole blk) _ (run_opens (set_var x v s))
          (stm_node (Stm.for p x e blk), here, ap (λ i. Some (for_body n i (suc t) p x whole blk)) (sym is))
          (λ z. opens_each vs (suc t) x e whole z here is))

      opens_each_of : (v : Val N) (x : List ℕ) (e : Exp) (st : St N) → at n ≡ Some (stm_node (Stm.for p x e blk)) → m ≡ n + 1 + nodes e
          → Opens (each_of v n m p x blk run st)
      opens_each_of (list vs) x e st here is = opens_each vs 0 x e vs st here is
      opens_each_of null x e st here is = tt
      opens_each_of (truth b) x e st here is = tt
      opens_each_of (num z) x e st here is = tt
      opens_each_of (text t) x e st here is = tt
      opens_each_of (dict ps) x e st here is = tt
      opens_each_of (fun f c) x e st here is = tt
      opens_each_of (ref d) x e st here is = tt

    arm_opened : (n k m i : ℕ) (p : Place) (e : Exp) (b : Stms) (arms all : Arms) (els : Else) (q : Place) → at n
        ≡ Some (stm_node (Stm.cases q all els)) → times next_arm i (n + 1, all) ≡ (m, Arms.arm p e b arms) → k ≡ suc i
        → Opened at {N = N} (arm_test n k (m + nodes e) (n + 1 + arms_nodes all) p b arms els)
    arm_opened n k m i p e b arms all els q here rest is = (
      stm_node (Stm.cases q all els),
      here,
      ap (λ j. cases_open all els n j) is
          ∙ ap (λ x. arm_open x n (suc i) (n + 1 + arms_nodes all) els) rest
          ∙ ap (λ j. Some (arm_test n j (m + nodes e) (n + 1 + arms_nodes all) p b arms els)) (sym is),
    )

    block_opened : (n k m : ℕ) (a : Stm) (more all : Stms) → at n ≡ Some (block_node all) → times next_stm k (n + 1, all) ≡ (m, Stms.stm a more)
        → Opened at {N = N} (block_at n (k + 1) (m + stm_nodes a) more)
    block_opened n k m a more all here rest = (
      block_node all,
      here,
      ap (λ j. stms_open (times next_stm j (n + 1, all)) n (k + 1)) (after_one k)
          ∙ ap (λ x. stms_open (next_stm x) n (k + 1)) rest,
    )

    mutual
      opens_stm : (a : Stm) (n : ℕ) (st : St N) → HasStm at a n → Opens (eval_stm w body a n st)
      opens_stm (Stm.set x p e) n st h =
          opens_visit p st _ (λ s. opens_got _ (set_part n x) _ (opens_eval e (n + 1) s h.1) (stm_node (Stm.set x p e), h.0, refl) (λ v t. tt))
      opens_stm (Stm.add x q p e) n st h =
          opens_visit p st _ (λ s. opens_got _ (add_part n x q p) (λ v t. add_to (find x t.vars) x q p v t) (opens_eval e (n + 1) s h.1)
          (stm_node (Stm.add x q p e), h.0, refl) (λ v t. opens_add (find x t.vars) x q p v t))
      opens_stm (Stm.put x q p i e) n st h =
          opens_visit p st _ (λ s. opens_got _ (put_index n (n + 1 + nodes i) x q p e) _ (opens_eval i (n + 1) s h.1)
          (stm_node (Stm.put x q p i e), h.0, refl)
          (λ v t. opens_got _ (put_value n x q p v) (λ y u. put_in (find x u.vars) x q p v y u) (opens_eval e (n + 1 + nodes i) t h.2)
          (stm_node (Stm.put x q p i e), h.0, refl) (λ y u. opens_put (find x u.vars) x q p v y u)))
      opens_stm (Stm.return p e) n st h =
          opens_visit p st _ (λ s. opens_got _ (return_part n) _ (opens_eval e (n + 1) s h.1) (stm_node (Stm.return p e), h.0, refl) (λ v t. tt))
      opens_stm (Stm.leave p) n st h = opens_visit p st _ (λ s. tt)
      opens_stm (Stm.cases p arms els) n st h =
          opens_visit p st _ (λ s. opens_arms arms n 1 (n + 1) 0 arms els p (λ t. eval_else w body els (n + 1 + arms_nodes arms) t) s h.0 refl
          (omega arith) h.1 (λ t. opens_else els (n + 1 + arms_nodes arms) t h.2))
      opens_stm (Stm.while p e b) n st h =
          opens_visit p st _ (λ s. opens_turns n (n + 1 + nodes e) p b _
          (λ z. opens_stms b (n + 1 + nodes e) 0 (n + 1 + nodes e + 1) b z h.2 refl h.3) (suc visits) e s h.0 refl h.1)
      opens_stm (Stm.repeat p b e) n st h =
          opens_visit p st _ (λ s. opens_repeats n (n + 1 + block_nodes b) p b _ (λ z. opens_stms b (n + 1) 0 (n + 1 + 1) b z h.2 refl h.3)
          (suc visits) e s h.0 refl h.1)
      opens_stm (Stm.for p x e b) n st h =
          opens_visit p st _ (λ s. opens_got _ (for_list n (n + 1 + nodes e) p x b) _ (opens_eval e (n + 1) s h.1)
          (stm_node (Stm.for p x e b), h.0, refl) (λ v t. opens_each_of n (n + 1 + nodes e) p b
          (eval_stms w body b (n + 1 + nodes e) 0 (n + 1 + nodes e + 1))
          (λ z. opens_stms b (n + 1 + nodes e) 0 (n + 1 + nodes e + 1) b z h.2 refl h.3) v x e t h.0 refl))
      opens_stm (Stm.just p e) n st h =
          opens_visit p st _ (λ s. opens_got _ (just_part n) _ (opens_eval e (n + 1) s h.1) (stm_node (Stm.just p e), h.0, refl) (λ v t. tt))

      opens_stms : (b : Stms) (n k m : ℕ) (all : Stms) (st : St N) → at n ≡ Some (block_node all) → times next_stm k (n + 1, all) ≡ (m, b)
          → HasStms at b m → Opens (eval_stms w body b n k m st)
      opens_stms Stms.no_stms n k m all st here rest h = tt
      opens_stms (Stms.stm a more) n k m all st here rest h =
          opens_goes _ (block_at n (k + 1) (m + stm_nodes a) more) _ (opens_stm a m st h.0) (block_opened n k m a more all here rest)
          (λ s. opens_stms more n (k + 1) (m + stm_nodes a) all s here
          (ap (λ j. times next_stm j (n + 1, all)) (after_one k) ∙ ap next_stm rest) h.1)

      opens_arms : (arms : Arms) (n k m i : ℕ) (all : Arms) (els : Else) (q : Place) (go : St N → Res N) (st : St N) → at n
          ≡ Some (stm_node (Stm.cases q all els)) → times next_arm i (n + 1, all) ≡ (m, arms) → k ≡ suc i → HasArms at arms m
          → ((s : St N) → Opens (go s)) → Opens (eval_arms w body arms n k m (n + 1 + arms_nodes all) els go st)
      opens_arms Arms.no_arms n k m i all els q go st here rest is h last = last st
      opens_arms (Arms.arm p e b arms) n k m i all els q go st here rest is h last =
          opens_got _ (arm_test n k (m + nodes e) (n + 1 + arms_nodes all) p b arms els) _ (opens_eval e m st h.0)
          (arm_opened n k m i p e b arms all els q here rest is)
          (λ v s. opens_decide v p s _ _ (opens_stms b (m + nodes e) 0 (m + nodes e + 1) b s h.1 refl h.2)
          (opens_arms arms n (k + 1) (m + nodes e + block_nodes b) (suc i) all els q go s here (ap next_arm rest) (up_one k i is) h.3 last))

      opens_else : (els : Else) (n : ℕ) (st : St N) → HasElse at els n → Opens (eval_else w body els n st)
      opens_else Else.no_else n st h = tt
      opens_else (Else.otherwise b) n st h = opens_stms b n 0 (n + 1) b st h.0 refl h.1

  -- ---- bodies

  opens_in_body : (o : Option Body) (c : Pairs N) (vs : Vals N) (p : Place) (st : St N) (run : Stms → ℕ → St N → Res N) → HasBody at o
      → ((b : Stms) (n : ℕ) (s : St N) → (at n ≡ Some (block_node b)) × HasStms at b (n + 1) → Opens (run b n s))
      → Opens (in_body w o c vs p st run)
  opens_in_body None c vs p st run h g = tt
  opens_in_body (Some x) c vs p st run h g = g x.block x.node (with_vars (bind x.params vs c) st) h

  -- every form under way at a wait of a body is opened by what is saved of it
  pub opens_call : (d : ℕ) (f : List ℕ) (c : Pairs N) (vs : Vals N) (p : Place) (st : St N) → HasScript at w.script → Opens (body_at w d f c vs p st)
  opens_call zero f c vs p st h = tt
  opens_call (suc d) f c vs p st h =
      opens_in_body (body_of f w.script) c vs p st _ (has_body at f w.script h)
      (λ b n s g. opens_stms (body_at w d) (λ f' c' vs' p' st'. opens_call d f' c' vs' p' st' h) b n 0 (n + 1) b s g.0 refl g.1)
