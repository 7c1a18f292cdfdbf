-- What a run waits for goes on as the forms under way say.
use Rattle.std.proofs.Common.{◌≡◌, ℕ, zero, suc, ◌+◌, ◌<◌, ◌≤◌, Bool, true, false, List, [], ◌∷◌, ◌++◌, length, reverse, map, Option, Some, None, Ok}
use Rattle.std.proofs.Common.{Err, nat_lt, nat_eq, ◌&&◌, pos, negsuc, refl, ap, ◌∙◌, arith, ltb-true}
use mathlib.Core.Path.{fun_ext}
use Rattle.sky_base.specs.Val.{Val, Vals, Pairs, Desc, null, truth, num, text, list, dict, fun, ref, no_vals, val, no_pairs, input, count, vals_of}
use Rattle.sky_base.specs.Op.{Answer, index, find, negated, opposite, len, keys, has, range, limited, set_at, grown, dict_from}
use Rattle.sky_base.specs.Tree.{Place, nowhere, Junction, Sign, SignAt, Form, Exp, Exps, Links, Ands, Steps, Stm, Stms, Arms, Else, FunDef, nodes}
use Rattle.sky_base.specs.Tree.{stm_nodes, block_nodes, arms_nodes}
use Rattle.sky_base.specs.Res.{visits, Object, End, St, Entry, parens_in, part_at, chain_first, chain_more, logic_at, prefix_part, star_wait}
use Rattle.sky_base.specs.Res.{postfix_first, index_at, arg_at, call_open, exec_wait, set_part, add_part, put_index, put_value, return_part}
use Rattle.sky_base.specs.Res.{just_part, arm_test, while_test, while_body, repeat_body, repeat_test, for_list, for_body, block_at, Wait, one_of}
use Rattle.sky_base.specs.Res.{all_of, Res, Fin, Tell, Ask, then_do, on_got, on_goes, with_vars, on_body, gives, counted, visited, visit, answer}
use Rattle.sky_base.specs.Res.{tell_all}
use Rattle.sky_base.specs.Eval.{World, find_fun, is_one_of, Body, body_of, bind, set_var, lit_val, named, closed, oper, exec_end, read_end, outputs}
use Rattle.sky_base.specs.Eval.{truth_of, decide, joins, add_to, put_in, left, turns, repeats, each, each_of, with_one, with_two, with_three}
use Rattle.sky_base.specs.Eval.{wait_end, ask, make_one, spawn_if, spawn_fun, spawn_list, spawned, outputs_if, outputs_count, outputs_of, exec_ask}
use Rattle.sky_base.specs.Eval.{input_if, input_of, formed, deref, signed, signs, call_if, call_fun, called, enter, eval, eval_parts, eval_links}
use Rattle.sky_base.specs.Eval.{eval_ands, eval_steps, eval_args, eval_stm, eval_stms, eval_arms, eval_else, eval_block, after, in_body, body_at}
use Rattle.sky_base.specs.Eval.{inside, plug}

module _ {N : Type 0} (w : World N) where
  -- what a form under way does where d bodies may be opened
  abbrev pub goes_on : ℕ → Entry N → End N → St N → Res N
  goes_on d = after w (body_at w d)

  abbrev pub Within : ℕ → St N → Type 0
  Within c st = (c ≤ st.count) × (st.count ≤ visits)

  -- an end that is no fault comes with so many visits, and with no more than are allowed
  abbrev pub Late : ℕ → End N → St N → Type 0
  Late c End.goes st = Within c st
  Late c (End.got v) st = Within c st
  Late c (End.returned v) st = Within c st
  Late c (End.failed f) st = Unit {0}

  -- at each wait the forms under way, taken up with the objects of the wait, are what comes for these objects
  abbrev pub Good : ℕ → ℕ → Res N → Type 0
  Good d c (Fin e st) = Late c e st
  Good d c (Tell o r) = Unit {0} × Good d c r
  Good d c (Ask q fr st k) = (os : List (Object N)) → (plug w d fr (Fin (wait_end w q os) st) ≡ k os) × Good d c (k os)

  pub good_later : (r : Res N) (d b c : ℕ) → b ≤ c → Good d c r → Good d b r
  good_later (Fin End.goes st) d b c le g = (omega arith, omega arith)
  good_later (Fin (End.got v) st) d b c le g = (omega arith, omega arith)
  good_later (Fin (End.returned v) st) d b c le g = (omega arith, omega arith)
  good_later (Fin (End.failed f) st) d b c le g = tt
  good_later (Tell o r) d b c le g = (tt, good_later r d b c le g.1)
  good_later (Ask q fr st k) d b c le g = λ os. ((g os).0, good_later (k os) d b c le (g os).1)

  pub alike : (x : Res N) (d c : ℕ) (en : Entry N) (k q : End N → St N → Res N) → ((e : End N) (st : St N) → Late c e st → k e st ≡ q e st)
      → Good d c x → then_do x en k ≡ then_do x en q
  alike (Fin e st) d c en k q same h = same e st h
  alike (Tell o r) d c en k q same h = ap (Tell o) (alike r d c en k q same h.1)
  alike (Ask y fr st p) d c en k q same h = ap (Ask y (en ∷ fr) st) (fun_ext (λ os. alike (p os) d c en k q same (h os).1))

  pub got_alike : (c : ℕ) (k q : Val N → St N → Res N) → ((v : Val N) (st : St N) → Within c st → k v st ≡ q v st) → (e : End N) (st : St N)
      → Late c e st → on_got k e st ≡ on_got q e st
  got_alike c k q same End.goes st h = refl
  got_alike c k q same (End.got v) st h = same v st h
  got_alike c k q same (End.returned v) st h = refl
  got_alike c k q same (End.failed f) st h = refl

  pub goes_alike : (c : ℕ) (k q : St N → Res N) → ((st : St N) → Within c st → k st ≡ q st) → (e : End N) (st : St N) → Late c e st
      → on_goes k e st ≡ on_goes q e st
  goes_alike c k q same End.goes st h = same st h
  goes_alike c k q same (End.got v) st h = refl
  goes_alike c k q same (End.returned v) st h = refl
  goes_alike c k q same (End.failed f) st h = refl

  good_then : (r : Res N) (d c b : ℕ) (en : Entry N) (k : End N → St N → Res N) → Good (inside w en d) c r
      → ((e : End N) (st : St N) → Late c e st → goes_on d en e st ≡ k e st) → ((e : End N) (st : St N) → Late c e st → Good d b (k e st))
      → Good d b (then_do r en k)
  good_then (Fin e st) d c b en k g same good = good e st g
  good_then (Tell o r) d c b en k g same good = (tt, good_then r d c b en k g.1 same good)
  good_then (Ask y fr st q) d c b en k g same good =
      λ os. (
        ap (λ x. then_do x en (goes_on d en)) (g os).0 ∙ alike (q os) (inside w en d) c en (goes_on d en) k same (g os).1,
        good_then (q os) d c b en k (g os).1 same good,
      )

  good_got : (r : Res N) (d c b : ℕ) (en : Entry N) (k q : Val N → St N → Res N) → Good (inside w en d) c r → b ≤ c
      → ((e : End N) (st : St N) → goes_on d en e st ≡ on_got q e st) → ((v : Val N) (st : St N) → Within c st → q v st ≡ k v st)
      → ((v : Val N) (st : St N) → Within c st → Good d b (k v st)) → Good d b (then_do r en (on_got k))
  good_got r d c b en k q g le is same good = good_then r d c b en (on_got k) g (λ e st h. is e st ∙ got_alike c q k same e st h) pass
    where
      pass : (e : End N) (st : St N) → Late c e st → Good d b (on_got k e st)
      pass End.goes st h = (omega arith, omega arith)
      pass (End.got v) st h = good v st h
      pass (End.returned v) st h = (omega arith, omega arith)
      pass (End.failed f) st h = tt

  good_goes : (r : Res N) (d c b : ℕ) (en : Entry N) (k q : St N → Res N) → Good (inside w en d) c r → b ≤ c
      → ((e : End N) (st : St N) → goes_on d en e st ≡ on_goes q e st) → ((st : St N) → Within c st → q st ≡ k st)
      → ((st : St N) → Within c st → Good d b (k st)) → Good d b (then_do r en (on_goes k))
  good_goes r d c b en k q g le is same good = good_then r d c b en (on_goes k) g (λ e st h. is e st ∙ goes_alike c q k same e st h) pass
    where
      pass : (e : End N) (st : St N) → Late c e st → Good d b (on_goes k e st)
      pass End.goes st h = good st h
      pass (End.got v) st h = (omega arith, omega arith)
      pass (End.returned v) st h = (omega arith, omega arith)
      pass (End.failed f) st h = tt

  -- a part whose form goes on with literally this
  good_part : (r : Res N) (d c b : ℕ) (en : Entry N) (k : Val N → St N → Res N) → Good (inside w en d) c r → b ≤ c
      → ((e : End N) (st : St N) → goes_on d en e st ≡ on_got k e st) → ((v : Val N) (st : St N) → Within c st → Good d b (k v st))
      → Good d b (then_do r en (on_got k))
  good_part r d c b en k g le is good = good_got r d c b en k k g le is (λ v st h. refl) good

  good_visit : (p : Place) (d b : ℕ) (st : St N) (k : St N → Res N) → (st.count < visits → Good d b (k (counted st))) → Good d b (visit p st k)
  good_visit p d b st k good = go (nat_lt st.count visits) refl
    where
      go : (x : Bool) → nat_lt st.count visits ≡ x → Good d b (visited x p st k)
      go true e = good (ltb-true _ _ e)
      go false e = tt

  good_answer : (o : Answer N) (p : Place) (d b : ℕ) (st : St N) (k : Val N → St N → Res N) → ((v : Val N) → Good d b (k v st))
      → Good d b (answer o p st k)
  good_answer (Ok v) p d b st k g = g v
  good_answer (Err e) p d b st k g = tt

  -- ---- waits

  late_read : (o : Answer N) (p : Place) (b : ℕ) (st : St N) → Within b st → Late b (read_end o p) st
  late_read (Ok v) p b st h = h
  late_read (Err e) p b st h = tt

  late_exec : (os : List (Object N)) (ds : List (Desc N)) (b : ℕ) (st : St N) → Within b st → Late b (exec_end ds os) st
  late_exec [] ds b st h = h
  late_exec (Object.bytes x ∷ os) ds b st h = late_exec os ds b st h
  late_exec (Object.data_of v ∷ os) ds b st h = late_exec os ds b st h
  late_exec (Object.fault f ∷ os) ds b st h = tt

  late_one : (os : List (Object N)) (p : Place) (d : Desc N) (b : ℕ) (st : St N) → Within b st → Late b (wait_end w (one_of p d) os) st
  late_one [] p d b st h = h
  late_one (Object.bytes x ∷ os) p d b st h = late_read (w.reads x) p b st h
  late_one (Object.data_of v ∷ os) p d b st h = h
  late_one (Object.fault f ∷ os) p d b st h = tt

  pub late_wait : (q : Wait N) (os : List (Object N)) (b : ℕ) (st : St N) → Within b st → Late b (wait_end w q os) st
  late_wait (one_of p d) os b st h = late_one os p d b st h
  late_wait (all_of ds) os b st h = late_exec os ds b st h

  good_ask : (q : Wait N) (d b : ℕ) (st : St N) → Within b st → Good d b (ask w q st)
  good_ask q d b st h = λ os. (refl, late_wait q os b st h)

  -- ---- truth values

  good_decide : (v : Val N) (p : Place) (d b : ℕ) (st : St N) (on off : St N → Res N) → Good d b (on st) → Good d b (off st)
      → Good d b (decide v p st on off)
  good_decide (truth true) p d b st on off g h = g
  good_decide (truth false) p d b st on off g h = h
  good_decide null p d b st on off g h = tt
  good_decide (num z) p d b st on off g h = tt
  good_decide (text t) p d b st on off g h = tt
  good_decide (list vs) p d b st on off g h = tt
  good_decide (dict ps) p d b st on off g h = tt
  good_decide (fun f c) p d b st on off g h = tt
  good_decide (ref e) p d b st on off g h = tt

  pub decide_alike : (v : Val N) (p : Place) (st : St N) (on on' off : St N → Res N) → on st ≡ on' st → decide v p st on off ≡ decide v p st on' off
  decide_alike (truth true) p st on on' off e = e
  decide_alike (truth false) p st on on' off e = refl
  decide_alike null p st on on' off e = refl
  decide_alike (num z) p st on on' off e = refl
  decide_alike (text t) p st on on' off e = refl
  decide_alike (list vs) p st on on' off e = refl
  decide_alike (dict ps) p st on on' off e = refl
  decide_alike (fun f c) p st on on' off e = refl
  decide_alike (ref d) p st on on' off e = refl

  good_joins : (j : Junction) (v : Val N) (p : Place) (d b : ℕ) (st : St N) (k : St N → Res N) → Within b st → Good d b (k st)
      → Good d b (joins j v p st k)
  good_joins Junction.both v p d b st k h g = good_decide v p d b st k _ g h
  good_joins Junction.either v p d b st k h g = good_decide v p d b st _ k h g

  -- ---- forms of parts

  good_make : (o : Desc N) (d b : ℕ) (st : St N) → Within b st → Good d b (make_one w o st)
  good_make o d b st h = (tt, h)

  good_spawn_if : (x : Bool) (o : Desc N) (p : Place) (d b : ℕ) (st : St N) → Within b st → Good d b (spawn_if w x o p st)
  good_spawn_if false o p d b st h = tt
  good_spawn_if true o p d b st h = good_make o d b st h

  good_spawn_fun : (o : Option FunDef) (f : List ℕ) (c : Pairs N) (vs : Vals N) (p : Place) (d b : ℕ) (st : St N) → Within b st
      → Good d b (spawn_fun w o f c vs p st)
  good_spawn_fun None f c vs p d b st h = tt
  good_spawn_fun (Some x) f c vs p d b st h = good_spawn_if _ _ p d b st h

  good_spawn_list : (f : List ℕ) (c : Pairs N) (a : Val N) (p : Place) (d b : ℕ) (st : St N) → Within b st → Good d b (spawn_list w f c a p st)
  good_spawn_list f c (list vs) p d b st h = good_spawn_fun (find_fun f w.script.funs) f c vs p d b st h
  good_spawn_list f c null p d b st h = tt
  good_spawn_list f c (truth x) p d b st h = tt
  good_spawn_list f c (num z) p d b st h = tt
  good_spawn_list f c (text t) p d b st h = tt
  good_spawn_list f c (dict ps) p d b st h = tt
  good_spawn_list f c (fun g cb) p d b st h = tt
  good_spawn_list f c (ref e) p d b st h = tt

  good_spawned : (g a : Val N) (p : Place) (d b : ℕ) (st : St N) → Within b st → Good d b (spawned w g a p st)
  good_spawned (fun f c) a p d b st h = good_spawn_list f c a p d b st h
  good_spawned null a p d b st h = tt
  good_spawned (truth x) a p d b st h = tt
  good_spawned (num z) a p d b st h = tt
  good_spawned (text t) a p d b st h = tt
  good_spawned (list vs) a p d b st h = tt
  good_spawned (dict ps) a p d b st h = tt
  good_spawned (ref e) a p d b st h = tt

  good_tell : (ds : List (Desc N)) (r : Res N) (d b : ℕ) → Good d b r → Good d b (tell_all ds r)
  good_tell [] r d b g = g
  good_tell (x ∷ ds) r d b g = (tt, good_tell ds r d b g)

  good_outputs_if : (x : Bool) (ds : List (Desc N)) (p : Place) (d b : ℕ) (st : St N) (k : List (Desc N) → St N → Res N)
      → ((es : List (Desc N)) → Good d b (k es st)) → Good d b (outputs_if w x ds p st k)
  good_outputs_if false ds p d b st k g = tt
  good_outputs_if true ds p d b st k g = good_tell ds _ d b (g (map w.make ds))

  good_outputs_count : (x : List ℕ) (a n : Val N) (p : Place) (d b : ℕ) (st : St N) (k : List (Desc N) → St N → Res N)
      → ((es : List (Desc N)) → Good d b (k es st)) → Good d b (outputs_count w x a n p st k)
  good_outputs_count x a (num (pos n)) p d b st k g = good_outputs_if (nat_lt 0 n && nat_lt n 65) (outputs x a n 0 n) p d b st k g
  good_outputs_count x a (num (negsuc n)) p d b st k g = tt
  good_outputs_count x a null p d b st k g = tt
  good_outputs_count x a (truth y) p d b st k g = tt
  good_outputs_count x a (text t) p d b st k g = tt
  good_outputs_count x a (list vs) p d b st k g = tt
  good_outputs_count x a (dict ps) p d b st k g = tt
  good_outputs_count x a (fun f c) p d b st k g = tt
  good_outputs_count x a (ref e) p d b st k g = tt

  good_outputs : (x a n : Val N) (p : Place) (d b : ℕ) (st : St N) (k : List (Desc N) → St N → Res N)
      → ((es : List (Desc N)) → Good d b (k es st)) → Good d b (outputs_of w x a n p st k)
  good_outputs (text x) a n p d b st k g = good_outputs_count x a n p d b st k g
  good_outputs null a n p d b st k g = tt
  good_outputs (truth y) a n p d b st k g = tt
  good_outputs (num z) a n p d b st k g = tt
  good_outputs (list vs) a n p d b st k g = tt
  good_outputs (dict ps) a n p d b st k g = tt
  good_outputs (fun f c) a n p d b st k g = tt
  good_outputs (ref e) a n p d b st k g = tt

  good_exec_ask : (n : ℕ) (ds : List (Desc N)) (d b : ℕ) (st : St N) → Within b st → Good d b (exec_ask w n ds st)
  good_exec_ask n ds d b st h = good_part (ask w (all_of ds) st) d b b (exec_wait n ds) gives (good_ask (all_of ds) d b st h) (omega arith)
      (λ e s. refl) (λ v s i. i)

  good_input_if : (x : Bool) (k : List ℕ) (p : Place) (d b : ℕ) (st : St N) → Within b st → Good d b (input_if w x k p st)
  good_input_if false k p d b st h = tt
  good_input_if true k p d b st h = good_make (input k) d b st h

  good_input : (v : Val N) (p : Place) (d b : ℕ) (st : St N) → Within b st → Good d b (input_of w v p st)
  good_input (text k) p d b st h = good_input_if (is_one_of k w.script.keys) k p d b st h
  good_input null p d b st h = tt
  good_input (truth y) p d b st h = tt
  good_input (num z) p d b st h = tt
  good_input (list vs) p d b st h = tt
  good_input (dict ps) p d b st h = tt
  good_input (fun f c) p d b st h = tt
  good_input (ref e) p d b st h = tt

  good_one : (vs : List (Val N)) (p : Place) (d b : ℕ) (st : St N) (k : Val N → Res N) → ((x : Val N) → Good d b (k x))
      → Good d b (with_one vs p st k)
  good_one [] p d b st k g = tt
  good_one (x ∷ []) p d b st k g = g x
  good_one (x ∷ y ∷ vs) p d b st k g = tt

  good_two : (vs : List (Val N)) (p : Place) (d b : ℕ) (st : St N) (k : Val N → Val N → Res N) → ((x y : Val N) → Good d b (k x y))
      → Good d b (with_two vs p st k)
  good_two [] p d b st k g = tt
  good_two (x ∷ []) p d b st k g = tt
  good_two (x ∷ y ∷ []) p d b st k g = g x y
  good_two (x ∷ y ∷ z ∷ vs) p d b st k g = tt

  good_three : (vs : List (Val N)) (p : Place) (d b : ℕ) (st : St N) (k : Val N → Val N → Val N → Res N) → ((x y z : Val N) → Good d b (k x y z))
      → Good d b (with_three vs p st k)
  good_three [] p d b st k g = tt
  good_three (x ∷ []) p d b st k g = tt
  good_three (x ∷ y ∷ []) p d b st k g = tt
  good_three (x ∷ y ∷ z ∷ []) p d b st k g = g x y z
  good_three (x ∷ y ∷ z ∷ u ∷ vs) p d b st k g = tt

  good_formed : (o : Form) (vs : List (Val N)) (n : ℕ) (p : Place) (d b : ℕ) (st : St N) → Within b st → Good d b (formed w o vs n p st)
  good_formed Form.list vs n p d b st h = good_answer (limited (list (vals_of vs))) p d b st gives (λ v. h)
  good_formed Form.dict vs n p d b st h = good_answer (dict_from vs no_pairs) p d b st gives (λ v. h)
  good_formed Form.spawn vs n p d b st h = good_two vs p d b st _ (λ x y. good_spawned x y p d b st h)
  good_formed Form.spawn_exec vs n p d b st h =
      good_three vs p d b st _ (λ x y z. good_outputs x y z p d b st _ (λ es. h))
  good_formed Form.exec vs n p d b st h =
      good_three vs p d b st _ (λ x y z. good_outputs x y z p d b st _ (λ es. good_exec_ask n es d b st h))
  good_formed Form.ref vs n p d b st h = good_one vs p d b st _ (λ x. good_input x p d b st h)
  good_formed Form.len vs n p d b st h = good_one vs p d b st _ (λ x. good_answer (len x) p d b st gives (λ v. h))
  good_formed Form.keys vs n p d b st h = good_one vs p d b st _ (λ x. good_answer (keys x) p d b st gives (λ v. h))
  good_formed Form.has vs n p d b st h = good_two vs p d b st _ (λ x y. good_answer (has x y) p d b st gives (λ v. h))
  good_formed Form.range vs n p d b st h = good_two vs p d b st _ (λ x y. good_answer (range x y) p d b st gives (λ v. h))

  -- ---- signs

  good_deref : (v : Val N) (n k : ℕ) (ss : List SignAt) (p : Place) (d b : ℕ) (st : St N) → Within b st
      → ((u : Val N) (t : St N) → Within b t → Good d b (signs w ss n (k + 1) u t))
      → Good d b (deref w v n k ss p st (λ u t. signs w ss n (k + 1) u t))
  good_deref (ref x) n k ss p d b st h g =
      good_part (ask w (one_of p x) st) d b b (star_wait n k x ss) _ (good_ask (one_of p x) d b st h) (omega arith) (λ e s. refl) g
  good_deref null n k ss p d b st h g = tt
  good_deref (truth y) n k ss p d b st h g = tt
  good_deref (num z) n k ss p d b st h g = tt
  good_deref (text t) n k ss p d b st h g = tt
  good_deref (list vs) n k ss p d b st h g = tt
  good_deref (dict ps) n k ss p d b st h g = tt
  good_deref (fun f c) n k ss p d b st h g = tt

  good_signed : (o : Sign) (v : Val N) (n k : ℕ) (ss : List SignAt) (p : Place) (d b : ℕ) (st : St N) → Within b st
      → ((u : Val N) (t : St N) → Within b t → Good d b (signs w ss n (k + 1) u t))
      → Good d b (signed w o v n k ss p st (λ u t. signs w ss n (k + 1) u t))
  good_signed Sign.not v n k ss p d b st h g = good_answer (opposite v) p d b st _ (λ u. g u st h)
  good_signed Sign.minus v n k ss p d b st h g = good_answer (negated v) p d b st _ (λ u. g u st h)
  good_signed Sign.star v n k ss p d b st h g = good_deref v n k ss p d b st h g

  good_signs : (ss : List SignAt) (n k : ℕ) (v : Val N) (d b : ℕ) (st : St N) → Within b st → Good d b (signs w ss n k v st)
  good_signs [] n k v d b st h = h
  good_signs (o ∷ ss) n k v d b st h =
      good_visit o.place d b st (λ s. signed w o.sign v n k ss o.place s (λ u t. signs w ss n (k + 1) u t))
      (λ lt. good_signed o.sign v n k ss o.place d b (counted st) (omega arith, omega arith) (λ u t i. good_signs ss n (k + 1) u d b t i))

  -- ---- calls

  good_body : (d c b : ℕ) (xs : Pairs N) (k : Val N → St N → Res N) (e : End N) (st : St N) → Late c e st
      → ((v : Val N) (s : St N) → Within c s → Good d b (k v s)) → Good d b (on_body xs k e st)
  good_body d c b xs k End.goes st h g = g null (with_vars xs st) h
  good_body d c b xs k (End.got v) st h g = g v (with_vars xs st) h
  good_body d c b xs k (End.returned v) st h g = g v (with_vars xs st) h
  good_body d c b xs k (End.failed f) st h g = tt

  good_call_if : (x : Bool) (p : Place) (d b : ℕ) (st : St N) (r : Res N) → Good d b r → Good d b (call_if w x p st r)
  good_call_if false p d b st r g = tt
  good_call_if true p d b st r g = g

  good_call_fun : (o : Option FunDef) (vs : Vals N) (p : Place) (d b : ℕ) (st : St N) (r : Res N) → Good d b r → Good d b (call_fun w o vs p st r)
  good_call_fun None vs p d b st r g = tt
  good_call_fun (Some x) vs p d b st r g = good_call_if (nat_eq (length x.params) (count vs)) p d b st r g

  good_called : (v : Val N) (vs : Vals N) (p : Place) (d b : ℕ) (st : St N) (k : List ℕ → Pairs N → Res N)
      → ((f : List ℕ) (c : Pairs N) → Good d b (k f c)) → Good d b (called w v vs p st k)
  good_called (fun f c) vs p d b st k g = good_call_fun (find_fun f w.script.funs) vs p d b st (k f c) (g f c)
  good_called null vs p d b st k g = tt
  good_called (truth y) vs p d b st k g = tt
  good_called (num z) vs p d b st k g = tt
  good_called (text t) vs p d b st k g = tt
  good_called (list us) vs p d b st k g = tt
  good_called (dict ps) vs p d b st k g = tt
  good_called (ref e) vs p d b st k g = tt

  -- where d bodies may be opened, and each of them is good
  module _ (d : ℕ) (good_call : (n k m : ℕ) (f : List ℕ) (xs : Pairs N) (ss : Steps) (c : Pairs N) (vs : Vals N) (p : Place) (st : St N)
      → st.count ≤ visits → Good (inside w (call_open n k m f xs ss) d) st.count (body_at w d f c vs p st)) where
    good_enter : (f : List ℕ) (c : Pairs N) (vs : Vals N) (p : Place) (n k m : ℕ) (ss : Steps) (b : ℕ) (st : St N) → Within b st
        → ((y : Val N) (u : St N) → Within b u → Good d b (eval_steps w (body_at w d) ss n (k + 1) m y u))
        → Good d b (enter w (body_at w d) f c vs p n k m ss st (λ y u. eval_steps w (body_at w d) ss n (k + 1) m y u))
    good_enter f c vs p n k m ss b st h g =
        good_then (body_at w d f c vs p st) d st.count b (call_open n k m f st.vars ss) _ (good_call n k m f st.vars ss c vs p st h.1)
        (λ e s i. refl) (λ e s i. good_body d st.count b st.vars _ e s i (λ v u j. g v u (omega arith, omega arith)))

    mutual
      pub good_eval : (e : Exp) (n : ℕ) (st : St N) → Good d (st.count + 1) (eval w (body_at w d) e n st)
      good_eval (Exp.literal v p) n st = good_visit p d (st.count + 1) st _
          (λ lt. good_answer (limited (lit_val v)) p d (st.count + 1) (counted st) gives (λ x. (omega arith, omega arith)))
      good_eval (Exp.name x p) n st = good_visit p d (st.count + 1) st (λ s. answer (named (find x s.vars) x w.script.funs) p s gives)
          (λ lt. good_answer (named (find x st.vars) x w.script.funs) p d (st.count + 1) (counted st) gives (λ y. (omega arith, omega arith)))
      good_eval (Exp.func x p) n st = good_visit p d (st.count + 1) st (λ s. answer (closed (find_fun x w.script.funs) x s.vars) p s gives)
          (λ lt. good_answer (closed (find_fun x w.script.funs) x st.vars) p d (st.count + 1) (counted st) gives
          (λ y. (omega arith, omega arith)))
      good_eval (Exp.parens e) n st = good_part _ d (st.count + 1) (st.count + 1) (parens_in n) _ (good_eval e (n + 1) st) (omega arith)
          (λ e s. refl) (λ v s h. h)
      good_eval (Exp.parts o p es) n st = good_parts es n 1 (n + 1) o p [] st
      good_eval (Exp.chain e ls) n st =
          good_part _ d (st.count + 1) (st.count + 1) (chain_first n (n + 1 + nodes e) ls) _ (good_eval e (n + 1) st) (omega arith) (λ e s. refl)
          (λ v s h. good_links ls n 2 (n + 1 + nodes e) v (st.count + 1) s h)
      good_eval (Exp.logic j e ls) n st =
          good_part _ d (st.count + 1) (st.count + 1) (logic_at n 1 (n + 1 + nodes e) j nowhere ls) _ (good_eval e (n + 1) st) (omega arith)
          (λ e s. refl) (λ v s h. good_ands ls n 2 (n + 1 + nodes e) j nowhere v (st.count + 1) s h)
      good_eval (Exp.prefix ss e) n st =
          good_part _ d (st.count + 1) (st.count + 1) (prefix_part n (reverse ss)) _ (good_eval e (n + 1) st) (omega arith) (λ e s. refl)
          (λ v s h. good_signs (reverse ss) n 2 v d (st.count + 1) s h)
      good_eval (Exp.postfix e ss) n st =
          good_part _ d (st.count + 1) (st.count + 1) (postfix_first n (n + 1 + nodes e) ss) _ (good_eval e (n + 1) st) (omega arith)
          (λ e s. refl) (λ v s h. good_steps ss n 2 (n + 1 + nodes e) v (st.count + 1) s h)

      good_parts : (es : Exps) (n k m : ℕ) (o : Form) (p : Place) (vs : List (Val N)) (st : St N)
          → Good d (st.count + 1) (eval_parts w (body_at w d) es n k m o p vs st)
      good_parts Exps.no_exps n k m o p vs st =
          good_visit p d (st.count + 1) st (λ s. formed w o vs n p s)
          (λ lt. good_formed o vs n p d (st.count + 1) (counted st) (omega arith, omega arith))
      good_parts (Exps.exp e es) n k m o p vs st =
          good_part _ d (st.count + 1) (st.count + 1) (part_at n k (m + nodes e) o p vs es) _ (good_eval e m st) (omega arith) (λ e s. refl)
          (λ v s h. good_later _ d (st.count + 1) (s.count + 1) (omega arith) (good_parts es n (k + 1) (m + nodes e) o p (vs ++ v ∷ []) s))

      good_links : (ls : Links) (n k m : ℕ) (v : Val N) (b : ℕ) (st : St N) → Within b st → Good d b (eval_links w (body_at w d) ls n k m v st)
      good_links Links.no_links n k m v b st h = h
      good_links (Links.link o p e ls) n k m v b st h =
          good_part _ d (st.count + 1) b (chain_more n k (m + nodes e) o p v ls) _ (good_eval e m st) (omega arith) (λ e s. refl)
          (λ x s i. good_visit p d b s _ (λ lt. good_answer (oper o v x) p d b (counted s) _
          (λ y. good_links ls n (k + 1) (m + nodes e) y b (counted s) (omega arith, omega arith))))

      good_ands : (ls : Ands) (n k m : ℕ) (j : Junction) (q : Place) (v : Val N) (b : ℕ) (st : St N) → Within b st
          → Good d b (eval_ands w (body_at w d) ls n k m j q v st)
      good_ands Ands.no_ands n k m j q v b st h = good_answer (truth_of v) q d b st gives (λ y. h)
      good_ands (Ands.and p e ls) n k m j q v b st h =
          good_visit p d b st _ (λ lt. good_joins j v p d b (counted st) _ (omega arith, omega arith)
          (good_part _ d (st.count + 1 + 1) b (logic_at n k (m + nodes e) j p ls) _ (good_eval e m (counted st)) (omega arith) (λ e s. refl)
          (λ x u i. good_ands ls n (k + 1) (m + nodes e) j p x b u (omega arith, omega arith))))

      good_steps : (ss : Steps) (n k m : ℕ) (v : Val N) (b : ℕ) (st : St N) → Within b st → Good d b (eval_steps w (body_at w d) ss n k m v st)
      good_steps Steps.no_steps n k m v b st h = h
      good_steps (Steps.index e p ss) n k m v b st h =
          good_part _ d (st.count + 1) b (index_at n k (m + nodes e) p v ss) _ (good_eval e m st) (omega arith) (λ e s. refl)
          (λ x s i. good_visit p d b s _ (λ lt. good_answer (index v x) p d b (counted s) _
          (λ y. good_steps ss n (k + 1) (m + nodes e) y b (counted s) (omega arith, omega arith))))
      good_steps (Steps.call es p ss) n k m v b st h =
          good_args es n k m p v [] ss b st h (λ l i y u j. good_steps ss n l i y b u j)

      good_args : (es : Exps) (n k m : ℕ) (p : Place) (g : Val N) (vs : List (Val N)) (ss : Steps) (b : ℕ) (st : St N) → Within b st
          → ((l i : ℕ) (y : Val N) (u : St N) → Within b u → Good d b (eval_steps w (body_at w d) ss n l i y u))
          → Good d b (eval_args w (body_at w d) es n k m p g vs ss
          (λ l i f c us s. enter w (body_at w d) f c us p n l i ss s (λ y u. eval_steps w (body_at w d) ss n (l + 1) i y u)) st)
      good_args Exps.no_exps n k m p g vs ss b st h steps =
          good_visit p d b st _ (λ lt. good_called g (vals_of vs) p d b (counted st) _
          (λ f c. good_enter f c (vals_of vs) p n k m ss b (counted st) (omega arith, omega arith) (λ y u i. steps (k + 1) m y u i)))
      good_args (Exps.exp e es) n k m p g vs ss b st h steps =
          good_part _ d (st.count + 1) b (arg_at n k (m + nodes e) p g vs es ss) _ (good_eval e m st) (omega arith) (λ e s. refl)
          (λ v s i. good_args es n (k + 1) (m + nodes e) p g (vs ++ v ∷ []) ss b s (omega arith, omega arith) steps)

    -- ---- loops

    left_next : (taken : ℕ) (whole : Vals N) (v : Val N) (more : Vals N) → left taken whole ≡ val v more → left (suc taken) whole ≡ more
    left_next zero no_vals v more e = absurd cc
    left_next zero (val x xs) v more e = cc
    left_next (suc k) no_vals v more e = absurd cc
    left_next (suc k) (val x xs) v more e = left_next k xs v more e

    good_add : (o : Option (Val N)) (x : List ℕ) (q p : Place) (e : Val N) (b : ℕ) (st : St N) → Within b st → Good d b (add_to o x q p e st)
    good_add None x q p e b st h = tt
    good_add (Some v) x q p e b st h = good_answer (grown v e) p d b st _ (λ u. h)

    good_put : (o : Option (Val N)) (x : List ℕ) (q p : Place) (i e : Val N) (b : ℕ) (st : St N) → Within b st → Good d b (put_in o x q p i e st)
    good_put None x q p i e b st h = tt
    good_put (Some v) x q p i e b st h = good_answer (set_at v i e) p d b st _ (λ u. h)

    -- the block of a loop is at the node m, and it is good
    module _ (n m : ℕ) (p : Place) (blk : Stms)
        (good_run : (st : St N) → st.count ≤ visits → Good d st.count (eval_block w (body_at w d) blk m st)) where
      turns_same : (e : Exp) (f g : ℕ) (st : St N) → st.count ≤ visits → visits < f + st.count → visits < g + st.count
          → turns f n m p e blk (eval w (body_at w d) e (n + 1)) (eval_block w (body_at w d) blk m) st
          ≡ turns g n m p e blk (eval w (body_at w d) e (n + 1)) (eval_block w (body_at w d) blk m) st
      turns_same e zero g st h hf hg = absurd (omega arith)
      turns_same e (suc f) zero st h hf hg = absurd (omega arith)
      turns_same e (suc f) (suc g) st h hf hg =
          alike (eval w (body_at w d) e (n + 1) st) d (st.count + 1) (while_test n m p e blk) _ _
          (got_alike (st.count + 1) _ _ (λ v s i. decide_alike v p s _ _ _
          (alike (eval_block w (body_at w d) blk m s) d s.count (while_body n m p e blk) _ _
          (goes_alike s.count _ _ (λ z x. turns_same e f g z (omega arith) (omega arith) (omega arith))) (good_run s (omega arith)))))
          (good_eval e (n + 1) st)

      good_turns : (e : Exp) (f b : ℕ) (st : St N) → Within b st → visits < f + st.count
          → Good d b (turns f n m p e blk (eval w (body_at w d) e (n + 1)) (eval_block w (body_at w d) blk m) st)
      good_turns e zero b st h hf = absurd (omega arith)
      good_turns e (suc f) b st h hf =
          good_got _ d (st.count + 1) b (while_test n m p e blk) _ _ (good_eval e (n + 1) st) (omega arith) (λ e s. refl)
          (λ v s i. decide_alike v p s _ _ _ (alike (eval_block w (body_at w d) blk m s) d s.count (while_body n m p e blk) _ _
          (goes_alike s.count _ _ (λ z x. turns_same e (suc visits) f z (omega arith) (omega arith) (omega arith)))
          (good_run s (omega arith)))) (λ v s i. good_decide v p d b s _ _
          (good_goes _ d s.count b (while_body n m p e blk) _ _ (good_run s (omega arith)) (omega arith) (λ e z. refl)
          (λ z x. turns_same e (suc visits) f z (omega arith) (omega arith) (omega arith))
          (λ z x. good_turns e f b z (omega arith, omega arith) (omega arith))) (omega arith, omega arith))

      -- a loop over a list, of which so many elements are taken
      good_each : (vs : Vals N) (t : ℕ) (x : List ℕ) (whole : Vals N) (b : ℕ) (st : St N) → left t whole ≡ vs → Within b st
          → Good d b (each vs n m t p x whole blk (eval_block w (body_at w d) blk m) st)
      good_each no_vals t x whole b st is h = h
      good_each (val v vs) t x whole b st is h =
          good_visit p d b st _ (λ lt. good_goes (eval_block w (body_at w d) blk m (set_var x v (counted st))) d (st.count + 1) b
          (for_body n m (suc t) p x whole blk) _ _ (good_run (set_var x v (counted st)) (omega arith)) (omega arith) (λ e z. refl)
          (λ z i. ap (λ ys. each ys n m (suc t) p x whole blk (eval_block w (body_at w d) blk m) z) (left_next t whole v vs is))
          (λ z i. good_each vs (suc t) x whole b z (left_next t whole v vs is) (omega arith, omega arith)))

      good_each_of : (v : Val N) (x : List ℕ) (b : ℕ) (st : St N) → Within b st
          → Good d b (each_of v n m p x blk (eval_block w (body_at w d) blk m) st)
      good_each_of (list vs) x b st h = good_each vs 0 x vs b st refl h
      good_each_of null x b st h = tt
      good_each_of (truth y) x b st h = tt
      good_each_of (num z) x b st h = tt
      good_each_of (text t) x b st h = tt
      good_each_of (dict ps) x b st h = tt
      good_each_of (fun f c) x b st h = tt
      good_each_of (ref e) x b st h = tt

    -- the block of a `do` is at the node after its own, and its test at the node m
    module _ (n m : ℕ) (p : Place) (blk : Stms)
        (good_run : (st : St N) → st.count ≤ visits → Good d st.count (eval_block w (body_at w d) blk (n + 1) st)) where
      repeats_same : (e : Exp) (f g : ℕ) (st : St N) → st.count ≤ visits → visits < f + st.count → visits < g + st.count
          → repeats f n m p blk e (eval_block w (body_at w d) blk (n + 1)) (eval w (body_at w d) e m) st
          ≡ repeats g n m p blk e (eval_block w (body_at w d) blk (n + 1)) (eval w (body_at w d) e m) st
      repeats_same e zero g st h hf hg = absurd (omega arith)
      repeats_same e (suc f) zero st h hf hg = absurd (omega arith)
      repeats_same e (suc f) (suc g) st h hf hg =
          alike (eval_block w (body_at w d) blk (n + 1) st) d st.count (repeat_body n m p blk e) _ _
          (goes_alike st.count _ _ (λ s i. alike (eval w (body_at w d) e m s) d (s.count + 1) (repeat_test n m p blk e) _ _
          (got_alike (s.count + 1) _ _ (λ v z x. decide_alike v p z _ _ _ (repeats_same e f g z (omega arith) (omega arith) (omega arith))))
          (good_eval e m s))) (good_run st h)

      good_repeats : (e : Exp) (f b : ℕ) (st : St N) → Within b st → visits < f + st.count
          → Good d b (repeats f n m p blk e (eval_block w (body_at w d) blk (n + 1)) (eval w (body_at w d) e m) st)
      good_repeats e zero b st h hf = absurd (omega arith)
      good_repeats e (suc f) b st h hf =
          good_goes (eval_block w (body_at w d) blk (n + 1) st) d st.count b (repeat_body n m p blk e) _ _ (good_run st (omega arith))
          (omega arith) (λ e z. refl) (λ s i. alike (eval w (body_at w d) e m s) d (s.count + 1) (repeat_test n m p blk e) _ _
          (got_alike (s.count + 1) _ _ (λ v z x. decide_alike v p z _ _ _
          (repeats_same e (suc visits) f z (omega arith) (omega arith) (omega arith)))) (good_eval e m s))
          (λ s i. good_got _ d (s.count + 1) b (repeat_test n m p blk e) _ _ (good_eval e m s) (omega arith) (λ e z. refl)
          (λ v z x. decide_alike v p z _ _ _ (repeats_same e (suc visits) f z (omega arith) (omega arith) (omega arith)))
          (λ v z x. good_decide v p d b z _ _ (good_repeats e f b z (omega arith, omega arith) (omega arith)) (omega arith, omega arith)))

    mutual
      good_stm : (a : Stm) (n : ℕ) (st : St N) → st.count ≤ visits → Good d st.count (eval_stm w (body_at w d) a n st)
      good_stm (Stm.set x p e) n st h =
          good_visit p d st.count st _ (λ lt. good_part _ d (st.count + 1 + 1) st.count (set_part n x) _ (good_eval e (n + 1) (counted st))
          (omega arith) (λ e s. refl) (λ v s i. (omega arith, omega arith)))
      good_stm (Stm.add x q p e) n st h =
          good_visit p d st.count st _ (λ lt. good_part _ d (st.count + 1 + 1) st.count (add_part n x q p)
          (λ v t. add_to (find x t.vars) x q p v t) (good_eval e (n + 1) (counted st)) (omega arith) (λ e s. refl)
          (λ v s i. good_add (find x s.vars) x q p v st.count s (omega arith, omega arith)))
      good_stm (Stm.put x q p i e) n st h =
          good_visit p d st.count st _ (λ lt. good_part _ d (st.count + 1 + 1) st.count (put_index n (n + 1 + nodes i) x q p e) _
          (good_eval i (n + 1) (counted st)) (omega arith) (λ e s. refl)
          (λ v s j. good_part _ d (s.count + 1) st.count (put_value n x q p v) (λ y u. put_in (find x u.vars) x q p v y u)
          (good_eval e (n + 1 + nodes i) s) (omega arith) (λ e s. refl)
          (λ y u k. good_put (find x u.vars) x q p v y st.count u (omega arith, omega arith))))
      good_stm (Stm.return p e) n st h =
          good_visit p d st.count st _ (λ lt. good_part _ d (st.count + 1 + 1) st.count (return_part n) _ (good_eval e (n + 1) (counted st))
          (omega arith) (λ e s. refl) (λ v s i. (omega arith, omega arith)))
      good_stm (Stm.leave p) n st h = good_visit p d st.count st _ (λ lt. (omega arith, omega arith))
      good_stm (Stm.cases p arms els) n st h =
          good_visit p d st.count st _ (λ lt. good_arms arms n 1 (n + 1) (n + 1 + arms_nodes arms) els st.count (counted st)
          (omega arith, omega arith) (λ s i. good_else els (n + 1 + arms_nodes arms) st.count s i))
      good_stm (Stm.while p e b) n st h =
          good_visit p d st.count st _ (λ lt. good_turns n (n + 1 + nodes e) p b
          (λ s i. good_stms b (n + 1 + nodes e) 0 (n + 1 + nodes e + 1) s.count s (omega arith, i)) e (suc visits) st.count (counted st)
          (omega arith, omega arith) (omega arith))
      good_stm (Stm.repeat p b e) n st h =
          good_visit p d st.count st _ (λ lt. good_repeats n (n + 1 + block_nodes b) p b
          (λ s i. good_stms b (n + 1) 0 (n + 1 + 1) s.count s (omega arith, i)) e (suc visits) st.count (counted st)
          (omega arith, omega arith) (omega arith))
      good_stm (Stm.for p x e b) n st h =
          good_visit p d st.count st _ (λ lt. good_part _ d (st.count + 1 + 1) st.count (for_list n (n + 1 + nodes e) p x b)
          (λ v t. each_of v n (n + 1 + nodes e) p x b (eval_block w (body_at w d) b (n + 1 + nodes e)) t) (good_eval e (n + 1) (counted st))
          (omega arith) (λ e s. refl) (λ v s i. good_each_of n (n + 1 + nodes e) p b
          (λ z j. good_stms b (n + 1 + nodes e) 0 (n + 1 + nodes e + 1) z.count z (omega arith, j)) v x st.count s
          (omega arith, omega arith)))
      good_stm (Stm.just p e) n st h =
          good_visit p d st.count st _ (λ lt. good_part _ d (st.count + 1 + 1) st.count (just_part n) _ (good_eval e (n + 1) (counted st))
          (omega arith) (λ e s. refl) (λ v s i. (omega arith, omega arith)))

      good_stms : (b : Stms) (n k m c : ℕ) (st : St N) → Within c st → Good d c (eval_stms w (body_at w d) b n k m st)
      good_stms Stms.no_stms n k m c st h = h
      good_stms (Stms.stm a more) n k m c st h =
          good_goes _ d st.count c (block_at n (k + 1) (m + stm_nodes a) more) _ _ (good_stm a m st h.1) h.0 (λ e s. refl) (λ s i. refl)
          (λ s i. good_stms more n (k + 1) (m + stm_nodes a) c s (omega arith, omega arith))

      good_arms : (arms : Arms) (n k m i : ℕ) (els : Else) (b : ℕ) (st : St N) → Within b st
          → ((s : St N) → Within b s → Good d b (eval_else w (body_at w d) els i s))
          → Good d b (eval_arms w (body_at w d) arms n k m i els (λ s. eval_else w (body_at w d) els i s) st)
      good_arms Arms.no_arms n k m i els b st h last = last st h
      good_arms (Arms.arm p e blk arms) n k m i els b st h last =
          good_part _ d (st.count + 1) b (arm_test n k (m + nodes e) i p blk arms els) _ (good_eval e m st) (omega arith) (λ e s. refl)
          (λ v s j. good_decide v p d b s _ _ (good_stms blk (m + nodes e) 0 (m + nodes e + 1) b s (omega arith, omega arith))
          (good_arms arms n (k + 1) (m + nodes e + block_nodes blk) i els b s (omega arith, omega arith) last))

      good_else : (els : Else) (n b : ℕ) (st : St N) → Within b st → Good d b (eval_else w (body_at w d) els n st)
      good_else Else.no_else n b st h = h
      good_else (Else.otherwise blk) n b st h = good_stms blk n 0 (n + 1) b st h

  -- a body is good, however many bodies may be opened
  good_in_body : (d : ℕ) (o : Option Body) (c : Pairs N) (vs : Vals N) (p : Place) (st : St N) (run : Stms → ℕ → St N → Res N)
      → ((b : Stms) (n : ℕ) (s : St N) → s.count ≤ visits → Good d s.count (run b n s)) → st.count ≤ visits
      → Good d st.count (in_body w o c vs p st run)
  good_in_body d None c vs p st run good h = tt
  good_in_body d (Some x) c vs p st run good h = good x.block x.node (with_vars (bind x.params vs c) st) h

  pub good_call : (d n k m : ℕ) (f : List ℕ) (xs : Pairs N) (ss : Steps) (c : Pairs N) (vs : Vals N) (p : Place) (st : St N) → st.count ≤ visits
      → Good (inside w (call_open n k m f xs ss) d) st.count (body_at w d f c vs p st)
  good_call zero n k m f xs ss c vs p st h = tt
  good_call (suc d) n k m f xs ss c vs p st h =
      good_in_body d (body_of f w.script) c vs p st _ (λ b i s j. good_stms d (good_call d) b i 0 (i + 1) s.count s (omega arith, j)) h

  -- the block of a body
  pub good_block : (d : ℕ) (b : Stms) (n : ℕ) (st : St N) → st.count ≤ visits → Good d st.count (eval_block w (body_at w d) b n st)
  good_block d b n st h = good_stms d (good_call d) b n 0 (n + 1) st.count st (omega arith, h)

  -- a task's own body
  pub good_task : (d : ℕ) (f : List ℕ) (c : Pairs N) (vs : Vals N) (p : Place) (st : St N) → st.count ≤ visits
      → Good d st.count (body_at w (suc d) f c vs p st)
  good_task d f c vs p st h = good_call (suc d) 0 0 0 f no_pairs Steps.no_steps c vs p st h

  -- how many bodies may be opened inside of these forms
  abbrev pub inner : List (Entry N) → ℕ → ℕ
  inner [] d = d
  inner (en ∷ fr) d = inner fr (inside w en d)

  -- one more form, the innermost
  pub plug_push : (fr : List (Entry N)) (d : ℕ) (en : Entry N) (r : Res N) → plug w d (fr ++ en ∷ []) r
      ≡ plug w d fr (then_do r en (goes_on (inner fr d) en))
  plug_push [] d en r = refl
  plug_push (f ∷ fr) d en r = ap (λ x. then_do x f (goes_on d f)) (plug_push fr (inside w f d) en r)

  -- the start of a body stands for its run
  pub plug_start : (d : ℕ) (b : Stms) (n : ℕ) (st : St N) → plug w d (block_at n 0 (n + 1) b ∷ []) (Fin End.goes st)
      ≡ eval_block w (body_at w d) b n st
  plug_start d b n st = refl
