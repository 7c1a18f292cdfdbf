-- At each wait of a run, and of what is left of one, a `for` under way has taken no more elements than its list has.
use Rattle.std.proofs.Common.{◌≡◌, ℕ, zero, suc, ◌+◌, ◌≤◌, Bool, true, false, List, [], ◌∷◌, ◌++◌, map, length, reverse, Option, Some, None, Ok, Err}
use Rattle.std.proofs.Common.{nat_lt, nat_eq, ◌&&◌, pos, negsuc, subst, arith}
use Rattle.sky_base.specs.Val.{Val, Vals, Pairs, Desc, null, truth, num, text, list, dict, fun, ref, no_vals, val, no_pairs, count, vals_of, refs_to}
use Rattle.sky_base.specs.Op.{Answer, index, find, negated, opposite, len, keys, has, range, limited, set_at, grown, dict_from}
use Rattle.sky_base.specs.Tree.{Place, nowhere, Junction, Sign, SignAt, Form, Exp, Exps, Links, Ands, Steps, Stm, Stms, Arms, Else, FunDef, nodes}
use Rattle.sky_base.specs.Tree.{stm_nodes, block_nodes, arms_nodes}
use Rattle.sky_base.specs.Res.{visits, Object, End, St, Entry, parens_in, part_at, chain_first, chain_more, logic_at, prefix_part, star_wait}
use Rattle.sky_base.specs.Res.{postfix_first, index_at, arg_at, call_open, exec_wait, set_part, add_part, put_index, put_value, return_part}
use Rattle.sky_base.specs.Res.{just_part, arm_test, while_test, while_body, repeat_body, repeat_test, for_list, for_body, block_at, Wait, one_of}
use Rattle.sky_base.specs.Res.{all_of, Res, Fin, Tell, Ask, then_do, on_got, on_goes, with_vars, on_body, gives, counted, visited, visit, answer}
use Rattle.sky_base.specs.Res.{tell_all}
use Rattle.sky_base.specs.Eval.{left, go_while, go_repeat, eval_block, after, inside, plug, World, find_fun, is_one_of, Body, body_of, bind, set_var}
use Rattle.sky_base.specs.Eval.{lit_val, named, closed, oper, outputs, truth_of, decide, joins, add_to, put_in, turns, repeats, each, each_of}
use Rattle.sky_base.specs.Eval.{with_one, with_two, with_three, ask, wait_end, spawn_if, spawn_fun, spawn_list, spawned, outputs_if, outputs_count}
use Rattle.sky_base.specs.Eval.{outputs_of, exec_ask, input_if, input_of, formed, deref, signed, signs, call_if, call_fun, called, enter, eval}
use Rattle.sky_base.specs.Eval.{eval_parts, eval_links, eval_ands, eval_steps, eval_args, eval_stm, eval_stms, eval_arms, eval_else, in_body, body_at}
use Rattle.sky_base.specs.Read.{Halt, first_halt}
use Rattle.sky_machine_waits.specs.Taken.{TakenIn, AllTaken}

module _ {N : Type 0} (w : World N) where
  abbrev pub Takes : Res N → Type 0
  Takes (Fin e st) = Unit {0}
  Takes (Tell d r) = Unit {0} × Takes r
  Takes (Ask q fr st k) = AllTaken fr × ((os : List (Object N)) → Takes (k os))

  takes_then : (r : Res N) (en : Entry N) (k : End N → St N → Res N) → TakenIn en → Takes r → ((e : End N) (st : St N) → Takes (k e st))
      → Takes (then_do r en k)
  takes_then (Fin e st) en k i g h = h e st
  takes_then (Tell d r) en k i g h = (tt, takes_then r en k i g.1 h)
  takes_then (Ask q fr st p) en k i g h = ((i, g.0), λ os. takes_then (p os) en k i (g.1 os) h)

  got_each : (k : Val N → St N → Res N) → ((v : Val N) (st : St N) → Takes (k v st)) → (e : End N) (st : St N) → Takes (on_got k e st)
  got_each k h End.goes st = tt
  got_each k h (End.got v) st = h v st
  got_each k h (End.returned v) st = tt
  got_each k h (End.failed f) st = tt

  goes_each : (k : St N → Res N) → ((st : St N) → Takes (k st)) → (e : End N) (st : St N) → Takes (on_goes k e st)
  goes_each k h End.goes st = h st
  goes_each k h (End.got v) st = tt
  goes_each k h (End.returned v) st = tt
  goes_each k h (End.failed f) st = tt

  takes_got : (r : Res N) (en : Entry N) (k : Val N → St N → Res N) → TakenIn en → Takes r → ((v : Val N) (st : St N) → Takes (k v st))
      → Takes (then_do r en (on_got k))
  takes_got r en k i g h = takes_then r en (on_got k) i g (got_each k h)

  takes_goes : (r : Res N) (en : Entry N) (k : St N → Res N) → TakenIn en → Takes r → ((st : St N) → Takes (k st)) → Takes (then_do r en (on_goes k))
  takes_goes r en k i g h = takes_then r en (on_goes k) i g (goes_each k h)

  takes_ask : (q : Wait N) (en : Entry N) (st : St N) (k : Val N → St N → Res N) → TakenIn en → ((v : Val N) (s : St N) → Takes (k v s))
      → Takes (then_do (ask w q st) en (on_got k))
  takes_ask q en st k i h = ((i, tt), λ os. got_each k h (wait_end w q os) st)

  takes_body : (xs : Pairs N) (k : Val N → St N → Res N) → ((v : Val N) (st : St N) → Takes (k v st)) → (e : End N) (st : St N)
      → Takes (on_body xs k e st)
  takes_body xs k h End.goes st = h null (with_vars xs st)
  takes_body xs k h (End.got v) st = h v (with_vars xs st)
  takes_body xs k h (End.returned v) st = h v (with_vars xs st)
  takes_body xs k h (End.failed f) st = tt

  takes_visit : (p : Place) (st : St N) (k : St N → Res N) → ((s : St N) → Takes (k s)) → Takes (visit p st k)
  takes_visit p st k h = go (nat_lt st.count visits)
    where
      go : (b : Bool) → Takes (visited b p st k)
      go true = h (counted st)
      go false = tt

  takes_answer : (o : Answer N) (p : Place) (st : St N) (k : Val N → St N → Res N) → ((v : Val N) → Takes (k v st)) → Takes (answer o p st k)
  takes_answer (Ok v) p st k h = h v
  takes_answer (Err e) p st k h = tt

  takes_decide : (v : Val N) (p : Place) (st : St N) (on off : St N → Res N) → Takes (on st) → Takes (off st) → Takes (decide v p st on off)
  takes_decide (truth true) p st on off g h = g
  takes_decide (truth false) p st on off g h = h
  takes_decide null p st on off g h = tt
  takes_decide (num z) p st on off g h = tt
  takes_decide (text t) p st on off g h = tt
  takes_decide (list vs) p st on off g h = tt
  takes_decide (dict ps) p st on off g h = tt
  takes_decide (fun f c) p st on off g h = tt
  takes_decide (ref e) p st on off g h = tt

  takes_joins : (j : Junction) (v : Val N) (p : Place) (st : St N) (k : St N → Res N) → Takes (k st) → Takes (joins j v p st k)
  takes_joins Junction.both v p st k g = takes_decide v p st k _ g tt
  takes_joins Junction.either v p st k g = takes_decide v p st _ k tt g

  takes_add : (o : Option (Val N)) (x : List ℕ) (q p : Place) (e : Val N) (st : St N) → Takes (add_to o x q p e st)
  takes_add None x q p e st = tt
  takes_add (Some v) x q p e st = takes_answer (grown v e) p st _ (λ u. tt)

  takes_put : (o : Option (Val N)) (x : List ℕ) (q p : Place) (i e : Val N) (st : St N) → Takes (put_in o x q p i e st)
  takes_put None x q p i e st = tt
  takes_put (Some v) x q p i e st = takes_answer (set_at v i e) p st _ (λ u. tt)

  -- ---- forms of parts

  takes_spawn_if : (b : Bool) (d : Desc N) (p : Place) (st : St N) → Takes (spawn_if w b d p st)
  takes_spawn_if false d p st = tt
  takes_spawn_if true d p st = (tt, tt)

  takes_spawn_fun : (o : Option FunDef) (f : List ℕ) (c : Pairs N) (vs : Vals N) (p : Place) (st : St N) → Takes (spawn_fun w o f c vs p st)
  takes_spawn_fun None f c vs p st = tt
  takes_spawn_fun (Some x) f c vs p st = takes_spawn_if _ _ p st

  takes_spawn_list : (f : List ℕ) (c : Pairs N) (a : Val N) (p : Place) (st : St N) → Takes (spawn_list w f c a p st)
  takes_spawn_list f c (list vs) p st = takes_spawn_fun (find_fun f w.script.funs) f c vs p st
  takes_spawn_list f c null p st = tt
  takes_spawn_list f c (truth x) p st = tt
  takes_spawn_list f c (num z) p st = tt
  takes_spawn_list f c (text t) p st = tt
  takes_spawn_list f c (dict ps) p st = tt
  takes_spawn_list f c (fun g cb) p st = tt
  takes_spawn_list f c (ref e) p st = tt

  takes_spawned : (g a : Val N) (p : Place) (st : St N) → Takes (spawned w g a p st)
  takes_spawned (fun f c) a p st = takes_spawn_list f c a p st
  takes_spawned null a p st = tt
  takes_spawned (truth x) a p st = tt
  takes_spawned (num z) a p st = tt
  takes_spawned (text t) a p st = tt
  takes_spawned (list vs) a p st = tt
  takes_spawned (dict ps) a p st = tt
  takes_spawned (ref e) a p st = tt

  takes_tell : (ds : List (Desc N)) (r : Res N) → Takes r → Takes (tell_all ds r)
  takes_tell [] r g = g
  takes_tell (x ∷ ds) r g = (tt, takes_tell ds r g)

  module _ (k : List (Desc N) → St N → Res N) (g : (es : List (Desc N)) (st : St N) → Takes (k es st)) where
    takes_outputs_if : (b : Bool) (ds : List (Desc N)) (p : Place) (st : St N) → Takes (outputs_if w b ds p st k)
    takes_outputs_if false ds p st = tt
    takes_outputs_if true ds p st = takes_tell ds _ (g (map w.make ds) st)

    takes_outputs_count : (x : List ℕ) (a n : Val N) (p : Place) (st : St N) → Takes (outputs_count w x a n p st k)
    takes_outputs_count x a (num (pos n)) p st = takes_outputs_if (nat_lt 0 n && nat_lt n 65) (outputs x a n 0 n) p st
    takes_outputs_count x a (num (negsuc n)) p st = tt
    takes_outputs_count x a null p st = tt
    takes_outputs_count x a (truth b) p st = tt
    takes_outputs_count x a (text t) p st = tt
    takes_outputs_count x a (list vs) p st = tt
    takes_outputs_count x a (dict ps) p st = tt
    takes_outputs_count x a (fun f c) p st = tt
    takes_outputs_count x a (ref d) p st = tt

    takes_outputs : (x a n : Val N) (p : Place) (st : St N) → Takes (outputs_of w x a n p st k)
    takes_outputs (text x) a n p st = takes_outputs_count x a n p st
    takes_outputs null a n p st = tt
    takes_outputs (truth b) a n p st = tt
    takes_outputs (num z) a n p st = tt
    takes_outputs (list vs) a n p st = tt
    takes_outputs (dict ps) a n p st = tt
    takes_outputs (fun f c) a n p st = tt
    takes_outputs (ref d) a n p st = tt

  takes_input_if : (b : Bool) (k : List ℕ) (p : Place) (st : St N) → Takes (input_if w b k p st)
  takes_input_if false k p st = tt
  takes_input_if true k p st = (tt, tt)

  takes_input : (v : Val N) (p : Place) (st : St N) → Takes (input_of w v p st)
  takes_input (text k) p st = takes_input_if (is_one_of k w.script.keys) k p st
  takes_input null p st = tt
  takes_input (truth y) p st = tt
  takes_input (num z) p st = tt
  takes_input (list vs) p st = tt
  takes_input (dict ps) p st = tt
  takes_input (fun f c) p st = tt
  takes_input (ref e) p st = tt

  takes_one : (vs : List (Val N)) (p : Place) (st : St N) (k : Val N → Res N) → ((x : Val N) → Takes (k x)) → Takes (with_one vs p st k)
  takes_one [] p st k g = tt
  takes_one (x ∷ []) p st k g = g x
  takes_one (x ∷ y ∷ vs) p st k g = tt

  takes_two : (vs : List (Val N)) (p : Place) (st : St N) (k : Val N → Val N → Res N) → ((x y : Val N) → Takes (k x y)) → Takes (with_two vs p st k)
  takes_two [] p st k g = tt
  takes_two (x ∷ []) p st k g = tt
  takes_two (x ∷ y ∷ []) p st k g = g x y
  takes_two (x ∷ y ∷ z ∷ vs) p st k g = tt

  takes_three : (vs : List (Val N)) (p : Place) (st : St N) (k : Val N → Val N → Val N → Res N) → ((x y z : Val N) → Takes (k x y z))
      → Takes (with_three vs p st k)
  takes_three [] p st k g = tt
  takes_three (x ∷ []) p st k g = tt
  takes_three (x ∷ y ∷ []) p st k g = tt
  takes_three (x ∷ y ∷ z ∷ []) p st k g = g x y z
  takes_three (x ∷ y ∷ z ∷ u ∷ vs) p st k g = tt

  -- an `exec` whose outputs are made waits for them
  takes_exec : (n : ℕ) (ds : List (Desc N)) (st : St N) → Takes (exec_ask w n ds st)
  takes_exec n ds st = takes_ask (all_of ds) (exec_wait n ds) st gives tt (λ v s. tt)

  takes_formed : (o : Form) (vs : List (Val N)) (n : ℕ) (p : Place) (st : St N) → Takes (formed w o vs n p st)
  takes_formed Form.list vs n p st = takes_answer (limited (list (vals_of vs))) p st gives (λ v. tt)
  takes_formed Form.dict vs n p st = takes_answer (dict_from vs no_pairs) p st gives (λ v. tt)
  takes_formed Form.spawn vs n p st = takes_two vs p st _ (λ x y. takes_spawned x y p st)
  takes_formed Form.spawn_exec vs n p st =
      takes_three vs p st _ (λ x y z. takes_outputs (λ ds s. gives (list (refs_to ds)) s) (λ ds s. tt) x y z p st)
  takes_formed Form.exec vs n p st =
      takes_three vs p st _ (λ x y z. takes_outputs (λ ds s. exec_ask w n ds s) (λ ds s. takes_exec n ds s) x y z p st)
  takes_formed Form.ref vs n p st = takes_one vs p st _ (λ x. takes_input x p st)
  takes_formed Form.len vs n p st = takes_one vs p st _ (λ x. takes_answer (len x) p st gives (λ v. tt))
  takes_formed Form.keys vs n p st = takes_one vs p st _ (λ x. takes_answer (keys x) p st gives (λ v. tt))
  takes_formed Form.has vs n p st = takes_two vs p st _ (λ x y. takes_answer (has x y) p st gives (λ v. tt))
  takes_formed Form.range vs n p st = takes_two vs p st _ (λ x y. takes_answer (range x y) p st gives (λ v. tt))

  -- ---- signs

  takes_deref : (v : Val N) (n k : ℕ) (ss : List SignAt) (p : Place) (st : St N) (go : Val N → St N → Res N)
      → ((u : Val N) (t : St N) → Takes (go u t)) → Takes (deref w v n k ss p st go)
  takes_deref (ref d) n k ss p st go g = takes_ask (one_of p d) (star_wait n k d ss) st go tt g
  takes_deref null n k ss p st go g = tt
  takes_deref (truth y) n k ss p st go g = tt
  takes_deref (num z) n k ss p st go g = tt
  takes_deref (text t) n k ss p st go g = tt
  takes_deref (list vs) n k ss p st go g = tt
  takes_deref (dict ps) n k ss p st go g = tt
  takes_deref (fun h c) n k ss p st go g = tt

  takes_signed : (s : Sign) (v : Val N) (n k : ℕ) (ss : List SignAt) (p : Place) (st : St N) (go : Val N → St N → Res N)
      → ((u : Val N) (t : St N) → Takes (go u t)) → Takes (signed w s v n k ss p st go)
  takes_signed Sign.not v n k ss p st go g = takes_answer (opposite v) p st go (λ u. g u st)
  takes_signed Sign.minus v n k ss p st go g = takes_answer (negated v) p st go (λ u. g u st)
  takes_signed Sign.star v n k ss p st go g = takes_deref v n k ss p st go g

  takes_signs : (ss : List SignAt) (n k : ℕ) (v : Val N) (st : St N) → Takes (signs w ss n k v st)
  takes_signs [] n k v st = tt
  takes_signs (o ∷ ss) n k v st =
      takes_visit o.place st (λ s. signed w o.sign v n k ss o.place s (λ u t. signs w ss n (k + 1) u t))
      (λ s. takes_signed o.sign v n k ss o.place s _ (λ u t. takes_signs ss n (k + 1) u t))

  -- ---- calls

  takes_call_if : (b : Bool) (p : Place) (st : St N) (r : Res N) → Takes r → Takes (call_if w b p st r)
  takes_call_if false p st r g = tt
  takes_call_if true p st r g = g

  takes_call_fun : (o : Option FunDef) (vs : Vals N) (p : Place) (st : St N) (r : Res N) → Takes r → Takes (call_fun w o vs p st r)
  takes_call_fun None vs p st r g = tt
  takes_call_fun (Some x) vs p st r g = takes_call_if (nat_eq (length x.params) (count vs)) p st r g

  takes_called : (v : Val N) (vs : Vals N) (p : Place) (st : St N) (k : List ℕ → Pairs N → Res N) → ((f : List ℕ) (c : Pairs N) → Takes (k f c))
      → Takes (called w v vs p st k)
  takes_called (fun f c) vs p st k g = takes_call_fun (find_fun f w.script.funs) vs p st (k f c) (g f c)
  takes_called null vs p st k g = tt
  takes_called (truth y) vs p st k g = tt
  takes_called (num z) vs p st k g = tt
  takes_called (text t) vs p st k g = tt
  takes_called (list us) vs p st k g = tt
  takes_called (dict ps) vs p st k g = tt
  takes_called (ref e) vs p st k g = tt

  module _ (body : List ℕ → Pairs N → Vals N → Place → St N → Res N)
      (bodies_take : (f : List ℕ) (c : Pairs N) (vs : Vals N) (p : Place) (st : St N) → Takes (body f c vs p st)) where
    mutual
      takes_eval : (e : Exp) (n : ℕ) (st : St N) → Takes (eval w body e n st)
      takes_eval (Exp.literal v p) n st = takes_visit p st _ (λ s. takes_answer (limited (lit_val v)) p s gives (λ x. tt))
      takes_eval (Exp.name x p) n st = takes_visit p st (λ s. answer (named (find x s.vars) x w.script.funs) p s gives)
          (λ s. takes_answer (named (find x s.vars) x w.script.funs) p s gives (λ y. tt))
      takes_eval (Exp.func x p) n st = takes_visit p st (λ s. answer (closed (find_fun x w.script.funs) x s.vars) p s gives)
          (λ s. takes_answer (closed (find_fun x w.script.funs) x s.vars) p s gives (λ y. tt))
      takes_eval (Exp.parens e) n st = takes_got (eval w body e (n + 1) st) (parens_in n) gives tt (takes_eval e (n + 1) st) (λ v s. tt)
      takes_eval (Exp.parts o p es) n st = takes_parts es n 1 (n + 1) o p [] st
      takes_eval (Exp.chain e ls) n st =
          takes_got _ (chain_first n (n + 1 + nodes e) ls) _ tt (takes_eval e (n + 1) st) (λ v s. takes_links ls n 2 (n + 1 + nodes e) v s)
      takes_eval (Exp.logic j e ls) n st =
          takes_got _ (logic_at n 1 (n + 1 + nodes e) j nowhere ls) _ tt (takes_eval e (n + 1) st)
          (λ v s. takes_ands ls n 2 (n + 1 + nodes e) j nowhere v s)
      takes_eval (Exp.prefix ss e) n st =
          takes_got _ (prefix_part n (reverse ss)) _ tt (takes_eval e (n + 1) st) (λ v s. takes_signs (reverse ss) n 2 v s)
      takes_eval (Exp.postfix e ss) n st =
          takes_got _ (postfix_first n (n + 1 + nodes e) ss) _ tt (takes_eval e (n + 1) st) (λ v s. takes_steps ss n 2 (n + 1 + nodes e) v s)

      takes_parts : (es : Exps) (n k m : ℕ) (o : Form) (p : Place) (vs : List (Val N)) (st : St N) → Takes (eval_parts w body es n k m o p vs st)
      takes_parts Exps.no_exps n k m o p vs st = takes_visit p st (λ s. formed w o vs n p s) (λ s. takes_formed o vs n p s)
      takes_parts (Exps.exp e es) n k m o p vs st =
          takes_got _ (part_at n k (m + nodes e) o p vs es) _ tt (takes_eval e m st)
          (λ v s. takes_parts es n (k + 1) (m + nodes e) o p (vs ++ v ∷ []) s)

      takes_links : (ls : Links) (n k m : ℕ) (v : Val N) (st : St N) → Takes (eval_links w body ls n k m v st)
      takes_links Links.no_links n k m v st = tt
      takes_links (Links.link o p e ls) n k m v st =
          takes_got _ (chain_more n k (m + nodes e) o p v ls) _ tt (takes_eval e m st)
          (λ x s. takes_visit p s _ (λ t. takes_answer (oper o v x) p t _ (λ y. takes_links ls n (k + 1) (m + nodes e) y t)))

      takes_ands : (ls : Ands) (n k m : ℕ) (j : Junction) (q : Place) (v : Val N) (st : St N) → Takes (eval_ands w body ls n k m j q v st)
      takes_ands Ands.no_ands n k m j q v st = takes_answer (truth_of v) q st gives (λ x. tt)
      takes_ands (Ands.and p e ls) n k m j q v st =
          takes_visit p st _ (λ s. takes_joins j v p s _
          (takes_got _ (logic_at n k (m + nodes e) j p ls) _ tt (takes_eval e m s) (λ x u. takes_ands ls n (k + 1) (m + nodes e) j p x u)))

      takes_steps : (ss : Steps) (n k m : ℕ) (v : Val N) (st : St N) → Takes (eval_steps w body ss n k m v st)
      takes_steps Steps.no_steps n k m v st = tt
      takes_steps (Steps.index e p ss) n k m v st =
          takes_got _ (index_at n k (m + nodes e) p v ss) _ tt (takes_eval e m st)
          (λ x s. takes_visit p s _ (λ t. takes_answer (index v x) p t _ (λ y. takes_steps ss n (k + 1) (m + nodes e) y t)))
      takes_steps (Steps.call es p ss) n k m v st =
          takes_args es n k m p v [] ss st (λ l i y u. takes_steps ss n l i y u)

      takes_args : (es : Exps) (n k m : ℕ) (p : Place) (g : Val N) (vs : List (Val N)) (ss : Steps) (st : St N)
          → ((l i : ℕ) (y : Val N) (u : St N) → Takes (eval_steps w body ss n l i y u))
          → Takes (eval_args w body es n k m p g vs ss
          (λ l i f c us s. enter w body f c us p n l i ss s (λ y u. eval_steps w body ss n (l + 1) i y u)) st)
      takes_args Exps.no_exps n k m p g vs ss st steps =
          takes_visit p st _ (λ s. takes_called g (vals_of vs) p s _
          (λ x c. takes_then (body x c (vals_of vs) p s) (call_open n k m x s.vars ss)
          (on_body s.vars (λ y u. eval_steps w body ss n (k + 1) m y u)) tt (bodies_take x c (vals_of vs) p s)
          (takes_body s.vars _ (λ y u. steps (k + 1) m y u))))
      takes_args (Exps.exp e es) n k m p g vs ss st steps =
          takes_got _ (arg_at n k (m + nodes e) p g vs es ss) _ tt (takes_eval e m st)
          (λ v s. takes_args es n (k + 1) (m + nodes e) p g (vs ++ v ∷ []) ss s steps)

    -- ---- loops

    module _ (n m : ℕ) (p : Place) (blk : Stms) (run : St N → Res N) (run_takes : (st : St N) → Takes (run st)) where
      takes_turns : (f : ℕ) (e : Exp) (st : St N) → Takes (turns f n m p e blk (eval w body e (n + 1)) run st)
      takes_turns zero e st = tt
      takes_turns (suc f) e st =
          takes_got _ (while_test n m p e blk) _ tt (takes_eval e (n + 1) st)
          (λ v s. takes_decide v p s _ _ (takes_goes (run s) (while_body n m p e blk) _ tt (run_takes s) (λ z. takes_turns f e z)) tt)

      takes_repeats : (f : ℕ) (e : Exp) (st : St N) → Takes (repeats f n m p blk e run (eval w body e m) st)
      takes_repeats zero e st = tt
      takes_repeats (suc f) e st =
          takes_goes (run st) (repeat_body n m p blk e) _ tt (run_takes st)
          (λ s. takes_got _ (repeat_test n m p blk e) _ tt (takes_eval e m s) (λ v t. takes_decide v p t _ _ (takes_repeats f e t) tt))

      takes_each : (vs : Vals N) (t : ℕ) (x : List ℕ) (whole : Vals N) (st : St N) → count vs + t ≡ count whole
          → Takes (each vs n m t p x whole blk run st)
      takes_each no_vals t x whole st sum = tt
      takes_each (val v vs) t x whole st sum =
          takes_visit p st _ (λ s. takes_goes (run (set_var x v s)) (for_body n m (suc t) p x whole blk) _ (omega (arith, sum))
          (run_takes (set_var x v s)) (λ z. takes_each vs (suc t) x whole z (omega (arith, sum))))

      takes_each_of : (v : Val N) (x : List ℕ) (st : St N) → Takes (each_of v n m p x blk run st)
      takes_each_of (list vs) x st = takes_each vs 0 x vs st (omega arith)
      takes_each_of null x st = tt
      takes_each_of (truth b) x st = tt
      takes_each_of (num z) x st = tt
      takes_each_of (text t) x st = tt
      takes_each_of (dict ps) x st = tt
      takes_each_of (fun f c) x st = tt
      takes_each_of (ref d) x st = tt

    mutual
      takes_stm : (a : Stm) (n : ℕ) (st : St N) → Takes (eval_stm w body a n st)
      takes_stm (Stm.set x p e) n st =
          takes_visit p st _ (λ s. takes_got _ (set_part n x) _ tt (takes_eval e (n + 1) s) (λ v t. tt))
      takes_stm (Stm.add x q p e) n st =
          takes_visit p st _ (λ s. takes_got _ (add_part n x q p) (λ v t. add_to (find x t.vars) x q p v t) tt (takes_eval e (n + 1) s)
          (λ v t. takes_add (find x t.vars) x q p v t))
      takes_stm (Stm.put x q p i e) n st =
          takes_visit p st _ (λ s. takes_got _ (put_index n (n + 1 + nodes i) x q p e) _ tt (takes_eval i (n + 1) s)
          (λ v t. takes_got _ (put_value n x q p v) (λ y u. put_in (find x u.vars) x q p v y u) tt (takes_eval e (n + 1 + nodes i) t)
          (λ y u. takes_put (find x u.vars) x q p v y u)))
      takes_stm (Stm.return p e) n st =
          takes_visit p st _ (λ s. takes_got _ (return_part n) _ tt (takes_eval e (n + 1) s) (λ v t. tt))
      takes_stm (Stm.leave p) n st = takes_visit p st _ (λ s. tt)
      takes_stm (Stm.cases p arms els) n st =
          takes_visit p st _ (λ s. takes_arms arms n 1 (n + 1) (n + 1 + arms_nodes arms) els
          (λ t. eval_else w body els (n + 1 + arms_nodes arms) t) s (λ t. takes_else els (n + 1 + arms_nodes arms) t))
      takes_stm (Stm.while p e b) n st =
          takes_visit p st _ (λ s. takes_turns n (n + 1 + nodes e) p b _ (λ z. takes_stms b (n + 1 + nodes e) 0 (n + 1 + nodes e + 1) z)
          (suc visits) e s)
      takes_stm (Stm.repeat p b e) n st =
          takes_visit p st _ (λ s. takes_repeats n (n + 1 + block_nodes b) p b _ (λ z. takes_stms b (n + 1) 0 (n + 1 + 1) z) (suc visits) e s)
      takes_stm (Stm.for p x e b) n st =
          takes_visit p st _ (λ s. takes_got _ (for_list n (n + 1 + nodes e) p x b) _ tt (takes_eval e (n + 1) s)
          (λ v t. takes_each_of n (n + 1 + nodes e) p b (eval_stms w body b (n + 1 + nodes e) 0 (n + 1 + nodes e + 1))
          (λ z. takes_stms b (n + 1 + nodes e) 0 (n + 1 + nodes e + 1) z) v x t))
      takes_stm (Stm.just p e) n st =
          takes_visit p st _ (λ s. takes_got _ (just_part n) _ tt (takes_eval e (n + 1) s) (λ v t. tt))

      takes_stms : (b : Stms) (n k m : ℕ) (st : St N) → Takes (eval_stms w body b n k m st)
      takes_stms Stms.no_stms n k m st = tt
      takes_stms (Stms.stm a more) n k m st =
          takes_goes _ (block_at n (k + 1) (m + stm_nodes a) more) _ tt (takes_stm a m st) (λ s. takes_stms more n (k + 1) (m + stm_nodes a) s)

      takes_arms : (arms : Arms) (n k m i : ℕ) (els : Else) (go : St N → Res N) (st : St N) → ((s : St N) → Takes (go s))
          → Takes (eval_arms w body arms n k m i els go st)
      takes_arms Arms.no_arms n k m i els go st last = last st
      takes_arms (Arms.arm p e b arms) n k m i els go st last =
          takes_got _ (arm_test n k (m + nodes e) i p b arms els) _ tt (takes_eval e m st)
          (λ v s. takes_decide v p s _ _ (takes_stms b (m + nodes e) 0 (m + nodes e + 1) s)
          (takes_arms arms n (k + 1) (m + nodes e + block_nodes b) i els go s last))

      takes_else : (els : Else) (n : ℕ) (st : St N) → Takes (eval_else w body els n st)
      takes_else Else.no_else n st = tt
      takes_else (Else.otherwise b) n st = takes_stms b n 0 (n + 1) st

  -- ---- bodies

  takes_in_body : (o : Option Body) (c : Pairs N) (vs : Vals N) (p : Place) (st : St N) (run : Stms → ℕ → St N → Res N)
      → ((b : Stms) (n : ℕ) (s : St N) → Takes (run b n s)) → Takes (in_body w o c vs p st run)
  takes_in_body None c vs p st run g = tt
  takes_in_body (Some x) c vs p st run g = g x.block x.node (with_vars (bind x.params vs c) st)

  takes_call : (d : ℕ) (f : List ℕ) (c : Pairs N) (vs : Vals N) (p : Place) (st : St N) → Takes (body_at w d f c vs p st)
  takes_call zero f c vs p st = tt
  takes_call (suc d) f c vs p st =
      takes_in_body (body_of f w.script) c vs p st _ (λ b n s. takes_stms (body_at w d) (takes_call d) b n 0 (n + 1) s)

  -- ---- what is left of a run

  module _ (d : ℕ) where
    abbrev AfterTakes : Entry N → Type 0
    AfterTakes en = (e : End N) (st : St N) → Takes (after w (body_at w d) en e st)

    block : (b : Stms) (n : ℕ) (st : St N) → Takes (eval_block w (body_at w d) b n st)
    block b n st = takes_stms (body_at w d) (takes_call d) b n 0 (n + 1) st

    on_while : (n m : ℕ) (p : Place) (e : Exp) (b : Stms) (st : St N) → Takes (go_while w (body_at w d) n m p e b st)
    on_while n m p e b st = takes_turns (body_at w d) (takes_call d) n m p b _ (block b m) (suc visits) e st

    on_repeat : (n m : ℕ) (p : Place) (b : Stms) (e : Exp) (st : St N) → Takes (go_repeat w (body_at w d) n m p b e st)
    on_repeat n m p b e st = takes_repeats (body_at w d) (takes_call d) n m p b _ (block b (n + 1)) (suc visits) e st

    count_left : (t : ℕ) (vs : Vals N) → t ≤ count vs → count (left t vs) + t ≡ count vs
    count_left zero vs h = omega arith
    count_left (suc t) no_vals h = absurd (omega (arith, h))
    count_left (suc t) (val v vs) h = let more = count_left t vs (omega (arith, h)) in omega (arith, more)

    after_takes : (en : Entry N) → TakenIn en → AfterTakes en
    after_takes (parens_in n) i = got_each gives (λ v s. tt)
    after_takes (part_at n k m o p vs es) i = got_each _ (λ v s. takes_parts (body_at w d) (takes_call d) es n (k + 1) m o p (vs ++ v ∷ []) s)
    after_takes (chain_first n m ls) i = got_each _ (λ v s. takes_links (body_at w d) (takes_call d) ls n 2 m v s)
    after_takes (chain_more n k m o p v ls) i =
        got_each _ (λ x s. takes_visit p s _ (λ t. takes_answer (oper o v x) p t _
        (λ y. takes_links (body_at w d) (takes_call d) ls n (k + 1) m y t)))
    after_takes (logic_at n k m j q ls) i = got_each _ (λ v s. takes_ands (body_at w d) (takes_call d) ls n (k + 1) m j q v s)
    after_takes (prefix_part n ss) i = got_each _ (λ v s. takes_signs ss n 2 v s)
    after_takes (star_wait n k x ss) i = got_each _ (λ u t. takes_signs ss n (k + 1) u t)
    after_takes (postfix_first n m ss) i = got_each _ (λ v s. takes_steps (body_at w d) (takes_call d) ss n 2 m v s)
    after_takes (index_at n k m p v ss) i =
        got_each _ (λ x s. takes_visit p s _ (λ t. takes_answer (index v x) p t _ (λ y. takes_steps (body_at w d) (takes_call d) ss n (k + 1) m y t)))
    after_takes (arg_at n k m p g vs es ss) i =
        got_each _ (λ v s. takes_args (body_at w d) (takes_call d) es n (k + 1) m p g (vs ++ v ∷ []) ss s
        (λ l i y u. takes_steps (body_at w d) (takes_call d) ss n l i y u))
    after_takes (call_open n k m f xs ss) i = takes_body xs _ (λ y u. takes_steps (body_at w d) (takes_call d) ss n (k + 1) m y u)
    after_takes (exec_wait n ds) i = got_each gives (λ v s. tt)
    after_takes (set_part n x) i = got_each _ (λ v t. tt)
    after_takes (add_part n x q p) i = got_each (λ v t. add_to (find x t.vars) x q p v t) (λ v t. takes_add (find x t.vars) x q p v t)
    after_takes (put_index n m x q p e) i =
        got_each _ (λ v t. takes_got _ (put_value n x q p v) (λ y u. put_in (find x u.vars) x q p v y u) tt
        (takes_eval (body_at w d) (takes_call d) e m t) (λ y u. takes_put (find x u.vars) x q p v y u))
    after_takes (put_value n x q p v) i = got_each (λ y u. put_in (find x u.vars) x q p v y u) (λ y u. takes_put (find x u.vars) x q p v y u)
    after_takes (return_part n) i = got_each _ (λ v t. tt)
    after_takes (just_part n) i = got_each _ (λ v t. tt)
    after_takes (arm_test n k m j p b arms els) i =
        got_each _ (λ v s. takes_decide v p s _ _ (block b m s)
        (takes_arms (body_at w d) (takes_call d) arms n (k + 1) (m + block_nodes b) j els _ s
        (λ u. takes_else (body_at w d) (takes_call d) els j u)))
    after_takes (while_test n m p e b) i =
        got_each _ (λ v s. takes_decide v p s _ _ (takes_goes _ (while_body n m p e b) _ tt (block b m s) (λ z. on_while n m p e b z)) tt)
    after_takes (while_body n m p e b) i = goes_each _ (λ z. on_while n m p e b z)
    after_takes (repeat_body n m p b e) i =
        goes_each _ (λ s. takes_got _ (repeat_test n m p b e) _ tt (takes_eval (body_at w d) (takes_call d) e m s)
        (λ v t. takes_decide v p t _ _ (on_repeat n m p b e t) tt))
    after_takes (repeat_test n m p b e) i = got_each _ (λ v t. takes_decide v p t _ _ (on_repeat n m p b e t) tt)
    after_takes (for_list n m p x b) i = got_each _ (λ v t. takes_each_of (body_at w d) (takes_call d) n m p b _ (block b m) v x t)
    after_takes (for_body n m t p x vs b) i =
        goes_each _ (λ z. takes_each (body_at w d) (takes_call d) n m p b _ (block b m) (left t vs) t x vs z (count_left t vs i))
    after_takes (block_at n k m more) i = goes_each _ (λ s. takes_stms (body_at w d) (takes_call d) more n k m s)

  takes_rest : (d : ℕ) (fr : List (Entry N)) (r : Res N) → AllTaken fr → Takes r → Takes (plug w d fr r)
  takes_rest d [] r h g = g
  takes_rest d (en ∷ fr) r h g =
      takes_then (plug w (inside w en d) fr r) en (after w (body_at w d) en) h.0 (takes_rest (inside w en d) fr r h.1 g) (after_takes d en h.0)

  at_halt : (r : Res N) (h : Halt N) → Takes r → first_halt r ≡ Some h → AllTaken h.forms
  at_halt (Fin e st) h l is = absurd cc
  at_halt (Tell d r) h l is = at_halt r h l.1 is
  at_halt (Ask q fr st k) h l is = let same : fr ≡ h.forms = cc in subst AllTaken same l.0

  pub rest_taken : (d : ℕ) (fr : List (Entry N)) (e : End N) (st : St N) (h : Halt N) → AllTaken fr → first_halt (plug w d fr (Fin e st))
      ≡ Some h → AllTaken h.forms
  rest_taken d fr e st h taken is = at_halt (plug w d fr (Fin e st)) h (takes_rest d fr (Fin e st) taken tt) is
