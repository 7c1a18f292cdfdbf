-- Where the places of a script have a property, so has the place of each fault with which a run of one of its bodies ends.
use Rattle.std.proofs.Common.{ℕ, zero, suc, ◌+◌, Bool, true, false, ◌&&◌, List, [], ◌∷◌, ◌++◌, map, length, reverse, Option, Some, None, Ok, Err}
use Rattle.std.proofs.Common.{nat_lt, nat_eq, pos, negsuc, sym, subst}
use Rattle.std.proofs.lemmas.List.{reverse-append}
use Rattle.sky_base.specs.Val.{Val, Vals, Pairs, Desc, null, truth, num, text, list, dict, fun, ref, no_vals, val, no_pairs, call}
use Rattle.sky_base.specs.Val.{count, vals_of, same_text}
use Rattle.sky_base.specs.Op.{Answer, index, find, negated, opposite, len, keys, has, range, limited, set_at, grown, dict_from}
use Rattle.sky_base.specs.Tree.{Place, nowhere, Junction, Sign, SignAt, Form, Exp, Exps, Links, Ands, Steps, Stm, Stms, Arms, Else, FunDef}
use Rattle.sky_base.specs.Tree.{nodes, stm_nodes, block_nodes, arms_nodes}
use Rattle.sky_base.specs.Res.{visits, Object, End, St, Entry, parens_in, part_at, chain_first, chain_more, logic_at, prefix_part, star_wait}
use Rattle.sky_base.specs.Res.{postfix_first, index_at, arg_at, call_open, exec_wait, set_part, add_part, put_index, put_value, return_part}
use Rattle.sky_base.specs.Res.{just_part, arm_test, while_test, while_body, repeat_body, repeat_test, for_list, for_body, block_at, Wait, one_of}
use Rattle.sky_base.specs.Res.{Res, Fin, Tell, Ask, then_do, on_got, on_goes, with_vars, on_body, fails, gives, counted, visited, visit, answer, tell_all}
use Rattle.sky_base.specs.Eval.{World, find_fun, find_body, find_body_if, is_one_of, Body, body_of, bind, set_var, lit_val, named, closed, oper}
use Rattle.sky_base.specs.Eval.{exec_end, read_end, outputs, truth_of, decide, joins, add_to, put_in, turns, repeats, each, each_of, with_one}
use Rattle.sky_base.specs.Eval.{with_two, with_three, wait_end, spawn_if, spawn_fun, spawn_list, spawned, outputs_if, outputs_count}
use Rattle.sky_base.specs.Eval.{outputs_of, exec_ask, input_if, input_of, formed, deref, signed, signs, call_if, call_fun, called, enter, eval}
use Rattle.sky_base.specs.Eval.{eval_parts, eval_links, eval_ands, eval_steps, eval_args, eval_stm, eval_stms, eval_arms, eval_else, in_body, body_at}
use Rattle.sky_base.specs.declared.fault.Fault.{Fault}
use Rattle.sky_base.specs.declared.fault.FaultKind.{FaultKind}
use Rattle.sky_base_law.specs.Tasks.{Each}
use Rattle.sky_parse_places.specs.Placed.{AndsPlaced, ArmsPlaced, ElsePlaced, ExpPlaced, ExpsPlaced, LinksPlaced, Placed, SignsPlaced, StepsPlaced, StmPlaced}
use Rattle.sky_parse_places.specs.Placed.{StmsPlaced}

module _ {A : Type 0} (P : A → Type 0) where
  each_join : (xs ys : List A) → Each P xs → Each P ys → Each P (xs ++ ys)
  each_join [] ys h i = i
  each_join (x ∷ xs) ys h i = (h.0, each_join xs ys h.1 i)

  each_reverse : (xs : List A) → Each P xs → Each P (reverse xs)
  each_reverse [] h = tt
  each_reverse (x ∷ xs) h =
      subst (Each P) (sym (reverse-append (x ∷ []) xs)) (each_join (reverse xs) (x ∷ []) (each_reverse xs h.1) (h.0, tt))

-- w is what a run is run with, and P what holds of the places
module _ {N : Type 0} (w : World N) (P : Place → Type 0) where
  -- of a fault's place
  abbrev pub FaultPlaced : Fault → Type 0
  FaultPlaced f = P (record { line = f.line; col = f.col })

  abbrev pub ObjectPlaced : Object N → Type 0
  ObjectPlaced (Object.bytes b) = Unit {0}
  ObjectPlaced (Object.data_of v) = Unit {0}
  ObjectPlaced (Object.fault f) = FaultPlaced f

  abbrev pub EndPlaced : End N → Type 0
  EndPlaced End.goes = Unit {0}
  EndPlaced (End.got v) = Unit {0}
  EndPlaced (End.returned v) = Unit {0}
  EndPlaced (End.failed f) = FaultPlaced f

  -- of each end, where it holds of the faults that are seen
  pub RunPlaced : Res N → Type 0
  RunPlaced (Fin e st) = EndPlaced e
  RunPlaced (Tell o r) = RunPlaced r
  RunPlaced (Ask q fr st k) = (os : List (Object N)) → Each ObjectPlaced os → RunPlaced (k os)

  -- ---- the forms

  fails_placed : (k : FaultKind) (p : Place) (st : St N) → P p → RunPlaced (fails k p st)
  unfolding RunPlaced
  fails_placed k p st l = l

  ends_placed : (e : End N) (st : St N) → EndPlaced e → RunPlaced (Fin e st)
  unfolding RunPlaced
  ends_placed e st h = h

  -- how a run ends
  pub end_placed : (e : End N) (st : St N) → RunPlaced (Fin e st) → EndPlaced e
  unfolding RunPlaced
  end_placed e st h = h

  pub told_placed : (o : Desc N) (r : Res N) → RunPlaced (Tell o r) → RunPlaced r
  unfolding RunPlaced
  told_placed o r h = h

  pub asked_placed : (q : Wait N) (fr : List (Entry N)) (st : St N) (k : List (Object N) → Res N) → RunPlaced (Ask q fr st k) → (os : List (Object N))
      → Each ObjectPlaced os → RunPlaced (k os)
  unfolding RunPlaced
  asked_placed q fr st k h = h

  then_placed : (r : Res N) (en : Entry N) (k : End N → St N → Res N) → RunPlaced r → ((e : End N) (st : St N) → EndPlaced e → RunPlaced (k e st))
      → RunPlaced (then_do r en k)
  unfolding RunPlaced
  then_placed (Fin e st) en k g h = h e st g
  then_placed (Tell o r) en k g h = then_placed r en k g h
  then_placed (Ask q fr st c) en k g h = λ os o. then_placed (c os) en k (g os o) h

  got_placed : (r : Res N) (en : Entry N) (k : Val N → St N → Res N) → RunPlaced r → ((v : Val N) (st : St N) → RunPlaced (k v st))
      → RunPlaced (then_do r en (on_got k))
  unfolding RunPlaced
  got_placed r en k g h = then_placed r en (on_got k) g pass
    where
      pass : (e : End N) (st : St N) → EndPlaced e → RunPlaced (on_got k e st)
      pass End.goes st o = tt
      pass (End.got v) st o = h v st
      pass (End.returned v) st o = tt
      pass (End.failed f) st o = o

  goes_placed : (r : Res N) (en : Entry N) (k : St N → Res N) → RunPlaced r → ((st : St N) → RunPlaced (k st)) → RunPlaced (then_do r en (on_goes k))
  unfolding RunPlaced
  goes_placed r en k g h = then_placed r en (on_goes k) g pass
    where
      pass : (e : End N) (st : St N) → EndPlaced e → RunPlaced (on_goes k e st)
      pass End.goes st o = h st
      pass (End.got v) st o = tt
      pass (End.returned v) st o = tt
      pass (End.failed f) st o = o

  body_placed : (xs : Pairs N) (k : Val N → St N → Res N) → ((v : Val N) (st : St N) → RunPlaced (k v st)) → (e : End N) (st : St N) → EndPlaced e
      → RunPlaced (on_body xs k e st)
  unfolding RunPlaced
  body_placed xs k g End.goes st o = g null (with_vars xs st)
  body_placed xs k g (End.got v) st o = g v (with_vars xs st)
  body_placed xs k g (End.returned v) st o = g v (with_vars xs st)
  body_placed xs k g (End.failed f) st o = o

  visit_placed : (p : Place) (st : St N) (k : St N → Res N) → P p → RunPlaced (k (counted st)) → RunPlaced (visit p st k)
  unfolding RunPlaced
  visit_placed p st k l g = go (nat_lt st.count visits)
    where
      go : (b : Bool) → RunPlaced (visited b p st k)
      go true = g
      go false = l

  answer_placed : (o : Answer N) (p : Place) (st : St N) (k : Val N → St N → Res N) → P p → ((v : Val N) → RunPlaced (k v st))
      → RunPlaced (answer o p st k)
  unfolding RunPlaced
  answer_placed (Ok v) p st k l g = g v
  answer_placed (Err e) p st k l g = l

  gives_placed : (o : Answer N) (p : Place) (st : St N) → P p → RunPlaced (answer o p st gives)
  unfolding RunPlaced
  gives_placed o p st l = answer_placed o p st gives l (λ v. tt)

  decide_placed : (v : Val N) (p : Place) (st : St N) (on off : St N → Res N) → P p → RunPlaced (on st) → RunPlaced (off st)
      → RunPlaced (decide v p st on off)
  unfolding RunPlaced
  decide_placed (truth true) p st on off l g h = g
  decide_placed (truth false) p st on off l g h = h
  decide_placed null p st on off l g h = l
  decide_placed (num z) p st on off l g h = l
  decide_placed (text t) p st on off l g h = l
  decide_placed (list vs) p st on off l g h = l
  decide_placed (dict ps) p st on off l g h = l
  decide_placed (fun f ca) p st on off l g h = l
  decide_placed (ref x) p st on off l g h = l

  joins_placed : (j : Junction) (v : Val N) (p : Place) (st : St N) (k : St N → Res N) → P p → RunPlaced (k st) → RunPlaced (joins j v p st k)
  unfolding RunPlaced
  joins_placed Junction.both v p st k l g = decide_placed v p st k _ l g tt
  joins_placed Junction.either v p st k l g = decide_placed v p st _ k l tt g

  -- ---- waits

  end_read : (o : Answer N) (p : Place) → P p → EndPlaced (read_end o p)
  end_read (Ok v) p l = tt
  end_read (Err k) p l = l

  end_one : (p : Place) (x : Desc N) (os : List (Object N)) → P p → Each ObjectPlaced os → EndPlaced (wait_end w (one_of p x) os)
  end_one p x [] l h = tt
  end_one p x (Object.bytes b ∷ os) l h = end_read (w.reads b) p l
  end_one p x (Object.data_of v ∷ os) l h = tt
  end_one p x (Object.fault f ∷ os) l h = h.0

  end_exec : (ds : List (Desc N)) (os : List (Object N)) → Each ObjectPlaced os → EndPlaced (exec_end ds os)
  end_exec ds [] h = tt
  end_exec ds (Object.bytes b ∷ os) h = end_exec ds os h.1
  end_exec ds (Object.data_of v ∷ os) h = end_exec ds os h.1
  end_exec ds (Object.fault f ∷ os) h = h.0

  -- ---- parts of a form, and the words that make descriptions

  module _ (p : Place) (l : P p) (st : St N) where
    one_placed : (vs : List (Val N)) (k : Val N → Res N) → ((a : Val N) → RunPlaced (k a)) → RunPlaced (with_one vs p st k)
    unfolding RunPlaced
    one_placed [] k g = l
    one_placed (x ∷ []) k g = g x
    one_placed (x ∷ y ∷ vs) k g = l

    two_placed : (vs : List (Val N)) (k : Val N → Val N → Res N) → ((a b : Val N) → RunPlaced (k a b)) → RunPlaced (with_two vs p st k)
    unfolding RunPlaced
    two_placed [] k g = l
    two_placed (x ∷ []) k g = l
    two_placed (x ∷ y ∷ []) k g = g x y
    two_placed (x ∷ y ∷ z ∷ vs) k g = l

    three_placed : (vs : List (Val N)) (k : Val N → Val N → Val N → Res N) → ((a b c : Val N) → RunPlaced (k a b c)) → RunPlaced (with_three vs p st k)
    unfolding RunPlaced
    three_placed [] k g = l
    three_placed (x ∷ []) k g = l
    three_placed (x ∷ y ∷ []) k g = l
    three_placed (x ∷ y ∷ z ∷ []) k g = g x y z
    three_placed (x ∷ y ∷ z ∷ u ∷ vs) k g = l

    tell_placed : (ds : List (Desc N)) (r : Res N) → RunPlaced r → RunPlaced (tell_all ds r)
    unfolding RunPlaced
    tell_placed [] r g = g
    tell_placed (d ∷ ds) r g = tell_placed ds r g

    spawn_if_placed : (b : Bool) (d : Desc N) → RunPlaced (spawn_if w b d p st)
    unfolding RunPlaced
    spawn_if_placed false d = l
    spawn_if_placed true d = tt

    spawn_fun_placed : (o : Option FunDef) (f : List ℕ) (ca : Pairs N) (vs : Vals N) → RunPlaced (spawn_fun w o f ca vs p st)
    unfolding RunPlaced
    spawn_fun_placed None f ca vs = l
    spawn_fun_placed (Some x) f ca vs = spawn_if_placed (nat_eq (length x.params) (count vs)) (call f ca vs)

    spawn_list_placed : (f : List ℕ) (ca : Pairs N) (a : Val N) → RunPlaced (spawn_list w f ca a p st)
    unfolding RunPlaced
    spawn_list_placed f ca (list vs) = spawn_fun_placed (find_fun f w.script.funs) f ca vs
    spawn_list_placed f ca null = l
    spawn_list_placed f ca (truth b) = l
    spawn_list_placed f ca (num y) = l
    spawn_list_placed f ca (text t) = l
    spawn_list_placed f ca (dict ps) = l
    spawn_list_placed f ca (fun g cb) = l
    spawn_list_placed f ca (ref x) = l

    spawned_placed : (g a : Val N) → RunPlaced (spawned w g a p st)
    unfolding RunPlaced
    spawned_placed (fun f ca) a = spawn_list_placed f ca a
    spawned_placed null a = l
    spawned_placed (truth b) a = l
    spawned_placed (num y) a = l
    spawned_placed (text t) a = l
    spawned_placed (list vs) a = l
    spawned_placed (dict ps) a = l
    spawned_placed (ref x) a = l

    module _ (k : List (Desc N) → St N → Res N) (g : (es : List (Desc N)) → RunPlaced (k es st)) where
      outputs_if_placed : (b : Bool) (ds : List (Desc N)) → RunPlaced (outputs_if w b ds p st k)
      unfolding RunPlaced
      outputs_if_placed false ds = l
      outputs_if_placed true ds = tell_placed ds _ (g (map w.make ds))

      outputs_count_placed : (x : List ℕ) (a n : Val N) → RunPlaced (outputs_count w x a n p st k)
      unfolding RunPlaced
      outputs_count_placed x a (num (pos n)) = outputs_if_placed (nat_lt 0 n && nat_lt n 65) (outputs x a n 0 n)
      outputs_count_placed x a (num (negsuc n)) = l
      outputs_count_placed x a null = l
      outputs_count_placed x a (truth b) = l
      outputs_count_placed x a (text t) = l
      outputs_count_placed x a (list vs) = l
      outputs_count_placed x a (dict ps) = l
      outputs_count_placed x a (fun f ca) = l
      outputs_count_placed x a (ref y) = l

      outputs_placed : (x a n : Val N) → RunPlaced (outputs_of w x a n p st k)
      unfolding RunPlaced
      outputs_placed (text x) a n = outputs_count_placed x a n
      outputs_placed null a n = l
      outputs_placed (truth b) a n = l
      outputs_placed (num z) a n = l
      outputs_placed (list vs) a n = l
      outputs_placed (dict ps) a n = l
      outputs_placed (fun f ca) a n = l
      outputs_placed (ref y) a n = l

    exec_placed : (n : ℕ) (ds : List (Desc N)) → RunPlaced (exec_ask w n ds st)
    unfolding RunPlaced
    exec_placed n ds = λ os o. got_placed (Fin (exec_end ds os) st) (exec_wait n ds) gives (end_exec ds os o) (λ v s. tt)

    input_if_placed : (b : Bool) (k : List ℕ) → RunPlaced (input_if w b k p st)
    unfolding RunPlaced
    input_if_placed false k = l
    input_if_placed true k = tt

    input_placed : (v : Val N) → RunPlaced (input_of w v p st)
    unfolding RunPlaced
    input_placed (text k) = input_if_placed (is_one_of k w.script.keys) k
    input_placed null = l
    input_placed (truth b) = l
    input_placed (num z) = l
    input_placed (list vs) = l
    input_placed (dict ps) = l
    input_placed (fun f ca) = l
    input_placed (ref x) = l

    formed_placed : (o : Form) (vs : List (Val N)) (n : ℕ) → RunPlaced (formed w o vs n p st)
    formed_placed Form.list vs n = gives_placed (limited (list (vals_of vs))) p st l
    formed_placed Form.dict vs n = gives_placed (dict_from vs no_pairs) p st l
    formed_placed Form.spawn vs n = two_placed vs _ (λ x y. spawned_placed x y)
    formed_placed Form.spawn_exec vs n = three_placed vs _ (λ x y z. outputs_placed _ (λ es. ends_placed _ _ tt) x y z)
    formed_placed Form.exec vs n = three_placed vs _ (λ x y z. outputs_placed _ (λ es. exec_placed n es) x y z)
    formed_placed Form.ref vs n = one_placed vs _ (λ x. input_placed x)
    formed_placed Form.len vs n = one_placed vs _ (λ x. gives_placed (len x) p st l)
    formed_placed Form.keys vs n = one_placed vs _ (λ x. gives_placed (keys x) p st l)
    formed_placed Form.has vs n = two_placed vs _ (λ x y. gives_placed (has x y) p st l)
    formed_placed Form.range vs n = two_placed vs _ (λ x y. gives_placed (range x y) p st l)

    deref_placed : (v : Val N) (n k : ℕ) (ss : List SignAt) (go : Val N → St N → Res N) → ((u : Val N) (t : St N) → RunPlaced (go u t))
        → RunPlaced (deref w v n k ss p st go)
    unfolding RunPlaced
    deref_placed (ref x) n k ss go g =
        λ os o. got_placed (Fin (wait_end w (one_of p x) os) st) (star_wait n k x ss) go (end_one p x os l o) g
    deref_placed null n k ss go g = l
    deref_placed (truth b) n k ss go g = l
    deref_placed (num z) n k ss go g = l
    deref_placed (text t) n k ss go g = l
    deref_placed (list vs) n k ss go g = l
    deref_placed (dict ps) n k ss go g = l
    deref_placed (fun f ca) n k ss go g = l

    signed_placed : (s : Sign) (v : Val N) (n k : ℕ) (ss : List SignAt) (go : Val N → St N → Res N) → ((u : Val N) (t : St N) → RunPlaced (go u t))
        → RunPlaced (signed w s v n k ss p st go)
    signed_placed Sign.not v n k ss go g = answer_placed (opposite v) p st go l (λ u. g u st)
    signed_placed Sign.minus v n k ss go g = answer_placed (negated v) p st go l (λ u. g u st)
    signed_placed Sign.star v n k ss go g = deref_placed v n k ss go g

    call_if_placed : (b : Bool) (r : Res N) → RunPlaced r → RunPlaced (call_if w b p st r)
    unfolding RunPlaced
    call_if_placed false r g = l
    call_if_placed true r g = g

    call_fun_placed : (o : Option FunDef) (vs : Vals N) (r : Res N) → RunPlaced r → RunPlaced (call_fun w o vs p st r)
    unfolding RunPlaced
    call_fun_placed None vs r g = l
    call_fun_placed (Some x) vs r g = call_if_placed (nat_eq (length x.params) (count vs)) r g

    called_placed : (v : Val N) (vs : Vals N) (k : List ℕ → Pairs N → Res N) → ((f : List ℕ) (ca : Pairs N) → RunPlaced (k f ca))
        → RunPlaced (called w v vs p st k)
    unfolding RunPlaced
    called_placed (fun f ca) vs k g = call_fun_placed (find_fun f w.script.funs) vs (k f ca) (g f ca)
    called_placed null vs k g = l
    called_placed (truth b) vs k g = l
    called_placed (num z) vs k g = l
    called_placed (text t) vs k g = l
    called_placed (list us) vs k g = l
    called_placed (dict ps) vs k g = l
    called_placed (ref x) vs k g = l

  signs_placed : (ss : List SignAt) → SignsPlaced P ss → (n k : ℕ) (v : Val N) (st : St N) → RunPlaced (signs w ss n k v st)
  unfolding RunPlaced
  signs_placed [] h n k v st = tt
  signs_placed (o ∷ ss) h n k v st =
      visit_placed o.place st _ h.0 (signed_placed o.place h.0 (counted st) o.sign v n k ss _ (λ u t. signs_placed ss h.1 n (k + 1) u t))

  add_placed : (o : Option (Val N)) (x : List ℕ) (q p : Place) → P q → P p → (e : Val N) (st : St N) → RunPlaced (add_to o x q p e st)
  unfolding RunPlaced
  add_placed None x q p k l e st = k
  add_placed (Some v) x q p k l e st = answer_placed (grown v e) p st _ l (λ u. tt)

  put_placed : (o : Option (Val N)) (x : List ℕ) (q p : Place) → P q → P p → (i e : Val N) (st : St N) → RunPlaced (put_in o x q p i e st)
  unfolding RunPlaced
  put_placed None x q p k l i e st = k
  put_placed (Some v) x q p k l i e st = answer_placed (set_at v i e) p st _ l (λ u. tt)

  -- ---- expressions and statements, where a call's body is so

  module _ (none : P nowhere) (body : List ℕ → Pairs N → Vals N → Place → St N → Res N)
      (enters : (f : List ℕ) (ca : Pairs N) (vs : Vals N) (p : Place) → P p → (st : St N) → RunPlaced (body f ca vs p st)) where
    enter_placed : (f : List ℕ) (ca : Pairs N) (vs : Vals N) (p : Place) → P p → (n k m : ℕ) (ss : Steps) (st : St N) (go : Val N → St N → Res N)
        → ((y : Val N) (u : St N) → RunPlaced (go y u)) → RunPlaced (enter w body f ca vs p n k m ss st go)
    enter_placed f ca vs p l n k m ss st go g =
        then_placed (body f ca vs p st) (call_open n k m f st.vars ss) (on_body st.vars go) (enters f ca vs p l st) (body_placed st.vars go g)

    mutual
      eval_placed : (e : Exp) → ExpPlaced P e → (n : ℕ) (st : St N) → RunPlaced (eval w body e n st)
      eval_placed (Exp.literal v p) o n st = visit_placed p st _ o (gives_placed (limited (lit_val v)) p (counted st) o)
      eval_placed (Exp.name x p) o n st = visit_placed p st (λ s. answer (named (find x s.vars) x w.script.funs) p s gives) o
          (gives_placed (named (find x st.vars) x w.script.funs) p (counted st) o)
      eval_placed (Exp.func x p) o n st = visit_placed p st (λ s. answer (closed (find_fun x w.script.funs) x s.vars) p s gives) o
          (gives_placed (closed (find_fun x w.script.funs) x st.vars) p (counted st) o)
      eval_placed (Exp.parens e) o n st = got_placed (eval w body e (n + 1) st) (parens_in n) gives (eval_placed e o (n + 1) st) (λ v s. ends_placed _ _ tt)
      eval_placed (Exp.parts f p es) o n st = parts_placed es o.1 p o.0 n 1 (n + 1) f [] st
      eval_placed (Exp.chain e ls) o n st =
          got_placed _ (chain_first n (n + 1 + nodes e) ls) _ (eval_placed e o.0 (n + 1) st) (λ v s. links_placed ls o.1 n 2 (n + 1 + nodes e) v s)
      eval_placed (Exp.logic j e ls) o n st = got_placed _ (logic_at n 1 (n + 1 + nodes e) j nowhere ls) _ (eval_placed e o.0 (n + 1) st)
          (λ v s. ands_placed ls o.1 nowhere none n 2 (n + 1 + nodes e) j v s)
      eval_placed (Exp.prefix ss e) o n st = got_placed _ (prefix_part n (reverse ss)) _ (eval_placed e o.1 (n + 1) st)
          (λ v s. signs_placed (reverse ss) (each_reverse (λ s. P s.place) ss o.0) n 2 v s)
      eval_placed (Exp.postfix e ss) o n st =
          got_placed _ (postfix_first n (n + 1 + nodes e) ss) _ (eval_placed e o.0 (n + 1) st) (λ v s. steps_placed ss o.1 n 2 (n + 1 + nodes e) v s)

      parts_placed : (es : Exps) → ExpsPlaced P es → (p : Place) → P p → (n k m : ℕ) (o : Form) (vs : List (Val N)) (st : St N)
          → RunPlaced (eval_parts w body es n k m o p vs st)
      parts_placed Exps.no_exps h p l n k m o vs st = visit_placed p st _ l (formed_placed p l (counted st) o vs n)
      parts_placed (Exps.exp e es) h p l n k m o vs st = got_placed _ (part_at n k (m + nodes e) o p vs es) _ (eval_placed e h.0 m st)
          (λ v s. parts_placed es h.1 p l n (k + 1) (m + nodes e) o (vs ++ v ∷ []) s)

      links_placed : (ls : Links) → LinksPlaced P ls → (n k m : ℕ) (v : Val N) (st : St N) → RunPlaced (eval_links w body ls n k m v st)
      links_placed Links.no_links h n k m v st = ends_placed _ _ tt
      links_placed (Links.link o p e ls) h n k m v st = got_placed _ (chain_more n k (m + nodes e) o p v ls) _ (eval_placed e h.1 m st)
          (λ x s. visit_placed p s _ h.0 (answer_placed (oper o v x) p (counted s) _ h.0 (λ y. links_placed ls h.2 n (k + 1) (m + nodes e) y (counted s))))

      ands_placed : (ls : Ands) → AndsPlaced P ls → (q : Place) → P q → (n k m : ℕ) (j : Junction) (v : Val N) (st : St N)
          → RunPlaced (eval_ands w body ls n k m j q v st)
      ands_placed Ands.no_ands h q i n k m j v st = gives_placed (truth_of v) q st i
      ands_placed (Ands.and p e ls) h q i n k m j v st =
          visit_placed p st _ h.0 (joins_placed j v p (counted st) _ h.0
          (got_placed _ (logic_at n k (m + nodes e) j p ls) _ (eval_placed e h.1 m (counted st)) (λ x u. ands_placed ls h.2 p h.0 n (k + 1) (m + nodes e) j x u)))

      steps_placed : (ss : Steps) → StepsPlaced P ss → (n k m : ℕ) (v : Val N) (st : St N) → RunPlaced (eval_steps w body ss n k m v st)
      steps_placed Steps.no_steps h n k m v st = ends_placed _ _ tt
      steps_placed (Steps.index e p ss) h n k m v st = got_placed _ (index_at n k (m + nodes e) p v ss) _ (eval_placed e h.1 m st)
          (λ x s. visit_placed p s _ h.0 (answer_placed (index v x) p (counted s) _ h.0 (λ y. steps_placed ss h.2 n (k + 1) (m + nodes e) y (counted s))))
      steps_placed (Steps.call es p ss) h n k m v st = args_placed es h.1 p h.0 n k m v [] ss st (λ i j y u. steps_placed ss h.2 n i j y u)

      args_placed : (es : Exps) → ExpsPlaced P es → (p : Place) → P p → (n k m : ℕ) (g : Val N) (vs : List (Val N)) (ss : Steps) (st : St N)
          → ((i j : ℕ) (y : Val N) (u : St N) → RunPlaced (eval_steps w body ss n i j y u))
          → RunPlaced (eval_args w body es n k m p g vs ss (λ i j f c us s. enter w body f c us p n i j ss s (λ y u. eval_steps w body ss n (i + 1) j y u)) st)
      args_placed Exps.no_exps h p l n k m g vs ss st steps =
          visit_placed p st _ l (called_placed p l (counted st) g (vals_of vs) _
          (λ f ca. enter_placed f ca (vals_of vs) p l n k m ss (counted st) _ (λ y u. steps (k + 1) m y u)))
      args_placed (Exps.exp e es) h p l n k m g vs ss st steps = got_placed _ (arg_at n k (m + nodes e) p g vs es ss) _ (eval_placed e h.0 m st)
          (λ v s. args_placed es h.1 p l n (k + 1) (m + nodes e) g (vs ++ v ∷ []) ss s steps)

    module _ (n m : ℕ) (p : Place) (l : P p) (blk : Stms) (run : St N → Res N) (run_placed : (st : St N) → RunPlaced (run st)) where
      turns_placed : (f : ℕ) (e : Exp) → ExpPlaced P e → (st : St N) → RunPlaced (turns f n m p e blk (eval w body e (n + 1)) run st)
      turns_placed zero e o st = fails_placed _ p st l
      turns_placed (suc f) e o st = got_placed _ (while_test n m p e blk) _ (eval_placed e o (n + 1) st)
          (λ v s. decide_placed v p s _ _ l (goes_placed (run s) (while_body n m p e blk) _ (run_placed s) (λ z. turns_placed f e o z)) (ends_placed _ _ tt))

      repeats_placed : (f : ℕ) (e : Exp) → ExpPlaced P e → (st : St N) → RunPlaced (repeats f n m p blk e run (eval w body e m) st)
      repeats_placed zero e o st = fails_placed _ p st l
      repeats_placed (suc f) e o st = goes_placed (run st) (repeat_body n m p blk e) _ (run_placed st)
          (λ s. got_placed _ (repeat_test n m p blk e) _ (eval_placed e o m s) (λ v t. decide_placed v p t _ _ l (repeats_placed f e o t) (ends_placed _ _ tt)))

      each_placed : (vs : Vals N) (t : ℕ) (x : List ℕ) (whole : Vals N) (st : St N) → RunPlaced (each vs n m t p x whole blk run st)
      each_placed no_vals t x whole st = ends_placed _ _ tt
      each_placed (val v vs) t x whole st = visit_placed p st _ l
          (goes_placed (run (set_var x v (counted st))) (for_body n m (suc t) p x whole blk) _ (run_placed (set_var x v (counted st)))
          (λ z. each_placed vs (suc t) x whole z))

      each_of_placed : (v : Val N) (x : List ℕ) (st : St N) → RunPlaced (each_of v n m p x blk run st)
      each_of_placed (list vs) x st = each_placed vs 0 x vs st
      each_of_placed null x st = fails_placed _ p st l
      each_of_placed (truth b) x st = fails_placed _ p st l
      each_of_placed (num z) x st = fails_placed _ p st l
      each_of_placed (text t) x st = fails_placed _ p st l
      each_of_placed (dict ps) x st = fails_placed _ p st l
      each_of_placed (fun f ca) x st = fails_placed _ p st l
      each_of_placed (ref y) x st = fails_placed _ p st l

    mutual
      stm_placed : (a : Stm) → StmPlaced P a → (n : ℕ) (st : St N) → RunPlaced (eval_stm w body a n st)
      stm_placed (Stm.set x p e) o n st =
          visit_placed p st _ o.0 (got_placed _ (set_part n x) _ (eval_placed e o.1 (n + 1) (counted st)) (λ v t. ends_placed _ _ tt))
      stm_placed (Stm.add x q p e) o n st =
          visit_placed p st _ o.1 (got_placed _ (add_part n x q p) (λ v t. add_to (find x t.vars) x q p v t) (eval_placed e o.2 (n + 1) (counted st))
          (λ v t. add_placed (find x t.vars) x q p o.0 o.1 v t))
      stm_placed (Stm.put x q p k e) o n st =
          visit_placed p st _ o.1 (got_placed _ (put_index n (n + 1 + nodes k) x q p e) _ (eval_placed k o.2 (n + 1) (counted st))
          (λ v t. got_placed _ (put_value n x q p v) (λ y z. put_in (find x z.vars) x q p v y z) (eval_placed e o.3 (n + 1 + nodes k) t)
          (λ y z. put_placed (find x z.vars) x q p o.0 o.1 v y z)))
      stm_placed (Stm.return p e) o n st =
          visit_placed p st _ o.0 (got_placed _ (return_part n) _ (eval_placed e o.1 (n + 1) (counted st)) (λ v t. ends_placed _ _ tt))
      stm_placed (Stm.leave p) o n st = visit_placed p st _ o (ends_placed _ _ tt)
      stm_placed (Stm.cases p arms els) o n st =
          visit_placed p st _ o.0 (arms_placed arms o.1 n 1 (n + 1) (n + 1 + arms_nodes arms) els _ (counted st)
          (λ t. else_placed els o.2 (n + 1 + arms_nodes arms) t))
      stm_placed (Stm.while p e blk) o n st =
          visit_placed p st _ o.0 (turns_placed n (n + 1 + nodes e) p o.0 blk _ (λ z. stms_placed blk o.2 (n + 1 + nodes e) 0 (n + 1 + nodes e + 1) z) (suc visits) e
          o.1 (counted st))
      stm_placed (Stm.repeat p blk e) o n st =
          visit_placed p st _ o.0 (repeats_placed n (n + 1 + block_nodes blk) p o.0 blk _ (λ z. stms_placed blk o.1 (n + 1) 0 (n + 1 + 1) z) (suc visits) e o.2
          (counted st))
      stm_placed (Stm.for p x e blk) o n st =
          visit_placed p st _ o.0 (got_placed _ (for_list n (n + 1 + nodes e) p x blk) _ (eval_placed e o.1 (n + 1) (counted st))
          (λ v t. each_of_placed n (n + 1 + nodes e) p o.0 blk (eval_stms w body blk (n + 1 + nodes e) 0 (n + 1 + nodes e + 1))
          (λ z. stms_placed blk o.2 (n + 1 + nodes e) 0 (n + 1 + nodes e + 1) z) v x t))
      stm_placed (Stm.just p e) o n st =
          visit_placed p st _ o.0 (got_placed _ (just_part n) _ (eval_placed e o.1 (n + 1) (counted st)) (λ v t. ends_placed _ _ tt))

      stms_placed : (blk : Stms) → StmsPlaced P blk → (n k m : ℕ) (st : St N) → RunPlaced (eval_stms w body blk n k m st)
      stms_placed Stms.no_stms o n k m st = ends_placed _ _ tt
      stms_placed (Stms.stm a more) o n k m st =
          goes_placed _ (block_at n (k + 1) (m + stm_nodes a) more) _ (stm_placed a o.0 m st) (λ s. stms_placed more o.1 n (k + 1) (m + stm_nodes a) s)

      arms_placed : (arms : Arms) → ArmsPlaced P arms → (n k m i : ℕ) (els : Else) (go : St N → Res N) (st : St N)
          → ((s : St N) → RunPlaced (go s)) → RunPlaced (eval_arms w body arms n k m i els go st)
      arms_placed Arms.no_arms o n k m i els go st last = last st
      arms_placed (Arms.arm p e blk arms) o n k m i els go st last =
          got_placed _ (arm_test n k (m + nodes e) i p blk arms els) _ (eval_placed e o.1 m st)
          (λ v s. decide_placed v p s _ _ o.0 (stms_placed blk o.2 (m + nodes e) 0 (m + nodes e + 1) s)
          (arms_placed arms o.3 n (k + 1) (m + nodes e + block_nodes blk) i els go s last))

      else_placed : (els : Else) → ElsePlaced P els → (n : ℕ) (st : St N) → RunPlaced (eval_else w body els n st)
      else_placed Else.no_else o n st = ends_placed _ _ tt
      else_placed (Else.otherwise blk) o n st = stms_placed blk o n 0 (n + 1) st

  -- ---- bodies

  abbrev BodyPlaced : Option Body → Type 0
  BodyPlaced None = Unit {0}
  BodyPlaced (Some b) = StmsPlaced P b.block

  found_placed : (f : List ℕ) (fs : List FunDef) (i : ℕ) → Each (λ (g : FunDef). StmsPlaced P g.body) fs → BodyPlaced (find_body f fs i)
  found_placed f [] i h = tt
  found_placed f (g ∷ gs) i h = pick (same_text f g.name) (found_placed f gs (i + block_nodes g.body) h.1)
    where
      pick : (b : Bool) → BodyPlaced (find_body f gs (i + block_nodes g.body))
          → BodyPlaced (find_body_if b g i (find_body f gs (i + block_nodes g.body)))
      pick true r = h.0
      pick false r = r

  block_placed : Placed P w.script → (f : List ℕ) → BodyPlaced (body_of f w.script)
  block_placed s [] = s.main
  block_placed s (b ∷ bs) = found_placed (b ∷ bs) w.script.funs (block_nodes w.script.main) s.funs

  in_body_placed : (o : Option Body) (ca : Pairs N) (vs : Vals N) (p : Place) → P p → (st : St N) (run : Stms → ℕ → St N → Res N) → BodyPlaced o
      → ((blk : Stms) → StmsPlaced P blk → (n : ℕ) (s : St N) → RunPlaced (run blk n s)) → RunPlaced (in_body w o ca vs p st run)
  in_body_placed None ca vs p l st run b g = fails_placed _ p st l
  in_body_placed (Some x) ca vs p l st run b g = g x.block b x.node (with_vars (bind x.params vs ca) st)

  -- each run of a body
  pub call_placed : P nowhere → Placed P w.script → (d : ℕ) (f : List ℕ) (ca : Pairs N) (vs : Vals N) (p : Place) → P p → (st : St N)
      → RunPlaced (body_at w d f ca vs p st)
  call_placed none s zero f ca vs p l st = fails_placed _ p st l
  call_placed none s (suc d) f ca vs p l st =
      in_body_placed (body_of f w.script) ca vs p l st _ (block_placed s f)
      (λ blk o n t. stms_placed none (body_at w d) (λ g cb us q k u. call_placed none s d g cb us q k u) blk o n 0 (n + 1) t)
