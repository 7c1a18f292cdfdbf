-- A run over names is the run over whole descriptions, lowered.
use Rattle.std.proofs.Common.{◌≡◌, ℕ, zero, suc, ◌+◌, Bool, true, false, List, [], ◌∷◌, ◌++◌, map, length, reverse, Option, Some, None, Ok, Err}
use Rattle.std.proofs.Common.{nat_lt, nat_eq, ◌&&◌, pos, negsuc, refl, sym, ap, ap₂, ◌∙◌, subst}
use Rattle.std.specs.Option.{option_map}
use Rattle.sky_base.specs.Val.{Val, Vals, Pairs, Desc, null, truth, num, text, list, dict, fun, ref, no_vals, val, no_pairs, pair, call, out, input}
use Rattle.sky_base.specs.Val.{count, vals_of, refs_to}
use Rattle.sky_base.specs.Name.{low, low_vals, low_pairs, low_desc}
use Rattle.sky_base.specs.Op.{Answer, index, find, negated, opposite, len, keys, has, range, limited, set_at, grown, dict_from}
use Rattle.sky_base.specs.Tree.{Place, nowhere, Lit, Oper, Junction, Sign, SignAt, Form, Exp, Exps, Links, Ands, Steps, Stm, Stms, Arms, Else, FunDef}
use Rattle.sky_base.specs.Tree.{nodes, stm_nodes, block_nodes, arms_nodes}
use Rattle.sky_base.specs.Res.{visits, Object, End, St, Entry, parens_in, part_at, chain_first, chain_more, logic_at, prefix_part, star_wait}
use Rattle.sky_base.specs.Res.{postfix_first, index_at, arg_at, call_open, exec_wait, set_part, add_part, put_index, put_value, return_part}
use Rattle.sky_base.specs.Res.{just_part, arm_test, while_test, while_body, repeat_body, repeat_test, for_list, for_body, block_at, Wait, one_of}
use Rattle.sky_base.specs.Res.{all_of, Res, Fin, Tell, Ask, then_do, on_got, on_goes, with_vars, on_body, gives, counted, visited, visit, answer}
use Rattle.sky_base.specs.Res.{tell_all}
use Rattle.sky_base.specs.Eval.{World, find_fun, is_one_of, Body, body_of, bind, set_var, lit_val, named, closed, caught_if, caught_by, fun_named}
use Rattle.sky_base.specs.Eval.{oper, exec_end, read_end, outputs, truth_of, decide, joins, add_to, put_in, left, turns, repeats, each, each_of}
use Rattle.sky_base.specs.Eval.{with_one, with_two, with_three, wait_end, ask, make_one, spawn_if, spawn_fun, spawn_list, spawned, outputs_if}
use Rattle.sky_base.specs.Eval.{outputs_count, outputs_of, exec_ask, input_if, input_of, formed, deref, signed, signs, call_if, call_fun, called}
use Rattle.sky_base.specs.Eval.{enter, eval, eval_parts, eval_links, eval_ands, eval_steps, eval_args, eval_stm, eval_stms, eval_arms, eval_else}
use Rattle.sky_base.specs.Eval.{eval_block, go_while, go_repeat, after, in_body, body_at, inside, plug}
use Rattle.sky_base_law.specs.Lower.{low_ref, lower, low_obj, low_end, low_st, low_wait, low_entry}
use Rattle.sky_base_law.proofs.Low.{limited_low, plus_low, minus_low, times_low, over_low, rest_low, compare_low, index_low, set_at_low, grown_low}
use Rattle.sky_base_law.proofs.Low.{negated_low, opposite_low, len_low, keys_low, has_low, range_low, dict_from_low, found_low, put_low, vals_of_low}
use Rattle.sky_base_law.proofs.Low.{refs_to_low, bind_low, count_low, left_low}

map_push : {A B : Type 0} (f : A → B) (xs : List A) (x : A) → map f (xs ++ x ∷ []) ≡ map f xs ++ f x ∷ []
map_push f [] x = refl
map_push f (y ∷ xs) x = ap (λ zs. f y ∷ zs) (map_push f xs x)

module _ {N : Type 0} (spell : N → List ℕ) (tag : Desc (List ℕ) → List ℕ) where
  abbrev pub Rel : Res N → Res (List ℕ) → Type 0
  Rel (Fin e st) q = q ≡ Fin (low_end spell tag e) (low_st spell tag st)
  Rel (Tell d r) q = (h : Res (List ℕ)) × (q ≡ Tell (low_desc spell tag d) h) × Rel r h
  Rel (Ask y fr st k) q = (h : List (Object (List ℕ)) → Res (List ℕ)) × (q ≡ Ask (low_wait spell tag y) (map (low_entry spell tag) fr) (low_st spell tag st) h)
      × ((os : List (Object N)) → Rel (k os) (h (map (low_obj spell tag) os)))

  rel_then : (r : Res N) (q : Res (List ℕ)) (en : Entry N) (k : End N → St N → Res N) (h : End (List ℕ) → St (List ℕ) → Res (List ℕ)) → Rel r q
      → ((e : End N) (st : St N) → Rel (k e st) (h (low_end spell tag e) (low_st spell tag st))) → Rel (then_do r en k) (then_do q (low_entry spell tag en) h)
  rel_then (Fin e st) q en k h g same = subst (λ (x : Res (List ℕ)). Rel (k e st) (then_do x (low_entry spell tag en) h)) (sym g) (same e st)
  rel_then (Tell d r) q en k h g same = (_, ap (λ x. then_do x (low_entry spell tag en) h) g.1, rel_then r g.0 en k h g.2 same)
  rel_then (Ask y fr st p) q en k h g same =
      (_, ap (λ x. then_do x (low_entry spell tag en) h) g.1, λ os. rel_then (p os) (g.0 (map (low_obj spell tag) os)) en k h (g.2 os) same)

  same_as : (r : Res N) (q q' : Res (List ℕ)) → q ≡ q' → Rel r q → Rel r q'
  same_as r q q' e g = subst (Rel r) e g

  rel_got : (r : Res N) (q : Res (List ℕ)) (en : Entry N) (k : Val N → St N → Res N) (h : Val (List ℕ) → St (List ℕ) → Res (List ℕ)) → Rel r q
      → ((v : Val N) (st : St N) → Rel (k v st) (h (low spell tag v) (low_st spell tag st))) → Rel (then_do r en (on_got k)) (then_do q (low_entry spell tag en) (on_got h))
  rel_got r q en k h g same = rel_then r q en (on_got k) (on_got h) g each_end
    where
      each_end : (e : End N) (st : St N) → Rel (on_got k e st) (on_got h (low_end spell tag e) (low_st spell tag st))
      each_end End.goes st = refl
      each_end (End.got v) st = same v st
      each_end (End.returned v) st = refl
      each_end (End.failed f) st = refl

  rel_goes : (r : Res N) (q : Res (List ℕ)) (en : Entry N) (k : St N → Res N) (h : St (List ℕ) → Res (List ℕ)) → Rel r q → ((st : St N) → Rel (k st) (h (low_st spell tag st)))
      → Rel (then_do r en (on_goes k)) (then_do q (low_entry spell tag en) (on_goes h))
  rel_goes r q en k h g same = rel_then r q en (on_goes k) (on_goes h) g each_end
    where
      each_end : (e : End N) (st : St N) → Rel (on_goes k e st) (on_goes h (low_end spell tag e) (low_st spell tag st))
      each_end End.goes st = same st
      each_end (End.got v) st = refl
      each_end (End.returned v) st = refl
      each_end (End.failed f) st = refl

  rel_body : (xs : Pairs N) (k : Val N → St N → Res N) (h : Val (List ℕ) → St (List ℕ) → Res (List ℕ)) → ((v : Val N) (st : St N) → Rel (k v st) (h (low spell tag v) (low_st spell tag st)))
      → (e : End N) (st : St N) → Rel (on_body xs k e st) (on_body (low_pairs spell tag xs) h (low_end spell tag e) (low_st spell tag st))
  rel_body xs k h g End.goes st = g null (with_vars xs st)
  rel_body xs k h g (End.got v) st = g v (with_vars xs st)
  rel_body xs k h g (End.returned v) st = g v (with_vars xs st)
  rel_body xs k h g (End.failed f) st = refl

  rel_visited : (b : Bool) (p : Place) (st : St N) (k : St N → Res N) (h : St (List ℕ) → Res (List ℕ)) → Rel (k (counted st)) (h (low_st spell tag (counted st)))
      → Rel (visited b p st k) (visited b p (low_st spell tag st) h)
  rel_visited true p st k h g = g
  rel_visited false p st k h g = refl

  rel_visit : (p : Place) (st : St N) (k : St N → Res N) (h : St (List ℕ) → Res (List ℕ)) → ((s : St N) → Rel (k s) (h (low_st spell tag s))) → Rel (visit p st k) (visit p (low_st spell tag st) h)
  rel_visit p st k h g = rel_visited (nat_lt st.count visits) p st k h (g (counted st))

  rel_answered : (o : Answer N) (p : Place) (st : St N) (k : Val N → St N → Res N) (h : Val (List ℕ) → St (List ℕ) → Res (List ℕ))
      → ((v : Val N) → Rel (k v st) (h (low spell tag v) (low_st spell tag st))) → Rel (answer o p st k) (answer (lower spell tag o) p (low_st spell tag st) h)
  rel_answered (Ok v) p st k h g = g v
  rel_answered (Err e) p st k h g = refl

  rel_answer : (o : Answer N) (q : Answer (List ℕ)) (p : Place) (st : St N) (k : Val N → St N → Res N) (h : Val (List ℕ) → St (List ℕ) → Res (List ℕ)) → q ≡ lower spell tag o
      → ((v : Val N) → Rel (k v st) (h (low spell tag v) (low_st spell tag st))) → Rel (answer o p st k) (answer q p (low_st spell tag st) h)
  rel_answer o q p st k h e g = same_as (answer o p st k) (answer (lower spell tag o) p (low_st spell tag st) h) (answer q p (low_st spell tag st) h)
      (ap (λ x. answer x p (low_st spell tag st) h) (sym e)) (rel_answered o p st k h g)

  rel_decide : (v : Val N) (p : Place) (st : St N) (on off : St N → Res N) (on' off' : St (List ℕ) → Res (List ℕ)) → Rel (on st) (on' (low_st spell tag st)) → Rel (off st) (off' (low_st spell tag st))
      → Rel (decide v p st on off) (decide (low spell tag v) p (low_st spell tag st) on' off')
  rel_decide (truth true) p st on off on' off' g h = g
  rel_decide (truth false) p st on off on' off' g h = h
  rel_decide null p st on off on' off' g h = refl
  rel_decide (num z) p st on off on' off' g h = refl
  rel_decide (text t) p st on off on' off' g h = refl
  rel_decide (list vs) p st on off on' off' g h = refl
  rel_decide (dict ps) p st on off on' off' g h = refl
  rel_decide (fun f c) p st on off on' off' g h = refl
  rel_decide (ref d) p st on off on' off' g h = refl

  rel_joins : (j : Junction) (v : Val N) (p : Place) (st : St N) (k : St N → Res N) (h : St (List ℕ) → Res (List ℕ)) → Rel (k st) (h (low_st spell tag st))
      → Rel (joins j v p st k) (joins j (low spell tag v) p (low_st spell tag st) h)
  rel_joins Junction.both v p st k h g = rel_decide v p st k _ h _ g refl
  rel_joins Junction.either v p st k h g = rel_decide v p st _ k _ h refl g

  truth_low : (v : Val N) → truth_of (low spell tag v) ≡ lower spell tag (truth_of v)
  truth_low null = refl
  truth_low (truth b) = refl
  truth_low (num z) = refl
  truth_low (text t) = refl
  truth_low (list vs) = refl
  truth_low (dict ps) = refl
  truth_low (fun f c) = refl
  truth_low (ref d) = refl

  oper_low : (o : Oper) (a b : Val N) → oper o (low spell tag a) (low spell tag b) ≡ lower spell tag (oper o a b)
  oper_low Oper.plus a b = plus_low spell tag a b
  oper_low Oper.minus a b = minus_low spell tag a b
  oper_low Oper.times a b = times_low spell tag a b
  oper_low Oper.over a b = over_low spell tag a b
  oper_low Oper.rest a b = rest_low spell tag a b
  oper_low (Oper.compare o) a b = compare_low spell tag o a b

  lit_low : (l : Lit) → limited (lit_val l) ≡ lower spell tag (limited (lit_val l))
  lit_low Lit.null = limited_low spell tag null
  lit_low (Lit.truth b) = limited_low spell tag (truth b)
  lit_low (Lit.num z) = limited_low spell tag (num z)
  lit_low (Lit.text t) = limited_low spell tag (text t)

  named_low : (o : Option (Val N)) (x : List ℕ) (fs : List FunDef) → named (option_map (low spell tag) o) x fs ≡ lower spell tag (named o x fs)
  named_low (Some v) x fs = refl
  named_low None x fs = fun_low (find_fun x fs)
    where
      fun_low : (o : Option FunDef) → fun_named o x ≡ lower spell tag (fun_named o x)
      fun_low None = refl
      fun_low (Some f) = limited_low spell tag (fun x no_pairs)

  caught_low : (us : List (List ℕ)) (xs : Pairs N) → caught_by us (low_pairs spell tag xs) ≡ low_pairs spell tag (caught_by us xs)
  caught_low us no_pairs = refl
  caught_low us (pair k v ps) = ap (caught_if (is_one_of k us) k (low spell tag v)) (caught_low us ps) ∙ go (is_one_of k us)
    where
      go : (b : Bool) → caught_if b k (low spell tag v) (low_pairs spell tag (caught_by us ps)) ≡ low_pairs spell tag (caught_if b k v (caught_by us ps))
      go true = refl
      go false = refl

  closed_low : (o : Option FunDef) (x : List ℕ) (xs : Pairs N) → closed o x (low_pairs spell tag xs) ≡ lower spell tag (closed o x xs)
  closed_low None x xs = refl
  closed_low (Some f) x xs = ap (λ ps. limited (fun x ps)) (caught_low f.uses xs) ∙ limited_low spell tag (fun x (caught_by f.uses xs))

  var_low : (x : List ℕ) (xs : Pairs N) (fs : List FunDef) → named (find x (low_pairs spell tag xs)) x fs ≡ lower spell tag (named (find x xs) x fs)
  var_low x xs fs = ap (λ o. named o x fs) (found_low spell tag x xs) ∙ named_low (find x xs) x fs

  set_low : (x : List ℕ) (v : Val N) (st : St N) → set_var x (low spell tag v) (low_st spell tag st) ≡ low_st spell tag (set_var x v st)
  set_low x v st = ap (λ (xs : Pairs (List ℕ)). record { vars = xs; count = st.count }) (sym (put_low spell tag x v st.vars))

  rel_set : (x : List ℕ) (v : Val N) (st : St N) → Rel (Fin End.goes (set_var x v st)) (Fin End.goes (set_var x (low spell tag v) (low_st spell tag st)))
  rel_set x v st = ap (λ s. Fin End.goes s) (set_low x v st)

  rel_added : (o : Option (Val N)) (x : List ℕ) (q p : Place) (e : Val N) (st : St N) → Rel (add_to o x q p e st) (add_to (option_map (low spell tag) o) x q p (low spell tag e) (low_st spell tag st))
  rel_added None x q p e st = refl
  rel_added (Some v) x q p e st = rel_answer (grown v e) _ p st _ _ (grown_low spell tag v e) (λ u. rel_set x u st)

  rel_add : (x : List ℕ) (q p : Place) (e : Val N) (st : St N) → Rel (add_to (find x st.vars) x q p e st) (add_to (find x (low_pairs spell tag st.vars)) x q p (low spell tag e) (low_st spell tag st))
  rel_add x q p e st =
      same_as _ _ _ (ap (λ o. add_to o x q p (low spell tag e) (low_st spell tag st)) (sym (found_low spell tag x st.vars))) (rel_added (find x st.vars) x q p e st)

  rel_putted : (o : Option (Val N)) (x : List ℕ) (q p : Place) (i e : Val N) (st : St N)
      → Rel (put_in o x q p i e st) (put_in (option_map (low spell tag) o) x q p (low spell tag i) (low spell tag e) (low_st spell tag st))
  rel_putted None x q p i e st = refl
  rel_putted (Some v) x q p i e st = rel_answer (set_at v i e) _ p st _ _ (set_at_low spell tag v i e) (λ u. rel_set x u st)

  rel_put : (x : List ℕ) (q p : Place) (i e : Val N) (st : St N)
      → Rel (put_in (find x st.vars) x q p i e st) (put_in (find x (low_pairs spell tag st.vars)) x q p (low spell tag i) (low spell tag e) (low_st spell tag st))
  rel_put x q p i e st =
      same_as _ _ _ (ap (λ o. put_in o x q p (low spell tag i) (low spell tag e) (low_st spell tag st)) (sym (found_low spell tag x st.vars))) (rel_putted (find x st.vars) x q p i e st)

  exec_end_low : (ds : List (Desc N)) (os : List (Object N)) → exec_end (map (low_ref spell tag) ds) (map (low_obj spell tag) os) ≡ low_end spell tag (exec_end ds os)
  exec_end_low ds [] = ap (λ us. End.got (list us)) (refs_to_low spell tag ds)
  exec_end_low ds (Object.bytes b ∷ os) = exec_end_low ds os
  exec_end_low ds (Object.data_of v ∷ os) = exec_end_low ds os
  exec_end_low ds (Object.fault f ∷ os) = refl

  read_end_low : (o : Answer N) (p : Place) → read_end (lower spell tag o) p ≡ low_end spell tag (read_end o p)
  read_end_low (Ok v) p = refl
  read_end_low (Err k) p = refl

  rel_tell : (ds : List (Desc N)) (r : Res N) (h : Res (List ℕ)) → Rel r h → Rel (tell_all ds r) (tell_all (map (low_desc spell tag) ds) h)
  rel_tell [] r h g = g
  rel_tell (d ∷ ds) r h g = (_, refl, rel_tell ds r h g)

  outputs_low : (x : List ℕ) (a : Val N) (n i m : ℕ) → outputs x (low spell tag a) n i m ≡ map (low_desc spell tag) (outputs x a n i m)
  outputs_low x a n i zero = refl
  outputs_low x a n i (suc m) = ap (λ ds. out x (low spell tag a) n i ∷ ds) (outputs_low x a n (suc i) m)

  -- the same script over names, where a reference to a description that is made holds its name
  module _ (w : World N) (give : Desc (List ℕ) → Desc (List ℕ)) (read : List ℕ → Answer (List ℕ)) (alike : (d : Desc N) → give (low_desc spell tag d) ≡ low_ref spell tag (w.make d))
      (reads_alike : (b : List ℕ) → read b ≡ lower spell tag (w.reads b)) where
    abbrev pub over_names : World (List ℕ)
    over_names = record { make = give; reads = read; script = w.script }

    one_end_low : (p : Place) (d : Desc N) (os : List (Object N)) → wait_end over_names (one_of p (low_ref spell tag d)) (map (low_obj spell tag) os) ≡ low_end spell tag (wait_end w (one_of p d) os)
    one_end_low p d [] = refl
    one_end_low p d (Object.bytes b ∷ os) = ap (λ o. read_end o p) (reads_alike b) ∙ read_end_low (w.reads b) p
    one_end_low p d (Object.data_of v ∷ os) = refl
    one_end_low p d (Object.fault f ∷ os) = refl

    wait_end_low : (q : Wait N) (os : List (Object N)) → wait_end over_names (low_wait spell tag q) (map (low_obj spell tag) os) ≡ low_end spell tag (wait_end w q os)
    wait_end_low (one_of p d) os = one_end_low p d os
    wait_end_low (all_of ds) os = exec_end_low ds os

    rel_ask : (q : Wait N) (st : St N) → Rel (ask w q st) (ask over_names (low_wait spell tag q) (low_st spell tag st))
    rel_ask q st = (_, refl, λ os. ap (λ e. Fin e (low_st spell tag st)) (wait_end_low q os))

    rel_make : (d : Desc N) (st : St N) → Rel (make_one w d st) (make_one over_names (low_desc spell tag d) (low_st spell tag st))
    rel_make d st = (_, refl, ap (λ r. Fin (End.got (ref r)) (low_st spell tag st)) (alike d))

    all_alike : (ds : List (Desc N)) → map give (map (low_desc spell tag) ds) ≡ map (low_ref spell tag) (map w.make ds)
    all_alike [] = refl
    all_alike (d ∷ ds) = ap₂ (λ x xs. x ∷ xs) (alike d) (all_alike ds)

    -- ---- forms of parts

    rel_spawn_if : (b : Bool) (d : Desc N) (p : Place) (st : St N) → Rel (spawn_if w b d p st) (spawn_if over_names b (low_desc spell tag d) p (low_st spell tag st))
    rel_spawn_if false d p st = refl
    rel_spawn_if true d p st = rel_make d st

    rel_spawn_fun : (o : Option FunDef) (f : List ℕ) (c : Pairs N) (vs : Vals N) (p : Place) (st : St N)
        → Rel (spawn_fun w o f c vs p st) (spawn_fun over_names o f (low_pairs spell tag c) (low_vals spell tag vs) p (low_st spell tag st))
    rel_spawn_fun None f c vs p st = refl
    rel_spawn_fun (Some x) f c vs p st =
        same_as _ _ _ (ap (λ n. spawn_if over_names (nat_eq (length x.params) n) (call f (low_pairs spell tag c) (low_vals spell tag vs)) p (low_st spell tag st)) (sym (count_low spell tag vs)))
        (rel_spawn_if (nat_eq (length x.params) (count vs)) (call f c vs) p st)

    rel_spawn_list : (f : List ℕ) (c : Pairs N) (a : Val N) (p : Place) (st : St N)
        → Rel (spawn_list w f c a p st) (spawn_list over_names f (low_pairs spell tag c) (low spell tag a) p (low_st spell tag st))
    rel_spawn_list f c (list vs) p st = rel_spawn_fun (find_fun f w.script.funs) f c vs p st
    rel_spawn_list f c null p st = refl
    rel_spawn_list f c (truth b) p st = refl
    rel_spawn_list f c (num z) p st = refl
    rel_spawn_list f c (text t) p st = refl
    rel_spawn_list f c (dict ps) p st = refl
    rel_spawn_list f c (fun g cb) p st = refl
    rel_spawn_list f c (ref d) p st = refl

    rel_spawned : (g a : Val N) (p : Place) (st : St N) → Rel (spawned w g a p st) (spawned over_names (low spell tag g) (low spell tag a) p (low_st spell tag st))
    rel_spawned (fun f c) a p st = rel_spawn_list f c a p st
    rel_spawned null a p st = refl
    rel_spawned (truth b) a p st = refl
    rel_spawned (num z) a p st = refl
    rel_spawned (text t) a p st = refl
    rel_spawned (list vs) a p st = refl
    rel_spawned (dict ps) a p st = refl
    rel_spawned (ref d) a p st = refl

    module _ (k : List (Desc N) → St N → Res N) (h : List (Desc (List ℕ)) → St (List ℕ) → Res (List ℕ))
        (g : (es : List (Desc N)) (st : St N) → Rel (k es st) (h (map (low_ref spell tag) es) (low_st spell tag st))) where
      rel_outputs_if : (b : Bool) (ds : List (Desc N)) (p : Place) (st : St N) → Rel (outputs_if w b ds p st k) (outputs_if over_names b (map (low_desc spell tag) ds) p (low_st spell tag st) h)
      rel_outputs_if false ds p st = refl
      rel_outputs_if true ds p st =
          rel_tell ds _ _ (same_as _ _ _ (ap (λ es. h es (low_st spell tag st)) (sym (all_alike ds))) (g (map w.make ds) st))

      rel_outputs_count : (x : List ℕ) (a n : Val N) (p : Place) (st : St N)
          → Rel (outputs_count w x a n p st k) (outputs_count over_names x (low spell tag a) (low spell tag n) p (low_st spell tag st) h)
      rel_outputs_count x a (num (pos n)) p st =
          same_as _ _ _ (ap (λ ds. outputs_if over_names (nat_lt 0 n && nat_lt n 65) ds p (low_st spell tag st) h) (sym (outputs_low x a n 0 n)))
          (rel_outputs_if (nat_lt 0 n && nat_lt n 65) (outputs x a n 0 n) p st)
      rel_outputs_count x a (num (negsuc n)) p st = refl
      rel_outputs_count x a null p st = refl
      rel_outputs_count x a (truth b) p st = refl
      rel_outputs_count x a (text t) p st = refl
      rel_outputs_count x a (list vs) p st = refl
      rel_outputs_count x a (dict ps) p st = refl
      rel_outputs_count x a (fun f c) p st = refl
      rel_outputs_count x a (ref d) p st = refl

      rel_outputs : (x a n : Val N) (p : Place) (st : St N) → Rel (outputs_of w x a n p st k) (outputs_of over_names (low spell tag x) (low spell tag a) (low spell tag n) p (low_st spell tag st) h)
      rel_outputs (text x) a n p st = rel_outputs_count x a n p st
      rel_outputs null a n p st = refl
      rel_outputs (truth b) a n p st = refl
      rel_outputs (num z) a n p st = refl
      rel_outputs (list vs) a n p st = refl
      rel_outputs (dict ps) a n p st = refl
      rel_outputs (fun f c) a n p st = refl
      rel_outputs (ref d) a n p st = refl

    rel_exec_ask : (n : ℕ) (ds : List (Desc N)) (st : St N) → Rel (exec_ask w n ds st) (exec_ask over_names n (map (low_ref spell tag) ds) (low_st spell tag st))
    rel_exec_ask n ds st = rel_got (ask w (all_of ds) st) (ask over_names (all_of (map (low_ref spell tag) ds)) (low_st spell tag st)) (exec_wait n ds) gives gives (rel_ask (all_of ds) st)
        (λ v s. refl)

    rel_input_if : (b : Bool) (k : List ℕ) (p : Place) (st : St N) → Rel (input_if w b k p st) (input_if over_names b k p (low_st spell tag st))
    rel_input_if false k p st = refl
    rel_input_if true k p st = rel_make (input k) st

    rel_input : (v : Val N) (p : Place) (st : St N) → Rel (input_of w v p st) (input_of over_names (low spell tag v) p (low_st spell tag st))
    rel_input (text k) p st = rel_input_if (is_one_of k w.script.keys) k p st
    rel_input null p st = refl
    rel_input (truth b) p st = refl
    rel_input (num z) p st = refl
    rel_input (list vs) p st = refl
    rel_input (dict ps) p st = refl
    rel_input (fun f c) p st = refl
    rel_input (ref d) p st = refl

    rel_one : (vs : List (Val N)) (p : Place) (st : St N) (k : Val N → Res N) (h : Val (List ℕ) → Res (List ℕ)) → ((x : Val N) → Rel (k x) (h (low spell tag x)))
        → Rel (with_one vs p st k) (with_one (map (low spell tag) vs) p (low_st spell tag st) h)
    rel_one [] p st k h g = refl
    rel_one (x ∷ []) p st k h g = g x
    rel_one (x ∷ y ∷ vs) p st k h g = refl

    rel_two : (vs : List (Val N)) (p : Place) (st : St N) (k : Val N → Val N → Res N) (h : Val (List ℕ) → Val (List ℕ) → Res (List ℕ))
        → ((x y : Val N) → Rel (k x y) (h (low spell tag x) (low spell tag y))) → Rel (with_two vs p st k) (with_two (map (low spell tag) vs) p (low_st spell tag st) h)
    rel_two [] p st k h g = refl
    rel_two (x ∷ []) p st k h g = refl
    rel_two (x ∷ y ∷ []) p st k h g = g x y
    rel_two (x ∷ y ∷ z ∷ vs) p st k h g = refl

    rel_three : (vs : List (Val N)) (p : Place) (st : St N) (k : Val N → Val N → Val N → Res N) (h : Val (List ℕ) → Val (List ℕ) → Val (List ℕ) → Res (List ℕ))
        → ((x y z : Val N) → Rel (k x y z) (h (low spell tag x) (low spell tag y) (low spell tag z))) → Rel (with_three vs p st k) (with_three (map (low spell tag) vs) p (low_st spell tag st) h)
    rel_three [] p st k h g = refl
    rel_three (x ∷ []) p st k h g = refl
    rel_three (x ∷ y ∷ []) p st k h g = refl
    rel_three (x ∷ y ∷ z ∷ []) p st k h g = g x y z
    rel_three (x ∷ y ∷ z ∷ u ∷ vs) p st k h g = refl

    rel_formed : (o : Form) (vs : List (Val N)) (n : ℕ) (p : Place) (st : St N) → Rel (formed w o vs n p st) (formed over_names o (map (low spell tag) vs) n p (low_st spell tag st))
    rel_formed Form.list vs n p st =
        rel_answer (limited (list (vals_of vs))) _ p st _ _ (ap (λ us. limited (list us)) (vals_of_low spell tag vs) ∙ limited_low spell tag (list (vals_of vs))) (λ v. refl)
    rel_formed Form.dict vs n p st = rel_answer (dict_from vs no_pairs) _ p st _ _ (dict_from_low spell tag vs no_pairs) (λ v. refl)
    rel_formed Form.spawn vs n p st = rel_two vs p st _ _ (λ x y. rel_spawned x y p st)
    rel_formed Form.spawn_exec vs n p st =
        rel_three vs p st _ _ (λ x y z. rel_outputs (λ ds s. gives (list (refs_to ds)) s) (λ ds s. gives (list (refs_to ds)) s)
        (λ es s. ap (λ us. Fin (End.got (list us)) (low_st spell tag s)) (refs_to_low spell tag es)) x y z p st)
    rel_formed Form.exec vs n p st =
        rel_three vs p st _ _ (λ x y z. rel_outputs (λ ds s. exec_ask w n ds s) (λ ds s. exec_ask over_names n ds s) (λ es s. rel_exec_ask n es s) x y z p st)
    rel_formed Form.ref vs n p st = rel_one vs p st _ _ (λ x. rel_input x p st)
    rel_formed Form.len vs n p st = rel_one vs p st _ _ (λ x. rel_answer (len x) _ p st _ _ (len_low spell tag x) (λ v. refl))
    rel_formed Form.keys vs n p st = rel_one vs p st _ _ (λ x. rel_answer (keys x) _ p st _ _ (keys_low spell tag x) (λ v. refl))
    rel_formed Form.has vs n p st = rel_two vs p st _ _ (λ x y. rel_answer (has x y) _ p st _ _ (has_low spell tag x y) (λ v. refl))
    rel_formed Form.range vs n p st = rel_two vs p st _ _ (λ x y. rel_answer (range x y) _ p st _ _ (range_low spell tag x y) (λ v. refl))

    -- ---- signs

    rel_deref : (v : Val N) (n k : ℕ) (ss : List SignAt) (p : Place) (st : St N) (go : Val N → St N → Res N) (to : Val (List ℕ) → St (List ℕ) → Res (List ℕ))
        → ((u : Val N) (s : St N) → Rel (go u s) (to (low spell tag u) (low_st spell tag s))) → Rel (deref w v n k ss p st go) (deref over_names (low spell tag v) n k ss p (low_st spell tag st) to)
    rel_deref (ref d) n k ss p st go to g = rel_got (ask w (one_of p d) st) (ask over_names (one_of p (low_ref spell tag d)) (low_st spell tag st)) (star_wait n k d ss) go to (rel_ask (one_of p d) st)
        g
    rel_deref null n k ss p st go to g = refl
    rel_deref (truth b) n k ss p st go to g = refl
    rel_deref (num z) n k ss p st go to g = refl
    rel_deref (text t) n k ss p st go to g = refl
    rel_deref (list vs) n k ss p st go to g = refl
    rel_deref (dict ps) n k ss p st go to g = refl
    rel_deref (fun f c) n k ss p st go to g = refl

    rel_signed : (o : Sign) (v : Val N) (n k : ℕ) (ss : List SignAt) (p : Place) (st : St N) (go : Val N → St N → Res N) (to : Val (List ℕ) → St (List ℕ) → Res (List ℕ))
        → ((u : Val N) (s : St N) → Rel (go u s) (to (low spell tag u) (low_st spell tag s)))
        → Rel (signed w o v n k ss p st go) (signed over_names o (low spell tag v) n k ss p (low_st spell tag st) to)
    rel_signed Sign.not v n k ss p st go to g = rel_answer (opposite v) _ p st _ _ (opposite_low spell tag v) (λ u. g u st)
    rel_signed Sign.minus v n k ss p st go to g = rel_answer (negated v) _ p st _ _ (negated_low spell tag v) (λ u. g u st)
    rel_signed Sign.star v n k ss p st go to g = rel_deref v n k ss p st go to g

    rel_signs : (ss : List SignAt) (n k : ℕ) (v : Val N) (st : St N) → Rel (signs w ss n k v st) (signs over_names ss n k (low spell tag v) (low_st spell tag st))
    rel_signs [] n k v st = refl
    rel_signs (o ∷ ss) n k v st =
        rel_visit o.place st _ _ (λ s. rel_signed o.sign v n k ss o.place s _ _ (λ u t. rel_signs ss n (k + 1) u t))

    -- ---- calls

    rel_call_if : (b : Bool) (p : Place) (st : St N) (r : Res N) (q : Res (List ℕ)) → Rel r q → Rel (call_if w b p st r) (call_if over_names b p (low_st spell tag st) q)
    rel_call_if false p st r q g = refl
    rel_call_if true p st r q g = g

    rel_call_fun : (o : Option FunDef) (vs : Vals N) (p : Place) (st : St N) (r : Res N) (q : Res (List ℕ)) → Rel r q
        → Rel (call_fun w o vs p st r) (call_fun over_names o (low_vals spell tag vs) p (low_st spell tag st) q)
    rel_call_fun None vs p st r q g = refl
    rel_call_fun (Some x) vs p st r q g =
        same_as _ _ _ (ap (λ n. call_if over_names (nat_eq (length x.params) n) p (low_st spell tag st) q) (sym (count_low spell tag vs)))
        (rel_call_if (nat_eq (length x.params) (count vs)) p st r q g)

    rel_called : (v : Val N) (vs : Vals N) (p : Place) (st : St N) (k : List ℕ → Pairs N → Res N) (h : List ℕ → Pairs (List ℕ) → Res (List ℕ))
        → ((f : List ℕ) (c : Pairs N) → Rel (k f c) (h f (low_pairs spell tag c))) → Rel (called w v vs p st k) (called over_names (low spell tag v) (low_vals spell tag vs) p (low_st spell tag st) h)
    rel_called (fun f c) vs p st k h g = rel_call_fun (find_fun f w.script.funs) vs p st (k f c) (h f (low_pairs spell tag c)) (g f c)
    rel_called null vs p st k h g = refl
    rel_called (truth b) vs p st k h g = refl
    rel_called (num z) vs p st k h g = refl
    rel_called (text t) vs p st k h g = refl
    rel_called (list us) vs p st k h g = refl
    rel_called (dict ps) vs p st k h g = refl
    rel_called (ref d) vs p st k h g = refl

    module _ (run : List ℕ → Pairs N → Vals N → Place → St N → Res N) (walk : List ℕ → Pairs (List ℕ) → Vals (List ℕ) → Place → St (List ℕ) → Res (List ℕ))
        (bodies_alike : (f : List ℕ) (c : Pairs N) (vs : Vals N) (p : Place) (st : St N) → Rel (run f c vs p st) (walk f (low_pairs spell tag c) (low_vals spell tag vs) p (low_st spell tag st))) where
      rel_enter : (f : List ℕ) (c : Pairs N) (vs : Vals N) (p : Place) (n k m : ℕ) (ss : Steps) (st : St N) (go : Val N → St N → Res N) (to : Val (List ℕ) → St (List ℕ) → Res (List ℕ))
          → ((u : Val N) (s : St N) → Rel (go u s) (to (low spell tag u) (low_st spell tag s)))
          → Rel (enter w run f c vs p n k m ss st go) (enter over_names walk f (low_pairs spell tag c) (low_vals spell tag vs) p n k m ss (low_st spell tag st) to)
      rel_enter f c vs p n k m ss st go to g =
          rel_then (run f c vs p st) (walk f (low_pairs spell tag c) (low_vals spell tag vs) p (low_st spell tag st)) (call_open n k m f st.vars ss) (on_body st.vars go)
          (on_body (low_pairs spell tag st.vars) to) (bodies_alike f c vs p st) (rel_body st.vars go to g)

      mutual
        rel_eval : (e : Exp) (n : ℕ) (st : St N) → Rel (eval w run e n st) (eval over_names walk e n (low_st spell tag st))
        rel_eval (Exp.literal v p) n st = rel_visit p st _ _ (λ s. rel_answer (limited (lit_val v)) _ p s gives gives (lit_low v) (λ x. refl))
        rel_eval (Exp.name x p) n st = rel_visit p st (λ s. answer (named (find x s.vars) x w.script.funs) p s gives) (λ s. answer (named (find x s.vars) x w.script.funs) p s gives)
            (λ s. rel_answer (named (find x s.vars) x w.script.funs) _ p s gives gives (var_low x s.vars w.script.funs) (λ y. refl))
        rel_eval (Exp.func x p) n st = rel_visit p st (λ s. answer (closed (find_fun x w.script.funs) x s.vars) p s gives) (λ s. answer (closed (find_fun x w.script.funs) x s.vars) p s gives)
            (λ s. rel_answer (closed (find_fun x w.script.funs) x s.vars) _ p s gives gives (closed_low (find_fun x w.script.funs) x s.vars) (λ y. refl))
        rel_eval (Exp.parens e) n st = rel_got (eval w run e (n + 1) st) (eval over_names walk e (n + 1) (low_st spell tag st)) (parens_in n) gives gives (rel_eval e (n + 1) st) (λ v s. refl)
        rel_eval (Exp.parts o p es) n st = rel_parts es n 1 (n + 1) o p [] st
        rel_eval (Exp.chain e ls) n st = rel_got _ _ (chain_first n (n + 1 + nodes e) ls) _ _ (rel_eval e (n + 1) st) (λ v s. rel_links ls n 2 (n + 1 + nodes e) v s)
        rel_eval (Exp.logic j e ls) n st = rel_got _ _ (logic_at n 1 (n + 1 + nodes e) j nowhere ls) _ _ (rel_eval e (n + 1) st) (λ v s. rel_ands ls n 2 (n + 1 + nodes e) j nowhere v s)
        rel_eval (Exp.prefix ss e) n st = rel_got _ _ (prefix_part n (reverse ss)) _ _ (rel_eval e (n + 1) st) (λ v s. rel_signs (reverse ss) n 2 v s)
        rel_eval (Exp.postfix e ss) n st = rel_got _ _ (postfix_first n (n + 1 + nodes e) ss) _ _ (rel_eval e (n + 1) st) (λ v s. rel_steps ss n 2 (n + 1 + nodes e) v s)

        rel_parts : (es : Exps) (n k m : ℕ) (o : Form) (p : Place) (vs : List (Val N)) (st : St N)
            → Rel (eval_parts w run es n k m o p vs st) (eval_parts over_names walk es n k m o p (map (low spell tag) vs) (low_st spell tag st))
        rel_parts Exps.no_exps n k m o p vs st = rel_visit p st _ _ (λ s. rel_formed o vs n p s)
        rel_parts (Exps.exp e es) n k m o p vs st =
            rel_got _ _ (part_at n k (m + nodes e) o p vs es) _ _ (rel_eval e m st)
            (λ v s. same_as _ _ _ (ap (λ us. eval_parts over_names walk es n (k + 1) (m + nodes e) o p us (low_st spell tag s)) (map_push (low spell tag) vs v))
            (rel_parts es n (k + 1) (m + nodes e) o p (vs ++ v ∷ []) s))

        rel_links : (ls : Links) (n k m : ℕ) (v : Val N) (st : St N) → Rel (eval_links w run ls n k m v st) (eval_links over_names walk ls n k m (low spell tag v) (low_st spell tag st))
        rel_links Links.no_links n k m v st = refl
        rel_links (Links.link o p e ls) n k m v st =
            rel_got _ _ (chain_more n k (m + nodes e) o p v ls) _ _ (rel_eval e m st)
            (λ x s. rel_visit p s _ _ (λ t. rel_answer (oper o v x) _ p t _ _ (oper_low o v x) (λ y. rel_links ls n (k + 1) (m + nodes e) y t)))

        rel_ands : (ls : Ands) (n k m : ℕ) (j : Junction) (q : Place) (v : Val N) (st : St N)
            → Rel (eval_ands w run ls n k m j q v st) (eval_ands over_names walk ls n k m j q (low spell tag v) (low_st spell tag st))
        rel_ands Ands.no_ands n k m j q v st = rel_answer (truth_of v) _ q st gives gives (truth_low v) (λ x. refl)
        rel_ands (Ands.and p e ls) n k m j q v st =
            rel_visit p st _ _ (λ s. rel_joins j v p s _ _ (rel_got _ _ (logic_at n k (m + nodes e) j p ls) _ _ (rel_eval e m s) (λ x u. rel_ands ls n (k + 1) (m + nodes e) j p x u)))

        rel_steps : (ss : Steps) (n k m : ℕ) (v : Val N) (st : St N) → Rel (eval_steps w run ss n k m v st) (eval_steps over_names walk ss n k m (low spell tag v) (low_st spell tag st))
        rel_steps Steps.no_steps n k m v st = refl
        rel_steps (Steps.index e p ss) n k m v st =
            rel_got _ _ (index_at n k (m + nodes e) p v ss) _ _ (rel_eval e m st)
            (λ x s. rel_visit p s _ _ (λ t. rel_answer (index v x) _ p t _ _ (index_low spell tag v x) (λ y. rel_steps ss n (k + 1) (m + nodes e) y t)))
        rel_steps (Steps.call es p ss) n k m v st =
            rel_args es n k m p v [] ss _ _ (λ l i f c us s. rel_enter f c us p n l i ss s (λ y u. eval_steps w run ss n (l + 1) i y u) (λ y u. eval_steps over_names walk ss n (l + 1) i y u)
            (λ y u. rel_steps ss n (l + 1) i y u)) st

        rel_args : (es : Exps) (n k m : ℕ) (p : Place) (g : Val N) (vs : List (Val N)) (ss : Steps) (go : ℕ → ℕ → List ℕ → Pairs N → Vals N → St N → Res N)
            (to : ℕ → ℕ → List ℕ → Pairs (List ℕ) → Vals (List ℕ) → St (List ℕ) → Res (List ℕ))
            → ((l i : ℕ) (f : List ℕ) (c : Pairs N) (us : Vals N) (s : St N) → Rel (go l i f c us s) (to l i f (low_pairs spell tag c) (low_vals spell tag us) (low_st spell tag s))) → (st : St N)
            → Rel (eval_args w run es n k m p g vs ss go st) (eval_args over_names walk es n k m p (low spell tag g) (map (low spell tag) vs) ss to (low_st spell tag st))
        rel_args Exps.no_exps n k m p g vs ss go to h st =
            rel_visit p st _ _ (λ s. same_as _ _ _ (ap (λ us. called over_names (low spell tag g) us p (low_st spell tag s) (λ f c. to k m f c us (low_st spell tag s)))
            (sym (vals_of_low spell tag vs))) (rel_called g (vals_of vs) p s _ _ (λ f c. h k m f c (vals_of vs) s)))
        rel_args (Exps.exp e es) n k m p g vs ss go to h st =
            rel_got _ _ (arg_at n k (m + nodes e) p g vs es ss) _ _ (rel_eval e m st)
            (λ v s. same_as _ _ _ (ap (λ us. eval_args over_names walk es n (k + 1) (m + nodes e) p (low spell tag g) us ss to (low_st spell tag s)) (map_push (low spell tag) vs v))
            (rel_args es n (k + 1) (m + nodes e) p g (vs ++ v ∷ []) ss go to h s))

      -- ---- loops

      module _ (n m : ℕ) (p : Place) (blk : Stms) (go : St N → Res N) (to : St (List ℕ) → Res (List ℕ)) (same : (st : St N) → Rel (go st) (to (low_st spell tag st))) where
        rel_turns : (f : ℕ) (e : Exp) (st : St N) → Rel (turns f n m p e blk (eval w run e (n + 1)) go st) (turns f n m p e blk (eval over_names walk e (n + 1)) to (low_st spell tag st))
        rel_turns zero e st = refl
        rel_turns (suc f) e st =
            rel_got _ _ (while_test n m p e blk) _ _ (rel_eval e (n + 1) st)
            (λ v s. rel_decide v p s _ _ (λ t. then_do (to t) (while_body n m p e blk) (on_goes (turns f n m p e blk (eval over_names walk e (n + 1)) to))) (λ t. Fin End.goes t)
            (rel_goes (go s) (to (low_st spell tag s)) (while_body n m p e blk) _ _ (same s) (λ z. rel_turns f e z)) refl)

        rel_repeats : (f : ℕ) (e : Exp) (st : St N) → Rel (repeats f n m p blk e go (eval w run e m) st) (repeats f n m p blk e to (eval over_names walk e m) (low_st spell tag st))
        rel_repeats zero e st = refl
        rel_repeats (suc f) e st =
            rel_goes (go st) (to (low_st spell tag st)) (repeat_body n m p blk e) _ _ (same st)
            (λ s. rel_got _ _ (repeat_test n m p blk e) _ _ (rel_eval e m s)
            (λ v t. rel_decide v p t _ _ (repeats f n m p blk e to (eval over_names walk e m)) (λ u. Fin End.goes u) (rel_repeats f e t) refl))

        rel_each : (vs : Vals N) (t : ℕ) (x : List ℕ) (whole : Vals N) (st : St N)
            → Rel (each vs n m t p x whole blk go st) (each (low_vals spell tag vs) n m t p x (low_vals spell tag whole) blk to (low_st spell tag st))
        rel_each no_vals t x whole st = refl
        rel_each (val v vs) t x whole st =
            rel_visit p st _ (λ s. then_do (to (set_var x (low spell tag v) s)) (for_body n m (suc t) p x (low_vals spell tag whole) blk)
            (on_goes (each (low_vals spell tag vs) n m (suc t) p x (low_vals spell tag whole) blk to)))
            (λ s. rel_goes (go (set_var x v s)) (to (set_var x (low spell tag v) (low_st spell tag s))) (for_body n m (suc t) p x whole blk) _ _
            (same_as _ _ _ (ap to (sym (set_low x v s))) (same (set_var x v s))) (λ z. rel_each vs (suc t) x whole z))

        rel_each_of : (v : Val N) (x : List ℕ) (st : St N) → Rel (each_of v n m p x blk go st) (each_of (low spell tag v) n m p x blk to (low_st spell tag st))
        rel_each_of (list vs) x st = rel_each vs 0 x vs st
        rel_each_of null x st = refl
        rel_each_of (truth b) x st = refl
        rel_each_of (num z) x st = refl
        rel_each_of (text t) x st = refl
        rel_each_of (dict ps) x st = refl
        rel_each_of (fun f c) x st = refl
        rel_each_of (ref d) x st = refl

      mutual
        rel_stm : (a : Stm) (n : ℕ) (st : St N) → Rel (eval_stm w run a n st) (eval_stm over_names walk a n (low_st spell tag st))
        rel_stm (Stm.set x p e) n st =
            rel_visit p st _ _ (λ s. rel_got _ _ (set_part n x) (λ v t. Fin End.goes (set_var x v t)) (λ v t. Fin End.goes (set_var x v t)) (rel_eval e (n + 1) s) (λ v t. rel_set x v t))
        rel_stm (Stm.add x q p e) n st =
            rel_visit p st _ _ (λ s. rel_got _ _ (add_part n x q p) (λ v t. add_to (find x t.vars) x q p v t) (λ v t. add_to (find x t.vars) x q p v t) (rel_eval e (n + 1) s)
            (λ v t. rel_add x q p v t))
        rel_stm (Stm.put x q p i e) n st =
            rel_visit p st _ _ (λ s. rel_got _ _ (put_index n (n + 1 + nodes i) x q p e) _
            (λ v t. then_do (eval over_names walk e (n + 1 + nodes i) t) (put_value n x q p v) (on_got (λ y u. put_in (find x u.vars) x q p v y u))) (rel_eval i (n + 1) s)
            (λ v t. rel_got _ _ (put_value n x q p v) (λ y u. put_in (find x u.vars) x q p v y u) (λ y u. put_in (find x u.vars) x q p (low spell tag v) y u) (rel_eval e (n + 1 + nodes i) t)
            (λ y u. rel_put x q p v y u)))
        rel_stm (Stm.return p e) n st =
            rel_visit p st _ _ (λ s. rel_got _ _ (return_part n) (λ v t. Fin (End.returned v) t) (λ v t. Fin (End.returned v) t) (rel_eval e (n + 1) s) (λ v t. refl))
        rel_stm (Stm.leave p) n st = rel_visit p st (λ s. Fin (End.returned null) s) (λ s. Fin (End.returned null) s) (λ s. refl)
        rel_stm (Stm.cases p arms els) n st =
            rel_visit p st _ _ (λ s. rel_arms arms n 1 (n + 1) (n + 1 + arms_nodes arms) els _ _ (λ t. rel_else els (n + 1 + arms_nodes arms) t) s)
        rel_stm (Stm.while p e b) n st =
            rel_visit p st _ _ (λ s. rel_turns n (n + 1 + nodes e) p b (eval_stms w run b (n + 1 + nodes e) 0 (n + 1 + nodes e + 1))
            (eval_stms over_names walk b (n + 1 + nodes e) 0 (n + 1 + nodes e + 1)) (λ z. rel_stms b (n + 1 + nodes e) 0 (n + 1 + nodes e + 1) z) (suc visits) e s)
        rel_stm (Stm.repeat p b e) n st =
            rel_visit p st _ _ (λ s. rel_repeats n (n + 1 + block_nodes b) p b (eval_stms w run b (n + 1) 0 (n + 1 + 1)) (eval_stms over_names walk b (n + 1) 0 (n + 1 + 1))
            (λ z. rel_stms b (n + 1) 0 (n + 1 + 1) z) (suc visits) e s)
        rel_stm (Stm.for p x e b) n st =
            rel_visit p st _ _ (λ s. rel_got _ _ (for_list n (n + 1 + nodes e) p x b) _
            (λ v t. each_of v n (n + 1 + nodes e) p x b (eval_stms over_names walk b (n + 1 + nodes e) 0 (n + 1 + nodes e + 1)) t) (rel_eval e (n + 1) s)
            (λ v t. rel_each_of n (n + 1 + nodes e) p b (eval_stms w run b (n + 1 + nodes e) 0 (n + 1 + nodes e + 1)) (eval_stms over_names walk b (n + 1 + nodes e) 0 (n + 1 + nodes e + 1))
            (λ z. rel_stms b (n + 1 + nodes e) 0 (n + 1 + nodes e + 1) z) v x t))
        rel_stm (Stm.just p e) n st =
            rel_visit p st _ _ (λ s. rel_got _ _ (just_part n) (λ v t. Fin End.goes t) (λ v t. Fin End.goes t) (rel_eval e (n + 1) s) (λ v t. refl))

        rel_stms : (b : Stms) (n k m : ℕ) (st : St N) → Rel (eval_stms w run b n k m st) (eval_stms over_names walk b n k m (low_st spell tag st))
        rel_stms Stms.no_stms n k m st = refl
        rel_stms (Stms.stm a more) n k m st =
            rel_goes _ _ (block_at n (k + 1) (m + stm_nodes a) more) _ _ (rel_stm a m st) (λ s. rel_stms more n (k + 1) (m + stm_nodes a) s)

        rel_arms : (arms : Arms) (n k m i : ℕ) (els : Else) (go : St N → Res N) (to : St (List ℕ) → Res (List ℕ)) → ((s : St N) → Rel (go s) (to (low_st spell tag s))) → (st : St N)
            → Rel (eval_arms w run arms n k m i els go st) (eval_arms over_names walk arms n k m i els to (low_st spell tag st))
        rel_arms Arms.no_arms n k m i els go to h st = h st
        rel_arms (Arms.arm p e blk arms) n k m i els go to h st =
            rel_got _ _ (arm_test n k (m + nodes e) i p blk arms els) _ _ (rel_eval e m st)
            (λ v s. rel_decide v p s _ _ (λ t. eval_stms over_names walk blk (m + nodes e) 0 (m + nodes e + 1) t)
            (λ t. eval_arms over_names walk arms n (k + 1) (m + nodes e + block_nodes blk) i els to t) (rel_stms blk (m + nodes e) 0 (m + nodes e + 1) s)
            (rel_arms arms n (k + 1) (m + nodes e + block_nodes blk) i els go to h s))

        rel_else : (els : Else) (n : ℕ) (st : St N) → Rel (eval_else w run els n st) (eval_else over_names walk els n (low_st spell tag st))
        rel_else Else.no_else n st = refl
        rel_else (Else.otherwise b) n st = rel_stms b n 0 (n + 1) st

      -- ---- forms under way

      rel_got_end : (k : Val N → St N → Res N) (h : Val (List ℕ) → St (List ℕ) → Res (List ℕ)) → ((v : Val N) (st : St N) → Rel (k v st) (h (low spell tag v) (low_st spell tag st)))
          → (e : End N) (st : St N) → Rel (on_got k e st) (on_got h (low_end spell tag e) (low_st spell tag st))
      rel_got_end k h g End.goes st = refl
      rel_got_end k h g (End.got v) st = g v st
      rel_got_end k h g (End.returned v) st = refl
      rel_got_end k h g (End.failed f) st = refl

      rel_goes_end : (k : St N → Res N) (h : St (List ℕ) → Res (List ℕ)) → ((st : St N) → Rel (k st) (h (low_st spell tag st))) → (e : End N) (st : St N)
          → Rel (on_goes k e st) (on_goes h (low_end spell tag e) (low_st spell tag st))
      rel_goes_end k h g End.goes st = g st
      rel_goes_end k h g (End.got v) st = refl
      rel_goes_end k h g (End.returned v) st = refl
      rel_goes_end k h g (End.failed f) st = refl

      rel_block : (b : Stms) (n : ℕ) (st : St N) → Rel (eval_block w run b n st) (eval_block over_names walk b n (low_st spell tag st))
      rel_block b n st = rel_stms b n 0 (n + 1) st

      rel_while : (n m : ℕ) (p : Place) (e : Exp) (b : Stms) (st : St N) → Rel (go_while w run n m p e b st) (go_while over_names walk n m p e b (low_st spell tag st))
      rel_while n m p e b st = rel_turns n m p b (eval_block w run b m) (eval_block over_names walk b m) (rel_block b m) (suc visits) e st

      rel_repeat : (n m : ℕ) (p : Place) (b : Stms) (e : Exp) (st : St N) → Rel (go_repeat w run n m p b e st) (go_repeat over_names walk n m p b e (low_st spell tag st))
      rel_repeat n m p b e st = rel_repeats n m p b (eval_block w run b (n + 1)) (eval_block over_names walk b (n + 1)) (rel_block b (n + 1)) (suc visits) e st

      -- a form under way, lowered, goes on as it does
      pub rel_after : (en : Entry N) (e : End N) (st : St N) → Rel (after w run en e st) (after over_names walk (low_entry spell tag en) (low_end spell tag e) (low_st spell tag st))
      rel_after (parens_in n) = rel_got_end gives gives (λ v s. refl)
      rel_after (part_at n k m o p vs es) =
          rel_got_end _ (λ v s. eval_parts over_names walk es n (k + 1) m o p (map (low spell tag) vs ++ v ∷ []) s)
          (λ v s. same_as _ _ _ (ap (λ us. eval_parts over_names walk es n (k + 1) m o p us (low_st spell tag s)) (map_push (low spell tag) vs v)) (rel_parts es n (k + 1) m o p (vs ++ v ∷ []) s))
      rel_after (chain_first n m ls) = rel_got_end _ (λ v s. eval_links over_names walk ls n 2 m v s) (λ v s. rel_links ls n 2 m v s)
      rel_after (chain_more n k m o p v ls) =
          rel_got_end _ (λ x s. visit p s (λ t. answer (oper o (low spell tag v) x) p t (λ y u. eval_links over_names walk ls n (k + 1) m y u)))
          (λ x s. rel_visit p s _ _ (λ t. rel_answer (oper o v x) _ p t _ _ (oper_low o v x) (λ y. rel_links ls n (k + 1) m y t)))
      rel_after (logic_at n k m j q ls) = rel_got_end _ (λ v s. eval_ands over_names walk ls n (k + 1) m j q v s) (λ v s. rel_ands ls n (k + 1) m j q v s)
      rel_after (prefix_part n ss) = rel_got_end _ (λ v s. signs over_names ss n 2 v s) (λ v s. rel_signs ss n 2 v s)
      rel_after (star_wait n k d ss) = rel_got_end _ (λ v s. signs over_names ss n (k + 1) v s) (λ v s. rel_signs ss n (k + 1) v s)
      rel_after (postfix_first n m ss) = rel_got_end _ (λ v s. eval_steps over_names walk ss n 2 m v s) (λ v s. rel_steps ss n 2 m v s)
      rel_after (index_at n k m p v ss) =
          rel_got_end _ (λ x s. visit p s (λ t. answer (index (low spell tag v) x) p t (λ y u. eval_steps over_names walk ss n (k + 1) m y u)))
          (λ x s. rel_visit p s _ _ (λ t. rel_answer (index v x) _ p t _ _ (index_low spell tag v x) (λ y. rel_steps ss n (k + 1) m y t)))
      rel_after (arg_at n k m p g vs es ss) =
          rel_got_end _ (λ v s. eval_args over_names walk es n (k + 1) m p (low spell tag g) (map (low spell tag) vs ++ v ∷ []) ss
          (λ l i f c us s. enter over_names walk f c us p n l i ss s (λ y u. eval_steps over_names walk ss n (l + 1) i y u)) s)
          (λ v s. same_as _ _ _ (ap (λ us. eval_args over_names walk es n (k + 1) m p (low spell tag g) us ss
          (λ l i f c us s. enter over_names walk f c us p n l i ss s (λ y u. eval_steps over_names walk ss n (l + 1) i y u)) (low_st spell tag s)) (map_push (low spell tag) vs v))
          (rel_args es n (k + 1) m p g (vs ++ v ∷ []) ss _ _ (λ l i f c us s. rel_enter f c us p n l i ss s (λ y u. eval_steps w run ss n (l + 1) i y u)
          (λ y u. eval_steps over_names walk ss n (l + 1) i y u) (λ y u. rel_steps ss n (l + 1) i y u)) s))
      rel_after (call_open n k m f xs ss) = rel_body xs (λ y u. eval_steps w run ss n (k + 1) m y u) (λ y u. eval_steps over_names walk ss n (k + 1) m y u) (λ y u. rel_steps ss n (k + 1) m y u)
      rel_after (exec_wait n ds) = rel_got_end gives gives (λ v s. refl)
      rel_after (set_part n x) = rel_got_end (λ v t. Fin End.goes (set_var x v t)) (λ v t. Fin End.goes (set_var x v t)) (λ v t. rel_set x v t)
      rel_after (add_part n x q p) = rel_got_end (λ v t. add_to (find x t.vars) x q p v t) (λ v t. add_to (find x t.vars) x q p v t) (λ v t. rel_add x q p v t)
      rel_after (put_index n m x q p e) =
          rel_got_end _ (λ v t. then_do (eval over_names walk e m t) (put_value n x q p v) (on_got (λ y u. put_in (find x u.vars) x q p v y u)))
          (λ v t. rel_got _ _ (put_value n x q p v) (λ y u. put_in (find x u.vars) x q p v y u) (λ y u. put_in (find x u.vars) x q p (low spell tag v) y u) (rel_eval e m t)
          (λ y u. rel_put x q p v y u))
      rel_after (put_value n x q p v) =
          rel_got_end (λ y u. put_in (find x u.vars) x q p v y u) (λ y u. put_in (find x u.vars) x q p (low spell tag v) y u) (λ y u. rel_put x q p v y u)
      rel_after (return_part n) = rel_got_end (λ v t. Fin (End.returned v) t) (λ v t. Fin (End.returned v) t) (λ v t. refl)
      rel_after (just_part n) = rel_got_end (λ v t. Fin End.goes t) (λ v t. Fin End.goes t) (λ v t. refl)
      rel_after (arm_test n k m i p b arms els) =
          rel_got_end _ (λ v s. decide v p s (λ t. eval_block over_names walk b m t)
          (λ t. eval_arms over_names walk arms n (k + 1) (m + block_nodes b) i els (λ u. eval_else over_names walk els i u) t))
          (λ v s. rel_decide v p s _ _ (λ t. eval_block over_names walk b m t) (λ t. eval_arms over_names walk arms n (k + 1) (m + block_nodes b) i els (λ u. eval_else over_names walk els i u) t)
          (rel_block b m s) (rel_arms arms n (k + 1) (m + block_nodes b) i els (λ u. eval_else w run els i u) (λ u. eval_else over_names walk els i u) (λ u. rel_else els i u) s))
      rel_after (while_test n m p e b) =
          rel_got_end _ (λ v s. decide v p s (λ t. then_do (eval_block over_names walk b m t) (while_body n m p e b) (on_goes (go_while over_names walk n m p e b))) (λ t. Fin End.goes t))
          (λ v s. rel_decide v p s _ _ (λ t. then_do (eval_block over_names walk b m t) (while_body n m p e b) (on_goes (go_while over_names walk n m p e b))) (λ t. Fin End.goes t)
          (rel_goes (eval_block w run b m s) (eval_block over_names walk b m (low_st spell tag s)) (while_body n m p e b) (go_while w run n m p e b) (go_while over_names walk n m p e b)
          (rel_block b m s) (rel_while n m p e b)) refl)
      rel_after (while_body n m p e b) = rel_goes_end (go_while w run n m p e b) (go_while over_names walk n m p e b) (rel_while n m p e b)
      rel_after (repeat_body n m p b e) =
          rel_goes_end _ (λ s. then_do (eval over_names walk e m s) (repeat_test n m p b e) (on_got (λ v t. decide v p t (go_repeat over_names walk n m p b e) (λ u. Fin End.goes u))))
          (λ s. rel_got _ _ (repeat_test n m p b e) _ (λ v t. decide v p t (go_repeat over_names walk n m p b e) (λ u. Fin End.goes u)) (rel_eval e m s)
          (λ v t. rel_decide v p t _ _ (go_repeat over_names walk n m p b e) (λ u. Fin End.goes u) (rel_repeat n m p b e t) refl))
      rel_after (repeat_test n m p b e) =
          rel_got_end _ (λ v t. decide v p t (go_repeat over_names walk n m p b e) (λ u. Fin End.goes u))
          (λ v t. rel_decide v p t _ _ (go_repeat over_names walk n m p b e) (λ u. Fin End.goes u) (rel_repeat n m p b e t) refl)
      rel_after (for_list n m p x b) =
          rel_got_end _ (λ v t. each_of v n m p x b (eval_block over_names walk b m) t) (λ v t. rel_each_of n m p b (eval_block w run b m) (eval_block over_names walk b m) (rel_block b m) v x t)
      rel_after (for_body n m t p x vs b) =
          rel_goes_end _ (each (left t (low_vals spell tag vs)) n m t p x (low_vals spell tag vs) b (eval_block over_names walk b m))
          (λ s. same_as _ _ _ (ap (λ us. each us n m t p x (low_vals spell tag vs) b (eval_block over_names walk b m) (low_st spell tag s)) (sym (left_low spell tag t vs)))
          (rel_each n m p b (eval_block w run b m) (eval_block over_names walk b m) (rel_block b m) (left t vs) t x vs s))
      rel_after (block_at n k m b) = rel_goes_end _ (λ s. eval_stms over_names walk b n k m s) (λ s. rel_stms b n k m s)

    rel_in_body : (o : Option Body) (c : Pairs N) (vs : Vals N) (p : Place) (st : St N) (run : Stms → ℕ → St N → Res N) (walk : Stms → ℕ → St (List ℕ) → Res (List ℕ))
        → ((b : Stms) (n : ℕ) (s : St N) → Rel (run b n s) (walk b n (low_st spell tag s)))
        → Rel (in_body w o c vs p st run) (in_body over_names o (low_pairs spell tag c) (low_vals spell tag vs) p (low_st spell tag st) walk)
    rel_in_body None c vs p st run walk g = refl
    rel_in_body (Some x) c vs p st run walk g =
        same_as _ _ _ (ap (λ (xs : Pairs (List ℕ)). walk x.block x.node (record { vars = xs; count = st.count })) (sym (bind_low spell tag x.params vs c)))
        (g x.block x.node (with_vars (bind x.params vs c) st))

    -- the body of a function on lowered arguments
    pub rel_call : (d : ℕ) (f : List ℕ) (c : Pairs N) (vs : Vals N) (p : Place) (st : St N)
        → Rel (body_at w d f c vs p st) (body_at over_names d f (low_pairs spell tag c) (low_vals spell tag vs) p (low_st spell tag st))
    rel_call zero f c vs p st = refl
    rel_call (suc d) f c vs p st =
        rel_in_body (body_of f w.script) c vs p st _ (λ b n s. eval_block over_names (body_at over_names d) b n s)
        (λ b n s. rel_stms (body_at w d) (body_at over_names d) (λ g us q t. rel_call d g us q t) b n 0 (n + 1) s)

    inside_low : (en : Entry N) (d : ℕ) → inside over_names (low_entry spell tag en) d ≡ inside w en d
    inside_low (call_open n k m f xs ss) zero = refl
    inside_low (call_open n k m f xs ss) (suc d) = refl
    inside_low (parens_in n) d = refl
    inside_low (part_at n k m o p vs es) d = refl
    inside_low (chain_first n m ls) d = refl
    inside_low (chain_more n k m o p v ls) d = refl
    inside_low (logic_at n k m j q ls) d = refl
    inside_low (prefix_part n ss) d = refl
    inside_low (star_wait n k x ss) d = refl
    inside_low (postfix_first n m ss) d = refl
    inside_low (index_at n k m p v ss) d = refl
    inside_low (arg_at n k m p g vs es ss) d = refl
    inside_low (exec_wait n ds) d = refl
    inside_low (set_part n x) d = refl
    inside_low (add_part n x q p) d = refl
    inside_low (put_index n m x q p e) d = refl
    inside_low (put_value n x q p v) d = refl
    inside_low (return_part n) d = refl
    inside_low (just_part n) d = refl
    inside_low (arm_test n k m i p b arms els) d = refl
    inside_low (while_test n m p e b) d = refl
    inside_low (while_body n m p e b) d = refl
    inside_low (repeat_body n m p b e) d = refl
    inside_low (repeat_test n m p b e) d = refl
    inside_low (for_list n m p x b) d = refl
    inside_low (for_body n m t p x vs b) d = refl
    inside_low (block_at n k m b) d = refl

    -- lowered forms under way go on as they do
    pub rel_plug : (d : ℕ) (fr : List (Entry N)) (r : Res N) (q : Res (List ℕ)) → Rel r q → Rel (plug w d fr r) (plug over_names d (map (low_entry spell tag) fr) q)
    rel_plug d [] r q g = g
    rel_plug d (en ∷ fr) r q g =
        rel_then (plug w (inside w en d) fr r) (plug over_names (inside over_names (low_entry spell tag en) d) (map (low_entry spell tag) fr) q) en (after w (body_at w d) en)
        (after over_names (body_at over_names d) (low_entry spell tag en))
        (same_as _ _ _ (ap (λ i. plug over_names i (map (low_entry spell tag) fr) q) (sym (inside_low en d))) (rel_plug (inside w en d) fr r q g))
        (rel_after (body_at w d) (body_at over_names d) (rel_call d) en)

    -- the rest of a run from a wait, lowered
    pub rel_rest : (d : ℕ) (q : Wait N) (fr : List (Entry N)) (st : St N) (os : List (Object N))
        → Rel (plug w d fr (Fin (wait_end w q os) st)) (plug over_names d (map (low_entry spell tag) fr)
        (Fin (wait_end over_names (low_wait spell tag q) (map (low_obj spell tag) os)) (low_st spell tag st)))
    rel_rest d q fr st os =
        rel_plug d fr (Fin (wait_end w q os) st) _ (ap (λ e. Fin e (low_st spell tag st)) (wait_end_low q os))
