-- At each wait, each form under way stands on the part of the one below that is pending or runs, and keeps what the table says.
use Rattle.std.proofs.Common.{◌≡◌, ℕ, zero, suc, ◌+◌, ◌≤◌, Bool, true, false, List, [], ◌∷◌, ◌++◌, map, length, reverse, Option, Some, None, Ok, Err}
use Rattle.std.proofs.Common.{nat_lt, nat_eq, ◌&&◌, inl, inr, pos, negsuc, refl, sym, ap, ◌∙◌, subst, arith, is_some}
use Rattle.std.specs.Option.{option_and_then}
use Rattle.sky_base.specs.Val.{Val, Vals, Pairs, Desc, null, truth, num, text, list, dict, fun, ref, no_vals, val, no_pairs, count, vals_of, refs_to}
use Rattle.sky_base.specs.Op.{Answer, index, find, negated, opposite, len, keys, has, range, limited, set_at, grown, dict_from}
use Rattle.sky_base.specs.Tree.{Place, nowhere, Oper, Junction, Sign, SignAt, Form, Exp, Exps, Links, Ands, Steps, Stm, Stms, Arms, Else, FunDef}
use Rattle.sky_base.specs.Tree.{Script, nodes, exps_nodes, stm_nodes, block_nodes, arms_nodes}
use Rattle.sky_base.specs.Res.{visits, Object, End, St, Entry, parens_in, part_at, chain_first, chain_more, logic_at, prefix_part, star_wait}
use Rattle.sky_base.specs.Res.{postfix_first, index_at, arg_at, call_open, exec_wait, set_part, add_part, put_index, put_value, return_part}
use Rattle.sky_base.specs.Res.{just_part, arm_test, while_test, while_body, repeat_body, repeat_test, for_list, for_body, block_at, node_of, kept_of}
use Rattle.sky_base.specs.Res.{opens, Wait, one_of, all_of, Res, Fin, Tell, Ask, then_do, on_got, on_goes, with_vars, on_body, gives, counted}
use Rattle.sky_base.specs.Res.{visited, visit, answer, tell_all}
use Rattle.sky_base.specs.Eval.{World, find_fun, is_one_of, Body, body_of, bind, set_var, lit_val, named, closed, oper, outputs, truth_of, decide}
use Rattle.sky_base.specs.Eval.{joins, add_to, put_in, turns, repeats, each, each_of, with_one, with_two, with_three, ask, wait_end, spawn_if}
use Rattle.sky_base.specs.Eval.{spawn_fun, spawn_list, spawned, outputs_if, outputs_count, outputs_of, exec_ask, input_if, input_of, formed, deref}
use Rattle.sky_base.specs.Eval.{signed, signs, call_if, call_fun, called, enter, eval, eval_parts, eval_links, eval_ands, eval_steps, eval_args}
use Rattle.sky_base.specs.Eval.{eval_stm, eval_stms, eval_arms, eval_else, in_body, body_at}
use Rattle.sky_base_law.specs.Opened.{Node, exp_node, stm_node, block_node, HasExp, HasExps, HasLinks, HasAnds, HasSteps, HasStm, HasStms, HasArms}
use Rattle.sky_base_law.specs.Opened.{HasElse, HasScript}
use Rattle.sky_base_law.specs.Nodes.{node_at}
use Rattle.sky_base_law.specs.Tasks.{In}
use Rattle.sky_base_law.proofs.BodiesLaw.{HasBody, has_body, body_stands}
use Rattle.sky_base_law.specs.Sound.{IsFun}
use Rattle.sky_base_law.proofs.Lists.{length_push, up_two}
use Rattle.sky_state.specs.Table.{Row, part, pending, turn, open_call, on_by, past_part, past_link, past_and, past_arm, past_stm, past_sign, Spot}
use Rattle.sky_state.specs.Table.{in_index, in_call, spot_of, past_spot, part_row, link_row, and_row, sign_row, spot_row, exp_row, arm_row}
use Rattle.sky_state.specs.Table.{arm_blocks, else_block, stm_row, stm_places, ran_row, block_row, row}
use Rattle.sky_state.specs.Table as table
use Rattle.sky_state.specs.Fits.{AllReferences}
use Rattle.sky_state.specs.Chained.{body_places, row_at, KeptBy, Above, Chained}

-- ---- places in lists

pub in_left : (x : ℕ) (xs ys : List ℕ) → In x xs → In x (xs ++ ys)
in_left x [] ys h = absurd h
in_left x (z ∷ xs) ys (inl e) = inl e
in_left x (z ∷ xs) ys (inr h) = inr (in_left x xs ys h)

pub in_right : (x : ℕ) (xs ys : List ℕ) → In x ys → In x (xs ++ ys)
in_right x [] ys h = h
in_right x (z ∷ xs) ys h = inr (in_right x xs ys h)

-- one step on from a place
pub next_place : {A : Type 0} (f : A → Option A) (i : ℕ) (x y z : A) → on_by f i x ≡ Some y → f y ≡ Some z → on_by f (suc i) x ≡ Some z
next_place f i x y z e g = ap (option_and_then f) e ∙ g

pub up_one : (k i : ℕ) → k ≡ suc i → k + 1 ≡ suc (suc i)
up_one k i e = omega (arith, e)

-- the node of a body is that of its block
pub block_of_body : (sc : Script) (f : List ℕ) (b : Body) → body_of f sc ≡ Some b → node_at sc b.node ≡ Some (block_node b.block)
block_of_body sc f b e = (body_stands sc f b e).0

one_more : (k : ℕ) → k + 1 ≡ suc k
one_more k = omega arith

module _ {N : Type 0} (w : World N) (at : ℕ → Option Node) where
  abbrev Chain : List ℕ → List (Entry N) → Type 0
  Chain ps fr = Chained w.script at ps fr

  abbrev NoMore : List (Entry N) → Type 0
  NoMore fr = fr ≡ []

  abbrev Row_of : Entry N → Row
  Row_of en = row_at w.script at en

  abbrev Keeps : Row → List (Val N) → Type 0
  Keeps r vs = KeptBy w.script at r vs

  abbrev pub Linked : List ℕ → Res N → Type 0
  Linked ps (Fin e st) = Unit {0}
  Linked ps (Tell d r) = Unit {0} × Linked ps r
  Linked ps (Ask q fr st k) = Chain ps fr × ((os : List (Object N)) → Linked ps (k os))

  -- ---- one entry more

  -- a part of the entry is pending or runs
  pub over_part : (ps ms : List ℕ) (k : ℕ) (en : Entry N) (fr : List (Entry N)) → In (node_of en) ps → Row_of en ≡ part k ms → length (kept_of en) ≡ k → opens en ≡ None → Chain ms fr
      → Chain ps (en ∷ fr)
  over_part ps ms k en fr i e n o c = (
    i,
    subst (λ r. Keeps r (kept_of en)) (sym e) (record { as_many = n; kinds = tt; taken = tt }),
    subst (λ r. Above w.script at r (opens en) (fr ≡ []) (λ qs. Chain qs fr)) (sym e) (subst (λ x. Above w.script at (part k ms) x (fr ≡ []) (λ qs. Chain qs fr)) (sym o) c),
  )

  pub over_turn : (ps : List ℕ) (n m t : ℕ) (p : Place) (x : List ℕ) (us : Vals N) (b : Stms) (fr : List (Entry N)) → In n ps → row (at n) n 2 ≡ turn m → t ≤ count us → Chain (m ∷ []) fr
      → Chain ps (for_body n m t p x us b ∷ fr)
  over_turn ps n m t p x us b fr i e l c = (
    i,
    subst (λ r. Keeps r (list us ∷ num (pos t) ∷ [])) (sym e) (record { as_many = refl; kinds = (tt, tt); taken = l }),
    subst (λ r. Above {N = N} w.script at r None (fr ≡ []) (λ qs. Chain qs fr)) (sym e) c,
  )

  pub over_call : (ps : List ℕ) (n k m : ℕ) (f : List ℕ) (xs : Pairs N) (ss : Steps) (fr : List (Entry N)) → In n ps → row (at n) n k ≡ open_call → IsFun w.script f
      → Chain (body_places (body_of f w.script)) fr → Chain ps (call_open n k m f xs ss ∷ fr)
  over_call ps n k m f xs ss fr i e g c =
      (i, subst (λ r. Keeps r []) (sym e) (record { as_many = refl; kinds = tt; taken = tt }), subst (λ r. Above w.script at r (Some (f, xs)) (fr ≡ []) (λ qs. Chain qs fr)) (sym e) (g, c))

  at_star : (ps : List ℕ) (n k : ℕ) (d : Desc N) (ss : List SignAt) → In n ps → row (at n) n k ≡ table.star → Chain ps (star_wait n k d ss ∷ [])
  at_star ps n k d ss i e =
      (i, subst (λ r. Keeps r (ref d ∷ [])) (sym e) (record { as_many = refl; kinds = tt; taken = tt }), subst (λ r. Above {N = N} w.script at r None (NoMore []) (λ qs. Chain qs [])) (sym e) refl)

  all_refs : (ds : List (Desc N)) → AllReferences (refs_to ds)
  all_refs [] = tt
  all_refs (d ∷ ds) = (tt, all_refs ds)

  at_exec : (ps : List ℕ) (n : ℕ) (ds : List (Desc N)) → In n ps → row (at n) n 4 ≡ table.outputs → Chain ps (exec_wait n ds ∷ [])
  at_exec ps n ds i e = (
    i,
    subst (λ r. Keeps r (list (refs_to ds) ∷ [])) (sym e) (record { as_many = refl; kinds = all_refs ds; taken = tt }),
    subst (λ r. Above {N = N} w.script at r None (NoMore []) (λ qs. Chain qs [])) (sym e) refl,
  )

  -- ---- runs

  pub linked_then : (ps ms : List ℕ) (r : Res N) (en : Entry N) (k : End N → St N → Res N) → ((fr : List (Entry N)) → Chain ms fr → Chain ps (en ∷ fr)) → Linked ms r
      → ((e : End N) (st : St N) → Linked ps (k e st)) → Linked ps (then_do r en k)
  linked_then ps ms (Fin e st) en k up g h = h e st
  linked_then ps ms (Tell d r) en k up g h = (tt, linked_then ps ms r en k up g.1 h)
  linked_then ps ms (Ask q fr st p) en k up g h = (up fr g.0, λ os. linked_then ps ms (p os) en k up (g.1 os) h)

  pub got_each : (ps : List ℕ) (k : Val N → St N → Res N) → ((v : Val N) (st : St N) → Linked ps (k v st)) → (e : End N) (st : St N) → Linked ps (on_got k e st)
  got_each ps k h End.goes st = tt
  got_each ps k h (End.got v) st = h v st
  got_each ps k h (End.returned v) st = tt
  got_each ps k h (End.failed f) st = tt

  pub goes_each : (ps : List ℕ) (k : St N → Res N) → ((st : St N) → Linked ps (k st)) → (e : End N) (st : St N) → Linked ps (on_goes k e st)
  goes_each ps k h End.goes st = h st
  goes_each ps k h (End.got v) st = tt
  goes_each ps k h (End.returned v) st = tt
  goes_each ps k h (End.failed f) st = tt

  -- a form that keeps so many values, and of which one part is pending
  pub linked_got : (ps : List ℕ) (i m : ℕ) (r : Res N) (en : Entry N) (k : Val N → St N → Res N) → In (node_of en) ps → Row_of en ≡ pending i m → length (kept_of en) ≡ i → opens en ≡ None
      → Linked (m ∷ []) r → ((v : Val N) (st : St N) → Linked ps (k v st)) → Linked ps (then_do r en (on_got k))
  linked_got ps i m r en k a e n o g h = linked_then ps (m ∷ []) r en (on_got k) (λ fr c. over_part ps (m ∷ []) i en fr a e n o c) g (got_each ps k h)

  pub linked_goes : (ps ms : List ℕ) (r : Res N) (en : Entry N) (k : St N → Res N) → In (node_of en) ps → Row_of en ≡ part 0 ms → length (kept_of en) ≡ 0 → opens en ≡ None → Linked ms r
      → ((st : St N) → Linked ps (k st)) → Linked ps (then_do r en (on_goes k))
  linked_goes ps ms r en k a e n o g h = linked_then ps ms r en (on_goes k) (λ fr c. over_part ps ms 0 en fr a e n o c) g (goes_each ps k h)

  linked_wait : (ps : List ℕ) (q : Wait N) (en : Entry N) (st : St N) (k : Val N → St N → Res N) → Chain ps (en ∷ []) → ((v : Val N) (s : St N) → Linked ps (k v s))
      → Linked ps (then_do (ask w q st) en (on_got k))
  linked_wait ps q en st k c h = (c, λ os. got_each ps k h (wait_end w q os) st)

  pub linked_body : (ps : List ℕ) (xs : Pairs N) (k : Val N → St N → Res N) → ((v : Val N) (st : St N) → Linked ps (k v st)) → (e : End N) (st : St N) → Linked ps (on_body xs k e st)
  linked_body ps xs k h End.goes st = h null (with_vars xs st)
  linked_body ps xs k h (End.got v) st = h v (with_vars xs st)
  linked_body ps xs k h (End.returned v) st = h v (with_vars xs st)
  linked_body ps xs k h (End.failed f) st = tt

  pub linked_visit : (ps : List ℕ) (p : Place) (st : St N) (k : St N → Res N) → ((s : St N) → Linked ps (k s)) → Linked ps (visit p st k)
  linked_visit ps p st k h = go (nat_lt st.count visits)
    where
      go : (b : Bool) → Linked ps (visited b p st k)
      go true = h (counted st)
      go false = tt

  pub linked_answer : (ps : List ℕ) (o : Answer N) (p : Place) (st : St N) (k : Val N → St N → Res N) → ((v : Val N) → Linked ps (k v st)) → Linked ps (answer o p st k)
  linked_answer ps (Ok v) p st k h = h v
  linked_answer ps (Err e) p st k h = tt

  pub linked_decide : (ps : List ℕ) (v : Val N) (p : Place) (st : St N) (on off : St N → Res N) → Linked ps (on st) → Linked ps (off st) → Linked ps (decide v p st on off)
  linked_decide ps (truth true) p st on off g h = g
  linked_decide ps (truth false) p st on off g h = h
  linked_decide ps null p st on off g h = tt
  linked_decide ps (num z) p st on off g h = tt
  linked_decide ps (text t) p st on off g h = tt
  linked_decide ps (list vs) p st on off g h = tt
  linked_decide ps (dict xs) p st on off g h = tt
  linked_decide ps (fun f c) p st on off g h = tt
  linked_decide ps (ref e) p st on off g h = tt

  linked_joins : (ps : List ℕ) (j : Junction) (v : Val N) (p : Place) (st : St N) (k : St N → Res N) → Linked ps (k st) → Linked ps (joins j v p st k)
  linked_joins ps Junction.both v p st k g = linked_decide ps v p st k _ g tt
  linked_joins ps Junction.either v p st k g = linked_decide ps v p st _ k tt g

  pub linked_add : (ps : List ℕ) (o : Option (Val N)) (x : List ℕ) (q p : Place) (e : Val N) (st : St N) → Linked ps (add_to o x q p e st)
  linked_add ps None x q p e st = tt
  linked_add ps (Some v) x q p e st = linked_answer ps (grown v e) p st _ (λ u. tt)

  pub linked_put : (ps : List ℕ) (o : Option (Val N)) (x : List ℕ) (q p : Place) (i e : Val N) (st : St N) → Linked ps (put_in o x q p i e st)
  linked_put ps None x q p i e st = tt
  linked_put ps (Some v) x q p i e st = linked_answer ps (set_at v i e) p st _ (λ u. tt)

  -- ---- forms of parts

  linked_spawn_if : (ps : List ℕ) (b : Bool) (d : Desc N) (p : Place) (st : St N) → Linked ps (spawn_if w b d p st)
  linked_spawn_if ps false d p st = tt
  linked_spawn_if ps true d p st = (tt, tt)

  linked_spawn_fun : (ps : List ℕ) (o : Option FunDef) (f : List ℕ) (c : Pairs N) (vs : Vals N) (p : Place) (st : St N) → Linked ps (spawn_fun w o f c vs p st)
  linked_spawn_fun ps None f c vs p st = tt
  linked_spawn_fun ps (Some x) f c vs p st = linked_spawn_if ps _ _ p st

  linked_spawn_list : (ps : List ℕ) (f : List ℕ) (c : Pairs N) (a : Val N) (p : Place) (st : St N) → Linked ps (spawn_list w f c a p st)
  linked_spawn_list ps f c (list vs) p st = linked_spawn_fun ps (find_fun f w.script.funs) f c vs p st
  linked_spawn_list ps f c null p st = tt
  linked_spawn_list ps f c (truth x) p st = tt
  linked_spawn_list ps f c (num z) p st = tt
  linked_spawn_list ps f c (text t) p st = tt
  linked_spawn_list ps f c (dict xs) p st = tt
  linked_spawn_list ps f c (fun g cb) p st = tt
  linked_spawn_list ps f c (ref e) p st = tt

  linked_spawned : (ps : List ℕ) (g a : Val N) (p : Place) (st : St N) → Linked ps (spawned w g a p st)
  linked_spawned ps (fun f c) a p st = linked_spawn_list ps f c a p st
  linked_spawned ps null a p st = tt
  linked_spawned ps (truth x) a p st = tt
  linked_spawned ps (num z) a p st = tt
  linked_spawned ps (text t) a p st = tt
  linked_spawned ps (list vs) a p st = tt
  linked_spawned ps (dict xs) a p st = tt
  linked_spawned ps (ref e) a p st = tt

  linked_tell : (ps : List ℕ) (ds : List (Desc N)) (r : Res N) → Linked ps r → Linked ps (tell_all ds r)
  linked_tell ps [] r g = g
  linked_tell ps (x ∷ ds) r g = (tt, linked_tell ps ds r g)

  module _ (ps : List ℕ) (k : List (Desc N) → St N → Res N) (g : (es : List (Desc N)) (st : St N) → Linked ps (k es st)) where
    linked_outputs_if : (b : Bool) (ds : List (Desc N)) (p : Place) (st : St N) → Linked ps (outputs_if w b ds p st k)
    linked_outputs_if false ds p st = tt
    linked_outputs_if true ds p st = linked_tell ps ds _ (g (map w.make ds) st)

    linked_outputs_count : (x : List ℕ) (a n : Val N) (p : Place) (st : St N) → Linked ps (outputs_count w x a n p st k)
    linked_outputs_count x a (num (pos n)) p st = linked_outputs_if (nat_lt 0 n && nat_lt n 65) (outputs x a n 0 n) p st
    linked_outputs_count x a (num (negsuc n)) p st = tt
    linked_outputs_count x a null p st = tt
    linked_outputs_count x a (truth b) p st = tt
    linked_outputs_count x a (text t) p st = tt
    linked_outputs_count x a (list vs) p st = tt
    linked_outputs_count x a (dict xs) p st = tt
    linked_outputs_count x a (fun f c) p st = tt
    linked_outputs_count x a (ref d) p st = tt

    linked_outputs : (x a n : Val N) (p : Place) (st : St N) → Linked ps (outputs_of w x a n p st k)
    linked_outputs (text x) a n p st = linked_outputs_count x a n p st
    linked_outputs null a n p st = tt
    linked_outputs (truth b) a n p st = tt
    linked_outputs (num z) a n p st = tt
    linked_outputs (list vs) a n p st = tt
    linked_outputs (dict xs) a n p st = tt
    linked_outputs (fun f c) a n p st = tt
    linked_outputs (ref d) a n p st = tt

  linked_input_if : (ps : List ℕ) (b : Bool) (k : List ℕ) (p : Place) (st : St N) → Linked ps (input_if w b k p st)
  linked_input_if ps false k p st = tt
  linked_input_if ps true k p st = (tt, tt)

  linked_input : (ps : List ℕ) (v : Val N) (p : Place) (st : St N) → Linked ps (input_of w v p st)
  linked_input ps (text k) p st = linked_input_if ps (is_one_of k w.script.keys) k p st
  linked_input ps null p st = tt
  linked_input ps (truth y) p st = tt
  linked_input ps (num z) p st = tt
  linked_input ps (list vs) p st = tt
  linked_input ps (dict xs) p st = tt
  linked_input ps (fun f c) p st = tt
  linked_input ps (ref e) p st = tt

  linked_one : (ps : List ℕ) (vs : List (Val N)) (p : Place) (st : St N) (k : Val N → Res N) → ((x : Val N) → Linked ps (k x)) → Linked ps (with_one vs p st k)
  linked_one ps [] p st k g = tt
  linked_one ps (x ∷ []) p st k g = g x
  linked_one ps (x ∷ y ∷ vs) p st k g = tt

  linked_two : (ps : List ℕ) (vs : List (Val N)) (p : Place) (st : St N) (k : Val N → Val N → Res N) → ((x y : Val N) → Linked ps (k x y)) → Linked ps (with_two vs p st k)
  linked_two ps [] p st k g = tt
  linked_two ps (x ∷ []) p st k g = tt
  linked_two ps (x ∷ y ∷ []) p st k g = g x y
  linked_two ps (x ∷ y ∷ z ∷ vs) p st k g = tt

  linked_three : (ps : List ℕ) (vs : List (Val N)) (p : Place) (st : St N) (k : Val N → Val N → Val N → Res N) → (length vs ≡ 3 → (x y z : Val N) → Linked ps (k x y z))
      → Linked ps (with_three vs p st k)
  linked_three ps [] p st k g = tt
  linked_three ps (x ∷ []) p st k g = tt
  linked_three ps (x ∷ y ∷ []) p st k g = tt
  linked_three ps (x ∷ y ∷ z ∷ []) p st k g = g refl x y z
  linked_three ps (x ∷ y ∷ z ∷ u ∷ vs) p st k g = tt

  -- an `exec` whose parts are all there waits at step 4
  linked_exec : (ps : List ℕ) (n : ℕ) (p : Place) (es : Exps) (m i : ℕ) (ds : List (Desc N)) (st : St N) → In n ps → at n ≡ Some (exp_node (Exp.parts Form.exec p es)) → on_by past_part i (n + 1, es)
      ≡ Some (m, Exps.no_exps) → i ≡ 3 → Linked ps (exec_ask w n ds st)
  linked_exec ps n p es m i ds st a here done is =
      linked_wait ps (all_of ds) (exec_wait n ds) st gives (at_exec ps n ds a (ap (λ x. row x n 4) here ∙ ap (part_row Form.exec 3) (ap (λ j. on_by past_part j (n + 1, es)) (sym is) ∙ done)))
      (λ v s. tt)

  linked_formed : (ps : List ℕ) (o : Form) (vs : List (Val N)) (n : ℕ) (p : Place) (es : Exps) (m i : ℕ) (st : St N) → In n ps → at n ≡ Some (exp_node (Exp.parts o p es))
      → on_by past_part i (n + 1, es) ≡ Some (m, Exps.no_exps) → length vs ≡ i → Linked ps (formed w o vs n p st)
  linked_formed ps Form.list vs n p es m i st a here done is = linked_answer ps (limited (list (vals_of vs))) p st gives (λ v. tt)
  linked_formed ps Form.dict vs n p es m i st a here done is = linked_answer ps (dict_from vs no_pairs) p st gives (λ v. tt)
  linked_formed ps Form.spawn vs n p es m i st a here done is = linked_two ps vs p st _ (λ x y. linked_spawned ps x y p st)
  linked_formed ps Form.spawn_exec vs n p es m i st a here done is =
      linked_three ps vs p st _ (λ len x y z. linked_outputs ps (λ ds s. gives (list (refs_to ds)) s) (λ ds s. tt) x y z p st)
  linked_formed ps Form.exec vs n p es m i st a here done is =
      linked_three ps vs p st _ (λ len x y z. linked_outputs ps (λ ds s. exec_ask w n ds s) (λ ds s. linked_exec ps n p es m i ds s a here done (sym is ∙ len)) x y z p st)
  linked_formed ps Form.ref vs n p es m i st a here done is = linked_one ps vs p st _ (λ x. linked_input ps x p st)
  linked_formed ps Form.len vs n p es m i st a here done is = linked_one ps vs p st _ (λ x. linked_answer ps (len x) p st gives (λ v. tt))
  linked_formed ps Form.keys vs n p es m i st a here done is = linked_one ps vs p st _ (λ x. linked_answer ps (keys x) p st gives (λ v. tt))
  linked_formed ps Form.has vs n p es m i st a here done is = linked_two ps vs p st _ (λ x y. linked_answer ps (has x y) p st gives (λ v. tt))
  linked_formed ps Form.range vs n p es m i st a here done is = linked_two ps vs p st _ (λ x y. linked_answer ps (range x y) p st gives (λ v. tt))

  -- ---- the rows of forms with several steps

  part_at_row : (n k m i : ℕ) (o : Form) (p : Place) (e : Exp) (es all : Exps) → at n ≡ Some (exp_node (Exp.parts o p all)) → on_by past_part i (n + 1, all) ≡ Some (m, Exps.exp e es) → k ≡ suc i
      → row (at n) n k ≡ pending i m
  part_at_row n k m i o p e es all here rest is =
      ap (λ x. row x n k) here ∙ ap (exp_row (Exp.parts o p all) n) is ∙ ap (part_row o i) rest

  link_at_row : (n k m i : ℕ) (o : Oper) (p : Place) (e : Exp) (ls : Links) (f : Exp) (all : Links) → at n ≡ Some (exp_node (Exp.chain f all)) → on_by past_link i (n + 1 + nodes f, all)
      ≡ Some (m, Links.link o p e ls) → k ≡ suc (suc i) → row (at n) n k ≡ pending 1 m
  link_at_row n k m i o p e ls f all here rest is =
      ap (λ x. row x n k) here ∙ ap (exp_row (Exp.chain f all) n) is ∙ ap link_row rest

  and_at_row : (n k m i : ℕ) (j : Junction) (p : Place) (e : Exp) (ls : Ands) (f : Exp) (all : Ands) → at n ≡ Some (exp_node (Exp.logic j f all)) → on_by past_and i (n + 1 + nodes f, all)
      ≡ Some (m, Ands.and p e ls) → k ≡ suc (suc i) → row (at n) n k ≡ pending 0 m
  and_at_row n k m i j p e ls f all here rest is =
      ap (λ x. row x n k) here ∙ ap (exp_row (Exp.logic j f all) n) is ∙ ap and_row rest

  sign_at_row : (n k i : ℕ) (o : SignAt) (ss all : List SignAt) (f : Exp) → at n ≡ Some (exp_node (Exp.prefix all f)) → on_by past_sign i (reverse all) ≡ Some (o ∷ ss) → k ≡ suc (suc i)
      → row (at n) n k ≡ sign_row (Some (o ∷ ss))
  sign_at_row n k i o ss all f here rest is =
      ap (λ x. row x n k) here ∙ ap (exp_row (Exp.prefix all f) n) is ∙ ap sign_row rest

  spot_at_row : (n k i : ℕ) (q : Spot) (f : Exp) (all : Steps) → at n ≡ Some (exp_node (Exp.postfix f all)) → on_by past_spot i (spot_of (n + 1 + nodes f) all) ≡ Some q → k ≡ suc (suc i)
      → row (at n) n k ≡ spot_row (Some q)
  spot_at_row n k i q f all here rest is =
      ap (λ x. row x n k) here ∙ ap (exp_row (Exp.postfix f all) n) is ∙ ap spot_row rest

  arm_at_row : (n k m i : ℕ) (p : Place) (e : Exp) (b : Stms) (arms all : Arms) (els : Else) (q : Place) → at n ≡ Some (stm_node (Stm.cases q all els)) → on_by past_arm i (n + 1, all)
      ≡ Some (m, Arms.arm p e b arms) → k ≡ suc i → row (at n) n k ≡ pending 0 m
  arm_at_row n k m i p e b arms all els q here rest is =
      ap (λ x. row x n k) here ∙ ap (stm_row (Stm.cases q all els) n) is ∙ ap arm_row rest

  block_at_row : (n k m : ℕ) (a : Stm) (more all : Stms) → at n ≡ Some (block_node all) → on_by past_stm k (n + 1, all) ≡ Some (m, Stms.stm a more) → row (at n) n (k + 1) ≡ part 0 (stm_places m a)
  block_at_row n k m a more all here rest =
      ap (λ x. row x n (k + 1)) here ∙ ap (block_row all n) (one_more k) ∙ ap ran_row rest

  -- ---- signs

  linked_star : (ps : List ℕ) (v : Val N) (n k i : ℕ) (o : SignAt) (ss all : List SignAt) (f : Exp) (p : Place) (st : St N) (go : Val N → St N → Res N) → In n ps → row (at n) n k ≡ table.star
      → ((u : Val N) (t : St N) → Linked ps (go u t)) → Linked ps (deref w v n k ss p st go)
  linked_star ps (ref d) n k i o ss all f p st go a e g = linked_wait ps (one_of p d) (star_wait n k d ss) st go (at_star ps n k d ss a e) g
  linked_star ps null n k i o ss all f p st go a e g = tt
  linked_star ps (truth y) n k i o ss all f p st go a e g = tt
  linked_star ps (num z) n k i o ss all f p st go a e g = tt
  linked_star ps (text t) n k i o ss all f p st go a e g = tt
  linked_star ps (list vs) n k i o ss all f p st go a e g = tt
  linked_star ps (dict xs) n k i o ss all f p st go a e g = tt
  linked_star ps (fun h c) n k i o ss all f p st go a e g = tt

  linked_signed : (ps : List ℕ) (s : Sign) (v : Val N) (n k i : ℕ) (q : Place) (ss all : List SignAt) (f : Exp) (p : Place) (st : St N) (go : Val N → St N → Res N) → In n ps → at n
      ≡ Some (exp_node (Exp.prefix all f)) → on_by past_sign i (reverse all) ≡ Some (record { sign = s; place = q } ∷ ss) → k ≡ suc (suc i) → ((u : Val N) (t : St N) → Linked ps (go u t))
      → Linked ps (signed w s v n k ss p st go)
  linked_signed ps Sign.not v n k i q ss all f p st go a here rest is g = linked_answer ps (opposite v) p st go (λ u. g u st)
  linked_signed ps Sign.minus v n k i q ss all f p st go a here rest is g = linked_answer ps (negated v) p st go (λ u. g u st)
  linked_signed ps Sign.star v n k i q ss all f p st go a here rest is g =
      linked_star ps v n k i (record { sign = Sign.star; place = q }) ss all f p st go a (sign_at_row n k i (record { sign = Sign.star; place = q }) ss all f here rest is) g

  pub linked_signs : (ps : List ℕ) (ss : List SignAt) (n k i : ℕ) (v : Val N) (all : List SignAt) (f : Exp) (st : St N) → In n ps → at n ≡ Some (exp_node (Exp.prefix all f))
      → on_by past_sign i (reverse all) ≡ Some ss → k ≡ suc (suc i) → Linked ps (signs w ss n k v st)
  linked_signs ps [] n k i v all f st a here rest is = tt
  linked_signs ps (o ∷ ss) n k i v all f st a here rest is =
      linked_visit ps o.place st (λ s. signed w o.sign v n k ss o.place s (λ u t. signs w ss n (k + 1) u t))
      (λ s. linked_signed ps o.sign v n k i o.place ss all f o.place s _ a here rest is
      (λ u t. linked_signs ps ss n (k + 1) (suc i) u all f t a here (next_place past_sign i (reverse all) (o ∷ ss) ss rest refl) (up_two k i is)))

  -- ---- calls

  linked_call_if : (ps : List ℕ) (b : Bool) (p : Place) (st : St N) (r : Res N) → Linked ps r → Linked ps (call_if w b p st r)
  linked_call_if ps false p st r g = tt
  linked_call_if ps true p st r g = g

  linked_call_fun : (ps : List ℕ) (o : Option FunDef) (vs : Vals N) (p : Place) (st : St N) (r : Res N) → (is_some o ≡ true → Linked ps r) → Linked ps (call_fun w o vs p st r)
  linked_call_fun ps None vs p st r g = tt
  linked_call_fun ps (Some x) vs p st r g = linked_call_if ps (nat_eq (length x.params) (count vs)) p st r (g refl)

  linked_called : (ps : List ℕ) (v : Val N) (vs : Vals N) (p : Place) (st : St N) (k : List ℕ → Pairs N → Res N) → ((f : List ℕ) (c : Pairs N) → IsFun w.script f → Linked ps (k f c))
      → Linked ps (called w v vs p st k)
  linked_called ps (fun f c) vs p st k g = linked_call_fun ps (find_fun f w.script.funs) vs p st (k f c) (λ e. g f c e)
  linked_called ps null vs p st k g = tt
  linked_called ps (truth y) vs p st k g = tt
  linked_called ps (num z) vs p st k g = tt
  linked_called ps (text t) vs p st k g = tt
  linked_called ps (list us) vs p st k g = tt
  linked_called ps (dict xs) vs p st k g = tt
  linked_called ps (ref e) vs p st k g = tt

  module _ (body : List ℕ → Pairs N → Vals N → Place → St N → Res N)
      (bodies_link : (f : List ℕ) (c : Pairs N) (vs : Vals N) (p : Place) (st : St N) → Linked (body_places (body_of f w.script)) (body f c vs p st)) where
    linked_enter : (ps : List ℕ) (f : List ℕ) (c : Pairs N) (vs : Vals N) (p : Place) (n k m : ℕ) (ss : Steps) (st : St N) (go : Val N → St N → Res N) → In n ps → row (at n) n k ≡ open_call
        → IsFun w.script f → ((v : Val N) (s : St N) → Linked ps (go v s)) → Linked ps (enter w body f c vs p n k m ss st go)
    linked_enter ps f c vs p n k m ss st go a e is g =
        linked_then ps (body_places (body_of f w.script)) (body f c vs p st) (call_open n k m f st.vars ss) (on_body st.vars go) (λ fr h. over_call ps n k m f st.vars ss fr a e is h)
        (bodies_link f c vs p st) (linked_body ps st.vars go g)

    mutual
      pub linked_eval : (e : Exp) (ps : List ℕ) (n : ℕ) (st : St N) → In n ps → HasExp at e n → Linked ps (eval w body e n st)
      linked_eval (Exp.literal v p) ps n st a h = linked_visit ps p st _ (λ s. linked_answer ps (limited (lit_val v)) p s gives (λ x. tt))
      linked_eval (Exp.name x p) ps n st a h = linked_visit ps p st (λ s. answer (named (find x s.vars) x w.script.funs) p s gives)
          (λ s. linked_answer ps (named (find x s.vars) x w.script.funs) p s gives (λ y. tt))
      linked_eval (Exp.func x p) ps n st a h = linked_visit ps p st (λ s. answer (closed (find_fun x w.script.funs) x s.vars) p s gives)
          (λ s. linked_answer ps (closed (find_fun x w.script.funs) x s.vars) p s gives (λ y. tt))
      linked_eval (Exp.parens e) ps n st a h =
          linked_got ps 0 (n + 1) (eval w body e (n + 1) st) (parens_in n) gives a (ap (λ x. row x n 1) h.0) refl refl (linked_eval e ((n + 1) ∷ []) (n + 1) st (inl refl) h.1) (λ v s. tt)
      linked_eval (Exp.parts o p es) ps n st a h = linked_parts es ps n 1 (n + 1) 0 o p [] es st a h.0 refl (omega arith) refl h.1
      linked_eval (Exp.chain e ls) ps n st a h =
          linked_got ps 0 (n + 1) _ (chain_first n (n + 1 + nodes e) ls) _ a (ap (λ x. row x n 1) h.0) refl refl (linked_eval e ((n + 1) ∷ []) (n + 1) st (inl refl) h.1)
          (λ v s. linked_links ls ps n 2 (n + 1 + nodes e) 0 v e ls s a h.0 refl refl h.2)
      linked_eval (Exp.logic j e ls) ps n st a h =
          linked_got ps 0 (n + 1) _ (logic_at n 1 (n + 1 + nodes e) j nowhere ls) _ a (ap (λ x. row x n 1) h.0) refl refl (linked_eval e ((n + 1) ∷ []) (n + 1) st (inl refl) h.1)
          (λ v s. linked_ands ls ps n 2 (n + 1 + nodes e) 0 j nowhere v e ls s a h.0 refl refl h.2)
      linked_eval (Exp.prefix ss e) ps n st a h =
          linked_got ps 0 (n + 1) _ (prefix_part n (reverse ss)) _ a (ap (λ x. row x n 1) h.0) refl refl (linked_eval e ((n + 1) ∷ []) (n + 1) st (inl refl) h.1)
          (λ v s. linked_signs ps (reverse ss) n 2 0 v ss e s a h.0 refl refl)
      linked_eval (Exp.postfix e ss) ps n st a h =
          linked_got ps 0 (n + 1) _ (postfix_first n (n + 1 + nodes e) ss) _ a (ap (λ x. row x n 1) h.0) refl refl (linked_eval e ((n + 1) ∷ []) (n + 1) st (inl refl) h.1)
          (λ v s. linked_steps ss ps n 2 (n + 1 + nodes e) 0 v e ss s a h.0 refl refl h.2)

      pub linked_parts : (es : Exps) (ps : List ℕ) (n k m i : ℕ) (o : Form) (p : Place) (vs : List (Val N)) (all : Exps) (st : St N) → In n ps → at n ≡ Some (exp_node (Exp.parts o p all))
          → on_by past_part i (n + 1, all) ≡ Some (m, es) → k ≡ suc i → length vs ≡ i → HasExps at es m → Linked ps (eval_parts w body es n k m o p vs st)
      linked_parts Exps.no_exps ps n k m i o p vs all st a here rest is long h = linked_visit ps p st (λ s. formed w o vs n p s) (λ s. linked_formed ps o vs n p all m i s a here rest long)
      linked_parts (Exps.exp e es) ps n k m i o p vs all st a here rest is long h =
          linked_got ps i m _ (part_at n k (m + nodes e) o p vs es) _ a (part_at_row n k m i o p e es all here rest is) long refl (linked_eval e (m ∷ []) m st (inl refl) h.0)
          (λ v s. linked_parts es ps n (k + 1) (m + nodes e) (suc i) o p (vs ++ v ∷ []) all s a here (next_place past_part i (n + 1, all) (m, Exps.exp e es) (m + nodes e, es) rest refl)
          (up_one k i is) (length_push vs v i long) h.1)

      pub linked_links : (ls : Links) (ps : List ℕ) (n k m i : ℕ) (v : Val N) (f : Exp) (all : Links) (st : St N) → In n ps → at n ≡ Some (exp_node (Exp.chain f all))
          → on_by past_link i (n + 1 + nodes f, all) ≡ Some (m, ls) → k ≡ suc (suc i) → HasLinks at ls m → Linked ps (eval_links w body ls n k m v st)
      linked_links Links.no_links ps n k m i v f all st a here rest is h = tt
      linked_links (Links.link o p e ls) ps n k m i v f all st a here rest is h =
          linked_got ps 1 m _ (chain_more n k (m + nodes e) o p v ls) _ a (link_at_row n k m i o p e ls f all here rest is) refl refl (linked_eval e (m ∷ []) m st (inl refl) h.0)
          (λ x s. linked_visit ps p s _ (λ t. linked_answer ps (oper o v x) p t _
          (λ y. linked_links ls ps n (k + 1) (m + nodes e) (suc i) y f all t a here (next_place past_link i (n + 1 + nodes f, all) (m, Links.link o p e ls) (m + nodes e, ls) rest refl)
          (up_two k i is) h.1)))

      pub linked_ands : (ls : Ands) (ps : List ℕ) (n k m i : ℕ) (j : Junction) (q : Place) (v : Val N) (f : Exp) (all : Ands) (st : St N) → In n ps → at n ≡ Some (exp_node (Exp.logic j f all))
          → on_by past_and i (n + 1 + nodes f, all) ≡ Some (m, ls) → k ≡ suc (suc i) → HasAnds at ls m → Linked ps (eval_ands w body ls n k m j q v st)
      linked_ands Ands.no_ands ps n k m i j q v f all st a here rest is h = linked_answer ps (truth_of v) q st gives (λ x. tt)
      linked_ands (Ands.and p e ls) ps n k m i j q v f all st a here rest is h =
          linked_visit ps p st _ (λ s. linked_joins ps j v p s _ (linked_got ps 0 m _ (logic_at n k (m + nodes e) j p ls) _ a (and_at_row n k m i j p e ls f all here rest is) refl refl
          (linked_eval e (m ∷ []) m s (inl refl) h.0) (λ x u. linked_ands ls ps n (k + 1) (m + nodes e) (suc i) j p x f all u a here
          (next_place past_and i (n + 1 + nodes f, all) (m, Ands.and p e ls) (m + nodes e, ls) rest refl) (up_two k i is) h.1)))

      pub linked_steps : (ss : Steps) (ps : List ℕ) (n k m i : ℕ) (v : Val N) (f : Exp) (all : Steps) (st : St N) → In n ps → at n ≡ Some (exp_node (Exp.postfix f all))
          → on_by past_spot i (spot_of (n + 1 + nodes f) all) ≡ Some (spot_of m ss) → k ≡ suc (suc i) → HasSteps at ss m → Linked ps (eval_steps w body ss n k m v st)
      linked_steps Steps.no_steps ps n k m i v f all st a here rest is h = tt
      linked_steps (Steps.index e p ss) ps n k m i v f all st a here rest is h =
          linked_got ps 1 m _ (index_at n k (m + nodes e) p v ss) _ a (spot_at_row n k i (in_index m e p ss) f all here rest is) refl refl (linked_eval e (m ∷ []) m st (inl refl) h.0)
          (λ x s. linked_visit ps p s _ (λ t. linked_answer ps (index v x) p t _
          (λ y. linked_steps ss ps n (k + 1) (m + nodes e) (suc i) y f all t a here
          (next_place past_spot i (spot_of (n + 1 + nodes f) all) (in_index m e p ss) (spot_of (m + nodes e) ss) rest refl) (up_two k i is) h.1)))
      linked_steps (Steps.call es p ss) ps n k m i v f all st a here rest is h =
          linked_args es ps n k m i 0 p v [] ss f all st a here rest is refl h.0 (m + exps_nodes es) refl
          (λ l m' i' y u walk count is_next. linked_steps ss ps n l m' i' y f all u a here walk count (subst (HasSteps at ss) (sym is_next) h.1))

      pub linked_args : (es : Exps) (ps : List ℕ) (n k m i j : ℕ) (p : Place) (g : Val N) (vs : List (Val N)) (ss : Steps) (f : Exp) (all : Steps) (st : St N) → In n ps → at n
          ≡ Some (exp_node (Exp.postfix f all)) → on_by past_spot i (spot_of (n + 1 + nodes f) all) ≡ Some (in_call m j es p ss) → k ≡ suc (suc i) → length vs ≡ j → HasExps at es m → (end : ℕ)
          → m + exps_nodes es ≡ end → ((l m' i' : ℕ) (y : Val N) (u : St N) → on_by past_spot i' (spot_of (n + 1 + nodes f) all) ≡ Some (spot_of m' ss) → l ≡ suc (suc i') → m' ≡ end
          → Linked ps (eval_steps w body ss n l m' y u)) → Linked ps
          (eval_args w body es n k m p g vs ss (λ l i f c us s. enter w body f c us p n l i ss s (λ y u. eval_steps w body ss n (l + 1) i y u)) st)
      linked_args Exps.no_exps ps n k m i j p g vs ss f all st a here rest is long h end reach steps =
          linked_visit ps p st _ (λ s. linked_called ps g (vals_of vs) p s _
          (λ x c is_fun. linked_enter ps x c (vals_of vs) p n k m ss s (λ y u. eval_steps w body ss n (k + 1) m y u) a (spot_at_row n k i (in_call m j Exps.no_exps p ss) f all here rest is) is_fun
          (λ y u. steps (k + 1) m (suc i) y u (next_place past_spot i (spot_of (n + 1 + nodes f) all) (in_call m j Exps.no_exps p ss) (spot_of m ss) rest refl) (up_two k i is)
          (omega (arith, reach)))))
      linked_args (Exps.exp e es) ps n k m i j p g vs ss f all st a here rest is long h end reach steps =
          linked_got ps (1 + j) m _ (arg_at n k (m + nodes e) p g vs es ss) _ a (spot_at_row n k i (in_call m j (Exps.exp e es) p ss) f all here rest is) (omega (arith, long)) refl
          (linked_eval e (m ∷ []) m st (inl refl) h.0) (λ v s. linked_args es ps n (k + 1) (m + nodes e) (suc i) (j + 1) p g (vs ++ v ∷ []) ss f all s a here
          (next_place past_spot i (spot_of (n + 1 + nodes f) all) (in_call m j (Exps.exp e es) p ss) (in_call (m + nodes e) (j + 1) es p ss) rest refl) (up_two k i is)
          (omega (arith, length_push vs v j long)) h.1 end (omega (arith, reach)) steps)

    -- ---- loops

    module _ (ps : List ℕ) (n m : ℕ) (p : Place) (blk : Stms) (run : St N → Res N) (a : In n ps) where
      pub linked_turns : (f : ℕ) (e : Exp) (st : St N) → ((s : St N) → Linked (m ∷ []) (run s)) → at n ≡ Some (stm_node (Stm.while p e blk)) → m ≡ n + 1 + nodes e → HasExp at e (n + 1)
          → Linked ps (turns f n m p e blk (eval w body e (n + 1)) run st)
      linked_turns zero e st r here is h = tt
      linked_turns (suc f) e st r here is h =
          linked_got ps 0 (n + 1) _ (while_test n m p e blk) _ a (ap (λ x. row x n 1) here) refl refl (linked_eval e ((n + 1) ∷ []) (n + 1) st (inl refl) h)
          (λ v s. linked_decide ps v p s _ _ (linked_goes ps (m ∷ []) (run s) (while_body n m p e blk) _ a (ap (λ x. row x n 2) here ∙ ap (pending 0) (sym is)) refl refl (r s)
          (λ z. linked_turns f e z r here is h)) tt)

      pub linked_repeats : (f : ℕ) (e : Exp) (st : St N) → ((s : St N) → Linked ((n + 1) ∷ []) (run s)) → at n ≡ Some (stm_node (Stm.repeat p blk e)) → m ≡ n + 1 + block_nodes blk → HasExp at e m
          → Linked ps (repeats f n m p blk e run (eval w body e m) st)
      linked_repeats zero e st r here is h = tt
      linked_repeats (suc f) e st r here is h =
          linked_goes ps ((n + 1) ∷ []) (run st) (repeat_body n m p blk e) _ a (ap (λ x. row x n 1) here) refl refl (r st)
          (λ s. linked_got ps 0 m _ (repeat_test n m p blk e) _ a (ap (λ x. row x n 2) here ∙ ap (pending 0) (sym is)) refl refl (linked_eval e (m ∷ []) m s (inl refl) h)
          (λ v t. linked_decide ps v p t _ _ (linked_repeats f e t r here is h) tt))

      pub linked_each : (vs : Vals N) (t : ℕ) (x : List ℕ) (e : Exp) (whole : Vals N) (st : St N) → ((s : St N) → Linked (m ∷ []) (run s)) → at n ≡ Some (stm_node (Stm.for p x e blk)) → m
          ≡ n + 1 + nodes e → count vs + t ≡ count whole → Linked ps (each vs n m t p x whole blk run st)
      linked_each no_vals t x e whole st r here is sum = tt
      linked_each (val v vs) t x e whole st r here is sum =
          linked_visit ps p st _ (λ s. linked_then ps (m ∷ []) (run (set_var x v s)) (for_body n m (suc t) p x whole blk) _
          (λ fr c. over_turn ps n m (suc t) p x whole blk fr a (ap (λ y. row y n 2) here ∙ ap turn (sym is)) (omega (arith, sum)) c) (r (set_var x v s))
          (goes_each ps _ (λ z. linked_each vs (suc t) x e whole z r here is (omega (arith, sum)))))

      pub linked_each_of : (v : Val N) (x : List ℕ) (e : Exp) (st : St N) → ((s : St N) → Linked (m ∷ []) (run s)) → at n ≡ Some (stm_node (Stm.for p x e blk)) → m ≡ n + 1 + nodes e
          → Linked ps (each_of v n m p x blk run st)
      linked_each_of (list vs) x e st r here is = linked_each vs 0 x e vs st r here is (omega arith)
      linked_each_of null x e st r here is = tt
      linked_each_of (truth b) x e st r here is = tt
      linked_each_of (num z) x e st r here is = tt
      linked_each_of (text t) x e st r here is = tt
      linked_each_of (dict xs) x e st r here is = tt
      linked_each_of (fun f c) x e st r here is = tt
      linked_each_of (ref d) x e st r here is = tt

    -- ---- statements

    mutual
      linked_stm : (s : Stm) (ps : List ℕ) (n : ℕ) (st : St N) → ((x : ℕ) → In x (stm_places n s) → In x ps) → HasStm at s n → Linked ps (eval_stm w body s n st)
      linked_stm (Stm.set x p e) ps n st a h =
          linked_visit ps p st _ (λ s. linked_got ps 0 (n + 1) _ (set_part n x) _ (a n (inl refl)) (ap (λ y. row y n 1) h.0) refl refl (linked_eval e ((n + 1) ∷ []) (n + 1) s (inl refl) h.1)
          (λ v t. tt))
      linked_stm (Stm.add x q p e) ps n st a h =
          linked_visit ps p st _ (λ s. linked_got ps 0 (n + 1) _ (add_part n x q p) (λ v t. add_to (find x t.vars) x q p v t) (a n (inl refl)) (ap (λ y. row y n 1) h.0) refl refl
          (linked_eval e ((n + 1) ∷ []) (n + 1) s (inl refl) h.1) (λ v t. linked_add ps (find x t.vars) x q p v t))
      linked_stm (Stm.put x q p i e) ps n st a h =
          linked_visit ps p st _ (λ s. linked_got ps 0 (n + 1) _ (put_index n (n + 1 + nodes i) x q p e) _ (a n (inl refl)) (ap (λ y. row y n 1) h.0) refl refl
          (linked_eval i ((n + 1) ∷ []) (n + 1) s (inl refl) h.1) (λ v t. linked_got ps 1 (n + 1 + nodes i) _ (put_value n x q p v) (λ y u. put_in (find x u.vars) x q p v y u) (a n (inl refl))
          (ap (λ y. row y n 2) h.0) refl refl (linked_eval e ((n + 1 + nodes i) ∷ []) (n + 1 + nodes i) t (inl refl) h.2) (λ y u. linked_put ps (find x u.vars) x q p v y u)))
      linked_stm (Stm.return p e) ps n st a h =
          linked_visit ps p st _ (λ s. linked_got ps 0 (n + 1) _ (return_part n) _ (a n (inl refl)) (ap (λ y. row y n 1) h.0) refl refl (linked_eval e ((n + 1) ∷ []) (n + 1) s (inl refl) h.1)
          (λ v t. tt))
      linked_stm (Stm.leave p) ps n st a h = linked_visit ps p st _ (λ s. tt)
      linked_stm (Stm.cases p arms els) ps n st a h =
          linked_visit ps p st _ (λ s. linked_arms arms ps n 1 (n + 1) 0 arms els p (λ t. eval_else w body els (n + 1 + arms_nodes arms) t) s (a n (inl refl))
          (λ x i. a x (inr (in_left x (arm_blocks (n + 1) arms) (else_block (n + 1 + arms_nodes arms) els) i))) h.0 refl (omega arith) h.1
          (λ t. linked_else els ps (n + 1 + arms_nodes arms) t (λ x i. a x (inr (in_right x (arm_blocks (n + 1) arms) (else_block (n + 1 + arms_nodes arms) els) i))) h.2))
      linked_stm (Stm.while p e b) ps n st a h =
          linked_visit ps p st _ (λ s. linked_turns ps n (n + 1 + nodes e) p b _ (a n (inl refl)) (suc visits) e s
          (λ z. linked_stms b ((n + 1 + nodes e) ∷ []) (n + 1 + nodes e) 0 (n + 1 + nodes e + 1) b z (inl refl) h.2 refl h.3) h.0 refl h.1)
      linked_stm (Stm.repeat p b e) ps n st a h =
          linked_visit ps p st _ (λ s. linked_repeats ps n (n + 1 + block_nodes b) p b _ (a n (inl refl)) (suc visits) e s
          (λ z. linked_stms b ((n + 1) ∷ []) (n + 1) 0 (n + 1 + 1) b z (inl refl) h.2 refl h.3) h.0 refl h.1)
      linked_stm (Stm.for p x e b) ps n st a h =
          linked_visit ps p st _ (λ s. linked_got ps 0 (n + 1) _ (for_list n (n + 1 + nodes e) p x b) _ (a n (inl refl)) (ap (λ y. row y n 1) h.0) refl refl
          (linked_eval e ((n + 1) ∷ []) (n + 1) s (inl refl) h.1) (λ v t. linked_each_of ps n (n + 1 + nodes e) p b (eval_stms w body b (n + 1 + nodes e) 0 (n + 1 + nodes e + 1)) (a n (inl refl))
          v x e t (λ z. linked_stms b ((n + 1 + nodes e) ∷ []) (n + 1 + nodes e) 0 (n + 1 + nodes e + 1) b z (inl refl) h.2 refl h.3) h.0 refl))
      linked_stm (Stm.just p e) ps n st a h =
          linked_visit ps p st _ (λ s. linked_got ps 0 (n + 1) _ (just_part n) _ (a n (inl refl)) (ap (λ y. row y n 1) h.0) refl refl (linked_eval e ((n + 1) ∷ []) (n + 1) s (inl refl) h.1)
          (λ v t. tt))

      pub linked_stms : (b : Stms) (ps : List ℕ) (n k m : ℕ) (all : Stms) (st : St N) → In n ps → at n ≡ Some (block_node all) → on_by past_stm k (n + 1, all) ≡ Some (m, b) → HasStms at b m
          → Linked ps (eval_stms w body b n k m st)
      linked_stms Stms.no_stms ps n k m all st a here rest h = tt
      linked_stms (Stms.stm s more) ps n k m all st a here rest h =
          linked_goes ps (stm_places m s) _ (block_at n (k + 1) (m + stm_nodes s) more) _ a (block_at_row n k m s more all here rest) refl refl (linked_stm s (stm_places m s) m st (λ x i. i) h.0)
          (λ t. linked_stms more ps n (k + 1) (m + stm_nodes s) all t a here
          (ap (λ j. on_by past_stm j (n + 1, all)) (one_more k) ∙ next_place past_stm k (n + 1, all) (m, Stms.stm s more) (m + stm_nodes s, more) rest refl) h.1)

      pub linked_arms : (arms : Arms) (ps : List ℕ) (n k m i : ℕ) (all : Arms) (els : Else) (q : Place) (go : St N → Res N) (st : St N) → In n ps → ((x : ℕ) → In x (arm_blocks m arms) → In x ps)
          → at n ≡ Some (stm_node (Stm.cases q all els)) → on_by past_arm i (n + 1, all) ≡ Some (m, arms) → k ≡ suc i → HasArms at arms m → ((s : St N) → Linked ps (go s))
          → Linked ps (eval_arms w body arms n k m (n + 1 + arms_nodes all) els go st)
      linked_arms Arms.no_arms ps n k m i all els q go st a blocks here rest is h last = last st
      linked_arms (Arms.arm p e b arms) ps n k m i all els q go st a blocks here rest is h last =
          linked_got ps 0 m _ (arm_test n k (m + nodes e) (n + 1 + arms_nodes all) p b arms els) _ a (arm_at_row n k m i p e b arms all els q here rest is) refl refl
          (linked_eval e (m ∷ []) m st (inl refl) h.0) (λ v s. linked_decide ps v p s _ _ (linked_stms b ps (m + nodes e) 0 (m + nodes e + 1) b s (blocks (m + nodes e) (inl refl)) h.1 refl h.2)
          (linked_arms arms ps n (k + 1) (m + nodes e + block_nodes b) (suc i) all els q go s a (λ x j. blocks x (inr j)) here
          (next_place past_arm i (n + 1, all) (m, Arms.arm p e b arms) (m + nodes e + block_nodes b, arms) rest refl) (up_one k i is) h.3 last))

      pub linked_else : (els : Else) (ps : List ℕ) (n : ℕ) (st : St N) → ((x : ℕ) → In x (else_block n els) → In x ps) → HasElse at els n → Linked ps (eval_else w body els n st)
      linked_else Else.no_else ps n st a h = tt
      linked_else (Else.otherwise b) ps n st a h = linked_stms b ps n 0 (n + 1) b st (a n (inl refl)) h.0 refl h.1

  -- ---- bodies

  linked_in_body : (o : Option Body) (c : Pairs N) (vs : Vals N) (p : Place) (st : St N) (run : Stms → ℕ → St N → Res N) → HasBody at o
      → ((b : Stms) (n : ℕ) (s : St N) → (at n ≡ Some (block_node b)) × HasStms at b (n + 1) → Linked (n ∷ []) (run b n s)) → Linked (body_places o) (in_body w o c vs p st run)
  linked_in_body None c vs p st run h g = tt
  linked_in_body (Some x) c vs p st run h g = g x.block x.node (with_vars (bind x.params vs c) st) h

  -- at each wait of a body the forms under way follow each other from its block on
  pub linked_call : (d : ℕ) (f : List ℕ) (c : Pairs N) (vs : Vals N) (p : Place) (st : St N) → HasScript at w.script → Linked (body_places (body_of f w.script)) (body_at w d f c vs p st)
  linked_call zero f c vs p st h = tt
  linked_call (suc d) f c vs p st h =
      linked_in_body (body_of f w.script) c vs p st _ (has_body at f w.script h)
      (λ b n s g. linked_stms (body_at w d) (λ f' c' vs' p' st'. linked_call d f' c' vs' p' st' h) b (n ∷ []) n 0 (n + 1) b s (inl refl) g.0 refl g.1)
