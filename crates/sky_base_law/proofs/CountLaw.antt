-- What holds of each run from wait to wait: more nodes are visited, no more than are allowed, and the outputs of an
-- executor's task are made one after another, all of them; and no wait is for a description twice.
use Rattle.std.proofs.Common.{◌≡◌, ℕ, zero, suc, ◌+◌, Bool, true, false, List, [], ◌∷◌, ◌++◌, map, length, reverse, Option, Some, None, Ok, Err}
use Rattle.std.proofs.Common.{nat_lt, nat_eq, ◌&&◌, pos, negsuc, inl, inr, refl, arith, ◌<◌, ◌≤◌, ltb-true}
use Rattle.sky_base.specs.Val.{Val, Vals, Pairs, Desc, null, truth, num, text, list, dict, fun, ref, no_vals, val, no_pairs, count, vals_of, refs_to}
use Rattle.sky_base.specs.Val.{call, input}
use Rattle.sky_base.specs.Op.{Answer, index, find, negated, opposite, len, keys, has, range, limited, set_at, grown, dict_from}
use Rattle.sky_base.specs.Tree.{Place, nowhere, Junction, Sign, SignAt, Form, Exp, Exps, Links, Ands, Steps, Stm, Stms, Arms, Else, FunDef, nodes}
use Rattle.sky_base.specs.Tree.{stm_nodes, block_nodes, arms_nodes}
use Rattle.sky_base.specs.Res.{visits, Object, End, St, Entry, parens_in, part_at, chain_first, chain_more, logic_at, prefix_part, star_wait}
use Rattle.sky_base.specs.Res.{postfix_first, index_at, arg_at, call_open, exec_wait, set_part, add_part, put_index, put_value, return_part}
use Rattle.sky_base.specs.Res.{just_part, arm_test, while_test, while_body, repeat_body, repeat_test, for_list, for_body, block_at, one_of, all_of}
use Rattle.sky_base.specs.Res.{Res, Fin, Tell, Ask, then_do, on_got, on_goes, with_vars, on_body, gives, counted, visited, visit, answer, tell_all}
use Rattle.sky_base.specs.Eval.{World, find_fun, is_one_of, Body, body_of, bind, set_var, lit_val, named, closed, oper, outputs, truth_of, decide}
use Rattle.sky_base.specs.Eval.{joins, add_to, put_in, turns, repeats, each, each_of, with_one, with_two, with_three, ask, spawn_if, spawn_fun}
use Rattle.sky_base.specs.Eval.{spawn_list, spawned, outputs_if, outputs_count, outputs_of, exec_ask, input_if, input_of, formed, deref, signed}
use Rattle.sky_base.specs.Eval.{signs, call_if, call_fun, called, enter, eval, eval_parts, eval_links, eval_ands, eval_steps, eval_args, eval_stm}
use Rattle.sky_base.specs.Eval.{eval_stms, eval_arms, eval_else, in_body, body_at}
use Rattle.sky_base.specs.Res.{Wait}
use Rattle.sky_base.specs.Read.{Halt, acts, acts_seen, see_all, refs_of, halts_seen, halt}
use Rattle.sky_base_law.specs.Tasks.{Apart, Batched, IsBatch, Lone}
use Rattle.sky_base_law.proofs.FormsLaw.{Within, Late, late_wait}

-- no two outputs of an executor's task become one as they are made
abbrev pub MakesApart : {N : Type 0} → World N → Type 0
MakesApart {N} w = (x : List ℕ) (a : Val N) (n : ℕ) → Apart (map w.make (outputs x a n 0 n))

module _ {N : Type 0} (w : World N) where
  -- from a state with b visits on, where these are to be made next
  abbrev pub Climbs : ℕ → List (Desc N) → Res N → Type 0
  Climbs b [] (Fin e st) = Late w b e st
  Climbs b (x ∷ xs) (Fin e st) = ⊥
  Climbs b [] (Tell d r) = (xs : List (Desc N)) × IsBatch (d ∷ xs) × Climbs b xs r
  Climbs b (x ∷ xs) (Tell d r) = (d ≡ x) × Climbs b xs r
  Climbs b [] (Ask q fr st k) =
      ((b < st.count) × (st.count ≤ visits)) × (MakesApart w → Apart (refs_of q)) × ((os : List (Object N)) → Climbs st.count [] (k os))
  Climbs b (x ∷ xs) (Ask q fr st k) = ⊥

  pub climbs_then : (r : Res N) (b : ℕ) (xs : List (Desc N)) (en : Entry N) (k : End N → St N → Res N) → Climbs b xs r
      → ((c : ℕ) (e : End N) (st : St N) → Late w c e st → Climbs c [] (k e st)) → Climbs b xs (then_do r en k)
  climbs_then (Fin e st) b [] en k g h = h b e st g
  climbs_then (Fin e st) b (x ∷ xs) en k g h = absurd g
  climbs_then (Tell d r) b [] en k g h = (g.0, g.1, climbs_then r b g.0 en k g.2 h)
  climbs_then (Tell d r) b (x ∷ xs) en k g h = (g.0, climbs_then r b xs en k g.1 h)
  climbs_then (Ask q fr st p) b [] en k g h = (g.0, g.1, λ os. climbs_then (p os) st.count [] en k (g.2 os) h)
  climbs_then (Ask q fr st p) b (x ∷ xs) en k g h = absurd g

  pub climbs_got : (r : Res N) (b : ℕ) (en : Entry N) (k : Val N → St N → Res N) → Climbs b [] r
      → ((c : ℕ) (v : Val N) (st : St N) → Within w c st → Climbs c [] (k v st)) → Climbs b [] (then_do r en (on_got k))
  climbs_got r b en k g h = climbs_then r b [] en (on_got k) g each
    where
      each : (c : ℕ) (e : End N) (st : St N) → Late w c e st → Climbs c [] (on_got k e st)
      each c End.goes st l = l
      each c (End.got v) st l = h c v st l
      each c (End.returned v) st l = l
      each c (End.failed f) st l = tt

  pub climbs_goes : (r : Res N) (b : ℕ) (en : Entry N) (k : St N → Res N) → Climbs b [] r
      → ((c : ℕ) (st : St N) → Within w c st → Climbs c [] (k st)) → Climbs b [] (then_do r en (on_goes k))
  climbs_goes r b en k g h = climbs_then r b [] en (on_goes k) g each
    where
      each : (c : ℕ) (e : End N) (st : St N) → Late w c e st → Climbs c [] (on_goes k e st)
      each c End.goes st l = h c st l
      each c (End.got v) st l = l
      each c (End.returned v) st l = l
      each c (End.failed f) st l = tt

  pub climbs_body : (xs : Pairs N) (k : Val N → St N → Res N) → ((c : ℕ) (v : Val N) (st : St N) → Within w c st → Climbs c [] (k v st))
      → (c : ℕ) (e : End N) (st : St N) → Late w c e st → Climbs c [] (on_body xs k e st)
  climbs_body xs k h c End.goes st l = h c null (with_vars xs st) l
  climbs_body xs k h c (End.got v) st l = h c v (with_vars xs st) l
  climbs_body xs k h c (End.returned v) st l = h c v (with_vars xs st) l
  climbs_body xs k h c (End.failed f) st l = tt

  pub climbs_visit : (p : Place) (b : ℕ) (st : St N) (k : St N → Res N) → Within w b st
      → ((s : St N) → Within w b s → b < s.count → Climbs b [] (k s)) → Climbs b [] (visit p st k)
  climbs_visit p b st k l h = go (nat_lt st.count visits) refl
    where
      go : (x : Bool) → nat_lt st.count visits ≡ x → Climbs b [] (visited x p st k)
      go true e = moved (ltb-true _ _ e)
        where
          moved : st.count < visits → Climbs b [] (k (counted st))
          moved lt = h (counted st) (omega (arith, l.0), omega arith) (omega (arith, l.0))
      go false e = tt

  pub climbs_answer : (o : Answer N) (p : Place) (b : ℕ) (st : St N) (k : Val N → St N → Res N) → ((v : Val N) → Climbs b [] (k v st))
      → Climbs b [] (answer o p st k)
  climbs_answer (Ok v) p b st k h = h v
  climbs_answer (Err e) p b st k h = tt

  pub climbs_ask : (q : Wait N) (b : ℕ) (st : St N) → (MakesApart w → Apart (refs_of q)) → Within w b st → b < st.count → Climbs b [] (ask w q st)
  climbs_ask q b st once l lt = ((lt, l.1), once, λ os. late_wait w q os st.count st (omega arith, l.1))

  pub climbs_decide : (v : Val N) (p : Place) (b : ℕ) (st : St N) (on off : St N → Res N) → Climbs b [] (on st) → Climbs b [] (off st)
      → Climbs b [] (decide v p st on off)
  climbs_decide (truth true) p b st on off g h = g
  climbs_decide (truth false) p b st on off g h = h
  climbs_decide null p b st on off g h = tt
  climbs_decide (num y) p b st on off g h = tt
  climbs_decide (text y) p b st on off g h = tt
  climbs_decide (list ys) p b st on off g h = tt
  climbs_decide (dict ys) p b st on off g h = tt
  climbs_decide (fun y c) p b st on off g h = tt
  climbs_decide (ref y) p b st on off g h = tt

  pub climbs_joins : (j : Junction) (v : Val N) (p : Place) (b : ℕ) (st : St N) (k : St N → Res N) → Within w b st → Climbs b [] (k st)
      → Climbs b [] (joins j v p st k)
  climbs_joins Junction.both v p b st k l g = climbs_decide v p b st k _ g l
  climbs_joins Junction.either v p b st k l g = climbs_decide v p b st _ k l g

  pub climbs_add : (o : Option (Val N)) (x : List ℕ) (q p : Place) (e : Val N) (b : ℕ) (st : St N) → Within w b st → Climbs b [] (add_to o x q p e st)
  climbs_add None x q p e b st l = tt
  climbs_add (Some v) x q p e b st l = climbs_answer (grown v e) p b st _ (λ u. l)

  pub climbs_put : (o : Option (Val N)) (x : List ℕ) (q p : Place) (i e : Val N) (b : ℕ) (st : St N) → Within w b st
      → Climbs b [] (put_in o x q p i e st)
  climbs_put None x q p i e b st l = tt
  climbs_put (Some v) x q p i e b st l = climbs_answer (set_at v i e) p b st _ (λ u. l)

  pub climbs_spawn_if : (x : Bool) (d : Desc N) (p : Place) (b : ℕ) (st : St N) → Lone d → Within w b st → Climbs b [] (spawn_if w x d p st)
  climbs_spawn_if false d p b st o l = tt
  climbs_spawn_if true d p b st o l = ([], inl (d, o, refl), l)

  pub climbs_spawn_fun : (o : Option FunDef) (f : List ℕ) (c : Pairs N) (vs : Vals N) (p : Place) (b : ℕ) (st : St N) → Within w b st
      → Climbs b [] (spawn_fun w o f c vs p st)
  climbs_spawn_fun None f c vs p b st l = tt
  climbs_spawn_fun (Some x) f c vs p b st l = climbs_spawn_if _ (call f c vs) p b st tt l

  pub climbs_spawn_list : (f : List ℕ) (c : Pairs N) (a : Val N) (p : Place) (b : ℕ) (st : St N) → Within w b st
      → Climbs b [] (spawn_list w f c a p st)
  climbs_spawn_list f c (list vs) p b st l = climbs_spawn_fun (find_fun f w.script.funs) f c vs p b st l
  climbs_spawn_list f c null p b st l = tt
  climbs_spawn_list f c (truth y) p b st l = tt
  climbs_spawn_list f c (num y) p b st l = tt
  climbs_spawn_list f c (text y) p b st l = tt
  climbs_spawn_list f c (dict ys) p b st l = tt
  climbs_spawn_list f c (fun y cb) p b st l = tt
  climbs_spawn_list f c (ref y) p b st l = tt

  pub climbs_spawned : (g a : Val N) (p : Place) (b : ℕ) (st : St N) → Within w b st → Climbs b [] (spawned w g a p st)
  climbs_spawned (fun f c) a p b st l = climbs_spawn_list f c a p b st l
  climbs_spawned null a p b st l = tt
  climbs_spawned (truth y) a p b st l = tt
  climbs_spawned (num y) a p b st l = tt
  climbs_spawned (text y) a p b st l = tt
  climbs_spawned (list ys) a p b st l = tt
  climbs_spawned (dict ys) a p b st l = tt
  climbs_spawned (ref y) a p b st l = tt

  pub climbs_tell : (ds : List (Desc N)) (r : Res N) (b : ℕ) → Climbs b [] r → Climbs b ds (tell_all ds r)
  climbs_tell [] r b g = g
  climbs_tell (x ∷ ds) r b g = (refl, climbs_tell ds r b g)

  pub climbs_batch : (ds : List (Desc N)) (r : Res N) (b : ℕ) → IsBatch ds → Climbs b [] r → Climbs b [] (tell_all ds r)
  climbs_batch [] r b i g = g
  climbs_batch (x ∷ ds) r b i g = (ds, i, climbs_tell ds r b g)

  module _ (b : ℕ) (st : St N) (k : List (Desc N) → St N → Res N) (g : (es : List (Desc N)) → (MakesApart w → Apart es) → Climbs b [] (k es st)) where
    pub climbs_outputs_if : (x : Bool) (ds : List (Desc N)) (p : Place) → IsBatch ds → (MakesApart w → Apart (map w.make ds))
        → Climbs b [] (outputs_if w x ds p st k)
    climbs_outputs_if false ds p i once = tt
    climbs_outputs_if true ds p i once = climbs_batch ds _ b i (g (map w.make ds) once)

    pub climbs_outputs_count : (x : List ℕ) (a n : Val N) (p : Place) → Climbs b [] (outputs_count w x a n p st k)
    climbs_outputs_count x a (num (pos n)) p = climbs_outputs_if (nat_lt 0 n && nat_lt n 65) (outputs x a n 0 n) p (inr (x, a, n, refl))
        (λ h. h x a n)
    climbs_outputs_count x a (num (negsuc n)) p = tt
    climbs_outputs_count x a null p = tt
    climbs_outputs_count x a (truth y) p = tt
    climbs_outputs_count x a (text y) p = tt
    climbs_outputs_count x a (list ys) p = tt
    climbs_outputs_count x a (dict ys) p = tt
    climbs_outputs_count x a (fun y c) p = tt
    climbs_outputs_count x a (ref y) p = tt

    pub climbs_outputs : (x a n : Val N) (p : Place) → Climbs b [] (outputs_of w x a n p st k)
    climbs_outputs (text x) a n p = climbs_outputs_count x a n p
    climbs_outputs null a n p = tt
    climbs_outputs (truth y) a n p = tt
    climbs_outputs (num y) a n p = tt
    climbs_outputs (list ys) a n p = tt
    climbs_outputs (dict ys) a n p = tt
    climbs_outputs (fun y c) a n p = tt
    climbs_outputs (ref y) a n p = tt

  pub climbs_input_if : (x : Bool) (k : List ℕ) (p : Place) (b : ℕ) (st : St N) → Within w b st → Climbs b [] (input_if w x k p st)
  climbs_input_if false k p b st l = tt
  climbs_input_if true k p b st l = ([], inl (input k, tt, refl), l)

  pub climbs_input : (v : Val N) (p : Place) (b : ℕ) (st : St N) → Within w b st → Climbs b [] (input_of w v p st)
  climbs_input (text k) p b st l = climbs_input_if (is_one_of k w.script.keys) k p b st l
  climbs_input null p b st l = tt
  climbs_input (truth y) p b st l = tt
  climbs_input (num y) p b st l = tt
  climbs_input (list ys) p b st l = tt
  climbs_input (dict ys) p b st l = tt
  climbs_input (fun y c) p b st l = tt
  climbs_input (ref y) p b st l = tt

  pub climbs_one : (vs : List (Val N)) (p : Place) (b : ℕ) (st : St N) (k : Val N → Res N) → ((x : Val N) → Climbs b [] (k x))
      → Climbs b [] (with_one vs p st k)
  climbs_one [] p b st k g = tt
  climbs_one (x ∷ []) p b st k g = g x
  climbs_one (x ∷ y ∷ vs) p b st k g = tt

  pub climbs_two : (vs : List (Val N)) (p : Place) (b : ℕ) (st : St N) (k : Val N → Val N → Res N) → ((x y : Val N) → Climbs b [] (k x y))
      → Climbs b [] (with_two vs p st k)
  climbs_two [] p b st k g = tt
  climbs_two (x ∷ []) p b st k g = tt
  climbs_two (x ∷ y ∷ []) p b st k g = g x y
  climbs_two (x ∷ y ∷ z ∷ vs) p b st k g = tt

  pub climbs_three : (vs : List (Val N)) (p : Place) (b : ℕ) (st : St N) (k : Val N → Val N → Val N → Res N)
      → ((x y z : Val N) → Climbs b [] (k x y z)) → Climbs b [] (with_three vs p st k)
  climbs_three [] p b st k g = tt
  climbs_three (x ∷ []) p b st k g = tt
  climbs_three (x ∷ y ∷ []) p b st k g = tt
  climbs_three (x ∷ y ∷ z ∷ []) p b st k g = g x y z
  climbs_three (x ∷ y ∷ z ∷ u ∷ vs) p b st k g = tt

  pub climbs_exec : (n : ℕ) (ds : List (Desc N)) (b : ℕ) (st : St N) → (MakesApart w → Apart ds) → Within w b st → b < st.count
      → Climbs b [] (exec_ask w n ds st)
  climbs_exec n ds b st once l lt = climbs_got (ask w (all_of ds) st) b (exec_wait n ds) gives (climbs_ask (all_of ds) b st once l lt) (λ c v s m. m)

  pub climbs_formed : (o : Form) (vs : List (Val N)) (n : ℕ) (p : Place) (b : ℕ) (st : St N) → Within w b st → b < st.count
      → Climbs b [] (formed w o vs n p st)
  climbs_formed Form.list vs n p b st l lt = climbs_answer (limited (list (vals_of vs))) p b st gives (λ v. l)
  climbs_formed Form.dict vs n p b st l lt = climbs_answer (dict_from vs no_pairs) p b st gives (λ v. l)
  climbs_formed Form.spawn vs n p b st l lt = climbs_two vs p b st _ (λ x y. climbs_spawned x y p b st l)
  climbs_formed Form.spawn_exec vs n p b st l lt =
      climbs_three vs p b st _ (λ x y z. climbs_outputs b st (λ ds s. gives (list (refs_to ds)) s) (λ ds once. l) x y z p)
  climbs_formed Form.exec vs n p b st l lt =
      climbs_three vs p b st _ (λ x y z. climbs_outputs b st (λ ds s. exec_ask w n ds s) (λ ds once. climbs_exec n ds b st once l lt) x y z p)
  climbs_formed Form.ref vs n p b st l lt = climbs_one vs p b st _ (λ x. climbs_input x p b st l)
  climbs_formed Form.len vs n p b st l lt = climbs_one vs p b st _ (λ x. climbs_answer (len x) p b st gives (λ v. l))
  climbs_formed Form.keys vs n p b st l lt = climbs_one vs p b st _ (λ x. climbs_answer (keys x) p b st gives (λ v. l))
  climbs_formed Form.has vs n p b st l lt = climbs_two vs p b st _ (λ x y. climbs_answer (has x y) p b st gives (λ v. l))
  climbs_formed Form.range vs n p b st l lt = climbs_two vs p b st _ (λ x y. climbs_answer (range x y) p b st gives (λ v. l))

  pub climbs_deref : (v : Val N) (n k : ℕ) (ss : List SignAt) (p : Place) (b : ℕ) (st : St N) (go : Val N → St N → Res N) → Within w b st
      → b < st.count → ((c : ℕ) (u : Val N) (t : St N) → Within w c t → Climbs c [] (go u t)) → Climbs b [] (deref w v n k ss p st go)
  climbs_deref (ref d) n k ss p b st go l lt g =
      climbs_got (ask w (one_of p d) st) b (star_wait n k d ss) go (climbs_ask (one_of p d) b st (λ h. (λ i. i, tt)) l lt) g
  climbs_deref null n k ss p b st go l lt g = tt
  climbs_deref (truth y) n k ss p b st go l lt g = tt
  climbs_deref (num y) n k ss p b st go l lt g = tt
  climbs_deref (text y) n k ss p b st go l lt g = tt
  climbs_deref (list ys) n k ss p b st go l lt g = tt
  climbs_deref (dict ys) n k ss p b st go l lt g = tt
  climbs_deref (fun y c) n k ss p b st go l lt g = tt

  pub climbs_signed : (s : Sign) (v : Val N) (n k : ℕ) (ss : List SignAt) (p : Place) (b : ℕ) (st : St N) (go : Val N → St N → Res N)
      → Within w b st → b < st.count → ((c : ℕ) (u : Val N) (t : St N) → Within w c t → Climbs c [] (go u t))
      → Climbs b [] (signed w s v n k ss p st go)
  climbs_signed Sign.not v n k ss p b st go l lt g = climbs_answer (opposite v) p b st go (λ u. g b u st l)
  climbs_signed Sign.minus v n k ss p b st go l lt g = climbs_answer (negated v) p b st go (λ u. g b u st l)
  climbs_signed Sign.star v n k ss p b st go l lt g = climbs_deref v n k ss p b st go l lt g

  pub climbs_signs : (ss : List SignAt) (n k : ℕ) (v : Val N) (b : ℕ) (st : St N) → Within w b st → Climbs b [] (signs w ss n k v st)
  climbs_signs [] n k v b st l = l
  climbs_signs (o ∷ ss) n k v b st l =
      climbs_visit o.place b st (λ s. signed w o.sign v n k ss o.place s (λ u t. signs w ss n (k + 1) u t)) l
      (λ s m lt. climbs_signed o.sign v n k ss o.place b s _ m lt (λ c u t i. climbs_signs ss n (k + 1) u c t i))

  pub climbs_call_if : (x : Bool) (p : Place) (b : ℕ) (st : St N) (r : Res N) → Climbs b [] r → Climbs b [] (call_if w x p st r)
  climbs_call_if false p b st r g = tt
  climbs_call_if true p b st r g = g

  pub climbs_call_fun : (o : Option FunDef) (vs : Vals N) (p : Place) (b : ℕ) (st : St N) (r : Res N) → Climbs b [] r
      → Climbs b [] (call_fun w o vs p st r)
  climbs_call_fun None vs p b st r g = tt
  climbs_call_fun (Some x) vs p b st r g = climbs_call_if (nat_eq (length x.params) (count vs)) p b st r g

  pub climbs_called : (v : Val N) (vs : Vals N) (p : Place) (b : ℕ) (st : St N) (k : List ℕ → Pairs N → Res N)
      → ((f : List ℕ) (c : Pairs N) → Climbs b [] (k f c)) → Climbs b [] (called w v vs p st k)
  climbs_called (fun f c) vs p b st k g = climbs_call_fun (find_fun f w.script.funs) vs p b st (k f c) (g f c)
  climbs_called null vs p b st k g = tt
  climbs_called (truth y) vs p b st k g = tt
  climbs_called (num y) vs p b st k g = tt
  climbs_called (text y) vs p b st k g = tt
  climbs_called (list ys) vs p b st k g = tt
  climbs_called (dict ys) vs p b st k g = tt
  climbs_called (ref y) vs p b st k g = tt

  module _ (body : List ℕ → Pairs N → Vals N → Place → St N → Res N)
      (bodies_climb : (f : List ℕ) (c : Pairs N) (vs : Vals N) (p : Place) (b : ℕ) (st : St N) → Within w b st
      → Climbs b [] (body f c vs p st)) where
    mutual
      pub climbs_eval : (e : Exp) (n b : ℕ) (st : St N) → Within w b st → Climbs b [] (eval w body e n st)
      climbs_eval (Exp.literal v p) n b st l = climbs_visit p b st _ l (λ s m lt. climbs_answer (limited (lit_val v)) p b s gives (λ x. m))
      climbs_eval (Exp.name x p) n b st l = climbs_visit p b st (λ s. answer (named (find x s.vars) x w.script.funs) p s gives) l
          (λ s m lt. climbs_answer (named (find x s.vars) x w.script.funs) p b s gives (λ y. m))
      climbs_eval (Exp.func x p) n b st l = climbs_visit p b st (λ s. answer (closed (find_fun x w.script.funs) x s.vars) p s gives) l
          (λ s m lt. climbs_answer (closed (find_fun x w.script.funs) x s.vars) p b s gives (λ y. m))
      climbs_eval (Exp.parens e) n b st l = climbs_got (eval w body e (n + 1) st) b (parens_in n) gives (climbs_eval e (n + 1) b st l) (λ c v s m. m)
      climbs_eval (Exp.parts o p es) n b st l = climbs_parts es n 1 (n + 1) o p [] b st l
      climbs_eval (Exp.chain e ls) n b st l = climbs_got _ b (chain_first n (n + 1 + nodes e) ls) _ (climbs_eval e (n + 1) b st l)
          (λ c v s m. climbs_links ls n 2 (n + 1 + nodes e) v c s m)
      climbs_eval (Exp.logic j e ls) n b st l = climbs_got _ b (logic_at n 1 (n + 1 + nodes e) j nowhere ls) _ (climbs_eval e (n + 1) b st l)
          (λ c v s m. climbs_ands ls n 2 (n + 1 + nodes e) j nowhere v c s m)
      climbs_eval (Exp.prefix ss e) n b st l = climbs_got _ b (prefix_part n (reverse ss)) _ (climbs_eval e (n + 1) b st l)
          (λ c v s m. climbs_signs (reverse ss) n 2 v c s m)
      climbs_eval (Exp.postfix e ss) n b st l = climbs_got _ b (postfix_first n (n + 1 + nodes e) ss) _ (climbs_eval e (n + 1) b st l)
          (λ c v s m. climbs_steps ss n 2 (n + 1 + nodes e) v c s m)

      pub climbs_parts : (es : Exps) (n k m : ℕ) (o : Form) (p : Place) (vs : List (Val N)) (b : ℕ) (st : St N) → Within w b st
          → Climbs b [] (eval_parts w body es n k m o p vs st)
      climbs_parts Exps.no_exps n k m o p vs b st l = climbs_visit p b st (λ s. formed w o vs n p s) l (λ s i lt. climbs_formed o vs n p b s i lt)
      climbs_parts (Exps.exp e es) n k m o p vs b st l =
          climbs_got _ b (part_at n k (m + nodes e) o p vs es) _ (climbs_eval e m b st l)
          (λ c v s i. climbs_parts es n (k + 1) (m + nodes e) o p (vs ++ v ∷ []) c s i)

      pub climbs_links : (ls : Links) (n k m : ℕ) (v : Val N) (b : ℕ) (st : St N) → Within w b st → Climbs b [] (eval_links w body ls n k m v st)
      climbs_links Links.no_links n k m v b st l = l
      climbs_links (Links.link o p e ls) n k m v b st l =
          climbs_got _ b (chain_more n k (m + nodes e) o p v ls) _ (climbs_eval e m b st l)
          (λ c x s i. climbs_visit p c s _ i (λ t j lt. climbs_answer (oper o v x) p c t _
          (λ y. climbs_links ls n (k + 1) (m + nodes e) y c t j)))

      pub climbs_ands : (ls : Ands) (n k m : ℕ) (j : Junction) (q : Place) (v : Val N) (b : ℕ) (st : St N) → Within w b st
          → Climbs b [] (eval_ands w body ls n k m j q v st)
      climbs_ands Ands.no_ands n k m j q v b st l = climbs_answer (truth_of v) q b st gives (λ x. l)
      climbs_ands (Ands.and p e ls) n k m j q v b st l =
          climbs_visit p b st _ l (λ s i lt. climbs_joins j v p b s _ i
          (climbs_got _ b (logic_at n k (m + nodes e) j p ls) _ (climbs_eval e m b s i)
          (λ c x u z. climbs_ands ls n (k + 1) (m + nodes e) j p x c u z)))

      pub climbs_steps : (ss : Steps) (n k m : ℕ) (v : Val N) (b : ℕ) (st : St N) → Within w b st → Climbs b [] (eval_steps w body ss n k m v st)
      climbs_steps Steps.no_steps n k m v b st l = l
      climbs_steps (Steps.index e p ss) n k m v b st l =
          climbs_got _ b (index_at n k (m + nodes e) p v ss) _ (climbs_eval e m b st l)
          (λ c x s i. climbs_visit p c s _ i (λ t j lt. climbs_answer (index v x) p c t _
          (λ y. climbs_steps ss n (k + 1) (m + nodes e) y c t j)))
      climbs_steps (Steps.call es p ss) n k m v b st l = climbs_args es n k m p v [] ss b st l (λ i h y c u z. climbs_steps ss n i h y c u z)

      pub climbs_args : (es : Exps) (n k m : ℕ) (p : Place) (g : Val N) (vs : List (Val N)) (ss : Steps) (b : ℕ) (st : St N) → Within w b st
          → ((i h : ℕ) (y : Val N) (c : ℕ) (u : St N) → Within w c u → Climbs c [] (eval_steps w body ss n i h y u))
          → Climbs b [] (eval_args w body es n k m p g vs ss
          (λ l i f c us s. enter w body f c us p n l i ss s (λ y u. eval_steps w body ss n (l + 1) i y u)) st)
      climbs_args Exps.no_exps n k m p g vs ss b st l steps =
          climbs_visit p b st _ l (λ s i lt. climbs_called g (vals_of vs) p b s _
          (λ x c. climbs_then (body x c (vals_of vs) p s) b [] (call_open n k m x s.vars ss)
          (on_body s.vars (λ y u. eval_steps w body ss n (k + 1) m y u)) (bodies_climb x c (vals_of vs) p b s i)
          (climbs_body s.vars _ (λ c y u z. steps (k + 1) m y c u z))))
      climbs_args (Exps.exp e es) n k m p g vs ss b st l steps =
          climbs_got _ b (arg_at n k (m + nodes e) p g vs es ss) _ (climbs_eval e m b st l)
          (λ c v s i. climbs_args es n (k + 1) (m + nodes e) p g (vs ++ v ∷ []) ss c s i steps)

    module _ (n m : ℕ) (p : Place) (blk : Stms) (run : St N → Res N) (run_climbs : (b : ℕ) (st : St N) → Within w b st → Climbs b [] (run st)) where
      pub climbs_turns : (f : ℕ) (e : Exp) (b : ℕ) (st : St N) → Within w b st → Climbs b [] (turns f n m p e blk (eval w body e (n + 1)) run st)
      climbs_turns zero e b st l = tt
      climbs_turns (suc f) e b st l =
          climbs_got _ b (while_test n m p e blk) _ (climbs_eval e (n + 1) b st l)
          (λ c v s i. climbs_decide v p c s _ _ (climbs_goes (run s) c (while_body n m p e blk) _ (run_climbs c s i)
          (λ d z j. climbs_turns f e d z j)) i)

      pub climbs_repeats : (f : ℕ) (e : Exp) (b : ℕ) (st : St N) → Within w b st → Climbs b [] (repeats f n m p blk e run (eval w body e m) st)
      climbs_repeats zero e b st l = tt
      climbs_repeats (suc f) e b st l =
          climbs_goes (run st) b (repeat_body n m p blk e) _ (run_climbs b st l)
          (λ c s i. climbs_got _ c (repeat_test n m p blk e) _ (climbs_eval e m c s i)
          (λ d v t j. climbs_decide v p d t _ _ (climbs_repeats f e d t j) j))

      pub climbs_each : (vs : Vals N) (t : ℕ) (x : List ℕ) (whole : Vals N) (b : ℕ) (st : St N) → Within w b st
          → Climbs b [] (each vs n m t p x whole blk run st)
      climbs_each no_vals t x whole b st l = l
      climbs_each (val v vs) t x whole b st l =
          climbs_visit p b st _ l (λ s i lt. climbs_goes (run (set_var x v s)) b (for_body n m (suc t) p x whole blk) _
          (run_climbs b (set_var x v s) i) (λ c z j. climbs_each vs (suc t) x whole c z j))

      pub climbs_each_of : (v : Val N) (x : List ℕ) (b : ℕ) (st : St N) → Within w b st → Climbs b [] (each_of v n m p x blk run st)
      climbs_each_of (list vs) x b st l = climbs_each vs 0 x vs b st l
      climbs_each_of null x b st l = tt
      climbs_each_of (truth y) x b st l = tt
      climbs_each_of (num y) x b st l = tt
      climbs_each_of (text y) x b st l = tt
      climbs_each_of (dict ys) x b st l = tt
      climbs_each_of (fun y c) x b st l = tt
      climbs_each_of (ref y) x b st l = tt

    mutual
      pub climbs_stm : (a : Stm) (n b : ℕ) (st : St N) → Within w b st → Climbs b [] (eval_stm w body a n st)
      climbs_stm (Stm.set x p e) n b st l = climbs_visit p b st _ l
          (λ s i lt. climbs_got _ b (set_part n x) _ (climbs_eval e (n + 1) b s i) (λ c v t j. j))
      climbs_stm (Stm.add x q p e) n b st l = climbs_visit p b st _ l
          (λ s i lt. climbs_got _ b (add_part n x q p) (λ v t. add_to (find x t.vars) x q p v t) (climbs_eval e (n + 1) b s i)
          (λ c v t j. climbs_add (find x t.vars) x q p v c t j))
      climbs_stm (Stm.put x q p i e) n b st l = climbs_visit p b st _ l
          (λ s z lt. climbs_got _ b (put_index n (n + 1 + nodes i) x q p e) _ (climbs_eval i (n + 1) b s z)
          (λ c v t j. climbs_got _ c (put_value n x q p v) (λ y u. put_in (find x u.vars) x q p v y u) (climbs_eval e (n + 1 + nodes i) c t j)
          (λ d y u k. climbs_put (find x u.vars) x q p v y d u k)))
      climbs_stm (Stm.return p e) n b st l = climbs_visit p b st _ l
          (λ s i lt. climbs_got _ b (return_part n) _ (climbs_eval e (n + 1) b s i) (λ c v t j. j))
      climbs_stm (Stm.leave p) n b st l = climbs_visit p b st _ l (λ s i lt. i)
      climbs_stm (Stm.cases p arms els) n b st l =
          climbs_visit p b st _ l (λ s i lt. climbs_arms arms n 1 (n + 1) (n + 1 + arms_nodes arms) els _ b s i
          (λ c t j. climbs_else els (n + 1 + arms_nodes arms) c t j))
      climbs_stm (Stm.while p e blk) n b st l = climbs_visit p b st _ l
          (λ s i lt. climbs_turns n (n + 1 + nodes e) p blk _ (λ c z j. climbs_stms blk (n + 1 + nodes e) 0 (n + 1 + nodes e + 1) c z j)
          (suc visits) e b s i)
      climbs_stm (Stm.repeat p blk e) n b st l =
          climbs_visit p b st _ l (λ s i lt. climbs_repeats n (n + 1 + block_nodes blk) p blk _
          (λ c z j. climbs_stms blk (n + 1) 0 (n + 1 + 1) c z j) (suc visits) e b s i)
      climbs_stm (Stm.for p x e blk) n b st l = climbs_visit p b st _ l
          (λ s i lt. climbs_got _ b (for_list n (n + 1 + nodes e) p x blk) _ (climbs_eval e (n + 1) b s i)
          (λ c v t j. climbs_each_of n (n + 1 + nodes e) p blk (eval_stms w body blk (n + 1 + nodes e) 0 (n + 1 + nodes e + 1))
          (λ d z k. climbs_stms blk (n + 1 + nodes e) 0 (n + 1 + nodes e + 1) d z k) v x c t j))
      climbs_stm (Stm.just p e) n b st l = climbs_visit p b st _ l
          (λ s i lt. climbs_got _ b (just_part n) _ (climbs_eval e (n + 1) b s i) (λ c v t j. j))

      pub climbs_stms : (blk : Stms) (n k m b : ℕ) (st : St N) → Within w b st → Climbs b [] (eval_stms w body blk n k m st)
      climbs_stms Stms.no_stms n k m b st l = l
      climbs_stms (Stms.stm a more) n k m b st l =
          climbs_goes _ b (block_at n (k + 1) (m + stm_nodes a) more) _ (climbs_stm a m b st l)
          (λ c s i. climbs_stms more n (k + 1) (m + stm_nodes a) c s i)

      pub climbs_arms : (arms : Arms) (n k m i : ℕ) (els : Else) (go : St N → Res N) (b : ℕ) (st : St N) → Within w b st
          → ((c : ℕ) (s : St N) → Within w c s → Climbs c [] (go s)) → Climbs b [] (eval_arms w body arms n k m i els go st)
      climbs_arms Arms.no_arms n k m i els go b st l last = last b st l
      climbs_arms (Arms.arm p e blk arms) n k m i els go b st l last =
          climbs_got _ b (arm_test n k (m + nodes e) i p blk arms els) _ (climbs_eval e m b st l)
          (λ c v s j. climbs_decide v p c s _ _ (climbs_stms blk (m + nodes e) 0 (m + nodes e + 1) c s j)
          (climbs_arms arms n (k + 1) (m + nodes e + block_nodes blk) i els go c s j last))

      pub climbs_else : (els : Else) (n b : ℕ) (st : St N) → Within w b st → Climbs b [] (eval_else w body els n st)
      climbs_else Else.no_else n b st l = l
      climbs_else (Else.otherwise blk) n b st l = climbs_stms blk n 0 (n + 1) b st l

  pub climbs_in_body : (o : Option Body) (c : Pairs N) (vs : Vals N) (p : Place) (b : ℕ) (st : St N) (run : Stms → ℕ → St N → Res N)
      → Within w b st → ((blk : Stms) (n : ℕ) (s : St N) → Within w b s → Climbs b [] (run blk n s)) → Climbs b [] (in_body w o c vs p st run)
  climbs_in_body None c vs p b st run l g = tt
  climbs_in_body (Some x) c vs p b st run l g = g x.block x.node (with_vars (bind x.params vs c) st) l

  pub climbs_call : (d : ℕ) (f : List ℕ) (c : Pairs N) (vs : Vals N) (p : Place) (b : ℕ) (st : St N) → Within w b st
      → Climbs b [] (body_at w d f c vs p st)
  climbs_call zero f c vs p b st l = tt
  climbs_call (suc d) f c vs p b st l =
      climbs_in_body (body_of f w.script) c vs p b st _ l
      (λ blk n s i. climbs_stms (body_at w d) (λ f' c' vs' p' b' st' l'. climbs_call d f' c' vs' p' b' st' l') blk n 0 (n + 1) b s i)

  module _ (see : Desc N → Option (Object N)) where
    abbrev pub Enough : ℕ → ℕ → Option (Halt N) → Type 0
    Enough b j None = Unit {0}
    Enough b j (Some h) = (b + j < h.st.count) × (h.st.count ≤ visits)

    enough_less : (b c j : ℕ) (o : Option (Halt N)) → b < c → Enough c j o → Enough b (suc j) o
    enough_less b c j None lt e = tt
    enough_less b c j (Some h) lt e = (omega (arith, e.0), e.1)

    enough_on : (x : Option (List (Object N))) (k : List (Object N) → Res N) (b c j : ℕ) → b < c
        → ((os : List (Object N)) → Enough c j (halt see j (k os))) → Enough b (suc j) (halts_seen x (λ os. halt see j (k os)))
    enough_on None k b c j lt h = tt
    enough_on (Some os) k b c j lt h = enough_less b c j (halt see j (k os)) lt (h os)

    -- at the wait j, counted from 0, more than b + j nodes were visited
    pub enough : (r : Res N) (b j : ℕ) (xs : List (Desc N)) → Climbs b xs r → Enough b j (halt see j r)
    enough (Fin e st) b j xs g = tt
    enough (Tell d r) b j [] g = enough r b j g.0 g.2
    enough (Tell d r) b j (x ∷ xs) g = enough r b j xs g.1
    enough (Ask q fr st k) b j (x ∷ xs) g = absurd g
    enough (Ask q fr st k) b zero [] g = (omega (arith, g.0.0), g.0.1)
    enough (Ask q fr st k) b (suc j) [] g = enough_on (see_all see (refs_of q)) k b st.count j g.0.0 (λ os. enough (k os) st.count j [] (g.2 os))

    batched_on : (x : Option (List (Object N))) (k : List (Object N) → Res N) → ((os : List (Object N)) → Batched [] (acts see (k os)))
        → Batched [] (acts_seen x (λ os. acts see (k os)))
    batched_on None k h = tt
    batched_on (Some os) k h = h os

    -- so what is made is made in batches
    pub batched : (r : Res N) (b : ℕ) (xs : List (Desc N)) → Climbs b xs r → Batched xs (acts see r)
    batched (Fin e st) b [] g = tt
    batched (Fin e st) b (x ∷ xs) g = absurd g
    batched (Tell d r) b [] g = (g.0, g.1, batched r b g.0 g.2)
    batched (Tell d r) b (x ∷ xs) g = (g.0, batched r b xs g.1)
    batched (Ask q fr st k) b [] g = batched_on (see_all see (refs_of q)) k (λ os. batched (k os) st.count [] (g.2 os))
    batched (Ask q fr st k) b (x ∷ xs) g = absurd g

    abbrev pub ApartAt : Option (Halt N) → Type 0
    ApartAt None = Unit {0}
    ApartAt (Some h) = Apart (refs_of h.wait)

    apart_on : (x : Option (List (Object N))) (k : List (Object N) → Res N) (j : ℕ) → ((os : List (Object N)) → ApartAt (halt see j (k os)))
        → ApartAt (halts_seen x (λ os. halt see j (k os)))
    apart_on None k j h = tt
    apart_on (Some os) k j h = h os

    -- and no wait is for a description twice
    pub apart_waits : MakesApart w → (r : Res N) (b j : ℕ) (xs : List (Desc N)) → Climbs b xs r → ApartAt (halt see j r)
    apart_waits m (Fin e st) b j xs g = tt
    apart_waits m (Tell d r) b j [] g = apart_waits m r b j g.0 g.2
    apart_waits m (Tell d r) b j (x ∷ xs) g = apart_waits m r b j xs g.1
    apart_waits m (Ask q fr st k) b j (x ∷ xs) g = absurd g
    apart_waits m (Ask q fr st k) b zero [] g = g.1 m
    apart_waits m (Ask q fr st k) b (suc j) [] g = apart_on (see_all see (refs_of q)) k j (λ os. apart_waits m (k os) st.count j [] (g.2 os))
