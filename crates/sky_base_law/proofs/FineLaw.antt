-- What holds of the values that a run begins with, and is kept by each operator, holds of every value that it makes.
use Rattle.std.proofs.Common.{◌≡◌, ℕ, zero, suc, ◌+◌, ◌<◌, ◌≤◌, Bool, true, false, List, [], ◌∷◌, ◌++◌, map, length, reverse, Option, Some, None, Ok}
use Rattle.std.proofs.Common.{Err, nat_lt, nat_eq, is_some, ◌&&◌, pos, negsuc, refl, ap, arith, ltb-true, eqb-true}
use Rattle.std.specs.Ordering.{nat_cmp, match_ordering}
use Rattle.std.specs.Cmp.Lexicographic.{slice_cmp}
use Rattle.std.specs.declared.cmp.Ordering.{Ordering}
use Rattle.sky_base.specs.Val.{Val, Vals, Pairs, Desc, null, truth, num, text, list, dict, fun, ref, no_vals, val, no_pairs, pair, call, out, input}
use Rattle.sky_base.specs.Val.{count, vals_of, refs_to}
use Rattle.sky_base.specs.Op.{Answer, index, find, put, negated, opposite, len, keys, has, range, limited, set_at, grown, dict_from}
use Rattle.sky_base.specs.Tree.{Place, nowhere, Lit, Oper, Junction, Sign, SignAt, Form, Exp, Exps, Links, Ands, Steps, Stm, Stms, Arms, Else, FunDef}
use Rattle.sky_base.specs.Tree.{nodes, stm_nodes, block_nodes, arms_nodes}
use Rattle.sky_base.specs.Res.{visits, Object, End, St, Entry, parens_in, part_at, chain_first, chain_more, logic_at, prefix_part, star_wait}
use Rattle.sky_base.specs.Res.{postfix_first, index_at, arg_at, call_open, exec_wait, set_part, add_part, put_index, put_value, return_part}
use Rattle.sky_base.specs.Res.{just_part, arm_test, while_test, while_body, repeat_body, repeat_test, for_list, for_body, block_at, Wait, one_of}
use Rattle.sky_base.specs.Res.{all_of, Res, Fin, Tell, Ask, kept_of, opens, then_do, on_got, on_goes, with_vars, on_body, gives, counted, visited}
use Rattle.sky_base.specs.Res.{visit, answer, tell_all}
use Rattle.sky_base.specs.Eval.{World, find_fun, is_one_of, Body, body_of, bind, set_var, lit_val, fun_named, named, closed, caught_by, oper}
use Rattle.sky_base.specs.Eval.{exec_end, read_end, outputs, truth_of, decide, joins, add_to, put_in, turns, repeats, each, each_of, with_one}
use Rattle.sky_base.specs.Eval.{with_two, with_three, wait_end, ask, make_one, spawn_if, spawn_fun, spawn_list, spawned, outputs_if, outputs_count}
use Rattle.sky_base.specs.Eval.{outputs_of, exec_ask, input_if, input_of, formed, deref, signed, signs, call_if, call_fun, called, enter, eval}
use Rattle.sky_base.specs.Eval.{eval_parts, eval_links, eval_ands, eval_steps, eval_args, eval_stm, eval_stms, eval_arms, eval_else, in_body, body_at}
use Rattle.sky_base.specs.Eval.{inside}
use Rattle.sky_base.specs.Read.{refs_of}
use Rattle.sky_base_law.specs.Tasks.{Each}
use Rattle.sky_base_law.specs.Sound.{IsFun}
use Rattle.sky_base_law.specs.Written.{ExpWritten, ExpsWritten, LinksWritten, AndsWritten, StepsWritten, StmWritten, StmsWritten, ArmsWritten, ElseWritten}
use Rattle.sky_base_law.specs.Written.{Written}
use Rattle.sky_base_law.proofs.WrittenLaw.{BodyWritten, body_written}

-- w is what a run is run with, P what holds of values, and Q what holds of the descriptions that are made
module _ {N : Type 0} (w : World N) (P : Val N → Type 0) (Q : Desc N → Type 0) where
  abbrev pub AnswerOk : Answer N → Type 0
  AnswerOk (Ok v) = P v
  AnswerOk (Err k) = Unit {0}

  abbrev pub OptionOk : Option (Val N) → Type 0
  OptionOk None = Unit {0}
  OptionOk (Some v) = P v

  abbrev pub ValsOk : Vals N → Type 0
  ValsOk no_vals = Unit {0}
  ValsOk (val v vs) = P v × ValsOk vs

  abbrev pub PairsOk : Pairs N → Type 0
  PairsOk no_pairs = Unit {0}
  PairsOk (pair k v ps) = P v × PairsOk ps

  abbrev pub ObjectOk : Object N → Type 0
  ObjectOk (Object.bytes b) = Unit {0}
  ObjectOk (Object.data_of v) = P v
  ObjectOk (Object.fault f) = Unit {0}

  abbrev pub EndOk : End N → Type 0
  EndOk End.goes = Unit {0}
  EndOk (End.got v) = P v
  EndOk (End.returned v) = P v
  EndOk (End.failed f) = Unit {0}

  -- the innermost form keeps what is waited for
  abbrev pub waiting : Wait N → Val N
  waiting (one_of p x) = ref x
  waiting (all_of ds) = list (refs_to ds)

  abbrev pub Waits : Wait N → List (Entry N) → Type 0
  Waits q [] = ⊥
  Waits q (en ∷ []) = kept_of en ≡ waiting q ∷ []
  Waits q (en ∷ e ∷ fr) = Waits q (e ∷ fr)

  -- ---- pairs and lists

  pub put_each : (k : List ℕ) (v : Val N) (ps : Pairs N) → P v → PairsOk ps → PairsOk (put k v ps)
  put_each k v no_pairs h l = (h, tt)
  put_each k v (pair j u ps) h l = go (slice_cmp nat_cmp k j) (put_each k v ps h l.1)
    where
      go : (o : Ordering) → PairsOk (put k v ps) → PairsOk (match_ordering o (pair k v (pair j u ps)) (pair j v ps) (pair j u (put k v ps)))
      go Ordering.Less i = (h, l)
      go Ordering.Equal i = (h, l.1)
      go Ordering.Greater i = (l.0, i)

  pub find_each : (k : List ℕ) (ps : Pairs N) → PairsOk ps → OptionOk (find k ps)
  find_each k no_pairs l = tt
  find_each k (pair j u ps) l = go (slice_cmp nat_cmp k j) (find_each k ps l.1)
    where
      go : (o : Ordering) → OptionOk (find k ps) → OptionOk (match_ordering o None (Some u) (find k ps))
      go Ordering.Less i = tt
      go Ordering.Equal i = l.0
      go Ordering.Greater i = i

  pub vals_ok : (vs : List (Val N)) → Each P vs → ValsOk (vals_of vs)
  vals_ok [] h = tt
  vals_ok (v ∷ vs) h = (h.0, vals_ok vs h.1)

  pub more_ok : (vs : List (Val N)) (v : Val N) → Each P vs → P v → Each P (vs ++ v ∷ [])
  more_ok [] v h i = (i, tt)
  more_ok (u ∷ vs) v h i = (h.0, more_ok vs v h.1 i)

  module _ (V : Pairs N → Type 0) where
    -- an open call is of a function of the script, and stands only where a body may be opened
    abbrev pub OpenOk : ℕ → Option (List ℕ × Pairs N) → Type 0
    OpenOk d None = Unit {0}
    OpenOk d (Some o) = (0 < d) × IsFun w.script o.0 × V o.1

    abbrev pub EntryOk : ℕ → Entry N → Type 0
    EntryOk d en = Each P (kept_of en) × OpenOk d (opens en)

    -- where d bodies may be opened
    abbrev pub FormsOk : ℕ → List (Entry N) → Type 0
    FormsOk d [] = Unit {0}
    FormsOk d (en ∷ fr) = EntryOk d en × FormsOk (inside w en d) fr

    -- R holds of a description once it is made
    module _ (R : Desc N → Type 0) where
      abbrev pub Fine : ℕ → Res N → Type 0
      Fine d (Fin e st) = EndOk e × V st.vars
      Fine d (Tell o r) = Q o × (R o → Fine d r)
      Fine d (Ask q fr st k) =
          (Each (λ x. P (ref x)) (refs_of q) × FormsOk d fr × V st.vars × Waits q fr) × ((os : List (Object N)) → Each ObjectOk os → Fine d (k os))

      -- ---- the forms

      pub waits_more : (q : Wait N) (en : Entry N) (fr : List (Entry N)) → Waits q fr → Waits q (en ∷ fr)
      waits_more q en [] h = absurd h
      waits_more q en (e ∷ fr) h = h

      pub fine_then : (r : Res N) (d : ℕ) (en : Entry N) (k : End N → St N → Res N) → EntryOk d en → Fine (inside w en d) r → ((e : End N) (st : St N) → EndOk e → V st.vars → Fine d (k e st))
          → Fine d (then_do r en k)
      fine_then (Fin e st) d en k i g h = h e st g.0 g.1
      fine_then (Tell o r) d en k i g h = (g.0, λ m. fine_then r d en k i (g.1 m) h)
      fine_then (Ask q fr st p) d en k i g h =
          ((g.0.0, (i, g.0.1), g.0.2, waits_more q en fr g.0.3), λ os o. fine_then (p os) d en k i (g.1 os o) h)

      pub fine_got : (r : Res N) (d : ℕ) (en : Entry N) (k : Val N → St N → Res N) → EntryOk d en → Fine (inside w en d) r → ((v : Val N) (st : St N) → P v → V st.vars → Fine d (k v st))
          → Fine d (then_do r en (on_got k))
      fine_got r d en k i g h = fine_then r d en (on_got k) i g pass
        where
          pass : (e : End N) (st : St N) → EndOk e → V st.vars → Fine d (on_got k e st)
          pass End.goes st o l = (tt, l)
          pass (End.got v) st o l = h v st o l
          pass (End.returned v) st o l = (o, l)
          pass (End.failed f) st o l = (tt, l)

      pub fine_wait : (q : Wait N) (d : ℕ) (en : Entry N) (st : St N) (go : Val N → St N → Res N) → EntryOk d en → kept_of en ≡ waiting q ∷ [] → Each (λ x. P (ref x)) (refs_of q) → V st.vars
          → ((os : List (Object N)) → Each ObjectOk os → EndOk (wait_end w q os)) → ((v : Val N) (t : St N) → P v → V t.vars → Fine d (go v t)) → Fine d (then_do (ask w q st) en (on_got go))
      fine_wait q d en st go i e qs l ends h = ((qs, (i, tt), l, e), λ os o. pass (wait_end w q os) (ends os o))
        where
          pass : (x : End N) → EndOk x → Fine d (on_got go x st)
          pass End.goes o = (tt, l)
          pass (End.got v) o = h v st o l
          pass (End.returned v) o = (o, l)
          pass (End.failed f) o = (tt, l)

      pub fine_goes : (r : Res N) (d : ℕ) (en : Entry N) (k : St N → Res N) → EntryOk d en → Fine (inside w en d) r → ((st : St N) → V st.vars → Fine d (k st)) → Fine d (then_do r en (on_goes k))
      fine_goes r d en k i g h = fine_then r d en (on_goes k) i g pass
        where
          pass : (e : End N) (st : St N) → EndOk e → V st.vars → Fine d (on_goes k e st)
          pass End.goes st o l = h st l
          pass (End.got v) st o l = (o, l)
          pass (End.returned v) st o l = (o, l)
          pass (End.failed f) st o l = (tt, l)

      pub fine_visit : (p : Place) (d : ℕ) (st : St N) (k : St N → Res N) → V st.vars → Fine d (k (counted st)) → Fine d (visit p st k)
      fine_visit p d st k l g = go (nat_lt st.count visits)
        where
          go : (b : Bool) → Fine d (visited b p st k)
          go true = g
          go false = (tt, l)

      pub fine_answer : (o : Answer N) (p : Place) (d : ℕ) (st : St N) (k : Val N → St N → Res N) → V st.vars → AnswerOk o → ((v : Val N) → P v → Fine d (k v st)) → Fine d (answer o p st k)
      fine_answer (Ok v) p d st k l h g = g v h
      fine_answer (Err e) p d st k l h g = (tt, l)

      pub fine_decide : (v : Val N) (p : Place) (d : ℕ) (st : St N) (on off : St N → Res N) → V st.vars → Fine d (on st) → Fine d (off st) → Fine d (decide v p st on off)
      fine_decide (truth true) p d st on off l g h = g
      fine_decide (truth false) p d st on off l g h = h
      fine_decide null p d st on off l g h = (tt, l)
      fine_decide (num z) p d st on off l g h = (tt, l)
      fine_decide (text t) p d st on off l g h = (tt, l)
      fine_decide (list vs) p d st on off l g h = (tt, l)
      fine_decide (dict ps) p d st on off l g h = (tt, l)
      fine_decide (fun f ca) p d st on off l g h = (tt, l)
      fine_decide (ref x) p d st on off l g h = (tt, l)

      pub end_read : (o : Answer N) (p : Place) → AnswerOk o → EndOk (read_end o p)
      end_read (Ok v) p h = h
      end_read (Err k) p h = tt

      pub end_exec : (ds : List (Desc N)) (os : List (Object N)) → P (list (refs_to ds)) → EndOk (exec_end ds os)
      end_exec ds [] h = h
      end_exec ds (Object.bytes b ∷ os) h = end_exec ds os h
      end_exec ds (Object.data_of v ∷ os) h = end_exec ds os h
      end_exec ds (Object.fault f ∷ os) h = tt

      pub fine_call_if : (b : Bool) (p : Place) (d : ℕ) (st : St N) (r : Res N) → V st.vars → Fine d r → Fine d (call_if w b p st r)
      fine_call_if false p d st r l g = (tt, l)
      fine_call_if true p d st r l g = g

      pub fine_call_fun : (o : Option FunDef) (vs : Vals N) (p : Place) (d : ℕ) (st : St N) (r : Res N) → V st.vars → (is_some o ≡ true → Fine d r) → Fine d (call_fun w o vs p st r)
      fine_call_fun None vs p d st r l g = (tt, l)
      fine_call_fun (Some x) vs p d st r l g = fine_call_if (nat_eq (length x.params) (count vs)) p d st r l (g refl)

      pub fine_called : (v : Val N) (vs : Vals N) (p : Place) (d : ℕ) (st : St N) (k : List ℕ → Pairs N → Res N) → V st.vars → P v
          → ((f : List ℕ) (ca : Pairs N) → IsFun w.script f → P (fun f ca) → Fine d (k f ca)) → Fine d (called w v vs p st k)
      fine_called (fun f ca) vs p d st k l h g = fine_call_fun (find_fun f w.script.funs) vs p d st (k f ca) l (λ i. g f ca i h)
      fine_called null vs p d st k l h g = (tt, l)
      fine_called (truth b) vs p d st k l h g = (tt, l)
      fine_called (num z) vs p d st k l h g = (tt, l)
      fine_called (text t) vs p d st k l h g = (tt, l)
      fine_called (list us) vs p d st k l h g = (tt, l)
      fine_called (dict ps) vs p d st k l h g = (tt, l)
      fine_called (ref x) vs p d st k l h g = (tt, l)

      pub fine_one : (vs : List (Val N)) (p : Place) (d : ℕ) (st : St N) (k : Val N → Res N) → V st.vars → Each P vs → ((x : Val N) → P x → Fine d (k x)) → Fine d (with_one vs p st k)
      fine_one [] p d st k l h g = (tt, l)
      fine_one (x ∷ []) p d st k l h g = g x h.0
      fine_one (x ∷ y ∷ vs) p d st k l h g = (tt, l)

      pub fine_two : (vs : List (Val N)) (p : Place) (d : ℕ) (st : St N) (k : Val N → Val N → Res N) → V st.vars → Each P vs → ((x y : Val N) → P x → P y → Fine d (k x y))
          → Fine d (with_two vs p st k)
      fine_two [] p d st k l h g = (tt, l)
      fine_two (x ∷ []) p d st k l h g = (tt, l)
      fine_two (x ∷ y ∷ []) p d st k l h g = g x y h.0 h.1.0
      fine_two (x ∷ y ∷ z ∷ vs) p d st k l h g = (tt, l)

      pub fine_three : (vs : List (Val N)) (p : Place) (d : ℕ) (st : St N) (k : Val N → Val N → Val N → Res N) → V st.vars → Each P vs → ((x y z : Val N) → P x → P y → P z → Fine d (k x y z))
          → Fine d (with_three vs p st k)
      fine_three [] p d st k l h g = (tt, l)
      fine_three (x ∷ []) p d st k l h g = (tt, l)
      fine_three (x ∷ y ∷ []) p d st k l h g = (tt, l)
      fine_three (x ∷ y ∷ z ∷ []) p d st k l h g = g x y z h.0 h.1.0 h.1.1.0
      fine_three (x ∷ y ∷ z ∷ u ∷ vs) p d st k l h g = (tt, l)

      pub fine_tell : (ds : List (Desc N)) (r : Res N) (d : ℕ) → Each Q ds → (Each R ds → Fine d r) → Fine d (tell_all ds r)
      fine_tell [] r d h g = g tt
      fine_tell (x ∷ ds) r d h g = (h.0, λ m. fine_tell ds r d h.1 (λ ms. g (m, ms)))

      length_map : (f : Desc N → Desc N) (ds : List (Desc N)) → length (map f ds) ≡ length ds
      length_map f [] = refl
      length_map f (x ∷ ds) = ap suc (length_map f ds)

      length_outputs : (x : List ℕ) (a : Val N) (n i m : ℕ) → length (outputs x a n i m) ≡ m
      length_outputs x a n i zero = refl
      length_outputs x a n i (suc m) = ap suc (length_outputs x a n (suc i) m)

      module _ (L : Lit → Type 0) (K : List ℕ → Type 0) where
        -- V holds of the variables, L of the literals and K of the names of the script: what is made of what these hold of is so too
        pub record Closed : Type 0 where
          pub null_ok : P null
          pub truth_ok : (b : Bool) → P (truth b)
          pub taken_ok : (t : ℕ) (vs : Vals N) → P (list vs) → t ≤ count vs → P (num (pos t))
          pub lit_ok : (l : Lit) → L l → AnswerOk (limited (lit_val l))
          pub put_ok : (x : List ℕ) (v : Val N) (ps : Pairs N) → K x → P v → V ps → V (put x v ps)
          pub find_ok : (x : List ℕ) (ps : Pairs N) → V ps → OptionOk (find x ps)
          pub fun_ok : (x : List ℕ) → K x → IsFun w.script x → AnswerOk (limited (fun x no_pairs))
          pub closed_ok : (f : FunDef) (x : List ℕ) (xs : Pairs N) → K x → find_fun x w.script.funs ≡ Some f → V xs → AnswerOk (limited (fun x (caught_by f.uses xs)))
          pub caught_ok : (f : List ℕ) (ca : Pairs N) → P (fun f ca) → V ca
          pub list_ok : (vs : List (Val N)) → Each P vs → AnswerOk (limited (list (vals_of vs)))
          pub dict_ok : (vs : List (Val N)) → Each P vs → AnswerOk (dict_from vs no_pairs)
          pub oper_ok : (o : Oper) (a b : Val N) → P a → P b → AnswerOk (oper o a b)
          pub index_ok : (v i : Val N) → P v → AnswerOk (index v i)
          pub set_ok : (v i e : Val N) → P v → P i → P e → AnswerOk (set_at v i e)
          pub grown_ok : (v e : Val N) → P v → P e → AnswerOk (grown v e)
          pub negated_ok : (v : Val N) → AnswerOk (negated v)
          pub opposite_ok : (v : Val N) → AnswerOk (opposite v)
          pub len_ok : (v : Val N) → P v → AnswerOk (len v)
          pub keys_ok : (v : Val N) → P v → AnswerOk (keys v)
          pub has_ok : (v k : Val N) → AnswerOk (has v k)
          pub range_ok : (a b : Val N) → P a → P b → AnswerOk (range a b)
          pub inside_ok : (vs : Vals N) → P (list vs) → ValsOk vs
          pub reads_ok : (b : List ℕ) → AnswerOk (w.reads b)
          pub ref_ok : (d : Desc N) → Q d → R d → P (ref (w.make d))
          pub refs_ok : (ds : List (Desc N)) → length ds ≤ 64 → Each (λ d. P (ref d)) ds → P (list (refs_to ds))
          pub call_ok : (f : List ℕ) (ca : Pairs N) (vs : Vals N) (x : FunDef) → find_fun f w.script.funs ≡ Some x → length x.params ≡ count vs → P (fun f ca) → P (list vs) → Q (call f ca vs)
          pub out_ok : (x : List ℕ) (a : Val N) (n i : ℕ) → P (text x) → P a → i < n → n ≤ 64 → Q (out x a n i)
          pub input_ok : (k : List ℕ) → P (text k) → is_one_of k w.script.keys ≡ true → Q (input k)

        module _ (c : Closed) where
          pub bind_ok : (xs : List (List ℕ)) (vs : Vals N) (ps : Pairs N) → Each K xs → ValsOk vs → V ps → V (bind xs vs ps)
          bind_ok [] vs ps k h l = l
          bind_ok (x ∷ xs) no_vals ps k h l = l
          bind_ok (x ∷ xs) (val v vs) ps k h l = bind_ok xs vs (put x v ps) k.1 h.1 (c.put_ok x v ps k.0 h.0 l)

          pub named_ok : (o : Option (Val N)) (x : List ℕ) → K x → OptionOk o → AnswerOk (named o x w.script.funs)
          named_ok (Some v) x n h = h
          named_ok None x n h = go (find_fun x w.script.funs) refl
            where
              go : (f : Option FunDef) → find_fun x w.script.funs ≡ f → AnswerOk (fun_named f x)
              go None e = tt
              go (Some f) e = c.fun_ok x n (ap is_some e)

          pub truth_of_ok : (v : Val N) → AnswerOk (truth_of v)
          truth_of_ok (truth b) = c.truth_ok b
          truth_of_ok null = tt
          truth_of_ok (num z) = tt
          truth_of_ok (text t) = tt
          truth_of_ok (list vs) = tt
          truth_of_ok (dict ps) = tt
          truth_of_ok (fun f ca) = tt
          truth_of_ok (ref x) = tt

          pub end_one : (p : Place) (x : Desc N) (os : List (Object N)) → Each ObjectOk os → EndOk (wait_end w (one_of p x) os)
          end_one p x [] h = c.null_ok
          end_one p x (Object.bytes b ∷ os) h = end_read (w.reads b) p (c.reads_ok b)
          end_one p x (Object.data_of v ∷ os) h = h.0
          end_one p x (Object.fault f ∷ os) h = tt

          pub fine_joins : (j : Junction) (v : Val N) (p : Place) (d : ℕ) (st : St N) (k : St N → Res N) → V st.vars → Fine d (k st) → Fine d (joins j v p st k)
          fine_joins Junction.both v p d st k l g = fine_decide v p d st k _ l g (c.truth_ok false, l)
          fine_joins Junction.either v p d st k l g = fine_decide v p d st _ k l (c.truth_ok true, l) g

          pub fine_make : (x : Desc N) (d : ℕ) (st : St N) → V st.vars → Q x → Fine d (make_one w x st)
          fine_make x d st l q = (q, λ m. (c.ref_ok x q m, l))

          pub closed_fine : (x : List ℕ) (xs : Pairs N) → K x → V xs → AnswerOk (closed (find_fun x w.script.funs) x xs)
          closed_fine x xs n l = go (find_fun x w.script.funs) refl
            where
              go : (o : Option FunDef) → find_fun x w.script.funs ≡ o → AnswerOk (closed o x xs)
              go None e = tt
              go (Some f) e = c.closed_ok f x xs n e l

          pub fine_spawn_if : (b : Bool) (x : Desc N) (p : Place) (d : ℕ) (st : St N) → V st.vars → (b ≡ true → Q x) → Fine d (spawn_if w b x p st)
          fine_spawn_if false x p d st l q = (tt, l)
          fine_spawn_if true x p d st l q = fine_make x d st l (q refl)

          pub fine_spawn_fun : (o : Option FunDef) (f : List ℕ) (ca : Pairs N) (vs : Vals N) (p : Place) (d : ℕ) (st : St N) → V st.vars
              → ((x : FunDef) → o ≡ Some x → length x.params ≡ count vs → Q (call f ca vs)) → Fine d (spawn_fun w o f ca vs p st)
          fine_spawn_fun None f ca vs p d st l q = (tt, l)
          fine_spawn_fun (Some x) f ca vs p d st l q = fine_spawn_if (nat_eq (length x.params) (count vs)) (call f ca vs) p d st l (λ e. q x refl (eqb-true (length x.params) (count vs) e))

          pub fine_spawn_list : (f : List ℕ) (ca : Pairs N) (a : Val N) (p : Place) (d : ℕ) (st : St N) → V st.vars → P (fun f ca) → P a → Fine d (spawn_list w f ca a p st)
          fine_spawn_list f ca (list vs) p d st l z h = fine_spawn_fun (find_fun f w.script.funs) f ca vs p d st l (λ x e n. c.call_ok f ca vs x e n z h)
          fine_spawn_list f ca null p d st l z h = (tt, l)
          fine_spawn_list f ca (truth b) p d st l z h = (tt, l)
          fine_spawn_list f ca (num y) p d st l z h = (tt, l)
          fine_spawn_list f ca (text t) p d st l z h = (tt, l)
          fine_spawn_list f ca (dict ps) p d st l z h = (tt, l)
          fine_spawn_list f ca (fun g cb) p d st l z h = (tt, l)
          fine_spawn_list f ca (ref x) p d st l z h = (tt, l)

          pub fine_spawned : (g a : Val N) (p : Place) (d : ℕ) (st : St N) → V st.vars → P g → P a → Fine d (spawned w g a p st)
          fine_spawned (fun f ca) a p d st l z h = fine_spawn_list f ca a p d st l z h
          fine_spawned null a p d st l z h = (tt, l)
          fine_spawned (truth b) a p d st l z h = (tt, l)
          fine_spawned (num y) a p d st l z h = (tt, l)
          fine_spawned (text t) a p d st l z h = (tt, l)
          fine_spawned (list vs) a p d st l z h = (tt, l)
          fine_spawned (dict ps) a p d st l z h = (tt, l)
          fine_spawned (ref x) a p d st l z h = (tt, l)

          pub outputs_ok : (x : List ℕ) (a : Val N) (n i m : ℕ) → P (text x) → P a → n ≤ 64 → i + m ≤ n → Each Q (outputs x a n i m)
          outputs_ok x a n i zero hx ha le lt = tt
          outputs_ok x a n i (suc m) hx ha le lt =
              (c.out_ok x a n i hx ha (omega arith) le, outputs_ok x a n (suc i) m hx ha le (omega arith))

          pub made_ok : (ds : List (Desc N)) → Each Q ds → Each R ds → Each (λ d. P (ref d)) (map w.make ds)
          made_ok [] h m = tt
          made_ok (x ∷ ds) h m = (c.ref_ok x h.0 m.0, made_ok ds h.1 m.1)

          module _ (d : ℕ) (st : St N) (l : V st.vars) (k : List (Desc N) → St N → Res N) (g : (es : List (Desc N)) → length es ≤ 64 → Each (λ x. P (ref x)) es → Fine d (k es st)) where
            pub fine_outputs_if : (b : Bool) (x : List ℕ) (a : Val N) (n : ℕ) (p : Place) → (b ≡ true → n ≤ 64) → P (text x) → P a → Fine d (outputs_if w b (outputs x a n 0 n) p st k)
            fine_outputs_if false x a n p le hx ha = (tt, l)
            fine_outputs_if true x a n p le hx ha =
                let all : Each Q (outputs x a n 0 n) = outputs_ok x a n 0 n hx ha (le refl) (omega arith) in
                let few : n ≤ 64 = le refl in
                fine_tell (outputs x a n 0 n) _ d all (λ m. g (map w.make (outputs x a n 0 n)) (omega (arith, length_map w.make (outputs x a n 0 n), length_outputs x a n 0 n))
                (made_ok (outputs x a n 0 n) all m))

            up_to : (n : ℕ) → nat_lt 0 n && nat_lt n 65 ≡ true → n ≤ 64
            up_to n e = go (nat_lt 0 n) (nat_lt n 65) refl e
              where
                go : (a b : Bool) → nat_lt n 65 ≡ b → a && b ≡ true → n ≤ 64
                go true true q z = let lt : n < 65 = ltb-true n 65 q in omega arith
                go true false q z = absurd cc
                go false b q z = absurd cc

            pub fine_outputs_count : (x : List ℕ) (a n : Val N) (p : Place) → P (text x) → P a → Fine d (outputs_count w x a n p st k)
            fine_outputs_count x a (num (pos n)) p hx ha = fine_outputs_if (nat_lt 0 n && nat_lt n 65) x a n p (up_to n) hx ha
            fine_outputs_count x a (num (negsuc n)) p hx ha = (tt, l)
            fine_outputs_count x a null p hx ha = (tt, l)
            fine_outputs_count x a (truth b) p hx ha = (tt, l)
            fine_outputs_count x a (text t) p hx ha = (tt, l)
            fine_outputs_count x a (list vs) p hx ha = (tt, l)
            fine_outputs_count x a (dict ps) p hx ha = (tt, l)
            fine_outputs_count x a (fun f ca) p hx ha = (tt, l)
            fine_outputs_count x a (ref y) p hx ha = (tt, l)

            pub fine_outputs : (x a n : Val N) (p : Place) → P x → P a → Fine d (outputs_of w x a n p st k)
            fine_outputs (text x) a n p hx ha = fine_outputs_count x a n p hx ha
            fine_outputs null a n p hx ha = (tt, l)
            fine_outputs (truth b) a n p hx ha = (tt, l)
            fine_outputs (num z) a n p hx ha = (tt, l)
            fine_outputs (list vs) a n p hx ha = (tt, l)
            fine_outputs (dict ps) a n p hx ha = (tt, l)
            fine_outputs (fun f ca) a n p hx ha = (tt, l)
            fine_outputs (ref y) a n p hx ha = (tt, l)

          pub fine_exec_ask : (n : ℕ) (ds : List (Desc N)) (d : ℕ) (st : St N) → V st.vars → length ds ≤ 64 → Each (λ x. P (ref x)) ds → Fine d (exec_ask w n ds st)
          fine_exec_ask n ds d st l le h =
              fine_wait (all_of ds) d (exec_wait n ds) st gives ((c.refs_ok ds le h, tt), tt) refl h l (λ os o. end_exec ds os (c.refs_ok ds le h)) (λ v s i m. (i, m))

          pub fine_input_if : (b : Bool) (k : List ℕ) (p : Place) (d : ℕ) (st : St N) → V st.vars → (b ≡ true → Q (input k)) → Fine d (input_if w b k p st)
          fine_input_if false k p d st l q = (tt, l)
          fine_input_if true k p d st l q = fine_make (input k) d st l (q refl)

          pub fine_input : (v : Val N) (p : Place) (d : ℕ) (st : St N) → V st.vars → P v → Fine d (input_of w v p st)
          fine_input (text k) p d st l h = fine_input_if (is_one_of k w.script.keys) k p d st l (c.input_ok k h)
          fine_input null p d st l h = (tt, l)
          fine_input (truth b) p d st l h = (tt, l)
          fine_input (num z) p d st l h = (tt, l)
          fine_input (list vs) p d st l h = (tt, l)
          fine_input (dict ps) p d st l h = (tt, l)
          fine_input (fun f ca) p d st l h = (tt, l)
          fine_input (ref x) p d st l h = (tt, l)

          pub fine_gives : (o : Answer N) (p : Place) (d : ℕ) (st : St N) → V st.vars → AnswerOk o → Fine d (answer o p st gives)
          fine_gives o p d st l h = fine_answer o p d st gives l h (λ v i. (i, l))

          pub fine_formed : (o : Form) (vs : List (Val N)) (n : ℕ) (p : Place) (d : ℕ) (st : St N) → V st.vars → Each P vs → Fine d (formed w o vs n p st)
          fine_formed Form.list vs n p d st l h = fine_gives (limited (list (vals_of vs))) p d st l (c.list_ok vs h)
          fine_formed Form.dict vs n p d st l h = fine_gives (dict_from vs no_pairs) p d st l (c.dict_ok vs h)
          fine_formed Form.spawn vs n p d st l h = fine_two vs p d st _ l h (λ x y i j. fine_spawned x y p d st l i j)
          fine_formed Form.spawn_exec vs n p d st l h =
              fine_three vs p d st _ l h (λ x y z i j k. fine_outputs d st l _ (λ es le u. (c.refs_ok es le u, l)) x y z p i j)
          fine_formed Form.exec vs n p d st l h =
              fine_three vs p d st _ l h (λ x y z i j k. fine_outputs d st l _ (λ es le u. fine_exec_ask n es d st l le u) x y z p i j)
          fine_formed Form.ref vs n p d st l h = fine_one vs p d st _ l h (λ x i. fine_input x p d st l i)
          fine_formed Form.len vs n p d st l h = fine_one vs p d st _ l h (λ x i. fine_gives (len x) p d st l (c.len_ok x i))
          fine_formed Form.keys vs n p d st l h = fine_one vs p d st _ l h (λ x i. fine_gives (keys x) p d st l (c.keys_ok x i))
          fine_formed Form.has vs n p d st l h = fine_two vs p d st _ l h (λ x y i j. fine_gives (has x y) p d st l (c.has_ok x y))
          fine_formed Form.range vs n p d st l h = fine_two vs p d st _ l h (λ x y i j. fine_gives (range x y) p d st l (c.range_ok x y i j))

          pub fine_deref : (v : Val N) (n k : ℕ) (ss : List SignAt) (p : Place) (d : ℕ) (st : St N) (go : Val N → St N → Res N) → V st.vars → P v
              → ((u : Val N) (t : St N) → P u → V t.vars → Fine d (go u t)) → Fine d (deref w v n k ss p st go)
          fine_deref (ref x) n k ss p d st go l h g =
              fine_wait (one_of p x) d (star_wait n k x ss) st go ((h, tt), tt) refl (h, tt) l (λ os o. end_one p x os o) g
          fine_deref null n k ss p d st go l h g = (tt, l)
          fine_deref (truth b) n k ss p d st go l h g = (tt, l)
          fine_deref (num z) n k ss p d st go l h g = (tt, l)
          fine_deref (text t) n k ss p d st go l h g = (tt, l)
          fine_deref (list vs) n k ss p d st go l h g = (tt, l)
          fine_deref (dict ps) n k ss p d st go l h g = (tt, l)
          fine_deref (fun f ca) n k ss p d st go l h g = (tt, l)

          pub fine_signed : (s : Sign) (v : Val N) (n k : ℕ) (ss : List SignAt) (p : Place) (d : ℕ) (st : St N) (go : Val N → St N → Res N) → V st.vars → P v
              → ((u : Val N) (t : St N) → P u → V t.vars → Fine d (go u t)) → Fine d (signed w s v n k ss p st go)
          fine_signed Sign.not v n k ss p d st go l h g = fine_answer (opposite v) p d st go l (c.opposite_ok v) (λ u i. g u st i l)
          fine_signed Sign.minus v n k ss p d st go l h g = fine_answer (negated v) p d st go l (c.negated_ok v) (λ u i. g u st i l)
          fine_signed Sign.star v n k ss p d st go l h g = fine_deref v n k ss p d st go l h g

          pub fine_signs : (ss : List SignAt) (n k : ℕ) (v : Val N) (d : ℕ) (st : St N) → V st.vars → P v → Fine d (signs w ss n k v st)
          fine_signs [] n k v d st l h = (h, l)
          fine_signs (o ∷ ss) n k v d st l h =
              fine_visit o.place d st (λ s. signed w o.sign v n k ss o.place s (λ u t. signs w ss n (k + 1) u t)) l
              (fine_signed o.sign v n k ss o.place d (counted st) _ l h (λ u t i m. fine_signs ss n (k + 1) u d t m i))

          pub fine_add : (o : Option (Val N)) (x : List ℕ) (q p : Place) (e : Val N) (d : ℕ) (st : St N) → K x → V st.vars → OptionOk o → P e → Fine d (add_to o x q p e st)
          fine_add None x q p e d st n l h i = (tt, l)
          fine_add (Some v) x q p e d st n l h i =
              fine_answer (grown v e) p d st _ l (c.grown_ok v e h i) (λ u j. (tt, c.put_ok x u st.vars n j l))

          pub fine_put : (o : Option (Val N)) (x : List ℕ) (q p : Place) (k e : Val N) (d : ℕ) (st : St N) → K x → V st.vars → OptionOk o → P k → P e → Fine d (put_in o x q p k e st)
          fine_put None x q p k e d st n l h g i = (tt, l)
          fine_put (Some v) x q p k e d st n l h g i =
              fine_answer (set_at v k e) p d st _ l (c.set_ok v k e h g i) (λ u j. (tt, c.put_ok x u st.vars n j l))

          -- where d bodies may be opened, and a call of one of them is fine
          module _ (d : ℕ) (body : List ℕ → Pairs N → Vals N → Place → St N → Res N)
              (enters : (f : List ℕ) (ca : Pairs N) (vs : Vals N) (p : Place) (n k m : ℕ) (ss : Steps) (st : St N) (go : Val N → St N → Res N) → IsFun w.script f → V st.vars → V ca → ValsOk vs
              → ((y : Val N) (u : St N) → P y → V u.vars → Fine d (go y u)) → Fine d (enter w body f ca vs p n k m ss st go)) where
            mutual
              pub fine_eval : (e : Exp) (n : ℕ) (st : St N) → ExpWritten L K e → V st.vars → Fine d (eval w body e n st)
              fine_eval (Exp.literal v p) n st o l = fine_visit p d st _ l (fine_gives (limited (lit_val v)) p d (counted st) l (c.lit_ok v o))
              fine_eval (Exp.name x p) n st o l =
                  fine_visit p d st (λ s. answer (named (find x s.vars) x w.script.funs) p s gives) l
                  (fine_gives (named (find x st.vars) x w.script.funs) p d (counted st) l (named_ok (find x st.vars) x o (c.find_ok x st.vars l)))
              fine_eval (Exp.func x p) n st o l =
                  fine_visit p d st (λ s. answer (closed (find_fun x w.script.funs) x s.vars) p s gives) l
                  (fine_gives (closed (find_fun x w.script.funs) x st.vars) p d (counted st) l (closed_fine x st.vars o l))
              fine_eval (Exp.parens e) n st o l = fine_got (eval w body e (n + 1) st) d (parens_in n) gives (tt, tt) (fine_eval e (n + 1) st o l) (λ v s i m. (i, m))
              fine_eval (Exp.parts o p es) n st q l = fine_parts es n 1 (n + 1) o p [] st q l tt
              fine_eval (Exp.chain e ls) n st o l =
                  fine_got _ d (chain_first n (n + 1 + nodes e) ls) _ (tt, tt) (fine_eval e (n + 1) st o.0 l) (λ v s i m. fine_links ls n 2 (n + 1 + nodes e) v s o.1 m i)
              fine_eval (Exp.logic j e ls) n st o l =
                  fine_got _ d (logic_at n 1 (n + 1 + nodes e) j nowhere ls) _ (tt, tt) (fine_eval e (n + 1) st o.0 l) (λ v s i m. fine_ands ls n 2 (n + 1 + nodes e) j nowhere v s o.1 m)
              fine_eval (Exp.prefix ss e) n st o l =
                  fine_got _ d (prefix_part n (reverse ss)) _ (tt, tt) (fine_eval e (n + 1) st o l) (λ v s i m. fine_signs (reverse ss) n 2 v d s m i)
              fine_eval (Exp.postfix e ss) n st o l =
                  fine_got _ d (postfix_first n (n + 1 + nodes e) ss) _ (tt, tt) (fine_eval e (n + 1) st o.0 l) (λ v s i m. fine_steps ss n 2 (n + 1 + nodes e) v s o.1 m i)

              pub fine_parts : (es : Exps) (n k m : ℕ) (o : Form) (p : Place) (vs : List (Val N)) (st : St N) → ExpsWritten L K es → V st.vars → Each P vs
                  → Fine d (eval_parts w body es n k m o p vs st)
              fine_parts Exps.no_exps n k m o p vs st q l h = fine_visit p d st (λ s. formed w o vs n p s) l (fine_formed o vs n p d (counted st) l h)
              fine_parts (Exps.exp e es) n k m o p vs st q l h =
                  fine_got _ d (part_at n k (m + nodes e) o p vs es) _ (h, tt) (fine_eval e m st q.0 l) (λ v s i u. fine_parts es n (k + 1) (m + nodes e) o p (vs ++ v ∷ []) s q.1 u (more_ok vs v h i))

              pub fine_links : (ls : Links) (n k m : ℕ) (v : Val N) (st : St N) → LinksWritten L K ls → V st.vars → P v → Fine d (eval_links w body ls n k m v st)
              fine_links Links.no_links n k m v st q l h = (h, l)
              fine_links (Links.link o p e ls) n k m v st q l h =
                  fine_got _ d (chain_more n k (m + nodes e) o p v ls) _ ((h, tt), tt) (fine_eval e m st q.0 l)
                  (λ x s i u. fine_visit p d s _ u (fine_answer (oper o v x) p d (counted s) _ u (c.oper_ok o v x h i) (λ y j. fine_links ls n (k + 1) (m + nodes e) y (counted s) q.1 u j)))

              pub fine_ands : (ls : Ands) (n k m : ℕ) (j : Junction) (q : Place) (v : Val N) (st : St N) → AndsWritten L K ls → V st.vars → Fine d (eval_ands w body ls n k m j q v st)
              fine_ands Ands.no_ands n k m j q v st o l = fine_gives (truth_of v) q d st l (truth_of_ok v)
              fine_ands (Ands.and p e ls) n k m j q v st o l =
                  fine_visit p d st _ l (fine_joins j v p d (counted st) _ l
                  (fine_got _ d (logic_at n k (m + nodes e) j p ls) _ (tt, tt) (fine_eval e m (counted st) o.0 l) (λ x u i z. fine_ands ls n (k + 1) (m + nodes e) j p x u o.1 z)))

              pub fine_steps : (ss : Steps) (n k m : ℕ) (v : Val N) (st : St N) → StepsWritten L K ss → V st.vars → P v → Fine d (eval_steps w body ss n k m v st)
              fine_steps Steps.no_steps n k m v st o l h = (h, l)
              fine_steps (Steps.index e p ss) n k m v st o l h =
                  fine_got _ d (index_at n k (m + nodes e) p v ss) _ ((h, tt), tt) (fine_eval e m st o.0 l)
                  (λ x s i u. fine_visit p d s _ u (fine_answer (index v x) p d (counted s) _ u (c.index_ok v x h) (λ y j. fine_steps ss n (k + 1) (m + nodes e) y (counted s) o.1 u j)))
              fine_steps (Steps.call es p ss) n k m v st o l h = fine_args es n k m p v [] ss st o.0 l h tt (λ i j y u z q. fine_steps ss n i j y u o.1 q z)

              pub fine_args : (es : Exps) (n k m : ℕ) (p : Place) (g : Val N) (vs : List (Val N)) (ss : Steps) (st : St N) → ExpsWritten L K es → V st.vars → P g → Each P vs
                  → ((i j : ℕ) (y : Val N) (u : St N) → P y → V u.vars → Fine d (eval_steps w body ss n i j y u))
                  → Fine d (eval_args w body es n k m p g vs ss (λ i j f c us s. enter w body f c us p n i j ss s (λ y u. eval_steps w body ss n (i + 1) j y u)) st)
              fine_args Exps.no_exps n k m p g vs ss st o l hg h steps =
                  fine_visit p d st _ l (fine_called g (vals_of vs) p d (counted st) _ l hg
                  (λ f ca i z. enters f ca (vals_of vs) p n k m ss (counted st) _ i l (c.caught_ok f ca z) (vals_ok vs h) (λ y u i z. steps (k + 1) m y u i z)))
              fine_args (Exps.exp e es) n k m p g vs ss st o l hg h steps =
                  fine_got _ d (arg_at n k (m + nodes e) p g vs es ss) _ ((hg, h), tt) (fine_eval e m st o.0 l)
                  (λ v s i u. fine_args es n (k + 1) (m + nodes e) p g (vs ++ v ∷ []) ss s o.1 u hg (more_ok vs v h i) steps)

            module _ (n m : ℕ) (p : Place) (blk : Stms) (run : St N → Res N) (run_fine : (st : St N) → V st.vars → Fine d (run st)) where
              pub fine_turns : (f : ℕ) (e : Exp) (st : St N) → ExpWritten L K e → V st.vars → Fine d (turns f n m p e blk (eval w body e (n + 1)) run st)
              fine_turns zero e st o l = (tt, l)
              fine_turns (suc f) e st o l =
                  fine_got _ d (while_test n m p e blk) _ (tt, tt) (fine_eval e (n + 1) st o l)
                  (λ v s i u. fine_decide v p d s _ _ u (fine_goes (run s) d (while_body n m p e blk) _ (tt, tt) (run_fine s u) (λ z j. fine_turns f e z o j)) (tt, u))

              pub fine_repeats : (f : ℕ) (e : Exp) (st : St N) → ExpWritten L K e → V st.vars → Fine d (repeats f n m p blk e run (eval w body e m) st)
              fine_repeats zero e st o l = (tt, l)
              fine_repeats (suc f) e st o l =
                  fine_goes (run st) d (repeat_body n m p blk e) _ (tt, tt) (run_fine st l)
                  (λ s u. fine_got _ d (repeat_test n m p blk e) _ (tt, tt) (fine_eval e m s o u) (λ v t i j. fine_decide v p d t _ _ j (fine_repeats f e t o j) (tt, j)))

              pub fine_each : (vs : Vals N) (t : ℕ) (x : List ℕ) (whole : Vals N) (st : St N) → K x → t + count vs ≡ count whole → V st.vars → ValsOk vs → P (list whole)
                  → Fine d (each vs n m t p x whole blk run st)
              fine_each no_vals t x whole st o g l h i = (tt, l)
              fine_each (val v vs) t x whole st o g l h i =
                  fine_visit p d st _ l (fine_goes (run (set_var x v (counted st))) d (for_body n m (suc t) p x whole blk) _ ((i, (c.taken_ok (suc t) whole i (omega (arith, g)), tt)), tt)
                  (run_fine (set_var x v (counted st)) (c.put_ok x v st.vars o h.0 l)) (λ z j. fine_each vs (suc t) x whole z o (omega (arith, g)) j h.1 i))

              pub fine_each_of : (v : Val N) (x : List ℕ) (st : St N) → K x → V st.vars → P v → Fine d (each_of v n m p x blk run st)
              fine_each_of (list vs) x st o l h = fine_each vs 0 x vs st o (omega arith) l (c.inside_ok vs h) h
              fine_each_of null x st o l h = (tt, l)
              fine_each_of (truth b) x st o l h = (tt, l)
              fine_each_of (num z) x st o l h = (tt, l)
              fine_each_of (text t) x st o l h = (tt, l)
              fine_each_of (dict ps) x st o l h = (tt, l)
              fine_each_of (fun f ca) x st o l h = (tt, l)
              fine_each_of (ref y) x st o l h = (tt, l)

            mutual
              pub fine_stm : (a : Stm) (n : ℕ) (st : St N) → StmWritten L K a → V st.vars → Fine d (eval_stm w body a n st)
              fine_stm (Stm.set x p e) n st o l =
                  fine_visit p d st _ l (fine_got _ d (set_part n x) _ (tt, tt) (fine_eval e (n + 1) (counted st) o.1 l) (λ v t i u. (tt, c.put_ok x v t.vars o.0 i u)))
              fine_stm (Stm.add x q p e) n st o l =
                  fine_visit p d st _ l (fine_got _ d (add_part n x q p) (λ v t. add_to (find x t.vars) x q p v t) (tt, tt) (fine_eval e (n + 1) (counted st) o.1 l)
                  (λ v t i u. fine_add (find x t.vars) x q p v d t o.0 u (c.find_ok x t.vars u) i))
              fine_stm (Stm.put x q p k e) n st o l =
                  fine_visit p d st _ l (fine_got _ d (put_index n (n + 1 + nodes k) x q p e) _ (tt, tt) (fine_eval k (n + 1) (counted st) o.1 l)
                  (λ v t i u. fine_got _ d (put_value n x q p v) (λ y z. put_in (find x z.vars) x q p v y z) ((i, tt), tt) (fine_eval e (n + 1 + nodes k) t o.2 u)
                  (λ y z j s. fine_put (find x z.vars) x q p v y d z o.0 s (c.find_ok x z.vars s) i j)))
              fine_stm (Stm.return p e) n st o l =
                  fine_visit p d st _ l (fine_got _ d (return_part n) _ (tt, tt) (fine_eval e (n + 1) (counted st) o l) (λ v t i u. (i, u)))
              fine_stm (Stm.leave p) n st o l = fine_visit p d st _ l (c.null_ok, l)
              fine_stm (Stm.cases p arms els) n st o l =
                  fine_visit p d st _ l (fine_arms arms n 1 (n + 1) (n + 1 + arms_nodes arms) els _ (counted st) o.0 l (λ t j. fine_else els (n + 1 + arms_nodes arms) t o.1 j))
              fine_stm (Stm.while p e blk) n st o l =
                  fine_visit p d st _ l (fine_turns n (n + 1 + nodes e) p blk _ (λ z j. fine_stms blk (n + 1 + nodes e) 0 (n + 1 + nodes e + 1) z o.1 j) (suc visits) e (counted st) o.0 l)
              fine_stm (Stm.repeat p blk e) n st o l =
                  fine_visit p d st _ l (fine_repeats n (n + 1 + block_nodes blk) p blk _ (λ z j. fine_stms blk (n + 1) 0 (n + 1 + 1) z o.0 j) (suc visits) e (counted st) o.1 l)
              fine_stm (Stm.for p x e blk) n st o l =
                  fine_visit p d st _ l (fine_got _ d (for_list n (n + 1 + nodes e) p x blk) _ (tt, tt) (fine_eval e (n + 1) (counted st) o.1 l)
                  (λ v t i j. fine_each_of n (n + 1 + nodes e) p blk (eval_stms w body blk (n + 1 + nodes e) 0 (n + 1 + nodes e + 1))
                  (λ z k. fine_stms blk (n + 1 + nodes e) 0 (n + 1 + nodes e + 1) z o.2 k) v x t o.0 j i))
              fine_stm (Stm.just p e) n st o l =
                  fine_visit p d st _ l (fine_got _ d (just_part n) _ (tt, tt) (fine_eval e (n + 1) (counted st) o l) (λ v t i u. (tt, u)))

              pub fine_stms : (blk : Stms) (n k m : ℕ) (st : St N) → StmsWritten L K blk → V st.vars → Fine d (eval_stms w body blk n k m st)
              fine_stms Stms.no_stms n k m st o l = (tt, l)
              fine_stms (Stms.stm a more) n k m st o l =
                  fine_goes _ d (block_at n (k + 1) (m + stm_nodes a) more) _ (tt, tt) (fine_stm a m st o.0 l) (λ s i. fine_stms more n (k + 1) (m + stm_nodes a) s o.1 i)

              pub fine_arms : (arms : Arms) (n k m i : ℕ) (els : Else) (go : St N → Res N) (st : St N) → ArmsWritten L K arms → V st.vars → ((s : St N) → V s.vars → Fine d (go s))
                  → Fine d (eval_arms w body arms n k m i els go st)
              fine_arms Arms.no_arms n k m i els go st o l last = last st l
              fine_arms (Arms.arm p e blk arms) n k m i els go st o l last =
                  fine_got _ d (arm_test n k (m + nodes e) i p blk arms els) _ (tt, tt) (fine_eval e m st o.0 l)
                  (λ v s j u. fine_decide v p d s _ _ u (fine_stms blk (m + nodes e) 0 (m + nodes e + 1) s o.1 u) (fine_arms arms n (k + 1) (m + nodes e + block_nodes blk) i els go s o.2 u last))

              pub fine_else : (els : Else) (n : ℕ) (st : St N) → ElseWritten L K els → V st.vars → Fine d (eval_else w body els n st)
              fine_else Else.no_else n st o l = (tt, l)
              fine_else (Else.otherwise blk) n st o l = fine_stms blk n 0 (n + 1) st o l

          pub fine_in_body : (o : Option Body) (ca : Pairs N) (vs : Vals N) (p : Place) (d : ℕ) (st : St N) (run : Stms → ℕ → St N → Res N) → BodyWritten L K o → V st.vars → V ca → ValsOk vs
              → ((blk : Stms) (n : ℕ) (s : St N) → StmsWritten L K blk → V s.vars → Fine d (run blk n s)) → Fine d (in_body w o ca vs p st run)
          fine_in_body None ca vs p d st run b l z h g = (tt, l)
          fine_in_body (Some x) ca vs p d st run b l z h g =
              g x.block x.node (with_vars (bind x.params vs ca) st) b.1 (bind_ok x.params vs ca b.0 h z)

          pub fine_body : (xs : Pairs N) (d : ℕ) (k : Val N → St N → Res N) → V xs → ((v : Val N) (st : St N) → P v → V st.vars → Fine d (k v st)) → (e : End N) (st : St N) → EndOk e → V st.vars
              → Fine d (on_body xs k e st)
          fine_body xs d k l g End.goes st o i = g null (with_vars xs st) c.null_ok l
          fine_body xs d k l g (End.got v) st o i = g v (with_vars xs st) o l
          fine_body xs d k l g (End.returned v) st o i = g v (with_vars xs st) o l
          fine_body xs d k l g (End.failed f) st o i = (tt, l)

          -- every run of a body is fine, where d others may be opened
          pub fine_call : Written L K w.script → (d : ℕ) (f : List ℕ) (ca : Pairs N) (vs : Vals N) (p : Place) (st : St N) → V st.vars → V ca → ValsOk vs → Fine d (body_at w (suc d) f ca vs p st)
          fine_call s zero f ca vs p st l z h =
              fine_in_body (body_of f w.script) ca vs p zero st _ (body_written L K w.script s f) l z h
              (λ blk n t o i. fine_stms zero (body_at w zero) (λ f' ca' vs' p' n' k' m' ss' st' go' i' l' z' h' g'. (tt, l')) blk n 0 (n + 1) t o i)
          fine_call s (suc d) f ca vs p st l z h =
              fine_in_body (body_of f w.script) ca vs p (suc d) st _ (body_written L K w.script s f) l z h
              (λ blk n t o i. fine_stms (suc d) (body_at w (suc d)) (λ f' ca' vs' p' n' k' m' ss' st' go' i' l' z' h' g'. fine_then (body_at w (suc d) f' ca' vs' p' st') (suc d)
              (call_open n' k' m' f' st'.vars ss') (on_body st'.vars go') (tt, (omega arith, i', l')) (fine_call s d f' ca' vs' p' st' l' z' h') (fine_body st'.vars (suc d) go' l' g')) blk n 0
              (n + 1) t o i)
