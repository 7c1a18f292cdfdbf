-- A saved entry that is as the table says opens to a form under way.
use Rattle.std.proofs.Common.{◌≡◌, ℕ, zero, suc, ◌+◌, List, [], ◌∷◌, length, reverse, Option, Some, None, pos, negsuc, refl, sym, ap, ◌∙◌, subst}
use Rattle.std.proofs.Common.{arith}
use Rattle.std.specs.Option.{option_and_then, option_map}
use Rattle.sky_base.specs.Val.{Val, Vals, Pairs, Desc, null, truth, num, text, list, dict, fun, ref, no_vals, val, count, refs_to}
use Rattle.sky_base.specs.Tree.{Place, nowhere, Sign, SignAt, Form, Exp, Exps, Links, Ands, Steps, Stm, Stms, Arms, Else, Script, nodes, stm_nodes}
use Rattle.sky_base.specs.Tree.{block_nodes, arms_nodes}
use Rattle.sky_base.specs.Res.{Entry, parens_in, part_at, chain_first, chain_more, logic_at, prefix_part, star_wait, postfix_first, index_at, arg_at}
use Rattle.sky_base.specs.Res.{call_open, exec_wait, set_part, add_part, put_index, put_value, return_part, just_part, arm_test, while_test}
use Rattle.sky_base.specs.Res.{while_body, repeat_body, repeat_test, for_list, for_body, block_at, node_of, step_of, kept_of, opens}
use Rattle.sky_base_law.specs.Opened.{Node, exp_node, stm_node, block_node, next_part, next_link, next_and, next_arm, next_stm, Pos, enter_pos, next_pos}
use Rattle.sky_base_law.specs.Opened.{times, next_sign, descs_of, part_open, link_open, and_open, sign_open, pos_open, arm_open, stms_open, opened}
use Rattle.sky_base_law.specs.Opened as place
use Rattle.sky_base_law.proofs.Lists.{some_is, none_some}
use Rattle.sky_state.specs.Table.{Row, part, pending, turn, star, outputs, open_call, no_step, on_by, past_part, past_link, past_and, past_arm}
use Rattle.sky_state.specs.Table.{past_stm, past_sign, Spot, finished, in_index, in_call, spot_of, past_spot, part_row, link_row, and_row, sign_is}
use Rattle.sky_state.specs.Table.{sign_row, spot_row, exp_row, arm_row, stm_row, ran_row, block_row, row, IsStep}
use Rattle.sky_state.specs.Fits.{IsReference, AllReferences, IsListOfReferences, One, Two, UpTo, UpToLength}
use Rattle.sky_state.specs.Chained.{KeptBy}

-- ---- places

-- where each step can be done, so many steps lead to the same place
times_if : {A B : Type 0} (f : A → Option A) (g : B → B) (h : A → B) (u : (x y : A) → f x ≡ Some y → g (h x) ≡ h y) (o : Option A) (x y : A)
    (b : B) → o ≡ Some x → option_and_then f o ≡ Some y → b ≡ h x → g b ≡ h y
times_if f g h u o x y b e i j = ap g j ∙ u x y (sym (ap (option_and_then f) e) ∙ i)

pub times_are : {A B : Type 0} (f : A → Option A) (g : B → B) (h : A → B) (u : (x y : A) → f x ≡ Some y → g (h x) ≡ h y) (i : ℕ) (x y : A)
    → on_by f i x ≡ Some y → times g i (h x) ≡ h y
times_are f g h u zero x y e = ap h (some_is x y e)
times_are {A = A} f g h u (suc i) x y e = go (on_by f i x) refl (λ z d. times_are f g h u i x z d)
  where
    go : (o : Option A) → on_by f i x ≡ o → ((z : A) → on_by f i x ≡ Some z → times g i (h x) ≡ h z) → g (times g i (h x)) ≡ h y
    go None d k = absurd (none_some y (sym (ap (option_and_then f) d) ∙ e))
    go (Some z) d k = times_if f g h u (on_by f i x) z y (times g i (h x)) d e (k z d)

pub part_past : (x y : ℕ × Exps) → past_part x ≡ Some y → next_part x ≡ y
part_past (m, Exps.no_exps) y e = absurd (none_some y e)
part_past (m, Exps.exp x es) y e = some_is (m + nodes x, es) y e

pub link_past : (x y : ℕ × Links) → past_link x ≡ Some y → next_link x ≡ y
link_past (m, Links.no_links) y e = absurd (none_some y e)
link_past (m, Links.link o p x ls) y e = some_is (m + nodes x, ls) y e

pub and_past : (x y : ℕ × Ands) → past_and x ≡ Some y → next_and x ≡ y
and_past (m, Ands.no_ands) y e = absurd (none_some y e)
and_past (m, Ands.and p x ls) y e = some_is (m + nodes x, ls) y e

pub arm_past : (x y : ℕ × Arms) → past_arm x ≡ Some y → next_arm x ≡ y
arm_past (m, Arms.no_arms) y e = absurd (none_some y e)
arm_past (m, Arms.arm p x b arms) y e = some_is (m + nodes x + block_nodes b, arms) y e

pub stm_past : (x y : ℕ × Stms) → past_stm x ≡ Some y → next_stm x ≡ y
stm_past (m, Stms.no_stms) y e = absurd (none_some y e)
stm_past (m, Stms.stm a more) y e = some_is (m + stm_nodes a, more) y e

pub sign_past : (x y : List SignAt) → past_sign x ≡ Some y → next_sign x ≡ y
sign_past [] y e = absurd (none_some y e)
sign_past (s ∷ ss) y e = some_is ss y e

abbrev pub pos_of : Spot → Pos
pos_of finished = place.finished
pos_of (in_index m e p ss) = place.in_index m e p ss
pos_of (in_call m i es p ss) = place.in_args m es p ss

pub pos_start : (m : ℕ) (ss : Steps) → enter_pos m ss ≡ pos_of (spot_of m ss)
pos_start m Steps.no_steps = refl
pos_start m (Steps.index e p ss) = refl
pos_start m (Steps.call es p ss) = refl

pub spot_past : (x y : Spot) → past_spot x ≡ Some y → next_pos (pos_of x) ≡ pos_of y
spot_past finished y e = absurd (none_some y e)
spot_past (in_index m x p ss) y e = pos_start (m + nodes x) ss ∙ ap pos_of (some_is (spot_of (m + nodes x) ss) y e)
spot_past (in_call m i Exps.no_exps p ss) y e = pos_start m ss ∙ ap pos_of (some_is (spot_of m ss) y e)
spot_past (in_call m i (Exps.exp x es) p ss) y e = ap pos_of (some_is (in_call (m + nodes x) (i + 1) es p ss) y e)

-- ---- what is kept

module _ {N : Type 0} where
  pub no_values : (vs : List (Val N)) → length vs ≡ 0 → vs ≡ []
  no_values [] e = refl
  no_values (v ∷ vs) e = absurd (omega (arith, e))

  pub one_value : (vs : List (Val N)) → length vs ≡ 1 → (v : Val N) × (vs ≡ v ∷ [])
  one_value [] e = absurd (omega (arith, e))
  one_value (v ∷ []) e = (v, refl)
  one_value (v ∷ u ∷ vs) e = absurd (omega (arith, e))

  pub some_value : (i : ℕ) (vs : List (Val N)) → length vs ≡ 1 + i → (v : Val N) × (us : List (Val N)) × (vs ≡ v ∷ us)
  some_value i [] e = absurd (omega (arith, e))
  some_value i (v ∷ vs) e = (v, vs, refl)

  pub reference : (v : Val N) → IsReference v → (d : Desc N) × (v ≡ ref d)
  reference null h = absurd h
  reference (truth b) h = absurd h
  reference (num z) h = absurd h
  reference (text t) h = absurd h
  reference (list us) h = absurd h
  reference (dict ps) h = absurd h
  reference (fun f c) h = absurd h
  reference (ref d) h = (d, refl)

  pub references : (us : Vals N) → AllReferences us → (ds : List (Desc N)) × (descs_of us ≡ Some ds) × (refs_to ds ≡ us)
  references no_vals h = ([], refl, refl)
  references (val v us) h =
      let r = reference v h.0 in
      let rs = references us h.1 in
      (r.0 ∷ rs.0, ap (λ x. descs_of (val x us)) r.1 ∙ ap (option_map (λ ds. r.0 ∷ ds)) rs.1, λ i. val (sym r.1 i) (rs.2 i))

  pub list_of : (v : Val N) → IsListOfReferences v → (us : Vals N) × (v ≡ list us) × AllReferences us
  list_of null h = absurd h
  list_of (truth b) h = absurd h
  list_of (num z) h = absurd h
  list_of (text t) h = absurd h
  list_of (list us) h = (us, refl, h)
  list_of (dict ps) h = absurd h
  list_of (fun f c) h = absurd h
  list_of (ref d) h = absurd h

  taken : (n : ℕ) (v : Val N) → UpTo n v → (t : ℕ) × (v ≡ num (pos t))
  taken n null h = absurd h
  taken n (truth b) h = absurd h
  taken n (num (pos t)) h = (t, refl)
  taken n (num (negsuc t)) h = absurd h
  taken n (text t) h = absurd h
  taken n (list us) h = absurd h
  taken n (dict ps) h = absurd h
  taken n (fun f c) h = absurd h
  taken n (ref d) h = absurd h

  pub taken_list : (v u : Val N) → UpToLength v u → (us : Vals N) × (t : ℕ) × (v ≡ list us) × (u ≡ num (pos t))
  taken_list null u h = absurd h
  taken_list (truth b) u h = absurd h
  taken_list (num z) u h = absurd h
  taken_list (text t) u h = absurd h
  taken_list (list us) u h = let t = taken (count us) u h in (us, t.0, refl, t.1)
  taken_list (dict ps) u h = absurd h
  taken_list (fun f c) u h = absurd h
  taken_list (ref d) u h = absurd h

  pub one_of : (P : Val N → Type 0) (vs : List (Val N)) → One P vs → (v : Val N) × (vs ≡ v ∷ []) × P v
  one_of P [] h = absurd h
  one_of P (v ∷ []) h = (v, refl, h)
  one_of P (v ∷ u ∷ vs) h = absurd h

  pub two_of : (P : Val N → Val N → Type 0) (vs : List (Val N)) → Two P vs → (v u : Val N) × (vs ≡ v ∷ u ∷ []) × P v u
  two_of P [] h = absurd h
  two_of P (v ∷ []) h = absurd h
  two_of P (v ∷ u ∷ []) h = (v, u, refl, h)
  two_of P (v ∷ u ∷ x ∷ vs) h = absurd h

  -- ---- the form

  -- an open call, if the row is one, with the function and the caller's variables
  abbrev pub call_if : Row → List ℕ × Pairs N → Option (List ℕ × Pairs N)
  call_if open_call c = Some c
  call_if (part k ms) c = None
  call_if (turn m) c = None
  call_if star c = None
  call_if outputs c = None
  call_if no_step c = None

  -- a form of this node and step that keeps these values and opens this call
  pub record Form_of (t : Node) (n k : ℕ) (vs : List (Val N)) (o : Option (List ℕ × Pairs N)) : Type 0 where
    pub form : Entry N
    pub is_opened : opened t n k vs o ≡ Some form
    pub node : node_of form ≡ n
    pub step : step_of form ≡ k
    pub kept : kept_of form ≡ vs
    pub call : opens form ≡ o

  module _ (sc : Script) (at : ℕ → Option Node) (c : List ℕ × Pairs N) where
    abbrev Keeps : Row → List (Val N) → Type 0
    Keeps r vs = KeptBy sc at r vs

    abbrev Opens : Node → (n k : ℕ) → Row → List (Val N) → Type 0
    Opens t n k r vs = IsStep r → Keeps r vs → Form_of t n k vs (call_if r c)

    -- where nothing is kept
    bare : (t : Node) (n k m : ℕ) (en : Entry N) → ((o : Option (List ℕ × Pairs N)) → opened t n k [] o ≡ Some en) → node_of en ≡ n → step_of en
        ≡ k → kept_of en ≡ [] → opens en ≡ None → (vs : List (Val N)) → Opens t n k (pending 0 m) vs
    bare t n k m en is i j e g vs s h =
        subst (λ us. Form_of t n k us None) (sym (no_values vs h.as_many))
        (record { form = en; is_opened = is None; node = i; step = j; kept = e; call = g })

    parts_of : (o : Form) (p : Place) (es : Exps) (n i : ℕ) (x : Option (ℕ × Exps)) → on_by past_part i (n + 1, es) ≡ x → (vs : List (Val N))
        → Opens (exp_node (Exp.parts o p es)) n (suc i) (part_row o i x) vs
    parts_of o p es n i None e vs s h = absurd s
    parts_of o p es n i (Some (m, Exps.exp y ys)) e vs s h =
        record {
          form = part_at n (suc i) (m + nodes y) o p vs ys;
          is_opened =
              ap (λ z. part_open z n (suc i) o p vs) (times_are past_part next_part (λ z. z) part_past i (n + 1, es) (m, Exps.exp y ys) e);
          node =
              refl;
          step = refl;
          kept = refl;
          call = refl;
        }
    parts_of Form.exec p es n (suc (suc (suc zero))) (Some (m, Exps.no_exps)) e vs s h =
        let v = one_of IsListOfReferences vs h.kinds in
        let us = list_of v.0 v.2 in
        let ds = references us.0 us.2 in
        let is : vs ≡ list us.0 ∷ [] = v.1 ∙ ap (λ z. z ∷ []) us.1 in
        subst (λ ws. Form_of (exp_node (Exp.parts Form.exec p es)) n 4 ws None) (sym is)
        (record {
          form = exec_wait n ds.0;
          is_opened =
              ap (λ z. part_open z n 4 Form.exec p (list us.0 ∷ []))
              (times_are past_part next_part (λ z. z) part_past 3 (n + 1, es) (m, Exps.no_exps) e) ∙ ap (option_map (exec_wait n)) ds.1;
          node =
              refl;
          step = refl;
          kept = ap (λ z. list z ∷ []) ds.2;
          call = refl;
        })
    parts_of Form.exec p es n zero (Some (m, Exps.no_exps)) e vs s h = absurd s
    parts_of Form.exec p es n (suc zero) (Some (m, Exps.no_exps)) e vs s h = absurd s
    parts_of Form.exec p es n (suc (suc zero)) (Some (m, Exps.no_exps)) e vs s h = absurd s
    parts_of Form.exec p es n (suc (suc (suc (suc i)))) (Some (m, Exps.no_exps)) e vs s h = absurd s
    parts_of Form.list p es n i (Some (m, Exps.no_exps)) e vs s h = absurd s
    parts_of Form.dict p es n i (Some (m, Exps.no_exps)) e vs s h = absurd s
    parts_of Form.spawn p es n i (Some (m, Exps.no_exps)) e vs s h = absurd s
    parts_of Form.spawn_exec p es n i (Some (m, Exps.no_exps)) e vs s h = absurd s
    parts_of Form.ref p es n i (Some (m, Exps.no_exps)) e vs s h = absurd s
    parts_of Form.len p es n i (Some (m, Exps.no_exps)) e vs s h = absurd s
    parts_of Form.keys p es n i (Some (m, Exps.no_exps)) e vs s h = absurd s
    parts_of Form.has p es n i (Some (m, Exps.no_exps)) e vs s h = absurd s
    parts_of Form.range p es n i (Some (m, Exps.no_exps)) e vs s h = absurd s

    links_of : (f : Exp) (ls : Links) (n i : ℕ) (x : Option (ℕ × Links)) → on_by past_link i (n + 1 + nodes f, ls) ≡ x → (vs : List (Val N))
        → Opens (exp_node (Exp.chain f ls)) n (suc (suc i)) (link_row x) vs
    links_of f ls n i None e vs s h = absurd s
    links_of f ls n i (Some (m, Links.no_links)) e vs s h = absurd s
    links_of f ls n i (Some (m, Links.link o p y ys)) e vs s h =
        let v = one_value vs h.as_many in
        subst (λ ws. Form_of (exp_node (Exp.chain f ls)) n (suc (suc i)) ws None) (sym v.1)
        (record {
          form = chain_more n (suc (suc i)) (m + nodes y) o p v.0 ys;
          is_opened =
              ap (λ z. link_open z n (suc (suc i)) (v.0 ∷ []))
              (times_are past_link next_link (λ z. z) link_past i (n + 1 + nodes f, ls) (m, Links.link o p y ys) e);
          node = refl;
          step = refl;
          kept = refl;
          call = refl;
        })

    ands_of : (j : _) (f : Exp) (ls : Ands) (n i : ℕ) (x : Option (ℕ × Ands)) → on_by past_and i (n + 1 + nodes f, ls) ≡ x → (vs : List (Val N))
        → Opens (exp_node (Exp.logic j f ls)) n (suc (suc i)) (and_row x) vs
    ands_of j f ls n i None e vs s h = absurd s
    ands_of j f ls n i (Some (m, Ands.no_ands)) e vs s h = absurd s
    ands_of j f ls n i (Some (m, Ands.and p y ys)) e vs s h =
        subst (λ ws. Form_of (exp_node (Exp.logic j f ls)) n (suc (suc i)) ws None) (sym (no_values vs h.as_many))
        (record {
          form = logic_at n (suc (suc i)) (m + nodes y) j p ys;
          is_opened =
              ap (λ z. and_open z n (suc (suc i)) j [])
              (times_are past_and next_and (λ z. z) and_past i (n + 1 + nodes f, ls) (m, Ands.and p y ys) e);
          node = refl;
          step = refl;
          kept =
              refl;
          call = refl;
        })

    signs_of : (ss : List SignAt) (f : Exp) (n i : ℕ) (x : Option (List SignAt)) → on_by past_sign i (reverse ss) ≡ x → (vs : List (Val N))
        → Opens (exp_node (Exp.prefix ss f)) n (suc (suc i)) (sign_row x) vs
    signs_of ss f n i None e vs s h = absurd s
    signs_of ss f n i (Some []) e vs s h = absurd s
    signs_of ss f n i (Some (o ∷ os)) e vs s h = go o.sign s h
      where
        go : (y : Sign) → Opens (exp_node (Exp.prefix ss f)) n (suc (suc i)) (sign_is y) vs
        go Sign.not y k = absurd y
        go Sign.minus y k = absurd y
        go Sign.star y k =
            let v = one_of IsReference vs k.kinds in
            let d = reference v.0 v.2 in
            subst (λ ws. Form_of (exp_node (Exp.prefix ss f)) n (suc (suc i)) ws None) (sym (v.1 ∙ ap (λ z. z ∷ []) d.1))
            (record {
              form = star_wait n (suc (suc i)) d.0 os;
              is_opened =
                  ap (λ z. sign_open (next_sign z) n (suc (suc i)) (ref d.0 ∷ []))
                  (times_are past_sign next_sign (λ z. z) sign_past i (reverse ss) (o ∷ os) e);
              node = refl;
              step = refl;
              kept = refl;
              call =
                  refl;
            })

    spots_of : (f : Exp) (ss : Steps) (n i : ℕ) (x : Option Spot) → on_by past_spot i (spot_of (n + 1 + nodes f) ss) ≡ x → (vs : List (Val N))
        → Opens (exp_node (Exp.postfix f ss)) n (suc (suc i)) (spot_row x) vs
    spots_of f ss n i None e vs s h = absurd s
    spots_of f ss n i (Some finished) e vs s h = absurd s
    spots_of f ss n i (Some (in_index m y p ys)) e vs s h =
        let v = one_value vs h.as_many in
        subst (λ ws. Form_of (exp_node (Exp.postfix f ss)) n (suc (suc i)) ws None) (sym v.1)
        (record {
          form = index_at n (suc (suc i)) (m + nodes y) p v.0 ys;
          is_opened =
              ap (λ z. pos_open z n (suc (suc i)) (v.0 ∷ []) None)
              (ap (times next_pos i) (pos_start (n + 1 + nodes f) ss)
              ∙ times_are past_spot next_pos pos_of spot_past i (spot_of (n + 1 + nodes f) ss) (in_index m y p ys) e);
          node = refl;
          step = refl;
          kept = refl;
          call = refl;
        })
    spots_of f ss n i (Some (in_call m j (Exps.exp y ys) p zs)) e vs s h =
        let v = some_value j vs h.as_many in
        subst (λ ws. Form_of (exp_node (Exp.postfix f ss)) n (suc (suc i)) ws None) (sym v.2)
        (record {
          form = arg_at n (suc (suc i)) (m + nodes y) p v.0 v.1 ys zs;
          is_opened =
              ap (λ z. pos_open z n (suc (suc i)) (v.0 ∷ v.1) None)
              (ap (times next_pos i) (pos_start (n + 1 + nodes f) ss)
              ∙ times_are past_spot next_pos pos_of spot_past i (spot_of (n + 1 + nodes f) ss) (in_call m j (Exps.exp y ys) p zs) e);
          node = refl;
          step = refl;
          kept = refl;
          call = refl;
        })
    spots_of f ss n i (Some (in_call m j Exps.no_exps p zs)) e vs s h =
        subst (λ ws. Form_of (exp_node (Exp.postfix f ss)) n (suc (suc i)) ws (Some c)) (sym (no_values vs h.as_many))
        (record {
          form = call_open n (suc (suc i)) m c.0 c.1 zs;
          is_opened =
              ap (λ z. pos_open z n (suc (suc i)) [] (Some c))
              (ap (times next_pos i) (pos_start (n + 1 + nodes f) ss)
              ∙ times_are past_spot next_pos pos_of spot_past i (spot_of (n + 1 + nodes f) ss) (in_call m j Exps.no_exps p zs) e);
          node = refl;
          step = refl;
          kept = refl;
          call = refl;
        })

    exp_of : (x : Exp) (n k : ℕ) (vs : List (Val N)) → Opens (exp_node x) n k (exp_row x n k) vs
    exp_of (Exp.literal l p) n k vs s h = absurd s
    exp_of (Exp.name x p) n k vs s h = absurd s
    exp_of (Exp.func x p) n k vs s h = absurd s
    exp_of (Exp.parens e) n zero vs s h = absurd s
    exp_of (Exp.parens e) n (suc zero) vs s h = bare (exp_node (Exp.parens e)) n 1 (n + 1) (parens_in n) (λ o. refl) refl refl refl refl vs s h
    exp_of (Exp.parens e) n (suc (suc k)) vs s h = absurd s
    exp_of (Exp.parts o p es) n zero vs s h = absurd s
    exp_of (Exp.parts o p es) n (suc i) vs s h = parts_of o p es n i (on_by past_part i (n + 1, es)) refl vs s h
    exp_of (Exp.chain e ls) n zero vs s h = absurd s
    exp_of (Exp.chain e ls) n (suc zero) vs s h =
        bare (exp_node (Exp.chain e ls)) n 1 (n + 1) (chain_first n (n + 1 + nodes e) ls) (λ o. refl) refl refl refl refl vs s h
    exp_of (Exp.chain e ls) n (suc (suc i)) vs s h = links_of e ls n i (on_by past_link i (n + 1 + nodes e, ls)) refl vs s h
    exp_of (Exp.logic j e ls) n zero vs s h = absurd s
    exp_of (Exp.logic j e ls) n (suc zero) vs s h =
        bare (exp_node (Exp.logic j e ls)) n 1 (n + 1) (logic_at n 1 (n + 1 + nodes e) j nowhere ls) (λ o. refl) refl refl refl refl vs s h
    exp_of (Exp.logic j e ls) n (suc (suc i)) vs s h = ands_of j e ls n i (on_by past_and i (n + 1 + nodes e, ls)) refl vs s h
    exp_of (Exp.prefix ss e) n zero vs s h = absurd s
    exp_of (Exp.prefix ss e) n (suc zero) vs s h =
        bare (exp_node (Exp.prefix ss e)) n 1 (n + 1) (prefix_part n (reverse ss)) (λ o. refl) refl refl refl refl vs s h
    exp_of (Exp.prefix ss e) n (suc (suc i)) vs s h = signs_of ss e n i (on_by past_sign i (reverse ss)) refl vs s h
    exp_of (Exp.postfix e ss) n zero vs s h = absurd s
    exp_of (Exp.postfix e ss) n (suc zero) vs s h =
        bare (exp_node (Exp.postfix e ss)) n 1 (n + 1) (postfix_first n (n + 1 + nodes e) ss) (λ o. refl) refl refl refl refl vs s h
    exp_of (Exp.postfix e ss) n (suc (suc i)) vs s h = spots_of e ss n i (on_by past_spot i (spot_of (n + 1 + nodes e) ss)) refl vs s h

    arms_of : (p : Place) (arms : Arms) (els : Else) (n i : ℕ) (x : Option (ℕ × Arms)) → on_by past_arm i (n + 1, arms) ≡ x → (vs : List (Val N))
        → Opens (stm_node (Stm.cases p arms els)) n (suc i) (arm_row x) vs
    arms_of p arms els n i None e vs s h = absurd s
    arms_of p arms els n i (Some (m, Arms.no_arms)) e vs s h = absurd s
    arms_of p arms els n i (Some (m, Arms.arm q y b more)) e vs s h =
        bare (stm_node (Stm.cases p arms els)) n (suc i) m (arm_test n (suc i) (m + nodes y) (n + 1 + arms_nodes arms) q b more els)
        (λ o. ap (λ z. arm_open z n (suc i) (n + 1 + arms_nodes arms) els)
        (times_are past_arm next_arm (λ z. z) arm_past i (n + 1, arms) (m, Arms.arm q y b more) e)) refl refl refl refl vs s h

    stm_of : (x : Stm) (n k : ℕ) (vs : List (Val N)) → Opens (stm_node x) n k (stm_row x n k) vs
    stm_of (Stm.set x p e) n zero vs s h = absurd s
    stm_of (Stm.set x p e) n (suc zero) vs s h = bare (stm_node (Stm.set x p e)) n 1 (n + 1) (set_part n x) (λ o. refl) refl refl refl refl vs s h
    stm_of (Stm.set x p e) n (suc (suc k)) vs s h = absurd s
    stm_of (Stm.add x q p e) n zero vs s h = absurd s
    stm_of (Stm.add x q p e) n (suc zero) vs s h =
        bare (stm_node (Stm.add x q p e)) n 1 (n + 1) (add_part n x q p) (λ o. refl) refl refl refl refl vs s h
    stm_of (Stm.add x q p e) n (suc (suc k)) vs s h = absurd s
    stm_of (Stm.put x q p i e) n zero vs s h = absurd s
    stm_of (Stm.put x q p i e) n (suc zero) vs s h =
        bare (stm_node (Stm.put x q p i e)) n 1 (n + 1) (put_index n (n + 1 + nodes i) x q p e) (λ o. refl) refl refl refl refl vs s h
    stm_of (Stm.put x q p i e) n (suc (suc zero)) vs s h =
        let v = one_value vs h.as_many in
        subst (λ ws. Form_of (stm_node (Stm.put x q p i e)) n 2 ws None) (sym v.1)
        (record { form = put_value n x q p v.0; is_opened = refl; node = refl; step = refl; kept = refl; call = refl })
    stm_of (Stm.put x q p i e) n (suc (suc (suc k))) vs s h = absurd s
    stm_of (Stm.return p e) n zero vs s h = absurd s
    stm_of (Stm.return p e) n (suc zero) vs s h = bare (stm_node (Stm.return p e)) n 1 (n + 1) (return_part n) (λ o. refl) refl refl refl refl vs s h
    stm_of (Stm.return p e) n (suc (suc k)) vs s h = absurd s
    stm_of (Stm.leave p) n k vs s h = absurd s
    stm_of (Stm.cases p arms els) n zero vs s h = absurd s
    stm_of (Stm.cases p arms els) n (suc i) vs s h = arms_of p arms els n i (on_by past_arm i (n + 1, arms)) refl vs s h
    stm_of (Stm.while p e b) n zero vs s h = absurd s
    stm_of (Stm.while p e b) n (suc zero) vs s h =
        bare (stm_node (Stm.while p e b)) n 1 (n + 1) (while_test n (n + 1 + nodes e) p e b) (λ o. refl) refl refl refl refl vs s h
    stm_of (Stm.while p e b) n (suc (suc zero)) vs s h =
        bare (stm_node (Stm.while p e b)) n 2 (n + 1 + nodes e) (while_body n (n + 1 + nodes e) p e b) (λ o. refl) refl refl refl refl vs s h
    stm_of (Stm.while p e b) n (suc (suc (suc k))) vs s h = absurd s
    stm_of (Stm.repeat p b e) n zero vs s h = absurd s
    stm_of (Stm.repeat p b e) n (suc zero) vs s h =
        bare (stm_node (Stm.repeat p b e)) n 1 (n + 1) (repeat_body n (n + 1 + block_nodes b) p b e) (λ o. refl) refl refl refl refl vs s h
    stm_of (Stm.repeat p b e) n (suc (suc zero)) vs s h =
        bare (stm_node (Stm.repeat p b e)) n 2 (n + 1 + block_nodes b) (repeat_test n (n + 1 + block_nodes b) p b e) (λ o. refl) refl refl refl
        refl vs s h
    stm_of (Stm.repeat p b e) n (suc (suc (suc k))) vs s h = absurd s
    stm_of (Stm.for p x e b) n zero vs s h = absurd s
    stm_of (Stm.for p x e b) n (suc zero) vs s h =
        bare (stm_node (Stm.for p x e b)) n 1 (n + 1) (for_list n (n + 1 + nodes e) p x b) (λ o. refl) refl refl refl refl vs s h
    stm_of (Stm.for p x e b) n (suc (suc zero)) vs s h =
        let v = two_of UpToLength vs h.taken in
        let u = taken_list v.0 v.1 v.3 in
        subst (λ ws. Form_of (stm_node (Stm.for p x e b)) n 2 ws None) (sym (v.2 ∙ (λ i. u.2 i ∷ u.3 i ∷ [])))
        (record { form = for_body n (n + 1 + nodes e) u.1 p x u.0 b; is_opened = refl; node = refl; step = refl; kept = refl; call = refl })
    stm_of (Stm.for p x e b) n (suc (suc (suc k))) vs s h = absurd s
    stm_of (Stm.just p e) n zero vs s h = absurd s
    stm_of (Stm.just p e) n (suc zero) vs s h = bare (stm_node (Stm.just p e)) n 1 (n + 1) (just_part n) (λ o. refl) refl refl refl refl vs s h
    stm_of (Stm.just p e) n (suc (suc k)) vs s h = absurd s

    stms_of : (b : Stms) (n i : ℕ) (x : Option (ℕ × Stms)) → on_by past_stm i (n + 1, b) ≡ x → (vs : List (Val N))
        → Opens (block_node b) n (suc i) (ran_row x) vs
    stms_of b n i None e vs s h = absurd s
    stms_of b n i (Some (m, Stms.no_stms)) e vs s h = absurd s
    stms_of b n i (Some (m, Stms.stm a more)) e vs s h =
        subst (λ ws. Form_of (block_node b) n (suc i) ws None) (sym (no_values vs h.as_many))
        (record {
          form = block_at n (suc i) (m + stm_nodes a) more;
          is_opened =
              ap (λ z. stms_open (next_stm z) n (suc i)) (times_are past_stm next_stm (λ z. z) stm_past i (n + 1, b) (m, Stms.stm a more) e);
          node = refl;
          step = refl;
          kept = refl;
          call = refl;
        })

    block_of : (b : Stms) (n k : ℕ) (vs : List (Val N)) → Opens (block_node b) n k (block_row b n k) vs
    block_of b n zero vs s h =
        subst (λ ws. Form_of (block_node b) n 0 ws None) (sym (no_values vs h.as_many))
        (record { form = block_at n 0 (n + 1) b; is_opened = refl; node = refl; step = refl; kept = refl; call = refl })
    block_of b n (suc i) vs s h = stms_of b n i (on_by past_stm i (n + 1, b)) refl vs s h

    -- the form of a saved entry: of its node and step, with the values that are its own, and for an open call with the
    -- function and the caller's variables
    pub form_of : (t : Node) (n k : ℕ) (vs : List (Val N)) → IsStep (row (Some t) n k) → Keeps (row (Some t) n k) vs
        → Form_of t n k vs (call_if (row (Some t) n k) c)
    form_of (exp_node x) n k vs s h = exp_of x n k vs s h
    form_of (stm_node x) n k vs s h = stm_of x n k vs s h
    form_of (block_node b) n k vs s h = block_of b n k vs s h
