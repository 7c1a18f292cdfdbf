-- A form under way, opened by what is saved of it, goes on with forms that follow each other as a saved stack does.
use Rattle.std.proofs.Common.{◌≡◌, ℕ, zero, suc, ◌+◌, ◌≤◌, inl, inr, List, [], ◌∷◌, ◌++◌, length, reverse, Option, Some, None, pos, refl, sym, ap}
use Rattle.std.proofs.Common.{◌∙◌, subst, arith}
use Rattle.std.specs.Option.{option_and_then, option_map}
use Rattle.sky_base.specs.Val.{Val, Vals, Pairs, num, list, ref, no_vals, val, count}
use Rattle.sky_base.specs.Op.{index, find}
use Rattle.sky_base.specs.Tree.{Place, nowhere, Junction, Sign, SignAt, Form, Exp, Exps, Links, Ands, Steps, Stm, Stms, Arms, Else, nodes, exps_nodes}
use Rattle.sky_base.specs.Tree.{stm_nodes, block_nodes, arms_nodes}
use Rattle.sky_base.specs.Res.{visits, End, St, Entry, parens_in, part_at, chain_first, chain_more, logic_at, prefix_part, star_wait, postfix_first}
use Rattle.sky_base.specs.Res.{index_at, arg_at, call_open, exec_wait, set_part, add_part, put_index, put_value, return_part, just_part, arm_test}
use Rattle.sky_base.specs.Res.{while_test, while_body, repeat_body, repeat_test, for_list, for_body, block_at, Res, gives}
use Rattle.sky_base.specs.Eval.{World, body_of, left, oper, add_to, put_in, eval_else, eval_block, go_while, go_repeat, after, body_at}
use Rattle.sky_base_law.specs.Opened.{Node, exp_node, stm_node, block_node, next_part, next_link, next_and, next_arm, next_stm, enter_pos, next_pos, times}
use Rattle.sky_base_law.specs.Opened.{next_sign, part_open, link_open, and_open, sign_open, pos_open, arm_open, stms_open, opened, HasExp, HasExps}
use Rattle.sky_base_law.specs.Opened.{HasLinks, HasAnds, HasSteps, HasStm, HasStms, HasArms, HasElse}
use Rattle.sky_base_law.specs.Nodes.{node_at}
use Rattle.sky_base_law.specs.Tasks.{In}
use Rattle.sky_base_law.proofs.NodesLaw.{has_script}
use Rattle.sky_base_law.proofs.Lists.{some_is, length_push, up_two, none_some}
use Rattle.sky_machine_numbers.specs.Standing.{HasNode}
use Rattle.sky_machine_numbers.proofs.Inside.{stands}
use Rattle.sky_state.specs.Table.{Row, pending, on_by, past_part, past_link, past_and, past_arm, past_stm, past_sign, Spot, finished, in_index}
use Rattle.sky_state.specs.Table.{in_call, spot_of, past_spot, part_row, link_row, and_row, sign_is, sign_row, spot_row, exp_row, arm_row, arm_blocks}
use Rattle.sky_state.specs.Table.{else_block, stm_row, ran_row, block_row, row, IsStep}
use Rattle.sky_state.specs.Fits.{IsReference, IsListOfReferences, UpToLength}
use Rattle.sky_state.specs.Chained.{body_places, KeptBy}
use Rattle.sky_state.proofs.OpenEntry.{times_are, part_past, link_past, and_past, arm_past, stm_past, sign_past, pos_of, pos_start, spot_past}
use Rattle.sky_state.proofs.OpenEntry.{no_values, one_value, some_value, reference, references, list_of, one_of, two_of, taken_list}
use Rattle.sky_state.proofs.LinkLaw.{in_left, in_right, next_place, up_one, Linked, got_each, goes_each, linked_got, linked_goes, linked_body}
use Rattle.sky_state.proofs.LinkLaw.{linked_visit, linked_answer, linked_decide, linked_add, linked_put, linked_signs, linked_eval, linked_parts}
use Rattle.sky_state.proofs.LinkLaw.{linked_links, linked_ands, linked_steps, linked_args, linked_turns, linked_repeats, linked_each, linked_each_of}
use Rattle.sky_state.proofs.LinkLaw.{linked_stms, linked_arms, linked_else, linked_call}

-- ---- what stands behind the parts that are past

pub past_has : {A : Type 0} (P : A → Type 0) (f : A → Option A) → ((x y : A) → f x ≡ Some y → P x → P y) → (i : ℕ) (x y : A) → on_by f i x
    ≡ Some y → P x → P y
past_has P f g zero x y e h = subst P (some_is x y e) h
past_has {A = A} P f g (suc i) x y e h = go (on_by f i x) refl (λ z d. past_has P f g i x z d h)
  where
    go : (o : Option A) → on_by f i x ≡ o → ((z : A) → on_by f i x ≡ Some z → P z) → P y
    go None d k = absurd (none_some y (sym (ap (option_and_then f) d) ∙ e))
    go (Some z) d k = g z y (sym (ap (option_and_then f) d) ∙ e) (k z d)

module _ (at : ℕ → Option Node) where
  abbrev pub PartsAt : ℕ × Exps → Type 0
  PartsAt x = HasExps at x.1 x.0

  pub part_has : (x y : ℕ × Exps) → past_part x ≡ Some y → PartsAt x → PartsAt y
  part_has (m, Exps.no_exps) y e h = absurd (none_some y e)
  part_has (m, Exps.exp a es) y e h = subst PartsAt (some_is (m + nodes a, es) y e) h.1

  abbrev pub LinksAt : ℕ × Links → Type 0
  LinksAt x = HasLinks at x.1 x.0

  pub link_has : (x y : ℕ × Links) → past_link x ≡ Some y → LinksAt x → LinksAt y
  link_has (m, Links.no_links) y e h = absurd (none_some y e)
  link_has (m, Links.link o p a ls) y e h = subst LinksAt (some_is (m + nodes a, ls) y e) h.1

  abbrev pub AndsAt : ℕ × Ands → Type 0
  AndsAt x = HasAnds at x.1 x.0

  pub and_has : (x y : ℕ × Ands) → past_and x ≡ Some y → AndsAt x → AndsAt y
  and_has (m, Ands.no_ands) y e h = absurd (none_some y e)
  and_has (m, Ands.and p a ls) y e h = subst AndsAt (some_is (m + nodes a, ls) y e) h.1

  abbrev pub ArmsAt : ℕ × Arms → Type 0
  ArmsAt x = HasArms at x.1 x.0

  pub arm_has : (x y : ℕ × Arms) → past_arm x ≡ Some y → ArmsAt x → ArmsAt y
  arm_has (m, Arms.no_arms) y e h = absurd (none_some y e)
  arm_has (m, Arms.arm p a b arms) y e h = subst ArmsAt (some_is (m + nodes a + block_nodes b, arms) y e) h.3

  abbrev pub StmsAt : ℕ × Stms → Type 0
  StmsAt x = HasStms at x.1 x.0

  pub stm_has : (x y : ℕ × Stms) → past_stm x ≡ Some y → StmsAt x → StmsAt y
  stm_has (m, Stms.no_stms) y e h = absurd (none_some y e)
  stm_has (m, Stms.stm a more) y e h = subst StmsAt (some_is (m + stm_nodes a, more) y e) h.1

  abbrev pub SpotAt : Spot → Type 0
  SpotAt finished = Unit {0}
  SpotAt (in_index m e p ss) = HasExp at e m × HasSteps at ss (m + nodes e)
  SpotAt (in_call m i es p ss) = HasExps at es m × HasSteps at ss (m + exps_nodes es)

  pub spot_at : (m : ℕ) (ss : Steps) → HasSteps at ss m → SpotAt (spot_of m ss)
  spot_at m Steps.no_steps h = tt
  spot_at m (Steps.index e p ss) h = h
  spot_at m (Steps.call es p ss) h = h

  pub spot_has : (x y : Spot) → past_spot x ≡ Some y → SpotAt x → SpotAt y
  spot_has finished y e h = absurd (none_some y e)
  spot_has (in_index m a p ss) y e h = subst SpotAt (some_is (spot_of (m + nodes a) ss) y e) (spot_at (m + nodes a) ss h.1)
  spot_has (in_call m i Exps.no_exps p ss) y e h =
      subst SpotAt (some_is (spot_of m ss) y e) (spot_at m ss (subst (HasSteps at ss) (none_more m) h.1))
    where
      none_more : (k : ℕ) → k + 0 ≡ k
      none_more k = omega arith
  spot_has (in_call m i (Exps.exp a es) p ss) y e h =
      subst SpotAt (some_is (in_call (m + nodes a) (i + 1) es p ss) y e) (h.0.1, subst (HasSteps at ss) (further m (nodes a) (exps_nodes es)) h.1)
    where
      further : (k a b : ℕ) → k + (a + b) ≡ k + a + b
      further k a b = omega arith

  -- these nodes hold the blocks of each `if` that is among them
  abbrev pub HoldsArms : List ℕ → Type 0
  HoldsArms ps =
      (n : ℕ) (p : Place) (arms : Arms) (els : Else) → In n ps → at n ≡ Some (stm_node (Stm.cases p arms els)) → (x : ℕ)
      → In x (arm_blocks (n + 1) arms ++ else_block (n + 1 + arms_nodes arms) els) → In x ps

count_left : {N : Type 0} (t : ℕ) (vs : Vals N) → t ≤ count vs → count (left t vs) + t ≡ count vs
count_left zero vs h = omega arith
count_left (suc t) no_vals h = absurd (omega (arith, h))
count_left (suc t) (val v vs) h = let more = count_left t vs (omega (arith, h)) in omega (arith, more)

taken_few : {N : Type 0} (us : Vals N) (t : ℕ) (v u : Val N) → v ≡ list us → u ≡ num (pos t) → UpToLength v u → t ≤ count us
taken_few us t v u e g h = subst (λ x. UpToLength (list us) x) g (subst (λ x. UpToLength x u) e h)

module _ {N : Type 0} (w : World N) (d : ℕ) where
  abbrev At : ℕ → Option Node
  At i = node_at w.script i

  abbrev Link : List ℕ → Res N → Type 0
  Link ps r = Linked w At ps r

  bodies_link : (f : List ℕ) (c : Pairs N) (vs : Vals N) (p : Place) (st : St N) → Link (body_places (body_of f w.script)) (body_at w d f c vs p st)
  bodies_link f c vs p st = linked_call w At d f c vs p st (has_script w.script)

  -- whatever end its part has, it goes on linked
  abbrev pub AfterLinked : List ℕ → Entry N → Type 0
  AfterLinked ps en = (e : End N) (st : St N) → Link ps (after w (body_at w d) en e st)

  abbrev Goes : Node → (n k : ℕ) → List (Val N) → Option (List ℕ × Pairs N) → Type 0
  Goes t n k vs c =
      (en : Entry N) → opened t n k vs c ≡ Some en → (ps : List ℕ) → In n ps → HoldsArms At ps → AfterLinked ps en

  by_form : (t : Node) (n k : ℕ) (vs : List (Val N)) (c : Option (List ℕ × Pairs N)) (g : Entry N) → opened t n k vs c ≡ Some g
      → ((ps : List ℕ) → In n ps → HoldsArms At ps → AfterLinked ps g) → Goes t n k vs c
  by_form t n k vs c g is ok en e ps a b = subst (AfterLinked ps) (some_is g en (sym is ∙ e)) (ok ps a b)

  abbrev Keeps : Row → List (Val N) → Type 0
  Keeps r vs = KeptBy w.script At r vs

  module _ (c : Option (List ℕ × Pairs N)) where
    parts_go : (o : Form) (p : Place) (es : Exps) (n i : ℕ) (x : Option (ℕ × Exps)) → on_by past_part i (n + 1, es) ≡ x → At n
        ≡ Some (exp_node (Exp.parts o p es)) → HasExps At es (n + 1) → (vs : List (Val N)) → IsStep (part_row o i x) → Keeps (part_row o i x) vs
        → Goes (exp_node (Exp.parts o p es)) n (suc i) vs c
    parts_go o p es n i None e here h vs s k = absurd s
    parts_go o p es n i (Some (m, Exps.exp y ys)) e here h vs s k =
        by_form (exp_node (Exp.parts o p es)) n (suc i) vs c (part_at n (suc i) (m + nodes y) o p vs ys)
        (ap (λ z. part_open z n (suc i) o p vs) (times_are past_part next_part (λ z. z) part_past i (n + 1, es) (m, Exps.exp y ys) e))
        (λ ps a b. got_each w At ps _ (λ v st. linked_parts w At (body_at w d) bodies_link ys ps n (suc i + 1) (m + nodes y) (suc i) o p
        (vs ++ v ∷ []) es st a here (next_place past_part i (n + 1, es) (m, Exps.exp y ys) (m + nodes y, ys) e refl) (up_one (suc i) i refl)
        (length_push vs v i k.as_many) (past_has (PartsAt At) past_part (part_has At) i (n + 1, es) (m, Exps.exp y ys) e h).1))
    parts_go Form.exec p es n (suc (suc (suc zero))) (Some (m, Exps.no_exps)) e here h vs s k =
        let v = one_of IsListOfReferences vs k.kinds in
        let us = list_of v.0 v.2 in
        let ds = references us.0 us.2 in
        let is : vs ≡ list us.0 ∷ [] = v.1 ∙ ap (λ z. z ∷ []) us.1 in
        by_form (exp_node (Exp.parts Form.exec p es)) n 4 vs c (exec_wait n ds.0)
        (ap (λ ws. opened (exp_node (Exp.parts Form.exec p es)) n 4 ws c) is
        ∙ ap (λ z. part_open z n 4 Form.exec p (list us.0 ∷ []))
        (times_are past_part next_part (λ z. z) part_past 3 (n + 1, es) (m, Exps.no_exps) e) ∙ ap (option_map (exec_wait n)) ds.1)
        (λ ps a b. got_each w At ps gives (λ u st. tt))
    parts_go Form.exec p es n zero (Some (m, Exps.no_exps)) e here h vs s k = absurd s
    parts_go Form.exec p es n (suc zero) (Some (m, Exps.no_exps)) e here h vs s k = absurd s
    parts_go Form.exec p es n (suc (suc zero)) (Some (m, Exps.no_exps)) e here h vs s k = absurd s
    parts_go Form.exec p es n (suc (suc (suc (suc i)))) (Some (m, Exps.no_exps)) e here h vs s k = absurd s
    parts_go Form.list p es n i (Some (m, Exps.no_exps)) e here h vs s k = absurd s
    parts_go Form.dict p es n i (Some (m, Exps.no_exps)) e here h vs s k = absurd s
    parts_go Form.spawn p es n i (Some (m, Exps.no_exps)) e here h vs s k = absurd s
    parts_go Form.spawn_exec p es n i (Some (m, Exps.no_exps)) e here h vs s k = absurd s
    parts_go Form.ref p es n i (Some (m, Exps.no_exps)) e here h vs s k = absurd s
    parts_go Form.len p es n i (Some (m, Exps.no_exps)) e here h vs s k = absurd s
    parts_go Form.keys p es n i (Some (m, Exps.no_exps)) e here h vs s k = absurd s
    parts_go Form.has p es n i (Some (m, Exps.no_exps)) e here h vs s k = absurd s
    parts_go Form.range p es n i (Some (m, Exps.no_exps)) e here h vs s k = absurd s

    links_go : (f : Exp) (ls : Links) (n i : ℕ) (x : Option (ℕ × Links)) → on_by past_link i (n + 1 + nodes f, ls) ≡ x → At n
        ≡ Some (exp_node (Exp.chain f ls)) → HasLinks At ls (n + 1 + nodes f) → (vs : List (Val N)) → IsStep (link_row x) → Keeps (link_row x) vs
        → Goes (exp_node (Exp.chain f ls)) n (suc (suc i)) vs c
    links_go f ls n i None e here h vs s k = absurd s
    links_go f ls n i (Some (m, Links.no_links)) e here h vs s k = absurd s
    links_go f ls n i (Some (m, Links.link o p y ys)) e here h vs s k =
        let v = one_value vs k.as_many in
        by_form (exp_node (Exp.chain f ls)) n (suc (suc i)) vs c (chain_more n (suc (suc i)) (m + nodes y) o p v.0 ys)
        (ap (λ ws. opened (exp_node (Exp.chain f ls)) n (suc (suc i)) ws c) v.1
        ∙ ap (λ z. link_open z n (suc (suc i)) (v.0 ∷ []))
        (times_are past_link next_link (λ z. z) link_past i (n + 1 + nodes f, ls) (m, Links.link o p y ys) e))
        (λ ps a b. got_each w At ps _ (λ u st. linked_visit w At ps p st _
        (λ t. linked_answer w At ps (oper o v.0 u) p t _
        (λ r. linked_links w At (body_at w d) bodies_link ys ps n (suc (suc i) + 1) (m + nodes y) (suc i) r f ls t a here
        (next_place past_link i (n + 1 + nodes f, ls) (m, Links.link o p y ys) (m + nodes y, ys) e refl) (up_two (suc (suc i)) i refl)
        (past_has (LinksAt At) past_link (link_has At) i (n + 1 + nodes f, ls) (m, Links.link o p y ys) e h).1))))

    ands_go : (j : Junction) (f : Exp) (ls : Ands) (n i : ℕ) (x : Option (ℕ × Ands)) → on_by past_and i (n + 1 + nodes f, ls) ≡ x → At n
        ≡ Some (exp_node (Exp.logic j f ls)) → HasAnds At ls (n + 1 + nodes f) → (vs : List (Val N)) → IsStep (and_row x) → Keeps (and_row x) vs
        → Goes (exp_node (Exp.logic j f ls)) n (suc (suc i)) vs c
    ands_go j f ls n i None e here h vs s k = absurd s
    ands_go j f ls n i (Some (m, Ands.no_ands)) e here h vs s k = absurd s
    ands_go j f ls n i (Some (m, Ands.and p y ys)) e here h vs s k =
        by_form (exp_node (Exp.logic j f ls)) n (suc (suc i)) vs c (logic_at n (suc (suc i)) (m + nodes y) j p ys)
        (ap (λ ws. opened (exp_node (Exp.logic j f ls)) n (suc (suc i)) ws c) (no_values vs k.as_many)
        ∙ ap (λ z. and_open z n (suc (suc i)) j [])
        (times_are past_and next_and (λ z. z) and_past i (n + 1 + nodes f, ls) (m, Ands.and p y ys) e))
        (λ ps a b. got_each w At ps _ (λ v st. linked_ands w At (body_at w d) bodies_link ys ps n (suc (suc i) + 1) (m + nodes y) (suc i) j p
        v f ls st a here (next_place past_and i (n + 1 + nodes f, ls) (m, Ands.and p y ys) (m + nodes y, ys) e refl)
        (up_two (suc (suc i)) i refl) (past_has (AndsAt At) past_and (and_has At) i (n + 1 + nodes f, ls) (m, Ands.and p y ys) e h).1))

    signs_go : (ss : List SignAt) (f : Exp) (n i : ℕ) (x : Option (List SignAt)) → on_by past_sign i (reverse ss) ≡ x → At n
        ≡ Some (exp_node (Exp.prefix ss f)) → (vs : List (Val N)) → IsStep (sign_row x) → Keeps (sign_row x) vs
        → Goes (exp_node (Exp.prefix ss f)) n (suc (suc i)) vs c
    signs_go ss f n i None e here vs s k = absurd s
    signs_go ss f n i (Some []) e here vs s k = absurd s
    signs_go ss f n i (Some (o ∷ os)) e here vs s k = go o.sign s k
      where
        go : (y : Sign) → IsStep (sign_is y) → Keeps (sign_is y) vs → Goes (exp_node (Exp.prefix ss f)) n (suc (suc i)) vs c
        go Sign.not y l = absurd y
        go Sign.minus y l = absurd y
        go Sign.star y l =
            let v = one_of IsReference vs l.kinds in
            let r = reference v.0 v.2 in
            by_form (exp_node (Exp.prefix ss f)) n (suc (suc i)) vs c (star_wait n (suc (suc i)) r.0 os)
            (ap (λ ws. opened (exp_node (Exp.prefix ss f)) n (suc (suc i)) ws c) (v.1 ∙ ap (λ z. z ∷ []) r.1)
            ∙ ap (λ z. sign_open (next_sign z) n (suc (suc i)) (ref r.0 ∷ []))
            (times_are past_sign next_sign (λ z. z) sign_past i (reverse ss) (o ∷ os) e))
            (λ ps a b. got_each w At ps _ (λ u st. linked_signs w At ps os n (suc (suc i) + 1) (suc i) u ss f st a here
            (next_place past_sign i (reverse ss) (o ∷ os) os e refl) (up_two (suc (suc i)) i refl)))

    at_spot : (f : Exp) (ss : Steps) (n i : ℕ) (y : Spot) → on_by past_spot i (spot_of (n + 1 + nodes f) ss) ≡ Some y
        → times next_pos i (enter_pos (n + 1 + nodes f) ss) ≡ pos_of y
    at_spot f ss n i y e =
        ap (times next_pos i) (pos_start (n + 1 + nodes f) ss) ∙ times_are past_spot next_pos pos_of spot_past i (spot_of (n + 1 + nodes f) ss) y e

    spots_go : (f : Exp) (ss : Steps) (n i : ℕ) (x : Option Spot) → on_by past_spot i (spot_of (n + 1 + nodes f) ss) ≡ x → At n
        ≡ Some (exp_node (Exp.postfix f ss)) → HasSteps At ss (n + 1 + nodes f) → (vs : List (Val N)) → IsStep (spot_row x)
        → Keeps (spot_row x) vs → Goes (exp_node (Exp.postfix f ss)) n (suc (suc i)) vs c
    spots_go f ss n i None e here h vs s k = absurd s
    spots_go f ss n i (Some finished) e here h vs s k = absurd s
    spots_go f ss n i (Some (in_index m y p ys)) e here h vs s k =
        let v = one_value vs k.as_many in
        by_form (exp_node (Exp.postfix f ss)) n (suc (suc i)) vs c (index_at n (suc (suc i)) (m + nodes y) p v.0 ys)
        (ap (λ ws. opened (exp_node (Exp.postfix f ss)) n (suc (suc i)) ws c) v.1
        ∙ ap (λ z. pos_open z n (suc (suc i)) (v.0 ∷ []) c) (at_spot f ss n i (in_index m y p ys) e))
        (λ ps a b. got_each w At ps _ (λ u st. linked_visit w At ps p st _
        (λ t. linked_answer w At ps (index v.0 u) p t _
        (λ r. linked_steps w At (body_at w d) bodies_link ys ps n (suc (suc i) + 1) (m + nodes y) (suc i) r f ss t a here
        (next_place past_spot i (spot_of (n + 1 + nodes f) ss) (in_index m y p ys) (spot_of (m + nodes y) ys) e refl)
        (up_two (suc (suc i)) i refl) (past_has (SpotAt At) past_spot (spot_has At) i (spot_of (n + 1 + nodes f) ss) (in_index m y p ys) e
        (spot_at At (n + 1 + nodes f) ss h)).1))))
    spots_go f ss n i (Some (in_call m j (Exps.exp y ys) p zs)) e here h vs s k =
        let v = some_value j vs k.as_many in
        let there = past_has (SpotAt At) past_spot (spot_has At) i (spot_of (n + 1 + nodes f) ss) (in_call m j (Exps.exp y ys) p zs) e
        (spot_at At (n + 1 + nodes f) ss h) in
        let many : suc (length v.1) ≡ 1 + j = sym (ap length v.2) ∙ k.as_many in
        by_form (exp_node (Exp.postfix f ss)) n (suc (suc i)) vs c (arg_at n (suc (suc i)) (m + nodes y) p v.0 v.1 ys zs)
        (ap (λ ws. opened (exp_node (Exp.postfix f ss)) n (suc (suc i)) ws c) v.2
        ∙ ap (λ z. pos_open z n (suc (suc i)) (v.0 ∷ v.1) c) (at_spot f ss n i (in_call m j (Exps.exp y ys) p zs) e))
        (λ ps a b. got_each w At ps _ (λ u st. linked_args w At (body_at w d) bodies_link ys ps n (suc (suc i) + 1) (m + nodes y) (suc i)
        (j + 1) p v.0 (v.1 ++ u ∷ []) zs f ss st a here
        (next_place past_spot i (spot_of (n + 1 + nodes f) ss) (in_call m j (Exps.exp y ys) p zs) (in_call (m + nodes y) (j + 1) ys p zs) e
        refl) (up_two (suc (suc i)) i refl) (length_push v.1 u j (omega (arith, many)) ∙ one_up j) there.0.1 (m + (nodes y + exps_nodes ys))
        (omega arith) (λ l m' i' r t walk fits is_next. linked_steps w At (body_at w d) bodies_link zs ps n l m' i' r f ss t a here walk fits
        (subst (HasSteps At zs) (sym is_next) there.1))))
      where
        one_up : (x : ℕ) → suc x ≡ x + 1
        one_up x = omega arith
    spots_go f ss n i (Some (in_call m j Exps.no_exps p zs)) e here h vs s k = open_go c
      where
        there : SpotAt At (in_call m j Exps.no_exps p zs)
        there = past_has (SpotAt At) past_spot (spot_has At) i (spot_of (n + 1 + nodes f) ss) (in_call m j Exps.no_exps p zs) e
            (spot_at At (n + 1 + nodes f) ss h)

        is_open : (o : Option (List ℕ × Pairs N)) → opened (exp_node (Exp.postfix f ss)) n (suc (suc i)) vs o
            ≡ pos_open (pos_of (in_call m j Exps.no_exps p zs)) n (suc (suc i)) vs o
        is_open o = ap (λ z. pos_open z n (suc (suc i)) vs o) (at_spot f ss n i (in_call m j Exps.no_exps p zs) e)

        none_more : (x : ℕ) → x + 0 ≡ x
        none_more x = omega arith

        open_go : (o : Option (List ℕ × Pairs N)) → Goes (exp_node (Exp.postfix f ss)) n (suc (suc i)) vs o
        open_go None en is = absurd (none_some en (sym (is_open None) ∙ is))
        open_go (Some (x, xs)) en is =
            by_form (exp_node (Exp.postfix f ss)) n (suc (suc i)) vs (Some (x, xs)) (call_open n (suc (suc i)) m x xs zs)
            (is_open (Some (x, xs))) (λ ps a b. linked_body w At ps xs _
            (λ r t. linked_steps w At (body_at w d) bodies_link zs ps n (suc (suc i) + 1) m (suc i) r f ss t a here
            (next_place past_spot i (spot_of (n + 1 + nodes f) ss) (in_call m j Exps.no_exps p zs) (spot_of m zs) e refl)
            (up_two (suc (suc i)) i refl) (subst (HasSteps At zs) (none_more m) there.1))) en is

    -- where nothing is kept
    bare : (t : Node) (n k m : ℕ) (g : Entry N) → ((o : Option (List ℕ × Pairs N)) → opened t n k [] o ≡ Some g) → (vs : List (Val N))
        → Keeps (pending 0 m) vs → ((ps : List ℕ) → In n ps → HoldsArms At ps → AfterLinked ps g) → Goes t n k vs c
    bare t n k m g is vs l ok = by_form t n k vs c g (ap (λ ws. opened t n k ws c) (no_values vs l.as_many) ∙ is c) ok

    exp_go : (x : Exp) (n k : ℕ) → HasExp At x n → (vs : List (Val N)) → IsStep (exp_row x n k) → Keeps (exp_row x n k) vs
        → Goes (exp_node x) n k vs c
    exp_go (Exp.literal l p) n k h vs s g = absurd s
    exp_go (Exp.name x p) n k h vs s g = absurd s
    exp_go (Exp.func x p) n k h vs s g = absurd s
    exp_go (Exp.parens e) n zero h vs s g = absurd s
    exp_go (Exp.parens e) n (suc zero) h vs s g =
        bare (exp_node (Exp.parens e)) n 1 (n + 1) (parens_in n) (λ o. refl) vs g (λ ps a b. got_each w At ps gives (λ u st. tt))
    exp_go (Exp.parens e) n (suc (suc k)) h vs s g = absurd s
    exp_go (Exp.parts o p es) n zero h vs s g = absurd s
    exp_go (Exp.parts o p es) n (suc i) h vs s g = parts_go o p es n i (on_by past_part i (n + 1, es)) refl h.0 h.1 vs s g
    exp_go (Exp.chain e ls) n zero h vs s g = absurd s
    exp_go (Exp.chain e ls) n (suc zero) h vs s g =
        bare (exp_node (Exp.chain e ls)) n 1 (n + 1) (chain_first n (n + 1 + nodes e) ls) (λ o. refl) vs g
        (λ ps a b. got_each w At ps _ (λ v st. linked_links w At (body_at w d) bodies_link ls ps n 2 (n + 1 + nodes e) 0 v e ls st a h.0 refl
        refl h.2))
    exp_go (Exp.chain e ls) n (suc (suc i)) h vs s g = links_go e ls n i (on_by past_link i (n + 1 + nodes e, ls)) refl h.0 h.2 vs s g
    exp_go (Exp.logic j e ls) n zero h vs s g = absurd s
    exp_go (Exp.logic j e ls) n (suc zero) h vs s g =
        bare (exp_node (Exp.logic j e ls)) n 1 (n + 1) (logic_at n 1 (n + 1 + nodes e) j nowhere ls) (λ o. refl) vs g
        (λ ps a b. got_each w At ps _ (λ v st. linked_ands w At (body_at w d) bodies_link ls ps n (1 + 1) (n + 1 + nodes e) 0 j nowhere v e
        ls st a h.0 refl refl h.2))
    exp_go (Exp.logic j e ls) n (suc (suc i)) h vs s g = ands_go j e ls n i (on_by past_and i (n + 1 + nodes e, ls)) refl h.0 h.2 vs s g
    exp_go (Exp.prefix ss e) n zero h vs s g = absurd s
    exp_go (Exp.prefix ss e) n (suc zero) h vs s g =
        bare (exp_node (Exp.prefix ss e)) n 1 (n + 1) (prefix_part n (reverse ss)) (λ o. refl) vs g
        (λ ps a b. got_each w At ps _ (λ v st. linked_signs w At ps (reverse ss) n 2 0 v ss e st a h.0 refl refl))
    exp_go (Exp.prefix ss e) n (suc (suc i)) h vs s g = signs_go ss e n i (on_by past_sign i (reverse ss)) refl h.0 vs s g
    exp_go (Exp.postfix e ss) n zero h vs s g = absurd s
    exp_go (Exp.postfix e ss) n (suc zero) h vs s g =
        bare (exp_node (Exp.postfix e ss)) n 1 (n + 1) (postfix_first n (n + 1 + nodes e) ss) (λ o. refl) vs g
        (λ ps a b. got_each w At ps _ (λ v st. linked_steps w At (body_at w d) bodies_link ss ps n 2 (n + 1 + nodes e) 0 v e ss st a h.0 refl
        refl h.2))
    exp_go (Exp.postfix e ss) n (suc (suc i)) h vs s g = spots_go e ss n i (on_by past_spot i (spot_of (n + 1 + nodes e) ss)) refl h.0 h.2 vs s g

    -- ---- statements

    arms_go : (p : Place) (all : Arms) (els : Else) (n i : ℕ) (x : Option (ℕ × Arms)) → on_by past_arm i (n + 1, all) ≡ x → At n
        ≡ Some (stm_node (Stm.cases p all els)) → HasArms At all (n + 1) → HasElse At els (n + 1 + arms_nodes all) → (vs : List (Val N))
        → IsStep (arm_row x) → Keeps (arm_row x) vs → Goes (stm_node (Stm.cases p all els)) n (suc i) vs c
    arms_go p all els n i None e here h hl vs s g = absurd s
    arms_go p all els n i (Some (m, Arms.no_arms)) e here h hl vs s g = absurd s
    arms_go p all els n i (Some (m, Arms.arm q y b more)) e here h hl vs s g =
        let there = past_has (ArmsAt At) past_arm (arm_has At) i (n + 1, all) (m, Arms.arm q y b more) e h in
        bare (stm_node (Stm.cases p all els)) n (suc i) m (arm_test n (suc i) (m + nodes y) (n + 1 + arms_nodes all) q b more els)
        (λ o. ap (λ z. arm_open z n (suc i) (n + 1 + arms_nodes all) els)
        (times_are past_arm next_arm (λ z. z) arm_past i (n + 1, all) (m, Arms.arm q y b more) e)) vs g
        (λ ps a holds. got_each w At ps _ (λ v st. linked_decide w At ps v q st _ _
        (linked_stms w At (body_at w d) bodies_link b ps (m + nodes y) 0 (m + nodes y + 1) b st
        (holds n p all els a here (m + nodes y) (in_left (m + nodes y) (arm_blocks (n + 1) all) (else_block (n + 1 + arms_nodes all) els)
        (among i (n + 1) all m q y b more e))) there.1 refl there.2)
        (linked_arms w At (body_at w d) bodies_link more ps n (suc i + 1) (m + nodes y + block_nodes b) (suc i) all els p
        (λ u. eval_else w (body_at w d) els (n + 1 + arms_nodes all) u) st a
        (λ z j. holds n p all els a here z (in_left z (arm_blocks (n + 1) all) (else_block (n + 1 + arms_nodes all) els)
        (behind i (n + 1) all m q y b more e z j))) here
        (next_place past_arm i (n + 1, all) (m, Arms.arm q y b more) (m + nodes y + block_nodes b, more) e refl) (up_one (suc i) i refl)
        there.3 (λ u. linked_else w At (body_at w d) bodies_link els ps (n + 1 + arms_nodes all) u
        (λ z j. holds n p all els a here z (in_right z (arm_blocks (n + 1) all) (else_block (n + 1 + arms_nodes all) els) j)) hl))))
      where
        -- the blocks from an arm on are among those of all
        rest_among : (i m : ℕ) (whole : Arms) (y : ℕ × Arms) → on_by past_arm i (m, whole) ≡ Some y → (z : ℕ) → In z (arm_blocks y.0 y.1)
            → In z (arm_blocks m whole)
        rest_among i m whole y e = past_has (λ r. (z : ℕ) → In z (arm_blocks r.0 r.1) → In z (arm_blocks m whole)) past_arm one i (m, whole) y e
            (λ z j. j)
          where
            one : (x y : ℕ × Arms) → past_arm x ≡ Some y → ((z : ℕ) → In z (arm_blocks x.0 x.1) → In z (arm_blocks m whole)) → (z : ℕ)
                → In z (arm_blocks y.0 y.1) → In z (arm_blocks m whole)
            one (l, Arms.no_arms) y e h = absurd (none_some y e)
            one (l, Arms.arm q a b arms) y e h =
                subst (λ r. (z : ℕ) → In z (arm_blocks r.0 r.1) → In z (arm_blocks m whole)) (some_is (l + nodes a + block_nodes b, arms) y e)
                (λ z j. h z (inr j))

        among : (i k : ℕ) (whole : Arms) (m : ℕ) (q : Place) (y : Exp) (b : Stms) (more : Arms) → on_by past_arm i (k, whole)
            ≡ Some (m, Arms.arm q y b more) → In (m + nodes y) (arm_blocks k whole)
        among i k whole m q y b more e = rest_among i k whole (m, Arms.arm q y b more) e (m + nodes y) (inl refl)

        behind : (i k : ℕ) (whole : Arms) (m : ℕ) (q : Place) (y : Exp) (b : Stms) (more : Arms) → on_by past_arm i (k, whole)
            ≡ Some (m, Arms.arm q y b more) → (z : ℕ) → In z (arm_blocks (m + nodes y + block_nodes b) more) → In z (arm_blocks k whole)
        behind i k whole m q y b more e z j = rest_among i k whole (m, Arms.arm q y b more) e z (inr j)

    stm_go : (x : Stm) (n k : ℕ) → HasStm At x n → (vs : List (Val N)) → IsStep (stm_row x n k) → Keeps (stm_row x n k) vs
        → Goes (stm_node x) n k vs c
    stm_go (Stm.set x p e) n zero h vs s g = absurd s
    stm_go (Stm.set x p e) n (suc zero) h vs s g =
        bare (stm_node (Stm.set x p e)) n 1 (n + 1) (set_part n x) (λ o. refl) vs g (λ ps a b. got_each w At ps _ (λ v t. tt))
    stm_go (Stm.set x p e) n (suc (suc k)) h vs s g = absurd s
    stm_go (Stm.add x q p e) n zero h vs s g = absurd s
    stm_go (Stm.add x q p e) n (suc zero) h vs s g =
        bare (stm_node (Stm.add x q p e)) n 1 (n + 1) (add_part n x q p) (λ o. refl) vs g
        (λ ps a b. got_each w At ps (λ v t. add_to (find x t.vars) x q p v t) (λ v t. linked_add w At ps (find x t.vars) x q p v t))
    stm_go (Stm.add x q p e) n (suc (suc k)) h vs s g = absurd s
    stm_go (Stm.put x q p i e) n zero h vs s g = absurd s
    stm_go (Stm.put x q p i e) n (suc zero) h vs s g =
        bare (stm_node (Stm.put x q p i e)) n 1 (n + 1) (put_index n (n + 1 + nodes i) x q p e) (λ o. refl) vs g
        (λ ps a b. got_each w At ps _ (λ v t. linked_got w At ps 1 (n + 1 + nodes i) _ (put_value n x q p v)
        (λ y u. put_in (find x u.vars) x q p v y u) a (ap (λ y. row y n 2) h.0) refl refl
        (linked_eval w At (body_at w d) bodies_link e ((n + 1 + nodes i) ∷ []) (n + 1 + nodes i) t (inl refl) h.2)
        (λ y u. linked_put w At ps (find x u.vars) x q p v y u)))
    stm_go (Stm.put x q p i e) n (suc (suc zero)) h vs s g =
        let v = one_value vs g.as_many in
        by_form (stm_node (Stm.put x q p i e)) n 2 vs c (put_value n x q p v.0) (ap (λ ws. opened (stm_node (Stm.put x q p i e)) n 2 ws c) v.1)
        (λ ps a b. got_each w At ps (λ y u. put_in (find x u.vars) x q p v.0 y u) (λ y u. linked_put w At ps (find x u.vars) x q p v.0 y u))
    stm_go (Stm.put x q p i e) n (suc (suc (suc k))) h vs s g = absurd s
    stm_go (Stm.return p e) n zero h vs s g = absurd s
    stm_go (Stm.return p e) n (suc zero) h vs s g =
        bare (stm_node (Stm.return p e)) n 1 (n + 1) (return_part n) (λ o. refl) vs g (λ ps a b. got_each w At ps _ (λ v t. tt))
    stm_go (Stm.return p e) n (suc (suc k)) h vs s g = absurd s
    stm_go (Stm.leave p) n k h vs s g = absurd s
    stm_go (Stm.cases p arms els) n zero h vs s g = absurd s
    stm_go (Stm.cases p arms els) n (suc i) h vs s g = arms_go p arms els n i (on_by past_arm i (n + 1, arms)) refl h.0 h.1 h.2 vs s g
    stm_go (Stm.while p e b) n zero h vs s g = absurd s
    stm_go (Stm.while p e b) n (suc zero) h vs s g =
        bare (stm_node (Stm.while p e b)) n 1 (n + 1) (while_test n (n + 1 + nodes e) p e b) (λ o. refl) vs g
        (λ ps a hold. got_each w At ps _ (λ v st. linked_decide w At ps v p st _ _
        (linked_goes w At ps ((n + 1 + nodes e) ∷ []) _ (while_body n (n + 1 + nodes e) p e b) _ a (ap (λ x. row x n 2) h.0) refl refl
        (run e b h st) (λ z. turn_on e b h ps a z)) tt))
      where
        run : (e : Exp) (b : Stms) → HasStm At (Stm.while p e b) n → (z : St N)
            → Link ((n + 1 + nodes e) ∷ []) (eval_block w (body_at w d) b (n + 1 + nodes e) z)
        run e b h z = linked_stms w At (body_at w d) bodies_link b ((n + 1 + nodes e) ∷ []) (n + 1 + nodes e) 0 (n + 1 + nodes e + 1) b z
            (inl refl) h.2 refl h.3

        turn_on : (e : Exp) (b : Stms) → HasStm At (Stm.while p e b) n → (ps : List ℕ) → In n ps → (z : St N)
            → Link ps (go_while w (body_at w d) n (n + 1 + nodes e) p e b z)
        turn_on e b h ps a z = linked_turns w At (body_at w d) bodies_link ps n (n + 1 + nodes e) p b _ a (suc visits) e z (run e b h) h.0 refl h.1
    stm_go (Stm.while p e b) n (suc (suc zero)) h vs s g =
        bare (stm_node (Stm.while p e b)) n 2 (n + 1 + nodes e) (while_body n (n + 1 + nodes e) p e b) (λ o. refl) vs g
        (λ ps a hold. goes_each w At ps _ (λ z. linked_turns w At (body_at w d) bodies_link ps n (n + 1 + nodes e) p b _ a (suc visits) e z
        (λ y. linked_stms w At (body_at w d) bodies_link b ((n + 1 + nodes e) ∷ []) (n + 1 + nodes e) 0 (n + 1 + nodes e + 1) b y (inl refl)
        h.2 refl h.3) h.0 refl h.1))
    stm_go (Stm.while p e b) n (suc (suc (suc k))) h vs s g = absurd s
    stm_go (Stm.repeat p b e) n zero h vs s g = absurd s
    stm_go (Stm.repeat p b e) n (suc zero) h vs s g =
        bare (stm_node (Stm.repeat p b e)) n 1 (n + 1) (repeat_body n (n + 1 + block_nodes b) p b e) (λ o. refl) vs g
        (λ ps a hold. goes_each w At ps _ (λ z. linked_got w At ps 0 (n + 1 + block_nodes b) _ (repeat_test n (n + 1 + block_nodes b) p b e)
        _ a (ap (λ x. row x n 2) h.0) refl refl (linked_eval w At (body_at w d) bodies_link e ((n + 1 + block_nodes b) ∷ [])
        (n + 1 + block_nodes b) z (inl refl) h.1) (λ v t. linked_decide w At ps v p t _ _ (again t ps a) tt)))
      where
        again : (t : St N) (ps : List ℕ) → In n ps → Link ps (go_repeat w (body_at w d) n (n + 1 + block_nodes b) p b e t)
        again t ps a =
            linked_repeats w At (body_at w d) bodies_link ps n (n + 1 + block_nodes b) p b _ a (suc visits) e t
            (λ y. linked_stms w At (body_at w d) bodies_link b ((n + 1) ∷ []) (n + 1) 0 (n + 1 + 1) b y (inl refl) h.2 refl h.3) h.0 refl h.1
    stm_go (Stm.repeat p b e) n (suc (suc zero)) h vs s g =
        bare (stm_node (Stm.repeat p b e)) n 2 (n + 1 + block_nodes b) (repeat_test n (n + 1 + block_nodes b) p b e) (λ o. refl) vs g
        (λ ps a hold. got_each w At ps _ (λ v t. linked_decide w At ps v p t _ _
        (linked_repeats w At (body_at w d) bodies_link ps n (n + 1 + block_nodes b) p b _ a (suc visits) e t
        (λ y. linked_stms w At (body_at w d) bodies_link b ((n + 1) ∷ []) (n + 1) 0 (n + 1 + 1) b y (inl refl) h.2 refl h.3) h.0 refl h.1)
        tt))
    stm_go (Stm.repeat p b e) n (suc (suc (suc k))) h vs s g = absurd s
    stm_go (Stm.for p x e b) n zero h vs s g = absurd s
    stm_go (Stm.for p x e b) n (suc zero) h vs s g =
        bare (stm_node (Stm.for p x e b)) n 1 (n + 1) (for_list n (n + 1 + nodes e) p x b) (λ o. refl) vs g
        (λ ps a hold. got_each w At ps _ (λ v t. linked_each_of w At (body_at w d) bodies_link ps n (n + 1 + nodes e) p b _ a v x e t
        (λ y. linked_stms w At (body_at w d) bodies_link b ((n + 1 + nodes e) ∷ []) (n + 1 + nodes e) 0 (n + 1 + nodes e + 1) b y (inl refl)
        h.2 refl h.3) h.0 refl))
    stm_go (Stm.for p x e b) n (suc (suc zero)) h vs s g =
        let v = two_of UpToLength vs g.taken in
        let u = taken_list v.0 v.1 v.3 in
        by_form (stm_node (Stm.for p x e b)) n 2 vs c (for_body n (n + 1 + nodes e) u.1 p x u.0 b)
        (ap (λ ws. opened (stm_node (Stm.for p x e b)) n 2 ws c) (v.2 ∙ (λ i. u.2 i ∷ u.3 i ∷ [])))
        (λ ps a hold. goes_each w At ps _ (λ z. linked_each w At (body_at w d) bodies_link ps n (n + 1 + nodes e) p b _ a (left u.1 u.0) u.1
        x e u.0 z (λ y. linked_stms w At (body_at w d) bodies_link b ((n + 1 + nodes e) ∷ []) (n + 1 + nodes e) 0 (n + 1 + nodes e + 1) b y
        (inl refl) h.2 refl h.3) h.0 refl (count_left u.1 u.0 (taken_few u.0 u.1 v.0 v.1 u.2 u.3 v.3))))
    stm_go (Stm.for p x e b) n (suc (suc (suc k))) h vs s g = absurd s
    stm_go (Stm.just p e) n zero h vs s g = absurd s
    stm_go (Stm.just p e) n (suc zero) h vs s g =
        bare (stm_node (Stm.just p e)) n 1 (n + 1) (just_part n) (λ o. refl) vs g (λ ps a b. got_each w At ps _ (λ v t. tt))
    stm_go (Stm.just p e) n (suc (suc k)) h vs s g = absurd s

    stms_go : (b : Stms) (n i : ℕ) (x : Option (ℕ × Stms)) → on_by past_stm i (n + 1, b) ≡ x → At n ≡ Some (block_node b) → HasStms At b (n + 1)
        → (vs : List (Val N)) → IsStep (ran_row x) → Keeps (ran_row x) vs → Goes (block_node b) n (suc i) vs c
    stms_go b n i None e here h vs s g = absurd s
    stms_go b n i (Some (m, Stms.no_stms)) e here h vs s g = absurd s
    stms_go b n i (Some (m, Stms.stm x more)) e here h vs s g =
        by_form (block_node b) n (suc i) vs c (block_at n (suc i) (m + stm_nodes x) more)
        (ap (λ z. stms_open (next_stm z) n (suc i)) (times_are past_stm next_stm (λ z. z) stm_past i (n + 1, b) (m, Stms.stm x more) e))
        (λ ps a hold. goes_each w At ps _ (λ z. linked_stms w At (body_at w d) bodies_link more ps n (suc i) (m + stm_nodes x) b z a here
        (next_place past_stm i (n + 1, b) (m, Stms.stm x more) (m + stm_nodes x, more) e refl)
        (past_has (StmsAt At) past_stm (stm_has At) i (n + 1, b) (m, Stms.stm x more) e h).1))

    block_go : (b : Stms) (n k : ℕ) → At n ≡ Some (block_node b) → HasStms At b (n + 1) → (vs : List (Val N)) → IsStep (block_row b n k)
        → Keeps (block_row b n k) vs → Goes (block_node b) n k vs c
    block_go b n zero here h vs s g =
        by_form (block_node b) n 0 vs c (block_at n 0 (n + 1) b) refl
        (λ ps a hold. goes_each w At ps _ (λ z. linked_stms w At (body_at w d) bodies_link b ps n 0 (n + 1) b z a here refl h))
    block_go b n (suc i) here h vs s g = stms_go b n i (on_by past_stm i (n + 1, b)) refl here h vs s g

    -- an entry that a node of the script opens at a step of the table
    pub form_goes : (t : Node) (n k : ℕ) → At n ≡ Some t → (vs : List (Val N)) → IsStep (row (Some t) n k) → Keeps (row (Some t) n k) vs
        → Goes t n k vs c
    form_goes t n k here vs s g = go t (stands w.script n t here) here s g
      where
        go : (t : Node) → HasNode At t n → At n ≡ Some t → IsStep (row (Some t) n k) → Keeps (row (Some t) n k) vs → Goes t n k vs c
        go (exp_node x) h here s g = exp_go x n k h vs s g
        go (stm_node x) h here s g = stm_go x n k h vs s g
        go (block_node b) h here s g = block_go b n k h.0 h.1 vs s g
