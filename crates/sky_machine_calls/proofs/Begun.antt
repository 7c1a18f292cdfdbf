-- An index or an argument is begun, and a body is opened.
use Rattle.std.proofs.Common.{◌≡◌, ◌≢◌, ◌<◌, ◌≤◌, ◌+◌, ◌^◌, ℕ, zero, suc, List, [], ◌∷◌, ◌++◌, length, Option, Some, None, refl, sym, ap, ◌∙◌, subst}
use Rattle.std.proofs.Common.{arith}
use Rattle.sky_base.specs.Val.{Val, Vals, no_pairs, no_vals, val, add_val, vals_of}
use Rattle.sky_base.specs.Tree.{Place, Exp, Exps, Steps, Script, nodes, exps_nodes, steps_nodes}
use Rattle.sky_base.specs.TreeView.{steps_view}
use Rattle.sky_base.specs.declared.tree.Step.{Step}
use Rattle.sky_base.specs.Kept.{Kept}
use Rattle.sky_base.specs.Res.{Entry, End, index_at, arg_at, call_open, then_do, with_vars, visit, fails}
use Rattle.sky_base.specs.Eval.{World, Body, bind, called, enter, eval, eval_steps, eval_args, eval_block, after, body_of, body_at, inside}
use Rattle.sky_base.specs.declared.fault.FaultKind.{FaultKind}
use Rattle.sky_base_law.specs.Opened.{Node, exp_node, HasExp, HasExps, HasSteps}
use Rattle.sky_base_scope.specs.Plain.{Pairs, Vars, items}
use Rattle.sky_base_scope.specs.RunView.{KeptVals, KeptPairs}
use Rattle.sky_machine_entries.specs.Config.{Run}
use Rattle.sky_machine_entries.specs.Ready.{steps_left}
use Rattle.sky_machine_code.proofs.Bodies.{nodes_pos, own_exp}
use Rattle.sky_machine_calls.specs.Places.{called_from, ArgsFit, StepsFit}

module _ (w : World (List ℕ)) (d d' : ℕ) (same : d' ≡ d) where
  pub index_begun : (n k m next : ℕ) (p : Place) (v : Val (List ℕ)) (e : Exp) (ss xs : Steps) (st : Vars) → next ≡ m + nodes e → xs
      ≡ Steps.index e p ss → then_do (eval w (body_at w d') e m st) (index_at n k next p v ss) (after w (body_at w d) (index_at n k next p v ss))
      ≡ eval_steps w (body_at w d) xs n k m v st
  index_begun n k m next p v e ss xs st f g = rw (same, f, g) refl

  pub arg_begun : (n k m next : ℕ) (p : Place) (g : Val (List ℕ)) (vs : List (Val (List ℕ))) (e : Exp) (es xs : Exps) (ss : Steps) (st : Vars)
      → next ≡ m + nodes e → xs ≡ Exps.exp e es → then_do (eval w (body_at w d') e m st) (arg_at n k next p g vs es ss)
      (after w (body_at w d) (arg_at n k next p g vs es ss))
      ≡ eval_args w (body_at w d) xs n k m p g vs ss (called_from w (body_at w d) p n ss) st
  arg_begun n k m next p g vs e es xs ss st f h = rw (same, f, h) refl

pub body_opened : (w : World (List ℕ)) (d d' j : ℕ) (f : List ℕ) (c : Pairs) (vs : Vals (List ℕ)) (p : Place) (b : Body) (s inner : Vars) → d
    ≡ suc j → d' ≡ j → body_of f w.script ≡ Some b → inner ≡ with_vars (bind b.params vs c) s → eval_block w (body_at w d') b.block b.node inner
    ≡ body_at w d f c vs p s
body_opened w d d' j f c vs p b s inner h i o e = rw (h, i, o, e) refl

-- ---- arguments

pub items_push : (vs : Vals (List ℕ)) (v : Val (List ℕ)) → items (add_val vs v) ≡ items vs ++ v ∷ []
items_push no_vals v = refl
items_push (val u vs) v = ap (λ xs. u ∷ xs) (items_push vs v)

pub items_vals : (vs : Vals (List ℕ)) → vals_of (items vs) ≡ vs
items_vals no_vals = refl
items_vals (val v vs) = ap (val v) (items_vals vs)

pub kept_push : (vs : Vals (List ℕ)) (v : Val (List ℕ)) → KeptVals vs → Kept v → KeptVals (add_val vs v)
kept_push no_vals v h k = (k, tt)
kept_push (val u vs) v h k = (h.0, kept_push vs v h.1 k)

module _ (at : ℕ → Option Node) where
  pub index_ready : (k m next : ℕ) (p : Place) (v : Val (List ℕ)) (e : Exp) (ss xs : Steps) → xs ≡ Steps.index e p ss → HasSteps at xs m → next
      ≡ m + nodes e → Kept v → StepsFit k xs → HasSteps at ss next × Kept v × (k + 1 + steps_left ss < 2 ^ 128)
  index_ready k m next p v e ss xs g h f kept fits =
      let hs = subst (λ (ys : Steps). HasSteps at ys m) g h in
      let q = subst (λ (ys : Steps). StepsFit k ys) g fits in
      (subst (HasSteps at ss) (sym f) hs.1, kept, omega (arith, q))

  pub index_has : (m : ℕ) (p : Place) (e : Exp) (ss xs : Steps) → xs ≡ Steps.index e p ss → HasSteps at xs m → HasExp at e m
  index_has m p e ss xs g h = (subst (λ (ys : Steps). HasSteps at ys m) g h).0

  pub call_has : (k m : ℕ) (p : Place) (es : Exps) (ss xs : Steps) → xs ≡ Steps.call es p ss → HasSteps at xs m → StepsFit k xs → HasExps at es m
      × HasSteps at ss (m + exps_nodes es) × ArgsFit k es ss
  call_has k m p es ss xs g h fits =
      let hs = subst (λ (ys : Steps). HasSteps at ys m) g h in
      let q = subst (λ (ys : Steps). StepsFit k ys) g fits in
      (hs.0, hs.1, omega (arith, q))

  pub arg_has : (m : ℕ) (e : Exp) (es xs : Exps) → xs ≡ Exps.exp e es → HasExps at xs m → HasExp at e m
  arg_has m e es xs g h = (subst (λ (ys : Exps). HasExps at ys m) g h).0

  pub arg_ready : (k m next : ℕ) (g : Val (List ℕ)) (vs : Vals (List ℕ)) (e : Exp) (es xs : Exps) (ss : Steps) → xs ≡ Exps.exp e es → next
      ≡ m + nodes e → HasExps at xs m → HasSteps at ss (m + exps_nodes xs) → Kept g → KeptVals vs → ArgsFit k xs ss → HasExps at es next
      × HasSteps at ss (next + exps_nodes es) × Kept g × KeptVals (vals_of (items vs)) × (k + 2 + exps_nodes es + steps_left ss < 2 ^ 128)
  arg_ready k m next g vs e es xs ss is f has after kept values fits =
      let hs = subst (λ (ys : Exps). HasExps at ys m) is has in
      let q = subst (λ (ys : Exps). ArgsFit k ys ss) is fits in
      let n : m + exps_nodes xs ≡ next + exps_nodes es = omega (arith, f, ap exps_nodes is) in (
        subst (HasExps at es) (sym f) hs.1,
        subst (HasSteps at ss) n after,
        kept,
        subst KeptVals (sym (items_vals vs)) values,
        omega (arith, q, nodes_pos e),
      )

  pub open_ready : (k m : ℕ) (es : Exps) (ss : Steps) (xs : Pairs) → es ≡ Exps.no_exps → HasSteps at ss (m + exps_nodes es) → ArgsFit k es ss
      → KeptPairs xs → HasSteps at ss m × KeptPairs xs × (k + 1 + steps_left ss < 2 ^ 128)
  open_ready k m es ss xs none has fits kept =
      let here : m + exps_nodes es ≡ m = omega (arith, ap exps_nodes none) in
      (subst (HasSteps at ss) here has, kept, omega (arith, fits))

-- a call from its first argument
pub call_begun : (w : World (List ℕ)) (d n k m : ℕ) (p : Place) (g : Val (List ℕ)) (us : Vals (List ℕ)) (es es' : Exps) (ss xs : Steps)
    (st : Vars) → es' ≡ es → us ≡ no_vals → xs ≡ Steps.call es p ss
    → eval_args w (body_at w d) es' n k m p g (items us) ss (called_from w (body_at w d) p n ss) st ≡ eval_steps w (body_at w d) xs n k m g st
call_begun w d n k m p g us es es' ss xs st e f h = rw (e, f, h) refl

-- ---- a call whose arguments are done

-- a function's body is opened on these arguments
abbrev pub entering : World (List ℕ) → ℕ → ℕ → ℕ → ℕ → Place → Vals (List ℕ) → Steps → Vars → List ℕ → Pairs → Run
entering w d n k m p us ss s f c =
    enter w (body_at w d) f c us p n k m ss s (λ y u. eval_steps w (body_at w d) ss n (k + 1) m y u)

-- so is that of a value, where it may be called on them
abbrev pub opens : World (List ℕ) → ℕ → ℕ → ℕ → ℕ → Place → Val (List ℕ) → Vals (List ℕ) → Steps → Vars → Run
opens w d n k m p g us ss s = called w g us p s (entering w d n k m p us ss s)

pub call_is : (w : World (List ℕ)) (d n k m : ℕ) (p : Place) (g : Val (List ℕ)) (us : Vals (List ℕ)) (xs : Exps) (ss : Steps) (st : Vars) → xs
    ≡ Exps.no_exps → visit p st (opens w d n k m p g us ss)
    ≡ eval_args w (body_at w d) xs n k m p g (items us) ss (called_from w (body_at w d) p n ss) st
call_is w d n k m p g us xs ss st e = rw (e, items_vals us) refl

module _ (w : World (List ℕ)) (d n k m : ℕ) (p : Place) (f : List ℕ) (c : Pairs) (us : Vals (List ℕ)) (ss : Steps) (s : Vars) where
  pub too_deep : d ≡ 0 → fails FaultKind.TooDeep p s ≡ entering w d n k m p us ss s f c
  too_deep e = rw e refl

  pub no_body : (sc : Script) (left : ℕ) → d ≡ left → left ≢ 0 → w.script ≡ sc → body_of f sc ≡ None → fails FaultKind.BadKind p s
      ≡ entering w d n k m p us ss s f c
  no_body sc zero e ne h o = absurd (ne refl)
  no_body sc (suc j) e ne h o = rw (e, h, o) refl

  -- the body's block, inside of the call, which goes on with the caller's variables
  pub enters : (sc : Script) (left i : ℕ) (b : Body) (inner caller : Vars) (x : List ℕ) → d ≡ left → left ≢ 0 → x ≡ f → caller ≡ s → i
      ≡ inside w (call_open n k m x caller.vars ss) d → w.script ≡ sc → body_of f sc ≡ Some b → inner ≡ with_vars (bind b.params us c) s
      → then_do (eval_block w (body_at w i) b.block b.node inner) (call_open n k m x caller.vars ss)
      (after w (body_at w d) (call_open n k m x caller.vars ss)) ≡ entering w d n k m p us ss s f c
  enters sc zero i b inner caller x e ne y z h g o q = absurd (ne refl)
  enters sc (suc j) i b inner caller x e ne y z h g o q =
      let one_less : i ≡ j = h ∙ ap (inside w (call_open n k m x caller.vars ss)) e in
      let block = eval_block w (body_at w i) b.block b.node inner in
      let go = λ (en : Entry (List ℕ)). after w (body_at w d) en in
      ap (λ t. then_do block (call_open n k m t caller.vars ss) (go (call_open n k m t caller.vars ss))) y
      ∙ ap (λ (t : Vars). then_do block (call_open n k m f t.vars ss) (go (call_open n k m f t.vars ss))) z
      ∙ ap (λ r. then_do r (call_open n k m f s.vars ss) (go (call_open n k m f s.vars ss)))
      (body_opened w d i j f c us p b s inner e one_less (ap (body_of f) g ∙ o) q)

-- the variables of a body at its start
pub starts_so : (b : Pairs) (s none inner : Vars) (k : ℕ) → inner ≡ with_vars b none → none ≡ record { vars = no_pairs; count = k } → k ≡ s.count
    → inner ≡ with_vars b s
starts_so b s none inner k e f g =
    e ∙ ap (with_vars b) f ∙ ap (λ n. with_vars b (record { vars = no_pairs; count = n })) g

-- ---- the first value

pub first_begun : (w : World (List ℕ)) (d d' : ℕ) (e e' : Exp) (m part : ℕ) (st : Vars) (en : Entry (List ℕ)) (k : End (List ℕ) → Vars → Run)
    → d' ≡ d → e' ≡ e → part ≡ m → then_do (eval w (body_at w d') e' part st) en k ≡ then_do (eval w (body_at w d) e m st) en k
first_begun w d d' e e' m part st en k same is f = rw (same, is, f) refl

module _ (at : ℕ → Option Node) where
  pub first_at : (e : Exp) (n r : ℕ) → ((t : Node) → at (n + 1) ≡ Some t → r ≡ n + 1) → HasExp at e (n + 1) → r ≡ n + 1
  first_at e n r is h = is (exp_node e) (own_exp at e (n + 1) h)

  pub first_has : (e e' : Exp) (n r : ℕ) → e' ≡ e → ((t : Node) → at (n + 1) ≡ Some t → r ≡ n + 1) → HasExp at e (n + 1) → HasExp at e' r
  first_has e e' n r same is h =
      subst (λ (x : Exp). HasExp at x r) (sym same) (subst (HasExp at e) (sym (first_at e n r is h)) h)

-- there are no more steps than nodes and indices and calls
pub steps_few : (xs : List Step) → steps_left (steps_view xs) ≤ steps_nodes (steps_view xs) + length xs
steps_few [] = omega arith
steps_few (Step.Index e l c ∷ xs) = omega (arith, steps_few xs)
steps_few (Step.Call es l c ∷ xs) = omega (arith, steps_few xs)
