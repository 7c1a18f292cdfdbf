-- How the parts of a run follow each other, and how the code's early ends say what they come to.
use Rattle.std.proofs.Common.{◌≡◌, ◌≢◌, ℕ, zero, suc, ◌+◌, ◌-◌, ◌<◌, ◌≤◌, List, [], ◌∷◌, length, drop, get_or, Bool, true, false, Option, Ok, Err}
use Rattle.std.proofs.Common.{nat_lt, Result, refl, ap, sym, ◌∙◌, subst, arith}
use Rattle.std.specs.Result.{IsErrAnd}
use Rattle.sky_base.specs.Tree.{Place, FunDef, Oper, Form, Exp, Exps, Links, Steps}
use Rattle.sky_base.specs.TreeView.{one, two, exp_view, steps_view, step_view, arith_view, at}
use Rattle.sky_base.specs.Val.{truth, no_vals, val, add_val}
use Rattle.sky_base.specs.View.{view}
use Rattle.sky_base.specs.Res.{visits, counted}
use Rattle.sky_base.specs.Op as op
use Rattle.sky_base.specs.Eval.{named, closed, oper}
use Rattle.sky_base.specs.declared.fault.FaultKind.{FaultKind}
use Rattle.sky_base.specs.declared.value.Value.{Value}
use Rattle.sky_base.specs.declared.tree.Link.{Link}
use Rattle.sky_base.specs.declared.tree.Step.{Step}
use Rattle.sky_base_known.specs.Walk.{Row}
use Rattle.sky_base_scope.specs.Plain.{Val, Vals, Pairs, Vars, Out, Answer, Ground, fails, visited, visit, answer, on_got, on_goes, on_listed, decide}
use Rattle.sky_base_scope.specs.Plain.{formed, exp, values, opened, links, steps, turns, repeats}
use Rattle.sky_base_scope.specs.RunView.{Comes, Flows, cut_of}
use Rattle.sky_base_scope.specs.declared.cut.Cut.{Cut}
use Rattle.sky_base_scope.specs.declared.cut.Flow.{Flow}

-- ---- what follows what follows

pub got_got : (o : Out) (f k : Val → List Row → Vars → Out) → on_got (on_got o f) k ≡ on_got o (λ v more s. on_got (f v more s) k)
got_got (Out.goes rows st) f k = refl
got_got (Out.got v rows st) f k = refl
got_got (Out.returned v rows st) f k = refl
got_got (Out.listed vs rows st) f k = refl
got_got (Out.cut c rows) f k = refl

-- no value is come to
abbrev pub NotGot : Out → Type 0
NotGot (Out.goes rows st) = Unit {0}
NotGot (Out.got v rows st) = ⊥
NotGot (Out.returned v rows st) = Unit {0}
NotGot (Out.listed vs rows st) = Unit {0}
NotGot (Out.cut c rows) = Unit {0}

pub not_got : (o : Out) (k : Val → List Row → Vars → Out) → ((v : Val) (more : List Row) (s : Vars) → NotGot (k v more s)) → NotGot (on_got o k)
not_got (Out.goes rows st) k h = tt
not_got (Out.got v rows st) k h = h v rows st
not_got (Out.returned v rows st) k h = tt
not_got (Out.listed vs rows st) k h = tt
not_got (Out.cut c rows) k h = tt

pub listed_got : (o : Out) (f : Vals → List Row → Vars → Out) (k : Val → List Row → Vars → Out) → NotGot o → on_got (on_listed o f) k
    ≡ on_listed o (λ v more s. on_got (f v more s) k)
listed_got (Out.goes rows st) f k h = refl
listed_got (Out.got v rows st) f k h = absurd h
listed_got (Out.returned v rows st) f k h = refl
listed_got (Out.listed vs rows st) f k h = refl
listed_got (Out.cut c rows) f k h = refl

visited_got : (b : Bool) (p : Place) (rows : List Row) (st : Vars) (f : Vars → Out) (k : Val → List Row → Vars → Out)
    → on_got (visited b p rows st f) k ≡ visited b p rows st (λ s. on_got (f s) k)
visited_got true p rows st f k = refl
visited_got false p rows st f k = refl

answer_got : (a : Answer) (p : Place) (rows : List Row) (f : Val → Out) (k : Val → List Row → Vars → Out) → on_got (answer a p rows f) k
    ≡ answer a p rows (λ v. on_got (f v) k)
answer_got (Ok v) p rows f k = refl
answer_got (Err e) p rows f k = refl

-- a value that comes with a visit, and what follows it
visited_then : (b : Bool) (a : Answer) (p : Place) (rows : List Row) (st : Vars) (k : Val → List Row → Vars → Out)
    → on_got (visited b p rows st (λ s. answer a p rows (λ u. Out.got u rows s))) k
    ≡ visited b p rows st (λ s. answer a p rows (λ u. k u rows s))
visited_then true (Ok v) p rows st k = refl
visited_then true (Err e) p rows st k = refl
visited_then false a p rows st k = refl

pub given_then : (a : Answer) (p : Place) (rows : List Row) (st : Vars) (k : Val → List Row → Vars → Out)
    → on_got (visit p rows st (λ s. answer a p rows (λ u. Out.got u rows s))) k ≡ visit p rows st (λ s. answer a p rows (λ u. k u rows s))
given_then a p rows st k = visited_then (nat_lt st.count visits) a p rows st k

-- a name is looked up among the variables that stood before its visit
pub name_given : (b : Bool) (x : List ℕ) (fs : List FunDef) (p : Place) (rows : List Row) (st : Vars)
    → visited b p rows st (λ s. answer (named (op.find x s.vars) x fs) p rows (λ u. Out.got u rows s))
    ≡ visited b p rows st (λ s. answer (named (op.find x st.vars) x fs) p rows (λ u. Out.got u rows s))
name_given true x fs p rows st = refl
name_given false x fs p rows st = refl

-- so is what an anonymous function captures
pub func_given : (b : Bool) (x : List ℕ) (o : Option FunDef) (p : Place) (rows : List Row) (st : Vars)
    → visited b p rows st (λ s. answer (closed o x s.vars) p rows (λ u. Out.got u rows s))
    ≡ visited b p rows st (λ s. answer (closed o x st.vars) p rows (λ u. Out.got u rows s))
func_given true x o p rows st = refl
func_given false x o p rows st = refl

-- ---- one operator, then the others

ap_got : (o : Out) (f h : Val → List Row → Vars → Out) → ((v : Val) (more : List Row) (s : Vars) → f v more s ≡ h v more s) → on_got o f ≡ on_got o h
ap_got (Out.goes rows st) f h e = refl
ap_got (Out.got v rows st) f h e = e v rows st
ap_got (Out.returned v rows st) f h e = refl
ap_got (Out.listed vs rows st) f h e = refl
ap_got (Out.cut c rows) f h e = refl

ap_listed : (o : Out) (f h : Vals → List Row → Vars → Out) → ((v : Vals) (more : List Row) (s : Vars) → f v more s ≡ h v more s) → on_listed o f
    ≡ on_listed o h
ap_listed (Out.goes rows st) f h e = refl
ap_listed (Out.got v rows st) f h e = refl
ap_listed (Out.returned v rows st) f h e = refl
ap_listed (Out.listed vs rows st) f h e = e vs rows st
ap_listed (Out.cut c rows) f h e = refl

visited_call : (b : Bool) (p : Place) (rows : List Row) (st : Vars) (o : Vars → Out) (k : Val → List Row → Vars → Out)
    → on_got (visited b p rows st (λ t. on_got (o t) (λ y last u. Out.got y last u))) k ≡ visited b p rows st (λ t. on_got (o t) k)
visited_call true p rows st o k = got_got (o (counted st)) (λ y last u. Out.got y last u) k
visited_call false p rows st o k = refl

module _ (g : Ground) (body : List ℕ → Pairs → Vals → Place → List Row → ℕ → Out) where
  values_none : (es : Exps) (vs : Vals) (rows : List Row) (st : Vars) → NotGot (values g body es vs rows st)
  values_none Exps.no_exps vs rows st = tt
  values_none (Exps.exp e es) vs rows st =
      not_got (exp g body e rows st) (λ v more s. values g body es (add_val vs v) more s) (λ v more s. values_none es (add_val vs v) more s)

  pub links_first : (k : Link) (ks : Links) (v : Val) (rows : List Row) (st : Vars)
      → links g body (Links.link (arith_view k.op) (at k.line k.col) (exp_view k.operand) ks) v rows st
      ≡ on_got (links g body (Links.link (arith_view k.op) (at k.line k.col) (exp_view k.operand) Links.no_links) v rows st)
      (λ y more t. links g body ks y more t)
  links_first k ks v rows st =
      let p = at k.line k.col in
      let o = exp g body (exp_view k.operand) rows st in
      let f : Val → List Row → Vars → Out = λ x more s. visit p more s (λ t. answer (oper (arith_view k.op) v x) p more (λ y. Out.got y more t)) in
      let h : Val → List Row → Vars → Out = λ x more s. visit p more s
      (λ t. answer (oper (arith_view k.op) v x) p more (λ y. links g body ks y more t)) in
      let e = got_got o f (λ y more t. links g body ks y more t) in
      sym (e ∙ ap_got o (λ x more s. on_got (f x more s) (λ y last t. links g body ks y last t)) h
      (λ x more s. given_then (oper (arith_view k.op) v x) p more s (λ y last t. links g body ks y last t)))

  pub steps_first : (k : Step) (ks : Steps) (v : Val) (rows : List Row) (st : Vars) → steps g body (step_view k ks) v rows st
      ≡ on_got (steps g body (step_view k Steps.no_steps) v rows st) (λ y more t. steps g body ks y more t)
  steps_first (Step.Index e l c) ks v rows st =
      let p = at l c in
      let o = exp g body (exp_view e) rows st in
      let f : Val → List Row → Vars → Out = λ x more s. visit p more s (λ t. answer (op.index v x) p more (λ y. Out.got y more t)) in
      let h : Val → List Row → Vars → Out = λ x more s. visit p more s (λ t. answer (op.index v x) p more (λ y. steps g body ks y more t)) in
      let i = got_got o f (λ y more t. steps g body ks y more t) in
      sym (i ∙ ap_got o (λ x more s. on_got (f x more s) (λ y last t. steps g body ks y last t)) h
      (λ x more s. given_then (op.index v x) p more s (λ y last t. steps g body ks y last t)))
  steps_first (Step.Call es l c) ks v rows st =
      let p = at l c in
      let o = values g body es no_vals rows st in
      let f : Vals → List Row → Vars → Out = λ vs more s. visit p more s (λ t. on_got (opened g body v vs p more t) (λ y last u. Out.got y last u)) in
      let h : Vals → List Row → Vars → Out = λ vs more s. visit p more s
      (λ t. on_got (opened g body v vs p more t) (λ y last u. steps g body ks y last u)) in
      let i = listed_got o f (λ y more t. steps g body ks y more t) (values_none es no_vals rows st) in
      sym (i ∙ ap_listed o (λ vs more s. on_got (f vs more s) (λ y last t. steps g body ks y last t)) h
      (λ vs more s. visited_call (nat_lt s.count visits) p more s (λ t. opened g body v vs p more t) (λ y last t. steps g body ks y last t)))

module _ (g : Ground) (body : List ℕ → Pairs → Vals → Place → List Row → ℕ → Out) where
  -- a form whose parts have come to these values
  pub parts_are : (f : Form) (es : Exps) (p : Place) (rows : List Row) (st : Vars) (vs : Vals) (more : List Row) (s : Vars)
      → values g body es no_vals rows st ≡ Out.listed vs more s → exp g body (Exp.parts f p es) rows st
      ≡ visit p more s (λ t. formed g f vs p more t)
  parts_are f es p rows st vs more s h = ap (λ o. on_listed o (λ xs last t. visit p last t (λ u. formed g f xs p last u))) h

  pub one_is : (f : Form) (a : Exp) (p : Place) (rows : List Row) (st : Vars) (v : Val) (more : List Row) (s : Vars) → exp g body a rows st
      ≡ Out.got v more s → exp g body (Exp.parts f p (one a)) rows st ≡ visit p more s (λ t. formed g f (val v no_vals) p more t)
  one_is f a p rows st v more s h =
      parts_are f (one a) p rows st (val v no_vals) more s (ap (λ o. on_got o (λ x last t. values g body Exps.no_exps (add_val no_vals x) last t)) h)

  pub two_are : (f : Form) (a b : Exp) (p : Place) (rows : List Row) (st : Vars) (v : Val) (more : List Row) (s : Vars) (u : Val)
      (last : List Row) (t : Vars) → exp g body a rows st ≡ Out.got v more s → exp g body b more s ≡ Out.got u last t
      → exp g body (Exp.parts f p (two a b)) rows st ≡ visit p last t (λ z. formed g f (val v (val u no_vals)) p last z)
  two_are f a b p rows st v more s u last t h k =
      parts_are f (two a b) p rows st (val v (val u no_vals)) last t
      (ap (λ o. on_got o (λ x now z. values g body (one b) (add_val no_vals x) now z)) h
      ∙ ap (λ o. on_got o (λ x now z. values g body Exps.no_exps (add_val (val v no_vals) x) now z)) k)

module _ (g : Ground) (body : List ℕ → Pairs → Vals → Place → List Row → ℕ → Out) where
  -- a chain of one operator whose two sides have come to these values
  pub chain_is : (o : Oper) (a b : Exp) (p : Place) (rows : List Row) (st : Vars) (v : Val) (more : List Row) (s : Vars) (u : Val)
      (last : List Row) (t : Vars) → exp g body a rows st ≡ Out.got v more s → exp g body b more s ≡ Out.got u last t
      → exp g body (Exp.chain a (Links.link o p b Links.no_links)) rows st
      ≡ visit p last t (λ z. answer (oper o v u) p last (λ y. Out.got y last z))
  chain_is o a b p rows st v more s u last t h k =
      ap (λ q. on_got q (λ x now z. links g body (Links.link o p b Links.no_links) x now z)) h
      ∙ ap (λ q. on_got q (λ x now z. visit p now z (λ w. answer (oper o v x) p now (λ y. Out.got y now w)))) k

pub steps_at : (es : List Step) (i : ℕ) (x : Step) → i < length es → x ≡ get_or es i x → steps_view (drop i es)
    ≡ step_view x (steps_view (drop (i + 1) es))
steps_at [] i x h e = absurd (omega arith)
steps_at (y ∷ es) zero x h e = rw e refl
steps_at (y ∷ es) (suc i) x h e = let n : suc i + 1 ≡ suc (i + 1) = omega arith in rw n (steps_at es i x (omega arith) e)

-- ---- turns of loops, of so many

pub turns_start : (n : ℕ) (p : Place) (test run : List Row → Vars → Out) (rows : List Row) (st : Vars) → turns n p test run rows st
    ≡ turns (n - 0) p test run rows st
turns_start n p test run rows st = let e : n ≡ n - 0 = omega arith in ap (λ m. turns m p test run rows st) e

pub turns_next : (n i : ℕ) (p : Place) (test run : List Row → Vars → Out) (rows : List Row) (st : Vars) → i < n
    → turns (n - i) p test run rows st ≡ on_got (test rows st)
    (λ v more s. decide v p more (on_goes (run more s) (λ last t. turns (n - (i + 1)) p test run last t)) (Out.goes more s))
turns_next n i p test run rows st h = let e : n - i ≡ suc (n - (i + 1)) = omega arith in ap (λ m. turns m p test run rows st) e

pub turns_over : (n i : ℕ) (p : Place) (test run : List Row → Vars → Out) (rows : List Row) (st : Vars) → n ≤ i
    → turns (n - i) p test run rows st ≡ fails FaultKind.TooLong p rows
turns_over n i p test run rows st h = let e : n - i ≡ 0 = omega arith in ap (λ m. turns m p test run rows st) e

pub repeats_start : (n : ℕ) (p : Place) (run test : List Row → Vars → Out) (rows : List Row) (st : Vars) → repeats n p run test rows st
    ≡ repeats (n - 0) p run test rows st
repeats_start n p run test rows st = let e : n ≡ n - 0 = omega arith in ap (λ m. repeats m p run test rows st) e

pub repeats_next : (n i : ℕ) (p : Place) (run test : List Row → Vars → Out) (rows : List Row) (st : Vars) → i < n
    → repeats (n - i) p run test rows st ≡ on_goes (run rows st)
    (λ more s. on_got (test more s) (λ v last t. decide v p last (repeats (n - (i + 1)) p run test last t) (Out.goes last t)))
repeats_next n i p run test rows st h = let e : n - i ≡ suc (n - (i + 1)) = omega arith in ap (λ m. repeats m p run test rows st) e

pub repeats_over : (n i : ℕ) (p : Place) (run test : List Row → Vars → Out) (rows : List Row) (st : Vars) → n ≤ i
    → repeats (n - i) p run test rows st ≡ fails FaultKind.TooLong p rows
repeats_over n i p run test rows st h = let e : n - i ≡ 0 = omega arith in ap (λ m. repeats m p run test rows st) e

pub most_turns : suc visits ≡ 1000001
unfolding visits
most_turns = refl

pub decide_on : (b : Bool) (v : Val) (p : Place) (rows : List Row) (on off : Out) → v ≡ truth b → b ≡ true → decide v p rows on off ≡ on
decide_on true v p rows on off e h = ap (λ x. decide x p rows on off) e
decide_on false v p rows on off e h = absurd cc

pub decide_off : (b : Bool) (v : Val) (p : Place) (rows : List Row) (on off : Out) → v ≡ truth b → b ≡ false → decide v p rows on off ≡ off
decide_off true v p rows on off e h = absurd cc
decide_off false v p rows on off e h = ap (λ x. decide x p rows on off) e

-- ---- ends of the code

pub comes_on : (r : Result Value Cut) (rows : List Row) (st : Vars) (o u : Out) → o ≡ u → Comes r rows st u → Comes r rows st o
comes_on r rows st o u e h = subst (λ x. Comes r rows st x) (sym e) h

-- after a value comes nothing more
pub comes_got : (r : Result Value Cut) (rows : List Row) (st : Vars) (o : Out) → Comes r rows st o
    → Comes r rows st (on_got o (λ y last u. Out.got y last u))
comes_got (Ok v) rows st o h = ap (λ x. on_got x (λ y last u. Out.got y last u)) h
comes_got (Err c) rows st o h = λ ne. ap (λ x. on_got x (λ y last u. Out.got y last u)) (h ne)

pub flows_on : (r : Result Flow Cut) (rows : List Row) (st : Vars) (o u : Out) → o ≡ u → Flows r rows st u → Flows r rows st o
flows_on r rows st o u e h = subst (λ x. Flows r rows st x) (sym e) h

pub comes_err : (r : Result Value Cut) (e : Cut) (rows : List Row) (st : Vars) (o : Out) → IsErrAnd r (λ y. y ≡ e)
    → (e ≢ Cut.Memory → o ≡ Out.cut (cut_of e) rows) → Comes r rows st o
comes_err (Ok v) e rows st o h k = absurd h
comes_err (Err y) e rows st o h k = subst (λ (z : Cut). z ≢ Cut.Memory → o ≡ Out.cut (cut_of z) rows) (sym h) k

pub flows_err : (r : Result Flow Cut) (e : Cut) (rows : List Row) (st : Vars) (o : Out) → IsErrAnd r (λ y. y ≡ e)
    → (e ≢ Cut.Memory → o ≡ Out.cut (cut_of e) rows) → Flows r rows st o
flows_err (Ok v) e rows st o h k = absurd h
flows_err (Err y) e rows st o h k = subst (λ (z : Cut). z ≢ Cut.Memory → o ≡ Out.cut (cut_of z) rows) (sym h) k

pub flows_returned : (f : Flow) (v : Value) (rows : List Row) (st : Vars) (o : Out) → f ≡ Flow.Returned v → Flows (Ok f) rows st o → o
    ≡ Out.returned (view v) rows st
flows_returned f v rows st o e h = subst (λ (x : Flow). Flows (Ok x) rows st o) e h

pub flows_goes : (f : Flow) (rows : List Row) (st : Vars) (o : Out) → ((v : Value) → f ≢ Flow.Returned v) → Flows (Ok f) rows st o → o
    ≡ Out.goes rows st
flows_goes Flow.Goes rows st o n h = h
flows_goes (Flow.Returned v) rows st o n h = absurd (n v refl)

-- a visit that was counted, and what comes after it
pub visited_goes : (r : Result Flow Cut) (after : List Row) (last : Vars) (p : Place) (rows : List Row) (st new : Vars) (k : Vars → Out)
    → (nat_lt st.count visits ≡ true) × (new ≡ counted st) → Flows r after last (k new) → Flows r after last (visit p rows st k)
visited_goes r after last p rows st new k e h =
    flows_on r after last (visit p rows st k) (k new) (ap (λ b. visited b p rows st k) e.0 ∙ ap k (sym e.1)) h
