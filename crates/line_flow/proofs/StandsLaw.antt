-- A flow goes on standing at what it was told.
use Rattle.std.proofs.Common.{◌≡◌, ℕ, zero, suc, ◌+◌, ◌<◌, ◌≤◌, Bool, true, false, cond, List, [], ◌∷◌, ◌++◌, length, take, drop, Option, Some, None}
use Rattle.std.proofs.Common.{Err, refl, sym, ap, subst, ◌∙◌, arith, length-append}
use Rattle.std.specs.declared.alloc.Global.{Global}
use Rattle.sky_base.specs.declared.fault.FaultKind.{FaultKind}
use Rattle.std.specs.Prelude.{Vec, Result, count_by, nat_lt, replicate}
use Rattle.std.proofs.lemmas.List.{take-append-drop, take_all, drop_all}
use Rattle.std.proofs.lemmas.Bool.{true≢false}
use Rattle.std.proofs.lemmas.Bool.Decides.{nat_tests}
use Rattle.sky_base.specs.Val.{Val, Pairs, null, truth, num, text, list, dict, fun, ref}
use Rattle.sky_base.specs.View.{view}
use Rattle.sky_base.specs.declared.fault.FaultKind.TheVariants.{BadExec, BadCount, BadKind, NoKey}
use Rattle.line_kit.specs.Lines.{is_feed, lines, all_lines, is_open}
use Rattle.line_kit.specs.Gives.{Answer, gives, row, input, with_executor, with_args}
use Rattle.line_kit.specs.Table.{may_have, executor_of, has_keys, all_fit}
use Rattle.line_kit.specs.declared.executor.Executor.{Executor}
use Rattle.line_kit.specs.declared.executor.Executor.TheVariants.{Cat, Grep, Words, Split, Deal, Sort, Tally, Count, Sum, Head, Half, Same}
use Rattle.line_flow.specs.Told.{Told, grow, fed_more, drained_more, early, early_by, pairs_in, settled_lines}
use Rattle.line_flow.specs.Refused.{Right, wrong_args, wrong_call, refusal}
use Rattle.line_flow.specs.Drained.{Follows, Completes}
use Rattle.line_flow.specs.Kept.{Seen, Keeps, seen_of, seen_more, nothing_seen}
use Rattle.line_flow.specs.Stands.{EndsAt, Stands, IsWhole, Took}
use Rattle.line_flow.specs.declared.flow.Flow.{Flow}
use Rattle.line_flow.proofs.GrownInputs.{grow-grow, grow-append, length-grow, seen-grow, no-second, ends-grow, ends-next, settled-more, settled-grow}
use Rattle.line_flow.proofs.GrownInputs.{seen-more}

none_of : (e : Executor) → may_have e 0 ≡ true → ⊥
none_of Cat h = absurd (true≢false (sym h))
none_of Grep h = absurd (true≢false (sym h))
none_of Words h = absurd (true≢false (sym h))
none_of Split h = absurd (true≢false (sym h))
none_of Deal h = absurd (true≢false (sym h))
none_of Sort h = absurd (true≢false (sym h))
none_of Tally h = absurd (true≢false (sym h))
none_of Count h = absurd (true≢false (sym h))
none_of Sum h = absurd (true≢false (sym h))
none_of Head h = absurd (true≢false (sym h))
none_of Half h = absurd (true≢false (sym h))
none_of Same h = absurd (true≢false (sym h))

-- whoever may have so many outputs has one
pub some_outputs : (e : Executor) (n : ℕ) → may_have e n ≡ true → 0 < n
some_outputs e zero h = absurd (none_of e h)
some_outputs e (suc n) h = omega arith

-- ---- what a right call gives

pub gives_right : (name : List ℕ) (args : Val (List ℕ)) (n : ℕ) (e : Executor) (ps : Pairs (List ℕ)) (inputs : List (List ℕ))
    → Right name args n e ps → gives name args inputs n ≡ row e ps inputs n
unfolding gives
gives_right name args n e ps inputs r =
    ap (λ o. with_executor o args inputs n) r.executor
    ∙ ap (λ b. cond b (with_args e args inputs n) (Err BadCount)) r.count
    ∙ ap (λ a. with_args e a inputs n) r.args_are
    ∙ ap (λ b. cond b (cond (all_fit e ps) (row e ps inputs n) (Err BadKind)) (Err NoKey)) r.keys
    ∙ ap (λ b. cond b (row e ps inputs n) (Err BadKind)) r.fit

-- ---- bytes of the rest are settled

kept_on : (f g : Flow) (t : Told) (k : ℕ) → Took f g k → (s : Stands f t)
    → Keeps g.settled s.kind s.pairs t.outputs t.drained (seen_of (grow t.last (take k f.rest.items) s.settled))
kept_on f g t k took s =
    let some = some_outputs s.kind t.outputs s.right.count in
    let kept = took.keeps s.kind s.pairs t.outputs t.drained (seen_of s.settled) some (λ e. no-second t.last s.settled s.ends (sym s.last ∙ e))
    s.keeps in
    subst (Keeps g.settled s.kind s.pairs t.outputs t.drained)
    (ap (λ (i : ℕ). seen_more (seen_of s.settled) i (lines (take k f.rest.items))) s.last
    ∙ sym (seen-grow t.last (take k f.rest.items) s.settled s.ends)) kept

pub stands_took : (f g : Flow) (t : Told) (k : ℕ) → Took f g k → is_open (take k f.rest.items) ≡ false → Stands f t → Stands g t
stands_took f g t k took closed s =
    let xs = f.rest.items in
    record {
      kind = s.kind;
      pairs = s.pairs;
      settled = grow t.last (take k xs) s.settled;
      right = s.right;
      executor = took.executor ∙ s.executor;
      args = ap view took.args ∙ s.args;
      outputs = took.outputs ∙ s.outputs;
      last = took.last ∙ s.last;
      fed =
          s.fed ∙ ap (λ (ys : List ℕ). grow t.last ys s.settled) (sym (take-append-drop k xs))
          ∙ sym (grow-grow t.last (take k xs) (drop k xs) s.settled)
          ∙ ap (λ (ys : List ℕ). grow t.last ys (grow t.last (take k xs) s.settled)) (sym took.rest);
      ends = ends-grow t.last (take k xs) s.settled s.ends closed;
      keeps = kept_on f g t k took s;
    }

pub whole_took : (f g : Flow) (t : Told) (k : ℕ) → Took f g k → length f.rest.items ≤ k → Stands f t → IsWhole g t
whole_took f g t k took all s =
    let xs = f.rest.items in
    let whole : grow t.last (take k xs) s.settled ≡ t.fed ++ [] ∷ [] =
    ap (λ (ys : List ℕ). grow t.last ys s.settled) (take_all k xs all) ∙ sym s.fed in
    let count : length s.settled ≡ length t.fed + 1 =
    sym (ap length s.fed ∙ length-grow t.last xs s.settled) ∙ length-append t.fed ([] ∷ []) in
    record {
      kind = s.kind;
      pairs = s.pairs;
      right = s.right;
      executor = took.executor ∙ s.executor;
      args = ap view took.args ∙ s.args;
      outputs = took.outputs ∙ s.outputs;
      later = λ i l m. subst (EndsAt i) (sym s.fed) (ends-next t.last i xs s.settled s.ends l (omega (arith, m, count)));
      rest = took.rest ∙ drop_all k xs all;
      keeps = subst (λ (done : List (List ℕ)). Keeps g.settled s.kind s.pairs t.outputs t.drained (seen_of done)) whole (kept_on f g t k took s);
    }

-- ---- pieces

-- of an input that was fed before
pub stands_longer : (f g : Flow) (t : Told) (piece : List ℕ) → g ≡ record f { rest = g.rest } → g.rest.items ≡ f.rest.items ++ piece
    → t.last < length t.fed → Stands f t → Stands g (fed_more t t.last piece)
stands_longer f g t piece same longer some s = record {
  kind = s.kind;
  pairs = s.pairs;
  settled = s.settled;
  right = s.right;
  executor = ap (λ (h : Flow). h.executor) same ∙ s.executor;
  args = ap (λ (h : Flow). view h.args) same ∙ s.args;
  outputs = ap (λ (h : Flow). h.outputs) same ∙ s.outputs;
  last = ap (λ (h : Flow). h.last) same ∙ s.last;
  fed =
      sym (grow-append t.last piece t.fed ([] ∷ []) some) ∙ ap (grow t.last piece) s.fed ∙ grow-grow t.last f.rest.items piece s.settled
      ∙ ap (λ (ys : List ℕ). grow t.last ys s.settled) (sym longer);
  ends = s.ends;
  keeps = subst (λ (h : Flow). Keeps h.settled s.kind s.pairs t.outputs t.drained (seen_of s.settled)) (sym same) s.keeps;
}

-- of a later one
pub stands_later : (f g : Flow) (t : Told) (input : ℕ) (piece : List ℕ) → g.executor ≡ f.executor → g.args ≡ f.args → g.outputs ≡ f.outputs
    → g.last ≡ input → g.rest.items ≡ piece → g.settled ≡ f.settled
    → t.last < input → input < length t.fed → IsWhole f t → Stands g (fed_more t input piece)
stands_later f g t input piece executor args outputs last rest settled later some w = record {
  kind = w.kind;
  pairs = w.pairs;
  settled = t.fed ++ [] ∷ [];
  right = w.right;
  executor = executor ∙ w.executor;
  args = ap view args ∙ w.args;
  outputs = outputs ∙ w.outputs;
  last = last;
  fed = sym (grow-append input piece t.fed ([] ∷ []) some) ∙ ap (λ (ys : List ℕ). grow input ys (t.fed ++ [] ∷ [])) (sym rest);
  ends = w.later input later some;
  keeps = subst (λ h. Keeps h w.kind w.pairs t.outputs t.drained (seen_of (t.fed ++ [] ∷ []))) (sym settled) w.keeps;
}

-- ---- what can be had

pub early_is : (f : Flow) (t : Told) (s : Stands f t) → count_by is_feed f.rest.items ≡ 0 → early t
    ≡ early_by (Some s.kind) s.pairs t.outputs (all_lines s.settled)
early_is f t s none =
    let settled : settled_lines t.last t.fed ≡ all_lines s.settled =
    sym (settled-more t.last t.fed) ∙ ap (settled_lines t.last) s.fed ∙ settled-grow t.last f.rest.items s.settled s.ends none in
    ap (λ o. early_by o (pairs_in t.args) t.outputs (settled_lines t.last t.fed)) s.right.executor
    ∙ ap (λ a. early_by (Some s.kind) (pairs_in a) t.outputs (settled_lines t.last t.fed)) s.right.args_are
    ∙ ap (early_by (Some s.kind) s.pairs t.outputs) settled

-- what was settled ends in a line feed, where what was to be settled does
closed_by : (b : Bool) (taken end : ℕ) (xs : List ℕ) → nat_lt taken end ≡ b → taken ≤ end → (taken < end → is_open (take taken xs) ≡ false)
    → is_open (take end xs) ≡ false → is_open (take taken xs) ≡ false
closed_by true taken end xs e h closed shut = closed (grind (arith, nat_tests))
closed_by false taken end xs e h closed shut =
    let same : taken ≡ end = grind (arith, nat_tests) in
    ap (λ n. is_open (take n xs)) same ∙ shut

pub taken_closed : (taken end : ℕ) (xs : List ℕ) → taken ≤ end → (taken < end → is_open (take taken xs) ≡ false) → is_open (take end xs) ≡ false
    → is_open (take taken xs) ≡ false
taken_closed taken end xs h closed shut = closed_by (nat_lt taken end) taken end xs refl h closed shut

-- what is settled is handed out
pub drained_on : (f g : Flow) (t : Told) (vs : List (List ℕ)) → g ≡ record f { settled = g.settled } → count_by is_feed f.rest.items ≡ 0
    → ((e : Executor) (args : Pairs (List ℕ)) (drained : List (List ℕ)) (seen : Seen) → Keeps f.settled e args f.outputs drained seen
    → Follows drained vs (early_by (Some e) args f.outputs seen.all)
    × Keeps g.settled e args f.outputs (early_by (Some e) args f.outputs seen.all) seen)
    → Stands f t → Follows t.drained vs (early t) × Stands g (drained_more t)
drained_on f g t vs same none made s =
    let at = early_is f t s none in
    let kept = subst (λ (n : ℕ). Keeps f.settled s.kind s.pairs n t.drained (seen_of s.settled)) (sym s.outputs) s.keeps in
    let w = made s.kind s.pairs t.drained (seen_of s.settled) kept in
    let sooner : early_by (Some s.kind) s.pairs f.outputs (all_lines s.settled) ≡ early t =
    ap (λ (n : ℕ). early_by (Some s.kind) s.pairs n (all_lines s.settled)) s.outputs ∙ sym at in (
      subst (Follows t.drained vs) sooner w.0,
      record {
        kind = s.kind;
        pairs = s.pairs;
        settled = s.settled;
        right = s.right;
        executor = ap (λ (h : Flow). h.executor) same ∙ s.executor;
        args = ap (λ (h : Flow). view h.args) same ∙ s.args;
        outputs = ap (λ (h : Flow). h.outputs) same ∙ s.outputs;
        last = ap (λ (h : Flow). h.last) same ∙ s.last;
        fed = s.fed ∙ ap (λ (h : Flow). grow t.last h.rest.items s.settled) (sym same);
        ends = s.ends;
        keeps =
            subst (λ (ds : List (List ℕ)). Keeps g.settled s.kind s.pairs t.outputs ds (seen_of s.settled)) sooner
            (subst (λ (n : ℕ). Keeps g.settled s.kind s.pairs n (early_by (Some s.kind) s.pairs f.outputs (all_lines s.settled))
            (seen_of s.settled)) s.outputs w.1);
      },
    )

-- ---- the end

pub ended_on : (f : Flow) (t : Told) (r : Result (Vec (List ℕ) Global) FaultKind)
    → ((e : Executor) (pairs : Pairs (List ℕ)) (drained inputs : List (List ℕ)) → Right f.executor (view f.args) f.outputs e pairs
    → Keeps f.settled e pairs f.outputs drained (seen_of inputs)
    → Completes drained r (row e pairs inputs f.outputs))
    → IsWhole f t → Completes t.drained r (gives t.executor t.args t.fed t.outputs)
ended_on f t r finish w =
    let right : Right f.executor (view f.args) f.outputs w.kind w.pairs =
    subst (λ (x : List ℕ). Right x (view f.args) f.outputs w.kind w.pairs) (sym w.executor)
    (subst (λ (a : Val (List ℕ)). Right t.executor a f.outputs w.kind w.pairs) (sym w.args)
    (subst (λ (n : ℕ). Right t.executor t.args n w.kind w.pairs) (sym w.outputs) w.right)) in
    let kept : Keeps f.settled w.kind w.pairs f.outputs t.drained (seen_of t.fed) =
    subst (λ (n : ℕ). Keeps f.settled w.kind w.pairs n t.drained (seen_of t.fed)) (sym w.outputs)
    (subst (Keeps f.settled w.kind w.pairs t.outputs t.drained) (seen-more t.fed) w.keeps) in
    subst (Completes t.drained r) (ap (λ (n : ℕ). row w.kind w.pairs t.fed n) w.outputs
    ∙ sym (gives_right t.executor t.args t.outputs w.kind w.pairs t.fed w.right))
    (finish w.kind w.pairs t.drained t.fed right kept)

-- ---- the beginning

all-start : (n : ℕ) → all_lines (replicate n [] ++ [] ∷ []) ≡ []
all-start zero = refl
all-start (suc n) = all-start n

second-start : (n : ℕ) → lines (input (replicate n [] ++ [] ∷ []) 1) ≡ []
second-start zero = refl
second-start (suc zero) = refl
second-start (suc (suc n)) = refl

first-start : (n : ℕ) → lines (input (replicate n [] ++ [] ∷ []) 0) ≡ []
first-start zero = refl
first-start (suc n) = refl

pub seen-start : (n : ℕ) → seen_of (replicate n [] ++ [] ∷ []) ≡ nothing_seen
seen-start n = λ j. record { all = all-start n j; first = first-start n j; second = second-start n j }

-- ---- pieces of one input

pub more_twice : (t : Told) (i : ℕ) (a b : List ℕ) → fed_more (fed_more t i a) i b ≡ fed_more t i (a ++ b)
more_twice t i a b = ap (λ (fed : List (List ℕ)). record {
  executor = t.executor;
  args = t.args;
  outputs = t.outputs;
  fed = fed;
  last = i;
  drained = t.drained;
}) (grow-grow i a b t.fed)

-- ---- what is refused

same_kind : (a b : FaultKind) → Some a ≡ Some b → ◌≡◌ {A = Answer} (Err a) (Err b)
same_kind a b e = let same : a ≡ b = cc in ap Err same

keys_by : (keys fit : Bool) (k : FaultKind) (a : Answer) → cond keys (cond fit None (Some BadKind)) (Some NoKey) ≡ Some k
    → cond keys (cond fit a (Err BadKind)) (Err NoKey) ≡ Err k
keys_by true true k a e = absurd (let bad : None ≡ Some k = e in (cc))
keys_by true false k a e = same_kind BadKind k e
keys_by false fit k a e = same_kind NoKey k e

refused_args : (e : Executor) (args : Val (List ℕ)) (inputs : List (List ℕ)) (n : ℕ) (k : FaultKind) → wrong_args e args ≡ Some k
    → with_args e args inputs n ≡ Err k
refused_args e null inputs n k h = same_kind BadKind k h
refused_args e (truth b) inputs n k h = same_kind BadKind k h
refused_args e (num z) inputs n k h = same_kind BadKind k h
refused_args e (text t) inputs n k h = same_kind BadKind k h
refused_args e (list vs) inputs n k h = same_kind BadKind k h
refused_args e (dict ps) inputs n k h = keys_by (has_keys e ps) (all_fit e ps) k (row e ps inputs n) h
refused_args e (fun f c) inputs n k h = same_kind BadKind k h
refused_args e (ref d) inputs n k h = same_kind BadKind k h

refused_by : (b : Bool) (k : FaultKind) (o : Option FaultKind) (a : Answer) → cond b o (Some BadCount) ≡ Some k → (o ≡ Some k → a ≡ Err k)
    → cond b a (Err BadCount) ≡ Err k
refused_by true k o a e h = h e
refused_by false k o a e h = same_kind BadCount k e

refused_call : (o : Option Executor) (args : Val (List ℕ)) (inputs : List (List ℕ)) (n : ℕ) (k : FaultKind) → wrong_call o args n ≡ Some k
    → with_executor o args inputs n ≡ Err k
refused_call None args inputs n k h = same_kind BadExec k h
refused_call (Some e) args inputs n k h = refused_by (may_have e n) k (wrong_args e args) (with_args e args inputs n) h
    (refused_args e args inputs n k)

pub refused_gives : (name : List ℕ) (args : Val (List ℕ)) (inputs : List (List ℕ)) (n : ℕ) (k : FaultKind) → refusal name args n ≡ Some k
    → gives name args inputs n ≡ Err k
unfolding gives
refused_gives name args inputs n k h = refused_call (executor_of name) args inputs n k h
