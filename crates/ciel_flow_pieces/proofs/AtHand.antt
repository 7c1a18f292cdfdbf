-- An output that is at hand whole.
use Rattle.std.proofs.Common.{◌≡◌, ℕ, Bool, true, false, cond, List, [], ◌∷◌, ◌++◌, Option, Some, None, Ok, Err, refl, sym, ap, subst, ◌∙◌}
use Rattle.sky_base.specs.Val.{Pairs, Val, null, truth, num, text, list, dict, fun, ref}
use Rattle.sky_base.specs.View.{view}
use Rattle.sky_base.specs.declared.fault.FaultKind.{FaultKind}
use Rattle.sky_base.specs.declared.fault.FaultKind.TheVariants.{BadCount, BadKind, NoKey}
use Rattle.sky_base_exec.specs.Perform.{slots}
use Rattle.line_kit.specs.Gives.{Answer, gives}
use Rattle.line_kit.specs.Table.{all_fit, executor_of, has_keys, may_have}
use Rattle.line_kit.specs.declared.executor.Executor.{Executor}
use Rattle.line_flow.specs.Refused.{Right, refusal, wrong_args, wrong_call}
use Rattle.line_flow.specs.Stands.{Stands}
use Rattle.line_flow.specs.Told.{Told, opened}
use Rattle.line_flow.specs.declared.flow.Flow.{Flow}
use Rattle.line_flow.proofs.StandsLaw.{refused_gives}
use Rattle.ciel_flow_pieces.specs.Leads.{IsCall, IsFirstOf, IsOf, at}
use Rattle.ciel_flow_pieces.specs.Pieces.{AllParts, AllShort, LawOf, parts}
use Rattle.ciel_flow_pieces.specs.Source.{hands_out, output, output_by}
use Rattle.ciel_flow_pieces.specs.declared.piece.Piece.{Piece}
use Rattle.ciel_flow_pieces.specs.declared.piece.Piece.TheVariants.{End}
use Rattle.ciel_flow_pieces.specs.declared.piece.Source.{Source}
use Rattle.ciel_flow_pieces.proofs.Leading.{aside_is, put_last}
use Rattle.ciel_flow_pieces.proofs.Whole.{gives_whole}

keys_fit : (keys fit : Bool) → ◌≡◌ {A = Option FaultKind} (cond keys (cond fit None (Some BadKind)) (Some NoKey)) None
    → (keys ≡ true) × (fit ≡ true)
keys_fit true true e = (refl, refl)
keys_fit true false e = absurd cc
keys_fit false fit e = absurd cc

right_args : (x : List ℕ) (a : Val (List ℕ)) (n : ℕ) (e : Executor) → executor_of x ≡ Some e → may_have e n ≡ true → wrong_args e a ≡ None
    → (ps : Pairs (List ℕ)) × Right x a n e ps
right_args x null n e is many h = absurd cc
right_args x (truth b) n e is many h = absurd cc
right_args x (num z) n e is many h = absurd cc
right_args x (text t) n e is many h = absurd cc
right_args x (list vs) n e is many h = absurd cc
right_args x (dict ps) n e is many h =
    let both = keys_fit (has_keys e ps) (all_fit e ps) h in
    (ps, record { executor = is; count = many; args_are = refl; keys = both.0; fit = both.1 })
right_args x (fun f c) n e is many h = absurd cc
right_args x (ref d) n e is many h = absurd cc

many_of : (b : Bool) (o : Option FaultKind) → cond b o (Some BadCount) ≡ None → (b ≡ true) × (o ≡ None)
many_of true o e = (refl, e)
many_of false o e = absurd cc

right_by : (x : List ℕ) (a : Val (List ℕ)) (n : ℕ) (o : Option Executor) → executor_of x ≡ o → wrong_call o a n ≡ None
    → (e : Executor) × (ps : Pairs (List ℕ)) × Right x a n e ps
right_by x a n None is h = absurd cc
right_by x a n (Some e) is h =
    let both = many_of (may_have e n) (wrong_args e a) h in
    let r = right_args x a n e is both.0 both.1 in
    (e, r.0, r.1)

no_refusal : (r : Option FaultKind) (answer : Answer) (outputs : List (List ℕ)) → ((k : FaultKind) → r ≡ Some k → answer ≡ Err k) → answer ≡ Ok outputs
    → r ≡ None
no_refusal None answer outputs bad good = refl
no_refusal (Some k) answer outputs bad good = let clash : Err k ≡ Ok outputs = sym (bad k refl) ∙ good in absurd cc

-- the whole output may be put, and then the end
pub put_whole : (s : Source) (inputs outputs : List (List ℕ)) (b : List ℕ) (xs : List Piece) → s.inputs ≡ Ok inputs
    → hands_out (executor_of s.executor) ≡ true → gives s.executor (slots (view s.args)) inputs s.outputs ≡ Ok outputs → b ≡ at outputs s.index
    → xs ≡ [] → IsFirstOf record { source = s; pieces = xs } b
    × ((ys : List Piece) → AllParts ys → AllShort ys → parts ys ≡ parts xs ++ b → LawOf s (ys ++ End ∷ []))
put_whole s inputs outputs b xs given hands answer is fresh =
    let x = s.executor in
    let a = slots (view s.args) in
    let n = s.outputs in
    let right : refusal x a n ≡ None = no_refusal (refusal x a n) (gives x a inputs n) outputs (λ k e. refused_gives x a inputs n k e) answer in
    let r = right_by x a n (executor_of x) refl right in
    let t : Told = record { executor = x; args = a; outputs = n; fed = inputs; last = 0; drained = [] } in
    let of : IsOf s t inputs = record { executor = refl; args = refl; outputs = refl; given = given; right = right } in
    let early = gives_whole x a n r.0 r.1 inputs outputs r.2 hands answer in
    let out : output s ≡ Ok (at outputs s.index) =
    ap (λ r. output_by x s.index r (λ ins. gives x a ins n)) given ∙ ap (λ r. output_by x s.index (Ok inputs) (λ ins. r)) answer in
    put_last s xs b _ (aside_is s t inputs of) (out ∙ ap (λ (ys : List (List ℕ)). Ok (at ys s.index)) early)
    (ap (λ (ps : List Piece). parts ps ++ b) fresh ∙ is ∙ ap (λ (ys : List (List ℕ)). at ys s.index) early)

-- ---- a call by what it is asked

module _ (s : Source) (x : List ℕ) (a : Val (List ℕ)) (n i : ℕ) (inputs : List (List ℕ)) (call : IsCall s x a n i inputs) where
  pub call_of : (count : ℕ) → refusal x a n ≡ None → IsOf s (opened s.executor (slots (view s.args)) count n) inputs
  call_of count right = record {
    executor = refl;
    args = refl;
    outputs = sym call.outputs;
    given = call.given;
    right = ap (λ y. refusal y (slots (view s.args)) s.outputs) call.executor ∙ ap (λ b. refusal x b s.outputs) call.args
        ∙ ap (refusal x a) call.outputs ∙ right;
  }

  pub call_stands : (f : Flow) (count : ℕ) → Stands f (opened x a count n) → Stands f (opened s.executor (slots (view s.args)) count n)
  call_stands f count h =
      subst (λ b. Stands f (opened s.executor b count n)) (sym call.args) (subst (λ y. Stands f (opened y a count n)) (sym call.executor) h)

  pub call_gives : gives s.executor (slots (view s.args)) inputs n ≡ gives x a inputs n
  call_gives = ap (λ y. gives y (slots (view s.args)) inputs n) call.executor ∙ ap (λ b. gives x b inputs n) call.args
