-- What was computed ahead of a call is what the call gives, and there are as many outputs as were asked for.
use Rattle.std.proofs.Common.{◌≡◌, ℕ, List, [], ◌∷◌, length, Bool, true, ◌&&◌, ◌==◌, Result, Ok, Err, Option, Some, None, sym, ap, subst, ◌∙◌, eqb-true}
use Rattle.std.specs.Prelude.{IfOk, IsSomeAnd}
use Rattle.sky_base.specs.Val.{Val, same_text, same_val}
use Rattle.sky_base.specs.View.{view}
use Rattle.sky_base.specs.declared.fault.Fault.{Fault}
use Rattle.sky_base.specs.declared.value.Value.{Value}
use Rattle.sky_base.proofs.Exact.{both_first, both_second, exact_text, exact_val}
use Rattle.sky_base_exec.specs.Perform.{made_of, slots, without_place}
use Rattle.line_kit.specs.Counts.{gives_counts}
use Rattle.line_kit.specs.Gives.{Answer, gives}
use Rattle.ciel_flow_pieces.specs.Leads.{IsCall}
use Rattle.ciel_flow_pieces.specs.Left.{as_answer, flat}
use Rattle.ciel_flow_pieces.specs.declared.follow.Left.{Left}
use Rattle.ciel_flow_pieces.specs.declared.piece.Source.{Source}
use Rattle.ciel_flow_work.specs.Ahead.{IsOfCall}

pub on_some : {A : Type 0} {P Q : A → Type 0} (o : Option A) → ((a : A) → P a → Q a) → IsSomeAnd o P → IsSomeAnd o Q
on_some None f h = h
on_some (Some a) f h = f a h

abbrev pub bytes_in : Result (List (List ℕ)) Fault → List (List ℕ)
bytes_in (Ok bs) = bs
bytes_in (Err f) = []

pub ahead_gives : (x : List ℕ) (a : Val (List ℕ)) (n : ℕ) (inputs : List (List ℕ)) (left : Left) → IsOfCall x a n (Ok inputs) left
    → gives x a inputs n ≡ as_answer left.made
ahead_gives x a n inputs left call =
    (λ i. gives (sym call.executor i) (sym call.args i) (ap bytes_in call.fed i) (sym call.outputs i)) ∙ left.so

-- the tests of what was computed ahead are exact
pub of_call : (x : List ℕ) (a : Val (List ℕ)) (n : ℕ) (inputs parts : List (List ℕ)) (left : Left) (b : Bool)
    → b ≡ ((left.outputs == n) && (same_text left.executor x && same_val same_text (view left.args) a)) → b ≡ true
    → parts ≡ left.parts.items → inputs ≡ flat parts ∷ [] → IsOfCall x a n (Ok inputs) left
of_call x a n inputs parts left b is so at fed =
    let names = same_text left.executor x in
    let args = same_val same_text (view left.args) a in
    let all = sym is ∙ so in
    let more = both_second (left.outputs == n) (names && args) all in
    record {
      executor = exact_text left.executor x (both_first names args more);
      args = exact_val same_text exact_text (view left.args) a (both_second names args more);
      outputs = eqb-true left.outputs n (both_first (left.outputs == n) (names && args) all);
      fed = ap (λ (bs : List (List ℕ)). Ok bs) (fed ∙ ap (λ (ps : List (List ℕ)). flat ps ∷ []) at);
    }

-- ---- how many outputs there are

placed : (r : Answer) (n : ℕ) → IfOk r (λ bs. length bs ≡ n) → IfOk (without_place r) (λ bs. length bs ≡ n)
placed (Ok bs) n h = h
placed (Err k) n h = tt

pub as_many : (x : List ℕ) (a : Val (List ℕ)) (n : ℕ) (inputs made : Result (List (List ℕ)) Fault) → made ≡ made_of gives x a n inputs
    → IfOk made (λ bs. length bs ≡ n)
as_many x a n (Ok bs) made e =
    subst (λ r. IfOk r (λ bs. length bs ≡ n)) (sym e) (placed (gives x (slots a) bs n) n (gives_counts x (slots a) bs n))
as_many x a n (Err f) made e = subst (λ r. IfOk r (λ bs. length bs ≡ n)) (sym e) tt

-- ---- a run on the inputs that were found, for arguments in which slots were put

module _ (x : List ℕ) (a : Val (List ℕ)) (n : ℕ) (inputs : Result (List (List ℕ)) Fault) (found : List (List ℕ)) (slotted : Val (List ℕ))
    (is : inputs ≡ Ok found) (put : slotted ≡ slots a) where
  pub made_here : (made : Result (List (List ℕ)) Fault) → made ≡ without_place (gives x slotted found n) → made ≡ made_of gives x a n inputs
  made_here made e = e ∙ ap (λ (b : Val (List ℕ)). without_place (gives x b found n)) put ∙ ap (made_of gives x a n) (sym is)

  pub call_here : (left : Left) → IsOfCall x slotted n (Ok found) left → IsOfCall x (slots a) n inputs left
  call_here left call = record { executor = call.executor; args = call.args ∙ put; outputs = call.outputs; fed = is ∙ call.fed }

-- ---- a stream of an output of such a run

module _ (s : Source) (x : List ℕ) (a : Value) (n i : ℕ) (inputs : Result (List (List ℕ)) Fault) (found : List (List ℕ)) (slotted : Val (List ℕ))
    (source : s ≡ record { executor = x; args = a; outputs = n; index = i; inputs = inputs }) (is : inputs ≡ Ok found)
    (put : slotted ≡ slots (view a)) where
  pub given_here : s.inputs ≡ Ok found
  given_here = ap (λ (t : Source). t.inputs) source ∙ is

  pub source_call : IsCall s x slotted n i found
  source_call = record {
    executor = ap (λ (t : Source). t.executor) source;
    args = ap (λ (t : Source). slots (view t.args)) source ∙ sym put;
    outputs = ap (λ (t : Source). t.outputs) source;
    index = ap (λ (t : Source). t.index) source;
    given = given_here;
  }

  pub source_made : (made : Result (List (List ℕ)) Fault) → made ≡ without_place (gives x slotted found n)
      → made ≡ made_of gives s.executor (view s.args) s.outputs (Ok found)
  source_made made e =
      e ∙ ap (λ (b : Val (List ℕ)). without_place (gives x b found n)) put
      ∙ ap (λ (t : Source). made_of gives t.executor (view t.args) t.outputs (Ok found)) (sym source)
