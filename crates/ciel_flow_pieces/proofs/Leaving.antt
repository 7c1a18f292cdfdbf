-- What is left of a stream.
use Rattle.std.proofs.Common.{◌≡◌, ℕ, List, [], ◌∷◌, ◌++◌, Result, Ok, Err, Vec, Global, refl, sym, ap, ◌∙◌, append_assoc, append-nil}
use Rattle.std.specs.Prelude.{IfSome, None, Option, Some, replicate}
use Rattle.sky_base.specs.KitView.{RunsSo}
use Rattle.sky_base.specs.declared.fault.FaultKind.{FaultKind}
use Rattle.line_kit.specs.Gives.{Answer}
use Rattle.line_flow.specs.Drained.{Completes}
use Rattle.line_flow.proofs.KeptLaw.{runs_whole}
use Rattle.ciel_flow_pieces.specs.Left.{as_answer, flat}

runs_answer : (r : Result (Vec (List ℕ) Global) FaultKind) (answer : Answer) → RunsSo r answer → answer ≡ as_answer r
runs_answer (Ok v) answer h = h
runs_answer (Err k) answer h = h

pub whole_answer : (n : ℕ) (r : Result (Vec (List ℕ) Global) FaultKind) (answer : Answer) → Completes (replicate n []) r answer → answer ≡ as_answer r
whole_answer n r answer h = runs_answer r answer (runs_whole n r answer h)

pub flat-append : (xs ys : List (List ℕ)) → flat (xs ++ ys) ≡ flat xs ++ flat ys
flat-append [] ys = refl
flat-append (x ∷ xs) ys = ap (λ (r : List ℕ). x ++ r) (flat-append xs ys) ∙ sym (append_assoc x (flat xs) (flat ys))

pub flat-more : (xs : List (List ℕ)) (b : List ℕ) → flat (xs ++ b ∷ []) ≡ flat xs ++ b
flat-more xs b = flat-append xs (b ∷ []) ∙ ap (λ (r : List ℕ). flat xs ++ r) (append-nil b)

pub on_some : {A : Type 0} {P Q : A → Type 0} (o : Option A) → ((a : A) → P a → Q a) → IfSome o P → IfSome o Q
on_some None f h = tt
on_some (Some a) f h = f a h
