-- What is kept, where nothing is handed out before the end, and where nothing was settled.
use Rattle.std.proofs.Common.{◌≡◌, ℕ, zero, suc, Bool, true, false, cond, List, [], ◌∷◌, ◌++◌, length, Ok, Err, Result, IfOk, Some, refl, sym, ap}
use Rattle.std.proofs.Common.{subst, ◌∙◌, arith, append-nil}
use Rattle.std.specs.Prelude.{Vec, replicate, nat_lt, ◌==◌}
use Rattle.std.specs.List.{list_any}
use Rattle.std.specs.declared.alloc.Global.{Global}
use Rattle.std.proofs.lemmas.Bool.{true≢false, eqb-true}
use Rattle.std.proofs.lemmas.List.{length-replicate}
use Rattle.sky_base.specs.Val.{Pairs}
use Rattle.sky_base.specs.KitView.{RunsSo}
use Rattle.sky_base.specs.declared.fault.FaultKind.{FaultKind}
use Rattle.sky_base.specs.declared.fault.FaultKind.TheVariants.{TooLarge}
use Rattle.line_kit.specs.Lines.{all_lines, joined}
use Rattle.line_kit.specs.Orders.{in_order}
use Rattle.line_kit.specs.Parts.{cut}
use Rattle.line_kit.specs.Gives.{Answer, row, one, with_lines}
use Rattle.line_kit.specs.declared.executor.Executor.{Executor}
use Rattle.line_kit.specs.declared.executor.Executor.TheVariants.{Cat, Grep, Words, Split, Deal, Sort, Tally, Count, Sum, Head, Half, Same}
use Rattle.line_flow.specs.Told.{early_by}
use Rattle.line_flow.specs.Drained.{each_joined, Follows, Completes}
use Rattle.line_flow.specs.Kept.{Seen, seen_more, at_input, keeps_all}

at_nothing : (i k : ℕ) → at_input i k [] ≡ []
at_nothing zero zero = refl
at_nothing zero (suc k) = refl
at_nothing (suc i) zero = refl
at_nothing (suc i) (suc k) = at_nothing i k

-- no lines more
pub seen-nothing : (s : Seen) (i : ℕ) → seen_more s i [] ≡ s
seen-nothing s i = λ j. record {
  all = append-nil s.all j;
  first = (ap (λ (ls : List (List ℕ)). s.first ++ ls) (at_nothing i 0) ∙ append-nil s.first) j;
  second = (ap (λ (ls : List (List ℕ)). s.second ++ ls) (at_nothing i 1) ∙ append-nil s.second) j;
}

pub early_kept : (e : Executor) (args : Pairs (List ℕ)) (n : ℕ) (ls : List (List ℕ)) → keeps_all e ≡ true → early_by (Some e) args n ls
    ≡ replicate n []
early_kept Cat args n ls h = absurd (true≢false (sym h))
early_kept Grep args n ls h = absurd (true≢false (sym h))
early_kept Words args n ls h = absurd (true≢false (sym h))
early_kept Split args n ls h = refl
early_kept Deal args n ls h = absurd (true≢false (sym h))
early_kept Sort args n ls h = refl
early_kept Tally args n ls h = absurd (true≢false (sym h))
early_kept Count args n ls h = absurd (true≢false (sym h))
early_kept Sum args n ls h = absurd (true≢false (sym h))
early_kept Head args n ls h = absurd (true≢false (sym h))
early_kept Half args n ls h = absurd (true≢false (sym h))
early_kept Same args n ls h = absurd (true≢false (sym h))

joined_nothing : (n : ℕ) (os : List (List ℕ)) → length os ≡ n → each_joined (replicate n []) os ≡ os
joined_nothing zero os h = refl
joined_nothing (suc n) [] h = absurd (omega (arith, h))
joined_nothing (suc n) (o ∷ os) h = ap (λ (xs : List (List ℕ)). o ∷ xs) (joined_nothing n os (omega (arith, h)))

-- behind nothing
pub follows_nothing : (n : ℕ) (drained more : List (List ℕ)) → drained ≡ replicate n [] → length more ≡ n → Follows drained more more
follows_nothing n drained more d h = record {
  count = h ∙ sym (ap length d ∙ length-replicate n []);
  whole = ap (λ (xs : List (List ℕ)). each_joined xs more) d ∙ joined_nothing n more h;
}

-- nothing, behind nothing
pub follows_none : (n : ℕ) (drained more outputs : List (List ℕ)) → drained ≡ replicate n [] → more ≡ replicate n [] → outputs ≡ replicate n []
    → Follows drained more outputs
follows_none n drained more outputs d m o = subst (Follows drained more) (m ∙ sym o)
    (follows_nothing n drained more d (ap length m ∙ length-replicate n []))

-- a whole answer, behind nothing
pub completes_whole : (n : ℕ) (drained : List (List ℕ)) (r : Result (Vec (List ℕ) Global) FaultKind) (answer : Answer) → drained ≡ replicate n []
    → IfOk answer (λ outputs. length outputs ≡ n) → RunsSo r answer → Completes drained r answer
completes_whole n drained (Ok v) answer d counts runs =
    let count : length v.items ≡ n = subst (λ (a : Answer). IfOk a (λ outputs. length outputs ≡ n)) runs counts in
    (v.items, runs, follows_nothing n drained v.items d count)
completes_whole n drained (Err k) answer d counts runs = runs

-- what is kept whole gives by its lines alone
pub row_kept : (e : Executor) (ps : Pairs (List ℕ)) (as_kept inputs : List (List ℕ)) (n : ℕ) → keeps_all e ≡ true → all_lines as_kept
    ≡ all_lines inputs → row e ps as_kept n ≡ row e ps inputs n
row_kept Cat ps as_kept inputs n h e = absurd (true≢false (sym h))
row_kept Grep ps as_kept inputs n h e = absurd (true≢false (sym h))
row_kept Words ps as_kept inputs n h e = absurd (true≢false (sym h))
row_kept Split ps as_kept inputs n h e = ap (λ (ls : List (List ℕ)). with_lines (cut n ls)) e
row_kept Deal ps as_kept inputs n h e = absurd (true≢false (sym h))
row_kept Sort ps as_kept inputs n h e = ap (λ (ls : List (List ℕ)). one (in_order ls)) e
row_kept Tally ps as_kept inputs n h e = absurd (true≢false (sym h))
row_kept Count ps as_kept inputs n h e = absurd (true≢false (sym h))
row_kept Sum ps as_kept inputs n h e = absurd (true≢false (sym h))
row_kept Head ps as_kept inputs n h e = absurd (true≢false (sym h))
row_kept Half ps as_kept inputs n h e = absurd (true≢false (sym h))
row_kept Same ps as_kept inputs n h e = absurd (true≢false (sym h))

one_by : (b : Bool) (outputs : List (List ℕ)) (n : ℕ) → length outputs ≡ n → IfOk (cond b (Err TooLarge) (Ok outputs)) (λ r. length r ≡ n)
one_by true outputs n e = tt
one_by false outputs n e = e

-- one output counts as one
pub one_counts : (ls : List (List ℕ)) (n : ℕ) → (n == 1) ≡ true → IfOk (one ls) (λ r. length r ≡ n)
one_counts ls n e = one_by (list_any (λ bytes. nat_lt 67108864 (length bytes)) (joined ls ∷ [])) (joined ls ∷ []) n (sym (eqb-true n 1 e))

-- an answer behind nothing is whole
pub runs_whole : (n : ℕ) (r : Result (Vec (List ℕ) Global) FaultKind) (answer : Answer) → Completes (replicate n []) r answer → RunsSo r answer
runs_whole n (Ok v) answer h =
    let count : length v.items ≡ n = h.2.count ∙ length-replicate n [] in
    h.1 ∙ ap Ok (sym h.2.whole ∙ joined_nothing n v.items count)
runs_whole n (Err k) answer h = h
