-- What a producer has at the end.
use Rattle.std.proofs.Common.{◌≡◌, ℕ, ◌+◌, Bool, true, false, cond, List, [], ◌∷◌, ◌++◌, length, Ok, Err, Some, Vec, Global, refl, sym, ap, ap₂, subst}
use Rattle.std.proofs.Common.{◌-◌, ◌<◌, ◌≤◌, ◌∙◌, append-nil, arith, drop, get_or, length-append, length-take, nat_lt, suc, take, zero}
use Rattle.std.proofs.lemmas.List.{length-replicate, take_all}
use Rattle.std.specs.Prelude.{replicate}
use Rattle.std.specs.List.{list_any}
use Rattle.std.proofs.lemmas.Bool.{true≢false}
use Rattle.sky_base.specs.Val.{Pairs, Val}
use Rattle.sky_base.specs.View.{view}
use Rattle.sky_base_exec.specs.Perform.{slots}
use Rattle.sky_base.specs.declared.fault.FaultKind.TheVariants.{TooLarge}
use Rattle.line_kit.specs.Gives.{Answer, gives, row, unless_large}
use Rattle.line_kit.specs.Lines.{all_lines}
use Rattle.line_kit.specs.Table.{executor_of}
use Rattle.line_kit.specs.declared.executor.Executor.{Executor}
use Rattle.line_kit.specs.declared.executor.Executor.TheVariants.{Cat, Grep, Words, Split, Deal, Sort, Tally, Count, Sum, Head, Half, Same}
use Rattle.line_flow.specs.Drained.{Follows, each_joined}
use Rattle.line_flow.specs.Refused.{Right}
use Rattle.line_flow.specs.Told.{Told, early_by, fed_more, grow, pairs_in}
use Rattle.line_flow.proofs.GrownInputs.{all-parts, grow-grow, grow-nothing, grow_next}
use Rattle.line_flow.proofs.StandsLaw.{gives_right}
use Rattle.ciel_flow_pieces.specs.Leads.{Begins, IsFirstOf, IsOf, JoinedEach, at}
use Rattle.ciel_flow_pieces.specs.Pieces.{AllParts, AllShort, LawOf, parts}
use Rattle.ciel_flow_pieces.specs.Source.{hands_out, output, output_by}
use Rattle.ciel_flow_pieces.specs.declared.piece.Piece.{Piece}
use Rattle.ciel_flow_pieces.specs.declared.piece.Piece.TheVariants.{End}
use Rattle.ciel_flow_pieces.specs.declared.piece.Source.{Source}
use Rattle.ciel_flow_pieces.proofs.Leading.{aside_is, joined_at, length_joined, put_last, same_each, whole_of}

unless_ok : (b : Bool) (xs outputs : List (List ℕ)) → ◌≡◌ {A = Answer} (cond b (Err TooLarge) (Ok xs)) (Ok outputs) → xs ≡ outputs
unless_ok true xs outputs e = absurd cc
unless_ok false xs outputs e = cc

row_early : (e : Executor) (ps : Pairs (List ℕ)) (inputs : List (List ℕ)) (n : ℕ) → hands_out (Some e) ≡ true → row e ps inputs n
    ≡ unless_large (early_by (Some e) ps n (all_lines inputs))
row_early Cat ps inputs n h = refl
row_early Grep ps inputs n h = refl
row_early Words ps inputs n h = refl
row_early Deal ps inputs n h = refl
row_early Head ps inputs n h = refl
row_early Split ps inputs n h = absurd (true≢false (sym h))
row_early Sort ps inputs n h = absurd (true≢false (sym h))
row_early Tally ps inputs n h = absurd (true≢false (sym h))
row_early Count ps inputs n h = absurd (true≢false (sym h))
row_early Sum ps inputs n h = absurd (true≢false (sym h))
row_early Half ps inputs n h = absurd (true≢false (sym h))
row_early Same ps inputs n h = absurd (true≢false (sym h))

pub gives_whole : (x : List ℕ) (a : Val (List ℕ)) (n : ℕ) (e : Executor) (ps : Pairs (List ℕ)) (inputs outputs : List (List ℕ)) → Right x a n e ps
    → hands_out (executor_of x) ≡ true → gives x a inputs n ≡ Ok outputs → outputs ≡ early_by (executor_of x) (pairs_in a) n (all_lines inputs)
gives_whole x a n e ps inputs outputs r h g =
    let by = subst (λ o. hands_out o ≡ true) r.executor h in
    let early = early_by (Some e) ps n (all_lines inputs) in
    sym (unless_ok (list_any (λ (bytes : List ℕ). nat_lt 67108864 (length bytes)) early) early outputs
    (sym (gives_right x a n e ps inputs r ∙ row_early e ps inputs n by) ∙ g))
    ∙ ap₂ (λ o p. early_by o p n (all_lines inputs)) (sym r.executor) (sym (ap pairs_in r.args_are))

-- the call of the source gives what the flow's call gives
pub moved_gives : (s : Source) (t : Told) (inputs : List (List ℕ)) → IsOf s t inputs → t.fed ≡ inputs
    → gives s.executor (slots (view s.args)) inputs s.outputs ≡ gives t.executor t.args t.fed t.outputs
moved_gives s t inputs of fed =
    ap₂ (λ x a. gives x a inputs s.outputs) (sym of.executor) (sym of.args) ∙ ap₂ (λ i n. gives t.executor t.args i n) (sym fed) (sym of.outputs)

moved_right : (s : Source) (t : Told) (inputs : List (List ℕ)) (e : Executor) (ps : Pairs (List ℕ)) → IsOf s t inputs
    → Right t.executor t.args t.outputs e ps → Right s.executor (slots (view s.args)) s.outputs e ps
moved_right s t inputs e ps of r =
    subst (λ n. Right s.executor (slots (view s.args)) n e ps) of.outputs
    (subst (λ a. Right s.executor a t.outputs e ps) of.args (subst (λ x. Right x t.args t.outputs e ps) of.executor r))

-- the rest of the output may be put, and then the end
pub put_rest : (s : Source) (t : Told) (inputs more outputs : List (List ℕ)) (e : Executor) (ps : Pairs (List ℕ)) (b : List ℕ) (xs : List Piece)
    → IsOf s t inputs → t.fed ≡ inputs → Right t.executor t.args t.outputs e ps → hands_out (executor_of s.executor) ≡ true
    → gives t.executor t.args t.fed t.outputs ≡ Ok outputs → Follows t.drained more outputs → parts xs ≡ at t.drained s.index → b ≡ at more s.index
    → IsFirstOf record { source = s; pieces = xs } b
    × ((ys : List Piece) → AllParts ys → AllShort ys → parts ys ≡ parts xs ++ b → LawOf s (ys ++ End ∷ []))
put_rest s t inputs more outputs e ps b xs of fed right hands answer f same is =
    let gives_so : gives s.executor (slots (view s.args)) inputs s.outputs ≡ Ok outputs = moved_gives s t inputs of fed ∙ answer in
    let early = gives_whole s.executor (slots (view s.args)) s.outputs e ps inputs outputs (moved_right s t inputs e ps of right) hands gives_so in
    let next : parts xs ++ b ≡ at outputs s.index =
    ap₂ (λ (x y : List ℕ). x ++ y) same is ∙ sym (joined_at t.drained more s.index f.count)
    ∙ ap (λ (ys : List (List ℕ)). at ys s.index) f.whole in
    let out : output s ≡ Ok (at outputs s.index) =
    ap (λ r. output_by s.executor s.index r (λ ins. gives s.executor (slots (view s.args)) ins s.outputs)) of.given
    ∙ ap (λ r. output_by s.executor s.index (Ok inputs) (λ ins. r)) gives_so in
    put_last s xs b (whole_of s inputs) (aside_is s t inputs of) (out ∙ ap (λ (ys : List (List ℕ)). Ok (at ys s.index)) early)
    (next ∙ ap (λ (ys : List (List ℕ)). at ys s.index) early)

-- ---- pieces of an input

-- what is still to come, where the rest of the input goes on with this piece
pub begins_on : (t u : Told) (input : ℕ) (bytes rest piece more : List ℕ) (inputs : List (List ℕ)) → Begins t input bytes inputs
    → grow input rest u.fed ≡ grow input bytes t.fed → rest ≡ piece ++ more → Begins u input piece inputs
begins_on t u input bytes rest piece more inputs (q, later, e) same is = (
  more ++ q,
  later,
  ap (λ (xs : List (List ℕ)). all_lines xs ++ later)
      (sym (grow-grow input more q (grow input piece u.fed))
      ∙ ap (grow input q) (grow-grow input piece more u.fed ∙ ap (λ (r : List ℕ). grow input r u.fed) (sym is) ∙ same)) ∙ e,
)

pub is_of_on : (s s' : Source) (t u : Told) (inputs : List (List ℕ)) → s' ≡ s → u.executor ≡ t.executor → u.args ≡ t.args → u.outputs ≡ t.outputs
    → IsOf s t inputs → IsOf s' u inputs
is_of_on s s' t u inputs e x a n of =
    subst (λ r. IsOf r u inputs) (sym e)
    (record { executor = x ∙ of.executor; args = a ∙ of.args; outputs = n ∙ of.outputs; given = of.given; right = of.right })

-- ---- what was kept

pub kept_whole : (drained before more after outputs : List (List ℕ)) → before ≡ drained → Follows drained more outputs → JoinedEach before more after
    → after ≡ outputs
kept_whole drained before more after outputs e f j =
    same_each after (each_joined drained more) (j.count ∙ ap length e ∙ sym (length_joined drained more f.count))
    (λ i. j.each i ∙ ap (λ (xs : List (List ℕ)). at xs i ++ at more i) e ∙ sym (joined_at drained more i f.count)) ∙ f.whole

-- ---- inputs, one after another

-- when input k comes, all lines are still to come
pub begins_next : (u : Told) (inputs : List (List ℕ)) (k n : ℕ) (bytes d : List ℕ) → n ≡ length inputs → k < n → bytes ≡ get_or inputs k d
    → u.fed ≡ take k inputs ++ replicate (n - k) [] → Begins u k bytes inputs
begins_next u inputs k n bytes d count below item fed = (
  [],
  all_lines (drop (k + 1) inputs),
  ap (λ (xs : List (List ℕ)). all_lines xs ++ all_lines (drop (k + 1) inputs))
      (grow-nothing k (grow k bytes u.fed) ∙ ap (grow k bytes) fed ∙ grow_next inputs k n bytes d count below item)
      ∙ sym (all-parts (n - (k + 1)) (k + 1) inputs),
)

pub is_of_fed : (s : Source) (t u : Told) (inputs : List (List ℕ)) → u.executor ≡ t.executor → u.args ≡ t.args → u.outputs ≡ t.outputs
    → IsOf s t inputs → IsOf s u inputs
is_of_fed s t u inputs x a n of = is_of_on s s t u inputs refl x a n of

pub at_nothing : (n i : ℕ) → at (replicate n []) i ≡ []
at_nothing zero i = refl
at_nothing (suc n) zero = refl
at_nothing (suc n) (suc i) = at_nothing n i

pub fed_length : (inputs : List (List ℕ)) (k n : ℕ) → n ≡ length inputs → k < n → length (take k inputs ++ replicate (n - k) []) ≡ n
fed_length inputs k n count below =
    omega (arith, length-append (take k inputs) (replicate (n - k) []), length-take k inputs, length-replicate {A = List ℕ} (n - k) [], count, below)

pub fed_whole : (inputs : List (List ℕ)) (k n : ℕ) → n ≡ length inputs → n ≤ k → take k inputs ++ replicate (n - k) [] ≡ inputs
fed_whole inputs k n count above =
    let none : n - k ≡ 0 = omega (arith, above) in
    ap (λ (m : ℕ). take k inputs ++ replicate m []) none ∙ append-nil (take k inputs) ∙ take_all k inputs (omega (arith, count, above))
