-- With entries that are right a kit gives what the inner one does.
use Rattle.std.proofs.Common.{◌≡◌, ℕ, List, [], ◌∷◌, Bool, true, false, Option, Some, None, Result, Ok, refl, sym, ◌∙◌, ap, subst, if◌then◌else◌, not}
use Rattle.std.specs.Prelude.{is_some}
use Rattle.sky_base.specs.KitView.{Gives}
use Rattle.sky_base.specs.Val.{Val, null}
use Rattle.sky_base.specs.declared.fault.FaultKind.{FaultKind}
use Rattle.sky_base_law.specs.Tasks.{Each}
use Rattle.line_kit.specs.Gives.{gives, with_executor}
use Rattle.line_kit.specs.Table.{executor_of}
use Rattle.line_kit.specs.declared.executor.Executor.{Executor}
use Rattle.line_kit.specs.declared.executor.Executor.TheVariants.{Cat, Grep, Words, Split, Deal, Sort, Tally, Count, Sum, Head, Half, Same}
use Rattle.ciel_memo_file.specs.Entries.{Entry, has_key, made_for}
use Rattle.ciel_memo_file.proofs.Keys.{has_exact}
use Rattle.ciel_memo.specs.Gives.{is_unknown, knows, unless_made}
use Rattle.ciel_memo.specs.Laws.{KnowsTable, NoneIsPlain, RightIsPlain, RightStays}
use Rattle.ciel_memo.specs.Right.{IsRight}

some_one : (a b : List (List ℕ)) → Some a ≡ Some b → a ≡ b
some_one a b h = cc

pub unless_same : (o : Option (List (List ℕ))) (b : Bool) (r : Result (List (List ℕ)) FaultKind)
    → ((made : List (List ℕ)) → o ≡ Some made → r ≡ Ok made) → unless_made o b r ≡ r
unless_same None b r h = refl
unless_same (Some made) true r h = sym (h made refl)
unless_same (Some made) false r h = refl

-- an entry that has the key is right for it
right_for : (g : Gives) (x : List ℕ) (args : Val (List ℕ)) (inputs : List (List ℕ)) (n : ℕ) (e : Entry) → IsRight g e
    → has_key x args inputs n e ≡ true → g x args inputs n ≡ Ok e.made
right_for g x args inputs n e r h =
    let p = has_exact x args inputs n e h in
    sym (λ i. g (p.executor_is i) (p.args_is i) (p.inputs_is i) (p.outputs_is i)) ∙ r

right_if : (g : Gives) (x : List ℕ) (args : Val (List ℕ)) (inputs : List (List ℕ)) (n : ℕ) (e : Entry) (es : List Entry) (b : Bool)
    → (b ≡ true → g x args inputs n ≡ Ok e.made)
    → ((made : List (List ℕ)) → made_for es x args inputs n ≡ Some made → g x args inputs n ≡ Ok made)
    → (made : List (List ℕ)) → if b then Some e.made else made_for es x args inputs n ≡ Some made → g x args inputs n ≡ Ok made
right_if g x args inputs n e es true r h made q = r refl ∙ ap Ok (some_one e.made made q)
right_if g x args inputs n e es false r h made q = h made q

made_right : (g : Gives) (es : List Entry) → Each (IsRight g) es → (x : List ℕ) (args : Val (List ℕ)) (inputs : List (List ℕ)) (n : ℕ)
    → (made : List (List ℕ)) → made_for es x args inputs n ≡ Some made → g x args inputs n ≡ Ok made
made_right g [] r x args inputs n made q = absurd cc
made_right g (e ∷ es) r x args inputs n made q =
    right_if g x args inputs n e es (has_key x args inputs n e) (right_for g x args inputs n e r.0) (made_right g es r.1 x args inputs n) made q

pub none_is_plain : NoneIsPlain
none_is_plain g = refl

pub right_is_plain : RightIsPlain
right_is_plain g es r =
    λ i x args inputs n. unless_same (made_for es x args inputs n) (knows g x) (g x args inputs n) (made_right g es r x args inputs n) i

pub right_stays : RightStays
right_stays g es new r h = subst (λ f. Each (IsRight f) new) (right_is_plain g es r) h

knows_if : (e : Option Executor) → not (is_unknown (with_executor e null [] 0)) ≡ is_some e
knows_if None = refl
knows_if (Some Cat) = refl
knows_if (Some Grep) = refl
knows_if (Some Words) = refl
knows_if (Some Split) = refl
knows_if (Some Deal) = refl
knows_if (Some Sort) = refl
knows_if (Some Tally) = refl
knows_if (Some Count) = refl
knows_if (Some Sum) = refl
knows_if (Some Head) = refl
knows_if (Some Half) = refl
knows_if (Some Same) = refl

pub knows_the_table : KnowsTable
unfolding gives
knows_the_table x = knows_if (executor_of x)
