-- Writing in pieces is writing at once, and closing outputs that have lines gives those lines.
use Rattle.std.proofs.Common.{◌≡◌, ℕ, ◌+◌, ◌<◌, ◌≤◌, Bool, true, false, ◌||◌, cond, List, [], ◌∷◌, ◌++◌, length, map, Option, Some, None, refl, sym}
use Rattle.std.proofs.Common.{ap, ap₂, ◌∙◌, arith, ⊎_elim, append_assoc, append-nil, length-append, Ok, Err, nat_lt}
use Rattle.std.proofs.lemmas.Bool.Decides.{nat_tests}
use Rattle.std.specs.List.{list_any}
use Rattle.sky_base.specs.declared.fault.FaultKind.TheVariants.{TooLarge}
use Rattle.std.proofs.lemmas.Grind.{flat_map-append}
use Rattle.line_kit.specs.Lines.{joined, ended}
use Rattle.line_kit.specs.Gives.{Answer, unless_large, with_lines, one}
use Rattle.line_kit.specs.Written.{capped, extended, finished, with_first, answered, closed}

pub extended-none : (piece : List ℕ) → extended None piece ≡ None
unfolding extended
extended-none piece = refl

pub extended-some : (bytes piece : List ℕ) → extended (Some bytes) piece ≡ capped (bytes ++ piece)
unfolding extended
extended-some bytes piece = refl

pub extended-start : (piece : List ℕ) → extended (Some []) piece ≡ capped piece
unfolding extended
extended-start piece = refl

pub capped-fits : (bytes : List ℕ) → length bytes ≤ 67108864 → capped bytes ≡ Some bytes
unfolding capped
capped-fits bytes h = grind (arith, nat_tests)

pub capped-over : (bytes : List ℕ) → 67108864 < length bytes → capped bytes ≡ None
unfolding capped
capped-over bytes h = grind (arith, nat_tests)

abbrev is_over : List ℕ → Bool
is_over bytes = nat_lt 67108864 (length bytes)

capped-if : (bytes : List ℕ) (b : Bool) → is_over bytes ≡ b → capped bytes ≡ cond b None (Some bytes)
unfolding capped
capped-if bytes b e = ap (λ c. cond c None (Some bytes)) e

longer : (bytes more : List ℕ) → is_over bytes ≡ true → is_over (bytes ++ more) ≡ true
longer bytes more e = grind (arith, nat_tests, length-append {A = ℕ})

extended-both : (x a b : List ℕ) (t : Bool) → is_over (x ++ a) ≡ t → extended (cond t None (Some (x ++ a))) b ≡ capped (x ++ (a ++ b))
extended-both x a b true e = extended-none b ∙ sym (ap capped (sym (append_assoc x a b)) ∙ capped-if ((x ++ a) ++ b) true (longer (x ++ a) b e))
extended-both x a b false e = extended-some (x ++ a) b ∙ ap capped (append_assoc x a b)

pub extended-extended : (o : Option (List ℕ)) (a b : List ℕ) → extended (extended o a) b ≡ extended o (a ++ b)
extended-extended None a b = ap (λ p. extended p b) (extended-none a) ∙ extended-none b ∙ sym (extended-none (a ++ b))
extended-extended (Some x) a b =
    ap (λ p. extended p b) (extended-some x a ∙ capped-if (x ++ a) (is_over (x ++ a)) refl)
    ∙ extended-both x a b (is_over (x ++ a)) refl ∙ sym (extended-some x (a ++ b))

-- ---- closing

unless_large-cons : (x : List ℕ) (xs : List (List ℕ)) (s t : Bool) → is_over x ≡ s → list_any is_over xs ≡ t
    → with_first (cond s None (Some x)) (cond t (Err TooLarge) (Ok xs)) ≡ cond (s || t) (Err TooLarge) (Ok (x ∷ xs))
unless_large-cons x xs true t e f = refl
unless_large-cons x xs false true e f = refl
unless_large-cons x xs false false e f = refl

with_first-unless_large : (x : List ℕ) (xs : List (List ℕ)) → with_first (capped x) (unless_large xs) ≡ unless_large (x ∷ xs)
with_first-unless_large x xs =
    ap (λ o. with_first o (unless_large xs)) (capped-if x (is_over x) refl) ∙ unless_large-cons x xs (is_over x) (list_any is_over xs) refl refl

pub answered-capped : (ls : List (List (List ℕ))) → answered (map (λ l. capped (joined l)) ls) ≡ with_lines ls
answered-capped [] = refl
answered-capped (l ∷ ls) = ap (with_first (capped (joined l))) (answered-capped ls) ∙ with_first-unless_large (joined l) (map joined ls)

pub closed_with : (outputs : List (Option (List ℕ))) (ls : List (List (List ℕ))) → map finished outputs ≡ map (λ l. capped (joined l)) ls
    → closed outputs ≡ with_lines ls
closed_with outputs ls e = ap answered e ∙ answered-capped ls

pub closed_one : (output : Option (List ℕ)) (ls : List (List ℕ)) → finished output ≡ capped (joined ls) → closed (output ∷ []) ≡ one ls
closed_one output ls e = closed_with (output ∷ []) (ls ∷ []) (ap (λ o. o ∷ []) e)

pub ruleset caps = (extended-none, extended-some, capped-fits, capped-over, length-append)

pub joined-append : (ls ms : List (List ℕ)) → joined (ls ++ ms) ≡ joined ls ++ joined ms
joined-append ls ms = flat_map-append ended ls ms

-- one line written
pub put_one : (output : Option (List ℕ)) (line : List ℕ) → output ≡ extended (Some []) (ended line) → finished output ≡ capped (joined (line ∷ []))
put_one output line e = ap finished e ∙ extended-extended (Some []) (ended line) [] ∙ extended-start (ended line ++ [])

-- more behind what was written with nothing behind it
pub further : (output before : Option (List ℕ)) (a b : List ℕ) → finished output ≡ extended before a → extended output b ≡ extended before (a ++ b)
further output before a b e = sym (extended-extended output [] b) ∙ ap (λ o. extended o b) e ∙ extended-extended before a b

pub ruleset pieces = (extended-start, extended-extended, append_assoc, joined-append)

-- ---- closing one after the other

-- the answer with these bytes in front
abbrev pub behind : List (List ℕ) → Answer → Answer
behind done (Ok more) = Ok (done ++ more)
behind done (Err kind) = Err kind

behind-first : (done : List (List ℕ)) (bytes : List ℕ) (answer : Answer) → behind done (with_first (Some bytes) answer)
    ≡ behind (done ++ bytes ∷ []) answer
behind-first done bytes (Ok more) = ap Ok (sym (append_assoc done (bytes ∷ []) more))
behind-first done bytes (Err kind) = refl

pub closed-over : (done : List (List ℕ)) (more : List (Option (List ℕ))) → behind done (closed (None ∷ more)) ≡ Err TooLarge
closed-over done more = ap (λ o. behind done (with_first o (closed more))) (extended-none [])

pub closed-more : (done : List (List ℕ)) (bytes : List ℕ) (more : List (Option (List ℕ))) → length bytes ≤ 67108864
    → behind done (closed (Some bytes ∷ more)) ≡ behind (done ++ bytes ∷ []) (closed more)
closed-more done bytes more h =
    let whole : finished (Some bytes) ≡ Some bytes = extended-some bytes [] ∙ ap capped (append-nil bytes) ∙ capped-fits bytes h in
    ap (λ o. behind done (with_first o (closed more))) whole ∙ behind-first done bytes (closed more)

pub behind-none : (done : List (List ℕ)) → behind done (closed []) ≡ Ok done
behind-none done = ap Ok (append-nil done)
