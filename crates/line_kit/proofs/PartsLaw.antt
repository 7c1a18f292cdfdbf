-- Lines dealt out one after the other, and outputs made one after the other.
use Rattle.std.proofs.Common.{◌≡◌, ◌≢◌, ℕ, ◌+◌, ◌%◌, ◌<◌, true, false, cond, List, [], ◌∷◌, map, length, get_or, set, ⊎_elim, subst, Option, None}
use Rattle.std.proofs.Common.{refl, sym, ap, ap₂, ◌∙◌, arith}
use Rattle.std.specs.Prelude.{◌==◌}
use Rattle.std.specs.List.{range_with_len}
use Rattle.std.proofs.Math.Nat.{add-mod_left, mod-eq_of_lt}
use Rattle.std.proofs.lemmas.Bool.{cases_Bool, true≢false, eqb-true, ne_eqb, eq-eqb}
use Rattle.std.proofs.lemmas.List.{get_or-map, get_or-set_same, get_or-set_other, length-map}
use Rattle.std.proofs.lemmas.List.FromFn.{fill_by_all}
use Rattle.std.proofs.lemmas.Simd.{map-map}
use Rattle.line_kit.specs.Lines.{joined, ended}
use Rattle.line_kit.specs.Parts.{every}
use Rattle.line_kit.specs.Written.{capped, extended, finished}
use Rattle.line_kit.proofs.WrittenLaw.{extended-extended}

-- after n lines it is the same output's turn
pub every-turn : (n i p : ℕ) (ls : List (List ℕ)) → every n i (n + p) ls ≡ every n i p ls
every-turn n i p [] = refl
every-turn n i p (l ∷ ls) =
    let next : (n + p) + 1 ≡ n + (p + 1) = omega arith in
    ap₂ (λ t more. cond (t == i) (l ∷ more) more) (add-mod_left n p) (ap (λ m. every n i m ls) next ∙ every-turn n i (p + 1) ls)

abbrev dealt_to : ℕ → ℕ → ℕ → List (List ℕ) → List ℕ
dealt_to n i p ls = joined (every n i p ls)

-- the output whose turn it is gets the line
pub deal_here : (n i : ℕ) (before after : Option (List ℕ)) (line : List ℕ) (more : List (List ℕ)) → i < n → after ≡ extended before (ended line)
    → extended after (dealt_to n i (i + 1) more) ≡ extended before (dealt_to n i i (line ∷ more))
deal_here n i before after line more h e =
    let turn : (i % n == i) ≡ true = eq-eqb (i % n) i (mod-eq_of_lt h) in
    ap (λ o. extended o (dealt_to n i (i + 1) more)) e ∙ extended-extended before (ended line) (dealt_to n i (i + 1) more)
    ∙ ap (λ b. extended before (joined (cond b (line ∷ every n i (i + 1) more) (every n i (i + 1) more)))) (sym turn)

-- another one stays as it is
pub deal_there : (n i turn : ℕ) (before after : Option (List ℕ)) (line : List ℕ) (more : List (List ℕ)) → turn < n → i ≢ turn → after ≡ before
    → extended after (dealt_to n i (turn + 1) more) ≡ extended before (dealt_to n i turn (line ∷ more))
deal_there n i turn before after line more h other e =
    let not_turn : (turn % n == i) ≡ false = ne_eqb (turn % n) i (λ same. other (sym same ∙ mod-eq_of_lt h)) in
    ap (λ o. extended o (dealt_to n i (turn + 1) more)) e
    ∙ ap (λ b. extended before (joined (cond b (line ∷ every n i (turn + 1) more) (every n i (turn + 1) more)))) (sym not_turn)

-- outputs that are finished, each with its lines
pub filled : (outputs : List (Option (List ℕ))) (f : ℕ → List (List ℕ)) (n : ℕ) → length outputs ≡ n
    → ((i : ℕ) → i < n → finished (get_or outputs i None) ≡ capped (joined (f i)))
    → map finished outputs ≡ map (λ l. capped (joined l)) (map f (range_with_len 0 n))
filled outputs f n count each =
    fill_by_all (λ i. capped (joined (f i))) (map finished outputs) n None (length-map outputs finished ∙ count)
    (λ i h. get_or-map finished outputs i None None (omega (arith, h, count)) ∙ each i h)
    ∙ sym (map-map (λ l. capped (joined l)) f (range_with_len 0 n))

-- all outputs after one line more
pub dealt_on : (n turn : ℕ) (all : List (Option (List ℕ))) (after : Option (List ℕ)) (line : List ℕ) (more : List (List ℕ))
    (whole : ℕ → Option (List ℕ)) → length all ≡ n → turn < n
    → after ≡ extended (get_or all turn None) (ended line)
    → ((i : ℕ) → i < n → extended (get_or all i None) (joined (every n i turn (line ∷ more))) ≡ whole i)
    → (i : ℕ) → i < n → extended (get_or (set all turn after) i None) (joined (every n i (turn + 1) more)) ≡ whole i
dealt_on n turn all after line more whole count h e each i l =
    let at : extended (get_or (set all turn after) turn None) (dealt_to n turn (turn + 1) more) ≡ whole turn =
    ap (λ o. extended o (dealt_to n turn (turn + 1) more)) (get_or-set_same all turn after None (omega (arith, h, count)))
    ∙ deal_here n turn (get_or all turn None) after line more h e ∙ each turn h in
    ⊎_elim
    (λ same. subst (λ (j : ℕ). extended (get_or (set all turn after) j None) (dealt_to n j (turn + 1) more) ≡ whole j)
    (sym (eqb-true i turn same)) at)
    (λ no.
    let apart : i ≢ turn = λ same. true≢false (sym (eq-eqb i turn same) ∙ no) in
    deal_there n i turn (get_or all i None) (get_or (set all turn after) i None) line more h apart (get_or-set_other all turn i after None apart)
    ∙ each i l)
    (cases_Bool (i == turn))
