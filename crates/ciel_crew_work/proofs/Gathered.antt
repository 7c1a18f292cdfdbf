-- The gates that are gathered, one by one.
use Rattle.std.proofs.Common.{◌≡◌, ℕ, ◌+◌, ◌≤◌, List, [], ◌∷◌, ◌++◌, length, sym, refl, ap, ◌∙◌, subst, arith, append_assoc, length-append, Option}
use Rattle.std.proofs.Common.{Some, None}
use Rattle.std.specs.Prelude.{MatchOption, option_to_list}
use Rattle.std.proofs.lemmas.List.{append-nil}
use Rattle.ciel_crew_work.specs.Crewed.{gathered}
use Rattle.ciel_crew_work.specs.declared.performing.Done.{Done}
use Rattle.ciel_crew_work.specs.declared.performing.Tools.{Tools}

pub room_grows : {G : Type 0} (room room' : List G) (kept : Option G) (cap left : ℕ) → room' ≡ room ++ option_to_list kept
    → length room + (left + 1) ≤ cap → length room' + left ≤ cap
room_grows room room' None cap left e lt = let n = ap length e ∙ length-append room [] in omega arith
room_grows room room' (Some g) cap left e lt = let n = ap length e ∙ length-append room (g ∷ []) in omega arith

-- the first gate is kept, and what is gathered stays
pub keeps_first : {G : Type 0} (room room' : List G) (first : Option (Tools G)) (kept : Option G) (gs : List (Option (Tools G)))
    (outs outs' : List (ℕ × Done G)) (all : List G)
    → gathered (first ∷ gs) outs ≡ option_to_list kept ++ gathered gs outs' → room ++ gathered (first ∷ gs) outs ≡ all → room' ≡ room
    ++ option_to_list kept → room' ++ gathered gs outs' ≡ all
keeps_first room room' first kept gs outs outs' all one e r = ap (λ (l : List _). l ++ gathered gs outs') r
    ∙ (append_assoc room (option_to_list kept) (gathered gs outs') ∙ (ap (λ (l : List _). room ++ l) (sym one) ∙ e))

-- where there is none, the next output has it
pub next_one : {G : Type 0} (gs : List (Option (Tools G))) (outs outs' : List (ℕ × Done G)) (found : Option (ℕ × Done G)) (kept : Option G)
    → outs ≡ option_to_list found ++ outs' → (found ≡ None → outs' ≡ []) → MatchOption found (kept ≡ None) (λ d. kept ≡ Some d.1.tools.gate)
    → gathered (None ∷ gs) outs ≡ option_to_list kept ++ gathered gs outs'
next_one gs outs outs' None kept e empty m =
    rw m (let z : outs ≡ [] = e ∙ empty refl in ap (λ (os : List (ℕ × Done _)). gathered (None ∷ gs) os) z
    ∙ ap (λ (os : List (ℕ × Done _)). gathered gs os) (sym (empty refl)))
next_one gs outs outs' (Some d) kept e empty m = rw m (ap (λ (os : List (ℕ × Done _)). gathered (None ∷ gs) os) e)

pub some_one : {G : Type 0} (gs : List (Option (Tools G))) (outs outs' : List (ℕ × Done G)) (first : Option (Tools G)) (kept : Option G)
    (tools : Tools G) → first ≡ Some tools → kept ≡ Some tools.gate → outs' ≡ outs → gathered (first ∷ gs) outs ≡ option_to_list kept
    ++ gathered gs outs'
some_one {G} gs outs outs' first kept tools f k o =
    subst (λ (x : Option (Tools G) × (Option G × List (ℕ × Done G))). gathered (x.0 ∷ gs) outs ≡ option_to_list x.1.0 ++ gathered gs x.1.1)
    (λ i. (sym f i, (sym k i, sym o i))) refl

pub none_one : {G : Type 0} (gs : List (Option (Tools G))) (outs rest outs' : List (ℕ × Done G)) (first : Option (Tools G))
    (found : Option (ℕ × Done G)) (kept got : Option G)
    → first ≡ None → outs ≡ option_to_list found ++ rest → MatchOption found (got ≡ None) (λ d. got ≡ Some d.1.tools.gate) → kept ≡ got → outs'
    ≡ rest → (found ≡ None → rest ≡ [])
    → gathered (first ∷ gs) outs ≡ option_to_list kept ++ gathered gs outs'
none_one {G} gs outs rest outs' first found kept got f e m k o empty =
    subst (λ (x : Option (Tools G) × (Option G × List (ℕ × Done G))). gathered (x.0 ∷ gs) outs ≡ option_to_list x.1.0 ++ gathered gs x.1.1)
    (λ i. (sym f i, (sym k i, sym o i))) (next_one gs outs rest found got e empty m)

no_length : {X : Type 0} (xs : List X) → length xs ≡ 0 → xs ≡ []
no_length [] e = refl
no_length (x ∷ xs) e = absurd (omega arith)

pub none_left : {X : Type 0} (found : Option X) (P : Type 0) (n : ℕ) (rest : List X) (Q : X → Type 0) → n ≡ length rest
    → MatchOption found (P × (n ≡ 0)) Q → found ≡ None → rest ≡ []
none_left None P n rest Q e m f = no_length rest (sym e ∙ m.1)
none_left (Some x) P n rest Q e m f = absurd cc

-- where no worker is left, all gates are gathered
pub all_there : {G : Type 0} (gates : List G) (rest : List (Option (Tools G))) (outs : List (ℕ × Done G)) (all : List G) → gates
    ++ gathered rest outs ≡ all → length rest ≡ 0 → gates ≡ all
all_there gates rest outs all e none = sym (append-nil gates)
    ∙ (ap (λ (r : List (Option (Tools _))). gates ++ gathered r outs) (sym (no_length rest none)) ∙ e)
