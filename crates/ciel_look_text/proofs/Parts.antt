-- What a loss took, part by part.
use Rattle.std.proofs.Common.{◌≡◌, ℕ, zero, suc, List, [], ◌∷◌, ◌++◌, Bool, true, false, ◌&&◌, cond, length, map}
use Rattle.std.proofs.Common.{append-nil, append_assoc, codes, decimal, refl, ap, sym, ◌∙◌, subst}
use Rattle.std.proofs.lemmas.Simd.{map-map}
use Rattle.ciel_look_tasks.specs.Known.{Named}
use Rattle.ciel_look_tasks.specs.View.{run_number}
use Rattle.ciel_look_tasks.specs.declared.scene.Run.{Run}
use Rattle.ciel_look_text.specs.Runs.{number_said}
use Rattle.ciel_look_text.specs.Says.{Says, SaysSome, are_none}
use Rattle.ciel_look_text.specs.Text.{cut_part, objects_part, parts_said, stacks_part}
use Rattle.ciel_look_text.specs.Words.{counted, led, row}
use Rattle.ciel_look_text.proofs.Saying.{says_none, says_two}

and_true : (b : Bool) → b ≡ (b && true)
and_true true = refl
and_true false = refl

and_false : (b : Bool) → false ≡ (b && false)
and_false true = refl
and_false false = refl

led_append : (first more : List ℕ) (ps qs : List (List ℕ)) → led first more (ps ++ qs) ≡ led first more ps ++ led (cond (are_none ps) first more) more qs
led_append first more [] qs = refl
led_append first more (p ∷ []) qs = ap (λ z. first ++ z) (ap (λ z. z ++ led more more qs) (sym (append-nil p))) ∙ sym (append_assoc first (p ++ []) (led more more qs))
led_append first more (p ∷ q ∷ ps) qs =
    ap (λ z. first ++ (p ++ z)) (led_append more more (q ∷ ps) qs)
    ∙ ap (λ z. first ++ z) (sym (append_assoc p (led more more (q ∷ ps)) (led more more qs)))
    ∙ sym (append_assoc first (p ++ led more more (q ∷ ps)) (led more more qs))

-- ---- some that are put, each behind its lead

module _ (lead more : List ℕ) where
  pub some_none : (first : Bool) (old : List ℕ) → SaysSome lead more first old [] old first
  some_none first old = record { put = says_none old; empty = and_true first }

  pub some_one : (first : Bool) (old mid new x : List ℕ) → Says old (cond first lead more) mid → Says mid x new
      → SaysSome lead more first old (x ∷ []) new false
  some_one first old mid new x f g =
      record {
        put = says_two old mid new (cond first lead more) (x ++ []) f (subst (λ y. Says mid y new) (sym (append-nil x)) g);
        empty = and_false first;
      }

  pub some_two : (first a b : Bool) (o m n : List ℕ) (xs ys : List (List ℕ)) → SaysSome lead more first o xs m a → SaysSome lead more a m ys n b
      → SaysSome lead more first o (xs ++ ys) n b
  some_two first a b o m n [] ys f g =
      let same : a ≡ first = f.empty ∙ sym (and_true first) in
      record {
        put = subst (λ c. Says o (led (cond c lead more) more ys) n) same
            (says_two o m n [] (led (cond a lead more) more ys) f.put g.put);
        empty = g.empty ∙ ap (λ c. c && are_none ys) same;
      }
  some_two first a b o m n (x ∷ xs) ys f g =
      let no : a ≡ false = f.empty ∙ sym (and_false first) in
      let front : List ℕ = cond first lead more in
      record {
        put = subst (λ z. Says o z n) (sym (led_append front more (x ∷ xs) ys))
            (says_two o m n (led front more (x ∷ xs)) (led more more ys) f.put
            (subst (λ c. Says m (led (cond c lead more) more ys) n) no g.put));
        empty = g.empty ∙ ap (λ c. c && are_none ys) no ∙ and_false first;
      }

-- ---- what a loss took

pub objects_none : (known : List Named) (ns : List (List ℕ)) → length ns ≡ 0 → objects_part known ns ≡ []
objects_none known [] h = refl
objects_none known (n ∷ ns) h = absurd cc

pub objects_some : (known : List Named) (ns : List (List ℕ)) → (length ns ≡ 0 → ⊥) → objects_part known ns ≡ row known ns ∷ []
objects_some known [] h = absurd (h refl)
objects_some known (n ∷ ns) h = refl

pub stacks_none : (n : ℕ) → n ≡ 0 → stacks_part n ≡ []
stacks_none n e = ap stacks_part e

pub stacks_some : (n : ℕ) → (n ≡ 0 → ⊥) → stacks_part n ≡ counted n (codes " stack") (codes " stacks") ∷ []
stacks_some zero h = absurd (h refl)
stacks_some (suc n) h = refl

pub cut_none : (rs : List Run) → are_none (map number_said rs) ≡ true → cut_part (map run_number rs) ≡ []
cut_none [] h = refl
cut_none (r ∷ rs) h = absurd cc

pub cut_some : (rs : List Run) → are_none (map number_said rs) ≡ false
    → cut_part (map run_number rs) ≡ led (codes "start ") (codes ", start ") (map number_said rs) ∷ []
cut_some [] h = absurd cc
cut_some (r ∷ rs) h = ap (λ ns. led (codes "start ") (codes ", start ") (decimal r.number ∷ ns) ∷ []) (map-map decimal run_number rs)

-- nothing was put: that is said
pub said_none : (none : Bool) (o m n : List ℕ) (ps : List (List ℕ)) → SaysSome [] (codes "; ") true o ps m none → none ≡ true → Says m (codes "nothing") n
    → Says o (parts_said ps) n
said_none none o m n [] f e g = says_two o m n [] (codes "nothing") f.put g
said_none none o m n (p ∷ ps) f e g = absurd (let t : false ≡ true = sym f.empty ∙ e in cc)

pub said_parts : (none : Bool) (o m : List ℕ) (ps : List (List ℕ)) → SaysSome [] (codes "; ") true o ps m none → none ≡ false → Says o (parts_said ps) m
said_parts none o m [] f e = absurd (let t : true ≡ false = sym f.empty ∙ e in cc)
said_parts none o m (p ∷ ps) f e = f.put
