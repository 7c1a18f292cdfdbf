-- Flags that are set one after another, and the idle workers that they leave.
use Rattle.std.proofs.Common.{◌≡◌, ◌≢◌, ◌<◌, ◌≤◌, ◌+◌, ℕ, List, [], ◌∷◌, Bool, true, false, ◌||◌, ◌&&◌, not, length, get_or, set, take, replicate, nat_eq}
use Rattle.std.proofs.Common.{◌∙◌, ap, sym, refl, arith, eq-eqb, eqb-true, ne_eqb, true≢false}
use Rattle.std.proofs.lemmas.List.{length-set, length-replicate, get_or-set_same, get_or-set_other, get_or-replicate, take_all}
use Rattle.std.proofs.lemmas.List.Folds.{list_any_more}
use Rattle.std.specs.List.{list_any}
use Rattle.ciel_journal.specs.Flags.{Sets}
use Rattle.ciel_journal.specs.Turns.{is_idle}

either : (a b : Bool) → ((a || false) || b) ≡ (a || b)
either true b = refl
either false b = refl

turned : (a b c : Bool) → (b || (a || c)) ≡ ((a || b) || c)
turned true true c = refl
turned true false c = refl
turned false b c = refl

pub sets_none : (flags : List Bool) → Sets [] flags flags
sets_none flags = record { long = refl; each = λ w l. refl }

pub sets_past : (flags : List Bool) (x : ℕ) → length flags ≤ x → Sets (x ∷ []) flags flags
sets_past flags x past = record { long = refl; each = λ w l. sym (ap (λ b. (b || false) || get_or flags w false) (differs w l)) }
  where
    differs : (w : ℕ) → w < length flags → nat_eq w x ≡ false
    differs w l = ne_eqb w x (λ e. omega (arith, e, l, past))

pub sets_one : (flags : List Bool) (x : ℕ) → x < length flags → Sets (x ∷ []) flags (set flags x true)
sets_one flags x within = record { long = length-set flags x true; each = λ w l. each w (nat_eq w x) refl }
  where
    each : (w : ℕ) (b : Bool) → nat_eq w x ≡ b → get_or (set flags x true) w false ≡ ((nat_eq w x || false) || get_or flags w false)
    each w true e =
        let same : w ≡ x = eqb-true w x e in
        ap (λ k. get_or (set flags x true) k false) same ∙ get_or-set_same flags x true false within ∙ sym (ap (λ b. (b || false) || get_or flags w false) e)
    each w false e =
        let other : w ≢ x = λ s. absurd (true≢false (sym (eq-eqb w x s) ∙ e)) in
        get_or-set_other flags x w true false other ∙ sym (ap (λ b. (b || false) || get_or flags w false) e)

or_no : (b : Bool) → (b || false) ≡ b
or_no true = refl
or_no false = refl

pub sets_next : (xs : List ℕ) (i : ℕ) (old now new : List Bool) → i < length xs → Sets (take i xs) old now
    → Sets (get_or xs i 0 ∷ []) now new → Sets (take (i + 1) xs) old new
sets_next xs i old now new l s t = record { long = t.long ∙ s.long; each = each }
  where
    each : (w : ℕ) → w < length old → get_or new w false ≡ (list_any (nat_eq w) (take (i + 1) xs) || get_or old w false)
    each w m =
        t.each w (omega (arith, s.long, m))
        ∙ ap (λ b. b || get_or now w false) (or_no (nat_eq w (get_or xs i 0)))
        ∙ ap (λ b. nat_eq w (get_or xs i 0) || b) (s.each w m)
        ∙ turned (list_any (nat_eq w) (take i xs)) (nat_eq w (get_or xs i 0)) (get_or old w false)
        ∙ sym (ap (λ b. b || get_or old w false) (list_any_more (nat_eq w) xs i 0 l))

pub sets_all : (xs : List ℕ) (n : ℕ) (old new : List Bool) → length xs ≤ n → Sets (take n xs) old new → Sets xs old new
sets_all xs n old new l s = record { long = s.long; each = λ w m. s.each w m ∙ ap (λ ys. list_any (nat_eq w) ys || get_or old w false) (take_all n xs l) }

-- what the flag of a worker says
module _ (gone busy : List ℕ) (n : ℕ) (lost now : List Bool) (s : Sets gone (replicate n false) lost) (t : Sets busy lost now) where
  pub flags_long : length now ≡ n
  flags_long = t.long ∙ s.long ∙ length-replicate n false

  pub flag_said : (w : ℕ) → w < n → get_or now w false ≡ not (is_idle gone busy w)
  flag_said w l =
      t.each w (omega (arith, s.long, length-replicate n false, l))
      ∙ ap (λ b. list_any (nat_eq w) busy || b) (s.each w (omega (arith, length-replicate n false, l))
      ∙ ap (λ b. list_any (nat_eq w) gone || b) (get_or-replicate n w false false l))
      ∙ neither (list_any (nat_eq w) gone) (list_any (nat_eq w) busy)
    where
      neither : (a b : Bool) → (b || (a || false)) ≡ not (not a && not b)
      neither true true = refl
      neither true false = refl
      neither false true = refl
      neither false false = refl
