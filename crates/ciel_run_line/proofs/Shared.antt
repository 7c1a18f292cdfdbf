-- On what the workers of a line work.
use Rattle.std.proofs.Common.{◌≡◌, ◌≤◌, ℕ, Bool, true, false, is_some, Option, Some, None, List, refl, subst, sym, ap, ◌∙◌}
use Rattle.std.specs.Prelude.{IfSome}
use Rattle.sky_base.specs.KitView.{Gives}
use Rattle.line_kit.specs.Gives.{gives}
use Rattle.ciel_run_logged.specs.Kinds.{IsOverLines}
use Rattle.ciel_words.specs.Sound.{LineIsSound}
use Rattle.ciel_words.specs.declared.words.Words.{Words}
use Rattle.ciel_run_line.specs.Given.{memo_at, memo_path}

-- the threads that they share are few
pub few_threads : (w : Words) → LineIsSound w → IfSome w.steal (λ threads. threads ≤ 64)
few_threads w s = at w.steal refl
  where
    at : (o : Option ℕ) → w.steal ≡ o → IfSome o (λ threads. threads ≤ 64)
    at None e = tt
    at (Some t) e = (s.shared t e).3

-- without streams they fit whatever is given, with streams what the executors over lines give
pub are_for : {H : Type 0} (IsFor : Gives → H → Type 0) (kit : Gives) (stream : Bool) (hands : H) → (stream ≡ true → IsOverLines kit)
    → IsFor gives hands → (stream ≡ false → (k : Gives) → IsFor k hands) → IsFor kit hands
are_for IsFor kit true hands lines fits every = subst (λ (k : Gives). IsFor k hands) (sym (lines refl)) fits
are_for IsFor kit false hands lines fits every = every refl kit

-- a line with streams has no memo
pub streams_alone : (w : Words) → LineIsSound w → w.stream ≡ true → is_some (memo_path w) ≡ false
streams_alone w s e = at w.memo_new w.memo refl refl
  where
    clash : w.stream ≡ false → ⊥
    clash n = let bad : true ≡ false = sym e ∙ n in cc

    at : (n m : Option (List ℕ)) → w.memo_new ≡ n → w.memo ≡ m → is_some (memo_at n m) ≡ false
    at None None f h = refl
    at None (Some path) f h = absurd (clash (s.recalled path h).1)
    at (Some path) m f h = absurd (clash (s.remembered path f).1)

-- so it recalls none
pub recalled_alone : {A : Type 0} (w : Words) → LineIsSound w → (o : Option A) (x : A) → o ≡ Some x → is_some o ≡ is_some (memo_path w)
    → w.stream ≡ true → ⊥
recalled_alone w s o x is m e = let bad : true ≡ false = sym (ap is_some is) ∙ (m ∙ streams_alone w s e) in cc
