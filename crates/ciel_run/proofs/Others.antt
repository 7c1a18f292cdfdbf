-- A log of another job is refused as such, where nothing outside fails.
use Rattle.std.proofs.Common.{◌≡◌, ◌⊎◌, ◌<◌, ◌≤◌, ◌∙◌, ℕ, List, [], inl, inr, length, Option, Some, None, Result, Ok, Err, ap, ap₂, refl, sym, subst, arith}
use Rattle.std.specs.Prelude.{IfSome}
use Rattle.ciel_run_load.specs.Found.{PassesIfTold}
use Rattle.ciel_run_load.specs.Line.{Input}
use Rattle.ciel_run_line.specs.Logging.{most}
use Rattle.ciel_run_line.specs.Causes.{NoJobBy, NoMemoEnds, NoneBefore, OtherEnds}
use Rattle.ciel_run_line.specs.Line.{FitsIn, StandsIn, files_of}
use Rattle.ciel_run_line.specs.Source.{IsSource}
use Rattle.ciel_run_log.specs.declared.why.Why.{Why}
use Rattle.ciel_words.specs.declared.words.Words.{Words}
use Rattle.ciel_run.proofs.Exact.{no_syntax, not_too_long}
use Rattle.ciel_memo_file.specs.File.{BadAt, most_of_a_file}
use Rattle.ciel_memo_file.specs.Laws.{NeverBoth, OnePlace}
use Rattle.ciel_run_line.specs.Given.{HasMemo}
use Rattle.ciel_run.proofs.Over.{memo_short, source_of, too_long_in}

-- the job's files and the log are told, and are within their limits, and the script is one
module _ (content : List ℕ → Option (List ℕ)) (w : Words) (risen : Type 0) (quiet : risen → ⊥) (path bytes : List ℕ) (named : w.resume ≡ Some path)
    (log : content path ≡ Some bytes) (short : length bytes ≤ most) (source : List ℕ) (inputs : List Input)
    (memo : HasMemo content w.memo) (both : NeverBoth) (there : StandsIn content (files_of w) w.generate source inputs) (fits : FitsIn (files_of w) source inputs) (is : IsSource source inputs) where
  same_path : (p : List ℕ) → w.resume ≡ Some p → path ≡ p
  same_path p e = let both : Some path ≡ Some p = sym named ∙ e in one both
    where
      one : Some path ≡ Some p → path ≡ p
      one both = cc

  not_over : (p : List ℕ) → w.resume ≡ Some p → PassesIfTold (content p) most → ⊥
  not_over p e passes =
      let here : PassesIfTold (content path) most = subst (λ (q : List ℕ). PassesIfTold (content q) most) (sym (same_path p e)) passes in
      let over : most < length bytes = subst (λ (o : Option (List ℕ)). IfSome o (λ file. most < length file)) log here in
      omega (arith, over, short)

  -- so there is a job to run, but for want of memory
  none_other : (why : Why) → NoJobBy content w risen [] why → why ≡ Why.Memory
  none_other (Why.Syntax kind l c) x =
      absurd (no_syntax source inputs kind l c is (x source (source_of content w (files_of w) w.generate source inputs there)).1)
  none_other (Why.ReadFault p) x = absurd (quiet x.1)
  none_other (Why.TooLongInput p at) (inl x) =
      absurd (not_too_long (files_of w) source inputs p at fits (too_long_in content w (files_of w) w.generate source inputs p at there x))
  none_other (Why.TooLongInput p at) (inr (inl x)) = absurd (memo_short content w p x.0 memo x.2)
  none_other (Why.TooLongInput p at) (inr (inr x)) = absurd (not_over p x.0 x.2)
  none_other (Why.BadMemo p at) x =
      let m = memo p x.0 in absurd (both m.0 m.1 at m.3 (x.1.0 m.0 m.2))
  none_other Why.Memory x = refl
  none_other Why.Done x = absurd x
  none_other Why.Usage x = absurd x
  none_other (Why.Fault fault) x = absurd x
  none_other (Why.Endless names) x = absurd x
  none_other (Why.TooMany held given) x = absurd x
  none_other Why.AllLost x = absurd x
  none_other (Why.NameClash kept given) x = absurd x
  none_other Why.WriteFault x = absurd x
  none_other (Why.TooDeepPlain depth) x = absurd x
  none_other (Why.KeepFault p) x = absurd x
  none_other (Why.BadLog p at) x = absurd x
  none_other (Why.OtherJob p) x = absurd x
  none_other (Why.LogFull p held) x = absurd x

  -- where the log is that of another job
  module _ (r : Result (List ℕ) Why) (ends : OtherEnds content w risen [] r path) where
    pub other_why : (why : Why) → r ≡ Err why → (why ≡ Why.OtherJob path) ⊎ (why ≡ Why.Memory)
    other_why why e = pick ends
      where
        same : (a b : Why) → r ≡ Err a → r ≡ Err b → a ≡ b
        same a b p q = let both = sym p ∙ q in cc

        pick : OtherEnds content w risen [] r path → (why ≡ Why.OtherJob path) ⊎ (why ≡ Why.Memory)
        pick (inl o) = inl (same why (Why.OtherJob path) e o)
        pick (inr o) = inr (none_other why (subst (NoJobBy content w risen []) (same o.0 why o.1 e) o.2))

    pub other_no_answer : (b : List ℕ) → r ≡ Ok b → ⊥
    other_no_answer b e = pick ends
      where
        clash : (why : Why) → r ≡ Err why → ⊥
        clash why q = let both = sym e ∙ q in cc

        pick : OtherEnds content w risen [] r path → ⊥
        pick (inl o) = clash (Why.OtherJob path) o
        pick (inr o) = clash o.0 o.1

-- ---- a memo's file that is none is refused as such

-- the job's files and the memo's are told, and are within their limits, the script is one, and the memo's has a bad entry
module _ (content : List ℕ → Option (List ℕ)) (w : Words) (risen : Type 0) (quiet : risen → ⊥) (path bytes : List ℕ) (at : ℕ)
    (named : w.memo ≡ Some path) (told : content path ≡ Some bytes) (short : length bytes ≤ most_of_a_file) (bad : BadAt bytes at) (place : OnePlace)
    (source : List ℕ) (inputs : List Input) (there : StandsIn content (files_of w) w.generate source inputs)
    (fits : FitsIn (files_of w) source inputs) (is : IsSource source inputs) where
  same_file : (p : List ℕ) → w.memo ≡ Some p → path ≡ p
  same_file p e = let both : Some path ≡ Some p = sym named ∙ e in one both
    where
      one : Some path ≡ Some p → path ≡ p
      one both = cc

  not_long : (p : List ℕ) → w.memo ≡ Some p → PassesIfTold (content p) most_of_a_file → ⊥
  not_long p e passes =
      let here : PassesIfTold (content path) most_of_a_file =
      subst (λ (q : List ℕ). PassesIfTold (content q) most_of_a_file) (sym (same_file p e)) passes in
      let over : most_of_a_file < length bytes = subst (λ (o : Option (List ℕ)). IfSome o (λ file. most_of_a_file < length file)) told here in
      omega (arith, over, short)

  none_bad : (why : Why) → NoneBefore content w risen [] why → (why ≡ Why.BadMemo path at) ⊎ (why ≡ Why.Memory)
  none_bad (Why.Syntax kind l c) x =
      absurd (no_syntax source inputs kind l c is (x source (source_of content w (files_of w) w.generate source inputs there)).1)
  none_bad (Why.ReadFault p) x = absurd (quiet x.1)
  none_bad (Why.TooLongInput p k) (inl x) =
      absurd (not_too_long (files_of w) source inputs p k fits (too_long_in content w (files_of w) w.generate source inputs p k there x))
  none_bad (Why.TooLongInput p k) (inr x) = absurd (not_long p x.0 x.2)
  none_bad (Why.BadMemo p k) x =
      let same = same_file p x.0 in
      let here : BadAt bytes k = x.1.0 bytes (ap content (sym same) ∙ told) in
      inl (ap₂ (λ q m. Why.BadMemo q m) (sym same) (place bytes k at here bad))
  none_bad Why.Memory x = inr refl
  none_bad Why.Done x = absurd x
  none_bad Why.Usage x = absurd x
  none_bad (Why.Fault fault) x = absurd x
  none_bad (Why.Endless names) x = absurd x
  none_bad (Why.TooMany held given) x = absurd x
  none_bad Why.AllLost x = absurd x
  none_bad (Why.NameClash kept given) x = absurd x
  none_bad Why.WriteFault x = absurd x
  none_bad (Why.TooDeepPlain depth) x = absurd x
  none_bad (Why.KeepFault p) x = absurd x
  none_bad (Why.BadLog p k) x = absurd x
  none_bad (Why.OtherJob p) x = absurd x
  none_bad (Why.LogFull p held) x = absurd x

  module _ (r : Result (List ℕ) Why) (ends : NoMemoEnds content w risen [] r) where
    pub bad_why : (why : Why) → r ≡ Err why → (why ≡ Why.BadMemo path at) ⊎ (why ≡ Why.Memory)
    bad_why why e = none_bad why (subst (NoneBefore content w risen []) (same ends.0 ends.1) ends.2)
      where
        same : (a : Why) → r ≡ Err a → a ≡ why
        same a p = let both = sym p ∙ e in cc

    pub bad_no_answer : (b : List ℕ) → r ≡ Ok b → ⊥
    bad_no_answer b e = clash ends.0 ends.1
      where
        clash : (why : Why) → r ≡ Err why → ⊥
        clash why q = let both = sym e ∙ q in cc
