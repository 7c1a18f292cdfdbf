-- From how a run ended to how its call ends, once its memo was written.
use Rattle.std.proofs.Common.{◌≡◌, ◌≢◌, ◌⊎◌, ◌++◌, inl, inr, ℕ, List, [], true, false, Option, Some, None, refl, sym, ap, subst, ◌∙◌}
use Rattle.std.specs.Prelude.{IfSome, is_some}
use Rattle.std.proofs.lemmas.List.{append-nil}
use Rattle.ciel_io.specs.HeldFiles.{bytes_at}
use Rattle.ciel_io.specs.Kept.{Changes, Files}
use Rattle.ciel_io.specs.Tells.{Tells, TellsPart}
use Rattle.ciel_journal.specs.Entries.{Entry}
use Rattle.ciel_log_law.proofs.Files.{changed_at}
use Rattle.ciel_memo.specs.Seen.{MemoSeen}
use Rattle.ciel_memo_file.specs.Entries.{Entry as Held}
use Rattle.ciel_memo_file.specs.Laws.{OneList}
use Rattle.ciel_run_line.specs.Causes.{OfRun}
use Rattle.ciel_run_line.specs.Given.{BeginsWith, HoldsAt, memo_at, memo_path}
use Rattle.ciel_run_log.specs.declared.why.Why.{Why}
use Rattle.ciel_words.specs.Sound.{LineIsSound}
use Rattle.ciel_words.specs.declared.words.Words.{Words}
use Rattle.ciel_run.specs.Ending.{EndCause, EndsJob, IsMemoWith, KeepsMemo, Remembers, Writes}

-- what is so of the end of the run is so of the call's, where it is so of the ends that a memo makes of an answer
pub remembered : (memo : Option (List ℕ)) (b n : Why) (P : Why → Type 0) → Remembers memo b n → P b
    → ((path : List ℕ) → memo ≡ Some path → b ≡ Why.Done → P (Why.KeepFault path))
    → ((path : List ℕ) → memo ≡ Some path → b ≡ Why.Done → P Why.Memory) → P n
remembered memo b n P (inl e) p f m = subst P (sym e) p
remembered memo b n P (inr (path, is, done, inl k)) p f m = subst P (sym k) (f path is done)
remembered memo b n P (inr (path, is, done, inr k)) p f m = subst P (sym k) (m path is done)

-- an end that isn't one of these two was the run's
pub was_so : (memo : Option (List ℕ)) (b n : Why) → Remembers memo b n → (n ≢ Why.Memory) → ((path : List ℕ) → n ≢ Why.KeepFault path) → b ≡ n
was_so memo b n (inl e) m k = sym e
was_so memo b n (inr (path, is, done, inl e)) m k = absurd (k path e)
was_so memo b n (inr (path, is, done, inr e)) m k = absurd (m e)

-- a line with a memo isn't one of a sequential run
pub memo_plain : (w : Words) → LineIsSound w → (path : List ℕ) → memo_path w ≡ Some path → w.plain ≡ false
memo_plain w s path e = at w.memo_new w.memo refl refl e
  where
    at : (new memo : Option (List ℕ)) → w.memo_new ≡ new → w.memo ≡ memo → memo_at new memo ≡ Some path → w.plain ≡ false
    at (Some p) memo f g h = (s.remembered p f).0
    at None memo f g h = (s.recalled path (g ∙ h)).0

-- the cause of an end that the memo made of an answer
pub memo_cause : (content : List ℕ → Option (List ℕ)) (w : Words) (risen : Type 0) (J : List Entry) → LineIsSound w → (P : List ℕ → Type 0)
    → Writes content w P → (path : List ℕ) → memo_path w ≡ Some path → EndCause content w risen J (Why.KeepFault path)
memo_cause content w risen J s P x path is =
    (memo_plain w s path is, inr is, λ h given source inputs st. let y = x.1 h given source inputs st in (y.0, (y.1.0, y.1.1, tt)))

-- the entries that are held are those of the file, where it is told
same_held : (one : OneList) (content : List ℕ → Option (List ℕ)) (memo : Option (List ℕ)) (es held : List Held) → HoldsAt content memo es
    → BeginsWith content memo held → held ≡ es
same_held one content None es held h b = b ∙ sym h
same_held one content (Some path) es held h b = one h.0 held es (b h.0 h.1) h.2

-- where it is told, the file that was written is the memo's
pub memo_says : (one : OneList) (content : List ℕ → Option (List ℕ)) (w : Words) (held : List Held) (before now : Option Files) (path : List ℕ)
    → BeginsWith content w.memo held → Changes before now path (λ old bytes. IsMemoWith held bytes) → (es : List Held)
    → HoldsAt content w.memo es → KeepsMemo now path es
memo_says one content w held before None path b c es h = tt
memo_says one content w held before (Some fs) path b c es h =
    subst (λ (xs : List Held). IsMemoWith xs (bytes_at fs path)) (same_held one content w.memo es held h b)
    (changed_at before (Some fs) path (λ old bytes. IsMemoWith held bytes) c fs refl).2

-- an answer is none of these ends
pub not_done : (b : Why) (path : List ℕ) → b ≡ Why.Done → (b ≡ Why.OtherJob path) ⊎ (b ≡ Why.Memory) → ⊥
not_done b path d (inl e) = let bad : Why.Done ≡ Why.OtherJob path = sym d ∙ e in cc
not_done b path d (inr e) = let bad : Why.Done ≡ Why.Memory = sym d ∙ e in cc

pub not_bad_done : (b : Why) (path : List ℕ) (at : ℕ) → b ≡ Why.Done → (b ≡ Why.BadMemo path at) ⊎ (b ≡ Why.Memory) → ⊥
not_bad_done b path at d (inl e) = let bad : Why.Done ≡ Why.BadMemo path at = sym d ∙ e in cc
not_bad_done b path at d (inr e) = let bad : Why.Done ≡ Why.Memory = sym d ∙ e in cc

-- a call that ends well ended so before its memo was written
pub was_job : (memo : Option (List ℕ)) (b n : Why) → Remembers memo b n → n ≡ Why.Done → EndsJob b
was_job memo b n (inl e) d = subst EndsJob (sym d ∙ e) tt
was_job memo b n (inr (path, is, done, k)) d = subst EndsJob (sym done) tt

-- the kit that there is has written the file at the line's path
pub memo_kept : {K : Type 0} (one : OneList) (content : List ℕ → Option (List ℕ)) (w : Words) (before now : Option Files) (kit : Option (MemoSeen K))
    (path : List ℕ) → memo_path w ≡ Some path → IfSome kit (λ m. BeginsWith content w.memo m.entries) → is_some kit ≡ is_some (memo_path w)
    → IfSome kit (λ m. IfSome (memo_path w) (λ p. Changes before now p (λ old bytes. IsMemoWith m.entries bytes))) → (es : List Held)
    → HoldsAt content w.memo es → KeepsMemo now path es
memo_kept one content w before now None path is b some c es h = absurd (let bad : false ≡ true = some ∙ ap is_some is in cc)
memo_kept {K} one content w before now (Some m) path is b some c es h =
    memo_says one content w m.entries before now path b
    (subst (λ (o : Option (List ℕ)). IfSome o (λ p. Changes before now p (λ old bytes. IsMemoWith m.entries bytes))) is c) es h

-- ---- which end it was

pub was_done : (memo : Option (List ℕ)) (b n : Why) → Remembers memo b n → n ≡ Why.Done → b ≡ Why.Done
was_done memo b n (inl e) d = sym e ∙ d
was_done memo b n (inr (path, is, done, k)) d = done

pub was_some : (memo : Option (List ℕ)) (b n : Why) → Remembers memo b n → n ≢ Why.Memory → b ≢ Why.Memory
was_some memo b n (inl e) s = λ m. s (e ∙ m)
was_some memo b n (inr (path, is, done, k)) s = λ m. let bad : Why.Done ≡ Why.Memory = sym done ∙ m in cc

pub none_same : (memo : Option (List ℕ)) (b n : Why) → Remembers memo b n → memo ≡ None → n ≡ b
none_same memo b n (inl e) o = e
none_same memo b n (inr (path, is, done, k)) o = let bad : None ≡ Some path = sym o ∙ is in absurd cc

-- ---- at the path of the line's memo

pub remembers_at : (memo : Option (List ℕ)) (path : List ℕ) (b n : Why) → memo ≡ Some path
    → (n ≡ b) ⊎ ((b ≡ Why.Done) × ((n ≡ Why.KeepFault path) ⊎ (n ≡ Why.Memory))) → Remembers memo b n
remembers_at memo path b n is (inl e) = inl e
remembers_at memo path b n is (inr x) = inr (path, is, x.0, x.1)

pub at_path : (memo : Option (List ℕ)) (path : List ℕ) (P : List ℕ → Type 0) → memo ≡ Some path → P path → IfSome memo P
at_path memo path P is p = subst (λ (o : Option (List ℕ)). IfSome o P) (sym is) p

pub both_at : {A : Type 0} (o : Option A) (x : A) (memo : Option (List ℕ)) (path : List ℕ) (P : A → List ℕ → Type 0) → o ≡ Some x → memo ≡ Some path
    → P x path → IfSome o (λ k. IfSome memo (λ p. P k p))
both_at {A} o x memo path P e is p = subst (λ (y : Option A). IfSome y (λ k. IfSome memo (λ q. P k q))) (sym e) (at_path memo path (P x) is p)

pub none_there : {A : Type 0} (o : Option A) (P : A → Type 0) → o ≡ None → IfSome o P
none_there {A} o P e = subst (λ (y : Option A). IfSome y P) (sym e) tt

pub each_without : {A : Type 0} (o : Option A) (memo : Option (List ℕ)) (P : A → List ℕ → Type 0) → memo ≡ None → IfSome o (λ k. IfSome memo (λ p. P k p))
each_without None memo P e = tt
each_without (Some x) memo P e = none_there memo (P x) e
