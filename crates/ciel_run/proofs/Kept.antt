-- What is so of the kept files behind a run is so still, once the memo's file was written.
use Rattle.std.proofs.Common.{◌≡◌, ◌≢◌, ◌⊎◌, ◌≤◌, ◌<◌, ◌∙◌, ⊎_elim, inl, inr, ℕ, zero, suc, List, [], ◌∷◌, true, false, cond, Option, Some, None, length, take, refl, sym, ap, subst, arith, unwrap_or}
use Rattle.std.specs.Prelude.{IfSome}
use Rattle.std.specs.Str.{bytes_eq}
use Rattle.std.proofs.lemmas.List.{take_all}
use Rattle.std.proofs.lemmas.Slice.Eq.{bytes_eq-Decides}
use Rattle.sky_base.specs.KitView.{Gives}
use Rattle.ciel_io.specs.Faults.{HasRisen}
use Rattle.ciel_io.specs.HeldFiles.{bytes_at, content_at}
use Rattle.ciel_io.specs.Kept.{Changes, Files, with_file}
use Rattle.ciel_io.specs.Tells.{Tells, TellsPart}
use Rattle.ciel_io.proofs.Joined.{tells_more}
use Rattle.ciel_journal.specs.Entries.{Entry}
use Rattle.ciel_journal.proofs.Members.{bool_cases}
use Rattle.ciel_log.specs.Logs.{HasDropped}
use Rattle.ciel_run_load.specs.Line.{Input}
use Rattle.ciel_run_line.specs.Given.{memo_path}
use Rattle.ciel_run_line.specs.Keeping.{AsksOnly, BeginsLog, FillsLog, IsLog, OfLog}
use Rattle.ciel_run_line.specs.Runs.{log_path}
use Rattle.ciel_run_log.specs.declared.why.Why.{Why}
use Rattle.ciel_words.specs.declared.words.Words.{Words}
use Rattle.ciel_run.specs.Ending.{AsksKept, AsksLog, EndsJob, IfKeepFault, IfLogFull, LogSays, TellsParts}
use Rattle.ciel_run.proofs.Troubles.{asks_any, begins_so, of_file}

-- ---- the fact, of an end, by its case

pub if_keep_fault : (P Q : List ℕ → Type 0) (b : Why) → ((path : List ℕ) → b ≡ Why.KeepFault path → P path → Q path) → IfKeepFault b P → IfKeepFault b Q
if_keep_fault P Q Why.Done f p = tt
if_keep_fault P Q Why.Usage f p = tt
if_keep_fault P Q (Why.Syntax kind line col) f p = tt
if_keep_fault P Q (Why.Fault fault) f p = tt
if_keep_fault P Q (Why.Endless names) f p = tt
if_keep_fault P Q (Why.TooMany held given) f p = tt
if_keep_fault P Q Why.AllLost f p = tt
if_keep_fault P Q (Why.NameClash kept given) f p = tt
if_keep_fault P Q (Why.ReadFault path) f p = tt
if_keep_fault P Q Why.WriteFault f p = tt
if_keep_fault P Q Why.Memory f p = tt
if_keep_fault P Q (Why.TooLongInput path at) f p = tt
if_keep_fault P Q (Why.TooDeepPlain depth) f p = tt
if_keep_fault P Q (Why.KeepFault path) f p = f path refl p
if_keep_fault P Q (Why.BadLog path at) f p = tt
if_keep_fault P Q (Why.OtherJob path) f p = tt
if_keep_fault P Q (Why.LogFull path held) f p = tt
if_keep_fault P Q (Why.BadMemo path at) f p = tt

pub if_log_full : (P Q : List ℕ → ℕ → Type 0) (b : Why) → ((path : List ℕ) (held : ℕ) → b ≡ Why.LogFull path held → P path held → Q path held)
    → IfLogFull b P → IfLogFull b Q
if_log_full P Q Why.Done f p = tt
if_log_full P Q Why.Usage f p = tt
if_log_full P Q (Why.Syntax kind line col) f p = tt
if_log_full P Q (Why.Fault fault) f p = tt
if_log_full P Q (Why.Endless names) f p = tt
if_log_full P Q (Why.TooMany held given) f p = tt
if_log_full P Q Why.AllLost f p = tt
if_log_full P Q (Why.NameClash kept given) f p = tt
if_log_full P Q (Why.ReadFault path) f p = tt
if_log_full P Q Why.WriteFault f p = tt
if_log_full P Q Why.Memory f p = tt
if_log_full P Q (Why.TooLongInput path at) f p = tt
if_log_full P Q (Why.TooDeepPlain depth) f p = tt
if_log_full P Q (Why.KeepFault path) f p = tt
if_log_full P Q (Why.BadLog path at) f p = tt
if_log_full P Q (Why.OtherJob path) f p = tt
if_log_full P Q (Why.LogFull path held) f p = f path held refl p
if_log_full P Q (Why.BadMemo path at) f p = tt

pub done_job : (b : Why) → b ≡ Why.Done → EndsJob b
done_job b e = subst EndsJob (sym e) tt

-- ---- faults

less_or_same : (a c : ℕ) → a ≤ c → (a < c) ⊎ (a ≡ c)
less_or_same zero zero h = inr refl
less_or_same zero (suc c) h = inl (omega arith)
less_or_same (suc a) zero h = absurd (omega (arith, h))
less_or_same (suc a) (suc c) h =
    ⊎_elim (λ (l : a < c). inl (omega (arith, l))) (λ e. inr (ap suc e)) (less_or_same a c (omega (arith, h)))

-- a count that rose has risen still, as it doesn't fall
pub risen_still : (a b c : ℕ) → a ≤ b → b ≤ c → HasRisen a b → HasRisen a c
risen_still a b c h k (inl less) = inl (omega (arith, less, k))
risen_still a b c h k (inr e) = at (less_or_same a c (omega (arith, h, k)))
  where
    at : (a < c) ⊎ (a ≡ c) → HasRisen a c
    at (inl less) = inl less
    at (inr same) = inr (omega (arith, h, k, e, same))

-- ---- the paths asked

asks_only : (path : List ℕ) (before now : Option (List (List ℕ))) (why : Why) → why ≢ Why.Memory → AsksLog (Some path) why before now → AsksOnly path before now
asks_only path before now Why.Done n a = a
asks_only path before now Why.Usage n a = a
asks_only path before now (Why.Syntax kind line col) n a = a
asks_only path before now (Why.Fault fault) n a = a
asks_only path before now (Why.Endless names) n a = a
asks_only path before now (Why.TooMany held given) n a = a
asks_only path before now Why.AllLost n a = a
asks_only path before now (Why.NameClash kept given) n a = a
asks_only path before now (Why.ReadFault p) n a = a
asks_only path before now Why.WriteFault n a = a
asks_only path before now Why.Memory n a = absurd (n refl)
asks_only path before now (Why.TooLongInput p at) n a = a
asks_only path before now (Why.TooDeepPlain depth) n a = a
asks_only path before now (Why.KeepFault p) n a = a
asks_only path before now (Why.BadLog p at) n a = a
asks_only path before now (Why.OtherJob p) n a = a
asks_only path before now (Why.LogFull p held) n a = a
asks_only path before now (Why.BadMemo p at) n a = a

asks_log : (log : Option (List ℕ)) (a b : Why) (before now : Option (List (List ℕ))) → a ≢ Why.Memory → AsksLog log a before now → AsksLog log b before now
asks_log None a b before now n x = x
asks_log (Some path) a b before now n x = asks_any path before now b (asks_only path before now a n x)

-- the log's was asked, and then perhaps the memo's
pub asks_kept : (log memo : Option (List ℕ)) (a b : Why) (before mid now : Option (List (List ℕ))) → (b ≢ Why.Memory → a ≢ Why.Memory)
    → AsksLog log a before mid → (memo ≡ None → b ≡ a) → (memo ≡ None → now ≡ mid)
    → (b ≢ Why.Memory → (now ≡ mid) ⊎ IfSome memo (λ path. Tells mid now (path ∷ []))) → AsksKept log memo b before now
asks_kept log None a b before mid now n x e same t = subst (λ (y : Why × Option (List (List ℕ))). AsksLog log y.0 before y.1) (λ i. (sym (e refl) i, sym (same refl) i)) x
asks_kept log (Some path) a b before mid now n x e same t = λ m. at m (t m)
  where
    at : b ≢ Why.Memory → (now ≡ mid) ⊎ Tells mid now (path ∷ [])
        → AsksLog log b before now ⊎ ((between : Option (List (List ℕ))) × AsksLog log b before between × Tells between now (path ∷ []))
    at m (inl s) = inl (subst (λ (y : Option (List (List ℕ))). AsksLog log b before y) (sym s) (asks_log log a b before mid (n m) x))
    at m (inr s) = inr (mid, asks_log log a b before mid (n m) x, s)

-- ---- another file

differ : (p q : List ℕ) → (p ≡ q → ⊥) → bytes_eq p q ≡ false
differ p q n = pick (bool_cases (bytes_eq p q))
  where
    pick : (bytes_eq p q ≡ true) ⊎ (bytes_eq p q ≡ false) → bytes_eq p q ≡ false
    pick (inl t) = absurd (n ((bytes_eq-Decides p q).0 t))
    pick (inr f) = f

content_apart : (fs : Files) (path bytes q : List ℕ) → (path ≡ q → ⊥) → content_at (with_file fs path bytes) q ≡ content_at fs q
content_apart [] path bytes q n = ap (λ b. cond b (Some bytes) None) (differ path q n)
content_apart (f ∷ fs) path bytes q n = pick (bool_cases (bytes_eq f.0 path)) (content_apart fs path bytes q n)
  where
    pick : (bytes_eq f.0 path ≡ true) ⊎ (bytes_eq f.0 path ≡ false) → content_at (with_file fs path bytes) q ≡ content_at fs q
        → content_at (with_file (f ∷ fs) path bytes) q ≡ content_at (f ∷ fs) q
    pick (inl t) rest =
        let other : bytes_eq f.0 q ≡ false = differ f.0 q (λ e. n (sym ((bytes_eq-Decides f.0 path).0 t) ∙ e)) in
        ap (λ b. content_at (cond b ((f.0, bytes) ∷ fs) (f ∷ with_file fs path bytes)) q) t
        ∙ (ap (λ b. cond b (Some bytes) (content_at fs q)) other ∙ sym (ap (λ b. cond b (Some f.1) (content_at fs q)) other))
    pick (inr m) rest =
        ap (λ b. content_at (cond b ((f.0, bytes) ∷ fs) (f ∷ with_file fs path bytes)) q) m
        ∙ ap (λ o. cond (bytes_eq f.0 q) (Some f.1) o) rest

-- a fact of what stands at another path than the one at which something changed
pub stands_apart : (before now : Option Files) (path q : List ℕ) → (path ≡ q → ⊥) → Changes before now path (λ old bytes. Unit {0})
    → (P : List ℕ → Type 0) → IfSome before (λ fs. P (bytes_at fs q)) → IfSome now (λ fs. P (bytes_at fs q))
stands_apart before None path q n c P x = tt
stands_apart before (Some fs) path q n c P x =
    let was : P (bytes_at c.0 q) = subst (λ (o : Option Files). IfSome o (λ ks. P (bytes_at ks q))) c.1 x in
    subst P (sym (ap (λ ks. bytes_at ks q) c.2.2 ∙ ap (λ o. unwrap_or o []) (content_apart c.0 path c.2.0 q n))) was

-- what is so of what stands there is so by what follows of it
pub changes_as : (before now : Option Files) (path : List ℕ) (P Q : List ℕ → List ℕ → Type 0) → ((old bytes : List ℕ) → P old bytes → Q old bytes)
    → Changes before now path P → Changes before now path Q
changes_as before None path P Q f c = tt
changes_as before (Some fs) path P Q f c = (c.0, c.1, (c.2.0, f (bytes_at c.0 path) c.2.0 c.2.1, c.2.2))

-- ---- what the log's file tells

module _ (g : Gives) (w : Words) (source : List ℕ) (inputs : List Input) (J : List Entry) (before now : Option Files)
    (none : memo_path w ≡ None → now ≡ before)
    (kept : (now ≡ before) ⊎ IfSome (memo_path w) (λ path. Changes before now path (λ old bytes. Unit {0}))) where
  log_apart : ((path : List ℕ) → log_path w ≡ Some path → memo_path w ≡ Some path → ⊥) → (P : List ℕ → Type 0)
      → OfLog g w source inputs J before P → OfLog g w source inputs J now P
  log_apart apart P x path is = at (memo_path w) refl kept
    where
      Here : Option Files → Type 0
      Here files = IfSome files (λ fs. (HasDropped (bytes_at fs path) → ⊥) → P (bytes_at fs path))

      at : (o : Option (List ℕ)) → memo_path w ≡ o → (now ≡ before) ⊎ IfSome o (λ p. Changes before now p (λ old bytes. Unit {0})) → Here now
      at o e (inl s) = subst Here (sym s) (x path is)
      at None e (inr c) = subst Here (sym (none e)) (x path is)
      at (Some p) e (inr c) =
          stands_apart before now p path (λ same. apart path is (e ∙ ap (λ (z : List ℕ). Some z) same)) c
          (λ bytes. (HasDropped bytes → ⊥) → P bytes) (x path is)

  module _ (failed fails : Type 0) where
    begins_still : (failed → fails) → (files : Option Files) → OfLog g w source inputs J files (BeginsLog g w source inputs J failed)
        → OfLog g w source inputs J files (BeginsLog g w source inputs J fails)
    begins_still more files x = λ path is. of_file files path (BeginsLog g w source inputs J failed) (BeginsLog g w source inputs J fails)
        (λ bytes. begins_so g w source inputs J failed fails more bytes) (x path is)

    -- what an end tells of the log, it tells still
    pub says_still : (b : Why) → (EndsJob b → failed → fails) → ((EndsJob b → ⊥) → failed → fails) → ((EndsJob b → ⊥) → now ≡ before)
        → LogSays g w source inputs J failed before b → LogSays g w source inputs J fails now b
    says_still Why.Done more still same x = λ apart. log_apart apart (IsLog g w source inputs J) (x apart)
    says_still Why.Usage more still same x = tt
    says_still (Why.Syntax kind line col) more still same x = tt
    says_still (Why.Fault fault) more still same x = λ apart. begins_still (more tt) now (log_apart apart (BeginsLog g w source inputs J failed) (x apart))
    says_still (Why.Endless names) more still same x = begins_still (still (λ e. e)) now (subst (λ (o : Option Files). OfLog g w source inputs J o (BeginsLog g w source inputs J failed)) (sym (same (λ e. e))) x)
    says_still (Why.TooMany held given) more still same x = tt
    says_still Why.AllLost more still same x = begins_still (still (λ e. e)) now (subst (λ (o : Option Files). OfLog g w source inputs J o (BeginsLog g w source inputs J failed)) (sym (same (λ e. e))) x)
    says_still (Why.NameClash kept given) more still same x = tt
    says_still (Why.ReadFault path) more still same x = tt
    says_still Why.WriteFault more still same x = tt
    says_still Why.Memory more still same x = tt
    says_still (Why.TooLongInput path at) more still same x = tt
    says_still (Why.TooDeepPlain depth) more still same x = tt
    says_still (Why.KeepFault path) more still same x = tt
    says_still (Why.BadLog path at) more still same x = tt
    says_still (Why.OtherJob path) more still same x = tt
    says_still (Why.LogFull path held) more still same x = subst (λ (o : Option Files). OfLog g w source inputs J o (FillsLog g w source inputs J held)) (sym (same (λ e. e))) x
    says_still (Why.BadMemo path at) more still same x = tt

-- ---- what was put on the log

-- the message behind the journal's text
pub tells_behind : (before mid now : Option (List ℕ)) (text message : List ℕ) → Tells before mid text → TellsPart mid now message
    → TellsParts before now text message
tells_behind before mid now text message t p =
    let all : length text ≤ length text = omega arith in (
      length text,
      p.0,
      tells_more before mid now (take (length text) text) (take p.0 message) (subst (Tells before mid) (sym (take_all (length text) text all)) t) p.1,
    )
