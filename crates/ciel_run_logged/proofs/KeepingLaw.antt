-- What the calls of a crew with a log make of the keeper, added up.
use Rattle.std.proofs.Common.{◌≡◌, ◌≢◌, ◌≤◌, ◌<◌, ◌+◌, ◌∙◌, ⊎_elim, inl, inr, ℕ, List, [], ◌∷◌, Option, Some, None, length}
use Rattle.std.proofs.Common.{refl, sym, ap, subst, arith, replicate}
use Rattle.std.proofs.lemmas.List.{length-append, replicate_more}
use Rattle.sky_base.specs.KitView.{Gives}
use Rattle.ciel_io.specs.Faults.{HasRisen}
use Rattle.ciel_io.specs.HeldFiles.{bytes_at}
use Rattle.ciel_io.specs.Kept.{Appended, AppendedPart, Changes, Files}
use Rattle.ciel_io.specs.Tells.{Tells}
use Rattle.ciel_io.proofs.Joined.{tells_more, tells_none}
use Rattle.ciel_journal.specs.Entries.{Entry}
use Rattle.ciel_log_law.specs.Logging.{Adds, AddsAt, CrewLog, GoesOn, LogGoes, LogSeen, Tried, Unasked, failed, full, most, put, short}
use Rattle.ciel_log_law.specs.LogState.{LogState}
use Rattle.ciel_log_law.proofs.Files.{changed_at}
use Rattle.ciel_log_records.specs.Records.{in_file}
use Rattle.ciel_log_law.specs.RunEnd.{RunEnd}
use Rattle.ciel_master_board.specs.Board.{Board}
use Rattle.ciel_run_logged.specs.Keeping.{AsksOnly, GrowsTo, KeeperSeen, Keeps, StandsSo, ToldBefore}
use Rattle.ciel_log_law.specs.Moved.{DoesAll, DoesAllButLast, Ends}
use Rattle.ciel_task_crew.specs.Calls.{Call, Went, given, sent, ungiven, unsent}
use Rattle.ciel_task_order.specs.Views.{P}
use Rattle.ciel_task_order.specs.declared.shop.Shop.{Shop}

abbrev pub keeper_of : LogSeen → KeeperSeen
keeper_of l = record { files = l.files; asked = l.asked; faults = l.faults }

-- how the log stands between two calls
abbrev pub Between : LogSeen → LogSeen → LogState → Type 0
Between a b LogState.Whole = (b.held ≤ most) × GrowsTo a.path a.held b.held a.files b.files
Between a b LogState.Failed = HasRisen a.faults b.faults
Between a b (LogState.Full n) = (n ≤ most) × GrowsTo a.path a.held n a.files b.files
Between a b LogState.Memory = Unit {0}

pub record SoFar (a b : LogSeen) : Type 0 where
  pub path : b.path ≡ a.path
  pub asked : AsksOnly a.path a.asked b.asked
  pub never_falls : a.faults ≤ b.faults
  pub told : ToldBefore a.files b.files
  pub stands : Between a b b.state

grows_none : (path : List ℕ) (held : ℕ) (o : Option Files) → GrowsTo path held held o o
grows_none path held None = tt
grows_none path held (Some files) = (files, refl, refl)

told_none : (o : Option Files) → ToldBefore o o
told_none None = tt
told_none (Some files) = (files, refl)

told_more : (x y z : Option Files) (path : List ℕ) (P : List ℕ → List ℕ → Type 0) → ToldBefore x y → Changes y z path P → ToldBefore x z
told_more x y None path P t c = tt
told_more x y (Some files) path P t c = subst (ToldBefore x) c.1 t

pub first : (a : LogSeen) → a.state ≡ LogState.Whole → a.held ≤ most → SoFar a a
first a e h = record {
  path = refl;
  asked = (0, tells_none a.asked);
  never_falls = omega arith;
  told = told_none a.files;
  stands = subst (Between a a) (sym e) (h, grows_none a.path a.held a.files);
}

asks_more : (path : List ℕ) (x y z : Option (List (List ℕ))) → AsksOnly path x y → Tells y z (path ∷ []) → AsksOnly path x z
asks_more path x y z a t = (a.0 + 1, subst (Tells x z) (replicate_more a.0 path) (tells_more x y z (replicate a.0 path) (path ∷ []) a.1 t))

grows_more : (path : List ℕ) (held n : ℕ) (piece : List ℕ) (x y z : Option Files) → GrowsTo path held n x y → Changes y z path (Appended piece)
    → GrowsTo path held (n + length piece) x z
grows_more path held n piece x y None g c = tt
grows_more path held n piece x y (Some files) g c =
    let d = changed_at y (Some files) path (Appended piece) c files refl in
    let e = subst (GrowsTo path held n x) d.1 g in
    let longer : length (bytes_at files path) ≡ length (bytes_at d.0 path) + length piece =
    ap length d.2 ∙ length-append (bytes_at d.0 path) piece in
    (e.0, e.1, omega (arith, longer, e.2))

risen_later : (a b c : ℕ) → a ≤ b → HasRisen b c → HasRisen a c
risen_later a b c h r = ⊎_elim (λ (less : b < c). inl (omega (arith, h, less))) (λ e. inr e) r

-- nothing was asked
same_stands : (a b c : LogSeen) (n : ℕ) → Unasked b c → GrowsTo a.path a.held n a.files b.files → GrowsTo a.path a.held n a.files c.files
same_stands a b c n u g = subst (GrowsTo a.path a.held n a.files) (sym u.files) g

tried : (Q : List ℕ → Type 0) (a b c : LogSeen) → SoFar a b → b.state ≡ LogState.Whole → c.path ≡ b.path → Tried Q b c → SoFar a c
tried Q a b c s e p (put bytes q fits changes tells rises held state) =
    let whole : Between a b LogState.Whole = subst (Between a b) e s.stands in
    let at : b.path ≡ a.path = s.path in
    record {
      path = p ∙ s.path;
      asked = asks_more a.path a.asked b.asked c.asked s.asked (subst (λ (q : List ℕ). Tells b.asked c.asked (q ∷ [])) at tells);
      never_falls = omega (arith, s.never_falls, rises);
      told = told_more a.files b.files c.files b.path (Appended (in_file bytes)) s.told changes;
      stands = subst (Between a c) (sym state) (
        omega (arith, held, fits),
        subst (λ (n : ℕ). GrowsTo a.path a.held n a.files c.files) (sym held)
            (grows_more a.path a.held b.held (in_file bytes) a.files b.files c.files whole.1
            (subst (λ (q : List ℕ). Changes b.files c.files q (Appended (in_file bytes))) at changes)),
      );
    }
tried Q a b c s e p (failed bytes q fits changes tells rises risen held state) = record {
  path = p ∙ s.path;
  asked = asks_more a.path a.asked b.asked c.asked s.asked (subst (λ (q : List ℕ). Tells b.asked c.asked (q ∷ [])) s.path tells);
  never_falls = omega (arith, s.never_falls, rises);
  told = told_more a.files b.files c.files b.path (AppendedPart (in_file bytes)) s.told changes;
  stands = subst (Between a c) (sym state) (risen_later a.faults b.faults c.faults s.never_falls risen);
}
tried Q a b c s e p (full bytes q over u state) =
    let whole : Between a b LogState.Whole = subst (Between a b) e s.stands in
    record {
      path = p ∙ s.path;
      asked = subst (AsksOnly a.path a.asked) (sym u.asked) s.asked;
      never_falls = omega (arith, s.never_falls, u.faults);
      told = subst (ToldBefore a.files) (sym u.files) s.told;
      stands = subst (Between a c) (sym state) (whole.0, same_stands a b c b.held u whole.1);
    }
tried Q a b c s e p (short u state) = record {
  path = p ∙ s.path;
  asked = subst (AsksOnly a.path a.asked) (sym u.asked) s.asked;
  never_falls = omega (arith, s.never_falls, u.faults);
  told = subst (ToldBefore a.files) (sym u.files) s.told;
  stands = subst (Between a c) (sym state) tt;
}

adds : (Q : List ℕ → Type 0) (a b c : LogSeen) → SoFar a b → c.path ≡ b.path → (state : LogState) → b.state ≡ state
    → Adds Q b c → SoFar a c
adds Q a b c s p LogState.Whole e g = tried Q a b c s e p (subst (λ (x : LogState). AddsAt x Q b c) e g)
adds Q a b c s p LogState.Failed e g = subst (SoFar a) (sym (subst (λ (x : LogState). AddsAt x Q b c) e g)) s
adds Q a b c s p (LogState.Full n) e g = subst (SoFar a) (sym (subst (λ (x : LogState). AddsAt x Q b c) e g)) s
adds Q a b c s p LogState.Memory e g = subst (SoFar a) (sym (subst (λ (x : LogState). AddsAt x Q b c) e g)) s

goes : (a b c : LogSeen) → SoFar a b → c.path ≡ b.path → (call : Call) → LogGoes b call c → SoFar a c
goes a b c s p (sent o) g = adds _ a b c s p b.state refl g.0
goes a b c s p (unsent o) g = adds _ a b c s p b.state refl g.0
goes a b c s p (given r) g = adds _ a b c s p b.state refl g
goes a b c s p ungiven g = subst (SoFar a) (sym g) s

module _ {R : Type 0} (inner : R → Call → R → Type 0) where
  pub goes_on : (a : LogSeen) (b : CrewLog R) (call : Call) (c : CrewLog R) → SoFar a b.log → GoesOn inner b call c → SoFar a c.log
  goes_on a b call c s g = goes a b.log c.log s g.path call g.log

  pub went : (a : LogSeen) (b : CrewLog R) (calls : List Call) (c : CrewLog R) → SoFar a b.log → Went (GoesOn inner) b calls c → SoFar a c.log
  went a b [] c s w = subst (λ (x : CrewLog R). SoFar a x.log) w s
  went a b (call ∷ calls) c s w = went a w.0 calls c (goes_on a b call w.0 s w.1) w.2

-- so the keeper is as it is told
stands_so : (a b : LogSeen) (state : LogState) → Between a b state → StandsSo a.path a.held (keeper_of a) (keeper_of b) state
stands_so a b LogState.Whole s = tt
stands_so a b LogState.Failed s = s
stands_so a b (LogState.Full n) s = s
stands_so a b LogState.Memory s = tt

pub keeps : (a b : LogSeen) → SoFar a b → Keeps a.path a.held (keeper_of a) (keeper_of b) b.state
keeps a b s = record {
  asked = s.asked;
  never_falls = s.never_falls;
  told = s.told;
  stands = stands_so a b b.state s.stands;
}

-- a keeper that tells the same
pub keeper_same : (l : LogSeen) (files : Option Files) (asked : Option (List (List ℕ))) (faults : ℕ) → files ≡ l.files → asked ≡ l.asked
    → faults ≡ l.faults → keeper_of l ≡ record { files = files; asked = asked; faults = faults }
keeper_same l files asked faults e f h =
    let e1 = sym e in
    let f1 = sym f in
    let h1 = sym h in
    λ i. record { files = e1 i; asked = f1 i; faults = h1 i }

-- so it stands, told from what was opened
pub keeps_so : (first v l : LogSeen) (now : KeeperSeen) (state : LogState) → first ≡ v → keeper_of l ≡ now → state ≡ l.state
    → Keeps first.path first.held (keeper_of first) (keeper_of l) l.state → Keeps v.path v.held (keeper_of v) now state
keeps_so first v l now state opened same stands k =
    let a : Keeps first.path first.held (keeper_of first) now l.state =
    subst (λ (n : KeeperSeen). Keeps first.path first.held (keeper_of first) n l.state) same k in
    let b : Keeps first.path first.held (keeper_of first) now state =
    subst (λ (s : LogState). Keeps first.path first.held (keeper_of first) now s) (sym stands) a in
    subst (λ (x : LogSeen). Keeps x.path x.held (keeper_of x) now state) opened b

-- of a run over a crew with a log, that came to its end
module _ {K N R : Type 0} (gives : K → Gives) (digest : N → List ℕ → List ℕ) (shop : Shop K N) (Q : Type 0) (inner : R → Call → R → Type 0) where
  all_so_far : (a : CrewLog R) (m : Board P) (b : CrewLog R) (J : List Entry) → SoFar a.log a.log → DoesAll gives digest shop Q (GoesOn inner) a m b J
      → SoFar a.log b.log
  all_so_far a m b J s d = went inner a.log a d.does.calls b s d.does.went

  last_so_far : (a : CrewLog R) (m : Board P) (b : CrewLog R) (J : List Entry) → SoFar a.log a.log
      → DoesAllButLast gives digest shop Q (GoesOn inner) a m b J → SoFar a.log b.log
  last_so_far a m b J s d =
      goes_on inner a.log d.last (given d.report) b (went inner a.log a d.does.calls d.last s d.does.went) d.came

  pub so_far : (a : CrewLog R) (m : Board P) (b : CrewLog R) (J : List Entry) (end : RunEnd) → a.log.state ≡ LogState.Whole → a.log.held ≤ most
      → Ends gives digest shop Q (GoesOn inner) a m b J end → end ≢ RunEnd.Memory → SoFar a.log b.log
  so_far a m b J (RunEnd.Answer text) e h d n = all_so_far a m b J (first a.log e h) d
  so_far a m b J (RunEnd.Fault fault) e h d n = all_so_far a m b J (first a.log e h) d
  so_far a m b J (RunEnd.Endless names) e h d n = all_so_far a m b J (first a.log e h) d
  so_far a m b J RunEnd.AllLost e h d n = all_so_far a m b J (first a.log e h) d
  so_far a m b J (RunEnd.TooMany held more) e h d n = last_so_far a m b J (first a.log e h) d
  so_far a m b J (RunEnd.NameClash kept other) e h d n = last_so_far a m b J (first a.log e h) d
  so_far a m b J RunEnd.Memory e h d n = absurd (n refl)
