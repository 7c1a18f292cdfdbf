-- What a call makes of a log, and what calls make of it after the first trouble.
use Rattle.std.proofs.Common.{◌≡◌, ◌<◌, ◌+◌, arith, length, ℕ, List, [], ◌∷◌, ◌++◌, take, Some, ◌⊎◌, inl, inr, refl, ap, sym, ◌∙◌, subst}
use Rattle.std.proofs.lemmas.List.{append_assoc, append-nil}
use Rattle.sky_base.specs.KitView.{Gives}
use Rattle.sky_base.specs.See as s
use Rattle.ciel_io.specs.HeldFiles.{bytes_at}
use Rattle.ciel_io.specs.Kept.{Appended, AppendedPart, Files}
use Rattle.ciel_journal.specs.History.{Event}
use Rattle.ciel_log.specs.Logging.{Adds, CrewLog, GoesOn, LogGoes, LogSeen, Tried, failed, full, most, put, short}
use Rattle.ciel_log.specs.Logs.{Records}
use Rattle.ciel_log.specs.declared.state.LogState.{LogState}
use Rattle.ciel_log_law.proofs.Files.{changed_at}
use Rattle.ciel_log_law.proofs.Pieces.{Fine, FullSo, IsDropped, Piece, full_put, put_none, put_part, put_whole}
use Rattle.ciel_log_records.specs.Records.{in_file}
use Rattle.ciel_task_crew.specs.Calls.{Call, Went, given, sent, ungiven, unsent}

-- ---- after the first trouble

-- as it was, whatever else is told
pub record Rests (a b : LogSeen) : Type 0 where
  pub path : b.path ≡ a.path
  pub files : b.files ≡ a.files
  pub state : b.state ≡ a.state

same_rests : (a b : LogSeen) → b ≡ a → Rests a b
same_rests a b e = record { path = ap (λ z. z.path) e; files = ap (λ z. z.files) e; state = ap (λ z. z.state) e }

adds_none : (Q : List ℕ → Type 0) (a b : LogSeen) → (a.state ≡ LogState.Whole → ⊥) → Adds Q a b → Rests a b
adds_none Q a b ne h = pick a.state refl h
  where
    pick : (st : LogState) → a.state ≡ st → Adds Q (record a { state = st }) b → Rests a b
    pick LogState.Whole e k = absurd (ne e)
    pick LogState.Failed e k = same_rests a b (k ∙ ap (λ z. record a { state = z }) (sym e))
    pick (LogState.Full held) e k = same_rests a b (k ∙ ap (λ z. record a { state = z }) (sym e))
    pick LogState.Memory e k = same_rests a b (k ∙ ap (λ z. record a { state = z }) (sym e))

call_rests : (a b : LogSeen) (x : Call) → (a.state ≡ LogState.Whole → ⊥) → LogGoes a x b → Rests a b
call_rests a b (sent o) ne h = adds_none _ a b ne h.0
call_rests a b (unsent o) ne h = adds_none _ a b ne h.0
call_rests a b (given r) ne h = adds_none _ a b ne h
call_rests a b ungiven ne h = same_rests a b h

module _ {R : Type 0} (goes : R → Call → R → Type 0) where
  pub all_rest : (a : CrewLog R) (xs : List Call) (b : CrewLog R) → (a.log.state ≡ LogState.Whole → ⊥) → Went (GoesOn goes) a xs b
      → Rests a.log b.log
  all_rest a [] b ne w = same_rests a.log b.log (ap (λ (z : CrewLog R). z.log) (sym w))
  all_rest a (x ∷ xs) b ne w =
      let one = call_rests a.log w.0.log x ne w.1.log in
      let more = all_rest w.0 xs b (λ e. ne (sym one.state ∙ e)) w.2 in
      record { path = more.path ∙ one.path; files = more.files ∙ one.files; state = more.state ∙ one.state }

  -- the path stays through all calls
  pub paths : (a : CrewLog R) (xs : List Call) (b : CrewLog R) → Went (GoesOn goes) a xs b → b.log.path ≡ a.log.path
  paths a [] b w = ap (λ (z : CrewLog R). z.log.path) (sym w)
  paths a (x ∷ xs) b w = paths w.0 xs b w.2 ∙ w.1.path

-- ---- before it

nothing_more : (a b : ℕ) → a ≡ b → b ≡ a + 0
nothing_more a b e = omega (arith, e)

module _ (digest : List ℕ → List ℕ) (job : s.Job) (gives : Gives) where
  -- from a log to one whose files are told: they were told before, and what stands at the path has such a piece more
  pub record Grows (past es : List (Event s.Desc)) (a t : LogSeen) (files : Files) : Type 0 where
    pub was : Files
    pub is : a.files ≡ Some was
    pub more : List ℕ
    pub grew : bytes_at files t.path ≡ bytes_at was a.path ++ more
    pub piece : Piece digest job gives past es t.state more
    pub full : FullSo digest job gives past es t.state a.held more

  pub none_grows : (past es : List (Event s.Desc)) (a t : LogSeen) → t.path ≡ a.path → t.files ≡ a.files → (files : Files) → t.files ≡ Some files
      → Piece digest job gives past es t.state [] → FullSo digest job gives past es t.state a.held [] → Grows past es a t files
  none_grows past es a t path same files e p has_room =
      record {
        was = files;
        is = sym same ∙ e;
        more = [];
        grew = ap (bytes_at files) path ∙ sym (append-nil (bytes_at files a.path));
        piece = p;
        full = has_room;
      }

  -- by a call that puts such a record, which is fine or dropped, and then by calls that go on so, or rest
  module _ (past es past2 es2 : List (Event s.Desc)) (Q : List ℕ → Type 0)
      (ok : (x : List ℕ) → Q x → Fine digest job gives past es past2 es2 x ⊎ IsDropped digest job gives x)
      (would2 : (rest : List ℕ) × Records digest job gives past2 es2 rest) (would : (rest : List ℕ) × Records digest job gives past es rest)
      (a b t : LogSeen) (path : b.path ≡ a.path) (files : Files) (told : t.files ≡ Some files)
      (on : b.state ≡ LogState.Whole → Grows past2 es2 b t files) (rests : (b.state ≡ LogState.Whole → ⊥) → Rests b t) where
    next_of : (x : List ℕ) → Fine digest job gives past es past2 es2 x ⊎ IsDropped digest job gives x
        → ((rest : List ℕ) × Records digest job gives past es (in_file x ++ rest)) ⊎ IsDropped digest job gives x
    next_of x (inl f) = inl (would2.0, f would2.0 would2.1)
    next_of x (inr d) = inr d

    tried : Tried Q a b → Grows past es a t files
    tried (put x q fits files_ asked faults held st) =
        let g = on st in
        let c = changed_at a.files b.files a.path (Appended (in_file x)) files_ g.was g.is in
        record {
          was = c.0;
          is = c.1;
          more = in_file x ++ g.more;
          grew =
              g.grew ∙ (ap (λ z. bytes_at g.was z ++ g.more) path
              ∙ (ap (λ z. z ++ g.more) c.2 ∙ append_assoc (bytes_at c.0 a.path) (in_file x) g.more));
          piece = put_whole digest job gives x (ok x q) g.piece;
          full = full_put digest job gives t.state g.more x (ok x q) a.held b.held held g.full;
        }
    tried (failed x q fits files_ asked never faults held st) =
        let ne : b.state ≡ LogState.Whole → ⊥ = λ e. let bad : LogState.Failed ≡ LogState.Whole = sym st ∙ e in cc in
        let r = rests ne in
        let c = changed_at a.files b.files a.path (AppendedPart (in_file x)) files_ files (sym r.files ∙ told) in
        record {
          was = c.0;
          is = c.1;
          more = take c.2.0 (in_file x);
          grew = ap (bytes_at files) (r.path ∙ path) ∙ c.2.1;
          piece = put_part digest job gives x (r.state ∙ st) would2.0 would2.1 would.0 would.1 (ok x q) c.2.0;
          full = λ has e. let bad : LogState.Failed ≡ LogState.Full has = sym st ∙ (sym r.state ∙ e) in cc;
        }
    tried (full x q over un st) =
        let next : ((rest : List ℕ) × Records digest job gives past es (in_file x ++ rest)) ⊎ IsDropped digest job gives x = next_of x (ok x q) in
        let ne : b.state ≡ LogState.Whole → ⊥ = λ e. let bad : LogState.Full a.held ≡ LogState.Whole = sym st ∙ e in cc in
        let r = rests ne in
        none_grows past es a t (r.path ∙ path) (r.files ∙ un.files) files told
        (put_none digest job gives (λ e. ne (sym r.state ∙ e)) would.0 would.1) (λ has e.
        let both : LogState.Full a.held ≡ LogState.Full has = sym st ∙ (sym r.state ∙ e) in
        let same : a.held ≡ has = cc in
        inr (nothing_more a.held has same, record { next = x; over = subst (λ z. most < z + length (in_file x)) same over; tells = next }))
    tried (short un st) =
        let ne : b.state ≡ LogState.Whole → ⊥ = λ e. let bad : LogState.Memory ≡ LogState.Whole = sym st ∙ e in cc in
        let r = rests ne in
        none_grows past es a t (r.path ∙ path) (r.files ∙ un.files) files told
        (put_none digest job gives (λ e. ne (sym r.state ∙ e)) would.0 would.1)
        (λ has e. let bad : LogState.Memory ≡ LogState.Full has = sym st ∙ (sym r.state ∙ e) in cc)

  module _ (past es past2 es2 : List (Event s.Desc)) (Q : List ℕ → Type 0)
      (ok : (x : List ℕ) → Q x → Fine digest job gives past es past2 es2 x ⊎ IsDropped digest job gives x)
      (would2 : (rest : List ℕ) × Records digest job gives past2 es2 rest) (would : (rest : List ℕ) × Records digest job gives past es rest)
      (a b t : LogSeen) (path : b.path ≡ a.path) (files : Files) (told : t.files ≡ Some files)
      (on : b.state ≡ LogState.Whole → Grows past2 es2 b t files) (rests : (b.state ≡ LogState.Whole → ⊥) → Rests b t) where
    -- beginning with a log that stands whole
    pub added : a.state ≡ LogState.Whole → Adds Q a b → Grows past es a t files
    added e h =
        let at : Tried Q (record a { state = LogState.Whole }) b = subst (λ z. Adds Q (record a { state = z }) b) e h in
        let g = tried past es past2 es2 Q ok would2 would (record a { state = LogState.Whole }) b t path files told on rests at in
        record { was = g.was; is = g.is; more = g.more; grew = g.grew; piece = g.piece; full = g.full }
