-- The file of a run's log tells the run's journal: from its header alone, or from a log of the journal that the master had.
use Rattle.std.proofs.Common.{◌≡◌, ◌+◌, ◌⊎◌, length, ℕ, List, [], ◌∷◌, ◌++◌, take, IfSome, Bool, Option, Some, None, inl, inr, ap}
use Rattle.std.proofs.Common.{sym, ◌∙◌, refl, subst}
use Rattle.std.proofs.lemmas.List.{append_assoc, append-nil, length-append}
use Rattle.sky_base.specs.JobView.{job_view}
use Rattle.sky_base.specs.KitView.{Gives}
use Rattle.sky_base.specs.See as s
use Rattle.ciel_io.specs.HeldFiles.{bytes_at}
use Rattle.ciel_io.specs.Kept.{Files}
use Rattle.ciel_journal.specs.Entries.{Entry, journal_of}
use Rattle.ciel_journal.specs.Job.{IsPrefix, Job}
use Rattle.ciel_journal.specs.Journals.{DrivenJournal}
use Rattle.ciel_journal.specs.History.{Event, Plan, Standing, after, before_all}
use Rattle.ciel_journal.specs.Lawful.{LawfulFrom}
use Rattle.ciel_journal.specs.Turns.{DrivenFrom}
use Rattle.ciel_log.specs.Logging.{CrewLog, GoesOn}
use Rattle.ciel_log.specs.Logs.{FullAt, HasDropped, LogWritten, Logs, PartOfLog, Records, WrittenPart, over}
use Rattle.ciel_log.specs.declared.state.LogState.{LogState}
use Rattle.ciel_log_law.specs.Told.{LogContinued, LogContinues, LogTellsJournal}
use Rattle.ciel_log_law.proofs.Calls.{Grows, paths}
use Rattle.ciel_log_law.proofs.Joined.{full_joined, goes_on_from, piece_joined}
use Rattle.ciel_log_law.proofs.Pieces.{FullSo, IsDropped, Piece, Stops, all, cut, cut_dropped, dropped_behind, drops, prefix_behind, prefix_self}
use Rattle.ciel_log_law.proofs.Runs.{At, more, runs}
use Rattle.ciel_log_records.specs.Records.{dropped_record, in_file}
use Rattle.ciel_run_drive.specs.Seen.{MasterSeen}
use Rattle.ciel_run_drive.specs.Kept.{Kept}
use Rattle.ciel_run_drive.specs.Moved.{DoesAll}
use Rattle.ciel_run_drive.proofs.ShopLaws.{shop_is}
use Rattle.ciel_task_crew.specs.Calls.{Call}
use Rattle.ciel_task_order.specs.Performs.{the_shop}
use Rattle.ciel_task_order.specs.declared.order.Order.{Order}
use Rattle.ciel_task_order.specs.declared.shop.Shop.{Shop}

-- a driven history is lawful
driven_lawful : {E : Type 0} (job : Job E) (p : Plan) (v : Standing E) (h : List (Event E)) → DrivenFrom job p v h → LawfulFrom job p v h
driven_lawful job p v [] d = tt
driven_lawful job p v (e ∷ es) d = (d.0, driven_lawful job p (after job v e) es d.2)

-- ---- from a piece to the file

module _ (digest : List ℕ → List ℕ) (job : s.Job) (gives : Gives) (p : Plan) (header : List ℕ) (journal : List Entry)
    (d : DrivenJournal (the_shop digest job gives).job p journal) where
  log_of : (rest : List ℕ) → Records digest job gives [] d.0 rest → Logs digest job gives p header journal (in_file header ++ rest)
  log_of rest r = record { history = d.0; driven = d.1; entries = d.2; rest = rest; records = r; all = refl }

  begins_log : (bytes rest : List ℕ) → Records digest job gives [] d.0 rest → IsPrefix bytes rest
      → PartOfLog digest job gives p header journal (in_file header ++ bytes)
  begins_log bytes rest r x = (in_file header ++ rest, log_of rest r, prefix_behind (in_file header) bytes rest x)

  -- what is said of these bytes
  abbrev Tells : LogState → List ℕ → Type 0
  Tells state file =
      WrittenPart digest job gives p header journal (state ≡ LogState.Failed) file × (state ≡ LogState.Whole → Logs digest job gives p header journal file)

  piece_tells : (state : LogState) (bytes : List ℕ) → Piece digest job gives [] d.0 state bytes → (HasDropped (in_file header ++ bytes) → ⊥)
      → Tells state (in_file header ++ bytes)
  piece_tells state bytes (all x r) none = (inl (begins_log x x r (prefix_self x)), λ e. log_of x r)
  piece_tells state bytes (cut ne x rest r pre) none = (inl (begins_log x rest r pre), λ e. absurd (ne e))
  piece_tells state bytes (cut_dropped fails x rest r pre number count) none = (
    inr (
      fails,
      in_file header ++ x,
      number,
      count,
      begins_log x rest r pre,
      sym (append_assoc (in_file header) x (take count (in_file (dropped_record number)))),
    ),
    λ e. let bad : LogState.Failed ≡ LogState.Whole = sym fails ∙ e in cc,
  )
  piece_tells state bytes (drops x has) none = absurd (none (dropped_behind header x has))

  module _ (state : LogState) (more : List ℕ) (piece : Piece digest job gives [] d.0 state more)
      (full : FullSo digest job gives [] d.0 state (length (in_file header)) more) (none : HasDropped (in_file header ++ more) → ⊥) where
    fulls : (has : ℕ) → state ≡ LogState.Full has → FullAt digest job gives p header journal has (in_file header ++ more)
    fulls has e = pick (full has e)
      where
        -- a log that is full didn't fail
        whole_part : WrittenPart digest job gives p header journal (state ≡ LogState.Failed) (in_file header ++ more)
            → PartOfLog digest job gives p header journal (in_file header ++ more)
        whole_part (inl part) = part
        whole_part (inr failed) = let bad : LogState.Full has ≡ LogState.Failed = sym e ∙ failed.0 in absurd cc

        tells : (next : List ℕ) → ((rest : List ℕ) × Records digest job gives [] d.0 (more ++ (in_file next ++ rest)))
            ⊎ IsDropped digest job gives next
            → ((rest : List ℕ) × Logs digest job gives p header journal ((in_file header ++ more) ++ (in_file next ++ rest)))
            ⊎ IsDropped digest job gives next
        tells next (inl r) =
            inl (
              r.0,
              subst (Logs digest job gives p header journal) (sym (append_assoc (in_file header) more (in_file next ++ r.0)))
                  (log_of (more ++ (in_file next ++ r.0)) r.1),
            )
        tells next (inr n) = inr n

        pick : HasDropped more ⊎ ((has ≡ length (in_file header) + length more) × Stops digest job gives [] d.0 has more)
            → FullAt digest job gives p header journal has (in_file header ++ more)
        pick (inl h) = absurd (none (dropped_behind header more h))
        pick (inr (n, stops)) = (
          whole_part (piece_tells state more piece none).0,
          n ∙ sym (length-append (in_file header) more),
          stops.next,
          stops.over,
          tells stops.next stops.tells,
        )

module _ {K N R : Type 0} (gives : K → Gives) (digest : N → List ℕ → List ℕ) (goes : R → Call → R → Type 0) (shop : Shop K N) (unbroken : Bool)
    (m : MasterSeen N) (out : List (Option Order)) (draw : ℕ) (k : Kept gives digest shop unbroken m out draw)
    (a t : CrewLog R) (st : a.log.state ≡ LogState.Whole) (journal : List Entry) where
  abbrev Q : Type 0
  Q = Kept gives digest shop unbroken m out draw

  abbrev D : List ℕ → List ℕ
  D = digest shop.namer

  abbrev J : s.Job
  J = job_view shop.job

  abbrev G : Gives
  G = gives shop.kit

  module _ (d : DrivenJournal (the_shop D J G).job m.board.plan journal) (x : DoesAll gives digest shop Q (GoesOn goes) a m.board t journal) where
    path_same : t.log.path ≡ a.log.path
    path_same = paths goes a x.does.calls t x.does.went

    -- the events that the file tells already, and those that come
    module _ (header : List ℕ) (was : Files) (before : a.log.files ≡ Some was)
        (l : Logs D J G m.board.plan header m.board.journal (bytes_at was a.log.path)) where
      moves : (more : List Entry) × (x.board.journal ≡ m.board.journal ++ more)
      moves = more gives digest goes shop Q k.orderly k.bare k m.board x.does.calls x.board x.does.moved

      lawful : LawfulFrom (the_shop D J G).job m.board.plan (before_all (the_shop D J G).job) d.0
      lawful = driven_lawful (the_shop D J G).job m.board.plan (before_all (the_shop D J G).job) d.0 d.1

      split : (es : List (Event s.Desc)) × (d.0 ≡ l.history ++ es)
      split =
          goes_on_from (the_shop D J G).job (shop_is D J G k.orderly).laws m.board.plan m.board.plan l.history d.0 moves.0
          (driven_lawful (the_shop D J G).job m.board.plan (before_all (the_shop D J G).job) l.history l.driven) lawful
          (d.2 ∙ (x.journal ∙ (moves.1 ∙ ap (λ z. z ++ moves.0) (sym l.entries))))

      at : At gives digest goes shop Q k.orderly k.bare k l.history split.0 m.board x.board
      at =
          record {
            lawful = (m.board.plan, subst (LawfulFrom (the_shop D J G).job m.board.plan (before_all (the_shop D J G).job)) split.1 lawful);
            was = l.entries;
            ends = ap (journal_of (the_shop D J G).job) (sym split.1) ∙ (d.2 ∙ x.journal);
          }

      module _ (files : Files) (told : t.log.files ≡ Some files) (none : HasDropped (bytes_at files a.log.path) → ⊥) where
        grown : Grows D J G l.history split.0 a.log t.log files
        grown =
            runs gives digest goes shop Q k.orderly k.bare k l.history split.0 m.board x.does.calls x.board x.does.moved at a t
            x.does.went st files told

        same_was : grown.was ≡ was
        same_was = let e : Some grown.was ≡ Some was = sym grown.is ∙ before in cc

        file_is : bytes_at files a.log.path ≡ in_file header ++ (l.rest ++ grown.more)
        file_is =
            ap (bytes_at files) (sym path_same)
            ∙ (grown.grew ∙ (ap (λ z. z ++ grown.more) (ap (λ z. bytes_at z a.log.path) same_was ∙ l.all)
            ∙ append_assoc (in_file header) l.rest grown.more))

        piece : Piece D J G [] d.0 t.log.state (l.rest ++ grown.more)
        piece =
            subst (λ z. Piece D J G [] z t.log.state (l.rest ++ grown.more)) (sym split.1)
            (piece_joined D J G l.history split.0 l.rest l.records grown.piece)

        full : a.log.held ≡ length (bytes_at was a.log.path) → FullSo D J G [] d.0 t.log.state (length (in_file header)) (l.rest ++ grown.more)
        full held =
            subst (λ z. FullSo D J G [] z t.log.state (length (in_file header)) (l.rest ++ grown.more)) (sym split.1)
            (full_joined D J G l.history split.0 l.rest l.records t.log.state a.log.held (length (in_file header)) grown.more
            (held ∙ (ap length l.all ∙ length-append (in_file header) l.rest)) grown.full)

        none_there : HasDropped (in_file header ++ (l.rest ++ grown.more)) → ⊥
        none_there h = none (subst HasDropped (sym file_is) h)

        tells : WrittenPart D J G m.board.plan header journal (t.log.state ≡ LogState.Failed) (bytes_at files a.log.path)
            × (t.log.state ≡ LogState.Whole → Logs D J G m.board.plan header journal (bytes_at files a.log.path))
            × ((has : ℕ) → t.log.state ≡ LogState.Full has → a.log.held ≡ length (bytes_at was a.log.path)
            → FullAt D J G m.board.plan header journal has (bytes_at files a.log.path))
        tells =
            let got = piece_tells D J G m.board.plan header journal d t.log.state (l.rest ++ grown.more) piece none_there in (
              subst (WrittenPart D J G m.board.plan header journal (t.log.state ≡ LogState.Failed)) (sym file_is) got.0,
              λ e. subst (Logs D J G m.board.plan header journal) (sym file_is) (got.1 e),
              λ has e held. subst (FullAt D J G m.board.plan header journal has) (sym file_is)
                  (fulls D J G m.board.plan header journal d t.log.state (l.rest ++ grown.more) piece (full held) none_there has e),
            )

    continued : LogContinued D J G m.board.plan a.log.path a.log.held a.log.files t.log.files m.board.journal journal t.log.state
    continued header was before l = pick t.log.files refl
      where
        pick : (o : Option Files) → t.log.files ≡ o → IfSome o (λ files. (HasDropped (bytes_at files a.log.path) → ⊥)
            → WrittenPart D J G m.board.plan header journal (t.log.state ≡ LogState.Failed) (bytes_at files a.log.path)
            × (t.log.state ≡ LogState.Whole → Logs D J G m.board.plan header journal (bytes_at files a.log.path))
            × ((has : ℕ) → t.log.state ≡ LogState.Full has → a.log.held ≡ length (bytes_at was a.log.path)
            → FullAt D J G m.board.plan header journal has (bytes_at files a.log.path)))
        pick None e = tt
        pick (Some files) e = λ none. tells header was before l files e none

    -- the header alone is a log of no entries
    written : m.board.journal ≡ [] → LogWritten D J G m.board.plan a.log.path a.log.held a.log.files t.log.files journal t.log.state
    written empty header was before first = pick t.log.files (continued header was before alone)
      where
        alone : Logs D J G m.board.plan header m.board.journal (bytes_at was a.log.path)
        alone =
            record {
              history = [];
              driven = tt;
              entries = sym empty;
              rest = [];
              records = over;
              all = first ∙ sym (append-nil (in_file header));
            }

        pick : (o : Option Files) → IfSome o (λ files. (HasDropped (bytes_at files a.log.path) → ⊥)
            → WrittenPart D J G m.board.plan header journal (t.log.state ≡ LogState.Failed) (bytes_at files a.log.path)
            × (t.log.state ≡ LogState.Whole → Logs D J G m.board.plan header journal (bytes_at files a.log.path))
            × ((has : ℕ) → t.log.state ≡ LogState.Full has → a.log.held ≡ length (bytes_at was a.log.path)
            → FullAt D J G m.board.plan header journal has (bytes_at files a.log.path)))
            → IfSome o (λ files. (HasDropped (bytes_at files a.log.path) → ⊥)
            → WrittenPart D J G m.board.plan header journal (t.log.state ≡ LogState.Failed) (bytes_at files a.log.path)
            × (t.log.state ≡ LogState.Whole → Logs D J G m.board.plan header journal (bytes_at files a.log.path))
            × ((has : ℕ) → t.log.state ≡ LogState.Full has → a.log.held ≡ length (in_file header)
            → FullAt D J G m.board.plan header journal has (bytes_at files a.log.path)))
        pick None q = tt
        pick (Some files) q = λ none. let got = q none in (got.0, got.1, λ has e held. got.2 has e (held ∙ ap length (sym first)))

pub tells_journal : {K N R : Type 0} (gives : K → Gives) (digest : N → List ℕ → List ℕ) (goes : R → Call → R → Type 0)
    → LogTellsJournal gives digest goes
tells_journal gives digest goes shop unbroken m out draw k empty a t st journal d x =
    written gives digest goes shop unbroken m out draw k a t st journal d x empty

pub continues : {K N R : Type 0} (gives : K → Gives) (digest : N → List ℕ → List ℕ) (goes : R → Call → R → Type 0)
    → LogContinues gives digest goes
continues gives digest goes shop unbroken m out draw k a t st journal d x =
    continued gives digest goes shop unbroken m out draw k a t st journal d x
