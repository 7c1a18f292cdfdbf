-- A file that begins a log of a journal: what it tells is the journal's own.
use Rattle.std.proofs.Common.{◌≡◌, ◌≤◌, ◌<◌, ◌+◌, ◌^◌, ◌⊎◌, inl, inr, ℕ, List, [], ◌∷◌, ◌++◌, length, map, drop, flat_map}
use Rattle.std.proofs.Common.{refl, ap, sym, ◌∙◌, subst, arith, append_assoc, append-nil, length-append}
use Rattle.sky_base.specs.KitView.{Gives}
use Rattle.sky_base.specs.See as s
use Rattle.sky_frozen_bytes.specs.Codes.{Fits32, NoneAs}
use Rattle.ciel_journal.specs.Entries.{Entry, journal_of, low}
use Rattle.ciel_journal.specs.History.{Event, Plan, before_all, standing}
use Rattle.ciel_journal.specs.Job.{Each, Job}
use Rattle.ciel_journal.specs.Turns.{Driven}
use Rattle.ciel_journal.proofs.Append.{driven_split}
use Rattle.ciel_log.specs.Logs.{AllFit, Logs}
use Rattle.ciel_log_records.specs.Records.{in_file}
use Rattle.ciel_log_read.specs.File.{NoRecordAt}
use Rattle.ciel_log_read.specs.Recorded.{FitsBlock, Recorded, record_bytes}
use Rattle.ciel_log_read.proofs.Pieces.{blocks_free}
use Rattle.ciel_look_law.specs.Laws.{CutLogTellsOwn, HasPlan, LogTellsOwn, NamesFit, Own, WaitFits}
use Rattle.ciel_look_law.proofs.Found.{Found, bytes_of, found}
use Rattle.ciel_look_law.proofs.Left.{J, all_fit, laws}
use Rattle.ciel_look_law.proofs.Stands.{agrees_first}
use Rattle.ciel_look_story.specs.Story as story
use Rattle.ciel_look_story.specs.Story.{StandUpTo, Story, Tells}
use Rattle.ciel_look_told.specs.Head.{Head, head_bytes}
use Rattle.ciel_look_told.specs.Told.{Told}

-- what stands there up to a place, and what is behind it
stand_there : (log : List ℕ) (at : ℕ) (xs : List (List ℕ)) (end : ℕ) → StandUpTo log at xs end → drop at log ≡ flat_map in_file xs ++ drop end log
stand_there log at [] end e = ap (λ k. drop k log) e
stand_there log at (x ∷ xs) end h =
    h.1.here ∙ (ap (λ b. in_file x ++ b) (stand_there log h.0 xs end h.2) ∙ sym (append_assoc (in_file x) (flat_map in_file xs) (drop end log)))

journal_parts : {D : Type 0} (job : Job D) (g h : List (Event D)) → journal_of job (g ++ h) ≡ journal_of job g ++ journal_of job h
journal_parts job [] h = refl
journal_parts job (e ∷ g) h = ap (λ z. low job e ∷ z) (journal_parts job g h)

module _ (digest : List ℕ → List ℕ) (named : NamesFit digest) (job : s.Job) (gives : Gives) (p : Plan) (header : List ℕ) (journal : List Entry)
    (all bytes behind : List ℕ) (l : Logs digest job gives p header journal all) (short : FitsBlock header) (fit : AllFit digest job gives l.records)
    (waits : Each WaitFits journal) (begins : bytes ++ behind ≡ all) (few : length bytes < 2 ^ 32) (head : Head) (ts : List Told)
    (t : Tells bytes head ts) where
  abbrev Jb : Job s.Desc
  Jb = J digest job gives

  abbrev rs : List Recorded
  rs = t.0

  abbrev end : ℕ
  end = t.1.0

  abbrev more : List ℕ
  more = drop end bytes ++ behind

  -- the log is the header that was read, and what stands behind it
  same_log : in_file (head_bytes head) ++ (drop t.1.1.first bytes ++ behind) ≡ in_file header ++ l.rest
  same_log =
      sym (append_assoc (in_file (head_bytes head)) (drop t.1.1.first bytes) behind)
      ∙ (ap (λ b. b ++ behind) (sym t.1.1.header.here) ∙ (begins ∙ l.all))

  same : (head_bytes head ≡ header) × (drop t.1.1.first bytes ++ behind ≡ l.rest)
  same =
      blocks_free (head_bytes head) header (drop t.1.1.first bytes ++ behind) l.rest t.1.1.header.fits short same_log

  left_is : drop t.1.1.first bytes ≡ bytes_of rs ++ drop end bytes
  left_is = stand_there bytes t.1.1.first (map record_bytes rs) end t.1.1.records

  rest_is : l.rest ≡ bytes_of rs ++ more
  rest_is = sym same.1 ∙ (ap (λ b. b ++ behind) left_is ∙ append_assoc (bytes_of rs) (drop end bytes) behind)

  room : (standing Jb []).starts + length (bytes_of rs) < 2 ^ 32
  room =
      let a = ap length t.1.1.header.here in
      let b = length-append (in_file (head_bytes head)) (drop t.1.1.first bytes) in
      let c = ap length left_is in
      let d = length-append (bytes_of rs) (drop end bytes) in
      omega (arith, a, b, c, d, few)

  pub same_header : header ≡ head_bytes head
  same_header = sym same.0

  module _ (plan : HasPlan head p) where
    workers : Fits32 p.workers
    workers = subst Fits32 plan.0 t.1.1.good.0

    losses_few : length p.losses ≤ 64
    losses_few = subst (λ xs. length xs ≤ 64) plan.1 t.1.1.good.1.1.0.1

    got : Found digest named job gives p workers losses_few [] l.history more ts
    got =
        found digest named job gives p workers losses_few
        (subst (λ xs. Story xs story.before_all rs ts) plan.1 t.2) [] l.history l.rest more
        (agrees_first Jb (laws digest job gives)) l.driven (subst (Each WaitFits) (sym l.entries) waits)
        (record { records = l.records; fit = fit }) rest_is t.1.1.whole room

    driven_first : Driven Jb p got.first
    driven_first = (driven_split Jb p (before_all Jb) got.first got.then (subst (Driven Jb p) got.parts l.driven)).0

    own : Own digest job gives p (journal_of Jb got.first) ts
    own =
        record {
          history = got.first;
          driven = driven_first;
          entries = refl;
          due = got.due;
          there = got.there;
          told = got.tells;
          own = got.own;
        }

    pub own_part : (front rest : List Entry) × (front ++ rest ≡ journal) × (o : Own digest job gives p front ts) × ((rest ≡ []) ⊎ (o.due ≡ []))
    own_part = (
      journal_of Jb got.first,
      journal_of Jb got.then,
      sym (journal_parts Jb got.first got.then) ∙ (ap (journal_of Jb) (sym got.parts) ∙ l.entries),
      record {
        history = got.first;
        driven = driven_first;
        entries = refl;
        due = got.due;
        there = got.there;
        told = got.tells;
        own = got.own;
      },
      pick got.stops,
    )
      where
        pick : ((got.then ≡ []) ⊎ (got.due ≡ [])) → ((journal_of Jb got.then ≡ []) ⊎ (got.due ≡ []))
        pick (inl e) = inl (ap (journal_of Jb) e)
        pick (inr e) = inr e

    pub own_whole : behind ≡ [] → Own digest job gives p journal ts
    own_whole none =
        let nothing : NoRecordAt bytes end = t.1.2 in
        let left : drop end bytes ≡ more = sym (append-nil (drop end bytes)) ∙ ap (λ b. drop end bytes ++ b) (sym none) in
        let empty = got.whole (subst (NoneAs in_file FitsBlock) left nothing) in
        let parts : l.history ≡ got.first = got.parts ∙ (ap (λ z. got.first ++ z) empty ∙ append-nil got.first) in
        subst (λ z. Own digest job gives p z ts) (ap (journal_of Jb) (sym parts) ∙ l.entries) own

pub log_tells_own : LogTellsOwn
log_tells_own digest named job gives p header journal bytes l few waits head ts t = (
  same_header digest named job gives p header journal bytes bytes [] l head_fits fit waits (append-nil bytes) short head ts t,
  λ plan. own_whole digest named job gives p header journal bytes bytes [] l head_fits fit waits (append-nil bytes) short head ts t plan refl,
)
  where
    short : length bytes < 2 ^ 32
    short = omega (arith, few)

    sum : length bytes ≡ length (in_file header) + length l.rest
    sum = ap length l.all ∙ length-append (in_file header) l.rest

    head_fits : FitsBlock header
    head_fits = let a = sum in let b = short in omega (arith, a, b)

    fit : AllFit digest job gives l.records
    fit = let a = sum in let b = short in all_fit digest job gives l.records (omega (arith, a, b))

pub cut_log_tells_own : CutLogTellsOwn
cut_log_tells_own digest named job gives p header journal all l header_fits fit waits bytes begins few head ts t = (
  same_header digest named job gives p header journal all bytes begins.0 l header_fits fit waits begins.1 short head ts t,
  λ plan. own_part digest named job gives p header journal all bytes begins.0 l header_fits fit waits begins.1 short head ts t plan,
)
  where
    short : length bytes < 2 ^ 32
    short = omega (arith, few)
