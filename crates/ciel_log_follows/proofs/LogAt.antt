-- A log at a place: which records of a history stand before it, and which are left behind it.
use Rattle.std.proofs.Common.{◌≡◌, ◌+◌, ℕ, List, [], ◌∷◌, ◌++◌, drop, length, take, true, false, refl, ap, sym, ◌∙◌, subst, arith, append_assoc}
use Rattle.std.proofs.Common.{length-append, take-append-drop}
use Rattle.std.proofs.Math.Seq.{take-append_seam}
use Rattle.std.proofs.lemmas.Bool.{false≢true}
use Rattle.std.proofs.lemmas.List.{append-nil, length-take-le}
use Rattle.sky_base.specs.KitView.{Gives}
use Rattle.sky_base.specs.Name.{big_endian}
use Rattle.sky_base.specs.See as s
use Rattle.ciel_journal.specs.Entries.{Entry, journal_of}
use Rattle.ciel_journal.specs.History.{Event, Plan, before_all, lost, standing}
use Rattle.ciel_journal.specs.Job.{IsPrefix, Job}
use Rattle.ciel_journal.specs.Lawful.{Step}
use Rattle.ciel_journal.specs.Turns.{Driven, DrivenFrom, Turn}
use Rattle.ciel_journal.proofs.Append.{driven_split}
use Rattle.ciel_log.specs.Logs as logs
use Rattle.ciel_log.specs.Logs.{Idle, Logs, RecordOf, Records}
use Rattle.ciel_log_follows.specs.Begins.{BeginsLog, ReadsEvent, ReadsIdle}
use Rattle.ciel_log_follows.proofs.Left as left
use Rattle.ciel_log_follows.proofs.Left.{NextIs, ReadLog, StaysFree, lose_first, lose_last, next_is, prefix_of}
use Rattle.ciel_log_read.specs.File.{RecordAt}
use Rattle.ciel_log_read.proofs.Files.{record_within}
use Rattle.ciel_log_records.specs.Records.{in_file}
use Rattle.ciel_task_order.specs.Named.{shop_job}

-- what stands before the next place: what stood before this one, and the record
taken_on : (log : List ℕ) (at : ℕ) (bytes : List ℕ) (next : ℕ) → RecordAt log at bytes next → take next log ≡ take at log ++ in_file bytes
taken_on log at bytes next r =
    let within = record_within log at bytes next r in
    let all : (take at log ++ in_file bytes) ++ drop next log ≡ log =
    append_assoc (take at log) (in_file bytes) (drop next log) ∙ (ap (λ z. take at log ++ z) (sym r.here) ∙ take-append-drop at log) in
    let behind = r.behind in
    let first : length (take at log) ≡ at = length-take-le at log (omega (arith, within, behind)) in
    let long : length (take at log ++ in_file bytes) ≡ next =
    length-append (take at log) (in_file bytes) ∙ (ap (λ n. n + length (in_file bytes)) first ∙ sum at bytes next behind) in
    ap (take next) (sym all) ∙ subst (λ n. take n ((take at log ++ in_file bytes) ++ drop next log) ≡ take at log ++ in_file bytes) long
    (take-append_seam (take at log ++ in_file bytes) (drop next log))
  where
    sum : (at : ℕ) (bytes : List ℕ) (next : ℕ) → next ≡ at + 4 + length bytes → at + length (in_file bytes) ≡ next
    sum at bytes next e =
        let four : length (big_endian 4 (length bytes)) ≡ 4 = refl in
        let long : length (in_file bytes) ≡ length (big_endian 4 (length bytes)) + length bytes = length-append (big_endian 4 (length bytes)) bytes in
        omega (arith, e, four, long)

module _ (digest : List ℕ → List ℕ) (job : s.Job) (gives : Gives) where
  abbrev J : Job s.Desc
  J = shop_job digest job gives

  abbrev Rs : List (Event s.Desc) → List (Event s.Desc) → List ℕ → Type 0
  Rs past es bytes = Records digest job gives past es bytes

  -- records behind records
  records_join : {past es : List (Event s.Desc)} {rest : List ℕ} → Rs past es rest → (es2 : List (Event s.Desc)) (more : List ℕ)
      → Rs (past ++ es) es2 more → Rs past (es ++ es2) (rest ++ more)
  records_join (logs.over {past}) es2 more q = subst (λ z. Rs z es2 more) (append-nil past) q
  records_join (logs.idle {past} {es} {rest} bytes i r) es2 more q =
      subst (Rs past (es ++ es2)) (sym (append_assoc (in_file bytes) rest more)) (logs.idle bytes i (records_join r es2 more q))
  records_join (logs.loses {past} {es} {rest} w closes r) es2 more q =
      logs.loses w closes (records_join r es2 more (subst (λ z. Rs z es2 more) (sym (append_assoc past (lost w closes ∷ []) es)) q))
  records_join (logs.tells {past} {es} {rest} e bytes of r) es2 more q =
      subst (Rs past (e ∷ es ++ es2)) (sym (append_assoc (in_file bytes) rest more))
      (logs.tells e bytes of (records_join r es2 more (subst (λ z. Rs z es2 more) (sym (append_assoc past (e ∷ []) es)) q)))

  lost_joined : (h : List (Event s.Desc)) (before : List ℕ) (w closes : ℕ) → Rs [] h before → Rs [] (h ++ lost w closes ∷ []) before
  lost_joined h before w closes r =
      subst (Rs [] (h ++ lost w closes ∷ [])) (append-nil before) (records_join r (lost w closes ∷ []) [] (logs.loses w closes logs.over))

  idle_joined : (h : List (Event s.Desc)) (before bytes : List ℕ) → Rs [] h before → Idle digest job gives h bytes → Rs [] h (before ++ in_file bytes)
  idle_joined h before bytes r i =
      subst (λ z. Rs [] h (before ++ z)) (append-nil (in_file bytes))
      (subst (λ z. Rs [] z (before ++ (in_file bytes ++ []))) (append-nil h) (records_join r [] (in_file bytes ++ []) (logs.idle bytes i logs.over)))

  told_joined : (h : List (Event s.Desc)) (e : Event s.Desc) (before bytes : List ℕ) → Rs [] h before → RecordOf digest job gives h e bytes
      → Rs [] (h ++ e ∷ []) (before ++ in_file bytes)
  told_joined h e before bytes r of =
      subst (λ z. Rs [] (h ++ e ∷ []) (before ++ z)) (append-nil (in_file bytes))
      (records_join r (e ∷ []) (in_file bytes ++ []) (logs.tells e bytes of logs.over))

  -- no idle record stands behind the end of a run
  idle_going : (h : List (Event s.Desc)) (bytes : List ℕ) → Idle digest job gives h bytes → (standing J h).over ≡ false
  idle_going h bytes (logs.reported k free spawned copied how can) = free.2
  idle_going h bytes (logs.dropped k free) = free.2

  module _ (p : Plan) (header log : List ℕ) where
    -- behind these first events: the records of the log up to this place are theirs, and what comes then begins those of events that are left,
    -- with which the history is driven
    pub record LogAt (h : List (Event s.Desc)) (at : ℕ) : Type 0 where
      pub events : List (Event s.Desc)
      pub rest : List ℕ
      pub left : ReadLog digest job gives h events rest
      pub prefix : IsPrefix (drop at log) rest
      pub driven : Driven J p (h ++ events)
      pub before : List ℕ
      pub records : Rs [] h before
      pub stood : take at log ≡ in_file header ++ before

    -- what stands up to this place is a log of the journal
    pub told_whole : (h : List (Event s.Desc)) (at : ℕ) (journal : List Entry) → journal_of J h ≡ journal → LogAt h at
        → Logs digest job gives p header journal (take at log)
    told_whole h at journal e l =
        record {
          history = h;
          driven = (driven_split J p (before_all J) h l.events l.driven).0;
          entries = e;
          rest = l.before;
          records = l.records;
          all = l.stood;
        }

    -- behind the header
    pub log_first : (next : ℕ) → RecordAt log 0 header next → BeginsLog digest job gives p header log → LogAt [] next
    log_first next r b =
        let front = prefix_of digest job gives header header (drop next log) b.log.rest r.fits b.short
        (subst (λ z. IsPrefix z (in_file header ++ b.log.rest)) r.here (subst (IsPrefix log) b.log.all b.prefix)) in
        record {
          events = b.log.history;
          rest = b.log.rest;
          left = record { records = b.log.records; read = b.read };
          prefix = front.1;
          driven = b.log.driven;
          before = [];
          records = logs.over;
          stood = taken_on log 0 header next r ∙ sym (append-nil (in_file header));
        }

    -- ---- a loss

    -- where the next event, if there is one, is this loss
    pub log_lost : (h : List (Event s.Desc)) (w closes at : ℕ) → StaysFree digest job gives h (h ++ lost w closes ∷ [])
        → Driven J p (h ++ lost w closes ∷ [])
        → ((x : Event s.Desc) (es : List (Event s.Desc)) → Driven J p (h ++ x ∷ es) → x ≡ lost w closes) → LogAt h at
        → LogAt (h ++ lost w closes ∷ []) at
    log_lost h w closes at free d only l = pick l.events l.left l.driven
      where
        pick : (es : List (Event s.Desc)) → ReadLog digest job gives h es l.rest → Driven J p (h ++ es) → LogAt (h ++ lost w closes ∷ []) at
        pick [] r o =
            record {
              events = [];
              rest = l.rest;
              left = lose_last digest job gives h w closes l.rest free r.records r.read;
              prefix = l.prefix;
              driven = subst (Driven J p) (sym (append-nil (h ++ lost w closes ∷ []))) d;
              before = l.before;
              records = lost_joined h l.before w closes l.records;
              stood = l.stood;
            }
        pick (x ∷ es) r o =
            let same = only x es o in
            let q : ReadLog digest job gives h (lost w closes ∷ es) l.rest = subst (λ z. ReadLog digest job gives h (z ∷ es) l.rest) same r in
            record {
              events = es;
              rest = l.rest;
              left = lose_first digest job gives h es w closes l.rest free q.records q.read;
              prefix = l.prefix;
              driven = subst (Driven J p) (sym (append_assoc h (lost w closes ∷ []) es)) (subst (λ z. Driven J p (h ++ z ∷ es)) same o);
              before = l.before;
              records = lost_joined h l.before w closes l.records;
              stood = l.stood;
            }

    -- ---- a record

    -- it is an idle one; or that of the next event; or the next event is a loss
    pub data NextAt (h : List (Event s.Desc)) (bytes : List ℕ) (next : ℕ) : Type 0 where
      idles : (i : Idle digest job gives h bytes) → ReadsIdle digest job gives h bytes i → LogAt h next → NextAt h bytes next
      tells : (e : Event s.Desc) (r : RecordOf digest job gives h e bytes) → ReadsEvent digest job gives h e bytes r → Step J p (standing J h) e
          → Turn J p (standing J h) e → LogAt (h ++ e ∷ []) next → NextAt h bytes next
      loses : (w closes : ℕ) → Turn J p (standing J h) (lost w closes) → NextAt h bytes next

    pub log_next : (h : List (Event s.Desc)) (at : ℕ) (bytes : List ℕ) (next : ℕ) → RecordAt log at bytes next → LogAt h at → NextAt h bytes next
    log_next h at bytes next r l =
        pick l.events (next_is digest job gives log at bytes next r h l.events l.rest l.left.records l.left.read l.prefix) l.driven
      where
        stood_on : take next log ≡ in_file header ++ (l.before ++ in_file bytes)
        stood_on =
            taken_on log at bytes next r ∙ (ap (λ z. z ++ in_file bytes) l.stood ∙ append_assoc (in_file header) l.before (in_file bytes))

        pick : (es : List (Event s.Desc)) → NextIs digest job gives h bytes (drop next log) es → Driven J p (h ++ es) → NextAt h bytes next
        pick es (left.idles i reads rest more p_) d =
            idles i reads (record {
              events = es;
              rest = rest;
              left = more;
              prefix = p_;
              driven = d;
              before = l.before ++ in_file bytes;
              records = idle_joined h l.before bytes l.records i;
              stood = stood_on;
            })
        pick (e ∷ es) (left.tells _ of reads rest more p_) d =
            let now = (driven_split J p (before_all J) h (e ∷ es) d).1 in
            tells e of reads now.0 now.1 (record {
              events = es;
              rest = rest;
              left = more;
              prefix = p_;
              driven = subst (Driven J p) (sym (append_assoc h (e ∷ []) es)) d;
              before = l.before ++ in_file bytes;
              records = told_joined h e l.before bytes l.records of;
              stood = stood_on;
            })
        pick (x ∷ es) (left.loses w closes) d =
            let now = (driven_split J p (before_all J) h (lost w closes ∷ es) d).1 in loses w closes now.1

    -- behind the end of the run there is none
    pub none_behind : (h : List (Event s.Desc)) (at : ℕ) (bytes : List ℕ) (next : ℕ) → RecordAt log at bytes next → LogAt h at
        → (standing J h).over ≡ true → ⊥
    none_behind h at bytes next r l over =
        pick l.events (next_is digest job gives log at bytes next r h l.events l.rest l.left.records l.left.read l.prefix)
        (driven_split J p (before_all J) h l.events l.driven).1
      where
        pick : (es : List (Event s.Desc)) → NextIs digest job gives h bytes (drop next log) es → DrivenFrom J p (standing J h) es → ⊥
        pick [] (left.idles i reads rest more p_) d = false≢true (sym (idle_going h bytes i) ∙ over)
        pick (e ∷ es) n d = let going = d.0.going in false≢true (sym going ∙ over)
