-- What is left of a log behind its first records.
use Rattle.std.proofs.Common.{◌≡◌, ℕ, List, [], ◌∷◌, ◌++◌, drop, None, false, sym, ◌∙◌, subst, append_assoc}
use Rattle.sky_base.specs.KitView.{Gives}
use Rattle.sky_base.specs.See as s
use Rattle.ciel_journal.specs.History.{Event, Standing, before_all, find_open, lost, standing}
use Rattle.ciel_journal.specs.Job.{IsPrefix, Job}
use Rattle.ciel_journal.proofs.Append.{after_append}
use Rattle.ciel_log.specs.Logs as logs
use Rattle.ciel_log.specs.Logs.{Idle, RecordOf, Records}
use Rattle.ciel_log_follows.specs.Begins.{AllReadable, ReadsEvent, ReadsIdle}
use Rattle.ciel_log_read.specs.File.{RecordAt}
use Rattle.ciel_log_read.specs.Recorded.{FitsBlock}
use Rattle.ciel_log_read.proofs.Pieces.{blocks_free}
use Rattle.ciel_log_records.specs.Records.{in_file}
use Rattle.ciel_task_order.specs.Named.{shop_job}

module _ (digest : List ℕ → List ℕ) (job : s.Job) (gives : Gives) where
  abbrev J : Job s.Desc
  J = shop_job digest job gives

  abbrev Rs : List (Event s.Desc) → List (Event s.Desc) → List ℕ → Type 0
  Rs past es bytes = Records digest job gives past es bytes

  -- ---- a loss carried out before idle records

  -- what isn't open isn't opened by a loss
  abbrev pub StaysFree : List (Event s.Desc) → List (Event s.Desc) → Type 0
  StaysFree g h = (k : ℕ) → find_open J k (standing J g).orders ≡ None → find_open J k (standing J h).orders ≡ None

  module _ (past : List (Event s.Desc)) (w closes : ℕ) (f : StaysFree past (past ++ lost w closes ∷ [])) where
    -- and a run goes on behind one
    goes_on : (standing J past).over ≡ false → (standing J (past ++ lost w closes ∷ [])).over ≡ false
    goes_on h =
        subst (λ (v : Standing s.Desc). v.over ≡ false) (sym (after_append J (before_all J) past (lost w closes))) h

    idle_on : (bytes : List ℕ) → Idle digest job gives past bytes → Idle digest job gives (past ++ lost w closes ∷ []) bytes
    idle_on bytes (logs.reported k free spawned copied how can) = logs.reported k (free.0, f k free.1, goes_on free.2) spawned copied how can
    idle_on bytes (logs.dropped k free) = logs.dropped k (free.0, f k free.1, goes_on free.2)

    reads_on : (bytes : List ℕ) (i : Idle digest job gives past bytes) → ReadsIdle digest job gives past bytes i
        → ReadsIdle digest job gives (past ++ lost w closes ∷ []) bytes (idle_on bytes i)
    unfolding idle_on
    reads_on bytes (logs.reported k free spawned copied how can) r = r
    reads_on bytes (logs.dropped k free) r = r

  -- records of events that can all be read
  pub record ReadLog (past es : List (Event s.Desc)) (bytes : List ℕ) : Type 0 where
    pub records : Rs past es bytes
    pub read : AllReadable digest job gives records

  -- the loss that comes first is carried out, and the idle records before it stand behind it
  pub lose_first : (past es : List (Event s.Desc)) (w closes : ℕ) (rest : List ℕ) → StaysFree past (past ++ lost w closes ∷ [])
      → (r : Rs past (lost w closes ∷ es) rest) → AllReadable digest job gives r → ReadLog (past ++ lost w closes ∷ []) es rest
  lose_first past es w closes rest f (logs.idle bytes i more) a =
      let n = lose_first past es w closes _ f more a.2 in
      record {
        records = logs.idle bytes (idle_on past w closes f bytes i) n.records;
        read = (a.0, reads_on past w closes f bytes i a.1, n.read);
      }
  lose_first past es w closes rest f (logs.loses v n more) a = record { records = more; read = a }
  lose_first past es w closes rest f (logs.tells e bytes r more) a = absurd r

  -- where no event is left, idle records stand behind a loss too
  pub lose_last : (past : List (Event s.Desc)) (w closes : ℕ) (rest : List ℕ) → StaysFree past (past ++ lost w closes ∷ [])
      → (r : Rs past [] rest) → AllReadable digest job gives r → ReadLog (past ++ lost w closes ∷ []) [] rest
  lose_last past w closes rest f logs.over a = record { records = logs.over; read = tt }
  lose_last past w closes rest f (logs.idle bytes i more) a =
      let n = lose_last past w closes _ f more a.2 in
      record {
        records = logs.idle bytes (idle_on past w closes f bytes i) n.records;
        read = (a.0, reads_on past w closes f bytes i a.1, n.read);
      }

  -- ---- the record that stands there

  -- it is an idle one; or that of the next event, where this is no loss
  pub data NextIs (past : List (Event s.Desc)) (bytes left : List ℕ) : List (Event s.Desc) → Type 0 where
    idles : {es : List (Event s.Desc)} (i : Idle digest job gives past bytes) → ReadsIdle digest job gives past bytes i → (rest : List ℕ)
        → ReadLog past es rest → IsPrefix left rest → NextIs past bytes left es
    tells : {es : List (Event s.Desc)} (e : Event s.Desc) (r : RecordOf digest job gives past e bytes) → ReadsEvent digest job gives past e bytes r
        → (rest : List ℕ) → ReadLog (past ++ e ∷ []) es rest → IsPrefix left rest → NextIs past bytes left (e ∷ es)
    loses : {es : List (Event s.Desc)} (w closes : ℕ) → NextIs past bytes left (lost w closes ∷ es)

  pub prefix_of : (a b x y : List ℕ) → FitsBlock a → FitsBlock b → IsPrefix (in_file a ++ x) (in_file b ++ y) → (a ≡ b) × IsPrefix x y
  prefix_of a b x y f g p =
      let same = blocks_free a b (x ++ p.0) y f g (sym (append_assoc (in_file a) x p.0) ∙ p.1) in
      (same.0, (p.0, same.1))

  none_before : (a x : List ℕ) → IsPrefix (in_file a ++ x) [] → ⊥
  none_before a x p = let bad : in_file a ++ (x ++ p.0) ≡ [] = sym (append_assoc (in_file a) x p.0) ∙ p.1 in cc

  pub next_is : (log : List ℕ) (at : ℕ) (bytes : List ℕ) (next : ℕ) → RecordAt log at bytes next → (past es : List (Event s.Desc)) (rest : List ℕ)
      → (r : Rs past es rest) → AllReadable digest job gives r → IsPrefix (drop at log) rest → NextIs past bytes (drop next log) es
  next_is log at bytes next s past es rest logs.over a p =
      absurd (none_before bytes (drop next log) (subst (λ z. IsPrefix z []) s.here p))
  next_is log at bytes next s past es rest (logs.idle {rest = behind} x i more) a p =
      let q = prefix_of bytes x (drop next log) behind s.fits a.0 (subst (λ z. IsPrefix z (in_file x ++ behind)) s.here p) in
      subst (λ z. NextIs past z (drop next log) es) (sym q.0) (idles i a.1 behind (record { records = more; read = a.2 }) q.1)
  next_is log at bytes next s past es rest (logs.loses w closes more) a p = loses w closes
  next_is log at bytes next s past es rest (logs.tells {es = later} {rest = behind} e x r more) a p =
      let q = prefix_of bytes x (drop next log) behind s.fits a.0 (subst (λ z. IsPrefix z (in_file x ++ behind)) s.here p) in
      subst (λ z. NextIs past z (drop next log) (e ∷ later)) (sym q.0) (tells e r a.1 behind (record { records = more; read = a.2 }) q.1)
