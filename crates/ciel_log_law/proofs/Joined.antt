-- Records behind the records that a file has already.
use Rattle.std.proofs.Common.{◌≡◌, ◌<◌, ◌+◌, ℕ, List, [], ◌∷◌, ◌++◌, length, take, arith, ◌⊎◌, inl, inr, refl, ap, sym, ◌∙◌, subst}
use Rattle.std.specs.List.{flat_map}
use Rattle.std.proofs.lemmas.List.{append_assoc, append-nil, length-append}
use Rattle.sky_base.specs.KitView.{Gives}
use Rattle.sky_base.specs.See as s
use Rattle.ciel_journal.specs.Entries.{journal_of, low, Entry}
use Rattle.ciel_journal.specs.History.{Event, Plan, before_all, lost}
use Rattle.ciel_journal.specs.Job.{IsJob, Job}
use Rattle.ciel_journal.specs.Lawful.{Lawful}
use Rattle.ciel_journal.proofs.Append.{lawful_split}
use Rattle.ciel_journal.proofs.Unique.{names_determine}
use Rattle.ciel_log.specs.Logging.{most}
use Rattle.ciel_log.specs.Logs as logs
use Rattle.ciel_log.specs.Logs.{HasDropped, Idle, RecordOf, Records}
use Rattle.ciel_log.specs.declared.state.LogState.{LogState}
use Rattle.ciel_log_law.proofs.Pieces as pieces
use Rattle.ciel_log_law.proofs.Pieces.{FullSo, IsDropped, Piece, Stops, dropped_behind, prefix_behind}
use Rattle.ciel_log_records.specs.Records.{dropped_record, in_file}

-- ---- a history that begins another

module _ {D : Type 0} (job : Job D) where
  -- the events that have these entries, and those behind them
  parted : (h d : List (Event D)) (more : List Entry) → journal_of job d ≡ journal_of job h ++ more
      → (g es : List (Event D)) × (d ≡ g ++ es) × (journal_of job g ≡ journal_of job h)
  parted [] d more e = ([], d, refl, refl)
  parted (x ∷ xs) [] more e = cc
  parted (x ∷ xs) (y ∷ ys) more e =
      let first : low job y ≡ low job x = cc in
      let rest : journal_of job ys ≡ journal_of job xs ++ more = cc in
      let p = parted xs ys more rest in (
        y ∷ p.0,
        p.1,
        ap (λ z. y ∷ z) p.2,
        ap (λ z. z ∷ journal_of job p.0) first ∙ ap (λ z. low job x ∷ z) p.3,
      )

  -- a lawful history whose journal goes on from that of another goes on from it
  pub goes_on_from : IsJob job → (p q : Plan) (h d : List (Event D)) (more : List Entry) → Lawful job p h → Lawful job q d
      → journal_of job d ≡ journal_of job h ++ more → (es : List (Event D)) × (d ≡ h ++ es)
  goes_on_from laws p q h d more lh ld e =
      let cut = parted h d more e in
      let front = (lawful_split job q (before_all job) cut.0 cut.1 (subst (Lawful job q) cut.2 ld)).0 in
      let same : cut.0 ≡ h = names_determine job laws q p cut.0 h front lh cut.3 in
      (cut.1, cut.2 ∙ ap (λ z. z ++ cut.1) same)

-- a dropped record behind records
dropped_behind_all : (xs : List (List ℕ)) (bytes : List ℕ) → HasDropped bytes → HasDropped (flat_map in_file xs ++ bytes)
dropped_behind_all [] bytes d = d
dropped_behind_all (x ∷ xs) bytes d =
    subst HasDropped (sym (append_assoc (in_file x) (flat_map in_file xs) bytes))
    (dropped_behind x (flat_map in_file xs ++ bytes) (dropped_behind_all xs bytes d))

added_up : (a b c d e : ℕ) → b ≡ a + c → e ≡ c + d → b + d ≡ a + e
added_up a b c d e p q = omega (arith, p, q)

module _ (digest : List ℕ → List ℕ) (job : s.Job) (gives : Gives) where
  abbrev Rs : List (Event s.Desc) → List (Event s.Desc) → List ℕ → Type 0
  Rs past es bytes = Records digest job gives past es bytes

  records_join : {past es : List (Event s.Desc)} {rest : List ℕ} → Rs past es rest → (es2 : List (Event s.Desc)) (more : List ℕ)
      → Rs (past ++ es) es2 more → Rs past (es ++ es2) (rest ++ more)
  records_join (logs.over {past}) es2 more q = subst (λ z. Rs z es2 more) (append-nil past) q
  records_join (logs.idle {past} {es} {rest} bytes i r) es2 more q =
      subst (Rs past (es ++ es2)) (sym (append_assoc (in_file bytes) rest more)) (logs.idle bytes i (records_join r es2 more q))
  records_join (logs.loses {past} {es} {rest} w closes r) es2 more q =
      logs.loses w closes (records_join r es2 more (subst (λ z. Rs z es2 more) (sym (append_assoc past (lost w closes ∷ []) es)) q))
  records_join (logs.tells {past} {es} {rest} e bytes of r) es2 more q =
      subst (Rs past (e ∷ es ++ es2)) (sym (append_assoc (in_file bytes) rest more))
      (logs.tells e bytes of (records_join r es2 more (subst (λ z. Rs z es2 more) (sym (append_assoc past (e ∷ []) es)) q)))

  records_are : {past es : List (Event s.Desc)} {rest : List ℕ} → Rs past es rest → (xs : List (List ℕ)) × (rest ≡ flat_map in_file xs)
  records_are logs.over = ([], refl)
  records_are (logs.idle bytes i r) = let q = records_are r in (bytes ∷ q.0, ap (λ z. in_file bytes ++ z) q.1)
  records_are (logs.loses w closes r) = records_are r
  records_are (logs.tells e bytes of r) = let q = records_are r in (bytes ∷ q.0, ap (λ z. in_file bytes ++ z) q.1)

  -- these records, behind none
  module _ (h es : List (Event s.Desc)) (rest0 : List ℕ) (rs : Rs [] h rest0) where
    joined : (bytes : List ℕ) → Rs h es bytes → Rs [] (h ++ es) (rest0 ++ bytes)
    joined bytes r = records_join rs es bytes r

    dropped_joined : (bytes : List ℕ) → HasDropped bytes → HasDropped (rest0 ++ bytes)
    dropped_joined bytes d =
        let q = records_are rs in subst (λ z. HasDropped (z ++ bytes)) (sym q.1) (dropped_behind_all q.0 bytes d)

    pub piece_joined : {state : LogState} {bytes : List ℕ} → Piece digest job gives h es state bytes
        → Piece digest job gives [] (h ++ es) state (rest0 ++ bytes)
    piece_joined (pieces.all bytes r) = pieces.all (rest0 ++ bytes) (joined bytes r)
    piece_joined (pieces.cut ne bytes rest r p) =
        pieces.cut ne (rest0 ++ bytes) (rest0 ++ rest) (joined rest r) (prefix_behind rest0 bytes rest p)
    piece_joined {state} (pieces.cut_dropped fails bytes rest r p number count) =
        subst (Piece digest job gives [] (h ++ es) state) (append_assoc rest0 bytes (take count (in_file (dropped_record number))))
        (pieces.cut_dropped fails (rest0 ++ bytes) (rest0 ++ rest) (joined rest r) (prefix_behind rest0 bytes rest p) number count)
    piece_joined (pieces.drops bytes d) = pieces.drops (rest0 ++ bytes) (dropped_joined bytes d)

    -- behind so many bytes and these records
    pub full_joined : (state : LogState) (held before : ℕ) (bytes : List ℕ) → held ≡ before + length rest0
        → FullSo digest job gives h es state held bytes → FullSo digest job gives [] (h ++ es) state before (rest0 ++ bytes)
    full_joined state held before bytes q g has e = pick (g has e)
      where
        tells : (next : List ℕ) → ((rest : List ℕ) × Rs h es (bytes ++ (in_file next ++ rest))) ⊎ IsDropped digest job gives next
            → ((rest : List ℕ) × Rs [] (h ++ es) ((rest0 ++ bytes) ++ (in_file next ++ rest))) ⊎ IsDropped digest job gives next
        tells next (inl r) =
            inl (
              r.0,
              subst (Rs [] (h ++ es)) (sym (append_assoc rest0 bytes (in_file next ++ r.0)))
                  (joined (bytes ++ (in_file next ++ r.0)) r.1),
            )
        tells next (inr d) = inr d

        pick : HasDropped bytes ⊎ ((has ≡ held + length bytes) × Stops digest job gives h es has bytes)
            → HasDropped (rest0 ++ bytes) ⊎ ((has ≡ before + length (rest0 ++ bytes)) × Stops digest job gives [] (h ++ es) has (rest0 ++ bytes))
        pick (inl d) = inl (dropped_joined bytes d)
        pick (inr (n, st)) =
            inr (
              n ∙ added_up before held (length rest0) (length bytes) (length (rest0 ++ bytes)) q (length-append rest0 bytes),
              record { next = st.next; over = st.over; tells = tells st.next st.tells },
            )
