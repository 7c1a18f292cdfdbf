-- What a run leaves in its log's file, put together from its records.
use Rattle.std.proofs.Common.{◌≡◌, ◌<◌, ◌+◌, ℕ, List, [], ◌∷◌, ◌++◌, length, take, drop, arith, ◌⊎◌, inl, inr, refl, ap, sym, ◌∙◌, subst}
use Rattle.std.specs.List.{flat_map}
use Rattle.std.proofs.lemmas.List.{append_assoc, append-nil, length-append, take-append-drop}
use Rattle.sky_base.specs.KitView.{Gives}
use Rattle.sky_base.specs.See as s
use Rattle.ciel_journal.specs.History.{Event}
use Rattle.ciel_journal.specs.Job.{IsPrefix}
use Rattle.ciel_log.specs.Logging.{most}
use Rattle.ciel_log.specs.Logs.{HasDropped, Records}
use Rattle.ciel_log.specs.declared.state.LogState.{LogState}
use Rattle.ciel_log_records.specs.Records.{dropped_record, in_file}

pub prefix_behind : (xs ys zs : List ℕ) → IsPrefix ys zs → IsPrefix (xs ++ ys) (xs ++ zs)
prefix_behind xs ys zs p = (p.0, append_assoc xs ys p.0 ∙ ap (λ z. xs ++ z) p.1)

prefix_taken : (k : ℕ) (xs ys : List ℕ) → IsPrefix (take k xs) (xs ++ ys)
prefix_taken k xs ys =
    (drop k xs ++ ys, sym (append_assoc (take k xs) (drop k xs) ys) ∙ ap (λ z. z ++ ys) (take-append-drop k xs))

pub prefix_self : (xs : List ℕ) → IsPrefix xs xs
prefix_self xs = ([], append-nil xs)

pub dropped_behind : (x bytes : List ℕ) → HasDropped bytes → HasDropped (in_file x ++ bytes)
dropped_behind x bytes d = (
  x ∷ d.0,
  d.1,
  d.2,
  ap (λ z. in_file x ++ z) d.3 ∙ sym (append_assoc (in_file x) (flat_map in_file d.0) (in_file (dropped_record d.1) ++ d.2)),
)

summed : (a b c d e : ℕ) → b ≡ a + c → e ≡ c + d → b + d ≡ a + e
summed a b c d e p q = omega (arith, p, q)

module _ (digest : List ℕ → List ℕ) (job : s.Job) (gives : Gives) where
  abbrev Rs : List (Event s.Desc) → List (Event s.Desc) → List ℕ → Type 0
  Rs past es bytes = Records digest job gives past es bytes

  -- What a log in this state has behind a history, of these events: all their records; or the beginning of such records; or so up to the
  -- beginning of a dropped record; or a dropped one among them
  pub data Piece (past es : List (Event s.Desc)) (state : LogState) : List ℕ → Type 0 where
    all : (bytes : List ℕ) → Rs past es bytes → Piece past es state bytes
    cut : (state ≡ LogState.Whole → ⊥) → (bytes rest : List ℕ) → Rs past es rest → IsPrefix bytes rest → Piece past es state bytes
    cut_dropped : state ≡ LogState.Failed → (bytes rest : List ℕ) → Rs past es rest → IsPrefix bytes rest → (number count : ℕ)
        → Piece past es state (bytes ++ take count (in_file (dropped_record number)))
    drops : (bytes : List ℕ) → HasDropped bytes → Piece past es state bytes

  -- the events of one history behind another: with nothing put, or with this record first
  abbrev pub Onward : (past es past2 es2 : List (Event s.Desc)) → Type 0
  Onward past es past2 es2 = (bytes : List ℕ) → Rs past2 es2 bytes → Rs past es bytes

  abbrev pub Fine : (past es past2 es2 : List (Event s.Desc)) → List ℕ → Type 0
  Fine past es past2 es2 x = (bytes : List ℕ) → Rs past2 es2 bytes → Rs past es (in_file x ++ bytes)

  pub onward : {past es past2 es2 : List (Event s.Desc)} {state : LogState} {bytes : List ℕ} → Onward past es past2 es2
      → Piece past2 es2 state bytes → Piece past es state bytes
  onward f (all bytes r) = all bytes (f bytes r)
  onward f (cut ne bytes rest r p) = cut ne bytes rest (f rest r) p
  onward f (cut_dropped fails bytes rest r p number count) = cut_dropped fails bytes rest (f rest r) p number count
  onward f (drops bytes d) = drops bytes d

  -- nothing is put
  pub put_none : {past es : List (Event s.Desc)} {state : LogState} → (state ≡ LogState.Whole → ⊥) → (rest : List ℕ) → Rs past es rest
      → Piece past es state []
  put_none ne rest r = cut ne [] rest r (rest, refl)

  abbrev pub IsDropped : List ℕ → Type 0
  IsDropped x = (number : ℕ) × (x ≡ dropped_record number)

  module _ {past es past2 es2 : List (Event s.Desc)} {state : LogState} (x : List ℕ) where
    put_fine : Fine past es past2 es2 x → {bytes : List ℕ} → Piece past2 es2 state bytes → Piece past es state (in_file x ++ bytes)
    put_fine f (all bytes r) = all (in_file x ++ bytes) (f bytes r)
    put_fine f (cut ne bytes rest r p) = cut ne (in_file x ++ bytes) (in_file x ++ rest) (f rest r) (prefix_behind (in_file x) bytes rest p)
    put_fine f (cut_dropped fails bytes rest r p number count) =
        subst (Piece past es state) (append_assoc (in_file x) bytes (take count (in_file (dropped_record number))))
        (cut_dropped fails (in_file x ++ bytes) (in_file x ++ rest) (f rest r) (prefix_behind (in_file x) bytes rest p) number count)
    put_fine f (drops bytes d) = drops (in_file x ++ bytes) (dropped_behind x bytes d)

    -- a record is put whole
    pub put_whole : Fine past es past2 es2 x ⊎ IsDropped x → {bytes : List ℕ} → Piece past2 es2 state bytes → Piece past es state (in_file x ++ bytes)
    put_whole (inl f) p = put_fine f p
    put_whole (inr d) {bytes} p = drops (in_file x ++ bytes) ([], d.0, bytes, ap (λ z. in_file z ++ bytes) d.1)

    -- a part of it is put, and then nothing
    pub put_part : state ≡ LogState.Failed → (rest2 : List ℕ) → Rs past2 es2 rest2 → (rest : List ℕ) → Rs past es rest
        → Fine past es past2 es2 x ⊎ IsDropped x → (k : ℕ) → Piece past es state (take k (in_file x))
    put_part fails rest2 r2 rest r (inl f) k =
        cut (λ e. let bad : LogState.Failed ≡ LogState.Whole = sym fails ∙ e in cc)
        (take k (in_file x)) (in_file x ++ rest2) (f rest2 r2) (prefix_taken k (in_file x) rest2)
    put_part fails rest2 r2 rest r (inr d) k =
        subst (λ z. Piece past es state (take k (in_file z))) (sym d.1) (cut_dropped fails [] rest r (rest, refl) d.0 k)

  -- ---- a log that is full

  -- behind these bytes a log that has so many has no room for the next record
  pub record Stops (past es : List (Event s.Desc)) (has : ℕ) (bytes : List ℕ) : Type 0 where
    pub next : List ℕ
    pub over : most < has + length (in_file next)
    pub tells : ((rest : List ℕ) × Rs past es (bytes ++ (in_file next ++ rest))) ⊎ IsDropped next

  -- so it is, behind so many bytes and these, where the log is full in this state; or a dropped record is among these
  abbrev pub FullSo : (past es : List (Event s.Desc)) → LogState → ℕ → List ℕ → Type 0
  FullSo past es state held bytes =
      (has : ℕ) → state ≡ LogState.Full has → HasDropped bytes ⊎ ((has ≡ held + length bytes) × Stops past es has bytes)

  pub full_onward : {past es past2 es2 : List (Event s.Desc)} (state : LogState) (held : ℕ) (bytes : List ℕ) → Onward past es past2 es2
      → FullSo past2 es2 state held bytes → FullSo past es state held bytes
  full_onward {past} {es} {past2} {es2} state held bytes f g has e = pick (g has e)
    where
      tells : (next : List ℕ) → ((rest : List ℕ) × Rs past2 es2 (bytes ++ (in_file next ++ rest))) ⊎ IsDropped next
          → ((rest : List ℕ) × Rs past es (bytes ++ (in_file next ++ rest))) ⊎ IsDropped next
      tells next (inl r) = inl (r.0, f (bytes ++ (in_file next ++ r.0)) r.1)
      tells next (inr d) = inr d

      pick : HasDropped bytes ⊎ ((has ≡ held + length bytes) × Stops past2 es2 has bytes)
          → HasDropped bytes ⊎ ((has ≡ held + length bytes) × Stops past es has bytes)
      pick (inl d) = inl d
      pick (inr (n, st)) = inr (n, record { next = st.next; over = st.over; tells = tells st.next st.tells })

  -- behind a record that is put whole
  pub full_put : {past es past2 es2 : List (Event s.Desc)} (state : LogState) (bytes x : List ℕ)
      → Fine past es past2 es2 x ⊎ IsDropped x → (held held2 : ℕ) → held2 ≡ held + length (in_file x) → FullSo past2 es2 state held2 bytes
      → FullSo past es state held (in_file x ++ bytes)
  full_put state bytes x (inr d) held held2 q g has e = inl ([], d.0, bytes, ap (λ z. in_file z ++ bytes) d.1)
  full_put {past} {es} {past2} {es2} state bytes x (inl f) held held2 q g has e = pick (g has e)
    where
      tells : (next : List ℕ) → ((rest : List ℕ) × Rs past2 es2 (bytes ++ (in_file next ++ rest))) ⊎ IsDropped next
          → ((rest : List ℕ) × Rs past es ((in_file x ++ bytes) ++ (in_file next ++ rest))) ⊎ IsDropped next
      tells next (inl r) =
          inl (r.0, subst (Rs past es) (sym (append_assoc (in_file x) bytes (in_file next ++ r.0))) (f (bytes ++ (in_file next ++ r.0)) r.1))
      tells next (inr d) = inr d

      pick : HasDropped bytes ⊎ ((has ≡ held2 + length bytes) × Stops past2 es2 has bytes)
          → HasDropped (in_file x ++ bytes) ⊎ ((has ≡ held + length (in_file x ++ bytes)) × Stops past es has (in_file x ++ bytes))
      pick (inl d) = inl (dropped_behind x bytes d)
      pick (inr (n, st)) =
          inr (
            n ∙ summed held held2 (length (in_file x)) (length bytes) (length (in_file x ++ bytes)) q (length-append (in_file x) bytes),
            record { next = st.next; over = st.over; tells = tells st.next st.tells },
          )
