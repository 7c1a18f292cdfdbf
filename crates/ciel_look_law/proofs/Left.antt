-- What is left of a log behind some records, and which record stands there.
use Rattle.std.proofs.Common.{◌≡◌, ◌<◌, ◌^◌, ℕ, List, [], ◌∷◌, ◌++◌, Bool, true, false, not, cond, nat_eq, get_or, length, None, Some}
use Rattle.std.proofs.Common.{filter, ◌⊎◌, inl, inr, refl, ap, sym, ◌∙◌, subst, arith, length-append}
use Rattle.sky_base.specs.KitView.{Gives}
use Rattle.sky_base.specs.See as s
use Rattle.ciel_journal.specs.History.{Event, OpenStart, Standing, after, before_all, find_open, lost, standing}
use Rattle.ciel_journal.specs.Job.{IsJob, Job}
use Rattle.ciel_journal.proofs.Append.{after_append}
use Rattle.ciel_journal.proofs.Members.{bool_cases}
use Rattle.ciel_journal_job.proofs.RealLaw.{real_laws}
use Rattle.ciel_json.specs.Around.{json_around}
use Rattle.ciel_log.specs.Logs as logs
use Rattle.ciel_log.specs.Logs.{AllFit, Idle, RecordOf, Records}
use Rattle.ciel_log_records.specs.Records.{in_file}
use Rattle.ciel_log_read.specs.Recorded as read
use Rattle.ciel_log_read.specs.Recorded.{FitsBlock, IsRecord, Recorded, record_bytes}
use Rattle.ciel_log_read.proofs.Pieces.{blocks_free}
use Rattle.ciel_look_law.proofs.Bytes.{one_dropped, one_number}
use Rattle.ciel_look_story.specs.Story.{Stand, after as after_record, closed, is_out, is_shown, tell}
use Rattle.ciel_look_told.specs.Told as told
use Rattle.ciel_look_told.specs.Told.{outcome}
use Rattle.ciel_task_order.specs.Named.{frozen_mark, mark_of, name_of, shop_job}

-- what isn't found is found among none of them
none_among : {D : Type 0} (job : Job D) (p : OpenStart D → Bool) (k : ℕ) (os : List (OpenStart D)) → find_open job k os ≡ None
    → find_open job k (filter p os) ≡ None
none_among job p k [] h = refl
none_among {D} job p k (q ∷ qs) h = pick (bool_cases (nat_eq k q.number)) (none_among job p k qs)
  where
    pick : ((nat_eq k q.number ≡ true) ⊎ (nat_eq k q.number ≡ false)) → (find_open job k qs ≡ None → find_open job k (filter p qs) ≡ None)
        → find_open job k (filter p (q ∷ qs)) ≡ None
    pick (inl t) r = let bad : Some q ≡ None = sym (ap (λ b. cond b (Some q) (find_open job k qs)) t) ∙ h in absurd cc
    pick (inr f) r = choose (p q)
      where
        less : find_open job k (filter p qs) ≡ None
        less = r (sym (ap (λ b. cond b (Some q) (find_open job k qs)) f) ∙ h)

        choose : (b : Bool) → find_open job k (cond b (q ∷ filter p qs) (filter p qs)) ≡ None
        choose true = ap (λ b. cond b (Some q) (find_open job k (filter p qs))) f ∙ less
        choose false = less

module _ (digest : List ℕ → List ℕ) (job : s.Job) (gives : Gives) where
  abbrev pub J : Job s.Desc
  J = shop_job digest job gives

  -- which is a job, whatever its names and marks are
  pub laws : IsJob J
  laws = real_laws job (json_around gives) (name_of digest) (mark_of digest) (frozen_mark digest)

  abbrev pub Rs : List (Event s.Desc) → List (Event s.Desc) → List ℕ → Type 0
  Rs past es bytes = Records digest job gives past es bytes

  -- what stands there, with one event more
  pub one_more : (past : List (Event s.Desc)) (e : Event s.Desc) → standing J (past ++ e ∷ []) ≡ after J (standing J past) e
  one_more past e = after_append J (before_all J) past e

  -- ---- a loss carried out before idle records

  pub free_on : (past : List (Event s.Desc)) (w closes k : ℕ) → find_open J k (standing J past).orders ≡ None
      → find_open J k (standing J (past ++ lost w closes ∷ [])).orders ≡ None
  free_on past w closes k h =
      subst (λ (v : Standing s.Desc). find_open J k v.orders ≡ None) (sym (one_more past (lost w closes)))
      (none_among J (λ (o : OpenStart s.Desc). not (nat_eq w o.worker)) k (standing J past).orders h)

  goes_on : (past : List (Event s.Desc)) (w closes : ℕ) → (standing J past).over ≡ false
      → (standing J (past ++ lost w closes ∷ [])).over ≡ false
  goes_on past w closes h = subst (λ (v : Standing s.Desc). v.over ≡ false) (sym (one_more past (lost w closes))) h

  idle_on : (past : List (Event s.Desc)) (w closes : ℕ) (bytes : List ℕ) → Idle digest job gives past bytes
      → Idle digest job gives (past ++ lost w closes ∷ []) bytes
  idle_on past w closes bytes (logs.reported k free spawned copied how can) =
      logs.reported k (free.0, free_on past w closes k free.1, goes_on past w closes free.2) spawned copied how can
  idle_on past w closes bytes (logs.dropped k free) = logs.dropped k (free.0, free_on past w closes k free.1, goes_on past w closes free.2)

  -- records that each have a length of four bytes
  pub record FitRecords (past es : List (Event s.Desc)) (bytes : List ℕ) : Type 0 where
    pub records : Rs past es bytes
    pub fit : AllFit digest job gives records

  pub all_fit : {past es : List (Event s.Desc)} {rest : List ℕ} → (r : Rs past es rest) → length rest < 2 ^ 32 → AllFit digest job gives r
  all_fit logs.over b = tt
  all_fit (logs.idle {past} {es} {rest} bytes i more) b =
      let l = length-append (in_file bytes) rest in (omega (arith, l, b), all_fit more (omega (arith, l, b)))
  all_fit (logs.loses w closes more) b = all_fit more b
  all_fit (logs.tells {past} {es} {rest} e bytes o more) b =
      let l = length-append (in_file bytes) rest in (omega (arith, l, b), all_fit more (omega (arith, l, b)))

  pub lose_first : (past es : List (Event s.Desc)) (w closes : ℕ) (rest : List ℕ) → (r : Rs past (lost w closes ∷ es) rest)
      → AllFit digest job gives r → FitRecords (past ++ lost w closes ∷ []) es rest
  lose_first past es w closes rest (logs.idle bytes i more) f =
      let n = lose_first past es w closes _ more f.1 in
      record { records = logs.idle bytes (idle_on past w closes bytes i) n.records; fit = (f.0, n.fit) }
  lose_first past es w closes rest (logs.loses v n more) f = record { records = more; fit = f }
  lose_first past es w closes rest (logs.tells e bytes r more) f = absurd r

  -- ---- the record that stands there

  -- it is an idle one; or that of the next event, where this is no loss
  pub data NextIs (past : List (Event s.Desc)) (r : Recorded) (left : List ℕ) : List (Event s.Desc) → Type 0 where
    idles : {es : List (Event s.Desc)} (bytes : List ℕ) → Idle digest job gives past bytes → record_bytes r ≡ bytes → FitRecords past es left
        → NextIs past r left es
    tells : {es : List (Event s.Desc)} (e : Event s.Desc) (bytes : List ℕ) → RecordOf digest job gives past e bytes → record_bytes r ≡ bytes
        → FitRecords (past ++ e ∷ []) es left → NextIs past r left (e ∷ es)
    loses : {es : List (Event s.Desc)} (w closes : ℕ) → NextIs past r left (lost w closes ∷ es)

  pub next_is : {past es : List (Event s.Desc)} {rest : List ℕ} → (l : Rs past es rest) → AllFit digest job gives l → (r : Recorded)
      (left : List ℕ) → rest ≡ in_file (record_bytes r) ++ left → FitsBlock (record_bytes r) → NextIs past r left es
  next_is logs.over f r left e b = absurd cc
  next_is (logs.idle {past} {es} {rest} bytes i more) f r left e b =
      let same = blocks_free bytes (record_bytes r) rest left f.0 b e in
      idles bytes i (sym same.0) (subst (FitRecords past es) same.1 (record { records = more; fit = f.1 }))
  next_is (logs.loses w closes more) f r left e b = loses w closes
  next_is (logs.tells {past} {es} {rest} e bytes o more) f r left q b =
      let same = blocks_free bytes (record_bytes r) rest left f.0 b q in
      tells e bytes o (sym same.0) (subst (FitRecords (past ++ e ∷ []) es) same.1 (record { records = more; fit = f.1 }))

  -- ---- idle records are told as late

  -- no order is out that isn't open
  abbrev pub Frees : List (Event s.Desc) → Stand → Type 0
  Frees past v = (k : ℕ) → find_open J k (standing J past).orders ≡ None → is_out v k ≡ false

  pub record Late (past : List (Event s.Desc)) (v : Stand) (r : Recorded) : Type 0 where
    pub number : ℕ
    pub free : find_open J number (standing J past).orders ≡ None
    pub told : tell v r ≡ told.late number
    pub still : after_record v r ≡ v

  pub idle_late : (past : List (Event s.Desc)) (v : Stand) → Frees past v → (r : Recorded) → IsRecord r → (bytes : List ℕ)
      → Idle digest job gives past bytes → record_bytes r ≡ bytes → Late past v r
  idle_late past v f (read.started n w from t) g bytes (logs.reported k free ds ns how can) e =
      let h = ap (λ b. get_or b 0 0) e in absurd (omega (arith, h))
  idle_late past v f (read.started n w from t) g bytes (logs.dropped k free) e =
      let h = ap (λ b. get_or b 0 0) e in absurd (omega (arith, h))
  idle_late past v f (read.reported n es ms way) g bytes (logs.reported k free ds ns how can) e =
      let same = one_number n k es ds ms ns way how g.0 free.0 e in
      let out : is_out v n ≡ false = ap (is_out v) same ∙ f k free.1 in
      record {
        number = n;
        free = subst (λ q. find_open J q (standing J past).orders ≡ None) (sym same) free.1;
        told = ap (λ b. cond b (told.ended n es ms (outcome way)) (told.late n)) out;
        still = ap (λ b. cond b (closed v n (is_shown way)) v) out;
      }
  idle_late past v f (read.reported n es ms way) g bytes (logs.dropped k free) e =
      let h = ap (λ b. get_or b 0 0) e in absurd (omega (arith, h))
  idle_late past v f (read.dropped n) g bytes (logs.reported k free ds ns how can) e =
      let h = ap (λ b. get_or b 0 0) e in absurd (omega (arith, h))
  idle_late past v f (read.dropped n) g bytes (logs.dropped k free) e =
      let same = one_dropped n k g free.0 e in
      record {
        number = n;
        free = subst (λ q. find_open J q (standing J past).orders ≡ None) (sym same) free.1;
        told = refl;
        still = refl;
      }
