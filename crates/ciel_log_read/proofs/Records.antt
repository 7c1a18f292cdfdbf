-- Records by their bytes: no two have the same; and what can't be read as one.
use Rattle.std.proofs.Common.{◌≡◌, ℕ, List, [], ◌∷◌, ◌++◌, refl, ap, sym, ◌∙◌, arith, append_assoc, append-nil}
use Rattle.sky_base.specs.Name.{big_endian, canon, name_bytes}
use Rattle.sky_base.specs.Val.{Desc}
use Rattle.sky_base.specs.declared.object.TaskId.{TaskId}
use Rattle.ciel_name.specs.Descs.{IsDescData}
use Rattle.ciel_name.proofs.Canon.{one_canon}
use Rattle.sky_frozen_bytes.specs.Codes.{Counted, Fits32, Free, NoneAs, ReadAs}
use Rattle.sky_frozen_bytes.proofs.Codes.{both_free, counted_free, no_first, no_second, numbers_free}
use Rattle.ciel_log_records.specs.Records.{HowEnded, block, counted, end_bytes, task_bytes}
use Rattle.ciel_log_read.specs.Bodies.{IsOfKind, record_body, record_tag}
use Rattle.ciel_log_read.specs.Laws.{OneRecord}
use Rattle.ciel_log_read.specs.Recorded.{Fits64, IsEnd, IsNamed, IsRecord, IsSpawned, IsTask, NoRecord, Recorded, dropped, record_bytes, reported}
use Rattle.ciel_log_read.specs.Recorded.{started}
use Rattle.ciel_log_read.proofs.Ends.{ends_free, tagged_free}
use Rattle.ciel_log_read.proofs.Pieces.{inner_free, longs_free, names_free, tasks_free}

-- ---- a start

abbrev from_bytes : ℕ × TaskId → List ℕ
from_bytes p = big_endian 4 p.0 ++ task_bytes p.1

abbrev FromFits : ℕ × TaskId → Type 0
FromFits p = Fits32 p.0 × IsTask p.1

abbrev worker_bytes : ℕ × (ℕ × TaskId) → List ℕ
worker_bytes p = big_endian 4 p.0 ++ from_bytes p.1

abbrev WorkerFits : ℕ × (ℕ × TaskId) → Type 0
WorkerFits p = Fits32 p.0 × FromFits p.1

abbrev Start : Type 0
Start = ℕ × (ℕ × (ℕ × TaskId))

abbrev started_bytes : Start → List ℕ
started_bytes p = big_endian 8 p.0 ++ worker_bytes p.1

abbrev StartFits : Start → Type 0
StartFits p = Fits64 p.0 × WorkerFits p.1

abbrev start_of : Start → Recorded
start_of p = started p.0 p.1.0 p.1.1.0 p.1.1.1

start_none : (old : List ℕ) → NoneAs started_bytes StartFits old → NoneAs record_body (IsOfKind record_tag IsRecord 83) old
start_none old none (started number worker from task) rest p e = none (number, (worker, (from, task))) rest p.1 e
start_none old none r rest p e = absurd (omega (arith, p.0))

-- what was read are the number and the worker
pub start_from : (old : List ℕ) (n : ℕ) (a : List ℕ) (w : ℕ) (b : List ℕ) → ReadAs (big_endian 8) Fits64 old n a
    → ReadAs (big_endian 4) Fits32 a w b → NoneAs (big_endian 4) Fits32 b → NoneAs record_body (IsOfKind record_tag IsRecord 83) old
start_from old n a w b p q none =
    start_none old (no_second (big_endian 8) Fits64 worker_bytes WorkerFits longs_free old n a p
    (no_second (big_endian 4) Fits32 from_bytes FromFits numbers_free a w b q (no_first (big_endian 4) Fits32 task_bytes IsTask b none)))

starts_free : Free started_bytes StartFits
starts_free =
    both_free (big_endian 8) Fits64 worker_bytes WorkerFits longs_free
    (both_free (big_endian 4) Fits32 from_bytes FromFits numbers_free
    (both_free (big_endian 4) Fits32 task_bytes IsTask numbers_free tasks_free))

-- ---- a report

one_desc : (d e : Desc (List ℕ)) → IsDescData d → IsDescData e → canon d ≡ canon e → d ≡ e
one_desc d e p q h = one_canon d e p.spelled q.spelled h

pub descs_free : Free (λ d. block (canon d)) IsSpawned
descs_free = inner_free canon IsDescData one_desc

abbrev copied_bytes : List (List ℕ) × HowEnded → List ℕ
copied_bytes p = counted name_bytes p.0 ++ end_bytes p.1

abbrev CopiedFits : List (List ℕ) × HowEnded → Type 0
CopiedFits p = Counted IsNamed p.0 × IsEnd p.1

abbrev Behind : Type 0
Behind = List (Desc (List ℕ)) × (List (List ℕ) × HowEnded)

abbrev spawned_bytes : Behind → List ℕ
spawned_bytes p = counted (λ d. block (canon d)) p.0 ++ copied_bytes p.1

abbrev SpawnedFits : Behind → Type 0
SpawnedFits p = Counted IsSpawned p.0 × CopiedFits p.1

abbrev reported_bytes : ℕ × Behind → List ℕ
reported_bytes p = big_endian 8 p.0 ++ spawned_bytes p.1

abbrev ReportFits : ℕ × Behind → Type 0
ReportFits p = Fits64 p.0 × SpawnedFits p.1

abbrev report_of : ℕ × Behind → Recorded
report_of p = reported p.0 p.1.0 p.1.1.0 p.1.1.1

report_none : (old : List ℕ) → NoneAs reported_bytes ReportFits old → NoneAs record_body (IsOfKind record_tag IsRecord 82) old
report_none old none (reported number spawned copied how) rest p e = none (number, (spawned, (copied, how))) rest p.1 e
report_none old none r rest p e = absurd (omega (arith, p.0))

spawned_none : (old : List ℕ) (n : ℕ) (a : List ℕ) → ReadAs (big_endian 8) Fits64 old n a → NoneAs spawned_bytes SpawnedFits a
    → NoneAs record_body (IsOfKind record_tag IsRecord 82) old
spawned_none old n a p none = report_none old (no_second (big_endian 8) Fits64 spawned_bytes SpawnedFits longs_free old n a p none)

abbrev SpawnedRead : List ℕ → List (Desc (List ℕ)) → List ℕ → Type 0
SpawnedRead = ReadAs (counted (λ d. block (canon d))) (Counted IsSpawned)

copied_none : (old : List ℕ) (n : ℕ) (a : List ℕ) (ds : List (Desc (List ℕ))) (b : List ℕ) → ReadAs (big_endian 8) Fits64 old n a
    → SpawnedRead a ds b → NoneAs copied_bytes CopiedFits b → NoneAs record_body (IsOfKind record_tag IsRecord 82) old
copied_none old n a ds b p q none =
    spawned_none old n a p (no_second (counted (λ d. block (canon d))) (Counted IsSpawned) copied_bytes CopiedFits
    (counted_free (λ d. block (canon d)) IsSpawned descs_free) a ds b q none)

pub report_spawned : (old : List ℕ) (n : ℕ) (a : List ℕ) → ReadAs (big_endian 8) Fits64 old n a
    → NoneAs (counted (λ d. block (canon d))) (Counted IsSpawned) a → NoneAs record_body (IsOfKind record_tag IsRecord 82) old
report_spawned old n a p none =
    spawned_none old n a p (no_first (counted (λ d. block (canon d))) (Counted IsSpawned) copied_bytes CopiedFits a none)

pub report_copied : (old : List ℕ) (n : ℕ) (a : List ℕ) (ds : List (Desc (List ℕ))) (b : List ℕ) → ReadAs (big_endian 8) Fits64 old n a
    → SpawnedRead a ds b → NoneAs (counted name_bytes) (Counted IsNamed) b → NoneAs record_body (IsOfKind record_tag IsRecord 82) old
report_copied old n a ds b p q none =
    copied_none old n a ds b p q (no_first (counted name_bytes) (Counted IsNamed) end_bytes IsEnd b none)

pub report_end : (old : List ℕ) (n : ℕ) (a : List ℕ) (ds : List (Desc (List ℕ))) (b : List ℕ) (ns : List (List ℕ)) (c : List ℕ)
    → ReadAs (big_endian 8) Fits64 old n a → SpawnedRead a ds b → ReadAs (counted name_bytes) (Counted IsNamed) b ns c → NoneAs end_bytes IsEnd c
    → NoneAs record_body (IsOfKind record_tag IsRecord 82) old
report_end old n a ds b ns c p q r none =
    copied_none old n a ds b p q (no_second (counted name_bytes) (Counted IsNamed) end_bytes IsEnd
    (counted_free name_bytes IsNamed names_free) b ns c r none)

reports_free : Free reported_bytes ReportFits
reports_free =
    both_free (big_endian 8) Fits64 spawned_bytes SpawnedFits longs_free
    (both_free (counted (λ d. block (canon d))) (Counted IsSpawned) copied_bytes CopiedFits
    (counted_free (λ d. block (canon d)) IsSpawned descs_free)
    (both_free (counted name_bytes) (Counted IsNamed) end_bytes IsEnd (counted_free name_bytes IsNamed names_free) ends_free))

-- ---- a dropped report

-- ---- whole records

report_is : (number spawned copied how : List ℕ) → 82 ∷ (number ++ (spawned ++ copied)) ++ how ≡ 82 ∷ (number ++ (spawned ++ (copied ++ how)))
report_is number spawned copied how =
    ap (λ b. 82 ∷ b) (append_assoc number (spawned ++ copied) how ∙ ap (λ b. number ++ b) (append_assoc spawned copied how))

record_is : (r : Recorded) → record_bytes r ≡ record_tag r ∷ record_body r
record_is (started number worker from task) = refl
record_is (reported number spawned copied how) =
    report_is (big_endian 8 number) (counted (λ d. block (canon d)) spawned) (counted name_bytes copied) (end_bytes how)
record_is (dropped number) = refl

bodies_free : (k : ℕ) → Free record_body (IsOfKind record_tag IsRecord k)
bodies_free k (started n w f t) (started m v g u) r s p q e =
    let x = starts_free (n, (w, (f, t))) (m, (v, (g, u))) r s p.1 q.1 e in (ap start_of x.0, x.1)
bodies_free k (reported n ds ns how) (reported m es ms way) r s p q e =
    let x = reports_free (n, (ds, (ns, how))) (m, (es, (ms, way))) r s p.1 q.1 e in (ap report_of x.0, x.1)
bodies_free k (dropped n) (dropped m) r s p q e =
    let x = longs_free n m r s p.1 q.1 e in (ap dropped x.0, x.1)
bodies_free k x y r s p q e = absurd (omega (arith, p.0, q.0))

pub records_free : Free record_bytes IsRecord
records_free = tagged_free record_bytes record_body record_tag IsRecord record_is bodies_free

pub one_record : OneRecord
one_record r s p q e =
    (records_free r s [] [] p q (append-nil (record_bytes r) ∙ e ∙ sym (append-nil (record_bytes s)))).0

behind : (bs mid : List ℕ) (k : ℕ) (r : Recorded) → bs ≡ k ∷ mid → record_bytes r ≡ bs → (record_tag r ≡ k) × (mid ≡ record_body r)
behind bs mid k r h e =
    let g : k ∷ mid ≡ record_tag r ∷ record_body r = sym h ∙ sym e ∙ record_is r in
    let t : record_tag r ≡ k = cc in
    let m : mid ≡ record_body r = cc in
    (t, m)

pub record_none : (bs mid : List ℕ) (k : ℕ) → bs ≡ k ∷ mid → NoneAs record_body (IsOfKind record_tag IsRecord k) mid → NoRecord bs
record_none bs mid k h none r p e =
    let t = behind bs mid k r h e in none r [] (t.0, p) (t.1 ∙ sym (append-nil (record_body r)))

pub record_more : (bs mid : List ℕ) (k : ℕ) (s : Recorded) (new : List ℕ) → bs ≡ k ∷ mid
    → ReadAs record_body (IsOfKind record_tag IsRecord k) mid s new → (new ≡ [] → ⊥) → NoRecord bs
record_more bs mid k s new h p more r q e =
    let t = behind bs mid k r h e in
    more (bodies_free k s r new [] p.1 (t.0, q) (sym p.0 ∙ t.1 ∙ sym (append-nil (record_body r)))).1

pub record_there : (bs mid : List ℕ) (k : ℕ) (s : Recorded) (new : List ℕ) → bs ≡ k ∷ mid
    → ReadAs record_body (IsOfKind record_tag IsRecord k) mid s new → new ≡ [] → record_bytes s ≡ bs
record_there bs mid k s new h p none =
    record_is s ∙ ap (λ t. t ∷ record_body s) p.1.0
    ∙ ap (λ b. k ∷ b) (sym (append-nil (record_body s)) ∙ ap (λ b. record_body s ++ b) (sym none) ∙ sym p.0) ∙ sym h
