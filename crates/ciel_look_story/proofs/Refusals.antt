-- Which files are no log, and what a file tells.
use Rattle.std.proofs.Common.{◌≡◌, ◌≤◌, ◌+◌, ℕ, List, [], ◌∷◌, ◌++◌, map, refl, ap, sym, subst, arith, append-nil}
use Rattle.ciel_log_read.specs.File.{NoRecordAt, RecordAt}
use Rattle.ciel_log_read.specs.Recorded.{IsRecord, NoRecord, Recorded, record_bytes}
use Rattle.ciel_log_read.proofs.Files.{one_at, record_not, record_within}
use Rattle.ciel_look_told.specs.Head.{HasNoHead, Head, IsHead, head_bytes, losses}
use Rattle.ciel_look_story.specs.Inside.{Goes, Progress, stand_of}
use Rattle.ciel_look_story.specs.Story.{BeginsLog, NotLog, Rests, StandUpTo, Story, Tells, before_all}
use Rattle.ciel_look_told.specs.View.{told_view}
use Rattle.ciel_look_story.specs.declared.teller.Teller.{Teller}
use Rattle.ciel_look_told.specs.declared.told.Told.{Told}
use Rattle.ciel_look_story.proofs.Tellings.{each_more, goes_all, goes_none, goes_on, stand_more}

pub nothing_there : (log : List ℕ) → NoRecordAt log 0 → NotLog log 0
nothing_there log none = NotLog.no_header (λ head next good r. record_not log 0 (head_bytes head) next r none)

pub no_header_there : (log : List ℕ) (bytes : List ℕ) (next : ℕ) → RecordAt log 0 bytes next → HasNoHead bytes → NotLog log 0
no_header_there log bytes next r none =
    NotLog.no_header (λ head end good s. none head good (one_at log 0 (head_bytes head) end bytes next s r).0)

-- ---- behind a header

module _ (log : List ℕ) (head : Head) (first : ℕ) (header : RecordAt log 0 (head_bytes head) first) (good : IsHead head) where
  begins : (planned : List (ℕ × ℕ)) (t : Teller) (ts : List Told) (at : ℕ) → (p : Progress planned log first t ts at) → BeginsLog log head p.rs at
  begins planned t ts at p = record { good = good; first = first; header = header; whole = p.whole; records = p.there }

  pub no_record_there : (planned : List (ℕ × ℕ)) (t : Teller) (ts : List Told) (at : ℕ) → Progress planned log first t ts at
      → (bytes : List ℕ) (next : ℕ) → RecordAt log at bytes next → NoRecord bytes → NotLog log at
  no_record_there planned t ts at p bytes next r none = NotLog.no_record head p.rs at (begins planned t ts at p) bytes next r none

  -- nothing more stands there, and what is due was told
  pub all_told : (planned : List (ℕ × ℕ)) → planned ≡ losses head → (t : Teller) (ts : List Told) (at : ℕ) → Progress planned log first t ts at
      → NoRecordAt log at → (u : Teller) (us : List Told) → Goes planned (stand_of t) [] (map told_view ts) (map told_view us) (stand_of u)
      → Rests planned (stand_of u) → Tells log head (map told_view us)
  all_told planned e t ts at p none u us g rests = (
    p.rs,
    (at, begins planned t ts at p, none),
    subst (λ ls. Story ls before_all p.rs (map told_view us)) e
        (subst (λ rs. Story planned before_all rs (map told_view us)) (append-nil p.rs)
        (goes_all planned (goes_on planned p.goes g) rests)),
  )

-- ---- record by record

map_push : (rs : List Recorded) (r : Recorded) → map record_bytes (rs ++ r ∷ []) ≡ map record_bytes rs ++ record_bytes r ∷ []
map_push [] r = refl
map_push (q ∷ rs) r = ap (λ bs. record_bytes q ∷ bs) (map_push rs r)

pub begun : (planned : List (ℕ × ℕ)) (log : List ℕ) (bytes : List ℕ) (first : ℕ) → RecordAt log 0 bytes first → (t : Teller) (ts : List Told)
    → t.closes ≡ 0 → stand_of t ≡ before_all → ts ≡ [] → Progress planned log first t ts first
begun planned log bytes first r t ts c e h =
    record {
      rs = [];
      whole = tt;
      there = refl;
      goes = subst (λ xs. Goes planned before_all [] [] (map told_view xs) (stand_of t)) (sym h)
          (subst (Goes planned before_all [] [] []) (sym e) (goes_none planned before_all []));
      closes = omega (arith, c);
      within = record_within log 0 bytes first r;
    }

pub one_more : (planned : List (ℕ × ℕ)) (log : List ℕ) (first : ℕ) (t : Teller) (ts : List Told) (at : ℕ) → Progress planned log first t ts at
    → (r : Recorded) (next : ℕ) → RecordAt log at (record_bytes r) next → IsRecord r → (u : Teller) (us : List Told)
    → Goes planned (stand_of t) (r ∷ []) (map told_view ts) (map told_view us) (stand_of u) → u.closes ≤ t.closes + 1
    → Progress planned log first u us next
one_more planned log first t ts at p r next here good u us g c =
    record {
      rs = p.rs ++ r ∷ [];
      whole = each_more p.rs r p.whole good;
      there = subst (λ bs. StandUpTo log first bs next) (sym (map_push p.rs r))
          (stand_more log first (map record_bytes p.rs) at (record_bytes r) next p.there here);
      goes = goes_on planned p.goes g;
      closes = omega (arith, p.closes, c, here.behind);
      within = record_within log at (record_bytes r) next here;
    }
