-- Records one behind the other in a file: they are told in one way, and a cut leaves the first ones.
use Rattle.std.proofs.Common.{◌≡◌, ◌≤◌, ◌<◌, ◌+◌, ◌-◌, inl, inr, min, ℕ, zero, suc, List, [], ◌∷◌, ◌++◌, drop, flat_map, length, take, refl}
use Rattle.std.proofs.Common.{ap, ap₂, sym, ◌∙◌, subst, arith, append_assoc, drop-drop, drop_at, length-append, length-drop, length-take, take-append-drop}
use Rattle.std.proofs.lemmas.Bool.{cases_lt}
use Rattle.sky_base_law.specs.Tasks.{Each}
use Rattle.ciel_log_records.specs.Records.{in_file}
use Rattle.ciel_log_read.specs.File.{CutFile, HasRecords, NoRecordAt, OneReading, RecordAt}
use Rattle.ciel_log_read.specs.Recorded.{FitsBlock}
use Rattle.ciel_log_read.proofs.Pieces.{blocks_free}

-- ---- one reading

module _ (log : List ℕ) (at : ℕ) where
  pub one_at : (a : List ℕ) (next : ℕ) (b : List ℕ) (end : ℕ) → RecordAt log at a next → RecordAt log at b end → (a ≡ b) × (next ≡ end)
  one_at a next b end s t =
      let same = blocks_free a b (drop next log) (drop end log) s.fits t.fits (sym s.here ∙ t.here) in
      (same.0, s.behind ∙ ap (λ x. at + 4 + length x) same.0 ∙ sym t.behind)

  pub record_not : (a : List ℕ) (next : ℕ) → RecordAt log at a next → NoRecordAt log at → ⊥
  record_not a next s none = none a (drop next log) s.fits s.here

  pub record_within : (a : List ℕ) (next : ℕ) → RecordAt log at a next → next ≤ length log
  record_within a next s =
      omega (arith, ap length s.here, length-append (in_file a) (drop next log), length-drop at log, length-drop next log, s.behind)

pub one_reading : OneReading
one_reading log at [] [] p q = refl
one_reading log at [] (b ∷ ys) p q = absurd (record_not log at b q.0 q.1 p)
one_reading log at (a ∷ xs) [] p q = absurd (record_not log at a p.0 p.1 q)
one_reading log at (a ∷ xs) (b ∷ ys) p q =
    let same = one_at log at a p.0 b q.0 p.1 q.1 in
    ap₂ (λ x zs. x ∷ zs) same.0 (one_reading log p.0 xs ys p.2 (subst (λ k. HasRecords log k ys) (sym same.1) q.2))

-- ---- a cut

take_past : (n : ℕ) (xs ys : List ℕ) → length xs ≤ n → take n (xs ++ ys) ≡ xs ++ take (n - length xs) ys
take_past n [] ys h = ap (λ k. take k ys) (omega arith)
take_past zero (x ∷ xs) ys h = absurd (omega arith)
take_past (suc n) (x ∷ xs) ys h =
    let k : n - length xs ≡ suc n - length (x ∷ xs) = omega arith in
    ap (λ l. x ∷ l) (take_past n xs ys (omega arith)) ∙ ap (λ m. x ∷ (xs ++ take m ys)) k

-- a cut within the first record leaves nothing
nothing_left : (log : List ℕ) (at n : ℕ) (r behind : List ℕ) → FitsBlock r → drop at log ≡ take n (in_file r ++ behind) → n < length (in_file r)
    → NoRecordAt log at
nothing_left log at n r behind f e h bytes rest p g =
    let all : in_file bytes ++ (rest ++ drop n (in_file r ++ behind)) ≡ in_file r ++ behind =
    sym (append_assoc (in_file bytes) rest (drop n (in_file r ++ behind)))
    ∙ ap (λ l. l ++ drop n (in_file r ++ behind)) (sym g ∙ e) ∙ take-append-drop n (in_file r ++ behind) in
    let same = blocks_free bytes r (rest ++ drop n (in_file r ++ behind)) behind p f all in
    let long : length (drop at log) ≡ length (in_file bytes) + length rest = ap length g ∙ length-append (in_file bytes) rest in
    let short : length (drop at log) ≡ min n (length (in_file r ++ behind)) = ap length e ∙ length-take n (in_file r ++ behind) in
    let one : length (in_file bytes) ≡ length (in_file r) = ap (λ x. length (in_file x)) same.0 in
    absurd (omega (arith, long, short, one, h))

-- the next one of them stands there
next_there : (log : List ℕ) (at n : ℕ) (r behind : List ℕ) → FitsBlock r → drop at log ≡ take n (in_file r ++ behind) → length (in_file r) ≤ n
    → RecordAt log at r (at + 4 + length r) × (drop (at + 4 + length r) log ≡ take (n - length (in_file r)) behind)
next_there log at n r behind f e h =
    let here : drop at log ≡ in_file r ++ take (n - length (in_file r)) behind = e ∙ take_past n (in_file r) behind h in
    let place : at + 4 + length r ≡ at + length (in_file r) = omega arith in
    let left : drop (at + 4 + length r) log ≡ take (n - length (in_file r)) behind =
    ap (λ k. drop k log) place ∙ sym (drop-drop (length (in_file r)) at log) ∙ ap (λ l. drop (length (in_file r)) l) here
    ∙ drop_at (in_file r) (take (n - length (in_file r)) behind) (length (in_file r)) refl in
    (record { fits = f; here = here ∙ ap (λ b. in_file r ++ b) (sym left); behind = refl }, left)

abbrev CutAt : List ℕ → ℕ → List (List ℕ) → Type 0
CutAt log at records = (whole rest : List (List ℕ)) × (whole ++ rest ≡ records) × HasRecords log at whole

cut_at : (records : List (List ℕ)) (log : List ℕ) (at n : ℕ) → Each FitsBlock records → drop at log ≡ take n (flat_map in_file records)
    → CutAt log at records
cut_at [] log at n f e =
    let none : NoRecordAt log at = λ bytes rest p g.
    let long : length (drop at log) ≡ length (in_file bytes) + length rest = ap length g ∙ length-append (in_file bytes) rest in
    let short : length (drop at log) ≡ min n 0 = ap length e ∙ length-take n (flat_map in_file []) in
    absurd (omega (arith, long, short)) in
    ([], [], refl, none)
cut_at (r ∷ records) log at n f e = elim (cases_lt n (length (in_file r))) [
  | inl h ↦ ([], r ∷ records, refl, nothing_left log at n r (flat_map in_file records) f.0 e h)
  | inr h ↦
      let s = next_there log at n r (flat_map in_file records) f.0 e h in
      let t = cut_at records log (at + 4 + length r) (n - length (in_file r)) f.1 s.1 in
      (r ∷ t.0, t.1, ap (λ xs. r ∷ xs) t.2, (at + 4 + length r, s.0, t.3))
]

pub cut_file : CutFile
cut_file records n f = cut_at records (take n (flat_map in_file records)) 0 n f refl
