-- The header by its parts: what can't be read behind those that were.
use Rattle.std.proofs.Common.{◌≡◌, ◌≤◌, ◌<◌, ℕ, List, [], ◌∷◌, ◌++◌, Bool, true, false, length, refl, ap, sym, ◌∙◌, arith, append_assoc, append-nil, flat_map, length-append, ◌+◌}
use Rattle.sky_base.specs.Name.{big_endian, bytes_of_text}
use Rattle.ciel_name.proofs.PrefixFreeBytes.{four_free, split_same, text_free}
use Rattle.ciel_name.specs.Spelled.{IsText}
use Rattle.sky_frozen_bytes.specs.Codes.{Counted, Fits32, Free, ListRead, NoneAs, ReadAs}
use Rattle.sky_frozen_bytes.proofs.Codes.{both_free, both_read, counted_free, counted_read, four_short, no_first, no_second, numbers_free}
use Rattle.ciel_log_records.specs.Records.{counted, loss_bytes, namer_byte}
use Rattle.ciel_log_read.specs.Recorded.{Fits64}
use Rattle.ciel_log_read.proofs.Pieces.{longs_free}
use Rattle.ciel_look_told.specs.Head.{Head, HasNoHead, IsHead, IsInput, IsLoss, IsMark, IsMarks, IsNamer, IsPlan, Marks, head_body, head_bytes, input_bytes}
use Rattle.ciel_look_told.specs.Head.{mark_bytes, marks_bytes, namer_bytes}

-- ---- no part begins another of its kind

pub namers_free : Free namer_bytes IsNamer
namers_free true true r s p q e = let g : r ≡ s = cc in (refl, g)
namers_free true false r s p q e = absurd cc
namers_free false true r s p q e = absurd cc
namers_free false false r s p q e = let g : r ≡ s = cc in (refl, g)

pub marks_free : Free mark_bytes IsMark
marks_free x y r s p q e = split_same x y r s (p ∙ sym q) e

texts_free : Free bytes_of_text IsText
texts_free x y r s p q e = text_free x y r s p q e

pub inputs_free : Free input_bytes IsInput
inputs_free = both_free bytes_of_text IsText mark_bytes IsMark texts_free marks_free

pub loss_free : Free loss_bytes IsLoss
loss_free = both_free (big_endian 4) Fits32 (big_endian 4) Fits32 numbers_free numbers_free

pub losses_free : Free (counted loss_bytes) IsPlan
losses_free x y r s p q e = counted_free loss_bytes IsLoss loss_free x y r s p.0 q.0 e

-- ---- the losses of a plan

pub no_plan : (old : List ℕ) → NoneAs (counted loss_bytes) (Counted IsLoss) old → NoneAs (counted loss_bytes) IsPlan old
no_plan old none x rest p e = none x rest p.0 e

pub plan_read : (old : List ℕ) (n : ℕ) (mid : List ℕ) (xs : List (ℕ × ℕ)) (new : List ℕ) → old ≡ big_endian 4 n ++ mid → Fits32 n → n ≤ 64
    → ListRead loss_bytes IsLoss n mid xs new → ReadAs (counted loss_bytes) IsPlan old xs new
plan_read old n mid xs new e f h p =
    let r = counted_read loss_bytes IsLoss old n mid xs new e f p in
    let l : length xs ≡ n = p.1.1 in
    (r.0, (r.1, omega (arith, l, h)))

pub loss_none : (old : List ℕ) → length old < 4 → NoneAs loss_bytes IsLoss old
loss_none old h = no_first (big_endian 4) Fits32 (big_endian 4) Fits32 old (four_short old h)

pub loss_worker : (old : List ℕ) (n : ℕ) (mid : List ℕ) → old ≡ big_endian 4 n ++ mid → Fits32 n → length mid < 4 → NoneAs loss_bytes IsLoss old
loss_worker old n mid e f h = no_second (big_endian 4) Fits32 (big_endian 4) Fits32 numbers_free old n mid (e, f) (four_short mid h)

pub loss_read : (old : List ℕ) (n : ℕ) (mid : List ℕ) (w : ℕ) (new : List ℕ) → old ≡ big_endian 4 n ++ mid → Fits32 n
    → mid ≡ big_endian 4 w ++ new → Fits32 w → ReadAs loss_bytes IsLoss old (n, w) new
loss_read old n mid w new e f g h = both_read (big_endian 4) Fits32 (big_endian 4) Fits32 old n mid w new (e, f) (g, h)

-- more than a plan has
pub too_many : (old : List ℕ) (n : ℕ) (mid : List ℕ) → old ≡ big_endian 4 n ++ mid → Fits32 n → 64 < n → NoneAs (counted loss_bytes) IsPlan old
too_many old n mid e f h xs rest p g =
    let same = four_free n (length xs) mid (flat_map loss_bytes xs ++ rest) f p.0.0
    (sym e ∙ g ∙ append_assoc (big_endian 4 (length xs)) (flat_map loss_bytes xs) rest) in
    absurd (omega (arith, same.0, p.1, h))

-- ---- marks, namers and inputs

pub mark_short : (old : List ℕ) → length old < 20 → NoneAs mark_bytes IsMark old
mark_short old h m rest p e =
    let l : length old ≡ length m + length rest = ap length e ∙ length-append m rest in absurd (omega (arith, l, p, h))

pub no_namer : (k : ℕ) → (k ≡ 1 → ⊥) → (k ≡ 2 → ⊥) → (b : Bool) → namer_byte b ≡ k → ⊥
no_namer k one two true e = one (sym e)
no_namer k one two false e = two (sym e)

pub namer_none : (old : List ℕ) → old ≡ [] → NoneAs namer_bytes IsNamer old
namer_none old h b rest p e = let t : namer_byte b ∷ rest ≡ [] = sym e ∙ h in absurd cc

pub namer_other : (old : List ℕ) (k : ℕ) (mid : List ℕ) → old ≡ k ∷ mid → ((b : Bool) → namer_byte b ≡ k → ⊥) → NoneAs namer_bytes IsNamer old
namer_other old k mid e none b rest p g = let t : namer_byte b ∷ rest ≡ k ∷ mid = sym g ∙ e in none b cc

pub namer_read : (old : List ℕ) (k : ℕ) (mid : List ℕ) (b : Bool) → old ≡ k ∷ mid → namer_byte b ≡ k → ReadAs namer_bytes IsNamer old b mid
namer_read old k mid b e h = (e ∙ ap (λ n. n ∷ mid) (sym h), tt)

pub input_key : (old : List ℕ) → NoneAs bytes_of_text IsText old → NoneAs input_bytes IsInput old
input_key old none = no_first bytes_of_text IsText mark_bytes IsMark old none

pub input_mark : (old : List ℕ) (t : List ℕ) (mid : List ℕ) → ReadAs bytes_of_text IsText old t mid → NoneAs mark_bytes IsMark mid
    → NoneAs input_bytes IsInput old
input_mark old t mid p none = no_second bytes_of_text IsText mark_bytes IsMark texts_free old t mid p none

pub input_read : (old : List ℕ) (t : List ℕ) (mid : List ℕ) (m : List ℕ) (new : List ℕ) → ReadAs bytes_of_text IsText old t mid
    → ReadAs mark_bytes IsMark mid m new → ReadAs input_bytes IsInput old (t, m) new
input_read old t mid m new p q = both_read bytes_of_text IsText mark_bytes IsMark old t mid m new p q

-- ---- what a header tells of the job

abbrev script_bytes : List ℕ × List (List ℕ × List ℕ) → List ℕ
script_bytes p = mark_bytes p.0 ++ counted input_bytes p.1

abbrev IsScript : List ℕ × List (List ℕ × List ℕ) → Type 0
IsScript p = IsMark p.0 × Counted IsInput p.1

pub job_namer : (old : List ℕ) → NoneAs namer_bytes IsNamer old → NoneAs marks_bytes IsMarks old
job_namer old none = no_first namer_bytes IsNamer script_bytes IsScript old none

pub job_script : (old : List ℕ) (b : Bool) (a : List ℕ) → ReadAs namer_bytes IsNamer old b a → NoneAs mark_bytes IsMark a
    → NoneAs marks_bytes IsMarks old
job_script old b a p none =
    no_second namer_bytes IsNamer script_bytes IsScript namers_free old b a p (no_first mark_bytes IsMark (counted input_bytes) (Counted IsInput) a none)

pub job_inputs : (old : List ℕ) (b : Bool) (a : List ℕ) (m : List ℕ) (c : List ℕ) → ReadAs namer_bytes IsNamer old b a
    → ReadAs mark_bytes IsMark a m c → NoneAs (counted input_bytes) (Counted IsInput) c → NoneAs marks_bytes IsMarks old
job_inputs old b a m c p q none =
    no_second namer_bytes IsNamer script_bytes IsScript namers_free old b a p
    (no_second mark_bytes IsMark (counted input_bytes) (Counted IsInput) marks_free a m c q none)

pub job_read : (old : List ℕ) (b : Bool) (a : List ℕ) (m : List ℕ) (c : List ℕ) (is : List (List ℕ × List ℕ)) (new : List ℕ)
    → ReadAs namer_bytes IsNamer old b a → ReadAs mark_bytes IsMark a m c → ReadAs (counted input_bytes) (Counted IsInput) c is new
    → ReadAs marks_bytes IsMarks old (b, (m, is)) new
job_read old b a m c is new p q r =
    both_read namer_bytes IsNamer script_bytes IsScript old b a (m, is) new p
    (both_read mark_bytes IsMark (counted input_bytes) (Counted IsInput) a m c is new q r)

-- ---- the header

abbrev Planned : Type 0
Planned = List (ℕ × ℕ) × Marks

abbrev planned_bytes : Planned → List ℕ
planned_bytes p = counted loss_bytes p.0 ++ marks_bytes p.1

abbrev IsPlanned : Planned → Type 0
IsPlanned p = IsPlan p.0 × IsMarks p.1

abbrev seeded_bytes : ℕ × Planned → List ℕ
seeded_bytes p = big_endian 8 p.0 ++ planned_bytes p.1

abbrev IsSeeded : ℕ × Planned → Type 0
IsSeeded p = Fits64 p.0 × IsPlanned p.1

pub head_workers : (old : List ℕ) → NoneAs (big_endian 4) Fits32 old → NoneAs head_body IsHead old
head_workers old none = no_first (big_endian 4) Fits32 seeded_bytes IsSeeded old none

module _ (old : List ℕ) (n : ℕ) (a : List ℕ) (workers : ReadAs (big_endian 4) Fits32 old n a) where
  behind_workers : NoneAs seeded_bytes IsSeeded a → NoneAs head_body IsHead old
  behind_workers none = no_second (big_endian 4) Fits32 seeded_bytes IsSeeded numbers_free old n a workers none

  pub head_seed : NoneAs (big_endian 8) Fits64 a → NoneAs head_body IsHead old
  head_seed none = behind_workers (no_first (big_endian 8) Fits64 planned_bytes IsPlanned a none)

  module _ (s : ℕ) (b : List ℕ) (seed : ReadAs (big_endian 8) Fits64 a s b) where
    behind_seed : NoneAs planned_bytes IsPlanned b → NoneAs head_body IsHead old
    behind_seed none = behind_workers (no_second (big_endian 8) Fits64 planned_bytes IsPlanned longs_free a s b seed none)

    pub head_losses : NoneAs (counted loss_bytes) IsPlan b → NoneAs head_body IsHead old
    head_losses none = behind_seed (no_first (counted loss_bytes) IsPlan marks_bytes IsMarks b none)

    pub head_marks : (ls : List (ℕ × ℕ)) (c : List ℕ) → ReadAs (counted loss_bytes) IsPlan b ls c → NoneAs marks_bytes IsMarks c
        → NoneAs head_body IsHead old
    head_marks ls c p none = behind_seed (no_second (counted loss_bytes) IsPlan marks_bytes IsMarks losses_free b ls c p none)

    pub head_read : (ls : List (ℕ × ℕ)) (c : List ℕ) (m : Marks) (new : List ℕ) → ReadAs (counted loss_bytes) IsPlan b ls c
        → ReadAs marks_bytes IsMarks c m new → ReadAs head_body IsHead old (n, (s, (ls, m))) new
    head_read ls c m new p q =
        both_read (big_endian 4) Fits32 seeded_bytes IsSeeded old n a (s, (ls, m)) new workers
        (both_read (big_endian 8) Fits64 planned_bytes IsPlanned a s b (ls, m) new seed
        (both_read (counted loss_bytes) IsPlan marks_bytes IsMarks b ls c m new p q))

heads_free : Free head_body IsHead
heads_free =
    both_free (big_endian 4) Fits32 seeded_bytes IsSeeded numbers_free
    (both_free (big_endian 8) Fits64 planned_bytes IsPlanned longs_free
    (both_free (counted loss_bytes) IsPlan marks_bytes IsMarks losses_free
    (both_free namer_bytes IsNamer script_bytes IsScript namers_free
    (both_free mark_bytes IsMark (counted input_bytes) (Counted IsInput) marks_free (counted_free input_bytes IsInput inputs_free)))))

-- ---- the whole record

pub no_kind : (bytes mid : List ℕ) (k : ℕ) → bytes ≡ k ∷ mid → (k ≡ 72 → ⊥) → HasNoHead bytes
no_kind bytes mid k e h head p g = h (sym (let t : 72 ≡ k = cc in t))

pub no_body : (bytes mid : List ℕ) → bytes ≡ 72 ∷ mid → NoneAs head_body IsHead mid → HasNoHead bytes
no_body bytes mid e none head p g =
    let t : head_body head ≡ mid = cc in none head [] p (sym t ∙ sym (append-nil (head_body head)))

pub head_there : (bytes mid : List ℕ) (x : Head) (new : List ℕ) → bytes ≡ 72 ∷ mid → ReadAs head_body IsHead mid x new → new ≡ [] → head_bytes x ≡ bytes
head_there bytes mid x new e p h =
    sym (e ∙ ap (λ m. 72 ∷ m) (p.0 ∙ ap (λ n. head_body x ++ n) h ∙ append-nil (head_body x)))

-- bytes stand behind a header
pub no_end : (bytes mid : List ℕ) (x : Head) (new : List ℕ) → bytes ≡ 72 ∷ mid → ReadAs head_body IsHead mid x new → (new ≡ [] → ⊥) → HasNoHead bytes
no_end bytes mid x new e p more head q g =
    let t : head_body head ≡ mid = cc in
    more (heads_free x head new [] p.1 q (sym p.0 ∙ sym t ∙ sym (append-nil (head_body head)))).1
