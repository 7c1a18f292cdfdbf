-- Entries by their bytes: none begins another; and what can't be read as one.
use Rattle.std.proofs.Common.{◌≡◌, ◌<◌, ℕ, List, [], ◌++◌, flat_map, length, ap, ap₂, sym, ◌∙◌, subst, append_assoc}
use Rattle.sky_base.specs.Name.{big_endian, bytes, bytes_of_text}
use Rattle.sky_base.specs.Val.{Val}
use Rattle.ciel_name.specs.Spelled.{IsData, IsText}
use Rattle.ciel_name.proofs.PrefixFreeBytes.{four_free, split_same}
use Rattle.sky_frozen_bytes.specs.Bytes.{counted}
use Rattle.sky_frozen_bytes.specs.Codes.{Counted, Fits32, Free, ListRead, NoList, NoneAs, ReadAs}
use Rattle.sky_frozen_bytes.proofs.Codes.{both_free, counted_free, four_short, no_first, no_second, numbers_free}
use Rattle.sky_frozen_bytes.proofs.Parts.{data_free, texts_free}
use Rattle.ciel_memo_key.specs.Keys.{block}
use Rattle.ciel_memo_file.specs.Entries.{Entry}
use Rattle.ciel_memo_file.specs.File.{IsBlock, IsSpelled, entry_bytes, key_bytes}
use Rattle.ciel_memo_file.specs.Laws.{OneKey}

pub blocks_free : Free block IsBlock
blocks_free t u r s p q e =
    let l = four_free (length t) (length u) (t ++ r) (u ++ s) p q e in split_same t u r s l.0 l.1

-- ---- the parts of a key, one behind the other

abbrev outputs_bytes : ℕ × List (List ℕ) → List ℕ
outputs_bytes p = big_endian 4 p.0 ++ counted block p.1

abbrev OutputsFit : ℕ × List (List ℕ) → Type 0
OutputsFit p = Fits32 p.0 × Counted IsBlock p.1

abbrev args_bytes : Val (List ℕ) × (ℕ × List (List ℕ)) → List ℕ
args_bytes p = bytes p.0 ++ outputs_bytes p.1

abbrev ArgsFit : Val (List ℕ) × (ℕ × List (List ℕ)) → Type 0
ArgsFit p = IsData p.0 × OutputsFit p.1

abbrev pub Parts : Type 0
Parts = List ℕ × (Val (List ℕ) × (ℕ × List (List ℕ)))

abbrev pub parts_bytes : Parts → List ℕ
parts_bytes p = bytes_of_text p.0 ++ args_bytes p.1

abbrev pub PartsFit : Parts → Type 0
PartsFit p = IsText p.0 × ArgsFit p.1

abbrev pub parts : Entry → Parts
parts e = (e.executor, (e.args, (length e.made, e.inputs)))

parts_fit : (e : Entry) → IsSpelled e → PartsFit (parts e)
parts_fit e s = (s.executor, (s.args, (s.made.0, s.inputs)))

outputs_free : Free outputs_bytes OutputsFit
outputs_free = both_free (big_endian 4) Fits32 (counted block) (Counted IsBlock) numbers_free (counted_free block IsBlock blocks_free)

args_free : Free args_bytes ArgsFit
args_free = both_free bytes IsData outputs_bytes OutputsFit data_free outputs_free

parts_free : Free parts_bytes PartsFit
parts_free = both_free bytes_of_text IsText args_bytes ArgsFit texts_free args_free

-- ---- entries

abbrev entry_of : Parts → List (List ℕ) → Entry
entry_of p made = record { executor = p.0; args = p.1.0; inputs = p.1.1.1; made = made }

pub entries_free : Free entry_bytes IsSpelled
entries_free d e r s p q h =
    let keys = parts_free (parts d) (parts e) (flat_map block d.made ++ r) (flat_map block e.made ++ s) (parts_fit d p) (parts_fit e q)
    (sym (append_assoc (key_bytes d) (flat_map block d.made) r) ∙ h ∙ append_assoc (key_bytes e) (flat_map block e.made) s) in
    let many : length d.made ≡ length e.made = ap (λ (x : Parts). x.1.1.0) keys.0 in
    let made = counted_free block IsBlock blocks_free d.made e.made r s p.made q.made
    (ap₂ (λ n b. big_endian 4 n ++ b) many keys.1) in
    (ap₂ entry_of keys.0 made.0, made.1)

pub one_key : OneKey
one_key d e p q h =
    let same = (parts_free (parts d) (parts e) [] [] (parts_fit d p.spelled) (parts_fit e q.spelled) (ap (λ b. b ++ []) h)).0 in
    record {
      executor = ap (λ (x : Parts). x.0) same;
      args = ap (λ (x : Parts). x.1.0) same;
      inputs = ap (λ (x : Parts). x.1.1.1) same;
      outputs = ap (λ (x : Parts). x.1.1.0) same;
    }

-- ---- what can't be read

abbrev NoEntry : List ℕ → Type 0
NoEntry = NoneAs entry_bytes IsSpelled

no_parts : (old : List ℕ) → NoneAs parts_bytes PartsFit old → NoEntry old
no_parts old none e rest s h =
    none (parts e) (flat_map block e.made ++ rest) (parts_fit e s) (h ∙ append_assoc (key_bytes e) (flat_map block e.made) rest)

pub no_text : (old : List ℕ) → NoneAs bytes_of_text IsText old → NoEntry old
no_text old none = no_parts old (no_first bytes_of_text IsText args_bytes ArgsFit old none)

no_rest : (old x a : List ℕ) → ReadAs bytes_of_text IsText old x a → NoneAs args_bytes ArgsFit a → NoEntry old
no_rest old x a p none = no_parts old (no_second bytes_of_text IsText args_bytes ArgsFit texts_free old x a p none)

pub no_args : (old x a : List ℕ) → ReadAs bytes_of_text IsText old x a → NoneAs bytes IsData a → NoEntry old
no_args old x a p none = no_rest old x a p (no_first bytes IsData outputs_bytes OutputsFit a none)

no_numbers : (old x a : List ℕ) (v : Val (List ℕ)) (b : List ℕ) → ReadAs bytes_of_text IsText old x a → ReadAs bytes IsData a v b
    → NoneAs outputs_bytes OutputsFit b → NoEntry old
no_numbers old x a v b p q none = no_rest old x a p (no_second bytes IsData outputs_bytes OutputsFit data_free a v b q none)

pub no_number : (old x a : List ℕ) (v : Val (List ℕ)) (b : List ℕ) → ReadAs bytes_of_text IsText old x a → ReadAs bytes IsData a v b
    → length b < 4 → NoEntry old
no_number old x a v b p q short =
    no_numbers old x a v b p q (no_first (big_endian 4) Fits32 (counted block) (Counted IsBlock) b (four_short b short))

pub no_inputs : (old x a : List ℕ) (v : Val (List ℕ)) (b : List ℕ) (n : ℕ) (c : List ℕ) → ReadAs bytes_of_text IsText old x a
    → ReadAs bytes IsData a v b → b ≡ big_endian 4 n ++ c → Fits32 n → NoneAs (counted block) (Counted IsBlock) c → NoEntry old
no_inputs old x a v b n c p q e f none =
    no_numbers old x a v b p q (no_second (big_endian 4) Fits32 (counted block) (Counted IsBlock) numbers_free b n c (e, f) none)

-- ---- what was read

parts_read : (old x a : List ℕ) (v : Val (List ℕ)) (b : List ℕ) (n : ℕ) (c : List ℕ) (ins : List (List ℕ)) (d : List ℕ)
    → ReadAs bytes_of_text IsText old x a → ReadAs bytes IsData a v b → b ≡ big_endian 4 n ++ c → Fits32 n
    → ReadAs (counted block) (Counted IsBlock) c ins d → ReadAs parts_bytes PartsFit old (x, (v, (n, ins))) d
parts_read old x a v b n c ins d p q e f i = (
  p.0 ∙ ap (λ t. bytes_of_text x ++ t) (q.0 ∙ ap (λ t. bytes v ++ t) (e ∙ ap (λ t. big_endian 4 n ++ t) i.0))
      ∙ joined (bytes_of_text x) (bytes v) (big_endian 4 n) (counted block ins) d,
  (p.1, (q.1, (f, i.1))),
)
  where
    joined : (s t u w r : List ℕ) → s ++ (t ++ (u ++ (w ++ r))) ≡ (s ++ (t ++ (u ++ w))) ++ r
    joined s t u w r =
        ap (λ k. s ++ (t ++ k)) (sym (append_assoc u w r)) ∙ ap (λ k. s ++ k) (sym (append_assoc t (u ++ w) r)) ∙ sym (append_assoc s (t ++
        (u ++ w)) r)

module _ (old x a : List ℕ) (v : Val (List ℕ)) (b : List ℕ) (n : ℕ) (c : List ℕ) (ins : List (List ℕ)) (d : List ℕ)
    (p : ReadAs bytes_of_text IsText old x a) (q : ReadAs bytes IsData a v b) (e : b ≡ big_endian 4 n ++ c) (f : Fits32 n)
    (i : ReadAs (counted block) (Counted IsBlock) c ins d) where
  pub no_made : NoList block IsBlock n d → NoEntry old
  no_made none y rest s h =
      let r = parts_read old x a v b n c ins d p q e f i in
      let same = parts_free (x, (v, (n, ins))) (parts y) d (flat_map block y.made ++ rest) r.1 (parts_fit y s)
      (sym r.0 ∙ h ∙ append_assoc (key_bytes y) (flat_map block y.made) rest) in
      none y.made rest s.made.1 (sym (ap (λ (z : Parts). z.1.1.0) same.0)) same.1

  pub entry_read : (made : List (List ℕ)) (new : List ℕ) → ListRead block IsBlock n d made new
      → ReadAs entry_bytes IsSpelled old (record { executor = x; args = v; inputs = ins; made = made }) new
  entry_read made new l =
      let r = parts_read old x a v b n c ins d p q e f i in
      let y : Entry = record { executor = x; args = v; inputs = ins; made = made } in (
        r.0 ∙ ap₂ (λ k t. parts_bytes (x, (v, (k, ins))) ++ t) (sym l.1.1) l.0
            ∙ sym (append_assoc (key_bytes y) (flat_map block made) new),
        record { executor = p.1; args = q.1; inputs = i.1; made = (subst Fits32 (sym l.1.1) f, l.1.0) },
      )
