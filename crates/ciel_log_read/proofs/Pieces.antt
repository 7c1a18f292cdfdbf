-- The pieces of records by their bytes: none begins another of its kind.
use Rattle.std.proofs.Common.{◌≡◌, ◌<◌, ◌^◌, ℕ, List, [], ◌++◌, length, refl, ap, sym, ◌∙◌}
use Rattle.std.proofs.lemmas.Nat.{from_be_bytes-to_be_bytes_8}
use Rattle.std.specs.Int.{w64, from_be_bytes}
use Rattle.sky_base.specs.Name.{big_endian, held_name, name_bytes}
use Rattle.sky_base.specs.Val.{Val, known, ref}
use Rattle.sky_base.specs.declared.object.TaskId.{TaskId}
use Rattle.ciel_name.proofs.Numbers.{high_first-is}
use Rattle.ciel_name.proofs.PrefixFreeBytes.{four_free, split_same, val_free}
use Rattle.sky_frozen_bytes.specs.Codes.{Free}
use Rattle.ciel_log_records.specs.Records.{block, task_bytes}
use Rattle.ciel_log_read.specs.Recorded.{Fits64, FitsBlock, IsNamed, IsTask}

-- ---- numbers of eight bytes

long_back : (n : ℕ) → n < 2 ^ 64 → from_be_bytes w64 (big_endian 8 n) ≡ n
long_back n h = ap (from_be_bytes w64) (sym (high_first-is 8 n)) ∙ from_be_bytes-to_be_bytes_8 n h

pub longs_free : Free (big_endian 8) Fits64
longs_free m n r s p q e =
    let t = split_same (big_endian 8 m) (big_endian 8 n) r s refl e in
    (sym (long_back m p) ∙ ap (from_be_bytes w64) t.0 ∙ long_back n q, t.1)

-- ---- names

abbrev name_of : Val (List ℕ) → List ℕ
name_of (ref d) = held_name d
name_of v = []

pub names_free : Free name_bytes IsNamed
names_free m n r s p q e =
    let t = val_free (ref (known m)) (ref (known n)) r s p q e in (ap name_of t.0, t.1)

-- ---- tasks

pub tasks_free : Free task_bytes IsTask
tasks_free TaskId.Show TaskId.Show r s p q e = let g : r ≡ s = cc in (refl, g)
tasks_free TaskId.Show (TaskId.Of n) r s p q e = absurd cc
tasks_free (TaskId.Of m) TaskId.Show r s p q e = absurd cc
tasks_free (TaskId.Of m) (TaskId.Of n) r s p q e =
    let g : name_bytes m ++ r ≡ name_bytes n ++ s = cc in
    let t = names_free m n r s p q g in
    (ap TaskId.Of t.0, t.1)

-- ---- blocks

pub blocks_free : Free block FitsBlock
blocks_free t u r s p q e =
    let l = four_free (length t) (length u) (t ++ r) (u ++ s) p q e in split_same t u r s l.0 l.1

-- ---- things whose bytes stand as a block

pub inner_free : {A : Type 0} (f : A → List ℕ) (P : A → Type 0) → ((x y : A) → P x → P y → f x ≡ f y → x ≡ y)
    → Free (λ x. block (f x)) (λ x. P x × FitsBlock (f x))
inner_free f P one x y r s p q e =
    let t = blocks_free (f x) (f y) r s p.1 q.1 e in (one x y p.0 q.0 t.0, t.1)
