-- What a value's bytes and a description's canonical bytes tell.
use Rattle.std.specs.Prelude.{◌≡◌, ◌<◌, ◌^◌, ℕ, List, [], ◌++◌}
use Rattle.sky_base.specs.Val.{call, out, input, known, count, refs, vals_refs, pairs_refs}
use Rattle.sky_base.specs.Val as v
use Rattle.sky_base.specs.See.{Desc}
use Rattle.sky_base.specs.Name.{bytes, canon, low_desc, digested, is_anonymous}
use Rattle.sky_base_law.specs.Tasks.{In}
use Rattle.sky_base_law.specs.NamesLaws.{Tag, NoClash, no_name}
use Rattle.ciel_name.specs.Spelled.{IsText, CapturesSo, Spelled, AllSpelled, PairsSpelled}

-- two values with the same bytes are one
abbrev pub OneSpelling : Type 0
OneSpelling = (a b : v.Val (List ℕ)) → Spelled a → Spelled b → bytes a ≡ bytes b → a ≡ b

-- a description over names that its canonical bytes can spell
abbrev pub SpelledDesc : v.Desc (List ℕ) → Type 0
SpelledDesc (call f c vs) = IsText f × ((CapturesSo (is_anonymous f) c × PairsSpelled c) × (AllSpelled vs × (count vs < 2 ^ 32)))
SpelledDesc (out x v n i) = IsText x × (Spelled v × ((n < 2 ^ 32) × (i < 2 ^ 32)))
SpelledDesc (input k) = IsText k
SpelledDesc (known n) = ⊥

-- two descriptions over names with the same canonical bytes are one
abbrev pub OneCanon : Type 0
OneCanon = (d e : v.Desc (List ℕ)) → SpelledDesc d → SpelledDesc e → canon d ≡ canon e → d ≡ e

-- the descriptions that a description refers to
abbrev pub inner : Desc → List Desc
inner (call f c vs) = pairs_refs c ++ vals_refs vs
inner (out x v n i) = refs v
inner (input k) = []
inner (known b) = absurd b

-- each description that one of them refers to is one of them
abbrev pub HoldsInner : List Desc → Type 0
HoldsInner ds = (d e : Desc) → In d ds → In e (inner d) → In e ds

abbrev pub canon_of : Tag → Desc → List ℕ
canon_of tag d = canon (low_desc no_name tag d)

-- in a set that holds its inner ones too and in which no two share a name, two that differ have different canonical bytes
abbrev pub ApartInSet : Type 0
ApartInSet =
    (digest : List ℕ → List ℕ) (ds : List Desc) → HoldsInner ds → NoClash (digested digest) ds → (d e : Desc) → In d ds → In e ds
    → canon_of (digested digest) d ≡ canon_of (digested digest) e → d ≡ e

-- whatever gives the names: where no two that they refer to share one, two that differ have different canonical bytes
abbrev pub ApartByInner : Type 0
ApartByInner =
    (tag : Tag) (d e : Desc) → NoClash tag (inner d ++ inner e) → SpelledDesc (low_desc no_name tag d) → SpelledDesc (low_desc no_name tag e)
    → canon_of tag d ≡ canon_of tag e → d ≡ e
