-- The ends of reports by their bytes: none begins another; and what can't be read as one.
use Rattle.std.proofs.Common.{◌≡◌, ℕ, List, [], ◌∷◌, ◌++◌, length, get_or, refl, ap, sym, ◌∙◌, arith, append-nil}
use Rattle.sky_base.specs.Name.{big_endian, name_bytes}
use Rattle.sky_base.specs.Res.{Object}
use Rattle.sky_base.specs.declared.fault.Fault.{Fault}
use Rattle.sky_base.specs.declared.fault.FaultKind.{FaultKind}
use Rattle.ciel_name.specs.Descs.{IsObjectData, NoObject, fault_bytes}
use Rattle.ciel_name.specs.Object.{kind_number, object_bytes}
use Rattle.ciel_name.proofs.Canon.{one_spelling}
use Rattle.ciel_name.proofs.PrefixFreeBytes.{four_free, split_same}
use Rattle.sky_frozen_bytes.specs.Codes.{Fits32, Free, NoneAs, ReadAs}
use Rattle.sky_frozen_bytes.proofs.Codes.{both_free, counted_free, no_second, numbers_free}
use Rattle.ciel_log_records.specs.Records.{HowEnded, answered, block, counted, end_bytes, failed, made, missing, saved}
use Rattle.ciel_log_read.specs.Bodies.{IsOfKind, end_body, end_tag}
use Rattle.ciel_log_read.specs.Recorded.{FitsBlock, IsEnd, IsOutput, IsNamed}
use Rattle.ciel_log_read.proofs.Pieces.{blocks_free, inner_free, names_free}

-- ---- things by their first byte

module _ {A : Type 0} (spell body : A → List ℕ) (tag : A → ℕ) (Is : A → Type 0) (is : (x : A) → spell x ≡ tag x ∷ body x) where
  behind : (old mid : List ℕ) (k : ℕ) (x : A) (rest : List ℕ) → old ≡ k ∷ mid → old ≡ spell x ++ rest → (tag x ≡ k) × (mid ≡ body x ++ rest)
  behind old mid k x rest h e =
      let g : k ∷ mid ≡ tag x ∷ (body x ++ rest) = sym h ∙ e ∙ ap (λ b. b ++ rest) (is x) in
      let t : tag x ≡ k = cc in
      let m : mid ≡ body x ++ rest = cc in
      (t, m)

  pub tagged_none : (old mid : List ℕ) (k : ℕ) → old ≡ k ∷ mid → NoneAs body (IsOfKind tag Is k) mid → NoneAs spell Is old
  tagged_none old mid k h none x rest p e =
      let t = behind old mid k x rest h e in none x rest (t.0, p) t.1

  pub tagged_free : ((k : ℕ) → Free body (IsOfKind tag Is k)) → Free spell Is
  tagged_free free x y r s p q e =
      let t = behind (spell x ++ r) (body x ++ r) (tag x) y s (ap (λ b. b ++ r) (is x)) e in
      free (tag x) x y r s (refl, p) (t.0, q) t.1

-- ---- faults and objects

kinds : List FaultKind
kinds =
    FaultKind.Unknown ∷ FaultKind.BadKind ∷ FaultKind.Overflow ∷ FaultKind.DivZero ∷ FaultKind.NoIndex ∷ FaultKind.NoKey ∷ FaultKind.TooLarge
    ∷ FaultKind.TooDeep ∷ FaultKind.TooLong ∷ FaultKind.NotData ∷ FaultKind.NotText ∷ FaultKind.BadCount ∷ FaultKind.BadExec ∷ FaultKind.BadLine
    ∷ FaultKind.WrongCount ∷ []

kind_back : (k : FaultKind) → get_or kinds (kind_number k) FaultKind.Unknown ≡ k
unfolding kinds
kind_back FaultKind.Unknown = refl
kind_back FaultKind.BadKind = refl
kind_back FaultKind.Overflow = refl
kind_back FaultKind.DivZero = refl
kind_back FaultKind.NoIndex = refl
kind_back FaultKind.NoKey = refl
kind_back FaultKind.TooLarge = refl
kind_back FaultKind.TooDeep = refl
kind_back FaultKind.TooLong = refl
kind_back FaultKind.NotData = refl
kind_back FaultKind.NotText = refl
kind_back FaultKind.BadCount = refl
kind_back FaultKind.BadExec = refl
kind_back FaultKind.BadLine = refl
kind_back FaultKind.WrongCount = refl

abbrev FaultFits : Fault → Type 0
FaultFits f = Fits32 f.line × Fits32 f.col

faults_free : Free fault_bytes FaultFits
faults_free f g r s p q e =
    let k : kind_number f.kind ≡ kind_number g.kind = cc in
    let b : (big_endian 4 f.line ++ (big_endian 4 f.col ++ r)) ≡ (big_endian 4 g.line ++ (big_endian 4 g.col ++ s)) = cc in
    let kind : f.kind ≡ g.kind = sym (kind_back f.kind) ∙ ap (λ n. get_or kinds n FaultKind.Unknown) k ∙ kind_back g.kind in
    let line = four_free f.line g.line (big_endian 4 f.col ++ r) (big_endian 4 g.col ++ s) p.0 q.0 b in
    let col = four_free f.col g.col r s p.1 q.1 line.1 in
    (λ i. record { kind = kind i; line = line.0 i; col = col.0 i }, col.1)

one_object : (o p : Object (List ℕ)) → IsObjectData o → IsObjectData p → object_bytes o ≡ object_bytes p → o ≡ p
one_object (Object.bytes b) (Object.bytes c) p q e = let g : b ≡ c = cc in ap Object.bytes g
one_object (Object.data_of v) (Object.data_of w) p q e = ap Object.data_of (one_spelling v w p.spelled q.spelled cc)
one_object (Object.fault f) (Object.fault g) p q e =
    let b : fault_bytes f ≡ fault_bytes g = cc in
    ap Object.fault (faults_free f g [] [] p q (append-nil (fault_bytes f) ∙ b ∙ sym (append-nil (fault_bytes g)))).0
one_object o p h g e = absurd (omega (arith, ap (λ b. get_or b 0 0) e))

pub objects_free : Free (λ o. block (object_bytes o)) IsOutput
objects_free = inner_free object_bytes IsObjectData one_object

-- ---- the kinds of ends

end_is : (how : HowEnded) → end_bytes how ≡ end_tag how ∷ end_body how
end_is (made objects) = refl
end_is (saved j stack) = refl
end_is (answered bytes) = refl
end_is (failed fault) = refl
end_is (missing name loss) = refl

pub failed_refused : (old bs mid object : List ℕ) → old ≡ bs ++ mid → length bs ≡ 9 → object ≡ 70 ∷ bs → NoObject object
    → NoneAs end_body (IsOfKind end_tag IsEnd 4) old
failed_refused old bs mid object e l h none (failed fault) rest p g =
    let t = split_same bs (fault_bytes fault) mid rest l (sym e ∙ g) in none (Object.fault fault) p.1 (ap (λ b. 70 ∷ b) (sym t.0) ∙ sym h)
failed_refused old bs mid object e l h none how rest p g = absurd (omega (arith, p.0))

pub missing_loss : (old name mid : List ℕ) → ReadAs name_bytes IsNamed old name mid → NoneAs (big_endian 4) Fits32 mid
    → NoneAs end_body (IsOfKind end_tag IsEnd 5) old
missing_loss old name mid p none (missing other loss) rest q e =
    no_second name_bytes IsNamed (big_endian 4) Fits32 names_free old name mid p none (other, loss) rest q.1 e
missing_loss old name mid p none how rest q e = absurd (omega (arith, q.0))

bodies_free : (k : ℕ) → Free end_body (IsOfKind end_tag IsEnd k)
bodies_free k (made os) (made ps) r s p q e =
    let t = counted_free (λ o. block (object_bytes o)) IsOutput objects_free os ps r s p.1 q.1 e in (ap made t.0, t.1)
bodies_free k (saved i a) (saved j b) r s p q e =
    let t = both_free (big_endian 4) Fits32 block FitsBlock numbers_free blocks_free (i, a) (j, b) r s p.1 q.1 e in
    (ap (λ (x : ℕ × List ℕ). saved x.0 x.1) t.0, t.1)
bodies_free k (answered a) (answered b) r s p q e =
    let t = blocks_free a b r s p.1 q.1 e in (ap answered t.0, t.1)
bodies_free k (failed f) (failed g) r s p q e =
    let t = faults_free f g r s p.1 q.1 e in (ap failed t.0, t.1)
bodies_free k (missing m i) (missing n j) r s p q e =
    let t = both_free name_bytes IsNamed (big_endian 4) Fits32 names_free numbers_free (m, i) (n, j) r s p.1 q.1 e in
    (ap (λ (x : List ℕ × ℕ). missing x.0 x.1) t.0, t.1)
bodies_free k x y r s p q e = absurd (omega (arith, p.0, q.0))

pub ends_free : Free end_bytes IsEnd
ends_free = tagged_free end_bytes end_body end_tag IsEnd end_is bodies_free

pub end_none : (old mid : List ℕ) (k : ℕ) → old ≡ k ∷ mid → NoneAs end_body (IsOfKind end_tag IsEnd k) mid → NoneAs end_bytes IsEnd old
end_none = tagged_none end_bytes end_body end_tag IsEnd end_is
