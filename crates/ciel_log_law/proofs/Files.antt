-- What stands at a path after a change there.
use Rattle.std.proofs.Common.{◌≡◌, ℕ, List, [], ◌∷◌, true, false, cond, Option, Some, None, ◌⊎◌, inl, inr, refl, ap, sym, ◌∙◌, subst, unwrap_or}
use Rattle.std.specs.Str.{bytes_eq}
use Rattle.std.proofs.lemmas.Slice.Eq.{bytes_eq-Decides}
use Rattle.ciel_io.specs.HeldFiles.{bytes_at, content_at}
use Rattle.ciel_io.specs.Kept.{Changes, Files, with_file}
use Rattle.ciel_journal.proofs.Members.{bool_cases}

same_bytes : (p : List ℕ) → bytes_eq p p ≡ true
same_bytes p = (bytes_eq-Decides p p).1 refl

content_with : (fs : Files) (path bytes : List ℕ) → content_at (with_file fs path bytes) path ≡ Some bytes
content_with [] path bytes = ap (λ b. cond b (Some bytes) None) (same_bytes path)
content_with (f ∷ fs) path bytes = pick (bool_cases (bytes_eq f.0 path)) (content_with fs path bytes)
  where
    pick : ((bytes_eq f.0 path ≡ true) ⊎ (bytes_eq f.0 path ≡ false)) → content_at (with_file fs path bytes) path ≡ Some bytes
        → content_at (with_file (f ∷ fs) path bytes) path ≡ Some bytes
    pick (inl t) rest =
        ap (λ b. content_at (cond b ((f.0, bytes) ∷ fs) (f ∷ with_file fs path bytes)) path) t
        ∙ ap (λ b. cond b (Some bytes) (content_at fs path)) t
    pick (inr n) rest =
        ap (λ b. content_at (cond b ((f.0, bytes) ∷ fs) (f ∷ with_file fs path bytes)) path) n
        ∙ (ap (λ b. cond b (Some f.1) (content_at (with_file fs path bytes) path)) n ∙ rest)

pub bytes_with : (fs : Files) (path bytes : List ℕ) → bytes_at (with_file fs path bytes) path ≡ bytes
bytes_with fs path bytes = ap (λ o. unwrap_or o []) (content_with fs path bytes)

-- where the files are told after a change, they were told before, and what stands there is what the change says
pub changed_at : (before now : Option Files) (path : List ℕ) (P : List ℕ → List ℕ → Type 0) → Changes before now path P → (files : Files)
    → now ≡ Some files → (was : Files) × (before ≡ Some was) × P (bytes_at was path) (bytes_at files path)
changed_at before now path P c files e =
    let d : Changes before (Some files) path P = subst (λ z. Changes before z path P) e c in
    let is : bytes_at files path ≡ d.2.0 = ap (λ f. bytes_at f path) d.2.2 ∙ bytes_with d.0 path d.2.0 in
    (d.0, d.1, subst (P (bytes_at d.0 path)) (sym is) d.2.1)
