-- A file is read that stands behind those of the job: why it wasn't, and which paths were asked then.
use Rattle.std.proofs.Common.{◌≡◌, ◌∙◌, ◌⊎◌, ◌<◌, ◌≤◌, ⊎_elim, inl, inr, zero, suc, arith, ℕ, List, [], ◌∷◌, Option, Some, None, ap, refl, sym, subst}
use Rattle.ciel_io.specs.Faults.{HasRisen}
use Rattle.ciel_io.specs.Tells.{Tells, TellsPart}
use Rattle.ciel_run_load.specs.Found.{PassesIfTold}
use Rattle.ciel_run_load.specs.Reading.{AsksUpTo}
use Rattle.ciel_run_line.specs.Answering.{Unread}
use Rattle.ciel_run_line.specs.Line.{named}
use Rattle.ciel_run_log.specs.declared.why.Why.{Why}

asks_one : (p path : List ℕ) (b n : Option (List (List ℕ))) → AsksUpTo p (path ∷ []) b n → Tells b n (path ∷ [])
asks_one p path b n (zero, e, t) = t
asks_one p path b n (suc i, e, t) = absurd cc

pub none_of : {A : Type 0} (o : Option A) → ((x : A) → o ≡ Some x → ⊥) → o ≡ None
none_of None d = refl
none_of (Some x) d = absurd (d x refl)

-- it is that at this path
module _ (content : List ℕ → Option (List ℕ)) (resume : Option (List ℕ)) (most : ℕ) (path : List ℕ) (is : resume ≡ Some path) where
  pub last_fault : (risen : Type 0) (at : List ℕ) → (at ≡ path) × risen → Unread content resume most risen (Why.ReadFault at)
  last_fault risen at u = (is ∙ ap (λ (p : List ℕ). Some p) (sym u.0), u.1)

  pub last_long : (risen : Type 0) (at : List ℕ) (limit : ℕ) → (at ≡ path) × (limit ≡ most) × PassesIfTold (content path) most
      → Unread content resume most risen (Why.TooLongInput at limit)
  last_long risen at limit u =
      (is ∙ ap (λ (p : List ℕ). Some p) (sym u.0), u.1, subst (λ (q : List ℕ). PassesIfTold (content q) most) (sym u.0) u.2)

  module _ (b n : Option (List (List ℕ))) where
    pub last_asked : (p : List ℕ) → AsksUpTo p (path ∷ []) b n → Tells b n (named resume)
    last_asked p a = subst (λ (o : Option (List ℕ)). Tells b n (named o)) (sym is) (asks_one p path b n a)

    pub last_part : TellsPart b n (path ∷ []) → TellsPart b n (named resume)
    last_part t = subst (λ (o : Option (List ℕ)). TellsPart b n (named o)) (sym is) t

    pub last_all : Tells b n (path ∷ []) → Tells b n (named resume)
    last_all t = subst (λ (o : Option (List ℕ)). Tells b n (named o)) (sym is) t

-- a count that rose later rose since before
pub risen_later : (a b c : ℕ) → a ≤ b → HasRisen b c → HasRisen a c
risen_later a b c h r = ⊎_elim (λ (less : b < c). inl (omega (arith, h, less))) (λ e. inr e) r
