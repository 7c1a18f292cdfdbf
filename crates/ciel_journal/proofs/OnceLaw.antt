-- Each description stands in the book once.
use Rattle.std.proofs.Common.{◌≡◌, List, [], ◌∷◌, ◌++◌, Bool, true, false, cond, inl, inr, refl, sym, ◌∙◌}
use Rattle.std.specs.List.{list_any}
use Rattle.ciel_journal.specs.Job.{Job, In, IsJob, Once}
use Rattle.ciel_journal.specs.History.{learned}
use Rattle.ciel_journal.proofs.Members.{in_any}

module _ {D : Type 0} (job : Job D) (laws : IsJob job) where
  once_last : (past ds : List D) (d : D) → Once past ds → (In d past → ⊥) → (In d ds → ⊥) → Once past (ds ++ d ∷ [])
  once_last past [] d o p n = (p, tt)
  once_last past (x ∷ xs) d o p n = (o.0, once_last (x ∷ past) xs d o.1 both (λ i. n (inr i)))
    where
      both : In d (x ∷ past) → ⊥
      both (inl s) = n (inl s)
      both (inr i) = p i

  pub once_learned : (book ds : List D) → Once [] book → Once [] (learned job book ds)
  once_learned book [] o = o
  once_learned book (d ∷ ds) o = pick (list_any (job.same d) book) refl (λ more. once_learned more ds)
    where
      new : list_any (job.same d) book ≡ false → In d book → ⊥
      new e i = let h = in_any job.same laws.same_refl d book i in let bad : true ≡ false = sym h ∙ e in cc

      pick : (b : Bool) → list_any (job.same d) book ≡ b → ((more : List D) → Once [] more → Once [] (learned job more ds))
          → Once [] (learned job (cond b book (book ++ d ∷ [])) ds)
      pick true e on = on book o
      pick false e on = on (book ++ d ∷ []) (once_last [] book d o (λ i. i) (new e))
