-- What a report has of what is made: all of it, or all up to a clash and anything behind it.
use Rattle.std.proofs.Common.{◌≡◌, ◌≢◌, List, [], ◌∷◌, ◌++◌, map, ◌⊎◌, inl, inr, refl, sym, ap, ◌∙◌}
use Rattle.ciel_journal.specs.Job.{Job, In}
use Rattle.ciel_journal.specs.Known.{Inner}
use Rattle.ciel_journal_job.specs.Report.{ClashAmong, Clear, Or, Tells}

module _ {D B : Type 0} (job : Job D) (inner : Inner D) (lower : D → B) where
  abbrev Clash : (D → Type 0) → D → Type 0
  Clash met d = ClashAmong job inner lower met d

  pub tells_all : (met : D → Type 0) (ds : List D) → Tells job inner lower met ds (map lower ds)
  tells_all met [] = refl
  tells_all met (d ∷ ds) = (map lower ds, refl, λ no. tells_all (Or job inner lower met d) ds)

  -- one of these has the name of another one that was met
  pub record Clashing (met : D → Type 0) (ds : List D) : Type 0 where
    pub which : D
    pub there : In which ds
    pub other : D
    pub is_met : met other
    pub same : job.name other ≡ job.name which
    pub apart : other ≢ which

  clash_here : (met : D → Type 0) (d e : D) → met e → job.name e ≡ job.name d → e ≢ d → Clash met d
  clash_here met d e m n a = (e, m, n, a)

  further : (met : D → Type 0) (d : D) (ds : List D) (c : Clashing met (d ∷ ds)) → In c.which ds → Clashing (Or job inner lower met d) ds
  further met d ds c i =
      record { which = c.which; there = i; other = c.other; is_met = inr c.is_met; same = c.same; apart = c.apart }

  -- where nothing clashes at the first, it is behind it
  at_or_behind : {P : Type 0} (met : D → Type 0) (d : D) (ds : List D) → (Clashing (Or job inner lower met d) ds → P) → (Clash met d → ⊥)
      → (c : Clashing met (d ∷ ds)) → In c.which (d ∷ ds) → P
  at_or_behind met d ds f none c (inl e) =
      absurd (none (clash_here met d c.other c.is_met (c.same ∙ ap job.name e) (λ q. c.apart (q ∙ sym e))))
  at_or_behind met d ds f none c (inr i) = f (further met d ds c i)

  -- then it has them up to the clash, whatever comes behind them
  pub tells_astray : (met : D → Type 0) (front tail : List D) (rest : List B) → Clashing met front
      → Tells job inner lower met (front ++ tail) (map lower front ++ rest)
  tells_astray met [] tail rest c = absurd c.there
  tells_astray met (d ∷ front) tail rest c = (
    map lower front ++ rest,
    refl,
    λ none. at_or_behind met d front (λ f. tells_astray (Or job inner lower met d) front tail rest f) none c
        c.there,
  )

  -- and it isn't clear
  pub not_clear : (met : D → Type 0) (front tail : List D) → Clashing met front → Clear job inner lower met (front ++ tail) → ⊥
  not_clear met [] tail c k = c.there
  not_clear met (d ∷ front) tail c k =
      at_or_behind met d front (λ f. not_clear (Or job inner lower met d) front tail f k.1) k.0 c c.there

  -- where it is clear, one that is made has the name of none other that was met or made
  module _ (decide : (d e : D) → (d ≡ e) ⊎ (d ≡ e → ⊥)) where
    pub clear_met : (met : D → Type 0) (ds : List D) → Clear job inner lower met ds → (d e : D) → In d ds → met e → job.name e ≡ job.name d → e ≡ d
    clear_met met [] k d e i m n = absurd i
    clear_met met (x ∷ ds) k d e (inl q) m n = go (decide e d)
      where
        go : (e ≡ d) ⊎ (e ≡ d → ⊥) → e ≡ d
        go (inl y) = y
        go (inr other) = absurd (k.0 (clash_here met x e m (n ∙ ap job.name q) (λ z. other (z ∙ sym q))))
    clear_met met (x ∷ ds) k d e (inr i) m n = clear_met (Or job inner lower met x) ds k.1 d e i (inr m) n

    pub clear_both : (met : D → Type 0) (ds : List D) → Clear job inner lower met ds → (d e : D) → In d ds → In e ds → job.name d ≡ job.name e → d ≡ e
    clear_both met [] k d e i j n = absurd i
    clear_both met (x ∷ ds) k d e (inl q) (inl p) n = q ∙ sym p
    clear_both met (x ∷ ds) k d e (inl q) (inr j) n =
        clear_met (Or job inner lower met x) ds k.1 e d j (inl q) n
    clear_both met (x ∷ ds) k d e (inr i) (inl p) n =
        sym (clear_met (Or job inner lower met x) ds k.1 d e i (inl p) (sym n))
    clear_both met (x ∷ ds) k d e (inr i) (inr j) n = clear_both (Or job inner lower met x) ds k.1 d e i j n
