-- A list of descriptions without a clash, with all that stands inside them, grows without one, where no two descriptions by
-- names have one name.
use Rattle.std.proofs.Common.{◌≡◌, List, [], ◌∷◌, ◌++◌, inl, inr, refl, ap, sym, ◌∙◌, subst, map, ◌⊎◌}
use Rattle.ciel_journal.specs.Job.{Digest, Job, In, Each, IsJob}
use Rattle.ciel_journal.specs.Known.{Inner}
use Rattle.ciel_journal.specs.Lawful.{NoClash}
use Rattle.ciel_journal.proofs.Booked.{each_more}
use Rattle.ciel_journal.proofs.Numbers.{in_last, in_left}
use Rattle.ciel_journal.proofs.Unique.{same_names}
use Rattle.ciel_journal_job.specs.Report.{Exact}

module _ {D B : Type 0} where
  pub in_map : (f : D → B) (x : D) (xs : List D) → In x xs → In (f x) (map f xs)
  in_map f x [] i = absurd i
  in_map f x (y ∷ xs) (inl e) = inl (ap f e)
  in_map f x (y ∷ xs) (inr i) = inr (in_map f x xs i)

  pub map_in : (f : D → B) (b : B) (xs : List D) → In b (map f xs) → (x : D) × In x xs × (f x ≡ b)
  map_in f b [] i = absurd i
  map_in f b (y ∷ xs) (inl e) = (y, inl refl, sym e)
  map_in f b (y ∷ xs) (inr i) = let m = map_in f b xs i in (m.0, inr m.1, m.2)

module _ {D B : Type 0} (job : Job D) (laws : IsJob job) (inner : Inner D) (lower : D → B) (named : B → Digest)
    (exact : Exact job inner lower named) where
  -- no two share a name, and what stands inside each stands among them
  pub record Clean (L : List D) : Type 0 where
    pub apart : NoClash job L
    pub whole : (d : D) → In d L → Each (λ e. In e L) (inner.inside d)

  -- what is known by names: nothing there has two names, and these stand there
  pub record Tabled (T : List B) (L : List D) : Type 0 where
    pub apart : (a b : B) → In a T → In b T → named a ≡ named b → a ≡ b
    pub there : (d : D) → In d L → In (lower d) T

  -- one more with what stands inside
  same_one : (T : List B) (L : List D) (d a : D) → Clean L → Tabled T L → Each (λ e. In e L) (inner.inside d) → In (lower d) T → In a L
      → job.name a ≡ job.name d → a ≡ d
  same_one T L d a clean tabled whole there i n =
      let l : lower a ≡ lower d = tabled.apart (lower a) (lower d) (tabled.there a i) there (exact.own a ∙ (n ∙ sym (exact.own d))) in
      exact.only a d l (same_names job laws L clean.apart (inner.inside a) (inner.inside d) (clean.whole a i) whole (exact.within a d l))

  pub clean_more : (T : List B) (L : List D) (d : D) → Clean L → Tabled T L → Each (λ e. In e L) (inner.inside d) → In (lower d) T
      → Clean (L ++ d ∷ [])
  clean_more T L d clean tabled whole there = record { apart = apart; whole = all }
    where
      more : (x : D) → In x L → In x (L ++ d ∷ [])
      more x i = in_left x L (d ∷ []) i

      all : (e : D) → In e (L ++ d ∷ []) → Each (λ x. In x (L ++ d ∷ [])) (inner.inside e)
      all e i = pick (in_last e L d i)
        where
          pick : (In e L ⊎ (e ≡ d)) → Each (λ x. In x (L ++ d ∷ [])) (inner.inside e)
          pick (inl j) = each_more (λ x. In x L) (λ x. In x (L ++ d ∷ [])) more (inner.inside e) (clean.whole e j)
          pick (inr s) =
              subst (λ z. Each (λ x. In x (L ++ d ∷ [])) (inner.inside z)) (sym s)
              (each_more (λ x. In x L) (λ x. In x (L ++ d ∷ [])) more (inner.inside d) whole)

      apart : (a b : D) → In a (L ++ d ∷ []) → In b (L ++ d ∷ []) → job.name a ≡ job.name b → a ≡ b
      apart a b i j n = pick (in_last a L d i) (in_last b L d j)
        where
          pick : (In a L ⊎ (a ≡ d)) → (In b L ⊎ (b ≡ d)) → a ≡ b
          pick (inl x) (inl y) = clean.apart a b x y n
          pick (inl x) (inr y) = same_one T L d a clean tabled whole there x (n ∙ ap job.name y) ∙ sym y
          pick (inr x) (inl y) = x ∙ sym (same_one T L d b clean tabled whole there y (sym n ∙ ap job.name x))
          pick (inr x) (inr y) = x ∙ sym y

  pub tabled_more : (T : List B) (L : List D) (d : D) → Tabled T L → In (lower d) T → Tabled T (L ++ d ∷ [])
  tabled_more T L d tabled there = record { apart = tabled.apart; there = λ e i. pick e (in_last e L d i) }
    where
      pick : (e : D) → (In e L ⊎ (e ≡ d)) → In (lower e) T
      pick e (inl j) = tabled.there e j
      pick e (inr s) = subst (λ z. In (lower z) T) (sym s) there
