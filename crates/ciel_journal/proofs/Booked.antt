-- The book after more descriptions were learned.
use Rattle.std.proofs.Common.{◌≡◌, List, [], ◌∷◌, ◌++◌, Bool, true, false, cond, ◌||◌, ◌⊎◌, inl, inr, refl, ap}
use Rattle.std.specs.List.{list_any}
use Rattle.ciel_journal.specs.Job.{Each, In, IsJob, Job}
use Rattle.ciel_journal.specs.History.{learned}
use Rattle.ciel_journal.proofs.Members.{or_true}

module _ {A : Type 0} where
  pub each_more : (P Q : A → Type 0) → ((x : A) → P x → Q x) → (xs : List A) → Each P xs → Each Q xs
  each_more P Q f [] h = tt
  each_more P Q f (x ∷ xs) h = (f x h.0, each_more P Q f xs h.1)

  pub any_join_left : (p : A → Bool) (xs ys : List A) → list_any p xs ≡ true → list_any p (xs ++ ys) ≡ true
  any_join_left p [] ys h = cc
  any_join_left p (x ∷ xs) ys h = pick (p x) (any_join_left p xs ys) h
    where
      pick : (b : Bool) → (list_any p xs ≡ true → list_any p (xs ++ ys) ≡ true) → b || list_any p xs ≡ true → b || list_any p (xs ++ ys) ≡ true
      pick true r h = refl
      pick false r h = r h

  pub any_join_last : (p : A → Bool) (xs : List A) (y : A) → p y ≡ true → list_any p (xs ++ y ∷ []) ≡ true
  any_join_last p [] y h = ap (λ b. b || false) h
  any_join_last p (x ∷ xs) y h = or_true (p x) _ (any_join_last p xs y h)

  pub any_join_cases : (p : A → Bool) (xs : List A) (y : A) → list_any p (xs ++ y ∷ []) ≡ true → (list_any p xs ≡ true) ⊎ (p y ≡ true)
  any_join_cases p [] y h = pick (p y) h
    where
      pick : (b : Bool) → b || false ≡ true → (false ≡ true) ⊎ (b ≡ true)
      pick true h = inr refl
      pick false h = inl h
  any_join_cases p (x ∷ xs) y h = pick (p x) (any_join_cases p xs y) h
    where
      pick : (b : Bool) → (list_any p (xs ++ y ∷ []) ≡ true → (list_any p xs ≡ true) ⊎ (p y ≡ true)) → b || list_any p (xs ++ y ∷ []) ≡ true
          → (b || list_any p xs ≡ true) ⊎ (p y ≡ true)
      pick true r h = inl refl
      pick false r h = r h

module _ {D : Type 0} (job : Job D) (laws : IsJob job) where
  abbrev pub Holds : List D → D → Type 0
  Holds book d = list_any (job.same d) book ≡ true

  one_keeps : (book : List D) (e d : D) → Holds book d → Holds (cond (list_any (job.same e) book) book (book ++ e ∷ [])) d
  one_keeps book e d h = pick (list_any (job.same e) book)
    where
      pick : (b : Bool) → Holds (cond b book (book ++ e ∷ [])) d
      pick true = h
      pick false = any_join_left (job.same d) book (e ∷ []) h

  pub learned_keeps : (book ds : List D) (d : D) → Holds book d → Holds (learned job book ds) d
  learned_keeps book [] d h = h
  learned_keeps book (e ∷ es) d h = learned_keeps (cond (list_any (job.same e) book) book (book ++ e ∷ [])) es d (one_keeps book e d h)

  pub one_has : (book : List D) (e : D) → Holds (cond (list_any (job.same e) book) book (book ++ e ∷ [])) e
  one_has book e = pick (list_any (job.same e) book) refl
    where
      pick : (b : Bool) → list_any (job.same e) book ≡ b → Holds (cond b book (book ++ e ∷ [])) e
      pick true h = h
      pick false h = any_join_last (job.same e) book e (laws.same_refl e)

  one_cases : (book : List D) (e d : D) → Holds (cond (list_any (job.same e) book) book (book ++ e ∷ [])) d → Holds book d ⊎ (d ≡ e)
  one_cases book e d h = pick (list_any (job.same e) book) h
    where
      pick : (b : Bool) → Holds (cond b book (book ++ e ∷ [])) d → Holds book d ⊎ (d ≡ e)
      pick true h = inl h
      pick false h = turn (any_join_cases (job.same d) book e h)
        where
          turn : ((list_any (job.same d) book ≡ true) ⊎ (job.same d e ≡ true)) → Holds book d ⊎ (d ≡ e)
          turn (inl a) = inl a
          turn (inr b) = inr (laws.same_exact d e b)

  pub learned_cases : (book ds : List D) (d : D) → Holds (learned job book ds) d → Holds book d ⊎ In d ds
  learned_cases book [] d h = inl h
  learned_cases book (e ∷ es) d h = pick (learned_cases (cond (list_any (job.same e) book) book (book ++ e ∷ [])) es d h)
    where
      pick : (Holds (cond (list_any (job.same e) book) book (book ++ e ∷ [])) d ⊎ In d es) → Holds book d ⊎ In d (e ∷ es)
      pick (inr i) = inr (inr i)
      pick (inl k) = turn (one_cases book e d k)
        where
          turn : (Holds book d ⊎ (d ≡ e)) → Holds book d ⊎ In d (e ∷ es)
          turn (inl a) = inl a
          turn (inr s) = inr (inl s)
