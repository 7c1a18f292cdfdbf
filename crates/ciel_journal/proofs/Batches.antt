-- What is made in batches between two waits holds all outputs of each task, the first one first.
use Rattle.std.proofs.Common.{◌≡◌, ℕ, zero, suc, List, [], ◌∷◌, ◌++◌, length, Bool, true, false, cond, Some, None, ◌⊎◌, inl, inr, refl, ap, sym, ◌∙◌}
use Rattle.std.proofs.Common.{subst}
use Rattle.std.specs.List.{list_any}
use Rattle.ciel_journal.specs.Job.{Act, Task, of, made, wait, Job, In, Each, IsJob, after_wait, made_before, made_in, waits_in}
use Rattle.ciel_journal.specs.History.{learned}
use Rattle.ciel_journal.specs.Known.{Batched, HeadsFirst, IsBatch}
use Rattle.ciel_journal.proofs.Members.{any_in}
use Rattle.ciel_journal.proofs.Near.{each_all}

module _ {D : Type 0} (job : Job D) (laws : IsJob job) where
  -- ---- a batch

  batch_task : (d : D) (xs : List D) (x : D) → IsBatch job d xs → In x xs → job.task_of x ≡ Some (of d)
  batch_task d xs x (inl b) i = absurd (subst (In x) b.1 i)
  batch_task d xs x (inr b) i = laws.makes x (of d) (subst (In x) (sym b.1) (inr i))

  -- the outputs of the task of one of a batch are the batch
  batch_outputs : (d : D) (xs : List D) (x : D) (t : Task D) → IsBatch job d xs → In x (d ∷ xs) → job.task_of x ≡ Some t → job.outputs t ≡ d ∷ xs
  batch_outputs d xs x t b (inr i) e =
      let s : Some (of d) ≡ Some t = sym (batch_task d xs x b i) ∙ e in same b s
    where
      same : IsBatch job d xs → Some (of d) ≡ Some t → job.outputs t ≡ d ∷ xs
      same (inl c) s = absurd (subst (In x) c.1 i)
      same (inr c) s = let q : of d ≡ t = cc in ap job.outputs (sym q) ∙ c.1
  batch_outputs d xs x t (inl b) (inl s) e =
      let bad : None ≡ Some t = sym b.0 ∙ (ap job.task_of (sym s) ∙ e) in cc
  batch_outputs d xs x t (inr b) (inl s) e =
      let k : Some (of d) ≡ Some t = sym b.0 ∙ (ap job.task_of (sym s) ∙ e) in
      let q : of d ≡ t = cc in ap job.outputs (sym q) ∙ b.1

  -- ---- between two waits

  -- the rest of a batch is made before the next wait
  rest_made : (xs : List D) (i : ℕ) (acts : List (Act D)) → Batched job xs acts → (x : D) → In x xs → In x (made_before (suc i) acts)
  rest_made [] i acts b x j = absurd j
  rest_made (y ∷ ys) i [] b x j = absurd b
  rest_made (y ∷ ys) i (made d ∷ acts) b x (inl s) = inl (s ∙ sym b.0)
  rest_made (y ∷ ys) i (made d ∷ acts) b x (inr j) = inr (rest_made ys i acts b.1 x j)
  rest_made (y ∷ ys) i (wait ds ∷ acts) b x j = absurd b

  -- each of what is made is of the rest of a batch, or stands there with all outputs of its task
  outputs_made : (xs : List D) (i : ℕ) (acts : List (Act D)) → Batched job xs acts → (x : D) → In x (made_before i acts) → (t : Task D)
      → job.task_of x ≡ Some t → In x xs ⊎ ((e : D) → In e (job.outputs t) → In e (made_before i acts))
  outputs_made xs zero acts b x j t k = absurd j
  outputs_made xs (suc i) [] b x j t k = absurd j
  outputs_made [] (suc i) (made d ∷ acts) b x (inl s) t k = inr (λ e o. go e (subst (In e) (batch_outputs d b.0 x t b.1 (inl s) k) o))
    where
      go : (e : D) → In e (d ∷ b.0) → In e (d ∷ made_before (suc i) acts)
      go e (inl q) = inl q
      go e (inr q) = inr (rest_made b.0 i acts b.2 e q)
  outputs_made [] (suc i) (made d ∷ acts) b x (inr j) t k = inr (pick (outputs_made b.0 (suc i) acts b.2 x j t k))
    where
      go : (e : D) → In e (d ∷ b.0) → In e (d ∷ made_before (suc i) acts)
      go e (inl q) = inl q
      go e (inr q) = inr (rest_made b.0 i acts b.2 e q)

      pick : (In x b.0 ⊎ ((e : D) → In e (job.outputs t) → In e (made_before (suc i) acts))) → (e : D) → In e (job.outputs t)
          → In e (d ∷ made_before (suc i) acts)
      pick (inl q) e o = go e (subst (In e) (batch_outputs d b.0 x t b.1 (inr q) k) o)
      pick (inr f) e o = inr (f e o)
  outputs_made (y ∷ ys) (suc i) (made d ∷ acts) b x (inl s) t k = inl (inl (s ∙ b.0))
  outputs_made (y ∷ ys) (suc i) (made d ∷ acts) b x (inr j) t k = pick (outputs_made ys (suc i) acts b.1 x j t k)
    where
      pick : (In x ys ⊎ ((e : D) → In e (job.outputs t) → In e (made_before (suc i) acts))) → In x (y ∷ ys)
          ⊎ ((e : D) → In e (job.outputs t) → In e (d ∷ made_before (suc i) acts))
      pick (inl q) = inl (inr q)
      pick (inr f) = inr (λ e o. inr (f e o))
  outputs_made [] (suc i) (wait ds ∷ acts) b x j t k = outputs_made [] i acts b x j t k
  outputs_made (y ∷ ys) (suc i) (wait ds ∷ acts) b x j t k = absurd b

  heads_made : (xs seen : List D) (i : ℕ) (acts : List (Act D)) → Batched job xs acts
      → ((x e : D) → In x xs → job.task_of x ≡ Some (of e) → In e seen) → HeadsFirst job seen (made_before i acts)
  heads_made xs seen zero acts b h = tt
  heads_made xs seen (suc i) [] b h = tt
  heads_made [] seen (suc i) (made d ∷ acts) b h = (first b.1, heads_made b.0 (d ∷ seen) (suc i) acts b.2 later)
    where
      same : (e : D) → Some (of d) ≡ Some (of e) → e ≡ d
      same e q = cc

      first : IsBatch job d b.0 → (e : D) → job.task_of d ≡ Some (of e) → In e (d ∷ seen)
      first (inl c) e k = let bad : None ≡ Some (of e) = sym c.0 ∙ k in cc
      first (inr c) e k = inl (same e (sym c.0 ∙ k))

      later : (x e : D) → In x b.0 → job.task_of x ≡ Some (of e) → In e (d ∷ seen)
      later x e j k = inl (same e (sym (batch_task d b.0 x b.1 j) ∙ k))
  heads_made (y ∷ ys) seen (suc i) (made d ∷ acts) b h =
      (λ e k. inr (h y e (inl refl) (ap job.task_of (sym b.0) ∙ k)), heads_made ys (d ∷ seen) (suc i) acts b.1 (λ x e j k. inr (h x e (inr j) k)))
  heads_made [] seen (suc i) (wait ds ∷ acts) b h = heads_made [] seen i acts b h
  heads_made (y ∷ ys) seen (suc i) (wait ds ∷ acts) b h = absurd b

  -- ---- after a wait

  after_batched : (xs : List D) (j : ℕ) (acts : List (Act D)) → Batched job xs acts → Batched job [] (after_wait (suc j) acts)
  after_batched xs j [] b = tt
  after_batched [] j (made d ∷ acts) b = after_batched b.0 j acts b.2
  after_batched (x ∷ xs) j (made d ∷ acts) b = after_batched xs j acts b.1
  after_batched [] zero (wait ds ∷ acts) b = b
  after_batched [] (suc j) (wait ds ∷ acts) b = after_batched [] j acts b
  after_batched (x ∷ xs) j (wait ds ∷ acts) b = absurd b

  from_batched : (j : ℕ) (acts : List (Act D)) → Batched job [] acts → Batched job [] (after_wait j acts)
  from_batched zero acts b = b
  from_batched (suc j) acts b = after_batched [] j acts b

  -- all that is made is made before a wait that isn't reached
  all_before : (acts : List (Act D)) → made_in acts ≡ made_before (suc (length (waits_in acts))) acts
  all_before [] = refl
  all_before (made d ∷ acts) = ap (λ ds. d ∷ ds) (all_before acts)
  all_before (wait ds ∷ acts) = all_before acts

  abbrev pub WithOutputs : List D → D → Type 0
  WithOutputs ds x = (t : Task D) → job.task_of x ≡ Some t → Each (λ e. In e ds) (job.outputs t)

  between_outputs : (j i : ℕ) (acts : List (Act D)) → Batched job [] acts → (x : D) → In x (made_before i (after_wait j acts))
      → WithOutputs (made_before i (after_wait j acts)) x
  between_outputs j i acts b x k t e = pick (outputs_made [] i (after_wait j acts) (from_batched j acts b) x k t e)
    where
      pick : (In x [] ⊎ ((o : D) → In o (job.outputs t) → In o (made_before i (after_wait j acts))))
          → Each (λ o. In o (made_before i (after_wait j acts))) (job.outputs t)
      pick (inl q) = absurd q
      pick (inr f) = each_all (λ o. In o (made_before i (after_wait j acts))) (job.outputs t) f

  -- what is made between two waits is there with all outputs of its task, each behind the one that the task goes by
  pub segment_whole : (j i : ℕ) (acts : List (Act D)) (ds : List D) → Batched job [] acts → ds ≡ made_before i (after_wait j acts)
      → ((x : D) → In x ds → WithOutputs ds x) × HeadsFirst job [] ds
  segment_whole j i acts ds b s =
      subst (λ z. ((x : D) → In x z → WithOutputs z x) × HeadsFirst job [] z) (sym s)
      (λ x k. between_outputs j i acts b x k, heads_made [] [] i (after_wait j acts) (from_batched j acts b) (λ x e k. absurd k))

  pub end_whole : (j : ℕ) (acts : List (Act D)) (ds : List D) → Batched job [] acts → ds ≡ made_in (after_wait j acts)
      → ((x : D) → In x ds → WithOutputs ds x) × HeadsFirst job [] ds
  end_whole j acts ds b s =
      segment_whole j (suc (length (waits_in (after_wait j acts)))) acts ds b (s ∙ all_before (after_wait j acts))

  -- ---- the book

  heads_more : (seen more ds : List D) → ((x : D) → In x seen → In x more) → HeadsFirst job seen ds → HeadsFirst job more ds
  heads_more seen more [] g h = tt
  heads_more seen more (d ∷ ds) g h = (λ e k. wide e (h.0 e k), heads_more (d ∷ seen) (d ∷ more) ds wide h.1)
    where
      wide : (x : D) → In x (d ∷ seen) → In x (d ∷ more)
      wide x (inl s) = inl s
      wide x (inr i) = inr (g x i)

  heads_last : (seen ds : List D) (d : D) → HeadsFirst job seen ds → ((e : D) → job.task_of d ≡ Some (of e) → (e ≡ d) ⊎ (In e seen ⊎ In e ds))
      → HeadsFirst job seen (ds ++ d ∷ [])
  heads_last seen [] d h f = (λ e k. pick e (f e k), tt)
    where
      pick : (e : D) → ((e ≡ d) ⊎ (In e seen ⊎ In e [])) → In e (d ∷ seen)
      pick e (inl s) = inl s
      pick e (inr (inl i)) = inr i
      pick e (inr (inr i)) = absurd i
  heads_last seen (x ∷ xs) d h f = (h.0, heads_last (x ∷ seen) xs d h.1 (λ e k. pick e (f e k)))
    where
      pick : (e : D) → ((e ≡ d) ⊎ (In e seen ⊎ In e (x ∷ xs))) → (e ≡ d) ⊎ (In e (x ∷ seen) ⊎ In e xs)
      pick e (inl s) = inl s
      pick e (inr (inl i)) = inr (inl (inr i))
      pick e (inr (inr (inl s))) = inr (inl (inl s))
      pick e (inr (inr (inr i))) = inr (inr i)

  in_front : (xs : List D) (y x : D) → In x xs → In x (xs ++ y ∷ [])
  in_front [] y x i = absurd i
  in_front (z ∷ zs) y x (inl s) = inl s
  in_front (z ∷ zs) y x (inr i) = inr (in_front zs y x i)

  at_last : (xs : List D) (y : D) → In y (xs ++ y ∷ [])
  at_last [] y = inl refl
  at_last (z ∷ zs) y = inr (at_last zs y)

  learned_heads : (book seen ds : List D) → ((x : D) → In x seen → In x book) → HeadsFirst job [] book → HeadsFirst job seen ds
      → HeadsFirst job [] (learned job book ds)
  learned_heads book seen [] g h k = h
  learned_heads book seen (d ∷ ds) g h k = pick (list_any (job.same d) book) refl (λ more old heads. learned_heads more (d ∷ seen) ds old heads k.1)
    where
      old_known : list_any (job.same d) book ≡ true → (x : D) → In x (d ∷ seen) → In x book
      old_known e x (inl s) = subst (λ z. In z book) (sym s) (any_in job.same laws.same_exact d book e)
      old_known e x (inr i) = g x i

      old_new : (x : D) → In x (d ∷ seen) → In x (book ++ d ∷ [])
      old_new x (inl s) = subst (λ z. In z (book ++ d ∷ [])) (sym s) (at_last book d)
      old_new x (inr i) = in_front book d x (g x i)

      head : (e : D) → In e (d ∷ seen) → (e ≡ d) ⊎ (In e [] ⊎ In e book)
      head e (inl s) = inl s
      head e (inr i) = inr (inr (g e i))

      pick : (b : Bool) → list_any (job.same d) book ≡ b
          → ((more : List D) → ((x : D) → In x (d ∷ seen) → In x more) → HeadsFirst job [] more → HeadsFirst job [] (learned job more ds))
          → HeadsFirst job [] (learned job (cond b book (book ++ d ∷ [])) ds)
      pick true e on = on book (old_known e) h
      pick false e on = on (book ++ d ∷ []) old_new (heads_last [] book d h (λ x q. head x (k.0 x q)))

  pub book_heads : (book ds : List D) → HeadsFirst job [] book → HeadsFirst job [] ds → HeadsFirst job [] (learned job book ds)
  book_heads book ds h k = learned_heads book [] ds (λ x i. absurd i) h k
