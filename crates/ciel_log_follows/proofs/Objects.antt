-- The objects that are kept are the model's, and stay so with those of a task's outputs.
use Rattle.std.proofs.Common.{◌≡◌, ℕ, List, [], ◌∷◌, Bool, true, false, cond, map, Some, None, ◌⊎◌, inl, inr, refl, ap, sym, ◌∙◌, subst}
use Rattle.std.specs.BTreeMap.{BTreeMap, IsEmpty, get, is_at}
use Rattle.std.specs.Map.{lookup}
use Rattle.sky_base.specs.KitView.{Gives}
use Rattle.sky_base.specs.NameOrder.{name_cmp}
use Rattle.sky_base.specs.ObjectView.{object_view}
use Rattle.sky_base.specs.See as s
use Rattle.sky_base.specs.Val.{same_text}
use Rattle.sky_base.specs.declared.object.Object.{Object}
use Rattle.sky_base.proofs.Exact.{exact_text}
use Rattle.sky_base.proofs.NameTests.{same_test}
use Rattle.ciel_journal.specs.History.{Event, standing}
use Rattle.ciel_journal.specs.Job.{Digest, In, Job}
use Rattle.ciel_journal.proofs.Members.{bool_cases}
use Rattle.ciel_log.specs.Logs.{IsObjectOf}
use Rattle.ciel_log_follows.specs.Keeping.{KeepsObjects}
use Rattle.ciel_log_objects.specs.Objects as put
use Rattle.ciel_log_objects.specs.Objects.{KeepsEach}
use Rattle.ciel_master_board.specs.Follows.{OneByOne}
use Rattle.ciel_task_order.specs.Named.{shop_job}

none_same : {A : Type 0} (x : A) → None ≡ Some x → ⊥
none_same x e = cc

module _ (digest : List ℕ → List ℕ) (job : s.Job) (gives : Gives) where
  abbrev J : Job s.Desc
  J = shop_job digest job gives

  -- each is the object of a description of the book
  abbrev KeepsIn : List s.Desc → BTreeMap Digest Object → Type 0
  KeepsIn book kept =
      (n : Digest) (x : Object) → get name_cmp kept n ≡ Some x
      → (d : s.Desc) × In d book × (n ≡ J.name d) × IsObjectOf digest job gives d (object_view x)

  -- at first there are none
  pub keeps_none : (h : List (Event s.Desc)) (kept : BTreeMap Digest Object) → IsEmpty kept → KeepsObjects digest job gives h kept
  keeps_none h kept none n x e = absurd (none_same x (subst (λ es. lookup (is_at (name_cmp n)) es ≡ Some x) none e))

  -- a longer history has a larger book
  pub keeps_on : (h g : List (Event s.Desc)) (kept : BTreeMap Digest Object)
      → ((d : s.Desc) → In d (standing J h).book → In d (standing J g).book) → KeepsObjects digest job gives h kept
      → KeepsObjects digest job gives g kept
  keeps_on h g kept f k n x e = let q = k n x e in (q.0, f q.0 q.1, q.2, q.3)

  -- with one more
  keeps_one : (book : List s.Desc) (a b : BTreeMap Digest Object) (n : Digest) (o : Object) (d : s.Desc)
      → ((q : Digest) → get name_cmp b q ≡ cond (is_at (name_cmp n) q) (Some o) (get name_cmp a q)) → In d book → n ≡ J.name d
      → IsObjectOf digest job gives d (object_view o) → KeepsIn book a → KeepsIn book b
  keeps_one book a b n o d u i name object k q x e = pick (bool_cases (same_text q n))
    where
      at : (t : Bool) → same_text q n ≡ t → cond t (Some o) (get name_cmp a q) ≡ Some x
      at t same =
          ap (λ c. cond c (Some o) (get name_cmp a q)) (sym same)
          ∙ (ap (λ c. cond c (Some o) (get name_cmp a q)) (sym (same_test n q)) ∙ (sym (u q) ∙ e))

      pick : ((same_text q n ≡ true) ⊎ (same_text q n ≡ false))
          → (d : s.Desc) × In d book × (q ≡ J.name d) × IsObjectOf digest job gives d (object_view x)
      pick (inl t) =
          let is : Some o ≡ Some x = at true t in
          let same : o ≡ x = cc in
          (d, i, exact_text q n t ∙ name, subst (λ z. IsObjectOf digest job gives d (object_view z)) same object)
      pick (inr f) = k q x (at false f)

  -- with those of outputs
  pub keeps_more : (book : List s.Desc) {ns : List Digest} {os : List Object} {a b : BTreeMap Digest Object} → KeepsEach ns os a b → (ds : List s.Desc)
      → ((d : s.Desc) → In d ds → In d book) → ns ≡ map J.name ds → OneByOne (IsObjectOf digest job gives) ds (map object_view os)
      → KeepsIn book a → KeepsIn book b
  keeps_more book put.none ds i names objects k = k
  keeps_more book (put.one u more) [] i names objects k = absurd objects
  keeps_more book (put.one {n} {ns} {o} {os} {a} {b} {c} u more) (d ∷ ds) i names objects k =
      let name : n ≡ J.name d = cc in
      let rest : ns ≡ map J.name ds = cc in
      keeps_more book more ds (λ x j. i x (inr j)) rest objects.1 (keeps_one book a b n o d u.0 (i d (inl refl)) name objects.0 k)
