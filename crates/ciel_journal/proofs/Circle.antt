-- A circle of waits means that the root task never ends.
use Rattle.std.proofs.Common.{◌≡◌, ◌≢◌, ℕ, zero, suc, ◌+◌, List, [], ◌∷◌, ◌++◌, Bool, true, false, Option, Some, None, slice_get, inl, inr, refl, ap}
use Rattle.std.proofs.Common.{sym, ◌∙◌, subst, append_assoc, append-nil, add_comm, suc-add, zero-add}
use Rattle.ciel_journal.specs.Job.{Act, Digest, Each, In, IsJob, IsPrefix, Job, Never, Task, WaitOf, made, show, wait, waits_in}
use Rattle.ciel_journal.specs.History.{Standing, needs}
use Rattle.ciel_journal.specs.Graph.{Chain, WaitsOn, root, standing_graph, through}
use Rattle.ciel_journal.specs.Turns.{CircleAtRest, Reached}

pub get_front : {A : Type 0} (xs ys : List A) (i : ℕ) (x : A) → slice_get xs i ≡ Some x → slice_get (xs ++ ys) i ≡ Some x
get_front [] ys i x e = cc
get_front (a ∷ xs) ys zero x e = e
get_front (a ∷ xs) ys (suc i) x e = get_front xs ys i x e

pub prefix_then : {A : Type 0} (xs ys zs : List A) → IsPrefix xs ys → IsPrefix ys zs → IsPrefix xs zs
prefix_then xs ys zs p q = (p.0 ++ q.0, sym (append_assoc xs p.0 q.0) ∙ (ap (λ us. us ++ q.0) p.1 ∙ q.1))

module _ {D : Type 0} where
  pub waits_join : (xs ys : List (Act D)) → waits_in (xs ++ ys) ≡ waits_in xs ++ waits_in ys
  waits_join [] ys = refl
  waits_join (made d ∷ xs) ys = waits_join xs ys
  waits_join (wait ds ∷ xs) ys = ap (λ zs. ds ∷ zs) (waits_join xs ys)

  pub each_in : (P : D → Type 0) (d : D) (ds : List D) → In d ds → Each P ds → P d
  each_in P d [] i e = absurd i
  each_in P d (x ∷ xs) (inl s) e = subst P (sym s) e.0
  each_in P d (x ∷ xs) (inr i) e = each_in P d xs i e.1

module _ {D : Type 0} (job : Job D) (laws : IsJob job) where
  pub acts_grow : (k n : ℕ) (t : Task D) → IsPrefix (job.acts n t) (job.acts (k + n) t)
  acts_grow zero n t = ([], append-nil _ ∙ ap (λ i. job.acts i t) (sym (zero-add n)))
  acts_grow (suc k) n t =
      let e : suc k + n ≡ suc (k + n) = suc-add k n in
      subst (λ i. IsPrefix (job.acts n t) (job.acts i t)) (sym e) (prefix_then _ _ _ (acts_grow k n t) (laws.more (k + n) t))

  pub ended_stays : (k n : ℕ) (t : Task D) → job.ended n t ≡ true → (job.acts (k + n) t ≡ job.acts n t) × (job.ended (k + n) t ≡ true)
  ended_stays zero n t h = rw zero-add (refl, h)
  ended_stays (suc k) n t h =
      let e : suc k + n ≡ suc (k + n) = suc-add k n in
      let r = ended_stays k n t h in
      let s = laws.kept (k + n) t r.1 in
      rw e (s.0 ∙ r.0, s.1)

  -- each wait of a task that has ended was met by then
  pub wait_at_end : (n : ℕ) (t : Task D) (j : ℕ) (ds : List D) → job.ended n t ≡ true → WaitOf job t (suc j) ds
      → slice_get (waits_in (job.acts n t)) j ≡ Some ds
  wait_at_end n t j ds h w =
      let p = acts_grow n w.0 t in
      let a : slice_get (waits_in (job.acts w.0 t) ++ waits_in p.0) j ≡ Some ds = get_front _ _ j ds w.1 in
      let b : waits_in (job.acts w.0 t) ++ waits_in p.0 ≡ waits_in (job.acts (n + w.0) t) = sym (waits_join (job.acts w.0 t) p.0) ∙ ap waits_in p.1 in
      let c : job.acts (n + w.0) t ≡ job.acts n t = ap (λ i. job.acts i t) (add_comm n w.0) ∙ (ended_stays w.0 n t h).0 in
      sym (ap (λ us. slice_get us j) (b ∙ ap waits_in c)) ∙ a

  abbrev pub SeenAt : ℕ → D → Type 0
  SeenAt n d = job.object n d ≢ None

  pub end_needs : (n : ℕ) (t : Task D) (j : ℕ) (ds : List D) → job.ended n t ≡ true → WaitOf job t j ds → Each (SeenAt n) ds
  end_needs n t zero ds h w = subst (Each (SeenAt n)) (sym w) (laws.first_seen n t h)
  end_needs n t (suc j) ds h w = laws.later_seen n t j ds h (wait_at_end n t j ds h w)

  -- what the table says of each task's wait
  abbrev pub Waiting : Standing D → Type 0
  Waiting v = (t : Task D) → (j : ℕ) × WaitOf job t j (needs job v t)

  module _ (v : Standing D) (waiting : Waiting v) where
    -- an end of a task was seen by what it waits for
    pub needs_seen : (n : ℕ) (t : Task D) (d : D) → job.ended n t ≡ true → In d (needs job v t) → SeenAt n d
    needs_seen n t d h i = let w = waiting t in each_in (SeenAt n) d _ i (end_needs n t w.0 _ h w.1)

    abbrev pub Turns : List D → Type 0
    Turns cs = (d : D) → In d cs → (e : D) × In e cs × WaitsOn (standing_graph job v) d e

    none_or : (x : Option Digest) → (x ≢ None → ⊥) → x ≡ None
    none_or None h = refl
    none_or (Some m) h = absurd (h (λ e. cc))

    pub circle_unseen : (cs : List D) → Turns cs → (n : ℕ) (d : D) → In d cs → job.object n d ≡ None
    circle_unseen cs turns zero d i = let w = (turns d i).2 in laws.unseen d w.0 w.1
    circle_unseen cs turns (suc n) d i =
        let e = turns d i in
        let w = e.2 in
        none_or _ (λ s. needs_seen n w.0 e.0 (laws.seen n d w.0 w.1 s) w.4 (circle_unseen cs turns n e.0 e.1))

    false_or : (b : Bool) → (b ≡ true → ⊥) → b ≡ false
    false_or true h = absurd (h refl)
    false_or false h = refl

    -- a description whose task never ends is never seen
    pub never_seen : (d : D) (u : Task D) → job.task_of d ≡ Some u → ((n : ℕ) → job.ended n u ≡ false) → (n : ℕ) → job.object n d ≡ None
    never_seen d u e h zero = laws.unseen d u e
    never_seen d u e h (suc n) = none_or _ (λ s. let a = laws.seen n d u e s in let b = h n in cc)

    pub never_up : (t : Task D) → Reached job v t → ((n : ℕ) → job.ended n t ≡ false) → (n : ℕ) → job.ended n show ≡ false
    never_up t root h n = h n
    never_up t (through r o d i l e) h n =
        never_up _ r (λ m. false_or _ (λ s. needs_seen m _ d s i (never_seen d t e h m))) n

    next_of : (first d : D) (ds : List D) → Chain (standing_graph job v) first d ds → (x : D) → In x (d ∷ ds) → (e : D) × In e (first ∷ d ∷ ds)
        × WaitsOn (standing_graph job v) x e
    next_of first d [] c x (inl s) = (first, inl refl, subst (λ y. WaitsOn (standing_graph job v) y first) (sym s) c)
    next_of first d [] c x (inr i) = absurd i
    next_of first d (e ∷ es) c x (inl s) = (e, inr (inr (inl refl)), subst (λ y. WaitsOn (standing_graph job v) y e) (sym s) c.0)
    next_of first d (e ∷ es) c x (inr i) = let r = next_of first e es c.1 x i in (r.0, widen r.1, r.2)
      where
        widen : {y : D} → In y (first ∷ e ∷ es) → In y (first ∷ d ∷ e ∷ es)
        widen (inl s) = inl s
        widen (inr i) = inr (inr i)

    turns_of : (d : D) (ds : List D) → Chain (standing_graph job v) d d ds → Turns (d ∷ ds)
    turns_of d ds c x i = let r = next_of d d ds c x i in (r.0, same r.1, r.2)
      where
        same : {y : D} → In y (d ∷ d ∷ ds) → In y (d ∷ ds)
        same (inl s) = inl s
        same (inr i) = i

    pub circle_never : (ds : List D) → CircleAtRest job v ds → Never job
    circle_never [] c n = absurd c.1
    circle_never (d ∷ ds) c n =
        let turns = turns_of d ds c.1 in
        let w = (turns d (inl refl)).2 in
        never_up w.0 w.2 (λ m. false_or _ (λ s. needs_seen m w.0 (turns d (inl refl)).0 s w.4
        (circle_unseen (d ∷ ds) turns m (turns d (inl refl)).0 (turns d (inl refl)).1))) n
