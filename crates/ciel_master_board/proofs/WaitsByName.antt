-- Saved waits by names: each task that goes by a name of the book has its own.
use Rattle.std.proofs.Common.{◌≡◌, ℕ, List, [], ◌∷◌, ◌++◌, Bool, true, false, not, cond, map, nat_eq, Option, Some, None, ◌⊎◌, inl, inr, refl}
use Rattle.std.proofs.Common.{ap, sym, ◌∙◌, subst}
use Rattle.std.specs.Option.{option_map, option_map_or}
use Rattle.std.proofs.lemmas.List.{append-nil}
use Rattle.sky_base.specs.Val.{same_text}
use Rattle.sky_base.specs.declared.object.TaskId.{TaskId}
use Rattle.sky_base.proofs.Exact.{exact_text}
use Rattle.ciel_journal.specs.History.{Save, same_task}
use Rattle.ciel_journal.specs.Job.{Digest, In, Task}
use Rattle.ciel_journal.specs.Lawful.{NoClash, own_name}
use Rattle.ciel_journal.proofs.Bound.{task_exact}
use Rattle.ciel_journal.proofs.Members.{bool_cases}
use Rattle.ciel_table.specs.Changes as c
use Rattle.ciel_table.specs.Named.{changed, found}
use Rattle.ciel_table.specs.Seen.{TableSeen, saves_name, waits_in, waits_of}
use Rattle.ciel_table.specs.declared.wait.Wait.{Wait}
use Rattle.ciel_table.specs.declared.wait.Saves.{Saves}
use Rattle.ciel_want.specs.History.{task_id}
use Rattle.ciel_want.specs.Waited.{same_id}
use Rattle.ciel_master_board.specs.Follows.{OneByOne, WaitIs, saves_of, standing_saves}
use Rattle.ciel_master_board.specs.Setting.{IsSetting, Setting}
use Rattle.ciel_master_board.proofs.TableLookups.{same_named}
use Rattle.ciel_master_board.proofs.Pairs.{filter_both, filter_join, filtered, join}
use Rattle.ciel_master_board.proofs.StandingSaves.{elsewhere, standing_elsewhere, standing_last}

module _ {X : Type 0} (name : X → List ℕ) where
  found_push : (n : Digest) (xs : List X) (x : X) → found name n xs ≡ None → found name n (xs ++ x ∷ []) ≡ cond (same_text n (name x)) (Some x) None
  found_push n [] x e = refl
  found_push n (y ∷ ys) x e = pick (same_text n (name y)) e (found_push n ys x)
    where
      pick : (b : Bool) → cond b (Some y) (found name n ys) ≡ None
          → (found name n ys ≡ None → found name n (ys ++ x ∷ []) ≡ cond (same_text n (name x)) (Some x) None)
          → cond b (Some y) (found name n (ys ++ x ∷ [])) ≡ cond (same_text n (name x)) (Some x) None
      pick true h r = cc
      pick false h r = r h

  found_still : (n : Digest) (xs : List X) (x q : X) → found name n xs ≡ Some q → found name n (xs ++ x ∷ []) ≡ Some q
  found_still n [] x q e = cc
  found_still n (y ∷ ys) x q e = pick (same_text n (name y)) e (found_still n ys x q)
    where
      pick : (b : Bool) → cond b (Some y) (found name n ys) ≡ Some q → (found name n ys ≡ Some q → found name n (ys ++ x ∷ []) ≡ Some q)
          → cond b (Some y) (found name n (ys ++ x ∷ [])) ≡ Some q
      pick true h r = h
      pick false h r = r h

  module _ (f : X → X) (keeps : (x : X) → name (f x) ≡ name x) where
    abbrev Changed : Digest → X → List X → Bool → Type 0
    Changed n y ys b = found name n (cond b (f y ∷ ys) (y ∷ changed name f n ys)) ≡ option_map f (cond b (Some y) (found name n ys))

    abbrev Other : Digest → Digest → X → List X → Bool → Type 0
    Other n m y ys b = found name n (cond b (f y ∷ ys) (y ∷ changed name f m ys)) ≡ cond (same_text n (name y)) (Some y) (found name n ys)

    found_changed : (n : Digest) (xs : List X) → found name n (changed name f n xs) ≡ option_map f (found name n xs)
    found_changed n [] = refl
    found_changed n (y ∷ ys) = pick (bool_cases (same_text n (name y))) (found_changed n ys)
      where
        pick : ((same_text n (name y) ≡ true) ⊎ (same_text n (name y) ≡ false)) → found name n (changed name f n ys)
            ≡ option_map f (found name n ys) → Changed n y ys (same_text n (name y))
        pick (inl t) r =
            let k : same_text n (name (f y)) ≡ true = ap (same_text n) (keeps y) ∙ t in
            subst (Changed n y ys) (sym t) (ap (λ b. cond b (Some (f y)) (found name n ys)) k)
        pick (inr u) r =
            subst (Changed n y ys) (sym u) (ap (λ b. cond b (Some y) (found name n (changed name f n ys))) u ∙ r)

    found_other : (n m : Digest) → same_text n m ≡ false → (xs : List X) → found name n (changed name f m xs) ≡ found name n xs
    found_other n m d [] = refl
    found_other n m d (y ∷ ys) = pick (bool_cases (same_text m (name y))) (found_other n m d ys)
      where
        pick : ((same_text m (name y) ≡ true) ⊎ (same_text m (name y) ≡ false)) → found name n (changed name f m ys) ≡ found name n ys
            → Other n m y ys (same_text m (name y))
        pick (inl t) r =
            let is : m ≡ name y = exact_text m (name y) t in
            let k : same_text n (name y) ≡ false = subst (λ z. same_text n z ≡ false) is d in
            let j : same_text n (name (f y)) ≡ false = ap (same_text n) (keeps y) ∙ k in
            subst (Other n m y ys) (sym t) (ap (λ b. cond b (Some (f y)) (found name n ys)) j ∙ sym (ap (λ b. cond b (Some y) (found name n ys)) k))
        pick (inr u) r = subst (Other n m y ys) (sym u) (ap (λ o. cond (same_text n (name y)) (Some y) o) r)

module _ {P : Type 0} where
  abbrev waits_or : Option (Saves P) → List (Wait P)
  waits_or o = option_map_or (λ (q : Saves P). q.waits) o []

  pub same_waits : (y : TaskId) (t u : TableSeen P) → u.shown ≡ t.shown → u.saved ≡ t.saved → waits_of y u ≡ waits_of y t
  same_waits TaskId.Show t u a b = a
  same_waits (TaskId.Of n) t u a b = ap (waits_in n) b

  found_mapped : (f : Saves P → Saves P) → ((q : Saves P) → (f q).name ≡ q.name) → (n : Digest) (ss : List (Saves P))
      → found saves_name n (map f ss) ≡ option_map f (found saves_name n ss)
  found_mapped f keeps n [] = refl
  found_mapped f keeps n (q ∷ qs) =
      ap (λ m. cond (same_text n m) (Some (f q)) (found saves_name n (map f qs))) (keeps q) ∙ pick (same_text n q.name) (found_mapped f keeps n qs)
    where
      pick : (b : Bool) → found saves_name n (map f qs) ≡ option_map f (found saves_name n qs)
          → cond b (Some (f q)) (found saves_name n (map f qs)) ≡ option_map f (cond b (Some q) (found saves_name n qs))
      pick true r = refl
      pick false r = r

module _ {P : Type 0} (at : P → ℕ) where
  -- ---- one more

  abbrev first_of : Digest → Wait P → Saves P
  first_of m w = record { name = m; waits = w ∷ [] }

  abbrev HeldStill : Digest → Digest → Wait P → List (Saves P) → Bool → Type 0
  HeldStill n m w ss b =
      waits_in n (changed saves_name (c.saves_with at w) m ss) ≡ cond b (c.waits_with at w (waits_in n ss)) (waits_in n ss)

  abbrev HeldFirst : Digest → Digest → Wait P → List (Saves P) → Bool → Type 0
  HeldFirst n m w ss b = waits_in n (ss ++ first_of m w ∷ []) ≡ cond b (c.waits_with at w (waits_in n ss)) (waits_in n ss)

  -- the waits of one name after one more of another
  named_waits : (n m : Digest) (w : Wait P) (ss : List (Saves P)) (o : Option (Saves P)) → found saves_name m ss ≡ o
      → waits_in n (c.save_at at o m w ss) ≡ cond (same_text n m) (c.waits_with at w (waits_in n ss)) (waits_in n ss)
  named_waits n m w ss (Some q) e = pick (bool_cases (same_text n m))
    where
      pick : ((same_text n m ≡ true) ⊎ (same_text n m ≡ false)) → HeldStill n m w ss (same_text n m)
      pick (inl t) =
          let is : n ≡ m = exact_text n m t in
          subst (HeldStill n m w ss) (sym t) (subst (λ z. waits_in z (changed saves_name (c.saves_with at w) m ss) ≡ c.waits_with at w (waits_in z ss))
          (sym is) (ap waits_or (found_changed saves_name (c.saves_with at w) (λ x. refl) m ss)
          ∙ (ap (λ o. waits_or (option_map (c.saves_with at w) o)) e ∙ sym (ap (λ o. c.waits_with at w (waits_or o)) e))))
      pick (inr f) =
          subst (HeldStill n m w ss) (sym f) (ap waits_or (found_other saves_name (c.saves_with at w) (λ x. refl) n m f ss))
  named_waits n m w ss None e = pick (bool_cases (same_text n m)) (found saves_name n ss) refl
    where
      pick : ((same_text n m ≡ true) ⊎ (same_text n m ≡ false)) → (o : Option (Saves P)) → found saves_name n ss ≡ o
          → HeldFirst n m w ss (same_text n m)
      pick (inl t) o g =
          let is : n ≡ m = exact_text n m t in
          let none : found saves_name n ss ≡ None = subst (λ z. found saves_name z ss ≡ None) (sym is) e in
          subst (HeldFirst n m w ss) (sym t) (ap waits_or
          (found_push saves_name n ss (first_of m w) none ∙ ap (λ b. cond b (Some (first_of m w)) None) t)
          ∙ sym (ap (λ o. c.waits_with at w (waits_or o)) none))
      pick (inr f) None g =
          subst (HeldFirst n m w ss) (sym f) (ap waits_or
          (found_push saves_name n ss (first_of m w) g ∙ ap (λ b. cond b (Some (first_of m w)) None) f) ∙ sym (ap waits_or g))
      pick (inr f) (Some q) g =
          subst (HeldFirst n m w ss) (sym f) (ap waits_or (found_still saves_name n ss (first_of m w) q g) ∙ sym (ap waits_or g))

  -- the waits of one task after one more of another
  pub more_waits : (y z : TaskId) (w : Wait P) (t : TableSeen P) → waits_of y (c.saved at z w t)
      ≡ cond (same_id y z) (c.waits_with at w (waits_of y t)) (waits_of y t)
  more_waits TaskId.Show TaskId.Show w t = refl
  more_waits TaskId.Show (TaskId.Of m) w t = refl
  more_waits (TaskId.Of n) TaskId.Show w t = refl
  more_waits (TaskId.Of n) (TaskId.Of m) w t = named_waits n m w t.saved (found saves_name m t.saved) refl

  -- ---- a worker less

  pub fewer_waits : (gone : ℕ) (y : TaskId) (t : TableSeen P) → waits_of y (c.dropped at gone t) ≡ c.waits_without at gone (waits_of y t)
  fewer_waits gone TaskId.Show t = refl
  fewer_waits gone (TaskId.Of n) t =
      ap waits_or (found_mapped (c.saves_without at gone) (λ q. refl) n t.saved) ∙ turn (found saves_name n t.saved)
    where
      turn : (o : Option (Saves P)) → waits_or (option_map (c.saves_without at gone) o) ≡ c.waits_without at gone (waits_or o)
      turn None = refl
      turn (Some q) = refl

module _ {D P B : Type 0} (s : Setting D P B) (is : IsSetting s) where
  abbrev HasWaits : Task D → List (Save D) → TableSeen P → Type 0
  HasWaits u qs t = OneByOne (WaitIs s) (standing_saves (saves_of s.job u qs)) (waits_of (task_id s.job u) t)

  -- those at other workers, by names
  left_is : (gone : ℕ) (qs : List (Save D)) (ws : List (Wait P)) → OneByOne (WaitIs s) qs ws
      → OneByOne (WaitIs s) (elsewhere gone qs) (c.waits_without s.at gone ws)
  left_is gone qs ws h =
      filtered (WaitIs s) (λ (q : Save D). not (nat_eq gone q.worker)) (λ (w : Wait P). not (nat_eq gone (s.at w.place)))
      (λ q w k. ap (λ n. not (nat_eq gone n)) (sym k.worker)) qs ws h

  -- one more of the task
  last_is : (qs : List (Save D)) (q : Save D) (ws : List (Wait P)) (w : Wait P) → WaitIs s q w → OneByOne (WaitIs s) (standing_saves qs) ws
      → OneByOne (WaitIs s) (standing_saves (qs ++ q ∷ [])) (c.waits_with s.at w ws)
  last_is qs q ws w k h =
      subst (λ n. OneByOne (WaitIs s) (standing_saves (qs ++ q ∷ [])) (c.waits_without s.at n ws ++ w ∷ [])) (sym k.worker)
      (subst (λ xs. OneByOne (WaitIs s) xs (c.waits_without s.at q.worker ws ++ w ∷ [])) (sym (standing_last qs q))
      (join (WaitIs s) (elsewhere q.worker (standing_saves qs)) (c.waits_without s.at q.worker ws) (q ∷ []) (w ∷ [])
      (left_is q.worker (standing_saves qs) ws h) (k, tt)))

  -- one more saved wait of the task of an order
  pub waits_pushed : (book : List D) → NoClash s.job book → (u t : Task D) → In (own_name s.job u) book → In (own_name s.job t) book
      → (qs : List (Save D)) (q : Save D) (table : TableSeen P) (z : TaskId) (w : Wait P) → q.task ≡ t → z ≡ task_id s.job t → WaitIs s q w
      → HasWaits u qs table → HasWaits u (qs ++ q ∷ []) (c.saved s.at z w table)
  waits_pushed book apart u t i j qs q table z w a e k h =
      subst (OneByOne (WaitIs s) (standing_saves (saves_of s.job u (qs ++ q ∷ []))))
      (sym (more_waits s.at (task_id s.job u) z w table ∙ ap (λ b. cond b (c.waits_with s.at w mine) mine) test))
      (subst (λ xs. OneByOne (WaitIs s) (standing_saves xs) (cond (same_task s.job u q.task) (c.waits_with s.at w mine) mine))
      (sym (filter_join (λ (x : Save D). same_task s.job u x.task) qs (q ∷ []))) (pick (same_task s.job u q.task)))
    where
      mine : List (Wait P)
      mine = waits_of (task_id s.job u) table

      test : same_id (task_id s.job u) z ≡ same_task s.job u q.task
      test =
          ap (same_id (task_id s.job u)) e ∙ (same_named s is book apart u t i j ∙ ap (same_task s.job u) (sym a))

      pick : (b : Bool) → OneByOne (WaitIs s) (standing_saves (saves_of s.job u qs ++ cond b (q ∷ []) [])) (cond b (c.waits_with s.at w mine) mine)
      pick true = last_is (saves_of s.job u qs) q mine w k h
      pick false = subst (λ xs. OneByOne (WaitIs s) (standing_saves xs) mine) (sym (append-nil (saves_of s.job u qs))) h

  -- those of a lost worker go
  pub waits_dropped : (gone : ℕ) (u : Task D) (qs : List (Save D)) (t : TableSeen P) → HasWaits u qs t
      → HasWaits u (elsewhere gone qs) (c.dropped s.at gone t)
  waits_dropped gone u qs t h =
      subst (OneByOne (WaitIs s) (standing_saves (saves_of s.job u (elsewhere gone qs)))) (sym (fewer_waits s.at gone (task_id s.job u) t))
      (subst (λ xs. OneByOne (WaitIs s) xs (c.waits_without s.at gone (waits_of (task_id s.job u) t)))
      (sym (standing_elsewhere gone (saves_of s.job u qs))
      ∙ ap standing_saves (filter_both (λ (q : Save D). not (nat_eq gone q.worker)) (λ (q : Save D). same_task s.job u q.task) qs))
      (left_is gone (standing_saves (saves_of s.job u qs)) (waits_of (task_id s.job u) t) h))

  -- a task whose saves are of others has none
  pub none_saved : (u : Task D) (qs : List (Save D)) → ((q : Save D) → In q qs → q.task ≡ u → ⊥) → saves_of s.job u qs ≡ []
  none_saved u [] h = refl
  none_saved u (q ∷ qs) h = pick (bool_cases (same_task s.job u q.task)) (none_saved u qs (λ x i. h x (inr i)))
    where
      pick : ((same_task s.job u q.task ≡ true) ⊎ (same_task s.job u q.task ≡ false)) → saves_of s.job u qs ≡ []
          → cond (same_task s.job u q.task) (q ∷ saves_of s.job u qs) (saves_of s.job u qs) ≡ []
      pick (inl y) r = absurd (h q (inl refl) (sym (task_exact s.job is.laws u q.task y)))
      pick (inr f) r = ap (λ b. cond b (q ∷ saves_of s.job u qs) (saves_of s.job u qs)) f ∙ r
