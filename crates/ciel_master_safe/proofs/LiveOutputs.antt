-- After the end of a task each row of its outputs is live.
use Rattle.std.proofs.Common.{◌≡◌, ℕ, zero, suc, ◌+◌, ◌<◌, List, [], ◌∷◌, ◌++◌, Bool, true, false, cond, ◌||◌, map, Option, Some, None, IsSome, ◌⊎◌, inl, inr}
use Rattle.std.proofs.Common.{refl, ap, sym, ◌∙◌, subst, arith, nat_eq, eqb-true, eq-eqb}
use Rattle.std.specs.List.{AllByRecursion, IsDistinct}
use Rattle.std.specs.Option.{option_map}
use Rattle.sky_base.specs.Name.{digested}
use Rattle.sky_base.specs.ObjectView.{desc_view}
use Rattle.sky_base.specs.Tree.{Script}
use Rattle.sky_base.specs.Val.{Desc, Pairs, Val, Vals, call, input, out, same_text}
use Rattle.sky_base.specs.View.{view}
use Rattle.sky_base.specs.declared.object.Desc1.{Desc1}
use Rattle.sky_base.specs.declared.object.Named.{Named}
use Rattle.sky_base.specs.declared.object.TaskId.{TaskId}
use Rattle.sky_base.proofs.Exact.{exact_text, self_text}
use Rattle.sky_base_law.proofs.Lists.{some_is}
use Rattle.ciel_master_board.specs.Board.{Board, Order, find_order, task_desc}
use Rattle.ciel_master_board.specs.Moves.{accepted, with_copies, with_outputs}
use Rattle.ciel_master_board.specs.Reports as rep
use Rattle.ciel_master_board.specs.Reports.{AllLearned, Copy, Output, learned_all, made_names}
use Rattle.ciel_master_board.specs.Sound.{IsTask, OrderSound, RowSound}
use Rattle.ciel_master_board.proofs.SoundLemmas.{order_in}
use Rattle.ciel_journal.specs.Job.{Digest, In}
use Rattle.ciel_journal.proofs.Members.{bool_cases, each_of}
use Rattle.ciel_name.specs.Names.{first_output}
use Rattle.ciel_store.specs.Seen.{ShelvesSeen}
use Rattle.ciel_table.specs.Changes as c
use Rattle.ciel_table.specs.Named.{IsOnce, changed, found, place_of}
use Rattle.ciel_table.specs.Seen.{TableSeen, has_place, is_input, is_live_row, row_name, row_named}
use Rattle.ciel_table.specs.declared.row.Row.{Row}
use Rattle.ciel_table.proofs.ByName.{names_changed}
use Rattle.ciel_task_order.specs.Views.{P}
use Rattle.ciel_master_board.proofs.Rows.{item_at}
use Rattle.ciel_master_safe.specs.Reports.{FitsSafely, names_from, outputs_of}
use Rattle.ciel_master_safe.specs.Safe.{HasDesc, HasOutputs, RowSafe, Safe, W}
use Rattle.ciel_master_safe.proofs.TableGrowth.{Grows, all_grow, grows_join}
use Rattle.ciel_master_safe.proofs.SafeLemmas.{all_once, report_safe}
use Rattle.ciel_master_safe.proofs.BoardGrowth.{with_copies_grows, with_outputs_grows}
use Rattle.ciel_master_safe.proofs.SoundOrders.{all_in}

-- ---- what is placed

more_place : (ps : List P) (p : P) → has_place (ps ++ p ∷ []) ≡ true
more_place [] p = refl
more_place (q ∷ qs) p = refl

-- a row after a place more is one of before, or has a place
changed_row : (n : Digest) (p : P) (rs : List (Row P)) (r : Row P) → In r (changed row_name (c.row_with p) n rs)
    → In r rs ⊎ (has_place r.places ≡ true)
changed_row n p [] r i = absurd i
changed_row n p (x ∷ xs) r i = go (same_text n x.name) i (changed_row n p xs r)
  where
    go : (b : Bool) → In r (cond b (c.row_with p x ∷ xs) (x ∷ changed row_name (c.row_with p) n xs))
        → (In r (changed row_name (c.row_with p) n xs) → In r xs ⊎ (has_place r.places ≡ true)) → In r (x ∷ xs) ⊎ (has_place r.places ≡ true)
    go true (inl e) k = inr (subst (λ (z : Row P). has_place z.places ≡ true) (sym e) (more_place x.places p))
    go true (inr j) k = inl (inr j)
    go false (inl e) k = inl (inl e)
    go false (inr j) k = up (k j)
      where
        up : In r xs ⊎ (has_place r.places ≡ true) → In r (x ∷ xs) ⊎ (has_place r.places ≡ true)
        up (inl l) = inl (inr l)
        up (inr l) = inr l

name_in : (r : Row P) (rs : List (Row P)) → In r rs → In r.name (map row_name rs)
name_in r [] i = absurd i
name_in r (x ∷ xs) (inl e) = inl (ap row_name e)
name_in r (x ∷ xs) (inr i) = inr (name_in r xs i)

not_there : (n : Digest) (ns : List Digest) → AllByRecursion (λ m. same_text n m ≡ false) ns → In n ns → ⊥
not_there n [] a i = i
not_there n (m ∷ ms) a (inl e) = let bad : true ≡ false = sym (subst (λ z. same_text n z ≡ true) e (self_text n)) ∙ a.0 in cc
not_there n (m ∷ ms) a (inr i) = not_there n ms a.1 i

-- where no name stands twice, the row of the name has one
changed_there : (n : Digest) (p : P) (rs : List (Row P)) (r : Row P) → IsOnce row_name rs → In r (changed row_name (c.row_with p) n rs)
    → r.name ≡ n → has_place r.places ≡ true
unfolding IsDistinct
changed_there n p [] r o i e = absurd i
changed_there n p (x ∷ xs) r o i e = go (bool_cases (same_text n x.name)) i (λ l. changed_there n p xs r o.1 l e)
  where
    go : ((same_text n x.name ≡ true) ⊎ (same_text n x.name ≡ false)) → In r (changed row_name (c.row_with p) n (x ∷ xs))
        → (In r (changed row_name (c.row_with p) n xs) → has_place r.places ≡ true) → has_place r.places ≡ true
    go (inl y) j rest = here (subst (λ b. In r (cond b (c.row_with p x ∷ xs) (x ∷ changed row_name (c.row_with p) n xs))) y j)
      where
        here : In r (c.row_with p x ∷ xs) → has_place r.places ≡ true
        here (inl q) = subst (λ (z : Row P). has_place z.places ≡ true) (sym q) (more_place x.places p)
        here (inr l) =
            absurd (not_there x.name (map row_name xs) o.0 (subst (λ m. In m (map row_name xs)) (e ∙ exact_text n x.name y) (name_in r xs l)))
    go (inr f) j rest = later (subst (λ b. In r (cond b (c.row_with p x ∷ xs) (x ∷ changed row_name (c.row_with p) n xs))) f j)
      where
        later : In r (x ∷ changed row_name (c.row_with p) n xs) → has_place r.places ≡ true
        later (inl q) =
            let bad : true ≡ false = sym (subst (λ m. same_text n m ≡ true) (sym e ∙ ap row_name q) (self_text n)) ∙ f in cc
        later (inr l) = rest l

abbrev Placed : TableSeen P → Digest → Type 0
Placed t n = (r : Row P) → In r t.rows → r.name ≡ n → has_place r.places ≡ true

stays_placed : (m n : Digest) (p : P) (t : TableSeen P) → Placed t n → Placed (c.placed m p t) n
stays_placed m n p t h r i e = go (changed_row m p t.rows r i)
  where
    go : In r t.rows ⊎ (has_place r.places ≡ true) → has_place r.places ≡ true
    go (inl j) = h r j e
    go (inr k) = k

outputs_stay : (ms : List (Output P)) (t : TableSeen P) (n : Digest) → Placed t n → Placed (with_outputs ms t) n
outputs_stay [] t n h = h
outputs_stay (m ∷ ms) t n h = outputs_stay ms (c.placed m.name m.place t) n (stays_placed m.name n m.place t h)

copies_stay : (ms : List (Copy P)) (t : TableSeen P) (n : Digest) → Placed t n → Placed (with_copies ms t) n
copies_stay [] t n h = h
copies_stay (m ∷ ms) t n h = copies_stay ms (c.placed m.name m.place t) n (stays_placed m.name n m.place t h)

outputs_placed : (ms : List (Output P)) (t : TableSeen P) (n : Digest) → IsOnce row_name t.rows → In n (made_names ms) → Placed (with_outputs ms t) n
outputs_placed [] t n o i = absurd i
outputs_placed (m ∷ ms) t n o (inl e) =
    outputs_stay ms (c.placed m.name m.place t) n (λ r i q. changed_there m.name m.place t.rows r o i (q ∙ e))
outputs_placed (m ∷ ms) t n o (inr i) =
    outputs_placed ms (c.placed m.name m.place t) n
    (subst (λ ns. IsDistinct same_text ns) (sym (names_changed row_name (c.row_with m.place) (λ r. refl) m.name t.rows)) o) i

-- ---- the names of outputs

names_in_from : (digest : List ℕ → List ℕ) (x : List ℕ) (a : Val (List ℕ)) (n k m i : ℕ) → k + m ≡ n → i < n → (i < k → ⊥)
    → In (digested digest (out x a n i)) (names_from digest x a n k m)
names_in_from digest x a n k zero i e l h = absurd (h (omega (arith, e, l)))
names_in_from digest x a n k (suc m) i e l h =
    go (bool_cases (nat_eq i k)) (λ q. names_in_from digest x a n (suc k) m i (omega (arith, e)) l q)
  where
    go : ((nat_eq i k ≡ true) ⊎ (nat_eq i k ≡ false))
        → ((i < suc k → ⊥) → In (digested digest (out x a n i)) (names_from digest x a n (suc k) m))
        → In (digested digest (out x a n i)) (names_from digest x a n k (suc m))
    go (inl y) rest = inl (ap (λ j. digested digest (out x a n j)) (eqb-true i k y))
    go (inr f) rest =
        inr (rest (λ lt. h (below (λ q. let bad : true ≡ false = sym (eq-eqb i k q) ∙ f in cc) lt)))
      where
        below : (i ≡ k → ⊥) → i < suc k → i < k
        below d lt = omega (arith, d, lt)

module _ (digest : List ℕ → List ℕ) (shelves : ShelvesSeen) (sc : Script) (inputs : ℕ) (b : Board P) (s : Safe digest shelves sc inputs b)
    (x : Order P) (k : ℕ) (is_out : find_order k b.orders ≡ Some x.out) (spawned : List Named) (ms : List (Output P)) (cs : List (Copy P))
    (f : FitsSafely digest shelves sc b x spawned (rep.made ms cs)) (all : AllLearned digest spawned b.table) where
  abbrev t : TableSeen P
  t = learned_all digest spawned b.table

  abbrev d : Board P
  d = accepted digest W b x.out spawned (rep.made ms cs)

  safe : Safe digest shelves sc inputs d
  safe = report_safe digest shelves sc inputs b s x k is_out spawned (rep.made ms cs) f all

  grows : Grows b.table d.table
  grows =
      grows_join b.table t d.table (all_grow digest spawned b.table)
      (grows_join t (with_outputs ms t) d.table (with_outputs_grows ms t)
      (with_copies_grows cs (with_outputs ms t)))

  order_sound : OrderSound b x.out
  order_sound = each_of (OrderSound b) x.out b.orders (order_in k b.orders x.out is_out) s.sound.orders

  -- the row by which the task goes
  its_desc : (n : Digest) → x.out.task ≡ TaskId.Of n → (r : Row P) × (row_named n b.table ≡ Some r)
  its_desc n e = go (place_of row_name n b.table.rows) refl (subst (IsTask b.table) e order_sound.task)
    where
      go : (o : Option ℕ) → place_of row_name n b.table.rows ≡ o → IsSome o → (r : Row P) × (row_named n b.table ≡ Some r)
      go None q h = cc
      go (Some i) q h = let z = item_at row_name n b.table.rows i q in (z.item, z.is_found)

  -- each output of that task has its place
  made_has : (n : Digest) → x.out.task ≡ TaskId.Of n → (v : Desc1) → is_input v ≡ false → HasOutputs digest d.table (desc_view v)
      → n ≡ digested digest (first_output (desc_view v)) → In (digested digest (desc_view v)) (made_names ms)
  made_has n e v made has named =
      subst (In (digested digest (desc_view v))) (sym (f.safe.end.0 ∙ desc_is)) (go v made has refl)
    where
      r : (r : Row P) × (row_named n b.table ≡ Some r)
      r = its_desc n e

      desc_is : outputs_of digest (task_desc b.main b.table x.out.task) ≡ outputs_of digest (Some (r.0).desc)
      desc_is =
          ap (λ z. outputs_of digest (task_desc b.main b.table z)) e ∙ ap (λ o. outputs_of digest (option_map (λ (y : Row P). y.desc) o)) r.1

      -- it is of the first output
      first : (w : Desc (List ℕ)) → HasDesc digest d.table w → n ≡ digested digest w → desc_view (r.0).desc ≡ w
      first w h q =
          let z = grows.found n r.0 r.1 in
          let same : z.0 ≡ h.row = some_is z.0 h.row (sym z.1 ∙ (ap (λ m. row_named m d.table) q ∙ h.found)) in
          ap desc_view (sym z.2 ∙ ap (λ (y : Row P). y.desc) same) ∙ h.same

      of_call : (y : Desc1) (w : Desc (List ℕ)) → desc_view y ≡ w → (g : List ℕ) (c_ : Pairs (List ℕ)) (vs : Vals (List ℕ)) → w ≡ call g c_ vs
          → In (digested digest w) (outputs_of digest (Some y))
      of_call (Desc1.Call h j us) w p g c_ vs q = inl (ap (digested digest) (sym p))
      of_call (Desc1.Exec h a m i) w p g c_ vs q = let bad : out h (view a) m i ≡ call g c_ vs = p ∙ q in cc
      of_call (Desc1.Input h) w p g c_ vs q = let bad : input h ≡ call g c_ vs = p ∙ q in cc

      of_exec : (y : Desc1) (g : List ℕ) (a : Val (List ℕ)) (m i : ℕ) → desc_view y ≡ out g a m 0 → i < m
          → In (digested digest (out g a m i)) (outputs_of digest (Some y))
      of_exec (Desc1.Call h j us) g a m i p l = cc
      of_exec (Desc1.Exec h u n_ i_) g a m i p l =
          let x_ : h ≡ g = cc in
          let a_ : view u ≡ a = cc in
          let m_ : n_ ≡ m = cc in
          subst (λ z. In (digested digest (out g a m i)) (names_from digest z (view u) n_ 0 n_)) (sym x_)
          (subst (λ z. In (digested digest (out g a m i)) (names_from digest g z n_ 0 n_)) (sym a_)
          (subst (λ z. In (digested digest (out g a m i)) (names_from digest g a z 0 z)) (sym m_)
          (names_in_from digest g a m 0 m i (omega arith) l (λ lt. omega (arith, lt)))))
      of_exec (Desc1.Input h) g a m i p l = cc

      go : (y : Desc1) → is_input y ≡ false → HasOutputs digest d.table (desc_view y) → v ≡ y
          → In (digested digest (desc_view y)) (outputs_of digest (Some (r.0).desc))
      go (Desc1.Call g c_ vs) m h q =
          of_call (r.0).desc (call g c_ vs) (first (call g c_ vs) h (named ∙ ap (λ z. digested digest (first_output (desc_view z))) q)) g c_ vs refl
      go (Desc1.Exec g a m i) l h q =
          of_exec (r.0).desc g (view a) m i
          (first (out g (view a) m 0) (h.1 0 (let lt = h.0 in omega (arith, lt)))
          (named ∙ ap (λ z. digested digest (first_output (desc_view z))) q)) h.0
      go (Desc1.Input g) m h q = cc

  pub rows_live : (q : Row P) → In q d.table.rows → q.task ≡ x.out.task → is_live_row q ≡ true
  rows_live q i e = go (is_input q.desc) refl
    where
      row : RowSafe digest shelves sc b.keys d.table q
      row = all_in (RowSafe digest shelves sc b.keys d.table) d.table.rows q safe.table.rows i

      sound : RowSound digest d.table q
      sound = all_in (RowSound digest d.table) d.table.rows q safe.sound.rows i

      once : IsOnce row_name t.rows
      once = all_once digest shelves sc b.keys spawned b.table s.table.once

      here : In q.name (made_names ms) → has_place q.places ≡ true
      here j = copies_stay cs (with_outputs ms t) q.name (outputs_placed ms t q.name once j) q i refl

      or_true : (c : Bool) → c || true ≡ true
      or_true true = refl
      or_true false = refl

      go : (c_ : Bool) → is_input q.desc ≡ c_ → is_input q.desc || has_place q.places ≡ true
      go true n = ap (λ z. z || has_place q.places) n
      go false n =
          let named : In q.name (made_names ms) =
          subst (λ z. In z (made_names ms)) (sym sound.name)
          (made_has (digested digest (first_output (desc_view q.desc))) (sym e ∙ sound.task) q.desc n row.outputs refl) in
          ap (λ z. is_input q.desc || z) (here named) ∙ or_true (is_input q.desc)
