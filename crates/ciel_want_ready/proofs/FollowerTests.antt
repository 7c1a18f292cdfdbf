-- What is asked of a row, and of a node, to tell whether its task follows another one.
use Rattle.std.proofs.Common.{◌≡◌, ◌↔◌, ◌<◌, ℕ, List, [], ◌∷◌, Bool, true, false, not, ◌&&◌, cond, slice_get, refl, ap, sym, ◌∙◌, subst, Option, Some, None}
use Rattle.std.specs.Option.{option_and_then, option_map}
use Rattle.sky_base.specs.Name.{held_name}
use Rattle.sky_base.specs.Val.{Desc}
use Rattle.sky_base.specs.declared.object.TaskId.{TaskId}
use Rattle.sky_base.proofs.Exact.{self_text}
use Rattle.ciel_want_marks.specs.Marks.{Active, MarksSeen}
use Rattle.ciel_want_ready.specs.Fits.{row_of}
use Rattle.ciel_want_ready.specs.Following.{NodeFollows, RowReads, task_desc}
use Rattle.ciel_want_ready.specs.Reading.{and_all, and_one}
use Rattle.ciel_want_ready.specs.declared.reads.Reads.{Reads}
use Rattle.ciel_want_ready.proofs.FirstTwoRefs.{all_more}
use Rattle.ciel_table.specs.Seen.{TableSeen, find, is_input, last_wait, row_name}
use Rattle.ciel_table.specs.declared.row.Row.{Row}
use Rattle.ciel_table.proofs.ByName.{found_none}
use Rattle.ciel_want.specs.Followers.{IsOneOf, ReadsOne}
use Rattle.ciel_want.specs.Waited.{made_by, maker, same_id}
use Rattle.ciel_want.proofs.Listed.{same_exact}
use Rattle.ciel_want.proofs.Rows.{item_at}

same_self : (x : TaskId) → same_id x x ≡ true
same_self TaskId.Show = refl
same_self (TaskId.Of n) = self_text n

-- the description of the row of a name
module _ {P : Type 0} (t : TableSeen P) where
  pub desc_found : (n : List ℕ) (i : ℕ) (r : Row P) → find n t ≡ Some i → slice_get t.rows i ≡ Some r → task_desc t (TaskId.Of n) ≡ Some r.desc
  desc_found n i r e there =
      let w = item_at row_name n t.rows i e in
      ap (option_map (λ (x : Row P). x.desc)) (w.is_found ∙ (sym w.there ∙ there))

  pub desc_unknown : (n : List ℕ) → find n t ≡ None → task_desc t (TaskId.Of n) ≡ None
  desc_unknown n e = ap (option_map (λ (x : Row P). x.desc)) (found_none row_name n t.rows e)

module _ {P : Type 0} (t : TableSeen P) (task : TaskId) where
  -- the maker of a name that has a row
  maker_at_row : (n : List ℕ) (i : ℕ) (r : Row P) → find n t ≡ Some i → slice_get t.rows i ≡ Some r → maker t n ≡ cond (is_input r.desc) None (Some r.task)
  maker_at_row n i r e there =
      let w = item_at row_name n t.rows i e in
      let same : Some w.item ≡ Some r = sym w.there ∙ there in
      let item : w.item ≡ r = cc in
      ap (option_and_then (made_by t)) (w.is_found ∙ ap (λ z. Some z) item)

  pub tells_maker : (n : List ℕ) (i : ℕ) (r : Row P) (b : Bool) → find n t ≡ Some i → slice_get t.rows i ≡ Some r
      → b ≡ not (is_input r.desc) && same_id r.task task → (b ≡ true) ↔ (maker t n ≡ Some task)
  tells_maker n i r b e there h = turn (is_input r.desc) (maker_at_row n i r e there) h
    where
      turn : (input : Bool) → maker t n ≡ cond input None (Some r.task) → b ≡ not input && same_id r.task task → (b ≡ true) ↔ (maker t n ≡ Some task)
      turn true m k = (λ y. cc, λ y. let z : None ≡ Some task = sym m ∙ y in cc)
      turn false m k = (
        λ y. m ∙ ap (λ x. Some x) (same_exact r.task task (sym k ∙ y)),
        λ y. let z : Some r.task ≡ Some task = sym m ∙ y in
            let s : r.task ≡ task = cc in
            k ∙ subst (λ x. same_id x task ≡ true) (sym s) (same_self task),
      )

  pub tells_unknown : (n : List ℕ) → find n t ≡ None → (false ≡ true) ↔ (maker t n ≡ Some task)
  tells_unknown n e = (
    λ y. cc,
    λ y. let z : None ≡ Some task = sym (ap (option_and_then (made_by t)) (found_none row_name n t.rows e)) ∙ y in
        cc,
  )

  -- ---- what is read

  pub tells_one : (ds : List (Desc (List ℕ))) (n : List ℕ) (b : Bool) → Reads.One n ≡ and_all Reads.Nothing ds → (b ≡ true) ↔ (maker t n ≡ Some task)
      → (b ≡ true) ↔ IsOneOf t task ds
  tells_one [] n b e h = cc
  tells_one (d ∷ []) n b e h =
      let s : n ≡ held_name d = cc in
      subst (λ x. (b ≡ true) ↔ (maker t x ≡ Some task)) s h
  tells_one (d ∷ x ∷ ds) n b e h = let p = all_more ds in cc

  pub tells_other : (ds : List (Desc (List ℕ))) (r : Reads) → r ≡ and_all Reads.Nothing ds → ((n : List ℕ) → r ≡ Reads.One n → ⊥)
      → (false ≡ true) ↔ IsOneOf t task ds
  tells_other [] r e h = (λ y. cc, λ y. absurd y)
  tells_other (d ∷ []) r e h = absurd (h (held_name d) e)
  tells_other (d ∷ x ∷ ds) r e h = (λ y. cc, λ y. absurd y)

  -- ---- a row, and a node

  pub tells_row : (e : ℕ) (r : Row P) (b : Bool) → slice_get t.rows e ≡ Some r
      → ((b ≡ true) ↔ (ReadsOne t task r.desc × (last_wait (TaskId.Of r.name) t ≡ None))) → (b ≡ true) ↔ RowReads t task e
  tells_row e r b there h = (λ y. let q = h.0 y in record { row = r; there = there; reads = q.0; start = q.1 }, λ y. h.1 (of y))
    where
      of : RowReads t task e → ReadsOne t task r.desc × (last_wait (TaskId.Of r.name) t ≡ None)
      of y =
          let same : Some y.row ≡ Some r = sym y.there ∙ there in
          let s : y.row ≡ r = cc in (
            subst (λ (x : Row P). ReadsOne t task x.desc) s y.reads,
            subst (λ (x : Row P). last_wait (TaskId.Of x.name) t ≡ None) s y.start,
          )

  pub tells_node : (m : MarksSeen) (u e : ℕ) (b : Bool) → row_of u ≡ Some e → ((b ≡ true) ↔ (Active m u × RowReads t task e))
      → (b ≡ true) ↔ NodeFollows t task m u
  tells_node m u e b is h = (λ y. let q = h.0 y in record { active = q.0; place = e; is = is; reads = q.1 }, λ y. h.1 (of y))
    where
      of : NodeFollows t task m u → Active m u × RowReads t task e
      of y =
          let same : Some y.place ≡ Some e = sym y.is ∙ is in
          let s : y.place ≡ e = cc in
          (y.active, subst (RowReads t task) s y.reads)
