-- The marks that are kept fit the table after each call.
use Rattle.std.proofs.Common.{◌≡◌, ◌+◌, ℕ, suc, ◌<◌, List, [], ◌∷◌, ◌++◌, length, Bool, true, false, filter, not, slice_get, refl, ap, sym, ◌∙◌}
use Rattle.std.proofs.Common.{subst, arith, ◌⊎◌, inl, inr, Option, Some, None, IfSome}
use Rattle.sky_base.specs.declared.object.Named.{Named}
use Rattle.sky_base.specs.declared.object.TaskId.{TaskId}
use Rattle.sky_base.proofs.Exact.{self_text}
use Rattle.ciel_want_marks.specs.Lists.{flag}
use Rattle.ciel_want_marks.specs.Marks.{MarksSeen, Needs, Right}
use Rattle.ciel_want_marks.specs.Moves.{Added, IsNode, Placed, SameNeeds}
use Rattle.ciel_want_marks.proofs.Slots.{get_last}
use Rattle.ciel_want_ready.specs.Changed.{ClosedFrom, LearnedFrom, LearnedWith, PlacedFrom, SavedFrom, StartedFrom}
use Rattle.ciel_want_ready.specs.Fits.{Fits, FitsOut, maker_of, node_for}
use Rattle.ciel_want_ready.proofs.FitsAfterChange.{fits_again, fits_closed, fits_learned, fits_placed, fits_saved, fits_started}
use Rattle.ciel_table.specs.Changes.{placed, saved}
use Rattle.ciel_table.specs.Learning.{learned, new_row, rows_after}
use Rattle.ciel_table.specs.Named.{IsOnce}
use Rattle.ciel_table.specs.Seen as s
use Rattle.ciel_table.specs.Seen.{Known, TableSeen, find, is_live_row, row_name}
use Rattle.ciel_table.specs.declared.row.Row.{Row}
use Rattle.ciel_table.specs.declared.wait.Wait.{Wait}
use Rattle.ciel_table.proofs.ByName.{place_new, place_within}
use Rattle.ciel_want.specs.Waited.{same_id}
use Rattle.ciel_want.proofs.Rows.{some_place}

pub if_some : {A : Type 0} (Q R : A → Type 0) → ((x : A) → Q x → R x) → (o : Option A) → IfSome o Q → IfSome o R
if_some Q R f None h = tt
if_some Q R f (Some x) h = f x h

pub same_row : {P : Type 0} (t : TableSeen P) (r : Row P) (m n : MarksSeen) (is : Bool) (by : Option ℕ) → is ≡ is_live_row r → by ≡ maker_of t r
    → ((before after : Needs) → IsNode (suc (length m.live)) by → SameNeeds m before after → Right m before → Added is by m n × Right n after)
    → (before after : Needs) → IsNode (suc (length m.live)) (maker_of t r) → SameNeeds m before after → Right m before
    → Added (is_live_row r) (maker_of t r) m n × Right n after
same_row t r m n is by e f h before after node same right =
    let q = h before after (subst (IsNode (suc (length m.live))) (sym f) node) same right in
    (subst (λ b. Added b (maker_of t r) m n) e (subst (λ o. Added is o m n) f q.0), q.1)

module _ {P : Type 0} (main : List ℕ) (t : TableSeen P) (out : List TaskId) (old : Option MarksSeen)
    (inv : IfSome old (λ m. FitsOut main t out m)) (marks : Option MarksSeen) (taken : marks ≡ old) where
  fits_of : (m : MarksSeen) → marks ≡ Some m → FitsOut main t out m
  fits_of m e = subst (λ o. IfSome o (λ m. FitsOut main t out m)) (sym taken ∙ e) inv

  -- of the same table
  pub keeps : IfSome marks (λ m. FitsOut main t out m)
  keeps = subst (λ o. IfSome o (λ m. FitsOut main t out m)) (sym taken) inv

  pub keeps_fits : IfSome marks (λ m. Fits main t m)
  keeps_fits = if_some (λ m. FitsOut main t out m) (λ m. Fits main t m) (λ m f. f.fits) marks keeps

  pub placed_fits : (res : Option MarksSeen) (n : List ℕ) (p : P) (was : Bool) (row : Option ℕ) → Known t n → was ≡ s.is_live n t → row
      ≡ find n t → IfSome res (λ k. PlacedFrom marks was row k) → IfSome res (λ k. FitsOut main (placed n p t) out k)
  placed_fits res n p was row known w r h =
      if_some (λ k. PlacedFrom marks was row k) (λ k. FitsOut main (placed n p t) out k) one res h
    where
      one : (k : MarksSeen) → PlacedFrom marks was row k → FitsOut main (placed n p t) out k
      one k q = turn q.2
        where
          f : FitsOut main t out q.0
          f = fits_of q.0 q.1

          turn : ((was ≡ true) × (k ≡ q.0)) ⊎ ((was ≡ false) × (e : ℕ) × (row ≡ Some e) × Placed e q.0 k
              × ((needs : Needs) → flag q.0.live e ≡ false → Right q.0 needs → Right k needs)) → FitsOut main (placed n p t) out k
          turn (inl y) =
              let e = some_place row_name n t.rows known in
              subst (λ x. FitsOut main (placed n p t) out x) (sym y.1) (fits_again main t out q.0 f n p e.0 e.1 (sym w ∙ y.0))
          turn (inr y) = fits_placed main t out q.0 f n p y.1 (sym r ∙ y.2) k (sym w ∙ y.0) y.3 y.4

  pub saved_fits : (at : P → ℕ) (res : Option MarksSeen) (task : TaskId) (w : Wait P) (node : Option ℕ) → IsOnce row_name t.rows → node ≡ node_for t task
      → IfSome res (λ k. SavedFrom marks node k) → IfSome res (λ k. FitsOut main (saved at task w t) out k)
  saved_fits at res task w node once e h =
      if_some (λ k. SavedFrom marks node k) (λ k. FitsOut main (saved at task w t) out k)
      (λ k q. fits_saved main t out k (fits_of k q.1) at task w q.0 once (sym e ∙ q.2) q.3) res h

  pub started_fits : (res : Option MarksSeen) (task : TaskId) (node : Option ℕ) → IsOnce row_name t.rows → node ≡ node_for t task
      → IfSome res (λ k. StartedFrom marks node k) → IfSome res (λ k. FitsOut main t (out ++ task ∷ []) k)
  started_fits res task node once e h =
      if_some (λ k. StartedFrom marks node k) (λ k. FitsOut main t (out ++ task ∷ []) k)
      (λ k q. fits_started main t out q.0 (fits_of q.0 q.2) k task q.1 once (sym e ∙ q.3) q.4 q.5 q.6 q.7) res h

  pub closed_fits : (res : Option MarksSeen) (task : TaskId) (node : Option ℕ) → IsOnce row_name t.rows → node ≡ node_for t task
      → IfSome res (λ k. ClosedFrom main t marks node k) → IfSome res (λ k. FitsOut main t (filter (λ x. not (same_id task x)) out) k)
  closed_fits res task node once e h =
      if_some (λ k. ClosedFrom main t marks node k) (λ k. FitsOut main t (filter (λ x. not (same_id task x)) out) k)
      (λ k q. fits_closed main t out q.0 (fits_of q.0 q.2) k task q.1 once (sym e ∙ q.3) q.4 q.5) res h

  -- ---- what is learned

  module _ (digest : List ℕ → List ℕ) (d : Named) where
    abbrev pub after : TableSeen P
    after = learned digest d t

    held_still : (id : ℕ) → find d.name t ≡ Some id → after ≡ t
    held_still id e = ap (λ o. record t { rows = rows_after o digest d t.rows }) e

    new_last : find d.name t ≡ None → after ≡ record t { rows = t.rows ++ new_row digest d ∷ [] }
    new_last e = ap (λ o. record t { rows = rows_after o digest d t.rows }) e

    new_at : find d.name t ≡ None → find d.name after ≡ Some (length t.rows)
    new_at e =
        ap (find d.name) (new_last e) ∙ place_new row_name d.name d.name t.rows (new_row digest d) refl (self_text d.name) e

    pub learned_fits : (res : Option MarksSeen) (held row : ℕ) → IsOnce row_name t.rows → held ≡ length t.rows → find d.name after ≡ Some row
        → IfSome res (λ k. LearnedFrom after out marks held row k) → IfSome res (λ k. FitsOut main after out k)
    learned_fits res held row once l at h =
        if_some (λ k. LearnedFrom after out marks held row k) (λ k. FitsOut main after out k) (λ k q. one k q (find d.name t) refl) res h
      where
        one : (k : MarksSeen) → LearnedFrom after out marks held row k → (o : Option ℕ) → find d.name t ≡ o → FitsOut main after out k
        one k q (Some id) e =
            let same : find d.name t ≡ Some row = ap (find d.name) (sym (held_still id e)) ∙ at in
            let w = place_within row_name d.name t.rows row same in
            turn w q.2
          where
            turn : row < length t.rows → ((row < held) × (k ≡ q.0))
                ⊎ ((row < held → ⊥) × (r : Row P) × (slice_get after.rows row ≡ Some r) × LearnedWith after out r q.0 k)
                → FitsOut main after out k
            turn w (inl y) =
                subst (λ x. FitsOut main x out k) (sym (held_still id e)) (subst (λ x. FitsOut main t out x) (sym y.1) (fits_of q.0 q.1))
            turn w (inr y) = absurd (y.0 (omega (arith, w, l)))
        one k q None e =
            let z : Some (length t.rows) ≡ Some row = sym (new_at e) ∙ at in
            let p : length t.rows ≡ row = cc in
            turn p q.2
          where
            turn : length t.rows ≡ row → ((row < held) × (k ≡ q.0))
                ⊎ ((row < held → ⊥) × (r : Row P) × (slice_get after.rows row ≡ Some r) × LearnedWith after out r q.0 k)
                → FitsOut main after out k
            turn p (inl y) = let a = y.0 in absurd (omega (arith, a, l, p))
            turn p (inr y) =
                let there : slice_get (t.rows ++ new_row digest d ∷ []) row ≡ Some (new_row digest d) =
                ap (slice_get (t.rows ++ new_row digest d ∷ [])) (sym p) ∙ get_last t.rows (new_row digest d) in
                let found : Some y.1 ≡ Some (new_row digest d) = sym y.2 ∙ (ap (λ (x : TableSeen P). slice_get x.rows row) (new_last e) ∙ there) in
                let is : y.1 ≡ new_row digest d = cc in
                let w = subst (λ r. LearnedWith after out r q.0 k) is y.3 in
                let v = subst (λ x. LearnedWith x out (new_row digest d) q.0 k) (new_last e) w in
                subst (λ x. FitsOut main x out k) (sym (new_last e)) (fits_learned main t out q.0 (fits_of q.0 q.1) once (new_row digest d) k v.0 v.1)
