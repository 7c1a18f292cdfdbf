-- The work of the small job of the squares.
use Rattle.std.proofs.Common.{◌≡◌, ℕ, zero, suc, ◌<◌, ◌≤◌, ◌↔◌, List, [], ◌∷◌, false, Some, slice_get, inl, inr, refl, ap, sym, ◌∙◌, subst, arith}
use Rattle.ciel_journal.specs.Job.{Task, show, of, In, Needed, root, WaitOf, waits_in}
use Rattle.ciel_journal.specs.Work.{Work}
use Rattle.ciel_journal.specs.Fixed.{Piece, piece_script, squares, small_lists}
use Rattle.ciel_journal.specs.Fixed as f
use Rattle.ciel_journal.proofs.SmallBroken.{Among, needed_among, script_wait}
use Rattle.ciel_journal.proofs.SmallHistories.{need_main, need_one, need_two}

abbrev tasks : List (Task Piece × ℕ)
tasks = (show, 0) ∷ (of f.main, 2) ∷ (of f.one, 0) ∷ (of f.two, 0) ∷ []

task_is : (p : Task Piece × ℕ) (t : Task Piece) (a : ℕ) → Some p ≡ Some (t, a) → p.0 ≡ t
task_is p t a e = let q : p ≡ (t, a) = cc in ap (λ x. x.0) q

-- where a task stands in the list
abbrev place : Task Piece → ℕ
place show = 0
place (of f.main) = 1
place (of f.one) = 2
place (of _) = 3

stands : (i : ℕ) (t : Task Piece) (a : ℕ) → slice_get tasks i ≡ Some (t, a) → place t ≡ i
stands zero t a e = sym (ap place (task_is (show, 0) t a e))
stands (suc zero) t a e = sym (ap place (task_is (of f.main, 2) t a e))
stands (suc (suc zero)) t a e = sym (ap place (task_is (of f.one, 0) t a e))
stands (suc (suc (suc zero))) t a e = sym (ap place (task_is (of f.two, 0) t a e))
stands (suc (suc (suc (suc i)))) t a e = cc

apart : (i j : ℕ) (t : Task Piece) (a b : ℕ) → slice_get tasks i ≡ Some (t, a) → slice_get tasks j ≡ Some (t, b) → i ≡ j
apart i j t a b e g = sym (stands i t a e) ∙ stands j t b g

listed : (t : Task Piece) → Among t → (k : ℕ) × In (t, k) tasks
listed t (inl e) = (0, inl (ap (λ u. (u, 0)) e))
listed t (inr (d, inl s, e)) = (2, inr (inl (ap (λ u. (u, 2)) (e ∙ ap of s))))
listed t (inr (d, inr (inl s), e)) = (0, inr (inr (inl (ap (λ u. (u, 0)) (e ∙ ap of s)))))
listed t (inr (d, inr (inr s), e)) = (0, inr (inr (inr (inl (ap (λ u. (u, 0)) (e ∙ ap of s))))))

needed : (t : Task Piece) (k : ℕ) → In (t, k) tasks → Needed squares t
needed t k (inl e) = subst (Needed squares) (sym (ap (λ (x : Task Piece × ℕ). x.0) e)) root
needed t k (inr (inl e)) = subst (Needed squares) (sym (ap (λ (x : Task Piece × ℕ). x.0) e)) (need_main false)
needed t k (inr (inr (inl e))) = subst (Needed squares) (sym (ap (λ (x : Task Piece × ℕ). x.0) e)) (need_one false)
needed t k (inr (inr (inr (inl e)))) = subst (Needed squares) (sym (ap (λ (x : Task Piece × ℕ). x.0) e)) (need_two false)
needed t k (inr (inr (inr (inr i)))) = absurd i

abbrev HasWaits : Task Piece → ℕ → Type 0
HasWaits t k = (j : ℕ) → 0 < j → (j ≤ k) ↔ ((ds : List Piece) × WaitOf squares t j ds)

none : (t : Task Piece) → ((j : ℕ) (ds : List Piece) → slice_get (waits_in (piece_script false t)) j ≡ Some ds → ⊥) → HasWaits t 0
none t h zero l = absurd (omega (arith, l))
none t h (suc j) l =
    (λ le. absurd (omega (arith, le)), λ x. absurd (h j x.0 (script_wait (small_lists false) t j x.0 x.1)))

two_waits : HasWaits (of f.main) 2
two_waits zero l = absurd (omega (arith, l))
two_waits (suc zero) l = (λ le. (f.one ∷ [], (1, refl)), λ x. omega arith)
two_waits (suc (suc zero)) l = (λ le. (f.two ∷ [], (3, refl)), λ x. omega arith)
two_waits (suc (suc (suc j))) l = (λ le. absurd (omega (arith, le)), back)
  where
    back : ((ds : List Piece) × WaitOf squares (of f.main) (suc (suc (suc j))) ds) → suc (suc (suc j)) ≤ 2
    back x =
        let e : slice_get (waits_in (piece_script false (of f.main))) (suc (suc j)) ≡ Some x.0 =
        script_wait (small_lists false) (of f.main) (suc (suc j)) x.0 x.1 in absurd (past x.0 e)
      where
        past : (ds : List Piece) → slice_get (waits_in (piece_script false (of f.main))) (suc (suc j)) ≡ Some ds → ⊥
        past ds e = cc

no_wait : (j : ℕ) (ds : List Piece) → slice_get ([]) j ≡ Some ds → ⊥
no_wait j ds e = cc

waits : (t : Task Piece) (k : ℕ) → In (t, k) tasks → HasWaits t k
waits t k (inl e) = subst (λ (x : Task Piece × ℕ). HasWaits x.0 x.1) (sym e) (none show no_wait)
waits t k (inr (inl e)) = subst (λ (x : Task Piece × ℕ). HasWaits x.0 x.1) (sym e) two_waits
waits t k (inr (inr (inl e))) = subst (λ (x : Task Piece × ℕ). HasWaits x.0 x.1) (sym e) (none (of f.one) no_wait)
waits t k (inr (inr (inr (inl e)))) = subst (λ (x : Task Piece × ℕ). HasWaits x.0 x.1) (sym e) (none (of f.two) no_wait)
waits t k (inr (inr (inr (inr i)))) = absurd i

pub squares_work : Work squares 6
squares_work =
    record {
      tasks = tasks;
      apart = apart;
      needed = λ t. (λ n. listed t (needed_among t n), λ x. needed t x.0 x.1);
      waits = waits;
      sum = refl;
    }
