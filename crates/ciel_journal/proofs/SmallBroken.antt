-- Why the small histories that break a law do.
use Rattle.std.proofs.Common.{◌≡◌, ℕ, zero, suc, ◌≤◌, List, [], ◌∷◌, ◌++◌, Bool, true, false, cond, Some, None, nat_eq, slice_get, ◌⊎◌, inl, inr}
use Rattle.std.proofs.Common.{refl, ap, sym, ◌∙◌, subst, arith}
use Rattle.ciel_journal.specs.Job.{Task, show, of, Act, made, wait, Each, In, IsPrefix, WaitOf, Needed, root, waited, waits_in}
use Rattle.ciel_journal.specs.History.{OpenStart, before_all, find_open, order_of, standing, live}
use Rattle.ciel_journal.specs.Lawful.{Copied, Marked}
use Rattle.std.specs.List.{list_any}
use Rattle.ciel_journal.specs.Fixed.{Fixed, Piece, all_seen, until, acts_by, seen_with, fixed_job, small_lists, squares, piece_task}
use Rattle.ciel_journal.specs.Fixed as f
use Rattle.ciel_journal.specs.SmallHistories as h
use Rattle.ciel_journal.specs.SmallFacts.{BreaksLaw}
use Rattle.ciel_journal.proofs.Check.{lawful_true}
use Rattle.ciel_journal.proofs.Circle.{get_front, waits_join}
use Rattle.ciel_journal.proofs.SmallHistories.{laws_of, squares_needed, squares_are}

-- ---- which tasks are needed

pub until_prefix : {D : Type 0} (s : D → Bool) (es : List (Act D)) → IsPrefix (until s es) es
until_prefix s [] = ([], refl)
until_prefix s (made d ∷ es) = let p = until_prefix s es in (p.0, ap (λ xs. made d ∷ xs) p.1)
until_prefix s (wait ds ∷ es) = pick (all_seen s ds) (until_prefix s es)
  where
    pick : (b : Bool) → IsPrefix (until s es) es → IsPrefix (wait ds ∷ cond b (until s es) []) (wait ds ∷ es)
    pick true p = (p.0, ap (λ xs. wait ds ∷ xs) p.1)
    pick false p = (es, refl)

pub acts_prefix : {D : Type 0} (x : Fixed D) (s : D → Bool) (t : Task D) → IsPrefix (acts_by x s t) (x.script t)
acts_prefix x s t = pick (all_seen s (x.first t))
  where
    pick : (b : Bool) → IsPrefix (cond b (until s (x.script t)) []) (x.script t)
    pick true = until_prefix s (x.script t)
    pick false = (x.script t, refl)

-- what is waited for stands in the list of the task
pub script_wait : {D : Type 0} (x : Fixed D) (t : Task D) (j : ℕ) (ds : List D) → WaitOf (fixed_job x) t (suc j) ds
    → slice_get (waits_in (x.script t)) j ≡ Some ds
script_wait x t j ds w =
    let p = acts_prefix x (seen_with x w.0) t in
    let a = get_front (waits_in (acts_by x (seen_with x w.0) t)) (waits_in p.0) j ds w.1 in
    ap (λ xs. slice_get xs j) (sym (ap waits_in p.1) ∙ waits_join (acts_by x (seen_with x w.0) t) p.0) ∙ a

abbrev pub Wanted : Piece → Type 0
Wanted d = (d ≡ f.main) ⊎ ((d ≡ f.one) ⊎ (d ≡ f.two))

abbrev pub Among : Task Piece → Type 0
Among t = (t ≡ show) ⊎ ((d : Piece) × Wanted d × (t ≡ of d))

pub one_of : (d x : Piece) → In d (x ∷ []) → d ≡ x
one_of d x (inl s) = s
one_of d x (inr i) = absurd i

first_wanted : (t : Task Piece) → Among t → (d : Piece) → In d (f.piece_first t) → Wanted d
first_wanted t (inl e) d i = inl (one_of d f.main (subst (λ u. In d (f.piece_first u)) e i))
first_wanted t (inr (d', inl s, e)) d i = absurd (subst (λ u. In d (f.piece_first u)) (e ∙ ap of s) i)
first_wanted t (inr (d', inr (inl s), e)) d i = absurd (subst (λ u. In d (f.piece_first u)) (e ∙ ap of s) i)
first_wanted t (inr (d', inr (inr s), e)) d i = absurd (subst (λ u. In d (f.piece_first u)) (e ∙ ap of s) i)

main_waits : (j : ℕ) (ds : List Piece) (d : Piece) → slice_get (waits_in (f.piece_script false (of f.main))) j ≡ Some ds → In d ds → Wanted d
main_waits zero ds d g i = let e : f.one ∷ [] ≡ ds = cc in inr (inl (one_of d f.one (subst (In d) (sym e) i)))
main_waits (suc zero) ds d g i =
    let e : f.two ∷ [] ≡ ds = cc in inr (inr (one_of d f.two (subst (In d) (sym e) i)))
main_waits (suc (suc j)) ds d g i = cc

later_wanted : (t : Task Piece) → Among t → (j : ℕ) (ds : List Piece) (d : Piece) → slice_get (waits_in (f.piece_script false t)) j ≡ Some ds
    → In d ds → Wanted d
later_wanted t (inl e) j ds d g i =
    let a : slice_get (waits_in (f.piece_script false show)) j ≡ Some ds =
    subst (λ u. slice_get (waits_in (f.piece_script false u)) j ≡ Some ds) e g in cc
later_wanted t (inr (x, inl s, e)) j ds d g i =
    main_waits j ds d (subst (λ u. slice_get (waits_in (f.piece_script false u)) j ≡ Some ds) (e ∙ ap of s) g) i
later_wanted t (inr (x, inr (inl s), e)) j ds d g i =
    let a : slice_get (waits_in (f.piece_script false (of f.one))) j ≡ Some ds =
    subst (λ u. slice_get (waits_in (f.piece_script false u)) j ≡ Some ds) (e ∙ ap of s) g in cc
later_wanted t (inr (x, inr (inr s), e)) j ds d g i =
    let a : slice_get (waits_in (f.piece_script false (of f.two))) j ≡ Some ds =
    subst (λ u. slice_get (waits_in (f.piece_script false u)) j ≡ Some ds) (e ∙ ap of s) g in cc

task_among : (d : Piece) (u : Task Piece) → Wanted d → piece_task d ≡ Some u → Among u
task_among d u (inl s) e =
    let a : Some (of f.main) ≡ Some u = ap piece_task (sym s) ∙ e in let b : u ≡ of f.main = cc in inr (f.main, inl refl, b)
task_among d u (inr (inl s)) e =
    let a : Some (of f.one) ≡ Some u = ap piece_task (sym s) ∙ e in let b : u ≡ of f.one = cc in inr (f.one, inr (inl refl), b)
task_among d u (inr (inr s)) e =
    let a : Some (of f.two) ≡ Some u = ap piece_task (sym s) ∙ e in let b : u ≡ of f.two = cc in inr (f.two, inr (inr refl), b)

pub needed_among : (t : Task Piece) → Needed squares t → Among t
needed_among t root = inl refl
needed_among t (waited {t = s} n zero ds d w i e) =
    task_among d t (first_wanted s (needed_among s n) d (subst (In d) w i)) e
needed_among t (waited {t = s} n (suc j) ds d w i e) =
    task_among d t (later_wanted s (needed_among s n) j ds d (script_wait (small_lists false) s j ds w) i) e

left_unneeded : Needed squares (of f.left) → ⊥
left_unneeded n = pick (needed_among (of f.left) n)
  where
    pick : Among (of f.left) → ⊥
    pick (inl e) = cc
    pick (inr (d, inl s, e)) = let a : of f.left ≡ of f.main = e ∙ ap of s in cc
    pick (inr (d, inr (inl s), e)) = let a : of f.left ≡ of f.one = e ∙ ap of s in cc
    pick (inr (d, inr (inr s), e)) = let a : of f.left ≡ of f.two = e ∙ ap of s in cc

-- ---- the histories

pub needless : BreaksLaw h.one_worker h.saved_once h.starts_what_nobody_needs
needless =
    record {
      lawful = lawful_true squares (laws_of false) 8 squares_needed squares_are h.one_worker (before_all squares) h.saved_once tt refl;
      broken = λ l. left_unneeded l.1.1.0.allowed.needed;
    }

pub again : BreaksLaw h.one_worker (h.saved_once ++ h.first_square) h.runs_a_live_task_again
again =
    record {
      lawful = lawful_true squares (laws_of false) 8 squares_needed squares_are h.one_worker (before_all squares)
          (h.saved_once ++ h.first_square) tt refl;
      broken = λ l. pick l.1.1.1.1.0.allowed.some_missing;
    }
  where
    pick : ((of f.one ≡ show) ⊎ ((d : Piece) × In d (f.one ∷ []) × (live squares (standing squares (h.saved_once ++ h.first_square)) d ≡ false))) → ⊥
    pick (inl e) = cc
    pick (inr x) =
        let s : x.0 ≡ f.one = one_of x.0 f.one x.1 in
        let a : live squares (standing squares (h.saved_once ++ h.first_square)) f.one ≡ false =
        subst (λ d. live squares (standing squares (h.saved_once ++ h.first_square)) d ≡ false) s x.2 in
        let b : true ≡ false = a in cc

pub kept_places : BreaksLaw h.loss_of_the_first h.square_lost h.keeps_places_of_a_lost_worker
kept_places =
    record {
      lawful = lawful_true squares (laws_of false) 8 squares_needed squares_are h.loss_of_the_first (before_all squares) h.square_lost tt refl;
      broken = λ l. let a : false ≡ true = (l.1.1.1.1.1.0.allowed.met (f.one ∷ []) (1, refl)).0 in cc;
    }

pub other_wait : BreaksLaw h.one_worker (h.saved_once ++ h.first_square) h.resumes_another_wait
other_wait =
    record {
      lawful = lawful_true squares (laws_of false) 8 squares_needed squares_are h.one_worker (before_all squares)
          (h.saved_once ++ h.first_square) tt refl;
      broken = λ l. let a : 0 ≡ 1 = l.1.1.1.1.0.allowed.from_last in cc;
    }

pub dropped : BreaksLaw h.one_worker h.begun h.drops_spawned_at_a_save
dropped =
    record {
      lawful = lawful_true squares (laws_of false) 8 squares_needed squares_are h.one_worker (before_all squares) h.begun tt refl;
      broken = λ l. let a = l.1.0.allowed.2.spawns in
          let o = l.1.0.allowed.1 in
          cc;
    }

-- ---- more

pub no_room : BreaksLaw h.little_room h.begun h.saved_once
no_room =
    record {
      lawful = lawful_true squares (laws_of false) 8 squares_needed squares_are h.little_room (before_all squares) h.begun tt refl;
      broken = λ l. let r : 6 ≤ 3 = l.1.0.room in absurd (omega (arith, r));
    }

other : f.object_mark f.one ≡ f.object_mark f.two → ⊥
other e = cc

one_mark : (n : ℕ) → squares.object n f.one ≡ Some (f.object_mark f.two) → ⊥
one_mark n e = pick (seen_with (small_lists false) n f.one) e
  where
    pick : (b : Bool) → cond b (Some (f.object_mark f.one)) None ≡ Some (f.object_mark f.two) → ⊥
    pick true e =
        let a : f.object_mark f.one ≡ f.object_mark f.two = cc in
        other a
    pick false e = cc

pub wrong_mark : BreaksLaw h.one_worker h.one_running h.another_mark
wrong_mark =
    record {
      lawful = lawful_true squares (laws_of false) 8 squares_needed squares_are h.one_worker (before_all squares) h.one_running tt refl;
      broken = λ l. let a = l.1.1.1.0.allowed in mine a.0 a.1 a.2.marked;
    }
  where
    mine : (o : OpenStart Piece) → find_open squares 1 (standing squares h.one_running).orders ≡ Some o
        → Marked squares (squares.outputs o.task) ((f.one, f.object_mark f.two) ∷ []) → ⊥
    mine o e m =
        let t : of f.one ≡ o.task = cc in
        let k : Marked squares (f.one ∷ []) ((f.one, f.object_mark f.two) ∷ []) =
        subst (λ u. Marked squares (squares.outputs u) ((f.one, f.object_mark f.two) ∷ [])) (sym t) m in
        one_mark k.1.0 k.1.1

some_open : (a b : OpenStart Piece) → Some a ≡ Some b → a ≡ b
some_open a b z = cc

pub own_copy : BreaksLaw h.one_worker h.main_last h.copies_its_own
own_copy =
    record {
      lawful = lawful_true squares (laws_of false) 8 squares_needed squares_are h.one_worker (before_all squares) h.main_last tt refl;
      broken = λ l. let a = l.1.1.1.1.1.1.1.1.1.0.allowed in mine a.0 a.1 a.2.fetched;
    }
  where
    mine : (o : OpenStart Piece) → find_open squares 4 (standing squares h.main_last).orders ≡ Some o → Each (Copied squares o) (f.two ∷ []) → ⊥
    mine o e c =
        let s = some_open (order_of squares (standing squares h.two_done) 4 0 (of f.main) 2) o e in
        let w : true ≡ false = subst (λ (z : OpenStart Piece). list_any (nat_eq z.worker) (z.had f.two) ≡ false) (sym s) c.0.1.1.1 in
        cc

pub none_lost : BreaksLaw h.loss_of_the_only h.main_again h.misses_what_is_there
none_lost =
    record {
      lawful = lawful_true squares (laws_of false) 8 squares_needed squares_are h.loss_of_the_only (before_all squares) h.main_again tt refl;
      broken = λ l. let a : false ≡ true = l.1.1.1.1.1.0.allowed.2.since in cc;
    }

pub unplanned : BreaksLaw h.one_worker h.saved_once h.loses_unplanned
unplanned =
    record {
      lawful = lawful_true squares (laws_of false) 8 squares_needed squares_are h.one_worker (before_all squares) h.saved_once tt refl;
      broken = λ l. let a = l.1.1.0.allowed.planned.2 in cc;
    }
