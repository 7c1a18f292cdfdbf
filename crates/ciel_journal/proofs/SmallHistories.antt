-- The small histories, by the tests that are computed.
use Rattle.std.proofs.Common.{List, [], ◌∷◌, Bool, true, false, inl, refl}
use Rattle.ciel_journal.specs.Job.{Task, show, of, Each, IsJob, Needed, root, waited}
use Rattle.ciel_journal.specs.History.{before_all}
use Rattle.ciel_journal.specs.Lawful.{Lawful}
use Rattle.ciel_journal.specs.Turns.{Driven}
use Rattle.ciel_journal.specs.Fixed.{Piece, fixed_job, small_lists, squares, lines}
use Rattle.ciel_journal.specs.Fixed as f
use Rattle.ciel_journal.specs.SmallHistories.{one_worker, squares_alone, loss_after_two, squares_recovered, loss_at_once, lost_at_once, two_workers}
use Rattle.ciel_journal.specs.SmallHistories.{lines_copied, loss_of_the_first, missed_and_made_again, stack_missed}
use Rattle.ciel_journal.proofs.FixedLaw.{fixed_laws, small_fixed}
use Rattle.ciel_journal.proofs.Check.{lawful_true}
use Rattle.ciel_journal.proofs.CheckTurns.{driven_true}

abbrev pub laws_of : (reads : Bool) → IsJob (fixed_job (small_lists reads))
laws_of reads = fixed_laws (small_lists reads) (small_fixed reads)

pub need_main : (reads : Bool) → Needed (fixed_job (small_lists reads)) (of f.main)
need_main reads = waited root 0 (f.main ∷ []) f.main refl (inl refl) refl

pub need_one : (reads : Bool) → Needed (fixed_job (small_lists reads)) (of f.one)
need_one false = waited (need_main false) 1 (f.one ∷ []) f.one (1, refl) (inl refl) refl
need_one true = waited (need_main true) 1 (f.one ∷ []) f.one (1, refl) (inl refl) refl

pub need_two : (reads : Bool) → Needed (fixed_job (small_lists reads)) (of f.two)
need_two false = waited (need_main false) 2 (f.two ∷ []) f.two (3, refl) (inl refl) refl
need_two true = waited (need_main true) 2 (f.two ∷ []) f.two (3, refl) (inl refl) refl

need_left : Needed lines (of f.left)
need_left = waited root 1 (f.left ∷ []) f.left (5, refl) (inl refl) refl

abbrev pub squares_needed : List (Task Piece)
squares_needed = show ∷ of f.main ∷ of f.one ∷ of f.two ∷ []

pub squares_are : Each (Needed squares) squares_needed
squares_are = (root, (need_main false, (need_one false, (need_two false, tt))))

abbrev lines_needed : List (Task Piece)
lines_needed = show ∷ of f.main ∷ of f.one ∷ of f.two ∷ of f.left ∷ []

lines_are : Each (Needed lines) lines_needed
lines_are = (root, (need_main true, (need_one true, (need_two true, (need_left, tt)))))

pub alone : Driven squares one_worker squares_alone
alone = driven_true squares (laws_of false) one_worker 4 8 squares_needed squares_are (before_all squares) squares_alone tt refl

pub recovered : Driven squares loss_after_two squares_recovered
recovered =
    driven_true squares (laws_of false) loss_after_two 4 8 squares_needed squares_are (before_all squares) squares_recovered tt refl

pub at_once : Driven squares loss_at_once lost_at_once
at_once =
    driven_true squares (laws_of false) loss_at_once 4 8 squares_needed squares_are (before_all squares) lost_at_once tt refl

pub copied : Driven lines two_workers lines_copied
copied = driven_true lines (laws_of true) two_workers 4 8 lines_needed lines_are (before_all lines) lines_copied tt refl

pub made_again : Lawful squares loss_of_the_first missed_and_made_again
made_again =
    lawful_true squares (laws_of false) 8 squares_needed squares_are loss_of_the_first (before_all squares) missed_and_made_again tt refl

pub stack_lost : Lawful squares loss_of_the_first stack_missed
stack_lost =
    lawful_true squares (laws_of false) 8 squares_needed squares_are loss_of_the_first (before_all squares) stack_missed tt refl
