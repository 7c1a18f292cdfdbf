-- Why the small histories that aren't in their turns are not.
use Rattle.std.proofs.Common.{◌≡◌, [], ◌∷◌, ◌++◌, false, refl, arith}
use Rattle.ciel_journal.specs.Job.{of}
use Rattle.ciel_journal.specs.History.{before_all, lost, missed, standing, start}
use Rattle.ciel_journal.specs.Turns.{Driven}
use Rattle.ciel_journal.specs.Fixed.{squares}
use Rattle.ciel_journal.specs.Fixed as f
use Rattle.ciel_journal.specs.OtherJobs.{fetching, following, two_lost, two_ready, one_started, one_reported, two_due, left_reported, both_lost}
use Rattle.ciel_journal.specs.OtherJobs.{first_started, first_saved}
use Rattle.ciel_journal.specs.SmallFacts.{BreaksTurns}
use Rattle.ciel_journal.specs.SmallHistories as h
use Rattle.ciel_journal.proofs.Check.{lawful_true}
use Rattle.ciel_journal.proofs.CheckTurns.{driven_true}
use Rattle.ciel_journal.proofs.OneWorker.{first_one, not_rests, same_chosen}
use Rattle.ciel_journal.proofs.OtherJobs.{fetch_laws, fetch_needed, fetch_are, follow_laws, follow_needed, follow_are}
use Rattle.ciel_journal.proofs.SmallHistories.{laws_of, squares_needed, squares_are}

-- ---- losses

loss_turn : Driven squares h.loss_of_the_only (h.saved_once ++ (h.first_square ++ lost 0 2 ∷ []))
loss_turn =
    driven_true squares (laws_of false) h.loss_of_the_only 4 8 squares_needed squares_are (before_all squares)
    (h.saved_once ++ (h.first_square ++ lost 0 2 ∷ [])) tt refl

pub undone : BreaksTurns squares h.loss_of_the_only (h.saved_once ++ h.first_square) (lost 0 2) (start 2 0 (of f.main) 1)
undone =
    record {
      driven = loss_turn;
      lawful = lawful_true squares (laws_of false) 8 squares_needed squares_are h.loss_of_the_only (before_all squares)
          (h.saved_once ++ (h.first_square ++ start 2 0 (of f.main) 1 ∷ [])) tt refl;
      broken = λ d. d.2.2.2.2.1.nothing_due 0 2 0 (record { planned = refl; reached = omega arith; here = refl });
    }

due_turn : Driven fetching two_lost (two_due ++ lost 2 3 ∷ [])
due_turn =
    driven_true fetching fetch_laws two_lost 4 8 fetch_needed fetch_are (before_all fetching) (two_due ++ lost 2 3 ∷ []) tt refl

pub unheeded : BreaksTurns fetching two_lost two_due (lost 2 3) left_reported
unheeded =
    record {
      driven = due_turn;
      lawful = lawful_true fetching fetch_laws 8 fetch_needed fetch_are two_lost (before_all fetching) (two_due ++ left_reported ∷ []) tt refl;
      broken = λ d. d.2.2.2.2.2.2.2.1.0 0 3 2 (record { planned = refl; reached = omega arith; here = refl });
    }

pub order : BreaksTurns fetching two_lost two_due (lost 2 3) (lost 1 3)
order =
    record {
      driven = due_turn;
      lawful = lawful_true fetching fetch_laws 8 fetch_needed fetch_are two_lost (before_all fetching) (two_due ++ lost 1 3 ∷ []) tt refl;
      broken = λ d.
          let x = due_turn.2.2.2.2.2.2.2.1 in
          let y = d.2.2.2.2.2.2.2.1 in
          let e : 2 ≡ 1 = first_one fetching fetch_laws two_lost (standing fetching two_due) 2 1 x.0 y.0 x.1 y.1 in cc;
    }

-- ---- draws

drawn_turn : Driven fetching two_lost (two_ready ++ start 1 2 (of f.one) 0 ∷ [])
drawn_turn =
    driven_true fetching fetch_laws two_lost 4 8 fetch_needed fetch_are (before_all fetching) (two_ready ++ start 1 2 (of f.one) 0 ∷ []) tt refl

pub task : BreaksTurns fetching two_lost two_ready (start 1 2 (of f.one) 0) (start 1 2 (of f.two) 0)
task =
    record {
      driven = drawn_turn;
      lawful = lawful_true fetching fetch_laws 8 fetch_needed fetch_are two_lost (before_all fetching)
          (two_ready ++ start 1 2 (of f.two) 0 ∷ []) tt refl;
      broken = λ d.
          let e : of f.one ≡ of f.two =
          (same_chosen fetching fetch_laws two_lost (standing fetching two_ready) 2 2 (of f.one) (of f.two) drawn_turn.2.2.1 d.2.2.1).1 in cc;
    }

pub worker : BreaksTurns fetching two_lost two_ready (start 1 2 (of f.one) 0) (start 1 0 (of f.one) 0)
worker =
    record {
      driven = drawn_turn;
      lawful = lawful_true fetching fetch_laws 8 fetch_needed fetch_are two_lost (before_all fetching)
          (two_ready ++ start 1 0 (of f.one) 0 ∷ []) tt refl;
      broken = λ d.
          let e : 2 ≡ 0 =
          (same_chosen fetching fetch_laws two_lost (standing fetching two_ready) 2 0 (of f.one) (of f.one) drawn_turn.2.2.1 d.2.2.1).0 in cc;
    }

-- ---- reports

second_turn : Driven fetching two_lost (one_started ++ start 2 1 (of f.two) 0 ∷ [])
second_turn =
    driven_true fetching fetch_laws two_lost 4 8 fetch_needed fetch_are (before_all fetching) (one_started ++ start 2 1 (of f.two) 0 ∷ []) tt refl

pub done : BreaksTurns fetching two_lost one_started (start 2 1 (of f.two) 0) one_reported
done =
    record {
      driven = second_turn;
      lawful = lawful_true fetching fetch_laws 8 fetch_needed fetch_are two_lost (before_all fetching) (one_started ++ one_reported ∷ []) tt refl;
      broken = λ d.
          not_rests fetching fetch_laws two_lost (standing fetching one_started) 1 (of f.two) second_turn.2.2.2.1 d.2.2.2.1;
    }

other_turn : Driven following h.two_workers (first_started ++ start 2 0 (of f.two) 0 ∷ [])
other_turn =
    driven_true following follow_laws h.two_workers 4 8 follow_needed follow_are (before_all following)
    (first_started ++ start 2 0 (of f.two) 0 ∷ []) tt refl

pub saved : BreaksTurns following h.two_workers first_started (start 2 0 (of f.two) 0) first_saved
saved =
    record {
      driven = other_turn;
      lawful = lawful_true following follow_laws 8 follow_needed follow_are h.two_workers (before_all following)
          (first_started ++ first_saved ∷ []) tt refl;
      broken = λ d.
          not_rests following follow_laws h.two_workers (standing following first_started) 0 (of f.two) other_turn.2.2.2.1 d.2.2.2.1;
    }

again_turn : Driven fetching two_lost (both_lost ++ start 4 0 (of f.two) 0 ∷ [])
again_turn =
    driven_true fetching fetch_laws two_lost 4 8 fetch_needed fetch_are (before_all fetching) (both_lost ++ start 4 0 (of f.two) 0 ∷ []) tt refl

pub missing : BreaksTurns fetching two_lost both_lost (start 4 0 (of f.two) 0) (missed 3 f.one 0)
missing =
    record {
      driven = again_turn;
      lawful = lawful_true fetching fetch_laws 8 fetch_needed fetch_are two_lost (before_all fetching) (both_lost ++ missed 3 f.one 0 ∷ []) tt refl;
      broken = λ d.
          not_rests fetching fetch_laws two_lost (standing fetching both_lost) 0 (of f.two) again_turn.2.2.2.2.2.2.2.2.2.1
          d.2.2.2.2.2.2.2.2.2.1;
    }
