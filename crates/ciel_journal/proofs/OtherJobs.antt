-- The other small jobs have the laws of a job, and what their histories show.
use Rattle.std.proofs.Common.{◌≡◌, ℕ, ◌<◌, List, [], ◌∷◌, false, Some, inl, inr, refl, arith, eq-eqb}
use Rattle.ciel_journal.specs.Job.{Task, show, of, In, Each, IsJob, Needed, root, waited}
use Rattle.ciel_journal.specs.Graph as g
use Rattle.ciel_journal.specs.History.{before_all, standing}
use Rattle.ciel_journal.specs.Turns.{CircleAtRest, Driven, Reached}
use Rattle.ciel_journal.specs.Fixed.{IsFixed, Piece, number, piece_task, small_lists}
use Rattle.ciel_journal.specs.Fixed as f
use Rattle.ciel_journal.specs.OtherJobs as o
use Rattle.ciel_journal.specs.SmallFacts.{BreaksLawOf}
use Rattle.ciel_journal.specs.SmallHistories as h
use Rattle.ciel_journal.proofs.Check.{lawful_true}
use Rattle.ciel_journal.proofs.CheckTurns.{driven_true}
use Rattle.ciel_journal.proofs.FixedLaw.{fixed_laws, piece_exact, piece_made, piece_makes, piece_own, piece_size, piece_small, only}

-- ---- the executor that reads a square

abbrev fetch_size : Piece → ℕ
fetch_size f.left = 2
fetch_size f.right = 2
fetch_size _ = 1

fetch_small : (d e : Piece) (t : Task Piece) → piece_task d ≡ Some t → In e (o.fetch_first t) → (t ≡ show → ⊥) → fetch_size e < fetch_size d
fetch_small d e show k i n = absurd (n refl)
fetch_small d e (of f.main) k i n = absurd i
fetch_small d e (of f.one) k i n = absurd i
fetch_small d e (of f.two) k i n = absurd i
fetch_small d e (of f.right) k i n = absurd i
fetch_small d e (of f.text) k i n = absurd i
fetch_small f.text e (of f.left) k i n = cc
fetch_small f.main e (of f.left) k i n = cc
fetch_small f.one e (of f.left) k i n = cc
fetch_small f.two e (of f.left) k i n = cc
fetch_small f.left e (of f.left) k i n = only (λ x. fetch_size x < 2) e f.one i (omega arith)
fetch_small f.right e (of f.left) k i n = only (λ x. fetch_size x < 2) e f.one i (omega arith)

fetch_fixed : IsFixed o.fetch_lists
fetch_fixed =
    record {
      same_refl = λ d. eq-eqb (number d) (number d) refl;
      same_exact = piece_exact;
      first_show = refl;
      outputs_show = refl;
      made_by = piece_made;
      makes = piece_makes;
      own = piece_own;
      size = fetch_size;
      first_smaller = fetch_small;
    }

pub fetch_laws : IsJob o.fetching
fetch_laws = fixed_laws o.fetch_lists fetch_fixed

fetch_main : Needed o.fetching (of f.main)
fetch_main = waited root 0 (f.main ∷ []) f.main refl (inl refl) refl

fetch_left : Needed o.fetching (of f.left)
fetch_left = waited fetch_main 1 (f.left ∷ f.two ∷ []) f.left (1, refl) (inl refl) refl

abbrev pub fetch_needed : List (Task Piece)
fetch_needed = show ∷ of f.main ∷ of f.one ∷ of f.two ∷ of f.left ∷ []

pub fetch_are : Each (Needed o.fetching) fetch_needed
fetch_are = (
  root,
  (
    fetch_main,
    (
      waited fetch_left 0 (f.one ∷ []) f.one refl (inl refl) refl,
      (waited fetch_main 1 (f.left ∷ f.two ∷ []) f.two (1, refl) (inr (inl refl)) refl, (fetch_left, tt)),
    ),
  ),
)

pub fetched : Driven o.fetching o.third_lost o.fetch_missed
fetched =
    driven_true o.fetching fetch_laws o.third_lost 4 8 fetch_needed fetch_are (before_all o.fetching) o.fetch_missed tt refl

-- ---- the square that waits for itself

circle_small : (d e : Piece) (t : Task Piece) → piece_task d ≡ Some t → In e (o.circle_first t) → (t ≡ show → ⊥) → 1 < 1
circle_small d e show k i n = absurd (n refl)
circle_small d e (of x) k i n = absurd i

circle_fixed : IsFixed o.circle_lists
circle_fixed =
    record {
      same_refl = λ d. eq-eqb (number d) (number d) refl;
      same_exact = piece_exact;
      first_show = refl;
      outputs_show = refl;
      made_by = piece_made;
      makes = piece_makes;
      own = piece_own;
      size = λ d. 1;
      first_smaller = circle_small;
    }

pub circle_laws : IsJob o.circling
circle_laws = fixed_laws o.circle_lists circle_fixed

circle_main : Needed o.circling (of f.main)
circle_main = waited root 0 (f.main ∷ []) f.main refl (inl refl) refl

circle_are : Each (Needed o.circling) (show ∷ of f.main ∷ of f.one ∷ [])
circle_are = (root, (circle_main, (waited circle_main 1 (f.one ∷ []) f.one (1, refl) (inl refl) refl, tt)))

pub round : Driven o.circling h.one_worker o.comes_round
round =
    driven_true o.circling circle_laws h.one_worker 4 8 (show ∷ of f.main ∷ of f.one ∷ []) circle_are (before_all o.circling) o.comes_round tt refl

reached_main : Reached o.circling (standing o.circling o.comes_round) (of f.main)
reached_main = g.through g.root refl f.main (inl refl) refl refl

reached_one : Reached o.circling (standing o.circling o.comes_round) (of f.one)
reached_one = g.through reached_main refl f.one (inl refl) refl refl

pub in_circle : CircleAtRest o.circling (standing o.circling o.comes_round) (f.one ∷ [])
in_circle = (refl, (of f.one, refl, reached_one, refl, inl refl))

-- ---- the square that waits for the other

follow_fixed : IsFixed o.follow_lists
follow_fixed =
    record {
      same_refl = λ d. eq-eqb (number d) (number d) refl;
      same_exact = piece_exact;
      first_show = refl;
      outputs_show = refl;
      made_by = piece_made;
      makes = piece_makes;
      own = piece_own;
      size = λ d. 1;
      first_smaller = circle_small;
    }

pub follow_laws : IsJob o.following
follow_laws = fixed_laws o.follow_lists follow_fixed

follow_main : Needed o.following (of f.main)
follow_main = waited root 0 (f.main ∷ []) f.main refl (inl refl) refl

abbrev pub follow_needed : List (Task Piece)
follow_needed = show ∷ of f.main ∷ of f.one ∷ of f.two ∷ []

pub follow_are : Each (Needed o.following) follow_needed
follow_are = (
  root,
  (
    follow_main,
    (
      waited follow_main 1 (f.one ∷ f.two ∷ []) f.one (1, refl) (inl refl) refl,
      (waited follow_main 1 (f.one ∷ f.two ∷ []) f.two (1, refl) (inr (inl refl)) refl, tt),
    ),
  ),
)

-- ---- one name for all

namesake_main : Needed o.namesakes (of f.main)
namesake_main = waited root 0 (f.main ∷ []) f.main refl (inl refl) refl

namesake_fixed : IsFixed (record (small_lists false) { name = λ d. [] })
namesake_fixed =
    record {
      same_refl = λ d. eq-eqb (number d) (number d) refl;
      same_exact = piece_exact;
      first_show = refl;
      outputs_show = refl;
      made_by = piece_made;
      makes = piece_makes;
      own = piece_own;
      size = piece_size;
      first_smaller = piece_small;
    }

namesake_laws : IsJob o.namesakes
namesake_laws = fixed_laws (record (small_lists false) { name = λ d. [] }) namesake_fixed

pub clash : BreaksLawOf o.namesakes h.one_worker h.begun h.saved_once
clash =
    record {
      lawful = lawful_true o.namesakes namesake_laws 8 (show ∷ of f.main ∷ []) (root, (namesake_main, tt)) h.one_worker (before_all o.namesakes)
          h.begun tt refl;
      broken = λ l. let e : f.main ≡ f.one = l.1.0.apart f.main f.one (inl refl) (inr (inl refl)) refl in cc;
    }
