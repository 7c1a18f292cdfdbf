-- Four more small jobs over the same pieces: one whose executor reads a square and that waits for two objects at once, one
-- whose square waits for itself, one whose first square waits for the second, and one in which all names are one.
use Rattle.std.specs.Prelude.{ℕ, suc, List, [], ◌∷◌, ◌++◌, false}
use Rattle.ciel_journal.specs.Job.{Task, show, of, Act, made, wait, Job}
use Rattle.ciel_journal.specs.History.{Event, start, done, saved, missed, lost, Plan}
use Rattle.ciel_journal.specs.Fixed.{Fixed, Piece, main, one, two, left, right, fixed_job, small_lists, object_mark, state_mark}

-- ---- the executor's task reads the first square; the main call waits for the lines and the second square

abbrev pub fetch_first : Task Piece → List Piece
fetch_first show = main ∷ []
fetch_first (of left) = one ∷ []
fetch_first (of _) = []

abbrev pub fetch_script : Task Piece → List (Act Piece)
fetch_script (of main) = made one ∷ made left ∷ made right ∷ made two ∷ wait (left ∷ two ∷ []) ∷ []
fetch_script _ = []

abbrev pub fetch_holds : Task Piece → ℕ → List Piece
fetch_holds show j = main ∷ []
fetch_holds (of main) (suc j) = one ∷ left ∷ right ∷ two ∷ []
fetch_holds (of left) j = one ∷ []
fetch_holds (of _) j = []

abbrev pub fetch_lists : Fixed Piece
fetch_lists = record (small_lists false) { first = fetch_first; script = fetch_script; holds = fetch_holds }

abbrev pub fetching : Job Piece
fetching = fixed_job fetch_lists

abbrev pub third_lost : Plan
third_lost = record { workers = 3; seed = 2; losses = (3, 2) ∷ []; limit = 65536 }

-- two tasks are ready at once; the task over the square is under way at the first worker when the third is lost, which has
-- the square
abbrev pub fetch_missed : List (Event Piece)
fetch_missed =
    start 0 0 (of main) 0
    ∷ saved 0 1 (state_mark 1) (left ∷ two ∷ []) (one ∷ left ∷ right ∷ two ∷ []) (one ∷ left ∷ right ∷ two ∷ [])
    ∷ start 1 2 (of one) 0
    ∷ start 2 1 (of two) 0
    ∷ done 1 ((one, object_mark one) ∷ []) ([]) ([])
    ∷ start 3 0 (of left) 0
    ∷ done 2 ((two, object_mark two) ∷ []) ([]) ([])
    ∷ lost 2 3
    ∷ missed 3 one 0
    ∷ []

abbrev pub two_lost : Plan
two_lost = record { workers = 4; seed = 12; losses = (3, 2) ∷ (3, 1) ∷ []; limit = 65536 }

-- two tasks are ready, and four workers idle
abbrev pub two_ready : List (Event Piece)
two_ready =
    start 0 0 (of main) 0
    ∷ saved 0 1 (state_mark 1) (left ∷ two ∷ []) (one ∷ left ∷ right ∷ two ∷ []) (one ∷ left ∷ right ∷ two ∷ [])
    ∷ []

-- the one is started, and the other still ready
abbrev pub one_started : List (Event Piece)
one_started = two_ready ++ start 1 2 (of one) 0 ∷ []

abbrev pub one_reported : Event Piece
one_reported = done 1 ((one, object_mark one) ∷ []) ([]) ([])

-- both squares are made, each at a worker whose loss is now due; the task over the square is under way
abbrev pub two_due : List (Event Piece)
two_due =
    one_started ++ (start 2 1 (of two) 0
    ∷ (one_reported ∷ (start 3 3 (of left) 0 ∷ (done 2 ((two, object_mark two) ∷ []) ([]) ([]) ∷ []))))

abbrev pub left_reported : Event Piece
left_reported = done 3 ((left, object_mark left) ∷ (right, object_mark right) ∷ []) (one ∷ []) ([])

-- both squares are lost, of which the task over the one misses it and the other is ready
abbrev pub both_lost : List (Event Piece)
both_lost = two_due ++ (lost 2 3 ∷ (lost 1 3 ∷ []))

-- ---- a square that waits for itself

abbrev pub circle_script : Task Piece → List (Act Piece)
circle_script (of main) = made one ∷ wait (one ∷ []) ∷ []
circle_script (of one) = wait (one ∷ []) ∷ []
circle_script _ = []

abbrev pub circle_first : Task Piece → List Piece
circle_first show = main ∷ []
circle_first (of _) = []

abbrev pub circle_holds : Task Piece → ℕ → List Piece
circle_holds show j = main ∷ []
circle_holds (of main) (suc j) = one ∷ []
circle_holds (of one) (suc j) = one ∷ []
circle_holds (of _) j = []

abbrev pub circle_lists : Fixed Piece
circle_lists = record (small_lists false) { first = circle_first; script = circle_script; holds = circle_holds }

abbrev pub circling : Job Piece
circling = fixed_job circle_lists

-- each is saved where it waits for the square, and nothing is open
abbrev pub comes_round : List (Event Piece)
comes_round =
    start 0 0 (of main) 0
    ∷ saved 0 1 (state_mark 1) (one ∷ []) (one ∷ []) (one ∷ [])
    ∷ start 1 0 (of one) 0
    ∷ saved 1 1 (state_mark 1) (one ∷ []) (one ∷ []) ([])
    ∷ []

-- ---- a square that waits for the other

abbrev pub follow_script : Task Piece → List (Act Piece)
follow_script (of main) = made one ∷ made two ∷ wait (one ∷ two ∷ []) ∷ []
follow_script (of one) = wait (two ∷ []) ∷ []
follow_script _ = []

abbrev pub follow_holds : Task Piece → ℕ → List Piece
follow_holds show j = main ∷ []
follow_holds (of main) (suc j) = one ∷ two ∷ []
follow_holds (of one) (suc j) = two ∷ []
follow_holds (of _) j = []

abbrev pub follow_lists : Fixed Piece
follow_lists = record (small_lists false) { first = circle_first; script = follow_script; holds = follow_holds }

abbrev pub following : Job Piece
following = fixed_job follow_lists

-- the first square is started, and the second still ready
abbrev pub first_started : List (Event Piece)
first_started =
    start 0 0 (of main) 0
    ∷ saved 0 1 (state_mark 1) (one ∷ two ∷ []) (one ∷ two ∷ []) (one ∷ two ∷ [])
    ∷ start 1 1 (of one) 0
    ∷ []

abbrev pub first_saved : Event Piece
first_saved = saved 1 1 (state_mark 1) (two ∷ []) (two ∷ []) ([])

-- ---- one name for all

abbrev pub namesakes : Job Piece
namesakes = fixed_job (record (small_lists false) { name = λ d. [] })
