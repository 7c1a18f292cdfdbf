-- Histories of the small jobs.
use Rattle.std.specs.Prelude.{List, [], ◌∷◌, ◌++◌}
use Rattle.ciel_journal.specs.Job.{show, of}
use Rattle.ciel_journal.specs.History.{Event, start, done, saved, missed, lost, Plan}
use Rattle.ciel_journal.specs.Fixed.{Piece, main, one, two, left, right, text, object_mark, state_mark}

abbrev pub one_worker : Plan
one_worker = record { workers = 1; seed = 0; losses = []; limit = 65536 }

-- with one worker: the main call to its first wait, the first square, the main call to its second wait, the second square,
-- the main call to its end, and the result
abbrev pub squares_alone : List (Event Piece)
squares_alone =
    start 0 0 (of main) 0
    ∷ saved 0 1 (state_mark 1) (one ∷ []) (one ∷ two ∷ left ∷ right ∷ []) (one ∷ two ∷ text ∷ left ∷ right ∷ [])
    ∷ start 1 0 (of one) 0
    ∷ done 1 ((one, object_mark one) ∷ []) ([]) ([])
    ∷ start 2 0 (of main) 1
    ∷ saved 2 2 (state_mark 2) (two ∷ []) (one ∷ two ∷ left ∷ right ∷ []) ([])
    ∷ start 3 0 (of two) 0
    ∷ done 3 ((two, object_mark two) ∷ []) ([]) ([])
    ∷ start 4 0 (of main) 2
    ∷ done 4 ((main, object_mark main) ∷ []) ([]) ([])
    ∷ start 5 0 show 0
    ∷ done 5 ([]) ([]) ([])
    ∷ []

abbrev pub loss_after_two : Plan
loss_after_two = record { workers = 2; seed = 0; losses = (2, 0) ∷ []; limit = 65536 }

-- with two workers, of which the first is lost after two closes: its saved wait and its square are made again
abbrev pub squares_recovered : List (Event Piece)
squares_recovered =
    start 0 0 (of main) 0
    ∷ saved 0 1 (state_mark 1) (one ∷ []) (one ∷ two ∷ left ∷ right ∷ []) (one ∷ two ∷ text ∷ left ∷ right ∷ [])
    ∷ start 1 0 (of one) 0
    ∷ done 1 ((one, object_mark one) ∷ []) ([]) ([])
    ∷ lost 0 2
    ∷ start 2 1 (of main) 0
    ∷ saved 2 1 (state_mark 1) (one ∷ []) (one ∷ two ∷ left ∷ right ∷ []) (one ∷ two ∷ text ∷ left ∷ right ∷ [])
    ∷ start 3 1 (of one) 0
    ∷ done 3 ((one, object_mark one) ∷ []) ([]) ([])
    ∷ start 4 1 (of main) 1
    ∷ saved 4 2 (state_mark 2) (two ∷ []) (one ∷ two ∷ left ∷ right ∷ []) ([])
    ∷ start 5 1 (of two) 0
    ∷ done 5 ((two, object_mark two) ∷ []) ([]) ([])
    ∷ start 6 1 (of main) 2
    ∷ done 6 ((main, object_mark main) ∷ []) ([]) ([])
    ∷ start 7 1 show 0
    ∷ done 7 ([]) ([]) ([])
    ∷ []

abbrev pub loss_at_once : Plan
loss_at_once = record { workers = 1; seed = 0; losses = (0, 0) ∷ []; limit = 65536 }

-- with one worker that is lost before all else
abbrev pub lost_at_once : List (Event Piece)
lost_at_once =
    lost 0 0
    ∷ []

abbrev pub two_workers : Plan
two_workers = record { workers = 2; seed = 4; losses = []; limit = 65536 }

-- with two workers, where the result is read from the lines: what is read from another worker is copied
abbrev pub lines_copied : List (Event Piece)
lines_copied =
    start 0 0 (of main) 0
    ∷ saved 0 1 (state_mark 1) (one ∷ []) (one ∷ two ∷ left ∷ right ∷ []) (one ∷ two ∷ text ∷ left ∷ right ∷ [])
    ∷ start 1 1 (of one) 0
    ∷ done 1 ((one, object_mark one) ∷ []) ([]) ([])
    ∷ start 2 1 (of main) 1
    ∷ saved 2 2 (state_mark 2) (two ∷ []) (one ∷ two ∷ left ∷ right ∷ []) ([])
    ∷ start 3 1 (of two) 0
    ∷ done 3 ((two, object_mark two) ∷ []) ([]) ([])
    ∷ start 4 0 (of main) 2
    ∷ done 4 ((main, object_mark main) ∷ []) (two ∷ []) ([])
    ∷ start 5 0 show 0
    ∷ saved 5 1 (state_mark 1) (left ∷ []) (left ∷ []) ([])
    ∷ start 6 0 (of left) 0
    ∷ done 6 ((left, object_mark left) ∷ (right, object_mark right) ∷ []) ([]) ([])
    ∷ start 7 1 show 1
    ∷ done 7 ([]) (left ∷ []) ([])
    ∷ []

abbrev pub loss_of_the_first : Plan
loss_of_the_first = record { workers = 2; seed = 1; losses = (2, 0) ∷ []; limit = 65536 }

-- the main call goes on at the second worker, and the square that it wants is lost with the first: it is missed, and
-- made again
abbrev pub missed_and_made_again : List (Event Piece)
missed_and_made_again =
    start 0 1 (of main) 0
    ∷ saved 0 1 (state_mark 1) (one ∷ []) (one ∷ two ∷ left ∷ right ∷ []) (one ∷ two ∷ text ∷ left ∷ right ∷ [])
    ∷ start 1 0 (of one) 0
    ∷ done 1 ((one, object_mark one) ∷ []) ([]) ([])
    ∷ start 2 1 (of main) 1
    ∷ lost 0 2
    ∷ missed 2 one 0
    ∷ start 3 1 (of one) 0
    ∷ done 3 ((one, object_mark one) ∷ []) ([]) ([])
    ∷ []

-- ---- histories that are not lawful, each with what is lawful of it

abbrev pub saved_once : List (Event Piece)
saved_once =
    start 0 0 (of main) 0
    ∷ saved 0 1 (state_mark 1) (one ∷ []) (one ∷ two ∷ left ∷ right ∷ []) (one ∷ two ∷ text ∷ left ∷ right ∷ [])
    ∷ []

abbrev pub first_square : List (Event Piece)
first_square =
    start 1 0 (of one) 0
    ∷ done 1 ((one, object_mark one) ∷ []) ([]) ([])
    ∷ []

-- a task over the lines that was spawned and that nobody waits for
abbrev pub starts_what_nobody_needs : List (Event Piece)
starts_what_nobody_needs = saved_once ++ start 1 0 (of left) 0 ∷ []

-- the first square, which is live
abbrev pub runs_a_live_task_again : List (Event Piece)
runs_a_live_task_again = saved_once ++ (first_square ++ start 2 0 (of one) 0 ∷ [])

-- the square is lost with its worker
abbrev pub square_lost : List (Event Piece)
square_lost =
    start 0 1 (of main) 0
    ∷ saved 0 1 (state_mark 1) (one ∷ []) (one ∷ two ∷ left ∷ right ∷ []) (one ∷ two ∷ text ∷ left ∷ right ∷ [])
    ∷ start 1 0 (of one) 0
    ∷ done 1 ((one, object_mark one) ∷ []) ([]) ([])
    ∷ lost 0 2
    ∷ []

-- the main call, whose wait has a place only at the lost worker
abbrev pub keeps_places_of_a_lost_worker : List (Event Piece)
keeps_places_of_a_lost_worker = square_lost ++ start 2 1 (of main) 1 ∷ []

-- the main call from its start, though its first wait was saved
abbrev pub resumes_another_wait : List (Event Piece)
resumes_another_wait = saved_once ++ (first_square ++ start 2 0 (of main) 0 ∷ [])

abbrev pub begun : List (Event Piece)
begun = start 0 0 (of main) 0 ∷ []

-- a saved wait that says nothing of what was spawned
abbrev pub drops_spawned_at_a_save : List (Event Piece)
drops_spawned_at_a_save =
    begun ++ saved 0 1 (state_mark 1) (one ∷ []) (one ∷ two ∷ left ∷ right ∷ []) [] ∷ []

abbrev pub loss_of_the_only : Plan
loss_of_the_only = record { workers = 1; seed = 0; losses = (2, 0) ∷ []; limit = 65536 }

-- the main call goes on at the second worker, and its stack is lost with the first
abbrev pub stack_missed : List (Event Piece)
stack_missed =
    start 0 0 (of main) 0
    ∷ saved 0 1 (state_mark 1) (one ∷ []) (one ∷ two ∷ left ∷ right ∷ []) (one ∷ two ∷ text ∷ left ∷ right ∷ [])
    ∷ start 1 1 (of one) 0
    ∷ done 1 ((one, object_mark one) ∷ []) ([]) ([])
    ∷ start 2 1 (of main) 1
    ∷ lost 0 2
    ∷ missed 2 main 0
    ∷ []

-- ---- more that is not lawful

abbrev pub little_room : Plan
little_room = record { workers = 1; seed = 0; losses = []; limit = 3 }

-- the mark of another object
abbrev pub another_mark : List (Event Piece)
another_mark = saved_once ++ (start 1 0 (of one) 0 ∷ done 1 ((one, object_mark two) ∷ []) ([]) ([]) ∷ [])

abbrev pub one_running : List (Event Piece)
one_running = saved_once ++ start 1 0 (of one) 0 ∷ []

abbrev pub main_again : List (Event Piece)
main_again = saved_once ++ (first_square ++ start 2 0 (of main) 1 ∷ [])

-- both squares are made, and the main call goes on
abbrev pub two_done : List (Event Piece)
two_done =
    main_again ++ (saved 2 2 (state_mark 2) (two ∷ []) (one ∷ two ∷ left ∷ right ∷ []) ([])
    ∷ (start 3 0 (of two) 0 ∷ (done 3 ((two, object_mark two) ∷ []) ([]) ([]) ∷ [])))

abbrev pub main_last : List (Event Piece)
main_last = two_done ++ start 4 0 (of main) 2 ∷ []

-- a copy of what stood at the order's own worker
abbrev pub copies_its_own : List (Event Piece)
copies_its_own = main_last ++ done 4 ((main, object_mark main) ∷ []) (two ∷ []) ([]) ∷ []

-- an object is missed, and nobody was lost
abbrev pub misses_what_is_there : List (Event Piece)
misses_what_is_there = saved_once ++ (first_square ++ start 2 0 (of main) 1 ∷ (missed 2 one 0 ∷ []))

-- a loss that the plan doesn't have
abbrev pub loses_unplanned : List (Event Piece)
loses_unplanned = saved_once ++ lost 0 1 ∷ []
