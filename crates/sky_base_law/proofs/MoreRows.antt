-- Further worked rows, computed: of tasks, of what they make and hold, and of lists.
use Rattle.std.proofs.Common.{◌≡◌, ℕ, List, [], ◌∷◌, Some, None, Ok, Err, pos, refl, true, false}
use Rattle.std.specs.Str.{is_utf8, chars}
use lib.Utf8.{encode}
use Rattle.sky_base.specs.Val.{num, list, ref, no_vals, no_pairs, call, out, input, vals_of, refs}
use Rattle.sky_base.specs.Op.{plus, index, set_at, append}
use Rattle.sky_base.specs.Tree.{Oper, Form, Stm}
use Rattle.sky_base.specs.Res.{visits, others, Object}
use Rattle.sky_base.specs.Read.{made, waited}
use Rattle.sky_base.specs.See.{Val, Desc, Job, see, round, wave, job_answer, Answered, main_call}
use Rattle.sky_base.specs.Needed.{Task, wait_at}
use Rattle.sky_base_law.specs.Tasks.{same, maker, outputs_of, first_of, waves_from, acts_of, ended, held_at, made_between, made_after}
use Rattle.sky_base.specs.declared.fault.FaultKind.{FaultKind}
use Rattle.sky_base_law.proofs.Rows.{plain, at, n, t, b, name, block, op, form, main_of, with_fun, ends, returns, fails, sum_row, squares_row}
use Rattle.sky_base_law.proofs.Rows.{self_spawn_row, nested_row, waiting_exec_row, star, f_of, f, cat, cat_out, bad}

-- all that tasks compute with
computing : ℕ
unfolding visits others see round wave job_answer is_utf8 chars encode waves_from
computing = 0

abbrev main_task : Task
main_task = Task.of main_call

-- `return 1 + 2;`: four visits
sum_row_end : ends sum_row 0 ≡ returns (num (pos 3)) 4
unfolding computing
sum_row_end = refl

-- `function bad() { return 1 / 0; } x = spawn(bad, []); return 7;`: what is spawned and not waited for is not needed
abbrev unread_fault_row : Job
unread_fault_row =
    with_fun bad [] (Stm.return (at 18) (op (n 1 25) Oper.over 27 (n 0 29)) ∷ [])
    (Stm.set (120 ∷ []) (at 34) (form Form.spawn 38 (name bad 44 ∷ form Form.list 49 [] ∷ [])) ∷ Stm.return (at 54) (n 7 61) ∷ [])

unread_fault_row_answer : job_answer unread_fault_row plain 1 ≡ Answered.bytes (55 ∷ 10 ∷ [])
unfolding computing
unread_fault_row_answer = refl

unread_fault_row_acts : acts_of unread_fault_row plain 1 main_task ≡ made (call bad no_pairs no_vals) ∷ []
unfolding computing
unread_fault_row_acts = refl

unread_fault_row_waits : wait_at unread_fault_row plain 5 main_task 1 ≡ None
unfolding computing
unread_fault_row_waits = refl

-- `function f(x) { return x * x; } a = spawn(f, [3]); b = spawn(f, [3]); return *a + *b;`: one description, made and waited for twice
abbrev spawned_twice_row : Job
spawned_twice_row = with_fun (102 ∷ []) ((120 ∷ []) ∷ []) (Stm.return (at 17) (op (name (120 ∷ []) 24) Oper.times 26 (name (120 ∷ []) 28)) ∷ [])
    (Stm.set (97 ∷ []) (at 33) (f_of 3 37) ∷ Stm.set (98 ∷ []) (at 52) (f_of 3 56)
    ∷ Stm.return (at 71) (op (star 78 (name (97 ∷ []) 79)) Oper.plus 81 (star 83 (name (98 ∷ []) 84))) ∷ [])

spawned_twice_row_end : ends spawned_twice_row 1 ≡ returns (num (pos 18)) 16
unfolding computing
spawned_twice_row_end = refl

spawned_twice_row_see : see spawned_twice_row plain 2 main_call ≡ Some (Object.data_of (num (pos 18)))
unfolding computing
spawned_twice_row_see = refl

spawned_twice_row_acts : acts_of spawned_twice_row plain 1 main_task ≡ made (f 3) ∷ made (f 3) ∷ waited (f 3 ∷ []) ∷ waited (f 3 ∷ []) ∷ []
unfolding computing
spawned_twice_row_acts = refl

spawned_twice_row_held : held_at spawned_twice_row plain 1 main_task 1 ≡ Some (f 3 ∷ [])
unfolding computing
spawned_twice_row_held = refl

-- the two squares: what main holds and makes, and when it has ended
squares_row_held : held_at squares_row plain 1 main_task 2 ≡ Some (f 3 ∷ f 4 ∷ [])
unfolding computing
squares_row_held = refl

squares_row_between : made_between squares_row plain 1 main_task 0 2 ≡ f 3 ∷ f 4 ∷ []
unfolding computing
squares_row_between = refl

squares_row_later : made_after squares_row plain 1 main_task 1 ≡ []
unfolding computing
squares_row_later = refl

squares_row_not_ended : ended squares_row plain 0 main_task ≡ false
unfolding computing
squares_row_not_ended = refl

squares_row_ended : ended squares_row plain 1 main_task ≡ true
unfolding computing
squares_row_ended = refl

squares_row_show : ended squares_row plain 1 Task.show ≡ false
unfolding computing
squares_row_show = refl

self_spawn_row_not_ended : ended self_spawn_row plain 50 main_task ≡ false
unfolding computing
self_spawn_row_not_ended = refl

-- nested references: one wait, at wave 1, and the result has ended
nested_row_acts : acts_of nested_row plain 2 Task.show ≡ waited (f 2 ∷ f 3 ∷ []) ∷ []
unfolding computing
nested_row_acts = refl

nested_row_held : held_at nested_row plain 2 Task.show 1 ≡ Some (f 2 ∷ f 3 ∷ [])
unfolding computing
nested_row_held = refl

-- an executor task: its outputs, its first wait, what it holds
abbrev pair_of : ℕ → Desc
pair_of k = out cat (ref (input (116 ∷ []))) 2 k

outputs_row : outputs_of (Task.of (pair_of 0)) ≡ pair_of 0 ∷ pair_of 1 ∷ []
outputs_row = refl

maker_row : maker (pair_of 1) ≡ Some (Task.of (pair_of 0))
maker_row = refl

no_maker_row : maker (pair_of 2) ≡ None
no_maker_row = refl

first_row : first_of (Task.of (pair_of 0)) ≡ input (116 ∷ []) ∷ []
first_row = refl

held_row : held_at waiting_exec_row plain 0 (Task.of (pair_of 0)) 0 ≡ Some (input (116 ∷ []) ∷ [])
unfolding computing
held_row = refl

waiting_exec_row_ended : ended waiting_exec_row plain 1 (Task.of cat_out) ≡ true
unfolding computing
waiting_exec_row_ended = refl

same_row : same (f 3) (f 3) ≡ true
same_row = refl

other_row : same (f 3) (f 4) ≡ false
other_row = refl

-- `return f;` and `return ref("z");` where there is neither
no_name : ends (main_of (Stm.return (at 1) (name (102 ∷ []) 8) ∷ [])) 0 ≡ fails FaultKind.Unknown 8 2
unfolding computing
no_name = refl

no_input : ends (main_of (Stm.return (at 1) (form Form.ref 8 (t (122 ∷ []) 12 ∷ [])) ∷ [])) 0 ≡ fails FaultKind.Unknown 8 3
unfolding computing
no_input = refl

-- lists: `plus`, `index`, `set_at` past the end, `append`
abbrev l : List ℕ → Val
l ks = list (vals_of (go ks))
  where
    go : List ℕ → List Val
    go [] = []
    go (k ∷ rest) = num (pos k) ∷ go rest

plus_row : plus (l (5 ∷ [])) (l (6 ∷ [])) ≡ Ok (l (5 ∷ 6 ∷ []))
plus_row = refl

index_row : index (l (5 ∷ 6 ∷ [])) (num (pos 1)) ≡ Ok (num (pos 6))
index_row = refl

set_row : set_at (l (5 ∷ 6 ∷ [])) (num (pos 2)) (num (pos 7)) ≡ Err FaultKind.NoIndex
set_row = refl

append_row : append (l (5 ∷ 6 ∷ [])) (num (pos 7)) ≡ Ok (l (5 ∷ 6 ∷ 7 ∷ []))
append_row = refl

refs_row : refs (l (5 ∷ 6 ∷ [])) ≡ []
refs_row = refl

-- `x = "ab"; while (true) { x = x + x; }`: the text of 262,144 bytes would be too large
doubled_text_row : Job
doubled_text_row =
    main_of (Stm.set (120 ∷ []) (at 1) (t (97 ∷ 98 ∷ []) 5)
    ∷ Stm.while (at 11) (b true 18) (block (Stm.set (120 ∷ []) (at 26) (op (name (120 ∷ []) 30) Oper.plus 32 (name (120 ∷ []) 34)) ∷ []))
    ∷ [])

doubled_text_row_end : ends doubled_text_row 0 ≡ fails FaultKind.TooLarge 32 88
unfolding computing doubled_text_row
doubled_text_row_end = refl
