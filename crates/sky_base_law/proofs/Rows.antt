-- Worked rows, computed.
use Rattle.std.proofs.Common.{◌≡◌, ℕ, ◌+◌, List, [], ◌∷◌, Option, Some, None, Result, Ok, Err, pos, negsuc, refl, Bool, true, false, replicate}
use Rattle.std.specs.Str.{is_utf8, chars}
use lib.Utf8.{encode}
use Rattle.sky_base.specs.Val.{null, truth, num, text, list, dict, ref, no_vals, val, no_pairs, pair, call, out, input, vals_of}
use Rattle.sky_base.specs.Op.{Order, over_num, rest_num}
use Rattle.sky_base.specs.Tree.{Place, Lit, Oper, Junction, Sign, Form, Exp, Exps, Links, Ands, Steps, Stm, Stms, Arms, Else}
use Rattle.sky_base.specs.Res.{visits, others, Object, End}
use Rattle.sky_base.specs.Read.{Outcome, ended, no_fuel, made, waited, outcome, acts}
use Rattle.sky_base.specs.See.{Val, Desc, Job, Around, see, run_of, round, wave, job_answer, Answered, main_call}
use Rattle.sky_base.specs.Needed.{Task, State, wait_at, stands_at, made_from}
use Rattle.sky_base.specs.declared.fault.FaultKind.{FaultKind}

abbrev digit : ℕ → List ℕ
digit n = (48 + n) ∷ []

abbrev write_val : Val → Option (List ℕ)
write_val (num (pos n)) = Some (digit n)
write_val null = Some (110 ∷ 117 ∷ 108 ∷ 108 ∷ [])
write_val _ = None

-- `cat` gives its first input; no bytes are data
abbrev gives_first : List (List ℕ) → Result (List (List ℕ)) FaultKind
gives_first [] = Err FaultKind.BadKind
gives_first (b ∷ bs) = Ok (b ∷ [])

abbrev pub plain : Around
plain = record { runs = λ x v bs n. gives_first bs; reads = λ b. Err FaultKind.NotData; writes = write_val }

abbrev pub at : ℕ → Place
at c = record { line = 1; col = c }

abbrev pub n : ℕ → ℕ → Exp
n k c = Exp.literal (Lit.num (pos k)) (at c)

abbrev pub t : List ℕ → ℕ → Exp
t k c = Exp.literal (Lit.text k) (at c)

abbrev pub b : Bool → ℕ → Exp
b k c = Exp.literal (Lit.truth k) (at c)

abbrev pub name : List ℕ → ℕ → Exp
name x c = Exp.name x (at c)

abbrev pub exps : List Exp → Exps
exps [] = Exps.no_exps
exps (e ∷ es) = Exps.exp e (exps es)

abbrev pub block : List Stm → Stms
block [] = Stms.no_stms
block (s ∷ ss) = Stms.stm s (block ss)

abbrev pub op : Exp → Oper → ℕ → Exp → Exp
op x o c y = Exp.chain x (Links.link o (at c) y Links.no_links)

abbrev pub form : Form → ℕ → List Exp → Exp
form o c es = Exp.parts o (at c) (exps es)

abbrev pub main_of : List Stm → Job
main_of ss = record { script = record { funs = []; main = block ss; keys = [] }; inputs = [] }

abbrev pub with_fun : List ℕ → List (List ℕ) → List Stm → List Stm → Job
with_fun f xs body ss =
    record {
      script = record {
        funs = record { name = f; params = xs; body = block body; place = at 10; uses = [] } ∷ [];
        main = block ss;
        keys =
            [];
      };
      inputs = [];
    }

-- all that a run computes with
computing : ℕ
unfolding visits others see round wave job_answer is_utf8 chars encode
computing = 0

abbrev pub out_of : Job → ℕ → Outcome ⊥
out_of job k = outcome (see job plain k) (run_of job plain [] no_pairs no_vals)

-- how main ends with its count, where it waits for nothing
abbrev pub end_of : Outcome ⊥ → Option (End ⊥ × ℕ)
end_of (ended e s) = Some (e, s.count)
end_of no_fuel = None

abbrev pub ends : Job → ℕ → Option (End ⊥ × ℕ)
ends job k = end_of (out_of job k)

abbrev pub returns : Val → ℕ → Option (End ⊥ × ℕ)
returns v c = Some (End.returned v, c)

abbrev pub fails : FaultKind → ℕ → ℕ → Option (End ⊥ × ℕ)
fails k c m = Some (End.failed (record { kind = k; line = 1; col = c }), m)

-- `return 1 + 2;`
abbrev pub sum_row : Job
sum_row = main_of (Stm.return (at 1) (op (n 1 8) Oper.plus 10 (n 2 12)) ∷ [])

see_sum_row : see sum_row plain 1 main_call ≡ Some (Object.data_of (num (pos 3)))
unfolding computing
see_sum_row = refl

answer_sum_row : job_answer sum_row plain 1 ≡ Answered.bytes (51 ∷ 10 ∷ [])
unfolding computing
answer_sum_row = refl

-- an empty script
answer_empty_row : job_answer (main_of []) plain 1 ≡ Answered.bytes (110 ∷ 117 ∷ 108 ∷ 108 ∷ 10 ∷ [])
unfolding computing
answer_empty_row = refl

-- `function f(x) { return x * x; } a = spawn(f, [3]); b = spawn(f, [4]); return *a + *b;`
abbrev pub f_of : ℕ → ℕ → Exp
f_of k c = form Form.spawn c (name (102 ∷ []) (c + 6) ∷ form Form.list (c + 9) (n k (c + 10) ∷ []) ∷ [])

abbrev pub star : ℕ → Exp → Exp
star c e = Exp.prefix (record { sign = Sign.star; place = at c } ∷ []) e

abbrev pub squares_row : Job
squares_row = with_fun (102 ∷ []) ((120 ∷ []) ∷ []) (Stm.return (at 17) (op (name (120 ∷ []) 24) Oper.times 26 (name (120 ∷ []) 28)) ∷ [])
    (Stm.set (97 ∷ []) (at 33) (f_of 3 37) ∷ Stm.set (98 ∷ []) (at 52) (f_of 4 56)
    ∷ Stm.return (at 71) (op (star 78 (name (97 ∷ []) 79)) Oper.plus 81 (star 83 (name (98 ∷ []) 84))) ∷ [])

abbrev pub f : ℕ → Desc
f k = call (102 ∷ []) no_pairs (val (num (pos k)) no_vals)

squares_row_short : job_answer squares_row plain 1 ≡ Answered.not_yet
unfolding computing
squares_row_short = refl

squares_row_see : see squares_row plain 2 main_call ≡ Some (Object.data_of (num (pos 25)))
unfolding computing
squares_row_see = refl

squares_row_acts : acts (see squares_row plain 1) (run_of squares_row plain [] no_pairs no_vals) ≡ made (f 3) ∷ made (f 4) ∷ waited (f 3 ∷ [])
    ∷ waited (f 4 ∷ []) ∷ []
unfolding computing
squares_row_acts = refl

squares_row_short_acts : acts (see squares_row plain 0) (run_of squares_row plain [] no_pairs no_vals) ≡ made (f 3) ∷ made (f 4)
    ∷ waited (f 3 ∷ []) ∷ []
unfolding computing
squares_row_short_acts = refl

squares_row_start : stands_at squares_row plain 1 (Task.of main_call) 0
    ≡ Some (State.run (record {
      frames = record { fun = []; vars = no_pairs; stack = []; todo = record { node = 0; step = 0 } ∷ [] } ∷ [];
      count = 0;
      waits = 0;
    }))
unfolding computing
squares_row_start = refl

squares_row_wait1 : stands_at squares_row plain 0 (Task.of main_call) 1
    ≡ Some (State.run (record {
      frames = record {
        fun = [];
        vars = pair (97 ∷ []) (ref (f 3)) (pair (98 ∷ []) (ref (f 4)) no_pairs);
        stack =
            ref (f 3) ∷ [];
        todo = record { node = 0; step = 3 } ∷ record { node = 11; step = 1 } ∷ record { node = 12; step = 1 }
            ∷ record { node = 13; step = 2 } ∷ [];
      } ∷ [];
      count = 13;
      waits = 1;
    }))
unfolding computing
squares_row_wait1 = refl

squares_row_wait2 : stands_at squares_row plain 1 (Task.of main_call) 2
    ≡ Some (State.run (record {
      frames = record {
        fun = [];
        vars = pair (97 ∷ []) (ref (f 3)) (pair (98 ∷ []) (ref (f 4)) no_pairs);
        stack =
            num (pos 9) ∷ ref (f 4) ∷ [];
        todo = record { node = 0; step = 3 } ∷ record { node = 11; step = 1 } ∷ record { node = 12; step = 2 }
            ∷ record { node = 15; step = 2 } ∷ [];
      } ∷ [];
      count = 15;
      waits = 2;
    }))
unfolding computing
squares_row_wait2 = refl

squares_row_end : ends squares_row 1 ≡ returns (num (pos 25)) 16
unfolding computing
squares_row_end = refl

squares_row_made : made_from squares_row plain 1 [] no_pairs no_vals 0 ≡ f 3 ∷ f 4 ∷ []
unfolding computing
squares_row_made = refl

squares_row_made1 : made_from squares_row plain 1 [] no_pairs no_vals 1 ≡ []
unfolding computing
squares_row_made1 = refl

-- `function bad(){return 1/0;} return *spawn(bad, []);`
abbrev pub bad : List ℕ
bad = 98 ∷ 97 ∷ 100 ∷ []

abbrev spawned_fault_row : Job
spawned_fault_row = with_fun bad [] (Stm.return (at 16) (op (n 1 23) Oper.over 24 (n 0 25)) ∷ [])
    (Stm.return (at 29) (star 36 (form Form.spawn 37 (name bad 43 ∷ form Form.list 48 [] ∷ []))) ∷ [])

spawned_fault_row_answer : job_answer spawned_fault_row plain 2 ≡ Answered.fault (record { kind = FaultKind.DivZero; line = 1; col = 24 })
unfolding computing
spawned_fault_row_answer = refl

-- `function f() { return *spawn(f, []); } return *spawn(f, []);`
abbrev again : ℕ → Stm
again c = Stm.return (at c) (star (c + 7) (form Form.spawn (c + 8) (name (102 ∷ []) (c + 14) ∷ form Form.list (c + 17) [] ∷ [])))

abbrev pub self_spawn_row : Job
self_spawn_row = with_fun (102 ∷ []) [] (again 16 ∷ []) (again 40 ∷ [])

self_spawn_row_answer : job_answer self_spawn_row plain 100 ≡ Answered.not_yet
unfolding computing
self_spawn_row_answer = refl

-- what main waits for is what f waits for, at every number
self_spawn_row_wait : wait_at self_spawn_row plain 1 (Task.of main_call) 1 ≡ Some (call (102 ∷ []) no_pairs no_vals ∷ [])
unfolding computing
self_spawn_row_wait = refl

-- `return 9223372036854775807 + 1;`
overflow_row : ends (main_of (Stm.return (at 1) (op (n 9223372036854775807 8) Oper.plus 28 (n 1 30)) ∷ [])) 0 ≡ fails FaultKind.Overflow 28 4
unfolding computing
overflow_row = refl

-- `return false && x;` and `return true && 1;`, whose last operand is no truth value
and_skips : ends (main_of (Stm.return (at 1) (Exp.logic Junction.both (b false 8) (Ands.and (at 14) (name (120 ∷ []) 17) Ands.no_ands)) ∷ [])) 0
    ≡ returns (truth false) 3
unfolding computing
and_skips = refl

and_kind : ends (main_of (Stm.return (at 1) (Exp.logic Junction.both (b true 8) (Ands.and (at 13) (n 1 16) Ands.no_ands)) ∷ [])) 0
    ≡ fails FaultKind.BadKind 13 4
unfolding computing
and_kind = refl

-- `return true && 1 && true;`: the operand is judged at the operator to its right
and_right : ends (main_of (Stm.return (at 1)
    (Exp.logic Junction.both (b true 8) (Ands.and (at 13) (n 1 16) (Ands.and (at 18) (b true 21) Ands.no_ands))) ∷ [])) 0
    ≡ fails FaultKind.BadKind 18 5
unfolding computing
and_right = refl

-- `return false || true;`
or_goes : ends (main_of (Stm.return (at 1) (Exp.logic Junction.either (b false 8) (Ands.and (at 14) (b true 17) Ands.no_ands)) ∷ [])) 0
    ≡ returns (truth true) 4
unfolding computing
or_goes = refl

-- `return {"a": 1, "b": 2, "a": 3};`
dict_last : ends (main_of (Stm.return (at 1) (form Form.dict 8 (t (97 ∷ []) 9 ∷ n 1 14 ∷ t (98 ∷ []) 17 ∷ n 2 22 ∷ t (97 ∷ []) 25 ∷ n 3 30 ∷ []))
    ∷ [])) 0 ≡ returns (dict (pair (97 ∷ []) (num (pos 3)) (pair (98 ∷ []) (num (pos 2)) no_pairs))) 8
unfolding computing
dict_last = refl

-- `return {1: 2};`
dict_key : ends (main_of (Stm.return (at 1) (form Form.dict 8 (n 1 9 ∷ n 2 12 ∷ [])) ∷ [])) 0 ≡ fails FaultKind.BadKind 8 4
unfolding computing
dict_key = refl

-- `i = 0; do { i += 1; } while (i < 3); return i;`
abbrev pub i : List ℕ
i = 105 ∷ []

repeat_row : ends (main_of (Stm.set i (at 1) (n 0 5)
    ∷ Stm.repeat (at 8) (block (Stm.add i (at 13) (at 15) (n 1 18) ∷ [])) (op (name i 30) (Oper.compare Order.lt) 32 (n 3 34))
    ∷ Stm.return (at 38) (name i 45) ∷ [])) 0 ≡ returns (num (pos 3)) 20
unfolding computing
repeat_row = refl

-- `s = 0; for (x in range(1, 5)) { s += x; } return s;`
for_row : ends (main_of (Stm.set (115 ∷ []) (at 1) (n 0 5)
    ∷ Stm.for (at 8) (120 ∷ []) (form Form.range 18 (n 1 24 ∷ n 5 27 ∷ []))
    (block (Stm.add (115 ∷ []) (at 33) (at 35) (name (120 ∷ []) 38) ∷ [])) ∷ Stm.return (at 43) (name (115 ∷ []) 50) ∷ [])) 0
    ≡ returns (num (pos 10)) 20
unfolding computing
for_row = refl

-- `i = 0; while (i < 3) { i += 1; } return i;`
while_row : ends (main_of (Stm.set i (at 1) (n 0 5)
    ∷ Stm.while (at 8) (op (name i 15) (Oper.compare Order.lt) 17 (n 3 19)) (block (Stm.add i (at 24) (at 26) (n 1 29) ∷ []))
    ∷ Stm.return (at 34) (name i 41) ∷ [])) 0 ≡ returns (num (pos 3)) 23
unfolding computing
while_row = refl

-- `if (false) { } else if (true) { return 2; } else { return 3; }`, and the same with 1 for true
abbrev else_if : Exp → Job
else_if e =
    main_of (Stm.cases (at 1) (Arms.arm (at 1) (b false 5) (block [])
    (Arms.arm (at 21) e (block (Stm.return (at 32) (n 2 39) ∷ [])) Arms.no_arms)) (Else.otherwise (block (Stm.return (at 52) (n 3 59) ∷ [])))
    ∷ [])

else_if_row : ends (else_if (b true 25)) 0 ≡ returns (num (pos 2)) 5
unfolding computing
else_if_row = refl

else_row : ends (else_if (b false 25)) 0 ≡ returns (num (pos 3)) 5
unfolding computing
else_row = refl

else_if_kind : ends (else_if (n 1 25)) 0 ≡ fails FaultKind.BadKind 21 3
unfolding computing
else_if_kind = refl

-- `d = {"b": 2, "a": 1}; d["c"] = 3; return [d, keys(d), has(d, "z"), len(d)];`
abbrev d : List ℕ
d = 100 ∷ []

dictionaries_row : ends (main_of (Stm.set d (at 1) (form Form.dict 5 (t (98 ∷ []) 6 ∷ n 2 11 ∷ t (97 ∷ []) 14 ∷ n 1 19 ∷ []))
    ∷ Stm.put d (at 23) (at 24) (t (99 ∷ []) 25) (n 3 32)
    ∷ Stm.return (at 35) (form Form.list 42 (name d 43 ∷ form Form.keys 46 (name d 51 ∷ []) ∷ form Form.has 55 (name d 59 ∷ t (122 ∷ []) 62 ∷ [])
    ∷ form Form.len 68 (name d 72 ∷ []) ∷ [])) ∷ [])) 0
    ≡ returns (list (vals_of (dict (pair (97 ∷ []) (num (pos 1)) (pair (98 ∷ []) (num (pos 2)) (pair (99 ∷ []) (num (pos 3)) no_pairs)))
    ∷ list (vals_of (text (97 ∷ []) ∷ text (98 ∷ []) ∷ text (99 ∷ []) ∷ [])) ∷ truth false ∷ num (pos 3) ∷ []))) 19
unfolding computing
dictionaries_row = refl

-- `x[0] = 1;` where x isn't set: after both parts, at the name
put_unset : ends (main_of (Stm.put (120 ∷ []) (at 1) (at 2) (n 0 3) (n 1 8) ∷ [])) 0 ≡ fails FaultKind.Unknown 1 3
unfolding computing
put_unset = refl

-- `return [7 / 2, -7 / 2, -7 % 2, 7 % -2];`
abbrev neg : ℕ → ℕ → Exp
neg k c = Exp.prefix (record { sign = Sign.minus; place = at c } ∷ []) (n k (c + 1))

divisions_row : ends (main_of (Stm.return (at 1)
    (form Form.list 8 (op (n 7 9) Oper.over 11 (n 2 13) ∷ op (neg 7 16) Oper.over 19 (n 2 21) ∷ op (neg 7 24) Oper.rest 27 (n 2 29)
    ∷ op (n 7 32) Oper.rest 34 (neg 2 36) ∷ [])) ∷ [])) 0
    ≡ returns (list (vals_of (num (pos 3) ∷ num (negsuc 2) ∷ num (negsuc 0) ∷ num (pos 1) ∷ []))) 17
unfolding computing
divisions_row = refl

-- `function f(n){ if (n == 0) { return 0; } return f(n - 1); } return f(62);`; the same with 63
abbrev pub calls : Exp → ℕ → Exp
calls e c = Exp.postfix (name (102 ∷ []) c) (Steps.call (exps (e ∷ [])) (at (c + 1)) Steps.no_steps)

abbrev down : ℕ → Job
down k =
    with_fun (102 ∷ []) ((110 ∷ []) ∷ []) (Stm.cases (at 16)
    (Arms.arm (at 16) (op (name (110 ∷ []) 20) (Oper.compare Order.eq) 22 (n 0 25)) (block (Stm.return (at 30) (n 0 37) ∷ [])) Arms.no_arms)
    Else.no_else ∷ Stm.return (at 42) (calls (op (name (110 ∷ []) 51) Oper.minus 53 (n 1 55)) 49) ∷ [])
    (Stm.return (at 61) (calls (n k 70) 68) ∷ [])

recursion_row : job_answer (down 62) plain 1 ≡ Answered.bytes (48 ∷ 10 ∷ [])
unfolding computing
recursion_row = refl

recursion_row_deep : job_answer (down 63) plain 1 ≡ Answered.fault (record { kind = FaultKind.TooDeep; line = 1; col = 50 })
unfolding computing
recursion_row_deep = refl

-- `function f() { return spawn(f, []); } return spawn(f, []);`: the waves never end
own_reference_row : job_answer (with_fun (102 ∷ []) []
    (Stm.return (at 16) (form Form.spawn 23 (name (102 ∷ []) 29 ∷ form Form.list 32 [] ∷ [])) ∷ [])
    (Stm.return (at 40) (form Form.spawn 47 (name (102 ∷ []) 53 ∷ form Form.list 56 [] ∷ [])) ∷ [])) plain 2
    ≡ Answered.fault (record { kind = FaultKind.TooDeep; line = 0; col = 0 })
unfolding computing
own_reference_row = refl

-- `function f() { return 1; } return f;`
returned_function_row : job_answer (with_fun (102 ∷ []) [] (Stm.return (at 16) (n 1 23) ∷ []) (Stm.return (at 28) (name (102 ∷ []) 35) ∷ []))
    plain 1 ≡ Answered.fault (record { kind = FaultKind.NotText; line = 0; col = 0 })
unfolding computing
returned_function_row = refl

-- `x = exec("cat", {"in": ref("t")}, 1); return x[0];` with t = `a`
abbrev pub cat : List ℕ
cat = 99 ∷ 97 ∷ 116 ∷ []

abbrev pub waiting_exec_row : Job
waiting_exec_row = record {
  script = record {
    funs = [];
    main =
        block (Stm.set (120 ∷ []) (at 1) (form Form.exec 5
        (t cat 10 ∷ form Form.dict 17 (t (105 ∷ 110 ∷ []) 18 ∷ form Form.ref 24 (t (116 ∷ []) 28 ∷ []) ∷ []) ∷ n 1 35 ∷ []))
        ∷ Stm.return (at 39) (Exp.postfix (name (120 ∷ []) 46) (Steps.index (n 0 48) (at 47) Steps.no_steps)) ∷ []);
    keys = (116 ∷ []) ∷ [];
  };
  inputs = (116 ∷ [], 97 ∷ []) ∷ [];
}

abbrev pub cat_out : Desc
cat_out = out cat (dict (pair (105 ∷ 110 ∷ []) (ref (input (116 ∷ []))) no_pairs)) 1 0

waiting_exec_row_answer : job_answer waiting_exec_row plain 3 ≡ Answered.bytes (97 ∷ [])
unfolding computing
waiting_exec_row_answer = refl

waiting_exec_row_acts : acts (see waiting_exec_row plain 2) (run_of waiting_exec_row plain [] no_pairs no_vals) ≡ made (input (116 ∷ []))
    ∷ made cat_out ∷ waited (cat_out ∷ []) ∷ []
unfolding computing
waiting_exec_row_acts = refl

waiting_exec_row_wait : stands_at waiting_exec_row plain 0 (Task.of main_call) 1
    ≡ Some (State.run (record {
      frames = record {
        fun = [];
        vars = no_pairs;
        stack = list (vals_of (ref cat_out ∷ [])) ∷ [];
        todo =
            record { node = 0; step = 1 } ∷ record { node = 1; step = 1 } ∷ record { node = 2; step = 4 } ∷ [];
      } ∷ [];
      count = 8;
      waits = 1;
    }))
unfolding computing
waiting_exec_row_wait = refl

waiting_exec_row_show : wait_at waiting_exec_row plain 3 Task.show 1 ≡ Some (cat_out ∷ [])
unfolding computing
waiting_exec_row_show = refl

-- `function f(x) { return *x + 1; } return f(spawn(f, [2]));`: two frames at the first wait, of which the upper one is f's
abbrev two_frames : Job
two_frames = with_fun (102 ∷ []) ((120 ∷ []) ∷ []) (Stm.return (at 17) (op (star 24 (name (120 ∷ []) 25)) Oper.plus 27 (n 1 29)) ∷ [])
    (Stm.return (at 34) (calls (form Form.spawn 43 (name (102 ∷ []) 49 ∷ form Form.list 52 (n 2 53 ∷ []) ∷ [])) 41) ∷ [])

frames_row : stands_at two_frames plain 0 (Task.of main_call) 1
    ≡ Some (State.run (record {
      frames = record {
        fun = [];
        vars = no_pairs;
        stack = [];
        todo = record { node = 0; step = 1 }
            ∷ record { node = 1; step = 1 } ∷ record { node = 2; step = 3 } ∷ [];
      }
          ∷ record {
            fun = 102 ∷ [];
            vars = pair (120 ∷ []) (ref (f 2)) no_pairs;
            stack = ref (f 2) ∷ [];
            todo = record { node = 8; step = 1 }
                ∷ record { node = 9; step = 1 } ∷ record { node = 10; step = 1 } ∷ record { node = 11; step = 2 } ∷ [];
          } ∷ [];
      count = 10;
      waits = 1;
    }))
unfolding computing
frames_row = refl

-- a text of 262,144 bytes is too large at its token
long_text : ends (main_of (Stm.return (at 1) (t (replicate 262144 97) 8) ∷ [])) 0 ≡ fails FaultKind.TooLarge 8 2
unfolding computing
long_text = refl

-- the least number by -1
least_over : over_num {N = ⊥} (negsuc 9223372036854775807) (negsuc 0) ≡ Err FaultKind.Overflow
least_over = refl

least_rest : rest_num {N = ⊥} (negsuc 9223372036854775807) (negsuc 0) ≡ Ok (num (pos 0))
least_rest = refl

-- `return [1, "a"] == [1, "a"];` and `return f == 1;` in `f`'s script
same_lists : ends (main_of (Stm.return (at 1)
    (op (form Form.list 8 (n 1 9 ∷ t (97 ∷ []) 12 ∷ [])) (Oper.compare Order.eq) 17 (form Form.list 20 (n 1 21 ∷ t (97 ∷ []) 24 ∷ []))) ∷ [])) 0
    ≡ returns (truth true) 8
unfolding computing
same_lists = refl

no_functions : ends (with_fun (102 ∷ []) [] [] (Stm.return (at 1) (op (name (102 ∷ []) 8) (Oper.compare Order.eq) 10 (n 1 13)) ∷ [])) 0
    ≡ fails FaultKind.BadKind 10 4
unfolding computing
no_functions = refl

-- `function f(x) { return x * x; } return [spawn(f, [2]), [spawn(f, [3])]];`: the value at wave 2 has no reference
abbrev pub nested_row : Job
nested_row = with_fun (102 ∷ []) ((120 ∷ []) ∷ []) (Stm.return (at 17) (op (name (120 ∷ []) 24) Oper.times 26 (name (120 ∷ []) 28)) ∷ [])
    (Stm.return (at 33) (form Form.list 40 (f_of 2 41 ∷ form Form.list 56 (f_of 3 57 ∷ []) ∷ [])) ∷ [])

nested_row_wave : wave nested_row plain 2 2 ≡ Some (list (vals_of (num (pos 4) ∷ list (vals_of (num (pos 9) ∷ [])) ∷ [])))
unfolding computing
nested_row_wave = refl

nested_row_show : wait_at nested_row plain 2 Task.show 1 ≡ Some (f 2 ∷ f 3 ∷ [])
unfolding computing
nested_row_show = refl

nested_row_no_show : wait_at nested_row plain 5 Task.show 2 ≡ None
unfolding computing
nested_row_no_show = refl

-- `return [ref("t")];`, `return ref("t");` and `return *ref("t");` with t = `a`
abbrev input_row : Exp → Job
input_row e =
    record { script = record { funs = []; main = block (Stm.return (at 1) e ∷ []); keys = (116 ∷ []) ∷ [] }; inputs = (116 ∷ [], 97 ∷ []) ∷ [] }

abbrev t_of : ℕ → Exp
t_of c = form Form.ref c (t (116 ∷ []) (c + 4) ∷ [])

input_row_bytes : job_answer (input_row (t_of 8)) plain 2 ≡ Answered.bytes (97 ∷ [])
unfolding computing
input_row_bytes = refl

input_row_text : wave (input_row (form Form.list 8 (t_of 9 ∷ []))) plain 2 2 ≡ Some (list (vals_of (text (97 ∷ []) ∷ [])))
unfolding computing
input_row_text = refl

input_row_data : job_answer (input_row (star 8 (t_of 9))) plain 2 ≡ Answered.fault (record { kind = FaultKind.NotData; line = 1; col = 8 })
unfolding computing
input_row_data = refl

-- `return -*ref("t");`, stopped at its wait: the `*` is the nearest operator, at step 2
minus_star : stands_at (input_row (Exp.prefix (record { sign = Sign.minus; place = at 8 } ∷ record { sign = Sign.star; place = at 9 } ∷ [])
    (t_of 10))) plain 0 (Task.of main_call) 1 ≡ Some
    (State.run (record {
      frames = record {
        fun = [];
        vars = no_pairs;
        stack = ref (input (116 ∷ [])) ∷ [];
        todo = record { node = 0; step = 1 }
            ∷ record { node = 1; step = 1 } ∷ record { node = 2; step = 2 } ∷ [];
      } ∷ [];
      count = 4;
      waits = 1;
    }))
unfolding computing
minus_star = refl

-- `for (x in [1, 2]) { y = *ref("t"); }`, stopped at its first wait: one element is taken
for_wait : stands_at (record {
  script = record {
    funs = [];
    main =
        block (Stm.for (at 1) (120 ∷ []) (form Form.list 11 (n 1 12 ∷ n 2 15 ∷ [])) (block (Stm.set (121 ∷ []) (at 20) (star 24 (t_of 25)) ∷ []))
        ∷ []);
    keys = (116 ∷ []) ∷ [];
  };
  inputs = (116 ∷ [], 97 ∷ []) ∷ [];
}) plain 0 (Task.of main_call) 1
    ≡ Some (State.run (record {
      frames = record {
        fun = [];
        vars = pair (120 ∷ []) (num (pos 1)) no_pairs;
        stack =
            list (vals_of (num (pos 1) ∷ num (pos 2) ∷ [])) ∷ num (pos 1) ∷ ref (input (116 ∷ [])) ∷ [];
        todo = record { node = 0; step = 1 }
            ∷ record { node = 1; step = 2 } ∷ record { node = 5; step = 1 } ∷ record { node = 6; step = 1 } ∷ record { node = 7; step = 2 } ∷ [];
      } ∷ [];
      count = 9;
      waits = 1;
    }))
unfolding computing
for_wait = refl

-- `function f(n) { if (n == 0) { return 1; } return spawn(f, [n - 1]); } return spawn(f, [99]);`: wave 100 holds a reference, wave 101 none; with 100
-- wave 101 holds one
abbrev waves : ℕ → Job
waves k =
    with_fun (102 ∷ []) ((110 ∷ []) ∷ []) (Stm.cases (at 17)
    (Arms.arm (at 17) (op (name (110 ∷ []) 21) (Oper.compare Order.eq) 23 (n 0 26)) (block (Stm.return (at 31) (n 1 38) ∷ [])) Arms.no_arms)
    Else.no_else ∷ Stm.return (at 43) (form Form.spawn 50
    (name (102 ∷ []) 56 ∷ form Form.list 59 (op (name (110 ∷ []) 60) Oper.minus 62 (n 1 64) ∷ []) ∷ [])) ∷ [])
    (Stm.return (at 70) (form Form.spawn 77 (name (102 ∷ []) 83 ∷ form Form.list 86 (n k 87 ∷ []) ∷ [])) ∷ [])

waves_enough : job_answer (waves 99) plain 1 ≡ Answered.bytes (49 ∷ 10 ∷ [])
unfolding computing
waves_enough = refl

waves_over : job_answer (waves 100) plain 1 ≡ Answered.fault (record { kind = FaultKind.TooDeep; line = 0; col = 0 })
unfolding computing
waves_over = refl

waves_last : wait_at (waves 99) plain 1 Task.show 100 ≡ Some (f 0 ∷ [])
unfolding computing
waves_last = refl

waves_none : wait_at (waves 99) plain 1 Task.show 101 ≡ None
unfolding computing
waves_none = refl

waves_none_over : wait_at (waves 100) plain 1 Task.show 101 ≡ None
unfolding computing
waves_none_over = refl

-- `x = []; for (i in range(0, 99)) { x = [x]; } return len(x);` has depth 100 at the end; with 100 it is too deep at the bracket
nested : ℕ → Job
nested k =
    main_of (Stm.set (120 ∷ []) (at 1) (form Form.list 5 [])
    ∷ Stm.for (at 9) i (form Form.range 19 (n 0 25 ∷ n k 28 ∷ []))
    (block (Stm.set (120 ∷ []) (at 36) (form Form.list 40 (name (120 ∷ []) 41 ∷ [])) ∷ []))
    ∷ Stm.return (at 47) (form Form.len 54 (name (120 ∷ []) 58 ∷ [])) ∷ [])

abbrev end_alone : Option (End ⊥ × ℕ) → Option (End ⊥)
end_alone None = None
end_alone (Some e) = Some e.0

nested_enough : end_alone (ends (nested 99) 0) ≡ Some (End.returned (num (pos 1)))
unfolding computing nested
nested_enough = refl

nested_over : end_alone (ends (nested 100) 0) ≡ Some (End.failed (record { kind = FaultKind.TooDeep; line = 1; col = 40 }))
unfolding computing nested
nested_over = refl

-- `return range(0, 262144);`, and one number less
range_over : ends (main_of (Stm.return (at 1) (form Form.range 8 (n 0 14 ∷ n 262144 17 ∷ [])) ∷ [])) 0 ≡ fails FaultKind.TooLarge 8 4
unfolding computing
range_over = refl

-- `return spawn_exec("x", null, 0);` and `.. 65`
count_low : ends (main_of (Stm.return (at 1) (form Form.spawn_exec 8 (t (120 ∷ []) 19 ∷ Exp.literal Lit.null (at 24) ∷ n 0 30 ∷ [])) ∷ [])) 0
    ≡ fails FaultKind.BadCount 8 5
unfolding computing
count_low = refl

count_high : ends (main_of (Stm.return (at 1) (form Form.spawn_exec 8 (t (120 ∷ []) 19 ∷ Exp.literal Lit.null (at 24) ∷ n 65 30 ∷ [])) ∷ [])) 0
    ≡ fails FaultKind.BadCount 8 5
unfolding computing
count_high = refl

-- `return f(1);` where f has no parameter, and `return 1(2);`
wrong_count : ends (with_fun (102 ∷ []) [] [] (Stm.return (at 1) (calls (n 1 10) 8) ∷ [])) 0 ≡ fails FaultKind.WrongCount 9 4
unfolding computing
wrong_count = refl

no_function : ends (main_of (Stm.return (at 1) (Exp.postfix (n 1 8) (Steps.call (exps (n 2 10 ∷ [])) (at 9) Steps.no_steps)) ∷ [])) 0
    ≡ fails FaultKind.BadKind 9 4
unfolding computing
no_function = refl

-- `x = [1]; x += 2; x[5] = 0;` and `y += 1;`
put_no_index : ends (main_of (Stm.set (120 ∷ []) (at 1) (form Form.list 5 (n 1 6 ∷ [])) ∷ Stm.add (120 ∷ []) (at 10) (at 12) (n 2 15)
    ∷ Stm.put (120 ∷ []) (at 18) (at 19) (n 5 20) (n 0 25) ∷ [])) 0 ≡ fails FaultKind.NoIndex 19 8
unfolding computing
put_no_index = refl

add_unset : ends (main_of (Stm.add (121 ∷ []) (at 1) (at 3) (n 1 6) ∷ [])) 0 ≡ fails FaultKind.Unknown 1 2
unfolding computing
add_unset = refl
