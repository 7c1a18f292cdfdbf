-- Worked rows of functions that capture and of references, computed.
use Rattle.std.proofs.Common.{◌≡◌, ℕ, zero, suc, ◌+◌, ◌/◌, ◌%◌, List, [], ◌∷◌, ◌++◌, length, Option, Some, None, Result, Ok, Err, pos, refl, true}
use Rattle.std.proofs.Common.{replicate}
use Rattle.std.specs.Str.{is_utf8, chars}
use lib.Utf8.{encode}
use Rattle.sky_base.specs.Val.{null, num, text, list, fun, ref, no_vals, val, no_pairs, pair, call, input, known, vals_of, refs_to, size, depth, refs}
use Rattle.sky_base.specs.Op.{grown}
use Rattle.sky_base.specs.Name.{bytes, canon, low_desc}
use Rattle.sky_base.specs.Tree.{Oper, Form, Lit, Exp, Steps, FunDef, Stm}
use Rattle.sky_base.specs.Res.{visits, others, Object}
use Rattle.sky_base.specs.Eval.{closed}
use Rattle.sky_base.specs.See.{Val, Vals, Pairs, Desc, Job, Around, see, round, wave, job_answer, Answered, main_call}
use Rattle.sky_base.specs.Needed.{Task, State, wait_at, stands_at}
use Rattle.sky_base.specs.declared.fault.FaultKind.{FaultKind}
use Rattle.sky_base_law.proofs.Rows.{plain, at, n, b, name, exps, block, op, form, f_of, ends, returns, fails, with_fun}

-- all that jobs compute with
computing : ℕ
unfolding visits others see round wave job_answer is_utf8 chars encode
computing = 0

-- ---- data that is written as JSON has it: numbers below 100 and lists

abbrev digits_if : ℕ → ℕ → List ℕ
digits_if zero k = (48 + k) ∷ []
digits_if (suc d) k = (49 + d) ∷ (48 + k) ∷ []

abbrev mutual
  write_one : Val → List ℕ
  write_one (num (pos k)) = digits_if (k / 10) (k % 10)
  write_one (list vs) = 91 ∷ write_all vs
  write_one _ = []

  write_all : Vals → List ℕ
  write_all no_vals = 93 ∷ []
  write_all (val v no_vals) = write_one v ++ 93 ∷ []
  write_all (val v (val u us)) = write_one v ++ 44 ∷ write_all (val u us)

abbrev writing : Around
writing = record { runs = plain.runs; reads = plain.reads; writes = λ v. Some (write_one v) }

-- ---- scripts with anonymous functions

-- `#0` and `#1`
abbrev first : List ℕ
first = 35 ∷ 48 ∷ []

abbrev second : List ℕ
second = 35 ∷ 49 ∷ []

abbrev a : List ℕ
a = 97 ∷ []

abbrev f : List ℕ
f = 102 ∷ []

abbrev g : List ℕ
g = 103 ∷ []

abbrev k : List ℕ
k = 107 ∷ []

abbrev x : List ℕ
x = 120 ∷ []

abbrev y : List ℕ
y = 121 ∷ []

abbrev z : List ℕ
z = 122 ∷ []

-- a function with the place of its word, the names that it uses, and a body
abbrev lambda : List ℕ → ℕ → List (List ℕ) → List (List ℕ) → List Stm → FunDef
lambda name c params uses body =
    record { name = name; params = params; body = block body; place = at c; uses = uses }

abbrev job_of : List FunDef → List Stm → Job
job_of fs ss = record { script = record { funs = fs; main = block ss; keys = [] }; inputs = [] }

-- a call with the place of the function
abbrev calls : List ℕ → ℕ → List Exp → Exp
calls g c es = Exp.postfix (name g c) (Steps.call (exps es) (at (c + 1)) Steps.no_steps)

-- ---- `k = 10; g = function(x) { return x + k; }; k = 20; return [g(1), spawn(g, [1])];`

abbrev captured_row : Job
captured_row =
    job_of (lambda first 13 (x ∷ []) (k ∷ []) (Stm.return (at 27) (op (name x 34) Oper.plus 36 (name k 38)) ∷ []) ∷ [])
    (Stm.set k (at 1) (n 10 5) ∷ Stm.set g (at 9) (Exp.func first (at 13)) ∷ Stm.set k (at 44) (n 20 48)
    ∷ Stm.return (at 52) (form Form.list 59 (calls g 60 (n 1 62 ∷ []) ∷ form Form.spawn 66 (name g 72 ∷ form Form.list 75 (n 1 76 ∷ []) ∷ [])
    ∷ [])) ∷ [])

-- the spawned call: it holds the 10 of the word, not the 20 of the spawn
abbrev spawned : Desc
spawned = call first (pair k (num (pos 10)) no_pairs) (val (num (pos 1)) no_vals)

captured_row_main : see captured_row plain 1 main_call ≡ Some (Object.data_of (list (vals_of (num (pos 11) ∷ ref spawned ∷ []))))
unfolding computing
captured_row_main = refl

captured_row_wait : wait_at captured_row plain 1 Task.show 1 ≡ Some (spawned ∷ [])
unfolding computing
captured_row_wait = refl

-- `[11,11]`
captured_row_answer : job_answer captured_row writing 2 ≡ Answered.bytes (91 ∷ 49 ∷ 49 ∷ 44 ∷ 49 ∷ 49 ∷ 93 ∷ 10 ∷ [])
unfolding computing
captured_row_answer = refl

-- the call starts with what was captured and the parameter; the 16 nodes of `main` stand before its block
captured_row_start : stands_at captured_row plain 1 (Task.of spawned) 0
    ≡ Some (State.run (record {
      frames = record {
        fun = first;
        vars = pair k (num (pos 10)) (pair x (num (pos 1)) no_pairs);
        stack = [];
        todo =
            record { node = 16; step = 0 } ∷ [];
      } ∷ [];
      count = 0;
      waits = 0;
    }))
unfolding computing
captured_row_start = refl

abbrev spawned_bytes : List ℕ
spawned_bytes =
    76 ∷ 0 ∷ 0 ∷ 0 ∷ 2 ∷ 35 ∷ 48 ∷ 0 ∷ 0 ∷ 0 ∷ 1 ∷ 0 ∷ 0 ∷ 0 ∷ 1 ∷ 107 ∷ 3 ∷ 0 ∷ 0 ∷ 0 ∷ 0 ∷ 0 ∷ 0 ∷ 0 ∷ 10 ∷ 0 ∷ 0 ∷ 0 ∷ 1 ∷ 3 ∷ 0 ∷ 0 ∷ 0 ∷ 0
    ∷ 0 ∷ 0 ∷ 0 ∷ 1 ∷ []

captured_row_bytes : canon (low_desc (λ b. absurd b) (λ d. []) spawned) ≡ spawned_bytes
captured_row_bytes = refl

captured_row_length : length spawned_bytes ≡ 38
captured_row_length = refl

-- ---- what is captured, and when

-- `function f() { return k; } k = 10; return f;`, and the same with `f()`: a named function captures nothing
abbrev named_row : Exp → Job
named_row e =
    with_fun f [] (Stm.return (at 16) (name k 23) ∷ []) (Stm.set k (at 28) (n 10 32) ∷ Stm.return (at 36) e ∷ [])

named_row_value : ends (named_row (name f 43)) 0 ≡ returns (fun f no_pairs) 4
unfolding computing
named_row_value = refl

named_row_call : ends (named_row (calls f 43 [])) 0 ≡ fails FaultKind.Unknown 23 7
unfolding computing
named_row_call = refl

-- `g = function() { return z; }; z = 1; return g();`: z isn't set at the word
unset_row : ends (job_of (lambda first 5 [] (z ∷ []) (Stm.return (at 18) (name z 25) ∷ []) ∷ [])
    (Stm.set g (at 1) (Exp.func first (at 5)) ∷ Stm.set z (at 31) (n 1 35) ∷ Stm.return (at 38) (calls g 45 []) ∷ [])) 0
    ≡ fails FaultKind.Unknown 25 9
unfolding computing
unset_row = refl

-- `k = 1; g = function() { k += 1; return k; }; return [g(), g(), k];`: each body has variables of its own
own_variables_row : ends (job_of (lambda first 12 [] (k ∷ []) (Stm.add k (at 25) (at 27) (n 1 30) ∷ Stm.return (at 33) (name k 40) ∷ []) ∷ [])
    (Stm.set k (at 1) (n 1 5) ∷ Stm.set g (at 8) (Exp.func first (at 12))
    ∷ Stm.return (at 46) (form Form.list 53 (calls g 54 [] ∷ calls g 59 [] ∷ name k 64 ∷ [])) ∷ [])) 0
    ≡ returns (list (vals_of (num (pos 2) ∷ num (pos 2) ∷ num (pos 1) ∷ []))) 19
unfolding computing
own_variables_row = refl

-- `a = 1; f = function() { return a; }; g = function() { return f(); }; a = 2; return g();`: a captured function
captured_function_row : ends (job_of (lambda first 12 [] (a ∷ []) (Stm.return (at 25) (name a 32) ∷ [])
    ∷ lambda second 42 [] (f ∷ []) (Stm.return (at 55) (calls f 62 []) ∷ []) ∷ [])
    (Stm.set a (at 1) (n 1 5) ∷ Stm.set f (at 8) (Exp.func first (at 12)) ∷ Stm.set g (at 38) (Exp.func second (at 42))
    ∷ Stm.set a (at 70) (n 2 74) ∷ Stm.return (at 77) (calls g 84 []) ∷ [])) 0 ≡ returns (num (pos 1)) 16
unfolding computing
captured_function_row = refl

-- `return function() { return 1; };`
function_row_answer : job_answer (job_of (lambda first 8 [] [] (Stm.return (at 21) (n 1 28) ∷ []) ∷ [])
    (Stm.return (at 1) (Exp.func first (at 8)) ∷ [])) plain 1 ≡ Answered.fault (record { kind = FaultKind.NotText; line = 0; col = 0 })
unfolding computing
function_row_answer = refl

-- `function f(x) { return x; } y = spawn(f, [1]); x = spawn(f, [2]); return function() { return [y, x]; };`: what was
-- captured is waited for in the order of the keys
abbrev f_call : ℕ → Desc
f_call k = call f no_pairs (val (num (pos k)) no_vals)

captured_references_row : wait_at
    (job_of (lambda f 10 (x ∷ []) [] (Stm.return (at 17) (name x 24) ∷ [])
    ∷ lambda first 74 [] (y ∷ x ∷ []) (Stm.return (at 87) (form Form.list 94 (name y 95 ∷ name x 98 ∷ [])) ∷ []) ∷ [])
    (Stm.set y (at 29) (f_of 1 33) ∷ Stm.set x (at 48) (f_of 2 52) ∷ Stm.return (at 67) (Exp.func first (at 74)) ∷ [])) plain 1 Task.show 1
    ≡ Some (f_call 2 ∷ f_call 1 ∷ [])
unfolding computing
captured_references_row = refl

captured_references : refs (list (vals_of (fun first (pair x (ref (f_call 2)) (pair y (ref (f_call 1)) no_pairs)) ∷ ref (f_call 3) ∷ [])))
    ≡ f_call 2 ∷ f_call 1 ∷ f_call 3 ∷ []
captured_references = refl

-- ---- sizes and limits

abbrev caught : Pairs
caught = pair k (num (pos 10)) no_pairs

named_size : size {N = ⊥} (fun f no_pairs) ≡ 2
named_size = refl

captured_size : size (fun first caught) ≡ 5
captured_size = refl

empty_depth : depth {N = ⊥} (fun first no_pairs) ≡ 1
empty_depth = refl

captured_depth : depth (fun second (pair f (fun first caught) no_pairs)) ≡ 3
captured_depth = refl

abbrev refusal : Result Val FaultKind → Option FaultKind
refusal (Ok v) = None
refusal (Err e) = Some e

-- null in so many lists
nest : ℕ → Val
nest zero = null
nest (suc j) = list (val (nest j) no_vals)

-- a function that captures null in so many lists, and a text of so many bytes
closing : ℕ → ℕ → Option FaultKind
closing j l =
    refusal (closed (Some (lambda first 1 [] (x ∷ y ∷ []) [])) first (pair x (nest j) (pair y (text (replicate l 97)) no_pairs)))

-- depth 100 and size 262,144
closing_enough : closing 98 262039 ≡ None
unfolding closing nest
closing_enough = refl

closing_large : closing 98 262040 ≡ Some FaultKind.TooLarge
unfolding closing nest
closing_large = refl

closing_deep : closing 99 0 ≡ Some FaultKind.TooDeep
unfolding closing nest
closing_deep = refl

-- depth is tried before size
closing_both : closing 99 262144 ≡ Some FaultKind.TooDeep
unfolding closing nest
closing_both = refl

-- `f = null; while (true) { f = function() { return f; }; }`: one more function around it in each turn
deeper_row : ends (job_of (lambda first 30 [] (f ∷ []) (Stm.return (at 43) (name f 50) ∷ []) ∷ [])
    (Stm.set f (at 1) (Exp.literal Lit.null (at 5)) ∷ Stm.while (at 11) (b true 18) (block (Stm.set f (at 26) (Exp.func first (at 30)) ∷ []))
    ∷ [])) 0 ≡ fails FaultKind.TooDeep 30 303
unfolding computing
deeper_row = refl

-- a list of 8,191 references, and one of 8,192
references : ℕ → Option FaultKind
references m = refusal (grown (list (refs_to (replicate m (input x)))) (ref (input x)))

references_enough : references 8190 ≡ None
unfolding references
references_enough = refl

references_over : references 8191 ≡ Some FaultKind.TooLarge
unfolding references
references_over = refl

-- ---- bytes

-- a named function, one that captured, one that captured nothing
named_bytes : bytes (fun f no_pairs) ≡ 7 ∷ 0 ∷ 0 ∷ 0 ∷ 1 ∷ 102 ∷ []
named_bytes = refl

captured_bytes : bytes (fun first (pair k (num (pos 10)) no_pairs)) ≡ 10 ∷ 0 ∷ 0 ∷ 0 ∷ 2 ∷ 35 ∷ 48 ∷ 0 ∷ 0 ∷ 0 ∷ 1 ∷ 0 ∷ 0 ∷ 0 ∷ 1 ∷ 107 ∷ 3 ∷ 0
    ∷ 0 ∷ 0 ∷ 0 ∷ 0 ∷ 0 ∷ 0 ∷ 10 ∷ []
captured_bytes = refl

empty_bytes : bytes (fun first no_pairs) ≡ 10 ∷ 0 ∷ 0 ∷ 0 ∷ 2 ∷ 35 ∷ 48 ∷ 0 ∷ 0 ∷ 0 ∷ 0 ∷ []
empty_bytes = refl

-- references by names of 20 and of 32 bytes; a call of a named function
short_bytes : bytes (ref (known (replicate 20 1))) ≡ 8 ∷ replicate 20 1
short_bytes = refl

long_bytes : bytes (ref (known (replicate 32 1))) ≡ 9 ∷ replicate 32 1
long_bytes = refl

named_call_bytes : canon (call f no_pairs (val (num (pos 3)) no_vals)) ≡ 67 ∷ 0 ∷ 0 ∷ 0 ∷ 1 ∷ 102 ∷ 0 ∷ 0 ∷ 0 ∷ 1 ∷ 3 ∷ 0 ∷ 0 ∷ 0 ∷ 0 ∷ 0 ∷ 0 ∷ 0
    ∷ 3 ∷ []
named_call_bytes = refl
