-- Worked rows of whole jobs, over a kit of three executors.
use Rattle.std.proofs.Common.{◌≡◌, ℕ, ◌+◌, ◌-◌, ◌/◌, List, [], ◌∷◌, ◌++◌, Option, Some, None, Result, Ok, Err, pos, refl, Bool, true, false}
use Rattle.std.specs.Str.{is_utf8, chars}
use lib.Utf8.{encode}
use Rattle.sky_base.specs.Val.{truth, num, same_text}
use Rattle.sky_base.specs.Op.{Answer}
use Rattle.sky_base.specs.Tree.{Place, Lit, Oper, Sign, Form, Exp, Exps, Links, Steps, Stm, Stms}
use Rattle.sky_base.specs.Res.{visits, others}
use Rattle.sky_base.specs.See.{Val, Job, Around, see, round, wave, job_answer, Answered}
use Rattle.sky_base.specs.declared.fault.FaultKind.{FaultKind}

abbrev half_name : List ℕ
half_name = 104 ∷ 97 ∷ 108 ∷ 102 ∷ []

abbrev same_name : List ℕ
same_name = 115 ∷ 97 ∷ 109 ∷ 101 ∷ []

abbrev true_line : List ℕ
true_line = 116 ∷ 114 ∷ 117 ∷ 101 ∷ 10 ∷ []

abbrev false_line : List ℕ
false_line = 102 ∷ 97 ∷ 108 ∷ 115 ∷ 101 ∷ 10 ∷ []

-- one digit and a line feed
abbrev half_of : List (List ℕ) → Result (List (List ℕ)) FaultKind
half_of ((d ∷ rest) ∷ []) = Ok (((48 + (d - 48) / 2) ∷ 10 ∷ []) ∷ [])
half_of _ = Err FaultKind.BadLine

abbrev line_if : Bool → List ℕ
line_if true = true_line
line_if false = false_line

abbrev same_of : List (List ℕ) → Result (List (List ℕ)) FaultKind
same_of (a ∷ b ∷ []) = Ok (line_if (same_text a b) ∷ [])
same_of _ = Err FaultKind.BadKind

abbrev pick : {A : Type 0} → Bool → A → A → A
pick true a b = a
pick false a b = b

abbrev join_all : List (List ℕ) → List ℕ
join_all [] = []
join_all (b ∷ bs) = b ++ join_all bs

abbrev run : List ℕ → List (List ℕ) → Result (List (List ℕ)) FaultKind
run x bs = pick (same_text x half_name) (half_of bs) (pick (same_text x same_name) (same_of bs) (Ok (join_all bs ∷ [])))

abbrev read : List ℕ → Answer ⊥
read b = pick (same_text b true_line) (Ok (truth true)) (pick (same_text b false_line) (Ok (truth false)) (Err FaultKind.NotData))

abbrev write : Val → Option (List ℕ)
write (num (pos n)) = Some ((48 + n) ∷ [])
write _ = None

abbrev kit : Around
kit = record { runs = λ x a bs n. run x bs; reads = read; writes = write }

abbrev at : ℕ → Place
at c = record { line = 1; col = c }

abbrev n : ℕ → ℕ → Exp
n k c = Exp.literal (Lit.num (pos k)) (at c)

abbrev t : List ℕ → ℕ → Exp
t k c = Exp.literal (Lit.text k) (at c)

abbrev name : List ℕ → ℕ → Exp
name x c = Exp.name x (at c)

abbrev exps : List Exp → Exps
exps [] = Exps.no_exps
exps (e ∷ es) = Exps.exp e (exps es)

abbrev block : List Stm → Stms
block [] = Stms.no_stms
block (s ∷ ss) = Stms.stm s (block ss)

abbrev form : Form → ℕ → List Exp → Exp
form o c es = Exp.parts o (at c) (exps es)

abbrev first : Exp → ℕ → Exp
first e c = Exp.postfix e (Steps.index (n 0 (c + 1)) (at c) Steps.no_steps)

abbrev executes : List ℕ → ℕ → List Exp → Exp
executes x c es = first (form Form.spawn_exec c
    (t x (c + 11) ∷ form Form.dict (c + 19) (t (105 ∷ 110 ∷ []) (c + 20) ∷ form Form.list (c + 26) es ∷ []) ∷ n 1 (c + 40) ∷ [])) (c + 42)

abbrev curr : List ℕ
curr = 99 ∷ []

abbrev prev : List ℕ
prev = 112 ∷ []

computing : ℕ
unfolding visits others see round wave job_answer is_utf8 chars encode
computing = 0

-- `curr = ref("n"); do { prev = curr; curr = spawn_exec("half", {"in": [prev]}, 1)[0]; } while (!*spawn_exec("same", {"in": [prev, curr]}, 1)[0]);
-- return curr;` with n = `5` LF: the values are 5, 2, 1, 0, 0
fixed_point_row : Job
fixed_point_row = record {
  script = record {
    funs = [];
    main =
        block (Stm.set curr (at 1) (form Form.ref 8 (t (110 ∷ []) 12 ∷ []))
        ∷ Stm.repeat (at 20) (block (Stm.set prev (at 25) (name curr 30) ∷ Stm.set curr (at 35) (executes half_name 40 (name prev 66 ∷ [])) ∷ []))
        (Exp.prefix (record { sign = Sign.not; place = at 100 } ∷ record { sign = Sign.star; place = at 101 } ∷ [])
        (executes same_name 102 (name prev 128 ∷ name curr 134 ∷ []))) ∷ Stm.return (at 160) (name curr 167) ∷ []);
    keys = (110 ∷ []) ∷ [];
  };
  inputs = (110 ∷ [], 53 ∷ 10 ∷ []) ∷ [];
}

fixed_point_row_answer : job_answer fixed_point_row kit 8 ≡ Answered.bytes (48 ∷ 10 ∷ [])
unfolding computing fixed_point_row
fixed_point_row_answer = refl

-- `function p() { return 1 / 0; } function q() { return [][0]; } return spawn_exec("cat", {"in": [spawn(p, []), spawn(q, [])]}, 1)[0];`, and the two
-- spawns exchanged
abbrev spawns : List ℕ → ℕ → Exp
spawns f c = form Form.spawn c (name f (c + 6) ∷ form Form.list (c + 9) [] ∷ [])

abbrev p : List ℕ
p = 112 ∷ []

abbrev q : List ℕ
q = 113 ∷ []

two_faults_row : List Exp → Job
two_faults_row es = record {
  script = record {
    funs =
        record {
          name = p;
          params = [];
          body = block
              (Stm.return (at 16) (Exp.chain (n 1 23) (Links.link Oper.over (at 25) (n 0 27) Links.no_links)) ∷ []);
          place = at 10;
          uses = [];
        }
        ∷ record { name = q; params = []; body = block (Stm.return (at 47) (first (form Form.list 54 []) 56) ∷ []); place = at 41; uses = [] } ∷ [];
    main = block (Stm.return (at 62) (executes (99 ∷ 97 ∷ 116 ∷ []) 69 es) ∷ []);
    keys = [];
  };
  inputs = [];
}

two_faults_row_p : job_answer (two_faults_row (spawns p 100 ∷ spawns q 114 ∷ [])) kit 4
    ≡ Answered.fault (record { kind = FaultKind.DivZero; line = 1; col = 25 })
unfolding computing two_faults_row
two_faults_row_p = refl

two_faults_row_q : job_answer (two_faults_row (spawns q 100 ∷ spawns p 114 ∷ [])) kit 4
    ≡ Answered.fault (record { kind = FaultKind.NoIndex; line = 1; col = 56 })
unfolding computing two_faults_row
two_faults_row_q = refl

-- with too little fuel there is no answer yet
two_faults_row_short : job_answer (two_faults_row (spawns p 100 ∷ spawns q 114 ∷ [])) kit 1 ≡ Answered.not_yet
unfolding computing two_faults_row
two_faults_row_short = refl
