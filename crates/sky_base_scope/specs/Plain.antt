-- What a run does where the objects of some descriptions are known. It is the walk of its meaning, told
-- without the numbers of nodes, and with the number of a description in each reference to it.
use Rattle.std.specs.Prelude.{ℕ, zero, suc, List, [], ◌∷◌, length, reverse, Bool, true, false, ◌&&◌, Option, Some, None, Ok, Err, nat_eq, nat_lt, pos}
use Rattle.std.specs.Prelude.{negsuc}
use Rattle.sky_base.specs.Val as logic
use Rattle.sky_base.specs.Val.{null, truth, num, text, list, fun, ref, no_vals, val, no_pairs, add_val, call, input, known, count, refs_to}
use Rattle.sky_base.specs.Op as op
use Rattle.sky_base.specs.Op.{limited, find, put, negated, opposite, len, keys, has, range, grown, dict_from}
use Rattle.sky_base.specs.Tree.{Place, nowhere, Junction, Sign, SignAt, Form, Exp, Exps, Links, Ands, Steps, Stm, Stms, Arms, Else, FunDef, Script}
use Rattle.sky_base.specs.Res.{visits, Object, St, fault_at, with_vars, counted}
use Rattle.sky_base.specs.Eval.{find_fun, is_one_of, Body, body_of, bind, set_var, lit_val, named, closed, oper, outputs, truth_of}
use Rattle.sky_base.specs.See.{slot}
use Rattle.sky_base.specs.declared.fault.FaultKind.{FaultKind}
use Rattle.sky_base.specs.declared.fault.Fault.{Fault}
use Rattle.sky_base_known.specs.Walk.{Row, Obj, learn_to, known_of, Seen, look}
use Rattle.sky_base_known.specs.Number.{index_of}

abbrev pub Val : Type 0
Val = logic.Val (List ℕ)

abbrev pub Vals : Type 0
Vals = logic.Vals (List ℕ)

abbrev pub Pairs : Type 0
Pairs = logic.Pairs (List ℕ)

abbrev pub Vars : Type 0
Vars = St (List ℕ)

abbrev pub Answer : Type 0
Answer = op.Answer (List ℕ)

-- what a run stands on: its script, how bytes are read as data, and the objects that are known
pub record Ground : Type 0 where
  pub script : Script
  pub reads : List ℕ → Answer
  pub objects : List (Option Obj)

-- why a run stops before its end
pub data Cutoff : Type 0 where
  fault : Fault → Cutoff
  waits : Row → Cutoff
  full : Cutoff

-- what a piece of script comes to, and the descriptions that are held then
pub data Out : Type 0 where
  goes : List Row → Vars → Out
  got : Val → List Row → Vars → Out
  returned : Val → List Row → Vars → Out
  -- the values of several expressions
  listed : Vals → List Row → Vars → Out
  cut : Cutoff → List Row → Out

-- ---- going on; no expression, statement or body comes to a list of values, which stops these

abbrev pub on_got : Out → (Val → List Row → Vars → Out) → Out
on_got (Out.goes rows st) k = Out.goes rows st
on_got (Out.got v rows st) k = k v rows st
on_got (Out.returned v rows st) k = Out.returned v rows st
on_got (Out.listed vs rows st) k = Out.cut Cutoff.full rows
on_got (Out.cut c rows) k = Out.cut c rows

abbrev pub on_goes : Out → (List Row → Vars → Out) → Out
on_goes (Out.goes rows st) k = k rows st
on_goes (Out.got v rows st) k = Out.got v rows st
on_goes (Out.returned v rows st) k = Out.returned v rows st
on_goes (Out.listed vs rows st) k = Out.cut Cutoff.full rows
on_goes (Out.cut c rows) k = Out.cut c rows

abbrev pub on_listed : Out → (Vals → List Row → Vars → Out) → Out
on_listed (Out.goes rows st) k = Out.goes rows st
on_listed (Out.got v rows st) k = Out.got v rows st
on_listed (Out.returned v rows st) k = Out.returned v rows st
on_listed (Out.listed vs rows st) k = k vs rows st
on_listed (Out.cut c rows) k = Out.cut c rows

-- a call's value, with the caller's variables, from its body's end: without `return` it is null
abbrev pub value_of : Pairs → Out → Out
value_of xs (Out.goes rows st) = Out.got null rows (with_vars xs st)
value_of xs (Out.got v rows st) = Out.got v rows (with_vars xs st)
value_of xs (Out.returned v rows st) = Out.got v rows (with_vars xs st)
value_of xs (Out.listed vs rows st) = Out.cut Cutoff.full rows
value_of xs (Out.cut c rows) = Out.cut c rows

abbrev pub fails : FaultKind → Place → List Row → Out
fails k p rows = Out.cut (Cutoff.fault (fault_at k p)) rows

abbrev pub visited : Bool → Place → List Row → Vars → (Vars → Out) → Out
visited true p rows st k = k (counted st)
visited false p rows st k = fails FaultKind.TooLong p rows

-- one visit more, or TooLong at this place
abbrev pub visit : Place → List Row → Vars → (Vars → Out) → Out
visit p rows st k = visited (nat_lt st.count visits) p rows st k

-- an operator's value, or its fault at this place
abbrev pub answer : Answer → Place → List Row → (Val → Out) → Out
answer (Ok v) p rows k = k v
answer (Err e) p rows k = fails e p rows

-- by a truth value, or BadKind at this place
abbrev pub decide : Val → Place → List Row → Out → Out → Out
decide (truth true) p rows on off = on
decide (truth false) p rows on off = off
decide _ p rows on off = fails FaultKind.BadKind p rows

-- whether a left value decides a chain; else it goes on
abbrev pub joins : Junction → Val → Place → List Row → Vars → Out → Out
joins Junction.both v p rows st more = decide v p rows more (Out.got (truth false) rows st)
joins Junction.either v p rows st more = decide v p rows (Out.got (truth true) rows st) more

-- ---- descriptions

abbrev pub learned : Option (List Row) → List Row → Row → (Row → List Row → Out) → Out
learned None rows d k = Out.cut Cutoff.full rows
learned (Some more) rows d k = k (known (slot (index_of d more))) more

-- the name of a description, which is held from then on
abbrev pub learn : Row → List Row → (Row → List Row → Out) → Out
learn d rows k = learned (learn_to rows d) rows d k

abbrev pub learn_all : List Row → List Row → (List Row → List Row → Out) → Out
learn_all [] rows k = k [] rows
learn_all (d ∷ ds) rows k = learn d rows (λ n more. learn_all ds more (λ ns last. k (n ∷ ns) last))

abbrev pub make_one : Row → List Row → Vars → Out
make_one d rows st = learn d rows (λ n more. Out.got (ref n) more st)

-- ---- forms that are visited after their parts

abbrev pub items : Vals → List Val
items no_vals = []
items (val v vs) = v ∷ items vs

abbrev pub with_one : Vals → Place → List Row → (Val → Out) → Out
with_one (val a no_vals) p rows k = k a
with_one _ p rows k = fails FaultKind.BadKind p rows

abbrev pub with_two : Vals → Place → List Row → (Val → Val → Out) → Out
with_two (val a (val b no_vals)) p rows k = k a b
with_two _ p rows k = fails FaultKind.BadKind p rows

abbrev pub with_three : Vals → Place → List Row → (Val → Val → Val → Out) → Out
with_three (val a (val b (val c no_vals))) p rows k = k a b c
with_three _ p rows k = fails FaultKind.BadKind p rows

abbrev pub spawn_if : Bool → Row → Place → List Row → Vars → Out
spawn_if false d p rows st = fails FaultKind.WrongCount p rows
spawn_if true d p rows st = make_one d rows st

abbrev pub spawn_fun : Option FunDef → List ℕ → Pairs → Vals → Place → List Row → Vars → Out
spawn_fun None f c vs p rows st = fails FaultKind.BadKind p rows
spawn_fun (Some d) f c vs p rows st = spawn_if (nat_eq (length d.params) (count vs)) (call f c vs) p rows st

abbrev pub outputs_if : Bool → List Row → Place → List Row → (List Row → List Row → Out) → Out
outputs_if false ds p rows k = fails FaultKind.BadCount p rows
outputs_if true ds p rows k = learn_all ds rows k

abbrev pub outputs_count : List ℕ → Val → Val → Place → List Row → (List Row → List Row → Out) → Out
outputs_count x a (num (pos n)) p rows k = outputs_if (nat_lt 0 n && nat_lt n 65) (outputs x a n 0 n) p rows k
outputs_count x a (num (negsuc n)) p rows k = fails FaultKind.BadCount p rows
outputs_count x a _ p rows k = fails FaultKind.BadKind p rows

abbrev pub outputs_of : Val → Val → Val → Place → List Row → (List Row → List Row → Out) → Out
outputs_of (text x) a n p rows k = outputs_count x a n p rows k
outputs_of _ a n p rows k = fails FaultKind.BadKind p rows

-- the first of these that is a fault; else the list of the references
abbrev pub exec_end : List Row → List Obj → List Row → Vars → Out
exec_end ds [] rows st = Out.got (list (refs_to ds)) rows st
exec_end ds (Object.bytes b ∷ os) rows st = exec_end ds os rows st
exec_end ds (Object.data_of v ∷ os) rows st = exec_end ds os rows st
exec_end ds (Object.fault f ∷ os) rows st = Out.cut (Cutoff.fault f) rows

abbrev pub exec_seen : Seen → List Row → List Row → Vars → Out
exec_seen (Seen.lacks d) ds rows st = Out.cut (Cutoff.waits d) rows
exec_seen (Seen.all os) ds rows st = exec_end ds os rows st

abbrev pub input_if : Bool → List ℕ → Place → List Row → Vars → Out
input_if false k p rows st = fails FaultKind.Unknown p rows
input_if true k p rows st = make_one (input k) rows st

abbrev pub add_to : Option Val → List ℕ → Place → Place → Val → List Row → Vars → Out
add_to None x q p e rows st = fails FaultKind.Unknown q rows
add_to (Some v) x q p e rows st = answer (grown v e) p rows (λ u. Out.goes rows (set_var x u st))

abbrev pub put_in : Option Val → List ℕ → Place → Place → Val → Val → List Row → Vars → Out
put_in None x q p i e rows st = fails FaultKind.Unknown q rows
put_in (Some v) x q p i e rows st = answer (op.set_at v i e) p rows (λ u. Out.goes rows (set_var x u st))

-- ---- loops

abbrev pub turns : ℕ → Place → (List Row → Vars → Out) → (List Row → Vars → Out) → List Row → Vars → Out
turns zero p test run rows st = fails FaultKind.TooLong p rows
turns (suc f) p test run rows st =
    on_got (test rows st) (λ v more s. decide v p more (on_goes (run more s) (λ last t. turns f p test run last t)) (Out.goes more s))

abbrev pub repeats : ℕ → Place → (List Row → Vars → Out) → (List Row → Vars → Out) → List Row → Vars → Out
repeats zero p run test rows st = fails FaultKind.TooLong p rows
repeats (suc f) p run test rows st =
    on_goes (run rows st) (λ more s. on_got (test more s) (λ v last t. decide v p last (repeats f p run test last t) (Out.goes last t)))

abbrev pub each : Vals → Place → List ℕ → (List Row → Vars → Out) → List Row → Vars → Out
each no_vals p x run rows st = Out.goes rows st
each (val v vs) p x run rows st =
    visit p rows st (λ s. on_goes (run rows (set_var x v s)) (λ more t. each vs p x run more t))

abbrev pub each_of : Val → Place → List ℕ → (List Row → Vars → Out) → List Row → Vars → Out
each_of (list vs) p x run rows st = each vs p x run rows st
each_of _ p x run rows st = fails FaultKind.BadKind p rows

module _ (g : Ground) where
  abbrev pub spawn_list : List ℕ → Pairs → Val → Place → List Row → Vars → Out
  spawn_list f c (list vs) p rows st = spawn_fun (find_fun f g.script.funs) f c vs p rows st
  spawn_list f c _ p rows st = fails FaultKind.BadKind p rows

  abbrev pub spawned : Val → Val → Place → List Row → Vars → Out
  spawned (fun f c) a p rows st = spawn_list f c a p rows st
  spawned _ a p rows st = fails FaultKind.BadKind p rows

  abbrev pub exec_ask : List Row → List Row → Vars → Out
  exec_ask ds rows st = exec_seen (look (known_of g.objects) ds) ds rows st

  abbrev pub input_of : Val → Place → List Row → Vars → Out
  input_of (text k) p rows st = input_if (is_one_of k g.script.keys) k p rows st
  input_of _ p rows st = fails FaultKind.BadKind p rows

  -- what a form makes of its parts, when it has been visited
  abbrev pub formed : Form → Vals → Place → List Row → Vars → Out
  formed Form.list vs p rows st = answer (limited (list vs)) p rows (λ v. Out.got v rows st)
  formed Form.dict vs p rows st = answer (dict_from (items vs) no_pairs) p rows (λ v. Out.got v rows st)
  formed Form.spawn vs p rows st = with_two vs p rows (λ f a. spawned f a p rows st)
  formed Form.spawn_exec vs p rows st =
      with_three vs p rows (λ x a c. outputs_of x a c p rows (λ ds more. Out.got (list (refs_to ds)) more st))
  formed Form.exec vs p rows st = with_three vs p rows (λ x a c. outputs_of x a c p rows (λ ds more. exec_ask ds more st))
  formed Form.ref vs p rows st = with_one vs p rows (λ k. input_of k p rows st)
  formed Form.len vs p rows st = with_one vs p rows (λ v. answer (len v) p rows (λ u. Out.got u rows st))
  formed Form.keys vs p rows st = with_one vs p rows (λ v. answer (keys v) p rows (λ u. Out.got u rows st))
  formed Form.has vs p rows st = with_two vs p rows (λ d k. answer (has d k) p rows (λ u. Out.got u rows st))
  formed Form.range vs p rows st = with_two vs p rows (λ a b. answer (range a b) p rows (λ u. Out.got u rows st))

  -- ---- signs, the nearest first

  abbrev pub on_object : Option Obj → Row → Place → List Row → (Val → Out) → Out
  on_object None d p rows k = Out.cut (Cutoff.waits d) rows
  on_object (Some (Object.bytes b)) d p rows k = answer (g.reads b) p rows k
  on_object (Some (Object.data_of v)) d p rows k = k v
  on_object (Some (Object.fault f)) d p rows k = Out.cut (Cutoff.fault f) rows

  abbrev pub deref : Val → Place → List Row → (Val → Out) → Out
  deref (ref d) p rows k = on_object (known_of g.objects d) d p rows k
  deref _ p rows k = fails FaultKind.BadKind p rows

  abbrev pub signed : Sign → Val → Place → List Row → (Val → Out) → Out
  signed Sign.not v p rows k = answer (opposite v) p rows k
  signed Sign.minus v p rows k = answer (negated v) p rows k
  signed Sign.star v p rows k = deref v p rows k

  abbrev pub signs : List SignAt → Val → List Row → Vars → Out
  signs [] v rows st = Out.got v rows st
  signs (o ∷ ss) v rows st = visit o.place rows st (λ s. signed o.sign v o.place rows (λ u. signs ss u rows s))

  -- ---- calls

  abbrev pub call_if : Bool → Place → List Row → Out → Out
  call_if false p rows o = fails FaultKind.WrongCount p rows
  call_if true p rows o = o

  abbrev pub call_fun : Option FunDef → Vals → Place → List Row → Out → Out
  call_fun None vs p rows o = fails FaultKind.BadKind p rows
  call_fun (Some d) vs p rows o = call_if (nat_eq (length d.params) (count vs)) p rows o

  abbrev pub called : Val → Vals → Place → List Row → (List ℕ → Pairs → Out) → Out
  called (fun f c) vs p rows k = call_fun (find_fun f g.script.funs) vs p rows (k f c)
  called _ vs p rows k = fails FaultKind.BadKind p rows

  -- what a body does on what its function captured and on its arguments, after so many visits: handed in
  module _ (body : List ℕ → Pairs → Vals → Place → List Row → ℕ → Out) where
    -- the call of a value on its arguments, visited before
    abbrev pub opened : Val → Vals → Place → List Row → Vars → Out
    opened v vs p rows st = called v vs p rows (λ f c. value_of st.vars (body f c vs p rows st.count))

    abbrev mutual
      pub exp : Exp → List Row → Vars → Out
      exp (Exp.literal v p) rows st = visit p rows st (λ s. answer (limited (lit_val v)) p rows (λ u. Out.got u rows s))
      exp (Exp.name x p) rows st = visit p rows st (λ s. answer (named (find x s.vars) x g.script.funs) p rows (λ u. Out.got u rows s))
      exp (Exp.func x p) rows st = visit p rows st (λ s. answer (closed (find_fun x g.script.funs) x s.vars) p rows (λ u. Out.got u rows s))
      exp (Exp.parens e) rows st = exp e rows st
      exp (Exp.parts o p es) rows st =
          on_listed (values es no_vals rows st) (λ vs more s. visit p more s (λ t. formed o vs p more t))
      exp (Exp.chain e ls) rows st = on_got (exp e rows st) (λ v more s. links ls v more s)
      exp (Exp.logic j e ls) rows st = on_got (exp e rows st) (λ v more s. ands ls j nowhere v more s)
      exp (Exp.prefix ss e) rows st = on_got (exp e rows st) (λ v more s. signs (reverse ss) v more s)
      exp (Exp.postfix e ss) rows st = on_got (exp e rows st) (λ v more s. steps ss v more s)

      -- the values of expressions, after those so far
      pub values : Exps → Vals → List Row → Vars → Out
      values Exps.no_exps vs rows st = Out.listed vs rows st
      values (Exps.exp e es) vs rows st = on_got (exp e rows st) (λ v more s. values es (add_val vs v) more s)

      -- the operators of a chain, with the value so far
      pub links : Links → Val → List Row → Vars → Out
      links Links.no_links v rows st = Out.got v rows st
      links (Links.link o p e ls) v rows st =
          on_got (exp e rows st) (λ x more s. visit p more s (λ t. answer (oper o v x) p more (λ y. links ls y more t)))

      -- the operators after an operand with this value, before which the operator at q stands
      pub ands : Ands → Junction → Place → Val → List Row → Vars → Out
      ands Ands.no_ands j q v rows st = answer (truth_of v) q rows (λ u. Out.got u rows st)
      ands (Ands.and p e ls) j q v rows st =
          visit p rows st (λ s. joins j v p rows s (on_got (exp e rows s) (λ x more t. ands ls j p x more t)))

      -- the indices and calls, with the value so far
      pub steps : Steps → Val → List Row → Vars → Out
      steps Steps.no_steps v rows st = Out.got v rows st
      steps (Steps.index e p ss) v rows st =
          on_got (exp e rows st) (λ x more s. visit p more s (λ t. answer (op.index v x) p more (λ y. steps ss y more t)))
      steps (Steps.call es p ss) v rows st =
          on_listed (values es no_vals rows st) (λ vs more s. visit p more s (λ t. on_got (opened v vs p more t) (λ y last u. steps ss y last u)))

    abbrev mutual
      pub stm : Stm → List Row → Vars → Out
      stm (Stm.set x p e) rows st = visit p rows st (λ s. on_got (exp e rows s) (λ v more t. Out.goes more (set_var x v t)))
      stm (Stm.add x q p e) rows st = visit p rows st (λ s. on_got (exp e rows s) (λ v more t. add_to (find x t.vars) x q p v more t))
      stm (Stm.put x q p i e) rows st =
          visit p rows st (λ s. on_got (exp i rows s) (λ v more t. on_got (exp e more t) (λ y last u. put_in (find x u.vars) x q p v y last u)))
      stm (Stm.return p e) rows st = visit p rows st (λ s. on_got (exp e rows s) (λ v more t. Out.returned v more t))
      stm (Stm.leave p) rows st = visit p rows st (λ s. Out.returned null rows s)
      stm (Stm.cases p all els) rows st = visit p rows st (λ s. arms all (λ more t. other els more t) rows s)
      stm (Stm.while p e b) rows st = visit p rows st (λ s. turns (suc visits) p (exp e) (stms b) rows s)
      stm (Stm.repeat p b e) rows st = visit p rows st (λ s. repeats (suc visits) p (stms b) (exp e) rows s)
      stm (Stm.for p x e b) rows st =
          visit p rows st (λ s. on_got (exp e rows s) (λ v more t. each_of v p x (stms b) more t))
      stm (Stm.just p e) rows st = visit p rows st (λ s. on_got (exp e rows s) (λ v more t. Out.goes more t))

      pub stms : Stms → List Row → Vars → Out
      stms Stms.no_stms rows st = Out.goes rows st
      stms (Stms.stm a more) rows st = on_goes (stm a rows st) (λ last s. stms more last s)

      -- the arms, and then what follows them
      pub arms : Arms → (List Row → Vars → Out) → List Row → Vars → Out
      arms Arms.no_arms go rows st = go rows st
      arms (Arms.arm p e b more) go rows st =
          on_got (exp e rows st) (λ v now s. decide v p now (stms b now s) (arms more go now s))

      pub other : Else → List Row → Vars → Out
      other Else.no_else rows st = Out.goes rows st
      other (Else.otherwise b) rows st = stms b rows st

  -- a body on what its function captured and on its arguments, where its block is run by `run`
  abbrev pub in_body : Option Body → Pairs → Vals → Place → List Row → ℕ → (Stms → List Row → Vars → Out) → Out
  in_body None c vs p rows n run = fails FaultKind.BadKind p rows
  in_body (Some b) c vs p rows n run = run b.block rows (record { vars = bind b.params vs c; count = n })

  -- the body of a function, where so many bodies may still be opened, this one included
  abbrev pub body_at : ℕ → List ℕ → Pairs → Vals → Place → List Row → ℕ → Out
  body_at zero f c vs p rows n = fails FaultKind.TooDeep p rows
  body_at (suc d) f c vs p rows n = in_body (body_of f g.script) c vs p rows n (stms (body_at d))
