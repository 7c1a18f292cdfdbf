use Rattle.std.proofs.Common.{◌≡◌, ◌==◌, ◌∙◌, sym, arith, length, true, false, eqb-true, eq-eqb}
use Rattle.std.specs.Vec.{vec_len}
use Rattle.ciel_want.proofs.WantAnswers.{met_is, none_runs, one_runs, ring_apart, ring_is}
use Rattle.ciel_want.proofs.want.circle.Goals as goal

pub returns-then-is_empty-clause-circle : goal.returns-then-is_empty-clause-circle
returns-then-is_empty-clause-circle g c =
    ring_is c.args.main.now c.args.table.now c.requires.whole c.in_ok-names.names c.in_ok-names.ensures.circle

pub returns-then-is_empty-clause-distinct : goal.returns-then-is_empty-clause-distinct
returns-then-is_empty-clause-distinct g c =
    ring_apart c.args.main.now c.args.table.now c.requires.whole c.in_ok-names.names c.in_ok-names.ensures.circle

pub returns-then-is_empty-clause-stuck : goal.returns-then-is_empty-clause-stuck
returns-then-is_empty-clause-stuck g c =
    let ready = c.in_ok-ready.ready in
    let v : vec_len ready ≡ 0 = eqb-true (vec_len ready) 0 (sym c.is_empty.ensures ∙ c.if-is_empty.true) in
    none_runs c.args.main.now c.args.table.now c.requires.whole ready.items (omega (arith, v, ready.ok.0)) c.in_ok-ready.ensures.runnable
    c.in_ok-names.names

pub returns-then-is_empty-clause-none : goal.returns-then-is_empty-clause-none
returns-then-is_empty-clause-none g c =
    met_is c.args.main.now c.args.table.now c.requires.whole c.in_ok-names.names c.in_ok-names.ensures.met

pub returns-clause-none : goal.returns-clause-none
returns-clause-none g c =
    let ready = c.in_ok-ready.ready in
    let some : length ready.items ≡ 0 → ⊥ = λ z. let v : vec_len ready ≡ 0 = omega (arith, z, ready.ok.0) in
    let b : (vec_len ready == 0) ≡ true = eq-eqb (vec_len ready) 0 v in
    let e : true ≡ false = sym b ∙ (sym c.is_empty.ensures ∙ c.if-is_empty.false) in
    cc in
    one_runs c.args.main.now c.args.table.now c.requires.whole ready.items some c.in_ok-ready.ensures.runnable
