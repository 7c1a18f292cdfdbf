-- What is refused first of the rest is what is refused first of all, and what comes before it there comes before it here.
use Rattle.std.proofs.Common.{◌≡◌, ◌+◌, ◌∷◌, drop, sym, ap, ◌∙◌, subst}
use Rattle.std.proofs.lemmas.List.{drop_more}
use Rattle.ciel_master_board.specs.Reports.{AllLearned, learned_all}
use Rattle.ciel_want_ready.specs.Seen.{ReadySeen, with_table}
use Rattle.ciel_task_order.specs.Views.{P}
use Rattle.ciel_master.specs.Refusals.{FirstStops, UnlessMemory, learned_before}
use Rattle.ciel_master.proofs.Steps.{more_before, none_before, refused_so, stops_here, stops_later, unless_more}
use Rattle.ciel_master.proofs.learning.learn_all.Goals as goal

pub returns-in_err-learn-clause-refused : goal.returns-in_err-learn-clause-refused
returns-in_err-learn-clause-refused g c =
    let d = g.N.Namer.digest c.args.namer.now in
    let l = c.loop-i in
    let ns = c.args.spawned.now in
    let n = c.index-spawned-i.result in
    let rest = drop (l.i + 1) ns in
    let e = c.in_err-learn.field-0.0 in
    let here : drop l.i ns ≡ n ∷ rest = drop_more ns l.i n c.loop-i-test.true ∙ ap (λ y. y ∷ rest) (sym c.index-spawned-i.is) in
    refused_so (FirstStops d ns c.args.ready.now.table) c.from_residual.result e c.from_residual.ensures.1
    (l.invariant.stops e (subst (λ xs. FirstStops d xs l.ready.table e) (sym here)
    (stops_here d n rest l.ready.table e c.in_err-learn.ensures.refused)))

pub returns-in_err-learn-clause-before : goal.returns-in_err-learn-clause-before
returns-in_err-learn-clause-before g c =
    let d = g.N.Namer.digest c.args.namer.now in
    let l = c.loop-i in
    let ns = c.args.spawned.now in
    let n = c.index-spawned-i.result in
    let rest = drop (l.i + 1) ns in
    let e = c.in_err-learn.field-0.0 in
    let here : drop l.i ns ≡ n ∷ rest = drop_more ns l.i n c.loop-i-test.true ∙ ap (λ y. y ∷ rest) (sym c.index-spawned-i.is) in
    refused_so (λ s. UnlessMemory s (c.learn.new.ready ≡ with_table c.args.ready.now (learned_before d ns c.args.ready.now.table)))
    c.from_residual.result e c.from_residual.ensures.1
    (unless_more e (λ none. c.in_err-learn.ensures.kept ∙ (ap (with_table l.ready) (sym none)
    ∙ (ap (λ xs. with_table l.ready (learned_before d xs l.ready.table)) (sym here) ∙ l.invariant.before)))
    (none_before d n rest l.ready.table e c.in_err-learn.ensures.refused))

pub loop-i-preserved : goal.loop-i-preserved
loop-i-preserved g c =
    let d = g.N.Namer.digest c.args.namer.now in
    let l = c.loop-i in
    let ns = c.args.spawned.now in
    let n = c.index-spawned-i.result in
    let rest = drop (l.i + 1) ns in
    let here : drop l.i ns ≡ n ∷ rest = drop_more ns l.i n c.loop-i-test.true ∙ ap (λ y. y ∷ rest) (sym c.index-spawned-i.is) in
    let is = c.in_ok-learn.ensures.learned in
    let answer = c.in_ok-learn.ensures.answer in
    record {
      learned = ap (λ (r : ReadySeen P). with_table r (learned_all d rest r.table)) is
          ∙ (ap (λ xs. with_table l.ready (learned_all d xs l.ready.table)) (sym here) ∙ l.invariant.learned);
      all = λ a. l.invariant.all (subst (λ xs. AllLearned d xs l.ready.table) (sym here)
          (answer, subst (λ (r : ReadySeen P). AllLearned d rest r.table) is a));
      stops = λ e s. l.invariant.stops e (subst (λ xs. FirstStops d xs l.ready.table e) (sym here)
          (stops_later d n rest l.ready.table answer.0 answer.1 e (subst (λ (r : ReadySeen P). FirstStops d rest r.table e) is s)));
      before = ap (λ (r : ReadySeen P). with_table r (learned_before d rest r.table)) is
          ∙ (ap (with_table l.ready) (sym (more_before d n rest l.ready.table answer.0 answer.1))
          ∙ (ap (λ xs. with_table l.ready (learned_before d xs l.ready.table)) (sym here) ∙ l.invariant.before));
    }
