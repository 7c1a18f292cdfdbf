use Rattle.std.proofs.Common.{◌∙◌, ap, sym, add-one, arith, length-set}
use Rattle.ciel_table.specs.Changes.{saves_without}
use Rattle.ciel_table.proofs.Partly.{partly, partly_all, partly_next}
use Rattle.ciel_table.proofs.table.drop_waits.Goals as goal

pub loop-i-preserved : goal.loop-i-preserved
loop-i-preserved g c =
    let f = saves_without g.P.At.at c.args.worker in
    let x = c.index_mut-of_task.result.now in
    let y = record x { waits = c.drop_worker.new.self } in
    let e = partly_next f c.args.saves.now.items c.loop-i.saves.items c.loop-i.i x y c.loop-i.invariant.done c.index_mut-of_task.ensures.value
    (ap (λ ps. record x { waits = ps }) c.drop_worker.ensures)
    (omega (arith, c.loop-i-test.true, c.len-i-end.ensures, c.args.saves.now.ok.0)) in
    record {
      same = length-set c.loop-i.saves.items c.loop-i.i y ∙ c.loop-i.invariant.same;
      done = e ∙ ap (λ k. partly f k c.args.saves.now.items) (sym (add-one c.loop-i.i));
    }

pub returns : goal.returns
returns g c =
    c.loop-i.invariant.done
    ∙ partly_all (saves_without g.P.At.at c.args.worker) c.args.saves.now.items c.loop-i.i
    (omega (arith, c.loop-i-test.false, c.len-i-end.ensures, c.args.saves.now.ok.0))
