use Rattle.std.proofs.Common.{◌∙◌, ◌<◌, ap, sym, subst, length}
use Rattle.ciel_want_ready.specs.Fits.{runs_at}
use Rattle.ciel_want_ready.specs.Seen.{CanRunAt, ReadySeen}
use Rattle.ciel_want_ready.proofs.RunnableList.{list_within, runs_kth}
use Rattle.ciel_want_ready.proofs.ready.Ready.nth.Goals as goal

pub task_at-task-requires : goal.task_at-task-requires
task_at-task-requires g c =
    let r = c.args.self.now in
    let same = ap (λ (x : ReadySeen g.row.P.Denot). x.table) (c.self.view_is ∙ c.take_marks.ensures.same) in
    record {
      rows = λ k e h. subst (λ t. e < length t.rows) (sym same)
          (list_within r.main r.table r.out c.in_ok-marks.marks c.in_ok-marks.ensures.fits k e h);
    }

pub returns-clause-task : goal.returns-clause-task
returns-clause-task g c =
    let r = c.args.self.now in
    let m = c.in_ok-marks.marks in
    let same = ap (λ (x : ReadySeen g.row.P.Denot). x.table) (c.self.view_is ∙ c.take_marks.ensures.same) in
    let is = c.task_at-task.ensures.task ∙ ap (λ t. runs_at t m c.args.k) same in
    subst (CanRunAt r c.args.k) (sym is) (runs_kth r.main r.table r.out m c.in_ok-marks.ensures.fits c.task_at-task.ensures.rising c.args.k
    c.requires.within)
