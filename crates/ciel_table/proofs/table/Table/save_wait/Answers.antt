use Rattle.std.proofs.Common.{sym, subst}
use Rattle.sky_base.specs.declared.object.TaskId.{TaskId}
use Rattle.ciel_table.specs.Inside.{seen_of}
use Rattle.ciel_table.specs.Seen.{TableSeen, waits_of}
use Rattle.ciel_table.specs.Sound.{Here, IsAbove}
use Rattle.ciel_table.proofs.Keeps.{shown_maybe}
use Rattle.ciel_table.proofs.table.Table.save_wait.Goals as goal

pub invariant_of-self : goal.invariant_of-self
invariant_of-self g c =
    let f = c.self.inside in
    let t : TableSeen g.row.P.Denot = seen_of f.limit f.rows.items f.shown f.saves.items f.dropped.workers in
    let a = subst (λ (s : TableSeen g.row.P.Denot). IsAbove c.args.wait.j (waits_of TaskId.Show s)) (sym c.self.view_is)
    (subst (λ k. IsAbove c.args.wait.j (waits_of k c.args.self.now)) c.in-Show.is c.requires.later) in
    let h = subst (λ (s : TableSeen g.row.P.Denot). Here s.gone (g.P.At.at c.args.wait.place)) (sym c.self.view_is) c.requires.here in
    shown_maybe g.P.At.at t f.row_of f.saves_of c.args.wait c.add.new.self c.add.result c.self.invariant a h c.add.ensures.ok c.add.ensures.err
