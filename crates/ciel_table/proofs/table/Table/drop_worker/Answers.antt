use Rattle.std.proofs.Common.{sym, subst}
use Rattle.ciel_table.specs.Inside.{Stands, seen_of}
use Rattle.ciel_table.specs.Seen.{TableSeen}
use Rattle.ciel_table.proofs.Keeps.{dropped_stands}
use Rattle.ciel_table.proofs.table.Table.drop_worker.Goals as goal

pub invariant_of-self : goal.invariant_of-self
invariant_of-self g c =
    let f = c.self.inside in
    let t : TableSeen g.row.P.Denot = seen_of f.limit f.rows.items f.shown f.saves.items f.dropped.workers in
    subst (λ s. Stands g.P.At.at s f.row_of f.saves_of)
    (λ i. seen_of f.limit (sym c.drop_places.ensures i) (sym c.drop_worker.ensures i) (sym c.drop_waits.ensures i)
    (sym c.with-self-inside.ensures i)) (dropped_stands g.P.At.at t f.row_of f.saves_of c.args.worker c.self.invariant)
