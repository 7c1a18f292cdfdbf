use Rattle.std.proofs.Common.{◌∙◌, arith, set, slice_get, subst, sym, true, Some}
use Rattle.ciel_table.specs.Seen.{row_name}
use Rattle.ciel_table.proofs.ByName.{place_within}
use Rattle.ciel_want.specs.Board.{IsSet, task_at}
use Rattle.ciel_want.specs.Waited.{same_id}
use Rattle.ciel_want.proofs.OutFlags.{flag_none, flag_some}
use Rattle.ciel_want.proofs.flags.flag.Goals as goal

pub index_mut-requires : goal.index_mut-requires
index_mut-requires g c =
    let l = place_within row_name c.in-Of.name c.args.table.now.rows c.in-Some.row (sym c.find.ensures.row ∙ c.in-Some.is) in
    let n = c.requires.long in
    omega (arith, l, n, c.args.rows.now.ok.0)

pub returns-in-Some-clause-set : goal.returns-in-Some-clause-set
returns-in-Some-clause-set g c =
    let t = c.args.table.now in
    let rows = c.args.rows.now.items in
    λ e l. subst (λ k. IsSet (same_id (task_at t (Some e)) k) (slice_get rows e) (slice_get (set rows c.in-Some.row true) e)) (sym c.in-Of.is)
    (flag_some t c.requires.once c.in-Of.name c.in-Some.row e rows (sym c.find.ensures.row ∙ c.in-Some.is) c.requires.long l)

pub returns-in-None-clause-set : goal.returns-in-None-clause-set
returns-in-None-clause-set g c =
    let t = c.args.table.now in
    let rows = c.args.rows.now.items in
    λ e l. subst (λ k. IsSet (same_id (task_at t (Some e)) k) (slice_get rows e) (slice_get rows e)) (sym c.in-Of.is)
    (flag_none t c.requires.once c.in-Of.name e (slice_get rows e) (sym c.find.ensures.row ∙ c.in-None.is) l)
