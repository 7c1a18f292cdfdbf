use Rattle.std.proofs.Common.{◌<◌, ◌++◌, ◌∷◌, [], ◌∙◌, ap, sym, subst, arith, cond, length, IfSome, Option, Some}
use Rattle.std.specs.Option.{option_map_or}
use Rattle.sky_base.specs.declared.object.TaskId.{TaskId}
use Rattle.ciel_table.specs.declared.row.Row.{Row}
use Rattle.ciel_want.specs.Board.{is_set, maker_at}
use Rattle.ciel_want.proofs.FlaggedTasks.{flag_is}
use Rattle.ciel_want.proofs.ReachedRows.{task_row_within}
use Rattle.ciel_want.proofs.order.list.Goals as goal

pub index-is_new-requires : goal.index-is_new-requires
index-is_new-requires g c =
    let t = c.args.table.now in
    let l = subst (λ o. IfSome o (λ e. e < length t.rows)) (sym c.own_row.ensures ∙ c.in-Some.is)
    (task_row_within t (maker_at t (Some c.args.row))) in
    let n = c.requires.long in
    omega (arith, l, n, c.args.flags.now.ok.0)

pub index_mut-requires : goal.index_mut-requires
index_mut-requires g c =
    let t = c.args.table.now in
    let l = subst (λ o. IfSome o (λ e. e < length t.rows)) (sym c.own_row.ensures ∙ c.in-Some.is)
    (task_row_within t (maker_at t (Some c.args.row))) in
    let n = c.requires.long in
    omega (arith, l, n, c.args.flags.now.ok.0)

pub returns-in_ok-add-clause-tasks : goal.returns-in_ok-add-clause-tasks
returns-in_ok-add-clause-tasks g c =
    let t = c.args.table.now in
    let flags = c.args.flags.now.items in
    let tasks = c.args.tasks.now.items in
    let task = maker_at t (Some c.args.row) in
    let own = sym c.own_row.ensures ∙ c.in-Some.is in
    let l = subst (λ o. IfSome o (λ e. e < length t.rows)) own (task_row_within t task) in
    let n = c.requires.long in
    let e = ap (is_set flags) own
    ∙ (flag_is flags c.in-Some.own c.index-is_new.result.now (omega (arith, l, n)) c.index-is_new.ensures
    ∙ c.if-is_new.true) in
    let m = ap (λ (o : Option (Row g.row.P.Denot)). option_map_or (λ (r : Row g.row.P.Denot). r.task) o TaskId.Show) c.row.ensures.row in
    c.in_ok-add.ensures
    ∙ (ap (λ k. tasks ++ k ∷ []) (sym m) ∙ sym (ap (λ b. cond b (tasks ++ task ∷ []) tasks) e))

pub returns-else-is_new-clause-tasks : goal.returns-else-is_new-clause-tasks
returns-else-is_new-clause-tasks g c =
    let t = c.args.table.now in
    let flags = c.args.flags.now.items in
    let tasks = c.args.tasks.now.items in
    let task = maker_at t (Some c.args.row) in
    let own = sym c.own_row.ensures ∙ c.in-Some.is in
    let l = subst (λ o. IfSome o (λ e. e < length t.rows)) own (task_row_within t task) in
    let n = c.requires.long in
    let e = ap (is_set flags) own
    ∙ (flag_is flags c.in-Some.own c.index-is_new.result.now (omega (arith, l, n)) c.index-is_new.ensures
    ∙ c.if-is_new.false) in
    sym (ap (λ b. cond b (tasks ++ task ∷ []) tasks) e)
