use Rattle.std.proofs.Common.{◌≡◌, ◌∙◌, ap, sym, Option}
use Rattle.std.specs.Cmp.Lexicographic.{same_text}
use Rattle.std.specs.Option.{option_map_or}
use Rattle.sky_base.specs.declared.object.TaskId.{TaskId}
use Rattle.ciel_table.specs.Seen.{find, row_name}
use Rattle.ciel_table.specs.declared.row.Row.{Row}
use Rattle.ciel_want.specs.Board.{task_row}
use Rattle.ciel_want.proofs.Rows.{own_place}
use Rattle.ciel_want.proofs.needs.own_row.Goals as goal

pub returns-in-Of : goal.returns-in-Of
returns-in-Of g c =
    let t = c.args.table.now in
    let held = c.row-held.result.now in
    let there = c.row-held.ensures.row in
    let same : c.in-Of.name ≡ held.name = same_text c.in-Of.name held.name (sym c.if-eq.true ∙ c.eq.ensures) in
    let m = ap (λ (o : Option (Row g.row.P.Denot)). option_map_or (λ (r : Row g.row.P.Denot). r.task) o TaskId.Show) there in
    sym (own_place row_name t.rows c.args.row held c.row-held.ensures.sound.once there)
    ∙ (ap (λ n. find n t) (sym same) ∙ (ap (task_row t) (sym c.in-Of.is) ∙ ap (task_row t) (sym m)))
