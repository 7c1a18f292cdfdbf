use Rattle.std.proofs.Common.{◌≡◌, ◌∙◌, ap, sym, [], Option, Some, slice_get}
use Rattle.std.specs.Option.{option_map_or}
use Rattle.ciel_table.specs.Seen.{row_name, row_named}
use Rattle.ciel_table.specs.declared.row.Row.{Row}
use Rattle.ciel_want.specs.Board.{task_at}
use Rattle.ciel_want.specs.Waited.{first_needs, first_refs}
use Rattle.ciel_want.proofs.Rows.{own_found}
use Rattle.ciel_want_ready.specs.Fits.{dead_rows}
use Rattle.ciel_want_ready.proofs.needs.dead_at_start.Goals as goal

pub returns-in_ok-rows-in-Some : goal.returns-in_ok-rows-in-Some
returns-in_ok-rows-in-Some g c =
    let t = c.args.table.now in
    let r = c.row.result.now in
    let there = c.row.ensures.row in
    let name : option_map_or row_name (slice_get t.rows c.in-Some.row) [] ≡ r.name =
    ap (λ (o : Option (Row g.row.P.Denot)). option_map_or row_name o []) there in
    let found : row_named r.name t ≡ Some r = own_found row_name t.rows c.in-Some.row r c.row.ensures.sound.once there in
    let refs = ap (λ n. row_named n t) name ∙ found in
    c.in_ok-rows-in-Some.ensures
    ∙ (ap (dead_rows t) (sym (ap (λ (o : Option (Row g.row.P.Denot)). option_map_or (λ (r : Row g.row.P.Denot). first_refs r.desc) o []) refs))
    ∙ ap (λ o. dead_rows t (first_needs c.args.main.now t (task_at t o))) (sym c.in-Some.is))
