use Rattle.std.proofs.Common.{◌∙◌, ap, sym}
use Rattle.std.specs.Option.{option_and_then}
use Rattle.ciel_table.specs.Seen.{row_name}
use Rattle.ciel_table.proofs.ByName.{found_none, place_within}
use Rattle.ciel_want.specs.Board.{blocking}
use Rattle.ciel_want.proofs.Rows.{item_at}
use Rattle.ciel_want.proofs.needs.blocker.Goals as goal

pub blocking-requires : goal.blocking-requires
blocking-requires g c =
    record { held = place_within row_name c.args.name.now c.args.table.now.rows c.in-Some.row (sym c.find.ensures.row ∙ c.in-Some.is) }

pub returns-in-Some : goal.returns-in-Some
returns-in-Some g c =
    let t = c.args.table.now in
    let q = item_at row_name c.args.name.now t.rows c.in-Some.row (sym c.find.ensures.row ∙ c.in-Some.is) in
    c.blocking.ensures ∙ ap (option_and_then (blocking t)) (q.there ∙ sym q.is_found)

pub returns-in-None : goal.returns-in-None
returns-in-None g c =
    let t = c.args.table.now in
    sym (ap (option_and_then (blocking t)) (found_none row_name c.args.name.now t.rows (sym c.find.ensures.row ∙ c.in-None.is)))
