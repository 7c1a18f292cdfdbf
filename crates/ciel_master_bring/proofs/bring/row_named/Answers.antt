use Rattle.std.proofs.Common.{◌∙◌, sym}
use Rattle.ciel_table.specs.Seen.{row_name}
use Rattle.ciel_table.proofs.ByName.{found_none, place_within}
use Rattle.ciel_want.proofs.Rows.{item_at}
use Rattle.ciel_master_bring.proofs.bring.row_named.Goals as goal

pub row-requires : goal.row-requires
row-requires c =
    record { held = place_within row_name c.args.name.now c.args.table.now.rows c.in-Some.id (sym c.find.ensures.row ∙ c.in-Some.is) }

pub returns-in-Some : goal.returns-in-Some
returns-in-Some c =
    let q = item_at row_name c.args.name.now c.args.table.now.rows c.in-Some.id (sym c.find.ensures.row ∙ c.in-Some.is) in
    q.is_found ∙ (sym q.there ∙ c.row.ensures.row)

pub returns-in-None : goal.returns-in-None
returns-in-None c =
    found_none row_name c.args.name.now c.args.table.now.rows (sym c.find.ensures.row ∙ c.in-None.is)
