use Rattle.std.proofs.Common.{◌∙◌, sym}
use Rattle.ciel_table.specs.Seen.{row_name}
use Rattle.ciel_table.proofs.ByName.{place_within}
use Rattle.ciel_want_ready.proofs.needs.dead_rows.Goals as goal

pub row-requires : goal.row-requires
row-requires g c =
    record { held = place_within row_name c.index-names-i.result c.args.table.now.rows c.in-Some.row (sym c.find.ensures.row ∙ c.in-Some.is) }
