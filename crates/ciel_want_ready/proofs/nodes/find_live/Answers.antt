use Rattle.std.proofs.Common.{◌∙◌, ap, sym, false}
use Rattle.std.specs.Option.{option_map_or}
use Rattle.ciel_table.specs.Seen.{is_live_row, row_name}
use Rattle.ciel_table.proofs.ByName.{found_none, place_within}
use Rattle.ciel_want.proofs.Rows.{item_at}
use Rattle.ciel_want_ready.proofs.nodes.find_live.Goals as goal

pub row-requires : goal.row-requires
row-requires g c =
    record { held = place_within row_name c.args.name.now c.args.table.now.rows c.in-Some.row (sym c.find_near.ensures ∙ c.in-Some.is) }

pub returns-in-Some-clause-live : goal.returns-in-Some-clause-live
returns-in-Some-clause-live g c =
    let q = item_at row_name c.args.name.now c.args.table.now.rows c.in-Some.row (sym c.find_near.ensures ∙ c.in-Some.is) in
    c.is_live.ensures.live ∙ ap (λ o. option_map_or is_live_row o false) (sym c.row.ensures.row ∙ (q.there ∙ sym q.is_found))

pub returns-in-None-clause-live : goal.returns-in-None-clause-live
returns-in-None-clause-live g c =
    ap (λ o. option_map_or is_live_row o false)
    (sym (found_none row_name c.args.name.now c.args.table.now.rows (sym c.find_near.ensures ∙ c.in-None.is)))
