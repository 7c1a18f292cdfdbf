use Rattle.std.proofs.Common.{◌∙◌, ap, sym, arith, false}
use Rattle.std.specs.Option.{option_map_or}
use Rattle.ciel_table.specs.Seen.{find, is_live, is_live_row, row_name}
use Rattle.ciel_table.proofs.ByName.{found_at, found_none, place_within}
use Rattle.ciel_table.proofs.table.Table.is_live.Goals as goal

pub index-requires : goal.index-requires
index-requires g c =
    let e = ap (find c.args.name.now) c.self.view_is ∙ (sym c.find.ensures.row ∙ c.in-Some.is) in
    let l = place_within row_name c.args.name.now c.self.inside.rows.items c.in-Some.id e in
    omega (arith, l, c.self.inside.rows.ok.0)

pub returns-in-Some : goal.returns-in-Some
returns-in-Some g c =
    let e = ap (find c.args.name.now) c.self.view_is ∙ (sym c.find.ensures.row ∙ c.in-Some.is) in
    let f = found_at row_name c.args.name.now c.self.inside.rows.items c.in-Some.id c.index.result.now e in
    record {
      live = c.is_live.ensures.live
          ∙ (ap is_live_row c.index.ensures
          ∙ (sym (ap (λ o. option_map_or is_live_row o false) f.1)
          ∙ ap (is_live c.args.name.now) c.self.view_is));
    }

pub returns-in-None : goal.returns-in-None
returns-in-None g c =
    let e = ap (find c.args.name.now) c.self.view_is ∙ (sym c.find.ensures.row ∙ c.in-None.is) in
    let f = found_none row_name c.args.name.now c.self.inside.rows.items e in
    record {
      live = sym (ap (λ o. option_map_or is_live_row o false) f) ∙ ap (is_live c.args.name.now) c.self.view_is;
    }
