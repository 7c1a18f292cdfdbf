use Rattle.std.proofs.Common.{◌∙◌, ap, sym, subst, arith}
use Rattle.ciel_table.specs.Changes.{placed}
use Rattle.ciel_table.specs.Inside.{seen_of}
use Rattle.ciel_table.specs.Seen.{TableSeen, find, row_name}
use Rattle.ciel_table.specs.Sound.{Here}
use Rattle.ciel_table.proofs.ByName.{place_within}
use Rattle.ciel_table.proofs.Keeps.{placed_maybe, placed_rows}
use Rattle.ciel_table.proofs.Lists.{on_ok}
use Rattle.ciel_table.proofs.table.Table.add_place.Goals as goal

pub index_mut-row-requires : goal.index_mut-row-requires
index_mut-row-requires g c =
    let e = ap (find c.args.name.now) c.self.view_is ∙ (sym c.find.ensures.row ∙ c.in-Some.is) in
    let l = place_within row_name c.args.name.now c.self.inside.rows.items c.in-Some.id e in
    omega (arith, l, c.self.inside.rows.ok.0)

pub invariant_of-self : goal.invariant_of-self
invariant_of-self g c =
    let f = c.self.inside in
    let t : TableSeen g.row.P.Denot = seen_of f.limit f.rows.items f.shown f.saves.items f.dropped.workers in
    let e = ap (find c.args.name.now) c.self.view_is ∙ (sym c.find.ensures.row ∙ c.in-Some.is) in
    let h = subst (λ (s : TableSeen g.row.P.Denot). Here s.gone (g.P.At.at c.args.place)) (sym c.self.view_is) c.requires.here in
    placed_maybe g.P.At.at t f.row_of f.saves_of c.args.name.now c.args.place c.in-Some.id c.index_mut-row.result.now c.add.new.self c.add.result
    c.self.invariant e c.index_mut-row.ensures.value h c.add.ensures.ok c.add.ensures.err

pub returns-clause-placed : goal.returns-clause-placed
returns-clause-placed g c =
    let f = c.self.inside in
    let t : TableSeen g.row.P.Denot = seen_of f.limit f.rows.items f.shown f.saves.items f.dropped.workers in
    let e = ap (find c.args.name.now) c.self.view_is ∙ (sym c.find.ensures.row ∙ c.in-Some.is) in
    on_ok c.add.result (λ k. ap (λ rs. seen_of f.limit rs f.shown f.saves.items f.dropped.workers)
    (placed_rows g.P.At.at t c.args.name.now c.args.place c.in-Some.id c.index_mut-row.result.now c.add.new.self e
    c.index_mut-row.ensures.value k) ∙ ap (placed c.args.name.now c.args.place) c.self.view_is) c.add.ensures.ok
