use Rattle.std.proofs.Common.{◌∙◌, ◌++◌, ◌∷◌, [], ap, map, drop, length, length-append, arith}
use Rattle.ciel_table.specs.Seen.{is_live_row}
use Rattle.ciel_want_ready.proofs.Alike.{map_step}
use Rattle.ciel_want_ready.proofs.NumberedGraph.{length_map}
use Rattle.ciel_want_ready.proofs.anew.lives.Goals as goal

pub loop-row-preserved : goal.loop-row-preserved
loop-row-preserved g c =
    let t = c.args.table.now in
    let old = c.loop-row.flags.items in
    map_step is_live_row t.rows c.loop-row.row c.row.result.now old c.push.new.items.items (map is_live_row t.rows) c.row.ensures.row
    c.loop-row.invariant (c.in_ok-push.ensures ∙ ap (λ x. old ++ x ∷ []) c.is_live.ensures.live)

pub returns-clause-few : goal.returns-clause-few
returns-clause-few g c =
    let t = c.args.table.now in
    let e = ap length c.loop-row.invariant in
    let a = length-append c.loop-row.flags.items (map is_live_row (drop c.loop-row.row t.rows)) in
    let b = length_map is_live_row t.rows in
    omega (arith, e, a, b, c.len-row-end.ensures.number, c.len-row-end.type_inv)
