use Rattle.std.proofs.Common.{◌∙◌, ◌++◌, ◌∷◌, [], ap, map}
use Rattle.ciel_want_ready.specs.Fits.{maker_of}
use Rattle.ciel_want_ready.proofs.Alike.{map_step}
use Rattle.ciel_want_ready.proofs.anew.makers.Goals as goal

pub loop-row-preserved : goal.loop-row-preserved
loop-row-preserved g c =
    let t = c.args.table.now in
    let old = c.loop-row.nodes.items in
    map_step (maker_of t) t.rows c.loop-row.row c.row.result.now old c.push.new.items.items (map (maker_of t) t.rows) c.row.ensures.row
    c.loop-row.invariant (c.in_ok-push.ensures ∙ ap (λ x. old ++ x ∷ []) c.node_of-node.ensures)
