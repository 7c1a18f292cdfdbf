use Rattle.std.proofs.Common.{sym, subst}
use Rattle.sky_base_law.specs.Nodes.{node_at}
use Rattle.sky_base_law.specs.Opened.{block_node, HasStms}
use Rattle.sky_frozen_fits.proofs.stmts.block_row.Goals as goal

pub stmts_after-requires : goal.stmts_after-requires
stmts_after-requires c =
    let here = c.inside.ensures.here (block_node c.args.block.now) c.requires.here in
    subst (λ b. HasStms (λ i. node_at c.args.code.now i) b c.inside.result) (sym c.as_slice.ensures)
    (subst (HasStms (λ i. node_at c.args.code.now i) c.args.block.now) (sym here) c.requires.has)
