use Rattle.std.proofs.Common.{◌≡◌, ◌<◌, ◌≤◌, ◌+◌, ℕ, length, slice_index, take, drop, sym, ap, ◌∙◌, subst, arith}
use Rattle.sky_base.specs.Tree.{block_nodes, stms_nodes}
use Rattle.sky_base.specs.StmtView.{stms_view}
use Rattle.sky_base_law.specs.Opened.{block_node, HasStms}
use Rattle.sky_base_law.specs.Nodes.{node_at}
use Rattle.sky_machine_code.specs.Numbers.{ends_of}
use Rattle.sky_machine_code.specs.Parts.{PartsAt, begins_from}
use Rattle.sky_machine_code.proofs.Bodies.{end_at, in_script}
use Rattle.sky_machine_code.proofs.BlockParts.{begins_at, fits_in}
use Rattle.sky_machine_code.proofs.code.Code.begins.Goals as goal

pub cut-requires : goal.cut-requires
cut-requires c =
    let sc = c.args.self.now in
    let ends = c.self.invariant.0 ∙ ap ends_of c.self.view_is in
    let n = c.args.node in
    let few : n < length c.self.inside.ends.now = subst (λ xs. n < length xs) (sym ends) (in_script sc n (block_node c.args.block.now) c.requires.here) in
    let parts = c.self.invariant.2 n few in
    let at = subst (λ p. PartsAt c.self.inside.ends.now c.self.inside.parts.now p n) (sym c.place_at-first.ensures) parts in
    fits_in sc c.self.inside.ends.now c.self.inside.parts.now ends n c.place_at-first.result c.as_slice.result.now c.args.block.now c.as_slice.ensures
    c.requires.here c.requires.has at

pub returns : goal.returns
returns c =
    let sc = c.args.self.now in
    let ends = c.self.invariant.0 ∙ ap ends_of c.self.view_is in
    let n = c.args.node in
    let few : n < length c.self.inside.ends.now = subst (λ xs. n < length xs) (sym ends) (in_script sc n (block_node c.args.block.now) c.requires.here) in
    let parts = c.self.invariant.2 n few in
    let at = subst (λ p. PartsAt c.self.inside.ends.now c.self.inside.parts.now p n) (sym c.place_at-first.ensures) parts in
    c.cut.ensures
    ∙ begins_at sc c.self.inside.ends.now c.self.inside.parts.now ends n c.place_at-first.result c.as_slice.result.now c.args.block.now c.as_slice.ensures
    c.requires.here c.requires.has at
