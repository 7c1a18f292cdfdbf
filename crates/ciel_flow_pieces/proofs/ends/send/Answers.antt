use Rattle.std.proofs.Common.{sym, subst}
use Rattle.crossbeam_channel.specs.Claims.{view}
use Rattle.ciel_flow_pieces.specs.Pieces.{MayPut}
use Rattle.ciel_flow_pieces.proofs.Pieces.{pushes}
use Rattle.ciel_flow_pieces.proofs.ends.send.Goals as goal

pub send_as-requires-clause-rule : goal.send_as-requires-clause-rule
send_as-requires-clause-rule g c =
    let e = c.loop.invariant.1 in
    let n = c.loop.invariant.2 in (
      pushes _ c.loop.pass.id (view c.loop.pass) c.loop.piece
          (subst (λ x. MayPut x c.loop.piece) (sym e) (subst (λ x. MayPut (view c.args.pass.now) x) (sym n) c.requires.may)),
      λ items views h at. tt,
    )
