use Rattle.std.proofs.Common.{[], ◌∷◌, ◌++◌, sym, ap, subst, ◌∙◌}
use Rattle.ciel_flow_pieces.specs.Leads.{at}
use Rattle.ciel_flow_pieces.specs.Pieces.{LawOf}
use Rattle.ciel_flow_pieces.specs.declared.piece.Piece.TheVariants.{End}
use Rattle.ciel_flow_pieces.proofs.AtHand.{put_whole}
use Rattle.ciel_flow_pieces.proofs.lead.hand_out.Goals as goal

pub put_parts-requires-clause-begins : goal.put_parts-requires-clause-begins
put_parts-requires-clause-begins g c =
    let p = c.args.producer.now in
    let r = c.requires.given in
    (put_whole p.source r.0 c.args.outputs.now c.in_ok-whole.whole p.pieces r.1 c.requires.hands r.2
    (c.in_ok-whole.ensures ∙ ap (at c.args.outputs.now) (sym c.requires.index)) c.requires.fresh).0

pub returns-clause-end : goal.returns-clause-end
returns-clause-end g c =
    let p = c.args.producer.now in
    let r = c.requires.given in
    let put = c.in_ok-put_parts.ensures in
    let xs = c.put_parts.new.producer.pieces in
    subst (λ s. LawOf s (xs ++ End ∷ [])) (sym put.source)
    ((put_whole p.source r.0 c.args.outputs.now c.in_ok-whole.whole p.pieces r.1 c.requires.hands r.2
    (c.in_ok-whole.ensures ∙ ap (at c.args.outputs.now) (sym c.requires.index)) c.requires.fresh).1 xs put.all put.all_short put.put)
