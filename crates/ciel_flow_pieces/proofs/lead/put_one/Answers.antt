use Rattle.std.proofs.Common.{[], ◌∷◌, sym, ap, subst, ◌∙◌}
use Rattle.ciel_flow_pieces.specs.Pieces.{AllParts, AllShort, StreamSeen, parts}
use Rattle.ciel_flow_pieces.specs.declared.piece.Piece.TheVariants.{Part}
use Rattle.ciel_flow_pieces.proofs.Leading.{law_part}
use Rattle.ciel_flow_pieces.proofs.Pieces.{all_more, parts_more, short-append}
use Rattle.ciel_flow_pieces.proofs.lead.put_one.Goals as goal

pub put-requires-clause-law : goal.put-requires-clause-law
put-requires-clause-law g c =
    let p = c.args.producer.now in
    let r = c.requires in
    law_part p.source p.pieces c.args.part r.begins.0 r.all r.all_short r.short r.begins.1

pub returns-clause-all : goal.returns-clause-all
returns-clause-all g c =
    subst (λ (s : StreamSeen). AllParts s.pieces) (sym c.put.ensures.put) (all_more c.args.producer.now.pieces c.args.part c.requires.all)

pub returns-clause-all_short : goal.returns-clause-all_short
returns-clause-all_short g c =
    subst (λ (s : StreamSeen). AllShort s.pieces) (sym c.put.ensures.put)
    (short-append c.args.producer.now.pieces (Part c.args.part ∷ []) c.requires.all_short (c.requires.short, tt))

pub returns-clause-put : goal.returns-clause-put
returns-clause-put g c = ap (λ (s : StreamSeen). parts s.pieces) c.put.ensures.put ∙ parts_more c.args.producer.now.pieces c.args.part
