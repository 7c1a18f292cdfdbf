use Rattle.std.proofs.Common.{◌≡◌, List, [], ◌∷◌, ◌++◌, Ok, length, sym, ap, subst, ◌∙◌}
use Rattle.line_kit.specs.Gives.{gives}
use Rattle.line_flow.specs.Drained.{Completes, Follows}
use Rattle.ciel_flow_pieces.specs.Leads.{JoinedEach, at}
use Rattle.ciel_flow_pieces.specs.Pieces.{LawOf}
use Rattle.ciel_flow_pieces.specs.declared.piece.Piece.TheVariants.{End}
use Rattle.ciel_flow_pieces.proofs.Whole.{kept_whole, put_rest}
use Rattle.ciel_flow_pieces.proofs.lead.lead_end.Goals as goal

pub add_all-requires : goal.add_all-requires
add_all-requires g c =
    let r = c.requires.leads in
    let t = r.0 in
    let done = subst (λ k. Completes t.drained k (gives t.executor t.args t.fed t.outputs)) c.in-Ok.is (c.in_ok-kind.ensures t r.2.stands) in
    ap length c.as_slice-in-Ok.ensures.value ∙ done.2.count ∙ sym (ap length r.2.keeps)

pub put_parts-requires-clause-begins : goal.put_parts-requires-clause-begins
put_parts-requires-clause-begins g c =
    let r = c.requires.leads in
    let t = r.0 in
    let l = r.2 in
    let p = c.args.producer.now in
    let done = subst (λ k. Completes t.drained k (gives t.executor t.args t.fed t.outputs)) c.in-Ok.is (c.in_ok-kind.ensures t l.stands) in
    (put_rest p.source t r.1 c.in-Ok.more.items done.0 l.stands.kind l.stands.pairs c.in_ok-part-in-Ok.part p.pieces r.3 r.4 l.stands.right
    c.requires.hands done.1 done.2 l.puts
    (c.in_ok-part-in-Ok.ensures ∙ ap (at c.as_slice.result.now) (sym c.requires.index) ∙ ap (λ xs. at xs p.source.index) c.as_slice.ensures.value)).0

pub returns-in_ok-put_parts-in-Ok-clause-made : goal.returns-in_ok-put_parts-in-Ok-clause-made
returns-in_ok-put_parts-in-Ok-clause-made g c t l =
    let done = subst (λ k. Completes t.drained k (gives t.executor t.args t.fed t.outputs)) c.in-Ok.is (c.in_ok-kind.ensures t l.stands) in
    let joined = subst (λ xs. JoinedEach c.args.kept.items xs c.add_all.new.kept.items) c.as_slice-in-Ok.ensures.value c.in_ok-add_all-in-Ok.ensures in
    let is = kept_whole t.drained c.args.kept.items c.in-Ok.more.items c.add_all.new.kept.items done.0 l.keeps done.2 joined in
    done.1 ∙ ap (λ xs. Ok xs) (sym (c.in_ok-outputs-in-Ok.ensures ∙ is))

pub returns-in_ok-put_parts-in-Ok-clause-end : goal.returns-in_ok-put_parts-in-Ok-clause-end
returns-in_ok-put_parts-in-Ok-clause-end g c =
    let r = c.requires.leads in
    let t = r.0 in
    let l = r.2 in
    let p = c.args.producer.now in
    let done = subst (λ k. Completes t.drained k (gives t.executor t.args t.fed t.outputs)) c.in-Ok.is (c.in_ok-kind.ensures t l.stands) in
    let put = c.in_ok-put_parts-in-Ok.ensures in
    let xs = c.put_parts.new.producer.pieces in
    subst (λ s. LawOf s (xs ++ End ∷ [])) (sym put.source)
    ((put_rest p.source t r.1 c.in-Ok.more.items done.0 l.stands.kind l.stands.pairs c.in_ok-part-in-Ok.part p.pieces r.3 r.4 l.stands.right
    c.requires.hands done.1 done.2 l.puts
    (c.in_ok-part-in-Ok.ensures ∙ ap (at c.as_slice.result.now) (sym c.requires.index) ∙ ap (λ xs. at xs p.source.index) c.as_slice.ensures.value)).1
    xs put.all put.all_short put.put)
