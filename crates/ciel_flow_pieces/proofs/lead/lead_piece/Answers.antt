use Rattle.std.proofs.Common.{◌≡◌, ℕ, List, [], ◌∷◌, ◌++◌, length, sym, ap, subst, ◌∙◌}
use Rattle.line_flow.specs.Drained.{Follows}
use Rattle.line_flow.specs.Told.{Told, drained_more, early, fed_more}
use Rattle.ciel_flow_pieces.specs.Leads.{at}
use Rattle.ciel_flow_pieces.specs.declared.piece.Source.{Source}
use Rattle.ciel_flow_pieces.proofs.Leading.{drained_next, kept_more, put_next}
use Rattle.ciel_flow_pieces.proofs.lead.lead_piece.Goals as goal

pub add_all-requires : goal.add_all-requires
add_all-requires g c =
    let r = c.requires.leads in
    let t = fed_more r.0 c.args.input c.args.piece.now in
    let f = c.in_ok-more.ensures.drained t (c.in_ok-feed.ensures.fed r.0 r.2.stands r.4) in
    ap length c.as_slice-2.ensures.value ∙ f.count ∙ sym (ap length r.2.keeps)

pub put_parts-requires-clause-begins : goal.put_parts-requires-clause-begins
put_parts-requires-clause-begins g c =
    let r = c.requires.leads in
    let t = fed_more r.0 c.args.input c.args.piece.now in
    let f = c.in_ok-more.ensures.drained t (c.in_ok-feed.ensures.fed r.0 r.2.stands r.4) in
    let p = c.args.producer.now in
    put_next p.source r.0 r.1 c.args.input c.args.piece.now c.in_ok-part.part p.pieces c.in_ok-more.more.items r.3 r.5 r.2.puts f
    (c.in_ok-part.ensures ∙ ap (at c.as_slice.result.now) (sym c.requires.index) ∙ ap (λ xs. at xs p.source.index) c.as_slice.ensures.value)

pub returns-clause-leads : goal.returns-clause-leads
returns-clause-leads g c t l can =
    let u : Told = fed_more t c.args.input c.args.piece.now in
    let fed = c.in_ok-feed.ensures.fed t l.stands can in
    let f = c.in_ok-more.ensures.drained u fed in
    let p = c.args.producer.now in
    let put = c.in_ok-put_parts.ensures in
    let b = c.in_ok-part.part in
    let b_is : b ≡ at c.in_ok-more.more.items p.source.index =
    c.in_ok-part.ensures ∙ ap (at c.as_slice.result.now) (sym c.requires.index) ∙ ap (λ xs. at xs p.source.index) c.as_slice.ensures.value in
    record {
      stands = c.in_ok-more.ensures.stands u fed;
      keeps = kept_more u c.args.kept.now.items c.as_slice-2.result.now c.add_all.new.kept.items l.keeps
          (subst (λ xs. Follows u.drained xs (early u)) (sym c.as_slice-2.ensures.value) f) c.in_ok-add_all.ensures;
      puts = put.put ∙ ap (λ (r : List ℕ). r ++ b) l.puts ∙ ap (λ (r : List ℕ). at t.drained p.source.index ++ r) b_is
          ∙ sym (drained_next u c.in_ok-more.more.items p.source.index f) ∙ ap (λ (s : Source). at (early u) s.index) (sym put.source);
      all = put.all;
      short = put.all_short;
    }
