-- One description more.
use Rattle.std.proofs.Common.{◌++◌, append-nil, ap, arith, sym, ◌∙◌}
use Rattle.ciel_look_picture.specs.Titles.{titles}
use Rattle.ciel_look_picture.proofs.NodeTitles.{inputs_seen, title_of_input, titles_all, titles_next}
use Rattle.ciel_look_picture.proofs.nodes.Nodes.add_inputs.Goals as goal

pub loop-known-init : goal.loop-known-init
loop-known-init c = sym (append-nil (titles c.args.self.now.all.items))

pub loop-known-preserved : goal.loop-known-preserved
loop-known-preserved c =
    let l = c.loop-known in
    titles_next title_of_input c.args.all.now (titles c.args.self.now.all.items) l.known-index c.known-item.result _ _ (omega arith) c.known-item.is
    l.invariant c.in_ok-add_input.ensures.titles

pub returns : goal.returns
returns c =
    let l = c.loop-known in
    let old = titles c.args.self.now.all.items in
    record {
      titles = titles_all title_of_input c.args.all.now old l.known-index _ (omega arith) l.invariant
          ∙ ap (λ z. old ++ z) (inputs_seen c.args.all.now);
    }
