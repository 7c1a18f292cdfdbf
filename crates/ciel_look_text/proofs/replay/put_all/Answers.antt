-- One more.
use Rattle.std.proofs.Common.{◌++◌, append-nil, ap, arith, sym, ◌∙◌}
use Rattle.ciel_look_text.specs.Now.{have}
use Rattle.ciel_look_text.specs.Replays.{listed_at}
use Rattle.ciel_look_text.proofs.Picking.{take_all}
use Rattle.ciel_look_text.proofs.Replaying.{put_next}
use Rattle.ciel_look_text.proofs.replay.put_all.Goals as goal

pub loop-name-init : goal.loop-name-init
loop-name-init c = λ n. sym (append-nil (listed_at c.args.places.now n))

pub loop-name-preserved : goal.loop-name-preserved
loop-name-preserved c =
    let l = c.loop-name in
    put_next c.args.places.now l.places c.put_in.new.lists c.args.worker c.args.names.now l.name-index c.name-item.result (omega arith) c.name-item.is l.invariant
    c.in_ok-put_in.ensures.put

pub returns : goal.returns
returns c =
    let l = c.loop-name in
    record {
      put = λ n. l.invariant n
          ∙ ap (λ xs. listed_at c.args.places.now n ++ have c.args.worker xs n) (take_all c.args.names.now l.name-index (omega arith));
    }
