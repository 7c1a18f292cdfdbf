-- One more.
use Rattle.std.proofs.Common.{◌++◌, append-nil, ap, arith, refl, sym, ◌∙◌}
use Rattle.std.proofs.lemmas.List.{take_all}
use Rattle.ciel_look_tasks.specs.ObjectPlaces.{placed}
use Rattle.ciel_look_tasks.specs.Objects.{put_at}
use Rattle.ciel_look_tasks.proofs.ObjectSteps.{put_next}
use Rattle.ciel_look_tasks.proofs.make.copy_all.Goals as goal

pub loop-name-init : goal.loop-name-init
loop-name-init c = record { put = λ n. sym (append-nil (placed c.args.places.now.at n)); gone = refl }

pub loop-name-preserved : goal.loop-name-preserved
loop-name-preserved c =
    let l = c.loop-name in
    record {
      put = put_next c.args.places.now.at l.places.at c.put.new.self.at c.args.place.worker c.args.names.now l.name-index c.name-item.result (omega arith)
          c.name-item.is l.invariant.put c.in_ok-put.ensures.put;
      gone = c.put.ensures.gone ∙ l.invariant.gone;
    }

pub returns-clause-put : goal.returns-clause-put
returns-clause-put c =
    let l = c.loop-name in
    λ n. l.invariant.put n
    ∙ ap (λ xs. placed c.args.places.now.at n ++ put_at c.args.place.worker xs n) (take_all l.name-index c.args.names.now (omega arith))
