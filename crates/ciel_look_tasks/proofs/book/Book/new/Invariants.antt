-- The inputs so far.
use Rattle.std.proofs.Common.{◌≡◌, [], ◌∷◌, map, take}
use Rattle.sky_base.specs.Val.{call, no_pairs, no_vals}
use Rattle.ciel_look_told.specs.View.{input_view}
use Rattle.ciel_look_tasks.specs.Known.{knowns}
use Rattle.ciel_look_tasks.specs.Learned.{AreMade, input_desc, learned}
use Rattle.ciel_look_tasks.specs.ReportView.{TellsOutputs}
use Rattle.ciel_look_tasks.proofs.book.Book.new.Given as goal

abbrev pub invariant-loop-input : goal.invariant-loop-input
invariant-loop-input l =
    record {
      short : l.book.short ≡ l.header.job.short;
      known : knowns l.book.known.all.items
          ≡ learned l.header.job.short [] (call [] no_pairs no_vals ∷ map input_desc (map input_view (take l.input-index l.input-items)));
      outputs : TellsOutputs l.header.job.short l.book.outputs (call [] no_pairs no_vals ∷ map input_desc (map input_view (take l.input-index l.input-items)));
      made : AreMade l.header.job.short l.book.known.all.items;
    }
