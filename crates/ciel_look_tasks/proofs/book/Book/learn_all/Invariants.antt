-- What was learned so far, and what is left.
use Rattle.std.proofs.Common.{◌≡◌, ◌++◌, ℕ, List, map}
use Rattle.sky_base.specs.ObjectView.{desc_view}
use Rattle.sky_base.specs.Val.{Desc}
use Rattle.ciel_look_tasks.specs.Known.{knowns}
use Rattle.ciel_look_tasks.specs.Learned.{AreMade, learned}
use Rattle.ciel_look_tasks.specs.ReportView.{TellsOutputs}
use Rattle.ciel_look_tasks.proofs.book.Book.learn_all.Given as goal

abbrev pub invariant-loop-desc : goal.invariant-loop-desc
invariant-loop-desc l =
    record {
      so_far : l.yielded ++ l.desc-iterator.rest.items ≡ l.fn.spawned.items;
      short : l.self.short ≡ l.fn.self.short;
      known : knowns l.self.known.all.items ≡ learned l.fn.self.short (knowns l.fn.self.known.all.items) (map desc_view l.yielded);
      outputs : (ds : List (Desc (List ℕ))) → TellsOutputs l.fn.self.short l.fn.self.outputs ds
          → TellsOutputs l.fn.self.short l.self.outputs (ds ++ map desc_view l.yielded);
      made : AreMade l.fn.self.short l.fn.self.known.all.items → AreMade l.fn.self.short l.self.known.all.items;
    }
