-- What was told so far, and what is left of the story.
use Rattle.std.proofs.Common.{◌≡◌, ◌++◌, ℕ, List, length, map}
use Rattle.ciel_look_told.specs.Head.{short}
use Rattle.ciel_look_told.specs.View.{head_view, told_view}
use Rattle.ciel_look_tasks.specs.Again.{TellsOrigins, agains}
use Rattle.ciel_look_tasks.specs.CutPlaces.{AreKept, cuts_view}
use Rattle.ciel_look_tasks.specs.Cuts.{cuts}
use Rattle.ciel_look_tasks.specs.Happened.{happened}
use Rattle.ciel_look_tasks.specs.Heads.{AreDescribed}
use Rattle.ciel_look_tasks.specs.Known.{knowns}
use Rattle.ciel_look_tasks.specs.Learned as learn
use Rattle.ciel_look_tasks.specs.Learned.{AreMade, known}
use Rattle.ciel_look_tasks.specs.ObjectPlaces.{objects_view, placed}
use Rattle.ciel_look_tasks.specs.Objects.{AreTaken, lost_worker, workers_of}
use Rattle.ciel_look_tasks.specs.Orders.{orders}
use Rattle.ciel_look_tasks.specs.ReportView.{TellsOutputs, makes_view, takes_view}
use Rattle.ciel_look_tasks.specs.Reports.{made, reports, took}
use Rattle.ciel_look_tasks.specs.Rows.{AreFiled}
use Rattle.ciel_look_tasks.specs.StackPlaces.{HaveStacks, stacks_view}
use Rattle.ciel_look_tasks.specs.Stacks.{stacked}
use Rattle.ciel_look_tasks.specs.Tasks.{losses, starts, tasks}
use Rattle.ciel_look_tasks.specs.View.{agains_view, happened_view, headings, ids, losses_view, numbers, orders_view, rows, starts_view}
use Rattle.ciel_look_tasks.proofs.make.scene_of.Given as goal

abbrev pub invariant-loop-one : goal.invariant-loop-one
invariant-loop-one l =
    record {
      so_far : l.yielded ++ l.one-iterator.rest.items ≡ l.fn.story.told.items;
      rows : AreFiled (rows l.maker.roll.tasks.items) (starts_view l.maker.starts.runs.items);
      descs : AreDescribed (head_view l.fn.story.header) (map told_view l.yielded) (knowns l.maker.book.known.all.items)
          (headings l.maker.roll.tasks.items);
      tasks : ids l.maker.roll.tasks.items ≡ tasks (map told_view l.yielded);
      starts : starts_view l.maker.starts.runs.items ≡ starts (map told_view l.yielded);
      orders : orders_view l.maker.starts.runs.items ≡ orders (map told_view l.yielded);
      agains : agains_view l.maker.starts.runs.items ≡ agains (map told_view l.yielded);
      origins : TellsOrigins l.maker.origins (starts_view l.maker.starts.runs.items);
      cuts : cuts_view (numbers l.maker.starts.runs.items) l.maker.losses.items ≡ cuts (map told_view l.yielded);
      kept : AreKept (length l.maker.starts.runs.items) l.maker.losses.items;
      took : takes_view l.maker.starts.runs.items ≡ took (head_view l.fn.story.header) (map told_view l.yielded);
      outputs : makes_view l.maker.starts.runs.items ≡ made (head_view l.fn.story.header) (map told_view l.yielded);
      names : TellsOutputs (short (head_view l.fn.story.header)) l.maker.book.outputs
          (learn.descs (head_view l.fn.story.header) (map told_view l.yielded));
      places : (n : List ℕ) → placed l.maker.places.at n ≡ workers_of (reports (head_view l.fn.story.header) (map told_view l.yielded)) n;
      gone : l.maker.places.gone.items ≡ map lost_worker (losses (map told_view l.yielded));
      objects : AreTaken (head_view l.fn.story.header) (map told_view l.yielded) (objects_view l.maker.losses.items);
      stacked : stacks_view (ids l.maker.roll.tasks.items) l.maker.losses.items ≡ stacked (map told_view l.yielded);
      have : HaveStacks (length (ids l.maker.roll.tasks.items)) l.maker.losses.items;
      losses : losses_view l.maker.losses.items ≡ losses (map told_view l.yielded);
      made : AreMade (short (head_view l.fn.story.header)) l.maker.book.known.all.items;
      happened : happened_view l.maker.happened.items ≡ happened (map told_view l.yielded);
      known : knowns l.maker.book.known.all.items ≡ known (head_view l.fn.story.header) (map told_view l.yielded);
      short : l.maker.book.short ≡ short (head_view l.fn.story.header);
    }
