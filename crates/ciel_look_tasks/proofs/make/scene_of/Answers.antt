-- One entry more is told.
use Rattle.std.proofs.Common.{◌≡◌, ◌++◌, ◌∷◌, [], ap, append_assoc, length, map, subst, sym, ◌∙◌}
use Rattle.ciel_look_told.specs.View.{head_view, told_view}
use Rattle.ciel_look_told.specs.Head.{short}
use Rattle.ciel_look_tasks.specs.Known.{knowns}
use Rattle.ciel_look_tasks.specs.Learned.{AreMade, learned, made_by, spawned}
use Rattle.ciel_look_tasks.specs.ObjectPlaces.{objects_view}
use Rattle.ciel_look_tasks.specs.Objects.{AreTaken}
use Rattle.ciel_look_tasks.specs.Stacks.{stacked}
use Rattle.ciel_look_tasks.specs.View.{ids, starts_view}
use Rattle.ciel_look_tasks.proofs.AgainSteps.{agains_next}
use Rattle.ciel_look_tasks.proofs.CutSteps.{cuts_next}
use Rattle.ciel_look_tasks.proofs.HappenedSteps.{happened_next}
use Rattle.ciel_look_tasks.proofs.KnownSteps.{known_next}
use Rattle.ciel_look_tasks.proofs.ObjectSteps.{gone_next, placed_next, taken_next}
use Rattle.ciel_look_tasks.proofs.ReportSteps.{makes_next, names_next, takes_next}
use Rattle.ciel_look_tasks.proofs.RollSteps.{all_yielded, heads_next, heads_same, losses_next, rows_same, starts_next, tasks_next}
use Rattle.ciel_look_tasks.proofs.RunSteps.{orders_next}
use Rattle.ciel_look_tasks.proofs.StackSteps.{counts_seen, stacked_next}
use Rattle.ciel_look_tasks.proofs.make.scene_of.Goals as goal

pub loop-one-preserved : goal.loop-one-preserved
loop-one-preserved c =
    let l = c.loop-one in
    let more = c.in_ok-take.ensures.known
    ∙ ap (λ b. learned b (knowns l.maker.book.known.all.items) (spawned (told_view c.in-Some.one))) l.invariant.short in
    record {
      so_far = append_assoc l.yielded (c.in-Some.one ∷ []) c.next.new.self.rest.items
          ∙ (ap (λ ts. l.yielded ++ ts) (sym c.in-Some.ensures.steps.0) ∙ l.invariant.so_far);
      rows = c.in_ok-take.ensures.rows l.invariant.rows;
      descs = heads_next (head_view c.args.story.header) l.yielded c.in-Some.one l.maker.roll.tasks.items _ l.maker.book.known.all.items _
          l.invariant.descs l.invariant.known l.invariant.tasks more c.in_ok-take.ensures.headings;
      tasks = tasks_next l.yielded c.in-Some.one _ _ l.invariant.tasks c.in_ok-take.ensures.tasks;
      starts = starts_next l.yielded c.in-Some.one _ _ l.invariant.starts c.in_ok-take.ensures.starts;
      orders = orders_next l.yielded c.in-Some.one _ _ l.invariant.orders c.in_ok-take.ensures.orders;
      agains = agains_next l.maker.origins (starts_view l.maker.starts.runs.items) l.yielded c.in-Some.one _ _ l.invariant.origins
          l.invariant.starts l.invariant.agains c.in_ok-take.ensures.agains;
      origins = c.in_ok-take.ensures.origins l.invariant.origins;
      cuts = cuts_next l.yielded c.in-Some.one _ _ _ l.invariant.orders l.invariant.cuts (c.in_ok-take.ensures.cuts l.invariant.kept);
      kept = c.in_ok-take.ensures.kept l.invariant.kept;
      took = takes_next (head_view c.args.story.header) l.yielded c.in-Some.one l.maker.book.short _ _ _ l.invariant.short l.invariant.orders
          l.invariant.took c.in_ok-take.ensures.took;
      outputs = makes_next (head_view c.args.story.header) l.yielded c.in-Some.one l.maker.book.short l.maker.book.outputs _ _ _ l.invariant.short
          l.invariant.names l.invariant.orders l.invariant.outputs c.in_ok-take.ensures.outputs;
      names = names_next (head_view c.args.story.header) l.yielded c.in-Some.one l.maker.book.short l.maker.book.outputs c.take.new.self.book.outputs
          l.invariant.short l.invariant.names c.in_ok-take.ensures.names;
      places = placed_next (head_view c.args.story.header) l.yielded c.in-Some.one l.maker.book.short l.maker.book.outputs _ l.maker.places.at
          c.take.new.self.places.at l.invariant.short l.invariant.names l.invariant.orders l.invariant.places c.in_ok-take.ensures.places;
      gone = gone_next l.yielded c.in-Some.one l.maker.places.gone.items _ l.invariant.gone c.in_ok-take.ensures.gone;
      objects = taken_next (head_view c.args.story.header) l.yielded c.in-Some.one l.maker.places.gone.items l.maker.places.at _ _ l.invariant.gone
          l.invariant.places l.invariant.objects c.in_ok-take.ensures.objects;
      stacked = stacked_next l.yielded c.in-Some.one _ _ _ _ l.invariant.tasks l.invariant.orders l.invariant.stacked
          (c.in_ok-take.ensures.stacked l.invariant.rows l.invariant.have);
      have = c.in_ok-take.ensures.have l.invariant.rows l.invariant.have;
      losses = losses_next l.yielded c.in-Some.one _ _ l.invariant.losses c.in_ok-take.ensures.losses;
      made = subst (λ b. AreMade b c.take.new.self.book.known.all.items) l.invariant.short
          (c.in_ok-take.ensures.made (subst (λ b. AreMade b l.maker.book.known.all.items) (sym l.invariant.short) l.invariant.made));
      happened = happened_next l.yielded c.in-Some.one _ _ _ _ _ l.invariant.starts l.invariant.orders l.invariant.losses l.invariant.happened
          c.in_ok-take.ensures.happened;
      short = c.take.ensures.short ∙ l.invariant.short;
      known = known_next (head_view c.args.story.header) l.yielded c.in-Some.one _ _ l.invariant.known more;
    }

pub returns-clause-rows : goal.returns-clause-rows
returns-clause-rows c =
    rows_same _ _ _ _ c.into_scene.ensures.rows c.into_scene.ensures.starts c.loop-one.invariant.rows

pub returns-clause-descs : goal.returns-clause-descs
returns-clause-descs c =
    let l = c.loop-one in
    let rest = l.one-iterator.rest in
    let none : length rest.items ≡ 0 = sym rest.ok.0 ∙ c.in-None.ensures.steps.0 in
    let all = all_yielded l.yielded rest.items c.args.story.told.items none l.invariant.so_far in
    heads_same (head_view c.args.story.header) _ _ _ _ _ _ c.into_scene.ensures.headings c.into_scene.ensures.known all l.invariant.descs

pub returns-clause-stacks : goal.returns-clause-stacks
returns-clause-stacks c =
    let l = c.loop-one in
    let rest = l.one-iterator.rest in
    let none : length rest.items ≡ 0 = sym rest.ok.0 ∙ c.in-None.ensures.steps.0 in
    let all = all_yielded l.yielded rest.items c.args.story.told.items none l.invariant.so_far in
    c.into_scene.ensures.stacks ∙ counts_seen (ids l.maker.roll.tasks.items) l.maker.losses.items l.invariant.have
    ∙ ap (map length) (l.invariant.stacked ∙ ap (λ ts. stacked (map told_view ts)) all)

pub returns-clause-objects : goal.returns-clause-objects
returns-clause-objects c =
    let l = c.loop-one in
    let h = head_view c.args.story.header in
    let rest = l.one-iterator.rest in
    let none : length rest.items ≡ 0 = sym rest.ok.0 ∙ c.in-None.ensures.steps.0 in
    let all = all_yielded l.yielded rest.items c.args.story.told.items none l.invariant.so_far in
    subst (AreTaken h (map told_view c.args.story.told.items)) (sym c.into_scene.ensures.objects)
    (subst (λ ts. AreTaken h (map told_view ts) (objects_view l.maker.losses.items)) all l.invariant.objects)

pub returns-clause-made : goal.returns-clause-made
returns-clause-made c =
    c.into_scene.ensures.makers ∙ c.loop-one.invariant.made
    ∙ ap (map (made_by (short (head_view c.args.story.header)))) (sym c.into_scene.ensures.known)
