-- The task makes none of those so far.
use Rattle.std.specs.List.{list_any}
use Rattle.ciel_look_tasks.specs.Known.{maker_as, makers}
use Rattle.ciel_look_text.specs.Why.{is_maker}
use Rattle.ciel_look_text.proofs.Going.{Same}
use Rattle.ciel_look_text.proofs.why.takes_object.Given as goal

abbrev pub invariant-loop-name : goal.invariant-loop-name
invariant-loop-name l =
    Same (list_any (λ n. is_maker l.id (maker_as n (makers l.scene.known.all.items)))) l.names l.name-index
