-- The workers of the name.
use Rattle.std.proofs.Common.{ap, sym, ◌∙◌}
use Rattle.std.specs.List.{list_any}
use Rattle.ciel_look_text.specs.Now.{is_left}
use Rattle.ciel_look_text.specs.Replays.{listed}
use Rattle.ciel_look_text.proofs.replay.Replay.lies.Goals as goal

pub returns-in-Some : goal.returns-in-Some
returns-in-Some c =
    c.any_left.ensures ∙ ap (λ g. list_any (is_left g) c.as_slice.result.now) c.as_slice-in-Some.ensures.value
    ∙ ap (list_any (is_left c.args.self.now.gone.items)) (c.as_slice.ensures.value ∙ ap listed c.in-Some.ensures.value)

pub returns-in-None : goal.returns-in-None
returns-in-None c = ap (λ o. list_any (is_left c.args.self.now.gone.items) (listed o)) c.in-None.ensures.value
