use Rattle.std.proofs.Common.{◌-◌, ◌∙◌, ap, length, slice_get}
use Rattle.ciel_table.proofs.Waits.{latest_answer}
use Rattle.ciel_table.proofs.wait.Waits.latest.Goals as goal

pub returns : goal.returns
returns g c =
    latest_answer c.last.result c.args.self.now c.requires.rising
    (c.last.ensures.value ∙ ap (λ xs. slice_get xs (length xs - 1)) (c.deref.ensures.value ∙ c.self.view_is))
