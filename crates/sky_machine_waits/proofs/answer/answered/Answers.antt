use Rattle.std.proofs.Common.{map, sym, ap, ◌∙◌}
use Rattle.sky_base.specs.Val.{known}
use Rattle.sky_base.specs.Eval.{wait_end}
use Rattle.sky_base.specs.ObjectView.{object_view}
use Rattle.sky_base.specs.TreeView.{at}
use Rattle.sky_machine_entries.specs.Entries.{wait_of}
use Rattle.sky_machine_waits.proofs.Innermost.{first_object}
use Rattle.sky_machine_waits.proofs.answer.answered.Goals as goal

pub returns-in_ok-end-in-Some-clause-end : goal.returns-in_ok-end-in-Some-clause-end
returns-in_ok-end-in-Some-clause-end c = λ w h.
    c.in_ok-end-in-Some.ensures.end w h (known c.in-One.name)
    ∙ sym (first_object w (at c.in-One.line c.in-One.col) (known c.in-One.name) c.args.answers.now c.in-Some.object.now (sym c.in-Some.ensures.value))
    ∙ ap (λ q. wait_end w (wait_of q) (map object_view c.args.answers.now)) (sym c.in-One.is)
