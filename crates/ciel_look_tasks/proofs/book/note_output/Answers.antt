-- Of an output, or of what is none.
use Rattle.std.proofs.Common.{ap, refl}
use Rattle.sky_base.specs.ObjectView.{desc_view}
use Rattle.ciel_look_tasks.proofs.OutputSteps.{noted_other, noted_output}
use Rattle.ciel_look_tasks.proofs.book.note_output.Goals as goal

pub returns-in_ok-put_output-in-Exec : goal.returns-in_ok-put_output-in-Exec
returns-in_ok-put_output-in-Exec c =
    record {
      noted = noted_output c.args.one.now _ _ _ _ c.args.names.now c.put_output.new.names (ap desc_view c.in-Exec.is)
          c.in_ok-put_output-in-Exec.ensures.put;
    }

pub returns-in-Call : goal.returns-in-Call
returns-in-Call c = record { noted = noted_other c.args.one.now _ c.args.names.now (ap desc_view c.in-Call.is) (λ n i. refl) }

pub returns-in-Input : goal.returns-in-Input
returns-in-Input c = record { noted = noted_other c.args.one.now _ c.args.names.now (ap desc_view c.in-Input.is) (λ n i. refl) }
