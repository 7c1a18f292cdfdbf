-- With its words, or by its name alone.
use Rattle.std.proofs.Common.{ap, sym, ◌∙◌}
use Rattle.ciel_look_shown.specs.Plain.{shown}
use Rattle.ciel_look_tasks.specs.Known.{known_view}
use Rattle.ciel_look_sheet.proofs.Titles.{other_title, own_title}
use Rattle.ciel_look_sheet.proofs.nodes.own_tip.Goals as goal

pub returns-then-is_own : goal.returns-then-is_own
returns-then-is_own c =
    record {
      title = c.in_ok-tip.ensures.title
          ∙ ap shown (sym (own_title c.args.id.now (known_view c.args.known.now) (sym c.is_own.ensures ∙ c.if-is_own.true)));
    }

pub returns : goal.returns
returns c =
    record {
      title = c.in_ok-name.ensures.name
          ∙ ap shown (sym (other_title c.args.id.now (known_view c.args.known.now) (sym c.is_own.ensures ∙ c.if-is_own.false)));
    }
