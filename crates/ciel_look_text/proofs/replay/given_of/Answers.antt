-- Where the description is its own.
use Rattle.std.proofs.Common.{Some, None, ap, cond, sym, ◌∙◌}
use Rattle.sky_base.specs.ObjectView.{desc_view}
use Rattle.ciel_look_tasks.specs.Heads.{own_desc}
use Rattle.ciel_look_text.specs.Now.{given_names}
use Rattle.ciel_look_text.proofs.replay.given_of.Goals as goal

pub returns-then-is_own : goal.returns-then-is_own
returns-then-is_own c =
    let d = desc_view c.in-Some.known.now.desc in
    record {
      names = c.in_ok-names-in-Some.ensures.names
          ∙ ap (λ b. given_names (cond b (Some d) None)) (sym c.if-is_own.true ∙ c.is_own.ensures)
          ∙ ap (λ o. given_names (own_desc c.args.task.now.id o)) (sym c.in-Some.ensures.known);
    }

pub returns-else-is_own : goal.returns-else-is_own
returns-else-is_own c =
    let d = desc_view c.in-Some.known.now.desc in
    record {
      names = c.new.ensures.items
          ∙ ap (λ b. given_names (cond b (Some d) None)) (sym c.if-is_own.false ∙ c.is_own.ensures)
          ∙ ap (λ o. given_names (own_desc c.args.task.now.id o)) (sym c.in-Some.ensures.known);
    }

pub returns-in-None : goal.returns-in-None
returns-in-None c =
    record { names = c.new-in-None.ensures.items ∙ ap (λ o. given_names (own_desc c.args.task.now.id o)) (sym c.in-None.ensures.known) }
