use Rattle.std.proofs.Common.{◌∙◌, not, ◌&&◌, ap, sym}
use Rattle.ciel_table.specs.Seen.{row_name}
use Rattle.ciel_table.proofs.ByName.{place_within}
use Rattle.ciel_want.specs.Waited.{same_id}
use Rattle.ciel_want_ready.proofs.FollowerTests.{tells_maker, tells_unknown}
use Rattle.ciel_want_ready.proofs.follow.makes.Goals as goal

pub row-held-requires : goal.row-held-requires
row-held-requires g c =
    record {
      held = place_within row_name c.args.name.now c.args.table.now.rows c.in-Some.row (sym c.find.ensures.row ∙ c.in-Some.is);
    }

pub returns-then-not-is_input : goal.returns-then-not-is_input
returns-then-not-is_input g c =
    let held = c.row-held.result.now in
    let input = sym c.is_input.ensures ∙ c.if-not-is_input.true in
    tells_maker c.args.table.now c.args.task.now c.args.name.now c.in-Some.row held c.is_same.result (sym c.find.ensures.row ∙ c.in-Some.is)
    c.row-held.ensures.row (c.is_same.ensures ∙ ap (λ b. not b && same_id held.task c.args.task.now) (sym input))

pub returns-else-not-is_input : goal.returns-else-not-is_input
returns-else-not-is_input g c =
    let held = c.row-held.result.now in
    let input = sym c.is_input.ensures ∙ c.if-not-is_input.false in
    tells_maker c.args.table.now c.args.task.now c.args.name.now c.in-Some.row held (not c.is_input.result)
    (sym c.find.ensures.row ∙ c.in-Some.is) c.row-held.ensures.row
    (ap not c.if-not-is_input.false ∙ ap (λ b. not b && same_id held.task c.args.task.now) (sym input))

pub returns-in-None : goal.returns-in-None
returns-in-None g c =
    tells_unknown c.args.table.now c.args.task.now c.args.name.now (sym c.find.ensures.row ∙ c.in-None.is)
