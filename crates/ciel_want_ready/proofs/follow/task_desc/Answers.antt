use Rattle.std.proofs.Common.{◌∙◌, ap, sym, Some}
use Rattle.ciel_table.specs.Seen.{row_name}
use Rattle.ciel_table.proofs.ByName.{place_within}
use Rattle.ciel_want_ready.specs.Following.{task_desc}
use Rattle.ciel_want_ready.proofs.FollowerTests.{desc_found, desc_unknown}
use Rattle.ciel_want_ready.proofs.follow.task_desc.Goals as goal

pub row-requires : goal.row-requires
row-requires g c =
    record {
      held = place_within row_name c.in-Of.name c.args.table.now.rows c.in-Some.row (sym c.find.ensures.row ∙ c.in-Some.is);
    }

pub returns-in_ok-desc-in-Some : goal.returns-in_ok-desc-in-Some
returns-in_ok-desc-in-Some g c =
    let t = c.args.table.now in
    ap (λ d. Some d) c.in_ok-desc-in-Some.ensures
    ∙ sym (ap (task_desc t) c.in-Of.is
    ∙ desc_found t c.in-Of.name c.in-Some.row c.row.result.now (sym c.find.ensures.row ∙ c.in-Some.is) c.row.ensures.row)

pub returns-in-None : goal.returns-in-None
returns-in-None g c =
    let t = c.args.table.now in
    sym (ap (task_desc t) c.in-Of.is ∙ desc_unknown t c.in-Of.name (sym c.find.ensures.row ∙ c.in-None.is))
