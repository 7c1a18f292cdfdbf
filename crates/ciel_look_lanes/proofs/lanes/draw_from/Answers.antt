-- To the order that took it along, if it is there.
use Rattle.std.proofs.Common.{Some, None, [], ap, slice_get, subst, ◌∙◌}
use Rattle.ciel_look_tasks.proofs.KnownSteps.{get_is}
use Rattle.ciel_look_sheet.specs.Drawn.{Draws}
use Rattle.ciel_look_sheet.proofs.Drawing.{draws_none}
use Rattle.ciel_look_lanes.specs.Bars.{copy_title, if_both}
use Rattle.ciel_look_lanes.proofs.lanes.draw_from.Goals as goal

pub returns-in_ok-draw_arrow-in-Some : goal.returns-in_ok-draw_arrow-in-Some
returns-in_ok-draw_arrow-in-Some c =
    let copied = c.args.copied.now in
    let there = get_is c.deref.result.now copied.run (Some c.in-Some.to) c.in-Some.ensures.lookup
    ∙ ap (λ rs. slice_get rs copied.run) c.deref.ensures.value in
    record {
      drawn = subst (λ o. Draws [] (if_both (Some c.args.from.now) o (copy_title copied)) 0 c.args.sheet.now.marks c.draw_arrow.new.sheet.marks) there
          c.in_ok-draw_arrow-in-Some.ensures.drawn;
    }

pub returns-in-None : goal.returns-in-None
returns-in-None c =
    let copied = c.args.copied.now in
    let there = get_is c.deref.result.now copied.run None c.in-None.ensures.lookup ∙ ap (λ rs. slice_get rs copied.run) c.deref.ensures.value in
    record {
      drawn = subst (λ o. Draws [] (if_both (Some c.args.from.now) o (copy_title copied)) 0 c.args.sheet.now.marks c.args.sheet.now.marks) there
          (draws_none c.args.sheet.now.marks);
    }
