-- From the order that made it, if it is there.
use Rattle.std.proofs.Common.{[], slice_get, sym, subst}
use Rattle.ciel_look_sheet.specs.Drawn.{Draws}
use Rattle.ciel_look_sheet.proofs.Drawing.{draws_none}
use Rattle.ciel_look_lanes.specs.Bars.{copy_title, if_both}
use Rattle.ciel_look_lanes.proofs.lanes.draw_copy.Goals as goal

pub returns-in_ok-draw_from-in-Some : goal.returns-in_ok-draw_from-in-Some
returns-in_ok-draw_from-in-Some c =
    let copied = c.args.copied.now in
    record {
      drawn = subst (λ o. Draws [] (if_both o (slice_get c.args.scene.now.runs.items copied.run) (copy_title copied)) 0 c.args.sheet.now.marks
          c.draw_from.new.sheet.marks) (sym c.in-Some.ensures.order) c.in_ok-draw_from-in-Some.ensures.drawn;
    }

pub returns-in-None : goal.returns-in-None
returns-in-None c =
    let copied = c.args.copied.now in
    record {
      drawn = subst (λ o. Draws [] (if_both o (slice_get c.args.scene.now.runs.items copied.run) (copy_title copied)) 0 c.args.sheet.now.marks
          c.args.sheet.now.marks) (sym c.in-None.ensures.order) (draws_none c.args.sheet.now.marks);
    }
