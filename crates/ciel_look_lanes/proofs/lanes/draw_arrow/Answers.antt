-- The title is the name.
use Rattle.std.proofs.Common.{[], ◌∷◌, ap, codes, subst, ◌∙◌, ◌++◌}
use Rattle.hex.specs.Hex.{encode_lower}
use Rattle.ciel_look_sheet.specs.Drawn.{Draws}
use Rattle.ciel_look_lanes.proofs.Bars.{title_ends}
use Rattle.ciel_look_lanes.proofs.lanes.draw_arrow.Goals as goal

pub returns : goal.returns
returns c =
    let first = c.in_ok-tip.tip in
    let title = title_ends (codes "copy of ") (encode_lower c.args.copied.now.name) first _ c.in_ok-tip.ensures.words
    (c.in_ok-put_all.ensures.put ∙ ap (λ z. first ++ z) c.in_ok-name.ensures.whole) in
    record {
      drawn = subst (λ n. Draws [] (n ∷ []) 0 c.args.sheet.now.marks c.arrow.new.self.marks) title c.in_ok-arrow.ensures.drawn;
    }
