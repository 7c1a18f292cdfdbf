-- Its title and its path, in an element.
use Rattle.std.proofs.Common.{◌++◌, [], ap, ◌∙◌}
use Rattle.ciel_look_shown.specs.Markup.{element_bytes, leaf_bytes}
use Rattle.ciel_look_shown.specs.declared.tag.Tag.{Tag}
use Rattle.ciel_look_sheet.specs.Drawn as drawn
use Rattle.ciel_look_sheet.specs.Drawn.{title_bytes}
use Rattle.ciel_look_sheet.proofs.Drawing.{draws_one}
use Rattle.ciel_look_sheet.proofs.sheet.Sheet.arrow.Goals as goal

pub returns : goal.returns
returns c =
    let old = c.args.self.now.marks in
    let title = c.args.tip.now in
    let p = c.in_ok-put_path.ensures.put in
    let inner = p.1 ∙ ap (λ z. z ++ leaf_bytes Tag.Path p.0)
    (c.in_ok-put_title.ensures.put ∙ ap (λ z. z ++ title_bytes title) c.new-inner.ensures) in
    record {
      drawn = draws_one (drawn.arrow title p.0) old _
          (c.in_ok-put_element.ensures.put ∙ ap (λ a. old ++ element_bytes Tag.Group a c.put_path.new.marks) c.new-none.ensures
          ∙ ap (λ i. old ++ element_bytes Tag.Group [] i) inner);
    }
