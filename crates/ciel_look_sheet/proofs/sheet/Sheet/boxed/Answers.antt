-- Its title, its shape and the text in it, in an element.
use Rattle.std.proofs.Common.{◌++◌, [], ap, ◌∙◌}
use Rattle.ciel_look_shown.specs.Markup.{element_bytes, leaf_bytes}
use Rattle.ciel_look_shown.specs.declared.tag.Tag.{Tag}
use Rattle.ciel_look_sheet.specs.Drawn as drawn
use Rattle.ciel_look_sheet.specs.Drawn.{title_bytes, words_bytes}
use Rattle.ciel_look_sheet.proofs.Drawing.{draws_one}
use Rattle.ciel_look_sheet.proofs.sheet.Sheet.boxed.Goals as goal

pub returns : goal.returns
returns c =
    let old = c.args.self.now.marks in
    let title = c.args.tip.now in
    let shape = c.in_ok-put_box.ensures.put in
    let label = c.in_ok-put_text.ensures.put in
    let inner = label.1 ∙ ap (λ z. z ++ words_bytes label.0 c.in_ok-label.label)
    (shape.1 ∙ ap (λ z. z ++ leaf_bytes Tag.Rect shape.0)
    (c.in_ok-put_title.ensures.put ∙ ap (λ z. z ++ title_bytes title) c.new-inner.ensures)) in
    record {
      drawn = draws_one (drawn.boxed title shape.0 label.0 c.in_ok-label.label) old _
          (c.reach.ensures.marks ∙ c.in_ok-put_element.ensures.put
          ∙ ap (λ a. old ++ element_bytes Tag.Group a c.put_text.new.marks) c.new-attributes.ensures
          ∙ ap (λ i. old ++ element_bytes Tag.Group [] i) inner);
    }
