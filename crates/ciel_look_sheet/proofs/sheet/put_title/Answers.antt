-- The text of the title, in an element.
use Rattle.std.proofs.Common.{◌++◌, [], ap, ◌∙◌}
use Rattle.ciel_look_shown.specs.Markup.{element_bytes, escape}
use Rattle.ciel_look_shown.specs.declared.tag.Tag.{Tag}
use Rattle.ciel_look_sheet.proofs.sheet.put_title.Goals as goal

pub returns : goal.returns
returns c =
    let old = c.args.marks.now in
    record {
      put = c.in_ok-put_element.ensures.put ∙ ap (λ a. old ++ element_bytes Tag.Title a c.put_text.new.self) c.new-attributes.ensures
          ∙ ap (λ i. old ++ element_bytes Tag.Title [] i) (c.in_ok-put_text.ensures.put ∙ ap (λ z. z ++ escape c.args.tip.now) c.new-inner.ensures);
    }
