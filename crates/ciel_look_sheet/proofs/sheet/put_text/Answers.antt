-- The text, in an element with these attributes.
use Rattle.std.proofs.Common.{◌++◌, ap, ◌∙◌}
use Rattle.ciel_look_shown.specs.Markup.{element_bytes, escape}
use Rattle.ciel_look_shown.specs.declared.tag.Tag.{Tag}
use Rattle.ciel_look_sheet.proofs.sheet.put_text.Goals as goal

pub returns : goal.returns
returns c =
    record {
      put = (
        c.word.new.attributes,
        c.in_ok-put_element.ensures.put
            ∙ ap (λ i. c.args.marks.now ++ element_bytes Tag.Text c.word.new.attributes i)
            (c.in_ok-put_text.ensures.put ∙ ap (λ z. z ++ escape c.args.text.now) c.new-inner.ensures),
      );
    }
