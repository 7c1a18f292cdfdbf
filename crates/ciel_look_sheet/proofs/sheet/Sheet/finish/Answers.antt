-- The marks stand in an element behind the head and the ground.
use Rattle.std.proofs.Common.{◌++◌, ap, ◌∙◌}
use Rattle.ciel_look_shown.specs.Markup.{element_bytes}
use Rattle.ciel_look_shown.specs.declared.tag.Tag.{Tag}
use Rattle.ciel_look_sheet.proofs.sheet.Sheet.finish.Goals as goal

pub returns-clause-drawn : goal.returns-clause-drawn
returns-clause-drawn c =
    record {
      attributes = c.word-2.new.attributes;
      front = c.put_ground.new.marks;
      element = c.in_ok-picture.ensures.bytes
          ∙ ap (element_bytes Tag.Svg c.word-2.new.attributes)
          (c.in_ok-put_element.ensures.put
          ∙ ap (λ a. c.put_ground.new.marks ++ element_bytes Tag.Group a c.args.self.marks) c.new-empty.ensures);
    }
