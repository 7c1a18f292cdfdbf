-- None, or in a row.
use Rattle.std.proofs.Common.{[], codes, subst, sym, ◌∙◌, length, true, false}
use Rattle.std.proofs.lemmas.Bool.{eqb-false, eqb-true}
use Rattle.ciel_look_tasks.specs.Known.{knowns}
use Rattle.ciel_look_text.specs.Says.{SaysSome}
use Rattle.ciel_look_text.proofs.Saying.{says_none}
use Rattle.ciel_look_text.proofs.Parts.{objects_none, objects_some, some_none, some_one}
use Rattle.ciel_look_text.proofs.loss.say_objects.Goals as goal

pub returns-then-is_empty : goal.returns-then-is_empty
returns-then-is_empty c =
    record {
      said = subst (λ ps. SaysSome [] (codes "; ") true c.args.line.now ps c.args.line.now true)
          (sym (objects_none (knowns c.args.scene.now.known.all.items) c.args.names.now (eqb-true _ 0 (sym c.is_empty.ensures ∙ c.if-is_empty.true))))
          (some_none [] (codes "; ") true c.args.line.now);
    }

pub returns : goal.returns
returns c =
    record {
      said = subst (λ ps. SaysSome [] (codes "; ") true c.args.line.now ps c.say_row.new.line false)
          (sym (objects_some (knowns c.args.scene.now.known.all.items) c.args.names.now (eqb-false _ 0 (sym c.is_empty.ensures ∙ c.if-is_empty.false))))
          (some_one [] (codes "; ") true c.args.line.now c.args.line.now c.say_row.new.line _ (says_none c.args.line.now) c.in_ok-say_row.ensures.said);
    }
