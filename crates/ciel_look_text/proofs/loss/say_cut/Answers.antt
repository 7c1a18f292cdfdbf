-- None, or their numbers.
use Rattle.std.proofs.Common.{◌≡◌, [], ◌++◌, ap, codes, false, map, subst, sym, true, ◌∙◌}
use Rattle.ciel_look_tasks.specs.SceneView.{picked}
use Rattle.ciel_look_text.specs.Says.{Says, SaysSome}
use Rattle.ciel_look_shown.specs.Plain.{shown}
use Rattle.ciel_look_text.specs.Runs.{number_said}
use Rattle.ciel_look_text.specs.Words.{led}
use Rattle.ciel_look_text.proofs.Saying.{says_all}
use Rattle.ciel_look_text.proofs.Parts.{cut_none, cut_some, some_none, some_one}
use Rattle.ciel_look_text.proofs.loss.say_cut.Goals as goal

pub returns-then-none : goal.returns-then-none
returns-then-none c =
    let runs = picked c.args.scene.now.runs.items c.args.places.now in
    record {
      said = subst (λ ps. SaysSome [] (codes "; ") c.args.first c.args.line.now ps c.args.line.now c.args.first)
          (sym (cut_none runs (sym c.in_ok-none.ensures.said.empty ∙ c.if-none.true))) (some_none [] (codes "; ") c.args.first c.args.line.now);
    }

pub returns : goal.returns
returns c =
    let runs = picked c.args.scene.now.runs.items c.args.places.now in
    let part : c.say_numbers.new.line ≡ shown (led (codes "start ") (codes ", start ") (map number_said runs)) =
    says_all _ _ _ c.new-part.ensures c.in_ok-none.ensures.said.put in
    record {
      said = subst (λ ps. SaysSome [] (codes "; ") c.args.first c.args.line.now ps c.put_all.new.self false)
          (sym (cut_some runs (sym c.in_ok-none.ensures.said.empty ∙ c.if-none.false)))
          (some_one [] (codes "; ") c.args.first c.args.line.now c.say_lead.new.line c.put_all.new.self _ c.in_ok-say_lead.ensures.said
          (record { said = c.in_ok-put_all.ensures.put ∙ ap (λ z. c.say_lead.new.line ++ z) part }));
    }
