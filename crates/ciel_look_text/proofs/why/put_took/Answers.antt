-- Where it took something.
use Rattle.std.proofs.Common.{◌≡◌, ◌++◌, ◌∷◌, [], ap, append-nil, cond, refl, sym, ◌∙◌}
use Rattle.ciel_look_tasks.specs.SceneView.{taken_view}
use Rattle.ciel_look_text.specs.Text.{text}
use Rattle.ciel_look_text.specs.Why.{took_said}
use Rattle.ciel_look_text.proofs.Telling.{line_put}
use Rattle.ciel_look_text.proofs.why.put_took.Goals as goal

pub returns-then-takes_of : goal.returns-then-takes_of
returns-then-takes_of c =
    let l = taken_view c.args.scene.now c.args.loss.now in
    record {
      lines = line_put c.args.lines.now c.in_ok-line.line _ (took_said l) (c.in_ok-line.ensures.line l refl) c.in_ok-put.ensures.put
          ∙ ap (λ b. c.args.lines.now ++ text (cond b (took_said l ∷ []) [])) (sym c.if-takes_of.true ∙ c.takes_of.ensures);
    }

pub returns : goal.returns
returns c =
    let l = taken_view c.args.scene.now c.args.loss.now in
    record { lines = sym (append-nil c.args.lines.now) ∙ ap (λ b. c.args.lines.now ++ text (cond b (took_said l ∷ []) [])) (sym c.if-takes_of.false ∙ c.takes_of.ensures) }
