use Rattle.std.proofs.Common.{◌≡◌, [], ◌∷◌, ap, subst, ◌∙◌, rules, IfOk}
use Rattle.sky_base.specs.KitView.{RunsSo}
use Rattle.line_kit.specs.Gives.{Answer}
use Rattle.line_kit.specs.Written.{closed}
use Rattle.line_kit.proofs.WrittenLaw.{closed_one}
use Rattle.line_kit.proofs.output.Output.alone.Goals as goal

pub returns : goal.returns
returns c = λ ls e.
    let pushed : c.push.new.self.items ≡ c.args.self ∷ [] = search rules in
    subst (λ (a : Answer). IfOk c.close.result (λ r. RunsSo r a)) (ap closed pushed ∙ closed_one c.args.self ls e) c.close.ensures
