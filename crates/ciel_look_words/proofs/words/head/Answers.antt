-- What is kept is shown as all of it.
use Rattle.std.proofs.Common.{ap, ◌∙◌, subst}
use Rattle.sky_base.specs.ObjectView.{desc_view}
use Rattle.ciel_look_shown.specs.Plain.{shown}
use Rattle.ciel_look_words.specs.Kept.{Puts}
use Rattle.ciel_look_words.specs.Words.{desc_head}
use Rattle.ciel_look_words.proofs.KeptBytes.{clip_kept}
use Rattle.ciel_look_words.proofs.words.head.Goals as goal

pub returns : goal.returns
returns c =
    let d = desc_view c.args.desc.now in
    let kept = subst (λ old. Puts old (desc_head d) c.put_head.new.out) c.new-short.ensures c.in_ok-put_head.ensures in
    record { head = c.in_ok-text.ensures.clipped ∙ ap shown (clip_kept c.put_head.new.out (desc_head d) kept c.clip.ensures.most) }
