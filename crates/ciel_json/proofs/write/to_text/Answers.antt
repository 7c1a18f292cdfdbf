-- What is written has no float, so it is the compact text.
use Rattle.std.proofs.Common.{◌≡◌, false, Some, ap, ◌∙◌, sym}
use Rattle.serde_json.specs.Written.{compact_text, has_float}
use Rattle.serde_json.specs.View.{view as json_view}
use Rattle.sky_base.specs.View.{view}
use Rattle.ciel_json.proofs.Given.{json-no_float, text_of-plain}
use Rattle.ciel_json.proofs.write.to_text.Goals as goal

pub returns-in-Ok-clause-text : goal.returns-in-Ok-clause-text
returns-in-Ok-clause-text c =
    let whole : has_float (json_view c.in_ok-json.json) ≡ false =
    ap has_float c.in_ok-json.ensures.json ∙ json-no_float (view c.args.value.now) in
    text_of-plain (view c.args.value.now) c.in_ok-json.ensures.plain
    ∙ ap Some (sym (c.in-Ok.ensures ∙ c.in_ok-text.ensures.text whole ∙ ap compact_text c.in_ok-json.ensures.json))
