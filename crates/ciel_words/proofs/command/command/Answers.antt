use Rattle.std.proofs.Common.{◌≡◌, codes, true, ap, ap₂, ◌∙◌}
use Rattle.std.proofs.lemmas.Result.{IfOk-weaker}
use Rattle.clap.specs.Simple.{app_of, app_of_fields, on_top, with_rule}
use Rattle.ciel_words.specs.Command.{bare}
use Rattle.ciel_words.proofs.command.command.Goals as goal

pub returns : goal.returns
returns c =
    let bare_is : app_of c.disable_version_flag.result ≡ bare (codes "ciel") =
    ap app_of_fields c.disable_version_flag.ensures
    ∙ ap (on_top (λ s. record s { disable_version_flag = true })) (ap app_of_fields c.disable_help_flag.ensures
    ∙ ap (on_top (λ s. record s { disable_help_flag = true })) (ap app_of_fields c.no_binary_name.ensures
    ∙ ap (on_top (λ s. record s { no_binary_name = true })) c.new.ensures.app)) in
    let one = c.in_ok-arg.ensures.shape c.option.ensures.local ∙ ap₂ with_rule bare_is c.option.ensures.rule in
    let two = c.in_ok-arg-2.ensures.shape c.option-2.ensures.local ∙ ap₂ with_rule one c.option-2.ensures.rule in
    let three = c.in_ok-arg-3.ensures.shape c.option-3.ensures.local ∙ ap₂ with_rule two c.option-3.ensures.rule in
    let four = c.in_ok-arg-4.ensures.shape c.option-4.ensures.local ∙ ap₂ with_rule three c.option-4.ensures.rule in
    let five = c.in_ok-arg-5.ensures.shape c.option-5.ensures.local ∙ ap₂ with_rule four c.option-5.ensures.rule in
    let six = c.in_ok-arg-6.ensures.shape c.option-6.ensures.local ∙ ap₂ with_rule five c.option-6.ensures.rule in
    let seven = c.in_ok-arg-7.ensures.shape c.option-7.ensures.local ∙ ap₂ with_rule six c.option-7.ensures.rule in
    let eight = c.in_ok-arg-8.ensures.shape c.option-8.ensures.local ∙ ap₂ with_rule seven c.option-8.ensures.rule in
    let nine = c.in_ok-arg-9.ensures.shape c.option-9.ensures.local ∙ ap₂ with_rule eight c.option-9.ensures.rule in
    let ten = c.in_ok-arg-10.ensures.shape c.option-10.ensures.local ∙ ap₂ with_rule nine c.option-10.ensures.rule in
    let eleven = c.in_ok-arg-11.ensures.shape c.flag.ensures.local ∙ ap₂ with_rule ten c.flag.ensures.rule in
    let twelve = c.in_ok-arg-12.ensures.shape c.flag-2.ensures.local ∙ ap₂ with_rule eleven c.flag-2.ensures.rule in
    let thirteen = c.in_ok-arg-13.ensures.shape c.flag-3.ensures.local ∙ ap₂ with_rule twelve c.flag-3.ensures.rule in
    IfOk-weaker c.arg-14.result _ _ (λ r h. h.shape c.words.ensures.local ∙ ap₂ with_rule thirteen c.words.ensures.rule) c.arg-14.ensures
