-- Where the bytes are not UTF-8.
use Rattle.std.proofs.Common.{◌∙◌, arith, inr}
use Rattle.sky_text.proofs.LexingSteps.{of_others}
use Rattle.sky_text.proofs.Within.{few_tokens, refused_within}
use Rattle.sky_text.proofs.lex.lex.Goals as goal

pub returns-in-Err-clause-refused : goal.returns-in-Err-clause-refused
returns-in-Err-clause-refused c =
    let short = c.in-Err.ensures.cases.1.short in
    inr (of_others c.args.bytes.now c.valid_up_to.result (c.valid_up_to.ensures ∙ c.in-Err.ensures.valid_len)
    (omega (arith, short, c.valid_up_to.ensures)))

pub returns-in-Ok-clause-few : goal.returns-in-Ok-clause-few
returns-in-Ok-clause-few c = few_tokens c.args.bytes.now c.read.result c.read.ensures.tokens

pub returns-in-Ok-clause-within : goal.returns-in-Ok-clause-within
returns-in-Ok-clause-within c = refused_within c.args.bytes.now c.read.result c.read.ensures.refused
