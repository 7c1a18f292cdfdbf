-- The value is the one that `serde_json` read, or there is none.
use Rattle.std.proofs.Common.{option_and_then, inr, refl, sym, ap, ◌∙◌}
use Rattle.std.proofs.lemmas.Bool.{false≢true}
use Rattle.std.proofs.lemmas.Result.{IfOk-weaker}
use Rattle.ciel_json.specs.Read.{value_of}
use Rattle.ciel_json.proofs.Taken.{value_read-utf8, value_read-none}
use Rattle.ciel_json.proofs.read.read.Goals as goal

pub returns-in-Ok-clause-value : goal.returns-in-Ok-clause-value
returns-in-Ok-clause-value c =
    let is = c.in-Ok.ensures.ok in
    IfOk-weaker c.take.result _ _ (λ v h. value_read-utf8 c.args.bytes.now is.0 ∙ ap (option_and_then value_of) is.1 ∙ h) c.take.ensures.value

pub returns-else-is_memory-clause-not_data : goal.returns-else-is_memory-clause-not_data
returns-else-is_memory-clause-not_data c =
    inr (
      refl,
      value_read-none c.args.bytes.now
          (λ u. ap (option_and_then value_of) (c.in-Err.ensures.err (λ m. false≢true (sym c.if-is_memory.false ∙ c.is_memory.ensures.1 m)) u)),
    )
