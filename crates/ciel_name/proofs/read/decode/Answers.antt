-- The value that was read is the only one that the bytes can be.
use Rattle.std.proofs.Common.{◌≡◌, [], sym, ◌∙◌, subst}
use Rattle.std.proofs.lemmas.Bool.{false≢true}
use Rattle.sky_base.specs.View.{view}
use Rattle.ciel_name.specs.Spelled.{NoData}
use Rattle.ciel_name.proofs.DecodeSteps.{refuses_more, the_value, data_none, data_more}
use Rattle.ciel_name.proofs.read.decode.Goals as goal

pub returns-in-Err-clause-refused : goal.returns-in-Err-clause-refused
returns-in-Err-clause-refused c =
    refuses_more c.in-Err.refusal (λ n. subst NoData c.new-reader.ensures (data_none c.new-reader.result n)) c.in-Err.ensures.refused

pub returns-then-not-is_empty-clause-refused : goal.returns-then-not-is_empty-clause-refused
returns-then-not-is_empty-clause-refused c =
    let more : c.read_value.new.reader ≡ [] → ⊥ = λ e. false≢true (sym c.if-not-is_empty.true ∙ c.is_empty.ensures.1 e) in
    subst NoData c.new-reader.ensures (data_more c.new-reader.result (view c.in-Ok.value) c.read_value.new.reader c.in-Ok.ensures.value more)

pub returns-clause-inverse : goal.returns-clause-inverse
returns-clause-inverse c w p e =
    (the_value c.new-reader.result (view c.in-Ok.value) c.read_value.new.reader w c.in-Ok.ensures.value p (e ∙ sym c.new-reader.ensures)).0
