-- The description that was read is the only one that the bytes can be.
use Rattle.std.proofs.Common.{◌≡◌, [], ◌∷◌, ap, sym, ◌∙◌, subst}
use Rattle.std.proofs.lemmas.Bool.{false≢true}
use Rattle.sky_base.specs.ObjectView.{desc_view}
use Rattle.ciel_name.specs.Descs.{NoDesc}
use Rattle.ciel_name.proofs.DecodeSteps.{refuses_more}
use Rattle.ciel_name.proofs.DescSteps.{desc_more, desc_none, same_desc}
use Rattle.ciel_name.proofs.read_object.read_desc.Goals as goal

pub returns-in-Err-clause-refused : goal.returns-in-Err-clause-refused
returns-in-Err-clause-refused c =
    let first = sym c.new-reader.ensures ∙ c.in-Some.ensures in
    refuses_more c.in-Err.refusal (desc_none c.args.encoded.now c.byte.new.self c.in-Some.kind first) c.in-Err.ensures.refused

pub returns-then-not-is_empty-clause-refused : goal.returns-then-not-is_empty-clause-refused
returns-then-not-is_empty-clause-refused c =
    let first = sym c.new-reader.ensures ∙ c.in-Some.ensures in
    let more : c.read_desc_body.new.reader ≡ [] → ⊥ = λ e. false≢true (sym c.if-not-is_empty.true ∙ c.is_empty.ensures.1 e) in
    desc_more c.args.encoded.now c.byte.new.self c.in-Some.kind (desc_view c.in-Ok.desc) c.read_desc_body.new.reader first c.in-Ok.ensures.desc more

pub returns-clause-inverse : goal.returns-clause-inverse
returns-clause-inverse c w p e =
    let first = sym c.new-reader.ensures ∙ c.in-Some.ensures in
    same_desc c.args.encoded.now c.byte.new.self c.in-Some.kind (desc_view c.in-Ok.desc) c.read_desc_body.new.reader first c.in-Ok.ensures.desc
    (c.is_empty.ensures.0 c.if-not-is_empty.false) w p e
