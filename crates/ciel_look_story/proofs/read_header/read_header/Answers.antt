-- The header that was read is the whole record; where none was, none is there.
use Rattle.std.proofs.Common.{◌≡◌, [], ◌∷◌, ap, sym, ◌∙◌}
use Rattle.std.proofs.lemmas.Bool.{false≢true}
use Rattle.ciel_name.proofs.DecodeSteps.{refuses_more}
use Rattle.ciel_look_told.specs.View.{head_view}
use Rattle.ciel_look_story.proofs.Heads.{head_there, no_body, no_end, no_kind}
use Rattle.ciel_look_story.proofs.read_header.read_header.Goals as goal

pub returns-then-kind-ne72-clause-refused : goal.returns-then-kind-ne72-clause-refused
returns-then-kind-ne72-clause-refused c =
    let first = sym c.new-reader.ensures ∙ c.in-Some.ensures in
    no_kind c.args.bytes.now c.byte.new.self c.in-Some.kind first c.if-kind-ne72.true

pub returns-in-Err-clause-refused : goal.returns-in-Err-clause-refused
returns-in-Err-clause-refused c =
    let first = sym c.new-reader.ensures ∙ c.in-Some.ensures ∙ ap (λ k. k ∷ c.byte.new.self) c.if-kind-ne72.false in
    refuses_more c.in-Err.refusal (no_body c.args.bytes.now c.byte.new.self first) c.in-Err.ensures.refused

pub returns-then-not-is_empty-clause-refused : goal.returns-then-not-is_empty-clause-refused
returns-then-not-is_empty-clause-refused c =
    let first = sym c.new-reader.ensures ∙ c.in-Some.ensures ∙ ap (λ k. k ∷ c.byte.new.self) c.if-kind-ne72.false in
    let more : c.read_body.new.reader ≡ [] → ⊥ = λ e. false≢true (sym c.if-not-is_empty.true ∙ c.is_empty.ensures.1 e) in
    no_end c.args.bytes.now c.byte.new.self (head_view c.in-Ok.header) c.read_body.new.reader first c.in-Ok.ensures.header more

pub returns-clause-header : goal.returns-clause-header
returns-clause-header c =
    let first = sym c.new-reader.ensures ∙ c.in-Some.ensures ∙ ap (λ k. k ∷ c.byte.new.self) c.if-kind-ne72.false in
    head_there c.args.bytes.now c.byte.new.self (head_view c.in-Ok.header) c.read_body.new.reader first c.in-Ok.ensures.header
    (c.is_empty.ensures.0 c.if-not-is_empty.false)
