use Rattle.std.proofs.Common.{◌≡◌, ◌+◌, true, false, ap, sym, ◌∙◌, subst, arith}
use Rattle.ciel_name.proofs.DecodeSteps.{refuses_more}
use Rattle.ciel_name.specs.Bodies.{is_above}
use Rattle.sky_base.specs.Op.{put}
use Rattle.sky_base.specs.View.{view}
use Rattle.sky_frozen_bytes.proofs.Parts.{VarsRead, no_vars, vars_text, vars_low, vars_none, vars_more}
use Rattle.sky_frozen_bytes.proofs.read.read_vars.Goals as goal

pub returns-in-Err-clause-refused : goal.returns-in-Err-clause-refused
returns-in-Err-clause-refused c =
    let l = c.loop-var in
    refuses_more c.in-Err.refusal (λ none. no_vars c.args.reader.now c.in-Some.count c.number.new.self c.in-Some.ensures (omega arith)
    (vars_text l._var c.in-Some.count c.number.new.self l.vars l.reader l.invariant (omega arith) none)) c.in-Err.ensures.refused

pub returns-then-not-is_above-clause-refused : goal.returns-then-not-is_above-clause-refused
returns-then-not-is_above-clause-refused c =
    let l = c.loop-var in
    let low : is_above c.in-Ok.name l.vars ≡ false = ap (is_above c.in-Ok.name) (sym c.as_slice.ensures.pairs) ∙ sym c.is_above.ensures.above
    ∙ c.if-not-is_above.true in
    no_vars c.args.reader.now c.in-Some.count c.number.new.self c.in-Some.ensures (omega arith)
    (vars_low l._var c.in-Some.count c.number.new.self l.vars l.reader c.in-Ok.name c.read_text.new.reader l.invariant (omega arith)
    c.in-Ok.ensures.text low)

pub returns-in-Err-read_data-clause-refused : goal.returns-in-Err-read_data-clause-refused
returns-in-Err-read_data-clause-refused c =
    let l = c.loop-var in
    refuses_more c.in-Err-read_data.refusal (λ none. no_vars c.args.reader.now c.in-Some.count c.number.new.self c.in-Some.ensures (omega arith)
    (vars_none l._var c.in-Some.count c.number.new.self l.vars l.reader c.in-Ok.name c.read_text.new.reader l.invariant (omega arith)
    c.in-Ok.ensures.text none)) c.in-Err-read_data.ensures.refused

pub loop-var-preserved : goal.loop-var-preserved
loop-var-preserved c =
    let l = c.loop-var in
    let v = view c.in-Ok-read_data.value in
    let high : is_above c.in-Ok.name l.vars ≡ true = ap (is_above c.in-Ok.name) (sym c.as_slice.ensures.pairs) ∙ sym c.is_above.ensures.above
    ∙ c.if-not-is_above.false in
    let stored : c.insert.new.self ≡ put c.in-Ok.name v l.vars = c.in_ok-insert.ensures.ok in
    subst (λ ps. VarsRead (l._var + 1) c.number.new.self ps c.read_data.new.reader) (sym stored)
    (vars_more l._var c.number.new.self l.vars l.reader c.in-Ok.name c.read_text.new.reader v c.read_data.new.reader l.invariant
    c.in-Ok.ensures.text high c.in-Ok-read_data.ensures.read)
