use Rattle.std.proofs.Common.{◌≡◌, ◌-◌, ◌+◌, ◌≤◌, ◌<◌, ℕ, List, [], ◌++◌, length, refl, sym, ap, subst, ◌∙◌, arith, take}
use Rattle.std.specs.Prelude.{replicate}
use Rattle.sky_base.specs.KitView.{RunsSo}
use Rattle.sky_base.specs.View.{view}
use Rattle.sky_base_exec.specs.Perform.{slots}
use Rattle.line_kit.specs.Gives.{gives}
use Rattle.line_flow.specs.Told.{grow, opened}
use Rattle.line_flow.proofs.GrownInputs.{grow_next}
use Rattle.line_flow.proofs.Results.{on_ok}
use Rattle.ciel_flow_pieces.specs.Leads.{at}
use Rattle.ciel_flow_pieces.specs.Pieces.{AllParts, AllShort, parts}
use Rattle.ciel_flow_pieces.proofs.Whole.{at_nothing, begins_next, fed_length, fed_whole, is_of_on, moved_gives}
use Rattle.ciel_flow_pieces.proofs.lead.lead_flow.Goals as goal

pub loop-input-init : goal.loop-input-init
loop-input-init g c =
    let p = c.args.producer.now in
    let n = c.args.count in
    record {
      all = subst AllParts (sym c.requires.fresh) tt;
      source = refl;
      on = (
        opened p.source.executor (slots (view p.source.args)) n c.args.outputs,
        record {
          stands = c.requires.flow;
          keeps = c.in_ok-kept.ensures;
          puts = ap parts c.requires.fresh ∙ sym (at_nothing c.args.outputs p.source.index);
          all = subst AllParts (sym c.requires.fresh) tt;
          short = subst AllShort (sym c.requires.fresh) tt;
        },
        c.requires.call,
        (let same : n ≡ n - 0 = omega arith in ap (λ (m : ℕ). replicate {A = List ℕ} m []) same),
        omega arith,
      );
    }

pub lead_input-requires-clause-leads : goal.lead_input-requires-clause-leads
lead_input-requires-clause-leads g c =
    let on = c.loop-input.invariant.on in
    let k = c.loop-input.input in
    let n = c.args.count in
    let inputs = c.args.inputs.now in
    let bytes = c.as_slice-bytes.result.now in
    let count = c.requires.count in
    let below = c.loop-input-test.true in (
      on.0,
      inputs,
      on.1,
      on.2,
      (on.4, omega (arith, below, ap length on.3, fed_length inputs k n count below)),
      begins_next on.0 inputs k n bytes c.index-inputs-input.result count below (c.as_slice-bytes.ensures ∙ c.index-inputs-input.is) on.3,
    )

pub loop-input-preserved : goal.loop-input-preserved
loop-input-preserved g c =
    let on = c.loop-input.invariant.on in
    let k = c.loop-input.input in
    let n = c.args.count in
    let inputs = c.args.inputs.now in
    let bytes = c.as_slice-bytes.result.now in
    let count = c.requires.count in
    let below = c.loop-input-test.true in
    let led = c.in_ok-lead_input.ensures.leads on.0 on.1 (on.4, omega (arith, below, ap length on.3, fed_length inputs k n count below)) in
    let was = led.3 in
    record {
      all = c.in_ok-lead_input.ensures.all;
      source = c.in_ok-lead_input.ensures.source ∙ c.loop-input.invariant.source;
      on = (
        led.0,
        led.1,
        is_of_on c.loop-input.producer.source c.lead_input.new.producer.source on.0 led.0 inputs c.in_ok-lead_input.ensures.source was.executor was.args
            was.outputs on.2,
        was.fed ∙ ap (grow k bytes) on.3
            ∙ grow_next inputs k n bytes c.index-inputs-input.result count below (c.as_slice-bytes.ensures ∙ c.index-inputs-input.is),
        omega (arith, led.2.0),
      );
    }

pub returns-clause-made : goal.returns-clause-made
returns-clause-made g c =
    let on = c.loop-input.invariant.on in
    let k = c.loop-input.input in
    let n = c.args.count in
    let inputs = c.args.inputs.now in
    let p = c.args.producer.now in
    let all = on.3 ∙ fed_whole inputs k n c.requires.count (omega (arith, c.loop-input-test.false)) in
    let of = is_of_on c.loop-input.producer.source p.source on.0 on.0 inputs (sym c.loop-input.invariant.source) refl refl refl on.2 in
    on_ok c.lead_end.result
    (λ r made. subst (RunsSo r)
    (sym (moved_gives p.source on.0 inputs of all) ∙ ap (gives p.source.executor (slots (view p.source.args)) inputs) (sym c.requires.call.outputs))
    (made on.0 on.1))
    c.lead_end.ensures.made
