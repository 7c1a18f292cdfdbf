use Rattle.std.proofs.Common.{List, ℕ, subst, ◌∙◌, arith}
use Rattle.sky_base.specs.Val.{refs}
use Rattle.sky_base.specs.View.{view}
use Rattle.ciel_json.specs.Text.{text_of as writes}
use Rattle.sky_base.proofs.Values.{value_inside, pair_inside}
use Rattle.sky_base_exec.specs.Perform.{bytes_seen, all_bytes}
use Rattle.sky_base_exec.specs.Puts.{PutsSo, behind}
use Rattle.sky_base_exec.proofs.Takes.{Grabs, values_more, values_fault, values_done, pairs_more, pairs_fault, pairs_done}
use Rattle.sky_base_exec.proofs.inputs.+put_all.Goals as goal

pub put_values-put_all-requires : goal.put_values-put_all-requires
put_values-put_all-requires g t c =
    let inside = value_inside c.args.values.now c.loop-value.value-index c.value-item.result c.loop-value-test.true c.value-item.is in
    λ κs lives. (omega (arith, c.decreases, inside), lives)

pub put_values-returns-in-Some : goal.put_values-returns-in-Some
put_values-returns-in-Some g t c =
    let G : Grabs = λ d. bytes_seen (writes {N = List ℕ}) (g.K.Known.knows c.args.objects.now d) in
    c.loop-value.invariant.rest ∙ values_fault G c.loop-value.inputs.items c.in-Some.fault c.args.values.now c.loop-value.value-index
    c.value-item.result c.loop-value-test.true c.value-item.is
    (subst (λ o. PutsSo o c.put_all.new.inputs.items
    (behind c.loop-value.inputs.items (all_bytes (writes {N = List ℕ}) (g.K.Known.knows c.args.objects.now)
    (refs (view c.value-item.result))))) c.in-Some.is c.in_ok-fault.ensures)

pub put_values-loop-value-preserved : goal.put_values-loop-value-preserved
put_values-loop-value-preserved g t c =
    let G : Grabs = λ d. bytes_seen (writes {N = List ℕ}) (g.K.Known.knows c.args.objects.now d) in
    record {
      rest = c.loop-value.invariant.rest ∙ values_more G c.loop-value.inputs.items c.put_all.new.inputs.items c.args.values.now
          c.loop-value.value-index c.value-item.result c.loop-value-test.true c.value-item.is
          (subst (λ o. PutsSo o c.put_all.new.inputs.items
          (behind c.loop-value.inputs.items (all_bytes (writes {N = List ℕ}) (g.K.Known.knows c.args.objects.now)
          (refs (view c.value-item.result))))) c.in_default.is c.in_ok-fault.ensures);
    }

pub put_values-returns : goal.put_values-returns
put_values-returns g t c =
    let G : Grabs = λ d. bytes_seen (writes {N = List ℕ}) (g.K.Known.knows c.args.objects.now d) in
    c.loop-value.invariant.rest ∙ values_done G c.loop-value.inputs.items c.args.values.now c.loop-value.value-index c.loop-value-test.false

pub put_pairs-put_all-requires : goal.put_pairs-put_all-requires
put_pairs-put_all-requires g t c =
    let inside = pair_inside c.args.pairs.now c.loop-pair.pair-index c.pair-item.result c.loop-pair-test.true c.pair-item.is in
    λ κs lives. (omega (arith, c.decreases, inside), lives)

pub put_pairs-returns-in-Some : goal.put_pairs-returns-in-Some
put_pairs-returns-in-Some g t c =
    let G : Grabs = λ d. bytes_seen (writes {N = List ℕ}) (g.K.Known.knows c.args.objects.now d) in
    c.loop-pair.invariant.rest ∙ pairs_fault G c.loop-pair.inputs.items c.in-Some.fault c.args.pairs.now c.loop-pair.pair-index
    c.pair-item.result c.loop-pair-test.true c.pair-item.is
    (subst (λ o. PutsSo o c.put_all.new.inputs.items
    (behind c.loop-pair.inputs.items (all_bytes (writes {N = List ℕ}) (g.K.Known.knows c.args.objects.now)
    (refs (view c.pair-item.result.value))))) c.in-Some.is c.in_ok-fault.ensures)

pub put_pairs-loop-pair-preserved : goal.put_pairs-loop-pair-preserved
put_pairs-loop-pair-preserved g t c =
    let G : Grabs = λ d. bytes_seen (writes {N = List ℕ}) (g.K.Known.knows c.args.objects.now d) in
    record {
      rest = c.loop-pair.invariant.rest ∙ pairs_more G c.loop-pair.inputs.items c.put_all.new.inputs.items c.args.pairs.now
          c.loop-pair.pair-index c.pair-item.result c.loop-pair-test.true c.pair-item.is
          (subst (λ o. PutsSo o c.put_all.new.inputs.items
          (behind c.loop-pair.inputs.items (all_bytes (writes {N = List ℕ}) (g.K.Known.knows c.args.objects.now)
          (refs (view c.pair-item.result.value))))) c.in_default.is c.in_ok-fault.ensures);
    }

pub put_pairs-returns : goal.put_pairs-returns
put_pairs-returns g t c =
    let G : Grabs = λ d. bytes_seen (writes {N = List ℕ}) (g.K.Known.knows c.args.objects.now d) in
    c.loop-pair.invariant.rest ∙ pairs_done G c.loop-pair.inputs.items c.args.pairs.now c.loop-pair.pair-index c.loop-pair-test.false
