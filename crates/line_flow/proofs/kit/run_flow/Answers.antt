use Rattle.std.proofs.Common.{◌≡◌, ◌+◌, ◌-◌, ℕ, List, [], ◌++◌, length, take, drop, ap, subst, ◌∙◌, arith, append-nil, length-append, length-take}
use Rattle.std.specs.Prelude.{replicate}
use Rattle.std.proofs.lemmas.List.{take_all, length-replicate}
use Rattle.line_kit.specs.Lines.{all_lines}
use Rattle.line_kit.specs.Gives.{gives}
use Rattle.line_flow.specs.Told.{Told}
use Rattle.line_flow.specs.Drained.{Completes}
use Rattle.line_flow.specs.Stands.{Stands}
use Rattle.line_flow.proofs.GrownInputs.{grow_next, all-parts}
use Rattle.line_flow.proofs.Results.{on_ok}
use Rattle.line_flow.proofs.KeptLaw.{runs_whole}
use Rattle.line_flow.proofs.kit.run_flow.Goals as goal

pub loop-input-preserved : goal.loop-input-preserved
loop-input-preserved c executor args outputs s =
    let i = c.loop-input.invariant executor args outputs s in
    let k = c.loop-input.input in
    let inputs = c.args.inputs.now in
    let n = c.args.count in
    let bytes = c.as_slice.result.now in
    let u : Told = record {
      executor = executor;
      args = args;
      outputs = outputs;
      fed = take k inputs ++ replicate (n - k) [];
      last = i.0;
      drained = replicate outputs [];
    } in
    let count : length u.fed ≡ n =
    omega (
      arith,
      length-append (take k inputs) (replicate (n - k) []),
      length-take k inputs,
      length-replicate {A = List ℕ} (n - k) [],
      c.requires,
      c.loop-input-test.true,
    ) in
    let next = grow_next inputs k n bytes c.index-inputs-input.result c.requires c.loop-input-test.true
    (c.as_slice.ensures ∙ c.index-inputs-input.is) in (
      k,
      omega arith,
      subst (λ (fed : List (List ℕ)). Stands c.feed_all.new.flow
          record { executor = executor; args = args; outputs = outputs; fed = fed; last = k; drained = replicate outputs [] }) next
          (c.in_ok-feed_all.ensures u i.2 (i.1, omega (arith, count, c.loop-input-test.true))),
    )

pub returns-then-is_over : goal.returns-then-is_over
returns-then-is_over c executor args outputs s =
    let i = c.loop-input.invariant executor args outputs s in
    let k = c.loop-input.input in
    let inputs = c.args.inputs.now in
    let n = c.args.count in
    let bytes = c.as_slice.result.now in
    let u : Told = record {
      executor = executor;
      args = args;
      outputs = outputs;
      fed = take k inputs ++ replicate (n - k) [];
      last = i.0;
      drained = replicate outputs [];
    } in
    let count : length u.fed ≡ n =
    omega (
      arith,
      length-append (take k inputs) (replicate (n - k) []),
      length-take k inputs,
      length-replicate {A = List ℕ} (n - k) [],
      c.requires,
      c.loop-input-test.true,
    ) in
    let next = grow_next inputs k n bytes c.index-inputs-input.result c.requires c.loop-input-test.true
    (c.as_slice.ensures ∙ c.index-inputs-input.is) in
    let t : Told = record {
      executor = executor;
      args = args;
      outputs = outputs;
      fed = take (k + 1) inputs ++ replicate (n - (k + 1)) [];
      last =
          k;
      drained = replicate outputs [];
    } in
    let stands : Stands c.feed_all.new.flow t =
    subst (λ (fed : List (List ℕ)). Stands c.feed_all.new.flow
    record { executor = executor; args = args; outputs = outputs; fed = fed; last = k; drained = replicate outputs [] }) next
    (c.in_ok-feed_all.ensures u i.2 (i.1, omega (arith, count, c.loop-input-test.true))) in
    c.is_over.ensures c.if-is_over.true t inputs (all_lines (drop (k + 1) inputs)) stands (all-parts (n - (k + 1)) (k + 1) inputs)

pub returns : goal.returns
returns c =
    let inputs = c.args.inputs.now in
    let n = c.args.count in
    let k = c.loop-input.input in
    on_ok c.end.result
    (λ r done executor args outputs s.
    let i = c.loop-input.invariant executor args outputs s in
    let none : n - k ≡ 0 = omega (arith, c.loop-input-test.false) in
    let all : take k inputs ++ replicate (n - k) [] ≡ inputs =
    ap (λ (m : ℕ). take k inputs ++ replicate m []) none ∙ append-nil (take k inputs)
    ∙ take_all k inputs (omega (arith, c.requires, c.loop-input-test.false)) in
    let u : Told = record {
      executor = executor;
      args = args;
      outputs = outputs;
      fed = take k inputs ++ replicate (n - k) [];
      last = i.0;
      drained = replicate outputs [];
    } in
    runs_whole outputs r (gives executor args inputs outputs)
    (subst (λ (fed : List (List ℕ)). Completes (replicate outputs []) r (gives executor args fed outputs)) all (done u i.2)))
    c.end.ensures
