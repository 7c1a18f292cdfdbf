use Rattle.std.proofs.Common.{◌≡◌, List, ℕ, Ok, ap, sym, ◌∙◌}
use Rattle.sky_base.specs.View.{view}
use Rattle.sky_base_exec.specs.Perform.{listed}
use Rattle.ciel_flow_work.proofs.AheadLaw.{as_many, call_here, given_here, made_here, on_some, source_call, source_made}
use Rattle.ciel_flow_work.proofs.make.make_leading.Goals as goal

pub hand_out_made-requires-clause-given : goal.hand_out_made-requires-clause-given
hand_out_made-requires-clause-given g c =
    let x = c.args.executor.now in
    let a = c.args.args.now in
    let n = c.args.outputs in
    let i = c.args.index in
    let ins = listed c.args.inputs.now in
    let found = c.as_slice-inputs.result.now in
    let is : ins ≡ Ok found = ap listed c.in-Ok.is ∙ ap (λ (bs : List (List ℕ)). Ok bs) (sym c.as_slice-inputs.ensures.value) in
    let s = c.args.producer.now.source in (
      found,
      given_here s x a n i ins found (view c.in_ok-slotted-in-Ok.slotted) c.requires.source is c.in_ok-slotted-in-Ok.ensures,
      source_made s x a n i ins found (view c.in_ok-slotted-in-Ok.slotted) c.requires.source is c.in_ok-slotted-in-Ok.ensures (listed c.in-Some.made)
          c.in-Some.ensures.made,
    )

pub led-requires-clause-call : goal.led-requires-clause-call
led-requires-clause-call g c =
    let ins = listed c.args.inputs.now in
    let found = c.as_slice-inputs.result.now in
    let is : ins ≡ Ok found = ap listed c.in-Ok.is ∙ ap (λ (bs : List (List ℕ)). Ok bs) (sym c.as_slice-inputs.ensures.value) in
    source_call c.args.producer.now.source c.args.executor.now c.args.args.now c.args.outputs c.args.index ins found (view c.in_ok-slotted-in-Ok.slotted)
    c.requires.source is c.in_ok-slotted-in-Ok.ensures

pub returns-in-Some-clause-made : goal.returns-in-Some-clause-made
returns-in-Some-clause-made g c =
    let ins = listed c.args.inputs.now in
    let found = c.as_slice-inputs.result.now in
    let is : ins ≡ Ok found = ap listed c.in-Ok.is ∙ ap (λ (bs : List (List ℕ)). Ok bs) (sym c.as_slice-inputs.ensures.value) in
    made_here c.args.executor.now (view c.args.args.now) c.args.outputs ins found (view c.in_ok-slotted-in-Ok.slotted) is c.in_ok-slotted-in-Ok.ensures
    (listed c.in-Some.made) c.in-Some.ensures.made

pub returns-in-Some-clause-all : goal.returns-in-Some-clause-all
returns-in-Some-clause-all g c =
    let x = c.args.executor.now in
    let a = view c.args.args.now in
    let n = c.args.outputs in
    let ins = listed c.args.inputs.now in
    let found = c.as_slice-inputs.result.now in
    let is : ins ≡ Ok found = ap listed c.in-Ok.is ∙ ap (λ (bs : List (List ℕ)). Ok bs) (sym c.as_slice-inputs.ensures.value) in
    as_many x a n ins (listed c.in-Some.made)
    (made_here x a n ins found (view c.in_ok-slotted-in-Ok.slotted) is c.in_ok-slotted-in-Ok.ensures (listed c.in-Some.made) c.in-Some.ensures.made)

pub returns-in-Some-clause-ahead : goal.returns-in-Some-clause-ahead
returns-in-Some-clause-ahead g c so =
    let ins = listed c.args.inputs.now in
    let found = c.as_slice-inputs.result.now in
    let is : ins ≡ Ok found = ap listed c.in-Ok.is ∙ ap (λ (bs : List (List ℕ)). Ok bs) (sym c.as_slice-inputs.ensures.value) in
    on_some c.args.ahead
    (λ left call. call_here c.args.executor.now (view c.args.args.now) c.args.outputs ins found (view c.in_ok-slotted-in-Ok.slotted) is
    c.in_ok-slotted-in-Ok.ensures left call) c.in-Some.ensures.call

pub returns-clause-made : goal.returns-clause-made
returns-clause-made g c =
    let ins = listed c.args.inputs.now in
    let found = c.as_slice-inputs.result.now in
    let is : ins ≡ Ok found = ap listed c.in-Ok.is ∙ ap (λ (bs : List (List ℕ)). Ok bs) (sym c.as_slice-inputs.ensures.value) in
    made_here c.args.executor.now (view c.args.args.now) c.args.outputs ins found (view c.in_ok-slotted-in-Ok.slotted) is c.in_ok-slotted-in-Ok.ensures
    (listed c.in_ok-made-in-None.made) c.in_ok-made-in-None.ensures.made

pub returns-clause-all : goal.returns-clause-all
returns-clause-all g c =
    let x = c.args.executor.now in
    let a = view c.args.args.now in
    let n = c.args.outputs in
    let ins = listed c.args.inputs.now in
    let found = c.as_slice-inputs.result.now in
    let is : ins ≡ Ok found = ap listed c.in-Ok.is ∙ ap (λ (bs : List (List ℕ)). Ok bs) (sym c.as_slice-inputs.ensures.value) in
    as_many x a n ins (listed c.in_ok-made-in-None.made)
    (made_here x a n ins found (view c.in_ok-slotted-in-Ok.slotted) is c.in_ok-slotted-in-Ok.ensures (listed c.in_ok-made-in-None.made) c.in_ok-made-in-None.ensures.made)
