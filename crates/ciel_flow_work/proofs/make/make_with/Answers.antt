use Rattle.std.proofs.Common.{◌≡◌, List, ℕ, Ok, ap, sym, ◌∙◌}
use Rattle.sky_base.specs.View.{view}
use Rattle.sky_base_exec.specs.Perform.{listed, made_of}
use Rattle.ciel_flow_work.proofs.AheadLaw.{as_many, call_here, made_here, on_some}
use Rattle.ciel_flow_work.proofs.make.make_with.Goals as goal

pub returns-in-Some-clause-all : goal.returns-in-Some-clause-all
returns-in-Some-clause-all g c =
    let x = c.args.executor.now in
    let a = view c.args.args.now in
    let n = c.args.outputs in
    let ins = listed c.args.inputs.now in
    let found = c.as_slice.result.now in
    let is : ins ≡ Ok found = ap listed c.in-Ok.is ∙ ap (λ (bs : List (List ℕ)). Ok bs) (sym c.as_slice.ensures.value) in
    as_many x a n ins (listed c.in-Some.made)
    (made_here x a n ins found (view c.in_ok-slotted.slotted) is c.in_ok-slotted.ensures (listed c.in-Some.made) c.in-Some.ensures.made)

pub returns-in-Some-clause-made : goal.returns-in-Some-clause-made
returns-in-Some-clause-made g c =
    let ins = listed c.args.inputs.now in
    let found = c.as_slice.result.now in
    let is : ins ≡ Ok found = ap listed c.in-Ok.is ∙ ap (λ (bs : List (List ℕ)). Ok bs) (sym c.as_slice.ensures.value) in
    made_here c.args.executor.now (view c.args.args.now) c.args.outputs ins found (view c.in_ok-slotted.slotted) is c.in_ok-slotted.ensures
    (listed c.in-Some.made) c.in-Some.ensures.made

pub returns-in-Some-clause-ahead : goal.returns-in-Some-clause-ahead
returns-in-Some-clause-ahead g c so =
    let ins = listed c.args.inputs.now in
    let found = c.as_slice.result.now in
    let is : ins ≡ Ok found = ap listed c.in-Ok.is ∙ ap (λ (bs : List (List ℕ)). Ok bs) (sym c.as_slice.ensures.value) in
    on_some c.args.ahead
    (λ left call. call_here c.args.executor.now (view c.args.args.now) c.args.outputs ins found (view c.in_ok-slotted.slotted) is
    c.in_ok-slotted.ensures left call) c.in-Some.ensures.call

pub returns-clause-made : goal.returns-clause-made
returns-clause-made g c =
    c.in_ok-made.ensures.made
    ∙ ap (λ gives. made_of gives c.args.executor.now (view c.args.args.now) c.args.outputs (listed c.args.inputs.now)) c.requires.flow
