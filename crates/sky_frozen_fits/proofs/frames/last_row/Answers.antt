use Rattle.std.proofs.Common.{◌≡◌, Some, None, sym, ap, ◌∙◌, subst}
use Rattle.sky_base_law.specs.Nodes.{node_at}
use Rattle.sky_machine_numbers.specs.Filled.{node_view}
use Rattle.sky_machine_numbers.specs.Standing.{HasNode}
use Rattle.sky_state.specs.Table.{row}
use Rattle.sky_frozen_fits.proofs.Together.{last_at}
use Rattle.sky_frozen_fits.proofs.frames.last_row.Goals as goal

pub row_at-requires : goal.row_at-requires
row_at-requires c =
    subst (λ s. HasNode (λ i. node_at s i) (node_view c.in-Some-at.node) c.in-Some.last.now.node) c.requires c.in-Some-at.ensures.whole

pub returns-in-None : goal.returns-in-None
returns-in-None c =
    let t = c.in-Some.last.now in
    let here : node_at c.args.code.now t.node ≡ None = subst (λ s. node_at s t.node ≡ None) c.requires c.in-None.ensures.node in
    last_at c.args.code.now c.args.todos.now t c.in-Some.ensures.value ∙ ap (λ o. Some (row o t.node t.step)) here

pub returns-in-Some-at : goal.returns-in-Some-at
returns-in-Some-at c =
    let t = c.in-Some.last.now in
    let here : node_at c.args.code.now t.node ≡ Some (node_view c.in-Some-at.node) =
    subst (λ s. node_at s t.node ≡ Some (node_view c.in-Some-at.node)) c.requires c.in-Some-at.ensures.node in
    last_at c.args.code.now c.args.todos.now t c.in-Some.ensures.value ∙ ap (λ o. Some (row o t.node t.step)) here
    ∙ ap Some (sym c.row_at.ensures.row)
