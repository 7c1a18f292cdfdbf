use Rattle.std.proofs.Common.{◌≡◌, ◌<◌, ◌^◌, ◌++◌, [], ◌∷◌, Some, IsSome, sym, ap, ◌∙◌, subst, arith}
use Rattle.std.specs.Option.{option_map}
use Rattle.sky_base_law.specs.Nodes.{node_at}
use Rattle.sky_machine_numbers.specs.Filled.{node_view}
use Rattle.sky_machine_numbers.specs.Standing.{HasNode}
use Rattle.sky_machine_entries.specs.Entries.{entry_of, forms}
use Rattle.sky_machine_entries.specs.Ready.{AllReady}
use Rattle.sky_machine_entries.proofs.Lists.{forms_push, ready_push}
use Rattle.sky_state.specs.StandView.{todo_view, stack_view}
use Rattle.sky_machine_open.specs.Spots.{call_of}
use Rattle.sky_machine_restore.specs.Restoring.{own}
use Rattle.sky_machine_restore.proofs.ReadyLaw.{node_ready}
use Rattle.sky_machine_restore.proofs.Walk.{count_is, step_is, form_is, own_are, others_are, own_kept, caller_kept}
use Rattle.sky_machine_restore.proofs.restore.open_todo.Goals as goal

pub keeps-own-requires : goal.keeps-own-requires
keeps-own-requires c = subst (λ s. HasNode (λ i. node_at s i) (node_view c.in-Some.node) c.args.todo.now.node) c.requires.nodes
    c.in-Some.ensures.whole

pub few-requires : goal.few-requires
few-requires c = subst (λ s. HasNode (λ i. node_at s i) (node_view c.in-Some.node) c.args.todo.now.node) c.requires.nodes c.in-Some.ensures.whole

pub open_entry-requires-clause-has : goal.open_entry-requires-clause-has
open_entry-requires-clause-has c = subst (λ s. HasNode (λ i. node_at s i) (node_view c.in-Some.node) c.args.todo.now.node) c.requires.nodes
    c.in-Some.ensures.whole

pub open_entry-requires-clause-opens : goal.open_entry-requires-clause-opens
open_entry-requires-clause-opens c =
    let sc = c.args.code.now in
    let t = todo_view c.args.todo.now in
    let x = node_view c.in-Some.node in
    let here : node_at sc t.node ≡ Some x = subst (λ s. node_at s t.node ≡ Some x) c.requires.nodes c.in-Some.ensures.node in
    let many = count_is sc t x here c.keeps-own.result c.requires.step c.keeps-own.ensures in
    let mine = own_are sc t c.keeps-own.result c.args.values.now c.split_at.result.0.now c.split_at.ensures.front many in
    subst IsSome (form_is sc t x here (own sc t (stack_view c.args.values.now)) (stack_view c.split_at.result.0.now) (call_of c.args.call) mine)
    c.requires.opens

pub returns-clause-form : goal.returns-clause-form
returns-clause-form c =
    let sc = c.args.code.now in
    let t = todo_view c.args.todo.now in
    let x = node_view c.in-Some.node in
    let here : node_at sc t.node ≡ Some x = subst (λ s. node_at s t.node ≡ Some x) c.requires.nodes c.in-Some.ensures.node in
    let many = count_is sc t x here c.keeps-own.result c.requires.step c.keeps-own.ensures in
    let mine = own_are sc t c.keeps-own.result c.args.values.now c.split_at.result.0.now c.split_at.ensures.front many in
    let old = c.args.entries.now.items in
    let is = form_is sc t x here (own sc t (stack_view c.args.values.now)) (stack_view c.split_at.result.0.now) (call_of c.args.call) mine
    ∙ c.in_ok-entry.ensures in
    ap (λ o. option_map (λ en. forms old ++ en ∷ []) o) is ∙ ap Some (sym (ap forms c.in-Ok.ensures.items ∙ forms_push old c.in_ok-entry.entry))

pub returns-clause-rest : goal.returns-clause-rest
returns-clause-rest c =
    let sc = c.args.code.now in
    let t = todo_view c.args.todo.now in
    let x = node_view c.in-Some.node in
    let here : node_at sc t.node ≡ Some x = subst (λ s. node_at s t.node ≡ Some x) c.requires.nodes c.in-Some.ensures.node in
    let many = count_is sc t x here c.keeps-own.result c.requires.step c.keeps-own.ensures in
    others_are sc t c.keeps-own.result c.args.values.now c.split_at.result.1.now c.split_at.ensures.back many

pub returns-clause-ready : goal.returns-clause-ready
returns-clause-ready c =
    let sc = c.args.code.now in
    let t = todo_view c.args.todo.now in
    let x = node_view c.in-Some.node in
    let here : node_at sc t.node ≡ Some x = subst (λ s. node_at s t.node ≡ Some x) c.requires.nodes c.in-Some.ensures.node in
    let has = subst (λ s. HasNode (λ i. node_at s i) (node_view c.in-Some.node) c.args.todo.now.node) c.requires.nodes c.in-Some.ensures.whole in
    let many = count_is sc t x here c.keeps-own.result c.requires.step c.keeps-own.ensures in
    let vs = stack_view c.split_at.result.0.now in
    let mine = own_are sc t c.keeps-own.result c.args.values.now c.split_at.result.0.now c.split_at.ensures.front many in
    let old = c.args.entries.now.items in
    let en = c.in_ok-entry.entry in
    let small : c.args.todo.now.step < 2 ^ 32 = omega arith in
    let ready = node_ready (λ i. node_at sc i) x t.node t.step vs (call_of c.args.call) (entry_of en) has c.few.ensures small
    (own_kept sc t (stack_view c.args.values.now) vs mine c.requires.kept) (caller_kept c.args.call c.requires.caller)
    (step_is sc t x here c.requires.step) c.in_ok-entry.ensures in
    subst (AllReady sc) (sym c.in-Ok.ensures.items) (ready_push sc old en c.requires.ready ready)
