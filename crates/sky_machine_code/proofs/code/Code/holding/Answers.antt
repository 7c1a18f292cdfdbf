use Rattle.std.proofs.Common.{◌-◌, length, slice_get, ltb-true, ltb-false, refl, sym, ap, ◌∙◌, subst, arith}
use Rattle.std.specs.List.Sorted.{IsNonDecreasing}
use Rattle.sky_base.specs.ScriptView.{fun_view}
use Rattle.sky_base_law.specs.Opened.{block_node}
use Rattle.sky_base_scope.proofs.FunPlaces.{get_view, view_length}
use Rattle.sky_machine_code.specs.Numbers.{Holds, ends_of, starts_of}
use Rattle.sky_machine_code.proofs.Bodies.{no_node, main_holds, starts_sorted, one_start, start_within, start_holds}
use Rattle.sky_machine_code.proofs.code.Code.holding.Goals as goal

pub returns-then-number-self : goal.returns-then-number-self
returns-then-number-self c =
    let are = c.self.invariant.0 ∙ ap ends_of c.self.view_is in
    no_node c.args.self.now c.args.number (omega (arith, ap length are, c.if-number-self.true))

pub returns-then-number-after : goal.returns-then-number-after
returns-then-number-after c =
    let sc = c.args.self.now in
    subst (λ n. Holds sc c.main_body.result.block.now n c.args.number) (sym c.main_body.ensures.node)
    (subst (λ b. Holds sc b 0 c.args.number) (sym c.main_body.ensures.block)
    (main_holds sc c.args.number (omega (arith, c.if-number-after.true, c.after.ensures (block_node sc.main) refl))))

pub begun-last-requires : goal.begun-last-requires
begun-last-requires c = subst IsNonDecreasing (sym c.self.invariant.1) (starts_sorted c.self.inside.program)

pub overflow_sub-last : goal.overflow_sub-last
overflow_sub-last c =
    let sc = c.args.self.now in
    let ends = c.self.invariant.0 ∙ ap ends_of c.self.view_is in
    let starts = c.self.invariant.1 ∙ ap starts_of c.self.view_is in
    one_start sc c.self.inside.starts.now starts c.args.number c.begun-last.result
    (omega (arith, c.if-number-after.false, c.after.ensures (block_node sc.main) refl))
    (omega (arith, ap length ends, c.if-number-self.false)) c.begun-last.ensures.others

pub unreachable-requires : goal.unreachable-requires
unreachable-requires c =
    let sc = c.args.self.now in
    let ends = c.self.invariant.0 ∙ ap ends_of c.self.view_is in
    let starts = c.self.invariant.1 ∙ ap starts_of c.self.view_is in
    let within = start_within sc c.self.inside.starts.now starts c.args.number c.begun-last.result
    (omega (arith, c.if-number-after.false, c.after.ensures (block_node sc.main) refl))
    (omega (arith, ap length ends, c.if-number-self.false)) c.begun-last.ensures.others c.begun-last.ensures.most in
    let many = ap length (c.funs.ensures ∙ ap (λ s. s.funs) c.self.view_is) in
    omega (arith, within, many, view_length c.funs.result.now, ltb-false _ (length c.funs.result.now) (sym c.in-None.ensures.lookup.0))

pub returns : goal.returns
returns c =
    let sc = c.args.self.now in
    let ends = c.self.invariant.0 ∙ ap ends_of c.self.view_is in
    let starts = c.self.invariant.1 ∙ ap starts_of c.self.view_is in
    let fs = c.funs.result.now in
    let f = c.in-Some.fun.now in
    let k = c.begun-last.result - 1 in
    let found = ap (λ gs. slice_get gs k) (sym (c.funs.ensures ∙ ap (λ s. s.funs) c.self.view_is))
    ∙ get_view fs k f (ltb-true k (length fs) (sym c.in-Some.ensures.lookup.0)) c.in-Some.ensures.lookup.1 in
    start_holds sc c.self.inside.starts.now starts c.args.number c.begun-last.result
    (omega (arith, c.if-number-after.false, c.after.ensures (block_node sc.main) refl))
    (omega (arith, ap length ends, c.if-number-self.false)) c.begun-last.ensures.others c.begun-last.ensures.first (fun_view f)
    c.number_at.result found c.number_at.ensures
