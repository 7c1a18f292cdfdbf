use Rattle.std.proofs.Common.{◌+◌, subst, arith}
use Rattle.sky_machine_numbers.specs.Listed.{Listed}
use Rattle.sky_machine_numbers.proofs.PartsLemmas.{begun_all}
use Rattle.sky_machine_numbers.proofs.parts.list_parts_of.Goals as goal

pub returns-after-loop-at : goal.returns-after-loop-at
returns-after-loop-at c =
    let l = c.loop-at in
    let ends = c.args.ends.now in
    let old = c.args.parts.now.items in
    let n = c.args.node in
    subst (λ e. Listed ends old l.parts.items (n + 1) e) c.end_of-end.ensures
    (begun_all ends old l.parts.items (n + 1) l.at c.end_of-end.result (λ h. absurd (omega (arith, h, c.loop-at-test.false))) l.invariant)

pub returns-then-next-at : goal.returns-then-next-at
returns-then-next-at c =
    let l = c.loop-at in
    let ends = c.args.ends.now in
    let old = c.args.parts.now.items in
    let n = c.args.node in
    subst (λ e. Listed ends old l.parts.items (n + 1) e) c.end_of-end.ensures
    (begun_all ends old l.parts.items (n + 1) l.at c.end_of-end.result (λ h. omega (arith, c.if-next-at.true, c.end_of-next.ensures)) l.invariant)
