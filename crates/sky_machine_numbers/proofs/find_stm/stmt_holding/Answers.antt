use Rattle.std.proofs.Common.{◌-◌, ◌+◌, ℕ, length, ltb-true, ltb-false, sym, subst, arith}
use Rattle.std.specs.List.Sorted.{IsNonDecreasing}
use Rattle.sky_base_law.specs.Nodes.{node_at}
use Rattle.sky_machine_code.proofs.BlockParts.{begins_sorted}
use Rattle.sky_machine_numbers.proofs.BlockSearch.{one, within, held, get_is}
use Rattle.sky_machine_numbers.proofs.find_stm.stmt_holding.Goals as goal

pub begun-last-requires : goal.begun-last-requires
begun-last-requires c = subst IsNonDecreasing (sym c.begins-begins.ensures) (begins_sorted c.args.block.now (c.args.node + 1))

pub overflow_sub-last : goal.overflow_sub-last
overflow_sub-last c =
    one (λ (i : ℕ). node_at c.args.code.now i) c.as_slice-stmts.result.now c.args.block.now c.as_slice-stmts.ensures c.args.node c.args.number c.begun-last.result
    c.begins-begins.result.now c.begins-begins.ensures c.requires.from c.requires.to c.begun-last.ensures.most c.begun-last.ensures.others

pub unreachable-requires : goal.unreachable-requires
unreachable-requires c =
    let ss = c.as_slice-stmts.result.now in
    let few = within (λ (i : ℕ). node_at c.args.code.now i) ss c.args.block.now c.as_slice-stmts.ensures c.args.node c.args.number c.begun-last.result
    c.begins-begins.result.now c.begins-begins.ensures c.requires.from c.requires.to c.begun-last.ensures.most c.begun-last.ensures.others in
    omega (arith, few, ltb-false (c.begun-last.result - 1) (length ss) (sym c.in-None.ensures.lookup.0))

pub returns : goal.returns
returns c =
    let ss = c.as_slice-stmts.result.now in
    let s = c.in-Some.stmt.now in
    let k = c.begun-last.result - 1 in
    let found = get_is ss k s (ltb-true k (length ss) (sym c.in-Some.ensures.lookup.0)) c.in-Some.ensures.lookup.1 in
    let h = held (λ (i : ℕ). node_at c.args.code.now i) ss c.args.block.now c.as_slice-stmts.ensures c.args.node c.args.number c.begun-last.result
    c.begins-begins.result.now c.begins-begins.ensures c.requires.from c.requires.to c.begun-last.ensures.most c.begun-last.ensures.others
    c.requires.has c.begun-last.ensures.first s found in
    record { has = h.0; from = h.1; to = h.2; less = h.3 }
