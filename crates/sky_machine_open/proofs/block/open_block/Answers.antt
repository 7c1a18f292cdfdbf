use Rattle.std.proofs.Common.{◌≡◌, ◌+◌, ℕ, List, length, ltb-true, ltb-false, sym, ap, ◌∙◌}
use Rattle.std.specs.Borrow.{Bor}
use Rattle.sky_base.specs.Tree.{Stms}
use Rattle.sky_base.specs.StmtView.{stms_view}
use Rattle.sky_base.specs.declared.stmt.Stmt.{Stmt}
use Rattle.sky_base_law.specs.Opened.{next_stm, times, stms_open}
use Rattle.sky_machine_open.proofs.BlockSteps.{within, next_at, all_begun}
use Rattle.sky_machine_open.proofs.block.open_block.Goals as goal
use Rattle.sky_machine_open.proofs.block.open_block.Goals.{in-Some, in-None}

pub slice_bounds-next-count : goal.slice_bounds-next-count
slice_bounds-next-count c =
    within c.as_slice-stmts.result.now c.args.block.now c.as_slice-stmts.ensures c.args.node c.begins-begins.result.now
    c.begins-begins.ensures c.args.step (ltb-true c.args.step (length c.begins-begins.result.now) (sym c.in-Some.ensures.lookup.0))

pub slice_bounds-next-start : goal.slice_bounds-next-start
slice_bounds-next-start c =
    within c.as_slice-stmts.result.now c.args.block.now c.as_slice-stmts.ensures c.args.node c.begins-begins.result.now
    c.begins-begins.ensures c.args.step (ltb-true c.args.step (length c.begins-begins.result.now) (sym c.in-Some.ensures.lookup.0))

pub returns : goal.returns
returns c =
    let ss = c.as_slice-stmts.result.now in
    let b = c.args.block.now in
    let n = c.args.node in
    let xs = c.begins-begins.result.now in
    let k = c.args.step in
    let both : ℕ × Bor (List Stmt) → ℕ × Stms = λ p. (p.0, stms_view p.1.now) in
    let is : times next_stm k (n + 1, b) ≡ (c.match-get.next.0, stms_view c.match-get.next.1.now) =
    elim c.match-get.branch [
      | in-Some w ↦ next_at ss b c.as_slice-stmts.ensures n xs c.begins-begins.ensures k w.in-Some.next.now
          (ltb-true k (length xs) (sym w.in-Some.ensures.lookup.0)) w.in-Some.ensures.lookup.1
          ∙ sym (ap both w.next-is)
      | in-None w ↦ all_begun ss b c.as_slice-stmts.ensures n xs c.begins-begins.ensures k w.after_block.result
          (ltb-false k (length xs) (sym w.in-None.ensures.lookup.0)) w.after_block.ensures
          ∙ sym (ap both w.next-is)
    ] in
    ap (λ (r : ℕ × Stms). stms_open r n k) is
