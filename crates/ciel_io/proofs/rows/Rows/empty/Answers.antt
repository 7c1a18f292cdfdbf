-- The lengths still come to the bytes, and the rows are the others and the empty one.
use Rattle.std.proofs.Common.{◌≡◌, ◌∙◌, ◌+◌, ◌<◌, ap, arith, drop, get_or, length, length-set, set, sym, take, [], ◌++◌}
use Rattle.ciel_io.specs.Rows.{cut, total}
use Rattle.ciel_io.proofs.RowsLaw.{cut_empty, length_cut, length_emptied, same_held, total_emptied}
use Rattle.ciel_io.proofs.rows.Rows.empty.Goals as goal

pub invariant_of-self : goal.invariant_of-self
invariant_of-self c =
    let ns = c.self.inside.lengths.items in
    let b = c.self.inside.bytes.items in
    let i = c.args.place in
    let all = ap (λ r. length r.rows) c.self.view_is in
    let here : i < length ns = omega (arith, length_cut ns b, all, c.requires) in
    let start = c.bounds_of-start.ensures.start ∙ ap (λ l. total (take i l)) c.as_slice.ensures.value in
    let end = c.bounds_of-start.ensures.end ∙ ap (λ l. total (take i l) + get_or l i 0) c.as_slice.ensures.value in
    let items = c.remove.ensures.items ∙ ap (λ k. take k b ++ drop c.bounds_of-start.result.1 b) start
    ∙ ap (λ k. take (total (take i ns)) b ++ drop k b) end in
    let less = ap length items ∙ sym (total_emptied ns b i here c.self.invariant.0) in
    let fewer = length_emptied ns b i here c.self.invariant.0 in (
      sym less,
      omega (arith, ap length items, fewer, length-set ns i 0, c.self.invariant.1),
      omega (arith, c.self.invariant.2, c.remove.ensures.capacity),
      c.self.invariant.3,
    )

pub returns : goal.returns
returns c =
    let ns = c.self.inside.lengths.items in
    let b = c.self.inside.bytes.items in
    let i = c.args.place in
    let all = ap (λ r. length r.rows) c.self.view_is in
    let here : i < length ns = omega (arith, length_cut ns b, all, c.requires) in
    let start = c.bounds_of-start.ensures.start ∙ ap (λ l. total (take i l)) c.as_slice.ensures.value in
    let end = c.bounds_of-start.ensures.end ∙ ap (λ l. total (take i l) + get_or l i 0) c.as_slice.ensures.value in
    let items = c.remove.ensures.items ∙ ap (λ k. take k b ++ drop c.bounds_of-start.result.1 b) start
    ∙ ap (λ k. take (total (take i ns)) b ++ drop k b) end in
    let rows = ap (λ y. cut (set ns i 0) y) items
    ∙ cut_empty ns b i here c.self.invariant.0
    ∙ ap (λ r. set r.rows i []) c.self.view_is in
    same_held c.self.inside.room c.args.self.now.room _ _ (ap (λ r. r.room) c.self.view_is) rows
