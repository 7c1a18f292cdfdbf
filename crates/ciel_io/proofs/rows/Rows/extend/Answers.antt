-- The lengths still come to the bytes, and the rows are the others and the longer one.
use Rattle.std.proofs.Common.{◌≡◌, ◌∙◌, ◌+◌, ◌<◌, ap, arith, drop, get_or, length, length-set, set, sym, take, [], ◌++◌}
use Rattle.ciel_io.specs.Rows.{cut, space, total}
use Rattle.ciel_io.proofs.RowsLaw.{cut_extended, length_cut, length_extended, read_length, same_held, space_cut, total_extended, total_take}
use Rattle.ciel_io.proofs.rows.Rows.extend.Goals as goal

pub overflow_add-index_mut : goal.overflow_add-index_mut
overflow_add-index_mut c =
    let ns = c.self.inside.lengths.items in
    let b = c.self.inside.bytes.items in
    let i = c.args.place in
    let all = ap (λ r. length r.rows) c.self.view_is in
    let here : i < length ns = omega (arith, length_cut ns b, all, c.requires.place) in
    let read = read_length ns i c.index_mut.result.now here c.index_mut.ensures.value in
    let sizes = ap (λ r. space r.rows) c.self.view_is in
    let room = ap (λ r. r.room) c.self.view_is in
    omega (arith, read, total_take ns i here, c.self.invariant.0, c.requires.room, sizes, space_cut ns b c.self.invariant.0, room)

pub invariant_of-self : goal.invariant_of-self
invariant_of-self c =
    let ns = c.self.inside.lengths.items in
    let b = c.self.inside.bytes.items in
    let p = c.args.piece.now in
    let i = c.args.place in
    let all = ap (λ r. length r.rows) c.self.view_is in
    let here : i < length ns = omega (arith, length_cut ns b, all, c.requires.place) in
    let read = read_length ns i c.index_mut.result.now here c.index_mut.ensures.value in
    let end = c.bounds_of-end.ensures.end ∙ ap (λ l. total (take i l) + get_or l i 0) c.as_slice.ensures.value in
    let items = c.insert.ensures.items ∙ ap (λ k. take k b ++ (p ++ drop k b)) end in
    let sizes = ap (λ r. space r.rows) c.self.view_is in
    let room = ap (λ r. r.room) c.self.view_is in
    let grown = ap length items ∙ length_extended ns b p i in
    let same = ap (λ v. total (set ns i (v + length p))) read ∙ total_extended ns b p i here c.self.invariant.0 ∙ ap length (sym items) in (
      same,
      omega (
        arith,
        grown,
        length-set ns i (c.index_mut.result.now + length p),
        c.requires.room,
        sizes,
        space_cut ns b c.self.invariant.0,
        room,
      ),
      omega (arith, c.self.invariant.2, c.insert.ensures.capacity),
      c.self.invariant.3,
    )

pub returns : goal.returns
returns c =
    let ns = c.self.inside.lengths.items in
    let b = c.self.inside.bytes.items in
    let p = c.args.piece.now in
    let i = c.args.place in
    let all = ap (λ r. length r.rows) c.self.view_is in
    let here : i < length ns = omega (arith, length_cut ns b, all, c.requires.place) in
    let read = read_length ns i c.index_mut.result.now here c.index_mut.ensures.value in
    let end = c.bounds_of-end.ensures.end ∙ ap (λ l. total (take i l) + get_or l i 0) c.as_slice.ensures.value in
    let items = c.insert.ensures.items ∙ ap (λ k. take k b ++ (p ++ drop k b)) end in
    let rows = ap (λ v. cut (set ns i (v + length p)) c.insert.new.bytes.items) read
    ∙ ap (λ y. cut (set ns i (get_or ns i 0 + length p)) y) items
    ∙ cut_extended ns b p i here c.self.invariant.0
    ∙ ap (λ r. set r.rows i (get_or r.rows i [] ++ p)) c.self.view_is in
    same_held c.self.inside.room c.args.self.now.room _ _ (ap (λ r. r.room) c.self.view_is) rows
