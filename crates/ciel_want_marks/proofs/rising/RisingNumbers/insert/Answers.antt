use Rattle.std.proofs.Common.{subst, is_ok, OnOk}
use Rattle.std.specs.List.Sorted.{IsBinarySearchResult}
use Rattle.std.specs.Ordering.{nat_cmp}
use Rattle.ciel_journal.specs.Job.{In}
use Rattle.ciel_want_marks.specs.Lists.{HasAlso}
use Rattle.ciel_want_marks.proofs.Rises.{got, put_none, put_on_ok, put_rises_either, search_at, search_place}
use Rattle.ciel_want_marks.proofs.rising.RisingNumbers.insert.Goals as goal

pub invariant_of-self : goal.invariant_of-self
invariant_of-self c =
    let xs = c.self.inside.items.items in
    let n = c.args.number in
    let p = subst (λ ys. IsBinarySearchResult (λ y. nat_cmp y n) ys c.binary_search.result) c.as_slice.ensures.value
    c.binary_search.ensures.position in
    put_rises_either (is_ok c.put.result) c.in-Err.i xs c.put.new.items.items n c.put.ensures.items c.self.invariant
    (search_place xs n c.binary_search.result c.in-Err.i c.self.invariant p c.in-Err.is)

pub returns-in-Ok : goal.returns-in-Ok
returns-in-Ok c =
    let xs = c.self.inside.items.items in
    let n = c.args.number in
    let p = subst (λ ys. IsBinarySearchResult (λ y. nat_cmp y n) ys c.binary_search.result) c.as_slice.ensures.value
    c.binary_search.ensures.position in
    put_none c.args.self.now n (subst (In n) c.self.view_is
    (got xs c.in-Ok.field-0 n (search_at xs n c.binary_search.result c.in-Ok.field-0 c.self.invariant p c.in-Ok.is)))

pub returns-in-Err : goal.returns-in-Err
returns-in-Err c =
    let new = c.put.new.items.items in
    subst (λ xs. OnOk c.put.result (HasAlso c.args.number xs new)) c.self.view_is
    (put_on_ok c.put.result c.in-Err.i c.self.inside.items.items new c.args.number c.put.ensures.items)
