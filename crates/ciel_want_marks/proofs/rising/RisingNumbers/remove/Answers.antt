use Rattle.std.proofs.Common.{subst, sym}
use Rattle.std.specs.List.Sorted.{IsBinarySearchResult}
use Rattle.std.specs.Ordering.{nat_cmp}
use Rattle.ciel_want_marks.specs.Lists.{HasBut, Rising}
use Rattle.ciel_want_marks.proofs.Rises.{fits_none, out_has, out_none, out_rises, search_at, search_place}
use Rattle.ciel_want_marks.proofs.rising.RisingNumbers.remove.Goals as goal

pub invariant_of-self : goal.invariant_of-self
invariant_of-self c =
    subst Rising (sym c.remove.ensures.items) (out_rises c.in-Ok.i c.self.inside.items.items c.self.invariant)

pub returns-in-Ok : goal.returns-in-Ok
returns-in-Ok c =
    let xs = c.self.inside.items.items in
    let n = c.args.number in
    let p = subst (λ ys. IsBinarySearchResult (λ y. nat_cmp y n) ys c.binary_search.result) c.as_slice.ensures.value
    c.binary_search.ensures.position in
    let q = search_at xs n c.binary_search.result c.in-Ok.i c.self.invariant p c.in-Ok.is in
    subst (λ ys. HasBut n ys c.remove.new.self.items) c.self.view_is
    (subst (HasBut n xs) (sym c.remove.ensures.items) (out_has c.in-Ok.i xs n c.self.invariant q))

pub returns-in_default : goal.returns-in_default
returns-in_default c =
    let xs = c.self.inside.items.items in
    let n = c.args.number in
    let p = subst (λ ys. IsBinarySearchResult (λ y. nat_cmp y n) ys c.binary_search.result) c.as_slice.ensures.value
    c.binary_search.ensures.position in
    let f = search_place xs n c.binary_search.result c.in_default.field-0 c.self.invariant p c.in_default.is in
    subst (λ ys. HasBut n ys ys) c.self.view_is (out_none xs n (fits_none c.in_default.field-0 xs n f))
