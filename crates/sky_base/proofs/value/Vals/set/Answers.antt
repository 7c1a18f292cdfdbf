use Rattle.std.proofs.Common.{◌≡◌, ap, sym, ◌∙◌, ◌<◌, length, subst, get_or}
use Rattle.sky_base.specs.Val.{count}
use Rattle.sky_base.specs.Held.{held}
use Rattle.sky_base.proofs.Sums.{vals_replaced}
use Rattle.sky_base.proofs.Values.{count-vals_of}
use Rattle.sky_base.proofs.value.Vals.set.Goals as goal

pub invariant_of-self-in-Some : goal.invariant_of-self-in-Some
invariant_of-self-in-Some c =
    let xs = held c.self.inside.items in
    let x = c.index-as_slice-at.result in
    let within : c.args.at < length xs = subst (λ n. c.args.at < n) (ap count (sym c.self.view_is) ∙ count-vals_of xs) c.requires in
    let is = subst (λ ys. x ≡ get_or ys c.args.at x) c.as_slice.ensures c.index-as_slice-at.is in
    rw c.in_ok-set.ensures.ok (vals_replaced xs c.args.at c.args.v x c.self.inside.totals c.totals.result c.totals-2.result c.in-Some.totals
    within is c.self.invariant c.totals.ensures c.totals-2.ensures c.in-Some.ensures.size c.in-Some.ensures.depth)
