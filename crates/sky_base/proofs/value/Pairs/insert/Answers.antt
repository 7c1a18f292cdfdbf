use Rattle.std.proofs.Common.{◌≡◌, ap, sym, ◌∙◌, subst, get_or, arith, rules, Ok, Err}
use Rattle.sky_base.specs.Val.{Rising}
use Rattle.sky_base.specs.View.{view, pairs_of}
use Rattle.sky_base.specs.Op.{put}
use Rattle.sky_base.specs.Held.{held}
use Rattle.sky_base.specs.Place.{IsPlace}
use Rattle.sky_base.specs.declared.value.Pair.{Pair}
use Rattle.sky_base.proofs.Keys.{Rising-put, put_set, put_insert}
use Rattle.sky_base.proofs.Sums.{pairs_replaced, pair_sizes-insert, pair_depths-insert}
use Rattle.sky_base.proofs.value.Pairs.insert.Goals as goal

pub invariant_of-self-in-Err : goal.invariant_of-self-in-Err
invariant_of-self-in-Err c =
    let ps = held c.self.inside.items in
    let p = subst (λ l. IsPlace (Err c.in-Err.at) l c.args.key) c.as_slice.ensures c.in-Err.ensures in
    let pr : Pair = record { key = c.args.key; value = c.args.value } in
    let putted = put_insert ps c.in-Err.at pr p.1 p.2 p.0 in
    rw c.in_ok-insert-in-Err.ensures.ok (
      subst Rising (sym putted) (Rising-put c.args.key (view c.args.value) (pairs_of ps) c.self.invariant.0),
      record {
        size_is = omega (arith, pair_sizes-insert ps c.in-Err.at pr p.0, c.self.invariant.1);
        depth_is =
            omega (arith, pair_depths-insert ps c.in-Err.at pr p.0, c.self.invariant.1);
      },
    )

pub returns-in-Err-clause-ok : goal.returns-in-Err-clause-ok
returns-in-Err-clause-ok c =
    let ps = held c.self.inside.items in
    let p = subst (λ l. IsPlace (Err c.in-Err.at) l c.args.key) c.as_slice.ensures c.in-Err.ensures in
    let pr : Pair = record { key = c.args.key; value = c.args.value } in
    ap pairs_of c.in_ok-insert-in-Err.ensures.ok ∙ put_insert ps c.in-Err.at pr p.1 p.2 p.0 ∙ ap (put c.args.key (view c.args.value)) c.self.view_is

pub invariant_of-self-in-Some : goal.invariant_of-self-in-Some
invariant_of-self-in-Some c =
    let ps = held c.self.inside.items in
    let p = subst (λ l. IsPlace (Ok c.in-Ok.at) l c.args.key) c.as_slice.ensures c.in-Ok.ensures in
    let pr : Pair = record { key = c.args.key; value = c.args.value } in
    let x = c.index-as_slice-at.result in
    let is = subst (λ ys. x ≡ get_or ys c.in-Ok.at x) c.as_slice-2.ensures c.index-as_slice-at.is in
    let putted = put_set ps c.in-Ok.at pr p.0 p.1 p.2 in
    rw c.in_ok-set.ensures.ok (
      subst Rising (sym putted) (Rising-put c.args.key (view c.args.value) (pairs_of ps) c.self.invariant.0),
      pairs_replaced ps c.in-Ok.at pr x c.self.inside.totals c.totals.result c.totals-added.result c.in-Some.totals p.0 is c.self.invariant.1
          c.totals.ensures c.totals-added.ensures c.in-Some.ensures.size c.in-Some.ensures.depth,
    )

pub returns-in-Some-clause-ok : goal.returns-in-Some-clause-ok
returns-in-Some-clause-ok c =
    let ps = held c.self.inside.items in
    let p = subst (λ l. IsPlace (Ok c.in-Ok.at) l c.args.key) c.as_slice.ensures c.in-Ok.ensures in
    let pr : Pair = record { key = c.args.key; value = c.args.value } in
    ap pairs_of c.in_ok-set.ensures.ok ∙ put_set ps c.in-Ok.at pr p.0 p.1 p.2 ∙ ap (put c.args.key (view c.args.value)) c.self.view_is

pub invariant_of-self-2 : goal.invariant_of-self-2
invariant_of-self-2 c =
    let ps = held c.self.inside.items in
    let p = subst (λ l. IsPlace (Ok c.in-Ok.at) l c.args.key) c.as_slice.ensures c.in-Ok.ensures in
    let pr : Pair = record { key = c.args.key; value = c.args.value } in
    let putted = ap pairs_of c.in_ok-set.ensures.ok ∙ put_set ps c.in-Ok.at pr p.0 p.1 p.2 in
    (subst Rising (sym putted) (Rising-put c.args.key (view c.args.value) (pairs_of ps) c.self.invariant.0), search rules)

pub returns-clause-ok : goal.returns-clause-ok
returns-clause-ok c =
    let ps = held c.self.inside.items in
    let p = subst (λ l. IsPlace (Ok c.in-Ok.at) l c.args.key) c.as_slice.ensures c.in-Ok.ensures in
    let pr : Pair = record { key = c.args.key; value = c.args.value } in
    ap pairs_of c.in_ok-set.ensures.ok ∙ put_set ps c.in-Ok.at pr p.0 p.1 p.2 ∙ ap (put c.args.key (view c.args.value)) c.self.view_is
