use Rattle.std.proofs.Common.{◌∙◌, ◌<◌, sym, subst, arith, length, IfSome}
use Rattle.ciel_want_ready.specs.Fits.{needs_by}
use Rattle.ciel_want_ready.proofs.SearchLookups.{are_dead, node_within, unfit}
use Rattle.ciel_want_ready.proofs.search.search.Goals as goal

pub dead_needs-requires : goal.dead_needs-requires
dead_needs-requires g c =
    let t = c.args.table.now in
    let main = c.args.main.now in
    let n = c.next_open.new.self in
    let i = c.search.invariant in
    let s = c.in-Some.ensures.stands (needs_by main t) i.stands in
    record {
      row = subst (λ o. IfSome o (λ e. e < length t.rows)) (sym c.row_of-row.ensures)
          (node_within t main n (c.next_open.ensures.same.live ∙ i.live) c.in-Some.node s c.in-Some.ensures.active);
    }

pub returns-in_default-2-clause-none : goal.returns-in_default-2-clause-none
returns-in_default-2-clause-none g c =
    let t = c.args.table.now in
    let main = c.args.main.now in
    let n = c.next_open.new.self in
    let i = c.search.invariant in
    let s = c.in-Some.ensures.stands (needs_by main t) i.stands in
    unfit t main n (c.next_open.ensures.same.live ∙ i.live) (c.next_open.ensures.same.makers ∙ i.makers_are) c.in-Some.node c.row_of-row.result
    c.row_of-row.ensures s c.in-Some.ensures.active (sym c.in_default-2.is ∙ c.in_ok-rows.ensures)

pub search-smaller : goal.search-smaller
search-smaller g c =
    let t = c.args.table.now in
    let main = c.args.main.now in
    let n = c.next_open.new.self in
    let i = c.search.invariant in
    let s = c.in-Some.ensures.stands (needs_by main t) i.stands in
    let d = are_dead t main n (c.next_open.ensures.same.live ∙ i.live) c.in-Some.node c.row_of-row.result c.in-Some-2.rows c.row_of-row.ensures
    (sym c.in-Some-2.is ∙ c.in_ok-rows.ensures) in
    let a = (c.in_ok-count.ensures.stands (needs_by main t) c.in-Some.ensures.active d s).1 in
    let b = c.in-Some.ensures.left in
    omega (arith, a, b)

pub search-preserved : goal.search-preserved
search-preserved g c =
    let t = c.args.table.now in
    let main = c.args.main.now in
    let n = c.next_open.new.self in
    let i = c.search.invariant in
    let s = c.in-Some.ensures.stands (needs_by main t) i.stands in
    let d = are_dead t main n (c.next_open.ensures.same.live ∙ i.live) c.in-Some.node c.row_of-row.result c.in-Some-2.rows c.row_of-row.ensures
    (sym c.in-Some-2.is ∙ c.in_ok-rows.ensures) in
    record {
      stands = (c.in_ok-count.ensures.stands (needs_by main t) c.in-Some.ensures.active d s).0;
      live = c.in_ok-count.ensures.same.live ∙ (c.next_open.ensures.same.live ∙ i.live);
      makers_are = c.in_ok-count.ensures.same.makers ∙ (c.next_open.ensures.same.makers ∙ i.makers_are);
      out = c.in_ok-count.ensures.same.out ∙ (c.next_open.ensures.same.out ∙ i.out);
    }

pub returns-clause-fits : goal.returns-clause-fits
returns-clause-fits g c =
    let t = c.args.table.now in
    let main = c.args.main.now in
    let i = c.search.invariant in
    record {
      live = c.next_open.ensures.same.live ∙ i.live;
      makers_are = c.next_open.ensures.same.makers ∙ i.makers_are;
      right = c.in_default.ensures.stands (needs_by main t) i.stands;
    }
