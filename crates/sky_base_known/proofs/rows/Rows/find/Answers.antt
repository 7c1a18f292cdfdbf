use Rattle.std.proofs.Common.{sym, ◌∙◌, false}
use Rattle.sky_base.specs.ObjectView.{desc_view}
use Rattle.sky_base_known.proofs.Found.{leads-next, falls-next, found, leads-none}
use Rattle.sky_base_known.specs.HeldView.{rows_of}
use Rattle.sky_base_known.proofs.rows.Rows.find.Goals as goal

pub returns-then-is_same_desc : goal.returns-then-is_same_desc
returns-then-is_same_desc c =
    let e = found c.self.inside.items.items (desc_view c.args.desc.now) c.loop-next.next c.in-Some.number c.index-held.result.now
    c.loop-next.invariant c.in-Some.is c.index-held.ensures (sym c.is_same_desc.ensures ∙ c.if-is_same_desc.true) in
    rw (← c.self.view_is) e

pub loop-next-smaller : goal.loop-next-smaller
loop-next-smaller c =
    falls-next c.self.inside.items.items (desc_view c.args.desc.now) c.loop-next.next c.in-Some.number c.index-held.result.now
    c.self.inside.latest c.loop-next.invariant c.in-Some.is c.index-held.ensures c.self.invariant.2

pub loop-next-preserved : goal.loop-next-preserved
loop-next-preserved c =
    leads-next c.self.inside.items.items (desc_view c.args.desc.now) c.loop-next.next c.in-Some.number c.index-held.result.now
    c.self.inside.latest c.loop-next.invariant c.in-Some.is c.index-held.ensures c.self.invariant.2
    (sym c.is_same_desc.ensures ∙ c.if-is_same_desc.false)

pub returns : goal.returns
returns c =
    rw (← c.self.view_is) (leads-none (rows_of c.self.inside.items.items) (desc_view c.args.desc.now) c.loop-next.next c.loop-next.invariant
    c.in_default.is)
