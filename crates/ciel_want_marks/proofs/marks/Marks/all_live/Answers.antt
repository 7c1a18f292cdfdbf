use Rattle.std.proofs.Common.{◌∙◌, ap, sym, get_or}
use Rattle.ciel_want_marks.specs.Lists.{at, flag}
use Rattle.ciel_want_marks.specs.Marks.{MarksSeen}
use Rattle.ciel_want_marks.proofs.ClosedNode.{makes_dead}
use Rattle.ciel_want_marks.proofs.marks.Marks.all_live.Goals as goal

pub returns-then-not-flag-clause-dead : goal.returns-then-not-flag-clause-dead
returns-then-not-flag-clause-dead c =
    let u = c.args.node in
    let rows = c.list_at-rows.result.now in
    let row = get_or rows c.loop-i.i 0 in
    let makes = ap (λ ls. at ls u) c.deref.ensures.value ∙ ap (λ (x : MarksSeen). at x.makes u) c.self.view_is in
    let live = c.deref-in-loop-i.ensures.value ∙ ap (λ (x : MarksSeen). x.live) c.self.view_is in
    let dead = ap (λ fs. flag fs row) (sym live) ∙ (sym c.flag.ensures ∙ c.if-not-flag.true) in
    λ e. makes_dead c.args.self.now u rows c.loop-i.i (c.list_at-rows.ensures ∙ makes) c.loop-i-test.true dead
