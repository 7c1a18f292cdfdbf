use Rattle.std.proofs.Common.{◌∙◌, ap, sym, subst, arith}
use Rattle.ciel_journal.specs.Job.{In}
use Rattle.ciel_want_marks.specs.Marks.{MarksSeen}
use Rattle.ciel_want_marks.specs.Lists.{flag}
use Rattle.ciel_want_marks.proofs.Slots.{not_both}
use Rattle.ciel_want_marks.proofs.StartedNode.{makes_none, node_can_run, root_can_go_out}
use Rattle.ciel_want_marks.proofs.marks.Marks.can_run.Goals as goal

pub returns-then-node-eq0 : goal.returns-then-node-eq0
returns-then-node-eq0 c =
    root_can_go_out c.args.self.now c.args.node c.root_runs.result c.if-node-eq0.true c.root_runs.ensures.runs

pub returns-then-not-flag : goal.returns-then-not-flag
returns-then-not-flag c =
    let m = c.args.self.now in
    let u = c.args.node in
    let row = c.in-Some.row in
    let out = ap (λ (x : MarksSeen). x.out) c.self.view_is in
    let list = ap (λ (x : MarksSeen). x.list) c.self.view_is in
    let off = ap (λ fs. flag fs u) (sym out) ∙ (ap (λ fs. flag fs u) (sym c.deref.ensures.value) ∙ (sym c.flag.ensures ∙ c.if-not-flag.true)) in
    let q = node_can_run m u row (λ e. absurd (omega (arith, c.if-node-eq0.false, e))) (sym c.least.ensures.least ∙ c.in-Some.is) in
    (λ h. (off, q.1 (subst (In row) list (c.has.ensures.0 h))), λ a. c.has.ensures.1 (subst (In row) (sym list) (q.0 a.1)))

pub returns-else-not-flag : goal.returns-else-not-flag
returns-else-not-flag c =
    let u = c.args.node in
    let out = ap (λ (x : MarksSeen). x.out) c.self.view_is in
    let on = ap (λ fs. flag fs u) (sym out) ∙ (ap (λ fs. flag fs u) (sym c.deref.ensures.value) ∙ (sym c.flag.ensures ∙ c.if-not-flag.false)) in
    (λ h. cc, λ a. not_both (flag c.args.self.now.out u) on a.0)

pub returns-in-None : goal.returns-in-None
returns-in-None c =
    let m = c.args.self.now in
    let u = c.args.node in (
      λ h. cc,
      λ a. absurd (makes_none m u (λ e. absurd (omega (arith, c.if-node-eq0.false, e))) (sym c.least.ensures.least ∙ c.in-None.is) a.1),
    )
