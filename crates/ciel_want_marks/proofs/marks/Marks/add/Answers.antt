use Rattle.std.proofs.Common.{◌∙◌, sym, refl}
use Rattle.ciel_want_marks.proofs.Slots.{not_both}
use Rattle.ciel_want_marks.proofs.AddedRow.{adds, not_added}
use Rattle.ciel_want_marks.proofs.marks.Marks.add.Goals as goal

pub returns-clause-right : goal.returns-clause-right
returns-clause-right c =
    λ e before after node same right. adds c.args.self.now c.args.live c.args.maker c.grow.new.self c.file.new.self c.rows-row.result
    (sym c.is_full.ensures ∙ c.if-is_full.false) c.rows-row.ensures c.in_ok-grow.ensures.grown c.in_ok-file.ensures before after node same
    right

pub returns-clause-cause : goal.returns-clause-cause
returns-clause-cause c =
    let q = not_added c.args.self.now c.args.live c.args.maker in
    (λ e. cc, λ n. not_both c.is_full.result (c.is_full.ensures ∙ q.1 n) c.if-is_full.false)

pub returns-then-is_full-clause-cause : goal.returns-then-is_full-clause-cause
returns-then-is_full-clause-cause c =
    let q = not_added c.args.self.now c.args.live c.args.maker in
    (λ e. q.0 (sym c.is_full.ensures ∙ c.if-is_full.true), λ n. refl)
