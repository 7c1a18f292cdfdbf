use Rattle.std.proofs.Common.{◌-◌, sym, ap, ◌∙◌}
use Rattle.sky_base.specs.TreeView.{sign_view}
use Rattle.sky_state.specs.Table.{sign_is}
use Rattle.sky_frozen_fits.proofs.Signs.{sign_end, sign_got, sign_other}
use Rattle.sky_frozen_fits.proofs.exprs.sign_row.Goals as goal

pub returns-then-count-signs-clause-row : goal.returns-then-count-signs-clause-row
returns-then-count-signs-clause-row c = sym (sign_end c.args.signs.now (c.args.step - 2) c.if-count-signs.true)

pub returns-in-Star-clause-row : goal.returns-in-Star-clause-row
returns-in-Star-clause-row c =
    sym (sign_got c.args.signs.now (c.args.step - 2) c.in-Some.sign.now c.in-Some.ensures.lookup.1 c.if-count-signs.false
    ∙ ap (λ s. sign_is (sign_view s)) c.in-Star.is)

pub returns-in-Not : goal.returns-in-Not
returns-in-Not c = record {
  row = sym (sign_got c.args.signs.now (c.args.step - 2) c.in-Some.sign.now c.in-Some.ensures.lookup.1 c.if-count-signs.false
      ∙ sign_other c.in-Some.sign.now.sign c.in-Not.is);
  has = λ at. tt;
}
