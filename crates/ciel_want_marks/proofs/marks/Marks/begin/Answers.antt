use Rattle.std.proofs.Common.{◌∙◌, ap, sym, subst, length, arith, add-one}
use Rattle.ciel_want_marks.specs.Lists.{entry, flag}
use Rattle.ciel_want_marks.proofs.InitialMarks.{Filing, files_all, files_none, files_one, made_or_live, unmade}
use Rattle.ciel_want_marks.proofs.marks.Marks.begin.Goals as goal

pub loop-row-init : goal.loop-row-init
loop-row-init c =
    record {
      filing = files_none c.args.live.items c.args.makers.items c.args.out.items c.in_ok-marks.marks c.in_ok-marks.ensures;
      within = omega arith;
    }

pub loop-row-preserved : goal.loop-row-preserved
loop-row-preserved c =
    let live = c.args.live.items in
    let makers = c.args.makers.items in
    let row = c.loop-row.row in
    let m = c.loop-row.marks in
    let f = c.loop-row.invariant.filing in
    let maker = ap (λ es. entry es row) (sym f.makers_is) ∙ sym c.maker-maker.ensures.maker in
    let test = sym c.is_unmade.ensures ∙ c.if-is_unmade.false in
    let l = ap length c.in_ok-marks.ensures.live_is in
    record {
      filing = subst (λ i. Filing live makers c.args.out.items i c.file_under.new.self) (sym (add-one row))
          (files_one live makers c.args.out.items c.requires.graph row m c.file_under.new.self c.maker-maker.result f maker
          (λ e. ap (λ fs. flag fs row) (sym f.live_is)
          ∙ made_or_live (entry m.makers row) (flag m.live row) test (sym c.maker-maker.ensures.maker ∙ e)) c.in_ok-file_under.ensures);
      within = omega (arith, c.loop-row-test.true, c.rows-many.ensures, l);
    }

pub returns-then-is_unmade-clause-none : goal.returns-then-is_unmade-clause-none
returns-then-is_unmade-clause-none c =
    let row = c.loop-row.row in
    let m = c.loop-row.marks in
    let f = c.loop-row.invariant.filing in
    let q = unmade (entry m.makers row) (flag m.live row) (sym c.is_unmade.ensures ∙ c.if-is_unmade.true) in
    let l = ap length c.in_ok-marks.ensures.live_is in (
      row,
      omega (arith, c.loop-row-test.true, c.rows-many.ensures, l),
      ap (λ es. entry es row) (sym f.makers_is) ∙ q.0,
      ap (λ fs. flag fs row) (sym f.live_is) ∙ q.1,
    )

pub returns-clause-graph : goal.returns-clause-graph
returns-clause-graph c =
    let l = ap length c.in_ok-marks.ensures.live_is in
    (files_all c.args.live.items c.args.makers.items c.args.out.items c.requires.graph c.loop-row.row c.loop-row.marks
    (omega (arith, c.loop-row-test.false, c.rows-many.ensures, l)) c.loop-row.invariant.within c.loop-row.invariant.filing).0

pub returns-clause-stands : goal.returns-clause-stands
returns-clause-stands c =
    let l = ap length c.in_ok-marks.ensures.live_is in
    (files_all c.args.live.items c.args.makers.items c.args.out.items c.requires.graph c.loop-row.row c.loop-row.marks
    (omega (arith, c.loop-row-test.false, c.rows-many.ensures, l)) c.loop-row.invariant.within c.loop-row.invariant.filing).1
