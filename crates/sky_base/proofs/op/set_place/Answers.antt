use Rattle.std.proofs.Common.{refl, ap, ◌∙◌, arith}
use Rattle.sky_base.specs.Op.{limited_list}
use Rattle.sky_base.specs.Val.{list}
use Rattle.sky_base.specs.View.{view}
use Rattle.sky_base.proofs.Changes.{set_deep, set_large, set_kept, limited_kept}
use Rattle.sky_base.proofs.op.set_place.Goals as goal

pub returns-then-depth-ge-MOST_DEPTH-clause-answer : goal.returns-then-depth-ge-MOST_DEPTH-clause-answer
returns-then-depth-ge-MOST_DEPTH-clause-answer c =
    (set_deep c.args.vs.now c.args.at (view c.args.e) c.requires.at (omega arith), refl)

pub returns-then-other_sizes-size-ge-MOST_SIZE-clause-answer : goal.returns-then-other_sizes-size-ge-MOST_SIZE-clause-answer
returns-then-other_sizes-size-ge-MOST_SIZE-clause-answer c = (
  set_large c.args.vs.now c.args.at (view c.args.e) c.requires.at (omega arith) (omega arith)
      (λ ws h. omega (arith, c.other_sizes.ensures.sum (view c.args.e) ws h)),
  refl,
)

pub returns-clause-answer : goal.returns-clause-answer
returns-clause-answer c =
    let put = c.in_ok-set.ensures.ok in
    ap limited_list put ∙ limited_kept (list c.set.new.self)
    (set_kept c.args.vs.now c.args.at (view c.args.e) c.set.new.self c.requires.at put (omega arith) (omega arith)
    (omega (arith, c.other_sizes.ensures.sum (view c.args.e) c.set.new.self put)))

pub returns-clause-kept : goal.returns-clause-kept
returns-clause-kept c =
    let put = c.in_ok-set.ensures.ok in
    set_kept c.args.vs.now c.args.at (view c.args.e) c.set.new.self c.requires.at put (omega arith) (omega arith)
    (omega (arith, c.other_sizes.ensures.sum (view c.args.e) c.set.new.self put))
