use Rattle.std.proofs.Common.{◌≡◌, ◌∙◌, ◌-◌, ◌||◌, ap, arith, drop, subst, sym, false, true}
use Rattle.std.specs.BTreeMap.{is_at}
use Rattle.std.specs.BTreeSet.{contains}
use Rattle.std.specs.List.{IsDistinct, list_any}
use Rattle.sky_base.specs.NameOrder.{name_cmp}
use Rattle.sky_base.specs.Names.{is_among}
use Rattle.sky_base.specs.Val.{same_text}
use Rattle.ciel_log_fits.proofs.Learned.{added}
use Rattle.ciel_log_fits.proofs.Places.{cut, distinct_more, distinct_none, end_drop, is_new, not_distinct, was_there}
use Rattle.ciel_log_fits.proofs.given.are_distinct.Goals as goal

pub loop-i-init : goal.loop-i-init
loop-i-init c =
    let ns = c.args.names.now in (
      λ n. ap (list_any (is_at (name_cmp n))) c.new-behind.ensures.empty ∙ sym (ap (is_among n) (end_drop ns)),
      subst (IsDistinct same_text) (sym (end_drop ns)) distinct_none,
      omega arith,
    )

pub loop-i-preserved : goal.loop-i-preserved
loop-i-preserved c =
    let ns = c.args.names.now in
    let i = c.loop-i.i in
    let name = c.index-names-i.result in
    let old = c.loop-i.behind in
    let here = cut ns i name (omega (arith, c.loop-i-test.true)) c.loop-i.invariant.2 c.index-names-i.is in
    let new : contains name_cmp old name ≡ false =
    is_new (contains name_cmp old name) (sym c.in-Ok-true.field-0-test ∙ c.in-Ok-true.ensures.added) in (
      λ n. added old c.insert.new.self name n c.in-Ok-true.ensures.updates
          ∙ ap (λ b. same_text n name || b) (c.loop-i.invariant.0 n) ∙ sym (ap (is_among n) here),
      subst (IsDistinct same_text) (sym here)
          (distinct_more name (drop i ns) (sym (c.loop-i.invariant.0 name) ∙ new) c.loop-i.invariant.1),
      omega (arith, c.loop-i.invariant.2),
    )

pub returns-in-Ok-false-clause-no : goal.returns-in-Ok-false-clause-no
returns-in-Ok-false-clause-no c = λ t.
    let ns = c.args.names.now in
    let i = c.loop-i.i in
    let name = c.index-names-i.result in
    let old = c.loop-i.behind in
    let here = cut ns i name (omega (arith, c.loop-i-test.true)) c.loop-i.invariant.2 c.index-names-i.is in
    let was : contains name_cmp old name ≡ true =
    was_there (contains name_cmp old name) (sym c.in-Ok-false.field-0-test ∙ c.in-Ok-false.ensures.added) in
    not_distinct (i - 1) ns name (drop i ns) here (sym (c.loop-i.invariant.0 name) ∙ was)
