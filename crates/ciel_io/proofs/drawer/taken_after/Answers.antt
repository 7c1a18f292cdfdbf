-- What a call makes of the files takes what it took, and what is put there.
use Rattle.std.proofs.Common.{◌≡◌, ◌∙◌, ◌+◌, ◌<◌, ◌≤◌, Some, None, ap, arith, get_or, length, length-append, sym, []}
use Rattle.ciel_io.specs.HeldKeep.{changed, put_so, taken}
use Rattle.ciel_io.specs.Rows.{space}
use Rattle.ciel_io.proofs.DrawerLaw.{place_below, put_nothing, space_at, taken_new, taken_old}
use Rattle.ciel_io.proofs.drawer.taken_after.Goals as goal

pub row-requires : goal.row-requires
row-requires c =
    let below = place_below c.args.paths.now.rows c.args.path.now c.in-Some.place (sym c.requires.place ∙ c.in-Some.is) in
    omega (arith, below, c.requires.same)

pub overflow_sub-result : goal.overflow_sub-result
overflow_sub-result c =
    let below = place_below c.args.paths.now.rows c.args.path.now c.in-Some.place (sym c.requires.place ∙ c.in-Some.is) in
    let here : c.in-Some.place < length c.args.contents.now.rows = omega (arith, below, c.requires.same) in
    let old = space_at c.args.contents.now.rows c.in-Some.place here in
    omega (arith, old, ap length c.row.ensures, c.size-2.ensures.size)

pub returns-in-Behind : goal.returns-in-Behind
returns-in-Behind c =
    let place = sym c.requires.place ∙ c.in-Some.is in
    let old = get_or c.args.contents.now.rows c.in-Some.place [] in
    let t = taken_old c.args.paths.now.rows c.args.contents.now.rows c.args.asked.now.rows c.args.path.now
    (put_so c.args.way c.args.piece.now) c.in-Some.place c.requires.same place in
    let way = ap (λ w. length (put_so w c.args.piece.now old)) c.in-Behind.is in
    omega (arith, t, way, length-append old c.args.piece.now, c.size.ensures.size, c.size-2.ensures.size, c.size-3.ensures.size)

pub returns-in-Instead : goal.returns-in-Instead
returns-in-Instead c =
    let place = sym c.requires.place ∙ c.in-Some.is in
    let old = get_or c.args.contents.now.rows c.in-Some.place [] in
    let below = place_below c.args.paths.now.rows c.args.path.now c.in-Some.place place in
    let here : c.in-Some.place < length c.args.contents.now.rows = omega (arith, below, c.requires.same) in
    let t = taken_old c.args.paths.now.rows c.args.contents.now.rows c.args.asked.now.rows c.args.path.now
    (put_so c.args.way c.args.piece.now) c.in-Some.place c.requires.same place in
    let way = ap (λ w. length (put_so w c.args.piece.now old)) c.in-Instead.is in
    omega (
      arith,
      t,
      way,
      space_at c.args.contents.now.rows c.in-Some.place here,
      ap length c.row.ensures,
      c.size.ensures.size,
      c.size-2.ensures.size,
      c.size-3.ensures.size,
    )

pub returns-in-None : goal.returns-in-None
returns-in-None c =
    let place = sym c.requires.place ∙ c.in-None.is in
    let t = taken_new c.args.paths.now.rows c.args.contents.now.rows c.args.asked.now.rows c.args.path.now
    (put_so c.args.way c.args.piece.now) c.requires.same place in
    let way = ap length (put_nothing c.args.way c.args.piece.now) in
    omega (arith, t, way, c.size.ensures.size, c.size-2.ensures.size, c.size-3.ensures.size)
