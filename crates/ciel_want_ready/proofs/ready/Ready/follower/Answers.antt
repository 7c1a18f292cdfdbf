use Rattle.std.proofs.Common.{◌≡◌, ◌∙◌, ◌<◌, ap, sym, subst, length, None, IfOk, IfSome}
use Rattle.ciel_want_ready.specs.Following.{Better, MayFollow, row_desc}
use Rattle.ciel_want_ready.specs.Seen.{ReadySeen}
use Rattle.ciel_want_ready.proofs.FollowerCandidates.{answered, row_within}
use Rattle.ciel_table.specs.Seen.{TableSeen}
use Rattle.ciel_want_ready.proofs.ready.Ready.follower.Goals as goal

pub row_desc-requires : goal.row_desc-requires
row_desc-requires g c =
    let r = c.args.self.now in
    let m = c.in_ok-marks.marks in
    let task = c.args.task.now in
    let same = ap (λ (x : ReadySeen g.row.P.Denot). x.table) (c.self.view_is ∙ c.take_marks.ensures.same) in
    let row = c.first_row-row.result in
    let best = subst (λ t. Better t task m (λ v. MayFollow t task m v) None row) same c.first_row-row.ensures in
    record {
      held = subst (λ (t : TableSeen g.row.P.Denot). IfSome row (λ e. e < length t.rows)) (sym same)
          (row_within r.main r.table r.out m c.in_ok-marks.ensures.fits c.requires.whole task row best);
    }

pub returns-clause-follower : goal.returns-clause-follower
returns-clause-follower g c =
    let r = c.args.self.now in
    let m = c.in_ok-marks.marks in
    let task = c.args.task.now in
    let same = ap (λ (x : ReadySeen g.row.P.Denot). x.table) (c.self.view_is ∙ c.take_marks.ensures.same) in
    let row = c.first_row-row.result in
    let best = subst (λ t. Better t task m (λ v. MayFollow t task m v) None row) same c.first_row-row.ensures in
    answered r.main r.table r.out m c.in_ok-marks.ensures.fits c.requires.whole task row c.row_desc.result best
    (subst (λ t. IfOk c.row_desc.result (λ o. o ≡ row_desc t row)) same c.row_desc.ensures)
