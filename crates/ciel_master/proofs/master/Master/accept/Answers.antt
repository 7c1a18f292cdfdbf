use Rattle.std.proofs.Common.{◌≡◌, ℕ, List, Some, sym, subst, vec_capacity}
use Rattle.std.specs.Arc.{arc_value}
use Rattle.ciel_master.specs.Seen.{board_of}
use Rattle.ciel_master.proofs.Kept.{carried_now}
use Rattle.ciel_master_board.specs.Board.{Board, Order, find_order}
use Rattle.sky_base.specs.Tree.{Script}
use Rattle.ciel_master.specs.Fitting.{FitsOneOut, FitsUnlessMissing, IsMissedOf}
use Rattle.ciel_master.specs.Marked.{SeenOf, unseen}
use Rattle.ciel_master.proofs.MarkedLosses.{miss_fits}
use Rattle.ciel_store.specs.Seen.{ShelvesSeen}
use Rattle.ciel_master.specs.Seen.{MasterSeen}
use Rattle.ciel_master.proofs.Kept.{unseen_fits}
use Rattle.ciel_task_order.specs.Views.{P}
use Rattle.ciel_task_order.specs.declared.report.Report.{Report}
use Rattle.ciel_master.proofs.master.Master.accept.Goals as goal

pub returns-in_err-now-clause-carried : goal.returns-in_err-now-clause-carried
returns-in_err-now-clause-carried g c =
    let i = c.self.inside in
    let n = (arc_value i.shop).namer in
    let b = board_of i.plan (arc_value i.shop).job.script.keys i.main i.ready.table i.orders.items i.starts i.closes i.journal.items i.stopped in
    carried_now g.N.Namer.digest c.args.self.now n (arc_value i.shop).shelves (arc_value i.shop).job.script b c.self.view_is i.lost.items (vec_capacity i.journal)
    (vec_capacity i.lost) i.marker i.ready c.self.invariant c.requires.going c.confirm-report.new.marker c.confirm-report.ensures.same
    c.args.report.end c.confirm-report.ensures.marked

pub returns-clause-carried : goal.returns-clause-carried
returns-clause-carried g c =
    let i = c.self.inside in
    let n = (arc_value i.shop).namer in
    let b = board_of i.plan (arc_value i.shop).job.script.keys i.main i.ready.table i.orders.items i.starts i.closes i.journal.items i.stopped in
    carried_now g.N.Namer.digest c.args.self.now n (arc_value i.shop).shelves (arc_value i.shop).job.script b c.self.view_is i.lost.items (vec_capacity i.journal)
    (vec_capacity i.lost) i.marker i.ready c.self.invariant c.requires.going c.confirm-report.new.marker c.confirm-report.ensures.same
    c.args.report.end c.confirm-report.ensures.marked

-- what is asked of the report, of the master's parts
fits_of : {N : Type 0} (dig : N → List ℕ → List ℕ) (n : N) (sh : ShelvesSeen) (sc : Script) (b : Board P) (m : MasterSeen N)
    → record { namer = n; shelves = sh; script = sc; board = b } ≡ m → (r : Report)
    → FitsOneOut (dig m.namer) m.shelves m.script m.board r → FitsOneOut (dig n) sh sc b r
fits_of dig n sh sc b m e r fits =
    subst (λ (z : MasterSeen _). FitsOneOut (dig z.namer) z.shelves z.script z.board r) (sym e) fits

pub take-requires-clause-fits : goal.take-requires-clause-fits
take-requires-clause-fits g c =
    let i = c.self.inside in
    let n = (arc_value i.shop).namer in
    let sh = (arc_value i.shop).shelves in
    let sc = (arc_value i.shop).job.script in
    let b = board_of i.plan (arc_value i.shop).job.script.keys i.main i.ready.table i.orders.items i.starts i.closes i.journal.items i.stopped in
    let r = c.args.report in
    let fits = fits_of g.N.Namer.digest n sh sc b c.args.self.now c.self.view_is r c.requires.fits in
    subst (λ (z : Report). (x : Order P) × (find_order z.number b.orders ≡ Some x.out)
    × FitsUnlessMissing (g.N.Namer.digest n) sh sc b x z.spawned.items z.copied.items z.end) (sym c.confirm-report.ensures.rest)
    (fits.0, fits.1, unseen_fits (g.N.Namer.digest n) sh sc b fits.0 r.spawned.items r.copied.items r.end fits.2.whole)

pub returns-in_err-now-clause-missing : goal.returns-in_err-now-clause-missing
returns-in_err-now-clause-missing g c x =
    miss_fits (g.N.Namer.digest c.args.self.now.namer) c.args.self.now.board x c.args.report.copied.items c.args.report.end
    (returns-in_err-now-clause-carried g c)

pub returns-clause-missing : goal.returns-clause-missing
returns-clause-missing g c x =
    miss_fits (g.N.Namer.digest c.args.self.now.namer) c.args.self.now.board x c.args.report.copied.items c.args.report.end
    (returns-clause-carried g c)
