-- What the keeper tells after a run that goes on, and what the log's file does.
use Rattle.std.proofs.Common.{◌≡◌, ◌≤◌, ◌∙◌, map, sym, true, ap, subst}
use Rattle.ciel_log_law.specs.Logging.{LogSeen, most}
use Rattle.ciel_log_law.specs.Kept.{Kept}
use Rattle.ciel_log_law.specs.Views.{entry_view}
use Rattle.ciel_run_logged.proofs.KeepingLaw.{keeper_same, keeps, keeps_so, so_far}
use Rattle.ciel_run_onward.proofs.Continued.{continued, continued_so}
use Rattle.ciel_run_onward.proofs.Told.{on_closed}
use Rattle.ciel_task_crew.specs.Crews.{FadesEach}
use Rattle.ciel_run_onward.proofs.run.drive_on.Goals as goal

-- the keeper that is handed back is the one that was lent
pub returns-clause-keeps : goal.returns-clause-keeps
returns-clause-keeps g c = λ ends.
    let name = c.into_parts-inner.ensures.same_reference ∙ ap (λ s. s.keep) c.drive-end.ensures.stays ∙ c.open-crew.ensures.same_reference in
    let back = c.keep-1.given.1 (sym (ap (λ r. r.ghost_name) c.handed_back-kept.ensures.same ∙ name))
    ∙ ap (λ r. r.now) c.handed_back-kept.ensures.same in
    let opened = c.open-crew.ensures.log in
    let k = keeps c.open-crew.result.log c.drive-end.new.crew.log (so_far _ _ _ _ _ _ _ _ _ _ (ap (λ v. v.state) opened)
    (subst (λ (v : LogSeen). v.held ≤ most) (sym opened) c.requires.held) c.drive-end.ensures.calls ends) in
    keeps_so c.open-crew.result.log _ c.drive-end.new.crew.log _ _ opened
    (keeper_same c.drive-end.new.crew.log _ _ _ (ap g.D.Keep.files back ∙ c.into_parts-inner.ensures.files)
    (ap g.D.Keep.asked back ∙ c.into_parts-inner.ensures.asked) (ap g.D.Keep.faults back ∙ c.into_parts-inner.ensures.faults))
    c.into_parts-inner.ensures.state k

pub returns-clause-written : goal.returns-clause-written
returns-clause-written g c = λ first.
    let name = c.into_parts-inner.ensures.same_reference ∙ ap (λ s. s.keep) c.drive-end.ensures.stays ∙ c.open-crew.ensures.same_reference in
    let back = c.keep-1.given.1 (sym (ap (λ r. r.ghost_name) c.handed_back-kept.ensures.same ∙ name))
    ∙ ap (λ r. r.now) c.handed_back-kept.ensures.same in
    let opened = c.open-crew.ensures.log in
    let inner = c.open-crew.ensures.inner in
    let kept = subst (λ x. Kept g.K.Kit.gives g.N.Namer.digest (g.C.Crew.shop x) (g.C.Crew.is_sound x) c.args.master (g.C.Crew.out x) c.args.draws)
    (sym inner) first in
    let w = continued _ _ _ c.log_continues.ensures _ _ _ _ _ kept _ _ (ap (λ v. v.state) opened) _
    (c.drive-end.ensures.end kept).driven c.drive-end.result c.drive-end.ensures.calls in
    continued_so g.K.Kit.gives g.N.Namer.digest g.C.Crew.shop c.args.master.board.plan c.args.master.board.journal c.drive-end.result
    c.open-crew.result.inner c.args.crew c.open-crew.result.log _ c.drive-end.new.crew.log _ _ _ _ inner opened
    (ap g.D.Keep.files back ∙ c.into_parts-inner.ensures.files) c.into_journal-journal.ensures c.into_parts-inner.ensures.state w

pub returns-clause-told : goal.returns-clause-told
returns-clause-told g c = λ ends.
    let after = map g.C.Gate.Gate.entered c.close-gates.result.items in
    on_closed c.args.master.board.journal c.drive-end.new.master.board.journal (map entry_view c.into_journal-journal.result.items)
    (g.C.Crew.told c.args.crew) (g.C.Crew.told c.open-crew.result.inner) (g.C.Crew.told c.drive-end.new.crew.inner) after
    (ap g.C.Crew.told c.open-crew.ensures.inner) c.into_journal-journal.ensures (c.drive-end.ensures.told ends)
    (subst (λ x. g.C.Crew.is_sound x ≡ true → FadesEach (g.C.Crew.told x) after) c.into_parts-inner.ensures.inner c.close-gates.ensures.told
    (c.drive-end.ensures.sound ends))
