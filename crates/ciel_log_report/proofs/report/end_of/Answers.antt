use Rattle.std.proofs.Common.{Vec, length, ◌∙◌}
use Rattle.std.specs.Global.{Global}
use Rattle.sky_base.specs.declared.object.Named.{Named}
use Rattle.sky_base_law.specs.Sound.{SoundDesc}
use Rattle.ciel_journal.specs.Job.{Each}
use Rattle.ciel_log_fits.specs.Read.{SpawnedPass}
use Rattle.ciel_log_report.proofs.Parts.{after_is, always, lasting_end, missing_end, missing_none, spelled_named}
use Rattle.ciel_log_report.proofs.Refused.{end_fails, lack_fails, none_under, spawned_fails}
use Rattle.ciel_master_board.specs.Reports.{named_view}
use Rattle.ciel_task_order.specs.Performs.{IsMissing}
use Rattle.ciel_task_order.specs.declared.block.Held.{Held}
use Rattle.ciel_task_order.specs.declared.report.End.{End}
use Rattle.ciel_log_report.proofs.report.end_of.Goals as goal

pub returns-in-Missing-clause-sound : goal.returns-in-Missing-clause-sound
returns-in-Missing-clause-sound g c =
    missing_none c.args.order.now c.args.shop.now.shelves c.args.script.now c.args.kept.now (g.N.Namer.digest c.args.master.now.namer)
    c.args.logged.now.end c.args.logged.now.copied.items c.in_ok-lost.lost
    (Each (λ (n : Named). SoundDesc c.args.script.now (named_view n)) c.args.spawned.now) c.args.master.now.board
    (length c.args.spawned.now) c.in-Missing.name c.in-Missing.loss c.as_slice-copied.result.now c.in_ok-lost.ensures.missed

pub returns-in-Missing-clause-passed : goal.returns-in-Missing-clause-passed
returns-in-Missing-clause-passed g c =
    missing_none c.args.order.now c.args.shop.now.shelves c.args.script.now c.args.kept.now (g.N.Namer.digest c.args.master.now.namer)
    c.args.logged.now.end c.args.logged.now.copied.items c.in_ok-lost.lost
    (SpawnedPass (g.N.Namer.digest c.args.shop.now.namer) c.args.script.now c.args.master.now.board.table c.args.spawned.now) c.args.master.now.board
    (length c.args.spawned.now) c.in-Missing.name c.in-Missing.loss c.as_slice-copied.result.now c.in_ok-lost.ensures.missed

pub returns-in-Missing-clause-end : goal.returns-in-Missing-clause-end
returns-in-Missing-clause-end g c =
    let lost = c.in_ok-lost.ensures.missed in
    missing_end c.args.order.now c.args.shop.now.shelves c.args.script.now c.args.kept.now (g.N.Namer.digest c.args.shop.now.namer)
    c.args.logged.now.end c.args.logged.now.copied.items c.in_ok-lost.lost
    (record { table = c.args.master.now.board.table; spawned = c.args.spawned.now }) c.args.master.now.board c.in-Missing.name c.in-Missing.loss
    c.as_slice-copied.result.now c.in-Missing.is c.as_slice-copied.ensures.value (rw c.requires.namer at lost)

pub is_allowed-requires-clause-spelled : goal.is_allowed-requires-clause-spelled
is_allowed-requires-clause-spelled g c = spelled_named (g.N.Namer.digest c.args.shop.now.namer) c.args.spawned.now c.requires.named

pub returns-clause-sound : goal.returns-clause-sound
returns-clause-sound g c =
    always (λ (t : Vec Held Global × End). IsMissing t.1 → ⊥) (Each (λ (n : Named). SoundDesc c.args.script.now (named_view n)) c.args.spawned.now) c.in_ok-told.told
    (c.in_ok-allowed.ensures.sound c.if-not-allowed.false)

pub returns-clause-passed : goal.returns-clause-passed
returns-clause-passed g c =
    let digest = g.N.Namer.digest c.args.shop.now.namer in
    let n = c.in_ok-allowed.ensures in
    let yes = c.if-not-allowed.false in
    let table = c.in_ok-known.ensures.table ∙ c.table.ensures in
    let inside = n.inside yes digest in
    always (λ (t : Vec Held Global × End). IsMissing t.1 → ⊥) (SpawnedPass digest c.args.script.now c.args.master.now.board.table c.args.spawned.now) c.in_ok-told.told
    (record { named = c.requires.named; serves = n.serves yes; whole = n.whole yes; inside = rw table at inside })

pub returns-clause-end : goal.returns-clause-end
returns-clause-end g c =
    let table = c.in_ok-known.ensures.table ∙ c.table.ensures in
    lasting_end c.args.order.now c.args.shop.now.shelves c.args.script.now c.args.kept.now (g.N.Namer.digest c.args.shop.now.namer)
    c.args.logged.now.end c.args.logged.now.copied.items c.in_ok-told.told c.in_ok-known.known _ c.as_slice-copied.result.now c.args.master.now.board
    (after_is c.in_ok-known.known c.args.master.now.board.table c.args.spawned.now table c.in_ok-known.ensures.spawned)
    c.as_slice-copied.ensures.value c.in_ok-told.ensures.end

pub returns-in-Missing-clause-refused : goal.returns-in-Missing-clause-refused
returns-in-Missing-clause-refused g c =
    let digest = g.N.Namer.digest c.args.shop.now.namer in
    let lost = c.in_ok-lost.ensures.refused in
    none_under _ _ c.in_ok-lost.lost
    (lack_fails digest c.args.script.now c.args.master.now.board c.args.kept.now c.args.order.now c.args.spawned.now c.args.logged.now.copied.items
    c.args.logged.now.end c.as_slice-copied.result.now c.in-Missing.name c.in-Missing.loss c.in-Missing.is c.as_slice-copied.ensures.value)
    (rw c.requires.namer at lost)

pub returns-then-not-allowed-clause-refused : goal.returns-then-not-allowed-clause-refused
returns-then-not-allowed-clause-refused g c =
    let digest = g.N.Namer.digest c.args.shop.now.namer in
    spawned_fails digest c.args.script.now c.args.master.now.board c.args.kept.now c.args.order.now c.args.spawned.now
    c.args.logged.now.copied.items c.args.logged.now.end c.in_default.not-Missing c.in_ok-known.known.table
    (c.in_ok-known.ensures.table ∙ c.table.ensures) (c.in_ok-allowed.ensures.refused c.if-not-allowed.true digest)

pub returns-clause-refused : goal.returns-clause-refused
returns-clause-refused g c =
    let digest = g.N.Namer.digest c.args.shop.now.namer in
    let table = c.in_ok-known.ensures.table ∙ c.table.ensures in
    none_under _ _ c.in_ok-told.told
    (end_fails digest c.args.script.now c.args.master.now.board c.args.kept.now c.args.order.now c.args.spawned.now
    c.args.logged.now.copied.items c.args.logged.now.end c.in_default.not-Missing c.in_ok-known.known
    c.as_slice-copied.result.now
    (after_is c.in_ok-known.known c.args.master.now.board.table c.args.spawned.now table c.in_ok-known.ensures.spawned)
    c.as_slice-copied.ensures.value) c.in_ok-told.ensures.refused
