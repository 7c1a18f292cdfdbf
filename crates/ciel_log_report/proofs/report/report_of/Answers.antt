use Rattle.std.proofs.Common.{refl, ◌∙◌}
use Rattle.ciel_log_report.proofs.Parts.{spelled_in}
use Rattle.ciel_log_report.proofs.Refused.{report_fails}
use Rattle.ciel_log_report.proofs.report.report_of.Goals as goal

pub name_all-requires : goal.name_all-requires
name_all-requires g c = record { spelled = rw c.as_slice.ensures.value (spelled_in c.args.logged.now c.requires.data) }

pub returns-clause-report : goal.returns-clause-report
returns-clause-report g c =
    let t = c.in_ok-told.ensures in
    let sound = rw c.in-Some.is at t.sound in
    let passed = rw c.in-Some.is at t.passed in
    let end = rw c.in-Some.is at t.end in
    let same = c.as_slice-named.ensures.value in
    record {
      number = refl;
      worker = refl;
      task = refl;
      spawned = c.in_ok-spawned.ensures.descs ∙ c.as_slice.ensures.value;
      named = c.in_ok-spawned.ensures.named;
      sound = rw same at sound;
      passed = rw same at passed;
      end = rw same at end;
    }

pub returns-clause-kept : goal.returns-clause-kept
returns-clause-kept g c = rw c.in-Some.is at c.in_ok-told.ensures.kept

pub returns-in_default-clause-refused : goal.returns-in_default-clause-refused
returns-in_default-clause-refused g c =
    let no = rw c.in_default.is at c.in_ok-told.ensures.refused in
    let same = c.as_slice-named.ensures.value in
    report_fails (g.N.Namer.digest c.args.shop.now.namer) c.args.script.now c.args.master.now.board c.args.kept.now c.args.order.now c.args.logged.now
    c.in_ok-spawned.spawned.items (c.in_ok-spawned.ensures.descs ∙ c.as_slice.ensures.value) c.in_ok-spawned.ensures.named (rw same at no)
