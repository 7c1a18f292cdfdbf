-- Where one loss less stands in front than the count says, or more than a plan has, no plan does.
use Rattle.std.proofs.Common.{arith}
use Rattle.sky_frozen_bytes.proofs.Codes.{list_none, no_count, no_items}
use Rattle.ciel_log_records.specs.Records.{loss_bytes}
use Rattle.ciel_look_told.specs.Head.{IsLoss}
use Rattle.ciel_look_story.proofs.Heads.{loss_free, no_plan, too_many}
use Rattle.ciel_look_story.proofs.read_header.read_losses.Goals as goal

pub returns-in_default-clause-refused : goal.returns-in_default-clause-refused
returns-in_default-clause-refused c = no_plan c.args.reader.now (no_count loss_bytes IsLoss c.args.reader.now c.in_default.ensures)

pub returns-then-count-gt-MOST_LOSSES-clause-refused : goal.returns-then-count-gt-MOST_LOSSES-clause-refused
returns-then-count-gt-MOST_LOSSES-clause-refused c =
    too_many c.args.reader.now c.in-Some.count c.number.new.self c.in-Some.ensures (omega arith) c.if-count-gt-MOST_LOSSES.true

pub returns-in_default-read_loss-clause-refused : goal.returns-in_default-read_loss-clause-refused
returns-in_default-read_loss-clause-refused c =
    let l = c.loop-one in
    no_plan c.args.reader.now (no_items loss_bytes IsLoss c.args.reader.now c.in-Some.count c.number.new.self c.in-Some.ensures (omega arith)
    (list_none loss_bytes IsLoss loss_free l._one c.in-Some.count c.number.new.self l.losses.items l.reader l.invariant (omega arith)
    c.in_default-read_loss.ensures))
