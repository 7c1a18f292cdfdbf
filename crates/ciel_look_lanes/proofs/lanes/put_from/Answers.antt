-- None, or its number.
use Rattle.std.proofs.Common.{◌++◌, ap, codes, decimal, ◌∙◌}
use Rattle.ciel_look_shown.specs.Plain.{shown}
use Rattle.ciel_look_lanes.proofs.Bars.{from_none, from_some, put_two}
use Rattle.ciel_look_lanes.proofs.lanes.put_from.Goals as goal

pub returns-then-from-eq0 : goal.returns-then-from-eq0
returns-then-from-eq0 c = record { put = from_none c.args.from c.args.tip.now c.if-from-eq0.true }

pub returns : goal.returns
returns c =
    record {
      put = from_some c.args.from c.args.tip.now _ c.if-from-eq0.false
          (put_two c.args.tip.now _ _ (codes " from wait ") (decimal c.args.from)
          (c.in_ok-put.ensures.put ∙ ap (λ b. c.args.tip.now ++ shown b) c.as_bytes.ensures.value) c.in_ok-put_number.ensures.put);
    }
