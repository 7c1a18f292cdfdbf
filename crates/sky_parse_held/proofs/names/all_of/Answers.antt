use Rattle.std.proofs.Common.{◌∙◌, ap, drop, ◌+◌, sym, List, ℕ, arith}
use Rattle.std.specs.Prelude.{◌||◌}
use Rattle.sky_base.specs.Eval.{is_one_of}
use Rattle.sky_parse_held.proofs.NamesLaw.{known_next, item_at}
use Rattle.sky_parse_held.proofs.names.all_of.Goals as goal

pub loop-name-preserved : goal.loop-name-preserved
loop-name-preserved c = λ x.
    let i = c.loop-name.name-index in
    let ns = c.args.names.now in
    known_next c.name-item.result c.loop-name.known c.put.new.self (drop (i + 1) ns) c.in_ok-put.ensures.keys x
    ∙ ap (λ (ys : List (List ℕ)). is_one_of x c.loop-name.known || is_one_of x ys)
    (sym (item_at ns i c.name-item.result (omega arith) c.name-item.is)) ∙ c.loop-name.invariant x
