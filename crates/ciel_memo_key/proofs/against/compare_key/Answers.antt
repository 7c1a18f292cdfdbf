-- The parts of the question were taken one behind the other.
use Rattle.std.proofs.Common.{ℕ, List, ◌∙◌, ap}
use Rattle.std.specs.declared.cmp.Ordering.{Ordering}
use Rattle.sky_base.specs.Name.{big_endian, bytes, bytes_of_text}
use Rattle.sky_base.specs.View.{view}
use Rattle.sky_frozen_bytes.specs.Bytes.{counted}
use Rattle.ciel_memo_key.specs.Against.{AgainstSeen, order_of}
use Rattle.ciel_memo_key.specs.Keys.{block, key_of}
use Rattle.ciel_memo_key.proofs.Taking.{compares, four}
use Rattle.ciel_memo_key.proofs.against.compare_key.Goals as goal

pub returns : goal.returns
returns c =
    let k : List ℕ = key_of c.args.executor.now (view c.args.args.now) c.args.inputs.now c.args.outputs in
    let start : AgainstSeen = record { rest = c.args.key.now; found = Ordering.Equal } in
    c.order.ensures ∙ (ap order_of (four start c.new-against.result c.text.new.self c.take_value.new.against c.count.new.self
    c.take_blocks.new.against (bytes_of_text c.args.executor.now) (bytes (view c.args.args.now)) (big_endian 4 c.args.outputs)
    (counted block c.args.inputs.now) c.new-against.ensures c.text.ensures c.take_value.ensures c.count.ensures
    c.take_blocks.ensures) ∙ compares c.args.key.now k)
