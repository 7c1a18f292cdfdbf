-- Block after block is taken, behind their number.
use Rattle.std.proofs.Common.{ℕ, List, ◌++◌, flat_map, length, refl, arith, sym, append_assoc}
use Rattle.sky_base.specs.Name.{big_endian}
use Rattle.ciel_memo_key.specs.Keys.{block}
use Rattle.ciel_memo_key.proofs.Taking.{counted, goes_on, goes_to_end, taken_joined}
use Rattle.ciel_memo_key.proofs.against.take_blocks.Goals as goal

abbrev blocks : List (List ℕ) → List ℕ
blocks xs = flat_map block xs

pub loop-bytes-preserved : goal.loop-bytes-preserved
loop-bytes-preserved c =
    let xs = c.args.all.now in
    let b = c.bytes-item.result in
    goes_on block blocks (λ b bs. refl)
    c.count.new.self c.loop-bytes.against c.raw.new.self xs c.loop-bytes.bytes-index b (blocks xs) (omega (arith, c.loop-bytes-test.true))
    c.bytes-item.is c.loop-bytes.invariant (search (
      taken_joined,
      c.raw.ensures,
      c.count-in-loop-bytes.ensures,
      c.as_slice.ensures,
      c.as_slice-in-loop-bytes.ensures,
    ))

pub returns : goal.returns
returns c =
    let xs = c.args.all.now in
    counted c.args.against.now c.count.new.self c.loop-bytes.against (length xs) (length xs) (blocks xs) (blocks xs)
    (goes_to_end blocks refl c.count.new.self c.loop-bytes.against xs c.loop-bytes.bytes-index (blocks xs)
    (omega (arith, c.loop-bytes-test.false)) c.loop-bytes.invariant) c.count.ensures refl refl
