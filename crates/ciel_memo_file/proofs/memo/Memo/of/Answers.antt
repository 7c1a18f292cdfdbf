-- All keys and places were taken out of the map, in order.
use Rattle.std.proofs.Common.{map}
use Rattle.std.specs.Map.{keys_of}
use Rattle.ciel_memo_file.specs.Entries.{entry_view}
use Rattle.ciel_memo_file.proofs.Places.{all_taken, orders, stands}
use Rattle.ciel_memo_file.proofs.memo.Memo.of.Goals as goal

pub invariant_of-result : goal.invariant_of-result
invariant_of-result c =
    let l = c.loop-key in
    let ps = c.args.gathered.places.entries in
    let none = c.in-None.ensures.steps.0 in
    stands (map entry_view c.args.gathered.entries.items) l.keys.items l.order.items c.args.file ps c.requires.memo c.requires.placed
    c.into_iter-key-iterator.ensures.into_iter_gives.5 (all_taken (λ p. p.0) l.keys.items l.key-iterator (keys_of ps) l.invariant.keys none)
    (all_taken (λ p. p.1) l.order.items l.key-iterator (orders ps) l.invariant.order none) c.requires.file
