-- Each level of a value is read with one level less left; what was read so far stands in front, and its size is gone from the room.
use Rattle.std.proofs.Common.{◌≡◌, ◌+◌, ◌*◌}
use Rattle.sky_base.specs.Val.{sizes, pair_sizes}
use Rattle.ciel_name.specs.Bodies.{ItemsRead, PairsRead}
use Rattle.ciel_name.proofs.read.+read.Given as goal

abbrev pub decreases-read_value : goal.decreases-read_value
decreases-read_value l = 4 * l.left + 2

abbrev pub decreases-read_body : goal.decreases-read_body
decreases-read_body l = 4 * l.left + 1

abbrev pub decreases-read_list : goal.decreases-read_list
decreases-read_list l = 4 * l.left

abbrev pub decreases-read_dict : goal.decreases-read_dict
decreases-read_dict l = 4 * l.left

abbrev pub decreases-read_anonymous : goal.decreases-read_anonymous
decreases-read_anonymous l = 4 * l.left

abbrev pub decreases-read_items : goal.decreases-read_items
decreases-read_items l = 4 * l.left + 3

abbrev pub decreases-read_pairs : goal.decreases-read_pairs
decreases-read_pairs l = 4 * l.left + 3

abbrev pub invariant-read_items-loop-item : goal.invariant-read_items-loop-item
invariant-read_items-loop-item l =
    ItemsRead l._item l.left l.initial.reader l.values l.reader × (l.spare + sizes l.values ≡ l.room)

abbrev pub invariant-read_pairs-loop-pair : goal.invariant-read_pairs-loop-pair
invariant-read_pairs-loop-pair l =
    PairsRead l._pair l.left l.initial.reader l.pairs l.reader × (l.spare + pair_sizes l.pairs ≡ l.room)
