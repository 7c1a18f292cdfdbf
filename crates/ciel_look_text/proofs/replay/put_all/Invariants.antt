-- What was put so far.
use Rattle.std.proofs.Common.{◌≡◌, ◌++◌, ℕ, List, take}
use Rattle.ciel_look_text.specs.Now.{have}
use Rattle.ciel_look_text.specs.Replays.{listed_at}
use Rattle.ciel_look_text.proofs.replay.put_all.Given as goal

abbrev pub invariant-loop-name : goal.invariant-loop-name
invariant-loop-name l =
    (n : List ℕ) → listed_at l.places n ≡ listed_at l.initial.places n ++ have l.worker (take l.name-index l.names) n
