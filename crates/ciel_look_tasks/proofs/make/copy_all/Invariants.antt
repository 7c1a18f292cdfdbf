-- What was put so far.
use Rattle.std.proofs.Common.{◌≡◌, ◌++◌, ℕ, List, take}
use Rattle.ciel_look_tasks.specs.ObjectPlaces.{placed}
use Rattle.ciel_look_tasks.specs.Objects.{put_at}
use Rattle.ciel_look_tasks.proofs.make.copy_all.Given as goal

abbrev pub invariant-loop-name : goal.invariant-loop-name
invariant-loop-name l =
    record {
      put : (n : List ℕ) → placed l.places.at n ≡ placed l.fn.places.at n ++ put_at l.place.worker (take l.name-index l.names) n;
      gone : l.places.gone ≡ l.fn.places.gone;
    }
