use Rattle.std.proofs.Common.{◌≡◌, length, take}
use Rattle.sky_base.specs.Places.{HasSame}
use Rattle.sky_base.proofs.found.placed.Given as goal

abbrev pub invariant-loop-place : goal.invariant-loop-place
invariant-loop-place l = record {
  same : HasSame l.places (take l.place l.names);
  size : length l.places.latest.items ≡ l.size;
}
