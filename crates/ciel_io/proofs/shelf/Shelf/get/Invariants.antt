-- The files before the index are at other paths.
use Rattle.std.proofs.Common.{◌≡◌, drop}
use Rattle.ciel_io.specs.HeldFiles.{content_at}
use Rattle.ciel_io.proofs.shelf.Shelf.get.Given as goal

abbrev pub invariant-loop-file : goal.invariant-loop-file
invariant-loop-file l = content_at (drop l.file-index l.file-items) l.path ≡ content_at l.file-items l.path
