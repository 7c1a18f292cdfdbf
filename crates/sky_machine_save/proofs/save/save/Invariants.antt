-- What is saved so far, with the rest, is all.
use Rattle.std.proofs.Common.{◌≡◌, drop}
use Rattle.sky_base.specs.Read.{frames_of}
use Rattle.sky_base_scope.specs.Plain.{Pairs}
use Rattle.sky_machine_entries.specs.Entries.{forms}
use Rattle.sky_machine_save.specs.Saving.{AllCanSave, part_of, with_rest}
use Rattle.sky_machine_save.proofs.save.save.Given as goal

abbrev pub invariant-loop-entry : goal.invariant-loop-entry
invariant-loop-entry l =
    AllCanSave (forms (drop l.entry-index l.entries))
    × ((xs : Pairs) → with_rest (part_of l.saving) (forms (drop l.entry-index l.entries)) xs ≡ frames_of (forms l.entries) l.fn.fun xs)
