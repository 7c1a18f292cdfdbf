-- The forms so far, with those of the frames that are left, are all.
use Rattle.std.proofs.Common.{◌≡◌, length}
use Rattle.sky_base_law.specs.Tasks.{Each}
use Rattle.sky_machine_entries.specs.Entries.{forms}
use Rattle.sky_machine_entries.specs.Ready.{AllReady}
use Rattle.sky_state.specs.Fits.{FitsFrame}
use Rattle.sky_state.specs.StandView.{frames_view}
use Rattle.sky_machine_restore.specs.Restoring.{frames_forms, after_these}
use Rattle.sky_machine_restore.proofs.restore.open_frames.Given as goal

abbrev pub invariant-loop-frame : goal.invariant-loop-frame
invariant-loop-frame l = record {
  fits : Each (FitsFrame l.code) (frames_view l.rest);
  same : after_these (forms l.entries.items) (frames_forms l.code (frames_view l.rest)) ≡ frames_forms l.code (frames_view l.frames);
  ready : AllReady l.code l.entries.items;
}

abbrev pub decreases-loop-frame : goal.decreases-loop-frame
decreases-loop-frame l = length l.rest
