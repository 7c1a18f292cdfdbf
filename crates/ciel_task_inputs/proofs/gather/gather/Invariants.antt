use Rattle.std.proofs.Common.{◌≡◌, map, take}
use Rattle.sky_base.specs.JobView.{job_view}
use Rattle.sky_base.specs.ObjectView.{object_view}
use Rattle.sky_base_law.specs.Sound.{SoundObject}
use Rattle.sky_base_law.specs.Tasks.{Each}
use Rattle.ciel_task_inputs.specs.Gathers.{CopiedFor}
use Rattle.ciel_task_inputs.proofs.GatheredInputs.{lies, seen_of}
use Rattle.ciel_task_inputs.proofs.gather.gather.Given as goal

abbrev pub invariant-loop-name : goal.invariant-loop-name
invariant-loop-name g l = record {
  of : l.eye.of ≡ l.shelves.of;
  so : map (lies (job_view l.job).inputs l.held) (take l.name-index l.names) ≡ map (seen_of (job_view l.job).inputs l.held) l.objects.items;
  copied : CopiedFor l.shelves l.worker (job_view l.job).inputs l.held l.fn.copied.items (take l.name-index l.names) l.copied.items;
  eye : l.eye ≡ l.fn.eye;
  sound : Each (λ o. SoundObject (job_view l.job).script (object_view o)) l.objects.items;
}
