use Rattle.std.proofs.Common.{◌∙◌, arith}
use Rattle.sky_base_known.proofs.KnownAt.{kept_push, object_pad}
use Rattle.sky_base_known.proofs.objects.pad.Goals as goal

pub loop-items-preserved : goal.loop-items-preserved
loop-items-preserved c = rw c.push_reserved.ensures.items (record {
  same = λ k o e. object_pad c.loop-items.items.items k o (omega (arith, c.loop-items-test.true, c.len.ensures)) ∙ c.loop-items.invariant.same k o e;
  kept = λ h. kept_push c.loop-items.items.items (c.loop-items.invariant.kept h);
  room = omega (arith, c.push_reserved.ensures.capacity, c.loop-items.invariant.room);
})
