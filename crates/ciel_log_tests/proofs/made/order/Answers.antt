-- The order brings along the main call's object, which is the job's input.
use Rattle.std.proofs.Common.{List, arith, inl, length, refl, subst, sym}
use Rattle.std.specs.List.{IsDistinct}
use Rattle.sky_base.specs.Val.{same_text}
use Rattle.sky_base_law.specs.Tasks.{Each, In}
use Rattle.ciel_task_order.specs.Orders.{SpotSound, names_in}
use Rattle.ciel_task_order.specs.declared.block.Held.{Held}
use Rattle.ciel_log_tests.proofs.Single.{alone}
use Rattle.ciel_log_tests.proofs.made.order.Goals as goal

pub returns-clause-sound : goal.returns-clause-sound
returns-clause-sound c =
    let shop = c.args.shop.now in
    let main = c.short-main.result in
    let held = sym c.in_ok-brought.ensures in
    record {
      worker = omega (arith, c.requires.small.workers);
      describes = tt;
      saved = (refl, subst (λ (hs : List Held). In main (names_in hs)) held (inl refl));
      spots = subst (Each (λ (h : Held). SpotSound shop.shelves shop.job.script (length shop.job.inputs) h.at)) held
          (omega (arith, c.requires.small.inputs), tt);
      distinct = subst (λ (hs : List Held). IsDistinct same_text (names_in hs)) held (alone main);
    }
