use Rattle.std.proofs.Common.{◌++◌, ◌∙◌, ap, sym, subst, not, Bool, true, false, ℕ, List, ◌+◌, ◌-◌, ◌≡◌, replicate, refl, arith, true≢false}
use Rattle.std.proofs.lemmas.List.{get_or_read}
use Rattle.std.proofs.Common as common
use Rattle.ciel_journal.specs.Flags.{Sets}
use Rattle.ciel_journal.specs.Turns.{idle_from, is_idle}
use Rattle.ciel_journal.proofs.FlagsLaw.{flags_long, flag_said}
use Rattle.ciel_journal.proofs.IdleLaw.{idle_taken, idle_passed}
use Rattle.ciel_journal.proofs.turn.idle.Goals as goal
use Rattle.ciel_journal.proofs.turn.idle.Goals.{then-not-index+in_ok-push, else-not-index}

was_not : (b : Bool) → not b ≡ true → b ≡ false
was_not true e = absurd (true≢false (sym e))
was_not false e = refl

was_so : (b : Bool) → not b ≡ false → b ≡ true
was_so true e = refl
was_so false e = absurd (true≢false e)

pub loop-worker-preserved : goal.loop-worker-preserved
loop-worker-preserved c =
    let gone : List ℕ = c.args.gone.now in
    let busy : List ℕ = c.args.busy.now in
    let w0 : ℕ = c.loop-worker.worker in
    let n : ℕ = c.args.workers in
    let xs : List ℕ = c.loop-worker.idle.items in
    let rest : List ℕ = idle_from gone busy (w0 + 1) (n - (w0 + 1)) in
    let lost = c.set_flags.ensures.set in
    let start = c.in_ok-flags.ensures.none in
    let then : Sets gone (replicate n false) c.set_flags.new.flags.items = subst (λ fs. Sets gone fs c.set_flags.new.flags.items) start lost in
    let now = c.set_flags-2.ensures.set in
    let long = flags_long gone busy n c.set_flags.new.flags.items c.set_flags-2.new.flags.items then now in
    let said = flag_said gone busy n c.set_flags.new.flags.items c.set_flags-2.new.flags.items then now w0 c.loop-worker-test.true in
    let here = get_or_read c.set_flags-2.new.flags.items w0 c.index.result.now (omega (arith, long, c.loop-worker-test.true)) c.index.ensures false ∙ said in
    elim c.if-not-index.branch [
      | then-not-index+in_ok-push w ↦ ap (λ (v : common.Vec ℕ common.Global). v.items ++ rest) w.idle-is
          ∙ (ap (λ ys. ys ++ rest) w.in_ok-push.ensures.items
          ∙ (idle_taken gone busy xs w0 n c.loop-worker-test.true (was_so (is_idle gone busy w0) (sym here ∙ w.if-not-index.true))
          ∙ c.loop-worker.invariant))
      | else-not-index w ↦ ap (λ (v : common.Vec ℕ common.Global). v.items ++ rest) w.idle-is
          ∙ (idle_passed gone busy xs w0 n c.loop-worker-test.true (was_not (is_idle gone busy w0) (sym here ∙ w.if-not-index.false))
          ∙ c.loop-worker.invariant)
    ]
