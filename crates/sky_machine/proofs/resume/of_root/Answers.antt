use Rattle.std.proofs.Common.{[], map, subst, sym, add-one}
use Rattle.sky_base.specs.View.{view}
use Rattle.sky_base.specs.ObjectView.{object_view}
use Rattle.sky_state.specs.Fits.{FitsShow}
use Rattle.sky_state.specs.Stand.{Stand}
use Rattle.sky_machine_show.specs.declared.show.Came as shows
use Rattle.sky_machine.specs.Steps.{Resumed}
use Rattle.sky_machine.specs.declared.step.Step.{Step}
use Rattle.sky_machine.proofs.Shows.{show_resumed}
use Rattle.sky_machine.proofs.resume.of_root.Goals as goal

pub returns-in-Shown-clause-resumed : goal.returns-in-Shown-clause-resumed
returns-in-Shown-clause-resumed c = λ digest sc.
    show_resumed digest sc (view c.args.value.now) c.args.wave.now (map object_view c.args.answers.now) (shows.Came.Shown c.in-Shown.shown)
    (rw c.in-Shown.is at c.in_ok-shown.ensures.stands)

pub returns-in-Next-clause-resumed : goal.returns-in-Next-clause-resumed
returns-in-Next-clause-resumed c = λ digest sc.
    subst (λ w. Resumed digest sc (Stand.show_at (view c.args.value.now) c.args.wave.now) (Stand.show_at (view c.in-Next.next) w)
    (map object_view c.args.answers.now) Step.Waits [] []) (sym (add-one c.args.wave.now))
    (show_resumed digest sc (view c.args.value.now) c.args.wave.now (map object_view c.args.answers.now) (shows.Came.Next c.in-Next.next)
    (rw c.in-Next.is at c.in_ok-shown.ensures.stands))

pub returns-in-Next-clause-fits : goal.returns-in-Next-clause-fits
returns-in-Next-clause-fits c = λ sc fits sound.
    let next = rw c.in-Next.is at c.in_ok-shown.ensures.fits in
    subst (λ w. FitsShow sc (view c.in-Next.next) w) (sym (add-one c.args.wave.now)) (next sc fits sound)
