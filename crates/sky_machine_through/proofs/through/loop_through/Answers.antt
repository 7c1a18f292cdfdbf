use Rattle.std.proofs.Common.{Some, None, refl, ◌∙◌, subst, arith}
use Rattle.sky_state.specs.StateView.{stand_of, spawned_of}
use Rattle.sky_machine.specs.declared.step.Step.{Step}
use Rattle.sky_machine_through.specs.Found.{Turns}
use Rattle.sky_machine_through.proofs.AskedLemmas.{before_last, before_more, before_none}
use Rattle.sky_machine_through.proofs.KnownNames.{known_both, known_self}
use Rattle.sky_machine_through.proofs.Turns.{further_both, grew_none, grew_both, kind_self, kind_both}
use Rattle.sky_machine_through.proofs.Wholes.{grew_whole_none, grew_whole_both}
use Rattle.sky_machine_through.proofs.through.loop_through.Goals as goal

pub turns-init : goal.turns-init
turns-init g c =
    let digest = g.N.Namer.digest c.args.namer.now in
    let finds = g.F.Finds.finds c.args.finder.now in
    let s = c.args.state.now in
    record {
      fits = c.requires.fits;
      found = c.requires.found;
      finder = refl;
      ready = c.requires.finder;
      kind = kind_self (stand_of s);
      stays = refl;
      through = before_none finds digest c.args.script.now.code g.F.Finds.notes (g.F.Finds.told c.args.finder.now) (stand_of s) (spawned_of s);
      further = omega arith;
      whole = grew_whole_none digest (spawned_of s);
      known = known_self finds digest (stand_of s) (spawned_of s);
      made = grew_none digest c.args.script.now.code (spawned_of s);
    }

pub turns-preserved : goal.turns-preserved
turns-preserved g c =
    let digest = g.N.Namer.digest c.args.namer.now in
    let finds = g.F.Finds.finds c.args.finder.now in
    let sc = c.args.script.now.code in
    let l = c.turns in
    let went = rw c.in-Ok-None.field-0-is at (rw c.in-Ok-None.is at c.in_ok-turn.ensures.turns) in
    let turned = subst (λ f. Turns f digest sc None (stand_of l.state) (stand_of c.turn.new.state) (spawned_of l.state)
    (spawned_of c.turn.new.state)) l.invariant.finder went in
    let fits = rw c.in-Ok-None.field-0-is at (rw c.in-Ok-None.is at c.in_ok-turn.ensures.fits) in
    let made = rw c.in-Ok-None.is at c.in_ok-turn.ensures.made in
    let kind = rw c.in-Ok-None.field-0-is at (rw c.in-Ok-None.is at c.in_ok-turn.ensures.kind) in
    record {
      fits = fits;
      found = turned.3;
      finder = c.in_ok-turn.ensures.finder ∙ l.invariant.finder;
      ready = rw c.in-Ok-None.is at c.in_ok-turn.ensures.ready;
      stays = c.in_ok-turn.ensures.stays ∙ l.invariant.stays;
      whole = grew_whole_both digest (spawned_of c.args.state.now) (spawned_of l.state) (spawned_of c.turn.new.state) l.invariant.whole
          (rw c.in-Ok-None.is at c.in_ok-turn.ensures.whole);
      kind = kind_both (stand_of c.args.state.now) (stand_of l.state) (stand_of c.turn.new.state) Step.Waits l.invariant.kind kind;
      through = before_more finds digest sc g.F.Finds.notes (g.F.Finds.told c.args.finder.now) (g.F.Finds.told l.finder)
          (g.F.Finds.told c.turn.new.finder) (stand_of c.args.state.now) (stand_of l.state) (stand_of c.turn.new.state)
          (spawned_of c.args.state.now) (spawned_of l.state) (spawned_of c.turn.new.state) turned.0 turned.1 turned.2
          (rw c.in-Ok-None.is at c.in_ok-turn.ensures.noted) l.invariant.through;
      further = let falls = rw c.in-Ok-None.field-0-is at (rw c.in-Ok-None.is at c.in_ok-turn.ensures.falls) in let so = l.invariant.further in
          omega (arith, falls, so);
      known = known_both finds digest (stand_of c.args.state.now) (stand_of l.state) (stand_of c.turn.new.state) Step.Waits
          (spawned_of c.args.state.now) (spawned_of l.state) (spawned_of c.turn.new.state) turned.0 turned.1 l.invariant.known turned.4;
      made = grew_both digest sc (spawned_of c.args.state.now) (spawned_of l.state) (spawned_of c.turn.new.state) l.invariant.made made;
    }

pub returns-in-Ok-Some-clause-through : goal.returns-in-Ok-Some-clause-through
returns-in-Ok-Some-clause-through g c =
    let digest = g.N.Namer.digest c.args.namer.now in
    let finds = g.F.Finds.finds c.args.finder.now in
    let sc = c.args.script.now.code in
    let l = c.turns in
    let step = c.in-Ok-Some.step in
    let went = rw c.in-Ok-Some.field-0-is at (rw c.in-Ok-Some.is at c.in_ok-turn.ensures.turns) in
    let turned = subst (λ f. Turns f digest sc (Some step) (stand_of l.state) (stand_of c.turn.new.state) (spawned_of l.state)
    (spawned_of c.turn.new.state)) l.invariant.finder went in
    before_last finds digest sc g.F.Finds.notes (g.F.Finds.told c.args.finder.now) (g.F.Finds.told l.finder) (g.F.Finds.told c.turn.new.finder)
    (stand_of c.args.state.now) (stand_of l.state) (stand_of c.turn.new.state) step (spawned_of c.args.state.now) (spawned_of l.state)
    (spawned_of c.turn.new.state) turned.0 turned.1 turned.2 turned.3 (rw c.in-Ok-Some.is at c.in_ok-turn.ensures.noted) l.invariant.through

pub returns-in-Ok-Some-clause-made : goal.returns-in-Ok-Some-clause-made
returns-in-Ok-Some-clause-made g c =
    let made = rw c.in-Ok-Some.is at c.in_ok-turn.ensures.made in
    grew_both (g.N.Namer.digest c.args.namer.now) c.args.script.now.code (spawned_of c.args.state.now) (spawned_of c.turns.state)
    (spawned_of c.turn.new.state) c.turns.invariant.made made

pub returns-in-Ok-Some-clause-kind : goal.returns-in-Ok-Some-clause-kind
returns-in-Ok-Some-clause-kind g c =
    let kind = rw c.in-Ok-Some.field-0-is at (rw c.in-Ok-Some.is at c.in_ok-turn.ensures.kind) in
    kind_both (stand_of c.args.state.now) (stand_of c.turns.state) (stand_of c.turn.new.state) c.in-Ok-Some.step c.turns.invariant.kind kind

pub returns-in-Ok-Some-clause-known : goal.returns-in-Ok-Some-clause-known
returns-in-Ok-Some-clause-known g c =
    let digest = g.N.Namer.digest c.args.namer.now in
    let finds = g.F.Finds.finds c.args.finder.now in
    let sc = c.args.script.now.code in
    let l = c.turns in
    let step = c.in-Ok-Some.step in
    let went = rw c.in-Ok-Some.field-0-is at (rw c.in-Ok-Some.is at c.in_ok-turn.ensures.turns) in
    let turned = subst (λ f. Turns f digest sc (Some step) (stand_of l.state) (stand_of c.turn.new.state) (spawned_of l.state)
    (spawned_of c.turn.new.state)) l.invariant.finder went in
    known_both finds digest (stand_of c.args.state.now) (stand_of l.state) (stand_of c.turn.new.state) step (spawned_of c.args.state.now)
    (spawned_of l.state) (spawned_of c.turn.new.state) turned.0 turned.1 l.invariant.known turned.4

pub returns-in-Ok-Some-clause-whole : goal.returns-in-Ok-Some-clause-whole
returns-in-Ok-Some-clause-whole g c =
    let whole = rw c.in-Ok-Some.is at c.in_ok-turn.ensures.whole in
    grew_whole_both (g.N.Namer.digest c.args.namer.now) (spawned_of c.args.state.now) (spawned_of c.turns.state) (spawned_of c.turn.new.state)
    c.turns.invariant.whole whole

pub returns-in-Ok-Some-clause-further : goal.returns-in-Ok-Some-clause-further
returns-in-Ok-Some-clause-further g c =
    let further = rw c.in-Ok-Some.field-0-is at (rw c.in-Ok-Some.is at c.in_ok-turn.ensures.further) in
    further_both (stand_of c.args.state.now) (stand_of c.turns.state) (stand_of c.turn.new.state) c.in-Ok-Some.step c.turns.invariant.further further
