-- By a chain, or by none.
use Rattle.std.proofs.Common.{codes, inl, inr, refl, subst}
use Rattle.ciel_look_tasks.specs.SceneView.{scene_view}
use Rattle.ciel_look_text.specs.Says.{Says}
use Rattle.ciel_look_text.specs.Why.{chain_said}
use Rattle.ciel_look_text.proofs.why.say_need.Goals as goal

pub returns-in_ok-say_chain-in-Some : goal.returns-in_ok-say_chain-in-Some
returns-in_ok-say_chain-in-Some c =
    let s = scene_view c.args.scene.now in
    let names = c.in-Some.names.items in
    record {
      said = (
        chain_said s names,
        inl (names, rw c.in-Some.is at c.in_ok-found.ensures.chain, refl),
        subst (λ ns. Says c.args.line.now (chain_said s ns) c.say_chain.new.line) c.as_slice.ensures.value
            c.in_ok-say_chain-in-Some.ensures.said,
      );
    }

pub returns-in_ok-say-in-None : goal.returns-in_ok-say-in-None
returns-in_ok-say-in-None c =
    record { said = (codes "nobody is seen to wait for it", inr (rw c.in-None.is at c.in_ok-found.ensures.chain, refl), c.in_ok-say-in-None.ensures.said) }
