use Rattle.std.proofs.Common.{ap, ◌∙◌, arith}
use Rattle.std.proofs.lemmas.List.{take_all}
use Rattle.sky_base.specs.Names.{known_of}
use Rattle.sky_base.specs.Res.{all_of, exec_wait, then_do, on_got, gives}
use Rattle.sky_base.specs.Eval.{ask}
use Rattle.sky_machine_entries.specs.Config.{rest_in}
use Rattle.sky_machine_parts.proofs.formed.wait_for.Goals as goal

pub returns-clause-same : goal.returns-clause-same
returns-clause-same c = λ w st.
    let all = c.loop-name.invariant ∙ take_all c.loop-name.name-index c.as_slice-name-items.result.now (omega arith)
    ∙ c.as_slice-name-items.ensures in
    c.in_ok-push-2.ensures.rest w (ask w (all_of (known_of c.loop-name.waited)) st)
    ∙ ap (λ ns. rest_in w c.args.entries.now.items
    (then_do (ask w (all_of (known_of ns)) st) (exec_wait c.args.node (known_of c.args.names)) (on_got gives))) all

pub returns-clause-ready : goal.returns-clause-ready
returns-clause-ready c = c.in_ok-push-2.ensures.ready c.args.code.now c.requires tt
