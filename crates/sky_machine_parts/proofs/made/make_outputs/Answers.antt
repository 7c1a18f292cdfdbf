use Rattle.std.proofs.Common.{◌≤◌, ◌-◌, ◌+◌, ◌∷◌, ◌++◌, [], map, length, refl, sym, ap, ◌∙◌, length-append, arith}
use Rattle.sky_base.specs.Val.{out}
use Rattle.sky_base.specs.Name.{digested}
use Rattle.sky_base.specs.Names.{known_of}
use Rattle.sky_base.specs.View.{view}
use Rattle.sky_base.specs.Res.{tell_all}
use Rattle.sky_base.specs.Eval.{outputs}
use Rattle.sky_machine_entries.specs.Config.{rest_in}
use Rattle.sky_machine_parts.specs.Made.{whole}
use Rattle.sky_machine_parts.proofs.Told.{rest_tells, named_by, outputs_next, outputs_last, outputs_step, outputs_done, outputs_made}
use Rattle.sky_machine_parts.proofs.made.make_outputs.Goals as goal

pub loop-index-preserved : goal.loop-index-preserved
loop-index-preserved g c =
    let l = c.loop-index in
    let digest = g.N.Namer.digest c.args.ground.now.namer.now in
    let x = c.in-Text.executor in
    let a = view c.args.args.now in
    let n = c.in-Ok.n in
    let i = l.index in
    let one = c.in_ok-make_output.ensures in
    record {
      count = omega (arith, ap length one.names, length-append l.names (digested digest (out x a n i) ∷ []), l.invariant.count);
      told = λ r. one.whole (tell_all (outputs x a n (i + 1) (n - (i + 1))) r)
          ∙ ap (λ ds. whole digest l.made.items (tell_all ds r)) (sym (outputs_next x a n i c.loop-index-test.true)) ∙ l.invariant.told r;
      refs = ap (λ ns. known_of ns ++ map (named_by digest) (outputs x a n (i + 1) (n - (i + 1)))) one.names
          ∙ outputs_step digest x a n i l.names (digested digest (out x a n i)) c.loop-index-test.true refl ∙ l.invariant.refs;
    }

pub returns-clause-same : goal.returns-clause-same
returns-clause-same g c = λ w es p st k h.
    let l = c.loop-index in
    let digest = g.N.Namer.digest c.args.ground.now.namer.now in
    let x = c.in-Text.executor in
    let a = view c.args.args.now in
    let n = c.in-Ok.n in
    let last : n ≤ l.index = omega (arith, c.loop-index-test.false) in
    let all = outputs x a n 0 n in
    let rest = rest_in w es (k (map (named_by digest) all) st) in
    let named = sym (outputs_done digest x a n l.index l.names last) ∙ l.invariant.refs in
    let told = ap (λ ds. whole digest l.made.items (tell_all ds rest)) (sym (outputs_last x a n l.index last)) ∙ l.invariant.told rest in
    let made = outputs_made w c.args.ground.now.code.now digest x a (view c.args.count.now) n p st k h c.in-Ok.ensures.ok.0 c.in-Ok.ensures.ok.2 in
    rw c.in-Text.is (ap (λ ds. whole digest l.made.items (rest_in w es (k ds st))) named ∙ told
    ∙ ap (whole digest c.args.made.now.items) (sym (rest_tells w es all (k (map (named_by digest) all) st)) ∙ ap (rest_in w es) made))
