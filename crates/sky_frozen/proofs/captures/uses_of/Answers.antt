use Rattle.std.proofs.Common.{◌+◌, take, sym, subst, arith}
use Rattle.sky_base.specs.ScriptView.{funs_view}
use Rattle.sky_frozen.specs.Keys.{KeysAre, AreUses}
use Rattle.sky_frozen.proofs.KeysLaw.{uses_more}
use Rattle.sky_frozen.proofs.captures.uses_of.Goals as goal

pub loop-fun-preserved : goal.loop-fun-preserved
loop-fun-preserved c =
    let fs = c.args.funs.now in
    let i = c.loop-fun.fun-index in
    let f = c.fun-item.result in
    let keys = c.in_ok-keys.keys in
    let new = subst (KeysAre keys) c.as_slice.ensures c.in_ok-keys.ensures in
    subst (λ index. AreUses index (funs_view (take (i + 1) fs))) (sym c.in-Ok.ensures.items)
    (uses_more c.loop-fun.index.items fs i f keys (omega arith) c.fun-item.is new c.loop-fun.invariant)
