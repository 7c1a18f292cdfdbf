use Rattle.std.proofs.Common.{◌≡◌, ◌∙◌, sym, ap, subst}
use Rattle.sky_base.specs.View.{view}
use Rattle.sky_base.specs.Op.{find, put}
use Rattle.sky_base.specs.Val.{Rising}
use Rattle.sky_base_scope.proofs.Catches.{catch_none, catch_some}
use Rattle.sky_base_scope.proofs.state.State.caught.Goals.{in-Some+in_ok-share+in_ok-copy+in_ok-insert, in_default}
use Rattle.sky_base_scope.proofs.state.State.caught.Goals as goal

pub loop-name-preserved : goal.loop-name-preserved
loop-name-preserved c =
    let xs = c.args.names.now in
    let i = c.loop-name.name-index in
    let n = c.name-item.result in
    let vars = c.args.self.now.vars in
    let same : c.self.inside.vars ≡ vars = ap (λ s. s.vars) c.self.view_is in
    let rising : Rising vars = subst Rising same c.as_slice-vars.ensures.rising in
    elim c.match-find.branch [
      | in-Some+in_ok-share+in_ok-copy+in_ok-insert w ↦ w.caught-is ∙ w.in_ok-insert.ensures.ok
          ∙ ap (λ k. put k (view w.in_ok-copy.field-0) c.loop-name.caught) w.in_ok-share.ensures
          ∙ ap (λ v. put n (view v) c.loop-name.caught) w.in_ok-copy.ensures ∙ ap (put n (view w.in-Some.v.now)) c.loop-name.invariant
          ∙ sym (catch_some xs i n (view w.in-Some.v.now) vars c.loop-name-test.true c.name-item.is rising
          (ap (find n) (sym same) ∙ w.in-Some.ensures))
      | in_default w ↦ w.caught-is ∙ c.loop-name.invariant
          ∙ sym (catch_none xs i n vars c.loop-name-test.true c.name-item.is rising (ap (find n) (sym same) ∙ w.in_default.ensures))
    ]
