use Rattle.std.proofs.Common.{◌≡◌, ◌↔◌, ◌∙◌, true, sym, subst}
use Rattle.sky_base.specs.Val.{refs}
use Rattle.sky_base.specs.View.{view}
use Rattle.ciel_want.specs.Followers.{ReadsOne}
use Rattle.ciel_want_ready.proofs.FollowerTests.{tells_one}
use Rattle.ciel_want_ready.proofs.follow.reads_one.Goals as goal

pub returns-in-One : goal.returns-in-One
returns-in-One g c =
    let t = c.args.table.now in
    let task = c.args.task.now in
    subst (λ d. (c.makes.result ≡ true) ↔ ReadsOne t task d) (sym c.in-Exec.is)
    (tells_one t task (refs (view c.in-Exec.args)) c.in-One.name c.makes.result (sym c.in-One.is ∙ c.what_is_read.ensures) c.makes.ensures)
