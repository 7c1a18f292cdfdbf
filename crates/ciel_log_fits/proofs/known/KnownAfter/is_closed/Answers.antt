use Rattle.std.proofs.Common.{◌≡◌, ap, subst, sym}
use Rattle.sky_base.specs.declared.object.Named.{Named}
use Rattle.ciel_journal.specs.Job.{Each}
use Rattle.ciel_master_board.specs.Board.{start_refs}
use Rattle.ciel_master_board.specs.Reports.{learned_all}
use Rattle.ciel_want.specs.Waited.{AllKnown}
use Rattle.ciel_log_fits.proofs.Learned.{all_inside, inside_all}
use Rattle.ciel_log_fits.proofs.known.KnownAfter.is_closed.Goals as goal

pub returns-clause-yes : goal.returns-clause-yes
returns-clause-yes g c = λ t digest.
    let a = c.args.self.now in
    let same : c.self.inside.spawned.now ≡ a.spawned = ap (λ b. b.spawned) c.self.view_is in
    subst (λ ns. Each (λ (n : Named). AllKnown (learned_all digest a.spawned a.table) (start_refs n.desc)) ns) same
    (all_inside a digest c.self.inside.spawned.now (c.in_all.ensures.yes t))

pub returns-clause-no : goal.returns-clause-no
returns-clause-no g c = λ t digest h.
    let a = c.args.self.now in
    let same : c.self.inside.spawned.now ≡ a.spawned = ap (λ b. b.spawned) c.self.view_is in
    c.in_all.ensures.no t (inside_all a digest c.self.inside.spawned.now
    (subst (λ ns. Each (λ (n : Named). AllKnown (learned_all digest a.spawned a.table) (start_refs n.desc)) ns) (sym same) h))
