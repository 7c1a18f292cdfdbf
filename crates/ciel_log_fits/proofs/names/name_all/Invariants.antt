-- Those so far have their names, and those that are left are spelled.
use Rattle.std.proofs.Common.{◌≡◌, ◌++◌, drop, map}
use Rattle.ciel_journal.specs.Job.{Each}
use Rattle.sky_base.specs.ObjectView.{desc_view}
use Rattle.sky_base.specs.declared.object.Desc1.{Desc1}
use Rattle.ciel_name.specs.Laws.{SpelledDesc}
use Rattle.ciel_master_board.specs.Reports.{IsNamed}
use Rattle.ciel_log_fits.specs.Named.{desc_of}
use Rattle.ciel_log_fits.proofs.names.name_all.Given as goal

abbrev pub invariant-loop-desc : goal.invariant-loop-desc
invariant-loop-desc g l =
    (map desc_of l.named.items ++ drop l.desc-index l.descs ≡ l.descs)
    × Each (IsNamed (g.N.Namer.digest l.namer)) l.named.items
    × Each (λ (d : Desc1). SpelledDesc (desc_view d)) (drop l.desc-index l.descs)
