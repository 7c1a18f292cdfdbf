-- The header has fewer bytes than a log may have.
use Rattle.std.proofs.Common.{◌≡◌, ◌≤◌, ◌∙◌, ℕ, List, length, subst, sym}
use Rattle.ciel_log.specs.Logging.{most}
use Rattle.ciel_log_records.specs.Records.{in_file}
use Rattle.ciel_run_line.specs.Keeping.{header_of, is_short}
use Rattle.ciel_run_line.proofs.ShortHeader.{short_header}
use Rattle.ciel_run_line.proofs.header.begin_log.Goals as goal

pub returns-in-Ok-clause-held : goal.returns-in-Ok-clause-held
returns-in-Ok-clause-held g c =
    let w = c.args.line.now in
    let same : c.as_slice-in-Ok.result.now ≡ in_file (header_of w c.args.source.now c.args.job.now.inputs) =
    c.as_slice-in-Ok.ensures ∙ c.in-Ok-Ok.ensures in
    subst (λ (bytes : List ℕ). length bytes ≤ most) (sym same)
    (short_header w.workers w.seed w.losses (is_short w.names) c.args.source.now c.args.job.now.inputs c.requires.losses c.requires.few c.requires.keys)
