-- The opening is its first byte with the number, what was spawned and what was copied.
use Rattle.std.proofs.Common.{◌∷◌, ◌++◌, ◌∙◌, ap, map}
use Rattle.sky_base.specs.Name.{big_endian, canon, name_bytes}
use Rattle.sky_base.specs.ObjectView.{desc_view}
use Rattle.ciel_log_records.specs.Records.{block, counted}
use Rattle.ciel_log_records.proofs.Counted.{three}
use Rattle.ciel_log_records.proofs.report.put_opening.Goals as goal

pub returns : goal.returns
returns c =
    let spawned = counted (λ d. block (canon d)) (map (λ n. desc_view n.desc) c.args.spawned.now) in
    let copied = counted name_bytes (map (λ h. h.name) c.args.copied.now) in
    c.in_ok-put_copied.ensures
    ∙ ap (λ y. y ++ copied) (c.in_ok-put_spawned.ensures ∙ ap (λ y. y ++ spawned) c.in_ok-put_number.ensures)
    ∙ three c.args.out.now (82 ∷ big_endian 8 c.args.number) spawned copied
