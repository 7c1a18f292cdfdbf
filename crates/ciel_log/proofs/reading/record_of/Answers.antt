-- The opening and the end are the report's record; where a place was lost, the record is the dropped one.
use Rattle.std.proofs.Common.{◌++◌, ◌∙◌, List, [], ◌∷◌, ap, ap₂, arith, map, refl, subst}
use Rattle.sky_base.specs.Val.{known}
use Rattle.sky_base_law.specs.Tasks.{Each}
use Rattle.ciel_name.specs.Spelled.{IsName}
use Rattle.ciel_name_law.specs.Told.{DescTold}
use Rattle.sky_base.specs.ObjectView.{desc_view}
use Rattle.sky_base.specs.declared.object.Named.{Named}
use Rattle.ciel_task_order.specs.declared.block.Held.{Held}
use Rattle.ciel_log_records.specs.Records.{report_opening}
use Rattle.ciel_log.proofs.Lying.{told_dropped, told_whole}
use Rattle.ciel_log.proofs.reading.record_of.Goals as goal

each_named : (hs : List Held) → Each (λ (h : Held). IsName (known h.name)) hs → Each (λ n. IsName (known n)) (map (λ (h : Held). h.name) hs)
each_named [] h = tt
each_named (x ∷ hs) h = (h.0, each_named hs h.1)

pub returns-in-Ok-clause-record : goal.returns-in-Ok-clause-record
returns-in-Ok-clause-record c =
    let r = c.args.report.now in
    let opening = report_opening r.number in
    told_whole c.args.shelves.now r.worker c.requires.places.0 r c.put_opening.new.out c.put_end.new.out c.args.eye.now c.put_end.new.eye
    c.in_ok-put_end.field-0 c.in_ok-put_end.ensures.put c.in-Ok.field-0 c.in-Ok.is
    -- the number by its type; what was spawned, by read_all over the slice; the names of the copies, by read_names, as a list of names
    (omega arith) (subst (Each (λ (n : Named). DescTold (desc_view n.desc))) c.as_slice.ensures.value c.read_all.ensures.told)
    (subst (Each (λ n. IsName (known n))) c.copies_told-copies.ensures (each_named c.copies_told-copies.result.now c.read_names.ensures.told))
    (c.in_ok-put_opening.ensures
    ∙ ap (λ o. o ++ opening (map (λ (n : Named). desc_view n.desc) c.as_slice-2.result.now) (map (λ (h : Held). h.name) c.copies_told-copies.result.now))
    c.new-out.ensures
    ∙ ap₂ (λ ns hs. opening (map (λ (n : Named). desc_view n.desc) ns) hs) c.as_slice-2.ensures.value c.copies_told-copies.ensures)

pub returns-in_ok-dropped-in-Err-clause-record : goal.returns-in_ok-dropped-in-Err-clause-record
returns-in_ok-dropped-in-Err-clause-record c =
    let r = c.args.report.now in
    told_dropped c.args.shelves.now r.worker c.requires.places.0 r c.put_opening.new.out c.put_end.new.out c.args.eye.now c.put_end.new.eye
    c.in_ok-put_end.field-0 c.in_ok-put_end.ensures.put c.in-Err.field-0 c.in-Err.is refl c.in_ok-dropped-in-Err.dropped
    c.in_ok-dropped-in-Err.ensures
