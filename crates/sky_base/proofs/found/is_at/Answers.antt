use Rattle.std.proofs.Common.{length, ltb-true, Some, refl, sym, ap, ◌∙◌}
use Rattle.std.specs.Cmp.Lexicographic.{same_text}
use Rattle.std.proofs.lemmas.Option.{slice_get_read}
use Rattle.sky_base.proofs.found.is_at.Goals as goal

pub returns-in-Some : goal.returns-in-Some
returns-in-Some c = λ h.
    let ns = c.args.names.now in
    let other = c.in-Some.other.now in
    slice_get_read ns (length ns) c.args.place other refl (ltb-true c.args.place (length ns) (sym c.in-Some.ensures.lookup.0)) c.in-Some.ensures.lookup.1
    ∙ ap Some (same_text other c.args.name.now (sym h ∙ c.eq.ensures))
