use Rattle.std.proofs.Common.{◌≡◌, ◌∙◌, ap, sym, true}
use Rattle.std.specs.Cmp.Lexicographic.{texts_ties}
use Rattle.sky_base.proofs.Exact.{exact_text}
use Rattle.sky_base.specs.Val.{same_text}
use Rattle.ciel_table.specs.Seen.{find, row_name}
use Rattle.ciel_want.proofs.Rows.{own_place}
use Rattle.ciel_want_ready.proofs.nodes.find_from.Goals as goal

pub returns-then-eq : goal.returns-then-eq
returns-then-eq g c =
    let t = c.args.table.now in
    let r = c.row.result.now in
    let n = c.args.name.now in
    let same : same_text r.name n ≡ true = sym (texts_ties r.name n) ∙ (sym c.eq.ensures ∙ c.if-eq.true) in
    sym (own_place row_name t.rows c.args.near r c.len.ensures.sound.once c.row.ensures.row) ∙ ap (λ k. find k t) (exact_text r.name n same)
