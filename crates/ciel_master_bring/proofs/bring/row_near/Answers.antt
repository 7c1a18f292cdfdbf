use Rattle.std.proofs.Common.{◌≡◌, ◌∙◌, ap, sym, true}
use Rattle.std.specs.Cmp.Lexicographic.{texts_ties}
use Rattle.sky_base.proofs.Exact.{exact_text}
use Rattle.sky_base.specs.Val.{same_text}
use Rattle.ciel_table.specs.Named.{found}
use Rattle.ciel_table.specs.Seen.{row_name}
use Rattle.ciel_want.proofs.Rows.{own_found}
use Rattle.ciel_master_bring.proofs.bring.row_near.Goals as goal

pub returns-then-eq : goal.returns-then-eq
returns-then-eq c =
    let t = c.args.table.now in
    let r = c.row-row.result.now in
    let n = c.args.name.now in
    let same : same_text r.name n ≡ true = sym (texts_ties r.name n) ∙ (sym c.eq.ensures ∙ c.if-eq.true) in
    sym (ap (λ k. found row_name k t.rows) (exact_text r.name n same))
    ∙ own_found row_name t.rows c.args.near r c.len.ensures.sound.once c.row-row.ensures.row
