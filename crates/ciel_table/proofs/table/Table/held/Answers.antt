use Rattle.std.proofs.Common.{◌∙◌, ap, sym, arith, cond, Ok, Err, []}
use Rattle.std.specs.Cmp.Lexicographic.{texts_ties}
use Rattle.std.specs.Option.{option_map_or}
use Rattle.sky_base.specs.Name.{canon}
use Rattle.sky_base.specs.ObjectView.{desc_view}
use Rattle.sky_base.specs.Val.{same_text}
use Rattle.ciel_table.specs.Learning.{if_held, kept_bytes, learn_at}
use Rattle.ciel_table.specs.Seen.{find, row_name}
use Rattle.ciel_table.specs.declared.refusal.Learn.{Learn}
use Rattle.ciel_table.specs.declared.row.Row.{Row}
use Rattle.ciel_table.proofs.ByName.{found_at, place_within}
use Rattle.ciel_table.proofs.table.Table.held.Goals as goal

pub index-requires : goal.index-requires
index-requires g c =
    let e = ap (find c.args.named.now.name) c.self.view_is ∙ c.requires.held in
    let l = place_within row_name c.args.named.now.name c.self.inside.rows.items c.args.id e in
    omega (arith, l, c.self.inside.rows.ok.0)

pub returns-then-eq-clause-row : goal.returns-then-eq-clause-row
returns-then-eq-clause-row g c =
    let d = c.args.named.now in
    let t = c.args.self.now in
    let e = ap (find d.name) c.self.view_is ∙ c.requires.held in
    let f = found_at row_name d.name c.self.inside.rows.items c.args.id c.index.result.now e in
    let kept = sym (ap (kept_bytes d.name) c.self.view_is)
    ∙ (ap (λ o. option_map_or (λ (r : Row g.row.P.Denot). canon (desc_view r.desc)) o []) f.1
    ∙ (ap (λ (r : Row g.row.P.Denot). canon (desc_view r.desc)) (sym c.index.ensures)
    ∙ (sym c.in_ok-kept.ensures.bytes ∙ sym c.as_slice.ensures))) in
    let given = sym c.in_ok-given.ensures.bytes ∙ sym c.as_slice-2.ensures in
    ap (λ o. learn_at o d t) c.requires.held
    ∙ ((λ i. if_held c.args.id (kept i) (given i))
    ∙ ap (λ b. cond b (Ok c.args.id) (Err (Learn.Clash c.as_slice.result.now c.as_slice-2.result.now)))
    (sym (texts_ties c.as_slice.result.now c.as_slice-2.result.now) ∙ (sym c.eq.ensures ∙ c.if-eq.true)))

pub returns-else-eq-clause-refused : goal.returns-else-eq-clause-refused
returns-else-eq-clause-refused g c =
    let d = c.args.named.now in
    let t = c.args.self.now in
    let e = ap (find d.name) c.self.view_is ∙ c.requires.held in
    let f = found_at row_name d.name c.self.inside.rows.items c.args.id c.index.result.now e in
    let kept = sym (ap (kept_bytes d.name) c.self.view_is)
    ∙ (ap (λ o. option_map_or (λ (r : Row g.row.P.Denot). canon (desc_view r.desc)) o []) f.1
    ∙ (ap (λ (r : Row g.row.P.Denot). canon (desc_view r.desc)) (sym c.index.ensures) ∙ sym c.in_ok-kept.ensures.bytes)) in
    let given = sym c.in_ok-given.ensures.bytes in
    ap (λ o. learn_at o d t) c.requires.held
    ∙ ((λ i. if_held c.args.id (kept i) (given i))
    ∙ ap (λ b. cond b (Ok c.args.id) (Err (Learn.Clash c.in_ok-kept.kept c.in_ok-given.given)))
    ((λ i. same_text (sym c.as_slice.ensures i) (sym c.as_slice-2.ensures i))
    ∙ (sym (texts_ties c.as_slice.result.now c.as_slice-2.result.now) ∙ (sym c.eq.ensures ∙ c.if-eq.false))))
