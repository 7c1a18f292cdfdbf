use Rattle.std.proofs.Common.{◌≡◌, ◌++◌, ◌∷◌, [], ◌∙◌, refl, ap, sym, subst, arith, length, Some}
use Rattle.sky_base.proofs.Exact.{self_text}
use Rattle.ciel_table.specs.Inside.{Stands, seen_of}
use Rattle.ciel_table.specs.Learning.{new_row}
use Rattle.ciel_table.specs.Named.{place_of}
use Rattle.ciel_table.specs.Seen.{TableSeen, find, row_name}
use Rattle.ciel_table.specs.declared.row.Row.{Row}
use Rattle.ciel_table.proofs.ByName.{place_new}
use Rattle.ciel_table.proofs.Keeps.{learned_stands}
use Rattle.ciel_table.proofs.table.Table.add.Goals as goal

pub invariant_of-self-2 : goal.invariant_of-self-2
invariant_of-self-2 g c =
    let f = c.self.inside in
    let d = c.args.named.now in
    let digest = g.N.Namer.digest c.args.namer.now in
    let t : TableSeen g.row.P.Denot = seen_of f.limit f.rows.items f.shown f.saves.items f.dropped.workers in
    let row : Row g.row.P.Denot = record { name = d.name; desc = c.in_ok-copy.field-0; task = c.in_ok-task_of.field-0; places = c.new.result } in
    let is : row ≡ new_row digest d = λ i. record {
      name = d.name;
      desc = c.in_ok-copy.ensures i;
      task = c.in_ok-task_of.ensures.task i;
      places =
          c.new.ensures i;
    } in
    let grew : c.push_reserved.new.self.items ≡ f.rows.items ++ new_row digest d ∷ [] = c.push_reserved.ensures.items
    ∙ (λ i. c.in-Ok.ensures.items i ++ is i ∷ []) in
    let e = ap (find d.name) c.self.view_is ∙ c.requires.new in
    let n : c.len-id.result ≡ length f.rows.items = omega (arith, c.len-id.ensures, f.rows.ok.0) in
    subst (λ rs. Stands g.P.At.at (seen_of f.limit rs f.shown f.saves.items f.dropped.workers) c.insert.new.self f.saves_of) (sym grew)
    (learned_stands g.P.At.at t f.row_of f.saves_of c.insert.new.self digest d c.len-id.result c.self.invariant e
    (omega (arith, n, c.if-id-self.false)) n c.in-Ok-insert.ensures.updates)

pub returns-clause-found : goal.returns-clause-found
returns-clause-found g c =
    let f = c.self.inside in
    let d = c.args.named.now in
    let row : Row g.row.P.Denot = record { name = d.name; desc = c.in_ok-copy.field-0; task = c.in_ok-task_of.field-0; places = c.new.result } in
    let grew : c.push_reserved.new.self.items ≡ f.rows.items ++ row ∷ [] = c.push_reserved.ensures.items
    ∙ ap (λ rs. rs ++ row ∷ []) c.in-Ok.ensures.items in
    let e = ap (find d.name) c.self.view_is ∙ c.requires.new in
    let n : length f.rows.items ≡ c.len-id.result = omega (arith, c.len-id.ensures, f.rows.ok.0) in
    ap (place_of row_name d.name) grew
    ∙ (place_new row_name d.name d.name f.rows.items row refl (self_text d.name) e ∙ ap (λ k. Some k) n)
