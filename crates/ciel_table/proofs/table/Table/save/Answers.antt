use Rattle.std.proofs.Common.{◌≡◌, ◌++◌, ◌∷◌, [], ◌∙◌, ap, sym, subst, arith}
use Rattle.sky_base.specs.declared.object.TaskId.{TaskId}
use Rattle.ciel_table.specs.Changes.{save_at, saved}
use Rattle.ciel_table.specs.Inside.{Stands, seen_of}
use Rattle.ciel_table.specs.Seen.{TableSeen, saves_name, waits_of}
use Rattle.ciel_table.specs.Sound.{Here, IsAbove}
use Rattle.ciel_table.specs.declared.wait.Saves.{Saves}
use Rattle.ciel_table.proofs.ByName.{found_at, found_none, place_within}
use Rattle.ciel_table.proofs.Keeps.{first_saved_stands, saved_maybe, saved_rows}
use Rattle.ciel_table.proofs.Lists.{on_ok}
use Rattle.ciel_table.proofs.table.Table.save.Goals as goal

pub index_mut-saves-requires : goal.index_mut-saves-requires
index_mut-saves-requires g c =
    let e = sym (c.self.invariant.saves c.args.name.now) ∙ (sym c.get.ensures.value ∙ (sym c.copied.ensures ∙ c.in-Some.is)) in
    let l = place_within saves_name c.args.name.now c.self.inside.saves.items c.in-Some.at e in
    omega (arith, l, c.self.inside.saves.ok.0)

pub invariant_of-self : goal.invariant_of-self
invariant_of-self g c =
    let f = c.self.inside in
    let n = c.args.name.now in
    let t : TableSeen g.row.P.Denot = seen_of f.limit f.rows.items f.shown f.saves.items f.dropped.workers in
    let e = sym (c.self.invariant.saves n) ∙ (sym c.get.ensures.value ∙ (sym c.copied.ensures ∙ c.in-Some.is)) in
    let a = subst (λ (s : TableSeen g.row.P.Denot). IsAbove c.args.wait.j (waits_of (TaskId.Of n) s)) (sym c.self.view_is) c.requires.later in
    let h = subst (λ (s : TableSeen g.row.P.Denot). Here s.gone (g.P.At.at c.args.wait.place)) (sym c.self.view_is) c.requires.here in
    saved_maybe g.P.At.at t f.row_of f.saves_of n c.args.wait c.in-Some.at c.index_mut-saves.result.now c.add.new.self c.add.result
    c.self.invariant e c.index_mut-saves.ensures.value a h c.add.ensures.ok c.add.ensures.err

pub returns-in-Some-clause-saved : goal.returns-in-Some-clause-saved
returns-in-Some-clause-saved g c =
    let f = c.self.inside in
    let n = c.args.name.now in
    let w = c.args.wait in
    let t : TableSeen g.row.P.Denot = seen_of f.limit f.rows.items f.shown f.saves.items f.dropped.workers in
    let e = sym (c.self.invariant.saves n) ∙ (sym c.get.ensures.value ∙ (sym c.copied.ensures ∙ c.in-Some.is)) in
    let o = found_at saves_name n f.saves.items c.in-Some.at c.index_mut-saves.result.now e in
    on_ok c.add.result (λ k. ap (λ ss. seen_of f.limit f.rows.items f.shown ss f.dropped.workers)
    (saved_rows g.P.At.at t n w c.in-Some.at c.index_mut-saves.result.now c.add.new.self e c.index_mut-saves.ensures.value k
    ∙ ap (λ x. save_at g.P.At.at x n w f.saves.items) (sym o.1)) ∙ ap (saved g.P.At.at (TaskId.Of n) w) c.self.view_is) c.add.ensures.ok

pub invariant_of-self-in-None : goal.invariant_of-self-in-None
invariant_of-self-in-None g c =
    let f = c.self.inside in
    let n = c.args.name.now in
    let one : Saves g.row.P.Denot = record { name = n; waits = c.args.wait ∷ [] } in
    let t : TableSeen g.row.P.Denot = seen_of f.limit f.rows.items f.shown f.saves.items f.dropped.workers in
    let e = sym (c.self.invariant.saves n) ∙ (sym c.get.ensures.value ∙ (sym c.copied.ensures ∙ c.in-None.is)) in
    let h = subst (λ (s : TableSeen g.row.P.Denot). Here s.gone (g.P.At.at c.args.wait.place)) (sym c.self.view_is) c.requires.here in
    let grew : c.push_reserved.new.self.items ≡ f.saves.items ++ one ∷ [] = c.push_reserved.ensures.items
    ∙ (λ i. c.in-Ok.ensures.items i ++ c.in_ok-first-in-None.ensures i ∷ []) in
    subst (λ ss. Stands g.P.At.at (seen_of f.limit f.rows.items f.shown ss f.dropped.workers) f.row_of c.insert.new.self) (sym grew)
    (first_saved_stands g.P.At.at t f.row_of f.saves_of c.insert.new.self n c.args.wait c.len-at.result c.self.invariant e
    (omega (arith, c.len-at.ensures, f.saves.ok.0)) c.in-Ok-insert.ensures.updates h)

pub returns-in-Ok-insert-clause-saved : goal.returns-in-Ok-insert-clause-saved
returns-in-Ok-insert-clause-saved g c =
    let f = c.self.inside in
    let n = c.args.name.now in
    let w = c.args.wait in
    let one : Saves g.row.P.Denot = record { name = n; waits = w ∷ [] } in
    let e = sym (c.self.invariant.saves n) ∙ (sym c.get.ensures.value ∙ (sym c.copied.ensures ∙ c.in-None.is)) in
    let grew : c.push_reserved.new.self.items ≡ f.saves.items ++ one ∷ [] = c.push_reserved.ensures.items
    ∙ (λ i. c.in-Ok.ensures.items i ++ c.in_ok-first-in-None.ensures i ∷ []) in
    ap (λ ss. seen_of f.limit f.rows.items f.shown ss f.dropped.workers)
    (grew ∙ ap (λ x. save_at g.P.At.at x n w f.saves.items) (sym (found_none saves_name n f.saves.items e)))
    ∙ ap (saved g.P.At.at (TaskId.Of n) w) c.self.view_is
