use Rattle.std.proofs.Common.{◌≡◌, ◌∙◌, ap, sym, subst, arith, Option, Some, None, MatchOption, []}
use Rattle.std.specs.Option.{option_map_or}
use Rattle.sky_base.specs.declared.object.TaskId.{TaskId}
use Rattle.ciel_table.specs.Seen.{last_wait, latest, saves_name}
use Rattle.ciel_table.specs.Sound.{Rising, WaitsSound}
use Rattle.ciel_table.specs.declared.wait.Saves.{Saves}
use Rattle.ciel_table.specs.declared.wait.Wait.{Wait}
use Rattle.ciel_table.proofs.ByName.{found_at, found_none, place_within}
use Rattle.ciel_table.proofs.Lists.{all_at}
use Rattle.ciel_table.proofs.table.Table.last_wait.Goals as goal

pub index-requires : goal.index-requires
index-requires g c =
    let e = sym (c.self.invariant.saves c.in-Of.name) ∙ (sym c.get.ensures.value ∙ (sym c.copied.ensures ∙ c.in-Some.is)) in
    let l = place_within saves_name c.in-Of.name c.self.inside.saves.items c.in-Some.at e in
    omega (arith, l, c.self.inside.saves.ok.0)

pub latest-requires-in-Some : goal.latest-requires-in-Some
latest-requires-in-Some g c =
    let e = sym (c.self.invariant.saves c.in-Of.name) ∙ (sym c.get.ensures.value ∙ (sym c.copied.ensures ∙ c.in-Some.is)) in
    let l = place_within saves_name c.in-Of.name c.self.inside.saves.items c.in-Some.at e in
    let s = all_at (λ (s : Saves g.row.P.Denot). WaitsSound g.P.At.at c.self.inside.dropped.workers s.waits) c.self.inside.saves.items
    c.in-Some.at c.index.result.now c.self.invariant.sound.saved l in
    record { rising = subst (λ (s : Saves g.row.P.Denot). Rising s.waits) (sym c.index.ensures) s.rising }

pub returns-in-Some : goal.returns-in-Some
returns-in-Some g c =
    let n = c.in-Of.name in
    let e = sym (c.self.invariant.saves n) ∙ (sym c.get.ensures.value ∙ (sym c.copied.ensures ∙ c.in-Some.is)) in
    let f = found_at saves_name n c.self.inside.saves.items c.in-Some.at c.index.result.now e in
    let same : last_wait c.args.task.now c.args.self.now ≡ latest c.index.result.now.waits = ap (λ k. last_wait k c.args.self.now) c.in-Of.is
    ∙ (sym (ap (last_wait (TaskId.Of n)) c.self.view_is)
    ∙ (ap (λ (o : Option (Saves g.row.P.Denot)). latest (option_map_or (λ (s : Saves g.row.P.Denot). s.waits) o [])) f.1
    ∙ ap (λ (s : Saves g.row.P.Denot). latest s.waits) (sym c.index.ensures))) in
    record {
      last = subst (λ (o : Option (Wait g.row.P.Denot)). MatchOption c.latest-in-Some.result (o ≡ None) (λ w. o ≡ Some w.now)) (sym same)
          c.latest-in-Some.ensures;
    }

pub returns-in-None : goal.returns-in-None
returns-in-None g c =
    let n = c.in-Of.name in
    let e = sym (c.self.invariant.saves n) ∙ (sym c.get.ensures.value ∙ (sym c.copied.ensures ∙ c.in-None.is)) in
    let f = found_none saves_name n c.self.inside.saves.items e in
    record {
      last = ap (λ k. last_wait k c.args.self.now) c.in-Of.is
          ∙ (sym (ap (last_wait (TaskId.Of n)) c.self.view_is)
          ∙ ap (λ (o : Option (Saves g.row.P.Denot)). latest (option_map_or (λ (s : Saves g.row.P.Denot). s.waits) o [])) f);
    }
