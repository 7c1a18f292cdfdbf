-- What stands at a path is at its place in the other list.
use Rattle.std.proofs.Common.{◌≡◌, ◌∙◌, ◌<◌, Bool, true, false, Some, None, List, ℕ, IfSome, Option, ap, arith, length, sym, subst, if◌then◌else◌}
use Rattle.std.specs.List.{zip}
use Rattle.ciel_io.specs.HeldFiles.{content_at}
use Rattle.ciel_io.specs.HeldKeep.{KeptFiles}
use Rattle.ciel_io.proofs.DrawerLaw.{content_new, content_old, place_below, while_told}
use Rattle.ciel_io.proofs.drawer.Drawer.file.Goals as goal

pub row-requires : goal.row-requires
row-requires c =
    let place = sym c.find.ensures ∙ c.in-Some.is in
    let below = place_below c.self.inside.paths.rows c.as_bytes.result.now c.in-Some.place place in
    omega (arith, below, c.self.invariant.0)

pub returns-in-Some-clause-found : goal.returns-in-Some-clause-found
returns-in-Some-clause-found c =
    let path = c.as_bytes.ensures.value ∙ c.as_str.ensures.value in
    let place = sym c.find.ensures ∙ c.in-Some.is in
    let there = content_old c.self.inside.paths.rows c.self.inside.contents.rows c.as_bytes.result.now c.in-Some.place c.self.invariant.0 place in
    let here = ap Some c.row.ensures ∙ sym there
    ∙ ap (content_at (zip c.self.inside.paths.rows c.self.inside.contents.rows)) path in
    subst (λ t. IfSome t (λ k. Some c.row.result.now ≡ content_at k.files c.args.path.now)) (ap (λ h. h.told) c.self.view_is)
    (while_told c.self.inside.told _ (λ k. Some c.row.result.now ≡ content_at k.files c.args.path.now) here)

pub returns-in-None-clause-found : goal.returns-in-None-clause-found
returns-in-None-clause-found c =
    let path = c.as_bytes.ensures.value ∙ c.as_str.ensures.value in
    let place = sym c.find.ensures ∙ c.in-None.is in
    let there = content_new c.self.inside.paths.rows c.self.inside.contents.rows c.as_bytes.result.now place in
    let here = sym there ∙ ap (content_at (zip c.self.inside.paths.rows c.self.inside.contents.rows)) path in
    subst (λ t. IfSome t (λ k. ◌≡◌ {A = Option (List ℕ)} None (content_at k.files c.args.path.now))) (ap (λ h. h.told) c.self.view_is)
    (while_told c.self.inside.told _ (λ k. ◌≡◌ {A = Option (List ℕ)} None (content_at k.files c.args.path.now)) here)
