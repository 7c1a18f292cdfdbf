use Rattle.std.proofs.Common.{◌≡◌, ◌∷◌, [], Some, slice_get, false, sym, ap, ◌∙◌, arith}
use Rattle.std.proofs.lemmas.Option.{slice_get_within}
use Rattle.sky_base.specs.Val.{known}
use Rattle.sky_base.specs.Names.{is_among, known_of, gathered}
use Rattle.sky_base.proofs.Placed.{found_new, found_old}
use Rattle.sky_base.proofs.found.Found.add.Goals as goal

pub returns-then-is_at : goal.returns-then-is_at
returns-then-is_at c =
    let ns = c.self.inside.names.items in
    let n = c.args.name.now in
    let e : slice_get ns c.self.inside.next ≡ Some n =
    ap (λ xs. slice_get xs c.self.inside.next) (sym c.as_slice.ensures.value) ∙ c.is_at.ensures c.if-is_at.true in
    found_old ns n c.self.inside.next e ∙ ap (λ xs. gathered (known_of xs) (known n ∷ [])) c.self.view_is

pub overflow_add-self-in-Some : goal.overflow_add-self-in-Some
overflow_add-self-in-Some c =
    let e = rw c.in-Some.is at c.find-seen.ensures in
    omega (arith, slice_get_within c.as_slice-2.result.now c.in-Some.place c.args.name.now e, c.as_slice-2.ensures.len, c.self.inside.names.ok.0)

pub returns-in-Some : goal.returns-in-Some
returns-in-Some c =
    let ns = c.self.inside.names.items in
    let n = c.args.name.now in
    let at = rw c.in-Some.is at c.find-seen.ensures in
    let e : slice_get ns c.in-Some.place ≡ Some n = ap (λ xs. slice_get xs c.in-Some.place) (sym c.as_slice-2.ensures.value) ∙ at in
    found_old ns n c.in-Some.place e ∙ ap (λ xs. gathered (known_of xs) (known n ∷ [])) c.self.view_is

pub returns-in_ok-push-in-None : goal.returns-in_ok-push-in-None
returns-in_ok-push-in-None c =
    let n = c.args.name.now in
    let is = rw c.in-None.is at c.find-seen.ensures in
    let e : is_among n c.args.self.now ≡ false = ap (is_among n) (sym c.self.view_is ∙ sym c.as_slice-2.ensures.value) ∙ is in
    found_new c.args.self.now c.push.new.self n e c.in_ok-push-in-None.ensures
