use Rattle.std.proofs.Common.{◌≡◌, ◌≤◌, ◌<◌, ℕ, zero, suc, List, [], ◌∷◌, length, map, get_or, Option, None, refl, sym, ap, ◌∙◌, arith}
use Rattle.std.specs.Option.{option_map}
use Rattle.sky_base.specs.ObjectView.{object_view}
use Rattle.sky_base.specs.declared.object.Object.{Object}
use Rattle.sky_base_known.specs.Walk.{object_at, is_known}
use Rattle.sky_base_known.proofs.objects.Objects.has.Goals as goal

past : (os : List (Option Object)) (n : ℕ) → length os ≤ n → object_at (map (option_map object_view) os) n ≡ None
past [] n h = refl
past (o ∷ os) zero h = absurd (omega (arith, h))
past (o ∷ os) (suc n) h = past os n (omega (arith, h))

here : (os : List (Option Object)) (n : ℕ) (d : Option Object) → n < length os → object_at (map (option_map object_view) os) n
    ≡ option_map object_view (get_or os n d)
here [] n d h = absurd (omega (arith, h))
here (o ∷ os) zero d h = refl
here (o ∷ os) (suc n) d h = here os n d (omega (arith, h))

pub returns-then-at-len : goal.returns-then-at-len
returns-then-at-len c =
    let len : c.len.result ≡ length c.self.inside.items.items = c.len.ensures ∙ c.self.inside.items.ok.0 in
    let le : c.len.result ≤ c.args.number = c.if-at-len.true in
    sym (ap is_known (ap (λ z. object_at z c.args.number) (sym c.self.view_is)
    ∙ past c.self.inside.items.items c.args.number (omega (arith, len, le))))

pub returns-in-Some : goal.returns-in-Some
returns-in-Some c =
    let len : c.len.result ≡ length c.self.inside.items.items = c.len.ensures ∙ c.self.inside.items.ok.0 in
    let lt : c.args.number < c.len.result = c.if-at-len.false in
    sym (ap is_known (ap (λ z. object_at z c.args.number) (sym c.self.view_is)
    ∙ here c.self.inside.items.items c.args.number c.index.result.now (omega (arith, len, lt))
    ∙ ap (option_map object_view) (sym c.index.ensures ∙ c.in-Some.is)))

pub returns-in-None : goal.returns-in-None
returns-in-None c =
    let len : c.len.result ≡ length c.self.inside.items.items = c.len.ensures ∙ c.self.inside.items.ok.0 in
    let lt : c.args.number < c.len.result = c.if-at-len.false in
    sym (ap is_known (ap (λ z. object_at z c.args.number) (sym c.self.view_is)
    ∙ here c.self.inside.items.items c.args.number c.index.result.now (omega (arith, len, lt))
    ∙ ap (option_map object_view) (sym c.index.ensures ∙ c.in-None.is)))
