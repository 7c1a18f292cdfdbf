use Rattle.std.proofs.Common.{◌≡◌, ◌+◌, ◌-◌, ◌≤◌, ℕ, List, arith, sym, ap, ◌∙◌, drop, take, length, length-take, slice_range}
use Rattle.std.proofs.lemmas.List.{drop-drop, take-take}
use Rattle.std.proofs.lemmas.Slice.{between_is}
use Rattle.sky_base.proofs.text.Part.part.Goals as goal

-- a part of a part is a part of the list
part_of_part : (xs : List ℕ) (s e a b : ℕ) → a ≤ b → b ≤ e - s → slice_range (slice_range xs s e) a b ≡ slice_range xs (s + a) (s + b)
part_of_part xs s e a b p q =
    let same : b - a ≡ s + b - (s + a) = omega arith in
    ap (take (b - a)) (ap (drop a) (between_is xs s e) ∙ drop-drop a s (take e xs) ∙ sym (between_is xs (s + a) e))
    ∙ take-take (b - a) (e - (s + a)) (drop (s + a) xs) (omega (arith, q))
    ∙ ap (λ n. take n (drop (s + a) xs)) same

-- a part has no more bytes than lie between its places
no_longer : (xs : List ℕ) (s e : ℕ) → length (slice_range xs s e) ≤ e - s
no_longer xs s e = omega (arith, length-take (e - s) (drop s xs))

pub returns-in-Ok : goal.returns-in-Ok
returns-in-Ok c =
    let inside = c.self.inside in
    let held = inside.held.value.items in
    let here : length (slice_range held inside.from inside.to) ≡ length c.args.self.now = ap length c.self.view_is in
    let within : c.args.to ≤ inside.to - inside.from = omega (arith, c.requires.bound, here, no_longer held inside.from inside.to) in
    record {
      part =
          ap (λ v. slice_range v.items (inside.from + c.args.from) (inside.from + c.args.to)) c.in-Ok.ensures
          ∙ sym (part_of_part held inside.from inside.to c.args.from c.args.to c.requires.order within)
          ∙ ap (λ l. slice_range l c.args.from c.args.to) c.self.view_is;
    }
