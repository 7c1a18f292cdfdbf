-- What is held once one more description is made.
use Rattle.std.proofs.Common.{◌≡◌, ◌≤◌, List, [], ◌∷◌, ◌++◌, length, Bool, true, false, ◌||◌, Option, Some, None, ◌⊎◌, inl, inr, nat_lt, refl, sym}
use Rattle.std.proofs.Common.{ap, subst, ◌∙◌, ltb-false}
use Rattle.sky_base.specs.Val.{same_text, same_desc, stands_in}
use Rattle.ciel_json.specs.Tasks.{In}
use Rattle.sky_base.proofs.Exact.{self_text, self_desc}
use Rattle.sky_base_known.specs.Walk.{Row, is_held, in_room, if_new, learn_to, most_rows}

pub in_end : (e d : Row) (rows : List Row) → In e (rows ++ d ∷ []) → In e rows ⊎ (e ≡ d)
in_end e d [] (inl g) = inr g
in_end e d [] (inr g) = absurd g
in_end e d (c ∷ rows) (inl g) = inl (inl g)
in_end e d (c ∷ rows) (inr g) = go (in_end e d rows g)
  where
    go : In e rows ⊎ (e ≡ d) → In e (c ∷ rows) ⊎ (e ≡ d)
    go (inl h) = inl (inr h)
    go (inr h) = inr h

-- what is held after one more was made was held before, or is that one
abbrev pub Learned : List Row → Row → Option (List Row) → Type 0
Learned rows d None = Unit {0}
Learned rows d (Some more) = (e : Row) → In e more → In e rows ⊎ (e ≡ d)

learned_room : (b : Bool) (rows : List Row) (d : Row) → Learned rows d (in_room b rows d)
learned_room false rows d = tt
learned_room true rows d = λ e i. in_end e d rows i

pub learned_new : (b : Bool) (rows : List Row) (d : Row) → Learned rows d (if_new b rows d)
learned_new true rows d = λ e i. inl i
learned_new false rows d = learned_room (nat_lt (length rows) most_rows) rows d

pub most_is : most_rows ≡ 65536
unfolding most_rows
most_is = refl

pub in_held : (d : Row) (rows : List Row) → In d rows → is_held d rows ≡ true
in_held d [] i = absurd i
in_held d (r ∷ rows) (inl e) = ap (λ b. b || stands_in same_text d rows) (ap (same_desc same_text d) (sym e) ∙ self_desc same_text self_text d)
in_held d (r ∷ rows) (inr i) = or_true (same_desc same_text d r) (stands_in same_text d rows) (in_held d rows i)
  where
    or_true : (a b : Bool) → b ≡ true → a || b ≡ true
    or_true true b e = refl
    or_true false b e = e

-- it is new, and there is no room
pub full_means : (rows : List Row) (d : Row) → learn_to rows d ≡ None → (In d rows → ⊥) × (65536 ≤ length rows)
full_means rows d h = go (is_held d rows) refl h
  where
    no_true : false ≡ true → ⊥
    no_true q = absurd cc

    crowded : (b : Bool) → nat_lt (length rows) most_rows ≡ b → in_room b rows d ≡ None → 65536 ≤ length rows
    crowded true e q = absurd cc
    crowded false e q = subst (λ m. m ≤ length rows) most_is (ltb-false (length rows) most_rows e)

    go : (b : Bool) → is_held d rows ≡ b → if_new b rows d ≡ None → (In d rows → ⊥) × (65536 ≤ length rows)
    go true e q = absurd cc
    go false e q = (λ i. no_true (sym e ∙ in_held d rows i), crowded (nat_lt (length rows) most_rows) refl q)
