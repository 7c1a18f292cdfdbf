-- Where no more descriptions can be held, a job makes that many and one more.
use Rattle.std.proofs.Common.{◌≡◌, ◌≤◌, ℕ, suc, List, [], ◌∷◌, length, map, None, inl, inr, refl, sym, ap, ap₂, subst, ◌∙◌, arith}
use Rattle.std.proofs.lemmas.List.{append-nil}
use Rattle.sky_base.specs.Name.{low_desc}
use Rattle.sky_base.specs.See.{Desc, Job, Around}
use Rattle.sky_base_law.specs.Tasks.{In, Each, Apart}
use Rattle.sky_base_known.specs.Walk.{Row, learn_to, most_rows}
use Rattle.sky_base_known.specs.Number.{tag_of, Grown}
use Rattle.sky_plain.specs.Needs.{Makes, MakesMany}
use Rattle.sky_plain.specs.Stand.{spell, Made}
use Rattle.sky_base_known.proofs.Learn.{most_is, full_means}

-- ---- so many distinct descriptions are made

module _ (job : Job) (around : Around) (tag : Row → List ℕ) where
  record Chosen (rows : List Row) : Type 0 where
    ds : List Desc
    are : map (low_desc spell tag) ds ≡ rows
    made : Each (Makes job around) ds

  chosen : (rows : List Row) → ((e : Row) → In e rows → (d : Desc) × Makes job around d × (low_desc spell tag d ≡ e)) → Chosen rows
  chosen [] f = record { ds = []; are = refl; made = tt }
  chosen (r ∷ rows) f = go (f r (inl refl)) (chosen rows (λ e i. f e (inr i)))
    where
      go : (d : Desc) × Makes job around d × (low_desc spell tag d ≡ r) → Chosen rows → Chosen (r ∷ rows)
      go (d, m, l) c = record { ds = d ∷ c.ds; are = ap₂ (λ a b. a ∷ b) l c.are; made = (m, c.made) }

  low_in : (d : Desc) (ds : List Desc) → In d ds → In (low_desc spell tag d) (map (low_desc spell tag) ds)
  low_in d [] i = absurd i
  low_in d (e ∷ ds) (inl q) = inl (ap (low_desc spell tag) q)
  low_in d (e ∷ ds) (inr i) = inr (low_in d ds i)

  apart_back : (ds : List Desc) → Apart (map (low_desc spell tag) ds) → Apart ds
  apart_back [] a = tt
  apart_back (d ∷ ds) a = (λ i. a.0 (low_in d ds i), apart_back ds a.1)

  map_length : (ds : List Desc) → length (map (low_desc spell tag) ds) ≡ length ds
  map_length [] = refl
  map_length (d ∷ ds) = ap suc (map_length ds)

  one_more : (rows : List Row) (e : Row) (c : Chosen rows) → Apart rows → (In e rows → ⊥) → (d : Desc) × Makes job around d
      × (low_desc spell tag d ≡ e) → MakesMany job around (suc (length rows))
  one_more rows e c apart new (d, m, l) = (
    d ∷ c.ds,
    ap suc (sym (map_length c.ds) ∙ ap length c.are),
    (
      λ i. new (subst (In e) c.are (subst (λ x. In x (map (low_desc spell tag) c.ds)) l (low_in d c.ds i))),
      apart_back c.ds (subst Apart (sym c.are) apart),
    ),
    (m, c.made),
  )

module _ (job : Job) (around : Around) where
  pub itself : (rows : List Row) → Apart rows → length rows ≤ most_rows → Grown rows rows
  itself rows apart room =
      record { more = []; begins = sym (append-nil rows); apart = apart; room = room }

  pub makes_many : (rows : List Row) (e : Row) → Apart rows → length rows ≤ most_rows → learn_to rows e ≡ None → Made job around rows
      → (d : Desc) × Makes job around d × (low_desc spell (tag_of rows) d ≡ e) → MakesMany job around 65537
  makes_many rows e apart room none made last =
      subst (MakesMany job around) so_many (one_more job around (tag_of rows) rows e
      (chosen job around (tag_of rows) rows (made rows (itself rows apart room))) apart (full_means rows e none).0 last)
    where
      so_many : suc (length rows) ≡ 65537
      so_many =
          let most : length rows ≤ 65536 = subst (λ m. length rows ≤ m) most_is room in
          let least : 65536 ≤ length rows = (full_means rows e none).1 in
          omega (arith, most, least)
