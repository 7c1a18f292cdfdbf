-- Descriptions in their places.
use Rattle.std.proofs.Common.{◌≡◌, ◌≤◌, ◌<◌, ℕ, List, [], ◌∷◌, ◌++◌, length, true, false, Some, None, slice_get, refl, sym, ap, subst, ◌⊎◌, inl, inr}
use Rattle.std.proofs.Common.{◌∙◌, lt-ltb, le-ltb}
use Rattle.std.proofs.lemmas.Option.{slice_get-map}
use Rattle.std.proofs.lemmas.List.{length-map, map-append}
use Rattle.sky_base.specs.Val.{same_text, same_desc}
use Rattle.sky_base.proofs.Exact.{exact_text, exact_desc}
use Rattle.sky_base_known.specs.HeldView.{row_of, rows_of}
use Rattle.sky_base_known.specs.declared.rows.Held.{Held}
use Rattle.sky_base_known.specs.Walk.{Row, is_held, in_room, if_new, learn_to, most_rows}
use Rattle.ciel_json.specs.Tasks.{In, Apart}
use Rattle.sky_base_known.proofs.Learn.{most_is}
use Rattle.sky_base_known.proofs.Learn.{in_end}
use Rattle.sky_base_known.proofs.Numbers.{got_in, index_at}
use Rattle.sky_base_known.specs.Number.{index_of}
use Rattle.sky_base_known.proofs.Learn.{in_held}

pub same_is : (d e : Row) → same_desc same_text d e ≡ true → d ≡ e
same_is d e h = exact_desc same_text exact_text d e h

pub length-rows : (hs : List Held) → length (rows_of hs) ≡ length hs
length-rows hs = length-map hs row_of

pub rows-more : (hs : List Held) (h : Held) → rows_of (hs ++ h ∷ []) ≡ rows_of hs ++ row_of h ∷ []
rows-more hs h = map-append row_of hs (h ∷ [])

pub get-end : {A : Type 0} (xs : List A) (x : A) → slice_get (xs ++ x ∷ []) (length xs) ≡ Some x
get-end [] x = refl
get-end (y ∷ xs) x = get-end xs x

no_true : false ≡ true → ⊥
no_true q = absurd cc

pub apart-end : (rows : List Row) (d : Row) → Apart rows → is_held d rows ≡ false → Apart (rows ++ d ∷ [])
apart-end rows d a h = go rows a (λ i. no_true (sym h ∙ in_held d rows i))
  where
    more : (rs : List Row) (r : Row) → In r (rs ++ d ∷ []) → In r rs ⊎ (r ≡ d)
    more rs r i = in_end r d rs i

    go : (rs : List Row) → Apart rs → (In d rs → ⊥) → Apart (rs ++ d ∷ [])
    go [] b n = (λ i. i, tt)
    go (r ∷ rs) b n = (λ i. either (in_end r d rs i), go rs b.1 (λ i. n (inr i)))
      where
        either : In r rs ⊎ (r ≡ d) → ⊥
        either (inl j) = b.0 j
        either (inr e) = n (inl (sym e))

pub apart-more : (hs : List Held) (h : Held) → Apart (rows_of hs) → is_held (row_of h) (rows_of hs) ≡ false → Apart (rows_of (hs ++ h ∷ []))
apart-more hs h a n = rw (rows-more hs h) (apart-end (rows_of hs) (row_of h) a n)

pub learn-held : (rows : List Row) (d : Row) (k : ℕ) → slice_get rows k ≡ Some d → learn_to rows d ≡ Some rows
learn-held rows d k e = ap (λ b. if_new b rows d) (in_held d rows (got_in rows k d e))

pub learn-new : (rows : List Row) (d : Row) → is_held d rows ≡ false → length rows < 65536 → learn_to rows d ≡ Some (rows ++ d ∷ [])
learn-new rows d h l =
    ap (λ b. if_new b rows d) h ∙ ap (λ b. in_room b rows d) (lt-ltb (length rows) most_rows (subst (λ m. length rows < m) (sym most_is) l))

pub learn-full : (rows : List Row) (d : Row) → is_held d rows ≡ false → 65536 ≤ length rows → learn_to rows d ≡ None
learn-full rows d h l =
    ap (λ b. if_new b rows d) h ∙ ap (λ b. in_room b rows d) (le-ltb (length rows) most_rows (subst (λ m. m ≤ length rows) (sym most_is) l))

-- a new description behind the others has the next number
pub index-end : (rows : List Row) (d : Row) → Apart rows → is_held d rows ≡ false → index_of d (rows ++ d ∷ []) ≡ length rows
index-end rows d a h = index_at (rows ++ d ∷ []) (length rows) d (apart-end rows d a h) (get-end rows d)

pub ruleset places = (
  index_at,
  index-end,
  rows-more,
  get-end,
  apart-end,
  learn-held,
  learn-new,
  learn-full,
  slice_get-map,
  same_is,
  length-rows,
  most_is,
)
