-- Bars, arrows and crosses that are drawn one after another.
use Rattle.std.proofs.Common.{◌≡◌, ◌≤◌, ◌<◌, ◌+◌, ℕ, zero, suc, List, [], ◌∷◌, ◌++◌, Bool, true, false, cond, codes, decimal, flat_map, length, map, take, get_or}
use Rattle.std.proofs.Common.{append-nil, append_assoc, arith, slice_get, refl, ap, sym, ◌∙◌, subst, Option, Some, None, option_map, Bor, MatchOption}
use Rattle.std.specs.Option.{option_copied}
use Rattle.std.proofs.lemmas.Grind.{flat_map-append}
use Rattle.std.proofs.lemmas.List.{flat_map_more, take_all, take_more}
use Rattle.std.proofs.lemmas.List.Folds.{flat_map-map}
use Rattle.sky_base.specs.declared.object.TaskId.{TaskId}
use Rattle.ciel_look_shown.specs.Plain.{shown, shown_byte}
use Rattle.ciel_look_tasks.specs.SceneView.{order_view, row_view}
use Rattle.ciel_look_tasks.specs.Seen.{Order, Row}
use Rattle.ciel_look_tasks.specs.Tasks.{place_in, same_task}
use Rattle.ciel_look_tasks.specs.View.{ids}
use Rattle.ciel_look_tasks.specs.declared.scene.Run.{Run}
use Rattle.ciel_look_tasks.specs.declared.scene.Scene.{Scene}
use Rattle.ciel_look_tasks.specs.declared.scene.Task.{Task}
use Rattle.ciel_look_sheet.specs.Drawn.{Draws}
use Rattle.ciel_look_lanes.specs.Bars.{bar_titles, from_words, row_of}
use Rattle.ciel_look_sheet.proofs.Drawing.{draws_as, draws_none, draws_two}

shown_two : (a b : List ℕ) → shown (a ++ b) ≡ shown a ++ shown b
shown_two a b = flat_map-append shown_byte a b

-- a text behind which more was put
pub put_two : (old mid new a b : List ℕ) → mid ≡ old ++ shown a → new ≡ mid ++ shown b → new ≡ old ++ shown (a ++ b)
put_two old mid new a b f g =
    g ∙ ap (λ z. z ++ shown b) f ∙ append_assoc old (shown a) (shown b) ∙ ap (λ z. old ++ z) (sym (shown_two a b))

pub put_five : (o p q r s t a b c d e : List ℕ) → p ≡ o ++ shown a → q ≡ p ++ shown b → r ≡ q ++ shown c → s ≡ r ++ shown d → t ≡ s ++ shown e
    → t ≡ o ++ shown (a ++ (b ++ (c ++ (d ++ e))))
put_five o p q r s t a b c d e f g h i j =
    put_two o p t a (b ++ (c ++ (d ++ e))) f (put_two p q t b (c ++ (d ++ e)) g (put_two q r t c (d ++ e) h (put_two r s t d e i j)))

-- ---- some of a list, one more

titles_more : {A : Type 0} (f : A → List (List ℕ)) (xs : List A) (i : ℕ) (x : A) → i < length xs → x ≡ get_or xs i x
    → flat_map f (take i xs) ++ f x ≡ flat_map f (take (i + 1) xs)
titles_more f xs i x h e =
    flat_map_more f [] (take i xs) x ∙ ap (λ y. flat_map f (take i xs ++ y ∷ [])) e ∙ ap (flat_map f) (sym (take_more xs i x h))

module _ {A : Type 0} (f : A → List (List ℕ)) (xs : List A) (old : List ℕ) where
  -- the boxes of the first ones
  pub boxes_next : (i : ℕ) (x : A) (mid new : List ℕ) → i < length xs → x ≡ get_or xs i x → Draws (flat_map f (take i xs)) [] 0 old mid
      → Draws (f x) [] 0 mid new → Draws (flat_map f (take (i + 1) xs)) [] 0 old new
  boxes_next i x mid new h e d g =
      draws_as (flat_map f (take i xs) ++ f x) [] (flat_map f (take (i + 1) xs)) [] 0 0 old new (titles_more f xs i x h e) refl refl
      (draws_two (flat_map f (take i xs)) [] (f x) [] 0 0 old mid new d g)

  pub boxes_all : (i : ℕ) (new : List ℕ) → length xs ≤ i → Draws (flat_map f (take i xs)) [] 0 old new → Draws (flat_map f xs) [] 0 old new
  boxes_all i new h d = draws_as _ _ _ _ _ _ old new (ap (flat_map f) (take_all i xs h)) refl refl d

  -- the arrows of the first ones
  pub arrows_next : (i : ℕ) (x : A) (mid new : List ℕ) → i < length xs → x ≡ get_or xs i x → Draws [] (flat_map f (take i xs)) 0 old mid
      → Draws [] (f x) 0 mid new → Draws [] (flat_map f (take (i + 1) xs)) 0 old new
  arrows_next i x mid new h e d g =
      draws_as [] (flat_map f (take i xs) ++ f x) [] (flat_map f (take (i + 1) xs)) 0 0 old new refl (titles_more f xs i x h e) refl
      (draws_two [] (flat_map f (take i xs)) [] (f x) 0 0 old mid new d g)

  pub arrows_all : (i : ℕ) (new : List ℕ) → length xs ≤ i → Draws [] (flat_map f (take i xs)) 0 old new → Draws [] (flat_map f xs) 0 old new
  arrows_all i new h d = draws_as _ _ _ _ _ _ old new refl (ap (flat_map f) (take_all i xs h)) refl d

-- crosses
pub cross_next : (i : ℕ) (old mid new : List ℕ) → Draws [] [] i old mid → Draws [] [] 1 mid new → Draws [] [] (i + 1) old new
cross_next i old mid new d g = draws_two [] [] [] [] i 1 old mid new d g

pub crosses_all : (n i : ℕ) (old new : List ℕ) → i ≡ n → Draws [] [] i old new → Draws [] [] n old new
crosses_all n i old new e d = subst (λ k. Draws [] [] k old new) e d

-- ---- in a row

pub draws_both : (bs ars : List (List ℕ)) (o m n : List ℕ) → Draws bs [] 0 o m → Draws [] ars 0 m n → Draws bs ars 0 o n
draws_both bs ars o m n f g =
    draws_as (bs ++ []) ars bs ars 0 0 o n (append-nil bs) refl refl (draws_two bs [] [] ars 0 0 o m n f g)

pub draws_four : (bs ars : List (List ℕ)) (n k : ℕ) (o p q r s : List ℕ) → n ≡ k → Draws [] [] 0 o p → Draws bs ars 0 p q → Draws [] [] n q r
    → Draws [] [] 0 r s → Draws bs ars k o s
draws_four bs ars n k o p q r s e f g h i =
    draws_as ((bs ++ []) ++ []) ((ars ++ []) ++ []) bs ars ((0 + n) + 0) k o s (append-nil (bs ++ []) ∙ append-nil bs)
    (append-nil (ars ++ []) ∙ append-nil ars) (omega (arith, e))
    (draws_two (bs ++ []) (ars ++ []) [] [] (0 + n) 0 o r s (draws_two bs ars [] [] 0 n o q r (draws_two [] [] bs ars 0 0 o p q f g) h) i)

-- a title, behind which the order is put
pub title_ends : (title words tip all : List ℕ) → tip ≡ shown title → all ≡ tip ++ shown words → all ≡ shown (title ++ words)
title_ends title words tip all e f = f ∙ ap (λ z. z ++ shown words) e ∙ sym (shown_two title words)

pub from_none : (n : ℕ) (old : List ℕ) → n ≡ 0 → old ≡ old ++ shown (from_words n)
from_none n old e = sym (append-nil old) ∙ ap (λ k. old ++ shown (from_words k)) (sym e)

pub from_some : (n : ℕ) (old new : List ℕ) → (n ≡ 0 → ⊥) → new ≡ old ++ shown (codes " from wait " ++ decimal n) → new ≡ old ++ shown (from_words n)
from_some zero old new h e = absurd (h refl)
from_some (suc n) old new h e = e

-- ---- the row of a task

-- the row that stands at a place
abbrev row_at : Scene → Option ℕ → List Task → Option Row
row_at s None ts = None
row_at s (Some p) ts = option_map (row_view s) (slice_get ts p)

row_place : (s : Scene) (t : TaskId) (ts : List Task) → row_of t (map (row_view s) ts) ≡ row_at s (place_in t (ids ts)) ts
row_place s t [] = refl
row_place s t (x ∷ xs) = go (same_task t x.id) (place_in t (ids xs)) (row_place s t xs)
  where
    go : (b : Bool) (o : Option ℕ) → row_of t (map (row_view s) xs) ≡ row_at s o xs
        → cond b (Some (row_view s x)) (row_of t (map (row_view s) xs)) ≡ row_at s (cond b (Some 0) (option_map suc o)) (x ∷ xs)
    go true o h = refl
    go false None h = h
    go false (Some p) h = h

pub row_found : (s : Scene) (t : TaskId) (ts : List Task) (p : ℕ) (r : Option (Bor Task)) → Some p ≡ place_in t (ids ts)
    → option_copied r ≡ slice_get ts p
    → MatchOption r (row_of t (map (row_view s) ts) ≡ None) (λ x. row_of t (map (row_view s) ts) ≡ Some (row_view s x.now))
row_found s t ts p None e g = row_place s t ts ∙ ap (λ o. row_at s o ts) (sym e) ∙ ap (option_map (row_view s)) (sym g)
row_found s t ts p (Some x) e g = row_place s t ts ∙ ap (λ o. row_at s o ts) (sym e) ∙ ap (option_map (row_view s)) (sym g)

pub row_nowhere : (s : Scene) (t : TaskId) (ts : List Task) → None ≡ place_in t (ids ts) → row_of t (map (row_view s) ts) ≡ None
row_nowhere s t ts e = row_place s t ts ∙ ap (λ o. row_at s o ts) (sym e)

-- the bars of orders that the code keeps
pub bars_seen : (rows : List Row) (rs : List Run) → flat_map (λ r. bar_titles rows (order_view r)) rs ≡ flat_map (bar_titles rows) (map order_view rs)
bars_seen rows rs = sym (flat_map-map (bar_titles rows) order_view rs)
