-- The orders, as the code keeps them.
use Rattle.std.proofs.Common.{◌≡◌, ◌<◌, ℕ, List, [], ◌∷◌, ◌++◌, length, map, set, slice_get, get_or, Option, Some, None, option_map}
use Rattle.std.proofs.Common.{true, false, cond, refl, ap, sym, ◌∙◌, is_some, IfSome, MatchOption}
use Rattle.std.specs.BTreeMap.{BTreeMap, Updates, get}
use Rattle.std.specs.Ordering.{nat_cmp}
use Rattle.std.proofs.Math.Seq.{map-set_same}
use Rattle.std.proofs.lemmas.List.{length-map, map-append, map-set}
use Rattle.std.proofs.lemmas.Option.{slice_get-map, slice_get_read}
use Rattle.ciel_look_told.specs.View.{told_view}
use Rattle.ciel_look_told.specs.Told.{Outcome}
use Rattle.ciel_look_told.specs.declared.told.Told.{Told}
use Rattle.ciel_look_tasks.specs.Happened.{closing, closing_at}
use Rattle.ciel_look_tasks.specs.Orders as order
use Rattle.ciel_look_tasks.specs.Orders.{Ending, after_told, closed, is_open_at, last_of, orders}
use Rattle.ciel_look_tasks.specs.Tasks.{Start}
use Rattle.ciel_look_tasks.specs.View.{ending_view, how_ending, numbers, order_ends, orders_view, run_number, start_view}
use Rattle.ciel_look_tasks.specs.declared.scene.End.{End}
use Rattle.ciel_look_tasks.specs.declared.scene.Run.{Run}
use Rattle.ciel_look_tasks.specs.declared.starts.Held.{Held}
use Rattle.ciel_look_tasks.proofs.OrderPlaces.{closed_at, closed_nowhere, closed_over, last_next, last_there, number_at, the_some}
use Rattle.ciel_look_tasks.proofs.OrderSteps.{orders_push}

-- the map has the place of one more
pub last_pushed : (xs ys : List Run) (x : Run) (p : ℕ) (old new : BTreeMap ℕ ℕ) → ys ≡ xs ++ x ∷ [] → p ≡ length xs
    → ((n : ℕ) → get nat_cmp old n ≡ last_of n (numbers xs)) → Updates nat_cmp old new x.number (Some p)
    → (n : ℕ) → get nat_cmp new n ≡ last_of n (numbers ys)
last_pushed xs ys x p old new e l h u n =
    last_next old new (numbers xs) x.number p h (l ∙ sym (length-map xs run_number)) u n
    ∙ sym (ap (last_of n) (ap numbers e ∙ map-append run_number xs (x ∷ [])))

-- an order that ends keeps its number
pub numbers_closed : (rs : List Run) (i : ℕ) (x y : Run) → run_number y ≡ run_number x → x ≡ get_or rs i x → numbers (set rs i y) ≡ numbers rs
numbers_closed rs i x y e v = map-set_same run_number rs i y x (e ∙ ap run_number v)

pub orders_pushed : (xs ys : List Run) (x : Run) → ys ≡ xs ++ x ∷ [] → orders_view ys ≡ orders_view xs ++ order_ends x ∷ []
orders_pushed xs ys x e = ap orders_view e ∙ map-append order_ends xs (x ∷ [])

pub numbers_seen : (rs : List Run) → map number_at (orders_view rs) ≡ numbers rs
numbers_seen [] = refl
numbers_seen (r ∷ rs) = ap (λ ns. run_number r ∷ ns) (numbers_seen rs)

-- ---- the order of a number

pub seen_there : (rs : List Run) (p : ℕ) (x : Run) → Some x ≡ slice_get rs p → slice_get (orders_view rs) p ≡ Some (order_ends x)
seen_there rs p x e = slice_get-map order_ends rs p ∙ ap (option_map order_ends) (sym e)

pub seen_nowhere : (rs : List Run) (p : ℕ) → None ≡ slice_get rs p → slice_get (orders_view rs) p ≡ None
seen_nowhere rs p e = slice_get-map order_ends rs p ∙ ap (option_map order_ends) (sym e)

last_seen : (rs : List Run) (n : ℕ) (o : Option ℕ) → o ≡ last_of n (numbers rs) → last_of n (map number_at (orders_view rs)) ≡ o
last_seen rs n o e = ap (last_of n) (numbers_seen rs) ∙ sym e

pub order_none : (rs : List Run) (n : ℕ) → None ≡ last_of n (numbers rs) → (how : Outcome) → closed n how (orders_view rs) ≡ orders_view rs
order_none rs n e how = closed_nowhere n (orders_view rs) (last_seen rs n None e) how

-- it is out
pub order_out : (rs : List Run) (n p : ℕ) → Some p ≡ last_of n (numbers rs) → is_open_at (slice_get (orders_view rs) p) ≡ true
    → (s : Start) × (slice_get (orders_view rs) p ≡ Some (s, order.out))
    × ((how : Outcome) → closed n how (orders_view rs) ≡ set (orders_view rs) p (s, order.ended how))
order_out rs n p e k = go (slice_get (orders_view rs) p) refl k
  where
    go : (o : Option (Start × Ending)) → slice_get (orders_view rs) p ≡ o → is_open_at o ≡ true
        → (s : Start) × (slice_get (orders_view rs) p ≡ Some (s, order.out))
        × ((how : Outcome) → closed n how (orders_view rs) ≡ set (orders_view rs) p (s, order.ended how))
    go None there is = absurd cc
    go (Some (s, order.out)) there is = (s, there, closed_at n (orders_view rs) p s (last_seen rs n (Some p) e) there)
    go (Some (s, order.lost)) there is = absurd cc
    go (Some (s, order.ended by)) there is = absurd cc

-- it is over
pub order_over : (rs : List Run) (n p : ℕ) → Some p ≡ last_of n (numbers rs) → is_open_at (slice_get (orders_view rs) p) ≡ false
    → (how : Outcome) → closed n how (orders_view rs) ≡ orders_view rs
order_over rs n p e k how = go (slice_get (orders_view rs) p) refl k
  where
    go : (o : Option (Start × Ending)) → slice_get (orders_view rs) p ≡ o → is_open_at o ≡ false
        → closed n how (orders_view rs) ≡ orders_view rs
    go None there is = absurd (last_there n (orders_view rs) p (last_seen rs n (Some p) e) there)
    go (Some (s, x)) there is = closed_over n (orders_view rs) p s x (last_seen rs n (Some p) e) there is how

pub order_held : (rs : List Run) (n p : ℕ) (r : Option Held) → Some p ≡ last_of n (numbers rs)
    → is_some r ≡ is_open_at (slice_get (orders_view rs) p) → IfSome r (λ h. h.run ≡ p)
    → MatchOption r ((how : Outcome) → closed n how (orders_view rs) ≡ orders_view rs)
    (λ h. (s : Start) × (slice_get (orders_view rs) h.run ≡ Some (s, order.out))
    × ((how : Outcome) → closed n how (orders_view rs) ≡ set (orders_view rs) h.run (s, order.ended how)))
order_held rs n p None e k at = order_over rs n p e (sym k)
order_held rs n p (Some h) e k at = order_out rs n h.run (ap Some at ∙ e) (ap (λ q. is_open_at (slice_get (orders_view rs) q)) at ∙ sym k)

-- where it stands
pub order_place : (rs : List Run) (n p : ℕ) (r : Option Held) → Some p ≡ last_of n (numbers rs)
    → is_some r ≡ is_open_at (slice_get (orders_view rs) p) → IfSome r (λ h. h.run ≡ p)
    → option_map (λ (h : Held). h.run) r ≡ closing n (orders_view rs)
order_place rs n p r e k at = go r k at ∙ ap (closing_at (orders_view rs)) (sym (last_seen rs n (Some p) e))
  where
    go : (o : Option Held) → is_some o ≡ is_open_at (slice_get (orders_view rs) p) → IfSome o (λ h. h.run ≡ p)
        → option_map (λ (h : Held). h.run) o ≡ closing_at (orders_view rs) (Some p)
    go None i a = ap (λ b. cond b (Some p) None) i
    go (Some h) i a = ap Some a ∙ ap (λ b. cond b (Some p) None) i

pub order_nowhere : (rs : List Run) (n : ℕ) → None ≡ last_of n (numbers rs) → None ≡ closing n (orders_view rs)
order_nowhere rs n e = ap (closing_at (orders_view rs)) (sym (last_seen rs n None e))

-- ---- an order ends

pub orders_closed : (rs : List Run) (i : ℕ) (x y : Run) (end : End) (s : Start) (e : Ending) → i < length rs → x ≡ get_or rs i x
    → start_view y ≡ start_view x → y.end ≡ Some end → slice_get (orders_view rs) i ≡ Some (s, e)
    → orders_view (set rs i y) ≡ set (orders_view rs) i (s, how_ending end.how)
orders_closed rs i x y end s e l v b q h =
    let same : (s, e) ≡ order_ends x = the_some (s, e) (order_ends x) (sym h ∙ seen_there rs i x (sym (slice_get_read rs (length rs) i x refl l v))) in
    let start : s ≡ start_view x = ap (λ (z : Start × Ending). z.0) same in
    map-set order_ends rs i y
    ∙ ap (λ z. set (orders_view rs) i (z, ending_view y.end)) (b ∙ sym start)
    ∙ ap (λ z. set (orders_view rs) i (s, ending_view z)) q

-- ---- an entry more is told

pub orders_next : (ts : List Told) (e : Told) (os qs : List (Start × Ending)) → os ≡ orders (map told_view ts) → qs ≡ after_told (told_view e) os
    → qs ≡ orders (map told_view (ts ++ e ∷ []))
orders_next ts e os qs h k =
    k ∙ ap (after_told (told_view e)) h ∙ sym (orders_push (map told_view ts) (told_view e)) ∙ sym (ap orders (map-append told_view ts (e ∷ [])))
