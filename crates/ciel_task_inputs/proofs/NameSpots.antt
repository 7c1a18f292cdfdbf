-- Where an order has a name, as the master's laws see it and as a worker finds it.
use Rattle.std.proofs.Common.{◌≡◌, ℕ, zero, suc, List, [], ◌∷◌, map, Bool, true, false, cond, Option, Some, None, slice_get, inl, inr, refl, sym, ap}
use Rattle.std.proofs.Common.{◌∙◌}
use Rattle.std.specs.Option.{option_map}
use Rattle.sky_base.specs.ObjectView.{object_view}
use Rattle.sky_base.specs.Res.{Object}
use Rattle.sky_base.specs.See.{input_bytes, input_bytes_if}
use Rattle.sky_base.specs.Val.{same_text}
use Rattle.sky_base.proofs.Exact.{exact_text}
use Rattle.sky_base_law.proofs.Lists.{some_is}
use Rattle.ciel_task_order.specs.Board as board
use Rattle.ciel_task_order.specs.Board.{brought_names, spot_of}
use Rattle.ciel_journal.specs.Job.{In}
use Rattle.ciel_table.specs.Named.{found, place_of}
use Rattle.ciel_task_inputs.specs.Lies.{held_name, object_in}
use Rattle.ciel_task_order.specs.Orders.{names_in}
use Rattle.ciel_task_order.specs.Shop as shop
use Rattle.ciel_task_order.specs.Shop.{block_view}
use Rattle.ciel_task_order.specs.Views.{P, brought_view, spot_view}
use Rattle.ciel_task_order.specs.declared.block.Block.{Block}
use Rattle.ciel_task_order.specs.declared.block.Held.{Held}
use Rattle.ciel_task_order.specs.declared.block.Spot.{Spot}

-- ---- the spot of a name

abbrev pub spot_at : Held → board.Spot P
spot_at h = spot_view h.at

pub spot_found : (n : List ℕ) (hs : List Held) → spot_of n (map brought_view hs) ≡ option_map spot_at (found held_name n hs)
spot_found n [] = refl
spot_found n (h ∷ hs) = go (same_text n h.name) (spot_found n hs)
  where
    go : (b : Bool) → spot_of n (map brought_view hs) ≡ option_map spot_at (found held_name n hs)
        → cond b (Some (spot_view h.at)) (spot_of n (map brought_view hs)) ≡ option_map spot_at (cond b (Some h) (found held_name n hs))
    go true e = refl
    go false e = e

pub spot_has : (n : List ℕ) (hs : List Held) (sp : board.Spot P) → spot_of n (map brought_view hs) ≡ Some sp → (h : Held)
    × (found held_name n hs ≡ Some h) × (spot_view h.at ≡ sp)
spot_has n hs sp e = go (found held_name n hs) refl (sym (spot_found n hs) ∙ e)
  where
    go : (x : Option Held) → found held_name n hs ≡ x → option_map spot_at x ≡ Some sp → (h : Held) × (found held_name n hs ≡ Some h)
        × (spot_view h.at ≡ sp)
    go None q f = absurd cc
    go (Some h) q f = (h, q, some_is (spot_view h.at) sp f)

pub found_named : (n : List ℕ) (hs : List Held) (h : Held) → found held_name n hs ≡ Some h → n ≡ h.name
found_named n [] h e = absurd cc
found_named n (x ∷ hs) h e = go (same_text n x.name) refl e (found_named n hs h)
  where
    go : (b : Bool) → same_text n x.name ≡ b → cond b (Some x) (found held_name n hs) ≡ Some h → (found held_name n hs ≡ Some h → n ≡ h.name) → n
        ≡ h.name
    go true t f later = exact_text n x.name t ∙ ap (λ (y : Held). y.name) (some_is x h f)
    go false t f later = later f

-- a name that is found stands in the list
pub found_stands : (n : List ℕ) (hs : List Held) (h : Held) → found held_name n hs ≡ Some h → In n (names_in hs)
found_stands n [] h e = absurd cc
found_stands n (x ∷ hs) h e = go (same_text n x.name) refl e (found_stands n hs h)
  where
    go : (b : Bool) → same_text n x.name ≡ b → cond b (Some x) (found held_name n hs) ≡ Some h
        → (found held_name n hs ≡ Some h → In n (names_in hs)) → In n (x.name ∷ names_in hs)
    go true t f later = inl (exact_text n x.name t)
    go false t f later = inr (later f)

pub names_brought : (hs : List Held) → brought_names (map brought_view hs) ≡ names_in hs
names_brought [] = refl
names_brought (h ∷ hs) = ap (λ ns. h.name ∷ ns) (names_brought hs)

-- ---- spots and blocks

pub shelf_view : (sp : Spot) (p : P) → spot_view sp ≡ board.Spot.shelf p → sp ≡ Spot.Shelf p
shelf_view (Spot.Shelf q) p e = let same : q ≡ p = cc in ap Spot.Shelf same
shelf_view (Spot.Input i) p e = absurd cc

pub input_view : (sp : Spot) (i : ℕ) → spot_view sp ≡ board.Spot.input i → sp ≡ Spot.Input i
input_view (Spot.Shelf q) i e = absurd cc
input_view (Spot.Input k) i e = let same : k ≡ i = cc in ap Spot.Input same

pub object_is : (b : Block) (x : Object (List ℕ)) → block_view b ≡ shop.Block.object x → object_in b ≡ Some x
object_is (Block.Object o) x e = let same : object_view o ≡ x = cc in ap Some same
object_is (Block.Frozen s) x e = absurd cc

pub is_object : (b : Block) (x : Object (List ℕ)) → object_in b ≡ Some x → block_view b ≡ shop.Block.object x
is_object (Block.Object o) x e = ap shop.Block.object (some_is (object_view o) x e)
is_object (Block.Frozen s) x e = absurd cc

-- ---- inputs

-- the input of the number of a key has the bytes of the key
pub numbered : (ins : List (List ℕ × List ℕ)) (k : List ℕ) (i : ℕ) → place_of (λ (n : List ℕ). n) k (map (λ (x : List ℕ × List ℕ). x.0) ins)
    ≡ Some i → option_map (λ (x : List ℕ × List ℕ). x.1) (slice_get ins i) ≡ Some (input_bytes k ins)
numbered [] k i e = absurd cc
numbered (x ∷ ins) k i e =
    go (same_text k x.0) (place_of (λ (n : List ℕ). n) k (map (λ (y : List ℕ × List ℕ). y.0) ins)) (numbered ins k) e
  where
    later : (i : ℕ) (o : Option ℕ) → ((j : ℕ) → o ≡ Some j → option_map (λ (y : List ℕ × List ℕ). y.1) (slice_get ins j)
        ≡ Some (input_bytes k ins)) → option_map suc o ≡ Some i → option_map (λ (y : List ℕ × List ℕ). y.1) (slice_get (x ∷ ins) i)
        ≡ Some (input_bytes k ins)
    later i None r f = absurd cc
    later zero (Some j) r f = absurd cc
    later (suc i) (Some j) r f = let same : j ≡ i = cc in r i (ap Some same)

    go : (b : Bool) (o : Option ℕ) → ((j : ℕ) → o ≡ Some j → option_map (λ (y : List ℕ × List ℕ). y.1) (slice_get ins j)
        ≡ Some (input_bytes k ins)) → cond b (Some 0) (option_map suc o) ≡ Some i
        → option_map (λ (y : List ℕ × List ℕ). y.1) (slice_get (x ∷ ins) i) ≡ Some (input_bytes_if b x.1 (input_bytes k ins))
    go true o r f = let same : 0 ≡ i = cc in ap (λ j. option_map (λ (y : List ℕ × List ℕ). y.1) (slice_get (x ∷ ins) j)) (sym same)
    go false o r f = later i o r f
