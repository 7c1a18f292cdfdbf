-- What an order gives by a name, and lists in which no name stands twice.
use Rattle.std.proofs.Common.{◌≡◌, ◌<◌, ◌≤◌, ◌-◌, inl, inr, ℕ, zero, suc, List, [], ◌∷◌, Bool, true, false, ◌||◌, cond, not, nat_eq, drop, drop-cons, map, length, get_or}
use Rattle.std.proofs.Common.{Option, Some, None, option_map, refl, sym, ap, ◌∙◌, subst, arith}
use Rattle.std.specs.List.{AllByRecursion, IsDistinct}
use Rattle.std.proofs.lemmas.Bool.{eqb-false}
use Rattle.sky_base.specs.Names.{is_among}
use Rattle.sky_base.specs.Val.{same_text}
use Rattle.ciel_journal.specs.Job.{Digest}
use Rattle.ciel_master_board.specs.Board.{Spot, shelf, input, spot_of}
use Rattle.ciel_table.specs.Named.{found}
use Rattle.ciel_task_inputs.specs.Lies.{held_name}
use Rattle.ciel_task_order.specs.Views.{P, brought_view, order_view, spot_view}
use Rattle.ciel_task_order.specs.declared.block.Held.{Held}
use Rattle.ciel_task_order.specs.declared.block.Spot as rust
use Rattle.ciel_task_order.specs.declared.order.Order.{Order}
use Rattle.ciel_log_fits.specs.Given.{IsBroughtFrom, IsElsewhere, IsGivenAt, IsNowhere, IsStackAt}

-- ---- by its name

pub spots : (n : Digest) (hs : List Held) → spot_of n (map brought_view hs) ≡ option_map (λ (h : Held). spot_view h.at) (found held_name n hs)
spots n [] = refl
spots n (h ∷ hs) = go (same_text n h.name) (spots n hs)
  where
    go : (b : Bool) → spot_of n (map brought_view hs) ≡ option_map (λ (h : Held). spot_view h.at) (found held_name n hs)
        → cond b (Some (spot_view h.at)) (spot_of n (map brought_view hs))
        ≡ option_map (λ (h : Held). spot_view h.at) (cond b (Some h) (found held_name n hs))
    go true e = refl
    go false e = e

abbrev is_shelf : Option (Spot P) → Bool
is_shelf None = false
is_shelf (Some (shelf p)) = true
is_shelf (Some (input i)) = false

apart : true ≡ false → ⊥
apart e = cc

pub no_spot : (n : Digest) (hs : List Held) → found held_name n hs ≡ None → IsNowhere (spot_of n (map brought_view hs))
no_spot n hs e p h = apart (ap is_shelf (sym h ∙ spots n hs ∙ ap (option_map (λ (h : Held). spot_view h.at)) e))

pub spot_there : (n : Digest) (hs : List Held) (h : Held) (s : rust.Spot) → found held_name n hs ≡ Some h → h.at ≡ s
    → spot_of n (map brought_view hs) ≡ Some (spot_view s)
spot_there n hs h s e a = spots n hs ∙ ap (option_map (λ (h : Held). spot_view h.at)) e ∙ ap (λ x. Some (spot_view x)) a

pub an_input : (n : Digest) (hs : List Held) (i : ℕ) → spot_of n (map brought_view hs) ≡ Some (input i)
    → IsNowhere (spot_of n (map brought_view hs))
an_input n hs i e p h = apart (ap is_shelf (sym h ∙ e))

-- the worker of a place
abbrev worker_at : ℕ → Option (Spot P) → ℕ
worker_at d None = d
worker_at d (Some (shelf p)) = p.worker
worker_at d (Some (input i)) = d

module _ (order : Order) (n : Digest) where
  abbrev S : Option (Spot P)
  S = spot_of n (order_view order).inputs

  pub elsewhere : (p : P) → S ≡ Some (shelf p) → (p.worker ≡ order.worker → ⊥) → IsElsewhere order n
  elsewhere p e h = (p, e, h)

  pub not_elsewhere : (p : P) → S ≡ Some (shelf p) → p.worker ≡ order.worker → IsElsewhere order n → ⊥
  not_elsewhere p e h x = x.2 (ap (worker_at 0) (sym x.1 ∙ e) ∙ h)

  pub nowhere : IsNowhere S → IsElsewhere order n → ⊥
  nowhere h x = h x.0 x.1

  pub brought_from : (w : ℕ) (p : P) → S ≡ Some (shelf p) → p.worker ≡ w → IsBroughtFrom order n w
  brought_from w p e h = (p, e, h)

  pub not_brought : (w : ℕ) (p : P) → S ≡ Some (shelf p) → (p.worker ≡ w → ⊥) → IsBroughtFrom order n w → ⊥
  not_brought w p e h x = h (ap (worker_at 0) (sym e ∙ x.1) ∙ x.2)

  pub not_brought_at_all : (w : ℕ) → IsNowhere S → IsBroughtFrom order n w → ⊥
  not_brought_at_all w h x = h x.0 x.1

  module _ (digest : List ℕ → List ℕ) (w : ℕ) where
    pub given_by_name : IsBroughtFrom order n w → IsGivenAt digest order n w
    given_by_name x = (x.0, inl x.1, x.2)

    pub given_as_stack : IsStackAt digest order n w → IsGivenAt digest order n w
    given_as_stack x = (x.0, inr (x.1, x.2), x.3)

    pub not_given : (IsBroughtFrom order n w → ⊥) → (IsStackAt digest order n w → ⊥) → IsGivenAt digest order n w → ⊥
    not_given f g (p, inl e, h) = f (p, e, h)
    not_given f g (p, inr e, h) = g (p, e.0, e.1, h)

-- ---- no name twice

pub end_drop : (ns : List Digest) → drop (length ns) ns ≡ []
end_drop [] = refl
end_drop (n ∷ ns) = end_drop ns

pub distinct_none : IsDistinct same_text []
unfolding IsDistinct
distinct_none = tt

among_none : (n : Digest) (ns : List Digest) → is_among n ns ≡ false → AllByRecursion (λ m. same_text n m ≡ false) ns
among_none n [] e = tt
among_none n (m ∷ ns) e = go (same_text n m) refl e (among_none n ns)
  where
    go : (b : Bool) → same_text n m ≡ b → b || is_among n ns ≡ false → (is_among n ns ≡ false → AllByRecursion (λ m. same_text n m ≡ false) ns)
        → AllByRecursion (λ m. same_text n m ≡ false) (m ∷ ns)
    go true h e later = absurd cc
    go false h e later = (h, later e)

none_among : (n : Digest) (ns : List Digest) → AllByRecursion (λ m. same_text n m ≡ false) ns → is_among n ns ≡ false
none_among n [] h = refl
none_among n (m ∷ ns) h = ap (λ b. b || is_among n ns) h.0 ∙ none_among n ns h.1

pub distinct_more : (n : Digest) (ns : List Digest) → is_among n ns ≡ false → IsDistinct same_text ns → IsDistinct same_text (n ∷ ns)
unfolding IsDistinct
distinct_more n ns e h = (among_none n ns e, h)

drop_distinct : (i : ℕ) (ns : List Digest) → IsDistinct same_text ns → IsDistinct same_text (drop i ns)
unfolding IsDistinct
drop_distinct zero ns h = h
drop_distinct (suc i) [] h = h
drop_distinct (suc i) (n ∷ ns) h = drop_distinct i ns h.1

twice : (n : Digest) (ns : List Digest) → is_among n ns ≡ true → IsDistinct same_text (n ∷ ns) → ⊥
unfolding IsDistinct
twice n ns e h = apart (sym e ∙ none_among n ns h.0)

pub not_distinct : (i : ℕ) (ns : List Digest) (n : Digest) (rest : List Digest) → drop i ns ≡ n ∷ rest → is_among n rest ≡ true
    → IsDistinct same_text ns → ⊥
not_distinct i ns n rest e h d = twice n rest h (subst (IsDistinct same_text) e (drop_distinct i ns d))

-- ---- one more from the end

pub cut : (ns : List Digest) (i : ℕ) (n : Digest) → 0 < i → i ≤ length ns → n ≡ get_or ns (i - 1) n → drop (i - 1) ns ≡ n ∷ drop i ns
cut ns i n h l e =
    let next : suc (i - 1) ≡ i = omega (arith, h) in
    drop-cons ns (i - 1) n (omega (arith, h, l)) ∙ ap (λ y. y ∷ drop (suc (i - 1)) ns) (sym e) ∙ ap (λ k. n ∷ drop k ns) next

pub is_new : (b : Bool) → true ≡ not b → b ≡ false
is_new true e = absurd (apart e)
is_new false e = refl

pub was_there : (b : Bool) → false ≡ not b → b ≡ true
was_there true e = refl
was_there false e = absurd (apart (sym e))

pub unequal : (m n k : ℕ) → m ≡ k → not (nat_eq m n) ≡ true → k ≡ n → ⊥
unequal m n k e t h = eqb-false m n (is_new (nat_eq m n) (sym t)) (e ∙ h)

pub no_both : (b : Bool) → b ≡ true → b ≡ false → ⊥
no_both b e f = apart (sym e ∙ f)
