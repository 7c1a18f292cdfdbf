-- How orders end, where one entry more is told.
use Rattle.std.proofs.Common.{◌≡◌, ℕ, List, [], ◌∷◌, ◌++◌, Bool, true, false, ◌||◌, cond, map, nat_eq, refl, ap, sym, ◌∙◌, subst}
use Rattle.std.proofs.lemmas.Bool.{eqb-true}
use Rattle.sky_base.specs.declared.object.TaskId.{TaskId}
use Rattle.ciel_look_told.specs.Told as told
use Rattle.ciel_look_told.specs.Told.{Outcome, Told}
use Rattle.ciel_look_tasks.specs.Tasks.{Start}
use Rattle.ciel_look_tasks.specs.Orders as order
use Rattle.ciel_look_tasks.specs.Orders.{Ending, after_told, closed, cut, cut_of, end_of, ends, ends_if, has_number, orders}

either : {A : Type 0} (b : Bool) (x : A) → cond b x x ≡ x
either true x = refl
either false x = refl

-- ---- an order that ends with its worker alone

-- an entry that ends nothing of it
cut_same : (w : ℕ) (ts : List Told) (e : Told) → cut_of w (e ∷ []) ≡ order.out → cut_of w (ts ++ e ∷ []) ≡ cut_of w ts
cut_same w [] e h = h
cut_same w (told.started n v f t ∷ ts) e h = cut_same w ts e h
cut_same w (told.ended n ds cs how ∷ ts) e h = cut_same w ts e h
cut_same w (told.lost v a ∷ ts) e h = ap (cond (nat_eq v w) order.lost) (cut_same w ts e h)
cut_same w (told.late n ∷ ts) e h = cut_same w ts e h

cut_lost : (w : ℕ) (ts : List Told) (v a : ℕ) → cut_of w (ts ++ told.lost v a ∷ []) ≡ cond (nat_eq v w) (ends order.lost (cut_of w ts)) (cut_of w ts)
cut_lost w [] v a = refl
cut_lost w (told.started n u f t ∷ ts) v a = cut_lost w ts v a
cut_lost w (told.ended n ds cs how ∷ ts) v a = cut_lost w ts v a
cut_lost w (told.lost u b ∷ ts) v a = ap (cond (nat_eq u w) order.lost) (cut_lost w ts v a) ∙ go (nat_eq u w)
  where
    go : (c : Bool) → cond c order.lost (cond (nat_eq v w) (ends order.lost (cut_of w ts)) (cut_of w ts))
        ≡ cond (nat_eq v w) (ends order.lost (cond c order.lost (cut_of w ts))) (cond c order.lost (cut_of w ts))
    go true = sym (either (nat_eq v w) order.lost)
    go false = refl
cut_lost w (told.late n ∷ ts) v a = cut_lost w ts v a

-- ---- an order

end_same : (n w : ℕ) (ts : List Told) (e : Told) → cut_of w (e ∷ []) ≡ order.out → end_of n w (e ∷ []) ≡ order.out
    → end_of n w (ts ++ e ∷ []) ≡ end_of n w ts
end_same n w [] e h k = k
end_same n w (told.started m v f t ∷ ts) e h k =
    ap (λ x. cond (nat_eq m n) x (end_of n w (ts ++ e ∷ []))) (cut_same w ts e h)
    ∙ ap (cond (nat_eq m n) (cut_of w ts)) (end_same n w ts e h k)
end_same n w (told.ended m ds cs how ∷ ts) e h k = ap (cond (nat_eq m n) (order.ended how)) (end_same n w ts e h k)
end_same n w (told.lost v a ∷ ts) e h k = ap (cond (nat_eq v w) order.lost) (end_same n w ts e h k)
end_same n w (told.late m ∷ ts) e h k = end_same n w ts e h k

end_lost : (n w : ℕ) (ts : List Told) (v a : ℕ) → end_of n w (ts ++ told.lost v a ∷ []) ≡ cond (nat_eq v w) (ends order.lost (end_of n w ts)) (end_of n w ts)
end_lost n w [] v a = refl
end_lost n w (told.started m u f t ∷ ts) v a = go (nat_eq m n) (end_lost n w ts v a)
  where
    go : (c : Bool) → end_of n w (ts ++ told.lost v a ∷ []) ≡ cond (nat_eq v w) (ends order.lost (end_of n w ts)) (end_of n w ts)
        → cond c (cut_of w (ts ++ told.lost v a ∷ [])) (end_of n w (ts ++ told.lost v a ∷ []))
        ≡ cond (nat_eq v w) (ends order.lost (cond c (cut_of w ts) (end_of n w ts))) (cond c (cut_of w ts) (end_of n w ts))
    go true h = cut_lost w ts v a
    go false h = h
end_lost n w (told.ended m ds cs how ∷ ts) v a = go (nat_eq m n) (end_lost n w ts v a)
  where
    go : (c : Bool) → end_of n w (ts ++ told.lost v a ∷ []) ≡ cond (nat_eq v w) (ends order.lost (end_of n w ts)) (end_of n w ts)
        → cond c (order.ended how) (end_of n w (ts ++ told.lost v a ∷ []))
        ≡ cond (nat_eq v w) (ends order.lost (cond c (order.ended how) (end_of n w ts))) (cond c (order.ended how) (end_of n w ts))
    go true h = sym (either (nat_eq v w) (order.ended how))
    go false h = h
end_lost n w (told.lost u b ∷ ts) v a = go (nat_eq u w) (end_lost n w ts v a)
  where
    go : (c : Bool) → end_of n w (ts ++ told.lost v a ∷ []) ≡ cond (nat_eq v w) (ends order.lost (end_of n w ts)) (end_of n w ts)
        → cond c order.lost (end_of n w (ts ++ told.lost v a ∷ []))
        ≡ cond (nat_eq v w) (ends order.lost (cond c order.lost (end_of n w ts))) (cond c order.lost (end_of n w ts))
    go true h = sym (either (nat_eq v w) order.lost)
    go false h = h
end_lost n w (told.late m ∷ ts) v a = end_lost n w ts v a

end_ended : (n w : ℕ) (ts : List Told) (m : ℕ) (e : Told) (how : Outcome) → cut_of w (e ∷ []) ≡ order.out
    → end_of n w (e ∷ []) ≡ cond (nat_eq m n) (order.ended how) order.out
    → end_of n w (ts ++ e ∷ [])
    ≡ cond (has_number n (orders ts)) (end_of n w ts) (cond (nat_eq m n) (ends (order.ended how) (end_of n w ts)) (end_of n w ts))
end_ended n w [] m e how h k = k
end_ended n w (told.started u v f t ∷ ts) m e how h k = go (nat_eq u n) (end_ended n w ts m e how h k)
  where
    go : (c : Bool) → end_of n w (ts ++ e ∷ [])
        ≡ cond (has_number n (orders ts)) (end_of n w ts) (cond (nat_eq m n) (ends (order.ended how) (end_of n w ts)) (end_of n w ts))
        → cond c (cut_of w (ts ++ e ∷ [])) (end_of n w (ts ++ e ∷ []))
        ≡ cond (c || has_number n (orders ts)) (cond c (cut_of w ts) (end_of n w ts))
        (cond (nat_eq m n) (ends (order.ended how) (cond c (cut_of w ts) (end_of n w ts))) (cond c (cut_of w ts) (end_of n w ts)))
    go true r = cut_same w ts e h
    go false r = r
end_ended n w (told.ended u ds cs by ∷ ts) m e how h k = go (nat_eq u n) (end_ended n w ts m e how h k)
  where
    go : (c : Bool) → end_of n w (ts ++ e ∷ [])
        ≡ cond (has_number n (orders ts)) (end_of n w ts) (cond (nat_eq m n) (ends (order.ended how) (end_of n w ts)) (end_of n w ts))
        → cond c (order.ended by) (end_of n w (ts ++ e ∷ []))
        ≡ cond (has_number n (orders ts)) (cond c (order.ended by) (end_of n w ts))
        (cond (nat_eq m n) (ends (order.ended how) (cond c (order.ended by) (end_of n w ts))) (cond c (order.ended by) (end_of n w ts)))
    go true r =
        sym (ap (cond (has_number n (orders ts)) (order.ended by)) (either (nat_eq m n) (order.ended by)) ∙ either (has_number n (orders ts)) (order.ended by))
    go false r = r
end_ended n w (told.lost u b ∷ ts) m e how h k = go (nat_eq u w) (end_ended n w ts m e how h k)
  where
    go : (c : Bool) → end_of n w (ts ++ e ∷ [])
        ≡ cond (has_number n (orders ts)) (end_of n w ts) (cond (nat_eq m n) (ends (order.ended how) (end_of n w ts)) (end_of n w ts))
        → cond c order.lost (end_of n w (ts ++ e ∷ []))
        ≡ cond (has_number n (orders ts)) (cond c order.lost (end_of n w ts))
        (cond (nat_eq m n) (ends (order.ended how) (cond c order.lost (end_of n w ts))) (cond c order.lost (end_of n w ts)))
    go true r = sym (ap (cond (has_number n (orders ts)) order.lost) (either (nat_eq m n) order.lost) ∙ either (has_number n (orders ts)) order.lost)
    go false r = r
end_ended n w (told.late u ∷ ts) m e how h k = end_ended n w ts m e how h k

-- ---- all orders

pub closed_none : (n : ℕ) (how : Outcome) (os : List (Start × Ending)) → has_number n os ≡ false → closed n how os ≡ os
closed_none n how [] h = refl
closed_none n how (o ∷ os) h = go (nat_eq o.0.0 n) refl h
  where
    go : (c : Bool) → nat_eq o.0.0 n ≡ c → (c || has_number n os) ≡ false → closed n how (o ∷ os) ≡ o ∷ os
    go true e k = absurd cc
    go false e k =
        ap (λ b. cond b (o ∷ closed n how os) (ends_if (nat_eq n o.0.0) (order.ended how) o ∷ os)) k
        ∙ ap (λ b. ends_if b (order.ended how) o ∷ os) (flip n o.0.0 e)
      where
        flip : (a b : ℕ) → nat_eq b a ≡ false → nat_eq a b ≡ false
        flip a b q = turn (nat_eq a b) refl
          where
            turn : (c : Bool) → nat_eq a b ≡ c → c ≡ false
            turn false r = refl
            turn true r = absurd (let s : nat_eq b a ≡ true = subst (λ z. nat_eq z a ≡ true) (eqb-true a b r) (subst (λ z. nat_eq a z ≡ true) (sym (eqb-true a b r)) r) in cc)

module _ (e : Told) where
  abbrev Same : List Told → Type 0
  Same ts = (n w : ℕ) → end_of n w (ts ++ e ∷ []) ≡ end_of n w ts

  -- an entry that is no start and ends no order
  orders_same : (ts : List Told) → orders (e ∷ []) ≡ [] → ((us : List Told) → Same us) → orders (ts ++ e ∷ []) ≡ orders ts
  orders_same [] h k = h
  orders_same (told.started n w f t ∷ ts) h k =
      ap (λ x. ((n, (w, (f, t))), x) ∷ orders (ts ++ e ∷ [])) (k ts n w) ∙ ap (λ os. ((n, (w, (f, t))), end_of n w ts) ∷ os) (orders_same ts h k)
  orders_same (told.ended n ds cs how ∷ ts) h k = orders_same ts h k
  orders_same (told.lost w a ∷ ts) h k = orders_same ts h k
  orders_same (told.late n ∷ ts) h k = orders_same ts h k

orders_started : (ts : List Told) (n w f : ℕ) (t : TaskId)
    → orders (ts ++ told.started n w f t ∷ []) ≡ orders ts ++ ((n, (w, (f, t))), order.out) ∷ []
orders_started [] n w f t = refl
orders_started (told.started m v g u ∷ ts) n w f t =
    ap (λ x. ((m, (v, (g, u))), x) ∷ orders (ts ++ told.started n w f t ∷ []))
    (end_same m v ts (told.started n w f t) refl (either (nat_eq n m) order.out))
    ∙ ap (λ os. ((m, (v, (g, u))), end_of m v ts) ∷ os) (orders_started ts n w f t)
orders_started (told.ended m ds cs how ∷ ts) n w f t = orders_started ts n w f t
orders_started (told.lost v a ∷ ts) n w f t = orders_started ts n w f t
orders_started (told.late m ∷ ts) n w f t = orders_started ts n w f t

orders_lost : (ts : List Told) (w a : ℕ) → orders (ts ++ told.lost w a ∷ []) ≡ map (cut w) (orders ts)
orders_lost [] w a = refl
orders_lost (told.started m v g u ∷ ts) w a =
    ap (λ x. ((m, (v, (g, u))), x) ∷ orders (ts ++ told.lost w a ∷ [])) (end_lost m v ts w a)
    ∙ ap (λ os. cut w ((m, (v, (g, u))), end_of m v ts) ∷ os) (orders_lost ts w a)
orders_lost (told.ended m ds cs how ∷ ts) w a = orders_lost ts w a
orders_lost (told.lost v b ∷ ts) w a = orders_lost ts w a
orders_lost (told.late m ∷ ts) w a = orders_lost ts w a

orders_ended : (ts : List Told) (n : ℕ) (e : Told) (how : Outcome) → orders (e ∷ []) ≡ [] → ((w : ℕ) → cut_of w (e ∷ []) ≡ order.out)
    → ((m w : ℕ) → end_of m w (e ∷ []) ≡ cond (nat_eq n m) (order.ended how) order.out) → orders (ts ++ e ∷ []) ≡ closed n how (orders ts)
orders_ended [] n e how h k l = h
orders_ended (told.started m v g u ∷ ts) n e how h k l =
    ap (λ x. (s, x) ∷ orders (ts ++ e ∷ [])) (end_ended m v ts n e how (k v) (l m v))
    ∙ ap (λ os. (s, now (has_number m (orders ts)) (nat_eq n m)) ∷ os) (orders_ended ts n e how h k l)
    ∙ go (nat_eq n m) refl (has_number n (orders ts)) refl
  where
    s : Start
    s = (m, (v, (g, u)))

    was : Ending
    was = end_of m v ts

    now : Bool → Bool → Ending
    now anew is = cond anew was (cond is (ends (order.ended how) was) was)

    go : (is : Bool) → nat_eq n m ≡ is → (later : Bool) → has_number n (orders ts) ≡ later
        → (s, now (has_number m (orders ts)) is) ∷ closed n how (orders ts)
        ≡ cond later ((s, was) ∷ closed n how (orders ts)) (ends_if is (order.ended how) (s, was) ∷ orders ts)
    go true i true j =
        let same : has_number m (orders ts) ≡ true = ap (λ k. has_number k (orders ts)) (sym (eqb-true n m i)) ∙ j in
        ap (λ b. (s, now b true) ∷ closed n how (orders ts)) same
    go true i false j =
        let same : has_number m (orders ts) ≡ false = ap (λ k. has_number k (orders ts)) (sym (eqb-true n m i)) ∙ j in
        ap (λ b. (s, now b true) ∷ closed n how (orders ts)) same
        ∙ ap (λ os. (s, ends (order.ended how) was) ∷ os) (closed_none n how (orders ts) j)
    go false i true j = ap (λ x. (s, x) ∷ closed n how (orders ts)) (either (has_number m (orders ts)) was)
    go false i false j =
        ap (λ x. (s, x) ∷ closed n how (orders ts)) (either (has_number m (orders ts)) was)
        ∙ ap (λ os. (s, was) ∷ os) (closed_none n how (orders ts) j)
orders_ended (told.ended m ds cs by ∷ ts) n e how h k l = orders_ended ts n e how h k l
orders_ended (told.lost v b ∷ ts) n e how h k l = orders_ended ts n e how h k l
orders_ended (told.late m ∷ ts) n e how h k l = orders_ended ts n e how h k l

pub orders_push : (ts : List Told) (e : Told) → orders (ts ++ e ∷ []) ≡ after_told e (orders ts)
orders_push ts (told.started n w f t) = orders_started ts n w f t
orders_push ts (told.ended n ds cs how) = orders_ended ts n (told.ended n ds cs how) how refl (λ w. refl) (λ m w. refl)
orders_push ts (told.lost w a) = orders_lost ts w a
orders_push ts (told.late n) = orders_same (told.late n) ts refl (λ us m w. end_same m w us (told.late n) refl refl)
