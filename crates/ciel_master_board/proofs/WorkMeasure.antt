-- What is left to do falls: with a loss less, with an order less that is stale, or with less to start and fewer orders.
use Rattle.std.proofs.Common.{◌≡◌, ℕ, zero, suc, ◌+◌, ◌*◌, ◌≤◌, ◌<◌, List, [], ◌∷◌, ◌++◌, length, Bool, true, false, not, cond, filter, nat_eq}
use Rattle.std.proofs.Common.{eq-eqb, slice_get, Some, refl, ap, sym, ◌∙◌, subst, arith}
use Rattle.std.specs.List.{list_any}
use Rattle.std.proofs.Math.Nat.{mul-le-mul_right}
use Rattle.ciel_journal.proofs.Booked.{any_join_last, any_join_left}
use Rattle.ciel_master_board.specs.Board.{Board}
use Rattle.ciel_master_board.specs.Left.{Slots, all_left, busy, enough, is_stale, losses_left, stale, work}
use Rattle.ciel_master_board.proofs.SlotCounts.{count_most}

-- ---- losses

-- a worker that is lost more keeps no loss that was gone
filter_fewer : (p q : ℕ × ℕ → Bool) → ((x : ℕ × ℕ) → q x ≡ true → p x ≡ true) → (xs : List (ℕ × ℕ)) → length (filter q xs) ≤ length (filter p xs)
filter_fewer p q h [] = omega arith
filter_fewer p q h (x ∷ xs) = pick (p x) (q x) refl refl (filter_fewer p q h xs)
  where
    pick : (a b : Bool) → p x ≡ a → q x ≡ b → length (filter q xs) ≤ length (filter p xs)
        → length (cond b (x ∷ filter q xs) (filter q xs)) ≤ length (cond a (x ∷ filter p xs) (filter p xs))
    pick true true e f l = omega (arith, l)
    pick true false e f l = omega (arith, l)
    pick false true e f l = let bad : true ≡ false = sym (h x f) ∙ e in cc
    pick false false e f l = l

filter_one : (p q : ℕ × ℕ → Bool) → ((x : ℕ × ℕ) → q x ≡ true → p x ≡ true) → (xs : List (ℕ × ℕ)) (i : ℕ) (y : ℕ × ℕ) → slice_get xs i ≡ Some y
    → p y ≡ true → q y ≡ false → length (filter q xs) < length (filter p xs)
filter_one p q h [] i y e a b = cc
filter_one p q h (x ∷ xs) zero y e a b =
    let s : x ≡ y = cc in
    pick (p x) (q x) (ap p s ∙ a) (ap q s ∙ b) (filter_fewer p q h xs)
  where
    pick : (c d : Bool) → c ≡ true → d ≡ false → length (filter q xs) ≤ length (filter p xs)
        → length (cond d (x ∷ filter q xs) (filter q xs)) < length (cond c (x ∷ filter p xs) (filter p xs))
    pick true false e f l = omega (arith, l)
    pick true true e f l = cc
    pick false d e f l = cc
filter_one p q h (x ∷ xs) (suc i) y e a b = pick (p x) (q x) refl refl (filter_one p q h xs i y e a b)
  where
    pick : (c d : Bool) → p x ≡ c → q x ≡ d → length (filter q xs) < length (filter p xs)
        → length (cond d (x ∷ filter q xs) (filter q xs)) < length (cond c (x ∷ filter p xs) (filter p xs))
    pick true true e f l = omega (arith, l)
    pick true false e f l = omega (arith, l)
    pick false true e f l = let bad : true ≡ false = sym (h x f) ∙ e in cc
    pick false false e f l = l

pub fewer_losses : (losses : List (ℕ × ℕ)) (gone : List ℕ) (loss count w : ℕ) → slice_get losses loss ≡ Some (count, w)
    → list_any (nat_eq w) gone ≡ false → losses_left losses (gone ++ w ∷ []) < losses_left losses gone
fewer_losses losses gone loss count w e n =
    filter_one (λ (x : ℕ × ℕ). not (list_any (nat_eq x.1) gone)) (λ (x : ℕ × ℕ). not (list_any (nat_eq x.1) (gone ++ w ∷ []))) stays losses loss
    (count, w) e (ap not n) (ap not (any_join_last (nat_eq w) gone w (eq-eqb w w refl)))
  where
    turn : (a b : Bool) → (a ≡ true → b ≡ true) → not b ≡ true → not a ≡ true
    turn true true h k = cc
    turn true false h k = let bad : false ≡ true = h refl in cc
    turn false b h k = refl

    stays : (x : ℕ × ℕ) → not (list_any (nat_eq x.1) (gone ++ w ∷ [])) ≡ true → not (list_any (nat_eq x.1) gone) ≡ true
    stays x k =
        turn (list_any (nat_eq x.1) gone) (list_any (nat_eq x.1) (gone ++ w ∷ [])) (any_join_left (nat_eq x.1) gone (w ∷ [])) k

-- ---- the number

module _ {P : Type 0} (at : P → ℕ) (most : ℕ) (b c : Board P) (slots then : Slots P) (long : length then ≡ length slots)
    (limit : c.table.limit ≡ b.table.limit) where
  abbrev big : Board P → Slots P → ℕ
  big d s = losses_left d.plan.losses d.table.gone * suc (length s) + stale at d.table.gone s

  abbrev small : Board P → Slots P → ℕ
  small d s = 2 * all_left most d + busy s

  same_enough : enough most c.table.limit (length then) ≡ enough most b.table.limit (length slots)
  same_enough = ap (λ n. enough most n (length then)) limit ∙ ap (enough most b.table.limit) long

  work_is : work at most c then ≡ big c then * enough most b.table.limit (length slots) + small c then
  work_is = ap (λ n. big c then * n + small c then) same_enough

  -- there is less to start and as many stale orders, or fewer
  pub work_small : big c then ≤ big b slots → small c then < small b slots → work at most c then < work at most b slots
  work_small l m =
      subst (λ n. n < work at most b slots) (sym work_is)
      (sums (big c then * enough most b.table.limit (length slots)) (big b slots * enough most b.table.limit (length slots)) (small c then)
      (small b slots) (mul-le-mul_right (enough most b.table.limit (length slots)) l) m)
    where
      sums : (x y t u : ℕ) → x ≤ y → t < u → x + t < y + u
      sums x y t u l m = omega (arith, l, m)

  -- there is a loss less, or a stale order
  pub work_big : big c then < big b slots → all_left most c ≤ suc c.table.limit * suc most → work at most c then < work at most b slots
  work_big l m =
      subst (λ n. n < work at most b slots) (sym work_is)
      (sums (big c then) (big b slots) (enough most b.table.limit (length slots)) (small c then) (small b slots) l within)
    where
      bound : (a k n s t e : ℕ) → a ≤ k → n ≤ t → t ≡ s → e ≡ suc (2 * k + s) → 2 * a + n < e
      bound a k n s t e l m p q = omega (arith, l, m, p, q)

      within : small c then < enough most b.table.limit (length slots)
      within =
          subst (λ e. small c then < e) same_enough
          (bound (all_left most c) (suc c.table.limit * suc most) (busy then) (length then) (length then)
          (enough most c.table.limit (length then)) m (count_most (λ x. true) then) refl refl)

      sums : (x y e t u : ℕ) → x < y → t < e → x * e + t < y * e + u
      sums x y e t u l m =
          let f : suc x * e ≤ y * e = mul-le-mul_right e l in
          let g : suc x * e ≡ e + x * e = omega arith in
          tail (suc x * e) (y * e) (x * e) e t u f g m
        where
          tail : (s y x e t u : ℕ) → s ≤ y → s ≡ e + x → t < e → x + t < y + u
          tail s y x e t u f g m = omega (arith, f, g, m)

  -- with a loss less however many orders are stale
  pub fewer_big : losses_left c.plan.losses c.table.gone < losses_left b.plan.losses b.table.gone → big c then < big b slots
  fewer_big l =
      sums (losses_left c.plan.losses c.table.gone) (losses_left b.plan.losses b.table.gone) (length slots) (length then)
      (stale at c.table.gone then) (stale at b.table.gone slots) l long (count_most (is_stale at c.table.gone) then)
    where
      sums : (x y n m t u : ℕ) → x < y → m ≡ n → t ≤ m → x * suc m + t < y * suc n + u
      sums x y n m t u l e k =
          let f : suc x * suc n ≤ y * suc n = mul-le-mul_right (suc n) l in
          let g : suc x * suc n ≡ suc n + x * suc n = omega arith in
          let h : x * suc m ≡ x * suc n = ap (λ z. x * suc z) e in
          tail (suc x * suc n) (y * suc n) (x * suc n) (x * suc m) n m t u f g h e k
        where
          tail : (s y x z n m t u : ℕ) → s ≤ y → s ≡ suc n + x → z ≡ x → m ≡ n → t ≤ m → z + t < y + u
          tail s y x z n m t u f g h e k = omega (arith, f, g, h, e, k)
