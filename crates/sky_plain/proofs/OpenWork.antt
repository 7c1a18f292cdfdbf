-- The open work: what stays true of it, and that it comes to an end.
use Rattle.std.proofs.Common.{◌≡◌, ◌≤◌, ◌<◌, ℕ, suc, ◌+◌, ◌-◌, ◌*◌, List, [], ◌∷◌, ◌++◌, length, Bool, true, false, Option, Some, None, slice_get}
use Rattle.std.proofs.Common.{◌⊎◌, inl, inr, refl, sym, ap, subst, ◌∙◌, arith}
use Rattle.std.proofs.lemmas.List.{append_assoc, append-nil}
use Rattle.sky_base.specs.See.{Desc, Job, Around}
use Rattle.sky_base_law.specs.Tasks.{Apart}
use Rattle.sky_base_law.proofs.SoundOps.{caught_kept}
use Rattle.sky_base.specs.Val.{call, out}
use Rattle.sky_base_known.specs.Walk.{Obj}
use Rattle.sky_base_known.specs.Walk.{Row, object_at, is_known, most_rows}
use Rattle.sky_base_known.specs.Known.{with_object}
use Rattle.sky_plain.specs.Needs.{Chain}
use Rattle.sky_plain_body.specs.Ran.{Begins}
use Rattle.sky_plain.specs.Stand.{Opened, Opens, Standing}
use Rattle.sky_base_known.proofs.Learn.{most_is}
use Rattle.sky_base_known.proofs.Numbers.{got_below, got_in, got_more}
use Rattle.sky_plain.proofs.Chains.{opened_at}
use Rattle.sky_plain.proofs.Many.{itself}
use Rattle.sky_plain.specs.Settle.{ArgsKept, CallsKept, count, height, rank, most_open, Stays, Open}
use Rattle.sky_base_exec.specs.Outputs.{Keeps}
use Rattle.sky_base_exec.proofs.Withs.{nat_same, length_with, with_here, with_there, known_some}
use Rattle.sky_plain.proofs.Counts.{count_most, count_less}
use Rattle.sky_plain.proofs.Steps.{opens_grow, opens_rest, opens_chain}

pub begins_self : (rows : List Row) → Begins rows rows
begins_self rows = ([], sym (append-nil rows))

pub begins_over : (a b c : List Row) → Begins a b → Begins b c → Begins a c
begins_over a b c (x, e) (y, f) = (x ++ y, f ∙ ap (λ z. z ++ y) e ∙ append_assoc a x y)

pub stays_self : (os : List (Option Obj)) → Stays os os
stays_self os k e = e

pub stays_over : (a b c : List (Option Obj)) → Stays a b → Stays b c → Stays a c
stays_over a b c f g k e = g k (f k e)

pub stays_with : (k : ℕ) (o : Obj) (os : List (Option Obj)) → Stays os (with_object k o os)
stays_with k o os i e = go (nat_same i k)
  where
    go : (i ≡ k) ⊎ (i ≡ k → ⊥) → is_known (object_at (with_object k o os) i) ≡ true
    go (inl q) = ap (λ j. is_known (object_at (with_object k o os) j)) q ∙ ap is_known (with_here k o os)
    go (inr n) = ap is_known (with_there k i o os n) ∙ e

-- what is kept as it was stays known
pub stays_keeps : (a b : List (Option Obj)) → Keeps a b → Stays a b
stays_keeps a b keeps k e = go (known_some (object_at a k) e)
  where
    go : (o : Obj) × (object_at a k ≡ Some o) → is_known (object_at b k) ≡ true
    go (o, q) = ap is_known (keeps k o q)

-- one more object
module _ (k : ℕ) (o : Obj) (os after : List (Option Obj)) (is : after ≡ with_object k o os) where
  pub known_with : is_known (object_at after k) ≡ true
  known_with = ap (λ z. is_known (object_at z k)) is ∙ ap is_known (with_here k o os)

  pub stays_put : Stays os after
  stays_put = subst (Stays os) (sym is) (stays_with k o os)

  pub small_with : (rows : List Row) → k < length rows → length rows ≤ most_rows → length os ≤ 65536 → length after ≤ 65536
  small_with rows below room small =
      let l : length rows ≤ 65536 = subst (λ m. length rows ≤ m) most_is room in
      subst (λ z. length z ≤ 65536) (sym is) (length_with k 65536 o os (omega (arith, below, l)) small)

-- what is held is held later
pub held_more : (rows after : List Row) (k : ℕ) (d : Row) → Begins rows after → slice_get rows k ≡ Some d → k < length after
held_more rows after k d (more, e) at = got_below after k d (subst (λ z. slice_get z k ≡ Some d) (sym e) (got_more rows more k d at))

-- ---- the measure

unknown_is : (x : Option Obj) → is_known x ≡ false → x ≡ None
unknown_is None e = refl
unknown_is (Some o) e = absurd cc

height_most : (b : Bool) (n : ℕ) → n ≤ 4096 → height b n ≤ n + 4097
height_most true n h = omega arith
height_most false n h = omega arith

-- what is known is taken from the open work
pub pop_falls : (objects : List (Option Obj)) (k : ℕ) (ks : List ℕ) → is_known (object_at objects k) ≡ true → rank objects ks < rank objects (k ∷ ks)
pop_falls objects k [] e =
    let h : height (is_known (object_at objects k)) 1 ≡ 4098 = ap (λ b. height b 1) e in
    omega (arith, h)
pop_falls objects k (l ∷ ks) e =
    let h : height (is_known (object_at objects k)) (suc (suc (length ks))) ≡ suc (suc (length ks)) + 4097 =
    ap (λ b. height b (suc (suc (length ks)))) e in
    rest (is_known (object_at objects l)) h
  where
    C : ℕ
    C = (65536 - count objects) * 8194

    rest : (b : Bool) → height (is_known (object_at objects k)) (suc (suc (length ks))) ≡ suc (suc (length ks)) + 4097
        → (65536 - count objects) * 8194 + height b (suc (length ks)) < (65536 - count objects) * 8194 + height (is_known (object_at objects k))
        (suc (suc (length ks)))
    rest true h = omega (arith, h)
    rest false h = omega (arith, h)

-- what becomes known
pub known_falls : (objects after : List (Option Obj)) (k : ℕ) (ks : List ℕ) → Stays objects after → is_known (object_at after k) ≡ true
    → length after ≤ 65536 → suc (length ks) ≤ 4096 → is_known (object_at objects k) ≡ false → rank after (k ∷ ks) < rank objects (k ∷ ks)
known_falls objects after k ks stays has small le e =
    let more : count objects < count after = count_less k objects after stays (unknown_is (object_at objects k) e) has in
    let most : count after ≤ length after = count_most after in
    let high : height (is_known (object_at after k)) (suc (length ks)) ≤ suc (length ks) + 4097 =
    height_most (is_known (object_at after k)) (suc (length ks)) le in
    omega (arith, more, most, high, small, le)

-- one more is open
pub push_falls : (objects : List (Option Obj)) (j k : ℕ) (ks : List ℕ) → suc (length ks) < 4096 → is_known (object_at objects j) ≡ false
    → is_known (object_at objects k) ≡ false → rank objects (j ∷ k ∷ ks) < rank objects (k ∷ ks)
push_falls objects j k ks le e f =
    let a : height (is_known (object_at objects j)) (suc (suc (length ks))) ≡ 4096 - suc (suc (length ks)) =
    ap (λ b. height b (suc (suc (length ks)))) e in
    let b : height (is_known (object_at objects k)) (suc (length ks)) ≡ 4096 - suc (length ks) = ap (λ b. height b (suc (length ks))) f in
    omega (arith, a, b, le)

-- ---- what stays true

module _ (job : Job) (around : Around) where
  pub open_popped : (rows : List Row) (objects : List (Option Obj)) (first k : ℕ) (ks : List ℕ) → is_known (object_at objects k) ≡ true
      → Open job around rows objects first (k ∷ ks) → Open job around rows objects first ks
  open_popped rows objects first k [] e (opens, bottom) = ap (λ i. is_known (object_at objects i)) (sym bottom) ∙ e
  open_popped rows objects first k (l ∷ ks) e (opens, bottom) = (opens_rest job around rows k l ks opens, bottom)

  pub open_known : (rows after : List Row) (objects objects' : List (Option Obj)) (first k : ℕ) (ks : List ℕ) → Begins rows after
      → Open job around rows objects first (k ∷ ks) → Open job around after objects' first (k ∷ ks)
  open_known rows after objects objects' first k ks (more, e) (opens, bottom) =
      (opens_grow job around rows more after (k ∷ ks) e opens, bottom)

  pub open_more : (rows after : List Row) (objects objects' : List (Option Obj)) (first j k : ℕ) (ks : List ℕ)
      → Opens job around after (j ∷ k ∷ ks) → Open job around rows objects first (k ∷ ks) → Open job around after objects' first (j ∷ k ∷ ks)
  open_more rows after objects objects' first j k ks opens (old, bottom) = (opens, bottom)

  -- what is open is held
  pub open_held : (rows : List Row) (objects : List (Option Obj)) (first k : ℕ) (ks : List ℕ) → Apart rows → length rows ≤ most_rows
      → Open job around rows objects first (k ∷ ks) → k < length rows
  open_held rows objects first k ks apart room (opens, bottom) = go (opens rows (itself job around rows apart room))
    where
      go : (d : Desc) × Opened job around rows (k ∷ ks) d → k < length rows
      go (d, od) = got_below rows k _ (opened_at job around rows k ks d od)

  pub args_kept : (rows : List Row) (objects : List (Option Obj)) → Standing job around rows objects → ArgsKept rows
  args_kept rows objects standing k x v n i e = (standing.fits.rows_fit (out x v n i) (got_in rows k (out x v n i) e)).1

  pub calls_kept : (rows : List Row) (objects : List (Option Obj)) → Standing job around rows objects → CallsKept rows
  calls_kept rows objects standing k f c vs e =
      let fit = standing.fits.rows_fit (call f c vs) (got_in rows k (call f c vs) e) in
      (fit.0, caught_kept f c fit.1)

  -- 4,096 descriptions are open
  pub open_deep : (rows : List Row) (objects : List (Option Obj)) (first k : ℕ) (ks : List ℕ) → Apart rows → length rows ≤ most_rows
      → length (k ∷ ks) ≡ most_open → Open job around rows objects first (k ∷ ks) → (d : Desc) × Chain job around most_open d
  open_deep rows objects first k ks apart room le (opens, bottom) =
      subst (λ n. (d : Desc) × Chain job around n d) le (opens_chain job around rows (k ∷ ks) apart room opens)

pub most_open_is : most_open ≡ 4096
unfolding most_open
most_open_is = refl

pub ruleset work = (begins_self, stays_self)
