-- Objects are found by the places of their names.
use Rattle.std.proofs.Common.{◌≡◌, ◌≤◌, ◌<◌, ℕ, zero, suc, ◌+◌, List, [], ◌∷◌, length, take, Bool, true, false, cond, is_some, Option, Some, None}
use Rattle.std.proofs.Common.{slice_get, get_or, option_map, map, refl, sym, ap, subst, ◌∙◌, arith}
use Rattle.std.specs.BTreeMap.{BTreeMap, Updates}
use Rattle.sky_base.specs.Names.{known_of}
use Rattle.sky_base.specs.NameOrder.{name_cmp}
use Rattle.sky_base.specs.ObjectView.{object_view}
use Rattle.sky_base.specs.Val.{known, same_text}
use Rattle.sky_base.specs.declared.object.Object.{Object}
use Rattle.sky_base.proofs.Exact.{exact_text}
use Rattle.sky_base.proofs.NameTests.{same_test}
use Rattle.sky_base_known.specs.Walk.{Obj}
use Rattle.sky_machine_show.specs.Given.{given_for, name_place, place_at, or_here}

-- ---- one more name

last_if : (b : Bool) (i : Option ℕ) (c : Bool) (n : ℕ) → cond b (Some 0) (option_map suc (or_here i c n))
    ≡ or_here (cond b (Some 0) (option_map suc i)) c (suc n)
last_if true None true n = refl
last_if true None false n = refl
last_if true (Some i) c n = refl
last_if false None true n = refl
last_if false None false n = refl
last_if false (Some i) c n = refl

-- the place of a name among those up to one and this one
pub place_more : (x : List ℕ) (ns : List (List ℕ)) (i : ℕ) (n : List ℕ) → i < length ns → n ≡ get_or ns i n → name_place x (take (i + 1) ns)
    ≡ or_here (name_place x (take i ns)) (same_text x n) i
place_more x [] i n h e = absurd (omega (arith, h))
place_more x (m ∷ ns) zero n h e = rw (← e) (first (same_text x n))
  where
    first : (b : Bool) → cond b (Some 0) None ≡ or_here None b 0
    first true = refl
    first false = refl
place_more x (m ∷ ns) (suc i) n h e =
    let next : suc i + 1 ≡ suc (i + 1) = omega arith in
    rw next (ap (λ p. cond (same_text x m) (Some 0) (option_map suc p)) (place_more x ns i n (omega (arith, h)) e)
    ∙ last_if (same_text x m) (name_place x (take i ns)) (same_text x n) i)

pub place_all : (x : List ℕ) (ns : List (List ℕ)) (i : ℕ) → length ns ≤ i → name_place x (take i ns) ≡ name_place x ns
place_all x [] zero h = refl
place_all x [] (suc i) h = refl
place_all x (n ∷ ns) zero h = absurd (omega (arith, h))
place_all x (n ∷ ns) (suc i) h =
    ap (λ p. cond (same_text x n) (Some 0) (option_map suc p)) (place_all x ns i (omega (arith, h)))

added_if : (b : Bool) (o : Option ℕ) (i : ℕ) → (b ≡ true → o ≡ None) → cond b (Some i) o ≡ or_here o b i
added_if true o i h = rw (h refl) refl
added_if false None i h = refl
added_if false (Some j) i h = refl

there_if : (b : Bool) (o : Option ℕ) (i : ℕ) → (b ≡ true → is_some o ≡ true) → o ≡ or_here o b i
there_if b (Some j) i h = refl
there_if true None i h = let q : false ≡ true = h refl in absurd cc
there_if false None i h = refl

pub added : (old new : BTreeMap (List ℕ) ℕ) (n x : List ℕ) (i : ℕ) → Updates name_cmp old new n (Some i) → is_some (place_at old n) ≡ false
    → place_at new x ≡ or_here (place_at old x) (same_text x n) i
added old new n x i u h =
    u.0 x ∙ ap (λ b. cond b (Some i) (place_at old x)) (same_test n x)
    ∙ added_if (same_text x n) (place_at old x) i (λ e. none (place_at old x) (ap (λ z. is_some (place_at old z)) (exact_text x n e) ∙ h))
  where
    none : (o : Option ℕ) → is_some o ≡ false → o ≡ None
    none None q = refl
    none (Some j) q = absurd cc

pub stands_there : (places : BTreeMap (List ℕ) ℕ) (n x : List ℕ) (i : ℕ) → is_some (place_at places n) ≡ true → place_at places x
    ≡ or_here (place_at places x) (same_text x n) i
stands_there places n x i h =
    there_if (same_text x n) (place_at places x) i (λ e. ap (λ z. is_some (place_at places z)) (exact_text x n e) ∙ h)

-- ---- the object at a place

none_if : (b : Bool) (p : Option ℕ) (o : Obj) (r : Option Obj) → cond b (Some 0) (option_map suc p) ≡ None → (p ≡ None → r ≡ None)
    → cond b (Some o) r ≡ None
none_if true p o r e h = absurd cc
none_if false None o r e h = h refl
none_if false (Some j) o r e h = absurd cc

pub given_none : (x : List ℕ) (ns : List (List ℕ)) (os : List Obj) → name_place x ns ≡ None → given_for (known_of ns) os (known x) ≡ None
given_none x [] os e = refl
given_none x (n ∷ ns) [] e = refl
given_none x (n ∷ ns) (o ∷ os) e =
    none_if (same_text x n) (name_place x ns) o (given_for (known_of ns) os (known x)) e (given_none x ns os)

some_if : (b : Bool) (p : Option ℕ) (k : ℕ) (o : Obj) (os : List Obj) (r : Option Obj) → cond b (Some 0) (option_map suc p) ≡ Some k
    → ((j : ℕ) → p ≡ Some j → r ≡ slice_get os j) → cond b (Some o) r ≡ slice_get (o ∷ os) k
some_if true p k o os r e h = let q : 0 ≡ k = cc in rw (← q) refl
some_if false None k o os r e h = absurd cc
some_if false (Some j) k o os r e h = let q : suc j ≡ k = cc in rw (← q) (h j refl)

pub given_some : (x : List ℕ) (ns : List (List ℕ)) (os : List Obj) (k : ℕ) → name_place x ns ≡ Some k → given_for (known_of ns) os (known x)
    ≡ slice_get os k
given_some x [] os k e = absurd cc
given_some x (n ∷ ns) [] k e = refl
given_some x (n ∷ ns) (o ∷ os) k e =
    some_if (same_text x n) (name_place x ns) k o os (given_for (known_of ns) os (known x)) e (λ j q. given_some x ns os j q)

pub object_at : (os : List Object) (k : ℕ) (o : Object) → k < length os → o ≡ get_or os k o → slice_get (map object_view os) k ≡ Some (object_view o)
object_at [] k o h e = absurd (omega (arith, h))
object_at (p ∷ os) zero o h e = ap (λ z. Some (object_view z)) (sym e)
object_at (p ∷ os) (suc k) o h e = object_at os k o (omega (arith, h)) e

pub none_at : (os : List Object) (k : ℕ) → length os ≤ k → slice_get (map object_view os) k ≡ None
none_at [] k h = refl
none_at (p ∷ os) zero h = absurd (omega (arith, h))
none_at (p ∷ os) (suc k) h = none_at os k (omega (arith, h))
