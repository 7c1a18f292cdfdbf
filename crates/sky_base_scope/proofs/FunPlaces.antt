-- Functions are found at their places.
use Rattle.std.proofs.Common.{◌≡◌, ◌≤◌, ◌<◌, ℕ, zero, suc, ◌+◌, List, [], ◌∷◌, length, take, Bool, true, false, cond, is_some, Option, Some, None}
use Rattle.std.proofs.Common.{slice_get, get_or, refl, sym, ap, ◌∙◌, arith}
use Rattle.std.specs.BTreeMap.{BTreeMap, Updates}
use Rattle.std.specs.Ordering.{nat_cmp, is_eq, ordering_reverse}
use Rattle.std.specs.Cmp.Lexicographic.{slice_cmp}
use Rattle.std.specs.declared.cmp.Ordering.{Ordering}
use Rattle.std.proofs.lemmas.Cmp.{nat_list_cmp_total}
use Rattle.sky_base.proofs.Exact.{exact_text}
use Rattle.sky_base.specs.Val.{same_text}
use Rattle.sky_base.specs.Tree as logic
use Rattle.sky_base.specs.Eval.{find_fun, find_fun_if}
use Rattle.sky_base.specs.ScriptView.{fun_view, funs_view}
use Rattle.sky_base.specs.declared.script.FunDef.{FunDef}
use Rattle.sky_base_scope.specs.FunPlace.{place_if, fun_place, place_at, or_here}

-- ---- one more function

last_if : (b : Bool) (i : Option ℕ) (c : Bool) (n : ℕ) → place_if b (or_here i c n) ≡ or_here (place_if b i) c (suc n)
last_if true None true n = refl
last_if true None false n = refl
last_if true (Some i) c n = refl
last_if false None true n = refl
last_if false None false n = refl
last_if false (Some i) c n = refl

-- the place of a function among those up to one and this one
pub place_more : (x : List ℕ) (fs : List FunDef) (i : ℕ) (f : FunDef) → i < length fs → f ≡ get_or fs i f
    → fun_place x (funs_view (take (i + 1) fs)) ≡ or_here (fun_place x (funs_view (take i fs))) (same_text x f.name) i
place_more x [] i f h e = absurd (omega (arith, h))
place_more x (g ∷ fs) zero f h e = rw (← e) (first (same_text x f.name))
  where
    first : (b : Bool) → place_if b None ≡ or_here None b 0
    first true = refl
    first false = refl
place_more x (g ∷ fs) (suc i) f h e =
    let n : suc i + 1 ≡ suc (i + 1) = omega arith in
    rw n (ap (place_if (same_text x g.name)) (place_more x fs i f (omega (arith, h)) e)
    ∙ last_if (same_text x g.name) (fun_place x (funs_view (take i fs))) (same_text x f.name) i)

pub place_all : (x : List ℕ) (fs : List FunDef) (i : ℕ) → length fs ≤ i → fun_place x (funs_view (take i fs)) ≡ fun_place x (funs_view fs)
place_all x [] zero h = refl
place_all x [] (suc i) h = refl
place_all x (f ∷ fs) zero h = absurd (omega (arith, h))
place_all x (f ∷ fs) (suc i) h = ap (place_if (same_text x f.name)) (place_all x fs i (omega (arith, h)))

-- ---- what a place says

none_if : (b : Bool) (i : Option ℕ) (f : logic.FunDef) (r : Option logic.FunDef) → place_if b i ≡ None → (i ≡ None → r ≡ None)
    → find_fun_if b f r ≡ None
none_if true i f r e h = absurd cc
none_if false None f r e h = h refl
none_if false (Some i) f r e h = absurd cc

pub place_none : (x : List ℕ) (fs : List logic.FunDef) → fun_place x fs ≡ None → find_fun x fs ≡ None
place_none x [] e = refl
place_none x (f ∷ fs) e = none_if (same_text x f.name) (fun_place x fs) f (find_fun x fs) e (place_none x fs)

some_if : (b : Bool) (i : Option ℕ) (k : ℕ) (f : logic.FunDef) (fs : List logic.FunDef) (r : Option logic.FunDef) → place_if b i ≡ Some k
    → ((j : ℕ) → i ≡ Some j → r ≡ slice_get fs j) → find_fun_if b f r ≡ slice_get (f ∷ fs) k
some_if true i k f fs r e h = let q : 0 ≡ k = cc in rw (← q) refl
some_if false None k f fs r e h = absurd cc
some_if false (Some j) k f fs r e h = let q : suc j ≡ k = cc in rw (← q) (h j refl)

pub place_some : (x : List ℕ) (fs : List logic.FunDef) (k : ℕ) → fun_place x fs ≡ Some k → find_fun x fs ≡ slice_get fs k
place_some x [] k e = absurd cc
place_some x (f ∷ fs) k e =
    some_if (same_text x f.name) (fun_place x fs) k f fs (find_fun x fs) e (λ j q. place_some x fs j q)

within_if : (b : Bool) (i : Option ℕ) (k n : ℕ) → place_if b i ≡ Some k → ((j : ℕ) → i ≡ Some j → j < n) → k < suc n
within_if true i k n e h = let q : 0 ≡ k = cc in rw (← q) (omega arith)
within_if false None k n e h = absurd cc
within_if false (Some j) k n e h = let q : suc j ≡ k = cc in rw (← q) (omega (arith, h j refl))

pub place_within : (x : List ℕ) (fs : List logic.FunDef) (k : ℕ) → fun_place x fs ≡ Some k → k < length fs
place_within x [] k e = absurd cc
place_within x (f ∷ fs) k e =
    within_if (same_text x f.name) (fun_place x fs) k (length fs) e (λ j q. place_within x fs j q)

pub view_length : (fs : List FunDef) → length (funs_view fs) ≡ length fs
view_length [] = refl
view_length (f ∷ fs) = ap suc (view_length fs)

-- ---- a name more

same_flip : (x n : List ℕ) → is_eq (slice_cmp nat_cmp n x) ≡ same_text x n
same_flip x n = ap is_eq (nat_list_cmp_total.antisymm n x) ∙ reversed (slice_cmp nat_cmp x n)
  where
    reversed : (o : Ordering) → is_eq (ordering_reverse o) ≡ is_eq o
    reversed Ordering.Less = refl
    reversed Ordering.Equal = refl
    reversed Ordering.Greater = refl

added_if : (b : Bool) (o : Option ℕ) (i : ℕ) → (b ≡ true → o ≡ None) → cond b (Some i) o ≡ or_here o b i
added_if true o i h = rw (h refl) refl
added_if false None i h = refl
added_if false (Some j) i h = refl

there_if : (b : Bool) (o : Option ℕ) (i : ℕ) → (b ≡ true → is_some o ≡ true) → o ≡ or_here o b i
there_if b (Some j) i h = refl
there_if true None i h = let q : false ≡ true = h refl in absurd cc
there_if false None i h = refl

pub added : (old new : BTreeMap (List ℕ) ℕ) (n x : List ℕ) (i : ℕ) → Updates (slice_cmp nat_cmp) old new n (Some i)
    → is_some (place_at old.entries n) ≡ false → place_at new.entries x ≡ or_here (place_at old.entries x) (same_text x n) i
added old new n x i u h =
    u.0 x ∙ ap (λ b. cond b (Some i) (place_at old.entries x)) (same_flip x n)
    ∙ added_if (same_text x n) (place_at old.entries x) i
    (λ e. none (place_at old.entries x) (ap (λ z. is_some (place_at old.entries z)) (exact_text x n e) ∙ h))
  where
    none : (o : Option ℕ) → is_some o ≡ false → o ≡ None
    none None q = refl
    none (Some j) q = absurd cc

pub stands_there : (places : List (List ℕ × ℕ)) (n x : List ℕ) (i : ℕ) → is_some (place_at places n) ≡ true → place_at places x
    ≡ or_here (place_at places x) (same_text x n) i
stands_there places n x i h =
    there_if (same_text x n) (place_at places x) i (λ e. ap (λ z. is_some (place_at places z)) (exact_text x n e) ∙ h)

pub get_view : (fs : List FunDef) (k : ℕ) (f : FunDef) → k < length fs → f ≡ get_or fs k f → slice_get (funs_view fs) k ≡ Some (fun_view f)
get_view [] k f h e = absurd (omega (arith, h))
get_view (g ∷ fs) zero f h e = ap (λ z. Some (fun_view z)) (sym e)
get_view (g ∷ fs) (suc k) f h e = get_view fs k f (omega (arith, h)) e

pub found_within : (x : List ℕ) (fs : List FunDef) (k : ℕ) → fun_place x (funs_view fs) ≡ Some k → k < length fs
found_within x fs k e = omega (arith, place_within x (funs_view fs) k e, view_length fs)

pub found_at : (x : List ℕ) (fs : List FunDef) (k : ℕ) (f : FunDef) → fun_place x (funs_view fs) ≡ Some k → f ≡ get_or fs k f
    → find_fun x (funs_view fs) ≡ Some (fun_view f)
found_at x fs k f e q = place_some x (funs_view fs) k e ∙ get_view fs k f (found_within x fs k e) q

pub ruleset fun_places = (place_none)
