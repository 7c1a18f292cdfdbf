-- Counts, bodies of functions, lists that grow, dictionaries by twos and numbers in a row.
use Rattle.std.proofs.Common.{◌≡◌, ℕ, zero, suc, ◌+◌, ◌<◌, ◌≤◌, List, [], ◌∷◌, length, drop, Bool, true, false, Option, Some, None, refl, sym, ap}
use Rattle.std.proofs.Common.{◌∙◌, arith, get_or, ℤ, pos, negsuc, ◌+ℤ◌, ◌-ℤ◌, ◌≤ℤ◌, ◌<ℤ◌, nat_lt}
use Rattle.std.proofs.lemmas.Int.{ints, to_z-of_z}
use Rattle.std.proofs.lemmas.Bool.{lt-ltb, le-ltb}
use Rattle.sky_base.specs.Val.{Val, Vals, Pairs, no_vals, val, no_pairs, pair, size, sizes, pair_sizes, count, pair_count, null, truth, num, text}
use Rattle.sky_base.specs.Val.{list, dict, fun, ref}
use Rattle.sky_base.specs.Op.{join, put, dict_from, span, numbers}
use Rattle.sky_base.specs.Val.{add_val, same_text, depths}
use Rattle.sky_base.specs.View.{view, vals_of, pairs_of}
use Rattle.sky_base.specs.declared.value.Value.{Value}
use Rattle.sky_base.specs.declared.value.Pair.{Pair}
use Rattle.sky_base.specs.Tree.{FunDef, Script, block_nodes}
use Rattle.sky_base.specs.Eval.{Body, find_fun, find_fun_if, find_body, find_body_if, body_of}
use Rattle.sky_base.specs.Kept.{Kept}
use Rattle.sky_base_scope.specs.RunView.{code_of}
use Rattle.sky_base_scope.specs.Plain.{items}

size_some : (v : Val (List ℕ)) → 1 ≤ size v
size_some null = omega arith
size_some (truth b) = omega arith
size_some (num z) = omega arith
size_some (text t) = omega arith
size_some (list vs) = omega arith
size_some (dict ps) = omega arith
size_some (fun f c) = omega arith
size_some (ref d) = omega arith

pub count_least : (vs : Vals (List ℕ)) → count vs ≤ sizes vs
count_least no_vals = omega arith
count_least (val v vs) = omega (arith, size_some v, count_least vs)

pub pair_count_least : (ps : Pairs (List ℕ)) → pair_count ps ≤ pair_sizes ps
pair_count_least no_pairs = omega arith
pair_count_least (pair k v ps) = omega (arith, size_some v, pair_count_least ps)

pub ruleset counts = (count_least, pair_count_least)

-- ---- bodies

pub body_found : (x : List ℕ) (fs : List FunDef) (i : ℕ) (d : FunDef) → find_fun x fs ≡ Some d → code_of (find_body x fs i) ≡ Some (d.params, d.body)
body_found x [] i d e = absurd cc
body_found x (f ∷ fs) i d e = found_if (same_text x f.name) f d i (find_fun x fs) (find_body x fs (i + block_nodes f.body)) e
    (body_found x fs (i + block_nodes f.body) d)
  where
    found_if : (b : Bool) (f d : FunDef) (i : ℕ) (r : Option FunDef) (q : Option Body) → find_fun_if b f r ≡ Some d
        → (r ≡ Some d → code_of q ≡ Some (d.params, d.body)) → code_of (find_body_if b f i q) ≡ Some (d.params, d.body)
    found_if true f d i r q e h = let g : f ≡ d = cc in rw (← g) refl
    found_if false f d i r q e h = h e

pub body_missing : (x : List ℕ) (fs : List FunDef) (i : ℕ) → find_fun x fs ≡ None → code_of (find_body x fs i) ≡ None
body_missing x [] i e = refl
body_missing x (f ∷ fs) i e = missing_if (same_text x f.name) f i (find_fun x fs) (find_body x fs (i + block_nodes f.body)) e
    (body_missing x fs (i + block_nodes f.body))
  where
    missing_if : (b : Bool) (f : FunDef) (i : ℕ) (r : Option FunDef) (q : Option Body) → find_fun_if b f r ≡ None → (r ≡ None → code_of q ≡ None)
        → code_of (find_body_if b f i q) ≡ None
    missing_if true f i r q e h = absurd cc
    missing_if false f i r q e h = h e

pub found_body : (x : List ℕ) (sc : Script) (d : FunDef) → (x ≡ [] → ⊥) → find_fun x sc.funs ≡ Some d → code_of (body_of x sc)
    ≡ Some (d.params, d.body)
found_body [] sc d n e = absurd (n refl)
found_body (b ∷ bs) sc d n e = body_found (b ∷ bs) sc.funs (block_nodes sc.main) d e

pub missing_body : (x : List ℕ) (sc : Script) → (x ≡ [] → ⊥) → find_fun x sc.funs ≡ None → code_of (body_of x sc) ≡ None
missing_body [] sc n e = absurd (n refl)
missing_body (b ∷ bs) sc n e = body_missing (b ∷ bs) sc.funs (block_nodes sc.main) e

pub main_body : (x : List ℕ) (sc : Script) → x ≡ [] → code_of (body_of x sc) ≡ Some ([], sc.main)
main_body x sc e = rw e refl

pub ruleset found_bodies = (found_body, missing_body, main_body)

-- ---- lists that grow

pub join_step : (vs ws : Vals (List ℕ)) (v : Val (List ℕ)) → join (add_val vs v) ws ≡ join vs (val v ws)
join_step no_vals ws v = refl
join_step (val u vs) ws v = ap (val u) (join_step vs ws v)

pub join_end : (vs : Vals (List ℕ)) → join vs no_vals ≡ vs
join_end no_vals = refl
join_end (val v vs) = ap (val v) (join_end vs)

pub pairs_end : (ps : List Pair) (i : ℕ) → length ps ≤ i → pairs_of (drop i ps) ≡ no_pairs
pairs_end [] zero h = refl
pairs_end [] (suc i) h = refl
pairs_end (p ∷ ps) zero h = absurd (omega arith)
pairs_end (p ∷ ps) (suc i) h = pairs_end ps i (omega arith)

pub ruleset joined = (join_step, join_end, pairs_end)

-- two parts of a dictionary
pub dict_two : (vs : List Value) (i : ℕ) (k : List ℕ) (x y : Value) (ps : Pairs (List ℕ)) → i + 1 < length vs → x ≡ get_or vs i x → y
    ≡ get_or vs (i + 1) y → view x ≡ text k → dict_from (items (vals_of (drop i vs))) ps
    ≡ dict_from (items (vals_of (drop (i + 2) vs))) (put k (view y) ps)
dict_two [] i k x y ps h a b t = absurd (omega arith)
dict_two (u ∷ []) zero k x y ps h a b t = absurd (omega arith)
dict_two (u ∷ w ∷ vs) zero k x y ps h a b t = rw (← a, ← b, t) refl
dict_two (u ∷ vs) (suc i) k x y ps h a b t = let n : suc i + 1 ≡ suc (i + 1) = omega arith in let m : suc i + 2 ≡ suc (i + 2) = omega arith in
    rw m (dict_two vs i k x y ps (omega arith) a (rw n at b) t)

pub ruleset twos = (dict_two, dict_two)

-- ---- numbers in a row

span_down : (d : ℤ) → pos 1 ≤ℤ d → span d ≡ suc (span (d -ℤ pos 1))
span_down (pos zero) h = absurd (omega (arith, ints))
span_down (pos (suc n)) h = let e : pos (suc n) -ℤ pos 1 ≡ pos n = omega (arith, ints) in rw e refl
span_down (negsuc n) h = absurd (omega (arith, ints))

span_none : (d : ℤ) → d ≤ℤ pos 0 → span d ≡ 0
span_none (pos zero) h = refl
span_none (pos (suc n)) h = absurd (omega (arith, ints))
span_none (negsuc n) h = refl

pub span_step : (a b : ℤ) → a <ℤ b → span (b -ℤ a) ≡ suc (span (b -ℤ (a +ℤ pos 1)))
span_step a b h = let e : b -ℤ (a +ℤ pos 1) ≡ b -ℤ a -ℤ pos 1 = omega (arith, ints) in rw e (span_down (b -ℤ a) (omega (arith, ints)))

pub span_end : (a b : ℤ) → b ≤ℤ a → span (b -ℤ a) ≡ 0
span_end a b h = span_none (b -ℤ a) (omega (arith, ints))

pub span_over : (d : ℤ) → pos 262143 <ℤ d → nat_lt 262143 (span d) ≡ true
span_over (pos n) h = lt-ltb 262143 n (omega (arith, ints))
span_over (negsuc n) h = absurd (omega (arith, ints))

pub span_under : (d : ℤ) → d ≤ℤ pos 262143 → nat_lt 262143 (span d) ≡ false
span_under (pos n) h = le-ltb 262143 n (omega (arith, ints))
span_under (negsuc n) h = refl

pub numbers_step : (vs : Vals (List ℕ)) (a b : ℤ) → a <ℤ b → join (add_val vs (num a)) (numbers (span (b -ℤ (a +ℤ pos 1))) (a +ℤ pos 1))
    ≡ join vs (numbers (span (b -ℤ a)) a)
numbers_step vs a b h =
    join_step vs (numbers (span (b -ℤ (a +ℤ pos 1))) (a +ℤ pos 1)) (num a) ∙ ap (λ n. join vs (numbers n a)) (sym (span_step a b h))

pub numbers_end : (vs : Vals (List ℕ)) (a b : ℤ) → b ≤ℤ a → join vs (numbers (span (b -ℤ a)) a) ≡ vs
numbers_end vs a b h = ap (λ n. join vs (numbers n a)) (span_end a b h) ∙ join_end vs

pub numbers_size : (n : ℕ) (a : ℤ) → sizes (numbers {N = List ℕ} n a) ≡ n
numbers_size zero a = refl
numbers_size (suc n) a = omega (arith, numbers_size n (a +ℤ pos 1))

pub numbers_depth : (n : ℕ) (a : ℤ) → depths (numbers {N = List ℕ} n a) ≤ 1
numbers_depth zero a = omega arith
numbers_depth (suc n) a = omega (arith, numbers_depth n (a +ℤ pos 1))

pub numbers_kept : (n : ℕ) (a : ℤ) → n ≤ 262143 → Kept {N = List ℕ} (list (numbers n a))
numbers_kept n a h = record { deep = omega (arith, numbers_depth n a); large = omega (arith, numbers_size n a) }

pub span_least : (d : ℤ) → d ≤ℤ pos 262143 → span d ≤ 262143
span_least (pos n) h = omega (arith, ints)
span_least (negsuc n) h = omega arith

pub ruleset spans = (span_over, span_under, span_least, numbers_kept)

pub ruleset rows_of_numbers = (numbers_step, numbers_end, span_step, to_z-of_z)
