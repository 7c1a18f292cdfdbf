-- What stands at a number, and what a call runs.
use Rattle.std.proofs.Common.{◌≡◌, ◌≢◌, ◌<◌, ◌≤◌, ℕ, zero, suc, ◌+◌, List, [], ◌∷◌, ◌-◌, length, Bool, true, false, Option, Some, None, slice_get}
use Rattle.std.proofs.Common.{slice_index, slice_index_or, refl, sym, ap, ◌∙◌, subst, arith}
use Rattle.std.specs.List.Sorted.{IsNonDecreasing}
use Rattle.std.proofs.lemmas.List.Sorted.{IsNonDecreasingBy-from_all_adjacent}
use Rattle.sky_base.specs.Tree.{Exp, Stm, FunDef, Script, nodes, stm_nodes, block_nodes, funs_nodes, script_nodes}
use Rattle.sky_base.specs.Val.{same_text}
use Rattle.sky_base.specs.Eval.{Body, find_fun, find_fun_if, find_body, find_body_if, body_of}
use Rattle.sky_base_scope.specs.FunPlace.{place_if, fun_place}
use Rattle.sky_base_law.specs.Opened.{Node, exp_node, stm_node, block_node, HasExp, HasStm, HasStms, HasFuns}
use Rattle.sky_base_law.specs.Nodes.{pre_script, node_at}
use Rattle.sky_base_law.proofs.NodesLaw.{has_script, script_count}
use Rattle.sky_machine_code.specs.Numbers.{Holds, node_size, ends_from, ends_of, starts_from, starts_of}

end_from : (ts : List Node) (n i : ℕ) (t : Node) → slice_get ts i ≡ Some t → slice_index (ends_from ts n) i ≡ n + i + node_size t
end_from [] n i t e = absurd cc
end_from (x ∷ ts) n zero t e = let f : x ≡ t = cc in rw (← f) (omega arith)
end_from (x ∷ ts) n (suc i) t e = end_from ts (n + 1) i t e ∙ omega arith

-- the number after all that is in a node
pub end_at : (sc : Script) (n : ℕ) (t : Node) → node_at sc n ≡ Some t → slice_index (ends_of sc) n ≡ n + node_size t
end_at sc n t e = end_from (pre_script sc) 0 n t e ∙ omega arith

-- ---- bodies

none_if : (b : Bool) (i : Option ℕ) (f : FunDef) (n : ℕ) (r : Option Body) → place_if b i ≡ None → (i ≡ None → r ≡ None) → find_body_if b f n r ≡ None
none_if true i f n r e h = absurd cc
none_if false None f n r e h = h refl
none_if false (Some i) f n r e h = absurd cc

find_none : (x : List ℕ) (fs : List FunDef) (n : ℕ) → fun_place x fs ≡ None → find_body x fs n ≡ None
find_none x [] n e = refl
find_none x (f ∷ fs) n e =
    none_if (same_text x f.name) (fun_place x fs) f n (find_body x fs (n + block_nodes f.body)) e (find_none x fs (n + block_nodes f.body))

abbrev body_from : FunDef → List ℕ → ℕ → Option Body
body_from f ns k = Some (record { params = f.params; block = f.body; node = slice_index ns k })

some_if : (b : Bool) (i : Option ℕ) (k n : ℕ) (f g : FunDef) (fs : List FunDef) (o : Option FunDef) (r : Option Body) → place_if b i ≡ Some k
    → find_fun_if b f o ≡ Some g → ((j : ℕ) → i ≡ Some j → o ≡ Some g → r ≡ body_from g (starts_from fs (n + block_nodes f.body)) j)
    → find_body_if b f n r ≡ body_from g (starts_from (f ∷ fs) n) k
some_if true i k n f g fs o r e q h = let z : 0 ≡ k = cc in let y : f ≡ g = cc in rw (← z, ← y) refl
some_if false None k n f g fs o r e q h = absurd cc
some_if false (Some j) k n f g fs o r e q h = let z : suc j ≡ k = cc in rw (← z) (h j refl q)

find_some : (x : List ℕ) (fs : List FunDef) (n k : ℕ) (g : FunDef) → fun_place x fs ≡ Some k → find_fun x fs ≡ Some g → find_body x fs n
    ≡ body_from g (starts_from fs n) k
find_some x [] n k g e q = absurd cc
find_some x (f ∷ fs) n k g e q =
    some_if (same_text x f.name) (fun_place x fs) k n f g fs (find_fun x fs) (find_body x fs (n + block_nodes f.body)) e q
    (λ j i o. find_some x fs (n + block_nodes f.body) j g i o)

pub body_none : (x : List ℕ) (sc : Script) → x ≢ [] → fun_place x sc.funs ≡ None → body_of x sc ≡ None
body_none [] sc h e = absurd (h refl)
body_none (b ∷ bs) sc h e = find_none (b ∷ bs) sc.funs (block_nodes sc.main) e

pub body_some : (x : List ℕ) (sc : Script) (k : ℕ) (g : FunDef) → x ≢ [] → fun_place x sc.funs ≡ Some k → find_fun x sc.funs ≡ Some g
    → body_of x sc ≡ Some (record { params = g.params; block = g.body; node = slice_index (starts_of sc) k })
body_some [] sc k g h e q = absurd (h refl)
body_some (b ∷ bs) sc k g h e q = find_some (b ∷ bs) sc.funs (block_nodes sc.main) k g e q

-- ---- what stands at the number of an expression, and of a statement

module _ (at : ℕ → Option Node) where
  pub own_exp : (e : Exp) (n : ℕ) → HasExp at e n → at n ≡ Some (exp_node e)
  own_exp (Exp.literal l p) n h = h
  own_exp (Exp.name x p) n h = h
  own_exp (Exp.func x p) n h = h
  own_exp (Exp.parens e) n h = h.0
  own_exp (Exp.parts o p es) n h = h.0
  own_exp (Exp.chain e ls) n h = h.0
  own_exp (Exp.logic j e ls) n h = h.0
  own_exp (Exp.prefix ss e) n h = h.0
  own_exp (Exp.postfix e ss) n h = h.0

  pub own_stm : (a : Stm) (n : ℕ) → HasStm at a n → at n ≡ Some (stm_node a)
  own_stm (Stm.set x p e) n h = h.0
  own_stm (Stm.add x q p e) n h = h.0
  own_stm (Stm.put x q p i e) n h = h.0
  own_stm (Stm.return p e) n h = h.0
  own_stm (Stm.leave p) n h = h
  own_stm (Stm.cases p arms els) n h = h.0
  own_stm (Stm.while p e b) n h = h.0
  own_stm (Stm.repeat p b e) n h = h.0
  own_stm (Stm.for p x e b) n h = h.0
  own_stm (Stm.just p e) n h = h.0

-- ---- every node has at least itself in it

pub nodes_pos : (e : Exp) → 0 < nodes e
nodes_pos (Exp.literal l p) = omega arith
nodes_pos (Exp.name x p) = omega arith
nodes_pos (Exp.func x p) = omega arith
nodes_pos (Exp.parens e) = omega arith
nodes_pos (Exp.parts o p es) = omega arith
nodes_pos (Exp.chain e ls) = omega arith
nodes_pos (Exp.logic j e ls) = omega arith
nodes_pos (Exp.prefix ss e) = omega arith
nodes_pos (Exp.postfix e ss) = omega arith

pub stm_nodes_pos : (a : Stm) → 0 < stm_nodes a
stm_nodes_pos (Stm.set x p e) = omega arith
stm_nodes_pos (Stm.add x q p e) = omega arith
stm_nodes_pos (Stm.put x q p i e) = omega arith
stm_nodes_pos (Stm.return p e) = omega arith
stm_nodes_pos (Stm.leave p) = omega arith
stm_nodes_pos (Stm.cases p arms els) = omega arith
stm_nodes_pos (Stm.while p e b) = omega arith
stm_nodes_pos (Stm.repeat p b e) = omega arith
stm_nodes_pos (Stm.for p x e b) = omega arith
stm_nodes_pos (Stm.just p e) = omega arith

pub size_pos : (t : Node) → 0 < node_size t
size_pos (exp_node e) = nodes_pos e
size_pos (stm_node a) = stm_nodes_pos a
size_pos (block_node b) = omega arith

-- ---- the body that holds a node

ends_length : (ts : List Node) (n : ℕ) → length (ends_from ts n) ≡ length ts
ends_length [] n = refl
ends_length (t ∷ ts) n = ap suc (ends_length ts (n + 1))

get_past : {A : Type 0} (xs : List A) (i : ℕ) → length xs ≤ i → slice_get xs i ≡ None
get_past [] i h = refl
get_past (x ∷ xs) zero h = absurd (omega (arith, h))
get_past (x ∷ xs) (suc i) h = get_past xs i (omega (arith, h))

-- as many ends as nodes
pub ends_count : (sc : Script) → length (ends_of sc) ≡ script_nodes sc
ends_count sc = ends_length (pre_script sc) 0 ∙ script_count sc

pub no_node : (sc : Script) (i : ℕ) → length (ends_of sc) ≤ i → node_at sc i ≡ None
no_node sc i h = get_past (pre_script sc) i (omega (arith, h, ends_length (pre_script sc) 0))

in_list : {A : Type 0} (xs : List A) (i : ℕ) (x : A) → slice_get xs i ≡ Some x → i < length xs
in_list [] i x e = absurd cc
in_list (y ∷ xs) zero x e = omega arith
in_list (y ∷ xs) (suc i) x e = omega (arith, in_list xs i x e)

pub in_script : (sc : Script) (i : ℕ) (t : Node) → node_at sc i ≡ Some t → i < length (ends_of sc)
in_script sc i t e = omega (arith, in_list (pre_script sc) i t e, ends_length (pre_script sc) 0)

-- the main body's
pub main_end : (sc : Script) → slice_index (ends_of sc) 0 ≡ block_nodes sc.main
main_end sc = end_at sc 0 (block_node sc.main) (has_script sc).0.0 ∙ omega arith

pub main_holds : (sc : Script) (i : ℕ) → i < block_nodes sc.main → Holds sc sc.main 0 i
main_holds sc i h = ((has_script sc).0.0, (has_script sc).0.1, omega arith, omega (arith, h))

-- a function's
starts_rise : (fs : List FunDef) (n k d : ℕ) → k + 1 < length (starts_from fs n)
    → slice_index_or (starts_from fs n) k d ≤ slice_index_or (starts_from fs n) (k + 1) d
starts_rise [] n k d h = absurd (omega (arith, h))
starts_rise (f ∷ []) n k d h = absurd (omega (arith, h))
starts_rise (f ∷ g ∷ fs) n zero d h = omega arith
starts_rise (f ∷ g ∷ fs) n (suc k) d h =
    let e : suc k + 1 ≡ suc (k + 1) = omega arith in
    rw e (starts_rise (g ∷ fs) (n + block_nodes f.body) k d (omega (arith, h)))

pub starts_sorted : (sc : Script) → IsNonDecreasing (starts_of sc)
starts_sorted sc = IsNonDecreasingBy-from_all_adjacent (λ x. x) (starts_of sc) (starts_rise sc.funs (block_nodes sc.main))

pub starts_length : (fs : List FunDef) (n : ℕ) → length (starts_from fs n) ≡ length fs
starts_length [] n = refl
starts_length (f ∷ fs) n = ap suc (starts_length fs (n + block_nodes f.body))

-- between the start of a function's block and the next one
module _ (at : ℕ → Option Node) where
  pub fun_holds : (fs : List FunDef) (n i k : ℕ) (f : FunDef) → HasFuns at fs n → slice_get fs k ≡ Some f → slice_index (starts_from fs n) k ≤ i
      → (k + 1 < length fs → i < slice_index (starts_from fs n) (k + 1)) → i < n + funs_nodes fs
      → (at (slice_index (starts_from fs n) k) ≡ Some (block_node f.body)) × HasStms at f.body (slice_index (starts_from fs n) k + 1)
      × (i < slice_index (starts_from fs n) k + block_nodes f.body)
  fun_holds [] n i k f h e low high last = absurd cc
  fun_holds (g ∷ []) n i zero f h e low high last =
      let s : g ≡ f = cc in
      rw (← s) (h.0.0, h.0.1, omega (arith, last))
  fun_holds (g ∷ g' ∷ fs) n i zero f h e low high last =
      let s : g ≡ f = cc in
      rw (← s) (h.0.0, h.0.1, high (omega arith))
  fun_holds (g ∷ fs) n i (suc k) f h e low high last =
      let one : suc k + 1 ≡ suc (k + 1) = omega arith in
      fun_holds fs (n + block_nodes g.body) i k f h.1 e low
      (λ l. subst (λ m. i < slice_index (starts_from (g ∷ fs) n) m) one (high (omega (arith, l)))) (omega (arith, last))

-- so many starts are at most i, and the others are greater
module _ (sc : Script) (starts : List ℕ) (are : starts ≡ starts_of sc) (i r : ℕ) (lo : block_nodes sc.main ≤ i) (hi : i < length (ends_of sc))
    (others : (k : ℕ) → r ≤ k → k < length starts → i < slice_index starts k) where
  first_start : (fs : List FunDef) (n : ℕ) → n ≤ i → i < n + funs_nodes fs
      → ((k : ℕ) → r ≤ k → k < length (starts_from fs n) → i < slice_index (starts_from fs n) k) → 1 ≤ r
  first_start [] n from to h = absurd (omega (arith, from, to))
  first_start (f ∷ fs) n from to h = either r refl
    where
      either : (m : ℕ) → m ≡ r → 1 ≤ r
      either zero e = absurd (omega (arith, from, h 0 (omega (arith, e)) (omega arith)))
      either (suc m) e = omega (arith, e)

  more_starts : (k : ℕ) → r ≤ k → k < length (starts_of sc) → i < slice_index (starts_of sc) k
  more_starts = subst (λ xs. (k : ℕ) → r ≤ k → k < length xs → i < slice_index xs k) are others

  pub one_start : 1 ≤ r
  one_start = first_start sc.funs (block_nodes sc.main) lo (omega (arith, hi, ends_count sc)) more_starts

  pub start_within : r ≤ length starts → r - 1 < length sc.funs
  start_within most = omega (arith, most, one_start, ap length are, starts_length sc.funs (block_nodes sc.main))

  pub start_holds : ((k : ℕ) → k < r → slice_index starts k ≤ i) → (f : FunDef) (m : ℕ) → slice_get sc.funs (r - 1) ≡ Some f → m
      ≡ slice_index starts (r - 1) → Holds sc f.body m i
  start_holds first f m e is =
      let k = r - 1 in
      let here : m ≡ slice_index (starts_of sc) k = is ∙ ap (λ xs. slice_index xs k) are in
      let low : slice_index (starts_of sc) k ≤ i = subst (λ xs. slice_index xs k ≤ i) are (first k (omega (arith, one_start))) in
      let held = fun_holds (λ j. node_at sc j) sc.funs (block_nodes sc.main) i k f (has_script sc).1 e low
      (λ l. more_starts (k + 1) (omega arith) (omega (arith, l, starts_length sc.funs (block_nodes sc.main))))
      (omega (arith, hi, ends_count sc)) in
      subst (λ n. Holds sc f.body n i) (sym here) (held.0, held.1, low, held.2)
