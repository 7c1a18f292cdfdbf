-- The names of what stands inside what can be spelled, and inside stacks, each once.
use Rattle.std.proofs.Common.{◌≡◌, ℕ, List, [], ◌∷◌, ◌++◌, true, false, ◌⊎◌, inl, inr, refl, ap, sym, subst}
use Rattle.std.specs.List.{AllByRecursion, IsDistinct}
use Rattle.sky_base.specs.Name.{held_name}
use Rattle.sky_base.specs.Names.{known_of}
use Rattle.sky_base.specs.ObjectView.{desc_view}
use Rattle.sky_base.specs.Read.{Frame}
use Rattle.sky_base.specs.Val.{Desc, Pairs, Val, Vals, dict, distinct, fun, known, list, no_pairs, no_vals, null, num, pair, pairs_refs, ref}
use Rattle.sky_base.specs.Val.{refs, same_text, text, truth, val, vals_refs}
use Rattle.sky_base.specs.View.{view}
use Rattle.sky_base.specs.declared.object.Desc1.{Desc1}
use Rattle.sky_base.proofs.Exact.{exact_text, self_text}
use Rattle.sky_base_law.specs.Tasks as t
use Rattle.sky_base_law.specs.Tasks.{Apart}
use Rattle.sky_base_law.proofs.TaskOutputs.{distinct_apart, distinct_in, in_distinct}
use Rattle.sky_state.specs.Pending.{all_refs, frames_refs, held_in, last_refs, pending_in, stack_refs, top_refs, waited_refs}
use Rattle.sky_state.specs.Stand.{Stand}
use Rattle.ciel_journal.specs.Job.{Digest, In}
use Rattle.ciel_journal.proofs.Members.{bool_cases}
use Rattle.ciel_name.specs.Laws.{SpelledDesc}
use Rattle.ciel_name.specs.Spelled.{AllSpelled, IsName, PairsSpelled, Spelled}
use Rattle.ciel_name.proofs.PrefixFreeBytes.{held_known}
use Rattle.ciel_master_board.specs.Waited.{names_of}
use Rattle.ciel_master_board.specs.Board.{start_refs}

each_join : {A : Type 0} (Q : A → Type 0) (xs ys : List A) → t.Each Q xs → t.Each Q ys → t.Each Q (xs ++ ys)
each_join Q [] ys a e = e
each_join Q (x ∷ xs) ys a e = (a.0, each_join Q xs ys a.1 e)

each_sub : {A : Type 0} (Q : A → Type 0) (xs : List A) → ((x : A) → t.In x xs → Q x) → t.Each Q xs
each_sub Q [] h = tt
each_sub Q (x ∷ xs) h = (h x (inl refl), each_sub Q xs (λ y i. h y (inr i)))

pub each_in : {A : Type 0} (Q : A → Type 0) (xs : List A) (x : A) → t.In x xs → t.Each Q xs → Q x
each_in Q [] x i e = absurd i
each_in Q (y ∷ ys) x (inl s) e = subst Q (sym s) e.0
each_in Q (y ∷ ys) x (inr i) e = each_in Q ys x i e.1

-- ---- what can be spelled refers to names

mutual
  refs_named : (v : Val (List ℕ)) → Spelled v → t.Each IsName (refs v)
  refs_named null s = tt
  refs_named (truth b) s = tt
  refs_named (num z) s = tt
  refs_named (text x) s = tt
  refs_named (list vs) s = vals_named vs s.0
  refs_named (dict ps) s = pairs_named ps s.0
  refs_named (fun f c) s = pairs_named c s.1.1
  refs_named (ref d) s = (s, tt)

  vals_named : (vs : Vals (List ℕ)) → AllSpelled vs → t.Each IsName (vals_refs vs)
  vals_named no_vals s = tt
  vals_named (val v vs) s = each_join IsName (refs v) (vals_refs vs) (refs_named v s.0) (vals_named vs s.1)

  pairs_named : (ps : Pairs (List ℕ)) → PairsSpelled ps → t.Each IsName (pairs_refs ps)
  pairs_named no_pairs s = tt
  pairs_named (pair k v ps) s = each_join IsName (refs v) (pairs_refs ps) (refs_named v s.1.0) (pairs_named ps s.1.1)

known_names : (ds : List (Desc (List ℕ))) → t.Each IsName ds → known_of (names_of ds) ≡ ds
known_names [] h = refl
known_names (d ∷ ds) h = λ i. sym (held_known d h.0) i ∷ known_names ds h.1 i

-- ---- names once

abbrev pub Once : List Digest → Type 0
Once [] = Unit {0}
Once (n ∷ ns) = (In n ns → ⊥) × Once ns

other_text : (n m : Digest) → (n ≡ m → ⊥) → same_text n m ≡ false
other_text n m h = go (bool_cases (same_text n m))
  where
    go : ((same_text n m ≡ true) ⊎ (same_text n m ≡ false)) → same_text n m ≡ false
    go (inl e) = absurd (h (exact_text n m e))
    go (inr e) = e

pub once_distinct : (ns : List Digest) → Once ns → IsDistinct same_text ns
unfolding IsDistinct
once_distinct [] o = tt
once_distinct (n ∷ ns) o = (all ns o.0, once_distinct ns o.1)
  where
    all : (ms : List Digest) → (In n ms → ⊥) → AllByRecursion (λ y. same_text n y ≡ false) ms
    all [] h = tt
    all (m ∷ ms) h = (other_text n m (λ e. h (inl e)), all ms (λ i. h (inr i)))

pub known_in : (n : Digest) (ns : List Digest) → In n ns → t.In (known n) (known_of ns)
known_in n [] i = absurd i
known_in n (m ∷ ns) (inl e) = inl (ap known e)
known_in n (m ∷ ns) (inr i) = inr (known_in n ns i)

pub in_known : (n : Digest) (ns : List Digest) → t.In (known n) (known_of ns) → In n ns
in_known n [] i = absurd i
in_known n (m ∷ ns) (inl e) = inl (ap held_name e)
in_known n (m ∷ ns) (inr i) = inr (in_known n ns i)

apart_once : (ns : List Digest) → Apart (known_of ns) → Once ns
apart_once [] a = tt
apart_once (n ∷ ns) a = (λ i. a.0 (known_in n ns i), apart_once ns a.1)

-- where the names are those of distinct descriptions
pub names_once : (ns : List Digest) (ds : List (Desc (List ℕ))) → known_of ns ≡ distinct same_text ds → Once ns
names_once ns ds e = apart_once ns (subst Apart (sym e) (distinct_apart same_text exact_text self_text ds))

distinct_named : (ds : List (Desc (List ℕ))) → t.Each IsName ds → Once (names_of (distinct same_text ds))
distinct_named ds h =
    names_once (names_of (distinct same_text ds)) ds (known_names (distinct same_text ds) (each_sub IsName (distinct same_text ds)
    (λ d i. each_in IsName ds d (distinct_in same_text exact_text self_text ds d i) h)))

-- what stands inside a description that can be spelled
pub start_once : (d : Desc1) → SpelledDesc (desc_view d) → Once (start_refs d)
start_once (Desc1.Call f c vs) s =
    distinct_named (pairs_refs c ++ vals_refs vs) (each_join IsName (pairs_refs c) (vals_refs vs) (pairs_named c s.1.0.1) (vals_named vs s.1.1.0))
start_once (Desc1.Exec x v n i) s = distinct_named (refs (view v)) (refs_named (view v) s.1.0)
start_once (Desc1.Input k) s = tt

-- the names of an executor's arguments, one by one
pub exec_named : (v : Val (List ℕ)) → Spelled v → (d : Desc (List ℕ)) → t.In d (refs v) → (n : Digest) × (d ≡ known n)
    × In n (names_of (distinct same_text (refs v)))
exec_named v s d i =
    let k : IsName d = each_in IsName (refs v) d i (refs_named v s) in
    let ds = distinct same_text (refs v) in
    let named : t.Each IsName ds =
    each_sub IsName ds (λ e j. each_in IsName (refs v) e (distinct_in same_text exact_text self_text (refs v) e j) (refs_named v s)) in (
      held_name d,
      held_known d k,
      in_known (held_name d) (names_of ds) (subst (t.In (known (held_name d))) (sym (known_names ds named))
          (subst (λ e. t.In e ds) (held_known d k) (in_distinct same_text exact_text self_text (refs v) d i))),
    )

-- ---- what a stack waits for it holds

in_front : {A : Type 0} (x : A) (xs ys : List A) → t.In x xs → t.In x (xs ++ ys)
in_front x [] ys i = absurd i
in_front x (z ∷ xs) ys (inl e) = inl e
in_front x (z ∷ xs) ys (inr i) = inr (in_front x xs ys i)

behind : {A : Type 0} (x : A) (xs ys : List A) → t.In x ys → t.In x (xs ++ ys)
behind x [] ys i = i
behind x (z ∷ xs) ys i = inr (behind x xs ys i)

last_all : (d : Desc (List ℕ)) (vs : List (Val (List ℕ))) → t.In d (last_refs vs) → t.In d (stack_refs vs)
last_all d [] i = i
last_all d (y ∷ []) i = in_front d (refs y) [] i
last_all d (y ∷ z ∷ vs) i = behind d (refs y) (stack_refs (z ∷ vs)) (last_all d (z ∷ vs) i)

top_all : (d : Desc (List ℕ)) (fs : List (Frame (List ℕ))) → t.In d (top_refs fs) → t.In d (frames_refs fs)
top_all d [] i = i
top_all d (f ∷ []) i =
    in_front d (pairs_refs f.vars ++ stack_refs f.stack) [] (behind d (pairs_refs f.vars) (stack_refs f.stack) (last_all d f.stack i))
top_all d (f ∷ g ∷ fs) i = behind d (pairs_refs f.vars ++ stack_refs f.stack) (frames_refs (g ∷ fs)) (top_all d (g ∷ fs) i)

waited_all : (d : Desc (List ℕ)) (s : Stand (List ℕ)) → t.In d (waited_refs s) → t.In d (all_refs s)
waited_all d (Stand.run q) i = top_all d q.frames i
waited_all d (Stand.show_at u k) i = i

pub waited_held : (s : Stand (List ℕ)) (ws hs : List Digest) → known_of ws ≡ pending_in same_text s → known_of hs ≡ held_in same_text s
    → (n : Digest) → In n ws → In n hs
waited_held s ws hs e f n i =
    in_known n hs (subst (t.In (known n)) (sym f) (in_distinct same_text exact_text self_text (all_refs s) (known n) (waited_all (known n) s
    (distinct_in same_text exact_text self_text (waited_refs s) (known n) (subst (t.In (known n)) e (known_in n ws i))))))

-- each description that a stack waits for is one of those names
pub waited_named : (s : Stand (List ℕ)) (ws : List Digest) → known_of ws ≡ pending_in same_text s → (d : Desc (List ℕ)) → t.In d (pending_in same_text s)
    → (n : Digest) × (d ≡ known n) × In n ws
waited_named s ws e d i = go ws (subst (t.In d) (sym e) i)
  where
    go : (ns : List Digest) → t.In d (known_of ns) → (n : Digest) × (d ≡ known n) × In n ns
    go [] i = absurd i
    go (n ∷ ns) (inl q) = (n, q, inl refl)
    go (n ∷ ns) (inr i) = let r = go ns i in (r.0, r.1, inr r.2)

-- and each that it refers to is one that it holds
pub held_named : (s : Stand (List ℕ)) (hs : List Digest) → known_of hs ≡ held_in same_text s → (d : Desc (List ℕ)) → t.In d (all_refs s)
    → In (held_name d) hs
held_named s hs e d i = go hs (subst (t.In d) (sym e) (in_distinct same_text exact_text self_text (all_refs s) d i))
  where
    go : (ns : List Digest) → t.In d (known_of ns) → In (held_name d) ns
    go [] i = absurd i
    go (n ∷ ns) (inl q) = inl (ap held_name q)
    go (n ∷ ns) (inr i) = inr (go ns i)
