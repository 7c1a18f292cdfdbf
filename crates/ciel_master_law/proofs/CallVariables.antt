-- What a call's variables refer to at its start: what its function captured and its arguments refer to.
use Rattle.std.proofs.Common.{◌≡◌, ℕ, List, [], ◌∷◌, ◌++◌, length, Bool, true, false, ◌||◌, Some, ◌⊎◌, inl, inr, refl, ap, sym, ◌∙◌, subst, arith}
use Rattle.std.specs.Ordering.{is_eq, match_ordering, nat_cmp}
use Rattle.std.specs.Cmp.Lexicographic.{slice_cmp}
use Rattle.std.specs.declared.cmp.Ordering.{Ordering}
use Rattle.sky_base.specs.Eval.{bind, find_fun, find_fun_if, is_one_of}
use Rattle.sky_base.specs.Op.{put}
use Rattle.sky_base.specs.Tree.{FunDef}
use Rattle.sky_base.specs.Val.{Desc, Pairs, Val, Vals, count, no_pairs, no_vals, pair, pairs_refs, refs, same_text, val, vals_refs}
use Rattle.sky_base.proofs.Exact.{exact_text, self_text}
use Rattle.sky_parse_grammar.proofs.UsesLaw.{one_of}
use Rattle.sky_base_law.specs.Sound.{AllUsed}
use Rattle.ciel_journal.specs.Job.{In}
use Rattle.ciel_journal.proofs.Members.{bool_cases}
use Rattle.ciel_journal.proofs.Near.{in_join, in_right}
use Rattle.ciel_journal.proofs.Numbers.{in_left}
use Rattle.ciel_master_law.proofs.Binds.{AllApart, AllBind, Binds, NoneOf}

flip : (a b : List ℕ) → same_text a b ≡ false → same_text b a ≡ false
flip a b h = pick (bool_cases (same_text b a))
  where
    pick : ((same_text b a ≡ true) ⊎ (same_text b a ≡ false)) → same_text b a ≡ false
    pick (inr f) = f
    pick (inl t) = let z : same_text a b ≡ true = subst (λ x. same_text a x ≡ true) (sym (exact_text b a t)) (self_text a) in cc

-- not one of them: not the first, and none of the others
one_parts : (x k : List ℕ) (ks : List (List ℕ)) → is_one_of x (k ∷ ks) ≡ false → (same_text x k ≡ false) × (is_one_of x ks ≡ false)
one_parts x k ks h = pick (same_text x k) (is_one_of x ks) (sym (one_of x k ks) ∙ h)
  where
    pick : (b c : Bool) → b || c ≡ false → (b ≡ false) × (c ≡ false)
    pick true c e = cc
    pick false c e = (refl, e)

one_join : (x k : List ℕ) (ks : List (List ℕ)) → same_text x k ≡ false → is_one_of x ks ≡ false → is_one_of x (k ∷ ks) ≡ false
one_join x k ks f g = one_of x k ks ∙ (ap (λ b. b || is_one_of x ks) f ∙ g)

not_equal : (x l : List ℕ) → same_text x l ≡ false → slice_cmp nat_cmp x l ≡ Ordering.Equal → ⊥
not_equal x l f e = let bad : true ≡ false = sym (ap is_eq e) ∙ f in cc

-- what a function captured goes by names that it uses, which aren't parameters
key_apart : (xs us : List (List ℕ)) (k : List ℕ) → NoneOf xs us → is_one_of k us ≡ true → is_one_of k xs ≡ false
key_apart [] us k n t = refl
key_apart (x ∷ xs) us k n t = one_join k x xs (other (bool_cases (same_text k x))) (key_apart xs us k n.1 t)
  where
    other : ((same_text k x ≡ true) ⊎ (same_text k x ≡ false)) → same_text k x ≡ false
    other (inr f) = f
    other (inl e) =
        let bad : true ≡ false = sym t ∙ (ap (λ z. is_one_of z us) (exact_text k x e) ∙ n.0) in cc

module _ {N : Type 0} where
  -- no key of the pairs is one of these
  abbrev pub KeysApart : List (List ℕ) → Pairs N → Type 0
  KeysApart xs no_pairs = Unit {0}
  KeysApart xs (pair k v ps) = (is_one_of k xs ≡ false) × KeysApart xs ps

  abbrev NoKey : List ℕ → Pairs N → Type 0
  NoKey x no_pairs = Unit {0}
  NoKey x (pair k v ps) = (same_text x k ≡ false) × NoKey x ps

  fewer : (x : List ℕ) (xs : List (List ℕ)) (ps : Pairs N) → KeysApart (x ∷ xs) ps → NoKey x ps × KeysApart xs ps
  fewer x xs no_pairs h = (tt, tt)
  fewer x xs (pair k v ps) h =
      let q = one_parts k x xs h.0 in
      let r = fewer x xs ps h.1 in
      ((flip k x q.0, r.0), (q.1, r.1))

  -- a variable more
  put_from : (x : List ℕ) (v : Val N) (ps : Pairs N) (d : Desc N) → In d (pairs_refs (put x v ps)) → In d (refs v) ⊎ In d (pairs_refs ps)
  put_from x v no_pairs d i = in_join d (refs v) [] i
  put_from x v (pair l w ps) d i = pick (slice_cmp nat_cmp x l) i (put_from x v ps d)
    where
      right : (In d (refs v) ⊎ In d (pairs_refs ps)) → In d (refs v) ⊎ In d (refs w ++ pairs_refs ps)
      right (inl j) = inl j
      right (inr j) = inr (in_right d (refs w) (pairs_refs ps) j)

      instead : (In d (refs v) ⊎ In d (pairs_refs ps)) → In d (refs v) ⊎ In d (refs w ++ pairs_refs ps)
      instead (inl j) = inl j
      instead (inr j) = inr (in_right d (refs w) (pairs_refs ps) j)

      later : (In d (refs w) ⊎ In d (pairs_refs (put x v ps))) → (In d (pairs_refs (put x v ps)) → In d (refs v) ⊎ In d (pairs_refs ps))
          → In d (refs v) ⊎ In d (refs w ++ pairs_refs ps)
      later (inl j) r = inr (in_left d (refs w) (pairs_refs ps) j)
      later (inr j) r = right (r j)

      pick : (o : Ordering) → In d (pairs_refs (match_ordering o (pair x v (pair l w ps)) (pair l v ps) (pair l w (put x v ps))))
          → (In d (pairs_refs (put x v ps)) → In d (refs v) ⊎ In d (pairs_refs ps)) → In d (refs v) ⊎ In d (refs w ++ pairs_refs ps)
      pick Ordering.Less j r = in_join d (refs v) (refs w ++ pairs_refs ps) j
      pick Ordering.Equal j r = instead (in_join d (refs v) (pairs_refs ps) j)
      pick Ordering.Greater j r = later (in_join d (refs w) (pairs_refs (put x v ps)) j) r

  put_to : (x : List ℕ) (v : Val N) (ps : Pairs N) → NoKey x ps → (d : Desc N) → (In d (refs v) ⊎ In d (pairs_refs ps))
      → In d (pairs_refs (put x v ps))
  put_to x v no_pairs n d (inl i) = in_left d (refs v) [] i
  put_to x v no_pairs n d (inr i) = absurd i
  put_to x v (pair l w ps) n d i = pick (slice_cmp nat_cmp x l) refl i (put_to x v ps n.1 d)
    where
      pick : (o : Ordering) → slice_cmp nat_cmp x l ≡ o → (In d (refs v) ⊎ In d (refs w ++ pairs_refs ps))
          → ((In d (refs v) ⊎ In d (pairs_refs ps)) → In d (pairs_refs (put x v ps)))
          → In d (pairs_refs (match_ordering o (pair x v (pair l w ps)) (pair l v ps) (pair l w (put x v ps))))
      pick Ordering.Less e (inl j) r = in_left d (refs v) (refs w ++ pairs_refs ps) j
      pick Ordering.Less e (inr j) r = in_right d (refs v) (refs w ++ pairs_refs ps) j
      pick Ordering.Equal e j r = absurd (not_equal x l n.0 e)
      pick Ordering.Greater e (inl j) r = in_right d (refs w) (pairs_refs (put x v ps)) (r (inl j))
      pick Ordering.Greater e (inr j) r = turn (in_join d (refs w) (pairs_refs ps) j) r
        where
          turn : (In d (refs w) ⊎ In d (pairs_refs ps)) → ((In d (refs v) ⊎ In d (pairs_refs ps)) → In d (pairs_refs (put x v ps)))
              → In d (refs w ++ pairs_refs (put x v ps))
          turn (inl k) r = in_left d (refs w) (pairs_refs (put x v ps)) k
          turn (inr k) r = in_right d (refs w) (pairs_refs (put x v ps)) (r (inr k))

  put_apart : (xs : List (List ℕ)) (x : List ℕ) (v : Val N) (ps : Pairs N) → is_one_of x xs ≡ false → KeysApart xs ps → KeysApart xs (put x v ps)
  put_apart xs x v no_pairs n h = (n, tt)
  put_apart xs x v (pair l w ps) n h = pick (slice_cmp nat_cmp x l) (put_apart xs x v ps n h.1)
    where
      pick : (o : Ordering) → KeysApart xs (put x v ps)
          → KeysApart xs (match_ordering o (pair x v (pair l w ps)) (pair l v ps) (pair l w (put x v ps)))
      pick Ordering.Less r = (n, h)
      pick Ordering.Equal r = (h.0, h.1)
      pick Ordering.Greater r = (h.0, r)

  -- all parameters
  pub bound_from : (xs : List (List ℕ)) (vs : Vals N) (ps : Pairs N) (d : Desc N) → In d (pairs_refs (bind xs vs ps)) → In d (vals_refs vs)
      ⊎ In d (pairs_refs ps)
  bound_from [] vs ps d i = inr i
  bound_from (x ∷ xs) no_vals ps d i = inr i
  bound_from (x ∷ xs) (val v vs) ps d i = pick (bound_from xs vs (put x v ps) d i)
    where
      turn : (In d (refs v) ⊎ In d (pairs_refs ps)) → In d (refs v ++ vals_refs vs) ⊎ In d (pairs_refs ps)
      turn (inl j) = inl (in_left d (refs v) (vals_refs vs) j)
      turn (inr j) = inr j

      pick : (In d (vals_refs vs) ⊎ In d (pairs_refs (put x v ps))) → In d (refs v ++ vals_refs vs) ⊎ In d (pairs_refs ps)
      pick (inl j) = inl (in_right d (refs v) (vals_refs vs) j)
      pick (inr j) = turn (put_from x v ps d j)

  pub bound_to : (xs : List (List ℕ)) (vs : Vals N) (ps : Pairs N) → length xs ≡ count vs → AllApart xs → KeysApart xs ps → (d : Desc N)
      → (In d (vals_refs vs) ⊎ In d (pairs_refs ps)) → In d (pairs_refs (bind xs vs ps))
  bound_to [] no_vals ps l a k d (inl i) = absurd i
  bound_to [] no_vals ps l a k d (inr i) = i
  bound_to [] (val v vs) ps l a k d i = absurd (omega (arith, l))
  bound_to (x ∷ xs) no_vals ps l a k d i = absurd (omega (arith, l))
  bound_to (x ∷ xs) (val v vs) ps l a k d i =
      let f = fewer x xs ps k in
      pick i f.0 (bound_to xs vs (put x v ps) (omega (arith, l)) a.1 (put_apart xs x v ps a.0 f.1) d)
    where
      turn : (In d (refs v) ⊎ In d (vals_refs vs)) → NoKey x ps
          → ((In d (vals_refs vs) ⊎ In d (pairs_refs (put x v ps))) → In d (pairs_refs (bind xs vs (put x v ps))))
          → In d (pairs_refs (bind xs vs (put x v ps)))
      turn (inl j) n r = r (inr (put_to x v ps n d (inl j)))
      turn (inr j) n r = r (inl j)

      pick : (In d (refs v ++ vals_refs vs) ⊎ In d (pairs_refs ps)) → NoKey x ps
          → ((In d (vals_refs vs) ⊎ In d (pairs_refs (put x v ps))) → In d (pairs_refs (bind xs vs (put x v ps))))
          → In d (pairs_refs (bind xs vs (put x v ps)))
      pick (inl j) n r = turn (in_join d (refs v) (vals_refs vs) j) n r
      pick (inr j) n r = r (inr (put_to x v ps n d (inr j)))

  pub used_apart : (xs us : List (List ℕ)) (c : Pairs N) → NoneOf xs us → AllUsed us c → KeysApart xs c
  used_apart xs us no_pairs n u = tt
  used_apart xs us (pair k v ps) n u = (key_apart xs us k n u.0, used_apart xs us ps n u.1)

-- a function of the script binds its parameters
pub fun_binds : (x : List ℕ) (fs : List FunDef) (f : FunDef) → AllBind fs → find_fun x fs ≡ Some f → Binds f
fun_binds x [] f a e = cc
fun_binds x (g ∷ gs) f a e = pick (same_text x g.name) e (fun_binds x gs f a.1)
  where
    pick : (b : Bool) → find_fun_if b g (find_fun x gs) ≡ Some f → (find_fun x gs ≡ Some f → Binds f) → Binds f
    pick true h r = let q : g ≡ f = cc in subst Binds q a.0
    pick false h r = r h

-- no function has the empty name
pub none_empty : (fs : List FunDef) (f : FunDef) → AllBind fs → find_fun [] fs ≡ Some f → ⊥
none_empty [] f a e = cc
none_empty (g ∷ gs) f a e = pick (bool_cases (same_text [] g.name)) (none_empty gs f a.1)
  where
    pick : ((same_text [] g.name ≡ true) ⊎ (same_text [] g.name ≡ false)) → (find_fun [] gs ≡ Some f → ⊥) → ⊥
    pick (inl t) r = a.0.named (sym (exact_text [] g.name t))
    pick (inr n) r = r (sym (ap (λ b. find_fun_if b g (find_fun [] gs)) n) ∙ e)
