-- The outputs of an executor's task are spawned together.
use Rattle.std.proofs.Common.{◌≡◌, ◌≤◌, ◌<◌, ◌+◌, ◌++◌, ℕ, zero, suc, List, [], ◌∷◌, map, append_assoc, append-nil, refl, sym, ap, ◌∙◌, subst, arith}
use Rattle.std.proofs.Common.{◌⊎◌, inl, inr}
use Rattle.std.proofs.lemmas.List.{map-append}
use Rattle.sky_base.specs.Val.{Desc, Val, call, out, input, known}
use Rattle.sky_base.specs.Tree.{Script, nowhere}
use Rattle.sky_base.specs.Res.{Object, Res, End, St, Fin, Tell, Ask, bodies, others, visits}
use Rattle.sky_base.specs.Eval.{World, body_at, outputs, wait_end}
use Rattle.sky_base.specs.Read.{Run, segment}
use Rattle.sky_base.specs.See.{start_st}
use Rattle.sky_base_law.specs.Tasks.{In, IsBatch, Lone}
use Rattle.sky_base_law.proofs.CountLaw.{Climbs, climbs_call}
use Rattle.sky_base_law.proofs.FormsLaw.{Late, Within}
use Rattle.sky_machine.proofs.Climb.{plug_climbs}
use Rattle.sky_state.specs.Fits.{Fits, FitsRun}
use Rattle.sky_state.specs.Stand.{Stand}
use Rattle.sky_machine.specs.Comes.{over_names, with_name}
use Rattle.sky_machine.specs.Exactly.{MakesExactly}
use Rattle.sky_machine.specs.Rest.{IsRest, IsWhole, IsLeft}
use Rattle.sky_machine.specs.Steps.{Spawned}
use Rattle.sky_machine.proofs.Rests.{has_rest}
use Rattle.sky_machine_through.specs.Found.{GrewWhole, HasAllOutputs}
use Rattle.sky_machine_through.proofs.KnownNames.{in_parts}

-- ---- lists

in_front : {A : Type 0} (d : A) (xs ys : List A) → In d xs → In d (xs ++ ys)
in_front d [] ys i = absurd i
in_front d (x ∷ xs) ys (inl e) = inl e
in_front d (x ∷ xs) ys (inr i) = inr (in_front d xs ys i)

behind : {A : Type 0} (d : A) (xs ys : List A) → In d ys → In d (xs ++ ys)
behind d [] ys i = i
behind d (x ∷ xs) ys i = inr (behind d xs ys i)

pub whole_nothing : HasAllOutputs []
whole_nothing x a n i h k l = h

pub whole_append : (xs ys : List (Desc (List ℕ))) → HasAllOutputs xs → HasAllOutputs ys → HasAllOutputs (xs ++ ys)
whole_append xs ys f g x a n i h k l = go (in_parts xs ys (out x a n i) h)
  where
    go : In (out x a n i) xs ⊎ In (out x a n i) ys → In (out x a n k) (xs ++ ys)
    go (inl j) = in_front (out x a n k) xs ys (f x a n i j k l)
    go (inr j) = behind (out x a n k) xs ys (g x a n i j k l)

-- ---- batches

out_name : (x y : List ℕ) (a b : Val (List ℕ)) (n m i j : ℕ) → out x a n i ≡ out y b m j → (x ≡ y) × (a ≡ b) × (n ≡ m)
out_name x y a b n m i j e = (cc, cc, cc)

outputs_are : (x y : List ℕ) (a b : Val (List ℕ)) (n m i j c : ℕ) → In (out x a n i) (outputs y b m j c) → (x ≡ y) × (a ≡ b) × (n ≡ m)
outputs_are x y a b n m i j zero h = absurd h
outputs_are x y a b n m i j (suc c) (inl e) = out_name x y a b n m i j e
outputs_are x y a b n m i j (suc c) (inr h) = outputs_are x y a b n m i (suc j) c h

below_or : (j k : ℕ) → j ≤ k → (k ≡ j) ⊎ (suc j ≤ k)
below_or zero zero l = inl refl
below_or zero (suc k) l = inr (omega arith)
below_or (suc j) zero l = absurd (omega (arith, l))
below_or (suc j) (suc k) l = up (below_or j k (omega (arith, l)))
  where
    up : (k ≡ j) ⊎ (suc j ≤ k) → (suc k ≡ suc j) ⊎ (suc (suc j) ≤ suc k)
    up (inl e) = inl (ap suc e)
    up (inr h) = inr (omega (arith, h))

outputs_have : (y : List ℕ) (b : Val (List ℕ)) (m j c k : ℕ) → j ≤ k → k < j + c → In (out y b m k) (outputs y b m j c)
outputs_have y b m j zero k l h = absurd (omega (arith, l, h))
outputs_have y b m j (suc c) k l h = go (below_or j k l) (λ q. outputs_have y b m (suc j) c k q (omega (arith, h)))
  where
    go : (k ≡ j) ⊎ (suc j ≤ k) → (suc j ≤ k → In (out y b m k) (outputs y b m (suc j) c)) → In (out y b m k) (outputs y b m j (suc c))
    go (inl e) later = inl (ap (out y b m) e)
    go (inr q) later = inr (later q)

not_lone : (d : Desc (List ℕ)) (x : List ℕ) (a : Val (List ℕ)) (n i : ℕ) → Lone d → out x a n i ≡ d → ⊥
not_lone (call f c vs) x a n i h e = absurd cc
not_lone (out y b m j) x a n i h e = h
not_lone (input k) x a n i h e = absurd cc
not_lone (known b) x a n i h e = h

batch_whole : (ds : List (Desc (List ℕ))) → IsBatch ds → HasAllOutputs ds
batch_whole ds (inl (d, lone, is)) x a n i h k l = go (subst (In (out x a n i)) is h)
  where
    go : In (out x a n i) (d ∷ []) → In (out x a n k) ds
    go (inl e) = absurd (not_lone d x a n i lone e)
    go (inr j) = absurd j
batch_whole ds (inr (y, b, m, is)) x a n i h k l =
    let same = outputs_are x y a b n m i 0 m (subst (In (out x a n i)) is h) in
    subst (In (out x a n k)) (sym is) (subst (λ z. In (out z a n k) (outputs y b m 0 m)) (sym same.0)
    (subst (λ z. In (out y z n k) (outputs y b m 0 m)) (sym same.1)
    (subst (λ z. In (out y b z k) (outputs y b m 0 m)) (sym same.2) (outputs_have y b m 0 m k (omega arith) (omega (arith, same.2, l))))))

-- ---- what a run makes up to its first wait

module _ (w : World (List ℕ)) where
  segment_whole : (r : Res (List ℕ)) (b : ℕ) (xs : List (Desc (List ℕ))) → Climbs w b xs r → (rest : List (Desc (List ℕ)))
      × (segment r ≡ xs ++ rest) × HasAllOutputs rest
  segment_whole (Fin e st) b [] g = ([], refl, whole_nothing)
  segment_whole (Fin e st) b (x ∷ xs) g = absurd g
  segment_whole (Ask q fr st k) b [] g = ([], refl, whole_nothing)
  segment_whole (Ask q fr st k) b (x ∷ xs) g = absurd g
  segment_whole (Tell d r) b (x ∷ xs) g =
      let more = segment_whole r b xs g.1 in
      (more.0, ap (λ z. z ∷ segment r) g.0 ∙ ap (λ zs. x ∷ zs) more.1, more.2)
  segment_whole (Tell d r) b [] g =
      let more = segment_whole r b g.0 g.2 in
      ((d ∷ g.0) ++ more.0, ap (λ zs. d ∷ zs) more.1, whole_append (d ∷ g.0) more.0 (batch_whole (d ∷ g.0) g.1) more.2)

  late : (e : End (List ℕ)) (st : St (List ℕ)) → st.count ≤ visits → Late w 0 e st
  late End.goes st h = (omega arith, h)
  late (End.got v) st h = (omega arith, h)
  late (End.returned v) st h = (omega arith, h)
  late (End.failed f) st h = tt

rest_whole : (digest : List ℕ → List ℕ) (sc : Script) (stack : Run (List ℕ)) (os : List (Object (List ℕ))) (f : List ℕ) (r : Res (List ℕ))
    → FitsRun sc stack → IsRest digest sc stack os f r → HasAllOutputs (segment r)
rest_whole digest sc stack os f r fits (inl h) =
    let begun : Within (over_names digest sc) 0 start_st = (omega arith, omega arith) in
    let all = segment_whole (over_names digest sc) (body_at (over_names digest sc) bodies f h.caught h.args nowhere start_st) 0 []
    (climbs_call (over_names digest sc) bodies f h.caught h.args nowhere 0 start_st begun) in
    subst (λ z. HasAllOutputs (segment z)) (sym h.is) (subst HasAllOutputs (sym all.1) all.2)
rest_whole digest sc stack os f r fits (inr h) =
    let few : h.halt.st.count ≤ visits = subst (λ z. z ≤ visits) (sym h.left.count) fits.count in
    let e = wait_end (over_names digest sc) h.halt.wait os in
    let all = segment_whole (over_names digest sc) r 0 []
    (subst (λ z. Climbs (over_names digest sc) 0 [] z) (sym h.is)
    (plug_climbs (over_names digest sc) h.halt.forms others 0 e h.halt.st (late (over_names digest sc) e h.halt.st few))) in
    subst HasAllOutputs (sym all.1) all.2

-- ---- what was spawned

pub grew_whole_none : (digest : List ℕ → List ℕ) (xs : Spawned) → GrewWhole digest xs xs
grew_whole_none digest xs = record { made = []; grew = sym (append-nil xs); whole = whole_nothing }

pub grew_whole_both : (digest : List ℕ → List ℕ) (xs ys zs : Spawned) → GrewWhole digest xs ys → GrewWhole digest ys zs → GrewWhole digest xs zs
grew_whole_both digest xs ys zs a b = record {
  made = a.made ++ b.made;
  grew = b.grew ∙ ap (λ q. q ++ map (with_name digest) b.made) a.grew
      ∙ append_assoc xs (map (with_name digest) a.made) (map (with_name digest) b.made)
      ∙ ap (λ q. xs ++ q) (sym (map-append (with_name digest) a.made b.made));
  whole = whole_append a.made b.made a.whole b.whole;
}

pub grew_whole : (digest : List ℕ → List ℕ) (sc : Script) (os : List (Object (List ℕ))) (old : Stand (List ℕ)) (before after : Spawned)
    → Fits sc old → MakesExactly digest sc os old before after → GrewWhole digest before after
grew_whole digest sc os (Stand.run r) before after fits made =
    let rest = has_rest digest sc r os fits in
    record { made = segment rest.1; grew = made rest.0 rest.1 rest.2; whole = rest_whole digest sc r os rest.0 rest.1 fits rest.2 }
grew_whole digest sc os (Stand.show_at v w) before after fits made = subst (λ z. GrewWhole digest before z) (sym made) (grew_whole_none digest before)
