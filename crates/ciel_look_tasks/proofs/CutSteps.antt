-- Which orders losses cut, entry by entry.
use Rattle.std.proofs.Common.{◌≡◌, ◌≤◌, ◌<◌, ◌+◌, ℕ, zero, suc, List, [], ◌∷◌, ◌++◌, Bool, true, false, cond, length, map, take, Option, Some, None, option_map}
use Rattle.std.proofs.Common.{append-nil, append_assoc, arith, length-append, slice_get, refl, ap, sym, ◌∙◌, subst}
use Rattle.std.proofs.lemmas.List.{length-map, map-append}
use Rattle.std.proofs.lemmas.Option.{slice_get-map}
use Rattle.std.proofs.lemmas.Simd.{map-map}
use Rattle.ciel_look_told.specs.Told as told
use Rattle.ciel_look_told.specs.View.{told_view}
use Rattle.ciel_look_told.specs.declared.told.Told.{Told}
use Rattle.ciel_look_tasks.specs.CutPlaces.{AreBelow, AreKept, cut_by, cut_view, cuts_view, if_out, out_places}
use Rattle.ciel_look_tasks.specs.Cuts.{cut_behind, cuts, cuts_behind, out_numbers}
use Rattle.ciel_look_tasks.specs.Orders as order
use Rattle.ciel_look_tasks.specs.Orders.{Ending, cut_so_far, is_out_at, orders}
use Rattle.ciel_look_tasks.specs.SceneView.{one_of, picked}
use Rattle.ciel_look_tasks.specs.Tasks.{Start}
use Rattle.ciel_look_tasks.specs.View.{numbers, order_ends, orders_view, run_number, start_view, starts_view}
use Rattle.ciel_look_tasks.specs.declared.scene.Loss.{Loss}
use Rattle.ciel_look_tasks.specs.declared.scene.Run.{Run}
use Rattle.ciel_look_tasks.proofs.OrderPlaces.{number_at, so_get}
use Rattle.ciel_look_tasks.proofs.RunSteps.{numbers_seen}

-- ---- what stands at places

get_front : {A : Type 0} (xs ys : List A) (i : ℕ) → i < length xs → slice_get (xs ++ ys) i ≡ slice_get xs i
get_front [] ys i h = absurd (omega (arith, h))
get_front (x ∷ xs) ys zero h = refl
get_front (x ∷ xs) ys (suc i) h = get_front xs ys i (omega (arith, h))

pub picked_front : {A : Type 0} (xs ys : List A) (ps : List ℕ) → AreBelow (length xs) ps → picked (xs ++ ys) ps ≡ picked xs ps
picked_front xs ys [] h = refl
picked_front xs ys (p ∷ ps) h =
    ap (λ o. one_of o ++ picked (xs ++ ys) ps) (get_front xs ys p h.0) ∙ ap (λ z. one_of (slice_get xs p) ++ z) (picked_front xs ys ps h.1)

one_map : {A B : Type 0} (f : A → B) (o : Option A) → map f (one_of o) ≡ one_of (option_map f o)
one_map f None = refl
one_map f (Some x) = refl

pub picked_map : {A B : Type 0} (f : A → B) (xs : List A) (ps : List ℕ) → map f (picked xs ps) ≡ picked (map f xs) ps
picked_map f xs [] = refl
picked_map f xs (p ∷ ps) =
    map-append f (one_of (slice_get xs p)) (picked xs ps) ∙ ap (λ z. z ++ map f (picked xs ps)) (one_map f (slice_get xs p))
    ∙ ap (λ o. one_of o ++ map f (picked xs ps)) (sym (slice_get-map f xs p)) ∙ ap (λ z. one_of (slice_get (map f xs) p) ++ z) (picked_map f xs ps)

cuts_front : (ns ms : List ℕ) (ls : List Loss) → AreKept (length ns) ls → cuts_view (ns ++ ms) ls ≡ cuts_view ns ls
cuts_front ns ms [] h = refl
cuts_front ns ms (l ∷ ls) h =
    ap (λ c. c ∷ cuts_view (ns ++ ms) ls) (picked_front ns ms l.runs.items h.0) ∙ ap (λ cs. cut_view ns l ∷ cs) (cuts_front ns ms ls h.1)

pub below_more : (n m : ℕ) (ps : List ℕ) → n ≤ m → AreBelow n ps → AreBelow m ps
below_more n m [] l h = tt
below_more n m (p ∷ ps) l h = (omega (arith, l, h.0), below_more n m ps l h.1)

pub kept_more : (n m : ℕ) (ls : List Loss) → n ≤ m → AreKept n ls → AreKept m ls
kept_more n m [] l h = tt
kept_more n m (x ∷ ls) l h = (below_more n m x.runs.items l h.0, kept_more n m ls l h.1)

kept_push : (n : ℕ) (ls : List Loss) (x : Loss) → AreKept n ls → AreBelow n x.runs.items → AreKept n (ls ++ x ∷ [])
kept_push n [] x h b = (b, tt)
kept_push n (l ∷ ls) x h b = (h.0, kept_push n ls x h.1 b)

pub kept_none : (n : ℕ) (ls : List Loss) → ls ≡ [] → AreKept n ls
kept_none n ls e = subst (AreKept n) (sym e) tt

-- ---- those that are out at a worker

module _ (w : ℕ) where
  get_mid : (front back : List (Start × Ending)) (o : Start × Ending) → slice_get (map number_at (front ++ o ∷ back)) (length front) ≡ Some o.0.0
  get_mid [] back o = refl
  get_mid (x ∷ front) back o = get_mid front back o

  out_picks : (back front : List (Start × Ending)) → picked (map number_at (front ++ back)) (out_places w (length front) back) ≡ out_numbers w back
  out_picks [] front = refl
  out_picks (o ∷ back) front = go (out_picks back (front ++ o ∷ [])) (is_out_at w (Some o))
    where
      all : List ℕ
      all = map number_at (front ++ o ∷ back)

      later : List ℕ
      later = out_places w (suc (length front)) back

      next : picked (map number_at ((front ++ o ∷ []) ++ back)) (out_places w (length (front ++ o ∷ [])) back) ≡ out_numbers w back
          → picked all later ≡ out_numbers w back
      next more =
          let one : length (front ++ o ∷ []) ≡ suc (length front) = omega (arith, length-append front (o ∷ [])) in
          subst (λ xs. picked (map number_at xs) later ≡ out_numbers w back) (append_assoc front (o ∷ []) back)
          (subst (λ n. picked (map number_at ((front ++ o ∷ []) ++ back)) (out_places w n back) ≡ out_numbers w back) one more)

      go : picked (map number_at ((front ++ o ∷ []) ++ back)) (out_places w (length (front ++ o ∷ [])) back) ≡ out_numbers w back
          → (b : Bool) → picked all (cond b (length front ∷ later) later) ≡ cond b (o.0.0 ∷ out_numbers w back) (out_numbers w back)
      go more false = next more
      go more true = ap (λ x. one_of x ++ picked all later) (get_mid front back o) ∙ ap (λ z. o.0.0 ∷ z) (next more)

  out_below : (os : List (Start × Ending)) (at n : ℕ) → at + length os ≤ n → AreBelow n (out_places w at os)
  out_below [] at n h = tt
  out_below (o ∷ os) at n h = go (out_below os (suc at) n (omega (arith, h))) (is_out_at w (Some o))
    where
      go : AreBelow n (out_places w (suc at) os) → (b : Bool) → AreBelow n (cond b (at ∷ out_places w (suc at) os) (out_places w (suc at) os))
      go more true = (omega (arith, h), more)
      go more false = more

  -- one more is looked at
  out_more_at : (os : List (Start × Ending)) (at i : ℕ)
      → out_places w at (take (i + 1) os) ≡ out_places w at (take i os) ++ if_out w (at + i) (slice_get os i)
  out_more_at [] at zero = refl
  out_more_at [] at (suc i) =
      let next : suc i + 1 ≡ suc (i + 1) = omega arith in
      rw next refl
  out_more_at (o ∷ os) at zero =
      let here : at + 0 ≡ at = omega arith in
      ap (λ n. cond (is_out_at w (Some o)) (n ∷ []) []) (sym here)
  out_more_at (o ∷ os) at (suc i) =
      let next : suc i + 1 ≡ suc (i + 1) = omega arith in
      let later : suc at + i ≡ at + suc i = omega arith in
      rw next
      (ap (λ ps. cond (is_out_at w (Some o)) (at ∷ ps) ps)
      (out_more_at os (suc at) i ∙ ap (λ n. out_places w (suc at) (take i os) ++ if_out w n (slice_get os i)) later)
      ∙ go (is_out_at w (Some o)) (out_places w (suc at) (take i os)) (if_out w (at + suc i) (slice_get os i)))
    where
      go : (b : Bool) (ps qs : List ℕ) → cond b (at ∷ (ps ++ qs)) (ps ++ qs) ≡ cond b (at ∷ ps) ps ++ qs
      go true ps qs = refl
      go false ps qs = refl

  pub out_more : (os : List (Start × Ending)) (i : ℕ) (old new : List ℕ) → old ≡ out_places w 0 (take i os)
      → new ≡ old ++ if_out w i (slice_get os i) → new ≡ out_places w 0 (take (i + 1) os)
  out_more os i old new e f =
      let here : i ≡ 0 + i = omega arith in
      f ∙ ap (λ z. z ++ if_out w i (slice_get os i)) e ∙ ap (λ n. out_places w 0 (take i os) ++ if_out w n (slice_get os i)) here
      ∙ sym (out_more_at os 0 i)

  -- at a place that was not yet looked at
  pub put_out : (os now : List (Start × Ending)) (i : ℕ) (b : Bool) (old new : List ℕ) → now ≡ cut_so_far w i os
      → is_out_at w (slice_get now i) ≡ b → new ≡ old ++ cond b (i ∷ []) [] → new ≡ old ++ if_out w i (slice_get os i)
  put_out os now i b old new so is e =
      e ∙ ap (λ c. old ++ cond c (i ∷ []) [])
      (sym is ∙ ap (λ xs. is_out_at w (slice_get xs i)) so ∙ ap (is_out_at w) (so_get (order.cut w) os i))

  -- a loss more
  pub cut_pushed : (rs qs : List Run) (ls ms : List Loss) (x : Loss) → ms ≡ ls ++ x ∷ [] → numbers qs ≡ numbers rs
      → x.runs.items ≡ out_places w 0 (orders_view rs) → cuts_view (numbers qs) ms ≡ cuts_view (numbers rs) ls ++ out_numbers w (orders_view rs) ∷ []
  cut_pushed rs qs ls ms x e n p =
      ap (λ ks. cuts_view ks ms) n ∙ ap (cuts_view (numbers rs)) e ∙ map-append (cut_view (numbers rs)) ls (x ∷ [])
      ∙ ap (λ ps. cuts_view (numbers rs) ls ++ picked (numbers rs) ps ∷ []) p
      ∙ ap (λ ks. cuts_view (numbers rs) ls ++ picked ks (out_places w 0 (orders_view rs)) ∷ []) (sym (numbers_seen rs))
      ∙ ap (λ c. cuts_view (numbers rs) ls ++ c ∷ []) (out_picks (orders_view rs) [])

  pub kept_pushed : (rs qs : List Run) (ls ms : List Loss) (x : Loss) → ms ≡ ls ++ x ∷ [] → length qs ≡ length rs
      → x.runs.items ≡ out_places w 0 (orders_view rs) → AreKept (length rs) ls → AreKept (length qs) ms
  kept_pushed rs qs ls ms x e n p h =
      let all : 0 + length (orders_view rs) ≤ length rs = omega (arith, length-map rs order_ends) in
      subst (λ k. AreKept k ms) (sym n)
      (subst (AreKept (length rs)) (sym e)
      (kept_push (length rs) ls x h (subst (AreBelow (length rs)) (sym p) (out_below (orders_view rs) 0 (length rs) all))))

-- ---- the starts grow, or stay

abbrev start_number : Start → ℕ
start_number s = s.0

numbers_of : (rs : List Run) → map start_number (starts_view rs) ≡ numbers rs
numbers_of rs = map-map start_number start_view rs

pub numbers_same : (rs qs : List Run) → starts_view qs ≡ starts_view rs → numbers qs ≡ numbers rs
numbers_same rs qs e = sym (numbers_of qs) ∙ ap (map start_number) e ∙ numbers_of rs

pub runs_same : (rs qs : List Run) → starts_view qs ≡ starts_view rs → length qs ≡ length rs
runs_same rs qs e = sym (length-map qs start_view) ∙ ap length e ∙ length-map rs start_view

runs_more : (rs qs : List Run) (ss : List Start) → starts_view qs ≡ starts_view rs ++ ss → length rs ≤ length qs
runs_more rs qs ss e =
    let all : length (starts_view qs) ≡ length (starts_view rs) + length ss = ap length e ∙ length-append (starts_view rs) ss in
    omega (arith, all, length-map qs start_view, length-map rs start_view)

-- ---- an entry more that is no loss

pub cuts_started : (rs qs : List Run) (s : Start) (ls ms : List Loss) → ms ≡ ls → starts_view qs ≡ starts_view rs ++ s ∷ [] → AreKept (length rs) ls
    → cuts_view (numbers qs) ms ≡ cuts_view (numbers rs) ls ++ []
cuts_started rs qs s ls ms l e h =
    let more : numbers qs ≡ numbers rs ++ s.0 ∷ [] =
    sym (numbers_of qs) ∙ ap (map start_number) e ∙ map-append start_number (starts_view rs) (s ∷ []) ∙ ap (λ z. z ++ s.0 ∷ []) (numbers_of rs) in
    ap (cuts_view (numbers qs)) l ∙ ap (λ ks. cuts_view ks ls) more
    ∙ cuts_front (numbers rs) (s.0 ∷ []) ls (subst (λ n. AreKept n ls) (sym (length-map rs run_number)) h)
    ∙ sym (append-nil (cuts_view (numbers rs) ls))

pub kept_started : (rs qs : List Run) (s : Start) (ls ms : List Loss) → ms ≡ ls → starts_view qs ≡ starts_view rs ++ s ∷ [] → AreKept (length rs) ls
    → AreKept (length qs) ms
kept_started rs qs s ls ms l e h =
    subst (AreKept (length qs)) (sym l) (kept_more (length rs) (length qs) ls (runs_more rs qs (s ∷ []) e) h)

pub cuts_same : (rs qs : List Run) (ls ms : List Loss) → ms ≡ ls → starts_view qs ≡ starts_view rs
    → cuts_view (numbers qs) ms ≡ cuts_view (numbers rs) ls ++ []
cuts_same rs qs ls ms l e =
    ap (cuts_view (numbers qs)) l ∙ ap (λ ks. cuts_view ks ls) (numbers_same rs qs e) ∙ sym (append-nil (cuts_view (numbers rs) ls))

pub kept_same : (rs qs : List Run) (ls ms : List Loss) → ms ≡ ls → starts_view qs ≡ starts_view rs → AreKept (length rs) ls → AreKept (length qs) ms
kept_same rs qs ls ms l e h = subst (AreKept (length qs)) (sym l) (subst (λ n. AreKept n ls) (sym (runs_same rs qs e)) h)

-- ---- an entry more is told

cuts_push : (before ts : List told.Told) (e : told.Told)
    → cuts_behind before (ts ++ e ∷ []) ≡ cuts_behind before ts ++ cut_behind (before ++ ts) e
cuts_push before [] e = append-nil (cut_behind before e) ∙ ap (λ us. cut_behind us e) (sym (append-nil before))
cuts_push before (t ∷ ts) e =
    ap (λ z. cut_behind before t ++ z)
    (cuts_push (before ++ t ∷ []) ts e
    ∙ ap (λ us. cuts_behind (before ++ t ∷ []) ts ++ cut_behind us e) (append_assoc before (t ∷ []) ts))
    ∙ sym (append_assoc (cut_behind before t) (cuts_behind (before ++ t ∷ []) ts) (cut_behind (before ++ t ∷ ts) e))

cut_told : (before : List told.Told) (e : told.Told) → cut_by (orders before) e ≡ cut_behind before e
cut_told before (told.started n w from task) = refl
cut_told before (told.ended n spawned copied how) = refl
cut_told before (told.lost w after) = refl
cut_told before (told.late n) = refl

pub cuts_next : (ts : List Told) (e : Told) (os : List (Start × Ending)) (cs ds : List (List ℕ)) → os ≡ orders (map told_view ts)
    → cs ≡ cuts (map told_view ts) → ds ≡ cs ++ cut_by os (told_view e) → ds ≡ cuts (map told_view (ts ++ e ∷ []))
cuts_next ts e os cs ds o c d =
    d ∙ ap (λ z. z ++ cut_by os (told_view e)) c ∙ ap (λ qs. cuts (map told_view ts) ++ cut_by qs (told_view e)) o
    ∙ ap (λ z. cuts (map told_view ts) ++ z) (cut_told (map told_view ts) (told_view e))
    ∙ sym (cuts_push [] (map told_view ts) (told_view e)) ∙ ap cuts (sym (map-append told_view ts (e ∷ [])))
