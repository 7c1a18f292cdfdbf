-- Where objects lie, and which of them losses took, entry by entry.
use Rattle.std.proofs.Common.{◌≡◌, ◌<◌, ◌+◌, ℕ, zero, suc, List, [], ◌∷◌, ◌++◌, Bool, true, false, ◌&&◌, ◌||◌, cond, length, map, get_or, take, Some, None, option_map}
use Rattle.std.proofs.Common.{append-nil, append_assoc, arith, nat_eq, slice_get, refl, ap, sym, ◌∙◌, subst}
use Rattle.std.specs.Prelude.{Vec}
use Rattle.std.specs.BTreeMap.{BTreeMap, Updates, UpdatesBy, get, is_at}
use Rattle.std.specs.List.{AllByRecursion, AllZip, cons_option, list_all, list_any}
use Rattle.std.specs.List.Sorted.{IsStrictlySortedBy}
use Rattle.std.specs.Map.{lookup}
use Rattle.std.specs.Ordering.{is_eq}
use Rattle.std.specs.declared.alloc.Global.{Global}
use Rattle.std.specs.declared.cmp.Ordering.{Ordering}
use Rattle.std.proofs.lemmas.Grind.{flat_map-append}
use Rattle.std.proofs.lemmas.List.{map-append}
use Rattle.sky_base.specs.NameOrder.{name_cmp}
use Rattle.sky_base.specs.Val.{Desc, same_text}
use Rattle.sky_base.specs.declared.object.TaskId.{TaskId}
use Rattle.sky_base.proofs.Exact.{exact_text, self_text}
use Rattle.sky_base.proofs.NameTests.{bools_alike, same_test}
use Rattle.ciel_look_told.specs.Head.{Head, short}
use Rattle.ciel_look_told.specs.Told as told
use Rattle.ciel_look_told.specs.View.{told_view}
use Rattle.ciel_look_told.specs.declared.told.Told.{Told}
use Rattle.ciel_look_tasks.specs.Happened.{closing}
use Rattle.ciel_look_tasks.specs.Learned.{descs, spawned}
use Rattle.ciel_look_tasks.specs.ObjectPlaces.{loss_objects, names_where, objects_view, place_worker, placed, placed_in, places_of}
use Rattle.ciel_look_tasks.specs.Objects.{IsTaken, Taking, lost_worker, put_at, put_by, taking_by, takings_behind, takes_from, workers_of}
use Rattle.ciel_look_tasks.specs.Orders as order
use Rattle.ciel_look_tasks.specs.Orders.{Ending, orders}
use Rattle.ciel_look_tasks.specs.ReportView.{TellsOutputs, whose}
use Rattle.ciel_look_tasks.specs.Reports.{objects_made, report_at, report_by, report_of, reports}
use Rattle.ciel_look_tasks.specs.Tasks.{Start, loss_of, losses}
use Rattle.ciel_look_tasks.specs.View.{orders_view, starts_view}
use Rattle.ciel_look_tasks.specs.declared.places.Place.{Place}
use Rattle.ciel_look_tasks.specs.declared.scene.Loss.{Loss}
use Rattle.ciel_look_tasks.specs.declared.scene.Run.{Run}
use Rattle.ciel_look_tasks.proofs.ReportSteps.{descs_push, held_is, reports_push}

-- ---- the places of a name

pub places_other : (old new : BTreeMap (List ℕ) (Vec Place Global)) (k n : List ℕ) → UpdatesBy name_cmp (name_cmp k) old new None
    → same_text n k ≡ false → places_of new n ≡ places_of old n
places_other old new k n u f = ap placed_in (u.0 n ∙ ap (λ b. cond b None (get name_cmp old n)) (same_test k n ∙ f))

pub placed_put : (old mid new : BTreeMap (List ℕ) (Vec Place Global)) (k : List ℕ) (list : List Place) (w : Vec Place Global) (x : Place)
    → list ≡ places_of old k → ((n : List ℕ) → same_text n k ≡ false → places_of mid n ≡ places_of old n) → w.items ≡ list ++ x ∷ []
    → Updates name_cmp mid new k (Some w) → (n : List ℕ) → placed new n ≡ placed old n ++ cond (same_text n k) (x.worker ∷ []) []
placed_put old mid new k list w x e o p u n =
    ap (λ o. map place_worker (placed_in o)) (u.0 n ∙ ap (λ b. cond b (Some w) (get name_cmp mid n)) (same_test k n)) ∙ go (same_text n k) refl
  where
    go : (b : Bool) → same_text n k ≡ b
        → map place_worker (placed_in (cond b (Some w) (get name_cmp mid n))) ≡ placed old n ++ cond b (x.worker ∷ []) []
    go true t =
        let same : n ≡ k = exact_text n k t in
        ap (map place_worker) p ∙ map-append place_worker list (x ∷ [])
        ∙ ap (λ z. map place_worker z ++ x.worker ∷ []) (e ∙ ap (places_of old) (sym same))
    go false f = ap (map place_worker) (o n f) ∙ sym (append-nil (placed old n))

put_push : (w : ℕ) (names : List (List ℕ)) (x n : List ℕ) → put_at w (names ++ x ∷ []) n ≡ put_at w names n ++ cond (same_text n x) (w ∷ []) []
put_push w names x n =
    flat_map-append (λ m. cond (same_text n m) (w ∷ []) []) names (x ∷ [])
    ∙ ap (λ z. put_at w names n ++ z) (append-nil (cond (same_text n x) (w ∷ []) []))

take_next : {A : Type 0} (xs : List A) (i : ℕ) (x : A) → i < length xs → x ≡ get_or xs i x → take (i + 1) xs ≡ take i xs ++ x ∷ []
take_next [] i x h e = absurd (omega (arith, h))
take_next (y ∷ xs) zero x h e = ap (λ z. z ∷ []) (sym e)
take_next (y ∷ xs) (suc i) x h e =
    let next : suc i + 1 ≡ suc (i + 1) = omega arith in
    rw next (ap (λ ys. y ∷ ys) (take_next xs i x (omega (arith, h)) e))

pub put_next : (old now new : BTreeMap (List ℕ) (Vec Place Global)) (w : ℕ) (names : List (List ℕ)) (i : ℕ) (x : List ℕ) → i < length names
    → x ≡ get_or names i x → ((n : List ℕ) → placed now n ≡ placed old n ++ put_at w (take i names) n)
    → ((n : List ℕ) → placed new n ≡ placed now n ++ cond (same_text n x) (w ∷ []) [])
    → (n : List ℕ) → placed new n ≡ placed old n ++ put_at w (take (i + 1) names) n
put_next old now new w names i x h e s p n =
    p n ∙ ap (λ z. z ++ cond (same_text n x) (w ∷ []) []) (s n)
    ∙ append_assoc (placed old n) (put_at w (take i names) n) (cond (same_text n x) (w ∷ []) [])
    ∙ ap (λ z. placed old n ++ z) (sym (put_push w (take i names) x n) ∙ sym (ap (λ xs. put_at w xs n) (take_next names i x h e)))

-- ---- what a loss took

any_placed : (w : ℕ) (ps : List Place) → list_any (λ (p : Place). nat_eq w p.worker) ps ≡ list_any (nat_eq w) (map place_worker ps)
any_placed w [] = refl
any_placed w (p ∷ ps) = ap (λ b. nat_eq w p.worker || b) (any_placed w ps)

all_placed : (lost : List ℕ) (ps : List Place)
    → list_all (λ (p : Place). list_any (nat_eq p.worker) lost) ps ≡ list_all (λ v. list_any (nat_eq v) lost) (map place_worker ps)
all_placed lost [] = refl
all_placed lost (p ∷ ps) = ap (λ b. list_any (nat_eq p.worker) lost && b) (all_placed lost ps)

pub takes_placed : (w : ℕ) (lost : List ℕ) (ps : List Place)
    → (list_any (λ (p : Place). nat_eq w p.worker) ps && list_all (λ (p : Place). list_any (nat_eq p.worker) lost) ps)
    ≡ takes_from w lost (map place_worker ps)
takes_placed w lost ps =
    ap (λ b. b && list_all (λ (p : Place). list_any (nat_eq p.worker) lost) ps) (any_placed w ps)
    ∙ ap (λ b. list_any (nat_eq w) (map place_worker ps) && b) (all_placed lost ps)

pub names_put : (test : List ℕ → Bool) (ps : List Place) (x : List ℕ) (b : Bool) (old new : List (List ℕ)) → b ≡ test (map place_worker ps)
    → new ≡ old ++ cond b (x ∷ []) [] → new ≡ old ++ cond (test (map place_worker ps)) (x ∷ []) []
names_put test ps x b old new e f = f ∙ ap (λ c. old ++ cond c (x ∷ []) []) e

pub names_next : (test : List ℕ → Bool) (all s t : List (List ℕ × Vec Place Global)) (k : List ℕ) (v : Vec Place Global) (ps : List Place)
    (xs ys : List (List ℕ)) → s ≡ (k, v) ∷ t → ps ≡ v.items → ys ≡ xs ++ cond (test (map place_worker ps)) (k ∷ []) []
    → xs ++ names_where test s ≡ names_where test all → ys ++ names_where test t ≡ names_where test all
names_next test all s t k v ps xs ys e p f h =
    ap (λ z. z ++ names_where test t) f ∙ append_assoc xs (cond (test (map place_worker ps)) (k ∷ []) []) (names_where test t)
    ∙ ap (λ q. xs ++ (cond (test (map place_worker q)) (k ∷ []) [] ++ names_where test t)) p
    ∙ ap (λ z. xs ++ z) (go (test (map place_worker v.items))) ∙ ap (λ z. xs ++ names_where test z) (sym e) ∙ h
  where
    go : (b : Bool) → cond b (k ∷ []) [] ++ names_where test t ≡ cond b (k ∷ names_where test t) (names_where test t)
    go true = refl
    go false = refl

pub names_end : (test : List ℕ → Bool) (all s : List (List ℕ × Vec Place Global)) (xs : List (List ℕ)) → s ≡ []
    → xs ++ names_where test s ≡ names_where test all → xs ≡ names_where test all
names_end test all s xs e h = sym (append-nil xs) ∙ ap (λ z. xs ++ names_where test z) (sym e) ∙ h

-- ---- each once, by the order of names

turned : (n m : List ℕ) → same_text m n ≡ same_text n m
turned n m =
    bools_alike (same_text m n) (same_text n m)
    (λ h. subst (λ x. same_text n x ≡ true) (sym (exact_text m n h)) (self_text n))
    (λ h. subst (λ x. same_text m x ≡ true) (sym (exact_text n m h)) (self_text m))

abbrev Entry : Type 0
Entry = List ℕ × Vec Place Global

abbrev entry_key : Entry → List ℕ
entry_key e = e.0

found_at : (n : List ℕ) (e : Entry) (es : List Entry)
    → lookup (is_at (name_cmp n)) (e ∷ es) ≡ cond (same_text n e.0) (Some e.1) (lookup (is_at (name_cmp n)) es)
found_at n e es = ap (λ b. cond b (Some e.1) (lookup (is_at (name_cmp n)) es)) (same_test n e.0 ∙ turned n e.0)

not_below : (k : List ℕ) (es : List Entry) → AllByRecursion (λ y. name_cmp k y ≡ Ordering.Less) (map entry_key es) → lookup (is_at (name_cmp k)) es ≡ None
not_below k [] h = refl
not_below k (e ∷ es) h =
    ap (λ o. cond (is_eq o) (Some e.1) (lookup (is_at (name_cmp k)) es)) h.0 ∙ not_below k es h.1

module _ (test : List ℕ → Bool) (none : test [] ≡ false) where
  abbrev wanted : List ℕ → List Entry → Bool
  wanted n es = test (map place_worker (placed_in (lookup (is_at (name_cmp n)) es)))

  pub each_named : (es : List Entry) → IsStrictlySortedBy name_cmp (map entry_key es) → (n : List ℕ)
      → list_any (same_text n) (names_where test es) ≡ wanted n es
  unfolding IsStrictlySortedBy
  each_named [] h n = sym none
  each_named (e ∷ es) h n =
      go (each_named es h.1 n) (same_text n e.0) refl (test (map place_worker e.1.items)) refl
      ∙ ap (λ o. test (map place_worker (placed_in o))) (sym (found_at n e es))
    where
      go : list_any (same_text n) (names_where test es) ≡ wanted n es → (b : Bool) → same_text n e.0 ≡ b → (c : Bool) → test (map place_worker e.1.items) ≡ c
          → list_any (same_text n) (names_where test (e ∷ es))
          ≡ test (map place_worker (placed_in (cond (same_text n e.0) (Some e.1) (lookup (is_at (name_cmp n)) es))))
      go more true t true c =
          ap (λ d. list_any (same_text n) (cond d (e.0 ∷ names_where test es) (names_where test es))) c
          ∙ ap (λ d. d || list_any (same_text n) (names_where test es)) t ∙ sym c
          ∙ ap (λ d. test (map place_worker (placed_in (cond d (Some e.1) (lookup (is_at (name_cmp n)) es))))) (sym t)
      go more true t false c =
          let same : n ≡ e.0 = exact_text n e.0 t in
          ap (λ d. list_any (same_text n) (cond d (e.0 ∷ names_where test es) (names_where test es))) c
          ∙ more ∙ ap (λ m. wanted m es) same ∙ ap (λ o. test (map place_worker (placed_in o))) (not_below e.0 es h.0) ∙ none ∙ sym c
          ∙ ap (λ d. test (map place_worker (placed_in (cond d (Some e.1) (lookup (is_at (name_cmp n)) es))))) (sym t)
      go more false t true c =
          ap (λ d. list_any (same_text n) (cond d (e.0 ∷ names_where test es) (names_where test es))) c
          ∙ ap (λ d. d || list_any (same_text n) (names_where test es)) t ∙ more
          ∙ ap (λ d. test (map place_worker (placed_in (cond d (Some e.1) (lookup (is_at (name_cmp n)) es))))) (sym t)
      go more false t false c =
          ap (λ d. list_any (same_text n) (cond d (e.0 ∷ names_where test es) (names_where test es))) c
          ∙ more
          ∙ ap (λ d. test (map place_worker (placed_in (cond d (Some e.1) (lookup (is_at (name_cmp n)) es))))) (sym t)

  all_named : (P : List ℕ → Type 0) (es : List Entry) → AllByRecursion P (map entry_key es) → AllByRecursion P (names_where test es)
  all_named P [] h = tt
  all_named P (e ∷ es) h = go (all_named P es h.1) (test (map place_worker e.1.items))
    where
      go : AllByRecursion P (names_where test es) → (b : Bool) → AllByRecursion P (cond b (e.0 ∷ names_where test es) (names_where test es))
      go more true = (h.0, more)
      go more false = more

  pub sorted_names : (es : List Entry) → IsStrictlySortedBy name_cmp (map entry_key es) → IsStrictlySortedBy name_cmp (names_where test es)
  unfolding IsStrictlySortedBy
  sorted_names [] h = tt
  sorted_names (e ∷ es) h = go (sorted_names es h.1) (test (map place_worker e.1.items))
    where
      go : IsStrictlySortedBy name_cmp (names_where test es) → (b : Bool) → IsStrictlySortedBy name_cmp (cond b (e.0 ∷ names_where test es) (names_where test es))
      go more true = (all_named (λ y. name_cmp e.0 y ≡ Ordering.Less) es h.0, more)
      go more false = more

pub lost_are : (w : ℕ) (gone lost : List ℕ) (m : BTreeMap (List ℕ) (Vec Place Global)) (ns : List (List ℕ)) → lost ≡ gone ++ w ∷ []
    → IsStrictlySortedBy name_cmp (map entry_key m.entries) → ns ≡ names_where (takes_from w lost) m.entries
    → IsTaken (record { worker = w; gone = gone; at = placed m }) ns
lost_are w gone lost m ns l o e =
    record {
      each = λ n. ap (list_any (same_text n)) e ∙ each_named (takes_from w lost) refl m.entries o n
          ∙ ap (λ z. takes_from w z (placed m n)) l;
      sorted = subst (IsStrictlySortedBy name_cmp) (sym e) (sorted_names (takes_from w lost) refl m.entries o);
    }

-- ---- an order ends

pub placed_nothing : (m : BTreeMap (List ℕ) (Vec Place Global)) (s : Bool) (ds : List (Desc (List ℕ))) (os : List (Start × Ending)) (cs : List (List ℕ))
    (how : told.Outcome) (k : ℕ) → None ≡ closing k os → (n : List ℕ) → placed m n ≡ placed m n ++ workers_of (report_at s ds os cs how (closing k os)) n
placed_nothing m s ds os cs how k c n =
    sym (append-nil (placed m n)) ∙ ap (λ o. placed m n ++ workers_of (report_at s ds os cs how o) n) c

pub placed_ended : (old mid new : BTreeMap (List ℕ) (Vec Place Global)) (s : Bool) (ds : List (Desc (List ℕ))) (rs : List Run) (cs ns : List (List ℕ))
    (how : told.Outcome) (k p : ℕ) (st : Start) (w : ℕ) (id : TaskId) → Some p ≡ closing k (orders_view rs)
    → slice_get (orders_view rs) p ≡ Some (st, order.out) → option_map whose (slice_get (starts_view rs) p) ≡ Some (w, id)
    → ns ≡ objects_made s ds id how → ((n : List ℕ) → placed mid n ≡ placed old n ++ put_at w ns n)
    → ((n : List ℕ) → placed new n ≡ placed mid n ++ put_at w cs n)
    → (n : List ℕ) → placed new n ≡ placed old n ++ workers_of (report_at s ds (orders_view rs) cs how (closing k (orders_view rs))) n
placed_ended old mid new s ds rs cs ns how k p st w id c t b e f g n =
    let held : whose st ≡ (w, id) = held_is rs p st w id t b in
    g n ∙ ap (λ z. z ++ put_at w cs n) (f n) ∙ append_assoc (placed old n) (put_at w ns n) (put_at w cs n)
    ∙ ap (λ z. placed old n ++ z)
    (sym (flat_map-append (λ m. cond (same_text n m) (w ∷ []) []) ns cs) ∙ ap (λ z. put_at w (z ++ cs) n) e
    ∙ ap (λ (x : ℕ × TaskId). put_at x.0 (objects_made s ds x.1 how ++ cs) n) (sym held)
    ∙ sym (append-nil (put_at st.1.0 (objects_made s ds st.1.1.1 how ++ cs) n)))
    ∙ ap (λ o. placed old n ++ workers_of (cons_option (option_map (report_of s ds cs how p) o) []) n) (sym t)
    ∙ ap (λ o. placed old n ++ workers_of (report_at s ds (orders_view rs) cs how o) n) c

-- ---- the losses

zip_push : {A B : Type 0} (R : A → B → Type 0) (xs : List A) (ys : List B) (x : A) (y : B) → AllZip R xs ys → R x y → AllZip R (xs ++ x ∷ []) (ys ++ y ∷ [])
zip_push R [] [] x y h r = (r, tt)
zip_push R [] (b ∷ ys) x y h r = absurd h
zip_push R (a ∷ xs) [] x y h r = absurd h
zip_push R (a ∷ xs) (b ∷ ys) x y h r = (h.0, zip_push R xs ys x y h.1 r)

pub objects_pushed : (t : Taking) (ls ms : List Loss) (x : Loss) → ms ≡ ls ++ x ∷ [] → IsTaken t x.objects.items → (ts : List Taking)
    → AllZip IsTaken ts (objects_view ls) → AllZip IsTaken (ts ++ t ∷ []) (objects_view ms)
objects_pushed t ls ms x e h ts z =
    subst (AllZip IsTaken (ts ++ t ∷ [])) (sym (ap objects_view e ∙ map-append loss_objects ls (x ∷ [])))
    (zip_push IsTaken ts (objects_view ls) t x.objects.items z h)

pub objects_same : (ls ms : List Loss) → ms ≡ ls → (ts : List Taking) → AllZip IsTaken ts (objects_view ls) → AllZip IsTaken (ts ++ []) (objects_view ms)
objects_same ls ms e ts z =
    subst (λ xs. AllZip IsTaken (ts ++ []) (objects_view xs)) (sym e) (subst (λ us. AllZip IsTaken us (objects_view ls)) (sym (append-nil ts)) z)

pub placed_same : (old new : BTreeMap (List ℕ) (Vec Place Global)) → new ≡ old → (n : List ℕ) → placed new n ≡ placed old n ++ []
placed_same old new e n = ap (λ m. placed m n) e ∙ sym (append-nil (placed old n))

-- ---- an entry more is told

pub placed_next : (h : Head) (ts : List Told) (e : Told) (s : Bool) (m : BTreeMap (List ℕ × ℕ) (List ℕ)) (os : List (Start × Ending))
    (old new : BTreeMap (List ℕ) (Vec Place Global)) → s ≡ short h → TellsOutputs (short h) m (descs h (map told_view ts))
    → os ≡ orders (map told_view ts) → ((n : List ℕ) → placed old n ≡ workers_of (reports h (map told_view ts)) n)
    → ((ds : List (Desc (List ℕ))) → TellsOutputs s m ds
    → (n : List ℕ) → placed new n ≡ placed old n ++ workers_of (report_by s (ds ++ spawned (told_view e)) os (told_view e)) n)
    → (n : List ℕ) → placed new n ≡ workers_of (reports h (map told_view (ts ++ e ∷ []))) n
placed_next h ts e s m os old new b t o p q n =
    let us = map told_view ts in
    let ds = descs h us ++ spawned (told_view e) in
    q (descs h us) (subst (λ c. TellsOutputs c m (descs h us)) (sym b) t) n
    ∙ ap (λ z. z ++ workers_of (report_by s ds os (told_view e)) n) (p n)
    ∙ ap (λ c. workers_of (reports h us) n ++ workers_of (report_by c ds os (told_view e)) n) b
    ∙ ap (λ z. workers_of (reports h us) n ++ workers_of (report_by (short h) ds z (told_view e)) n) o
    ∙ ap (λ z. workers_of (reports h us) n ++ workers_of (report_by (short h) z (orders us) (told_view e)) n) (sym (descs_push h us (told_view e)))
    ∙ sym (flat_map-append (put_by n) (reports h us) (report_by (short h) (descs h (us ++ told_view e ∷ [])) (orders us) (told_view e)))
    ∙ ap (λ rs. workers_of rs n) (sym (reports_push h [] us (told_view e)))
    ∙ ap (λ z. workers_of (reports h z) n) (sym (map-append told_view ts (e ∷ [])))

pub gone_next : (ts : List Told) (e : Told) (xs ys : List ℕ) → xs ≡ map lost_worker (losses (map told_view ts))
    → ys ≡ xs ++ map lost_worker (loss_of (told_view e)) → ys ≡ map lost_worker (losses (map told_view (ts ++ e ∷ [])))
gone_next ts e xs ys p q =
    let us = map told_view ts in
    q ∙ ap (λ z. z ++ map lost_worker (loss_of (told_view e))) p ∙ sym (map-append lost_worker (losses us) (loss_of (told_view e)))
    ∙ ap (λ z. map lost_worker (losses us ++ z)) (sym (append-nil (loss_of (told_view e))))
    ∙ ap (map lost_worker) (sym (flat_map-append loss_of us (told_view e ∷ [])))
    ∙ ap (λ z. map lost_worker (losses z)) (sym (map-append told_view ts (e ∷ [])))

takings_push : (h : Head) (before ts : List told.Told) (e : told.Told) → takings_behind h before (ts ++ e ∷ [])
    ≡ takings_behind h before ts ++ taking_by (map lost_worker (losses (before ++ ts))) (workers_of (reports h (before ++ ts))) e
takings_push h before [] e =
    append-nil (taking_by (map lost_worker (losses before)) (workers_of (reports h before)) e)
    ∙ ap (λ us. taking_by (map lost_worker (losses us)) (workers_of (reports h us)) e) (sym (append-nil before))
takings_push h before (t ∷ ts) e =
    let here = taking_by (map lost_worker (losses before)) (workers_of (reports h before)) t in
    ap (λ z. here ++ z)
    (takings_push h (before ++ t ∷ []) ts e
    ∙ ap (λ us. takings_behind h (before ++ t ∷ []) ts ++ taking_by (map lost_worker (losses us)) (workers_of (reports h us)) e)
    (append_assoc before (t ∷ []) ts))
    ∙ sym (append_assoc here (takings_behind h (before ++ t ∷ []) ts)
    (taking_by (map lost_worker (losses (before ++ t ∷ ts))) (workers_of (reports h (before ++ t ∷ ts))) e))

pub taken_next : (h : Head) (ts : List Told) (e : Told) (gone : List ℕ) (m : BTreeMap (List ℕ) (Vec Place Global)) (xs ys : List (List (List ℕ)))
    → gone ≡ map lost_worker (losses (map told_view ts)) → ((n : List ℕ) → placed m n ≡ workers_of (reports h (map told_view ts)) n)
    → AllZip IsTaken (takings_behind h [] (map told_view ts)) xs
    → ((us : List Taking) → AllZip IsTaken us xs → AllZip IsTaken (us ++ taking_by gone (placed m) (told_view e)) ys)
    → AllZip IsTaken (takings_behind h [] (map told_view (ts ++ e ∷ []))) ys
taken_next h ts e gone m xs ys g p z f =
    let us = map told_view ts in
    let before = takings_behind h [] us in
    subst (λ q. AllZip IsTaken (takings_behind h [] q) ys) (sym (map-append told_view ts (e ∷ [])))
    (subst (λ q. AllZip IsTaken q ys) (sym (takings_push h [] us (told_view e)))
    (subst (λ q. AllZip IsTaken (before ++ taking_by (map lost_worker (losses us)) q (told_view e)) ys) (λ i n. p n i)
    (subst (λ q. AllZip IsTaken (before ++ taking_by q (placed m) (told_view e)) ys) g (f before z))))
