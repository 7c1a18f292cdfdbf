-- Which tasks' stacks losses took, entry by entry.
use Rattle.std.proofs.Common.{◌≡◌, ◌≤◌, ◌<◌, ◌+◌, ◌-◌, ℕ, zero, suc, List, [], ◌∷◌, ◌++◌, Bool, true, false, cond, length, map, take, Option, Some, None, option_map}
use Rattle.std.proofs.Common.{append-nil, append_assoc, arith, length-append, slice_get, refl, ap, sym, ◌∙◌, subst}
use Rattle.std.specs.List.{filter, list_any}
use Rattle.std.specs.Option.{option_or}
use Rattle.std.proofs.lemmas.List.{length-map, map-append}
use Rattle.std.proofs.lemmas.Option.{slice_get-map}
use Rattle.sky_base.specs.declared.object.TaskId.{TaskId}
use Rattle.ciel_look_told.specs.Told as told
use Rattle.ciel_look_told.specs.View.{told_view}
use Rattle.ciel_look_told.specs.declared.told.Told.{Told}
use Rattle.ciel_look_tasks.specs.CutPlaces.{AreBelow}
use Rattle.ciel_look_tasks.specs.Orders.{Ending, orders}
use Rattle.ciel_look_tasks.specs.Rows.{Filed, filed, filed_task, places_of}
use Rattle.ciel_look_tasks.specs.SceneView.{one_of, picked}
use Rattle.ciel_look_tasks.specs.StackPlaces.{HaveStacks, if_passes, passes, places_where, stack_counts, stacks_of, stacks_view}
use Rattle.ciel_look_tasks.specs.Stacks.{has_stack, last_order, saved_at, stacked, stacked_behind, stacked_by}
use Rattle.ciel_look_tasks.specs.Tasks.{Start, same_task, tasks, with_task}
use Rattle.ciel_look_tasks.specs.View.{ids, orders_view, rows, start_view, starts_view}
use Rattle.ciel_look_tasks.specs.declared.scene.Loss.{Loss}
use Rattle.ciel_look_tasks.specs.declared.scene.Run.{Run}
use Rattle.ciel_look_tasks.specs.declared.scene.Task.{Task}
use Rattle.ciel_look_tasks.proofs.CutSteps.{below_more, picked_front}
use Rattle.ciel_look_tasks.proofs.OrderPlaces.{the_some}

-- ---- the last order of a task, by its places

abbrev last_place : List ℕ → Option ℕ
last_place [] = None
last_place (p ∷ ps) = option_or (last_place ps) (Some p)

or_some : (o : Option ℕ) (x y : ℕ) → option_or (option_or o (Some y)) (Some x) ≡ option_or o (Some y)
or_some None x y = refl
or_some (Some z) x y = refl

last_got : (ps : List ℕ) → slice_get ps (length ps - 1) ≡ last_place ps
last_got [] = refl
last_got (p ∷ []) = refl
last_got (p ∷ q ∷ ps) =
    let here : suc (suc (length ps)) - 1 ≡ suc (suc (length ps) - 1) = omega arith in
    ap (slice_get (p ∷ q ∷ ps)) here ∙ last_got (q ∷ ps) ∙ sym (or_some (last_place ps) p q)

-- the last place, from the first one on, is that of the last order
abbrev LastSo : List (Start × Ending) → (at : ℕ) → Option ℕ → Option (Start × Ending) → Type 0
LastSo os at None l = l ≡ None
LastSo os at (Some p) l = (q : ℕ) × (o : Start × Ending) × (p ≡ at + q) × (slice_get os q ≡ Some o) × (l ≡ Some o)

abbrev start_at : Start × Ending → Start
start_at o = o.0

last_cond : (b : Bool) (p : ℕ) (ps : List ℕ) → last_place (cond b (p ∷ ps) ps) ≡ cond b (option_or (last_place ps) (Some p)) (last_place ps)
last_cond true p ps = refl
last_cond false p ps = refl

last_is : (t : TaskId) (os : List (Start × Ending)) (at : ℕ) → LastSo os at (last_place (places_of t at (map start_at os))) (last_order t os)
last_is t [] at = refl
last_is t (o ∷ os) at =
    subst (λ p. LastSo (o ∷ os) at p (last_order t (o ∷ os))) (sym (last_cond (same_task t o.0.1.1.1) at (places_of t (suc at) (map start_at os))))
    (go (same_task t o.0.1.1.1) (last_place (places_of t (suc at) (map start_at os))) (last_order t os) (last_is t os (suc at)))
  where
    go : (b : Bool) (p : Option ℕ) (l : Option (Start × Ending)) → LastSo os (suc at) p l
        → LastSo (o ∷ os) at (cond b (option_or p (Some at)) p) (option_or l (cond b (Some o) None))
    go true None l h =
        let here : at ≡ at + 0 = omega arith in
        (0, o, here, refl, ap (λ z. option_or z (Some o)) h)
    go false None l h = ap (λ z. option_or z None) h
    go true (Some p) l (q, x, e, f, g) =
        let there : p ≡ at + suc q = omega (arith, e) in
        (suc q, x, there, f, ap (λ z. option_or z (Some o)) g)
    go false (Some p) l (q, x, e, f, g) =
        let there : p ≡ at + suc q = omega (arith, e) in
        (suc q, x, there, f, ap (λ z. option_or z None) g)

starts_at : (rs : List Run) → map start_at (orders_view rs) ≡ starts_view rs
starts_at [] = refl
starts_at (r ∷ rs) = ap (λ ss. start_view r ∷ ss) (starts_at rs)

last_run : (rs : List Run) (t : TaskId) (ps : List ℕ) (o : Option ℕ) → ps ≡ places_of t 0 (starts_view rs) → o ≡ slice_get ps (length ps - 1)
    → LastSo (orders_view rs) 0 o (last_order t (orders_view rs))
last_run rs t ps o e h =
    subst (λ p. LastSo (orders_view rs) 0 p (last_order t (orders_view rs)))
    (sym (h ∙ last_got ps ∙ ap last_place e ∙ ap (λ ss. last_place (places_of t 0 ss)) (sym (starts_at rs))))
    (last_is t (orders_view rs) 0)

pub stack_none : (w : ℕ) (rs : List Run) (t : TaskId) (ps : List ℕ) → None ≡ slice_get ps (length ps - 1)
    → ps ≡ places_of t 0 (starts_view rs) → false ≡ has_stack w (orders_view rs) t
stack_none w rs t ps h e = ap (saved_at w) (sym (last_run rs t ps None e h))

pub stack_there : (w : ℕ) (rs : List Run) (t : TaskId) (ps : List ℕ) (p : ℕ) → Some p ≡ slice_get ps (length ps - 1)
    → ps ≡ places_of t 0 (starts_view rs) → saved_at w (slice_get (orders_view rs) p) ≡ has_stack w (orders_view rs) t
stack_there w rs t ps p h e =
    let l = last_run rs t ps (Some p) e h in
    let here : p ≡ l.0 = omega (arith, l.2) in
    ap (saved_at w) (ap (slice_get (orders_view rs)) here ∙ l.3 ∙ sym l.4)

-- ---- the orders of a task stand with it

abbrev first_row : List Filed → List ℕ
first_row [] = []
first_row (r ∷ rs) = r.1

abbrev other_rows : List Filed → List Filed
other_rows [] = []
other_rows (r ∷ rs) = rs

pub filed_at : (ss : List Start) (ts : List Task) (i : ℕ) (t : Task) → rows ts ≡ map (filed ss) (map filed_task (rows ts)) → Some t ≡ slice_get ts i
    → t.runs.items ≡ places_of t.id 0 ss
filed_at ss [] i t h e = absurd cc
filed_at ss (u ∷ ts) zero t h e =
    let same : t ≡ u = the_some t u e in
    subst (λ (x : Task). x.runs.items ≡ places_of x.id 0 ss) (sym same) (ap first_row h)
filed_at ss (u ∷ ts) (suc i) t h e = filed_at ss ts i t (ap other_rows h) e

abbrev task_id : Task → TaskId
task_id t = t.id

pub ids_many : (ts : List Task) → length (ids ts) ≡ length ts
ids_many ts = length-map ts task_id

pub id_there : (ts : List Task) (i : ℕ) (t : Task) → Some t ≡ slice_get ts i → slice_get (ids ts) i ≡ Some t.id
id_there ts i t e = slice_get-map task_id ts i ∙ ap (option_map task_id) (sym e)

pub id_nowhere : (ts : List Task) (i : ℕ) → None ≡ slice_get ts i → slice_get (ids ts) i ≡ None
id_nowhere ts i e = slice_get-map task_id ts i ∙ ap (option_map task_id) (sym e)

-- ---- those that pass a test

module _ {A : Type 0} (test : A → Bool) where
  get_mid : (front back : List A) (x : A) → slice_get (front ++ x ∷ back) (length front) ≡ Some x
  get_mid [] back x = refl
  get_mid (y ∷ front) back x = get_mid front back x

  where_picks : (back front : List A) → picked (front ++ back) (places_where test (length front) back) ≡ filter test back
  where_picks [] front = refl
  where_picks (x ∷ back) front = go (where_picks back (front ++ x ∷ [])) (test x)
    where
      all : List A
      all = front ++ x ∷ back

      later : List ℕ
      later = places_where test (suc (length front)) back

      next : picked ((front ++ x ∷ []) ++ back) (places_where test (length (front ++ x ∷ [])) back) ≡ filter test back
          → picked all later ≡ filter test back
      next more =
          let one : length (front ++ x ∷ []) ≡ suc (length front) = omega (arith, length-append front (x ∷ [])) in
          subst (λ xs. picked xs later ≡ filter test back) (append_assoc front (x ∷ []) back)
          (subst (λ n. picked ((front ++ x ∷ []) ++ back) (places_where test n back) ≡ filter test back) one more)

      go : picked ((front ++ x ∷ []) ++ back) (places_where test (length (front ++ x ∷ [])) back) ≡ filter test back
          → (b : Bool) → picked all (cond b (length front ∷ later) later) ≡ cond b (x ∷ filter test back) (filter test back)
      go more false = next more
      go more true = ap (λ o. one_of o ++ picked all later) (get_mid front back x) ∙ ap (λ z. x ∷ z) (next more)

  where_below : (xs : List A) (at n : ℕ) → at + length xs ≤ n → AreBelow n (places_where test at xs)
  where_below [] at n h = tt
  where_below (x ∷ xs) at n h = go (where_below xs (suc at) n (omega (arith, h))) (test x)
    where
      go : AreBelow n (places_where test (suc at) xs) → (b : Bool)
          → AreBelow n (cond b (at ∷ places_where test (suc at) xs) (places_where test (suc at) xs))
      go more true = (omega (arith, h), more)
      go more false = more

  -- one more is looked at
  where_more_at : (xs : List A) (at i : ℕ) → places_where test at (take (i + 1) xs) ≡ places_where test at (take i xs) ++ if_passes test (at + i) (slice_get xs i)
  where_more_at [] at zero = refl
  where_more_at [] at (suc i) =
      let next : suc i + 1 ≡ suc (i + 1) = omega arith in
      rw next refl
  where_more_at (x ∷ xs) at zero =
      let here : at + 0 ≡ at = omega arith in
      ap (λ n. cond (test x) (n ∷ []) []) (sym here)
  where_more_at (x ∷ xs) at (suc i) =
      let next : suc i + 1 ≡ suc (i + 1) = omega arith in
      let later : suc at + i ≡ at + suc i = omega arith in
      rw next
      (ap (λ ps. cond (test x) (at ∷ ps) ps)
      (where_more_at xs (suc at) i ∙ ap (λ n. places_where test (suc at) (take i xs) ++ if_passes test n (slice_get xs i)) later)
      ∙ go (test x) (places_where test (suc at) (take i xs)) (if_passes test (at + suc i) (slice_get xs i)))
    where
      go : (b : Bool) (ps qs : List ℕ) → cond b (at ∷ (ps ++ qs)) (ps ++ qs) ≡ cond b (at ∷ ps) ps ++ qs
      go true ps qs = refl
      go false ps qs = refl

  pub where_more : (xs : List A) (i : ℕ) (old new : List ℕ) → old ≡ places_where test 0 (take i xs)
      → new ≡ old ++ if_passes test i (slice_get xs i) → new ≡ places_where test 0 (take (i + 1) xs)
  where_more xs i old new e f =
      let here : i ≡ 0 + i = omega arith in
      f ∙ ap (λ z. z ++ if_passes test i (slice_get xs i)) e ∙ ap (λ n. places_where test 0 (take i xs) ++ if_passes test n (slice_get xs i)) here
      ∙ sym (where_more_at xs 0 i)

  pub put_passes : (xs : List A) (i : ℕ) (old new : List ℕ) → passes test (slice_get xs i) ≡ true → new ≡ old ++ i ∷ []
      → new ≡ old ++ if_passes test i (slice_get xs i)
  put_passes xs i old new is e = e ∙ ap (λ b. old ++ cond b (i ∷ []) []) (sym is)

  pub put_not : (xs : List A) (i : ℕ) (old : List ℕ) → passes test (slice_get xs i) ≡ false → old ≡ old ++ if_passes test i (slice_get xs i)
  put_not xs i old is = sym (append-nil old) ∙ ap (λ b. old ++ cond b (i ∷ []) []) (sym is)

-- ---- the losses

stacks_front : (us vs : List TaskId) (ls : List Loss) → HaveStacks (length us) ls → stacks_view (us ++ vs) ls ≡ stacks_view us ls
stacks_front us vs [] h = refl
stacks_front us vs (l ∷ ls) h =
    ap (λ c. c ∷ stacks_view (us ++ vs) ls) (picked_front us vs l.stacks.items h.0) ∙ ap (λ cs. stacks_of us l ∷ cs) (stacks_front us vs ls h.1)

have_more : (n m : ℕ) (ls : List Loss) → n ≤ m → HaveStacks n ls → HaveStacks m ls
have_more n m [] l h = tt
have_more n m (x ∷ ls) l h = (below_more n m x.stacks.items l h.0, have_more n m ls l h.1)

have_push : (n : ℕ) (ls : List Loss) (x : Loss) → HaveStacks n ls → AreBelow n x.stacks.items → HaveStacks n (ls ++ x ∷ [])
have_push n [] x h b = (b, tt)
have_push n (l ∷ ls) x h b = (h.0, have_push n ls x h.1 b)

pub have_none : (n : ℕ) (ls : List Loss) → ls ≡ [] → HaveStacks n ls
have_none n ls e = subst (HaveStacks n) (sym e) tt

-- a task more, or none
pub stacks_entered : (us vs : List TaskId) (t : TaskId) (ls ms : List Loss) → vs ≡ with_task us t → ms ≡ ls → HaveStacks (length us) ls
    → stacks_view vs ms ≡ stacks_view us ls ++ []
stacks_entered us vs t ls ms e l h = ap (stacks_view vs) l ∙ ap (λ z. stacks_view z ls) e ∙ go (list_any (same_task t) us) ∙ sym (append-nil (stacks_view us ls))
  where
    go : (b : Bool) → stacks_view (cond b us (us ++ t ∷ [])) ls ≡ stacks_view us ls
    go true = refl
    go false = stacks_front us (t ∷ []) ls h

pub have_entered : (us vs : List TaskId) (t : TaskId) (ls ms : List Loss) → vs ≡ with_task us t → ms ≡ ls → HaveStacks (length us) ls
    → HaveStacks (length vs) ms
have_entered us vs t ls ms e l h =
    subst (HaveStacks (length vs)) (sym l) (subst (λ z. HaveStacks (length z) ls) (sym e) (go (list_any (same_task t) us)))
  where
    go : (b : Bool) → HaveStacks (length (cond b us (us ++ t ∷ []))) ls
    go true = h
    go false = have_more (length us) (length (us ++ t ∷ [])) ls (omega (arith, length-append us (t ∷ []))) h

pub stacks_same : (us vs : List TaskId) (ls ms : List Loss) → vs ≡ us → ms ≡ ls → stacks_view vs ms ≡ stacks_view us ls ++ []
stacks_same us vs ls ms e l = ap (stacks_view vs) l ∙ ap (λ z. stacks_view z ls) e ∙ sym (append-nil (stacks_view us ls))

pub have_same : (us vs : List TaskId) (ls ms : List Loss) → vs ≡ us → ms ≡ ls → HaveStacks (length us) ls → HaveStacks (length vs) ms
have_same us vs ls ms e l h = subst (HaveStacks (length vs)) (sym l) (subst (λ z. HaveStacks (length z) ls) (sym e) h)

-- a loss more
pub stacks_pushed : (us vs : List TaskId) (test : TaskId → Bool) (ls ms : List Loss) (x : Loss) → vs ≡ us → ms ≡ ls ++ x ∷ []
    → x.stacks.items ≡ places_where test 0 us → stacks_view vs ms ≡ stacks_view us ls ++ filter test us ∷ []
stacks_pushed us vs test ls ms x v e p =
    ap (λ z. stacks_view z ms) v ∙ ap (stacks_view us) e ∙ map-append (stacks_of us) ls (x ∷ [])
    ∙ ap (λ ps. stacks_view us ls ++ picked us ps ∷ []) p ∙ ap (λ c. stacks_view us ls ++ c ∷ []) (where_picks test us [])

pub have_pushed : (us vs : List TaskId) (test : TaskId → Bool) (ls ms : List Loss) (x : Loss) → vs ≡ us → ms ≡ ls ++ x ∷ []
    → x.stacks.items ≡ places_where test 0 us → HaveStacks (length us) ls → HaveStacks (length vs) ms
have_pushed us vs test ls ms x v e p h =
    let all : 0 + length us ≤ length us = omega arith in
    subst (λ z. HaveStacks (length z) ms) (sym v)
    (subst (HaveStacks (length us)) (sym e)
    (have_push (length us) ls x h (subst (AreBelow (length us)) (sym p) (where_below test us 0 (length us) all))))

-- how many they are
get_below : {A : Type 0} (xs : List A) (p : ℕ) → p < length xs → length (one_of (slice_get xs p)) ≡ 1
get_below [] p h = absurd (omega (arith, h))
get_below (x ∷ xs) zero h = refl
get_below (x ∷ xs) (suc p) h = get_below xs p (omega (arith, h))

picked_length : (us : List TaskId) (ps : List ℕ) → AreBelow (length us) ps → length (picked us ps) ≡ length ps
picked_length us [] h = refl
picked_length us (p ∷ ps) h =
    let both = length-append (one_of (slice_get us p)) (picked us ps) in
    let one = get_below us p h.0 in
    let more = picked_length us ps h.1 in
    let all : length (picked us (p ∷ ps)) ≡ suc (length ps) = omega (arith, both, one, more) in
    all

pub counts_seen : (us : List TaskId) (ls : List Loss) → HaveStacks (length us) ls → stack_counts ls ≡ map length (stacks_view us ls)
counts_seen us [] h = refl
counts_seen us (l ∷ ls) h =
    ap (λ n. n ∷ stack_counts ls) (sym (picked_length us l.stacks.items h.0))
    ∙ ap (λ ns. length (stacks_of us l) ∷ ns) (counts_seen us ls h.1)

-- ---- an entry more is told

stacked_push : (before ts : List told.Told) (e : told.Told)
    → stacked_behind before (ts ++ e ∷ []) ≡ stacked_behind before ts ++ stacked_by (tasks (before ++ ts)) (orders (before ++ ts)) e
stacked_push before [] e =
    append-nil (stacked_by (tasks before) (orders before) e) ∙ ap (λ us. stacked_by (tasks us) (orders us) e) (sym (append-nil before))
stacked_push before (t ∷ ts) e =
    let here = stacked_by (tasks before) (orders before) t in
    ap (λ z. here ++ z)
    (stacked_push (before ++ t ∷ []) ts e
    ∙ ap (λ us. stacked_behind (before ++ t ∷ []) ts ++ stacked_by (tasks us) (orders us) e) (append_assoc before (t ∷ []) ts))
    ∙ sym (append_assoc here (stacked_behind (before ++ t ∷ []) ts) (stacked_by (tasks (before ++ t ∷ ts)) (orders (before ++ t ∷ ts)) e))

pub stacked_next : (ts : List Told) (e : Told) (us : List TaskId) (os : List (Start × Ending)) (xs ys : List (List TaskId))
    → us ≡ tasks (map told_view ts) → os ≡ orders (map told_view ts) → xs ≡ stacked (map told_view ts)
    → ys ≡ xs ++ stacked_by us os (told_view e) → ys ≡ stacked (map told_view (ts ++ e ∷ []))
stacked_next ts e us os xs ys u o x y =
    y ∙ ap (λ z. z ++ stacked_by us os (told_view e)) x ∙ ap (λ z. stacked (map told_view ts) ++ stacked_by z os (told_view e)) u
    ∙ ap (λ z. stacked (map told_view ts) ++ stacked_by (tasks (map told_view ts)) z (told_view e)) o
    ∙ sym (stacked_push [] (map told_view ts) (told_view e)) ∙ ap stacked (sym (map-append told_view ts (e ∷ [])))
