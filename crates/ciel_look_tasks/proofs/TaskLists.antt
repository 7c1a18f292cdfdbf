-- Lists of tasks, each once, and the place of each.
use Rattle.std.proofs.Common.{◌≡◌, ℕ, suc, List, [], ◌∷◌, ◌++◌, Bool, true, false, not, ◌||◌, cond, length, is_some, Option, Some, None, option_map}
use Rattle.std.proofs.Common.{refl, ap, sym, ◌∙◌, append-nil, flat_map}
use Rattle.std.specs.List.{filter, list_any}
use Rattle.std.specs.BTreeMap.{BTreeMap, Updates, get}
use Rattle.std.proofs.lemmas.Grind.{flat_map-append}
use Rattle.std.proofs.lemmas.List.Elements.{filter-append}
use Rattle.sky_base.specs.NameOrder.{name_cmp}
use Rattle.sky_base.specs.Val.{same_text}
use Rattle.sky_base.specs.declared.object.TaskId.{TaskId}
use Rattle.sky_base.proofs.Exact.{exact_text, self_text}
use Rattle.sky_base.proofs.NameTests.{same_test}
use Rattle.ciel_look_told.specs.Told as told
use Rattle.ciel_look_told.specs.Told.{Told}
use Rattle.ciel_look_tasks.specs.Tasks.{begun, once, place_in, same_task, tasks, with_task, with_tasks}

abbrev orelse : Option ℕ → Option ℕ → Option ℕ
orelse (Some i) o = Some i
orelse None o = o

orelse_none : (o : Option ℕ) → o ≡ orelse o None
orelse_none (Some i) = refl
orelse_none None = refl

-- ---- the same task

pub self_task : (t : TaskId) → same_task t t ≡ true
self_task TaskId.Show = refl
self_task (TaskId.Of n) = self_text n

pub exact_task : (t u : TaskId) → same_task t u ≡ true → t ≡ u
exact_task TaskId.Show TaskId.Show h = refl
exact_task TaskId.Show (TaskId.Of m) h = absurd cc
exact_task (TaskId.Of n) TaskId.Show h = absurd cc
exact_task (TaskId.Of n) (TaskId.Of m) h = ap TaskId.Of (exact_text n m h)

pub flip_task : (t u : TaskId) → same_task t u ≡ false → same_task u t ≡ false
flip_task t u h = go (same_task u t) refl
  where
    go : (b : Bool) → same_task u t ≡ b → b ≡ false
    go false e = refl
    go true e =
        let back : u ≡ t = exact_task u t e in
        let yes : same_task t u ≡ true = ap (same_task t) back ∙ self_task t in cc

-- ---- places

place_push : (t u : TaskId) (us : List TaskId) → place_in t (us ++ u ∷ []) ≡ orelse (place_in t us) (cond (same_task t u) (Some (length us)) None)
place_push t u [] = refl
place_push t u (v ∷ vs) =
    ap (λ o. cond (same_task t v) (Some 0) (option_map suc o)) (place_push t u vs)
    ∙ go (same_task t v) (place_in t vs) (same_task t u) (length vs)
  where
    go : (s : Bool) (o : Option ℕ) (r : Bool) (n : ℕ) → cond s (Some 0) (option_map suc (orelse o (cond r (Some n) None)))
        ≡ orelse (cond s (Some 0) (option_map suc o)) (cond r (Some (suc n)) None)
    go true o r n = refl
    go false (Some i) r n = refl
    go false None true n = refl
    go false None false n = refl

-- a new task comes to the end
pub place_new : (t : TaskId) (us : List TaskId) → place_in t us ≡ None → place_in t (us ++ t ∷ []) ≡ Some (length us)
place_new t us e =
    place_push t t us ∙ ap (λ o. orelse o (cond (same_task t t) (Some (length us)) None)) e
    ∙ ap (λ b. cond b (Some (length us)) None) (self_task t)

pub place_other : (t u : TaskId) (us : List TaskId) → same_task t u ≡ false → place_in t (us ++ u ∷ []) ≡ place_in t us
place_other t u us h =
    place_push t u us ∙ ap (λ b. orelse (place_in t us) (cond b (Some (length us)) None)) h ∙ sym (orelse_none (place_in t us))

-- the map has the place of one more
pub found_more : (old new : BTreeMap (List ℕ) ℕ) (us : List TaskId) (k : List ℕ) → ((n : List ℕ) → get name_cmp old n ≡ place_in (TaskId.Of n) us)
    → place_in (TaskId.Of k) us ≡ None → Updates name_cmp old new k (Some (length us))
    → (n : List ℕ) → get name_cmp new n ≡ place_in (TaskId.Of n) (us ++ TaskId.Of k ∷ [])
found_more old new us k h e u n =
    u.0 n ∙ ap (λ b. cond b (Some (length us)) (get name_cmp old n)) (same_test k n)
    ∙ ap (λ o. cond (same_text n k) (Some (length us)) o) (h n) ∙ turn (same_text n k) refl ∙ sym (place_push (TaskId.Of n) (TaskId.Of k) us)
  where
    turn : (b : Bool) → same_text n k ≡ b → cond b (Some (length us)) (place_in (TaskId.Of n) us)
        ≡ orelse (place_in (TaskId.Of n) us) (cond b (Some (length us)) None)
    turn true t =
        let same : n ≡ k = exact_text n k t in
        let none : place_in (TaskId.Of n) us ≡ None = ap (λ m. place_in (TaskId.Of m) us) same ∙ e in
        ap (λ o. orelse o (Some (length us))) (sym none)
    turn false f = orelse_none (place_in (TaskId.Of n) us)

-- ---- each once

pub any_place : (t : TaskId) (us : List TaskId) → list_any (same_task t) us ≡ is_some (place_in t us)
any_place t [] = refl
any_place t (u ∷ us) = go (same_task t u) (place_in t us) (list_any (same_task t) us) (any_place t us)
  where
    go : (s : Bool) (o : Option ℕ) (b : Bool) → b ≡ is_some o → (s || b) ≡ is_some (cond s (Some 0) (option_map suc o))
    go true o b h = refl
    go false (Some i) b h = h
    go false None b h = h

pub with_there : (t : TaskId) (us : List TaskId) (p : ℕ) → place_in t us ≡ Some p → with_task us t ≡ us
with_there t us p e = ap (λ b. cond b us (us ++ t ∷ [])) (any_place t us ∙ ap is_some e)

pub with_new : (t : TaskId) (us : List TaskId) → place_in t us ≡ None → with_task us t ≡ us ++ t ∷ []
with_new t us e = ap (λ b. cond b us (us ++ t ∷ [])) (any_place t us ∙ ap is_some e)

filter_push : (test : TaskId → Bool) (us : List TaskId) (t : TaskId) → filter test (us ++ t ∷ []) ≡ filter test us ++ cond (test t) (t ∷ []) []
filter_push test us t = filter-append test us (t ∷ [])

any_filter : (t u : TaskId) (vs : List TaskId) → same_task t u ≡ false
    → list_any (same_task t) (filter (λ v. not (same_task u v)) vs) ≡ list_any (same_task t) vs
any_filter t u [] h = refl
any_filter t u (v ∷ vs) h = go (same_task u v) refl (any_filter t u vs h)
  where
    go : (b : Bool) → same_task u v ≡ b → list_any (same_task t) (filter (λ w. not (same_task u w)) vs) ≡ list_any (same_task t) vs
        → list_any (same_task t) (cond (not b) (v ∷ filter (λ w. not (same_task u w)) vs) (filter (λ w. not (same_task u w)) vs))
        ≡ (same_task t v || list_any (same_task t) vs)
    go true e i =
        let same : u ≡ v = exact_task u v e in
        let apart : same_task t v ≡ false = ap (same_task t) (sym same) ∙ h in
        i ∙ ap (λ c. c || list_any (same_task t) vs) (sym apart)
    go false e i = ap (λ c. same_task t v || c) i

-- the others
abbrev rest_of : TaskId → List TaskId → List TaskId
rest_of u vs = filter (λ v. not (same_task u v)) vs

rest_with : (u t : TaskId) (vs : List TaskId) (b : Bool) → rest_of u (cond b vs (vs ++ t ∷ []))
    ≡ cond b (rest_of u vs) (rest_of u vs ++ cond (not (same_task u t)) (t ∷ []) [])
rest_with u t vs true = refl
rest_with u t vs false = filter_push (λ v. not (same_task u v)) vs t

either_way : (b : Bool) (ws : List TaskId) → cond b ws (ws ++ []) ≡ ws
either_way true ws = refl
either_way false ws = append-nil ws

cond_cons : (b : Bool) (u : TaskId) (xs ys : List TaskId) → u ∷ cond b xs ys ≡ cond b (u ∷ xs) (u ∷ ys)
cond_cons true u xs ys = refl
cond_cons false u xs ys = refl

pub once_push : (ts : List TaskId) (t : TaskId) → once (ts ++ t ∷ []) ≡ with_task (once ts) t
once_push [] t = refl
once_push (u ∷ us) t =
    ap (λ vs. u ∷ rest_of u vs) (once_push us t)
    ∙ ap (λ vs. u ∷ vs) (rest_with u t (once us) (list_any (same_task t) (once us))) ∙ go (same_task t u) refl
  where
    go : (s : Bool) → same_task t u ≡ s
        → u ∷ cond (list_any (same_task t) (once us)) (rest_of u (once us)) (rest_of u (once us) ++ cond (not (same_task u t)) (t ∷ []) [])
        ≡ with_task (u ∷ rest_of u (once us)) t
    go true e =
        let same : t ≡ u = exact_task t u e in
        let back : same_task u t ≡ true = ap (same_task u) same ∙ self_task u in
        ap (λ b. u ∷ cond (list_any (same_task t) (once us)) (rest_of u (once us)) (rest_of u (once us) ++ cond (not b) (t ∷ []) [])) back
        ∙ ap (λ vs. u ∷ vs) (either_way (list_any (same_task t) (once us)) (rest_of u (once us)))
        ∙ ap (λ b. cond (b || list_any (same_task t) (rest_of u (once us))) (u ∷ rest_of u (once us)) (u ∷ (rest_of u (once us) ++ t ∷ []))) (sym e)
    go false e =
        ap (λ b. u ∷ cond (list_any (same_task t) (once us)) (rest_of u (once us)) (rest_of u (once us) ++ cond (not b) (t ∷ []) []))
        (flip_task t u e)
        ∙ cond_cons (list_any (same_task t) (once us)) u (rest_of u (once us)) (rest_of u (once us) ++ t ∷ [])
        ∙ ap (λ b. cond b (u ∷ rest_of u (once us)) (u ∷ (rest_of u (once us) ++ t ∷ []))) (sym (any_filter t u (once us) e))
        ∙ ap (λ b. cond (b || list_any (same_task t) (rest_of u (once us))) (u ∷ rest_of u (once us)) (u ∷ (rest_of u (once us) ++ t ∷ []))) (sym e)

-- where a test passes one of the tasks, it passes one of them each once
any_kept : (test : TaskId → Bool) (t : TaskId) (us : List TaskId) → test t ≡ false → list_any test (rest_of t us) ≡ list_any test us
any_kept test t [] h = refl
any_kept test t (u ∷ us) h = go (same_task t u) refl (any_kept test t us h)
  where
    go : (b : Bool) → same_task t u ≡ b → list_any test (rest_of t us) ≡ list_any test us
        → list_any test (cond (not b) (u ∷ rest_of t us) (rest_of t us)) ≡ (test u || list_any test us)
    go true e i =
        let same : t ≡ u = exact_task t u e in
        let out : test u ≡ false = ap test (sym same) ∙ h in
        i ∙ ap (λ c. c || list_any test us) (sym out)
    go false e i = ap (λ c. test u || c) i

pub any_once : (test : TaskId → Bool) (ts : List TaskId) → list_any test (once ts) ≡ list_any test ts
any_once test [] = refl
any_once test (t ∷ ts) = go (test t) refl (any_once test ts)
  where
    go : (b : Bool) → test t ≡ b → list_any test (once ts) ≡ list_any test ts
        → (test t || list_any test (rest_of t (once ts))) ≡ (test t || list_any test ts)
    go true e i = ap (λ c. c || list_any test (rest_of t (once ts))) e ∙ ap (λ c. c || list_any test ts) (sym e)
    go false e i = ap (λ c. test t || c) (any_kept test t (once ts) e ∙ i)

-- what is told next
pub tasks_push : (ts : List Told) (e : Told) → tasks (ts ++ e ∷ []) ≡ with_tasks (tasks ts) (begun e)
tasks_push ts e = ap once (flat_map-append begun ts (e ∷ [])) ∙ go e
  where
    go : (x : Told) → once (flat_map begun ts ++ flat_map begun (x ∷ [])) ≡ with_tasks (tasks ts) (begun x)
    go (told.started number worker from task) = once_push (flat_map begun ts) task
    go (told.ended number spawned copied how) = ap once (append-nil (flat_map begun ts))
    go (told.lost worker after) = ap once (append-nil (flat_map begun ts))
    go (told.late number) = ap once (append-nil (flat_map begun ts))
