-- What a replay stands for, after each change.
use Rattle.std.proofs.Common.{◌≡◌, ◌≤◌, ◌<◌, ◌+◌, ℕ, zero, suc, List, [], ◌∷◌, ◌++◌, Bool, true, false, not, ◌&&◌, ◌||◌, cond, flat_map, is_some, length, map, get_or, take, slice_get, Option, Some, None, option_map}
use Rattle.std.proofs.Common.{append-nil, append_assoc, refl, ap, sym, ◌∙◌, subst}
use Rattle.std.specs.Prelude.{Vec}
use Rattle.std.specs.BTreeMap.{BTreeMap, Updates, UpdatesBy, get, is_at}
use Rattle.std.specs.List.{list_any}
use Rattle.std.specs.Map.{lookup}
use Rattle.std.specs.declared.alloc.Global.{Global}
use Rattle.std.proofs.lemmas.Grind.{flat_map-append}
use Rattle.std.proofs.lemmas.List.{map-append}
use Rattle.std.proofs.lemmas.Option.{slice_get-map}
use Rattle.sky_base.specs.NameOrder.{name_cmp}
use Rattle.sky_base.specs.Val.{Desc, known, same_text}
use Rattle.sky_base.specs.Names.{known_of}
use Rattle.sky_base.specs.declared.object.TaskId.{TaskId}
use Rattle.sky_base.proofs.Exact.{exact_text}
use Rattle.sky_base.proofs.NameTests.{same_test}
use Rattle.ciel_look_words.specs.declared.known.Known.{Known}
use Rattle.ciel_look_tasks.specs.Known.{knowns}
use Rattle.ciel_look_tasks.specs.Orders.{is_wait}
use Rattle.ciel_look_tasks.specs.SceneView.{made_at, one_of, order_view, picked, row_view, scene_view, taken_view, took_at}
use Rattle.ciel_look_tasks.specs.Seen.{Order, Row, is_of}
use Rattle.ciel_look_tasks.specs.Tasks.{place_in, same_task}
use Rattle.ciel_look_tasks.specs.View.{ending_view, happened_view, happening_view, ids}
use Rattle.ciel_look_tasks.specs.declared.scene.Happening.{Happening}
use Rattle.ciel_look_tasks.specs.declared.scene.Loss.{Loss}
use Rattle.ciel_look_tasks.specs.declared.scene.Run.{Run}
use Rattle.ciel_look_tasks.specs.declared.scene.Scene.{Scene}
use Rattle.ciel_look_tasks.specs.declared.scene.Task.{Task}
use Rattle.ciel_look_tasks.proofs.SceneRows.{ending_seen}
use Rattle.ciel_look_tasks.proofs.TaskLists.{any_place}
use Rattle.ciel_look_text.specs.Now.{Event, Now, after, after_all, began, closed, event_of, events, taken, desc_in, first_name, given_names, have, nothing_yet, ref_name, saved_by}
use Rattle.ciel_look_text.specs.Replays.{begun_event, closed_event, desc_at, event_view, listed, listed_at, orders_at, saves_at, stand_by, taken_event}
use Rattle.ciel_look_text.specs.Why.{is_row}
use Rattle.ciel_look_text.proofs.Going.{and_false}
use Rattle.ciel_look_text.proofs.Picking.{take_next}

-- ---- lists by names

module _ {A : Type 0} where
  pub taken_other : (old new : BTreeMap (List ℕ) (Vec A Global)) (k n : List ℕ) → UpdatesBy name_cmp (name_cmp k) old new None
      → same_text n k ≡ false → listed_at new n ≡ listed_at old n
  taken_other old new k n u f = ap listed (u.0 n ∙ ap (λ b. cond b None (get name_cmp old n)) (same_test k n ∙ f))

  pub put_listed : (old mid new : BTreeMap (List ℕ) (Vec A Global)) (k : List ℕ) (list : List A) (w : Vec A Global) (x : A)
      → list ≡ listed_at old k → ((n : List ℕ) → same_text n k ≡ false → listed_at mid n ≡ listed_at old n) → w.items ≡ list ++ x ∷ []
      → Updates name_cmp mid new k (Some w) → (n : List ℕ) → listed_at new n ≡ listed_at old n ++ cond (same_text n k) (x ∷ []) []
  put_listed old mid new k list w x e o p u n =
      ap listed (u.0 n ∙ ap (λ b. cond b (Some w) (get name_cmp mid n)) (same_test k n)) ∙ go (same_text n k) refl
    where
      go : (b : Bool) → same_text n k ≡ b → listed (cond b (Some w) (get name_cmp mid n)) ≡ listed_at old n ++ cond b (x ∷ []) []
      go true t =
          let same : n ≡ k = exact_text n k t in
          p ∙ ap (λ z. z ++ x ∷ []) (e ∙ ap (listed_at old) (sym same))
      go false f = o n f ∙ sym (append-nil (listed_at old n))

-- ---- objects that are put

have_push : (w : ℕ) (names : List (List ℕ)) (x n : List ℕ) → have w (names ++ x ∷ []) n ≡ have w names n ++ cond (same_text n x) (w ∷ []) []
have_push w names x n =
    flat_map-append (λ m. cond (same_text n m) (w ∷ []) []) names (x ∷ [])
    ∙ ap (λ z. have w names n ++ z) (append-nil (cond (same_text n x) (w ∷ []) []))

pub put_next : (old now new : BTreeMap (List ℕ) (Vec ℕ Global)) (w : ℕ) (names : List (List ℕ)) (i : ℕ) (x : List ℕ) → i < length names
    → x ≡ get_or names i x → ((n : List ℕ) → listed_at now n ≡ listed_at old n ++ have w (take i names) n)
    → ((n : List ℕ) → listed_at new n ≡ listed_at now n ++ cond (same_text n x) (w ∷ []) [])
    → (n : List ℕ) → listed_at new n ≡ listed_at old n ++ have w (take (i + 1) names) n
put_next old now new w names i x h e s p n =
    p n ∙ ap (λ z. z ++ cond (same_text n x) (w ∷ []) []) (s n)
    ∙ append_assoc (listed_at old n) (have w (take i names) n) (cond (same_text n x) (w ∷ []) [])
    ∙ ap (λ z. listed_at old n ++ z) (sym (have_push w (take i names) x n) ∙ sym (ap (λ xs. have w xs n) (take_next names i x h e)))

-- ---- the whole

pub stand_none : (rs : List Run) (m o : BTreeMap (List ℕ) (Vec ℕ Global)) (show gone : List ℕ) → m.entries ≡ [] → show ≡ [] → o.entries ≡ []
    → gone ≡ [] → stand_by rs m show o gone ≡ nothing_yet
stand_none rs m o show gone p h q g = λ i. record { workers = λ n. places n i; saved = λ t. saved t i; gone = g i }
  where
    places : (n : List ℕ) → listed_at m n ≡ []
    places n = ap (λ es. listed (lookup (is_at (name_cmp n)) es)) p

    saved : (t : TaskId) → orders_at rs (saves_at show o t) ≡ []
    saved TaskId.Show = ap (orders_at rs) h
    saved (TaskId.Of n) = ap (orders_at rs) (ap (λ es. listed (lookup (is_at (name_cmp n)) es)) q)

pub stand_lost : (s : Scene) (m o : BTreeMap (List ℕ) (Vec ℕ Global)) (show old new : List ℕ) (l : Loss) → new ≡ old ++ l.worker ∷ []
    → stand_by s.runs.items m show o new ≡ after (taken_event s l) (stand_by s.runs.items m show o old)
stand_lost s m o show old new l g = ap (stand_by s.runs.items m show o) g

orders_push : (rs : List Run) (ps qs : List ℕ) → orders_at rs (ps ++ qs) ≡ orders_at rs ps ++ orders_at rs qs
orders_push rs ps qs =
    ap (map order_view) (flat_map-append (λ i. one_of (slice_get rs i)) ps qs) ∙ map-append order_view (picked rs ps) (picked rs qs)

one_order : (rs : List Run) (p : ℕ) (r : Run) (b : Bool) → slice_get rs p ≡ Some r → orders_at rs (cond b (p ∷ []) []) ≡ cond b (order_view r ∷ []) []
one_order rs p r false e = refl
one_order rs p r true e = ap (λ o. map order_view (one_of o ++ [])) e

saved_is : (r : Run) (t : TaskId) (b : Bool) → is_wait (ending_view r.end) ≡ b
    → saved_by (order_view r) t ≡ cond (same_task t r.id && b) (order_view r ∷ []) []
saved_is r t b e = ap (λ c. cond (same_task t r.id && c) (order_view r ∷ []) []) (ap is_wait (ending_seen r.end) ∙ e)

and_true : (b : Bool) → (b && true) ≡ b
and_true true = refl
and_true false = refl

-- an order ended
pub stand_ended : (rs : List Run) (m mid n o p : BTreeMap (List ℕ) (Vec ℕ Global)) (show now gone left : List ℕ) (run : Run)
    → ((k : List ℕ) → listed_at mid k ≡ listed_at m k ++ have run.worker (took_at run.end) k)
    → ((k : List ℕ) → listed_at n k ≡ listed_at mid k ++ have run.worker (made_at run.end) k)
    → ((t : TaskId) → orders_at rs (saves_at now p t) ≡ orders_at rs (saves_at show o t) ++ saved_by (order_view run) t)
    → left ≡ gone → stand_by rs n now p left ≡ after (closed_event run) (stand_by rs m show o gone)
stand_ended rs m mid n o p show now gone left run took made saved same =
    λ i. record {
      workers = λ k. all k i;
      saved = λ t. saved t i;
      gone = same i;
    }
  where
    all : (k : List ℕ) → listed_at n k ≡ listed_at m k ++ (have run.worker (took_at run.end) k ++ have run.worker (made_at run.end) k)
    all k =
        made k ∙ ap (λ z. z ++ have run.worker (made_at run.end) k) (took k)
        ∙ append_assoc (listed_at m k) (have run.worker (took_at run.end) k) (have run.worker (made_at run.end) k)

pub saves_more : (rs : List Run) (p : ℕ) (run : Run) (t : TaskId) (old new : List ℕ) → is_wait (ending_view run.end) ≡ true
    → slice_get rs p ≡ Some run → new ≡ old ++ cond (same_task t run.id) (p ∷ []) []
    → orders_at rs new ≡ orders_at rs old ++ saved_by (order_view run) t
saves_more rs p run t old new w e h =
    ap (orders_at rs) h ∙ orders_push rs old (cond (same_task t run.id) (p ∷ []) [])
    ∙ ap (λ z. orders_at rs old ++ z) (one_order rs p run (same_task t run.id) e)
    ∙ ap (λ b. orders_at rs old ++ cond b (order_view run ∷ []) []) (sym (and_true (same_task t run.id)))
    ∙ ap (λ z. orders_at rs old ++ z) (sym (saved_is run t true w))

pub saves_same : (rs : List Run) (run : Run) (t : TaskId) (old : List ℕ) → is_wait (ending_view run.end) ≡ false
    → orders_at rs old ≡ orders_at rs old ++ saved_by (order_view run) t
saves_same rs run t old w =
    sym (append-nil (orders_at rs old))
    ∙ ap (λ b. orders_at rs old ++ cond b (order_view run ∷ []) []) (sym (and_false (same_task t run.id) false refl))
    ∙ ap (λ z. orders_at rs old ++ z) (sym (saved_is run t false w))

pub saves_show : (id : TaskId) (p : ℕ) (old new : List ℕ) (o : BTreeMap (List ℕ) (Vec ℕ Global)) → id ≡ TaskId.Show → new ≡ old ++ p ∷ [] → (t : TaskId)
    → saves_at new o t ≡ saves_at old o t ++ cond (same_task t id) (p ∷ []) []
saves_show id p old new o e h t = go t ∙ ap (λ i. saves_at old o t ++ cond (same_task t i) (p ∷ []) []) (sym e)
  where
    go : (u : TaskId) → saves_at new o u ≡ saves_at old o u ++ cond (same_task u TaskId.Show) (p ∷ []) []
    go TaskId.Show = h
    go (TaskId.Of n) = sym (append-nil (listed_at o n))

pub saves_other : (id : TaskId) (name : List ℕ) (p : ℕ) (show : List ℕ) (o n : BTreeMap (List ℕ) (Vec ℕ Global)) → id ≡ TaskId.Of name
    → ((k : List ℕ) → listed_at n k ≡ listed_at o k ++ cond (same_text k name) (p ∷ []) []) → (t : TaskId)
    → saves_at show n t ≡ saves_at show o t ++ cond (same_task t id) (p ∷ []) []
saves_other id name p show o n e h t = go t ∙ ap (λ i. saves_at show o t ++ cond (same_task t i) (p ∷ []) []) (sym e)
  where
    go : (u : TaskId) → saves_at show n u ≡ saves_at show o u ++ cond (same_task u (TaskId.Of name)) (p ∷ []) []
    go TaskId.Show = sym (append-nil show)
    go (TaskId.Of k) = h k

-- which events those are
module _ (s : Scene) where
  event_seen : (h : Happening) → event_of (scene_view s) (happening_view h) ≡ event_view s h
  event_seen (Happening.Begun p) = ap (λ o. map began (one_of o)) (slice_get-map order_view s.runs.items p) ∙ go (slice_get s.runs.items p)
    where
      go : (o : Option Run) → map began (one_of (option_map order_view o)) ≡ map begun_event (one_of o)
      go None = refl
      go (Some r) = refl
  event_seen (Happening.Ended p) = ap (λ o. map closed (one_of o)) (slice_get-map order_view s.runs.items p) ∙ go (slice_get s.runs.items p)
    where
      go : (o : Option Run) → map closed (one_of (option_map order_view o)) ≡ map closed_event (one_of o)
      go None = refl
      go (Some r) = refl
  event_seen (Happening.Lost p) = ap (λ o. map taken (one_of o)) (slice_get-map (taken_view s) s.losses.items p) ∙ go (slice_get s.losses.items p)
    where
      go : (o : Option Loss) → map taken (one_of (option_map (taken_view s) o)) ≡ map (taken_event s) (one_of o)
      go None = refl
      go (Some l) = refl

  events_of : (hs : List Happening) → flat_map (event_of (scene_view s)) (happened_view hs) ≡ flat_map (event_view s) hs
  events_of [] = refl
  events_of (h ∷ hs) =
      ap (λ es. es ++ flat_map (event_of (scene_view s)) (happened_view hs)) (event_seen h) ∙ ap (λ es. event_view s h ++ es) (events_of hs)

  pub events_seen : flat_map (event_view s) s.happened.items ≡ events (scene_view s)
  events_seen = sym (events_of s.happened.items)

pub begun_same : (o : Option Run) (now : Now) → now ≡ after_all (map begun_event (one_of o)) now
begun_same None now = refl
begun_same (Some r) now = refl

pub ended_one : (o : Option Run) (r : Run) (old new : Now) → o ≡ Some r → new ≡ after (closed_event r) old
    → new ≡ after_all (map closed_event (one_of o)) old
ended_one o r old new e h = h ∙ sym (ap (λ p. after_all (map closed_event (one_of p)) old) e)

pub ended_none : (o : Option Run) (now : Now) → o ≡ None → now ≡ after_all (map closed_event (one_of o)) now
ended_none o now e = sym (ap (λ p. after_all (map closed_event (one_of p)) now) e)

pub lost_one : (s : Scene) (o : Option Loss) (l : Loss) (old new : Now) → o ≡ Some l → new ≡ after (taken_event s l) old
    → new ≡ after_all (map (taken_event s) (one_of o)) old
lost_one s o l old new e h = h ∙ sym (ap (λ p. after_all (map (taken_event s) (one_of p)) old) e)

pub lost_none : (s : Scene) (o : Option Loss) (now : Now) → o ≡ None → now ≡ after_all (map (taken_event s) (one_of o)) now
lost_none s o now e = sym (ap (λ p. after_all (map (taken_event s) (one_of p)) now) e)

-- ---- names

pub names_known : (ns : List (List ℕ)) → flat_map ref_name (known_of ns) ≡ ns
names_known [] = refl
names_known (n ∷ ns) = ap (λ z. n ∷ z) (names_known ns)

pub first_of : (ks : List Known) (k : Known) → Some k ≡ slice_get ks 0 → k.name ∷ [] ≡ first_name (knowns ks)
first_of [] k e = absurd cc
first_of (x ∷ ks) k e = ap (λ (y : Known). y.name ∷ []) (inner k x e)
  where
    inner : (a b : Known) → Some a ≡ Some b → a ≡ b
    inner a b h = cc

pub first_none : (ks : List Known) → None ≡ slice_get ks 0 → [] ≡ first_name (knowns ks)
first_none [] e = refl
first_none (x ∷ ks) e = absurd cc

-- ---- tasks and their descriptions

abbrev task_at : Option ℕ → List Task → Option Task
task_at None ts = None
task_at (Some p) ts = slice_get ts p

desc_there : (s : Scene) (t : TaskId) (ts : List Task) → desc_in t (map (row_view s) ts) ≡ desc_at s (task_at (place_in t (ids ts)) ts)
desc_there s t [] = refl
desc_there s t (x ∷ ts) = go (same_task t x.id) (place_in t (ids ts)) (desc_there s t ts)
  where
    go : (b : Bool) (o : Option ℕ) → desc_in t (map (row_view s) ts) ≡ desc_at s (task_at o ts)
        → cond b (desc_at s (Some x)) (desc_in t (map (row_view s) ts)) ≡ desc_at s (task_at (cond b (Some 0) (option_map suc o)) (x ∷ ts))
    go true o h = refl
    go false None h = h
    go false (Some p) h = h

pub given_there : (s : Scene) (t : TaskId) (p : ℕ) (names : List (List ℕ)) → Some p ≡ place_in t (ids s.roll.tasks.items)
    → names ≡ given_names (desc_at s (slice_get s.roll.tasks.items p)) → names ≡ given_names (desc_in t (map (row_view s) s.roll.tasks.items))
given_there s t p names e h =
    h ∙ ap given_names (ap (λ o. desc_at s (task_at o s.roll.tasks.items)) e ∙ sym (desc_there s t s.roll.tasks.items))

pub given_nowhere : (s : Scene) (t : TaskId) (names : List (List ℕ)) → None ≡ place_in t (ids s.roll.tasks.items) → names ≡ []
    → names ≡ given_names (desc_in t (map (row_view s) s.roll.tasks.items))
given_nowhere s t names e h =
    h ∙ ap given_names (ap (λ o. desc_at s (task_at o s.roll.tasks.items)) e ∙ sym (desc_there s t s.roll.tasks.items))

row_any : (s : Scene) (t : TaskId) (ts : List Task) → is_row t (map (row_view s) ts) ≡ list_any (same_task t) (ids ts)
row_any s t [] = refl
row_any s t (x ∷ ts) = ap (λ b. same_task t x.id || b) (row_any s t ts)

pub row_place : (s : Scene) (t : TaskId) (o : Option ℕ) → o ≡ place_in t (ids s.roll.tasks.items)
    → is_row t (map (row_view s) s.roll.tasks.items) ≡ is_some o
row_place s t o e = row_any s t s.roll.tasks.items ∙ any_place t (ids s.roll.tasks.items) ∙ ap is_some (sym e)
