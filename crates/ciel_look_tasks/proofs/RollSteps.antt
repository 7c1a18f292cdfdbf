-- How a roll of tasks grows.
use Rattle.std.proofs.Common.{◌≡◌, ◌<◌, ℕ, zero, suc, List, [], ◌∷◌, ◌++◌, length, Option, Some, None, map, get_or, set, ap, sym, ◌∙◌, subst, refl, append-nil}
use Rattle.std.proofs.Common.{arith, cond, is_some, option_map, slice_get}
use Rattle.std.specs.List.{list_any}
use Rattle.std.proofs.lemmas.Option.{slice_get-map, slice_get_read}
use Rattle.std.proofs.lemmas.Simd.{map-map}
use Rattle.std.proofs.lemmas.Grind.{flat_map-append}
use Rattle.std.specs.BTreeMap.{BTreeMap, Updates, get}
use Rattle.std.proofs.lemmas.List.{map-append, length-map, map-set}
use Rattle.std.proofs.Math.Seq.{map-set_same}
use Rattle.sky_base.specs.NameOrder.{name_cmp}
use Rattle.sky_base.specs.declared.object.TaskId.{TaskId}
use Rattle.ciel_look_told.specs.Head.{Head, short}
use Rattle.ciel_look_told.specs.View.{told_view}
use Rattle.ciel_look_told.specs.declared.told.Told.{Told}
use Rattle.ciel_look_words.specs.declared.known.Known.{Known}
use Rattle.ciel_look_tasks.specs.Heads.{AreDescribed, heading_task, with_begun, with_heading}
use Rattle.ciel_look_tasks.specs.Known.{Named, knowns}
use Rattle.ciel_look_tasks.specs.Learned.{known, learned, spawned}
use Rattle.ciel_look_tasks.specs.Rows.{AreFiled, Filed, filed_task, with_row}
use Rattle.ciel_look_tasks.specs.Tasks.{Start, begun, loss_of, losses, place_in, same_task, start_of, starts, tasks, with_tasks}
use Rattle.ciel_look_tasks.specs.View.{heading_view, headings, ids, row_filed, rows, start_view, starts_view}
use Rattle.ciel_look_tasks.specs.declared.scene.Run.{Run}
use Rattle.ciel_look_tasks.specs.declared.scene.Task.{Task}
use Rattle.ciel_look_tasks.proofs.HeadSteps.{described_next}
use Rattle.ciel_look_tasks.proofs.RowSteps.{filed_next, filed_with}
use Rattle.ciel_look_tasks.proofs.TaskLists.{any_place, found_more, place_new, place_other, tasks_push}

pub ids_push : (xs ys : List Task) (x : Task) (t : TaskId) → ys ≡ xs ++ x ∷ [] → x.id ≡ t → ids ys ≡ ids xs ++ t ∷ []
ids_push xs ys x t p e =
    ap ids p ∙ map-append (λ (y : Task). y.id) xs (x ∷ []) ∙ ap (λ (u : TaskId). ids xs ++ u ∷ []) e

pub ids_length : (xs : List Task) (n : ℕ) → n ≡ length xs → n ≡ length (ids xs)
ids_length xs n e = e ∙ sym (length-map xs (λ (y : Task). y.id))

-- the root task is new
pub root_next : (xs ys : List Task) (x : Task) (n : ℕ) → ys ≡ xs ++ x ∷ [] → x.id ≡ TaskId.Show → n ≡ length xs → place_in x.id (ids xs) ≡ None
    → Some n ≡ place_in TaskId.Show (ids ys)
root_next xs ys x n p e l none =
    ap Some (ids_length xs n l) ∙ sym (place_new TaskId.Show (ids xs) (subst (λ t. place_in t (ids xs) ≡ None) e none))
    ∙ sym (ap (place_in TaskId.Show) (ids_push xs ys x TaskId.Show p e))

pub others_stay : (xs ys : List Task) (x : Task) (m : BTreeMap (List ℕ) ℕ) → ys ≡ xs ++ x ∷ [] → x.id ≡ TaskId.Show
    → ((n : List ℕ) → get name_cmp m n ≡ place_in (TaskId.Of n) (ids xs)) → (n : List ℕ) → get name_cmp m n ≡ place_in (TaskId.Of n) (ids ys)
others_stay xs ys x m p e h n =
    h n ∙ sym (ap (place_in (TaskId.Of n)) (ids_push xs ys x TaskId.Show p e) ∙ place_other (TaskId.Of n) TaskId.Show (ids xs) refl)

-- another task is new
pub root_stays : (xs ys : List Task) (x : Task) (show : Option ℕ) (k : List ℕ) → ys ≡ xs ++ x ∷ [] → x.id ≡ TaskId.Of k
    → show ≡ place_in TaskId.Show (ids xs) → show ≡ place_in TaskId.Show (ids ys)
root_stays xs ys x show k p e h =
    h ∙ sym (ap (place_in TaskId.Show) (ids_push xs ys x (TaskId.Of k) p e) ∙ place_other TaskId.Show (TaskId.Of k) (ids xs) refl)

pub found_next : (xs ys : List Task) (x : Task) (n : ℕ) (k : List ℕ) (old new : BTreeMap (List ℕ) ℕ) → ys ≡ xs ++ x ∷ [] → x.id ≡ TaskId.Of k
    → n ≡ length xs → place_in x.id (ids xs) ≡ None → ((q : List ℕ) → get name_cmp old q ≡ place_in (TaskId.Of q) (ids xs))
    → Updates name_cmp old new k (Some n) → (q : List ℕ) → get name_cmp new q ≡ place_in (TaskId.Of q) (ids ys)
found_next xs ys x n k old new p e l none h u q =
    found_more old new (ids xs) k h (subst (λ t. place_in t (ids xs) ≡ None) e none)
    (subst (λ i. Updates name_cmp old new k (Some i)) (ids_length xs n l) u) q
    ∙ sym (ap (place_in (TaskId.Of q)) (ids_push xs ys x (TaskId.Of k) p e))

-- ---- an order more of a task

pub ids_noted : (xs : List Task) (i : ℕ) (x y : Task) → y.id ≡ x.id → x ≡ get_or xs i x → ids (set xs i y) ≡ ids xs
ids_noted xs i x y e v = map-set_same (λ (t : Task). t.id) xs i y x (e ∙ ap (λ (t : Task). t.id) v)

-- ---- tasks with the places of their orders

rows_tasks : (ts : List Task) → map filed_task (rows ts) ≡ ids ts
rows_tasks ts = map-map filed_task row_filed ts

pub rows_push : (xs ys : List Task) (x : Task) → ys ≡ xs ++ x ∷ [] → rows ys ≡ rows xs ++ row_filed x ∷ []
rows_push xs ys x p = ap rows p ∙ map-append row_filed xs (x ∷ [])

with_row_is : (t : TaskId) (ts : List Task) (o : Option ℕ) → o ≡ place_in t (ids ts)
    → with_row (rows ts) t ≡ cond (is_some o) (rows ts) (rows ts ++ (t, []) ∷ [])
with_row_is t ts o e =
    ap (λ us. cond (list_any (same_task t) us) (rows ts) (rows ts ++ (t, []) ∷ [])) (rows_tasks ts)
    ∙ ap (λ b. cond b (rows ts) (rows ts ++ (t, []) ∷ [])) (any_place t (ids ts) ∙ ap is_some (sym e))

pub row_there : (t : TaskId) (ts : List Task) (p : ℕ) → Some p ≡ place_in t (ids ts) → rows ts ≡ with_row (rows ts) t
row_there t ts p e = sym (with_row_is t ts (Some p) e)

pub row_new : (t : TaskId) (ts us : List Task) (ps : List ℕ) → None ≡ place_in t (ids ts) → ps ≡ [] → rows us ≡ rows ts ++ (t, ps) ∷ []
    → rows us ≡ with_row (rows ts) t
row_new t ts us ps e f g = g ∙ ap (λ qs. rows ts ++ (t, qs) ∷ []) f ∙ sym (with_row_is t ts None e)

-- ---- tasks with the places of their descriptions

headings_tasks : (ts : List Task) → map heading_task (headings ts) ≡ ids ts
headings_tasks ts = map-map heading_task heading_view ts

with_heading_is : (t : TaskId) (k : Option ℕ) (ts : List Task) (o : Option ℕ) → o ≡ place_in t (ids ts)
    → with_heading (headings ts) t k ≡ cond (is_some o) (headings ts) (headings ts ++ (t, k) ∷ [])
with_heading_is t k ts o e =
    ap (λ us. cond (list_any (same_task t) us) (headings ts) (headings ts ++ (t, k) ∷ [])) (headings_tasks ts)
    ∙ ap (λ b. cond b (headings ts) (headings ts ++ (t, k) ∷ [])) (any_place t (ids ts) ∙ ap is_some (sym e))

pub heading_there : (t : TaskId) (k : Option ℕ) (ts : List Task) (p : ℕ) → Some p ≡ place_in t (ids ts) → headings ts ≡ with_heading (headings ts) t k
heading_there t k ts p e = sym (with_heading_is t k ts (Some p) e)

pub heading_new : (t : TaskId) (k : Option ℕ) (ts us : List Task) → None ≡ place_in t (ids ts) → headings us ≡ headings ts ++ (t, k) ∷ []
    → headings us ≡ with_heading (headings ts) t k
heading_new t k ts us e g = g ∙ sym (with_heading_is t k ts None e)

pub headings_noted : (xs : List Task) (i : ℕ) (x y : Task) → heading_view y ≡ heading_view x → x ≡ get_or xs i x → headings (set xs i y) ≡ headings xs
headings_noted xs i x y e v = map-set_same heading_view xs i y x (e ∙ ap heading_view v)

-- an entry more is told
pub heads_next : (head : Head) (ts : List Told) (e : Told) (old new : List Task) (ks : List Known) (ls : List Named)
    → AreDescribed head (map told_view ts) (knowns ks) (headings old) → knowns ks ≡ known head (map told_view ts)
    → ids old ≡ tasks (map told_view ts) → ls ≡ learned (short head) (knowns ks) (spawned (told_view e))
    → headings new ≡ with_begun ks (headings old) (told_view e) → AreDescribed head (map told_view (ts ++ e ∷ [])) ls (headings new)
heads_next head ts e old new ks ls d k i l h =
    subst (AreDescribed head (map told_view (ts ++ e ∷ [])) ls) (sym h)
    (subst (λ us. AreDescribed head us ls (with_begun ks (headings old) (told_view e))) (sym (map-append told_view ts (e ∷ [])))
    (described_next head (map told_view ts) ks (headings old) (told_view e) ls d k (headings_tasks old ∙ i) l))

pub heads_first : (head : Head) (ks : List Named) (ts : List Task) → headings ts ≡ [] → AreDescribed head [] ks (headings ts)
heads_first head ks ts e = subst (AreDescribed head [] ks) (sym e) tt

pub heads_same : (head : Head) (ts us : List Told) (old new : List Task) (ks ls : List Named) → headings new ≡ headings old → ls ≡ ks → ts ≡ us
    → AreDescribed head (map told_view ts) ks (headings old) → AreDescribed head (map told_view us) ls (headings new)
heads_same head ts us old new ks ls h k t d =
    subst (λ vs. AreDescribed head (map told_view vs) ls (headings new)) t
    (subst (λ xs. AreDescribed head (map told_view ts) xs (headings new)) (sym k) (subst (AreDescribed head (map told_view ts) ks) (sym h) d))

-- ---- a row

the_row : {A : Type 0} (x y : A) → Some x ≡ Some y → x ≡ y
the_row x y h = cc

pub rows_noted : (ts : List Task) (i : ℕ) (x y : Task) (run : ℕ) → i < length ts → x ≡ get_or ts i x → y.id ≡ x.id
    → y.runs.items ≡ x.runs.items ++ run ∷ [] → (f : Filed) → slice_get (rows ts) i ≡ Some f
    → rows (set ts i y) ≡ set (rows ts) i (f.0, f.1 ++ run ∷ [])
rows_noted ts i x y run l v e r f h =
    let there : slice_get (rows ts) i ≡ Some (row_filed x) =
    slice_get-map row_filed ts i ∙ ap (option_map row_filed) (slice_get_read ts (length ts) i x refl l v) in
    let same : f ≡ row_filed x = the_row f (row_filed x) (sym h ∙ there) in
    map-set row_filed ts i y ∙ ap (λ t. set (rows ts) i (t, y.runs.items)) e ∙ ap (λ ps. set (rows ts) i (x.id, ps)) r
    ∙ ap (λ (g : Filed). set (rows ts) i (g.0, g.1 ++ run ∷ [])) (sym same)

pub row_within : {A : Type 0} (xs : List A) (i : ℕ) (x : A) → slice_get xs i ≡ Some x → i < length xs
row_within [] i x h = absurd cc
row_within (y ∷ xs) zero x h = omega arith
row_within (y ∷ xs) (suc i) x h = let within = row_within xs i x h in omega (arith, within)

pub no_row : (ts : List Task) (i : ℕ) (x : Filed) → slice_get (rows ts) i ≡ Some x → (i < length ts → ⊥) → ⊥
no_row ts i x h l = let within = row_within (rows ts) i x h in l (omega (arith, within, length-map ts row_filed))

pub rows_none : (ts : List Task) (ss : List Start) → rows ts ≡ [] → ss ≡ [] → AreFiled (rows ts) ss
rows_none ts ss e f =
    subst (AreFiled (rows ts)) (sym f)
    (subst (λ (rs : List Filed). AreFiled rs []) (sym e) (record { rows = refl; once = tt; none = λ t h. refl }))

-- a start more
pub rows_begun : (old mid new : List Task) (ss ns : List Start) (s : Start) (p n : ℕ) → rows mid ≡ with_row (rows old) s.1.1.1
    → place_in s.1.1.1 (ids mid) ≡ Some p → ns ≡ ss ++ s ∷ [] → n ≡ length ss
    → ((x : Filed) → slice_get (rows mid) p ≡ Some x → rows new ≡ set (rows mid) p (x.0, x.1 ++ n ∷ [])) → AreFiled (rows old) ss
    → AreFiled (rows new) ns
rows_begun old mid new ss ns s p n m place e l put h =
    subst (AreFiled (rows new)) (sym e)
    (filed_next ss s (rows mid) (rows new) p (subst (λ rs. AreFiled rs ss) (sym m) (filed_with (rows old) ss s.1.1.1 h))
    (ap (place_in s.1.1.1) (rows_tasks mid) ∙ place)
    (λ x g. put x g ∙ ap (λ k. set (rows mid) p (x.0, x.1 ++ k ∷ [])) l))

pub rows_same : (old new : List Task) (ss ns : List Start) → rows new ≡ rows old → ns ≡ ss → AreFiled (rows old) ss → AreFiled (rows new) ns
rows_same old new ss ns r s h = subst (AreFiled (rows new)) (sym s) (subst (λ rs. AreFiled rs ss) (sym r) h)

-- ---- an entry more is told

-- all was gone through
pub all_yielded : {A : Type 0} (xs ys zs : List A) → length ys ≡ 0 → xs ++ ys ≡ zs → xs ≡ zs
all_yielded xs [] zs h e = sym (append-nil xs) ∙ e
all_yielded xs (y ∷ ys) zs h e = absurd cc

pub tasks_next : (ts : List Told) (e : Told) (us vs : List TaskId) → us ≡ tasks (map told_view ts) → vs ≡ with_tasks us (begun (told_view e))
    → vs ≡ tasks (map told_view (ts ++ e ∷ []))
tasks_next ts e us vs u v =
    v ∙ ap (λ xs. with_tasks xs (begun (told_view e))) u ∙ sym (tasks_push (map told_view ts) (told_view e))
    ∙ sym (ap tasks (map-append told_view ts (e ∷ [])))

pub starts_next : (ts : List Told) (e : Told) (us vs : List Start) → us ≡ starts (map told_view ts) → vs ≡ us ++ start_of (told_view e)
    → vs ≡ starts (map told_view (ts ++ e ∷ []))
starts_next ts e us vs u v =
    v ∙ ap (λ xs. xs ++ start_of (told_view e)) u ∙ ap (λ xs. starts (map told_view ts) ++ xs) (sym (append-nil (start_of (told_view e))))
    ∙ sym (flat_map-append start_of (map told_view ts) (told_view e ∷ [])) ∙ sym (ap starts (map-append told_view ts (e ∷ [])))

pub losses_next : (ts : List Told) (e : Told) (us vs : List (ℕ × ℕ)) → us ≡ losses (map told_view ts) → vs ≡ us ++ loss_of (told_view e)
    → vs ≡ losses (map told_view (ts ++ e ∷ []))
losses_next ts e us vs u v =
    v ∙ ap (λ xs. xs ++ loss_of (told_view e)) u ∙ ap (λ xs. losses (map told_view ts) ++ xs) (sym (append-nil (loss_of (told_view e))))
    ∙ sym (flat_map-append loss_of (map told_view ts) (told_view e ∷ [])) ∙ sym (ap losses (map-append told_view ts (e ∷ [])))

-- ---- an order more, and one that ends

pub starts_pushed : (xs ys : List Run) (x : Run) → ys ≡ xs ++ x ∷ [] → starts_view ys ≡ starts_view xs ++ start_view x ∷ []
starts_pushed xs ys x e = ap starts_view e ∙ map-append start_view xs (x ∷ [])

pub starts_closed : (rs : List Run) (i : ℕ) (x y : Run) → start_view y ≡ start_view x → x ≡ get_or rs i x
    → starts_view (set rs i y) ≡ starts_view rs
starts_closed rs i x y e v = map-set_same start_view rs i y x (e ∙ ap start_view v)
