-- Which starts began a task again, start by start.
use Rattle.std.proofs.Common.{◌≡◌, ℕ, List, [], ◌∷◌, ◌++◌, Bool, true, false, ◌&&◌, ◌||◌, cond, map, get_or, set, append-nil, append_assoc, refl, ap, sym, ◌∙◌, subst}
use Rattle.std.specs.Prelude.{nat_eq}
use Rattle.std.specs.List.{list_any}
use Rattle.std.specs.BTreeMap.{is_at}
use Rattle.std.specs.BTreeSet.{BTreeSet, Updates, contains}
use Rattle.std.specs.Ordering.{is_eq, nat_cmp, ordering_then}
use Rattle.std.specs.declared.cmp.Ordering.{Ordering}
use Rattle.std.proofs.Math.Seq.{map-set_same}
use Rattle.std.proofs.lemmas.List.{map-append}
use Rattle.std.proofs.lemmas.List.Folds.{list_any-append}
use Rattle.sky_base.specs.NameOrder.{name_cmp}
use Rattle.sky_base.specs.Val.{same_text}
use Rattle.sky_base.specs.declared.object.TaskId.{TaskId}
use Rattle.sky_base.proofs.NameTests.{same_test}
use Rattle.ciel_look_told.specs.Told as told
use Rattle.ciel_look_told.specs.View.{told_view}
use Rattle.ciel_look_told.specs.declared.told.Told.{Told}
use Rattle.ciel_look_tasks.specs.Again.{TellsOrigins, again_behind, again_by, agains, agains_behind, is_from}
use Rattle.ciel_look_tasks.specs.Origins.{has_origin, is_in, origin_cmp}
use Rattle.ciel_look_tasks.specs.Tasks.{Start, same_task, start_of, starts}
use Rattle.ciel_look_tasks.specs.View.{agains_view, run_again}
use Rattle.ciel_look_tasks.specs.declared.origins.Origins.{Origins}
use Rattle.ciel_look_tasks.specs.declared.scene.Run.{Run}
use Rattle.ciel_look_tasks.proofs.OrderPlaces.{same_number}

on_cond : (b c : Bool) → cond b true c ≡ (b || c)
on_cond true c = refl
on_cond false c = refl

-- ---- one origin more

pub wait_put : (old new : BTreeSet ℕ) (k w : ℕ) → Updates nat_cmp old new k true → contains nat_cmp new w ≡ (nat_eq k w || contains nat_cmp old w)
wait_put old new k w u =
    u.0 w ∙ on_cond (is_at (nat_cmp k) w) (contains nat_cmp old w) ∙ ap (λ b. b || contains nat_cmp old w) (same_number k w)

both_eq : (a b : Ordering) → is_eq (ordering_then a b) ≡ (is_eq a && is_eq b)
both_eq Ordering.Less b = refl
both_eq Ordering.Equal b = refl
both_eq Ordering.Greater b = refl

pub origin_test : (k n : List ℕ) (v w : ℕ) → is_eq (origin_cmp (k, v) (n, w)) ≡ (same_text n k && nat_eq v w)
origin_test k n v w =
    both_eq (name_cmp k n) (nat_cmp v w) ∙ ap (λ b. b && is_eq (nat_cmp v w)) (same_test k n) ∙ ap (λ b. same_text n k && b) (same_number v w)

pub origin_put : (old new : BTreeSet (List ℕ × ℕ)) (k n : List ℕ) (v w : ℕ) → Updates origin_cmp old new (k, v) true
    → contains origin_cmp new (n, w) ≡ ((same_text n k && nat_eq v w) || contains origin_cmp old (n, w))
origin_put old new k n v w u =
    u.0 (n, w) ∙ on_cond (is_at (origin_cmp (k, v)) (n, w)) (contains origin_cmp old (n, w))
    ∙ ap (λ b. b || contains origin_cmp old (n, w)) (origin_test k n v w)

-- of the root task, or of another
pub noted_show : (old new : BTreeSet ℕ) (others : BTreeSet (List ℕ × ℕ)) (id : TaskId) (k : ℕ) → id ≡ TaskId.Show
    → ((w : ℕ) → contains nat_cmp new w ≡ (nat_eq k w || contains nat_cmp old w)) → (t : TaskId) (w : ℕ)
    → is_in new others t w ≡ ((same_task t id && nat_eq k w) || is_in old others t w)
noted_show old new others id k e h t w = go t ∙ ap (λ i. (same_task t i && nat_eq k w) || is_in old others t w) (sym e)
  where
    go : (u : TaskId) → is_in new others u w ≡ ((same_task u TaskId.Show && nat_eq k w) || is_in old others u w)
    go TaskId.Show = h w
    go (TaskId.Of n) = refl

pub noted_other : (show : BTreeSet ℕ) (old new : BTreeSet (List ℕ × ℕ)) (id : TaskId) (name : List ℕ) (k : ℕ) → id ≡ TaskId.Of name
    → ((n : List ℕ) (w : ℕ) → contains origin_cmp new (n, w) ≡ ((same_text n name && nat_eq k w) || contains origin_cmp old (n, w)))
    → (t : TaskId) (w : ℕ) → is_in show new t w ≡ ((same_task t id && nat_eq k w) || is_in show old t w)
noted_other show old new id name k e h t w = go t ∙ ap (λ i. (same_task t i && nat_eq k w) || is_in show old t w) (sym e)
  where
    go : (u : TaskId) → is_in show new u w ≡ ((same_task u (TaskId.Of name) && nat_eq k w) || is_in show old u w)
    go TaskId.Show = refl
    go (TaskId.Of n) = h n w

-- ---- one start more

turned : (a b : Bool) → (a || b) ≡ (b || (a || false))
turned true true = refl
turned true false = refl
turned false true = refl
turned false false = refl

pub origins_next : (old new : Origins) (ss ns : List Start) (s : Start)
    → ((t : TaskId) (w : ℕ) → has_origin new t w ≡ ((same_task t s.1.1.1 && nat_eq s.1.1.0 w) || has_origin old t w)) → ns ≡ ss ++ s ∷ []
    → TellsOrigins old ss → TellsOrigins new ns
origins_next old new ss ns s n e h t w =
    n t w ∙ ap (λ b. is_from t w s || b) (h t w) ∙ turned (is_from t w s) (list_any (is_from t w) ss)
    ∙ sym (list_any-append (is_from t w) ss (s ∷ [])) ∙ ap (list_any (is_from t w)) (sym e)

pub origins_same : (old new : Origins) (ss ns : List Start) → new ≡ old → ns ≡ ss → TellsOrigins old ss → TellsOrigins new ns
origins_same old new ss ns o e h = subst (TellsOrigins new) (sym e) (subst (λ p. TellsOrigins p ss) (sym o) h)

pub origins_none : (o : Origins) (ss : List Start) → ((t : TaskId) (w : ℕ) → has_origin o t w ≡ false) → ss ≡ [] → TellsOrigins o ss
origins_none o ss n e t w = n t w ∙ ap (list_any (is_from t w)) (sym e)

pub agains_pushed : (xs ys : List Run) (x : Run) → ys ≡ xs ++ x ∷ [] → agains_view ys ≡ agains_view xs ++ run_again x ∷ []
agains_pushed xs ys x e = ap agains_view e ∙ map-append run_again xs (x ∷ [])

pub agains_closed : (rs : List Run) (i : ℕ) (x y : Run) → run_again y ≡ run_again x → x ≡ get_or rs i x → agains_view (set rs i y) ≡ agains_view rs
agains_closed rs i x y e v = map-set_same run_again rs i y x (e ∙ ap run_again v)

-- ---- an entry more is told

agains_push : (ss : List Start) (ts : List told.Told) (e : told.Told)
    → agains_behind ss (ts ++ e ∷ []) ≡ agains_behind ss ts ++ again_behind (ss ++ starts ts) e
agains_push ss [] e = append-nil (again_behind ss e) ∙ ap (λ us. again_behind us e) (sym (append-nil ss))
agains_push ss (t ∷ ts) e =
    ap (λ z. again_behind ss t ++ z)
    (agains_push (ss ++ start_of t) ts e
    ∙ ap (λ us. agains_behind (ss ++ start_of t) ts ++ again_behind us e) (append_assoc ss (start_of t) (starts ts)))
    ∙ sym (append_assoc (again_behind ss t) (agains_behind (ss ++ start_of t) ts) (again_behind (ss ++ (start_of t ++ starts ts)) e))

again_told : (o : Origins) (ss : List Start) (e : told.Told) → TellsOrigins o ss → again_by o e ≡ again_behind ss e
again_told o ss (told.started n w from task) h = ap (λ b. b ∷ []) (h task from)
again_told o ss (told.ended n spawned copied how) h = refl
again_told o ss (told.lost w after) h = refl
again_told o ss (told.late n) h = refl

pub agains_next : (o : Origins) (ss : List Start) (ts : List Told) (e : Told) (bs cs : List Bool) → TellsOrigins o ss → ss ≡ starts (map told_view ts)
    → bs ≡ agains (map told_view ts) → cs ≡ bs ++ again_by o (told_view e) → cs ≡ agains (map told_view (ts ++ e ∷ []))
agains_next o ss ts e bs cs h s b c =
    c ∙ ap (λ z. z ++ again_by o (told_view e)) b ∙ ap (λ z. agains (map told_view ts) ++ z) (again_told o ss (told_view e) h)
    ∙ ap (λ us. agains (map told_view ts) ++ again_behind us (told_view e)) s ∙ sym (agains_push [] (map told_view ts) (told_view e))
    ∙ ap agains (sym (map-append told_view ts (e ∷ [])))
