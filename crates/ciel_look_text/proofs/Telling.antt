-- What is told of a task, event by event.
use Rattle.std.proofs.Common.{◌≡◌, ◌≤◌, ◌+◌, ℕ, zero, suc, List, [], ◌∷◌, ◌++◌, Bool, true, false, ◌||◌, cond, flat_map, length, map, get_or, take, slice_get, Option, Some, None, option_map}
use Rattle.std.proofs.Common.{append-nil, append_assoc, arith, codes, refl, ap, sym, ◌∙◌, subst}
use Rattle.std.specs.List.{list_any}
use Rattle.std.proofs.lemmas.Grind.{flat_map-append}
use Rattle.std.proofs.lemmas.List.{map-append}
use Rattle.std.proofs.lemmas.List.Folds.{list_any-append}
use Rattle.ciel_look_shown.specs.Plain.{shown}
use Rattle.sky_base.specs.declared.object.TaskId.{TaskId}
use Rattle.ciel_look_tasks.specs.SceneView.{one_of, order_view, picked}
use Rattle.ciel_look_tasks.specs.Seen.{Order, Seen}
use Rattle.ciel_look_tasks.specs.Tasks.{Start, same_task}
use Rattle.ciel_look_tasks.specs.View.{ids, start_view}
use Rattle.ciel_look_tasks.specs.declared.scene.Happening.{Happening}
use Rattle.ciel_look_tasks.specs.declared.scene.Run.{Run}
use Rattle.ciel_look_tasks.specs.declared.scene.Task.{Task}
use Rattle.ciel_look_text.specs.Now.{Event, Now, after, after_all, is_left, latest, nothing_yet, order_worker}
use Rattle.ciel_look_text.specs.Replays.{closed_event}
use Rattle.ciel_look_text.specs.Text.{ended, text}
use Rattle.ciel_look_text.specs.Why.{PutsAll, Says, SaysAll, cut_start}
use Rattle.ciel_look_text.proofs.Lines.{put_ended}
use Rattle.ciel_look_text.proofs.Picking.{take_all}

-- ---- events, one after another

says_append : (s : Seen) (t : TaskId) (es fs : List Event) (now : Now) (a b : List (List ℕ)) → SaysAll s now t es a
    → SaysAll s (after_all es now) t fs b → SaysAll s now t (es ++ fs) (a ++ b)
says_append s t [] fs now a b h k = subst (λ z. SaysAll s now t fs (z ++ b)) (sym h) k
says_append s t (e ∷ es) fs now a b h k =
    (h.0, h.1 ++ b, h.2, says_append s t es fs (after e now) h.1 b h.3 k, ap (λ z. z ++ b) h.4 ∙ append_assoc h.0 h.1 b)

after_append : (es fs : List Event) (now : Now) → after_all (es ++ fs) now ≡ after_all fs (after_all es now)
after_append [] fs now = refl
after_append (e ∷ es) fs now = after_append es fs (after e now)

take_one : {A : Type 0} (xs : List A) (i : ℕ) → take (i + 1) xs ≡ take i xs ++ one_of (slice_get xs i)
take_one [] zero = refl
take_one [] (suc i) =
    let next : suc i + 1 ≡ suc (i + 1) = omega arith in
    rw next refl
take_one (x ∷ xs) zero = refl
take_one (x ∷ xs) (suc i) =
    let next : suc i + 1 ≡ suc (i + 1) = omega arith in
    rw next (ap (λ ys. x ∷ ys) (take_one xs i))

module _ (s : Seen) (t : TaskId) (v : Happening → List Event) (all : List Happening) where
  -- what stands, and what is told, when so many happened
  pub record Told (i : ℕ) (now : Now) (bytes : List ℕ) : Type 0 where
    pub lines : List (List ℕ)
    pub says : SaysAll s nothing_yet t (flat_map v (take i all)) lines
    pub put : bytes ≡ text lines
    pub stands : now ≡ after_all (flat_map v (take i all)) nothing_yet

  pub told_none : (now : Now) (bytes : List ℕ) → now ≡ nothing_yet → bytes ≡ [] → Told 0 now bytes
  told_none now bytes e p = record { lines = []; says = refl; put = p; stands = e }

  pub told_next : (i : ℕ) (now then : Now) (old new : List ℕ) → Told i now old → PutsAll s now t (flat_map v (one_of (slice_get all i))) old new
      → then ≡ after_all (flat_map v (one_of (slice_get all i))) now → Told (i + 1) then new
  told_next i now then old new told p a =
      let here = flat_map v (one_of (slice_get all i)) in
      let more : flat_map v (take (i + 1) all) ≡ flat_map v (take i all) ++ here =
      ap (flat_map v) (take_one all i) ∙ flat_map-append v (take i all) (one_of (slice_get all i)) in
      record {
        lines = told.lines ++ p.0;
        says = subst (λ es. SaysAll s nothing_yet t es (told.lines ++ p.0)) (sym more)
            (says_append s t (flat_map v (take i all)) here nothing_yet told.lines p.0 told.says (subst (λ n. SaysAll s n t here p.0) told.stands p.1));
        put = p.2 ∙ ap (λ z. z ++ text p.0) told.put ∙ sym (flat_map-append ended told.lines p.0);
        stands = a ∙ ap (after_all here) told.stands ∙ sym (after_append (flat_map v (take i all)) here nothing_yet)
            ∙ ap (λ es. after_all es nothing_yet) (sym more);
      }

  pub told_why : (i : ℕ) (now : Now) (bytes : List ℕ) → length all ≤ i → Told i now bytes
      → (lines : List (List ℕ)) × SaysAll s nothing_yet t (flat_map v all) lines × (bytes ≡ text lines)
  told_why i now bytes h told =
      (told.lines, subst (λ xs. SaysAll s nothing_yet t (flat_map v xs) told.lines) (take_all all i h) told.says, told.put)

-- ---- one event

module _ (s : Seen) (now : Now) (t : TaskId) where
  pub puts_none : (bytes : List ℕ) → PutsAll s now t [] bytes bytes
  puts_none bytes = ([], refl, sym (append-nil bytes))

  pub puts_one : (e : Event) (old new : List ℕ) (lines : List (List ℕ)) → Says s now t e lines → new ≡ old ++ text lines → PutsAll s now t (e ∷ []) old new
  puts_one e old new lines h p = (lines, (lines, [], h, refl, sym (append-nil lines)), p)

  pub puts_nothing : (e : Event) (bytes : List ℕ) → Says s now t e [] → PutsAll s now t (e ∷ []) bytes bytes
  puts_nothing e bytes h = puts_one e bytes bytes [] h (sym (append-nil bytes))

pub puts_ended : (s : Seen) (now : Now) (t : TaskId) (o : Option Run) (bytes : List ℕ) → PutsAll s now t (map closed_event (one_of o)) bytes bytes
puts_ended s now t None bytes = puts_none s now t bytes
puts_ended s now t (Some r) bytes = puts_nothing s now t (closed_event r) bytes refl

pub line_put : (old line new bytes : List ℕ) → line ≡ shown bytes → new ≡ (old ++ line) ++ 10 ∷ [] → new ≡ old ++ text (bytes ∷ [])
line_put old line new bytes e p = put_ended old line new bytes e p ∙ ap (λ z. old ++ z) (sym (append-nil (ended bytes)))

-- ---- members that are picked by places

picked_first : {A : Type 0} (xs : List A) (p : ℕ) (ps : List ℕ) → picked xs (p ∷ ps) ≡ one_of (slice_get xs p) ++ picked xs ps
picked_first xs p ps = refl

latest_append : (gone : List ℕ) (last : Option Order) (os ps : List Order) → latest gone last (os ++ ps) ≡ latest gone (latest gone last os) ps
latest_append gone last [] ps = refl
latest_append gone last (o ∷ os) ps = latest_append gone (cond (is_left gone (order_worker o)) (Some o) last) os ps

pub latest_next : (rs : List Run) (gone : List ℕ) (last next : Option Order) (p : ℕ) (ps : List ℕ)
    → next ≡ latest gone last (map order_view (one_of (slice_get rs p)))
    → latest gone last (map order_view (picked rs (p ∷ ps))) ≡ latest gone next (map order_view (picked rs ps))
latest_next rs gone last next p ps e =
    ap (latest gone last) (map-append order_view (one_of (slice_get rs p)) (picked rs ps))
    ∙ latest_append gone last (map order_view (one_of (slice_get rs p))) (map order_view (picked rs ps))
    ∙ ap (λ o. latest gone o (map order_view (picked rs ps))) (sym e)

abbrev or_else : Option Start → Option Start → Option Start
or_else (Some x) later = Some x
or_else None later = later

cut_append : (t : TaskId) (xs ys : List Start) (o : Option Start) → cut_start t xs ≡ o → cut_start t (xs ++ ys) ≡ or_else o (cut_start t ys)
cut_append t [] ys o e = ap (λ p. or_else p (cut_start t ys)) e
cut_append t (x ∷ xs) ys o e = go (same_task t x.1.1.1) (cut_append t xs ys o) e
  where
    go : (b : Bool) → (cut_start t xs ≡ o → cut_start t (xs ++ ys) ≡ or_else o (cut_start t ys)) → cond b (Some x) (cut_start t xs) ≡ o
        → cond b (Some x) (cut_start t (xs ++ ys)) ≡ or_else o (cut_start t ys)
    go true rec h = ap (λ p. or_else p (cut_start t ys)) h
    go false rec h = rec h

cut_at : (t : TaskId) (rs : List Run) (p : ℕ) (ps : List ℕ) (o : Option Start) → o ≡ cut_start t (map start_view (one_of (slice_get rs p)))
    → cut_start t (map start_view (picked rs (p ∷ ps))) ≡ or_else o (cut_start t (map start_view (picked rs ps)))
cut_at t rs p ps o e =
    ap (cut_start t) (map-append start_view (one_of (slice_get rs p)) (picked rs ps))
    ∙ cut_append t (map start_view (one_of (slice_get rs p))) (map start_view (picked rs ps)) o (sym e)

pub cut_none : (t : TaskId) (rs : List Run) (p : ℕ) (ps : List ℕ) → None ≡ cut_start t (map start_view (one_of (slice_get rs p)))
    → cut_start t (map start_view (picked rs (p ∷ ps))) ≡ cut_start t (map start_view (picked rs ps))
cut_none t rs p ps e = cut_at t rs p ps None e

pub cut_here : (t : TaskId) (rs : List Run) (p : ℕ) (ps : List ℕ) (x : Start) → Some x ≡ cut_start t (map start_view (one_of (slice_get rs p)))
    → cut_start t (map start_view (picked rs (p ∷ ps))) ≡ Some x
cut_here t rs p ps x e = cut_at t rs p ps (Some x) e

pub stack_at : (t : TaskId) (ts : List Task) (p : ℕ) (ps : List ℕ) (b : Bool) → b ≡ list_any (same_task t) (ids (one_of (slice_get ts p)))
    → list_any (same_task t) (ids (picked ts (p ∷ ps))) ≡ (b || list_any (same_task t) (ids (picked ts ps)))
stack_at t ts p ps b e =
    ap (list_any (same_task t)) (map-append (λ (x : Task). x.id) (one_of (slice_get ts p)) (picked ts ps))
    ∙ list_any-append (same_task t) (ids (one_of (slice_get ts p))) (ids (picked ts ps))
    ∙ ap (λ c. c || list_any (same_task t) (ids (picked ts ps))) (sym e)
