-- Lines, one more.
use Rattle.std.proofs.Common.{◌≡◌, ◌≤◌, ◌<◌, ◌+◌, ℕ, List, [], ◌∷◌, ◌++◌, length, map, flat_map, get_or, drop}
use Rattle.std.proofs.Common.{append_assoc, append-nil, refl, ap, sym, ◌∙◌, subst}
use Rattle.std.proofs.lemmas.Grind.{flat_map-append}
use Rattle.ciel_look_shown.specs.Plain.{shown}
use Rattle.ciel_look_tasks.specs.Known.{knowns}
use Rattle.ciel_look_tasks.specs.SceneView.{row_view, scene_view, taken_view}
use Rattle.ciel_look_tasks.specs.declared.scene.Loss.{Loss}
use Rattle.ciel_look_tasks.specs.declared.scene.Scene.{Scene}
use Rattle.ciel_look_tasks.specs.declared.scene.Task.{Task}
use Rattle.ciel_look_words.proofs.ManyWords.{dropped, dropped_all}
use Rattle.ciel_look_text.specs.Text.{ended, lines_of, loss_line, sum_line, task_line, text}

-- a line that is put
pub put_ended : (old line new bytes : List ℕ) → line ≡ shown bytes → new ≡ (old ++ line) ++ 10 ∷ [] → new ≡ old ++ ended bytes
put_ended old line new bytes e p = p ∙ append_assoc old line (10 ∷ []) ∙ ap (λ l. old ++ (l ++ 10 ∷ [])) e

module _ {A B : Type 0} (g : A → B) (f : B → List ℕ) (old : List ℕ) (xs : List A) where
  abbrev pub LinesLeft : List ℕ → ℕ → Type 0
  LinesLeft now i = now ++ text (map f (map g (drop i xs))) ≡ old ++ text (map f (map g xs))

  pub lines_next : (now line new : List ℕ) (i : ℕ) (x : A) → i < length xs → x ≡ get_or xs i x → LinesLeft now i → line ≡ shown (f (g x))
      → new ≡ (now ++ line) ++ 10 ∷ [] → LinesLeft new (i + 1)
  lines_next now line new i x h e left s p =
      ap (λ z. z ++ text (map f (map g (drop (i + 1) xs)))) (put_ended now line new (f (g x)) s p)
      ∙ append_assoc now (ended (f (g x))) (text (map f (map g (drop (i + 1) xs))))
      ∙ sym (ap (λ ys. now ++ text (map f (map g ys))) (dropped xs i x h e)) ∙ left

  pub lines_end : (now : List ℕ) (i : ℕ) → length xs ≤ i → LinesLeft now i → now ≡ old ++ text (map f (map g xs))
  lines_end now i h left =
      sym (append-nil now) ∙ sym (ap (λ ys. now ++ text (map f (map g ys))) (dropped_all xs i h)) ∙ left

pub all_lines : (s : Scene) (us : List Task) (ms : List Loss) (none first second line all : List ℕ) → us ≡ s.roll.tasks.items
    → ms ≡ s.losses.items → none ≡ [] → first ≡ none ++ text (map (task_line (knowns s.known.all.items)) (map (row_view s) us))
    → second ≡ first ++ text (map (loss_line (knowns s.known.all.items)) (map (taken_view s) ms))
    → line ≡ shown (sum_line (scene_view s)) → all ≡ (second ++ line) ++ 10 ∷ [] → all ≡ text (lines_of (scene_view s))
all_lines s us ms none first second line all u m e put_tasks put_losses h p =
    let known = knowns s.known.all.items in
    let tasks = map (task_line known) (map (row_view s) s.roll.tasks.items) in
    let losses = map (loss_line known) (map (taken_view s) s.losses.items) in
    let f : first ≡ none ++ text tasks = put_tasks ∙ ap (λ xs. none ++ text (map (task_line known) (map (row_view s) xs))) u in
    let g : second ≡ first ++ text losses = put_losses ∙ ap (λ xs. first ++ text (map (loss_line known) (map (taken_view s) xs))) m in
    let sum = sum_line (scene_view s) in
    put_ended second line all sum h p
    ∙ ap (λ z. z ++ ended sum) (g ∙ ap (λ z. z ++ text losses) (f ∙ ap (λ z. z ++ text tasks) e))
    ∙ append_assoc (text tasks) (text losses) (ended sum)
    ∙ ap (λ z. text tasks ++ (text losses ++ z)) (sym (append-nil (ended sum)))
    ∙ ap (λ z. text tasks ++ z) (sym (flat_map-append ended losses (sum ∷ [])))
    ∙ sym (flat_map-append ended tasks (losses ++ sum ∷ []))
