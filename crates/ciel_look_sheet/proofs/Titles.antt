-- The title of a description, put piece by piece, and that of a task.
use Rattle.std.proofs.Common.{◌≡◌, ℕ, List, ◌++◌, append_assoc, codes, cond, true, false, Some, None, ap, sym, ◌∙◌}
use Rattle.std.proofs.lemmas.Grind.{flat_map-append}
use Rattle.hex.specs.Hex.{encode_lower}
use Rattle.sky_base.specs.ObjectView.{desc_view}
use Rattle.sky_base.specs.declared.object.TaskId.{TaskId}
use Rattle.ciel_look_shown.specs.Plain.{shown, shown_byte}
use Rattle.ciel_look_words.specs.Named.{name_of}
use Rattle.ciel_look_words.specs.Words.{words}
use Rattle.ciel_look_words.specs.declared.known.Known.{Known}
use Rattle.ciel_look_tasks.specs.Heads.{own_desc}
use Rattle.ciel_look_tasks.specs.Known.{Named, known_view}
use Rattle.ciel_look_tasks.specs.Tasks.{same_task}
use Rattle.ciel_look_tasks.proofs.TaskLists.{exact_task}
use Rattle.ciel_look_sheet.specs.Titles.{named_title, task_title, whole_name}

shown_two : (a b : List ℕ) → shown (a ++ b) ≡ shown a ++ shown b
shown_two a b = flat_map-append shown_byte a b

pub title_put : (k : Known) (first mid last whole : List ℕ) → first ≡ shown (words (desc_view k.desc)) → mid ≡ first ++ shown (codes ", ")
    → whole ≡ shown (encode_lower (name_of k.short (desc_view k.desc))) → last ≡ mid ++ whole → last ≡ shown (named_title (known_view k))
title_put k first mid last whole f m w l =
    let d = desc_view k.desc in
    l ∙ ap (λ z. z ++ whole) (m ∙ ap (λ z. z ++ shown (codes ", ")) f)
    ∙ ap (λ z. (shown (words d) ++ shown (codes ", ")) ++ z) (w ∙ ap (λ n. shown (encode_lower n)) (sym k.named))
    ∙ append_assoc (shown (words d)) (shown (codes ", ")) (shown (encode_lower k.name))
    ∙ ap (λ z. shown (words d) ++ z) (sym (shown_two (codes ", ") (encode_lower k.name)))
    ∙ sym (shown_two (words d) (codes ", " ++ encode_lower k.name))

-- ---- of a task, where the description is its own, and where it isn't

pub own_title : (t : TaskId) (k : Named) → same_task t (TaskId.Of k.0) ≡ true → task_title (own_desc t (Some k)) t ≡ named_title k
own_title t k h =
    ap (λ b. task_title (cond b (Some k.1) None) t) h ∙ ap (λ u. words k.1 ++ (codes ", " ++ whole_name u)) (exact_task t (TaskId.Of k.0) h)

pub other_title : (t : TaskId) (k : Named) → same_task t (TaskId.Of k.0) ≡ false → task_title (own_desc t (Some k)) t ≡ whole_name t
other_title t k h = ap (λ b. task_title (cond b (Some k.1) None) t) h
