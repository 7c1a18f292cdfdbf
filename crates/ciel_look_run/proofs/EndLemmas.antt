-- The causes of ends, from what inner calls say.
use Rattle.std.proofs.Common.{◌≡◌, ◌⊎◌, ◌<◌, ℕ, List, Option, Some, None, IfSome, MatchOption, Result, Err, Ok, inl, inr, length}
use Rattle.std.proofs.Common.{refl, sym, ap, ◌∙◌, subst}
use Rattle.std.proofs.Common.{false, flat_map}
use Rattle.ciel_io.specs.Faults.{HasRisen}
use Rattle.ciel_io.specs.Reads.{IfTooLong}
use Rattle.ciel_io.specs.declared.files.FileRefusal.{FileRefusal}
use Rattle.ciel_look_story.specs.Refusal.{IfNotLog}
use Rattle.ciel_look_story.specs.Story.{NotLog, Tells}
use Rattle.ciel_look_story.specs.declared.story.NoStory.{NoStory}
use Rattle.ciel_look_told.specs.Head.{Head}
use Rattle.ciel_look_told.specs.Told.{Told}
use Rattle.sky_base.specs.declared.object.TaskId.{TaskId}
use Rattle.ciel_look_tasks.specs.Seen.{IsSeenOf, Seen}
use Rattle.ciel_look_tasks.specs.Tasks.{begun, tasks as told_tasks}
use Rattle.ciel_look_tasks.proofs.TaskLists.{any_once}
use Rattle.ciel_look_text.specs.Asked.{any_has, has_digits, is_started}
use Rattle.ciel_look_run.specs.Ends.{Because, HasStory, IsNoLine, IsOf, IsThere, IsTold, IsUnwritten, IsWriteEnd, IsWritten, NoTaskOf}
use Rattle.ciel_look_run.specs.Ends.{IsOfTold, Put, Unread, Untold, Wrote, WroteSo, most}
use Rattle.ciel_look_run.specs.Line as line
use Rattle.ciel_look_run.specs.Line.{Asked}
use Rattle.ciel_look_run.specs.declared.ends.Why.{Why}

pub any_line : {A : Type 0} (o : Option A) (P : Type 0) (Q : A → Type 0) → P → ((x : A) → Q x) → MatchOption o P Q
any_line None P Q p q = p
any_line (Some x) P Q p q = q x

-- what holds of these bytes holds of the file, where it is told
pub of_file : (content : Option (List ℕ)) (bytes : List ℕ) (P : List ℕ → Type 0) → IfSome content (λ file. bytes ≡ file) → P bytes → IfSome content P
of_file None bytes P e p = tt
of_file (Some file) bytes P e p = subst P e p

too_long : (content : Option (List ℕ)) (at : ℕ) → at ≡ most → IfSome content (λ file. at < length file) → IfSome content (λ log. most < length log)
too_long None at e p = tt
too_long (Some file) at e p = subst (λ n. n < length file) e p

-- what is said of a story
pub story_so : (content : Option (List ℕ)) (P Q : Head → List Told → Type 0) → HasStory content P
    → ((head : Head) (ts : List Told) → P head ts → Q head ts) → HasStory content Q
story_so None P Q h f = tt
story_so (Some log) P Q h f = (h.0, h.1, h.2, f h.0 h.1 h.3)

-- the tasks have the digits if the starts have them
told_has : (digits : List ℕ) (tasks : List TaskId) (ts : List Told) → tasks ≡ told_tasks ts → any_has digits tasks ≡ is_started digits ts
told_has digits tasks ts e =
    ap (any_has digits) e ∙ any_once (has_digits digits) (flat_map begun ts)

there_told : (asked : Asked) (tasks : List TaskId) (head : Head) (ts : List Told) → tasks ≡ told_tasks ts → IsThere asked tasks
    → IsTold asked head ts
there_told line.text tasks head ts e h = tt
there_told (line.why digits) tasks head ts e h = sym (told_has digits tasks ts e) ∙ h
there_told line.picture tasks head ts e h = tt

module _ (content : Option (List ℕ)) (before after : ℕ) (path : List ℕ) (asked : Asked) where
  abbrev Here : Why → Type 0
  Here why = Because content before after (path, asked) why

  pub unread : (refusal : FileRefusal) (why : Why) → (refusal ≡ FileRefusal.Failed → HasRisen before after) → IfTooLong refusal (λ at. at ≡ most)
      → IfTooLong refusal (λ at. IfSome content (λ file. at < length file)) → Unread path refusal why → Here why
  unread FileRefusal.Failed why risen limit beyond (inl e) = subst Here (sym e) (refl, risen refl)
  unread FileRefusal.Failed why risen limit beyond (inr e) = subst Here (sym e) tt
  unread (FileRefusal.TooLong at) why risen limit beyond (inl e) = subst Here (sym e) (refl, too_long content at limit beyond)
  unread (FileRefusal.TooLong at) why risen limit beyond (inr e) = subst Here (sym e) tt
  unread FileRefusal.Memory why risen limit beyond e = subst Here (sym e) tt

  pub untold : (refusal : NoStory) (why : Why) (bytes : List ℕ) → IfSome content (λ file. bytes ≡ file) → IfNotLog refusal (NotLog bytes)
      → Untold path refusal why → Here why
  untold (NoStory.NotLog at) why bytes f n (inl e) = subst Here (sym e) (refl, of_file content bytes (λ log. NotLog log at) f n)
  untold (NoStory.NotLog at) why bytes f n (inr e) = subst Here (sym e) tt
  untold NoStory.Memory why bytes f n e = subst Here (sym e) tt

  -- where there is a story, with these tasks
  pub written : (tasks : List TaskId) → HasStory content (λ head ts. tasks ≡ told_tasks ts) → (why : Why) → IsWriteEnd tasks asked why → Here why
  written p s Why.Done e = story_so content (λ head ts. p ≡ told_tasks ts) (IsTold asked) s (λ head ts h. there_told asked p head ts h e)
  written p s Why.Usage e = absurd e
  written p s (Why.ReadFault q) e = absurd e
  written p s (Why.TooLong q) e = absurd e
  written p s (Why.NotLog q at) e = absurd e
  written p s (Why.NoTask digits) e = (
    e.0,
    story_so content (λ head ts. p ≡ told_tasks ts) (λ head ts. is_started digits ts ≡ false) s
        (λ head ts h. sym (told_has digits p ts h) ∙ e.1),
  )
  written p s Why.WriteFault e =
      story_so content (λ head ts. p ≡ told_tasks ts) (IsTold asked) s (λ head ts h. there_told asked p head ts h e)
  written p s Why.Memory e = tt

pub unread_writes_nothing : (path : List ℕ) (refusal : FileRefusal) (why : Why) → Unread path refusal why → IsUnwritten why
unread_writes_nothing path FileRefusal.Failed why (inl e) = subst IsUnwritten (sym e) tt
unread_writes_nothing path FileRefusal.Failed why (inr e) = subst IsUnwritten (sym e) tt
unread_writes_nothing path (FileRefusal.TooLong at) why (inl e) = subst IsUnwritten (sym e) tt
unread_writes_nothing path (FileRefusal.TooLong at) why (inr e) = subst IsUnwritten (sym e) tt
unread_writes_nothing path FileRefusal.Memory why e = subst IsUnwritten (sym e) tt

pub untold_writes_nothing : (path : List ℕ) (refusal : NoStory) (why : Why) → Untold path refusal why → IsUnwritten why
untold_writes_nothing path (NoStory.NotLog at) why (inl e) = subst IsUnwritten (sym e) tt
untold_writes_nothing path (NoStory.NotLog at) why (inr e) = subst IsUnwritten (sym e) tt
untold_writes_nothing path NoStory.Memory why e = subst IsUnwritten (sym e) tt

-- ---- what was written

module _ (had has : Option (List ℕ)) (before after : ℕ) where
  pub put_wrote : (asked : Asked) (P : List ℕ → Type 0) (text : List ℕ) → IsWritten asked text → P text → (why : Why)
      → Put had has before after text why → WroteSo P had has before after asked why
  put_wrote asked P text w h Why.Done p = (text, w, h, p)
  put_wrote asked P text w h Why.Usage p = absurd p
  put_wrote asked P text w h (Why.ReadFault q) p = absurd p
  put_wrote asked P text w h (Why.TooLong q) p = absurd p
  put_wrote asked P text w h (Why.NotLog q at) p = absurd p
  put_wrote asked P text w h (Why.NoTask q) p = absurd p
  put_wrote asked P text w h Why.WriteFault p = (text, w, h, p.0, p.1)
  put_wrote asked P text w h Why.Memory p = absurd p

  -- more is said of the text
  pub wrote_so : (asked : Asked) (P Q : List ℕ → Type 0) → ((text : List ℕ) → P text → Q text) → (why : Why)
      → WroteSo P had has before after asked why → WroteSo Q had has before after asked why
  wrote_so asked P Q f Why.Done w = (w.0, w.1, f w.0 w.2, w.3)
  wrote_so asked P Q f Why.Usage w = w
  wrote_so asked P Q f (Why.ReadFault q) w = w
  wrote_so asked P Q f (Why.TooLong q) w = w
  wrote_so asked P Q f (Why.NotLog q at) w = w
  wrote_so asked P Q f (Why.NoTask q) w = w
  wrote_so asked P Q f Why.WriteFault w = (w.0, w.1, f w.0 w.2, w.3, w.4)
  wrote_so asked P Q f Why.Memory w = w

  -- of the story
  pub wrote_told : (content : Option (List ℕ)) (s : Seen) (asked : Asked) (why : Why) → HasStory content (λ head ts. IsSeenOf head ts s)
      → WroteSo (IsOf asked s) had has before after asked why → Wrote content had has before after asked why
  wrote_told content s asked why h w =
      wrote_so asked (IsOf asked s) (λ text. HasStory content (IsOfTold asked text))
      (λ text is. story_so content (λ head ts. IsSeenOf head ts s) (IsOfTold asked text) h (λ head ts told. (s, told, is))) why w

  pub put_ends : (tasks : List TaskId) (asked : Asked) (text : List ℕ) → IsThere asked tasks → (why : Why) → Put had has before after text why
      → IsWriteEnd tasks asked why
  put_ends tasks asked text h Why.Done p = h
  put_ends tasks asked text h Why.Usage p = absurd p
  put_ends tasks asked text h (Why.ReadFault q) p = absurd p
  put_ends tasks asked text h (Why.TooLong q) p = absurd p
  put_ends tasks asked text h (Why.NotLog q at) p = absurd p
  put_ends tasks asked text h (Why.NoTask q) p = absurd p
  put_ends tasks asked text h Why.WriteFault p = h
  put_ends tasks asked text h Why.Memory p = absurd p

-- nothing was
pub unwritten : (P : List ℕ → Type 0) (had : Option (List ℕ)) (count : ℕ) (asked : Asked) (why : Why) → IsUnwritten why
    → WroteSo P had had count count asked why
unwritten P had count asked Why.Done u = absurd u
unwritten P had count asked Why.Usage u = refl
unwritten P had count asked (Why.ReadFault p) u = refl
unwritten P had count asked (Why.TooLong p) u = refl
unwritten P had count asked (Why.NotLog p at) u = refl
unwritten P had count asked (Why.NoTask p) u = refl
unwritten P had count asked Why.WriteFault u = absurd u
unwritten P had count asked Why.Memory u = refl

pub no_task_ends : (tasks : List TaskId) (digits : List ℕ) → any_has digits tasks ≡ false → (why : Why) → NoTaskOf digits why
    → IsWriteEnd tasks (line.why digits) why
no_task_ends tasks digits h why (inl e) = subst (IsWriteEnd tasks (line.why digits)) (sym e) (refl, h)
no_task_ends tasks digits h why (inr e) = subst (IsWriteEnd tasks (line.why digits)) (sym e) tt

pub no_task_unwritten : (digits : List ℕ) (why : Why) → NoTaskOf digits why → IsUnwritten why
no_task_unwritten digits why (inl e) = subst IsUnwritten (sym e) tt
no_task_unwritten digits why (inr e) = subst IsUnwritten (sym e) tt
