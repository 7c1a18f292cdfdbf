-- The lines of the text, cut where the code puts their pieces.
use Rattle.std.proofs.Common.{◌≡◌, ◌++◌, ℕ, List, [], ◌∷◌, codes, decimal}
use Rattle.std.specs.List.{concat}
use Rattle.hex.specs.Hex.{encode_lower}
use Rattle.sky_base.specs.declared.object.TaskId.{TaskId}
use Rattle.ciel_run_log.specs.Text.{copied_texts, done_text, made_texts, missed_text, saved_text, start_text, task_text}
use Rattle.ciel_run_log.proofs.Puts.{concat_of_parts}

abbrev pub start_front : List ℕ → List ℕ → List ℕ
start_front n w = concat (codes "start " ∷ n ∷ codes " " ∷ w ∷ codes " " ∷ [])

abbrev pub number_back : List ℕ → List ℕ
number_back n = concat (codes " " ∷ n ∷ codes "\n" ∷ [])

pub start_cut : (number worker : ℕ) (task : TaskId) (from : ℕ) (n w f : List ℕ) → n ≡ decimal number → w ≡ decimal worker → f ≡ decimal from
    → start_text number worker task from ≡ start_front n w ++ (task_text task ++ number_back f)
start_cut number worker task from n w f e h k =
    rw (e, h, k) (concat_of_parts (codes "start " ∷ decimal number ∷ codes " " ∷ decimal worker ∷ codes " " ∷ [])
    (task_text task ∷ codes " " ∷ decimal from ∷ codes "\n" ∷ []))

abbrev pub saved_front : List ℕ → List ℕ → List ℕ
saved_front n w = concat (codes "saved " ∷ n ∷ codes " " ∷ w ∷ codes " " ∷ [])

pub saved_cut : (number wait : ℕ) (mark : List ℕ) (n w : List ℕ) → n ≡ decimal number → w ≡ decimal wait
    → saved_text number wait mark ≡ saved_front n w ++ (encode_lower mark ++ codes "\n")
saved_cut number wait mark n w e h =
    rw (e, h) (concat_of_parts (codes "saved " ∷ decimal number ∷ codes " " ∷ decimal wait ∷ codes " " ∷ []) (encode_lower mark ∷ codes "\n" ∷ []))

abbrev pub missed_front : List ℕ → List ℕ
missed_front n = concat (codes "missed " ∷ n ∷ codes " " ∷ [])

pub missed_cut : (number : ℕ) (name : List ℕ) (lost : ℕ) (n l : List ℕ) → n ≡ decimal number → l ≡ decimal lost
    → missed_text number name lost ≡ missed_front n ++ (encode_lower name ++ number_back l)
missed_cut number name lost n l e h =
    rw (e, h) (concat_of_parts (codes "missed " ∷ decimal number ∷ codes " " ∷ []) (encode_lower name ∷ codes " " ∷ decimal lost ∷ codes "\n" ∷ []))

abbrev pub done_front : List ℕ → List ℕ
done_front n = concat (codes "done " ∷ n ∷ [])

pub done_cut : (number : ℕ) (made : List (List ℕ × List ℕ)) (copied : List (List ℕ)) (n : List ℕ) → n ≡ decimal number
    → done_text number made copied ≡ done_front n ++ (made_texts made ++ (copied_texts copied ++ codes "\n"))
done_cut number made copied n e =
    rw e (concat_of_parts (codes "done " ∷ decimal number ∷ []) (made_texts made ∷ copied_texts copied ∷ codes "\n" ∷ []))
