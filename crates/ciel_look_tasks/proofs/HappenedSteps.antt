-- What happened, entry by entry.
use Rattle.std.proofs.Common.{◌≡◌, ℕ, List, [], ◌∷◌, ◌++◌, length, map, Some, None, append-nil, append_assoc, ap, sym, ◌∙◌}
use Rattle.std.proofs.lemmas.List.{length-map, map-append}
use Rattle.ciel_look_told.specs.Told as told
use Rattle.ciel_look_told.specs.View.{told_view}
use Rattle.ciel_look_told.specs.declared.told.Told.{Told}
use Rattle.ciel_look_tasks.specs.Happened as what
use Rattle.ciel_look_tasks.specs.Happened.{Happened, began, closing, happened, happened_behind, happened_by, if_ended}
use Rattle.ciel_look_tasks.specs.Orders.{Ending, orders}
use Rattle.ciel_look_tasks.specs.Tasks.{Start, losses, starts}
use Rattle.ciel_look_tasks.specs.View.{happened_view, happening_view, loss_view, losses_view}
use Rattle.ciel_look_tasks.specs.declared.scene.Happening.{Happening}
use Rattle.ciel_look_tasks.specs.declared.scene.Loss.{Loss}

happened_pushed : (xs ys : List Happening) (x : Happening) → ys ≡ xs ++ x ∷ [] → happened_view ys ≡ happened_view xs ++ happening_view x ∷ []
happened_pushed xs ys x e = ap happened_view e ∙ map-append happening_view xs (x ∷ [])

pub begun_pushed : (xs ys : List Happening) (p n : ℕ) → ys ≡ xs ++ Happening.Begun p ∷ [] → p ≡ n → happened_view ys ≡ happened_view xs ++ began n ∷ []
begun_pushed xs ys p n e h = happened_pushed xs ys (Happening.Begun p) e ∙ ap (λ k. happened_view xs ++ began k ∷ []) h

pub ended_pushed : (xs ys : List Happening) (p n : ℕ) (os : List (Start × Ending)) → ys ≡ xs ++ Happening.Ended p ∷ [] → Some p ≡ closing n os
    → happened_view ys ≡ happened_view xs ++ if_ended (closing n os)
ended_pushed xs ys p n os e h = happened_pushed xs ys (Happening.Ended p) e ∙ ap (λ o. happened_view xs ++ if_ended o) h

pub ended_nothing : (xs : List Happening) (n : ℕ) (os : List (Start × Ending)) → None ≡ closing n os
    → happened_view xs ≡ happened_view xs ++ if_ended (closing n os)
ended_nothing xs n os h = sym (append-nil (happened_view xs)) ∙ ap (λ o. happened_view xs ++ if_ended o) h

pub lost_pushed : (xs ys : List Happening) (ls : List Loss) (p : ℕ) → ys ≡ xs ++ Happening.Lost p ∷ [] → p ≡ length ls
    → happened_view ys ≡ happened_view xs ++ what.lost (length (losses_view ls)) ∷ []
lost_pushed xs ys ls p e h =
    happened_pushed xs ys (Happening.Lost p) e ∙ ap (λ k. happened_view xs ++ what.lost k ∷ []) (h ∙ sym (length-map ls loss_view))

-- ---- an entry more is told

happened_push : (before ts : List told.Told) (e : told.Told) → happened_behind before (ts ++ e ∷ [])
    ≡ happened_behind before ts ++ happened_by (length (starts (before ++ ts))) (orders (before ++ ts)) (length (losses (before ++ ts))) e
happened_push before [] e =
    append-nil (happened_by (length (starts before)) (orders before) (length (losses before)) e)
    ∙ ap (λ us. happened_by (length (starts us)) (orders us) (length (losses us)) e) (sym (append-nil before))
happened_push before (t ∷ ts) e =
    let here = happened_by (length (starts before)) (orders before) (length (losses before)) t in
    ap (λ z. here ++ z)
    (happened_push (before ++ t ∷ []) ts e
    ∙ ap (λ us. happened_behind (before ++ t ∷ []) ts ++ happened_by (length (starts us)) (orders us) (length (losses us)) e)
    (append_assoc before (t ∷ []) ts))
    ∙ sym (append_assoc here (happened_behind (before ++ t ∷ []) ts)
    (happened_by (length (starts (before ++ t ∷ ts))) (orders (before ++ t ∷ ts)) (length (losses (before ++ t ∷ ts))) e))

pub happened_next : (ts : List Told) (e : Told) (ss : List Start) (os : List (Start × Ending)) (ls : List (ℕ × ℕ)) (hs ks : List Happened)
    → ss ≡ starts (map told_view ts) → os ≡ orders (map told_view ts) → ls ≡ losses (map told_view ts) → hs ≡ happened (map told_view ts)
    → ks ≡ hs ++ happened_by (length ss) os (length ls) (told_view e) → ks ≡ happened (map told_view (ts ++ e ∷ []))
happened_next ts e ss os ls hs ks s o l h k =
    let us = map told_view ts in
    k ∙ ap (λ z. z ++ happened_by (length ss) os (length ls) (told_view e)) h
    ∙ ap (λ z. happened us ++ happened_by (length z) os (length ls) (told_view e)) s
    ∙ ap (λ z. happened us ++ happened_by (length (starts us)) z (length ls) (told_view e)) o
    ∙ ap (λ z. happened us ++ happened_by (length (starts us)) (orders us) (length z) (told_view e)) l
    ∙ sym (happened_push [] us (told_view e)) ∙ ap happened (sym (map-append told_view ts (e ∷ [])))
