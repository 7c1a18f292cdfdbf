-- One form more is saved: it stays in the frame in work, or ends it.
use Rattle.std.proofs.Common.{◌≡◌, ℕ, List, [], ◌∷◌, ◌++◌, Option, Some, None, refl, sym, ap, ap₂, ◌∙◌, append_assoc}
use Rattle.sky_base.specs.Val.{Val, Pairs, val, ref, known, add_val, refs_to}
use Rattle.sky_base.specs.Names.{known_of}
use Rattle.sky_base.specs.Res.{Entry, kept_of, opens}
use Rattle.sky_base.specs.Read.{Todo, Frame, todo_of, in_front, frame_of, frames_of}
use Rattle.sky_machine_save.specs.Saving.{Part, put_on, closed, with_front, with_rest}

front_more : (ts : List Todo) (vs : List (Val (List ℕ))) (t : Todo) (us : List (Val (List ℕ))) (fs : List (Frame (List ℕ)))
    → with_front ts vs (in_front t us fs) ≡ with_front (ts ++ t ∷ []) (vs ++ us) fs
front_more ts vs t us [] = refl
front_more ts vs t us (f ∷ fs) =
    ap₂ (λ (s : List (Val (List ℕ))) (d : List Todo). record { fun = f.fun; vars = f.vars; stack = s; todo = d } ∷ fs)
    (sym (append_assoc vs us f.stack)) (sym (append_assoc ts (t ∷ []) f.todo))

front_none : (fs : List (Frame (List ℕ))) → with_front [] [] fs ≡ fs
front_none [] = refl
front_none (f ∷ fs) = refl

stays : (p : Part) (en : Entry (List ℕ)) (o : Option (List ℕ × Pairs (List ℕ))) (fr : List (Entry (List ℕ))) (xs : Pairs (List ℕ)) → o ≡ None
    → p.done ++ with_front p.todo p.stack (frame_of o p.fun (todo_of en) (kept_of en) (frames_of fr p.fun xs) (λ g. frames_of fr g xs))
    ≡ with_rest (put_on p en) fr xs
stays p en None fr xs e = ap (λ fs. p.done ++ fs) (front_more p.todo p.stack (todo_of en) (kept_of en) (frames_of fr p.fun xs))
stays p en (Some c) fr xs e = cc

pub stay : (p : Part) (en : Entry (List ℕ)) → opens en ≡ None → (fr : List (Entry (List ℕ))) (xs : Pairs (List ℕ)) → with_rest p (en ∷ fr) xs
    ≡ with_rest (put_on p en) fr xs
stay p en e fr xs = stays p en (opens en) fr xs e

ends : (p : Part) (en : Entry (List ℕ)) (o : Option (List ℕ × Pairs (List ℕ))) (c : List ℕ × Pairs (List ℕ)) (fr : List (Entry (List ℕ)))
    (xs : Pairs (List ℕ)) → o ≡ Some c
    → p.done ++ with_front p.todo p.stack (frame_of o p.fun (todo_of en) (kept_of en) (frames_of fr p.fun xs) (λ g. frames_of fr g xs))
    ≡ with_rest (closed (put_on p en) c.0 c.1) fr xs
ends p en None c fr xs e = cc
ends p en (Some d) c fr xs e =
    let q : d ≡ c = cc in
    ap (λ (b : List ℕ × Pairs (List ℕ)). p.done
    ++ (record { fun = p.fun; vars = b.1; stack = p.stack ++ kept_of en; todo = p.todo ++ todo_of en ∷ [] } ∷ frames_of fr b.0 xs)) q
    ∙ sym (append_assoc p.done (record { fun = p.fun; vars = c.1; stack = p.stack ++ kept_of en; todo = p.todo ++ todo_of en ∷ [] } ∷ [])
    (frames_of fr c.0 xs))
    ∙ ap (λ fs. (p.done ++ record { fun = p.fun; vars = c.1; stack = p.stack ++ kept_of en; todo = p.todo ++ todo_of en ∷ [] } ∷ []) ++ fs)
    (sym (front_none (frames_of fr c.0 xs)))

pub end : (p : Part) (en : Entry (List ℕ)) (c : List ℕ × Pairs (List ℕ)) → opens en ≡ Some c → (fr : List (Entry (List ℕ))) (xs : Pairs (List ℕ))
    → with_rest p (en ∷ fr) xs ≡ with_rest (closed (put_on p en) c.0 c.1) fr xs
end p en c e fr xs = ends p en (opens en) c fr xs e

pub refs_push : (ns : List (List ℕ)) (n : List ℕ) → refs_to (known_of (ns ++ n ∷ [])) ≡ add_val (refs_to (known_of ns)) (ref (known n))
refs_push [] n = refl
refs_push (m ∷ ns) n = ap (val (ref (known m))) (refs_push ns n)
