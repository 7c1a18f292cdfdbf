-- A text put in pieces: what is written is the pieces so far, or a part of the whole.
use Rattle.std.proofs.Common.{◌≡◌, ℕ, zero, suc, ◌+◌, ◌<◌, ◌≤◌, List, [], ◌∷◌, ◌++◌, Option, Some, None, Result, Ok, Err, OnOk, OnErr, Bor, length}
use Rattle.std.proofs.Common.{map, take, drop, get_or, refl, sym, ap, subst, ◌∙◌, append_assoc, arith}
use Rattle.std.specs.List.{concat}
use Rattle.std.proofs.lemmas.List.{append-nil, take_all}
use Rattle.ciel_io.specs.Tells.{Tells, TellsPart}

pub tells_none : {A : Type 0} (b : Option (List A)) → Tells b b []
tells_none None = tt
tells_none (Some bytes) = (bytes, refl, sym (append-nil bytes))

-- one piece behind another
pub tells_more : {A : Type 0} (b m n : Option (List A)) (p q : List A) → Tells b m p → Tells m n q → Tells b n (p ++ q)
tells_more b m None p q g h = tt
tells_more b None (Some n) p q g h = let e : None ≡ Some h.0 = h.1 in absurd cc
tells_more b (Some m) (Some n) p q g h =
    let e : Some m ≡ Some h.0 = h.1 in
    let same : h.0 ≡ m = cc in (
      g.0,
      g.1,
      h.2 ∙ ap (λ y. y ++ q) (same ∙ g.2) ∙ append_assoc g.0 p q,
    )

shorter : (n : ℕ) (p rest : List ℕ) → (m : ℕ) × (take m (p ++ rest) ≡ take n p)
shorter zero p rest = (0, refl)
shorter (suc n) [] rest = (0, refl)
shorter (suc n) (x ∷ p) rest = let s = shorter n p rest in (suc s.0, ap (λ ys. x ∷ ys) s.1)

longer : (n : ℕ) (p rest : List ℕ) → take (length p + n) (p ++ rest) ≡ p ++ take n rest
longer n [] rest = let e : 0 + n ≡ n = omega arith in rw e
longer n (x ∷ p) rest =
    let e : suc (length p) + n ≡ suc (length p + n) = omega arith in rw e (ap (λ ys. x ∷ ys) (longer n p rest))

-- a part of the next piece behind those that were put, where others come after it
pub part_more : (b m n : Option (List ℕ)) (p q rest : List ℕ) → Tells b m p → TellsPart m n q
    → TellsPart b n (p ++ (q ++ rest))
part_more b m n p q rest g h =
    let s = shorter h.0 q rest in (
      length p + s.0,
      subst (Tells b n) (ap (λ y. p ++ y) (sym s.1) ∙ sym (longer s.0 p (q ++ rest))) (tells_more b m n p (take h.0 q) g h.1),
    )

-- the whole is a part
pub part_whole : {A : Type 0} (b n : Option (List A)) (p : List A) → Tells b n p → TellsPart b n p
part_whole b n p h = let n_all : length p ≤ length p = omega arith in (length p, subst (Tells b n) (sym (take_all (length p) p n_all)) h)

-- ---- the pieces before a place, at it and behind it

abbrev pub joined : List (Bor (List ℕ)) → List ℕ
joined ps = concat (map (λ p. p.now) ps)

pub joined_next : (ps : List (Bor (List ℕ))) (i : ℕ) (d : Bor (List ℕ)) → i < length ps
    → joined (take (i + 1) ps) ≡ joined (take i ps) ++ (get_or ps i d).now
joined_next [] i d h = absurd (omega arith)
joined_next (p ∷ ps) zero d h = append-nil p.now
joined_next (p ∷ ps) (suc i) d h =
    let e : suc i + 1 ≡ suc (i + 1) = omega arith in
    let below : i < length ps = omega arith in
    rw e (ap (λ y. p.now ++ y) (joined_next ps i d below) ∙ sym (append_assoc p.now (joined (take i ps)) (get_or ps i d).now))

pub joined_parts : (ps : List (Bor (List ℕ))) (i : ℕ) (d : Bor (List ℕ)) → i < length ps
    → joined ps ≡ joined (take i ps) ++ ((get_or ps i d).now ++ joined (drop (i + 1) ps))
joined_parts [] i d h = absurd (omega arith)
joined_parts (p ∷ ps) zero d h = refl
joined_parts (p ∷ ps) (suc i) d h =
    let e : suc i + 1 ≡ suc (i + 1) = omega arith in
    let below : i < length ps = omega arith in
    rw e (ap (λ y. p.now ++ y) (joined_parts ps i d below)
    ∙ sym (append_assoc p.now (joined (take i ps)) ((get_or ps i d).now ++ joined (drop (i + 1) ps))))

pub on_err : {T E P : Type 0} (r : Result T E) → P → OnErr r P
on_err (Ok x) p = tt
on_err (Err e) p = p

-- however a put ends, a part was written
pub part_of : {T E : Type 0} (r : Result T E) (b n : Option (List ℕ)) (p : List ℕ)
    → OnOk r (Tells b n p) → OnErr r (TellsPart b n p) → TellsPart b n p
part_of (Ok x) b n p h k = part_whole b n p h
part_of (Err e) b n p h k = k
