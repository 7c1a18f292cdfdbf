-- A picture, part by part.
use Rattle.std.proofs.Common.{◌≡◌, ◌+◌, ℕ, List, [], ◌++◌, append-nil, arith, refl, subst}
use Rattle.ciel_look_sheet.specs.Drawn.{Draws}
use Rattle.ciel_look_sheet.proofs.Drawing.{draws_as, draws_two}

pub draws_all : (bs ars cs ds : List (List ℕ)) (n m : ℕ) (o p q r t : List ℕ) → n ≡ m → o ≡ [] → Draws [] [] 0 o p → Draws [] [] 0 p q
    → Draws bs ars n q r → Draws cs ds 0 r t → Draws (bs ++ cs) (ars ++ ds) m [] t
draws_all bs ars cs ds n m o p q r t l e f g h i =
    subst (λ old. Draws (bs ++ cs) (ars ++ ds) m old t) e
    (draws_as (bs ++ cs) (ars ++ ds) (bs ++ cs) (ars ++ ds) ((0 + n) + 0) m o t refl refl (omega (arith, l))
    (draws_two bs ars cs ds (0 + n) 0 o r t (draws_two [] [] bs ars 0 n o q r (draws_two [] [] [] [] 0 0 o p q f g) h) i))

pub draws_graph : (bs ars : List (List ℕ)) (o p q t : List ℕ) → Draws [] [] 0 o p → Draws [] ars 0 p q → Draws bs [] 0 q t → Draws bs ars 0 o t
draws_graph bs ars o p q t f g h =
    draws_as bs (ars ++ []) bs ars 0 0 o t refl (append-nil ars) refl
    (draws_two [] ars bs [] 0 0 o q t (draws_two [] [] [] ars 0 0 o p q f g) h)
