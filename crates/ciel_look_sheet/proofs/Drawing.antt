-- Pieces that are drawn one behind the other.
use Rattle.std.proofs.Common.{◌≡◌, ◌+◌, ℕ, List, [], ◌∷◌, ◌++◌, append-nil, append_assoc, arith, flat_map, refl, ap, sym, ◌∙◌, subst}
use Rattle.std.specs.List.{sum_by}
use Rattle.std.proofs.lemmas.Grind.{flat_map-append}
use Rattle.std.proofs.lemmas.List.Sums.{sum_by-cons}
use Rattle.ciel_look_sheet.specs.Drawn.{Draws, Piece, arrow_title, box_title, drawing, one_cross, piece_bytes}

crosses_append : (ps qs : List Piece) → sum_by one_cross (ps ++ qs) ≡ sum_by one_cross ps + sum_by one_cross qs
crosses_append [] qs = none (sum_by one_cross qs)
  where
    none : (n : ℕ) → n ≡ 0 + n
    none n = omega arith
crosses_append (p ∷ ps) qs =
    sum_by-cons one_cross p (ps ++ qs) ∙ ap (λ n. one_cross p + n) (crosses_append ps qs)
    ∙ plus (one_cross p) (sum_by one_cross ps) (sum_by one_cross qs) ∙ ap (λ n. n + sum_by one_cross qs) (sym (sum_by-cons one_cross p ps))
  where
    plus : (a b c : ℕ) → a + (b + c) ≡ (a + b) + c
    plus a b c = omega arith

pub draws_none : (old : List ℕ) → Draws [] [] 0 old old
draws_none old =
    record { pieces = []; drawn = sym (append-nil old); its_boxes = refl; its_arrows = refl; its_crosses = refl }

pub draws_one : (p : Piece) (old new : List ℕ) → new ≡ old ++ piece_bytes p → Draws (box_title p) (arrow_title p) (one_cross p) old new
draws_one p old new e =
    record {
      pieces = p ∷ [];
      drawn = e ∙ ap (λ z. old ++ z) (sym (append-nil (piece_bytes p)));
      its_boxes = append-nil (box_title p);
      its_arrows = append-nil (arrow_title p);
      its_crosses = sum_by-cons one_cross p [] ∙ none (one_cross p);
    }
  where
    none : (n : ℕ) → n + 0 ≡ n
    none n = omega arith

module _ (bs ars cs ds : List (List ℕ)) (i j : ℕ) (o m n : List ℕ) where
  pub draws_two : Draws bs ars i o m → Draws cs ds j m n → Draws (bs ++ cs) (ars ++ ds) (i + j) o n
  draws_two f g =
      record {
        pieces = f.pieces ++ g.pieces;
        drawn = g.drawn ∙ ap (λ z. z ++ drawing g.pieces) f.drawn ∙ append_assoc o (drawing f.pieces) (drawing g.pieces)
            ∙ ap (λ z. o ++ z) (sym (flat_map-append piece_bytes f.pieces g.pieces));
        its_boxes = flat_map-append box_title f.pieces g.pieces ∙ ap (λ z. z ++ flat_map box_title g.pieces) f.its_boxes
            ∙ ap (λ z. bs ++ z) g.its_boxes;
        its_arrows = flat_map-append arrow_title f.pieces g.pieces ∙ ap (λ z. z ++ flat_map arrow_title g.pieces) f.its_arrows
            ∙ ap (λ z. ars ++ z) g.its_arrows;
        its_crosses = crosses_append f.pieces g.pieces ∙ ap (λ z. z + sum_by one_cross g.pieces) f.its_crosses ∙ ap (λ z. i + z) g.its_crosses;
      }

-- the same titles
pub draws_as : (bs ars cs ds : List (List ℕ)) (i j : ℕ) (o n : List ℕ) → bs ≡ cs → ars ≡ ds → i ≡ j → Draws bs ars i o n → Draws cs ds j o n
draws_as bs ars cs ds i j o n b a c d =
    record {
      pieces = d.pieces;
      drawn = d.drawn;
      its_boxes = d.its_boxes ∙ b;
      its_arrows = d.its_arrows ∙ a;
      its_crosses = d.its_crosses ∙ c;
    }
