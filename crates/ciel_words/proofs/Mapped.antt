-- Words behind references.
use Rattle.std.proofs.Common.{◌≡◌, ◌&&◌, ℕ, suc, List, [], ◌∷◌, Bor, length, map, nat_le, refl, sym, ap, ap₂}
use Rattle.std.proofs.lemmas.List.Folds.{list_all-map}
use Rattle.std.specs.List.{list_all}
use Rattle.ciel_words.specs.Inputs.{all_apart, are_inputs, input_in, is_input, key_in, most_inputs}

pub map_of_map : {A B C : Type 0} (f : A → B) (g : B → C) (xs : List A) → map g (map f xs) ≡ map (λ x. g (f x)) xs
map_of_map f g [] = refl
map_of_map f g (x ∷ xs) = ap (λ ys. g (f x) ∷ ys) (map_of_map f g xs)

length_behind : (ws : List (Bor (List ℕ))) → length (map (λ w. w.now) ws) ≡ length ws
length_behind [] = refl
length_behind (w ∷ ws) = ap suc (length_behind ws)

pub inputs_behind : (ws : List (Bor (List ℕ)))
    → (nat_le (length ws) most_inputs && (list_all (λ w. is_input w.now) ws && all_apart (map (λ w. key_in w.now) ws)))
    ≡ are_inputs (map (λ w. w.now) ws)
inputs_behind ws =
    ap₂ (λ n b. nat_le n most_inputs && b) (sym (length_behind ws))
    (ap₂ (λ a b. a && b) (sym (list_all-map is_input (λ w. w.now) ws)) (ap all_apart (sym (map_of_map (λ w. w.now) key_in ws))))

pub inputs_read : (ws : List (Bor (List ℕ))) → map (λ w. input_in w.now) ws ≡ map input_in (map (λ w. w.now) ws)
inputs_read ws = sym (map_of_map (λ w. w.now) input_in ws)
