-- The titles of nodes, one by one.
use Rattle.std.proofs.Common.{◌≡◌, ◌≤◌, ◌<◌, ◌+◌, ℕ, List, [], ◌∷◌, ◌++◌, Bool, true, false, append-nil, cond, flat_map, get_or, length, map, take, ap, sym, ◌∙◌}
use Rattle.std.proofs.lemmas.List.{flat_map_more, map-append, take_all, take_more}
use Rattle.std.proofs.lemmas.List.Concat.{flat_map_single}
use Rattle.std.proofs.lemmas.List.Folds.{flat_map-map}
use Rattle.std.proofs.lemmas.Simd.{map-map}
use Rattle.ciel_look_shown.specs.Plain.{shown}
use Rattle.ciel_look_words.specs.declared.known.Known.{Known}
use Rattle.ciel_look_tasks.specs.Known.{Named, known_view, knowns}
use Rattle.ciel_look_tasks.specs.SceneView.{row_view}
use Rattle.ciel_look_tasks.specs.declared.scene.Scene.{Scene}
use Rattle.ciel_look_tasks.specs.declared.scene.Task.{Task}
use Rattle.ciel_look_sheet.specs.Titles.{named_title}
use Rattle.ciel_look_picture.specs.Nodes.{input_title, is_input, node_title}
use Rattle.ciel_look_picture.specs.Titles.{titles}
use Rattle.ciel_look_picture.specs.declared.nodes.Node.{Node}

pub titles_push : (xs ys : List Node) (x : Node) (t : List ℕ) → ys ≡ xs ++ x ∷ [] → x.tip ≡ t → titles ys ≡ titles xs ++ t ∷ []
titles_push xs ys x t p e =
    ap titles p ∙ map-append (λ (n : Node). n.tip) xs (x ∷ []) ∙ ap (λ (u : List ℕ). titles xs ++ u ∷ []) e

-- of the first ones, and one more
module _ {A : Type 0} (f : A → List (List ℕ)) (xs : List A) (old : List (List ℕ)) where
  pub titles_next : (i : ℕ) (x : A) (mid new : List (List ℕ)) → i < length xs → x ≡ get_or xs i x → mid ≡ old ++ flat_map f (take i xs)
      → new ≡ mid ++ f x → new ≡ old ++ flat_map f (take (i + 1) xs)
  titles_next i x mid new h e p q =
      q ∙ ap (λ z. z ++ f x) p ∙ flat_map_more f old (take i xs) x
      ∙ ap (λ ys. old ++ flat_map f ys) (ap (λ y. take i xs ++ y ∷ []) e ∙ sym (take_more xs i x h))

  pub titles_all : (i : ℕ) (new : List (List ℕ)) → length xs ≤ i → new ≡ old ++ flat_map f (take i xs) → new ≡ old ++ flat_map f xs
  titles_all i new h p = p ∙ ap (λ ys. old ++ flat_map f ys) (take_all i xs h)

-- ---- inputs

abbrev pub title_of_input : Known → List (List ℕ)
title_of_input k = input_title (known_view k)

pub inputs_seen : (ks : List Known) → flat_map title_of_input ks ≡ flat_map input_title (knowns ks)
inputs_seen ks = sym (flat_map-map input_title known_view ks)

pub input_is : (k : Named) (old new : List (List ℕ)) → is_input k.1 ≡ true → new ≡ old ++ shown (named_title k) ∷ [] → new ≡ old ++ input_title k
input_is k old new h e = e ∙ ap (λ b. old ++ cond b (shown (named_title k) ∷ []) []) (sym h)

pub input_is_none : (k : Named) (old : List (List ℕ)) → is_input k.1 ≡ false → old ≡ old ++ input_title k
input_is_none k old h = sym (append-nil old) ∙ ap (λ b. old ++ cond b (shown (named_title k) ∷ []) []) (sym h)

-- ---- tasks

module _ (s : Scene) where
  abbrev pub title_of_task : Task → List (List ℕ)
  title_of_task t = node_title (row_view s t) ∷ []

  pub tasks_seen : (ts : List Task) → flat_map title_of_task ts ≡ map node_title (map (row_view s) ts)
  tasks_seen ts = flat_map_single (λ t. node_title (row_view s t)) ts ∙ sym (map-map node_title (row_view s) ts)

-- ---- nodes

abbrev pub title_of : Node → List (List ℕ)
title_of n = n.tip ∷ []

pub titles_seen : (ns : List Node) → flat_map title_of ns ≡ titles ns
titles_seen ns = flat_map_single (λ (n : Node). n.tip) ns
