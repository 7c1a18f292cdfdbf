-- The rows of a scene have the orders and the descriptions of their tasks.
use Rattle.std.proofs.Common.{◌≡◌, ◌-◌, ℕ, zero, suc, List, [], ◌∷◌, ◌++◌, Bool, true, false, cond, flat_map, length, map, take, Option, Some, None}
use Rattle.std.proofs.Common.{append_assoc, arith, length-append, slice_get, refl, ap, ◌∙◌, subst}
use Rattle.std.specs.List.{filter}
use Rattle.sky_base.specs.declared.object.TaskId.{TaskId}
use Rattle.ciel_look_told.specs.Head.{Head}
use Rattle.ciel_look_told.specs.Told.{Told}
use Rattle.ciel_look_words.specs.declared.known.Known.{Known}
use Rattle.ciel_look_tasks.specs.Heads.{AreDescribed, named_in, own_desc}
use Rattle.ciel_look_tasks.specs.Known.{knowns, named_at}
use Rattle.ciel_look_tasks.specs.Learned.{desc_of}
use Rattle.ciel_look_tasks.specs.Rows.{AreFiled, Filed, filed, filed_task, places_of}
use Rattle.ciel_look_tasks.specs.SceneView.{end_view, how_view, one_of, order_view, picked, row_view}
use Rattle.ciel_look_tasks.specs.Seen.{Order, ending_of, first_orders, is_of, row_desc, row_orders, row_task}
use Rattle.ciel_look_tasks.specs.Tasks.{same_task}
use Rattle.ciel_look_tasks.specs.View.{ending_view, headings, how_ending, rows, starts_view}
use Rattle.ciel_look_tasks.specs.declared.scene.End.{End}
use Rattle.ciel_look_tasks.specs.declared.scene.How.{How}
use Rattle.ciel_look_tasks.specs.declared.scene.Run.{Run}
use Rattle.ciel_look_tasks.specs.declared.scene.Scene.{Scene}
use Rattle.ciel_look_tasks.specs.declared.scene.Task.{Task}

pub ending_seen : (e : Option End) → ending_of (end_view e) ≡ ending_view e
ending_seen None = refl
ending_seen (Some e) = go e.how
  where
    go : (h : How) → ending_of (how_view h) ≡ how_ending h
    go (How.Told outcome made) = refl
    go (How.Lost loss) = refl

get_mid : (front back : List Run) (r : Run) → slice_get (front ++ r ∷ back) (length front) ≡ Some r
get_mid [] back r = refl
get_mid (x ∷ front) back r = get_mid front back r

module _ (t : TaskId) where
  abbrev own : List Run → List Order
  own rs = filter (is_of t) (map order_view rs)

  -- what is picked of all by these places
  abbrev so_picked : List Run → List ℕ → List Order
  so_picked all places = map order_view (flat_map (λ i. one_of (slice_get all i)) places)

  -- the first of its orders behind some others
  picks : (back front : List Run) (k : ℕ) → so_picked (front ++ back) (take k (places_of t (length front) (starts_view back))) ≡ take k (own back)
  picks [] front zero = refl
  picks [] front (suc k) = refl
  picks (r ∷ back) front k = go (λ n. next (λ m. picks back (front ++ r ∷ []) m) n) (same_task t r.id) k
    where
      all : List Run
      all = front ++ r ∷ back

      later : List ℕ
      later = places_of t (suc (length front)) (starts_view back)

      next : ((n : ℕ) → so_picked ((front ++ r ∷ []) ++ back) (take n (places_of t (length (front ++ r ∷ [])) (starts_view back))) ≡ take n (own back))
          → (k : ℕ) → so_picked all (take k later) ≡ take k (own back)
      next more k =
          let one : length (front ++ r ∷ []) ≡ suc (length front) = omega (arith, length-append front (r ∷ [])) in
          subst (λ xs. so_picked xs (take k later) ≡ take k (own back)) (append_assoc front (r ∷ []) back)
          (subst (λ n. so_picked ((front ++ r ∷ []) ++ back) (take k (places_of t n (starts_view back))) ≡ take k (own back)) one
          (more k))

      go : ((n : ℕ) → so_picked all (take n later) ≡ take n (own back)) → (b : Bool) (k : ℕ) → so_picked all (take k (cond b (length front ∷ later) later))
          ≡ take k (cond b (order_view r ∷ own back) (own back))
      go more false k = more k
      go more true zero = refl
      go more true (suc k) =
          ap (λ o. map order_view (one_of o ++ flat_map (λ i. one_of (slice_get all i)) (take k later))) (get_mid front back r)
          ∙ ap (λ os. order_view r ∷ os) (more k)

  many : (rs : List Run) (at : ℕ) → length (places_of t at (starts_view rs)) ≡ length (own rs)
  many [] at = refl
  many (r ∷ rs) at = go (same_task t r.id) (many rs (suc at))
    where
      go : (b : Bool) → length (places_of t (suc at) (starts_view rs)) ≡ length (own rs)
          → length (cond b (at ∷ places_of t (suc at) (starts_view rs)) (places_of t (suc at) (starts_view rs)))
          ≡ length (cond b (order_view r ∷ own rs) (own rs))
      go true h = ap suc h
      go false h = h

-- ---- a row

row_is : (s : Scene) (t : Task) → t.runs.items ≡ places_of t.id 0 (starts_view s.runs.items)
    → row_orders (row_view s t) ≡ first_orders (map order_view s.runs.items) t.id
row_is s t e =
    ap (λ ps. (map order_view (picked s.runs.items (take 8 ps)), length ps - 8)) e
    ∙ ap (λ os. (os, length (places_of t.id 0 (starts_view s.runs.items)) - 8)) (picks t.id s.runs.items [] 8)
    ∙ ap (λ n. (take 8 (own t.id s.runs.items), n - 8)) (many t.id s.runs.items 0)

abbrev first_places : List Filed → List ℕ
first_places [] = []
first_places (r ∷ rs) = r.1

abbrev others : List Filed → List Filed
others [] = []
others (r ∷ rs) = rs

all_rows : (s : Scene) (ts : List Task) → rows ts ≡ map (filed (starts_view s.runs.items)) (map filed_task (rows ts))
    → map row_orders (map (row_view s) ts) ≡ map (first_orders (map order_view s.runs.items)) (map row_task (map (row_view s) ts))
all_rows s [] h = refl
all_rows s (t ∷ ts) h =
    ap (λ x. x ∷ map row_orders (map (row_view s) ts)) (row_is s t (ap first_places h))
    ∙ ap (λ xs. first_orders (map order_view s.runs.items) t.id ∷ xs) (all_rows s ts (ap others h))

pub scene_rows : (s : Scene) → AreFiled (rows s.roll.tasks.items) (starts_view s.runs.items)
    → map row_orders (map (row_view s) s.roll.tasks.items)
    ≡ map (first_orders (map order_view s.runs.items)) (map row_task (map (row_view s) s.roll.tasks.items))
scene_rows s h = all_rows s s.roll.tasks.items h.rows

-- ---- descriptions

at_in : (ks : List Known) (k : Option ℕ) → named_at ks k ≡ named_in (knowns ks) k
at_in ks None = refl
at_in ks (Some i) = refl

all_descs : (s : Scene) (head : Head) (ts : List Told) (us : List Task) → AreDescribed head ts (knowns s.known.all.items) (headings us)
    → map row_desc (map (row_view s) us) ≡ map (desc_of head ts) (map row_task (map (row_view s) us))
all_descs s head ts [] d = refl
all_descs s head ts (t ∷ us) d =
    ap (λ x. x ∷ map row_desc (map (row_view s) us)) (ap (own_desc t.id) (at_in s.known.all.items t.known) ∙ d.0.desc)
    ∙ ap (λ xs. desc_of head ts t.id ∷ xs) (all_descs s head ts us d.1)

pub scene_descs : (s : Scene) (head : Head) (ts : List Told)
    → AreDescribed head ts (knowns s.known.all.items) (headings s.roll.tasks.items)
    → map row_desc (map (row_view s) s.roll.tasks.items) ≡ map (desc_of head ts) (map row_task (map (row_view s) s.roll.tasks.items))
scene_descs s head ts d = all_descs s head ts s.roll.tasks.items d
