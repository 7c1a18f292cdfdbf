-- What tables have in common before and after a change.
use Rattle.std.proofs.Common.{◌≡◌, ◌+◌, ℕ, zero, suc, List, [], ◌∷◌, ◌++◌, Bool, true, false, cond, ◌||◌, map, drop, append_assoc, add-one, set}
use Rattle.std.proofs.Common.{slice_get, refl, ap, sym, ◌∙◌, subst, ◌⊎◌, inl, inr, Option, Some, None}
use Rattle.std.specs.List.{AllByRecursion, IsDistinct}
use Rattle.std.specs.Option.{option_map, option_map_or}
use Rattle.sky_base.specs.Val.{same_text}
use Rattle.sky_base.specs.declared.object.TaskId.{TaskId}
use Rattle.sky_base.proofs.Exact.{exact_text, self_text}
use Rattle.ciel_journal.proofs.Members.{bool_cases}
use Rattle.ciel_want_marks.specs.Lists.{flag}
use Rattle.ciel_want_ready.specs.Fits.{lives, maker_of, makers, needs_by, node_for, node_of, outs, row_of, rows_of}
use Rattle.ciel_table.specs.Changes.{placed, row_with}
use Rattle.ciel_table.specs.Named.{IsOnce, changed, found, place_of}
use Rattle.ciel_table.specs.Seen.{TableSeen, find, has_place, is_input, is_live_row, last_wait, row_name}
use Rattle.ciel_table.specs.declared.row.Row.{Row}
use Rattle.ciel_table.specs.declared.wait.Wait.{Wait}
use Rattle.ciel_table.proofs.ByName.{flip_text, names_changed, place_same}
use Rattle.ciel_want.proofs.FlaggedTasks.{drop_at}
use Rattle.ciel_want.specs.Board.{task_at}
use Rattle.ciel_want.specs.Waited.{first_needs, first_refs, is_in, needs, needs_at, same_id}

-- ---- lists

module _ {A B : Type 0} where
  pub map_alike : (f g : A → B) → ((x : A) → f x ≡ g x) → (xs : List A) → map f xs ≡ map g xs
  map_alike f g h [] = refl
  map_alike f g h (x ∷ xs) = ap (λ y. y ∷ map f xs) (h x) ∙ ap (λ ys. g x ∷ ys) (map_alike f g h xs)

  pub map_alike_at : (f g : A → B) (xs : List A) → ((i : ℕ) (x : A) → slice_get xs i ≡ Some x → f x ≡ g x) → map f xs ≡ map g xs
  map_alike_at f g [] h = refl
  map_alike_at f g (x ∷ xs) h =
      ap (λ y. y ∷ map f xs) (h 0 x refl) ∙ ap (λ ys. g x ∷ ys) (map_alike_at f g xs (λ i y e. h (suc i) y e))

  pub map_last : (f : A → B) (xs : List A) (x : A) → map f (xs ++ x ∷ []) ≡ map f xs ++ f x ∷ []
  map_last f [] x = refl
  map_last f (y ∷ ys) x = ap (λ zs. f y ∷ zs) (map_last f ys x)

pub map_step : {A B : Type 0} (f : A → B) (xs : List A) (i : ℕ) (x : A) (old new all : List B) → slice_get xs i ≡ Some x → old
    ++ map f (drop i xs) ≡ all → new ≡ old ++ f x ∷ [] → new ++ map f (drop (i + 1) xs) ≡ all
map_step f xs i x old new all e a n =
    ap (λ ys. ys ++ map f (drop (i + 1) xs)) n
    ∙ (append_assoc old (f x ∷ []) (map f (drop (i + 1) xs))
    ∙ (ap (λ j. old ++ f x ∷ map f (drop j xs)) (add-one i) ∙ (ap (λ ys. old ++ map f ys) (sym (drop_at xs i x e)) ∙ a)))

pub set_kept : (fs : List Bool) (i : ℕ) → flag fs i ≡ true → set fs i true ≡ fs
set_kept [] i h = refl
set_kept (f ∷ fs) zero h = ap (λ b. b ∷ fs) (sym h)
set_kept (f ∷ fs) (suc i) h = ap (λ gs. f ∷ gs) (set_kept fs i h)

get_name : {P : Type 0} (xs : List (Row P)) (e : ℕ) → option_map_or row_name (slice_get xs e) []
    ≡ option_map_or (λ (n : List ℕ). n) (slice_get (map row_name xs) e) []
get_name [] e = refl
get_name (x ∷ xs) zero = refl
get_name (x ∷ xs) (suc e) = get_name xs e

module _ {P : Type 0} (main : List ℕ) where
  -- what a task waits for, by its last saved wait and what it waits for at its start
  pub needs_alike : (t u : TableSeen P) (task : TaskId) → last_wait task u ≡ last_wait task t → first_needs main u task ≡ first_needs main t task
      → needs main u task ≡ needs main t task
  needs_alike t u task e f = ap (λ o. needs_at main u o task) e ∙ turn (last_wait task t)
    where
      turn : (o : Option (Wait P)) → needs_at main u o task ≡ needs_at main t o task
      turn None = f
      turn (Some w) = refl

  same_waits : (t : TableSeen P) (rows : List (Row P)) (task : TaskId) → last_wait task (record t { rows = rows }) ≡ last_wait task t
  same_waits t rows TaskId.Show = refl
  same_waits t rows (TaskId.Of n) = refl

  -- ---- one more place

  module _ (t : TableSeen P) (n : List ℕ) (p : P) where
    names_same : map row_name (changed row_name (row_with p) n t.rows) ≡ map row_name t.rows
    names_same = names_changed row_name (row_with p) (λ r. refl) n t.rows

    find_placed : (k : List ℕ) → find k (placed n p t) ≡ find k t
    find_placed k = place_same row_name k t.rows (changed row_name (row_with p) n t.rows) names_same

    node_placed : (task : TaskId) → node_of (placed n p t) task ≡ node_of t task
    node_placed TaskId.Show = refl
    node_placed (TaskId.Of k) = ap (option_map suc) (find_placed k)

    -- what of a row a place doesn't change
    map_placed : {B : Type 0} (f g : Row P → B) → ((r : Row P) → f (row_with p r) ≡ g r) → ((r : Row P) → f r ≡ g r) → (xs : List (Row P))
        → map f (changed row_name (row_with p) n xs) ≡ map g xs
    map_placed f g h k [] = refl
    map_placed f g h k (x ∷ xs) = turn (same_text n x.name) (map_placed f g h k xs)
      where
        turn : (b : Bool) → map f (changed row_name (row_with p) n xs) ≡ map g xs
            → map f (cond b (row_with p x ∷ xs) (x ∷ changed row_name (row_with p) n xs)) ≡ g x ∷ map g xs
        turn true e = ap (λ y. y ∷ map f xs) (h x) ∙ ap (λ ys. g x ∷ ys) (map_alike f g k xs)
        turn false e = ap (λ y. y ∷ map f (changed row_name (row_with p) n xs)) (k x) ∙ ap (λ ys. g x ∷ ys) e

    first_placed : {B : Type 0} (f : Row P → B) (d : B) → ((r : Row P) → f (row_with p r) ≡ f r) → (k : List ℕ) (xs : List (Row P))
        → option_map_or f (found row_name k (changed row_name (row_with p) n xs)) d ≡ option_map_or f (found row_name k xs) d
    first_placed f d h k [] = refl
    first_placed f d h k (x ∷ xs) = turn (same_text n x.name) (first_placed f d h k xs)
      where
        here : (b : Bool) → option_map_or f (cond b (Some (row_with p x)) (found row_name k xs)) d
            ≡ option_map_or f (cond b (Some x) (found row_name k xs)) d
        here true = h x
        here false = refl

        there : (b : Bool) → option_map_or f (found row_name k (changed row_name (row_with p) n xs)) d ≡ option_map_or f (found row_name k xs) d
            → option_map_or f (cond b (Some x) (found row_name k (changed row_name (row_with p) n xs))) d
            ≡ option_map_or f (cond b (Some x) (found row_name k xs)) d
        there true e = refl
        there false e = e

        turn : (b : Bool) → option_map_or f (found row_name k (changed row_name (row_with p) n xs)) d ≡ option_map_or f (found row_name k xs) d
            → option_map_or f (found row_name k (cond b (row_with p x ∷ xs) (x ∷ changed row_name (row_with p) n xs))) d
            ≡ option_map_or f (cond (same_text k x.name) (Some x) (found row_name k xs)) d
        turn true e = here (same_text k x.name)
        turn false e = there (same_text k x.name) e

    firsts_placed : (task : TaskId) → first_needs main (placed n p t) task ≡ first_needs main t task
    firsts_placed TaskId.Show = refl
    firsts_placed (TaskId.Of k) = first_placed (λ (r : Row P). first_refs r.desc) [] (λ r. refl) k t.rows

    task_placed : (o : Option ℕ) → task_at (placed n p t) o ≡ task_at t o
    task_placed None = refl
    task_placed (Some e) =
        ap (λ k. TaskId.Of k) (get_name (changed row_name (row_with p) n t.rows) e
        ∙ (ap (λ ns. option_map_or (λ (n : List ℕ). n) (slice_get ns e) []) names_same ∙ sym (get_name t.rows e)))

    pub needs_placed : (u : ℕ) → needs_by main (placed n p t) u ≡ needs_by main t u
    needs_placed u =
        map_alike (λ k. find k (placed n p t)) (λ k. find k t) find_placed (needs main (placed n p t) (task_at (placed n p t) (row_of u)))
        ∙ (ap (λ x. rows_of t (needs main (placed n p t) x)) (task_placed (row_of u))
        ∙ ap (rows_of t) (needs_alike t (placed n p t) (task_at t (row_of u))
        (same_waits t (changed row_name (row_with p) n t.rows) (task_at t (row_of u))) (firsts_placed (task_at t (row_of u)))))

    pub makers_placed : makers (placed n p t) ≡ makers t
    makers_placed = map_placed (maker_of (placed n p t)) (maker_of t) (λ r. node_placed r.task) (λ r. node_placed r.task) t.rows

    pub outs_placed : (out : List TaskId) → outs (placed n p t) out ≡ outs t out
    outs_placed out =
        ap (λ fs. is_in out TaskId.Show ∷ fs) (map_placed (λ (r : Row P). is_in out (TaskId.Of r.name))
        (λ (r : Row P). is_in out (TaskId.Of r.name)) (λ r. refl) (λ r. refl) t.rows)

    has_more : (ps : List P) → has_place (ps ++ p ∷ []) ≡ true
    has_more [] = refl
    has_more (x ∷ xs) = refl

    or_true : (b c : Bool) → c ≡ true → b || c ≡ true
    or_true true c e = refl
    or_true false c e = e

    lives_at : (xs : List (Row P)) (e : ℕ) → place_of row_name n xs ≡ Some e → map is_live_row (changed row_name (row_with p) n xs)
        ≡ set (map is_live_row xs) e true
    lives_at [] e h = cc
    lives_at (x ∷ xs) e h = turn (same_text n x.name) (place_of row_name n xs) refl h (lives_at xs)
      where
        turn : (b : Bool) (o : Option ℕ) → place_of row_name n xs ≡ o → cond b (Some 0) (option_map suc o) ≡ Some e
            → ((k : ℕ) → place_of row_name n xs ≡ Some k → map is_live_row (changed row_name (row_with p) n xs)
            ≡ set (map is_live_row xs) k true) → map is_live_row (cond b (row_with p x ∷ xs) (x ∷ changed row_name (row_with p) n xs))
            ≡ set (is_live_row x ∷ map is_live_row xs) e true
        turn true o q k r =
            let z : 0 ≡ e = cc in
            ap (λ b. b ∷ map is_live_row xs) (or_true (is_input x.desc) (has_place (x.places ++ p ∷ [])) (has_more x.places))
            ∙ ap (λ i. set (is_live_row x ∷ map is_live_row xs) i true) z
        turn false None q k r = cc
        turn false (Some j) q k r =
            let z : suc j ≡ e = cc in
            ap (λ ys. is_live_row x ∷ ys) (r j q) ∙ ap (λ i. set (is_live_row x ∷ map is_live_row xs) i true) z

    pub lives_placed : (e : ℕ) → find n t ≡ Some e → lives (placed n p t) ≡ set (lives t) e true
    lives_placed e h = lives_at t.rows e h

-- ---- what is out

module _ {P : Type 0} (t : TableSeen P) (once : IsOnce row_name t.rows) (task : TaskId) (b : Bool) (f g : TaskId → Bool)
    (here : (x : TaskId) → same_id x task ≡ true → f x ≡ b) (other : (x : TaskId) → same_id x task ≡ false → f x ≡ g x) where
  none_named : (n : List ℕ) (xs : List (Row P)) → task ≡ TaskId.Of n → AllByRecursion (λ m. same_text n m ≡ false) (map row_name xs)
      → map (λ (r : Row P). f (TaskId.Of r.name)) xs ≡ map (λ (r : Row P). g (TaskId.Of r.name)) xs
  none_named n [] s a = refl
  none_named n (x ∷ xs) s a =
      let e : f (TaskId.Of x.name) ≡ g (TaskId.Of x.name) = other (TaskId.Of x.name) (ap (same_id (TaskId.Of x.name)) s ∙ flip_text n x.name a.0) in
      ap (λ y. y ∷ map (λ (r : Row P). f (TaskId.Of r.name)) xs) e
      ∙ ap (λ ys. g (TaskId.Of x.name) ∷ ys) (none_named n xs s a.1)

  set_named : (n : List ℕ) (xs : List (Row P)) (e : ℕ) → task ≡ TaskId.Of n → IsOnce row_name xs → place_of row_name n xs ≡ Some e
      → map (λ (r : Row P). f (TaskId.Of r.name)) xs ≡ set (map (λ (r : Row P). g (TaskId.Of r.name)) xs) e b
  unfolding IsDistinct
  set_named n [] e s o h = cc
  set_named n (x ∷ xs) e s o h = turn (bool_cases (same_text n x.name)) (place_of row_name n xs) refl (λ k q. set_named n xs k s o.1 q)
    where
      turn : ((same_text n x.name ≡ true) ⊎ (same_text n x.name ≡ false)) → (p : Option ℕ) → place_of row_name n xs ≡ p
          → ((k : ℕ) → place_of row_name n xs ≡ Some k → map (λ (r : Row P). f (TaskId.Of r.name)) xs
          ≡ set (map (λ (r : Row P). g (TaskId.Of r.name)) xs) k b) → map (λ (r : Row P). f (TaskId.Of r.name)) (x ∷ xs)
          ≡ set (map (λ (r : Row P). g (TaskId.Of r.name)) (x ∷ xs)) e b
      turn (inl y) p q r =
          let z : Some 0 ≡ Some e = sym (ap (λ c. cond c (Some 0) (option_map suc (place_of row_name n xs))) y) ∙ h in
          let i : 0 ≡ e = cc in
          let name = exact_text n x.name y in
          let now : f (TaskId.Of x.name) ≡ b = here (TaskId.Of x.name)
          (ap (same_id (TaskId.Of x.name)) s ∙ subst (λ k. same_text x.name k ≡ true) (sym name) (self_text x.name)) in
          ap (λ c. c ∷ map (λ (r : Row P). f (TaskId.Of r.name)) xs) now
          ∙ (ap (λ cs. b ∷ cs) (none_named n xs s (subst (λ k. AllByRecursion (λ m. same_text k m ≡ false) (map row_name xs)) (sym name) o.0))
          ∙ ap (λ k. set (map (λ (r : Row P). g (TaskId.Of r.name)) (x ∷ xs)) k b) i)
      turn (inr y) None q r =
          let z : None ≡ Some e = sym (ap (λ c. option_map suc c) q)
          ∙ (sym (ap (λ c. cond c (Some 0) (option_map suc (place_of row_name n xs))) y) ∙ h) in
          cc
      turn (inr y) (Some k) q r =
          let z : Some (suc k) ≡ Some e = sym (ap (λ c. option_map suc c) q)
          ∙ (sym (ap (λ c. cond c (Some 0) (option_map suc (place_of row_name n xs))) y) ∙ h) in
          let i : suc k ≡ e = cc in
          let rest = r k q in
          let now : f (TaskId.Of x.name) ≡ g (TaskId.Of x.name) =
          other (TaskId.Of x.name) (ap (same_id (TaskId.Of x.name)) s ∙ flip_text n x.name y) in
          ap (λ c. c ∷ map (λ (r : Row P). f (TaskId.Of r.name)) xs) now
          ∙ (ap (λ cs. g (TaskId.Of x.name) ∷ cs) rest ∙ ap (λ j. set (map (λ (r : Row P). g (TaskId.Of r.name)) (x ∷ xs)) j b) i)

  pub outs_set : (u : ℕ) → node_for t task ≡ Some u → f TaskId.Show ∷ map (λ (r : Row P). f (TaskId.Of r.name)) t.rows
      ≡ set (g TaskId.Show ∷ map (λ (r : Row P). g (TaskId.Of r.name)) t.rows) u b
  outs_set u h = turn task refl h
    where
      rows_same : task ≡ TaskId.Show → (xs : List (Row P)) → map (λ (r : Row P). f (TaskId.Of r.name)) xs
          ≡ map (λ (r : Row P). g (TaskId.Of r.name)) xs
      rows_same s xs =
          map_alike (λ (r : Row P). f (TaskId.Of r.name)) (λ (r : Row P). g (TaskId.Of r.name))
          (λ r. other (TaskId.Of r.name) (ap (same_id (TaskId.Of r.name)) s)) xs

      place : (n : List ℕ) → task ≡ TaskId.Of n → (o : Option ℕ) → find n t ≡ o → option_map suc o ≡ Some u → f TaskId.Show
          ∷ map (λ (r : Row P). f (TaskId.Of r.name)) t.rows ≡ set (g TaskId.Show ∷ map (λ (r : Row P). g (TaskId.Of r.name)) t.rows) u b
      place n s None q k = cc
      place n s (Some e) q k =
          let i : suc e ≡ u = cc in
          ap (λ c. c ∷ map (λ (r : Row P). f (TaskId.Of r.name)) t.rows) (other TaskId.Show (ap (same_id TaskId.Show) s))
          ∙ (ap (λ cs. g TaskId.Show ∷ cs) (set_named n t.rows e s once q)
          ∙ ap (λ j. set (g TaskId.Show ∷ map (λ (r : Row P). g (TaskId.Of r.name)) t.rows) j b) i)

      turn : (x : TaskId) → task ≡ x → node_for t x ≡ Some u → f TaskId.Show ∷ map (λ (r : Row P). f (TaskId.Of r.name)) t.rows
          ≡ set (g TaskId.Show ∷ map (λ (r : Row P). g (TaskId.Of r.name)) t.rows) u b
      turn TaskId.Show s k =
          let i : 0 ≡ u = cc in
          ap (λ c. c ∷ map (λ (r : Row P). f (TaskId.Of r.name)) t.rows) (here TaskId.Show (ap (same_id TaskId.Show) s))
          ∙ (ap (λ cs. b ∷ cs) (rows_same s t.rows)
          ∙ ap (λ j. set (g TaskId.Show ∷ map (λ (r : Row P). g (TaskId.Of r.name)) t.rows) j b) i)
      turn (TaskId.Of n) s k = place n s (find n t) refl k
