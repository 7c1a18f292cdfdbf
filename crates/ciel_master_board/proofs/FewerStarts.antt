-- Each turn but a loss and what is missing leaves no more to start, and a start leaves less.
use Rattle.std.proofs.Common.{◌≡◌, ℕ, suc, ◌+◌, ◌-◌, ◌*◌, ◌≤◌, ◌<◌, List, [], ◌∷◌, ◌++◌, length, Bool, true, false, not, cond, ◌||◌, nat_eq, nat_lt}
use Rattle.std.proofs.Common.{eqb-true, Option, Some, None, ◌⊎◌, inl, inr, refl, ap, sym, ◌∙◌, subst, arith}
use Rattle.std.specs.List.{AllByRecursion}
use Rattle.std.specs.Option.{option_and_then, option_map_or}
use Rattle.sky_base.specs.Val.{same_text}
use Rattle.sky_base.specs.declared.object.Named.{Named}
use Rattle.sky_base.specs.declared.object.TaskId.{TaskId}
use Rattle.ciel_journal.specs.Graph.{Led, root, through}
use Rattle.ciel_journal.specs.Job.{In}
use Rattle.ciel_journal.proofs.Members.{bool_cases, each_of}
use Rattle.ciel_journal.proofs.Numbers.{filter_in}
use Rattle.ciel_table.specs.Changes as c
use Rattle.ciel_table.specs.Named.{changed, found}
use Rattle.ciel_table.specs.Seen.{TableSeen, has_place, is_input, is_live_row, later, latest, row_name, row_named, saves_name, waits_of, last_wait}
use Rattle.ciel_table.specs.declared.row.Row.{Row}
use Rattle.ciel_table.specs.declared.wait.Saves.{Saves}
use Rattle.ciel_table.specs.declared.wait.Wait.{Wait}
use Rattle.ciel_want.specs.Waited.{is_in, made_by, same_id}
use Rattle.ciel_want.proofs.Listed.{same_exact}
use Rattle.ciel_master_board.specs.Board.{Board, OrderOut, board_graph, tasks_out, wait_number}
use Rattle.ciel_master_board.specs.Follows.{OneByOne}
use Rattle.ciel_master_board.specs.Moves.{done_at, order_for, saved_at, started, wait_of, with_copies, with_outputs, without}
use Rattle.ciel_master_board.specs.Reports.{Copy, Output, Stack, learned_all}
use Rattle.ciel_master_board.specs.Sound.{OrderSound, Sound}
use Rattle.ciel_master_board.proofs.LearnedNames.{found_in, grown}
use Rattle.ciel_master_board.proofs.Pairs.{long}
use Rattle.ciel_master_board.proofs.PlacedRows.{SameBut, copies_same, outputs_same}
use Rattle.ciel_master_board.proofs.WaitsByName.{more_waits, same_waits}
use Rattle.ciel_master_board.proofs.SoundLemmas.{last_greatest, same_self}
use Rattle.ciel_master_board.specs.Left.{all_left, row_left, rows_left, starts_left}
use Rattle.ciel_master_board.proofs.StartSums.{Lighter, all_lighter, rows_drop}

cut : (c : Bool) (m n : ℕ) → m ≤ n → cond c 0 m ≤ n
cut true m n l = omega arith
cut false m n l = l

-- ---- the last saved wait

module _ {P : Type 0} where
  -- no wait has a greater number
  abbrev pub Early : ℕ → List (Wait P) → Type 0
  Early most ws = AllByRecursion (λ (w : Wait P). w.j ≤ most) ws

  -- no saved wait of a table has
  pub record Within (most : ℕ) (t : TableSeen P) : Type 0 where
    pub shown : Early most t.shown
    pub saved : AllByRecursion (λ (s : Saves P). Early most s.waits) t.saved

  abbrev waits_or : Option (Saves P) → List (Wait P)
  waits_or o = option_map_or (λ (q : Saves P). q.waits) o []

  -- it is no later than all of them are
  pub last_below : (k : ℕ) (ws : List (Wait P)) → AllByRecursion (λ (w : Wait P). w.j ≤ k) ws → wait_number (latest ws) ≤ k
  last_below k [] h = omega arith
  last_below k (w ∷ ws) h = pick (latest ws) (last_below k ws h.1)
    where
      pick : (o : Option (Wait P)) → wait_number o ≤ k → wait_number (later w o) ≤ k
      pick None l = h.0
      pick (Some v) l = turn (nat_lt v.j w.j)
        where
          turn : (b : Bool) → wait_number (cond b (Some w) (Some v)) ≤ k
          turn true = h.0
          turn false = l

  last_all : (Q : Wait P → Type 0) (ws : List (Wait P)) (w : Wait P) → AllByRecursion Q (ws ++ w ∷ []) → Q w
  last_all Q [] w h = h.0
  last_all Q (v ∷ vs) w h = last_all Q vs w h.1

  -- no earlier than one at the end
  pub last_above : (ws : List (Wait P)) (w : Wait P) → w.j ≤ wait_number (latest (ws ++ w ∷ []))
  last_above ws w =
      last_all (λ (v : Wait P). v.j ≤ wait_number (latest (ws ++ w ∷ []))) ws w (last_greatest (ws ++ w ∷ []))

  pub waits_early : (most : ℕ) (t : TableSeen P) → Within most t → (x : TaskId) → Early most (waits_of x t)
  waits_early most t w TaskId.Show = w.shown
  waits_early most t w (TaskId.Of n) = pick (found saves_name n t.saved) refl
    where
      all_has : (qs : List (Saves P)) (q : Saves P) → AllByRecursion (λ (s : Saves P). Early most s.waits) qs → In q qs → Early most q.waits
      all_has [] q a i = absurd i
      all_has (y ∷ ys) q a (inl s) = subst (λ (z : Saves P). Early most z.waits) (sym s) a.0
      all_has (y ∷ ys) q a (inr i) = all_has ys q a.1 i

      pick : (o : Option (Saves P)) → found saves_name n t.saved ≡ o → Early most (waits_of (TaskId.Of n) t)
      pick None e =
          subst (Early most) (sym (ap waits_or e)) tt
      pick (Some q) e =
          subst (Early most) (sym (ap waits_or e)) (all_has t.saved q w.saved (found_in saves_name n t.saved q e))

-- ---- rows whose places are more

module _ {A : Type 0} where
  one_self : (R : A → A → Type 0) → ((x : A) → R x x) → (xs : List A) → OneByOne R xs xs
  one_self R f [] = tt
  one_self R f (x ∷ xs) = (f x, one_self R f xs)

  pairs_map : (R S : A → A → Type 0) (xs ys : List A) → ((x y : A) → In y ys → R x y → S x y) → OneByOne R xs ys → OneByOne S xs ys
  pairs_map R S [] [] f h = tt
  pairs_map R S [] (y ∷ ys) f h = absurd h
  pairs_map R S (x ∷ xs) [] f h = absurd h
  pairs_map R S (x ∷ xs) (y ∷ ys) f h =
      (f x y (inl refl) h.0, pairs_map R S xs ys (λ u v i. f u v (inr i)) h.1)

module _ {P : Type 0} where
  -- of the same task, and live if it was
  record Fuller (r q : Row P) : Type 0 where
    task : q.task ≡ r.task
    live : is_live_row r ≡ true → is_live_row q ≡ true

  fuller_self : (r : Row P) → Fuller r r
  fuller_self r = record { task = refl; live = λ e. e }

  fuller_join : (rs qs zs : List (Row P)) → OneByOne Fuller rs qs → OneByOne Fuller qs zs → OneByOne Fuller rs zs
  fuller_join [] [] [] h k = tt
  fuller_join [] [] (z ∷ zs) h k = absurd k
  fuller_join [] (q ∷ qs) zs h k = absurd h
  fuller_join (r ∷ rs) [] zs h k = absurd h
  fuller_join (r ∷ rs) (q ∷ qs) [] h k = absurd k
  fuller_join (r ∷ rs) (q ∷ qs) (z ∷ zs) h k =
      (record { task = k.0.task ∙ h.0.task; live = λ e. k.0.live (h.0.live e) }, fuller_join rs qs zs h.1 k.1)

  row_fuller : (p : P) (r : Row P) → Fuller r (c.row_with p r)
  row_fuller p r = record { task = refl; live = live (is_input r.desc) r.places }
    where
      live : (i : Bool) (ps : List P) → i || has_place ps ≡ true → i || has_place (ps ++ p ∷ []) ≡ true
      live true ps e = refl
      live false [] e = refl
      live false (q ∷ qs) e = refl

  changed_fuller : (n : List ℕ) (p : P) (rs : List (Row P)) → OneByOne Fuller rs (changed row_name (c.row_with p) n rs)
  changed_fuller n p [] = tt
  changed_fuller n p (r ∷ rs) = pick (same_text n r.name) (changed_fuller n p rs)
    where
      pick : (b : Bool) → OneByOne Fuller rs (changed row_name (c.row_with p) n rs)
          → OneByOne Fuller (r ∷ rs) (cond b (c.row_with p r ∷ rs) (r ∷ changed row_name (c.row_with p) n rs))
      pick true h = (row_fuller p r, one_self Fuller fuller_self rs)
      pick false h = (fuller_self r, h)

  outputs_fuller : (ms : List (Output P)) (t : TableSeen P) → OneByOne Fuller t.rows (with_outputs ms t).rows
  outputs_fuller [] t = one_self Fuller fuller_self t.rows
  outputs_fuller (m ∷ ms) t =
      fuller_join t.rows (c.placed m.name m.place t).rows (with_outputs (m ∷ ms) t).rows (changed_fuller m.name m.place t.rows)
      (outputs_fuller ms (c.placed m.name m.place t))

  copies_fuller : (xs : List (Copy P)) (t : TableSeen P) → OneByOne Fuller t.rows (with_copies xs t).rows
  copies_fuller [] t = one_self Fuller fuller_self t.rows
  copies_fuller (x ∷ xs) t =
      fuller_join t.rows (c.placed x.name x.place t).rows (with_copies (x ∷ xs) t).rows (changed_fuller x.name x.place t.rows)
      (copies_fuller xs (c.placed x.name x.place t))

-- ---- which tasks are out

out_more : (xs : List OrderOut) (o : OrderOut) (y : TaskId) → is_in (tasks_out (xs ++ o ∷ [])) y ≡ is_in (tasks_out xs) y || same_id y o.task
out_more [] o y = pick (same_id y o.task)
  where
    pick : (c : Bool) → c || false ≡ c
    pick true = refl
    pick false = refl
out_more (x ∷ xs) o y = pick (same_id y x.task) (out_more xs o y)
  where
    pick : (c : Bool) → is_in (tasks_out (xs ++ o ∷ [])) y ≡ is_in (tasks_out xs) y || same_id y o.task → c || is_in (tasks_out (xs ++ o ∷ [])) y
        ≡ (c || is_in (tasks_out xs) y) || same_id y o.task
    pick true e = refl
    pick false e = e

-- a task that is out has an order, and the other way
pub out_has : (xs : List OrderOut) (y : TaskId) → is_in (tasks_out xs) y ≡ true → (o : OrderOut) × In o xs × (o.task ≡ y)
out_has [] y e = cc
out_has (x ∷ xs) y e = pick (bool_cases (same_id y x.task)) (out_has xs y)
  where
    pick : ((same_id y x.task ≡ true) ⊎ (same_id y x.task ≡ false)) → (is_in (tasks_out xs) y ≡ true → (o : OrderOut) × In o xs × (o.task ≡ y))
        → (o : OrderOut) × In o (x ∷ xs) × (o.task ≡ y)
    pick (inl t) r = (x, inl refl, sym (same_exact y x.task t))
    pick (inr f) r = let q = r (sym (ap (λ b. b || is_in (tasks_out xs) y) f) ∙ e) in (q.0, inr q.1, q.2)

pub has_out : (xs : List OrderOut) (o : OrderOut) → In o xs → is_in (tasks_out xs) o.task ≡ true
has_out [] o i = absurd i
has_out (x ∷ xs) o (inl s) =
    subst (λ (z : OrderOut). same_id z.task x.task || is_in (tasks_out xs) z.task ≡ true) (sym s)
    (ap (λ b. b || is_in (tasks_out xs) x.task) (same_self x.task))
has_out (x ∷ xs) o (inr i) = pick (same_id o.task x.task) (has_out xs o i)
  where
    pick : (c : Bool) → is_in (tasks_out xs) o.task ≡ true → c || is_in (tasks_out xs) o.task ≡ true
    pick true e = refl
    pick false e = e

module _ {P : Type 0} (digest : List ℕ → List ℕ) (at : P → ℕ) (most : ℕ) (b : Board P) (sound : Sound digest at b) where
  -- an order that is closed: another task that is out stays out
  still_out : (x : OrderOut) → In x b.orders → (y : TaskId) → same_id y x.task ≡ false → is_in (tasks_out b.orders) y ≡ true
      → is_in (tasks_out (without x.number b.orders)) y ≡ true
  still_out x i y n e =
      let q = out_has b.orders y e in
      subst (λ z. is_in (tasks_out (without x.number b.orders)) z ≡ true) q.2
      (has_out (without x.number b.orders) q.0 (filter_in (λ (o : OrderOut). not (nat_eq x.number o.number)) q.0 b.orders q.1
      (other q.0 q.1 q.2 (bool_cases (nat_eq x.number q.0.number)))))
    where
      other : (o : OrderOut) → In o b.orders → o.task ≡ y → ((nat_eq x.number o.number ≡ true) ⊎ (nat_eq x.number o.number ≡ false))
          → not (nat_eq x.number o.number) ≡ true
      other o j k (inr f) = ap not f
      other o j k (inl t) =
          let z : x ≡ o = sound.numbers x o i j (eqb-true x.number o.number t) in
          let u : same_id y x.task ≡ true = subst (λ w. same_id w x.task ≡ true) (ap (λ (w : OrderOut). w.task) z ∙ k) (same_self x.task) in
          let bad : true ≡ false = sym u ∙ n in
          cc

  -- where no more tasks are out than those, and the last wait is the same or later
  left_less : (x y : Bool) (l m : ℕ) → l ≤ m → (x ≡ true → y ≡ true) → cond y most (suc most) - m ≤ cond x most (suc most) - l
  left_less true true l m k h = omega (arith, k)
  left_less true false l m k h = let bad : false ≡ true = h refl in cc
  left_less false true l m k h = omega (arith, k)
  left_less false false l m k h = omega (arith, k)

  left_step : (y : Bool) (l m : ℕ) → l < m → cond y most (suc most) - m ≤ most - l
  left_step true l m k = omega (arith, k)
  left_step false l m k = omega (arith, k)

  -- ---- a start

  module _ (early : Within most b.table) (x : TaskId) (w : ℕ) (out : is_in (tasks_out b.orders) x ≡ false) where
    abbrev start_then : Board P
    start_then = started at b x w

    out_now : (y : TaskId) → is_in (tasks_out start_then.orders) y ≡ is_in (tasks_out b.orders) y || same_id y x
    out_now y = out_more b.orders (order_for at b x w).out y

    start_left : (y : TaskId) → starts_left most start_then y ≤ starts_left most b y
    start_left y =
        left_less (is_in (tasks_out b.orders) y) (is_in (tasks_out start_then.orders) y) (wait_number (last_wait y b.table))
        (wait_number (last_wait y b.table)) (omega arith) (λ e. out_now y ∙ ap (λ c. c || same_id y x) e)

    start_row : (r : Row P) → row_left most start_then r ≤ row_left most b r
    start_row r = pick (is_live_row r)
      where
        pick : (c : Bool) → cond c 0 (starts_left most start_then r.task) ≤ cond c 0 (starts_left most b r.task)
        pick true = omega arith
        pick false = start_left r.task

    start_drops : starts_left most start_then x < starts_left most b x
    start_drops =
        let l = last_below most (waits_of x b.table) (waits_early most b.table early x) in
        let e : is_in (tasks_out start_then.orders) x ≡ true = out_now x ∙ (ap (λ c. c || same_id x x) out ∙ same_self x) in
        let n : starts_left most start_then x ≡ most - wait_number (last_wait x b.table) =
        ap (λ c. cond c most (suc most) - wait_number (last_wait x b.table)) e in
        let o : starts_left most b x ≡ suc most - wait_number (last_wait x b.table) =
        ap (λ c. cond c most (suc most) - wait_number (last_wait x b.table)) out in
        sums (wait_number (last_wait x b.table)) (starts_left most start_then x) (starts_left most b x) l n o
      where
        sums : (l n o : ℕ) → l ≤ most → n ≡ most - l → o ≡ suc most - l → n < o
        sums l n o k e f = omega (arith, k, e, f)

    pub start_less : Led (board_graph b) x → all_left most start_then < all_left most b
    start_less led = pick x refl led
      where
        rest : ℕ
        rest = (b.table.limit - length b.table.rows) * suc most

        rows_same : (rs : List (Row P)) → rows_left most start_then rs ≤ rows_left most b rs
        rows_same [] = omega arith
        rows_same (r ∷ rs) =
            less (row_left most start_then r) (row_left most b r) (rows_left most start_then rs) (rows_left most b rs) (start_row r) (rows_same rs)
          where
            less : (f g t u : ℕ) → f ≤ g → t ≤ u → f + t ≤ g + u
            less f g t u a e = omega (arith, a, e)

        at_root : (f g t u v : ℕ) → f < g → t ≤ u → (f + t) + v < (g + u) + v
        at_root f g t u v a e = omega (arith, a, e)

        at_row : (f g t u v : ℕ) → f ≤ g → t < u → (f + t) + v < (g + u) + v
        at_row f g t u v a e = omega (arith, a, e)

        pick : (y : TaskId) → y ≡ x → Led (board_graph b) y → all_left most start_then < all_left most b
        pick y e root =
            at_root (starts_left most start_then TaskId.Show) (starts_left most b TaskId.Show) (rows_left most start_then b.table.rows)
            (rows_left most b b.table.rows) rest (subst (λ z. starts_left most start_then z < starts_left most b z) (sym e) start_drops)
            (rows_same b.table.rows)
        pick y e (through l o d i dead makes) = turn (row_named d b.table) refl
          where
            turn : (o : Option (Row P)) → row_named d b.table ≡ o → all_left most start_then < all_left most b
            turn None f = let bad : None ≡ Some y = sym (ap (option_and_then (made_by b.table)) f) ∙ makes in cc
            turn (Some r) f = other (is_input r.desc) refl
              where
                live : is_live_row r ≡ false
                live = sym (ap (λ o. option_map_or is_live_row o false) f) ∙ dead

                made : made_by b.table r ≡ Some y
                made = sym (ap (option_and_then (made_by b.table)) f) ∙ makes

                other : (c : Bool) → is_input r.desc ≡ c → all_left most start_then < all_left most b
                other true g =
                    let bad : None ≡ Some y = sym (ap (λ c. cond c None (Some r.task)) g) ∙ made in cc
                other false g =
                    let s : Some r.task ≡ Some y = sym (ap (λ c. cond c None (Some r.task)) g) ∙ made in
                    let t : r.task ≡ y = cc in
                    let n : row_left most start_then r ≡ starts_left most start_then x =
                    ap (λ c. cond c 0 (starts_left most start_then r.task)) live ∙ ap (starts_left most start_then) (t ∙ e) in
                    let o : row_left most b r ≡ starts_left most b x = ap (λ c. cond c 0 (starts_left most b r.task)) live
                    ∙ ap (starts_left most b) (t ∙ e) in
                    let l : row_left most start_then r < row_left most b r =
                    subst (λ z. row_left most start_then r < z) (sym o) (subst (λ z. z < starts_left most b x) (sym n) start_drops) in
                    at_row (starts_left most start_then TaskId.Show) (starts_left most b TaskId.Show) (rows_left most start_then b.table.rows)
                    (rows_left most b b.table.rows) rest (start_left TaskId.Show)
                    (rows_drop most b start_then b.table.rows (λ z j. start_row z) r (found_in row_name d b.table.rows r f) l)

  -- ---- a report

  -- the board after it: other rows and waits, and the order closed
  module _ (x : OrderOut) (there : In x b.orders) (then : Board P) (orders : then.orders ≡ without x.number b.orders) where
    out_then : (y : TaskId) → same_id y x.task ≡ false → is_in (tasks_out b.orders) y ≡ true → is_in (tasks_out then.orders) y ≡ true
    out_then y n e =
        subst (λ os. is_in (tasks_out os) y ≡ true) (sym orders) (still_out x there y n e)

    -- another task may be started as often as before
    pub other_left : (y : TaskId) → same_id y x.task ≡ false → waits_of y then.table ≡ waits_of y b.table
        → starts_left most then y ≤ starts_left most b y
    other_left y n w =
        let l : wait_number (last_wait y b.table) ≡ wait_number (last_wait y then.table) = sym (ap (λ ws. wait_number (latest ws)) w) in
        left_less (is_in (tasks_out b.orders) y) (is_in (tasks_out then.orders) y) (wait_number (last_wait y b.table))
        (wait_number (last_wait y then.table)) (same_le l) (out_then y n)
      where
        same_le : {l m : ℕ} → l ≡ m → l ≤ m
        same_le {l} {m} e = omega (arith, e)

    -- its own, after a later wait, too
    pub own_left : (w : Wait P) → x.from < w.j → waits_of x.task then.table ≡ c.waits_with at w (waits_of x.task b.table)
        → starts_left most then x.task ≤ starts_left most b x.task
    own_left w later waits =
        let o = each_of (OrderSound b) x b.orders there sound.orders in
        let before : wait_number (last_wait x.task b.table) ≤ x.from = last_below x.from (waits_of x.task b.table) o.last in
        let after : w.j ≤ wait_number (last_wait x.task then.table) =
        subst (λ ws. w.j ≤ wait_number (latest ws)) (sym waits) (last_above (c.waits_without at (at w.place) (waits_of x.task b.table)) w) in
        let e : starts_left most b x.task ≡ most - wait_number (last_wait x.task b.table) =
        ap (λ c. cond c most (suc most) - wait_number (last_wait x.task b.table)) (has_out b.orders x there) in
        subst (λ z. starts_left most then x.task ≤ z) (sym e)
        (left_step (is_in (tasks_out then.orders) x.task) (wait_number (last_wait x.task b.table))
        (wait_number (last_wait x.task then.table))
        (between x.from w.j (wait_number (last_wait x.task b.table)) (wait_number (last_wait x.task then.table)) before later after))
      where
        between : (f j l m : ℕ) → l ≤ f → f < j → j ≤ m → l < m
        between f j l m a c d = omega (arith, a, c, d)

    same_row : ((y : TaskId) → starts_left most then y ≤ starts_left most b y) → (r : Row P) → row_left most then r ≤ row_left most b r
    same_row h r = pick (is_live_row r)
      where
        pick : (c : Bool) → cond c 0 (starts_left most then r.task) ≤ cond c 0 (starts_left most b r.task)
        pick true = omega arith
        pick false = h r.task

  module _ (x : OrderOut) (there : In x b.orders) (spawned : List Named)
      (room : length (learned_all digest spawned b.table).rows ≤ b.table.limit) where
    abbrev learned_then : TableSeen P
    learned_then = learned_all digest spawned b.table

    fits : length learned_then.rows ≤ learned_then.limit
    fits = let g = (grown digest spawned b.table).limit in omega (arith, room, g)

    learned_waits : (y : TaskId) → waits_of y learned_then ≡ waits_of y b.table
    learned_waits y =
        let g = grown digest spawned b.table in same_waits y b.table learned_then g.shown g.saved

    pub saved_less : (q : Stack P) → x.from < q.j → all_left most (saved_at digest at b x spawned q) ≤ all_left most b
    saved_less q later =
        let g = grown digest spawned b.table in
        all_lighter most b then g.news (subst (λ rs. OneByOne (Lighter most b then) (b.table.rows ++ g.news) rs) (sym g.rows)
        (one_self (Lighter most b then) (same_row x there then refl left) (b.table.rows ++ g.news))) g.limit fits (left TaskId.Show)
      where
        then : Board P
        then = saved_at digest at b x spawned q

        waits : (y : TaskId) → waits_of y then.table
            ≡ cond (same_id y x.task) (c.waits_with at (wait_of q) (waits_of y learned_then)) (waits_of y learned_then)
        waits y = more_waits at y x.task (wait_of q) learned_then

        left : (y : TaskId) → starts_left most then y ≤ starts_left most b y
        left y = pick (bool_cases (same_id y x.task))
          where
            pick : ((same_id y x.task ≡ true) ⊎ (same_id y x.task ≡ false)) → starts_left most then y ≤ starts_left most b y
            pick (inl t) =
                subst (λ z. starts_left most then z ≤ starts_left most b z) (sym (same_exact y x.task t))
                (own_left x there then refl (wait_of q) later
                (waits x.task ∙ (ap (λ e. cond e (c.waits_with at (wait_of q) (waits_of x.task learned_then)) (waits_of x.task learned_then))
                (same_self x.task) ∙ ap (c.waits_with at (wait_of q)) (learned_waits x.task))))
            pick (inr f) =
                other_left x there then refl y f (waits y
                ∙ (ap (λ e. cond e (c.waits_with at (wait_of q) (waits_of y learned_then)) (waits_of y learned_then)) f ∙ learned_waits y))

    -- where each row of its task is live then
    pub done_less : (ms : List (Output P)) (cs : List (Copy P)) → same_id TaskId.Show x.task ≡ false
        → ((r : Row P) → In r (done_at digest b x spawned ms cs).table.rows → r.task ≡ x.task → is_live_row r ≡ true)
        → all_left most (done_at digest b x spawned ms cs) ≤ all_left most b
    done_less ms cs not_root live =
        let g = grown digest spawned b.table in
        let limit : then.table.limit ≡ learned_then.limit = copies.limit ∙ outs.limit in
        all_lighter most b then g.news (subst (λ rs. OneByOne (Lighter most b then) rs then.table.rows) g.rows lighter) (limit ∙ g.limit)
        (room_then limit) (left TaskId.Show not_root)
      where
        then : Board P
        then = done_at digest b x spawned ms cs

        outs : SameBut learned_then (with_outputs ms learned_then)
        outs = outputs_same ms learned_then

        copies : SameBut (with_outputs ms learned_then) then.table
        copies = copies_same cs (with_outputs ms learned_then)

        fuller : OneByOne Fuller learned_then.rows then.table.rows
        fuller =
            fuller_join learned_then.rows (with_outputs ms learned_then).rows then.table.rows (outputs_fuller ms learned_then)
            (copies_fuller cs (with_outputs ms learned_then))

        room_then : then.table.limit ≡ learned_then.limit → length then.table.rows ≤ then.table.limit
        room_then l =
            let n = long Fuller learned_then.rows then.table.rows fuller in let f = fits in omega (arith, l, n, f)

        waits : (y : TaskId) → waits_of y then.table ≡ waits_of y b.table
        waits y =
            same_waits y learned_then then.table (copies.shown ∙ outs.shown) (copies.saved ∙ outs.saved) ∙ learned_waits y

        left : (y : TaskId) → same_id y x.task ≡ false → starts_left most then y ≤ starts_left most b y
        left y n = other_left x there then refl y n (waits y)

        lighter_row : (r q : Row P) → In q then.table.rows → Fuller r q → Lighter most b then r q
        lighter_row r q i f = pick (bool_cases (same_id q.task x.task))
          where
            none : is_live_row q ≡ true → row_left most then q ≤ row_left most b r
            none e =
                subst (λ z. z ≤ row_left most b r) (sym (ap (λ c. cond c 0 (starts_left most then q.task)) e)) (omega arith)

            pick : ((same_id q.task x.task ≡ true) ⊎ (same_id q.task x.task ≡ false)) → row_left most then q ≤ row_left most b r
            pick (inl t) = none (live q i (same_exact q.task x.task t))
            pick (inr n) = turn (bool_cases (is_live_row r))
              where
                turn : ((is_live_row r ≡ true) ⊎ (is_live_row r ≡ false)) → row_left most then q ≤ row_left most b r
                turn (inl e) = none (f.live e)
                turn (inr e) =
                    let a : starts_left most then q.task ≤ starts_left most b r.task =
                    subst (λ z. starts_left most then q.task ≤ starts_left most b z) f.task (left q.task n) in
                    subst (λ z. row_left most then q ≤ z) (sym (ap (λ c. cond c 0 (starts_left most b r.task)) e))
                    (cut (is_live_row q) (starts_left most then q.task) (starts_left most b r.task) a)

        lighter : OneByOne (Lighter most b then) learned_then.rows then.table.rows
        lighter =
            pairs_map Fuller (Lighter most b then) learned_then.rows then.table.rows lighter_row fuller
