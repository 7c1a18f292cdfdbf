-- What is left to start, summed over rows.
use Rattle.std.proofs.Common.{◌≡◌, ℕ, suc, ◌+◌, ◌-◌, ◌*◌, ◌≤◌, ◌<◌, List, [], ◌∷◌, ◌++◌, length, length-append, Bool, true, false, cond, inl, inr}
use Rattle.std.proofs.Common.{refl, ap, sym, ◌∙◌, subst, arith}
use Rattle.std.proofs.Math.Nat.{add-mul}
use Rattle.sky_base.specs.declared.object.TaskId.{TaskId}
use Rattle.ciel_journal.specs.Job.{In}
use Rattle.ciel_table.specs.Seen.{is_live_row, last_wait}
use Rattle.ciel_table.specs.declared.row.Row.{Row}
use Rattle.ciel_want.specs.Waited.{is_in}
use Rattle.ciel_master_board.specs.Board.{Board, tasks_out, wait_number}
use Rattle.ciel_master_board.specs.Follows.{OneByOne}
use Rattle.ciel_master_board.proofs.Pairs.{long}
use Rattle.ciel_master_board.specs.Left.{all_left, row_left, rows_left, starts_left}

slack : (l a k c : ℕ) → a + k ≤ l → (l - (a + k)) * c + k * c ≡ (l - a) * c
slack l a k c h =
    let e : (l - (a + k)) + k ≡ l - a = omega (arith, h) in sym (add-mul (l - (a + k)) k c) ∙ ap (λ n. n * c) e

module _ {P : Type 0} (most : ℕ) where
  -- ---- no task, and no row, counts for more than this

  pub starts_most : (b : Board P) (x : TaskId) → starts_left most b x ≤ suc most
  starts_most b x = pick (is_in (tasks_out b.orders) x) (wait_number (last_wait x b.table))
    where
      pick : (c : Bool) (n : ℕ) → cond c most (suc most) - n ≤ suc most
      pick true n = omega arith
      pick false n = omega arith

  pub row_most : (b : Board P) (r : Row P) → row_left most b r ≤ suc most
  row_most b r = pick (is_live_row r)
    where
      pick : (c : Bool) → cond c 0 (starts_left most b r.task) ≤ suc most
      pick true = omega arith
      pick false = starts_most b r.task

  pub rows_most : (b : Board P) (rs : List (Row P)) → rows_left most b rs ≤ length rs * suc most
  rows_most b [] = omega arith
  rows_most b (r ∷ rs) =
      sums (row_left most b r) (rows_left most b rs) (length rs) (suc most) (row_most b r) (rows_most b rs)
    where
      sums : (f t n c : ℕ) → f ≤ c → t ≤ n * c → f + t ≤ suc n * c
      sums f t n c a e = let m : suc n * c ≡ c + n * c = omega arith in omega (arith, a, e, m)

  -- ---- sums

  pub rows_join : (b : Board P) (rs qs : List (Row P)) → rows_left most b (rs ++ qs) ≡ rows_left most b rs + rows_left most b qs
  rows_join b [] qs = omega arith
  rows_join b (r ∷ rs) qs =
      sums (row_left most b r) (rows_left most b (rs ++ qs)) (rows_left most b rs) (rows_left most b qs) (rows_join b rs qs)
    where
      sums : (f t u v : ℕ) → t ≡ u + v → f + t ≡ (f + u) + v
      sums f t u v e = omega (arith, e)

  -- each counts for no more than the one beside it
  abbrev pub Lighter : Board P → Board P → Row P → Row P → Type 0
  Lighter b c r q = row_left most c q ≤ row_left most b r

  pub rows_lighter : (b c : Board P) (rs qs : List (Row P)) → OneByOne (Lighter b c) rs qs → rows_left most c qs ≤ rows_left most b rs
  rows_lighter b c [] [] h = omega arith
  rows_lighter b c [] (q ∷ qs) h = absurd h
  rows_lighter b c (r ∷ rs) [] h = absurd h
  rows_lighter b c (r ∷ rs) (q ∷ qs) h =
      sums (row_left most c q) (row_left most b r) (rows_left most c qs) (rows_left most b rs) h.0 (rows_lighter b c rs qs h.1)
    where
      sums : (f g t u : ℕ) → f ≤ g → t ≤ u → f + t ≤ g + u
      sums f g t u a e = omega (arith, a, e)

  -- one of them counts for one less
  pub rows_drop : (b c : Board P) (rs : List (Row P)) → ((r : Row P) → In r rs → row_left most c r ≤ row_left most b r) → (q : Row P) → In q rs
      → row_left most c q < row_left most b q → rows_left most c rs < rows_left most b rs
  rows_drop b c [] h q i l = absurd i
  rows_drop b c (r ∷ rs) h q (inl s) l =
      sums (row_left most c r) (row_left most b r) (rows_left most c rs) (rows_left most b rs)
      (subst (λ z. row_left most c z < row_left most b z) s l) (same rs (λ z j. h z (inr j)))
    where
      same : (zs : List (Row P)) → ((r : Row P) → In r zs → row_left most c r ≤ row_left most b r) → rows_left most c zs ≤ rows_left most b zs
      same [] k = omega arith
      same (z ∷ zs) k =
          less (row_left most c z) (row_left most b z) (rows_left most c zs) (rows_left most b zs) (k z (inl refl)) (same zs (λ y j. k y (inr j)))
        where
          less : (f g t u : ℕ) → f ≤ g → t ≤ u → f + t ≤ g + u
          less f g t u a e = omega (arith, a, e)

      sums : (f g t u : ℕ) → f < g → t ≤ u → f + t < g + u
      sums f g t u a e = omega (arith, a, e)
  rows_drop b c (r ∷ rs) h q (inr i) l =
      sums (row_left most c r) (row_left most b r) (rows_left most c rs) (rows_left most b rs) (h r (inl refl))
      (rows_drop b c rs (λ z j. h z (inr j)) q i l)
    where
      sums : (f g t u : ℕ) → f ≤ g → t < u → f + t < g + u
      sums f g t u a e = omega (arith, a, e)

  -- ---- all that is left

  -- where rows are added and each counts for no more than before, no more is left
  pub all_lighter : (b c : Board P) (news : List (Row P)) → OneByOne (Lighter b c) (b.table.rows ++ news) c.table.rows → c.table.limit
      ≡ b.table.limit → length c.table.rows ≤ c.table.limit → starts_left most c TaskId.Show ≤ starts_left most b TaskId.Show
      → all_left most c ≤ all_left most b
  all_lighter b c news h limit room root =
      let n : length b.table.rows + length news ≡ length c.table.rows = sym (length-append b.table.rows news)
      ∙ long (Lighter b c) (b.table.rows ++ news) c.table.rows h in
      let fits : length b.table.rows + length news ≤ b.table.limit = omega (arith, n, room, limit) in
      let k : (c.table.limit - length c.table.rows) * suc most ≡ (b.table.limit - (length b.table.rows + length news)) * suc most =
      ap (λ z. (z - length c.table.rows) * suc most) limit ∙ ap (λ z. (b.table.limit - z) * suc most) (sym n) in
      sums (starts_left most c TaskId.Show) (starts_left most b TaskId.Show) (rows_left most c c.table.rows)
      (rows_left most b (b.table.rows ++ news)) (rows_left most b b.table.rows) (rows_left most b news) (length news * suc most)
      ((c.table.limit - length c.table.rows) * suc most) ((b.table.limit - (length b.table.rows + length news)) * suc most)
      ((b.table.limit - length b.table.rows) * suc most) root (rows_lighter b c (b.table.rows ++ news) c.table.rows h)
      (rows_join b b.table.rows news) (rows_most b news) k (slack b.table.limit (length b.table.rows) (length news) (suc most) fits)
    where
      sums : (r s t u v w x y z a : ℕ) → r ≤ s → t ≤ u → u ≡ v + w → w ≤ x → y ≡ z → z + x ≡ a → (r + t) + y ≤ (s + v) + a
      sums r s t u v w x y z a c1 c2 c3 c4 c5 c6 = omega (arith, c1, c2, c3, c4, c5, c6)

  -- there is never more than this
  pub all_most : (b : Board P) → length b.table.rows ≤ b.table.limit → all_left most b ≤ suc b.table.limit * suc most
  all_most b room =
      let all : (b.table.limit - length b.table.rows) + length b.table.rows ≡ b.table.limit = omega (arith, room) in
      let e : (b.table.limit - length b.table.rows) * suc most + length b.table.rows * suc most ≡ b.table.limit * suc most =
      sym (add-mul (b.table.limit - length b.table.rows) (length b.table.rows) (suc most)) ∙ ap (λ n. n * suc most) all in
      sums (starts_left most b TaskId.Show) (suc most) (rows_left most b b.table.rows) (length b.table.rows * suc most)
      ((b.table.limit - length b.table.rows) * suc most) (b.table.limit * suc most) (suc b.table.limit * suc most)
      (starts_most b TaskId.Show) (rows_most b b.table.rows) e (omega arith)
    where
      sums : (r c t w v l k : ℕ) → r ≤ c → t ≤ w → v + w ≡ l → k ≡ c + l → (r + t) + v ≤ k
      sums r c t w v l k a d e f = omega (arith, a, d, e, f)
