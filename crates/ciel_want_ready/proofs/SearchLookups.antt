-- What a search looks up in the table.
use Rattle.std.proofs.Common.{◌≡◌, ◌≤◌, ℕ, zero, suc, ◌<◌, List, [], ◌∷◌, length, Bool, true, false, ◌||◌, slice_get, refl, ap, sym, ◌∙◌, subst}
use Rattle.std.proofs.Common.{arith, ◌⊎◌, inl, inr, Option, Some, None, IfSome, IsSome}
use Rattle.std.specs.List.{AllByRecursion}
use Rattle.std.specs.Option.{option_map, option_map_or}
use Rattle.sky_base.specs.declared.object.TaskId.{TaskId}
use Rattle.ciel_journal.specs.Graph.{Led, root, through}
use Rattle.ciel_journal.specs.Job.{In}
use Rattle.ciel_want_marks.specs.Lists.{entry, flag}
use Rattle.ciel_want_marks.specs.Marks.{Active, Justified, MarksSeen, Stands, is_live, maker, net}
use Rattle.ciel_want_marks.specs.Moves.{AreDead, IsGraph, IsUnmade}
use Rattle.ciel_want_marks.proofs.Slots.{entry_within, flag_within, not_both}
use Rattle.ciel_want_ready.specs.Fits.{dead_at, dead_from, dead_rows, lives, maker_of, makers, needs_by, node_of, outs, row_of, rows_of}
use Rattle.ciel_want_ready.proofs.NumberedGraph.{entry_map, flag_map, length_map}
use Rattle.ciel_table.specs.Seen.{TableSeen, Known, find, has_place, is_input, is_live_row, row_name}
use Rattle.ciel_table.specs.declared.row.Row.{Row}
use Rattle.ciel_want.specs.Board.{live_at, task_at, task_row}
use Rattle.ciel_want.specs.Waited.{is_in, RowWhole, TaskKnown, Whole, needs}
use Rattle.ciel_want.proofs.FlaggedTasks.{held_at}
use Rattle.ciel_want.proofs.ReachedRows.{task_row_within}
use Rattle.ciel_want.proofs.Rows.{item_at}
use Rattle.ciel_want.proofs.WaitedRows.{all_in}

or_false : (a b : Bool) → a || b ≡ false → a ≡ false
or_false true b e = cc
or_false false b e = refl

pub all_get : {X : Type 0} (Q : X → Type 0) (xs : List X) (i : ℕ) (x : X) → AllByRecursion Q xs → slice_get xs i ≡ Some x → Q x
all_get Q [] i x a e = cc
all_get Q (y ∷ ys) zero x a e = let s : y ≡ x = cc in subst Q s a.0
all_get Q (y ∷ ys) (suc i) x a e = all_get Q ys i x a.1 e

module _ {P : Type 0} (t : TableSeen P) where
  -- ---- the rows of names that aren't live

  dead_all : (ns : List (List ℕ)) (rows : List ℕ) → dead_rows t ns ≡ Some rows → (d : Option ℕ) → In d (rows_of t ns) → (r : ℕ) × (d ≡ Some r)
      × ((live_at t r ≡ true) ⊎ In r rows)
  dead_all [] rows e d i = absurd i
  dead_all (n ∷ ns) rows e d i = place (find n t) refl e (dead_all ns) i
    where
      live : (b : Bool) (k : ℕ) → live_at t k ≡ b → (o : Option (List ℕ)) → dead_rows t ns ≡ o → dead_from t b k o ≡ Some rows
          → ((rs : List ℕ) → dead_rows t ns ≡ Some rs → (x : Option ℕ) → In x (rows_of t ns) → (r : ℕ) × (x ≡ Some r)
          × ((live_at t r ≡ true) ⊎ In r rs)) → (x : Option ℕ) → (x ≡ Some k) ⊎ In x (rows_of t ns) → (r : ℕ) × (x ≡ Some r)
          × ((live_at t r ≡ true) ⊎ In r rows)
      live true k l o q h rec x (inl s) = (k, s, inl l)
      live true k l o q h rec x (inr j) = rec rows (q ∙ h) x j
      live false k l None q h rec x j = cc
      live false k l (Some rs) q h rec x (inl s) =
          let p : k ∷ rs ≡ rows = cc in
          (k, s, inr (subst (In k) p (inl refl)))
      live false k l (Some rs) q h rec x (inr j) =
          let p : k ∷ rs ≡ rows = cc in
          let z = rec rs q x j in
          (z.0, z.1, more z.0 p z.2)
        where
          more : (r : ℕ) → k ∷ rs ≡ rows → (live_at t r ≡ true) ⊎ In r rs → (live_at t r ≡ true) ⊎ In r rows
          more r p (inl y) = inl y
          more r p (inr y) = inr (subst (In r) p (inr y))

      place : (o : Option ℕ) → find n t ≡ o → dead_at t o (dead_rows t ns) ≡ Some rows
          → ((rs : List ℕ) → dead_rows t ns ≡ Some rs → (x : Option ℕ) → In x (rows_of t ns) → (r : ℕ) × (x ≡ Some r)
          × ((live_at t r ≡ true) ⊎ In r rs)) → (d ≡ find n t) ⊎ In d (rows_of t ns) → (r : ℕ) × (d ≡ Some r)
          × ((live_at t r ≡ true) ⊎ In r rows)
      place None q h rec j = cc
      place (Some k) q h rec (inl s) = live (live_at t k) k refl (dead_rows t ns) refl h rec d (inl (s ∙ q))
      place (Some k) q h rec (inr j) = live (live_at t k) k refl (dead_rows t ns) refl h rec d (inr j)

  dead_only : (ns : List (List ℕ)) (rows : List ℕ) → dead_rows t ns ≡ Some rows → (r : ℕ) → In r rows → In (Some r) (rows_of t ns)
      × (live_at t r ≡ false) × ((n : List ℕ) × (find n t ≡ Some r))
  dead_only [] rows e r i = let p : [] ≡ rows = cc in absurd (subst (In r) (sym p) i)
  dead_only (n ∷ ns) rows e r i = place (find n t) refl e (dead_only ns)
    where
      live : (b : Bool) (k : ℕ) → find n t ≡ Some k → live_at t k ≡ b → (o : Option (List ℕ)) → dead_rows t ns ≡ o → dead_from t b k o
          ≡ Some rows → ((rs : List ℕ) → dead_rows t ns ≡ Some rs → (r : ℕ) → In r rs → In (Some r) (rows_of t ns) × (live_at t r ≡ false)
          × ((n : List ℕ) × (find n t ≡ Some r))) → In (Some r) (find n t ∷ rows_of t ns) × (live_at t r ≡ false)
          × ((n : List ℕ) × (find n t ≡ Some r))
      live true k f l o q h rec = let z = rec rows (q ∙ h) r i in (inr z.0, z.1, z.2)
      live false k f l None q h rec = cc
      live false k f l (Some rs) q h rec =
          let p : k ∷ rs ≡ rows = cc in
          turn (subst (In r) (sym p) i)
        where
          turn : (r ≡ k) ⊎ In r rs → In (Some r) (find n t ∷ rows_of t ns) × (live_at t r ≡ false) × ((n : List ℕ) × (find n t ≡ Some r))
          turn (inl s) =
              let w : Some r ≡ find n t = ap (λ x. Some x) s ∙ sym f in
              (inl w, ap (live_at t) s ∙ l, (n, sym w))
          turn (inr j) = let z = rec rs q r j in (inr z.0, z.1, z.2)

      place : (o : Option ℕ) → find n t ≡ o → dead_at t o (dead_rows t ns) ≡ Some rows
          → ((rs : List ℕ) → dead_rows t ns ≡ Some rs → (r : ℕ) → In r rs → In (Some r) (rows_of t ns) × (live_at t r ≡ false)
          × ((n : List ℕ) × (find n t ≡ Some r))) → In (Some r) (find n t ∷ rows_of t ns) × (live_at t r ≡ false)
          × ((n : List ℕ) × (find n t ≡ Some r))
      place None q h rec = cc
      place (Some k) q h rec = live (live_at t k) k q refl (dead_rows t ns) refl h rec

  dead_none : (ns : List (List ℕ)) → dead_rows t ns ≡ None → (n : List ℕ) × In n ns × (find n t ≡ None)
  dead_none [] e = cc
  dead_none (n ∷ ns) e = place (find n t) refl e (dead_none ns)
    where
      rest : (b : Bool) (k : ℕ) (o : Option (List ℕ)) → dead_rows t ns ≡ o → dead_from t b k o ≡ None → dead_rows t ns ≡ None
      rest true k o q h = q ∙ h
      rest false k None q h = q
      rest false k (Some rs) q h = cc

      place : (o : Option ℕ) → find n t ≡ o → dead_at t o (dead_rows t ns) ≡ None
          → (dead_rows t ns ≡ None → (m : List ℕ) × In m ns × (find m t ≡ None)) → (m : List ℕ) × In m (n ∷ ns) × (find m t ≡ None)
      place None q h rec = (n, inl refl, q)
      place (Some k) q h rec =
          let z = rec (rest (live_at t k) k (dead_rows t ns) refl h) in (z.0, inr z.1, z.2)

  live_flag : (i : ℕ) → flag (lives t) i ≡ live_at t i
  live_flag i = flag_map is_live_row t.rows i

  module _ (main : List ℕ) (n : MarksSeen) (live : n.live ≡ lives t) where
    long : length n.live ≡ length t.rows
    long = ap length live ∙ length_map is_live_row t.rows

    pub node_within : (u : ℕ) → Stands n (needs_by main t) (u ∷ []) [] → Active n u → IfSome (row_of u) (λ e. e < length t.rows)
    node_within zero s a = tt
    node_within (suc e) s a =
        let l = flag_within n.wanted (suc e) a.0 in
        let x = s.shape.wanted in
        let y = long in
        omega (arith, l, x, y)

    pub are_dead : (u : ℕ) (o : Option ℕ) (rows : List ℕ) → o ≡ row_of u → Some rows ≡ dead_rows t (needs main t (task_at t o))
        → AreDead (needs_by main t) n u rows
    are_dead u o rows p e =
        let h : dead_rows t (needs main t (task_at t (row_of u))) ≡ Some rows = sym (e ∙ ap (λ x. dead_rows t (needs main t (task_at t x))) p) in
        record {
          all = λ d i. all d (dead_all (needs main t (task_at t (row_of u))) rows h d i);
          only = λ r i. only r (dead_only (needs main t (task_at t (row_of u))) rows h r i);
        }
      where
        all : (d : Option ℕ) → ((r : ℕ) × (d ≡ Some r) × ((live_at t r ≡ true) ⊎ In r rows)) → (is_live n.live d ≡ true)
            ⊎ ((r : ℕ) × (d ≡ Some r) × In r rows)
        all d q = turn q.2
          where
            turn : ((live_at t q.0 ≡ true) ⊎ In q.0 rows) → (is_live n.live d ≡ true) ⊎ ((r : ℕ) × (d ≡ Some r) × In r rows)
            turn (inl y) = inl (ap (is_live n.live) q.1 ∙ (ap (λ fs. flag fs q.0) live ∙ (live_flag q.0 ∙ y)))
            turn (inr h) = inr (q.0, q.1, h)

        only : (r : ℕ) → In (Some r) (needs_by main t u) × (live_at t r ≡ false) × ((k : List ℕ) × (find k t ≡ Some r))
            → In (Some r) (needs_by main t u) × (r < length n.live) × (flag n.live r ≡ false)
        only r q =
            let w = (item_at row_name q.2.0 t.rows r q.2.1).within in
            let y = long in
            (q.0, omega (arith, w, y), ap (λ fs. flag fs r) live ∙ (live_flag r ∙ q.1))

    -- ---- where all that is asked of a table holds, each name has a row

    module _ (made : n.makers ≡ makers t) where
      known_at : (u : ℕ) → Led (net (needs_by main t) n.live n.makers n.out) u → Whole main t
          → AllByRecursion (Known t) (needs main t (task_at t (row_of u)))
      known_at u (root) w = w.root
      known_at u (through {t = x} l o d i v k) w = row d refl k
        where
          known : (task : TaskId) → node_of t task ≡ Some u → AllByRecursion (Known t) (needs main t task)
              → AllByRecursion (Known t) (needs main t (task_at t (row_of u)))
          known TaskId.Show e h = cc
          known (TaskId.Of m) e h = place (find m t) refl e
            where
              place : (o : Option ℕ) → find m t ≡ o → option_map suc o ≡ Some u → AllByRecursion (Known t) (needs main t (task_at t (row_of u)))
              place None q z = cc
              place (Some j) q z =
                  let p : suc j ≡ u = cc in
                  let r = item_at row_name m t.rows j q in
                  let here : task_at t (Some j) ≡ TaskId.Of m = ap (λ (o : Option (Row P)). TaskId.Of (option_map_or row_name o [])) r.there
                  ∙ ap (λ y. TaskId.Of y) r.named in
                  subst (λ y. AllByRecursion (Known t) (needs main t y)) (sym here ∙ ap (λ y. task_at t (row_of y)) p) h

          whole : (r : Row P) (b : Bool) → is_input r.desc ≡ b → b ≡ false → RowWhole main t b r → AllByRecursion (Known t) (needs main t r.task)
          whole r true e f h = cc
          whole r false e f h = h.1

          row : (e : Option ℕ) → d ≡ e → maker n.makers d ≡ Some u → AllByRecursion (Known t) (needs main t (task_at t (row_of u)))
          row None e z = let p : None ≡ Some u = ap (maker n.makers) (sym e) ∙ z in cc
          row (Some j) e z =
              let y : entry n.makers j ≡ Some u = ap (maker n.makers) (sym e) ∙ z in
              let a = entry_within n.makers j u y in
              let b : length n.makers ≡ length t.rows = ap length made ∙ length_map (maker_of t) t.rows in
              let r = held_at t.rows j (omega (arith, a, b)) in
              let m : node_of t r.0.task ≡ Some u = sym (ap (λ es. entry es j) made ∙ entry_map (maker_of t) t.rows j r.0 r.1) ∙ y in
              let dead : is_live_row r.0 ≡ false = sym
              (ap (λ fs. flag fs j) live ∙ (live_flag j ∙ ap (λ (o : Option (Row P)). option_map_or is_live_row o false) r.1))
              ∙ (ap (is_live n.live) (sym e) ∙ v) in
              let input = or_false (is_input r.0.desc) (has_place r.0.places) dead in
              known r.0.task m (whole r.0 (is_input r.0.desc) refl input
              (all_get (λ (x : Row P). RowWhole main t (is_input x.desc) x) t.rows j r.0 w.rows r.1))

      pub unfit : (u : ℕ) (o : Option ℕ) → o ≡ row_of u → Stands n (needs_by main t) (u ∷ []) [] → Active n u → None
          ≡ dead_rows t (needs main t (task_at t o)) → Whole main t → ⊥
      unfit u o p s a e w = next (dead_none (needs main t (task_at t (row_of u))) (sym (e ∙ ap (λ x. dead_rows t (needs main t (task_at t x))) p)))
        where
          led : Justified n (needs_by main t) u → Led (net (needs_by main t) n.live n.makers n.out) u
          led (inl l) = l
          led (inr x) = not_both (flag n.out u) x.0 a.1

          none : (o : Option ℕ) → IsSome o → o ≡ None → ⊥
          none None h e = not_both false h refl
          none (Some x) h e = cc

          next : ((k : List ℕ) × In k (needs main t (task_at t (row_of u))) × (find k t ≡ None)) → ⊥
          next q = none (find q.0 t) (all_in (Known t) (needs main t (task_at t (row_of u))) q.0 (known_at u (led (s.justified u a.0)) w) q.1) q.2

  -- ---- the graph's lists, from nothing

  pub is_graph : (out : List TaskId) → IsGraph (lives t) (makers t) (outs t out)
  is_graph out =
      let a = length_map is_live_row t.rows in
      record {
        makers_long = length_map (maker_of t) t.rows ∙ sym a;
        out_long = ap suc (length_map (λ (r : Row P). is_in out (TaskId.Of r.name)) t.rows ∙ sym a);
        nodes = λ r u e. nodes r u e;
      }
    where
      node : (task : TaskId) (u : ℕ) → node_of t task ≡ Some u → (0 < u) × (u ≤ length (lives t))
      node task u e = turn (task_row t task) (task_row_within t task) e
        where
          turn : (o : Option ℕ) → IfSome o (λ i. i < length t.rows) → option_map suc o ≡ Some u → (0 < u) × (u ≤ length (lives t))
          turn None h z = cc
          turn (Some i) h z =
              let p : suc i ≡ u = cc in
              let a = length_map is_live_row t.rows in
              (omega (arith, p), omega (arith, p, h, a))

      nodes : (r u : ℕ) → entry (makers t) r ≡ Some u → (0 < u) × (u ≤ length (lives t))
      nodes r u e =
          let l = entry_within (makers t) r u e in
          let b : length (makers t) ≡ length t.rows = length_map (maker_of t) t.rows in
          let x = held_at t.rows r (omega (arith, l, b)) in
          node x.0.task u (sym (entry_map (maker_of t) t.rows r x.0 x.1) ∙ e)

  -- where all that is asked of a table holds, each row that isn't live is made by a node
  pub not_unmade : (main : List ℕ) → Whole main t → IsUnmade (lives t) (makers t) → ⊥
  not_unmade main w q =
      let a : length (lives t) ≡ length t.rows = length_map is_live_row t.rows in
      let l = q.1 in
      let x = held_at t.rows q.0 (omega (arith, l, a)) in
      let dead : is_live_row x.0 ≡ false = sym (live_flag q.0 ∙ ap (λ (o : Option (Row P)). option_map_or is_live_row o false) x.1) ∙ q.3 in
      whole x.0 (is_input x.0.desc) refl (or_false (is_input x.0.desc) (has_place x.0.places) dead)
      (all_get (λ (r : Row P). RowWhole main t (is_input r.desc) r) t.rows q.0 x.0 w.rows x.1)
      (sym (entry_map (maker_of t) t.rows q.0 x.0 x.1) ∙ q.2)
    where
      known : (task : TaskId) → TaskKnown t task → node_of t task ≡ None → ⊥
      known TaskId.Show h e = h
      known (TaskId.Of m) h e = turn (find m t) h e
        where
          turn : (o : Option ℕ) → IsSome o → option_map suc o ≡ None → ⊥
          turn None h e = not_both false h refl
          turn (Some i) h e = cc

      whole : (r : Row P) (b : Bool) → is_input r.desc ≡ b → b ≡ false → RowWhole main t b r → node_of t r.task ≡ None → ⊥
      whole r true e f h z = let y : true ≡ false = f in cc
      whole r false e f h z = known r.task h.0 z
