-- A circle by rows is a circle of waits, and where a row waits for nothing that isn't live a task can run.
use Rattle.std.proofs.Common.{◌≡◌, ℕ, zero, suc, ◌<◌, List, [], ◌∷◌, ◌++◌, drop, Bool, true, false, cond, not, filter, length, slice_get, refl, ap}
use Rattle.std.proofs.Common.{sym, ◌∙◌, subst, ◌⊎◌, inl, inr, Option, Some, None, nat_eq, eq-eqb, ◌||◌}
use Rattle.std.specs.List.{AllByRecursion, IsDistinct}
use Rattle.std.specs.Option.{option_map_or, option_and_then}
use Rattle.sky_base.specs.Val.{same_text}
use Rattle.sky_base.specs.declared.object.TaskId.{TaskId}
use Rattle.sky_base.proofs.Exact.{exact_text}
use Rattle.ciel_journal.specs.Graph.{Chain, Circle, Led, Runnable, WaitsOn, root, through}
use Rattle.ciel_journal.specs.Job.{Each, In}
use Rattle.ciel_want.specs.Search.{Among, IsCircle, IsWithin, LedTo, Links, SomeMet, first, further, unmet}
use Rattle.ciel_want.proofs.SearchInvariants.{among_head}
use Rattle.ciel_table.specs.Seen.{TableSeen, Known, find, has_place, is_input, is_live, is_live_row, row_name, row_named}
use Rattle.ciel_table.specs.declared.row.Row.{Row}
use Rattle.ciel_table.proofs.Lists.{bool_cases}
use Rattle.ciel_want.specs.Board.{live_at, maker_at, names_at, row_leads, rows_of, with_some}
use Rattle.ciel_want.specs.Marked.{AllBelow}
use Rattle.ciel_want.specs.Waited.{Whole, graph, made_by, maker, needs}
use Rattle.ciel_want.proofs.WaitedRows.{all_in, among_here, among_more, needs_known}
use Rattle.ciel_want.proofs.ReachedRows.{upto, upto_has, upto_long}
use Rattle.ciel_want.proofs.Rows.{item_at, some_place}

or_false : (a b : Bool) → a || b ≡ false → (a ≡ false) × (b ≡ false)
or_false true b e = cc
or_false false b e = (refl, e)

-- what passes a test and is among the numbers
among_filter : (q : ℕ → Bool) (e : ℕ) (xs : List ℕ) → Among e (filter q xs) → Among e xs × (q e ≡ true)
among_filter q e [] h = cc
among_filter q e (x ∷ xs) h = turn (q x) refl h (among_filter q e xs)
  where
    more : Among e xs × (q e ≡ true) → Among e (x ∷ xs) × (q e ≡ true)
    more k = (among_more e x xs k.0, k.1)

    one : q x ≡ true → ((e ≡ x) ⊎ Among e (filter q xs)) → (Among e (filter q xs) → Among e xs × (q e ≡ true)) → Among e (x ∷ xs) × (q e ≡ true)
    one t (inl s) r = (subst (λ y. Among y (x ∷ xs)) (sym s) (among_here x xs), ap q s ∙ t)
    one t (inr k) r = more (r k)

    turn : (b : Bool) → q x ≡ b → Among e (cond b (x ∷ filter q xs) (filter q xs)) → (Among e (filter q xs) → Among e xs × (q e ≡ true))
        → Among e (x ∷ xs) × (q e ≡ true)
    turn true t k r = one t (among_head e x (filter q xs) k) r
    turn false t k r = more (r k)

filter_none : (q : ℕ → Bool) (e : ℕ) (xs : List ℕ) → filter q xs ≡ [] → Among e xs → q e ≡ false
filter_none q e [] h a = cc
filter_none q e (x ∷ xs) h a = turn (q x) refl h (among_head e x xs a) (filter_none q e xs)
  where
    turn : (b : Bool) → q x ≡ b → cond b (x ∷ filter q xs) (filter q xs) ≡ [] → ((e ≡ x) ⊎ Among e xs)
        → (filter q xs ≡ [] → Among e xs → q e ≡ false) → q e ≡ false
    turn true t k i r = cc
    turn false t k (inl s) r = ap q s ∙ t
    turn false t k (inr i) r = r k i

first_among : (xs : List ℕ) (e : ℕ) → Some e ≡ slice_get xs 0 → Among e xs
first_among [] e h = cc
first_among (x ∷ xs) e h = let s : e ≡ x = cc in subst (λ y. Among e (y ∷ xs)) s (among_here e xs)

not_true : (b : Bool) → not b ≡ true → b ≡ false
not_true true e = cc
not_true false e = refl

not_false : (b : Bool) → not b ≡ false → b ≡ true
not_false true e = refl
not_false false e = cc

module _ {P : Type 0} (main : List ℕ) (t : TableSeen P) where
  with_among : (o : Option ℕ) (e : ℕ) (es : List ℕ) → Among e es → Among e (with_some o es)
  with_among None e es a = a
  with_among (Some x) e es a = among_more e x es a

  rows_has : (ns : List (List ℕ)) (n : List ℕ) (e : ℕ) → In n ns → find n t ≡ Some e → Among e (rows_of t ns)
  rows_has [] n e i h = absurd i
  rows_has (m ∷ ms) n e (inl s) h =
      subst (λ o. Among e (with_some o (rows_of t ms))) (sym (ap (λ k. find k t) (sym s) ∙ h)) (among_here e (rows_of t ms))
  rows_has (m ∷ ms) n e (inr i) h = with_among (find m t) e (rows_of t ms) (rows_has ms n e i h)

  rows_from : (ns : List (List ℕ)) (e : ℕ) → Among e (rows_of t ns) → (n : List ℕ) × In n ns × (find n t ≡ Some e)
  rows_from [] e a = cc
  rows_from (m ∷ ms) e a = turn (find m t) refl a (rows_from ms e)
    where
      more : ((n : List ℕ) × In n ms × (find n t ≡ Some e)) → (n : List ℕ) × In n (m ∷ ms) × (find n t ≡ Some e)
      more q = (q.0, inr q.1, q.2)

      one : (x : ℕ) → find m t ≡ Some x → ((e ≡ x) ⊎ Among e (rows_of t ms))
          → (Among e (rows_of t ms) → (n : List ℕ) × In n ms × (find n t ≡ Some e)) → (n : List ℕ) × In n (m ∷ ms) × (find n t ≡ Some e)
      one x q (inl s) r = (m, inl refl, q ∙ ap (λ y. Some y) (sym s))
      one x q (inr k) r = more (r k)

      turn : (o : Option ℕ) → find m t ≡ o → Among e (with_some o (rows_of t ms))
          → (Among e (rows_of t ms) → (n : List ℕ) × In n ms × (find n t ≡ Some e)) → (n : List ℕ) × In n (m ∷ ms) × (find n t ≡ Some e)
      turn None q h r = more (r h)
      turn (Some x) q h r = one x q (among_head e x (rows_of t ms) h) r

  -- a row of a name that isn't live, and that a reached task waits for
  record Dead (e : ℕ) : Type 0 where
    pub row : Row P
    pub there : slice_get t.rows e ≡ Some row
    pub own : find row.name t ≡ Some e
    pub dead : is_live row.name t ≡ false
    pub made : maker t row.name ≡ Some row.task
    pub within : e < length t.rows

  dead_of : (n : List ℕ) (e : ℕ) → find n t ≡ Some e → not (live_at t e) ≡ true → Dead e
  dead_of n e h l =
      let q = item_at row_name n t.rows e h in
      let d : is_live_row q.item ≡ false = sym (ap (λ (o : Option (Row P)). option_map_or is_live_row o false) q.there) ∙ not_true (live_at t e) l in
      let f : row_named q.item.name t ≡ Some q.item = ap (λ m. row_named m t) q.named ∙ q.is_found in
      record {
        row = q.item;
        there = q.there;
        own = ap (λ m. find m t) q.named ∙ h;
        dead = ap (λ (o : Option (Row P)). option_map_or is_live_row o false) f ∙ d;
        made = ap (option_and_then (made_by t)) f
            ∙ ap (λ i. cond i None (Some q.item.task)) (or_false (is_input q.item.desc) (has_place q.item.places) d).0;
        within = q.within;
      }

  at_row : (e : ℕ) (d : Dead e) → maker_at t (Some e) ≡ d.row.task
  at_row e d = ap (λ (o : Option (Row P)). option_map_or (λ (r : Row P). r.task) o TaskId.Show) d.there

  -- from a reached task on to what it waits for and isn't live
  from_led : (from : Option ℕ) (e : ℕ) → Among e (unmet (row_leads main t) (live_at t) from) → (d : Dead e)
      × In d.row.name (needs main t (maker_at t from))
  unfolding dead_of
  from_led from e a =
      let f = among_filter (λ x. not (live_at t x)) e (row_leads main t from) a in
      let r = rows_from (needs main t (maker_at t from)) e f.0 in
      let q = item_at row_name r.0 t.rows e r.2 in
      (dead_of r.0 e r.2 f.1, subst (λ m. In m (needs main t (maker_at t from))) (sym q.named) r.1)

  record Reach (e : ℕ) : Type 0 where
    pub is : Dead e
    pub led : Led (graph main t []) (maker_at t (Some e))

  reach_step : (from : Option ℕ) (e : ℕ) → Led (graph main t []) (maker_at t from) → Among e (unmet (row_leads main t) (live_at t) from) → Reach e
  reach_step from e l a =
      let q = from_led from e a in
      record {
        is = q.0;
        led = subst (Led (graph main t [])) (sym (at_row e q.0)) (through l refl q.0.row.name q.1 q.0.dead q.0.made);
      }

  reach : (e : ℕ) → LedTo (row_leads main t) (live_at t) e → Reach e
  reach e (first e' h) = reach_step None e root h
  reach e (further d e' l h) = next (reach d l)
    where
      next : Reach d → Reach e
      next q = reach_step (Some d) e q.led h

  -- each row to which one leads is one of the table
  pub ring_below : (e : ℕ) → LedTo (row_leads main t) (live_at t) e → e < length t.rows
  ring_below e l = (reach e l).is.within

  pub ring_within : IsWithin (row_leads main t) (live_at t) (length t.rows)
  ring_within =
      (upto (length t.rows), upto_long (length t.rows), λ e l. upto_has (length t.rows) e (ring_below e l))

  -- and so is the first of what a row waits for
  pub next_below : (from : Option ℕ) (e : ℕ) → Some e ≡ slice_get (unmet (row_leads main t) (live_at t) from) 0 → e < length t.rows
  next_below from e s =
      (from_led from e (first_among (unmet (row_leads main t) (live_at t) from) e s)).0.within

  name_at : (e : ℕ) (d : Dead e) → option_map_or row_name (slice_get t.rows e) [] ≡ d.row.name
  name_at e d = ap (λ (o : Option (Row P)). option_map_or row_name o []) d.there

  abbrev name : ℕ → List ℕ
  name e = option_map_or row_name (slice_get t.rows e) []

  waits_on : (d e : ℕ) → Reach d → Among e (unmet (row_leads main t) (live_at t) (Some d)) → WaitsOn (graph main t []) (name d) (name e)
  waits_on d e r a =
      let q = from_led (Some d) e a in
      let k = at_row d r.is in (
        r.is.row.task,
        ap (maker t) (name_at d r.is) ∙ r.is.made,
        subst (Led (graph main t [])) k r.led,
        ap (λ m. is_live m t) (name_at d r.is) ∙ r.is.dead,
        subst (λ x. In (name e) (needs main t x)) k (subst (λ m. In m (needs main t (maker_at t (Some d)))) (sym (name_at e q.0)) q.1),
      )

  chain : (front d : ℕ) (es : List ℕ) → LedTo (row_leads main t) (live_at t) d → Links (row_leads main t) (live_at t) front d es
      → Chain (graph main t []) (name front) (name d) (names_at t es)
  chain front d [] l k = waits_on d front (reach d l) k
  chain front d (e ∷ es) l k =
      (waits_on d e (reach d l) k.0, chain front e es (further d e l k.0) k.1)

  -- what a circle holds is reached
  all_led : (front d : ℕ) (es : List ℕ) → LedTo (row_leads main t) (live_at t) d → Links (row_leads main t) (live_at t) front d es
      → AllByRecursion (λ e. Reach e) es
  all_led front d [] l k = tt
  all_led front d (e ∷ es) l k =
      let m = further d e l k.0 in (reach e m, all_led front e es m k.1)

  apart : (d : ℕ) (es : List ℕ) → Reach d → AllByRecursion (λ e. Reach e) es → AllByRecursion (λ e. nat_eq d e ≡ false) es
      → AllByRecursion (λ n. same_text (name d) n ≡ false) (names_at t es)
  apart d [] r a h = tt
  apart d (e ∷ es) r a h = (turn (bool_cases (same_text (name d) (name e))), apart d es r a.1 h.1)
    where
      turn : ((same_text (name d) (name e) ≡ true) ⊎ (same_text (name d) (name e) ≡ false)) → same_text (name d) (name e) ≡ false
      turn (inr f) = f
      turn (inl y) =
          let s : name d ≡ name e = exact_text (name d) (name e) y in
          let o : Some d ≡ Some e = sym r.is.own ∙ (ap (λ m. find m t) (sym (name_at d r.is) ∙ (s ∙ name_at e a.0.is)) ∙ a.0.is.own) in
          let same : d ≡ e = cc in
          let b : true ≡ false = sym (eq-eqb d e same) ∙ h.0 in
          cc

  distinct : (es : List ℕ) → AllByRecursion (λ e. Reach e) es → IsDistinct nat_eq es → IsDistinct same_text (names_at t es)
  unfolding IsDistinct
  distinct [] a h = tt
  distinct (d ∷ es) a h = (apart d es a.0 a.1 h.0, distinct es a.1 h.1)

  all_reach : (es : List ℕ) → IsCircle (row_leads main t) (live_at t) es → AllByRecursion (λ e. Reach e) es
  all_reach [] k = absurd k
  all_reach (d ∷ ds) k = (reach d k.0, all_led d d ds k.0 k.1)

  pub ring_circle : (es : List ℕ) → IsCircle (row_leads main t) (live_at t) es → Circle (graph main t []) (names_at t es)
  ring_circle [] k = absurd k
  ring_circle (d ∷ ds) k = chain d d ds k.0 k.1

  is_distinct : (es : List ℕ) → IsCircle (row_leads main t) (live_at t) es → IsDistinct nat_eq es
  is_distinct [] k = absurd k
  is_distinct (d ∷ ds) k = k.2

  pub ring_distinct : (es : List ℕ) → IsCircle (row_leads main t) (live_at t) es → IsDistinct same_text (names_at t es)
  ring_distinct es k = distinct es (all_reach es k) (is_distinct es k)

  -- where nothing is unmet a task can run
  pub met_runs : Whole main t → SomeMet (row_leads main t) (live_at t) → (task : TaskId) × Runnable (graph main t []) task
  met_runs whole s =
      (maker_at t s.from, record { reached = led s.from s.reached; not_out = refl; met = all (needs main t (maker_at t s.from)) (λ n i. live n i) })
    where
      led : (from : Option ℕ) → ((e : ℕ) → from ≡ Some e → LedTo (row_leads main t) (live_at t) e) → Led (graph main t []) (maker_at t from)
      led None r = root
      led (Some e) r = (reach e (r e refl)).led

      live : (n : List ℕ) → In n (needs main t (maker_at t s.from)) → is_live n t ≡ true
      live n i =
          let p = some_place row_name n t.rows (all_in (Known t) (needs main t (maker_at t s.from)) n
          (needs_known t main whole [] (maker_at t s.from) (led s.from s.reached)) i) in
          let q = item_at row_name n t.rows p.0 p.1 in
          let f = filter_none (λ x. not (live_at t x)) p.0 (row_leads main t s.from) s.met
          (rows_has (needs main t (maker_at t s.from)) n p.0 i p.1) in
          ap (λ (o : Option (Row P)). option_map_or is_live_row o false) q.is_found
          ∙ (sym (ap (λ (o : Option (Row P)). option_map_or is_live_row o false) q.there)
          ∙ not_false (live_at t p.0) f)

      all : (ns : List (List ℕ)) → ((n : List ℕ) → In n ns → is_live n t ≡ true) → Each (λ d. is_live d t ≡ true) ns
      all [] h = tt
      all (n ∷ ns) h = (h n (inl refl), all ns (λ m i. h m (inr i)))

-- ---- numbers that are all below one

pub below_push : (n : ℕ) (xs : List ℕ) (x : ℕ) → AllBelow n xs → x < n → AllBelow n (xs ++ x ∷ [])
below_push n [] x a l = (l, tt)
below_push n (y ∷ ys) x a l = (a.0, below_push n ys x a.1 l)

pub below_drop : (n : ℕ) (xs : List ℕ) (i : ℕ) → AllBelow n xs → AllBelow n (drop i xs)
below_drop n [] zero a = tt
below_drop n [] (suc i) a = tt
below_drop n (x ∷ xs) zero a = a
below_drop n (x ∷ xs) (suc i) a = below_drop n xs i a.1
