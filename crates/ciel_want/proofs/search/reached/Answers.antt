use Rattle.std.proofs.Common.{◌≡◌, Bool, ◌&&◌, not, set, length-set, ◌<◌, ◌++◌, ◌∷◌, [], ◌+◌, ◌∙◌, ap, sym, subst, arith, length, length-append, ℕ}
use Rattle.std.proofs.Common.{List, false, Some, None, replicate}
use Rattle.std.proofs.lemmas.List.{length-replicate}
use Rattle.ciel_want.specs.Search.{Among, first, further, news, unmet}
use Rattle.ciel_want.proofs.SearchInvariants.{Searching, search_start, search_step, search_end, nothing}
use Rattle.ciel_want.specs.Board.{can_run_test, is_none, leads, never, task_at}
use Rattle.ciel_want.specs.Marked.{AllBelow, Marked}
use Rattle.ciel_want.specs.Waited.{is_in}
use Rattle.ciel_want.proofs.SeenFlags.{below_of, flagged_seen, last_among, none_marked}
use Rattle.ciel_want.proofs.ReadyFlags.{Readied, ready_end, ready_start, ready_step}
use Rattle.ciel_want.proofs.ReadyRows.{leads_test}
use Rattle.ciel_want.proofs.ReachedRows.{keep_all, led_below, led_within}
use Rattle.ciel_want.proofs.search.reached.Goals as goal

pub add_rows-requires-clause-marked : goal.add_rows-requires-clause-marked
add_rows-requires-clause-marked g c =
    let r : c.in_ok-flags.flags.items ≡ replicate (length c.args.table.now.rows) false = c.in_ok-flags.ensures
    ∙ ap (λ n. replicate n false) c.len-rows.ensures.number in
    subst (λ fs. Marked fs c.new-seen.result.items) (sym r)
    (subst (Marked (replicate (length c.args.table.now.rows) false)) (sym c.new-seen.ensures.items)
    (none_marked (length c.args.table.now.rows)))

pub add_rows-requires-clause-below : goal.add_rows-requires-clause-below
add_rows-requires-clause-below g c =
    let needs = leads c.args.table.now c.args.main.now c.args.out.now.tasks.now in
    let live = never in
    let found : List ℕ = c.deref-2.result.now in
    let f : found ≡ unmet needs live None = c.deref-2.ensures.value ∙ (c.in_ok-start.ensures ∙ sym (keep_all (needs None))) in
    let n : length c.in_ok-flags.flags.items ≡ length c.args.table.now.rows =
    ap length (c.in_ok-flags.ensures ∙ ap (λ n. replicate n false) c.len-rows.ensures.number)
    ∙ length-replicate (length c.args.table.now.rows) false in
    subst (λ k. AllBelow k found) (sym n) (below_of (length c.args.table.now.rows) found
    (λ e a. led_below c.args.main.now c.args.table.now c.args.out.now.tasks.now e (first e (subst (Among e) f a))))

pub search-init : goal.search-init
search-init g c =
    let needs = leads c.args.table.now c.args.main.now c.args.out.now.tasks.now in
    let live = never in
    let found : List ℕ = c.deref-2.result.now in
    let f : found ≡ unmet needs live None = c.deref-2.ensures.value ∙ (c.in_ok-start.ensures ∙ sym (keep_all (needs None))) in
    let s = search_start needs live (length c.args.table.now.rows) found (led_within c.args.main.now c.args.table.now c.args.out.now.tasks.now) f in
    let n = length c.args.table.now.rows in
    let test : ℕ → Bool = λ e. can_run_test c.args.main.now c.args.table.now c.args.out.now.tasks.now (task_at c.args.table.now (Some e)) in
    let r : c.in_ok-ready.ready.items ≡ replicate n false = c.in_ok-ready.ensures ∙ ap (λ n. replicate n false) c.len-rows.ensures.number in
    let a : c.add_rows.new.seen.items ≡ [] ++ news [] found = c.in_ok-add_rows.ensures.seen
    ∙ ap (λ xs. xs ++ news xs found) c.new-seen.ensures.items in
    let b : c.add_rows.new.todo.items ≡ [] ++ news [] found = c.in_ok-add_rows.ensures.todo
    ∙ (ap (λ xs. xs ++ news c.new-seen.result.items found) c.new-todo.ensures.items
    ∙ ap (λ xs. [] ++ news xs found) c.new-seen.ensures.items) in
    record {
      searching = subst (λ xs. Searching needs live (length c.args.table.now.rows) xs c.add_rows.new.todo.items) (sym a)
          (subst (λ xs. Searching needs live (length c.args.table.now.rows) ([] ++ news [] found) xs) (sym b) s);
      marked = c.in_ok-add_rows.ensures.marked;
      long = c.add_rows.ensures.long ∙ (ap length (c.in_ok-flags.ensures ∙ ap (λ n. replicate n false) c.len-rows.ensures.number)
          ∙ length-replicate (length c.args.table.now.rows) false);
      readied = subst (λ xs. Readied test xs c.add_rows.new.seen.items c.add_rows.new.todo.items) (sym r)
          (subst (λ xs. Readied test (replicate n false) xs c.add_rows.new.todo.items) (sym a)
          (subst (Readied test (replicate n false) ([] ++ news [] found)) (sym b) (ready_start test n ([] ++ news [] found))));
      ready_long = ap length r ∙ length-replicate n false;
    }

pub add_rows-requires-in-Some-clause-below : goal.add_rows-requires-in-Some-clause-below
add_rows-requires-in-Some-clause-below g c =
    let needs = leads c.args.table.now c.args.main.now c.args.out.now.tasks.now in
    let live = never in
    let found : List ℕ = c.deref-in-Some-2.result.now in
    let d = c.in-Some.row in
    let f : found ≡ unmet needs live (Some d) = c.deref-in-Some-2.ensures.value ∙ (c.in_ok-found.ensures ∙ sym (keep_all (needs (Some d)))) in
    let s = c.search.invariant.searching in
    let here : Among d c.search.todo.items = subst (Among d) (sym c.in-Some.ensures.items) (last_among d c.pop.new.self.items) in
    let led = s.sound d (s.listed d here) in
    subst (λ k. AllBelow k found) (sym c.search.invariant.long)
    (below_of (length c.args.table.now.rows) found
    (λ e a. led_below c.args.main.now c.args.table.now c.args.out.now.tasks.now e (further d e led (subst (Among e) f a))))

pub search-preserved : goal.search-preserved
search-preserved g c =
    let needs = leads c.args.table.now c.args.main.now c.args.out.now.tasks.now in
    let live = never in
    let found : List ℕ = c.deref-in-Some-2.result.now in
    let f : found ≡ unmet needs live (Some c.in-Some.row) = c.deref-in-Some-2.ensures.value
    ∙ (c.in_ok-found.ensures ∙ sym (keep_all (needs (Some c.in-Some.row)))) in
    let s = search_step needs live (length c.args.table.now.rows) c.search.seen.items c.search.todo.items c.pop.new.self.items found
    c.in-Some.row (led_within c.args.main.now c.args.table.now c.args.out.now.tasks.now) c.search.invariant.searching c.in-Some.ensures.items
    f in
    let t = c.args.table.now in
    let main = c.args.main.now in
    let out = c.args.out.now.tasks.now in
    let d = c.in-Some.row in
    let ready = c.search.ready.items in
    let test : ℕ → Bool = λ e. can_run_test main t out (task_at t (Some e)) in
    let v : c.is_ready.result ≡ test d = c.is_ready.ensures
    ∙ (ap (λ es. not (is_in out (task_at t (Some d))) && is_none es) (c.deref-in-Some.ensures.value ∙ c.in_ok-found.ensures)
    ∙ leads_test main t out (Some d)) in
    let here : Among d c.search.seen.items = c.search.invariant.searching.listed d
    (subst (Among d) (sym c.in-Some.ensures.items) (last_among d c.pop.new.self.items)) in
    let l = led_below main t out d (c.search.invariant.searching.sound d here) in
    let z = c.search.invariant.ready_long in
    record {
      searching = subst (λ xs. Searching needs live (length c.args.table.now.rows) xs c.add_rows-in-Some.new.todo.items)
          (sym c.in_ok-add_rows-2.ensures.seen) (subst
          (λ xs. Searching needs live (length c.args.table.now.rows) (c.search.seen.items ++ news c.search.seen.items found) xs)
          (sym c.in_ok-add_rows-2.ensures.todo) s);
      marked = c.in_ok-add_rows-2.ensures.marked;
      long = c.add_rows-in-Some.ensures.long ∙ c.search.invariant.long;
      readied = subst (λ b. Readied test (set ready d b) c.add_rows-in-Some.new.seen.items c.add_rows-in-Some.new.todo.items) (sym v)
          (subst (λ xs. Readied test (set ready d (test d)) xs c.add_rows-in-Some.new.todo.items) (sym c.in_ok-add_rows-2.ensures.seen)
          (subst (Readied test (set ready d (test d)) (c.search.seen.items ++ news c.search.seen.items found))
          (sym c.in_ok-add_rows-2.ensures.todo) (ready_step test ready c.search.seen.items c.search.todo.items c.pop.new.self.items
          (news c.search.seen.items found) d c.search.invariant.readied c.in-Some.ensures.items (omega (arith, l, z)) here)));
      ready_long = length-set ready d c.is_ready.result ∙ z;
    }

pub search-smaller : goal.search-smaller
search-smaller g c =
    let needs = leads c.args.table.now c.args.main.now c.args.out.now.tasks.now in
    let live = never in
    let found : List ℕ = c.deref-in-Some-2.result.now in
    let f : found ≡ unmet needs live (Some c.in-Some.row) = c.deref-in-Some-2.ensures.value
    ∙ (c.in_ok-found.ensures ∙ sym (keep_all (needs (Some c.in-Some.row)))) in
    let s = search_step needs live (length c.args.table.now.rows) c.search.seen.items c.search.todo.items c.pop.new.self.items found
    c.in-Some.row (led_within c.args.main.now c.args.table.now c.args.out.now.tasks.now) c.search.invariant.searching c.in-Some.ensures.items
    f in
    let few = s.few in
    let new : List ℕ = news c.search.seen.items found in
    let a : length c.add_rows-in-Some.new.seen.items ≡ length c.search.seen.items + length new = ap length c.in_ok-add_rows-2.ensures.seen
    ∙ length-append c.search.seen.items new in
    let b : length c.add_rows-in-Some.new.todo.items ≡ length c.pop.new.self.items + length new = ap length c.in_ok-add_rows-2.ensures.todo
    ∙ length-append c.pop.new.self.items new in
    let d : length c.search.todo.items ≡ length c.pop.new.self.items + 1 = ap length c.in-Some.ensures.items
    ∙ length-append c.pop.new.self.items (c.in-Some.row ∷ []) in
    let e : length (c.search.seen.items ++ new) ≡ length c.search.seen.items + length new = length-append c.search.seen.items new in
    omega (arith, few, a, b, d, e)

pub returns-clause-all : goal.returns-clause-all
returns-clause-all g c =
    λ e r. let z : length c.search.todo.items ≡ 0 = omega (arith, c.in_default.ensures.cases.0) in
    let needs = leads c.args.table.now c.args.main.now c.args.out.now.tasks.now in
    let live = never in
    let s = c.search.invariant.searching in
    let there : Among e c.search.seen.items = search_end needs live (length c.args.table.now.rows) c.search.seen.items
    (subst (Searching needs live (length c.args.table.now.rows) c.search.seen.items) (nothing c.search.todo.items z) s) e r in
    let l = led_below c.args.main.now c.args.table.now c.args.out.now.tasks.now e r in
    let n = c.search.invariant.long in
    let k : e < length c.search.flags.items = omega (arith, l, n) in
    c.search.invariant.marked e k ∙ ap (λ b. Some b) there

pub returns-clause-only : goal.returns-clause-only
returns-clause-only g c =
    λ e h. c.search.invariant.searching.sound e (flagged_seen c.search.flags.items c.search.seen.items e c.search.invariant.marked h)

pub leads-requires-in-Some-clause-row : goal.leads-requires-in-Some-clause-row
leads-requires-in-Some-clause-row g c =
    let d = c.in-Some.row in
    let s = c.search.invariant.searching in
    let here : Among d c.search.todo.items = subst (Among d) (sym c.in-Some.ensures.items) (last_among d c.pop.new.self.items) in
    led_below c.args.main.now c.args.table.now c.args.out.now.tasks.now d (s.sound d (s.listed d here))

pub is_ready-requires-clause-row : goal.is_ready-requires-clause-row
is_ready-requires-clause-row g c =
    let d = c.in-Some.row in
    let s = c.search.invariant.searching in
    let here : Among d c.search.todo.items = subst (Among d) (sym c.in-Some.ensures.items) (last_among d c.pop.new.self.items) in
    led_below c.args.main.now c.args.table.now c.args.out.now.tasks.now d (s.sound d (s.listed d here))

pub index_mut-requires : goal.index_mut-requires
index_mut-requires g c =
    let d = c.in-Some.row in
    let s = c.search.invariant.searching in
    let here : Among d c.search.todo.items = subst (Among d) (sym c.in-Some.ensures.items) (last_among d c.pop.new.self.items) in
    let l = led_below c.args.main.now c.args.table.now c.args.out.now.tasks.now d (s.sound d (s.listed d here)) in
    let z = c.search.invariant.ready_long in
    omega (arith, l, z, c.search.ready.ok.0)

pub returns-clause-ready : goal.returns-clause-ready
returns-clause-ready g c =
    λ e r. let z : length c.search.todo.items ≡ 0 = omega (arith, c.in_default.ensures.cases.0) in
    let t = c.args.table.now in
    let main = c.args.main.now in
    let out = c.args.out.now.tasks.now in
    let needs = leads t main out in
    let live = never in
    let there : Among e c.search.seen.items = search_end needs live (length t.rows) c.search.seen.items
    (subst (Searching needs live (length t.rows) c.search.seen.items) (nothing c.search.todo.items z) c.search.invariant.searching) e r in
    ready_end (λ e. can_run_test main t out (task_at t (Some e))) c.search.ready.items c.search.seen.items c.search.todo.items
    c.search.invariant.readied z e there
