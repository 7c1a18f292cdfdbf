-- A report that was read fits, once its parts passed the tests.
use Rattle.std.proofs.Common.{◌≡◌, ◌<◌, ◌≤◌, ◌+◌, ◌⊎◌, inl, inr, ℕ, zero, suc, List, [], ◌∷◌, Bool, true, false, ◌||◌, cond, is_some, map, Option, Some, None}
use Rattle.std.proofs.Common.{option_map, refl, sym, ap, ◌∙◌, subst, arith}
use Rattle.std.specs.List.{IsDistinct}
use Rattle.sky_base.specs.Name.{digested}
use Rattle.sky_base.specs.ObjectView.{desc_view}
use Rattle.sky_base.specs.Tree.{Script}
use Rattle.sky_base.specs.Val.{Desc, Val, call, input, known, out, same_text}
use Rattle.sky_base.specs.View.{view}
use Rattle.sky_base.specs.declared.object.Desc1.{Desc1}
use Rattle.sky_base.specs.declared.object.Named.{Named}
use Rattle.sky_base.specs.declared.object.TaskId.{TaskId}
use Rattle.sky_base.proofs.Exact.{exact_text, self_text}
use Rattle.ciel_journal.specs.Job.{Digest, Each, In}
use Rattle.ciel_master.specs.Fitting.{FitsOrder, FitsUnlessMissing, IsMissedOf}
use Rattle.ciel_master.specs.Marked.{SeenOf}
use Rattle.ciel_master_board.specs.Board.{Board, Spot, find_order, spot_of, task_desc}
use Rattle.ciel_master_board.specs.Reports.{Copy, IsNamed, Output, copy_names, learned_all, made, made_names, named_view}
use Rattle.ciel_master_board.specs.Sound as board
use Rattle.ciel_master_board.specs.Sound.{own_name}
use Rattle.ciel_master_safe.specs.Reports.{CanWait, FitsSafely, StandsWhole, names_from, outputs_of}
use Rattle.ciel_master_safe.specs.Safe.{GoesBy, ObjectLies, Serves, W}
use Rattle.ciel_name.specs.Names.{first_output}
use Rattle.ciel_store.specs.Seen.{ShelvesSeen}
use Rattle.sky_state.specs.declared.shown.Shown.{Shown}
use Rattle.ciel_table.specs.Seen.{Known, TableSeen, find}
use Rattle.ciel_table.specs.declared.row.Row.{Row}
use Rattle.ciel_task_order.specs.Orders.{names_in}
use Rattle.ciel_task_order.specs.Performs.{IsMissing, OfTask, OutputsKnown}
use Rattle.ciel_task_order.specs.Views.{P, brought_view, copies_view, copy_at, order_view, output_view}
use Rattle.ciel_task_order.specs.declared.block.Held.{Held}
use Rattle.ciel_task_order.specs.declared.order.Order.{Order}
use Rattle.ciel_task_order.specs.declared.report.End.{End}
use Rattle.ciel_task_order.specs.declared.report.Made.{Made}
use Rattle.ciel_task_order.specs.declared.report.Report.{Report}
use Rattle.ciel_want.specs.Waited.{AllKnown}
use Rattle.ciel_log_fits.specs.Known.{is_named}
use Rattle.ciel_log_fits.specs.Read.{CopiesPut, CopyPut, EndPut, IsOut, IsPut, ObjectPut, ReadReportsFit, SpawnedPass}
use Rattle.ciel_log_fits.proofs.Circles.{to_each}
use Rattle.ciel_log_fits.proofs.Learned.{known_is}

-- ---- what has rows then

or_first : (b c : Bool) → b ≡ true → b || c ≡ true
or_first true c e = refl
or_first false c e = absurd cc

or_second : (b c : Bool) → c ≡ true → b || c ≡ true
or_second true c e = refl
or_second false c e = e

module _ (digest : List ℕ → List ℕ) (t : TableSeen P) where
  stays : (ns : List Named) (n : List ℕ) → Known t n → Known (learned_all digest ns t) n
  stays ns n k = known_is digest n ns t ∙ or_first (is_some (find n t)) (is_named n ns) k

  named_so : (ns : List Named) (d : Desc (List ℕ)) → Each (IsNamed digest) ns → In d (map named_view ns) → is_named (digested digest d) ns ≡ true
  named_so [] d h i = absurd i
  named_so (n ∷ ns) d h (inl e) =
      let same : n.name ≡ digested digest d = h.0.name ∙ ap (digested digest) (sym e) in
      or_first (same_text (digested digest d) n.name) (is_named (digested digest d) ns)
      (subst (λ m. same_text (digested digest d) m ≡ true) (sym same) (self_text (digested digest d)))
  named_so (n ∷ ns) d h (inr i) = or_second (same_text (digested digest d) n.name) (is_named (digested digest d) ns) (named_so ns d h.1 i)

  spawned_known : (ns : List Named) (d : Desc (List ℕ)) → Each (IsNamed digest) ns → In d (map named_view ns)
      → Known (learned_all digest ns t) (digested digest d)
  spawned_known ns d h i =
      known_is digest (digested digest d) ns t
      ∙ or_second (is_some (find (digested digest d) t)) (is_named (digested digest d) ns) (named_so ns d h i)

at_each : (P : Desc (List ℕ) → Type 0) (ns : List Named) → Each (λ (n : Named). P (named_view n)) ns → (d : Desc (List ℕ)) → In d (map named_view ns) → P d
at_each P [] h d i = absurd i
at_each P (n ∷ ns) h d (inl e) = subst P (sym e) h.0
at_each P (n ∷ ns) h d (inr i) = at_each P ns h.1 d i

-- ---- the outputs of a task

module _ (digest : List ℕ → List ℕ) (t : TableSeen P) where
  of_names : (x : List ℕ) (a : Val (List ℕ)) (n k count : ℕ) → ((j : ℕ) → j < n → Known t (digested digest (out x a n j))) → k + count ≤ n
      → (m : Digest) → In m (names_from digest x a n k count) → Known t m
  of_names x a n k zero h l m i = absurd i
  of_names x a n k (suc count) h l m (inl e) = subst (Known t) (sym e) (h k (omega (arith, l)))
  of_names x a n k (suc count) h l m (inr i) = of_names x a n (suc k) count h (omega (arith, l)) m i

  output_known : (d : Option Desc1) → OutputsKnown digest t d → (m : Digest) → In m (outputs_of digest d) → Known t m
  output_known None h m i = absurd i
  output_known (Some (Desc1.Call f c vs)) h m (inl e) = subst (Known t) (sym e) h
  output_known (Some (Desc1.Call f c vs)) h m (inr i) = absurd i
  output_known (Some (Desc1.Exec x a n i)) h m j = of_names x (view a) n 0 n h (omega arith) m j
  output_known (Some (Desc1.Input k)) h m i = absurd i

names_made : (ms : List Made) → made_names (map output_view ms) ≡ map (λ (m : Made). m.name) ms
names_made [] = refl
names_made (m ∷ ms) = ap (λ ns. m.name ∷ ns) (names_made ms)

-- ---- what the order brings along

brought_known : (t : TableSeen P) (n : Digest) (hs : List Held) (s : Spot P) → spot_of n (map brought_view hs) ≡ Some s → AllKnown t (names_in hs) → Known t n
brought_known t n [] s e k = absurd cc
brought_known t n (h ∷ hs) s e k = go (same_text n h.name) refl e (λ f. brought_known t n hs s f k.1)
  where
    go : (b : Bool) → same_text n h.name ≡ b → cond b (Some (brought_view h).spot) (spot_of n (map brought_view hs)) ≡ Some s
        → (spot_of n (map brought_view hs) ≡ Some s → Known t n) → Known t n
    go true q f later = subst (Known t) (sym (exact_text n h.name q)) k.0
    go false q f later = later f

module _ (digest : List ℕ → List ℕ) (shelves : ShelvesSeen) (sc : Script) (b : Board P) (order : Order) (o : IsOut digest sc b order) where
  desc_is : task_desc b.main b.table order.task ≡ order.desc
  desc_is = go order.task order.desc o.goes
    where
      go : (task : TaskId) (d : Option Desc1) → GoesBy b.table task d → task_desc b.main b.table task ≡ d
      go TaskId.Show None h = refl
      go TaskId.Show (Some d) h = absurd h
      go (TaskId.Of n) None h = absurd h
      go (TaskId.Of n) (Some d) h = ap (option_map (λ (r : Row P). r.desc)) h.1 ∙ ap (λ x. Some x) h.2

  module _ (ns : List Named) where
    abbrev then : TableSeen P
    then = learned_all digest ns b.table

    lies : (p : P) → ObjectPut digest shelves sc b order then p → ObjectLies digest shelves sc then p
    lies p h = record { place = h.place; object = h.object; known = h.known }

    -- ---- what was spawned

    first_known : Each (IsNamed digest) ns → (d : Desc (List ℕ)) → In d (map named_view ns) → StandsWhole (map named_view ns) d
        → Known then (digested digest (first_output d))
    first_known h (call f c vs) i w = spawned_known digest b.table ns (call f c vs) h i
    first_known h (out x a n k) i w = spawned_known digest b.table ns (out x a n 0) h (w.1 0 (omega (arith, w.0)))
    first_known h (input k) i w = spawned_known digest b.table ns (input k) h i
    first_known h (known m) i w = spawned_known digest b.table ns (known m) h i

    tasks : SpawnedPass digest sc b.table ns → Each (λ (n : Named). Known then (digested digest (first_output (desc_view n.desc)))) ns
    tasks s =
        to_each (λ d. Known then (digested digest (first_output d))) ns
        (λ d i. first_known s.named d i (at_each (StandsWhole (map named_view ns)) ns s.whole d i))

    -- ---- outputs

    outputs_fit : (ms : List Made) → ((m : Digest) → In m (map (λ (m : Made). m.name) ms) → Known b.table m)
        → Each (λ (m : Made). ObjectPut digest shelves sc b order then m.place) ms → Each (board.OutputFits digest W then (order_view order)) (map output_view ms)
    outputs_fit [] k h = tt
    outputs_fit (m ∷ ms) k h = (
      record { known = stays digest b.table ns m.name (k m.name (inl refl)); here = h.0.here },
      outputs_fit ms (λ n i. k n (inr i)) h.1,
    )

    outputs_lie : (ms : List Made) → Each (λ (m : Made). ObjectPut digest shelves sc b order then m.place) ms
        → Each (λ (m : Output P). ObjectLies digest shelves sc then m.place) (map output_view ms)
    outputs_lie [] h = tt
    outputs_lie (m ∷ ms) h = (lies m.place h.0, outputs_lie ms h.1)

    -- ---- copies

    copies_fit : (hs : List Held) → Each (CopyPut digest shelves sc b order then) hs → Each (board.CopyFits digest W then (order_view order)) (copies_view hs)
    copies_fit [] h = tt
    copies_fit (c ∷ hs) h =
        let x = h.0 in
        let from = x.elsewhere in
        let k = stays digest b.table ns c.name (brought_known b.table c.name order.inputs.items _ from.1 o.rows.brought) in
        subst (λ s. Each (board.CopyFits digest W then (order_view order)) (copy_at c.name s (copies_view hs))) (sym x.is)
        (record { known = k; here = x.put.here; from = from.0; given = from.1; other = from.2 }, copies_fit hs h.1)

    copies_lie : (hs : List Held) → Each (CopyPut digest shelves sc b order then) hs
        → Each (λ (c : Copy P). ObjectLies digest shelves sc then c.place) (copies_view hs)
    copies_lie [] h = tt
    copies_lie (c ∷ hs) h =
        subst (λ s. Each (λ (c : Copy P). ObjectLies digest shelves sc then c.place) (copy_at c.name s (copies_view hs))) (sym h.0.is)
        (lies h.0.at h.0.put, copies_lie hs h.1)

    copies_named : (hs : List Held) → Each (CopyPut digest shelves sc b order then) hs → copy_names (copies_view hs) ≡ names_in hs
    copies_named [] h = refl
    copies_named (c ∷ hs) h =
        subst (λ s. copy_names (copy_at c.name s (copies_view hs)) ≡ names_in (c ∷ hs)) (sym h.0.is) (ap (λ ms. c.name ∷ ms) (copies_named hs h.1))

    -- ---- ends

    no_outputs : (task : TaskId) (shown : Shown) → OfTask task (End.Shown shown) → [] ≡ outputs_of digest (task_desc b.main b.table task)
    no_outputs TaskId.Show shown h = refl
    no_outputs (TaskId.Of n) shown h = absurd h

    made_fits : (copied : List Held) (ms : List Made) → SpawnedPass digest sc b.table ns
        → map (λ (m : Made). m.name) ms ≡ outputs_of digest (task_desc b.main b.table order.task)
        → ((m : Digest) → In m (map (λ (m : Made). m.name) ms) → Known b.table m)
        → Each (λ (m : Made). ObjectPut digest shelves sc b order then m.place) ms → CopiesPut digest shelves sc b order then copied
        → FitsSafely digest shelves sc b (order_view order) ns (made (map output_view ms) (copies_view copied))
    made_fits copied ms s e k h c =
        record {
          fits = record {
            named = s.named;
            missed = tt;
            learned = λ all. record {
              inside = s.inside;
              tasks = tasks s;
              end = (
                outputs_fit ms k h,
                copies_fit copied c.each,
                subst (IsDistinct same_text) (sym (copies_named copied c.each)) c.distinct,
              );
            };
          };
          safe = record {
            serves = subst (λ ks. Each (λ (n : Named). Serves sc ks n.desc) ns) (sym o.keys) s.serves;
            whole = s.whole;
            end = (names_made ms ∙ e, outputs_lie ms h, copies_lie copied c.each);
          };
        }

    whole_fits : (end : End) (copied : List Held) → OfTask order.task end → ((IsMissing end → ⊥) → SpawnedPass digest sc b.table ns)
        → EndPut digest shelves sc b order then copied end → FitsUnlessMissing digest shelves sc b (order_view order) ns copied end
    whole_fits (End.Made ms) copied kind s h = λ none.
        let e : map (λ (m : Made). m.name) ms.items ≡ outputs_of digest (task_desc b.main b.table order.task) =
        h.0 ∙ ap (outputs_of digest) (sym desc_is) in
        made_fits copied ms.items (s none) e
        (λ m i. output_known digest b.table order.desc o.rows.outputs m (subst (In m) h.0 i)) h.1 h.2
    whole_fits (End.Shown shown) copied kind s h = λ none.
        made_fits copied [] (s none) (no_outputs order.task shown kind) (λ m i. absurd i) tt h
    whole_fits (End.Saved p j refs holds mark) copied kind s h = λ none.
        let q = s none in
        record {
          fits = record {
            named = q.named;
            missed = tt;
            learned = λ all. record {
              inside = q.inside;
              tasks = tasks q;
              end = record { later = h.later; here = h.here; refs = h.refs; holds = h.holds };
            };
          };
          safe = record {
            serves = subst (λ ks. Each (λ (n : Named). Serves sc ks n.desc) ns) (sym o.keys) q.serves;
            whole = q.whole;
            end = (subst (CanWait order.task) (sym desc_is) h.can, h.place, h.stack);
          };
        }
    whole_fits (End.Missing name loss seen) copied kind s h = λ none. absurd (none tt)

    missed_fits : (end : End) (copied : List Held) → EndPut digest shelves sc b order then copied end → IsMissedOf digest b (order_view order) end
    missed_fits (End.Made ms) copied h = tt
    missed_fits (End.Shown shown) copied h = tt
    missed_fits (End.Saved p j refs holds mark) copied h = tt
    missed_fits (End.Missing name loss seen) copied h =
        let g = h.0 in
        record { place = g.0; given = go g.1; worker = g.2; known = inr (h.2, h.3) }
      where
        go : (spot_of name (order_view order).inputs ≡ Some (Spot.shelf h.0.0))
            ⊎ ((order.saved ≡ Some h.0.0) × (name ≡ own_name digest W order.main order.task))
            → (spot_of name (order_view order).inputs ≡ Some (Spot.shelf h.0.0))
            ⊎ ((order.saved ≡ Some h.0.0) × (name ≡ own_name digest W b.main order.task))
        go (inl e) = inl e
        go (inr e) = inr (e.0, subst (λ m. name ≡ own_name digest W m order.task) o.main e.1)

    seen_fits : (end : End) (copied : List Held) → EndPut digest shelves sc b order then copied end → SeenOf shelves end
    seen_fits (End.Made ms) copied h = tt
    seen_fits (End.Shown shown) copied h = tt
    seen_fits (End.Saved p j refs holds mark) copied h = tt
    seen_fits (End.Missing name loss seen) copied h = subst (λ s. SeenOf shelves (End.Missing name loss s)) (sym h.1) tt

-- it fits the order that it is of
pub read_fits_order : (digest : List ℕ → List ℕ) (shelves : ShelvesSeen) (sc : Script) (b : Board P) (order : Order) (r : Report)
    → IsOut digest sc b order → IsPut digest shelves sc b order r → FitsOrder digest shelves sc b (order_view order) r
read_fits_order digest shelves sc b order r o h =
    let ns = r.spawned.items in
    record {
      of = record { worker = h.worker; task = h.task; kind = h.kind };
      whole = whole_fits digest shelves sc b order o ns r.end r.copied.items h.kind h.spawned h.end;
      missed = missed_fits digest shelves sc b order o ns r.end r.copied.items h.end;
      seen = seen_fits digest shelves sc b order o ns r.end r.copied.items h.end;
    }

pub read_reports_fit : ReadReportsFit
read_reports_fit digest shelves sc b order r o h =
    (order_view order, ap (λ n. find_order n b.orders) h.number ∙ o.out, read_fits_order digest shelves sc b order r o h)
