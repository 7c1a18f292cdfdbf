-- Calls after calls.
use Rattle.std.proofs.Common.{◌≡◌, ℕ, List, [], ◌∷◌, ◌++◌, Some, None, refl, ap, sym, subst}
use Rattle.sky_base.specs.KitView.{Gives}
use Rattle.ciel_master_board.specs.Board.{Board, OrderOut, find_order}
use Rattle.ciel_master_board.specs.Moves.{accepted, lost_at, order_for, started}
use Rattle.ciel_task_crew.specs.Calls.{Call, Went, given, sent}
use Rattle.ciel_master_law.specs.Ends.{worker_of}
use Rattle.ciel_journal.specs.Entries.{Entry}
use Rattle.ciel_master.specs.Seen.{MasterSeen}
use Rattle.ciel_master.specs.declared.stop.RunEnd.{RunEnd}
use Rattle.ciel_task_order.specs.Views.{P, order_view, report_end}
use Rattle.ciel_task_order.specs.declared.order.Order.{Order}
use Rattle.ciel_task_order.specs.declared.report.Report.{Report}
use Rattle.ciel_task_order.specs.declared.shop.Shop.{Shop}
use Rattle.ciel_run_drive.specs.Moved.{Does, DoesAll, DoesAllButLast, Ends, Moved, loses, starts, stays, takes, throws}
use Rattle.ciel_run_drive.specs.Telling.{TakenAs, ThrownAs}

went_both : {S : Type 0} (goes : S → Call → S → Type 0) (s : S) (xs : List Call) (t : S) (ys : List Call) (u : S) → Went goes s xs t
    → Went goes t ys u → Went goes s (xs ++ ys) u
went_both goes s [] t ys u w v = subst (λ z. Went goes z ys u) (sym w) v
went_both goes s (x ∷ xs) t ys u w v = (w.0, w.1, went_both goes w.0 xs t ys u w.2 v)

module _ {K N : Type 0} (gives : K → Gives) (digest : N → List ℕ → List ℕ) (shop : Shop K N) where
  abbrev D : List ℕ → List ℕ
  D = digest shop.namer

  -- what is said under one premise is said under each that implies it
  moved_under : {Q R : Type 0} → (R → Q) → (b : Board P) (xs : List Call) (c : Board P) → Moved gives digest shop Q b xs c
      → Moved gives digest shop R b xs c
  moved_under f b xs c stays = stays
  moved_under f b xs c (loses w m) = loses w (moved_under f (lost_at worker_of w b) xs c m)
  moved_under f b xs c (starts {calls = cs} x w order e m) = starts x w order e (moved_under f (started worker_of b x w) cs c m)
  moved_under f b xs c (takes {calls = cs} r x i told m) =
      takes r x i (λ k. told (f k)) (moved_under f (accepted D worker_of b x r.spawned.items (report_end r)) cs c m)
  moved_under f b xs c (throws {calls = cs} r i told m) = throws r i (λ k. told (f k)) (moved_under f b cs c m)

  module _ (Q : Type 0) where
    moved_both : (b : Board P) (xs : List Call) (c : Board P) (ys : List Call) (d : Board P) → Moved gives digest shop Q b xs c
        → Moved gives digest shop Q c ys d → Moved gives digest shop Q b (xs ++ ys) d
    moved_both b xs c ys d stays v = v
    moved_both b xs c ys d (loses w m) v = loses w (moved_both (lost_at worker_of w b) xs c ys d m v)
    moved_both b xs c ys d (starts {calls = cs} x w order e m) v = starts x w order e (moved_both (started worker_of b x w) cs c ys d m v)
    moved_both b xs c ys d (takes {calls = cs} r x f told m) v =
        takes r x f told (moved_both (accepted D worker_of b x r.spawned.items (report_end r)) cs c ys d m v)
    moved_both b xs c ys d (throws {calls = cs} r f told m) v = throws r f told (moved_both b cs c ys d m v)

    module _ {S : Type 0} (goes : S → Call → S → Type 0) where
      -- no call
      pub does_none : (s : S) (b : Board P) → Does gives digest shop Q goes s b s b
      does_none s b = record { calls = []; went = refl; moved = stays }

      pub does_lost : (s : S) (b : Board P) (w : ℕ) (c : Board P) → c ≡ lost_at worker_of w b → Does gives digest shop Q goes s b s c
      does_lost s b w c e = record { calls = []; went = refl; moved = loses w (subst (λ z. Moved gives digest shop Q z [] c) e stays) }

      pub does_start : (s t : S) (b : Board P) (x : _) (w : ℕ) (order : Order) (c : Board P) → order_view order ≡ order_for worker_of b x w
          → c ≡ started worker_of b x w → goes s (sent order) t → Does gives digest shop Q goes s b t c
      does_start s t b x w order c v e g =
          record {
            calls = sent order ∷ [];
            went = (t, g, refl);
            moved = starts x w order v (subst (λ z. Moved gives digest shop Q z [] c) e stays);
          }

      does_take : (s t : S) (b : Board P) (r : Report) (x : OrderOut) (c : Board P) → find_order r.number b.orders ≡ Some x
          → c ≡ accepted D worker_of b x r.spawned.items (report_end r) → (Q → TakenAs gives digest shop b c r) → goes s (given r) t
          → Does gives digest shop Q goes s b t c
      does_take s t b r x c f e told g =
          record {
            calls = given r ∷ [];
            went = (t, g, refl);
            moved = takes r x f (λ q. subst (λ z. TakenAs gives digest shop b z r) e (told q))
                (subst (λ z. Moved gives digest shop Q z [] c) e stays);
          }

      pub does_throw : (s t : S) (b : Board P) (r : Report) → find_order r.number b.orders ≡ None → (Q → ThrownAs gives digest shop b r)
          → goes s (given r) t → Does gives digest shop Q goes s b t b
      does_throw s t b r f told g = record { calls = given r ∷ []; went = (t, g, refl); moved = throws r f told stays }

      -- a report that is taken by a master of the shop's namer
      pub does_accept : (s t : S) (m m2 : MasterSeen N) (r : Report) → m.namer ≡ shop.namer → goes s (given r) t
          → (x : OrderOut) × (find_order r.number m.board.orders ≡ Some x)
          × (m2 ≡ record m { board = accepted (digest m.namer) worker_of m.board x r.spawned.items (report_end r) })
          → (Q → TakenAs gives digest shop m.board m2.board r) → Does gives digest shop Q goes s m.board t m2.board
      does_accept s t m m2 r e g (x, f, new) told =
          does_take s t m.board r x m2.board f
          (subst (λ z. m2.board ≡ accepted (digest z) worker_of m.board x r.spawned.items (report_end r)) e (ap (λ (z : MasterSeen N). z.board) new))
          told g

      -- one after another
      pub does_both : {s : S} {b : Board P} {t : S} {c : Board P} {u : S} {d : Board P} → Does gives digest shop Q goes s b t c
          → Does gives digest shop Q goes t c u d → Does gives digest shop Q goes s b u d
      does_both {s} {b} {t} {c} {u} {d} x y =
          record {
            calls = x.calls ++ y.calls;
            went = went_both goes s x.calls t y.calls u x.went y.went;
            moved = moved_both b x.calls c y.calls d x.moved y.moved;
          }

      module _ (s : S) (b : Board P) (t : S) (c : Board P) (u : S) (J : List Entry) (x : Does gives digest shop Q goes s b t c) where
        all_after : DoesAll gives digest shop Q goes t c u J → DoesAll gives digest shop Q goes s b u J
        all_after e = record { board = e.board; does = does_both x e.does; journal = e.journal }

        but_last_after : DoesAllButLast gives digest shop Q goes t c u J → DoesAllButLast gives digest shop Q goes s b u J
        but_last_after e =
            record {
              last = e.last;
              board = e.board;
              does = does_both x e.does;
              report = e.report;
              order = e.order;
              is_out = e.is_out;
              came = e.came;
              journal = e.journal;
            }

        pub ends_after : (end : RunEnd) → Ends gives digest shop Q goes t c u J end → Ends gives digest shop Q goes s b u J end
        ends_after (RunEnd.Answer text) e = all_after e
        ends_after (RunEnd.Fault fault) e = all_after e
        ends_after (RunEnd.Endless names) e = all_after e
        ends_after RunEnd.AllLost e = all_after e
        ends_after (RunEnd.TooMany held more) e = but_last_after e
        ends_after (RunEnd.NameClash kept other) e = but_last_after e
        ends_after RunEnd.Memory e = tt

      pub ends_all : (s : S) (b : Board P) (t : S) (c : Board P) (J : List Entry) → Does gives digest shop Q goes s b t c → J ≡ c.journal
          → DoesAll gives digest shop Q goes s b t J
      ends_all s b t c J x e = record { board = c; does = x; journal = e }

      pub ends_none : (s : S) (b : Board P) (J : List Entry) → J ≡ b.journal → DoesAll gives digest shop Q goes s b s J
      ends_none s b J e = ends_all s b s b J (does_none s b) e

      -- with a last report of which nothing was written
      pub ends_but_last : (s t : S) (b : Board P) (J : List Entry) (r : Report) → (x : OrderOut) × (find_order r.number b.orders ≡ Some x)
          → goes s (given r) t → J ≡ b.journal → DoesAllButLast gives digest shop Q goes s b t J
      ends_but_last s t b J r x g e =
          record { last = s; board = b; does = does_none s b; report = r; order = x.0; is_out = x.1; came = g; journal = e }

  module _ {Q R : Type 0} (f : R → Q) {S : Type 0} (goes : S → Call → S → Type 0) where
    pub does_under : {s : S} {b : Board P} {t : S} {c : Board P} → Does gives digest shop Q goes s b t c → Does gives digest shop R goes s b t c
    does_under {s} {b} {t} {c} x =
        record { calls = x.calls; went = x.went; moved = moved_under f b x.calls c x.moved }

    module _ (s : S) (b : Board P) (t : S) (J : List Entry) where
      all_under : DoesAll gives digest shop Q goes s b t J → DoesAll gives digest shop R goes s b t J
      all_under e = record { board = e.board; does = does_under e.does; journal = e.journal }

      but_last_under : DoesAllButLast gives digest shop Q goes s b t J → DoesAllButLast gives digest shop R goes s b t J
      but_last_under e =
          record {
            last = e.last;
            board = e.board;
            does = does_under e.does;
            report = e.report;
            order = e.order;
            is_out = e.is_out;
            came = e.came;
            journal = e.journal;
          }

      pub ends_under : (end : RunEnd) → Ends gives digest shop Q goes s b t J end → Ends gives digest shop R goes s b t J end
      ends_under (RunEnd.Answer text) e = all_under e
      ends_under (RunEnd.Fault fault) e = all_under e
      ends_under (RunEnd.Endless names) e = all_under e
      ends_under RunEnd.AllLost e = all_under e
      ends_under (RunEnd.TooMany held more) e = but_last_under e
      ends_under (RunEnd.NameClash kept other) e = but_last_under e
      ends_under RunEnd.Memory e = tt
