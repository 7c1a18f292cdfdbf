-- A report that says the model's tells an event that is allowed; what is refused of it is what the model makes next.
use Rattle.std.proofs.Common.{◌≡◌, ◌≢◌, ℕ, ◌-◌, List, [], ◌∷◌, ◌++◌, append_assoc, Some, inl, inr, refl, ap, sym, ◌∙◌, subst, arith, map, ◌⊎◌, length}
use Rattle.std.proofs.lemmas.List.{append-nil, length-map}
use Rattle.ciel_journal.specs.Job.{Digest, Held, Job, In, Each, IsJob, IsPrefix, after_wait, made_before, made_in}
use Rattle.ciel_journal.specs.History.{Event, start, done, saved, missed, lost, OpenStart, Plan, Standing, after, find_open, learned, standing}
use Rattle.ciel_journal.specs.Entries.{low_made, low_names}
use Rattle.ciel_journal.specs.Known.{Inner, Knows}
use Rattle.ciel_journal.specs.Lawful.{Allowed, Given, Lawful, NextEnd, NextWait, NoClash, SpawnedTo, SpawnedToEnd}
use Rattle.ciel_journal.specs.Segment as segment
use Rattle.ciel_journal.proofs.BookKnown.{Informed, OrderKnown, comes_to, handed_end, handed_to, informed_all, informed_start, learned_from}
use Rattle.ciel_journal.proofs.BookKnown.{live_carried, order_more}
use Rattle.ciel_journal.proofs.Booked.{each_more}
use Rattle.ciel_journal.proofs.Good.{after_done, after_saved, each_join}
use Rattle.ciel_journal.proofs.Members.{each_of}
use Rattle.ciel_journal.proofs.Near.{each_all, in_right}
use Rattle.ciel_journal.proofs.Numbers.{found_in, in_left}
use Rattle.ciel_journal.proofs.Published.{book_apart}
use Rattle.ciel_journal.proofs.Splits.{before_split, made_split}
use Rattle.ciel_journal_job.specs.Report.{Clear, End, Exact, IsMissing, IsNew, Learns, MadeIs, Met, Or, Report, Says, Spawns, StoppedIs, Tells, made}
use Rattle.ciel_journal_job.specs.Report.{missing, report_of, stopped, made_then, at_first, held_then, brought, at_end, at_wait}
use Rattle.ciel_journal_job.proofs.CleanLists.{Clean, Tabled, in_map, map_in}
use Rattle.ciel_journal_job.proofs.NamesLearned.{book_apart_named, learned_rows, learns_apart, learns_has, learns_keeps}
use Rattle.ciel_journal_job.proofs.CleanWalks.{Inward, MetIn, Stopped, Walked, stops, walk}

module _ {D B : Type 0} (job : Job D) (laws : IsJob job) (inner : Inner D) (knows : Knows job inner) (lower : D → B) (named : B → Digest)
    (exact : Exact job inner lower named) where
  module _ (p : Plan) (h : List (Event D)) (lawful : Lawful job p h) where
    abbrev v : Standing D
    v = standing job h

    abbrev Booked : D → Type 0
    Booked d = In d v.book

    informed : Informed job laws inner knows v
    informed = informed_all job laws inner knows p _ h (informed_start job laws inner knows) lawful

    clean : Clean job laws inner lower named exact v.book
    clean = record { apart = book_apart job laws p h lawful; whole = λ d i. (informed.whole d i).0 }

    module _ (o : OpenStart D) (r : Report B) (opened : find_open job r.number v.orders ≡ Some o) where
      order : In o v.orders
      order = (found_in job laws r.number v.orders o opened).0

      known : OrderKnown job laws inner knows v.book o
      known = informed.orders o order

      -- what the task met stands in the book
      met_booked : MetIn job laws inner lower named exact (Met job inner lower o) v.book
      met_booked d (made_then n l i) = each_of Booked d (made_before o.from (job.acts n o.task)) i (known.told.makes n l)
      met_booked d (at_first (held_then x)) =
          each_of Booked d x.1.names x.3 (knows.holds_told v.book o.task o.from known.here.0 x.1 known.told known.here.1 (x.0, x.2))
      met_booked d (at_first (brought e n g i)) = live_carried job laws inner knows v.book o known e g.1 n d i

      -- all of them stand in the book with what was made before
      before_there : (P before : List D) → Each Booked P → Each (λ e. In e (v.book ++ before)) (P ++ before)
      before_there P before m =
          each_join (λ e. In e (v.book ++ before)) P before
          (each_more Booked (λ e. In e (v.book ++ before)) (λ e i. in_left e v.book before i) P m)
          (each_all (λ e. In e (v.book ++ before)) before (λ e i. in_right e v.book before i))

      known_more : (before : List D) → OrderKnown job laws inner knows (v.book ++ before) o
      known_more before = order_more job laws inner knows v.book (v.book ++ before) (λ d i. in_left d v.book before i) o known

      inward_end : (ds : List D) → NextEnd job (Given job o) o.task o.from → SpawnedToEnd job o ds → Inward job laws inner lower named exact v.book ds
      inward_end ds next (n, e, s) before after d q =
          let P = made_before o.from (job.acts n o.task) in
          let all : made_in (job.acts n o.task) ≡ (P ++ before) ++ d ∷ after = made_split o.from (job.acts n o.task)
          ∙ (ap (λ z. P ++ z) (sym s ∙ q) ∙ sym (append_assoc P before (d ∷ after))) in
          knows.end_told (v.book ++ before) o.task n (P ++ before) after d
          (handed_end job laws inner knows (v.book ++ before) o (known_more before) next) all
          (before_there P before (known.told.makes n (comes_to job laws inner knows o known.here.0 n known.here.1 e)))

      inward_wait : (i : ℕ) (refs ds : List D) → NextWait job (Given job o) o.task o.from i refs → SpawnedTo job o i ds
          → Inward job laws inner lower named exact v.book ds
      inward_wait i refs ds next (n, l, s) before after d q =
          let P = made_before o.from (job.acts n o.task) in
          let u = next.later in
          let all : made_before i (job.acts n o.task) ≡ (P ++ before) ++ d ∷ after = before_split o.from i (job.acts n o.task) (omega (arith, u))
          ∙ (ap (λ z. P ++ z) (sym s ∙ q) ∙ sym (append_assoc P before (d ∷ after))) in
          knows.made_told (v.book ++ before) o.task i n (P ++ before) after d
          (handed_to job laws inner knows (v.book ++ before) o i refs (known_more before) next) all
          (before_there P before (known.told.makes n (omega (arith, u, l))))

      tabled : (bs rows : List B) → Learns named (map lower v.book) bs rows → Tabled job laws inner lower named exact rows v.book
      tabled bs rows l =
          record {
            apart = learns_apart named (map lower v.book) bs rows (book_apart_named job laws inner lower named exact v.book clean.apart) l;
            there = λ d i. learns_keeps named (map lower v.book) bs rows l (lower d) (in_map lower d v.book i);
          }

      -- ---- it tells an event that is allowed

      abbrev Tells' : List D → List B → Type 0
      Tells' ds bs = Tells job inner lower (Met job inner lower o) ds bs

      book_clean : (ds : List D) → Clean job laws inner lower named exact (v.book ++ ds) → NoClash job (learned job v.book ds)
      book_clean ds c a b i j n = c.apart a b (there a (learned_from job laws v.book ds a i)) (there b (learned_from job laws v.book ds b j)) n
        where
          there : (x : D) → (In x v.book ⊎ In x ds) → In x (v.book ++ ds)
          there x (inl k) = in_left x v.book ds k
          there x (inr k) = in_right x v.book ds k

      whole_report : (ds : List D) (end : End) → r.spawned ≡ map lower ds → end ≡ r.end
          → Some (record { number = r.number; spawned = map lower ds; end = end }) ≡ Some r
      whole_report ds end a e =
          ap (λ z. Some (record { number = r.number; spawned = z; end = end })) (sym a)
          ∙ ap (λ z. Some (record { number = r.number; spawned = r.spawned; end = z })) e

      module _ (rows : List B) (learns : Learns named (map lower v.book) r.spawned rows) where
        all_told : (ds : List D) → Inward job laws inner lower named exact v.book ds → Tells' ds r.spawned
            → Walked job laws inner lower named exact (Met job inner lower o) v.book ds r.spawned
        all_told ds inward t =
            walk job laws inner lower named exact rows (Met job inner lower o) v.book ds r.spawned clean (tabled r.spawned rows learns) inward
            met_booked (λ b i. learns_has named (map lower v.book) r.spawned rows learns b i) t

        abbrev Told : Type 0
        Told = (e : Event D) × (report_of job inner lower e ≡ Some r) × Allowed job p v e × NoClash job (after job v e).book
            × (rows ≡ map lower (after job v e).book)

        rows_are : (ds : List D) → Walked job laws inner lower named exact (Met job inner lower o) v.book ds r.spawned → rows
            ≡ map lower (learned job v.book ds)
        rows_are ds w =
            learned_rows job laws inner lower named exact (v.book ++ ds) w.clean.apart v.book ds rows (λ d i. in_left d v.book ds i)
            (λ d i. in_right d v.book ds i) (subst (λ z. Learns named (map lower v.book) z rows) w.all learns)

        -- an event after which the book has what the task made
        tells_event : (ds : List D) → Walked job laws inner lower named exact (Met job inner lower o) v.book ds r.spawned → (e : Event D)
            → report_of job inner lower e ≡ Some r → Allowed job p v e → (after job v e).book ≡ learned job v.book ds → Told
        tells_event ds w e report allowed book =
            (e, report, allowed, subst (NoClash job) (sym book) (book_clean ds w.clean), rows_are ds w ∙ ap (map lower) (sym book))

        end_event : (ds : List D) → NextEnd job (Given job o) o.task o.from → SpawnedToEnd job o ds → Tells' ds r.spawned → (end : End) → r.end
            ≡ end → (IsMissing end → ⊥) → (Clear job inner lower (Met job inner lower o) ds → MadeIs job inner lower o end) → Told
        end_event ds next s t (missing name loss) q none m = absurd (none tt)
        end_event ds next s t (stopped j mark refs holds) q none m =
            absurd (m (all_told ds (inward_end ds next s) t).clear)
        end_event ds next s t (made objects names) q none m =
            let w = all_told ds (inward_end ds next s) t in
            let x = m w.clear in
            let end : made (low_made job x.0) (low_names job x.1) ≡ r.end = ap (λ z. made z (low_names job x.1)) (sym x.5)
            ∙ (ap (λ z. made objects z) (sym x.6) ∙ sym q) in
            tells_event ds w (done r.number x.0 x.1 ds) (whole_report ds (made (low_made job x.0) (low_names job x.1)) w.all end)
            (o, opened, record { next = next; marked = x.2; distinct = x.4; fetched = x.3; spawns = s })
            (ap (λ (z : Standing D). z.book) (after_done job laws v r.number x.0 x.1 ds o opened))

        wait_event : (i : ℕ) (refs ds : List D) → NextWait job (Given job o) o.task o.from i refs → SpawnedTo job o i ds → Tells' ds r.spawned
            → (end : End) → r.end ≡ end → (IsMissing end → ⊥)
            → (Clear job inner lower (Met job inner lower o) ds → StoppedIs job inner lower o i refs end) → Told
        wait_event i refs ds next s t (missing name loss) q none m = absurd (none tt)
        wait_event i refs ds next s t (made objects names) q none m =
            absurd (m (all_told ds (inward_wait i refs ds next s) t).clear)
        wait_event i refs ds next s t (stopped j mark rs hs) q none m =
            let w = all_told ds (inward_wait i refs ds next s) t in
            let x = m w.clear in
            let a : Held D = x.1.0 in
            let end : stopped i a.mark (low_names job refs) (low_names job a.names) ≡ r.end =
            ap (λ z. stopped z a.mark (low_names job refs) (low_names job a.names)) (sym x.0)
            ∙ (ap (λ z. stopped j z (low_names job refs) (low_names job a.names)) (sym x.1.2)
            ∙ (ap (λ z. stopped j mark z (low_names job a.names)) (sym x.2) ∙ (ap (λ z. stopped j mark rs z) (sym x.1.3) ∙ sym q))) in
            tells_event ds w (saved r.number i a.mark refs a.names ds)
            (whole_report ds (stopped i a.mark (low_names job refs) (low_names job a.names)) w.all end)
            (o, opened, record { next = next; frozen = x.1.1; spawns = s })
            (ap (λ (z : Standing D). z.book) (after_saved job laws v r.number i a.mark refs a.names ds o opened))

        -- where something is spawned, the report tells what the model makes
        tells_some : (ds : List D) (end : End) (xs : List B) → (IsMissing end → ⊥) → Spawns job inner lower o ds xs end → Tells' ds xs
        tells_some ds (missing name loss) xs none s = absurd (none tt)
        tells_some ds (made objects names) xs none s = s
        tells_some ds (stopped j mark refs holds) xs none s = s

        pub allowed : Says job inner lower o r → (IsMissing r.end → ⊥) → Told
        allowed (at_end ds next s spawns m) none =
            end_event ds next s (tells_some ds r.end r.spawned none spawns) r.end refl none m
        allowed (at_wait i refs ds next s spawns m) none =
            wait_event i refs ds next s (tells_some ds r.end r.spawned none spawns) r.end refl none m

      -- ---- what is refused of it is what the model makes next

      module _ (before rest rows : List B) (given : B) (split : r.spawned ≡ before ++ given ∷ rest)
          (learns : Learns named (map lower v.book) before rows) where
        some_spawned : (ds : List D) (end : End) → Spawns job inner lower o ds r.spawned end → Tells' ds r.spawned
        some_spawned ds (missing name loss) s = bad before (sym s ∙ split)
          where
            bad : (bs : List B) → [] ≡ bs ++ given ∷ rest → Tells' ds r.spawned
            bad [] e = cc
            bad (b ∷ bs) e = cc
        some_spawned ds (made objects names) s = s
        some_spawned ds (stopped j mark refs holds) s = s

        -- it is the next that this open Start makes, and what was learned is what that made before
        record Refused : Type 0 where
          pub front : List D
          pub next : D
          pub is : lower next ≡ given
          pub made_next : segment.MadeNext job v front next
          pub learned_is : rows ≡ map lower (learned job v.book front)

        refused : (ds : List D) → Inward job laws inner lower named exact v.book ds → Tells' ds r.spawned → (m : ℕ)
            × IsPrefix ds (made_in (after_wait o.from (job.acts m o.task))) → Refused
        refused ds inward t (m, (more, prefix)) =
            record {
              front = w.front;
              next = w.next;
              is = w.is;
              made_next = record { order = o; is_open = order; begun = (m, begun) };
              learned_is = learned_rows job laws inner lower named exact (v.book ++ w.front) w.clean.apart v.book w.front rows
                  (λ d i. in_left d v.book w.front i) (λ d i. in_right d v.book w.front i)
                  (subst (λ z. Learns named (map lower v.book) z rows) w.told learns);
            }
          where
            w : Stopped job laws inner lower named exact v.book ds before given
            w =
                stops job laws inner lower named exact rows (Met job inner lower o) v.book ds r.spawned before rest given clean
                (tabled before rows learns) inward met_booked (λ b i. learns_has named (map lower v.book) before rows learns b i) split t

            begun : IsPrefix (w.front ++ w.next ∷ []) (made_in (after_wait o.from (job.acts m o.task)))
            begun = (
              w.back ++ more,
              sym (append_assoc (w.front ++ w.next ∷ []) w.back more)
                  ∙ (ap (λ z. z ++ more) (append_assoc w.front (w.next ∷ []) w.back ∙ sym w.split) ∙ prefix),
            )

        made_on : Says job inner lower o r → Refused
        made_on (at_end ds next s spawns m) =
            refused ds (inward_end ds next s) (some_spawned ds r.end spawns) (s.0, ([], append-nil ds ∙ s.2))
        made_on (at_wait i refs ds next s spawns m) =
            refused ds (inward_wait i refs ds next s) (some_spawned ds r.end spawns) (
              s.0,
              (
                made_in (after_wait (i - o.from) (after_wait o.from (job.acts s.0 o.task))),
                ap (λ z. z ++ made_in (after_wait (i - o.from) (after_wait o.from (job.acts s.0 o.task)))) s.2
                    ∙ sym (made_split (i - o.from) (after_wait o.from (job.acts s.0 o.task))),
              ),
            )

        pub clash : Says job inner lower o r → (kept : B) → In kept rows → named kept ≡ named given → kept ≢ given → (x d : D) × (lower x ≡ kept)
            × (lower d ≡ given) × segment.Clashes job v x d
        clash says kept k n other =
            let f = made_on says in
            let x = map_in lower kept (learned job v.book f.front) (subst (In kept) f.learned_is k) in (
              x.0,
              f.next,
              x.2,
              f.is,
              record {
                before = f.front;
                next = f.made_next;
                known = x.1;
                named = sym (exact.own x.0) ∙ (ap named x.2 ∙ (n ∙ (sym (ap named f.is) ∙ exact.own f.next)));
                other = λ s. other (sym x.2 ∙ (ap lower s ∙ f.is));
              },
            )

        pub overflow : Says job inner lower o r → IsNew named rows given → (d : D) × (lower d ≡ given) × segment.Overflows job v (length rows) d
        overflow says new =
            let f = made_on says in (
              f.next,
              f.is,
              record {
                before = f.front;
                next = f.made_next;
                full = sym (ap length f.learned_is ∙ length-map (learned job v.book f.front) lower);
                fresh = λ i. new (lower f.next) (subst (In (lower f.next)) (sym f.learned_is)
                    (in_map lower f.next (learned job v.book f.front) i)) (ap named f.is);
              },
            )

module _ {D B : Type 0} (job : Job D) (inner : Inner D) (lower : D → B) where
  own_told : (met : D → Type 0) (ds : List D) → Tells job inner lower met ds (map lower ds)
  own_told met [] = refl
  own_told met (d ∷ ds) = (map lower ds, refl, λ none. own_told (Or job inner lower met d) ds)

  -- an allowed event is said by the report that tells it
  pub said : (p : Plan) (v : Standing D) (e : Event D) (r : Report B) → Allowed job p v e → report_of job inner lower e ≡ Some r
      → (IsMissing r.end → ⊥) → (o : OpenStart D) × (find_open job r.number v.orders ≡ Some o) × Says job inner lower o r
  said p v (start k w t from) r a q none = cc
  said p v (lost w closes) r a q none = cc
  said p v (missed k d loss) r a q none = absurd (none (subst (λ (z : Report B). IsMissing z.end) (is r q) tt))
    where
      is : (r : Report B) → report_of job inner lower (missed k d loss) ≡ Some r
          → record { number = k; spawned = []; end = missing (job.name d) loss } ≡ r
      is r q = cc
  said p v (done k objects copied spawned) r a q none =
      subst (λ (z : Report B). (o : OpenStart D) × (find_open job z.number v.orders ≡ Some o) × Says job inner lower o z) (is r q) (
        a.0,
        a.1,
        at_end spawned a.2.next a.2.spawns (own_told (Met job inner lower a.0) spawned)
            (λ clear. (objects, copied, a.2.marked, a.2.fetched, a.2.distinct, refl, refl)),
      )
    where
      is : (r : Report B) → report_of job inner lower (done k objects copied spawned) ≡ Some r
          → record { number = k; spawned = map lower spawned; end = made (low_made job objects) (low_names job copied) } ≡ r
      is r q = cc
  said p v (saved k j mark refs holds spawned) r a q none =
      subst (λ (z : Report B). (o : OpenStart D) × (find_open job z.number v.orders ≡ Some o) × Says job inner lower o z) (is r q) (
        a.0,
        a.1,
        at_wait j refs spawned a.2.next a.2.spawns (own_told (Met job inner lower a.0) spawned)
            (λ clear. (refl, (record { names = holds; mark = mark }, a.2.frozen, refl, refl), refl)),
      )
    where
      is : (r : Report B) → report_of job inner lower (saved k j mark refs holds spawned) ≡ Some r
          → record { number = k; spawned = map lower spawned; end = stopped j mark (low_names job refs) (low_names job holds) } ≡ r
      is r q = cc
