-- Where no name stands for two descriptions of the book after an event that a report tells, nothing that is made clashes.
use Rattle.std.proofs.Common.{◌≡◌, ℕ, List, [], ◌∷◌, Some, None, inl, inr, refl, sym, ap, subst, ◌∙◌}
use Rattle.ciel_journal.specs.Job.{Digest, Job, In, IsJob, made_before}
use Rattle.ciel_journal.specs.History.{Event, OpenStart, Plan, Standing, after, done, find_open, learned, lost, missed, saved, standing, start}
use Rattle.ciel_journal.specs.Known.{Inner, Knows}
use Rattle.ciel_journal.specs.Lawful.{Allowed, DoneAllowed, FetchedFrom, Given, HeldAt, Lawful, NoClash, SavedAllowed, SpawnedTo}
use Rattle.ciel_journal.proofs.BookKnown.{Informed, OrderKnown, informed_all, informed_start, learned_has, live_carried}
use Rattle.ciel_journal.proofs.Good.{after_done, after_saved}
use Rattle.ciel_journal.proofs.Members.{each_of}
use Rattle.ciel_journal.proofs.Next.{not_end, one_wait}
use Rattle.ciel_journal.proofs.Numbers.{found_in}
use Rattle.ciel_journal.proofs.Shelved.{fetched_in, learned_in}
use Rattle.ciel_journal.proofs.Unique.{spawned_end_unique, spawned_to_unique}
use Rattle.ciel_journal_job.specs.Report as report
use Rattle.ciel_journal_job.specs.Report.{Clear, ClashAmong, IsMissing, Met, Or, Report, at_first, brought, held_then, made_then, report_of}
use Rattle.ciel_task_inputs.specs.JournalWalksLaws.{SaysAnd, to_end, to_wait}

module _ {D B : Type 0} (job : Job D) (laws : IsJob job) (inner : Inner D) (knows : Knows job inner) (lower : D → B) (p : Plan)
    (h : List (Event D)) (lawful : Lawful job p h) where
  abbrev v : Standing D
  v = standing job h

  abbrev Booked : D → Type 0
  Booked d = In d v.book

  pub informed : Informed job laws inner knows v
  informed = informed_all job laws inner knows p _ h (informed_start job laws inner knows) lawful

  module _ (k : ℕ) (o : OpenStart D) (opened : find_open job k v.orders ≡ Some o) where
    order : In o v.orders
    order = (found_in job laws k v.orders o opened).0

    known : OrderKnown job laws inner knows v.book o
    known = informed.orders o order

    -- what the task holds at the order's wait stands in the book, and so does what it met
    pub held_booked : (d : D) → HeldAt job o.task o.from d → Booked d
    held_booked d x = each_of Booked d x.1.names x.3 (knows.holds_told v.book o.task o.from known.here.0 x.1 known.told known.here.1 (x.0, x.2))

    pub fetched_booked : (d : D) (w : ℕ) → FetchedFrom job o d w → Booked d
    fetched_booked d w f = fetched_in job laws v informed.shelved o order d w f

    pub met_booked : (d : D) → Met job inner lower o d → Booked d
    met_booked d (made_then n l i) = each_of Booked d (made_before o.from (job.acts n o.task)) i (known.told.makes n l)
    met_booked d (at_first (held_then x)) = held_booked d x
    met_booked d (at_first (brought e n g i)) = live_carried job laws inner knows v.book o known e g.1 n d i

    -- what is made is clear where it stands in a book beside that in which no two share a name
    clear_of : (L : List D) → NoClash job L → (met : D → Type 0) (ds : List D) → ((d : D) → met d → In d L) → ((d : D) → In d ds → In d L)
        → Clear job inner lower met ds
    clear_of L apart met [] f g = tt
    clear_of L apart met (d ∷ ds) f g = (none, clear_of L apart (Or job inner lower met d) ds more (λ e i. g e (inr i)))
      where
        none : ClashAmong job inner lower met d → ⊥
        none (e, m, same, other) = other (apart e d (f e m) (g d (inl refl)) same)

        more : (e : D) → Or job inner lower met d e → In e L
        more e (inl q) = subst (λ x. In x L) (sym q) (g d (inl refl))
        more e (inr m) = f e m

    clear : (ds : List D) → NoClash job (learned job v.book ds) → Clear job inner lower (Met job inner lower o) ds
    clear ds apart =
        clear_of (learned job v.book ds) apart (Met job inner lower o) ds (λ d m. learned_in job laws v.book ds d (met_booked d m))
        (λ d i. learned_has job laws v.book ds d i)

    some_is : (a b : OpenStart D) → Some a ≡ Some b → a ≡ b
    some_is a b e = cc

    module _ (r : Report B) (Q : Type 0) (number : r.number ≡ k) (there : IsMissing r.end → ⊥) where
      same_order : (n : ℕ) (x : OpenStart D) → n ≡ k → find_open job n v.orders ≡ Some x → x ≡ o
      same_order n x e f = some_is x o (sym f ∙ ap (λ m. find_open job m v.orders) e ∙ opened)

      from_done : (n : ℕ) (objects : List (D × Digest)) (copied spawned : List D) → n ≡ k → (find_open job n v.orders ≡ Some o)
          → DoneAllowed job o objects copied spawned → NoClash job (after job v (done n objects copied spawned)).book
          → SaysAnd job inner lower o r Q → Q
      from_done n objects copied spawned e f a apart (to_end ds nx sp tl g) =
          let same : ds ≡ spawned = spawned_end_unique job laws o ds spawned sp a.spawns in
          let book : (after job v (done n objects copied spawned)).book ≡ learned job v.book spawned =
          ap (λ (z : Standing D). z.book) (after_done job laws v n objects copied spawned o f) in
          (g (clear ds (subst (λ z. NoClash job (learned job v.book z)) (sym same) (subst (NoClash job) book apart)))).1
      from_done n objects copied spawned e f a apart (to_wait i rs ds nx sp tl g) =
          absurd (not_end job laws (Given job o) o.task o.from i rs a.next nx)

      from_saved : (n j : ℕ) (mark : Digest) (refs holds spawned : List D) → n ≡ k → (find_open job n v.orders ≡ Some o)
          → SavedAllowed job o j mark refs holds spawned → NoClash job (after job v (saved n j mark refs holds spawned)).book
          → SaysAnd job inner lower o r Q → Q
      from_saved n j mark refs holds spawned e f a apart (to_end ds nx sp tl g) =
          absurd (not_end job laws (Given job o) o.task o.from j refs nx a.next)
      from_saved n j mark refs holds spawned e f a apart (to_wait i rs ds nx sp tl g) =
          let at : j ≡ i = one_wait job laws (Given job o) o.task o.from j i refs rs a.next nx in
          let same : ds ≡ spawned = spawned_to_unique job laws o i ds spawned nx.later sp (subst (λ z. SpawnedTo job o z spawned) at a.spawns) in
          let book : (after job v (saved n j mark refs holds spawned)).book ≡ learned job v.book spawned =
          ap (λ (z : Standing D). z.book) (after_saved job laws v n j mark refs holds spawned o f) in
          (g (clear ds (subst (λ z. NoClash job (learned job v.book z)) (sym same) (subst (NoClash job) book apart)))).1

      report_is : (a b : Report B) → Some a ≡ Some b → a ≡ b
      report_is a b e = cc

      none_some : None ≡ Some r → ⊥
      none_some e = cc

      -- where an event that the report tells is allowed, and no name stands for two descriptions of the book then, it holds too
      pub truly : SaysAnd job inner lower o r Q → (e : Event D) → report_of job inner lower e ≡ Some r → Allowed job p v e
          → NoClash job (after job v e).book → Q
      truly says (start n w t from) q a apart = absurd (none_some q)
      truly says (lost w n) q a apart = absurd (none_some q)
      truly says (missed n d loss) q a apart =
          let end : report.missing (job.name d) loss ≡ r.end = ap (λ (z : Report B). z.end) (report_is _ r q) in
          absurd (there (subst IsMissing end tt))
      truly says (done n objects copied spawned) q a apart =
          let e : n ≡ k = ap (λ (z : Report B). z.number) (report_is _ r q) ∙ number in
          let is : a.0 ≡ o = same_order n a.0 e a.1 in
          from_done n objects copied spawned e (a.1 ∙ ap Some is) (subst (λ x. DoneAllowed job x objects copied spawned) is a.2) apart says
      truly says (saved n j mark refs holds spawned) q a apart =
          let e : n ≡ k = ap (λ (z : Report B). z.number) (report_is _ r q) ∙ number in
          let is : a.0 ≡ o = same_order n a.0 e a.1 in
          from_saved n j mark refs holds spawned e (a.1 ∙ ap Some is) (subst (λ x. SavedAllowed job x j mark refs holds spawned) is a.2) apart says
