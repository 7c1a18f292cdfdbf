-- Of each output that the journal writes as made an object is kept.
use Rattle.std.proofs.Common.{◌≡◌, ℕ, List, [], ◌∷◌, ◌++◌, Bool, true, false, cond, map, Some, ◌⊎◌, inl, inr, ap, sym, ◌∙◌, subst}
use Rattle.std.specs.BTreeMap.{BTreeMap, get, is_at}
use Rattle.sky_base.specs.NameOrder.{name_cmp}
use Rattle.sky_base.specs.KitView.{Gives}
use Rattle.sky_base.specs.See as s
use Rattle.sky_base.specs.Tree.{Script}
use Rattle.sky_base.specs.Val.{same_text}
use Rattle.sky_base.specs.declared.object.Object.{Object}
use Rattle.sky_base.proofs.Exact.{self_text}
use Rattle.sky_base.proofs.NameTests.{same_test}
use Rattle.ciel_journal.specs.Entries.{Entry, journal_of, low, low_made, low_names}
use Rattle.ciel_journal.specs.History.{Event, done, names_of}
use Rattle.ciel_journal.specs.Job.{Digest, In, Job}
use Rattle.ciel_journal.proofs.Members.{bool_cases}
use Rattle.ciel_journal.proofs.Numbers.{in_last}
use Rattle.ciel_log_file.specs.Replays as rp
use Rattle.ciel_log_file.specs.Replays.{At, LosesDue, ReplaysRecords, TakesRecord}
use Rattle.ciel_log_fits.specs.Known.{AfterSeen}
use Rattle.ciel_log_model.specs.Laws.{KeepsMade}
use Rattle.ciel_log_objects.specs.Objects as put
use Rattle.ciel_log_objects.specs.Objects.{KeepsEach}
use Rattle.ciel_log_read.specs.declared.record.LoggedEnd.{LoggedEnd}
use Rattle.ciel_log_replay.specs.Steps as steps
use Rattle.ciel_log_replay.specs.Steps.{LostBy}
use Rattle.ciel_log_report.specs.Comes.{KeepsOutputs}
use Rattle.ciel_log_report.specs.Ends.{IsEndOf}
use Rattle.ciel_master_board.specs.Board.{Board}
use Rattle.ciel_master_board.specs.Moves.{accepted}
use Rattle.ciel_master_board.specs.Reports as rep
use Rattle.ciel_master_board.specs.Reports.{made_keys}
use Rattle.ciel_master_law.specs.Ends.{worker_of}
use Rattle.ciel_store.specs.Seen.{ShelvesSeen}
use Rattle.ciel_task_order.specs.Named.{shop_job}
use Rattle.ciel_task_order.specs.Views.{P, copies_view, how_view, out_view, output_view}
use Rattle.ciel_task_order.specs.declared.block.Held.{Held}
use Rattle.ciel_task_order.specs.declared.order.Order.{Order}
use Rattle.ciel_task_order.specs.declared.report.End.{End}
use Rattle.ciel_task_order.specs.declared.report.Made.{Made}
use Rattle.sky_base.specs.declared.object.Named.{Named}

abbrev pub Has : BTreeMap Digest Object → Digest → Type 0
Has kept n = (x : Object) × (get name_cmp kept n ≡ Some x)

abbrev pub AllKept : List Entry → BTreeMap Digest Object → Type 0
AllKept journal kept =
    (k : ℕ) (made : List (Digest × Digest)) (copied : List Digest) → In (Entry.Done k made copied) journal → (n m : Digest) → In (n, m) made → Has kept n

-- ---- objects that are kept besides

-- what was there stays, and this one is there
one_more : (a b : BTreeMap Digest Object) (n : Digest) (o : Object)
    → ((q : Digest) → get name_cmp b q ≡ cond (is_at (name_cmp n) q) (Some o) (get name_cmp a q)) → (q : Digest) → (q ≡ n) ⊎ Has a q → Has b q
one_more a b n o u q h = pick (bool_cases (same_text q n)) h
  where
    at : (t : Bool) → same_text q n ≡ t → get name_cmp b q ≡ cond t (Some o) (get name_cmp a q)
    at t same =
        u q ∙ (ap (λ c. cond c (Some o) (get name_cmp a q)) (same_test n q) ∙ ap (λ c. cond c (Some o) (get name_cmp a q)) same)

    pick : ((same_text q n ≡ true) ⊎ (same_text q n ≡ false)) → (q ≡ n) ⊎ Has a q → Has b q
    pick (inl t) h = (o, at true t)
    pick (inr f) (inr x) = (x.0, at false f ∙ x.1)
    pick (inr f) (inl e) = absurd (unlike e f)
      where
        unlike : q ≡ n → same_text q n ≡ false → ⊥
        unlike e f = let bad : true ≡ false = sym (subst (λ z. same_text q z ≡ true) e (self_text q)) ∙ f in cc

-- with those of a list
all_more : {ns : List Digest} {os : List Object} {a b : BTreeMap Digest Object} → KeepsEach ns os a b → (q : Digest) → In q ns ⊎ Has a q → Has b q
all_more put.none q (inl i) = absurd i
all_more put.none q (inr x) = x
all_more (put.one {n} {ns} {o} {os} {a} {b} {c} u more) q (inl (inl e)) = all_more more q (inr (one_more a b n o u.0 q (inl e)))
all_more (put.one {n} {ns} {o} {os} {a} {b} {c} u more) q (inl (inr i)) = all_more more q (inl i)
all_more (put.one {n} {ns} {o} {os} {a} {b} {c} u more) q (inr x) = all_more more q (inr (one_more a b n o u.0 q (inr x)))

-- ---- entries

-- with one that isn't a Done
abbrev NotDone : Entry → Type 0
NotDone e = (k : ℕ) (made : List (Digest × Digest)) (copied : List Digest) → Entry.Done k made copied ≡ e → ⊥

other_entry : (journal : List Entry) (e : Entry) (kept : BTreeMap Digest Object) → NotDone e → AllKept journal kept → AllKept (journal ++ e ∷ []) kept
other_entry journal e kept fails h k made copied i = pick (in_last (Entry.Done k made copied) journal e i)
  where
    pick : (In (Entry.Done k made copied) journal ⊎ (Entry.Done k made copied ≡ e)) → (n m : Digest) → In (n, m) made → Has kept n
    pick (inl j) = h k made copied j
    pick (inr q) = absurd (fails k made copied q)

-- with a Done
done_entry : (journal : List Entry) (l : ℕ) (made : List (Digest × Digest)) (copied : List Digest) (before kept : BTreeMap Digest Object)
    → ((n : Digest) → Has before n → Has kept n) → ((n m : Digest) → In (n, m) made → Has kept n) → AllKept journal before
    → AllKept (journal ++ Entry.Done l made copied ∷ []) kept
done_entry journal l made copied before kept stays new h k ms cs i = pick (in_last (Entry.Done k ms cs) journal (Entry.Done l made copied) i)
  where
    pick : (In (Entry.Done k ms cs) journal ⊎ (Entry.Done k ms cs ≡ Entry.Done l made copied)) → (n m : Digest) → In (n, m) ms → Has kept n
    pick (inl j) n m there = stays n (h k ms cs j n m there)
    pick (inr q) n m there = let same : ms ≡ made = cc in new n m (subst (In (n, m)) same there)

-- ---- losses and Starts

lost_kept : {b c : Board P} {es : List Entry} → LostBy b es c → (kept : BTreeMap Digest Object) → AllKept b.journal kept → AllKept c.journal kept
lost_kept steps.stays kept h = h
lost_kept (steps.loses {c = d} loss w l due) kept h =
    other_entry d.journal (Entry.Lost w d.closes) kept (λ k made copied e. cc) (lost_kept l kept h)

-- ---- a report

keys_in : (ms : List Made) (n m : Digest) → In (n, m) (made_keys (map output_view ms)) → In n (map (λ (z : Made). z.name) ms)
keys_in [] n m i = absurd i
keys_in (z ∷ ms) n m (inl e) = inl (ap (λ (p : Digest × Digest). p.0) e)
keys_in (z ∷ ms) n m (inr i) = inr (keys_in ms n m i)

module _ (digest : List ℕ → List ℕ) (shelves : ShelvesSeen) (sc : Script) (b : Board P) (order : Order) (kept keeps : BTreeMap Digest Object)
    (after_ : AfterSeen P) (names : List Digest) (spawned : List Named) (h : AllKept b.journal kept) where
  abbrev Then : List Held → End → Board P
  Then hs e = accepted digest worker_of b (out_view order) spawned (how_view hs e)

  end_kept : (end : LoggedEnd) (hs : List Held) (e : End) → IsEndOf order shelves sc after_ kept digest b end names hs e
      → KeepsOutputs digest order end kept keeps → AllKept (Then hs e).journal keeps
  end_kept (LoggedEnd.Made objects) hs e x k =
      subst (λ z. AllKept (Then hs z).journal keeps) (sym x.is)
      (done_entry b.journal order.number (made_keys (map output_view x.outputs.items)) (rep.copy_names (copies_view hs)) kept keeps
      (λ n y. all_more k n (inr y))
      (λ n m i. all_more k n (inl (subst (In n) x.made.named (keys_in x.outputs.items n m i)))) h)
  end_kept (LoggedEnd.Saved j bytes) hs e x k =
      subst (λ z. AllKept (Then hs z).journal keeps) (sym x.is)
      (subst (AllKept _) (sym k) (other_entry b.journal _ kept (λ l made copied q. cc) h))
  end_kept (LoggedEnd.Answer bytes) hs e x k =
      subst (λ z. AllKept (Then hs z).journal keeps) (sym x.is)
      (subst (AllKept _) (sym k) (done_entry b.journal order.number [] (rep.copy_names (copies_view hs)) kept kept (λ n y. y) (λ n m i. absurd i) h))
  end_kept (LoggedEnd.Fault fault) hs e x k =
      subst (λ z. AllKept (Then hs z).journal keeps) (sym x.is)
      (subst (AllKept _) (sym k) (done_entry b.journal order.number [] (rep.copy_names (copies_view hs)) kept kept (λ n y. y) (λ n m i. absurd i) h))
  end_kept (LoggedEnd.Missing name loss) hs e x k =
      subst (λ z. AllKept (Then hs z).journal keeps) (sym x.is)
      (subst (AllKept _) (sym k) (other_entry b.journal _ kept (λ l made copied q. cc) h))

-- ---- records

module _ (digest : List ℕ → List ℕ) (shelves : ShelvesSeen) (sc : Script) where
  one_taken : (b c : At) (bytes : List ℕ) → TakesRecord digest shelves sc b bytes c → AllKept b.board.journal b.kept → AllKept c.board.journal c.kept
  one_taken b c bytes (rp.starts number worker from task is e only made same) h =
      subst (λ (z : Board P). AllKept z.journal c.kept) (sym made.board)
      (subst (AllKept _) (sym same) (other_entry b.board.journal _ b.kept (λ k ms cs q. cc) h))
  one_taken b c bytes (rp.reports logged is e r goes k) h =
      subst (λ (z : Board P). AllKept z.journal c.kept) (sym k.board)
      (end_kept digest shelves sc b.board k.order b.kept c.kept (record { table = b.board.table; spawned = r.spawned.items }) logged.copied.items
      r.spawned.items h logged.end r.copied.items r.end k.is.is.end k.keeping)
  one_taken b c bytes (rp.passes logged is e none) h = h
  one_taken b c bytes (rp.drops number is e none) h = h

  pub losses_kept : (a b : At) → LosesDue a b → AllKept a.board.journal a.kept → AllKept b.board.journal b.kept
  losses_kept a b d h = subst (AllKept b.board.journal) (sym d.kept) (lost_kept d.lost a.kept h)

  pub replays_kept : {a c : At} {records : List (List ℕ)} → ReplaysRecords digest shelves sc a records c → AllKept a.board.journal a.kept
      → AllKept c.board.journal c.kept
  replays_kept rp.over h = h
  replays_kept (rp.takes {a} {c} {d} {bytes} t rest) h = replays_kept rest (one_taken t.0 c bytes t.2 (losses_kept a t.0 t.1 h))

-- ---- a history's

module _ (digest : List ℕ → List ℕ) (job : s.Job) (gives : Gives) where
  abbrev J : Job s.Desc
  J = shop_job digest job gives

  in_journal : (e : Event s.Desc) (h : List (Event s.Desc)) → In e h → In (low J e) (journal_of J h)
  in_journal e [] i = absurd i
  in_journal e (x ∷ h) (inl q) = inl (ap (low J) q)
  in_journal e (x ∷ h) (inr i) = inr (in_journal e h i)

  low_in : (made : List (s.Desc × Digest)) (d : s.Desc) → In d (names_of made) → (m : Digest) × In (J.name d, m) (low_made J made)
  low_in [] d i = absurd i
  low_in (x ∷ xs) d (inl e) = (x.1, inl (ap (λ z. (J.name z, x.1)) e))
  low_in (x ∷ xs) d (inr i) = let q = low_in xs d i in (q.0, inr q.1)

  pub made_kept : (h : List (Event s.Desc)) (journal : List Entry) (kept : BTreeMap Digest Object) → journal ≡ journal_of J h
      → AllKept journal kept → KeepsMade digest job gives h kept
  made_kept h journal kept e k number made copied spawned i d there =
      let q = low_in made d there in
      k number (low_made J made) (low_names J copied)
      (subst (In (Entry.Done number (low_made J made) (low_names J copied))) (sym e) (in_journal (done number made copied spawned) h i))
      (J.name d) q.0 q.1
