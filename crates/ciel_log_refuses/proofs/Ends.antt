-- A record that is refused is no report with which the run ends.
use Rattle.std.proofs.Common.{◌≡◌, ◌<◌, ◌≤◌, ℕ, List, [], ◌∷◌, ◌++◌, map, Some, slice_get, arith, ◌⊎◌, inl, inr, refl, ap, sym, ◌∙◌, subst}
use Rattle.sky_base.specs.Tree.{Script}
use Rattle.ciel_journal.specs.Entries.{Entry}
use Rattle.ciel_journal.specs.Turns.{FirstDue}
use Rattle.ciel_log_file.specs.Refused as refused
use Rattle.ciel_log_file.specs.Refused.{RefusedNow}
use Rattle.ciel_log_file.specs.Replays.{At, EndsSo, LosesDue}
use Rattle.ciel_log_file.specs.Sending.{Placed}
use Rattle.ciel_log_follows.proofs.Steps.{not_started}
use Rattle.ciel_log_read.specs.Recorded as read
use Rattle.ciel_log_read.specs.Recorded.{dropped, started}
use Rattle.ciel_log_read.specs.View.{report_view}
use Rattle.ciel_log_read.specs.declared.record.LoggedReport.{LoggedReport}
use Rattle.ciel_log_read.proofs.Records.{one_record}
use Rattle.ciel_log_refuses.specs.Refusals.{RefusedEndNothing}
use Rattle.ciel_log_refuses.proofs.Fits.{report_passes}
use Rattle.ciel_log_refuses.proofs.Views.{same_passes}
use Rattle.ciel_log_replay.specs.Steps as steps
use Rattle.ciel_log_replay.specs.Steps.{LostBy, while_out}
use Rattle.ciel_log_report.specs.Comes.{EndsWith, ReportIs}
use Rattle.ciel_log_report.specs.Tests.{ReportPasses, ReportRefused}
use Rattle.ciel_master.specs.declared.stop.RunEnd.{RunEnd}
use Rattle.ciel_master_board.specs.Board.{Board}
use Rattle.ciel_master_board.specs.Driving.{Quiet, RestsNow}
use Rattle.ciel_master_board.specs.Moves.{lost_at}
use Rattle.ciel_master_law.specs.Ends.{worker_of}
use Rattle.ciel_store.specs.Seen.{ShelvesSeen}
use Rattle.ciel_task_crew.specs.Crews.{order_at}
use Rattle.ciel_task_order.specs.Views.{P}
use Rattle.ciel_task_order.specs.declared.order.Order.{Order}
use Rattle.ciel_task_order.specs.declared.report.Report.{Report}

-- ---- the losses that are due lead to one state

abbrev Due : Board P → ℕ → ℕ → Type 0
Due b loss w = FirstDue b.plan.losses b.closes b.table.gone loss w

-- there are none, or one comes first
record First (b c : Board P) (es : List Entry) : Type 0 where
  pub loss : ℕ
  pub worker : ℕ
  pub due : Due b loss worker
  pub rest : List Entry
  pub is : es ≡ Entry.Lost worker b.closes ∷ rest
  pub more : LostBy (lost_at worker_of worker b) rest c

abbrev IsOver : Board P → Board P → List Entry → Type 0
IsOver b c es = (es ≡ []) × (c ≡ b)

first_of : {b c : Board P} {es : List Entry} → LostBy b es c → IsOver b c es ⊎ First b c es
first_of steps.stays = inl (refl, refl)
first_of (steps.loses {b} {c = d} {es} loss w l due) = pick (first_of l)
  where
    pick : (((es ≡ []) × (d ≡ b)) ⊎ First b d es) → ((es ++ Entry.Lost w d.closes ∷ [] ≡ []) × (lost_at worker_of w d ≡ b))
        ⊎ First b (lost_at worker_of w d) (es ++ Entry.Lost w d.closes ∷ [])
    pick (inl q) =
        inr (record {
          loss = loss;
          worker = w;
          due = subst (λ z. Due z loss w) q.1 due;
          rest = [];
          is = ap (λ zs. zs ++ Entry.Lost w d.closes ∷ []) q.0 ∙ ap (λ (z : Board P). Entry.Lost w z.closes ∷ []) q.1;
          more = subst (λ z. LostBy (lost_at worker_of w b) [] (lost_at worker_of w z)) (sym q.1) steps.stays;
        })
    pick (inr f) =
        inr (record {
          loss = f.loss;
          worker = f.worker;
          due = f.due;
          rest = f.rest ++ Entry.Lost w d.closes ∷ [];
          is = ap (λ zs. zs ++ Entry.Lost w d.closes ∷ []) f.is;
          more = steps.loses loss w f.more due;
        })

none_due : (b : Board P) (loss w : ℕ) → Quiet b → Due b loss w → ⊥
none_due b loss w q d = q loss d.count w d.due

-- the first one that is due is one
first_worker : (losses : List (ℕ × ℕ)) (closes : ℕ) (gone : List ℕ) (i j w u : ℕ) → FirstDue losses closes gone i w → FirstDue losses closes gone j u
    → w ≡ u
first_worker losses closes gone i j w u x y = pick (x.least j y.count u y.due) (y.least i x.count w x.due)
  where
    some_worker : (x y : ℕ × ℕ) → Some x ≡ Some y → x.1 ≡ y.1
    some_worker x y e = let same : x ≡ y = cc in ap (λ (z : ℕ × ℕ). z.1) same

    at : i ≡ j → w ≡ u
    at e =
        some_worker (x.count, w) (y.count, u)
        (sym (subst (λ l. slice_get losses l ≡ Some (x.count, w)) e x.due.planned) ∙ y.due.planned)

    pick : ((x.count < y.count) ⊎ ((x.count ≡ y.count) × (i ≤ j))) → ((y.count < x.count) ⊎ ((y.count ≡ x.count) × (j ≤ i))) → w ≡ u
    pick (inl a) (inl b) = absurd (omega (arith, a, b))
    pick (inl a) (inr b) = let c = b.0 in absurd (omega (arith, a, c))
    pick (inr a) (inl b) = let c = a.0 in absurd (omega (arith, b, c))
    pick (inr a) (inr b) = let c = a.1 in let d = b.1 in at (omega (arith, c, d))

one_due : (b : Board P) (i j w u : ℕ) → Due b i w → Due b j u → w ≡ u
one_due b i j w u x y = first_worker b.plan.losses b.closes b.table.gone i j w u x y

same_rest : (x y : Entry) (ys zs : List Entry) → x ∷ ys ≡ y ∷ zs → zs ≡ ys
same_rest x y ys zs e = cc

one_state : (es xs : List Entry) (b c d : Board P) → LostBy b es c → LostBy b xs d → Quiet c → Quiet d → c ≡ d
one_state [] xs b c d l k q r = pick (first_of l) (first_of k)
  where
    pick : IsOver b c [] ⊎ First b c [] → IsOver b d xs ⊎ First b d xs → c ≡ d
    pick (inl x) (inl y) = x.1 ∙ sym y.1
    pick (inl x) (inr f) = absurd (none_due b f.loss f.worker (subst Quiet x.1 q) f.due)
    pick (inr f) y = let bad = f.is in cc
one_state (e ∷ es) xs b c d l k q r = pick (first_of l) (first_of k) (λ ys z m n. one_state es ys z c d m n q r)
  where
    pick : IsOver b c (e ∷ es) ⊎ First b c (e ∷ es) → IsOver b d xs ⊎ First b d xs
        → ((ys : List Entry) (z : Board P) → LostBy z es c → LostBy z ys d → c ≡ d) → c ≡ d
    pick (inl x) y again = let bad = x.0 in cc
    pick (inr f) (inl y) again = absurd (none_due b f.loss f.worker (subst Quiet y.1 r) f.due)
    pick (inr f) (inr g) again =
        let same : f.worker ≡ g.worker = one_due b f.loss g.loss f.worker g.worker f.due g.due in
        let tail : f.rest ≡ es = same_rest e (Entry.Lost f.worker b.closes) es f.rest f.is in
        again g.rest (lost_at worker_of f.worker b) (subst (λ zs. LostBy (lost_at worker_of f.worker b) zs c) tail f.more)
        (subst (λ z. LostBy (lost_at worker_of z b) g.rest d) (sym same) g.more)

one_at : (b c : At) → b.board ≡ c.board → b.out ≡ c.out → b.kept ≡ c.kept → b ≡ c
one_at b c p q r =
    ap (λ z. record { board = z; out = b.out; kept = b.kept }) p
    ∙ (ap (λ z. record { board = c.board; out = z; kept = b.kept }) q ∙ ap (λ z. record { board = c.board; out = c.out; kept = z }) r)

one_losses : (a b c : At) → LosesDue a b → LosesDue a c → b ≡ c
one_losses a b c x y =
    let boards : b.board ≡ c.board = one_state x.entries y.entries a.board b.board c.board x.lost y.lost x.quiet y.quiet in
    one_at b c boards (x.listed ∙ (ap (λ z. map (while_out z) a.out) boards ∙ sym y.listed)) (x.kept ∙ sym y.kept)

-- ---- with no loss due

same_order : (x y : Order) → Some x ≡ Some y → x ≡ y
same_order x y e = cc

module _ (digest : List ℕ → List ℕ) (shelves : ShelvesSeen) (sc : Script) (b : At) (bytes : List ℕ) (placed : Placed b.out) where
  -- what is refused is no report that fits
  unfit : (logged other : LoggedReport) → report_view logged ≡ report_view other → ReportRefused digest sc b.board b.out b.kept logged
      → (worker : ℕ) (order : Order) (r : Report) → ReportIs digest shelves sc b.board b.out b.kept other worker order r → ⊥
  unfit logged other e fails worker order r is = pick fails.cause
    where
      numbers : fails.order.number ≡ order.number
      numbers = fails.number ∙ (number logged other e ∙ sym is.number)
        where
          number : (x y : LoggedReport) → report_view x ≡ report_view y → x.number ≡ y.number
          number x y e = cc

      workers : fails.worker ≡ worker
      workers = placed.apart fails.worker worker fails.order order fails.there is.there numbers

      same : fails.order ≡ order
      same = same_order fails.order order (sym fails.there ∙ (ap (order_at b.out) workers ∙ is.there))

      pick : ((RestsNow b.board → ⊥) ⊎ (ReportPasses digest sc b.board b.kept fails.order logged → ⊥)) → ⊥
      pick (inl early) = early is.rests
      pick (inr fails) =
          fails (subst (λ z. ReportPasses digest sc b.board b.kept z logged) (sym same)
          (same_passes digest sc b.board b.kept order other logged (sym e) (report_passes digest shelves sc b.board b.kept order other r is.is)))

  -- an end is that of a report that fits
  reported : (logged : LoggedReport) (end : RunEnd) (c : At) → EndsWith digest shelves sc b.board b.out b.kept logged end c.board c.out c.kept
      → (worker : ℕ) × (order : Order) × (r : Report) × ReportIs digest shelves sc b.board b.out b.kept logged worker order r
  reported logged (RunEnd.Answer text) c e = (e.1.worker, e.1.order, e.0, e.1.is)
  reported logged (RunEnd.Fault fault) c e = (e.1.worker, e.1.order, e.0, e.1.is)
  reported logged (RunEnd.NameClash kept given) c e = (e.worker, e.order, e.report, e.is)
  reported logged (RunEnd.TooMany held given) c e = (e.worker, e.order, e.report, e.is)
  reported logged (RunEnd.Endless names) c e = absurd e
  reported logged RunEnd.AllLost c e = absurd e
  reported logged RunEnd.Memory c e = absurd e

  no_end : RefusedNow digest sc b bytes → (end : RunEnd) (c : At) → EndsSo digest shelves sc b bytes end c → ⊥
  no_end (refused.no_record fails) end c e = fails (report_view e.logged) e.data_of e.bytes_of
  no_end (refused.no_start number worker from task readable q fails) end c e =
      not_started e.logged number worker from task
      (one_record (report_view e.logged) (started number worker from task) e.data_of readable (e.bytes_of ∙ sym q))
  no_end (refused.no_drop number readable q some) end c e =
      let same = one_record (report_view e.logged) (dropped number) e.data_of readable (e.bytes_of ∙ sym q) in cc
  no_end (refused.no_report logged readable q fails) end c e =
      let is = reported e.logged end c e.ends in
      unfit logged e.logged (one_record (report_view logged) (report_view e.logged) readable e.data_of (q ∙ sym e.bytes_of)) fails is.0 is.1 is.2 is.3

pub refused_end_nothing : RefusedEndNothing
refused_end_nothing digest shelves sc a bytes fails end c ends =
    no_end digest shelves sc fails.then bytes fails.placed fails.refused end c
    (subst (λ z. EndsSo digest shelves sc z bytes end c) (one_losses a ends.0 fails.then ends.1 fails.losses) ends.2)
