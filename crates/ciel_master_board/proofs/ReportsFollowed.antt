-- A report that says what the job does is an event that the state follows, or it is refused as the job is.
use Rattle.std.proofs.Common.{◌≡◌, ℕ, List, [], ◌∷◌, ◌++◌, map, false, Some, refl, ap, sym, ◌∙◌, subst, arith}
use Rattle.std.specs.List.{AllByRecursion}
use Rattle.std.proofs.lemmas.List.{length-map, map-append}
use Rattle.sky_base.specs.Name.{canon, digested}
use Rattle.sky_base.specs.ObjectView.{desc_view}
use Rattle.sky_base.specs.Val.{Desc}
use Rattle.sky_base.specs.declared.object.Named.{Named}
use Rattle.ciel_journal.specs.History.{Event, OpenStart, Standing, after, done, saved, standing}
use Rattle.ciel_journal.specs.Job.{Digest, Each}
use Rattle.ciel_journal.specs.Lawful.{Allowed, DoneAllowed, NoClash, SavedAllowed}
use Rattle.ciel_journal.specs.Segment as segment
use Rattle.ciel_journal.proofs.Good.{after_done, after_saved}
use Rattle.ciel_journal.proofs.Unique.{same_found}
use Rattle.ciel_journal_job.specs.Report as r
use Rattle.ciel_journal_job.proofs.ReportLemmas as reporting
use Rattle.ciel_table.specs.Seen.{TableSeen}
use Rattle.ciel_table.specs.declared.refusal.Learn.{Learn}
use Rattle.ciel_table.specs.declared.row.Row.{Row}
use Rattle.ciel_master_board.specs.Board.{Board, Order}
use Rattle.ciel_master_board.specs.Follows.{Follows}
use Rattle.ciel_master_board.specs.Laws.{AcceptedAs, ClashIs, Lies, LiesUnlessClash, OverflowIs, Taken}
use Rattle.ciel_master_board.specs.Reports as rep
use Rattle.ciel_master_board.specs.Reports.{AllLearned, Copy, End, FirstRefused, IsNamed, Output, Stack, learned_all, named_view, report_view}
use Rattle.ciel_master_board.specs.Setting.{IsSetting, Setting}
use Rattle.ciel_master_board.specs.Sound.{EndFits, Sound}
use Rattle.ciel_master_board.proofs.EventsFollowed.{IsDone, IsSaved, done_follows, read_done, read_saved, room_all, rows_named, saved_follows}
use Rattle.ciel_master_board.proofs.LearnedNames.{RowNamed, clash, full, grown, in_rows, learns, named_all, new_name, view_in, views, views_are}

each_front : {A : Type 0} (Q : A → Type 0) (xs ys : List A) (y : A) → Each Q (xs ++ y ∷ ys) → Each Q xs × Q y
each_front Q [] ys y e = (tt, e.0)
each_front Q (x ∷ xs) ys y e = let r = each_front Q xs ys y e.1 in ((e.0, r.0), r.1)

module _ {D P B : Type 0} (s : Setting D P B) (is : IsSetting s) (h : List (Event D)) (b : Board P) (sound : Sound s.digest s.at b)
    (f : Follows s h b) where
  abbrev v : Standing D
  v = standing s.job h

  abbrev tag : Desc (List ℕ) → Digest
  tag = digested s.digest

  book_views : views b.table.rows ≡ map s.lower v.book
  book_views = views_are s v.places v.book b.table.rows f.stands.rows

  book_learns : (ns : List Named) → Each (IsNamed s.digest) ns → AllLearned s.digest ns b.table
      → r.Learns tag (map s.lower v.book) (map named_view ns) (views (learned_all s.digest ns b.table).rows)
  book_learns ns named all =
      subst (λ zs. r.Learns tag zs (map named_view ns) (views (learned_all s.digest ns b.table).rows)) book_views
      (learns s.digest ns b.table (rows_named s is h b sound f) named all)

  module _ (x : Order P) (o : OpenStart D) (k : ℕ) (spawned : List Named) (end : End P) (taken : Taken s h b x o k spawned end) where
    abbrev after_table : TableSeen P
    after_table = learned_all s.digest spawned b.table

    -- an event that is allowed, which the report tells
    record Told (ev : Event D) (e : End P) : Type 0 where
      pub report : r.report_of s.job s.inner s.lower ev ≡ Some (report_view k spawned e)
      pub allowed : Allowed s.job b.plan v ev
      pub apart : NoClash s.job (after s.job v ev).book
      pub book : views after_table.rows ≡ map s.lower (after s.job v ev).book
      pub lies : Lies s o e

    told : (r.IsMissing (report_view k spawned end).end → ⊥) → AllLearned s.digest spawned b.table → LiesUnlessClash s h b.plan o k spawned end
        → (ev : Event D) × Told ev end
    told none all lies =
        let t = reporting.allowed s.job is.laws s.inner is.knows s.lower tag is.exact b.plan h f.lawful o (report_view k spawned end)
        taken.is_open (views after_table.rows) (book_learns spawned taken.fits.named all) taken.says none in
        (t.0, record { report = t.1; allowed = t.2; apart = t.3; book = t.4; lies = lies t.0 t.1 t.2 t.3 })

    module _ (going : b.stopped ≡ false) (all : AllLearned s.digest spawned b.table) where
      saved_event : (q : Stack P) → end ≡ rep.saved q → (ev : Event D) → Told ev (rep.saved q) → AcceptedAs s h b x.out k spawned (rep.saved q)
      saved_event q is_end ev t = turn (read_saved s k spawned q ev t.report)
        where
          turn : IsSaved s k q ev → AcceptedAs s h b x.out k spawned (rep.saved q)
          turn w =
              let t2 : Told (saved k q.j q.mark w.refs w.holds w.spawned) (rep.saved q) = subst (λ z. Told z (rep.saved q)) w.is t in
              let a = t2.allowed in
              let same = same_found s.job is.laws v k a.0 o a.1 taken.is_open in
              let now = after_saved s.job is.laws v k q.j q.mark w.refs w.holds w.spawned o taken.is_open in
              let fits = subst (λ z. EndFits s.digest s.at x after_table z) is_end (taken.fits.learned all).end in
              record {
                event = saved k q.j q.mark w.refs w.holds w.spawned;
                tells = t2.report;
                follows = saved_follows s is h b sound f x o k spawned end taken all q is_end w.refs w.holds w.spawned w.refs_are w.holds_are
                    (subst (λ z. SavedAllowed s.job z q.j q.mark w.refs w.holds w.spawned) same a.2)
                    (subst (λ (u : Standing D). NoClash s.job u.book) now t2.apart) (t2.book ∙ ap (λ (u : Standing D). map s.lower u.book) now)
                    t2.lies fits.here going;
              }

      done_event : (ms : List (Output P)) (cs : List (Copy P)) → end ≡ rep.made ms cs → (ev : Event D) → Told ev (rep.made ms cs)
          → AcceptedAs s h b x.out k spawned (rep.made ms cs)
      done_event ms cs is_end ev t = turn (read_done s k spawned ms cs ev t.report)
        where
          turn : IsDone s k ms cs ev → AcceptedAs s h b x.out k spawned (rep.made ms cs)
          turn w =
              let t2 : Told (done k w.made w.copied w.spawned) (rep.made ms cs) = subst (λ z. Told z (rep.made ms cs)) w.is t in
              let a = t2.allowed in
              let same = same_found s.job is.laws v k a.0 o a.1 taken.is_open in
              let now = after_done s.job is.laws v k w.made w.copied w.spawned o taken.is_open in
              let fits = subst (λ z. EndFits s.digest s.at x after_table z) is_end (taken.fits.learned all).end in
              record {
                event = done k w.made w.copied w.spawned;
                tells = t2.report;
                follows = done_follows s is h b sound f x o k spawned end taken all ms cs w.made w.copied w.spawned w.made_are w.copied_are
                    (subst (λ z. DoneAllowed s.job z w.made w.copied w.spawned) same a.2)
                    (subst (λ (u : Standing D). NoClash s.job u.book) now t2.apart) (t2.book ∙ ap (λ (u : Standing D). map s.lower u.book) now)
                    t2.lies.0 t2.lies.1 fits.0 fits.1 going;
              }

      pub report_follows : (r.IsMissing (report_view k spawned end).end → ⊥) → LiesUnlessClash s h b.plan o k spawned end
          → AcceptedAs s h b x.out k spawned end
      report_follows none lies = pick end refl none (told none all lies)
        where
          pick : (e : End P) → end ≡ e → (r.IsMissing (report_view k spawned e).end → ⊥) → ((ev : Event D) × Told ev end)
              → AcceptedAs s h b x.out k spawned end
          pick (rep.missing name loss) g n t = absurd (n tt)
          pick (rep.saved q) g n t =
              subst (λ z. AcceptedAs s h b x.out k spawned z) (sym g) (saved_event q g t.0 (subst (Told t.0) g t.1))
          pick (rep.made ms cs) g n t =
              subst (λ z. AcceptedAs s h b x.out k spawned z) (sym g) (done_event ms cs g t.0 (subst (Told t.0) g t.1))

    -- ---- what is refused

    module _ (given : Named) (why : Learn) (w : FirstRefused s.digest spawned b.table given why) where
      named_front : Each (IsNamed s.digest) w.before × IsNamed s.digest given
      named_front =
          each_front (IsNamed s.digest) w.before w.after given (subst (Each (IsNamed s.digest)) w.split taken.fits.named)

      abbrev then : TableSeen P
      then = learned_all s.digest w.before b.table

      named_then : AllByRecursion (RowNamed s.digest) then.rows
      named_then = named_all s.digest w.before b.table (rows_named s is h b sound f) named_front.0

      split : map named_view spawned ≡ map named_view w.before ++ named_view given ∷ map named_view w.after
      split = ap (map named_view) w.split ∙ map-append named_view w.before (given ∷ w.after)

    pub clash_follows : (given : Named) (kept bytes : List ℕ) → FirstRefused s.digest spawned b.table given (Learn.Clash kept bytes)
        → ClashIs s h kept bytes
    clash_follows given kept bytes w =
        let c = clash s.digest given (learned_all s.digest w.before b.table) kept bytes w.refused in
        let n = named_front given (Learn.Clash kept bytes) w in
        let row = in_rows s.digest (learned_all s.digest w.before b.table).rows (named_then given (Learn.Clash kept bytes) w) c.row c.there in
        let t = reporting.clash s.job is.laws s.inner is.knows s.lower tag is.exact b.plan h f.lawful o (report_view k spawned end) taken.is_open
        (map named_view w.before) (map named_view w.after) (views (learned_all s.digest w.before b.table).rows) (named_view given)
        (split given (Learn.Clash kept bytes) w) (book_learns w.before n.0 w.learned) taken.says (desc_view c.row.desc)
        (view_in c.row (learned_all s.digest w.before b.table).rows c.there) (sym row.name ∙ (c.name ∙ n.1.name)) c.other in
        record { first = t.0; second = t.1; is_kept = ap canon t.2 ∙ c.kept_is; is_given = ap canon t.3 ∙ c.given_is; clashes = t.4 }

    pub overflow_follows : (given : Named) (held : ℕ) → FirstRefused s.digest spawned b.table given (Learn.Full held) → (held ≡ b.plan.limit)
        × OverflowIs s h held given
    overflow_follows given held w =
        let c = full s.digest given (learned_all s.digest w.before b.table) held w.refused in
        let n = named_front given (Learn.Full held) w in
        let t = reporting.overflow s.job is.laws s.inner is.knows s.lower tag is.exact b.plan h f.lawful o (report_view k spawned end)
        taken.is_open (map named_view w.before) (map named_view w.after) (views (learned_all s.digest w.before b.table).rows)
        (named_view given) (split given (Learn.Full held) w) (book_learns w.before n.0 w.learned) taken.says
        (new_name s.digest given (learned_all s.digest w.before b.table) (named_then given (Learn.Full held) w) n.1 c.new) in
        let g = grown s.digest w.before b.table in
        let l = room_all s.digest w.before b.table w.learned sound.room in
        let m = c.full in
        let z = g.limit in
        let y = sound.limit in
        let u = c.held_is in
        let long = length-map (learned_all s.digest w.before b.table).rows (λ (row : Row P). desc_view row.desc) ∙ sym c.held_is in
        (omega (arith, l, m, z, y, u), record { next = t.0; is_given = t.1; overflows = subst (λ i. segment.Overflows s.job v i t.0) long t.2 })
