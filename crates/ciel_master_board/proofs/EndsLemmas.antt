-- How runs end, and the jobs whose runs end in an answer.
use Rattle.std.proofs.Common.{◌≡◌, ◌≢◌, ℕ, ◌<◌, List, [], ◌∷◌, ◌++◌, length, Bool, true, false, cond, nat_eq, nat_lt, eqb-true, Option, Some, None}
use Rattle.std.proofs.Common.{Ok, Err, ◌⊎◌, inl, inr, refl, ap, sym, ◌∙◌, subst, arith}
use Rattle.std.specs.List.{IsDistinct, list_any}
use Rattle.sky_base.specs.Name.{canon}
use Rattle.sky_base.specs.ObjectView.{desc_view}
use Rattle.sky_base.specs.Val.{same_text}
use Rattle.sky_base.specs.declared.object.Named.{Named}
use Rattle.sky_base.proofs.Exact.{self_text}
use Rattle.ciel_journal.specs.Entries.{Entry, journal_of, low}
use Rattle.ciel_journal.specs.History.{Event, Plan, Standing, after, before_all, learned, lost, standing}
use Rattle.ciel_journal.specs.Job.{Digest, Each, In, Job, Once}
use Rattle.ciel_journal.specs.Journals.{CircleOf, WorkerLost}
use Rattle.ciel_journal.specs.Lawful.{Lawful, LawfulFrom}
use Rattle.ciel_journal.specs.Segment.{MadeNext}
use Rattle.ciel_journal.specs.Turns.{Driven, DrivenFrom}
use Rattle.ciel_journal.proofs.BookKnown.{learned_from}
use Rattle.ciel_journal.proofs.ByName.{never_named}
use Rattle.ciel_journal.proofs.Ends.{gone_told}
use Rattle.ciel_journal.proofs.Members.{any_in, bool_cases, distinct_more, distinct_none, fewer, in_any}
use Rattle.ciel_journal.proofs.Numbers.{in_left, last_in}
use Rattle.ciel_journal.proofs.OnceLaw.{once_learned}
use Rattle.ciel_journal.proofs.Splits.{made_after_in}
use Rattle.ciel_journal.proofs.Told.{book_told}
use Rattle.ciel_journal.proofs.Traced.{Traced, traced}
use Rattle.ciel_journal.specs.Live.{spawned_of}
use Rattle.ciel_table.specs.Learning.{kept_bytes, learn_answer, learn_at}
use Rattle.ciel_table.specs.Seen.{TableSeen, find}
use Rattle.ciel_table.specs.declared.refusal.Learn.{Learn}
use Rattle.ciel_master_board.specs.Board.{Board, Order}
use Rattle.ciel_master_board.specs.Driving.{Runs}
use Rattle.ciel_master_board.specs.Reports.{End, FirstRefused, learned_all}
use Rattle.ciel_master_board.specs.Setting.{IsSetting, Setting}
use Rattle.ciel_master_board.specs.Sound.{Sound}
use Rattle.ciel_master_board.proofs.ReportsFollowed.{clash_follows, overflow_follows}
use Rattle.ciel_master_board.specs.Handed.{IsLost}
use Rattle.ciel_master_board.specs.Ends.{AllAreLost, ClashOf, Modest, OverflowOf}
use Rattle.ciel_master_board.specs.TurnsLaws.{IsOut, Promised}
use Rattle.ciel_master_board.proofs.TurnEvents.{promised_taken}

-- bytes that clash differ
clash_differ : {P : Type 0} (n : Named) (t : TableSeen P) (kept given : List ℕ) → learn_answer n t ≡ Err (Learn.Clash kept given) → kept ≢ given
clash_differ n t kept given e same = pick (find n.name t) e
  where
    held : (b : Bool) (i : ℕ) (x y : List ℕ) → same_text x y ≡ b → cond b (Ok i) (Err (Learn.Clash x y)) ≡ Err (Learn.Clash kept given) → ⊥
    held true i x y q h = cc
    held false i x y q h =
        let a : x ≡ kept = cc in
        let c : y ≡ given = cc in
        equal (subst (λ z. same_text x z ≡ false) (c ∙ (sym same ∙ sym a)) q)
      where
        equal : same_text x x ≡ false → ⊥
        equal r = let bad : true ≡ false = sym (self_text x) ∙ r in cc

    new : (b : Bool) (k : ℕ) → cond b (Ok k) (Err (Learn.Full k)) ≡ Err (Learn.Clash kept given) → ⊥
    new true k h = cc
    new false k h = cc

    pick : (o : Option ℕ) → learn_at o n t ≡ Err (Learn.Clash kept given) → ⊥
    pick None h = new (nat_lt (length t.rows) t.limit) (length t.rows) h
    pick (Some i) h =
        held (same_text (kept_bytes n.name t) (canon (desc_view n.desc))) i (kept_bytes n.name t) (canon (desc_view n.desc)) refl h

drive_law : {D : Type 0} (job : Job D) (p : Plan) (v : Standing D) (h : List (Event D)) → DrivenFrom job p v h → LawfulFrom job p v h
drive_law job p v [] d = tt
drive_law job p v (e ∷ es) d = (d.0, drive_law job p (after job v e) es d.2)

module _ {D P B : Type 0} (s : Setting D P B) (is : IsSetting s) where
  module _ (h : List (Event D)) (b : Board P) (sound : Sound s.digest s.at b) (runs : Runs s h b) (x : Order P) (out : IsOut s h b x)
      (spawned : List Named) (end : End P) (p : Promised s h b x spawned end) where
    pub clash_ends : (n : Named) (kept given : List ℕ) → FirstRefused s.digest spawned b.table n (Learn.Clash kept given)
        → ClashOf s b.plan b.journal kept given
    clash_ends n kept given r =
        let c = clash_follows s is h b sound runs.follows x out.start x.out.number spawned end
        (promised_taken s h b x out spawned end p) n kept given r in
        record {
          history = h;
          driven = runs.driven;
          journal = sym runs.follows.journal;
          clash = c;
          differ = clash_differ n (learned_all s.digest r.before b.table) kept given r.refused;
          digest = ap s.digest (sym c.is_kept) ∙ (is.exact.own c.first ∙ (c.clashes.named ∙ (sym (is.exact.own c.second) ∙ ap s.digest c.is_given)));
        }

    pub overflow_ends : (n : Named) (held : ℕ) → FirstRefused s.digest spawned b.table n (Learn.Full held) → OverflowOf s b.plan b.journal held n
    overflow_ends n held r =
        let c = overflow_follows s is h b sound runs.follows x out.start x.out.number spawned end
        (promised_taken s h b x out spawned end p) n held r in
        record {
          history = h;
          driven = runs.driven;
          journal = sym runs.follows.journal;
          overflow = c.1;
          full = c.0;
          once = once_learned s.job is.laws (standing s.job h).book c.1.overflows.before (once_book h b.plan runs.follows.lawful);
        }
      where
        once_book : (g : List (Event D)) (q : Plan) → Lawful s.job q g → Once [] (standing s.job g).book
        once_book g q k =
            subst (Once []) (sym (book_told s.job is.laws q g k)) (once_learned s.job is.laws (s.job.main ∷ []) (spawned_of g) (λ j. j, tt))

  -- ---- a journal

  low_there : (e : Event D) (h : List (Event D)) → In e h → In (low s.job e) (journal_of s.job h)
  low_there e [] i = absurd i
  low_there e (y ∷ ys) (inl q) = inl (ap (low s.job) q)
  low_there e (y ∷ ys) (inr i) = inr (low_there e ys i)

  pub lost_ends : (h : List (Event D)) (b : Board P) → Runs s h b → ((w : ℕ) → w < b.plan.workers → IsLost b.table.gone w)
      → AllAreLost b.plan b.journal
  lost_ends h b r all w l =
      let f = r.follows in
      let k = (gone_told s.job h w).0 (subst (In w) f.stands.gone (any_in nat_eq (λ m n e. eqb-true m n e) w b.table.gone (all w l))) in
      subst (λ J. WorkerLost J w) (sym f.journal) (k.0, low_there (lost w k.0) h k.1)

  -- ---- jobs that are modest

  module _ (p : Plan) (J : List Entry) (m : Modest s p.limit) where
    module _ (h : List (Event D)) (driven : Driven s.job p h) where
      told : Traced s.job is.laws (standing s.job h)
      told =
          traced s.job is.laws p h (drive_law s.job p (before_all s.job) h driven)

      next_made : (ds : List D) (d : D) → MadeNext s.job (standing s.job h) ds d → (e : D) → In e (ds ++ d ∷ []) → In e m.all
      next_made ds d n e i =
          let o = n.order in
          let q = n.begun in
          m.made e (inr (
            o.task,
            (told.orders o n.is_open).0,
            q.0,
            made_after_in o.from (s.job.acts q.0 o.task) e (subst (In e) q.1.1 (in_left e (ds ++ d ∷ []) q.1.0 i)),
          ))

      known_made : (ds : List D) (d : D) → MadeNext s.job (standing s.job h) ds d → (e : D) → In e (learned s.job (standing s.job h).book ds)
          → In e m.all
      known_made ds d n e i = pick (learned_from s.job is.laws (standing s.job h).book ds e i)
        where
          pick : (In e (standing s.job h).book ⊎ In e ds) → In e m.all
          pick (inl j) = m.made e (told.book e j)
          pick (inr j) = next_made ds d n e (in_left e ds (d ∷ []) j)

    pub none_clashes : (kept given : List ℕ) → ClashOf s p J kept given → ⊥
    none_clashes kept given c =
        let k = c.clash.clashes in
        k.other (m.apart c.clash.first c.clash.second (known_made c.history c.driven k.before c.clash.second k.next c.clash.first k.known)
        (next_made c.history c.driven k.before c.clash.second k.next c.clash.second (last_in k.before c.clash.second)) k.named)

    -- what stands once is distinct
    once_distinct : (past ds : List D) → Once past ds → IsDistinct s.job.same ds
    once_distinct past [] o = distinct_none s.job.same
    once_distinct past (d ∷ ds) o =
        distinct_more s.job.same d ds (fresh (bool_cases (list_any (s.job.same d) ds))) (once_distinct (d ∷ past) ds o.1)
      where
        later : (qs : List D) (zs : List D) → Once qs zs → In d qs → In d zs → ⊥
        later qs [] k i j = j
        later qs (z ∷ zs) k i (inl e) = k.0 (subst (λ y. In y qs) e i)
        later qs (z ∷ zs) k i (inr j) = later (z ∷ qs) zs k.1 (inr i) j

        fresh : ((list_any (s.job.same d) ds ≡ true) ⊎ (list_any (s.job.same d) ds ≡ false)) → list_any (s.job.same d) ds ≡ false
        fresh (inl t) =
            absurd (later (d ∷ past) ds o.1 (inl refl) (any_in s.job.same is.laws.same_exact d ds t))
        fresh (inr f) = f

    pub none_overflows : (held : ℕ) (given : Named) → OverflowOf s p J held given → ⊥
    none_overflows held given c =
        let k = c.overflow.overflows in
        let d = c.overflow.next in
        let known = learned s.job (standing s.job c.history).book k.before in
        let fresh : list_any (s.job.same d) known ≡ false = not_any d known k.fresh in
        let distinct = distinct_more s.job.same d known fresh (once_distinct [] known c.once) in
        let most = fewer s.job.same is.laws.same_refl is.laws.same_exact (d ∷ known) m.all distinct (inside (d ∷ known) (λ e i. there e i)) in
        let full = k.full in
        let n = c.full in
        let l = m.few in
        omega (arith, most, full, n, l)
      where
        not_any : (d : D) (ds : List D) → (In d ds → ⊥) → list_any (s.job.same d) ds ≡ false
        not_any d ds n = pick (bool_cases (list_any (s.job.same d) ds))
          where
            pick : ((list_any (s.job.same d) ds ≡ true) ⊎ (list_any (s.job.same d) ds ≡ false)) → list_any (s.job.same d) ds ≡ false
            pick (inl t) = absurd (n (any_in s.job.same is.laws.same_exact d ds t))
            pick (inr f) = f

        there : (e : D) → In e (c.overflow.next ∷ learned s.job (standing s.job c.history).book c.overflow.overflows.before) → In e m.all
        there e (inl q) =
            next_made c.history c.driven c.overflow.overflows.before c.overflow.next c.overflow.overflows.next e
            (subst (λ z. In z (c.overflow.overflows.before ++ c.overflow.next ∷ [])) (sym q)
            (last_in c.overflow.overflows.before c.overflow.next))
        there e (inr i) =
            known_made c.history c.driven c.overflow.overflows.before c.overflow.next c.overflow.overflows.next e i

        inside : (xs : List D) → ((e : D) → In e xs → In e m.all) → Each (λ e. list_any (s.job.same e) m.all ≡ true) xs
        inside [] k = tt
        inside (y ∷ ys) k =
            (in_any s.job.same is.laws.same_refl y m.all (k y (inl refl)), inside ys (λ e i. k e (inr i)))

    pub none_circles : (names : List Digest) → CircleOf s.job p J names → ⊥
    none_circles names c =
        let never = never_named s.job is.laws p J names c in
        let e = m.ends in
        let bad : true ≡ false = sym e.1 ∙ never e.0 in
        cc
