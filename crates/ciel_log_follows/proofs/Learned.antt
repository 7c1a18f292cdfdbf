-- What an event of the model spawned is learned whole, and the rows are the book then.
use Rattle.std.proofs.Common.{◌≡◌, ◌≢◌, ℕ, ◌+◌, ◌≤◌, ◌<◌, List, [], ◌∷◌, ◌++◌, length, true, false, cond, map, Option, Some, None, Ok, Err}
use Rattle.std.proofs.Common.{◌⊎◌, inl, inr, refl, ap, sym, ◌∙◌, subst, arith, lt-ltb}
use Rattle.std.proofs.lemmas.List.{length-append, length-map, map-append}
use Rattle.std.specs.List.{AllByRecursion, list_any}
use Rattle.std.specs.Option.{option_map_or}
use Rattle.sky_base.specs.Name.{canon, digested}
use Rattle.sky_base.specs.ObjectView.{desc_view}
use Rattle.sky_base.specs.Val.{same_text}
use Rattle.sky_base.specs.declared.object.Named.{Named}
use Rattle.sky_base.proofs.Exact.{self_text}
use Rattle.ciel_journal.specs.History.{Event, Standing, after, done, learned as known_after, saved, standing}
use Rattle.ciel_journal.specs.Job.{Digest, Each, In}
use Rattle.ciel_journal.specs.Lawful.{NoClash, Step}
use Rattle.ciel_journal.proofs.BookKnown.{learned_has}
use Rattle.ciel_journal.proofs.Good.{after_done, after_saved}
use Rattle.ciel_journal.proofs.Members.{any_in, bool_cases, in_any}
use Rattle.ciel_journal.proofs.Shelved.{learned_in}
use Rattle.ciel_journal_job.proofs.CleanLists.{in_map, map_in}
use Rattle.ciel_table.specs.Learning.{kept_bytes, learn_answer, learn_at, learned, new_row}
use Rattle.ciel_table.specs.Seen.{TableSeen, find, row_named}
use Rattle.ciel_table.specs.declared.refusal.Learn.{Learn}
use Rattle.ciel_table.specs.declared.row.Row.{Row}
use Rattle.ciel_master_board.specs.Board.{Board}
use Rattle.ciel_master_board.specs.Follows.{Follows}
use Rattle.ciel_master_board.specs.Reports.{AllLearned, IsNamed, learned_all, named_view}
use Rattle.ciel_master_board.specs.Setting.{IsSetting, Setting}
use Rattle.ciel_master_board.specs.Sound.{Sound}
use Rattle.ciel_master_board.proofs.EventsFollowed.{rows_named}
use Rattle.ciel_master_board.proofs.LearnedNames as names
use Rattle.ciel_master_board.proofs.LearnedNames.{Comes, RowNamed, book_more, comes, in_rows, named_after, new_name, view_in, views, views_are}

-- one that is refused isn't learned
pub none_refused : {P : Type 0} (digest : List ℕ → List ℕ) (before after : List Named) (given : Named) (why : Learn) (t : TableSeen P)
    → AllLearned digest (before ++ given ∷ after) t → learn_answer given (learned_all digest before t) ≡ Err why → ⊥
none_refused digest [] after given why t l e = let bad : Ok l.0.0 ≡ Err why = sym l.0.1 ∙ e in cc
none_refused digest (n ∷ ns) after given why t l e = none_refused digest ns after given why (learned digest n t) l.1 e

module _ {P : Type 0} where
  -- a name that is held is learned where its row has the description
  held_answer : (n : Named) (t : TableSeen P) (r : Row P) → row_named n.name t ≡ Some r → find n.name t ≢ None → desc_view r.desc ≡ named_view n
      → (id : ℕ) × (learn_answer n t ≡ Ok id)
  held_answer n t r row some same = pick (find n.name t) refl
    where
      kept : kept_bytes n.name t ≡ canon (named_view n)
      kept = ap (λ o. option_map_or (λ (x : Row P). canon (desc_view x.desc)) o []) row ∙ ap canon same

      equal : same_text (kept_bytes n.name t) (canon (named_view n)) ≡ true
      equal = subst (λ z. same_text z (canon (named_view n)) ≡ true) (sym kept) (self_text (canon (named_view n)))

      pick : (o : Option ℕ) → find n.name t ≡ o → (id : ℕ) × (learn_at o n t ≡ Ok id)
      pick None e = absurd (some e)
      pick (Some id) e = (id, ap (λ b. cond b (Ok id) (Err (Learn.Clash (kept_bytes n.name t) (canon (named_view n))))) equal)

  -- a new one where there is room
  new_answer : (n : Named) (t : TableSeen P) → find n.name t ≡ None → length t.rows < t.limit → (id : ℕ) × (learn_answer n t ≡ Ok id)
  new_answer n t none room = (
    length t.rows,
    ap (λ o. learn_at o n t) none ∙ ap (λ b. cond b (Ok (length t.rows)) (Err (Learn.Full (length t.rows)))) (lt-ltb (length t.rows) t.limit room),
  )

module _ {D P B : Type 0} (s : Setting D P B) (is : IsSetting s) where
  -- these are learned, and the rows are the book then
  pub record Learns (ns : List Named) (ds book : List D) (t : TableSeen P) : Type 0 where
    pub all : AllLearned s.digest ns t
    pub rows : views (learned_all s.digest ns t).rows ≡ map s.lower (known_after s.job book ds)

  -- a table whose rows are the book's
  record Tells (book : List D) (t : TableSeen P) : Type 0 where
    pub views_ : views t.rows ≡ map s.lower book
    pub named : AllByRecursion (RowNamed s.digest) t.rows

  -- the row of what is in the book
  in_book : (book : List D) (t : TableSeen P) → Tells book t → (r : Row P) → In r t.rows
      → (x : D) × In x book × (s.lower x ≡ desc_view r.desc) × (r.name ≡ s.job.name x)
  in_book book t k r i =
      let q = map_in s.lower (desc_view r.desc) book (subst (In (desc_view r.desc)) k.views_ (view_in r t.rows i)) in (
        q.0,
        q.1,
        q.2,
        (in_rows s.digest t.rows k.named r i).name ∙ (ap (digested s.digest) (sym q.2) ∙ is.exact.own q.0),
      )

  module _ (n : Named) (ns : List Named) (d : D) (ds book : List D) (t : TableSeen P) (k : Tells book t) (m : IsNamed s.digest n)
      (view : named_view n ≡ s.lower d) (apart : NoClash s.job (known_after s.job book (d ∷ ds)))
      (room : length (known_after s.job book (d ∷ ds)) ≤ t.limit) where
    name_is : n.name ≡ s.job.name d
    name_is = m.name ∙ (ap (digested s.digest) view ∙ is.exact.own d)

    abbrev Rest : Type 0
    Rest =
        (book2 : List D) → Tells book2 (learned s.digest n t) → NoClash s.job (known_after s.job book2 ds)
        → length (known_after s.job book2 ds) ≤ t.limit → Learns ns ds book2 (learned s.digest n t)

    -- it is in the book already
    module _ (e : (learned s.digest n t).rows ≡ t.rows) (r : Row P) (i : In r t.rows) (name : r.name ≡ n.name) (some : find n.name t ≢ None)
        (row : row_named n.name t ≡ Some r) where
      of : (x : D) × In x book × (s.lower x ≡ desc_view r.desc) × (r.name ≡ s.job.name x)
      of = in_book book t k r i

      same : of.0 ≡ d
      same =
          apart of.0 d (learned_in s.job is.laws book (d ∷ ds) of.0 of.1) (learned_has s.job is.laws book (d ∷ ds) d (inl refl))
          (sym of.3 ∙ (name ∙ name_is))

      there : list_any (s.job.same d) book ≡ true
      there = in_any s.job.same is.laws.same_refl d book (subst (λ z. In z book) same of.1)

      book_is : known_after s.job book (d ∷ ds) ≡ known_after s.job book ds
      book_is = ap (λ b. known_after s.job (cond b book (book ++ d ∷ [])) ds) there

      held : Rest → Learns (n ∷ ns) (d ∷ ds) book t
      held rest =
          let l = rest book (record { views_ = ap views e ∙ k.views_; named = subst (AllByRecursion (RowNamed s.digest)) (sym e) k.named })
          (subst (NoClash s.job) book_is apart) (subst (λ z. length z ≤ t.limit) book_is room) in
          record {
            all = (held_answer n t r row some (sym of.2 ∙ (ap s.lower same ∙ sym view)), l.all);
            rows = l.rows ∙ ap (map s.lower) (sym book_is);
          }

    -- it is new
    module _ (e : (learned s.digest n t).rows ≡ t.rows ++ new_row s.digest n ∷ []) (none : find n.name t ≡ None) where
      fresh : In d book → ⊥
      fresh i =
          new_name s.digest n t k.named m none (s.lower d) (subst (In (s.lower d)) (sym k.views_) (in_map s.lower d book i))
          (ap (digested s.digest) (sym view))

      away : list_any (s.job.same d) book ≡ false
      away = pick (bool_cases (list_any (s.job.same d) book))
        where
          pick : ((list_any (s.job.same d) book ≡ true) ⊎ (list_any (s.job.same d) book ≡ false)) → list_any (s.job.same d) book ≡ false
          pick (inl y) = absurd (fresh (any_in s.job.same is.laws.same_exact d book y))
          pick (inr y) = y

      new_book : known_after s.job book (d ∷ ds) ≡ known_after s.job (book ++ d ∷ []) ds
      new_book = ap (λ b. known_after s.job (cond b book (book ++ d ∷ [])) ds) away

      fits : length t.rows < t.limit
      fits =
          let more = book_more s.job is.laws.same_refl ds (book ++ d ∷ []) in
          let rows : length t.rows ≡ length book =
          sym (length-map t.rows (λ (r : Row P). desc_view r.desc)) ∙ (ap length k.views_ ∙ length-map book s.lower) in
          let all : length (known_after s.job book (d ∷ ds)) ≡ length (book ++ d ∷ []) + length more.news =
          ap length (new_book ∙ more.is) ∙ length-append (book ++ d ∷ []) more.news in
          let one : length (book ++ d ∷ []) ≡ length book + 1 = length-append book (d ∷ []) in
          omega (arith, room, rows, all, one)

      new : Rest → Learns (n ∷ ns) (d ∷ ds) book t
      new rest =
          let l = rest (book ++ d ∷ [])
          (record {
            views_ = ap views e ∙ (map-append (λ (r : Row P). desc_view r.desc) t.rows (new_row s.digest n ∷ [])
                ∙ (ap (λ z. z ++ named_view n ∷ []) k.views_ ∙ (ap (λ z. map s.lower book ++ z ∷ []) view
                ∙ sym (map-append s.lower book (d ∷ [])))));
            named = named_after s.digest n t k.named m;
          })
          (subst (NoClash s.job) new_book apart) (subst (λ z. length z ≤ t.limit) new_book room) in
          record {
            all = (new_answer n t none fits, l.all);
            rows = l.rows ∙ ap (map s.lower) (sym new_book);
          }

    one : Rest → Learns (n ∷ ns) (d ∷ ds) book t
    one rest = pick (comes s.digest n t)
      where
        pick : Comes s.digest n t → Learns (n ∷ ns) (d ∷ ds) book t
        pick (names.there e r i name some row) = held e r i name some row rest
        pick (names.new e none) = new e none rest

  learns_all : (ns : List Named) (ds book : List D) (t : TableSeen P) → Tells book t → Each (IsNamed s.digest) ns → map named_view ns ≡ map s.lower ds
      → NoClash s.job (known_after s.job book ds) → length (known_after s.job book ds) ≤ t.limit → Learns ns ds book t
  learns_all [] [] book t k m e apart room = record { all = tt; rows = k.views_ }
  learns_all [] (d ∷ ds) book t k m e apart room = cc
  learns_all (n ∷ ns) [] book t k m e apart room = cc
  learns_all (n ∷ ns) (d ∷ ds) book t k m e apart room =
      let view : named_view n ≡ s.lower d = cc in
      let rest : map named_view ns ≡ map s.lower ds = cc in
      one n ns d ds book t k m.0 view apart room (λ book2 k2 apart2 room2. learns_all ns ds book2 (learned s.digest n t) k2 m.1 rest apart2 room2)

  -- ---- of an event

  module _ (h : List (Event D)) (b : Board P) (sound : Sound s.digest s.at b) (f : Follows s h b) where
    abbrev v : Standing D
    v = standing s.job h

    told : (ns : List Named) (ds : List D) → Each (IsNamed s.digest) ns → map named_view ns ≡ map s.lower ds
        → NoClash s.job (known_after s.job v.book ds) → length (known_after s.job v.book ds) ≤ b.plan.limit → Learns ns ds v.book b.table
    told ns ds m e apart room =
        learns_all ns ds v.book b.table
        (record { views_ = views_are s v.places v.book b.table.rows f.stands.rows; named = rows_named s is h b sound f }) m e apart
        (subst (λ n. length (known_after s.job v.book ds) ≤ n) (sym sound.limit) room)

    pub done_learned : (k : ℕ) (made : List (D × Digest)) (copied spawned : List D) → Step s.job b.plan v (done k made copied spawned)
        → (ns : List Named) → Each (IsNamed s.digest) ns → map named_view ns ≡ map s.lower spawned → Learns ns spawned v.book b.table
    done_learned k made copied spawned step ns m e =
        let now : (after s.job v (done k made copied spawned)).book ≡ known_after s.job v.book spawned =
        ap (λ (u : Standing D). u.book) (after_done s.job is.laws v k made copied spawned step.allowed.0 step.allowed.1) in
        told ns spawned m e (subst (NoClash s.job) now step.apart) (subst (λ z. length z ≤ b.plan.limit) now step.room)

    pub saved_learned : (k j : ℕ) (mark : Digest) (refs holds spawned : List D) → Step s.job b.plan v (saved k j mark refs holds spawned)
        → (ns : List Named) → Each (IsNamed s.digest) ns → map named_view ns ≡ map s.lower spawned → Learns ns spawned v.book b.table
    saved_learned k j mark refs holds spawned step ns m e =
        let now : (after s.job v (saved k j mark refs holds spawned)).book ≡ known_after s.job v.book spawned =
        ap (λ (u : Standing D). u.book) (after_saved s.job is.laws v k j mark refs holds spawned step.allowed.0 step.allowed.1) in
        told ns spawned m e (subst (NoClash s.job) now step.apart) (subst (λ z. length z ≤ b.plan.limit) now step.room)
