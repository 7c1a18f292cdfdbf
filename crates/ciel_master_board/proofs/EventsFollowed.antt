-- A loss, and a report that is learned whole, are events that the state follows.
use Rattle.std.proofs.Common.{◌≡◌, ℕ, ◌+◌, ◌≤◌, ◌<◌, List, [], ◌∷◌, ◌++◌, length, Bool, true, false, not, cond, map, filter, nat_eq, nat_lt, eqb-true}
use Rattle.std.proofs.Common.{eq-eqb, Option, Some, None, Ok, Err, ◌⊎◌, inl, inr, refl, ap, sym, ◌∙◌, subst, arith}
use Rattle.std.specs.List.{AllByRecursion, list_any}
use Rattle.std.specs.Option.{option_map_or}
use Rattle.std.proofs.lemmas.Bool.{ltb-true}
use Rattle.std.specs.Prelude.{slice_get}
use Rattle.sky_base.specs.Val.{Desc}
use Rattle.sky_base.specs.declared.object.Named.{Named}
use Rattle.sky_base_law.proofs.Lists.{length_push}
use Rattle.ciel_journal.specs.Entries.{Entry, low_made, low_names}
use Rattle.ciel_journal.specs.History.{Event, OpenStart, Save, Standing, done, ends_show, find_open, learned as known_after, lost, missed, names_of}
use Rattle.ciel_journal.specs.History.{placed, saved, standing, start}
use Rattle.ciel_journal.specs.Job.{Digest, Each, In, Job, Once, Task, of, show}
use Rattle.ciel_journal.specs.Lawful.{Copied, DoneAllowed, Marked, NoClash, SavedAllowed, own_name}
use Rattle.ciel_journal.proofs.BookKnown.{Informed}
use Rattle.ciel_journal.proofs.Good.{after_done, after_saved}
use Rattle.ciel_journal.proofs.Members.{any_in, bool_cases, each_of, in_any}
use Rattle.ciel_journal.proofs.Numbers.{found_in as open_found}
use Rattle.ciel_journal.proofs.OnceLaw.{once_learned}
use Rattle.ciel_journal.proofs.Shelved.{fetched_in, learned_in}
use Rattle.ciel_journal.proofs.Told.{book_told}
use Rattle.ciel_journal.specs.Live.{spawned_of}
use Rattle.ciel_journal_job.specs.Report as r
use Rattle.ciel_table.specs.Changes as c
use Rattle.ciel_table.specs.Learning.{learn_answer, learn_at, learned}
use Rattle.ciel_table.specs.Named.{found}
use Rattle.ciel_table.specs.Seen.{TableSeen, row_name, saves_name, waits_in, waits_of}
use Rattle.ciel_table.specs.declared.refusal.Learn.{Learn}
use Rattle.ciel_table.specs.declared.row.Row.{Row}
use Rattle.ciel_table.specs.declared.wait.Saves.{Saves}
use Rattle.ciel_table.proofs.Lists.{all_filter, all_more}
use Rattle.ciel_want.specs.History.{task_id}
use Rattle.ciel_want.proofs.Rows.{all_found, item_at, some_place}
use Rattle.ciel_master_board.specs.Board.{Board, Order, OrderOut, find_order}
use Rattle.ciel_master_board.specs.Follows.{Follows, OneByOne, OutIs, RowIs, StandsFor, WaitIs, saves_of, standing_saves}
use Rattle.ciel_master_board.specs.Laws.{CopyLies, OutputLies, Taken}
use Rattle.ciel_master_board.specs.Moves.{accepted, is_root, lost_at, wait_of, with_copies, with_outputs, without}
use Rattle.ciel_master_board.specs.Reports as rep
use Rattle.ciel_master_board.specs.Reports.{AllLearned, Copy, End, Output, Stack, copy_names, learned_all, made_keys, report_view}
use Rattle.ciel_master_board.specs.Setting.{HasObject, HasState, IsSetting, Setting}
use Rattle.ciel_master_board.specs.Sound.{CopyFits, OutputFits, RowSound, SavesSound, Sound}
use Rattle.ciel_master_board.proofs.FollowsLemmas.{apart, goes_on, informed, traced}
use Rattle.ciel_master_board.proofs.LearnedNames.{Comes, Grown, More, RowNamed, book_more, comes, found_in, found_named, grown, named_all, new, rows_more, there}
use Rattle.ciel_master_board.proofs.LearnedNames.{views}
use Rattle.ciel_master_board.proofs.TableLookups.{Titled, row_title}
use Rattle.ciel_master_board.proofs.Pairs.{back, filtered, long, mapped}
use Rattle.ciel_master_board.proofs.PlacedRows.{IsCopy, IsOutput, copies_placed, copies_same, outputs_placed, outputs_same}
use Rattle.ciel_master_board.proofs.WaitsByName.{none_saved, same_waits, waits_dropped, waits_pushed}

-- ---- small things

pub low_is : {D : Type 0} (job : Job D) (ds : List D) → low_names job ds ≡ map job.name ds
low_is job [] = refl
low_is job (d ∷ ds) = ap (λ ns. job.name d ∷ ns) (low_is job ds)

map_filter : {P : Type 0} (at : P → ℕ) (w : ℕ) (ps : List P) → map at (filter (λ p. not (nat_eq w (at p))) ps)
    ≡ filter (λ u. not (nat_eq w u)) (map at ps)
map_filter at w [] = refl
map_filter at w (p ∷ ps) = pick (not (nat_eq w (at p))) (map_filter at w ps)
  where
    pick : (b : Bool) → map at (filter (λ p. not (nat_eq w (at p))) ps) ≡ filter (λ u. not (nat_eq w u)) (map at ps)
        → map at (cond b (p ∷ filter (λ p. not (nat_eq w (at p))) ps) (filter (λ p. not (nat_eq w (at p))) ps))
        ≡ cond b (at p ∷ filter (λ u. not (nat_eq w u)) (map at ps)) (filter (λ u. not (nat_eq w u)) (map at ps))
    pick true e = ap (λ us. at p ∷ us) e
    pick false e = e

pub found_number : (k : ℕ) (xs : List OrderOut) (x : OrderOut) → find_order k xs ≡ Some x → k ≡ x.number
found_number k [] x e = cc
found_number k (y ∷ ys) x e = pick (bool_cases (nat_eq k y.number)) (found_number k ys x)
  where
    pick : ((nat_eq k y.number ≡ true) ⊎ (nat_eq k y.number ≡ false)) → (find_order k ys ≡ Some x → k ≡ x.number) → k ≡ x.number
    pick (inl t) r =
        let q : Some y ≡ Some x = sym (ap (λ b. cond b (Some y) (find_order k ys)) t) ∙ e in
        let w : y ≡ x = cc in eqb-true k y.number t ∙ ap (λ (z : OrderOut). z.number) w
    pick (inr f) r = r (sym (ap (λ b. cond b (Some y) (find_order k ys)) f) ∙ e)

root_is : {D : Type 0} (job : Job D) (u : Task D) → is_root (task_id job u) ≡ ends_show job u
root_is job show = refl
root_is job (of d) = refl

-- where all is learned there was room
room_one : {P : Type 0} (digest : List ℕ → List ℕ) (n : Named) (t : TableSeen P) (id : ℕ) → learn_answer n t ≡ Ok id → length t.rows ≤ t.limit
    → length (learned digest n t).rows ≤ t.limit
room_one {P} digest n t id e l = pick (comes digest n t)
  where
    turn : (b : Bool) → nat_lt (length t.rows) t.limit ≡ b → cond b (Ok (length t.rows)) (Err (Learn.Full (length t.rows))) ≡ Ok id
        → length t.rows < t.limit
    turn true y h = ltb-true (length t.rows) t.limit y
    turn false y h = cc

    pick : Comes digest n t → length (learned digest n t).rows ≤ t.limit
    pick (there a r i k some f) = subst (λ (rs : List (Row P)). length rs ≤ t.limit) (sym a) l
    pick (new a none) =
        let m : length t.rows < t.limit = turn (nat_lt (length t.rows) t.limit) refl (sym (ap (λ o. learn_at o n t) none) ∙ e) in
        let z = ap length a ∙ length_push t.rows _ (length t.rows) refl in
        omega (arith, m, z)

pub room_all : {P : Type 0} (digest : List ℕ → List ℕ) (ns : List Named) (t : TableSeen P) → AllLearned digest ns t → length t.rows ≤ t.limit
    → length (learned_all digest ns t).rows ≤ t.limit
room_all digest [] t a l = l
room_all digest (n ∷ ns) t a l = room_all digest ns (learned digest n t) a.1 (room_one digest n t a.0.0 a.0.1 l)

module _ {D P B : Type 0} (s : Setting D P B) where
  -- the order of an open Start
  pub open_pair : (k : ℕ) (os : List (OpenStart D)) (xs : List OrderOut) → OneByOne (OutIs s) os xs → (o : OpenStart D) (x : OrderOut)
      → find_open s.job k os ≡ Some o → find_order k xs ≡ Some x → OutIs s o x
  open_pair k [] [] h o x e f = cc
  open_pair k [] (y ∷ ys) h o x e f = absurd h
  open_pair k (q ∷ qs) [] h o x e f = absurd h
  open_pair k (q ∷ qs) (y ∷ ys) h o x e f = pick (bool_cases (nat_eq k q.number)) (open_pair k qs ys h.1 o x)
    where
      pick : ((nat_eq k q.number ≡ true) ⊎ (nat_eq k q.number ≡ false))
          → (find_open s.job k qs ≡ Some o → find_order k ys ≡ Some x → OutIs s o x) → OutIs s o x
      pick (inl t) r =
          let u : nat_eq k y.number ≡ true = ap (nat_eq k) h.0.number ∙ t in
          let a : Some q ≡ Some o = sym (ap (λ b. cond b (Some q) (find_open s.job k qs)) t) ∙ e in
          let c : Some y ≡ Some x = sym (ap (λ b. cond b (Some y) (find_order k ys)) u) ∙ f in
          let a2 : q ≡ o = cc in
          let c2 : y ≡ x = cc in
          subst (λ z. OutIs s o z) c2 (subst (λ z. OutIs s z y) a2 h.0)
      pick (inr t) r =
          let u : nat_eq k y.number ≡ false = ap (nat_eq k) h.0.number ∙ t in
          r (sym (ap (λ b. cond b (Some q) (find_open s.job k qs)) t) ∙ e) (sym (ap (λ b. cond b (Some y) (find_order k ys)) u) ∙ f)

  -- ---- what a report tells

  abbrev number_of : Option (r.Report (Desc (List ℕ))) → ℕ
  number_of None = 0
  number_of (Some x) = x.number

  abbrev end_of : Option (r.Report (Desc (List ℕ))) → r.End
  end_of None = r.missing [] 0
  end_of (Some x) = x.end

  pub record IsSaved (k : ℕ) (q : Stack P) (ev : Event D) : Type 0 where
    pub refs : List D
    pub holds : List D
    pub spawned : List D
    pub is : ev ≡ saved k q.j q.mark refs holds spawned
    pub refs_are : low_names s.job refs ≡ q.refs
    pub holds_are : low_names s.job holds ≡ q.holds

  pub read_saved : (k : ℕ) (spawned : List Named) (q : Stack P) (ev : Event D) → r.report_of s.job s.inner s.lower ev
      ≡ Some (report_view k spawned (rep.saved q)) → IsSaved k q ev
  read_saved k spawned q (start l w t from) h = cc
  read_saved k spawned q (lost w n) h = cc
  read_saved k spawned q (missed l d n) h =
      let y : r.missing (s.job.name d) n ≡ r.stopped q.j q.mark q.refs q.holds = ap end_of h in cc
  read_saved k spawned q (done l ms cs sp) h =
      let y : r.made (low_made s.job ms) (low_names s.job cs) ≡ r.stopped q.j q.mark q.refs q.holds = ap end_of h in cc
  read_saved k spawned q (saved l j m rs hs sp) h =
      let x : l ≡ k = ap number_of h in
      let y : r.stopped j m (low_names s.job rs) (low_names s.job hs) ≡ r.stopped q.j q.mark q.refs q.holds = ap end_of h in
      let a : j ≡ q.j = cc in
      let c : m ≡ q.mark = cc in
      let d : low_names s.job rs ≡ q.refs = cc in
      let f : low_names s.job hs ≡ q.holds = cc in
      record { refs = rs; holds = hs; spawned = sp; is = λ i. saved (x i) (a i) (c i) rs hs sp; refs_are = d; holds_are = f }

  pub record IsDone (k : ℕ) (ms : List (Output P)) (cs : List (Copy P)) (ev : Event D) : Type 0 where
    pub made : List (D × Digest)
    pub copied : List D
    pub spawned : List D
    pub is : ev ≡ done k made copied spawned
    pub made_are : made_keys ms ≡ low_made s.job made
    pub copied_are : copy_names cs ≡ low_names s.job copied

  pub read_done : (k : ℕ) (spawned : List Named) (ms : List (Output P)) (cs : List (Copy P)) (ev : Event D)
      → r.report_of s.job s.inner s.lower ev ≡ Some (report_view k spawned (rep.made ms cs)) → IsDone k ms cs ev
  read_done k spawned ms cs (start l w t from) h = cc
  read_done k spawned ms cs (lost w n) h = cc
  read_done k spawned ms cs (missed l d n) h =
      let y : r.missing (s.job.name d) n ≡ r.made (made_keys ms) (copy_names cs) = ap end_of h in cc
  read_done k spawned ms cs (saved l j m rs hs sp) h =
      let y : r.stopped j m (low_names s.job rs) (low_names s.job hs) ≡ r.made (made_keys ms) (copy_names cs) = ap end_of h in cc
  read_done k spawned ms cs (done l as_ ds sp) h =
      let x : l ≡ k = ap number_of h in
      let y : r.made (low_made s.job as_) (low_names s.job ds) ≡ r.made (made_keys ms) (copy_names cs) = ap end_of h in
      let a : made_keys ms ≡ low_made s.job as_ = cc in
      let c : copy_names cs ≡ low_names s.job ds = cc in
      record { made = as_; copied = ds; spawned = sp; is = λ i. done (x i) as_ ds sp; made_are = a; copied_are = c }

module _ {D P B : Type 0} (s : Setting D P B) (is : IsSetting s) (h : List (Event D)) (b : Board P) (sound : Sound s.digest s.at b)
    (f : Follows s h b) where
  abbrev v : Standing D
  v = standing s.job h

  inf : Informed s.job is.laws s.inner is.knows v
  inf = informed s is h b sound f

  pub book_room : length v.book ≤ b.plan.limit
  book_room =
      subst (λ n. length v.book ≤ n) sound.limit
      (subst (λ n. n ≤ b.table.limit) (sym (long (RowIs s v.places) v.book b.table.rows f.stands.rows)) sound.room)

  -- ---- a loss

  lost_row : (w : ℕ) (d : D) (row : Row P) → RowIs s v.places d row
      → RowIs s (λ d. filter (λ u. not (nat_eq w u)) (v.places d)) d (c.row_without s.at w row)
  lost_row w d row q =
      record {
        spells = q.spells;
        places = map_filter s.at w row.places ∙ ap (filter (λ u. not (nat_eq w u))) q.places;
        objects = all_filter (λ p. HasObject s p d) (λ p. HasObject s p d) (λ p. not (nat_eq w (s.at p))) (λ p k t. k) row.places q.objects;
      }

  pub lost_follows : b.stopped ≡ false → (w loss count : ℕ) → list_any (nat_eq w) b.table.gone ≡ false → slice_get b.plan.losses loss
      ≡ Some (count, w) → count ≤ b.closes → Follows s (h ++ lost w b.closes ∷ []) (lost_at s.at w b)
  lost_follows going w loss count here planned reached =
      goes_on s is h b sound f (lost w b.closes) (lost_at s.at w b) refl refl
      (record {
        going = f.stands.going going;
        allowed = record {
          first = subst (λ gs. list_any (nat_eq w) gs ≡ false) f.stands.gone here;
          now = f.stands.closes;
          planned =
              (loss, count, planned, reached);
        };
        room = book_room;
        apart = apart s is h b sound f;
      })
      (record {
        keys = f.stands.keys;
        main = f.stands.main;
        rows = mapped (RowIs s v.places) (RowIs s (λ d. filter (λ u. not (nat_eq w u)) (v.places d))) (c.row_without s.at w) v.book b.table.rows
            (λ d row i q. lost_row w d row q) f.stands.rows;
        waits = λ u i. waits_dropped s is w u v.saves b.table (f.stands.waits u i);
        orders = filtered (OutIs s) (λ (o : OpenStart D). not (nat_eq w o.worker)) (λ (x : OrderOut). not (nat_eq w x.worker))
            (λ o x k. ap (λ n. not (nat_eq w n)) (sym k.worker)) v.orders b.orders f.stands.orders;
        gone = ap (λ gs. gs ++ w ∷ []) f.stands.gone;
        starts = f.stands.starts;
        closes = f.stands.closes;
        going = f.stands.going;
      })

  -- ---- a report

  pub rows_named : AllByRecursion (RowNamed s.digest) b.table.rows
  rows_named =
      all_more (RowSound s.digest b.table) (RowNamed s.digest) (λ row k. record { name = k.name; spelled = k.spelled }) b.table.rows sound.rows

  rows_titled : AllByRecursion (Titled s is) b.table.rows
  rows_titled = all_more (RowSound s.digest b.table) (Titled s is) (λ row k. k.name) b.table.rows sound.rows

  -- a new description has no place
  no_place : (d : D) → (In d v.book → ⊥) → v.places d ≡ []
  no_place d n = pick (v.places d) refl
    where
      pick : (ws : List ℕ) → v.places d ≡ ws → v.places d ≡ []
      pick [] e = e
      pick (w ∷ ws) e =
          absurd (n (inf.shelved.places d w (subst (λ xs. list_any (nat_eq w) xs ≡ true) (sym e)
          (in_any nat_eq (λ a. eq-eqb a a refl) w (w ∷ ws) (inl refl)))))

  -- a name whose description isn't in the book has no saved waits
  new_waits : (book : List D) → NoClash s.job book → ((d : D) → In d v.book → In d book) → (d : D) → In d book → (In d v.book → ⊥)
      → waits_in (s.job.name d) b.table.saved ≡ []
  new_waits book clear all d i n = pick (found saves_name (s.job.name d) b.table.saved) refl
    where
      pick : (o : Option (Saves P)) → found saves_name (s.job.name d) b.table.saved ≡ o → waits_in (s.job.name d) b.table.saved ≡ []
      pick None e = ap (λ o. option_map_or (λ (q : Saves P). q.waits) o []) e
      pick (Some q) e =
          let k : SavesSound b.table q = all_found saves_name (SavesSound b.table) (s.job.name d) b.table.saved q sound.saved e in
          let named : q.name ≡ s.job.name d = found_named saves_name (s.job.name d) b.table.saved q e in
          let place = some_place row_name q.name b.table.rows k.task in
          let row = item_at row_name q.name b.table.rows place.0 place.1 in
          let of_row = back (RowIs s v.places) v.book b.table.rows f.stands.rows row.item
          (found_in row_name q.name b.table.rows row.item row.is_found) in
          let title = row_title s is v.places of_row.0 row.item of_row.2
          (all_found row_name (Titled s is) q.name b.table.rows row.item rows_titled row.is_found) in
          absurd (n (subst (λ x. In x v.book) (clear of_row.0 d (all of_row.0 of_row.1) i (sym title ∙ (row.named ∙ named))) of_row.1))

  module _ (book : List D) (clear : NoClash s.job book) (all : (d : D) → In d v.book → In d book) where
    -- each task that goes by a name of the grown book has its saved waits
    waits_still : (u : Task D) → In (own_name s.job u) book
        → OneByOne (WaitIs s) (standing_saves (saves_of s.job u v.saves)) (waits_of (task_id s.job u) b.table)
    waits_still show i = f.stands.waits show inf.shelved.main
    waits_still (of d) i = pick (bool_cases (list_any (s.job.same d) v.book))
      where
        pick : ((list_any (s.job.same d) v.book ≡ true) ⊎ (list_any (s.job.same d) v.book ≡ false))
            → OneByOne (WaitIs s) (standing_saves (saves_of s.job (of d) v.saves)) (waits_of (task_id s.job (of d)) b.table)
        pick (inl y) = f.stands.waits (of d) (any_in s.job.same is.laws.same_exact d v.book y)
        pick (inr n) =
            let out : In d v.book → ⊥ = not_in n in
            subst (λ ws. OneByOne (WaitIs s) (standing_saves (saves_of s.job (of d) v.saves)) ws) (sym (new_waits book clear all d i out))
            (subst (λ qs. OneByOne (WaitIs s) (standing_saves qs) [])
            (sym (none_saved s is (of d) v.saves (λ q j e. out
            (subst (λ t. In (own_name s.job t) v.book) e (traced s is h b sound f q j).1)))) tt)
          where
            not_in : list_any (s.job.same d) v.book ≡ false → In d v.book → ⊥
            not_in n j =
                let z = in_any s.job.same is.laws.same_refl d v.book j in let bad : true ≡ false = sym z ∙ n in cc

  module _ (x : Order P) (o : OpenStart D) (k : ℕ) (spawned : List Named) (end : End P) (taken : Taken s h b x o k spawned end)
      (all : AllLearned s.digest spawned b.table) where
    order : OutIs s o x.out
    order = open_pair s k v.orders b.orders f.stands.orders o x.out taken.is_open taken.is_out

    open_in : In o v.orders
    open_in = (open_found s.job is.laws k v.orders o taken.is_open).0

    number : k ≡ x.out.number
    number = found_number k b.orders x.out taken.is_out

    abbrev after_table : TableSeen P
    after_table = learned_all s.digest spawned b.table

    growth : Grown s.digest b.table after_table
    growth = grown s.digest spawned b.table

    titled_after : AllByRecursion (Titled s is) after_table.rows
    titled_after =
        all_more (RowNamed s.digest) (Titled s is) (λ row q. q.name) after_table.rows (named_all s.digest spawned b.table rows_named taken.fits.named)

    room_after : length after_table.rows ≤ b.plan.limit
    room_after = subst (λ n. length after_table.rows ≤ n) sound.limit (room_all s.digest spawned b.table all sound.room)

    orders_after : OneByOne (OutIs s) (filter (λ (q : OpenStart D). not (nat_eq k q.number)) v.orders) (without x.out.number b.orders)
    orders_after =
        subst (λ n. OneByOne (OutIs s) (filter (λ (q : OpenStart D). not (nat_eq k q.number)) v.orders) (without n b.orders)) number
        (filtered (OutIs s) (λ (q : OpenStart D). not (nat_eq k q.number)) (λ (y : OrderOut). not (nat_eq k y.number))
        (λ q y e. ap (λ n. not (nat_eq k n)) (sym e.number)) v.orders b.orders f.stands.orders)

    module _ (sp : List D) (clear : NoClash s.job (known_after s.job v.book sp))
        (told : views after_table.rows ≡ map s.lower (known_after s.job v.book sp)) where
      abbrev book : List D
      book = known_after s.job v.book sp

      growing : More s.job v.book book
      growing = book_more s.job is.laws.same_refl sp v.book

      rows_after : OneByOne (RowIs s v.places) book after_table.rows
      rows_after =
          rows_more s v.places s.digest v.book book b.table after_table f.stands.rows growth growing told (λ d i. no_place d (growing.new d i))

      size : length book ≤ b.plan.limit
      size = subst (λ n. n ≤ b.plan.limit) (sym (long (RowIs s v.places) book after_table.rows rows_after)) room_after

      kept : (d : D) → In d v.book → In d book
      kept d i = learned_in s.job is.laws v.book sp d i

      waits_after : (t : TableSeen P) → t.shown ≡ after_table.shown → t.saved ≡ after_table.saved → (u : Task D) → In (own_name s.job u) book
          → OneByOne (WaitIs s) (standing_saves (saves_of s.job u v.saves)) (waits_of (task_id s.job u) t)
      waits_after t a e u i =
          subst (OneByOne (WaitIs s) (standing_saves (saves_of s.job u v.saves)))
          (sym (same_waits (task_id s.job u) b.table t (a ∙ growth.shown) (e ∙ growth.saved))) (waits_still book clear kept u i)

      once : Once [] book
      once =
          once_learned s.job is.laws v.book sp (subst (Once []) (sym (book_told s.job is.laws b.plan h f.lawful))
          (once_learned s.job is.laws (s.job.main ∷ []) (spawned_of h) (λ i. i, tt)))

      own_in : In (own_name s.job o.task) book
      own_in = kept (own_name s.job o.task) (each_of (λ (q : OpenStart D). In (own_name s.job q.task) v.book) o v.orders open_in inf.shelved.own)

    -- ---- a saved wait

    module _ (q : Stack P) (is_end : end ≡ rep.saved q) (refs holds sp : List D) (refs_are : low_names s.job refs ≡ q.refs)
        (holds_are : low_names s.job holds ≡ q.holds) (a : SavedAllowed s.job o q.j q.mark refs holds sp)
        (clear : NoClash s.job (known_after s.job v.book sp)) (told : views after_table.rows ≡ map s.lower (known_after s.job v.book sp))
        (lies : HasState s q.place o.task q.j) (here : s.at q.place ≡ x.out.worker) where
      abbrev save : Save D
      save = record { task = o.task; j = q.j; worker = o.worker; refs = refs; holds = holds }

      wait_is : WaitIs s save (wait_of q)
      wait_is =
          record {
            j = refl;
            worker = here ∙ order.worker;
            refs = sym refs_are ∙ low_is s.job refs;
            holds = sym holds_are ∙ low_is s.job holds;
            state = lies;
          }

      pub saved_follows : b.stopped ≡ false → Follows s (h ++ saved k q.j q.mark refs holds sp ∷ []) (accepted s.digest s.at b x.out spawned (rep.saved q))
      saved_follows going =
          let now = after_saved s.job is.laws v k q.j q.mark refs holds sp o taken.is_open in
          goes_on s is h b sound f (saved k q.j q.mark refs holds sp) (accepted s.digest s.at b x.out spawned (rep.saved q)) refl
          (ap (λ n. b.journal ++ Entry.Saved n q.j q.mark ∷ []) (sym number))
          (record {
            going = f.stands.going going;
            allowed = (o, taken.is_open, a);
            room = subst (λ (u : Standing D). length u.book ≤ b.plan.limit) (sym now) (size sp clear told);
            apart = subst (λ (u : Standing D). NoClash s.job u.book) (sym now) clear;
          })
          (subst (λ u. StandsFor s u (accepted s.digest s.at b x.out spawned (rep.saved q))) (sym now) (record {
            keys = f.stands.keys;
            main = f.stands.main;
            rows = rows_after sp clear told;
            waits = λ u i. waits_pushed s is (known_after s.job v.book sp) clear u o.task i (own_in sp clear told) v.saves save after_table
                x.out.task (wait_of q) refl order.task wait_is (waits_after sp clear told after_table refl refl u i);
            orders = orders_after;
            gone = growth.gone ∙ f.stands.gone;
            starts = f.stands.starts;
            closes = ap (λ n. n + 1) f.stands.closes;
            going = f.stands.going;
          }))

    -- ---- an end

    module _ (ms : List (Output P)) (cs : List (Copy P)) (made : List (D × Digest)) (copied sp : List D)
        (made_are : made_keys ms ≡ low_made s.job made) (copied_are : copy_names cs ≡ low_names s.job copied)
        (a : DoneAllowed s.job o made copied sp) (clear : NoClash s.job (known_after s.job v.book sp))
        (told : views after_table.rows ≡ map s.lower (known_after s.job v.book sp)) (out_lies : Each (OutputLies s o) ms)
        (copy_lies : Each (CopyLies s o) cs) (outs_fit : Each (OutputFits s.digest s.at after_table x) ms)
        (copies_fit : Each (CopyFits s.digest s.at after_table x) cs) where
      abbrev book' : List D
      book' = known_after s.job v.book sp

      outs_are : (ds : List D) → ((d : D) → In d ds → In d (s.job.outputs o.task)) → (as_ : List (D × Digest)) (zs : List (Output P))
          → made_keys zs ≡ low_made s.job as_ → Marked s.job ds as_ → Each (OutputLies s o) zs → Each (OutputFits s.digest s.at after_table x) zs
          → OneByOne (λ (y : D × Digest) (m : Output P). IsOutput s is book' (once sp clear told) clear o.worker y.0 m) as_ zs
      outs_are [] g [] [] e m l t = tt
      outs_are [] g [] (z ∷ zs) e m l t = cc
      outs_are [] g (y ∷ ys) zs e m l t = absurd m
      outs_are (d ∷ ds) g [] zs e m l t = absurd m
      outs_are (d ∷ ds) g (y ∷ ys) [] e m l t = cc
      outs_are (d ∷ ds) g (y ∷ ys) (z ∷ zs) e m l t =
          let n : z.name ≡ s.job.name y.0 = ap (λ (p : Digest × Digest). p.0) (first e) in
          let rest : made_keys zs ≡ low_made s.job ys = cc in
          let i : In y.0 (s.job.outputs o.task) = subst (λ u. In u (s.job.outputs o.task)) (sym m.0) (g d (inl refl)) in (
            record {
              known = kept sp clear told y.0 (each_of (λ u. In u v.book) y.0 (s.job.outputs o.task) i
                  (each_of (λ (q : OpenStart D). Each (λ u. In u v.book) (s.job.outputs q.task)) o v.orders open_in inf.shelved.outputs));
              here = t.0.here ∙ order.worker;
              object = l.0 y.0 i n;
            },
            outs_are ds (λ u j. g u (inr j)) ys zs rest m.2 l.1 t.1,
          )
        where
          first : {A : Type 0} {x y : A} {xs ys : List A} → x ∷ xs ≡ y ∷ ys → x ≡ y
          first e = cc

      copies_are : (ds : List D) (zs : List (Copy P)) → copy_names zs ≡ low_names s.job ds → Each (Copied s.job o) ds → Each (CopyLies s o) zs
          → Each (CopyFits s.digest s.at after_table x) zs → OneByOne (IsCopy s is book' (once sp clear told) clear o.worker) ds zs
      copies_are [] [] e m l t = tt
      copies_are [] (z ∷ zs) e m l t = cc
      copies_are (d ∷ ds) [] e m l t = cc
      copies_are (d ∷ ds) (z ∷ zs) e m l t =
          let n : z.name ≡ s.job.name d = cc in
          let rest : copy_names zs ≡ low_names s.job ds = cc in (
            record {
              known = kept sp clear told d (fetched_in s.job is.laws v inf.shelved o open_in d m.0.1.0 m.0.1.1);
              here = t.0.here ∙ order.worker;
              object = l.0 d m.0 n;
            },
            copies_are ds zs rest m.1 l.1 t.1,
          )

      abbrev made_table : TableSeen P
      made_table = with_outputs ms after_table

      made_rows : OneByOne (RowIs s (placed s.job (names_of made) o.worker v.places)) book' made_table.rows
          × AllByRecursion (Titled s is) made_table.rows
      made_rows =
          outputs_placed s is book' (once sp clear told) clear o.worker v.places after_table made ms made_are
          (outs_are (s.job.outputs o.task) (λ d i. i) made ms made_are a.marked out_lies outs_fit) titled_after (rows_after sp clear told)

      copied_rows : OneByOne (RowIs s (placed s.job copied o.worker (placed s.job (names_of made) o.worker v.places))) book'
          (with_copies cs made_table).rows
      copied_rows =
          copies_placed s is book' (once sp clear told) clear o.worker (placed s.job (names_of made) o.worker v.places) made_table copied cs
          copied_are (copies_are copied cs copied_are a.fetched copy_lies copies_fit) made_rows.1 made_rows.0

      pub done_follows : b.stopped ≡ false → Follows s (h ++ done k made copied sp ∷ []) (accepted s.digest s.at b x.out spawned (rep.made ms cs))
      done_follows going =
          let now = after_done s.job is.laws v k made copied sp o taken.is_open in
          let outs = outputs_same ms after_table in
          let copies = copies_same cs made_table in
          goes_on s is h b sound f (done k made copied sp) (accepted s.digest s.at b x.out spawned (rep.made ms cs)) refl
          (ap (λ n. b.journal ++ Entry.Done n (made_keys ms) (copy_names cs) ∷ []) (sym number)
          ∙ (ap (λ ks. b.journal ++ Entry.Done k ks (copy_names cs) ∷ []) made_are
          ∙ ap (λ ks. b.journal ++ Entry.Done k (low_made s.job made) ks ∷ []) copied_are))
          (record {
            going = f.stands.going going;
            allowed = (o, taken.is_open, a);
            room = subst (λ (u : Standing D). length u.book ≤ b.plan.limit) (sym now) (size sp clear told);
            apart = subst (λ (u : Standing D). NoClash s.job u.book) (sym now) clear;
          })
          (subst (λ u. StandsFor s u (accepted s.digest s.at b x.out spawned (rep.made ms cs))) (sym now) (record {
            keys = f.stands.keys;
            main = f.stands.main;
            rows = copied_rows;
            waits = waits_after sp clear told (with_copies cs made_table) (copies.shown ∙ outs.shown) (copies.saved ∙ outs.saved);
            orders = orders_after;
            gone = copies.gone ∙ (outs.gone ∙ (growth.gone ∙ f.stands.gone));
            starts = f.stands.starts;
            closes = ap (λ n. n + 1) f.stands.closes;
            going = λ g. sym (ap is_root order.task ∙ root_is s.job o.task) ∙ g;
          }))
