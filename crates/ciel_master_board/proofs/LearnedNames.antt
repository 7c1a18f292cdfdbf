-- What learning comes to, by names and by descriptions.
use Rattle.std.proofs.Common.{◌≡◌, ◌≢◌, ℕ, suc, ◌≤◌, List, [], ◌∷◌, ◌++◌, append_assoc, length, Bool, true, false, cond, map, nat_lt, Option, Some}
use Rattle.std.proofs.Common.{None, Ok, Err, ◌⊎◌, inl, inr, refl, ap, sym, ◌∙◌, subst}
use Rattle.std.specs.List.{AllByRecursion, list_any}
use Rattle.std.specs.Option.{option_map, option_map_or}
use Rattle.std.proofs.lemmas.List.{append-nil, map-append}
use Rattle.std.proofs.lemmas.Bool.{ltb-false}
use Rattle.sky_base.specs.Name.{canon, digested}
use Rattle.sky_base.specs.ObjectView.{desc_view}
use Rattle.sky_base.specs.Val.{Desc, same_text}
use Rattle.sky_base.specs.declared.object.Named.{Named}
use Rattle.sky_base.proofs.Exact.{exact_text, self_text}
use Rattle.ciel_journal.specs.History.{learned as known_after}
use Rattle.ciel_journal.specs.Job.{Digest, Each, In, Job}
use Rattle.ciel_journal.proofs.Members.{bool_cases, in_any}
use Rattle.ciel_journal.proofs.Numbers.{in_left}
use Rattle.ciel_name.specs.Laws.{SpelledDesc}
use Rattle.ciel_name.proofs.Canon.{one_canon}
use Rattle.ciel_journal_job.specs.Report.{IsNew, Learns}
use Rattle.ciel_table.specs.Learning.{if_held, kept_bytes, learn_answer, learn_at, learned, new_row, rows_after}
use Rattle.ciel_table.specs.Named.{found, place_of}
use Rattle.ciel_table.specs.Seen.{TableSeen, find, row_name, row_named}
use Rattle.ciel_table.specs.declared.refusal.Learn.{Learn}
use Rattle.ciel_table.specs.declared.row.Row.{Row}
use Rattle.ciel_table.proofs.Lists.{all_push}
use Rattle.ciel_want.proofs.Rows.{item_at}
use Rattle.ciel_master_board.specs.Follows.{OneByOne, RowIs}
use Rattle.ciel_master_board.specs.Reports.{AllLearned, IsNamed, learned_all, named_view}
use Rattle.ciel_master_board.specs.Setting.{HasObject, Setting}
use Rattle.ciel_master_board.proofs.Pairs.{join}

module _ {X : Type 0} (name : X → List ℕ) where
  pub found_in : (n : Digest) (xs : List X) (x : X) → found name n xs ≡ Some x → In x xs
  found_in n [] x e = cc
  found_in n (y ∷ ys) x e = pick (same_text n (name y)) e (found_in n ys x)
    where
      pick : (b : Bool) → cond b (Some y) (found name n ys) ≡ Some x → (found name n ys ≡ Some x → In x ys) → In x (y ∷ ys)
      pick true h k = let q : y ≡ x = cc in inl (sym q)
      pick false h k = inr (k h)

  pub found_named : (n : Digest) (xs : List X) (x : X) → found name n xs ≡ Some x → name x ≡ n
  found_named n [] x e = cc
  found_named n (y ∷ ys) x e = pick (bool_cases (same_text n (name y))) (found_named n ys x)
    where
      pick : ((same_text n (name y) ≡ true) ⊎ (same_text n (name y) ≡ false)) → (found name n ys ≡ Some x → name x ≡ n) → name x ≡ n
      pick (inl t) r =
          let s : Some y ≡ Some x = sym (ap (λ b. cond b (Some y) (found name n ys)) t) ∙ e in
          let q : y ≡ x = cc in sym (ap name q) ∙ sym (exact_text n (name y) t)
      pick (inr f) r = r (sym (ap (λ b. cond b (Some y) (found name n ys)) f) ∙ e)

module _ {P : Type 0} where
  -- the descriptions of rows, by names
  abbrev pub views : List (Row P) → List (Desc (List ℕ))
  views rs = map (λ (r : Row P). desc_view r.desc) rs

  pub view_in : (r : Row P) (rs : List (Row P)) → In r rs → In (desc_view r.desc) (views rs)
  view_in r [] i = absurd i
  view_in r (x ∷ xs) (inl e) = inl (ap (λ (z : Row P). desc_view z.desc) e)
  view_in r (x ∷ xs) (inr i) = inr (view_in r xs i)

  in_views : (d : Desc (List ℕ)) (rs : List (Row P)) → In d (views rs) → (r : Row P) × In r rs × (d ≡ desc_view r.desc)
  in_views d [] i = absurd i
  in_views d (x ∷ xs) (inl e) = (x, inl refl, e)
  in_views d (x ∷ xs) (inr i) = let q = in_views d xs i in (q.0, inr q.1, q.2)

  -- what has no row stands in none
  unfound : (n : Digest) (rs : List (Row P)) → place_of row_name n rs ≡ None → (r : Row P) → In r rs → r.name ≡ n → ⊥
  unfound n [] e r i k = absurd i
  unfound n (x ∷ xs) e r i k =
      pick (bool_cases (same_text n x.name)) (place_of row_name n xs) refl i (λ h j. unfound n xs h r j k)
    where
      pick : ((same_text n x.name ≡ true) ⊎ (same_text n x.name ≡ false)) → (o : Option ℕ) → place_of row_name n xs ≡ o → In r (x ∷ xs)
          → (place_of row_name n xs ≡ None → In r xs → ⊥) → ⊥
      pick (inl y) o h j go =
          let bad : Some 0 ≡ None = sym (ap (λ b. cond b (Some 0) (option_map suc (place_of row_name n xs))) y) ∙ e in cc
      pick (inr f) o h (inl s) go =
          let y : same_text n x.name ≡ true = subst (λ m. same_text n m ≡ true) (sym k ∙ ap (λ (z : Row P). z.name) s) (self_text n) in
          let bad : true ≡ false = sym y ∙ f in
          cc
      pick (inr f) None h (inr j) go = go h j
      pick (inr f) (Some i) h (inr j) go =
          let bad : Some (suc i) ≡ None = sym (ap (option_map suc) h)
          ∙ (sym (ap (λ b. cond b (Some 0) (option_map suc (place_of row_name n xs))) f) ∙ e) in cc

module _ {P : Type 0} (digest : List ℕ → List ℕ) where
  -- a row that has the name of its description, which its canonical bytes spell
  pub record RowNamed (r : Row P) : Type 0 where
    pub name : r.name ≡ digested digest (desc_view r.desc)
    pub spelled : SpelledDesc (desc_view r.desc)

  new_named : (n : Named) → IsNamed digest n → RowNamed (new_row digest n)
  new_named n k = record { name = k.name; spelled = k.spelled }

  -- ---- one that is learned

  -- it has a row already, or it is new
  pub data Comes (n : Named) (t : TableSeen P) : Type 0 where
    there : (learned digest n t).rows ≡ t.rows → (r : Row P) → In r t.rows → r.name ≡ n.name → find n.name t ≢ None → row_named n.name t ≡ Some r
        → Comes n t
    new : (learned digest n t).rows ≡ t.rows ++ new_row digest n ∷ [] → find n.name t ≡ None → Comes n t

  pub comes : (n : Named) (t : TableSeen P) → Comes n t
  comes n t = pick (find n.name t) refl
    where
      pick : (o : Option ℕ) → find n.name t ≡ o → Comes n t
      pick None e = new (ap (λ o. rows_after o digest n t.rows) e) e
      pick (Some id) e =
          let q = item_at row_name n.name t.rows id e in
          there (ap (λ o. rows_after o digest n t.rows) e) q.item (found_in row_name n.name t.rows q.item q.is_found) q.named
          (λ h. let bad : None ≡ Some id = sym h ∙ e in cc) q.is_found

  -- where it has a row and is learned, the row has its description
  held_same : (n : Named) (t : TableSeen P) (r : Row P) → row_named n.name t ≡ Some r → find n.name t ≢ None → RowNamed r → IsNamed digest n
      → (id : ℕ) → learn_answer n t ≡ Ok id → desc_view r.desc ≡ named_view n
  held_same n t r f some k m id e = pick (find n.name t) refl e
    where
      turn : (i : ℕ) → ((same_text (kept_bytes n.name t) (canon (named_view n)) ≡ true)
          ⊎ (same_text (kept_bytes n.name t) (canon (named_view n)) ≡ false)) → if_held i (kept_bytes n.name t) (canon (named_view n)) ≡ Ok id
          → desc_view r.desc ≡ named_view n
      turn i (inl y) h =
          one_canon (desc_view r.desc) (named_view n) k.spelled m.spelled
          (sym (ap (λ o. option_map_or (λ (x : Row P). canon (desc_view x.desc)) o []) f)
          ∙ exact_text (kept_bytes n.name t) (canon (named_view n)) y)
      turn i (inr y) h =
          let bad : Err (Learn.Clash (kept_bytes n.name t) (canon (named_view n))) ≡ Ok id =
          sym (ap (λ b. cond b (Ok i) (Err (Learn.Clash (kept_bytes n.name t) (canon (named_view n))))) y) ∙ h in cc

      pick : (o : Option ℕ) → find n.name t ≡ o → learn_at o n t ≡ Ok id → desc_view r.desc ≡ named_view n
      pick None g h = absurd (some g)
      pick (Some i) g h = turn i (bool_cases (same_text (kept_bytes n.name t) (canon (named_view n)))) h

  new_by_name : (n : Named) (t : TableSeen P) → AllByRecursion RowNamed t.rows → IsNamed digest n → find n.name t ≡ None
      → IsNew (digested digest) (views t.rows) (named_view n)
  new_by_name n t all m e d i k =
      let q = in_views d t.rows i in
      unfound n.name t.rows e q.0 q.1 (named_row q.0 q.1 ∙ (sym (ap (digested digest) q.2) ∙ (k ∙ sym m.name)))
    where
      named_row : (r : Row P) → In r t.rows → r.name ≡ (digested digest) (desc_view r.desc)
      named_row r j = go t.rows all j
        where
          go : (rs : List (Row P)) → AllByRecursion RowNamed rs → In r rs → r.name ≡ (digested digest) (desc_view r.desc)
          go [] a j = absurd j
          go (x ∷ xs) a (inl s) = subst (λ (z : Row P). z.name ≡ (digested digest) (desc_view z.desc)) (sym s) a.0.name
          go (x ∷ xs) a (inr j) = go xs a.1 j

  pub in_rows : (rs : List (Row P)) → AllByRecursion RowNamed rs → (r : Row P) → In r rs → RowNamed r
  in_rows [] a r i = absurd i
  in_rows (x ∷ xs) a r (inl s) = subst RowNamed (sym s) a.0
  in_rows (x ∷ xs) a r (inr i) = in_rows xs a.1 r i

  -- all rows stay named
  pub named_after : (n : Named) (t : TableSeen P) → AllByRecursion RowNamed t.rows → IsNamed digest n
      → AllByRecursion RowNamed (learned digest n t).rows
  named_after n t all m = pick (comes n t)
    where
      pick : Comes n t → AllByRecursion RowNamed (learned digest n t).rows
      pick (there e r i k some f) = subst (AllByRecursion RowNamed) (sym e) all
      pick (new e none) = subst (AllByRecursion RowNamed) (sym e) (all_push RowNamed t.rows (new_row digest n) all (new_named n m))

  pub named_all : (ns : List Named) (t : TableSeen P) → AllByRecursion RowNamed t.rows → Each (IsNamed digest) ns
      → AllByRecursion RowNamed (learned_all digest ns t).rows
  named_all [] t all ms = all
  named_all (n ∷ ns) t all ms = named_all ns (learned digest n t) (named_after n t all ms.0) ms.1

  -- ---- all of them

  -- the descriptions are learned as the names are
  pub learns : (ns : List Named) (t : TableSeen P) → AllByRecursion RowNamed t.rows → Each (IsNamed digest) ns → AllLearned digest ns t
      → Learns (digested digest) (views t.rows) (map named_view ns) (views (learned_all digest ns t).rows)
  learns [] t all ms l = refl
  learns (n ∷ ns) t all ms l = pick (comes n t) (learns ns (learned digest n t) (named_after n t all ms.0) ms.1 l.1)
    where
      end : List (Desc (List ℕ))
      end = views (learned_all digest ns (learned digest n t)).rows

      pick : Comes n t → Learns (digested digest) (views (learned digest n t).rows) (map named_view ns) end
          → Learns (digested digest) (views t.rows) (map named_view (n ∷ ns)) end
      pick (there e r i k some f) rest =
          let same : desc_view r.desc ≡ named_view n = held_same n t r f some (in_rows t.rows all r i) ms.0 l.0.0 l.0.1 in
          inl (
            subst (λ z. In z (views t.rows)) same (view_in r t.rows i),
            subst (λ rs. Learns (digested digest) (views rs) (map named_view ns) end) e rest,
          )
      pick (new e none) rest =
          inr (
            new_by_name n t all ms.0 none,
            subst (λ zs. Learns (digested digest) zs (map named_view ns) end)
                (ap views e ∙ map-append (λ (r : Row P). desc_view r.desc) t.rows (new_row digest n ∷ [])) rest,
          )

  -- rows are added at the end, with no place; nothing else changes
  pub record Grown (t u : TableSeen P) : Type 0 where
    pub news : List (Row P)
    pub rows : u.rows ≡ t.rows ++ news
    pub bare : AllByRecursion (λ (r : Row P). r.places ≡ []) news
    pub limit : u.limit ≡ t.limit
    pub shown : u.shown ≡ t.shown
    pub saved : u.saved ≡ t.saved
    pub gone : u.gone ≡ t.gone

  grown_one : (n : Named) (t : TableSeen P) → Grown t (learned digest n t)
  grown_one n t = pick (comes n t)
    where
      pick : Comes n t → Grown t (learned digest n t)
      pick (there e r i k some f) =
          record { news = []; rows = e ∙ sym (append-nil t.rows); bare = tt; limit = refl; shown = refl; saved = refl; gone = refl }
      pick (new e none) =
          record { news = new_row digest n ∷ []; rows = e; bare = (refl, tt); limit = refl; shown = refl; saved = refl; gone = refl }

  all_join : (xs ys : List (Row P)) → AllByRecursion (λ (r : Row P). r.places ≡ []) xs → AllByRecursion (λ (r : Row P). r.places ≡ []) ys
      → AllByRecursion (λ (r : Row P). r.places ≡ []) (xs ++ ys)
  all_join [] ys a b = b
  all_join (x ∷ xs) ys a b = (a.0, all_join xs ys a.1 b)

  pub grown : (ns : List Named) (t : TableSeen P) → Grown t (learned_all digest ns t)
  grown [] t =
      record { news = []; rows = sym (append-nil t.rows); bare = tt; limit = refl; shown = refl; saved = refl; gone = refl }
  grown (n ∷ ns) t =
      let a = grown_one n t in
      let b = grown ns (learned digest n t) in
      record {
        news = a.news ++ b.news;
        rows = b.rows ∙ (ap (λ rs. rs ++ b.news) a.rows ∙ append_assoc t.rows a.news b.news);
        bare = all_join a.news b.news a.bare b.bare;
        limit = b.limit ∙ a.limit;
        shown = b.shown ∙ a.shown;
        saved = b.saved ∙ a.saved;
        gone = b.gone ∙ a.gone;
      }

  -- ---- what is refused

  -- a clash is with the row of the name
  pub record Taken (n : Named) (t : TableSeen P) (kept bytes : List ℕ) : Type 0 where
    pub row : Row P
    pub there : In row t.rows
    pub name : row.name ≡ n.name
    pub kept_is : canon (desc_view row.desc) ≡ kept
    pub given_is : canon (named_view n) ≡ bytes
    pub other : desc_view row.desc ≢ named_view n

  pub clash : (n : Named) (t : TableSeen P) (kept bytes : List ℕ) → learn_answer n t ≡ Err (Learn.Clash kept bytes) → Taken n t kept bytes
  clash n t kept bytes e = pick (find n.name t) refl e
    where
      none : (b : Bool) → cond b (Ok (length t.rows)) (Err (Learn.Full (length t.rows))) ≡ Err (Learn.Clash kept bytes) → ⊥
      none true h = cc
      none false h = cc

      turn : (i : ℕ) → find n.name t ≡ Some i → ((same_text (kept_bytes n.name t) (canon (named_view n)) ≡ true)
          ⊎ (same_text (kept_bytes n.name t) (canon (named_view n)) ≡ false)) → if_held i (kept_bytes n.name t) (canon (named_view n))
          ≡ Err (Learn.Clash kept bytes) → Taken n t kept bytes
      turn i g (inl y) h =
          let bad : Ok i ≡ Err (Learn.Clash kept bytes) =
          sym (ap (λ b. cond b (Ok i) (Err (Learn.Clash (kept_bytes n.name t) (canon (named_view n))))) y) ∙ h in cc
      turn i g (inr y) h =
          let q = item_at row_name n.name t.rows i g in
          let is : Err (Learn.Clash (kept_bytes n.name t) (canon (named_view n))) ≡ Err (Learn.Clash kept bytes) =
          sym (ap (λ b. cond b (Ok i) (Err (Learn.Clash (kept_bytes n.name t) (canon (named_view n))))) y) ∙ h in
          let a : kept_bytes n.name t ≡ kept = cc in
          let c : canon (named_view n) ≡ bytes = cc in
          let row : kept_bytes n.name t ≡ canon (desc_view q.item.desc) =
          ap (λ o. option_map_or (λ (x : Row P). canon (desc_view x.desc)) o []) q.is_found in
          record {
            row = q.item;
            there = found_in row_name n.name t.rows q.item q.is_found;
            name = q.named;
            kept_is = sym row ∙ a;
            given_is = c;
            other = λ s. differ (subst (λ z. same_text z (canon (named_view n)) ≡ true) (sym (row ∙ ap canon s)) (self_text (canon (named_view n))));
          }
        where
          differ : same_text (kept_bytes n.name t) (canon (named_view n)) ≡ true → ⊥
          differ z = let bad : true ≡ false = sym z ∙ y in cc

      pick : (o : Option ℕ) → find n.name t ≡ o → learn_at o n t ≡ Err (Learn.Clash kept bytes) → Taken n t kept bytes
      pick None g h = absurd (none (nat_lt (length t.rows) t.limit) h)
      pick (Some i) g h = turn i g (bool_cases (same_text (kept_bytes n.name t) (canon (named_view n)))) h

  -- there is no room for a new name
  pub record NoRoom (n : Named) (t : TableSeen P) (held : ℕ) : Type 0 where
    pub new : find n.name t ≡ None
    pub held_is : held ≡ length t.rows
    pub full : t.limit ≤ length t.rows

  pub full : (n : Named) (t : TableSeen P) (held : ℕ) → learn_answer n t ≡ Err (Learn.Full held) → NoRoom n t held
  full n t held e = pick (find n.name t) refl e
    where
      turn : (b : Bool) → nat_lt (length t.rows) t.limit ≡ b → find n.name t ≡ None
          → cond b (Ok (length t.rows)) (Err (Learn.Full (length t.rows))) ≡ Err (Learn.Full held) → NoRoom n t held
      turn true y g h = cc
      turn false y g h =
          let a : length t.rows ≡ held = cc in record { new = g; held_is = sym a; full = ltb-false (length t.rows) t.limit y }

      known : (b : Bool) (i : ℕ) (x y : List ℕ) → cond b (Ok i) (Err (Learn.Clash x y)) ≡ Err (Learn.Full held) → ⊥
      known true i x y h = cc
      known false i x y h = cc

      pick : (o : Option ℕ) → find n.name t ≡ o → learn_at o n t ≡ Err (Learn.Full held) → NoRoom n t held
      pick None g h = turn (nat_lt (length t.rows) t.limit) refl g h
      pick (Some i) g h = absurd (known (same_text (kept_bytes n.name t) (canon (named_view n))) i (kept_bytes n.name t) (canon (named_view n)) h)

  pub new_name : (n : Named) (t : TableSeen P) → AllByRecursion RowNamed t.rows → IsNamed digest n → find n.name t ≡ None
      → IsNew (digested digest) (views t.rows) (named_view n)
  new_name n t all m e = new_by_name n t all m e

-- ---- the book and the rows

module _ {D : Type 0} (job : Job D) where
  -- the book as it grows: what is new comes to the end
  pub record More (book after : List D) : Type 0 where
    pub news : List D
    pub is : after ≡ book ++ news
    pub new : (d : D) → In d news → In d book → ⊥

module _ {D : Type 0} (job : Job D) (refl_ : (d : D) → job.same d d ≡ true) where
  pub book_more : (ds book : List D) → More job book (known_after job book ds)
  book_more [] book = record { news = []; is = sym (append-nil book); new = λ d i. absurd i }
  book_more (d ∷ ds) book =
      pick (bool_cases (list_any (job.same d) book)) (book_more ds book) (book_more ds (book ++ d ∷ []))
    where
      new : list_any (job.same d) book ≡ false → (q : More job (book ++ d ∷ []) (known_after job (book ++ d ∷ []) ds)) → (x : D)
          → In x (d ∷ q.news) → In x book → ⊥
      new y q x (inl s) j =
          let z : list_any (job.same d) book ≡ true = in_any job.same refl_ d book (subst (λ u. In u book) s j) in
          let bad : true ≡ false = sym z ∙ y in
          cc
      new y q x (inr i) j = q.new x i (in_left x book (d ∷ []) j)

      pick : ((list_any (job.same d) book ≡ true) ⊎ (list_any (job.same d) book ≡ false)) → More job book (known_after job book ds)
          → More job (book ++ d ∷ []) (known_after job (book ++ d ∷ []) ds)
          → More job book (known_after job (cond (list_any (job.same d) book) book (book ++ d ∷ [])) ds)
      pick (inl y) p q = subst (λ b. More job book (known_after job (cond b book (book ++ d ∷ [])) ds)) (sym y) p
      pick (inr y) p q =
          subst (λ b. More job book (known_after job (cond b book (book ++ d ∷ [])) ds)) (sym y) (record {
            news = d ∷ q.news;
            is = q.is ∙ append_assoc book (d ∷ []) q.news;
            new = new y q;
          })

module _ {D P B : Type 0} (s : Setting D P B) (had : D → List ℕ) where
  pub views_are : (ds : List D) (rs : List (Row P)) → OneByOne (RowIs s had) ds rs → views rs ≡ map s.lower ds
  views_are [] [] h = refl
  views_are [] (r ∷ rs) h = absurd h
  views_are (d ∷ ds) [] h = absurd h
  views_are (d ∷ ds) (r ∷ rs) h = ap (λ z. z ∷ views rs) h.0.spells ∙ ap (λ zs. s.lower d ∷ zs) (views_are ds rs h.1)

  rest_are : (ds es : List D) (rs qs : List (Row P)) → OneByOne (RowIs s had) ds rs → views (rs ++ qs) ≡ map s.lower (ds ++ es) → views qs
      ≡ map s.lower es
  rest_are [] es [] qs h e = e
  rest_are [] es (r ∷ rs) qs h e = absurd h
  rest_are (d ∷ ds) es [] qs h e = absurd h
  rest_are (d ∷ ds) es (r ∷ rs) qs h e =
      let k : views (rs ++ qs) ≡ map s.lower (ds ++ es) = cc in rest_are ds es rs qs h.1 k

  bare_rows : (es : List D) (qs : List (Row P)) → views qs ≡ map s.lower es → AllByRecursion (λ (r : Row P). r.places ≡ []) qs
      → ((d : D) → In d es → had d ≡ []) → OneByOne (RowIs s had) es qs
  bare_rows [] [] e a none = tt
  bare_rows [] (q ∷ qs) e a none = cc
  bare_rows (d ∷ ds) [] e a none = cc
  bare_rows (d ∷ ds) (q ∷ qs) e a none =
      let k : desc_view q.desc ≡ s.lower d = cc in
      let r : views qs ≡ map s.lower ds = cc in (
        record {
          spells = k;
          places = ap (map s.at) a.0 ∙ sym (none d (inl refl));
          objects = subst (AllByRecursion (λ p. HasObject s p d)) (sym a.0) tt;
        },
        bare_rows ds qs r a.1 (λ x i. none x (inr i)),
      )

  -- the rows after learning are the book then
  pub rows_more : (digest : List ℕ → List ℕ) (book after : List D) (t u : TableSeen P) → OneByOne (RowIs s had) book t.rows → Grown digest t u
      → (m : More s.job book after) → views u.rows ≡ map s.lower after → ((d : D) → In d m.news → had d ≡ [])
      → OneByOne (RowIs s had) after u.rows
  rows_more digest book after t u h g m e none =
      let k : views (t.rows ++ g.news) ≡ map s.lower (book ++ m.news) = sym (ap views g.rows) ∙ (e ∙ ap (map s.lower) m.is) in
      let new : OneByOne (RowIs s had) m.news g.news = bare_rows m.news g.news (rest_are book m.news t.rows g.news h k) g.bare none in
      subst (λ rs. OneByOne (RowIs s had) after rs) (sym g.rows)
      (subst (λ ds. OneByOne (RowIs s had) ds (t.rows ++ g.news)) (sym m.is) (join (RowIs s had) book t.rows m.news g.news h new))
