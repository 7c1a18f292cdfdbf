-- Places of what was made and copied: the rows are the book with them.
use Rattle.std.proofs.Common.{◌≡◌, ℕ, List, [], ◌∷◌, ◌++◌, true, false, cond, ◌⊎◌, inl, inr, refl, ap, sym, ◌∙◌, subst}
use Rattle.std.specs.List.{AllByRecursion}
use Rattle.std.proofs.lemmas.List.{map-append}
use Rattle.sky_base.specs.Val.{same_text}
use Rattle.sky_base.proofs.Exact.{exact_text, self_text}
use Rattle.ciel_journal.specs.Entries.{low_made, low_names}
use Rattle.ciel_journal.specs.History.{names_of, placed}
use Rattle.ciel_journal.specs.Job.{Digest, In, Once}
use Rattle.ciel_journal.specs.Lawful.{NoClash}
use Rattle.ciel_journal.proofs.Members.{bool_cases}
use Rattle.ciel_table.specs.Changes as c
use Rattle.ciel_table.specs.Changes.{row_with}
use Rattle.ciel_table.specs.Named.{changed}
use Rattle.ciel_table.specs.Seen.{TableSeen, row_name}
use Rattle.ciel_table.specs.declared.row.Row.{Row}
use Rattle.ciel_table.proofs.ByName.{all_changed}
use Rattle.ciel_table.proofs.Lists.{all_push}
use Rattle.ciel_master_board.specs.Follows.{OneByOne, RowIs}
use Rattle.ciel_master_board.specs.Moves.{with_copies, with_outputs}
use Rattle.ciel_master_board.specs.Reports.{Copy, Output, copy_names, made_keys}
use Rattle.ciel_master_board.specs.Setting.{HasObject, IsSetting, Setting}
use Rattle.ciel_master_board.proofs.TableLookups.{Titled, row_title}
use Rattle.ciel_master_board.proofs.Pairs.{more}

-- what stands once stands in nothing before
once_not : {D : Type 0} (past ds : List D) → Once past ds → (x : D) → In x ds → In x past → ⊥
once_not past [] o x i j = i
once_not past (d ∷ ds) o x (inl s) j = o.0 (subst (λ z. In z past) s j)
once_not past (d ∷ ds) o x (inr i) j = once_not (d ∷ past) ds o.1 x i (inr j)

-- nothing but rows changes
pub record SameBut {P : Type 0} (t u : TableSeen P) : Type 0 where
  pub limit : u.limit ≡ t.limit
  pub shown : u.shown ≡ t.shown
  pub saved : u.saved ≡ t.saved
  pub gone : u.gone ≡ t.gone

module _ {P : Type 0} where
  pub outputs_same : (ms : List (Output P)) (t : TableSeen P) → SameBut t (with_outputs ms t)
  outputs_same [] t = record { limit = refl; shown = refl; saved = refl; gone = refl }
  outputs_same (m ∷ ms) t =
      let r = outputs_same ms (c.placed m.name m.place t) in
      record { limit = r.limit; shown = r.shown; saved = r.saved; gone = r.gone }

  pub copies_same : (xs : List (Copy P)) (t : TableSeen P) → SameBut t (with_copies xs t)
  copies_same [] t = record { limit = refl; shown = refl; saved = refl; gone = refl }
  copies_same (x ∷ xs) t =
      let r = copies_same xs (c.placed x.name x.place t) in
      record { limit = r.limit; shown = r.shown; saved = r.saved; gone = r.gone }

module _ {D P B : Type 0} (s : Setting D P B) (is : IsSetting s) where
  -- what they have with one more
  abbrev with : D → ℕ → (D → List ℕ) → D → List ℕ
  with e w f d = cond (s.job.same e d) (f d ++ w ∷ []) (f d)

  here_row : (f : D → List ℕ) (e : D) (w : ℕ) (p : P) (r : Row P) → s.at p ≡ w → HasObject s p e → RowIs s f e r
      → RowIs s (with e w f) e (row_with p r)
  here_row f e w p r a k q =
      record {
        spells = q.spells;
        places = map-append s.at r.places (p ∷ [])
            ∙ (ap (λ xs. xs ++ s.at p ∷ []) q.places
            ∙ (ap (λ n. f e ++ n ∷ []) a ∙ ap (λ b. cond b (f e ++ w ∷ []) (f e)) (sym (is.laws.same_refl e))));
        objects = all_push (λ z. HasObject s z e) r.places p q.objects k;
      }

  other_row : (f : D → List ℕ) (e d : D) (w : ℕ) (r : Row P) → s.job.same e d ≡ false → RowIs s f d r → RowIs s (with e w f) d r
  other_row f e d w r n q =
      record {
        spells = q.spells;
        places = q.places ∙ ap (λ b. cond b (f d ++ w ∷ []) (f d)) (sym n);
        objects = q.objects;
      }

  differ : (e d : D) → (e ≡ d → ⊥) → s.job.same e d ≡ false
  differ e d n = pick (bool_cases (s.job.same e d))
    where
      pick : ((s.job.same e d ≡ true) ⊎ (s.job.same e d ≡ false)) → s.job.same e d ≡ false
      pick (inl y) = absurd (n (is.laws.same_exact e d y))
      pick (inr f) = f

  -- one more place of e
  place_one : (f : D → List ℕ) (e : D) (w : ℕ) (p : P) (n : Digest) → s.at p ≡ w → HasObject s p e → n ≡ s.job.name e
      → (past ds : List D) (rs : List (Row P)) → Once past ds → ((d : D) → In d ds → s.job.name d ≡ s.job.name e → d ≡ e)
      → AllByRecursion (Titled s is) rs → OneByOne (RowIs s f) ds rs → OneByOne (RowIs s (with e w f)) ds (changed row_name (row_with p) n rs)
  place_one f e w p n a k m past [] [] o apart t h = tt
  place_one f e w p n a k m past [] (r ∷ rs) o apart t h = absurd h
  place_one f e w p n a k m past (d ∷ ds) [] o apart t h = absurd h
  place_one f e w p n a k m past (d ∷ ds) (r ∷ rs) o apart t h =
      turn (bool_cases (same_text n r.name)) (place_one f e w p n a k m (d ∷ past) ds rs o.1 (λ x i. apart x (inr i)) t.1 h.1)
    where
      title : r.name ≡ s.job.name d
      title = row_title s is f d r h.0 t.0

      turn : ((same_text n r.name ≡ true) ⊎ (same_text n r.name ≡ false))
          → OneByOne (RowIs s (with e w f)) ds (changed row_name (row_with p) n rs)
          → OneByOne (RowIs s (with e w f)) (d ∷ ds) (cond (same_text n r.name) (row_with p r ∷ rs) (r ∷ changed row_name (row_with p) n rs))
      turn (inl y) rest =
          let same : d ≡ e = apart d (inl refl) (sym title ∙ (sym (exact_text n r.name y) ∙ m)) in
          let head : RowIs s (with e w f) d (row_with p r) =
          subst (λ x. RowIs s (with e w f) x (row_with p r)) (sym same) (here_row f e w p r a k (subst (λ x. RowIs s f x r) same h.0)) in
          let tail : OneByOne (RowIs s (with e w f)) ds rs =
          more (RowIs s f) (RowIs s (with e w f)) ds rs
          (λ x z i q. other_row f e x w z (differ e x (λ g. once_not (d ∷ past) ds o.1 x i (inl (sym g ∙ sym same)))) q) h.1 in
          subst (λ b. OneByOne (RowIs s (with e w f)) (d ∷ ds) (cond b (row_with p r ∷ rs) (r ∷ changed row_name (row_with p) n rs))) (sym y)
          (head, tail)
      turn (inr y) rest =
          let head : RowIs s (with e w f) d r = other_row f e d w r (differ e d (λ g. clash g)) h.0 in
          subst (λ b. OneByOne (RowIs s (with e w f)) (d ∷ ds) (cond b (row_with p r ∷ rs) (r ∷ changed row_name (row_with p) n rs))) (sym y)
          (head, rest)
        where
          clash : e ≡ d → ⊥
          clash g =
              let z : same_text n r.name ≡ true = subst (λ x. same_text n x ≡ true) (m ∙ (ap s.job.name g ∙ sym title)) (self_text n) in
              let bad : true ≡ false = sym z ∙ y in
              cc

  titled_on : (p : P) (n : Digest) (rs : List (Row P)) → AllByRecursion (Titled s is) rs
      → AllByRecursion (Titled s is) (changed row_name (row_with p) n rs)
  titled_on p n rs t = all_changed row_name (Titled s is) (row_with p) n rs (λ r f k. k) t

  module _ (book : List D) (once : Once [] book) (apart : NoClash s.job book) (w : ℕ) where
    -- ---- what was made

    -- its object lies at the place beside its name, which is at this worker
    pub record IsOutput (d : D) (m : Output P) : Type 0 where
      pub known : In d book
      pub here : s.at m.place ≡ w
      pub object : HasObject s m.place d

    abbrev Pairs : List (D × Digest) → List (Output P) → Type 0
    Pairs as_ ms = OneByOne (λ (a : D × Digest) (m : Output P). IsOutput a.0 m) as_ ms

    pub outputs_placed : (f : D → List ℕ) (t : TableSeen P) (as_ : List (D × Digest)) (ms : List (Output P)) → made_keys ms ≡ low_made s.job as_
        → Pairs as_ ms → AllByRecursion (Titled s is) t.rows → OneByOne (RowIs s f) book t.rows
        → OneByOne (RowIs s (placed s.job (names_of as_) w f)) book (with_outputs ms t).rows
        × AllByRecursion (Titled s is) (with_outputs ms t).rows
    outputs_placed f t [] [] e k l h = (h, l)
    outputs_placed f t [] (m ∷ ms) e k l h = absurd k
    outputs_placed f t (a ∷ as_) [] e k l h = absurd k
    outputs_placed f t (a ∷ as_) (m ∷ ms) e k l h =
        let n : m.name ≡ s.job.name a.0 = ap (λ (z : Digest × Digest). z.0) (first e) in
        let rest : made_keys ms ≡ low_made s.job as_ = cc in
        outputs_placed (with a.0 w f) (c.placed m.name m.place t) as_ ms rest k.1 (titled_on m.place m.name t.rows l)
        (place_one f a.0 w m.place m.name k.0.here k.0.object n [] book t.rows once (λ d i q. apart d a.0 i k.0.known q) l h)
      where
        first : {A : Type 0} {x y : A} {xs ys : List A} → x ∷ xs ≡ y ∷ ys → x ≡ y
        first e = cc

    -- ---- what was copied

    pub record IsCopy (d : D) (x : Copy P) : Type 0 where
      pub known : In d book
      pub here : s.at x.place ≡ w
      pub object : HasObject s x.place d

    pub copies_placed : (f : D → List ℕ) (t : TableSeen P) (ds : List D) (xs : List (Copy P)) → copy_names xs ≡ low_names s.job ds
        → OneByOne IsCopy ds xs → AllByRecursion (Titled s is) t.rows → OneByOne (RowIs s f) book t.rows
        → OneByOne (RowIs s (placed s.job ds w f)) book (with_copies xs t).rows
    copies_placed f t [] [] e k l h = h
    copies_placed f t [] (x ∷ xs) e k l h = absurd k
    copies_placed f t (d ∷ ds) [] e k l h = absurd k
    copies_placed f t (d ∷ ds) (x ∷ xs) e k l h =
        let n : x.name ≡ s.job.name d = cc in
        let rest : copy_names xs ≡ low_names s.job ds = cc in
        copies_placed (with d w f) (c.placed x.name x.place t) ds xs rest k.1 (titled_on x.place x.name t.rows l)
        (place_one f d w x.place x.name k.0.here k.0.object n [] book t.rows once (λ y i q. apart y d i k.0.known q) l h)
