-- The place of each key among the entries so far, and the keys in order.
use Rattle.std.proofs.Common.{◌≡◌, ◌≤◌, ◌<◌, ◌+◌, ◌-◌, ◌⊎◌, inl, inr, ℕ, zero, suc, List, [], ◌∷◌, ◌++◌, Bool}
use Rattle.std.proofs.Common.{true, false, cond, length, map, is_some}
use Rattle.std.proofs.Common.{Option, Some, None, Ordering, Less, Equal, Greater, refl, ap, sym, ◌∙◌, subst, append-nil, arith, length-append}
use Rattle.std.specs.BTreeMap.{insert_entry, is_at}
use Rattle.std.specs.Cmp.Lexicographic.{slice_cmp}
use Rattle.std.specs.List.Sorted.{IsStrictlySortedBy}
use Rattle.std.specs.Map.{keys_of, lookup}
use Rattle.std.specs.Ordering.{is_eq, match_ordering, nat_cmp}
use Rattle.std.proofs.Math.ListN.{get_or-append}
use Rattle.std.proofs.Math.Seq.{get_or-append_seam}
use Rattle.std.proofs.lemmas.Cmp.{nat_list_cmp_total, tied_itself}
use Rattle.std.proofs.lemmas.List.{map-append}
use Rattle.std.proofs.lemmas.Map.Keys.{Less-from_sorted}
use Rattle.sky_base.proofs.Exact.{exact_text}
use Rattle.sky_base_law.specs.Tasks.{Each, In}
use Rattle.ciel_memo_key.specs.Sorted.{at}
use Rattle.ciel_memo_file.specs.declared.entry.Entry.{Entry as Held}
use Rattle.ciel_memo_file.specs.Entries.{Entry, entry_view}
use Rattle.ciel_memo_file.specs.File.{IsMemo, NoNext, file_bytes, key_bytes, most_of_a_file}
use Rattle.ciel_memo_file.specs.Ordered.{Ordered, Stands, entry_at, no_entry, place_at}
use Rattle.ciel_memo_file.specs.Steps.{AddedSo, Goes, HasPlace, NextRead, NoneWithin, Placed, PlacedAt}
use Rattle.ciel_memo_file.proofs.Files.{last_fits, last_new, last_whole, one_more}
use Rattle.ciel_memo_file.proofs.Spelling.{entries_free}

abbrev cmp : List ℕ → List ℕ → Ordering
cmp = slice_cmp nat_cmp

abbrev Pairs : Type 0
Pairs = List (List ℕ × ℕ)

abbrev found : List ℕ → Pairs → Option ℕ
found k ps = lookup (is_at (cmp k)) ps

-- ---- an item more

entry_before : (es : List Entry) (e : Entry) (j : ℕ) → j < length es → entry_at (es ++ e ∷ []) j ≡ entry_at es j
entry_before es e j h = get_or-append es (e ∷ []) no_entry j h

entry_last : (es : List Entry) (e : Entry) → entry_at (es ++ e ∷ []) (length es) ≡ e
entry_last es e = get_or-append_seam es e [] no_entry

length_push : (es : List Entry) (e : Entry) → length (es ++ e ∷ []) ≡ length es + 1
length_push es e = length-append es (e ∷ [])

still_placed : (es : List Entry) (e : Entry) (p : List ℕ × ℕ) → PlacedAt es p → PlacedAt (es ++ e ∷ []) p
still_placed es e p h = (omega (arith, h.0, length_push es e), h.1 ∙ ap key_bytes (sym (entry_before es e p.1 h.0)))

all_still : (es : List Entry) (e : Entry) (ps : Pairs) → Each (PlacedAt es) ps → Each (PlacedAt (es ++ e ∷ [])) ps
all_still es e [] h = tt
all_still es e (p ∷ ps) h = (still_placed es e p h.0, all_still es e ps h.1)

-- ---- a pair more

each_if : (P : List ℕ × ℕ → Type 0) (k : List ℕ) (v : ℕ) (p : List ℕ × ℕ) (ps : Pairs) (o : Ordering) → is_eq o ≡ false → P (k, v) → P p
    → Each P ps → Each P (insert_entry cmp ps k v) → Each P (match_ordering o ((k, v) ∷ p ∷ ps) ((p.0, v) ∷ ps) (p ∷ insert_entry cmp ps k v))
each_if P k v p ps Less n new here rest more = (new, (here, rest))
each_if P k v p ps Equal n new here rest more = absurd cc
each_if P k v p ps Greater n new here rest more = (here, more)

not_here : (b : Bool) (v : ℕ) (o : Option ℕ) → cond b (Some v) o ≡ None → (b ≡ false) × (o ≡ None)
not_here true v o h = absurd cc
not_here false v o h = (refl, h)

each_insert : (P : List ℕ × ℕ → Type 0) (k : List ℕ) (v : ℕ) (ps : Pairs) → found k ps ≡ None → P (k, v) → Each P ps
    → Each P (insert_entry cmp ps k v)
each_insert P k v [] none new all = (new, tt)
each_insert P k v (p ∷ ps) none new all =
    let n = not_here (is_eq (cmp k p.0)) p.1 (found k ps) none in
    each_if P k v p ps (cmp k p.0) n.0 new all.0 all.1 (each_insert P k v ps n.1 new all.1)

has_if : (j : ℕ) (k : List ℕ) (v : ℕ) (p : List ℕ × ℕ) (ps : Pairs) (o : Ordering) → is_eq o ≡ false → HasPlace j (p ∷ ps)
    → (HasPlace j ps → HasPlace j (insert_entry cmp ps k v))
    → HasPlace j (match_ordering o ((k, v) ∷ p ∷ ps) ((p.0, v) ∷ ps) (p ∷ insert_entry cmp ps k v))
has_if j k v p ps Less n h more = inr h
has_if j k v p ps Equal n h more = absurd cc
has_if j k v p ps Greater n (inl e) more = inl e
has_if j k v p ps Greater n (inr h) more = inr (more h)

has_still : (j : ℕ) (k : List ℕ) (v : ℕ) (ps : Pairs) → found k ps ≡ None → HasPlace j ps → HasPlace j (insert_entry cmp ps k v)
has_still j k v [] none h = absurd h
has_still j k v (p ∷ ps) none h =
    let n = not_here (is_eq (cmp k p.0)) p.1 (found k ps) none in
    has_if j k v p ps (cmp k p.0) n.0 h (has_still j k v ps n.1)

new_if : (k : List ℕ) (v : ℕ) (p : List ℕ × ℕ) (ps : Pairs) (o : Ordering) → HasPlace v (insert_entry cmp ps k v)
    → HasPlace v (match_ordering o ((k, v) ∷ p ∷ ps) ((p.0, v) ∷ ps) (p ∷ insert_entry cmp ps k v))
new_if k v p ps Less more = inl refl
new_if k v p ps Equal more = inl refl
new_if k v p ps Greater more = inr more

has_new : (k : List ℕ) (v : ℕ) (ps : Pairs) → HasPlace v (insert_entry cmp ps k v)
has_new k v [] = inl refl
has_new k v (p ∷ ps) = new_if k v p ps (cmp k p.0) (has_new k v ps)

pub added_seen : (old new : List Held) (e : Held) → new ≡ old ++ e ∷ [] → map entry_view new ≡ map entry_view old ++ entry_view e ∷ []
added_seen old new e h = ap (map entry_view) h ∙ map-append entry_view old (e ∷ [])

pub many_seen : (es : List Held) → length (map entry_view es) ≡ length es
many_seen [] = refl
many_seen (e ∷ es) = ap suc (many_seen es)

-- ---- the place of an entry's key

in_place : (es : List Entry) (b : List ℕ) → In b (map key_bytes es) → (j : ℕ) × (j < length es) × (b ≡ key_bytes (entry_at es j))
in_place [] b h = absurd h
in_place (e ∷ es) b (inl i) = (0, omega arith, i)
in_place (e ∷ es) b (inr h) = let t = in_place es b h in (suc t.0, omega (arith, t.1), t.2)

place_in : (es : List Entry) (j : ℕ) → j < length es → In (key_bytes (entry_at es j)) (map key_bytes es)
place_in [] j h = absurd (omega (arith, h))
place_in (e ∷ es) zero h = inl refl
place_in (e ∷ es) (suc j) h = inr (place_in es j (omega (arith, h)))

-- ---- an entry more

same_or_below : (n j : ℕ) → j < n + 1 → (j ≡ n) ⊎ (j < n)
same_or_below zero zero h = inl refl
same_or_below zero (suc j) h = absurd (omega (arith, h))
same_or_below (suc n) zero h = inr (omega arith)
same_or_below (suc n) (suc j) h = elim (same_or_below n j (omega (arith, h))) [
  | inl e ↦ inl (ap suc e)
  | inr l ↦ inr (omega (arith, l))
]

is_none : (o : Option ℕ) → is_some o ≡ false → o ≡ None
is_none None h = refl
is_none (Some v) h = absurd cc

module _ (es : List Entry) (ps : Pairs) (k : List ℕ) (e : Entry) (placed : Placed es ps) (key : k ≡ key_bytes e) where
  pub placed_more : is_some (found k ps) ≡ false → Placed (es ++ e ∷ []) (insert_entry cmp ps k (length es))
  placed_more absent =
      let none = is_none (found k ps) absent in
      record {
        here =
            each_insert (PlacedAt (es ++ e ∷ [])) k (length es) ps none
            (omega (arith, length_push es e), key ∙ ap key_bytes (sym (entry_last es e))) (all_still es e ps placed.here);
        each = λ j h. elim (same_or_below (length es) j (omega (arith, h, length_push es e))) [
          | inl i ↦ subst (λ n. HasPlace n (insert_entry cmp ps k (length es))) (sym i) (has_new k (length es) ps)
          | inr l ↦ has_still j k (length es) ps none (placed.each j l)
        ];
      }

  -- the key is that of no entry, where no key so far is this one
  differs_if : (p : List ℕ × ℕ) → is_eq (cmp k p.0) ≡ false → p.0 ≡ k → ⊥
  differs_if p n h =
      let tied : cmp k p.0 ≡ Equal = ap (cmp k) h ∙ tied_itself nat_list_cmp_total k in
      let yes : is_eq (cmp k p.0) ≡ true = ap is_eq tied in
      cc

  none_has : (ps : Pairs) (j : ℕ) → Each (PlacedAt es) ps → HasPlace j ps → found k ps ≡ None → key_bytes (entry_at es j) ≡ k → ⊥
  none_has [] j here h none same = h
  none_has (p ∷ ps) j here (inl i) none same =
      let n = not_here (is_eq (cmp k p.0)) p.1 (found k ps) none in
      differs_if p n.0 (here.0.1 ∙ ap (λ m. key_bytes (entry_at es m)) i ∙ same)
  none_has (p ∷ ps) j here (inr h) none same =
      let n = not_here (is_eq (cmp k p.0)) p.1 (found k ps) none in
      none_has ps j here.1 h n.1 same

  abbrev HasKey : Type 0
  HasKey = (j : ℕ) × (j < length es) × (key_bytes (entry_at es j) ≡ k)

  some_if : (p : List ℕ × ℕ) (rest : Option ℕ) (o : Ordering) → cmp k p.0 ≡ o → PlacedAt es p → (is_some rest ≡ true → HasKey)
      → is_some (cond (is_eq o) (Some p.1) rest) ≡ true → HasKey
  some_if p rest Less g here more h = more h
  some_if p rest Equal g here more h = (p.1, here.0, sym here.1 ∙ sym (exact_text k p.0 (ap is_eq g)))
  some_if p rest Greater g here more h = more h

  some_has : (ps : Pairs) → Each (PlacedAt es) ps → is_some (found k ps) ≡ true → HasKey
  some_has [] here h = absurd cc
  some_has (p ∷ ps) here h = some_if p (found k ps) (cmp k p.0) refl here.0 (some_has ps here.1) h

  pub not_in : is_some (found k ps) ≡ false → In (key_bytes e) (map key_bytes es) → ⊥
  not_in absent i =
      let at = in_place es (key_bytes e) i in
      none_has ps at.0 placed.here (placed.each at.0 at.1) (is_none (found k ps) absent) (sym at.2 ∙ sym key)

  pub is_in : is_some (found k ps) ≡ true → In (key_bytes e) (map key_bytes es)
  is_in there =
      let at = some_has ps placed.here there in
      subst (λ b. In b (map key_bytes es)) (at.2 ∙ key) (place_in es at.0 at.1)

-- ---- the next entry

module _ (es : List Entry) (front : List ℕ) (n : ℕ) (memo : IsMemo (file_bytes es) es) (place : n ≡ length (file_bytes es)) where
  pub at_most : n ≤ most_of_a_file
  at_most = omega (arith, place, memo.fits)

  pub none_next : NoneWithin (most_of_a_file - n) front → NoNext es front
  none_next none e more h m =
      none e more (last_whole es e m) (omega (arith, last_fits es e m, place)) h

  pub goes : (e : Entry) (k rest : List ℕ) (new : List Entry) → NextRead (most_of_a_file - n) front e k rest → AddedSo true es new e
      → Goes es front new rest
  goes e k rest new r a = record {
    entry = e;
    added = a.0;
    bytes = r.bytes;
    memo =
        subst (λ xs. IsMemo (file_bytes xs) xs) (sym a.0)
        (one_more es e memo r.whole (omega (arith, r.fits, at_most, place)) a.1);
  }

  pub repeats : (e : Entry) (k rest : List ℕ) → NextRead (most_of_a_file - n) front e k rest → In (key_bytes e) (map key_bytes es) → NoNext es front
  repeats e k rest r i y more h m =
      let same = entries_free e y rest more r.whole.spelled (last_whole es y m).spelled (sym r.bytes ∙ h) in
      last_new es y m (subst (λ z. In (key_bytes z) (map key_bytes es)) same.0 i)

-- ---- the keys in order

abbrev pub orders : Pairs → List ℕ
orders ps = map (λ p. p.1) ps

many_keys : (ps : Pairs) → length (keys_of ps) ≡ length ps
many_keys [] = refl
many_keys (p ∷ ps) = ap suc (many_keys ps)

many_orders : (ps : Pairs) → length (orders ps) ≡ length ps
many_orders [] = refl
many_orders (p ∷ ps) = ap suc (many_orders ps)

placed_here : (es : List Entry) (ps : Pairs) (i : ℕ) → Each (PlacedAt es) ps → i < length ps → PlacedAt es (at (keys_of ps) i, place_at (orders ps) i)
placed_here es [] i h l = absurd (omega (arith, l))
placed_here es (p ∷ ps) zero h l = h.0
placed_here es (p ∷ ps) (suc i) h l = placed_here es ps i h.1 (omega (arith, l))

has_index : (j : ℕ) (ps : Pairs) → HasPlace j ps → (i : ℕ) × (i < length ps) × (place_at (orders ps) i ≡ j)
has_index j [] h = absurd h
has_index j (p ∷ ps) (inl e) = (0, omega arith, e)
has_index j (p ∷ ps) (inr h) = let t = has_index j ps h in (suc t.0, omega (arith, t.1), t.2)

pub ordered : (es : List Entry) (ps : Pairs) → Placed es ps → IsStrictlySortedBy cmp (keys_of ps) → Ordered es (keys_of ps) (orders ps)
ordered es ps h s = record {
  rises = λ i j l m. Less-from_sorted cmp (keys_of ps) i j [] s l m;
  many = many_orders ps ∙ sym (many_keys ps);
  within = λ i l. (placed_here es ps i h.here (omega (arith, l, many_keys ps))).0;
  here = λ i l. (placed_here es ps i h.here (omega (arith, l, many_keys ps))).1;
  each = λ j l. let t = has_index j ps (h.each j l) in (t.0, omega (arith, t.1, many_keys ps), t.2);
}

pub stands : (es : List Entry) (keys : List (List ℕ)) (order bs : List ℕ) (ps : Pairs) → IsMemo (file_bytes es) es → Placed es ps
    → IsStrictlySortedBy cmp (keys_of ps) → keys ≡ keys_of ps → order ≡ orders ps → bs ≡ file_bytes es → Stands es keys order (Some bs)
stands es keys order bs ps m p s k o f = record {
  memo = m;
  file = f;
  ordered = subst (λ ks. Ordered es ks order) (sym k) (subst (λ os. Ordered es (keys_of ps) os) (sym o) (ordered es ps p s));
}

-- ---- keys and places that are taken out of the map one by one

pub all_taken : {A : Type 0} (f : List ℕ × ℕ → A) (xs : List A) (old : Pairs) (all : List A) → xs ++ map f old ≡ all → old ≡ [] → xs ≡ all
all_taken f xs old all h none = sym (append-nil xs) ∙ ap (λ ps. xs ++ map f ps) (sym none) ∙ h
