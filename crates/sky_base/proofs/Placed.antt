-- The table of places has the names of the list.
use Rattle.std.proofs.Common.{◌≡◌, ◌<◌, ◌≤◌, ◌+◌, ◌-◌, ℕ, zero, suc, List, [], ◌∷◌, ◌++◌, length, Bool, true, false, cond, ◌||◌, ◌⊎◌, inl, inr}
use Rattle.std.proofs.Common.{Some, slice_get, get_or, set, replicate, nat_eq, eqb-true, eq-eqb, refl, sym, ap, subst, ◌∙◌, arith}
use Rattle.std.proofs.lemmas.Bool.{cases_eq, cases_lt}
use Rattle.std.proofs.lemmas.Option.{slice_get_read, get_or_from_slice_get}
use Rattle.std.proofs.lemmas.List.{length-set, length-append, length-replicate, get_or-replicate, get_or_append_left, get_or-set_same, get_or-set_other, get_or_at}
use Rattle.sky_base.specs.Val.{known, same_text}
use Rattle.sky_base.specs.Names.{is_among, known_of, with_new, gathered}
use Rattle.sky_base.specs.Places.{slot_of, last_in, IsPlaced}
use Rattle.sky_base.proofs.Exact.{exact_text, self_text}
use Rattle.sky_base.proofs.Gathers.{known_of-push, stands_in-known}

-- ---- the last place of a slot

apart : (a b : ℕ) → nat_eq a b ≡ false → a ≡ b → ⊥
apart a b e h = absurd cc (eq-eqb a b h)

module _ (slot : List ℕ → ℕ) (ns : List (List ℕ)) (s : ℕ) where
  within_one : (e last : ℕ) (b : Bool) → last ≤ e → cond b (suc e) last ≤ suc e
  within_one e last true h = omega arith
  within_one e last false h = omega (arith, h)

  last_within : (e : ℕ) → last_in slot ns s e ≤ e
  last_within zero = omega arith
  last_within (suc e) = within_one e (last_in slot ns s e) (nat_eq (slot (get_or ns e [])) s) (last_within e)

  again_one : (e : ℕ) (b : Bool) → nat_eq (slot (get_or ns e [])) s ≡ b → last_in slot ns s (last_in slot ns s e) ≡ last_in slot ns s e
      → last_in slot ns s (cond b (suc e) (last_in slot ns s e)) ≡ cond b (suc e) (last_in slot ns s e)
  again_one e true h ih = ap (λ b. cond b (suc e) (last_in slot ns s e)) h
  again_one e false h ih = ih

  last_again : (e : ℕ) → last_in slot ns s (last_in slot ns s e) ≡ last_in slot ns s e
  last_again zero = refl
  last_again (suc e) = again_one e (nat_eq (slot (get_or ns e [])) s) refl (last_again e)

  none_one : (e i : ℕ) (b : Bool) → nat_eq (slot (get_or ns e [])) s ≡ b → cond b (suc e) (last_in slot ns s e) ≤ i → i < suc e
      → slot (get_or ns i []) ≡ s → (i ≡ e) ⊎ (i ≡ e → ⊥) → (last_in slot ns s e ≤ i → i < e → ⊥) → ⊥
  none_one e i true t h k q c ih = omega (arith, h, k)
  none_one e i false t h k q (inl p) ih = apart (slot (get_or ns e [])) s t (ap (λ j. slot (get_or ns j [])) (sym p) ∙ q)
  none_one e i false t h k q (inr n) ih = ih h (omega (arith, k, n))

  none_behind : (e i : ℕ) → last_in slot ns s e ≤ i → i < e → slot (get_or ns i []) ≡ s → ⊥
  none_behind zero i h k q = omega (arith, k)
  none_behind (suc e) i h k q =
      none_one e i (nat_eq (slot (get_or ns e [])) s) refl h k q (cases_eq i e) (λ m l. none_behind e i m l q)

  slot_one : (e : ℕ) (b : Bool) → nat_eq (slot (get_or ns e [])) s ≡ b → cond b (suc e) (last_in slot ns s e) ≡ suc e → last_in slot ns s e ≤ e
      → slot (get_or ns e []) ≡ s
  slot_one e true t h w = eqb-true (slot (get_or ns e [])) s t
  slot_one e false t h w = absurd (omega (arith, h, w))

  slot_at : (e : ℕ) → last_in slot ns s (suc e) ≡ suc e → slot (get_or ns e []) ≡ s
  slot_at e h = slot_one e (nat_eq (slot (get_or ns e [])) s) refl h (last_within e)

-- one name more at the end
module _ (slot : List ℕ → ℕ) (ns : List (List ℕ)) (n : List ℕ) (s : ℕ) where
  last_before : (e : ℕ) → e ≤ length ns → last_in slot (ns ++ n ∷ []) s e ≡ last_in slot ns s e
  last_before zero h = refl
  last_before (suc e) h =
      let here : get_or (ns ++ n ∷ []) e [] ≡ get_or ns e [] = get_or_append_left ns (n ∷ []) [] e (omega (arith, h)) in
      ap (λ m. cond (nat_eq (slot m) s) (suc e) (last_in slot (ns ++ n ∷ []) s e)) here
      ∙ ap (λ k. cond (nat_eq (slot (get_or ns e [])) s) (suc e) k) (last_before e (omega (arith, h)))

  at_end : get_or (ns ++ n ∷ []) (length ns) [] ≡ n
  at_end = get_or_at ns n [] [] (length ns) refl

  last_here : slot n ≡ s → last_in slot (ns ++ n ∷ []) s (suc (length ns)) ≡ suc (length ns)
  last_here h =
      ap (λ m. cond (nat_eq (slot m) s) (suc (length ns)) (last_in slot (ns ++ n ∷ []) s (length ns))) at_end
      ∙ ap (λ b. cond b (suc (length ns)) (last_in slot (ns ++ n ∷ []) s (length ns))) (eq-eqb (slot n) s h)

  last_there : nat_eq (slot n) s ≡ false → last_in slot (ns ++ n ∷ []) s (suc (length ns)) ≡ last_in slot ns s (length ns)
  last_there h =
      ap (λ m. cond (nat_eq (slot m) s) (suc (length ns)) (last_in slot (ns ++ n ∷ []) s (length ns))) at_end
      ∙ ap (λ b. cond b (suc (length ns)) (last_in slot (ns ++ n ∷ []) s (length ns))) h
      ∙ last_before (length ns) (omega arith)

-- ---- the table

pub placed_none : (turn size : ℕ) (latest earlier : List ℕ) → turn ≤ 16 → latest ≡ replicate size 0 → earlier ≡ [] → IsPlaced turn latest earlier []
placed_none turn size latest earlier w e f = record {
  within = w;
  room = omega arith;
  even = ap length f;
  of_slot = λ s h. ap (λ l. get_or l s 0) e ∙ get_or-replicate size s 0 0 (omega (arith, h, ap length e, length-replicate {A = ℕ} size 0));
  of_place = λ i h. absurd (omega (arith, h));
}

-- a number that was read is the one at its place
read_at : (xs : List ℕ) (i x : ℕ) → i < length xs → x ≡ get_or xs i x → x ≡ get_or xs i 0
read_at xs i x h e = sym (get_or_from_slice_get xs i x 0 (slice_get_read xs (length xs) i x refl h e))

module _ (turn : ℕ) (latest earlier : List ℕ) (ns : List (List ℕ)) (n : List ℕ) (p : IsPlaced turn latest earlier ns) where
  abbrev slot : List ℕ → ℕ
  slot = slot_of turn (length latest)

  module _ (at : ℕ) (is : at ≡ slot n) (inside : at < length latest) where
    abbrev later : List ℕ
    later = set latest at (length ns + 1)

    abbrev before : List ℕ
    before = earlier ++ get_or latest at 0 ∷ []

    long : length (ns ++ n ∷ []) ≡ suc (length ns)
    long = omega (arith, length-append ns (n ∷ []))

    here : (s : ℕ) (b : Bool) → s < length latest → nat_eq (slot n) s ≡ b → get_or later s 0 ≡ last_in slot (ns ++ n ∷ []) s (suc (length ns))
    here s true w e =
        let q : slot n ≡ s = eqb-true (slot n) s e in
        ap (λ k. get_or later k 0) (sym q ∙ sym is) ∙ get_or-set_same latest at (length ns + 1) 0 inside ∙ omega arith
        ∙ sym (last_here slot ns n s q)
    here s false w e =
        get_or-set_other latest at s (length ns + 1) 0 (λ q. apart (slot n) s e (sym (q ∙ is))) ∙ p.of_slot s w
        ∙ sym (last_there slot ns n s e)

    there : (i : ℕ) → (i ≡ length ns) ⊎ (i ≡ length ns → ⊥) → i < suc (length ns)
        → get_or before i 0 ≡ last_in slot (ns ++ n ∷ []) (slot (get_or (ns ++ n ∷ []) i [])) i
    there i (inl e) w =
        ap (λ k. get_or before k 0) (e ∙ sym p.even) ∙ get_or_at earlier (get_or latest at 0) [] 0 (length earlier) refl
        ∙ p.of_slot at inside ∙ sym (last_before slot ns n at (length ns) (omega arith))
        ∙ ap (λ s. last_in slot (ns ++ n ∷ []) s (length ns)) (is ∙ ap slot (sym (at_end slot ns n 0)))
        ∙ ap (λ k. last_in slot (ns ++ n ∷ []) (slot (get_or (ns ++ n ∷ []) k [])) k) (sym e)
    there i (inr e) w =
        let b : i < length ns = omega (arith, w, e) in
        let same : get_or (ns ++ n ∷ []) i [] ≡ get_or ns i [] = get_or_append_left ns (n ∷ []) [] i b in
        get_or_append_left earlier (get_or latest at 0 ∷ []) 0 i (omega (arith, b, p.even)) ∙ p.of_place i b
        ∙ sym (last_before slot ns n (slot (get_or ns i [])) i (omega (arith, b)))
        ∙ ap (λ m. last_in slot (ns ++ n ∷ []) (slot m) i) (sym same)

    placed_at : (room : length ns < length latest) (more : length later ≡ length latest) (m : length (ns ++ n ∷ []) ≡ suc (length ns))
        → IsPlaced turn later before (ns ++ n ∷ [])
    placed_at room more m = record {
      within = p.within;
      room = omega (arith, room, more, m);
      even = length-append earlier (get_or latest at 0 ∷ []) ∙ omega (arith, p.even, m);
      of_slot = λ s h. rw (more, m) (here s (nat_eq (slot n) s) (omega (arith, h, more)) refl);
      of_place = λ i h. rw more (there i (cases_eq i (length ns)) (omega (arith, h, m)));
    }

    pub placed_more : length ns < length latest → (last : ℕ) → last ≡ get_or latest at last → (after new : List ℕ)
        → after ≡ set latest at (length ns + 1) → new ≡ earlier ++ last ∷ [] → IsPlaced turn after new (ns ++ n ∷ [])
    placed_more room last l after new e f =
        let g : new ≡ before = f ∙ ap (λ x. earlier ++ x ∷ []) (read_at latest at last inside l) in
        rw (e, g) (placed_at room (length-set latest at (length ns + 1)) long)

-- ---- a walk

-- of the names from here on none is the one that is looked for, and before here stands one of its slot
pub record Walks (turn : ℕ) (latest : List ℕ) (ns : List (List ℕ)) (n : List ℕ) (from : ℕ) : Type 0 where
  pub within : from ≤ length ns
  pub stop : last_in (slot_of turn (length latest)) ns (slot_of turn (length latest) n) from ≡ from
  pub none : (i : ℕ) → from ≤ i → i < length ns → get_or ns i [] ≡ n → ⊥

module _ (turn : ℕ) (latest earlier : List ℕ) (ns : List (List ℕ)) (n : List ℕ) (p : IsPlaced turn latest earlier ns) where
  abbrev slots : List ℕ → ℕ
  slots = slot_of turn (length latest)

  walks_empty : length latest ≡ 0 → Walks turn latest ns n 0
  walks_empty e = record {
    within = omega arith;
    stop = refl;
    none = λ i h k q. omega (arith, p.room, e, k);
  }

  walks_first : (from : ℕ) → slots n < length latest → from ≡ get_or latest (slots n) 0 → Walks turn latest ns n from
  walks_first from inside e =
      let is : from ≡ last_in slots ns (slots n) (length ns) = e ∙ p.of_slot (slots n) inside in
      record {
        within = omega (arith, is, last_within slots ns (slots n) (length ns));
        stop = ap (last_in slots ns (slots n)) is ∙ last_again slots ns (slots n) (length ns) ∙ sym is;
        none = λ i h k q. none_behind slots ns (slots n) (length ns) i (omega (arith, h, is)) k (ap slots q);
      }

  pub walks_from : (from : ℕ) → (length latest ≡ 0 → from ≡ 0) → (0 < length latest → from ≡ get_or latest (slot_of turn (length latest) n) 0)
      → (0 < length latest → slot_of turn (length latest) n < length latest) → Walks turn latest ns n from
  walks_from from none some inside = by (cases_eq (length latest) 0)
    where
      by : (length latest ≡ 0) ⊎ (length latest ≡ 0 → ⊥) → Walks turn latest ns n from
      by (inl e) = subst (Walks turn latest ns n) (sym (none e)) (walks_empty e)
      by (inr e) = let h : 0 < length latest = omega (arith, e) in walks_first from (inside h) (some h)

  module _ (from : ℕ) (w : Walks turn latest ns n from) (some : 0 < from) where
    pub walked_within : from - 1 < length ns
    walked_within = omega (arith, w.within, some)

    place_of : (k : ℕ) → suc k ≡ from → slots (get_or ns k []) ≡ slots n
    place_of k e = slot_at slots ns (slots n) k (ap (last_in slots ns (slots n)) e ∙ w.stop ∙ sym e)

    module _ (next : ℕ) (e : next ≡ get_or earlier (from - 1) next) where
      next_is : next ≡ last_in slots ns (slots n) (from - 1)
      next_is =
          read_at earlier (from - 1) next (omega (arith, walked_within, p.even)) e ∙ p.of_place (from - 1) walked_within
          ∙ ap (λ s. last_in slots ns s (from - 1)) (place_of (from - 1) (omega (arith, some)))

      pub walked_less : next < from
      walked_less = omega (arith, next_is, last_within slots ns (slots n) (from - 1), some)

      past : (i : ℕ) → next ≤ i → i < length ns → get_or ns i [] ≡ n → (i ≡ from - 1 → ⊥) → (i < from - 1) ⊎ (from - 1 ≤ i) → ⊥
      past i h k q f (inl l) = none_behind slots ns (slots n) (from - 1) i (omega (arith, h, next_is)) l (ap slots q)
      past i h k q f (inr l) = w.none i (omega (arith, l, f, some)) k q

      none_here : (get_or ns (from - 1) [] ≡ n → ⊥) → (i : ℕ) → next ≤ i → i < length ns → get_or ns i [] ≡ n
          → (i ≡ from - 1) ⊎ (i ≡ from - 1 → ⊥) → ⊥
      none_here other i h k q (inl f) = other (ap (λ j. get_or ns j []) (sym f) ∙ q)
      none_here other i h k q (inr f) = past i h k q f (cases_lt i (from - 1))

      pub walks_next : (m : List ℕ) → m ≡ get_or ns (from - 1) m → (m ≡ n → ⊥) → Walks turn latest ns n next
      walks_next m is other = record {
        within = omega (arith, walked_less, w.within);
        stop = ap (last_in slots ns (slots n)) next_is ∙ last_again slots ns (slots n) (from - 1) ∙ sym next_is;
        none = λ i h k q. none_here (λ z. other (sym (name_at m is) ∙ z)) i h k q (cases_eq i (from - 1));
      }
        where
          name_at : (m : List ℕ) → m ≡ get_or ns (from - 1) m → get_or ns (from - 1) [] ≡ m
          name_at m is =
              get_or_from_slice_get ns (from - 1) m [] (slice_get_read ns (length ns) (from - 1) m refl walked_within is)

    pub stands_at : (m : List ℕ) → m ≡ get_or ns (from - 1) m → m ≡ n → slice_get ns (from - 1) ≡ Some n
    stands_at m is same = slice_get_read ns (length ns) (from - 1) m refl walked_within is ∙ ap Some same

-- ---- what a walk tells

not_one : (n m : List ℕ) (ns : List (List ℕ)) (b : Bool) → same_text n m ≡ b → ((i : ℕ) → i < length (m ∷ ns) → get_or (m ∷ ns) i [] ≡ n → ⊥)
    → is_among n ns ≡ false → b || is_among n ns ≡ false
not_one n m ns true e h ih = absurd (h 0 (omega arith) (sym (exact_text n m e)))
not_one n m ns false e h ih = ih

not_among : (n : List ℕ) (ns : List (List ℕ)) → ((i : ℕ) → i < length ns → get_or ns i [] ≡ n → ⊥) → is_among n ns ≡ false
not_among n [] h = refl
not_among n (m ∷ ns) h = not_one n m ns (same_text n m) refl h (not_among n ns (λ i w q. h (suc i) (omega (arith, w)) q))

pub walked_all : (turn : ℕ) (latest : List ℕ) (ns : List (List ℕ)) (n : List ℕ) (from : ℕ) → Walks turn latest ns n from → from ≤ 0
    → is_among n ns ≡ false
walked_all turn latest ns n from w h = not_among n ns (λ i k q. w.none i (omega (arith, h)) k q)

or_true : (a b : Bool) → b ≡ true → a || b ≡ true
or_true true b h = refl
or_true false b h = h

among_at : (n : List ℕ) (ns : List (List ℕ)) (i : ℕ) → slice_get ns i ≡ Some n → is_among n ns ≡ true
among_at n [] i e = absurd cc
among_at n (m ∷ ns) zero e =
    let q : m ≡ n = cc in
    ap (λ k. same_text n k || is_among n ns) q ∙ ap (λ b. b || is_among n ns) (self_text n)
among_at n (m ∷ ns) (suc i) e = or_true (same_text n m) (is_among n ns) (among_at n ns i e)

-- a name that is new stands at the end
pub found_new : (old new : List (List ℕ)) (n : List ℕ) → is_among n old ≡ false → new ≡ old ++ n ∷ []
    → known_of new ≡ gathered (known_of old) (known n ∷ [])
found_new old new n h e =
    ap known_of e ∙ known_of-push old n ∙ ap (λ b. with_new b (known_of old) (known n)) (sym (stands_in-known n old ∙ h))

-- one that isn't changes nothing
pub found_old : (old : List (List ℕ)) (n : List ℕ) (i : ℕ) → slice_get old i ≡ Some n → known_of old ≡ gathered (known_of old) (known n ∷ [])
found_old old n i e = ap (λ b. with_new b (known_of old) (known n)) (sym (stands_in-known n old ∙ among_at n old i e))
