-- What is found by the order of keys is what is found by going through the entries.
use Rattle.std.proofs.Common.{◌≡◌, ◌<◌, ◌≤◌, ℕ, zero, suc, List, [], ◌∷◌, Bool, true, false, Some, None, length, map, get_or}
use Rattle.std.proofs.Common.{refl, sym, ◌∙◌, ap, subst, arith}
use Rattle.std.proofs.Common.{◌⊎◌, inl, inr, if◌then◌else◌}
use Rattle.std.proofs.lemmas.Cmp.{nat_list_cmp_total, tied_itself}
use Rattle.std.proofs.lemmas.List.{get_or-map}
use Rattle.std.specs.Cmp.Lexicographic.{slice_cmp}
use Rattle.std.specs.Ordering.{nat_cmp}
use Rattle.std.specs.declared.cmp.Ordering.{Ordering}
use Rattle.sky_base.specs.Val.{Val}
use Rattle.ciel_memo_key.specs.Keys.{key_of}
use Rattle.ciel_memo_key.specs.Sorted.{Lacks, Rises, at}
use Rattle.ciel_memo_file.specs.declared.entry.Entry.{Entry as Held}
use Rattle.ciel_memo_file.specs.Entries.{Entry, entry_view, has_key, made_for}
use Rattle.ciel_memo_file.specs.File.{key_bytes}
use Rattle.ciel_memo_file.specs.Ordered.{Ordered, entry_at, no_entry, place_at}
use Rattle.ciel_memo_file.proofs.Keys.{has_bytes}

abbrev cmp : List ℕ → List ℕ → Ordering
cmp = slice_cmp nat_cmp

before_or : (low i : ℕ) → (i < low) ⊎ (low ≤ i)
before_or zero i = inr (omega arith)
before_or (suc low) zero = inl (omega arith)
before_or (suc low) (suc i) = elim (before_or low i) [
  | inl l ↦ inl (omega (arith, l))
  | inr l ↦ inr (omega (arith, l))
]

module _ (x : List ℕ) (args : Val (List ℕ)) (inputs : List (List ℕ)) (n : ℕ) where
  abbrev pub q : List ℕ
  q = key_of x args inputs n

  abbrev pub has : Entry → Bool
  has e = has_key x args inputs n e

  -- an entry that has the key has its bytes
  key_same : (e : Entry) → has e ≡ true → key_bytes e ≡ q
  key_same e h = has_bytes x args inputs n e h

  none_if : (es : List Entry) (e : Entry) (b : Bool) → b ≡ false → made_for es x args inputs n ≡ None
      → if b then Some e.made else made_for es x args inputs n ≡ None
  none_if es e false h g = g
  none_if es e true h g = absurd cc

  pub none_has : (es : List Entry) → ((j : ℕ) → j < length es → has (entry_at es j) ≡ false) → made_for es x args inputs n ≡ None
  none_has [] h = refl
  none_has (e ∷ es) h = none_if es e (has e) (h 0 (omega arith)) (none_has es (λ j l. h (suc j) (omega (arith, l))))

  some_if : (es : List Entry) (e : Entry) (b : Bool) → b ≡ true → if b then Some e.made else made_for es x args inputs n ≡ Some e.made
  some_if es e true h = refl
  some_if es e false h = absurd cc

  skip_if : (es : List Entry) (e : Entry) (made : List (List ℕ)) (b : Bool) → b ≡ false → made_for es x args inputs n ≡ Some made
      → if b then Some e.made else made_for es x args inputs n ≡ Some made
  skip_if es e made false h g = g
  skip_if es e made true h g = absurd cc

  false_or : (b : Bool) → (b ≡ true → ⊥) → b ≡ false
  false_or true h = absurd (h refl)
  false_or false h = refl

  pub one_has : (es : List Entry) (j : ℕ) → j < length es → has (entry_at es j) ≡ true
      → ((k : ℕ) → k < length es → has (entry_at es k) ≡ true → k ≡ j) → made_for es x args inputs n ≡ Some (entry_at es j).made
  one_has [] j l h one = absurd (omega (arith, l))
  one_has (e ∷ es) zero l h one = some_if es e (has e) h
  one_has (e ∷ es) (suc j) l h one =
      skip_if es e (entry_at es j).made (has e) (false_or (has e) (λ t. let z : 0 ≡ suc j = one 0 (omega arith) t in absurd (omega (arith, z))))
      (one_has es j (omega (arith, l)) h (λ k m t. let s : suc k ≡ suc j = one (suc k) (omega (arith, m)) t in omega (arith, s)))

  -- two places of one key are one
  one_place : (keys : List (List ℕ)) → Rises keys → (i k : ℕ) → i < length keys → k < length keys → at keys i ≡ at keys k → k ≡ i
  one_place keys r i k a b e = pick (before_or i k) (before_or k i)
    where
      clash : (u v : ℕ) → u < v → v < length keys → at keys u ≡ at keys v → ⊥
      clash u v l m f =
          let less = r u v l m in
          let tied : cmp (at keys u) (at keys v) ≡ Ordering.Equal =
          subst (λ (s : List ℕ). cmp (at keys u) s ≡ Ordering.Equal) f (tied_itself nat_list_cmp_total (at keys u)) in
          cc

      pick : (k < i) ⊎ (i ≤ k) → (i < k) ⊎ (k ≤ i) → k ≡ i
      pick (inl l) s = absurd (clash k i l a (sym e))
      pick (inr l) (inl m) = absurd (clash i k m b e)
      pick (inr l) (inr m) = omega (arith, l, m)

  module _ (es : List Entry) (keys : List (List ℕ)) (order : List ℕ) (o : Ordered es keys order) where
    pub none_found : Lacks keys q → made_for es x args inputs n ≡ None
    none_found lacks = none_has es (λ j l. false_or (has (entry_at es j)) (λ t.
        let p = o.each j l in
        lacks p.0 p.1 (o.here p.0 p.1 ∙ (ap (λ k. key_bytes (entry_at es k)) p.2 ∙ key_same (entry_at es j) t))))

    -- an entry that has the key stands at the place of the key
    at_place : (i : ℕ) → i < length keys → at keys i ≡ q → (k : ℕ) → k < length es → has (entry_at es k) ≡ true → k ≡ place_at order i
    at_place i l e k m t =
        let p = o.each k m in
        let s = one_place keys o.rises i p.0 l p.1 (e ∙ sym (o.here p.0 p.1 ∙ (ap (λ u. key_bytes (entry_at es u)) p.2 ∙ key_same (entry_at
        es k) t))) in
        sym p.2 ∙ ap (place_at order) s

    pub found : (i : ℕ) → i < length keys → at keys i ≡ q → has (entry_at es (place_at order i)) ≡ true
        → made_for es x args inputs n ≡ Some (entry_at es (place_at order i)).made
    found i l e t = one_has es (place_at order i) (o.within i l) t (at_place i l e)

    pub not_found : (i : ℕ) → i < length keys → at keys i ≡ q → has (entry_at es (place_at order i)) ≡ false → made_for es x args inputs n ≡ None
    not_found i l e f = none_has es (λ k m. false_or (has (entry_at es k)) (λ t.
        let s : has (entry_at es k) ≡ false = ap (λ u. has (entry_at es u)) (at_place i l e k m t) ∙ f in cc))

pub entry_read : (es : List Held) (j : ℕ) (e : Held) → j < length es → e ≡ get_or es j e → entry_at (map entry_view es) j ≡ entry_view e
entry_read es j e small is = get_or-map entry_view es j e no_entry small ∙ ap entry_view (sym is)

pub length_views : (es : List Held) → length (map entry_view es) ≡ length es
length_views [] = refl
length_views (e ∷ es) = ap suc (length_views es)
