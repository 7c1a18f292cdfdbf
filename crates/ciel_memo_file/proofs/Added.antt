-- New entries, and how a file grows by them.
use Rattle.std.proofs.Common.{◌≡◌, ◌≤◌, ◌<◌, ◌+◌, ◌^◌, ◌⊎◌, inl, inr, ℕ, List, [], ◌∷◌, ◌++◌, Bool, true, false, Option}
use Rattle.std.proofs.Common.{Some, None, Ordering, Less, Equal, Greater, is_some}
use Rattle.std.proofs.Common.{flat_map, length, map, refl, ap, sym, ◌∙◌, subst, arith, append_assoc, append-nil, length-append, if◌then◌else◌}
use Rattle.std.proofs.lemmas.Cmp.{nat_list_cmp_total, tied_itself}
use Rattle.std.proofs.lemmas.List.{map-append}
use Rattle.std.proofs.lemmas.Map.Keys.{sorted_head, sorted_tail}
use Rattle.std.specs.Borrow.{Bor}
use Rattle.std.specs.BTreeMap.{insert_entry}
use Rattle.std.specs.Cmp.Lexicographic.{slice_cmp}
use Rattle.std.specs.List.{AllByRecursion}
use Rattle.std.specs.List.Sorted.{IsStrictlySortedBy}
use Rattle.std.specs.Map.{keys_of}
use Rattle.std.specs.Ordering.{is_eq, match_ordering, nat_cmp}
use Rattle.std.specs.Str.{IsUtf8}
use Rattle.sky_base.proofs.Exact.{exact_text, exact_val, self_text, self_val}
use Rattle.sky_base.specs.Name.{big_endian, bytes, bytes_of_text}
use Rattle.sky_base.specs.Val.{Val, same_text, same_val}
use Rattle.sky_base_law.specs.Tasks.{Each, In}
use Rattle.ciel_name.specs.Spelled.{IsData}
use Rattle.sky_frozen_bytes.specs.Bytes.{counted}
use Rattle.ciel_memo_key.specs.Keys.{block}
use Rattle.ciel_memo_file.specs.declared.entry.Entry.{Entry as Held}
use Rattle.ciel_memo_file.specs.Added.{Behind, HasNoRoom, IsKeyed, IsNew, Keyed, Puts, entries_of, made_by}
use Rattle.ciel_memo_file.specs.Added.Puts.{put, left}
use Rattle.ciel_memo_file.specs.Entries.{Entry, entry_view, has_key}
use Rattle.ciel_memo_file.specs.File.{IsBlock, IsMemo, IsWhole, entry_bytes, file_bytes, key_bytes, most_of_an_entry}
use Rattle.ciel_memo_file.proofs.Files.{each_push, file_push, in_front, one_more}
use Rattle.ciel_memo_file.proofs.Keys.{has_bytes, same_has}
use Rattle.ciel_memo_file.proofs.Spelling.{one_key}

abbrev cmp : List ℕ → List ℕ → Ordering
cmp = slice_cmp nat_cmp

-- ---- a new one among them

abbrev Among : List Keyed → List Keyed → Keyed → Type 0
Among new old p = (e : Entry) → In e (entries_of new) → (e ≡ entry_view p.1.now) ⊎ In e (entries_of old)

among_if : (k : List ℕ) (v : Bor Held) (p : Keyed) (ps : List Keyed) (o : Ordering) → Among (insert_entry cmp ps k v) ps (k, v)
    → Among (match_ordering o ((k, v) ∷ p ∷ ps) ((p.0, v) ∷ ps) (p ∷ insert_entry cmp ps k v)) (p ∷ ps) (k, v)
among_if k v p ps Less more e h = h
among_if k v p ps Equal more e (inl i) = inl i
among_if k v p ps Equal more e (inr h) = inr (inr h)
among_if k v p ps Greater more e (inl i) = inr (inl i)
among_if k v p ps Greater more e (inr h) = elim (more e h) [
  | inl i ↦ inl i
  | inr g ↦ inr (inr g)
]

pub among_more : (k : List ℕ) (v : Bor Held) (ps : List Keyed) → Among (insert_entry cmp ps k v) ps (k, v)
among_more k v [] e h = h
among_more k v (p ∷ ps) e h = among_if k v p ps (cmp k p.0) (among_more k v ps) e h

added_if : (k : List ℕ) (v : Bor Held) (p : Keyed) (ps : List Keyed) (o : Ordering)
    → In (entry_view v.now) (entries_of (insert_entry cmp ps k v))
    → In (entry_view v.now) (entries_of (match_ordering o ((k, v) ∷ p ∷ ps) ((p.0, v) ∷ ps) (p ∷ insert_entry cmp ps k v)))
added_if k v p ps Less more = inl refl
added_if k v p ps Equal more = inl refl
added_if k v p ps Greater more = inr more

pub added_now : (k : List ℕ) (v : Bor Held) (ps : List Keyed) → In (entry_view v.now) (entries_of (insert_entry cmp ps k v))
added_now k v [] = inl refl
added_now k v (p ∷ ps) = added_if k v p ps (cmp k p.0) (added_now k v ps)

-- one with another key stays
stays_if : (k : List ℕ) (v : Bor Held) (p : Keyed) (ps : List Keyed) (e : Entry) (o : Ordering) → cmp k p.0 ≡ o → IsKeyed p
    → (key_bytes e ≡ k → ⊥) → In e (entries_of (p ∷ ps)) → (In e (entries_of ps) → In e (entries_of (insert_entry cmp ps k v)))
    → In e (entries_of (match_ordering o ((k, v) ∷ p ∷ ps) ((p.0, v) ∷ ps) (p ∷ insert_entry cmp ps k v)))
stays_if k v p ps e Less h here apart i more = inr i
stays_if k v p ps e Equal h here apart (inl g) more = absurd (apart (ap key_bytes g ∙ sym here ∙ sym (exact_text k p.0 (ap is_eq h))))
stays_if k v p ps e Equal h here apart (inr i) more = inr i
stays_if k v p ps e Greater h here apart (inl g) more = inl g
stays_if k v p ps e Greater h here apart (inr i) more = inr (more i)

pub stays_there : (k : List ℕ) (v : Bor Held) (ps : List Keyed) (e : Entry) → Each IsKeyed ps → (key_bytes e ≡ k → ⊥) → In e (entries_of ps)
    → In e (entries_of (insert_entry cmp ps k v))
stays_there k v [] e all apart i = absurd i
stays_there k v (p ∷ ps) e all apart i =
    stays_if k v p ps e (cmp k p.0) refl all.0 apart i (stays_there k v ps e all.1 apart)

keyed_if : (k : List ℕ) (v : Bor Held) (p : Keyed) (ps : List Keyed) (o : Ordering) → cmp k p.0 ≡ o → IsKeyed (k, v) → Each IsKeyed (p ∷ ps)
    → Each IsKeyed (insert_entry cmp ps k v) → Each IsKeyed (match_ordering o ((k, v) ∷ p ∷ ps) ((p.0, v) ∷ ps) (p ∷ insert_entry cmp ps k v))
keyed_if k v p ps Less h new all more = (new, all)
keyed_if k v p ps Equal h new all more = (sym (exact_text k p.0 (ap is_eq h)) ∙ new, all.1)
keyed_if k v p ps Greater h new all more = (all.0, more)

pub keyed_more : (k : List ℕ) (v : Bor Held) (ps : List Keyed) → IsKeyed (k, v) → Each IsKeyed ps → Each IsKeyed (insert_entry cmp ps k v)
keyed_more k v [] new all = (new, tt)
keyed_more k v (p ∷ ps) new all = keyed_if k v p ps (cmp k p.0) refl new all (keyed_more k v ps new all.1)

-- ---- whether the memo has the key

holds_if : (b : Bool) (made : List (List ℕ)) (o : Option (List (List ℕ))) → b ≡ true → if b then Some made else o ≡ None → ⊥
holds_if true made o h g = absurd cc
holds_if false made o h g = absurd cc

rest_if : (b : Bool) (made : List (List ℕ)) (o : Option (List (List ℕ))) → if b then Some made else o ≡ None → o ≡ None
rest_if true made o g = absurd cc
rest_if false made o g = g

pub not_held : (es : List Entry) (e : Entry) → Each IsWhole es → IsWhole e → made_by e es ≡ None → In (key_bytes e) (map key_bytes es) → ⊥
not_held [] e all w none h = h
not_held (d ∷ es) e all w none (inl i) =
    holds_if (has_key e.executor e.args e.inputs (length e.made) d) d.made (made_by e es)
    (same_has d e (one_key d e all.0 w (sym i))) none
not_held (d ∷ es) e all w none (inr h) =
    not_held es e all.1 w (rest_if (has_key e.executor e.args e.inputs (length e.made) d) d.made (made_by e es) none) h

held_if : (d e : Entry) (es : List Entry) (b : Bool) → (b ≡ true → key_bytes d ≡ key_bytes e)
    → (is_some (made_by e es) ≡ true → In (key_bytes e) (map key_bytes es)) → is_some (if b then Some d.made else made_by e es) ≡ true
    → In (key_bytes e) (map key_bytes (d ∷ es))
held_if d e es true f more h = inl (sym (f refl))
held_if d e es false f more h = inr (more h)

pub none_if : (o : Option (List (List ℕ))) → is_some o ≡ false → o ≡ None
none_if None h = refl
none_if (Some made) h = absurd cc

pub held : (es : List Entry) (e : Entry) → is_some (made_by e es) ≡ true → In (key_bytes e) (map key_bytes es)
held [] e h = absurd cc
held (d ∷ es) e h =
    held_if d e es (has_key e.executor e.args e.inputs (length e.made) d) (has_bytes e.executor e.args e.inputs (length e.made) d) (held es e) h

-- ---- numbers that fit, since the entry is short

blocks_many : (bs : List (List ℕ)) → length bs ≤ length (flat_map block bs)
blocks_many [] = omega arith
blocks_many (b ∷ bs) =
    let one : length (flat_map block (b ∷ bs)) ≡ length (block b) + length (flat_map block bs) = length-append (block b) (flat_map block bs) in
    let some : length (block b) ≡ 4 + length b = length-append (big_endian 4 (length b)) b in
    omega (arith, one, some, blocks_many bs)

each_short : (bs : List (List ℕ)) → length (flat_map block bs) ≤ most_of_an_entry → Each IsBlock bs
each_short [] h = tt
each_short (b ∷ bs) h =
    let one : length (flat_map block (b ∷ bs)) ≡ length (block b) + length (flat_map block bs) = length-append (block b) (flat_map block bs) in
    let some : length (block b) ≡ 4 + length b = length-append (big_endian 4 (length b)) b in
    (omega (arith, one, some, h), each_short bs (omega (arith, one, h)))

rest_long : (n : ℕ) (ins : List (List ℕ)) → length (big_endian 4 n ++ counted block ins) ≡ 4 + (4 + length (flat_map block ins))
rest_long n ins =
    length-append (big_endian 4 n) (counted block ins) ∙ ap (λ k. 4 + k) (length-append (big_endian 4 (length ins)) (flat_map block ins))

key_long : (e : Entry) → length (key_bytes e)
    ≡ length (bytes_of_text e.executor) + (length (bytes e.args) + (4 + (4 + length (flat_map block e.inputs))))
key_long e =
    let rest : List ℕ = big_endian 4 (length e.made) ++ counted block e.inputs in
    length-append (bytes_of_text e.executor) (bytes e.args ++ rest)
    ∙ ap (λ n. length (bytes_of_text e.executor) + n) (length-append (bytes e.args) rest
    ∙ ap (λ n. length (bytes e.args) + n) (rest_long (length e.made) e.inputs))

pub made_few : (e : Entry) → length (entry_bytes e) ≤ most_of_an_entry → length e.made < 2 ^ 32
made_few e h =
    let two : length (entry_bytes e) ≡ length (key_bytes e) + length (flat_map block e.made) =
    length-append (key_bytes e) (flat_map block e.made) in
    omega (arith, two, blocks_many e.made, h)

pub whole_short : (e : Entry) → IsUtf8 e.executor → IsData e.args → length (entry_bytes e) ≤ most_of_an_entry → IsWhole e
whole_short e text args h =
    let two : length (entry_bytes e) ≡ length (key_bytes e) + length (flat_map block e.made) =
    length-append (key_bytes e) (flat_map block e.made) in
    let name : length (bytes_of_text e.executor) ≡ 4 + length e.executor = length-append (big_endian 4 (length e.executor)) e.executor in
    let ins : length (flat_map block e.inputs) ≤ most_of_an_entry = omega (arith, two, key_long e, h) in
    let outs : length (flat_map block e.made) ≤ most_of_an_entry = omega (arith, two, h) in
    record {
      spelled = record {
        executor = (text, omega (arith, two, key_long e, name, h));
        args = args;
        inputs = (omega (arith, blocks_many e.inputs, ins), each_short e.inputs ins);
        made = (omega (arith, blocks_many e.made, outs), each_short e.made outs);
      };
      short = h;
    }

pub same_args : (v w : Val (List ℕ)) → same_val same_text v w ≡ true → IsData v → IsData w
same_args v w h d = subst IsData (exact_val same_text exact_text v w h) d

-- what was read again is the arguments, so the test said so
pub read_again : (v w : Val (List ℕ)) (b : Bool) → b ≡ same_val same_text v w → v ≡ w → b ≡ false → ⊥
read_again v w b test same none =
    let yes : same_val same_text v w ≡ true = ap (same_val same_text v) (sym same) ∙ self_val same_text self_text v in
    let no : true ≡ false = sym (test ∙ yes) ∙ none in
    cc

-- ---- the file grows

abbrev Under : List ℕ → Keyed → Type 0
Under k p = cmp k p.0 ≡ Less

-- where it is whole and new, it is among those that were added, or has no room
abbrev Settled : (memo added : List Entry) → List ℕ → Entry → Type 0
Settled memo added out e = IsWhole e → IsNew memo e → (In e added) ⊎ HasNoRoom (length out) e

-- behind those of the memo stand some of the new ones, whose keys are below those that are left
pub record Grown (memo all : List Entry) (rest : List Keyed) (out : List ℕ) : Type 0 where
  pub added : List Entry
  pub text : out ≡ file_bytes (memo ++ added)
  pub is_memo : IsMemo (file_bytes (memo ++ added)) (memo ++ added)
  pub among : Each (λ e. In e all) added
  pub below : Each (λ e. Each (Under (key_bytes e)) rest) added
  pub sorted : IsStrictlySortedBy cmp (keys_of rest)
  pub keyed : Each IsKeyed rest
  pub others : Each (λ p. In (entry_view p.1.now) all) rest
  pub seen : (e : Entry) → In e all → Settled memo added out e ⊎ In e (entries_of rest)

each_in : (ps qs : List Keyed) → ((p : Keyed) → In p ps → In p qs) → Each (λ p. In (entry_view p.1.now) (entries_of qs)) ps
each_in [] qs h = tt
each_in (p ∷ ps) qs h = (in_view p qs (h p (inl refl)), each_in ps qs (λ q i. h q (inr i)))
  where
    in_view : (p : Keyed) (qs : List Keyed) → In p qs → In (entry_view p.1.now) (entries_of qs)
    in_view p [] i = i
    in_view p (q ∷ qs) (inl e) = inl (ap (λ (r : Keyed). entry_view r.1.now) e)
    in_view p (q ∷ qs) (inr i) = inr (in_view p qs i)

pub grown_none : (memo : List Entry) (ps : List Keyed) (out : List ℕ) → IsMemo (file_bytes memo) memo → out ≡ file_bytes memo
    → IsStrictlySortedBy cmp (keys_of ps) → Each IsKeyed ps → Grown memo (entries_of ps) ps out
grown_none memo ps out m o s k =
    let nil : memo ++ [] ≡ memo = append-nil memo in
    record {
      added = [];
      text = o ∙ ap file_bytes (sym nil);
      is_memo = subst (λ es. IsMemo (file_bytes es) es) (sym nil) m;
      among = tt;
      below = tt;
      sorted = s;
      keyed = k;
      others = each_in ps ps (λ p i. i);
      seen = λ e i. inr i;
    }

module _ (memo all : List Entry) (p : Keyed) (ps : List Keyed) where
  tails : (es : List Entry) → Each (λ e. Each (Under (key_bytes e)) (p ∷ ps)) es → Each (λ e. Each (Under (key_bytes e)) ps) es
  tails [] h = tt
  tails (e ∷ es) h = (h.0.1, tails es h.1)

  heads : (k : List ℕ) (qs : List Keyed) → AllByRecursion (λ y. cmp k y ≡ Less) (keys_of qs) → Each (Under k) qs
  heads k [] h = tt
  heads k (q ∷ qs) h = (h.0, heads k qs h.1)

  -- the next key is that of none of them
  fresh : (es : List Entry) → Each (λ e. Each (Under (key_bytes e)) (p ∷ ps)) es → In p.0 (map key_bytes es) → ⊥
  fresh [] h i = i
  fresh (e ∷ es) h (inl g) =
      let less : cmp (key_bytes e) p.0 ≡ Less = h.0.0 in
      let tied : cmp (key_bytes e) p.0 ≡ Equal = ap (cmp (key_bytes e)) g ∙ tied_itself nat_list_cmp_total (key_bytes e) in
      cc
  fresh (e ∷ es) h (inr i) = fresh es h.1 i

  in_either : (k : List ℕ) (xs ys : List (List ℕ)) → In k (xs ++ ys) → (In k xs) ⊎ (In k ys)
  in_either k [] ys i = inr i
  in_either k (x ∷ xs) ys (inl e) = inl (inl e)
  in_either k (x ∷ xs) ys (inr i) = elim (in_either k xs ys i) [
    | inl j ↦ inl (inr j)
    | inr j ↦ inr j
  ]

  in_last : (d : Entry) (es : List Entry) → In d (es ++ d ∷ [])
  in_last d [] = inl refl
  in_last d (x ∷ es) = inr (in_last d es)

  still_left : (old new : List ℕ) (added : List Entry) (e : Entry) → new ≡ old → Settled memo added old e → Settled memo added new e
  still_left old new added e same s = subst (λ (out : List ℕ). Settled memo added out e) (sym same) s

  still_put : (old new : List ℕ) (added : List Entry) (d e : Entry) → length old ≤ length new → Settled memo added old e
      → Settled memo (added ++ d ∷ []) new e
  still_put old new added d e le s whole other = elim (s whole other) [
    | inl i ↦ inl (in_front e added (d ∷ []) i)
    | inr h ↦ inr (omega (arith, le, h))
  ]

  seen_left : (old new : List ℕ) (added : List Entry) → new ≡ old
      → (IsWhole (entry_view p.1.now) → IsNew memo (entry_view p.1.now) → HasNoRoom (length old) (entry_view p.1.now)) → (e : Entry)
      → Settled memo added old e ⊎ In e (entries_of (p ∷ ps)) → Settled memo added new e ⊎ In e (entries_of ps)
  seen_left old new added same why e (inl s) = inl (still_left old new added e same s)
  seen_left old new added same why e (inr (inl h)) =
      inl (still_left old new added e same (λ whole other. inr (subst (HasNoRoom (length old)) (sym h) (why (subst IsWhole h whole)
      (subst (IsNew memo) h other)))))
  seen_left old new added same why e (inr (inr i)) = inr i

  seen_put : (old new : List ℕ) (added : List Entry) → length old ≤ length new → (e : Entry)
      → Settled memo added old e ⊎ In e (entries_of (p ∷ ps)) → Settled memo (added ++ entry_view p.1.now ∷ []) new e ⊎ In e (entries_of ps)
  seen_put old new added le e (inl s) = inl (still_put old new added (entry_view p.1.now) e le s)
  seen_put old new added le e (inr (inl h)) =
      inl (λ whole other. inl (subst (λ (d : Entry). In d (added ++ entry_view p.1.now ∷ [])) (sym h) (in_last (entry_view p.1.now) added)))
  seen_put old new added le e (inr (inr i)) = inr i

  pub grown_more : (old new : List ℕ) → Grown memo all (p ∷ ps) old → Puts memo old new (entry_view p.1.now) → Grown memo all ps new
  grown_more old new g (left same why) = record {
    added = g.added;
    text = same ∙ g.text;
    is_memo = g.is_memo;
    among = g.among;
    below = tails g.added g.below;
    sorted = sorted_tail cmp p.0 (keys_of ps) g.sorted;
    keyed = g.keyed.1;
    others = g.others.1;
    seen = λ e i. seen_left old new g.added same why e (g.seen e i);
  }
  grown_more old new g (put text whole fits other) =
      let e : Entry = entry_view p.1.now in
      let long : length new ≡ length (file_bytes (memo ++ g.added)) + length (entry_bytes e) =
      ap length text ∙ length-append old (entry_bytes e) ∙ ap (λ b. length b + length (entry_bytes e)) g.text in
      let more = one_more (memo ++ g.added) e g.is_memo whole (omega (arith, long, fits)) (λ i.
      elim (in_either (key_bytes e) (map key_bytes memo) (map key_bytes g.added)
      (subst (In (key_bytes e)) (map-append key_bytes memo g.added) i)) [
        | inl j ↦ other j
        | inr j ↦ fresh g.added g.below (subst (λ k. In k (map key_bytes g.added)) (sym g.keyed.0) j)
      ]) in
      let joined : (memo ++ g.added) ++ e ∷ [] ≡ memo ++ (g.added ++ e ∷ []) = append_assoc memo g.added (e ∷ []) in
      record {
        added = g.added ++ e ∷ [];
        text =
            text ∙ ap (λ b. b ++ entry_bytes e) g.text ∙ sym (file_push (memo ++ g.added) e) ∙ ap file_bytes joined;
        is_memo = subst (λ es. IsMemo (file_bytes es) es) joined more;
        among = each_push (λ x. In x all) g.added e g.among g.others.0;
        below =
            each_push (λ x. Each (Under (key_bytes x)) ps) g.added e (tails g.added g.below)
            (heads (key_bytes e) ps (subst (λ k. AllByRecursion (λ y. cmp k y ≡ Less) (keys_of ps)) g.keyed.0
            (sorted_head cmp p.0 (keys_of ps) g.sorted)));
        sorted = sorted_tail cmp p.0 (keys_of ps) g.sorted;
        keyed = g.keyed.1;
        others = g.others.1;
        seen = λ d i. seen_put old new g.added (omega (arith, ap length text, length-append old (entry_bytes e))) d (g.seen d i);
      }

-- the file of a memo with nothing new behind it
pub nothing_new : (memo fresh : List Entry) (bs : List ℕ) → fresh ≡ [] → IsMemo (file_bytes memo) memo → bs ≡ file_bytes memo → Behind memo fresh bs []
nothing_new memo fresh bs none m e =
    let same : memo ≡ memo ++ [] = sym (append-nil memo) in
    record {
      file = subst (IsMemo bs) same (subst (λ (b : List ℕ). IsMemo b memo) (sym e) m);
      among = tt;
      all = λ x i. absurd (subst (In x) none i);
    }
