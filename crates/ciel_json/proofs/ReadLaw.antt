-- What bytes are read as keeps the limits and holds no function and no reference.
use Rattle.std.proofs.Common.{◌≡◌, ℕ, List, [], ◌∷◌, ◌++◌, Bool, true, false, if◌then◌else◌, Option, Some, None, option_map, option_and_then, IfSome}
use Rattle.std.proofs.Common.{IfOk, Ok, Err, ℤ, length, nat_lt, refl, subst, ltb-false, Ordering, Less, Equal, Greater, nat_cmp}
use Rattle.std.specs.Ordering.{match_ordering}
use Rattle.std.specs.Cmp.Lexicographic.{slice_cmp}
use Rattle.std.specs.Str.{is_utf8}
use Rattle.serde_json.specs.Data.{Data, Num, Items, no_items, item, Members, no_members, member}
use Rattle.serde_json.specs.Data as json
use Rattle.serde_json.specs.Find.{as_i64}
use Rattle.serde_json.specs.Read.{read}
use Rattle.sky_base.specs.Val.{Val, Vals, Pairs, Desc, null, truth, num, text, list, dict, fun, ref, no_vals, val, no_pairs, pair, size, depth, refs}
use Rattle.sky_base.specs.Val.{vals_refs, pairs_refs}
use Rattle.sky_base.specs.Op.{Answer, limited, unless, put}
use Rattle.sky_base.specs.Tree.{Script}
use Rattle.sky_base_law.specs.Refers.{PlainReads, Refers, ValsRefer, PairsRefer}
use Rattle.sky_base_law.proofs.RefersOps.{put_refers}
use Rattle.sky_base_law.specs.Sound.{RefsOver, ValsOver, PairsOver, SoundOver, SoundRead, SoundReads}
use Rattle.sky_base.specs.KitView.{Gives}
use Rattle.sky_base.specs.declared.fault.FaultKind.{FaultKind}
use Rattle.ciel_json.specs.Read.{value_of, values_of, pairs_onto, value_read, within_limits, nests_too_deep, reads}
use Rattle.ciel_json.specs.Around.{json_around}

-- the texts and keys of data are such
module _ (T : List ℕ → Type 0) where
  abbrev mutual
    pub Texts : Data → Type 0
    Texts json.null = Unit {0}
    Texts (json.boolean b) = Unit {0}
    Texts (json.number n) = Unit {0}
    Texts (json.string t) = T t
    Texts (json.array ds) = ItemsTexts ds
    Texts (json.object ms) = MembersTexts ms

    pub ItemsTexts : Items → Type 0
    ItemsTexts no_items = Unit {0}
    ItemsTexts (item d ds) = Texts d × ItemsTexts ds

    pub MembersTexts : Members → Type 0
    MembersTexts no_members = Unit {0}
    MembersTexts (member k d ms) = T k × Texts d × MembersTexts ms

module _ {N : Type 0} (P : Val N → Type 0) (Vs : Vals N → Type 0) (Ps : Pairs N → Type 0) (T : List ℕ → Type 0) where
  -- what plain values have, whose texts and keys are such
  pub record PlainClosed : Type 0 where
    pub null_ok : P null
    pub truth_ok : (b : Bool) → P (truth b)
    pub num_ok : (n : Num) (z : ℤ) → as_i64 n ≡ Some z → P (num z)
    pub text_ok : (t : List ℕ) → T t → P (text t)
    pub list_ok : (vs : Vals N) → Vs vs → P (list vs)
    pub dict_ok : (ps : Pairs N) → Ps ps → P (dict ps)
    pub none_ok : Vs no_vals
    pub val_ok : (v : Val N) (vs : Vals N) → P v → Vs vs → Vs (val v vs)
    pub empty_ok : Ps no_pairs
    pub put_ok : (k : List ℕ) (v : Val N) (ps : Pairs N) → T k → P v → Ps ps → Ps (put k v ps)

  module _ (c : PlainClosed) where
    number_is : (n : Num) (o : Option ℤ) → as_i64 n ≡ o → IfSome (option_map num o) P
    number_is n None e = tt
    number_is n (Some z) e = c.num_ok n z e

    list_is : (o : Option (Vals N)) → IfSome o Vs → IfSome (option_map list o) P
    list_is None h = tt
    list_is (Some vs) h = c.list_ok vs h

    dict_is : (o : Option (Pairs N)) → IfSome o Ps → IfSome (option_map dict o) P
    dict_is None h = tt
    dict_is (Some ps) h = c.dict_ok ps h

    item_is : (o : Option (Val N)) (os : Option (Vals N)) → IfSome o P → IfSome os Vs
        → IfSome (option_and_then (λ v. option_map (val v) os) o) Vs
    item_is None os h hs = tt
    item_is (Some v) None h hs = tt
    item_is (Some v) (Some vs) h hs = c.val_ok v vs h hs

    member_is : (k : List ℕ) (ps : Pairs N) (ms : Members) (o : Option (Val N)) → T k → IfSome o P → Ps ps
        → ((qs : Pairs N) → Ps qs → IfSome (pairs_onto qs ms) Ps)
        → IfSome (option_and_then (λ v. pairs_onto (put k v ps) ms) o) Ps
    member_is k ps ms None u h s rest = tt
    member_is k ps ms (Some v) u h s rest = rest (put k v ps) (c.put_ok k v ps u h s)

    mutual
      -- a value that JSON stands for has it
      pub value_is : (d : Data) → Texts T d → IfSome (value_of d) P
      value_is json.null h = c.null_ok
      value_is (json.boolean b) h = c.truth_ok b
      value_is (json.number n) h = number_is n (as_i64 n) refl
      value_is (json.string t) h = c.text_ok t h
      value_is (json.array ds) h = list_is (values_of ds) (values_are ds h)
      value_is (json.object ms) h = dict_is (pairs_onto no_pairs ms) (members_are no_pairs ms h c.empty_ok)

      values_are : (ds : Items) → ItemsTexts T ds → IfSome (values_of ds) Vs
      values_are no_items h = c.none_ok
      values_are (item d ds) h = item_is (value_of d) (values_of ds) (value_is d h.0) (values_are ds h.1)

      members_are : (ps : Pairs N) (ms : Members) → MembersTexts T ms → Ps ps → IfSome (pairs_onto ps ms) Ps
      members_are ps no_members h s = s
      members_are ps (member k d ms) h s =
          member_is k ps ms (value_of d) h.0 (value_is d h.1) s (λ qs z. members_are qs ms h.2 z)

    data_is : (o : Option Data) → IfSome o (Texts T) → IfSome (option_and_then value_of o) P
    data_is None h = tt
    data_is (Some d) h = value_is d h

    -- and so has one that bytes stand for
    pub read_is : (b : List ℕ) → (is_utf8 b ≡ true → IfSome (read b) (Texts T)) → IfSome (value_read b) P
    read_is b h = go (is_utf8 b) refl
      where
        go : (u : Bool) → is_utf8 b ≡ u → IfSome (if u then option_and_then value_of (read b) else None) P
        go true e = data_is (read b) (h e)
        go false e = tt

-- ---- any text

abbrev any_text : List ℕ → Type 0
any_text t = Unit {0}

mutual
  any_texts : (d : Data) → Texts any_text d
  any_texts json.null = tt
  any_texts (json.boolean b) = tt
  any_texts (json.number n) = tt
  any_texts (json.string t) = tt
  any_texts (json.array ds) = any_items ds
  any_texts (json.object ms) = any_members ms

  any_items : (ds : Items) → ItemsTexts any_text ds
  any_items no_items = tt
  any_items (item d ds) = (any_texts d, any_items ds)

  any_members : (ms : Members) → MembersTexts any_text ms
  any_members no_members = tt
  any_members (member k d ms) = (tt, any_texts d, any_members ms)

any_read : (o : Option Data) → IfSome o (Texts any_text)
any_read None = tt
any_read (Some d) = any_texts d

-- ---- what is read refers to nothing

module _ {N : Type 0} where
  plain_put : (k : List ℕ) (v : Val N) (ps : Pairs N) → Refers (λ d. ⊥) v → PairsRefer (λ d. ⊥) ps → PairsRefer (λ d. ⊥) (put k v ps)
  plain_put k v ps h i = put_refers N (λ d. ⊥) k v ps h i

  refers_closed : PlainClosed (Refers {N = N} (λ d. ⊥)) (ValsRefer (λ d. ⊥)) (PairsRefer (λ d. ⊥)) any_text
  refers_closed =
      record {
        null_ok = tt;
        truth_ok = λ b. tt;
        num_ok = λ n z e. tt;
        text_ok = λ t h. tt;
        list_ok = λ vs h. h;
        dict_ok = λ ps h. h;
        none_ok = tt;
        val_ok = λ v vs h i. (h, i);
        empty_ok = tt;
        put_ok = λ k v ps u h i. plain_put k v ps h i;
      }

  none_both : (xs ys : List (Desc N)) → xs ≡ [] → ys ≡ [] → xs ++ ys ≡ []
  none_both [] ys e f = f
  none_both (x ∷ xs) ys e f = cc

  mutual
    refs_none : (v : Val N) → Refers (λ d. ⊥) v → refs v ≡ []
    refs_none null h = refl
    refs_none (truth b) h = refl
    refs_none (num z) h = refl
    refs_none (text t) h = refl
    refs_none (list vs) h = vals_none vs h
    refs_none (dict ps) h = pairs_none ps h
    refs_none (fun f c) h = pairs_none c h
    refs_none (ref d) h = absurd h

    vals_none : (vs : Vals N) → ValsRefer (λ d. ⊥) vs → vals_refs vs ≡ []
    vals_none no_vals h = refl
    vals_none (val v vs) h = none_both (refs v) (vals_refs vs) (refs_none v h.0) (vals_none vs h.1)

    pairs_none : (ps : Pairs N) → PairsRefer (λ d. ⊥) ps → pairs_refs ps ≡ []
    pairs_none no_pairs h = refl
    pairs_none (pair k v ps) h = none_both (refs v) (pairs_refs ps) (refs_none v h.0) (pairs_none ps h.1)

-- ---- what is read is sound

module _ {N : Type 0} (K : N → Type 0) (sc : Script) where
  ordered_refs : (o : Ordering) (a b c : Pairs N) → PairsOver K sc a → PairsOver K sc b → PairsOver K sc c
      → PairsOver K sc (match_ordering o a b c)
  ordered_refs Less a b c x y z = x
  ordered_refs Equal a b c x y z = y
  ordered_refs Greater a b c x y z = z

  put_refs : (k : List ℕ) (v : Val N) (ps : Pairs N) → RefsOver K sc v → PairsOver K sc ps → PairsOver K sc (put k v ps)
  put_refs k v no_pairs r s = (r, tt)
  put_refs k v (pair l w ps) r s =
      ordered_refs (slice_cmp nat_cmp k l) _ _ _ (r, s) (r, s.1) (s.0, put_refs k v ps r s.1)

  sound_closed : PlainClosed (RefsOver K sc) (ValsOver K sc) (PairsOver K sc) any_text
  sound_closed =
      record {
        null_ok = tt;
        truth_ok = λ b. tt;
        num_ok = λ n z e. tt;
        text_ok = λ t h. tt;
        list_ok = λ vs h. h;
        dict_ok = λ ps h. h;
        none_ok = tt;
        val_ok = λ v vs h i. (h, i);
        empty_ok = tt;
        put_ok = λ k v ps u h i. put_refs k v ps h i;
      }

  read_refs : (b : List ℕ) → IfSome (value_read b) (RefsOver K sc)
  read_refs b = read_is (RefsOver K sc) (ValsOver K sc) (PairsOver K sc) any_text sound_closed b (λ e. any_read (read b))

  limited_sound : (v : Val N) → RefsOver K sc v → IfOk (limited v) (SoundOver K sc)
  limited_sound v r = go (nat_lt 100 (depth v)) (nat_lt 262144 (size v)) refl refl
    where
      go : (a b : Bool) → nat_lt 100 (depth v) ≡ a → nat_lt 262144 (size v) ≡ b → IfOk (unless a b v) (SoundOver K sc)
      go true b e f = tt
      go false true e f = tt
      go false false e f = (record { deep = ltb-false 100 (depth v) e; large = ltb-false 262144 (size v) f }, r)

  within_sound : (o : Option (Val N)) → IfSome o (RefsOver K sc) → IfOk (within_limits o) (SoundOver K sc)
  within_sound None h = tt
  within_sound (Some v) h = limited_sound v h

  all_sound : (b : List ℕ) → IfOk (reads b) (SoundOver K sc)
  all_sound b = go (nat_lt 8388608 (length b)) (nests_too_deep b)
    where
      go : (large deep : Bool)
          → IfOk (if large then Err FaultKind.TooLarge else (if deep then Err FaultKind.TooDeep else within_limits (value_read b))) (SoundOver K sc)
      go true deep = tt
      go false true = tt
      go false false = within_sound (value_read b) (read_refs b)

  -- whatever names may stand inside a value, and whatever the script: what is read is sound
  pub reads_sound : (b : List ℕ) (v : Val N) → reads b ≡ Ok v → SoundOver K sc v
  reads_sound b v e = subst (λ r. IfOk r (SoundOver K sc)) e (all_sound b)

-- ---- what bytes are read as, within the limits

module _ {N : Type 0} (P : Val N → Type 0) where
  limited_is : (v : Val N) → P v → IfOk (limited v) P
  limited_is v h = go (nat_lt 100 (depth v)) (nat_lt 262144 (size v))
    where
      go : (a b : Bool) → IfOk (unless a b v) P
      go true b = tt
      go false true = tt
      go false false = h

  within_is : (o : Option (Val N)) → IfSome o P → IfOk (within_limits o) P
  within_is None h = tt
  within_is (Some v) h = limited_is v h

  -- has what the value has that they stand for
  pub reads_is : (b : List ℕ) → IfSome (value_read b) P → IfOk (reads b) P
  reads_is b h = go (nat_lt 8388608 (length b)) (nests_too_deep b)
    where
      go : (large deep : Bool)
          → IfOk (if large then Err FaultKind.TooLarge else (if deep then Err FaultKind.TooDeep else within_limits (value_read b))) P
      go true deep = tt
      go false true = tt
      go false false = within_is (value_read b) h

-- data that is read refers to nothing
pub json_reads_plain : (gives : Gives) → PlainReads (json_around gives)
json_reads_plain gives b a e =
    refs_none a (subst (λ r. IfOk r (Refers (λ d. ⊥))) e
    (reads_is (Refers (λ d. ⊥)) b (read_is (Refers (λ d. ⊥)) (ValsRefer (λ d. ⊥)) (PairsRefer (λ d. ⊥)) any_text refers_closed b
    (λ z. any_read (read b)))))

-- what the meaning is asked of the reading of data
pub json_reads_sound : (sc : Script) (gives : Gives) → SoundReads sc (json_around gives)
json_reads_sound sc gives b = go (reads b) (all_sound (λ n. Unit {0}) sc b)
  where
    go : (r : Answer ⊥) → IfOk r (SoundOver (λ n. Unit {0}) sc) → SoundRead sc r
    go (Ok v) h = h
    go (Err k) h = tt
