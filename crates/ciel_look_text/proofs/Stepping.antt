-- The steps of a search: those that lead to each, and those that follow.
use Rattle.std.proofs.Common.{◌≡◌, ◌⊎◌, inl, inr, ◌≤◌, ◌<◌, ◌+◌, ◌-◌, ℕ, zero, suc, List, [], ◌∷◌, ◌++◌, Bool, true, false, ◌||◌, cond, length, map, reverse, slice_get, Option, Some, None, option_map, Contains}
use Rattle.std.proofs.Common.{append-nil, append_assoc, arith, drop, get_or, is_some, length-append, nat_lt, refl, ap, sym, ◌∙◌, subst}
use Rattle.std.specs.Prelude.{slice_index_or}
use Rattle.std.proofs.lemmas.Bool.{ltb-false, ltb-true}
use Rattle.std.specs.BTreeMap.{BTreeMap, Updates, get}
use Rattle.std.specs.List.{list_any}
use Rattle.std.proofs.lemmas.List.{length-map, map-append, reverse-append, reverse-reverse}
use Rattle.std.proofs.lemmas.List.Folds.{list_any-append}
use Rattle.sky_base.specs.NameOrder.{name_cmp}
use Rattle.sky_base.specs.declared.object.TaskId.{TaskId}
use Rattle.ciel_look_tasks.specs.Known.{maker_as}
use Rattle.ciel_look_tasks.specs.Seen.{Row, Seen}
use Rattle.ciel_look_tasks.specs.Tasks.{place_in, same_task}
use Rattle.ciel_look_tasks.proofs.TaskLists.{any_place, exact_task, found_more, self_task}
use Rattle.ciel_look_words.proofs.ManyWords.{dropped, dropped_all}
use Rattle.ciel_look_text.specs.Chains.{AreFollowed, AreLed, IsFollowed, IsLed, IsReachedBy, IsSearched}
use Rattle.ciel_look_text.specs.Now.{Now, is_there, waits_for}
use Rattle.ciel_look_text.specs.Steps.{is_reached, named_from, named_step, started_as, started_of, step_by, step_id, step_ids, step_place, target}
use Rattle.ciel_look_text.specs.Steps.{with_names, with_step, with_target}
use Rattle.ciel_look_text.specs.Why.{Chain, Needs, Shortest, is_row}
use Rattle.ciel_look_text.specs.declared.search.Step.{Step}
use Rattle.ciel_look_text.proofs.Going.{or_right, or_true}

-- ---- members of lists

get_more : {A : Type 0} (xs ys : List A) (i : ℕ) (x : A) → slice_get xs i ≡ Some x → slice_get (xs ++ ys) i ≡ Some x
get_more [] ys i x h = absurd cc
get_more (y ∷ xs) ys zero x h = h
get_more (y ∷ xs) ys (suc i) x h = get_more xs ys i x h

get_before : {A : Type 0} (xs ys : List A) (i : ℕ) → i < length xs → slice_get (xs ++ ys) i ≡ slice_get xs i
get_before [] ys i h = absurd (omega (arith, h))
get_before (x ∷ xs) ys zero h = refl
get_before (x ∷ xs) ys (suc i) h = get_before xs ys i (omega (arith, h))

get_push : {A : Type 0} (xs : List A) (y x : A) (i : ℕ) → slice_get (xs ++ y ∷ []) i ≡ Some x → (slice_get xs i ≡ Some x) ⊎ ((i ≡ length xs) × (y ≡ x))
get_push [] y x zero h = inr (refl, inner y x h)
  where
    inner : {A : Type 0} (a b : A) → Some a ≡ Some b → a ≡ b
    inner a b e = cc
get_push [] y x (suc i) h = absurd cc
get_push (z ∷ xs) y x zero h = inl h
get_push (z ∷ xs) y x (suc i) h = more (get_push xs y x i h)
  where
    more : (slice_get xs i ≡ Some x) ⊎ ((i ≡ length xs) × (y ≡ x)) → (slice_get xs i ≡ Some x) ⊎ ((suc i ≡ suc (length xs)) × (y ≡ x))
    more (inl g) = inl g
    more (inr g) = inr (ap suc g.0, g.1)

get_within : {A : Type 0} (xs : List A) (i : ℕ) (x : A) → slice_get xs i ≡ Some x → i < length xs
get_within [] i x h = absurd cc
get_within (y ∷ xs) zero x h = omega arith
get_within (y ∷ xs) (suc i) x h = let within = get_within xs i x h in omega (arith, within)

pub get_past : {A : Type 0} (xs : List A) (i : ℕ) → slice_get xs i ≡ None → length xs ≤ i
get_past [] i h = omega arith
get_past (x ∷ xs) zero h = absurd cc
get_past (x ∷ xs) (suc i) h = let past = get_past xs i h in omega (arith, past)

get_last : {A : Type 0} (xs : List A) (x : A) → slice_get (xs ++ x ∷ []) (length xs) ≡ Some x
get_last [] x = refl
get_last (y ∷ xs) x = get_last xs x

same_some : {A : Type 0} (a b : A) → Some a ≡ Some b → a ≡ b
same_some a b e = cc

-- ---- which tasks are reached

ids_push : (xs ys : List Step) → step_ids (xs ++ ys) ≡ step_ids xs ++ step_ids ys
ids_push xs ys = map-append step_id xs ys

reached_more : (n : List ℕ) (xs ys : List Step) → is_reached n xs ≡ true → is_reached n (xs ++ ys) ≡ true
reached_more n xs ys h =
    ap (list_any (same_task (TaskId.Of n))) (ids_push xs ys) ∙ list_any-append (same_task (TaskId.Of n)) (step_ids xs) (step_ids ys)
    ∙ or_true (is_reached n xs) (is_reached n ys) h

reached_push : (xs : List Step) (x : Step) → is_reached x.to (xs ++ x ∷ []) ≡ true
reached_push xs x =
    ap (list_any (same_task (TaskId.Of x.to))) (ids_push xs (x ∷ []))
    ∙ list_any-append (same_task (TaskId.Of x.to)) (step_ids xs) (step_ids (x ∷ []))
    ∙ or_right (is_reached x.to xs) (is_reached x.to (x ∷ [])) (or_true (same_task (TaskId.Of x.to) (TaskId.Of x.to)) false (self_task (TaskId.Of x.to)))

-- where the step stands
placed : (n : List ℕ) (xs : List Step) (p : ℕ) → step_place n xs ≡ Some p → (x : Step) × (slice_get xs p ≡ Some x) × (TaskId.Of n ≡ TaskId.Of x.to)
placed n [] p h = absurd cc
placed n (x ∷ xs) p h = go (same_task (TaskId.Of n) (TaskId.Of x.to)) refl (step_place n xs) (placed n xs) h
  where
    go : (b : Bool) → same_task (TaskId.Of n) (TaskId.Of x.to) ≡ b → (o : Option ℕ)
        → ((q : ℕ) → o ≡ Some q → (y : Step) × (slice_get xs q ≡ Some y) × (TaskId.Of n ≡ TaskId.Of y.to))
        → cond b (Some 0) (option_map suc o) ≡ Some p → (y : Step) × (slice_get (x ∷ xs) p ≡ Some y) × (TaskId.Of n ≡ TaskId.Of y.to)
    go true t o rec e =
        subst (λ q. (y : Step) × (slice_get (x ∷ xs) q ≡ Some y) × (TaskId.Of n ≡ TaskId.Of y.to)) (same_some 0 p e)
        (x, refl, exact_task (TaskId.Of n) (TaskId.Of x.to) t)
    go false t None rec e = absurd cc
    go false t (Some q) rec e =
        subst (λ k. (y : Step) × (slice_get (x ∷ xs) k ≡ Some y) × (TaskId.Of n ≡ TaskId.Of y.to)) (same_some (suc q) p e) (rec q refl)

abbrev of_name : TaskId → List ℕ
of_name TaskId.Show = []
of_name (TaskId.Of n) = n

same_name : (n m : List ℕ) → TaskId.Of n ≡ TaskId.Of m → n ≡ m
same_name n m e = ap of_name e

reached_there : (xs : List Step) (p : ℕ) (x : Step) → slice_get xs p ≡ Some x → is_reached x.to xs ≡ true
reached_there [] p x h = absurd cc
reached_there (y ∷ xs) zero x h =
    or_true (same_task (TaskId.Of x.to) (TaskId.Of y.to)) (is_reached x.to xs)
    (ap (λ z. same_task (TaskId.Of x.to) (TaskId.Of z.to)) (same_some y x h) ∙ self_task (TaskId.Of x.to))
reached_there (y ∷ xs) (suc p) x h =
    or_right (same_task (TaskId.Of x.to) (TaskId.Of y.to)) (is_reached x.to xs) (reached_there xs p x h)

-- no step before that place is to the task
first_place : (n : List ℕ) (xs : List Step) (p q : ℕ) (y : Step) → step_place n xs ≡ Some p → slice_get xs q ≡ Some y → y.to ≡ n → p ≤ q
first_place n [] p q y h g e = absurd cc
first_place n (x ∷ xs) p q y h g e = go (same_task (TaskId.Of n) (TaskId.Of x.to)) refl (step_place n xs) refl (first_place n xs) h q g
  where
    go : (b : Bool) → same_task (TaskId.Of n) (TaskId.Of x.to) ≡ b → (o : Option ℕ) → step_place n xs ≡ o
        → ((r k : ℕ) (z : Step) → step_place n xs ≡ Some r → slice_get xs k ≡ Some z → z.to ≡ n → r ≤ k)
        → cond b (Some 0) (option_map suc o) ≡ Some p → (k : ℕ) → slice_get (x ∷ xs) k ≡ Some y → p ≤ k
    go true t o w rec i k j = let none = same_some 0 p i in omega (arith, none)
    go false t None w rec i k j = absurd cc
    go false t (Some r) w rec i zero j =
        let same : x ≡ y = same_some x y j in
        let yes : same_task (TaskId.Of n) (TaskId.Of x.to) ≡ true =
        ap (λ m. same_task (TaskId.Of n) (TaskId.Of m)) (ap (λ (z : Step). z.to) same ∙ e) ∙ self_task (TaskId.Of n) in
        absurd cc
    go false t (Some r) w rec i (suc k) j =
        let up = rec r k y w j e in
        let at = same_some (suc r) p i in
        omega (arith, up, at)

reached_place : (n : List ℕ) (xs : List Step) → step_place n xs ≡ None → is_reached n xs ≡ false
reached_place n xs h = any_place (TaskId.Of n) (step_ids xs) ∙ ap is_some h

reached_at : (n : List ℕ) (xs : List Step) → is_reached n xs ≡ true → (p : ℕ) × (step_place n xs ≡ Some p)
reached_at n xs h = go (step_place n xs) refl
  where
    go : (o : Option ℕ) → step_place n xs ≡ o → (p : ℕ) × (step_place n xs ≡ Some p)
    go None e = let none = reached_place n xs e in absurd cc
    go (Some p) e = (p, e)

-- the map has the place of one more
pub step_found : (xs ys : List Step) (x : Step) (n : ℕ) (old new : BTreeMap (List ℕ) ℕ) → ys ≡ xs ++ x ∷ [] → n ≡ length xs
    → step_place x.to xs ≡ None → ((q : List ℕ) → get name_cmp old q ≡ step_place q xs) → Updates name_cmp old new x.to (Some n)
    → (q : List ℕ) → get name_cmp new q ≡ step_place q ys
step_found xs ys x n old new p l none h u q =
    found_more old new (step_ids xs) x.to h none
    (subst (λ i. Updates name_cmp old new x.to (Some i)) (l ∙ sym (length-map xs step_id)) u) q
    ∙ sym (ap (step_place q) p ∙ ap (place_in (TaskId.Of q)) (ids_push xs (x ∷ [])))

pub step_there : (xs : List Step) (x : Step) (p : ℕ) → Some p ≡ step_place x.to xs → xs ≡ with_step xs x
step_there xs x p e =
    sym (ap (λ b. cond b xs (xs ++ x ∷ [])) (any_place (TaskId.Of x.to) (step_ids xs) ∙ ap is_some (sym e)))

pub step_new : (xs ys : List Step) (x : Step) → None ≡ step_place x.to xs → ys ≡ xs ++ x ∷ [] → ys ≡ with_step xs x
step_new xs ys x e p = p ∙ sym (ap (λ b. cond b xs (xs ++ x ∷ [])) (reached_place x.to xs (sym e)))

-- ---- names that lead to a step

none_from : (most : ℕ) (xs : List Step) → named_from most xs None ≡ []
none_from zero xs = refl
none_from (suc most) xs = refl

pub put_none : (most : ℕ) (xs : List Step) (names : List (List ℕ)) → names ++ named_from most xs None ≡ names ++ named_from (suc most) xs None
put_none most xs names = ap (λ z. names ++ z) (none_from most xs)

pub put_past : (most i : ℕ) (xs : List Step) (names : List (List ℕ)) → slice_get xs i ≡ None
    → names ++ named_from most xs None ≡ names ++ named_from (suc most) xs (Some i)
put_past most i xs names e = ap (λ z. names ++ z) (none_from most xs ∙ sym (ap (λ z. named_step z (λ o. named_from most xs o)) e))

pub put_step : (most i : ℕ) (xs : List Step) (x : Step) (names new : List (List ℕ)) → slice_get xs i ≡ Some x → new ≡ names ++ x.name ∷ []
    → new ++ named_from most xs x.from ≡ names ++ named_from (suc most) xs (Some i)
put_step most i xs x names new e p =
    ap (λ z. z ++ named_from most xs x.from) p ∙ append_assoc names (x.name ∷ []) (named_from most xs x.from)
    ∙ ap (λ z. names ++ z) (sym (ap (λ z. named_step z (λ o. named_from most xs o)) e))

pub names_begun : (xs : List Step) (names : List (List ℕ)) (place : ℕ) → names ≡ []
    → names ++ named_from (length xs - 0) xs (Some place) ≡ named_from (length xs) xs (Some place)
names_begun xs names place e =
    let all : length xs - 0 ≡ length xs = omega arith in
    ap (λ z. z ++ named_from (length xs - 0) xs (Some place)) e ∙ ap (λ m. named_from m xs (Some place)) all

pub names_put : (xs : List Step) (i : ℕ) (at next : Option ℕ) (names new : List (List ℕ)) (place : ℕ) → i < length xs
    → ((most : ℕ) → new ++ named_from most xs next ≡ names ++ named_from (suc most) xs at)
    → names ++ named_from (length xs - i) xs at ≡ named_from (length xs) xs (Some place)
    → new ++ named_from (length xs - (i + 1)) xs next ≡ named_from (length xs) xs (Some place)
names_put xs i at next names new place l h left =
    let one : suc (length xs - (i + 1)) ≡ length xs - i = omega (arith, l) in
    h (length xs - (i + 1)) ∙ ap (λ m. names ++ named_from m xs at) one ∙ left

pub names_left : (xs : List Step) (i : ℕ) (at : Option ℕ) (names : List (List ℕ)) (place : ℕ) → length xs ≤ i
    → names ++ named_from (length xs - i) xs at ≡ named_from (length xs) xs (Some place) → names ≡ named_from (length xs) xs (Some place)
names_left xs i at names place l left =
    let none : 0 ≡ length xs - i = omega (arith, l) in
    sym (append-nil names) ∙ ap (λ m. names ++ named_from m xs at) none ∙ left

named_first : (xs : List Step) (i : ℕ) (x : Step) (most : ℕ) → slice_get xs i ≡ Some x → x.from ≡ None → 1 ≤ most
    → named_from most xs (Some i) ≡ reverse (x.name ∷ [])
named_first xs i x zero g e h = absurd (omega (arith, h))
named_first xs i x (suc most) g e h =
    ap (λ z. named_step z (λ o. named_from most xs o)) g ∙ ap (λ o. x.name ∷ named_from most xs o) e ∙ ap (λ z. x.name ∷ z) (none_from most xs)

named_next : (xs : List Step) (i j : ℕ) (x : Step) (names : List (List ℕ)) (most : ℕ) → slice_get xs i ≡ Some x → x.from ≡ Some j
    → ((m : ℕ) → length names ≤ m → named_from m xs (Some j) ≡ reverse names) → suc (length names) ≤ most
    → named_from most xs (Some i) ≡ reverse (names ++ x.name ∷ [])
named_next xs i j x names zero g e r h = absurd (omega (arith, h))
named_next xs i j x names (suc most) g e r h =
    ap (λ z. named_step z (λ o. named_from most xs o)) g ∙ ap (λ o. x.name ∷ named_from most xs o) e
    ∙ ap (λ z. x.name ∷ z) (r most (omega (arith, h))) ∙ sym (reverse-append names (x.name ∷ []))

-- ---- needs

module _ (s : Seen) (now : Now) where
  target_needs : (u : TaskId) (n to : List ℕ) → Contains (waits_for s now u) n → target s now n ≡ Some to → Needs s now u n (TaskId.Of to)
  target_needs u n to w h = go (is_there s now n) refl h
    where
      one : (t : TaskId) → maker_as n s.makers ≡ Some t → is_there s now n ≡ false → started_as s.rows t ≡ Some to → Needs s now u n (TaskId.Of to)
      one TaskId.Show e l g = absurd cc
      one (TaskId.Of m) e l g = row (is_row (TaskId.Of m) s.rows) refl g
        where
          row : (b : Bool) → is_row (TaskId.Of m) s.rows ≡ b → cond b (Some m) None ≡ Some to → Needs s now u n (TaskId.Of to)
          row false r k = absurd cc
          row true r k =
              let same : m ≡ to = same_some m to k in
              record {
                waits = w;
                lacks = l;
                makes = e ∙ ap (λ x. Some (TaskId.Of x)) same;
                started = subst (λ x. is_row (TaskId.Of x) s.rows ≡ true) same r;
              }

      made : (o : Option TaskId) → maker_as n s.makers ≡ o → is_there s now n ≡ false → started_of s.rows o ≡ Some to → Needs s now u n (TaskId.Of to)
      made None e l g = absurd cc
      made (Some t) e l g = one t e l g

      go : (b : Bool) → is_there s now n ≡ b → cond b None (started_of s.rows (maker_as n s.makers)) ≡ Some to → Needs s now u n (TaskId.Of to)
      go true l g = absurd cc
      go false l g = made (maker_as n s.makers) refl l g

  needs_target : (u : TaskId) (n to : List ℕ) → Needs s now u n (TaskId.Of to) → target s now n ≡ Some to
  needs_target u n to h =
      ap (λ b. cond b None (started_of s.rows (maker_as n s.makers))) h.lacks ∙ ap (started_of s.rows) h.makes
      ∙ ap (λ b. cond b (Some to) None) h.started

  pub target_there : (n : List ℕ) → is_there s now n ≡ true → target s now n ≡ None
  target_there n e = ap (λ b. cond b None (started_of s.rows (maker_as n s.makers))) e

  pub target_lacks : (n : List ℕ) → is_there s now n ≡ false → target s now n ≡ started_of s.rows (maker_as n s.makers)
  target_lacks n e = ap (λ b. cond b None (started_of s.rows (maker_as n s.makers))) e

  chain_push : (u v w : TaskId) (ns : List (List ℕ)) (n : List ℕ) → Chain s now u ns v → Needs s now v n w → Chain s now u (ns ++ n ∷ []) w
  chain_push u v w [] n c d = (w, subst (λ t. Needs s now t n w) (sym c) d, refl)
  chain_push u v w (m ∷ ns) n c d = (c.0, c.1, chain_push c.0 v w ns n c.2 d)

  -- ---- a step more

  -- the task from which the step is, which so many needs lead to
  abbrev pub IsFrom : List Step → List ℕ → Option ℕ → TaskId → ℕ → Type 0
  IsFrom xs ds None u d = (u ≡ TaskId.Show) × (d ≡ 0)
  IsFrom xs ds (Some j) u d = (p : Step) × (slice_get xs j ≡ Some p) × (u ≡ TaskId.Of p.to) × (slice_get ds j ≡ Some d)

  from_more : (xs ys : List Step) (ds es : List ℕ) (o : Option ℕ) (u : TaskId) (d : ℕ) → IsFrom xs ds o u d → IsFrom (xs ++ ys) (ds ++ es) o u d
  from_more xs ys ds es None u d h = h
  from_more xs ys ds es (Some j) u d h = (h.0, get_more xs ys j h.0 h.1, h.2, get_more ds es j d h.3)

  abbrev led_more : (xs ys : List Step) (i : ℕ) (x : Step) (d : ℕ) → IsLed s now xs i x d → IsLed s now (xs ++ ys) i x d
  led_more xs ys i x d h =
      record {
        names = h.names;
        named = λ more most l. ap (λ zs. named_from most zs (Some i)) (append_assoc xs ys more) ∙ h.named (ys ++ more) most l;
        long = h.long;
        short = h.short;
        chain = h.chain;
      }

  led_last : (xs : List Step) (ds : List ℕ) (o : Option ℕ) (u : TaskId) (d : ℕ) (x : Step) → AreLed s now xs ds → IsFrom xs ds o u d → x.from ≡ o
      → Needs s now u x.name (TaskId.Of x.to) → slice_get (xs ++ x ∷ []) (length xs) ≡ Some x → IsLed s now (xs ++ x ∷ []) (length xs) x (suc d)
  led_last xs ds None u d x a f e n g =
      let nothing = f.1 in
      let none : suc d ≡ 1 = omega (arith, nothing) in
      subst (IsLed s now (xs ++ x ∷ []) (length xs) x) (sym none)
      (record {
        names = x.name ∷ [];
        named = λ more most l. named_first ((xs ++ x ∷ []) ++ more) (length xs) x most (get_more (xs ++ x ∷ []) more (length xs) x g) e l;
        long = refl;
        short = omega arith;
        chain = (TaskId.Of x.to, subst (λ t. Needs s now t x.name (TaskId.Of x.to)) f.0 n, refl);
      })
  led_last xs ds (Some j) u d x a f e n g =
      let before = a.led j f.0 f.1 in
      let same : before.0 ≡ d = same_some before.0 d (sym before.1 ∙ f.3) in
      let one = before.2 in
      let long = one.long in
      let few = one.short in
      let old = led_more xs (x ∷ []) j f.0 before.0 one in
      let within = get_within xs j f.0 f.1 in
      record {
        names = one.names ++ x.name ∷ [];
        named = λ more most l.
            named_next ((xs ++ x ∷ []) ++ more) (length xs) j x one.names most (get_more (xs ++ x ∷ []) more (length xs) x g) e
            (λ m k. old.named more m (omega (arith, k, long, same))) (omega (arith, l, long, same));
        long = omega (arith, long, same, length-append one.names (x.name ∷ []));
        short = omega (arith, few, same, within);
        chain = chain_push TaskId.Show (TaskId.Of f.0.to) (TaskId.Of x.to) one.names x.name one.chain
            (subst (λ t. Needs s now t x.name (TaskId.Of x.to)) f.2 n);
      }

  -- all are as near as the next ones
  abbrev pub AreNear : (d : ℕ) → List ℕ → Type 0
  AreNear d ds = (j b : ℕ) → slice_get ds j ≡ Some b → b ≤ suc d

  near_push : (d : ℕ) (ds : List ℕ) → AreNear d ds → AreNear d (ds ++ suc d ∷ [])
  near_push d ds h j b g = go (get_push ds (suc d) b j g)
    where
      go : (slice_get ds j ≡ Some b) ⊎ ((j ≡ length ds) × (suc d ≡ b)) → b ≤ suc d
      go (inl k) = h j b k
      go (inr k) = let last = k.1 in omega (arith, last)

  led_push : (xs : List Step) (ds : List ℕ) (o : Option ℕ) (u : TaskId) (d : ℕ) (x : Step) → AreLed s now xs ds → AreNear d ds → IsFrom xs ds o u d
      → x.from ≡ o → Needs s now u x.name (TaskId.Of x.to) → AreLed s now (xs ++ x ∷ []) (ds ++ suc d ∷ [])
  led_push xs ds o u d x a near f e n = record { same = long; led = led; sorted = sorted }
    where
      long : length (ds ++ suc d ∷ []) ≡ length (xs ++ x ∷ [])
      long = let same = a.same in omega (arith, same, length-append ds (suc d ∷ []), length-append xs (x ∷ []))

      led : (i : ℕ) (y : Step) → slice_get (xs ++ x ∷ []) i ≡ Some y
          → (b : ℕ) × (slice_get (ds ++ suc d ∷ []) i ≡ Some b) × IsLed s now (xs ++ x ∷ []) i y b
      led i y g = go (get_push xs x y i g)
        where
          go : (slice_get xs i ≡ Some y) ⊎ ((i ≡ length xs) × (x ≡ y))
              → (b : ℕ) × (slice_get (ds ++ suc d ∷ []) i ≡ Some b) × IsLed s now (xs ++ x ∷ []) i y b
          go (inl h) =
              let old = a.led i y h in
              (old.0, get_more ds (suc d ∷ []) i old.0 old.1, led_more xs (x ∷ []) i y old.0 old.2)
          go (inr h) =
              let last : slice_get (ds ++ suc d ∷ []) (length xs) ≡ Some (suc d) =
              ap (slice_get (ds ++ suc d ∷ [])) (sym a.same) ∙ get_last ds (suc d) in (
                suc d,
                ap (slice_get (ds ++ suc d ∷ [])) h.0 ∙ last,
                subst (λ k. IsLed s now (xs ++ x ∷ []) k y (suc d)) (sym h.0)
                    (subst (λ z. IsLed s now (xs ++ x ∷ []) (length xs) z (suc d)) h.1 (led_last xs ds o u d x a f e n (get_last xs x))),
              )

      sorted : (i j b c : ℕ) → i ≤ j → slice_get (ds ++ suc d ∷ []) i ≡ Some b → slice_get (ds ++ suc d ∷ []) j ≡ Some c → b ≤ c
      sorted i j b c l g h = go (get_push ds (suc d) b i g) (get_push ds (suc d) c j h)
        where
          go : (slice_get ds i ≡ Some b) ⊎ ((i ≡ length ds) × (suc d ≡ b)) → (slice_get ds j ≡ Some c) ⊎ ((j ≡ length ds) × (suc d ≡ c)) → b ≤ c
          go (inl p) (inl q) = a.sorted i j b c l p q
          go (inl p) (inr q) = let close = near i b p in let last = q.1 in omega (arith, close, last)
          go (inr p) (inl q) = let within = get_within ds j c q in let at = p.0 in absurd (omega (arith, within, at, l))
          go (inr p) (inr q) = let one = p.1 in let two = q.1 in omega (arith, one, two)

  -- what stands after the steps by some names
  record Grown (d : ℕ) (old new : List Step) (ds : List ℕ) : Type 0 where
    more : List Step
    grown : new ≡ old ++ more
    counts : List ℕ
    led : AreLed s now new (ds ++ counts)
    near : AreNear d (ds ++ counts)

  grown_none : (d : ℕ) (xs : List Step) (ds : List ℕ) → AreLed s now xs ds → AreNear d ds → Grown d xs xs ds
  grown_none d xs ds a h =
      record {
        more = [];
        grown = sym (append-nil xs);
        counts = [];
        led = subst (AreLed s now xs) (sym (append-nil ds)) a;
        near = subst (AreNear d) (sym (append-nil ds)) h;
      }

  target_grown : (o : Option ℕ) (u : TaskId) (d : ℕ) (n : List ℕ) (xs : List Step) (ds : List ℕ) → AreLed s now xs ds → AreNear d ds
      → IsFrom xs ds o u d → Contains (waits_for s now u) n → (t : Option (List ℕ)) → target s now n ≡ t → Grown d xs (with_target o n xs t) ds
  target_grown o u d n xs ds a h f w None e = grown_none d xs ds a h
  target_grown o u d n xs ds a h f w (Some to) e = go (is_reached to xs)
    where
      go : (b : Bool) → Grown d xs (cond b xs (xs ++ step_by o n to ∷ [])) ds
      go true = grown_none d xs ds a h
      go false =
          record {
            more = step_by o n to ∷ [];
            grown = refl;
            counts = suc d ∷ [];
            led = led_push xs ds o u d (step_by o n to) a h f refl (target_needs u n to w e);
            near = near_push d ds h;
          }

  contains_next : (names : List (List ℕ)) (m n : List ℕ) → Contains names n → Contains (m ∷ names) n
  contains_next names m n h = (suc h.0, omega (arith, h.1), h.2)

  contains_first : (names : List (List ℕ)) (m : List ℕ) → Contains (m ∷ names) m
  contains_first names m = (0, omega arith, refl)

  names_grown : (o : Option ℕ) (u : TaskId) (d : ℕ) (names : List (List ℕ)) (xs : List Step) (ds : List ℕ) → AreLed s now xs ds → AreNear d ds
      → IsFrom xs ds o u d → ((n : List ℕ) → Contains names n → Contains (waits_for s now u) n) → Grown d xs (with_names s now o names xs) ds
  names_grown o u d [] xs ds a h f w = grown_none d xs ds a h
  names_grown o u d (n ∷ names) xs ds a h f w =
      let here = target_grown o u d n xs ds a h f (w n (contains_first names n)) (target s now n) refl in
      let there = subst (λ ys. IsFrom ys (ds ++ here.counts) o u d) (sym here.grown) (from_more xs here.more ds here.counts o u d f) in
      let later = names_grown o u d names (with_target o n xs (target s now n)) (ds ++ here.counts) here.led here.near there
      (λ m k. w m (contains_next names n m k)) in
      let counts = append_assoc ds here.counts later.counts in
      record {
        more = here.more ++ later.more;
        grown = later.grown ∙ ap (λ z. z ++ later.more) here.grown ∙ append_assoc xs here.more later.more;
        counts = here.counts ++ later.counts;
        led = subst (AreLed s now (with_names s now o (n ∷ names) xs)) counts later.led;
        near = subst (AreNear d) counts later.near;
      }

  -- ---- each need is followed

  target_reached : (o : Option ℕ) (n to : List ℕ) (xs : List Step) → is_reached to (with_target o n xs (Some to)) ≡ true
  target_reached o n to xs = go (is_reached to xs) refl
    where
      go : (b : Bool) → is_reached to xs ≡ b → is_reached to (cond b xs (xs ++ step_by o n to ∷ [])) ≡ true
      go true e = e
      go false e = reached_push xs (step_by o n to)

  target_kept : (o : Option ℕ) (m n : List ℕ) (xs : List Step) (t : Option (List ℕ)) → is_reached m xs ≡ true
      → is_reached m (with_target o n xs t) ≡ true
  target_kept o m n xs None h = h
  target_kept o m n xs (Some to) h = go (is_reached to xs)
    where
      go : (b : Bool) → is_reached m (cond b xs (xs ++ step_by o n to ∷ [])) ≡ true
      go true = h
      go false = reached_more m xs (step_by o n to ∷ []) h

  names_kept : (o : Option ℕ) (m : List ℕ) (names : List (List ℕ)) (xs : List Step) → is_reached m xs ≡ true
      → is_reached m (with_names s now o names xs) ≡ true
  names_kept o m [] xs h = h
  names_kept o m (n ∷ names) xs h =
      names_kept o m names (with_target o n xs (target s now n)) (target_kept o m n xs (target s now n) h)

  names_reached : (o : Option ℕ) (names : List (List ℕ)) (xs : List Step) (n to : List ℕ) → Contains names n → target s now n ≡ Some to
      → is_reached to (with_names s now o names xs) ≡ true
  names_reached o [] xs n to h e = absurd (omega (arith, h.1))
  names_reached o (m ∷ names) xs n to h e =
      go (λ k. names_reached o names (with_target o m xs (target s now m)) n to k e) h.0 h.1 h.2
    where
      go : (Contains names n → is_reached to (with_names s now o names (with_target o m xs (target s now m))) ≡ true)
          → (k : ℕ) → k < suc (length names) → slice_index_or (m ∷ names) k n ≡ n
          → is_reached to (with_names s now o names (with_target o m xs (target s now m))) ≡ true
      go rec zero l i =
          let same : target s now m ≡ Some to = ap (target s now) i ∙ e in
          names_kept o to names (with_target o m xs (target s now m))
          (subst (λ t. is_reached to (with_target o m xs t) ≡ true) (sym same) (target_reached o m to xs))
      go rec (suc k) l i = rec (k, omega (arith, l), i)

  -- a task that is reached where all are near
  reached_by : (d : ℕ) (to : List ℕ) (xs : List Step) (ds : List ℕ) → AreLed s now xs ds → AreNear d ds → is_reached to xs ≡ true
      → IsReachedBy xs ds to (suc d)
  reached_by d to xs ds a h r =
      let at = reached_at to xs r in
      let there = placed to xs at.0 at.1 in
      let led = a.led at.0 there.0 there.1 in
      record {
        place = at.0;
        step = there.0;
        there = there.1;
        own = sym (same_name to there.0.to there.2);
        needs = led.0;
        counted = led.1;
        few = h at.0 led.0 led.1;
      }

  by_more : (xs more : List Step) (ds es : List ℕ) (to : List ℕ) (n : ℕ) → IsReachedBy xs ds to n → IsReachedBy (xs ++ more) (ds ++ es) to n
  by_more xs more ds es to n h =
      record {
        place = h.place;
        step = h.step;
        there = get_more xs more h.place h.step h.there;
        own = h.own;
        needs = h.needs;
        counted = get_more ds es h.place h.needs h.counted;
        few = h.few;
      }

  -- ---- the whole search

  pub search_begun : (none xs : List Step) → none ≡ [] → xs ≡ with_names s now None (waits_for s now TaskId.Show) none → IsSearched s now 0 xs
  search_begun none xs e p =
      let names = waits_for s now TaskId.Show in
      let all : xs ≡ with_names s now None names [] = p ∙ ap (with_names s now None names) e in
      let nothing : AreLed s now [] [] = record { same = refl; led = λ i x h. absurd cc; sorted = λ i j a b l g h. absurd cc } in
      let grown = names_grown None TaskId.Show 0 names [] [] nothing (λ j b h. absurd cc) (refl, refl) (λ n h. h) in
      subst (IsSearched s now 0) (sym all)
      (record {
        counts = grown.counts;
        led = grown.led;
        root = λ name to w t. reached_by 0 to (with_names s now None names []) grown.counts grown.led grown.near (names_reached None names [] name to w t);
        followed = λ i x d l g h. absurd (omega (arith, l));
        near = λ d j b g h. let few = grown.near j b h in omega (arith, few);
      })

  pub search_next : (i : ℕ) (xs ys : List Step) (x : Step) → slice_get xs i ≡ Some x → IsSearched s now i xs
      → ys ≡ with_names s now (Some i) (waits_for s now (TaskId.Of x.to)) xs → IsSearched s now (i + 1) ys
  search_next i xs ys x g h p = subst (IsSearched s now (i + 1)) (sym p) all
    where
      names : List (List ℕ)
      names = waits_for s now (TaskId.Of x.to)

      next : List Step
      next = with_names s now (Some i) names xs

      led : (d : ℕ) × (slice_get h.counts i ≡ Some d) × IsLed s now xs i x d
      led = h.led.led i x g

      grown : Grown led.0 xs next h.counts
      grown =
          names_grown (Some i) (TaskId.Of x.to) led.0 names xs h.counts h.led (λ j b k. h.near led.0 j b led.1 k) (x, g, refl, led.1) (λ n w. w)

      back : (to : List ℕ) (n : ℕ) → IsReachedBy xs h.counts to n → IsReachedBy next (h.counts ++ grown.counts) to n
      back to n k =
          subst (λ zs. IsReachedBy zs (h.counts ++ grown.counts) to n) (sym grown.grown) (by_more xs grown.more h.counts grown.counts to n k)

      followed : AreFollowed s now (i + 1) next (h.counts ++ grown.counts)
      followed j y d l a b = go (nat_lt j i) refl
        where
          go : (c : Bool) → nat_lt j i ≡ c → IsFollowed s now (TaskId.Of y.to) d next (h.counts ++ grown.counts)
          go true e =
              let below : j < i = ltb-true j i e in
              let within = get_within xs i x g in
              let same = h.led.same in
              let there : slice_get xs j ≡ Some y =
              sym (get_before xs grown.more j (omega (arith, below, within))) ∙ ap (λ zs. slice_get zs j) (sym grown.grown) ∙ a in
              let count : slice_get h.counts j ≡ Some d = sym (get_before h.counts grown.counts j (omega (arith, below, within, same))) ∙ b in
              λ name to w t. back to (suc d) (h.followed j y d below there count name to w t)
          go false e =
              let above : i ≤ j = ltb-false j i e in
              let same : i ≡ j = omega (arith, above, l) in
              let one : x ≡ y =
              same_some x y (sym (get_more xs grown.more i x g) ∙ ap (λ zs. slice_get zs i) (sym grown.grown) ∙ ap (slice_get next) same ∙ a) in
              let many : led.0 ≡ d =
              same_some led.0 d (sym (get_more h.counts grown.counts i led.0 led.1) ∙ ap (slice_get (h.counts ++ grown.counts)) same ∙ b) in
              subst (λ k. IsFollowed s now (TaskId.Of y.to) k next (h.counts ++ grown.counts)) many
              (subst (λ z. IsFollowed s now (TaskId.Of z.to) led.0 next (h.counts ++ grown.counts)) one
              (λ name to w t. reached_by led.0 to next (h.counts ++ grown.counts) grown.led grown.near (names_reached (Some i) names xs name to w t)))

      all : IsSearched s now (i + 1) next
      all =
          record {
            counts = h.counts ++ grown.counts;
            led = grown.led;
            root = λ name to w t. back to (suc 0) (h.root name to w t);
            followed = followed;
            near = λ d j b k l.
                let few = grown.near j b l in
                let sorted = grown.led.sorted i (i + 1) led.0 d (omega arith) (get_more h.counts grown.counts i led.0 led.1) k in
                omega (arith, few, sorted);
          }

  pub search_over : (i : ℕ) (xs : List Step) → length xs ≤ i → IsSearched s now i xs → IsSearched s now (length xs) xs
  search_over i xs h a =
      record {
        counts = a.counts;
        led = a.led;
        root = a.root;
        followed = λ j x d l g k. a.followed j x d (omega (arith, h, l)) g k;
        near = λ d j b k l.
            let within = get_within a.counts (length xs) d k in
            let same = a.led.same in
            absurd (omega (arith, within, same));
      }

  -- ---- a chain, or none

  by_few : (xs : List Step) (ds : List ℕ) (to : List ℕ) (m n : ℕ) → m ≤ n → IsReachedBy xs ds to m → IsReachedBy xs ds to n
  by_few xs ds to m n l h =
      let few = h.few in
      record { place = h.place; step = h.step; there = h.there; own = h.own; needs = h.needs; counted = h.counted; few = omega (arith, few, l) }

  abbrev IsBy : List Step → List ℕ → TaskId → ℕ → Type 0
  IsBy xs ds TaskId.Show m = Unit {0}
  IsBy xs ds (TaskId.Of n) m = IsReachedBy xs ds n m

  module _ (xs : List Step) (h : IsSearched s now (length xs) xs) where
    chain_by : (names : List (List ℕ)) (u v : TaskId) (m : ℕ) → Chain s now u names v → IsBy xs h.counts u m → IsBy xs h.counts v (m + length names)
    chain_by [] u v m c k =
        let none : m ≡ m + 0 = omega arith in
        subst (IsBy xs h.counts v) none (subst (λ t. IsBy xs h.counts t m) c k)
    chain_by (n ∷ names) u v m c k =
        let one : suc m + length names ≡ m + suc (length names) = omega arith in
        subst (IsBy xs h.counts v) one (chain_by names c.0 v (suc m) c.2 (mid c.0 c.1))
      where
        from : (t : TaskId) → IsBy xs h.counts t m → (to : List ℕ) → Contains (waits_for s now t) n → target s now n ≡ Some to
            → IsReachedBy xs h.counts to (suc m)
        from TaskId.Show i to w e = by_few xs h.counts to (suc 0) (suc m) (omega arith) (h.root n to w e)
        from (TaskId.Of q) i to w e =
            let within = get_within xs i.place i.step i.there in
            let few = i.few in
            by_few xs h.counts to (suc i.needs) (suc m) (omega (arith, few))
            (h.followed i.place i.step i.needs within i.there i.counted n to (subst (λ k. Contains (waits_for s now (TaskId.Of k)) n) (sym i.own) w) e)

        mid : (w : TaskId) → Needs s now u n w → IsBy xs h.counts w (suc m)
        mid TaskId.Show d = tt
        mid (TaskId.Of q) d = from u k q d.waits (needs_target u n q d)

    pub no_chain : (n : List ℕ) → None ≡ step_place n xs → (names : List (List ℕ)) → Chain s now TaskId.Show names (TaskId.Of n) → ⊥
    no_chain n e names c =
        let by : IsReachedBy xs h.counts n (0 + length names) = chain_by names TaskId.Show (TaskId.Of n) 0 c tt in
        let there : is_reached n xs ≡ true = subst (λ k. is_reached k xs ≡ true) by.own (reached_there xs by.place by.step by.there) in
        let none : is_reached n xs ≡ false = reached_place n xs (sym e) in
        absurd cc

    pub shortest_there : (n : List ℕ) (p : ℕ) (names : List (List ℕ)) → Some p ≡ step_place n xs
        → names ≡ reverse (named_from (length xs) xs (Some p)) → Shortest s now names (TaskId.Of n)
    shortest_there n p names e r =
        let there = placed n xs p (sym e) in
        let led = h.led.led p there.0 there.1 in
        let one = led.2 in
        let within = get_within xs p there.0 there.1 in
        let few = one.short in
        let long = one.long in
        let back : names ≡ one.names =
        r ∙ ap reverse (ap (λ zs. named_from (length xs) zs (Some p)) (sym (append-nil xs)) ∙ one.named [] (length xs) (omega (arith, few, within)))
        ∙ reverse-reverse one.names in
        record {
          chain = subst (λ ns. Chain s now TaskId.Show ns (TaskId.Of n)) (sym back)
              (subst (λ t. Chain s now TaskId.Show one.names t) (sym there.2) one.chain);
          least = λ others c.
              let by : IsReachedBy xs h.counts n (0 + length others) = chain_by others TaskId.Show (TaskId.Of n) 0 c tt in
              let before = first_place n xs p by.place by.step (sym e) by.there by.own in
              let sorted = h.led.sorted p by.place led.0 by.needs before led.1 by.counted in
              let most = by.few in
              let same : length names ≡ length one.names = ap length back in
              omega (arith, sorted, most, same, long);
        }

  -- ---- names, one after another

  pub names_next : (o : Option ℕ) (names : List (List ℕ)) (i : ℕ) (x : List ℕ) (xs ys all : List Step) → i < length names → x ≡ get_or names i x
      → ys ≡ with_target o x xs (target s now x) → with_names s now o (drop i names) xs ≡ all → with_names s now o (drop (i + 1) names) ys ≡ all
  names_next o names i x xs ys all h e p left =
      ap (with_names s now o (drop (i + 1) names)) p ∙ sym (ap (λ ns. with_names s now o ns xs) (dropped names i x h e)) ∙ left

  pub names_end : (o : Option ℕ) (names : List (List ℕ)) (i : ℕ) (xs all : List Step) → length names ≤ i → with_names s now o (drop i names) xs ≡ all
      → xs ≡ all
  names_end o names i xs all h left = sym (ap (λ ns. with_names s now o ns xs) (dropped_all names i h)) ∙ left
