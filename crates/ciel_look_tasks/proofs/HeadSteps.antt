-- What was known of the tasks when they were first started, where an entry more is told.
use Rattle.std.proofs.Common.{◌≡◌, ℕ, suc, List, [], ◌∷◌, ◌++◌, Bool, true, false, ◌||◌, cond, flat_map, map, Option, Some, None, option_map}
use Rattle.std.proofs.Common.{append-nil, append_assoc, is_some, refl, ap, sym, ◌∙◌, subst}
use Rattle.std.specs.List.{list_any}
use Rattle.std.proofs.lemmas.Grind.{flat_map-append}
use Rattle.sky_base.specs.ObjectView.{desc_view}
use Rattle.sky_base.specs.Val.{Desc, same_text}
use Rattle.sky_base.specs.declared.object.TaskId.{TaskId}
use Rattle.ciel_look_told.specs.Head.{Head, short}
use Rattle.ciel_look_told.specs.Told as told
use Rattle.ciel_look_told.specs.Told.{Told}
use Rattle.ciel_look_words.specs.declared.known.Known.{Known}
use Rattle.ciel_look_tasks.specs.Heads.{AreDescribed, Heading, IsDescribed, heading_task, named_in, own_desc, task_place, with_begun, with_heading}
use Rattle.ciel_look_tasks.specs.Known.{Named, known_as, known_view, knowns, place_of, with_known}
use Rattle.ciel_look_tasks.specs.Learned.{described, given, known, learned, own_known, spawned, with_name}
use Rattle.ciel_look_tasks.specs.Tasks.{begun, same_task, tasks}
use Rattle.ciel_look_tasks.proofs.KnownSteps.{learned_append}
use Rattle.ciel_look_tasks.proofs.TaskLists.{any_once, self_task}

-- ---- the description at the place of a task

own_place : (n : List ℕ) (ks : List Known) → own_desc (TaskId.Of n) (named_in (knowns ks) (place_of n ks)) ≡ known_as n (knowns ks)
own_place n [] = refl
own_place n (k ∷ ks) = go (same_text n k.name) refl (place_of n ks) (own_place n ks)
  where
    go : (b : Bool) → same_text n k.name ≡ b → (o : Option ℕ) → own_desc (TaskId.Of n) (named_in (knowns ks) o) ≡ known_as n (knowns ks)
        → own_desc (TaskId.Of n) (named_in (known_view k ∷ knowns ks) (cond b (Some 0) (option_map suc o)))
        ≡ cond b (Some (desc_view k.desc)) (known_as n (knowns ks))
    go true e o h = ap (λ c. cond c (Some (desc_view k.desc)) None) e
    go false e None h = h
    go false e (Some p) h = h

place_stays : (n : List ℕ) (ks : List Known) (more : List Named)
    → named_in (knowns ks ++ more) (place_of n ks) ≡ named_in (knowns ks) (place_of n ks)
place_stays n [] more = refl
place_stays n (k ∷ ks) more = go (same_text n k.name) (place_of n ks) (place_stays n ks more)
  where
    go : (b : Bool) (o : Option ℕ) → named_in (knowns ks ++ more) o ≡ named_in (knowns ks) o
        → named_in (known_view k ∷ (knowns ks ++ more)) (cond b (Some 0) (option_map suc o))
        ≡ named_in (known_view k ∷ knowns ks) (cond b (Some 0) (option_map suc o))
    go true o h = refl
    go false None h = refl
    go false (Some p) h = h

task_known : (t : TaskId) (ks : List Known) → own_desc t (named_in (knowns ks) (task_place t ks)) ≡ own_known (knowns ks) t
task_known TaskId.Show ks = refl
task_known (TaskId.Of n) ks = own_place n ks

task_stays : (t : TaskId) (ks : List Known) (more : List Named)
    → named_in (knowns ks ++ more) (task_place t ks) ≡ named_in (knowns ks) (task_place t ks)
task_stays TaskId.Show ks more = refl
task_stays (TaskId.Of n) ks more = place_stays n ks more

-- ---- what is known grows

learned_grows : (s : Bool) (ks : List Named) (ds : List (Desc (List ℕ))) → (more : List Named) × (learned s ks ds ≡ ks ++ more)
learned_grows s ks [] = ([], sym (append-nil ks))
learned_grows s ks (d ∷ ds) = go (with_known ks (with_name s d)) (one_more ks (with_name s d)) (learned_grows s (with_known ks (with_name s d)) ds)
  where
    one_more : (ks : List Named) (k : Named) → (more : List Named) × (with_known ks k ≡ ks ++ more)
    one_more ks k = turn (is_some (known_as k.0 ks))
      where
        turn : (b : Bool) → (more : List Named) × (cond b ks (ks ++ k ∷ []) ≡ ks ++ more)
        turn true = ([], sym (append-nil ks))
        turn false = (k ∷ [], refl)

    go : (ls : List Named) → (more : List Named) × (ls ≡ ks ++ more) → (more : List Named) × (learned s ls ds ≡ ls ++ more)
        → (more : List Named) × (learned s ls ds ≡ ks ++ more)
    go ls first rest = (first.0 ++ rest.0, rest.1 ∙ ap (λ xs. xs ++ rest.0) first.1 ∙ append_assoc ks first.0 rest.0)

-- ---- what is told

any_both : (test : TaskId → Bool) (xs ys : List TaskId) → list_any test (xs ++ ys) ≡ (list_any test xs || list_any test ys)
any_both test [] ys = refl
any_both test (x ∷ xs) ys = ap (λ b. test x || b) (any_both test xs ys) ∙ go (test x)
  where
    go : (b : Bool) → (b || (list_any test xs || list_any test ys)) ≡ ((b || list_any test xs) || list_any test ys)
    go true = refl
    go false = refl

left_or : (a b : Bool) → a ≡ true → (a || b) ≡ true
left_or true b h = refl
left_or false b h = absurd cc

right_or : (a b : Bool) → b ≡ true → (a || b) ≡ true
right_or true b h = refl
right_or false b h = h

no_left : (a b : Bool) → (a || b) ≡ false → a ≡ false
no_left false b h = refl
no_left true b h = absurd cc

no_right : (a b : Bool) → (a || b) ≡ false → b ≡ false
no_right false b h = h
no_right true b h = absurd cc

begun_more : (t : TaskId) (ts us : List Told) → list_any (same_task t) (flat_map begun ts) ≡ true
    → list_any (same_task t) (flat_map begun (ts ++ us)) ≡ true
begun_more t ts us h =
    ap (list_any (same_task t)) (flat_map-append begun ts us) ∙ any_both (same_task t) (flat_map begun ts) (flat_map begun us)
    ∙ left_or (list_any (same_task t) (flat_map begun ts)) (list_any (same_task t) (flat_map begun us)) h

-- a task that was started keeps its description
described_kept : (s : Bool) (ks : List Named) (ts us : List Told) (t : TaskId) → list_any (same_task t) (flat_map begun ts) ≡ true
    → described s ks (ts ++ us) t ≡ described s ks ts t
described_kept s ks [] us t h = absurd cc
described_kept s ks (told.started n w f u ∷ ts) us t h = go (λ k. described_kept s ks ts us t k) (same_task t u) h
  where
    go : (list_any (same_task t) (flat_map begun ts) ≡ true → described s ks (ts ++ us) t ≡ described s ks ts t) → (b : Bool)
        → (b || list_any (same_task t) (flat_map begun ts)) ≡ true
        → cond b (own_known ks t) (described s ks (ts ++ us) t) ≡ cond b (own_known ks t) (described s ks ts t)
    go rest true k = refl
    go rest false k = rest k
described_kept s ks (told.ended n ds cs how ∷ ts) us t h = described_kept s (learned s ks ds) ts us t h
described_kept s ks (told.lost w a ∷ ts) us t h = described_kept s ks ts us t h
described_kept s ks (told.late n ∷ ts) us t h = described_kept s ks ts us t h

-- one that is started first has what is known then
described_new : (s : Bool) (ks : List Named) (ts : List Told) (n w f : ℕ) (t : TaskId) → list_any (same_task t) (flat_map begun ts) ≡ false
    → described s ks (ts ++ told.started n w f t ∷ []) t ≡ own_known (learned s ks (flat_map spawned ts)) t
described_new s ks [] n w f t h = ap (λ b. cond b (own_known ks t) None) (self_task t)
described_new s ks (told.started m v g u ∷ ts) n w f t h =
    ap (λ b. cond b (own_known ks t) (described s ks (ts ++ told.started n w f t ∷ []) t))
    (no_left (same_task t u) (list_any (same_task t) (flat_map begun ts)) h)
    ∙ described_new s ks ts n w f t (no_right (same_task t u) (list_any (same_task t) (flat_map begun ts)) h)
described_new s ks (told.ended m ds cs how ∷ ts) n w f t h =
    described_new s (learned s ks ds) ts n w f t h ∙ ap (λ ls. own_known ls t) (sym (learned_append s ks ds (flat_map spawned ts)))
described_new s ks (told.lost v a ∷ ts) n w f t h = described_new s ks ts n w f t h
described_new s ks (told.late m ∷ ts) n w f t h = described_new s ks ts n w f t h

-- ---- an entry more is told

module _ (head : Head) (ts : List Told) where
  one_kept : (ks ls : List Named) (e : Told) (h : Heading) → (more : List Named) × (ls ≡ ks ++ more) → IsDescribed head ts ks h
      → IsDescribed head (ts ++ e ∷ []) ls h
  one_kept ks ls e h more d =
      record {
        started = begun_more h.0 ts (e ∷ []) d.started;
        desc = ap (λ xs. own_desc h.0 (named_in xs h.1)) more.1 ∙ ap (own_desc h.0) (d.stays more.0) ∙ d.desc
            ∙ sym (described_kept (short head) (learned (short head) [] (given head)) ts (e ∷ []) h.0 d.started);
        stays = λ others.
            ap (λ xs. named_in (xs ++ others) h.1) more.1 ∙ ap (λ xs. named_in xs h.1) (append_assoc ks more.0 others)
            ∙ d.stays (more.0 ++ others) ∙ sym (d.stays more.0) ∙ ap (λ xs. named_in xs h.1) (sym more.1);
      }

  all_kept : (ks ls : List Named) (e : Told) (hs : List Heading) → (more : List Named) × (ls ≡ ks ++ more) → AreDescribed head ts ks hs
      → AreDescribed head (ts ++ e ∷ []) ls hs
  all_kept ks ls e [] more d = tt
  all_kept ks ls e (h ∷ hs) more d = (one_kept ks ls e h more d.0, all_kept ks ls e hs more d.1)

and_one : (head : Head) (ts : List Told) (ks : List Named) (hs : List Heading) (h : Heading) → AreDescribed head ts ks hs
    → IsDescribed head ts ks h → AreDescribed head ts ks (hs ++ h ∷ [])
and_one head ts ks [] h d e = (e, tt)
and_one head ts ks (g ∷ hs) h d e = (d.0, and_one head ts ks hs h d.1 e)

-- what is known, by what is told, is what is learned of what was spawned
known_spawned : (head : Head) (ts : List Told)
    → learned (short head) (learned (short head) [] (given head)) (flat_map spawned ts) ≡ known head ts
known_spawned head ts = sym (learned_append (short head) [] (given head) (flat_map spawned ts))

-- one that is started first
one_new : (head : Head) (ts : List Told) (ks : List Known) (n w f : ℕ) (t : TaskId) → knowns ks ≡ known head ts
    → list_any (same_task t) (flat_map begun ts) ≡ false
    → IsDescribed head (ts ++ told.started n w f t ∷ []) (knowns ks) (t, task_place t ks)
one_new head ts ks n w f t e h =
    record {
      started = ap (list_any (same_task t)) (flat_map-append begun ts (told.started n w f t ∷ []))
          ∙ any_both (same_task t) (flat_map begun ts) (t ∷ [])
          ∙ right_or (list_any (same_task t) (flat_map begun ts)) (same_task t t || false) (left_or (same_task t t) false (self_task t));
      desc = task_known t ks ∙ ap (λ ls. own_known ls t) (e ∙ sym (known_spawned head ts))
          ∙ sym (described_new (short head) (learned (short head) [] (given head)) ts n w f t h);
      stays = task_stays t ks;
    }

none_new : (ks : List Named) → (more : List Named) × (ks ≡ ks ++ more)
none_new ks = ([], sym (append-nil ks))

module _ (head : Head) (ts : List Told) (ks : List Known) (hs : List Heading) where
  abbrev So : Type 0
  So = AreDescribed head ts (knowns ks) hs

  started_next : (n w f : ℕ) (t : TaskId) → So → knowns ks ≡ known head ts → map heading_task hs ≡ tasks ts
      → AreDescribed head (ts ++ told.started n w f t ∷ []) (knowns ks) (with_heading hs t (task_place t ks))
  started_next n w f t d e i = go (list_any (same_task t) (map heading_task hs)) refl
    where
      old : AreDescribed head (ts ++ told.started n w f t ∷ []) (knowns ks) hs
      old = all_kept head ts (knowns ks) (knowns ks) (told.started n w f t) hs (none_new (knowns ks)) d

      go : (b : Bool) → list_any (same_task t) (map heading_task hs) ≡ b
          → AreDescribed head (ts ++ told.started n w f t ∷ []) (knowns ks) (cond b hs (hs ++ (t, task_place t ks) ∷ []))
      go true k = old
      go false k =
          and_one head (ts ++ told.started n w f t ∷ []) (knowns ks) hs (t, task_place t ks) old
          (one_new head ts ks n w f t e
          (sym (any_once (same_task t) (flat_map begun ts)) ∙ sym (ap (list_any (same_task t)) i) ∙ k))

  pub described_next : (e : Told) (ls : List Named) → So → knowns ks ≡ known head ts → map heading_task hs ≡ tasks ts
      → ls ≡ learned (short head) (knowns ks) (spawned e) → AreDescribed head (ts ++ e ∷ []) ls (with_begun ks hs e)
  described_next (told.started n w f t) ls d e i l =
      subst (λ xs. AreDescribed head (ts ++ told.started n w f t ∷ []) xs (with_heading hs t (task_place t ks))) (sym l)
      (started_next n w f t d e i)
  described_next (told.ended n ds cs how) ls d e i l =
      all_kept head ts (knowns ks) ls (told.ended n ds cs how) hs
      (subst (λ xs. (more : List Named) × (xs ≡ knowns ks ++ more)) (sym l) (learned_grows (short head) (knowns ks) ds)) d
  described_next (told.lost w a) ls d e i l =
      all_kept head ts (knowns ks) ls (told.lost w a) hs
      (subst (λ xs. (more : List Named) × (xs ≡ knowns ks ++ more)) (sym l) (none_new (knowns ks))) d
  described_next (told.late n) ls d e i l =
      all_kept head ts (knowns ks) ls (told.late n) hs
      (subst (λ xs. (more : List Named) × (xs ≡ knowns ks ++ more)) (sym l) (none_new (knowns ks))) d
