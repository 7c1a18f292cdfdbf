-- A walk is right as long as nothing that it made clashes: its state is the task's, and all that was waited for was brought along.
use Rattle.sky_base.specs.Val as v
use Rattle.sky_base.specs.Needed as n
use Rattle.sky_base.specs.See as s
use Rattle.sky_base_law.specs.Tasks as t
use Rattle.std.proofs.Common.{◌≡◌, ◌≢◌, ℕ, zero, suc, ◌+◌, ◌<◌, ◌≤◌, List, [], ◌∷◌, ◌++◌, map, Bool, true, false, Option, Some, None, ◌⊎◌, inl, inr}
use Rattle.std.proofs.Common.{refl, sym, ap, ◌∙◌, subst, arith}
use Rattle.sky_base.specs.Val.{call, out, input, known, distinct, same_text}
use Rattle.sky_base.specs.Name.{low_desc, name}
use Rattle.sky_base.specs.Res.{Object}
use Rattle.sky_base.specs.Read.{joined, see_all}
use Rattle.sky_base.specs.See.{see}
use Rattle.sky_base.specs.Needed.{StandsAt, WaitOf, stands_at, wait_at}
use Rattle.sky_base_law.specs.Lower.{low_obj, low_ref}
use Rattle.sky_base_law.specs.NamesLaws.{NoClash, Tag, no_name}
use Rattle.sky_base_law.specs.Refers.{PlainReads}
use Rattle.sky_base_law.specs.Tasks.{Each, MadeBetween, held, made_between}
use Rattle.sky_base_law.proofs.Lists.{some_is, none_some, below_or_same}
use Rattle.sky_base_law.proofs.SeenLaw.{stands_one, wait_one}
use Rattle.sky_base_law.proofs.TaskMade.{between_one}
use Rattle.sky_base_law.proofs.TaskOutputs.{distinct_in, each_in, in_distinct, in_each, same_exact, same_refl}
use Rattle.sky_state.specs.Pending.{pending_in}
use Rattle.sky_state.specs.Stand.{Stand, low_state}
use Rattle.sky_state.specs.Stands.{Stands}
use Rattle.sky_state.proofs.HeldLaw.{stands_pending, stands_waits}
use Rattle.sky_base_law.proofs.GatheredObjects.{all_there}
use Rattle.sky_state_law.specs.Moves.{Answers, SeenAs, Step, waits}
use Rattle.sky_state_law.proofs.MadeSegments.{all_to, between_none, between_two, see_to, stands_to, wait_to}
use Rattle.ciel_journal.specs.History.{OpenStart, live_in}
use Rattle.ciel_journal.specs.Job.{Digest, Held, Job}
use Rattle.ciel_journal.specs.Lawful.{Given, HeldAt}
use Rattle.ciel_journal_job.specs.Inner.{seen_refs, real_inner}
use Rattle.ciel_journal_job.specs.Real.{at_of, back, held_if}
use Rattle.ciel_journal_job.proofs.RealLaw.{in_from, in_to}
use Rattle.ciel_journal_job.specs.Report.{First, Met, at_first, brought, held_then}
use Rattle.ciel_journal_walks.specs.Laws.{Begins, Brings, the}
use Rattle.ciel_journal_walks.specs.Walk.{AreFound}
use Rattle.ciel_journal_walks.proofs.Middle.{middle}
use Rattle.ciel_journal_walks.proofs.ReportContents.{Clashing}
use Rattle.sky_state_law.proofs.HeldDescriptions.{held_there}

true_not : false ≡ true → ⊥
true_not e = cc

-- ---- lists

module _ {A B : Type 0} (f : A → Option B) where
  -- each of these is found
  found_each : (xs : List A) (ys : List B) → map f xs ≡ map Some ys → (x : A) → t.In x xs → (y : B) × (f x ≡ Some y)
  found_each [] ys e x i = absurd i
  found_each (z ∷ xs) [] e x i = absurd cc
  found_each (z ∷ xs) (y ∷ ys) e x (inl q) = let h : f z ≡ Some y = cc in (y, ap f q ∙ h)
  found_each (z ∷ xs) (y ∷ ys) e x (inr i) = let rest : map f xs ≡ map Some ys = cc in found_each xs ys rest x i

module _ {A B : Type 0} (g : A → B) where
  mapped : (xs : List A) (x : A) → t.In x xs → t.In (g x) (map g xs)
  mapped [] x i = absurd i
  mapped (y ∷ xs) x (inl e) = inl (ap g e)
  mapped (y ∷ xs) x (inr i) = inr (mapped xs x i)

  pub from_map : (xs : List A) (y : B) → t.In y (map g xs) → (x : A) × t.In x xs × (y ≡ g x)
  from_map [] y i = absurd i
  from_map (x ∷ xs) y (inl e) = (x, inl refl, e)
  from_map (x ∷ xs) y (inr i) = let r = from_map xs y i in (r.0, inr r.1, r.2)

-- whether two descriptions are equal
pub equal_or : (d e : s.Desc) → (d ≡ e) ⊎ (d ≡ e → ⊥)
equal_or d e = go (t.same d e) refl
  where
    go : (b : Bool) → t.same d e ≡ b → (d ≡ e) ⊎ (d ≡ e → ⊥)
    go true q = inl (same_exact d e q)
    go false q = inr (λ z. true_not (sym q ∙ (ap (t.same d) (sym z) ∙ same_refl d)))

in_or : (d : s.Desc) (ds : List s.Desc) → t.In d ds ⊎ (t.In d ds → ⊥)
in_or d [] = inr (λ i. i)
in_or d (e ∷ ds) = go (equal_or d e) (in_or d ds)
  where
    go : (d ≡ e) ⊎ (d ≡ e → ⊥) → t.In d ds ⊎ (t.In d ds → ⊥) → t.In d (e ∷ ds) ⊎ (t.In d (e ∷ ds) → ⊥)
    go (inl q) r = inl (inl q)
    go (inr a) (inl i) = inl (inr i)
    go (inr a) (inr b) = inr both
      where
        both : t.In d (e ∷ ds) → ⊥
        both (inl q) = a q
        both (inr i) = b i

in_both : (d : s.Desc) (xs ys : List s.Desc) → t.In d xs → t.In d (xs ++ ys)
in_both d [] ys i = absurd i
in_both d (x ∷ xs) ys (inl e) = inl e
in_both d (x ∷ xs) ys (inr i) = inr (in_both d xs ys i)

behind : (d : s.Desc) (xs ys : List s.Desc) → t.In d ys → t.In d (xs ++ ys)
behind d [] ys i = i
behind d (x ∷ xs) ys i = inr (behind d xs ys i)

below_or : (i j : ℕ) → i ≤ suc j → (i ≤ j) ⊎ (i ≡ suc j)
below_or i j le = go (below_or_same i (suc j) le)
  where
    go : (i < suc j) ⊎ (i ≡ suc j) → (i ≤ j) ⊎ (i ≡ suc j)
    go (inl h) = inl (omega (arith, h))
    go (inr q) = inr q

module _ (job : s.Job) (around : s.Around) where
  -- what is made between two waits is one list, whatever tells of it
  pub made_once : (w : n.Task) (i j : ℕ) (made : List s.Desc) → i ≤ j → MadeBetween job around w i j made → (k : ℕ) (ds : List s.Desc)
      → wait_at job around k w j ≡ Some ds → made_between job around k w i j ≡ made
  made_once w i j made le m k ds wt = go (below_or_same i j le)
    where
      go : (i < j) ⊎ (i ≡ j) → made_between job around k w i j ≡ made
      go (inl lt) = between_one job around w i j (made_between job around k w i j) made lt (k, (ds, wt), refl) m
      go (inr is) =
          ap (λ x. made_between job around k w x j) is ∙ between_none job around k w j
          ∙ sym (sym m.2 ∙ ap (λ x. made_between job around m.0 w x j) is ∙ between_none job around m.0 w j)

module _ (tag : Tag) (mark : Object (List ℕ) → Digest) (frozen : Stand (List ℕ) → Digest) (job : s.Job) (around : s.Around)
    (plain : PlainReads around) (o : OpenStart s.Desc) (finds : v.Desc (List ℕ) → Option (Object (List ℕ))) (r0 : Stand (List ℕ))
    (b : Begins tag mark frozen job around o finds r0) where
  abbrev J : Job s.Desc
  J = the tag mark frozen job around

  abbrev pub u : n.Task
  u = back o.task

  abbrev pub R : s.Desc → v.Desc (List ℕ)
  R d = low_ref no_name tag d

  abbrev pub nm : s.Desc → Digest
  nm d = name no_name tag d

  abbrev pub low : s.Desc → v.Desc (List ℕ)
  low d = low_desc no_name tag d

  abbrev pub Have : s.Desc → Type 0
  Have d = Given J o d

  abbrev pub First' : s.Desc → Type 0
  First' d = First J (real_inner job around) o d

  abbrev pub once : List s.Desc → List s.Desc
  once ds = distinct (λ a b. true) ds

  in_once : (ds : List s.Desc) (d : s.Desc) → t.In d ds → t.In d (once ds)
  in_once ds d i = in_distinct (λ a b. true) (λ a b c. absurd a) (λ a. absurd a) ds d i

  once_in : (ds : List s.Desc) (d : s.Desc) → t.In d (once ds) → t.In d ds
  once_in ds d i = distinct_in (λ a b. true) (λ a b c. absurd a) (λ a. absurd a) ds d i

  -- ---- what the task holds at the order's wait

  -- at a wait where it stands in a state, what the job says of it
  pub at_is : (w : n.Task) (k j : ℕ) (a : n.State) → stands_at job around k w j ≡ Some a
      → at_of job around nm (λ x. mark (low_obj no_name tag x)) (λ y. frozen (low_state tag y)) k w j
      ≡ Some (record { names = held a; mark = frozen (low_state tag a) })
  at_is n.Task.show k j a e =
      ap (held_if job around nm (λ x. mark (low_obj no_name tag x)) (λ y. frozen (low_state tag y))) e
  at_is (n.Task.of (call f c vs)) k j a e =
      ap (held_if job around nm (λ x. mark (low_obj no_name tag x)) (λ y. frozen (low_state tag y))) e
  at_is (n.Task.of (out x w m i)) k j a e = absurd (none_some a e)
  at_is (n.Task.of (input y)) k j a e = absurd (none_some a e)
  at_is (n.Task.of (known z)) k j a e = absurd z

  is_at : (w : n.Task) (k j : ℕ) (a : n.State) (x : Held s.Desc) → StandsAt job around w j a
      → at_of job around nm (λ x. mark (low_obj no_name tag x)) (λ y. frozen (low_state tag y)) k w j ≡ Some x → x.names ≡ held a
  is_at w k j a x st e = go w st (stands_at job around k w j) refl e
    where
      state : (w : n.Task) → StandsAt job around w j a → (y : n.State) → stands_at job around k w j ≡ Some y
          → held_if job around nm (λ x. mark (low_obj no_name tag x)) (λ z. frozen (low_state tag z)) (Some y) ≡ Some x → x.names ≡ held a
      state w st y q g =
          ap (λ (z : Held s.Desc). z.names) (sym (some_is _ x g)) ∙ ap held (stands_one job around w j y a (k, q) st)

      go : (w : n.Task) → StandsAt job around w j a → (y : Option n.State) → stands_at job around k w j ≡ y
          → at_of job around nm (λ x. mark (low_obj no_name tag x)) (λ z. frozen (low_state tag z)) k w j ≡ Some x → x.names ≡ held a
      go n.Task.show st None q g = absurd (none_some x
          (sym (ap (held_if job around nm (λ x. mark (low_obj no_name tag x)) (λ z. frozen (low_state tag z))) q) ∙ g))
      go n.Task.show st (Some y) q g = state n.Task.show st y q
          (sym (ap (held_if job around nm (λ x. mark (low_obj no_name tag x)) (λ z. frozen (low_state tag z))) q) ∙ g)
      go (n.Task.of (call f c vs)) st None q g =
          absurd (none_some x (sym (ap (held_if job around nm (λ x. mark (low_obj no_name tag x)) (λ z. frozen (low_state tag z))) q) ∙ g))
      go (n.Task.of (call f c vs)) st (Some y) q g =
          state (n.Task.of (call f c vs)) st y q (sym
          (ap (held_if job around nm (λ x. mark (low_obj no_name tag x)) (λ z. frozen (low_state tag z))) q) ∙ g)
      go (n.Task.of (out y w m i)) st z q g = absurd (none_some a st.1)
      go (n.Task.of (input y)) st z q g = absurd (none_some a st.1)
      go (n.Task.of (known z)) st y q g = absurd z

  pub held_of : (j : ℕ) (a : n.State) (d : s.Desc) → StandsAt job around u j a → t.In d (held a) → HeldAt J o.task j d
  held_of j a d st i =
      (st.0, record { names = held a; mark = frozen (low_state tag a) }, at_is u st.0 j a st.1, in_to d (held a) i)

  pub of_held : (j : ℕ) (a : n.State) (d : s.Desc) → StandsAt job around u j a → HeldAt J o.task j d → t.In d (held a)
  of_held j a d st h = subst (t.In d) (is_at u h.0 j a h.1 st h.2) (in_from d h.1.names h.3)

  abbrev start : n.State
  start = b.stands.0

  start_at : StandsAt job around u o.from start
  start_at = b.stands.1

  -- ---- what is brought along

  -- it is decided
  pub have_or : (d : s.Desc) → Have d ⊎ (Have d → ⊥)
  have_or d = go (in_or d (held start)) (live_in J o.had d) refl
    where
      go : t.In d (held start) ⊎ (t.In d (held start) → ⊥) → (l : Bool) → live_in J o.had d ≡ l → Have d ⊎ (Have d → ⊥)
      go (inl i) true q = inl (held_of o.from start d start_at i, q)
      go (inl i) false q = inr (λ h. true_not (sym q ∙ h.1))
      go (inr c) l q = inr (λ h. c (of_held o.from start d start_at h.0))

  pub have_first : (d : s.Desc) → Have d → First' d
  have_first d h = held_then h.0

  pub first_met : (d : s.Desc) → First' d → Met J (real_inner job around) low o d
  first_met d f = at_first f

  pub firsts_apart : (d e : s.Desc) → First' d → First' e → nm d ≡ nm e → d ≡ e
  firsts_apart d e f g q = b.apart d e f g q

  -- what is found by its name is what it is seen as
  pub found_seen : (d : s.Desc) (x : Object (List ℕ)) → Have d → finds (R d) ≡ Some x → SeenAs tag job around d x
  found_seen d x h e =
      let g = b.brings.given d h in
      subst (SeenAs tag job around d) (some_is g.0 x (sym g.2 ∙ e)) g.1

  pub haves_apart : (ds : List s.Desc) → Each Have ds → NoClash tag ds
  haves_apart ds h d e i j q =
      firsts_apart d e (have_first d (in_each Have ds d h i)) (have_first e (in_each Have ds e h j)) q

  -- each object of it, as far as some number tells
  pub record SeenAll (ds : List s.Desc) : Type 0 where
    pub k : ℕ
    pub seen : Each (λ d. see job around k d ≢ None) ds

  some_not : {A : Type 0} (a : A) → Some a ≢ None
  some_not a e = cc

  see_more : (k m : ℕ) (d : s.Desc) → k ≤ m → see job around k d ≢ None → see job around m d ≢ None
  see_more k m d le h q = go (see job around k d) refl
    where
      go : (x : Option s.Obj) → see job around k d ≡ x → ⊥
      go None e = h e
      go (Some x) e = some_not x (sym (see_to job around k m d x le e) ∙ q)

  all_more : (k m : ℕ) (ds : List s.Desc) → k ≤ m → Each (λ d. see job around k d ≢ None) ds → Each (λ d. see job around m d ≢ None) ds
  all_more k m [] le h = tt
  all_more k m (d ∷ ds) le h = (see_more k m d le h.0, all_more k m ds le h.1)

  pub have_seen : (ds : List s.Desc) → Each Have ds → SeenAll ds
  have_seen [] h = record { k = 0; seen = tt }
  have_seen (d ∷ ds) h =
      let one = (b.brings.given d h.0).1 in
      let rest = have_seen ds h.1 in
      record {
        k = one.0 + rest.k;
        seen = (
          λ q. some_not one.1 (sym (see_to job around one.0 (one.0 + rest.k) d one.1 (omega arith) one.2) ∙ q),
          all_more rest.k (one.0 + rest.k) ds (omega arith) rest.seen,
        );
      }

  -- ---- where the walk is right

  -- what may stand in the state: what it began with, or what was made since
  abbrev pub D : List s.Desc → s.Desc → Type 0
  D made d = First' d ⊎ t.In d made

  more_made : (xs ys : List s.Desc) (d : s.Desc) → D xs d → D (xs ++ ys) d
  more_made xs ys d (inl f) = inl f
  more_made xs ys d (inr i) = inr (in_both d xs ys i)

  pub record Right (r : Stand (List ℕ)) (j : ℕ) (made : List s.Desc) : Type 0 where
    pub from : o.from ≤ j
    pub stands : Stands job around tag r u j
    pub has : (ds : List s.Desc) × WaitOf job around u j ds
    pub passes : (i : ℕ) (ds : List s.Desc) → o.from ≤ i → i ≤ j → WaitOf job around u i ds → Each Have ds
    pub makes : MadeBetween job around u o.from j made
    pub holds : Each (D made) (held stands.0)

  pub have_all : ((d : v.Desc (List ℕ)) → t.In d (pending_in same_text r0) → (x : Object (List ℕ)) × (finds d ≡ Some x)) → (ds : List s.Desc)
      → WaitOf job around u o.from ds → Each Have ds
  have_all found ds w = each_in Have ds (λ d i. one d i (found (R d) (stands_waits tag job around r0 u o.from ds d b.stands w i)))
    where
      one : (d : s.Desc) → t.In d ds → (y : Object (List ℕ)) × (finds (R d) ≡ Some y) → Have d
      one d i (y, e) =
          let g = b.brings.only d y e in
          let kept : HeldAt J o.task o.from d = held_of o.from start d start_at (held_there job around u o.from ds start d w start_at i) in
          subst Have (firsts_apart g.0 d (have_first g.0 g.1) (held_then kept) g.2) g.1

  -- at the order's wait all that is waited for is found there
  pub first_have : (os : List (Object (List ℕ))) → AreFound tag job around u finds r0 os → (ds : List s.Desc) → WaitOf job around u o.from ds
      → Each Have ds
  first_have os found ds w = have_all (λ d i. found_each finds (pending_in same_text r0) os found d i) ds w

  pub begun : (os : List (Object (List ℕ))) → AreFound tag job around u finds r0 os → Right r0 o.from []
  begun os found =
      record {
        from = omega arith;
        stands = b.stands;
        has = b.waits;
        passes = λ i ds l m w. first_have os found ds (subst (λ k. WaitOf job around u k ds) (same i l m) w);
        makes = (b.waits.1.0, (b.waits.0, b.waits.1.1), between_none job around b.waits.1.0 u o.from);
        holds = each_in (D []) (held start) (λ d i. inl (held_then (held_of o.from start d start_at i)));
      }
    where
      same : (i : ℕ) → o.from ≤ i → i ≤ o.from → i ≡ o.from
      same i l m = omega (arith, l, m)

  -- ---- what answers at a wait

  pub record Answered (r : Stand (List ℕ)) (j : ℕ) (os : List (Object (List ℕ))) : Type 0 where
    pub k : ℕ
    pub from_there : (m : ℕ) → k ≤ m → Answers tag job around u m j os

  record Collected (ds : List s.Desc) (os : List (Object (List ℕ))) : Type 0 where
    k : ℕ
    objects : List s.Obj
    seen : see_all (see job around k) ds ≡ Some objects
    are : os ≡ map (low_obj no_name tag) objects

  collect : (ds : List s.Desc) (os : List (Object (List ℕ))) → map finds (map R ds) ≡ map Some os → Each Have ds → Collected ds os
  collect [] [] e h = record { k = 0; objects = []; seen = refl; are = refl }
  collect [] (x ∷ os) e h = absurd cc
  collect (d ∷ ds) [] e h = absurd cc
  collect (d ∷ ds) (x ∷ os) e h =
      let head : finds (R d) ≡ Some x = cc in
      let tail : map finds (map R ds) ≡ map Some os = cc in
      let one = found_seen d x h.0 head in
      let rest = collect ds os tail h.1 in
      let m = one.0 + rest.k in
      let first : see job around m d ≡ Some one.1 = see_to job around one.0 m d one.1 (omega arith) one.2 in
      let later : see_all (see job around m) ds ≡ Some rest.objects = all_to job around rest.k m ds rest.objects (omega arith) rest.seen in
      record { k = m; objects = one.1 ∷ rest.objects; seen = (λ i. joined (first i) (later i)); are = (λ i. one.3 i ∷ rest.are i) }

  pub answered : (r : Stand (List ℕ)) (j : ℕ) (made : List s.Desc) (os : List (Object (List ℕ))) → Right r j made
      → AreFound tag job around u finds r os → Answered r j os
  answered r j made os g found =
      let ds = g.has.0 in
      let here = g.passes j ds g.from (omega arith) g.has.1 in
      let apart = haves_apart ds here in
      let pending : pending_in same_text r ≡ map R (once ds) = stands_pending tag job around r u j ds g.stands g.has.1 apart in
      let c = collect (once ds) os (ap (map finds) (sym pending) ∙ found) (each_in Have (once ds) (λ d i. in_each Have ds d here (once_in ds d i))) in
      record {
        k = g.has.1.0 + c.k;
        from_there = λ m le. record {
          waited = ds;
          objects = c.objects;
          is_wait = wait_to job around g.has.1.0 m u j ds (omega (arith, le)) g.has.1.1;
          apart = apart;
          seen = all_to job around c.k m (once ds) c.objects (omega (arith, le)) c.seen;
          are = c.are;
        };
      }

  -- ---- one step further

  list_there : (x : Option (List s.Obj)) → x ≢ None → (os : List s.Obj) × (x ≡ Some os)
  list_there None h = absurd (h refl)
  list_there (Some os) h = (os, refl)

  -- what it makes up to its next wait, and what it waits for and holds there
  pub record Further (r : Stand (List ℕ)) (j : ℕ) (made : List s.Desc) (q : Stand (List ℕ)) (ms : List (v.Desc (List ℕ))) : Type 0 where
    pub seg : List s.Desc
    pub names : ms ≡ map low seg
    pub stands : Stands job around tag q u (suc j)
    pub ds : List s.Desc
    pub waits : WaitOf job around u (suc j) ds
    pub makes : MadeBetween job around u o.from (suc j) (made ++ seg)
    pub waited : Each (D (made ++ seg)) ds
    pub holds : Each (D (made ++ seg)) (held stands.0)

  pub further : (r : Stand (List ℕ)) (j : ℕ) (made : List s.Desc) (os : List (Object (List ℕ))) (ms : List (v.Desc (List ℕ)))
      (q : Stand (List ℕ)) → Right r j made → AreFound tag job around u finds r os → Step tag job around u r os ms (waits q)
      → Further r j made q ms
  further r j made os ms q g found st =
      let ans = answered r j made os g found in
      let to = st.steps j ans.k g.stands (ans.from_there ans.k (omega arith)) in
      let here = g.passes j g.has.0 g.from (omega arith) g.has.1 in
      let all = have_seen g.has.0 here in
      let k = ans.k + (all.k + (g.has.1.0 + (g.stands.1.0 + (to.0.1.0 + (to.1.1.0 + g.makes.0))))) in
      let seg = made_between job around k u j (suc j) in
      let names = st.makes j k g.stands (ans.from_there k (omega arith)) in
      let wait_here : wait_at job around k u j ≡ Some g.has.0 = wait_to job around g.has.1.0 k u j g.has.0 (omega arith) g.has.1.1 in
      let wait_next : wait_at job around k u (suc j) ≡ Some to.1.0 = wait_to job around to.1.1.0 k u (suc j) to.1.0 (omega arith) to.1.1.1 in
      let objects = list_there (see_all (see job around k) g.has.0)
      (all_there (see job around k) g.has.0 (all_more all.k k g.has.0 (omega arith) all.seen)) in
      let next = middle job around plain (D (made ++ seg)) k u j g.stands.0 g.has.0 objects.0 (record {
        stands = stands_to job around g.stands.1.0 k u j g.stands.0 (omega arith) g.stands.1.1;
        holds = each_in (D (made ++ seg)) (held g.stands.0) (λ d i. more_made made seg d (in_each (D made) (held g.stands.0) d g.holds i));
        waits = wait_here;
        waited = each_in (D (made ++ seg)) g.has.0 (λ d i. inl (have_first d (in_each Have g.has.0 d here i)));
        seen = objects.1;
        reads = λ d i. each_in (D (made ++ seg)) (seen_refs (see job around k d))
            (λ e c. inl (brought d k (in_each Have g.has.0 d here i) (in_to e (seen_refs (see job around k d)) c)));
        makes = each_in (D (made ++ seg)) seg (λ d i. inr (behind d made seg i));
      }) in
      let up_to : MadeBetween job around u o.from j made = g.makes in
      let before : made_between job around k u o.from j ≡ made = made_stays o.from j made g.from g.makes k (omega arith) g.has.0 wait_here in
      record {
        seg = seg;
        names = names;
        stands = to.0;
        ds = to.1.0;
        waits = to.1.1;
        makes = (k, (to.1.0, wait_next), between_two job around k u o.from j (suc j) g.from (omega arith) ∙ ap (λ xs. xs ++ seg) before);
        waited = next.waits to.1.0 wait_next;
        holds = next.holds to.0.0 (stands_to job around to.0.1.0 k u (suc j) to.0.0 (omega arith) to.0.1.1);
      }
    where
      made_stays : (i j : ℕ) (made : List s.Desc) → i ≤ j → MadeBetween job around u i j made → (k : ℕ) → 0 ≤ k → (ds : List s.Desc)
          → wait_at job around k u j ≡ Some ds → made_between job around k u i j ≡ made
      made_stays i j made le m k z ds w = made_once job around u i j made le m k ds w

  -- all that the next wait is for was brought along, or something that was made clashes
  abbrev pub Clashes : List s.Desc → Type 0
  Clashes made = Clashing J (real_inner job around) low (Met J (real_inner job around) low o) made

  have_or_clash : (made : List s.Desc) (q : Stand (List ℕ)) (j : ℕ) (ds all : List s.Desc) (os : List (Object (List ℕ)))
      → Stands job around tag q u j → WaitOf job around u j all → ((d : s.Desc) → t.In d ds → t.In d all) → Each (D made) ds
      → AreFound tag job around u finds q os → Each Have ds ⊎ Clashes made
  have_or_clash made q j [] all os st w sub h found = inl tt
  have_or_clash made q j (d ∷ ds) all os st w sub h found =
      let x = found_each finds (pending_in same_text q) os found (R d) (stands_waits tag job around q u j all d st w (sub d (inl refl))) in
      let e = b.brings.only d x.0 x.1 in
      one e.0 e.1 e.2 (equal_or e.0 d) h.0 (have_or_clash made q j ds all os st w (λ y i. sub y (inr i)) h.1 found)
    where
      one : (e : s.Desc) → Have e → nm e ≡ nm d → (e ≡ d) ⊎ (e ≡ d → ⊥) → D made d → Each Have ds ⊎ Clashes made → Each Have (d ∷ ds) ⊎ Clashes made
      one e g n (inl same) k (inl rest) = inl (subst Have same g, rest)
      one e g n (inl same) k (inr c) = inr c
      one e g n (inr other) (inl f) rest = absurd (other (firsts_apart e d (have_first e g) f n))
      one e g n (inr other) (inr i) rest =
          inr (record { which = d; there = in_to d made i; other = e; is_met = first_met e (have_first e g); same = n; apart = other })

  -- so the walk is right at the next wait, or something that was made clashes
  pub goes : (r : Stand (List ℕ)) (j : ℕ) (made : List s.Desc) (ms : List (v.Desc (List ℕ))) (q : Stand (List ℕ)) (os : List (Object (List ℕ)))
      → Right r j made → (f : Further r j made q ms) → AreFound tag job around u finds q os → Right q (suc j) (made ++ f.seg)
      ⊎ Clashes (made ++ f.seg)
  goes r j made ms q os g f found =
      next (have_or_clash (made ++ f.seg) q (suc j) f.ds f.ds os f.stands f.waits (λ d i. i) f.waited found)
    where
      passed : Each Have f.ds → (i : ℕ) (es : List s.Desc) → o.from ≤ i → i ≤ suc j → WaitOf job around u i es → (i ≤ j) ⊎ (i ≡ suc j) → Each Have es
      passed h i es l m w (inl le) = g.passes i es l le w
      passed h i es l m w (inr is) = subst (Each Have) (wait_one job around u (suc j) f.ds es f.waits (subst (λ k. WaitOf job around u k es) is w)) h

      next : Each Have f.ds ⊎ Clashes (made ++ f.seg) → Right q (suc j) (made ++ f.seg) ⊎ Clashes (made ++ f.seg)
      next (inr c) = inr c
      next (inl h) =
          inl (record {
            from = omega (arith, g.from);
            stands = f.stands;
            has = (f.ds, f.waits);
            passes = λ i es l m w. passed h i es l m w (below_or i j m);
            makes = f.makes;
            holds = f.holds;
          })
