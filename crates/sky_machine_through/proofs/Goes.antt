-- Going through the waits whose objects are found is going on so, where what is found is true.
use Rattle.std.proofs.Common.{◌≡◌, ◌≢◌, ◌≤◌, ◌<◌, ◌+◌, ◌++◌, ℕ, suc, List, [], ◌∷◌, map, true, Option, Some, None, is_some, Bool, false, nat_lt}
use Rattle.std.proofs.Common.{ltb-true, ltb-false, inl, inr, refl, sym, ap, ◌∙◌, subst, arith, append_assoc, append-nil}
use Rattle.std.proofs.lemmas.List.{map-append}
use Rattle.sky_base.specs.Val as v
use Rattle.sky_base.specs.Val.{distinct, same_text}
use Rattle.sky_base.specs.Name.{digested, low_desc}
use Rattle.sky_base.specs.Tree.{Script}
use Rattle.sky_base.specs.Res.{Object}
use Rattle.sky_base.specs.Read.{see_all, joined}
use Rattle.sky_base.specs.ObjectView.{object_view}
use Rattle.sky_base.specs.See.{Desc, Obj, Job, Around, Answered, see}
use Rattle.sky_base.specs.Needed.{Task, WaitOf, wait_at}
use Rattle.sky_base_law.specs.Lower.{low_obj, low_ref}
use Rattle.sky_base_law.specs.NamesLaws.{no_name, ReadsAlike}
use Rattle.sky_base_law.specs.Tasks.{In, Each, Ends, MadeBetween, MadeAfter, NextEnd, ended, is_answer, made_between, made_after}
use Rattle.sky_base_law.proofs.MoreFuel.{seen_stays, ended_stays_to}
use Rattle.sky_base_law.proofs.TaskMade.{between_one, after_one}
use Rattle.sky_base_law.proofs.TaskOutputs.{in_each, in_distinct, distinct_in}
use Rattle.sky_base_known.specs.Data.{data_of}
use Rattle.sky_state.specs.Pending.{pending_in}
use Rattle.sky_state.specs.Stand.{Stand}
use Rattle.sky_state.specs.Stands.{Stands}
use Rattle.sky_state.proofs.HeldLaw.{stands_pending}
use Rattle.sky_machine.specs.Comes.{with_name}
use Rattle.sky_base_waves.specs.Seen.{WritesAlike}
use Rattle.sky_machine_show.specs.Shows.{shown_view}
use Rattle.sky_state_law.specs.Moves.{SeenAs, WaitsNoMore, Answers, EndsAs, ShowsAs, StepsTo}
use Rattle.sky_state_law.proofs.MadeSegments.{between_two, after_between, after_last, wait_to, all_to}
use Rattle.sky_machine.specs.Steps.{Spawned, stop_of}
use Rattle.sky_machine.specs.declared.step.Step.{Step}
use Rattle.sky_machine_through.specs.Through.{AreFound, Lacks, StopsAt, Through, last, more}
use Rattle.sky_machine_through.specs.Went.{IsFound, Truly, TrulyFrom, GrewBy, WentOn, GoesThrough}
use Rattle.sky_base_law.proofs.Lists.{none_some}

-- ---- lists

module _ {A : Type 0} where
  pub in_mapped : {B : Type 0} (g : A → B) (xs : List A) (y : B) → In y (map g xs) → (x : A) × In x xs × (y ≡ g x)
  in_mapped g [] y h = absurd h
  in_mapped g (x ∷ xs) y (inl e) = (x, inl refl, e)
  in_mapped g (x ∷ xs) y (inr h) = let more = in_mapped g xs y h in (more.0, inr more.1, more.2)

  from_each : (P : A → Type 0) (xs : List A) → ((x : A) → In x xs → P x) → Each P xs
  from_each P [] h = tt
  from_each P (x ∷ xs) h = (h x (inl refl), from_each P xs (λ y i. h y (inr i)))

module _ (digest : List ℕ → List ℕ) where
  abbrev pub named_all : List Desc → Spawned
  named_all ds = map (with_name digest) (map (low_desc no_name (digested digest)) ds)

  pub both_named : (ds es : List Desc) (xs ys zs : Spawned) → ys ≡ xs ++ named_all ds → zs ≡ ys ++ named_all es → zs ≡ xs ++ named_all (ds ++ es)
  both_named ds es xs ys zs e g =
      g ∙ ap (λ q. q ++ named_all es) e ∙ append_assoc xs (named_all ds) (named_all es)
      ∙ ap (λ q. xs ++ q) (sym (ap (map (with_name digest)) (map-append (low_desc no_name (digested digest)) ds es)
      ∙ map-append (with_name digest) (map (low_desc no_name (digested digest)) ds) (map (low_desc no_name (digested digest)) es)))

  module _ (finds : v.Desc (List ℕ) → Option (Object (List ℕ))) (job : Job) (around : Around) where
    abbrev R : Desc → v.Desc (List ℕ)
    R d = low_ref no_name (digested digest) d

    abbrev Low : List Obj → List (Object (List ℕ))
    Low os = map (low_obj no_name (digested digest)) os

    abbrev once : List Desc → List Desc
    once ds = distinct (λ a b. true) ds

    -- ---- what is found for a list of descriptions

    pub record Collected (ds : List Desc) (os : List (Object (List ℕ))) : Type 0 where
      pub n : ℕ
      pub objects : List Obj
      pub seen : see_all (see job around n) ds ≡ Some objects
      pub are : os ≡ Low objects

    none_cons : {A : Type 0} (x : A) (xs : List A) → [] ≡ x ∷ xs → ⊥
    none_cons x xs e = cc

    head_is : {A : Type 0} (x y : A) (xs ys : List A) → x ∷ xs ≡ y ∷ ys → x ≡ y
    head_is x y xs ys e = cc

    tail_is : {A : Type 0} (x y : A) (xs ys : List A) → x ∷ xs ≡ y ∷ ys → xs ≡ ys
    tail_is x y xs ys e = cc

    pub collect : (ds : List Desc) (os : List (Object (List ℕ))) → map finds (map R ds) ≡ map Some os
        → ((d : Desc) (o : Object (List ℕ)) → In d ds → finds (R d) ≡ Some o → SeenAs (digested digest) job around d o) → Collected ds os
    collect [] [] e h = record { n = 0; objects = []; seen = refl; are = refl }
    collect [] (o ∷ os) e h = absurd (none_cons _ _ e)
    collect (d ∷ ds) [] e h = absurd (none_cons _ _ (sym e))
    collect (d ∷ ds) (o ∷ os) e h =
        let one = h d o (inl refl) (head_is _ _ _ _ e) in
        let rest = collect ds os (tail_is _ _ _ _ e) (λ x y i g. h x y (inr i) g) in
        let m = one.0 + rest.n in
        let first : see job around m d ≡ Some one.1 = seen_stays job around one.0 m d one.1 (omega arith) one.2 in
        let later : see_all (see job around m) ds ≡ Some rest.objects = all_to job around rest.n m ds rest.objects (omega arith) rest.seen in
        record { n = m; objects = one.1 ∷ rest.objects; seen = (λ i. joined (first i) (later i)); are = (λ i. one.3 i ∷ rest.are i) }

    -- each of them is found
    pub all_found : (ds : List Desc) (os : List (Object (List ℕ))) → map finds (map R ds) ≡ map Some os → Each (IsFound digest finds job around) ds
    all_found [] os e = tt
    all_found (d ∷ ds) [] e = absurd (none_cons _ _ (sym e))
    all_found (d ∷ ds) (o ∷ os) e = ((o, head_is _ _ _ _ e), all_found ds os (tail_is _ _ _ _ e))

    -- ---- ends

    pub ends_of : (t : Task) (o : Object (List ℕ)) → EndsAs (digested digest) job around t o → Ends job around t
    ends_of Task.show o h = absurd h
    ends_of (Task.of d) o (n, x, e, g) = (n, ap is_some (seen_stays job around n (suc n) d x (omega arith) e))

    is_told : (a : Answered) → a ≢ Answered.not_yet → is_answer a ≡ true
    is_told Answered.not_yet ne = absurd (ne refl)
    is_told (Answered.bytes b) ne = refl
    is_told (Answered.fault f) ne = refl

    pub shows_of : (t : Task) (a : Answered) → ShowsAs (digested digest) job around t a → Ends job around t
    shows_of Task.show a (n, e, ne) = (n, ap is_answer e ∙ is_told a ne)
    shows_of (Task.of d) a h = absurd h

    module _ (t : Task) where
      -- ---- at a wait

      module _ (s : Stand (List ℕ)) (j : ℕ) (ds : List Desc) (stands : Stands job around (digested digest) s t j)
          (waits : WaitOf job around t j ds) (truly : Truly digest finds job around ds) where
        pub pending : pending_in same_text s ≡ map R (once ds)
        pending = stands_pending (digested digest) job around s t j ds stands waits truly.apart

        pub in_once : (d : Desc) → In d ds → In d (once ds)
        in_once d i = in_distinct (λ a b. true) (λ a b c. absurd a) (λ a. absurd a) ds d i

        pub once_in : (d : Desc) → In d (once ds) → In d ds
        once_in d i = distinct_in (λ a b. true) (λ a b c. absurd a) (λ a. absurd a) ds d i

        module _ (os : List (Object (List ℕ))) (found : AreFound finds s os) where
          pub found_names : map finds (map R (once ds)) ≡ map Some os
          found_names = ap (map finds) (sym pending) ∙ found

          pub each_found : Each (IsFound digest finds job around) ds
          each_found =
              from_each (IsFound digest finds job around) ds
              (λ d i. in_each (IsFound digest finds job around) (once ds) d (all_found (once ds) os found_names) (in_once d i))

          -- they are the objects of what it waits for, as far as any number from some on tells
          pub answers : (n₀ : ℕ) × ((m : ℕ) → n₀ ≤ m → Answers (digested digest) job around t m j os)
          answers =
              let c = collect (once ds) os found_names (λ d o i g. truly.seen d o (once_in d i) g) in (
                waits.0 + c.n,
                λ m l. record {
                  waited = ds;
                  objects = c.objects;
                  is_wait =
                      wait_to job around waits.0 m t j ds (omega (arith, l)) waits.1;
                  apart = truly.apart;
                  seen =
                      all_to job around c.n m (once ds) c.objects (omega (arith, l)) c.seen;
                  are = c.are;
                },
              )

        -- something lacks
        pub missing : Lacks finds s → (d : Desc) × In d ds × (IsFound digest finds job around d → ⊥)
        missing (x, i, none) =
            let back = in_mapped R (once ds) x (subst (In x) pending i) in
            (back.0, once_in back.0 back.1, λ f. none_some f.0 (sym none ∙ ap finds back.2 ∙ f.1))

      -- ---- the end

      pub no_wait : (j n : ℕ) → WaitsNoMore (digested digest) job around t j → wait_at job around n t (suc j) ≡ None
      no_wait j n h = go (wait_at job around n t (suc j)) refl
        where
          go : (x : Option (List Desc)) → wait_at job around n t (suc j) ≡ x → wait_at job around n t (suc j) ≡ None
          go None e = e
          go (Some ds) e = absurd (h (suc j) ds (omega arith) (n, e))

      pub passes_end : (j : ℕ) → WaitsNoMore (digested digest) job around t j → NextEnd job around (IsFound digest finds job around) t j
      passes_end j h i k es l m w = absurd (h k es l w)

      pub end_makes : (j n : ℕ) → WaitsNoMore (digested digest) job around t j → made_after job around n t j ≡ made_between job around n t j (suc j)
      end_makes j n h =
          after_between job around n t j (suc j) (omega arith)
          ∙ ap (λ ds. made_between job around n t j (suc j) ++ ds) (after_last job around n t j (no_wait j n h))
          ∙ append-nil (made_between job around n t j (suc j))

      -- ---- what is made

      module _ (j n : ℕ) (before after : Spawned)
          (makes : (m : ℕ) → n ≤ m → after ≡ before ++ named_all (made_between job around m t j (suc j))) where
        pub made_at_end : Ends job around t → WaitsNoMore (digested digest) job around t j → (ds : List Desc) × MadeAfter job around t j ds
            × GrewBy digest finds job around ds before after
        made_at_end (k, e) none =
            let m = n + k in (
              made_after job around m t j,
              (m, (ended_stays_to job around k m t (omega arith) e).0, refl),
              makes m (omega arith)
                  ∙ ap (λ ds. before ++ named_all ds) (sym (end_makes j m none)),
            )

        pub made_at_wait : (es : List Desc) → WaitOf job around t (suc j) es → (ds : List Desc) × MadeBetween job around t j (suc j) ds
            × GrewBy digest finds job around ds before after
        made_at_wait es (k, e) =
            let m = n + k in
            (made_between job around m t j (suc j), (m, (es, wait_to job around k m t (suc j) es (omega arith) e), refl), makes m (omega arith))

        pub made_to_end : (later : Spawned) (es : List Desc) → MadeAfter job around t (suc j) es → GrewBy digest finds job around es after later
            → (ds : List Desc) × MadeAfter job around t j ds × GrewBy digest finds job around ds before later
        made_to_end later es (k, e, is) grew =
            let m = n + k in
            let over : ended job around m t ≡ true = (ended_stays_to job around k m t (omega arith) e).0 in
            let same : made_after job around m t (suc j) ≡ es =
            after_one job around t (suc j) (made_after job around m t (suc j)) es (m, over, refl) (k, e, is) in (
              made_between job around m t j (suc j) ++ es,
              (m, over, after_between job around m t j (suc j) (omega arith) ∙ ap (λ ds. made_between job around m t j (suc j) ++ ds) same),
              both_named (made_between job around m t j (suc j)) es before after later (makes m (omega arith)) grew,
            )

        pub made_to_wait : (later : Spawned) (i : ℕ) (es : List Desc) → suc j < i → MadeBetween job around t (suc j) i es
            → GrewBy digest finds job around es after later → (ds : List Desc) × MadeBetween job around t j i ds
            × GrewBy digest finds job around ds before later
        made_to_wait later i es lt (k, (ws, e), is) grew =
            let m = n + k in
            let wait : wait_at job around m t i ≡ Some ws = wait_to job around k m t i ws (omega arith) e in
            let same : made_between job around m t (suc j) i ≡ es =
            between_one job around t (suc j) i (made_between job around m t (suc j) i) es lt (m, (ws, wait), refl) (k, (ws, e), is) in (
              made_between job around m t j (suc j) ++ es,
              (
                m,
                (ws, wait),
                between_two job around m t j (suc j) i (omega arith) (omega (arith, lt))
                    ∙ ap (λ ds. made_between job around m t j (suc j) ++ ds) same,
              ),
              both_named (made_between job around m t j (suc j)) es before after later (makes m (omega arith)) grew,
            )

      -- ---- the steps together

      pub first_found : (sc : Script) (old new : Stand (List ℕ)) (s : Step) (before after : Spawned)
          → Through finds digest sc old new s before after → (os : List (Object (List ℕ))) × AreFound finds old os
      first_found sc old new s before after (last os found r stop) = (os, found)
      first_found sc old new s before after (more os found r rest) = (os, found)

      -- no wait from the next one on, and no wait between, is for anything that isn't found
      pub past_one : (j i : ℕ) → ((es : List Desc) → WaitOf job around t (suc j) es → Each (IsFound digest finds job around) es)
          → ((k : ℕ) (es : List Desc) → suc j < k → k < i → WaitOf job around t k es → Each (IsFound digest finds job around) es)
          → (k : ℕ) (es : List Desc) → j < k → k < i → WaitOf job around t k es → Each (IsFound digest finds job around) es
      past_one j i first later k es l m w = go (nat_lt (suc j) k) refl
        where
          go : (b : Bool) → nat_lt (suc j) k ≡ b → Each (IsFound digest finds job around) es
          go true e = later k es (ltb-true (suc j) k e) m w
          go false e =
              let le : k ≤ suc j = ltb-false (suc j) k e in
              let here : k ≡ suc j = omega (arith, l, le) in
              first es (subst (λ x. WaitOf job around t x es) here w)

      -- the last step
      pub at_last : (j n : ℕ) (s : Step) (new : Stand (List ℕ)) (before after : Spawned) → TrulyFrom digest finds job around t j
          → StepsTo (digested digest) job around t j (stop_of s new) → StopsAt finds s new
          → ((m : ℕ) → n ≤ m → after ≡ before ++ named_all (made_between job around m t j (suc j)))
          → WentOn digest finds job around t j s new before after
      at_last j n (Step.Ended o) new before after truly (ends, none) stop makes =
          (passes_end j none, ends, made_at_end j n before after makes (ends_of t (object_view o) ends) none)
      at_last j n (Step.Shown a) new before after truly (shows, none) stop makes =
          (passes_end j none, shows, made_at_end j n before after makes (shows_of t (shown_view a) shows) none)
      at_last j n Step.Waits new before after truly (stands, (ws, w)) stop makes =
          let lacks = missing new (suc j) ws stands w (truly (suc j) ws (omega arith) w) stop in (
            suc j,
            record {
              above = omega arith;
              passes = λ k es l m v. absurd (omega (arith, l, m));
              waits = ws;
              waited = w;
              missing = lacks.0;
              is_waited = lacks.1;
              is_missing = lacks.2;
            },
            stands,
            made_at_wait j n before after makes ws w,
          )

      -- a step and what comes after it
      pub with_rest : (j n : ℕ) (s : Step) (new : Stand (List ℕ)) (before between after : Spawned)
          → ((es : List Desc) → WaitOf job around t (suc j) es → Each (IsFound digest finds job around) es)
          → ((m : ℕ) → n ≤ m → between ≡ before ++ named_all (made_between job around m t j (suc j)))
          → WentOn digest finds job around t (suc j) s new between after → WentOn digest finds job around t j s new before after
      with_rest j n (Step.Ended o) new before between after first makes (passes, ends, (es, made, grew)) =
          (λ i. past_one j i first (passes i), ends, made_to_end j n before between makes after es made grew)
      with_rest j n (Step.Shown a) new before between after first makes (passes, shows, (es, made, grew)) =
          (λ i. past_one j i first (passes i), shows, made_to_end j n before between makes after es made grew)
      with_rest j n Step.Waits new before between after first makes (i, next, stands, (es, made, grew)) = (
        i,
        record {
          above = omega (arith, next.above);
          passes = past_one j i first next.passes;
          waits = next.waits;
          waited = next.waited;
          missing = next.missing;
          is_waited = next.is_waited;
          is_missing = next.is_missing;
        },
        stands,
        made_to_wait j n before between makes after i es next.above made grew,
      )

      module _ (sc : Script) (is : job.script ≡ sc) (alike : ReadsAlike (digested digest) around data_of)
          (writes : WritesAlike (digested digest) around) where
        pub went : (j : ℕ) (old new : Stand (List ℕ)) (s : Step) (before after : Spawned) (ds : List Desc)
            → Stands job around (digested digest) old t j → WaitOf job around t j ds → TrulyFrom digest finds job around t j
            → Through finds digest sc old new s before after → WentOn digest finds job around t j s new before after
        went j old new s before after ds stands w truly (last os found r stop) =
            let ans = answers old j ds stands w (truly j ds (omega arith) w) os found in
            at_last j ans.0 s new before after truly ((r.moves job around t is alike writes).steps j ans.0 stands (ans.1 ans.0 (omega arith)))
            stop (λ m l. r.grew ∙ ap (λ ms. before ++ map (with_name digest) ms)
            ((r.moves job around t is alike writes).makes j m stands (ans.1 m l)))
        went j old new s before after ds stands w truly (more os found r rest) =
            let ans = answers old j ds stands w (truly j ds (omega arith) w) os found in
            let step = (r.moves job around t is alike writes).steps j ans.0 stands (ans.1 ans.0 (omega arith)) in
            let next = first_found sc _ new s _ after rest in
            let first = λ (es : List Desc) (v : WaitOf job around t (suc j) es). each_found _ (suc j) es step.0 v
            (truly (suc j) es (omega arith) v) next.0 next.1 in
            let later = went (suc j) _ new s _ after step.1.0 step.0 step.1.1 (λ k es l v. truly k es (omega (arith, l)) v) rest in
            with_rest j ans.0 s new before _ after first
            (λ m l. r.grew ∙ ap (λ ms. before ++ map (with_name digest) ms)
            ((r.moves job around t is alike writes).makes j m stands (ans.1 m l))) later

pub goes_through : (digest : List ℕ → List ℕ) (sc : Script) (finds : v.Desc (List ℕ) → Option (Object (List ℕ))) (old new : Stand (List ℕ))
    (s : Step) (before after : Spawned) → Through finds digest sc old new s before after → GoesThrough digest sc finds old new s before after
goes_through digest sc finds old new s before after th = λ job around t j is alike writes stands waits truly.
    went digest finds job around t sc is alike writes j old new s before after waits.0 stands waits.1 truly th
