-- From a wave of a job's result on: the answer of the job, or its next wave.
use Rattle.std.proofs.Common.{◌≡◌, ◌≢◌, ◌≤◌, ◌<◌, ℕ, zero, suc, ◌+◌, ◌-◌, List, [], ◌∷◌, length, map, Bool, true, false, cond, nat_le, nat_lt, Option}
use Rattle.std.proofs.Common.{Some, None, inl, inr, ltb-true, leb-true, le-leb, refl, sym, ap, ap₂, subst, ◌∙◌, arith}
use Rattle.std.proofs.lemmas.List.{length-map}
use Rattle.sky_base.specs.Val as v
use Rattle.sky_base.specs.Val.{distinct, ref, refs, same_text}
use Rattle.sky_base.specs.Name.{low, name}
use Rattle.sky_base.specs.Read.{joined, see_all}
use Rattle.sky_base.specs.See.{Val, Desc, Obj, Job, Around, Answered, Turn, turn, turn_refs, turn_of, wave_on, on_turn, last_turn, round, wave}
use Rattle.sky_base.specs.See.{job_answer, main_call, most_waves, see, text_of}
use Rattle.sky_base.specs.Needed.{Task, State, wait_at, wave_state, wave_refs, unless_none, only_if, distinct_refs}
use Rattle.sky_base.specs.Res.{Object}
use Rattle.sky_base.specs.View.{view}
use Rattle.sky_base.proofs.Exact.{exact_text, self_text}
use Rattle.ciel_json.specs.Text.{text_of as writes}
use Rattle.sky_base_law.specs.Lower.{low_obj, low_ref}
use Rattle.sky_base_law.specs.NamesLaws.{Tag, no_name, NoClash, ReadsAlike}
use Rattle.sky_base_law.specs.Tasks.{In}
use Rattle.sky_base_law.proofs.Lists.{some_is, none_some}
use Rattle.sky_base_law.proofs.RefsLow.{distinct_refs_low, refs_low}
use Rattle.sky_base_law.proofs.SeenLaw.{stands_one}
use Rattle.sky_base_law.proofs.TaskFuel.{wave_next, wave_zero}
use Rattle.sky_base_law.proofs.TaskOutputs.{in_distinct_refs}
use Rattle.sky_base_known.specs.Data.{data_of}
use Rattle.sky_base_known.specs.Walk.{Row}
use Rattle.sky_state.specs.Stand.{Stand, low_state}
use Rattle.sky_state.specs.Stands.{Stands}
use Rattle.sky_state.specs.declared.shown.Shown.{Shown}
use Rattle.sky_base_waves.specs.Seen.{SeenAsKnown, Sees, WritesAlike}
use Rattle.sky_base_waves.specs.Wave as over
use Rattle.sky_base_waves.specs.Wave.{Turned, last_at}
use Rattle.sky_base_waves.proofs.Lowered.{low_turn, turn_low}
use Rattle.sky_machine_show.specs.Given.{given_for}
use Rattle.sky_machine_show.specs.Shows.{Next, after_turn, came_view, next_of, shown_view, wave_if, waits_if}
use Rattle.sky_machine_show.specs.Standing.{ShownOrStands, GoesOnShown}
use Rattle.sky_machine_show.specs.declared.show.Came.{Came}
use Rattle.sky_machine_show.proofs.Nexts.{IsNext, next_waits, turn_over}

nothing : (b : Bool) → only_if {A = List Desc} b None ≡ None
nothing true = refl
nothing false = refl

some_not : {A : Type 0} (a : A) → Some a ≢ None
some_not a e = absurd cc

-- ---- the objects that are given for the names of descriptions

module _ (tag : Tag) (sees : Desc → Option Obj) where
  abbrev R : Desc → Row
  R d = low_ref no_name tag d

  abbrev L : Obj → Object (List ℕ)
  L o = low_obj no_name tag o

  joined_is : (x : Option Obj) (y : Option (List Obj)) (os : List Obj) → joined x y ≡ Some os → (o : Obj) × (rest : List Obj) × (x ≡ Some o)
      × (y ≡ Some rest) × (os ≡ o ∷ rest)
  joined_is None y os e = absurd (none_some os e)
  joined_is (Some o) None os e = absurd (none_some os e)
  joined_is (Some o) (Some rest) os e = (o, rest, refl, refl, sym (some_is (o ∷ rest) os e))

  abbrev Found : List Desc → List Obj → Desc → Type 0
  Found ds os d = (x : Obj) × (sees d ≡ Some x) × (given_for (map R ds) (map L os) (R d) ≡ Some (L x))

  pub given_at : (ds : List Desc) (os : List Obj) → NoClash tag ds → see_all sees ds ≡ Some os → (d : Desc) → In d ds → Found ds os d
  given_at [] os apart e d i = absurd i
  given_at (c ∷ ds) os apart e d i =
      first (λ rest more j. given_at ds rest (λ a b k l n. apart a b (inr k) (inr l) n) more d j) (joined_is (sees c) (see_all sees ds) os e)
    where
      first : ((rest : List Obj) → see_all sees ds ≡ Some rest → In d ds → Found ds rest d) → (o : Obj) × (rest : List Obj) × (sees c ≡ Some o)
          × (see_all sees ds ≡ Some rest) × (os ≡ o ∷ rest) → Found (c ∷ ds) os d
      first again (o, rest, one, more, is) = subst (λ x. Found (c ∷ ds) x d) (sym is) (go (same_text (name no_name tag d) (name no_name tag c)) refl)
        where
          later : In d (c ∷ ds) → same_text (name no_name tag d) (name no_name tag c) ≡ false → In d ds
          later (inl q) f = let t = ap (λ x. same_text (name no_name tag x) (name no_name tag c)) q ∙ self_text (name no_name tag c) in
              absurd (true_false (sym t ∙ f))
            where
              true_false : true ≡ false → ⊥
              true_false z = cc
          later (inr j) f = j

          behind : Found ds rest d → same_text (name no_name tag d) (name no_name tag c) ≡ false → Found (c ∷ ds) (o ∷ rest) d
          behind (x, s, g) f = (x, s, ap (λ b. cond b (Some (L o)) (given_for (map R ds) (map L rest) (R d))) f ∙ g)

          go : (b : Bool) → same_text (name no_name tag d) (name no_name tag c) ≡ b → Found (c ∷ ds) (o ∷ rest) d
          go true t =
              let q : d ≡ c = apart d c i (inl refl) (exact_text (name no_name tag d) (name no_name tag c) t) in
              (o, ap sees q ∙ one, ap (λ b. cond b (Some (L o)) (given_for (map R ds) (map L rest) (R d))) t)
          go false f = behind (again rest more (later i f)) f

-- ---- the waves of a job

module _ (job : Job) (around : Around) where
  abbrev Before : ℕ → ℕ → Val → Type 0
  Before n j p = (q : Val) × (wave job around n j ≡ Some q) × (turn job around n q ≡ Turn.next p)

  -- a wave comes of the one before it
  wave_back : (n j : ℕ) (p : Val) → wave job around n (suc j) ≡ Some p → Before n j p
  unfolding wave
  wave_back n j p e = go (wave job around n j) refl e
    where
      of_turn : (q : Val) (t : Turn) → turn job around n q ≡ t → wave job around n j ≡ Some q → wave_on job around n (Some t) ≡ Some p → Before n j p
      of_turn q (Turn.ends a) h w e = absurd (none_some p e)
      of_turn q (Turn.next r) h w e = (q, w, h ∙ ap Turn.next (some_is r p e))

      go : (o : Option Val) → wave job around n j ≡ o → wave_on job around n (turn_of job around n o) ≡ Some p → Before n j p
      go None h e = absurd (none_some p e)
      go (Some q) h e = of_turn q (turn job around n q) refl h e

  -- the answer is what the waves from there on come to
  pub answer_from : (n j k : ℕ) (p : Val) → k + j ≡ 101 → wave job around n j ≡ Some p → job_answer job around n ≡ round job around n k p
  unfolding wave round job_answer
  answer_from n zero k p s e =
      let all : k ≡ 101 = omega (arith, s) in
      ap (λ u. round job around n 101 u) (some_is (ref main_call) p e) ∙ ap (λ i. round job around n i p) (sym all)
  answer_from n (suc j) k p s e =
      go (let more : suc k + j ≡ 101 = omega (arith, s) in λ q w. answer_from n j (suc k) q more w) (wave_back n j p e)
    where
      go : ((q : Val) → wave job around n j ≡ Some q → job_answer job around n ≡ round job around n (suc k) q) → Before n j p
          → job_answer job around n ≡ round job around n k p
      go again (q, w, t) =
          again q w ∙ ap (λ x. on_turn job around n x (λ u. round job around n k u)) t

  answer_ends : (n j k : ℕ) (p : Val) (a : Answered) → suc k + j ≡ 101 → wave job around n j ≡ Some p → turn job around n p ≡ Turn.ends a
      → job_answer job around n ≡ a
  unfolding round
  answer_ends n j k p a s e t =
      answer_from n j (suc k) p s e ∙ ap (λ x. on_turn job around n x (λ u. round job around n k u)) t

  -- where a value refers to nothing
  round_plain : (n k : ℕ) (q : Val) → refs q ≡ [] → round job around n k q ≡ text_of (around.writes q)
  unfolding round
  round_plain n zero q e = ap (λ ds. last_turn ds (around.writes q)) e
  round_plain n (suc k) q e = ap (λ ds. on_turn job around n (turn_refs job around n ds q) (λ u. round job around n k u)) e

  round_last : (n : ℕ) (q : Val) → round job around n 0 q ≡ last_turn (refs q) (around.writes q)
  unfolding round
  round_last n q = refl

  -- ---- what it waits for

  abbrev AtWait : ℕ → ℕ → List Desc → Type 0
  AtWait n j ds = (p : Val) × (wave job around n j ≡ Some p) × (ds ≡ distinct_refs p) × (j ≤ 100)

  unless_is : (ds es : List Desc) → unless_none ds ≡ Some es → es ≡ ds
  unless_is [] es e = absurd (none_some es e)
  unless_is (d ∷ ds) es e = sym (some_is (d ∷ ds) es e)

  at_wait : (n j : ℕ) (ds : List Desc) → wait_at job around n Task.show j ≡ Some ds → AtWait n j ds
  at_wait n zero ds e = (ref main_call, wave_zero job around n, sym (some_is (main_call ∷ []) ds e), omega arith)
  at_wait n (suc j) ds e = within (nat_le (suc j) 100) refl e
    where
      of_wave : (o : Option Val) → wave job around n (suc j) ≡ o → wave_refs o ≡ Some ds → suc j ≤ 100 → AtWait n (suc j) ds
      of_wave None h e le = absurd (none_some ds e)
      of_wave (Some q) h e le = (q, h, unless_is (distinct_refs q) ds e, le)

      within : (b : Bool) → nat_le (suc j) 100 ≡ b → only_if b (wave_refs (wave job around n (suc j))) ≡ Some ds → AtWait n (suc j) ds
      within true t e = of_wave (wave job around n (suc j)) refl e (leb-true (suc j) 100 t)
      within false t e = absurd (none_some ds e)

  -- it waits no more where the next wave has no value, refers to nothing, or is above the last one
  no_wave : (n j : ℕ) → wave job around n (suc j) ≡ None → wait_at job around n Task.show (suc j) ≡ None
  no_wave n j e = ap (λ o. only_if (nat_le (suc j) 100) (wave_refs o)) e ∙ nothing (nat_le (suc j) 100)

  no_refs : (n j : ℕ) (q : Val) → wave job around n (suc j) ≡ Some q → refs q ≡ [] → wait_at job around n Task.show (suc j) ≡ None
  no_refs n j q e r =
      ap (λ o. only_if (nat_le (suc j) 100) (wave_refs o)) e
      ∙ ap (λ ds. only_if (nat_le (suc j) 100) (unless_none (distinct (λ a b. true) ds))) r ∙ nothing (nat_le (suc j) 100)

  no_more : (n j : ℕ) → 100 < suc j → wait_at job around n Task.show (suc j) ≡ None
  no_more n j l = ap (λ b. only_if b (wave_refs (wave job around n (suc j)))) (above (nat_le (suc j) 100) refl)
    where
      above : (b : Bool) → nat_le (suc j) 100 ≡ b → nat_le (suc j) 100 ≡ false
      above true e = let le : suc j ≤ 100 = leb-true (suc j) 100 e in absurd (omega (arith, l, le))
      above false e = e

-- ---- where the value stands for the root task at a wave, and these are the objects of what it waits for there

module _ (tag : Tag) (job : Job) (around : Around) (n : ℕ) where
  -- at n the value of wave j is p, and each of its references is seen as the object that is given for its name
  record Here (a : v.Val (List ℕ)) (w j : ℕ) (given : List (Object (List ℕ))) : Type 0 where
    p : Val
    is : a ≡ low no_name tag p
    at : w ≡ j
    wave_is : wave job around n j ≡ Some p
    most : j ≤ 100
    sees : SeenAsKnown job around tag n (λ d. given_for (distinct same_text (refs a)) given d) (refs p)

  show_is : (a b : v.Val (List ℕ)) (w j : ℕ) → Stand.show_at a w ≡ Stand.show_at b j → (a ≡ b) × (w ≡ j)
  show_is a b w j e = (cc, cc)

  -- a state that stands for the root task is that of its wave
  stood : (a : v.Val (List ℕ)) (w j : ℕ) (p : Val) → Stands job around tag (Stand.show_at a w) Task.show j → wave job around n j ≡ Some p
      → (a ≡ low no_name tag p) × (w ≡ j)
  stood a w j p (st, at, is) h =
      show_is a (low no_name tag p) w j (is ∙ ap (low_state tag)
      (stands_one job around Task.show j st (State.show_at p j) at (n, ap (wave_state j) h)))

  module _ (a : v.Val (List ℕ)) (w j : ℕ) (ds : List Desc) (os : List Obj) (given : List (Object (List ℕ)))
      (seen : see_all (see job around n) ds ≡ Some os) (are : given ≡ map (low_obj no_name tag) os) (apart : NoClash tag ds) where
    here : Stands job around tag (Stand.show_at a w) Task.show j → AtWait job around n j ds → Here a w j given
    here st (p, h, waits, le) =
        record {
          p = p;
          is = (stood a w j p st h).0;
          at = (stood a w j p st h).1;
          wave_is = h;
          most = le;
          sees = λ d i. of_found d (given_at tag (see job around n) ds os apart seen d (subst (In d) (sym waits) (in_distinct_refs p d i)));
        }
      where
        names : distinct same_text (refs a) ≡ map (low_ref no_name tag) ds
        names =
            ap (λ x. distinct same_text (refs x)) (stood a w j p st h).0
            ∙ distinct_refs_low no_name tag (λ a b. true) (λ a b c. absurd a) (λ a. absurd a) p
            (λ d e k l q. apart d e (subst (In d) (sym waits) (in_distinct_refs p d k)) (subst (In e) (sym waits) (in_distinct_refs p e l))
            q) ∙ ap (map (low_ref no_name tag)) (sym waits)

        of_found : (d : Desc) → Found tag (see job around n) ds os d → (o : Object (List ℕ))
            × (given_for (distinct same_text (refs a)) given (low_ref no_name tag d) ≡ Some o) × Sees job around tag n d o
        of_found d (x, s, g) =
            (low_obj no_name tag x, (λ i. given_for (names i) (are i) (low_ref no_name tag d)) ∙ g, (x, s, refl))

  -- ---- what comes of it

  next_is : (a b : v.Val (List ℕ)) → Turned.next a ≡ Turned.next b → a ≡ b
  next_is a b e = cc

  answer_is : (a b : Answered) → Next.answers a ≡ Next.answers b → a ≡ b
  answer_is a b e = cc

  no_refs_low : (ds : List Desc) → map (low_ref no_name tag) ds ≡ [] → ds ≡ []
  no_refs_low [] e = refl
  no_refs_low (d ∷ ds) e = absurd cc

  module _ (reads_alike : ReadsAlike tag around data_of) (writes_alike : WritesAlike tag around) (a : v.Val (List ℕ)) (w j : ℕ)
      (given : List (Object (List ℕ))) (h : Here a w j given) where
    turned : low_turn tag (turn job around n h.p) ≡ turn_over (distinct same_text (refs a)) given a
    turned =
        turn_low job around data_of (λ u. writes u) tag reads_alike writes_alike n (λ d. given_for (distinct same_text (refs a)) given d) h.p
        h.sees ∙ ap (λ x. turn_over (distinct same_text (refs a)) given x) (sym h.is)

    -- what follows a turn of the job
    comes : (t : Turn) → turn job around n h.p ≡ t → next_of given a w ≡ after_turn (low_turn tag t) (suc j)
    comes t e =
        ap (λ x. after_turn x (suc w)) (sym turned ∙ ap (low_turn tag) e) ∙ ap (λ i. after_turn (low_turn tag t) (suc i)) h.at

    next_wave : (q : Val) → turn job around n h.p ≡ Turn.next q → wave job around n (suc j) ≡ Some q
    next_wave q e = wave_next job around n j h.p (Turn.next q) h.wave_is e

    refs_next : (q : Val) → refs (low no_name tag q) ≡ map (low_ref no_name tag) (refs q)
    refs_next q = refs_low no_name tag q

    abbrev Ends : Answered → Type 0
    Ends x = (job_answer job around n ≡ x) × (wait_at job around n Task.show (suc j) ≡ None)

    -- the answer
    means : (x : Answered) → next_of given a w ≡ Next.answers x → Ends x
    means x e = go (turn job around n h.p) refl
      where
        left : suc (100 - j) + j ≡ 101
        left = let m = h.most in omega (arith, m)

        after : (100 - j) + suc j ≡ 101
        after = let m = h.most in omega (arith, m)

        last_low : (q : Val) (ds : List Desc) → last_turn ds (around.writes q) ≡ last_at (map (low_ref no_name tag) ds) (around.writes q)
        last_low q [] = refl
        last_low q (d ∷ ds) = refl

        past : (q : Val) → turn job around n h.p ≡ Turn.next q → 100 < suc j → last_at (refs (low no_name tag q)) (writes (low no_name tag q))
            ≡ x → Ends x
        past q t l r =
            let none : 100 - j ≡ 0 = omega (arith, l) in (
              answer_from job around n (suc j) (100 - j) q after (next_wave q t) ∙ ap (λ k. round job around n k q) none
                  ∙ round_last job around n q ∙ last_low q (refs q) ∙ ap₂ last_at (sym (refs_next q)) (sym (writes_alike q)) ∙ r,
              no_more job around n j l,
            )

        plain : (q : Val) → turn job around n h.p ≡ Turn.next q → (ds : List Row) → refs (low no_name tag q) ≡ ds
            → waits_if ds (low no_name tag q) ≡ Next.answers x → Ends x
        plain q t [] r z =
            let none : refs q ≡ [] = no_refs_low (refs q) (sym (refs_next q) ∙ r) in (
              answer_from job around n (suc j) (100 - j) q after (next_wave q t) ∙ round_plain job around n (100 - j) q none
                  ∙ ap text_of (sym (writes_alike q)) ∙ answer_is (text_of (writes (low no_name tag q))) x z,
              no_refs job around n j q (next_wave q t) none,
            )
        plain q t (d ∷ ds) r z = absurd cc

        on_next : (q : Val) → turn job around n h.p ≡ Turn.next q → (b : Bool) → nat_lt most_waves (suc j) ≡ b → wave_if b (low no_name tag q)
            ≡ Next.answers x → Ends x
        on_next q t true l z = past q t (ltb-true 100 (suc j) l) (answer_is (last_at (refs (low no_name tag q)) (writes (low no_name tag q))) x z)
        on_next q t false l z = plain q t (refs (low no_name tag q)) refl z

        go : (t : Turn) → turn job around n h.p ≡ t → Ends x
        go (Turn.ends y) t = (
          answer_ends job around n j (100 - j) h.p y left h.wave_is t ∙ answer_is y x (sym (comes (Turn.ends y) t) ∙ e),
          no_wave job around n j (wave_next job around n j h.p (Turn.ends y) h.wave_is t),
        )
        go (Turn.next q) t = on_next q t (nat_lt most_waves (suc j)) refl (sym (comes (Turn.next q) t) ∙ e)

    abbrev Goes : v.Val (List ℕ) → Type 0
    Goes u =
        Stands job around tag (Stand.show_at u (suc w)) Task.show (suc j) × (ds : List Desc) × (wait_at job around n Task.show (suc j) ≡ Some ds)

    -- the next wave
    stands : (u : v.Val (List ℕ)) → next_of given a w ≡ Next.waits u → Goes u
    stands u e = go (turn job around n h.p) refl
      where
        wait : (q : Val) (ds : List Desc) → distinct_refs q ≡ ds → (ds ≡ [] → ⊥) → wave_refs (Some q) ≡ Some ds
        wait q [] r ne = absurd (ne refl)
        wait q (d ∷ ds) r ne = ap unless_none r

        some : (q : Val) → 0 < length (refs q) → distinct_refs q ≡ [] → ⊥
        some q l r = each (refs q) refl l
          where
            each : (ds : List Desc) → refs q ≡ ds → 0 < length ds → ⊥
            each [] y l = absurd (omega (arith, l))
            each (d ∷ ds) y l = subst (In d) r (in_distinct_refs q d (subst (In d) (sym y) (inl refl)))

        of_next : (q : Val) → turn job around n h.p ≡ Turn.next q → IsNext (Turned.next (low no_name tag q)) (suc j) u → Goes u
        of_next q t (is, le, more) =
            let same : low no_name tag q ≡ u = next_is (low no_name tag q) u is in
            let refers : 0 < length (refs q) = subst (λ k. 0 < k) (length-map (refs q) (low_ref no_name tag))
            (subst (λ xs. 0 < length xs) (refs_next q) (subst (λ x. 0 < length (refs x)) (sym same) more)) in (
              (State.show_at q (suc j), (n, ap (wave_state (suc j)) (next_wave q t)), (λ i. Stand.show_at (sym same i) (suc (h.at i)))),
              distinct_refs q,
              ap₂ only_if (le-leb (suc j) 100 le)
                  (ap wave_refs (next_wave q t) ∙ wait q (distinct_refs q) refl (some q refers)),
            )

        go : (t : Turn) → turn job around n h.p ≡ t → Goes u
        go (Turn.ends y) t = absurd (ends_not y (sym (comes (Turn.ends y) t) ∙ e))
          where
            ends_not : (y : Answered) → Next.answers y ≡ Next.waits u → ⊥
            ends_not y z = cc
        go (Turn.next q) t =
            of_next q t (next_waits (Turned.next (low no_name tag q)) (suc j) u (sym (comes (Turn.next q) t) ∙ e))

-- ---- what the code came to

shown_some : (s : Shown) → shown_view s ≢ Answered.not_yet
shown_some (Shown.Text b) e = absurd cc
shown_some (Shown.Fault f) e = absurd cc

pub shows_came : (a : v.Val (List ℕ)) (w : ℕ) (given : List (Object (List ℕ))) (c : Came) → next_of given a w ≡ came_view c → GoesOnShown a w given c
shows_came a w given c e tag job around n j ds os reads_alike writes_alike st waits seen are apart = go c e
  where
    h : Here tag job around n a w j given
    h = here tag job around n a w j ds os given seen are apart st (at_wait job around n j ds waits)

    go : (c : Came) → next_of given a w ≡ came_view c → ShownOrStands tag job around n j w c
    go (Came.Shown s) e =
        let m = means tag job around n reads_alike writes_alike a w j given h (shown_view s) e in
        (m.0, shown_some s, m.1)
    go (Came.Next u) e = stands tag job around n reads_alike writes_alike a w j given h (view u) e
