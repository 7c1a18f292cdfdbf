-- From wave to wave, up to the answer.
use Rattle.std.proofs.Common.{◌≡◌, ◌≢◌, ◌≤◌, ◌<◌, ℕ, zero, suc, ◌+◌, List, [], ◌∷◌, ◌++◌, length, map, Option, Some, None, slice_get, inl, inr, refl}
use Rattle.std.proofs.Common.{sym, ap, ap₂, subst, ◌∙◌, arith, le-leb}
use Rattle.sky_base.specs.Val as v
use Rattle.sky_base.specs.Val.{ref, refs, call, known, no_pairs, no_vals}
use Rattle.sky_base.specs.Name.{low}
use Rattle.sky_base.specs.Op.{Answer}
use Rattle.sky_base.specs.Res.{Object}
use Rattle.sky_base_law.specs.Lower.{lower, low_ref}
use Rattle.sky_base.specs.See as m
use Rattle.sky_base.specs.See.{Val, Desc, Job, Around, Answered, Means, Turn, turn, on_turn, last_turn, round, wave, job_answer, main_call, see, slot}
use Rattle.sky_base.specs.Needed.{Task, wave_refs, unless_none, only_if, distinct_refs}
use Rattle.sky_base_law.specs.Tasks.{In}
use Rattle.sky_base_law.proofs.RefsLow.{refs_low}
use Rattle.sky_base_law.proofs.SeenLaw.{on, on_either, kept_on, kept_is, see_kept, turn_kept}
use Rattle.sky_base_law.proofs.TaskOutputs.{in_distinct_refs}
use Rattle.sky_base_known.specs.Walk.{Row, known_of, number_of}
use Rattle.sky_base_known.specs.Number.{tag_of, Grown}
use Rattle.sky_plain.specs.Needs.{Waits}
use Rattle.sky_plain.specs.Stand.{spell, KnownAt, Knows, Opened, Opens}
use Rattle.sky_base_waves.specs.Seen.{Sees, SeenAsKnown}
use Rattle.sky_base_waves.specs.Wave as wave
use Rattle.sky_base_waves.specs.Wave.{Turned, turn_at}
use Rattle.sky_plain.specs.Stage.{Reached, Stage, AllKnown}
use Rattle.sky_base_known.proofs.Numbers.{index_at, got_more}
use Rattle.sky_plain.proofs.Knows.{grown_back}
use Rattle.sky_plain.proofs.Chains.{held_ref}
use Rattle.sky_base_waves.proofs.Lowered.{low_turn, turn_low}

abbrev blind : Turn
blind = Turn.ends Answered.not_yet

on_is : (k n : ℕ) → on k n ≡ k + n
on_is zero n = omega arith
on_is (suc k) n = ap suc (on_is k n) ∙ omega arith

on_on : (m k n : ℕ) → on m (on k n) ≡ on (m + k) n
on_on m k n = on_is m (on k n) ∙ ap (λ x. m + x) (on_is k n) ∙ omega arith ∙ sym (on_is (m + k) n)

pub in_map : {A B : Type 0} (f : A → B) (b : B) (xs : List A) → In b (map f xs) → (x : A) × In x xs × (f x ≡ b)
in_map f b [] i = absurd i
in_map f b (x ∷ xs) (inl e) = (x, inl refl, sym e)
in_map {A = A} f b (x ∷ xs) (inr i) = go (in_map f b xs i)
  where
    go : (y : A) × In y xs × (f y ≡ b) → (y : A) × In y (x ∷ xs) × (f y ≡ b)
    go (y, j, e) = (y, inr j, e)

pub map_in : {A B : Type 0} (f : A → B) (x : A) (xs : List A) → In x xs → In (f x) (map f xs)
map_in f x [] i = absurd i
map_in f x (y ∷ xs) (inl e) = inl (ap f e)
map_in f x (y ∷ xs) (inr i) = inr (map_in f x xs i)

module _ (job : Job) (around : Around) where
  sees_on : (tag : Row → List ℕ) (k n : ℕ) (d : Desc) (o : Object (List ℕ)) → Sees job around tag n d o → Sees job around tag (on k n) d o
  sees_on tag k n d o (p, e, l) = (
    p,
    kept_is None (see job around n d) (see job around (on k n) d) (Some p)
        (kept_on None (λ i. see job around i d) (λ i. see_kept job around i d) k n) e (λ q. absurd cc),
    l,
  )

  start_reached : (n : ℕ) → Reached job around n 0 101 (ref main_call)
  unfolding wave job_answer
  start_reached n = record { wave_is = refl; answer_is = refl }

  -- the result begins as the reference to the main call
  pub stage_start : (rows : List Row) → slice_get rows 0 ≡ Some (call [] no_pairs no_vals) → Stage job around rows 0 101 (ref (known (slot 0)))
  stage_start rows at later g = (
    0,
    ref main_call,
    ap (λ i. ref (known (slot i)))
        (index_at later 0 (call [] no_pairs no_vals) g.apart
        (subst (λ x. slice_get x 0 ≡ Some (call [] no_pairs no_vals)) (sym g.begins) (got_more rows g.more 0 (call [] no_pairs no_vals) at))),
    λ m. start_reached (on m 0),
  )

  -- it stays where more is held
  pub stage_more : (rows more after : List Row) (j k : ℕ) (a : v.Val (List ℕ)) → after ≡ rows ++ more → Stage job around rows j k a
      → Stage job around after j k a
  stage_more rows more after j k a e st later g = st later (grown_back rows more after later e g)

  wave_step : (n j k : ℕ) (u w : Val) → Reached job around n j (suc k) u → turn job around n u ≡ Turn.next w → Reached job around n (suc j) k w
  unfolding wave round
  wave_step n j k u w r e =
      record {
        wave_is = ap (λ x. m.wave_on job around n (m.turn_of job around n x)) r.wave_is ∙ ap (λ t. m.wave_on job around n (Some t)) e;
        answer_is = r.answer_is ∙ ap (λ t. on_turn job around n t (λ u. round job around n k u)) e;
      }

  wave_end : (n j k : ℕ) (u : Val) (a : Answered) → Reached job around n j (suc k) u → turn job around n u ≡ Turn.ends a → job_answer job around n ≡ a
  unfolding round
  wave_end n j k u a r e =
      r.answer_is ∙ ap (λ t. on_turn job around n t (λ u. round job around n k u)) e

  last_end : (n j : ℕ) (u : Val) → Reached job around n j 0 u → job_answer job around n ≡ last_turn (refs u) (around.writes u)
  unfolding round
  last_end n j u r = r.answer_is

  module _ (reads : List ℕ → Answer (List ℕ)) (writes : v.Val (List ℕ) → Option (List ℕ))
      (reads_alike : (tag : Row → List ℕ) (b : List ℕ) → reads b ≡ lower {N = ⊥} spell tag (around.reads b))
      (writes_alike : (tag : Row → List ℕ) (a : Val) → writes (low spell tag a) ≡ around.writes a) where
    -- where each reference of the value is known, its turn at some n and from there on
    record Turns (later : List Row) (j k : ℕ) (a : v.Val (List ℕ)) (objects : List (Option (Object (List ℕ)))) : Type 0 where
      n : ℕ
      u : Val
      low_is : low spell (tag_of later) u ≡ a
      reached : (m : ℕ) → Reached job around (on m n) j k u
      turned : low_turn (tag_of later) (turn job around n u) ≡ turn_at reads writes (known_of objects) a

    turns : (rows later : List Row) (j k : ℕ) (a : v.Val (List ℕ)) (objects : List (Option (Object (List ℕ)))) → Grown rows later
        → Stage job around rows j k a → Knows job around rows objects → AllKnown objects (refs a) → Turns later j k a objects
    turns rows later j k a objects g st knows all = go (st later g) (knows later g)
      where
        tag : Row → List ℕ
        tag = tag_of later

        go : (n : ℕ) × (u : Val) × (low spell tag u ≡ a) × ((m : ℕ) → Reached job around (on m n) j k u) → (n : ℕ)
            × KnownAt job around later objects n → Turns later j k a objects
        go (n, u, low_is, reached) (i, kn) =
            record {
              n = on i n;
              u = u;
              low_is = low_is;
              reached = λ m. subst (λ x. Reached job around x j k u) (sym (on_on m i n)) (reached (m + i));
              turned = turn_low job around reads writes tag (reads_alike tag) (writes_alike tag) (on i n) (known_of objects) u settled
                  ∙ ap (turn_at reads writes (known_of objects)) low_is;
            }
          where
            settled : SeenAsKnown job around tag (on i n) (known_of objects) (refs u)
            settled d is = of_known (all (low_ref spell tag d)
                (subst (In (low_ref spell tag d)) (sym (refs_low spell tag u) ∙ ap refs low_is) (map_in (low_ref spell tag) d (refs u) is)))
              where
                of_known : (o : Object (List ℕ)) × (known_of objects (low_ref spell tag d) ≡ Some o) → (o : Object (List ℕ))
                    × (known_of objects (low_ref spell tag d) ≡ Some o) × Sees job around tag (on i n) d o
                of_known (o, e) =
                    (o, e, subst (λ x. Sees job around tag x d o) (on_either n i) (sees_on tag n i d o (kn d o e)))

    turn_next : (tag : Row → List ℕ) (t : Turn) (b : v.Val (List ℕ)) → low_turn tag t ≡ Turned.next b → (w : Val) × (t ≡ Turn.next w)
        × (low spell tag w ≡ b)
    turn_next tag (Turn.ends a) b e = absurd cc
    turn_next tag (Turn.next w) b e = (w, refl, next_is (low spell tag w) b e)
      where
        next_is : (x y : v.Val (List ℕ)) → Turned.next x ≡ Turned.next y → x ≡ y
        next_is x y q = cc

    turn_end : (tag : Row → List ℕ) (t : Turn) (a : Answered) → low_turn tag t ≡ Turned.ends a → t ≡ Turn.ends a
    turn_end tag (Turn.ends x) a e = ap Turn.ends (end_is x a e)
      where
        end_is : (x y : Answered) → Turned.ends x ≡ Turned.ends y → x ≡ y
        end_is x y q = cc
    turn_end tag (Turn.next w) a e = absurd cc

    -- the next wave
    pub stage_next : (rows : List Row) (j k : ℕ) (a b : v.Val (List ℕ)) (objects : List (Option (Object (List ℕ))))
        → Stage job around rows j (suc k) a → Knows job around rows objects → AllKnown objects (refs a)
        → turn_at reads writes (known_of objects) a ≡ Turned.next b → Stage job around rows (suc j) k b
    stage_next rows j k a b objects st knows all e later g = go (turns rows later j (suc k) a objects g st knows all)
      where
        go : Turns later j (suc k) a objects → (n : ℕ) × (u : Val) × (low spell (tag_of later) u ≡ b)
            × ((m : ℕ) → Reached job around (on m n) (suc j) k u)
        go t = of_next (turn_next (tag_of later) (turn job around t.n t.u) b (t.turned ∙ e))
          where
            of_next : (w : Val) × (turn job around t.n t.u ≡ Turn.next w) × (low spell (tag_of later) w ≡ b) → (n : ℕ) × (u : Val)
                × (low spell (tag_of later) u ≡ b) × ((m : ℕ) → Reached job around (on m n) (suc j) k u)
            of_next (w, q, l) = (
              t.n,
              w,
              l,
              λ m. wave_step (on m t.n) j k t.u w (t.reached m)
                  (kept_is blind (turn job around t.n t.u) (turn job around (on m t.n) t.u) (Turn.next w)
                  (kept_on blind (λ i. turn job around i t.u) (λ i. turn_kept job around i t.u) m t.n) q (λ x. absurd cc)),
            )

    -- the answer
    pub stage_end : (rows : List Row) (j k : ℕ) (a : v.Val (List ℕ)) (x : Answered) (objects : List (Option (Object (List ℕ)))) → Grown rows rows
        → x ≢ Answered.not_yet → Stage job around rows j (suc k) a → Knows job around rows objects → AllKnown objects (refs a)
        → turn_at reads writes (known_of objects) a ≡ Turned.ends x → Means job around x
    stage_end rows j k a x objects g ne st knows all e = go (turns rows rows j (suc k) a objects g st knows all)
      where
        go : Turns rows j (suc k) a objects → Means job around x
        go t = (t.n, wave_end t.n j k t.u x (t.reached 0) (turn_end (tag_of rows) (turn job around t.n t.u) x (t.turned ∙ e)), ne)

    -- the wave above 100
    pub stage_last : (rows : List Row) (j : ℕ) (a : v.Val (List ℕ)) (x : Answered) → Grown rows rows → x ≢ Answered.not_yet
        → Stage job around rows j 0 a → wave.last_at (refs a) (writes a) ≡ x → Means job around x
    stage_last rows j a x g ne st e = go (st rows g)
      where
        go : (n : ℕ) × (u : Val) × (low spell (tag_of rows) u ≡ a) × ((m : ℕ) → Reached job around (on m n) j 0 u) → Means job around x
        go (n, u, l, r) = (
          n,
          last_end n j u (r 0) ∙ same (refs u)
              ∙ ap₂ wave.last_at (sym (refs_low spell (tag_of rows) u) ∙ ap refs l) (sym (writes_alike (tag_of rows) u) ∙ ap writes l) ∙ e,
          ne,
        )
          where
            same : (ds : List Desc) → last_turn ds (around.writes u) ≡ wave.last_at (map (low_ref spell (tag_of rows)) ds) (around.writes u)
            same [] = refl
            same (d ∷ ds) = refl

  -- ---- what the result waits for

  wait_wave : (n j : ℕ) (u : Val) (d : Desc) → suc j ≤ 100 → wave job around n (suc j) ≡ Some u → In d (refs u) → Waits job around Task.show d
  wait_wave n j u d le e i = (
    suc j,
    distinct_refs u,
    (n, (ap₂ only_if (le-leb (suc j) 100 le) (ap wave_refs e) ∙ some (distinct_refs u) (in_distinct_refs u d i))),
    in_distinct_refs u d i,
  )
    where
      some : (ds : List Desc) → In d ds → unless_none ds ≡ Some ds
      some [] h = absurd h
      some (c ∷ ds) h = refl

  wait_first : (n : ℕ) (u : Val) (d : Desc) → wave job around n 0 ≡ Some u → In d (refs u) → Waits job around Task.show d
  unfolding wave
  wait_first n u d e i = (0, main_call ∷ [], (n, refl), subst (λ x. In d (refs x)) (val_is u (ref main_call) e) i)
    where
      val_is : (a b : Val) → Some b ≡ Some a → a ≡ b
      val_is a b q = cc

  waits_at : (n j : ℕ) (u : Val) (d : Desc) → j ≤ 100 → wave job around n j ≡ Some u → In d (refs u) → Waits job around Task.show d
  waits_at n zero u d le e i = wait_first n u d e i
  waits_at n (suc j) u d le e i = wait_wave n j u d le e i

  -- each reference of the value at a wave begins a chain
  pub opens_first : (rows : List Row) (j k : ℕ) (name : List ℕ) (a : v.Val (List ℕ)) → j ≤ 100 → Stage job around rows j k a
      → In (known name) (refs a) → number_of name < length rows → Opens job around rows (number_of name ∷ [])
  opens_first rows j k name a le st is below later g = go (st later g)
    where
      tag : Row → List ℕ
      tag = tag_of later

      go : (n : ℕ) × (u : Val) × (low spell tag u ≡ a) × ((m : ℕ) → Reached job around (on m n) j k u) → (d : Desc)
          × Opened job around later (number_of name ∷ []) d
      go (n, u, l, r) = of_ref (in_map (low_ref spell tag) (known name) (refs u)
          (subst (In (known name)) (ap refs (sym l) ∙ refs_low spell tag u) is))
        where
          of_ref : (d : Desc) × In d (refs u) × (low_ref spell tag d ≡ known name) → (d : Desc) × Opened job around later (number_of name ∷ []) d
          of_ref (d, h, e) = (d, (held_ref job around rows later d name g below e, waits_at n j u d le (r 0).wave_is h))
