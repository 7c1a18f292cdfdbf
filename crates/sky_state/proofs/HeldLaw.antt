-- What a state over names waits for and holds.
use Rattle.std.proofs.Common.{◌≡◌, ℕ, zero, suc, inl, inr, Bool, true, false, List, [], ◌∷◌, ◌++◌, map, Option, Some, None, nat_le, refl, sym, ap}
use Rattle.std.proofs.Common.{◌∙◌, subst, append_assoc}
use Rattle.std.specs.Option.{option_map}
use Rattle.std.proofs.lemmas.List.{map-append}
use Rattle.sky_base.specs.Val as v
use Rattle.sky_base.specs.Val.{call, out, input, known, refs, vals_refs, pairs_refs, refs_to, same_text, distinct}
use Rattle.sky_base.specs.Name.{low}
use Rattle.sky_base.specs.Tree.{nowhere}
use Rattle.sky_base.specs.Res.{others, Entry, Wait, one_of, all_of, kept_of, opens}
use Rattle.sky_base.specs.Eval.{World, Body, body_of}
use Rattle.sky_base.specs.Read.{Halt, Todo, Frame, refs_of, halt, todo_of, in_front, frame_of, frames_of}
use Rattle.sky_base.specs.See.{Val, Vals, Pairs, Desc, Job, Around, see, run_of, world_of, start_st, wave, main_call}
use Rattle.sky_base.specs.Needed.{Task, State, StandsAt, WaitOf, halt_state, halt_refs, start_frame, wave_state, distinct_refs, wave_refs}
use Rattle.sky_base.specs.Needed.{unless_none, only_if}
use Rattle.sky_base_law.specs.Lower.{low_ref, low_frame}
use Rattle.sky_base_law.specs.NamesLaws.{Tag, no_name, NoClash}
use Rattle.sky_base_law.specs.Opened.{Node}
use Rattle.sky_base_law.specs.Nodes.{node_at}
use Rattle.sky_base_law.specs.Tasks.{In, Apart, vals_held, frames_held, held, HeldAt}
use Rattle.sky_base_law.proofs.BoundLaw.{Any, Made, any_halt}
use Rattle.sky_base_law.proofs.FineLaw.{waiting, Waits}
use Rattle.sky_base_law.proofs.NodesLaw.{has_script}
use Rattle.sky_base_law.proofs.RefsLow.{refs_low, pairs_refs_low, distinct_low}
use Rattle.sky_base_law.proofs.SeenLaw.{stands_one, wait_one}
use Rattle.sky_base_law.proofs.TaskFuel.{held_one}
use Rattle.sky_base_law.proofs.TaskOutputs.{apart_refs, distinct_apart, distinct_refs_in, in_distinct}
use Rattle.sky_base.proofs.Exact.{exact_text, self_text}
use Rattle.sky_base_law.proofs.Lists.{some_is, none_some}
use Rattle.sky_state.specs.Stand.{Stand, low_state}
use Rattle.sky_state.specs.Stands.{Stands}
use Rattle.sky_state.specs.Table.{Row, part, turn, star, outputs, open_call, no_step}
use Rattle.sky_state.specs.Fits.{Last}
use Rattle.sky_state.specs.Chained.{body_places, row_at, Above, Chained}
use Rattle.sky_state.specs.Pending.{last_refs, top_refs, stack_refs, frames_refs, all_refs, pending_in, held_in}
use Rattle.sky_state.proofs.LinkLaw.{linked_call}
use Rattle.sky_state.proofs.FitsLaw.{ChainedHalt, chained_halt}

-- ---- references over names

module _ (tag : Tag) where
  abbrev R : Desc → v.Desc (List ℕ)
  R d = low_ref no_name tag d

  pub stack_low : (vs : List Val) → stack_refs (map (low no_name tag) vs) ≡ map R (vals_held vs)
  stack_low [] = refl
  stack_low (u ∷ vs) = (λ i. refs_low no_name tag u i ++ stack_low vs i) ∙ sym (map-append R (refs u) (vals_held vs))

  pub frames_low : (fs : List (Frame ⊥)) → frames_refs (map (low_frame no_name tag) fs) ≡ map R (frames_held fs)
  frames_low [] = refl
  frames_low (f ∷ fs) =
      (λ i. (pairs_refs_low no_name tag f.vars i ++ stack_low f.stack i) ++ frames_low fs i)
      ∙ append_assoc (map R (pairs_refs f.vars)) (map R (vals_held f.stack)) (map R (frames_held fs))
      ∙ sym (map-append R (pairs_refs f.vars) (vals_held f.stack ++ frames_held fs)
      ∙ ap (λ ds. map R (pairs_refs f.vars) ++ ds) (map-append R (vals_held f.stack) (frames_held fs)))

  last_low : (vs : List Val) → last_refs (map (low no_name tag) vs) ≡ map R (last_refs vs)
  last_low [] = refl
  last_low (u ∷ []) = refs_low no_name tag u
  last_low (u ∷ x ∷ vs) = last_low (x ∷ vs)

  pub top_low : (fs : List (Frame ⊥)) → top_refs (map (low_frame no_name tag) fs) ≡ map R (top_refs fs)
  top_low [] = refl
  top_low (f ∷ []) = last_low f.stack
  top_low (f ∷ g ∷ gs) = top_low (g ∷ gs)

  -- each once, where no two that differ have one name
  once_low : (ds : List Desc) → NoClash tag ds → distinct same_text (map R ds) ≡ map R (distinct (λ a b. true) ds)
  once_low ds h = distinct_low no_name tag (λ a b. true) (λ a b c. absurd a) (λ a. absurd a) ds h

  apart_names : (ds es : List Desc) → distinct (λ a b. true) ds ≡ es → NoClash tag es → NoClash tag ds
  apart_names ds es e h a b i j n =
      h a b (subst (In a) e (in_distinct (λ a b. true) (λ a b c. absurd a) (λ a. absurd a) ds a i))
      (subst (In b) e (in_distinct (λ a b. true) (λ a b c. absurd a) (λ a. absurd a) ds b j)) n

once_again : (ds : List Desc) → distinct (λ a b. true) (distinct (λ a b. true) ds) ≡ distinct (λ a b. true) ds
once_again ds = apart_refs (distinct (λ a b. true) ds) (distinct_apart (λ a b. true) (λ a b c. absurd a) (λ a. absurd a) ds)

-- ---- the last value of the top frame

module _ (x : Val) where
  abbrev EndsIn : List (Frame ⊥) → Type 0
  EndsIn fs = Last (λ f. Last (λ u. u ≡ x) f.stack) fs

  last_of : (vs : List Val) → Last (λ u. u ≡ x) vs → last_refs vs ≡ refs x
  last_of [] h = absurd h
  last_of (u ∷ []) h = ap refs h
  last_of (u ∷ y ∷ vs) h = last_of (y ∷ vs) h

  top_of : (fs : List (Frame ⊥)) → EndsIn fs → top_refs fs ≡ refs x
  top_of [] h = absurd h
  top_of (f ∷ []) h = last_of f.stack h
  top_of (f ∷ g ∷ gs) h = top_of (g ∷ gs) h

  last_behind : (vs ws : List Val) → Last (λ u. u ≡ x) ws → Last (λ u. u ≡ x) (vs ++ ws)
  last_behind [] ws h = h
  last_behind (u ∷ []) [] h = absurd h
  last_behind (u ∷ []) (y ∷ ws) h = h
  last_behind (u ∷ z ∷ vs) ws h = last_behind (z ∷ vs) ws h

  front_ends : (t : Todo) (vs : List Val) (fs : List (Frame ⊥)) → EndsIn fs → EndsIn (in_front t vs fs)
  front_ends t vs [] h = h
  front_ends t vs (f ∷ []) h = last_behind vs f.stack h
  front_ends t vs (f ∷ g ∷ gs) h = h

  over_ends : (f : Frame ⊥) (fs : List (Frame ⊥)) → EndsIn fs → EndsIn (f ∷ fs)
  over_ends f [] h = absurd h
  over_ends f (g ∷ gs) h = h

  more_ends : (o : Option (List ℕ × Pairs)) (f : List ℕ) (t : Todo) (vs : List Val) (same : List (Frame ⊥)) (above : List ℕ → List (Frame ⊥))
      → EndsIn same → ((g : List ℕ) → EndsIn (above g)) → EndsIn (frame_of o f t vs same above)
  more_ends None f t vs same above h g = front_ends t vs same h
  more_ends (Some c) f t vs same above h g = over_ends (record { fun = f; vars = c.1; stack = vs; todo = t ∷ [] }) (above c.0) (g c.0)

module _ (w : World ⊥) (at : ℕ → Option Node) where
  -- the last form opens no call, since there is no body above
  no_call : (r : Row) (c : List ℕ × Pairs) (nothing : Type 0)
      → Above {N = ⊥} w.script at r (Some c) nothing (λ ms. Chained {N = ⊥} w.script at ms []) → ⊥
  no_call (part k ms) c n h = h
  no_call (turn m) c n h = h
  no_call star c n h = h
  no_call outputs c n h = h
  no_call open_call c n h = h.1
  no_call no_step c n h = h

  abbrev Q : Wait ⊥ → Val
  Q q = waiting w (Any w) (Made w) q

  one_ends : (q : Wait ⊥) (en : Entry ⊥) (f : List ℕ) (xs : Pairs) (o : Option (List ℕ × Pairs)) (nothing : Type 0)
      → Above w.script at (row_at w.script at en) o nothing (λ ms. Chained {N = ⊥} w.script at ms []) → kept_of en ≡ Q q ∷ []
      → EndsIn (Q q) (frame_of o f (todo_of en) (kept_of en) (frames_of [] f xs) (λ g. frames_of [] g xs))
  one_ends q en f xs None n h e = subst (λ vs. Last (λ u. u ≡ Q q) (vs ++ [])) (sym e) refl
  one_ends q en f xs (Some c) n h e = absurd (no_call (row_at w.script at en) c n h)

  above_more : (r : Row) (o : Option (List ℕ × Pairs)) (q : Wait ⊥) (e : Entry ⊥) (fr : List (Entry ⊥))
      → Above w.script at r o ((e ∷ fr) ≡ []) (λ ms. Chained w.script at ms (e ∷ fr)) → (ms : List ℕ) × Chained w.script at ms (e ∷ fr)
  above_more (part k ms) None q e fr h = (ms, h)
  above_more (part k ms) (Some c) q e fr h = absurd h
  above_more (turn m) None q e fr h = (m ∷ [], h)
  above_more (turn m) (Some c) q e fr h = absurd h
  above_more star None q e fr h = absurd cc
  above_more star (Some c) q e fr h = absurd h
  above_more outputs None q e fr h = absurd cc
  above_more outputs (Some c) q e fr h = absurd h
  above_more open_call None q e fr h = absurd h
  above_more open_call (Some c) q e fr h = (body_places (body_of c.0 w.script), h.1)
  above_more no_step None q e fr h = absurd h
  above_more no_step (Some c) q e fr h = absurd h

  -- the last value of the top frame is what is waited for
  ends : (q : Wait ⊥) (fr : List (Entry ⊥)) (ps f : List ℕ) (xs : Pairs) → Chained w.script at ps fr → Waits w (Any w) (Made w) q fr
      → EndsIn (Q q) (frames_of fr f xs)
  ends q [] ps f xs c h = absurd h
  ends q (en ∷ []) ps f xs c h = one_ends q en f xs (opens en) _ c.2 h
  ends q (en ∷ e ∷ fr) ps f xs c h =
      let up = above_more (row_at w.script at en) (opens en) q e fr c.2 in
      more_ends (Q q) (opens en) f (todo_of en) (kept_of en) (frames_of (e ∷ fr) f xs) (λ g. frames_of (e ∷ fr) g xs)
      (ends q (e ∷ fr) up.0 f xs up.1 h) (λ g. ends q (e ∷ fr) up.0 g xs up.1 h)

  refs_back : (ds : List Desc) → vals_refs (refs_to ds) ≡ ds
  refs_back [] = refl
  refs_back (d ∷ ds) = ap (λ es. d ∷ es) (refs_back ds)

  waited_are : (q : Wait ⊥) → refs (Q q) ≡ refs_of q
  waited_are (one_of p d) = refl
  waited_are (all_of ds) = refs_back ds

-- ---- states that stand

module _ (tag : Tag) (job : Job) (around : Around) where
  abbrev Named : List Desc → List (v.Desc (List ℕ))
  Named ds = map (R tag) (distinct (λ a b. true) ds)

  top_waits : (n i : ℕ) (f : List ℕ) (c : Pairs) (vs : Vals) (h : Halt ⊥) → halt (see job around n) i (run_of job around f c vs) ≡ Some h
      → top_refs (frames_of h.forms f h.st.vars) ≡ refs_of h.wait
  top_waits n i f c vs h e =
      let w = world_of job.script around in
      let at = λ (k : ℕ). node_at job.script k in
      let ps = body_places (body_of f job.script) in
      let chain : Chained job.script at ps h.forms =
      subst (ChainedHalt w at (see job around n) ps) e
      (chained_halt w at (see job around n) ps (run_of job around f c vs) i
      (linked_call w at (suc others) f c vs nowhere start_st (has_script job.script))) in
      top_of (Q w at h.wait) (frames_of h.forms f h.st.vars)
      (ends w at h.wait h.forms ps f h.st.vars chain (any_halt w (see job around n) others i f c vs nowhere start_st h e).3)
      ∙ waited_are w at h.wait

  call_pending : (n i : ℕ) (f : List ℕ) (c : Pairs) (vs : Vals) (x : Option (Halt ⊥)) (a : State) (ds : List Desc)
      → halt (see job around n) i (run_of job around f c vs) ≡ x → halt_state f (suc i) x ≡ Some a
      → WaitOf job around (Task.of (call f c vs)) (suc i) ds → NoClash tag ds → pending_in same_text (low_state tag a) ≡ Named ds
  call_pending n i f c vs None a ds e g w h = absurd (none_some a g)
  call_pending n i f c vs (Some x) a ds e g w h =
      let waits : refs_of x.wait ≡ ds = wait_one job around (Task.of (call f c vs)) (suc i) (refs_of x.wait) ds (n, ap halt_refs e) w in
      let top : top_refs (frames_of x.forms f x.st.vars) ≡ ds = top_waits n i f c vs x e ∙ waits in
      ap (λ b. pending_in same_text (low_state tag b)) (sym (some_is _ a g))
      ∙ ap (distinct same_text) (top_low tag (frames_of x.forms f x.st.vars) ∙ ap (map (R tag)) top) ∙ once_low tag ds h

  start_pending : (f : List ℕ) (c : Pairs) (vs : Vals) (o : Option Body) (a : State) → start_frame f c vs o ≡ Some a
      → pending_in same_text (low_state tag a) ≡ []
  start_pending f c vs None a e = absurd (none_some a e)
  start_pending f c vs (Some b) a e = ap (λ s. pending_in same_text (low_state tag s)) (sym (some_is _ a e))

  value_pending : (u : Val) (ds : List Desc) → unless_none (distinct_refs u) ≡ Some ds → NoClash tag ds
      → distinct same_text (refs (low no_name tag u)) ≡ Named ds
  value_pending u ds e h = go (distinct_refs u) refl e
    where
      go : (xs : List Desc) → distinct_refs u ≡ xs → unless_none xs ≡ Some ds → distinct same_text (refs (low no_name tag u)) ≡ Named ds
      go [] i g = absurd (none_some ds g)
      go (y ∷ ys) i g =
          let is : distinct_refs u ≡ ds = i ∙ some_is _ ds g in
          ap (distinct same_text) (refs_low no_name tag u) ∙ once_low tag (refs u) (apart_names tag (refs u) ds is h)
          ∙ ap (map (R tag)) (sym (once_again (refs u)) ∙ ap (distinct (λ a b. true)) is)

  show_pending : (m j : ℕ) (b : Bool) (x : Option Val) (a : State) (ds : List Desc) → wave job around m (suc j) ≡ x → only_if b (wave_refs x)
      ≡ Some ds → StandsAt job around Task.show (suc j) a → NoClash tag ds → pending_in same_text (low_state tag a) ≡ Named ds
  show_pending m j false x a ds e g s h = absurd (none_some ds g)
  show_pending m j true None a ds e g s h = absurd (none_some ds g)
  show_pending m j true (Some u) a ds e g s h =
      let is : State.show_at u (suc j) ≡ a = stands_one job around Task.show (suc j) (State.show_at u (suc j)) a (m, ap (wave_state (suc j)) e) s in
      ap (λ b. pending_in same_text (low_state tag b)) (sym is) ∙ value_pending u ds g h

  first_pending : (n : ℕ) (a : State) (ds : List Desc) → wave_state 0 (wave job around n 0) ≡ Some a → Some (main_call ∷ []) ≡ Some ds
      → pending_in same_text (low_state tag a) ≡ Named ds
  unfolding wave
  first_pending n a ds e g =
      ap (λ b. pending_in same_text (low_state tag b)) (sym (some_is _ a e)) ∙ ap Named (some_is _ ds g)

  pending_is : (t : Task) (j : ℕ) (a : State) (ds : List Desc) → StandsAt job around t j a → WaitOf job around t j ds → NoClash tag ds
      → pending_in same_text (low_state tag a) ≡ Named ds
  pending_is Task.show zero a ds s g h = first_pending s.0 a ds s.1 g.1
  pending_is Task.show (suc j) a ds s g h = show_pending g.0 j (nat_le (suc j) 100) (wave job around g.0 (suc j)) a ds refl g.1 s h
  pending_is (Task.of (call f c vs)) zero a ds s g h =
      start_pending f c vs (body_of f job.script) a s.1 ∙ ap Named (some_is _ ds g.1)
  pending_is (Task.of (call f c vs)) (suc i) a ds s g h =
      call_pending s.0 i f c vs (halt (see job around s.0) i (run_of job around f c vs)) a ds refl s.1 g h
  pending_is (Task.of (out x u m k)) j a ds s g h = absurd (none_some a s.1)
  pending_is (Task.of (input k)) j a ds s g h = absurd (none_some a s.1)
  pending_is (Task.of (known b)) j a ds s g h = absurd b

  pub stands_pending : (s : Stand (List ℕ)) (t : Task) (j : ℕ) (ds : List Desc) → Stands job around tag s t j → WaitOf job around t j ds
      → NoClash tag ds → pending_in same_text s ≡ Named ds
  stands_pending s t j ds h w n = ap (pending_in same_text) h.2 ∙ pending_is t j h.0 ds h.1 w n

  -- each description that is waited for stands there by its name

  mapped_in : (d : Desc) (ds : List Desc) → In d ds → In (R tag d) (map (R tag) ds)
  mapped_in d (x ∷ xs) (inl e) = inl (ap (R tag) e)
  mapped_in d (x ∷ xs) (inr i) = inr (mapped_in d xs i)
  mapped_in d [] i = absurd i

  named_in : (xs : List (v.Desc (List ℕ))) (ds : List Desc) (d : Desc) → xs ≡ map (R tag) ds → In d ds → In (R tag d) (distinct same_text xs)
  named_in xs ds d e i =
      in_distinct same_text exact_text self_text xs (R tag d) (subst (In (R tag d)) (sym e) (mapped_in d ds i))

  call_waits : (n i : ℕ) (f : List ℕ) (c : Pairs) (vs : Vals) (x : Option (Halt ⊥)) (a : State) (ds : List Desc) (d : Desc)
      → halt (see job around n) i (run_of job around f c vs) ≡ x → halt_state f (suc i) x ≡ Some a
      → WaitOf job around (Task.of (call f c vs)) (suc i) ds → In d ds → In (R tag d) (pending_in same_text (low_state tag a))
  call_waits n i f c vs None a ds d e g w k = absurd (none_some a g)
  call_waits n i f c vs (Some x) a ds d e g w k =
      let waits : refs_of x.wait ≡ ds = wait_one job around (Task.of (call f c vs)) (suc i) (refs_of x.wait) ds (n, ap halt_refs e) w in
      let top : top_refs (frames_of x.forms f x.st.vars) ≡ ds = top_waits n i f c vs x e ∙ waits in
      subst (λ b. In (R tag d) (pending_in same_text (low_state tag b))) (some_is _ a g)
      (named_in (top_refs (map (low_frame no_name tag) (frames_of x.forms f x.st.vars))) ds d
      (top_low tag (frames_of x.forms f x.st.vars) ∙ ap (map (R tag)) top) k)

  value_waits : (u : Val) (ds : List Desc) (d : Desc) → unless_none (distinct_refs u) ≡ Some ds → In d ds
      → In (R tag d) (distinct same_text (refs (low no_name tag u)))
  value_waits u ds d e i = go (distinct_refs u) refl e
    where
      go : (xs : List Desc) → distinct_refs u ≡ xs → unless_none xs ≡ Some ds → In (R tag d) (distinct same_text (refs (low no_name tag u)))
      go [] q g = absurd (none_some ds g)
      go (y ∷ ys) q g =
          named_in (refs (low no_name tag u)) (refs u) d (refs_low no_name tag u) (distinct_refs_in u d (subst (In d) (sym (q ∙ some_is _ ds g)) i))

  show_waits : (m j : ℕ) (b : Bool) (x : Option Val) (a : State) (ds : List Desc) (d : Desc) → wave job around m (suc j) ≡ x
      → only_if b (wave_refs x) ≡ Some ds → StandsAt job around Task.show (suc j) a → In d ds
      → In (R tag d) (pending_in same_text (low_state tag a))
  show_waits m j false x a ds d e g s i = absurd (none_some ds g)
  show_waits m j true None a ds d e g s i = absurd (none_some ds g)
  show_waits m j true (Some u) a ds d e g s i =
      let is : State.show_at u (suc j) ≡ a = stands_one job around Task.show (suc j) (State.show_at u (suc j)) a (m, ap (wave_state (suc j)) e) s in
      subst (λ b. In (R tag d) (pending_in same_text (low_state tag b))) is (value_waits u ds d g i)

  first_one : (n : ℕ) (a : State) (ds : List Desc) (d : Desc) → wave_state 0 (wave job around n 0) ≡ Some a → Some (main_call ∷ []) ≡ Some ds
      → In d ds → In (R tag d) (pending_in same_text (low_state tag a))
  unfolding wave
  first_one n a ds d e g i =
      subst (λ b. In (R tag d) (pending_in same_text (low_state tag b))) (some_is _ a e)
      (named_in (R tag main_call ∷ []) (main_call ∷ []) d refl (subst (In d) (sym (some_is _ ds g)) i))

  waits_in : (t : Task) (j : ℕ) (a : State) (ds : List Desc) (d : Desc) → StandsAt job around t j a → WaitOf job around t j ds → In d ds
      → In (R tag d) (pending_in same_text (low_state tag a))
  waits_in Task.show zero a ds d s g i = first_one s.0 a ds d s.1 g.1 i
  waits_in Task.show (suc j) a ds d s g i = show_waits g.0 j (nat_le (suc j) 100) (wave job around g.0 (suc j)) a ds d refl g.1 s i
  waits_in (Task.of (call f c vs)) zero a ds d s g i = absurd (subst (In d) (sym (some_is [] ds g.1)) i)
  waits_in (Task.of (call f c vs)) (suc k) a ds d s g i =
      call_waits s.0 k f c vs (halt (see job around s.0) k (run_of job around f c vs)) a ds d refl s.1 g i
  waits_in (Task.of (out x u m k)) j a ds d s g i = absurd (none_some a s.1)
  waits_in (Task.of (input k)) j a ds d s g i = absurd (none_some a s.1)
  waits_in (Task.of (known b)) j a ds d s g i = absurd b

  pub stands_waits : (s : Stand (List ℕ)) (t : Task) (j : ℕ) (ds : List Desc) (d : Desc) → Stands job around tag s t j → WaitOf job around t j ds
      → In d ds → In (R tag d) (pending_in same_text s)
  stands_waits s t j ds d h w i =
      subst (λ x. In (R tag d) (pending_in same_text x)) (sym h.2) (waits_in t j h.0 ds d h.1 w i)

  -- ---- what is held

  refs_held : (a : State) → (es : List Desc) × (all_refs (low_state tag a) ≡ map (R tag) es) × (held a ≡ distinct (λ a b. true) es)
  refs_held (State.run r) = (frames_held r.frames, frames_low tag r.frames, refl)
  refs_held (State.show_at u j) = (refs u, refs_low no_name tag u, refl)

  held_low : (a : State) (ds : List Desc) → held a ≡ ds → NoClash tag ds → held_in same_text (low_state tag a) ≡ map (R tag) ds
  held_low a ds e h =
      let all = refs_held a in
      ap (distinct same_text) all.1 ∙ once_low tag all.0 (apart_names tag all.0 ds (sym all.2 ∙ e) h) ∙ ap (map (R tag)) (sym all.2 ∙ e)

  held_is : (t : Task) (j : ℕ) (a : State) (ds : List Desc) → StandsAt job around t j a → HeldAt job around t j ds → held a ≡ ds
  held_is Task.show j a ds s g = held_one job around Task.show j (held a) ds (s.0, ap (option_map held) s.1) g
  held_is (Task.of (call f c vs)) j a ds s g =
      held_one job around (Task.of (call f c vs)) j (held a) ds (s.0, ap (option_map held) s.1) g
  held_is (Task.of (out x u m k)) j a ds s g = absurd (none_some a s.1)
  held_is (Task.of (input k)) j a ds s g = absurd (none_some a s.1)
  held_is (Task.of (known b)) j a ds s g = absurd b

  pub stands_holds : (s : Stand (List ℕ)) (t : Task) (j : ℕ) (ds : List Desc) → Stands job around tag s t j → HeldAt job around t j ds
      → NoClash tag ds → held_in same_text s ≡ map (R tag) ds
  stands_holds s t j ds h g n = ap (held_in same_text) h.2 ∙ held_low h.0 ds (held_is t j h.0 ds h.1 g) n
