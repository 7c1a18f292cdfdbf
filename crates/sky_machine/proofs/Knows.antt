-- What a call that goes on refers to was there before, came with an answer, or was made.
use Rattle.std.proofs.Common.{◌≡◌, ◌≤◌, ◌<◌, ℕ, zero, suc, List, [], ◌∷◌, ◌++◌, map, flat_map, length, Option, Some, None, Ok, Err, refl, sym, ap}
use Rattle.std.proofs.Common.{◌∙◌, subst, ◌⊎◌, inl, inr, arith}
use Rattle.sky_base.specs.Val.{Val, Vals, Pairs, Desc, known, list, ref, refs, refs_to, no_vals, no_pairs, pairs_refs}
use Rattle.sky_base.specs.Name.{digested, low}
use Rattle.sky_base.specs.Op.{Answer}
use Rattle.sky_base.specs.Tree.{Place, Script, nowhere}
use Rattle.sky_base.specs.Res.{others, bodies, Object, End, St, Res, Fin, Tell, Ask, Wait, one_of, all_of, object_refs}
use Rattle.sky_base.specs.Eval.{World, Body, body_of, body_at, exec_end, read_end, plug, wait_end}
use Rattle.sky_base.specs.Read.{Frame, Run, Halt, frames_of, run_of_halt, segment, first_end, first_halt, rest_of}
use Rattle.sky_base.specs.See.{start_st}
use Rattle.sky_base.specs.ObjectView.{object_view}
use Rattle.sky_base.specs.declared.object.Object as rust
use Rattle.sky_base_law.specs.Lower.{lower, low_ref}
use Rattle.sky_base_law.specs.NamesLaws.{Tag, no_name}
use Rattle.sky_base_law.specs.Sound.{IsFun}
use Rattle.sky_base_law.specs.Tasks.{In, Each}
use Rattle.sky_base_law.specs.Refers.{Refers, ValsRefer, PairsRefer}
use Rattle.sky_base_law.proofs.FineLaw.{EndOk, FormsOk, Fine, fine_call}
use Rattle.sky_base_law.proofs.FineReads.{FrameOk, frames_ok}
use Rattle.sky_base_law.proofs.Lists.{each_both, none_some}
use Rattle.sky_base_law.proofs.RefsLow.{refs_low}
use Rattle.sky_base_law.proofs.WrittenLaw.{any_lit, any_name, written_any}
use Rattle.sky_state.specs.Chained.{body_places}
use Rattle.sky_state.specs.Fits.{FitsRun, FunsOf}
use Rattle.sky_state.specs.Pending.{stack_refs, frames_refs, all_refs}
use Rattle.sky_state.specs.Stand.{Stand}
use Rattle.sky_state.specs.Start.{StartsIn, StartsCall}
use Rattle.ciel_json.specs.Read.{reads}
use Rattle.ciel_json.proofs.LowLaw.{reads_named}
use Rattle.ciel_json.proofs.ReadLaw.{json_reads_plain}
use Rattle.sky_machine_waits.proofs.FitTaken.{fit_taken}
use Rattle.sky_machine_waits.specs.Sounds.{asked}
use Rattle.sky_machine_waits.proofs.Asked.{forms_asked}
use Rattle.sky_machine_waits.proofs.Begin.{bind_none}
use Rattle.sky_machine_waits.proofs.Back.{Keeps, bottom_fun, forms_back}
use Rattle.sky_machine_waits.proofs.Fines.{FirstEndOk, FirstHaltOk, plug_fine, end_fine, halt_fine}
use Rattle.sky_machine_resume.specs.Comes.{over_names, with_name, object_at, bottom_vars, LeftAt, Comes}
use Rattle.sky_machine_resume.specs.Comes as comes
use Rattle.sky_machine_resume.proofs.Begins.{start_fun, start_vars}
use Rattle.sky_machine_resume.specs.declared.on.Came.{Came}
use Rattle.sky_machine.specs.Knows.{inside_refs, CameWith, Known, LeavesKnown, KnowsNames}
use Rattle.sky_machine.specs.Onward.{ComesOf, MakesOf}
use Rattle.sky_machine.specs.Rest.{IsRest}
use Rattle.sky_machine.specs.Steps.{Spawned, step_of}
use Rattle.sky_machine.proofs.Starts.{is_start, start_calls}
use Rattle.sky_machine.proofs.InnermostWaits.{stack_left}
use Rattle.sky_machine.proofs.Refs.{left, right, refs_each, pairs_each, each_refs, each_vals, each_pairs, Inside, inside_each, P, Q, V, M, read_so}
use Rattle.sky_machine.proofs.Refs.{closed}

-- ---- along a run

module _ (w : World (List ℕ)) (plain : (b : List ℕ) (v : Val (List ℕ)) → w.reads b ≡ Ok v → refs v ≡ []) (D : Desc (List ℕ) → Type 0) where
  abbrev Good : ℕ → Res (List ℕ) → Type 0
  Good d r = Fine w (P w plain D) (Q w plain D) (V w plain D) (M w plain D) d r

  -- what stands inside a description that is made, where what was made before it is known
  made_at : (r : Res (List ℕ)) (d : ℕ) (before after : List (Desc (List ℕ))) (m : Desc (List ℕ)) → Good d r → segment r ≡ before ++ m ∷ after
      → Each (M w plain D) before → Inside D m
  made_at (Fin e st) d [] after m g q h = absurd cc
  made_at (Fin e st) d (b ∷ bs) after m g q h = absurd cc
  made_at (Tell o r) d [] after m g q h = let is : o ≡ m = cc in subst (Inside D) is g.0
  made_at (Tell o r) d (b ∷ bs) after m g q h =
      let is : b ≡ o = cc in
      let rest : segment r ≡ bs ++ m ∷ after = cc in
      made_at r d bs after m (g.1 (subst (M w plain D) is h.0)) rest h.1
  made_at (Ask y fr st k) d [] after m g q h = absurd cc
  made_at (Ask y fr st k) d (b ∷ bs) after m g q h = absurd cc

  -- ---- frames

  stack_each : (vs : List (Val (List ℕ))) → Each (P w plain D) vs → Each D (stack_refs vs)
  stack_each [] h = tt
  stack_each (v ∷ vs) h = each_both D (refs v) (stack_refs vs) (refs_each D v h.0) (stack_each vs h.1)

  each_stack : (vs : List (Val (List ℕ))) → Each D (stack_refs vs) → Each (P w plain D) vs
  each_stack [] h = tt
  each_stack (v ∷ vs) h = (each_refs D v (left D (refs v) (stack_refs vs) h), each_stack vs (right D (refs v) (stack_refs vs) h))

  frames_each : (fs : List (Frame (List ℕ))) → Each (FrameOk w (P w plain D) (Q w plain D) (V w plain D)) fs → Each D (frames_refs fs)
  frames_each [] h = tt
  frames_each (f ∷ fs) h =
      each_both D (pairs_refs f.vars ++ stack_refs f.stack) (frames_refs fs)
      (each_both D (pairs_refs f.vars) (stack_refs f.stack) (pairs_each D f.vars h.0.0) (stack_each f.stack h.0.1)) (frames_each fs h.1)

  each_frames : (fs : List (Frame (List ℕ))) → Each D (frames_refs fs) → Each (Keeps w (P w plain D) (Q w plain D) (V w plain D)) fs
  each_frames [] h = tt
  each_frames (f ∷ fs) h =
      let here = left D (pairs_refs f.vars ++ stack_refs f.stack) (frames_refs fs) h in (
        (
          each_pairs D f.vars (left D (pairs_refs f.vars) (stack_refs f.stack) here),
          each_stack f.stack (right D (pairs_refs f.vars) (stack_refs f.stack) here),
        ),
        each_frames fs (right D (pairs_refs f.vars ++ stack_refs f.stack) (frames_refs fs) h),
      )

  -- ---- ends of waits

  ObjectKnown : Object (List ℕ) → Type 0
  ObjectKnown o = Each D (object_refs o)

  read_ends : (a : Answer (List ℕ)) (b : List ℕ) (p : Place) → w.reads b ≡ a → EndOk w (P w plain D) (Q w plain D) (read_end a p)
  read_ends (Ok v) b p e = read_so w plain D (Ok v) b e
  read_ends (Err k) b p e = tt

  one_ends : (p : Place) (d : Desc (List ℕ)) (os : List (Object (List ℕ))) → Each (λ o. Each D (object_refs o)) os
      → EndOk w (P w plain D) (Q w plain D) (wait_end w (one_of p d) os)
  one_ends p d [] h = tt
  one_ends p d (Object.bytes b ∷ os) h = read_ends (w.reads b) b p refl
  one_ends p d (Object.data_of v ∷ os) h = each_refs D v h.0
  one_ends p d (Object.fault f ∷ os) h = tt

  exec_ends : (ds : List (Desc (List ℕ))) (os : List (Object (List ℕ))) → P w plain D (list (refs_to ds))
      → EndOk w (P w plain D) (Q w plain D) (exec_end ds os)
  exec_ends ds [] h = h
  exec_ends ds (Object.bytes b ∷ os) h = exec_ends ds os h
  exec_ends ds (Object.data_of v ∷ os) h = exec_ends ds os h
  exec_ends ds (Object.fault f ∷ os) h = tt

  wait_ends : (q : Wait (List ℕ)) (os : List (Object (List ℕ))) → P w plain D (asked q) → Each (λ o. Each D (object_refs o)) os
      → EndOk w (P w plain D) (Q w plain D) (wait_end w q os)
  wait_ends (one_of p d) os s h = one_ends p d os h
  wait_ends (all_of ds) os s h = exec_ends ds os s

  -- ---- what is left

  end_each : (e : End (List ℕ)) → EndOk w (P w plain D) (Q w plain D) e → Each D (object_refs (object_at e))
  end_each End.goes h = tt
  end_each (End.got v) h = refs_each D v h
  end_each (End.returned v) h = refs_each D v h
  end_each (End.failed f) h = tt

-- ---- lists

pub from_each : {A : Type 0} (R : A → Type 0) (xs : List A) → ((x : A) → In x xs → R x) → Each R xs
from_each R [] h = tt
from_each R (x ∷ xs) h = (h x (inl refl), from_each R xs (λ y i. h y (inr i)))

pub in_map : {A B : Type 0} (g : A → B) (xs : List A) (x : A) → In x xs → In (g x) (map g xs)
in_map g [] x i = absurd i
in_map g (y ∷ xs) x (inl e) = inl (ap g e)
in_map g (y ∷ xs) x (inr i) = inr (in_map g xs x i)

pub in_first : {A : Type 0} (xs ys : List A) (x : A) → In x xs → In x (xs ++ ys)
in_first [] ys x i = absurd i
in_first (y ∷ xs) ys x (inl e) = inl e
in_first (y ∷ xs) ys x (inr i) = inr (in_first xs ys x i)

pub in_second : {A : Type 0} (xs ys : List A) (x : A) → In x ys → In x (xs ++ ys)
in_second [] ys x i = i
in_second (y ∷ xs) ys x i = inr (in_second xs ys x i)

pub in_flat : {A B : Type 0} (g : A → List B) (xs : List A) (x : A) (y : B) → In x xs → In y (g x) → In y (flat_map g xs)
in_flat g [] x y i j = absurd i
in_flat g (z ∷ xs) x y (inl e) j = in_first (g z) (flat_map g xs) y (subst (λ q. In y (g q)) e j)
in_flat g (z ∷ xs) x y (inr i) j = in_second (g z) (flat_map g xs) y (in_flat g xs x y i j)

-- ---- a call

module _ (digest : List ℕ → List ℕ) (sc : Script) (plain : (b : List ℕ) (v : Val (List ℕ)) → (over_names digest sc).reads b ≡ Ok v → refs v ≡ [])
    (stack : Run (List ℕ)) (os : List (Object (List ℕ))) where
  abbrev W : World (List ℕ)
  W = over_names digest sc

  abbrev K : List (Desc (List ℕ)) → Desc (List ℕ) → Type 0
  K made d = Known digest (CameWith (Stand.run stack) os) made d

  state_known : (made : List (Desc (List ℕ))) → Each (K made) (frames_refs stack.frames)
  state_known made = from_each (K made) (frames_refs stack.frames) (λ d i. inl (inl i))

  objects_known : (made : List (Desc (List ℕ))) → Each (λ o. Each (K made) (object_refs o)) os
  objects_known made =
      from_each (λ o. Each (K made) (object_refs o)) os
      (λ o i. from_each (K made) (object_refs o) (λ d j. inl (inr (in_flat object_refs os o d i j))))

  made_known : (made : List (Desc (List ℕ))) → Each (M W plain (K made)) made
  made_known made =
      from_each (M W plain (K made)) made (λ m i. inr (in_map (λ x. known (digested digest x)) made m i))

  plain_known : (made : List (Desc (List ℕ))) → PairsRefer (K made) no_pairs
  plain_known made = tt

  -- what a run that is good for whatever was made comes to
  module _ (f : List ℕ) (r : Res (List ℕ)) (is_fun : (f ≡ []) ⊎ IsFun sc f)
      (good : (made : List (Desc (List ℕ))) → Good W plain (K made) others r) where
    within : (earlier later : List (Desc (List ℕ))) (m : Desc (List ℕ)) → segment r ≡ earlier ++ m ∷ later → Each (K earlier) (inside_refs m)
    within earlier later m e = inside_each (K earlier) m (made_at W plain (K earlier) r others earlier later m (good earlier) e (made_known earlier))

    ends_known : (e : End (List ℕ) × St (List ℕ)) → first_end r ≡ Some e → Each (K (segment r)) (object_refs (object_at e.0))
    ends_known e is =
        let ms = segment r in
        end_each W plain (K ms) e.0 (subst (FirstEndOk W (P W plain (K ms)) (Q W plain (K ms)) (V W plain (K ms)) (M W plain (K ms))
        (closed W plain (K ms))) is (end_fine W (P W plain (K ms)) (Q W plain (K ms)) (V W plain (K ms)) (M W plain (K ms))
        (closed W plain (K ms)) r others (good ms) (made_known ms)))

    halts_known : (j : ℕ) (h : Halt (List ℕ)) → first_halt r ≡ Some h → Each (K (segment r)) (frames_refs (run_of_halt f j h).frames)
    halts_known j h is =
        let ms = segment r in
        let ok = subst (FirstHaltOk W (P W plain (K ms)) (Q W plain (K ms)) (V W plain (K ms)) (M W plain (K ms)) (closed W plain (K ms)) others)
        is (halt_fine W (P W plain (K ms)) (Q W plain (K ms)) (V W plain (K ms)) (M W plain (K ms)) (closed W plain (K ms)) r others
        (good ms) (made_known ms)) in
        frames_each W plain (K ms) (frames_of h.forms f h.st.vars)
        (frames_ok W (P W plain (K ms)) (Q W plain (K ms)) (V W plain (K ms)) h.forms others f h.st.vars ok.0 is_fun ok.1)

    pub leaves : (came : Came) (j : ℕ) (new : Run (List ℕ)) → Comes f j r came new
        → LeavesKnown digest (CameWith (Stand.run stack) os) (segment r) (step_of came) (Stand.run new)
    leaves (Came.Ended o) j new (e, is, object) = subst (λ x. Each (K (segment r)) (object_refs x)) (sym object) (ends_known e is)
    leaves Came.Waits j new (h, is, same) = subst (λ (x : Run (List ℕ)). Each (K (segment r)) (frames_refs x.frames)) (sym same)
        (halts_known (suc j) h is)

    pub names_known : (came : Came) (j : ℕ) (new : Run (List ℕ)) (before after : Spawned) → Comes f j r came new → after ≡ before
        ++ map (with_name digest) (segment r) → KnowsNames digest (CameWith (Stand.run stack) os) (step_of came) (Stand.run new) before after
    names_known came j new before after comes grew =
        record { made = segment r; grew = grew; within = within; leaves = leaves came j new comes }

  -- from its start
  module _ (f : List ℕ) (xs : Pairs (List ℕ)) (known_vars : (made : List (Desc (List ℕ))) → PairsRefer (K made) xs) where
    pub start_good : (made : List (Desc (List ℕ))) → Good W plain (K made) others (body_at W bodies f xs no_vals nowhere start_st)
    start_good made =
        fine_call W (P W plain (K made)) (Q W plain (K made)) (V W plain (K made)) (M W plain (K made)) any_lit any_name
        (closed W plain (K made)) (written_any sc) others f xs no_vals nowhere start_st tt (known_vars made) tt

  -- from a wait
  module _ (fits : FitsRun sc stack) (f : List ℕ) (h : Halt (List ℕ)) (l : LeftAt sc f h stack) where
    left_forms : (made : List (Desc (List ℕ))) → FormsOk W (P W plain (K made)) (Q W plain (K made)) (V W plain (K made)) others h.forms
        × PairsRefer (K made) h.st.vars
    left_forms made =
        forms_back W (P W plain (K made)) (Q W plain (K made)) (V W plain (K made)) h.forms others f h.st.vars
        (inr (body_places (body_of f sc), l.follow))
        (subst (Each (Keeps W (P W plain (K made)) (Q W plain (K made)) (V W plain (K made)))) (sym l.frames)
        (each_frames W plain (K made) stack.frames (state_known made)))
        (subst (λ (fs : List (Frame (List ℕ))). length fs ≤ bodies) (sym l.frames) fits.few_frames)

    pub left_good : (made : List (Desc (List ℕ))) → Good W plain (K made) others (rest_of W others h os)
    left_good made =
        let back = left_forms made in
        plug_fine W (P W plain (K made)) (Q W plain (K made)) (V W plain (K made)) (M W plain (K made)) (closed W plain (K made)) h.forms others
        (wait_end W h.wait os) h.st back.0 (fit_taken sc h.forms (body_places (body_of f sc)) l.follow l.opened)
        (wait_ends W plain (K made) h.wait os (forms_asked W (P W plain (K made)) (Q W plain (K made)) (V W plain (K made)) h.forms others
        h.wait back.0 l.wait) (objects_known made)) back.1

    pub left_fun : (f ≡ []) ⊎ IsFun sc f
    left_fun =
        bottom_fun W (P W plain (K [])) (Q W plain (K [])) (V W plain (K [])) (λ x. (x ≡ []) ⊎ IsFun sc x) h.forms f h.st.vars
        (λ g gs is. (subst (FunsOf sc) (sym l.frames ∙ is) fits.functions).0)

-- ---- data over names refers to nothing

pub data_plain : (digest : List ℕ → List ℕ) (sc : Script) (b : List ℕ) (v : Val (List ℕ)) → (over_names digest sc).reads b ≡ Ok v → refs v ≡ []
data_plain digest sc b v e = go (reads {N = ⊥} b) refl
  where
    none : Tag
    none d = []

    go : (a : Answer ⊥) → reads {N = ⊥} b ≡ a → refs v ≡ []
    go (Err k) i = absurd (let here : Err k ≡ Ok v = sym (reads_named none b ∙ ap (lower no_name none) i) ∙ e in cc)
    go (Ok a) i =
        let here : Ok (low no_name none a) ≡ Ok v = sym (reads_named none b ∙ ap (lower no_name none) i) ∙ e in
        let is : low no_name none a ≡ v = cc in
        ap refs (sym is) ∙ refs_low no_name none a ∙ ap (map (low_ref no_name none)) (json_reads_plain (λ x y z n. Ok []) b a i)

-- ---- any stack that fits

bottom_known : (digest : List ℕ → List ℕ) (sc : Script) (D : Desc (List ℕ) → Type 0) (fs : List (Frame (List ℕ))) → Each D (frames_refs fs)
    → PairsRefer D (bottom_vars fs)
bottom_known digest sc D [] h = tt
bottom_known digest sc D (f ∷ fs) h =
    (each_frames (over_names digest sc) (data_plain digest sc) D (f ∷ fs) h).0.0

bottom_is : (sc : Script) (fs : List (Frame (List ℕ))) → FunsOf sc fs → (comes.bottom_fun fs ≡ []) ⊎ IsFun sc (comes.bottom_fun fs)
bottom_is sc [] h = inl refl
bottom_is sc (f ∷ fs) h = h.0

vars_are : (o : Option Body) (f : List ℕ) (xs : Pairs (List ℕ)) (r : Run (List ℕ)) → StartsIn o f xs no_vals (Stand.run r) → bottom_vars r.frames ≡ xs
vars_are None f xs r h = absurd h
vars_are (Some b) f xs r h = start_vars b f xs no_vals r h ∙ bind_none b.params xs

pub call_knows : (digest : List ℕ → List ℕ) (sc : Script) (old new : Run (List ℕ)) (answers : List rust.Object) (came : Came)
    (before after : Spawned) → FitsRun sc old → ComesOf digest sc old answers came new → MakesOf digest sc old answers before after
    → KnowsNames digest (CameWith (Stand.run old) (map object_view answers)) (step_of came) (Stand.run new) before after
call_knows digest sc old new answers came before after fits came_to makes = go old.waits refl
  where
    go : (k : ℕ) → old.waits ≡ k → KnowsNames digest (CameWith (Stand.run old) (map object_view answers)) (step_of came) (Stand.run new) before after
    go zero e =
        let s = start_calls sc old (is_start sc old fits e) in
        let r = body_at (over_names digest sc) bodies s.0 s.1 no_vals nowhere start_st in
        let rest : IsRest digest sc old (map object_view answers) s.0 r = inl (record { caught = s.1; args = no_vals; start = s.2; is = refl }) in
        let fun : comes.bottom_fun old.frames ≡ s.0 = start_fun (body_of s.0 sc) s.0 s.1 no_vals old s.2 in
        let vars : bottom_vars old.frames ≡ s.1 = vars_are (body_of s.0 sc) s.0 s.1 old s.2 in
        let plain = data_plain digest sc in
        let known_vars = λ (made : List (Desc (List ℕ))).
        subst (PairsRefer (Known digest (CameWith (Stand.run old) (map object_view answers)) made)) vars
        (bottom_known digest sc (Known digest (CameWith (Stand.run old) (map object_view answers)) made) old.frames
        (state_known digest sc plain old (map object_view answers) made)) in
        names_known digest sc plain old (map object_view answers) s.0 r
        (subst (λ f. (f ≡ []) ⊎ IsFun sc f) fun (bottom_is sc old.frames fits.functions))
        (start_good digest sc plain old (map object_view answers) s.0 s.1 known_vars) came old.waits new before after (came_to s.0 r rest)
        (makes s.0 r rest)
    go (suc k) e =
        let some : 0 < old.waits = omega (arith, e) in
        let l = stack_left sc old fits some in
        let r = rest_of (over_names digest sc) others l.1 (map object_view answers) in
        let rest : IsRest digest sc old (map object_view answers) l.0 r = inr (record { waits = some; halt = l.1; left = l.2; is = refl }) in
        let plain = data_plain digest sc in
        names_known digest sc plain old (map object_view answers) l.0 r (left_fun digest sc plain old (map object_view answers) fits l.0 l.1 l.2)
        (left_good digest sc plain old (map object_view answers) fits l.0 l.1 l.2) came old.waits new before after (came_to l.0 r rest)
        (makes l.0 r rest)
