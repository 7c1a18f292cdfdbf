-- What a task waits for is among what it holds.
use Rattle.std.proofs.Common.{◌≡◌, ℕ, zero, suc, List, [], ◌∷◌, ◌++◌, Option, Some, None, Bool, true, false, nat_le, inl, inr, refl, sym, ◌∙◌, subst}
use Rattle.std.specs.Option.{option_map}
use Rattle.sky_base.specs.Val.{Pairs, call, out, input, known, refs, vals_refs, pairs_refs, refs_to}
use Rattle.sky_base.specs.Tree.{nowhere}
use Rattle.sky_base.specs.Res.{others, Entry, Wait, one_of, all_of, kept_of, opens}
use Rattle.sky_base.specs.Eval.{World}
use Rattle.sky_base.specs.Read.{Halt, Todo, Frame, refs_of, halt, todo_of, in_front, frame_of, frames_of, run_of_halt}
use Rattle.sky_base.specs.See.{Val, Vals, Desc, Job, Around, see, world_of, start_st, run_of, wave, main_call}
use Rattle.sky_base.specs.Needed.{Task, distinct_refs, unless_none, wave_refs, only_if, halt_refs, halt_state, wave_state, wait_at}
use Rattle.sky_base_law.specs.Tasks.{In, vals_held, frames_held, held, held_at}
use Rattle.sky_base_law.proofs.FineLaw.{waiting, Waits}
use Rattle.sky_base_law.proofs.BoundLaw.{Any, Made, any_halt}
use Rattle.sky_base_law.proofs.TaskOutputs.{in_distinct}
use Rattle.sky_base_law.proofs.Lists.{some_is, none_some}

module _ (d : Desc) where
  in_left : (xs ys : List Desc) → In d xs → In d (xs ++ ys)
  in_left [] ys h = absurd h
  in_left (x ∷ xs) ys (inl e) = inl e
  in_left (x ∷ xs) ys (inr h) = inr (in_left xs ys h)

  in_right : (xs ys : List Desc) → In d ys → In d (xs ++ ys)
  in_right [] ys h = h
  in_right (x ∷ xs) ys h = inr (in_right xs ys h)

  in_either : {P : Type 0} (xs ys : List Desc) → In d (xs ++ ys) → (In d xs → P) → (In d ys → P) → P
  in_either [] ys h f g = g h
  in_either (x ∷ xs) ys (inl e) f g = f (inl e)
  in_either (x ∷ xs) ys (inr h) f g = in_either xs ys h (λ i. f (inr i)) g

  held_left : (vs ws : List Val) → In d (vals_held vs) → In d (vals_held (vs ++ ws))
  held_left [] ws h = absurd h
  held_left (u ∷ vs) ws h =
      in_either (refs u) (vals_held vs) h (λ i. in_left (refs u) (vals_held (vs ++ ws)) i)
      (λ i. in_right (refs u) (vals_held (vs ++ ws)) (held_left vs ws i))

  held_right : (vs ws : List Val) → In d (vals_held ws) → In d (vals_held (vs ++ ws))
  held_right [] ws h = h
  held_right (u ∷ vs) ws h = in_right (refs u) (vals_held (vs ++ ws)) (held_right vs ws h)

  front_held : (t : Todo) (vs : List Val) (fs : List (Frame ⊥)) → In d (frames_held fs) → In d (frames_held (in_front t vs fs))
  front_held t vs [] h = h
  front_held t vs (f ∷ fs) h =
      in_either (pairs_refs f.vars) (vals_held f.stack ++ frames_held fs) h (λ i. in_left (pairs_refs f.vars) _ i)
      (λ i. in_right (pairs_refs f.vars) (vals_held (vs ++ f.stack) ++ frames_held fs)
      (in_either (vals_held f.stack) (frames_held fs) i (λ j. in_left (vals_held (vs ++ f.stack)) (frames_held fs) (held_right vs f.stack j))
      (λ j. in_right (vals_held (vs ++ f.stack)) (frames_held fs) j)))

  -- a frame more
  frame_held : (o : Option (List ℕ × Pairs ⊥)) (f : List ℕ) (t : Todo) (vs : List Val) (same : List (Frame ⊥)) (above : List ℕ → List (Frame ⊥))
      → In d (frames_held same) → ((g : List ℕ) → In d (frames_held (above g))) → In d (frames_held (frame_of o f t vs same above))
  frame_held None f t vs same above h g = front_held t vs same h
  frame_held (Some c) f t vs same above h g = in_right (pairs_refs c.1) _ (in_right (vals_held vs) _ (g c.0))

  -- the values that the innermost form keeps
  top_held : (o : Option (List ℕ × Pairs ⊥)) (f : List ℕ) (t : Todo) (vs : List Val) (xs : Pairs ⊥) → In d (vals_held vs)
      → In d (frames_held (frame_of o f t vs (frames_of [] f xs) (λ g. frames_of [] g xs)))
  top_held None f t vs xs h = in_right (pairs_refs xs) _ (in_left (vals_held (vs ++ [])) [] (held_left vs [] h))
  top_held (Some c) f t vs xs h = in_right (pairs_refs c.1) _ (in_left (vals_held vs) _ h)

  module _ (w : World ⊥) where
    wait_held : (q : Wait ⊥) (fr : List (Entry ⊥)) (f : List ℕ) (xs : Pairs ⊥) → Waits w (Any w) (Made w) q fr
        → In d (refs (waiting w (Any w) (Made w) q)) → In d (frames_held (frames_of fr f xs))
    wait_held q [] f xs h i = absurd h
    wait_held q (en ∷ []) f xs h i =
        top_held (opens en) f (todo_of en) (kept_of en) xs
        (subst (λ vs. In d (vals_held vs)) (sym h) (in_left (refs (waiting w (Any w) (Made w) q)) [] i))
    wait_held q (en ∷ e ∷ fr) f xs h i =
        frame_held (opens en) f (todo_of en) (kept_of en) (frames_of (e ∷ fr) f xs) (λ g. frames_of (e ∷ fr) g xs)
        (wait_held q (e ∷ fr) f xs h i) (λ g. wait_held q (e ∷ fr) g xs h i)

  refs_back : (ds : List Desc) → In d ds → In d (vals_refs (refs_to ds))
  refs_back [] h = h
  refs_back (x ∷ ds) (inl e) = inl e
  refs_back (x ∷ ds) (inr h) = inr (refs_back ds h)

  in_waiting : (w : World ⊥) (q : Wait ⊥) → In d (refs_of q) → In d (refs (waiting w (Any w) (Made w) q))
  in_waiting w (one_of p x) h = h
  in_waiting w (all_of ds) h = refs_back ds h

  module _ (job : Job) (around : Around) where
    halt_held : (n j : ℕ) (f : List ℕ) (c : Pairs ⊥) (vs : Vals) (x : Option (Halt ⊥)) (ds hs : List Desc)
        → halt (see job around n) j (run_of job around f c vs) ≡ x → halt_refs x ≡ Some ds → option_map held (halt_state f (suc j) x) ≡ Some hs
        → In d ds → In d hs
    halt_held n j f c vs None ds hs at e g i = absurd (none_some ds e)
    halt_held n j f c vs (Some h) ds hs at e g i =
        let asked : In d (refs_of h.wait) = subst (In d) (sym (some_is _ ds e)) i in
        subst (In d) (some_is _ hs g) (in_distinct (λ a b. true) (λ a b c. absurd a) (λ a. absurd a)
        (frames_held (run_of_halt f (suc j) h).frames) d
        (wait_held (world_of job.script around) h.wait h.forms f h.st.vars
        (any_halt (world_of job.script around) (see job around n) others j f c vs nowhere start_st h at).3
        (in_waiting (world_of job.script around) h.wait asked)))

    unless_held : (es ds : List Desc) → unless_none es ≡ Some ds → In d ds → In d es
    unless_held [] ds e i = absurd (none_some ds e)
    unless_held (x ∷ es) ds e i = subst (In d) (sym (some_is _ ds e)) i

    wave_held : (j : ℕ) (b : Bool) (x : Option Val) (ds hs : List Desc) → only_if b (wave_refs x) ≡ Some ds → option_map held (wave_state j x)
        ≡ Some hs → In d ds → In d hs
    wave_held j false x ds hs e g i = absurd (none_some ds e)
    wave_held j true None ds hs e g i = absurd (none_some ds e)
    wave_held j true (Some a) ds hs e g i = subst (In d) (some_is _ hs g) (unless_held (distinct_refs a) ds e i)

    main_held : (n : ℕ) (hs : List Desc) → option_map held (wave_state 0 (wave job around n 0)) ≡ Some hs → In d (main_call ∷ []) → In d hs
    unfolding wave
    main_held n hs g i = subst (In d) (some_is _ hs g) i

    -- where a task comes to a wait, it holds what it waits for
    pub waits_held : (n : ℕ) (t : Task) (j : ℕ) (ds hs : List Desc) → wait_at job around n t j ≡ Some ds → held_at job around n t j ≡ Some hs
        → In d ds → In d hs
    waits_held n Task.show zero ds hs e g i = main_held n hs g (subst (In d) (sym (some_is _ ds e)) i)
    waits_held n Task.show (suc j) ds hs e g i = wave_held (suc j) (nat_le (suc j) 100) (wave job around n (suc j)) ds hs e g i
    waits_held n (Task.of (call f c vs)) zero ds hs e g i = absurd (subst (In d) (sym (some_is _ ds e)) i)
    waits_held n (Task.of (call f c vs)) (suc j) ds hs e g i =
        halt_held n j f c vs (halt (see job around n) j (run_of job around f c vs)) ds hs refl e g i
    waits_held n (Task.of (out x a m k)) zero ds hs e g i = subst (In d) (some_is _ hs (sym e ∙ g)) i
    waits_held n (Task.of (out x a m k)) (suc j) ds hs e g i = absurd (none_some ds e)
    waits_held n (Task.of (input k)) j ds hs e g i = absurd (none_some ds e)
    waits_held n (Task.of (known b)) j ds hs e g i = absurd b
