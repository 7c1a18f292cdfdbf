-- One entry more, and one frame more.
use Rattle.std.proofs.Common.{◌≡◌, ◌≤◌, ◌-◌, ℕ, zero, suc, ◌+◌, List, [], ◌∷◌, ◌++◌, length, take, drop, Option, Some, None, IsSome, IfSome}
use Rattle.std.proofs.Common.{slice_get, refl, sym, ap, ◌∙◌, subst, arith, append-nil, append_assoc}
use Rattle.std.proofs.lemmas.List.{length-drop}
use Rattle.std.specs.Option.{option_map, option_and_then}
use Rattle.sky_base.specs.Val.{Val, Pairs, no_pairs, pair}
use Rattle.sky_base.specs.View.{view}
use Rattle.sky_base.specs.Kept.{Kept}
use Rattle.sky_base.specs.Tree.{Script}
use Rattle.sky_base.specs.Read.{Todo, joined}
use Rattle.sky_base.specs.declared.value.Value.{Value}
use Rattle.sky_base_law.specs.Tasks.{Each}
use Rattle.sky_base_law.specs.Sound.{Sound, SoundVars}
use Rattle.sky_base_scope.specs.RunView.{KeptPairs}
use Rattle.sky_machine_entries.specs.Entries.{Form}
use Rattle.sky_base_law.specs.Opened.{Node, opened}
use Rattle.sky_base_law.specs.Nodes.{node_at}
use Rattle.sky_state.specs.Table.{row, keeps, IsStep}
use Rattle.sky_machine_open.specs.Spots.{call_of}
use Rattle.sky_machine_open.specs.declared.postfix.Caller.{Caller}
use Rattle.sky_machine_restore.proofs.ReadyLaw.{KeptCall}
use Rattle.sky_state.specs.Fits.{row_of, kept_in_all, FitsFrame}
use Rattle.sky_state.specs.StandView.{stack_view, frames_view}
use Rattle.sky_state.specs.declared.frame.Frame as code
use Rattle.sky_state.proofs.StackLaw.{kept_more}
use Rattle.sky_machine_restore.specs.Restoring.{Call, call_last, form_at, own, others, todo_forms, after_these, top_vars}

-- ---- lists of forms, as far as there are some

pub both_some : {A : Type 0} (o : Option A) (r : Option (List A)) → IsSome (joined o r) → IsSome o × IsSome r
both_some None r h = absurd cc
both_some (Some x) None h = absurd cc
both_some (Some x) (Some xs) h = (refl, refl)

pub one_more : (old new : List Form) (o : Option Form) (r : Option (List Form)) → option_map (λ en. old ++ en ∷ []) o ≡ Some new
    → after_these old (joined o r) ≡ after_these new r
one_more old new None r h = absurd cc
one_more old new (Some en) None h = refl
one_more old new (Some en) (Some fr) h =
    let e : old ++ en ∷ [] ≡ new = cc in ap Some (sym (append_assoc old (en ∷ []) fr) ∙ ap (λ xs. xs ++ fr) e)

pub some_behind : (es : List Form) (o all : Option (List Form)) → after_these es o ≡ all → IsSome all → IsSome o
some_behind es None all e h = subst IsSome (sym e) h
some_behind es (Some fr) all e h = refl

pub none_behind : (es : List Form) (all : Option (List Form)) → after_these es (Some []) ≡ all → all ≡ Some es
none_behind es all e = sym e ∙ ap Some (append-nil es)

module _ (sc : Script) where
  -- the forms of a frame are there where those with more behind them are
  pub frame_some : (c : Call (List ℕ)) (ts : List Todo) (vs : List (Val (List ℕ))) (more : Option (List Form))
      → IsSome (todo_forms sc c ts vs more) → IsSome (todo_forms sc c ts vs (Some []))
  frame_some c [] vs more h = refl
  frame_some c (t ∷ ts) vs more h =
      let both = both_some (form_at sc t (own sc t vs) (call_last c ts)) (todo_forms sc c ts (others sc t vs) more) h in
      go (form_at sc t (own sc t vs) (call_last c ts)) both.0 (todo_forms sc c ts (others sc t vs) (Some []))
      (frame_some c ts (others sc t vs) more both.1)
    where
      go : (o : Option Form) → IsSome o → (r : Option (List Form)) → IsSome r → IsSome (joined o r)
      go None h r g = absurd cc
      go (Some x) h None g = absurd cc
      go (Some x) h (Some xs) g = refl

-- ---- what is left of a frame

pub each_drop : {A : Type 0} (P : A → Type 0) (n : ℕ) (xs : List A) → Each P xs → Each P (drop n xs)
each_drop P zero xs h = h
each_drop P (suc n) [] h = tt
each_drop P (suc n) (x ∷ xs) h = each_drop P n xs h.1

pub each_take : {A : Type 0} (P : A → Type 0) (n : ℕ) (xs : List A) → Each P xs → Each P (take n xs)
each_take P zero xs h = tt
each_take P (suc n) [] h = tt
each_take P (suc n) (x ∷ xs) h = (h.0, each_take P n xs h.1)

pub sound_kept : (sc : Script) (vs : List (Val (List ℕ))) → Each (Sound sc) vs → Each (Kept {N = List ℕ}) vs
sound_kept sc [] h = tt
sound_kept sc (v ∷ vs) h = (h.0.0, sound_kept sc vs h.1)

pub vars_kept : (sc : Script) (ps : Pairs (List ℕ)) → SoundVars sc ps → KeptPairs ps
vars_kept sc no_pairs h = tt
vars_kept sc (pair k v ps) h = (h.0.0, vars_kept sc ps h.1)

pub stack_length : (vs : List Value) → length (stack_view vs) ≡ length vs
stack_length [] = refl
stack_length (v ∷ vs) = ap suc (stack_length vs)

pub stack_take : (n : ℕ) (vs : List Value) → stack_view (take n vs) ≡ take n (stack_view vs)
stack_take zero vs = refl
stack_take (suc n) [] = refl
stack_take (suc n) (v ∷ vs) = ap (λ xs. view v ∷ xs) (stack_take n vs)

pub stack_drop : (n : ℕ) (vs : List Value) → stack_view (drop n vs) ≡ drop n (stack_view vs)
stack_drop zero vs = refl
stack_drop (suc n) [] = refl
stack_drop (suc n) (v ∷ vs) = stack_drop n vs

-- the first entry's values are there, and the others are as many as the further entries keep
pub enough : (sc : Script) (t : Todo) (ts : List Todo) (vs us : List Value) → length vs ≡ kept_in_all sc (t ∷ ts) → stack_view us
    ≡ others sc t (stack_view vs) → (keeps (row_of sc t) ≤ length vs) × (length us ≡ kept_in_all sc ts)
enough sc t ts vs us e f =
    let n = keeps (row_of sc t) in
    let more : kept_in_all sc (t ∷ ts) ≡ n + kept_in_all sc ts = kept_more sc t ts in
    let many : length us ≡ length (drop n (stack_view vs)) = sym (stack_length us) ∙ ap length f in
    (omega (arith, e, more), omega (arith, e, more, many, length-drop n (stack_view vs), stack_length vs))

-- ---- the variables of the innermost body

pub top_at : (fs : List code.Frame) (f : code.Frame) → Some f ≡ slice_get fs (length fs - 1) → top_vars (frames_view fs) ≡ Some f.vars
top_at [] f e = absurd cc
top_at (g ∷ []) f e = let h : f ≡ g = cc in ap (λ (x : code.Frame). Some x.vars) (sym h)
top_at (g ∷ h ∷ fs) f e =
    let z : length (g ∷ h ∷ fs) - 1 ≡ suc (length (h ∷ fs) - 1) = omega arith in top_at (h ∷ fs) f (e ∙ ap (λ n. slice_get (g ∷ h ∷ fs) n) z)

pub top_kept : (sc : Script) (fs : List code.Frame) (xs : Pairs (List ℕ)) → Each (FitsFrame sc) (frames_view fs) → top_vars (frames_view fs)
    ≡ Some xs → KeptPairs xs
top_kept sc [] xs h e = absurd cc
top_kept sc (f ∷ []) xs h e = let g : f.vars ≡ xs = cc in subst KeptPairs g (vars_kept sc f.vars h.0.vars)
top_kept sc (f ∷ g ∷ fs) xs h e = top_kept sc (g ∷ fs) xs h.1 e

-- ---- one entry

module _ (sc : Script) (t : Todo) (x : Node) (here : node_at sc t.node ≡ Some x) where
  row_is : row_of sc t ≡ row (Some x) t.node t.step
  row_is = ap (λ o. row o t.node t.step) here

  pub step_is : IsStep (row_of sc t) → IsStep (row (Some x) t.node t.step)
  step_is s = subst IsStep row_is s

  pub count_is : (k : ℕ) → IsStep (row_of sc t) → (IsStep (row (Some x) t.node t.step) → k ≡ keeps (row (Some x) t.node t.step)) → k
      ≡ keeps (row_of sc t)
  count_is k s h = h (step_is s) ∙ ap keeps (sym row_is)

  pub form_is : (vs us : List (Val (List ℕ))) (c : Call (List ℕ)) → us ≡ vs → form_at sc t vs c ≡ opened x t.node t.step us c
  form_is vs us c e = ap (option_and_then (λ n. opened n t.node t.step vs c)) here ∙ ap (λ ws. opened x t.node t.step ws c) (sym e)

pub own_are : (sc : Script) (t : Todo) (k : ℕ) (vs us : List Value) → us ≡ take k vs → k ≡ keeps (row_of sc t) → stack_view us
    ≡ own sc t (stack_view vs)
own_are sc t k vs us e h = ap stack_view e ∙ stack_take k vs ∙ ap (λ n. take n (stack_view vs)) h

pub others_are : (sc : Script) (t : Todo) (k : ℕ) (vs us : List Value) → us ≡ drop k vs → k ≡ keeps (row_of sc t) → stack_view us
    ≡ others sc t (stack_view vs)
others_are sc t k vs us e h = ap stack_view e ∙ stack_drop k vs ∙ ap (λ n. drop n (stack_view vs)) h

pub own_kept : (sc : Script) (t : Todo) (vs us : List (Val (List ℕ))) → us ≡ own sc t vs → Each (Kept {N = List ℕ}) vs → Each (Kept {N = List ℕ}) us
own_kept sc t vs us e h = subst (Each (Kept {N = List ℕ})) (sym e) (each_take (Kept {N = List ℕ}) (keeps (row_of sc t)) vs h)

pub others_kept : (sc : Script) (t : Todo) (vs us : List (Val (List ℕ))) → us ≡ others sc t vs → Each (Kept {N = List ℕ}) vs
    → Each (Kept {N = List ℕ}) us
others_kept sc t vs us e h = subst (Each (Kept {N = List ℕ})) (sym e) (each_drop (Kept {N = List ℕ}) (keeps (row_of sc t)) vs h)

pub caller_kept : (o : Option Caller) → IfSome o (λ c. KeptPairs c.vars.now) → KeptCall (call_of o)
caller_kept None h = tt
caller_kept (Some c) h = h

-- there is a form where it is known to be opened
pub no_form : (o r : Option Form) → o ≡ r → None ≡ r → IsSome o → ⊥
no_form o r e f h = let g : IsSome {T = Form} None = subst IsSome (e ∙ sym f) h in cc

-- ---- the whole stack

pub same_forms : (o : Option (List Form)) (fr gs : List Form) → o ≡ Some fr → o ≡ Some gs → fr ≡ gs
same_forms o fr gs e h = cc

pub same_vars : (o : Option (Pairs (List ℕ))) (xs ys : Pairs (List ℕ)) → o ≡ Some xs → o ≡ Some ys → xs ≡ ys
same_vars o xs ys e h = cc
