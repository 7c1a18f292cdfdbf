-- What is read from a run of which something is known of every value: how it ends, where it halts, what it does, its frames.
use Rattle.sky_base.specs.Val as v
use Rattle.std.proofs.Common.{◌≡◌, ℕ, zero, suc, ◌+◌, ◌<◌, List, [], ◌∷◌, ◌++◌, length, Option, Some, None, refl, ap, ◌∙◌, arith, ◌⊎◌, inr}
use Rattle.sky_base.specs.Res.{Object, Entry, parens_in, part_at, chain_first, chain_more, logic_at, prefix_part, star_wait, postfix_first, index_at}
use Rattle.sky_base.specs.Res.{arg_at, call_open, exec_wait, set_part, add_part, put_index, put_value, return_part, just_part, arm_test, while_test}
use Rattle.sky_base.specs.Res.{while_body, repeat_body, repeat_test, for_list, for_body, block_at, Res, Fin, Tell, Ask, kept_of, opens}
use Rattle.sky_base.specs.Eval.{World, inside}
use Rattle.sky_base.specs.Read.{Outcome, no_fuel, Act, made, waited, Halt, Todo, Frame, refs_of, joined, see_all, on_seen, acts_seen, halts_seen}
use Rattle.sky_base.specs.Read.{outcome, acts, halt, todo_of, in_front, frame_of, frames_of}
use Rattle.sky_base_law.specs.Tasks.{Each}
use Rattle.sky_base_law.specs.Sound.{IsFun}
use Rattle.sky_base_law.proofs.FormsLaw.{inner}
use Rattle.sky_base_law.proofs.FineLaw.{ObjectOk, EndOk, OpenOk, FormsOk, Waits, Fine}
use Rattle.sky_base_law.proofs.WrittenLaw.{any_made}

module _ {N : Type 0} (w : World N) (P : v.Val N → Type 0) (Q : v.Desc N → Type 0) where
  abbrev pub SeenOk : Option (Object N) → Type 0
  SeenOk None = Unit {0}
  SeenOk (Some o) = ObjectOk w P Q o

  abbrev AllOk : Option (List (Object N)) → Type 0
  AllOk None = Unit {0}
  AllOk (Some os) = Each (ObjectOk w P Q) os

  abbrev pub ActOk : Act N → Type 0
  ActOk (made d) = Q d
  ActOk (waited ds) = Each Q ds

  module _ (V : v.Pairs N → Type 0) where
    abbrev pub OutcomeOk : Outcome N → Type 0
    OutcomeOk (Outcome.ended e st) = EndOk w P Q e × V st.vars
    OutcomeOk no_fuel = Unit {0}

    abbrev pub HaltOk : ℕ → Option (Halt N) → Type 0
    HaltOk d None = Unit {0}
    HaltOk d (Some h) = Each Q (refs_of h.wait) × FormsOk w P Q V d h.forms × V h.st.vars × Waits w P Q h.wait h.forms

    module _ (to : (d : v.Desc N) → P (v.ref d) → Q d) (look : v.Desc N → Option (Object N)) (looks : (d : v.Desc N) → Q d → SeenOk (look d)) where
      asked : (ds : List (v.Desc N)) → Each (λ d. P (v.ref d)) ds → Each Q ds
      asked [] h = tt
      asked (d ∷ ds) h = (to d h.0, asked ds h.1)

      join_ok : (x : Option (Object N)) (y : Option (List (Object N))) → SeenOk x → AllOk y → AllOk (joined x y)
      join_ok None y h i = tt
      join_ok (Some o) None h i = tt
      join_ok (Some o) (Some os) h i = (h, i)

      all_ok : (ds : List (v.Desc N)) → Each Q ds → AllOk (see_all look ds)
      all_ok [] h = tt
      all_ok (d ∷ ds) h = join_ok (look d) (see_all look ds) (looks d h.0) (all_ok ds h.1)

      outcome_on : (x : Option (List (Object N))) (k : List (Object N) → Res N) → AllOk x
          → ((os : List (Object N)) → Each (ObjectOk w P Q) os → OutcomeOk (outcome look (k os)))
          → OutcomeOk (on_seen x (λ os. outcome look (k os)))
      outcome_on None k h g = tt
      outcome_on (Some os) k h g = g os h

      pub outcome_fine : (r : Res N) (d : ℕ) → Fine w P Q V any_made d r → OutcomeOk (outcome look r)
      outcome_fine (Fin e st) d g = g
      outcome_fine (Tell o r) d g = outcome_fine r d (g.1 tt)
      outcome_fine (Ask q fr st k) d g =
          outcome_on (see_all look (refs_of q)) k (all_ok (refs_of q) (asked (refs_of q) g.0.0)) (λ os h. outcome_fine (k os) d (g.1 os h))

      halt_on : (x : Option (List (Object N))) (k : List (Object N) → Res N) (j d : ℕ) → AllOk x
          → ((os : List (Object N)) → Each (ObjectOk w P Q) os → HaltOk d (halt look j (k os)))
          → HaltOk d (halts_seen x (λ os. halt look j (k os)))
      halt_on None k j d h g = tt
      halt_on (Some os) k j d h g = g os h

      pub halt_fine : (j : ℕ) (r : Res N) (d : ℕ) → Fine w P Q V any_made d r → HaltOk d (halt look j r)
      halt_fine j (Fin e st) d g = tt
      halt_fine j (Tell o r) d g = halt_fine j r d (g.1 tt)
      halt_fine zero (Ask q fr st k) d g = (asked (refs_of q) g.0.0, g.0.1, g.0.2, g.0.3)
      halt_fine (suc j) (Ask q fr st k) d g =
          halt_on (see_all look (refs_of q)) k j d (all_ok (refs_of q) (asked (refs_of q) g.0.0)) (λ os h. halt_fine j (k os) d (g.1 os h))

      acts_on : (x : Option (List (Object N))) (k : List (Object N) → Res N) → AllOk x
          → ((os : List (Object N)) → Each (ObjectOk w P Q) os → Each ActOk (acts look (k os)))
          → Each ActOk (acts_seen x (λ os. acts look (k os)))
      acts_on None k h g = tt
      acts_on (Some os) k h g = g os h

      pub acts_fine : (r : Res N) (d : ℕ) → Fine w P Q V any_made d r → Each ActOk (acts look r)
      acts_fine (Fin e st) d g = tt
      acts_fine (Tell o r) d g = (g.0, acts_fine r d (g.1 tt))
      acts_fine (Ask q fr st k) d g = (
        asked (refs_of q) g.0.0,
        acts_on (see_all look (refs_of q)) k (all_ok (refs_of q) (asked (refs_of q) g.0.0))
            (λ os h. acts_fine (k os) d (g.1 os h)),
      )

    -- ---- frames

    abbrev pub FrameOk : Frame N → Type 0
    FrameOk f = V f.vars × Each P f.stack × ((f.fun ≡ []) ⊎ IsFun w.script f.fun)

    both_ok : (xs ys : List (v.Val N)) → Each P xs → Each P ys → Each P (xs ++ ys)
    both_ok [] ys h i = i
    both_ok (x ∷ xs) ys h i = (h.0, both_ok xs ys h.1 i)

    front_ok : (t : Todo) (vs : List (v.Val N)) (fs : List (Frame N)) → Each P vs → Each FrameOk fs → Each FrameOk (in_front t vs fs)
    front_ok t vs [] h i = tt
    front_ok t vs (f ∷ fs) h i = ((i.0.0, both_ok vs f.stack h i.0.1, i.0.2), i.1)

    frame_ok : (d : ℕ) (o : Option (List ℕ × v.Pairs N)) (f : List ℕ) (t : Todo) (vs : List (v.Val N)) (same : List (Frame N))
        (above : List ℕ → List (Frame N)) → OpenOk w P Q V d o → (f ≡ []) ⊎ IsFun w.script f → Each P vs → Each FrameOk same
        → ((g : List ℕ) → IsFun w.script g → Each FrameOk (above g)) → Each FrameOk (frame_of o f t vs same above)
    frame_ok d None f t vs same above o z h i g = front_ok t vs same h i
    frame_ok d (Some c) f t vs same above o z h i g = ((o.2, h, z), g c.0 o.1)

    pub frames_ok : (fr : List (Entry N)) (d : ℕ) (f : List ℕ) (xs : v.Pairs N) → FormsOk w P Q V d fr → (f ≡ []) ⊎ IsFun w.script f → V xs
        → Each FrameOk (frames_of fr f xs)
    frames_ok [] d f xs h z l = ((l, tt, z), tt)
    frames_ok (en ∷ fr) d f xs h z l =
        frame_ok d (opens en) f (todo_of en) (kept_of en) (frames_of fr f xs) (λ g. frames_of fr g xs) h.0.1 z h.0.0
        (frames_ok fr (inside w en d) f xs h.1 z l) (λ g i. frames_ok fr (inside w en d) g xs h.1 (inr i) l)

    inside_closed : (en : Entry N) (d : ℕ) → opens en ≡ None → inside w en d ≡ d
    inside_closed (call_open n k m f xs ss) d is = absurd cc
    inside_closed (parens_in n) d is = refl
    inside_closed (part_at n k m o p vs es) d is = refl
    inside_closed (chain_first n m ls) d is = refl
    inside_closed (chain_more n k m o p v ls) d is = refl
    inside_closed (logic_at n k m j p ls) d is = refl
    inside_closed (prefix_part n ss) d is = refl
    inside_closed (star_wait n k x ss) d is = refl
    inside_closed (postfix_first n m ss) d is = refl
    inside_closed (index_at n k m p v ss) d is = refl
    inside_closed (arg_at n k m p f vs es ss) d is = refl
    inside_closed (exec_wait n ds) d is = refl
    inside_closed (set_part n x) d is = refl
    inside_closed (add_part n x q p) d is = refl
    inside_closed (put_index n m x q p e) d is = refl
    inside_closed (put_value n x q p v) d is = refl
    inside_closed (return_part n) d is = refl
    inside_closed (just_part n) d is = refl
    inside_closed (arm_test n k m i p b arms els) d is = refl
    inside_closed (while_test n m p e b) d is = refl
    inside_closed (while_body n m p e b) d is = refl
    inside_closed (repeat_body n m p b e) d is = refl
    inside_closed (repeat_test n m p b e) d is = refl
    inside_closed (for_list n m p x b) d is = refl
    inside_closed (for_body n m t p x vs b) d is = refl
    inside_closed (block_at n k m b) d is = refl

    inside_opened : (en : Entry N) (d : ℕ) (o : List ℕ × v.Pairs N) → opens en ≡ Some o → 0 < d → suc (inside w en d) ≡ d
    inside_opened (call_open n k m f xs ss) zero opened is lt = absurd (omega arith)
    inside_opened (call_open n k m f xs ss) (suc d) opened is lt = refl
    inside_opened (parens_in n) d opened is lt = absurd cc
    inside_opened (part_at n k m o p vs es) d opened is lt = absurd cc
    inside_opened (chain_first n m ls) d opened is lt = absurd cc
    inside_opened (chain_more n k m o p v ls) d opened is lt = absurd cc
    inside_opened (logic_at n k m j p ls) d opened is lt = absurd cc
    inside_opened (prefix_part n ss) d opened is lt = absurd cc
    inside_opened (star_wait n k x ss) d opened is lt = absurd cc
    inside_opened (postfix_first n m ss) d opened is lt = absurd cc
    inside_opened (index_at n k m p v ss) d opened is lt = absurd cc
    inside_opened (arg_at n k m p f vs es ss) d opened is lt = absurd cc
    inside_opened (exec_wait n ds) d opened is lt = absurd cc
    inside_opened (set_part n x) d opened is lt = absurd cc
    inside_opened (add_part n x q p) d opened is lt = absurd cc
    inside_opened (put_index n m x q p e) d opened is lt = absurd cc
    inside_opened (put_value n x q p v) d opened is lt = absurd cc
    inside_opened (return_part n) d opened is lt = absurd cc
    inside_opened (just_part n) d opened is lt = absurd cc
    inside_opened (arm_test n k m i p b arms els) d opened is lt = absurd cc
    inside_opened (while_test n m p e b) d opened is lt = absurd cc
    inside_opened (while_body n m p e b) d opened is lt = absurd cc
    inside_opened (repeat_body n m p b e) d opened is lt = absurd cc
    inside_opened (repeat_test n m p b e) d opened is lt = absurd cc
    inside_opened (for_list n m p x b) d opened is lt = absurd cc
    inside_opened (for_body n m t p x vs b) d opened is lt = absurd cc
    inside_opened (block_at n k m b) d opened is lt = absurd cc

    front_length : (t : Todo) (vs : List (v.Val N)) (fs : List (Frame N)) → length (in_front t vs fs) ≡ length fs
    front_length t vs [] = refl
    front_length t vs (f ∷ fs) = refl

    -- the frames and the bodies that may still be opened are as many as may be open
    pub frames_left : (fr : List (Entry N)) (d : ℕ) (f : List ℕ) (xs : v.Pairs N) → FormsOk w P Q V d fr
        → length (frames_of fr f xs) + inner w fr d ≡ suc d
    frames_left [] d f xs h = omega arith
    frames_left (en ∷ fr) d f xs h = go (opens en) refl h.0.1 (λ g. frames_left fr (inside w en d) g xs h.1)
      where
        go : (o : Option (List ℕ × v.Pairs N)) → opens en ≡ o → OpenOk w P Q V d o
            → ((g : List ℕ) → length (frames_of fr g xs) + inner w fr (inside w en d) ≡ suc (inside w en d))
            → length (frame_of o f (todo_of en) (kept_of en) (frames_of fr f xs) (λ g. frames_of fr g xs)) + inner w fr (inside w en d) ≡ suc d
        go None e o g =
            ap (λ x. x + inner w fr (inside w en d)) (front_length (todo_of en) (kept_of en) (frames_of fr f xs)) ∙ g f
            ∙ ap suc (inside_closed en d e)
        go (Some c) e o g =
            let q : length (frames_of fr c.0 xs) + inner w fr (inside w en d) ≡ suc (inside w en d) = g c.0 in
            let s : suc (inside w en d) ≡ d = inside_opened en d c e o.0 in
            omega arith
