-- The values of a stack whose forms follow each other are those that the forms keep.
use Rattle.std.proofs.Common.{◌≡◌, ℕ, zero, suc, ◌<◌, ◌≤◌, List, [], ◌∷◌, ◌++◌, length, Option, Some, None, refl, sym, subst, arith, ◌⊎◌, inl, inr}
use Rattle.sky_base.specs.Val.{Val, Pairs, Desc, no_pairs, pair}
use Rattle.sky_base.specs.Res.{Entry, parens_in, part_at, chain_first, chain_more, logic_at, prefix_part, star_wait, postfix_first, index_at, arg_at}
use Rattle.sky_base.specs.Res.{call_open, exec_wait, set_part, add_part, put_index, put_value, return_part, just_part, arm_test, while_test}
use Rattle.sky_base.specs.Res.{while_body, repeat_body, repeat_test, for_list, for_body, block_at, kept_of, opens}
use Rattle.sky_base.specs.Eval.{World, body_of, inside}
use Rattle.sky_base.specs.Read.{Todo, Frame, todo_of, in_front, frame_of, frames_of}
use Rattle.sky_base_law.specs.Nodes.{node_at}
use Rattle.sky_base_law.specs.Opened.{Node}
use Rattle.sky_base_law.specs.Sound.{IsFun, Sound, SoundDesc, SoundVars}
use Rattle.sky_base_law.specs.Tasks.{Each}
use Rattle.sky_base_law.proofs.FineLaw.{FormsOk, OpenOk, PairsOk}
use Rattle.sky_state.specs.Chained.{Above, Chained, body_places, row_at}
use Rattle.sky_state.specs.Table.{Row, part, turn, star, outputs, open_call, no_step}

-- P is of values, Q of descriptions and V of variables
module _ {N : Type 0} (w : World N) (P : Val N → Type 0) (Q : Desc N → Type 0) (V : Pairs N → Type 0) where
  -- what a frame keeps has them
  abbrev pub Keeps : Frame N → Type 0
  Keeps f = V f.vars × Each P f.stack

  -- ---- how many bodies may be opened inside a form

  inside_same : (en : Entry N) (d : ℕ) → opens en ≡ None → inside w en d ≡ d
  inside_same (call_open n k m f xs ss) d e = absurd cc
  inside_same (parens_in n) left is = refl
  inside_same (part_at n k m o p vs es) left is = refl
  inside_same (chain_first n m ls) left is = refl
  inside_same (chain_more n k m o p v ls) left is = refl
  inside_same (logic_at n k m j p ls) left is = refl
  inside_same (prefix_part n ss) left is = refl
  inside_same (star_wait n k x ss) left is = refl
  inside_same (postfix_first n m ss) left is = refl
  inside_same (index_at n k m p v ss) left is = refl
  inside_same (arg_at n k m p f vs es ss) left is = refl
  inside_same (exec_wait n ds) left is = refl
  inside_same (set_part n x) left is = refl
  inside_same (add_part n x q p) left is = refl
  inside_same (put_index n m x q p e) left is = refl
  inside_same (put_value n x q p v) left is = refl
  inside_same (return_part n) left is = refl
  inside_same (just_part n) left is = refl
  inside_same (arm_test n k m i p b arms els) left is = refl
  inside_same (while_test n m p e b) left is = refl
  inside_same (while_body n m p e b) left is = refl
  inside_same (repeat_body n m p b e) left is = refl
  inside_same (repeat_test n m p b e) left is = refl
  inside_same (for_list n m p x b) left is = refl
  inside_same (for_body n m t p x vs b) left is = refl
  inside_same (block_at n k m b) left is = refl

  inside_less : (en : Entry N) (d : ℕ) (c : List ℕ × Pairs N) → opens en ≡ Some c → 0 < d → suc (inside w en d) ≡ d
  inside_less (call_open n k m f xs ss) zero c e lt = absurd (omega (arith, lt))
  inside_less (call_open n k m f xs ss) (suc d) c e lt = refl
  inside_less (parens_in n) left call is lt = absurd cc
  inside_less (part_at n k m o p vs es) left call is lt = absurd cc
  inside_less (chain_first n m ls) left call is lt = absurd cc
  inside_less (chain_more n k m o p v ls) left call is lt = absurd cc
  inside_less (logic_at n k m j p ls) left call is lt = absurd cc
  inside_less (prefix_part n ss) left call is lt = absurd cc
  inside_less (star_wait n k x ss) left call is lt = absurd cc
  inside_less (postfix_first n m ss) left call is lt = absurd cc
  inside_less (index_at n k m p v ss) left call is lt = absurd cc
  inside_less (arg_at n k m p f vs es ss) left call is lt = absurd cc
  inside_less (exec_wait n ds) left call is lt = absurd cc
  inside_less (set_part n x) left call is lt = absurd cc
  inside_less (add_part n x q p) left call is lt = absurd cc
  inside_less (put_index n m x q p e) left call is lt = absurd cc
  inside_less (put_value n x q p v) left call is lt = absurd cc
  inside_less (return_part n) left call is lt = absurd cc
  inside_less (just_part n) left call is lt = absurd cc
  inside_less (arm_test n k m i p b arms els) left call is lt = absurd cc
  inside_less (while_test n m p e b) left call is lt = absurd cc
  inside_less (while_body n m p e b) left call is lt = absurd cc
  inside_less (repeat_body n m p b e) left call is lt = absurd cc
  inside_less (repeat_test n m p b e) left call is lt = absurd cc
  inside_less (for_list n m p x b) left call is lt = absurd cc
  inside_less (for_body n m t p x vs b) left call is lt = absurd cc
  inside_less (block_at n k m b) left call is lt = absurd cc

  -- ---- frames

  record Begins (f : List ℕ) (fs : List (Frame N)) : Type 0 where
    first : Frame N
    others : List (Frame N)
    are : fs ≡ first ∷ others
    fun : first.fun ≡ f

  front_begins : (t : Todo) (vs : List (Val N)) (f : List ℕ) (fs : List (Frame N)) → Begins f fs → Begins f (in_front t vs fs)
  front_begins t vs f [] b = let none : [] ≡ b.first ∷ b.others = b.are in absurd cc
  front_begins t vs f (g ∷ gs) b =
      let same : g ≡ b.first = (let are : g ∷ gs ≡ b.first ∷ b.others = b.are in cc) in
      record {
        first = record { fun = g.fun; vars = g.vars; stack = vs ++ g.stack; todo = t ∷ g.todo };
        others = gs;
        are = refl;
        fun =
            subst (λ (x : Frame N). x.fun ≡ f) (sym same) b.fun;
      }

  frames_begin : (fr : List (Entry N)) (f : List ℕ) (xs : Pairs N) → Begins f (frames_of fr f xs)
  frames_begin [] f xs = record { first = record { fun = f; vars = xs; stack = []; todo = [] }; others = []; are = refl; fun = refl }
  frames_begin (en ∷ fr) f xs = go (opens en) (frames_begin fr f xs)
    where
      go : (o : Option (List ℕ × Pairs N)) → Begins f (frames_of fr f xs)
          → Begins f (frame_of o f (todo_of en) (kept_of en) (frames_of fr f xs) (λ g. frames_of fr g xs))
      go None b = front_begins (todo_of en) (kept_of en) f (frames_of fr f xs) b
      go (Some c) b = record {
        first = record { fun = f; vars = c.1; stack = kept_of en; todo = todo_of en ∷ [] };
        others = frames_of fr c.0 xs;
        are = refl;
        fun = refl;
      }

  some_frames : (fr : List (Entry N)) (f : List ℕ) (xs : Pairs N) → 1 ≤ length (frames_of fr f xs)
  some_frames fr f xs =
      let b = frames_begin fr f xs in
      let same : length (frames_of fr f xs) ≡ suc (length b.others) = (λ i. length (b.are i)) in
      omega (arith, same)

  -- the function of the bottom frame
  pub bottom_fun : (R : List ℕ → Type 0) (fr : List (Entry N)) (f : List ℕ) (xs : Pairs N)
      → ((g : Frame N) (gs : List (Frame N)) → frames_of fr f xs ≡ g ∷ gs → R g.fun) → R f
  bottom_fun R fr f xs h = let b = frames_begin fr f xs in subst R b.fun (h b.first b.others b.are)

  split : (xs ys : List (Val N)) → Each P (xs ++ ys) → Each P xs × Each P ys
  split [] ys h = (tt, h)
  split (x ∷ xs) ys h = let rest = split xs ys h.1 in ((h.0, rest.0), rest.1)

  off_front : (t : Todo) (vs : List (Val N)) (fs : List (Frame N)) → 1 ≤ length fs → Each Keeps (in_front t vs fs) → Each P vs × Each Keeps fs
  off_front t vs [] some h = absurd (omega (arith, some))
  off_front t vs (f ∷ fs) some h = let values = split vs f.stack h.0.1 in (values.0, ((h.0.0, values.1), h.1))

  front_length : (t : Todo) (vs : List (Val N)) (fs : List (Frame N)) → length (in_front t vs fs) ≡ length fs
  front_length t vs [] = refl
  front_length t vs (f ∷ fs) = refl

  -- ---- forms

  abbrev at : ℕ → Option Node
  at i = node_at w.script i

  abbrev Further : List (Entry N) → Type 0
  Further fr = (fr ≡ []) ⊎ ((ms : List ℕ) × Chained w.script at ms fr)

  above_fun : (r : Row) (c : List ℕ × Pairs N) (X : Type 0) (M : List ℕ → Type 0) → Above w.script at r (Some c) X M → IsFun w.script c.0
  above_fun open_call c X M h = h.0
  above_fun (part k ms) c X M h = absurd h
  above_fun (turn m) c X M h = absurd h
  above_fun star c X M h = absurd h
  above_fun outputs c X M h = absurd h
  above_fun no_step c X M h = absurd h

  above_further : (r : Row) (o : Option (List ℕ × Pairs N)) (fr : List (Entry N))
      → Above w.script at r o (fr ≡ []) (λ ms. Chained w.script at ms fr) → Further fr
  above_further (part k ms) None fr h = inr (ms, h)
  above_further (turn m) None fr h = inr (m ∷ [], h)
  above_further star None fr h = inl h
  above_further outputs None fr h = inl h
  above_further open_call (Some c) fr h = inr (body_places (body_of c.0 w.script), h.1)
  above_further (part k ms) (Some c) fr h = absurd h
  above_further (turn m) (Some c) fr h = absurd h
  above_further star (Some c) fr h = absurd h
  above_further outputs (Some c) fr h = absurd h
  above_further open_call None fr h = absurd h
  above_further no_step None fr h = absurd h
  above_further no_step (Some c) fr h = absurd h

  empty_not : (en : Entry N) (fr : List (Entry N)) → en ∷ fr ≡ [] → ⊥
  empty_not en fr e = cc

  -- of a stack that is no higher than bodies may be open, and whose forms follow each other, P holds of the values: so it does of
  -- those that the forms keep, and V of the variables of the innermost body
  pub forms_back : (fr : List (Entry N)) (d : ℕ) (f : List ℕ) (xs : Pairs N) → Further fr → Each Keeps (frames_of fr f xs)
      → length (frames_of fr f xs) ≤ suc d → FormsOk w P Q V d fr × V xs
  forms_back [] d f xs link h le = (tt, h.0.0)
  forms_back (en ∷ fr) d f xs (inl e) h le = absurd (empty_not en fr e)
  forms_back (en ∷ fr) d f xs (inr (ms, c)) h le =
      go (opens en) refl c.2 h le (λ k l. forms_back fr d f xs (above_further (row_at w.script at en) (opens en) fr c.2) k l)
      (λ g k l. forms_back fr (inside w en d) g xs (above_further (row_at w.script at en) (opens en) fr c.2) k l)
    where
      go : (o : Option (List ℕ × Pairs N)) → opens en ≡ o
          → Above w.script at (row_at w.script at en) o (fr ≡ []) (λ ms. Chained w.script at ms fr)
          → Each Keeps (frame_of o f (todo_of en) (kept_of en) (frames_of fr f xs) (λ g. frames_of fr g xs))
          → length (frame_of o f (todo_of en) (kept_of en) (frames_of fr f xs) (λ g. frames_of fr g xs)) ≤ suc d
          → (Each Keeps (frames_of fr f xs) → length (frames_of fr f xs) ≤ suc d → FormsOk w P Q V d fr × V xs)
          → ((g : List ℕ) → Each Keeps (frames_of fr g xs) → length (frames_of fr g xs) ≤ suc (inside w en d)
          → FormsOk w P Q V (inside w en d) fr × V xs) → FormsOk w P Q V d (en ∷ fr) × V xs
      go None e a k l same above =
          let off = off_front (todo_of en) (kept_of en) (frames_of fr f xs) (some_frames fr f xs) k in
          let more = same off.1 (omega (arith, front_length (todo_of en) (kept_of en) (frames_of fr f xs), l)) in
          (((off.0, subst (λ o. OpenOk w P Q V d o) (sym e) tt), subst (λ i. FormsOk w P Q V i fr) (sym (inside_same en d e)) more.0), more.1)
      go (Some o) e a k l same above =
          let some : 1 ≤ length (frames_of fr o.0 xs) = some_frames fr o.0 xs in
          let room : 0 < d = omega (arith, l, some) in
          let less : suc (inside w en d) ≡ d = inside_less en d o e room in
          let more = above o.0 k.1 (omega (arith, l, less)) in (
            (
              (
                k.0.1,
                subst (λ x. OpenOk w P Q V d x) (sym e)
                    (room, above_fun (row_at w.script at en) o (fr ≡ []) (λ ms. Chained w.script at ms fr) a, k.0.0),
              ),
              more.0,
            ),
            more.1,
          )
