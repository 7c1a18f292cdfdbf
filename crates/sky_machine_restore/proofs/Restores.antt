-- The forms of the frames of forms under way are these forms again.
use Rattle.std.proofs.Common.{append-nil, ◌≡◌, ℕ, suc, List, [], ◌∷◌, ◌++◌, length, take, drop, Option, Some, None, refl, sym, ap, ◌∙◌, subst}
use Rattle.std.proofs.Math.Seq.{drop-append_seam}
use Rattle.std.specs.Option.{option_and_then}
use Rattle.sky_base.specs.Val.{Val, Pairs}
use Rattle.sky_base.specs.Tree.{Script}
use Rattle.sky_base.specs.Res.{Entry, parens_in, part_at, chain_first, chain_more, logic_at, prefix_part, star_wait, postfix_first, index_at, arg_at}
use Rattle.sky_base.specs.Res.{call_open, exec_wait, set_part, add_part, put_index, put_value, return_part, just_part, arm_test, while_test}
use Rattle.sky_base.specs.Res.{while_body, repeat_body, repeat_test, for_list, for_body, block_at, node_of, step_of, kept_of, opens}
use Rattle.sky_base.specs.Eval.{body_of}
use Rattle.sky_base.specs.Read.{Todo, Frame, joined, todo_of, in_front, frame_of, frames_of}
use Rattle.sky_base_law.specs.Opened.{Node, opened, Opened}
use Rattle.sky_base_law.specs.Nodes.{node_at}
use Rattle.sky_base_law.specs.Tasks.{Each}
use Rattle.sky_state.specs.Table.{Row, part, turn, star, outputs, open_call, no_step, keeps}
use Rattle.sky_state.specs.Fits.{row_of}
use Rattle.sky_state.specs.Chained.{body_places, row_at, Above, Chained, AllOpened, Formed}
use Rattle.sky_machine_entries.specs.Config as config
use Rattle.sky_machine_restore.specs.Restoring.{Call, call_above, call_last, form_at, own, others, todo_forms, frames_forms, top_vars}

take_seam : {A : Type 0} (xs ys : List A) → take (length xs) (xs ++ ys) ≡ xs
take_seam [] ys = refl
take_seam (x ∷ xs) ys = ap (λ zs. x ∷ zs) (take_seam xs ys)

-- the node of each number of a script
abbrev At : Script → ℕ → Option Node
At sc i = node_at sc i

front_length : {N : Type 0} (t : Todo) (vs : List (Val N)) (fs : List (Frame N)) → length (in_front t vs fs) ≡ length fs
front_length t vs [] = refl
front_length t vs (f ∷ fs) = refl

module _ {N : Type 0} (sc : Script) where
  -- each form keeps as many values as the table says
  abbrev AllKeep : List (Entry N) → Type 0
  AllKeep fr = Each (λ en. length (kept_of en) ≡ keeps (row_at sc (At sc) en)) fr

  above_keep : (r : Row) (o : Call N) (fr : List (Entry N)) → Above {N = N} sc (At sc) r o (fr ≡ []) (λ ms. Chained sc (At sc) ms fr)
      → ((ms : List ℕ) → Chained sc (At sc) ms fr → AllKeep fr) → AllKeep fr
  above_keep (part k ms) None fr h again = again ms h
  above_keep (part k ms) (Some c) fr h again = absurd h
  above_keep (turn m) None fr h again = again (m ∷ []) h
  above_keep (turn m) (Some c) fr h again = absurd h
  above_keep star None fr h again = subst AllKeep (sym h) tt
  above_keep star (Some c) fr h again = absurd h
  above_keep outputs None fr h again = subst AllKeep (sym h) tt
  above_keep outputs (Some c) fr h again = absurd h
  above_keep open_call None fr h again = absurd h
  above_keep open_call (Some c) fr h again = again (body_places (body_of c.0 sc)) h.1
  above_keep no_step None fr h again = absurd h
  above_keep no_step (Some c) fr h again = absurd h

  keep_all : (ps : List ℕ) (fr : List (Entry N)) → Chained sc (At sc) ps fr → AllKeep fr
  keep_all ps [] h = absurd h
  keep_all ps (en ∷ fr) h = (h.1.as_many, above_keep (row_at sc (At sc) en) (opens en) fr h.2 (λ ms c. keep_all ms fr c))

  -- ---- what stands above an entry

  front_call : (ys : Pairs N) (t : Todo) (vs : List (Val N)) (fs : List (Frame N)) → call_above ys (in_front t vs fs) ≡ call_above ys fs
  front_call ys t vs [] = refl
  front_call ys t vs (f ∷ fs) = refl

  -- the body above is that of this function
  above_is : (fr : List (Entry N)) (f : List ℕ) (xs ys : Pairs N) → call_above ys (frames_of fr f xs) ≡ Some (f, ys)
  above_is [] f xs ys = refl
  above_is (en ∷ fr) f xs ys = go (opens en) (above_is fr f xs ys)
    where
      go : (c : Call N) → call_above ys (frames_of fr f xs) ≡ Some (f, ys)
          → call_above ys (frame_of c f (todo_of en) (kept_of en) (frames_of fr f xs) (λ g. frames_of fr g xs)) ≡ Some (f, ys)
      go None h = front_call ys (todo_of en) (kept_of en) (frames_of fr f xs) ∙ h
      go (Some c) h = refl

  -- the last entry of the bottom frame opens nothing, or it is not the last one
  abbrev Closed : List (Frame N) → Type 0
  Closed [] = ⊥
  Closed (g ∷ gs) = call_last (call_above g.vars gs) g.todo ≡ None

  front_closed : (t : Todo) (vs : List (Val N)) (fs : List (Frame N)) → Closed fs → Closed (in_front t vs fs)
  front_closed t vs [] h = absurd h
  front_closed t vs (g ∷ gs) h = refl

  closed : (fr : List (Entry N)) (f : List ℕ) (xs : Pairs N) → Closed (frames_of fr f xs)
  closed [] f xs = refl
  closed (en ∷ fr) f xs = go (opens en) (closed fr f xs)
    where
      go : (c : Call N) → Closed (frames_of fr f xs) → Closed (frame_of c f (todo_of en) (kept_of en) (frames_of fr f xs) (λ g. frames_of fr g xs))
      go None h = front_closed (todo_of en) (kept_of en) (frames_of fr f xs) h
      go (Some c) h = refl

  -- ---- each entry opens to its form

  own_is : (t : Todo) (vs ws : List (Val N)) → length vs ≡ keeps (row_of sc t) → own sc t (vs ++ ws) ≡ vs
  own_is t vs ws k = ap (λ n. take n (vs ++ ws)) (sym k) ∙ take_seam vs ws

  others_are : (t : Todo) (vs ws : List (Val N)) → length vs ≡ keeps (row_of sc t) → others sc t (vs ++ ws) ≡ ws
  others_are t vs ws k = ap (λ n. drop n (vs ++ ws)) (sym k) ∙ drop-append_seam vs ws

  form_is : (en : Entry N) → Opened (At sc) en → form_at sc (todo_of en) (kept_of en) (opens en) ≡ Some en
  form_is en o = ap (option_and_then (λ n. opened n (node_of en) (step_of en) (kept_of en) (opens en))) o.1 ∙ o.2

  -- a form in front of the others of its frame
  front_formed : (en : Entry N) (fr : List (Entry N)) (fs : List (Frame N)) → opens en ≡ None → Opened (At sc) en → length (kept_of en)
      ≡ keeps (row_at sc (At sc) en) → Closed fs → frames_forms sc fs ≡ Some fr → frames_forms sc (in_front (todo_of en) (kept_of en) fs)
      ≡ Some (en ∷ fr)
  front_formed en fr [] e o k c h = absurd c
  front_formed en fr (g ∷ gs) e o k c h =
      let t = todo_of en in
      let vs = kept_of en in
      let up = call_above g.vars gs in
      let one : form_at sc t (own sc t (vs ++ g.stack)) (call_last up g.todo) ≡ Some en =
      ap (λ ws. form_at sc t ws (call_last up g.todo)) (own_is t vs g.stack k) ∙ ap (form_at sc t vs) (c ∙ sym e) ∙ form_is en o in
      ap (λ x. joined x (todo_forms sc up g.todo (others sc t (vs ++ g.stack)) (frames_forms sc gs))) one
      ∙ ap (λ ws. joined (Some en) (todo_forms sc up g.todo ws (frames_forms sc gs))) (others_are t vs g.stack k) ∙ ap (joined (Some en)) h

  -- a call, under the frames of its body
  call_formed : (en : Entry N) (f : List ℕ) (c : List ℕ × Pairs N) (fr : List (Entry N)) (fs : List (Frame N)) → opens en ≡ Some c
      → Opened (At sc) en → length (kept_of en) ≡ keeps (row_at sc (At sc) en) → call_above c.1 fs ≡ Some c → frames_forms sc fs ≡ Some fr
      → frames_forms sc (record { fun = f; vars = c.1; stack = kept_of en; todo = todo_of en ∷ [] } ∷ fs) ≡ Some (en ∷ fr)
  call_formed en f c fr fs e o k up h =
      let t = todo_of en in
      let vs = kept_of en in
      let all : own sc t vs ≡ vs = ap (own sc t) (sym (append-nil vs)) ∙ own_is t vs [] k in
      let one : form_at sc t (own sc t vs) (call_above c.1 fs) ≡ Some en = ap (λ ws. form_at sc t ws (call_above c.1 fs)) all
      ∙ ap (form_at sc t vs) (up ∙ sym e) ∙ form_is en o in
      ap (λ x. joined x (frames_forms sc fs)) one ∙ ap (joined (Some en)) h

  restored : (fr : List (Entry N)) (f : List ℕ) (xs : Pairs N) → AllOpened (At sc) fr → AllKeep fr → frames_forms sc (frames_of fr f xs) ≡ Some fr
  restored [] f xs o k = refl
  restored (en ∷ fr) f xs o k = go (opens en) refl (λ g. restored fr g xs o.1 k.1)
    where
      go : (c : Call N) → opens en ≡ c → ((g : List ℕ) → frames_forms sc (frames_of fr g xs) ≡ Some fr)
          → frames_forms sc (frame_of c f (todo_of en) (kept_of en) (frames_of fr f xs) (λ g. frames_of fr g xs)) ≡ Some (en ∷ fr)
      go None e again = front_formed en fr (frames_of fr f xs) e o.0 k.0 (closed fr f xs) (again f)
      go (Some c) e again = call_formed en f c fr (frames_of fr c.0 xs) e o.0 k.0 (above_is fr c.0 xs c.1) (again c.0)

  -- the forms of a stack are those that it is formed of
  pub formed_forms : (ps f : List ℕ) (xs : Pairs N) (fs : List (Frame N)) (g : Formed sc ps f xs fs) → frames_forms sc fs ≡ Some g.forms
  formed_forms ps f xs fs g = ap (frames_forms sc) (sym g.frames) ∙ restored g.forms f xs g.all_opened (keep_all ps g.forms g.chained)

  -- ---- the variables of the innermost body

  front_vars : (t : Todo) (vs : List (Val N)) (fs : List (Frame N)) → top_vars (in_front t vs fs) ≡ top_vars fs
  front_vars t vs [] = refl
  front_vars t vs (f ∷ []) = refl
  front_vars t vs (f ∷ g ∷ gs) = refl

  more_vars : (f : Frame N) (fs : List (Frame N)) (xs : Pairs N) → top_vars fs ≡ Some xs → top_vars (f ∷ fs) ≡ Some xs
  more_vars f [] xs h = absurd cc
  more_vars f (g ∷ gs) xs h = h

  top_is : (fr : List (Entry N)) (f : List ℕ) (xs : Pairs N) → top_vars (frames_of fr f xs) ≡ Some xs
  top_is [] f xs = refl
  top_is (en ∷ fr) f xs = go (opens en) (λ g. top_is fr g xs)
    where
      go : (c : Call N) → ((g : List ℕ) → top_vars (frames_of fr g xs) ≡ Some xs)
          → top_vars (frame_of c f (todo_of en) (kept_of en) (frames_of fr f xs) (λ g. frames_of fr g xs)) ≡ Some xs
      go None again = front_vars (todo_of en) (kept_of en) (frames_of fr f xs) ∙ again f
      go (Some c) again = more_vars (record { fun = f; vars = c.1; stack = kept_of en; todo = todo_of en ∷ [] }) (frames_of fr c.0 xs) xs (again c.0)

  pub formed_vars : (ps f : List ℕ) (xs : Pairs N) (fs : List (Frame N)) → Formed sc ps f xs fs → top_vars fs ≡ Some xs
  formed_vars ps f xs fs g = ap top_vars (sym g.frames) ∙ top_is g.forms f xs

-- ---- how many bodies are open

-- an open call is one body more
abbrev more_open : Call (List ℕ) → ℕ → ℕ
more_open None n = n
more_open (Some c) n = suc n

open_one : (en : Entry (List ℕ)) (fr : List (Entry (List ℕ))) → config.opened (en ∷ fr) ≡ more_open (opens en) (config.opened fr)
open_one (parens_in n) fr = refl
open_one (part_at n k m o p vs es) fr = refl
open_one (chain_first n m ls) fr = refl
open_one (chain_more n k m o p v ls) fr = refl
open_one (logic_at n k m j p ls) fr = refl
open_one (prefix_part n ss) fr = refl
open_one (star_wait n k d ss) fr = refl
open_one (postfix_first n m ss) fr = refl
open_one (index_at n k m p v ss) fr = refl
open_one (arg_at n k m p f vs es ss) fr = refl
open_one (call_open n k m f xs ss) fr = refl
open_one (exec_wait n ds) fr = refl
open_one (set_part n x) fr = refl
open_one (add_part n x q p) fr = refl
open_one (put_index n m x q p e) fr = refl
open_one (put_value n x q p v) fr = refl
open_one (return_part n) fr = refl
open_one (just_part n) fr = refl
open_one (arm_test n k m i p b arms els) fr = refl
open_one (while_test n m p e b) fr = refl
open_one (while_body n m p e b) fr = refl
open_one (repeat_body n m p b e) fr = refl
open_one (repeat_test n m p b e) fr = refl
open_one (for_list n m p x b) fr = refl
open_one (for_body n m t p x vs b) fr = refl
open_one (block_at n k m b) fr = refl

frames_many : (fr : List (Entry (List ℕ))) (f : List ℕ) (xs : Pairs (List ℕ)) → length (frames_of fr f xs) ≡ suc (config.opened fr)
frames_many [] f xs = refl
frames_many (en ∷ fr) f xs = go (opens en) (λ g. frames_many fr g xs) ∙ ap suc (sym (open_one en fr))
  where
    go : (c : Call (List ℕ)) → ((g : List ℕ) → length (frames_of fr g xs) ≡ suc (config.opened fr))
        → length (frame_of c f (todo_of en) (kept_of en) (frames_of fr f xs) (λ g. frames_of fr g xs)) ≡ suc (more_open c (config.opened fr))
    go None again = front_length (todo_of en) (kept_of en) (frames_of fr f xs) ∙ again f
    go (Some c) again = ap suc (again c.0)

pub formed_opened : (sc : Script) (ps f : List ℕ) (xs : Pairs (List ℕ)) (fs : List (Frame (List ℕ))) (g : Formed sc ps f xs fs) → length fs
    ≡ suc (config.opened g.forms)
formed_opened sc ps f xs fs g = ap length (sym g.frames) ∙ frames_many g.forms f xs
