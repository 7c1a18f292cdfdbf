-- Stacks over names are the stacks over whole descriptions, lowered.
use Rattle.std.proofs.Common.{◌≡◌, ℕ, List, [], ◌∷◌, ◌++◌, map, Option, Some, None, refl, sym, ap, ap₂, ◌∙◌}
use Rattle.std.specs.Option.{option_map}
use Rattle.sky_base.specs.Val.{Val, Vals, Pairs, Desc, list, known}
use Rattle.sky_base.specs.Name.{low, low_vals, low_pairs, low_desc}
use Rattle.sky_base.specs.Op.{Answer}
use Rattle.sky_base.specs.Tree.{nowhere}
use Rattle.sky_base.specs.Res.{bodies, Entry, parens_in, part_at, chain_first, chain_more, logic_at, prefix_part, star_wait, postfix_first, index_at}
use Rattle.sky_base.specs.Res.{arg_at, call_open, exec_wait, set_part, add_part, put_index, put_value, return_part, just_part, arm_test, while_test}
use Rattle.sky_base.specs.Res.{while_body, repeat_body, repeat_test, for_list, for_body, block_at, Res, Fin, Tell, Ask, node_of, step_of, kept_of}
use Rattle.sky_base.specs.Res.{opens}
use Rattle.sky_base.specs.Eval.{body_at}
use Rattle.sky_base.specs.Read.{Halt, Frame, Todo, todo_of, in_front, frame_of, frames_of, run_of_halt, segment, first_end, first_halt}
use Rattle.sky_base_law.specs.Lower.{lower, low_entry, low_frame, low_run, low_halt, low_stop, named_as, names_world}
use Rattle.sky_base.specs.See.{Job, Around, run_of, world_of, start_st}
use Rattle.sky_base_law.proofs.Low.{refs_to_low, tag_low}
use Rattle.sky_base_law.proofs.LowLaw.{Rel, rel_call}

map_join : {A B : Type 0} (f : A → B) (xs ys : List A) → map f (xs ++ ys) ≡ map f xs ++ map f ys
map_join f [] ys = refl
map_join f (x ∷ xs) ys = ap (λ zs. f x ∷ zs) (map_join f xs ys)

module _ {N : Type 0} (spell : N → List ℕ) (tag : Desc (List ℕ) → List ℕ) where
  abbrev low_open : List ℕ × Pairs N → List ℕ × Pairs (List ℕ)
  low_open c = (c.0, low_pairs spell tag c.1)

  -- what a lowered entry keeps, and whether it opens a call
  record Alike (en : Entry N) : Type 0 where
    node : node_of (low_entry spell tag en) ≡ node_of en
    step : step_of (low_entry spell tag en) ≡ step_of en
    kept : kept_of (low_entry spell tag en) ≡ map (low spell tag) (kept_of en)
    open_call : opens (low_entry spell tag en) ≡ option_map low_open (opens en)

  abbrev plain_alike : (en : Entry N) → node_of (low_entry spell tag en) ≡ node_of en → step_of (low_entry spell tag en) ≡ step_of en
      → kept_of (low_entry spell tag en) ≡ map (low spell tag) (kept_of en) → opens (low_entry spell tag en) ≡ option_map low_open (opens en)
      → Alike en
  plain_alike en n s k o = record { node = n; step = s; kept = k; open_call = o }

  alike : (en : Entry N) → Alike en
  alike (parens_in n) = plain_alike _ refl refl refl refl
  alike (part_at n k m o p vs es) = plain_alike _ refl refl refl refl
  alike (chain_first n m ls) = plain_alike _ refl refl refl refl
  alike (chain_more n k m o p v ls) = plain_alike _ refl refl refl refl
  alike (logic_at n k m j q ls) = plain_alike _ refl refl refl refl
  alike (prefix_part n ss) = plain_alike _ refl refl refl refl
  alike (star_wait n k x ss) = plain_alike _ refl refl refl refl
  alike (postfix_first n m ss) = plain_alike _ refl refl refl refl
  alike (index_at n k m p v ss) = plain_alike _ refl refl refl refl
  alike (arg_at n k m p g vs es ss) = plain_alike _ refl refl refl refl
  alike (call_open n k m f xs ss) = plain_alike _ refl refl refl refl
  alike (exec_wait n ds) = plain_alike (exec_wait n ds) refl refl (ap (λ us. list us ∷ []) (refs_to_low spell tag ds)) refl
  alike (set_part n x) = plain_alike _ refl refl refl refl
  alike (add_part n x q p) = plain_alike _ refl refl refl refl
  alike (put_index n m x q p e) = plain_alike _ refl refl refl refl
  alike (put_value n x q p v) = plain_alike _ refl refl refl refl
  alike (return_part n) = plain_alike _ refl refl refl refl
  alike (just_part n) = plain_alike _ refl refl refl refl
  alike (arm_test n k m i p b arms els) = plain_alike _ refl refl refl refl
  alike (while_test n m p e b) = plain_alike _ refl refl refl refl
  alike (while_body n m p e b) = plain_alike _ refl refl refl refl
  alike (repeat_body n m p b e) = plain_alike _ refl refl refl refl
  alike (repeat_test n m p b e) = plain_alike _ refl refl refl refl
  alike (for_list n m p x b) = plain_alike _ refl refl refl refl
  alike (for_body n m t p x vs b) = plain_alike _ refl refl refl refl
  alike (block_at n k m b) = plain_alike _ refl refl refl refl

  front_low : (t : Todo) (vs : List (Val N)) (fs : List (Frame N)) → in_front t (map (low spell tag) vs) (map (low_frame spell tag) fs)
      ≡ map (low_frame spell tag) (in_front t vs fs)
  front_low t vs [] = refl
  front_low t vs (f ∷ fs) =
      ap (λ ks. record { fun = f.fun; vars = low_pairs spell tag f.vars; stack = ks; todo = t ∷ f.todo } ∷ map (low_frame spell tag) fs)
      (sym (map_join (low spell tag) vs f.stack))

  frame_low : (o : Option (List ℕ × Pairs N)) (f : List ℕ) (t : Todo) (vs : List (Val N)) (same : List (Frame N)) (same' : List (Frame (List ℕ)))
      (above : List ℕ → List (Frame N)) (above' : List ℕ → List (Frame (List ℕ))) → same' ≡ map (low_frame spell tag) same
      → ((g : List ℕ) → above' g ≡ map (low_frame spell tag) (above g))
      → frame_of (option_map low_open o) f t (map (low spell tag) vs) same' above' ≡ map (low_frame spell tag) (frame_of o f t vs same above)
  frame_low None f t vs same same' above above' e g = ap (in_front t (map (low spell tag) vs)) e ∙ front_low t vs same
  frame_low (Some c) f t vs same same' above above' e g =
      ap (λ fs. record { fun = f; vars = low_pairs spell tag c.1; stack = map (low spell tag) vs; todo = t ∷ [] } ∷ fs) (g c.0)

  pub frames_low : (fr : List (Entry N)) (f : List ℕ) (xs : Pairs N) → frames_of (map (low_entry spell tag) fr) f (low_pairs spell tag xs)
      ≡ map (low_frame spell tag) (frames_of fr f xs)
  frames_low [] f xs = refl
  frames_low (en ∷ fr) f xs =
      ap (λ o. frame_of o f (todo_of (low_entry spell tag en)) (kept_of (low_entry spell tag en))
      (frames_of (map (low_entry spell tag) fr) f (low_pairs spell tag xs))
      (λ g. frames_of (map (low_entry spell tag) fr) g (low_pairs spell tag xs))) (alike en).open_call
      ∙ ap₂ (λ i j. frame_of (option_map low_open (opens en)) f (record { node = i; step = j }) (kept_of (low_entry spell tag en))
      (frames_of (map (low_entry spell tag) fr) f (low_pairs spell tag xs))
      (λ g. frames_of (map (low_entry spell tag) fr) g (low_pairs spell tag xs))) (alike en).node (alike en).step
      ∙ ap (λ ks. frame_of (option_map low_open (opens en)) f (todo_of en) ks
      (frames_of (map (low_entry spell tag) fr) f (low_pairs spell tag xs))
      (λ g. frames_of (map (low_entry spell tag) fr) g (low_pairs spell tag xs))) (alike en).kept
      ∙ frame_low (opens en) f (todo_of en) (kept_of en) (frames_of fr f xs) _ (λ g. frames_of fr g xs) _ (frames_low fr f xs)
      (λ g. frames_low fr g xs)

  -- the stack at a wait
  pub stack_low : (f : List ℕ) (j : ℕ) (h : Halt N) → run_of_halt f j (low_halt spell tag h) ≡ low_run spell tag (run_of_halt f j h)
  stack_low f j h = ap (λ fs. record { frames = fs; count = h.st.count; waits = j }) (frames_low h.forms f h.st.vars)

  -- ---- what a run over names does up to its next wait

  pub segment_low : (r : Res N) (q : Res (List ℕ)) → Rel spell tag r q → segment q ≡ map (low_desc spell tag) (segment r)
  segment_low (Fin e st) q g = ap segment g
  segment_low (Tell d r) q g = ap segment g.1 ∙ ap (λ ds. low_desc spell tag d ∷ ds) (segment_low r g.0 g.2)
  segment_low (Ask w fr st k) q g = ap segment g.1

  pub first_end_low : (r : Res N) (q : Res (List ℕ)) → Rel spell tag r q → first_end q ≡ option_map (low_stop spell tag) (first_end r)
  first_end_low (Fin e st) q g = ap first_end g
  first_end_low (Tell d r) q g = ap first_end g.1 ∙ first_end_low r g.0 g.2
  first_end_low (Ask w fr st k) q g = ap first_end g.1

  pub first_halt_low : (r : Res N) (q : Res (List ℕ)) → Rel spell tag r q → first_halt q ≡ option_map (low_halt spell tag) (first_halt r)
  first_halt_low (Fin e st) q g = ap first_halt g
  first_halt_low (Tell d r) q g = ap first_halt g.1 ∙ first_halt_low r g.0 g.2
  first_halt_low (Ask w fr st k) q g = ap first_halt g.1

-- a task's run over names, where what is read as data is the same; no description has a name inside, so nothing needs spelling
module _ (job : Job) (around : Around) (tag : Desc (List ℕ) → List ℕ) (read : List ℕ → Answer (List ℕ))
    (reads_alike : (b : List ℕ) → read b ≡ lower {N = ⊥} (λ n. absurd n) tag (around.reads b)) where
  pub job_low : (f : List ℕ) (c : Pairs ⊥) (vs : Vals ⊥)
      → Rel (λ n. absurd n) tag (run_of job around f c vs)
      (body_at (names_world tag job.script read) bodies f (low_pairs (λ n. absurd n) tag c) (low_vals (λ n. absurd n) tag vs) nowhere start_st)
  job_low f c vs =
      rel_call (λ n. absurd n) tag (world_of job.script around) (named_as tag) read (λ d. ap known (tag_low tag d)) reads_alike bodies f c vs
      nowhere start_st
