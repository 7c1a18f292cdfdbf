-- From any end of the innermost form the forms under way go on with ever more visits, and no more than are allowed.
use Rattle.std.proofs.Common.{ℕ, suc, ◌+◌, ◌<◌, ◌≤◌, List, [], ◌∷◌, ◌++◌, Option, Some, None}
use Rattle.sky_base.specs.Val.{Val, Vals, Pairs, Desc}
use Rattle.sky_base.specs.Op.{find, index}
use Rattle.sky_base.specs.Tree.{Place, Exp, Stms, block_nodes}
use Rattle.sky_base.specs.Res.{visits, End, St, Entry, parens_in, part_at, chain_first, chain_more, logic_at, prefix_part, star_wait, postfix_first}
use Rattle.sky_base.specs.Res.{index_at, arg_at, call_open, exec_wait, set_part, add_part, put_index, put_value, return_part, just_part, arm_test}
use Rattle.sky_base.specs.Res.{while_test, while_body, repeat_body, repeat_test, for_list, for_body, block_at, Res, Fin, Tell, Ask, on_got, on_goes}
use Rattle.sky_base.specs.Eval.{World, oper, left, eval, eval_block, go_while, go_repeat, body_at, after, inside, plug}
use Rattle.sky_base.specs.Read.{Halt, first_halt}
use Rattle.sky_base_law.proofs.FormsLaw.{Within, Late}
use Rattle.sky_base_law.proofs.CountLaw.{Climbs, climbs_then, climbs_got, climbs_goes, climbs_body, climbs_visit, climbs_answer, climbs_decide, climbs_add}
use Rattle.sky_base_law.proofs.CountLaw.{climbs_put, climbs_signs, climbs_eval, climbs_parts, climbs_links, climbs_ands, climbs_steps, climbs_args}
use Rattle.sky_base_law.proofs.CountLaw.{climbs_turns, climbs_repeats, climbs_each, climbs_each_of, climbs_stms, climbs_arms, climbs_else, climbs_call}

module _ {N : Type 0} (w : World N) where
  got_climbs : (k : Val N → St N → Res N) → ((c : ℕ) (v : Val N) (st : St N) → Within w c st → Climbs w c [] (k v st))
      → (c : ℕ) (e : End N) (st : St N) → Late w c e st → Climbs w c [] (on_got k e st)
  got_climbs k h c End.goes st l = l
  got_climbs k h c (End.got v) st l = h c v st l
  got_climbs k h c (End.returned v) st l = l
  got_climbs k h c (End.failed f) st l = tt

  goes_climbs : (k : St N → Res N) → ((c : ℕ) (st : St N) → Within w c st → Climbs w c [] (k st)) → (c : ℕ) (e : End N) (st : St N)
      → Late w c e st → Climbs w c [] (on_goes k e st)
  goes_climbs k h c End.goes st l = h c st l
  goes_climbs k h c (End.got v) st l = l
  goes_climbs k h c (End.returned v) st l = l
  goes_climbs k h c (End.failed f) st l = tt

  module _ (d : ℕ) where
    abbrev body : List ℕ → Pairs N → Vals N → Place → St N → Res N
    body = body_at w d

    bodies_climb : (f : List ℕ) (c : Pairs N) (vs : Vals N) (p : Place) (b : ℕ) (st : St N) → Within w b st → Climbs w b [] (body f c vs p st)
    bodies_climb f c vs p b st l = climbs_call w d f c vs p b st l

    block_climbs : (b : Stms) (n c : ℕ) (st : St N) → Within w c st → Climbs w c [] (eval_block w body b n st)
    block_climbs b n c st l = climbs_stms w body bodies_climb b n 0 (n + 1) c st l

    while_climbs : (n m : ℕ) (p : Place) (e : Exp) (b : Stms) (c : ℕ) (st : St N) → Within w c st → Climbs w c [] (go_while w body n m p e b st)
    while_climbs n m p e b c st l =
        climbs_turns w body bodies_climb n m p b (eval_block w body b m) (block_climbs b m) (suc visits) e c st l

    repeat_climbs : (n m : ℕ) (p : Place) (b : Stms) (e : Exp) (c : ℕ) (st : St N) → Within w c st → Climbs w c [] (go_repeat w body n m p b e st)
    repeat_climbs n m p b e c st l =
        climbs_repeats w body bodies_climb n m p b (eval_block w body b (n + 1)) (block_climbs b (n + 1)) (suc visits) e c st l

    after_climbs : (en : Entry N) (c : ℕ) (e : End N) (st : St N) → Late w c e st → Climbs w c [] (after w body en e st)
    after_climbs (parens_in n) = got_climbs _ (λ c v s l. l)
    after_climbs (part_at n k m o p vs es) = got_climbs _ (λ c v s l. climbs_parts w body bodies_climb es n (k + 1) m o p (vs ++ v ∷ []) c s l)
    after_climbs (chain_first n m ls) = got_climbs _ (λ c v s l. climbs_links w body bodies_climb ls n 2 m v c s l)
    after_climbs (chain_more n k m o p v ls) =
        got_climbs _ (λ c x s l. climbs_visit w p c s _ l
        (λ t i lt. climbs_answer w (oper o v x) p c t _ (λ y. climbs_links w body bodies_climb ls n (k + 1) m y c t i)))
    after_climbs (logic_at n k m j q ls) = got_climbs _ (λ c v s l. climbs_ands w body bodies_climb ls n (k + 1) m j q v c s l)
    after_climbs (prefix_part n ss) = got_climbs _ (λ c v s l. climbs_signs w ss n 2 v c s l)
    after_climbs (star_wait n k x ss) = got_climbs _ (λ c v s l. climbs_signs w ss n (k + 1) v c s l)
    after_climbs (postfix_first n m ss) = got_climbs _ (λ c v s l. climbs_steps w body bodies_climb ss n 2 m v c s l)
    after_climbs (index_at n k m p v ss) =
        got_climbs _ (λ c x s l. climbs_visit w p c s _ l
        (λ t i lt. climbs_answer w (index v x) p c t _ (λ y. climbs_steps w body bodies_climb ss n (k + 1) m y c t i)))
    after_climbs (arg_at n k m p g vs es ss) =
        got_climbs _ (λ c v s l. climbs_args w body bodies_climb es n (k + 1) m p g (vs ++ v ∷ []) ss c s l
        (λ i h y b u z. climbs_steps w body bodies_climb ss n i h y b u z))
    after_climbs (call_open n k m f xs ss) = climbs_body w xs _ (λ c y u l. climbs_steps w body bodies_climb ss n (k + 1) m y c u l)
    after_climbs (exec_wait n ds) = got_climbs _ (λ c v s l. l)
    after_climbs (set_part n x) = got_climbs _ (λ c v s l. l)
    after_climbs (add_part n x q p) = got_climbs _ (λ c v s l. climbs_add w (find x s.vars) x q p v c s l)
    after_climbs (put_index n m x q p e) =
        got_climbs _ (λ c v s l. climbs_got w (eval w body e m s) c (put_value n x q p v) _ (climbs_eval w body bodies_climb e m c s l)
        (λ b y u j. climbs_put w (find x u.vars) x q p v y b u j))
    after_climbs (put_value n x q p v) = got_climbs _ (λ c y s l. climbs_put w (find x s.vars) x q p v y c s l)
    after_climbs (return_part n) = got_climbs _ (λ c v s l. l)
    after_climbs (just_part n) = got_climbs _ (λ c v s l. l)
    after_climbs (arm_test n k m i p b arms els) =
        got_climbs _ (λ c v s l. climbs_decide w v p c s _ _ (block_climbs b m c s l)
        (climbs_arms w body bodies_climb arms n (k + 1) (m + block_nodes b) i els _ c s l
        (λ a u j. climbs_else w body bodies_climb els i a u j)))
    after_climbs (while_test n m p e b) =
        got_climbs _ (λ c v s l. climbs_decide w v p c s _ _
        (climbs_goes w (eval_block w body b m s) c (while_body n m p e b) _ (block_climbs b m c s l) (λ a u j. while_climbs n m p e b a u j))
        l)
    after_climbs (while_body n m p e b) = goes_climbs _ (λ c s l. while_climbs n m p e b c s l)
    after_climbs (repeat_body n m p b e) =
        goes_climbs _ (λ c s l. climbs_got w (eval w body e m s) c (repeat_test n m p b e) _ (climbs_eval w body bodies_climb e m c s l)
        (λ a v u j. climbs_decide w v p a u _ _ (repeat_climbs n m p b e a u j) j))
    after_climbs (repeat_test n m p b e) = got_climbs _ (λ c v s l. climbs_decide w v p c s _ _ (repeat_climbs n m p b e c s l) l)
    after_climbs (for_list n m p x b) =
        got_climbs _ (λ c v s l. climbs_each_of w body bodies_climb n m p b (eval_block w body b m) (block_climbs b m) v x c s l)
    after_climbs (for_body n m t p x vs b) =
        goes_climbs _ (λ c s l. climbs_each w body bodies_climb n m p b (eval_block w body b m) (block_climbs b m) (left t vs) t x vs c s l)
    after_climbs (block_at n k m more) = goes_climbs _ (λ c s l. climbs_stms w body bodies_climb more n k m c s l)

  pub plug_climbs : (fr : List (Entry N)) (d b : ℕ) (e : End N) (st : St N) → Late w b e st → Climbs w b [] (plug w d fr (Fin e st))
  plug_climbs [] d b e st l = l
  plug_climbs (en ∷ fr) d b e st l =
      climbs_then w (plug w (inside w en d) fr (Fin e st)) b [] en (after w (body_at w d) en) (plug_climbs fr (inside w en d) b e st l)
      (λ c x s h. after_climbs d en c x s h)

  -- at the first wait there were more visits, and no more than are allowed
  abbrev pub Higher : ℕ → Option (Halt N) → Type 0
  Higher b None = Unit {0}
  Higher b (Some h) = (b < h.st.count) × (h.st.count ≤ visits)

  pub first_higher : (r : Res N) (b : ℕ) (xs : List (Desc N)) → Climbs w b xs r → Higher b (first_halt r)
  first_higher (Fin e st) b xs g = tt
  first_higher (Tell d r) b [] g = first_higher r b g.0 g.2
  first_higher (Tell d r) b (x ∷ xs) g = first_higher r b xs g.1
  first_higher (Ask q fr st k) b [] g = g.0
  first_higher (Ask q fr st k) b (x ∷ xs) g = absurd g
