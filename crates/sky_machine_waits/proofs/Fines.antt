-- What holds of all that the forms under way keep holds of all that they come to, from any end of the innermost of which it holds,
-- where M holds of what is made.
use Rattle.std.proofs.Common.{◌≡◌, ℕ, zero, suc, ◌+◌, ◌≤◌, List, [], ◌∷◌, ◌++◌, Option, Some, None, arith}
use Rattle.sky_base.specs.Val.{Val, Vals, Pairs, Desc, no_vals, val, count}
use Rattle.sky_base.specs.Op.{find, index}
use Rattle.sky_base.specs.Tree.{Place, nowhere, Lit, Junction, Form, Exp, Exps, Links, Ands, Steps, Stm, Stms, Arms, Else, block_nodes}
use Rattle.sky_base.specs.Res.{visits, End, St, Entry, parens_in, part_at, chain_first, chain_more, logic_at, prefix_part, star_wait, postfix_first}
use Rattle.sky_base.specs.Res.{index_at, arg_at, call_open, exec_wait, set_part, add_part, put_index, put_value, return_part, just_part, arm_test}
use Rattle.sky_base.specs.Res.{while_test, while_body, repeat_body, repeat_test, for_list, for_body, block_at, Res, Fin, Tell, Ask, counted, on_got}
use Rattle.sky_base.specs.Res.{on_goes, on_body}
use Rattle.sky_base.specs.Eval.{World, oper, left, enter, eval, eval_block, eval_steps, go_while, go_repeat, body_at, after, inside, plug}
use Rattle.sky_base.specs.Read.{Halt, segment, first_end, first_halt}
use Rattle.sky_base_law.specs.Sound.{IsFun}
use Rattle.sky_base_law.specs.Tasks.{Each}
use Rattle.sky_base_law.specs.Written.{ExpWritten, ExpsWritten, LinksWritten, AndsWritten, StepsWritten, StmsWritten, ArmsWritten, ElseWritten}
use Rattle.sky_base_law.proofs.FineLaw.{ValsOk, EndOk, EntryOk, FormsOk, Fine, Closed, more_ok, fine_then, fine_got, fine_goes, fine_visit, fine_answer}
use Rattle.sky_base_law.proofs.FineLaw.{fine_decide, fine_signs, fine_add, fine_put, fine_eval, fine_parts, fine_links, fine_ands, fine_steps, fine_args}
use Rattle.sky_base_law.proofs.FineLaw.{fine_turns, fine_repeats, fine_each, fine_each_of, fine_stms, fine_arms, fine_else, fine_body, fine_call}
use Rattle.sky_base_law.proofs.WrittenLaw.{any_lit, any_name, exp_any, exps_any, links_any, ands_any, steps_any, stms_any, arms_any, else_any, written_any}
use Rattle.sky_machine_waits.specs.Taken.{AllTaken, TakenIn}

-- ---- what is left of a list

left_count : {N : Type 0} (t : ℕ) (vs : Vals N) → t ≤ count vs → t + count (left t vs) ≡ count vs
left_count zero vs le = omega arith
left_count (suc t) no_vals le = absurd (omega (arith, le))
left_count (suc t) (val v vs) le = omega (arith, left_count t vs (omega (arith, le)))

module _ {N : Type 0} (w : World N) (P : Val N → Type 0) (Q : Desc N → Type 0) (V : Pairs N → Type 0) (M : Desc N → Type 0)
    (c : Closed w P Q V M any_lit any_name) where
  abbrev Good : ℕ → Res N → Type 0
  Good d r = Fine w P Q V M d r

  left_vals : (t : ℕ) (vs : Vals N) → ValsOk w P Q vs → ValsOk w P Q (left t vs)
  left_vals zero vs h = h
  left_vals (suc t) no_vals h = h
  left_vals (suc t) (val v vs) h = left_vals t vs h.1

  enters : (d : ℕ) (f : List ℕ) (ca : Pairs N) (vs : Vals N) (p : Place) (n k m : ℕ) (ss : Steps) (st : St N) (go : Val N → St N → Res N)
      → IsFun w.script f → V st.vars → V ca → ValsOk w P Q vs → ((y : Val N) (u : St N) → P y → V u.vars → Good d (go y u))
      → Good d (enter w (body_at w d) f ca vs p n k m ss st go)
  enters zero f ca vs p n k m ss st go i l z h g = (tt, l)
  enters (suc d) f ca vs p n k m ss st go i l z h g =
      fine_then w P Q V M (body_at w (suc d) f ca vs p st) (suc d) (call_open n k m f st.vars ss) (on_body st.vars go) (tt, (omega arith, i, l))
      (fine_call w P Q V M any_lit any_name c (written_any w.script) d f ca vs p st l z h)
      (fine_body w P Q V M any_lit any_name c st.vars (suc d) go l g)

  got_fine : (d : ℕ) (k : Val N → St N → Res N) → ((v : Val N) (st : St N) → P v → V st.vars → Good d (k v st)) → (e : End N) (st : St N)
      → EndOk w P Q e → V st.vars → Good d (on_got k e st)
  got_fine d k h End.goes st o l = (tt, l)
  got_fine d k h (End.got v) st o l = h v st o l
  got_fine d k h (End.returned v) st o l = (o, l)
  got_fine d k h (End.failed f) st o l = (tt, l)

  goes_fine : (d : ℕ) (k : St N → Res N) → ((st : St N) → V st.vars → Good d (k st)) → (e : End N) (st : St N) → EndOk w P Q e → V st.vars
      → Good d (on_goes k e st)
  goes_fine d k h End.goes st o l = h st l
  goes_fine d k h (End.got v) st o l = (o, l)
  goes_fine d k h (End.returned v) st o l = (o, l)
  goes_fine d k h (End.failed f) st o l = (tt, l)

  module _ (d : ℕ) where
    abbrev body : List ℕ → Pairs N → Vals N → Place → St N → Res N
    body = body_at w d

    pub block_fine : (b : Stms) (n : ℕ) (st : St N) → V st.vars → Good d (eval_block w body b n st)
    block_fine b n st l = fine_stms w P Q V M any_lit any_name c d body (enters d) b n 0 (n + 1) st (stms_any b) l

    while_fine : (n m : ℕ) (p : Place) (e : Exp) (b : Stms) (st : St N) → V st.vars → Good d (go_while w body n m p e b st)
    while_fine n m p e b st l =
        fine_turns w P Q V M any_lit any_name c d body (enters d) n m p b (eval_block w body b m) (block_fine b m) (suc visits) e st (exp_any e) l

    repeat_fine : (n m : ℕ) (p : Place) (b : Stms) (e : Exp) (st : St N) → V st.vars → Good d (go_repeat w body n m p b e st)
    repeat_fine n m p b e st l =
        fine_repeats w P Q V M any_lit any_name c d body (enters d) n m p b (eval_block w body b (n + 1)) (block_fine b (n + 1)) (suc visits) e
        st (exp_any e) l

    steps_fine : (ss : Steps) (n k m : ℕ) (v : Val N) (st : St N) → P v → V st.vars → Good d (eval_steps w body ss n k m v st)
    steps_fine ss n k m v st i l = fine_steps w P Q V M any_lit any_name c d body (enters d) ss n k m v st (steps_any ss) l i

    after_fine : (en : Entry N) → EntryOk w P Q V d en → TakenIn en → (e : End N) (st : St N) → EndOk w P Q e → V st.vars
        → Good d (after w body en e st)
    after_fine (parens_in n) h t = got_fine d _ (λ v s i l. (i, l))
    after_fine (part_at n k m o p vs es) h t =
        got_fine d _ (λ v s i l. fine_parts w P Q V M any_lit any_name c d body (enters d) es n (k + 1) m o p (vs ++ v ∷ []) s (exps_any es) l
        (more_ok w P Q vs v h.0 i))
    after_fine (chain_first n m ls) h t =
        got_fine d _ (λ v s i l. fine_links w P Q V M any_lit any_name c d body (enters d) ls n 2 m v s (links_any ls) l i)
    after_fine (chain_more n k m o p v ls) h t =
        got_fine d _ (λ x s i l. fine_visit w P Q V M p d s _ l
        (fine_answer w P Q V M (oper o v x) p d (counted s) _ l (c.oper_ok o v x h.0.0 i)
        (λ y j. fine_links w P Q V M any_lit any_name c d body (enters d) ls n (k + 1) m y (counted s) (links_any ls) l j)))
    after_fine (logic_at n k m j q ls) h t =
        got_fine d _ (λ v s i l. fine_ands w P Q V M any_lit any_name c d body (enters d) ls n (k + 1) m j q v s (ands_any ls) l)
    after_fine (prefix_part n ss) h t = got_fine d _ (λ v s i l. fine_signs w P Q V M any_lit any_name c ss n 2 v d s l i)
    after_fine (star_wait n k x ss) h t = got_fine d _ (λ v s i l. fine_signs w P Q V M any_lit any_name c ss n (k + 1) v d s l i)
    after_fine (postfix_first n m ss) h t = got_fine d _ (λ v s i l. steps_fine ss n 2 m v s i l)
    after_fine (index_at n k m p v ss) h t =
        got_fine d _ (λ x s i l. fine_visit w P Q V M p d s _ l
        (fine_answer w P Q V M (index v x) p d (counted s) _ l (c.index_ok v x h.0.0) (λ y j. steps_fine ss n (k + 1) m y (counted s) j l)))
    after_fine (arg_at n k m p g vs es ss) h t =
        got_fine d _ (λ v s i l. fine_args w P Q V M any_lit any_name c d body (enters d) es n (k + 1) m p g (vs ++ v ∷ []) ss s (exps_any es) l
        h.0.0 (more_ok w P Q vs v h.0.1 i) (λ a b y u j z. steps_fine ss n a b y u j z))
    after_fine (call_open n k m f xs ss) h t =
        fine_body w P Q V M any_lit any_name c xs d _ h.1.2 (λ y u i l. steps_fine ss n (k + 1) m y u i l)
    after_fine (exec_wait n ds) h t = got_fine d _ (λ v s i l. (i, l))
    after_fine (set_part n x) h t = got_fine d _ (λ v s i l. (tt, c.put_ok x v s.vars tt i l))
    after_fine (add_part n x q p) h t =
        got_fine d _ (λ v s i l. fine_add w P Q V M any_lit any_name c (find x s.vars) x q p v d s tt l (c.find_ok x s.vars l) i)
    after_fine (put_index n m x q p e) h t =
        got_fine d _ (λ v s i l. fine_got w P Q V M (eval w body e m s) d (put_value n x q p v) _ ((i, tt), tt)
        (fine_eval w P Q V M any_lit any_name c d body (enters d) e m s (exp_any e) l)
        (λ y u j z. fine_put w P Q V M any_lit any_name c (find x u.vars) x q p v y d u tt z (c.find_ok x u.vars z) i j))
    after_fine (put_value n x q p v) h t =
        got_fine d _ (λ y s j l. fine_put w P Q V M any_lit any_name c (find x s.vars) x q p v y d s tt l (c.find_ok x s.vars l) h.0.0 j)
    after_fine (return_part n) h t = got_fine d _ (λ v s i l. (i, l))
    after_fine (just_part n) h t = got_fine d _ (λ v s i l. (tt, l))
    after_fine (arm_test n k m i p b arms els) h t =
        got_fine d _ (λ v s j l. fine_decide w P Q V M v p d s _ _ l (block_fine b m s l)
        (fine_arms w P Q V M any_lit any_name c d body (enters d) arms n (k + 1) (m + block_nodes b) i els _ s (arms_any arms) l
        (λ u z. fine_else w P Q V M any_lit any_name c d body (enters d) els i u (else_any els) z)))
    after_fine (while_test n m p e b) h t =
        got_fine d _ (λ v s i l. fine_decide w P Q V M v p d s _ _ l
        (fine_goes w P Q V M (eval_block w body b m s) d (while_body n m p e b) _ (tt, tt) (block_fine b m s l)
        (λ u z. while_fine n m p e b u z)) (tt, l))
    after_fine (while_body n m p e b) h t = goes_fine d _ (λ s l. while_fine n m p e b s l)
    after_fine (repeat_body n m p b e) h t =
        goes_fine d _ (λ s l. fine_got w P Q V M (eval w body e m s) d (repeat_test n m p b e) _ (tt, tt)
        (fine_eval w P Q V M any_lit any_name c d body (enters d) e m s (exp_any e) l)
        (λ v u i z. fine_decide w P Q V M v p d u _ _ z (repeat_fine n m p b e u z) (tt, z)))
    after_fine (repeat_test n m p b e) h t =
        got_fine d _ (λ v s i l. fine_decide w P Q V M v p d s _ _ l (repeat_fine n m p b e s l) (tt, l))
    after_fine (for_list n m p x b) h t =
        got_fine d _ (λ v s i l. fine_each_of w P Q V M any_lit any_name c d body (enters d) n m p b (eval_block w body b m) (block_fine b m) v x
        s tt l i)
    after_fine (for_body n m t p x vs b) h le =
        goes_fine d _ (λ s l. fine_each w P Q V M any_lit any_name c d body (enters d) n m p b (eval_block w body b m) (block_fine b m)
        (left t vs) t x vs s tt (left_count t vs le) l (left_vals t vs (c.inside_ok vs h.0.0)) h.0.0)
    after_fine (block_at n k m more) h t =
        goes_fine d _ (λ s l. fine_stms w P Q V M any_lit any_name c d body (enters d) more n k m s (stms_any more) l)

  pub plug_fine : (fr : List (Entry N)) (d : ℕ) (e : End N) (st : St N) → FormsOk w P Q V d fr → AllTaken fr → EndOk w P Q e → V st.vars
      → Good d (plug w d fr (Fin e st))
  plug_fine [] d e st h t o l = (o, l)
  plug_fine (en ∷ fr) d e st h t o l =
      fine_then w P Q V M (plug w (inside w en d) fr (Fin e st)) d en (after w (body_at w d) en) h.0
      (plug_fine fr (inside w en d) e st h.1 t.1 o l) (λ x s i z. after_fine d en h.0 t.0 x s i z)

  -- ---- up to the first wait or the end

  pub made_fine : (r : Res N) (d : ℕ) → Good d r → Each M (segment r) → Each Q (segment r)
  made_fine (Fin e st) d g m = tt
  made_fine (Tell o r) d g m = (g.0, made_fine r d (g.1 m.0) m.1)
  made_fine (Ask q fr st k) d g m = tt

  abbrev pub FirstEndOk : Option (End N × St N) → Type 0
  FirstEndOk None = Unit {0}
  FirstEndOk (Some e) = EndOk w P Q e.0

  pub end_fine : (r : Res N) (d : ℕ) → Good d r → Each M (segment r) → FirstEndOk (first_end r)
  end_fine (Fin e st) d g m = g.0
  end_fine (Tell o r) d g m = end_fine r d (g.1 m.0) m.1
  end_fine (Ask q fr st k) d g m = tt

  abbrev pub FirstHaltOk : ℕ → Option (Halt N) → Type 0
  FirstHaltOk d None = Unit {0}
  FirstHaltOk d (Some h) = FormsOk w P Q V d h.forms × V h.st.vars

  pub halt_fine : (r : Res N) (d : ℕ) → Good d r → Each M (segment r) → FirstHaltOk d (first_halt r)
  halt_fine (Fin e st) d g m = tt
  halt_fine (Tell o r) d g m = halt_fine r d (g.1 m.0) m.1
  halt_fine (Ask q fr st k) d g m = (g.0.1, g.0.2)
