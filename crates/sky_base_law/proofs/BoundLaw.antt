-- The bound of a loop is never met, and a body can't be opened exactly where 64 are open.
use Rattle.std.proofs.Common.{◌≡◌, ℕ, zero, suc, ◌+◌, ◌<◌, ◌≤◌, List, length, Option, Some, None, Ok, Err, subst, arith}
use Rattle.sky_base.specs.Val.{Val, Vals, Pairs, Desc, no_vals, val, no_pairs, vals_of}
use Rattle.sky_base.specs.Op.{Answer, find, index, set_at, grown, negated, opposite, len, keys, has, range, limited, dict_from}
use Rattle.sky_base.specs.Val.{list, fun}
use Rattle.sky_base.specs.Tree.{Place, nowhere, Exp, Stms}
use Rattle.sky_base.specs.Res.{visits, others, bodies, Object, St, while_test, while_body, repeat_body, repeat_test, Res}
use Rattle.sky_base.specs.Eval.{caught_by, World, lit_val, oper, turns, repeats, eval, eval_block, body_at, go_while, go_repeat}
use Rattle.sky_base.specs.Read.{Halt, halt, frames_of, run_of_halt}
use Rattle.sky_base.specs.See.{Job, Around, world_of, start_st, run_of}
use Rattle.sky_base_law.specs.Bounds.{turns_or, repeats_or}
use Rattle.sky_base_law.proofs.FormsLaw.{alike, got_alike, goes_alike, decide_alike, good_eval, good_call, good_block, inner}
use Rattle.sky_base_law.proofs.FineLaw.{Closed, AnswerOk, OptionOk, ValsOk, fine_call}
use Rattle.sky_base_law.proofs.FineReads.{SeenOk, HaltOk, halt_fine, frames_left}
use Rattle.sky_base_law.proofs.WrittenLaw.{any_lit, any_made, any_name, written_any}

module _ {N : Type 0} (w : World N) (d : ℕ) (n m : ℕ) (p : Place) (e : Exp) (blk : Stms) (met : St N → Res N) where
  turns_met : (f : ℕ) (st : St N) → st.count ≤ visits → visits < f + st.count
      → turns_or met f n m p e blk (eval w (body_at w d) e (n + 1)) (eval_block w (body_at w d) blk m) st
      ≡ turns f n m p e blk (eval w (body_at w d) e (n + 1)) (eval_block w (body_at w d) blk m) st
  turns_met zero st h hf = absurd (omega arith)
  turns_met (suc f) st h hf =
      alike w (eval w (body_at w d) e (n + 1) st) d (st.count + 1) (while_test n m p e blk) _ _
      (got_alike w (st.count + 1) _ _ (λ v s i. decide_alike w v p s _ _ _
      (alike w (eval_block w (body_at w d) blk m s) d s.count (while_body n m p e blk) _ _
      (goes_alike w s.count _ _ (λ z x. turns_met f z (omega arith) (omega arith))) (good_block w d blk m s (omega arith)))))
      (good_eval w d (good_call w d) e (n + 1) st)

  -- whatever a `while` would do where its bound is met, it does the same
  pub while_unmet : (st : St N) → st.count ≤ visits
      → turns_or met (suc visits) n m p e blk (eval w (body_at w d) e (n + 1)) (eval_block w (body_at w d) blk m) st
      ≡ go_while w (body_at w d) n m p e blk st
  while_unmet st h = turns_met (suc visits) st h (omega arith)

  repeats_met : (f : ℕ) (st : St N) → st.count ≤ visits → visits < f + st.count
      → repeats_or met f n m p blk e (eval_block w (body_at w d) blk (n + 1)) (eval w (body_at w d) e m) st
      ≡ repeats f n m p blk e (eval_block w (body_at w d) blk (n + 1)) (eval w (body_at w d) e m) st
  repeats_met zero st h hf = absurd (omega arith)
  repeats_met (suc f) st h hf =
      alike w (eval_block w (body_at w d) blk (n + 1) st) d st.count (repeat_body n m p blk e) _ _
      (goes_alike w st.count _ _ (λ s i. alike w (eval w (body_at w d) e m s) d (s.count + 1) (repeat_test n m p blk e) _ _
      (got_alike w (s.count + 1) _ _ (λ v z x. decide_alike w v p z _ _ _ (repeats_met f z (omega arith) (omega arith))))
      (good_eval w d (good_call w d) e m s))) (good_block w d blk (n + 1) st h)

  -- whatever a `do` would do where its bound is met, it does the same
  pub repeat_unmet : (st : St N) → st.count ≤ visits
      → repeats_or met (suc visits) n m p blk e (eval_block w (body_at w d) blk (n + 1)) (eval w (body_at w d) e m) st
      ≡ go_repeat w (body_at w d) n m p blk e st
  repeat_unmet st h = repeats_met (suc visits) st h (omega arith)

-- ---- open bodies

module _ {N : Type 0} (w : World N) where
  abbrev pub Any : Val N → Type 0
  Any v = Unit {0}

  abbrev pub Made : Desc N → Type 0
  Made d = Unit {0}

  any_answer : (o : Answer N) → AnswerOk w Any Made o
  any_answer (Ok v) = tt
  any_answer (Err k) = tt

  any_vals : (vs : Vals N) → ValsOk w Any Made vs
  any_vals no_vals = tt
  any_vals (val v vs) = (tt, any_vals vs)

  any_found : (o : Option (Val N)) → OptionOk w Any Made o
  any_found (Some v) = tt
  any_found None = tt

  abbrev pub Vars : Pairs N → Type 0
  Vars ps = Unit {0}

  any_closed : Closed w Any Made Vars any_made any_lit any_name
  any_closed =
      record {
        null_ok = tt;
        truth_ok = λ b. tt;
        taken_ok = λ t vs h le. tt;
        lit_ok = λ l i. any_answer (limited (lit_val l));
        put_ok = λ x v ps n h l. tt;
        find_ok = λ x ps l. any_found (find x ps);
        fun_ok = λ x n i. any_answer (limited (fun x no_pairs));
        closed_ok = λ f x xs n e l. any_answer (limited (fun x (caught_by f.uses xs)));
        caught_ok = λ f ca h. tt;
        list_ok = λ vs h. any_answer (limited (list (vals_of vs)));
        dict_ok = λ vs h. any_answer (dict_from vs no_pairs);
        oper_ok = λ o a b h i. any_answer (oper o a b);
        index_ok = λ v i h. any_answer (index v i);
        set_ok = λ v i e h g j. any_answer (set_at v i e);
        grown_ok = λ v e h i. any_answer (grown v e);
        negated_ok = λ v. any_answer (negated v);
        opposite_ok = λ v. any_answer (opposite v);
        len_ok = λ v h. any_answer (len v);
        keys_ok = λ v h. any_answer (keys v);
        has_ok = λ v k. any_answer (has v k);
        range_ok = λ a b h i. any_answer (range a b);
        inside_ok = λ vs h. any_vals vs;
        reads_ok = λ b. any_answer (w.reads b);
        ref_ok = λ d h m. tt;
        refs_ok = λ ds le h. tt;
        call_ok = λ f c vs x e n z h. tt;
        out_ok = λ x a n i h j lt le. tt;
        input_ok = λ k h e. tt;
      }

  any_seen : (o : Option (Object N)) → SeenOk w Any Made o
  any_seen None = tt
  any_seen (Some (Object.bytes b)) = tt
  any_seen (Some (Object.data_of v)) = tt
  any_seen (Some (Object.fault f)) = tt

  -- what holds of every run at its waits
  pub any_halt : (see : Desc N → Option (Object N)) (d j : ℕ) (f : List ℕ) (c : Pairs N) (vs : Vals N) (p : Place) (st : St N) (h : Halt N)
      → halt see j (body_at w (suc d) f c vs p st) ≡ Some h → HaltOk w Any Made Vars d (Some h)
  any_halt see d j f c vs p st h e =
      subst (HaltOk w Any Made Vars d) e (halt_fine w Any Made Vars (λ d h. tt) see (λ x i. any_seen (see x)) j (body_at w (suc d) f c vs p st) d
      (fine_call w Any Made Vars any_made any_lit any_name any_closed (written_any w.script) d f c vs p st tt tt (any_vals vs)))

  -- at each wait the bodies that are open and those that may still be opened are as many as may be open: where none may
  -- be opened any more, and a call is TooDeep, all of them are open
  pub open_left : (see : Desc N → Option (Object N)) (d j : ℕ) (f : List ℕ) (c : Pairs N) (vs : Vals N) (p : Place) (st : St N) (h : Halt N)
      → halt see j (body_at w (suc d) f c vs p st) ≡ Some h → length (frames_of h.forms f h.st.vars) + inner w h.forms d ≡ suc d
  open_left see d j f c vs p st h e = frames_left w Any Made Vars h.forms d f h.st.vars (any_halt see d j f c vs p st h e).1

module _ (job : Job) (around : Around) where
  -- a task's stack has up to 64 frames, and as many further bodies may be opened as are missing to 64
  pub task_open : (see : _) (j : ℕ) (f : List ℕ) (c : Pairs ⊥) (vs : Vals ⊥) (h : Halt ⊥) → halt see j (run_of job around f c vs) ≡ Some h
      → length (run_of_halt f (suc j) h).frames + inner (world_of job.script around) h.forms others ≡ bodies
  task_open see j f c vs h e = open_left (world_of job.script around) see others j f c vs nowhere start_st h e
