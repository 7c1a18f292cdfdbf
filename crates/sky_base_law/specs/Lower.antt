-- The stand of a run over names in place of whole descriptions.
use Rattle.std.specs.Prelude.{ℕ, List, map, Ok, Err}
use Rattle.sky_base.specs.Val.{Desc, known}
use Rattle.sky_base.specs.Name.{low, low_vals, low_pairs, name}
use Rattle.sky_base.specs.Op.{Answer}
use Rattle.sky_base.specs.Res.{Object, End, St, Entry, parens_in, part_at, chain_first, chain_more, logic_at, prefix_part, star_wait, postfix_first}
use Rattle.sky_base.specs.Res.{index_at, arg_at, call_open, exec_wait, set_part, add_part, put_index, put_value, return_part, just_part, arm_test}
use Rattle.sky_base.specs.Res.{while_test, while_body, repeat_body, repeat_test, for_list, for_body, block_at, Wait, one_of, all_of}
use Rattle.sky_base.specs.Tree.{Script}
use Rattle.sky_base.specs.Eval.{World}
use Rattle.sky_base.specs.Read.{Halt, Frame, Run}

module _ {N : Type 0} (spell : N → List ℕ) (tag : Desc (List ℕ) → List ℕ) where
  -- what a reference to a description holds when it is lowered
  abbrev pub low_ref : Desc N → Desc (List ℕ)
  low_ref d = known (name spell tag d)

  abbrev pub lower : Answer N → Answer (List ℕ)
  lower (Ok v) = Ok (low spell tag v)
  lower (Err k) = Err k

  abbrev pub low_obj : Object N → Object (List ℕ)
  low_obj (Object.bytes b) = Object.bytes b
  low_obj (Object.data_of v) = Object.data_of (low spell tag v)
  low_obj (Object.fault f) = Object.fault f

  abbrev pub low_end : End N → End (List ℕ)
  low_end End.goes = End.goes
  low_end (End.got v) = End.got (low spell tag v)
  low_end (End.returned v) = End.returned (low spell tag v)
  low_end (End.failed f) = End.failed f

  abbrev pub low_st : St N → St (List ℕ)
  low_st st = record { vars = low_pairs spell tag st.vars; count = st.count }

  abbrev pub low_wait : Wait N → Wait (List ℕ)
  low_wait (one_of p d) = one_of p (low_ref d)
  low_wait (all_of ds) = all_of (map low_ref ds)

  abbrev pub low_entry : Entry N → Entry (List ℕ)
  low_entry (parens_in n) = parens_in n
  low_entry (part_at n k m o p vs es) = part_at n k m o p (map (low spell tag) vs) es
  low_entry (chain_first n m ls) = chain_first n m ls
  low_entry (chain_more n k m o p v ls) = chain_more n k m o p (low spell tag v) ls
  low_entry (logic_at n k m j p ls) = logic_at n k m j p ls
  low_entry (prefix_part n ss) = prefix_part n ss
  low_entry (star_wait n k d ss) = star_wait n k (low_ref d) ss
  low_entry (postfix_first n m ss) = postfix_first n m ss
  low_entry (index_at n k m p v ss) = index_at n k m p (low spell tag v) ss
  low_entry (arg_at n k m p f vs es ss) = arg_at n k m p (low spell tag f) (map (low spell tag) vs) es ss
  low_entry (call_open n k m f xs ss) = call_open n k m f (low_pairs spell tag xs) ss
  low_entry (exec_wait n ds) = exec_wait n (map low_ref ds)
  low_entry (set_part n x) = set_part n x
  low_entry (add_part n x q p) = add_part n x q p
  low_entry (put_index n m x q p e) = put_index n m x q p e
  low_entry (put_value n x q p v) = put_value n x q p (low spell tag v)
  low_entry (return_part n) = return_part n
  low_entry (just_part n) = just_part n
  low_entry (arm_test n k m i p b arms els) = arm_test n k m i p b arms els
  low_entry (while_test n m p e b) = while_test n m p e b
  low_entry (while_body n m p e b) = while_body n m p e b
  low_entry (repeat_body n m p b e) = repeat_body n m p b e
  low_entry (repeat_test n m p b e) = repeat_test n m p b e
  low_entry (for_list n m p x b) = for_list n m p x b
  low_entry (for_body n m t p x vs b) = for_body n m t p x (low_vals spell tag vs) b
  low_entry (block_at n k m b) = block_at n k m b

  abbrev pub low_frame : Frame N → Frame (List ℕ)
  low_frame f =
      record { fun = f.fun; vars = low_pairs spell tag f.vars; stack = map (low spell tag) f.stack; todo = f.todo }

  abbrev pub low_run : Run N → Run (List ℕ)
  low_run r = record { frames = map low_frame r.frames; count = r.count; waits = r.waits }

  abbrev pub low_halt : Halt N → Halt (List ℕ)
  low_halt h =
      record { wait = low_wait h.wait; forms = map low_entry h.forms; st = low_st h.st }

  abbrev pub low_stop : End N × St N → End (List ℕ) × St (List ℕ)
  low_stop e = (low_end e.0, low_st e.1)

-- a script over names: a reference to a new description holds its name
module _ (tag : Desc (List ℕ) → List ℕ) where
  abbrev pub named_as : Desc (List ℕ) → Desc (List ℕ)
  named_as d = known (tag d)

  abbrev pub names_world : Script → (List ℕ → Answer (List ℕ)) → World (List ℕ)
  names_world script read = record { make = named_as; reads = read; script = script }
