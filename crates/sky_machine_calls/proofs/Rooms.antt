-- How many bodies may be opened.
use Rattle.std.proofs.Common.{◌≡◌, ℕ, zero, suc, ◌+◌, List, [], ◌∷◌, arith}
use Rattle.sky_base.specs.Res.{parens_in, part_at, chain_first, chain_more, logic_at, prefix_part, star_wait, postfix_first, index_at, arg_at}
use Rattle.sky_base.specs.Res.{call_open, exec_wait, set_part, add_part, put_index, put_value, return_part, just_part, arm_test, while_test}
use Rattle.sky_base.specs.Res.{while_body, repeat_body, repeat_test, for_list, for_body, block_at}
use Rattle.sky_base.specs.Eval.{World}
use Rattle.sky_base_law.proofs.FormsLaw.{inner}
use Rattle.sky_machine_entries.specs.Config.{opened}
use Rattle.sky_machine_entries.specs.Entries.{Form}

-- as many as are missing to those that may be open
pub room_is : (w : World (List ℕ)) (fr : List Form) (d left : ℕ) → opened fr + left ≡ d → inner w fr d ≡ left
room_is w [] d left e = omega arith
room_is w (call_open n k m f xs ss ∷ fr) zero left e = absurd (omega arith)
room_is w (call_open n k m f xs ss ∷ fr) (suc d) left e = room_is w fr d left (omega arith)
room_is w (parens_in n ∷ fr) d left e = room_is w fr d left e
room_is w (part_at n k m o p vs es ∷ fr) d left e = room_is w fr d left e
room_is w (chain_first n m ls ∷ fr) d left e = room_is w fr d left e
room_is w (chain_more n k m o p v ls ∷ fr) d left e = room_is w fr d left e
room_is w (logic_at n k m j p ls ∷ fr) d left e = room_is w fr d left e
room_is w (prefix_part n ss ∷ fr) d left e = room_is w fr d left e
room_is w (star_wait n k r ss ∷ fr) d left e = room_is w fr d left e
room_is w (postfix_first n m ss ∷ fr) d left e = room_is w fr d left e
room_is w (index_at n k m p v ss ∷ fr) d left e = room_is w fr d left e
room_is w (arg_at n k m p f vs es ss ∷ fr) d left e = room_is w fr d left e
room_is w (exec_wait n ds ∷ fr) d left e = room_is w fr d left e
room_is w (set_part n x ∷ fr) d left e = room_is w fr d left e
room_is w (add_part n x q p ∷ fr) d left e = room_is w fr d left e
room_is w (put_index n m x q p i ∷ fr) d left e = room_is w fr d left e
room_is w (put_value n x q p v ∷ fr) d left e = room_is w fr d left e
room_is w (return_part n ∷ fr) d left e = room_is w fr d left e
room_is w (just_part n ∷ fr) d left e = room_is w fr d left e
room_is w (arm_test n k m i p b arms els ∷ fr) d left e = room_is w fr d left e
room_is w (while_test n m p t b ∷ fr) d left e = room_is w fr d left e
room_is w (while_body n m p t b ∷ fr) d left e = room_is w fr d left e
room_is w (repeat_body n m p b t ∷ fr) d left e = room_is w fr d left e
room_is w (repeat_test n m p b t ∷ fr) d left e = room_is w fr d left e
room_is w (for_list n m p x b ∷ fr) d left e = room_is w fr d left e
room_is w (for_body n m t p x vs b ∷ fr) d left e = room_is w fr d left e
room_is w (block_at n k m b ∷ fr) d left e = room_is w fr d left e
