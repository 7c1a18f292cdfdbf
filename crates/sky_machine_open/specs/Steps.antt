-- Saved forms by their steps, where the nodes inside are known.
use Rattle.std.specs.Prelude.{ℕ, zero, suc, List, [], ◌∷◌, Option, Some, None}
use Rattle.sky_base.specs.Val.{Val}
use Rattle.sky_base.specs.Tree.{Place, Exp, Stms}
use Rattle.sky_base.specs.Res.{Entry, put_index, put_value, for_list}
use Rattle.sky_base_law.specs.Opened.{each_open}

-- a `for` at this step, whose block stands at this node
abbrev pub for_at : (k n block : ℕ) → Place → List ℕ → Stms → List (Val (List ℕ)) → Option (Entry (List ℕ))
for_at (suc zero) n m p x b vs = Some (for_list n m p x b)
for_at (suc (suc zero)) n m p x b vs = each_open n m p x b vs
for_at _ n m p x b vs = None

-- `x[i] = e;` at this step, whose expression stands at this node
abbrev pub put_at : (k n next : ℕ) → List ℕ → Place → Place → Exp → List (Val (List ℕ)) → Option (Entry (List ℕ))
put_at (suc zero) n m x q p e [] = Some (put_index n m x q p e)
put_at (suc (suc zero)) n m x q p e (v ∷ []) = Some (put_value n x q p v)
put_at _ n m x q p e _ = None
