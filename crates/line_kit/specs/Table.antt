-- The executors by name, the number of outputs and the keys of each.
use Rattle.std.specs.Prelude.{ℕ, ◌==◌, ◌&&◌, ◌||◌, nat_le, Bool, true, false, ℤ, pos, negsuc, List, [], ◌∷◌, Option, Some, None, codes, if◌then◌else◌}
use Rattle.std.specs.List.{list_all}
use Rattle.std.specs.Str.{bytes_eq}
use Rattle.sky_base.specs.Op.{find, is_there}
use Rattle.sky_base.specs.Val.{Val, Vals, Pairs, no_vals, val, no_pairs, pair, text, num, count, if_ref, if_list, if_text, if_num}
use Rattle.line_kit.specs.declared.executor.Executor.{Executor}
use Rattle.line_kit.specs.declared.executor.Executor.TheVariants.{Cat, Grep, Words, Split, Deal, Sort, Tally, Count, Sum, Head, Half, Same}

-- the executor of this name
abbrev pub executor_of : List ℕ → Option Executor
executor_of name =
    if bytes_eq name (codes "cat") then Some Cat
    else if bytes_eq name (codes "grep") then Some Grep
    else if bytes_eq name (codes "words") then Some Words
    else if bytes_eq name (codes "split") then Some Split
    else if bytes_eq name (codes "deal") then Some Deal
    else if bytes_eq name (codes "sort") then Some Sort
    else if bytes_eq name (codes "tally") then Some Tally
    else if bytes_eq name (codes "count") then Some Count
    else if bytes_eq name (codes "sum") then Some Sum
    else if bytes_eq name (codes "head") then Some Head
    else if bytes_eq name (codes "half") then Some Half
    else if bytes_eq name (codes "same") then Some Same
    else None

-- whether it may have so many outputs
abbrev pub may_have : Executor → ℕ → Bool
may_have Split n = nat_le 1 n && nat_le n 64
may_have Deal n = nat_le 1 n && nat_le n 64
may_have _ n = n == 1

-- its keys
abbrev pub keys_of : Executor → List (List ℕ)
keys_of Grep = codes "in" ∷ codes "text" ∷ []
keys_of Head = codes "in" ∷ codes "lines" ∷ []
keys_of _ = codes "in" ∷ []

abbrev pub is_ref : Val (List ℕ) → Bool
is_ref v = if_ref v (λ d. true)

abbrev pub are_refs : Vals (List ℕ) → Bool
are_refs no_vals = true
are_refs (val v vs) = is_ref v && are_refs vs

-- a reference or a list of references; for `same` a list of two
abbrev pub fits_in : Executor → Val (List ℕ) → Bool
fits_in Same v = if_list v (λ vs. are_refs vs && count vs == 2)
fits_in _ v = is_ref v || if_list v are_refs

abbrev pub is_natural : ℤ → Bool
is_natural (pos n) = true
is_natural (negsuc n) = false

-- whether the value is of the kind that the key has
abbrev pub fits_other : Executor → List ℕ → Val (List ℕ) → Bool
fits_other Grep k v = bytes_eq k (codes "text") && if_text v (λ t. true)
fits_other Head k v = bytes_eq k (codes "lines") && if_num v is_natural
fits_other _ k v = false

abbrev pub fits_at : Executor → List ℕ → Val (List ℕ) → Bool
fits_at e k v = if bytes_eq k (codes "in") then fits_in e v else fits_other e k v

-- whether each key of the executor is there
abbrev pub has_keys : Executor → Pairs (List ℕ) → Bool
has_keys e args = list_all (λ k. is_there (find k args)) (keys_of e)

-- whether each pair is one that the executor has
abbrev pub all_fit : Executor → Pairs (List ℕ) → Bool
all_fit e no_pairs = true
all_fit e (pair k v ps) = fits_at e k v && all_fit e ps

abbrev pub text_in : Option (Val (List ℕ)) → List ℕ
text_in (Some (text t)) = t
text_in _ = []

abbrev pub natural_in : Option (Val (List ℕ)) → ℕ
natural_in (Some (num (pos n))) = n
natural_in _ = 0

-- the text at the key `text`
abbrev pub text_of : Pairs (List ℕ) → List ℕ
text_of args = text_in (find (codes "text") args)

-- the number at the key `lines`
abbrev pub lines_of : Pairs (List ℕ) → ℕ
lines_of args = natural_in (find (codes "lines") args)
