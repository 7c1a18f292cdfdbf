-- What was read of a reader that is cut at a limit.
use Rattle.std.proofs.Common.{◌≡◌, ℕ, ◌<◌, List, [], ◌++◌, Option, Some, None, IfSome, option_map, length, take, ap, ◌∙◌, arith, length-take}
use Rattle.std.proofs.lemmas.List.{take_all}

-- fewer bytes than the cut would let through are all that there are
pub all_read : (o : Option (List ℕ)) (n : ℕ) (b start : List ℕ) → start ≡ [] → length b < n
    → IfSome (option_map (take n) o) (λ ys. b ≡ start ++ ys) → IfSome o (λ xs. b ≡ xs)
all_read None n b start s h e = tt
all_read (Some xs) n b start s h e =
    let cut : b ≡ take n xs = rw s at e in
    cut ∙ take_all n xs (omega (arith, length-take n xs, ap length cut))
