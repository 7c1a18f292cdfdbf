-- Lines dealt out and cut in parts.
use Rattle.std.specs.Prelude.{ℕ, ◌+◌, ◌-◌, ◌*◌, ◌/◌, ◌%◌, ◌==◌, List, [], ◌∷◌, length, take, drop, map, if◌then◌else◌}
use Rattle.std.specs.List.{range_with_len}

-- the least number of lines for each of n outputs such that all m lines have a place
abbrev pub share : ℕ → ℕ → ℕ
share m n = (m + (n - 1)) / n

-- n outputs, the i-th with the lines i * q to (i + 1) * q - 1 that exist, where q is the share
abbrev pub cut : ℕ → List (List ℕ) → List (List (List ℕ))
cut n lines = map (λ i. take (share (length lines) n) (drop (i * share (length lines) n) lines)) (range_with_len 0 n)

-- of lines that have the places p, p + 1 and so on those whose place leaves i when divided by n
abbrev pub every : ℕ → ℕ → ℕ → List (List ℕ) → List (List ℕ)
every n i p [] = []
every n i p (line ∷ more) = if p % n == i then line ∷ every n i (p + 1) more else every n i (p + 1) more

-- n outputs, the i-th with the lines whose place from 0 leaves i
abbrev pub dealt : ℕ → List (List ℕ) → List (List (List ℕ))
dealt n lines = map (λ i. every n i 0 lines) (range_with_len 0 n)
