-- What the values of options are read as.
use Rattle.std.specs.Prelude.{ℕ, ◌-◌, ◌^◌, ◌==◌, ◌&&◌, Bool, nat_le, if◌then◌else◌, codes}
use Rattle.std.specs.Prelude.{List, [], ◌∷◌, length, Option, Some, None, option_map, option_and_then}
use Rattle.std.specs.Char.{is_ascii_digit}
use Rattle.std.specs.List.{list_all, before_first, after_first}
use Rattle.std.specs.Str.{bytes_eq}
use Rattle.std.specs.Str.Parse.{digits_value}
use Rattle.ciel_words.specs.declared.words.NameKind.{NameKind}

-- a value read, or what stands for it where the option is absent
abbrev pub or_absent : {A : Type 0} → A → (List ℕ → Option A) → Option (List ℕ) → Option A
or_absent absent read None = Some absent
or_absent absent read (Some value) = read value

-- 1 to 20 decimal digits
abbrev pub is_number : List ℕ → Bool
is_number t = nat_le 1 (length t) && nat_le (length t) 20 && list_all is_ascii_digit t

-- the number that a text writes, where it is one between these two
abbrev pub number_within : (low high : ℕ) → List ℕ → Option ℕ
number_within low high t =
    if is_number t && nat_le low (digits_value 10 t) && nat_le (digits_value 10 t) high then Some (digits_value 10 t) else None

abbrev pub is_comma : ℕ → Bool
is_comma b = b == 44

abbrev pub is_colon : ℕ → Bool
is_colon b = b == 58

abbrev pub onto_first : ℕ → List (List ℕ) → List (List ℕ)
onto_first b [] = (b ∷ []) ∷ []
onto_first b (p ∷ ps) = (b ∷ p) ∷ ps

-- the pieces of a text between its commas
abbrev pub pieces : List ℕ → List (List ℕ)
pieces [] = [] ∷ []
pieces (b ∷ bs) = if is_comma b then [] ∷ pieces bs else onto_first b (pieces bs)

-- a loss K:W, of a worker below `workers`
abbrev pub count_in : List ℕ → List ℕ
count_in pair = before_first is_colon pair

abbrev pub worker_in : List ℕ → List ℕ
worker_in pair = after_first is_colon pair

abbrev pub loss_in : (workers : ℕ) → List ℕ → Option (ℕ × ℕ)
loss_in workers pair =
    let worker = number_within 0 (workers - 1) (worker_in pair) in
    option_and_then (λ k. option_map (λ w. (k, w)) worker) (number_within 0 (2 ^ 32 - 1) (count_in pair))

abbrev pub each_loss : (workers : ℕ) → List (List ℕ) → Option (List (ℕ × ℕ))
each_loss workers [] = Some []
each_loss workers (p ∷ ps) = option_and_then (λ loss. option_map (λ more. loss ∷ more) (each_loss workers ps)) (loss_in workers p)

-- the greatest number of losses
abbrev pub most_losses : ℕ
most_losses = 64

-- 1 to 64 losses with commas between
abbrev pub losses_in : (workers : ℕ) → List ℕ → Option (List (ℕ × ℕ))
losses_in workers t = if nat_le (length (pieces t)) most_losses then each_loss workers (pieces t) else None

-- `sha1` or `sha256`
abbrev pub names_in : List ℕ → Option NameKind
names_in t =
    if bytes_eq t (codes "sha1") then Some NameKind.Sha1
    else if bytes_eq t (codes "sha256") then Some NameKind.Sha256
    else None
