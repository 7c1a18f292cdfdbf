-- A kit with entries gives as many outputs as were asked for. This is the proof of a law of kits, which an implementation needs beside its
-- definitions.
use Rattle.std.specs.Prelude.{◌≡◌, ℕ, List, [], ◌∷◌, Bool, true, false, ◌&&◌, ◌==◌, Option, Some, None, Result, IfOk, IfSome, length}
use Rattle.std.specs.Prelude.{if◌then◌else◌, refl}
use Rattle.std.proofs.lemmas.Bool.{eqb-true}
use Rattle.sky_base.proofs.Exact.{both_second}
use Rattle.sky_base.specs.KitView.{Gives}
use Rattle.sky_base.specs.Val.{Val, same_text, same_val}
use Rattle.sky_base.specs.declared.fault.FaultKind.{FaultKind}
use Rattle.ciel_memo_file.specs.Entries.{Entry, has_key, made_for, same_lists}
use Rattle.ciel_memo.specs.Gives.{knows, memo_gives, unless_made}

module _ (executor : List ℕ) (args : Val (List ℕ)) (inputs : List (List ℕ)) (n : ℕ) where
  counts_if : (e : Entry) (es : List Entry) → IfSome (made_for es executor args inputs n) (λ made. length made ≡ n) → (b : Bool)
      → (b ≡ true → length e.made ≡ n) → IfSome (if b then Some e.made else made_for es executor args inputs n) (λ made. length made ≡ n)
  counts_if e es h true f = f refl
  counts_if e es h false f = h

  has_counts : (e : Entry) → has_key executor args inputs n e ≡ true → length e.made ≡ n
  has_counts e h =
      eqb-true (length e.made) n (both_second (same_lists e.inputs inputs) (length e.made == n)
      (both_second (same_val same_text e.args args) (same_lists e.inputs inputs && length e.made == n)
      (both_second (same_text e.executor executor) (same_val same_text e.args args && (same_lists e.inputs inputs && length e.made == n)) h)))

  made_counts : (es : List Entry) → IfSome (made_for es executor args inputs n) (λ made. length made ≡ n)
  made_counts [] = tt
  made_counts (e ∷ es) = counts_if e es (made_counts es) (has_key executor args inputs n e) (has_counts e)

unless_counts : (n : ℕ) (o : Option (List (List ℕ))) (b : Bool) (r : Result (List (List ℕ)) FaultKind) → IfSome o (λ made. length made ≡ n)
    → IfOk r (λ outputs. length outputs ≡ n) → IfOk (unless_made o b r) (λ outputs. length outputs ≡ n)
unless_counts n None b r h k = k
unless_counts n (Some made) true r h k = h
unless_counts n (Some made) false r h k = k

abbrev Counts : Gives → Type 0
Counts g =
    (executor : List ℕ) (args : Val (List ℕ)) (inputs : List (List ℕ)) (n : ℕ) → IfOk (g executor args inputs n) (λ outputs. length outputs ≡ n)

pub memo_counts : (g : Gives) (es : List Entry) → Counts g → Counts (memo_gives g es)
memo_counts g es c executor args inputs n =
    unless_counts n (made_for es executor args inputs n) (knows g executor) (g executor args inputs n) (made_counts executor args inputs n es)
    (c executor args inputs n)
