-- The levels of chains by their ranks.
use Rattle.std.proofs.Common.{◌≡◌, ◌⊎◌, inl, inr, ℕ, suc, ◌≤◌, Option, Some, None, refl, sym, ap, ◌∙◌, arith}
use Rattle.sky_parse_grammar.specs.Levels.{junction_level}
use Rattle.sky_parse_grammar.specs.declared.level.Level.{Level}
use Rattle.sky_parse_grammar.specs.Levels.{rank, tighter, junction, join_sign}
use Rattle.sky_parse_grammar.specs.Grammar.{junction_sign}

above : Option Level → ℕ
above None = 6
above (Some l) = rank l

above_rank : (l : Level) → above (tighter l) ≡ suc (rank l)
unfolding above
above_rank Level.Either = refl
above_rank Level.Both = refl
above_rank Level.Comparison = refl
above_rank Level.Sum = refl
above_rank Level.Product = refl
above_rank Level.Prefix = refl

pub tighter_rank : (l m : Level) → tighter l ≡ Some m → rank m ≡ suc (rank l)
unfolding above
tighter_rank l m e = sym (ap above e) ∙ above_rank l

pub tightest : (l : Level) → tighter l ≡ None → rank l ≡ 5
unfolding above
tightest l e = let h : 6 ≡ suc (rank l) = sym (ap above e) ∙ above_rank l in omega (arith, h)

pub rank_low : (l : Level) → rank l ≤ 5
rank_low Level.Either = omega arith
rank_low Level.Both = omega arith
rank_low Level.Comparison = omega arith
rank_low Level.Sum = omega arith
rank_low Level.Product = omega arith
rank_low Level.Prefix = omega arith

pub join_is : (l : Level) → join_sign l ≡ junction_sign (junction l)
join_is Level.Either = refl
join_is Level.Both = refl
join_is Level.Comparison = refl
join_is Level.Sum = refl
join_is Level.Product = refl
join_is Level.Prefix = refl

pub ruleset ranks = (tighter_rank, tightest, rank_low)

pub junction_rank : (l : Level) → rank l ≤ 1 → junction_level (junction l) ≡ rank l
junction_rank Level.Either h = refl
junction_rank Level.Both h = refl
junction_rank Level.Comparison h = absurd (omega (arith, h))
junction_rank Level.Sum h = absurd (omega (arith, h))
junction_rank Level.Product h = absurd (omega (arith, h))
junction_rank Level.Prefix h = absurd (omega (arith, h))

pub sum_high : (l : Level) → (l ≡ Level.Sum) ⊎ (l ≡ Level.Product) → 3 ≤ rank l
sum_high l (inl e) = omega (arith, ap rank e)
sum_high l (inr e) = omega (arith, ap rank e)

pub truth_low : (l : Level) → (l ≡ Level.Either) ⊎ (l ≡ Level.Both) → rank l ≤ 1
truth_low l (inl e) = omega (arith, ap rank e)
truth_low l (inr e) = omega (arith, ap rank e)
