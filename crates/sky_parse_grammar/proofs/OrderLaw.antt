-- The anonymous functions of a script are numbered in the order in which they stand in it.
use Rattle.std.proofs.Common.{◌≡◌, ℕ, zero, suc, ◌+◌, List, [], ◌∷◌, refl, subst, ap, ◌∙◌, arith}
use Rattle.std.specs.Prelude.{IfSome, slice_get}
use Rattle.sky_base.specs.Tree.{FunDef}
use Rattle.sky_parse_grammar.specs.Lifted.{number_name}
use Rattle.sky_parse_grammar.specs.Tops.{Top, top_count, top_made, made_of}
use Rattle.sky_parse_grammar.specs.Laws.{NumberedInOrder}
use Rattle.sky_parse_grammar.proofs.LiftedLaw.{fun_names, numbered, both, stm_in_order, stms_in_order}

tops_count : List Top → ℕ
tops_count [] = 0
tops_count (t ∷ ts) = top_count t + tops_count ts

top_in_order : (n : ℕ) (t : Top) → fun_names (top_made n t) ≡ numbered n (top_count t)
top_in_order n (Top.fun f) = stms_in_order n f.body
top_in_order n (Top.stmt s) = stm_in_order n s

tops_in_order : (n : ℕ) (tops : List Top) → fun_names (made_of n tops) ≡ numbered n (tops_count tops)
unfolding tops_count
tops_in_order n [] = refl
tops_in_order n (t ∷ ts) = both n (top_count t) (tops_count ts) (top_made n t) (made_of (n + top_count t) ts) (top_in_order n t)
    (tops_in_order (n + top_count t) ts)

-- the function with so many before it, where their names are the numbers from one on
named : (fs : List FunDef) (n m k : ℕ) → fun_names fs ≡ numbered n m → IfSome (slice_get fs k) (λ f. f.name ≡ number_name (n + k))
named [] n m k e = tt
named (f ∷ fs) n zero k e = absurd cc
named (f ∷ fs) n (suc m) zero e =
    let same : f.name ≡ number_name n = cc e in
    let at : n ≡ n + 0 = omega arith in
    same ∙ ap number_name at
named (f ∷ fs) n (suc m) (suc k) e =
    let rest : fun_names fs ≡ numbered (n + 1) m = cc e in
    let at : n + 1 + k ≡ n + suc k = omega arith in
    subst (λ (i : ℕ). IfSome (slice_get fs k) (λ f. f.name ≡ number_name i)) at (named fs (n + 1) m k rest)

pub numbered_in_order : NumberedInOrder
numbered_in_order = λ tops k.
    let at : 0 + k ≡ k = omega arith in
    subst (λ (i : ℕ). IfSome (slice_get (made_of 0 tops) k) (λ f. f.name ≡ number_name i)) at
    (named (made_of 0 tops) 0 (tops_count tops) k (tops_in_order 0 tops))
