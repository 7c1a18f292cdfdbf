-- The functions of a script, over the trees of its text.
use Rattle.std.proofs.Common.{◌≡◌, ℕ, ◌+◌, List, [], ◌∷◌, ◌++◌, Bool, true, false, not, ◌||◌, ◌&&◌, Option, Some, None, inl, inr, refl, sym, ap, ◌∙◌}
use Rattle.std.proofs.Common.{subst}
use Rattle.sky_base.specs.Eval.{is_one_of}
use Rattle.sky_base.specs.Tree.{Place}
use Rattle.sky_base.specs.Val.{same_text}
use Rattle.sky_base.proofs.Exact.{self_text}
use Rattle.sky_parse_grammar.specs.Lifted.{number_name, param_names, stms_names, uses_of, count, exps_count, stm_count, stms_count, arms_count, made}
use Rattle.sky_parse_grammar.specs.Lifted.{exps_made, links_made, ands_made, steps_made, stm_made, stms_made, arms_made, else_made}
use Rattle.sky_parse_grammar.specs.Names.{at_twice, first_of, same_params, same, exps_same, links_same, ands_same, steps_same, stm_same, stms_same}
use Rattle.sky_parse_grammar.specs.Names.{arms_same, else_same, same_names}
use Rattle.sky_parse_grammar.specs.Source.{Param, Exp, Exps, Links, Ands, Steps, Stm, Stms, Arms, Else}
use Rattle.sky_parse_grammar.specs.Tops.{Top, defs_of, made_of, script_of}
use Rattle.sky_parse_grammar.proofs.UsesLaw.{one_of, uses_has}
use Rattle.sky_base_law.specs.Tasks.{Apart, Each, In}
use Rattle.sky_base_law.proofs.Lists.{each_both}
use Rattle.sky_parse_law.specs.Orderly.{Orderly}
use Rattle.sky_parse_law.proofs.NonemptyNames.{HasByte, TopNamed}

none_is : {A : Type 0} {p : A} → Some p ≡ None → ⊥
none_is e = cc

-- neither stands twice where none of two does
neither : {P : Type 0} (a b : Option Place) → first_of a b ≡ None → (a ≡ None → b ≡ None → P) → P
neither None b e f = f refl e
neither (Some p) b e f = absurd (none_is e)

new_name : (b : Bool) (p : Place) → at_twice b p ≡ None → b ≡ false
new_name true p e = absurd (none_is e)
new_name false p e = refl

both : (b : Bool) → b ≡ true → b ≡ false → ⊥
both true e f = cc
both false e f = cc

or_left : (a b : Bool) → a ≡ true → a || b ≡ true
or_left true b e = refl
or_left false b e = absurd (both false e refl)

or_right : (a b : Bool) → b ≡ true → a || b ≡ true
or_right true b e = refl
or_right false b e = e

either : {P : Type 0} (a b : Bool) → a || b ≡ true → (a ≡ true → P) → (b ≡ true → P) → P
either true b e f g = f refl
either false b e f g = g e

both_are : {P : Type 0} (a b : Bool) → a && b ≡ true → (a ≡ true → b ≡ true → P) → P
both_are true b e f = f refl e
both_are false b e f = absurd (both false e refl)

-- ---- parameters

stays_in : (x : List ℕ) (seen more : List (List ℕ)) → is_one_of x seen ≡ true → is_one_of x (seen ++ more) ≡ true
stays_in x [] more e = absurd (both false e refl)
stays_in x (y ∷ seen) more e =
    one_of x y (seen ++ more) ∙ either (same_text x y) (is_one_of x seen) (sym (one_of x y seen) ∙ e)
    (λ s. or_left (same_text x y) (is_one_of x (seen ++ more)) s)
    (λ i. or_right (same_text x y) (is_one_of x (seen ++ more)) (stays_in x seen more i))

last_in : (x : List ℕ) (seen : List (List ℕ)) → is_one_of x (seen ++ x ∷ []) ≡ true
last_in x [] = one_of x x [] ∙ or_left (same_text x x) false (self_text x)
last_in x (y ∷ seen) = one_of x y (seen ++ x ∷ []) ∙ or_right (same_text x y) (is_one_of x (seen ++ x ∷ [])) (last_in x seen)

in_one_of : (x : List ℕ) (xs : List (List ℕ)) → In x xs → is_one_of x xs ≡ true
in_one_of x [] i = absurd i
in_one_of x (y ∷ xs) (inl e) = one_of x y xs ∙ or_left (same_text x y) (is_one_of x xs) (subst (λ z. same_text x z ≡ true) e (self_text x))
in_one_of x (y ∷ xs) (inr i) = one_of x y xs ∙ or_right (same_text x y) (is_one_of x xs) (in_one_of x xs i)

-- none of these names was seen before
abbrev Fresh : List (List ℕ) → List Param → Type 0
Fresh seen xs = (y : List ℕ) → is_one_of y seen ≡ true → In y (param_names xs) → ⊥

params_apart : (seen : List (List ℕ)) (xs : List Param) → same_params seen xs ≡ None → Apart (param_names xs) × Fresh seen xs
params_apart seen [] e = (tt, λ y s i. i)
params_apart seen (x ∷ xs) e =
    neither (at_twice (is_one_of x.name seen) x.place) (same_params (seen ++ x.name ∷ []) xs) e
    (λ a b. joined (new_name (is_one_of x.name seen) x.place a) (params_apart (seen ++ x.name ∷ []) xs b))
  where
    joined : is_one_of x.name seen ≡ false → Apart (param_names xs) × Fresh (seen ++ x.name ∷ []) xs → Apart (param_names (x ∷ xs))
        × Fresh seen (x ∷ xs)
    joined new rest = ((rest.1 x.name (last_in x.name seen), rest.0), fresh)
      where
        fresh : Fresh seen (x ∷ xs)
        fresh y s (inl q) = both (is_one_of y seen) s (ap (λ z. is_one_of z seen) q ∙ new)
        fresh y s (inr i) = rest.1 y (stays_in y seen (x.name ∷ []) s) i

no_param : (xs names : List (List ℕ)) (x : List ℕ) → is_one_of x (uses_of xs names) ≡ true → In x xs → ⊥
no_param xs names x u i =
    both_are (is_one_of x names) (not (is_one_of x xs)) (sym (uses_has x xs names) ∙ u)
    (λ a b. both (not (is_one_of x xs)) b (ap not (in_one_of x xs i)))

-- ---- functions

numbered : (n : ℕ) → number_name n ≡ [] → ⊥
numbered n e = cc

has_name : (x : List ℕ) → HasByte x → x ≡ [] → ⊥
has_name [] h e = h
has_name (b ∷ x) h e = cc

mutual
  exp_orderly : (n : ℕ) (x : Exp) → same x ≡ None → Each Orderly (made n x)
  exp_orderly n (Exp.literal v p) e0 = tt
  exp_orderly n (Exp.name x p) e0 = tt
  exp_orderly n (Exp.func p xs b) e0 = neither (same_params [] xs) (stms_same b) e0
      (λ e1 e2. (
        record { named = numbered n; apart = (params_apart [] xs e1).0; captured = no_param (param_names xs) (stms_names b) },
        stms_orderly (n + 1) b e2,
      ))
  exp_orderly n (Exp.parens e) e0 = exp_orderly n e e0
  exp_orderly n (Exp.parts o p es) e0 = exps_orderly n es e0
  exp_orderly n (Exp.chain e ls) e0 = neither (same e) (links_same ls) e0
      (λ e1 e2. each_both Orderly (made n e) (links_made (n + count e) ls) (exp_orderly n e e1) (links_orderly (n + count e) ls e2))
  exp_orderly n (Exp.logic j e ls) e0 = neither (same e) (ands_same ls) e0
      (λ e1 e2. each_both Orderly (made n e) (ands_made (n + count e) ls) (exp_orderly n e e1) (ands_orderly (n + count e) ls e2))
  exp_orderly n (Exp.prefix ss e) e0 = exp_orderly n e e0
  exp_orderly n (Exp.postfix e ss) e0 = neither (same e) (steps_same ss) e0
      (λ e1 e2. each_both Orderly (made n e) (steps_made (n + count e) ss) (exp_orderly n e e1) (steps_orderly (n + count e) ss e2))

  exps_orderly : (n : ℕ) (x : Exps) → exps_same x ≡ None → Each Orderly (exps_made n x)
  exps_orderly n Exps.no_exps e0 = tt
  exps_orderly n (Exps.exp e es) e0 = neither (same e) (exps_same es) e0
      (λ e1 e2. each_both Orderly (made n e) (exps_made (n + count e) es) (exp_orderly n e e1) (exps_orderly (n + count e) es e2))

  links_orderly : (n : ℕ) (x : Links) → links_same x ≡ None → Each Orderly (links_made n x)
  links_orderly n Links.no_links e0 = tt
  links_orderly n (Links.link o p e ls) e0 = neither (same e) (links_same ls) e0
      (λ e1 e2. each_both Orderly (made n e) (links_made (n + count e) ls) (exp_orderly n e e1) (links_orderly (n + count e) ls e2))

  ands_orderly : (n : ℕ) (x : Ands) → ands_same x ≡ None → Each Orderly (ands_made n x)
  ands_orderly n Ands.no_ands e0 = tt
  ands_orderly n (Ands.and p e ls) e0 = neither (same e) (ands_same ls) e0
      (λ e1 e2. each_both Orderly (made n e) (ands_made (n + count e) ls) (exp_orderly n e e1) (ands_orderly (n + count e) ls e2))

  steps_orderly : (n : ℕ) (x : Steps) → steps_same x ≡ None → Each Orderly (steps_made n x)
  steps_orderly n Steps.no_steps e0 = tt
  steps_orderly n (Steps.index e p ss) e0 = neither (same e) (steps_same ss) e0
      (λ e1 e2. each_both Orderly (made n e) (steps_made (n + count e) ss) (exp_orderly n e e1) (steps_orderly (n + count e) ss e2))
  steps_orderly n (Steps.call es p ss) e0 = neither (exps_same es) (steps_same ss) e0
      (λ e1 e2. each_both Orderly (exps_made n es) (steps_made (n + exps_count es) ss) (exps_orderly n es e1)
      (steps_orderly (n + exps_count es) ss e2))

  stm_orderly : (n : ℕ) (x : Stm) → stm_same x ≡ None → Each Orderly (stm_made n x)
  stm_orderly n (Stm.set x p e) e0 = exp_orderly n e e0
  stm_orderly n (Stm.add x q p e) e0 = exp_orderly n e e0
  stm_orderly n (Stm.put x q p i e) e0 = neither (same i) (same e) e0
      (λ e1 e2. each_both Orderly (made n i) (made (n + count i) e) (exp_orderly n i e1) (exp_orderly (n + count i) e e2))
  stm_orderly n (Stm.return p e) e0 = exp_orderly n e e0
  stm_orderly n (Stm.leave p) e0 = tt
  stm_orderly n (Stm.cases p arms els) e0 = neither (arms_same arms) (else_same els) e0
      (λ e1 e2. each_both Orderly (arms_made n arms) (else_made (n + arms_count arms) els) (arms_orderly n arms e1)
      (else_orderly (n + arms_count arms) els e2))
  stm_orderly n (Stm.while p e b) e0 = neither (same e) (stms_same b) e0
      (λ e1 e2. each_both Orderly (made n e) (stms_made (n + count e) b) (exp_orderly n e e1) (stms_orderly (n + count e) b e2))
  stm_orderly n (Stm.repeat p b e) e0 = neither (stms_same b) (same e) e0
      (λ e1 e2. each_both Orderly (stms_made n b) (made (n + stms_count b) e) (stms_orderly n b e1) (exp_orderly (n + stms_count b) e e2))
  stm_orderly n (Stm.for p x e b) e0 = neither (same e) (stms_same b) e0
      (λ e1 e2. each_both Orderly (made n e) (stms_made (n + count e) b) (exp_orderly n e e1) (stms_orderly (n + count e) b e2))
  stm_orderly n (Stm.just p e) e0 = exp_orderly n e e0

  stms_orderly : (n : ℕ) (x : Stms) → stms_same x ≡ None → Each Orderly (stms_made n x)
  stms_orderly n Stms.no_stms e0 = tt
  stms_orderly n (Stms.stm s ss) e0 = neither (stm_same s) (stms_same ss) e0
      (λ e1 e2. each_both Orderly (stm_made n s) (stms_made (n + stm_count s) ss) (stm_orderly n s e1) (stms_orderly (n + stm_count s) ss e2))

  arms_orderly : (n : ℕ) (x : Arms) → arms_same x ≡ None → Each Orderly (arms_made n x)
  arms_orderly n Arms.no_arms e0 = tt
  arms_orderly n (Arms.arm p e b arms) e0 = neither (same e) (first_of (stms_same b) (arms_same arms)) e0
      (λ e1 r. neither (stms_same b) (arms_same arms) r
      (λ e2 e3. each_both Orderly (made n e) ((stms_made (n + count e) b) ++ (arms_made (n + count e + stms_count b) arms)) (exp_orderly n e e1)
      (each_both Orderly (stms_made (n + count e) b) (arms_made (n + count e + stms_count b) arms) (stms_orderly (n + count e) b e2)
      (arms_orderly (n + count e + stms_count b) arms e3))))

  else_orderly : (n : ℕ) (x : Else) → else_same x ≡ None → Each Orderly (else_made n x)
  else_orderly n Else.no_else e0 = tt
  else_orderly n (Else.otherwise b) e0 = stms_orderly n b e0

-- ---- scripts

nothing_captured : (x : List ℕ) → is_one_of x [] ≡ true → ⊥
nothing_captured x e = both false e refl

defs_orderly : (n : ℕ) (seen : List (List ℕ)) (ts : List Top) → Each TopNamed ts → same_names seen ts ≡ None → Each Orderly (defs_of n ts)
defs_orderly n seen [] ns e = tt
defs_orderly n seen (Top.fun f ∷ ts) ns e =
    neither (at_twice (is_one_of f.name seen) f.place)
    (first_of (same_params [] f.params) (first_of (stms_same f.body) (same_names (seen ++ f.name ∷ []) ts))) e
    (λ a r. neither (same_params [] f.params) (first_of (stms_same f.body) (same_names (seen ++ f.name ∷ []) ts)) r
    (λ s q. neither (stms_same f.body) (same_names (seen ++ f.name ∷ []) ts) q
    (λ b t. (
      record { named = has_name f.name ns.0; apart = (params_apart [] f.params s).0; captured = λ x u i. nothing_captured x u },
      defs_orderly (n + stms_count f.body) (seen ++ f.name ∷ []) ts ns.1 t,
    ))))
defs_orderly n seen (Top.stmt s ∷ ts) ns e =
    neither (stm_same s) (same_names seen ts) e (λ a b. defs_orderly (n + stm_count s) seen ts ns.1 b)

all_orderly : (n : ℕ) (seen : List (List ℕ)) (ts : List Top) → same_names seen ts ≡ None → Each Orderly (made_of n ts)
all_orderly n seen [] e = tt
all_orderly n seen (Top.fun f ∷ ts) e =
    neither (at_twice (is_one_of f.name seen) f.place)
    (first_of (same_params [] f.params) (first_of (stms_same f.body) (same_names (seen ++ f.name ∷ []) ts))) e
    (λ a r. neither (same_params [] f.params) (first_of (stms_same f.body) (same_names (seen ++ f.name ∷ []) ts)) r
    (λ s q. neither (stms_same f.body) (same_names (seen ++ f.name ∷ []) ts) q
    (λ b t. each_both Orderly (stms_made n f.body) (made_of (n + stms_count f.body) ts) (stms_orderly n f.body b)
    (all_orderly (n + stms_count f.body) (seen ++ f.name ∷ []) ts t))))
all_orderly n seen (Top.stmt s ∷ ts) e =
    neither (stm_same s) (same_names seen ts) e
    (λ a b. each_both Orderly (stm_made n s) (made_of (n + stm_count s) ts) (stm_orderly n s a) (all_orderly (n + stm_count s) seen ts b))

pub script_orderly : (keys : List (List ℕ)) (tops : List Top) → Each TopNamed tops → same_names [] tops ≡ None
    → Each Orderly (script_of keys tops).funs
script_orderly keys tops ns e = each_both Orderly (defs_of 0 tops) (made_of 0 tops) (defs_orderly 0 [] tops ns e) (all_orderly 0 [] tops e)
