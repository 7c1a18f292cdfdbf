-- Names in ordered sets.
use Rattle.std.proofs.Common.{◌≡◌, ℕ, suc, ◌+◌, ◌<◌, List, [], ◌∷◌, ◌++◌, Bool, true, false, not, Option, drop, drop-cons, get_or, length}
use Rattle.std.proofs.Common.{append_assoc, refl, sym, ap, ◌∙◌, arith}
use Rattle.sky_base.specs.Tree.{Place}
use Rattle.sky_base.specs.TreeView.{at}
use Rattle.sky_parse_grammar.specs.Source.{Param}
use Rattle.sky_parse_grammar.specs.Names.{first_of, at_twice, same_params}
use Rattle.sky_parse_held.specs.Params.{params_view}
use Rattle.sky_parse_held.specs.declared.made.Parameter.{Parameter}
use Rattle.sky_parse_held.proofs.HeldLaw.{first_assoc}
use Rattle.std.specs.Prelude.{◌||◌}
use Rattle.std.specs.List.{list_any}
use Rattle.std.specs.BTreeMap.{is_at}
use Rattle.std.specs.BTreeSet.{insert_key}
use Rattle.sky_base.specs.Val.{same_text}
use Rattle.sky_base.specs.Eval.{is_one_of}
use Rattle.sky_parse_grammar.specs.Lifted.{text_cmp, param_names, use_unless, uses_from}
use Rattle.sky_parse_grammar.proofs.UsesLaw.{one_of, insert_has}

pub contains_is : (x : List ℕ) (ks : List (List ℕ)) → list_any (is_at (text_cmp x)) ks ≡ is_one_of x ks
contains_is x [] = refl
contains_is x (k ∷ ks) = ap (λ b. same_text x k || b) (contains_is x ks) ∙ sym (one_of x k ks)

pub was_there : (a b : Bool) → a ≡ not b → not a ≡ b
was_there a true e = ap not e
was_there a false e = ap not e

or_assoc : (a b c : Bool) → (a || b) || c ≡ a || (b || c)
or_assoc true b c = refl
or_assoc false b c = refl

or_swap : (a b : Bool) → a || b ≡ b || a
or_swap true true = refl
or_swap true false = refl
or_swap false true = refl
or_swap false false = refl

-- one more name at the end
pub one_more : (z x : List ℕ) (us : List (List ℕ)) → is_one_of z (us ++ x ∷ []) ≡ same_text z x || is_one_of z us
one_more z x [] = one_of z x []
one_more z x (y ∷ us) = one_of z y (us ++ x ∷ []) ∙ ap (λ b. same_text z y || b) (one_more z x us)
    ∙ sym (or_assoc (same_text z y) (same_text z x) (is_one_of z us)) ∙ ap (λ b. b || is_one_of z us) (or_swap (same_text z y) (same_text z x))
    ∙ or_assoc (same_text z x) (same_text z y) (is_one_of z us) ∙ ap (λ b. same_text z x || b) (sym (one_of z y us))

-- what is known is what stood, also with one more
pub known_more : (x : List ℕ) (ks new seen : List (List ℕ)) → new ≡ insert_key text_cmp ks x → ((z : List ℕ) → is_one_of z ks ≡ is_one_of z seen)
    → (z : List ℕ) → is_one_of z new ≡ is_one_of z (seen ++ x ∷ [])
known_more x ks new seen e h z = ap (is_one_of z) e ∙ insert_has z x ks ∙ ap (λ b. same_text z x || b) (h z) ∙ sym (one_more z x seen)

-- what is known and what is to come are all
pub known_next : (x : List ℕ) (ks new rest : List (List ℕ)) → new ≡ insert_key text_cmp ks x → (z : List ℕ) → is_one_of z new || is_one_of z rest
    ≡ is_one_of z ks || is_one_of z (x ∷ rest)
known_next x ks new rest e z =
    ap (λ us. is_one_of z us || is_one_of z rest) e
    ∙ ap (λ b. b || is_one_of z rest) (insert_has z x ks ∙ or_swap (same_text z x) (is_one_of z ks))
    ∙ or_assoc (is_one_of z ks) (same_text z x) (is_one_of z rest) ∙ ap (λ b. is_one_of z ks || b) (sym (one_of z x rest))

pub or_nothing : (b : Bool) → b || false ≡ b
or_nothing true = refl
or_nothing false = refl

-- what a body uses depends on which names the parameters are alone
pub uses_same : (xs ys : List (List ℕ)) → ((z : List ℕ) → is_one_of z xs ≡ is_one_of z ys) → (us zs : List (List ℕ)) → uses_from xs us zs
    ≡ uses_from ys us zs
uses_same xs ys h us [] = refl
uses_same xs ys h us (z ∷ zs) = ap (λ b. uses_from xs (use_unless b us z) zs) (h z) ∙ uses_same xs ys h (use_unless (is_one_of z ys) us z) zs

-- what is left of a list is its next item and what is left behind it
pub item_at : {A : Type 0} (xs : List A) (i : ℕ) (x : A) → i < length xs → x ≡ get_or xs i x → drop i xs ≡ x ∷ drop (i + 1) xs
item_at xs i x h e =
    let n : suc i ≡ i + 1 = omega arith in
    drop-cons xs i x h ∙ (λ k. sym e k ∷ drop (n k) xs)

pub param_at : (xs : List Parameter) (i : ℕ) (x : Parameter) → i < length xs → x ≡ get_or xs i x → params_view (drop i xs)
    ≡ record { name = x.name; place = at x.line x.col } ∷ params_view (drop (i + 1) xs)
param_at xs i x h e = ap params_view (item_at xs i x h e)

-- parameters, of which one more was read
pub names_read : (items new : List (List ℕ)) (x : Param) (now rest all : List Param) → now ≡ x ∷ rest → new ≡ items ++ x.name ∷ [] → items
    ++ param_names now ≡ param_names all → new ++ param_names rest ≡ param_names all
names_read items new x now rest all e f g = ap (λ ys. ys ++ param_names rest) f ∙ append_assoc items (x.name ∷ []) (param_names rest)
    ∙ ap (λ ps. items ++ param_names ps) (sym e) ∙ g

pub same_read : (old found : Option Place) (twice : Bool) (items new : List (List ℕ)) (x : Param) (now rest all : List Param) → now ≡ x ∷ rest
    → new ≡ items ++ x.name ∷ [] → twice ≡ is_one_of x.name items → found ≡ first_of old (at_twice twice x.place)
    → first_of old (same_params items now) ≡ same_params [] all → first_of found (same_params new rest) ≡ same_params [] all
same_read old found twice items new x now rest all e f t n g =
    (λ i. first_of (n i) (same_params (f i) rest)) ∙ first_assoc old (at_twice twice x.place) (same_params (items ++ x.name ∷ []) rest)
    ∙ ap (λ b. first_of old (first_of (at_twice b x.place) (same_params (items ++ x.name ∷ []) rest))) t
    ∙ ap (λ ps. first_of old (same_params items ps)) (sym e) ∙ g
