-- The functions of the code as the list that they stand for.
use Rattle.std.proofs.Common.{◌≡◌, ◌<◌, ◌∙◌, ℕ, zero, suc, List, [], ◌∷◌, ◌++◌, length, length-drop, slice_set, get_or, take, take_all, drop, ◌-◌}
use Rattle.std.proofs.Common.{Option, refl, sym, ap, arith}
use Rattle.sky_base.specs.Tree as run
use Rattle.sky_base.specs.ScriptView.{fun_view, funs_view}
use Rattle.sky_base.specs.declared.script.FunDef.{FunDef}
use Rattle.sky_parse_grammar.specs.Lifted.{uses_of}
use Rattle.sky_base.specs.Tree.{Place}
use Rattle.sky_parse_held.specs.Held.{Held, closed_at, with_body}

pub funs_length : (fs : List FunDef) → length (funs_view fs) ≡ length fs
funs_length [] = refl
funs_length (f ∷ fs) = ap suc (funs_length fs)

pub funs_push : (fs : List FunDef) (f : FunDef) → funs_view (fs ++ f ∷ []) ≡ funs_view fs ++ fun_view f ∷ []
funs_push [] f = refl
funs_push (g ∷ fs) f = ap (λ gs. fun_view g ∷ gs) (funs_push fs f)

pub ruleset made = (funs_length, funs_push)

abbrev record_of : List run.FunDef → List (List ℕ) → Option Place → Held
record_of fs ns o = record { funs = fs; names = ns; same = o }

-- the function of a number with its body and what this uses
pub body_set : (fs : List FunDef) (n : ℕ) (f d : FunDef) (b : run.Stms) (us ys : List (List ℕ)) → n < length fs → f ≡ get_or fs n d → us
    ≡ uses_of f.params ys
    → funs_view (slice_set fs n (record { name = f.name; params = f.params; body = b; line = f.line; col = f.col; uses = us }))
    ≡ closed_at n b ys (funs_view fs)
body_set [] n f d b us ys h e u = absurd (omega (arith, h))
body_set (g ∷ fs) zero f d b us ys h e u =
    (λ i. record { name = f.name; params = f.params; body = b; place = record { line = f.line; col = f.col }; uses = u i } ∷ funs_view fs)
    ∙ ap (λ k. with_body b ys (fun_view k) ∷ funs_view fs) e
body_set (g ∷ fs) (suc n) f d b us ys h e u = ap (λ gs. fun_view g ∷ gs) (body_set fs n f d b us ys (omega (arith, h)) e u)

-- what is read twice at one place is the same
pub read_twice : {A : Type 0} (xs : List A) (n : ℕ) (x y : A) → n < length xs → x ≡ get_or xs n x → y ≡ get_or xs n y → x ≡ y
read_twice [] n x y h e f = absurd (omega (arith, h))
read_twice (z ∷ xs) zero x y h e f = e ∙ sym f
read_twice (z ∷ xs) (suc n) x y h e f = read_twice xs n x y (omega (arith, h)) e f

-- all that is left of a list
pub take_rest : {A : Type 0} (n : ℕ) (xs : List A) → take (length xs - n) (drop n xs) ≡ drop n xs
take_rest n xs = take_all (length xs - n) (drop n xs) (omega (arith, length-drop n xs))

pub held_funs : {fs gs : List run.FunDef} {ns : List (List ℕ)} {o : Option Place} → fs ≡ gs → record_of fs ns o ≡ record_of gs ns o
held_funs {ns = ns} {o = o} e = ap (λ fs. record_of fs ns o) e
