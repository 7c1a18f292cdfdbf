-- Clauses on what was answered, and on truth values.
use Rattle.std.proofs.Common.{◌≡◌, Bool, true, false, sym, Result, Ok, Err, IfOk, IfErr}
use Rattle.std.specs.Bool.{MatchBool}
use Rattle.std.proofs.lemmas.Bool.{true≢false}

pub on_ok : {A E : Type 0} {P Q : A → Type 0} (r : Result A E) → ((a : A) → P a → Q a) → IfOk r P → IfOk r Q
on_ok (Ok a) f h = f a h
on_ok (Err e) f h = tt

pub on_err : {A E : Type 0} {P Q : E → Type 0} (r : Result A E) → ((e : E) → P e → Q e) → IfErr r P → IfErr r Q
on_err (Ok a) f h = tt
on_err (Err e) f h = f e h

pub when_false : (P : Type 0) {Q : Type 0} (b : Bool) → b ≡ false → MatchBool b P Q → Q
when_false P true e h = absurd (true≢false e)
when_false P false e h = h

pub when_true : {P : Type 0} (Q : Type 0) (b : Bool) → b ≡ true → MatchBool b P Q → P
when_true Q true e h = h
when_true Q false e h = absurd (true≢false (sym e))

pub so_false : (P : Type 0) {Q : Type 0} (b : Bool) → b ≡ false → Q → MatchBool b P Q
so_false P true e h = absurd (true≢false e)
so_false P false e h = h

pub so_true : {P : Type 0} (Q : Type 0) (b : Bool) → b ≡ true → P → MatchBool b P Q
so_true Q true e h = h
so_true Q false e h = absurd (true≢false (sym e))

pub map_match : {P Q R S : Type 0} (b : Bool) → (P → R) → (Q → S) → MatchBool b P Q → MatchBool b R S
map_match true f g h = f h
map_match false f g h = g h

pub on_both : {A E : Type 0} {P Q R : A → Type 0} (r : Result A E) → ((a : A) → P a → Q a → R a) → IfOk r P → IfOk r Q → IfOk r R
on_both (Ok a) f p q = f a p q
on_both (Err e) f p q = tt
