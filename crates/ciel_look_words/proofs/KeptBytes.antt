-- Bytes that are kept, put one behind the other.
use Rattle.std.proofs.Common.{◌≡◌, ◌≤◌, ◌+◌, ℕ, zero, suc, List, [], ◌∷◌, ◌++◌, Bool, true, false, cond, length, take, refl, ap, sym, ◌∙◌, None}
use Rattle.std.proofs.Common.{append_assoc, append-nil, arith, codes, nat_lt, length-append}
use Rattle.std.proofs.lemmas.List.{take-append-le, take-take, length-take-le}
use Rattle.std.proofs.Math.Seq.{take-append-add}
use Rattle.std.proofs.lemmas.Bool.{ltb-false, ltb-true}
use Rattle.ciel_look_words.specs.Kept.{Puts}
use Rattle.sky_base.specs.Val.{Val, Pairs, Vals, null, truth, num, text, list, dict, fun, ref, pair}
use Rattle.sky_base.specs.View.{pairs_of, view}
use Rattle.sky_base.specs.declared.value.Pair.{Pair}
use Rattle.sky_base.specs.declared.value.Value.{Value}
use Rattle.ciel_look_words.specs.Words.{call_head, call_words, clipped, given_words, only, vals_words, value_words}

take_all : (n : ℕ) (xs : List ℕ) → length xs ≤ n → take n xs ≡ xs
take_all zero [] h = refl
take_all (suc n) [] h = refl
take_all zero (x ∷ xs) h = absurd (omega (arith, h))
take_all (suc n) (x ∷ xs) h = ap (λ ys. x ∷ ys) (take_all n xs (omega (arith, h)))

pub puts_none : (old : List ℕ) → Puts old [] old
puts_none old = record { kept = λ more. refl }

-- nothing is kept of what comes when there is no room
pub puts_full : (old bytes : List ℕ) → 61 ≤ length old → Puts old bytes old
puts_full old bytes h =
    record { kept = λ more. take-append-le 61 old more h ∙ sym (take-append-le 61 old (bytes ++ more) h) }

pub puts_two : (o m n a b : List ℕ) → Puts o a m → Puts m b n → Puts o (a ++ b) n
puts_two o m n a b f g =
    record { kept = λ more. g.kept more ∙ f.kept (b ++ more) ∙ ap (λ z. take 61 (o ++ z)) (sym (append_assoc a b more)) }

pub puts_three : (o m n p a b c : List ℕ) → Puts o a m → Puts m b n → Puts n c p → Puts o (a ++ (b ++ c)) p
puts_three o m n p a b c f g h = puts_two o m p a (b ++ c) f (puts_two m n p b c g h)

pub puts_four : (o m n p q a b c d : List ℕ) → Puts o a m → Puts m b n → Puts n c p → Puts p d q → Puts o (a ++ (b ++ (c ++ d))) q
puts_four o m n p q a b c d f g h k = puts_two o m q a (b ++ (c ++ d)) f (puts_three m n p q b c d g h k)

-- as many are put as there is room for
pub puts_all : (old bytes : List ℕ) → Puts old bytes (old ++ bytes)
puts_all old bytes = record { kept = λ more. ap (take 61) (append_assoc old bytes more) }

pub puts_cut : (old bytes : List ℕ) (room : ℕ) → length old + room ≡ 61 → room ≤ length bytes → Puts old bytes (old ++ take room bytes)
puts_cut old bytes room s r =
    let len : length (old ++ take room bytes) ≡ 61 =
    length-append old (take room bytes) ∙ ap (λ n. length old + n) (length-take-le room bytes r) ∙ s in
    record {
      kept = λ more. take-append-le 61 (old ++ take room bytes) more (omega (arith, len))
          ∙ take_all 61 (old ++ take room bytes) (omega (arith, len))
          ∙ sym (ap (λ n. take n (old ++ (bytes ++ more))) (sym s) ∙ take-append-add old (bytes ++ more) room
          ∙ ap (λ z. old ++ z) (take-append-le room bytes more r));
    }

-- ---- what is shown

clip_first : (xs : List ℕ) → clipped (take 61 xs) ≡ clipped xs
clip_first xs = go (nat_lt 60 (length xs)) refl
  where
    go : (b : Bool) → nat_lt 60 (length xs) ≡ b → clipped (take 61 xs) ≡ clipped xs
    go true t =
        let long : 61 ≤ length xs = omega (arith, ltb-true 60 (length xs) t) in
        let test : nat_lt 60 (length (take 61 xs)) ≡ true = ap (nat_lt 60) (length-take-le 61 xs long) in
        ap (λ b. cond b (take 58 (take 61 xs) ++ codes "..") (take 61 xs)) test
        ∙ ap (λ z. z ++ codes "..") (take-take 58 61 xs (omega arith)) ∙ sym (ap (λ b. cond b (take 58 xs ++ codes "..") xs) t)
    go false t = ap clipped (take_all 61 xs (omega (arith, ltb-false 60 (length xs) t)))

-- the same as of all of them
pub clip_kept : (kept bytes : List ℕ) → Puts [] bytes kept → length kept ≤ 61 → clipped kept ≡ clipped bytes
clip_kept kept bytes p h =
    let same : kept ≡ take 61 bytes =
    sym (take_all 61 kept h) ∙ ap (take 61) (sym (append-nil kept)) ∙ p.kept [] ∙ ap (take 61) (append-nil bytes) in
    ap clipped same ∙ clip_first bytes

-- ---- descriptions

pub call_main : (f : List ℕ) (vs : Vals (List ℕ)) → f ≡ [] → call_words f vs ≡ codes "main"
call_main f vs e = ap (λ g. call_words g vs) e

pub call_other : (f : List ℕ) (vs : Vals (List ℕ)) → (f ≡ [] → ⊥) → call_words f vs ≡ f ++ (codes "(" ++ (vals_words true vs ++ codes ")"))
call_other [] vs h = absurd (h refl)
call_other (b ∷ bs) vs h = refl

pub head_main : (f : List ℕ) → f ≡ [] → call_head f ≡ codes "main"
head_main f e = ap call_head e

pub head_other : (f : List ℕ) → (f ≡ [] → ⊥) → call_head f ≡ f
head_other [] h = absurd (h refl)
head_other (b ∷ bs) h = refl

pub given_other : (v : Value) → ((ps : Pairs (List ℕ)) → v ≡ Value.Dict ps → ⊥)
    → given_words (view v) ≡ codes "(" ++ (value_words (view v) ++ codes ")")
given_other Value.Null h = refl
given_other (Value.Bool b) h = refl
given_other (Value.Int z) h = refl
given_other (Value.Text t) h = refl
given_other (Value.List vs) h = refl
given_other (Value.Dict ps) h = absurd (h ps refl)
given_other (Value.Fun f c) h = refl
given_other (Value.Ref n) h = refl

-- several pairs are not the only one
only_two : (k : List ℕ) (v : Val (List ℕ)) (l : List ℕ) (w : Val (List ℕ)) (ps : Pairs (List ℕ)) → only (pair k v (pair l w ps)) ≡ None
only_two k null l w ps = refl
only_two k (truth b) l w ps = refl
only_two k (num z) l w ps = refl
only_two k (text t) l w ps = refl
only_two k (list vs) l w ps = refl
only_two k (dict qs) l w ps = refl
only_two k (fun f c) l w ps = refl
only_two k (ref d) l w ps = refl

pub only_many : (xs : List Pair) → 2 ≤ length xs → only (pairs_of xs) ≡ None
only_many [] h = absurd (omega (arith, h))
only_many (x ∷ []) h = absurd (omega (arith, h))
only_many (x ∷ y ∷ xs) h = only_two x.key (view x.value) y.key (view y.value) (pairs_of xs)
