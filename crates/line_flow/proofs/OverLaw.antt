-- An output that is too large already stays so, whatever lines follow.
use Rattle.std.proofs.Common.{◌≡◌, ℕ, zero, suc, ◌+◌, ◌-◌, ◌%◌, ◌<◌, ◌≤◌, Bool, true, false, cond, nat_lt, ◌||◌, List, [], ◌∷◌, ◌++◌, map, take}
use Rattle.std.proofs.Common.{length, Err, refl, sym, ap, ◌∙◌, arith, length-append}
use Rattle.std.specs.Prelude.{◌==◌}
use Rattle.std.specs.List.{list_any, flat_map, range_with_len}
use Rattle.std.proofs.lemmas.Bool.Decides.{nat_tests}
use Rattle.std.proofs.lemmas.Grind.{flat_map-append}
use Rattle.std.proofs.lemmas.List.Elements.{filter-append}
use Rattle.sky_base.specs.declared.fault.FaultKind.TheVariants.{TooLarge}
use Rattle.line_kit.specs.Lines.{joined, with_text, contains}
use Rattle.line_kit.specs.Words.{words}
use Rattle.line_kit.specs.Parts.{every, dealt}
use Rattle.line_kit.specs.Gives.{one, with_lines}
use Rattle.line_kit.proofs.WrittenLaw.{joined-append}
use Rattle.line_flow.specs.Kept.{HasOne, AreStreams, is_over}
use Rattle.line_flow.specs.declared.stream.Stream.{Stream}
use Rattle.line_flow.proofs.HalfLaw.{one_over}
use Rattle.line_flow.proofs.TurnsLaw.{over_is, any_over, large, large_by, dealt_is}

more_long : (ls more : List (List ℕ)) → length (joined ls) ≤ length (joined (ls ++ more))
more_long ls more = omega (arith, ap length (joined-append ls more), length-append (joined ls) (joined more))

-- one output
pub one_stays : (s : Stream) (drained ls more : List (List ℕ)) → is_over s ≡ true → HasOne s drained (joined ls) → one (ls ++ more) ≡ Err TooLarge
one_stays s drained ls more over h =
    let large_now : nat_lt 67108864 (length (joined ls)) ≡ true = sym (over_is s h.one (joined ls) h.stream) ∙ over in
    let now : 67108864 < length (joined ls) = grind (arith, nat_tests) in
    one_over (ls ++ more) (omega (arith, now, more_long ls more))

pub with_text-append : (x : List ℕ) (ls more : List (List ℕ)) → with_text x (ls ++ more) ≡ with_text x ls ++ with_text x more
with_text-append x ls more = filter-append (λ line. contains line x) ls more

pub words-append : (ls more : List (List ℕ)) → flat_map words (ls ++ more) ≡ flat_map words ls ++ flat_map words more
words-append ls more = flat_map-append words ls more

pub take-append : (n : ℕ) (ls more : List (List ℕ)) → take n (ls ++ more) ≡ take n ls ++ take (n - length ls) more
take-append zero ls more = let none : 0 ≡ 0 - length ls = omega arith in ap (λ m. take m more) none
take-append (suc n) [] more = let same : suc n ≡ suc n - 0 = omega arith in ap (λ m. take m more) same
take-append (suc n) (l ∷ ls) more =
    let same : n - length ls ≡ suc n - length (l ∷ ls) = omega arith in
    ap (λ (xs : List (List ℕ)). l ∷ xs) (take-append n ls more ∙ ap (λ m. take n ls ++ take m more) same)

-- ---- several outputs

every-by : (b : Bool) (l : List ℕ) (xs ys : List (List ℕ)) → cond b (l ∷ xs ++ ys) (xs ++ ys) ≡ cond b (l ∷ xs) xs ++ ys
every-by true l xs ys = refl
every-by false l xs ys = refl

every-append : (n i p : ℕ) (ls more : List (List ℕ)) → every n i p (ls ++ more) ≡ every n i p ls ++ every n i (p + length ls) more
every-append n i p [] more = let same : p ≡ p + 0 = omega arith in ap (λ m. every n i m more) same
every-append n i p (l ∷ ls) more =
    let next : (p + 1) + length ls ≡ p + suc (length ls) = omega arith in
    ap (λ (xs : List (List ℕ)). cond (p % n == i) (l ∷ xs) xs)
    (every-append n i (p + 1) ls more ∙ ap (λ m. every n i (p + 1) ls ++ every n i m more) next)
    ∙ every-by (p % n == i) l (every n i (p + 1) ls) (every n i (p + suc (length ls)) more)

large-by : (a b : ℕ) → a ≤ b → nat_lt 67108864 a ≡ true → nat_lt 67108864 b ≡ true
large-by a b h e = grind (arith, nat_tests)

or-by : (a b c d : Bool) → (a ≡ true → c ≡ true) → (b ≡ true → d ≡ true) → (a || b) ≡ true → (c || d) ≡ true
or-by true b c d f g e = ap (λ x. x || d) (f refl)
or-by false b true d f g e = refl
or-by false b false d f g e = g e

any-more : (f g : ℕ → List ℕ) (is : List ℕ) → ((i : ℕ) → length (f i) ≤ length (g i)) → list_any large (map f is) ≡ true
    → list_any large (map g is) ≡ true
any-more f g [] h e = e
any-more f g (i ∷ is) h e =
    or-by (large (f i)) (list_any large (map f is)) (large (g i)) (list_any large (map g is)) (large-by (length (f i)) (length (g i)) (h i))
    (any-more f g is h) e

pub dealt_stays : (outs : List Stream) (n : ℕ) (drained ls more : List (List ℕ)) → list_any is_over outs ≡ true → AreStreams outs n drained ls
    → with_lines (dealt n (ls ++ more)) ≡ Err TooLarge
dealt_stays outs n drained ls more over a =
    let now : list_any large (map (λ i. joined (every n i 0 ls)) (range_with_len 0 n)) ≡ true =
    ap (list_any large) (sym (dealt_is n ls)) ∙ sym (any_over outs n drained ls a) ∙ over in
    let longer : (i : ℕ) → length (joined (every n i 0 ls)) ≤ length (joined (every n i 0 (ls ++ more))) =
    λ i. omega (
      arith,
      more_long (every n i 0 ls) (every n i (0 + length ls) more),
      ap (λ (xs : List (List ℕ)). length (joined xs)) (every-append n i 0 ls more),
    ) in
    large_by true (map joined (dealt n (ls ++ more)))
    (ap (list_any large) (dealt_is n (ls ++ more))
    ∙ any-more (λ i. joined (every n i 0 ls)) (λ i. joined (every n i 0 (ls ++ more))) (range_with_len 0 n) longer now)
