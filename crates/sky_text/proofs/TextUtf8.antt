-- The content of a text is UTF-8, since the bytes that it is read from are: a text is cut and changed
-- at ASCII bytes alone.
use Rattle.std.proofs.Common.{◌≡◌, ℕ, ◌+◌, ◌<◌, true, List, [], ◌∷◌, ◌++◌, length, drop, get_or, Result, Ok, Err, refl, sym, ap, ◌∙◌, subst, arith}
use Rattle.std.proofs.Common.{append_assoc}
use Rattle.std.specs.Prelude.{◌==◌}
use Rattle.std.specs.Str.{IsUtf8}
use Rattle.std.proofs.lemmas.Bool.{cond_both, eqb-true}
use Rattle.std.proofs.lemmas.Bool.Decides.{nat_tests}
use Rattle.std.proofs.lemmas.List.{append-nil, drop_at, length-append, take_at}
use Rattle.std.proofs.lemmas.Str.{IsCharBoundary-after_ascii, IsCharBoundary-before_ascii, IsUtf8-append, IsUtf8-drop, IsUtf8-from_ascii, IsUtf8-take}
use Rattle.std.proofs.lemmas.Str.Ascii.{IsAscii-cons}
use Rattle.std.proofs.Math.Seq.{get_or-append_seam}
use Rattle.sky_text.specs.Lexing.{and_then, is_escape, text_from, unescaped, with_byte}
use Rattle.sky_text.specs.declared.lex.LexRefusal.{LexRefusal}

-- text may be cut at an ASCII byte
pub before_ascii : (xs : List ℕ) (b : ℕ) (r : List ℕ) → IsUtf8 (xs ++ b ∷ r) → b < 128 → IsUtf8 xs
before_ascii xs b r u h =
    let seam : get_or (xs ++ b ∷ r) (length xs) 0 < 128 = rw (get_or-append_seam xs b r 0) h in
    let short : length xs < length (xs ++ b ∷ r) = omega (arith, length-append xs (b ∷ r)) in
    subst IsUtf8 (take_at xs (b ∷ r) (length xs) refl)
    (IsUtf8-take (xs ++ b ∷ r) (length xs) u (IsCharBoundary-before_ascii (xs ++ b ∷ r) (length xs) short seam))

pub after_ascii : (xs : List ℕ) (b : ℕ) (r : List ℕ) → IsUtf8 (xs ++ b ∷ r) → b < 128 → IsUtf8 r
after_ascii xs b r u h =
    let seam : get_or (xs ++ b ∷ r) (length xs) 0 < 128 = rw (get_or-append_seam xs b r 0) h in
    let short : length xs < length (xs ++ b ∷ r) = omega (arith, length-append xs (b ∷ r)) in
    let cut : drop (length xs + 1) (xs ++ b ∷ r) ≡ r = ap (drop (length xs + 1)) (sym (append_assoc xs (b ∷ []) r))
    ∙ drop_at (xs ++ b ∷ []) r (length xs + 1) (length-append xs (b ∷ [])) in
    subst IsUtf8 cut (IsUtf8-drop (xs ++ b ∷ r) (length xs + 1) u (IsCharBoundary-after_ascii (xs ++ b ∷ r) (length xs) u short seam))

escape_ascii : (c : ℕ) → is_escape c ≡ true → c < 128
escape_ascii c h = grind (arith, nat_tests)

unescaped_ascii : (c : ℕ) → is_escape c ≡ true → unescaped c < 128
unescaped_ascii c h = cond_both (c == 110) 10 _ (λ x. x < 128) (λ _. omega arith)
    (λ _. cond_both (c == 116) 9 _ (λ x. x < 128) (λ _. omega arith)
    (λ _. cond_both (c == 114) 13 c (λ x. x < 128) (λ _. omega arith) (λ _. escape_ascii c h)))

pub ascii_utf8 : (b : ℕ) → b < 128 → IsUtf8 (b ∷ [])
ascii_utf8 b h = IsUtf8-from_ascii (b ∷ []) (IsAscii-cons b [] h (λ i. omega arith))

-- an escape and the byte that it stands for
replaced : (xs : List ℕ) (c : ℕ) (r : List ℕ) → IsUtf8 (xs ++ 92 ∷ c ∷ r) → is_escape c ≡ true → IsUtf8 ((xs ++ unescaped c ∷ []) ++ r)
replaced xs c r u h =
    let behind : IsUtf8 (c ∷ r) = after_ascii xs 92 (c ∷ r) u (omega arith) in
    IsUtf8-append (xs ++ unescaped c ∷ []) r
    (IsUtf8-append xs (unescaped c ∷ []) (before_ascii xs 92 (c ∷ r) u (omega arith)) (ascii_utf8 (unescaped c) (unescaped_ascii c h)))
    (after_ascii [] c r behind (escape_ascii c h))

-- what follows where a byte is put in front of what was read
one_more : (xs : List ℕ) (b : ℕ) (read : Result (List ℕ × ℕ) LexRefusal) (text : List ℕ × ℕ) → and_then read (with_byte b) ≡ Ok text
    → ((t : List ℕ × ℕ) → read ≡ Ok t → IsUtf8 ((xs ++ b ∷ []) ++ t.0)) → IsUtf8 (xs ++ text.0)
one_more xs b (Ok t) text e h =
    let same : b ∷ t.0 ≡ text.0 = ap (λ (r : Result (List ℕ × ℕ) LexRefusal). elim r [ Ok x ↦ x.0 | Err _ ↦ [] ]) e in
    subst (λ (x : List ℕ). IsUtf8 (xs ++ x)) same (subst IsUtf8 (append_assoc xs (b ∷ []) t.0) (h t refl))
one_more xs b (Err r) text e h = absurd (cc e)

closed : (xs : List ℕ) (b at : ℕ) (r : List ℕ) (text : List ℕ × ℕ) → (b == 34) ≡ true → IsUtf8 (xs ++ b ∷ r)
    → ◌≡◌ {A = Result (List ℕ × ℕ) LexRefusal} (Ok ([], at)) (Ok text) → IsUtf8 (xs ++ text.0)
closed xs b at r text t u e =
    let same : [] ≡ text.0 = ap (λ (r : Result (List ℕ × ℕ) LexRefusal). elim r [ Ok x ↦ x.0 | Err _ ↦ [] ]) e in
    let quote : b ≡ 34 = eqb-true b 34 t in
    subst (λ (x : List ℕ). IsUtf8 (xs ++ x)) same (subst IsUtf8 (sym (append-nil xs)) (before_ascii xs b r u (omega arith)))

pub content_utf8 : (quote at : ℕ) (xs bs : List ℕ) (text : List ℕ × ℕ) → IsUtf8 (xs ++ bs) → text_from quote at bs ≡ Ok text → IsUtf8 (xs ++ text.0)
content_utf8 quote at xs [] text u e = absurd (cc e)
content_utf8 quote at xs (b ∷ []) text u e =
    cond_both (b == 34) (Ok ([], at + 1)) (Err (LexRefusal.OpenText quote))
    (λ (r : Result (List ℕ × ℕ) LexRefusal). r ≡ Ok text → IsUtf8 (xs ++ text.0)) (λ t. closed xs b (at + 1) [] text t u)
    (λ _ k. absurd (cc k)) e
content_utf8 quote at xs (b ∷ c ∷ r) text u e =
    let Goal : Result (List ℕ × ℕ) LexRefusal → Type 0 = λ read. read ≡ Ok text → IsUtf8 (xs ++ text.0) in
    cond_both (b == 34) _ _ Goal (λ t. closed xs b (at + 1) (c ∷ r) text t u) (λ _.
    cond_both (b == 10) _ _ Goal (λ _ k. absurd (cc k)) (λ _.
    cond_both (b == 92) _ _ Goal
    (λ t. cond_both (c == 10) _ _ Goal (λ _ k. absurd (cc k)) (λ _.
    cond_both (is_escape c) _ _ Goal (λ g k. one_more xs (unescaped c) (text_from quote (at + 2) r) text k
    (λ s w. content_utf8 quote (at + 2) (xs ++ unescaped c ∷ []) r s
    (replaced xs c r (subst (λ (x : ℕ). IsUtf8 (xs ++ x ∷ c ∷ r)) (eqb-true b 92 t) u) g) w)) (λ _ k. absurd (cc k))))
    (λ _ k. one_more xs b (text_from quote (at + 1) (c ∷ r)) text k
    (λ s w. content_utf8 quote (at + 1) (xs ++ b ∷ []) (c ∷ r) s (subst IsUtf8 (sym (append_assoc xs (b ∷ []) (c ∷ r))) u) w)))) e
