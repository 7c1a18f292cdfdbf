-- Entries of one buffer, seen as lines with sums.
use Rattle.std.proofs.Common.{◌≡◌, ℕ, zero, suc, ◌+◌, ◌-◌, ◌<◌, ◌≤◌, List, [], ◌∷◌, ◌++◌, length, take, drop, get_or, set, refl, ap, ap₂, ◌∙◌, arith}
use Rattle.std.specs.List.{slice_range}
use Rattle.std.proofs.lemmas.List.{length-drop, take_all, take-append-le, drop-append-le}
use Rattle.line_flow.specs.declared.entries.Entry.{Entry}
use Rattle.line_flow.specs.Entries.{line_of, seen, AllWithin, more_at}

-- ---- bytes more

range-more : (bytes more : List ℕ) (from to : ℕ) → from ≤ to → to ≤ length bytes → slice_range (bytes ++ more) from to ≡ slice_range bytes from to
range-more bytes more from to f t =
    let e = length-drop from bytes in
    ap (take (to - from)) (drop-append-le from bytes more (omega (arith, f, t)))
    ∙ take-append-le (to - from) (drop from bytes) more (omega (arith, e, f, t))

drop-length : (bytes line : List ℕ) → drop (length bytes) (bytes ++ line) ≡ line
drop-length [] line = refl
drop-length (b ∷ bytes) line = drop-length bytes line

range-end : (bytes line : List ℕ) (end : ℕ) → end ≡ length bytes + length line → slice_range (bytes ++ line) (length bytes) end ≡ line
range-end bytes line end e =
    ap (take (end - length bytes)) (drop-length bytes line) ∙ take_all (end - length bytes) line (omega (arith, e))

pub seen-more : (bytes more : List ℕ) (es : List Entry) → AllWithin (length bytes) es → seen (bytes ++ more) es ≡ seen bytes es
seen-more bytes more [] h = refl
seen-more bytes more (e ∷ es) h =
    ap₂ (λ (l : List ℕ) (rest : List (List ℕ × ℕ)). (l, e.sum) ∷ rest) (range-more bytes more e.start e.end h.0.0 h.0.1) (seen-more bytes more es h.1)

seen-append : (bytes : List ℕ) (es fs : List Entry) → seen bytes (es ++ fs) ≡ seen bytes es ++ seen bytes fs
seen-append bytes [] fs = refl
seen-append bytes (e ∷ es) fs = ap (λ (rest : List (List ℕ × ℕ)). (line_of bytes e, e.sum) ∷ rest) (seen-append bytes es fs)

-- a line more, with its bytes
pub seen-push : (bytes line : List ℕ) (es : List Entry) (e : Entry) → AllWithin (length bytes) es → e.start ≡ length bytes
    → e.end ≡ length bytes + length line → seen (bytes ++ line) (es ++ e ∷ []) ≡ seen bytes es ++ (line, e.sum) ∷ []
seen-push bytes line es e h s t =
    let own : line_of (bytes ++ line) e ≡ line = ap (λ n. slice_range (bytes ++ line) n e.end) s ∙ range-end bytes line e.end t in
    seen-append (bytes ++ line) es (e ∷ [])
    ∙ ap₂ (λ (a b : List (List ℕ × ℕ)). a ++ b) (seen-more bytes line es h) (ap (λ (l : List ℕ). (l, e.sum) ∷ []) own)

-- ---- where the lines stand

pub AllWithin-more : (n m : ℕ) (es : List Entry) → n ≤ m → AllWithin n es → AllWithin m es
AllWithin-more n m [] e h = tt
AllWithin-more n m (x ∷ es) e h = ((h.0.0, omega (arith, h.0.1, e)), AllWithin-more n m es e h.1)

pub AllWithin-push : (n : ℕ) (es : List Entry) (e : Entry) → AllWithin n es → e.start ≤ e.end → e.end ≤ n → AllWithin n (es ++ e ∷ [])
AllWithin-push n [] e h s t = ((s, t), tt)
AllWithin-push n (x ∷ es) e h s t = (h.0, AllWithin-push n es e h.1 s t)

pub AllWithin-at : (n : ℕ) (es : List Entry) (at : ℕ) (d : Entry) → AllWithin n es → at < length es
    → ((get_or es at d).start ≤ (get_or es at d).end) × ((get_or es at d).end ≤ n)
AllWithin-at n [] at d h l = absurd (omega (arith, l))
AllWithin-at n (e ∷ es) zero d h l = h.0
AllWithin-at n (e ∷ es) (suc at) d h l = AllWithin-at n es at d h.1 (omega (arith, l))

-- ---- a number more

pub seen-set : (bytes : List ℕ) (es : List Entry) (at n : ℕ) (d e : Entry) → at < length es → e.start ≡ (get_or es at d).start
    → e.end ≡ (get_or es at d).end → e.sum ≡ (get_or es at d).sum + n → seen bytes (set es at e) ≡ more_at (seen bytes es) at n
seen-set bytes [] at n d e l s t u = absurd (omega (arith, l))
seen-set bytes (x ∷ es) zero n d e l s t u =
    ap₂ (λ (line : List ℕ) (sum : ℕ). (line, sum) ∷ seen bytes es) (ap₂ (slice_range bytes) s t) u
seen-set bytes (x ∷ es) (suc at) n d e l s t u =
    ap (λ (rest : List (List ℕ × ℕ)). (line_of bytes x, x.sum) ∷ rest) (seen-set bytes es at n d e (omega (arith, l)) s t u)

pub AllWithin-set : (m : ℕ) (es : List Entry) (at : ℕ) (e : Entry) → e.start ≤ e.end → e.end ≤ m → AllWithin m es → AllWithin m (set es at e)
AllWithin-set m [] at e s t h = tt
AllWithin-set m (x ∷ es) zero e s t h = ((s, t), h.1)
AllWithin-set m (x ∷ es) (suc at) e s t h = (h.0, AllWithin-set m es at e s t h.1)

-- ---- an entry seen

pub length-seen : (bytes : List ℕ) (es : List Entry) → length (seen bytes es) ≡ length es
length-seen bytes [] = refl
length-seen bytes (e ∷ es) = ap suc (length-seen bytes es)

pub seen-at : (bytes : List ℕ) (es : List Entry) (at : ℕ) (d : Entry) → at < length es → (get_or (seen bytes es) at ([], 0)).0
    ≡ line_of bytes (get_or es at d)
seen-at bytes [] at d l = absurd (omega (arith, l))
seen-at bytes (e ∷ es) zero d l = refl
seen-at bytes (e ∷ es) (suc at) d l = seen-at bytes es at d (omega (arith, l))
