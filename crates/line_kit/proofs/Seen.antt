-- A map of the code's lines, seen as lists of bytes.
use Rattle.std.proofs.Common.{◌≡◌, ℕ, ◌+◌, cond, List, [], ◌∷◌, map, Some, unwrap_or, Ordering, Less, Equal, Greater, Bor, nat_lt, ◌||◌, refl, ap}
use Rattle.std.proofs.Common.{◌∙◌}
use Rattle.std.specs.Ordering.{nat_cmp, match_ordering, is_eq}
use Rattle.std.specs.Cmp.Lexicographic.{slice_cmp}
use Rattle.std.specs.BTreeMap.{insert_entry, is_at}
use Rattle.std.specs.Map.{lookup}
use Rattle.std.specs.List.{list_any}
use Rattle.line_kit.specs.Totals.{sum_at, with_more}

abbrev pub Entry : Type 0
Entry = Bor (List ℕ) × ℕ

abbrev pub see : Entry → List ℕ × ℕ
see e = (e.0.now, e.1)

abbrev pub by_bytes : Bor (List ℕ) → Bor (List ℕ) → Ordering
by_bytes x y = slice_cmp nat_cmp x.now y.now

map-match : (o : Ordering) (a b c : List Entry) → map see (match_ordering o a b c) ≡ match_ordering o (map see a) (map see b) (map see c)
map-match Less a b c = refl
map-match Equal a b c = refl
map-match Greater a b c = refl

insert-seen : (es : List Entry) (k : Bor (List ℕ)) (v : ℕ) → map see (insert_entry by_bytes es k v)
    ≡ insert_entry (slice_cmp nat_cmp) (map see es) k.now v
insert-seen [] k v = refl
insert-seen (e ∷ es) k v = map-match (by_bytes k e.0) _ _ _ ∙ rw (insert-seen es k v)

lookup-seen : (es : List Entry) (k : Bor (List ℕ)) → lookup (is_at (by_bytes k)) es ≡ lookup (is_at (slice_cmp nat_cmp k.now)) (map see es)
lookup-seen [] k = refl
lookup-seen (e ∷ es) k = ap (cond (is_eq (by_bytes k e.0)) (Some e.1)) (lookup-seen es k)

pub sum_at-seen : (es : List Entry) (k : Bor (List ℕ)) → unwrap_or (lookup (is_at (by_bytes k)) es) 0 ≡ sum_at (map see es) k.now
unfolding sum_at
sum_at-seen es k = ap (λ o. unwrap_or o 0) (lookup-seen es k)

pub with_more-seen : (es : List Entry) (k : Bor (List ℕ)) (v n : ℕ) → v ≡ sum_at (map see es) k.now
    → map see (insert_entry by_bytes es k (v + n)) ≡ with_more (map see es) k.now n
unfolding with_more
with_more-seen es k v n e = insert-seen es k (v + n) ∙ ap (λ m. insert_entry (slice_cmp nat_cmp) (map see es) k.now (m + n)) e

pub values-above : (most : ℕ) (es : List Entry) → list_any (λ sum. nat_lt most sum) (map (λ e. e.1) es)
    ≡ list_any (λ (e : List ℕ × ℕ). nat_lt most e.1) (map see es)
values-above most [] = refl
values-above most (e ∷ es) = ap (λ b. nat_lt most e.1 || b) (values-above most es)
