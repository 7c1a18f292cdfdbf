-- What can be had early is the beginning of what there is in the end.
use Rattle.std.proofs.Common.{◌≡◌, ℕ, zero, suc, ◌+◌, ◌-◌, ◌%◌, ◌<◌, Bool, true, false, cond, List, [], ◌∷◌, ◌++◌, length, map, take, refl, sym, ap, ap₂}
use Rattle.std.proofs.Common.{◌∙◌, arith, append_assoc, append-nil, Option, Some, None, Ok}
use Rattle.std.specs.Prelude.{◌==◌, count_by, not, replicate, slice_index_or}
use Rattle.std.specs.List.{flat_map, range_with_len}
use Rattle.std.proofs.lemmas.List.Sums.{sum_by-append}
use Rattle.sky_base.specs.Val.{Pairs}
use Rattle.line_kit.specs.Lines.{all_lines, is_feed, is_open, joined, lines, with_text}
use Rattle.line_kit.specs.Parts.{dealt, every}
use Rattle.line_kit.specs.Table.{lines_of, text_of}
use Rattle.line_kit.specs.Words.{words}
use Rattle.line_kit.specs.declared.executor.Executor.{Executor}
use Rattle.line_kit.specs.declared.executor.Executor.TheVariants.{Cat, Grep, Words, Split, Deal, Sort, Tally, Count, Sum, Head, Half, Same}
use Rattle.line_kit.proofs.WrittenLaw.{joined-append}
use Rattle.line_flow.specs.Told.{early_by, ended_lines, grow, settled_lines}
use Rattle.line_flow.proofs.LinesLaw.{ended-append, lines-append}
use Rattle.line_flow.proofs.OverLaw.{take-append, with_text-append, words-append}
use Rattle.line_flow.proofs.TurnsLaw.{dealt_is}
use Rattle.ciel_flow_pieces.specs.Leads.{at}

-- ---- lines

abbrev Cut : List ℕ → Type 0
Cut p = (a : List ℕ) × (b : List ℕ) × (p ≡ a ++ b) × (is_open a ≡ false) × (count_by is_feed b ≡ 0)

-- behind the last line feed
cut_at : (x : ℕ) (xs b : List ℕ) (c : Bool) → (x == 10) ≡ c → xs ≡ b → count_by is_feed b ≡ 0 → Cut (x ∷ xs)
cut_at x xs b true e s none = (x ∷ [], b, ap (λ (r : List ℕ). x ∷ r) s, ap not e, none)
cut_at x xs b false e s none =
    let one : ◌≡◌ {A = ℕ} (cond (x == 10) 1 0) 0 = ap (λ (c : Bool). cond c 1 0) e in
    ([], x ∷ b, ap (λ (r : List ℕ). x ∷ r) s, refl, omega (arith, sum_by-append (λ (y : ℕ). cond (is_feed y) 1 0) (x ∷ []) b, one, none))

cut_more : (x : ℕ) (xs : List ℕ) → Cut xs → Cut (x ∷ xs)
cut_more x xs ([], b, s, o, none) = cut_at x xs b (x == 10) refl s none
cut_more x xs (y ∷ ys, b, s, o, none) = (x ∷ y ∷ ys, b, ap (λ (r : List ℕ). x ∷ r) s, o, none)

cut : (p : List ℕ) → Cut p
cut [] = ([], [], refl, refl, refl)
cut (x ∷ xs) = cut_more x xs (cut xs)

ended_by : (p q : List ℕ) → Cut p → (more : List (List ℕ)) × (ended_lines p ++ more ≡ lines (p ++ q))
ended_by p q (a, b, s, o, none) = (
  lines (b ++ q),
  ap (λ (r : List ℕ). ended_lines r ++ lines (b ++ q)) s ∙ ap (λ (ls : List (List ℕ)). ls ++ lines (b ++ q)) (ended-append a b o none)
      ∙ sym (lines-append a (b ++ q) o) ∙ ap lines (sym (append_assoc a b q)) ∙ ap (λ (r : List ℕ). lines (r ++ q)) (sym s),
)

-- the settled lines are the first ones
pub settled_first : (i : ℕ) (q : List ℕ) (fed : List (List ℕ)) → (more : List (List ℕ)) × (settled_lines i fed ++ more ≡ all_lines (grow i q fed))
settled_first zero q [] = ([], refl)
settled_first (suc i) q [] = ([], refl)
settled_first zero q (x ∷ xs) =
    let e = ended_by x q (cut x) in
    (e.0 ++ all_lines xs, sym (append_assoc (ended_lines x) e.0 (all_lines xs)) ∙ ap (λ (ls : List (List ℕ)). ls ++ all_lines xs) e.1)
settled_first (suc i) q (x ∷ xs) =
    let e = settled_first i q xs in (
      e.0,
      ap (λ (ls : List (List ℕ)). ls ++ e.0) (append_assoc (lines x) (all_lines (take i xs)) (ended_lines (slice_index_or xs i [])))
          ∙ append_assoc (lines x) (settled_lines i xs) e.0
          ∙ ap (λ (ls : List (List ℕ)). lines x ++ ls) e.1,
    )

-- ---- outputs

abbrev First : List ℕ → List ℕ → Type 0
First a b = (rest : List ℕ) × (a ++ rest ≡ b)

one_first : (a b : List ℕ) (i : ℕ) → First a b → First (at (a ∷ []) i) (at (b ∷ []) i)
one_first a b zero f = f
one_first a b (suc i) f = ([], refl)

joined_first : (ls more all : List (List ℕ)) → all ≡ ls ++ more → First (joined ls) (joined all)
joined_first ls more all e = (joined more, sym (joined-append ls more) ∙ ap joined (sym e))

every_by : (b : Bool) (l : List ℕ) (xs ys : List (List ℕ)) → cond b (l ∷ xs ++ ys) (xs ++ ys) ≡ cond b (l ∷ xs) xs ++ ys
every_by true l xs ys = refl
every_by false l xs ys = refl

every_more : (n i p : ℕ) (ls more : List (List ℕ)) → every n i p (ls ++ more) ≡ every n i p ls ++ every n i (p + length ls) more
every_more n i p [] more = let same : p ≡ p + 0 = omega arith in ap (λ m. every n i m more) same
every_more n i p (l ∷ ls) more =
    let next : (p + 1) + length ls ≡ p + suc (length ls) = omega arith in
    ap (λ (xs : List (List ℕ)). cond (p % n == i) (l ∷ xs) xs)
    (every_more n i (p + 1) ls more ∙ ap (λ m. every n i (p + 1) ls ++ every n i m more) next)
    ∙ every_by (p % n == i) l (every n i (p + 1) ls) (every n i (p + suc (length ls)) more)

map_first : (f g : ℕ → List ℕ) (is : List ℕ) → ((k : ℕ) → First (f k) (g k)) → (i : ℕ) → First (at (map f is) i) (at (map g is) i)
map_first f g [] h i = ([], refl)
map_first f g (k ∷ is) h zero = h k
map_first f g (k ∷ is) h (suc i) = map_first f g is h i

same_first : (a b : List ℕ) → a ≡ b → First a b
same_first a b e = ([], append-nil a ∙ e)

moved : (a a' b b' : List ℕ) → a ≡ a' → b ≡ b' → First a' b' → First a b
moved a a' b b' e f (rest, h) = (rest, ap (λ (r : List ℕ). r ++ rest) e ∙ h ∙ sym f)

deal_first : (n i : ℕ) (ls more : List (List ℕ)) → First (at (map joined (dealt n ls)) i) (at (map joined (dealt n (ls ++ more))) i)
deal_first n i ls more =
    moved (at (map joined (dealt n ls)) i) (at (map (λ k. joined (every n k 0 ls)) (range_with_len 0 n)) i)
    (at (map joined (dealt n (ls ++ more))) i) (at (map (λ k. joined (every n k 0 (ls ++ more))) (range_with_len 0 n)) i)
    (ap (λ (xs : List (List ℕ)). at xs i) (dealt_is n ls)) (ap (λ (xs : List (List ℕ)). at xs i) (dealt_is n (ls ++ more)))
    (map_first (λ k. joined (every n k 0 ls)) (λ k. joined (every n k 0 (ls ++ more))) (range_with_len 0 n)
    (λ k. joined_first (every n k 0 ls) (every n k (0 + length ls) more) (every n k 0 (ls ++ more)) (every_more n k 0 ls more)) i)

pub early_first : (e : Option Executor) (args : Pairs (List ℕ)) (n i : ℕ) (ls more : List (List ℕ)) → First (at (early_by e args n ls) i)
    (at (early_by e args n (ls ++ more)) i)
early_first None args n i ls more = same_first _ _ refl
early_first (Some Cat) args n i ls more = one_first (joined ls) (joined (ls ++ more)) i (joined_first ls more (ls ++ more) refl)
early_first (Some Grep) args n i ls more =
    one_first (joined (with_text (text_of args) ls)) (joined (with_text (text_of args) (ls ++ more))) i
    (joined_first (with_text (text_of args) ls) (with_text (text_of args) more) (with_text (text_of args) (ls ++ more))
    (with_text-append (text_of args) ls more))
early_first (Some Words) args n i ls more =
    one_first (joined (flat_map words ls)) (joined (flat_map words (ls ++ more))) i
    (joined_first (flat_map words ls) (flat_map words more) (flat_map words (ls ++ more)) (words-append ls more))
early_first (Some Deal) args n i ls more = deal_first n i ls more
early_first (Some Head) args n i ls more =
    one_first (joined (take (lines_of args) ls)) (joined (take (lines_of args) (ls ++ more))) i
    (joined_first (take (lines_of args) ls) (take (lines_of args - length ls) more) (take (lines_of args) (ls ++ more))
    (take-append (lines_of args) ls more))
early_first (Some Split) args n i ls more = same_first _ _ refl
early_first (Some Sort) args n i ls more = same_first _ _ refl
early_first (Some Tally) args n i ls more = same_first _ _ refl
early_first (Some Count) args n i ls more = same_first _ _ refl
early_first (Some Sum) args n i ls more = same_first _ _ refl
early_first (Some Half) args n i ls more = same_first _ _ refl
early_first (Some Same) args n i ls more = same_first _ _ refl
