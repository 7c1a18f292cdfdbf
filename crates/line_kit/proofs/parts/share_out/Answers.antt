use Rattle.std.proofs.Common.{◌≡◌, ◌+◌, ◌-◌, ◌*◌, ◌≤◌, ◌||◌, max, ℕ, Bool, true, false, cond, List, [], ◌∷◌, ◌++◌, length, map, take, drop, nat_lt}
use Rattle.std.proofs.Common.{refl, sym, ap, ap₂, ◌∙◌, arith, rules, slice_range, length-take, length-drop, Ok, Err}
use Rattle.std.specs.List.{list_any, range_with_len}
use Rattle.std.proofs.lemmas.List.Folds.{list_any-append}
use Rattle.std.proofs.lemmas.Bool.Decides.{nat_tests}
use Rattle.std.proofs.lemmas.List.{drop-drop, take_rest}
use Rattle.std.proofs.lemmas.List.FromFn.{map-range_with_len_more}
use Rattle.std.proofs.lemmas.Simd.{map-map}
use Rattle.sky_base.specs.declared.fault.FaultKind.TheVariants.{TooLarge}
use Rattle.line_kit.specs.Gives.{unless_large, with_lines}
use Rattle.line_kit.specs.Lines.{joined, lines, is_open}
use Rattle.line_kit.specs.Parts.{share, cut}
use Rattle.line_kit.proofs.parts.share_out.Goals as goal

more_times : (k q : ℕ) → k * q + q ≡ (k + 1) * q
more_times k q = grind arith

most_of_both : (a b : ℕ) → nat_lt 67108864 (max a b) ≡ (nat_lt 67108864 a || nat_lt 67108864 b)
most_of_both a b = grind (arith, nat_tests)

or_none : (a : Bool) → (a || false) ≡ a
or_none true = refl
or_none false = refl

any_more : (all : List (List ℕ)) (bytes : List ℕ) → list_any (λ b. nat_lt 67108864 (length b)) (all ++ bytes ∷ [])
    ≡ (list_any (λ b. nat_lt 67108864 (length b)) all || nat_lt 67108864 (length bytes))
any_more all bytes =
    list_any-append (λ (b : List ℕ). nat_lt 67108864 (length b)) all (bytes ∷ [])
    ∙ ap (λ t. list_any (λ (b : List ℕ). nat_lt 67108864 (length b)) all || t) (or_none (nat_lt 67108864 (length bytes)))

-- so many bytes behind a place
behind_place : (xs : List ℕ) (from long : ℕ) → slice_range xs from (from + long) ≡ take long (drop from xs)
behind_place xs from long = let many : from + long - from ≡ long = omega arith in ap (λ (n : ℕ). take n (drop from xs)) many

pub loop-next-preserved : goal.loop-next-preserved
loop-next-preserved c =
    let k = c.loop-next._next in
    let q = c.share-part.result in
    let xs = c.args.input.now in
    let bytes = c.as_slice-bytes.result.now in
    let from = c.loop-next.from in
    let long = c.lines_end-long.result in
    let f = λ (i : ℕ). joined (take q (drop (i * q) (lines xs))) in
    let rest : take (length bytes - from) (drop from bytes) ≡ drop from xs = take_rest bytes from ∙ ap (drop from) c.as_slice-bytes.ensures in
    let behind : drop long (take (length bytes - from) (drop from bytes)) ≡ drop (from + long) xs = ap (drop long) rest ∙ drop-drop long from xs in
    let here : c.in_ok-part.field-0 ≡ take long (drop from xs) = c.in_ok-part.ensures.part ∙ behind_place xs from long in
    let part : c.in_ok-part.field-0 ≡ f k =
    here ∙ ap (take long) (sym rest) ∙ c.lines_end-long.ensures.front ∙ ap (λ (bs : List ℕ). joined (take q (lines bs))) rest
    ∙ ap (λ (ls : List (List ℕ)). joined (take q ls)) c.loop-next.invariant.left in
    let upto : long ≤ length (drop from xs) = omega (arith, c.lines_end-long.ensures.within, ap length rest) in
    let whole : long ≡ length c.in_ok-part.field-0 = omega (arith, upto, ap length here, length-take long (drop from xs)) in
    let pushed : c.push.new.self.items ≡ c.loop-next.all.items ++ c.in_ok-part.field-0 ∷ [] = search rules in
    record {
      cut =
          pushed ∙ ap₂ (λ (all : List (List ℕ)) (bs : List ℕ). all ++ bs ∷ []) c.loop-next.invariant.cut part
          ∙ sym (map-range_with_len_more f 0 k k (omega arith));
      within = omega (arith, upto, length-drop from xs, c.loop-next.invariant.within);
      left =
          ap lines (sym behind) ∙ c.lines_end-long.ensures.lines ∙ ap (λ (bs : List ℕ). drop q (lines bs)) rest
          ∙ ap (drop q) c.loop-next.invariant.left ∙ drop-drop q (k * q) (lines xs) ∙ ap (λ (m : ℕ). drop m (lines xs)) (more_times k q);
      closed = ap is_open (sym behind) ∙ c.lines_end-long.ensures.closed;
      over =
          ap (nat_lt 67108864) (search rules) ∙ most_of_both c.loop-next.longest long
          ∙ ap₂ (λ a b. a || b) c.loop-next.invariant.over (ap (nat_lt 67108864) whole)
          ∙ sym (any_more c.loop-next.all.items c.in_ok-part.field-0)
          ∙ ap (list_any (λ b. nat_lt 67108864 (length b))) (sym pushed);
    }

-- what the parts are, and whether one is too long
cut_is : (q n : ℕ) (ls : List (List ℕ)) → q ≡ share (length ls) n
    → map (λ i. joined (take q (drop (i * q) ls))) (range_with_len 0 n) ≡ map joined (cut n ls)
cut_is q n ls e =
    ap (λ (p : ℕ). map (λ i. joined (take p (drop (i * p) ls))) (range_with_len 0 n)) e
    ∙ sym (map-map joined (λ i. take (share (length ls) n) (drop (i * share (length ls) n) ls)) (range_with_len 0 n))

answer_is : (all : List (List ℕ)) (q n : ℕ) (ls : List (List ℕ)) (over : Bool) → q ≡ share (length ls) n
    → all ≡ map (λ i. joined (take q (drop (i * q) ls))) (range_with_len 0 n) → over ≡ list_any (λ b. nat_lt 67108864 (length b)) all
    → with_lines (cut n ls) ≡ cond over (Err TooLarge) (Ok all)
answer_is all q n ls over is_share is_all is_over =
    ap unless_large (sym (is_all ∙ cut_is q n ls is_share)) ∙ ap (λ b. cond b (Err TooLarge) (Ok all)) (sym is_over)

pub returns-then-longest-gt-MOST_BYTES : goal.returns-then-longest-gt-MOST_BYTES
returns-then-longest-gt-MOST_BYTES c =
    let n = c.args.outputs in
    let xs = c.args.input.now in
    let part : c.share-part.result ≡ share (length (lines xs)) n =
    c.share-part.ensures ∙ ap (λ m. share m n) (c.lines_in.ensures.value ∙ ap (λ bs. length (lines bs)) c.as_slice-bytes.ensures) in
    let all : c.loop-next.all.items ≡ map (λ i. joined (take c.share-part.result (drop (i * c.share-part.result) (lines xs)))) (range_with_len 0 n) =
    c.loop-next.invariant.cut
    ∙ ap (λ (m : ℕ). map (λ i. joined (take c.share-part.result (drop (i * c.share-part.result) (lines xs)))) (range_with_len 0 m)) (search rules) in
    let over : nat_lt 67108864 c.loop-next.longest ≡ true = grind (arith, nat_tests) in
    answer_is c.loop-next.all.items c.share-part.result n (lines xs) true part all (sym over ∙ c.loop-next.invariant.over)

pub returns : goal.returns
returns c =
    let n = c.args.outputs in
    let xs = c.args.input.now in
    let part : c.share-part.result ≡ share (length (lines xs)) n =
    c.share-part.ensures ∙ ap (λ m. share m n) (c.lines_in.ensures.value ∙ ap (λ bs. length (lines bs)) c.as_slice-bytes.ensures) in
    let all : c.loop-next.all.items ≡ map (λ i. joined (take c.share-part.result (drop (i * c.share-part.result) (lines xs)))) (range_with_len 0 n) =
    c.loop-next.invariant.cut
    ∙ ap (λ (m : ℕ). map (λ i. joined (take c.share-part.result (drop (i * c.share-part.result) (lines xs)))) (range_with_len 0 m)) (search rules) in
    let over : nat_lt 67108864 c.loop-next.longest ≡ false = grind (arith, nat_tests) in
    answer_is c.loop-next.all.items c.share-part.result n (lines xs) false part all (sym over ∙ c.loop-next.invariant.over)
