-- Lines in turn to streams.
use Rattle.std.proofs.Common.{◌≡◌, ◌≢◌, ℕ, zero, suc, ◌+◌, ◌-◌, ◌^◌, ◌%◌, ◌<◌, Bool, true, false, cond, nat_lt, ◌||◌, List, [], ◌∷◌, ◌++◌, map}
use Rattle.std.proofs.Common.{length, get_or, set, Ok, Err, refl, sym, ap, ap₂, subst, ◌∙◌, arith, ⊎_elim, append_assoc, append-nil, length-append}
use Rattle.std.specs.Prelude.{◌==◌, min}
use Rattle.std.specs.List.{range_with_len, list_any}
use Rattle.std.proofs.Math.Nat.{add-mod_left, mod-eq_of_lt}
use Rattle.std.proofs.Math.ListN.{length-set}
use Rattle.std.proofs.lemmas.Bool.{cases_Bool, true≢false, eqb-true, ne_eqb, eq-eqb}
use Rattle.std.proofs.lemmas.List.{get_or-map, get_or-set_same, get_or-set_other, length-map}
use Rattle.std.proofs.lemmas.List.FromFn.{fill_by_all, get_or-map-range_with_len, length-map-range_with_len}
use Rattle.std.proofs.lemmas.Simd.{map-map}
use Rattle.std.proofs.lemmas.Bool.Decides.{nat_tests}
use Rattle.sky_base.specs.declared.fault.FaultKind.TheVariants.{TooLarge}
use Rattle.line_kit.specs.Lines.{joined, ended}
use Rattle.line_kit.specs.Parts.{every, dealt}
use Rattle.line_kit.specs.Gives.{with_lines, unless_large}
use Rattle.line_kit.proofs.WrittenLaw.{joined-append}
use Rattle.line_flow.specs.Drained.{each_joined, Follows}
use Rattle.line_flow.specs.Kept.{IsStream, AreStreams, AreEmpty, AreHandedOut, is_over}
use Rattle.line_flow.specs.declared.stream.Stream.{Stream}

-- ---- a line more

every-push : (n i p : ℕ) (ls : List (List ℕ)) (line : List ℕ) → every n i p (ls ++ line ∷ []) ≡ every n i p ls
    ++ cond ((p + length ls) % n == i) (line ∷ []) []
every-push n i p [] line = let same : p ≡ p + 0 = omega arith in ap (λ m. cond (m % n == i) (line ∷ []) []) same
every-push n i p (l ∷ ls) line =
    let next : (p + 1) + length ls ≡ p + suc (length ls) = omega arith in
    push_by (p % n == i) (every-push n i (p + 1) ls line ∙ ap (λ m. every n i (p + 1) ls ++ cond (m % n == i) (line ∷ []) []) next)
  where
    push_by : (b : Bool) → every n i (p + 1) (ls ++ line ∷ []) ≡ every n i (p + 1) ls ++ cond ((p + suc (length ls)) % n == i) (line ∷ []) []
        → cond b (l ∷ every n i (p + 1) (ls ++ line ∷ [])) (every n i (p + 1) (ls ++ line ∷ []))
        ≡ cond b (l ∷ every n i (p + 1) ls) (every n i (p + 1) ls) ++ cond ((p + suc (length ls)) % n == i) (line ∷ []) []
    push_by true e = ap (λ (us : List (List ℕ)). l ∷ us) e
    push_by false e = e

pub every_here : (n i turn : ℕ) (ls : List (List ℕ)) (line : List ℕ) → turn < n → ((k : ℕ) → (turn + k) % n ≡ (length ls + k) % n) → i ≡ turn
    → joined (every n i 0 (ls ++ line ∷ [])) ≡ joined (every n i 0 ls) ++ ended line
every_here n i turn ls line h same e =
    let a : turn + 0 ≡ turn = omega arith in
    let b : length ls + 0 ≡ 0 + length ls = omega arith in
    let at : (0 + length ls) % n ≡ i = ap (λ m. m % n) (sym b) ∙ sym (same 0) ∙ ap (λ m. m % n) a ∙ mod-eq_of_lt h ∙ sym e in
    ap joined (every-push n i 0 ls line ∙ ap (λ t. every n i 0 ls ++ cond t (line ∷ []) []) (eq-eqb ((0 + length ls) % n) i at))
    ∙ joined-append (every n i 0 ls) (line ∷ []) ∙ ap (λ (xs : List ℕ). joined (every n i 0 ls) ++ xs) (append-nil (ended line))

pub every_there : (n i turn : ℕ) (ls : List (List ℕ)) (line : List ℕ) → turn < n → ((k : ℕ) → (turn + k) % n ≡ (length ls + k) % n) → i ≢ turn
    → every n i 0 (ls ++ line ∷ []) ≡ every n i 0 ls
every_there n i turn ls line h same other =
    let a : turn + 0 ≡ turn = omega arith in
    let b : length ls + 0 ≡ 0 + length ls = omega arith in
    let at : (0 + length ls) % n ≡ turn = ap (λ m. m % n) (sym b) ∙ sym (same 0) ∙ ap (λ m. m % n) a ∙ mod-eq_of_lt h in
    every-push n i 0 ls line
    ∙ ap (λ t. every n i 0 ls ++ cond t (line ∷ []) []) (ne_eqb ((0 + length ls) % n) i (λ e. other (sym e ∙ at))) ∙ append-nil (every n i 0 ls)

pub stream_more : (s s' : Stream) (d output more : List ℕ) → IsStream s d output → s'.bytes.items ≡ s.bytes.items ++ more → s'.gone ≡ s.gone
    → IsStream s' d (output ++ more)
stream_more s s' d output more h bytes gone = record {
  whole = ap (λ (xs : List ℕ). d ++ xs) bytes ∙ sym (append_assoc d s.bytes.items more) ∙ ap (λ (xs : List ℕ). xs ++ more) h.whole;
  gone = gone ∙ h.gone;
}

pub streams_on : (n turn : ℕ) (outs : List Stream) (drained ls : List (List ℕ)) (line : List ℕ) (before after : Stream) → turn < n
    → ((k : ℕ) → (turn + k) % n ≡ (length ls + k) % n) → AreStreams outs n drained ls
    → get_or outs turn before ≡ before → after.bytes.items ≡ before.bytes.items ++ ended line → after.gone ≡ before.gone
    → AreStreams (set outs turn after) n drained (ls ++ line ∷ [])
streams_on n turn outs drained ls line before after h same a at bytes gone = record {
  count = length-set outs turn after ∙ a.count;
  drained_count = a.drained_count;
  streams = λ i d l.
      ⊎_elim
      (λ here.
      let e : i ≡ turn = eqb-true i turn here in
      let first : IsStream before (get_or drained i []) (joined (every n i 0 ls)) =
      subst (λ (s : Stream). IsStream s (get_or drained i []) (joined (every n i 0 ls))) (ap (λ j. get_or outs j before) e ∙ at)
      (a.streams i before l) in
      let put = stream_more before after (get_or drained i []) (joined (every n i 0 ls)) (ended line) first bytes gone in
      let stored : get_or (set outs turn after) i d ≡ after = ap (λ j. get_or (set outs turn after) j d) e
      ∙ get_or-set_same outs turn after d (omega (arith, h, a.count)) in
      subst (λ (s : Stream). IsStream s (get_or drained i []) (joined (every n i 0 (ls ++ line ∷ [])))) (sym stored)
      (subst (IsStream after (get_or drained i [])) (sym (every_here n i turn ls line h same e)) put))
      (λ off.
      let apart : i ≢ turn = λ e. true≢false (sym (eq-eqb i turn e) ∙ off) in
      subst (λ (s : Stream). IsStream s (get_or drained i []) (joined (every n i 0 (ls ++ line ∷ []))))
      (sym (get_or-set_other outs turn i after d apart))
      (subst (λ (ms : List (List ℕ)). IsStream (get_or outs i d) (get_or drained i []) (joined ms))
      (sym (every_there n i turn ls line h same apart)) (a.streams i d l)))
      (cases_Bool (i == turn));
}

-- whose turn it is next
pub turn_on : (n turn : ℕ) (ls : List (List ℕ)) (line : List ℕ) → ((k : ℕ) → (turn + k) % n ≡ (length ls + k) % n) → (k : ℕ) → (turn + 1 + k) % n
    ≡ (length (ls ++ line ∷ []) + k) % n
turn_on n turn ls line same k =
    let a : turn + 1 + k ≡ turn + (1 + k) = omega arith in
    let b : length ls + (1 + k) ≡ length (ls ++ line ∷ []) + k = omega (arith, length-append ls (line ∷ [])) in
    ap (λ m. m % n) a ∙ same (1 + k) ∙ ap (λ m. m % n) b

pub turn_round : (n turn : ℕ) (ls : List (List ℕ)) (line : List ℕ) → turn + 1 ≡ n → ((k : ℕ) → (turn + k) % n ≡ (length ls + k) % n) → (k : ℕ)
    → (0 + k) % n ≡ (length (ls ++ line ∷ []) + k) % n
turn_round n turn ls line e same k =
    let a : 0 + k ≡ k = omega arith in
    let b : n + k ≡ turn + 1 + k = omega (arith, e) in
    ap (λ m. m % n) a ∙ sym (add-mod_left n k) ∙ ap (λ m. m % n) b ∙ turn_on n turn ls line same k

-- ---- nothing yet

pub every-nothing : (n i : ℕ) → joined (every n i 0 []) ≡ []
every-nothing n i = refl

pub streams_empty : (outs : List Stream) (n : ℕ) (drained : List (List ℕ)) → AreEmpty outs n → length drained ≡ n
    → ((i : ℕ) → i < n → get_or drained i [] ≡ []) → AreStreams outs n drained []
streams_empty outs n drained a count none = record {
  count = a.count;
  drained_count = count;
  streams = λ i d l. record {
    whole = ap₂ (λ (x y : List ℕ). x ++ y) (none i l) (a.empty i d l);
    gone = a.gone i d l ∙ (let z : 0 ≡ min (length (get_or drained i [])) (2 ^ 64 - 1) = omega (arith, ap length (none i l)) in z);
  };
}

-- ---- what waits follows what was drained

get_or-each_joined : (xs ys : List (List ℕ)) (i : ℕ) → get_or (each_joined xs ys) i [] ≡ get_or xs i [] ++ get_or ys i []
get_or-each_joined [] ys i = refl
get_or-each_joined (x ∷ xs) [] i = sym (append-nil (get_or (x ∷ xs) i []))
get_or-each_joined (x ∷ xs) (y ∷ ys) zero = refl
get_or-each_joined (x ∷ xs) (y ∷ ys) (suc i) = get_or-each_joined xs ys i

length-each_joined : (xs ys : List (List ℕ)) → length ys ≡ length xs → length (each_joined xs ys) ≡ length xs
length-each_joined [] ys e = e
length-each_joined (x ∷ xs) [] e = refl
length-each_joined (x ∷ xs) (y ∷ ys) e = ap suc (length-each_joined xs ys (omega (arith, e)))

abbrev pub waits : List Stream → List (List ℕ)
waits outs = map (λ s. s.bytes.items) outs

some_stream : (outs : List Stream) → 0 < length outs → Stream
some_stream [] h = absurd (omega arith)
some_stream (s ∷ ss) h = s

waits_at : (outs : List Stream) (i : ℕ) (d : Stream) → i < length outs → get_or (waits outs) i [] ≡ (get_or outs i d).bytes.items
waits_at outs i d h = get_or-map (λ (s : Stream). s.bytes.items) outs i d [] h

pub dealt_is : (n : ℕ) (ls : List (List ℕ)) → map joined (dealt n ls) ≡ map (λ i. joined (every n i 0 ls)) (range_with_len 0 n)
dealt_is n ls = map-map joined (λ i. every n i 0 ls) (range_with_len 0 n)

pub streams_follow : (outs : List Stream) (n : ℕ) (drained ls : List (List ℕ)) → AreStreams outs n drained ls
    → Follows drained (waits outs) (map joined (dealt n ls))
streams_follow outs n drained ls a = record {
  count = length-map outs (λ s. s.bytes.items) ∙ a.count ∙ sym a.drained_count;
  whole =
      fill_by_all (λ i. joined (every n i 0 ls)) (each_joined drained (waits outs)) n []
      (length-each_joined drained (waits outs) (length-map outs (λ s. s.bytes.items) ∙ a.count ∙ sym a.drained_count) ∙ a.drained_count)
      (λ i l.
      let d = some_stream outs (omega (arith, l, a.count)) in
      get_or-each_joined drained (waits outs) i ∙ ap (λ (xs : List ℕ). get_or drained i [] ++ xs) (waits_at outs i d (omega (arith, l, a.count)))
      ∙ (a.streams i d l).whole)
      ∙ sym (dealt_is n ls);
}

dealt_at : (n i : ℕ) (ls : List (List ℕ)) → i < n → get_or (map joined (dealt n ls)) i [] ≡ joined (every n i 0 ls)
dealt_at n i ls h = ap (λ (xs : List (List ℕ)). get_or xs i []) (dealt_is n ls)
    ∙ get_or-map-range_with_len (λ k. joined (every n k 0 ls)) 0 n i i [] h (omega arith)

pub streams_drained : (before after : List Stream) (n : ℕ) (drained ls : List (List ℕ)) → AreStreams before n drained ls
    → AreHandedOut before after → AreStreams after n (map joined (dealt n ls)) ls
streams_drained before after n drained ls a h = record {
  count = h.count ∙ a.count;
  drained_count = ap length (dealt_is n ls) ∙ length-map-range_with_len (λ i. joined (every n i 0 ls)) 0 n;
  streams = λ i d l.
      let m : i < length before = omega (arith, l, a.count) in
      let s = a.streams i d l in
      let full : get_or (map joined (dealt n ls)) i [] ≡ joined (every n i 0 ls) = dealt_at n i ls l in
      let count : length (get_or drained i []) + length (get_or before i d).bytes.items ≡ length (joined (every n i 0 ls)) =
      sym (length-append (get_or drained i []) (get_or before i d).bytes.items) ∙ ap length s.whole in
      record {
        whole = ap₂ (λ (x y : List ℕ). x ++ y) full (h.emptied i d m) ∙ append-nil (joined (every n i 0 ls));
        gone = h.gone i d m ∙ (let z : min ((get_or before i d).gone + length (get_or before i d).bytes.items) (2 ^ 64 - 1)
            ≡ min (length (get_or (map joined (dealt n ls)) i [])) (2 ^ 64 - 1) = omega (arith, s.gone, count, ap length full) in z);
      };
}

-- ---- too large

pub over_is : (s : Stream) (d output : List ℕ) → IsStream s d output → is_over s ≡ nat_lt 67108864 (length output)
over_is s d output h = over_by (length d) s.gone (length s.bytes.items) (length output) h.gone
    (sym (length-append d s.bytes.items) ∙ ap length h.whole)
  where
    over_by : (a g b c : ℕ) → g ≡ min a (2 ^ 64 - 1) → a + b ≡ c → nat_lt 67108864 (g + b) ≡ nat_lt 67108864 c
    over_by a g b c e f = grind (arith, nat_tests)

any_map : {A : Type 0} (p : A → Bool) (xs : List A) → list_any p xs ≡ list_any (λ b. b) (map p xs)
any_map p [] = refl
any_map p (x ∷ xs) = ap (λ b. p x || b) (any_map p xs)

abbrev pub large : List ℕ → Bool
large bytes = nat_lt 67108864 (length bytes)

pub any_over : (outs : List Stream) (n : ℕ) (drained ls : List (List ℕ)) → AreStreams outs n drained ls → list_any is_over outs
    ≡ list_any large (map joined (dealt n ls))
any_over outs n drained ls a =
    any_map is_over outs
    ∙ ap (list_any (λ b. b))
    (
    fill_by_all (λ i. large (joined (every n i 0 ls))) (map is_over outs) n false (length-map outs is_over ∙ a.count)
    (λ i l.
    let d = some_stream outs (omega (arith, l, a.count)) in
    get_or-map is_over outs i d false (omega (arith, l, a.count))
    ∙ over_is (get_or outs i d) (get_or drained i []) (joined (every n i 0 ls)) (a.streams i d l))
    ∙ sym (map-map large (λ i. joined (every n i 0 ls)) (range_with_len 0 n)) ∙ ap (map large) (sym (dealt_is n ls))
    )
    ∙ sym (any_map large (map joined (dealt n ls)))

pub large_by : (b : Bool) (outputs : List (List ℕ)) → list_any large outputs ≡ b → unless_large outputs ≡ cond b (Err TooLarge) (Ok outputs)
large_by b outputs e = ap (λ t. cond t (Err TooLarge) (Ok outputs)) e

pub streams_over : (outs : List Stream) (n : ℕ) (drained ls : List (List ℕ)) → list_any is_over outs ≡ true → AreStreams outs n drained ls
    → with_lines (dealt n ls) ≡ Err TooLarge
streams_over outs n drained ls over a = large_by true (map joined (dealt n ls)) (sym (any_over outs n drained ls a) ∙ over)

pub streams_within : (outs : List Stream) (n : ℕ) (drained ls : List (List ℕ)) → list_any is_over outs ≡ false → AreStreams outs n drained ls
    → with_lines (dealt n ls) ≡ Ok (map joined (dealt n ls))
streams_within outs n drained ls under a = large_by false (map joined (dealt n ls)) (sym (any_over outs n drained ls a) ∙ under)
