-- Rows of bytes one behind the other: what a change of the bytes makes of the rows.
use Rattle.std.proofs.Common.{◌≡◌, min, Option, Some, None, option_map, true, false, bytes_eq, ℕ, zero, suc, ◌+◌, ◌-◌, ◌<◌, ◌≤◌, List, [], ◌∷◌, ◌++◌, length, take, drop, set, get_or, refl, sym, ap, subst, ◌∙◌, append_assoc, arith, length-take, length-drop, length-append}
use Rattle.std.proofs.lemmas.List.{append-nil, take_all, take_at, drop_at, take-append-drop, drop-drop, take-append-le, drop-append-le, drop_more, drop_all, take-take, get_or_read}
use Rattle.ciel_io.specs.Rows.{HeldRows, cut, place_of, space, total}

pub length_cut : (ns b : List ℕ) → length (cut ns b) ≡ length ns
length_cut [] b = refl
length_cut (n ∷ ns) b = ap suc (length_cut ns (drop n b))

-- the rows take the bytes and one for each
pub space_cut : (ns b : List ℕ) → total ns ≡ length b → space (cut ns b) ≡ length b + length ns
space_cut [] b e = omega (arith, e)
space_cut (n ∷ ns) b e =
    let rest : total ns ≡ length (drop n b) = omega (arith, e, length-drop n b) in
    omega (arith, e, space_cut ns (drop n b) rest, length-drop n b, length-take n b)

pub total_push : (ns : List ℕ) (n : ℕ) → total (ns ++ n ∷ []) ≡ total ns + n
total_push [] n = omega arith
total_push (m ∷ ns) n = omega (arith, total_push ns n)

pub total_set : (ns : List ℕ) (i m : ℕ) → i < length ns → total (set ns i m) + get_or ns i 0 ≡ total ns + m
total_set [] i m h = absurd (omega arith)
total_set (n ∷ ns) zero m h = omega arith
total_set (n ∷ ns) (suc i) m h = let below : i < length ns = omega arith in omega (arith, total_set ns i m below)

-- what the rows before a place take, and the row there
pub total_take : (ns : List ℕ) (i : ℕ) → i < length ns → total (take i ns) + get_or ns i 0 ≤ total ns
total_take [] i h = absurd (omega arith)
total_take (n ∷ ns) zero h = omega arith
total_take (n ∷ ns) (suc i) h = let below : i < length ns = omega arith in omega (arith, total_take ns i below)

pub total_next : (ns : List ℕ) (i : ℕ) → i < length ns → total (take (i + 1) ns) ≡ total (take i ns) + get_or ns i 0
total_next [] i h = absurd (omega arith)
total_next (n ∷ ns) zero h = omega arith
total_next (n ∷ ns) (suc i) h =
    let below : i < length ns = omega arith in
    let e : suc i + 1 ≡ suc (i + 1) = omega arith in
    rw e (omega (arith, total_next ns i below))

pub row_at : (ns b : List ℕ) (i : ℕ) → i < length ns → get_or (cut ns b) i [] ≡ take (get_or ns i 0) (drop (total (take i ns)) b)
row_at [] b i h = absurd (omega arith)
row_at (n ∷ ns) b zero h = refl
row_at (n ∷ ns) b (suc i) h =
    let below : i < length ns = omega arith in
    row_at ns (drop n b) i below ∙ ap (λ y. take (get_or ns i 0) y) (drop-drop (total (take i ns)) n b)

-- another row behind
pub cut_push : (ns b row : List ℕ) → total ns ≡ length b → cut (ns ++ length row ∷ []) (b ++ row) ≡ cut ns b ++ row ∷ []
cut_push [] [] row e = ap (λ y. y ∷ []) (take_all (length row) row (omega arith))
cut_push [] (x ∷ b) row e = absurd (omega arith)
cut_push (n ∷ ns) b row e =
    let fits : n ≤ length b = omega (arith, e) in
    let rest : total ns ≡ length (drop n b) = omega (arith, e, length-drop n b) in
    rw (take-append-le n b row fits)
    rw (drop-append-le n b row fits)
    (ap (λ y. take n b ∷ y) (cut_push ns (drop n b) row rest))

nothing : (k : ℕ) → ◌≡◌ {A = List ℕ} [] (take k [])
nothing zero = refl
nothing (suc k) = refl

split_take : (m k : ℕ) (xs : List ℕ) → take (m + k) xs ≡ take m xs ++ take k (drop m xs)
split_take zero k xs = let e : 0 + k ≡ k = omega arith in rw e refl
split_take (suc m) k [] = let e : suc m + k ≡ suc (m + k) = omega arith in rw e (nothing k)
split_take (suc m) k (x ∷ xs) =
    let e : suc m + k ≡ suc (m + k) = omega arith in rw e (ap (λ y. x ∷ y) (split_take m k xs))

-- a piece behind the row at a place
pub cut_extend : (ns b piece : List ℕ) (i : ℕ) → i < length ns → total ns ≡ length b
    → cut (set ns i (get_or ns i 0 + length piece)) (take (total (take (i + 1) ns)) b ++ (piece ++ drop (total (take (i + 1) ns)) b))
    ≡ set (cut ns b) i (get_or (cut ns b) i [] ++ piece)
cut_extend [] b piece i h e = absurd (omega arith)
cut_extend (n ∷ ns) b piece zero h e =
    let zero_more : n + 0 ≡ n = omega arith in
    let len : length (take n b) ≡ n = omega (arith, e, length-take n b) in
    let both : length (take n b ++ piece) ≡ n + length piece = omega (arith, len, length-append (take n b) piece) in
    rw zero_more
    rw (sym (append_assoc (take n b) piece (drop n b)))
    rw (take_at (take n b ++ piece) (drop n b) (n + length piece) both)
    rw (drop_at (take n b ++ piece) (drop n b) (n + length piece) both)
    refl
cut_extend (n ∷ ns) b piece (suc i) h e =
    let below : i < length ns = omega arith in
    let up : suc i + 1 ≡ suc (i + 1) = omega arith in
    let rest : total ns ≡ length (drop n b) = omega (arith, e, length-drop n b) in
    let s = total (take (i + 1) ns) in
    let part : take (n + s) b ≡ take n b ++ take s (drop n b) = split_take n s b in
    let behind : drop (n + s) b ≡ drop s (drop n b) = sym (drop-drop s n b) in
    let len : length (take n b) ≡ n = omega (arith, e, length-take n b) in
    let whole : List ℕ = take s (drop n b) ++ (piece ++ drop s (drop n b)) in
    rw up
    rw part
    rw behind
    rw (append_assoc (take n b) (take s (drop n b)) (piece ++ drop s (drop n b)))
    rw (take_at (take n b) whole n len)
    rw (drop_at (take n b) whole n len)
    (ap (λ y. take n b ∷ y) (cut_extend ns (drop n b) piece i below rest))

-- the row at a place without its bytes
pub cut_empty : (ns b : List ℕ) (i : ℕ) → i < length ns → total ns ≡ length b
    → cut (set ns i 0) (take (total (take i ns)) b ++ drop (total (take i ns) + get_or ns i 0) b) ≡ set (cut ns b) i []
cut_empty [] b i h e = absurd (omega arith)
cut_empty (n ∷ ns) b zero h e = let z : 0 + n ≡ n = omega arith in rw z refl
cut_empty (n ∷ ns) b (suc i) h e =
    let below : i < length ns = omega arith in
    let rest : total ns ≡ length (drop n b) = omega (arith, e, length-drop n b) in
    let s = total (take i ns) in
    let m = get_or ns i 0 in
    let fits : n ≤ length b = omega (arith, e) in
    let len : length (take n b) ≡ n = omega (arith, e, length-take n b) in
    let part : take (n + s) b ≡ take n b ++ take s (drop n b) = split_take n s b in
    let sum : n + s + m ≡ n + (s + m) = omega arith in
    let behind : drop (n + (s + m)) b ≡ drop (s + m) (drop n b) = sym (drop-drop (s + m) n b) in
    let whole : List ℕ = take s (drop n b) ++ drop (s + m) (drop n b) in
    rw part
    rw sum
    rw behind
    rw (append_assoc (take n b) (take s (drop n b)) (drop (s + m) (drop n b)))
    rw (take_at (take n b) whole n len)
    rw (drop_at (take n b) whole n len)
    (ap (λ y. take n b ∷ y) (cut_empty ns (drop n b) i below rest))

-- the first lengths come to at most what all come to
pub total_part : (ns : List ℕ) (i : ℕ) → total (take i ns) ≤ total ns
total_part [] zero = omega arith
total_part [] (suc i) = omega arith
total_part (n ∷ ns) zero = omega arith
total_part (n ∷ ns) (suc i) = omega (arith, total_part ns i)

pub total_whole : (ns : List ℕ) (i : ℕ) → length ns ≤ i → total (take i ns) ≡ total ns
total_whole ns i h = ap total (take_all i ns h)

-- a place behind so many rows
abbrev pub behind : ℕ → Option ℕ → Option ℕ
behind n o = option_map (λ i. n + i) o

pub behind_none : (o : Option ℕ) → o ≡ behind 0 o
behind_none None = refl
behind_none (Some i) = let e : i ≡ 0 + i = omega arith in ap Some e

pub behind_one : (n : ℕ) (o : Option ℕ) → behind n (option_map suc o) ≡ behind (n + 1) o
behind_one n None = refl
behind_one n (Some i) = let e : n + suc i ≡ n + 1 + i = omega arith in ap Some e

-- the row at a place is the one that is looked for, or it stands behind
pub found_at : (rows : List (List ℕ)) (row : List ℕ) (n : ℕ) → n < length rows
    → place_of rows row ≡ behind n (place_of (drop n rows) row) → bytes_eq (get_or rows n []) row ≡ true → place_of rows row ≡ Some n
found_at rows row n h e same =
    let next : drop n rows ≡ get_or rows n [] ∷ drop (n + 1) rows = drop_more rows n [] h in
    let here : n + 0 ≡ n = omega arith in
    e ∙ ap (λ y. behind n (place_of y row)) next ∙ (rw same (ap Some here))

pub not_at : (rows : List (List ℕ)) (row : List ℕ) (n : ℕ) → n < length rows
    → place_of rows row ≡ behind n (place_of (drop n rows) row) → bytes_eq (get_or rows n []) row ≡ false
    → place_of rows row ≡ behind (n + 1) (place_of (drop (n + 1) rows) row)
not_at rows row n h e other =
    let next : drop n rows ≡ get_or rows n [] ∷ drop (n + 1) rows = drop_more rows n [] h in
    e ∙ ap (λ y. behind n (place_of y row)) next ∙ (rw other (behind_one n (place_of (drop (n + 1) rows) row)))

pub not_found : (rows : List (List ℕ)) (row : List ℕ) (n : ℕ) → length rows ≤ n
    → place_of rows row ≡ behind n (place_of (drop n rows) row) → place_of rows row ≡ None
not_found rows row n h e = e ∙ ap (λ y. behind n (place_of y row)) (drop_all n rows h)

-- a list that was turned to its end, a piece put behind, turned back
pub turned_more : (b piece : List ℕ) (place : ℕ) → place ≤ length b
    → drop (length b - place) ((drop place b ++ take place b) ++ piece) ++ take (length b - place) ((drop place b ++ take place b) ++ piece)
    ≡ take place b ++ (piece ++ drop place b)
turned_more b piece place h =
    let len : length (drop place b) ≡ length b - place = length-drop place b in
    rw (append_assoc (drop place b) (take place b) piece)
    rw (drop_at (drop place b) (take place b ++ piece) (length b - place) len)
    rw (take_at (drop place b) (take place b ++ piece) (length b - place) len)
    (append_assoc (take place b) piece (drop place b))

-- a list that was turned to its end, cut behind the front, turned back
pub turned_less : (b : List ℕ) (start end : ℕ) → start ≤ end → end ≤ length b
    → drop (length b - end) (take (length b - end + start) (drop end b ++ take end b))
    ++ take (length b - end) (take (length b - end + start) (drop end b ++ take end b))
    ≡ take start b ++ drop end b
turned_less b start end h k =
    let len : length (drop end b) ≡ length b - end = length-drop end b in
    let front : take start (take end b) ≡ take start b = take-take start end b h in
    let part : take (length b - end + start) (drop end b ++ take end b) ≡ drop end b ++ take start b =
    ap (λ n. take (n + start) (drop end b ++ take end b)) (sym len)
    ∙ split_take (length (drop end b)) start (drop end b ++ take end b)
    ∙ ap (λ y. y ++ take start (drop (length (drop end b)) (drop end b ++ take end b))) (take_at (drop end b) (take end b) (length (drop end b)) refl)
    ∙ ap (λ y. drop end b ++ take start y) (drop_at (drop end b) (take end b) (length (drop end b)) refl)
    ∙ ap (λ y. drop end b ++ y) front in
    rw part
    rw (drop_at (drop end b) (take start b) (length b - end) len)
    rw (take_at (drop end b) (take start b) (length b - end) len)
    refl

pub same_held : (a b : ℕ) (xs ys : List (List ℕ)) → a ≡ b → xs ≡ ys
    → ◌≡◌ {A = HeldRows} (record { room = a; rows = xs }) (record { room = b; rows = ys })
same_held a b xs ys e h = cc

-- a length that is read where it stands
pub read_length : (ns : List ℕ) (i n : ℕ) → i < length ns → n ≡ get_or ns i n → n ≡ get_or ns i 0
read_length ns i n h e = get_or_read ns i n h e 0

length_parts : (b p : List ℕ) (s e : ℕ) → length (take s b ++ (p ++ drop e b)) ≡ min s (length b) + (length p + (length b - e))
length_parts b p s e =
    omega (
      arith,
      length-append (take s b) (p ++ drop e b),
      length-append p (drop e b),
      length-take s b,
      length-drop e b,
    )

-- a piece behind the row at a place: the lengths still come to the bytes, and the rows are the others and the longer one
pub total_extended : (ns b piece : List ℕ) (i : ℕ) → i < length ns → total ns ≡ length b
    → total (set ns i (get_or ns i 0 + length piece))
    ≡ length (take (total (take i ns) + get_or ns i 0) b ++ (piece ++ drop (total (take i ns) + get_or ns i 0) b))
total_extended ns b piece i h e =
    let s = total (take i ns) + get_or ns i 0 in
    omega (arith, e, total_set ns i (get_or ns i 0 + length piece) h, total_take ns i h, length_parts b piece s s)

pub cut_extended : (ns b piece : List ℕ) (i : ℕ) → i < length ns → total ns ≡ length b
    → cut (set ns i (get_or ns i 0 + length piece))
    (take (total (take i ns) + get_or ns i 0) b ++ (piece ++ drop (total (take i ns) + get_or ns i 0) b))
    ≡ set (cut ns b) i (get_or (cut ns b) i [] ++ piece)
cut_extended ns b piece i h e = rw (sym (total_next ns i h)) (cut_extend ns b piece i h e)

-- a row without its bytes
pub total_emptied : (ns b : List ℕ) (i : ℕ) → i < length ns → total ns ≡ length b
    → total (set ns i 0) ≡ length (take (total (take i ns)) b ++ drop (total (take i ns) + get_or ns i 0) b)
total_emptied ns b i h e =
    let s = total (take i ns) in
    omega (arith, e, total_set ns i 0 h, total_take ns i h, length_parts b [] s (s + get_or ns i 0))

pub length_extended : (ns b piece : List ℕ) (i : ℕ)
    → length (take (total (take i ns) + get_or ns i 0) b ++ (piece ++ drop (total (take i ns) + get_or ns i 0) b)) ≡ length b + length piece
length_extended ns b piece i =
    let s = total (take i ns) + get_or ns i 0 in
    omega (arith, length_parts b piece s s)

pub length_emptied : (ns b : List ℕ) (i : ℕ) → i < length ns → total ns ≡ length b
    → length (take (total (take i ns)) b ++ drop (total (take i ns) + get_or ns i 0) b) ≤ length b
length_emptied ns b i h e =
    let s = total (take i ns) in
    omega (arith, length_parts b [] s (s + get_or ns i 0))
