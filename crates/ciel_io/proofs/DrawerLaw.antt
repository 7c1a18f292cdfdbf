-- Files as two lists, of paths and of what stands there: what a call makes of them, and what that takes.
use Rattle.std.proofs.Common.{◌≡◌, Bool, true, false, ◌||◌, ℕ, zero, suc, ◌+◌, ◌<◌, ◌≤◌, List, [], ◌∷◌, ◌++◌, Option, Some, None, bytes_eq, IfSome, is_some, option_map, length, length-set, map, set, get_or, refl, sym, ap, ◌∙◌, arith, le-leb, leb-true, length-append, nat_le, if◌then◌else◌}
use Rattle.std.specs.List.{zip}
use Rattle.std.proofs.lemmas.List.{get_or-set_same, set-set}
use Rattle.std.proofs.lemmas.Slice.Eq.{bytes_eq-Decides}
use Rattle.ciel_io.specs.declared.drawer.Way.{Way}
use Rattle.ciel_io.specs.declared.drawer.Way.TheVariants.{Behind, Instead}
use Rattle.ciel_io.specs.HeldFiles.{bytes_at, content_at}
use Rattle.ciel_io.specs.HeldKeep.{HeldKeep, KeptFiles, after_call, changed, put_so, taken}
use Rattle.ciel_io.specs.Kept.{Files, with_file}
use Rattle.ciel_io.specs.Rows.{has_row, place_of, space}

-- ---- where a path stands

no_place : (b : Bool) (o : Option ℕ) → if b then Some 0 else option_map suc o ≡ None → (b ≡ false) × (o ≡ None)
no_place true o e = absurd cc
no_place false None e = (refl, refl)
no_place false (Some i) e = absurd cc

below_at : (b : Bool) (o : Option ℕ) (n i : ℕ) → ((j : ℕ) → o ≡ Some j → j < n) → if b then Some 0 else option_map suc o ≡ Some i → i < suc n
below_at true o n i h e = let same : 0 ≡ i = cc in omega (arith, same)
below_at false None n i h e = absurd cc
below_at false (Some j) n i h e = let same : suc j ≡ i = cc in let below = h j refl in omega (arith, below, same)

pub place_below : (ps : List (List ℕ)) (p : List ℕ) (i : ℕ) → place_of ps p ≡ Some i → i < length ps
place_below [] p i e = absurd cc
place_below (r ∷ ps) p i e = below_at (bytes_eq r p) (place_of ps p) (length ps) i (place_below ps p) e

-- ---- a path that no call was asked with

pub content_new : (ps cs : List (List ℕ)) (p : List ℕ) → place_of ps p ≡ None → content_at (zip ps cs) p ≡ None
content_new [] cs p e = refl
content_new (r ∷ ps) [] p e = refl
content_new (r ∷ ps) (c ∷ cs) p e =
    let no = no_place (bytes_eq r p) (place_of ps p) e in
    rw no.0 (content_new ps cs p no.1)

pub with_new : (ps cs : List (List ℕ)) (p x : List ℕ) → length ps ≡ length cs → place_of ps p ≡ None
    → with_file (zip ps cs) p x ≡ zip (ps ++ p ∷ []) (cs ++ x ∷ [])
with_new [] [] p x h e = refl
with_new [] (c ∷ cs) p x h e = absurd (omega (arith, h))
with_new (r ∷ ps) [] p x h e = absurd (omega (arith, h))
with_new (r ∷ ps) (c ∷ cs) p x h e =
    let no = no_place (bytes_eq r p) (place_of ps p) e in
    let same : length ps ≡ length cs = omega (arith, h) in
    rw no.0 (ap (λ y. (r, c) ∷ y) (with_new ps cs p x same no.1))

-- ---- a path that stands at a place

content_there : (b : Bool) (o : Option ℕ) (c : List ℕ) (cs : List (List ℕ)) (rest : Option (List ℕ)) (i : ℕ)
    → ((j : ℕ) → o ≡ Some j → rest ≡ Some (get_or cs j [])) → if b then Some 0 else option_map suc o ≡ Some i
    → if b then Some c else rest ≡ Some (get_or (c ∷ cs) i [])
content_there true o c cs rest i h e = let same : 0 ≡ i = cc in rw (sym same) refl
content_there false None c cs rest i h e = absurd cc
content_there false (Some j) c cs rest i h e = let same : suc j ≡ i = cc in rw (sym same) (h j refl)

pub content_old : (ps cs : List (List ℕ)) (p : List ℕ) (i : ℕ) → length ps ≡ length cs → place_of ps p ≡ Some i
    → content_at (zip ps cs) p ≡ Some (get_or cs i [])
content_old [] cs p i h e = absurd cc
content_old (r ∷ ps) [] p i h e = absurd (omega (arith, h))
content_old (r ∷ ps) (c ∷ cs) p i h e =
    let same : length ps ≡ length cs = omega (arith, h) in
    content_there (bytes_eq r p) (place_of ps p) c cs (content_at (zip ps cs) p) i (λ j g. content_old ps cs p j same g) e

with_there : (b : Bool) (o : Option ℕ) (r c x : List ℕ) (ps cs : List (List ℕ)) (rest : Files) (i : ℕ)
    → ((j : ℕ) → o ≡ Some j → rest ≡ zip ps (set cs j x)) → if b then Some 0 else option_map suc o ≡ Some i
    → if b then (r, x) ∷ zip ps cs else (r, c) ∷ rest ≡ zip (r ∷ ps) (set (c ∷ cs) i x)
with_there true o r c x ps cs rest i h e = let same : 0 ≡ i = cc in rw (sym same) refl
with_there false None r c x ps cs rest i h e = absurd cc
with_there false (Some j) r c x ps cs rest i h e =
    let same : suc j ≡ i = cc in rw (sym same) (ap (λ y. (r, c) ∷ y) (h j refl))

pub with_old : (ps cs : List (List ℕ)) (p x : List ℕ) (i : ℕ) → length ps ≡ length cs → place_of ps p ≡ Some i
    → with_file (zip ps cs) p x ≡ zip ps (set cs i x)
with_old [] cs p x i h e = absurd cc
with_old (r ∷ ps) [] p x i h e = absurd (omega (arith, h))
with_old (r ∷ ps) (c ∷ cs) p x i h e =
    let same : length ps ≡ length cs = omega (arith, h) in
    with_there (bytes_eq r p) (place_of ps p) r c x ps cs (with_file (zip ps cs) p x) i (λ j g. with_old ps cs p x j same g) e

pub bytes_new : (ps cs : List (List ℕ)) (p : List ℕ) → place_of ps p ≡ None → bytes_at (zip ps cs) p ≡ []
bytes_new ps cs p e = rw (content_new ps cs p e) refl

pub bytes_old : (ps cs : List (List ℕ)) (p : List ℕ) (i : ℕ) → length ps ≡ length cs → place_of ps p ≡ Some i
    → bytes_at (zip ps cs) p ≡ get_or cs i []
bytes_old ps cs p i h e = rw (content_old ps cs p i h e) refl

-- ---- what they take

paths_zip : (ps cs : List (List ℕ)) → length ps ≡ length cs → map (λ (f : List ℕ × List ℕ). f.0) (zip ps cs) ≡ ps
paths_zip [] cs h = refl
paths_zip (r ∷ ps) [] h = absurd (omega (arith, h))
paths_zip (r ∷ ps) (c ∷ cs) h = let same : length ps ≡ length cs = omega (arith, h) in ap (λ y. r ∷ y) (paths_zip ps cs same)

contents_zip : (ps cs : List (List ℕ)) → length ps ≡ length cs → map (λ (f : List ℕ × List ℕ). f.1) (zip ps cs) ≡ cs
contents_zip [] [] h = refl
contents_zip [] (c ∷ cs) h = absurd (omega (arith, h))
contents_zip (r ∷ ps) [] h = absurd (omega (arith, h))
contents_zip (r ∷ ps) (c ∷ cs) h = let same : length ps ≡ length cs = omega (arith, h) in ap (λ y. c ∷ y) (contents_zip ps cs same)

pub taken_zip : (ps cs ks : List (List ℕ)) → length ps ≡ length cs
    → taken (record { files = zip ps cs; asked = ks }) ≡ space ps + space cs + space ks
taken_zip ps cs ks h = rw (paths_zip ps cs h) (rw (contents_zip ps cs h) refl)

pub space_push : (rows : List (List ℕ)) (r : List ℕ) → space (rows ++ r ∷ []) ≡ space rows + length r + 1
space_push [] r = omega arith
space_push (x ∷ rows) r = omega (arith, space_push rows r)

pub space_set : (rows : List (List ℕ)) (i : ℕ) (r : List ℕ) → i < length rows
    → space (set rows i r) + length (get_or rows i []) ≡ space rows + length r
space_set [] i r h = absurd (omega arith)
space_set (x ∷ rows) zero r h = omega arith
space_set (x ∷ rows) (suc i) r h = let below : i < length rows = omega arith in omega (arith, space_set rows i r below)

-- ---- what a call makes of all, where the path stands at a place, and where it is new

pub changed_old : (ps cs ks : List (List ℕ)) (p : List ℕ) (f : List ℕ → List ℕ) (i : ℕ) → length ps ≡ length cs → place_of ps p ≡ Some i
    → changed (record { files = zip ps cs; asked = ks }) p f
    ≡ record { files = zip ps (set cs i (f (get_or cs i []))); asked = ks ++ p ∷ [] }
changed_old ps cs ks p f i h e =
    let files = with_old ps cs p (f (bytes_at (zip ps cs) p)) i h e ∙ ap (λ y. zip ps (set cs i (f y))) (bytes_old ps cs p i h e) in
    ap (λ (y : Files). record { files = y; asked = ks ++ p ∷ [] }) files

pub changed_new : (ps cs ks : List (List ℕ)) (p : List ℕ) (f : List ℕ → List ℕ) → length ps ≡ length cs → place_of ps p ≡ None
    → changed (record { files = zip ps cs; asked = ks }) p f
    ≡ record { files = zip (ps ++ p ∷ []) (cs ++ f [] ∷ []); asked = ks ++ p ∷ [] }
changed_new ps cs ks p f h e =
    let files = with_new ps cs p (f (bytes_at (zip ps cs) p)) h e ∙ ap (λ y. zip (ps ++ p ∷ []) (cs ++ f y ∷ [])) (bytes_new ps cs p e) in
    ap (λ (y : Files). record { files = y; asked = ks ++ p ∷ [] }) files

pub taken_old : (ps cs ks : List (List ℕ)) (p : List ℕ) (f : List ℕ → List ℕ) (i : ℕ) → length ps ≡ length cs → place_of ps p ≡ Some i
    → taken (changed (record { files = zip ps cs; asked = ks }) p f) + length (get_or cs i [])
    ≡ space ps + space cs + space ks + length p + 1 + length (f (get_or cs i []))
taken_old ps cs ks p f i h e =
    let x = f (get_or cs i []) in
    let here : i < length cs = omega (arith, h, place_below ps p i e) in
    let many : length ps ≡ length (set cs i x) = h ∙ sym (length-set cs i x) in
    (omega (arith, ap taken (changed_old ps cs ks p f i h e), taken_zip ps (set cs i x) (ks ++ p ∷ []) many, space_set cs i x here, space_push ks p))

pub taken_new : (ps cs ks : List (List ℕ)) (p : List ℕ) (f : List ℕ → List ℕ) → length ps ≡ length cs → place_of ps p ≡ None
    → taken (changed (record { files = zip ps cs; asked = ks }) p f)
    ≡ space ps + space cs + space ks + length p + 1 + (length p + length (f []) + 2)
taken_new ps cs ks p f h e =
    let many : length (ps ++ p ∷ []) ≡ length (cs ++ f [] ∷ []) =
    omega (arith, h, length-append ps (p ∷ []), length-append cs (f [] ∷ [])) in
    (omega (arith, ap taken (changed_new ps cs ks p f h e), taken_zip (ps ++ p ∷ []) (cs ++ f [] ∷ []) (ks ++ p ∷ []) many, space_push ps p, space_push cs (f []), space_push ks p))

-- ---- which paths were asked

has_there : (b : Bool) (o n : Option ℕ) (x : Bool) → is_some n ≡ is_some o || x
    → is_some (if b then Some 0 else option_map suc n) ≡ is_some (if b then Some 0 else option_map suc o) || x
has_there true o n x h = refl
has_there false None None x h = h
has_there false None (Some i) x h = h
has_there false (Some j) None x h = h
has_there false (Some j) (Some i) x h = h

pub has_push : (rows : List (List ℕ)) (r p : List ℕ) → has_row (rows ++ r ∷ []) p ≡ has_row rows p || bytes_eq r p
has_push [] r p = last (bytes_eq r p)
  where
    last : (b : Bool) → is_some (if b then Some 0 else option_map suc None) ≡ b
    last true = refl
    last false = refl
has_push (x ∷ rows) r p =
    has_there (bytes_eq x p) (place_of rows p) (place_of (rows ++ r ∷ []) p) (bytes_eq r p) (has_push rows r p)

-- both lists know the same paths still, where the path is put behind both, and where it stood in the first
pub asked_new : (ps ks : List (List ℕ)) (p : List ℕ) → ((q : List ℕ) → has_row ps q ≡ has_row ks q)
    → (q : List ℕ) → has_row (ps ++ p ∷ []) q ≡ has_row (ks ++ p ∷ []) q
asked_new ps ks p h q = has_push ps p q ∙ ap (λ b. b || bytes_eq p q) (h q) ∙ sym (has_push ks p q)

known : (a b : Bool) → (b ≡ true → a ≡ true) → a ≡ a || b
known true b h = refl
known false true h = h refl
known false false h = refl

pub asked_old : (ps ks : List (List ℕ)) (p : List ℕ) (i : ℕ) → place_of ps p ≡ Some i → ((q : List ℕ) → has_row ps q ≡ has_row ks q)
    → (q : List ℕ) → has_row ps q ≡ has_row (ks ++ p ∷ []) q
asked_old ps ks p i e h q =
    h q ∙ known (has_row ks q) (bytes_eq p q) there ∙ sym (has_push ks p q)
  where
    there : bytes_eq p q ≡ true → has_row ks q ≡ true
    there same =
        let one : p ≡ q = (bytes_eq-Decides p q).0 same in
        sym (h q) ∙ ap (has_row ps) (sym one) ∙ ap is_some e

-- a row takes a part of what all take
pub space_at : (rows : List (List ℕ)) (i : ℕ) → i < length rows → length (get_or rows i []) ≤ space rows
space_at [] i h = absurd (omega arith)
space_at (x ∷ rows) zero h = omega arith
space_at (x ∷ rows) (suc i) h = let below : i < length rows = omega arith in omega (arith, space_at rows i below)

-- where nothing stood, the piece stands alone
pub put_nothing : (way : Way) (piece : List ℕ) → put_so way piece [] ≡ piece
put_nothing Behind piece = refl
put_nothing Instead piece = refl

-- a row that was emptied and got a piece
pub emptied : (rows : List (List ℕ)) (i : ℕ) (piece : List ℕ) → i < length rows
    → set (set rows i []) i (get_or (set rows i []) i [] ++ piece) ≡ set rows i piece
emptied rows i piece h = rw (get_or-set_same rows i [] [] h) (set-set rows i [] piece)

-- what holds of what is told, where it is told
pub while_told : (told : Bool) (k : KeptFiles) (P : KeptFiles → Type 0) → P k → IfSome (if told then Some k else None) P
while_told true k P p = p
while_told false k P p = tt

not_le : (a b : ℕ) → b < a → nat_le a b ≡ false
not_le a b h = look (nat_le a b) refl
  where
    look : (x : Bool) → nat_le a b ≡ x → nat_le a b ≡ false
    look true e = let le = leb-true a b e in absurd (omega (arith, le, h))
    look false e = e

-- what is told behind a call that leaves what fits
pub told_so : (room : ℕ) (told : Bool) (k n : KeptFiles) (p : List ℕ) (f : List ℕ → List ℕ)
    → told ≡ true → taken (changed k p f) ≤ room → n ≡ changed k p f
    → ◌≡◌ {A = HeldKeep} (record { room = room; told = if told then Some n else None })
    (after_call (record { room = room; told = if told then Some k else None }) p f)
told_so room told k n p f e fits same =
    rw e (rw (le-leb (taken (changed k p f)) room fits) (ap (λ (x : KeptFiles). record { room = room; told = Some x }) same))

-- behind a call that leaves too much nothing is told, and none was before or is then
pub told_past : (room : ℕ) (told : Bool) (k : KeptFiles) (p : List ℕ) (f : List ℕ → List ℕ) → room < taken (changed k p f)
    → ◌≡◌ {A = HeldKeep} (record { room = room; told = None }) (after_call (record { room = room; told = if told then Some k else None }) p f)
told_past room true k p f past = rw (not_le (taken (changed k p f)) room past) refl
told_past room false k p f past = refl

-- what the paths asked take stays within what all take
pub taken_asked : (ps cs ks : List (List ℕ)) (p : List ℕ) (f : List ℕ → List ℕ) (o : Option ℕ) → length ps ≡ length cs → place_of ps p ≡ o
    → space ks + length p + 1 ≤ taken (changed (record { files = zip ps cs; asked = ks }) p f)
taken_asked ps cs ks p f None h e = omega (arith, taken_new ps cs ks p f h e)
taken_asked ps cs ks p f (Some i) h e =
    let here : i < length cs = omega (arith, h, place_below ps p i e) in
    omega (arith, taken_old ps cs ks p f i h e, space_at cs i here)
