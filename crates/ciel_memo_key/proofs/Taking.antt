-- Bytes that are compared with a key, piece by piece.
use Rattle.std.proofs.Common.{◌≡◌, ◌<◌, ◌≤◌, ◌+◌, ℕ, List, [], ◌∷◌, ◌++◌, true, false, arith, drop, get_or, length, refl, sym, ◌∙◌, ap, ap₂, true≢false}
use Rattle.std.proofs.lemmas.List.{drop_all, drop_more}
use Rattle.std.specs.Ordering.{is_ne, nat_cmp, ordering_then}
use Rattle.std.specs.Cmp.Lexicographic.{slice_cmp}
use Rattle.std.specs.declared.cmp.Ordering.{Ordering}
use Rattle.sky_base.specs.Name.{big_endian}
use Rattle.ciel_memo_key.specs.Against.{AgainstSeen, after_byte, one_if, order_of, taken}

pub taken_joined : (s : AgainstSeen) (a b : List ℕ) → taken (taken s a) b ≡ taken s (a ++ b)
unfolding taken
taken_joined s [] b = refl
taken_joined s (x ∷ a) b = taken_joined (one_if x s.rest s.found) a b

pub taken_none : (s : AgainstSeen) → taken s [] ≡ s
unfolding taken
taken_none s = refl

pub ruleset takings = (taken_joined, taken_none)

stays_less : (rest bs : List ℕ) → order_of (taken (record { rest = rest; found = Ordering.Less }) bs) ≡ Ordering.Less
unfolding taken
stays_less [] [] = refl
stays_less (k ∷ ks) [] = refl
stays_less rest (b ∷ bs) = stays_less rest bs

stays_greater : (rest bs : List ℕ) → order_of (taken (record { rest = rest; found = Ordering.Greater }) bs) ≡ Ordering.Greater
unfolding taken
stays_greater [] [] = refl
stays_greater (k ∷ ks) [] = refl
stays_greater rest (b ∷ bs) = stays_greater rest bs

goes : (b : ℕ) (ks bs : List ℕ) (o : Ordering)
    → order_of (taken (record { rest = ks; found = Ordering.Equal }) bs) ≡ slice_cmp nat_cmp bs ks
    → order_of (taken (after_byte b ks o) bs) ≡ ordering_then o (slice_cmp nat_cmp bs ks)
unfolding taken
goes b ks bs Ordering.Less h = stays_less [] bs
goes b ks bs Ordering.Equal h = h
goes b ks bs Ordering.Greater h = stays_greater [] bs

pub compares : (key bs : List ℕ) → order_of (taken (record { rest = key; found = Ordering.Equal }) bs) ≡ slice_cmp nat_cmp bs key
unfolding taken
compares [] [] = refl
compares (k ∷ ks) [] = refl
compares [] (b ∷ bs) = stays_greater [] bs
compares (k ∷ ks) (b ∷ bs) = goes b ks bs (nat_cmp b k) (compares ks bs)

-- where bytes differed, more of them change nothing
stays_so : (rest bs : List ℕ) (o : Ordering) → is_ne o ≡ true → taken (record { rest = rest; found = o }) bs ≡ record { rest = rest; found = o }
unfolding taken
stays_so rest [] o n = refl
stays_so rest (b ∷ bs) Ordering.Less n = stays_so rest bs Ordering.Less n
stays_so rest (b ∷ bs) Ordering.Equal n = absurd (true≢false (sym n))
stays_so rest (b ∷ bs) Ordering.Greater n = stays_so rest bs Ordering.Greater n

pub stays : (s : AgainstSeen) (bs : List ℕ) → is_ne s.found ≡ true → taken s bs ≡ s
stays s bs n = stays_so s.rest bs s.found n

-- as many bytes as the front of a key has, by how they compare with it
abbrev pub settled : Ordering → (rest : List ℕ) → AgainstSeen
settled Ordering.Less rest = record { rest = []; found = Ordering.Less }
settled Ordering.Equal rest = record { rest = rest; found = Ordering.Equal }
settled Ordering.Greater rest = record { rest = []; found = Ordering.Greater }

goes_within : (b : ℕ) (o : Ordering) (bs ks rest : List ℕ) (then : Ordering)
    → taken (record { rest = ks; found = Ordering.Equal }) bs ≡ settled then rest
    → taken (after_byte b ks o) bs ≡ settled (ordering_then o then) rest
goes_within b Ordering.Less bs ks rest then h = stays_so [] bs Ordering.Less refl
goes_within b Ordering.Equal bs ks rest then h = h
goes_within b Ordering.Greater bs ks rest then h = stays_so [] bs Ordering.Greater refl

pub taken_within : (bs ks rest : List ℕ) → length bs ≡ length ks
    → taken (record { rest = ks ++ rest; found = Ordering.Equal }) bs ≡ settled (slice_cmp nat_cmp bs ks) rest
unfolding taken
taken_within [] [] rest e = refl
taken_within [] (k ∷ ks) rest e = absurd (omega (arith, e))
taken_within (b ∷ bs) [] rest e = absurd (omega (arith, e))
taken_within (b ∷ bs) (k ∷ ks) rest e = goes_within b (nat_cmp b k) bs (ks ++ rest) rest (slice_cmp nat_cmp bs ks)
    (taken_within bs ks rest (omega (arith, e)))

-- more bytes than a key has, by how the first so many compare with it
abbrev pub settled_beyond : Ordering → AgainstSeen
settled_beyond Ordering.Less = record { rest = []; found = Ordering.Less }
settled_beyond Ordering.Equal = record { rest = []; found = Ordering.Greater }
settled_beyond Ordering.Greater = record { rest = []; found = Ordering.Greater }

goes_beyond : (b : ℕ) (o : Ordering) (bs ks : List ℕ) (then : Ordering)
    → taken (record { rest = ks; found = Ordering.Equal }) bs ≡ settled_beyond then
    → taken (after_byte b ks o) bs ≡ settled_beyond (ordering_then o then)
goes_beyond b Ordering.Less bs ks then h = stays_so [] bs Ordering.Less refl
goes_beyond b Ordering.Equal bs ks then h = h
goes_beyond b Ordering.Greater bs ks then h = stays_so [] bs Ordering.Greater refl

pub taken_beyond : (bs more ks : List ℕ) → length bs ≡ length ks → 0 < length more
    → taken (record { rest = ks; found = Ordering.Equal }) (bs ++ more) ≡ settled_beyond (slice_cmp nat_cmp bs ks)
unfolding taken
taken_beyond [] [] [] e p = absurd (omega (arith, p))
taken_beyond [] (m ∷ more) [] e p = stays_so [] more Ordering.Greater refl
taken_beyond [] more (k ∷ ks) e p = absurd (omega (arith, e))
taken_beyond (b ∷ bs) more [] e p = absurd (omega (arith, e))
taken_beyond (b ∷ bs) more (k ∷ ks) e p = goes_beyond b (nat_cmp b k) (bs ++ more) ks (slice_cmp nat_cmp bs ks)
    (taken_beyond bs more ks (omega (arith, e)) p)

-- ---- what is found

pub within_differs : (o : Ordering) (rest : List ℕ) → is_ne o ≡ true → settled o rest ≡ record { rest = []; found = o }
within_differs Ordering.Less rest n = refl
within_differs Ordering.Equal rest n = absurd (true≢false (sym n))
within_differs Ordering.Greater rest n = refl

pub within_same : (o : Ordering) (rest : List ℕ) → is_ne o ≡ false → settled o rest ≡ record { rest = rest; found = o }
within_same Ordering.Less rest n = absurd (true≢false n)
within_same Ordering.Equal rest n = refl
within_same Ordering.Greater rest n = absurd (true≢false n)

pub beyond_differs : (o : Ordering) → is_ne o ≡ true → settled_beyond o ≡ record { rest = []; found = o }
beyond_differs Ordering.Less n = refl
beyond_differs Ordering.Equal n = absurd (true≢false (sym n))
beyond_differs Ordering.Greater n = refl

pub beyond_same : (o : Ordering) → is_ne o ≡ false → settled_beyond o ≡ record { rest = []; found = Ordering.Greater }
beyond_same Ordering.Less n = absurd (true≢false n)
beyond_same Ordering.Equal n = refl
beyond_same Ordering.Greater n = refl

-- the items of a list are taken one after the other
pub goes_on : {X : Type 0} (spell : X → List ℕ) (all : List X → List ℕ) → ((x : X) (xs : List X) → all (x ∷ xs) ≡ spell x ++ all xs)
    → (a s t : AgainstSeen) (xs : List X) (i : ℕ) (x : X) (whole : List ℕ) → i < length xs → x ≡ get_or xs i x
    → taken a whole ≡ taken s (all (drop i xs)) → t ≡ taken s (spell x) → taken a whole ≡ taken t (all (drop (i + 1) xs))
goes_on spell all cut a s t xs i x whole small is inv now =
    let rest = drop (i + 1) xs in
    let here : drop i xs ≡ x ∷ rest = drop_more xs i x small ∙ ap (λ y. y ∷ rest) (sym is) in
    inv ∙ (ap (λ ys. taken s (all ys)) here ∙ (ap (taken s) (cut x rest) ∙ (sym (taken_joined s (spell x) (all rest)) ∙ ap (λ u. taken u
    (all rest)) (sym now))))

pub goes_to_end : {X : Type 0} (all : List X → List ℕ) → all [] ≡ [] → (a s : AgainstSeen) (xs : List X) (i : ℕ) (whole : List ℕ) → length xs ≤ i
    → taken a whole ≡ taken s (all (drop i xs)) → s ≡ taken a whole
goes_to_end all none a s xs i whole over inv =
    sym (inv ∙ (ap (λ ys. taken s (all ys)) (drop_all i xs over) ∙ (ap (taken s) none ∙ taken_none s)))

pub counted : (a s t : AgainstSeen) (n m : ℕ) (bs cs : List ℕ) → t ≡ taken s bs → s ≡ taken a (big_endian 4 n) → n ≡ m → bs ≡ cs
    → t ≡ taken a (big_endian 4 m ++ cs)
counted a s t n m bs cs h k e f =
    h ∙ (ap (λ u. taken u bs) k ∙ (taken_joined a (big_endian 4 n) bs ∙ ap₂ (λ i ds. taken a (big_endian 4 i ++ ds)) e f))

pub four : (s0 s1 s2 s3 s4 s5 : AgainstSeen) (a b c d : List ℕ) → s1 ≡ s0 → s2 ≡ taken s1 a → s3 ≡ taken s2 b → s4 ≡ taken s3 c → s5 ≡ taken s4 d
    → s5 ≡ taken s0 (a ++ (b ++ (c ++ d)))
four s0 s1 s2 s3 s4 s5 a b c d h1 h2 h3 h4 h5 =
    h5 ∙ ap (λ s. taken s d) h4 ∙ taken_joined s3 c d ∙ ap (λ s. taken s (c ++ d)) h3 ∙ taken_joined s2 b (c ++ d)
    ∙ ap (λ s. taken s (b ++ (c ++ d))) h2 ∙ taken_joined s1 a (b ++ (c ++ d)) ∙ ap (λ s. taken s (a ++ (b ++ (c ++ d)))) h1
