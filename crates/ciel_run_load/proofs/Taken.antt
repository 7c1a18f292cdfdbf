-- Inputs are read one after the other: what a first one and the others come to, all come to.
use Rattle.std.proofs.Common.{◌≡◌, ◌≤◌, inl, inr, ℕ, zero, suc, ◌+◌, List, [], ◌∷◌, Option, Some, None, IfSome, IfErr, Result, Ok, Err, Contains}
use Rattle.std.proofs.Common.{length, map, take, slice_get, refl, sym, subst, ◌∙◌, arith}
use Rattle.ciel_io.specs.Faults.{HasRisen}
use Rattle.ciel_io.specs.Tells.{Tells, TellsPart}
use Rattle.ciel_run_load.specs.Line.{Input, path_in}
use Rattle.ciel_run_load.specs.Found.{input_limit, AllWithin, HoldAll, IsFirstOver, PassesIfTold}
use Rattle.ciel_run_load.specs.Reading.{AsksUpTo, FitIfTold, ReadSo, ReadAll, StopsIn, StopsSo, UnreadSo, UnreadOf, AsksEach}
use Rattle.ciel_run_load.specs.declared.read.Unread.{Unread}
use Rattle.ciel_io.proofs.Joined.{tells_more}

abbrev Files : Type 0
Files = List ℕ → Option (List ℕ)

abbrev Named : Type 0
Named = List ℕ × List ℕ

-- the bytes that were read are those that stand there
told_is : (told : Option (List ℕ)) (read file : List ℕ) → told ≡ Some file → IfSome told (λ f. read ≡ f) → read ≡ file
told_is None read file e h = absurd cc
told_is (Some f) read file e h = h ∙ cc

-- where files tell all, what was read is what they hold, within the limit
pub all_read : (content : Files) (is : List Named) (rs bs : List Input) → ReadAll content is rs → HoldAll content is bs → (rs ≡ bs) × AllWithin bs
all_read content [] [] [] r h = (refl, tt)
all_read content [] (x ∷ rs) bs r h = absurd r
all_read content [] [] (b ∷ bs) r h = absurd h
all_read content (i ∷ is) [] bs r h = absurd r
all_read content (i ∷ is) (x ∷ rs) [] r h = absurd h
all_read content (i ∷ is) (x ∷ rs) (b ∷ bs) r h =
    let more = all_read content is rs bs r.1 h.2 in
    let bytes : x.1 ≡ b.1 = told_is (content i.1) x.1 b.1 h.1 r.0.1 in
    let name : x.0 ≡ b.0 = r.0.0 ∙ sym h.0 in
    let within : length b.1 ≤ input_limit = subst (λ (bs : List ℕ). length bs ≤ input_limit) bytes r.0.2 in
    ((λ j. (name j, bytes j) ∷ more.0 j), (within, more.1))

-- the first one is too long
pub first_over : (content : Files) (i : Named) (is : List Named) → PassesIfTold (content i.1) input_limit → (bs : List Input)
    → HoldAll content (i ∷ is) bs → IsFirstOver (i ∷ is) bs i.1
first_over content i is p [] h = absurd h
first_over content i is p (b ∷ bs) h = inl (refl, subst (λ (told : Option (List ℕ)). PassesIfTold told input_limit) h.1 p)

-- or it was read, and another is the first that is too long
pub later_over : (content : Files) (i : Named) (is : List Named) (x : Input) (at : List ℕ) → ReadSo content i x
    → ((bs : List Input) → HoldAll content is bs → IsFirstOver is bs at) → (bs : List Input) → HoldAll content (i ∷ is) bs
    → IsFirstOver (i ∷ is) bs at
later_over content i is x at r k [] h = absurd h
later_over content i is x at r k (b ∷ bs) h =
    let bytes : x.1 ≡ b.1 = told_is (content i.1) x.1 b.1 h.1 r.1 in
    inr (subst (λ (bs : List ℕ). length bs ≤ input_limit) bytes r.2, k bs h.2)

-- ---- which paths were asked

-- the first one, and then as far as was asked of the others
up_to_more : (b m n : Option (List (List ℕ))) (path first : List ℕ) (paths : List (List ℕ)) → Tells b m (first ∷ []) → AsksUpTo path paths m n
    → AsksUpTo path (first ∷ paths) b n
up_to_more b m n path first paths t a =
    let next : suc a.0 + 1 ≡ suc (a.0 + 1) = omega arith in
    (suc a.0, a.1, rw next (tells_more b m n (first ∷ []) (take (a.0 + 1) paths) t a.2))

pub asks_more : {A : Type 0} (r : Result A Unread) (b m n : Option (List (List ℕ))) (first : List ℕ) (paths : List (List ℕ))
    → Tells b m (first ∷ []) → AsksEach r paths m n → AsksEach r (first ∷ paths) b n
asks_more (Ok x) b m n first paths t a = tells_more b m n (first ∷ []) paths t a
asks_more (Err (Unread.Failed path)) b m n first paths t a = up_to_more b m n path first paths t a
asks_more (Err (Unread.TooLong path at)) b m n first paths t a = up_to_more b m n path first paths t a
asks_more (Err Unread.Memory) b m n first paths t a = (suc a.0, tells_more b m n (first ∷ []) (take a.0 paths) t a.1)

-- the first one alone, of many
up_to_first : (b n : Option (List (List ℕ))) (path first : List ℕ) (paths : List (List ℕ)) (i : ℕ) → slice_get (first ∷ []) i ≡ Some path
    → Tells b n (take (i + 1) (first ∷ [])) → AsksUpTo path (first ∷ paths) b n
up_to_first b n path first paths zero e t = (0, e, t)
up_to_first b n path first paths (suc i) e t = absurd cc

part_first : (b n : Option (List (List ℕ))) (first : List ℕ) (paths : List (List ℕ)) (i : ℕ) → Tells b n (take i (first ∷ []))
    → TellsPart b n (first ∷ paths)
part_first b n first paths zero t = (0, t)
part_first b n first paths (suc i) t = (1, subst (λ (ps : List (List ℕ)). Tells b n (first ∷ ps)) (take_none i) t)
  where
    take_none : (i : ℕ) → take {A = List ℕ} i [] ≡ []
    take_none zero = refl
    take_none (suc i) = refl

pub asks_first : (A B : Type 0) (e : Unread) (b n : Option (List (List ℕ))) (first : List ℕ) (paths : List (List ℕ))
    → AsksEach {A = A} (Err e) (first ∷ []) b n → AsksEach {A = B} (Err e) (first ∷ paths) b n
asks_first A B (Unread.Failed path) b n first paths a = up_to_first b n path first paths a.0 a.1 a.2
asks_first A B (Unread.TooLong path at) b n first paths a = up_to_first b n path first paths a.0 a.1 a.2
asks_first A B Unread.Memory b n first paths a = part_first b n first paths a.0 a.1

-- ---- why they weren't all read

pub risen_before : (a b c : ℕ) → a ≤ b → HasRisen b c → HasRisen a c
risen_before a b c h (inl r) = inl (omega (arith, h, r))
risen_before a b c h (inr r) = inr r

here : (p at : List ℕ) (ps : List (List ℕ)) → at ≡ p → Contains (p ∷ ps) at
here p at ps e = (0, omega arith, sym e)

pub there : (p at : List ℕ) (ps : List (List ℕ)) → Contains ps at → Contains (p ∷ ps) at
there p at ps c = (suc c.0, omega (arith, c.1), c.2)

-- the first one wasn't
pub unread_first : (content : Files) (i : Named) (is : List Named) (risen later : Type 0) (e : Unread) → (risen → later)
    → UnreadSo content i.1 input_limit risen e → UnreadOf content (i ∷ is) later e
unread_first content i is risen later (Unread.Failed at) f u = (here i.1 at (map path_in is) u.0, f u.1)
unread_first content i is risen later (Unread.TooLong at n) f u = (
  here i.1 at (map path_in is) u.0,
  u.1,
  subst (λ (p : List ℕ). PassesIfTold (content p) input_limit) (sym u.0) u.2,
  λ bs h. subst (λ (p : List ℕ). IsFirstOver (i ∷ is) bs p) (sym u.0) (first_over content i is u.2 bs h),
)
unread_first content i is risen later Unread.Memory f u = tt

-- it was, and another wasn't
pub unread_later : (content : Files) (i : Named) (is : List Named) (x : Input) (risen later : Type 0) (e : Unread) → (risen → later)
    → ReadSo content i x → UnreadOf content is risen e → UnreadOf content (i ∷ is) later e
unread_later content i is x risen later (Unread.Failed at) f r u = (there i.1 at (map path_in is) u.0, f u.1)
unread_later content i is x risen later (Unread.TooLong at n) f r u =
    (there i.1 at (map path_in is) u.0, u.1, u.2, later_over content i is x at r u.3)
unread_later content i is x risen later Unread.Memory f r u = tt

-- as the result of a call
pub results_later : {A : Type 0} (content : Files) (i : Named) (is : List Named) (x : Input) (risen later : Type 0) (r : Result A Unread)
    → (risen → later) → ReadSo content i x → IfErr r (UnreadOf content is risen) → IfErr r (UnreadOf content (i ∷ is) later)
results_later content i is x risen later (Ok a) f s u = tt
results_later content i is x risen later (Err e) f s u = unread_later content i is x risen later e f s u

-- ---- in which order

-- what was read is within the limit, where files tell it
fits : (told : Option (List ℕ)) (read : List ℕ) → IfSome told (λ file. read ≡ file) → length read ≤ input_limit
    → IfSome told (λ file. length file ≤ input_limit)
fits None read h w = tt
fits (Some file) read h w = subst (λ (bytes : List ℕ). length bytes ≤ input_limit) h w

-- the first one wasn't read
stops_first_at : (content : Files) (i : Named) (is : List Named) (path : List ℕ) (b n : Option (List (List ℕ))) (k : ℕ)
    → slice_get (i.1 ∷ []) k ≡ Some path → Tells b n (take (k + 1) (i.1 ∷ [])) → StopsIn content (i ∷ is) path b n
stops_first_at content i is path b n zero e t = (0, e, tt, t)
stops_first_at content i is path b n (suc k) e t = absurd cc

pub stops_first : (A : Type 0) (content : Files) (i : Named) (is : List Named) (e : Unread) (b n : Option (List (List ℕ)))
    → AsksEach {A = A} (Err e) (i.1 ∷ []) b n → StopsSo content (i ∷ is) b n e
stops_first A content i is (Unread.Failed path) b n a = stops_first_at content i is path b n a.0 a.1 a.2
stops_first A content i is (Unread.TooLong path at) b n a = stops_first_at content i is path b n a.0 a.1 a.2
stops_first A content i is Unread.Memory b n a = tt

-- it was, and another wasn't
stops_later_at : (content : Files) (i : Named) (is : List Named) (x : Input) (path : List ℕ) (b m n : Option (List (List ℕ)))
    → ReadSo content i x → Tells b m (i.1 ∷ []) → StopsIn content is path m n → StopsIn content (i ∷ is) path b n
stops_later_at content i is x path b m n r t s =
    let next : suc s.0 + 1 ≡ suc (s.0 + 1) = omega arith in
    (suc s.0, s.1, (fits (content i.1) x.1 r.1 r.2, s.2), rw next (tells_more b m n (i.1 ∷ []) (take (s.0 + 1) (map path_in is)) t s.3))

-- as the result of a call
pub stops_later : {A : Type 0} (content : Files) (i : Named) (is : List Named) (x : Input) (b m n : Option (List (List ℕ))) (r : Result A Unread)
    → ReadSo content i x → Tells b m (i.1 ∷ []) → IfErr r (StopsSo content is m n) → IfErr r (StopsSo content (i ∷ is) b n)
stops_later content i is x b m n (Ok a) s t h = tt
stops_later content i is x b m n (Err (Unread.Failed path)) s t h = stops_later_at content i is x path b m n s t h
stops_later content i is x b m n (Err (Unread.TooLong path at)) s t h = stops_later_at content i is x path b m n s t h
stops_later content i is x b m n (Err Unread.Memory) s t h = tt
