-- The parts of a state by their bytes: none begins another of its kind.
use Rattle.std.proofs.Common.{◌≡◌, ◌≤◌, ◌<◌, ℕ, List, [], ◌∷◌, ◌++◌, length, Bool, true, false, ◌+◌, refl, ap, ap₂, sym, ◌∙◌, subst, arith, append_assoc, append-nil}
use Rattle.sky_base.specs.Val.{Val, Pairs, no_pairs, pair, pair_count, most_depth, most_size, size, Rising}
use Rattle.sky_base.specs.Kept.{Kept}
use Rattle.sky_base.specs.Op.{put}
use Rattle.std.specs.Ordering.{nat_cmp, match_ordering}
use Rattle.std.specs.Cmp.Lexicographic.{slice_cmp}
use Rattle.std.specs.declared.cmp.Ordering.{Ordering}
use Rattle.sky_base.specs.Name.{big_endian, bytes, bytes_of_text, pairs_bytes}
use Rattle.sky_base.specs.Read.{Todo, Frame}
use Rattle.ciel_name.specs.Spelled.{IsText, IsData, PairsSpelled, Read, NoneRead, TextRead, NoTextRead}
use Rattle.ciel_name.specs.Bodies.{PairsRead, is_above}
use Rattle.ciel_name.proofs.Items.{followed, pairs_more, pairs_next}
use Rattle.ciel_name.proofs.PrefixFreeBytes.{val_free, text_free, pairs_free, four_free}
use Rattle.sky_state.specs.Stand.{Stand}
use Rattle.sky_frozen_bytes.specs.Bytes.{counted, todo_bytes, vars_bytes, frame_bytes, run_bytes, frozen_bytes}
use Rattle.sky_frozen_bytes.specs.Codes.{ReadAs, NoneAs, Free, Fits32, Counted}
use Rattle.sky_frozen_bytes.specs.Spelled.{TodoSpelled, EachKept, VarsSpelled, lists_bytes, ListsSpelled, FrameSpelled, RunSpelled, show_bytes, ShowSpelled}
use Rattle.sky_frozen_bytes.specs.Spelled.{kind_of, rest_bytes, KindRead, NoKind, NoHead, StandSpelled, NoStand}
use Rattle.sky_frozen_bytes.proofs.Codes.{four_short, numbers_free, no_first, no_second, both_read, both_free, counted_free}

pub texts_free : Free bytes_of_text IsText
texts_free t u r s p q e = text_free t u r s p q e

pub data_free : Free bytes IsData
data_free v w r s p q e = val_free v w r s p.spelled q.spelled e

-- ---- values within the limits

pub no_value : (old : List ℕ) → NoneRead most_depth most_size old → NoneAs bytes IsData old
no_value old none v rest d e = none v rest d.spelled d.kept.deep d.kept.large e

pub value_read : (old : List ℕ) (v : Val (List ℕ)) (new : List ℕ) → Read most_depth old v new → size v ≤ most_size → ReadAs bytes IsData old v new
value_read old v new p h = (p.0, record { spelled = p.1.0; kept = record { deep = p.1.1; large = h } })

-- ---- variables

pub vars_free : Free vars_bytes VarsSpelled
vars_free ps qs r s p q e =
    let same = four_free (pair_count ps) (pair_count qs) (pairs_bytes ps ++ r) (pairs_bytes qs ++ s) p.2 q.2
    (sym (append_assoc (big_endian 4 (pair_count ps)) (pairs_bytes ps) r) ∙ e
    ∙ append_assoc (big_endian 4 (pair_count qs)) (pairs_bytes qs) s) in
    pairs_free ps qs r s p.0 q.0 same.0 same.1

-- so many variables don't stand in front
abbrev pub NoVars : ℕ → List ℕ → Type 0
NoVars n old =
    (ps : Pairs (List ℕ)) (rest : List ℕ) → PairsSpelled ps → Rising ps → EachKept ps → pair_count ps ≡ n → old ≡ pairs_bytes ps ++ rest → ⊥

-- so many do
abbrev pub VarsRead : ℕ → List ℕ → Pairs (List ℕ) → List ℕ → Type 0
VarsRead n old ps new = PairsRead n most_depth old ps new × EachKept ps

kept_either : (o : Ordering) (a b c : Pairs (List ℕ)) → EachKept a → EachKept b → EachKept c → EachKept (match_ordering o a b c)
kept_either Ordering.Less a b c p q r = p
kept_either Ordering.Equal a b c p q r = q
kept_either Ordering.Greater a b c p q r = r

kept_put : (k : List ℕ) (v : Val (List ℕ)) (ps : Pairs (List ℕ)) → EachKept ps → Kept v → EachKept (put k v ps)
kept_put k v no_pairs h g = (g, tt)
kept_put k v (pair l w ps) h g =
    kept_either (slice_cmp nat_cmp k l) (pair k v (pair l w ps)) (pair l v ps) (pair l w (put k v ps)) (g, h) (g, h.1)
    (h.0, kept_put k v ps h.1 g)

kept_next : (ps : Pairs (List ℕ)) (k : List ℕ) (v : Val (List ℕ)) (us : Pairs (List ℕ)) → EachKept (followed ps (pair k v us)) → Kept v
kept_next no_pairs k v us h = h.0
kept_next (pair l w ps) k v us h = kept_next ps k v us h.1

pub vars_more : (i : ℕ) (old : List ℕ) (ps : Pairs (List ℕ)) (mid k inner : List ℕ) (v : Val (List ℕ)) (new : List ℕ) → VarsRead i old ps mid
    → TextRead mid k inner → is_above k ps ≡ true → ReadAs bytes IsData inner v new → VarsRead (i + 1) old (put k v ps) new
vars_more i old ps mid k inner v new p t a q = (
  pairs_more i most_depth old ps mid k inner v new p.0 t a (q.0, (q.1.spelled, q.1.kept.deep)),
  kept_put k v ps p.1 q.1.kept,
)

pub vars_text : (i n : ℕ) (old : List ℕ) (ps : Pairs (List ℕ)) (mid : List ℕ) → VarsRead i old ps mid → i < n → NoTextRead mid → NoVars n old
vars_text i n old ps mid p h none qs rest s r g c e =
    pairs_next i n most_depth old ps mid p.0 h qs rest s r c e (λ k v us more t q a f y. none k (bytes v ++ more) t f)

pub vars_low : (i n : ℕ) (old : List ℕ) (ps : Pairs (List ℕ)) (mid k inner : List ℕ) → VarsRead i old ps mid → i < n → TextRead mid k inner
    → is_above k ps ≡ false → NoVars n old
vars_low i n old ps mid k inner p h t b qs rest s r g c e =
    pairs_next i n most_depth old ps mid p.0 h qs rest s r c e (λ l v us more u q a f y.
    let j = text_free k l inner (bytes v ++ more) t.1 u (sym t.0 ∙ f) in
    let no : false ≡ true = sym b ∙ ap (λ x. is_above x ps) j.0 ∙ a in
    absurd cc)

pub vars_none : (i n : ℕ) (old : List ℕ) (ps : Pairs (List ℕ)) (mid k inner : List ℕ) → VarsRead i old ps mid → i < n → TextRead mid k inner
    → NoneAs bytes IsData inner → NoVars n old
vars_none i n old ps mid k inner p h t none qs rest s r g c e =
    pairs_next i n most_depth old ps mid p.0 h qs rest s r c e (λ l v us more u q a f y.
    let j = text_free k l inner (bytes v ++ more) t.1 u (sym t.0 ∙ f) in
    none v more (record { spelled = q; kept = kept_next ps l v us (subst EachKept y g) }) j.1)

pub no_vars_count : (old : List ℕ) → length old < 4 → NoneAs vars_bytes VarsSpelled old
no_vars_count old h ps rest good e =
    four_short old h (pair_count ps) (pairs_bytes ps ++ rest) good.2 (e ∙ append_assoc (big_endian 4 (pair_count ps)) (pairs_bytes ps) rest)

pub no_vars : (old : List ℕ) (n : ℕ) (mid : List ℕ) → old ≡ big_endian 4 n ++ mid → Fits32 n → NoVars n mid → NoneAs vars_bytes VarsSpelled old
no_vars old n mid e h none ps rest good g =
    let same = four_free n (pair_count ps) mid (pairs_bytes ps ++ rest) h good.2
    (sym e ∙ g ∙ append_assoc (big_endian 4 (pair_count ps)) (pairs_bytes ps) rest) in
    none ps rest good.0 good.1 good.3 (sym same.0) same.1

pub vars_read : (old : List ℕ) (n : ℕ) (mid : List ℕ) (ps : Pairs (List ℕ)) (new : List ℕ) → old ≡ big_endian 4 n ++ mid → Fits32 n
    → VarsRead n mid ps new → ReadAs vars_bytes VarsSpelled old ps new
vars_read old n mid ps new e h p =
    let counted : pair_count ps ≡ n = p.0.1.1.1.1 in (
      e ∙ ap₂ (λ k b. big_endian 4 k ++ b) (sym counted) p.0.0 ∙ sym (append_assoc (big_endian 4 (pair_count ps)) (pairs_bytes ps) new),
      (p.0.1.0, p.0.1.1.0, subst Fits32 (sym counted) h, p.1),
    )

-- ---- forms under way

abbrev todo_of : ℕ × ℕ → Todo
todo_of p = record { node = p.0; step = p.1 }

pub todos_free : Free todo_bytes TodoSpelled
todos_free t u r s p q e =
    let same = both_free (big_endian 4) Fits32 (big_endian 4) Fits32 numbers_free numbers_free (t.node, t.step) (u.node, u.step) r s p q e in
    (ap todo_of same.0, same.1)

pub no_node : (old : List ℕ) → length old < 4 → NoneAs todo_bytes TodoSpelled old
no_node old h t rest good e =
    no_first (big_endian 4) Fits32 (big_endian 4) Fits32 old (four_short old h) (t.node, t.step) rest good e

pub no_step : (old : List ℕ) (n : ℕ) (mid : List ℕ) → old ≡ big_endian 4 n ++ mid → Fits32 n → length mid < 4 → NoneAs todo_bytes TodoSpelled old
no_step old n mid e h l t rest good g =
    no_second (big_endian 4) Fits32 (big_endian 4) Fits32 numbers_free old n mid (e, h) (four_short mid l) (t.node, t.step) rest good g

pub todo_read : (old : List ℕ) (n : ℕ) (mid : List ℕ) (k : ℕ) (new : List ℕ) → old ≡ big_endian 4 n ++ mid → Fits32 n → mid ≡ big_endian 4 k
    ++ new → Fits32 k → ReadAs todo_bytes TodoSpelled old (record { node = n; step = k }) new
todo_read old n mid k new e h g i =
    both_read (big_endian 4) Fits32 (big_endian 4) Fits32 old n mid k new (e, h) (g, i)

-- ---- frames

abbrev parts_of : Frame (List ℕ) → List ℕ × (Pairs (List ℕ) × (List (Val (List ℕ)) × List Todo))
parts_of f = (f.fun, (f.vars, (f.stack, f.todo)))

abbrev frame_of : List ℕ × (Pairs (List ℕ) × (List (Val (List ℕ)) × List Todo)) → Frame (List ℕ)
frame_of p = record { fun = p.0; vars = p.1.0; stack = p.1.1.0; todo = p.1.1.1 }

abbrev pub held_bytes : Pairs (List ℕ) × (List (Val (List ℕ)) × List Todo) → List ℕ
held_bytes p = vars_bytes p.0 ++ lists_bytes p.1

abbrev pub HeldSpelled : Pairs (List ℕ) × (List (Val (List ℕ)) × List Todo) → Type 0
HeldSpelled p = VarsSpelled p.0 × ListsSpelled p.1

stack_free : Free (counted bytes) (Counted IsData)
stack_free = counted_free bytes IsData data_free

lists_free : Free lists_bytes ListsSpelled
lists_free =
    both_free (counted bytes) (Counted IsData) (counted todo_bytes) (Counted TodoSpelled) stack_free (counted_free todo_bytes TodoSpelled todos_free)

held_free : Free held_bytes HeldSpelled
held_free = both_free vars_bytes VarsSpelled lists_bytes ListsSpelled vars_free lists_free

pub frames_free : Free frame_bytes FrameSpelled
frames_free f g r s p q e =
    let same = both_free bytes_of_text IsText held_bytes HeldSpelled texts_free held_free (parts_of f) (parts_of g) r s p q e in
    (ap frame_of same.0, same.1)

pub no_lists_first : (old : List ℕ) → NoneAs (counted bytes) (Counted IsData) old → NoneAs lists_bytes ListsSpelled old
no_lists_first = no_first (counted bytes) (Counted IsData) (counted todo_bytes) (Counted TodoSpelled)

pub no_lists_second : (old : List ℕ) (vs : List (Val (List ℕ))) (mid : List ℕ) → ReadAs (counted bytes) (Counted IsData) old vs mid
    → NoneAs (counted todo_bytes) (Counted TodoSpelled) mid → NoneAs lists_bytes ListsSpelled old
no_lists_second = no_second (counted bytes) (Counted IsData) (counted todo_bytes) (Counted TodoSpelled) stack_free

pub no_function : (old : List ℕ) → NoneAs bytes_of_text IsText old → NoneAs frame_bytes FrameSpelled old
no_function old none f rest good e =
    no_first bytes_of_text IsText held_bytes HeldSpelled old none (parts_of f) rest good e

no_held : (old f mid : List ℕ) → ReadAs bytes_of_text IsText old f mid → NoneAs held_bytes HeldSpelled mid → NoneAs frame_bytes FrameSpelled old
no_held old f mid p none g rest good e =
    no_second bytes_of_text IsText held_bytes HeldSpelled texts_free old f mid p none (parts_of g) rest good e

pub no_variables : (old f mid : List ℕ) → ReadAs bytes_of_text IsText old f mid → NoneAs vars_bytes VarsSpelled mid
    → NoneAs frame_bytes FrameSpelled old
no_variables old f mid p none =
    no_held old f mid p (no_first vars_bytes VarsSpelled lists_bytes ListsSpelled mid none)

pub no_lists : (old f mid : List ℕ) (ps : Pairs (List ℕ)) (low : List ℕ) → ReadAs bytes_of_text IsText old f mid
    → ReadAs vars_bytes VarsSpelled mid ps low → NoneAs lists_bytes ListsSpelled low → NoneAs frame_bytes FrameSpelled old
no_lists old f mid ps low p q none =
    no_held old f mid p (no_second vars_bytes VarsSpelled lists_bytes ListsSpelled vars_free mid ps low q none)

pub frame_read : (old f mid : List ℕ) (ps : Pairs (List ℕ)) (low : List ℕ) (vs : List (Val (List ℕ))) (last : List ℕ) (ts : List Todo)
    (new : List ℕ) → ReadAs bytes_of_text IsText old f mid → ReadAs vars_bytes VarsSpelled mid ps low
    → ReadAs (counted bytes) (Counted IsData) low vs last → ReadAs (counted todo_bytes) (Counted TodoSpelled) last ts new
    → ReadAs frame_bytes FrameSpelled old (record { fun = f; vars = ps; stack = vs; todo = ts }) new
frame_read old f mid ps low vs last ts new p q r s =
    both_read bytes_of_text IsText held_bytes HeldSpelled old f mid (ps, (vs, ts)) new p
    (both_read vars_bytes VarsSpelled lists_bytes ListsSpelled mid ps low (vs, ts) new q
    (both_read (counted bytes) (Counted IsData) (counted todo_bytes) (Counted TodoSpelled) low vs last ts new r s))

-- ---- whole states

abbrev pub stack_bytes : ℕ × List (Frame (List ℕ)) → List ℕ
stack_bytes p = big_endian 4 p.0 ++ counted frame_bytes p.1

abbrev pub StackSpelled : ℕ × List (Frame (List ℕ)) → Type 0
StackSpelled p = Fits32 p.0 × Counted FrameSpelled p.1

pub no_run_count : (old : List ℕ) → length old < 4 → NoneAs run_bytes RunSpelled old
no_run_count old h r rest good e =
    no_first (big_endian 4) Fits32 stack_bytes StackSpelled old (four_short old h) (r.count, (r.waits, r.frames)) rest good e

no_stack : (old : List ℕ) (n : ℕ) (mid : List ℕ) → old ≡ big_endian 4 n ++ mid → Fits32 n → NoneAs stack_bytes StackSpelled mid
    → NoneAs run_bytes RunSpelled old
no_stack old n mid e h none r rest good g =
    no_second (big_endian 4) Fits32 stack_bytes StackSpelled numbers_free old n mid (e, h) none (r.count, (r.waits, r.frames)) rest good g

pub no_waits : (old : List ℕ) (n : ℕ) (mid : List ℕ) → old ≡ big_endian 4 n ++ mid → Fits32 n → length mid < 4 → NoneAs run_bytes RunSpelled old
no_waits old n mid e h l =
    no_stack old n mid e h (no_first (big_endian 4) Fits32 (counted frame_bytes) (Counted FrameSpelled) mid (four_short mid l))

pub no_frames : (old : List ℕ) (n : ℕ) (mid : List ℕ) (m : ℕ) (low : List ℕ) → old ≡ big_endian 4 n ++ mid → Fits32 n → mid ≡ big_endian 4 m
    ++ low → Fits32 m → NoneAs (counted frame_bytes) (Counted FrameSpelled) low → NoneAs run_bytes RunSpelled old
no_frames old n mid m low e h g i none =
    no_stack old n mid e h (no_second (big_endian 4) Fits32 (counted frame_bytes) (Counted FrameSpelled) numbers_free mid m low (g, i) none)

pub run_read : (old : List ℕ) (n : ℕ) (mid : List ℕ) (m : ℕ) (low : List ℕ) (fs : List (Frame (List ℕ))) (new : List ℕ) → old ≡ big_endian 4 n
    ++ mid → Fits32 n → mid ≡ big_endian 4 m ++ low → Fits32 m → ReadAs (counted frame_bytes) (Counted FrameSpelled) low fs new
    → ReadAs run_bytes RunSpelled old (record { frames = fs; count = n; waits = m }) new
run_read old n mid m low fs new e h g i p =
    both_read (big_endian 4) Fits32 stack_bytes StackSpelled old n mid (m, fs) new (e, h)
    (both_read (big_endian 4) Fits32 (counted frame_bytes) (Counted FrameSpelled) mid m low fs new (g, i) p)

pub no_wave : (old : List ℕ) → length old < 4 → NoneAs show_bytes ShowSpelled old
no_wave old h = no_first (big_endian 4) Fits32 bytes IsData old (four_short old h)

pub no_result : (old : List ℕ) (n : ℕ) (mid : List ℕ) → old ≡ big_endian 4 n ++ mid → Fits32 n → NoneAs bytes IsData mid
    → NoneAs show_bytes ShowSpelled old
no_result old n mid e h none = no_second (big_endian 4) Fits32 bytes IsData numbers_free old n mid (e, h) none

pub show_read : (old : List ℕ) (n : ℕ) (mid : List ℕ) (v : Val (List ℕ)) (new : List ℕ) → old ≡ big_endian 4 n ++ mid → Fits32 n
    → ReadAs bytes IsData mid v new → ReadAs show_bytes ShowSpelled old (n, v) new
show_read old n mid v new e h p = both_read (big_endian 4) Fits32 bytes IsData old n mid v new (e, h) p

-- ---- the two kinds

pub no_kind_run : (k : ℕ) (old : List ℕ) → k ≡ 0 → NoneAs run_bytes RunSpelled old → NoKind k old
no_kind_run k old z none (Stand.run r) rest e good g = none r rest good g
no_kind_run k old z none (Stand.show_at v w) rest e good g = absurd (omega (arith, e, z))

pub no_kind_show : (k : ℕ) (old : List ℕ) → k ≡ 1 → NoneAs show_bytes ShowSpelled old → NoKind k old
no_kind_show k old z none (Stand.run r) rest e good g = absurd (omega (arith, e, z))
no_kind_show k old z none (Stand.show_at v w) rest e good g = none (w, v) rest good g

pub no_kind : (k : ℕ) (old : List ℕ) → 1 < k → NoKind k old
no_kind k old h (Stand.run r) rest e good g = absurd (omega (arith, e, h))
no_kind k old h (Stand.show_at v w) rest e good g = absurd (omega (arith, e, h))

frozen_is : (s : Stand (List ℕ)) → frozen_bytes s ≡ 75 ∷ 1 ∷ kind_of s ∷ rest_bytes s
frozen_is (Stand.run r) = refl
frozen_is (Stand.show_at v w) = refl

run_free : Free run_bytes RunSpelled
run_free q r s t g h e =
    let same = both_free (big_endian 4) Fits32 stack_bytes StackSpelled numbers_free
    (both_free (big_endian 4) Fits32 (counted frame_bytes) (Counted FrameSpelled) numbers_free
    (counted_free frame_bytes FrameSpelled frames_free)) (q.count, (q.waits, q.frames)) (r.count, (r.waits, r.frames)) s t g h e in
    (ap (λ (p : ℕ × (ℕ × List (Frame (List ℕ)))). record { frames = p.1.1; count = p.0; waits = p.1.0 }) same.0, same.1)

show_free : Free show_bytes ShowSpelled
show_free = both_free (big_endian 4) Fits32 bytes IsData numbers_free data_free

rest_free : (s u : Stand (List ℕ)) (r t : List ℕ) → StandSpelled s → StandSpelled u → kind_of s ≡ kind_of u → rest_bytes s ++ r ≡ rest_bytes u
    ++ t → (s ≡ u) × (r ≡ t)
rest_free (Stand.run q) (Stand.run p) r t g h k e = let same = run_free q p r t g h e in (ap Stand.run same.0, same.1)
rest_free (Stand.run q) (Stand.show_at v w) r t g h k e = absurd cc
rest_free (Stand.show_at v w) (Stand.run p) r t g h k e = absurd cc
rest_free (Stand.show_at v w) (Stand.show_at x y) r t g h k e =
    let same = show_free (w, v) (y, x) r t g h e in
    (ap (λ (p : ℕ × Val (List ℕ)). Stand.show_at p.1 p.0) same.0, same.1)

-- ---- all bytes

pub no_head : (bs : List ℕ) → NoHead bs → NoStand bs
no_head bs none s good e = none (kind_of s) (rest_bytes s) (sym e ∙ frozen_is s)

behind : (bs : List ℕ) (k : ℕ) (mid : List ℕ) (s : Stand (List ℕ)) → bs ≡ 75 ∷ 1 ∷ k ∷ mid → frozen_bytes s ≡ bs → (kind_of s ≡ k)
    × (mid ≡ rest_bytes s)
behind bs k mid s h e =
    let g : 75 ∷ 1 ∷ kind_of s ∷ rest_bytes s ≡ 75 ∷ 1 ∷ k ∷ mid = sym (frozen_is s) ∙ e ∙ h in
    let same : kind_of s ≡ k = cc in
    let rest : rest_bytes s ≡ mid = cc in
    (same, sym rest)

pub no_stand : (bs : List ℕ) (k : ℕ) (mid : List ℕ) → bs ≡ 75 ∷ 1 ∷ k ∷ mid → NoKind k mid → NoStand bs
no_stand bs k mid h none s good e =
    let p = behind bs k mid s h e in none s [] p.0 good (p.1 ∙ sym (append-nil (rest_bytes s)))

pub more_follows : (bs : List ℕ) (k : ℕ) (mid : List ℕ) (u : Stand (List ℕ)) (new : List ℕ) → bs ≡ 75 ∷ 1 ∷ k ∷ mid → KindRead k mid u new
    → (new ≡ [] → ⊥) → NoStand bs
more_follows bs k mid u new h p some s good e =
    let q = behind bs k mid s h e in
    some (rest_free u s new [] p.1.1 good (p.0 ∙ sym q.0) (sym p.1.0 ∙ q.1 ∙ sym (append-nil (rest_bytes s)))).1

pub all_read : (bs : List ℕ) (k : ℕ) (mid : List ℕ) (u : Stand (List ℕ)) (new : List ℕ) → bs ≡ 75 ∷ 1 ∷ k ∷ mid → KindRead k mid u new → new ≡ []
    → frozen_bytes u ≡ bs
all_read bs k mid u new h p none =
    frozen_is u
    ∙ ap₂ (λ j b. 75 ∷ 1 ∷ j ∷ b) p.0 (sym (append-nil (rest_bytes u)) ∙ ap (λ b. rest_bytes u ++ b) (sym none) ∙ sym p.1.0)
    ∙ sym h

pub one_state : (s u : Stand (List ℕ)) → StandSpelled s → StandSpelled u → frozen_bytes s ≡ frozen_bytes u → s ≡ u
one_state s u g h e =
    let q = behind (frozen_bytes u) (kind_of u) (rest_bytes u) s (frozen_is u) e in
    (rest_free s u [] [] g h q.0 (ap (λ b. b ++ []) (sym q.1))).0
