-- Each step keeps the rule of a stream.
use Rattle.std.proofs.Common.{◌≡◌, ◌≤◌, ◌*◌, ℕ, zero, suc, List, [], ◌∷◌, ◌++◌, length, set, sym, refl, ap, ◌∙◌, subst, append_assoc, append-nil}
use Rattle.std.proofs.Common.{arith, length-append}
use Rattle.std.specs.Prelude.{Option, Some, None, Ok}
use mathlib.Core.Option.{some, some-injective, some-ne-none}
use lib.ListN.{get_elem?}
use Rattle.crossbeam_channel.specs.Fifo.{Pushes, Pops, Forks}
use Rattle.ciel_flow_pieces.specs.Source.{aside, output}
use Rattle.ciel_flow_pieces.specs.Pieces.{AllParts, AllShort, Both, Ends, FewLieThere, HasPut, HasTaken, IsNone, LawOf, MayPut, MayTake, NoParts}
use Rattle.ciel_flow_pieces.specs.Pieces.{OnlyLast, PartsFit, Stands, alone, both, follower, opened, parts, producer}
use Rattle.ciel_flow_pieces.specs.declared.piece.Knows.{Knows}
use Rattle.ciel_flow_pieces.specs.declared.piece.Piece.{Piece}
use Rattle.ciel_flow_pieces.specs.declared.piece.Piece.TheVariants.{Part, End, Broken}
use Rattle.ciel_flow_pieces.specs.declared.piece.Role.TheVariants.{Alone, Producer, Follower}
use Rattle.ciel_flow_pieces.specs.declared.piece.Source.{Source}

-- ---- beginnings

pub parts-append : (xs ys : List Piece) → parts (xs ++ ys) ≡ parts xs ++ parts ys
parts-append [] ys = refl
parts-append (Part p ∷ xs) ys = ap (λ (r : List ℕ). p ++ r) (parts-append xs ys) ∙ sym (append_assoc p (parts xs) (parts ys))
parts-append (End ∷ xs) ys = parts-append xs ys
parts-append (Broken ∷ xs) ys = parts-append xs ys

none_front : (xs ys : List Piece) → IsNone (xs ++ ys) → IsNone xs
none_front [] ys h = tt
none_front (x ∷ xs) ys h = absurd h

none_back : (xs ys : List Piece) → IsNone (xs ++ ys) → ys ≡ []
none_back [] [] h = refl
none_back [] (y ∷ ys) h = absurd h
none_back (x ∷ xs) ys h = absurd h

last_front : (xs ys : List Piece) → OnlyLast (xs ++ ys) → OnlyLast xs
last_front [] ys h = tt
last_front (Part p ∷ xs) ys h = last_front xs ys h
last_front (End ∷ xs) ys h = none_front xs ys h
last_front (Broken ∷ xs) ys h = none_front xs ys h

short_front : (xs ys : List Piece) → AllShort (xs ++ ys) → AllShort xs
short_front [] ys h = tt
short_front (x ∷ xs) ys h = (h.0, short_front xs ys h.1)

no_front : (xs ys : List Piece) → NoParts (xs ++ ys) → NoParts xs
no_front [] ys h = tt
no_front (Part p ∷ xs) ys h = absurd h
no_front (End ∷ xs) ys h = no_front xs ys h
no_front (Broken ∷ xs) ys h = no_front xs ys h

fit_front : (o : Option (List ℕ)) (xs ys : List Piece) → PartsFit o (xs ++ ys) → PartsFit o xs
fit_front None xs ys h = no_front xs ys h
fit_front (Some whole) xs ys h =
    (parts ys ++ h.0, sym (append_assoc (parts xs) (parts ys) h.0) ∙ ap (λ (r : List ℕ). r ++ h.0) (sym (parts-append xs ys)) ∙ h.1)

-- behind an end there is nothing
ends_back : (xs ys : List Piece) → Ends xs → OnlyLast (xs ++ ys) → ys ≡ []
ends_back [] ys e h = absurd e
ends_back (Part p ∷ xs) ys e h = ends_back xs ys e h
ends_back (End ∷ xs) ys e h = none_back xs ys h
ends_back (Broken ∷ xs) ys e h = none_back xs ys h

ends_more : (xs ys : List Piece) → Ends xs → Ends (xs ++ ys)
ends_more [] ys e = absurd e
ends_more (Part p ∷ xs) ys e = ends_more xs ys e
ends_more (End ∷ xs) ys e = tt
ends_more (Broken ∷ xs) ys e = ends_more xs ys e

pub law_front : (s : Source) (xs ys : List Piece) → LawOf s (xs ++ ys) → LawOf s xs
law_front s xs ys h = record {
  last = last_front xs ys h.last;
  short = short_front xs ys h.short;
  first = fit_front (aside s) xs ys h.first;
  whole = λ e. h.whole (ends_more xs ys e) ∙ ap (λ (zs : List Piece). Ok (parts (xs ++ zs))) (ends_back xs ys e h.last)
      ∙ ap (λ (zs : List Piece). Ok (parts zs)) (append-nil xs);
}

no_fit : (o : Option (List ℕ)) → PartsFit o []
no_fit None = tt
no_fit (Some whole) = (whole, refl)

pub law_nothing : (s : Source) → LawOf s []
law_nothing s = record { last = tt; short = tt; first = no_fit (aside s); whole = λ e. absurd e }

-- ---- the passes

at_one : (a v : Knows) (pass : ℕ) → get_elem? (a ∷ []) pass ≡ some v → a ≡ v
at_one a v zero e = some-injective a v e
at_one a v (suc pass) e = absurd (some-ne-none v (sym e))

set_one : (a v x : Knows) (pass : ℕ) → get_elem? (a ∷ []) pass ≡ some v → set (a ∷ []) pass x ≡ x ∷ []
set_one a v x zero e = refl
set_one a v x (suc pass) e = absurd (some-ne-none v (sym e))

at_first : (p c v : Knows) (pass : ℕ) → c.role ≡ Follower → v.role ≡ Producer → get_elem? (p ∷ c ∷ []) pass ≡ some v
    → (p ≡ v) × ((x : Knows) → set (p ∷ c ∷ []) pass x ≡ x ∷ c ∷ [])
at_first p c v zero cf vp e = (some-injective p v e, λ x. refl)
at_first p c v (suc zero) cf vp e = let same : c ≡ v = some-injective c v e in absurd cc
at_first p c v (suc (suc pass)) cf vp e = absurd (some-ne-none v (sym e))

at_second : (p c v : Knows) (pass : ℕ) → p.role ≡ Producer → v.role ≡ Follower → get_elem? (p ∷ c ∷ []) pass ≡ some v
    → (c ≡ v) × ((x : Knows) → set (p ∷ c ∷ []) pass x ≡ p ∷ x ∷ [])
at_second p c v zero pp vf e = let same : p ≡ v = some-injective p v e in absurd cc
at_second p c v (suc zero) pp vf e = (some-injective c v e, λ x. refl)
at_second p c v (suc (suc pass)) pp vf e = absurd (some-ne-none v (sym e))

neither : (p c v : Knows) (pass : ℕ) → p.role ≡ Producer → c.role ≡ Follower → v.role ≡ Alone → get_elem? (p ∷ c ∷ []) pass ≡ some v → ⊥
neither p c v zero pp cf va e = let same : p ≡ v = some-injective p v e in cc
neither p c v (suc zero) pp cf va e = let same : c ≡ v = some-injective c v e in cc
neither p c v (suc (suc pass)) pp cf va e = absurd (some-ne-none v (sym e))

not_alone : (v : Knows) (views : List Knows) (pass : ℕ) → views ≡ alone ∷ [] → get_elem? views pass ≡ some v → v.role ≡ Alone
not_alone v views pass s at =
    ap (λ (x : Knows). x.role) (sym (at_one alone v pass (subst (λ (l : List Knows). get_elem? l pass ≡ some v) s at)))

-- ---- the steps

pub pushes : (n pass : ℕ) (v : Knows) (x : Piece) → MayPut v x → Pushes Stands n pass v x (HasPut v x)
pushes n pass v x may items views room (opened e s) at = let is : v.role ≡ Alone = not_alone v views pass s at in absurd cc
pushes n pass v x may items views room (both b) at =
    let is = at_first (producer b.source b.put) (follower b.source b.taken) v pass refl may.0
    (subst (λ (l : List Knows). get_elem? l pass ≡ some v) b.views_are at) in
    let w : Knows = record v { put = v.put ++ x ∷ [] } in
    let w_is : w ≡ producer b.source (b.put ++ x ∷ []) = ap (λ (u : Knows). record u { put = u.put ++ x ∷ [] }) (sym is.0) in (
      w,
      both record {
        source = b.source;
        put = b.put ++ x ∷ [];
        taken = b.taken;
        views_are = ap (λ (l : List Knows). set l pass w) b.views_are ∙ is.1 w ∙ ap (λ (u : Knows). u ∷ follower b.source b.taken ∷ []) w_is;
        flows = sym (append_assoc b.taken items (x ∷ [])) ∙ ap (λ (l : List Piece). l ++ x ∷ []) b.flows;
        law = subst (λ (u : Knows). LawOf u.source (u.put ++ x ∷ [])) (sym is.0) may.1;
      },
      refl,
    )

pub pops : (pass : ℕ) (v : Knows) → MayTake v → Pops Stands pass v (HasTaken v)
pops pass v may x items views (opened e s) at = let is : v.role ≡ Alone = not_alone v views pass s at in absurd cc
pops pass v may x items views (both b) at =
    let is = at_second (producer b.source b.put) (follower b.source b.taken) v pass refl may
    (subst (λ (l : List Knows). get_elem? l pass ≡ some v) b.views_are at) in
    let w : Knows = record v { taken = v.taken ++ x ∷ [] } in
    let w_is : w ≡ follower b.source (b.taken ++ x ∷ []) = ap (λ (u : Knows). record u { taken = u.taken ++ x ∷ [] }) (sym is.0) in
    let flows : (b.taken ++ x ∷ []) ++ items ≡ b.put = append_assoc b.taken (x ∷ []) items ∙ b.flows in (
      w,
      both record {
        source = b.source;
        put = b.put;
        taken = b.taken ++ x ∷ [];
        views_are = ap (λ (l : List Knows). set l pass w) b.views_are ∙ is.1 w ∙ ap (λ (u : Knows). producer b.source b.put ∷ u ∷ []) w_is;
        flows = flows;
        law = b.law;
      },
      (
        refl,
        subst (λ (u : Knows). LawOf u.source (u.taken ++ x ∷ [])) is.0
            (law_front b.source (b.taken ++ x ∷ []) items (subst (LawOf b.source) (sym flows) b.law)),
      ),
    )

pub begins : Stands [] (alone ∷ [])
begins = opened refl refl

pub forks : (s : Source) (pass : ℕ) (v : Knows) → v.role ≡ Alone → Forks Stands pass v (producer s []) (follower s [])
forks s pass v va items views (both b) at =
    absurd (neither (producer b.source b.put) (follower b.source b.taken) v pass refl refl va
    (subst (λ (l : List Knows). get_elem? l pass ≡ some v) b.views_are at))
forks s pass v va items views (opened e is) at =
    let sets = set_one alone v (producer s []) pass (subst (λ (l : List Knows). get_elem? l pass ≡ some v) is at) in
    both record {
      source = s;
      put = [];
      taken = [];
      views_are = ap (λ (l : List Knows). set l pass (producer s []) ++ follower s [] ∷ []) is
          ∙ ap (λ (l : List Knows). l ++ follower s [] ∷ []) sets;
      flows = e;
      law = law_nothing s;
    }

-- ---- one piece more

pub all_more : (xs : List Piece) (b : List ℕ) → AllParts xs → AllParts (xs ++ Part b ∷ [])
all_more [] b h = tt
all_more (Part p ∷ xs) b h = all_more xs b h
all_more (End ∷ xs) b h = absurd h
all_more (Broken ∷ xs) b h = absurd h

pub short-append : (xs ys : List Piece) → AllShort xs → AllShort ys → AllShort (xs ++ ys)
short-append [] ys h more = more
short-append (x ∷ xs) ys h more = (h.0, short-append xs ys h.1 more)

pub parts_more : (xs : List Piece) (b : List ℕ) → parts (xs ++ Part b ∷ []) ≡ parts xs ++ b
parts_more xs b = parts-append xs (Part b ∷ []) ∙ ap (λ (r : List ℕ). parts xs ++ r) (append-nil b)

pub parts_end : (xs : List Piece) → parts (xs ++ End ∷ []) ≡ parts xs
parts_end xs = parts-append xs (End ∷ []) ∙ append-nil (parts xs)

pub ends_last : (xs : List Piece) → Ends (xs ++ End ∷ [])
ends_last [] = tt
ends_last (Part p ∷ xs) = ends_last xs
ends_last (End ∷ xs) = tt
ends_last (Broken ∷ xs) = ends_last xs

-- what an end tells
pub whole_at_end : (s : Source) (xs : List Piece) → LawOf s (xs ++ End ∷ []) → output s ≡ Ok (parts xs)
whole_at_end s xs h = h.whole (ends_last xs) ∙ ap (λ (b : List ℕ). Ok b) (parts_end xs)

-- ---- what lies there

short_back : (xs ys : List Piece) → AllShort (xs ++ ys) → AllShort ys
short_back [] ys h = h
short_back (x ∷ xs) ys h = short_back xs ys h.1

few_bytes : (xs : List Piece) → AllShort xs → length (parts xs) ≤ length xs * 65536
few_bytes [] h = omega arith
few_bytes (Part p ∷ xs) h = omega (arith, length-append p (parts xs), h.0, few_bytes xs h.1)
few_bytes (End ∷ xs) h = omega (arith, few_bytes xs h.1)
few_bytes (Broken ∷ xs) h = omega (arith, few_bytes xs h.1)

pub few_lie_there : FewLieThere
few_lie_there items views (opened e s) = few_bytes items (subst AllShort (sym e) tt)
few_lie_there items views (both b) = few_bytes items (short_back b.taken items (subst AllShort (sym b.flows) b.law.short))

-- ---- giving up

broken_last : (xs : List Piece) → AllParts xs → OnlyLast (xs ++ Broken ∷ [])
broken_last [] h = tt
broken_last (Part p ∷ xs) h = broken_last xs h
broken_last (End ∷ xs) h = absurd h
broken_last (Broken ∷ xs) h = absurd h

broken_ends : (xs : List Piece) → AllParts xs → Ends (xs ++ Broken ∷ []) → ⊥
broken_ends [] h e = e
broken_ends (Part p ∷ xs) h e = broken_ends xs h e
broken_ends (End ∷ xs) h e = h
broken_ends (Broken ∷ xs) h e = h

no_more : (xs : List Piece) → NoParts xs → NoParts (xs ++ Broken ∷ [])
no_more [] h = tt
no_more (Part p ∷ xs) h = absurd h
no_more (End ∷ xs) h = no_more xs h
no_more (Broken ∷ xs) h = no_more xs h

broken_fit : (o : Option (List ℕ)) (xs : List Piece) → PartsFit o xs → PartsFit o (xs ++ Broken ∷ [])
broken_fit None xs h = no_more xs h
broken_fit (Some whole) xs (rest, e) =
    (rest, ap (λ (r : List ℕ). r ++ rest) (parts-append xs (Broken ∷ []) ∙ append-nil (parts xs)) ∙ e)

pub law_broken : (s : Source) (xs : List Piece) → AllParts xs → LawOf s xs → LawOf s (xs ++ Broken ∷ [])
law_broken s xs h l = record {
  last = broken_last xs h;
  short = short-append xs (Broken ∷ []) l.short (tt, tt);
  first = broken_fit (aside s) xs l.first;
  whole = λ e. absurd (broken_ends xs h e);
}
