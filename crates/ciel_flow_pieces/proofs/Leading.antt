-- A piece more of a producer's output.
use Rattle.std.proofs.Common.{◌≡◌, ◌≤◌, ℕ, zero, suc, ◌+◌, List, [], ◌∷◌, ◌++◌, length, refl, sym, ap, ap₂, subst, ◌∙◌, arith, append_assoc, append-nil}
use Rattle.std.specs.Prelude.{None, Ok, Option, Some, slice_index_or}
use Rattle.sky_base.specs.View.{view}
use Rattle.sky_base_exec.specs.Perform.{slots}
use Rattle.line_kit.specs.Lines.{all_lines}
use Rattle.line_kit.specs.Table.{executor_of}
use Rattle.line_flow.specs.Drained.{Follows, each_joined}
use Rattle.line_flow.specs.Refused.{refusal}
use Rattle.line_flow.specs.Told.{CanFeed, Told, drained_more, early, early_by, fed_more, grow, pairs_in, settled_lines}
use Rattle.ciel_flow_pieces.specs.Leads.{Begins, IsFirstOf, IsOf, JoinedEach, Leads, at}
use Rattle.ciel_flow_pieces.specs.Pieces.{AllParts, AllShort, Ends, LawOf, OnlyLast, PartsFit, StreamSeen, parts}
use Rattle.ciel_flow_pieces.specs.Source.{aside, aside_by, output}
use Rattle.ciel_flow_pieces.specs.declared.piece.Piece.{Piece}
use Rattle.ciel_flow_pieces.specs.declared.piece.Piece.TheVariants.{Part, End, Broken}
use Rattle.ciel_flow_pieces.specs.declared.piece.Source.{Source}
use Rattle.ciel_flow_pieces.proofs.Early.{early_first, settled_first}
use Rattle.ciel_flow_pieces.proofs.Pieces.{all_more, parts_end, parts_more, short-append}

-- ---- what may be put

all_last : (xs : List Piece) (x : Piece) → AllParts xs → OnlyLast (xs ++ x ∷ [])
all_last [] (Part b) h = tt
all_last [] End h = tt
all_last [] Broken h = tt
all_last (Part p ∷ xs) x h = all_last xs x h
all_last (End ∷ xs) x h = absurd h
all_last (Broken ∷ xs) x h = absurd h

no_end : (xs : List Piece) → AllParts xs → Ends xs → ⊥
no_end [] h e = e
no_end (Part p ∷ xs) h e = no_end xs h e
no_end (End ∷ xs) h e = h
no_end (Broken ∷ xs) h e = h

pub law_part : (s : Source) (xs : List Piece) (b rest : List ℕ) → AllParts xs → AllShort xs → length b ≤ 65536
    → aside s ≡ Some ((parts xs ++ b) ++ rest) → LawOf s (xs ++ Part b ∷ [])
law_part s xs b rest h short few a = record {
  last = all_last xs (Part b) h;
  short = short-append xs (Part b ∷ []) short (few, tt);
  first = subst (λ o. PartsFit o (xs ++ Part b ∷ [])) (sym a) (rest, ap (λ (r : List ℕ). r ++ rest) (parts_more xs b));
  whole = λ ends. absurd (no_end (xs ++ Part b ∷ []) (all_more xs b h) ends);
}

pub law_end : (s : Source) (xs : List Piece) (whole : List ℕ) → AllParts xs → AllShort xs → aside s ≡ Some whole → parts xs ≡ whole
    → output s ≡ Ok (parts xs) → LawOf s (xs ++ End ∷ [])
law_end s xs whole h short a e o = record {
  last = all_last xs End h;
  short = short-append xs (End ∷ []) short (tt, tt);
  first = subst (λ x. PartsFit x (xs ++ End ∷ [])) (sym a) ([], append-nil (parts (xs ++ End ∷ [])) ∙ parts_end xs ∙ e);
  whole = λ ends. o ∙ ap (λ (b : List ℕ). Ok b) (sym (parts_end xs));
}

-- where some of these bytes were put, the next of them go on
pub first_still : (p q : StreamSeen) (bytes left b more : List ℕ) → IsFirstOf p bytes → q.source ≡ p.source → parts q.pieces ++ left ≡ parts p.pieces ++ bytes
    → b ++ more ≡ left → IsFirstOf q b
first_still p q bytes left b more (rest, e) same on cut = (
  more ++ rest,
  ap aside same ∙ e
      ∙ ap (λ (r : List ℕ). Some (r ++ rest))
      (sym on ∙ ap (λ (r : List ℕ). parts q.pieces ++ r) (sym cut) ∙ sym (append_assoc (parts q.pieces) b more))
      ∙ ap (λ (r : List ℕ). Some r) (append_assoc (parts q.pieces ++ b) more rest),
)

-- bytes with which the output is whole may be put, and then the end
pub put_last : (s : Source) (xs : List Piece) (b whole : List ℕ) → aside s ≡ Some whole → output s ≡ Ok whole → parts xs ++ b ≡ whole
    → IsFirstOf record { source = s; pieces = xs } b
    × ((ys : List Piece) → AllParts ys → AllShort ys → parts ys ≡ parts xs ++ b → LawOf s (ys ++ End ∷ []))
put_last s xs b whole a o e = (
  ([], a ∙ ap (λ (r : List ℕ). Some r) (sym (append-nil (parts xs ++ b) ∙ e))),
  λ ys all short put. law_end s ys whole all short a (put ∙ e) (o ∙ ap (λ (r : List ℕ). Ok r) (sym (put ∙ e))),
)

-- ---- what is whole

abbrev pub whole_of : Source → List (List ℕ) → List ℕ
whole_of s inputs = at (early_by (executor_of s.executor) (pairs_in (slots (view s.args))) s.outputs (all_lines inputs)) s.index

pub aside_is : (s : Source) (t : Told) (inputs : List (List ℕ)) → IsOf s t inputs → aside s ≡ Some (whole_of s inputs)
aside_is s t inputs of =
    ap₂ (λ r o. aside_by r o (λ ins. at (early_by (executor_of s.executor) (pairs_in (slots (view s.args))) s.outputs (all_lines ins)) s.index)) of.given
    of.right

-- ---- a piece

pub joined_at : (xs ys : List (List ℕ)) (i : ℕ) → length ys ≡ length xs → at (each_joined xs ys) i ≡ at xs i ++ at ys i
joined_at [] [] i e = refl
joined_at [] (y ∷ ys) i e = absurd (omega (arith, e))
joined_at (x ∷ xs) [] i e = absurd (omega (arith, e))
joined_at (x ∷ xs) (y ∷ ys) zero e = refl
joined_at (x ∷ xs) (y ∷ ys) (suc i) e = joined_at xs ys i (omega (arith, e))

pub same_each : (xs ys : List (List ℕ)) → length xs ≡ length ys → ((i : ℕ) → at xs i ≡ at ys i) → xs ≡ ys
same_each [] [] e h = refl
same_each [] (y ∷ ys) e h = absurd (omega (arith, e))
same_each (x ∷ xs) [] e h = absurd (omega (arith, e))
same_each (x ∷ xs) (y ∷ ys) e h = ap₂ (λ (a : List ℕ) (b : List (List ℕ)). a ∷ b) (h 0) (same_each xs ys (omega (arith, e)) (λ i. h (suc i)))

pub length_joined : (xs ys : List (List ℕ)) → length ys ≡ length xs → length (each_joined xs ys) ≡ length xs
length_joined [] ys e = e
length_joined (x ∷ xs) [] e = refl
length_joined (x ∷ xs) (y ∷ ys) e = ap suc (length_joined xs ys (omega (arith, e)))

pub kept_more : (t : Told) (before more after : List (List ℕ)) → before ≡ t.drained → Follows t.drained more (early t)
    → JoinedEach before more after → after ≡ early t
kept_more t before more after e f j =
    same_each after (each_joined t.drained more)
    (j.count ∙ ap length e ∙ sym (length_joined t.drained more f.count))
    (λ i. j.each i ∙ ap (λ (xs : List (List ℕ)). at xs i ++ at more i) e ∙ sym (joined_at t.drained more i f.count))
    ∙ f.whole

-- what is drained of the output goes behind what was drained
pub drained_next : (t : Told) (more : List (List ℕ)) (i : ℕ) → Follows t.drained more (early t) → at (early t) i ≡ at t.drained i ++ at more i
drained_next t more i f = ap (λ (xs : List (List ℕ)). at xs i) (sym f.whole) ∙ joined_at t.drained more i f.count

-- what can be had of the output is its beginning
pub first_part : (s : Source) (t : Told) (inputs : List (List ℕ)) (input : ℕ) (piece : List ℕ) → IsOf s t inputs → Begins t input piece inputs
    → (rest : List ℕ) × (at (early (fed_more t input piece)) s.index ++ rest ≡ whole_of s inputs)
first_part s t inputs input piece of (q, later, e) =
    let first = settled_first input q (grow input piece t.fed) in
    let ls = settled_lines input (grow input piece t.fed) in
    let more = first.0 ++ later in
    let all : ls ++ more ≡ all_lines inputs =
    sym (append_assoc ls first.0 later) ∙ ap (λ (xs : List (List ℕ)). xs ++ later) first.1 ∙ e in
    let f = early_first (executor_of t.executor) (pairs_in t.args) t.outputs s.index ls more in (
      f.0,
      f.1 ∙ ap (λ (xs : List (List ℕ)). at (early_by (executor_of t.executor) (pairs_in t.args) t.outputs xs) s.index) all
          ∙ ap (λ (x : List ℕ). at (early_by (executor_of x) (pairs_in t.args) t.outputs (all_lines inputs)) s.index) of.executor
          ∙ ap₂ (λ a n. at (early_by (executor_of s.executor) (pairs_in a) n (all_lines inputs)) s.index) of.args of.outputs,
    )

pub put_next : (s : Source) (t : Told) (inputs : List (List ℕ)) (input : ℕ) (piece b : List ℕ) (xs : List Piece) (more : List (List ℕ)) → IsOf s t inputs
    → Begins t input piece inputs → parts xs ≡ at t.drained s.index → Follows t.drained more (early (fed_more t input piece)) → b ≡ at more s.index
    → IsFirstOf record { source = s; pieces = xs } b
put_next s t inputs input piece b xs more of begins same f is =
    let first = first_part s t inputs input piece of begins in
    let next : parts xs ++ b ≡ at (early (fed_more t input piece)) s.index =
    ap₂ (λ (x y : List ℕ). x ++ y) same is ∙ sym (drained_next (fed_more t input piece) more s.index f) in
    (first.0, aside_is s t inputs of ∙ ap (λ (r : List ℕ). Some r) (sym (ap (λ (r : List ℕ). r ++ first.0) next ∙ first.1)))
