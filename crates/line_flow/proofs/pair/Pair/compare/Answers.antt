use Rattle.std.proofs.Common.{◌≡◌, ◌+◌, ◌-◌, ◌<◌, ◌≤◌, ℕ, Bool, true, false, List, [], ◌∷◌, ◌++◌, length, take, drop, sym, ap, ◌∙◌, arith, append-nil}
use Rattle.std.proofs.Common.{length-drop, drop-drop}
use Rattle.std.specs.Str.{bytes_eq}
use Rattle.std.specs.Bool.{MatchBool}
use Rattle.std.proofs.lemmas.List.{drop_all, take_all}
use Rattle.line_kit.specs.Lines.{lines, is_open}
use Rattle.line_flow.specs.Kept.{Differ}
use Rattle.line_flow.proofs.Results.{map_match}
use Rattle.line_flow.proofs.LinesLaw.{first_cut}
use Rattle.line_flow.proofs.PairLaw.{differ_more, differ_longer, differ_next, equal_next}
use Rattle.line_flow.proofs.pair.Pair.compare.Goals as goal

-- whatever was known before, now they differ
now_differ : (b : Bool) (first second : List (List ℕ)) (l : List ℕ) (rest : List ℕ) → (first ≡ second ++ lines rest → Differ first (second ++ l ∷ []))
    → MatchBool b (Differ first second) (first ≡ second ++ lines rest) → Differ first (second ++ l ∷ [])
now_differ true first second l rest h d = differ_more first second l d
now_differ false first second l rest h e = h e

pub returns-then-self-len : goal.returns-then-self-len
returns-then-self-len c first second h =
    let p = c.args.self.now in
    let none : drop p.at p.first.items ≡ [] = drop_all p.at p.first.items (omega (arith, c.if-self-len.true, c.len.ensures)) in
    record {
      kept = h.kept;
      closed = h.closed;
      within = h.within;
      compared =
          now_differ p.differs first second c.args.line.now (drop p.at p.first.items)
          (λ e. differ_longer first second c.args.line.now (e ∙ ap (λ (ys : List ℕ). second ++ lines ys) none ∙ append-nil second)) h.compared;
    }

-- the bytes that are left to compare with begin with this line
next_line : (at size : ℕ) (xs ys l : List ℕ) → ys ≡ xs → at ≤ length xs → lines (take size (take (length ys - at) (drop at ys))) ≡ l ∷ []
    → (size < length (take (length ys - at) (drop at ys)) → is_open (take size (take (length ys - at) (drop at ys))) ≡ false)
    → lines (drop at xs) ≡ l ∷ lines (drop (at + size) xs)
next_line at size xs ys l same h e closed =
    let all : take (length ys - at) (drop at ys) ≡ drop at xs = take_all (length ys - at) (drop at ys) (omega (arith, length-drop at ys))
    ∙ ap (drop at) same in
    sym (ap lines all) ∙ first_cut size (take (length ys - at) (drop at ys)) l e closed
    ∙ ap (λ (zs : List ℕ). l ∷ lines (drop size zs)) all ∙ ap (λ (zs : List ℕ). l ∷ lines zs) (drop-drop size at xs)

pub returns-then-eq : goal.returns-then-eq
returns-then-eq c first second h =
    let p = c.args.self.now in
    let xs = p.first.items in
    let own = c.first_line-size.result.0.now in
    let size = c.first_line-size.result.1 in
    let next = next_line p.at size xs c.deref.result.now own c.deref.ensures.value h.within c.first_line-size.ensures.line
    c.first_line-size.ensures.closed in
    let alike : bytes_eq own c.args.line.now ≡ true = sym c.if-eq.ensures in
    record {
      kept = h.kept;
      closed = h.closed;
      within = omega (arith, h.within, c.first_line-size.ensures.bound, c.deref.ensures.len, length-drop p.at c.deref.result.now);
      compared =
          map_match p.differs (differ_more first second c.args.line.now)
          (λ e. equal_next first second own c.args.line.now (lines (drop (p.at + size) xs)) (e ∙ ap (λ (ls : List (List ℕ)). second ++ ls) next)
          alike) h.compared;
    }

pub returns-else-eq : goal.returns-else-eq
returns-else-eq c first second h =
    let p = c.args.self.now in
    let xs = p.first.items in
    let own = c.first_line-size.result.0.now in
    let size = c.first_line-size.result.1 in
    let next = next_line p.at size xs c.deref.result.now own c.deref.ensures.value h.within c.first_line-size.ensures.line
    c.first_line-size.ensures.closed in
    let unlike : bytes_eq own c.args.line.now ≡ false = sym c.if-eq.ensures in
    record {
      kept = h.kept;
      closed = h.closed;
      within = h.within;
      compared =
          now_differ p.differs first second c.args.line.now (drop p.at xs)
          (λ e. differ_next first second own c.args.line.now (lines (drop (p.at + size) xs)) (e ∙ ap (λ (ls : List (List ℕ)). second ++ ls) next)
          unlike) h.compared;
    }
