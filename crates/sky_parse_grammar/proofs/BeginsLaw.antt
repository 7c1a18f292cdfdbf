-- Tokens begin a sentence by partial trees exactly where some tokens make them a sentence.
use Rattle.std.proofs.Common.{◌≡◌, suc, List, [], ◌∷◌, ◌++◌, length, Option, Some, None, refl, sym, ap, ◌∙◌}
use Rattle.sky_text.specs.declared.token.TokenKind.{TokenKind}
use Rattle.sky_text.specs.declared.token.Token.{Token}
use Rattle.sky_parse_grammar.specs.Grammar.{Mark, Follows}
use Rattle.sky_parse_grammar.specs.Tops.{spell_tops}
use Rattle.sky_parse_grammar.specs.Machine.{Item, Out, step, goes, run, kind, kinds_of, kinds}
use Rattle.sky_parse_grammar.specs.Reading.{Begins}
use Rattle.sky_parse_grammar.specs.Partial.{PartlySpelled}
use Rattle.sky_parse_grammar.specs.Laws.{BeginsByPartialTrees}
use Rattle.sky_parse_grammar.proofs.Complete.{tops_claim}
use Rattle.sky_parse_grammar.proofs.Means.{Stack}
use Rattle.sky_parse_grammar.proofs.Back.{Leads, back_step}
use Rattle.sky_parse_grammar.proofs.Fill.{fill}
use Rattle.sky_parse_grammar.proofs.Exact.{follows_kinds, begins}
use Rattle.sky_parse_grammar.proofs.Partial.{partial_front, front_partial}

split_follows : (ms : List Mark) (a b : List Token) → Follows ms (a ++ b) → (front : List Mark) × (rest : List Mark) × (ms ≡ front ++ rest)
    × Follows front a
split_follows ms [] b f = ([], ms, refl, tt)
split_follows [] (t ∷ a) b f = absurd f
split_follows (m ∷ ms) (t ∷ a) b f = let x = split_follows ms a b f.1 in (m ∷ x.0, x.1, ap (λ (l : List Mark). m ∷ l) x.2, (f.0, x.3))

partly : (ts : List Token) → Begins ts → PartlySpelled ts
partly ts b = let x = split_follows (spell_tops b.0 []) ts b.1 b.2.1 in (b.0, x.0, b.2.0, front_partial b.0 x.0 (x.1, x.2), x.3)

live_step : (k : List Item) (t : Token) (us : List Token) (more : List TokenKind) (o : Option (List Item))
    → goes o (λ l. run l (kinds us ++ more)) (Out.stuck (suc (length (kinds us ++ more)))) ≡ Out.done
    → ((l : List Item) → run l (kinds us ++ more) ≡ Out.done → (after : List Token) × Stack l (us ++ after))
    → ((ts : List Token) → Leads o ts (Stack k (t ∷ ts))) → (after : List Token) × Stack k (t ∷ (us ++ after))
live_step k t us more None e ih back = absurd cc
live_step k t us more (Some l) e ih back = let x = ih l e in (x.0, back (us ++ x.0) x.1)

-- What is read before the end goes on, whatever the places of the tokens that were to come.
live : (k : List Item) (ts : List Token) (more : List TokenKind) → run k (kinds ts ++ more) ≡ Out.done → (after : List Token) × Stack k (ts ++ after)
live k [] more e = fill k
live k (t ∷ us) more e = live_step k t us more (step k t.kind) e (λ l r. live l us more r) (λ ts. back_step k t ts)

kinds_of_append : (a b : List Mark) → kinds_of (a ++ b) ≡ kinds_of a ++ kinds_of b
kinds_of_append [] b = refl
kinds_of_append (m ∷ a) b = ap (λ (ks : List TokenKind). kind m ∷ ks) (kinds_of_append a b)

begin : (ts : List Token) → PartlySpelled ts → Begins ts
begin ts (tops, ms, t, p, f) =
    let x = partial_front tops ms p in
    let same : kinds ts ++ kinds_of x.0 ≡ kinds_of (spell_tops tops []) =
    ap (λ (ks : List TokenKind). ks ++ kinds_of x.0) (follows_kinds ms ts f) ∙ sym (kinds_of_append ms x.0) ∙ ap kinds_of (sym x.1) in
    let y = live (Item.tops ∷ []) ts (kinds_of x.0) (ap (run (Item.tops ∷ [])) same ∙ tops_claim tops t) in
    begins ts y.0 y.1

pub begins_by_partial_trees : BeginsByPartialTrees
begins_by_partial_trees = λ ts. (partly ts, begin ts)
