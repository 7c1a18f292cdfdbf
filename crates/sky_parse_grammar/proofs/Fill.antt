-- Some tokens stand for what is still to come, whatever it is.
use Rattle.std.proofs.Common.{◌≡◌, ℕ, zero, suc, ◌-◌, ◌≤◌, Bool, true, false, List, [], ◌∷◌, refl, ap, arith}
use Rattle.std.specs.Prelude.{◌==◌, ◌%◌}
use Rattle.std.proofs.lemmas.Bool.{and_parts}
use Rattle.sky_text.specs.declared.token.Sign.{Sign}
use Rattle.sky_text.specs.declared.token.Word.{Word}
use Rattle.sky_text.specs.declared.token.TokenKind.{TokenKind}
use Rattle.sky_text.specs.declared.token.Token.{Token}
use Rattle.sky_parse_grammar.specs.declared.level.Level.{Level}
use Rattle.sky_parse_grammar.specs.declared.parts.Shape.{Shape}
use Rattle.sky_parse_grammar.specs.Levels.{rank}
use Rattle.sky_parse_grammar.specs.Grammar.{sign, spell_others, AreTrees, place, Spelled}
use Rattle.sky_parse_grammar.specs.Machine.{Item, may_be_empty, ends}
use Rattle.sky_parse_grammar.specs.Tops.{Top}
use Rattle.sky_parse_grammar.proofs.Means.{At, Tail, Pairs, Others, Parts, Means, Stack, lower}
use Rattle.sky_parse_grammar.specs.Source.{Exp, Exps, Links, Ands, Steps, Stm, Stms, Arms, Else, exps_count}

a_token : TokenKind → Token
a_token k = record { kind = k; from = 0; to = 0; line = 1; col = 1 }

a_sign : Sign → Token
a_sign s = a_token (TokenKind.Sign s)

a_name : Token
a_name = a_token (TokenKind.Name [])

abbrev Stands : Item → List Token → Type 0
Stands i rest = (ts : List Token) × Means i ts rest

an_exp : (rest : List Token) → At 7 (a_name ∷ rest) rest
unfolding a_name a_token
an_exp rest = (Exp.name [] (place a_name), tt, omega arith, λ more f. ((refl, refl), f))

rank_low : (l : Level) → rank l ≤ 7
rank_low Level.Either = omega arith
rank_low Level.Both = omega arith
rank_low Level.Comparison = omega arith
rank_low Level.Sum = omega arith
rank_low Level.Product = omega arith
rank_low Level.Prefix = omega arith

-- nothing follows an operand
pub no_tail : (l : Level) (rest : List Token) → Tail l rest rest
no_tail Level.Either rest = (Ands.no_ands, tt, λ more f. f)
no_tail Level.Both rest = (Ands.no_ands, tt, λ more f. f)
no_tail Level.Comparison rest = (Links.no_links, tt, refl, λ more f. f)
no_tail Level.Sum rest = (Links.no_links, tt, λ more f. f)
no_tail Level.Product rest = (Links.no_links, tt, λ more f. f)
no_tail Level.Prefix rest = refl

-- so many parts, each behind a comma
more_parts : (j : ℕ) (s : Sign) (rest : List Token) → (ts : List Token) × (es : Exps) × AreTrees es × (exps_count es ≡ j)
    × Spelled (λ more. spell_others es (sign s ∷ more)) ts rest
unfolding a_name a_sign a_token
more_parts zero s rest = (a_sign s ∷ rest, Exps.no_exps, tt, refl, λ more f. (refl, f))
more_parts (suc j) s rest =
    let x = more_parts j s rest in
    (a_sign Sign.Comma ∷ a_name ∷ x.0, Exps.exp (Exp.name [] (place a_name)) x.1, (tt, x.2), ap suc x.3, λ more f. (refl, ((refl, refl), x.4 more f)))

some_pairs : (b : Bool) (rest : List Token) → (ts : List Token) × Pairs b ts rest
unfolding a_name a_sign a_token
some_pairs true rest = (
  a_sign Sign.Colon ∷ a_name ∷ a_sign Sign.CloseCurly ∷ rest,
  (Exps.exp (Exp.name [] (place a_name)) Exps.no_exps, (tt, tt), refl, λ more f. (refl, ((refl, refl), (refl, f)))),
)
some_pairs false rest = (a_sign Sign.CloseCurly ∷ rest, (Exps.no_exps, tt, refl, λ more f. (refl, f)))

some_others : (h : Shape) (n : ℕ) (rest : List Token) → (ts : List Token) × Others h n ts rest
unfolding a_sign a_token
some_others (Shape.Many s) n rest = (a_sign s ∷ rest, (Exps.no_exps, tt, λ more f. (refl, f)))
some_others (Shape.Fixed m s) n rest = let x = more_parts (m - n) s rest in (x.0, λ h. (x.1, x.2, omega (arith, h, x.3), x.4))
some_others Shape.Pairs n rest = some_pairs (n % 2 == 1) rest

some_parts : (h : Shape) (rest : List Token) → (ts : List Token) × Parts h ts rest
unfolding a_name a_sign a_token
some_parts (Shape.Many s) rest = (a_sign s ∷ rest, λ u. (Exps.no_exps, tt, tt, λ more f. (refl, f)))
some_parts (Shape.Fixed m s) rest = let x = more_parts (m - 1) s rest in
    (a_name ∷ x.0, λ h. (Exps.exp (Exp.name [] (place a_name)) x.1, (tt, x.2), omega (arith, h, x.3), λ more f. ((refl, refl), x.4 more f)))
some_parts Shape.Pairs rest = (a_sign Sign.CloseCurly ∷ rest, λ u. (Exps.no_exps, tt, refl, λ more f. (refl, f)))

sample : (i : Item) (rest : List Token) → Stands i rest
unfolding a_name a_sign a_token
sample (Item.level l) rest = (a_name ∷ rest, lower (rank l) 7 (a_name ∷ rest) rest (rank_low l) (an_exp rest))
sample (Item.tail l) rest = (rest, no_tail l rest)
sample Item.stepped rest = (a_name ∷ rest, lower 6 7 (a_name ∷ rest) rest (omega arith) (an_exp rest))
sample Item.primary rest = (a_name ∷ rest, an_exp rest)
sample Item.steps rest = (rest, (Steps.no_steps, tt, λ more f. f))
sample (Item.parts h) rest = some_parts h rest
sample (Item.others h n) rest = some_others h n rest
sample (Item.sign s) rest = (a_sign s ∷ rest, λ more f. (refl, f))
sample (Item.word w) rest = (a_token (TokenKind.Word w) ∷ rest, λ more f. (refl, f))
sample Item.name rest = (a_name ∷ rest, ([], place a_name, λ more f. ((refl, refl), f)))
sample Item.stmt rest = (
  a_token (TokenKind.Word Word.Return) ∷ a_sign Sign.Semicolon ∷ rest,
  (Stm.leave (place a_name), tt, λ more f. ((refl, refl), (refl, f))),
)
sample Item.stmts rest = (rest, (Stms.no_stms, tt, λ more f. f))
sample Item.named rest = (
  a_sign Sign.Semicolon ∷ rest,
  λ x t e. (Stm.just (place t) (Exp.name x (place t)), tt, λ more f. ((refl, (e, refl)), (refl, f))),
)
sample Item.indexed rest = (
  a_sign Sign.Semicolon ∷ rest,
  λ x t from q i e ti si. (
    Stm.just (place t) (Exp.postfix (Exp.name x (place t)) (Steps.index i q Steps.no_steps)),
    (tt, omega arith, (ti, tt), refl),
    λ more f. ((refl, (e, refl)), si (sign Sign.Semicolon ∷ more) (refl, f)),
  ),
)
sample Item.back rest = (a_sign Sign.Semicolon ∷ rest, λ t e. (Stm.leave (place t), tt, λ more f. ((e, refl), (refl, f))))
sample Item.block rest = (a_sign Sign.OpenCurly ∷ a_sign Sign.CloseCurly ∷ rest, (Stms.no_stms, tt, λ more f. (refl, (refl, f))))
sample Item.arms rest = (rest, (Arms.no_arms, Else.no_else, tt, tt, λ more f. f))
sample Item.after_else rest = (
  a_sign Sign.OpenCurly ∷ a_sign Sign.CloseCurly ∷ rest,
  λ t e. (Arms.no_arms, Else.otherwise Stms.no_stms, tt, tt, λ more f. (e, (refl, (refl, f)))),
)
sample Item.tops rest = (rest, ([], tt, λ more f. f))
sample Item.after_function rest = (
  a_name ∷ a_sign Sign.OpenRound ∷ a_sign Sign.CloseRound ∷ a_sign Sign.OpenCurly ∷ a_sign Sign.CloseCurly ∷ rest,
  λ t e. (
    Top.fun (record { name = []; place = place a_name; params = []; body = Stms.no_stms }) ∷ [],
    (tt, tt),
    λ more f. (e, ((refl, refl), (refl, (refl, (refl, (refl, f)))))),
  ),
)
sample Item.params rest = (a_sign Sign.CloseRound ∷ rest, ([], λ more f. (refl, f)))
sample Item.other_params rest = (a_sign Sign.CloseRound ∷ rest, ([], λ more f. (refl, f)))

pub fill : (k : List Item) → (ts : List Token) × Stack k ts
fill [] = ([], refl)
fill (i ∷ k) = let s = sample i (fill k).0 in (s.0, ((fill k).0, s.1, (fill k).1))

-- Where the tokens may end, none stand for what is to come.
empty : (i : Item) → may_be_empty i ≡ true → Means i [] []
empty (Item.tail l) e = no_tail l []
empty Item.steps e = (Steps.no_steps, tt, λ more f. f)
empty Item.stmts e = (Stms.no_stms, tt, λ more f. f)
empty Item.arms e = (Arms.no_arms, Else.no_else, tt, tt, λ more f. f)
empty Item.tops e = ([], tt, λ more f. f)
empty (Item.level l) e = absurd cc
empty Item.stepped e = absurd cc
empty Item.primary e = absurd cc
empty (Item.parts h) e = absurd cc
empty (Item.others h n) e = absurd cc
empty (Item.sign s) e = absurd cc
empty (Item.word w) e = absurd cc
empty Item.name e = absurd cc
empty Item.stmt e = absurd cc
empty Item.named e = absurd cc
empty Item.indexed e = absurd cc
empty Item.back e = absurd cc
empty Item.block e = absurd cc
empty Item.after_else e = absurd cc
empty Item.after_function e = absurd cc
empty Item.params e = absurd cc
empty Item.other_params e = absurd cc

pub ends_empty : (k : List Item) → ends k ≡ true → Stack k []
ends_empty [] e = refl
ends_empty (i ∷ k) e = let x = and_parts (may_be_empty i) (ends k) e in ([], empty i x.0, ends_empty k x.1)
