-- What a tree spells is read: expressions, statements, functions and the whole.
use Rattle.std.proofs.Common.{◌≡◌, ℕ, suc, ◌+◌, ◌≤◌, true, false, List, [], ◌∷◌, refl, sym, ap, subst, ◌∙◌, arith, eq-eqb}
use Rattle.std.proofs.lemmas.Bool.{eqb-true, false_from_ne_true, false≢true}
use Rattle.std.specs.Prelude.{◌==◌, ◌%◌}
use Rattle.sky_base.specs.Tree.{Lit, Form, Junction}
use Rattle.sky_parse_grammar.specs.Levels.{junction_level}
use Rattle.sky_text.specs.declared.token.Sign.{Sign}
use Rattle.sky_parse_grammar.specs.declared.level.Level.{Level}
use Rattle.sky_parse_grammar.specs.declared.parts.Shape.{Shape}
use Rattle.sky_parse_grammar.specs.Levels.{rank}
use Rattle.sky_parse_grammar.specs.Grammar.{Mark, sign, spell, spell_links, spell_ands, spell_steps, spell_exps, spell_others, spell_pairs, spell_value}
use Rattle.sky_parse_grammar.specs.Grammar.{spell_other_pairs, paired, valued, AreTrees, AreLinks, AreAnds, AreSteps, IsTree, Fun, word, spell_stm}
use Rattle.sky_parse_grammar.specs.Grammar.{spell_stms, spell_other_arms, spell_else, spell_fun, IsStm, AreStms, AreArms, IsElse}
use Rattle.sky_parse_grammar.specs.Machine.{Item, Out, operand_of, again, run, kinds_of}
use Rattle.sky_parse_grammar.specs.Source.{Exp, Exps, Links, Ands, Steps, level, exps_count, Stm, Stms, Arms, Else, weight}
use Rattle.sky_text.specs.declared.token.Word.{Word}
use Rattle.sky_parse_grammar.specs.Tops.{Top, spell_tops, AreTops}
use Rattle.sky_parse_grammar.proofs.Operands.{stops_steps, stops, skip_steps, skip_tail, Claim, primary_at, prefix_at, at_level, whole, signs_claim}
use Rattle.sky_parse_grammar.proofs.Operands.{level_of_oper, oper_stops, oper_read, oper_rank, rank_step, stops_here, links_stop, link_read}
use Rattle.sky_parse_grammar.proofs.Operands.{level_of_junction, ands_stop, and_read, Closes, first, begins_many, begins_pairs, fixed_is, none_inside}
use Rattle.sky_parse_grammar.proofs.Operands.{many_ends, fixed_ends, fixed_goes, others_stop, value_goes, pair_goes, pairs_end, many_goes, value_stop}
use Rattle.sky_parse_grammar.proofs.Operands.{pairs_stop, at_oper, at_junction, tails_oper, tails_junction, junction_rank, rest_read, round, square, curly}
use Rattle.sky_parse_grammar.proofs.Operands.{semicolon}
use Rattle.sky_parse_grammar.proofs.Statements.{started_kinds, stm_inner, ReadWhole, Behind, behind_rest, IndexRead, steps_behind, links_behind}
use Rattle.sky_parse_grammar.proofs.Statements.{ands_behind, Alike, signs_alike, begins_back, ends_block, at_else, skip_stms, skip_arms, begins_stms}
use Rattle.sky_parse_grammar.proofs.Statements.{inner_not_else, stms_not_else, stm_starts, begins_tops, params_claim, other}

mutual
  claim : (e : Exp) → IsTree e → Claim e
  claim (Exp.literal Lit.null p) t = λ k more. refl
  claim (Exp.literal (Lit.truth true) p) t = λ k more. refl
  claim (Exp.literal (Lit.truth false) p) t = λ k more. refl
  claim (Exp.literal (Lit.num z) p) t = λ k more. refl
  claim (Exp.literal (Lit.text x) p) t = λ k more. refl
  claim (Exp.name x p) t = λ k more. refl
  claim (Exp.func p xs b) t = λ k more. params_claim xs (Item.block ∷ Item.steps ∷ k)
      (sign Sign.OpenCurly ∷ spell_stms b (sign Sign.CloseCurly ∷ more))
      ∙ stms_claim b t (Item.sign Sign.CloseCurly ∷ Item.steps ∷ k) (sign Sign.CloseCurly ∷ more) refl
  claim (Exp.parens e) t = λ k more. fixed_is 1 Sign.CloseRound (Item.steps ∷ k) (kinds_of (spell e (sign Sign.CloseRound ∷ more)))
      ∙ whole Level.Either e (omega arith) (claim e t) (Item.others (Shape.Fixed 1 Sign.CloseRound) 1 ∷ Item.steps ∷ k)
      (sign Sign.CloseRound ∷ more) refl ∙ fixed_ends round 1 1 (Item.steps ∷ k) more refl
  claim (Exp.parts Form.list p es) t = λ k more. many_claim es t.0 Sign.CloseSquare square (Item.steps ∷ k) more
  claim (Exp.parts Form.dict p es) t = λ k more. pairs_claim es t.0 t.1 (Item.steps ∷ k) more
  claim (Exp.parts Form.spawn p es) t = λ k more. fixed_claim es t.0 2 t.1 (omega arith) (Item.steps ∷ k) more
  claim (Exp.parts Form.spawn_exec p es) t = λ k more. fixed_claim es t.0 3 t.1 (omega arith) (Item.steps ∷ k) more
  claim (Exp.parts Form.exec p es) t = λ k more. fixed_claim es t.0 3 t.1 (omega arith) (Item.steps ∷ k) more
  claim (Exp.parts Form.ref p es) t = λ k more. fixed_claim es t.0 1 t.1 (omega arith) (Item.steps ∷ k) more
  claim (Exp.parts Form.len p es) t = λ k more. fixed_claim es t.0 1 t.1 (omega arith) (Item.steps ∷ k) more
  claim (Exp.parts Form.keys p es) t = λ k more. fixed_claim es t.0 1 t.1 (omega arith) (Item.steps ∷ k) more
  claim (Exp.parts Form.has p es) t = λ k more. fixed_claim es t.0 2 t.1 (omega arith) (Item.steps ∷ k) more
  claim (Exp.parts Form.range p es) t = λ k more. fixed_claim es t.0 2 t.1 (omega arith) (Item.steps ∷ k) more
  claim (Exp.chain e Links.no_links) t = absurd (false≢true t.3)
  claim (Exp.chain e (Links.link o p f ls)) t =
      let l = level_of_oper o in
      let inside = rank_step (level_of_oper o) in
      let same = oper_rank o in
      at_oper o (Exp.chain e (Links.link o p f ls)) (λ k more s.
      ap (λ (i : List Item). run (Item.level Level.Prefix ∷ i) (kinds_of (spell e (spell_links (Links.link o p f ls) more)))) (tails_oper o k)
      ∙ at_level (operand_of l) (level e) e (omega (arith, inside, same, t.1)) (claim e t.0) (Item.tail l ∷ k)
      (spell_links (Links.link o p f ls) more) (oper_stops o p (spell f (spell_links ls more)))
      ∙ oper_read o p k (spell f (spell_links ls more))
      ∙ whole (operand_of l) f (omega (arith, inside, same, t.2.2)) (claim f t.2.1) (again l k) (spell_links ls more)
      (links_stop l ls more (subst (λ (n : ℕ). AreLinks n ls) (sym same) t.2.3) s)
      ∙ rest_read o p f ls k more t.3 (λ ar. links_claim ls l (subst (λ (n : ℕ). AreLinks n ls) (sym same) t.2.3) ar k more s))
  claim (Exp.logic j e ls) t =
      let l = level_of_junction j in
      at_junction j (Exp.logic j e ls) (λ k more s.
      ap (λ (i : List Item). run (Item.level Level.Prefix ∷ i) (kinds_of (spell e (spell_ands j ls more)))) (tails_junction j k)
      ∙ at_level (operand_of l) (level e) e (omega (arith, rank_step (level_of_junction j), junction_rank j, t.1)) (claim e t.0)
      (Item.tail l ∷ k) (spell_ands j ls more) (ands_stop j ls more s)
      ∙ ands_claim ls j t.2 k more s)
  claim (Exp.prefix ss e) t = λ k more s. signs_claim ss k (spell e more) ∙ prefix_at (level e) e (omega (arith, t.1)) (claim e t.0) k more s
  claim (Exp.postfix e ss) t = λ k more s. primary_at (level e) e t.1 (claim e t.0) k (spell_steps ss more) ∙ steps_claim ss t.2 k more s

  links_claim : (ls : Links) (l : Level) → AreLinks (rank l) ls → ((i : List Item) → again l i ≡ Item.tail l ∷ i)
      → (k : List Item) (more : List Mark) → stops l more ≡ true → run (Item.tail l ∷ k) (kinds_of (spell_links ls more)) ≡ run k (kinds_of more)
  links_claim Links.no_links l t ar k more s = skip_tail l k more (stops_here l more s)
  links_claim (Links.link o p e ls) l t ar k more s = link_read l o p k (spell e (spell_links ls more)) t.0
      ∙ ap (λ (i : List Item). run (Item.level (operand_of l) ∷ i) (kinds_of (spell e (spell_links ls more)))) (ar k)
      ∙ whole (operand_of l) e (omega (arith, rank_step l, t.2)) (claim e t.1) (Item.tail l ∷ k) (spell_links ls more)
      (links_stop l ls more t.3 s) ∙ links_claim ls l t.3 ar k more s

  ands_claim : (ls : Ands) (j : Junction) → AreAnds (junction_level j) ls → (k : List Item) (more : List Mark) → stops (level_of_junction j) more
      ≡ true → run (Item.tail (level_of_junction j) ∷ k) (kinds_of (spell_ands j ls more)) ≡ run k (kinds_of more)
  ands_claim Ands.no_ands j t k more s = skip_tail (level_of_junction j) k more (stops_here (level_of_junction j) more s)
  ands_claim (Ands.and p e ls) j t k more s = and_read j p k (spell e (spell_ands j ls more))
      ∙ whole (operand_of (level_of_junction j)) e (omega (arith, rank_step (level_of_junction j), junction_rank j, t.1)) (claim e t.0)
      (Item.tail (level_of_junction j) ∷ k) (spell_ands j ls more) (ands_stop j ls more s) ∙ ands_claim ls j t.2 k more s

  steps_claim : (ss : Steps) → AreSteps ss → (k : List Item) (more : List Mark) → stops_steps more ≡ true
      → run (Item.steps ∷ k) (kinds_of (spell_steps ss more)) ≡ run k (kinds_of more)
  steps_claim Steps.no_steps t k more s = skip_steps k more s
  steps_claim (Steps.index e p ss) t k more s =
      fixed_is 1 Sign.CloseSquare (Item.steps ∷ k) (kinds_of (spell e (sign Sign.CloseSquare ∷ spell_steps ss more)))
      ∙ whole Level.Either e (omega arith) (claim e t.0) (Item.others (Shape.Fixed 1 Sign.CloseSquare) 1 ∷ Item.steps ∷ k)
      (sign Sign.CloseSquare ∷ spell_steps ss more) refl ∙ fixed_ends square 1 1 (Item.steps ∷ k) (spell_steps ss more) refl
      ∙ steps_claim ss t.1 k more s
  steps_claim (Steps.call es p ss) t k more s = many_claim es t.0 Sign.CloseRound round (Item.steps ∷ k) (spell_steps ss more)
      ∙ steps_claim ss t.1 k more s

  many_claim : (es : Exps) → AreTrees es → (s : Sign) → Closes s → (k : List Item) (more : List Mark)
      → run (Item.parts (Shape.Many s) ∷ k) (kinds_of (spell_exps es (sign s ∷ more))) ≡ run k (kinds_of more)
  many_claim Exps.no_exps t s c k more = none_inside c k more
  many_claim (Exps.exp e es) t s c k more = begins_many s k (kinds_of (spell e (spell_others es (sign s ∷ more))))
      (first c e t.0 (spell_others es (sign s ∷ more)))
      ∙ whole Level.Either e (omega arith) (claim e t.0) (Item.others (Shape.Many s) 1 ∷ k) (spell_others es (sign s ∷ more))
      (others_stop c es more) ∙ many_others es t.1 s c 1 k more

  many_others : (es : Exps) → AreTrees es → (s : Sign) → Closes s → (n : ℕ) (k : List Item) (more : List Mark)
      → run (Item.others (Shape.Many s) n ∷ k) (kinds_of (spell_others es (sign s ∷ more))) ≡ run k (kinds_of more)
  many_others Exps.no_exps t s c n k more = many_ends c n k more
  many_others (Exps.exp e es) t s c n k more = many_goes s n k (spell e (spell_others es (sign s ∷ more)))
      ∙ whole Level.Either e (omega arith) (claim e t.0) (Item.others (Shape.Many s) (suc n) ∷ k) (spell_others es (sign s ∷ more))
      (others_stop c es more) ∙ many_others es t.1 s c (suc n) k more

  fixed_claim : (es : Exps) → AreTrees es → (m : ℕ) → exps_count es ≡ m → 1 ≤ m → (k : List Item) (more : List Mark)
      → run (Item.parts (Shape.Fixed m Sign.CloseRound) ∷ k) (kinds_of (spell_exps es (sign Sign.CloseRound ∷ more))) ≡ run k (kinds_of more)
  fixed_claim Exps.no_exps t m h g k more = absurd (omega (arith, h, g))
  fixed_claim (Exps.exp e es) t m h g k more = fixed_is m Sign.CloseRound k (kinds_of (spell e (spell_others es (sign Sign.CloseRound ∷ more))))
      ∙ whole Level.Either e (omega arith) (claim e t.0) (Item.others (Shape.Fixed m Sign.CloseRound) 1 ∷ k)
      (spell_others es (sign Sign.CloseRound ∷ more)) (others_stop round es more) ∙ fixed_others es t.1 m 1 (omega (arith, h)) k more

  fixed_others : (es : Exps) → AreTrees es → (m n : ℕ) → n + exps_count es ≡ m → (k : List Item) (more : List Mark)
      → run (Item.others (Shape.Fixed m Sign.CloseRound) n ∷ k) (kinds_of (spell_others es (sign Sign.CloseRound ∷ more)))
      ≡ run k (kinds_of more)
  fixed_others Exps.no_exps t m n h k more = fixed_ends round m n k more (eq-eqb n m (omega (arith, h)))
  fixed_others (Exps.exp e es) t m n h k more =
      fixed_goes Sign.CloseRound m n k (spell e (spell_others es (sign Sign.CloseRound ∷ more)))
      (false_from_ne_true (n == m) (λ q. absurd (omega (arith, h, eqb-true n m q))))
      ∙ whole Level.Either e (omega arith) (claim e t.0) (Item.others (Shape.Fixed m Sign.CloseRound) (suc n) ∷ k)
      (spell_others es (sign Sign.CloseRound ∷ more)) (others_stop round es more) ∙ fixed_others es t.1 m (suc n) (omega (arith, h)) k more

  pairs_claim : (es : Exps) → AreTrees es → paired es ≡ true → (k : List Item) (more : List Mark)
      → run (Item.parts Shape.Pairs ∷ k) (kinds_of (spell_pairs es (sign Sign.CloseCurly ∷ more))) ≡ run k (kinds_of more)
  pairs_claim Exps.no_exps t h k more = refl
  pairs_claim (Exps.exp e es) t h k more = begins_pairs k (kinds_of (spell e (spell_value es (sign Sign.CloseCurly ∷ more))))
      (first curly e t.0 (spell_value es (sign Sign.CloseCurly ∷ more)))
      ∙ whole Level.Either e (omega arith) (claim e t.0) (Item.others Shape.Pairs 1 ∷ k) (spell_value es (sign Sign.CloseCurly ∷ more))
      (value_stop es (sign Sign.CloseCurly ∷ more) h) ∙ value_claim es t.1 h 1 refl k more

  value_claim : (es : Exps) → AreTrees es → valued es ≡ true → (n : ℕ) → n % 2 ≡ 1 → (k : List Item) (more : List Mark)
      → run (Item.others Shape.Pairs n ∷ k) (kinds_of (spell_value es (sign Sign.CloseCurly ∷ more))) ≡ run k (kinds_of more)
  value_claim Exps.no_exps t h n odd k more = absurd (false≢true h)
  value_claim (Exps.exp e es) t h n odd k more =
      value_goes n k (spell e (spell_other_pairs es (sign Sign.CloseCurly ∷ more))) (ap (λ (m : ℕ). m == 1) odd)
      ∙ whole Level.Either e (omega arith) (claim e t.0) (Item.others Shape.Pairs (suc n) ∷ k)
      (spell_other_pairs es (sign Sign.CloseCurly ∷ more)) (pairs_stop es more)
      ∙ other_pairs_claim es t.1 h (suc n) (omega (arith, odd)) k more

  other_pairs_claim : (es : Exps) → AreTrees es → paired es ≡ true → (n : ℕ) → n % 2 ≡ 0 → (k : List Item) (more : List Mark)
      → run (Item.others Shape.Pairs n ∷ k) (kinds_of (spell_other_pairs es (sign Sign.CloseCurly ∷ more))) ≡ run k (kinds_of more)
  other_pairs_claim Exps.no_exps t h n even k more = pairs_end n k more (ap (λ (m : ℕ). m == 1) even) (ap (λ (m : ℕ). m == 0) even)
  other_pairs_claim (Exps.exp e es) t h n even k more =
      pair_goes n k (spell e (spell_value es (sign Sign.CloseCurly ∷ more))) (ap (λ (m : ℕ). m == 1) even)
      ∙ whole Level.Either e (omega arith) (claim e t.0) (Item.others Shape.Pairs (suc n) ∷ k) (spell_value es (sign Sign.CloseCurly ∷ more))
      (value_stop es (sign Sign.CloseCurly ∷ more) h) ∙ value_claim es t.1 h (suc n) (omega (arith, even)) k more

  index_claim : (ss : Steps) → AreSteps ss → IndexRead ss
  index_claim Steps.no_steps t = tt
  index_claim (Steps.index e p ss) t = λ k more s. whole Level.Either e (omega arith) (claim e t.0) k more s
  index_claim (Steps.call es p ss) t = tt

  -- a statement that begins with an expression is read as that expression and a semicolon
  exp_alike : (e : Exp) → IsTree e → (n : ℕ) → weight e ≤ n → (more : List Mark) → Behind n more → Alike (spell e more)
  exp_alike (Exp.literal Lit.null p) t n w more b = λ k. refl
  exp_alike (Exp.literal (Lit.truth true) p) t n w more b = λ k. refl
  exp_alike (Exp.literal (Lit.truth false) p) t n w more b = λ k. refl
  exp_alike (Exp.literal (Lit.num z) p) t n w more b = λ k. refl
  exp_alike (Exp.literal (Lit.text x) p) t n w more b = λ k. refl
  exp_alike (Exp.name x p) t n w more b = λ k. behind_rest n k b
  exp_alike (Exp.func p xs b1) t n w more b = λ k. refl
  exp_alike (Exp.parens e) t n w more b = λ k. refl
  exp_alike (Exp.parts Form.list p es) t n w more b = λ k. refl
  exp_alike (Exp.parts Form.dict p es) t n w more b = λ k. refl
  exp_alike (Exp.parts Form.spawn p es) t n w more b = λ k. refl
  exp_alike (Exp.parts Form.spawn_exec p es) t n w more b = λ k. refl
  exp_alike (Exp.parts Form.exec p es) t n w more b = λ k. refl
  exp_alike (Exp.parts Form.ref p es) t n w more b = λ k. refl
  exp_alike (Exp.parts Form.len p es) t n w more b = λ k. refl
  exp_alike (Exp.parts Form.keys p es) t n w more b = λ k. refl
  exp_alike (Exp.parts Form.has p es) t n w more b = λ k. refl
  exp_alike (Exp.parts Form.range p es) t n w more b = λ k. refl
  exp_alike (Exp.chain e ls) t n w more b = exp_alike e t.0 n (omega (arith, w)) (spell_links ls more) (links_behind n ls more b)
  exp_alike (Exp.logic j e ls) t n w more b = exp_alike e t.0 n (omega (arith, w)) (spell_ands j ls more) (ands_behind n j ls more b)
  exp_alike (Exp.prefix ss e) t n w more b = signs_alike ss (spell e more) t.2
  exp_alike (Exp.postfix e ss) t n w more b =
      exp_alike e t.0 n (omega (arith, w)) (spell_steps ss more) (steps_behind n ss t.2 (omega (arith, w)) (index_claim ss t.2) more b)

  pub stm_claim : (s : Stm) → IsStm s → (k : List Item) (more : List Mark) → at_else more ≡ false
      → run (Item.stmt ∷ k) (kinds_of (spell_stm s more)) ≡ run k (kinds_of more)
  stm_claim (Stm.set x p e) t k more h = whole Level.Either e (omega arith) (claim e t) (Item.sign Sign.Semicolon ∷ k)
      (sign Sign.Semicolon ∷ more) refl
  stm_claim (Stm.add x q p e) t k more h = whole Level.Either e (omega arith) (claim e t) (Item.sign Sign.Semicolon ∷ k)
      (sign Sign.Semicolon ∷ more) refl
  stm_claim (Stm.put x q p i e) t k more h =
      whole Level.Either i (omega arith) (claim i t.0) (Item.sign Sign.CloseSquare ∷ Item.indexed ∷ k)
      (sign Sign.CloseSquare ∷ sign Sign.Assign ∷ spell e (sign Sign.Semicolon ∷ more)) refl
      ∙ whole Level.Either e (omega arith) (claim e t.1) (Item.sign Sign.Semicolon ∷ k) (sign Sign.Semicolon ∷ more) refl
  stm_claim (Stm.return p e) t k more h = begins_back k (kinds_of (spell e (sign Sign.Semicolon ∷ more)))
      (first semicolon e t (sign Sign.Semicolon ∷ more))
      ∙ whole Level.Either e (omega arith) (claim e t) (Item.sign Sign.Semicolon ∷ k) (sign Sign.Semicolon ∷ more) refl
  stm_claim (Stm.leave p) t k more h = refl
  stm_claim (Stm.cases p Arms.no_arms els) t k more h = absurd cc
  stm_claim (Stm.cases p (Arms.arm q e b arms) els) t k more h =
      let rest = sign Sign.CloseCurly ∷ spell_other_arms arms (spell_else els more) in
      whole Level.Either e (omega arith) (claim e t.0.0) (Item.sign Sign.CloseRound ∷ Item.block ∷ Item.arms ∷ k)
      (sign Sign.CloseRound ∷ sign Sign.OpenCurly ∷ spell_stms b rest) refl
      ∙ stms_claim b t.0.1 (Item.sign Sign.CloseCurly ∷ Item.arms ∷ k) rest refl
      ∙ arms_claim arms t.0.2 k (spell_else els more) more (else_claim els t.2 k more h)
  stm_claim (Stm.while p e b) t k more h =
      let rest = sign Sign.CloseCurly ∷ more in
      whole Level.Either e (omega arith) (claim e t.0) (Item.sign Sign.CloseRound ∷ Item.block ∷ k)
      (sign Sign.CloseRound ∷ sign Sign.OpenCurly ∷ spell_stms b rest) refl ∙ stms_claim b t.1 (Item.sign Sign.CloseCurly ∷ k) rest refl
  stm_claim (Stm.repeat p b e) t k more h =
      let end = sign Sign.CloseRound ∷ sign Sign.Semicolon ∷ more in
      stms_claim b t.0 (Item.sign Sign.CloseCurly ∷ Item.word Word.While ∷ Item.sign Sign.OpenRound ∷ Item.level Level.Either
      ∷ Item.sign Sign.CloseRound ∷ Item.sign Sign.Semicolon ∷ k)
      (sign Sign.CloseCurly ∷ word Word.While ∷ sign Sign.OpenRound ∷ spell e end) refl
      ∙ whole Level.Either e (omega arith) (claim e t.1) (Item.sign Sign.CloseRound ∷ Item.sign Sign.Semicolon ∷ k) end refl
  stm_claim (Stm.for p x e b) t k more h =
      let rest = sign Sign.CloseCurly ∷ more in
      whole Level.Either e (omega arith) (claim e t.0) (Item.sign Sign.CloseRound ∷ Item.block ∷ k)
      (sign Sign.CloseRound ∷ sign Sign.OpenCurly ∷ spell_stms b rest) refl ∙ stms_claim b t.1 (Item.sign Sign.CloseCurly ∷ k) rest refl
  stm_claim (Stm.just p e) t k more h = ap (run (Item.stmt ∷ k)) (started_kinds p (spell e (sign Sign.Semicolon ∷ more)))
      ∙ exp_alike e t (weight e) (omega arith) (sign Sign.Semicolon ∷ more) (other (sign Sign.Semicolon ∷ more) refl refl) k
      ∙ whole Level.Either e (omega arith) (claim e t) (Item.sign Sign.Semicolon ∷ k) (sign Sign.Semicolon ∷ more) refl

  pub stms_claim : (ss : Stms) → AreStms ss → (k : List Item) (more : List Mark) → ends_block more ≡ true
      → run (Item.stmts ∷ k) (kinds_of (spell_stms ss more)) ≡ run k (kinds_of more)
  stms_claim Stms.no_stms t k more h = skip_stms k more h
  stms_claim (Stms.stm s ss) t k more h = begins_stms k (spell_stm s (spell_stms ss more)) (stm_inner s t.0 (spell_stms ss more))
      ∙ stm_claim s t.0 (Item.stmts ∷ k) (spell_stms ss more) (stms_not_else ss t.1 more h) ∙ stms_claim ss t.1 k more h

  arms_claim : (arms : Arms) → AreArms arms → (k : List Item) (rest more : List Mark) → run (Item.arms ∷ k) (kinds_of rest)
      ≡ run k (kinds_of more) → run (Item.arms ∷ k) (kinds_of (spell_other_arms arms rest)) ≡ run k (kinds_of more)
  arms_claim Arms.no_arms t k rest more h = h
  arms_claim (Arms.arm p e b arms) t k rest more h =
      let end = sign Sign.CloseCurly ∷ spell_other_arms arms rest in
      whole Level.Either e (omega arith) (claim e t.0) (Item.sign Sign.CloseRound ∷ Item.block ∷ Item.arms ∷ k)
      (sign Sign.CloseRound ∷ sign Sign.OpenCurly ∷ spell_stms b end) refl
      ∙ stms_claim b t.1 (Item.sign Sign.CloseCurly ∷ Item.arms ∷ k) end refl ∙ arms_claim arms t.2 k rest more h

  else_claim : (el : Else) → IsElse el → (k : List Item) (more : List Mark) → at_else more ≡ false
      → run (Item.arms ∷ k) (kinds_of (spell_else el more)) ≡ run k (kinds_of more)
  else_claim Else.no_else t k more h = skip_arms k more h
  else_claim (Else.otherwise b) t k more h = stms_claim b t (Item.sign Sign.CloseCurly ∷ k) (sign Sign.CloseCurly ∷ more) refl

-- What a tree spells is read, and what is read then is what follows it.
pub complete : (e : Exp) → IsTree e → ReadWhole e
complete e t = whole Level.Either e (omega arith) (claim e t)

pub index_read : (ss : Steps) → AreSteps ss → IndexRead ss
index_read Steps.no_steps t = tt
index_read (Steps.index e p ss) t = complete e t.0
index_read (Steps.call es p ss) t = tt

fun_claim : (f : Fun) → AreStms f.body → (k : List Item) (more : List Mark) → run (Item.tops ∷ k) (kinds_of (spell_fun f more))
    ≡ run (Item.tops ∷ k) (kinds_of more)
fun_claim f t k more =
    let rest = sign Sign.CloseCurly ∷ more in
    params_claim f.params (Item.block ∷ Item.tops ∷ k) (sign Sign.OpenCurly ∷ spell_stms f.body rest)
    ∙ stms_claim f.body t (Item.sign Sign.CloseCurly ∷ Item.tops ∷ k) rest refl

pub tops_not_else : (tops : List Top) → AreTops tops → at_else (spell_tops tops []) ≡ false
tops_not_else [] t = refl
tops_not_else (Top.fun f ∷ tops) t = refl
tops_not_else (Top.stmt s ∷ tops) t = inner_not_else (spell_stm s (spell_tops tops [])) (stm_inner s t.0 (spell_tops tops []))

-- What a script spells is read to the end.
pub tops_claim : (tops : List Top) → AreTops tops → run (Item.tops ∷ []) (kinds_of (spell_tops tops [])) ≡ Out.done
tops_claim [] t = refl
tops_claim (Top.fun f ∷ tops) t = fun_claim f t.0 [] (spell_tops tops []) ∙ tops_claim tops t.1
tops_claim (Top.stmt s ∷ tops) t = begins_tops [] (spell_stm s (spell_tops tops [])) (stm_inner s t.0 (spell_tops tops []))
    (stm_starts s t.0 (spell_tops tops []))
    ∙ stm_claim s t.0 (Item.tops ∷ []) (spell_tops tops []) (tops_not_else tops t.1) ∙ tops_claim tops t.1
