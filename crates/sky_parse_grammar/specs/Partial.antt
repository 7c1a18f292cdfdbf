-- Partial trees: a tree that is cut at its right edge. Its tokens are those of the first items of its forms,
-- the last of which may be cut itself, so the clauses are those of `spell`.
use Rattle.std.specs.Prelude.{◌≡◌, ◌⊎◌, List, [], ◌∷◌}
use Rattle.sky_base.specs.Tree.{Place, Form, Junction, SignAt}
use Rattle.sky_text.specs.declared.token.Sign.{Sign}
use Rattle.sky_text.specs.declared.token.Word.{Word}
use Rattle.sky_text.specs.declared.token.TokenKind.{TokenKind}
use Rattle.sky_text.specs.declared.token.Token.{Token}
use Rattle.sky_parse_grammar.specs.Grammar.{Mark, Fun, sign, sign_at, word, word_at, name_at, lit_kind, oper_sign, junction_sign, prefix_sign, Follows}
use Rattle.sky_parse_grammar.specs.Tops.{Top, AreTops}
use Rattle.sky_parse_grammar.specs.Source.{Param, Exp, Exps, Links, Ands, Steps, Stm, Stms, Arms, Else}

-- cut here, or this token and then K
abbrev pub tok : Mark → (List Mark → Type 0) → List Mark → Type 0
tok m K ms = (ms ≡ []) ⊎ ((rest : List Mark) × (ms ≡ m ∷ rest) × K rest)

-- the same, where the first token has this place
abbrev pub begun : Place → (List Mark → Type 0) → List Mark → Type 0
begun p K [] = K []
begun p K (Mark.also q m ∷ ms) = (q ≡ p) × K (m ∷ ms)
begun p K (Mark.placed k q ∷ ms) = ⊥
begun p K (Mark.plain k ∷ ms) = ⊥

abbrev pub cut_signs : List SignAt → (List Mark → Type 0) → List Mark → Type 0
cut_signs [] K = K
cut_signs (s ∷ ss) K = tok (sign_at (prefix_sign s.sign) s.place) (cut_signs ss K)

abbrev pub cut_other_params : List Param → (List Mark → Type 0) → List Mark → Type 0
cut_other_params [] K = K
cut_other_params (x ∷ xs) K = tok (sign Sign.Comma) (tok (name_at x.name x.place) (cut_other_params xs K))

abbrev pub cut_params : List Param → (List Mark → Type 0) → List Mark → Type 0
cut_params [] K = K
cut_params (x ∷ xs) K = tok (name_at x.name x.place) (cut_other_params xs K)

-- the tokens of a tree up to a cut, or all of them and then K
abbrev mutual
  pub cut : Exp → (List Mark → Type 0) → List Mark → Type 0
  cut (Exp.literal v p) K = tok (Mark.placed (lit_kind v) p) K
  cut (Exp.name x p) K = tok (name_at x p) K
  cut (Exp.func p xs b) K = tok (word_at Word.Function p)
      (tok (sign Sign.OpenRound) (cut_params xs (tok (sign Sign.CloseRound)
      (tok (sign Sign.OpenCurly) (cut_stms b (tok (sign Sign.CloseCurly) K))))))
  cut (Exp.parens e) K = tok (sign Sign.OpenRound) (cut e (tok (sign Sign.CloseRound) K))
  cut (Exp.parts Form.list p es) K = tok (sign_at Sign.OpenSquare p) (cut_exps es (tok (sign Sign.CloseSquare) K))
  cut (Exp.parts Form.dict p es) K = tok (sign_at Sign.OpenCurly p) (cut_pairs es (tok (sign Sign.CloseCurly) K))
  cut (Exp.parts Form.spawn p es) K = tok (word_at Word.Spawn p) (tok (sign Sign.OpenRound) (cut_exps es (tok (sign Sign.CloseRound) K)))
  cut (Exp.parts Form.spawn_exec p es) K = tok (word_at Word.SpawnExec p) (tok (sign Sign.OpenRound) (cut_exps es (tok (sign Sign.CloseRound) K)))
  cut (Exp.parts Form.exec p es) K = tok (word_at Word.Exec p) (tok (sign Sign.OpenRound) (cut_exps es (tok (sign Sign.CloseRound) K)))
  cut (Exp.parts Form.ref p es) K = tok (word_at Word.Ref p) (tok (sign Sign.OpenRound) (cut_exps es (tok (sign Sign.CloseRound) K)))
  cut (Exp.parts Form.len p es) K = tok (word_at Word.Len p) (tok (sign Sign.OpenRound) (cut_exps es (tok (sign Sign.CloseRound) K)))
  cut (Exp.parts Form.keys p es) K = tok (word_at Word.Keys p) (tok (sign Sign.OpenRound) (cut_exps es (tok (sign Sign.CloseRound) K)))
  cut (Exp.parts Form.has p es) K = tok (word_at Word.Has p) (tok (sign Sign.OpenRound) (cut_exps es (tok (sign Sign.CloseRound) K)))
  cut (Exp.parts Form.range p es) K = tok (word_at Word.Range p) (tok (sign Sign.OpenRound) (cut_exps es (tok (sign Sign.CloseRound) K)))
  cut (Exp.chain e ls) K = cut e (cut_links ls K)
  cut (Exp.logic j e ls) K = cut e (cut_ands j ls K)
  cut (Exp.prefix ss e) K = cut_signs ss (cut e K)
  cut (Exp.postfix e ss) K = cut e (cut_steps ss K)

  pub cut_exps : Exps → (List Mark → Type 0) → List Mark → Type 0
  cut_exps Exps.no_exps K = K
  cut_exps (Exps.exp e es) K = cut e (cut_others es K)

  pub cut_others : Exps → (List Mark → Type 0) → List Mark → Type 0
  cut_others Exps.no_exps K = K
  cut_others (Exps.exp e es) K = tok (sign Sign.Comma) (cut e (cut_others es K))

  pub cut_pairs : Exps → (List Mark → Type 0) → List Mark → Type 0
  cut_pairs Exps.no_exps K = K
  cut_pairs (Exps.exp k es) K = cut k (cut_value es K)

  pub cut_value : Exps → (List Mark → Type 0) → List Mark → Type 0
  cut_value Exps.no_exps K = K
  cut_value (Exps.exp v es) K = tok (sign Sign.Colon) (cut v (cut_other_pairs es K))

  pub cut_other_pairs : Exps → (List Mark → Type 0) → List Mark → Type 0
  cut_other_pairs Exps.no_exps K = K
  cut_other_pairs (Exps.exp k es) K = tok (sign Sign.Comma) (cut k (cut_value es K))

  pub cut_links : Links → (List Mark → Type 0) → List Mark → Type 0
  cut_links Links.no_links K = K
  cut_links (Links.link o p e ls) K = tok (sign_at (oper_sign o) p) (cut e (cut_links ls K))

  pub cut_ands : Junction → Ands → (List Mark → Type 0) → List Mark → Type 0
  cut_ands j Ands.no_ands K = K
  cut_ands j (Ands.and p e ls) K = tok (sign_at (junction_sign j) p) (cut e (cut_ands j ls K))

  pub cut_steps : Steps → (List Mark → Type 0) → List Mark → Type 0
  cut_steps Steps.no_steps K = K
  cut_steps (Steps.index e p ss) K = tok (sign_at Sign.OpenSquare p) (cut e (tok (sign Sign.CloseSquare) (cut_steps ss K)))
  cut_steps (Steps.call es p ss) K = tok (sign_at Sign.OpenRound p) (cut_exps es (tok (sign Sign.CloseRound) (cut_steps ss K)))

  pub cut_stm : Stm → (List Mark → Type 0) → List Mark → Type 0
  cut_stm (Stm.set x p e) K = tok (name_at x p) (tok (sign Sign.Assign) (cut e (tok (sign Sign.Semicolon) K)))
  cut_stm (Stm.add x q p e) K = tok (name_at x q) (tok (sign_at Sign.AddAssign p) (cut e (tok (sign Sign.Semicolon) K)))
  cut_stm (Stm.put x q p i e) K = tok (name_at x q)
      (tok (sign_at Sign.OpenSquare p) (cut i (tok (sign Sign.CloseSquare) (tok (sign Sign.Assign) (cut e (tok (sign Sign.Semicolon) K))))))
  cut_stm (Stm.return p e) K = tok (word_at Word.Return p) (cut e (tok (sign Sign.Semicolon) K))
  cut_stm (Stm.leave p) K = tok (word_at Word.Return p) (tok (sign Sign.Semicolon) K)
  cut_stm (Stm.cases p arms els) K = begun p (cut_arms arms (cut_else els K))
  cut_stm (Stm.while p e b) K = tok (word_at Word.While p)
      (tok (sign Sign.OpenRound) (cut e (tok (sign Sign.CloseRound) (tok (sign Sign.OpenCurly) (cut_stms b (tok (sign Sign.CloseCurly) K))))))
  cut_stm (Stm.repeat p b e) K = tok (word_at Word.Do p)
      (tok (sign Sign.OpenCurly) (cut_stms b (tok (sign Sign.CloseCurly)
      (tok (word Word.While) (tok (sign Sign.OpenRound) (cut e (tok (sign Sign.CloseRound) (tok (sign Sign.Semicolon) K))))))))
  cut_stm (Stm.for p x e b) K = tok (word_at Word.For p)
      (tok (sign Sign.OpenRound) (tok (Mark.plain (TokenKind.Name x))
      (tok (word Word.In) (cut e (tok (sign Sign.CloseRound) (tok (sign Sign.OpenCurly) (cut_stms b (tok (sign Sign.CloseCurly) K))))))))
  cut_stm (Stm.just p e) K = begun p (cut e (tok (sign Sign.Semicolon) K))

  pub cut_stms : Stms → (List Mark → Type 0) → List Mark → Type 0
  cut_stms Stms.no_stms K = K
  cut_stms (Stms.stm s ss) K = cut_stm s (cut_stms ss K)

  pub cut_arms : Arms → (List Mark → Type 0) → List Mark → Type 0
  cut_arms Arms.no_arms K = K
  cut_arms (Arms.arm p e b arms) K = tok (word_at Word.If p)
      (tok (sign Sign.OpenRound) (cut e (tok (sign Sign.CloseRound)
      (tok (sign Sign.OpenCurly) (cut_stms b (tok (sign Sign.CloseCurly) (cut_other_arms arms K)))))))

  pub cut_other_arms : Arms → (List Mark → Type 0) → List Mark → Type 0
  cut_other_arms Arms.no_arms K = K
  cut_other_arms (Arms.arm p e b arms) K = tok (word Word.Else)
      (tok (word_at Word.If p) (tok (sign Sign.OpenRound)
      (cut e (tok (sign Sign.CloseRound) (tok (sign Sign.OpenCurly) (cut_stms b (tok (sign Sign.CloseCurly) (cut_other_arms arms K))))))))

  pub cut_else : Else → (List Mark → Type 0) → List Mark → Type 0
  cut_else Else.no_else K = K
  cut_else (Else.otherwise b) K = tok (word Word.Else) (tok (sign Sign.OpenCurly) (cut_stms b (tok (sign Sign.CloseCurly) K)))

abbrev pub cut_block : Stms → (List Mark → Type 0) → List Mark → Type 0
cut_block b K = tok (sign Sign.OpenCurly) (cut_stms b (tok (sign Sign.CloseCurly) K))

abbrev pub cut_fun : Fun → (List Mark → Type 0) → List Mark → Type 0
cut_fun f K = tok (word Word.Function) (tok (name_at f.name f.place)
    (tok (sign Sign.OpenRound) (cut_params f.params (tok (sign Sign.CloseRound) (cut_block f.body K)))))

abbrev pub cut_top : Top → (List Mark → Type 0) → List Mark → Type 0
cut_top (Top.fun f) K = cut_fun f K
cut_top (Top.stmt s) K = cut_stm s K

abbrev pub cut_tops : List Top → (List Mark → Type 0) → List Mark → Type 0
cut_tops [] K = K
cut_tops (t ∷ ts) K = cut_top t (cut_tops ts K)

-- These tokens are those of the script up to a cut.
abbrev pub IsPartial : List Top → List Mark → Type 0
IsPartial tops ms = cut_tops tops (λ rest. rest ≡ []) ms

-- A tree or a partial tree spells the tokens.
abbrev pub PartlySpelled : List Token → Type 0
PartlySpelled ts = (tops : List Top) × (ms : List Mark) × AreTops tops × IsPartial tops ms × Follows ms ts
