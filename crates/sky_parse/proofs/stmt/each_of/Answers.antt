use Rattle.std.proofs.Common.{ℕ, List, ◌∷◌, sym, ap, subst, ◌∙◌}
use Rattle.sky_text.specs.declared.token.TokenKind.{TokenKind}
use Rattle.sky_parse_grammar.specs.Grammar.{Mark, Spelled}
use Rattle.sky_parse_held.specs.Held.{seen_name}
use Rattle.sky_parse.proofs.StmLaw.{read_each}
use Rattle.sky_parse.proofs.stmt.each_of.Goals as goal

pub returns-clause-tree : goal.returns-clause-tree
returns-clause-tree g c =
    let same = sym c.in-Ok.ensures.0 in
    read_each c.in-Ok.name c.in_ok-rest.ensures.spelled
    (subst (λ (x : List ℕ). Spelled (λ more. Mark.plain (TokenKind.Name x) ∷ more) c.in_ok-rest.rest.now c.in_ok-name.rest.now) same
    c.in_ok-name.ensures.plain)
    (c.in-Ok.ensures.1 ∙ ap (λ (x : List ℕ). seen_name x c.args.made.now) same) c.in_ok-rest-2.ensures.spelled c.in_ok-list.ensures.tree
    c.in_ok-rest-3.ensures.spelled
