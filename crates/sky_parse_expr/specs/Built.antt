-- The trees that the parser makes of an operand and what stands beside it, and of a form and its parts.
use Rattle.std.specs.Prelude.{List, [], ◌∷◌}
use Rattle.sky_base.specs.Op.{Order}
use Rattle.sky_base.specs.Tree.{Place, Oper, Junction, SignAt, Form, Exp, Exps, Links, Ands, Steps, nowhere}
use Rattle.sky_parse_grammar.specs.declared.parts.Head.{Head}
use Rattle.sky_parse_grammar.specs.declared.parts.StepHead.{StepHead}

abbrev pub chained : Exp → Links → Exp
chained e Links.no_links = e
chained e (Links.link o p f ls) = Exp.chain e (Links.link o p f ls)

abbrev pub compared : Exp → Order → Place → Exp → Exp
compared e o p f = Exp.chain e (Links.link (Oper.compare o) p f Links.no_links)

abbrev pub joined : Junction → Exp → Ands → Exp
joined j e Ands.no_ands = e
joined j e (Ands.and p f ls) = Exp.logic j e (Ands.and p f ls)

abbrev pub prefixed : List SignAt → Exp → Exp
prefixed [] e = e
prefixed (s ∷ ss) e = Exp.prefix (s ∷ ss) e

abbrev pub stepped : Exp → Steps → Exp
stepped e Steps.no_steps = e
stepped e (Steps.index i p ss) = Exp.postfix e (Steps.index i p ss)
stepped e (Steps.call es p ss) = Exp.postfix e (Steps.call es p ss)

-- the first of some parts
abbrev pub first_part : Exps → Exp
first_part Exps.no_exps = Exp.name [] nowhere
first_part (Exps.exp e es) = e

abbrev pub formed : Head → Place → Exps → Exp
formed Head.Parens p es = Exp.parens (first_part es)
formed Head.List p es = Exp.parts Form.list p es
formed Head.Dict p es = Exp.parts Form.dict p es
formed Head.Spawn p es = Exp.parts Form.spawn p es
formed Head.SpawnExec p es = Exp.parts Form.spawn_exec p es
formed Head.Exec p es = Exp.parts Form.exec p es
formed Head.Ref p es = Exp.parts Form.ref p es
formed Head.Len p es = Exp.parts Form.len p es
formed Head.Keys p es = Exp.parts Form.keys p es
formed Head.Has p es = Exp.parts Form.has p es
formed Head.Range p es = Exp.parts Form.range p es

abbrev pub step_formed : StepHead → Place → Exps → Steps → Steps
step_formed StepHead.Index p es rest = Steps.index (first_part es) p rest
step_formed StepHead.Call p es rest = Steps.call es p rest
