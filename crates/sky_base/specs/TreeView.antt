-- What a tree of the code stands for.
use Rattle.std.specs.Prelude.{ℕ, List, [], ◌∷◌}
use Rattle.sky_base.specs.Op.{Order}
use Rattle.sky_base.specs.Tree.{Place, Oper, Junction, Form, Sign, Exp, Exps, Links, Ands, Steps, nodes, exps_nodes}
use Rattle.sky_base.specs.declared.tree.ArithOp.{ArithOp}
use Rattle.sky_base.specs.declared.tree.Cmp.{Cmp}
use Rattle.sky_base.specs.declared.tree.SignOp.{SignOp}
use Rattle.sky_base.specs.declared.tree.SignAt.{SignAt}
use Rattle.sky_base.specs.Tree as logic
use Rattle.sky_base.specs.declared.tree.Lit.{Lit}
use Rattle.sky_base.specs.declared.tree.Expr.{Expr}
use Rattle.sky_base.specs.declared.tree.Link.{Link}
use Rattle.sky_base.specs.declared.tree.Join.{Join}
use Rattle.sky_base.specs.declared.tree.Step.{Step}

abbrev pub at : ℕ → ℕ → Place
at l c = record { line = l; col = c }

abbrev pub arith_view : ArithOp → Oper
arith_view ArithOp.Plus = Oper.plus
arith_view ArithOp.Minus = Oper.minus
arith_view ArithOp.Times = Oper.times
arith_view ArithOp.Over = Oper.over
arith_view ArithOp.Rest = Oper.rest

abbrev pub order_view : Cmp → Order
order_view Cmp.Eq = Order.eq
order_view Cmp.Ne = Order.ne
order_view Cmp.Lt = Order.lt
order_view Cmp.Le = Order.le
order_view Cmp.Gt = Order.gt
order_view Cmp.Ge = Order.ge

abbrev pub sign_view : SignOp → Sign
sign_view SignOp.Not = Sign.not
sign_view SignOp.Minus = Sign.minus
sign_view SignOp.Star = Sign.star

abbrev pub signs_view : List SignAt → List logic.SignAt
signs_view [] = []
signs_view (s ∷ ss) = record { sign = sign_view s.sign; place = at s.line s.col } ∷ signs_view ss

abbrev pub lit_view : Lit → logic.Lit
lit_view Lit.Null = logic.null
lit_view (Lit.Bool b) = logic.truth b
lit_view (Lit.Int z) = logic.num z
lit_view (Lit.Text t) = logic.text t

abbrev pub one : Exp → Exps
one a = Exps.exp a Exps.no_exps

abbrev pub two : Exp → Exp → Exps
two a b = Exps.exp a (one b)

abbrev pub three : Exp → Exp → Exp → Exps
three a b c = Exps.exp a (two b c)

abbrev pub exp_view : Expr → Exp
exp_view (Expr.Literal v l c) = Exp.literal (lit_view v) (at l c)
exp_view (Expr.Name x l c) = Exp.name x (at l c)
exp_view (Expr.Function x l c) = Exp.func x (at l c)
exp_view (Expr.Parens e) = Exp.parens e
exp_view (Expr.List es l c) = Exp.parts Form.list (at l c) es
exp_view (Expr.Dict es l c) = Exp.parts Form.dict (at l c) es
exp_view (Expr.Chain e ls) = Exp.chain e ls
exp_view (Expr.Compare a o l c b) = Exp.chain a (Links.link (Oper.compare (order_view o)) (at l c) b Links.no_links)
exp_view (Expr.And e ls) = Exp.logic Junction.both e ls
exp_view (Expr.Or e ls) = Exp.logic Junction.either e ls
exp_view (Expr.Prefix ss e) = Exp.prefix (signs_view ss.items) e
exp_view (Expr.Postfix e ss) = Exp.postfix e ss
exp_view (Expr.Spawn f a l c) = Exp.parts Form.spawn (at l c) (two f a)
exp_view (Expr.SpawnExec x a n l c) = Exp.parts Form.spawn_exec (at l c) (three x a n)
exp_view (Expr.Exec x a n l c) = Exp.parts Form.exec (at l c) (three x a n)
exp_view (Expr.Ref k l c) = Exp.parts Form.ref (at l c) (one k)
exp_view (Expr.Len v l c) = Exp.parts Form.len (at l c) (one v)
exp_view (Expr.Keys v l c) = Exp.parts Form.keys (at l c) (one v)
exp_view (Expr.Has d k l c) = Exp.parts Form.has (at l c) (two d k)
exp_view (Expr.Range a b l c) = Exp.parts Form.range (at l c) (two a b)

abbrev pub exps_view : List Expr → Exps
exps_view [] = Exps.no_exps
exps_view (e ∷ es) = Exps.exp (exp_view e) (exps_view es)

abbrev pub links_view : List Link → Links
links_view [] = Links.no_links
links_view (k ∷ ks) = Links.link (arith_view k.op) (at k.line k.col) (exp_view k.operand) (links_view ks)

abbrev pub ands_view : List Join → Ands
ands_view [] = Ands.no_ands
ands_view (k ∷ ks) = Ands.and (at k.line k.col) (exp_view k.operand) (ands_view ks)

abbrev pub step_view : Step → Steps → Steps
step_view (Step.Index e l c) rest = Steps.index (exp_view e) (at l c) rest
step_view (Step.Call es l c) rest = Steps.call es (at l c) rest

abbrev pub step_nodes : Step → ℕ
step_nodes (Step.Index e l c) = nodes (exp_view e)
step_nodes (Step.Call es l c) = exps_nodes es

abbrev pub steps_view : List Step → Steps
steps_view [] = Steps.no_steps
steps_view (s ∷ ss) = step_view s (steps_view ss)
