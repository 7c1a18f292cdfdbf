-- What an expression of the code is seen as when it is begun, and what is left of its parts.
use Rattle.std.specs.Prelude.{Bool, true, false}
use Rattle.sky_base.specs.Tree.{Oper, Junction, Form, Exp, Exps, Links}
use Rattle.sky_base.specs.TreeView.{at, arith_view, order_view, lit_view, signs_view, one, two, three, exps_view, links_view, ands_view, steps_view}
use Rattle.sky_machine_code.specs.declared.shape.PartForm.{PartForm}
use Rattle.sky_machine_code.specs.declared.shape.Op.{Op}
use Rattle.sky_machine_code.specs.declared.shape.Rest.{Rest}
use Rattle.sky_machine_code.specs.declared.shape.Operands.{Operands}
use Rattle.sky_machine_code.specs.declared.shape.Shape.{Shape}

abbrev pub form_view : PartForm → Form
form_view PartForm.List = Form.list
form_view PartForm.Dict = Form.dict
form_view PartForm.Spawn = Form.spawn
form_view PartForm.SpawnExec = Form.spawn_exec
form_view PartForm.Exec = Form.exec
form_view PartForm.Ref = Form.ref
form_view PartForm.Len = Form.len
form_view PartForm.Keys = Form.keys
form_view PartForm.Has = Form.has
form_view PartForm.Range = Form.range

abbrev pub op_view : Op → Oper
op_view (Op.Arith o) = arith_view o
op_view (Op.Compare o) = Oper.compare (order_view o)

-- the parts that are left
abbrev pub rest_view : Rest → Exps
rest_view Rest.Nothing = Exps.no_exps
rest_view (Rest.One a) = one a.now
rest_view (Rest.Two a b) = two a.now b.now
rest_view (Rest.Three a b c) = three a.now b.now c.now
rest_view (Rest.Many es) = exps_view es.now

-- the operators that are left
abbrev pub operands_view : Operands → Links
operands_view Operands.Nothing = Links.no_links
operands_view (Operands.One o l c e) = Links.link (Oper.compare (order_view o)) (at l c) e.now Links.no_links
operands_view (Operands.Many ks) = links_view ks.now

-- `&&` stops at false, and `||` at true
abbrev pub stops_at : Bool → Junction
stops_at false = Junction.both
stops_at true = Junction.either

abbrev pub shape_view : Shape → Exp
shape_view (Shape.Literal v l c) = Exp.literal (lit_view v.now) (at l c)
shape_view (Shape.Name x l c) = Exp.name x.now (at l c)
shape_view (Shape.Function x l c) = Exp.func x.now (at l c)
shape_view (Shape.Parens e) = Exp.parens e.now
shape_view (Shape.Parts o l c es) = Exp.parts (form_view o) (at l c) (rest_view es)
shape_view (Shape.Chain e ls) = Exp.chain e.now (operands_view ls)
shape_view (Shape.Logic b e ls) = Exp.logic (stops_at b) e.now (ands_view ls.now)
shape_view (Shape.Prefix ss e) = Exp.prefix (signs_view ss.now) e.now
shape_view (Shape.Postfix e ss) = Exp.postfix e.now (steps_view ss.now)
