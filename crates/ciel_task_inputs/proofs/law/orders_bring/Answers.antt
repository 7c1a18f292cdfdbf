use Rattle.ciel_task_inputs.proofs.BroughtInputs.{named_given, order_brings}
use Rattle.ciel_task_inputs.proofs.law.orders_bring.Goals as goal

pub returns-clause-bring : goal.returns-clause-bring
returns-clause-bring c digest job gives keyed o order is = order_brings digest job gives keyed o order is

pub returns-clause-given : goal.returns-clause-given
returns-clause-given c digest job gives keyed o order is d a i = named_given digest job gives keyed o order is d a i
