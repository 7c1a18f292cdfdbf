-- The order is sound for its shop.
use Rattle.std.proofs.Common.{◌≡◌, ℕ, List, Some, inl, inr, refl, sym, subst}
use Rattle.std.specs.List.{IsDistinct}
use Rattle.sha1.specs.Sha1.{sha1}
use Rattle.sky_base.specs.Kept.{Kept}
use Rattle.sky_base.specs.Name.{digested, held_name}
use Rattle.sky_base.specs.Names.{known_of}
use Rattle.sky_base.specs.ObjectView.{desc_view}
use Rattle.sky_base.specs.Tree.{Script}
use Rattle.sky_base.specs.Val.{refs, same_text}
use Rattle.sky_base.specs.View.{view}
use Rattle.sky_base.specs.declared.object.Desc1.{Desc1}
use Rattle.sky_base.specs.declared.object.TaskId.{TaskId}
use Rattle.sky_base.specs.declared.value.Value.{Value}
use Rattle.sky_base_law.specs.Tasks.{Each, In}
use Rattle.ciel_name.specs.Names.{first_output}
use Rattle.ciel_task_order.specs.Orders.{Describes, ShowsMain}
use Rattle.ciel_task_order.specs.declared.order.Order.{Order}
use Rattle.ciel_task_exec_tests.specs.Rows.{three}

three_apart : IsDistinct same_text three
unfolding IsDistinct
three_apart = ((refl, (refl, tt)), ((refl, tt), (tt, tt)))

all_there : Each (λ d. In (held_name d) three) (known_of three)
all_there = (inl refl, (inr (inl refl), (inr (inr (inl refl)), tt)))

-- each reference of the arguments is brought along
pub refs_there : (given : List (List ℕ)) (args : Value) → refs (view args) ≡ known_of three → given ≡ three
    → Each (λ d. In (held_name d) given) (refs (view args))
refs_there given args are names =
    subst (λ ns. Each (λ d. In (held_name d) ns) (refs (view args))) (sym names) (subst (Each (λ d. In (held_name d) three)) (sym are) all_there)

-- the executor's task goes by its description
pub describes : (sc : Script) (given : List (List ℕ)) (x : List ℕ) (args : Value) (task : TaskId) → task
    ≡ TaskId.Of (digested (λ bytes. sha1 bytes) (first_output (desc_view (Desc1.Exec x args 1 0)))) → refs (view args) ≡ known_of three
    → Kept (view args) → given ≡ three → Describes (λ bytes. sha1 bytes) sc given task (Some (Desc1.Exec x args 1 0))
describes sc given x args task is are kept names =
    subst (λ tk. Describes (λ bytes. sha1 bytes) sc given tk (Some (Desc1.Exec x args 1 0))) (sym is)
    (refl, (refl, kept, refs_there given args are names))

-- the name of that task
abbrev pub name_of : List ℕ → Value → List ℕ
name_of x args = digested (λ bytes. sha1 bytes) (first_output (desc_view (Desc1.Exec x args 1 0)))

-- it isn't the root task
pub no_main : (order : Order) (task : TaskId) (n : List ℕ) → task ≡ TaskId.Of n → ShowsMain order task
no_main order task n is = subst (ShowsMain order) (sym is) tt

pub names_apart : (ns : List (List ℕ)) → ns ≡ three → IsDistinct same_text ns
names_apart ns names = subst (IsDistinct same_text) (sym names) three_apart
