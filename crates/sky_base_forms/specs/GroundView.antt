-- What the ground of a run stands for, and what a piece of script comes to on it where so many bodies may still be opened.
use Rattle.std.specs.Prelude.{ℕ, List}
use Rattle.sky_base.specs.Tree.{Place, Exp, Exps, Links, Ands, Steps, Junction, Stm, Stms, Arms, Else}
use Rattle.sky_base_known.specs.Data.{data_of}
use Rattle.sky_base_known.specs.Walk.{Row}
use Rattle.sky_base_scope.specs.Plain as plain
use Rattle.sky_base_scope.specs.Plain.{Val, Vals, Pairs, Vars, Out}
use Rattle.sky_base_forms.specs.declared.ground.Ground.{Ground}

abbrev pub ground_of : Ground → plain.Ground
ground_of g = record { script = g.script.now; reads = data_of; objects = g.objects.now }

abbrev pub body_on : Ground → ℕ → List ℕ → Pairs → Vals → Place → List Row → ℕ → Out
body_on g n = plain.body_at (ground_of g) n

abbrev pub exp_on : Ground → ℕ → Exp → List Row → Vars → Out
exp_on g n = plain.exp (ground_of g) (body_on g n)

abbrev pub values_on : Ground → ℕ → Exps → Vals → List Row → Vars → Out
values_on g n = plain.values (ground_of g) (body_on g n)

abbrev pub links_on : Ground → ℕ → Links → Val → List Row → Vars → Out
links_on g n = plain.links (ground_of g) (body_on g n)

abbrev pub ands_on : Ground → ℕ → Ands → Junction → Place → Val → List Row → Vars → Out
ands_on g n = plain.ands (ground_of g) (body_on g n)

abbrev pub steps_on : Ground → ℕ → Steps → Val → List Row → Vars → Out
steps_on g n = plain.steps (ground_of g) (body_on g n)

abbrev pub opened_on : Ground → ℕ → Val → Vals → Place → List Row → Vars → Out
opened_on g n = plain.opened (ground_of g) (body_on g n)

abbrev pub stm_on : Ground → ℕ → Stm → List Row → Vars → Out
stm_on g n = plain.stm (ground_of g) (body_on g n)

abbrev pub stms_on : Ground → ℕ → Stms → List Row → Vars → Out
stms_on g n = plain.stms (ground_of g) (body_on g n)

-- the arms, and then what follows them
abbrev pub arms_on : Ground → ℕ → Arms → (List Row → Vars → Out) → List Row → Vars → Out
arms_on g n = plain.arms (ground_of g) (body_on g n)

abbrev pub other_on : Ground → ℕ → Else → List Row → Vars → Out
other_on g n = plain.other (ground_of g) (body_on g n)
