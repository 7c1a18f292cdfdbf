-- Where the places of a job's script have a property that no place has too, so has the place of each fault that the job sees or means.
use Rattle.std.proofs.Common.{◌≡◌, ℕ, zero, suc, Bool, true, false, List, [], ◌∷◌, Option, Some, None, Result, Ok, Err, subst, nat_lt}
use Rattle.std.specs.Str.{is_utf8}
use Rattle.sky_base.specs.Val.{null, truth, num, text, list, dict, fun, ref, call, out, input, known, refs, depth, size, most_depth, most_size}
use Rattle.sky_base.specs.Op.{Answer}
use Rattle.sky_base.specs.Tree.{Place, nowhere}
use Rattle.sky_base.specs.Res.{bodies, Object, End, Res, Fin, Tell, Ask}
use Rattle.sky_base.specs.Eval.{World}
use Rattle.sky_base.specs.Read.{Outcome, ended, no_fuel, outcome, joined, on_seen, refs_of, see_all}
use Rattle.sky_base.specs.See.{Val, Desc, Obj, Job, Around, Gathered, gather, gather_on, gather_one, written, as_bytes, output_at, run_output, executed_on}
use Rattle.sky_base.specs.See.{object_of, world_of, start_st, run_of, see, Answered, text_if, read_or_text, as_value, main_call, most_waves, Turn, text_of}
use Rattle.sky_base.specs.See.{next_if, next_value, replaced, val_of, lone, last_turn, turn_all, turn_refs, turn, on_turn, round, job_answer, Means}
use Rattle.sky_base.specs.declared.fault.Fault.{Fault}
use Rattle.sky_base_law.specs.Tasks.{Each}
use Rattle.sky_parse_places.specs.Placed.{Placed}
use Rattle.sky_parse_places.proofs.Runs as runs
use Rattle.sky_parse_places.proofs.Runs.{call_placed}

module _ (job : Job) (around : Around) (P : Place → Type 0) (none : P nowhere) (placed : Placed P job.script) where
  abbrev w : World ⊥
  w = world_of job.script around

  abbrev FaultPlaced : Fault → Type 0
  FaultPlaced f = runs.FaultPlaced w P f

  abbrev ObjectPlaced : Obj → Type 0
  ObjectPlaced o = runs.ObjectPlaced w P o

  abbrev SeenPlaced : Option Obj → Type 0
  SeenPlaced None = Unit {0}
  SeenPlaced (Some o) = ObjectPlaced o

  -- ---- calls

  abbrev AllPlaced : Option (List Obj) → Type 0
  AllPlaced None = Unit {0}
  AllPlaced (Some os) = Each ObjectPlaced os

  joined_placed : (x : Option Obj) (xs : Option (List Obj)) → SeenPlaced x → AllPlaced xs → AllPlaced (joined x xs)
  joined_placed None xs h i = tt
  joined_placed (Some o) None h i = tt
  joined_placed (Some o) (Some os) h i = (h, i)

  abbrev OutcomePlaced : Outcome ⊥ → Type 0
  OutcomePlaced (ended e st) = runs.EndPlaced w P e
  OutcomePlaced no_fuel = Unit {0}

  module _ (look : Desc → Option Obj) (looks : (d : Desc) → SeenPlaced (look d)) where
    all_placed : (ds : List Desc) → AllPlaced (see_all look ds)
    all_placed [] = tt
    all_placed (d ∷ ds) = joined_placed (look d) (see_all look ds) (looks d) (all_placed ds)

    on_placed : (x : Option (List Obj)) (k : List Obj → Outcome ⊥) → AllPlaced x → ((os : List Obj) → Each ObjectPlaced os → OutcomePlaced (k os))
        → OutcomePlaced (on_seen x k)
    on_placed None k h g = tt
    on_placed (Some os) k h g = g os h

    outcome_placed : (r : Res ⊥) → runs.RunPlaced w P r → OutcomePlaced (outcome look r)
    outcome_placed (Fin e st) h = runs.end_placed w P e st h
    outcome_placed (Tell d r) h = outcome_placed r (runs.told_placed w P d r h)
    outcome_placed (Ask q fr st k) h =
        on_placed (see_all look (refs_of q)) (λ os. outcome look (k os)) (all_placed (refs_of q))
        (λ os o. outcome_placed (k os) (runs.asked_placed w P q fr st k h os o))

  object_placed : (o : Outcome ⊥) → OutcomePlaced o → SeenPlaced (object_of o)
  object_placed (ended End.goes st) h = tt
  object_placed (ended (End.got v) st) h = tt
  object_placed (ended (End.returned v) st) h = tt
  object_placed (ended (End.failed f) st) h = h
  object_placed no_fuel h = tt

  -- ---- what is gathered

  abbrev TurnedPlaced : {A : Type 0} → Result A Fault → Type 0
  TurnedPlaced (Ok a) = Unit {0}
  TurnedPlaced (Err f) = FaultPlaced f

  abbrev GatheredPlaced : {A : Type 0} → Gathered A → Type 0
  GatheredPlaced Gathered.not_yet = Unit {0}
  GatheredPlaced (Gathered.faulty f) = FaultPlaced f
  GatheredPlaced (Gathered.all as_) = Unit {0}

  module _ {A : Type 0} where
    gathered_on : (r : Result A Fault) (g : Gathered A) → TurnedPlaced r → GatheredPlaced g → GatheredPlaced (gather_on r g)
    gathered_on r Gathered.not_yet h i = tt
    gathered_on (Ok a) (Gathered.faulty f) h i = i
    gathered_on (Ok a) (Gathered.all rest) h i = tt
    gathered_on (Err f) (Gathered.faulty g) h i = h
    gathered_on (Err f) (Gathered.all rest) h i = h

    module _ (look : Desc → Option Obj) (looks : (d : Desc) → SeenPlaced (look d)) (turned : Obj → Result A Fault)
        (turns : (o : Obj) → ObjectPlaced o → TurnedPlaced (turned o)) where
      gathered_one : (x : Option Obj) (g : Gathered A) → SeenPlaced x → GatheredPlaced g → GatheredPlaced (gather_one x turned g)
      gathered_one None g h i = tt
      gathered_one (Some o) g h i = gathered_on (turned o) g (turns o h) i

      gathered : (ds : List Desc) → GatheredPlaced (gather look turned ds)
      gathered [] = tt
      gathered (d ∷ ds) = gathered_one (look d) (gather look turned ds) (looks d) (gathered ds)

  written_placed : (o : Option (List ℕ)) → TurnedPlaced (written o)
  written_placed None = none
  written_placed (Some t) = tt

  bytes_placed : (o : Obj) → ObjectPlaced o → TurnedPlaced (as_bytes around o)
  bytes_placed (Object.bytes b) h = tt
  bytes_placed (Object.data_of v) h = written_placed (around.writes v)
  bytes_placed (Object.fault f) h = h

  text_placed : (b : Bool) (bs : List ℕ) → TurnedPlaced (text_if b bs)
  text_placed true bs = tt
  text_placed false bs = none

  read_placed : (o : Answer ⊥) (bs : List ℕ) → TurnedPlaced (read_or_text o bs)
  read_placed (Ok v) bs = tt
  read_placed (Err k) bs = text_placed (is_utf8 bs) bs

  value_placed : (o : Obj) → ObjectPlaced o → TurnedPlaced (as_value around o)
  value_placed (Object.bytes b) h = read_placed (around.reads b) b
  value_placed (Object.data_of v) h = tt
  value_placed (Object.fault f) h = h

  -- ---- executors

  output_placed : (bs : List (List ℕ)) (i : ℕ) → ObjectPlaced (output_at bs i)
  output_placed [] i = tt
  output_placed (b ∷ bs) zero = tt
  output_placed (b ∷ bs) (suc i) = output_placed bs i

  run_placed : (r : Result (List (List ℕ)) _) (i : ℕ) → ObjectPlaced (run_output r i)
  run_placed (Ok bs) i = output_placed bs i
  run_placed (Err k) i = none

  executed_placed : (x : List ℕ) (v : Val) (m i : ℕ) (g : Gathered (List ℕ)) → GatheredPlaced g → SeenPlaced (executed_on around x v m i g)
  executed_placed x v m i Gathered.not_yet h = tt
  executed_placed x v m i (Gathered.faulty f) h = h
  executed_placed x v m i (Gathered.all bs) h = run_placed (around.runs x _ bs m) i

  -- ---- what is seen

  pub see_placed : (n : ℕ) (d : Desc) → SeenPlaced (see job around n d)
  unfolding see
  see_placed zero d = tt
  see_placed (suc n) (call f c vs) =
      object_placed (outcome (λ d. see job around n d) (run_of job around f c vs))
      (outcome_placed (λ d. see job around n d) (λ d. see_placed n d) (run_of job around f c vs)
      (call_placed w P none placed bodies f c vs nowhere none start_st))
  see_placed (suc n) (out x v m i) =
      executed_placed x v m i (gather (λ d. see job around n d) (as_bytes around) (refs v))
      (gathered (λ d. see job around n d) (λ d. see_placed n d) (as_bytes around) bytes_placed (refs v))
  see_placed (suc n) (input k) = tt
  see_placed (suc n) (known b) = absurd b

  pub seen_placed : (n : ℕ) (d : Desc) (f : Fault) → see job around n d ≡ Some (Object.fault f) → FaultPlaced f
  seen_placed n d f e = subst SeenPlaced e (see_placed n d)

  -- ---- what is meant

  abbrev AnswerPlaced : Answered → Type 0
  AnswerPlaced Answered.not_yet = Unit {0}
  AnswerPlaced (Answered.bytes b) = Unit {0}
  AnswerPlaced (Answered.fault f) = FaultPlaced f

  abbrev TurnPlaced : Turn → Type 0
  TurnPlaced (Turn.ends a) = AnswerPlaced a
  TurnPlaced (Turn.next v) = Unit {0}

  shown_placed : (o : Option (List ℕ)) → AnswerPlaced (text_of o)
  shown_placed None = none
  shown_placed (Some t) = tt

  within_placed : (a b : Bool) (v : Val) → TurnPlaced (next_if a b v)
  within_placed true b v = none
  within_placed false true v = none
  within_placed false false v = tt

  next_placed : (g : Gathered Val) (v : Val) → GatheredPlaced g → TurnPlaced (next_value g v)
  next_placed Gathered.not_yet v h = tt
  next_placed (Gathered.faulty f) v h = h
  next_placed (Gathered.all us) v h =
      let u : Val = replaced (λ k d. val_of us k) 0 v in within_placed (nat_lt most_depth (depth u)) (nat_lt most_size (size u)) u

  lone_placed : (o : Option Obj) (t : Turn) → TurnPlaced t → TurnPlaced (lone o t)
  lone_placed None t h = h
  lone_placed (Some (Object.bytes b)) t h = tt
  lone_placed (Some (Object.data_of v)) t h = h
  lone_placed (Some (Object.fault f)) t h = h

  module _ (n : ℕ) where
    all_turn : (v : Val) → TurnPlaced (turn_all job around n v)
    all_turn v =
        next_placed (gather (see job around n) (as_value around) (refs v)) v
        (gathered (see job around n) (λ d. see_placed n d) (as_value around) value_placed (refs v))

    refs_turn : (ds : List Desc) (v : Val) → TurnPlaced (turn_refs job around n ds v)
    refs_turn [] v = shown_placed (around.writes v)
    refs_turn (d ∷ ds) (ref e) = lone_placed (see job around n e) (turn_all job around n (ref e)) (all_turn (ref e))
    refs_turn (d ∷ ds) null = all_turn null
    refs_turn (d ∷ ds) (truth b) = all_turn (truth b)
    refs_turn (d ∷ ds) (num z) = all_turn (num z)
    refs_turn (d ∷ ds) (text t) = all_turn (text t)
    refs_turn (d ∷ ds) (list vs) = all_turn (list vs)
    refs_turn (d ∷ ds) (dict ps) = all_turn (dict ps)
    refs_turn (d ∷ ds) (fun f c) = all_turn (fun f c)

    on_turn_placed : (t : Turn) (go : Val → Answered) → TurnPlaced t → ((v : Val) → AnswerPlaced (go v)) → AnswerPlaced (on_turn job around n t go)
    on_turn_placed (Turn.ends a) go h g = h
    on_turn_placed (Turn.next v) go h g = g v

    last_placed : (ds : List Desc) (o : Option (List ℕ)) → AnswerPlaced (last_turn ds o)
    last_placed [] o = shown_placed o
    last_placed (d ∷ ds) o = none

    round_placed : (k : ℕ) (v : Val) → AnswerPlaced (round job around n k v)
    unfolding round
    round_placed zero v = last_placed (refs v) (around.writes v)
    round_placed (suc k) v =
        on_turn_placed (turn job around n v) (λ u. round job around n k u) (refs_turn (refs v) v) (λ u. round_placed k u)

  answer_placed : (n : ℕ) → AnswerPlaced (job_answer job around n)
  unfolding job_answer
  answer_placed n = round_placed n (suc most_waves) (ref main_call)

  pub meant_placed : (f : Fault) → Means job around (Answered.fault f) → FaultPlaced f
  meant_placed f (n, e, yet) = subst AnswerPlaced e (answer_placed n)
