-- What is seen of a crew over lanes after a step.
use Rattle.std.proofs.Common.{◌≡◌, ◌≢◌, ℕ, zero, suc, ◌+◌, ◌<◌, ◌≤◌, List, [], ◌∷◌, ◌++◌, length, set, map, get_or, sym, refl, ap, ◌∙◌, subst, arith}
use Rattle.std.proofs.Common.{inl, inr, Option, Some, None, true, false, length-set}
use Rattle.std.specs.Prelude.{IsSome, IfSome, IfOk, is_some, not}
use Rattle.std.proofs.lemmas.List.{map-set, get_or-map, length-map, get_or-set_same, get_or-set_other, set-get_or}
use Rattle.std.specs.Arc.{arc_value}
use native.Mathlib.Decide.{ℕ_discrete}
use Rattle.ciel_crew_lanes.specs.Seen.{LaneSeen, lane_at, Closes}
use Rattle.sky_base.specs.JobView.{job_view}
use Rattle.sky_base.specs.KitView.{Gives}
use Rattle.sky_base.specs.declared.object.TaskId.{TaskId}
use Rattle.ciel_task.specs.Onward.{IsRead}
use Rattle.ciel_gate.specs.Entered.{IsEntered}
use Rattle.ciel_task_order.specs.Shop.{InputsInOrder}
use Rattle.ciel_task_order.specs.declared.order.Order.{Order}
use Rattle.ciel_task_order.specs.declared.report.Report.{Report}
use Rattle.ciel_task_order.specs.declared.shop.Shop.{Shop}
use Rattle.ciel_task.specs.Crews.{Answers, Fades, FadesEach, Reports, Takes, TellsTask, extended, order_at}
use Rattle.ciel_task.proofs.ToldTasks.{fades_one}
use Rattle.ciel_crew_work.specs.Crewed.{CanBeDone, IsDoneOf, Keeps, KeepsAt, Stands, gathered, lane_told, lanes_told, order_in, orders_of}
use Rattle.ciel_crew_work.specs.declared.performing.Done.{Done}
use Rattle.ciel_crew_work.specs.declared.performing.Job.{Job}
use Rattle.ciel_crew_work.specs.declared.performing.Tools.{Tools}

any_default : {A : Type 0} (l : List A) (i : ℕ) (a b : A) → i < length l → get_or l i a ≡ get_or l i b
any_default [] i a b lt = absurd (omega arith)
any_default (x ∷ xs) zero a b lt = refl
any_default (x ∷ xs) (suc i) a b lt = any_default xs i a b (omega arith)

pub gate_there : {G : Type 0} (gs : List (Option (Tools G))) (w : ℕ) (gate : Tools G) (found : Option (Tools G)) → w < length gs → Some gate
    ≡ found → found ≡ get_or gs w found → get_or gs w None ≡ Some gate
gate_there gs w gate found lt e f = any_default gs w None found lt ∙ (sym f ∙ sym e)

module _ {K N G R : Type 0} where
  abbrev fresh : LaneSeen (Job K N G R)
  fresh = record { put = []; out = None }

  pub length-told : (entered : G → Option (List TaskId)) (ls : List (LaneSeen (Job K N G R))) (gs : List (Option (Tools G)))
      → length (lanes_told entered ls gs) ≡ length ls
  length-told entered [] gs = refl
  length-told entered (l ∷ ls) [] = ap suc (length-told entered ls [])
  length-told entered (l ∷ ls) (g ∷ gs) = ap suc (length-told entered ls gs)

  pub told-at : (entered : G → Option (List TaskId)) (ls : List (LaneSeen (Job K N G R))) (gs : List (Option (Tools G))) (k : ℕ) → k < length ls
      → get_or (lanes_told entered ls gs) k None ≡ lane_told entered (lane_at ls k).out (get_or gs k None)
  told-at entered [] gs k lt = absurd (omega arith)
  told-at entered (l ∷ ls) [] zero lt = refl
  told-at entered (l ∷ ls) [] (suc k) lt = told-at entered ls [] k (omega arith)
  told-at entered (l ∷ ls) (g ∷ gs) zero lt = refl
  told-at entered (l ∷ ls) (g ∷ gs) (suc k) lt = told-at entered ls gs k (omega arith)

  at_index : (entered : G → Option (List TaskId)) (ls : List (LaneSeen (Job K N G R))) (gs : List (Option (Tools G))) (w : ℕ)
      (l : LaneSeen (Job K N G R)) (g : Option (Tools G)) → w < length ls → length gs ≡ length ls
      → (there : Option (List TaskId)) → Fades there (lane_told entered l.out g)
      → (k : ℕ) → k < length ls → Dec (k ≡ w) → Fades (get_or (set (lanes_told entered ls gs) w there) k None)
      (get_or (lanes_told entered (set ls w l) (set gs w g)) k None)
  at_index entered ls gs w l g lt same there f k klt (yes e) =
      let long : k < length (set ls w l) = omega (arith, length-set ls w l) in
      let shorter : w < length (lanes_told entered ls gs) = omega (arith, length-told entered ls gs) in
      let now = told-at entered (set ls w l) (set gs w g) k long in
      let at_l : lane_at (set ls w l) k ≡ l = subst (λ (j : ℕ). lane_at (set ls w l) j ≡ l) (sym e) (get_or-set_same ls w l fresh lt) in
      let at_g : get_or (set gs w g) k None ≡ g =
      subst (λ (j : ℕ). get_or (set gs w g) j None ≡ g) (sym e) (get_or-set_same gs w g None (omega arith)) in
      let was : get_or (set (lanes_told entered ls gs) w there) k None ≡ there =
      subst (λ (j : ℕ). get_or (set (lanes_told entered ls gs) w there) j None ≡ there) (sym e)
      (get_or-set_same (lanes_told entered ls gs) w there None shorter) in
      let is : get_or (lanes_told entered (set ls w l) (set gs w g)) k None ≡ lane_told entered l.out g = now
      ∙ (λ i. lane_told entered (at_l i).out (at_g i)) in
      subst (λ (x : Option (List TaskId)). Fades x (get_or (lanes_told entered (set ls w l) (set gs w g)) k None)) (sym was)
      (subst (λ (x : Option (List TaskId)). Fades there x) (sym is) f)
  at_index entered ls gs w l g lt same there f k klt (no ne) =
      let long : k < length (set ls w l) = omega (arith, length-set ls w l) in
      let now = told-at entered (set ls w l) (set gs w g) k long in
      let before = told-at entered ls gs k klt in
      let kept = get_or-set_other (lanes_told entered ls gs) w k there None ne in
      let at_l : lane_at (set ls w l) k ≡ lane_at ls k = get_or-set_other ls w k l fresh ne in
      let at_g : get_or (set gs w g) k None ≡ get_or gs k None = get_or-set_other gs w k g None ne in
      inr (now ∙ ((λ i. lane_told entered (at_l i).out (at_g i)) ∙ (sym before ∙ sym kept)))

  -- a step at one worker: what the gates tell is what it was, with this at the worker, or faded
  pub fades_at : (entered : G → Option (List TaskId)) (ls : List (LaneSeen (Job K N G R))) (gs : List (Option (Tools G))) (w : ℕ)
      (l : LaneSeen (Job K N G R)) (g : Option (Tools G)) → w < length ls → length gs ≡ length ls
      → (there : Option (List TaskId)) → Fades there (lane_told entered l.out g)
      → FadesEach (set (lanes_told entered ls gs) w there) (lanes_told entered (set ls w l) (set gs w g))
  fades_at entered ls gs w l g lt same there f = (
    length-told entered (set ls w l) (set gs w g)
        ∙ (length-set ls w l ∙ (sym (length-told entered ls gs) ∙ sym (length-set (lanes_told entered ls gs) w there))),
    λ k klt. at_index entered ls gs w l g lt same there f k
        (omega (arith, klt, length-set (lanes_told entered ls gs) w there, length-told entered ls gs)) (ℕ_discrete k w),
  )

  order_none : (out : Option (Job K N G R)) → order_in out ≡ None → out ≡ None
  order_none None e = refl
  order_none (Some job) e = absurd (cc)

  pub order-at : (ls : List (LaneSeen (Job K N G R))) (w : ℕ) → w < length ls → order_at (orders_of ls) w ≡ order_in (lane_at ls w).out
  order-at ls w lt = get_or-map (λ (l : LaneSeen (Job K N G R)). order_in l.out) ls w fresh None lt

  pub none_there : (ls : List (LaneSeen (Job K N G R))) (out : List (Option Order)) (w : ℕ) → orders_of ls ≡ out → w < length out
      → order_at out w ≡ None → (w < length ls) × ((lane_at ls w).out ≡ None)
  none_there ls out w e lt n =
      let short : w < length ls = omega (arith, lt, ap length e, length-map ls (λ (l : LaneSeen (Job K N G R)). order_in l.out)) in
      (short, order_none (lane_at ls w).out (sym (order-at ls w short) ∙ (ap (λ (o : List (Option Order)). order_at o w) e ∙ n)))

  pub sends_told : (entered : G → Option (List TaskId)) (ls : List (LaneSeen (Job K N G R))) (gs : List (Option (Tools G)))
      (told : List (Option (List TaskId))) (w : ℕ) (l : LaneSeen (Job K N G R)) (job : Job K N G R)
      → lanes_told entered ls gs ≡ told → w < length ls → length gs ≡ length ls → (lane_at ls w).out ≡ None → get_or gs w None ≡ Some job.tools
      → l.out ≡ Some job
      → FadesEach (set told w (extended (get_or told w None) job.order.task)) (lanes_told entered (set ls w l) (set gs w None))
  sends_told entered ls gs told w l job e lt same none gate out =
      let was : get_or told w None ≡ entered job.tools.gate = sym (ap (λ (t : List (Option (List TaskId))). get_or t w None) e)
      ∙ (told-at entered ls gs w lt ∙ (λ i. lane_told entered (none i) (gate i))) in
      let there : Option (List TaskId) = extended (get_or told w None) job.order.task in
      let f : Fades there (lane_told entered l.out None) =
      inr (ap (λ (o : Option (Job K N G R)). lane_told entered o None) out
      ∙ ap (λ (x : Option (List TaskId)). extended x job.order.task) (sym was)) in
      subst (λ (t : List (Option (List TaskId))). FadesEach (set t w (extended (get_or told w None) job.order.task))
      (lanes_told entered (set ls w l) (set gs w None))) e
      (fades_at entered ls gs w l None lt same (extended (get_or told w None) job.order.task) f)

module _ {K N G R : Type 0} (shop : Shop K N) where
  -- where no order is out the worker has its gate and eye here
  pub idle_there : (ls : List (LaneSeen (Job K N G R))) (gs : List (Option (Tools G))) (w : ℕ) (found : Option (Tools G)) → w < length ls
      → Keeps shop ls gs → (lane_at ls w).out ≡ None → found ≡ get_or gs w found → found ≡ None → ⊥
  idle_there ls gs w found lt keeps none at is =
      let one : is_some (get_or gs w None) ≡ not (is_some (lane_at ls w).out) = (keeps.each w lt).one in
      let here : get_or gs w None ≡ None = any_default gs w None found (omega (arith, lt, keeps.same)) ∙ (sym at ∙ is) in
      absurd (false_true (sym (ap (λ (o : Option (Tools G)). is_some o) here) ∙ (one ∙ ap (λ (o : Option (Job K N G R)). not (is_some o)) none)))
    where
      false_true : false ≡ true → ⊥
      false_true e = cc

  -- and the eye looks at the shop's shelves
  pub looks_there : (ls : List (LaneSeen (Job K N G R))) (gs : List (Option (Tools G))) (w : ℕ) (tools : Tools G) → w < length ls
      → Keeps shop ls gs → get_or gs w None ≡ Some tools → tools.eye.of ≡ shop.shelves.of
  looks_there ls gs w tools lt keeps is = subst (λ (o : Option (Tools G)). IfSome o (λ t. t.eye.of ≡ shop.shelves.of)) is (keeps.each w lt).look

  keeps_put_at : (ls : List (LaneSeen (Job K N G R))) (gs : List (Option (Tools G))) (w : ℕ) (put : List (Job K N G R)) (job : Job K N G R)
      → w < length ls → Keeps shop ls gs → arc_value job.shop ≡ shop → job.order.worker ≡ w → job.tools.eye.of ≡ shop.shelves.of → (k : ℕ)
      → k < length ls → Dec (k ≡ w)
      → KeepsAt shop k (lane_at (set ls w record { put = put; out = Some job }) k).out (get_or (set gs w None) k None)
  keeps_put_at ls gs w put job lt keeps own at look k klt (yes e) =
      let at_l : lane_at (set ls w record { put = put; out = Some job }) k ≡ record { put = put; out = Some job } =
      subst (λ (j : ℕ). lane_at (set ls w record { put = put; out = Some job }) j ≡ record { put = put; out = Some job }) (sym e)
      (get_or-set_same ls w record { put = put; out = Some job } fresh lt) in
      let at_g : get_or (set gs w None) k None ≡ None =
      subst (λ (j : ℕ). get_or (set gs w None) j None ≡ None) (sym e) (get_or-set_same gs w None None (omega (arith, keeps.same))) in
      subst (λ (x : Option (Job K N G R) × Option (Tools G)). KeepsAt shop k x.0 x.1) (λ i. ((sym at_l i).out, sym at_g i))
      record { one = refl; order = (own, at ∙ sym e, look); look = tt }
  keeps_put_at ls gs w put job lt keeps own at look k klt (no ne) =
      let at_l : lane_at (set ls w record { put = put; out = Some job }) k ≡ lane_at ls k =
      get_or-set_other ls w k record { put = put; out = Some job } fresh ne in
      let at_g : get_or (set gs w None) k None ≡ get_or gs k None = get_or-set_other gs w k None None ne in
      subst (λ (x : Option (Job K N G R) × Option (Tools G)). KeepsAt shop k x.0 x.1) (λ i. ((sym at_l i).out, sym at_g i)) (keeps.each k klt)

  -- where an order was laid on its worker's desk
  pub keeps_put : (ls : List (LaneSeen (Job K N G R))) (gs : List (Option (Tools G))) (w : ℕ) (put : List (Job K N G R)) (job : Job K N G R)
      → w < length ls → Keeps shop ls gs → arc_value job.shop ≡ shop → job.order.worker ≡ w → job.tools.eye.of ≡ shop.shelves.of
      → Keeps shop (set ls w record { put = put; out = Some job }) (set gs w None)
  keeps_put ls gs w put job lt keeps own at look = record {
    same = length-set gs w None ∙ (keeps.same ∙ sym (length-set ls w record { put = put; out = Some job }));
    each = λ k klt. keeps_put_at ls gs w put job lt keeps own at look k
        (omega (arith, klt, length-set ls w record { put = put; out = Some job })) (ℕ_discrete k w);
  }

  pub tools_there : (ls : List (LaneSeen (Job K N G R))) (gs : List (Option (Tools G))) (w : ℕ) (tools : Tools G) (found : Option (Tools G))
      → w < length ls → Keeps shop ls gs → Some tools ≡ found → found ≡ get_or gs w found → get_or gs w None ≡ Some tools
  tools_there ls gs w tools found lt keeps e f = gate_there gs w tools found (omega (arith, lt, keeps.same)) e f

  -- what stands where an order was laid on its worker's desk
  pub stands_put : (ls after : List (LaneSeen (Job K N G R))) (gs : List (Option (Tools G))) (gates : List G) (room w : ℕ)
      (put : List (Job K N G R)) (job : Job K N G R) (left : Option (Tools G)) → Stands shop ls gs gates room → w < length ls
      → arc_value job.shop ≡ shop → job.order.worker ≡ w → job.tools.eye.of ≡ shop.shelves.of
      → after ≡ set ls w record { put = put; out = Some job } → left ≡ None → Stands shop after (set gs w left) gates room
  stands_put ls after gs gates room w put job left s lt own at look is none = record {
    read = s.read;
    inputs = s.inputs;
    keeps = subst (λ (x : List (LaneSeen (Job K N G R)) × Option (Tools G)). Keeps shop x.0 (set gs w x.1)) (λ i. (sym is i, sym none i))
        (keeps_put ls gs w put job lt s.keeps own at look);
    empty = s.empty;
    enough = omega (arith, s.enough, length-set gs w left);
  }

  -- a job of this shop can be done
  pub can_be_done : (gives : K → Gives) (digest : N → List ℕ → List ℕ) (job : Job K N G R) → arc_value job.shop ≡ shop
      → Takes gives digest shop job.order → InputsInOrder (job_view shop.job) → IsRead (job_view shop.job).script → job.tools.eye.of
      ≡ shop.shelves.of → CanBeDone gives digest job
  can_be_done gives digest job own takes inputs read look = record {
    takes = subst (λ (s : Shop K N). Takes gives digest s job.order) (sym own) takes;
    inputs = subst (λ (s : Shop K N). InputsInOrder (job_view s.job)) (sym own) inputs;
    read = subst (λ (s : Shop K N). IsRead (job_view s.job).script) (sym own) read;
    look = look ∙ ap (λ (s : Shop K N). s.shelves.of) (sym own);
  }

module _ {K N G R : Type 0} where
  -- where lanes change, there are as many gates as before
  pub told_many : (entered : G → Option (List TaskId)) (ls after : List (LaneSeen (Job K N G R))) (gs left : List (Option (Tools G)))
      (told : List (Option (List TaskId))) (w : ℕ) (l : LaneSeen (Job K N G R)) → lanes_told entered ls gs ≡ told → after ≡ set ls w l
      → length (lanes_told entered after left) ≡ length told
  told_many entered ls after gs left told w l e is =
      length-told entered after left ∙ (ap length is ∙ (length-set ls w l ∙ (sym (length-told entered ls gs) ∙ ap length e)))

  -- the order that was laid is out
  pub orders_put : (ls after : List (LaneSeen (Job K N G R))) (out : List (Option Order)) (w : ℕ) (put : List (Job K N G R)) (job : Job K N G R)
      → orders_of ls ≡ out → after ≡ set ls w record { put = put; out = Some job } → orders_of after ≡ set out w (Some job.order)
  orders_put ls after out w put job e is =
      ap (λ (x : List (LaneSeen (Job K N G R))). orders_of x) is
      ∙ (map-set (λ (l : LaneSeen (Job K N G R)). order_in l.out) ls w record { put = put; out = Some job }
      ∙ ap (λ (x : List (Option Order)). set x w (Some job.order)) e)

  -- and its task will be told
  pub sent_told : (entered : G → Option (List TaskId)) (ls after : List (LaneSeen (Job K N G R))) (gs : List (Option (Tools G)))
      (told : List (Option (List TaskId))) (put : List (Job K N G R)) (job : Job K N G R) (left : Option (Tools G))
      → lanes_told entered ls gs ≡ told → job.order.worker < length ls → length gs ≡ length ls → (lane_at ls job.order.worker).out ≡ None
      → get_or gs job.order.worker None ≡ Some job.tools
      → after ≡ set ls job.order.worker record { put = put; out = Some job } → left ≡ None
      → TellsTask job.order told (lanes_told entered after (set gs job.order.worker left))
  sent_told entered ls after gs told put job left e lt same none tools is nothing =
      subst (λ (x : List (LaneSeen (Job K N G R)) × Option (Tools G)). TellsTask job.order told
      (lanes_told entered x.0 (set gs job.order.worker x.1))) (λ i. (sym is i, sym nothing i))
      (sends_told entered ls gs told job.order.worker record { put = put; out = Some job } job e lt same none tools refl)

module _ {K N G R : Type 0} where
  some_in : (out : Option (Job K N G R)) (o : Order) → order_in out ≡ Some o → IsSome out
  some_in None o e = absurd cc
  some_in (Some job) o e = refl

  pub out_at : (ls : List (LaneSeen (Job K N G R))) (k : ℕ) (o : Order) → get_or (orders_of ls) k None ≡ Some o → IsSome (lane_at ls k).out
  out_at [] k o e = absurd cc
  out_at (l ∷ ls) zero o e = some_in l.out o e
  out_at (l ∷ ls) (suc k) o e = out_at ls k o e

  keeps_take_at : (shop : Shop K N) (ls : List (LaneSeen (Job K N G R))) (gs : List (Option (Tools G))) (w : ℕ) (put : List (Job K N G R))
      (gate : Tools G) → w < length ls → Keeps shop ls gs → gate.eye.of ≡ shop.shelves.of → (k : ℕ) → k < length ls → Dec (k ≡ w)
      → KeepsAt shop k (lane_at (set ls w record { put = put; out = None }) k).out (get_or (set gs w (Some gate)) k None)
  keeps_take_at shop ls gs w put gate lt keeps look k klt (yes e) =
      let at_l : lane_at (set ls w record { put = put; out = None }) k ≡ record { put = put; out = None } =
      subst (λ (j : ℕ). lane_at (set ls w record { put = put; out = None }) j ≡ record { put = put; out = None }) (sym e)
      (get_or-set_same ls w record { put = put; out = None } record { put = []; out = None } lt) in
      let at_g : get_or (set gs w (Some gate)) k None ≡ Some gate =
      subst (λ (j : ℕ). get_or (set gs w (Some gate)) j None ≡ Some gate) (sym e)
      (get_or-set_same gs w (Some gate) None (omega (arith, keeps.same))) in
      subst (λ (x : Option (Job K N G R) × Option (Tools G)). KeepsAt shop k x.0 x.1) (λ i. ((sym at_l i).out, sym at_g i))
      record { one = refl; order = tt; look = look }
  keeps_take_at shop ls gs w put gate lt keeps look k klt (no ne) =
      let at_l : lane_at (set ls w record { put = put; out = None }) k ≡ lane_at ls k =
      get_or-set_other ls w k record { put = put; out = None } record { put = []; out = None } ne in
      let at_g : get_or (set gs w (Some gate)) k None ≡ get_or gs k None = get_or-set_other gs w k (Some gate) None ne in
      subst (λ (x : Option (Job K N G R) × Option (Tools G)). KeepsAt shop k x.0 x.1) (λ i. ((sym at_l i).out, sym at_g i)) (keeps.each k klt)

  pub keeps_take : (shop : Shop K N) (ls : List (LaneSeen (Job K N G R))) (gs : List (Option (Tools G))) (w : ℕ) (put : List (Job K N G R))
      (gate : Tools G) → w < length ls → Keeps shop ls gs → gate.eye.of ≡ shop.shelves.of
      → Keeps shop (set ls w record { put = put; out = None }) (set gs w (Some gate))
  keeps_take shop ls gs w put gate lt keeps look = record {
    same = length-set gs w (Some gate) ∙ (keeps.same ∙ sym (length-set ls w record { put = put; out = None }));
    each = λ k klt. keeps_take_at shop ls gs w put gate lt keeps look k (omega (arith, klt, length-set ls w record { put = put; out = None }))
        (ℕ_discrete k w);
  }

  -- what stands where a report was taken
  pub stands_taken : (shop : Shop K N) (ls after : List (LaneSeen (Job K N G R))) (gs : List (Option (Tools G))) (gates : List G) (room w : ℕ)
      (job : Job K N G R) (tools : Tools G) → Stands shop ls gs gates room → w < length ls → (lane_at ls w).out ≡ Some job → tools.eye.of
      ≡ job.tools.eye.of
      → after ≡ set ls w record { put = (lane_at ls w).put; out = None } → Stands shop after (set gs w (Some tools)) gates room
  stands_taken shop ls after gs gates room w job tools s lt out look is =
      let k = subst (λ (o : Option (Job K N G R)). IfSome o
      (λ j. (arc_value j.shop ≡ shop) × (j.order.worker ≡ w) × (j.tools.eye.of ≡ shop.shelves.of))) out (s.keeps.each w lt).order in
      record {
        read = s.read;
        inputs = s.inputs;
        keeps = subst (λ (x : List (LaneSeen (Job K N G R))). Keeps shop x (set gs w (Some tools))) (sym is)
            (keeps_take shop ls gs w (lane_at ls w).put tools lt s.keeps (look ∙ k.2));
        empty = s.empty;
        enough = omega (arith, s.enough, length-set gs w (Some tools));
      }

  pub takes_report : (gives : K → Gives) (digest : N → List ℕ → List ℕ) (shop : Shop K N) (ls : List (LaneSeen (Job K N G R)))
      (gs : List (Option (Tools G))) (out : List (Option Order)) (w : ℕ) (put : List (Job K N G R)) (job : Job K N G R) (report : Report)
      → w < length ls → (lane_at ls w).out ≡ Some job → Keeps shop ls gs → orders_of ls ≡ out
      → Answers gives digest (arc_value job.shop) job.order report
      → (after : List (LaneSeen (Job K N G R))) → after ≡ set ls w record { put = put; out = None }
      → Reports gives digest shop out (orders_of after) report
  takes_report gives digest shop ls gs out w put job report lt is keeps e a after now =
      let k = subst (λ (o : Option (Job K N G R)). IfSome o
      (λ j. (arc_value j.shop ≡ shop) × (j.order.worker ≡ w) × (j.tools.eye.of ≡ shop.shelves.of))) is (keeps.each w lt).order in
      let at : report.worker ≡ w = a.performs.worker ∙ k.1 in (
        job.order,
        subst (λ (x : ℕ). order_at out x ≡ Some job.order) (sym at)
            (sym (ap (λ (o : List (Option Order)). order_at o w) e) ∙ (order-at ls w lt ∙ ap (λ (o : Option (Job K N G R)). order_in o) is)),
        ap (λ (x : List (LaneSeen (Job K N G R))). orders_of x) now
            ∙ (map-set (λ (l : LaneSeen (Job K N G R)). order_in l.out) ls w record { put = put; out = None }
            ∙ (λ i. set (e i) (sym at i) None)),
        subst (λ (s : Shop K N). Answers gives digest s job.order report) k.0 a,
      )

  pub takes_told : (entered : G → Option (List TaskId)) (ls : List (LaneSeen (Job K N G R))) (gs : List (Option (Tools G)))
      (told : List (Option (List TaskId))) (w : ℕ) (put : List (Job K N G R)) (job : Job K N G R) (gate : Tools G)
      → lanes_told entered ls gs ≡ told → w < length ls → length gs ≡ length ls → (lane_at ls w).out ≡ Some job
      → IsEntered (entered job.tools.gate) job.order.task (entered gate.gate)
      → (after : List (LaneSeen (Job K N G R))) → after ≡ set ls w record { put = put; out = None }
      → FadesEach told (lanes_told entered after (set gs w (Some gate)))
  takes_told entered ls gs told w put job gate e lt same is h after now =
      let was : get_or (lanes_told entered ls gs) w None ≡ extended (entered job.tools.gate) job.order.task = told-at entered ls gs w lt
      ∙ ap (λ (o : Option (Job K N G R)). lane_told entered o (get_or gs w None)) is in
      let f : Fades (get_or (lanes_told entered ls gs) w None) (entered gate.gate) =
      subst (λ (x : Option (List TaskId)). Fades x (entered gate.gate)) (sym was)
      (fades_one job.order.task (entered job.tools.gate) (entered gate.gate) h) in
      let each = fades_at entered ls gs w record { put = put; out = None } (Some gate) lt same (get_or (lanes_told entered ls gs) w None) f in
      let unchanged : set (lanes_told entered ls gs) w (get_or (lanes_told entered ls gs) w None) ≡ told =
      set-get_or (lanes_told entered ls gs) w None ∙ e in
      subst (λ (x : List (Option (List TaskId)) × List (LaneSeen (Job K N G R))). FadesEach x.0 (lanes_told entered x.1 (set gs w (Some gate))))
      (λ i. (unchanged i, sym now i)) each

cons_at : (a b : Option (List TaskId)) (xs ys : List (Option (List TaskId))) → Fades a b → FadesEach xs ys → (k : ℕ) → k < length (a ∷ xs)
    → Fades (get_or (a ∷ xs) k None) (get_or (b ∷ ys) k None)
cons_at a b xs ys f each zero lt = f
cons_at a b xs ys f each (suc k) lt = each.1 k (omega arith)

fades_cons : (a b : Option (List TaskId)) (xs ys : List (Option (List TaskId))) → Fades a b → FadesEach xs ys → FadesEach (a ∷ xs) (b ∷ ys)
fades_cons a b xs ys f each = (ap suc each.0, λ k lt. cons_at a b xs ys f each k lt)

module _ {K N G R : Type 0} (gives : K → Gives) (digest : N → List ℕ → List ℕ) (entered : G → Option (List TaskId)) where
  first_gate : (k : ℕ) (put : List (Job K N G R)) (out : Option (Job K N G R)) (ls : List (LaneSeen (Job K N G R))) (g : Option (Tools G))
      (gs : List (Option (Tools G))) (outs : List (ℕ × Done G))
      → is_some g ≡ not (is_some out) → ((os : List (ℕ × Done G)) → Closes (IsDoneOf gives digest entered) (k + 1) ls os
      → FadesEach (lanes_told entered ls gs) (map entered (gathered gs os)))
      → Closes (IsDoneOf gives digest entered) k (record { put = put; out = out } ∷ ls) outs
      → FadesEach (lanes_told entered (record { put = put; out = out } ∷ ls) (g ∷ gs)) (map entered (gathered (g ∷ gs) outs))
  first_gate k put None ls None gs outs one ih c = absurd cc
  first_gate k put None ls (Some gate) gs outs one ih c =
      fades_cons (entered gate.gate) (entered gate.gate) (lanes_told entered ls gs) (map entered (gathered gs outs)) (inr refl) (ih outs c)
  first_gate k put (Some job) ls (Some gate) gs outs one ih c = absurd cc
  first_gate k put (Some job) ls None gs outs one ih c =
      subst (λ (os : List (ℕ × Done G)). FadesEach (lanes_told entered (record { put = put; out = Some job } ∷ ls) (None ∷ gs))
      (map entered (gathered (None ∷ gs) os))) (sym c.2)
      (fades_cons (extended (entered job.tools.gate) job.order.task) (entered c.0.tools.gate) (lanes_told entered ls gs)
      (map entered (gathered gs c.1))
      (fades_one job.order.task (entered job.tools.gate) (entered c.0.tools.gate) c.3.gate) (ih c.1 c.4))

  pub all_gates : (k : ℕ) (ls : List (LaneSeen (Job K N G R))) (gs : List (Option (Tools G))) (outs : List (ℕ × Done G)) → length gs ≡ length ls
      → ((j : ℕ) → j < length ls → is_some (get_or gs j None) ≡ not (is_some (lane_at ls j).out)) → Closes (IsDoneOf gives digest entered) k ls outs
      → FadesEach (lanes_told entered ls gs) (map entered (gathered gs outs))
  all_gates k [] [] outs same each c = (refl, λ j lt. absurd (omega arith))
  all_gates k [] (g ∷ gs) outs same each c = absurd (omega arith)
  all_gates k (l ∷ ls) [] outs same each c = absurd (omega arith)
  all_gates k (l ∷ ls) (g ∷ gs) outs same each c =
      let tail : length gs ≡ length ls = omega arith in
      let rest : (j : ℕ) → j < length ls → is_some (get_or gs j None) ≡ not (is_some (lane_at ls j).out) = (λ j lt. each (suc j) (omega arith)) in
      first_gate k l.put l.out ls g gs outs (each 0 (omega arith)) (λ os d. all_gates (k + 1) ls gs os tail rest d) c
