-- What a loop over a report does at each turn.
use Rattle.std.proofs.Common.{◌≡◌, ℕ, List, [], ◌∷◌, Result, Ok, Err, cond, is_ok, refl, ap, sym, subst}
use Rattle.std.specs.Result.{IfErr, IsErrAnd}
use Rattle.sky_base.specs.declared.object.Named.{Named}
use Rattle.ciel_master_board.specs.Moves.{with_copies, with_outputs}
use Rattle.ciel_master_board.specs.Reports.{Copy, Output}
use Rattle.ciel_master_board.proofs.SoundLemmas.{same_names}
use Rattle.ciel_journal.specs.Job.{Digest, Each}
use Rattle.ciel_journal.proofs.Booked.{each_more}
use Rattle.ciel_table.specs.Changes.{placed, row_with}
use Rattle.ciel_table.specs.Learning.{learn_answer, learned}
use Rattle.ciel_table.specs.Seen.{Known, TableSeen, row_name}
use Rattle.ciel_table.specs.Sound.{Here}
use Rattle.ciel_table.specs.declared.refusal.Learn.{Learn}
use Rattle.ciel_table.proofs.ByName.{names_changed}
use Rattle.ciel_task_order.specs.Views.{P, copies_view, copy_at}
use Rattle.ciel_task_order.specs.declared.block.Held.{Held}
use Rattle.ciel_task_order.specs.declared.block.Spot.{Spot}
use Rattle.ciel_master.specs.Refusals.{FirstStops, StopsAt, UnlessMemory, learned_before}
use Rattle.ciel_master_bring.specs.Brings.{worker_of}
use Rattle.ciel_master.specs.declared.stop.Stop.{Stop}

-- ---- what is refused

module _ {Q : Type 0} (digest : List ℕ → List ℕ) (n : Named) (ns : List Named) (t : TableSeen Q) where
  pub stops_here : (e : Stop) → StopsAt n t e → FirstStops digest (n ∷ ns) t e
  stops_here (Stop.NameClash kept given) s = (n, record { before = []; after = ns; split = refl; learned = tt; refused = s })
  stops_here (Stop.TooMany held given) s = (n, record { before = []; after = ns; split = refl; learned = tt; refused = s.0 }, s.1)
  stops_here Stop.Memory s = tt

  pub stops_later : (id : ℕ) → learn_answer n t ≡ Ok id → (e : Stop) → FirstStops digest ns (learned digest n t) e → FirstStops digest (n ∷ ns) t e
  stops_later id a (Stop.NameClash kept given) s = (
    s.0,
    record {
      before = n ∷ s.1.before;
      after = s.1.after;
      split = ap (λ xs. n ∷ xs) s.1.split;
      learned = ((id, a), s.1.learned);
      refused =
          s.1.refused;
    },
  )
  stops_later id a (Stop.TooMany held given) s = (
    s.0,
    record {
      before = n ∷ s.1.before;
      after = s.1.after;
      split = ap (λ xs. n ∷ xs) s.1.split;
      learned = ((id, a), s.1.learned);
      refused =
          s.1.refused;
    },
    s.2,
  )
  stops_later id a Stop.Memory s = tt

  abbrev where_learned : Result ℕ Learn → TableSeen Q
  where_learned r = cond (is_ok r) (learned_before digest ns (learned digest n t)) t

  -- nothing comes before it
  pub none_before : (e : Stop) → StopsAt n t e → UnlessMemory e (learned_before digest (n ∷ ns) t ≡ t)
  none_before (Stop.NameClash kept given) s = ap where_learned s
  none_before (Stop.TooMany held given) s = ap where_learned s.0
  none_before Stop.Memory s = tt

  -- what is learned comes before what is refused of the rest
  pub more_before : (id : ℕ) → learn_answer n t ≡ Ok id → learned_before digest (n ∷ ns) t ≡ learned_before digest ns (learned digest n t)
  more_before id a = ap where_learned a

pub unless_more : {A B : Type 0} (e : Stop) → (A → B) → UnlessMemory e A → UnlessMemory e B
unless_more (Stop.NameClash kept given) f a = f a
unless_more (Stop.TooMany held given) f a = f a
unless_more Stop.Memory f a = tt

-- the refusal that a function returns is the one that it had
pub refused_so : {A E : Type 0} (Q : E → Type 0) (r : Result A E) (e : E) → IsErrAnd r (λ x. x ≡ e) → Q e → IfErr r Q
refused_so Q (Ok a) e h q = absurd h
refused_so Q (Err x) e h q = subst Q (sym h) q

-- ---- what can be placed

module _ {X : Type 0} (name : X → Digest) (place : X → P) where
  abbrev pub CanPlace : TableSeen P → X → Type 0
  CanPlace t x = Known t (name x) × Here t.gone (worker_of (place x))

  -- it can be after a place more
  pub can_still : (n : Digest) (p : P) (t : TableSeen P) (xs : List X) → Each (CanPlace t) xs → Each (CanPlace (placed n p t)) xs
  can_still n p t xs h =
      each_more (CanPlace t) (CanPlace (placed n p t))
      (λ x a. (same_names t (placed n p t) (names_changed row_name (row_with p) (λ r. refl) n t.rows) (name x) a.0, a.1)) xs h

  pub can_beside : (ms : List (Output P)) (t : TableSeen P) (xs : List X) → Each (CanPlace t) xs → Each (CanPlace (with_outputs ms t)) xs
  can_beside [] t xs h = h
  can_beside (m ∷ ms) t xs h = can_beside ms (placed m.name m.place t) xs (can_still m.name m.place t xs h)

  pub can_after : (cs : List (Copy P)) (t : TableSeen P) (xs : List X) → Each (CanPlace t) xs → Each (CanPlace (with_copies cs t)) xs
  can_after [] t xs h = h
  can_after (c ∷ cs) t xs h = can_after cs (placed c.name c.place t) xs (can_still c.name c.place t xs h)

-- ---- copies, one by one

module _ (n : Digest) (rest : List (Copy P)) where
  one_copy : (F : Copy P → Type 0) (s : Spot) → Each F (copy_at n s rest) → Each F (copy_at n s [])
  one_copy F (Spot.Shelf p) h = (h.0, tt)
  one_copy F (Spot.Input i) h = tt

  rest_copies : (F : Copy P → Type 0) (s : Spot) → Each F (copy_at n s rest) → Each F rest
  rest_copies F (Spot.Shelf p) h = h.1
  rest_copies F (Spot.Input i) h = h

  copies_step : (s : Spot) (t : TableSeen P) → with_copies rest (with_copies (copy_at n s []) t) ≡ with_copies (copy_at n s rest) t
  copies_step (Spot.Shelf p) t = refl
  copies_step (Spot.Input i) t = refl

module _ (h : Held) (hs : List Held) where
  pub first_copy : (F : Copy P → Type 0) → Each F (copies_view (h ∷ hs)) → Each F (copies_view (h ∷ []))
  first_copy F e = one_copy h.name (copies_view hs) F h.at e

  pub later_copies : (F : Copy P → Type 0) → Each F (copies_view (h ∷ hs)) → Each F (copies_view hs)
  later_copies F e = rest_copies h.name (copies_view hs) F h.at e

  pub after_copy : (t : TableSeen P) → with_copies (copies_view hs) (with_copies (copies_view (h ∷ [])) t) ≡ with_copies (copies_view (h ∷ hs)) t
  after_copy t = copies_step h.name (copies_view hs) h.at t
