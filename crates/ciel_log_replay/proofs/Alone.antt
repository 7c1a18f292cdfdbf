-- In one turn a driven history goes on by one Start, by one loss, or by closing a Start.
use Rattle.std.proofs.Common.{◌≡◌, List, [], ◌∷◌, ◌++◌, refl, ap, sym, ◌∙◌, subst}
use Rattle.std.proofs.lemmas.List.{append_assoc, append-nil}
use Rattle.ciel_journal.specs.Entries.{Entry, journal_of, low}
use Rattle.ciel_journal.specs.History.{Event, Plan, Standing, after, before_all, done, last, lost, missed, saved, standing, start}
use Rattle.ciel_journal.specs.Job.{IsJob, Job}
use Rattle.ciel_journal.specs.Lawful.{LawfulFrom, Step}
use Rattle.ciel_journal.specs.Turns.{Driven, DrivenFrom, Turn}
use Rattle.ciel_journal.proofs.Append.{driven_split}
use Rattle.ciel_journal.proofs.OneWorker.{first_one, not_rests, same_chosen}
use Rattle.ciel_journal.proofs.Unique.{names_determine}
use Rattle.ciel_log_replay.specs.Next.{CanBeNext, IsClose, MustGoOn, OnlyNext}

module _ {D : Type 0} (job : Job D) where
  -- a history is cut where its journal is
  pub record CutAt (h : List (Event D)) (J es : List Entry) : Type 0 where
    pub front : List (Event D)
    pub back : List (Event D)
    pub all : h ≡ front ++ back
    pub fronts : journal_of job front ≡ J
    pub backs : journal_of job back ≡ es

  cut : (h : List (Event D)) (J es : List Entry) → journal_of job h ≡ J ++ es → CutAt h J es
  cut h [] es e = record { front = []; back = h; all = refl; fronts = refl; backs = e }
  cut [] (y ∷ J) es e = cc
  cut (x ∷ h) (y ∷ J) es e =
      let first : low job x ≡ y = cc in
      let rest : journal_of job h ≡ J ++ es = cc in
      let r = cut h J es rest in
      record {
        front = x ∷ r.front;
        back = r.back;
        all = ap (λ z. x ∷ z) r.all;
        fronts = ap (λ z. z ∷ journal_of job r.front) first ∙ ap (λ z. y ∷ z) r.fronts;
        backs = r.backs;
      }

  -- ---- what must come

  pub must_last : (p : Plan) (J es : List Entry) (e : Entry) → MustGoOn job p J es → OnlyNext job p (J ++ es) e → MustGoOn job p J (es ++ e ∷ [])
  must_last p J [] e m o = (subst (λ z. OnlyNext job p z e) (append-nil J) o, tt)
  must_last p J (x ∷ es) e m o =
      (m.0, must_last p (J ++ x ∷ []) es e m.1 (subst (λ z. OnlyNext job p z e) (sym (append_assoc J (x ∷ []) es)) o))

module _ {D : Type 0} (job : Job D) (laws : IsJob job) (p : Plan) where
  -- ---- one turn

  -- a Start or a loss is the only event of its turn
  pub alone : (v : Standing D) (a b : Event D) → (IsClose (low job a) → ⊥) → Step job p v a → Turn job p v a → Step job p v b → Turn job p v b → a ≡ b
  alone v (lost w c) (lost u e) n x s y t =
      let i : w ≡ u = first_one job laws p v w u s.0 t.0 s.1 t.1 in
      let j : c ≡ e = x.allowed.now ∙ sym y.allowed.now in cc
  alone v (lost w c) (start k u z from) n x s y t = absurd (t.nothing_due s.0 s.1.count w s.1.due)
  alone v (lost w c) (done k m d e) n x s y t = absurd (t.0 s.0 s.1.count w s.1.due)
  alone v (lost w c) (saved k j m r h e) n x s y t = absurd (t.0 s.0 s.1.count w s.1.due)
  alone v (lost w c) (missed k d i) n x s y t = absurd (t.0 s.0 s.1.count w s.1.due)
  alone v (start k w z from) (lost u e) n x s y t = absurd (s.nothing_due t.0 t.1.count u t.1.due)
  alone v (start k w z from) (start i u q f) n x s y t =
      let c = same_chosen job laws p v w u z q s t in
      let a : w ≡ u = c.0 in
      let b : z ≡ q = c.1 in
      let l : k ≡ i = x.allowed.number ∙ sym y.allowed.number in
      let m : from ≡ f = x.allowed.from_last ∙ (ap (last job v) b ∙ sym y.allowed.from_last) in cc
  alone v (start k w z from) (done i m d e) n x s y t = absurd (not_rests job laws p v w z s t)
  alone v (start k w z from) (saved i j m r h e) n x s y t = absurd (not_rests job laws p v w z s t)
  alone v (start k w z from) (missed i d e) n x s y t = absurd (not_rests job laws p v w z s t)
  alone v (done k m d e) b n x s y t = absurd (n tt)
  alone v (saved k j m r h e) b n x s y t = absurd (n tt)
  alone v (missed k d i) b n x s y t = absurd (n tt)

  -- ---- what comes next

  lawful : (v : Standing D) (h : List (Event D)) → DrivenFrom job p v h → LawfulFrom job p v h
  lawful v [] d = tt
  lawful v (e ∷ es) d = (d.0, lawful (after job v e) es d.2)

  -- the event with which a driven history goes on, and its entry
  pub record GoesOnBy (h : List (Event D)) (e : Entry) : Type 0 where
    pub event : Event D
    pub entry : low job event ≡ e
    pub step : Step job p (standing job h) event
    pub turn : Turn job p (standing job h) event

  pub first_of : (h back : List (Event D)) (e : Entry) (rest : List Entry) → Driven job p (h ++ back) → journal_of job back ≡ e ∷ rest → GoesOnBy h e
  first_of h [] e rest d q = cc
  first_of h (x ∷ xs) e rest d q =
      let entry : low job x ≡ e = cc in
      let s = (driven_split job p (before_all job) h (x ∷ xs) d).1 in
      record { event = x; entry = entry; step = s.0; turn = s.1 }

  module _ (h : List (Event D)) (d : Driven job p h) (J : List Entry) (was : J ≡ journal_of job h) where
    -- a history whose journal goes on from this one's goes on from this one
    pub goes_on : (e : Entry) → CanBeNext job p J e → GoesOnBy h e
    goes_on e n =
        let c = cut job n.1.0 J (e ∷ n.0) n.1.2 in
        let driven : Driven job p (c.front ++ c.back) = subst (Driven job p) c.all n.1.1 in
        let front = (driven_split job p (before_all job) c.front c.back driven).0 in
        let same : c.front ≡ h =
        names_determine job laws p p c.front h (lawful (before_all job) c.front front) (lawful (before_all job) h d) (c.fronts ∙ was) in
        first_of h c.back e n.0 (subst (λ z. Driven job p (z ++ c.back)) same driven) c.backs

    -- where it goes on by a Start or a loss, each goes on by it
    pub only : (e : Entry) → (IsClose e → ⊥) → (event : Event D) → Driven job p (h ++ event ∷ []) → low job event ≡ e → OnlyNext job p J e
    only e none event then entry x n =
        let g = goes_on x n in
        let f = first_of h (event ∷ []) e [] then (ap (λ z. z ∷ []) entry) in
        let same : f.event ≡ g.event =
        alone (standing job h) f.event g.event (λ c. none (subst IsClose f.entry c)) f.step f.turn g.step g.turn in
        sym g.entry ∙ (ap (low job) (sym same) ∙ f.entry)
