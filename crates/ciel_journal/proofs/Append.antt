-- A history that goes on by one event.
use Rattle.std.proofs.Common.{◌≡◌, List, [], ◌∷◌, ◌++◌, refl, ap}
use Rattle.ciel_journal.specs.Job.{Job}
use Rattle.ciel_journal.specs.History.{Event, Plan, Standing, after, after_all}
use Rattle.ciel_journal.specs.Lawful.{LawfulFrom, Step}
use Rattle.ciel_journal.specs.Turns.{DrivenFrom, Turn}
use Rattle.ciel_journal.specs.Entries.{journal_of, low}

module _ {D : Type 0} (job : Job D) where
  pub after_append : (v : Standing D) (h : List (Event D)) (e : Event D) → after_all job v (h ++ e ∷ []) ≡ after job (after_all job v h) e
  after_append v [] e = refl
  after_append v (x ∷ xs) e = after_append (after job v x) xs e

  pub lawful_append : (p : Plan) (v : Standing D) (h : List (Event D)) (e : Event D) → LawfulFrom job p v h → Step job p (after_all job v h) e
      → LawfulFrom job p v (h ++ e ∷ [])
  lawful_append p v [] e l s = (s, tt)
  lawful_append p v (x ∷ xs) e l s = (l.0, lawful_append p (after job v x) xs e l.1 s)

  pub after_join : (v : Standing D) (g h : List (Event D)) → after_all job v (g ++ h) ≡ after_all job (after_all job v g) h
  after_join v [] h = refl
  after_join v (x ∷ xs) h = after_join (after job v x) xs h

  pub lawful_split : (p : Plan) (v : Standing D) (g h : List (Event D)) → LawfulFrom job p v (g ++ h) → LawfulFrom job p v g
      × LawfulFrom job p (after_all job v g) h
  lawful_split p v [] h l = (tt, l)
  lawful_split p v (x ∷ xs) h l = let q = lawful_split p (after job v x) xs h l.1 in ((l.0, q.0), q.1)

  pub driven_append : (p : Plan) (v : Standing D) (h : List (Event D)) (e : Event D) → DrivenFrom job p v h → Step job p (after_all job v h) e
      → Turn job p (after_all job v h) e → DrivenFrom job p v (h ++ e ∷ [])
  driven_append p v [] e l s t = (s, t, tt)
  driven_append p v (x ∷ xs) e l s t = (l.0, l.1, driven_append p (after job v x) xs e l.2 s t)

  pub driven_split : (p : Plan) (v : Standing D) (g h : List (Event D)) → DrivenFrom job p v (g ++ h) → DrivenFrom job p v g
      × DrivenFrom job p (after_all job v g) h
  driven_split p v [] h l = (tt, l)
  driven_split p v (x ∷ xs) h l = let q = driven_split p (after job v x) xs h l.2 in ((l.0, l.1, q.0), q.1)

  pub journal_last : (h : List (Event D)) (e : Event D) → journal_of job (h ++ e ∷ []) ≡ journal_of job h ++ low job e ∷ []
  journal_last [] e = refl
  journal_last (x ∷ xs) e = ap (λ z. low job x ∷ z) (journal_last xs e)
