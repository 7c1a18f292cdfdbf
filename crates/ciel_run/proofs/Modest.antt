-- Where a job means an answer and makes few descriptions, no two of which share a name, and some worker stays, no end comes but its answer.
use Rattle.std.proofs.Common.{◌≡◌, ◌≢◌, ◌≤◌, ◌<◌, ◌⊎◌, inl, inr, ℕ, zero, suc, List, [], ◌∷◌, true, false, Option, Some, None, length, refl, sym, ap}
use Rattle.std.proofs.Common.{subst, ◌∙◌, arith}
use Rattle.sky_base.specs.See as s
use Rattle.sky_base.specs.See.{Answered}
use Rattle.sky_base_law.specs.Tasks as t
use Rattle.sky_parse_law.specs.Orderly.{FunctionsAreOrderly}
use Rattle.sky_plain.specs.Needs as p
use Rattle.ciel_run_line.specs.Ended.{EndsSo, HasAnswer, ModestRunsAnswer, SomeStays}
use Rattle.ciel_run_line.specs.Ends.{IsModest, IsOrderly}
use Rattle.ciel_journal.specs.Entries.{Entry}
use Rattle.ciel_journal.specs.Journals.{DrivenJournal}
use Rattle.ciel_run_load.specs.Line.{Input, keys_of}
use Rattle.ciel_run_load.specs.declared.script.SyntaxKind.{SyntaxKind}
use Rattle.ciel_run_line.specs.Seen.{most_descriptions}
use Rattle.ciel_run_line.specs.RunEnd.{RunEnd}
use Rattle.ciel_words.specs.declared.words.Words.{Words}
use Rattle.sky_base.specs.KitView.{Gives}
use Rattle.sky_parse.specs.Source.{IsScript}
use Rattle.sky_base.specs.Tree.{Script}
use Rattle.ciel_run_line.specs.Causes.{CauseOf, JobCause, TooLongOf}
use Rattle.ciel_run.specs.Ending.{Answers, EndCause, IsAnswered}
use Rattle.ciel_run_line.specs.Line.{FitsIn, OfLine, StandsIn, files_of}
use Rattle.ciel_run_line.proofs.Comes.{surely_line}
use Rattle.ciel_run_line.proofs.Own.{no_bad_record}
use Rattle.ciel_run_line.specs.Runs.{IsDriven, IsModestFor, digest_of, plan_of, told_of}
use Rattle.ciel_run_line.specs.Source.{OfJob, job_of, around}
use Rattle.ciel_run_log.specs.declared.why.Why.{Why}
use Rattle.ciel_run.proofs.Exact.{not_too_long, same_script, script_is_run}
use Rattle.ciel_memo_file.specs.Laws.{NeverBoth}
use Rattle.ciel_run.proofs.Over.{Begun, has_memo, memo_short, own_header, source_of, too_long_in}

-- ---- distinct members of a list are no more than it has

module _ {A : Type 0} where
  record Without (x : A) (all : List A) : Type 0 where
    rest : List A
    shorter : length all ≡ suc (length rest)
    left : (y : A) → t.In y all → (y ≡ x) ⊎ t.In y rest

  without : (x : A) (all : List A) → t.In x all → Without x all
  without x [] i = absurd i
  without x (a ∷ all) (inl e) = record {
    rest = all;
    shorter = refl;
    left = λ y j. of y j;
  }
    where
      of : (y : A) → t.In y (a ∷ all) → (y ≡ x) ⊎ t.In y all
      of y (inl f) = inl (f ∙ sym e)
      of y (inr j) = inr j
  without x (a ∷ all) (inr i) =
      let u = without x all i in record {
        rest = a ∷ u.rest;
        shorter = ap suc u.shorter;
        left = λ y j. of u y j;
      }
    where
      of : (u : Without x all) (y : A) → t.In y (a ∷ all) → (y ≡ x) ⊎ t.In y (a ∷ u.rest)
      of u y (inl f) = inr (inl f)
      of u y (inr j) = on (u.left y j)
        where
          on : (y ≡ x) ⊎ t.In y u.rest → (y ≡ x) ⊎ t.In y (a ∷ u.rest)
          on (inl e) = inl e
          on (inr k) = inr (inr k)

  fewer : (ds all : List A) → t.Apart ds → t.Each (λ d. t.In d all) ds → length ds ≤ length all
  fewer [] all a e = omega arith
  fewer (d ∷ ds) all a e =
      let u = without d all e.0 in
      let k = fewer ds u.rest a.1 (each ds u a.0 e.1) in
      let l = u.shorter in
      omega (arith, k, l)
    where
      each : (ds : List A) (u : Without d all) → (t.In d ds → ⊥) → t.Each (λ c. t.In c all) ds → t.Each (λ c. t.In c u.rest) ds
      each [] u n e = tt
      each (c ∷ ds) u n e = (on (u.left c e.0), each ds u (λ i. n (inr i)) e.1)
        where
          on : (c ≡ d) ⊎ t.In c u.rest → t.In c u.rest
          on (inl f) = absurd (n (inl (sym f)))
          on (inr k) = k

-- ---- of a job

module _ (h : Gives) (digest : List ℕ → List ℕ) (job : s.Job) where
  made_in_all : (m : IsModest digest job h most_descriptions) (d : s.Desc) → p.Makes job (around h) d → t.In d m.all
  made_in_all m d (inl e) = m.made d (inl e)
  made_in_all m d (inr x) = m.made d (inr (x.0, x.2, x.1, x.3))

  all_made : (m : IsModest digest job h most_descriptions) (ds : List s.Desc) → t.Each (p.Makes job (around h)) ds → t.Each (λ d. t.In d m.all) ds
  all_made m [] e = tt
  all_made m (d ∷ ds) e = (made_in_all m d e.0, all_made m ds e.1)

  pub not_many : IsModest digest job h most_descriptions → p.MakesMany job (around h) 65537 → ⊥
  not_many m x =
      let k = fewer x.0 m.all x.2 (all_made m x.0 x.3) in
      let f = m.few in
      let l = x.1 in
      omega (arith, k, f, l)

-- the end of a run with this cause
-- an end of the job, of which there is such a cause
abbrev pub OfTheJob : Why → Type 0
OfTheJob (Why.Fault fault) = Unit {0}
OfTheJob (Why.Endless names) = Unit {0}
OfTheJob (Why.TooMany held given) = Unit {0}
OfTheJob Why.AllLost = Unit {0}
OfTheJob (Why.NameClash kept given) = Unit {0}
OfTheJob _ = ⊥

module _ (h : Gives) (w : Words) (job : s.Job) (J : List Entry) where
  driven_or : (J ≡ []) ⊎ DrivenJournal (told_of h w job) (plan_of w) J → DrivenJournal (told_of h w job) (plan_of w) J
  driven_or (inl e) = ([], tt, sym e)
  driven_or (inr d) = d

  module _ (laws : ModestRunsAnswer) (orderly : IsOrderly (digest_of w.names) job h)
      (m : IsModest (digest_of w.names) job h most_descriptions) (stays : SomeStays (plan_of w))
      (d : DrivenJournal (told_of h w job) (plan_of w) J) where
    has : (end : RunEnd) → EndsSo (digest_of w.names) job h (plan_of w) J end → HasAnswer end
    has end e = laws (digest_of w.names) job h orderly (plan_of w) m stays J end e

    pub no_other : (why : Why) → OfTheJob why → JobCause h w J job why → IsAnswered w why
    no_other (Why.Fault fault) n c = tt
    no_other (Why.Endless names) n c = has (RunEnd.Endless names) (record { driven = d; cause = (c.1, c.2, c.3) })
    no_other (Why.TooMany held None) n c = not_many h (digest_of w.names) job m c.2
    no_other (Why.TooMany held (Some given)) n c = has (RunEnd.TooMany held given) (record { driven = d; cause = (c.2.0, sym c.2.1, c.2.2) })
    no_other Why.AllLost n c = has RunEnd.AllLost (record { driven = d; cause = c.1 })
    no_other (Why.NameClash kept given) n c = has (RunEnd.NameClash kept given) (record { driven = d; cause = c.1 })
    no_other Why.Memory n c = tt
    no_other (Why.TooDeepPlain depth) n c = absurd n
    no_other Why.Done n c = tt
    no_other Why.Usage n c = n
    no_other (Why.Syntax kind line col) n c = n
    no_other (Why.ReadFault path) n c = n
    no_other Why.WriteFault n c = n
    no_other (Why.TooLongInput path at) n c = absurd n
    no_other (Why.LogFull path held) n c = absurd n
    no_other (Why.BadLog path at) n c = absurd n
    no_other (Why.OtherJob path) n c = absurd n
    no_other (Why.KeepFault path) n c = absurd n
    no_other (Why.BadMemo path at) n c = absurd n

-- ---- of a line

module _ (content : List ℕ → Option (List ℕ)) (w : Words) (risen : Type 0) (J : List Entry) (laws : ModestRunsAnswer)
    (functions : FunctionsAreOrderly) (both : NeverBoth) where
  -- a cause said of one script of the bytes is said of the one whose job is modest
  same_job : (source : List ℕ) (inputs : List Input) (P : s.Job → Type 0) (script : Script) → IsScript source (keys_of inputs) script
      → OfJob source inputs P → P (job_of script inputs)
  same_job source inputs P script is o =
      subst (λ (x : Script). P (job_of x inputs)) (same_script source (keys_of inputs) o.0 script o.1 is) o.2

  module _ (h : Gives) (source : List ℕ) (inputs : List Input) (m : IsModestFor h w source inputs) (stays : SomeStays (plan_of w))
      (driven : IsDriven h w source inputs J) where
    abbrev job : s.Job
    job = job_of m.0 inputs

    d : DrivenJournal (told_of h w job) (plan_of w) J
    d = of driven
      where
        of : IsDriven h w source inputs J → DrivenJournal (told_of h w job) (plan_of w) J
        of (inl e) = driven_or h w job J (inl e)
        of (inr x) = same_job source inputs (λ j. DrivenJournal (told_of h w j) (plan_of w) J) m.0 m.1 x

    one : (why : Why) → OfTheJob why → JobCause h w J job why → IsAnswered w why
    one why n c = no_other h w job J laws (functions source (keys_of inputs) m.0 m.1) m.2 stays d why n c

    pub answered : (why : Why) → OfTheJob why → OfJob source inputs (λ j. JobCause h w J j why) → IsAnswered w why
    answered why n o = one why n (same_job source inputs (λ j. JobCause h w J j why) m.0 m.1 o)

    pub lost_answered : JobCause h w J job Why.AllLost → IsAnswered w Why.AllLost
    lost_answered c = one Why.AllLost tt c

  -- bytes that are a script within the limits are refused neither as none nor as too long
  no_syntax : (h : Gives) (kind : SyntaxKind) (l c : ℕ) → CauseOf content w risen J (Why.Syntax kind l c) → (source : List ℕ) (inputs : List Input)
      → StandsIn content (files_of w) w.generate source inputs → FitsIn (files_of w) source inputs → (script : Script)
      → IsScript source (keys_of inputs) script → ⊥
  no_syntax h kind l c x source inputs st fits script is =
      script_is_run h w source inputs script is fits (Why.Syntax kind l c) (x source (source_of content w (files_of w) w.generate source inputs st))

  no_too_long : (path : List ℕ) (at : ℕ) → TooLongOf content (files_of w) path at → (source : List ℕ) (inputs : List Input)
      → StandsIn content (files_of w) w.generate source inputs → FitsIn (files_of w) source inputs → (script : Script)
      → IsScript source (keys_of inputs) script → ⊥
  no_too_long path at x source inputs st fits script is =
      not_too_long (files_of w) source inputs path at fits (too_long_in content w (files_of w) w.generate source inputs path at st x)

  pub answers : (why : Why) → EndCause content w risen J why → ¬ risen → (why ≡ Why.WriteFault → ⊥) → Begun why
      → OfLine content w (λ h source inputs. IsDriven h w source inputs J)
      → OfLine content w (λ h source inputs. Answers h w source inputs why)
  answers Why.Done c quiet nw bg dr h given source inputs st fits m stays = tt
  answers Why.WriteFault c quiet nw bg dr h given source inputs st fits m stays = absurd (nw refl)
  answers Why.Memory c quiet nw bg dr h given source inputs st fits m stays = tt
  answers (Why.Fault fault) c quiet nw bg dr h given source inputs st fits m stays = tt
  answers (Why.TooDeepPlain depth) c quiet nw bg dr h given source inputs st fits m stays = c.0
  answers (Why.Endless names) c quiet nw bg dr h given source inputs st fits m stays =
      answered h source inputs m stays (dr h given source inputs st) (Why.Endless names) tt (c.2 h given source inputs st).1
  answers (Why.TooMany held None) c quiet nw bg dr h given source inputs st fits m stays =
      answered h source inputs m stays (dr h given source inputs st) (Why.TooMany held None) tt (c.1 h given source inputs st).1
  answers (Why.TooMany held (Some one)) c quiet nw bg dr h given source inputs st fits m stays =
      answered h source inputs m stays (dr h given source inputs st) (Why.TooMany held (Some one)) tt (c.1 h given source inputs st).1
  answers (Why.NameClash kept one) c quiet nw bg dr h given source inputs st fits m stays =
      answered h source inputs m stays (dr h given source inputs st) (Why.NameClash kept one) tt (c.1 h given source inputs st).1
  answers Why.AllLost c quiet nw bg dr h given source inputs st fits m stays = lost_answered h source inputs m stays (dr h given source inputs st) (c.0, surely_line content w _ c.1 h given source inputs st)
  answers (Why.Syntax kind l k) c quiet nw bg dr h given source inputs st fits m stays = absurd (no_syntax h kind l k c source inputs st.there fits m.0 m.1)
  answers (Why.TooLongInput path at) (inl c) quiet nw bg dr h given source inputs st fits m stays =
      absurd (no_too_long path at c source inputs st.there fits m.0 m.1)
  answers (Why.TooLongInput path at) (inr (inl c)) quiet nw bg dr h given source inputs st fits m stays =
      absurd (memo_short content w path c.0 (has_memo content w w.memo h given) c.2)
  answers (Why.TooLongInput path at) (inr (inr c)) quiet nw bg dr h given source inputs st fits m stays = c.0
  answers (Why.BadMemo path at) c quiet nw bg dr h given source inputs st fits m stays =
      let there = has_memo content w w.memo h given path c.0 in absurd (both there.0 there.1 at there.3 (c.1.0 there.0 there.2))
  answers (Why.ReadFault path) c quiet nw bg dr h given source inputs st fits m stays = absurd (quiet c.1)
  answers Why.Usage c quiet nw bg dr h given source inputs st fits m stays = absurd c
  answers (Why.LogFull path held) c quiet nw bg dr h given source inputs st fits m stays = c.0
  answers (Why.BadLog path at) c quiet nw bg dr h given source inputs st fits m stays = absurd (no_bad_record content w path at c.1 c.3 h given source inputs st)
  answers (Why.OtherJob path) c quiet nw bg dr h given source inputs st fits m stays =
      absurd (own_header content w h path c.1 source inputs (c.3 source inputs st.there).0 (c.3 source inputs st.there).1 st.own)
  answers (Why.KeepFault path) c quiet nw bg dr h given source inputs st fits m stays = absurd (bg path refl)
