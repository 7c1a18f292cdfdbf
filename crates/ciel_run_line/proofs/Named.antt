-- From what was loaded or generated to the job of a line, and why there is none.
use Rattle.std.proofs.Common.{◌≡◌, ◌<◌, ◌≤◌, ◌^◌, ◌+◌, ◌++◌, inl, inr, zero, suc, take, slice_get, ℕ, List, [], ◌∷◌, Option, Some, None, Result, Err, IfSome, Contains, length, map, refl, sym, ap, subst, ◌∙◌, arith}
use Rattle.std.proofs.lemmas.List.{append_assoc, length-map}
use Rattle.std.proofs.lemmas.List.Elements.{Contains-append_left, Contains-push}
use Rattle.std.specs.List.{AllByRecursion}
use Rattle.sky_base.specs.See as s
use Rattle.ciel_io.specs.Tells.{Tells, TellsPart}
use Rattle.ciel_run_load.specs.Reading.{AsksUpTo}
use Rattle.ciel_journal.specs.Entries.{Entry}
use Rattle.ciel_run_load.specs.Found.{Holds}
use Rattle.ciel_run_load.specs.Generated.{generated_inputs, generator}
use Rattle.ciel_run_load.specs.Line as files
use Rattle.ciel_run_load.specs.Line.{Input, keys_of, name_in}
use Rattle.ciel_run_load.specs.Loading.{AllRead, AsksJob, IsLoaded, IsOf, IsReadJob, NotLoaded, RefusedSo, StopsJob}
use Rattle.ciel_run_load.specs.declared.load.NoJob.{NoJob}
use Rattle.ciel_run_load.specs.declared.script.NoScript.{NoScript}
use Rattle.ciel_words.specs.declared.words.Words.{Words}
use Rattle.ciel_io.proofs.Joined.{tells_more}
use Rattle.ciel_run_line.specs.Answering.{AsksLast, CanRunJob, HasEnd, NoLogBy, NoMemoBy, Unread, no_job_view, no_script_view}
use Rattle.ciel_run_line.specs.Given.{IsRecalled}
use Rattle.ciel_run_load.specs.Syntax.{IsSyntaxFault}
use Rattle.ciel_run_line.specs.Causes.{CauseOf, HasJob, NoJobBy, NoneBefore, TooLongOf}
use Rattle.ciel_run_line.specs.Asked.{AsksFor, IsRead, StopsFor, StopsIn, StopsLast}
use Rattle.ciel_run_line.specs.Line.{FitsIn, OfJobFiles, SourceFits, SourceIn, StandsIn, behind_job, files_named, files_of, named, paths_in}
use Rattle.ciel_run_log.specs.declared.why.Why.{Why}

abbrev Files : Type 0
Files = List ℕ → Option (List ℕ)

abbrev at : List ℕ → List (List ℕ × List ℕ) → files.Line
at path inputs = record { script = path; inputs = inputs }

-- ---- a list, and more behind it

get_more : (xs ys : List (List ℕ)) (i : ℕ) (x : List ℕ) → slice_get xs i ≡ Some x → slice_get (xs ++ ys) i ≡ Some x
get_more [] ys i x e = absurd cc
get_more (z ∷ zs) ys zero x e = e
get_more (z ∷ zs) ys (suc i) x e = get_more zs ys i x e

take_more : (xs ys : List (List ℕ)) (i : ℕ) (x : List ℕ) → slice_get xs i ≡ Some x → take (suc i) (xs ++ ys) ≡ take (suc i) xs
take_more [] ys i x e = absurd cc
take_more (z ∷ zs) ys zero x e = refl
take_more (z ∷ zs) ys (suc i) x e = ap (λ l. z ∷ l) (take_more zs ys i x e)

up_to_more : (path : List ℕ) (ps others : List (List ℕ)) (b n : Option (List (List ℕ))) → AsksUpTo path ps b n → AsksUpTo path (ps ++ others) b n
up_to_more path ps others b n a =
    let one : a.0 + 1 ≡ suc a.0 = omega arith in
    let same : take (a.0 + 1) ps ≡ take (a.0 + 1) (ps ++ others) = rw one (sym (take_more ps others a.0 path a.1)) in
    (a.0, get_more ps others a.0 path a.1, subst (Tells b n) same a.2)

-- the first so many of a list are the first of it and what comes behind
first_more : (k : ℕ) (xs ys : List (List ℕ)) → (m : ℕ) × (take m (xs ++ ys) ≡ take k xs)
first_more zero xs ys = (0, refl)
first_more (suc k) [] ys = (0, refl)
first_more (suc k) (x ∷ xs) ys = let r = first_more k xs ys in (suc r.0, ap (λ l. x ∷ l) r.1)

part_of_more : (ps others : List (List ℕ)) (b n : Option (List (List ℕ))) → TellsPart b n ps → TellsPart b n (ps ++ others)
part_of_more ps others b n t = let m = first_more t.0 ps others in (m.0, subst (Tells b n) (sym m.1) t.1)

-- ---- can be run

pub loaded_can : (content : Files) (path : List ℕ) (inputs : List (List ℕ × List ℕ)) (read : List ℕ) (job : s.Job) → length inputs ≤ 256
    → IsLoaded content (at path inputs) read job → CanRunJob job
loaded_can content path inputs read job few l =
    let n : length (map name_in inputs) ≡ length inputs = length-map inputs name_in in
    (map name_in inputs, read, l.read, omega (arith, n, few))

pub generated_can : (lines : ℕ) (job : s.Job) → IsReadJob (keys_of (generated_inputs lines)) generator job → CanRunJob job
generated_can lines job r = (keys_of (generated_inputs lines), generator, r, omega arith)

-- ---- the job of a line

module _ (content : Files) (w : Words) where
  -- the fact, said of a line with these files
  abbrev Said : (Option files.Line → Option ℕ → Type 0) → Type 0
  Said P = P (files_of w) w.generate

  by_path : (P : Option files.Line → Option ℕ → Type 0) (path : List ℕ) → w.script ≡ Some path → P (Some (at path w.inputs)) w.generate → Said P
  by_path P path e p = subst (λ (o : Option (List ℕ)). P (files_named o w.inputs) w.generate) (sym e) p

  by_lines : (P : Option files.Line → Option ℕ → Type 0) (lines : ℕ) → w.script ≡ None → w.generate ≡ Some lines → P None (Some lines) → Said P
  by_lines P lines e g p =
      subst (λ (o : Option (List ℕ)). P (files_named o w.inputs) w.generate) (sym e) (subst (P None) (sym g) p)

  told_is : (told : Option (List ℕ)) (read file : List ℕ) → told ≡ Some file → IfSome told (λ f. read ≡ f) → read ≡ file
  told_is None read file e h = absurd cc
  told_is (Some f) read file e h = h ∙ cc

  pub loaded_of : (path read : List ℕ) (job : s.Job) → w.script ≡ Some path → IsLoaded content (at path w.inputs) read job
      → OfJobFiles content w (λ source inputs. FitsIn (files_of w) source inputs × IsOf source inputs job × (read ≡ source))
  loaded_of path read job e l =
      by_path (λ f g. (source : List ℕ) (inputs : List Input) → StandsIn content f g source inputs → FitsIn f source inputs
      × IsOf source inputs job × (read ≡ source)) path e
      (λ source inputs h. (
        (l.stands source inputs h).0,
        (l.stands source inputs h).1,
        told_is (content path) read source h.source_there l.found,
      ))

  pub generated_of : (lines : ℕ) (read : List ℕ) (job : s.Job) → w.script ≡ None → w.generate ≡ Some lines → read ≡ generator
      → IsOf generator (generated_inputs lines) job
      → OfJobFiles content w (λ source inputs. FitsIn (files_of w) source inputs × IsOf source inputs job × (read ≡ source))
  generated_of lines read job e g same o =
      by_lines (λ f g. (source : List ℕ) (inputs : List Input) → StandsIn content f g source inputs → FitsIn f source inputs
      × IsOf source inputs job × (read ≡ source)) lines e g
      (λ source inputs st. (tt, generated_is source inputs st, same ∙ sym st.0))
    where
      generated_is : (source : List ℕ) (inputs : List Input) → (source ≡ generator) × (inputs ≡ generated_inputs lines) → IsOf source inputs job
      generated_is source inputs st = subst (λ (x : List ℕ × List Input). IsOf x.0 x.1 job) (λ i. (sym st.0 i, sym st.1 i)) o

  module _ (risen : Type 0) where
    -- why there is none
    abbrev None_of : Option files.Line → Option ℕ → Why → Type 0
    None_of f g (Why.Syntax kind l c) = (source : List ℕ) → SourceIn content f g source → SourceFits f source × IsSyntaxFault source kind l c
    None_of f g (Why.ReadFault path) = Contains (paths_in f) path × risen
    None_of f g (Why.TooLongInput path at) = TooLongOf content f path at
    None_of f g Why.Memory = Unit {0}
    None_of f g _ = ⊥

    back : (why : Why) → None_of (files_of w) w.generate why → NoneBefore content w risen [] why
    back (Why.Syntax kind l c) n = n
    back (Why.ReadFault path) n = (Contains-append_left (paths_in (files_of w)) (behind_job w) path n.0, n.1)
    back (Why.TooLongInput path at) n = inl n
    back Why.Memory n = n
    back Why.Done n = absurd n
    back Why.Usage n = absurd n
    back (Why.Fault fault) n = absurd n
    back (Why.Endless names) n = absurd n
    back (Why.TooMany held given) n = absurd n
    back Why.AllLost n = absurd n
    back (Why.NameClash kept given) n = absurd n
    back Why.WriteFault n = absurd n
    back (Why.TooDeepPlain depth) n = absurd n
    back (Why.KeepFault path) n = absurd n
    back (Why.BadLog path at) n = absurd n
    back (Why.OtherJob path) n = absurd n
    back (Why.LogFull path held) n = absurd n
    back (Why.BadMemo path at) n = absurd n

    unloaded : (path : List ℕ) (why : NoJob) → NotLoaded content (at path w.inputs) risen why
        → None_of (Some (at path w.inputs)) w.generate (no_job_view why)
    unloaded path (NoJob.Syntax kind l c) n = n
    unloaded path (NoJob.Failed p) n = n
    unloaded path (NoJob.TooLong p m) n = n
    unloaded path NoJob.Memory n = n

    pub not_loaded_of : (path : List ℕ) (why : NoJob) → w.script ≡ Some path → NotLoaded content (at path w.inputs) risen why
        → NoneBefore content w risen [] (no_job_view why)
    not_loaded_of path why e n = back (no_job_view why) (by_path (λ f g. None_of f g (no_job_view why)) path e (unloaded path why n))

    unscripted : (lines : ℕ) (why : NoScript) → RefusedSo generator why → None_of None (Some lines) (no_script_view why)
    unscripted lines (NoScript.Syntax kind l c) n = λ source e. (tt, subst (λ (x : List ℕ). IsSyntaxFault x kind l c) (sym e) n)
    unscripted lines NoScript.Memory n = tt

    pub not_generated_of : (lines : ℕ) (why : NoScript) → w.script ≡ None → w.generate ≡ Some lines → RefusedSo generator why
        → NoneBefore content w risen [] (no_script_view why)
    not_generated_of lines why e g n = back (no_script_view why)
        (by_lines (λ f h. None_of f h (no_script_view why)) lines e g (unscripted lines why n))

    -- told before a log is looked at, it is told
    pub before_none : (why : Why) → NoneBefore content w risen [] why → NoJobBy content w risen [] why
    before_none Why.Done n = n
    before_none Why.Usage n = n
    before_none (Why.Syntax kind l c) n = n
    before_none (Why.Fault fault) n = n
    before_none (Why.Endless names) n = n
    before_none (Why.TooMany held given) n = n
    before_none Why.AllLost n = n
    before_none (Why.NameClash kept given) n = n
    before_none (Why.ReadFault path) n = n
    before_none Why.WriteFault n = n
    before_none Why.Memory n = n
    before_none (Why.TooLongInput path at) (inl n) = inl n
    before_none (Why.TooLongInput path at) (inr n) = inr (inl n)
    before_none (Why.TooDeepPlain depth) n = n
    before_none (Why.KeepFault path) n = n
    before_none (Why.BadLog path at) n = n
    before_none (Why.OtherJob path) n = n
    before_none (Why.BadMemo path at) n = n
    before_none (Why.LogFull path held) n = n

    -- whatever the journal is
    pub no_job_cause : (J : List Entry) (why : Why) → NoJobBy content w risen [] why → CauseOf content w risen J why
    no_job_cause J (Why.Syntax kind l c) n = n
    no_job_cause J (Why.ReadFault path) n = n
    no_job_cause J (Why.TooLongInput path at) n = n
    no_job_cause J (Why.BadMemo path at) n = n
    no_job_cause J Why.Memory n = n
    no_job_cause J Why.Done n = absurd n
    no_job_cause J Why.Usage n = absurd n
    no_job_cause J (Why.Fault fault) n = absurd n
    no_job_cause J (Why.Endless names) n = absurd n
    no_job_cause J (Why.TooMany held given) n = absurd n
    no_job_cause J Why.AllLost n = absurd n
    no_job_cause J (Why.NameClash kept given) n = absurd n
    no_job_cause J (Why.KeepFault path) n = absurd n
    no_job_cause J (Why.BadLog path at) n = absurd n
    no_job_cause J (Why.OtherJob path) n = absurd n
    no_job_cause J (Why.LogFull path held) n = absurd n
    no_job_cause J Why.WriteFault n = absurd n
    no_job_cause J (Why.TooDeepPlain depth) n = absurd n

    -- it is no end of a job
    pub no_end : (why : Why) → NoJobBy content w risen [] why → HasEnd (Err why) → ⊥
    no_end Why.Done n e = e
    no_end Why.Usage n e = e
    no_end (Why.Syntax kind l c) n e = e
    no_end (Why.Fault fault) n e = n
    no_end (Why.Endless names) n e = e
    no_end (Why.TooMany held given) n e = e
    no_end Why.AllLost n e = e
    no_end (Why.NameClash kept given) n e = e
    no_end (Why.ReadFault path) n e = e
    no_end Why.WriteFault n e = e
    no_end Why.Memory n e = e
    no_end (Why.TooLongInput path at) n e = e
    no_end (Why.TooDeepPlain depth) n e = e
    no_end (Why.KeepFault path) n e = e
    no_end (Why.BadLog path at) n e = e
    no_end (Why.OtherJob path) n e = e
    no_end (Why.BadMemo path at) n e = e
    no_end (Why.LogFull path held) n e = e

  -- ---- all was read

  pub loaded_all : (path : List ℕ) → w.script ≡ Some path → AllRead content (at path w.inputs) → IsRead content (files_of w)
  loaded_all path e a = by_path (λ f g. IsRead content f) path e a

  pub generated_all : (lines : ℕ) → w.script ≡ None → w.generate ≡ Some lines → IsRead content (files_of w)
  generated_all lines e g = by_lines (λ f h. IsRead content f) lines e g tt

  -- ---- which paths were asked

  pub loaded_asks : (path : List ℕ) (b n : Option (List (List ℕ))) → w.script ≡ Some path → Tells b n (files.paths_of (at path w.inputs))
      → Tells b n (paths_in (files_of w))
  loaded_asks path b n e t = by_path (λ f g. Tells b n (paths_in f)) path e t

  asked_so : (why : NoJob) (ps others : List (List ℕ)) (b n : Option (List (List ℕ))) → AsksJob why ps b n → AsksFor (no_job_view why) ps others b n
  asked_so (NoJob.Syntax kind l c) ps others b n a = a
  asked_so (NoJob.Failed p) ps others b n a = up_to_more p ps others b n a
  asked_so (NoJob.TooLong p m) ps others b n a = up_to_more p ps others b n a
  asked_so NoJob.Memory ps others b n a = part_of_more ps others b n a

  pub not_loaded_asks : (path : List ℕ) (why : NoJob) (others : List (List ℕ)) (b n : Option (List (List ℕ))) → w.script ≡ Some path
      → AsksJob why (files.paths_of (at path w.inputs)) b n → AsksFor (no_job_view why) (paths_in (files_of w)) others b n
  not_loaded_asks path why others b n e a = by_path (λ f g. AsksFor (no_job_view why) (paths_in f) others b n) path e
      (asked_so why (files.paths_of (at path w.inputs)) others b n a)

  -- ---- in which order

  order_so : (why : NoJob) (path : List ℕ) (b n : Option (List (List ℕ))) → StopsJob content (at path w.inputs) b n why
      → StopsFor content (Some (at path w.inputs)) w.memo w.resume b n (no_job_view why)
  order_so (NoJob.Syntax kind l c) path b n s = tt
  order_so (NoJob.Failed p) path b n s = inl s
  order_so (NoJob.TooLong p m) path b n s = inl s
  order_so NoJob.Memory path b n s = tt

  pub not_loaded_order : (path : List ℕ) (why : NoJob) (b n : Option (List (List ℕ))) → w.script ≡ Some path
      → StopsJob content (at path w.inputs) b n why → StopsFor content (files_of w) w.memo w.resume b n (no_job_view why)
  not_loaded_order path why b n e s = by_path (λ f g. StopsFor content f w.memo w.resume b n (no_job_view why)) path e (order_so why path b n s)

  pub not_generated_order : (why : NoScript) (f : Option files.Line) (memo resume : Option (List ℕ)) (b n : Option (List (List ℕ)))
      → StopsFor content f memo resume b n (no_script_view why)
  not_generated_order (NoScript.Syntax kind l c) f memo resume b n = tt
  not_generated_order NoScript.Memory f memo resume b n = tt

-- ---- a file that is read behind these

get_here : (xs ys : List (List ℕ)) (x : List ℕ) → slice_get (xs ++ x ∷ ys) (length xs) ≡ Some x
get_here [] ys x = refl
get_here (z ∷ zs) ys x = get_here zs ys x

take_here : (xs ys : List (List ℕ)) (x : List ℕ) → take (length xs + 1) (xs ++ x ∷ ys) ≡ xs ++ x ∷ []
take_here [] ys x = refl
take_here (z ∷ zs) ys x = let one : suc (length zs) + 1 ≡ suc (length zs + 1) = omega arith in rw one (ap (λ l. z ∷ l) (take_here zs ys x))

up_to_here : (ps qs : List (List ℕ)) (path : List ℕ) (b m n : Option (List (List ℕ))) → Tells b m ps → Tells m n (path ∷ [])
    → AsksUpTo path (ps ++ path ∷ qs) b n
up_to_here ps qs path b m n t u =
    (length ps, get_here ps qs path, subst (Tells b n) (sym (take_here ps qs path)) (tells_more b m n ps (path ∷ []) t u))

take_behind : (ps : List (List ℕ)) (k : ℕ) (qs : List (List ℕ)) → take (length ps + k) (ps ++ qs) ≡ ps ++ take k qs
take_behind [] k qs = let none : 0 + k ≡ k = omega arith in rw none refl
take_behind (p ∷ ps) k qs = let one : suc (length ps) + k ≡ suc (length ps + k) = omega arith in rw one (ap (λ l. p ∷ l) (take_behind ps k qs))

part_behind : (ps qs rest : List (List ℕ)) (b m n : Option (List (List ℕ))) → Tells b m ps → TellsPart m n qs → TellsPart b n (ps ++ (qs ++ rest))
part_behind ps qs rest b m n t a =
    subst (TellsPart b n) (append_assoc ps qs rest)
    (part_of_more (ps ++ qs) rest b n
    (length ps + a.0, subst (Tells b n) (sym (take_behind ps a.0 qs)) (tells_more b m n ps (take a.0 qs) t a.1)))

-- its path is the first of those behind
up_to_named : (ps rest : List (List ℕ)) (o : Option (List ℕ)) (path : List ℕ) (b m n : Option (List (List ℕ))) → Tells b m ps → o ≡ Some path
    → Tells m n (named o) → AsksUpTo path (ps ++ (named o ++ rest)) b n
up_to_named ps rest None path b m n t e a = let bad : None ≡ Some path = e in absurd cc
up_to_named ps rest (Some p) path b m n t e a =
    let same : p ≡ path = cc in
    subst (λ (q : List ℕ). AsksUpTo q (ps ++ (p ∷ rest)) b n) same (up_to_here ps rest p b m n t a)

module _ (content : Files) (o : Option (List ℕ)) (most : ℕ) (risen : Type 0) (ps rest : List (List ℕ)) (b m n : Option (List (List ℕ)))
    (t : Tells b m ps) where
  pub unread_asks : (why : Why) → Unread content o most risen why → AsksLast why (named o) m n → AsksFor why ps (named o ++ rest) b n
  unread_asks (Why.ReadFault path) c a = up_to_named ps rest o path b m n t c.0 a
  unread_asks (Why.TooLongInput path at) c a = up_to_named ps rest o path b m n t c.0 a
  unread_asks Why.Memory c a = part_behind ps (named o) rest b m n t a
  unread_asks Why.Done c a = absurd c
  unread_asks Why.Usage c a = absurd c
  unread_asks (Why.Syntax kind l k) c a = absurd c
  unread_asks (Why.Fault fault) c a = absurd c
  unread_asks (Why.Endless names) c a = absurd c
  unread_asks (Why.TooMany held given) c a = absurd c
  unread_asks Why.AllLost c a = absurd c
  unread_asks (Why.NameClash kept given) c a = absurd c
  unread_asks Why.WriteFault c a = absurd c
  unread_asks (Why.TooDeepPlain depth) c a = absurd c
  unread_asks (Why.KeepFault path) c a = absurd c
  unread_asks (Why.BadLog path at) c a = absurd c
  unread_asks (Why.OtherJob path) c a = absurd c
  unread_asks (Why.LogFull path held) c a = absurd c
  unread_asks (Why.BadMemo path at) c a = absurd c

module _ (content : Files) (w : Words) (risen : Type 0) (ps : List (List ℕ)) (b m n : Option (List (List ℕ))) (t : Tells b m ps) where
  pub memo_asks : (why : Why) → NoMemoBy content w.memo risen why → AsksLast why (named w.memo) m n → AsksFor why ps (behind_job w) b n
  memo_asks (Why.BadMemo path at) c a = up_to_named ps (named w.resume) w.memo path b m n t c.0 a
  memo_asks (Why.ReadFault path) c a = up_to_named ps (named w.resume) w.memo path b m n t c.0 a
  memo_asks (Why.TooLongInput path at) c a = up_to_named ps (named w.resume) w.memo path b m n t c.0 a
  memo_asks Why.Memory c a = part_behind ps (named w.memo) (named w.resume) b m n t a
  memo_asks Why.Done c a = absurd c
  memo_asks Why.Usage c a = absurd c
  memo_asks (Why.Syntax kind l k) c a = absurd c
  memo_asks (Why.Fault fault) c a = absurd c
  memo_asks (Why.Endless names) c a = absurd c
  memo_asks (Why.TooMany held given) c a = absurd c
  memo_asks Why.AllLost c a = absurd c
  memo_asks (Why.NameClash kept given) c a = absurd c
  memo_asks Why.WriteFault c a = absurd c
  memo_asks (Why.TooDeepPlain depth) c a = absurd c
  memo_asks (Why.KeepFault path) c a = absurd c
  memo_asks (Why.BadLog path at) c a = absurd c
  memo_asks (Why.OtherJob path) c a = absurd c
  memo_asks (Why.LogFull path held) c a = absurd c

-- the log is read behind the memo
nil_behind : (xs : List (List ℕ)) → xs ++ [] ≡ xs
nil_behind [] = refl
nil_behind (x ∷ xs) = ap (λ l. x ∷ l) (nil_behind xs)

module _ (content : Files) (w : Words) (most : ℕ) (risen : Type 0) (ps : List (List ℕ)) (b m n : Option (List (List ℕ)))
    (t : Tells b m (ps ++ named w.memo)) where
  abbrev All : List (List ℕ)
  All = (ps ++ named w.memo) ++ (named w.resume ++ [])

  all_is : All ≡ ps ++ behind_job w
  all_is = append_assoc ps (named w.memo) (named w.resume ++ []) ∙ ap (λ l. ps ++ (named w.memo ++ l)) (nil_behind (named w.resume))

  pub log_asks : (why : Why) → Unread content w.resume most risen why → AsksLast why (named w.resume) m n → AsksFor why ps (behind_job w) b n
  log_asks (Why.ReadFault path) c a =
      subst (λ l. AsksUpTo path l b n) all_is (up_to_named (ps ++ named w.memo) [] w.resume path b m n t c.0 a)
  log_asks (Why.TooLongInput path at) c a =
      subst (λ l. AsksUpTo path l b n) all_is (up_to_named (ps ++ named w.memo) [] w.resume path b m n t c.0 a)
  log_asks Why.Memory c a = subst (TellsPart b n) all_is (part_behind (ps ++ named w.memo) (named w.resume) [] b m n t a)
  log_asks Why.Done c a = absurd c
  log_asks Why.Usage c a = absurd c
  log_asks (Why.Syntax kind l k) c a = absurd c
  log_asks (Why.Fault fault) c a = absurd c
  log_asks (Why.Endless names) c a = absurd c
  log_asks (Why.TooMany held given) c a = absurd c
  log_asks Why.AllLost c a = absurd c
  log_asks (Why.NameClash kept given) c a = absurd c
  log_asks Why.WriteFault c a = absurd c
  log_asks (Why.TooDeepPlain depth) c a = absurd c
  log_asks (Why.KeepFault path) c a = absurd c
  log_asks (Why.BadLog path at) c a = absurd c
  log_asks (Why.OtherJob path) c a = absurd c
  log_asks (Why.LogFull path held) c a = absurd c
  log_asks (Why.BadMemo path at) c a = absurd c

-- ---- where it wasn't read, all before it was

tells_named : (o : Option (List ℕ)) (path : List ℕ) (m n : Option (List (List ℕ))) → o ≡ Some path → Tells m n (named o) → Tells m n (path ∷ [])
tells_named None path m n e a = let bad : None ≡ Some path = e in absurd cc
tells_named (Some p) path m n e a = let same : p ≡ path = cc in subst (λ (q : List ℕ). Tells m n (q ∷ [])) same a

module _ (content : Files) (f : Option files.Line) (w : Words) (risen : Type 0) (b m n : Option (List (List ℕ))) (t : Tells b m (paths_in f))
    (read : IsRead content f) where
  pub memo_order : (why : Why) → NoMemoBy content w.memo risen why → AsksLast why (named w.memo) m n → StopsFor content f w.memo w.resume b n why
  memo_order (Why.ReadFault path) c a =
      inr (inl (c.0, read, tells_more b m n (paths_in f) (path ∷ []) t (tells_named w.memo path m n c.0 a)))
  memo_order (Why.TooLongInput path at) c a =
      inr (inl (c.0, read, tells_more b m n (paths_in f) (path ∷ []) t (tells_named w.memo path m n c.0 a)))
  memo_order (Why.BadMemo path at) c a = (c.0, read, tells_more b m n (paths_in f) (path ∷ []) t (tells_named w.memo path m n c.0 a))
  memo_order Why.Memory c a = tt
  memo_order Why.Done c a = absurd c
  memo_order Why.Usage c a = absurd c
  memo_order (Why.Syntax kind l k) c a = absurd c
  memo_order (Why.Fault fault) c a = absurd c
  memo_order (Why.Endless names) c a = absurd c
  memo_order (Why.TooMany held given) c a = absurd c
  memo_order Why.AllLost c a = absurd c
  memo_order (Why.NameClash kept given) c a = absurd c
  memo_order Why.WriteFault c a = absurd c
  memo_order (Why.TooDeepPlain depth) c a = absurd c
  memo_order (Why.KeepFault path) c a = absurd c
  memo_order (Why.BadLog path at) c a = absurd c
  memo_order (Why.OtherJob path) c a = absurd c
  memo_order (Why.LogFull path held) c a = absurd c

module _ (content : Files) (f : Option files.Line) (w : Words) (most : ℕ) (risen : Type 0) (b m n : Option (List (List ℕ)))
    (t : Tells b m (paths_in f ++ named w.memo)) (read : IsRead content f) (recalled : IsRecalled content w.memo) where
  last_asked : (path : List ℕ) → w.resume ≡ Some path → Tells m n (named w.resume) → Tells b n (paths_in f ++ (named w.memo ++ path ∷ []))
  last_asked path e a =
      subst (Tells b n) (append_assoc (paths_in f) (named w.memo) (path ∷ []))
      (tells_more b m n (paths_in f ++ named w.memo) (path ∷ []) t (tells_named w.resume path m n e a))

  pub log_order : (why : Why) → Unread content w.resume most risen why → AsksLast why (named w.resume) m n → StopsFor content f w.memo w.resume b n why
  log_order (Why.ReadFault path) c a = inr (inr (c.0, read, recalled, last_asked path c.0 a))
  log_order (Why.TooLongInput path at) c a = inr (inr (c.0, read, recalled, last_asked path c.0 a))
  log_order (Why.BadMemo path at) c a = absurd c
  log_order Why.Memory c a = tt
  log_order Why.Done c a = absurd c
  log_order Why.Usage c a = absurd c
  log_order (Why.Syntax kind l k) c a = absurd c
  log_order (Why.Fault fault) c a = absurd c
  log_order (Why.Endless names) c a = absurd c
  log_order (Why.TooMany held given) c a = absurd c
  log_order Why.AllLost c a = absurd c
  log_order (Why.NameClash kept given) c a = absurd c
  log_order Why.WriteFault c a = absurd c
  log_order (Why.TooDeepPlain depth) c a = absurd c
  log_order (Why.KeepFault path) c a = absurd c
  log_order (Why.BadLog path at) c a = absurd c
  log_order (Why.OtherJob path) c a = absurd c
  log_order (Why.LogFull path held) c a = absurd c

-- ---- why it wasn't read is a cause

has_first : (ps qs : List (List ℕ)) (o : Option (List ℕ)) (path : List ℕ) → o ≡ Some path → Contains (ps ++ (named o ++ qs)) path
has_first ps qs None path e = let bad : None ≡ Some path = e in absurd cc
has_first ps qs (Some p) path e =
    let same : p ≡ path = cc in
    subst (λ (q : List ℕ). Contains (ps ++ (p ∷ qs)) q) same
    (subst (λ l. Contains l p) (append_assoc ps (p ∷ []) qs) (Contains-append_left (ps ++ p ∷ []) qs p (Contains-push ps p)))

module _ (content : Files) (w : Words) (first risen : Type 0) (later : first → risen) (job : HasJob content w) where
  named_memo : (path : List ℕ) → w.memo ≡ Some path → Contains (paths_in (files_of w) ++ behind_job w) path
  named_memo path e = has_first (paths_in (files_of w)) (named w.resume) w.memo path e

  named_log : (path : List ℕ) → w.resume ≡ Some path → Contains (paths_in (files_of w) ++ behind_job w) path
  named_log path e =
      subst (λ l. Contains l path)
      (append_assoc (paths_in (files_of w)) (named w.memo) (named w.resume ++ []) ∙ ap (λ l. paths_in (files_of w) ++ (named w.memo ++ l))
      (nil_behind (named w.resume)))
      (has_first (paths_in (files_of w) ++ named w.memo) [] w.resume path e)

  pub memo_job : (why : Why) → NoMemoBy content w.memo first why → NoneBefore content w risen [] why
  memo_job (Why.ReadFault path) c = (named_memo path c.0, later c.1)
  memo_job (Why.TooLongInput path at) c = inr (c.0, c.1, c.2, job)
  memo_job (Why.BadMemo path at) c = (c.0, (c.1, job))
  memo_job Why.Memory c = tt
  memo_job Why.Done c = absurd c
  memo_job Why.Usage c = absurd c
  memo_job (Why.Syntax kind l k) c = absurd c
  memo_job (Why.Fault fault) c = absurd c
  memo_job (Why.Endless names) c = absurd c
  memo_job (Why.TooMany held given) c = absurd c
  memo_job Why.AllLost c = absurd c
  memo_job (Why.NameClash kept given) c = absurd c
  memo_job Why.WriteFault c = absurd c
  memo_job (Why.TooDeepPlain depth) c = absurd c
  memo_job (Why.KeepFault path) c = absurd c
  memo_job (Why.BadLog path at) c = absurd c
  memo_job (Why.OtherJob path) c = absurd c
  memo_job (Why.LogFull path held) c = absurd c

  pub log_job : (why : Why) → NoLogBy content w.resume first why → NoJobBy content w risen [] why
  log_job (Why.ReadFault path) c = (named_log path c.0, later c.1)
  log_job (Why.TooLongInput path at) c = inr (inr (c.0, c.1, c.2, job))
  log_job (Why.BadMemo path at) c = absurd c
  log_job Why.Memory c = tt
  log_job Why.Done c = absurd c
  log_job Why.Usage c = absurd c
  log_job (Why.Syntax kind l k) c = absurd c
  log_job (Why.Fault fault) c = absurd c
  log_job (Why.Endless names) c = absurd c
  log_job (Why.TooMany held given) c = absurd c
  log_job Why.AllLost c = absurd c
  log_job (Why.NameClash kept given) c = absurd c
  log_job Why.WriteFault c = absurd c
  log_job (Why.TooDeepPlain depth) c = absurd c
  log_job (Why.KeepFault path) c = absurd c
  log_job (Why.BadLog path at) c = absurd c
  log_job (Why.OtherJob path) c = absurd c
  log_job (Why.LogFull path held) c = absurd c

-- ---- the names of its inputs are short, and there are few

pub short_keys : (is : List (List ℕ × List ℕ)) (inputs : List Input) → keys_of inputs ≡ map name_in is
    → AllByRecursion (λ (i : List ℕ × List ℕ). length i.0 ≤ 64) is → AllByRecursion (λ (i : List ℕ × List ℕ). length i.0 ≤ 64) inputs
short_keys is [] e s = tt
short_keys [] (b ∷ bs) e s = absurd cc
short_keys (i ∷ is) (b ∷ bs) e s =
    let one : i.0 ≡ b.0 = cc in
    let rest : keys_of bs ≡ map name_in is = cc in
    (subst (λ (key : List ℕ). length key ≤ 64) one s.0, short_keys is bs rest s.1)

pub few_inputs : (is : List (List ℕ × List ℕ)) (inputs : List Input) → keys_of inputs ≡ map name_in is → length is ≤ 256 → length inputs ≤ 256
few_inputs is inputs e few =
    let a : length (keys_of inputs) ≡ length inputs = length-map inputs (λ (i : Input). i.0) in
    let b : length (map name_in is) ≡ length is = length-map is name_in in
    let c = ap length e in
    omega (arith, a, b, c, few)
