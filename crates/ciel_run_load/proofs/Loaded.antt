-- From what was read to the job that a line names, and why there is none.
use Rattle.std.proofs.Common.{◌≡◌, ◌≤◌, inl, inr, ℕ, zero, suc, ◌+◌, List, [], ◌∷◌, Option, Some, None, IfSome, Err, length, map, slice_get, take}
use Rattle.std.proofs.Common.{refl, sym, ap, subst, ◌∙◌, arith}
use Rattle.sky_base.specs.See.{Job}
use Rattle.sky_base.specs.Tree.{Script}
use Rattle.ciel_io.specs.Tells.{Tells, TellsPart}
use Rattle.sky_parse.specs.Source.{IsScript}
use Rattle.ciel_run_load.specs.Line.{Input, Line, keys_of, name_in, path_in, paths_of}
use Rattle.ciel_run_load.specs.Found.{HoldAll, Holds, PassesIfTold, input_limit, limit}
use Rattle.ciel_run_load.specs.Reading.{AsksEach, FitIfTold, ReadAll, StopsIn, StopsSo, UnreadOf, UnreadSo}
use Rattle.ciel_run_load.specs.Loading.{AllRead, AsksJob, HasScript, IsLoaded, NotLoaded, StopsAt, StopsJob, unread}
use Rattle.ciel_run_load.specs.declared.read.Unread.{Unread}
use Rattle.ciel_io.proofs.Joined.{tells_more}
use Rattle.ciel_run_load.proofs.Taken.{all_read, asks_first, asks_more, there}

abbrev Files : Type 0
Files = List ℕ → Option (List ℕ)

abbrev Named : Type 0
Named = List ℕ × List ℕ

-- the names of inputs that stand where a line says are those of the line
held_keys : (content : Files) (is : List Named) (bs : List Input) → HoldAll content is bs → keys_of bs ≡ map name_in is
held_keys content [] [] h = refl
held_keys content [] (b ∷ bs) h = absurd h
held_keys content (i ∷ is) [] h = absurd h
held_keys content (i ∷ is) (b ∷ bs) h = (λ j. h.0 j ∷ held_keys content is bs h.2 j)

-- so are those of inputs that were read
read_keys : (content : Files) (is : List Named) (bs : List Input) → ReadAll content is bs → keys_of bs ≡ map name_in is
read_keys content [] [] r = refl
read_keys content [] (b ∷ bs) r = absurd r
read_keys content (i ∷ is) [] r = absurd r
read_keys content (i ∷ is) (b ∷ bs) r = (λ j. r.0.0 j ∷ read_keys content is bs r.1 j)

source_is : (told : Option (List ℕ)) (read source : List ℕ) → told ≡ Some source → IfSome told (λ file. read ≡ file) → read ≡ source
source_is None read source e h = absurd cc
source_is (Some f) read source e h = h ∙ cc

-- what a job asks where a file wasn't read is what its reads asked
pub job_asks : (A : Type 0) (e : Unread) (b n : Option (List (List ℕ))) (ps : List (List ℕ)) → AsksEach {A = A} (Err e) ps b n
    → AsksJob (unread e) ps b n
job_asks A (Unread.Failed path) b n ps a = a
job_asks A (Unread.TooLong path at) b n ps a = a
job_asks A Unread.Memory b n ps a = a

module _ (content : Files) (path : List ℕ) (is : List Named) where
  abbrev line : Line
  line = record { script = path; inputs = is }

  -- the script of a line was read, and is one
  script_is : (read : List ℕ) (keys : List (List ℕ)) (script : Script) → IfSome (content path) (λ file. read ≡ file) → length read ≤ limit → keys
      ≡ map name_in is → IsScript read keys script
      → (source : List ℕ) (inputs : List Input) → Holds content line source inputs → (length source ≤ limit) × IsScript source (keys_of inputs) script
  script_is read keys script found within named s source inputs h =
      let same : read ≡ source = source_is (content path) read source h.source_there found in
      let their : keys ≡ keys_of inputs = named ∙ sym (held_keys content is inputs h.inputs_there) in (
        subst (λ (bytes : List ℕ). length bytes ≤ limit) same within,
        subst (λ (bytes : List ℕ). IsScript bytes (keys_of inputs) script) same (subst (λ (ks : List (List ℕ)). IsScript read ks script) their s),
      )

  pub loaded : (job : Job) (read : List ℕ) (keys : List (List ℕ)) → IfSome (content path) (λ file. read ≡ file) → length read ≤ limit → keys
      ≡ map name_in is → IsScript read keys job.script
      → ReadAll content is job.inputs → IsLoaded content line read job
  loaded job read keys found within named s all = record {
    read = record {
      is = subst (λ (ks : List (List ℕ)). IsScript read ks job.script) named s;
      within = within;
      named = read_keys content is job.inputs all;
    };
    found = found;
    stands = λ source inputs h.
        let t = script_is read keys job.script found within named s source inputs h in
        let r = all_read content is job.inputs inputs all h.inputs_there in
        ((t.0, r.1), (t.1, r.0));
  }

  -- the script wasn't read
  pub script_unread : (risen : Type 0) (e : Unread) → UnreadSo content path limit risen e → NotLoaded content line risen (unread e)
  script_unread risen (Unread.Failed at) u = ((0, omega arith, sym u.0), u.1)
  script_unread risen (Unread.TooLong at n) u = (
    inl (u.0, u.1, subst (λ (p : List ℕ). PassesIfTold (content p) limit) (sym u.0) u.2),
    λ source inputs h. inl (u.0, u.1, subst (λ (told : Option (List ℕ)). PassesIfTold told limit) h.source_there u.2),
  )
  script_unread risen Unread.Memory u = tt

  -- an input wasn't
  pub input_unread : (risen later : Type 0) (e : Unread) (read : List ℕ) (keys : List (List ℕ)) (script : Script) → (risen → later)
      → IfSome (content path) (λ file. read ≡ file) → length read ≤ limit → keys ≡ map name_in is → IsScript read keys script
      → UnreadOf content is risen e → NotLoaded content line later (unread e)
  input_unread risen later (Unread.Failed at) read keys script f found within named s u = (there path at (map path_in is) u.0, f u.1)
  input_unread risen later (Unread.TooLong at n) read keys script f found within named s u = (
    inr (u.0, u.1, u.2),
    λ source inputs h.
        let t = script_is read keys script found within named s source inputs h in
        inr (t.0, (script, t.1), u.1, u.3 inputs h.inputs_there),
  )
  input_unread risen later Unread.Memory read keys script f found within named s u = tt

  -- the bytes are none
  pub syntax_is : (told : Option (List ℕ)) (read source : List ℕ) (P : List ℕ → Type 0) → told ≡ Some source → IfSome told (λ file. read ≡ file)
      → P read → P source
  syntax_is told read source P e found p = subst P (source_is told read source e found) p

  -- ---- which paths were asked

  pub script_part : (b n : Option (List (List ℕ))) → Tells b n (path ∷ []) → TellsPart b n (paths_of line)
  script_part b n t = (1, t)

  pub all_asked : (b m n : Option (List (List ℕ))) → Tells b m (path ∷ []) → Tells m n (map path_in is) → Tells b n (paths_of line)
  all_asked b m n t u = tells_more b m n (path ∷ []) (map path_in is) t u

  pub input_asked : (A : Type 0) (e : Unread) (b m n : Option (List (List ℕ))) → Tells b m (path ∷ [])
      → AsksEach {A = A} (Err e) (map path_in is) m n → AsksJob (unread e) (paths_of line) b n
  input_asked A e b m n t u = job_asks A e b n (paths_of line) (asks_more {A = A} (Err e) b m n path (map path_in is) t u)

  pub script_asked : (A : Type 0) (e : Unread) (b n : Option (List (List ℕ))) → AsksEach {A = A} (Err e) (path ∷ []) b n
      → AsksJob (unread e) (paths_of line) b n
  script_asked A e b n u = job_asks A e b n (paths_of line) (asks_first A A e b n path (map path_in is) u)

  -- ---- in which order

  -- the script is within its limit and is one, where files tell it
  has_script : (told : Option (List ℕ)) (read : List ℕ) (keys : List (List ℕ)) (script : Script) → IfSome told (λ file. read ≡ file)
      → length read ≤ limit → keys ≡ map name_in is → IsScript read keys script
      → IfSome told (λ source. (length source ≤ limit) × ((script : Script) × IsScript source (map name_in is) script))
  has_script None read keys script found within named s = tt
  has_script (Some file) read keys script found within named s = (
    subst (λ (bytes : List ℕ). length bytes ≤ limit) found within,
    (script, subst (λ (bytes : List ℕ). IsScript bytes (map name_in is) script) found (subst (λ (ks : List (List ℕ)). IsScript read ks script) named s)),
  )

  -- the script wasn't read
  script_stops_at : (at : List ℕ) (b n : Option (List (List ℕ))) (k : ℕ) → slice_get (path ∷ []) k ≡ Some at → Tells b n (take (k + 1) (path ∷ []))
      → StopsAt content line at b n
  script_stops_at at b n zero e t =
      let same : path ≡ at = cc in
      inl (sym same, subst (λ (p : List ℕ). Tells b n (p ∷ [])) same t)
  script_stops_at at b n (suc k) e t = absurd cc

  pub script_stops : (A : Type 0) (e : Unread) (b n : Option (List (List ℕ))) → AsksEach {A = A} (Err e) (path ∷ []) b n
      → StopsJob content line b n (unread e)
  script_stops A (Unread.Failed at) b n a = script_stops_at at b n a.0 a.1 a.2
  script_stops A (Unread.TooLong at most) b n a = script_stops_at at b n a.0 a.1 a.2
  script_stops A Unread.Memory b n a = tt

  -- an input wasn't
  input_stops_at : (at : List ℕ) (b m n : Option (List (List ℕ))) → HasScript content line → Tells b m (path ∷ []) → StopsIn content is at m n
      → StopsAt content line at b n
  input_stops_at at b m n h t s = inr (h, (s.0, s.1, s.2, tells_more b m n (path ∷ []) (take (s.0 + 1) (map path_in is)) t s.3))

  pub input_stops : (e : Unread) (b m n : Option (List (List ℕ))) (read : List ℕ) (keys : List (List ℕ)) (script : Script)
      → IfSome (content path) (λ file. read ≡ file) → length read ≤ limit → keys ≡ map name_in is → IsScript read keys script
      → Tells b m (path ∷ []) → StopsSo content is m n e → StopsJob content line b n (unread e)
  input_stops (Unread.Failed at) b m n read keys script found within named s t u =
      input_stops_at at b m n (has_script (content path) read keys script found within named s) t u
  input_stops (Unread.TooLong at most) b m n read keys script found within named s t u =
      input_stops_at at b m n (has_script (content path) read keys script found within named s) t u
  input_stops Unread.Memory b m n read keys script found within named s t u = tt

-- ---- all was read

fit_one : (told : Option (List ℕ)) (bytes : List ℕ) → IfSome told (λ file. bytes ≡ file) → length bytes ≤ input_limit
    → IfSome told (λ file. length file ≤ input_limit)
fit_one None bytes e h = tt
fit_one (Some file) bytes e h = subst (λ (b : List ℕ). length b ≤ input_limit) e h

fit_all : (content : Files) (is : List Named) (bs : List Input) → ReadAll content is bs → FitIfTold content is
fit_all content [] bs r = tt
fit_all content (i ∷ is) [] r = absurd r
fit_all content (i ∷ is) (b ∷ bs) r = (fit_one (content i.1) b.1 r.0.1 r.0.2, fit_all content is bs r.1)

pub all_fit : (content : Files) (path : List ℕ) (is : List Named) (read : List ℕ) (keys : List (List ℕ)) (script : Script) (bs : List Input)
    → IfSome (content path) (λ file. read ≡ file) → length read ≤ limit → keys ≡ map name_in is → IsScript read keys script → ReadAll content is bs
    → AllRead content (record { script = path; inputs = is })
all_fit content path is read keys script bs found within named s all =
    (has_script content path is (content path) read keys script found within named s, fit_all content is bs all)
