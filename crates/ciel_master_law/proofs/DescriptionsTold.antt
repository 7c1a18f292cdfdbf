-- Descriptions of the real job by names tell what the master reads from them.
use Rattle.std.proofs.Common.{◌≡◌, ℕ, suc, List, [], ◌∷◌, ◌++◌, length, map, Bool, true, false, cond, ◌+◌, ◌||◌, nat_lt, Option, Some, None, ◌⊎◌, inl}
use Rattle.std.proofs.Common.{inr, refl, ap, sym, ◌∙◌, subst}
use Rattle.std.specs.Option.{option_map}
use Rattle.std.proofs.lemmas.Bool.{lt-ltb}
use Rattle.std.proofs.lemmas.List.{append-nil, map-append}
use Rattle.sky_base.specs.Tree.{block_nodes}
use Rattle.sky_base.specs.Eval.{Body, bind, body_of, find_body, find_body_if, find_fun, find_fun_if, is_one_of}
use Rattle.sky_base.specs.Name.{digested, low, low_desc, low_pairs, low_vals, name}
use Rattle.sky_base.specs.Needed as n
use Rattle.sky_base.specs.ObjectView.{desc_view}
use Rattle.sky_base.specs.See as s
use Rattle.sky_base.specs.Tree.{FunDef}
use Rattle.sky_base.specs.Val.{call, count, distinct, input, known, out, pairs_refs, ref, refs, same_text, vals_refs}
use Rattle.sky_base.specs.Val as v
use Rattle.sky_base.specs.View.{view}
use Rattle.sky_base.specs.declared.object.Desc1.{Desc1}
use Rattle.sky_parse_grammar.proofs.UsesLaw.{one_of}
use Rattle.sky_base_law.specs.Lower.{low_ref}
use Rattle.sky_base_law.specs.NamesLaws.{no_name}
use Rattle.sky_base_law.specs.Sound.{CallsIf, IsMain, SoundDesc, SoundReads}
use Rattle.sky_base_law.specs.Tasks as t
use Rattle.sky_base_law.proofs.RefsLow.{distinct_low, pairs_refs_low, refs_low, vals_refs_low}
use Rattle.sky_base_law.proofs.SoundJobs.{made_sound, needed_sound}
use Rattle.sky_base_law.proofs.TaskOutputs.{distinct_in, in_distinct}
use Rattle.ciel_journal.specs.Job.{Digest, Held, In, Task, of, show}
use Rattle.ciel_journal.proofs.Near.{in_join, in_right}
use Rattle.ciel_journal.proofs.Numbers.{in_left}
use Rattle.ciel_journal.proofs.SeenAs.{in_names}
use Rattle.ciel_journal_job.specs.Inner.{inside}
use Rattle.ciel_journal_job.specs.Real.{back, forth_if, held_if}
use Rattle.ciel_journal_job.proofs.AlikeLaw.{is_one, made_is, needed_to}
use Rattle.ciel_journal_job.proofs.RealLaw.{in_from, in_to}
use Rattle.ciel_name.specs.Names.{first_output}
use Rattle.ciel_want.specs.Waited.{first_refs, names_of}
use Rattle.ciel_master_board.specs.Board.{key_number, start_refs}
use Rattle.ciel_master_board.specs.Setting.{AllStart, AreNames, IsMade, RootHoldsMain, Setting, TellsByNames, TellsFirst, TellsHeld, TellsInput, TellsTask}
use Rattle.ciel_master_board.specs.Setting.{input_number}
use Rattle.ciel_master_law.proofs.Binds.{AllApart, AllBind}
use Rattle.ciel_master_law.specs.Laws.{real_setting}
use Rattle.ciel_master_law.proofs.CallVariables.{KeysApart, bound_from, bound_to, fun_binds, none_empty, used_apart}

of_list : {A C : Type 0} (f : A → C) (m : C) (ds : List A) → In m (map f ds) → (d : A) × In d ds × (m ≡ f d)
of_list f m [] i = absurd i
of_list f m (e ∷ es) (inl q) = (e, inl refl, q)
of_list f m (e ∷ es) (inr i) = let r = of_list f m es i in (r.0, inr r.1, r.2)

-- a key that is there has a number
has_number : (k : List ℕ) (keys : List (List ℕ)) → is_one_of k keys ≡ true → (i : ℕ) × (key_number keys k ≡ Some i)
has_number k [] e = cc
has_number k (x ∷ xs) e = pick (same_text k x) (sym (one_of k x xs) ∙ e) (has_number k xs)
  where
    pick : (b : Bool) → b || is_one_of k xs ≡ true → (is_one_of k xs ≡ true → (i : ℕ) × (key_number xs k ≡ Some i)) → (i : ℕ)
        × (cond b (Some 0) (option_map suc (key_number xs k)) ≡ Some i)
    pick true h r = (0, refl)
    pick false h r = let q = r h in (suc q.0, ap (option_map suc) q.1)

-- the function of a body
body_fun : (f : List ℕ) (fs : List FunDef) (i : ℕ) (fd : FunDef) (b : Body) → find_fun f fs ≡ Some fd → find_body f fs i ≡ Some b → b.params
    ≡ fd.params
body_fun f [] i fd b e g = cc
body_fun f (x ∷ xs) i fd b e g = pick (same_text f x.name) e g (body_fun f xs (i + block_nodes x.body) fd b)
  where
    pick : (c : Bool) → find_fun_if c x (find_fun f xs) ≡ Some fd → find_body_if c x i (find_body f xs (i + block_nodes x.body)) ≡ Some b
        → (find_fun f xs ≡ Some fd → find_body f xs (i + block_nodes x.body) ≡ Some b → b.params ≡ fd.params) → b.params ≡ fd.params
    pick true h k r =
        let a : x ≡ fd = cc in
        let c : record { params = x.params; block = x.body; node = i } ≡ b = cc in
        sym (ap (λ (z : Body). z.params) c) ∙ ap (λ (z : FunDef). z.params) a
    pick false h k r = r h k

-- and there is one
fun_body : (f : List ℕ) (fs : List FunDef) (i : ℕ) (fd : FunDef) → find_fun f fs ≡ Some fd → (b : Body) × (find_body f fs i ≡ Some b)
fun_body f [] i fd e = cc
fun_body f (x ∷ xs) i fd e = pick (same_text f x.name) e (fun_body f xs (i + block_nodes x.body) fd)
  where
    pick : (c : Bool) → find_fun_if c x (find_fun f xs) ≡ Some fd
        → (find_fun f xs ≡ Some fd → (b : Body) × (find_body f xs (i + block_nodes x.body) ≡ Some b)) → (b : Body)
        × (find_body_if c x i (find_body f xs (i + block_nodes x.body)) ≡ Some b)
    pick true h r = (record { params = x.params; block = x.body; node = i }, refl)
    pick false h r = r h

module _ (digest : List ℕ → List ℕ) where
  abbrev tag : v.Desc (List ℕ) → Digest
  tag = digested digest

  abbrev name_ : s.Desc → Digest
  name_ d = name no_name tag d

  names_low : (ds : List s.Desc) → names_of (map (low_ref no_name tag) ds) ≡ map name_ ds
  names_low [] = refl
  names_low (d ∷ ds) = ap (λ ns. name_ d ∷ ns) (names_low ds)

  -- where no two names clash, the distinct names are those of the distinct descriptions
  names_distinct : (ds : List s.Desc) → ((a b : s.Desc) → In a ds → In b ds → name_ a ≡ name_ b → a ≡ b)
      → names_of (distinct same_text (map (low_ref no_name tag) ds)) ≡ map name_ (distinct (λ a b. true) ds)
  names_distinct ds apart =
      ap names_of (distinct_low no_name tag (λ a b. true) (λ b c e. absurd b) (λ b. absurd b) ds
      (λ a b i j e. apart a b (in_to a ds i) (in_to b ds j) e))
      ∙ names_low (distinct (λ a b. true) ds)

  -- what a description by names refers to, each once, are the names of what stands inside it, each once
  pub start_names : (x : Desc1) (d : s.Desc) → desc_view x ≡ low_desc no_name tag d
      → ((a b : s.Desc) → In a (inside d) → In b (inside d) → name_ a ≡ name_ b → a ≡ b) → start_refs x
      ≡ map name_ (distinct (λ a b. true) (inside d))
  start_names (Desc1.Call g c ws) (call f a vs) e apart =
      let i : c ≡ low_pairs no_name tag a = cc in
      let j : ws ≡ low_vals no_name tag vs = cc in
      ap (λ z. names_of (distinct same_text (pairs_refs z ++ vals_refs ws))) i
      ∙ (ap (λ z. names_of (distinct same_text (pairs_refs (low_pairs no_name tag a) ++ vals_refs z))) j
      ∙ (ap (λ z. names_of (distinct same_text (z ++ vals_refs (low_vals no_name tag vs)))) (pairs_refs_low no_name tag a)
      ∙ (ap (λ z. names_of (distinct same_text (map (low_ref no_name tag) (pairs_refs a) ++ z))) (vals_refs_low no_name tag vs)
      ∙ (ap (λ z. names_of (distinct same_text z)) (sym (map-append (low_ref no_name tag) (pairs_refs a) (vals_refs vs)))
      ∙ names_distinct (pairs_refs a ++ vals_refs vs) apart))))
  start_names (Desc1.Exec z x l o) (out y a j i) e apart =
      let same : view x ≡ low no_name tag a = cc in
      ap (λ w. names_of (distinct same_text (refs w))) same
      ∙ (ap (λ ds. names_of (distinct same_text ds)) (refs_low no_name tag a) ∙ names_distinct (refs a) apart)
  start_names (Desc1.Input k) (input key) e apart = refl
  start_names (Desc1.Call g c ws) (out y a j i) e apart = cc
  start_names (Desc1.Call g c ws) (input key) e apart = cc
  start_names (Desc1.Exec z x l o) (call f a vs) e apart = cc
  start_names (Desc1.Exec z x l o) (input key) e apart = cc
  start_names (Desc1.Input k) (call f a vs) e apart = cc
  start_names (Desc1.Input k) (out y a j i) e apart = cc
  start_names x (known b) e apart = absurd b

  -- so a list of distinct names is that of all these descriptions
  are_names : (ds es : List s.Desc) → ((d : s.Desc) → In d es → In d ds) → ((d : s.Desc) → In d ds → In d es)
      → ((n : Digest) → In n (map name_ (distinct (λ a b. true) ds)) → (d : s.Desc) × In d (distinct (λ a b. true) es) × (n ≡ name_ d))
      × ((d : s.Desc) → In d (distinct (λ a b. true) es) → In (name_ d) (map name_ (distinct (λ a b. true) ds)))
  are_names ds es back_ there = (
    λ m i. let q = of_list name_ m (distinct (λ a b. true) ds) i in
        (q.0, distinct_to es q.0 (there q.0 (distinct_from_ ds q.0 q.1)), q.2),
    λ d i. in_names name_ d (distinct (λ a b. true) ds) (distinct_to ds d (back_ d (distinct_from_ es d i))),
  )
    where
      distinct_from_ : (xs : List s.Desc) (d : s.Desc) → In d (distinct (λ a b. true) xs) → In d xs
      distinct_from_ xs d i = in_to d xs (distinct_in (λ a b. true) (λ b c e. absurd b) (λ b. absurd b) xs d
          (in_from d (distinct (λ a b. true) xs) i))

      distinct_to : (xs : List s.Desc) (d : s.Desc) → In d xs → In d (distinct (λ a b. true) xs)
      distinct_to xs d i = in_to d (distinct (λ a b. true) xs) (in_distinct (λ a b. true) (λ b c e. absurd b) (λ b. absurd b) xs d (in_from d xs i))

module _ {P B : Type 0} (digest : List ℕ → List ℕ) (job : s.Job) (around : s.Around) (mark : s.Obj → Digest) (frozen : n.State → Digest)
    (at : P → ℕ) (block : P → B) (object : ℕ → s.Desc → Option B) (state : ℕ → Task s.Desc → ℕ → Option B) where
  abbrev here : Setting s.Desc P B
  here = real_setting digest job around mark frozen at block object state

  abbrev nm : s.Desc → Digest
  nm d = name no_name (digested digest) d

  abbrev lowd : s.Desc → v.Desc (List ℕ)
  lowd d = low_desc no_name (digested digest) d

  -- ---- what each is, by names

  task_told : TellsTask here
  task_told (Desc1.Call g c vs) (call f a bs) e k m = let q : call f a bs ≡ e = cc in (refl, k' e q)
    where
      k' : (e : s.Desc) → call f a bs ≡ e → first_output (lowd (call f a bs)) ≡ lowd e
      k' e q = ap lowd q
  task_told (Desc1.Exec y x m_ i) (call f a bs) e k m = cc
  task_told (Desc1.Input key) (call f a bs) e k m = cc
  task_told (Desc1.Call g c vs) (out y a m_ i) e k m = cc
  task_told (Desc1.Input key) (out y a m_ i) e k m = cc
  task_told (Desc1.Exec z x j_ l) (out y a m_ i) e k m = pick (nat_lt i m_) m
    where
      pick : (b : Bool) → forth_if (n.only_if b (Some (n.Task.of (out y a m_ 0)))) ≡ Some (of e) → (false ≡ false)
          × (first_output (lowd (out y a m_ i)) ≡ lowd e)
      pick true h = let q : out y a m_ 0 ≡ e = cc in (refl, ap lowd q)
      pick false h = cc
  task_told x (input key) e k m = cc
  task_told x (known b) e k m = absurd b

  pub sound_made : SoundReads job.script around → (d : s.Desc) → IsMade here d → (d ≡ s.main_call) ⊎ SoundDesc job.script d
  sound_made reads d (inl e) = inl e
  sound_made reads d (inr (u, w, k, i)) =
      inr (made_sound job around reads k (back u) d
      (needed_sound job around reads (back u) (needed_to job around (name no_name (digested digest)) mark frozen u w))
      (in_from d (t.made_in (t.acts_of job around k (back u))) (subst (In d) (made_is (t.acts_of job around k (back u))) i)))

  keyed : (l key : List ℕ) → l ≡ key → ((input key ≡ s.main_call) ⊎ SoundDesc {N = ⊥} job.script (input key)) → (i : ℕ)
      × (key_number job.script.keys l ≡ Some i)
  keyed l key same (inl q) = cc
  keyed l key same (inr q) =
      let r = has_number key job.script.keys q.1 in (r.0, ap (key_number job.script.keys) same ∙ r.1)

  input_told : SoundReads job.script around → TellsInput here
  input_told reads x (call f c vs) k m e = cc
  input_told reads x (known b) k m e = absurd b
  input_told reads x (out y a j i) k m e = pick (sound_made reads (out y a j i) m)
    where
      pick : ((out y a j i ≡ s.main_call) ⊎ SoundDesc job.script (out y a j i)) → (l : ℕ) × (input_number job.script.keys x ≡ Some l)
      pick (inl q) = cc
      pick (inr q) =
          let l : nat_lt i j ≡ true = lt-ltb i j q.3 in
          let bad : Some (of (out y a j 0)) ≡ None = sym (ap (λ b. forth_if (n.only_if b (Some (n.Task.of (out y a j 0))))) l) ∙ e in
          cc
  input_told reads (Desc1.Call g c vs) (input key) k m e = cc
  input_told reads (Desc1.Exec y a j i) (input key) k m e = cc
  input_told reads (Desc1.Input l) (input key) k m e =
      let same : l ≡ key = cc in keyed l key same (sound_made reads (input key) m)

  -- ---- what is waited for and held at first

  first_told : TellsFirst here
  first_told (Desc1.Call g c vs) (call f a bs) k m apart = refl
  first_told (Desc1.Exec y x j i) (call f a bs) k m apart = cc
  first_told (Desc1.Input key) (call f a bs) k m apart = cc
  first_told (Desc1.Call g c vs) (out y a j i) k m apart = cc
  first_told (Desc1.Input key) (out y a j i) k m apart = cc
  first_told (Desc1.Exec z x l o) (out y a j i) k m apart =
      let same : view x ≡ low no_name (digested digest) a = cc in
      ap (λ w. names_of (distinct same_text (refs w))) same
      ∙ (ap (λ ds. names_of (distinct same_text ds)) (refs_low no_name (digested digest) a) ∙ names_distinct digest (refs a) apart)
  first_told x (input key) k m apart = cc
  first_told x (known b) k m apart = absurd b

  abbrev holds : Desc1 → List s.Desc → Type 0
  holds x es = AreNames here (start_refs x) es

  -- what a call holds at its start
  call_held : (f : List ℕ) (c : s.Pairs) (vs : s.Vals) (xs : List (List ℕ)) → (IsMain f c vs × (xs ≡ []))
      ⊎ ((length xs ≡ count vs) × AllApart xs × KeysApart xs c) → (d : s.Desc) → In d (pairs_refs c ++ vals_refs vs)
      → In d (pairs_refs (bind xs vs c))
  call_held f c vs xs (inl (m, e)) d i =
      absurd (subst (λ ds. In d ds) (ap (λ z. pairs_refs z ++ vals_refs vs) m.1 ∙ ap vals_refs m.2) i)
  call_held f c vs xs (inr q) d i = bound_to xs vs c q.0 q.1 q.2 d (turn (in_join d (pairs_refs c) (vals_refs vs) i))
    where
      turn : (In d (pairs_refs c) ⊎ In d (vals_refs vs)) → In d (vals_refs vs) ⊎ In d (pairs_refs c)
      turn (inl j) = inr j
      turn (inr j) = inl j

  held_call : (f : List ℕ) (c : s.Pairs) (vs : s.Vals) (xs : List (List ℕ)) → (d : s.Desc) → In d (pairs_refs (bind xs vs c))
      → In d (pairs_refs c ++ vals_refs vs)
  held_call f c vs xs d i = turn (bound_from xs vs c d i)
    where
      turn : (In d (vals_refs vs) ⊎ In d (pairs_refs c)) → In d (pairs_refs c ++ vals_refs vs)
      turn (inl j) = in_right d (pairs_refs c) (vals_refs vs) j
      turn (inr j) = in_left d (pairs_refs c) (vals_refs vs) j

  -- the parameters of a body that a sound call runs go with its arguments
  abbrev GoWith : List ℕ → s.Pairs → s.Vals → List (List ℕ) → Type 0
  GoWith f c vs xs = (IsMain f c vs × (xs ≡ [])) ⊎ ((length xs ≡ count vs) × AllApart xs × KeysApart xs c)

  go_with : AllBind job.script.funs → (f : List ℕ) (c : s.Pairs) (vs : s.Vals) → (IsMain f c vs ⊎ CallsIf (find_fun f job.script.funs) c vs)
      → (b : Body) → body_of f job.script ≡ Some b → GoWith f c vs b.params
  go_with all f c vs (inl m) b e =
      inl (m, sym (ap (λ (z : Body). z.params) (body_is (sym (ap (λ g. body_of g job.script) m.0) ∙ e))))
    where
      body_is : Some (record { params = []; block = job.script.main; node = 0 }) ≡ Some b
          → record { params = []; block = job.script.main; node = 0 } ≡ b
      body_is q = cc
  go_with all f c vs (inr k) b e = pick (find_fun f job.script.funs) refl k
    where
      same : (g : List ℕ) → g ≡ f → (fd : FunDef) → find_fun g job.script.funs ≡ Some fd → b.params ≡ fd.params
      same [] q fd h = absurd (none_empty job.script.funs fd all h)
      same (x ∷ xs) q fd h =
          body_fun (x ∷ xs) job.script.funs (block_nodes job.script.main) fd b h (ap (λ g. body_of g job.script) q ∙ e)

      pick : (o : Option FunDef) → find_fun f job.script.funs ≡ o → CallsIf o c vs → GoWith f c vs b.params
      pick None h q = absurd q
      pick (Some fd) h q =
          let w = fun_binds f job.script.funs fd all h in
          let p : b.params ≡ fd.params = same f refl fd h in
          subst (GoWith f c vs) (sym p) (inr (q.1, w.apart, used_apart fd.params fd.uses c w.unused q.0))

  some_held : (x y : Held s.Desc) → Some x ≡ Some y → x ≡ y
  some_held x y e = cc

  held_told : SoundReads job.script around → AllBind job.script.funs → TellsHeld here
  held_told reads all (Desc1.Call g d ws) (call f c vs) k a q w e apart = pick (body_of f job.script) refl e
    where
      sound : SoundDesc job.script (call f c vs)
      sound = needed_sound job around reads (n.Task.of (call f c vs))
          (needed_to job around (name no_name (digested digest)) mark frozen (of (call f c vs)) w)

      names : names_of (distinct same_text (pairs_refs d ++ vals_refs ws)) ≡ map nm (distinct (λ x y. true) (pairs_refs c ++ vals_refs vs))
      names = start_names digest (Desc1.Call g d ws) (call f c vs) q apart

      told : (es : List s.Desc) → ((z : s.Desc) → In z es → In z (pairs_refs c ++ vals_refs vs))
          → ((z : s.Desc) → In z (pairs_refs c ++ vals_refs vs) → In z es)
          → AreNames here (names_of (distinct same_text (pairs_refs d ++ vals_refs ws))) (distinct (λ x y. true) es)
      told es back_ there =
          let r = are_names digest (pairs_refs c ++ vals_refs vs) es back_ there in
          subst (λ ns. AreNames here ns (distinct (λ x y. true) es)) (sym names) (record { there = r.1; only = r.0 })

      pick : (o : Option Body) → body_of f job.script ≡ o
          → held_if job around (name no_name (digested digest)) mark frozen (n.start_frame f c vs o) ≡ Some a
          → AreNames here (names_of (distinct same_text (pairs_refs d ++ vals_refs ws))) a.names
      pick None h z = cc
      pick (Some b) h z =
          let bound : List s.Desc = pairs_refs (bind b.params vs c) in
          let m : distinct (λ x y. true) (bound ++ []) ≡ a.names = ap (λ (o : Held s.Desc). o.names) (some_held _ a z) in
          let l : distinct (λ x y. true) bound ≡ a.names = ap (distinct (λ x y. true)) (sym (append-nil bound)) ∙ m in
          subst (AreNames here (names_of (distinct same_text (pairs_refs d ++ vals_refs ws)))) l
          (told bound (λ y i. held_call f c vs b.params y i) (λ y i. call_held f c vs b.params (go_with all f c vs sound.4 b h) y i))
  held_told reads all (Desc1.Exec y x j i) (call f c vs) k a q w e apart = cc
  held_told reads all (Desc1.Input key) (call f c vs) k a q w e apart = cc
  held_told reads all (Desc1.Call g d ws) (out y b j i) k a q w e apart = cc
  held_told reads all (Desc1.Input key) (out y b j i) k a q w e apart = cc
  held_told reads all (Desc1.Exec z x l o) (out y b j i) k a q w e apart =
      let names : first_refs (Desc1.Exec z x l o) ≡ map nm (distinct (λ u v. true) (refs b)) =
      start_names digest (Desc1.Exec z x l o) (out y b j i) q apart in
      let r = are_names digest (refs b) (refs b) (λ d i. i) (λ d i. i) in
      let m : distinct (λ u v. true) (refs b) ≡ a.names = ap (λ (o : Held s.Desc). o.names) (some_held _ a e) in
      subst (AreNames here (first_refs (Desc1.Exec z x l o))) m
      (subst (λ ns. AreNames here ns (distinct (λ u v. true) (refs b))) (sym names) (record { there = r.1; only = r.0 }))
  held_told reads all x (input key) k a q w e apart = cc
  held_told reads all x (known b) k a q w e apart = absurd b

  -- ---- starts

  root_told : RootHoldsMain here
  unfolding s.wave
  root_told k a e =
      let m : s.main_call ∷ [] ≡ a.names = ap (λ (o : Held s.Desc). o.names) (some_held _ a e) in
      subst (AreNames here (nm s.main_call ∷ [])) m (record { there = λ d i. there d i; only = λ x i. only x i })
    where
      there : (d : s.Desc) → In d (s.main_call ∷ []) → In (nm d) (nm s.main_call ∷ [])
      there d (inl q) = inl (ap nm q)
      there d (inr i) = absurd i

      only : (x : Digest) → In x (nm s.main_call ∷ []) → (d : s.Desc) × In d (s.main_call ∷ []) × (x ≡ nm d)
      only x (inl q) = (s.main_call, inl refl, q)
      only x (inr i) = absurd i

  no_input_task : (d : s.Desc) (key : List ℕ) → t.maker d ≡ Some (n.Task.of (input key)) → ⊥
  no_input_task (call f c vs) key e = cc
  no_input_task (out y a j i) key e = pick (nat_lt i j) e
    where
      pick : (b : Bool) → n.only_if b (Some (n.Task.of (out y a j 0))) ≡ Some (n.Task.of (input key)) → ⊥
      pick true h = cc
      pick false h = cc
  no_input_task (input k) key e = cc
  no_input_task (known b) key e = absurd b

  all_start : SoundReads job.script around → AllStart here
  unfolding s.wave
  all_start reads show w = (0, record { names = s.main_call ∷ []; mark = frozen (n.State.show_at (ref s.main_call) 0) }, refl)
  all_start reads (of (call f c vs)) w = pick (body_of f job.script) refl
    where
      sound : SoundDesc job.script (call f c vs)
      sound = needed_sound job around reads (n.Task.of (call f c vs))
          (needed_to job around (name no_name (digested digest)) mark frozen (of (call f c vs)) w)

      body : (g : List ℕ) → g ≡ f → (IsMain f c vs ⊎ CallsIf (find_fun f job.script.funs) c vs) → (b : Body) × (body_of g job.script ≡ Some b)
      body [] q k = (record { params = []; block = job.script.main; node = 0 }, refl)
      body (x ∷ xs) q (inl m) = let bad : x ∷ xs ≡ [] = q ∙ m.0 in cc
      body (x ∷ xs) q (inr k) = go (find_fun f job.script.funs) refl k
        where
          go : (o : Option FunDef) → find_fun f job.script.funs ≡ o → CallsIf o c vs → (b : Body)
              × (find_body (x ∷ xs) job.script.funs (block_nodes job.script.main) ≡ Some b)
          go None h z = absurd z
          go (Some fd) h z =
              fun_body (x ∷ xs) job.script.funs (block_nodes job.script.main) fd (ap (λ g. find_fun g job.script.funs) q ∙ h)

      pick : (o : Option Body) → body_of f job.script ≡ o → (k : ℕ) × (a : Held s.Desc)
          × (held_if job around (name no_name (digested digest)) mark frozen (n.start_frame f c vs (body_of f job.script)) ≡ Some a)
      pick None h =
          let r = body f refl sound.4 in let bad : None ≡ Some r.0 = sym h ∙ r.1 in cc
      pick (Some b) h =
          (0, _, ap (λ o. held_if job around (name no_name (digested digest)) mark frozen (n.start_frame f c vs o)) h)
  all_start reads (of (out y a j i)) w = (0, record { names = n.distinct_refs a; mark = [] }, refl)
  all_start reads (of (input key)) w = pick (is_one job around (name no_name (digested digest)) mark frozen (of (input key)) w)
    where
      pick : ((n.Task.of (input key) ≡ n.Task.show) ⊎ ((d : s.Desc) × (t.maker d ≡ Some (n.Task.of (input key))))) → (k : ℕ) × (a : Held s.Desc)
          × (None ≡ Some a)
      pick (inl e) = cc
      pick (inr q) = absurd (no_input_task q.0 key q.1)
  all_start reads (of (known b)) w = absurd b

  pub tells : SoundReads job.script around → AllBind job.script.funs → TellsByNames here
  tells reads all =
      record {
        input = input_told reads;
        made = task_told;
        first = first_told;
        held = held_told reads all;
        root = root_told;
        starts = all_start reads;
      }
