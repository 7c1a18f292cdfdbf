-- The small jobs tell where all comes from that their tasks wait for and hold.
use Rattle.std.proofs.Common.{◌≡◌, ℕ, zero, suc, ◌≤◌, ◌<◌, List, [], ◌∷◌, ◌++◌, length, length-append, append_assoc, Bool, true, false, cond, Some}
use Rattle.std.proofs.Common.{None, slice_get, ◌⊎◌, inl, inr, refl, ap, sym, ◌∙◌, subst, arith, nat_le, leb-true}
use Rattle.ciel_journal.specs.Job.{Task, show, of, Act, made, wait, Held, Job, In, Each, WaitOf, StateOf, waits_in, after_wait, made_before, made_in}
use Rattle.ciel_journal.specs.Lawful.{HeldAt}
use Rattle.ciel_journal.specs.Known.{Around, Batched, Inner, Knows, TellsTo, TellsToEnd}
use Rattle.ciel_journal.specs.Fixed.{Piece, acts_by, all_seen, until, seen_with, fixed_job, small_lists, small_inner, piece_task, piece_outputs}
use Rattle.ciel_journal.specs.Fixed.{piece_first, piece_script, piece_holds, piece_inside, piece_carries}
use Rattle.ciel_journal.specs.Fixed as f
use Rattle.ciel_journal.proofs.Circle.{waits_join}
use Rattle.ciel_journal.proofs.Members.{each_of}
use Rattle.ciel_journal.proofs.Near.{each_all}
use Rattle.ciel_journal.proofs.Splits.{get_short, made_split}
use Rattle.ciel_journal.proofs.SmallBroken.{acts_prefix, script_wait, one_of}

module _ {D : Type 0} where
  made_join : (xs ys : List (Act D)) (d : D) → In d (made_in xs) → In d (made_in (xs ++ ys))
  made_join [] ys d i = absurd i
  made_join (made x ∷ xs) ys d (inl s) = inl s
  made_join (made x ∷ xs) ys d (inr i) = inr (made_join xs ys d i)
  made_join (wait ds ∷ xs) ys d i = made_join xs ys d i

module _ (reads : Bool) where
  abbrev job : Job Piece
  job = fixed_job (small_lists reads)

  abbrev inner : Inner Piece
  inner = small_inner reads

  abbrev acts_at : ℕ → Task Piece → List (Act Piece)
  acts_at n t = acts_by (small_lists reads) (seen_with (small_lists reads) n) t

  -- what is made stands in the list of the task
  later_made : (n : ℕ) (t : Task Piece) (d : Piece) → In d (made_in (acts_at n t)) → In d (made_in (piece_script reads t))
  later_made n t d i =
      let p = acts_prefix (small_lists reads) (seen_with (small_lists reads) n) t in
      subst (λ xs. In d (made_in xs)) p.1 (made_join (acts_at n t) p.0 d i)

  few_waits : (n : ℕ) (t : Task Piece) → length (waits_in (acts_at n t)) ≤ length (waits_in (piece_script reads t))
  few_waits n t =
      let p = acts_prefix (small_lists reads) (seen_with (small_lists reads) n) t in
      let e = ap (λ xs. length (waits_in xs)) p.1 in
      let g = ap length (waits_join (acts_at n t) p.0) in
      let l = length-append (waits_in (acts_at n t)) (waits_in p.0) in
      omega (arith, e, g, l)

  cond_is : {A : Type 0} (b : Bool) (x y : A) → cond b (Some x) None ≡ Some y → (b ≡ true) × (x ≡ y)
  cond_is true x y h = (refl, cc)
  cond_is false x y h = cc

  -- a state is that of a wait of the list, and holds what is said there
  state_is : (n : ℕ) (t : Task Piece) (j : ℕ) (a : Held Piece) → job.at n t j ≡ Some a → (j ≤ length (waits_in (piece_script reads t)))
      × (a.names ≡ piece_holds t j)
  state_is n t j a h =
      let q = cond_is (nat_le j (length (waits_in (acts_at n t)))) (record { names = piece_holds t j; mark = f.state_mark j }) a h in
      let l = leb-true j (length (waits_in (acts_at n t))) q.0 in
      let w = few_waits n t in
      (omega (arith, l, w), sym (ap (λ (x : Held Piece). x.names) q.1))

  held_is : (t : Task Piece) (j : ℕ) (d : Piece) → HeldAt job t j d → In d (piece_holds t j)
  held_is t j d h = subst (In d) (state_is h.0 t j h.1 h.2).1 h.3

  -- ---- what the main call makes

  pub record Five (S : List Piece) : Type 0 where
    pub one : In f.one S
    pub two : In f.two S
    pub text : In f.text S
    pub left : In f.left S
    pub right : In f.right S

  abbrev all_five : List Piece
  all_five = f.one ∷ f.two ∷ f.text ∷ f.left ∷ f.right ∷ []

  five_to : (S : List Piece) (i n : ℕ) → TellsTo job inner S (of f.main) (suc i) → suc i ≤ length (waits_in (job.acts n (of f.main))) → Five S
  five_to S i n t l =
      let e = t.makes n l in
      record { one = e.0; two = e.1.0; text = e.1.1.0; left = e.1.1.1.0; right = e.1.1.1.1.0 }

  -- ---- batches

  until_batched : (seen : Piece → Bool) (xs : List Piece) (acts : List (Act Piece)) → Batched job xs acts → Batched job xs (until seen acts)
  until_batched seen [] [] b = tt
  until_batched seen (x ∷ xs) [] b = absurd b
  until_batched seen [] (made d ∷ acts) b = (b.0, b.1, until_batched seen b.0 acts b.2)
  until_batched seen (x ∷ xs) (made d ∷ acts) b = (b.0, until_batched seen xs acts b.1)
  until_batched seen [] (wait ds ∷ acts) b = pick (all_seen seen ds) (until_batched seen [] acts b)
    where
      pick : (c : Bool) → Batched job [] (until seen acts) → Batched job [] (cond c (until seen acts) [])
      pick true h = h
      pick false h = tt
  until_batched seen (x ∷ xs) (wait ds ∷ acts) b = absurd b

  show_batched : (b : Bool) → Batched job [] (piece_script b show)
  show_batched true = tt
  show_batched false = tt

  script_batched : (t : Task Piece) → Batched job [] (piece_script reads t)
  script_batched show = show_batched reads
  script_batched (of f.main) =
      ([], inr (refl, refl), ([], inr (refl, refl), ([], inl (refl, refl), (f.right ∷ [], inr (refl, refl), (refl, tt)))))
  script_batched (of f.one) = tt
  script_batched (of f.two) = tt
  script_batched (of f.left) = tt
  script_batched (of f.right) = tt
  script_batched (of f.text) = tt

  pub batches : (n : ℕ) (t : Task Piece) → Batched job [] (job.acts n t)
  batches n t = pick (all_seen (seen_with (small_lists reads) n) (piece_first t))
      (until_batched (seen_with (small_lists reads) n) [] (piece_script reads t) (script_batched t))
    where
      pick : (c : Bool) → Batched job [] (until (seen_with (small_lists reads) n) (piece_script reads t))
          → Batched job [] (cond c (until (seen_with (small_lists reads) n) (piece_script reads t)) [])
      pick true h = h
      pick false h = tt

main_ends : (reads : Bool) → (fixed_job (small_lists reads)).ended 4 (of f.main) ≡ true
main_ends false = refl
main_ends true = refl

five_end : (reads : Bool) (S : List Piece) → TellsToEnd (fixed_job (small_lists reads)) (small_inner reads) S (of f.main) → Five reads S
five_end false S t =
    let e = t.makes 4 (main_ends false) in record { one = e.0; two = e.1.0; text = e.1.1.0; left = e.1.1.1.0; right = e.1.1.1.1.0 }
five_end true S t =
    let e = t.makes 4 (main_ends true) in record { one = e.0; two = e.1.0; text = e.1.1.0; left = e.1.1.1.0; right = e.1.1.1.1.0 }

held_inside : (e d : Piece) → In d (piece_holds (of e) 0) → In d (piece_inside e)
held_inside f.main d i = absurd i
held_inside f.one d i = absurd i
held_inside f.two d i = absurd i
held_inside f.left d i = i
held_inside f.right d i = absurd i
held_inside f.text d i = absurd i

first_inside : (e d : Piece) → In d (piece_first (of e)) → In d (piece_inside e)
first_inside f.main d i = absurd i
first_inside f.one d i = absurd i
first_inside f.two d i = absurd i
first_inside f.left d i = i
first_inside f.right d i = absurd i
first_inside f.text d i = absurd i

module _ (reads : Bool) (S : List Piece) where
  abbrev theJob : Job Piece
  theJob = fixed_job (small_lists reads)

  abbrev Told : Task Piece → ℕ → Type 0
  Told t i = TellsTo theJob (small_inner reads) S t i

  -- the root task waits for the lines alone, which the main call's object holds
  show_left : (i : ℕ) → 0 < i → Told show i → true ≡ reads → In f.left S
  show_left i l t e =
      t.handed.reads 0 (f.main ∷ []) f.main f.left 0 l refl (inl refl) (subst (λ c. In f.left (piece_carries c f.main)) e (inl refl))

  main_waits : (m : ℕ) (ds : List Piece) → Told (of f.main) (suc m) → WaitOf theJob (of f.main) (suc m) ds
      → slice_get (waits_in (piece_script reads (of f.main))) m ≡ Some ds → Each (λ d. In d S) ds
  main_waits zero ds t w g =
      let v = five_to reads S 0 w.0 t (get_short (waits_in (theJob.acts w.0 (of f.main))) 0 ds w.1) in let e : f.one ∷ [] ≡ ds = cc in
      subst (Each (λ d. In d S)) e (v.one, tt)
  main_waits (suc zero) ds t w g =
      let v = five_to reads S 1 w.0 t (get_short (waits_in (theJob.acts w.0 (of f.main))) 1 ds w.1) in let e : f.two ∷ [] ≡ ds = cc in
      subst (Each (λ d. In d S)) e (v.two, tt)
  main_waits (suc (suc m)) ds t w g = cc

  show_waits : (b : Bool) → b ≡ reads → (m : ℕ) (ds : List Piece) → Told show (suc m) → slice_get (waits_in (piece_script b show)) m ≡ Some ds
      → Each (λ d. In d S) ds
  show_waits true e zero ds t g =
      let s : f.left ∷ [] ≡ ds = cc in subst (Each (λ d. In d S)) s (show_left 1 (omega arith) t e, tt)
  show_waits true e (suc m) ds t g = cc
  show_waits false e m ds t g = cc

  waits_told : (t : Task Piece) (i : ℕ) (ds : List Piece) → Told t i → WaitOf theJob t i ds → Each (λ d. In d S) ds
  waits_told show zero ds s w = subst (Each (λ d. In d S)) (sym w) (s.handed.begins, tt)
  waits_told (of e) zero ds s w =
      subst (Each (λ d. In d S)) (sym w) (each_all (λ d. In d S) (piece_first (of e))
      (λ d i. each_of (λ x. In x S) d (piece_inside e) (first_inside e d i) s.handed.begins))
  waits_told show (suc m) ds s w = show_waits reads refl m ds s (script_wait (small_lists reads) show m ds w)
  waits_told (of f.main) (suc m) ds s w =
      main_waits m ds s w (script_wait (small_lists reads) (of f.main) m ds w)
  waits_told (of f.one) (suc m) ds s w =
      let g : slice_get (waits_in (piece_script reads (of f.one))) m ≡ Some ds = script_wait (small_lists reads) (of f.one) m ds w in cc
  waits_told (of f.two) (suc m) ds s w =
      let g : slice_get (waits_in (piece_script reads (of f.two))) m ≡ Some ds = script_wait (small_lists reads) (of f.two) m ds w in cc
  waits_told (of f.left) (suc m) ds s w =
      let g : slice_get (waits_in (piece_script reads (of f.left))) m ≡ Some ds = script_wait (small_lists reads) (of f.left) m ds w in cc
  waits_told (of f.right) (suc m) ds s w =
      let g : slice_get (waits_in (piece_script reads (of f.right))) m ≡ Some ds = script_wait (small_lists reads) (of f.right) m ds w in cc
  waits_told (of f.text) (suc m) ds s w =
      let g : slice_get (waits_in (piece_script reads (of f.text))) m ≡ Some ds = script_wait (small_lists reads) (of f.text) m ds w in cc

  main_holds : (m n : ℕ) (a : Held Piece) → Told (of f.main) (suc m) → theJob.at n (of f.main) (suc m) ≡ Some a → suc m ≤ 2
      → Each (λ d. In d S) (piece_holds (of f.main) (suc m))
  main_holds m n a t g k = four (five_to reads S m n t (at_waits (nat_le (suc m) (length (waits_in (theJob.acts n (of f.main))))) refl g))
    where
      four : Five reads S → Each (λ d. In d S) (f.one ∷ f.two ∷ f.left ∷ f.right ∷ [])
      four v = (v.one, (v.two, (v.left, (v.right, tt))))

      at_waits : (b : Bool) → nat_le (suc m) (length (waits_in (theJob.acts n (of f.main)))) ≡ b
          → cond b (Some (record { names = piece_holds (of f.main) (suc m); mark = f.state_mark (suc m) })) None ≡ Some a
          → suc m ≤ length (waits_in (theJob.acts n (of f.main)))
      at_waits true e h = leb-true (suc m) (length (waits_in (theJob.acts n (of f.main)))) e
      at_waits false e h = cc

  show_holds : (b : Bool) → b ≡ reads → (m : ℕ) → Told show (suc m) → suc m ≤ length (waits_in (piece_script b show))
      → Each (λ d. In d S) (f.left ∷ [])
  show_holds false e m t k = absurd (omega (arith, k))
  show_holds true e m t k = (show_left (suc m) (omega arith) t e, tt)

  holds_told : (t : Task Piece) (i : ℕ) (a : Held Piece) → Told t i → StateOf theJob t i a → Each (λ d. In d S) a.names
  holds_told t i a s w = let q = state_is reads w.0 t i a w.1 in subst (Each (λ d. In d S)) (sym q.1) (go t i s w.1 q.0)
    where
      go : (t : Task Piece) (i : ℕ) → Told t i → theJob.at w.0 t i ≡ Some a → i ≤ length (waits_in (piece_script reads t))
          → Each (λ d. In d S) (piece_holds t i)
      go show zero x y k = (x.handed.begins, tt)
      go (of e) zero x y k =
          each_all (λ d. In d S) (piece_holds (of e) 0) (λ d i. each_of (λ z. In z S) d (piece_inside e) (held_inside e d i) x.handed.begins)
      go show (suc m) x y k = show_holds reads refl m x k
      go (of f.main) (suc m) x y k = main_holds m w.0 a x y k
      go (of f.one) (suc m) x y k = absurd (omega (arith, k))
      go (of f.two) (suc m) x y k = absurd (omega (arith, k))
      go (of f.left) (suc m) x y k = absurd (omega (arith, k))
      go (of f.right) (suc m) x y k = absurd (omega (arith, k))
      go (of f.text) (suc m) x y k = absurd (omega (arith, k))

  -- where these begin the pieces that the main call makes
  around_five : (before after rest : List Piece) (d : Piece) → (before ++ d ∷ after) ++ rest ≡ all_five reads → Each (λ e. In e S) before
      → Around theJob (small_inner reads) S d
  around_five [] after rest d e k = let q : d ≡ f.one = cc in subst (Around theJob (small_inner reads) S) (sym q) tt
  around_five (a ∷ []) after rest d e k = let q : d ≡ f.two = cc in subst (Around theJob (small_inner reads) S) (sym q) tt
  around_five (a ∷ b ∷ []) after rest d e k =
      let q : d ≡ f.text = cc in subst (Around theJob (small_inner reads) S) (sym q) tt
  around_five (a ∷ b ∷ c ∷ []) after rest d e k =
      let q : d ≡ f.left = cc in
      let x : c ≡ f.text = cc in
      subst (Around theJob (small_inner reads) S) (sym q) (subst (λ z. In z S) x k.1.1.0, tt)
  around_five (a ∷ b ∷ c ∷ l ∷ []) after rest d e k =
      let q : d ≡ f.right = cc in
      let x : c ≡ f.text = cc in
      subst (Around theJob (small_inner reads) S) (sym q) (subst (λ z. In z S) x k.1.1.0, tt)
  around_five (a ∷ b ∷ c ∷ l ∷ r ∷ []) after rest d e k = cc
  around_five (a ∷ b ∷ c ∷ l ∷ r ∷ x ∷ xs) after rest d e k = cc

  made_prefix : (xs ys : List (Act Piece)) → made_in (xs ++ ys) ≡ made_in xs ++ made_in ys
  made_prefix [] ys = refl
  made_prefix (made x ∷ xs) ys = ap (λ ds. x ∷ ds) (made_prefix xs ys)
  made_prefix (wait ds ∷ xs) ys = made_prefix xs ys

  nothing_made : (t : Task Piece) → (t ≡ of f.main → ⊥) → made_in (piece_script reads t) ≡ []
  nothing_made show n = pick reads
    where
      pick : (b : Bool) → made_in (piece_script b show) ≡ []
      pick true = refl
      pick false = refl
  nothing_made (of f.main) n = absurd (n refl)
  nothing_made (of f.one) n = refl
  nothing_made (of f.two) n = refl
  nothing_made (of f.left) n = refl
  nothing_made (of f.right) n = refl
  nothing_made (of f.text) n = refl

  script_made : (t : Task Piece) → (made_in (piece_script reads t) ≡ all_five reads) ⊎ (made_in (piece_script reads t) ≡ [])
  script_made show = inr (nothing_made show (λ e. cc))
  script_made (of f.main) = inl refl
  script_made (of f.one) = inr refl
  script_made (of f.two) = inr refl
  script_made (of f.left) = inr refl
  script_made (of f.right) = inr refl
  script_made (of f.text) = inr refl

  no_front : (before after rest : List Piece) (d : Piece) → (before ++ d ∷ after) ++ rest ≡ [] → ⊥
  no_front [] after rest d e = cc
  no_front (x ∷ xs) after rest d e = cc

  -- what is made begins what the list of the task makes
  around_script : (t : Task Piece) (before after rest : List Piece) (d : Piece) → (before ++ d ∷ after) ++ rest ≡ made_in (piece_script reads t)
      → Each (λ e. In e S) before → Around theJob (small_inner reads) S d
  around_script t before after rest d e k = pick (script_made t)
    where
      pick : ((made_in (piece_script reads t) ≡ all_five reads) ⊎ (made_in (piece_script reads t) ≡ [])) → Around theJob (small_inner reads) S d
      pick (inl q) = around_five before after rest d (e ∙ q) k
      pick (inr q) = absurd (no_front before after rest d (e ∙ q))

  end_told : (t : Task Piece) (n : ℕ) (before after : List Piece) (d : Piece) → made_in (theJob.acts n t) ≡ before ++ d ∷ after
      → Each (λ e. In e S) before → Around theJob (small_inner reads) S d
  end_told t n before after d e k =
      let p = acts_prefix (small_lists reads) (seen_with (small_lists reads) n) t in
      around_script t before after (made_in p.0) d
      (ap (λ ds. ds ++ made_in p.0) (sym e) ∙ (sym (made_prefix (theJob.acts n t) p.0) ∙ ap made_in p.1)) k

  made_told : (t : Task Piece) (i n : ℕ) (before after : List Piece) (d : Piece) → made_before i (theJob.acts n t) ≡ before ++ d ∷ after
      → Each (λ e. In e S) before → Around theJob (small_inner reads) S d
  made_told t i n before after d e k =
      let p = acts_prefix (small_lists reads) (seen_with (small_lists reads) n) t in
      let whole : made_in (theJob.acts n t) ≡ (before ++ d ∷ after) ++ made_in (after_wait i (theJob.acts n t)) = made_split i (theJob.acts n t)
      ∙ ap (λ ds. ds ++ made_in (after_wait i (theJob.acts n t))) e in
      let more : (before ++ d ∷ after) ++ (made_in (after_wait i (theJob.acts n t)) ++ made_in p.0) ≡ made_in (piece_script reads t) =
      sym (append_assoc (before ++ d ∷ after) (made_in (after_wait i (theJob.acts n t))) (made_in p.0))
      ∙ (ap (λ ds. ds ++ made_in p.0) (sym whole) ∙ (sym (made_prefix (theJob.acts n t) p.0) ∙ ap made_in p.1)) in
      around_script t before after (made_in (after_wait i (theJob.acts n t)) ++ made_in p.0) d more k

  carries_main : (b : Bool) → In f.left S → Each (λ e. In e S) (piece_carries b f.main)
  carries_main true i = (i, tt)
  carries_main false i = tt

  object_told : (t : Task Piece) (n : ℕ) (d : Piece) → TellsToEnd theJob (small_inner reads) S t → In d (piece_outputs t)
      → Each (λ e. In e S) (piece_carries reads d)
  object_told show n d s i = absurd i
  object_told (of f.main) n d s i =
      subst (λ x. Each (λ e. In e S) (piece_carries reads x)) (sym (one_of d f.main i)) (carries_main reads (five_end reads S s).left)
  object_told (of f.one) n d s i = subst (λ x. Each (λ e. In e S) (piece_carries reads x)) (sym (one_of d f.one i)) tt
  object_told (of f.two) n d s i = subst (λ x. Each (λ e. In e S) (piece_carries reads x)) (sym (one_of d f.two i)) tt
  object_told (of f.left) n d s (inl e) = subst (λ x. Each (λ e. In e S) (piece_carries reads x)) (sym e) tt
  object_told (of f.left) n d s (inr i) = subst (λ x. Each (λ e. In e S) (piece_carries reads x)) (sym (one_of d f.right i)) tt
  object_told (of f.right) n d s i = absurd i
  object_told (of f.text) n d s i = absurd i

main_outputs : (t : Task Piece) → piece_task f.main ≡ Some t → piece_outputs t ≡ f.main ∷ []
main_outputs t h = let e : of f.main ≡ t = cc in ap piece_outputs (sym e)

main_own : (e : Piece) → piece_task f.main ≡ Some (of e) → e ≡ f.main
main_own e h = cc

carries_none : (reads : Bool) (d : Piece) → piece_task d ≡ None → piece_carries reads d ≡ []
carries_none reads f.main h = cc
carries_none reads f.one h = refl
carries_none reads f.two h = refl
carries_none reads f.left h = refl
carries_none reads f.right h = refl
carries_none reads f.text h = refl

pub small_knows : (reads : Bool) → Knows (fixed_job (small_lists reads)) (small_inner reads)
small_knows reads =
    record {
      main_inside = refl;
      main_outputs = main_outputs;
      main_own = main_own;
      batches = λ n t. batches reads n t;
      input_carries = λ d n h. carries_none reads d h;
      waits_told = λ S t i ds s w. waits_told reads S t i ds s w;
      holds_told = λ S t i ds a s w at. holds_told reads S t i a s at;
      made_told = λ S t i n before after d s e k. made_told reads S t i n before after d e k;
      end_told = λ S t n before after d s e k. end_told reads S t n before after d e k;
      object_told = λ S t n d s i. object_told reads S t n d s i;
    }
