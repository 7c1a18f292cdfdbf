-- A wave over names is the wave over whole descriptions, lowered.
use Rattle.std.proofs.Common.{◌≡◌, ℕ, ◌+◌, List, [], ◌∷◌, ◌++◌, length, map, Bool, true, false, Option, Some, Result, Ok, Err, inl, inr, nat_lt, refl}
use Rattle.std.proofs.Common.{sym, ap, ap₂, subst, ◌∙◌}
use Rattle.std.proofs.lemmas.List.{append_assoc, append-nil, length-append}
use Rattle.std.specs.Str.{is_utf8}
use Rattle.sky_base.specs.Val as v
use Rattle.sky_base.specs.Val.{null, truth, num, text, list, dict, fun, ref, no_vals, val, no_pairs, pair, depth, size, refs, vals_refs, pairs_refs}
use Rattle.sky_base.specs.Name.{low, low_vals, low_pairs}
use Rattle.sky_base.specs.Op.{Answer}
use Rattle.sky_base.specs.Res.{Object}
use Rattle.sky_base_law.specs.Lower.{lower, low_ref, low_obj}
use Rattle.sky_base.specs.See as m
use Rattle.sky_base.specs.See.{Val, Vals, Desc, Obj, Job, Around, Answered, Gathered, gather, gather_on, gather_one, as_value, val_of, replaced}
use Rattle.sky_base.specs.See.{vals_replaced, pairs_replaced, Turn, turn, next_value, next_within, see}
use Rattle.sky_base_law.specs.Tasks.{In}
use Rattle.sky_base_law.proofs.Low.{size_low, depth_low}
use Rattle.sky_base_law.proofs.RefsLow.{refs_low}
use Rattle.sky_base.specs.declared.fault.Fault.{Fault}
use Rattle.sky_base_known.specs.Walk.{Row}
use Rattle.sky_base_law.specs.NamesLaws.{no_name}
use Rattle.sky_base_waves.specs.Seen.{Sees, SeenAsKnown}
use Rattle.sky_base_waves.specs.Wave as wave
use Rattle.sky_base_waves.specs.Wave.{value_of, value_seen, data_or_text, on_list, on_dict, on_fun, on_val, on_pair, fill, fill_vals, fill_pairs, Turned}
use Rattle.sky_base_waves.specs.Wave.{next_of, turn_all, turn_refs, turn_at}

-- ---- what is gathered in order, against what is filled in

module _ (g : Desc → Result Val Fault) where
  abbrev more_of : Result Val Fault → Result (List Val) Fault → Result (List Val) Fault
  more_of (Err f) rest = Err f
  more_of (Ok a) (Err f) = Err f
  more_of (Ok a) (Ok us) = Ok (a ∷ us)

  abbrev results : List Desc → Result (List Val) Fault
  results [] = Ok []
  results (d ∷ ds) = more_of (g d) (results ds)

  abbrev both : Result (List Val) Fault → Result (List Val) Fault → Result (List Val) Fault
  both (Err f) r = Err f
  both (Ok us) (Err f) = Err f
  both (Ok us) (Ok ws) = Ok (us ++ ws)

  more_both : (a : Result Val Fault) (r s : Result (List Val) Fault) → more_of a (both r s) ≡ both (more_of a r) s
  more_both (Err f) r s = refl
  more_both (Ok a) (Err f) s = refl
  more_both (Ok a) (Ok us) (Err f) = refl
  more_both (Ok a) (Ok us) (Ok ws) = refl

  nothing_both : (r : Result (List Val) Fault) → r ≡ both (Ok []) r
  nothing_both (Err f) = refl
  nothing_both (Ok us) = refl

  results_both : (ds es : List Desc) → results (ds ++ es) ≡ both (results ds) (results es)
  results_both [] es = nothing_both (results es)
  results_both (d ∷ ds) es = ap (more_of (g d)) (results_both ds es) ∙ more_both (g d) (results ds) (results es)

  abbrev put_in : {A : Type 0} → ((ℕ → Desc → Val) → ℕ → A) → ℕ → List Val → Result A Fault → Type 0
  put_in r n us s = (length us ≡ n) × ((front back : List Val) → s ≡ Ok (r (λ k d. val_of (front ++ us ++ back) k) (length front)))

  -- r replaces n references
  abbrev Filled : {A : Type 0} → ((ℕ → Desc → Val) → ℕ → A) → ℕ → Result (List Val) Fault → Result A Fault → Type 0
  Filled r n (Err f) s = s ≡ Err f
  Filled r n (Ok us) s = put_in r n us s

  at_end : (front : List Val) (u : Val) (back : List Val) → val_of (front ++ (u ∷ []) ++ back) (length front) ≡ u
  at_end [] u back = refl
  at_end (x ∷ front) u back = at_end front u back

  list_filled : (vs : Vals) (rs : Result (List Val) Fault) (s : Result Vals Fault)
      → Filled (λ h i. vals_replaced h i vs) (length (vals_refs vs)) rs s
      → Filled (λ h i. replaced h i (list vs)) (length (vals_refs vs)) rs (on_list s)
  list_filled vs (Err f) s e = ap on_list e
  list_filled vs (Ok us) s (n, e) = (n, λ front back. ap on_list (e front back))

  dict_filled : (ps : v.Pairs ⊥) (rs : Result (List Val) Fault) (s : Result (v.Pairs ⊥) Fault)
      → Filled (λ h i. pairs_replaced h i ps) (length (pairs_refs ps)) rs s
      → Filled (λ h i. replaced h i (dict ps)) (length (pairs_refs ps)) rs (on_dict s)
  dict_filled ps (Err f) s e = ap on_dict e
  dict_filled ps (Ok us) s (n, e) = (n, λ front back. ap on_dict (e front back))

  fun_filled : (f : List ℕ) (ps : v.Pairs ⊥) (rs : Result (List Val) Fault) (s : Result (v.Pairs ⊥) Fault)
      → Filled (λ h i. pairs_replaced h i ps) (length (pairs_refs ps)) rs s
      → Filled (λ h i. replaced h i (fun f ps)) (length (pairs_refs ps)) rs (on_fun f s)
  fun_filled f ps (Err q) s e = ap (on_fun f) e
  fun_filled f ps (Ok us) s (n, e) = (n, λ front back. ap (on_fun f) (e front back))

  list_one : (front us ws back : List Val) → front ++ us ++ (ws ++ back) ≡ front ++ (us ++ ws) ++ back
  list_one front us ws back =
      sym (append_assoc (front ++ us) ws back) ∙ ap (λ x. x ++ back) (append_assoc front us ws)

  list_two : (front us ws back : List Val) → front ++ us ++ ws ++ back ≡ front ++ (us ++ ws) ++ back
  list_two front us ws back = ap (λ x. x ++ back) (append_assoc front us ws)

  module _ {A B C : Type 0} (r : (ℕ → Desc → Val) → ℕ → A) (q : (ℕ → Desc → Val) → ℕ → B) (join : A → B → C)
      (on_both : Result A Fault → Result B Fault → Result C Fault) (first_err : (f : Fault) (t : Result B Fault) → on_both (Err f) t ≡ Err f)
      (then_err : (a : A) (f : Fault) → on_both (Ok a) (Err f) ≡ Err f) (both_ok : (a : A) (b : B) → on_both (Ok a) (Ok b) ≡ Ok (join a b))
      (n m : ℕ) where
    joined_filled : (rs ss : Result (List Val) Fault) (s : Result A Fault) (t : Result B Fault) → Filled r n rs s → Filled q m ss t
        → Filled (λ h i. join (r h i) (q h (i + n))) (n + m) (both rs ss) (on_both s t)
    joined_filled (Err f) ss s t e k = ap (λ x. on_both x t) e ∙ first_err f t
    joined_filled (Ok us) (Err f) s t (l, e) k = ap₂ on_both (e [] []) k ∙ then_err _ f
    joined_filled (Ok us) (Ok ws) s t (l, e) (j, k) = (sizes, each)
      where
        sizes : length (us ++ ws) ≡ n + m
        sizes = length-append us ws ∙ (λ i. l i + j i)

        each : (front back : List Val) → on_both s t
            ≡ Ok (join (r (λ i d. val_of (front ++ (us ++ ws) ++ back) i) (length front))
            (q (λ i d. val_of (front ++ (us ++ ws) ++ back) i) (length front + n)))
        each front back =
            let at : length (front ++ us) ≡ length front + n = length-append front us ∙ ap (λ x. length front + x) l in
            ap₂ on_both (e front (ws ++ back) ∙ ap (λ x. Ok (r (λ i d. val_of x i) (length front))) (list_one front us ws back))
            (k (front ++ us) back ∙ ap₂ (λ x y. Ok (q (λ i d. val_of x i) y)) (list_two front us ws back) at) ∙ both_ok _ _

  nothing_filled : (a : Val) → ((h : ℕ → Desc → Val) (i : ℕ) → replaced h i a ≡ a) → Filled (λ h i. replaced h i a) 0 (Ok []) (Ok a)
  nothing_filled a e = (refl, λ front back. ap Ok (sym (e (λ k d. val_of (front ++ [] ++ back) k) (length front))))

  ref_filled : (d : Desc) (r : Result Val Fault) → Filled (λ h i. replaced h i (ref d)) 1 (more_of r (Ok [])) r
  ref_filled d (Err f) = refl
  ref_filled d (Ok u) = (refl, λ front back. ap Ok (sym (at_end front u back)))

  mutual
    filled : (a : Val) → Filled (λ h i. replaced h i a) (length (refs a)) (results (refs a)) (fill g a)
    filled null = nothing_filled null (λ h i. refl)
    filled (truth b) = nothing_filled (truth b) (λ h i. refl)
    filled (num z) = nothing_filled (num z) (λ h i. refl)
    filled (text t) = nothing_filled (text t) (λ h i. refl)
    filled (list vs) = list_filled vs (results (vals_refs vs)) (fill_vals g vs) (vals_filled vs)
    filled (dict ps) = dict_filled ps (results (pairs_refs ps)) (fill_pairs g ps) (pairs_filled ps)
    filled (fun f c) = fun_filled f c (results (pairs_refs c)) (fill_pairs g c) (pairs_filled c)
    filled (ref d) = ref_filled d (g d)

    vals_filled : (vs : Vals) → Filled (λ h i. vals_replaced h i vs) (length (vals_refs vs)) (results (vals_refs vs)) (fill_vals g vs)
    vals_filled no_vals = (refl, λ front back. refl)
    vals_filled (val a vs) =
        subst (λ x. Filled (λ h i. vals_replaced h i (val a vs)) x (results (refs a ++ vals_refs vs)) (on_val (fill g a) (fill_vals g vs)))
        (sym (length-append (refs a) (vals_refs vs)))
        (subst (λ x. Filled (λ h i. vals_replaced h i (val a vs)) (length (refs a) + length (vals_refs vs)) x
        (on_val (fill g a) (fill_vals g vs))) (sym (results_both (refs a) (vals_refs vs)))
        (joined_filled (λ h i. replaced h i a) (λ h i. vals_replaced h i vs) val on_val (λ f t. refl) (λ b f. refl) (λ b bs. refl)
        (length (refs a)) (length (vals_refs vs)) (results (refs a)) (results (vals_refs vs)) (fill g a) (fill_vals g vs) (filled a)
        (vals_filled vs)))

    pairs_filled : (ps : v.Pairs ⊥) → Filled (λ h i. pairs_replaced h i ps) (length (pairs_refs ps)) (results (pairs_refs ps)) (fill_pairs g ps)
    pairs_filled no_pairs = (refl, λ front back. refl)
    pairs_filled (pair k a ps) =
        subst (λ x. Filled (λ h i. pairs_replaced h i (pair k a ps)) x (results (refs a ++ pairs_refs ps))
        (on_pair k (fill g a) (fill_pairs g ps))) (sym (length-append (refs a) (pairs_refs ps)))
        (subst (λ x. Filled (λ h i. pairs_replaced h i (pair k a ps)) (length (refs a) + length (pairs_refs ps)) x
        (on_pair k (fill g a) (fill_pairs g ps))) (sym (results_both (refs a) (pairs_refs ps)))
        (joined_filled (λ h i. replaced h i a) (λ h i. pairs_replaced h i ps) (pair k) (on_pair k) (λ f t. refl) (λ b f. refl) (λ b bs. refl)
        (length (refs a)) (length (pairs_refs ps)) (results (refs a)) (results (pairs_refs ps)) (fill g a) (fill_pairs g ps) (filled a)
        (pairs_filled ps)))

-- ---- a wave, lowered

in_left : {A : Type 0} (x : A) (xs ys : List A) → In x xs → In x (xs ++ ys)
in_left x [] ys i = absurd i
in_left x (y ∷ xs) ys (inl e) = inl e
in_left x (y ∷ xs) ys (inr i) = inr (in_left x xs ys i)

in_right : {A : Type 0} (x : A) (xs ys : List A) → In x ys → In x (xs ++ ys)
in_right x [] ys i = i
in_right x (y ∷ xs) ys i = inr (in_right x xs ys i)

module _ (tag : Row → List ℕ) where
  abbrev low_result : Result Val Fault → Result (v.Val (List ℕ)) Fault
  low_result (Ok a) = Ok (low no_name tag a)
  low_result (Err f) = Err f

  abbrev low_results : Result Vals Fault → Result (v.Vals (List ℕ)) Fault
  low_results (Ok vs) = Ok (low_vals no_name tag vs)
  low_results (Err f) = Err f

  abbrev low_entries : Result (v.Pairs ⊥) Fault → Result (v.Pairs (List ℕ)) Fault
  low_entries (Ok ps) = Ok (low_pairs no_name tag ps)
  low_entries (Err f) = Err f

  abbrev pub low_turn : Turn → Turned
  low_turn (Turn.ends a) = Turned.ends a
  low_turn (Turn.next a) = Turned.next (low no_name tag a)

  list_low : (r : Result Vals Fault) → on_list (low_results r) ≡ low_result (on_list r)
  list_low (Ok vs) = refl
  list_low (Err f) = refl

  dict_low : (r : Result (v.Pairs ⊥) Fault) → on_dict (low_entries r) ≡ low_result (on_dict r)
  dict_low (Ok vs) = refl
  dict_low (Err f) = refl

  fun_low : (f : List ℕ) (r : Result (v.Pairs ⊥) Fault) → on_fun f (low_entries r) ≡ low_result (on_fun f r)
  fun_low f (Ok ps) = refl
  fun_low f (Err e) = refl

  val_low : (a : Result Val Fault) (r : Result Vals Fault) → on_val (low_result a) (low_results r) ≡ low_results (on_val a r)
  val_low (Err f) r = refl
  val_low (Ok a) (Err f) = refl
  val_low (Ok a) (Ok vs) = refl

  pair_low : (k : List ℕ) (a : Result Val Fault) (r : Result (v.Pairs ⊥) Fault) → on_pair k (low_result a) (low_entries r)
      ≡ low_entries (on_pair k a r)
  pair_low k (Err f) r = refl
  pair_low k (Ok a) (Err f) = refl
  pair_low k (Ok a) (Ok vs) = refl

  module _ (g : Desc → Result Val Fault) (h : Row → Result (v.Val (List ℕ)) Fault) where
    abbrev Alike : List Desc → Type 0
    Alike ds = (d : Desc) → In d ds → h (low_ref no_name tag d) ≡ low_result (g d)

    mutual
      fill_low : (a : Val) → Alike (refs a) → fill h (low no_name tag a) ≡ low_result (fill g a)
      fill_low null e = refl
      fill_low (truth b) e = refl
      fill_low (num z) e = refl
      fill_low (text t) e = refl
      fill_low (list vs) e = ap on_list (fill_vals_low vs e) ∙ list_low (fill_vals g vs)
      fill_low (dict ps) e = ap on_dict (fill_pairs_low ps e) ∙ dict_low (fill_pairs g ps)
      fill_low (fun f c) e = ap (on_fun f) (fill_pairs_low c e) ∙ fun_low f (fill_pairs g c)
      fill_low (ref d) e = e d (inl refl)

      fill_vals_low : (vs : Vals) → Alike (vals_refs vs) → fill_vals h (low_vals no_name tag vs) ≡ low_results (fill_vals g vs)
      fill_vals_low no_vals e = refl
      fill_vals_low (val a vs) e =
          ap₂ on_val (fill_low a (λ d i. e d (in_left d (refs a) (vals_refs vs) i)))
          (fill_vals_low vs (λ d i. e d (in_right d (refs a) (vals_refs vs) i))) ∙ val_low (fill g a) (fill_vals g vs)

      fill_pairs_low : (ps : v.Pairs ⊥) → Alike (pairs_refs ps) → fill_pairs h (low_pairs no_name tag ps) ≡ low_entries (fill_pairs g ps)
      fill_pairs_low no_pairs e = refl
      fill_pairs_low (pair k a ps) e =
          ap₂ (on_pair k) (fill_low a (λ d i. e d (in_left d (refs a) (pairs_refs ps) i)))
          (fill_pairs_low ps (λ d i. e d (in_right d (refs a) (pairs_refs ps) i))) ∙ pair_low k (fill g a) (fill_pairs g ps)

  abbrev turn_of : Result Val Fault → Turn
  turn_of (Err f) = Turn.ends (Answered.fault f)
  turn_of (Ok u) = next_within u

  next_low : (a b : Bool) (u : Val) → low_turn (m.next_if a b u) ≡ wave.next_if a b (low no_name tag u)
  next_low true b u = refl
  next_low false true u = refl
  next_low false false u = refl

  turn_of_low : (r : Result Val Fault) → low_turn (turn_of r) ≡ next_of (low_result r)
  turn_of_low (Err f) = refl
  turn_of_low (Ok u) =
      next_low (nat_lt 100 (depth u)) (nat_lt 262144 (size u)) u
      ∙ (λ i. wave.next_if (nat_lt 100 (sym (depth_low no_name tag u) i)) (nat_lt 262144 (sym (size_low no_name tag u) i))
      (low no_name tag u))

abbrev gathered : Result (List Val) Fault → Gathered Val
gathered (Ok us) = Gathered.all us
gathered (Err f) = Gathered.faulty f

gathered_more : (r : Result Val Fault) (rest : Result (List Val) Fault) (g : Desc → Result Val Fault) → gather_on r (gathered rest)
    ≡ gathered (more_of g r rest)
gathered_more (Err f) (Err e) g = refl
gathered_more (Err f) (Ok us) g = refl
gathered_more (Ok a) (Err e) g = refl
gathered_more (Ok a) (Ok us) g = refl

all_in : (us : List Val) (a : Val) → next_within (replaced (λ k d. val_of ([] ++ us ++ []) k) 0 a) ≡ next_within (replaced (λ k d. val_of us k) 0 a)
all_in us a = ap (λ x. next_within (replaced (λ k d. val_of x k) 0 a)) (append-nil us)

-- what is gathered gives the turn of what is filled in
turn_filled : (tag : Row → List ℕ) (g : Desc → Result Val Fault) (a : Val) (rs : Result (List Val) Fault)
    → Filled g (λ h i. replaced h i a) (length (refs a)) rs (fill g a) → next_value (gathered rs) a ≡ turn_of tag (fill g a)
turn_filled tag g a (Err f) e = ap (turn_of tag) (sym e)
turn_filled tag g a (Ok us) (l, e) = sym (all_in us a) ∙ ap (turn_of tag) (sym (e [] []))

module _ (job : Job) (around : Around) (reads : List ℕ → Answer (List ℕ)) (writes : v.Val (List ℕ) → Option (List ℕ)) (tag : Row → List ℕ)
    (reads_alike : (b : List ℕ) → reads b ≡ lower {N = ⊥} no_name tag (around.reads b))
    (writes_alike : (a : Val) → writes (low no_name tag a) ≡ around.writes a) (n : ℕ) (knows : Row → Option (Object (List ℕ))) where
  as_value_is : (o : Obj) → as_value around o ≡ value_of around.reads o
  as_value_is (Object.bytes b) = read_is (around.reads b) b
    where
      text_is : (t : Bool) (b : List ℕ) → m.text_if t b ≡ wave.text_if t b
      text_is true b = refl
      text_is false b = refl

      read_is : (r : Answer ⊥) (b : List ℕ) → m.read_or_text r b ≡ data_or_text r b
      read_is (Ok a) b = refl
      read_is (Err k) b = text_is (is_utf8 b) b
  as_value_is (Object.data_of a) = refl
  as_value_is (Object.fault f) = refl

  value_low : (o : Obj) → value_of reads (low_obj no_name tag o) ≡ low_result tag (value_of around.reads o)
  value_low (Object.bytes b) = ap (λ r. data_or_text r b) (reads_alike b) ∙ read_low (around.reads b)
    where
      text_low : (t : Bool) → wave.text_if t b ≡ low_result tag (wave.text_if t b)
      text_low true = refl
      text_low false = refl

      read_low : (r : Answer ⊥) → data_or_text (lower {N = ⊥} no_name tag r) b ≡ low_result tag (data_or_text r b)
      read_low (Ok a) = refl
      read_low (Err k) = text_low (is_utf8 b)
  value_low (Object.data_of a) = refl
  value_low (Object.fault f) = refl

  abbrev up : Desc → Result Val Fault
  up d = value_seen around.reads (see job around n d)

  abbrev down : Row → Result (v.Val (List ℕ)) Fault
  down d = value_seen reads (knows d)

  down_up : (ds : List Desc) → SeenAsKnown job around tag n knows ds → Alike tag up down ds
  down_up ds s d i = go (s d i)
    where
      go : (o : Object (List ℕ)) × (knows (low_ref no_name tag d) ≡ Some o) × Sees job around tag n d o → down (low_ref no_name tag d)
          ≡ low_result tag (up d)
      go (o, k, (p, e, l)) =
          ap (value_seen reads) k ∙ ap (value_of reads) (sym l) ∙ value_low p ∙ ap (λ x. low_result tag (value_seen around.reads x)) (sym e)

  gather_is : (ds : List Desc) → SeenAsKnown job around tag n knows ds → gather (see job around n) (as_value around) ds ≡ gathered (results up ds)
  gather_is [] s = refl
  gather_is (d ∷ ds) s = go (s d (inl refl)) (gather_is ds (λ c i. s c (inr i)))
    where
      go : (o : Object (List ℕ)) × (knows (low_ref no_name tag d) ≡ Some o) × Sees job around tag n d o
          → gather (see job around n) (as_value around) ds ≡ gathered (results up ds) → gather (see job around n) (as_value around) (d ∷ ds)
          ≡ gathered (results up (d ∷ ds))
      go (o, k, (p, e, l)) rest =
          ap₂ (λ x r. gather_one x (as_value around) r) e rest ∙ ap (λ x. gather_on x (gathered (results up ds))) (as_value_is p)
          ∙ gathered_more (value_of around.reads p) (results up ds) up
          ∙ ap (λ x. gathered (more_of up (value_seen around.reads x) (results up ds))) (sym e)

  all_low : (a : Val) → SeenAsKnown job around tag n knows (refs a) → low_turn tag (m.turn_all job around n a)
      ≡ turn_all reads writes knows (low no_name tag a)
  all_low a s =
      ap (λ x. low_turn tag (next_value x a)) (gather_is (refs a) s)
      ∙ ap (low_turn tag) (turn_filled tag up a (results up (refs a)) (filled up a)) ∙ turn_of_low tag (fill up a)
      ∙ ap next_of (sym (fill_low tag up down a (down_up (refs a) s)))

  lone_low : (p : Obj) (t : Turn) (u : Turned) → low_turn tag t ≡ u → low_turn tag (m.lone (Some p) t) ≡ wave.lone (Some (low_obj no_name tag p)) u
  lone_low (Object.bytes b) t u e = refl
  lone_low (Object.data_of a) t u e = e
  lone_low (Object.fault f) t u e = e

  turn_refs_low : (ds : List Desc) (a : Val) → SeenAsKnown job around tag n knows (refs a) → low_turn tag (m.turn_refs job around n ds a)
      ≡ turn_refs reads writes knows (map (low_ref no_name tag) ds) (low no_name tag a)
  turn_refs_low [] a s = ap (λ x. Turned.ends (m.text_of x)) (sym (writes_alike a))
  turn_refs_low (d ∷ ds) (ref e) s = go (s e (inl refl))
    where
      go : (o : Object (List ℕ)) × (knows (low_ref no_name tag e) ≡ Some o) × Sees job around tag n e o
          → low_turn tag (m.lone (see job around n e) (m.turn_all job around n (ref e)))
          ≡ wave.lone (knows (low_ref no_name tag e)) (turn_all reads writes knows (low no_name tag (ref e)))
      go (o, k, (p, f, l)) =
          ap (λ x. low_turn tag (m.lone x (m.turn_all job around n (ref e)))) f
          ∙ lone_low p (m.turn_all job around n (ref e)) (turn_all reads writes knows (low no_name tag (ref e))) (all_low (ref e) s)
          ∙ ap (λ x. wave.lone x (turn_all reads writes knows (low no_name tag (ref e)))) (ap Some l ∙ sym k)
  turn_refs_low (d ∷ ds) null s = all_low null s
  turn_refs_low (d ∷ ds) (truth b) s = all_low (truth b) s
  turn_refs_low (d ∷ ds) (num z) s = all_low (num z) s
  turn_refs_low (d ∷ ds) (text t) s = all_low (text t) s
  turn_refs_low (d ∷ ds) (list vs) s = all_low (list vs) s
  turn_refs_low (d ∷ ds) (dict ps) s = all_low (dict ps) s
  turn_refs_low (d ∷ ds) (fun f c) s = all_low (fun f c) s

  pub turn_low : (a : Val) → SeenAsKnown job around tag n knows (refs a) → low_turn tag (turn job around n a)
      ≡ turn_at reads writes knows (low no_name tag a)
  turn_low a s =
      turn_refs_low (refs a) a s ∙ ap (λ ds. turn_refs reads writes knows ds (low no_name tag a)) (sym (refs_low no_name tag a))
