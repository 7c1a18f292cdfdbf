-- A node is out no longer.
use Rattle.std.proofs.Common.{◌≡◌, ℕ, zero, suc, ◌<◌, List, [], ◌∷◌, ◌++◌, length, length-set, Bool, true, false, not, ◌||◌, nat_eq, eqb-true, eq-eqb}
use Rattle.std.proofs.Common.{get_or, set, refl, ap, sym, ◌∙◌, subst, arith, ◌⊎◌, inl, inr, Option, Some}
use Rattle.ciel_journal.specs.Graph.{Led, root, through}
use Rattle.ciel_journal.specs.Job.{In}
use Rattle.ciel_journal.proofs.Members.{bool_cases, or_true}
use Rattle.ciel_want_marks.specs.Lists.{at, entry, flag}
use Rattle.ciel_want_marks.specs.Marks.{Active, Counted, Justified, LacksIt, Listed, MarksSeen, Needs, Right, Stands, is_live, net}
use Rattle.ciel_want_marks.specs.Moves.{MakesDead}
use Rattle.ciel_want_marks.proofs.Slots.{entry_within, flag_here, flag_off, flag_other, flag_within, in_last, nat_cases, not_both, not_true}
use Rattle.ciel_want_marks.proofs.KeptMarks.{all_counted, counted_still}
use Rattle.ciel_want_marks.proofs.Rises.{got_in}

module _ (m : MarksSeen) (u : ℕ) (needs : Needs) (right : Right m needs) (was : flag m.out u ≡ true) where
  s : Stands m needs [] []
  s = right.0

  -- the tasks that are out after it
  abbrev pub outs : List Bool
  outs = set m.out u false

  off_now : flag outs u ≡ false
  off_now = flag_here m.out u false (flag_within m.out u was)

  led : (w : ℕ) → Led (net needs m.live m.makers m.out) w → Led (net needs m.live m.makers outs) w
  led w (root) = root
  led w (through {t = x} l o d i v z) = through (led x l) (flag_off m.out u x o) d i v z

  -- another node is wanted and not out where it was so before
  before : (w : ℕ) → (w ≡ u → ⊥) → flag outs w ≡ false → flag m.out w ≡ false
  before w f o = sym (flag_other m.out u w false f) ∙ o

  other : (w : ℕ) → flag m.out w ≡ false → w ≡ u → ⊥
  other w o e = not_both (flag m.out w) (subst (λ x. flag m.out x ≡ true) (sym e) was) o

  justified : (w : ℕ) → (w ≡ u → ⊥) → Justified m needs w → Led (net needs m.live m.makers outs) w
      ⊎ ((flag outs w ≡ true) × (flag m.touched w ≡ true))
  justified w f (inl l) = inl (led w l)
  justified w f (inr o) = inr (flag_other m.out u w false f ∙ o.0, o.1)

  -- ---- it wasn't wanted

  abbrev pub closed : MarksSeen
  closed = record m { out = outs }

  -- ---- or its needs are to be looked at

  abbrev pub reopened : MarksSeen
  reopened = record m { out = outs; todo = m.todo ++ u ∷ [] }

  -- ---- or it is wanted no longer

  abbrev pub ended : MarksSeen
  ended =
      record m { out = outs; wanted = set m.wanted u false; touched = set m.touched u false }

  pub closes_unwanted : flag m.wanted u ≡ false → Stands closed needs [] []
  closes_unwanted z =
      record {
        shape = record {
          makers = s.shape.makers;
          watchers = s.shape.watchers;
          wanted = s.shape.wanted;
          out = length-set m.out u false ∙ s.shape.out;
          touched = s.shape.touched;
          makes = s.shape.makes;
          lacks = s.shape.lacks;
          nodes = s.shape.nodes;
        };
        filed = s.filed;
        root = s.root;
        justified = λ w h. justified w (apart w h) (s.justified w h);
        counted = λ w a. inl (counted_still m closed needs needs [] [] w refl (λ d y. y) (λ d x. inr x) refl (λ x. (x.0, listed w x.1))
            (λ x. inl x) (λ x. x) (all_counted m needs right w (a.0, before w (apart w a.0) a.1)));
        ready = λ r h. let q = s.ready r h in (q.0, (q.1.0, flag_off m.out u q.0 q.1.1), q.2, q.3);
      }
    where
      apart : (w : ℕ) → flag m.wanted w ≡ true → w ≡ u → ⊥
      apart w h e = not_both (flag m.wanted w) h (subst (λ x. flag m.wanted x ≡ false) (sym e) z)

      listed : (w : ℕ) → Listed m w → Listed closed w
      listed zero l = tt
      listed (suc e) l = l

  pub closes_open : (u ≡ 0) ⊎ (flag m.touched u ≡ false) → Stands reopened needs [] []
  closes_open why =
      record {
        shape = record {
          makers = s.shape.makers;
          watchers = s.shape.watchers;
          wanted = s.shape.wanted;
          out = length-set m.out u false ∙ s.shape.out;
          touched = s.shape.touched;
          makes = s.shape.makes;
          lacks = s.shape.lacks;
          nodes = s.shape.nodes;
        };
        filed = s.filed;
        root = s.root;
        justified = λ w h. pick w h (nat_cases w u);
        counted = λ w a. counted w a (nat_cases w u);
        ready = λ r h. let q = s.ready r h in (q.0, (q.1.0, flag_off m.out u q.0 q.1.1), q.2, q.3);
      }
    where
      its_own : (u ≡ 0) ⊎ (flag m.touched u ≡ false) → Justified m needs u → Led (net needs m.live m.makers outs) u
      its_own (inl e) j = subst (Led (net needs m.live m.makers outs)) (sym e) root
      its_own (inr f) (inl l) = led u l
      its_own (inr f) (inr o) = not_both (flag m.touched u) o.1 f

      pick : (w : ℕ) → flag m.wanted w ≡ true → ((w ≡ u) ⊎ (w ≡ u → ⊥)) → Led (net needs m.live m.makers outs) w
          ⊎ ((flag outs w ≡ true) × (flag m.touched w ≡ true))
      pick w h (inl e) =
          inl (subst (Led (net needs m.live m.makers outs)) (sym e) (its_own why (s.justified u (subst (λ x. flag m.wanted x ≡ true) e h))))
      pick w h (inr f) = justified w f (s.justified w h)

      listed : (w : ℕ) → Listed m w → Listed reopened w
      listed zero l = tt
      listed (suc e) l = l

      counted : (w : ℕ) → Active reopened w → ((w ≡ u) ⊎ (w ≡ u → ⊥)) → Counted reopened needs [] w ⊎ (In w reopened.todo ⊎ In w [])
      counted w a (inl e) = inr (inl (subst (λ x. In x (m.todo ++ u ∷ [])) (sym e) (in_last m.todo u)))
      counted w a (inr f) =
          inl (counted_still m reopened needs needs [] [] w refl (λ d y. y) (λ d x. inr x) refl (λ x. (x.0, listed w x.1)) (λ x. inl x) (λ x. x)
          (all_counted m needs right w (a.0, before w f a.1)))

  pub closes_ended : (u ≡ 0 → ⊥) → ((r : ℕ) → In r (at m.makes u) → flag m.live r ≡ true) → Stands ended needs [] []
  closes_ended some all =
      record {
        shape = record {
          makers = s.shape.makers;
          watchers = s.shape.watchers;
          wanted = length-set m.wanted u false ∙ s.shape.wanted;
          out = length-set m.out u false ∙ s.shape.out;
          touched = length-set m.touched u false ∙ s.shape.touched;
          makes = s.shape.makes;
          lacks = s.shape.lacks;
          nodes = s.shape.nodes;
        };
        filed = s.filed;
        root = flag_other m.wanted u 0 false (λ e. some (sym e)) ∙ s.root;
        justified = λ w h. let f = apart w h in
            touch w f (justified w f (s.justified w (wanted_before w f h)));
        counted = λ w a. let f = apart w a.0 in
            inl (counted_still m ended needs needs [] [] w refl (λ d y. y) (lack w) refl (λ x. (x.0, listed w x.1)) (λ x. inl x) (λ x. x)
            (all_counted m needs right w (wanted_before w f a.0, before w f a.1)));
        ready = λ r h. let q = s.ready r h in
            let f = other q.0 q.1.1 in
            (q.0, (flag_other m.wanted u q.0 false f ∙ q.1.0, flag_off m.out u q.0 q.1.1), q.2, q.3);
      }
    where
      long : u < length m.wanted
      long =
          let l = flag_within m.out u was in
          let a = s.shape.out in
          let b = s.shape.wanted in
          omega (arith, l, a, b)

      apart : (w : ℕ) → flag ended.wanted w ≡ true → w ≡ u → ⊥
      apart w h e =
          not_both (flag ended.wanted w) h (ap (flag ended.wanted) e ∙ flag_here m.wanted u false long)

      wanted_before : (w : ℕ) → (w ≡ u → ⊥) → flag ended.wanted w ≡ true → flag m.wanted w ≡ true
      wanted_before w f h = sym (flag_other m.wanted u w false f) ∙ h

      touch : (w : ℕ) → (w ≡ u → ⊥) → Led (net needs m.live m.makers outs) w ⊎ ((flag outs w ≡ true) × (flag m.touched w ≡ true))
          → Justified ended needs w
      touch w f (inl l) = inl l
      touch w f (inr o) = inr (o.0, flag_other m.touched u w false f ∙ o.1)

      listed : (w : ℕ) → Listed m w → Listed ended w
      listed zero l = tt
      listed (suc e) l = l

      -- what it made is live
      lack : (w : ℕ) (d : Option ℕ) → LacksIt m w d → (is_live m.live d ≡ true) ⊎ LacksIt ended w d
      lack w d x = turn (nat_cases x.1 u)
        where
          turn : ((x.1 ≡ u) ⊎ (x.1 ≡ u → ⊥)) → (is_live m.live d ≡ true) ⊎ LacksIt ended w d
          turn (inl e) =
              let m0 : entry m.makers x.0 ≡ Some u = x.4 ∙ ap (λ n. Some n) e in
              inl (ap (is_live m.live) x.2 ∙ all x.0 (s.filed.makes_it x.0 u (within x.0 u m0) m0))
            where
              within : (r v : ℕ) → entry m.makers r ≡ Some v → r < length m.live
              within r v e =
                  let l = entry_within m.makers r v e in
                  let a = s.shape.makers in
                  omega (arith, l, a)
          turn (inr f) = inr (x.0, x.1, x.2, x.3, x.4, flag_other m.wanted u x.1 false f ∙ x.5)

pub open_why : (u : ℕ) (b : Bool) → nat_eq u 0 || not b ≡ true → (u ≡ 0) ⊎ (b ≡ false)
open_why u b e = turn (bool_cases (nat_eq u 0))
  where
    turn : ((nat_eq u 0 ≡ true) ⊎ (nat_eq u 0 ≡ false)) → (u ≡ 0) ⊎ (b ≡ false)
    turn (inl t) = inl (eqb-true u 0 t)
    turn (inr f) = inr (not_true b (sym (ap (λ c. c || not b) f) ∙ e))

pub not_open : (u : ℕ) (b : Bool) → nat_eq u 0 || not b ≡ false → u ≡ 0 → ⊥
not_open u b e z = not_both (nat_eq u 0 || not b) (ap (λ c. c || not b) (eq-eqb u 0 z)) e

-- ---- where a node ended in part

pub open_not : (u : ℕ) (b : Bool) → (nat_eq u 0 || not b ≡ true) → (u ≡ 0 → ⊥) → b ≡ true → ⊥
open_not u b e f t = turn (open_why u b e)
  where
    turn : ((u ≡ 0) ⊎ (b ≡ false)) → ⊥
    turn (inl z) = f z
    turn (inr o) = not_both b t o

pub not_open_touched : (u : ℕ) (b : Bool) → nat_eq u 0 || not b ≡ false → b ≡ true
not_open_touched u true e = refl
not_open_touched u false e = not_both (nat_eq u 0 || true) (or_true (nat_eq u 0) true refl) e

pub makes_dead : (m : MarksSeen) (u : ℕ) (rows : List ℕ) (i : ℕ) → rows ≡ at m.makes u → i < length rows
    → flag m.live (get_or rows i 0) ≡ false → MakesDead u m
makes_dead m u rows i e l f = (get_or rows i 0, subst (In (get_or rows i 0)) e (got_in rows i l), f)
