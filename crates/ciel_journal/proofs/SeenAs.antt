-- A graph seen as another has the same reached tasks, the same that can run, and the same circles.
use Rattle.std.proofs.Common.{◌≡◌, List, [], ◌∷◌, true, false, map, refl, ap, sym, ◌∙◌, subst, inl, inr, Option, Some, None}
use Rattle.std.specs.Option.{option_map}
use Rattle.ciel_journal.specs.Graph.{Chain, Circle, Graph, Led, Runnable, SeenAs, WaitsOn, root, through}
use Rattle.ciel_journal.specs.Job.{Each, In}

module _ {N M : Type 0} (name : N → M) where
  pub in_names : (d : N) (ds : List N) → In d ds → In (name d) (map name ds)
  in_names d [] i = absurd i
  in_names d (e ∷ es) (inl s) = inl (ap name s)
  in_names d (e ∷ es) (inr i) = inr (in_names d es i)

  of_names : (m : M) (ds : List N) → In m (map name ds) → (d : N) × In d ds × (m ≡ name d)
  of_names m [] i = absurd i
  of_names m (e ∷ es) (inl s) = (e, inl refl, s)
  of_names m (e ∷ es) (inr i) = let q = of_names m es i in (q.0, inr q.1, q.2)

  each_there : (P : N → Type 0) (Q : M → Type 0) (ds : List N) → ((d : N) → In d ds → P d → Q (name d)) → Each P ds → Each Q (map name ds)
  each_there P Q [] f e = tt
  each_there P Q (d ∷ ds) f e = (f d (inl refl) e.0, each_there P Q ds (λ x i. f x (inr i)) e.1)

  each_here : (P : N → Type 0) (Q : M → Type 0) (ds : List N) → ((d : N) → In d ds → Q (name d) → P d) → Each Q (map name ds) → Each P ds
  each_here P Q [] f e = tt
  each_here P Q (d ∷ ds) f e = (f d (inl refl) e.0, each_here P Q ds (λ x i. f x (inr i)) e.1)

module _ {T N U M : Type 0} (g : Graph T N) (h : Graph U M) (task : T → U) (name : N → M) (s : SeenAs g h task name) where
  -- ---- reached tasks

  pub led_there : (t : T) → Led g t → Led h (task t)
  led_there t (root) = subst (Led h) (sym s.root) root
  led_there t (through {t = u} l o d i v k) =
      through (led_there u l) (s.out u l ∙ o) (name d) (subst (In (name d)) (sym (s.needs u l)) (in_names name d (g.needs u) i))
      (s.live u d l i ∙ v) (s.maker u d l i v ∙ ap (option_map task) k)

  -- what is seen as a task
  abbrev pub Comes : U → Type 0
  Comes x = (t : T) × (task t ≡ x) × Led g t

  made_here : (o : Option T) (x : U) → option_map task o ≡ Some x → (u : T) × (o ≡ Some u) × (task u ≡ x)
  made_here None x e = cc
  made_here (Some u) x e = (u, refl, cc)

  -- a name for which a task waits
  need_here : (y : U) (m : M) → Comes y → In m (h.needs y) → (t : T) × (d : N) × (task t ≡ y) × Led g t × In d (g.needs t) × (m ≡ name d)
  need_here y m q i =
      let d = of_names name m (g.needs q.0) (subst (In m) (ap h.needs (sym q.1) ∙ s.needs q.0 q.2) i) in
      (q.0, d.0, q.1, q.2, d.1, d.2)

  pub led_here : (x : U) → Led h x → Comes x
  led_here x (root) = (g.root, s.root, root)
  led_here x (through {t = y} l o m i v k) = next (need_here y m (led_here y l) i)
    where
      next : ((t : T) × (d : N) × (task t ≡ y) × Led g t × In d (g.needs t) × (m ≡ name d)) → Comes x
      next q =
          let dead : g.live q.1 ≡ false = sym (s.live q.0 q.1 q.3 q.4) ∙ (ap h.live (sym q.5) ∙ v) in
          let out : g.out q.0 ≡ false = sym (s.out q.0 q.3) ∙ (ap h.out q.2 ∙ o) in
          let u = made_here (g.maker q.1) x (sym (s.maker q.0 q.1 q.3 q.4 dead) ∙ (ap h.maker (sym q.5) ∙ k)) in
          (u.0, u.2, through q.3 out q.1 q.4 dead u.1)

  -- ---- tasks that can run

  pub runs_there : (t : T) → Runnable g t → Runnable h (task t)
  runs_there t r =
      record {
        reached = led_there t r.reached;
        not_out = s.out t r.reached ∙ r.not_out;
        met = subst (Each (λ m. h.live m ≡ true)) (sym (s.needs t r.reached))
            (each_there name (λ d. g.live d ≡ true) (λ m. h.live m ≡ true) (g.needs t) (λ d i e. s.live t d r.reached i ∙ e) r.met);
      }

  pub runs_here : (x : U) → Runnable h x → (t : T) × (task t ≡ x) × Runnable g t
  runs_here x r = next (led_here x r.reached)
    where
      next : Comes x → (t : T) × (task t ≡ x) × Runnable g t
      next q =
          let e : Each (λ m. h.live m ≡ true) (map name (g.needs q.0)) =
          subst (Each (λ m. h.live m ≡ true)) (ap h.needs (sym q.1) ∙ s.needs q.0 q.2) r.met in (
            q.0,
            q.1,
            record {
              reached = q.2;
              not_out = sym (s.out q.0 q.2) ∙ (ap h.out q.1 ∙ r.not_out);
              met = each_here name (λ d. g.live d ≡ true) (λ m. h.live m ≡ true) (g.needs q.0) (λ d i k. sym (s.live q.0 d q.2 i) ∙ k) e;
            },
          )

  -- ---- circles, where nothing is out

  -- a reached task waits for it
  abbrev pub Waited : N → Type 0
  Waited d = (t : T) × Led g t × In d (g.needs t)

  ends_waited : (front d : N) (es : List N) → Chain g front d es → Waited front
  ends_waited front d [] c = (c.0, c.2, c.4)
  ends_waited front d (e ∷ es) c = ends_waited front e es c.1

  waits_there : (d e : N) → Waited d → WaitsOn g d e → WaitsOn h (name d) (name e)
  waits_there d e w k = (
    task k.0,
    s.maker w.0 d w.1 w.2 k.3 ∙ ap (option_map task) k.1,
    led_there k.0 k.2,
    s.live w.0 d w.1 w.2 ∙ k.3,
    subst (In (name e)) (sym (s.needs k.0 k.2)) (in_names name e (g.needs k.0) k.4),
  )

  chain_there : (front d : N) (es : List N) → Waited d → Chain g front d es → Chain h (name front) (name d) (map name es)
  chain_there front d [] w c = waits_there d front w c
  chain_there front d (e ∷ es) w c =
      (waits_there d e w c.0, chain_there front e es (c.0.0, c.0.2, c.0.4) c.1)

  pub circle_there : (ds : List N) → Circle g ds → Circle h (map name ds)
  circle_there [] c = absurd c
  circle_there (d ∷ ds) c = chain_there d d ds (ends_waited d d ds c) c

  module _ (none_out : (t : T) → g.out t ≡ false) (tasks : (t u : T) → Led g t → Led g u → task t ≡ task u → t ≡ u)
      (names : (d e : N) → Waited d → Waited e → name d ≡ name e → d ≡ e) where
    -- the next name of a circle there is that of one that is waited for here
    waits_here : (d : N) (m : M) → Waited d → WaitsOn h (name d) m → (e : N) × (m ≡ name e) × WaitsOn g d e
    waits_here d m w k = next (need_here k.0 m (led_here k.0 k.2) k.4)
      where
        next : ((t : T) × (e : N) × (task t ≡ k.0) × Led g t × In e (g.needs t) × (m ≡ name e)) → (e : N) × (m ≡ name e) × WaitsOn g d e
        next q =
            let dead : g.live d ≡ false = sym (s.live w.0 d w.1 w.2) ∙ k.3 in
            let u = made_here (g.maker d) k.0 (sym (s.maker w.0 d w.1 w.2 dead) ∙ k.1) in
            let l : Led g u.0 = through w.1 (none_out w.0) d w.2 dead u.1 in
            let same : u.0 ≡ q.0 = tasks u.0 q.0 l q.3 (u.2 ∙ sym q.2) in
            (q.1, q.5, (u.0, u.1, l, dead, subst (λ x. In q.1 (g.needs x)) (sym same) q.4))

    -- the names there of a circle that began at a name
    chain_here : (front : N) (m : M) (d : N) (ms : List M) → Waited front → Waited d → m ≡ name d → Chain h (name front) m ms → (es : List N)
        × (ms ≡ map name es) × Chain g front d es
    chain_here front m d [] f w e c =
        let q = waits_here d (name front) w (subst (λ x. WaitsOn h x (name front)) e c) in
        let same : front ≡ q.0 = names front q.0 f (q.2.0, q.2.2, q.2.4) q.1 in
        ([], refl, subst (WaitsOn g d) (sym same) q.2)
    chain_here front m d (n ∷ ns) f w e c =
        next (waits_here d n w (subst (λ x. WaitsOn h x n) e c.0)) (λ y v k. chain_here front n y ns f v k c.1)
      where
        next : ((y : N) × (n ≡ name y) × WaitsOn g d y)
            → ((y : N) → Waited y → n ≡ name y → (es : List N) × (ns ≡ map name es) × Chain g front y es) → (es : List N)
            × (n ∷ ns ≡ map name es) × Chain g front d es
        next q go =
            let r = go q.0 (q.2.0, q.2.2, q.2.4) q.1 in
            (q.0 ∷ r.0, ap (λ x. x ∷ ns) q.1 ∙ ap (λ xs. name q.0 ∷ xs) r.1, (q.2, r.2))

    last_here : (front m : M) (ms : List M) → Chain h front m ms → (d : N) × (front ≡ name d) × Waited d
    last_here front m [] c =
        let q = need_here c.0 front (led_here c.0 c.2) c.4 in (q.1, q.5, (q.0, q.3, q.4))
    last_here front m (n ∷ ns) c = last_here front n ns c.1

    pub circle_here : (ms : List M) → Circle h ms → (ds : List N) × (ms ≡ map name ds) × Circle g ds
    circle_here [] c = absurd c
    circle_here (m ∷ ms) c = next (last_here m m ms c)
      where
        next : ((d : N) × (m ≡ name d) × Waited d) → (ds : List N) × (m ∷ ms ≡ map name ds) × Circle g ds
        next q =
            let r = chain_here q.0 m q.0 ms q.2 q.2 q.1 (subst (λ x. Chain h x m ms) q.1 c) in
            (q.0 ∷ r.0, ap (λ x. x ∷ ms) q.1 ∙ ap (λ xs. name q.0 ∷ xs) r.1, r.2)
