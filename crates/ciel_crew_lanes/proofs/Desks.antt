-- Each step of a desk keeps its rule.
use Rattle.std.proofs.Common.{◌≡◌, ℕ, zero, suc, ◌+◌, List, [], ◌∷◌, ◌++◌, length, set, sym, refl, ap, ◌∙◌, subst, arith, length-append, inl, inr}
use Rattle.std.specs.Prelude.{Some}
use mathlib.Core.Option.{some, some-injective, some-ne-none}
use lib.ListN.{get_elem?}
use Rattle.crossbeam_channel.specs.Fifo.{Pushes, Pops, Forks}
use Rattle.ciel_crew_lanes.specs.declared.notes.Knows.{Knows}
use Rattle.ciel_crew_lanes.specs.declared.notes.Role.TheVariants.{Alone, Master, Worker}
use Rattle.ciel_crew_lanes.specs.declared.notes.Note.{Note}
use Rattle.ciel_crew_lanes.specs.declared.notes.Note.TheVariants.{Job, Output}
use Rattle.ciel_crew_lanes.specs.Desk.{alone, fresh_master, fresh_worker, Case, idle, waits, works, done, Stands, opened, both, HasPut, HasTaken, MayPut}
use Rattle.ciel_crew_lanes.specs.Desk.{MayTake}

at_one : {I : Type 0} (a v : Knows I) (pass : ℕ) → get_elem? (a ∷ []) pass ≡ some v → a ≡ v
at_one a v zero e = some-injective a v e
at_one a v (suc pass) e = absurd (some-ne-none v (sym e))

at_master : {I : Type 0} (m w v : Knows I) (pass : ℕ) → w.role ≡ Worker → v.role ≡ Master → get_elem? (m ∷ w ∷ []) pass ≡ some v
    → (m ≡ v) × ((x : Knows I) → set (m ∷ w ∷ []) pass x ≡ x ∷ w ∷ [])
at_master m w v zero ww vm e = (some-injective m v e, λ x. refl)
at_master m w v (suc zero) ww vm e = let same : w ≡ v = some-injective w v e in absurd cc
at_master m w v (suc (suc pass)) ww vm e = absurd (some-ne-none v (sym e))

at_worker : {I : Type 0} (m w v : Knows I) (pass : ℕ) → m.role ≡ Master → v.role ≡ Worker → get_elem? (m ∷ w ∷ []) pass ≡ some v
    → (w ≡ v) × ((x : Knows I) → set (m ∷ w ∷ []) pass x ≡ m ∷ x ∷ [])
at_worker m w v zero mm vw e = let same : m ≡ v = some-injective m v e in absurd cc
at_worker m w v (suc zero) mm vw e = (some-injective w v e, λ x. refl)
at_worker m w v (suc (suc pass)) mm vw e = absurd (some-ne-none v (sym e))

set_one : {I : Type 0} (a v x : Knows I) (pass : ℕ) → get_elem? (a ∷ []) pass ≡ some v → set (a ∷ []) pass x ≡ x ∷ []
set_one a v x zero e = refl
set_one a v x (suc pass) e = absurd (some-ne-none v (sym e))

neither : {I : Type 0} (m w v : Knows I) (pass : ℕ) → m.role ≡ Master → w.role ≡ Worker → v.role ≡ Alone → get_elem? (m ∷ w ∷ []) pass ≡ some v → ⊥
neither m w v zero mm ww va e = let same : m ≡ v = some-injective m v e in cc
neither m w v (suc zero) mm ww va e = let same : w ≡ v = some-injective w v e in cc
neither m w v (suc (suc pass)) mm ww va e = absurd (some-ne-none v (sym e))

module _ {I O : Type 0} (good : I → Type 0) (ties : I → O → Type 0) where
  -- the desk as the master sees it
  record MasterSide (items : List (Note I O)) (views : List (Knows I)) (pass : ℕ) (v : Knows I) : Type 0 where
    w : Knows I
    worker : w.role ≡ Worker
    case : Case good ties items v w
    sets : (x : Knows I) → set views pass x ≡ x ∷ w ∷ []

  record WorkerSide (items : List (Note I O)) (views : List (Knows I)) (pass : ℕ) (v : Knows I) : Type 0 where
    m : Knows I
    master : m.role ≡ Master
    case : Case good ties items m v
    sets : (x : Knows I) → set views pass x ≡ m ∷ x ∷ []

  as_master : (items : List (Note I O)) (views : List (Knows I)) (pass : ℕ) (v : Knows I) → v.role ≡ Master → Stands good ties items views
      → get_elem? views pass ≡ some v → MasterSide items views pass v
  as_master items views pass v vm (opened e s) at = let same : alone ≡ v =
      at_one alone v pass (subst (λ (l : List (Knows I)). get_elem? l pass ≡ some v) s at) in absurd cc
  as_master items views pass v vm (both b) at =
      let r = at_master b.m b.w v pass b.worker vm (subst (λ (l : List (Knows I)). get_elem? l pass ≡ some v) b.views_are at) in record {
        w = b.w;
        worker = b.worker;
        case = subst (λ (x : Knows I). Case good ties items x b.w) r.0 b.case;
        sets = λ x. ap (λ (l : List (Knows I)). set l pass x) b.views_are ∙ r.1 x;
      }

  as_worker : (items : List (Note I O)) (views : List (Knows I)) (pass : ℕ) (v : Knows I) → v.role ≡ Worker → Stands good ties items views
      → get_elem? views pass ≡ some v → WorkerSide items views pass v
  as_worker items views pass v vm (opened e s) at = let same : alone ≡ v =
      at_one alone v pass (subst (λ (l : List (Knows I)). get_elem? l pass ≡ some v) s at) in absurd cc
  as_worker items views pass v vm (both b) at =
      let r = at_worker b.m b.w v pass b.master vm (subst (λ (l : List (Knows I)). get_elem? l pass ≡ some v) b.views_are at) in record {
        m = b.m;
        master = b.master;
        case = subst (λ (x : Knows I). Case good ties items b.m x) r.0 b.case;
        sets = λ x. ap (λ (l : List (Knows I)). set l pass x) b.views_are ∙ r.1 x;
      }

  again_master : (items : List (Note I O)) (views : List (Knows I)) (pass : ℕ) (v x w : Knows I) → x.role ≡ Master → w.role ≡ Worker
      → Case good ties items x w → set views pass x ≡ x ∷ w ∷ [] → Stands good ties items (set views pass x)
  again_master items views pass v x w xm ww c s = both record { m = x; w = w; views_are = s; master = xm; worker = ww; case = c }

  again_worker : (items : List (Note I O)) (views : List (Knows I)) (pass : ℕ) (v x m : Knows I) → m.role ≡ Master → x.role ≡ Worker
      → Case good ties items m x → set views pass x ≡ m ∷ x ∷ [] → Stands good ties items (set views pass x)
  again_worker items views pass v x m mm xw c s = both record { m = m; w = x; views_are = s; master = mm; worker = xw; case = c }

  out_by_one : (put before : List I) (job : I) → put ≡ before ++ job ∷ [] → length put ≡ length before + 1
  out_by_one put before job e = ap length e ∙ length-append before (job ∷ [])

  -- the master puts a job
  put_case : (items : List (Note I O)) (v w : Knows I) (j : I) → v.taken ≡ length v.put → good j → Case good ties items v w
      → Case good ties (items ++ Job j ∷ []) (record v { put = v.put ++ j ∷ [] }) w
  put_case items v w j none g (idle c) = waits record {
    before = v.put;
    job = j;
    put = refl;
    lies = ap (λ (l : List (Note I O)). l ++ Job j ∷ []) c.empty;
    takes = g;
    outs = c.outs;
    took = c.took;
    gave = c.gave;
  }
  put_case items v w j none g (waits c) = let l = out_by_one v.put c.before c.job c.put in absurd (omega (arith, l, c.outs))
  put_case items v w j none g (works c) = let l = out_by_one v.put c.before c.job c.put in absurd (omega (arith, l, c.outs))
  put_case items v w j none g (done c) = let l = out_by_one v.put c.before c.job c.put in absurd (omega (arith, l, c.outs))

  -- the worker puts an output
  give_case : (items : List (Note I O)) (m v : Knows I) (j : I) (o : O) → v.last ≡ Some j → v.taken ≡ v.given + 1 → ties j o
      → Case good ties items m v
      → Case good ties (items ++ Output o ∷ []) m (record v { given = v.given + 1 })
  give_case items m v j o last one t (works c) = let same : c.job ≡ j = cc in done record {
    before = c.before;
    job = c.job;
    output = o;
    put = c.put;
    lies = ap (λ (l : List (Note I O)). l ++ Output o ∷ []) c.empty;
    fits = subst (λ (x : I). ties x o) (sym same) t;
    last = c.last;
    outs = c.outs;
    took = c.took;
    gave = omega (arith, c.gave);
  }
  give_case items m v j o last one t (idle c) = absurd (omega (arith, c.took, c.gave))
  give_case items m v j o last one t (waits c) = absurd (omega (arith, c.took, c.gave))
  give_case items m v j o last one t (done c) = absurd (omega (arith, c.took, c.gave))

  pub pushes : (n pass : ℕ) (v : Knows I) (x : Note I O) → MayPut good ties v x → Pushes (Stands good ties) n pass v x (HasPut v x)
  pushes n pass v (Job j) may items views room h at = let s = as_master items views pass v may.0 h at in let x : Knows I =
      record v { put = v.put ++ j ∷ [] } in
      (x, again_master (items ++ Job j ∷ []) views pass v x s.w may.0 s.worker (put_case items v s.w j may.1 may.2 s.case) (s.sets x), refl)
  pushes n pass v (Output o) may items views room h at = let s = as_worker items views pass v may.0 h at in let x : Knows I =
      record v { given = v.given + 1 } in (
        x,
        again_worker (items ++ Output o ∷ []) views pass v x s.m s.master may.0
            (give_case items s.m v may.1.0 o may.1.1 may.1.2 may.1.3 s.case) (s.sets x),
        refl,
      )

  -- what the master takes
  record MasterTook (items : List (Note I O)) (v w : Knows I) (x : Note I O) : Type 0 where
    after : Knows I
    role : after.role ≡ Master
    case : Case good ties items after w
    told : HasTaken good ties v x after

  master_takes : (x : Note I O) (items : List (Note I O)) (v w : Knows I) → v.role ≡ Master → v.taken + 1 ≡ length v.put
      → Case good ties (x ∷ items) v w → MasterTook items v w x
  master_takes x items v w vm one (idle c) = let e = c.empty in absurd cc
  master_takes x items v w vm one (works c) = let e = c.empty in absurd cc
  master_takes (Output o) items v w vm one (waits c) = let e = c.lies in absurd cc
  master_takes (Job j) items v w vm one (waits c) = let e = c.lies in let same : c.job ≡ j = cc in let none : items ≡ [] = cc in record {
    after = record v { put = c.before; back = v.back + 1 };
    role = vm;
    case = idle record { empty = none; outs = c.outs; took = c.took; gave = c.gave };
    told = (
      (λ _. record {
        before = c.before;
        put = subst (λ (y : I). v.put ≡ c.before ++ y ∷ []) same c.put;
        takes = subst good same c.takes;
        after =
            refl;
      }),
      λ vw. absurd cc,
    );
  }
  master_takes (Job j) items v w vm one (done c) = let e = c.lies in absurd cc
  master_takes (Output o) items v w vm one (done c) = let e = c.lies in let same : c.output ≡ o = cc in let none : items ≡ [] = cc in let l =
      out_by_one v.put c.before c.job c.put in record {
        after = record v { taken = v.taken + 1 };
        role = vm;
        case = idle record { empty = none; outs = one; took = omega (arith, l, c.took); gave = omega (arith, l, c.gave) };
        told = (
          (λ _. record { before = c.before; job = c.job; put = c.put; fits = subst (λ (y : O). ties c.job y) same c.fits; after = refl }),
          λ vw. absurd cc,
        );
      }

  record WorkerTook (items : List (Note I O)) (m v : Knows I) (x : Note I O) : Type 0 where
    after : Knows I
    role : after.role ≡ Worker
    case : Case good ties items m after
    told : HasTaken good ties v x after

  worker_takes : (x : Note I O) (items : List (Note I O)) (m v : Knows I) → v.role ≡ Worker → v.taken ≡ v.given → Case good ties (x ∷ items) m v
      → WorkerTook items m v x
  worker_takes x items m v vw one (idle c) = let e = c.empty in absurd cc
  worker_takes x items m v vw one (works c) = let e = c.empty in absurd cc
  worker_takes (Output o) items m v vw one (waits c) = let e = c.lies in absurd cc
  worker_takes (Job j) items m v vw one (waits c) = let e = c.lies in let same : c.job ≡ j = cc in let none : items ≡ [] = cc in record {
    after = record v { taken = v.taken + 1; last = Some j };
    role = vw;
    case = works record {
      before = c.before;
      job = j;
      put = subst (λ (y : I). m.put ≡ c.before ++ y ∷ []) same c.put;
      empty = none;
      last = refl;
      outs = c.outs;
      took = omega (arith, c.took);
      gave = c.gave;
    };
    told = ((λ vm. absurd cc), λ _. record { takes = subst good same c.takes; after = refl });
  }
  worker_takes (Job j) items m v vw one (done c) = let e = c.lies in absurd cc
  worker_takes (Output o) items m v vw one (done c) = let e = c.lies in let same : c.output ≡ o = cc in let none : items ≡ [] = cc in record {
    after = record v { given = length c.before; back = v.back + 1 };
    role = vw;
    case = works record { before = c.before; job = c.job; put = c.put; empty = none; last = c.last; outs = c.outs; took = c.took; gave = refl };
    told = (
      (λ vm. absurd cc),
      λ _. record {
        job = c.job;
        given = length c.before;
        last = c.last;
        fits = subst (λ (y : O). ties c.job y) same c.fits;
        gave = c.gave;
        after = refl;
      },
    );
  }

  pub pops : (pass : ℕ) (v : Knows I) → MayTake v → Pops (Stands good ties) pass v (HasTaken good ties v)
  pops pass v (inl may) x items views h at =
      let s = as_master (x ∷ items) views pass v may.0 h at in
      let t = master_takes x items v s.w may.0 may.1 s.case in
      (t.after, again_master items views pass v t.after s.w t.role s.worker t.case (s.sets t.after), t.told)
  pops pass v (inr may) x items views h at =
      let s = as_worker (x ∷ items) views pass v may.0 h at in
      let t = worker_takes x items s.m v may.0 may.1 s.case in
      (t.after, again_worker items views pass v t.after s.m s.master t.role t.case (s.sets t.after), t.told)

  pub begins : Stands good ties [] (alone ∷ [])
  begins = opened refl refl

  pub forks : (pass : ℕ) (v : Knows I) → v.role ≡ Alone → Forks (Stands good ties) pass v fresh_master fresh_worker
  forks pass v va items views (both b) at = absurd
      (neither b.m b.w v pass b.master b.worker va (subst (λ (l : List (Knows I)). get_elem? l pass ≡ some v) b.views_are at))
  forks pass v va items views (opened e s) at =
      let sets = set_one alone v fresh_master pass (subst (λ (l : List (Knows I)). get_elem? l pass ≡ some v) s at) in
      both record {
        m = fresh_master;
        w = fresh_worker;
        views_are = ap (λ (l : List (Knows I)). set l pass fresh_master ++ fresh_worker ∷ []) s
            ∙ ap (λ (l : List (Knows I)). l ++ fresh_worker ∷ []) sets;
        master = refl;
        worker = refl;
        case = idle record { empty = e; outs = refl; took = refl; gave = refl };
      }
