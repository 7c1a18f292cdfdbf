-- What the reports say, entry by entry.
use Rattle.std.proofs.Common.{◌≡◌, ◌≤◌, ◌<◌, ◌+◌, ℕ, zero, suc, List, [], ◌∷◌, ◌++◌, Bool, true, false, cond, flat_map, length, map, set, Option, Some, None}
use Rattle.std.proofs.Common.{append-nil, append_assoc, arith, length-append, option_map, slice_get, refl, ap, sym, ◌∙◌, subst}
use Rattle.std.specs.Prelude.{nat_eq}
use Rattle.std.specs.BTreeMap.{BTreeMap}
use Rattle.std.specs.List.{cons_option}
use Rattle.std.proofs.lemmas.Bool.Decides.{nat_tests}
use Rattle.std.proofs.lemmas.Grind.{flat_map-append}
use Rattle.std.proofs.lemmas.List.{map-append}
use Rattle.std.proofs.lemmas.Option.{slice_get-map}
use Rattle.sky_base.specs.Val.{Desc}
use Rattle.sky_base.specs.declared.object.TaskId.{TaskId}
use Rattle.ciel_look_told.specs.Head.{Head, short}
use Rattle.ciel_look_told.specs.Told as told
use Rattle.ciel_look_told.specs.View.{told_view}
use Rattle.ciel_look_told.specs.declared.told.Told.{Told}
use Rattle.ciel_look_tasks.specs.Happened.{closing}
use Rattle.ciel_look_tasks.specs.Learned.{descs, given, spawned}
use Rattle.ciel_look_tasks.specs.Orders as order
use Rattle.ciel_look_tasks.specs.Orders.{Ending, is_open_at, is_out, is_out_at, orders}
use Rattle.ciel_look_tasks.specs.ReportView.{TellsOutputs, added, makes_view, run_made, run_took, said_after, said_more, takes_view, whose}
use Rattle.ciel_look_tasks.specs.Reports.{Report, made, objects_made, report_at, report_by, report_copied, report_made, report_of, reports}
use Rattle.ciel_look_tasks.specs.Reports.{reports_behind, said_by, said_of, took}
use Rattle.ciel_look_tasks.specs.SceneView.{made_at, took_at}
use Rattle.ciel_look_tasks.specs.Tasks.{Start, start_of, starts}
use Rattle.ciel_look_tasks.specs.View.{ending_view, order_ends, orders_view, start_view, starts_view}
use Rattle.ciel_look_tasks.specs.declared.book.Book.{Book}
use Rattle.ciel_look_tasks.specs.declared.scene.End.{End}
use Rattle.ciel_look_tasks.specs.declared.scene.How.{How}
use Rattle.ciel_look_tasks.specs.declared.scene.Run.{Run}
use Rattle.ciel_look_tasks.proofs.OrderPlaces.{set_same, the_some}

apart : (a b : ℕ) → b < a → nat_eq a b ≡ false
apart a b l = grind (arith, nat_tests)

before : (a b : ℕ) → a < b → nat_eq a b ≡ false
before a b l = grind (arith, nat_tests)

same : (a b : ℕ) → a ≡ b → nat_eq a b ≡ true
same a b e = grind (arith, nat_tests)

-- ---- the places of reports

-- they stand at places below
abbrev Within : ℕ → List Report → Type 0
Within n [] = Unit {0}
Within n (r ∷ rs) = (r.order < n) × Within n rs

within_more : (n m : ℕ) (rs : List Report) → n ≤ m → Within n rs → Within m rs
within_more n m [] l h = tt
within_more n m (r ∷ rs) l h = (omega (arith, l, h.0), within_more n m rs l h.1)

within_append : (n : ℕ) (rs qs : List Report) → Within n rs → Within n qs → Within n (rs ++ qs)
within_append n [] qs h k = k
within_append n (r ∷ rs) qs h k = (h.0, within_append n rs qs h.1 k)

below_there : {A : Type 0} (xs : List A) (p : ℕ) (x : A) → slice_get xs p ≡ Some x → p < length xs
below_there [] p x h = absurd cc
below_there (y ∷ xs) zero x h = omega arith
below_there (y ∷ xs) (suc p) x h =
    let k = below_there xs p x h in
    omega (arith, k)

orders_length : (ts : List told.Told) → length (orders ts) ≡ length (starts ts)
orders_length [] = refl
orders_length (told.started n w f t ∷ ts) = ap suc (orders_length ts)
orders_length (told.ended n ds cs how ∷ ts) = orders_length ts
orders_length (told.lost w a ∷ ts) = orders_length ts
orders_length (told.late n ∷ ts) = orders_length ts

at_within : (s : Bool) (ds : List (Desc (List ℕ))) (os : List (Start × Ending)) (cs : List (List ℕ)) (how : told.Outcome) (o : Option ℕ)
    → Within (length os) (report_at s ds os cs how o)
at_within s ds os cs how None = tt
at_within s ds os cs how (Some p) = go (slice_get os p) refl
  where
    go : (o : Option (Start × Ending)) → slice_get os p ≡ o → Within (length os) (cons_option (option_map (report_of s ds cs how p) o) [])
    go None e = tt
    go (Some x) e = (below_there os p x e, tt)

by_within : (s : Bool) (ds : List (Desc (List ℕ))) (os : List (Start × Ending)) (t : told.Told) → Within (length os) (report_by s ds os t)
by_within s ds os (told.started n w f t) = tt
by_within s ds os (told.ended n es cs how) = at_within s ds os cs how (closing n os)
by_within s ds os (told.lost w a) = tt
by_within s ds os (told.late n) = tt

reports_within : (h : Head) (us ts : List told.Told) → Within (length (starts (us ++ ts))) (reports_behind h us ts)
reports_within h us [] = tt
reports_within h us (t ∷ ts) =
    let all : length (starts (us ++ t ∷ ts)) ≡ length (starts us) + length (starts (t ∷ ts)) =
    ap length (flat_map-append start_of us (t ∷ ts)) ∙ length-append (starts us) (starts (t ∷ ts)) in
    within_append (length (starts (us ++ t ∷ ts))) (report_by (short h) (descs h (us ++ t ∷ [])) (orders us) t) (reports_behind h (us ++ t ∷ []) ts)
    (within_more (length (orders us)) (length (starts (us ++ t ∷ ts))) (report_by (short h) (descs h (us ++ t ∷ [])) (orders us) t)
    (omega (arith, all, orders_length us)) (by_within (short h) (descs h (us ++ t ∷ [])) (orders us) t))
    (subst (λ xs. Within (length (starts xs)) (reports_behind h (us ++ t ∷ []) ts)) (append_assoc us (t ∷ []) ts)
    (reports_within h (us ++ t ∷ []) ts))

-- ---- an entry more is told

pub reports_push : (h : Head) (us ts : List told.Told) (e : told.Told) → reports_behind h us (ts ++ e ∷ [])
    ≡ reports_behind h us ts ++ report_by (short h) (descs h ((us ++ ts) ++ e ∷ [])) (orders (us ++ ts)) e
reports_push h us [] e =
    append-nil (report_by (short h) (descs h (us ++ e ∷ [])) (orders us) e)
    ∙ ap (λ xs. report_by (short h) (descs h (xs ++ e ∷ [])) (orders xs) e) (sym (append-nil us))
reports_push h us (t ∷ ts) e =
    let here = report_by (short h) (descs h (us ++ t ∷ [])) (orders us) t in
    ap (λ z. here ++ z)
    (reports_push h (us ++ t ∷ []) ts e
    ∙ ap (λ xs. reports_behind h (us ++ t ∷ []) ts ++ report_by (short h) (descs h (xs ++ e ∷ [])) (orders xs) e) (append_assoc us (t ∷ []) ts))
    ∙ sym (append_assoc here (reports_behind h (us ++ t ∷ []) ts)
    (report_by (short h) (descs h ((us ++ t ∷ ts) ++ e ∷ [])) (orders (us ++ t ∷ ts)) e))

starts_push : (us : List told.Told) (e : told.Told) → starts (us ++ e ∷ []) ≡ starts us ++ start_of e
starts_push us e = flat_map-append start_of us (e ∷ []) ∙ ap (λ z. starts us ++ z) (append-nil (start_of e))

pub descs_push : (h : Head) (us : List told.Told) (e : told.Told) → descs h (us ++ e ∷ []) ≡ descs h us ++ spawned e
descs_push h us e =
    ap (λ z. given h ++ z) (flat_map-append spawned us (e ∷ []) ∙ ap (λ z. flat_map spawned us ++ z) (append-nil (spawned e)))
    ∙ sym (append_assoc (given h) (flat_map spawned us) (spawned e))

module _ (said : Report → List (List ℕ)) where
  said_added : (rs : List Report) (r : Report) (at : ℕ) (ss : List Start)
      → said_of said (rs ++ r ∷ []) at ss ≡ added r.order (said r) at (said_of said rs at ss)
  said_added rs r at [] = refl
  said_added rs r at (s ∷ ss) =
      ap (λ x. x ∷ said_of said (rs ++ r ∷ []) (suc at) ss)
      (flat_map-append (said_by said at) rs (r ∷ []) ∙ ap (λ z. flat_map (said_by said at) rs ++ z) (append-nil (said_by said at r)))
      ∙ ap (λ xs. (flat_map (said_by said at) rs ++ said_by said at r) ∷ xs) (said_added rs r (suc at) ss)

  said_many : (qs rs : List Report) (ss : List Start) → said_of said (rs ++ qs) 0 ss ≡ said_more said qs (said_of said rs 0 ss)
  said_many [] rs ss = ap (λ z. said_of said z 0 ss) (append-nil rs)
  said_many (q ∷ qs) rs ss =
      ap (λ z. said_of said z 0 ss) (sym (append_assoc rs (q ∷ []) qs)) ∙ said_many qs (rs ++ q ∷ []) ss
      ∙ ap (said_more said qs) (said_added rs q 0 ss)

  nothing_past : (rs : List Report) (n at : ℕ) → Within n rs → n ≤ at → flat_map (said_by said at) rs ≡ []
  nothing_past [] n at w l = refl
  nothing_past (r ∷ rs) n at w l =
      ap (λ b. cond b (said r) [] ++ flat_map (said_by said at) rs) (apart at r.order (omega (arith, l, w.0))) ∙ nothing_past rs n at w.1 l

  said_begun : (rs : List Report) (at : ℕ) (ss : List Start) (s : Start) → Within (at + length ss) rs
      → said_of said rs at (ss ++ s ∷ []) ≡ said_of said rs at ss ++ [] ∷ []
  said_begun rs at [] s w = ap (λ x. x ∷ []) (nothing_past rs (at + 0) at w (omega arith))
  said_begun rs at (t ∷ ss) s w =
      let next : at + suc (length ss) ≡ suc at + length ss = omega arith in
      ap (λ xs. flat_map (said_by said at) rs ∷ xs) (said_begun rs (suc at) ss s (subst (λ n. Within n rs) next w))

  said_push : (h : Head) (us : List told.Told) (e : told.Told) → said_of said (reports h (us ++ e ∷ [])) 0 (starts (us ++ e ∷ []))
      ≡ said_after said e (report_by (short h) (descs h (us ++ e ∷ [])) (orders us) e) (said_of said (reports h us) 0 (starts us))
  said_push h us e =
      ap (λ rs. said_of said rs 0 (starts (us ++ e ∷ []))) (reports_push h [] us e)
      ∙ ap (λ ss. said_of said (reports h us ++ report_by (short h) (descs h (us ++ e ∷ [])) (orders us) e) 0 ss) (starts_push us e) ∙ go e
    where
      still : said_of said (reports h us ++ []) 0 (starts us ++ []) ≡ said_of said (reports h us) 0 (starts us)
      still =
          ap (λ rs. said_of said rs 0 (starts us ++ [])) (append-nil (reports h us))
          ∙ ap (said_of said (reports h us) 0) (append-nil (starts us))

      none : length (starts us) ≡ 0 + length (starts us)
      none = omega arith

      go : (t : told.Told) → said_of said (reports h us ++ report_by (short h) (descs h (us ++ t ∷ [])) (orders us) t) 0 (starts us ++ start_of t)
          ≡ said_after said t (report_by (short h) (descs h (us ++ t ∷ [])) (orders us) t) (said_of said (reports h us) 0 (starts us))
      go (told.started n w f t) =
          ap (λ rs. said_of said rs 0 (starts us ++ (n, (w, (f, t))) ∷ [])) (append-nil (reports h us))
          ∙ said_begun (reports h us) 0 (starts us) (n, (w, (f, t))) (subst (λ k. Within k (reports h us)) none (reports_within h [] us))
      go (told.ended n ds cs how) =
          ap (said_of said (reports h us ++ report_by (short h) (descs h (us ++ told.ended n ds cs how ∷ [])) (orders us) (told.ended n ds cs how)) 0)
          (append-nil (starts us))
          ∙ said_many (report_by (short h) (descs h (us ++ told.ended n ds cs how ∷ [])) (orders us) (told.ended n ds cs how)) (reports h us) (starts us)
      go (told.lost w a) = still
      go (told.late n) = still

  said_next : (h : Head) (ts : List Told) (e : Told) (xs ys : List (List (List ℕ))) → xs ≡ said_of said (reports h (map told_view ts)) 0 (starts (map told_view ts))
      → ys ≡ said_after said (told_view e) (report_by (short h) (descs h (map told_view ts ++ told_view e ∷ [])) (orders (map told_view ts)) (told_view e)) xs
      → ys ≡ said_of said (reports h (map told_view (ts ++ e ∷ []))) 0 (starts (map told_view (ts ++ e ∷ [])))
  said_next h ts e xs ys p q =
      let us = map told_view ts in
      q ∙ ap (said_after said (told_view e) (report_by (short h) (descs h (us ++ told_view e ∷ [])) (orders us) (told_view e))) p
      ∙ sym (said_push h us (told_view e))
      ∙ ap (λ z. said_of said (reports h z) 0 (starts z)) (sym (map-append told_view ts (e ∷ [])))

pub takes_next : (h : Head) (ts : List Told) (e : Told) (s : Bool) (os : List (Start × Ending)) (xs ys : List (List (List ℕ))) → s ≡ short h
    → os ≡ orders (map told_view ts) → xs ≡ took h (map told_view ts)
    → ((ds : List (Desc (List ℕ))) → ys ≡ said_after report_copied (told_view e) (report_by s ds os (told_view e)) xs)
    → ys ≡ took h (map told_view (ts ++ e ∷ []))
takes_next h ts e s os xs ys b o p q =
    let us = map told_view ts in
    let ds = descs h (us ++ told_view e ∷ []) in
    said_next report_copied h ts e xs ys p
    (q ds ∙ ap (λ c. said_after report_copied (told_view e) (report_by c ds os (told_view e)) xs) b
    ∙ ap (λ z. said_after report_copied (told_view e) (report_by (short h) ds z (told_view e)) xs) o)

pub makes_next : (h : Head) (ts : List Told) (e : Told) (s : Bool) (m : BTreeMap (List ℕ × ℕ) (List ℕ)) (os : List (Start × Ending))
    (xs ys : List (List (List ℕ))) → s ≡ short h → TellsOutputs (short h) m (descs h (map told_view ts))
    → os ≡ orders (map told_view ts) → xs ≡ made h (map told_view ts)
    → ((ds : List (Desc (List ℕ))) → TellsOutputs s m ds
    → ys ≡ said_after report_made (told_view e) (report_by s (ds ++ spawned (told_view e)) os (told_view e)) xs)
    → ys ≡ made h (map told_view (ts ++ e ∷ []))
makes_next h ts e s m os xs ys b n o p q =
    let us = map told_view ts in
    let ds = descs h us ++ spawned (told_view e) in
    said_next report_made h ts e xs ys p
    (q (descs h us) (subst (λ c. TellsOutputs c m (descs h us)) (sym b) n)
    ∙ ap (λ c. said_after report_made (told_view e) (report_by c ds os (told_view e)) xs) b
    ∙ ap (λ z. said_after report_made (told_view e) (report_by (short h) ds z (told_view e)) xs) o
    ∙ ap (λ z. said_after report_made (told_view e) (report_by (short h) z (orders us) (told_view e)) xs) (sym (descs_push h us (told_view e))))

pub names_next : (h : Head) (ts : List Told) (e : Told) (s : Bool) (old new : BTreeMap (List ℕ × ℕ) (List ℕ)) → s ≡ short h
    → TellsOutputs (short h) old (descs h (map told_view ts))
    → ((ds : List (Desc (List ℕ))) → TellsOutputs s old ds → TellsOutputs s new (ds ++ spawned (told_view e)))
    → TellsOutputs (short h) new (descs h (map told_view (ts ++ e ∷ [])))
names_next h ts e s old new b n f =
    let us = map told_view ts in
    subst (λ xs. TellsOutputs (short h) new (descs h xs)) (sym (map-append told_view ts (e ∷ [])))
    (subst (TellsOutputs (short h) new) (sym (descs_push h us (told_view e)))
    (subst (λ c. TellsOutputs c new (descs h us ++ spawned (told_view e))) b (f (descs h us) (subst (λ c. TellsOutputs c old (descs h us)) (sym b) n))))

pub names_first : (h : Head) (m : BTreeMap (List ℕ × ℕ) (List ℕ)) → TellsOutputs (short h) m (given h) → TellsOutputs (short h) m (descs h [])
names_first h m n = subst (TellsOutputs (short h) m) (sym (append-nil (given h))) n

pub same_outputs : (b c : Book) (ds : List (Desc (List ℕ))) → c ≡ b → TellsOutputs b.short b.outputs ds → TellsOutputs b.short c.outputs (ds ++ [])
same_outputs b c ds e h =
    subst (TellsOutputs b.short c.outputs) (sym (append-nil ds)) (subst (λ (k : Book). TellsOutputs b.short k.outputs ds) (sym e) h)

-- ---- the code's orders

pub takes_pushed : (xs ys : List Run) (x : Run) → ys ≡ xs ++ x ∷ [] → x.end ≡ None → takes_view ys ≡ takes_view xs ++ [] ∷ []
takes_pushed xs ys x e n = ap takes_view e ∙ map-append run_took xs (x ∷ []) ∙ ap (λ o. takes_view xs ++ took_at o ∷ []) n

pub makes_pushed : (xs ys : List Run) (x : Run) → ys ≡ xs ++ x ∷ [] → x.end ≡ None → makes_view ys ≡ makes_view xs ++ [] ∷ []
makes_pushed xs ys x e n = ap makes_view e ∙ map-append run_made xs (x ∷ []) ∙ ap (λ o. makes_view xs ++ made_at o ∷ []) n

-- of an order that is out nothing is said yet
nothing_taken : (e : Option End) → is_out (ending_view e) ≡ true → took_at e ≡ []
nothing_taken None h = refl
nothing_taken (Some e) h = go e.how h
  where
    go : (how : How) → is_out (ending_view (Some (record { at = e.at; how = how; took = e.took }))) ≡ true → took_at (Some e) ≡ []
    go (How.Told outcome made) h = absurd cc
    go (How.Lost loss) h = absurd cc

nothing_made : (e : Option End) → is_out (ending_view e) ≡ true → made_at e ≡ []
nothing_made None h = refl
nothing_made (Some e) h = go e.how h
  where
    go : (how : How) → is_out (ending_view (Some (record { at = e.at; how = how; took = e.took }))) ≡ true → made_at (Some e) ≡ []
    go (How.Told outcome made) h = absurd cc
    go (How.Lost loss) h = absurd cc

there_taken : (rs : List Run) (p : ℕ) → is_open_at (slice_get (orders_view rs) p) ≡ true → slice_get (takes_view rs) p ≡ Some []
there_taken [] p h = absurd cc
there_taken (r ∷ rs) zero h = ap Some (nothing_taken r.end h)
there_taken (r ∷ rs) (suc p) h = there_taken rs p h

there_made : (rs : List Run) (p : ℕ) → is_open_at (slice_get (orders_view rs) p) ≡ true → slice_get (makes_view rs) p ≡ Some []
there_made [] p h = absurd cc
there_made (r ∷ rs) zero h = ap Some (nothing_made r.end h)
there_made (r ∷ rs) (suc p) h = there_made rs p h

open_there : (w : ℕ) (o : Option (Start × Ending)) → is_out_at w o ≡ true → is_open_at o ≡ true
open_there w None h = absurd cc
open_there w (Some (s, order.out)) h = refl
open_there w (Some (s, order.lost)) h = absurd cc
open_there w (Some (s, order.ended how)) h = absurd cc

pub takes_cut : (w : ℕ) (rs qs : List Run) (p : ℕ) (ns : List (List ℕ)) → is_out_at w (slice_get (orders_view rs) p) ≡ true → ns ≡ []
    → takes_view qs ≡ set (takes_view rs) p ns → takes_view qs ≡ takes_view rs
takes_cut w rs qs p ns h n e =
    e ∙ ap (set (takes_view rs) p) n ∙ set_same (takes_view rs) p [] (there_taken rs p (open_there w (slice_get (orders_view rs) p) h))

pub makes_cut : (w : ℕ) (rs qs : List Run) (p : ℕ) → is_out_at w (slice_get (orders_view rs) p) ≡ true
    → makes_view qs ≡ set (makes_view rs) p [] → makes_view qs ≡ makes_view rs
makes_cut w rs qs p h e = e ∙ set_same (makes_view rs) p [] (there_made rs p (open_there w (slice_get (orders_view rs) p) h))

-- ---- an order ends

added_past : (xs : List (List (List ℕ))) (p at : ℕ) (ns : List (List ℕ)) → p < at → added p ns at xs ≡ xs
added_past [] p at ns l = refl
added_past (x ∷ xs) p at ns l =
    ap (λ b. (x ++ cond b ns []) ∷ added p ns (suc at) xs) (apart at p l) ∙ ap (λ y. y ∷ added p ns (suc at) xs) (append-nil x)
    ∙ ap (λ ys. x ∷ ys) (added_past xs p (suc at) ns (omega (arith, l)))

set_added : (xs : List (List (List ℕ))) (at p : ℕ) (ns : List (List ℕ)) → slice_get xs p ≡ Some [] → added (at + p) ns at xs ≡ set xs p ns
set_added [] at p ns h = absurd cc
set_added (x ∷ xs) at zero ns h =
    ap (λ b. (x ++ cond b ns []) ∷ added (at + 0) ns (suc at) xs) (same at (at + 0) (omega arith))
    ∙ ap (λ y. (y ++ ns) ∷ added (at + 0) ns (suc at) xs) (the_some x [] h) ∙ ap (λ ys. ns ∷ ys) (added_past xs (at + 0) (suc at) ns (omega arith))
set_added (x ∷ xs) at (suc p) ns h =
    let next : at + suc p ≡ suc at + p = omega arith in
    ap (λ b. (x ++ cond b ns []) ∷ added (at + suc p) ns (suc at) xs) (before at (at + suc p) (omega arith))
    ∙ ap (λ y. y ∷ added (at + suc p) ns (suc at) xs) (append-nil x)
    ∙ ap (λ n. x ∷ added n ns (suc at) xs) next ∙ ap (λ ys. x ∷ ys) (set_added xs (suc at) p ns h)

said_ended : (said : Report → List (List ℕ)) (s : Bool) (ds : List (Desc (List ℕ))) (os : List (Start × Ending)) (cs : List (List ℕ)) (how : told.Outcome)
    (n p : ℕ) (o : Start × Ending) (ns : List (List ℕ)) (xs ys : List (List (List ℕ))) → Some p ≡ closing n os → slice_get os p ≡ Some o
    → slice_get xs p ≡ Some [] → ns ≡ said (report_of s ds cs how p o) → ys ≡ set xs p ns
    → ys ≡ said_more said (report_at s ds os cs how (closing n os)) xs
said_ended said s ds os cs how n p o ns xs ys c t h k e =
    let here : 0 + p ≡ p = omega arith in
    e ∙ sym (set_added xs 0 p ns h) ∙ ap (λ q. added q ns 0 xs) here ∙ ap (λ z. added p z 0 xs) k
    ∙ ap (λ q. said_more said (cons_option (option_map (report_of s ds cs how p) q) []) xs) (sym t)
    ∙ ap (λ q. said_more said (report_at s ds os cs how q) xs) c

pub took_ended : (s : Bool) (ds : List (Desc (List ℕ))) (rs : List Run) (cs : List (List ℕ)) (how : told.Outcome) (n p : ℕ) (st : Start)
    (ys : List (List (List ℕ))) → Some p ≡ closing n (orders_view rs) → slice_get (orders_view rs) p ≡ Some (st, order.out)
    → ys ≡ set (takes_view rs) p cs → ys ≡ said_more report_copied (report_at s ds (orders_view rs) cs how (closing n (orders_view rs))) (takes_view rs)
took_ended s ds rs cs how n p st ys c t e =
    said_ended report_copied s ds (orders_view rs) cs how n p (st, order.out) cs (takes_view rs) ys c t (there_taken rs p (ap is_open_at t)) refl e

the_start : (rs : List Run) (p : ℕ) (st : Start) (e : Ending) → slice_get (orders_view rs) p ≡ Some (st, e) → slice_get (starts_view rs) p ≡ Some st
the_start [] p st e h = absurd cc
the_start (r ∷ rs) zero st e h = ap (λ (o : Start × Ending). Some o.0) (the_some (order_ends r) (st, e) h)
the_start (r ∷ rs) (suc p) st e h = the_start rs p st e h

pub held_is : (rs : List Run) (p : ℕ) (st : Start) (w : ℕ) (id : TaskId) → slice_get (orders_view rs) p ≡ Some (st, order.out)
    → option_map whose (slice_get (starts_view rs) p) ≡ Some (w, id) → whose st ≡ (w, id)
held_is rs p st w id t b = the_some (whose st) (w, id) (sym (ap (option_map whose) (the_start rs p st order.out t)) ∙ b)

pub made_ended : (s : Bool) (ds : List (Desc (List ℕ))) (rs : List Run) (cs ns : List (List ℕ)) (how : told.Outcome) (n p : ℕ) (st : Start) (w : ℕ)
    (id : TaskId) (ys : List (List (List ℕ))) → Some p ≡ closing n (orders_view rs) → slice_get (orders_view rs) p ≡ Some (st, order.out)
    → option_map whose (slice_get (starts_view rs) p) ≡ Some (w, id) → ns ≡ objects_made s ds id how
    → ys ≡ set (makes_view rs) p ns → ys ≡ said_more report_made (report_at s ds (orders_view rs) cs how (closing n (orders_view rs))) (makes_view rs)
made_ended s ds rs cs ns how n p st w id ys c t b k e =
    let held : whose st ≡ (w, id) = held_is rs p st w id t b in
    said_ended report_made s ds (orders_view rs) cs how n p (st, order.out) ns (makes_view rs) ys c t (there_made rs p (ap is_open_at t))
    (k ∙ ap (λ (x : ℕ × TaskId). objects_made s ds x.1 how) (sym held)) e

pub said_nothing : (said : Report → List (List ℕ)) (s : Bool) (ds : List (Desc (List ℕ))) (os : List (Start × Ending)) (cs : List (List ℕ))
    (how : told.Outcome) (n : ℕ) (xs : List (List (List ℕ))) → None ≡ closing n os → xs ≡ said_more said (report_at s ds os cs how (closing n os)) xs
said_nothing said s ds os cs how n xs c = ap (λ q. said_more said (report_at s ds os cs how q) xs) c

-- whose it is
pub whose_there : (rs : List Run) (p : ℕ) (r : Run) → Some r ≡ slice_get rs p → option_map whose (slice_get (starts_view rs) p) ≡ Some (r.worker, r.id)
whose_there rs p r h = ap (option_map whose) (slice_get-map start_view rs p ∙ ap (option_map start_view) (sym h))
