-- What `+=` and `x[i] =` do to the variables, as the interpreter's operators say it.
use Rattle.std.proofs.Common.{◌≡◌, ℕ, List, [], Option, Some, None, Ok, Err, sym, ap}
use Rattle.sky_base.specs.Tree.{Place}
use Rattle.sky_base.specs.Op.{grown, set_at}
use Rattle.sky_base.specs.Res as logic
use Rattle.sky_base.specs.Res.{End, Fin, fault_at}
use Rattle.sky_base.specs.Eval as run
use Rattle.sky_base.specs.Eval.{set_var}
use Rattle.sky_base.specs.declared.fault.Fault.{Fault}
use Rattle.sky_base.specs.declared.fault.FaultKind.{FaultKind}
use Rattle.sky_base_scope.specs.Plain as plain
use Rattle.sky_base_scope.specs.Plain.{Val, Vars, Answer, Out, Cutoff}

answer_goes : (a : Answer) (p : Place) (x : List ℕ) (st st' : Vars) → plain.answer a p [] (λ u. Out.goes [] (set_var x u st)) ≡ Out.goes [] st'
    → logic.answer a p st (λ u s. Fin End.goes (set_var x u s)) ≡ Fin End.goes st'
answer_goes (Ok v) p x st st' e = let f : set_var x v st ≡ st' = cc in ap (Fin End.goes) f
answer_goes (Err k) p x st st' e = absurd cc

answer_stops : (a : Answer) (p : Place) (x : List ℕ) (st : Vars) (f : Fault) → plain.answer a p [] (λ u. Out.goes [] (set_var x u st))
    ≡ Out.cut (Cutoff.fault f) [] → logic.answer a p st (λ u s. Fin End.goes (set_var x u s)) ≡ Fin (End.failed f) st
answer_stops (Ok v) p x st f e = absurd cc
answer_stops (Err k) p x st f e = let g : fault_at k p ≡ f = cc in ap (λ y. Fin (End.failed y) st) g

pub add_goes : (o : Option Val) (x : List ℕ) (q p : Place) (e : Val) (st st' : Vars) → plain.add_to o x q p e [] st ≡ Out.goes [] st'
    → run.add_to o x q p e st ≡ Fin End.goes st'
add_goes None x q p e st st' h = absurd cc
add_goes (Some v) x q p e st st' h = answer_goes (grown v e) p x st st' h

pub add_stops : (o : Option Val) (x : List ℕ) (q p : Place) (e : Val) (st : Vars) (f : Fault) → plain.add_to o x q p e [] st
    ≡ Out.cut (Cutoff.fault f) [] → run.add_to o x q p e st ≡ Fin (End.failed f) st
add_stops None x q p e st f h = let g : fault_at FaultKind.Unknown q ≡ f = cc in ap (λ y. Fin (End.failed y) st) g
add_stops (Some v) x q p e st f h = answer_stops (grown v e) p x st f h

pub put_goes : (o : Option Val) (x : List ℕ) (q p : Place) (i e : Val) (st st' : Vars) → plain.put_in o x q p i e [] st ≡ Out.goes [] st'
    → run.put_in o x q p i e st ≡ Fin End.goes st'
put_goes None x q p i e st st' h = absurd cc
put_goes (Some v) x q p i e st st' h = answer_goes (set_at v i e) p x st st' h

pub put_stops : (o : Option Val) (x : List ℕ) (q p : Place) (i e : Val) (st : Vars) (f : Fault) → plain.put_in o x q p i e [] st
    ≡ Out.cut (Cutoff.fault f) [] → run.put_in o x q p i e st ≡ Fin (End.failed f) st
put_stops None x q p i e st f h = let g : fault_at FaultKind.Unknown q ≡ f = cc in ap (λ y. Fin (End.failed y) st) g
put_stops (Some v) x q p i e st f h = answer_stops (set_at v i e) p x st f h

-- ---- the count

same_count : (a : Answer) (p : Place) (x : List ℕ) (st st' : Vars) → plain.answer a p [] (λ u. Out.goes [] (set_var x u st)) ≡ Out.goes [] st'
    → st'.count ≡ st.count
same_count (Ok v) p x st st' e = let f : set_var x v st ≡ st' = cc in sym (ap (λ (s : Vars). s.count) f)
same_count (Err k) p x st st' e = absurd cc

pub add_counts : (o : Option Val) (x : List ℕ) (q p : Place) (e : Val) (st st' : Vars) → plain.add_to o x q p e [] st ≡ Out.goes [] st'
    → st'.count ≡ st.count
add_counts None x q p e st st' h = absurd cc
add_counts (Some v) x q p e st st' h = same_count (grown v e) p x st st' h

pub put_counts : (o : Option Val) (x : List ℕ) (q p : Place) (i e : Val) (st st' : Vars) → plain.put_in o x q p i e [] st ≡ Out.goes [] st'
    → st'.count ≡ st.count
put_counts None x q p i e st st' h = absurd cc
put_counts (Some v) x q p i e st st' h = same_count (set_at v i e) p x st st' h
