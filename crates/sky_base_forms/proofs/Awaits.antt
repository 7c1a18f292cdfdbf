-- Waiting for several objects at once.
use Rattle.std.proofs.Common.{◌≡◌, List, Option, Some, None, refl}
use Rattle.sky_base.specs.Res.{Object}
use Rattle.sky_base.specs.declared.fault.Fault.{Fault}
use Rattle.sky_base_known.specs.Walk.{Row, Seen, seen_more}
use Rattle.sky_base_scope.specs.RunView.{fault_first}
use Rattle.sky_base_scope.specs.Plain.{Vars, Cutoff, Out, exec_end, exec_seen}
use Rattle.sky_base_known.specs.Walk.{Obj}

-- where this fault, if there is one, was met before
abbrev pub seen_after : Option Fault → Seen → List Row → List Row → Vars → Out
seen_after f (Seen.lacks d) ds rows st = Out.cut (Cutoff.waits d) rows
seen_after None (Seen.all os) ds rows st = exec_end ds os rows st
seen_after (Some f) (Seen.all os) ds rows st = Out.cut (Cutoff.fault f) rows

pub seen_step : (f : Option Fault) (o : Obj) (s : Seen) (ds rows : List Row) (st : Vars) → seen_after f (seen_more o s) ds rows st
    ≡ seen_after (fault_first f o) s ds rows st
seen_step None (Object.bytes b) (Seen.all os) ds rows st = refl
seen_step None (Object.data_of v) (Seen.all os) ds rows st = refl
seen_step None (Object.fault f) (Seen.all os) ds rows st = refl
seen_step (Some f) (Object.bytes b) (Seen.all os) ds rows st = refl
seen_step (Some f) (Object.data_of v) (Seen.all os) ds rows st = refl
seen_step (Some f) (Object.fault h) (Seen.all os) ds rows st = refl
seen_step None (Object.bytes b) (Seen.lacks d) ds rows st = refl
seen_step None (Object.data_of v) (Seen.lacks d) ds rows st = refl
seen_step None (Object.fault f) (Seen.lacks d) ds rows st = refl
seen_step (Some f) (Object.bytes b) (Seen.lacks d) ds rows st = refl
seen_step (Some f) (Object.data_of v) (Seen.lacks d) ds rows st = refl
seen_step (Some f) (Object.fault h) (Seen.lacks d) ds rows st = refl

pub seen_start : (s : Seen) (ds rows : List Row) (st : Vars) → exec_seen s ds rows st ≡ seen_after None s ds rows st
seen_start (Seen.all os) ds rows st = refl
seen_start (Seen.lacks d) ds rows st = refl
