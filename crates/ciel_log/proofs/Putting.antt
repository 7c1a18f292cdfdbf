-- What is put behind a log, over plain variables.
use Rattle.std.proofs.Common.{◌≡◌, ◌+◌, ℕ, List, Result, Ok, Err, length, length-append, refl, sym, subst, arith}
use Rattle.ciel_store.specs.declared.loss.Loss.{Loss}
use Rattle.sky_base.specs.Name.{big_endian}
use Rattle.ciel_log_records.specs.Records.{in_file}
use Rattle.ciel_task_crew.specs.Calls.{Call, send_call}
use Rattle.ciel_task_order.specs.declared.order.Order.{Order}
use Rattle.ciel_log_records.specs.Records.{start_record}
use Rattle.ciel_log.specs.Logging.{Adds, AddsAt, CrewLog, GoesOn, LogSeen, Tried, failed, full, put, short}
use Rattle.ciel_log.specs.declared.state.LogState.{LogState}

-- a record in the file is four bytes longer
pub in_file_length : (bytes : List ℕ) → length (in_file bytes) ≡ length bytes + 4
in_file_length bytes =
    let there = length-append (big_endian 4 (length bytes)) bytes in
    let four : length (big_endian 4 (length bytes)) ≡ 4 = refl in
    omega (arith, there, four)

pub tried_from : {Q : List ℕ → Type 0} {a c b : LogSeen} → a ≡ c → Tried Q a b → Tried Q c b
tried_from {Q} {a} {c} {b} same tried = subst (λ l. Tried Q l b) same tried

-- a record that is such is also such
pub tried_of : {P Q : List ℕ → Type 0} {a b : LogSeen} → ((bytes : List ℕ) → P bytes → Q bytes) → Tried P a b → Tried Q a b
tried_of of (put bytes p within changes asks falls held state) = put bytes (of bytes p) within changes asks falls held state
tried_of of (failed bytes p within changes asks falls rose held state) = failed bytes (of bytes p) within changes asks falls rose held state
tried_of of (full bytes p beyond same state) = full bytes (of bytes p) beyond same state
tried_of of (short same state) = short same state

-- it says nothing of the losses that were seen before
pub tried_behind : {Q : List ℕ → Type 0} {a b : LogSeen} (losses : List Loss) → Tried Q (record a { losses = losses }) b → Tried Q a b
tried_behind losses (put bytes p within changes asks falls held state) = put bytes p within changes asks falls held state
tried_behind losses (failed bytes p within changes asks falls rose held state) = failed bytes p within changes asks falls rose held state
tried_behind losses (full bytes p beyond same state) =
    full bytes p beyond (record { files = same.files; asked = same.asked; faults = same.faults; held = same.held }) state
tried_behind losses (short same state) =
    short (record { files = same.files; asked = same.asked; faults = same.faults; held = same.held }) state

pub adds_whole : {Q : List ℕ → Type 0} {a b : LogSeen} → a.state ≡ LogState.Whole → Tried Q a b → Adds Q a b
adds_whole {Q} {a} {b} whole tried = subst (λ s. AddsAt s Q a b) (sym whole) tried

-- a start's record stands there whether the order was sent or not
pub start_goes : {R E : Type 0} (goes : R → Call → R → Type 0) (a b : CrewLog R) (o : Order) (r : Result Unit E) → b.log.path ≡ a.log.path
    → Adds (λ bytes. bytes ≡ start_record o.number o.worker o.from o.task) a.log b.log → b.log.losses ≡ a.log.losses
    → goes a.inner (send_call o r) b.inner → GoesOn goes a (send_call o r) b
start_goes goes a b o (Ok x) path adds losses inner = record { inner = inner; path = path; log = (adds, losses) }
start_goes goes a b o (Err x) path adds losses inner = record { inner = inner; path = path; log = (adds, losses) }
