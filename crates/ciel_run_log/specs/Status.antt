-- The status of each end.
use Rattle.std.specs.Prelude.{ℕ}
use Rattle.ciel_run_log.specs.declared.why.Why.{Why}

-- the status of the process
abbrev pub status_of : Why → ℕ
status_of Why.Done = 0
status_of Why.Usage = 1
status_of (Why.Syntax kind line col) = 2
status_of (Why.Fault fault) = 3
status_of (Why.Endless names) = 4
status_of (Why.TooMany held given) = 5
status_of Why.AllLost = 6
status_of (Why.NameClash kept given) = 7
status_of (Why.ReadFault path) = 8
status_of Why.WriteFault = 9
status_of Why.Memory = 10
status_of (Why.TooLongInput path at) = 11
status_of (Why.TooDeepPlain depth) = 13
status_of (Why.KeepFault path) = 14
status_of (Why.BadLog path at) = 15
status_of (Why.OtherJob path) = 16
status_of (Why.BadMemo path at) = 17
status_of (Why.LogFull path held) = 18
