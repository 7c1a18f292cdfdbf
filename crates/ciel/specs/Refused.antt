-- Why the program ends before its top call is made.
use Rattle.std.specs.Prelude.{◌≡◌, ◌⊎◌}
use Rattle.ciel_run_log.specs.declared.why.Why.{Why}

-- the words are no line of the command, or there is no memory for them
abbrev pub IsUsageOrMemory : Why → Type 0
IsUsageOrMemory why = (why ≡ Why.Usage) ⊎ (why ≡ Why.Memory)
