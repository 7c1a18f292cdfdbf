-- A kit with entries, as contracts see it.
use Rattle.std.specs.Prelude.{List}
use Rattle.ciel_memo_file.specs.Entries.{Entry}

pub record MemoSeen (K : Type 0) : Type 0 where
  pub inner : K
  pub entries : List Entry
