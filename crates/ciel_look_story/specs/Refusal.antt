-- What a refusal says.
use Rattle.std.specs.Prelude.{ℕ}
use Rattle.ciel_look_story.specs.declared.story.NoStory.{NoStory}

-- of the place where the bytes are no log's
abbrev pub IfNotLog : NoStory → (ℕ → Type 0) → Type 0
IfNotLog (NoStory.NotLog at) P = P at
IfNotLog NoStory.Memory P = Unit {0}
