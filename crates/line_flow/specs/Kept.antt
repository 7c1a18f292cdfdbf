-- What the code keeps of the lines that it has settled, against these lines. Nothing above a flow needs it.
use Rattle.std.specs.Prelude.{◌≡◌, ℕ, zero, suc, ◌+◌, ◌-◌, ◌^◌, ◌%◌, ◌<◌, ◌≤◌, nat_lt, min, Bool, true, false, ℤ, pos, int_div, List, [], ◌∷◌, ◌++◌}
use Rattle.std.specs.Prelude.{length, take, drop, map, replicate, slice_index_or, Option, Some, None}
use Rattle.std.specs.Fmt.{signed_decimal}
use Rattle.std.specs.Bool.{MatchBool}
use Rattle.std.specs.List.{flat_map}
use Rattle.sky_base.specs.Val.{Pairs}
use Rattle.line_kit.specs.Lines.{all_lines, lines, joined, with_text, is_open, same_lines}
use Rattle.line_kit.specs.Words.{words}
use Rattle.line_kit.specs.Numbers.{signed_number, counted}
use Rattle.line_kit.specs.Parts.{every}
use Rattle.line_kit.specs.Gives.{input, read_each}
use Rattle.line_kit.specs.Table.{text_of, lines_of}
use Rattle.line_kit.specs.Totals.{totals}
use Rattle.line_kit.specs.declared.executor.Executor.{Executor}
use Rattle.line_kit.specs.declared.executor.Executor.TheVariants.{Cat, Grep, Words, Split, Deal, Sort, Tally, Count, Sum, Head, Half, Same}
use Rattle.line_flow.specs.declared.stream.Stream.{Stream}
use Rattle.line_flow.specs.declared.pair.Pair.{Pair}
use Rattle.line_flow.specs.declared.head.Head.{Head as First}
use Rattle.line_flow.specs.declared.turns.Turns.{Turns}
use Rattle.line_flow.specs.declared.halves.Halves.{Halves}
use Rattle.line_flow.specs.declared.sums.Sums.{Sums}
use Rattle.line_flow.specs.declared.totals.Totals.{Totals as Kept}
use Rattle.line_flow.specs.declared.blocks.Blocks.{Blocks}
use Rattle.line_flow.specs.declared.lined.Lined.{Lined}
use Rattle.line_flow.specs.declared.settled.Settled.{Settled}

-- the settled lines: all of them, and those of the first two inputs
pub record Seen : Type 0 where
  pub all : List (List ℕ)
  pub first : List (List ℕ)
  pub second : List (List ℕ)

-- the lines of these inputs
abbrev pub seen_of : List (List ℕ) → Seen
seen_of inputs = record { all = all_lines inputs; first = lines (input inputs 0); second = lines (input inputs 1) }

abbrev pub nothing_seen : Seen
nothing_seen = record { all = []; first = []; second = [] }

-- what these lines of input i are of input k
abbrev pub at_input : ℕ → ℕ → List (List ℕ) → List (List ℕ)
at_input zero zero ls = ls
at_input zero (suc k) ls = []
at_input (suc i) zero ls = []
at_input (suc i) (suc k) ls = at_input i k ls

-- these lines more of an input
abbrev pub seen_more : Seen → ℕ → List (List ℕ) → Seen
seen_more s i ls = record { all = s.all ++ ls; first = s.first ++ at_input i 0 ls; second = s.second ++ at_input i 1 ls }

-- a stream keeps what waits of its output: what was drained of it is only counted
pub record IsStream (s : Stream) (drained output : List ℕ) : Type 0 where
  pub whole : drained ++ s.bytes.items ≡ output
  pub gone : s.gone ≡ min (length drained) (2 ^ 64 - 1)

-- its output has more bytes than an output may have
abbrev pub is_over : Stream → Bool
is_over s = nat_lt 67108864 (s.gone + length s.bytes.items)

-- of an executor with one output
pub record HasOne (s : Stream) (drained : List (List ℕ)) (output : List ℕ) : Type 0 where
  pub one : List ℕ
  pub drained_is : drained ≡ one ∷ []
  pub stream : IsStream s one output

-- of `head`: how many lines more there may be
pub record HasHead (h : First) (count : ℕ) (drained ls : List (List ℕ)) : Type 0 where
  pub left : h.left ≡ count - length ls
  pub out : HasOne h.out drained (joined (take count ls))

-- of `deal`: each output has its stream
pub record AreStreams (outs : List Stream) (n : ℕ) (drained ls : List (List ℕ)) : Type 0 where
  pub count : length outs ≡ n
  pub drained_count : length drained ≡ n
  pub streams : (i : ℕ) (d : Stream) → i < n → IsStream (slice_index_or outs i d) (slice_index_or drained i []) (joined (every n i 0 ls))

-- the next line goes to the output whose turn it is
pub record HasTurns (t : Turns) (n : ℕ) (drained ls : List (List ℕ)) : Type 0 where
  pub outs : AreStreams t.outs.items n drained ls
  pub below : t.turn < n
  pub turn : (k : ℕ) → (t.turn + k) % n ≡ (length ls + k) % n

-- so many outputs of which nothing has come
pub record AreEmpty (outs : List Stream) (n : ℕ) : Type 0 where
  pub count : length outs ≡ n
  pub empty : (i : ℕ) (d : Stream) → i < n → (slice_index_or outs i d).bytes.items ≡ []
  pub gone : (i : ℕ) (d : Stream) → i < n → (slice_index_or outs i d).gone ≡ 0

-- what waited was handed out
pub record AreHandedOut (before after : List Stream) : Type 0 where
  pub count : length after ≡ length before
  pub emptied : (i : ℕ) (d : Stream) → i < length before → (slice_index_or after i d).bytes.items ≡ []
  pub gone : (i : ℕ) (d : Stream) → i < length before
      → (slice_index_or after i d).gone ≡ min ((slice_index_or before i d).gone + length (slice_index_or before i d).bytes.items) (2 ^ 64 - 1)

abbrev pub half_lines : List ℤ → List (List ℕ)
half_lines = map (λ z. signed_decimal (int_div z (pos 2)))

-- some of these lines has no number
abbrev pub Unread : {A : Type 0} → (List ℕ → Option A) → List (List ℕ) → Type 0
Unread read ls = (more : List (List ℕ)) → read_each read (ls ++ more) ≡ None

-- the output is kept while it isn't too large
abbrev pub Caps : Halves → List ℕ → Type 0
Caps h output = MatchBool h.over (67108864 < length output) ((h.out.items ≡ output) × (length output < 67108865))

abbrev pub WritesHalves : Halves → List (List ℕ) → Type 0
WritesHalves h ls = (zs : List ℤ) × (read_each signed_number ls ≡ Some zs) × Caps h (joined (half_lines zs))

-- of `half`: the output; where a line has no number nothing more is read
abbrev pub HasHalves : Halves → List (List ℕ) → Type 0
HasHalves h ls = MatchBool h.bad (Unread signed_number ls) (WritesHalves h ls)

-- each line with the sum of the numbers at it, in order
abbrev pub sums_in : Kept → List (List ℕ × ℕ)
sums_in t = totals t.entries

abbrev pub SumsUp : Sums → List (List ℕ) → Type 0
SumsUp s ls = (es : List (List ℕ × ℕ)) × (read_each counted ls ≡ Some es) × (sums_in s.totals ≡ totals es)

-- of `sum`: the sums; where a line has no number nothing more is read
abbrev pub HasSums : Sums → List (List ℕ) → Type 0
HasSums s ls = MatchBool s.bad (Unread counted ls) (SumsUp s ls)

-- of `same`: some line of the second input is another than the first input's
abbrev pub Differ : List (List ℕ) → List (List ℕ) → Type 0
Differ first second = (more : List (List ℕ)) → same_lines first (second ++ more) ≡ false

-- the bytes that are kept hold the lines of the first input; those of the second are the first of these, or one differs
pub record HasPair (p : Pair) (first second : List (List ℕ)) : Type 0 where
  pub kept : lines p.first.items ≡ first
  pub closed : is_open p.first.items ≡ false
  pub within : p.at ≤ length p.first.items
  pub compared : MatchBool p.differs (Differ first second) (first ≡ second ++ lines (drop p.at p.first.items))

-- nothing is handed out before the end
abbrev pub Undrained : ℕ → List (List ℕ) → Type 0
Undrained n drained = drained ≡ replicate n []

abbrev pub keeps_all : Executor → Bool
keeps_all Sort = true
keeps_all Split = true
keeps_all _ = false

abbrev pub KeptLined : Lined → Executor → Pairs (List ℕ) → ℕ → List (List ℕ) → List (List ℕ) → Type 0
KeptLined (Lined.Words s) e args n drained ls = (e ≡ Words) × HasOne s drained (joined (flat_map words ls))
KeptLined (Lined.Head h) e args n drained ls = (e ≡ Head) × HasHead h (lines_of args) drained ls
KeptLined (Lined.Deal t) e args n drained ls = (e ≡ Deal) × HasTurns t n drained ls
KeptLined (Lined.Half h) e args n drained ls = (e ≡ Half) × HasHalves h ls × Undrained n drained
KeptLined (Lined.Sum s) e args n drained ls = (e ≡ Sum) × HasSums s ls × Undrained n drained
KeptLined (Lined.Tally t) e args n drained ls = (e ≡ Tally) × (sums_in t ≡ totals (map (λ l. (l, 1)) ls)) × Undrained n drained

abbrev pub KeptBlocks : Blocks → Executor → Pairs (List ℕ) → ℕ → List (List ℕ) → Seen → Type 0
KeptBlocks (Blocks.Cat s) e args n drained seen = (e ≡ Cat) × HasOne s drained (joined seen.all)
KeptBlocks (Blocks.Grep t s) e args n drained seen = (e ≡ Grep) × (t.items ≡ text_of args)
    × HasOne s drained (joined (with_text (text_of args) seen.all))
KeptBlocks (Blocks.Count c) e args n drained seen = (e ≡ Count) × (c ≡ length seen.all) × Undrained n drained
KeptBlocks (Blocks.Same p) e args n drained seen = (e ≡ Same) × HasPair p seen.first seen.second × Undrained n drained
KeptBlocks (Blocks.Kept k) e args n drained seen = (keeps_all e ≡ true) × (lines k.items ≡ seen.all) × (is_open k.items ≡ false) × Undrained n drained

-- what is kept is that of an executor with these arguments, outputs and drained bytes, for these settled lines
abbrev pub Keeps : Settled → Executor → Pairs (List ℕ) → ℕ → List (List ℕ) → Seen → Type 0
Keeps (Settled.Blocks b) e args n drained seen = KeptBlocks b e args n drained seen
Keeps (Settled.Lined l) e args n drained seen = KeptLined l e args n drained seen.all
