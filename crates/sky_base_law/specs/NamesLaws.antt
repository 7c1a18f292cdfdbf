-- Names in place of descriptions: what is done with the one is done with the other, whatever gives the names.
use Rattle.std.specs.Prelude.{◌≡◌, ℕ, List, map}
use Rattle.std.specs.Option.{option_map}
use Rattle.sky_base.specs.Val.{refs, distinct, same_text}
use Rattle.sky_base.specs.Val as v
use Rattle.sky_base.specs.Name.{low, low_vals, low_pairs, low_desc, name}
use Rattle.sky_base.specs.Op.{Answer, Order, plus, minus, times, over, rest, compare, index, set_at, append}
use Rattle.sky_base.specs.Tree.{nowhere}
use Rattle.sky_base.specs.Res.{bodies, others, Object, Res}
use Rattle.sky_base.specs.Eval.{body_at}
use Rattle.sky_base.specs.Read.{Halt, run_of_halt, segment, first_end, first_halt, rest_of}
use Rattle.sky_base.specs.See.{Val, Vals, Pairs, Desc, Job, Around, run_of, world_of, start_st}
use Rattle.sky_base.specs.Needed.{distinct_refs}
use Rattle.sky_base_law.specs.Lower.{lower, low_ref, low_obj, low_halt, low_run, low_stop, names_world}
use Rattle.sky_base_law.specs.Tasks.{In}

-- no description has a name inside, so nothing else needs spelling
abbrev pub no_name : ⊥ → List ℕ
no_name n = absurd n

module _ (tag : v.Desc (List ℕ) → List ℕ) where
  abbrev pub named : Val → v.Val (List ℕ)
  named a = low no_name tag a

  abbrev pub named_answer : Answer ⊥ → Answer (List ℕ)
  named_answer a = lower no_name tag a

  -- each operator answers of named values as of the values
  pub record OperatorsAlike : Type 0 where
    pub plus : (a b : Val) → plus (named a) (named b) ≡ named_answer (plus a b)
    pub minus : (a b : Val) → minus (named a) (named b) ≡ named_answer (minus a b)
    pub times : (a b : Val) → times (named a) (named b) ≡ named_answer (times a b)
    pub over : (a b : Val) → over (named a) (named b) ≡ named_answer (over a b)
    pub rest : (a b : Val) → rest (named a) (named b) ≡ named_answer (rest a b)
    pub compare : (o : Order) (a b : Val) → compare o (named a) (named b) ≡ named_answer (compare o a b)
    pub index : (a i : Val) → index (named a) (named i) ≡ named_answer (index a i)
    pub set_at : (a i e : Val) → set_at (named a) (named i) (named e) ≡ named_answer (set_at a i e)
    pub append : (a e : Val) → append (named a) (named e) ≡ named_answer (append a e)

  -- the references of a named value are those of the value, by their names
  abbrev pub RefsAlike : Type 0
  RefsAlike = (a : Val) → refs (named a) ≡ map (low_ref no_name tag) (refs a)

  -- no two of these descriptions that differ have one name
  abbrev pub NoClash : List Desc → Type 0
  NoClash ds = (d e : Desc) → In d ds → In e ds → name no_name tag d ≡ name no_name tag e → d ≡ e

  -- and so are the distinct ones, where no two names clash
  abbrev pub DistinctAlike : Type 0
  DistinctAlike =
      (a : Val) → NoClash (refs a) → distinct same_text (refs (named a)) ≡ map (low_ref no_name tag) (distinct_refs a)

  -- what is read as data is the same, and holds names
  abbrev pub ReadsAlike : Around → (List ℕ → Answer (List ℕ)) → Type 0
  ReadsAlike around read = (b : List ℕ) → read b ≡ named_answer (around.reads b)

  -- up to its next wait or its end one run makes, waits for and ends with the names of what the other does
  pub record RunsAlike (run : Res ⊥) (over_names : Res (List ℕ)) : Type 0 where
    pub makes : segment over_names ≡ map (low_desc no_name tag) (segment run)
    pub waits : first_halt over_names ≡ option_map (low_halt no_name tag) (first_halt run)
    pub ends : first_end over_names ≡ option_map (low_stop no_name tag) (first_end run)

  -- a call over names runs as the call
  abbrev pub CallsAlike : Type 0
  CallsAlike =
      (job : Job) (around : Around) (read : List ℕ → Answer (List ℕ)) → ReadsAlike around read → (f : List ℕ) (c : Pairs) (vs : Vals)
      → RunsAlike (run_of job around f c vs) (body_at (names_world tag job.script read) bodies f (low_pairs no_name tag c)
      (low_vals no_name tag vs) nowhere start_st)

  -- and goes on over names from a wait as it does
  abbrev pub RestsAlike : Type 0
  RestsAlike =
      (job : Job) (around : Around) (read : List ℕ → Answer (List ℕ)) → ReadsAlike around read → (h : Halt ⊥) (os : List (Object ⊥))
      → RunsAlike (rest_of (world_of job.script around) others h os)
      (rest_of (names_world tag job.script read) others (low_halt no_name tag h) (map (low_obj no_name tag) os))

  -- the stack at a named wait is the named stack at the wait
  abbrev pub StacksAlike : Type 0
  StacksAlike =
      (f : List ℕ) (j : ℕ) (h : Halt ⊥) → run_of_halt f j (low_halt no_name tag h) ≡ low_run no_name tag (run_of_halt f j h)

abbrev pub Tag : Type 0
Tag = v.Desc (List ℕ) → List ℕ
