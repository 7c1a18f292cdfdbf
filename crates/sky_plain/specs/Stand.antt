-- What a sequential run knows of a job: of each description whose object it holds, the object that the meaning sees.
use Rattle.std.specs.Prelude.{◌≡◌, ◌≢◌, ◌<◌, ℕ, List, [], ◌∷◌, length, Option, Some, Ok, Err, slice_get}
use Rattle.sky_base.specs.Val.{no_vals, no_pairs, call}
use Rattle.sky_base.specs.Tree.{Script}
use Rattle.sky_base.specs.Op.{Answer}
use Rattle.sky_base.specs.Res.{Object}
use Rattle.sky_base_law.specs.Lower.{low_ref}
use Rattle.sky_base.specs.See.{Desc, Job, Around}
use Rattle.sky_base_law.specs.Sound.{DescOver, SoundOver}
use Rattle.sky_base_law.specs.Tasks.{In}
use Rattle.sky_base.specs.Name.{low_desc}
use Rattle.sky_base.specs.Needed.{Task, task_of}
use Rattle.sky_plain_body.specs.Stops.{end_object}
use Rattle.sky_plain.specs.Needs.{Waits, Makes}
use Rattle.sky_base_known.specs.Walk.{Row, Stop, known_of, object_at, number_of}
use Rattle.sky_base_known.specs.Number.{tag_of, Grown}
use Rattle.sky_base_waves.specs.Seen.{Sees}

-- no name stands inside a described value, so nothing needs spelling
abbrev pub spell : ⊥ → List ℕ
spell b = absurd b

-- one more object is known
pub record Puts (objects : List (Option (Object (List ℕ)))) (k : ℕ) (o : Object (List ℕ)) (after : List (Option (Object (List ℕ)))) : Type 0 where
  pub here : object_at after k ≡ Some o
  pub there : (i : ℕ) → i ≢ k → object_at after i ≡ object_at objects i

-- ---- what is referred to is held

abbrev pub Below : ℕ → List ℕ → Type 0
Below n name = number_of name < n

abbrev pub RowFits : Script → ℕ → Row → Type 0
RowFits sc n d = DescOver (Below n) sc d

abbrev pub ObjectFits : Script → ℕ → Object (List ℕ) → Type 0
ObjectFits sc n (Object.bytes b) = Unit {0}
ObjectFits sc n (Object.data_of v) = SoundOver (Below n) sc v
ObjectFits sc n (Object.fault f) = Unit {0}

-- each description and each value that is known keeps the limits, and refers to descriptions that are held
pub record Fits (sc : Script) (rows : List Row) (objects : List (Option (Object (List ℕ)))) : Type 0 where
  pub rows_fit : (d : Row) → In d rows → RowFits sc (length rows) d
  pub objects_fit : (k : ℕ) (o : Object (List ℕ)) → object_at objects k ≡ Some o → ObjectFits sc (length rows) o

-- how a run stops: its value, or what it waits for
abbrev pub StopFits : Script → ℕ → Stop → Type 0
StopFits sc n (Stop.ended e st) = ObjectFits sc n (end_object e)
StopFits sc n (Stop.waits d) = RowFits sc n d
StopFits sc n (Stop.full d) = Unit {0}

-- what is read as data keeps the limits and refers to nothing
abbrev pub ReadFits : Script → Answer (List ℕ) → Type 0
ReadFits sc (Ok v) = SoundOver (λ b. ⊥) sc v
ReadFits sc (Err k) = Unit {0}

module _ (job : Job) (around : Around) where
  abbrev pub KnownAt : List Row → List (Option (Object (List ℕ))) → ℕ → Type 0
  KnownAt rows objects n = (d : Desc) (o : Object (List ℕ)) → known_of objects (low_ref spell (tag_of rows) d) ≡ Some o
      → Sees job around (tag_of rows) n d o

  -- however many descriptions are held later, what is known of one is what is seen of it
  abbrev pub Knows : List Row → List (Option (Object (List ℕ))) → Type 0
  Knows rows objects = (later : List Row) → Grown rows later → (n : ℕ) × KnownAt later objects n

  -- the k-th description that is held stands for this one
  abbrev pub Holds : List Row → ℕ → Desc → Type 0
  Holds rows k d = slice_get rows k ≡ Some (low_desc spell (tag_of rows) d)

  -- these numbers, the last first, are those of a chain that ends with d
  abbrev pub Opened : List Row → List ℕ → Desc → Type 0
  Opened rows [] d = ⊥
  Opened rows (k ∷ []) d = Holds rows k d × Waits job around Task.show d
  Opened rows (k ∷ l ∷ ks) d = Holds rows k d × ((e : Desc) × (t : Task) × Opened rows (l ∷ ks) e × (task_of e ≡ Some t) × Waits job around t d)

  abbrev pub Opens : List Row → List ℕ → Type 0
  Opens rows ks = (later : List Row) → Grown rows later → (d : Desc) × Opened later ks d

  -- each description that is held stands for one that is made
  abbrev pub Made : List Row → Type 0
  Made rows = (later : List Row) → Grown rows later → (e : Row) → In e rows → (d : Desc) × Makes job around d × (low_desc spell (tag_of later) d ≡ e)

  -- what stands of a sequential run: its main call is number 0
  pub record Standing (rows : List Row) (objects : List (Option (Object (List ℕ)))) : Type 0 where
    pub knows : Knows rows objects
    pub fits : Fits job.script rows objects
    pub made : Made rows
    pub main_is : slice_get rows 0 ≡ Some (call [] no_pairs no_vals)
