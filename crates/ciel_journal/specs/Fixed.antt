-- Jobs whose tasks follow fixed lists of acts: each task makes and waits for what its list says, and comes to its end
-- once all that it waits for is seen. A small one is written out.
use Rattle.std.specs.Prelude.{◌≡◌, ℕ, zero, suc, ◌<◌, List, [], ◌∷◌, length, Bool, true, false, cond, ◌&&◌, Option, Some, None, nat_eq, nat_le}
use Rattle.ciel_journal.specs.Known.{Inner}
use Rattle.ciel_journal.specs.Job.{Digest, Task, show, of, Act, made, wait, Job, In, waits_in}

pub record Fixed (D : Type 0) : Type 0 where
  pub same : D → D → Bool
  pub name : D → Digest
  pub main : D
  pub task_of : D → Option (Task D)
  pub outputs : Task D → List D
  pub first : Task D → List D
  -- all that a task does after its start
  pub script : Task D → List (Act D)
  -- what it holds at a wait, and the mark of its state there
  pub holds : Task D → ℕ → List D
  pub state_mark : Task D → ℕ → Digest
  pub object_mark : D → Digest

module _ {D : Type 0} where
  abbrev pub all_seen : (D → Bool) → List D → Bool
  all_seen seen [] = true
  all_seen seen (d ∷ ds) = seen d && all_seen seen ds

  -- what is done up to and with the first wait that isn't met
  abbrev pub until : (D → Bool) → List (Act D) → List (Act D)
  until seen [] = []
  until seen (made d ∷ rest) = made d ∷ until seen rest
  until seen (wait ds ∷ rest) = wait ds ∷ cond (all_seen seen ds) (until seen rest) []

  -- whether each wait is met
  abbrev pub passes : (D → Bool) → List (Act D) → Bool
  passes seen [] = true
  passes seen (made d ∷ rest) = passes seen rest
  passes seen (wait ds ∷ rest) = all_seen seen ds && passes seen rest

module _ {D : Type 0} (f : Fixed D) where
  abbrev pub acts_by : (D → Bool) → Task D → List (Act D)
  acts_by seen t = cond (all_seen seen (f.first t)) (until seen (f.script t)) []

  abbrev pub ends_by : (D → Bool) → Task D → Bool
  ends_by seen t = all_seen seen (f.first t) && passes seen (f.script t)

  abbrev pub seen_by : (D → Bool) → Option (Task D) → Bool
  seen_by seen None = true
  seen_by seen (Some t) = ends_by seen t

  -- whether the object of a description is seen with so much fuel
  abbrev pub seen_with : ℕ → D → Bool
  seen_with zero d = false
  seen_with (suc n) d = seen_by (seen_with n) (f.task_of d)

  abbrev pub fixed_job : Job D
  fixed_job =
      record {
        same = f.same;
        name = f.name;
        main = f.main;
        task_of = f.task_of;
        outputs = f.outputs;
        first = f.first;
        acts = λ n t. acts_by (seen_with n) t;
        ended = λ n t. ends_by (seen_with n) t;
        at = λ n t j. cond (nat_le j (length (waits_in (acts_by (seen_with n) t))))
            (Some (record { names = f.holds t j; mark = f.state_mark t j })) None;
        object = λ n d. cond (seen_with n d) (Some (f.object_mark d)) None;
      }

  -- what is asked of the lists
  pub record IsFixed : Type 0 where
    pub same_refl : (d : D) → f.same d d ≡ true
    pub same_exact : (d e : D) → f.same d e ≡ true → d ≡ e
    pub first_show : f.first show ≡ f.main ∷ []
    pub outputs_show : f.outputs show ≡ []
    pub made_by : (d : D) (t : Task D) → f.task_of d ≡ Some t → In d (f.outputs t)
    pub makes : (d : D) (t : Task D) → In d (f.outputs t) → f.task_of d ≡ Some t
    pub own : (d e : D) → f.task_of e ≡ Some (of d) → f.task_of d ≡ Some (of d)
    pub size : D → ℕ
    pub first_smaller : (d e : D) (t : Task D) → f.task_of d ≡ Some t → In e (f.first t) → (t ≡ show → ⊥) → size e < size d

-- ---- a small job: the main call spawns two squares, names a text, spawns a task over its lines, and waits for the squares,
-- one after the other

pub data Piece : Type 0 where
  main : Piece
  one : Piece
  two : Piece
  left : Piece
  right : Piece
  text : Piece

abbrev pub number : Piece → ℕ
number main = 0
number one = 1
number two = 2
number left = 3
number right = 4
number text = 5

abbrev pub piece_task : Piece → Option (Task Piece)
piece_task main = Some (of main)
piece_task one = Some (of one)
piece_task two = Some (of two)
piece_task left = Some (of left)
piece_task right = Some (of left)
piece_task text = None

abbrev pub piece_outputs : Task Piece → List Piece
piece_outputs show = []
piece_outputs (of main) = main ∷ []
piece_outputs (of one) = one ∷ []
piece_outputs (of two) = two ∷ []
piece_outputs (of left) = left ∷ right ∷ []
piece_outputs (of right) = []
piece_outputs (of text) = []

abbrev pub piece_first : Task Piece → List Piece
piece_first show = main ∷ []
piece_first (of main) = []
piece_first (of one) = []
piece_first (of two) = []
piece_first (of left) = text ∷ []
piece_first (of right) = []
piece_first (of text) = []

-- where the result is read from the lines, the root task waits for them
abbrev pub piece_script : Bool → Task Piece → List (Act Piece)
piece_script reads show = cond reads (wait (left ∷ []) ∷ []) []
piece_script reads (of main) =
    made one ∷ made two ∷ made text ∷ made left ∷ made right ∷ wait (one ∷ []) ∷ wait (two ∷ []) ∷ []
piece_script reads (of one) = []
piece_script reads (of two) = []
piece_script reads (of left) = []
piece_script reads (of right) = []
piece_script reads (of text) = []

abbrev pub piece_holds : Task Piece → ℕ → List Piece
piece_holds show zero = main ∷ []
piece_holds show (suc j) = left ∷ []
piece_holds (of main) zero = []
piece_holds (of main) (suc j) = one ∷ two ∷ left ∷ right ∷ []
piece_holds (of one) j = []
piece_holds (of two) j = []
piece_holds (of left) j = text ∷ []
piece_holds (of right) j = []
piece_holds (of text) j = []

-- the marks of objects and of states at a wait
abbrev pub object_mark : Piece → Digest
object_mark d = 200 ∷ number d ∷ []

abbrev pub state_mark : ℕ → Digest
state_mark j = 100 ∷ j ∷ []

abbrev pub small_lists : Bool → Fixed Piece
small_lists reads =
    record {
      same = λ a b. nat_eq (number a) (number b);
      name = λ d. number d ∷ [];
      main = main;
      task_of = piece_task;
      outputs = piece_outputs;
      first = piece_first;
      script = piece_script reads;
      holds = piece_holds;
      state_mark = λ t j. state_mark j;
      object_mark = object_mark;
    }

-- the job whose result is the sum of the squares, and the one whose result is read from the lines
abbrev pub squares : Job Piece
squares = fixed_job (small_lists false)

abbrev pub lines : Job Piece
lines = fixed_job (small_lists true)

-- what stands inside a description, and what its object holds
abbrev pub piece_inside : Piece → List Piece
piece_inside main = []
piece_inside one = []
piece_inside two = []
piece_inside left = text ∷ []
piece_inside right = text ∷ []
piece_inside text = []

abbrev pub piece_carries : Bool → Piece → List Piece
piece_carries reads main = cond reads (left ∷ []) []
piece_carries reads one = []
piece_carries reads two = []
piece_carries reads left = []
piece_carries reads right = []
piece_carries reads text = []

abbrev pub small_inner : Bool → Inner Piece
small_inner reads = record { inside = piece_inside; carries = λ n d. piece_carries reads d }
