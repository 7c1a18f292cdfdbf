-- What the executors of a line give, by the entries that its memo begins with.
use Rattle.std.proofs.Common.{◌≡◌, ◌∙◌, ℕ, List, [], Bool, true, false, is_some, Option, Some, None, refl, sym, ap, subst}
use Rattle.std.specs.Prelude.{IfSome, option_map}
use Rattle.sky_base.specs.KitView.{Gives}
use Rattle.line_kit.specs.Gives.{gives}
use Rattle.ciel_memo.specs.Gives.{memo_gives}
use Rattle.ciel_memo_file.specs.Entries.{Entry}
use Rattle.ciel_memo_file.specs.File.{BadAt, IsMemo, most_of_a_file}
use Rattle.ciel_io.specs.Tells.{Tells}
use Rattle.ciel_io.proofs.Joined.{part_whole}
use Rattle.ciel_run_line.specs.Answering.{AsksLast, IfBadHere, NoMemoBy, Unread}
use Rattle.ciel_run_log.specs.declared.why.Why.{Why}
use Rattle.ciel_memo_file.specs.Laws.{NeverBoth, OneList}
use Rattle.ciel_run_line.specs.Given.{BeginsWith, GivesAt, IsRecalled, given_by, memo_at}

abbrev Files : Type 0
Files = List ℕ → Option (List ℕ)

clash : true ≡ false → ⊥
clash e = cc

-- the entries of a file that is told are those that are held
module _ (one : OneList) (content : Files) where
  is_given : (memo_new memo : Option (List ℕ)) (held : Option (List Entry)) → is_some held ≡ is_some (memo_at memo_new memo)
      → IfSome held (BeginsWith content memo) → (g : Gives) → GivesAt content memo g → g ≡ given_by held
  is_given memo_new None None e b g h = h
  is_given memo_new None (Some es) e b g h = h ∙ ap (λ xs. memo_gives gives xs) (sym b)
  is_given None (Some path) None e b g h = absurd (clash (sym e))
  is_given (Some p) (Some path) None e b g h = absurd (clash (sym e))
  is_given memo_new (Some path) (Some es) e b g h =
      h.4 ∙ ap (λ xs. memo_gives gives xs) (one h.0 h.1 es h.3 (b h.0 h.2))

  pub given_is : (memo_new memo : Option (List ℕ)) (held : Option (List Entry)) → is_some held ≡ is_some (memo_at memo_new memo)
      → IfSome held (BeginsWith content memo) → (g : Gives) → GivesAt content memo g → g ≡ given_by held
  given_is = is_given

-- a file that is read and told is a memo's
pub recalled_is : (content : Files) (memo_new memo : Option (List ℕ)) (held : Option (List Entry))
    → is_some held ≡ is_some (memo_at memo_new memo) → IfSome held (BeginsWith content memo) → IsRecalled content memo
recalled_is content memo_new None held e b path bytes m there = let bad : None ≡ Some path = m in absurd cc
recalled_is content None (Some p) None e b path bytes m there = absurd (clash (sym e))
recalled_is content (Some q) (Some p) None e b path bytes m there = absurd (clash (sym e))
recalled_is content memo_new (Some p) (Some es) e b path bytes m there =
    let same : path ≡ p = cc in
    (es, b bytes (ap content (sym same) ∙ there))

-- so it has no bad entry
pub never_bad : (content : Files) (memo : Option (List ℕ)) (path bytes : List ℕ) (at : ℕ) → NeverBoth → memo ≡ Some path
    → content path ≡ Some bytes → BadAt bytes at → IsRecalled content memo → ⊥
never_bad content memo path bytes at both e there bad is = let m = is path bytes e there in both bytes m.0 at m.1 bad

-- ---- why there is no memo

pub bad_here : (named : Option (List ℕ)) (P Q : ℕ → Type 0) → ((at : ℕ) → P at → Q at) → (why : Why) → IfBadHere named P why
    → IfBadHere named Q why
bad_here named P Q f (Why.BadMemo path at) b = (b.0, f at b.1)
bad_here named P Q f Why.Memory b = tt
bad_here named P Q f (Why.ReadFault p) b = absurd b
bad_here named P Q f (Why.TooLongInput p at) b = absurd b
bad_here named P Q f Why.Done b = absurd b
bad_here named P Q f Why.Usage b = absurd b
bad_here named P Q f (Why.Syntax kind l k) b = absurd b
bad_here named P Q f (Why.Fault fault) b = absurd b
bad_here named P Q f (Why.Endless names) b = absurd b
bad_here named P Q f (Why.TooMany held given) b = absurd b
bad_here named P Q f Why.AllLost b = absurd b
bad_here named P Q f (Why.NameClash kept given) b = absurd b
bad_here named P Q f Why.WriteFault b = absurd b
bad_here named P Q f (Why.TooDeepPlain depth) b = absurd b
bad_here named P Q f (Why.KeepFault p) b = absurd b
bad_here named P Q f (Why.BadLog p at) b = absurd b
bad_here named P Q f (Why.OtherJob p) b = absurd b
bad_here named P Q f (Why.LogFull p held) b = absurd b

-- it wasn't read
pub unread_memo : (content : Files) (memo : Option (List ℕ)) (risen : Type 0) (why : Why) → Unread content memo most_of_a_file risen why
    → NoMemoBy content memo risen why
unread_memo content memo risen (Why.ReadFault p) u = u
unread_memo content memo risen (Why.TooLongInput p at) u = u
unread_memo content memo risen Why.Memory u = tt
unread_memo content memo risen (Why.BadMemo path at) u = absurd u
unread_memo content memo risen Why.Done u = absurd u
unread_memo content memo risen Why.Usage u = absurd u
unread_memo content memo risen (Why.Syntax kind l k) u = absurd u
unread_memo content memo risen (Why.Fault fault) u = absurd u
unread_memo content memo risen (Why.Endless names) u = absurd u
unread_memo content memo risen (Why.TooMany held given) u = absurd u
unread_memo content memo risen Why.AllLost u = absurd u
unread_memo content memo risen (Why.NameClash kept given) u = absurd u
unread_memo content memo risen Why.WriteFault u = absurd u
unread_memo content memo risen (Why.TooDeepPlain depth) u = absurd u
unread_memo content memo risen (Why.KeepFault p) u = absurd u
unread_memo content memo risen (Why.BadLog p at) u = absurd u
unread_memo content memo risen (Why.OtherJob p) u = absurd u
unread_memo content memo risen (Why.LogFull p held) u = absurd u

-- what was read is what stands there
found_at : (content : Files) (o : Option (List ℕ)) (b path file : List ℕ) → o ≡ Some path → content path ≡ Some file
    → IfSome o (λ p. IfSome (content p) (λ f. b ≡ f)) → b ≡ file
found_at content o b path file e there f =
    let here : IfSome (content path) (λ f. b ≡ f) = subst (λ (x : Option (List ℕ)). IfSome x (λ p. IfSome (content p) (λ f. b ≡ f))) e f in
    subst (λ (x : Option (List ℕ)). IfSome x (λ f. b ≡ f)) there here

-- it was read, and is none
pub bad_memo_by : (content : Files) (memo : Option (List ℕ)) (b : List ℕ) (risen : Type 0)
    → IfSome memo (λ p. IfSome (content p) (λ f. b ≡ f)) → (why : Why) → IfBadHere memo (BadAt b) why → NoMemoBy content memo risen why
bad_memo_by content memo b risen found (Why.BadMemo path at) x =
    (x.0, λ bytes there. subst (λ (y : List ℕ). BadAt y at) (found_at content memo b path bytes x.0 there found) x.1)
bad_memo_by content memo b risen found Why.Memory x = tt
bad_memo_by content memo b risen found (Why.ReadFault p) x = absurd x
bad_memo_by content memo b risen found (Why.TooLongInput p at) x = absurd x
bad_memo_by content memo b risen found Why.Done x = absurd x
bad_memo_by content memo b risen found Why.Usage x = absurd x
bad_memo_by content memo b risen found (Why.Syntax kind l k) x = absurd x
bad_memo_by content memo b risen found (Why.Fault fault) x = absurd x
bad_memo_by content memo b risen found (Why.Endless names) x = absurd x
bad_memo_by content memo b risen found (Why.TooMany held given) x = absurd x
bad_memo_by content memo b risen found Why.AllLost x = absurd x
bad_memo_by content memo b risen found (Why.NameClash kept given) x = absurd x
bad_memo_by content memo b risen found Why.WriteFault x = absurd x
bad_memo_by content memo b risen found (Why.TooDeepPlain depth) x = absurd x
bad_memo_by content memo b risen found (Why.KeepFault p) x = absurd x
bad_memo_by content memo b risen found (Why.BadLog p at) x = absurd x
bad_memo_by content memo b risen found (Why.OtherJob p) x = absurd x
bad_memo_by content memo b risen found (Why.LogFull p held) x = absurd x

-- it was read, and is one
pub read_begins : (content : Files) (memo : Option (List ℕ)) (b : List ℕ) (es : List Entry) → is_some memo ≡ true
    → IfSome memo (λ p. IfSome (content p) (λ f. b ≡ f)) → IsMemo b es → BeginsWith content memo es
read_begins content None b es e found m = absurd (clash (sym e))
read_begins content (Some path) b es e found m = λ bytes there. subst (λ (y : List ℕ). IsMemo y es) (found_at content (Some path) b path bytes refl there found) m

-- none is read
none_if : (o : Option (List ℕ)) → is_some o ≡ false → o ≡ None
none_if None e = refl
none_if (Some x) e = absurd (clash e)

pub none_read : (read memo : Option (List ℕ)) → read ≡ None → is_some read ≡ is_some memo → memo ≡ None
none_read read memo e h = none_if memo (sym h ∙ ap is_some e)

none_begins : (content : Files) (memo : Option (List ℕ)) (es : List Entry) → memo ≡ None → es ≡ [] → BeginsWith content memo es
none_begins content None es e n = n
none_begins content (Some path) es e n = let bad : Some path ≡ None = e in absurd cc

pub begun_begins : (content : Files) (memo : Option (List ℕ)) (o : Option (List Entry)) → memo ≡ None → IfSome o (λ m. m ≡ [])
    → IfSome o (BeginsWith content memo)
begun_begins content memo None e n = tt
begun_begins content memo (Some es) e n = none_begins content memo es e n

pub begun_some : (memo_new memo : Option (List ℕ)) (b : Bool) → memo ≡ None → b ≡ is_some memo_new → b ≡ is_some (memo_at memo_new memo)
begun_some None None b e h = h
begun_some None (Some p) b e h = let bad : Some p ≡ None = e in absurd cc
begun_some (Some q) memo b e h = h

pub some_at : (memo_new memo : Option (List ℕ)) → is_some memo ≡ true → is_some (memo_at memo_new memo) ≡ true
some_at None memo e = e
some_at (Some path) memo e = refl

-- all of these paths were asked
pub asks_last : (paths : List (List ℕ)) (b n : Option (List (List ℕ))) → Tells b n paths → (why : Why) → AsksLast why paths b n
asks_last paths b n t Why.Done = t
asks_last paths b n t Why.Usage = t
asks_last paths b n t (Why.Syntax kind l k) = t
asks_last paths b n t (Why.Fault fault) = t
asks_last paths b n t (Why.Endless names) = t
asks_last paths b n t (Why.TooMany held given) = t
asks_last paths b n t Why.AllLost = t
asks_last paths b n t (Why.NameClash kept given) = t
asks_last paths b n t (Why.ReadFault path) = t
asks_last paths b n t Why.WriteFault = t
asks_last paths b n t Why.Memory = part_whole b n paths t
asks_last paths b n t (Why.TooLongInput path at) = t
asks_last paths b n t (Why.TooDeepPlain depth) = t
asks_last paths b n t (Why.KeepFault path) = t
asks_last paths b n t (Why.BadLog path at) = t
asks_last paths b n t (Why.OtherJob path) = t
asks_last paths b n t (Why.BadMemo path at) = t
asks_last paths b n t (Why.LogFull path held) = t

-- ---- the kit that is kept

-- it is the one that the run had
pub kept_begins : {A M : Type 0} (content : Files) (memo : Option (List ℕ)) (o : Option A) (m : Option M) (kit kept : A → M)
    (entries : M → List Entry) → m ≡ option_map kept o → IfSome o (λ r. kept r ≡ kit r)
    → IfSome o (λ r. BeginsWith content memo (entries (kit r))) → IfSome m (λ k. BeginsWith content memo (entries k))
kept_begins {A} {M} content memo None m kit kept entries e s b =
    subst (λ (y : Option M). IfSome y (λ k. BeginsWith content memo (entries k))) (sym e) tt
kept_begins {A} {M} content memo (Some r) m kit kept entries e s b =
    subst (λ (y : Option M). IfSome y (λ k. BeginsWith content memo (entries k))) (sym e)
    (subst (λ (k : M). BeginsWith content memo (entries k)) (sym s) b)

pub kept_some : {A M : Type 0} (o : Option A) (m : Option M) (kept : A → M) → m ≡ option_map kept o → is_some m ≡ is_some o
kept_some None m kept e = ap is_some e
kept_some (Some r) m kept e = ap is_some e
