-- The next entry stands there and has a new key, or no entry may be the next one.
use Rattle.std.proofs.Common.{◌-◌, Bool, refl, subst}
use Rattle.ciel_name.specs.Spelled.{Refuses}
use Rattle.ciel_name.specs.declared.refusal.Decode.{Decode}
use Rattle.ciel_memo_file.specs.Entries.{entry_view}
use Rattle.ciel_memo_file.specs.File.{most_of_a_file}
use Rattle.ciel_memo_file.specs.Steps.{AddedSo, NoneWithin, seen}
use Rattle.ciel_memo_file.proofs.Places.{goes, none_next, repeats}
use Rattle.ciel_memo_file.proofs.gathered.Gathered.next.Goals as goal

pub returns-in-Err-NotValue-clause-refused : goal.returns-in-Err-NotValue-clause-refused
returns-in-Err-NotValue-clause-refused c =
    let none : NoneWithin (most_of_a_file - c.args.at) c.args.front.now =
    subst (λ (d : Decode). Refuses d (NoneWithin (most_of_a_file - c.args.at) c.args.front.now)) c.in-Err-NotValue.field-0-is
    c.in-Err-NotValue.ensures.refused in
    (refl, none_next (seen c.args.self.now) c.args.front.now c.args.at c.requires.memo c.requires.place none)

pub returns-then-is_new-clause-goes : goal.returns-then-is_new-clause-goes
returns-then-is_new-clause-goes c =
    goes (seen c.args.self.now) c.args.front.now c.args.at c.requires.memo c.requires.place (entry_view c.in-Ok.next.entry) c.in-Ok.next.key
    c.in-Ok.next.rest.now (seen c.add.new.self) c.in-Ok.ensures.next
    (subst (λ (b : Bool). AddedSo b (seen c.args.self.now) (seen c.add.new.self) (entry_view c.in-Ok.next.entry)) c.if-is_new.true
    c.in_ok-is_new.ensures.added)

pub returns-clause-refused : goal.returns-clause-refused
returns-clause-refused c = (
  refl,
  repeats (seen c.args.self.now) c.args.front.now c.args.at c.requires.memo c.requires.place (entry_view c.in-Ok.next.entry) c.in-Ok.next.key
      c.in-Ok.next.rest.now c.in-Ok.ensures.next
      (subst (λ (b : Bool). AddedSo b (seen c.args.self.now) (seen c.add.new.self) (entry_view c.in-Ok.next.entry)) c.if-is_new.false
      c.in_ok-is_new.ensures.added),
)
