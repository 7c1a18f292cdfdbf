-- Where nothing is new, the file that was read has the memo's entries and no others.
use Rattle.std.proofs.Common.{rules, ◌≡◌, [], ℕ, List, Option, IfSome, ap, length, map, subst, sym, ◌∙◌}
use Rattle.std.proofs.lemmas.List.{nil_from_length}
use Rattle.ciel_memo_file.specs.Added.{entries_of}
use Rattle.ciel_memo_file.specs.Entries.{Entry, entry_view}
use Rattle.ciel_memo_file.specs.File.{IsMemo, file_bytes}
use Rattle.ciel_memo_file.proofs.Added.{nothing_new}
use Rattle.ciel_memo_file.proofs.memo.Memo.file_with.Goals as goal

pub returns-in_ok-same-in-Some : goal.returns-in_ok-same-in-Some
returns-in_ok-same-in-Some c =
    let memo = c.args.self.now in
    let zero : length c.fresh.inside.by_key.entries ≡ 0 = search rules in
    let new : c.args.fresh.now ≡ [] = sym c.fresh.view_is ∙ ap entries_of (nil_from_length c.fresh.inside.by_key.entries zero) in
    let whole : IsMemo (file_bytes memo) memo = subst (λ (es : List Entry). IsMemo (file_bytes es) es) c.self.view_is c.self.invariant.memo in
    let here : c.in-Some.file ≡ file_bytes (map entry_view c.self.inside.entries.items) =
    subst (λ (o : Option (List ℕ)). IfSome o (λ bytes. bytes ≡ file_bytes (map entry_view c.self.inside.entries.items))) c.in-Some.is c.self.invariant.file in
    let bytes : c.in_ok-same-in-Some.same ≡ file_bytes memo =
    c.in_ok-same-in-Some.ensures ∙ here ∙ ap file_bytes c.self.view_is in
    record { file = ([], nothing_new memo c.args.fresh.now c.in_ok-same-in-Some.same new whole bytes) }
