use Rattle.std.proofs.Common.{◌≡◌, ◌+◌, ℕ, Bool, cond, List, [], ◌∷◌, ◌++◌, length, sym, ap, ap₂, subst, ◌∙◌, arith, length-append}
use Rattle.line_flow.specs.declared.entries.Entry.{Entry}
use Rattle.line_flow.specs.Entries.{seen, AllWithin}
use Rattle.line_flow.proofs.EntriesLaw.{seen-push, AllWithin-push, AllWithin-more}
use Rattle.line_flow.proofs.entries.Entries.push.Goals as goal

pub invariant_of-self : goal.invariant_of-self
invariant_of-self c =
    let bytes = c.self.inside.bytes.items in
    let es = c.self.inside.entries.items in
    let line = c.args.line.now in
    let e : Entry = record { start = c.len-start.result; end = c.len-end.result; sum = c.args.sum } in
    let now = c.extend_from_slice.new.self.items in
    let put : now ≡ bytes ++ line = c.extend_from_slice.ensures.items ∙ ap (λ (t : Bool). cond t (bytes ++ line) bytes) (sym c.if-is_ok.ensures.value) in
    let pushed : c.push.new.self.items ≡ es ++ e ∷ [] = c.push.ensures.items
    ∙ ap (λ (t : Bool). cond t (es ++ e ∷ []) es) (sym c.if-is_ok-2.ensures.value) in
    let start : c.len-start.result ≡ length bytes = c.len-start.ensures ∙ c.self.inside.bytes.ok.0 in
    let end : c.len-end.result ≡ length now = c.len-end.ensures ∙ c.extend_from_slice.new.self.ok.0 in
    let count : length now ≡ length bytes + length line = ap length put ∙ length-append bytes line in
    subst (λ (xs : List Entry). AllWithin (length now) xs) (sym pushed)
    (AllWithin-push (length now) es e (AllWithin-more (length bytes) (length now) es (omega (arith, count)) c.self.invariant)
    (omega (arith, start, end, count)) (omega (arith, end)))

pub returns-then-is_ok-2-clause-ok : goal.returns-then-is_ok-2-clause-ok
returns-then-is_ok-2-clause-ok c =
    let bytes = c.self.inside.bytes.items in
    let es = c.self.inside.entries.items in
    let line = c.args.line.now in
    let e : Entry = record { start = c.len-start.result; end = c.len-end.result; sum = c.args.sum } in
    let put : c.extend_from_slice.new.self.items ≡ bytes ++ line = c.extend_from_slice.ensures.items
    ∙ ap (λ (t : Bool). cond t (bytes ++ line) bytes) (sym c.if-is_ok.ensures.value) in
    let pushed : c.push.new.self.items ≡ es ++ e ∷ [] = c.push.ensures.items
    ∙ ap (λ (t : Bool). cond t (es ++ e ∷ []) es) (sym c.if-is_ok-2.ensures.value) in
    let start : c.len-start.result ≡ length bytes = c.len-start.ensures ∙ c.self.inside.bytes.ok.0 in
    let end : c.len-end.result ≡ length bytes + length line = c.len-end.ensures ∙ c.extend_from_slice.new.self.ok.0 ∙ ap length put ∙ length-append bytes line in
    ap₂ seen put pushed ∙ seen-push bytes line es e c.self.invariant start end
    ∙ ap (λ (xs : List (List ℕ × ℕ)). xs ++ (line, c.args.sum) ∷ []) c.self.view_is
