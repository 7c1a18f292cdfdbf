use Rattle.std.proofs.Common.{◌≡◌, Ok, Err, List, ℕ, Bool, true, false, refl, sym, ap, subst, ◌∙◌}
use Rattle.std.specs.Str.{IsUtf8, is_utf8}
use Rattle.std.proofs.lemmas.Str.{IsUtf8-from_is_utf8, is_utf8-from_IsUtf8}
use Rattle.sky_base.specs.Val.{text}
use Rattle.sky_base.specs.OpView.{Exactly}
use Rattle.sky_base.specs.ObjectView.{object_view}
use Rattle.sky_base_known.specs.Data.{data_of}
use Rattle.sky_base_waves.specs.Wave.{value_of, data_or_text, text_if}
use Rattle.sky_base_waves.proofs.wave.as_value.Goals as goal

not_utf8 : (bs : List ℕ) → (IsUtf8 bs → ⊥) → is_utf8 bs ≡ false
not_utf8 bs h = go (is_utf8 bs) refl
  where
    go : (b : Bool) → is_utf8 bs ≡ b → is_utf8 bs ≡ false
    go true e = absurd (h (IsUtf8-from_is_utf8 bs e))
    go false e = e

pub returns-in_ok-new-in-Ok-from_utf8 : goal.returns-in_ok-new-in-Ok-from_utf8
returns-in_ok-new-in-Ok-from_utf8 c =
    let reads = data_of in
    let bytes = c.in-Bytes.bytes in
    let read : reads bytes ≡ Err c.in-Err.field-0 = subst (λ r. Exactly r (reads bytes)) c.in-Err.is (c.in_ok-value-in-Bytes.ensures).answer in
    let slice : c.as_slice.result.now ≡ bytes = c.as_slice.ensures in
    let utf8 : is_utf8 bytes ≡ true = is_utf8-from_IsUtf8 bytes (subst IsUtf8 slice (c.in-Ok-from_utf8.ensures).cases.1) in
    ap (λ o. value_of reads (object_view o)) c.in-Bytes.is ∙ ap (λ r. data_or_text r bytes) read ∙ ap (λ t. text_if t bytes) utf8
    ∙ ap (λ z. Ok (text z)) (sym slice ∙ sym (c.in-Ok-from_utf8.ensures).cases.0 ∙ sym (c.in_ok-new-in-Ok-from_utf8.ensures))

pub returns-in-Err-from_utf8 : goal.returns-in-Err-from_utf8
returns-in-Err-from_utf8 c =
    let reads = data_of in
    let bytes = c.in-Bytes.bytes in
    let read : reads bytes ≡ Err c.in-Err.field-0 = subst (λ r. Exactly r (reads bytes)) c.in-Err.is (c.in_ok-value-in-Bytes.ensures).answer in
    let slice : c.as_slice.result.now ≡ bytes = c.as_slice.ensures in
    let utf8 : is_utf8 bytes ≡ false = not_utf8 bytes (λ u. (c.in-Err-from_utf8.ensures).cases.0 (subst IsUtf8 (sym slice) u)) in
    ap (λ o. value_of reads (object_view o)) c.in-Bytes.is ∙ ap (λ r. data_or_text r bytes) read ∙ ap (λ t. text_if t bytes) utf8
    ∙ ap Err (sym c.no_place.ensures)
