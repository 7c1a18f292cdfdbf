-- Records that stand one behind the other, and what nobody has.
use Rattle.std.proofs.Common.{◌≡◌, ◌<◌, ◌≤◌, ◌+◌, ◌-◌, ℕ, zero, suc, List, [], ◌∷◌, ◌++◌, length, Bool, true, false, Option, Some, refl, ap, sym}
use Rattle.std.proofs.Common.{◌∙◌, subst, arith}
use Rattle.std.specs.BTreeMap.{BTreeMap, IsEmpty}
use Rattle.sky_base.specs.Tree.{Script}
use Rattle.sky_base.specs.Val.{same_text}
use Rattle.sky_base.specs.declared.object.Object.{Object}
use Rattle.sky_base.proofs.Exact.{exact_text, self_text}
use Rattle.ciel_journal.specs.Job.{Digest}
use Rattle.ciel_log_file.specs.Refused.{IsRefused, RefusedAfter}
use Rattle.ciel_log_file.specs.Replays.{At, HasReplayed, ReplaysRecords, ReplaysTo, TakesBehind, over, takes}
use Rattle.ciel_log_file.specs.Sending.{CanSend, Placed, nobody, sent_to}
use Rattle.ciel_log_file.specs.declared.refusal.LogRefusal.{LogRefusal}
use Rattle.ciel_log_file.specs.Whole.{BeginsAt, BeginsOther, RecordsTo}
use Rattle.ciel_log_read.specs.File.{NoRecordAt, RecordAt}
use Rattle.ciel_log_read.proofs.Files.{one_at, record_not, record_within}
use Rattle.ciel_master.specs.declared.stop.RunEnd.{RunEnd}
use Rattle.ciel_master_board.specs.Board.{Board}
use Rattle.ciel_store.specs.Seen.{ShelvesSeen}
use Rattle.ciel_task_crew.specs.Crews.{order_at}
use Rattle.ciel_task_order.specs.Views.{P}
use Rattle.ciel_task_order.specs.declared.order.Order.{Order}

pub records_more : (log : List ℕ) (at : ℕ) (xs : List (List ℕ)) (x : List ℕ) (here next : ℕ) → RecordsTo log at xs here → RecordAt log here x next
    → RecordsTo log at (xs ++ x ∷ []) next
records_more log at [] x here next e r = (next, subst (λ n. RecordAt log n x next) (sym e) r, refl)
records_more log at (y ∷ ys) x here next k r = (k.0, k.1, records_more log k.0 ys x here next k.2 r)

-- they end no earlier than they begin
pub records_on : (log : List ℕ) (at : ℕ) (xs : List (List ℕ)) (to : ℕ) → RecordsTo log at xs to → at ≤ to
records_on log at [] to e = omega (arith, e)
records_on log at (x ∷ xs) to k =
    let l = records_on log k.0 xs to k.2 in
    let b = k.1.behind in
    omega (arith, l, b)

-- behind the first record is no place 0
pub not_first : (log header : List ℕ) (behind : ℕ) (xs : List (List ℕ)) (to : ℕ) → RecordAt log 0 header behind → RecordsTo log behind xs to → to ≡ 0 → ⊥
not_first log header behind xs to r k e =
    let l = records_on log behind xs to k in
    let b = r.behind in
    omega (arith, l, b, e)

-- the first record is no other one where it is the header, or where there is none
pub is_header : (log header first : List ℕ) (next : ℕ) → RecordAt log 0 first next → first ≡ header → BeginsOther log header → ⊥
is_header log header first next r same o = o.3 ((one_at log 0 o.0 o.1 first next o.2 r).0 ∙ same)

pub is_cut : (log header : List ℕ) → NoRecordAt log 0 → BeginsOther log header → ⊥
is_cut log header none o = record_not log 0 o.0 o.1 o.2 none

-- behind the header and these
pub is_behind : (digest : List ℕ → List ℕ) (sc : Script) (shelves : ShelvesSeen) (log header : List ℕ) (at : ℕ) (b : Board P)
    (out : List (Option Order)) → IsRefused digest sc shelves log header at b out → BeginsAt log header at
is_behind digest sc shelves log header at b out r = (r.records, r.stand, r.bytes, r.next, r.here)

-- one place is told
pub one_bad : (here at : ℕ) (e : LogRefusal) → e ≡ LogRefusal.BadLog here → e ≡ LogRefusal.BadLog at → here ≡ at
one_bad here at e p q =
    let same : LogRefusal.BadLog here ≡ LogRefusal.BadLog at = sym p ∙ q in cc

-- ---- two texts

pub is_same : (a b : List ℕ) (t : Bool) → t ≡ same_text a b → t ≡ true → a ≡ b
is_same a b t e q = exact_text a b (sym e ∙ q)

pub is_other : (a b : List ℕ) (t : Bool) → t ≡ same_text a b → t ≡ false → a ≡ b → ⊥
is_other a b t e f q =
    let self : same_text a b ≡ true = subst (λ c. same_text a c ≡ true) q (self_text a) in
    let bad : true ≡ false = sym self ∙ (sym e ∙ f) in cc

-- each takes the rest of the file on
pub place_smaller : (log : List ℕ) (at next : ℕ) (x : List ℕ) → RecordAt log at x next → length log - next < length log - at
place_smaller log at next x r =
    let w = record_within log at x next r in
    let b = r.behind in
    omega (arith, w, b)

-- nobody has an order
pub nobody_at : (n w : ℕ) (x : Order) → order_at (nobody n) w ≡ Some x → ⊥
nobody_at zero w x e = cc
nobody_at (suc n) zero x e = cc
nobody_at (suc n) (suc w) x e = nobody_at n w x e

pub nobody_long : (n : ℕ) → length (nobody n) ≡ n
nobody_long zero = refl
nobody_long (suc n) = ap suc (nobody_long n)

pub nobody_placed : (n : ℕ) → Placed (nobody n)
nobody_placed n = record { own = λ w x e. absurd (nobody_at n w x e); apart = λ w u x y e f q. absurd (nobody_at n w x e) }

-- what was taken out of a list of so many workers is sent to nobody
pub sent_back : (n : ℕ) (before after : List (Option Order)) (xs : List Order) → before ≡ nobody n → length after ≡ length before
    → sent_to (nobody (length after)) xs ≡ after → sent_to (nobody n) xs ≡ after
sent_back n before after xs is long sent = subst (λ k. sent_to (nobody k) xs ≡ after) (long ∙ ap length is ∙ nobody_long n) sent

pub free_back : (n : ℕ) (before after : List (Option Order)) (xs : List Order) → before ≡ nobody n → length after ≡ length before
    → CanSend (nobody (length after)) xs → CanSend (nobody n) xs
free_back n before after xs is long free = subst (λ k. CanSend (nobody k) xs) (long ∙ ap length is ∙ nobody_long n) free

-- ---- one record more

pub replays_more : (digest : List ℕ → List ℕ) (shelves : ShelvesSeen) (sc : Script) (a b c : At) (xs : List (List ℕ)) (x : List ℕ)
    → ReplaysRecords digest shelves sc a xs b → TakesBehind digest shelves sc b x c → ReplaysRecords digest shelves sc a (xs ++ x ∷ []) c
replays_more digest shelves sc a b c [] x over t = takes t over
replays_more digest shelves sc a b c (y ∷ ys) x (takes u more) t = takes u (replays_more digest shelves sc _ b c ys x more t)

-- ---- all of them

pub replayed_is : (digest : List ℕ → List ℕ) (shelves : ShelvesSeen) (sc same : Script) (log header : List ℕ) (behind whole : ℕ) (end : Option RunEnd)
    (b : Board P) (out first : List (Option Order)) (c : Board P) (then last : List (Option Order)) (kept keeps : BTreeMap Digest Object)
    (records : List (List ℕ)) → sc ≡ same → out ≡ first → then ≡ last → IsEmpty kept → RecordAt log 0 header behind
    → RecordsTo log behind records whole
    → ReplaysTo digest shelves sc (record { board = b; out = out; kept = kept }) records end (record { board = c; out = then; kept = keeps })
    → HasReplayed digest shelves same log header whole end b first c last
replayed_is digest shelves sc same log header behind whole end b out first c then last kept keeps records is begins ends none here stand replays =
    record {
      records = records;
      stand = (behind, here, stand);
      first = kept;
      empty = none;
      last = keeps;
      replays = subst (λ z. ReplaysTo digest shelves z (record { board = b; out = first; kept = kept }) records end
          (record { board = c; out = last; kept = keeps })) is
          (subst (λ z. ReplaysTo digest shelves sc (record { board = b; out = z; kept = kept }) records end
          (record { board = c; out = last; kept = keeps })) begins
          (subst (λ z. ReplaysTo digest shelves sc (record { board = b; out = out; kept = kept }) records end
          (record { board = c; out = z; kept = keeps })) ends replays));
    }

-- ---- one that is refused

pub refused_is : (digest : List ℕ → List ℕ) (shelves : ShelvesSeen) (sc same : Script) (log header : List ℕ) (behind at : ℕ) (b : Board P)
    (out first : List (Option Order)) (kept : BTreeMap Digest Object) → sc ≡ same → out ≡ first → IsEmpty kept → RecordAt log 0 header behind
    → ((records : List (List ℕ)) × RecordsTo log behind records at × (bytes : List ℕ) × (next : ℕ) × RecordAt log at bytes next
    × RefusedAfter digest sc shelves (record { board = b; out = out; kept = kept }) records bytes)
    → IsRefused digest same shelves log header at b first
refused_is digest shelves sc same log header behind at b out first kept is begins none here x =
    record {
      records = x.0;
      stand = (behind, here, x.1);
      bytes = x.2;
      next = x.3;
      here = x.4;
      first = kept;
      empty = none;
      cause = subst (λ z. RefusedAfter digest z shelves (record { board = b; out = first; kept = kept }) x.0 x.2) is
          (subst (λ z. RefusedAfter digest sc shelves (record { board = b; out = z; kept = kept }) x.0 x.2) begins x.5);
    }
