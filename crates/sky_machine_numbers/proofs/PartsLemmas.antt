-- The list of the parts of nodes, as it grows.
use Rattle.std.proofs.Common.{◌≡◌, ◌<◌, ◌≤◌, ℕ, zero, suc, ◌+◌, List, [], ◌∷◌, ◌++◌, ◌⊎◌, inl, inr, length, length-append, append-nil, append_assoc, slice_index, refl, sym, ap}
use Rattle.std.proofs.Common.{◌∙◌, subst, arith}
use Rattle.sky_machine_code.specs.Parts.{Chain, PartsAt}
use Rattle.sky_machine_numbers.specs.Listed.{Listed}

-- ---- the parts of one node

-- so far the list got these, and the next number is `at`
pub record Begun (ends old now : List ℕ) (c at e : ℕ) : Type 0 where
  pub numbers : List ℕ
  pub all : now ≡ old ++ numbers
  pub more : (zs : List ℕ) → Chain ends at e zs → Chain ends c e (numbers ++ zs)

pub begun_none : (ends old : List ℕ) (c e : ℕ) → Begun ends old old c c e
begun_none ends old c e = record { numbers = []; all = sym (append-nil old); more = λ zs h. h }

pub begun_next : (ends old now new : List ℕ) (c at next e : ℕ) → new ≡ now ++ at ∷ [] → at < e → next ≡ slice_index ends at
    → Begun ends old now c at e → Begun ends old new c next e
begun_next ends old now new c at next e is few to h =
    record {
      numbers = h.numbers ++ at ∷ [];
      all = is ∙ ap (λ xs. xs ++ at ∷ []) h.all ∙ append_assoc old h.numbers (at ∷ []);
      more = λ zs g. subst (λ xs. Chain ends c e xs) (sym (append_assoc h.numbers (at ∷ []) zs))
          (h.more (at ∷ zs) (refl, few, subst (λ m. Chain ends m e zs) to g));
    }

pub begun_all : (ends old now : List ℕ) (c at e : ℕ) → (at < e → slice_index ends at ≤ at) → Begun ends old now c at e → Listed ends old now c e
begun_all ends old now c at e stop h =
    record { numbers = h.numbers; all = h.all; chain = subst (λ xs. Chain ends c e xs) (append-nil h.numbers) (h.more [] stop) }

-- ---- the parts of all nodes

-- so many nodes have their parts in the list
pub record PartedTo (ends firsts parts : List ℕ) (n : ℕ) : Type 0 where
  pub many : length firsts ≡ n
  pub each : (k : ℕ) → k < n → PartsAt ends parts (slice_index firsts k) k

push_kept : (xs : List ℕ) (x k : ℕ) → k < length xs → slice_index (xs ++ x ∷ []) k ≡ slice_index xs k
push_kept [] x k h = absurd (omega (arith, h))
push_kept (y ∷ xs) x zero h = refl
push_kept (y ∷ xs) x (suc k) h = push_kept xs x k (omega (arith, h))

push_last : (xs : List ℕ) (x : ℕ) → slice_index (xs ++ x ∷ []) (length xs) ≡ x
push_last [] x = refl
push_last (y ∷ xs) x = push_last xs x

last_or : (k n : ℕ) → k < n + 1 → (k < n) ⊎ (k ≡ n)
last_or zero zero h = inr refl
last_or zero (suc n) h = inl (omega arith)
last_or (suc k) zero h = absurd (omega (arith, h))
last_or (suc k) (suc n) h = more (last_or k n (omega (arith, h)))
  where
    more : (k < n) ⊎ (k ≡ n) → (suc k < suc n) ⊎ (suc k ≡ suc n)
    more (inl g) = inl (omega (arith, g))
    more (inr e) = inr (ap suc e)

pub parted_none : (ends firsts parts : List ℕ) → firsts ≡ [] → PartedTo ends firsts parts 0
parted_none ends firsts parts e = record { many = ap length e; each = λ k h. absurd (omega (arith, h)) }

module _ (ends firsts parts firsts' parts' : List ℕ) (n : ℕ) (h : PartedTo ends firsts parts n) (is : firsts' ≡ firsts ++ length parts ∷ [])
    (got : Listed ends parts parts' (n + 1) (slice_index ends n)) where
  old_one : (k : ℕ) → k < n → PartsAt ends parts' (slice_index firsts' k) k
  old_one k l =
      let p = h.each k l in
      let s = p.stand in
      let place : slice_index firsts k ≡ slice_index firsts' k =
      sym (ap (λ xs. slice_index xs k) is ∙ push_kept firsts (length parts) k (omega (arith, l, h.many))) in
      record {
        numbers = p.numbers;
        stand = record {
          before = s.before;
          after = s.after ++ got.numbers;
          whole = got.all ∙ ap (λ xs. xs ++ got.numbers) s.whole ∙ append_assoc s.before (p.numbers ++ s.after) got.numbers
              ∙ ap (λ xs. s.before ++ xs) (append_assoc p.numbers s.after got.numbers);
          place = s.place ∙ place;
        };
        chain = p.chain;
      }

  new_one : (k : ℕ) → k ≡ n → PartsAt ends parts' (slice_index firsts' k) k
  new_one k e =
      let place : slice_index firsts' k ≡ length parts =
      ap (λ i. slice_index firsts' i) (e ∙ sym h.many) ∙ ap (λ xs. slice_index xs (length firsts)) is ∙ push_last firsts (length parts) in
      record {
        numbers = got.numbers;
        stand = record { before = parts; after = []; whole = got.all ∙ ap (λ xs. parts ++ xs) (sym (append-nil got.numbers)); place = sym place };
        chain = subst (λ i. Chain ends (i + 1) (slice_index ends i) got.numbers) (sym e) got.chain;
      }

  which : (k : ℕ) → (k < n) ⊎ (k ≡ n) → PartsAt ends parts' (slice_index firsts' k) k
  which k (inl l) = old_one k l
  which k (inr e) = new_one k e

  pub parted_next : PartedTo ends firsts' parts' (n + 1)
  parted_next =
      record {
        many = omega (arith, ap length is, length-append firsts (length parts ∷ []), h.many);
        each = λ k l. which k (last_or k n l);
      }
