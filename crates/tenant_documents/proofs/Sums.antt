-- The sizes of documents among which one is put.
use Rattle.std.proofs.Common.{◌≡◌, ℕ, ◌+◌, ◌-◌, ◌≤◌, ◌<◌, ◌^◌, List, [], ◌∷◌, length, Option, Some, None, SomeIff, refl, sym, ap, ◌∙◌, arith}
use Rattle.std.proofs.lemmas.List.Sums.{sum_by-cons}
use Rattle.definitions.specs.Documents.{document_of, others_of, documents_with, bytes_of}
use Rattle.definitions.specs.Lists.{option_list}
use Rattle.definitions.specs.Schemas.{Document}
use Rattle.definitions.specs.Texts.{text}
use Rattle.definitions.specs.Values.{Text}
use Rattle.definition_laws.specs.Quotas.{IsAdded, IsTakenOff}
use Rattle.tenant_documents.specs.Puts.{IsSum}

abbrev pub size : Document → ℕ
size d = length (text d.value)

one_size : (d : Document) → bytes_of (d ∷ []) ≡ size d
one_size d = omega (arith, sum_by-cons (λ (e : Document). length (text e.value)) d [])

-- ---- one more
less : (a b c d e : ℕ) → a + 0 ≡ b + c → c ≡ d → a ≡ b + d
less a b c d e p q = omega (arith, p, q)

no_more : (a b : ℕ) → a + 0 ≡ b → a ≡ b
no_more a b p = omega (arith, p)

pub count_after_new : (ds : List Document) (d : Document) → IsAdded ds d → document_of ds d.canonical ≡ None → length (documents_with d ds) ≡ length ds + 1
count_after_new ds d more new = no_more _ _ (sym (ap (λ o. length (documents_with d ds) + length (option_list o)) new) ∙ more.documents)

pub bytes_after_new : (ds : List Document) (d : Document) → IsAdded ds d → document_of ds d.canonical ≡ None → bytes_of (documents_with d ds) ≡ bytes_of ds + size d
bytes_after_new ds d more new =
    no_more _ _ (sym (ap (λ o. bytes_of (documents_with d ds) + bytes_of (option_list o)) new) ∙ more.bytes) ∙ ap (λ n. bytes_of ds + n) (one_size d)

-- ---- in place of one
cancel : (a b : ℕ) → a + 1 ≡ b + 1 → a ≡ b
cancel a b p = omega (arith, p)

pub count_after_old : (ds : List Document) (d old : Document) → IsAdded ds d → document_of ds d.canonical ≡ Some old → length (documents_with d ds) ≡ length ds
count_after_old ds d old more there = cancel _ _ (sym (ap (λ o. length (documents_with d ds) + length (option_list o)) there) ∙ more.documents)

moved : (after before rest own old : ℕ) → after + old ≡ before + own → rest + old ≡ before → after ≡ (before - old) + own
moved after before rest own old p q = omega (arith, p, q)

within : (before rest old : ℕ) → rest + old ≡ before → old ≤ before
within before rest old q = omega (arith, q)

old_bytes : (ds : List Document) (uri : Text) (old : Document) → IsTakenOff ds uri → document_of ds uri ≡ Some old → bytes_of (others_of uri ds) + size old ≡ bytes_of ds
old_bytes ds uri old less there =
    ap (λ n. bytes_of (others_of uri ds) + n) (sym (one_size old)) ∙ sym (ap (λ o. bytes_of (others_of uri ds) + bytes_of (option_list o)) there) ∙ less.bytes

pub bytes_of_old : (ds : List Document) (uri : Text) (old : Document) → IsTakenOff ds uri → document_of ds uri ≡ Some old → size old ≤ bytes_of ds
bytes_of_old ds uri old less there = within (bytes_of ds) (bytes_of (others_of uri ds)) (size old) (old_bytes ds uri old less there)

pub bytes_after_old : (ds : List Document) (d old : Document) → IsAdded ds d → IsTakenOff ds d.canonical → document_of ds d.canonical ≡ Some old
    → bytes_of (documents_with d ds) ≡ (bytes_of ds - size old) + size d
bytes_after_old ds d old more less there =
    moved (bytes_of (documents_with d ds)) (bytes_of ds) (bytes_of (others_of d.canonical ds)) (size d) (size old)
    (ap (λ n. bytes_of (documents_with d ds) + n) (sym (one_size old)) ∙ sym (ap (λ o. bytes_of (documents_with d ds) + bytes_of (option_list o)) there) ∙ more.bytes
    ∙ ap (λ n. bytes_of ds + n) (one_size d))
    (old_bytes ds d.canonical old less there)

-- ---- a sum of 64 bits
pub as_sum : (o : Option ℕ) (a b sum : ℕ) → SomeIff o (a + b < 2 ^ 64) (a + b) → sum ≡ a + b → IsSum o sum
as_sum None a b sum over e = at_least (a + b) sum over e
  where
    at_least : (n s : ℕ) → (n < 2 ^ 64 → ⊥) → s ≡ n → 2 ^ 64 ≤ s
    at_least n s h k = omega (arith, h, k)
as_sum (Some n) a b sum fits e = e ∙ sym fits.1

-- the same of the code's numbers
pub same_sum : (a b c x y z : ℕ) → x ≡ a → y ≡ b → z ≡ c → (a - b) + c ≡ (x - y) + z
same_sum a b c x y z e f g = rw (e, f, g) refl

pub same_pair : (a c x z : ℕ) → x ≡ a → z ≡ c → a + c ≡ x + z
same_pair a c x z e g = rw (e, g) refl
