-- How many bytes documents have of which one is put or taken out.
use Rattle.std.proofs.Common.{◌≡◌, ℕ, ◌+◌, ◌-◌, ◌^◌, ◌<◌, ◌≤◌, Fits, w64, List, [], ◌∷◌, length, Some, None, sym, ap, ◌∙◌, arith}
use Rattle.std.proofs.lemmas.List.Sums.{sum_by-cons}
use Rattle.definitions.specs.Documents.{bytes_of, document_of, others_of, documents_with, Ascend}
use Rattle.definitions.specs.Lists.{option_list}
use Rattle.definitions.specs.Schemas.{Document}
use Rattle.definitions.specs.Texts.{text}
use Rattle.definitions.specs.Values.{Text}
use Rattle.definition_laws.proofs.QuotaSums.{added, taken_off}

one : (old : Document) → bytes_of (old ∷ []) ≡ length (text old.value) + 0
one old = sum_by-cons (λ (e : Document). length (text e.value)) old []

-- ---- of numbers alone
instead : (after part before own old : ℕ) → after + part ≡ before + own → part ≡ old + 0 → after + old ≡ before + own
instead after part before own old e f = omega (arith, e, f)

more : (after before own : ℕ) → after + 0 ≡ before + own → after ≡ before + own
more after before own e = omega (arith, e)

without : (after part before old : ℕ) → after + part ≡ before → part ≡ old + 0 → after + old ≡ before
without after part before old e f = omega (arith, e, f)

-- as the code has them
pub is_within : (part old all size bytes : ℕ) → part + old ≡ all → size ≡ old → bytes ≡ all → size ≤ bytes
is_within part old all size bytes e f g = omega (arith, e, f, g)

pub is_left : (part old all size bytes : ℕ) → part + old ≡ all → size ≡ old → bytes ≡ all → bytes - size ≡ part
is_left part old all size bytes e f g = omega (arith, e, f, g)

pub is_instead : (after old all own size new bytes : ℕ) → after + old ≡ all + own → size ≡ old → new ≡ own → bytes ≡ all → size ≤ bytes → bytes - size + new ≡ after
is_instead after old all own size new bytes e f g h le = omega (arith, e, f, g, h, le)

pub is_more : (after all own new bytes : ℕ) → after ≡ all + own → new ≡ own → bytes ≡ all → bytes + new ≡ after
is_more after all own new bytes e g h = omega (arith, e, g, h)

pub fits_as : (n m : ℕ) → n ≡ m → m < 2 ^ 64 → Fits w64 n
fits_as n m e l = omega (arith, e, l)

-- ---- of documents
pub bytes_instead : (d old : Document) (ds : List Document) → Ascend ds → document_of ds d.canonical ≡ Some old
    → bytes_of (documents_with d ds) + length (text old.value) ≡ bytes_of ds + length (text d.value)
bytes_instead d old ds ascend e =
    instead (bytes_of (documents_with d ds)) (bytes_of (old ∷ [])) (bytes_of ds) (length (text d.value)) (length (text old.value))
    (ap (λ o. bytes_of (documents_with d ds) + bytes_of (option_list o)) (sym e) ∙ added (λ (x : Document). length (text x.value)) d ds ascend) (one old)

pub bytes_more : (d : Document) (ds : List Document) → Ascend ds → document_of ds d.canonical ≡ None → bytes_of (documents_with d ds) ≡ bytes_of ds + length (text d.value)
bytes_more d ds ascend e =
    more (bytes_of (documents_with d ds)) (bytes_of ds) (length (text d.value))
    (ap (λ o. bytes_of (documents_with d ds) + bytes_of (option_list o)) (sym e) ∙ added (λ (x : Document). length (text x.value)) d ds ascend)

pub bytes_without : (uri : Text) (old : Document) (ds : List Document) → Ascend ds → document_of ds uri ≡ Some old → bytes_of (others_of uri ds) + length (text old.value) ≡ bytes_of ds
bytes_without uri old ds ascend e =
    without (bytes_of (others_of uri ds)) (bytes_of (old ∷ [])) (bytes_of ds) (length (text old.value))
    (ap (λ o. bytes_of (others_of uri ds) + bytes_of (option_list o)) (sym e) ∙ taken_off (λ (x : Document). length (text x.value)) uri ds ascend) (one old)

pub bytes_left : (uri : Text) (ds : List Document) → Ascend ds → document_of ds uri ≡ None → bytes_of (others_of uri ds) ≡ bytes_of ds
bytes_left uri ds ascend e =
    all_left (bytes_of (others_of uri ds)) (bytes_of ds)
    (ap (λ o. bytes_of (others_of uri ds) + bytes_of (option_list o)) (sym e) ∙ taken_off (λ (x : Document). length (text x.value)) uri ds ascend)
  where
    all_left : (part all : ℕ) → part + 0 ≡ all → part ≡ all
    all_left part all h = omega (arith, h)

-- ---- the sum that is kept
pub sum_instead : (d old : Document) (ds : List Document) (size new bytes : ℕ) → Ascend ds → document_of ds d.canonical ≡ Some old → size ≡ length (text old.value)
    → new ≡ length (text d.value) → bytes ≡ bytes_of ds → (size ≤ bytes) × (bytes - size + new ≡ bytes_of (documents_with d ds))
sum_instead d old ds size new bytes ascend found e f g =
    let le = is_within (bytes_of (others_of d.canonical ds)) (length (text old.value)) (bytes_of ds) size bytes (bytes_without d.canonical old ds ascend found) e g in
    (le, is_instead (bytes_of (documents_with d ds)) (length (text old.value)) (bytes_of ds) (length (text d.value)) size new bytes (bytes_instead d old ds ascend found) e f g le)

pub sum_more : (d : Document) (ds : List Document) (new bytes : ℕ) → Ascend ds → document_of ds d.canonical ≡ None → new ≡ length (text d.value) → bytes ≡ bytes_of ds
    → bytes + new ≡ bytes_of (documents_with d ds)
sum_more d ds new bytes ascend none f g = is_more (bytes_of (documents_with d ds)) (bytes_of ds) (length (text d.value)) new bytes (bytes_more d ds ascend none) f g
