-- How many documents there are, and of how many bytes, where several are put together.
use Rattle.std.proofs.Common.{◌≡◌, ℕ, ◌+◌, ◌-◌, ◌≤◌, Bool, true, false, not, cond, List, [], ◌∷◌, length, sum_by, filter, find, Contains, Some, refl, sym, ap, ap₂, ◌∙◌, subst, true≢false, arith}
use Rattle.std.proofs.lemmas.Bool.{or_parts}
use Rattle.std.proofs.lemmas.List.Sums.{sum_by-append, sum_by-cons}
use Rattle.std.specs.List.{list_any}
use Rattle.definitions.specs.Documents.{bytes_of, canonicals, document_of, documents_with, documents_with_all, Ascend}
use Rattle.definitions.specs.Lists.{has_repeat, option_list}
use Rattle.definitions.specs.Schemas.{Document}
use Rattle.definitions.specs.Texts.{text}
use Rattle.definitions.specs.Values.{Text, same_text}
use Rattle.lemmas.proofs.Texts.{same_text_is}
use Rattle.definition_laws.proofs.JoinedDocuments.{ascend_outside, ascend_placed, first_apart, none_outside, outside, outside_rest}
use Rattle.definition_laws.proofs.Membership.{is_first, is_later}
use Rattle.definition_laws.proofs.QuotaSums.{added, counted, taken_off}
use Rattle.definition_laws.proofs.Resources.{same_text-unlike}
use Rattle.tenant_documents.specs.HeldBeside.{replaced_by}

-- ---- the document with a canonical URI, where others are left out
found_in_part : {X : Type 0} (p q : X → Bool) (xs : List X) → ((x : X) → p x ≡ true → q x ≡ true) → find p (filter q xs) ≡ find p xs
found_in_part p q [] h = refl
found_in_part {X} p q (x ∷ xs) h = at (p x) (q x) refl refl (found_in_part p q xs h)
  where
    at : (b c : Bool) → p x ≡ b → q x ≡ c → find p (filter q xs) ≡ find p xs → find p (cond c (x ∷ filter q xs) (filter q xs)) ≡ cond b (Some x) (find p xs)
    at true true e f rest = ap (λ z. cond z (Some x) (find p (filter q xs))) e
    at true false e f rest = absurd (true≢false (sym (h x e) ∙ f))
    at false true e f rest = ap (λ z. cond z (Some x) (find p (filter q xs))) e ∙ rest
    at false false e f rest = rest

found_beside : (es ds : List Document) (uri : Text) → ((e : Document) → Contains es e → same_text e.canonical uri ≡ false) → document_of (outside es ds) uri ≡ document_of ds uri
found_beside [] ds uri apart = refl
found_beside (e ∷ es) ds uri apart =
    found_in_part (λ (d : Document). same_text uri d.canonical) (λ (d : Document). not (same_text e.canonical d.canonical)) (outside es ds)
    (λ d same. ap not (subst (λ t. same_text e.canonical t ≡ false) (same_text_is uri d.canonical same) (apart e (is_first e es))))
    ∙ found_beside es ds uri (λ x c. apart x (is_later e x es c))

-- ---- of numbers alone
nothing_put : (n m : ℕ) → m ≡ 0 → n ≡ m + n
nothing_put n m e = omega (arith, e)

nothing_left_out : (n m : ℕ) → m ≡ 0 → n + m ≡ n
nothing_left_out n m e = omega (arith, e)

one_more_put : (all later part gone out own whole : ℕ) → all ≡ later + part → part + gone ≡ out + own → gone ≡ 0 → whole ≡ own + later → all ≡ whole + out
one_more_put all later part gone out own whole e f g h = omega (arith, e, f, g, h)

one_more_gone : (left at also out whole rest all : ℕ) → left + at ≡ out → at ≡ also → whole ≡ also + rest → out + rest ≡ all → left + whole ≡ all
one_more_gone left at also out whole rest all e f g h = omega (arith, e, f, g, h)

-- ---- any measure
module _ (f : Document → ℕ) where
  sum_put : (es ds : List Document) → Ascend ds → has_repeat same_text (canonicals es) ≡ false → sum_by f (documents_with_all es ds) ≡ sum_by f es + sum_by f (outside es ds)
  sum_put [] ds ascend once = nothing_put (sum_by f ds) (sum_by f []) refl
  sum_put (e ∷ es) ds ascend once =
      let apart = or_parts (list_any (same_text e.canonical) (canonicals es)) (has_repeat same_text (canonicals es)) once in
      let out = outside (e ∷ es) ds in
      one_more_put (sum_by f (documents_with_all es (documents_with e ds))) (sum_by f es) (sum_by f (documents_with e out)) (sum_by f (option_list (document_of out e.canonical))) (sum_by f out) (f e)
      (sum_by f (e ∷ es))
      (sum_put es (documents_with e ds) (ascend_placed e ds ascend) apart.1 ∙ ap (λ xs. sum_by f es + sum_by f xs) (outside_rest e es ds apart.0 ascend))
      (added f e out (ascend_outside (e ∷ es) ds ascend))
      (ap (λ o. sum_by f (option_list o)) (none_outside e.canonical (outside es ds)))
      (sum_by-cons f e es)

  sum_gone : (es ds : List Document) → Ascend ds → has_repeat same_text (canonicals es) ≡ false → sum_by f (outside es ds) + sum_by f (replaced_by es ds) ≡ sum_by f ds
  sum_gone [] ds ascend once = nothing_left_out (sum_by f ds) (sum_by f []) refl
  sum_gone (e ∷ es) ds ascend once =
      let apart = or_parts (list_any (same_text e.canonical) (canonicals es)) (has_repeat same_text (canonicals es)) once in
      let out = outside es ds in
      one_more_gone (sum_by f (outside (e ∷ es) ds)) (sum_by f (option_list (document_of out e.canonical))) (sum_by f (option_list (document_of ds e.canonical))) (sum_by f out)
      (sum_by f (replaced_by (e ∷ es) ds)) (sum_by f (replaced_by es ds)) (sum_by f ds)
      (taken_off f e.canonical out (ascend_outside es ds ascend))
      (ap (λ o. sum_by f (option_list o)) (found_beside es ds e.canonical (λ x c. same_text-unlike e.canonical x.canonical (first_apart e es apart.0 x c))))
      (sum_by-append f (option_list (document_of ds e.canonical)) (replaced_by es ds))
      (sum_gone es ds ascend apart.1)

-- ---- their number
within : (out gone there : ℕ) → out + gone ≡ there → gone ≤ there
within out gone there e = omega (arith, e)

left_and_put : (after own out gone there : ℕ) → after ≡ own + out → out + gone ≡ there → after ≡ (there - gone) + own
left_and_put after own out gone there e f = omega (arith, e, f)

no_less : (after own out : ℕ) → after ≡ own + out → own ≤ after
no_less after own out e = omega (arith, e)

module _ (es ds : List Document) (ascend : Ascend ds) (once : has_repeat same_text (canonicals es) ≡ false) where
  number_put : length (documents_with_all es ds) ≡ length es + length (outside es ds)
  number_put =
      sym (counted (documents_with_all es ds)) ∙ sum_put (λ (d : Document). 1) es ds ascend once
      ∙ ap₂ (λ n m. n + m) (counted es) (counted (outside es ds))

  number_gone : length (outside es ds) + length (replaced_by es ds) ≡ length ds
  number_gone =
      ap₂ (λ n m. n + m) (sym (counted (outside es ds))) (sym (counted (replaced_by es ds)))
      ∙ sum_gone (λ (d : Document). 1) es ds ascend once ∙ counted ds

  pub few_replaced : length (replaced_by es ds) ≤ length ds
  few_replaced = within (length (outside es ds)) (length (replaced_by es ds)) (length ds) number_gone

  pub number_after : length (documents_with_all es ds) ≡ (length ds - length (replaced_by es ds)) + length es
  number_after = left_and_put (length (documents_with_all es ds)) (length es) (length (outside es ds)) (length (replaced_by es ds)) (length ds) number_put number_gone

  bytes_put : bytes_of (documents_with_all es ds) ≡ bytes_of es + bytes_of (outside es ds)
  bytes_put = sum_put (λ (d : Document). length (text d.value)) es ds ascend once

  bytes_gone : bytes_of (outside es ds) + bytes_of (replaced_by es ds) ≡ bytes_of ds
  bytes_gone = sum_gone (λ (d : Document). length (text d.value)) es ds ascend once

  pub small_replaced : bytes_of (replaced_by es ds) ≤ bytes_of ds
  small_replaced = within (bytes_of (outside es ds)) (bytes_of (replaced_by es ds)) (bytes_of ds) bytes_gone

  pub bytes_after : bytes_of (documents_with_all es ds) ≡ (bytes_of ds - bytes_of (replaced_by es ds)) + bytes_of es
  bytes_after = left_and_put (bytes_of (documents_with_all es ds)) (bytes_of es) (bytes_of (outside es ds)) (bytes_of (replaced_by es ds)) (bytes_of ds) bytes_put bytes_gone

  pub own_bytes : bytes_of es ≤ bytes_of (documents_with_all es ds)
  own_bytes = no_less (bytes_of (documents_with_all es ds)) (bytes_of es) (bytes_of (outside es ds)) bytes_put
