-- Bytes past hope.
use Rattle.std.proofs.Common.{refl, sym, subst, append_assoc, length-append, inl, inr, arith, leb-true, leb-false}
use Rattle.std.specs.Prelude.{◌≡◌, ◌<◌, leb, Bool, true, false, [], ◌++◌, length, codes}
use Rattle.std.specs.Str.{is_utf8, chars}
use lib.Utf8.{encode}
use Rattle.std.proofs.lemmas.Str.{IsUtf8-from_is_utf8}
use Rattle.std.proofs.lemmas.List.Elements.{All-nil}
use Rattle.std.proofs.lemmas.List.Sums.{AllPass-from_list_all}
use Rattle.httparse.specs.Grammar.{crlf, is_token_byte, is_uri_byte, IsField, RequestHead, IsRequestHead, print_request, HasNoRequest, NeverHasRequest}
use Rattle.httparse.proofs.GrammarLemmas.{ReadsRequest-append}
use Rattle.definitions.specs.Values.{Text}
use Rattle.http_definitions.specs.Heads.{line_feeds}
use Rattle.http_definitions.specs.Streams.{HasNoSmallHead, IsFull, IsHopeless}
use Rattle.http_laws.proofs.LineEnds.{head_has_bytes}
use Rattle.http_laws.proofs.HeadSizes.{feeds-append, feeds-before, in_first_part, take_whole}

-- ---- bytes past hope stay so
never_on : (rest more : Text) → NeverHasRequest rest → NeverHasRequest (rest ++ more)
never_on rest more never later = subst HasNoRequest (sym (append_assoc rest more later)) (never (more ++ later))

full_on : (rest more : Text) → IsFull rest → IsFull (rest ++ more)
full_on rest more full = elim full [
  | inl x ↦ inl (omega (arith, x, length-append rest more))
  | inr x ↦ inr (omega (arith, x, feeds-append rest more))
]

full_has_none_on : (rest more : Text) → HasNoSmallHead rest → IsFull rest → HasNoSmallHead (rest ++ more)
full_has_none_on rest more none full h later small = either (leb (length (print_request h)) (length rest)) refl
  where
    before : length rest < length (print_request h) → line_feeds rest < line_feeds (print_request h)
    before longer =
        subst (λ b. line_feeds b < line_feeds (print_request h)) (take_whole rest more) (feeds-before (rest ++ more) (length rest) h later small.0 longer)

    either : (t : Bool) → leb (length (print_request h)) (length rest) ≡ t → ⊥
    either true e = none h _ (in_first_part rest more h later small.0 (leb-true _ _ e), small.1)
    either false e =
        let longer : length rest < length (print_request h) = leb-false _ _ e in
        elim full [
          | inl x ↦ omega (arith, x, longer, small.1.0)
          | inr x ↦ omega (arith, x, before longer, small.1.1)
        ]

pub hopeless_on : (rest more : Text) → IsHopeless rest → IsHopeless (rest ++ more)
hopeless_on rest more hopeless = elim hopeless [
  | inl x ↦ inl (x.0, x.1 ++ more, (ReadsRequest-append rest x.0 x.1 more x.2.0, x.2.1), x.3)
  | inr x ↦ elim x.1 [
    | inl never ↦ inr (λ h later small. never more h later small.0, inl (never_on rest more never))
    | inr full ↦ inr (full_has_none_on rest more x.0 full, inr (full_on rest more full))
  ]
]

-- ---- no bytes may become a head
some_head : RequestHead
some_head = record { blank = []; method = codes "GET"; target = codes "/"; minor = 1; line_end = crlf; fields = []; last = crlf }

some_head_is : IsRequestHead some_head
unfolding some_head is_token_byte is_utf8 chars encode
some_head_is = record {
  method = (omega arith, AllPass-from_list_all is_token_byte (codes "GET") refl);
  target = (omega arith, AllPass-from_list_all is_uri_byte (codes "/") refl);
  target_text = IsUtf8-from_is_utf8 (codes "/") refl;
  minor = omega arith;
  fields = All-nil IsField;
}

pub hopeless_has_bytes : ¬ (IsHopeless [])
hopeless_has_bytes hopeless = elim hopeless [
  | inl x ↦ omega (arith, head_has_bytes [] x.0 x.1 x.2.0)
  | inr x ↦ elim x.1 [
    | inl never ↦ never (print_request some_head ++ []) some_head [] (some_head_is, refl)
    | inr full ↦ elim full [
      | inl y ↦ omega (arith, y)
      | inr y ↦ omega (arith, y)
    ]
  ]
]
