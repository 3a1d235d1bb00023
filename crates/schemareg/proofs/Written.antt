-- What is written, and what is lost.
use Rattle.std.proofs.Common.{◌≡◌, ◌∙◌, ℕ, ◌+◌, List, [], ◌∷◌, ◌++◌, Option, Some, None, take, drop, sym, ap, append_assoc, append-nil, take-add}
use Rattle.definitions.specs.Values.{Text}
use Rattle.network.specs.declared.transcript.Transcript.{Transcript}
use Rattle.network.specs.Transcripts.{transfers_of}
use Rattle.serving.specs.Transfers.{Transfer, transferred_bytes}
use Rattle.serving.proofs.Written.{took_nothing, took_some}
use Rattle.schemareg.specs.Outputs.{bytes_in, lost_text}

-- one more transfer of the transcript
pub one_more : (t u : Transcript) (bytes : Text) → transfers_of u ≡ transfers_of t ++ (Some bytes ∷ []) → bytes_in u ≡ bytes_in t ++ bytes
one_more t u bytes e = ap transferred_bytes e ∙ took_some (transfers_of t) bytes

-- more is lost
pub more_lost : (written : Text) (lost : Option Transcript) (t u : Transcript) (bytes text : Text) → lost ≡ Some t → transfers_of u ≡ transfers_of t ++ (Some bytes ∷ []) → bytes ≡ text
    → written ++ bytes_in u ≡ (written ++ lost_text lost) ++ text
more_lost written lost t u bytes text is e v =
    ap (λ x. written ++ x) (one_more t u bytes e ∙ ap (λ b. bytes_in t ++ b) v) ∙ sym (append_assoc written (bytes_in t) text)
    ∙ ap (λ o. (written ++ lost_text o) ++ text) (sym is)

-- ---- a part of some bytes
-- this was put behind what was written before
pub record Puts (before : List Transfer) (part : Text) (after : List Transfer) : Type 0 where
  pub are : transferred_bytes after ≡ transferred_bytes before ++ part

-- one write more
pub part_more : (before middle after : List Transfer) (bytes : Text) (start n : ℕ) → Puts before (take start bytes) middle
    → after ≡ middle ++ (Some (take n (drop start bytes)) ∷ []) → Puts before (take (start + n) bytes) after
part_more before middle after bytes start n x e = record {
  are = ap transferred_bytes e ∙ took_some middle (take n (drop start bytes)) ∙ ap (λ t. t ++ take n (drop start bytes)) x.are
      ∙ append_assoc (transferred_bytes before) (take start bytes) (take n (drop start bytes))
      ∙ ap (λ t. transferred_bytes before ++ t) (sym (take-add start n bytes));
}

-- one that failed
pub part_same : (before middle after : List Transfer) (part : Text) → Puts before part middle → after ≡ middle ++ (None ∷ [])
    → transferred_bytes after ≡ transferred_bytes before ++ part
part_same before middle after part x e = ap transferred_bytes e ∙ took_nothing middle ∙ x.are

-- or took nothing
pub part_zero : (before middle after : List Transfer) (part rest : Text) (n : ℕ) → n ≡ 0 → Puts before part middle → after ≡ middle ++ (Some (take n rest) ∷ [])
    → transferred_bytes after ≡ transferred_bytes before ++ part
part_zero before middle after part rest n zero x e =
    ap transferred_bytes e ∙ took_some middle (take n rest) ∙ ap (λ k. transferred_bytes middle ++ take k rest) zero ∙ append-nil (transferred_bytes middle) ∙ x.are
