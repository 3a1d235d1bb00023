-- A head that is a whole window.
use Rattle.std.proofs.Common.{ap, ◌∙◌, append-nil, subst, arith}
use Rattle.std.specs.Prelude.{◌≡◌, ◌≤◌, ◌<◌, ◌+◌, ℕ, List, ◌++◌, length, take, drop, Option, Some, None, IfSome}
use Rattle.std.proofs.Math.Seq.{drop-length}
use Rattle.std.proofs.lemmas.List.{take-append-drop, length-take-le}
use Rattle.httparse.specs.Grammar.{RequestHead, ReadsRequest, print_request}
use Rattle.httparse.specs.Spans.{IsRequestAt, IsRequestWithin}
use Rattle.httparse.specs.declared.spans.HeaderSpan.{HeaderSpan}
use Rattle.httparse.specs.declared.spans.RequestSpans.{RequestSpans}
use Rattle.httparse.proofs.GrammarLemmas.{ReadsRequest-append}
use Rattle.definitions.specs.Values.{Text}
use Rattle.request_heads.specs.Fronts.{IsFrontOf}
use Rattle.request_heads.specs.declared.fronts.Front.{Front}
use Rattle.request_heads.specs.Searches.{EndsPast, HeadsEndIn}

pub window_is : (window : Text) (headers : List HeaderSpan) (r : RequestSpans) (h : RequestHead) → IsRequestAt window headers r h → r.len ≡ length window
    → window ≡ print_request h
window_is window headers r h at whole =
    at.reads.1 ∙ ap (λ n. print_request h ++ drop n window) whole ∙ ap (λ t. print_request h ++ t) (drop-length window) ∙ append-nil (print_request h)

-- where no head ends earlier, one in the window ends at its end
pub ends_window : (bytes : Text) (at : ℕ) → at < length bytes → EndsPast at bytes → (h : RequestHead) (rest : Text) → ReadsRequest (take (at + 1) bytes) h rest
    → length (take (at + 1) bytes) ≤ length (print_request h)
ends_window bytes at inside past h rest reads =
    let longer = ReadsRequest-append (take (at + 1) bytes) h rest (drop (at + 1) bytes) reads in
    let whole : ReadsRequest bytes h (rest ++ drop (at + 1) bytes) =
    subst (λ b. ReadsRequest b h (rest ++ drop (at + 1) bytes)) (take-append-drop (at + 1) bytes) longer in
    omega (arith, past h (rest ++ drop (at + 1) bytes) whole, length-take-le (at + 1) bytes (omega arith))

pub head_is_window : (window : Text) (headers : List HeaderSpan) (r : RequestSpans) (h : RequestHead) → IsRequestAt window headers r h
    → IsRequestWithin window headers r → HeadsEndIn window → r.len ≡ length window
head_is_window window headers r h at within ends = omega (arith, ends h (drop r.len window) at.reads, at.len, within.section.len_fits)

-- what a window tells whatever follows it holds of the whole
pub fronts_whole : (bytes : Text) (n : ℕ) (o : Option Front) → IfSome o (λ front. (more : Text) → IsFrontOf (take n bytes ++ more) front)
    → IfSome o (IsFrontOf bytes)
fronts_whole bytes n None all = all
fronts_whole bytes n (Some front) all = subst (λ b. IsFrontOf b front) (take-append-drop n bytes) (all (drop n bytes))
