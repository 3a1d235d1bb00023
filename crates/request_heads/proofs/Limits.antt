-- Heads within the limits.
use Rattle.std.proofs.Common.{refl, sym, ap, ◌∙◌, subst, append_assoc, append-nil, length-append, inl, inr, arith, leb-true, leb-false, add-one}
use Rattle.std.specs.Prelude.{None, ◌≡◌, ◌<◌, ◌≤◌, ◌≢◌, ◌+◌, ◌-◌, ◌==◌, cond, Bool, true, false, leb, ℕ, zero, suc, List, [], ◌∷◌, ◌++◌, length, take, drop, get_or}
use Rattle.std.proofs.lemmas.Bool.{eqb-true}
use Rattle.std.proofs.lemmas.List.{take-append-drop}
use Rattle.std.proofs.Math.Seq.{take-suc, take-append-add}
use Rattle.httparse.specs.Grammar.{RequestHead, ReadsRequest, print_request, HasNoRequest, NeverHasRequest}
use Rattle.httparse.specs.Spans.{RequestOverflows, RequestExceeds, IsRequestAt}
use Rattle.httparse.proofs.GrammarLemmas.{ReadsRequest-append}
use Rattle.definitions.specs.Values.{Text}
use Rattle.http_definitions.specs.Heads.{IsSmall, line_feeds, body_length}
use Rattle.http_definitions.specs.Streams.{HasNoSmallHead, BeginsWithHead, IsHopeless}
use Rattle.request_heads.specs.Searches.{EndsPast, IsSearched, IsSought}
use Rattle.http_laws.proofs.HeadEnds.{ends_at}
use Rattle.http_laws.proofs.HeadSizes.{feeds-append, feeds-request, take_inside, in_window, feeds-before}
use Rattle.request_heads.specs.Fronts.{HasHeading}
use Rattle.request_heads.specs.Headings.{IsHeading}
use Rattle.request_heads.specs.declared.headings.Heading.{Heading}
use Rattle.httparse.specs.declared.spans.HeaderSpan.{HeaderSpan}
use Rattle.httparse.specs.declared.spans.RequestSpans.{RequestSpans}
use Rattle.request_heads.specs.declared.searches.Search.{Search}

-- a head that has more fields than 66 is over the limit on line feeds
pub overflows_is_past : (window more : Text) → RequestOverflows 66 window → HasNoSmallHead (window ++ more)
overflows_is_past window more over h rest small =
    let many : 66 < length h.fields = over more h rest small.0 in
    absurd (omega (arith, feeds-request h, small.1.1))

pub exceeds_has_feeds : (window : Text) → RequestExceeds 66 window → 66 ≤ line_feeds window
exceeds_has_feeds window x =
    let front = x.0 in
    let whole : line_feeds (front ++ 10 ∷ []) ≡ line_feeds (print_request x.3) = ap line_feeds (x.4.1 ∙ append-nil _) in
    let a = feeds-append front (10 ∷ []) in
    let b : line_feeds window ≡ line_feeds front + line_feeds x.1 = ap line_feeds x.2 ∙ feeds-append front x.1 in
    omega (arith, whole, a, b, feeds-request x.3, x.5)

pub past_next : (bytes : Text) (n : ℕ) → EndsPast n bytes → ((h : RequestHead) (more : Text) → ReadsRequest bytes h more → length (print_request h) ≢ n + 1)
    → EndsPast (n + 1) bytes
past_next bytes n past none h more reads = later (length (print_request h)) (past h more reads) (none h more reads)
  where
    later : (k : ℕ) → n < k → k ≢ n + 1 → n + 1 < k
    later k a b = omega (arith, a, b)

pub past_window : (bytes : Text) (n : ℕ) → HasNoRequest (take n bytes) → EndsPast n bytes
past_window bytes n none h more reads = either (leb (length (print_request h)) n) refl
  where
    either : (t : Bool) → leb (length (print_request h)) n ≡ t → n < length (print_request h)
    either true e = absurd (none h _ (in_window bytes n h more reads (leb-true _ _ e)))
    either false e = leb-false _ _ e

pub feeds-next : (bytes : Text) (n : ℕ) → n < length bytes → line_feeds (take (n + 1) bytes) ≡ line_feeds (take n bytes) + cond (get_or bytes n 0 == 10) 1 0
feeds-next bytes n within =
    let next : take (n + 1) bytes ≡ take n bytes ++ (get_or bytes n 0 ∷ []) = ap (λ k. take k bytes) (add-one n) ∙ take-suc bytes n 0 within in
    omega (arith, ap line_feeds next, feeds-append (take n bytes) (get_or bytes n 0 ∷ []))

-- 16,384 bytes without a head
pub long_is_past : (bytes : Text) → EndsPast 16384 bytes → HasNoSmallHead bytes
long_is_past bytes past h more small = absurd (omega (arith, past h more small.0, small.1.0))

-- 66 line feeds without a head
pub many_are_past : (bytes : Text) (n : ℕ) → EndsPast n bytes → line_feeds (take n bytes) ≡ 66 → HasNoSmallHead bytes
many_are_past bytes n past many h more small =
    absurd (omega (arith, many, feeds-before bytes n h more small.0 (past h more small.0), small.1.1))

-- ---- what a window of the bytes tells, whatever follows it
-- it has too many line feeds
pub overfull_is_hopeless : (window more : Text) → RequestOverflows 66 window → RequestExceeds 66 window → IsHopeless (window ++ more)
overfull_is_hopeless window more over exceeds =
    inr (overflows_is_past window more over, inr (inr (omega (arith, exceeds_has_feeds window exceeds, feeds-append window more))))

-- no bytes can follow that make a head
pub never_is_hopeless : (window more : Text) → NeverHasRequest window → IsHopeless (window ++ more)
never_is_hopeless window more never =
    inr (λ h rest small. never more h rest small.0, inl (λ later. subst HasNoRequest (sym (append_assoc window more later)) (never (more ++ later))))

-- it begins with a head
small_head : (window : Text) (h : RequestHead) (rest : Text) → ReadsRequest window h rest → length window ≤ 16384 → line_feeds window ≤ 66 → IsSmall h
small_head window h rest reads short few = (
  omega (arith, short, ap length reads.1, length-append (print_request h) rest),
  omega (arith, few, ap line_feeds reads.1, feeds-append (print_request h) rest),
)

begins_on : (window more : Text) (h : RequestHead) (rest : Text) → ReadsRequest window h rest → length window ≤ 16384 → line_feeds window ≤ 66
    → BeginsWithHead (window ++ more) h (rest ++ more)
begins_on window more h rest reads short few = (ReadsRequest-append window h rest more reads, small_head window h rest reads short few)

pub refused_is_hopeless : (window more : Text) (headers : List HeaderSpan) (r : RequestSpans) (h : RequestHead) → IsRequestAt window headers r h
    → length window ≤ 16384 → line_feeds window ≤ 66 → body_length h ≡ None → IsHopeless (window ++ more)
refused_is_hopeless window more headers r h x short few none =
    inl (h, drop r.len window ++ more, begins_on window more h (drop r.len window) x.reads short few, none)

pub has_heading : (window more : Text) (headers : List HeaderSpan) (r : RequestSpans) (h : RequestHead) (x : Heading) → IsRequestAt window headers r h
    → length window ≤ 16384 → line_feeds window ≤ 66 → IsHeading h x → HasHeading (window ++ more) x
has_heading window more headers r h x at short few heading =
    (h, drop r.len window ++ more, begins_on window more h (drop r.len window) at.reads short few, heading)

pub searched_feeds : (bytes : Text) (s t : Search) → IsSearched bytes s → s.len < length bytes → EndsPast (s.len + 1) bytes
    → t.len ≡ s.len + 1 → t.line_feeds ≡ s.line_feeds + cond (get_or bytes s.len 0 == 10) 1 0 → t.len < 16384 → t.line_feeds < 66 → IsSearched bytes t
searched_feeds bytes s t x more past l f short few = record {
  within = omega (arith, more, l);
  short = short;
  feeds = f ∙ ap (λ k. k + cond (get_or bytes s.len 0 == 10) 1 0) x.feeds ∙ sym (feeds-next bytes s.len more) ∙ ap (λ k. line_feeds (take k bytes)) (sym l);
  few = few;
  past = subst (λ k. EndsPast k bytes) (sym l) past;
}

-- no head ends in a byte that is no line feed
pub no_feed_past : (bytes : Text) (n : ℕ) → EndsPast n bytes → get_or bytes n 0 ≢ 10 → EndsPast (n + 1) bytes
no_feed_past bytes n past other = past_next bytes n past (λ h more reads long. other (ends_at bytes h more n reads long).feed)

-- what was searched stays so where bytes are added
pub searched_on : (bytes p : Text) (s : Search) → IsSearched bytes s → IsSearched (bytes ++ p) s
searched_on bytes p s x = record {
  within = omega (arith, x.within, length-append bytes p);
  short = x.short;
  feeds = x.feeds ∙ ap line_feeds (sym (take_inside bytes p s.len x.within));
  few = x.few;
  past = λ h more reads. either h more reads (leb (length (print_request h)) s.len) refl;
}
  where
    either : (h : RequestHead) (more : Text) → ReadsRequest (bytes ++ p) h more → (t : Bool) → leb (length (print_request h)) s.len ≡ t → s.len < length (print_request h)
    either h more reads true e =
        let rest = take (s.len - length (print_request h)) more in
        let window : ReadsRequest (take s.len bytes) h rest =
        subst (λ b. ReadsRequest b h rest) (take_inside bytes p s.len x.within) (in_window (bytes ++ p) s.len h more reads (leb-true _ _ e)) in
        x.past h (rest ++ drop s.len bytes)
        (subst (λ b. ReadsRequest b h (rest ++ drop s.len bytes)) (take-append-drop s.len bytes) (ReadsRequest-append (take s.len bytes) h rest (drop s.len bytes) window))
    either h more reads false e = leb-false _ _ e

-- the part of the message that the buffer holds as its window
pub whole_window : (bytes : Text) (h : RequestHead) (more : Text) (n : ℕ) → ReadsRequest bytes h more → n ≤ length more
    → ReadsRequest (take (length (print_request h) + n) bytes) h (take n more ++ [])
whole_window bytes h more n reads within =
    (reads.0, ap (take (length (print_request h) + n)) reads.1 ∙ take-append-add (print_request h) more n ∙ ap (λ b. print_request h ++ b) (sym (append-nil (take n more))))

-- ---- over bytes without a line feed
differs : (n : ℕ) → n ≢ 10 → (n == 10) ≡ false
differs n other = by (n == 10) refl
  where
    by : (b : Bool) → (n == 10) ≡ b → (n == 10) ≡ false
    by true e = absurd (other (eqb-true n 10 e))
    by false e = e

past_on : (bytes : Text) (from count : ℕ) → EndsPast from bytes → ((i : ℕ) → i < count → get_or bytes (from + i) 0 ≢ 10) → EndsPast (from + count) bytes
past_on bytes from zero past none = subst (λ k. EndsPast k bytes) (omega arith) past
past_on bytes from (suc count) past none =
    subst (λ k. EndsPast k bytes) (omega arith)
    (no_feed_past bytes (from + count) (past_on bytes from count past (λ i less. none i (omega (arith, less)))) (none count (omega arith)))

feeds_on : (bytes : Text) (from count : ℕ) → from + count ≤ length bytes → ((i : ℕ) → i < count → get_or bytes (from + i) 0 ≢ 10)
    → line_feeds (take (from + count) bytes) ≡ line_feeds (take from bytes)
feeds_on bytes from zero within none = ap (λ k. line_feeds (take k bytes)) (omega arith)
feeds_on bytes from (suc count) within none =
    let no : (get_or bytes (from + count) 0 == 10) ≡ false = differs (get_or bytes (from + count) 0) (none count (omega arith)) in
    let more : line_feeds (take (from + count + 1) bytes) ≡ line_feeds (take (from + count) bytes) + 0 =
    feeds-next bytes (from + count) (omega (arith, within)) ∙ ap (λ b. line_feeds (take (from + count) bytes) + cond b 1 0) no in
    let before = feeds_on bytes from count (omega (arith, within)) (λ i less. none i (omega (arith, less))) in
    let same : line_feeds (take (from + suc count) bytes) ≡ line_feeds (take (from + count + 1) bytes) = ap (λ k. line_feeds (take k bytes)) (omega arith) in
    omega (arith, same, more, before)

pub sought_on : (bytes : Text) (s t : Search) (count : ℕ) → IsSearched bytes s → ((i : ℕ) → i < count → get_or bytes (s.len + i) 0 ≢ 10)
    → s.len + count ≤ length bytes → s.len + count ≤ 16384 → t.len ≡ s.len + count → t.line_feeds ≡ s.line_feeds → IsSought bytes t
sought_on bytes s t count x none within short l f = record {
  within = omega (arith, within, l);
  short = omega (arith, short, l);
  feeds = f ∙ x.feeds ∙ sym (feeds_on bytes s.len count within none) ∙ ap (λ k. line_feeds (take k bytes)) (sym l);
  few = omega (arith, x.few, f);
  past = subst (λ k. EndsPast k bytes) (sym l) (past_on bytes s.len count x.past none);
}

pub searched_sought : (bytes : Text) (s : Search) → IsSought bytes s → s.len ≢ 16384 → IsSearched bytes s
searched_sought bytes s x other = record { within = x.within; short = below s.len x.short other; feeds = x.feeds; few = x.few; past = x.past }
  where
    below : (n : ℕ) → n ≤ 16384 → n ≢ 16384 → n < 16384
    below n a b = omega (arith, a, b)
