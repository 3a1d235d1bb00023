-- Spans as their text grows, as it is cut, and as one is put among them.
use Rattle.std.proofs.Common.{◌≡◌, ◌≤◌, ◌<◌, ◌+◌, ◌-◌, ◌++◌, ◌∷◌, [], ℕ, zero, suc, List, true, length, map, nat_le, slice_range, take, drop, get_or, Some, refl, subst, sym, ap, ap₂, append_assoc, ◌∙◌, arith}
use Rattle.std.proofs.Math.Seq.{drop-append_seam, take-append_seam, take-length}
use Rattle.std.proofs.lemmas.Bool.{and_parts, le-leb, leb-true}
use Rattle.std.proofs.lemmas.List.Folds.{drop_split}
use Rattle.std.proofs.lemmas.List.{length-append, length-take-le, map-append, take-take}
use Rattle.std.proofs.lemmas.List.Elements.{All-append, All-cons, All-head, All-nil, All-tail}
use Rattle.std.proofs.lemmas.Option.{slice_get_within}
use Rattle.std.proofs.lemmas.Str.{IsUtf8-append, IsUtf8-nil, is_utf8-from_IsUtf8}
use Rattle.json.proofs.Printed.Utf8.{IsUtf8-are_ascii}
use Rattle.std.specs.List.{All, slice_get}
use Rattle.std.specs.Str.{IsUtf8, is_utf8}
use Rattle.lemmas.proofs.Lists.{flat_map-push, map-take_more, range_is, range_same}
use Rattle.definitions.specs.Values.{Text}
use Rattle.basic_output.specs.Buffers.{buffer_text}
use Rattle.basic_output.specs.Pieces.{later_texts}
use Rattle.basic_output.specs.Spans.{IsSpan, ascends, last_end, span_text}
use Rattle.basic_output.specs.declared.unit_text.buffer.TextBuffer.{TextBuffer}
use Rattle.basic_output.specs.declared.units.Span.{Span}
use Rattle.basic_output.specs.declared.units.Units.{Units}
use Rattle.basic_output.proofs.BufferLaws.{whole_buffer}

front_same : (t u : Text) (h i : ℕ) → take h t ≡ take h u → i ≤ h → take i t ≡ take i u
front_same t u h i same le = sym (take-take i h t le) ∙ ap (take i) same ∙ take-take i h u le

text_of_front : (t : Text) (s : Span) → s.start ≤ s.end → span_text t s ≡ drop s.start (take s.end t)
unfolding span_text
text_of_front t s le = range_is t s.start s.end le

-- ---- how far they reach
low_le_last : (low : ℕ) (ss : List Span) → ascends low ss ≡ true → low ≤ last_end low ss
low_le_last low [] up = omega arith
low_le_last low (s ∷ ss) up =
    let q = and_parts (nat_le low s.end) (ascends s.end ss) up in
    omega (arith, leb-true low s.end q.0, low_le_last s.end ss q.1)

last_within : (t : Text) (low : ℕ) (ss : List Span) → low ≤ length t → All (IsSpan t) ss → last_end low ss ≤ length t
last_within t low [] le are = le
last_within t low (s ∷ ss) le are = last_within t s.end ss (All-head (IsSpan t) s ss are).within (All-tail (IsSpan t) s ss are)

last_whole : (t : Text) (low : ℕ) (ss : List Span) → is_utf8 (take low t) ≡ true → All (IsSpan t) ss → is_utf8 (take (last_end low ss) t) ≡ true
last_whole t low [] whole are = whole
last_whole t low (s ∷ ss) whole are = last_whole t s.end ss (All-head (IsSpan t) s ss are).end_whole (All-tail (IsSpan t) s ss are)

pub whole_at_last : (t : Text) (ss : List Span) → All (IsSpan t) ss → is_utf8 (take (last_end 0 ss) t) ≡ true
whole_at_last t ss are = last_whole t 0 ss (is_utf8-from_IsUtf8 [] IsUtf8-nil) are

pub ascends_take : (n low : ℕ) (ss : List Span) → ascends low ss ≡ true → ascends low (take n ss) ≡ true
ascends_take zero low ss up = refl
ascends_take (suc n) low [] up = refl
ascends_take (suc n) low (s ∷ ss) up =
    let q = and_parts (nat_le low s.end) (ascends s.end ss) up in
    rw (q.0, ascends_take n s.end ss q.1) refl

-- ---- in another text that begins alike
pub record Moved (t u : Text) (ss : List Span) : Type 0 where
  pub are_spans : All (IsSpan u) ss
  pub same : map (span_text u) ss ≡ map (span_text t) ss

-- the comma in front of a span
comma_at_end : (t u : Text) (start : ℕ) → start ≡ length (t ++ 44 ∷ []) → take start u ≡ t ++ 44 ∷ [] → slice_range u (start - 1) start ≡ 44 ∷ []
comma_at_end t u start is front =
    let before : start - 1 ≡ length t = omega (arith, is, length-append t (44 ∷ [])) in
    range_is u (start - 1) start (omega arith) ∙ ap₂ (λ n b. drop n b) before front ∙ drop-append_seam t (44 ∷ [])

span_moved : (t u : Text) (h : ℕ) (s : Span) → take h t ≡ take h u → h ≤ length u → s.end ≤ h → IsSpan t s → IsSpan u s × (span_text u s ≡ span_text t s)
span_moved t u h s same within le is =
    let front = λ (i : ℕ) (l : i ≤ h). sym (front_same t u h i same l) in
    let end : take s.end u ≡ take s.end t = front s.end le in (
      record {
        ordered = is.ordered;
        within = omega (arith, le, within);
        start_whole = ap is_utf8 (front s.start (omega (arith, le, is.ordered))) ∙ is.start_whole;
        end_whole = ap is_utf8 end ∙ is.end_whole;
        follows_comma = range_same u t s.start (s.start - 1) s.start (front s.start (omega (arith, le, is.ordered))) (omega arith) (omega arith) ∙ is.follows_comma;
      },
      text_of_front u s is.ordered ∙ ap (drop s.start) end ∙ sym (text_of_front t s is.ordered),
    )

moved : (t u : Text) (h low : ℕ) (ss : List Span) → take h t ≡ take h u → h ≤ length u → last_end low ss ≤ h → ascends low ss ≡ true → All (IsSpan t) ss → Moved t u ss
moved t u h low [] same within last up are = record { are_spans = All-nil (IsSpan u); same = refl }
moved t u h low (s ∷ ss) same within last up are =
    let q = and_parts (nat_le low s.end) (ascends s.end ss) up in
    let le : s.end ≤ h = omega (arith, last, low_le_last s.end ss q.1) in
    let one = span_moved t u h s same within le (All-head (IsSpan t) s ss are) in
    let rest = moved t u h s.end ss same within last q.1 (All-tail (IsSpan t) s ss are) in
    record { are_spans = All-cons (IsSpan u) s ss one.0 rest.are_spans; same = ap₂ (λ x xs. x ∷ xs) one.1 rest.same }

pub grown : (t more u : Text) (ss : List Span) → u ≡ t ++ more → ascends 0 ss ≡ true → All (IsSpan t) ss → Moved t u ss
grown t more u ss is up are =
    moved t u (length t) 0 ss (take-length t ∙ sym (ap (take (length t)) is ∙ take-append_seam t more)) (omega (arith, ap length is, length-append t more)) (last_within t 0 ss (omega arith) are) up are

pub cut : (t : Text) (ss : List Span) → ascends 0 ss ≡ true → All (IsSpan t) ss → Moved t (take (last_end 0 ss) t) ss
cut t ss up are =
    let h = last_end 0 ss in
    let within : length (take h t) ≡ h = length-take-le h t (last_within t 0 ss (omega arith) are) in
    moved t (take h t) h 0 ss (sym (take-take h h t (omega arith))) (omega (arith, within)) (omega arith) up are

-- ---- one more
new_span : (t more u : Text) (s : Span) → u ≡ t ++ 44 ∷ more → IsUtf8 t → IsUtf8 u → s.start ≡ length t + 1 → s.end ≡ length u
    → IsSpan u s × (span_text u s ≡ more)
new_span t more u s text old_whole both at end =
    let comma = t ++ 44 ∷ [] in
    let is : u ≡ comma ++ more = text ∙ sym (append_assoc t (44 ∷ []) more) in
    let whole : IsUtf8 comma = IsUtf8-append t (44 ∷ []) old_whole (IsUtf8-are_ascii (44 ∷ []) refl) in
    let start : s.start ≡ length comma = omega (arith, at, length-append t (44 ∷ [])) in
    let ordered : s.start ≤ s.end = omega (arith, start, end, ap length is, length-append comma more) in (
      record {
        ordered = ordered;
        within = omega (arith, end);
        start_whole = ap₂ (λ i b. is_utf8 (take i b)) start is ∙ ap is_utf8 (take-append_seam comma more) ∙ is_utf8-from_IsUtf8 comma whole;
        end_whole = ap (λ j. is_utf8 (take j u)) end ∙ ap is_utf8 (take-length u) ∙ is_utf8-from_IsUtf8 u both;
        follows_comma = comma_at_end t u s.start start (ap₂ (λ i b. take i b) start is ∙ take-append_seam comma more);
      },
      text_of_front u s ordered ∙ ap₂ (λ i j. drop i (take j u)) start end ∙ ap (drop (length comma)) (take-length u ∙ is) ∙ drop-append_seam comma more,
    )

ascends_on : (low : ℕ) (ss : List Span) (s : Span) → last_end low ss ≤ s.end → ascends low ss ≡ true → ascends low (ss ++ s ∷ []) ≡ true
ascends_on low [] s last up = rw (le-leb low s.end last) refl
ascends_on low (x ∷ ss) s last up =
    let q = and_parts (nat_le low x.end) (ascends x.end ss) up in
    rw (q.0, ascends_on x.end ss s last q.1) refl

-- the text and the spans of units, of which one is new
pub record Noted (old : Units) (more u : Text) (xs : List Span) : Type 0 where
  pub are_spans : All (IsSpan u) xs
  pub ascend : ascends 0 xs ≡ true
  pub texts : map (span_text u) xs ≡ map (span_text (buffer_text old.text)) old.spans.items ++ more ∷ []

pub noted : (old : Units) (new : TextBuffer) (more : Text) (s : Span) (xs : List Span) → buffer_text new ≡ buffer_text old.text ++ 44 ∷ more
    → s.start ≡ length (buffer_text old.text) + 1 → s.end ≡ length (buffer_text new) → xs ≡ old.spans.items ++ s ∷ [] → Noted old more (buffer_text new) xs
noted old new more s xs text start end pushed =
    let t = buffer_text old.text in
    let u = buffer_text new in
    let ss = old.spans.items in
    let one = new_span t more u s text (whole_buffer old.text) (whole_buffer new) start end in
    let others = grown t (44 ∷ more) u ss text old.ascend old.are_spans in
    let last = last_within t 0 ss (omega arith) old.are_spans in
    subst (Noted old more u) (sym pushed) (record {
      are_spans = All-append (IsSpan u) ss (s ∷ []) others.are_spans (All-cons (IsSpan u) s [] one.0 (All-nil (IsSpan u)));
      ascend = ascends_on 0 ss s (omega (arith, end, last, ap length text, length-append t (44 ∷ more))) old.ascend;
      texts = map-append (span_text u) ss (s ∷ []) ∙ ap₂ (λ ys x. ys ++ x ∷ []) others.same one.1;
    })

-- ---- the last one
last_at : (low n : ℕ) (ss : List Span) (s : Span) → length ss ≡ suc n → slice_get ss n ≡ Some s → s.end ≡ last_end low ss
last_at low n [] s len is = absurd (omega arith)
last_at low zero (x ∷ []) s len is = cc
last_at low (suc n) (x ∷ []) s len is = absurd (omega arith)
last_at low zero (x ∷ y ∷ ss) s len is = absurd (omega arith)
last_at low (suc n) (x ∷ y ∷ ss) s len is = last_at x.end n (y ∷ ss) s (omega arith) is

pub last_is : (low : ℕ) (ss : List Span) (s : Span) → slice_get ss (length ss - 1) ≡ Some s → s.end ≡ last_end low ss
last_is low ss s is = last_at low (length ss - 1) ss s (omega (arith, slice_get_within ss (length ss - 1) s is)) is

-- ---- spans that stand one behind the other
pub merged : (t : Text) (a b : Span) → IsSpan t a → IsSpan t b → b.start - 1 ≡ a.end → IsSpan t (record { start = a.start; end = b.end; position = b.position })
merged t a b first next is = record {
  ordered = omega (arith, first.ordered, next.ordered, is);
  within = next.within;
  start_whole = first.start_whole;
  end_whole = next.end_whole;
  follows_comma = first.follows_comma;
}

range_split : (t : Text) (i j k : ℕ) → i ≤ j → j ≤ k → slice_range t i k ≡ slice_range t i j ++ slice_range t j k
range_split t i j k first next =
    range_is t i k (omega (arith, first, next)) ∙ drop_split (take k t) i j first
    ∙ ap₂ (λ a b. a ++ b) (range_is (take k t) i j first ∙ ap (drop i) (take-take j k t next) ∙ sym (range_is t i j first)) (sym (range_is t j k next))

some_in_front : (t : Text) (start : ℕ) → slice_range t (start - 1) start ≡ 44 ∷ [] → 0 < start
some_in_front t zero follows_comma = cc
some_in_front t (suc n) follows_comma = omega arith

pub merged_text : (t : Text) (a b : Span) → IsSpan t a → IsSpan t b → b.start - 1 ≡ a.end
    → span_text t (record { start = a.start; end = b.end; position = b.position }) ≡ span_text t a ++ 44 ∷ span_text t b
unfolding span_text
merged_text t a b first next is =
    let some : 0 < b.start = some_in_front t b.start next.follows_comma in
    range_split t a.start a.end b.end first.ordered (omega (arith, next.ordered, is))
    ∙ ap (λ r. slice_range t a.start a.end ++ r) (range_split t a.end b.start b.end (omega (arith, is)) next.ordered ∙ ap (λ c. c ++ slice_range t b.start b.end) (ap (λ i. slice_range t i b.start) (sym is) ∙ next.follows_comma))

-- ---- what was written of them
-- a run that goes on, or another one that begins
pub run_on : (t old out new run : Text) (text_at : ℕ → Text) (a b : Span) (later : List ℕ) (i place : ℕ) → i < length later → place ≡ get_or later i place → text_at place ≡ span_text t b
    → out ++ span_text t a ≡ old ++ (run ++ later_texts (map text_at (take i later))) → new ≡ (out ++ span_text t a) ++ 44 ∷ span_text t b
    → new ≡ old ++ (run ++ later_texts (map text_at (take (i + 1) later)))
run_on t old out new run text_at a b later i place less there at written is =
    let texts = map text_at (take i later) in
    let next = 44 ∷ span_text t b in
    let all : later_texts (map text_at (take (i + 1) later)) ≡ later_texts texts ++ next =
    ap later_texts (map-take_more text_at later i place less there) ∙ flat_map-push (λ s. 44 ∷ s) texts (text_at place) ∙ ap (λ x. later_texts texts ++ 44 ∷ x) at in
    is ∙ ap (λ r. r ++ next) written ∙ append_assoc old (run ++ later_texts texts) next ∙ ap (λ r. old ++ r) (append_assoc run (later_texts texts) next ∙ ap (λ r. run ++ r) (sym all))
