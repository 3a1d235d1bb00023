-- How many bytes and line feeds a head has, and the part of a stream in which it stands.
use Rattle.std.proofs.Common.{refl, sym, ap, ◌∙◌, subst, append_assoc, length-append, arith}
use Rattle.std.specs.Prelude.{◌≡◌, ◌<◌, ◌≤◌, ◌+◌, ◌-◌, ◌==◌, cond, ℕ, zero, suc, List, [], ◌∷◌, ◌++◌, length, take, drop}
use Rattle.std.specs.List.{flat_map}
use Rattle.std.proofs.lemmas.List.{take-append-drop}
use Rattle.std.proofs.Math.Seq.{take-append-add}
use Rattle.std.proofs.lemmas.List.Sums.{sum_by-append}
use Rattle.httparse.specs.Ascii.{line_feed, carriage_return, space, colon}
use Rattle.httparse.specs.Grammar.{LineEnd, crlf, lf, print_end, Field, print_field, print_section, print_blank, print_version, RequestHead, ReadsRequest, print_request, HasNoRequest}
use Rattle.httparse.proofs.GrammarLemmas.{request_prefix_free}
use Rattle.definitions.specs.Values.{Text}
use Rattle.http_definitions.specs.Heads.{line_feeds}
use Rattle.http_laws.proofs.HeadEnds.{head_ends}

-- ---- line feeds
pub feeds-append : (xs ys : Text) → line_feeds (xs ++ ys) ≡ line_feeds xs + line_feeds ys
feeds-append xs ys = sum_by-append (λ b. cond (b == line_feed) 1 0) xs ys

pub feeds-take : (n : ℕ) (xs : Text) → line_feeds (take n xs) ≤ line_feeds xs
feeds-take n xs = omega (arith, ap line_feeds (take-append-drop n xs), feeds-append (take n xs) (drop n xs))

feeds-end : (e : LineEnd) → line_feeds (print_end e) ≡ 1
feeds-end crlf = refl
feeds-end lf = refl

feeds-fields : (fs : List Field) → length fs ≤ line_feeds (flat_map print_field fs)
feeds-fields [] = omega arith
feeds-fields (f ∷ fs) =
    rw (feeds-append (print_field f) (flat_map print_field fs), feeds-append (f.name ++ colon ∷ f.raw) (print_end f.end), feeds-end f.end)
    (omega (arith, feeds-fields fs))

pub feeds-request : (h : RequestHead) → length h.fields + 2 ≤ line_feeds (print_request h)
unfolding print_request
feeds-request h =
    let front = print_blank h.blank ++ h.method ++ space ∷ h.target ++ space ∷ print_version h.minor in
    let a = feeds-append (front ++ print_end h.line_end) (print_section h.fields h.last) in
    let b = feeds-append front (print_end h.line_end) in
    let d = feeds-append (flat_map print_field h.fields) (print_end h.last) in
    omega (arith, a, b, d, feeds-end h.line_end, feeds-end h.last, feeds-fields h.fields)

-- ---- fronts of a stream
take_front : (p m : Text) (k : ℕ) → length p ≤ k → take k (p ++ m) ≡ p ++ take (k - length p) m
take_front p m k le = ap (λ n. take n (p ++ m)) (omega (arith, le)) ∙ take-append-add p m (k - length p)

pub take_inside : (p m : Text) (k : ℕ) → k ≤ length p → take k (p ++ m) ≡ take k p
take_inside p m zero le = refl
take_inside [] m (suc k) le = absurd (omega (arith, le))
take_inside (x ∷ p) m (suc k) le = ap (λ t. x ∷ t) (take_inside p m k (omega (arith, le)))

pub take_whole : (p m : Text) → take (length p) (p ++ m) ≡ p
take_whole [] m = refl
take_whole (x ∷ p) m = ap (λ t. x ∷ t) (take_whole p m)

-- the front of the bytes has the head, too
pub in_window : (bytes : Text) (k : ℕ) (h : RequestHead) (more : Text) → ReadsRequest bytes h more → length (print_request h) ≤ k
    → ReadsRequest (take k bytes) h (take (k - length (print_request h)) more)
in_window bytes k h more reads le = (reads.0, ap (take k) reads.1 ∙ take_front (print_request h) more k le)

pub in_first_part : (a p : Text) (h : RequestHead) (more : Text) → ReadsRequest (a ++ p) h more → length (print_request h) ≤ length a
    → ReadsRequest a h (take (length a - length (print_request h)) more)
in_first_part a p h more reads le =
    subst (λ b. ReadsRequest b h (take (length a - length (print_request h)) more)) (take_whole a p) (in_window (a ++ p) (length a) h more reads le)

-- a front in which the head doesn't end lacks its last line feed
pub feeds-before : (bytes : Text) (n : ℕ) (h : RequestHead) (more : Text) → ReadsRequest bytes h more → n < length (print_request h)
    → line_feeds (take n bytes) < line_feeds (print_request h)
feeds-before bytes n h more reads before =
    let e = head_ends h in
    let t = closing h.last in
    let g = e.0 ++ t.0 in
    let whole : print_request h ≡ g ++ (line_feed ∷ []) = e.1 ∙ ap (λ l. e.0 ++ l) t.1 ∙ sym (append_assoc e.0 t.0 (line_feed ∷ [])) in
    let long : length (print_request h) ≡ length g + 1 = ap length whole ∙ length-append g (line_feed ∷ []) in
    let front : take n bytes ≡ take n g =
    ap (take n) (reads.1 ∙ ap (λ p. p ++ more) whole ∙ append_assoc g (line_feed ∷ []) more)
    ∙ take_inside g ((line_feed ∷ []) ++ more) n (omega (arith, before, long)) in
    omega (arith, ap line_feeds front, feeds-take n g, ap line_feeds whole, feeds-append g (line_feed ∷ []))
  where
    closing : (l : LineEnd) → (f : Text) × (line_feed ∷ print_end l ≡ f ++ (line_feed ∷ []))
    closing crlf = (line_feed ∷ carriage_return ∷ [], refl)
    closing lf = (line_feed ∷ [], refl)

-- a part of a head is no head
pub part_has_none : (part more : Text) (h : RequestHead) (rest : Text) → ReadsRequest (part ++ more) h rest
    → length part < length (print_request h) → HasNoRequest part
part_has_none part more h rest whole short k q reads =
    let same = request_prefix_free part more k h q rest reads whole in
    omega (arith, short, ap (λ j. length (print_request j)) same.0, ap length reads.1, length-append (print_request k) q)
