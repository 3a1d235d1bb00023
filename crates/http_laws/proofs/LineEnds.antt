-- Line ends before a head.
use Rattle.std.proofs.Common.{refl, sym, ap, ◌∙◌, append-nil, length-append, true≢false, arith}
use Rattle.std.specs.Prelude.{◌≡◌, ◌<◌, ℕ, List, [], ◌∷◌, ◌++◌, Bool, true, false, cond, length}
use Rattle.httparse.specs.Ascii.{line_feed, carriage_return, space}
use Rattle.httparse.specs.Grammar.{LineEnd, crlf, lf, RequestHead, ReadsRequest, print_blank, print_version, print_end, print_section}
use Rattle.httparse.proofs.GrammarLemmas.{print_request-append}
use Rattle.definitions.specs.Values.{Text}
use Rattle.http_definitions.specs.Streams.{is_line_end, without_line_ends}

keeps_or_drops : (b : ℕ) (a p : Text) (t : Bool) → is_line_end b ≡ t → without_line_ends (without_line_ends a ++ p) ≡ without_line_ends (a ++ p)
    → without_line_ends (cond t (without_line_ends a) (b ∷ a) ++ p) ≡ cond t (without_line_ends (a ++ p)) (b ∷ (a ++ p))
keeps_or_drops b a p true e same = same
keeps_or_drops b a p false e same = ap (λ t. cond t (without_line_ends (a ++ p)) (b ∷ (a ++ p))) e

pub dropped_twice : (a p : Text) → without_line_ends (without_line_ends a ++ p) ≡ without_line_ends (a ++ p)
dropped_twice [] p = refl
dropped_twice (b ∷ a) p = keeps_or_drops b a p (is_line_end b) refl (dropped_twice a p)

-- where something is left, what follows is left with it
left_or_dropped : (b : ℕ) (a p : Text) (t : Bool) → (0 < length (without_line_ends a) → without_line_ends (a ++ p) ≡ without_line_ends a ++ p)
    → 0 < length (cond t (without_line_ends a) (b ∷ a))
    → cond t (without_line_ends (a ++ p)) (b ∷ (a ++ p)) ≡ cond t (without_line_ends a) (b ∷ a) ++ p
left_or_dropped b a p true same some = same some
left_or_dropped b a p false same some = refl

pub left_with : (a p : Text) → 0 < length (without_line_ends a) → without_line_ends (a ++ p) ≡ without_line_ends a ++ p
left_with [] p some = absurd (omega (arith, some))
left_with (b ∷ a) p some = left_or_dropped b a p (is_line_end b) (left_with a p) some

pub dropped_all : (a : Text) → without_line_ends (without_line_ends a) ≡ without_line_ends a
dropped_all a = ap without_line_ends (sym (append-nil (without_line_ends a))) ∙ dropped_twice a [] ∙ ap without_line_ends (append-nil a)

pub head_has_bytes : (bytes : Text) (h : RequestHead) (more : Text) → ReadsRequest bytes h more → 0 < length bytes
head_has_bytes bytes h more reads =
    let behind = h.target ++ space ∷ (print_version h.minor ++ (print_end h.line_end ++ (print_section h.fields h.last ++ more))) in
    let whole = ap length (reads.1 ∙ print_request-append h more) in
    let first = length-append (print_blank h.blank) (h.method ++ space ∷ behind) in
    let second = length-append h.method (space ∷ behind) in
    omega (arith, whole, first, second)

-- ---- no line end stands at the front
front_of : (b c : ℕ) (a bs : Text) (t : Bool) → is_line_end b ≡ t → (without_line_ends a ≡ c ∷ bs → is_line_end c ≡ false)
    → cond t (without_line_ends a) (b ∷ a) ≡ c ∷ bs → is_line_end c ≡ false
front_of b c a bs true e go same = go same
front_of b c a bs false e go same = let first : b ≡ c = cc same in ap is_line_end (sym first) ∙ e

pub front_is_no_line_end : (a : Text) (c : ℕ) (bs : Text) → without_line_ends a ≡ c ∷ bs → is_line_end c ≡ false
front_is_no_line_end [] c bs same = absurd (cc same)
front_is_no_line_end (b ∷ a) c bs same = front_of b c a bs (is_line_end b) refl (front_is_no_line_end a c bs) same

pub no_blank : (bytes : Text) (h : RequestHead) (more : Text) → ReadsRequest (without_line_ends bytes) h more → h.blank ≡ []
no_blank bytes h more reads = by h.blank refl
  where
    behind : Text
    behind = h.method ++ space ∷ (h.target ++ space ∷ (print_version h.minor ++ (print_end h.line_end ++ (print_section h.fields h.last ++ more))))

    whole : (l : List LineEnd) → h.blank ≡ l → without_line_ends bytes ≡ print_blank l ++ behind
    whole l e = reads.1 ∙ print_request-append h more ∙ ap (λ k. print_blank k ++ behind) e

    by : (l : List LineEnd) → h.blank ≡ l → h.blank ≡ []
    by [] e = e
    by (crlf ∷ es) e = absurd (true≢false (front_is_no_line_end bytes carriage_return _ (whole (crlf ∷ es) e)))
    by (lf ∷ es) e = absurd (true≢false (front_is_no_line_end bytes line_feed _ (whole (lf ∷ es) e)))
