-- Line ends at the front, and what stands behind them.
use Rattle.std.proofs.Common.{suc, zero, refl, sym, ap, ◌∙◌, subst, arith, add-one, drop-cons, get_or}
use Rattle.std.specs.Prelude.{◌≡◌, ◌<◌, ◌+◌, ℕ, [], ◌∷◌, ◌++◌, cond, true, false, length, take, drop}
use Rattle.std.proofs.Math.Seq.{take-suc}
use Rattle.httparse.proofs.GrammarLemmas.{ReadsRequest-append}
use Rattle.definitions.specs.Values.{Text}
use Rattle.http_definitions.specs.Heads.{line_feeds}
use Rattle.http_definitions.specs.Streams.{is_line_end, without_line_ends}
use Rattle.http_laws.proofs.LineEnds.{dropped_twice, left_with, front_is_no_line_end, head_has_bytes}
use Rattle.http_laws.proofs.HeadEnds.{printed_head_has_bytes}
use Rattle.request_heads.specs.Fronts.{HasHeading}
use Rattle.request_heads.specs.Searches.{IsSearched}
use Rattle.request_heads.specs.declared.headings.Heading.{Heading}
use Rattle.request_heads.specs.declared.searches.Search.{Search}
use Rattle.request_heads.proofs.Limits.{searched_on}
use Rattle.connections.specs.Phases.{IsOn, IsHeld}
use Rattle.connections.specs.declared.phases.Phase.{Phase}
use Rattle.connections.specs.declared.phases.Phase.TheVariants.{Searching, Reading}

-- ---- one byte more
pub next_dropped : (bytes : Text) (n : ℕ) → n < length bytes → is_line_end (get_or bytes n 0) ≡ true → without_line_ends (drop (n + 1) bytes) ≡ without_line_ends (drop n bytes)
next_dropped bytes n within end =
    ap (λ k. without_line_ends (drop k bytes)) (add-one n)
    ∙ sym (ap without_line_ends (drop-cons bytes n 0 within) ∙ ap (λ t. cond t (without_line_ends (drop (suc n) bytes)) (get_or bytes n 0 ∷ drop (suc n) bytes)) end)

pub next_taken : (bytes : Text) (n : ℕ) → n < length bytes → is_line_end (get_or bytes n 0) ≡ true → without_line_ends (take n bytes) ≡ [] → without_line_ends (take (n + 1) bytes) ≡ []
next_taken bytes n within end none =
    let one : without_line_ends (get_or bytes n 0 ∷ []) ≡ [] = ap (λ t. cond t [] (get_or bytes n 0 ∷ [])) end in
    ap (λ k. without_line_ends (take k bytes)) (add-one n)
    ∙ ap without_line_ends (take-suc bytes n 0 within)
    ∙ sym (dropped_twice (take n bytes) (get_or bytes n 0 ∷ []))
    ∙ ap (λ a. without_line_ends (a ++ (get_or bytes n 0 ∷ []))) none
    ∙ one

-- nothing more is dropped
pub bare_from : (bytes : Text) (n : ℕ) → n < length bytes → is_line_end (get_or bytes n 0) ≡ false → without_line_ends (drop n bytes) ≡ drop n bytes
bare_from bytes n within other =
    ap without_line_ends (drop-cons bytes n 0 within)
    ∙ ap (λ t. cond t (without_line_ends (drop (suc n) bytes)) (get_or bytes n 0 ∷ drop (suc n) bytes)) other
    ∙ sym (drop-cons bytes n 0 within)

-- a part of bytes that begin with no line end begins with none
pub bare_take : (bytes : Text) (n : ℕ) → without_line_ends bytes ≡ bytes → without_line_ends (take n bytes) ≡ take n bytes
bare_take [] zero bare = refl
bare_take [] (suc n) bare = refl
bare_take (b ∷ bytes) zero bare = refl
bare_take (b ∷ bytes) (suc n) bare =
    ap (λ t. cond t (without_line_ends (take n bytes)) (b ∷ take n bytes)) (front_is_no_line_end (b ∷ bytes) b bytes bare)

-- ---- held bytes and a piece
heading_on : (bytes piece : Text) (x : Heading) → HasHeading bytes x → HasHeading (bytes ++ piece) x
heading_on bytes piece x h = (h.0, h.1 ++ piece, (ReadsRequest-append bytes h.0 h.1 piece h.2.0, h.2.1), h.3)

-- where no byte was looked at, any bytes are searched so far
unsearched : (bytes : Text) (s : Search) → IsSearched [] s → IsSearched bytes s
unsearched bytes s x =
    let none : s.len ≡ 0 = omega (arith, x.within) in
    record {
      within = omega (arith, none);
      short = x.short;
      feeds = x.feeds ∙ ap (λ n. line_feeds (take n [])) none ∙ sym (ap (λ n. line_feeds (take n bytes)) none);
      few = x.few;
      past = λ h more reads. omega (arith, none, printed_head_has_bytes h);
    }

on_none : (piece : Text) (p : Phase) → IsOn [] p → IsOn piece p
on_none piece (Searching s) on = unsearched piece s on
on_none piece (Reading x) on = absurd (omega (arith, head_has_bytes [] on.0 on.1 on.2.0))

on_some : (bytes piece : Text) (p : Phase) → IsOn bytes p → IsOn (bytes ++ piece) p
on_some bytes piece (Searching s) on = searched_on bytes piece s on
on_some bytes piece (Reading x) on = heading_on bytes piece x on

pub held_on : (bytes piece : Text) (p : Phase) → IsHeld bytes p → IsOn (without_line_ends (bytes ++ piece)) p
held_on [] piece p held = on_none (without_line_ends piece) p held.1
held_on (b ∷ bytes) piece p held =
    let some : 0 < length (without_line_ends (b ∷ bytes)) = subst (λ a. 0 < length a) (sym held.0) (omega arith) in
    let whole : (b ∷ bytes) ++ piece ≡ without_line_ends ((b ∷ bytes) ++ piece) =
    sym (left_with (b ∷ bytes) piece some ∙ ap (λ a. a ++ piece) held.0) in
    subst (λ a. IsOn a p) whole (on_some (b ∷ bytes) piece p held.1)
