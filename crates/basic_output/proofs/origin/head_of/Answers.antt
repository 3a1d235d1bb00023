use Rattle.std.proofs.Common.{◌≡◌, ◌+◌, ◌++◌, ◌∷◌, ◌-◌, [], codes, drop, get_or, length, string_bytes, take, append_assoc, sym, ap, ◌∙◌, arith}
use Rattle.std.proofs.lemmas.List.{length-append, take_rest}
use Rattle.std.proofs.lemmas.Str.{IsCharBoundary-after_ascii}
use Rattle.json.specs.Print.{escape}
use Rattle.definitions.specs.Pointers.{fragment_text}
use Rattle.definitions.specs.Values.{Text}
use Rattle.locations.specs.Steps.{tokens}
use Rattle.basic_output.proofs.origin.head_of.Goals as goal

abbrev key : Text
key = codes "{\"absoluteKeywordLocation\":\""

-- what four texts give that are written one behind the other
all : {none opened named marked head : Text} (uri fragment : Text) → none ≡ [] → opened ≡ none ++ key → named ≡ opened ++ uri → marked ≡ named ++ 35 ∷ [] → head ≡ marked ++ fragment
    → head ≡ key ++ (uri ++ 35 ∷ fragment)
all uri fragment e f g h i =
    i ∙ ap (λ b. b ++ fragment) (h ∙ ap (λ b. b ++ 35 ∷ []) (g ∙ ap (λ b. b ++ uri) (f ∙ ap (λ b. b ++ key) e))) ∙ ap (λ t. key ++ t) (append_assoc uri (35 ∷ []) fragment)

pub returns-then-are_unescaped : goal.returns-then-are_unescaped
returns-then-are_unescaped c =
    let written = all c.args.uri.now (fragment_text (tokens c.args.steps.now)) (c.in_ok-reserve.ensures.bytes ∙ c.clear.ensures.bytes) c.in_ok-push_str.ensures.bytes c.in_ok-push_str-2.ensures.bytes c.in_ok-push_str-3.ensures.bytes c.in_ok-push_fragment.ensures in
    let seen = take_rest c.as_bytes.result.now 28 ∙ ap (drop 28) (c.as_bytes.ensures.value ∙ written) in
    written ∙ ap (λ t. key ++ t) (sym (ap escape (sym seen) ∙ c.if-are_unescaped.ensures ∙ seen))

pub range_from-requires : goal.range_from-requires
range_from-requires c _ =
    let s = c.as_str.result.now in
    let location = c.args.uri.now ++ 35 ∷ fragment_text (tokens c.args.steps.now) in
    let is : s ≡ key ++ location = c.as_str.ensures.value ∙ all c.args.uri.now (fragment_text (tokens c.args.steps.now)) (c.in_ok-reserve.ensures.bytes ∙ c.clear.ensures.bytes) c.in_ok-push_str.ensures.bytes c.in_ok-push_str-2.ensures.bytes c.in_ok-push_str-3.ensures.bytes c.in_ok-push_fragment.ensures in
    let long : length s ≡ length key + length location = ap length is ∙ length-append key location in
    let first : get_or s 27 0 ≡ 34 = ap (λ b. get_or b 27 0) is in
    IsCharBoundary-after_ascii s 27 c.as_str.utf8 (omega (arith, long)) (omega (arith, first))
