use Rattle.std.proofs.Common.{◌≡◌, ◌++◌, [], ◌∷◌, Some, None, string_bytes, refl, sym, ap, ap₂, ◌∙◌, lit<}
use Rattle.std.proofs.lemmas.Str.{IsCharBoundary-after_ascii}
use Rattle.std.proofs.lemmas.Str.Pattern.{split_parts}
use Rattle.definitions.specs.Pointers.{unescaped_token}
use Rattle.json_pointer.proofs.Unescaped.{resumed-nil, token_more, token_none, token_last, escape-small, escape-first, text_after}
use Rattle.json_pointer.proofs.pointer.parsing.token_of.Goals as goal

pub loop-before-init : goal.loop-before-init
loop-before-init c = record { utf8 = c.utf8.part; read = rw c.new-token.ensures.bytes (resumed-nil (unescaped_token c.args.part.now)) }

pub returns-in_default-escape_before-clause-err : goal.returns-in_default-escape_before-clause-err
returns-in_default-escape_before-clause-err c = λ other.
    let parts = split_parts 126 c.loop-before.rest.now (Some (c.in-Some.before, c.in-Some.after)) c.in-Some.ensures.cases (lit< tt) in
    (refl, sym c.loop-before.invariant.read ∙ token_none (string_bytes c.loop-before.token) c.in-Some.before.now c.in-Some.after.now c.loop-before.rest.now parts.0 parts.1 (sym c.in_default-escape_before.ensures))

pub range_from-rest-requires : goal.range_from-rest-requires
range_from-rest-requires c = λ _.
    let parts = split_parts 126 c.loop-before.rest.now (Some (c.in-Some.before, c.in-Some.after)) c.in-Some.ensures.cases (lit< tt) in
    let first = escape-first c.in-Some.after.now c.in-Some-escape_before.escaped (sym c.in-Some-escape_before.ensures) in
    IsCharBoundary-after_ascii c.in-Some.after.now 0 (text_after c.in-Some.before.now c.in-Some.after.now c.loop-before.rest.now parts.0 c.loop-before.invariant.utf8) first.0 first.1

pub loop-before-preserved : goal.loop-before-preserved
loop-before-preserved c =
    let parts = split_parts 126 c.loop-before.rest.now (Some (c.in-Some.before, c.in-Some.after)) c.in-Some.ensures.cases (lit< tt) in
    let is = sym c.in-Some-escape_before.ensures in
    let escaped = c.in-Some-escape_before.escaped in
    let done = string_bytes c.loop-before.token in
    let before = c.in-Some.before.now in
    let after = c.in-Some.after.now in
    let pushed : string_bytes c.push.new.self ≡ (done ++ before) ++ escaped ∷ [] =
    c.in_ok-push.ensures.bytes ∙ ap₂ (λ a b. a ++ b) c.in_ok-push_str.ensures.bytes (c.push.ensures.ascii (escape-small after escaped is)) in
    record {
      utf8 = c.range_from-rest.utf8;
      read = rw (pushed, c.range_from-rest.ensures.value) (token_more done before after c.loop-before.rest.now escaped parts.0 parts.1 is ∙ c.loop-before.invariant.read);
    }

pub returns-clause-ok : goal.returns-clause-ok
returns-clause-ok c =
    let plain = split_parts 126 c.loop-before.rest.now None c.in_default.ensures.cases (lit< tt) in
    sym c.loop-before.invariant.read ∙ token_last (string_bytes c.loop-before.token) c.loop-before.rest.now plain ∙ ap Some (sym c.in_ok-push_str-2.ensures.bytes)
