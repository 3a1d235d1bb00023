use Rattle.std.proofs.Common.{◌==◌, [], ◌∷◌, map, length, string_bytes, sym, ◌∙◌, arith, lit<}
use Rattle.std.proofs.lemmas.Iterator.Consumers.{YieldsList-turn, YieldsList-end}
use Rattle.std.proofs.lemmas.Iterator.Splits.{YieldsList-from_str_split}
use Rattle.std.proofs.lemmas.List.{length_push, map-append}
use Rattle.std.proofs.lemmas.Result.{err_from_is_err_and}
use Rattle.std.specs.List.{slice_split}
use Rattle.json_pointer.proofs.Unescaped.{tokens_more, tokens_none, tokens_all}
use Rattle.json_pointer.proofs.pointer.parsing.tokens_of.Goals as goal

pub returns-in_err-token_of-clause-err : goal.returns-in_err-token_of-clause-err
returns-in_err-token_of-clause-err c =
    let l = c.loop-part in
    let parts = slice_split (λ d. d == 47) c.args.text.now in
    let p = err_from_is_err_and c.from_residual.result c.from_residual.ensures.1 in
    let turn = YieldsList-turn (YieldsList-from_str_split 47 c.args.text.now (lit< tt) (cc) (cc) (cc)) l.yielded _ l.yielded_by _ _ c.in-Some.part c.in-Some.is c.next.ensures.steps in
    rw (p.1, p.2) (λ other. let f = c.in_err-token_of.ensures.err other in (f.0, sym l.invariant ∙ tokens_none (map string_bytes l.tokens.items) parts (length l.yielded) c.in-Some.part.now turn.0 turn.1 f.1))

pub loop-part-preserved : goal.loop-part-preserved
loop-part-preserved c =
    let l = c.loop-part in
    let parts = slice_split (λ d. d == 47) c.args.text.now in
    let turn = YieldsList-turn (YieldsList-from_str_split 47 c.args.text.now (lit< tt) (cc) (cc) (cc)) l.yielded _ l.yielded_by _ _ c.in-Some.part c.in-Some.is c.next.ensures.steps in
    let more = tokens_more (map string_bytes l.tokens.items) parts (length l.yielded) c.in-Some.part.now (string_bytes c.in_ok-token_of.field-0) turn.0 turn.1 c.in_ok-token_of.ensures.ok in
    rw (c.in_ok-push.ensures.items, length_push l.yielded c.in-Some.part, map-append string_bytes l.tokens.items (c.in_ok-token_of.field-0 ∷ [])) (more ∙ l.invariant)

pub returns-clause-ok : goal.returns-clause-ok
returns-clause-ok c =
    let l = c.loop-part in
    let parts = slice_split (λ d. d == 47) c.args.text.now in
    let end = YieldsList-end (YieldsList-from_str_split 47 c.args.text.now (lit< tt) (cc) (cc) (cc)) l.yielded _ l.yielded_by _ _ c.in-None.is c.next.ensures.steps in
    sym l.invariant ∙ tokens_all (map string_bytes l.tokens.items) parts (length l.yielded) (omega (arith, end.1))
