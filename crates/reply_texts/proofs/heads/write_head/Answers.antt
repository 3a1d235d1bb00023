use Rattle.std.proofs.Common.{◌≡◌, ◌++◌, ap, ◌∙◌, append_assoc}
use Rattle.std.specs.Prelude.{decimal, string_bytes}
use Rattle.http_definitions.specs.ReplyTexts.{status_line}
use Rattle.reply_texts.specs.Heads.{before_length, behind_length}
use Rattle.lemmas.proofs.Appended.{appended}
use Rattle.reply_texts.proofs.heads.write_head.Goals as goal

pub returns : goal.returns
returns c =
    let old = string_bytes c.args.out.now in
    let first = string_bytes c.write_status_line.new.out in
    let second = string_bytes c.push_str.new.self in
    let third = string_bytes c.write_number.new.out in
    let fourth = string_bytes c.push_str-2.new.self in
    let a = status_line c.args.status in
    let b = before_length in
    let d = decimal c.args.length in
    let e = behind_length c.args.closes in
    let at_first : first ≡ old ++ a = c.in_ok-write_status_line.ensures ∙ ap (λ t. t ++ a) c.in_ok-reserve.ensures.bytes in
    let at_second : second ≡ old ++ (a ++ b) = appended old first second a b at_first c.in_ok-push_str.ensures.bytes in
    let at_third : third ≡ old ++ ((a ++ b) ++ d) = appended old second third (a ++ b) d at_second c.in_ok-write_number.ensures in
    let behind : fourth ≡ third ++ e = c.in_ok-push_str-2.ensures.bytes ∙ ap (λ t. third ++ t) c.behind_length.ensures in
    appended old third fourth ((a ++ b) ++ d) e at_third behind ∙ ap (λ t. old ++ t) (append_assoc (a ++ b) d e ∙ append_assoc a b (d ++ e))
