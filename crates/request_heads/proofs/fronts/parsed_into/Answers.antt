use Rattle.std.proofs.Common.{rules}
use Rattle.request_heads.proofs.Limits.{never_is_hopeless, refused_is_hopeless, has_heading}
use Rattle.request_heads.proofs.Windows.{head_is_window}
use Rattle.request_heads.proofs.fronts.parsed_into.Goals as goal

pub judge-requires-clause-within : goal.judge-requires-clause-within
judge-requires-clause-within c = rw c.in-Ok-Complete.field-0-is at c.in-Ok-Complete.ensures.within

pub judge-requires-clause-whole : goal.judge-requires-clause-whole
judge-requires-clause-whole c =
    let found = rw c.in-Ok-Complete.field-0-is at c.in-Ok-Complete.ensures.complete in
    head_is_window c.args.window.now _ _ found.0 found.1 (rw c.in-Ok-Complete.field-0-is at c.in-Ok-Complete.ensures.within) c.requires.ends

pub returns-in-Some-clause-some : goal.returns-in-Some-clause-some
returns-in-Some-clause-some c more =
    let found = rw c.in-Ok-Complete.field-0-is at c.in-Ok-Complete.ensures.complete in
    has_heading c.args.window.now more _ _ found.0 _ found.1 c.requires.short c.requires.few (c.in-Some.ensures found.0 found.1)

pub returns-in-None-clause-some : goal.returns-in-None-clause-some
returns-in-None-clause-some c more =
    let found = rw c.in-Ok-Complete.field-0-is at c.in-Ok-Complete.ensures.complete in
    refused_is_hopeless c.args.window.now more _ _ found.0 found.1 c.requires.short c.requires.few (c.in-None.ensures found.0 found.1)

pub returns-in-Ok-Partial-clause-none : goal.returns-in-Ok-Partial-clause-none
returns-in-Ok-Partial-clause-none c e = rw c.in-Ok-Partial.field-0-is at c.in-Ok-Partial.ensures.partial

pub returns-in-Err-TooManyHeaders-clause-err : goal.returns-in-Err-TooManyHeaders-clause-err
returns-in-Err-TooManyHeaders-clause-err c =
    let e = c.in-Err-TooManyHeaders.ensures in
    record { no_room = e.no_room; too_many = e.too_many (search rules) }

pub returns-in-Err-clause-some : goal.returns-in-Err-clause-some
returns-in-Err-clause-some c more = never_is_hopeless c.args.window.now more (c.in-Err.ensures.invalid (search rules))
