use Rattle.std.proofs.Common.{refl, sym, ap, ◌∙◌, rules}
use Rattle.definitions.specs.Values.{entry}
use Rattle.http_definitions.specs.Heads.{methods}
use Rattle.request_heads.proofs.KeptHeadings.{fields_within, unknown_method, body_by_fields, heading_is}
use Rattle.request_heads.proofs.headings.judge.Goals as goal

pub body_length-requires : goal.body_length-requires
body_length-requires c = fields_within c.args.window.now c.args.headers.now _ c.args.head c.requires.within c.requires.whole refl

pub first_named-requires : goal.first_named-requires
first_named-requires c = fields_within c.args.window.now c.args.headers.now _ c.args.head c.requires.within c.requires.whole refl

pub is_last-requires : goal.is_last-requires
is_last-requires c = fields_within c.args.window.now c.args.headers.now _ c.args.head c.requires.within c.requires.whole refl

pub returns-in-None : goal.returns-in-None
returns-in-None c h at =
    unknown_method c.args.window.now c.args.headers.now c.args.head h at
    (ap (λ t. entry t methods) (sym c.of-name.ensures) ∙ c.in-None.ensures.none (search rules))

pub returns-in-None-body_length : goal.returns-in-None-body_length
returns-in-None-body_length c h at =
    sym (body_by_fields c.args.window.now c.args.headers.now _ c.args.head h c.in-Some.method c.must_tell.result at refl (c.in-Some.ensures.some ∙ c.of-name.ensures) c.must_tell.ensures)
    ∙ sym c.in-None-body_length.ensures

pub returns-in-Some-body_length : goal.returns-in-Some-body_length
returns-in-Some-body_length c h at =
    heading_is c.args.window.now c.args.headers.now _ c.args.head h _ at c.requires.within c.requires.whole refl
    (record {
      head_len = refl;
      target = refl;
      method = c.in-Some.ensures.some ∙ c.of-name.ensures;
      key = c.first_named.ensures.value;
      key_within = c.first_named.ensures.within;
      is_last = c.is_last.ensures;
    })
    (sym (body_by_fields c.args.window.now c.args.headers.now _ c.args.head h c.in-Some.method c.must_tell.result at refl (c.in-Some.ensures.some ∙ c.of-name.ensures) c.must_tell.ensures)
    ∙ sym c.in-Some-body_length.ensures)
