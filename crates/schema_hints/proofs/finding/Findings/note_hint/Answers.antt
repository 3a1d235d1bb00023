use Rattle.std.proofs.Common.{◌≡◌, ap, sym, subst, ◌∙◌, Contains, string_bytes}
use Rattle.std.proofs.lemmas.List.Elements.{All-push}
use Rattle.definitions.specs.Values.{members}
use Rattle.json_doc.specs.Docs.{value}
use Rattle.schema_hints.specs.HintViews.{AreOfSchemas, IsOfSchema}
use Rattle.schema_hints.specs.SchemaPlaces.{extended}
use Rattle.schema_hints.proofs.finding.Findings.note_hint.Goals as goal

pub returns-in_err-push : goal.returns-in_err-push
returns-in_err-push c = λ d v at there old. subst (AreOfSchemas d) (sym c.in_err-push.ensures.items) old

pub returns : goal.returns
returns c =
    let h = c.in_ok-hint.hint in
    let above = string_bytes c.args.place.now.location in
    let w = value c.args.member.now in
    let e = c.in_ok-hint.ensures in
    let same : string_bytes h.location ≡ extended above (string_bytes h.name) =
    e.1 ∙ ap (λ l. extended l c.args.name.now) c.as_str.ensures.value ∙ ap (extended above) (sym e.0) in
    λ d v at there old.
    let named : Contains (members v) (string_bytes h.name, w) = subst (λ n. Contains (members v) (n, w)) (sym e.0) there in
    let is : IsOfSchema d (string_bytes h.name) (string_bytes h.location) = (above, v, w, at, named, same) in
    subst (AreOfSchemas d) (sym c.in_ok-push.ensures.items) (All-push (λ g. IsOfSchema d (string_bytes g.name) (string_bytes g.location)) _ h old is)
