use Rattle.std.proofs.Common.{◌≡◌, Bor, Contains, IfSome, IsTrue, Option, is_some, option_and_then, subst, ℕ}
use Rattle.definitions.specs.Schemas.{Schema}
use Rattle.definitions.specs.Values.{Text}
use Rattle.linker.specs.LinkedDocuments.{linked_schemas}
use Rattle.linker.specs.ReferenceNumbers.{StandsIn, document_at}
use Rattle.linker.specs.declared.linked.Linked.{Linked}
use Rattle.keyword_plans.proofs.searches.Searches.number.Goals as goal

-- for a schema in the resource of this URI
abbrev Asked : Text → (Bor Linked → Schema → Type 0) → Bor Linked → Type 0
Asked uri P l = (s : Schema) → Contains (linked_schemas l.now) s → s.resource ≡ uri → P l s

-- there is a document of this number
abbrev IsThere : Option ℕ → Bor Linked → Type 0
IsThere n l = IsTrue (is_some (option_and_then (document_at l.now) n))

pub returns-in-Some-clause-text : goal.returns-in-Some-clause-text
returns-in-Some-clause-text c = λ s inside resource has.
    let stands = subst (Asked c.args.resource.now (λ l t. IfSome c.in_ok-document.field-0 (StandsIn l.now t))) c.args.self.now.same c.in_ok-document.ensures.stands in
    c.pattern_number.ensures.text s (subst (λ n. IfSome n (StandsIn c.args.self.now.linked.now s)) c.in-Some.is (stands s inside resource)) has

pub returns-in-Some-clause-there : goal.returns-in-Some-clause-there
returns-in-Some-clause-there c = λ s inside resource.
    let there = subst (Asked c.args.resource.now (λ l t. IsThere c.in_ok-document.field-0 l)) c.args.self.now.same c.in_ok-document.ensures.there in
    c.pattern_number.ensures.there (subst (λ n. IsThere n c.args.self.now.linked) c.in-Some.is (there s inside resource))

pub returns-in-None-clause-there : goal.returns-in-None-clause-there
returns-in-None-clause-there c = λ s inside resource.
    let there = subst (Asked c.args.resource.now (λ l t. IsThere c.in_ok-document.field-0 l)) c.args.self.now.same c.in_ok-document.ensures.there in
    subst (λ n. IsThere n c.args.self.now.linked) c.in-None.is (there s inside resource)
