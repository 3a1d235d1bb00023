use Rattle.std.proofs.Common.{◌≡◌, List, refl, ap, sym, ◌∙◌, rules, tests, string_bytes, map}
use Rattle.std.proofs.lemmas.Iterator.{YieldsList-from_slice}
use Rattle.std.proofs.lemmas.Iterator.Search.{any_from_yields_List}
use Rattle.std.specs.Global.{Global}
use Rattle.std.specs.List.{list_any}
use Rattle.std.specs.declared.string.String.{String}
use Rattle.definitions.specs.Reach.{holds_resource}
use Rattle.lemmas.proofs.Lists.{list_any-map}
use Rattle.linker.specs.ListedDocuments.{listed_documents}
use Rattle.linker.specs.Sources.{shares_resource}
use Rattle.linker.proofs.list_source.ListSource.shares_resource.Goals as goal

pub returns : goal.returns
unfolding shares_resource
returns c =
    let items : List (String Global) = c.iter.result.rest.now in
    let some_one : c.any.result ≡ list_any (λ (s : String Global). list_any (holds_resource (string_bytes s)) (listed_documents c.args.self.now)) items =
    any_from_yields_List (λ (s : String Global). list_any (holds_resource (string_bytes s)) (listed_documents c.args.self.now)) _ _ c.any.result c.any.ensures.ran (YieldsList-from_slice items refl) (λ x b q k. search (rules, tests)) in
    some_one
    ∙ sym (list_any-map (λ uri. list_any (holds_resource uri) (listed_documents c.args.self.now)) string_bytes items)
    ∙ ap (list_any (λ uri. list_any (holds_resource uri) (listed_documents c.args.self.now))) (ap (map string_bytes) c.iter.ensures.rest ∙ c.resource_uris.ensures)
