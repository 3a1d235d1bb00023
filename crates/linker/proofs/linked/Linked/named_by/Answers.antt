use Rattle.std.proofs.Common.{None, Ok, ap, find, option_map, refl, string_bytes, ◌∙◌}
use Rattle.definitions.specs.Reach.{holds_resource}
use Rattle.definitions.specs.Targets.{dynamic_by}
use Rattle.linker.specs.LinkedDocuments.{linked_documents, linked_schemas}
use Rattle.uri_ref.specs.FragmentViews.{fragment_view}
use Rattle.linker.proofs.FirstHolders.{target_of_first}
use Rattle.linker.proofs.NamedSchemas.{read}
use Rattle.linker.proofs.linked.Linked.named_by.Goals as goal

pub returns-in-None : goal.returns-in-None
returns-in-None c = λ text is.
    let l = c.args.self.now in
    let r = c.args.named.now in
    let nothing = target_of_first l (string_bytes r.uri) (fragment_view r.fragment) None
    (c.in-None.ensures ∙ ap (λ u. find (holds_resource u) (linked_documents l)) c.as_str.ensures.value) in
    read (linked_schemas l) text r None is nothing (λ scope. ap (option_map (λ first. dynamic_by (linked_schemas l) scope first (Ok (fragment_view r.fragment)))) nothing) tt
