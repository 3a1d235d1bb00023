-- What contracts see of a dynamic scope.
use Rattle.std.specs.Prelude.{List, map}
use Rattle.std.specs.Borrow.{Bor}
use Rattle.definitions.specs.Values.{Text}
use Rattle.linker.specs.declared.linked.Linked.{Linked}
use Rattle.keyword_plans.specs.FollowedIn.{followed_in}
use Rattle.keyword_plans.specs.declared.dynamic_scope.DynamicScope.{DynamicScope}

-- the URIs of its resources, the outermost first
abbrev pub scope_uris : DynamicScope → List Text
scope_uris s = map (λ uri. uri.now) s.uris.items

-- the documents that the references stand in
abbrev pub scope_documents : DynamicScope → Bor Linked
scope_documents s = followed_in s.references
