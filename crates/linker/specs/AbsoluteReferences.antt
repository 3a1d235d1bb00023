-- What an absolute reference names among the schemas of linked documents.
use Rattle.std.specs.Prelude.{List, Option, option_map, Ok, string_bytes}
use Rattle.definitions.specs.Values.{Text}
use Rattle.definitions.specs.Schemas.{Schema}
use Rattle.definitions.specs.Targets.{target_by, dynamic_by}
use Rattle.uri_ref.specs.FragmentViews.{fragment_view}
use Rattle.uri_ref.specs.declared.absolute_references.AbsoluteReference.{AbsoluteReference}

abbrev pub target_of : List Schema → AbsoluteReference → Option Schema
target_of table r = target_by table (string_bytes r.uri) (fragment_view r.fragment)

-- what a dynamic one names
abbrev pub dynamic_target_of : List Schema → List Text → AbsoluteReference → Option Schema
dynamic_target_of table scope r = option_map (λ first. dynamic_by table scope first (Ok (fragment_view r.fragment))) (target_of table r)
