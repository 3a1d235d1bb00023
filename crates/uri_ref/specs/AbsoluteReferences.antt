-- What the text of an absolute reference is read as: the URI of a resource, and what the fragment names there.
use Rattle.std.specs.Prelude.{◌≡◌, Option, Some, None, Result, Ok, is_err, IsTrue, string_bytes}
use Rattle.definitions.specs.Values.{Text}
use Rattle.definitions.specs.Faults.{Fault}
use Rattle.definitions.specs.Fragments.{Fragment}
use Rattle.definitions.specs.Targets.{fragment_of}
use Rattle.definitions.specs.Uris.{without_fragment}
use Rattle.uri_ref.specs.FragmentViews.{fragment_view}
use Rattle.uri_ref.specs.declared.absolute_references.AbsoluteReference.{AbsoluteReference}
use Rattle.uri_ref.specs.declared.fragments.FragmentKind.{FragmentKind}

-- none where there is a fault
abbrev pub IsShownBy : Result Fragment Fault → Option FragmentKind → Type 0
IsShownBy read None = IsTrue (is_err read)
IsShownBy read (Some kind) = read ≡ Ok (fragment_view kind)

-- none where the fragment can't be read
abbrev pub IsReadAs : Text → Option AbsoluteReference → Type 0
IsReadAs text None = IsTrue (is_err (fragment_of text))
IsReadAs text (Some r) = (string_bytes r.uri ≡ without_fragment text) × (fragment_of text ≡ Ok (fragment_view r.fragment))
