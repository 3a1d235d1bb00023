-- What the kind of a fragment stands for.
use Rattle.std.specs.Prelude.{string_bytes}
use Rattle.definitions.specs.Fragments.{Fragment, no_fragment, tokens, plain_name}
use Rattle.uri_ref.specs.declared.fragments.FragmentKind.{FragmentKind}
use Rattle.uri_ref.specs.declared.fragments.FragmentKind.TheVariants.{Empty, Pointer, Name}

abbrev pub fragment_view : FragmentKind → Fragment
fragment_view Empty = no_fragment
fragment_view (Pointer p) = tokens p
fragment_view (Name s) = plain_name (string_bytes s)
