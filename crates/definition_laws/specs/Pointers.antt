-- What the laws say of a pointer and its text (RFC 6901, sections 3 and 4).
use Rattle.std.specs.Prelude.{◌≡◌, Some}
use Rattle.definitions.specs.Values.{Text}
use Rattle.definitions.specs.Pointers.{Pointer, pointer_text, pointer_of}

-- the text of a pointer is read back as its tokens
abbrev pub PointersAreReadBack : Type 0
PointersAreReadBack = (p : Pointer) → pointer_of (pointer_text p) ≡ Some p

-- a text that is read as a pointer is that pointer's text, so that no two texts are read as one pointer
abbrev pub ReadPointersHaveOneText : Type 0
ReadPointersHaveOneText = (t : Text) (p : Pointer) → pointer_of t ≡ Some p → pointer_text p ≡ t
