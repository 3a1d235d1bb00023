-- The entries of a cache: each document is what its own key says.
use Rattle.std.specs.Prelude.{◌≡◌, List, [], ◌∷◌, Ok}
use Rattle.std.specs.Global.{Global}
use Rattle.std.specs.declared.rc.Rc.{Rc}
use Rattle.definitions.specs.Caches.{CacheKey}
use Rattle.definitions.specs.Texts.{parsed_value}
use Rattle.schema_scan.specs.CompiledDocuments.{compiled_base, compiled_value}
use Rattle.schema_scan.specs.declared.compiled.Compiled.{Compiled}

abbrev pub Entry : Type 0
Entry = Rc CacheKey Global × Rc Compiled Global

-- the document stands under the key's base, and has the value that the key's text is read as
abbrev pub IsMadeBy : CacheKey → Compiled → Type 0
IsMadeBy k c = (compiled_base c ≡ k.0) × (parsed_value k.1 ≡ Ok (compiled_value c))

abbrev pub AreMade : List Entry → Type 0
AreMade [] = Unit {0}
AreMade (e ∷ es) = IsMadeBy e.0.value e.1.value × AreMade es
