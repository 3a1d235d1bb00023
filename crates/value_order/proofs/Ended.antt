-- Elements that end before others.
use Rattle.std.proofs.Common.{◌≡◌, ℕ, ◌<◌, ◌≤◌, List, [], ◌∷◌, map, length, drop, Less, refl, arith}
use Rattle.std.proofs.lemmas.List.{length-drop}
use Rattle.definitions.specs.Values.{to_elements}
use Rattle.json_doc.specs.Docs.{value}
use Rattle.json_doc.specs.declared.doc.Doc.{Doc}
use Rattle.value_order.specs.Orders.{compared_elements}

none_before_some : (ds es : List Doc) → length ds ≤ 0 → 0 < length es → compared_elements (to_elements (map value ds)) (to_elements (map value es)) ≡ Less
none_before_some [] [] h k = absurd (omega arith)
none_before_some [] (e ∷ es) h k = refl
none_before_some (d ∷ ds) es h k = absurd (omega arith)

pub ended_first : (ds es : List Doc) (i : ℕ) → length ds ≤ i → i < length es
    → compared_elements (to_elements (map value (drop i ds))) (to_elements (map value (drop i es))) ≡ Less
ended_first ds es i h k = none_before_some (drop i ds) (drop i es) (omega (arith, length-drop i ds)) (omega (arith, length-drop i es))
