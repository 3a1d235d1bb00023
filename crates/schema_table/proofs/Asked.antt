-- What the shapes that a value alone decides ask.
use Rattle.std.proofs.Common.{◌≡◌, [], ◌∷◌, Bool, true, false, None, refl}
use Rattle.definitions.specs.Values.{Text, Value}
use Rattle.definitions.specs.Shapes as meaning
use Rattle.keywords.specs.Shapes.{fits_shape, shape_view}
use Rattle.keywords.specs.declared.shape.Shape.{Shape}
use Rattle.keywords.specs.declared.shape.Shape.TheVariants.{Reference, Identifier, AnchorName, Dialect}
use Rattle.schema_table.specs.Missteps.{wrong_shape, is_as_asked, misstep_at, shape_missteps}
use Rattle.schema_table.specs.Openings.{id_under}
use Rattle.schema_table.specs.Refusals.{Refuses}
use Rattle.schema_table.specs.declared.refusal.Refusal.{Refusal}

pub asked-shape : (s : Shape) (base : Text) (at_root : Bool) (v : Value) → (s ≡ Reference → ⊥) → (s ≡ Identifier → ⊥) → (s ≡ Dialect → ⊥)
    → fits_shape (shape_view s) v ≡ is_as_asked (shape_view s) base at_root v
asked-shape Reference base at_root v r i d = absurd (r refl)
asked-shape Identifier base at_root v r i d = absurd (i refl)
asked-shape Dialect base at_root v r i d = absurd (d refl)
asked-shape _ base at_root v r i d = refl

pub misstep-shape : (s : Shape) (name : Text) → (s ≡ Identifier → ⊥) → (s ≡ AnchorName → ⊥) → (s ≡ Dialect → ⊥) → wrong_shape (name ∷ []) ≡ misstep_at (shape_view s) name
misstep-shape Identifier name i n d = absurd (i refl)
misstep-shape AnchorName name i n d = absurd (n refl)
misstep-shape Dialect name i n d = absurd (d refl)
misstep-shape _ name i n d = refl

-- no other shape is an `$id`'s
pub none_under : (s : Shape) (v : Value) → (s ≡ Identifier → ⊥) → None ≡ id_under (shape_view s) v
none_under Identifier v i = absurd (i refl)
none_under _ v i = refl

pub no_missteps : (s : meaning.Shape) (base : Text) (at_root : Bool) (name : Text) (v : Value) → true ≡ is_as_asked s base at_root v → shape_missteps s base at_root name v ≡ []
unfolding shape_missteps
no_missteps s base at_root name v e = rw (← e) refl

pub one_misstep : (r : Refusal) (s : meaning.Shape) (base : Text) (at_root : Bool) (name : Text) (v : Value) → false ≡ is_as_asked s base at_root v
    → Refuses r (misstep_at s name ∷ []) → Refuses r (shape_missteps s base at_root name v)
unfolding shape_missteps
one_misstep r s base at_root name v e h = rw (← e) h
