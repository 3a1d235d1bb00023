-- A document holds a resource exactly where the URI is one of its resources'.
use Rattle.std.proofs.Common.{◌≡◌, ◌&&◌, Bool, true, false, cond, List, [], ◌∷◌, map, filter, Option, Some, is_some, refl, ap, ◌∙◌}
use Rattle.std.specs.List.{list_any}
use Rattle.definitions.specs.Values.{Text, same_text}
use Rattle.definitions.specs.Schemas.{Schema, is_root}
use Rattle.definitions.specs.Scanning.{resource_uris}
use Rattle.definitions.specs.Targets.{resource_root}

held_at : (same root : Bool) (s : Schema) (u : Text) (o : Option Schema) (rest : List Text) → same_text u s.resource ≡ same → list_any (same_text u) rest ≡ is_some o
    → list_any (same_text u) (cond root (s.resource ∷ rest) rest) ≡ is_some (cond (same && root) (Some s) o)
held_at true true s u o rest e f = rw e refl
held_at true false s u o rest e f = f
held_at false true s u o rest e f = rw e f
held_at false false s u o rest e f = f

uris_at : (root : Bool) (s : Schema) (rest : List Schema)
    → map (λ (t : Schema). t.resource) (cond root (s ∷ rest) rest) ≡ cond root (s.resource ∷ map (λ (t : Schema). t.resource) rest) (map (λ (t : Schema). t.resource) rest)
uris_at true s rest = refl
uris_at false s rest = refl

pub held : (u : Text) (table : List Schema) → list_any (same_text u) (resource_uris table) ≡ is_some (resource_root table u)
held u [] = refl
held u (s ∷ table) =
    ap (list_any (same_text u)) (uris_at (is_root s) s (filter is_root table))
    ∙ held_at (same_text u s.resource) (is_root s) s u (resource_root table u) (resource_uris table) refl (held u table)
