-- The URIs of resources by a name.
use Rattle.std.proofs.Common.{◌≡◌, ◌&&◌, ◌||◌, [], Bool, true, false, cond, Option, Some, String, Global, nat_cmp, option_map, string_bytes, unwrap_or, refl, sym, ap, ap₂, ◌∙◌}
use Rattle.std.specs.BTreeMap.{BTreeMap, get_by_text, is_at}
use Rattle.std.specs.BTreeSet.{BTreeSet, contains_text}
use Rattle.std.specs.Cmp.Lexicographic.{slice_cmp}
use Rattle.std.specs.Map.{lookup}
use Rattle.definitions.specs.Values.{Text, same_text}
use Rattle.lemmas.proofs.Texts.{same_text_is, same_text_turned}
use Rattle.schema_scan.specs.DynamicResources.{has_resource, has_uri}

abbrev pub Uris : Type 0
Uris = BTreeSet (String Global)

abbrev has_among : Text → Option Uris → Bool
has_among uri uris = unwrap_or (option_map (has_uri uri) uris) false

put-in : (a b : Bool) → cond a true b ≡ (b || (a && true))
put-in true true = refl
put-in true false = refl
put-in false true = refl
put-in false false = refl

left-out : (a b : Bool) → b ≡ (b || (a && false))
left-out true true = refl
left-out true false = refl
left-out false true = refl
left-out false false = refl

-- the URIs of a name, with one more
pub resource-added : (old rest new : BTreeMap (String Global) Uris) (before uris : Uris) (uri name : Text)
    → ((n : Text) → get_by_text new n ≡ cond (same_text name n) (Some uris) (get_by_text rest n))
    → ((u : Text) → contains_text uris u ≡ cond (same_text uri u) true (contains_text before u))
    → ((u : Text) → contains_text before u ≡ has_resource old u name)
    → ((n : Text) → same_text n name ≡ false → get_by_text rest n ≡ get_by_text old n)
    → (u n : Text) → has_resource new u n ≡ (has_resource old u n || (same_text u uri && same_text n name))
resource-added old rest new before uris uri name put added taken others u n =
    ap (has_among u) (put n ∙ ap (λ b. cond b (Some uris) (get_by_text rest n)) (same_text_turned name n)) ∙ by (same_text n name) refl
  where
    by : (b : Bool) → same_text n name ≡ b → has_among u (cond b (Some uris) (get_by_text rest n)) ≡ (has_resource old u n || (same_text u uri && b))
    by true e =
        added u
        ∙ ap₂ (λ b o. cond b true o) (same_text_turned uri u) (taken u ∙ ap (has_resource old u) (sym (same_text_is n name e)))
        ∙ put-in (same_text u uri) (has_resource old u n)
    by false e = ap (has_among u) (others n e) ∙ left-out (same_text u uri) (has_resource old u n)

pub nothing-named : (resources : BTreeMap (String Global) Uris) → resources.entries ≡ [] → (uri name : Text) → has_resource resources uri name ≡ false
nothing-named resources e uri name = ap (λ es. has_among uri (lookup (is_at (λ k. slice_cmp nat_cmp name (string_bytes k))) es)) e
