-- Objects by their members.
use Rattle.std.proofs.Common.{◌≡◌, sym, ap, ◌∙◌, ◌∷◌, [], List, refl, codes}
use Rattle.definitions.specs.Values.{Text, Value, object, to_members}
use Rattle.definitions.specs.Schemas.{Document}
use Rattle.definitions.specs.Bundles.{put_member, with_member, members_with_documents, defs_of, under_its_uri, bundle_of}
use Rattle.lemmas.proofs.Members.{to_members-members_list}
use Rattle.json_doc.specs.Docs.{value, members_view, members_value}
use Rattle.json_doc.specs.declared.doc.Doc.{Dict}
use Rattle.json_doc.specs.declared.members.Members.{Members}
use Rattle.json_doc.proofs.Views.{value-Dict}

pub dict_value : (m : Members) → value (Dict m) ≡ object (to_members (members_value m))
dict_value m = value-Dict m ∙ ap object (sym (to_members-members_list (members_view m)))

pub dict_with : (n : Text) (v : Value) (before after : Members) → members_value after ≡ put_member n v (members_value before) → value (Dict after) ≡ with_member n v (value (Dict before))
dict_with n v before after e = dict_value after ∙ ap (λ ms. object (to_members ms)) e ∙ ap (with_member n v) (sym (value-Dict before))

pub bundle_with : (root : Document) (others : List Document) → (others ≡ [] → ⊥)
    → with_member (codes "$defs") (object (to_members (members_with_documents others (defs_of root.value)))) (under_its_uri root) ≡ bundle_of root others
bundle_with root [] some = absurd (some refl)
bundle_with root (d ∷ ds) some = refl
