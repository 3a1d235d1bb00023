-- A bundle of documents with identifiers passes the scan, and stands alone.
use Rattle.std.proofs.Common.{◌≡◌, ◌||◌, suc, List, [], ◌∷◌, Bool, true, false, cond, Option, Some, None, Ok, Err, nat_lt, length, refl, sym, ap, subst, ◌∙◌}
use Rattle.definitions.specs.Values.{Text, Value, nesting, is_object}
use Rattle.definitions.specs.Texts.{text}
use Rattle.definitions.specs.Faults.{bundle_too_large}
use Rattle.definitions.specs.Schemas.{Document, schema_at}
use Rattle.definitions.specs.Scanning.{subtree_faults, scan_fault}
use Rattle.definitions.specs.Bundles.{clash, bundle_of, under_its_uri, value_or_too_large, bundle_unless, bundle_from}
use Rattle.definitions.specs.Documents.{document_of, others_of}
use Rattle.definitions.specs.Limits.{limits}
use Rattle.definitions.specs.Searches.{Search, is_regular}
use Rattle.definition_laws.specs.Bundling.{AreWhole}
use Rattle.definition_laws.proofs.Occurrences.{contains_from_in}
use Rattle.definition_laws.proofs.MembersPut.{is_object-with}
use Rattle.definition_laws.proofs.Bundled.{made_of, bundle_parts, bundles_are_alike, bundles_answer_the_same, bundles_keep_their_uri, bundles_keep_the_resources}
use Rattle.definition_laws.proofs.MadeBundles.{IsMade, top_is}
use Rattle.bundle_laws.specs.Standing.{IsBundle, BundlesPassTheScan, BundlesAreRegular, BundlesStandAlone}
use Rattle.bundle_laws.proofs.Walks.{walked_faultless}
use Rattle.bundle_laws.proofs.Scans.{passed}
use Rattle.bundle_laws.proofs.RegisteredDocuments.{identified_documents_are_whole}
use Rattle.bundle_laws.proofs.BundledWalks.{bundle_faultless}
use Rattle.bundle_laws.proofs.BundledNames.{uris_once, anchors_once, bundle_regular}

-- ---- a bundle that is made is within its limits
pub record IsSized (v : Value) : Type 0 where
  pub short : nat_lt limits.bundle_bytes (length (text v)) ≡ false
  pub shallow : nat_lt limits.bundle_nesting (nesting v) ≡ false

neither : (a b : Bool) → (a || b) ≡ false → (a ≡ false) × (b ≡ false)
neither true b h = cc
neither false b h = (refl, h)

sized_within : (w v : Value) → value_or_too_large w ≡ Ok v → IsSized w
sized_within w v e = by (nat_lt limits.bundle_bytes (length (text w)) || nat_lt limits.bundle_nesting (nesting w)) refl e
  where
    by : (b : Bool) → (nat_lt limits.bundle_bytes (length (text w)) || nat_lt limits.bundle_nesting (nesting w)) ≡ b → cond b (Err bundle_too_large) (Ok w) ≡ Ok v → IsSized w
    by true f g = absurd (cc)
    by false f g = let p = neither (nat_lt limits.bundle_bytes (length (text w))) (nat_lt limits.bundle_nesting (nesting w)) f in record { short = p.0; shallow = p.1 }

sized_unless : (o : Option Text) (root : Document) (others : List Document) (v : Value) → bundle_unless o root others ≡ Ok v → IsSized (bundle_of root others)
sized_unless None root others v e = sized_within (bundle_of root others) v e
sized_unless (Some key) root others v e = absurd (cc)

-- ---- what a bundle is made of
pub record IsFrom (search : Search) (ds : List Document) (uri : Text) (v : Value) : Type 0 where
  pub root : Document
  pub found : document_of ds uri ≡ Some root
  pub made : IsMade ds root (others_of uri ds)
  pub within : IsSized v
  pub is : v ≡ bundle_of root (others_of uri ds)

parts_by : (search : Search) (ds : List Document) (uri : Text) (v : Value) → AreWhole ds → (root : Document) → document_of ds uri ≡ Some root
    → clash root (others_of uri ds) ≡ None → v ≡ bundle_of root (others_of uri ds) → bundle_unless (clash root (others_of uri ds)) root (others_of uri ds) ≡ Ok v → IsFrom search ds uri v
parts_by search ds uri v whole root found apart is e = record {
  root = root;
  found = found;
  made = made_of ds uri root whole found apart;
  within = subst IsSized (sym is) (sized_unless (clash root (others_of uri ds)) root (others_of uri ds) v e);
  is = is;
}

pub bundle_from_documents : (search : Search) (ds : List Document) (uri : Text) (v : Value) → IsBundle search ds uri v → IsFrom search ds uri v
bundle_from_documents search ds uri v b =
    let parts = bundle_parts (document_of ds uri) (others_of uri ds) v b.made in
    let root : Document = parts.0 in
    let e : bundle_unless (clash root (others_of uri ds)) root (others_of uri ds) ≡ Ok v =
    subst (λ o. bundle_from o (others_of uri ds) ≡ Ok v) parts.1 b.made in
    parts_by search ds uri v (identified_documents_are_whole search ds b.documents b.linked) root parts.1 (parts.2).0 (parts.2).1 e

object_bundle : (root : Document) (others : List Document) → is_object root.value ≡ true → is_object (bundle_of root others) ≡ true
object_bundle root [] h = is_object-with _ _ root.value h
object_bundle root (d ∷ es) h = is_object-with _ _ (under_its_uri root) (is_object-with _ _ root.value h)

-- ---- the laws
pub bundles_pass_the_scan : BundlesPassTheScan
bundles_pass_the_scan search ds uri base v b =
    let p = bundle_from_documents search ds uri v b in
    let root : Document = p.root in
    let others : List Document = others_of uri ds in
    let w : Value = bundle_of root others in
    let within : IsSized w = subst IsSized p.is p.within in
    let shaped : is_object root.value ≡ true = p.made.whole.objects root (contains_from_in ds root p.made.root_in) in
    let walk : subtree_faults (suc (nesting w)) base [] (schema_at base [] w) ≡ [] =
    ap (subtree_faults (suc (nesting w)) base []) (top_is ds root others p.made base)
    ∙ walked_faultless (suc (nesting w)) base [] _ (bundle_faultless search ds b.documents root others p.made (suc (nesting w)) base) in
    subst (λ x. scan_fault base x ≡ None) (sym p.is)
    (passed base w (record {
      object = object_bundle root others shaped;
      shallow = within.shallow;
      walk = walk;
      uris = uris_once search ds b.documents uri root p.made base p.found;
      anchors = anchors_once search ds b.documents uri root p.made base p.found;
    }))

pub bundles_are_regular : BundlesAreRegular
bundles_are_regular search ds uri v b =
    let p = bundle_from_documents search ds uri v b in
    subst (λ x. is_regular search x ≡ true) (sym p.is) (bundle_regular search ds b.documents uri p.root p.made)

pub bundles_stand_alone : BundlesStandAlone
bundles_stand_alone search ds uri base v b =
    let whole : AreWhole ds = identified_documents_are_whole search ds b.documents b.linked in
    record {
      faultless = bundles_pass_the_scan search ds uri base v b;
      regular = bundles_are_regular search ds uri v b;
      canonical = bundles_keep_their_uri ds uri base v whole b.made;
      resources = bundles_keep_the_resources ds uri base v whole b.made;
      alike = bundles_are_alike ds uri base v whole b.made;
      answers = λ matches x. bundles_answer_the_same matches ds uri base v x whole b.made;
    }
