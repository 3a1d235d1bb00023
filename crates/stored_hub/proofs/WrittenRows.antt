-- The rows of documents that are written one after the other.
use Rattle.std.proofs.Common.{◌≡◌, Bool, List, [], ◌∷◌, ◌++◌, Option, Some, None, Result, Ok, Err, OnOk, option_map, refl, sym, ap, ◌∙◌, subst}
use Rattle.std.specs.Prelude.{option_and_then}
use Rattle.definitions.specs.Documents.{document_of}
use Rattle.definitions.specs.Registries.{Registry, stored_all}
use Rattle.definitions.specs.Schemas.{Document}
use Rattle.definitions.specs.Services.{KeyedRegistry, registry_of}
use Rattle.definitions.specs.Texts.{text}
use Rattle.definitions.specs.Values.{Text, same_text}
use Rattle.lemmas.proofs.SomeValues.{some_same}
use Rattle.lemmas.proofs.Texts.{same_text_is}
use Rattle.definition_laws.proofs.Membership.{found_there}
use Rattle.stored_rows.specs.Rows.{Row, Ascend, HasNoRow, digest, document_at, with_document, with_each, with_row, row_of}
use Rattle.stored_rows.proofs.RowOrder.{ascend_with}
use Rattle.stored_hub.specs.Storing.{WritesInto, WritesNew, WritesReply}
use Rattle.tenant_documents.specs.StoredTexts.{stored_texts}
use Rattle.tenant_hub.specs.PutBack.{stored_texts_of}

-- ---- a document
pub ascend_document : (key : Text) (o : Option Document) (rows : List Row) → Ascend rows → Ascend (with_document key o rows)
ascend_document key None rows ascend = ascend
ascend_document key (Some d) rows ascend = ascend_with (row_of key d) rows ascend

-- ---- several
pub ascend_each : (key : Text) (ks : List KeyedRegistry) (us : List (Text × Bool)) (rows : List Row) → Ascend rows → Ascend (with_each key ks us rows)
ascend_each key ks [] rows ascend = ascend
ascend_each key ks (u ∷ us) rows ascend =
    ascend_each key ks us (with_document key (document_at ks key u.0) rows) (ascend_document key (document_at ks key u.0) rows ascend)

pub with_each-snoc : (key : Text) (ks : List KeyedRegistry) (us : List (Text × Bool)) (u : Text × Bool) (rows : List Row)
    → with_each key ks (us ++ u ∷ []) rows ≡ with_document key (document_at ks key u.0) (with_each key ks us rows)
with_each-snoc key ks [] u rows = refl
with_each-snoc key ks (v ∷ us) u rows = with_each-snoc key ks us u (with_document key (document_at ks key v.0) rows)

-- one more is written
pub one_more : {D : Type 0} (holds : D → List Row → Type 0) (first before after : D) (key : Text) (ks : List KeyedRegistry) (us : List (Text × Bool)) (u : Text × Bool)
    → WritesInto holds first (with_each key ks us) before → WritesInto holds before (with_document key (document_at ks key u.0)) after
    → WritesInto holds first (with_each key ks (us ++ u ∷ [])) after
one_more holds first before after key ks us u earlier now rs ascend held =
    subst (holds after) (sym (with_each-snoc key ks us u rs)) (now (with_each key ks us rs) (ascend_each key ks us rs ascend) (earlier rs ascend held))

-- ---- the document whose texts a hub tells
pub record HasTexts (ks : List KeyedRegistry) (key uri base txt : Text) : Type 0 where
  pub document : Document
  pub there : document_at ks key uri ≡ Some document
  pub own_base : document.base ≡ base
  pub own_text : text document.value ≡ txt
  pub own_uri : document.canonical ≡ uri

abbrev texts : Document → Text × Text
texts d = (d.base, text d.value)

pair_parts : {a b c d : Text} → ◌≡◌ {A = Option (Text × Text)} (Some (a, b)) (Some (c, d)) → (a ≡ c) × (b ≡ d)
pair_parts e = let same = some_same e in (ap (λ (p : Text × Text). p.0) same, ap (λ (p : Text × Text). p.1) same)

in_registry : (ks : List KeyedRegistry) (key uri base txt : Text) (g : Registry) (o : Option Document) → registry_of ks key ≡ Some g → document_of g.documents uri ≡ o
    → option_map texts o ≡ Some (base, txt) → HasTexts ks key uri base txt
in_registry ks key uri base txt g None e f h = cc
in_registry ks key uri base txt g (Some d) e f h =
    let same = pair_parts h in
    record {
      document = d;
      there = ap (option_and_then (λ i. document_of i.documents uri)) e ∙ f;
      own_base = same.0;
      own_text = same.1;
      own_uri = sym (same_text_is uri d.canonical (found_there (λ (x : Document). same_text uri x.canonical) g.documents d f).1);
    }

by_registry : (ks : List KeyedRegistry) (key uri base txt : Text) (o : Option Registry) → registry_of ks key ≡ o
    → option_and_then (λ g. stored_texts g uri) o ≡ Some (base, txt) → HasTexts ks key uri base txt
by_registry ks key uri base txt None e h = cc
by_registry ks key uri base txt (Some g) e h = in_registry ks key uri base txt g (document_of g.documents uri) e refl h

pub has_texts : (ks : List KeyedRegistry) (key uri base txt : Text) → stored_texts_of ks key uri ≡ Some (base, txt) → HasTexts ks key uri base txt
has_texts ks key uri base txt e = by_registry ks key uri base txt (registry_of ks key) refl e

abbrev row_with : Text → Text → Text → Text → Row
row_with tenant uri base txt = record { tenant = tenant; uri = uri; base = base; text = txt }

-- its row
pub row_there : (ks : List KeyedRegistry) (key tenant uri base txt : Text) (rows : List Row) → tenant ≡ digest key → stored_texts_of ks key uri ≡ Some (base, txt)
    → with_document key (document_at ks key uri) rows ≡ with_row (row_with tenant uri base txt) rows
row_there ks key tenant uri base txt rows same e =
    let t = has_texts ks key uri base txt e in
    ap (λ o. with_document key o rows) t.there
    ∙ ap (λ r. with_row r rows)
    (ap (λ k. row_with k t.document.canonical t.document.base (text t.document.value)) (sym same)
    ∙ ap (λ u. row_with tenant u t.document.base (text t.document.value)) t.own_uri
    ∙ ap (λ b. row_with tenant uri b (text t.document.value)) t.own_base ∙ ap (row_with tenant uri base) t.own_text)

-- none
no_document : (o : Option Registry) (uri : Text) → option_and_then (λ g. stored_texts g uri) o ≡ None → option_and_then (λ g. document_of g.documents uri) o ≡ None
no_document None uri e = refl
no_document (Some g) uri e = none_inside (document_of g.documents uri) e
  where
    none_inside : (o : Option Document) → option_map texts o ≡ None → o ≡ None
    none_inside None h = refl
    none_inside (Some d) h = cc

pub no_row_there : (ks : List KeyedRegistry) (key uri : Text) (rows : List Row) → stored_texts_of ks key uri ≡ None → with_document key (document_at ks key uri) rows ≡ rows
no_row_there ks key uri rows e = ap (λ o. with_document key o rows) (no_document (registry_of ks key) uri e)

pub document_written : {D T E : Type 0} (holds : D → List Row → Type 0) (before after : D) (r : Result T E) (ks : List KeyedRegistry) (key tenant uri base txt : Text)
    → tenant ≡ digest key → stored_texts_of ks key uri ≡ Some (base, txt)
    → OnOk r ((rows : List Row) → Ascend rows → holds before rows → holds after (with_row (row_with tenant uri base txt) rows))
    → OnOk r (WritesInto holds before (with_document key (document_at ks key uri)) after)
document_written holds before after (Ok x) ks key tenant uri base txt same told put =
    λ rows up held. subst (holds after) (sym (row_there ks key tenant uri base txt rows same told)) (put rows up held)
document_written holds before after (Err e) ks key tenant uri base txt same told put = tt

pub new_written : {D T E : Type 0} (holds : D → List Row → Type 0) (before after : D) (r : Result T E) (ks : List KeyedRegistry) (key tenant uri base txt : Text)
    → tenant ≡ digest key → stored_texts_of ks key uri ≡ Some (base, txt)
    → OnOk r ((rows : List Row) → Ascend rows → HasNoRow tenant uri rows → holds before rows → holds after (with_row (row_with tenant uri base txt) rows))
    → OnOk r (WritesNew holds before tenant uri (with_document key (document_at ks key uri)) after)
new_written holds before after (Ok x) ks key tenant uri base txt same told put =
    λ rows up none held. subst (holds after) (sym (row_there ks key tenant uri base txt rows same told)) (put rows up none held)
new_written holds before after (Err e) ks key tenant uri base txt same told put = tt

-- ---- what the reply to a batch says
pub all_written : {D T E : Type 0} (holds : D → List Row → Type 0) (before after : D) (r : Result T E) (key : Text) (ks : List KeyedRegistry) (us : List (Text × Bool))
    → OnOk r (WritesInto holds before (with_each key ks us) after) → OnOk r (WritesReply holds before key ks (stored_all us) after)
all_written holds before after (Ok x) key ks us put = λ rows up none held. put rows up held
all_written holds before after (Err e) key ks us put = tt
