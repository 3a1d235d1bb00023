-- Which documents of a tenant and its library hold a URI, or have it as their canonical one.
use Rattle.std.proofs.Common.{◌≡◌, Bool, true, false, not, List, Option, Some, None, is_some, Contains, find, sym, refl, ap, ◌∙◌, true≢false}
use Rattle.std.proofs.lemmas.Bool.{false_from_ne_true}
use Rattle.std.specs.List.{list_any}
use Rattle.definitions.specs.Documents.{document_of, others_of, documents_of_both, AreSound}
use Rattle.definitions.specs.Reach.{holds_resource}
use Rattle.definitions.specs.Schemas.{Document}
use Rattle.definitions.specs.Values.{Text, same_text}
use Rattle.lemmas.proofs.Texts.{same_text_is}
use Rattle.definition_laws.proofs.Membership.{in_filter, from_filter, found_there, found_some, any_at}
use Rattle.definition_laws.proofs.Repeats.{any_none}
use Rattle.definition_laws.proofs.Resources.{one_document}
use Rattle.linker.specs.Sources.{shares_resource}
use Rattle.linker.specs.Together.{together_sound}
use Rattle.linker.proofs.BothSources.{found_in_first, found_in_second}
use Rattle.linker.proofs.CanonicalHolders.{own_resource}
use Rattle.linker.proofs.Tables.{no_holder}
use Rattle.tenant_documents.specs.Puts.{is_named, is_named_otherwise}

-- ---- held by a document with another canonical URI
abbrev IsElse : Text → Document → Bool
IsElse c d = not (same_text c d.canonical)

unlike_itself : (b : Bool) → not b ≡ true → b ≡ true → ⊥
unlike_itself true e h = true≢false (sym e)
unlike_itself false e h = true≢false (sym h)

held_at : (ds : List Document) (uri c : Text) (d : Document) (b : Bool) → AreSound ds → Contains ds d → holds_resource uri d ≡ true → same_text c d.canonical ≡ b
    → list_any (holds_resource uri) (others_of c ds) ≡ not b
held_at ds uri c d true sound inside held same =
    any_none (holds_resource uri) (others_of c ds) (λ e k. false_from_ne_true (holds_resource uri e) (λ also.
    let there = from_filter (IsElse c) e ds k in
    unlike_itself (same_text c e.canonical) there.1 (ap (λ x. same_text c x.canonical) (one_document ds uri e d sound.distinct there.0 inside also held) ∙ same)))
held_at ds uri c d false sound inside held other =
    any_at (holds_resource uri) d (others_of c ds) (in_filter (IsElse c) d ds inside (ap not other)) held

held_by : (ds : List Document) (uri c : Text) (o : Option Document) → AreSound ds → find (holds_resource uri) ds ≡ o
    → list_any (holds_resource uri) (others_of c ds) ≡ is_named_otherwise c o
held_by ds uri c None sound e = any_none (holds_resource uri) (others_of c ds) (λ x k. no_holder ds uri e x (from_filter (IsElse c) x ds k).0)
held_by ds uri c (Some d) sound e =
    let there = found_there (holds_resource uri) ds d e in
    held_at ds uri c d (same_text c d.canonical) sound there.0 there.1 refl

-- ---- of both together
pub record AreBoth (ds ls : List Document) : Type 0 where
  pub own : AreSound ds
  pub library : AreSound ls
  pub apart : list_any (shares_resource ds) ls ≡ false

pub held_in_own : (ds ls : List Document) (uri c : Text) (d : Document) → AreBoth ds ls → find (holds_resource uri) ds ≡ Some d
    → list_any (holds_resource uri) (others_of c (documents_of_both ls ds)) ≡ not (same_text c d.canonical)
held_in_own ds ls uri c d both e =
    held_by (documents_of_both ls ds) uri c (Some d) (together_sound ds ls both.own both.library both.apart) (found_in_first ds ls uri d both.own both.library both.apart e)

pub held_in_library : (ds ls : List Document) (uri c : Text) (o : Option Document) → AreBoth ds ls → find (holds_resource uri) ds ≡ None → find (holds_resource uri) ls ≡ o
    → list_any (holds_resource uri) (others_of c (documents_of_both ls ds)) ≡ is_named_otherwise c o
held_in_library ds ls uri c o both none e =
    held_by (documents_of_both ls ds) uri c o (together_sound ds ls both.own both.library both.apart) (found_in_second ds ls uri o both.own both.library both.apart none e)

-- ---- the document with a canonical URI
named_at : (ds : List Document) (uri : Text) (d : Document) (b : Bool) → AreSound ds → find (holds_resource uri) ds ≡ Some d → same_text uri d.canonical ≡ b
    → is_some (document_of ds uri) ≡ b
named_at ds uri d true sound e same =
    ap is_some (found_some (λ x. same_text uri x.canonical) d ds (found_there (holds_resource uri) ds d e).0 same).1
named_at ds uri d false sound e other = no_name (document_of ds uri) refl
  where
    no_name : (o : Option Document) → document_of ds uri ≡ o → is_some o ≡ false
    no_name None h = refl
    no_name (Some x) h =
        let there = found_there (λ (y : Document). same_text uri y.canonical) ds x h in
        let named : uri ≡ x.canonical = same_text_is uri x.canonical there.1 in
        let held : holds_resource uri x ≡ true = ap (λ u. holds_resource u x) named ∙ own_resource x (sound.made x there.0) in
        let one : x ≡ d = (let found = found_there (holds_resource uri) ds d e in one_document ds uri x d sound.distinct there.0 found.0 held found.1) in
        absurd (true≢false (sym there.1 ∙ ap (λ (y : Document). same_text uri y.canonical) one ∙ other))

pub named_by : (ds : List Document) (uri : Text) (o : Option Document) → AreSound ds → find (holds_resource uri) ds ≡ o → is_some (document_of ds uri) ≡ is_named uri o
named_by ds uri (Some d) sound e = named_at ds uri d (same_text uri d.canonical) sound e refl
named_by ds uri None sound e = no_name (document_of ds uri) refl
  where
    no_name : (o : Option Document) → document_of ds uri ≡ o → is_some o ≡ false
    no_name None h = refl
    no_name (Some x) h =
        let there = found_there (λ (y : Document). same_text uri y.canonical) ds x h in
        let named : uri ≡ x.canonical = same_text_is uri x.canonical there.1 in
        absurd (true≢false (sym (ap (λ u. holds_resource u x) named ∙ own_resource x (sound.made x there.0)) ∙ no_holder ds uri e x there.0))
