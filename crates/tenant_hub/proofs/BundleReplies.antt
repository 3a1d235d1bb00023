-- What a request for a bundle is replied, by what its parts answer.
use Rattle.std.proofs.Common.{◌≡◌, List, Bool, true, false, cond, None, Some, is_some, Result, Ok, Err, refl, sym, ap, ◌∙◌, inl}
use Rattle.definitions.specs.Bundles.{bundle}
use Rattle.definitions.specs.Documents.{document_of}
use Rattle.definitions.specs.Faults.{Fault, not_found}
use Rattle.definitions.specs.Patterns.{regular_search}
use Rattle.definitions.specs.Reach.{reach}
use Rattle.definitions.specs.Registries.{Registry, Reply, bundled_from, refused, documents_seen, for_base, linked_reply, reply_of_bundle, bundling_reply}
use Rattle.definitions.specs.Resolution.{base_form}
use Rattle.definitions.specs.Runs.{IsAnswer}
use Rattle.definitions.specs.Schemas.{Document}
use Rattle.definitions.specs.Values.{Text, Value}
use Rattle.linker.specs.LinkFaults.{link_fault}
use Rattle.tenant_hub.specs.SourceReplies.{bundle_over}
use Rattle.tenant_hub.proofs.LinkedReplies.{links, links_not}

module _ (ds : List Document) (base : Result Text Fault) where
  pub bad_base : (f : Fault) → base ≡ Err f → bundle_over ds base ≡ refused f
  unfolding bundle_over
  bad_base f e = ap (bundle_over ds) e

  asked : (b : Text) → base ≡ Ok b → bundle_over ds base ≡ bundling_reply b (reach ds b)
  unfolding bundle_over
  asked b e = ap (bundle_over ds) e

  asked_by : (b : Text) (there : Bool) → base ≡ Ok b → there ≡ is_some (document_of (reach ds b) b)
      → bundle_over ds base ≡ cond there (linked_reply (reach ds b) (reply_of_bundle (bundle (reach ds b) b))) (refused not_found)
  asked_by b there e is = asked b e ∙ ap (λ c. cond c (linked_reply (reach ds b) (reply_of_bundle (bundle (reach ds b) b))) (refused not_found)) (sym is)

  pub unnamed : (b : Text) (there : Bool) → base ≡ Ok b → there ≡ is_some (document_of (reach ds b) b) → there ≡ false → bundle_over ds base ≡ refused not_found
  unnamed b there e is none = asked_by b there e is ∙ ap (λ c. cond c (linked_reply (reach ds b) (reply_of_bundle (bundle (reach ds b) b))) (refused not_found)) none

  named : (b : Text) (there : Bool) → base ≡ Ok b → there ≡ is_some (document_of (reach ds b) b) → there ≡ true
      → bundle_over ds base ≡ linked_reply (reach ds b) (reply_of_bundle (bundle (reach ds b) b))
  named b there e is one = asked_by b there e is ∙ ap (λ c. cond c (linked_reply (reach ds b) (reply_of_bundle (bundle (reach ds b) b))) (refused not_found)) one

  pub unlinked : (b : Text) (there : Bool) (f : Fault) → base ≡ Ok b → there ≡ is_some (document_of (reach ds b) b) → there ≡ true → link_fault (reach ds b) ≡ Some f
      → bundle_over ds base ≡ refused f
  unlinked b there f e is one fails = named b there e is one ∙ links_not (reach ds b) f (reply_of_bundle (bundle (reach ds b) b)) fails

  pub bundled_as : (b : Text) (there : Bool) (reached : List Document) (uri : Text) (r : Result Value Fault) → base ≡ Ok b → there ≡ is_some (document_of (reach ds b) b)
      → there ≡ true → link_fault (reach ds b) ≡ None → reached ≡ reach ds b → uri ≡ b → bundle reached uri ≡ r → bundle_over ds base ≡ reply_of_bundle r
  bundled_as b there reached uri r e is one fine same named_so says =
      named b there e is one ∙ links (reach ds b) (reply_of_bundle (bundle (reach ds b) b)) fine
      ∙ ap reply_of_bundle (ap (λ es. bundle es b) (sym same) ∙ ap (bundle reached) (sym named_so) ∙ says)

-- ---- as a step
step_over : (g : Registry) (base : Result Text Fault) → for_base g base (λ b. (bundling_reply b (reach (documents_seen g) b), g)) ≡ (bundle_over (documents_seen g) base, g)
unfolding bundle_over
step_over g (Ok b) = refl
step_over g (Err e) = refl

pub bundle_answer : (g : Registry) (ds : List Document) (uri : Text) (r : Reply) → documents_seen g ≡ ds → bundle_over ds (base_form uri) ≡ r
    → IsAnswer regular_search g (bundled_from uri) r g
bundle_answer g ds uri r e says =
    let made = step_over g (base_form uri) in
    inl (sym says ∙ ap (λ es. bundle_over es (base_form uri)) (sym e) ∙ sym (ap (λ x. x.0) made), sym (ap (λ x. x.1) made))
