-- What a validation replies, by what its parts answer.
use Rattle.std.proofs.Common.{◌≡◌, ◌≢◌, List, Bool, Some, Result, Ok, Err, IfOk, IfErr, refl, sym, ap, ◌∙◌, inl}
use Rattle.output_texts.specs.Outputs.{output_view}
use Rattle.output_texts.specs.declared.output.Output.{Output}
use Rattle.definitions.specs.Answers.{answer, output_text}
use Rattle.definitions.specs.Applied.{Outcome}
use Rattle.definitions.specs.Faults.{Fault}
use Rattle.definitions.specs.Patterns.{regular_search, has_match}
use Rattle.definitions.specs.Reach.{reach}
use Rattle.definitions.specs.Registries.{Registry, Reply, validate, validated, refused, documents_seen, for_base, for_value, body_value, validation, outcome_reply}
use Rattle.definitions.specs.Resolution.{base_form}
use Rattle.definitions.specs.Runs.{IsAnswer}
use Rattle.definitions.specs.Schemas.{Document}
use Rattle.definitions.specs.Values.{Text, Value}
use Rattle.evaluator.specs.Reports.{report_or_fault}
use Rattle.faults.specs.View.{fault_view}
use Rattle.faults.specs.declared.Fault as code
use Rattle.linker.specs.LinkFaults.{link_fault}
use Rattle.linker.specs.LinkedDocuments.{linked_documents}
use Rattle.linker.specs.declared.linked.Linked.{Linked}
use Rattle.tenant_hub.specs.CachedLinks.{IsLinkOf}
use Rattle.tenant_hub.specs.SourceReplies.{reply_by, validation_over}
use Rattle.tenant_hub.proofs.LinkedReplies.{links, links_not}

-- ---- what is evaluated
both_same : {X Y : Type 0} {x y : X} → ◌≡◌ {A = Result X Y} (Ok x) (Ok y) → x ≡ y
both_same e = cc

shown : (a : Result Outcome Fault) (shows : Bool × Text) → report_or_fault a ≡ Ok shows → outcome_reply a ≡ validated shows.1
shown (Ok o) shows e = let pairs : ◌≡◌ {A = Bool × Text} (o.valid, output_text o) shows = both_same e in ap (λ (p : Bool × Text). validated p.1) pairs
shown (Err f) shows e = cc

pub shown_by : (r : Result Output code.Fault) (a : Result Outcome Fault) → IfOk r (λ o. report_or_fault a ≡ Ok (output_view o)) → IfOk r (λ o. outcome_reply a ≡ validated (output_view o).1)
shown_by (Ok o) a e = shown a (output_view o) e
shown_by (Err f) a e = tt

pub refused_by : (r : Result Output code.Fault) (a : Result Outcome Fault) → IfErr r (λ f. f ≢ code.Fault.NoRoom → a ≡ Err (fault_view f))
    → IfErr r (λ f. f ≢ code.Fault.NoRoom → outcome_reply a ≡ refused (fault_view f))
refused_by (Ok o) a e = tt
refused_by (Err f) a e = λ other. ap outcome_reply (e other)

-- what is said of one reply is said of another that is the same
pub replied : {E : Type 0} {a b : Reply} (o : Result Output E) → a ≡ b → IfOk o (λ o. b ≡ validated (output_view o).1) → IfOk o (λ o. a ≡ validated (output_view o).1)
replied (Ok t) same is = same ∙ is
replied (Err f) same is = tt

pub refused_as : {T : Type 0} {a b : Reply} (o : Result T code.Fault) → a ≡ b → IfErr o (λ f. f ≢ code.Fault.NoRoom → b ≡ refused (fault_view f))
    → IfErr o (λ f. f ≢ code.Fault.NoRoom → a ≡ refused (fault_view f))
refused_as (Ok t) same is = tt
refused_as (Err f) same is = λ other. same ∙ is other

-- ---- one validation, by its four parts
module _ (ds : List Document) (base : Result Text Fault) (body : Result Value Fault) where
  pub bad_base : (f : Fault) → base ≡ Err f → validation_over ds base body ≡ refused f
  unfolding validation_over
  bad_base f e = ap (λ b. validation_over ds b body) e

  pub bad_body : (b : Text) (f : Fault) → base ≡ Ok b → body ≡ Err f → validation_over ds base body ≡ refused f
  unfolding validation_over
  bad_body b f e h = ap (λ b. validation_over ds b body) e ∙ ap (validation_over ds (Ok b)) h

  both : (b : Text) (x : Value) → base ≡ Ok b → body ≡ Ok x → validation_over ds base body ≡ validation regular_search b x (reach ds b)
  unfolding validation_over
  both b x e h = ap (λ b. validation_over ds b body) e ∙ ap (validation_over ds (Ok b)) h

  -- by what its parts are
  pub over_both : (b : Text) (x : Value) → base ≡ Ok b → body ≡ Ok x → validation_over ds base body ≡ validation_over ds (Ok b) (Ok x)
  over_both b x e h = ap (λ b. validation_over ds b body) e ∙ ap (validation_over ds (Ok b)) h

  pub unlinked : (b : Text) (x : Value) (f : Fault) → base ≡ Ok b → body ≡ Ok x → link_fault (reach ds b) ≡ Some f → validation_over ds base body ≡ refused f
  unlinked b x f e h none = both b x e h ∙ links_not (reach ds b) f (outcome_reply (answer has_match (reach ds b) b x)) none

  pub by_link : (b : Text) (x : Value) (l : Linked) → base ≡ Ok b → body ≡ Ok x → IsLinkOf ds b l → validation_over ds base body ≡ reply_by l x
  by_link b x l e h is =
      both b x e h ∙ links (reach ds b) (outcome_reply (answer has_match (reach ds b) b x)) is.1.1
      ∙ ap (λ rs. outcome_reply (answer has_match rs b x)) (sym is.1.0) ∙ ap (λ k. outcome_reply (answer has_match (linked_documents l) k x)) (sym is.0)

-- ---- as a step
step_over : (g : Registry) (base : Result Text Fault) (v : Result Value Fault)
    → for_base g base (λ b. for_value g v (λ x. (validation regular_search b x (reach (documents_seen g) b), g))) ≡ (validation_over (documents_seen g) base v, g)
unfolding validation_over
step_over g (Ok b) (Ok x) = refl
step_over g (Ok b) (Err f) = refl
step_over g (Err e) v = refl

pub validation_answer : (g : Registry) (ds : List Document) (uri body : Text) (r : Reply) → documents_seen g ≡ ds → validation_over ds (base_form uri) (body_value body) ≡ r
    → IsAnswer regular_search g (validate uri body) r g
validation_answer g ds uri body r e says =
    let made = step_over g (base_form uri) (body_value body) in
    inl (sym says ∙ ap (λ es. validation_over es (base_form uri) (body_value body)) (sym e) ∙ sym (ap (λ x. x.0) made), sym (ap (λ x. x.1) made))
