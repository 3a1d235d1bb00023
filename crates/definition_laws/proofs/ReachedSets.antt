-- The computed reach is the least set that is closed under references.
use Rattle.std.proofs.Common.{◌≡◌, ℕ, zero, suc, Bool, true, false, ◌||◌, ◌↔◌, List, [], map, length, Contains, filter, sym, refl, ap, ◌∙◌, subst, inl, inr}
use Rattle.std.proofs.lemmas.Bool.{false_from_ne_true, or_cases, or_left, or_right}
use Rattle.std.specs.List.{list_any}
use Rattle.definitions.specs.Values.{Text, same_text}
use Rattle.definitions.specs.Lists.{has_repeat}
use Rattle.definitions.specs.Schemas.{Document}
use Rattle.definitions.specs.Reach.{IsReached, holds, referred, holds_resource, refers_to, reach_by_one, reach_by_steps, reach, ReachIsLeast}
use Rattle.lemmas.proofs.Texts.{same_text_itself, same_text_turned}
use Rattle.definition_laws.proofs.Membership.{nothing_in, from_filter, any_where, one_of}
use Rattle.definition_laws.proofs.Growing.{after, nothing_from_nothing, as_filter, inside, led, kept_from_start, stands_still}

pub same_text-back : (t u : Text) → same_text t u ≡ true → same_text u t ≡ true
same_text-back t u e = same_text_turned u t ∙ e

-- the document itself, or one that it refers to
abbrev leads : Document → Document → Bool
leads d e = same_text d.canonical e.canonical || refers_to d e

own : (d : Document) → leads d d ≡ true
own d = or_left (same_text d.canonical d.canonical) (refers_to d d) (same_text_itself d.canonical)

as_steps : (n : ℕ) (G : List Document) (uri : Text) → reach_by_steps n G (filter (holds_resource uri) G) ≡ after leads own (holds_resource uri) G n
as_steps zero G uri = refl
as_steps (suc n) G uri = ap (reach_by_one G) (as_steps n G uri)

abbrev AreDistinct : List Document → Type 0
AreDistinct G = has_repeat same_text (map (λ d. d.canonical) G) ≡ false

sound : (G : List Document) (uri : Text) → AreDistinct G → (n : ℕ) (d : Document) → Contains (after leads own (holds_resource uri) G n) d → IsReached G uri d
sound G uri distinct zero d c = let found = from_filter (holds_resource uri) d G c in holds found.0 found.1
sound G uri distinct (suc n) d c =
    let found = from_filter (λ e. list_any (λ x. leads x e) (after leads own (holds_resource uri) G n)) d G c in
    let by = any_where (λ x. leads x d) (after leads own (holds_resource uri) G n) found.1 in
    let before = sound G uri distinct n by.0 by.1.0 in
    elim (or_cases (same_text by.0.canonical d.canonical) (refers_to by.0 d) by.1.1) [
      | inl same ↦
          subst (IsReached G uri)
          (one_of same_text (λ (e : Document). e.canonical) same_text-back G distinct by.0 d (inside leads own (holds_resource uri) G n by.0 by.1.0) found.0 same) before
      | inr refers ↦ referred before found.0 refers
    ]

complete : (G : List Document) (uri : Text) (d : Document) → IsReached G uri d → Contains (after leads own (holds_resource uri) G (length G)) d
complete G uri d (holds c h) = kept_from_start leads own (holds_resource uri) G (length G) d c h
complete G uri e (referred {d = d} r c h) =
    subst (λ ds. Contains ds e) (stands_still leads own (holds_resource uri) G)
    (led leads own (holds_resource uri) G (length G) d e (complete G uri d r) c (or_right (same_text d.canonical e.canonical) (refers_to d e) h))

pub reach_is_least : (G : List Document) (uri : Text) → ReachIsLeast G uri
reach_is_least G uri distinct d =
    let steps : reach G uri ≡ after leads own (holds_resource uri) G (length G) = as_steps (length G) G uri in
    (λ c. sound G uri distinct (length G) d (subst (λ ds. Contains ds d) steps c), λ r. subst (λ ds. Contains ds d) (sym steps) (complete G uri d r))

pub reach_as_filter : (G : List Document) (uri : Text) → (p : Document → Bool) × (reach G uri ≡ filter p G)
reach_as_filter G uri =
    let of_steps : (p : Document → Bool) × (after leads own (holds_resource uri) G (length G) ≡ filter p G) = as_filter leads own (holds_resource uri) G (length G) in
    (of_steps.0, as_steps (length G) G uri ∙ of_steps.1)

pub nothing_from_nothing_held : (G : List Document) (uri : Text) → (reach G uri ≡ []) ↔ ((d : Document) → Contains G d → holds_resource uri d ≡ false)
nothing_from_nothing_held G uri = (
  λ e d c. false_from_ne_true (holds_resource uri d) (λ held.
      nothing_in d (subst (λ ds. Contains ds d) (sym (as_steps (length G) G uri) ∙ e) (complete G uri d (holds c held)))),
  λ none. as_steps (length G) G uri ∙ nothing_from_nothing leads own (holds_resource uri) G none (length G),
)
