-- Ways that own their names, a step longer or a step shorter.
use Rattle.std.proofs.Common.{◌≡◌, ◌+◌, ◌-◌, ◌<◌, ◌≤◌, ℕ, suc, List, [], ◌∷◌, ◌++◌, true, nat_eq, drop, get_or, length, take, refl, sym, ap, ap₂, subst, ◌∙◌, append_assoc, arith}
use Rattle.std.proofs.lemmas.Bool.{and_from, and_parts, eq-eqb, eqb-true, le-leb, leb-true}
use Rattle.std.proofs.lemmas.List.{drop-append-le, drop_all, drop_at, drop_more, length-append, map-append, take-append-le, take_all, take_at, take_more}
use Rattle.std.proofs.lemmas.Str.{IsCharBoundary-from_take, IsUtf8-drop, IsUtf8-from_is_utf8, is_utf8-from_IsUtf8}
use Rattle.std.specs.Str.{IsCharBoundary, IsUtf8, is_utf8}
use Rattle.definitions.specs.Values.{Text}
use Rattle.keywords.specs.Rows.{row_of}
use Rattle.locations.specs.Hops.{Hop, step_hop, step_hops, to_member, to_element}
use Rattle.locations.specs.OwnedSteps.{are_cut, hops_along, is_cut, names_after, owned_hop}
use Rattle.locations.specs.Ways.{owned_step, step_name}
use Rattle.locations.specs.declared.step.Step.{Step}
use Rattle.locations.specs.declared.step.Step.TheVariants.{Name, Index, Keyword}
use Rattle.locations.specs.declared.owned_way.OwnedStep.{OwnedStep}
use Rattle.locations.specs.declared.owned_way.OwnedStep.TheVariants as owned

none_left : (names : Text) → nat_eq (length names) 0 ≡ true → names ≡ []
none_left [] e = refl
none_left (b ∷ bs) e = absurd (omega (arith, eqb-true _ _ e))

one_name_cut : (name : Text) → is_utf8 name ≡ true → are_cut (owned.Name (length name) ∷ []) name ≡ true
one_name_cut name e =
    let n = length name in
    and_from _ _ (and_from _ _ (le-leb n n (omega arith)) (ap is_utf8 (take_all n name (omega arith)) ∙ e))
    (eq-eqb _ 0 (ap length (drop_all n name (omega arith))))

one_cut : (s : Step) → is_utf8 (step_name s) ≡ true → are_cut (owned_step s ∷ []) (step_name s) ≡ true
one_cut (Name name) e = one_name_cut name.now e
one_cut (Index index) e = refl
one_cut (Keyword k) e = one_name_cut (row_of k).name e

one_hop : (s : Step) → hops_along (owned_step s ∷ []) (step_name s) ≡ step_hop s ∷ []
one_hop (Name name) = ap (λ t. to_member t ∷ []) (take_all (length name.now) name.now (omega arith))
one_hop (Index index) = refl
one_hop (Keyword k) = ap (λ t. to_member t ∷ []) (take_all (length (row_of k).name) (row_of k).name (omega arith))

pub more_cut : (ss : List OwnedStep) (names : Text) (s : Step) → are_cut ss names ≡ true → is_utf8 (step_name s) ≡ true
    → are_cut (ss ++ owned_step s ∷ []) (names ++ step_name s) ≡ true
more_cut [] names s cut text = ap (λ t. are_cut (owned_step s ∷ []) (t ++ step_name s)) (none_left names cut) ∙ one_cut s text
more_cut (owned.Name n ∷ ss) names s cut text =
    let parts = and_parts _ _ cut in
    let here = and_parts _ _ parts.0 in
    let below : n ≤ length names = leb-true n (length names) here.0 in
    and_from _ _
    (and_from _ _ (le-leb n (length (names ++ step_name s)) (omega (arith, below, length-append names (step_name s)))) (ap is_utf8 (take-append-le n names (step_name s) below) ∙ here.1))
    (ap (are_cut (ss ++ owned_step s ∷ [])) (drop-append-le n names (step_name s) below) ∙ more_cut ss (drop n names) s parts.1 text)
more_cut (owned.Index index ∷ ss) names s cut text = more_cut ss names s cut text

pub more_hops : (ss : List OwnedStep) (names : Text) (s : Step) → are_cut ss names ≡ true
    → hops_along (ss ++ owned_step s ∷ []) (names ++ step_name s) ≡ hops_along ss names ++ step_hop s ∷ []
more_hops [] names s cut = ap (λ t. hops_along (owned_step s ∷ []) (t ++ step_name s)) (none_left names cut) ∙ one_hop s
more_hops (owned.Name n ∷ ss) names s cut =
    let parts = and_parts _ _ cut in
    let below : n ≤ length names = leb-true n (length names) (and_parts _ _ parts.0).0 in
    ap₂ (λ t hs. to_member t ∷ hs) (take-append-le n names (step_name s) below)
    (ap (hops_along (ss ++ owned_step s ∷ [])) (drop-append-le n names (step_name s) below) ∙ more_hops ss (drop n names) s parts.1)
more_hops (owned.Index index ∷ ss) names s cut = ap (λ hs. to_element index ∷ hs) (more_hops ss names s cut)

-- the end of a text, where its front is one
end_utf8 : (xs ys : Text) → IsUtf8 xs → IsUtf8 (xs ++ ys) → IsUtf8 ys
end_utf8 xs ys u w =
    let n = length xs in
    let front : IsUtf8 (take n (xs ++ ys)) = subst IsUtf8 (sym (take_at xs ys n refl)) u in
    let at : IsCharBoundary (xs ++ ys) n = IsCharBoundary-from_take (xs ++ ys) n w (omega (arith, length-append xs ys)) front in
    subst IsUtf8 (drop_at xs ys n refl) (IsUtf8-drop (xs ++ ys) n w at)

pub one_more : (ss kept : List OwnedStep) (names after : Text) (steps : List Step) (i : ℕ) (d s : Step) (k : OwnedStep) → i < length steps → s ≡ get_or steps i d
    → IsUtf8 names → IsUtf8 after → are_cut ss names ≡ true → hops_along ss names ≡ step_hops (take i steps)
    → after ≡ names ++ step_name s → k ≡ owned_step s → kept ≡ ss ++ k ∷ []
    → (are_cut kept after ≡ true) × (hops_along kept after ≡ step_hops (take (i + 1) steps))
one_more ss kept names after steps i d s k less is u w cut hops e f g =
    let all : kept ≡ ss ++ owned_step s ∷ [] = g ∙ ap (λ k. ss ++ k ∷ []) f in
    let text : is_utf8 (step_name s) ≡ true = is_utf8-from_IsUtf8 (step_name s) (end_utf8 names (step_name s) u (subst IsUtf8 e w)) in
    let more : take (i + 1) steps ≡ take i steps ++ s ∷ [] = take_more steps i d less ∙ ap (λ t. take i steps ++ t ∷ []) (sym is) in (
      ap₂ are_cut all e ∙ more_cut ss names s cut text,
      ap₂ hops_along all e ∙ more_hops ss names s cut ∙ ap (λ hs. hs ++ step_hop s ∷ []) hops ∙ sym (map-append step_hop (take i steps) (s ∷ [])) ∙ ap step_hops (sym more),
    )

-- where a name may be cut off
pub name_boundary : (k : OwnedStep) (n : ℕ) (names : Text) → k ≡ owned.Name n → IsUtf8 names → is_cut k names ≡ true → IsCharBoundary names n
name_boundary k n names e u cut =
    let here = and_parts _ _ (ap (λ k. is_cut k names) (sym e) ∙ cut) in
    IsCharBoundary-from_take names n u (leb-true n (length names) here.0) (IsUtf8-from_is_utf8 (take n names) here.1)

-- the first step of what is left, and what is left after it
pub one_less : (ks items : List OwnedStep) (i : ℕ) (d k : OwnedStep) (names rest : Text) → items ≡ ks → i < length items → k ≡ get_or items i d
    → are_cut (drop i ks) names ≡ true → rest ≡ names_after k names
    → (are_cut (drop (i + 1) ks) rest ≡ true) × (hops_along (drop i ks) names ≡ owned_hop k names ∷ hops_along (drop (i + 1) ks) rest)
one_less ks items i d k names rest e less is cut f =
    let all : drop i ks ≡ k ∷ drop (i + 1) ks =
    ap (drop i) (sym e) ∙ drop_more items i d less ∙ ap (λ t. t ∷ drop (i + 1) items) (sym is) ∙ ap (λ is. k ∷ drop (i + 1) is) e in (
      ap (are_cut (drop (i + 1) ks)) f ∙ (and_parts _ _ (ap (λ ks. are_cut ks names) (sym all) ∙ cut)).1,
      ap (λ ks. hops_along ks names) all ∙ ap (λ t. owned_hop k names ∷ hops_along (drop (i + 1) ks) t) (sym f),
    )

-- a step passed by, and a step taken
pub one_passed : (start i : ℕ) (taken more : List Step) (h : Hop) (hs left all : List Hop) → i < start → left ≡ h ∷ hs → more ≡ taken
    → step_hops taken ++ drop (start - i) left ≡ all → step_hops more ++ drop (start - (i + 1)) hs ≡ all
one_passed start i taken more h hs left all less is m e =
    let one : start - i ≡ suc (start - (i + 1)) = omega (arith, less) in
    ap₂ (λ ss hs. step_hops ss ++ hs) m (ap (λ n. drop n (h ∷ hs)) (sym one) ∙ ap (drop (start - i)) (sym is)) ∙ e

pub one_taken : (start i : ℕ) (taken more : List Step) (s : Step) (h : Hop) (hs left all : List Hop) → start ≤ i → left ≡ h ∷ hs → more ≡ taken ++ s ∷ [] → step_hop s ≡ h
    → step_hops taken ++ drop (start - i) left ≡ all → step_hops more ++ drop (start - (i + 1)) hs ≡ all
one_taken start i taken more s h hs left all less is m f e =
    let none : start - i ≡ 0 = omega (arith, less) in
    let none_after : start - (i + 1) ≡ 0 = omega (arith, less) in
    ap₂ (λ ss n. step_hops ss ++ drop n hs) m none_after
    ∙ ap (λ ts. ts ++ hs) (map-append step_hop taken (s ∷ []) ∙ ap (λ h. step_hops taken ++ h ∷ []) f)
    ∙ append_assoc (step_hops taken) (h ∷ []) hs
    ∙ ap₂ (λ n hs. step_hops taken ++ drop n hs) (sym none) (sym is) ∙ e
