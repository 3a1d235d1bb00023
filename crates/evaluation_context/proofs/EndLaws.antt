-- How identities end.
use Rattle.std.proofs.Common.{◌≡◌, ◌==◌, ◌-◌, ◌<◌, ◌++◌, ◌∷◌, ◌||◌, [], ℕ, zero, suc, Bool, List, Option, None, Some, false, true, append-nil, get_or, length, map, take, refl, sym, ap, ap₂, ◌∙◌, arith}
use Rattle.std.proofs.lemmas.Bool.{and_from, and_parts, eq-eqb, eqb-true, false_from_ne_true, or_right}
use Rattle.std.proofs.lemmas.List.{take_all}
use Rattle.std.proofs.lemmas.Option.{slice_get_within}
use Rattle.std.specs.List.{slice_get}
use Rattle.std.specs.Prelude.{if◌then◌else◌}
use Rattle.definitions.specs.Values.{same_text}
use Rattle.definitions.specs.Pointers.{Pointer, same_pointer}
use Rattle.definitions.specs.Schemas.{Identity, same_identity}
use Rattle.definitions.specs.Applied.{InstanceLocation}
use Rattle.lemmas.proofs.SomeValues.{none_some, some_same}
use Rattle.lemmas.proofs.Texts.{same_text_is}
use Rattle.locations.specs.Steps.{token, tokens}
use Rattle.locations.specs.declared.step.Step.{Step}
use Rattle.basic_output.specs.declared.origin.Origin.{Origin}
use Rattle.evaluation_context.specs.Ends.{identity_end, tell_ends, tells_end, text_end}
use Rattle.evaluation_context.specs.Runnings.{last_end, last_steps, onward_identity}
use Rattle.evaluation_context.specs.declared.running.Running.{Running}

-- ---- what a number tells
pub tells_own : (n end : ℕ) → n ≡ end → tells_end n end ≡ true
unfolding tells_end
tells_own n end is = or_right (n == 0) (n == end) (eq-eqb n end is)

pub tells_nothing : (end : ℕ) → tells_end 0 end ≡ true
unfolding tells_end
tells_nothing end = refl

told : (n end : ℕ) → (n ≡ 0 → ⊥) → tells_end n end ≡ true → n ≡ end
unfolding tells_end
told n end known h =
    let other : (n == 0) ≡ false = false_from_ne_true (n == 0) (λ zero. known (eqb-true n 0 zero)) in
    eqb-true n end (ap (λ b. b || (n == end)) (sym other) ∙ h)

-- ---- equal identities end alike
same_last : (p q : Pointer) (from : ℕ) → same_pointer p q ≡ true → last_end from (map text_end p) ≡ last_end from (map text_end q)
same_last [] [] from same = refl
same_last [] (u ∷ us) from same = cc
same_last (t ∷ ts) [] from same = cc
same_last (t ∷ ts) (u ∷ us) from same =
    let p = and_parts (same_text t u) (same_pointer ts us) same in
    ap (λ v. last_end (text_end v) (map text_end ts)) (same_text_is t u p.0) ∙ same_last ts us (text_end u) p.1

same_end : (i j : Identity) → same_identity i j ≡ true → identity_end i ≡ identity_end j
unfolding identity_end
same_end i j same =
    let p = and_parts (same_text i.0 j.0) (same_pointer i.1 j.1) same in
    ap (λ t. last_end (text_end t) (map text_end i.1)) (same_text_is i.0 j.0 p.0) ∙ same_last i.1 j.1 (text_end j.0) p.1

pub ends_differ : (n m : ℕ) (i j : Identity) → (n ≡ m → ⊥) → (n ≡ 0 → ⊥) → (m ≡ 0 → ⊥) → tells_end n (identity_end i) ≡ true → tells_end m (identity_end j) ≡ true → same_identity i j ≡ false
ends_differ n m i j apart known other first second =
    false_from_ne_true (same_identity i j) (λ same. apart (told n (identity_end i) known first ∙ same_end i j same ∙ sym (told m (identity_end j) other second)))

-- ---- the last step
last_at : (n from : ℕ) (xs : List Step) (s : Step) → length xs ≡ suc n → slice_get xs n ≡ Some s → last_end from (map text_end (tokens xs)) ≡ text_end (token s)
last_at n from [] s len is = absurd (omega arith)
last_at zero from (x ∷ []) s len is = ap (λ (x : Step). text_end (token x)) (some_same is)
last_at (suc n) from (x ∷ []) s len is = absurd (omega arith)
last_at zero from (x ∷ y ∷ xs) s len is = absurd (omega arith)
last_at (suc n) from (x ∷ y ∷ xs) s len is = last_at n (text_end (token x)) (y ∷ xs) s (omega arith) is

last_is : (from : ℕ) (xs : List Step) (s : Step) → slice_get xs (length xs - 1) ≡ Some s → last_end from (map text_end (tokens xs)) ≡ text_end (token s)
last_is from xs s is = last_at (length xs - 1) from xs s (omega (arith, slice_get_within xs (length xs - 1) s is)) is

none_last : (n : ℕ) (xs : List Step) → length xs ≡ suc n → ◌≡◌ {A = Option Step} None (slice_get xs n) → ⊥
none_last n [] len is = omega arith
none_last zero (x ∷ xs) len is = none_some is
none_last (suc n) (x ∷ xs) len is = none_last n xs (omega arith) is

-- a list without a last step is empty
none_at_all : (xs : List Step) → ◌≡◌ {A = Option Step} None (slice_get xs (length xs - 1)) → xs ≡ []
none_at_all [] is = refl
none_at_all (x ∷ xs) is = absurd (none_last (length (x ∷ xs) - 1) (x ∷ xs) (omega arith) is)

last_of_both : (from : ℕ) (ts us : Pointer) → last_end from (map text_end (ts ++ us)) ≡ last_end (last_end from (map text_end ts)) (map text_end us)
last_of_both from [] us = refl
last_of_both from (t ∷ ts) us = last_of_both (text_end t) ts us

-- ---- of an identity by its last step: of those that lead on, of the origin's, or of neither
pub tells_onward : (n : ℕ) (i : Identity) (xs : List Step) (s : Step) → slice_get xs (length xs - 1) ≡ Some s → tells_end n (text_end (token s)) ≡ true → tells_end n (identity_end (i.0, i.1 ++ tokens xs)) ≡ true
unfolding identity_end
tells_onward n i xs s is own =
    ap (tells_end n) (last_of_both (text_end i.0) i.1 (tokens xs) ∙ last_is (last_end (text_end i.0) (map text_end i.1)) xs s is) ∙ own

pub tells_origin : (n : ℕ) (i : Identity) (xs : List Step) → ◌≡◌ {A = Option Step} None (slice_get xs (length xs - 1)) → tells_end n (identity_end i) ≡ true → tells_end n (identity_end (i.0, i.1 ++ tokens xs)) ≡ true
tells_origin n i xs none own =
    let whole : i.1 ++ tokens xs ≡ i.1 = ap (λ ys. i.1 ++ tokens ys) (none_at_all xs none) ∙ append-nil i.1 in
    ap (λ p. tells_end n (identity_end (i.0, p))) whole ∙ own

pub tells_step : (n : ℕ) (i : Identity) (xs : List Step) (s : Step) → tokens xs ≡ i.1 → slice_get xs (length xs - 1) ≡ Some s → tells_end n (text_end (token s)) ≡ true → tells_end n (identity_end i) ≡ true
unfolding identity_end
tells_step n i xs s same is own =
    ap (λ p. tells_end n (last_end (text_end i.0) (map text_end p))) (sym same) ∙ ap (tells_end n) (last_is (text_end i.0) xs s is) ∙ own

pub tells_resource : (n : ℕ) (i : Identity) (xs : List Step) → tokens xs ≡ i.1 → ◌≡◌ {A = Option Step} None (slice_get xs (length xs - 1)) → n ≡ text_end i.0 → tells_end n (identity_end i) ≡ true
unfolding identity_end
tells_resource n i xs same none is =
    tells_own n _ (is ∙ ap (λ p. last_end (text_end i.0) (map text_end p)) (sym (ap tokens (none_at_all xs none)) ∙ same))

-- ---- the numbers of all objects, each beside what it is seen as
ends_push : (f : Running → Identity × InstanceLocation) (rs : List Running) (r : Running) → tell_ends rs (map f rs) ≡ true → tells_end r.end (identity_end (f r).0) ≡ true → tell_ends (rs ++ r ∷ []) (map f (rs ++ r ∷ [])) ≡ true
ends_push f [] r h own = and_from (tells_end r.end (identity_end (f r).0)) true own refl
ends_push f (x ∷ rs) r h own =
    let p = and_parts (tells_end x.end (identity_end (f x).0)) (tell_ends rs (map f rs)) h in
    and_from _ _ p.0 (ends_push f rs r p.1 own)

pub pushed_ends : (f : Running → Identity × InstanceLocation) (b : Bool) (es new : List Running) (r : Running) → new ≡ (if b then es ++ r ∷ [] else es) → tell_ends es (map f es) ≡ true → tells_end r.end (identity_end (f r).0) ≡ true → tell_ends new (map f new) ≡ true
pushed_ends f true es new r is h own = ap (λ rs. tell_ends rs (map f rs)) is ∙ ends_push f es r h own
pushed_ends f false es new r is h own = ap (λ rs. tell_ends rs (map f rs)) is ∙ h

ends_take : (f : Running → Identity × InstanceLocation) (n : ℕ) (rs : List Running) → tell_ends rs (map f rs) ≡ true → tell_ends (take n rs) (map f (take n rs)) ≡ true
ends_take f zero rs h = refl
ends_take f (suc n) [] h = refl
ends_take f (suc n) (r ∷ rs) h =
    let p = and_parts (tells_end r.end (identity_end (f r).0)) (tell_ends rs (map f rs)) h in
    and_from _ _ p.0 (ends_take f n rs p.1)

pub popped_ends : (f : Running → Identity × InstanceLocation) (es new : List Running) (count : ℕ) → new ≡ take count es → tell_ends es (map f es) ≡ true → tell_ends new (map f new) ≡ true
popped_ends f es new count is h = ap (λ rs. tell_ends rs (map f rs)) is ∙ ends_take f count es h

end_at : (f : Running → Identity × InstanceLocation) (rs : List Running) (i : ℕ) (d : Running) → i < length rs → tell_ends rs (map f rs) ≡ true → tells_end (get_or rs i d).end (identity_end (f (get_or rs i d)).0) ≡ true
end_at f [] i d less h = absurd (omega arith)
end_at f (r ∷ rs) zero d less h = (and_parts (tells_end r.end (identity_end (f r).0)) (tell_ends rs (map f rs)) h).0
end_at f (r ∷ rs) (suc i) d less h = end_at f rs i d (omega arith) (and_parts (tells_end r.end (identity_end (f r).0)) (tell_ends rs (map f rs)) h).1

pub end_read : (f : Running → Identity × InstanceLocation) (rs : List Running) (i : ℕ) (r : Running) → i < length rs → r ≡ get_or rs i r → tell_ends rs (map f rs) ≡ true → tells_end r.end (identity_end (f r).0) ≡ true
end_read f rs i r less is h = ap (λ (x : Running). tells_end x.end (identity_end (f x).0)) is ∙ end_at f rs i r less h

pub pushed_end : (n : ℕ) (origin lent : Origin) (reach onward : ℕ) (path ts : Pointer) → lent ≡ origin → reach ≡ length path → ts ≡ last_steps onward path → tells_end n (identity_end (onward_identity lent ts)) ≡ true
    → tells_end n (identity_end (onward_identity origin (last_steps onward (take reach path)))) ≡ true
pushed_end n origin lent reach onward path ts behind is same own =
    ap (λ p. tells_end n (identity_end (onward_identity origin (last_steps onward p)))) (take_all reach path (omega (arith, is)))
    ∙ ap₂ (λ o us. tells_end n (identity_end (onward_identity o us))) (sym behind) (sym same) ∙ own

-- along another path, or into another instance location, as long as the objects are seen alike
pub ends_stay : (rs : List Running) (old new : List (Identity × InstanceLocation)) → new ≡ old → tell_ends rs old ≡ true → tell_ends rs new ≡ true
ends_stay rs old new same h = ap (tell_ends rs) same ∙ h
