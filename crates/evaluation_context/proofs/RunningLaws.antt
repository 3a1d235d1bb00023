-- The schema objects that are being applied, beside the path and the instance location.
use Rattle.std.proofs.Common.{◌≡◌, ◌≢◌, ◌≤◌, ◌<◌, ◌+◌, ◌-◌, ◌++◌, ◌∷◌, ◌&&◌, ◌||◌, [], ℕ, zero, suc, List, Bool, Option, Result, None, Some, Ok, Err, OnOk, true, false, length, max, nat_le, map, option_map, get_or, take, drop, refl, sym, ap, ap₂, ◌∙◌, arith}
use Rattle.std.proofs.Math.Bool.{and-true}
use Rattle.std.proofs.lemmas.Bool.{and_parts, and_from, and_left, and_right, eqb-false, leb-true, le-leb}
use Rattle.std.proofs.lemmas.List.{take-take, take_all, map_push, map-append, length-append, length-map, length-take, length-take-le, get_or-map, drop-map, take_at, take-map, take-append-drop}
use Rattle.std.proofs.lemmas.List.Folds.{list_any_at, list_any-append}
use Rattle.std.specs.Prelude.{◌==◌, is_ok, if◌then◌else◌}
use Rattle.std.specs.List.{list_any, slice_get}
use Rattle.definitions.specs.Values.{Text, same_text}
use Rattle.definitions.specs.Pointers.{Pointer, same_pointer}
use Rattle.definitions.specs.Schemas.{Identity, same_identity}
use Rattle.definitions.specs.Outcomes.{same_name}
use Rattle.lemmas.proofs.SomeValues.{none_some, some_same}
use Rattle.lemmas.proofs.Texts.{same_text_itself, same_text_turned}
use Rattle.locations.specs.Steps.{token, tokens}
use Rattle.locations.specs.declared.step.Step.{Step}
use Rattle.basic_output.specs.PointerViews.{pointer_view}
use Rattle.evaluation_context.specs.Runnings.{running_view, is_running_as, are_above, are_laid, last_end, last_steps, onward_identity, steps_between}
use Rattle.evaluation_context.specs.RunningViews.{instance_pointer, path_ends, path_pointer, running_objects}
use Rattle.evaluation_context.specs.declared.running.Running.{Running}
use Rattle.evaluation_context.specs.declared.running_objects.RunningObjects.{RunningObjects}

-- where one ends
pub record Laid (end : Running → ℕ) (from to : ℕ) (r : Running) : Type 0 where
  pub start : from ≤ end r
  pub within : end r ≤ to

-- the first one, and the rest
pub record Parts (end : Running → ℕ) (from to : ℕ) (r : Running) (rs : List Running) : Type 0 where
  pub start : from ≤ end r
  pub rest : are_laid end (end r) to rs ≡ true

parts : (end : Running → ℕ) (from to : ℕ) (r : Running) (rs : List Running) → are_laid end from to (r ∷ rs) ≡ true → Parts end from to r rs
parts end from to r rs h =
    let p = and_parts (nat_le from (end r)) (are_laid end (end r) to rs) h in
    record { start = leb-true _ _ p.0; rest = p.1 }

whole : (end : Running → ℕ) (from to : ℕ) (r : Running) (rs : List Running) → from ≤ end r → are_laid end (end r) to rs ≡ true → are_laid end from to (r ∷ rs) ≡ true
whole end from to r rs start rest = and_from (nat_le from (end r)) (are_laid end (end r) to rs) (le-leb _ _ start) rest

laid_bound : (end : Running → ℕ) (from to : ℕ) (rs : List Running) → are_laid end from to rs ≡ true → from ≤ to
laid_bound end from to [] h = leb-true from to h
laid_bound end from to (r ∷ rs) h =
    let p = parts end from to r rs h in
    let rest = laid_bound end (end r) to rs p.rest in
    omega (arith, p.start, rest)

-- ---- more room
laid_more : (end : Running → ℕ) (from to more : ℕ) (rs : List Running) → to ≤ more → are_laid end from to rs ≡ true → are_laid end from more rs ≡ true
laid_more end from to more [] le h = le-leb from more (omega (arith, leb-true from to h))
laid_more end from to more (r ∷ rs) le h =
    let p = parts end from to r rs h in
    whole end from more r rs p.start (laid_more end (end r) to more rs le p.rest)

-- ---- one more, and one less
laid_push : (end : Running → ℕ) (from to more : ℕ) (rs : List Running) (r : Running) → are_laid end from to rs ≡ true → Laid end to more r → are_laid end from more (rs ++ r ∷ []) ≡ true
laid_push end from to more [] r h own = whole end from more r [] (omega (arith, leb-true from to h, own.start)) (le-leb (end r) more own.within)
laid_push end from to more (x ∷ rs) r h own =
    let p = parts end from to x rs h in
    whole end from more x (rs ++ r ∷ []) p.start (laid_push end (end x) to more rs r p.rest own)

-- as many as there are before one of them
laid_take : (end : Running → ℕ) (from to n : ℕ) (rs : List Running) → are_laid end from to rs ≡ true → are_laid end from to (take n rs) ≡ true
laid_take end from to zero rs h = le-leb from to (laid_bound end from to rs h)
laid_take end from to (suc n) [] h = h
laid_take end from to (suc n) (r ∷ rs) h =
    let p = parts end from to r rs h in
    whole end from to r (take n rs) p.start (laid_take end (end r) to n rs p.rest)

laid_at : (end : Running → ℕ) (from to : ℕ) (rs : List Running) (i : ℕ) (d : Running) → i < length rs → are_laid end from to rs ≡ true → end (get_or rs i d) ≤ to
laid_at end from to [] i d less h = absurd (omega arith)
laid_at end from to (r ∷ rs) zero d less h = laid_bound end (end r) to rs (parts end from to r rs h).rest
laid_at end from to (r ∷ rs) (suc i) d less h = laid_at end (end r) to rs i d (omega arith) (parts end from to r rs h).rest

-- the first ones, up to one of them
laid_front : (end : Running → ℕ) (from to : ℕ) (rs : List Running) (i : ℕ) (d : Running) → i < length rs → are_laid end from to rs ≡ true → are_laid end from (end (get_or rs i d)) (take (suc i) rs) ≡ true
laid_front end from to [] i d less h = absurd (omega arith)
laid_front end from to (r ∷ rs) zero d less h = whole end from (end r) r [] (parts end from to r rs h).start (le-leb (end r) (end r) (omega arith))
laid_front end from to (r ∷ rs) (suc i) d less h =
    let p = parts end from to r rs h in
    whole end from (end (get_or rs i d)) r (take (suc i) rs) p.start (laid_front end (end r) to rs i d (omega arith) p.rest)

-- ---- the innermost
last_within : (end : Running → ℕ) (from to : ℕ) (rs : List Running) → are_laid end from to rs ≡ true → last_end from (map end rs) ≤ to
last_within end from to [] h = leb-true from to h
last_within end from to (r ∷ rs) h = last_within end (end r) to rs (parts end from to r rs h).rest

laid_to_last : (end : Running → ℕ) (from to : ℕ) (rs : List Running) → are_laid end from to rs ≡ true → are_laid end from (last_end from (map end rs)) rs ≡ true
laid_to_last end from to [] h = le-leb from from (omega arith)
laid_to_last end from to (r ∷ rs) h =
    let p = parts end from to r rs h in
    whole end from (last_end (end r) (map end rs)) r rs p.start (laid_to_last end (end r) to rs p.rest)

last_at : (end : Running → ℕ) (from n : ℕ) (rs : List Running) (r : Running) → length rs ≡ suc n → slice_get rs n ≡ Some r → end r ≡ last_end from (map end rs)
last_at end from n [] r len is = absurd (omega arith)
last_at end from zero (x ∷ []) r len is = ap end (sym (some_same is))
last_at end from (suc n) (x ∷ []) r len is = absurd (omega arith)
last_at end from zero (x ∷ y ∷ rs) r len is = absurd (omega arith)
last_at end from (suc n) (x ∷ y ∷ rs) r len is = last_at end (end x) n (y ∷ rs) r (omega arith) is

pub last_read : (end : Running → ℕ) (rs : List Running) (r : Running) → 0 < length rs → slice_get rs (length rs - 1) ≡ Some r → end r ≡ last_end 0 (map end rs)
last_read end rs r some is = last_at end 0 (length rs - 1) rs r (omega arith) is

no_last_at : (n : ℕ) (rs : List Running) → length rs ≡ suc n → ◌≡◌ {A = Option Running} None (slice_get rs n) → ⊥
no_last_at n [] len is = omega arith
no_last_at zero (r ∷ rs) len is = none_some is
no_last_at (suc n) (r ∷ rs) len is = no_last_at n rs (omega arith) is

-- there is none among none
pub no_last : (rs : List Running) → ◌≡◌ {A = Option Running} None (slice_get rs (length rs - 1)) → rs ≡ []
no_last [] is = refl
no_last (r ∷ rs) is = absurd (no_last_at (length (r ∷ rs) - 1) (r ∷ rs) (omega arith) is)

-- no further than all of them
pub last_least : (path place : Pointer) (from n : ℕ) (rs : List Running) → from ≤ n → are_laid (λ r. r.depth) from (length place) rs ≡ true → are_above n (map (running_view path place) rs) ≡ true → last_end from (map (λ r. r.depth) rs) ≤ n
last_least path place from n [] le h above = le
last_least path place from n (r ∷ rs) le h above =
    let p = parts (λ r. r.depth) from (length place) r rs h in
    let q = and_parts (nat_le (length (take r.depth place)) n) (are_above n (map (running_view path place) rs)) above in
    let bound = laid_bound (λ r. r.depth) r.depth (length place) rs p.rest in
    last_least path place r.depth n rs (omega (arith, leb-true _ n q.0, length-take-le r.depth place bound)) p.rest q.1

-- ---- how far it is from one to the next
pub between_push : (from : ℕ) (ns : List ℕ) (n : ℕ) → steps_between from (ns ++ n ∷ []) ≡ steps_between from ns ++ (n - last_end from ns) ∷ []
between_push from [] n = refl
between_push from (m ∷ ns) n = ap (λ ms. (m - from) ∷ ms) (between_push m ns n)

pub last_push : (from : ℕ) (ns : List ℕ) (n : ℕ) → last_end from (ns ++ n ∷ []) ≡ n
last_push from [] n = refl
last_push from (m ∷ ns) n = last_push m ns n

-- ---- the same along any path and instance location whose first steps are the same
views_same : (path other place there : Pointer) (from to low high : ℕ) (rs : List Running) → take to path ≡ take to other → take high place ≡ take high there
    → are_laid (λ r. r.reach) from to rs ≡ true → are_laid (λ r. r.depth) low high rs ≡ true
    → map (running_view path place) rs ≡ map (running_view other there) rs
views_same path other place there from to low high [] same near h k = refl
views_same path other place there from to low high (r ∷ rs) same near h k =
    let p = parts (λ r. r.reach) from to r rs h in
    let q = parts (λ r. r.depth) low high r rs k in
    let short = laid_bound (λ r. r.reach) r.reach to rs p.rest in
    let shallow = laid_bound (λ r. r.depth) r.depth high rs q.rest in
    ap₂ (λ v vs. v ∷ vs)
    (ap₂ (λ a b. (onward_identity r.origin.value (last_steps r.onward a), record { pointer = b; name = option_map (λ n. n.now) r.name })) (front_same path other r.reach to short same) (front_same place there r.depth high shallow near))
    (views_same path other place there r.reach to r.depth high rs same near p.rest q.rest)
  where
    front_same : (ps qs : Pointer) (n m : ℕ) → n ≤ m → take m ps ≡ take m qs → take n ps ≡ take n qs
    front_same ps qs n m le same = sym (take-take n m ps le) ∙ ap (take n) same ∙ take-take n m qs le

-- ---- what a push leaves
pub pushed_laid : (end : Running → ℕ) (b : Bool) (es new : List Running) (r : Running) (to : ℕ) → new ≡ (if b then es ++ r ∷ [] else es) → end r ≡ to → are_laid end 0 to es ≡ true → are_laid end 0 to new ≡ true
pushed_laid end true es new r to is here h = ap (are_laid end 0 to) is ∙ laid_push end 0 to to es r h (record { start = omega (arith, here); within = omega (arith, here) })
pushed_laid end false es new r to is here h = ap (are_laid end 0 to) is ∙ h

pub pushed_views : (es new : List Running) (path place : Pointer) (r : Running) → new ≡ es ++ r ∷ [] → r.reach ≡ length path → r.depth ≡ length place
    → map (running_view path place) new
    ≡ map (running_view path place) es ++ (onward_identity r.origin.value (last_steps r.onward path), record { pointer = place; name = option_map (λ n. n.now) r.name }) ∷ []
pushed_views es new path place r is reach depth =
    let pointer : take r.reach path ≡ path = take_all r.reach path (omega (arith, reach)) in
    let here : take r.depth place ≡ place = take_all r.depth place (omega (arith, depth)) in
    ap (map (running_view path place)) is ∙ map_push (running_view path place) es r
    ∙ ap₂ (λ a b. map (running_view path place) es ++ (onward_identity r.origin.value (last_steps r.onward a), record { pointer = b; name = option_map (λ n. n.now) r.name }) ∷ []) pointer here

-- ---- one step more
front : {X : Type 0} (xs more : List X) → take (length xs) (xs ++ more) ≡ take (length xs) xs
front xs more = take_at xs more (length xs) refl ∙ sym (take_all (length xs) xs (omega arith))

pub longer_laid : (end : Running → ℕ) (b : Bool) (es : List Running) (old new : Pointer) (step : Text) → new ≡ (if b then old ++ step ∷ [] else old) → are_laid end 0 (length old) es ≡ true → are_laid end 0 (length new) es ≡ true
longer_laid end true es old new step is h = laid_more end 0 (length old) (length new) es (omega (arith, ap length is, length-append old (step ∷ []))) h
longer_laid end false es old new step is h = ap (λ n. are_laid end 0 n es) (ap length is) ∙ h

-- along the path
pub lengthened_views : (b : Bool) (es : List Running) (path place new : Pointer) (step : Text) → new ≡ (if b then path ++ step ∷ [] else path)
    → are_laid (λ r. r.reach) 0 (length path) es ≡ true → are_laid (λ r. r.depth) 0 (length place) es ≡ true
    → map (running_view new place) es ≡ map (running_view path place) es
lengthened_views true es path place new step is laid nested =
    views_same new path place place 0 (length path) 0 (length place) es (ap (take (length path)) is ∙ front path (step ∷ [])) refl laid nested
lengthened_views false es path place new step is laid nested = ap (λ p. map (running_view p place) es) is

-- into the instance
pub deepened_views : (es : List Running) (path place new more : Pointer) → new ≡ place ++ more
    → are_laid (λ r. r.reach) 0 (length path) es ≡ true → are_laid (λ r. r.depth) 0 (length place) es ≡ true
    → map (running_view path new) es ≡ map (running_view path place) es
deepened_views es path place new more is laid nested =
    views_same path path new place 0 (length path) 0 (length place) es refl (ap (take (length place)) is ∙ front place more) laid nested

pub deepened_either : (b : Bool) (es : List Running) (path place new : Pointer) (step : Text) → new ≡ (if b then place ++ step ∷ [] else place)
    → are_laid (λ r. r.reach) 0 (length path) es ≡ true → are_laid (λ r. r.depth) 0 (length place) es ≡ true
    → map (running_view path new) es ≡ map (running_view path place) es
deepened_either true es path place new step is laid nested = deepened_views es path place new (step ∷ []) is laid nested
deepened_either false es path place new step is laid nested = ap (λ p. map (running_view path p) es) is

-- what holds where the push succeeds
pub on_push : {X E P : Type 0} (r : Result X E) (new a b : Pointer) → new ≡ (if is_ok r then a else b) → (new ≡ a → P) → OnOk r P
on_push (Ok x) new a b is f = f is
on_push (Err x) new a b is f = tt

-- ---- fewer steps
pub cut_laid : (end : Running → ℕ) (es : List Running) (old new : Pointer) (n : ℕ) → new ≡ take n old → last_end 0 (map end es) ≤ n → are_laid end 0 (length old) es ≡ true → are_laid end 0 (length new) es ≡ true
cut_laid end es old new n is le h =
    let last = last_end 0 (map end es) in
    laid_more end 0 last (length new) es (omega (arith, le, last_within end 0 (length old) es h, ap length is, length-take n old)) (laid_to_last end 0 (length old) es h)

pub cut_views : (es : List Running) (path new place there : Pointer) (n m : ℕ) → new ≡ take n path → there ≡ take m place → last_end 0 (map (λ r. r.reach) es) ≤ n → last_end 0 (map (λ r. r.depth) es) ≤ m
    → are_laid (λ r. r.reach) 0 (length path) es ≡ true → are_laid (λ r. r.depth) 0 (length place) es ≡ true
    → map (running_view new there) es ≡ map (running_view path place) es
cut_views es path new place there n m is near long deep laid nested =
    let reach = last_end 0 (map (λ r. r.reach) es) in
    let depth = last_end 0 (map (λ r. r.depth) es) in
    views_same new path there place 0 reach 0 depth es (ap (take reach) is ∙ take-take reach n path long) (ap (take depth) near ∙ take-take depth m place deep)
    (laid_to_last (λ r. r.reach) 0 (length path) es laid) (laid_to_last (λ r. r.depth) 0 (length place) es nested)

pub shortened_views : (es : List Running) (path new place : Pointer) (n : ℕ) → new ≡ take n path → last_end 0 (map (λ r. r.reach) es) ≤ n
    → are_laid (λ r. r.reach) 0 (length path) es ≡ true → are_laid (λ r. r.depth) 0 (length place) es ≡ true
    → map (running_view new place) es ≡ map (running_view path place) es
shortened_views es path new place n is long laid nested =
    let reach = last_end 0 (map (λ r. r.reach) es) in
    views_same new path place place 0 reach 0 (length place) es (ap (take reach) is ∙ take-take reach n path long) refl (laid_to_last (λ r. r.reach) 0 (length path) es laid) nested

-- ---- none of them stands beyond the path or below the instance location
pub ends_within : (o : RunningObjects) → last_end 0 (path_ends o) ≤ length (path_pointer o)
unfolding path_pointer path_ends
ends_within o = last_within (λ r. r.reach) 0 (length (pointer_view o.path)) o.entries.items o.laid

are_all_above : (path place : Pointer) (from to n : ℕ) (rs : List Running) → to ≤ n → are_laid (λ r. r.depth) from to rs ≡ true → are_above n (map (running_view path place) rs) ≡ true
are_all_above path place from to n [] le h = refl
are_all_above path place from to n (r ∷ rs) le h =
    let p = parts (λ r. r.depth) from to r rs h in
    let bound = laid_bound (λ r. r.depth) r.depth to rs p.rest in
    and_from _ (are_above n (map (running_view path place) rs))
    (le-leb (length (take r.depth place)) n (omega (arith, bound, length-take r.depth place)))
    (are_all_above path place r.depth to n rs le p.rest)

pub none_below : (o : RunningObjects) (n : ℕ) → n ≡ length (instance_pointer o) → are_above n (running_objects o) ≡ true
unfolding instance_pointer running_objects
none_below o n is = are_all_above (pointer_view o.path) (pointer_view o.instance_location) 0 (length (pointer_view o.instance_location)) n o.entries.items (omega (arith, is)) o.nested

-- ---- what a pop leaves
pub no_push : {A : Type 0} (xs : List A) (x : A) → [] ≡ xs ++ x ∷ [] → ⊥
no_push [] x e = cc
no_push (y ∷ ys) x e = cc

pub popped_laid : (end : Running → ℕ) (es new : List Running) (to count : ℕ) → new ≡ take count es → are_laid end 0 to es ≡ true → are_laid end 0 to new ≡ true
popped_laid end es new to count is h = ap (are_laid end 0 to) is ∙ laid_take end 0 to count es h

pub popped : {A B : Type 0} (f : A → B) (es new : List A) (count : ℕ) → count ≡ length es → new ≡ take (count - 1) es → (older : List B) (v : B) → map f es ≡ older ++ v ∷ [] → map f new ≡ older
popped f es new count all is older v seen =
    let long : count - 1 ≡ length older = omega (arith, all, ap length seen, length-map es f, length-append older (v ∷ [])) in
    ap (map f) is ∙ sym (take-map f (count - 1) es) ∙ ap₂ take long seen ∙ take_at older (v ∷ []) (length older) refl

-- a list with a last element
pub split_last : {A : Type 0} (x : A) (xs : List A) → (older : List A) × (last : A) × (x ∷ xs ≡ older ++ last ∷ [])
split_last x [] = ([], x, refl)
split_last x (y ∷ ys) =
    let split = split_last y ys in
    (x ∷ split.0, split.1, ap (λ zs. x ∷ zs) split.2)

-- a path without its last step
pub cut_path : (path new : Pointer) (last len : ℕ) → new ≡ take (len - 1) path → len ≡ length path → last < length path → new ≡ take (max (length path - 1) last) path
cut_path path new last len cut is less =
    let count : len - 1 ≡ max (length path - 1) last = omega (arith, less, is) in
    cut ∙ ap (λ n. take n path) count

-- ---- the search
any_split : {A B : Type 0} (f : B → Bool) (g : A → B) (n : ℕ) (es : List A) → list_any f (map g es) ≡ (list_any f (map g (take n es)) || list_any f (map g (drop n es)))
any_split f g n es =
    ap (λ rs. list_any f (map g rs)) (sym (take-append-drop n es)) ∙ ap (list_any f) (map-append g (take n es) (drop n es)) ∙ list_any-append f (map g (take n es)) (map g (drop n es))

pub found_at : {A B : Type 0} (f : B → Bool) (g : A → B) (es : List A) (i : ℕ) (x : A) → i < length es → x ≡ get_or es i x → f (g x) ≡ true → list_any f (map g es) ≡ true
found_at f g es i x less is here =
    list_any_at f (map g es) i (g x) (omega (arith, length-map es g)) (ap f (get_or-map g es i x (g x) less) ∙ ap (λ y. f (g y)) (sym is) ∙ here)

-- pointers of two lengths differ
pub pointers_differ : (ts us : Pointer) → (length ts ≡ length us → ⊥) → same_pointer ts us ≡ false
pointers_differ [] [] differ = absurd (differ refl)
pointers_differ [] (u ∷ us) differ = refl
pointers_differ (t ∷ ts) [] differ = refl
pointers_differ (t ∷ ts) (u ∷ us) differ = and_right (same_text t u) (same_pointer ts us) (pointers_differ ts us (λ same. differ (ap suc same)))

-- a pointer beside two, one after the other
pub shorter_differs : (ts first second : Pointer) → length ts < length first → false ≡ same_pointer ts (first ++ second)
shorter_differs ts first second less = sym (pointers_differ ts (first ++ second) (λ same. omega (arith, same, length-append first second)))

and_swap : (a b c : Bool) → (b && (a && c)) ≡ (a && (b && c))
and_swap true b c = refl
and_swap false b c = and_right b false refl

pub same_both : (ts first second : Pointer) → length first ≤ length ts
    → (same_pointer (drop (length first) ts) second && same_pointer (take (length first) ts) first) ≡ same_pointer ts (first ++ second)
same_both ts [] second le = and-true (same_pointer ts second)
same_both [] (u ∷ us) second le = absurd (omega arith)
same_both (t ∷ ts) (u ∷ us) second le =
    and_swap (same_text t u) (same_pointer (drop (length us) ts) second) (same_pointer (take (length us) ts) us) ∙ ap (λ b. same_text t u && b) (same_both ts us second (omega arith))

pub turned : (p q : Pointer) → same_pointer p q ≡ same_pointer q p
turned [] [] = refl
turned [] (u ∷ us) = refl
turned (t ∷ ts) [] = refl
turned (t ∷ ts) (u ∷ us) = ap₂ (λ a b. a && b) (same_text_turned t u) (turned ts us)

joined : (a b c d : Pointer) → length a ≤ length c → (same_pointer b (drop (length a) c ++ d) && same_pointer a (take (length a) c)) ≡ same_pointer (a ++ b) (c ++ d)
joined [] b c d le = and-true (same_pointer b (c ++ d))
joined (t ∷ a) b [] d le = absurd (omega arith)
joined (t ∷ a) b (u ∷ c) d le =
    and_swap (same_text t u) (same_pointer b (drop (length a) c ++ d)) (same_pointer a (take (length a) c)) ∙ ap (λ s. same_text t u && s) (joined a b c d (omega arith))

-- two lists beside two, where the first is no longer than the third
pub joined_steps : (first second other_first other_second front rest : List Step) → front ≡ take (length first) other_first → rest ≡ drop (length first) other_first → length first ≤ length other_first
    → (same_pointer (tokens second) (tokens rest ++ tokens other_second) && same_pointer (tokens first) (tokens front))
    ≡ same_pointer (tokens first ++ tokens second) (tokens other_first ++ tokens other_second)
joined_steps first second other_first other_second front rest e f le =
    let ts = tokens other_first in
    let long : length first ≡ length (tokens first) = sym (length-map first token) in
    let behind : tokens rest ≡ drop (length (tokens first)) ts = ap tokens f ∙ sym (drop-map token (length first) other_first) ∙ ap (λ n. drop n ts) long in
    let before : tokens front ≡ take (length (tokens first)) ts = ap tokens e ∙ sym (take-map token (length first) other_first) ∙ ap (λ n. take n ts) long in
    ap₂ (λ b a. same_pointer (tokens second) (b ++ tokens other_second) && same_pointer (tokens first) a) behind before
    ∙ joined (tokens first) (tokens second) ts (tokens other_second) (omega (arith, le, long, length-map other_first token))

pub split_same : (steps first second front back : List Step) → front ≡ take (length first) steps → back ≡ drop (length first) steps → length first ≤ length steps
    → (same_pointer (tokens back) (tokens second) && same_pointer (tokens front) (tokens first)) ≡ same_pointer (tokens steps) (tokens first ++ tokens second)
split_same steps first second front back e f le =
    let ts = tokens steps in
    let long : length first ≡ length (tokens first) = sym (length-map first token) in
    let last : tokens back ≡ drop (length (tokens first)) ts = ap tokens f ∙ sym (drop-map token (length first) steps) ∙ ap (λ n. drop n ts) long in
    let before : tokens front ≡ take (length (tokens first)) ts = ap tokens e ∙ sym (take-map token (length first) steps) ∙ ap (λ n. take n ts) long in
    ap₂ (λ b a. same_pointer b (tokens second) && same_pointer a (tokens first)) last before ∙ same_both ts (tokens first) (tokens second) (omega (arith, le, long, length-map steps token))

-- none of those higher up stands at the instance location
none_higher : (path place : Pointer) (identity : Identity) (name : Option Text) (from to : ℕ) (rs : List Running) → to < length place → are_laid (λ r. r.depth) from to rs ≡ true
    → list_any (is_running_as identity (record { pointer = place; name = name })) (map (running_view path place) rs) ≡ false
none_higher path place identity name from to [] less h = refl
none_higher path place identity name from to (r ∷ rs) less h =
    let p = parts (λ r. r.depth) from to r rs h in
    let bound = laid_bound (λ r. r.depth) r.depth to rs p.rest in
    let v = running_view path place r in
    let shorter : same_pointer (take r.depth place) place ≡ false =
    pointers_differ (take r.depth place) place (λ same. omega (arith, same, bound, length-take r.depth place)) in
    ap₂ (λ a b. a || b)
    (and_right (same_identity v.0 identity) _ (and_left (same_pointer (take r.depth place) place) (same_name v.1.name name) shorter))
    (none_higher path place identity name r.depth to rs less p.rest)

-- nor any at all, where the innermost stands higher up
pub none_here : (path place : Pointer) (identity : Identity) (name : Option Text) (es : List Running) (here : ℕ) → (last_end 0 (map (λ r. r.depth) es) == here) ≡ false → here ≡ length place
    → are_laid (λ r. r.depth) 0 (length place) es ≡ true
    → list_any (is_running_as identity (record { pointer = place; name = name })) (map (running_view path place) es) ≡ false
none_here path place identity name es here apart same nested =
    let last = last_end 0 (map (λ r. r.depth) es) in
    let within = last_within (λ r. r.depth) 0 (length place) es nested in
    let differ : last ≢ here = eqb-false last here apart in
    none_higher path place identity name 0 last es (omega (arith, within, differ, same)) (laid_to_last (λ r. r.depth) 0 (length place) es nested)

pub none_left : (path place : Pointer) (identity : Identity) (name : Option Text) (es : List Running) (i : ℕ) (r : Running) → i < length es → r ≡ get_or es i r → r.depth < length place
    → are_laid (λ r. r.depth) 0 (length place) es ≡ true
    → list_any (is_running_as identity (record { pointer = place; name = name })) (map (running_view path place) (drop (i + 1) es)) ≡ false
    → false ≡ list_any (is_running_as identity (record { pointer = place; name = name })) (map (running_view path place) es)
none_left path place identity name es i r less is higher nested later =
    let f = is_running_as identity (record { pointer = place; name = name }) in
    let next : i + 1 ≡ suc i = omega arith in
    let front : are_laid (λ r. r.depth) 0 r.depth (take (i + 1) es) ≡ true =
    ap₂ (λ (x : Running) (n : ℕ). are_laid (λ r. r.depth) 0 x.depth (take n es)) is next ∙ laid_front (λ r. r.depth) 0 (length place) es i r less nested in
    sym (any_split f (running_view path place) (i + 1) es ∙ ap₂ (λ a b. a || b) (none_higher path place identity name 0 r.depth (take (i + 1) es) higher front) later)

-- at the instance location only the identity and the name can differ
same_itself : (ts : Pointer) → same_pointer ts ts ≡ true
same_itself [] = refl
same_itself (t ∷ ts) = and_from (same_text t t) (same_pointer ts ts) (same_text_itself t) (same_itself ts)

pub here_same : (path place : Pointer) (identity : Identity) (name : Option Text) (r : Running) → length place ≤ r.depth
    → is_running_as identity (record { pointer = place; name = name }) (running_view path place r) ≡ (same_identity (running_view path place r).0 identity && same_name (running_view path place r).1.name name)
here_same path place identity name r deep =
    let v = running_view path place r in
    let same : same_pointer (take r.depth place) place ≡ true = ap (λ t. same_pointer t place) (take_all r.depth place deep) ∙ same_itself place in
    ap (λ b. same_identity v.0 identity && (b && same_name v.1.name name)) same

-- ---- where the code reads
pub reach_read : (es : List Running) (path : Pointer) (steps : List Step) (i : ℕ) (r : Running) → tokens steps ≡ path → i < length es → r ≡ get_or es i r → are_laid (λ r. r.reach) 0 (length path) es ≡ true → r.reach ≤ length steps
reach_read es path steps i r same less is h =
    omega (arith, laid_at (λ r. r.reach) 0 (length path) es i r less h, ap length same, length-map steps token, ap (λ (x : Running). x.reach) is)

pub found_here : (es : List Running) (path steps place : Pointer) (identity other : Identity) (name : Option Text) (i : ℕ) (r : Running) (b : Bool) → steps ≡ path → other ≡ identity → i < length es → r ≡ get_or es i r → length place ≤ r.depth
    → b ≡ (same_identity (running_view steps place r).0 other && same_name (running_view steps place r).1.name name) → b ≡ true
    → true ≡ list_any (is_running_as identity (record { pointer = place; name = name })) (map (running_view path place) es)
found_here es path steps place identity other name i r b same alike less is deep said here =
    let f = is_running_as identity (record { pointer = place; name = name }) in
    let own : f (running_view path place r) ≡ true =
    here_same path place identity name r deep
    ∙ ap₂ (λ ys j. same_identity (running_view ys place r).0 j && same_name (running_view ys place r).1.name name) (sym same) (sym alike) ∙ sym said ∙ here in
    sym (found_at f (running_view path place) es i r less is own)
