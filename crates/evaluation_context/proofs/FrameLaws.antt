-- Frames, field by field.
use Rattle.std.proofs.Common.{◌≡◌, ◌≤◌, ◌<◌, ◌+◌, ◌-◌, ◌^◌, ◌++◌, ◌∷◌, ◌&&◌, [], true, ℕ, List, None, length, max, take, drop, option_map, refl, sym, ap, ap₂, ◌∙◌, subst, arith}
use Rattle.std.proofs.lemmas.List.{append-nil, append_assoc, length-append, length-map, length-take, take-take, take_at, take_all, drop_all, drop-append-le, same_from_push}
use Rattle.definitions.specs.Values.{Text, Value, is_object}
use Rattle.definitions.specs.Pointers.{Pointer}
use Rattle.definitions.specs.Schemas.{Schema, Identity, schema_at, opened_schema}
use Rattle.definitions.specs.Outcomes.{is_running}
use Rattle.std.specs.List.{list_any}
use Rattle.locations.specs.Steps.{token}
use Rattle.basic_output.specs.PointerViews.{pointer_view}
use Rattle.basic_output.specs.declared.written_pointer.WrittenPointer.{WrittenPointer}
use Rattle.evaluation_context.specs.Runnings.{is_running_as, are_above, last_end, steps_between}
use Rattle.evaluation_context.specs.RunningViews.{path_pointer}
use Rattle.evaluation_context.specs.declared.running_objects.RunningObjects.{RunningObjects}
use Rattle.definitions.specs.Applied.{InstanceLocation, OutputUnit}
use Rattle.evaluation_context.specs.Frames.{Frame, context_view, frame_standing, keyword_frame}
use Rattle.evaluation_context.specs.Standings.{Standing, application_at, at_keyword}
use Rattle.evaluation_context.specs.Moves.{Onward, frame_below, frame_at, at_origin, standing_at}
use Rattle.evaluation_context.specs.Returns.{CameFrom, origin_before}
use Rattle.evaluation_context.specs.declared.context.Context.{Context}
use Rattle.evaluation_context.specs.declared.context.Return.{Return}
use Rattle.evaluation_context.proofs.RunningLaws.{between_push, last_push, no_push, split_last}

pub same_locations : {p q : InstanceLocation} → p.pointer ≡ q.pointer → p.name ≡ q.name → p ≡ q
same_locations {p} {q} pointer name = ap₂ (λ t n. record { pointer = t; name = n }) pointer name

pub same_identities : {i j : Identity} → i.0 ≡ j.0 → i.1 ≡ j.1 → i ≡ j
same_identities {i} {j} resource pointer = ap₂ (λ r t. (r, t)) resource pointer

pub same_frames : {f g : Frame} → f.path ≡ g.path → f.origin ≡ g.origin → f.onward ≡ g.onward → f.instance_location ≡ g.instance_location → f.scope ≡ g.scope → f.running ≡ g.running → f.between ≡ g.between → f.beyond ≡ g.beyond → f ≡ g
same_frames {f} {g} path origin onward instance_location scope running between beyond =
    ap₂ (λ x y. record f { path = x; origin = y }) path origin
    ∙ ap₂ (λ x y. record f { path = g.path; origin = g.origin; onward = x; instance_location = y }) onward instance_location
    ∙ ap₂ (λ x y. record g { scope = x; running = y; between = f.between; beyond = f.beyond }) scope running
    ∙ ap₂ (λ x y. record g { between = x; beyond = y }) between beyond

-- ---- how many steps lead on
pointer_fits : (p : WrittenPointer) → length (pointer_view p) < 2 ^ 63
unfolding pointer_view
pointer_fits p = omega (arith, p.steps.ok.0, p.steps.ok.1, p.steps.small, length-map p.steps.items token)

pub path_fits : (o : RunningObjects) → length (path_pointer o) < 2 ^ 63
unfolding path_pointer
path_fits o = pointer_fits o.path

pub context_within : (c : Context) → (context_view c).onward ≤ length (context_view c).path
unfolding context_view
context_within c = c.within

-- ---- where the pointer leads
-- further, where the path does
pub pointer_further : (start path way : Pointer) (onward : ℕ) → onward ≤ length path
    → start ++ drop (length (path ++ way) - (onward + length way)) (path ++ way) ≡ (start ++ drop (length path - onward) path) ++ way
pointer_further start path way onward within =
    let same : length (path ++ way) - (onward + length way) ≡ length path - onward = omega (arith, length-append path way) in
    ap (λ n. start ++ drop n (path ++ way)) same
    ∙ ap (λ t. start ++ t) (drop-append-le (length path - onward) path way (omega arith))
    ∙ sym (append_assoc start (drop (length path - onward) path) way)

-- nowhere else, at an origin that was entered last
pub pointer_begins : (start path : Pointer) → start ++ drop (length path - 0) path ≡ start
pointer_begins start path = ap (λ t. start ++ t) (drop_all (length path - 0) path (omega arith)) ∙ append-nil start

-- ---- how many steps lead on from the innermost object
pub same_beyond : {p q : Pointer} {ns ms : List ℕ} → p ≡ q → ns ≡ ms → length p - last_end 0 ns ≡ length q - last_end 0 ms
same_beyond {p} {q} {ns} {ms} path ends = ap₂ (λ (t : Pointer) ks. length t - last_end 0 ks) path ends

pub beyond_further : (p q way : Pointer) (ns ms : List ℕ) → q ≡ p ++ way → ms ≡ ns → last_end 0 ns ≤ length p → length q - last_end 0 ms ≡ (length p - last_end 0 ns) + length way
beyond_further p q way ns ms path ends within = omega (arith, ap length path, length-append p way, ap (last_end 0) ends, within)

-- where no object ends at the last step
pub step_popped : (path new older : Pointer) (k : Text) (last beyond : ℕ) → new ≡ take (max (length path - 1) last) path → path ≡ older ++ k ∷ [] → length path - last ≡ beyond + 1 → (new ≡ older) × (length new - last ≡ beyond)
step_popped path new older k last beyond is pushed behind =
    let long : length path ≡ length older + 1 = omega (arith, ap length pushed, length-append older (k ∷ [])) in
    let count : max (length path - 1) last ≡ length older = omega (arith, long, behind) in
    let same : new ≡ older = is ∙ ap₂ take count pushed ∙ take_at older (k ∷ []) (length older) refl in
    (same, omega (arith, long, behind, ap length same))

-- ---- an object less
pub object_left : (ends new between : List ℕ) (beyond long : ℕ) → ((ns : List ℕ) (n : ℕ) → ends ≡ ns ++ n ∷ [] → new ≡ ns) → last_end 0 ends ≤ long
    → steps_between 0 ends ≡ between ++ beyond ∷ [] → long - last_end 0 ends ≡ 0 → (steps_between 0 new ≡ between) × (long - last_end 0 new ≡ beyond)
object_left [] new between beyond long left within is here = absurd (no_push between beyond is)
object_left (n ∷ ns) new between beyond long left within is here =
    let split = split_last n ns in
    let same : new ≡ split.0 = left split.0 split.1 split.2 in
    let end : last_end 0 (n ∷ ns) ≡ split.1 = ap (last_end 0) split.2 ∙ last_push 0 split.0 split.1 in
    let both = same_from_push (steps_between 0 split.0) between (split.1 - last_end 0 split.0) beyond (sym (between_push 0 split.0 split.1) ∙ ap (steps_between 0) (sym split.2) ∙ is) in
    (ap (steps_between 0) same ∙ both.0, omega (arith, end, within, here, both.1, ap (last_end 0) same))

-- ---- moves
pub stepped_nowhere : (f : Frame) → f ≡ frame_below [] f
unfolding frame_below
stepped_nowhere f = same_frames (sym (append-nil f.path)) refl (omega arith) refl refl refl refl (omega arith)

front : {A : Type 0} (xs more : List A) → take (length xs) (xs ++ more) ≡ xs
front xs more = take_at xs more (length xs) refl

pub onward_stepped : (way : Pointer) (f : Frame) → Onward f (frame_below way f)
unfolding frame_below
onward_stepped way f =
    record {
      path = front f.path way;
      instance_location = take_all (length f.instance_location.pointer) f.instance_location.pointer (omega arith);
      scope = refl;
      running = refl;
      between = refl;
      beyond = omega (arith, length-append f.path way);
    }

pub onward_origin : (i : Identity) (f : Frame) → Onward f (at_origin i f)
unfolding at_origin
onward_origin i f =
    record {
      path = take_all (length f.path) f.path (omega arith);
      instance_location = take_all (length f.instance_location.pointer) f.instance_location.pointer (omega arith);
      scope = refl;
      running = refl;
      between = refl;
      beyond = refl;
    }

pub onward_placed : (p : InstanceLocation) (f : Frame) → take (length f.instance_location.pointer) p.pointer ≡ f.instance_location.pointer → Onward f (frame_at p f)
unfolding frame_at
onward_placed p f instance_location =
    record {
      path = take_all (length f.path) f.path (omega arith);
      instance_location = instance_location;
      scope = refl;
      running = refl;
      between = refl;
      beyond = refl;
    }

front_of_front : {A : Type 0} (xs ys zs : List A) → take (length xs) ys ≡ xs → take (length ys) zs ≡ ys → take (length xs) zs ≡ xs
front_of_front xs ys zs first second =
    let long : length xs ≤ length ys = omega (arith, ap length first, length-take (length xs) ys) in
    sym (take-take (length xs) (length ys) zs long) ∙ ap (take (length xs)) second ∙ first

pub onward_onward : {f g h : Frame} → Onward f g → Onward g h → Onward f h
onward_onward {f} {g} {h} first second =
    record {
      path = front_of_front f.path g.path h.path first.path second.path;
      instance_location = front_of_front f.instance_location.pointer g.instance_location.pointer h.instance_location.pointer first.instance_location second.instance_location;
      scope = second.scope ∙ first.scope;
      running = second.running ∙ first.running;
      between = second.between ∙ first.between;
      beyond = omega (arith, first.beyond, second.beyond);
    }

pub onward_at : {f g h : Frame} → g ≡ h → Onward f h → Onward f g
onward_at {f} {g} {h} e onward = subst (Onward f) (sym e) onward

-- the origin stays on these
pub origin_below : (way : Pointer) (f : Frame) → (frame_below way f).origin ≡ f.origin
unfolding frame_below
origin_below way f = refl

pub origin_placed : (p : InstanceLocation) (f : Frame) → (frame_at p f).origin ≡ f.origin
unfolding frame_at
origin_placed p f = refl

-- ---- the way back
-- it leads there
pub record LeadsTo (back : Return) (f : Frame) : Type 0 where
  pub path : back.path ≡ length f.path
  pub onward : back.onward ≡ f.onward
  pub within : f.onward ≤ length f.path
  pub instance_location : back.instance_location ≡ length f.instance_location.pointer
  pub name : option_map (λ n. n.now) back.name ≡ f.instance_location.name
  pub above : are_above back.instance_location f.running ≡ true

pub came_from : (back : Return) (older newer : Frame) → LeadsTo back older → Onward older newer → origin_before back.origin newer.origin ≡ older.origin → CameFrom back older newer
came_from back older newer leads onward left =
    let path : take back.path newer.path ≡ older.path = ap (λ n. take n newer.path) leads.path ∙ onward.path in
    let long : length older.path ≤ length newer.path = omega (arith, ap length onward.path, length-take (length older.path) newer.path) in
    record {
      cut = same_frames
          (sym path)
          (sym left)
          (omega (arith, leads.onward, leads.within, ap length path))
          (same_locations (sym (ap (λ n. take n newer.instance_location.pointer) leads.instance_location ∙ onward.instance_location)) (sym leads.name))
          (sym onward.scope)
          (sym onward.running)
          (sym onward.between)
          (omega (arith, onward.beyond, leads.path, long));
      above = ap (are_above back.instance_location) onward.running ∙ leads.above;
      within = omega (arith, onward.beyond, leads.path, long);
    }

-- ---- standings, units and objects, field by field
pub same_standings : {s t : Standing} → s.path ≡ t.path → s.resource ≡ t.resource → s.pointer ≡ t.pointer → s.instance_location ≡ t.instance_location → s.scope ≡ t.scope → s.running ≡ t.running → s ≡ t
same_standings {s} {t} path resource pointer instance_location scope running =
    ap₂ (λ x y. record s { path = x; resource = y }) path resource
    ∙ ap₂ (λ x y. record s { path = t.path; resource = t.resource; pointer = x; instance_location = y }) pointer instance_location
    ∙ ap₂ (λ x y. record t { scope = x; running = y }) scope running

-- further along the path, below the schema
abbrev pub standing_below : Pointer → Standing → Standing
standing_below way st = record st { path = st.path ++ way; pointer = st.pointer ++ way }

pub stands_below : (way : Pointer) (f : Frame) → f.onward ≤ length f.path → frame_standing (frame_below way f) ≡ standing_below way (frame_standing f)
unfolding frame_standing frame_below
stands_below way f within = same_standings refl refl (pointer_further f.origin.1 f.path way f.onward within) refl refl refl

-- at a keyword of the schema
pub stands_at_keyword : (k : Text) (f g : Frame) → f.onward ≤ length f.path → g ≡ keyword_frame k f → frame_standing g ≡ at_keyword k (frame_standing f)
unfolding frame_below keyword_frame
stands_at_keyword k f g within e = ap frame_standing e ∙ stands_below (k ∷ []) f within

-- at a schema with no resource of its own
pub schema_stays : (st : Standing) (v : Value) → opened_schema st.resource st.pointer v None ≡ schema_at st.resource st.pointer v → st ≡ standing_at [] (schema_at st.resource st.pointer v) st
unfolding standing_at
schema_stays st v e = ap₂ (λ p (s : Schema). record st { path = p; resource = s.resource; pointer = s.pointer }) (sym (append-nil st.path)) e

-- at the origin of this schema
pub schema_entered : (i : Identity) (s : Schema) (f : Frame) → i.0 ≡ s.resource → i.1 ≡ s.pointer → frame_standing (at_origin i f) ≡ standing_at [] s (frame_standing f)
unfolding frame_standing at_origin standing_at
schema_entered i s f resource pointer = same_standings (sym (append-nil f.path)) resource (pointer_begins i.1 f.path ∙ pointer) refl refl refl

pub same_units : {u v : OutputUnit} → u.path ≡ v.path → u.resource ≡ v.resource → u.pointer ≡ v.pointer → u.instance_location ≡ v.instance_location → u.says ≡ v.says → u ≡ v
same_units {u} {v} path resource pointer instance_location says =
    ap₂ (λ x y. record u { path = x; resource = y }) path resource
    ∙ ap₂ (λ x y. record u { path = v.path; resource = v.resource; pointer = x; instance_location = y }) pointer instance_location
    ∙ ap (λ x. record v { says = x }) says

pub same_objects : {i j : Identity} {p q : InstanceLocation} → i.0 ≡ j.0 → i.1 ≡ j.1 → p.pointer ≡ q.pointer → p.name ≡ q.name → (os : List (Identity × InstanceLocation)) → os ++ (i, p) ∷ [] ≡ os ++ (j, q) ∷ []
same_objects {i} {j} {p} {q} resource pointer instance_location name os =
    ap₂ (λ k r. os ++ (k, r) ∷ []) (ap₂ (λ r t. (r, t)) resource pointer) (same_locations instance_location name)

pub running_is : (s x : Value) (st : Standing) → is_object s ≡ true → list_any (is_running_as (st.resource, st.pointer) st.instance_location) st.running ≡ is_running (application_at st s x)
running_is s x st object = sym (ap (λ b. b && list_any (is_running_as (st.resource, st.pointer) st.instance_location) st.running) object)
