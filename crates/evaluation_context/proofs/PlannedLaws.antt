-- From a keyword to what it applies.
use Rattle.std.proofs.Common.{◌≡◌, ◌≤◌, ◌++◌, ◌∷◌, [], List, Option, Result, OnOk, length, take, refl, sym, ap, ◌∙◌, subst, arith}
use Rattle.std.proofs.lemmas.List.{append-nil, append_assoc, take_at, take_all}
use Rattle.std.proofs.lemmas.Result.{on_ok_weaker}
use Rattle.std.specs.Prelude.{Contains}
use Rattle.definitions.specs.Values.{Text, Value}
use Rattle.definitions.specs.Pointers.{Pointer}
use Rattle.definitions.specs.Schemas.{Identity, Schema, schema_at}
use Rattle.definitions.specs.Applied as definition
use Rattle.definitions.specs.Applied.{Application, InstanceLocation, whole, named, indexed, name_of, part_location}
use Rattle.std.specs.declared.alloc.Global.{Global}
use Rattle.std.specs.declared.rc.Rc.{Rc}
use Rattle.locations.specs.declared.step.Step.{Step}
use Rattle.basic_output.specs.PointerViews.{origin_view}
use Rattle.basic_output.specs.declared.origin.Origin.{Origin}
use Rattle.applicators.specs.Origins.{schema_at_origin}
use Rattle.applicators.specs.Plans.{step_view, way_application, way_view}
use Rattle.applicators.specs.declared.planned.Way.{Way}
use Rattle.applicators.specs.declared.planned.Way.TheVariants as ways
use Rattle.evaluation_context.specs.Frames.{Frame, frame_pointer, frame_standing}
use Rattle.evaluation_context.specs.Standings.{Standing, at_keyword, standing_of}
use Rattle.evaluation_context.specs.Moves.{frame_below, frame_at, at_origin, schema_on_way, standing_at}
use Rattle.evaluation_context.proofs.FrameLaws.{same_standings, schema_entered, standing_below, stands_below}

-- the schema with this value, to which the way leads from a standing
abbrev pub schema_from : Standing → Way → Value → Schema
schema_from st w v = schema_on_way st.resource st.pointer w v

abbrev pub schema_standing : Standing → Value → Schema
schema_standing st v = schema_at st.resource st.pointer v

-- ---- below the keyword
identified_below : (s : Schema) (st : Standing) (way : Pointer) → standing_at [] s (standing_below way st) ≡ standing_at way s st
unfolding standing_at
identified_below s st way = same_standings (append-nil (st.path ++ way)) refl refl refl refl refl

from_below : (st : Standing) (w : Way) (v : Value) → ((o : Rc Origin Global) → w ≡ ways.Target o → ⊥) → schema_from st w v ≡ schema_at st.resource (st.pointer ++ way_view w) v
from_below st ways.Own v other = refl
from_below st (ways.Member name) v other = refl
from_below st (ways.Element i) v other = refl
from_below st (ways.Target o) v other = absurd (other o refl)

pub below_there : {T E : Type 0} (r : Result T E) (xs : List Schema) (f g h : Frame) (w : Way) (v : Value) (step : Option Step) → f.onward ≤ length f.path
    → ((o : Rc Origin Global) → w ≡ ways.Target o → ⊥) → step_view step ≡ way_view w → g ≡ frame_below (step_view step) f
    → ((p : Schema) → Contains xs p → p.resource ≡ (frame_standing g).resource → Contains xs (schema_standing (frame_standing g) v)
    → OnOk r (frame_standing h ≡ standing_at [] (schema_standing (frame_standing g) v) (frame_standing g)))
    → (p : Schema) → Contains xs p → p.resource ≡ (frame_standing f).resource → Contains xs (schema_from (frame_standing f) w v)
    → OnOk r (frame_standing h ≡ standing_at (way_view w) (schema_from (frame_standing f) w v) (frame_standing f))
below_there r xs f g h w v step within other way e there p known resource contains =
    let st = frame_standing f in
    let s = schema_standing (frame_standing g) v in
    let t = schema_from st w v in
    let stands : frame_standing g ≡ standing_below (way_view w) st = ap frame_standing e ∙ stands_below (step_view step) f within ∙ ap (λ p. standing_below p st) way in
    let same : s ≡ t = ap (λ x. schema_standing x v) stands ∙ sym (from_below st w v other) in
    let arrived : standing_at [] s (frame_standing g) ≡ standing_at (way_view w) t st =
    ap (standing_at [] s) stands ∙ identified_below s st (way_view w) ∙ ap (λ x. standing_at (way_view w) x st) same in
    let around : p.resource ≡ (frame_standing g).resource = resource ∙ sym (ap (λ (x : Standing). x.resource) stands) in
    on_ok_weaker r (λ o. o ∙ arrived) (there p known around (subst (Contains xs) (sym same) contains))

-- ---- at what a reference names
pub target_there : (f h : Frame) (w : Way) (v : Value) (o : Rc Origin Global) (origin : Identity) → w ≡ ways.Target o → origin ≡ origin_view o.value → h ≡ at_origin origin f
    → frame_standing h ≡ standing_at (way_view w) (schema_from (frame_standing f) w v) (frame_standing f)
target_there f h w v o origin is same e =
    ap frame_standing e ∙ schema_entered origin (schema_at_origin o.value v) f (ap (λ (i : Identity). i.0) same) (ap (λ (i : Identity). i.1) same)
    ∙ ap (λ x. standing_at (way_view x) (schema_from (frame_standing f) x v) (frame_standing f)) (sym is)

-- ---- to the part of the instance
pub front_of_part : (p : InstanceLocation) (part : definition.Part) → take (length p.pointer) (part_location p part).pointer ≡ p.pointer
front_of_part p whole = take_all (length p.pointer) p.pointer (omega arith)
front_of_part p (named n) = take_at p.pointer _ (length p.pointer) refl
front_of_part p (indexed i) = take_at p.pointer _ (length p.pointer) refl
front_of_part p (name_of n) = take_all (length p.pointer) p.pointer (omega arith)

-- ---- the whole way
arrived : (f g h : Frame) (a : Application) (k : Text) (way rest : Pointer) (s t : Schema) (part : definition.Part) → frame_standing f ≡ at_keyword k (standing_of a)
    → h ≡ frame_at (part_location g.instance_location part) g → frame_standing g ≡ standing_at way s (frame_standing f) → k ∷ way ≡ rest → s ≡ t
    → frame_standing h ≡ record { path = a.path ++ rest; resource = t.resource; pointer = t.pointer; instance_location = part_location a.instance_location part; scope = a.scope; running = a.running }
unfolding frame_standing frame_at standing_at
arrived f g h a k way rest s t part here last there longer same =
    same_standings
    (ap (λ (x : Frame). x.path) last ∙ ap (λ (st : Standing). st.path) there ∙ ap (λ (st : Standing). st.path ++ way) here ∙ append_assoc a.path (k ∷ []) way ∙ ap (λ w. a.path ++ w) longer)
    (ap (λ (x : Frame). x.origin.0) last ∙ ap (λ (st : Standing). st.resource) there ∙ ap (λ (x : Schema). x.resource) same)
    (ap frame_pointer last ∙ ap (λ (st : Standing). st.pointer) there ∙ ap (λ (x : Schema). x.pointer) same)
    (ap (λ (x : Frame). x.instance_location) last ∙ ap (λ (st : Standing). part_location st.instance_location part) (there) ∙ ap (λ (st : Standing). part_location st.instance_location part) here)
    (ap (λ (x : Frame). x.scope) last ∙ ap (λ (st : Standing). st.scope) there ∙ ap (λ (st : Standing). st.scope) here)
    (ap (λ (x : Frame). x.running) last ∙ ap (λ (st : Standing). st.running) there ∙ ap (λ (st : Standing). st.running) here)

schema_here : (st : Standing) (a : Application) (k : Text) (way : Pointer) (v : Value) → st ≡ at_keyword k (standing_of a)
    → schema_at st.resource (st.pointer ++ way) v ≡ schema_at a.schema.resource (a.schema.pointer ++ k ∷ way) v
schema_here st a k way v here =
    ap (λ (x : Standing). schema_at x.resource (x.pointer ++ way) v) here ∙ ap (λ p. schema_at a.schema.resource p v) (append_assoc a.schema.pointer (k ∷ []) way)

-- where the way leads below the keyword
below_planned : (xs : List Schema) (f g h : Frame) (a : Application) (k : Text) (way : Pointer) (v : Value) (part : definition.Part) (t : Schema) → frame_standing f ≡ at_keyword k (standing_of a)
    → h ≡ frame_at (part_location g.instance_location part) g
    → (Contains xs (schema_at (frame_standing f).resource ((frame_standing f).pointer ++ way) v)
    → frame_standing g ≡ standing_at way (schema_at (frame_standing f).resource ((frame_standing f).pointer ++ way) v) (frame_standing f))
    → t ≡ schema_at a.schema.resource (a.schema.pointer ++ k ∷ way) v → Contains xs t
    → frame_standing h ≡ record { path = a.path ++ k ∷ way; resource = t.resource; pointer = t.pointer; instance_location = part_location a.instance_location part; scope = a.scope; running = a.running }
below_planned xs f g h a k way v part t here last there is contains =
    let same = schema_here (frame_standing f) a k way v here ∙ sym is in
    arrived f g h a k way (k ∷ way) _ t part here last (there (subst (Contains xs) (sym same) contains)) refl same

pub planned_there : (xs : List Schema) (f g h : Frame) (a : Application) (k : Text) (w : Way) (v : Value) (part : definition.Part) (x : Value) → frame_standing f ≡ at_keyword k (standing_of a)
    → h ≡ frame_at (part_location g.instance_location part) g
    → (Contains xs (schema_from (frame_standing f) w v) → frame_standing g ≡ standing_at (way_view w) (schema_from (frame_standing f) w v) (frame_standing f))
    → Contains xs (way_application k a w v part x).schema → frame_standing h ≡ standing_of (way_application k a w v part x)
planned_there xs f g h a k ways.Own v part x here last there contains = below_planned xs f g h a k [] v part _ here last there refl contains
planned_there xs f g h a k (ways.Member name) v part x here last there contains = below_planned xs f g h a k (way_view (ways.Member name)) v part _ here last there refl contains
planned_there xs f g h a k (ways.Element i) v part x here last there contains = below_planned xs f g h a k (way_view (ways.Element i)) v part _ here last there refl contains
planned_there xs f g h a k (ways.Target origin) v part x here last there contains =
    arrived f g h a k [] (k ∷ []) _ _ part here last (there contains) refl refl
