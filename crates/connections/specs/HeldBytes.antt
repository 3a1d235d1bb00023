-- That what is known of held bytes has one proof at most.
use Rattle.std.proofs.Common.{◌≡◌, ap, ap₂}
use Rattle.std.proofs.Props.{props}
use mathlib.Core.HLevel.{Σ_prop_path}
use Rattle.httparse.specs.Grammar.{RequestHead}
use Rattle.httparse.proofs.GrammarLemmas.{request_unique}
use Rattle.definitions.specs.Values.{Text}
use Rattle.http_definitions.specs.Streams.{BeginsWithHead}
use Rattle.request_heads.specs.Searches.{IsSearched}
use Rattle.request_heads.specs.Fronts.{HasHeading}
use Rattle.request_heads.specs.Headings.{IsHeading}
use Rattle.request_heads.specs.declared.headings.Heading.{Heading}
use Rattle.request_heads.specs.declared.searches.Search.{Search}
use Rattle.connections.specs.Phases.{IsOn, IsHeld}
use Rattle.connections.specs.declared.phases.Phase.{Phase}
use Rattle.connections.specs.declared.phases.Phase.TheVariants.{Searching, Reading}

IsSearched-prop : (bytes : Text) (s : Search) → IsProp (IsSearched bytes s)
IsSearched-prop bytes s = hlevel props

abbrev IsKeptOf : Text → Heading → RequestHead × Text → Type 0
IsKeptOf bytes x p = BeginsWithHead bytes p.0 p.1 × IsHeading p.0 x

IsKeptOf-prop : (bytes : Text) (x : Heading) (p : RequestHead × Text) → IsProp (IsKeptOf bytes x p)
IsKeptOf-prop bytes x p = hlevel props

HasHeading-prop : (bytes : Text) (x : Heading) → IsProp (HasHeading bytes x)
HasHeading-prop bytes x u v =
    let same = request_unique bytes u.0 v.0 u.1 v.1 u.2.0 v.2.0 in
    let paired : ((u.0, u.1), (u.2, u.3)) ≡ ((v.0, v.1), (v.2, v.3)) =
    Σ_prop_path {A = RequestHead × Text} {B = IsKeptOf bytes x} (IsKeptOf-prop bytes x) (ap₂ (λ h more. (h, more)) same.0 same.1) in
    ap (λ w. (w.0.0, w.0.1, w.1.0, w.1.1)) paired

IsOn-prop : (bytes : Text) (p : Phase) → IsProp (IsOn bytes p)
IsOn-prop bytes (Searching s) = IsSearched-prop bytes s
IsOn-prop bytes (Reading x) = HasHeading-prop bytes x

pub IsHeld-prop : (bytes : Text) (p : Phase) → IsProp (IsHeld bytes p)
IsHeld-prop bytes p = hlevel (props, IsOn-prop bytes p)
