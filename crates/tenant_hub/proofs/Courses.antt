-- How a course of calls begins.
use Rattle.std.proofs.Common.{◌≡◌, List, [], map, refl}
use Rattle.definitions.specs.Registries as meaning
use Rattle.definitions.specs.Searches.{Search}
use Rattle.definitions.specs.Services.{KeyedRegistry, Call, CallCourse}

pub begins : {A B : Type 0} (search : Search) (ks : List KeyedRegistry) (f : A → Call) (g : B → meaning.Reply) (cs : List A) (rs : List B) → cs ≡ [] → rs ≡ []
    → CallCourse search ks (map f cs) (map g rs) ks
begins search ks f g cs rs e h = rw (e, h) refl
