-- One tenant's part of calls of several.
use Rattle.std.proofs.Common.{◌≡◌, ◌≢◌, ℕ, List, [], ◌∷◌, ◌++◌, Bool, true, false, cond, is_some, Option, Some, None, Ok, refl, sym, ap, ◌∙◌, subst, inl, inr, true≢false, IsTrue}
use Rattle.std.specs.Cmp.Lexicographic.{bytes_decides}
use Rattle.definitions.specs.Values.{Text, same_text}
use Rattle.definitions.specs.Faults.{Fault, unknown_tenant}
use Rattle.definitions.specs.Schemas.{Document}
use Rattle.definitions.specs.Registries.{Registry, Request, Reply, refused}
use Rattle.definitions.specs.Searches.{Search}
use Rattle.definitions.specs.Steps.{step}
use Rattle.definitions.specs.Runs.{Course, IsAnswer, replies}
use Rattle.definitions.specs.Keeping.{AreKept, IsKept}
use Rattle.definitions.specs.Services.{KeyedRegistry, Call, registry_of, with_registry, call_at, IsCallAnswer, CallCourse, own_requests, replies_at, AllUnknown}
use Rattle.definitions.specs.Tenants.{Tenant, server_fault, empty_registry, empty_registries, unless_refused, new_server}
use Rattle.lemmas.proofs.SomeValues.{some_same, none_some}
use Rattle.lemmas.proofs.Texts.{same_text_is}
use Rattle.definition_laws.specs.Laws.{NoneIsForRoom}
use Rattle.definition_laws.specs.Services.{AreAllKept}
use Rattle.definition_laws.proofs.Registries.{course_replies}
use Rattle.definition_laws.proofs.KeptRegistries.{step_kept, empty_kept}

-- ---- keys
is_unlike : (t u : Text) (b : Bool) → same_text t u ≡ b → t ≢ u → same_text t u ≡ false
is_unlike t u true e differ = absurd (differ (same_text_is t u e))
is_unlike t u false e differ = e

differs : (t u : Text) → same_text t u ≡ false → t ≢ u
differs t u e same = true≢false (sym ((bytes_decides t u).1 same) ∙ e)

-- ---- a registry in place of the key's
own_after_at : (k : KeyedRegistry) (ks : List KeyedRegistry) (key : Text) (g h : Registry) (b : Bool) → same_text key k.key ≡ b
    → (registry_of ks key ≡ Some g → registry_of (with_registry ks key h) key ≡ Some h)
    → registry_of (k ∷ ks) key ≡ Some g → registry_of (with_registry (k ∷ ks) key h) key ≡ Some h
own_after_at k ks key g h true e more is = rw (e, e) refl
own_after_at k ks key g h false e more is = rw (e, e) (more (sym (ap (λ b. cond b (Some k.registry) (registry_of ks key)) e) ∙ is))

own_after : (ks : List KeyedRegistry) (key : Text) (g h : Registry) → registry_of ks key ≡ Some g → registry_of (with_registry ks key h) key ≡ Some h
own_after [] key g h is = absurd (none_some is)
own_after (k ∷ ks) key g h is = own_after_at k ks key g h (same_text key k.key) refl (own_after ks key g h) is

others_after_at : (k : KeyedRegistry) (ks : List KeyedRegistry) (key other : Text) (h : Registry) (b : Bool) → same_text key k.key ≡ b → other ≢ key
    → registry_of (with_registry ks key h) other ≡ registry_of ks other → registry_of (with_registry (k ∷ ks) key h) other ≡ registry_of (k ∷ ks) other
others_after_at k ks key other h true e differ more =
    let apart : same_text other k.key ≡ false = is_unlike other k.key (same_text other k.key) refl (λ same. differ (same ∙ sym (same_text_is key k.key e))) in
    rw (e, apart) refl
others_after_at k ks key other h false e differ more = rw e (ap (cond (same_text other k.key) (Some k.registry)) more)

others_after : (ks : List KeyedRegistry) (key other : Text) (h : Registry) → other ≢ key → registry_of (with_registry ks key h) other ≡ registry_of ks other
others_after [] key other h differ = refl
others_after (k ∷ ks) key other h differ = others_after_at k ks key other h (same_text key k.key) refl differ (others_after ks key other h differ)

-- ---- one call
stepped_at : (search : Search) (ks : List KeyedRegistry) (c : Call) (o : Option Registry) (g : Registry) → o ≡ Some g
    → call_at search ks c o ≡ ((step search g c.1).0, with_registry ks c.0 (step search g c.1).1)
stepped_at search ks c None g e = absurd (none_some e)
stepped_at search ks c (Some f) g e = ap (λ x. ((step search x c.1).0, with_registry ks c.0 (step search x c.1).1)) (some_same e)

pub answered : (search : Search) (ks ls : List KeyedRegistry) (c : Call) (r : Reply) (g : Registry) → IsCallAnswer search ks c r ls → registry_of ks c.0 ≡ Some g
    → (h : Registry) × ((registry_of ls c.0 ≡ Some h) × IsAnswer search g c.1 r h)
answered search ks ls c r g (inl s) is =
    let made = stepped_at search ks c (registry_of ks c.0) g is in (
      (step search g c.1).1,
      (ap (λ ms. registry_of ms c.0) (s.1 ∙ ap (λ x. x.1) made) ∙ own_after ks c.0 g (step search g c.1).1 is, inl (s.0 ∙ ap (λ x. x.0) made, refl)),
    )
answered search ks ls c r g (inr s) is = (g, (ap (λ ms. registry_of ms c.0) s.2 ∙ is, inr (s.1, refl)))

unknown_at : (search : Search) (ks : List KeyedRegistry) (c : Call) (o : Option Registry) → o ≡ None → call_at search ks c o ≡ (refused unknown_tenant, ks)
unknown_at search ks c None e = refl
unknown_at search ks c (Some f) e = absurd (none_some (sym e))

known : (o : Option Registry) → o ≡ None → IsTrue (is_some o) → ⊥
known None e some = true≢false (sym some)
known (Some g) e some = none_some (sym e)

pub unknown_refused : (search : Search) (ks ls : List KeyedRegistry) (c : Call) (r : Reply) → IsCallAnswer search ks c r ls → registry_of ks c.0 ≡ None
    → (r ≡ refused unknown_tenant) × (ls ≡ ks)
unknown_refused search ks ls c r (inl s) is =
    let made = unknown_at search ks c (registry_of ks c.0) is in
    (s.0 ∙ ap (λ x. x.0) made, s.1 ∙ ap (λ x. x.1) made)
unknown_refused search ks ls c r (inr s) is = absurd (known (registry_of ks c.0) is s.0)

others_at : (search : Search) (ks : List KeyedRegistry) (c : Call) (key : Text) (o : Option Registry) → key ≢ c.0
    → registry_of (call_at search ks c o).1 key ≡ registry_of ks key
others_at search ks c key None differ = refl
others_at search ks c key (Some g) differ = others_after ks c.0 key (step search g c.1).1 differ

pub others_stay : (search : Search) (ks ls : List KeyedRegistry) (c : Call) (r : Reply) (key : Text) → IsCallAnswer search ks c r ls → key ≢ c.0
    → registry_of ls key ≡ registry_of ks key
others_stay search ks ls c r key (inl s) differ = ap (λ ms. registry_of ms key) s.1 ∙ others_at search ks c key (registry_of ks c.0) differ
others_stay search ks ls c r key (inr s) differ = ap (λ ms. registry_of ms key) s.2

-- ---- calls in turn
with_answer : (search : Search) (g m h : Registry) (q : Request) (r : Reply) (qs : List Request) (rs : List Reply) → IsAnswer search g q r m → Course search m qs rs h
    → Course search g (q ∷ qs) (r ∷ rs) h
with_answer search g m h q r qs rs (inl s) course = inl (s.0, subst (λ x. Course search x qs rs h) s.1 course)
with_answer search g m h q r qs rs (inr s) course = inr (s.0, subst (λ x. Course search x qs rs h) s.1 course)

abbrev HasCourse : Search → Text → List KeyedRegistry → Registry → List Request → List Reply → Type 0
HasCourse search key ls g qs rs = (h : Registry) × ((registry_of ls key ≡ Some h) × Course search g qs rs h)

module _ (search : Search) (ks ms ls : List KeyedRegistry) (c : Call) (r : Reply) (cs : List Call) (rs : List Reply) (key : Text) (answer : IsCallAnswer search ks c r ms) where
  course_at : (b : Bool) → same_text key c.0 ≡ b → (g : Registry) → registry_of ks key ≡ Some g
      → ((m : Registry) → registry_of ms key ≡ Some m → HasCourse search key ls m (own_requests key cs) (replies_at key cs rs))
      → HasCourse search key ls g (cond b (c.1 ∷ own_requests key cs) (own_requests key cs)) (cond b (r ∷ replies_at key cs rs) (replies_at key cs rs))
  course_at true e g is more =
      let same = same_text_is key c.0 e in
      let own_answer : (m : Registry) × ((registry_of ms c.0 ≡ Some m) × IsAnswer search g c.1 r m) =
      answered search ks ms c r g answer (ap (registry_of ks) (sym same) ∙ is) in
      let rest : HasCourse search key ls own_answer.0 (own_requests key cs) (replies_at key cs rs) = more own_answer.0 (ap (registry_of ms) same ∙ own_answer.1.0) in
      (rest.0, (rest.1.0, with_answer search g own_answer.0 rest.0 c.1 r (own_requests key cs) (replies_at key cs rs) own_answer.1.1 rest.1.1))
  course_at false e g is more = more g (others_stay search ks ms c r key answer (differs key c.0 e) ∙ is)

  unknown_in : (b : Bool) → same_text key c.0 ≡ b → registry_of ks key ≡ None
      → (registry_of ms key ≡ None → AllUnknown (replies_at key cs rs) × (registry_of ls key ≡ None))
      → AllUnknown (cond b (r ∷ replies_at key cs rs) (replies_at key cs rs)) × (registry_of ls key ≡ None)
  unknown_in true e is more =
      let refusal = unknown_refused search ks ms c r answer (ap (registry_of ks) (sym (same_text_is key c.0 e)) ∙ is) in
      let rest = more (ap (λ xs. registry_of xs key) refusal.1 ∙ is) in
      ((refusal.0, rest.0), rest.1)
  unknown_in false e is more = more (others_stay search ks ms c r key answer (differs key c.0 e) ∙ is)

pub own_course : (search : Search) (ks ls : List KeyedRegistry) (cs : List Call) (rs : List Reply) (key : Text) (g : Registry)
    → CallCourse search ks cs rs ls → registry_of ks key ≡ Some g → HasCourse search key ls g (own_requests key cs) (replies_at key cs rs)
own_course search ks ls [] [] key g course is = (g, (ap (λ ms. registry_of ms key) course ∙ is, refl))
own_course search ks ls [] (r ∷ rs) key g course is = absurd course
own_course search ks ls (c ∷ cs) [] key g course is = absurd course
own_course search ks ls (c ∷ cs) (r ∷ rs) key g course is =
    course_at search ks course.0 ls c r cs rs key course.1 (same_text key c.0) refl g is (λ m now. own_course search course.0 ls cs rs key m course.2 now)

pub own_replies : (search : Search) (ks ls : List KeyedRegistry) (cs : List Call) (rs : List Reply) (key : Text) (g : Registry)
    → CallCourse search ks cs rs ls → registry_of ks key ≡ Some g → NoneIsForRoom search (own_requests key cs) (replies_at key cs rs)
    → replies_at key cs rs ≡ replies search g (own_requests key cs)
own_replies search ks ls cs rs key g course is none =
    let mine = own_course search ks ls cs rs key g course is in
    (course_replies search g mine.0 (own_requests key cs) (replies_at key cs rs) mine.1.1 none).0

pub all_unknown : (search : Search) (ks ls : List KeyedRegistry) (cs : List Call) (rs : List Reply) (key : Text)
    → CallCourse search ks cs rs ls → registry_of ks key ≡ None → AllUnknown (replies_at key cs rs) × (registry_of ls key ≡ None)
all_unknown search ks ls [] [] key course is = (tt, ap (λ ms. registry_of ms key) course ∙ is)
all_unknown search ks ls [] (r ∷ rs) key course is = absurd course
all_unknown search ks ls (c ∷ cs) [] key course is = absurd course
all_unknown search ks ls (c ∷ cs) (r ∷ rs) key course is =
    unknown_in search ks course.0 ls c r cs rs key course.1 (same_text key c.0) refl is (λ now. all_unknown search course.0 ls cs rs key course.2 now)

pub go_on : (search : Search) (ks ms ls : List KeyedRegistry) (cs : List Call) (rs : List Reply) (c : Call) (r : Reply)
    → CallCourse search ks cs rs ms → IsCallAnswer search ms c r ls → CallCourse search ks (cs ++ c ∷ []) (rs ++ r ∷ []) ls
go_on search ks ms ls [] [] c r course answer = (ls, subst (λ xs. IsCallAnswer search xs c r ls) course answer, refl)
go_on search ks ms ls [] (s ∷ rs) c r course answer = absurd course
go_on search ks ms ls (d ∷ cs) [] c r course answer = absurd course
go_on search ks ms ls (d ∷ cs) (s ∷ rs) c r course answer = (course.0, course.1, go_on search course.0 ms ls cs rs c r course.2 answer)

-- ---- what holds of each registry
answer_kept : (search : Search) (g h : Registry) (q : Request) (r : Reply) → IsAnswer search g q r h → IsKept search g → IsKept search h
answer_kept search g h q r (inl s) kept = subst (IsKept search) (sym s.1) (step_kept search g q kept)
answer_kept search g h q r (inr s) kept = subst (IsKept search) (sym s.1) kept

kept_at : (search : Search) (ks ls : List KeyedRegistry) (c : Call) (r : Reply) (key : Text) (h : Registry) (b : Bool) (o : Option Registry)
    → same_text key c.0 ≡ b → registry_of ks c.0 ≡ o → IsCallAnswer search ks c r ls → AreAllKept search ks → registry_of ls key ≡ Some h → IsKept search h
kept_at search ks ls c r key h true (Some g) e is answer kept now =
    let mine : (m : Registry) × ((registry_of ls c.0 ≡ Some m) × IsAnswer search g c.1 r m) = answered search ks ls c r g answer is in
    let same : mine.0 ≡ h = some_same (sym mine.1.0 ∙ ap (registry_of ls) (sym (same_text_is key c.0 e)) ∙ now) in
    subst (IsKept search) same (answer_kept search g mine.0 c.1 r mine.1.1 (kept c.0 g is))
kept_at search ks ls c r key h true None e is answer kept now =
    kept key h (ap (λ ms. registry_of ms key) (sym (unknown_refused search ks ls c r answer is).1) ∙ now)
kept_at search ks ls c r key h false o e is answer kept now = kept key h (sym (others_stay search ks ls c r key answer (differs key c.0 e)) ∙ now)

pub calls_kept : (search : Search) (ks ls : List KeyedRegistry) (cs : List Call) (rs : List Reply) → CallCourse search ks cs rs ls → AreAllKept search ks → AreAllKept search ls
calls_kept search ks ls [] [] course kept = subst (AreAllKept search) (sym course) kept
calls_kept search ks ls [] (r ∷ rs) course kept = absurd course
calls_kept search ks ls (c ∷ cs) [] course kept = absurd course
calls_kept search ks ls (c ∷ cs) (r ∷ rs) course kept =
    calls_kept search course.0 ls cs rs course.2
    (λ key h now. kept_at search ks course.0 c r key h (same_text key c.0) (registry_of ks c.0) refl refl course.1 kept now)

first_kept_at : (search : Search) (library : List Document) (t : Tenant) (b : Bool) (rest : Option Registry) (g : Registry) → AreKept search library
    → (rest ≡ Some g → IsKept search g) → cond b (Some (empty_registry library t)) rest ≡ Some g → IsKept search g
first_kept_at search library t true rest g kept more e = subst (IsKept search) (some_same e) (empty_kept search library t kept)
first_kept_at search library t false rest g kept more e = more e

first_kept : (search : Search) (library : List Document) (ts : List Tenant) → AreKept search library → AreAllKept search (empty_registries library ts)
first_kept search library [] kept key g e = absurd (none_some e)
first_kept search library (t ∷ ts) kept key g e =
    first_kept_at search library t (same_text key t.key) (registry_of (empty_registries library ts) key) g kept (first_kept search library ts kept key g) e

new_is : (o : Option Fault) (tenants : List Tenant) (library : List Document) (ks : List KeyedRegistry) → unless_refused o tenants (Ok library) ≡ Ok ks
    → empty_registries library tenants ≡ ks
new_is None tenants library ks e = cc
new_is (Some f) tenants library ks e = cc

pub new_kept : (search : Search) (tenants : List Tenant) (capacity : ℕ) (library : List Document) (ks : List KeyedRegistry) → AreKept search library
    → new_server tenants capacity (Ok library) ≡ Ok ks → AreAllKept search ks
new_kept search tenants capacity library ks kept e = subst (AreAllKept search) (new_is (server_fault tenants capacity) tenants library ks e) (first_kept search library tenants kept)
