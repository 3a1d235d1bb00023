-- What alike schemas have in common: their kind, and their members but for those that a bundle may change.
use Rattle.std.proofs.Common.{◌≡◌, ◌||◌, List, [], ◌∷◌, Bool, true, false, not, cond, Option, Some, None, codes, refl, sym, ap, ◌∙◌}
use Rattle.std.specs.List.{filter}
use Rattle.definitions.specs.Values.{Text, Value, null, boolean, integer, string, array, object, members_list, members, to_members, entry, get, is_object, same_text}
use Rattle.definitions.specs.Alike.{unbundled_value}
use Rattle.lemmas.proofs.Texts.{same_text_is}

abbrev pub is_changed : Text → Bool
is_changed name = same_text name (codes "$id") || same_text name (codes "$defs")

abbrev pub is_kept : Text × Value → Bool
is_kept m = not (is_changed m.0)

pub members_back : (ms : List (Text × Value)) → members_list (to_members ms) ≡ ms
members_back [] = refl
members_back (m ∷ ms) = ap (λ rest. m ∷ rest) (members_back ms)

members-unbundled : (v : Value) → members (unbundled_value v) ≡ filter is_kept (members v)
members-unbundled null = refl
members-unbundled (boolean b) = refl
members-unbundled (integer z) = refl
members-unbundled (string s) = refl
members-unbundled (array vs) = refl
members-unbundled (object ms) = members_back _

is_object-unbundled : (v : Value) → is_object (unbundled_value v) ≡ is_object v
is_object-unbundled null = refl
is_object-unbundled (boolean b) = refl
is_object-unbundled (integer z) = refl
is_object-unbundled (string s) = refl
is_object-unbundled (array vs) = refl
is_object-unbundled (object ms) = refl

-- ---- by the value that is left
abbrev pub as_truth : Value → Option Bool
as_truth (boolean b) = Some b
as_truth _ = None

as_truth-unbundled : (v : Value) → as_truth (unbundled_value v) ≡ as_truth v
as_truth-unbundled null = refl
as_truth-unbundled (boolean b) = refl
as_truth-unbundled (integer z) = refl
as_truth-unbundled (string s) = refl
as_truth-unbundled (array vs) = refl
as_truth-unbundled (object ms) = refl

pub is_object_alike : (v w : Value) → unbundled_value w ≡ unbundled_value v → is_object w ≡ is_object v
is_object_alike v w e = sym (is_object-unbundled w) ∙ ap is_object e ∙ is_object-unbundled v

pub as_truth_alike : (v w : Value) → unbundled_value w ≡ unbundled_value v → as_truth w ≡ as_truth v
as_truth_alike v w e = sym (as_truth-unbundled w) ∙ ap as_truth e ∙ as_truth-unbundled v

pub kept_alike : (v w : Value) → unbundled_value w ≡ unbundled_value v → filter is_kept (members w) ≡ filter is_kept (members v)
kept_alike v w e = sym (members-unbundled w) ∙ ap members e ∙ members-unbundled v

-- ---- a member that isn't changed
entry_kept : (name : Text) (ms : List (Text × Value)) → is_changed name ≡ false → entry name (filter is_kept ms) ≡ entry name ms
entry_kept name [] h = refl
entry_kept name (m ∷ ms) h = by (same_text name m.0) refl (is_changed m.0) refl (entry_kept name ms h)
  where
    by : (found : Bool) → same_text name m.0 ≡ found → (changed : Bool) → is_changed m.0 ≡ changed → entry name (filter is_kept ms) ≡ entry name ms
        → entry name (cond (not changed) (m ∷ filter is_kept ms) (filter is_kept ms)) ≡ cond found (Some m.1) (entry name ms)
    by true f true c later = absurd (let same : is_changed m.0 ≡ is_changed name = ap is_changed (sym (same_text_is name m.0 f)) in cc)
    by true f false c later = rw f refl
    by false f true c later = later
    by false f false c later = rw f later

pub get_alike : (name : Text) (v w : Value) → is_changed name ≡ false → unbundled_value w ≡ unbundled_value v → get name w ≡ get name v
get_alike name v w h e = sym (entry_kept name (members w) h) ∙ ap (entry name) (kept_alike v w e) ∙ entry_kept name (members v) h

-- ---- where only kept members pass, the others are nothing
pub filter_kept : (p : Text × Value → Bool) (ms : List (Text × Value)) → ((m : Text × Value) → is_changed m.0 ≡ true → p m ≡ false) → filter p (filter is_kept ms) ≡ filter p ms
filter_kept p [] h = refl
filter_kept p (m ∷ ms) h = by (is_changed m.0) refl (filter_kept p ms h)
  where
    by : (changed : Bool) → is_changed m.0 ≡ changed → filter p (filter is_kept ms) ≡ filter p ms
        → filter p (cond (not changed) (m ∷ filter is_kept ms) (filter is_kept ms)) ≡ filter p (m ∷ ms)
    by true c later = rw (h m c) later
    by false c later = ap (λ rest. cond (p m) (m ∷ rest) rest) later
