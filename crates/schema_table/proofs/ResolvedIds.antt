-- What an `$id` without a fragment is read as.
use Rattle.std.proofs.Common.{◌≡◌, zero, suc, [], ◌∷◌, Bool, true, false, cond, Option, Some, None, Ok, Err, codes, is_some, refl, sym, ap, ◌∙◌, arith}
use Rattle.std.proofs.lemmas.Str.{IsUtf8-from_ascii, is_utf8-from_IsUtf8}
use Rattle.std.specs.Str.{IsAscii, is_utf8}
use Rattle.definitions.specs.Faults.{bad_fragment}
use Rattle.definitions.specs.Fragments.{fragment_kind, no_fragment}
use Rattle.definitions.specs.Resolution.{is_empty, merge, remove_dot_segments, resolve, target_uri}
use Rattle.definitions.specs.Scanning.{is_empty_fragment}
use Rattle.definitions.specs.Targets.{fragment_of}
use Rattle.definitions.specs.Uris.{Parts, begins, split}
use Rattle.definitions.specs.Values.{Text}
use Rattle.uri_ref.proofs.CutTexts.{fragment_read}

kept_fragment : (base r : Parts) → (resolve base r).fragment ≡ r.fragment
kept_fragment base r = by (is_some r.scheme) (is_some r.authority) (is_empty r.path) (begins r.path (codes "/"))
  where
    by : (a b c d : Bool)
        → (cond a (record r { path = remove_dot_segments r.path })
        (cond b (record r { scheme = base.scheme; path = remove_dot_segments r.path })
        (cond c (record base { query = cond (is_some r.query) r.query base.query; fragment = r.fragment })
        (cond d (record base { path = remove_dot_segments r.path; query = r.query; fragment = r.fragment })
        (record base { path = remove_dot_segments (merge base r.path); query = r.query; fragment = r.fragment }))))).fragment ≡ r.fragment
    by true b c d = refl
    by false true c d = refl
    by false false true d = refl
    by false false false true = refl
    by false false false false = refl

ascii : IsAscii []
ascii zero = omega arith
ascii (suc i) = omega arith

no_bytes : is_utf8 [] ≡ true
no_bytes = is_utf8-from_IsUtf8 [] (IsUtf8-from_ascii [] ascii)

nothing : (o : Option Text) → is_empty_fragment o ≡ true → fragment_kind o ≡ Ok no_fragment
nothing None e = refl
nothing (Some []) e = ap (λ b. cond b (Ok no_fragment) (Err bad_fragment)) no_bytes
nothing (Some (c ∷ cs)) e = cc

pub names_all : (base id : Text) (p : Parts) → p ≡ resolve (split base) (split id) → is_empty_fragment ((split id).fragment) ≡ true → fragment_of (target_uri base id) ≡ Ok no_fragment
names_all base id p e empty =
    sym (fragment_read base id p p.fragment e refl)
    ∙ nothing p.fragment (ap (λ (q : Parts). is_empty_fragment q.fragment) e ∙ ap is_empty_fragment (kept_fragment (split base) (split id)) ∙ empty)
