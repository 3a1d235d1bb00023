-- A text that is read as a value.
use Rattle.std.proofs.Common.{◌≡◌, true, None, Result, Ok, Err, refl, sym, ap, subst, ◌∙◌}
use Rattle.definitions.specs.Faults.{Fault}
use Rattle.definitions.specs.Caches.{CacheKey}
use Rattle.definitions.specs.Patterns.{regular_search}
use Rattle.definitions.specs.Scanning.{scan_fault}
use Rattle.definitions.specs.Searches.{is_regular}
use Rattle.definitions.specs.Texts.{parsed_value}
use Rattle.definitions.specs.Values.{Text, Value}
use Rattle.json_doc.proofs.Equality.{same-Decides}
use Rattle.schema_scan.specs.CompiledDocuments.{compiled_base, compiled_value}
use Rattle.schema_scan.specs.declared.compiled.Compiled.{Compiled}
use Rattle.shared_cache.specs.Entries.{IsMadeBy}
use Rattle.shared_cache.specs.Readings.{is_read_as, is_ok_of, read_value, value_or_null}

ok_of : (r : Result Value Fault) (v : Value) → is_ok_of v r ≡ true → r ≡ Ok v
ok_of (Ok w) v h = ap (λ u. Ok u) (sym ((same-Decides v w).0 h))
ok_of (Err f) v h = cc

pub read_as : (t : Text) (v : Value) → is_read_as t v ≡ true → parsed_value t ≡ Ok v
unfolding is_read_as
read_as t v h = ok_of (parsed_value t) v h

pub is_read : (t : Text) (v : Value) → parsed_value t ≡ Ok v → is_read_as t v ≡ true
unfolding is_read_as
is_read t v e = ap (is_ok_of v) e ∙ (same-Decides v v).1 refl

pub spelled : (t : Text) (v : Value) → parsed_value t ≡ Ok v → read_value t ≡ v
unfolding read_value
spelled t v e = ap value_or_null e

same_Ok : {X E : Type 0} {x y : X} → ◌≡◌ {A = Result X E} (Ok x) (Ok y) → x ≡ y
same_Ok e = cc

-- two values that one text is read as are one
pub one_value : (t : Text) (v w : Value) → is_read_as t v ≡ true → parsed_value t ≡ Ok w → w ≡ v
one_value t v w h e = same_Ok (sym e ∙ read_as t v h)

-- ---- of the value that a key's text is read as, where the document d is made by the key
module _ (key : CacheKey) (v : Value) (c d : Compiled) (same : d ≡ c) (compiled : IsMadeBy key c) (reads : is_read_as key.1 v ≡ true) where
  pub sound_as : scan_fault (compiled_base d) (compiled_value d) ≡ None → scan_fault key.0 v ≡ None
  sound_as h =
      let own : scan_fault (compiled_base c) (compiled_value c) ≡ None = subst (λ (x : Compiled). scan_fault (compiled_base x) (compiled_value x) ≡ None) same h in
      let based : scan_fault key.0 (compiled_value c) ≡ None = subst (λ (b : Text). scan_fault b (compiled_value c) ≡ None) compiled.0 own in
      subst (λ (w : Value). scan_fault key.0 w ≡ None) (one_value key.1 v (compiled_value c) reads compiled.1) based

  pub regular_as : is_regular regular_search (compiled_value d) ≡ true → is_regular regular_search v ≡ true
  regular_as h =
      let own : is_regular regular_search (compiled_value c) ≡ true = subst (λ (x : Compiled). is_regular regular_search (compiled_value x) ≡ true) same h in
      subst (λ (w : Value). is_regular regular_search w ≡ true) (one_value key.1 v (compiled_value c) reads compiled.1) own
