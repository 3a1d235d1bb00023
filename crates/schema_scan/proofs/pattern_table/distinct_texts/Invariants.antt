use Rattle.std.proofs.Common.{◌≡◌, ◌≤◌, length, map, string_bytes}
use Rattle.std.specs.BTreeSet.{contains_text}
use Rattle.definitions.specs.Values.{Text}
use Rattle.schema_scan.specs.TextsAmong.{is_among}
use Rattle.schema_scan.proofs.HeldPatterns.{first_texts}
use Rattle.schema_scan.proofs.pattern_table.distinct_texts.Given as goal

abbrev pub invariant-loop-text : goal.invariant-loop-text
invariant-loop-text l =
    record {
      known : (q : Text) → contains_text l.seen q ≡ is_among (map string_bytes l.distinct.items) q;
      same : (q : Text) → is_among (map string_bytes l.distinct.items) q ≡ is_among (first_texts l.text-index l.texts) q;
      bound : length l.distinct.items ≤ l.text-index;
    }
