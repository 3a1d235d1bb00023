use Rattle.std.proofs.Common.{◌≡◌, Bor, map, take, option_map}
use Rattle.std.specs.BTreeSet as tree
use Rattle.std.specs.List.{list_any}
use Rattle.definitions.specs.Batches.{repeats}
use Rattle.definitions.specs.Reach.{least}
use Rattle.definitions.specs.Values.{Text, same_text}
use Rattle.lemmas.proofs.Texts.{text_order}
use Rattle.tenant_documents.proofs.repeated_texts.least_repeat.Given as goal

abbrev pub invariant-loop-text : goal.invariant-loop-text
invariant-loop-text l = record {
  seen : (q : Bor Text) → tree.contains text_order l.seen q ≡ list_any (same_text q.now) (map (λ (t : Bor Text). t.now) (take l.text-index l.texts));
  least : option_map (λ (t : Bor Text). t.now) l.found ≡ least (repeats (map (λ (t : Bor Text). t.now) (take l.text-index l.texts)));
}
