use Rattle.std.proofs.Common.{◌≡◌, Some, map, take}
use Rattle.definitions.specs.Batches.{entry_in}
use Rattle.json_doc.specs.Docs.{value}
use Rattle.tenants_file.specs.Entries.{entry_view}
use Rattle.tenants_file.proofs.batches.each_entry.Given as goal

abbrev pub invariant-loop-item : goal.invariant-loop-item
invariant-loop-item l = map (λ d. entry_in (value d)) (take l.item-index l.items) ≡ map (λ e. Some (entry_view e)) l.entries.items
