use Rattle.std.proofs.Common.{length, map, sym, ap, ◌∙◌}
use Rattle.std.proofs.lemmas.List.{length-map}
use Rattle.std.proofs.lemmas.Result.{IfOk-weaker}
use Rattle.definitions.specs.Batches.{entry_in, some_entries}
use Rattle.json_doc.specs.Docs.{value}
use Rattle.tenants_file.specs.Entries.{entry_view}
use Rattle.tenants_file.proofs.Each.{each_length, counted, miscounted}
use Rattle.tenants_file.proofs.batches.counted_entries.Goals as goal

pub returns-then-not-is_entry_count-clause-err : goal.returns-then-not-is_entry_count-clause-err
returns-then-not-is_entry_count-clause-err c = λ other.
    miscounted entry_in (map value c.args.items.now) (length c.args.items.now) (length-map c.args.items.now value) (sym c.is_entry_count.ensures ∙ c.if-not-is_entry_count.true)

pub returns-clause-ok : goal.returns-clause-ok
returns-clause-ok c =
    let items = c.args.items.now in
    IfOk-weaker c.each_entry.result _ _
    (λ es h. ap some_entries h ∙ counted (map entry_view es.items) (length items) (each_length entry_in (map value items) (map entry_view es.items) h ∙ length-map items value) (sym c.is_entry_count.ensures ∙ c.if-not-is_entry_count.false))
    c.each_entry.ensures.ok
