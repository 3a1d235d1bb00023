use Rattle.std.proofs.Common.{length, option_map, ap, sym, true≢false, ◌∙◌}
use Rattle.definitions.specs.Documents.{bytes_of}
use Rattle.definitions.specs.Lists.{option_list}
use Rattle.definitions.specs.Texts.{text}
use Rattle.stored_documents.specs.StoredDocuments.{stored_view}
use Rattle.stored_documents.proofs.PutTogether.{alone_bytes}
use Rattle.stored_documents.proofs.together.place_in_room.Goals as goal

pub unreachable-requires : goal.unreachable-requires
unreachable-requires c = true≢false (sym (c.in-Err.ensures.succeeds c.requires.room))

pub returns-in-Ok-Some-clause-bytes : goal.returns-in-Ok-Some-clause-bytes
returns-in-Ok-Some-clause-bytes c =
    c.length.ensures ∙ ap (λ x. length (text (stored_view x).value)) c.deref.ensures ∙ sym (alone_bytes (stored_view c.in-Ok-Some.replaced.value))
    ∙ ap (λ o. bytes_of (option_list o)) (sym (ap (option_map (λ s. stored_view s.value)) c.in-Ok-Some.field-0-is) ∙ c.in-Ok-Some.ensures.replaced)

pub returns-in-Ok-None-clause-bytes : goal.returns-in-Ok-None-clause-bytes
returns-in-Ok-None-clause-bytes c =
    ap (λ o. bytes_of (option_list o)) (sym (ap (option_map (λ s. stored_view s.value)) c.in-Ok-None.field-0-is) ∙ c.in-Ok-None.ensures.replaced)
