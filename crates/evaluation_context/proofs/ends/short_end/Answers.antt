use Rattle.std.proofs.Common.{◌∷◌, [], ap₂, ◌∙◌}
use Rattle.std.specs.Int.{w32, from_le_bytes}
use Rattle.evaluation_context.specs.Ends.{byte_before_end, text_end}
use Rattle.evaluation_context.proofs.ends.short_end.Goals as goal

pub returns : goal.returns
unfolding text_end
returns c =
    let t = c.args.bytes.now in
    c.from_le_bytes.ensures
    ∙ ap₂ (λ x y. from_le_bytes w32 (x ∷ y ∷ c.byte_before_end-3.result ∷ c.byte_before_end-4.result ∷ [])) c.byte_before_end.ensures c.byte_before_end-2.ensures
    ∙ ap₂ (λ x y. from_le_bytes w32 (byte_before_end 4 t ∷ byte_before_end 3 t ∷ x ∷ y ∷ [])) c.byte_before_end-3.ensures c.byte_before_end-4.ensures
