use Rattle.std.proofs.Common.{◌∙◌, get_or, sym, ap}
use Rattle.std.proofs.lemmas.List.{get_or_default}
use Rattle.json_doc.specs.NameMaps.{order_to}
use Rattle.json_doc.specs.SmallTexts.{short_text, text_view}
use Rattle.json_doc.proofs.Positions.{above_before}
use Rattle.json_doc.proofs.SameTexts.{same_is_equal}
use Rattle.json_doc.proofs.name_map.position_among_few.Goals as goal

pub returns-then-is_short : goal.returns-then-is_short
returns-then-is_short g c =
    let es = c.args.entries.now in
    let i = c.loop-position.position in
    let e = c.index-entries-position.result in
    let name = short_text c.args.name.now in
    let here = same_is_equal name (text_view (get_or es i e).0) (sym (c.is_short.ensures c.if-is_short.true) ∙ ap (λ x. text_view x.0) c.index-entries-position.is) in
    record {
      within = c.loop-position-test.true;
      above = above_before name es i e c.requires c.loop-position-test.true here;
      same = λ d. ap (order_to name) (get_or_default es i d e c.loop-position-test.true) ∙ here;
    }
