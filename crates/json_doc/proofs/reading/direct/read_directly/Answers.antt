use Rattle.std.proofs.Common.{◌≡◌, [], rules}
use Rattle.json_doc.specs.Docs.{value}
use Rattle.json_doc.proofs.TokenReads.{text_of_tokens}
use Rattle.json_doc.proofs.reading.direct.read_directly.Goals as goal

pub returns : goal.returns
returns c =
    let none : c.doc_from.new.reader ≡ [] = search rules in
    text_of_tokens c.args.text.now (value c.in_ok-doc.doc) (rw (c.in_ok-reader.ensures.ok, none) at c.in_ok-doc.ensures.ok)
