use Rattle.std.proofs.Common.{sym, ◌∙◌}
use Rattle.linker.proofs.StandingSchemas.{document_numbered, holder_numbered}
use Rattle.linker.proofs.linked.Linked.holder_at.Goals as goal

pub returns-then-is_some-clause-numbered : goal.returns-then-is_some-clause-numbered
returns-then-is_some-clause-numbered c = document_numbered c.args.self.now c.args.number c.in_ok-document.document.now (sym c.in_ok-document.ensures)

pub returns-then-is_some-clause-holder : goal.returns-then-is_some-clause-holder
returns-then-is_some-clause-holder c =
    holder_numbered c.args.self.now c.args.number c.in_ok-document.document.now c.args.uri.now (sym c.in_ok-document.ensures)
    (sym c.resource_uri.ensures.held ∙ sym c.if-is_some.ensures)
