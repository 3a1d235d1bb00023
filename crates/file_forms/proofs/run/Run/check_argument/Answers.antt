use Rattle.std.proofs.Common.{◌∙◌, refl, sym}
use Rattle.file_forms.specs.Subjects.{OfNamed, OfPath}
use Rattle.file_forms.proofs.Going.{along, so}
use Rattle.file_forms.proofs.run.Run.check_argument.Goals as goal

pub returns-then-eq : goal.returns-then-eq
returns-then-eq g c =
    let holds = g.F.Folders.holds c.args.files.now in
    let lists = g.F.Folders.lists c.args.files.now in
    along (λ b. OfNamed holds lists c.args.lines c.args.path.now (g.I.Read.remaining c.args.input.now) (g.I.Read.remaining c.check_input.new.input) b) _ _ _ _ (sym c.if-eq.true ∙ c.eq.ensures) c.check_input.ensures

pub returns-else-eq : goal.returns-else-eq
returns-else-eq g c =
    let holds = g.F.Folders.holds c.args.files.now in
    let lists = g.F.Folders.lists c.args.files.now in
    let left = g.I.Read.remaining c.args.input.now in
    along (λ b. OfNamed holds lists c.args.lines c.args.path.now left left b) _ _ _ _ (sym c.if-eq.false ∙ c.eq.ensures)
    (so (OfPath holds lists c.args.lines c.args.path.now) _ _ _ (λ xs are. (refl, are)) c.check_path.ensures)
