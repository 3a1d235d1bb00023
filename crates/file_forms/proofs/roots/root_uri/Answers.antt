use Rattle.std.proofs.Common.{◌≡◌, None, Option, Some, option_map, subst, sym}
use Rattle.checks.specs.Judgements.{default_uri}
use Rattle.definitions.specs.Values.{Text}
use Rattle.file_forms.specs.Gathered.{root_uri}
use Rattle.file_forms.proofs.Going.{names}
use Rattle.file_forms.proofs.Rooted.{alone, asked, beside}
use Rattle.file_forms.proofs.roots.root_uri.Goals as goal

pub returns-in-Some : goal.returns-in-Some
returns-in-Some c =
    subst (λ o. Some c.in-Some.uri.now ≡ root_uri (names c.args.paths.now) (option_map (λ u. u.now) o)) (sym c.in-Some.is) (asked (names c.args.paths.now) c.in-Some.uri.now)

pub returns-then-is_empty : goal.returns-then-is_empty
returns-then-is_empty c =
    subst (λ o. Some default_uri ≡ root_uri (names c.args.paths.now) (option_map (λ u. u.now) o)) (sym c.in-None.is)
    (alone c.args.paths.now c.is_empty.result c.is_empty.ensures c.if-is_empty.true)

pub returns-else-is_empty : goal.returns-else-is_empty
returns-else-is_empty c =
    let none : Option Text = None in
    subst (λ o. none ≡ root_uri (names c.args.paths.now) (option_map (λ u. u.now) o)) (sym c.in-None.is)
    (beside c.args.paths.now c.is_empty.result c.is_empty.ensures c.if-is_empty.false)
