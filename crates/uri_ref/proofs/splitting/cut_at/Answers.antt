use Rattle.std.proofs.Common.{ℕ, List, Option, Some, None, ap, sym}
use Rattle.std.proofs.lemmas.Str.Pattern.{split_parts}
use Rattle.uri_ref.proofs.Cuts.{cut_some, cut_none}
use Rattle.uri_ref.proofs.splitting.cut_at.Goals as goal

pub returns-in-Some-clause-before : goal.returns-in-Some-clause-before
returns-in-Some-clause-before c =
    ap (λ (r : List ℕ × Option (List ℕ)). r.0) (sym (cut_some c.args.sign c.args.text.now c.in-Some.before.now c.in-Some.after.now (split_parts c.args.sign c.args.text.now (Some (c.in-Some.before, c.in-Some.after)) c.in-Some.ensures.cases c.requires)))

pub returns-in-Some-clause-after : goal.returns-in-Some-clause-after
returns-in-Some-clause-after c =
    ap (λ (r : List ℕ × Option (List ℕ)). r.1) (sym (cut_some c.args.sign c.args.text.now c.in-Some.before.now c.in-Some.after.now (split_parts c.args.sign c.args.text.now (Some (c.in-Some.before, c.in-Some.after)) c.in-Some.ensures.cases c.requires)))

pub returns-in-None-clause-before : goal.returns-in-None-clause-before
returns-in-None-clause-before c =
    ap (λ (r : List ℕ × Option (List ℕ)). r.0) (sym (cut_none c.args.sign c.args.text.now (split_parts c.args.sign c.args.text.now None c.in-None.ensures.cases c.requires)))

pub returns-in-None-clause-after : goal.returns-in-None-clause-after
returns-in-None-clause-after c =
    ap (λ (r : List ℕ × Option (List ℕ)). r.1) (sym (cut_none c.args.sign c.args.text.now (split_parts c.args.sign c.args.text.now None c.in-None.ensures.cases c.requires)))
