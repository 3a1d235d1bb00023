-- What a scan tells of a schema.
use Rattle.std.specs.Prelude.{[], ◌∷◌, List}
use Rattle.definitions.specs.Schemas.{Document}
use Rattle.definitions.specs.Values.{Text}
use Rattle.file_checks.specs.FileTexts.{dangling_references}
use Rattle.file_checks.specs.declared.tally.Verdict.{Verdict}
use Rattle.file_checks.specs.declared.tally.Verdict.TheVariants.{Valid, Invalid}

-- by the references that lead nowhere
abbrev pub verdict_where : List Text → Verdict
verdict_where [] = Valid
verdict_where (r ∷ rs) = Invalid

-- a schema is in order where all its references name schemas of these documents
abbrev pub verdict_among : List Document → Document → Verdict
verdict_among ds d = verdict_where (dangling_references ds d)
