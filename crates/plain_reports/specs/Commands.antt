-- GitHub's workflow command for an instance that is refused.
use Rattle.std.specs.Prelude.{ℕ, [], ◌++◌, Option, Some, None, codes, decimal}
use Rattle.definitions.specs.Values.{Text}
use Rattle.plain_reports.specs.Escapes.{message_text, property_text}

-- a number behind the name of its property
abbrev pub number_text : Text → Option ℕ → Text
number_text name None = []
number_text name (Some n) = name ++ decimal n

abbrev pub refusal_command_text : Text → Option ℕ → Option ℕ → Text → Text → Text
refusal_command_text path line column title message =
    codes "::error file=" ++ property_text path ++ number_text (codes ",line=") line ++ number_text (codes ",col=") column
    ++ codes ",title=" ++ property_text title ++ codes "::" ++ message_text message ++ codes "\n"
