-- What the registries answer to the requests of connections.
use Rattle.std.specs.Prelude.{List}
use Rattle.definitions.specs.Patterns.{regular_search}
use Rattle.definitions.specs.Services.{KeyedRegistry, IsCallAnswer}
use Rattle.http_definitions.specs.Connections.{Answers}

-- a request is answered by the registry of its key
abbrev pub call_answers : Answers (List KeyedRegistry)
call_answers ks key q r ls = IsCallAnswer regular_search ks (key, q) r ls
