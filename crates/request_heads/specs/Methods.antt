-- The names of the methods.
use Rattle.std.specs.Prelude.{codes}
use Rattle.definitions.specs.Values.{Text}
use Rattle.request_heads.specs.declared.methods.Method.{Method}
use Rattle.request_heads.specs.declared.methods.Method.TheVariants.{Put, Delete, Post, Get}

abbrev pub method_text : Method → Text
method_text Put = codes "PUT"
method_text Delete = codes "DELETE"
method_text Post = codes "POST"
method_text Get = codes "GET"
