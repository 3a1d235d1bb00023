-- Requests with their tenants' keys as the definitions have them.
use Rattle.std.specs.Prelude.{String, string_bytes}
use Rattle.std.specs.Global.{Global}
use Rattle.definitions.specs.Services.{Call}
use Rattle.requests.specs.Views.{request_view}
use Rattle.requests.specs.declared.Request.{Request}

abbrev pub call_view : String Global × Request → Call
call_view c = (string_bytes c.0, request_view c.1)
