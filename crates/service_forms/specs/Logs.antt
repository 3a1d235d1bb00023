-- What a log tells of connections and requests.
use Rattle.std.specs.Prelude.{◌+◌, ℕ, ◌++◌, ◌∷◌, [], Option, Some, None, codes, decimal}
use Rattle.definitions.specs.Bytes.{line_feed, space}
use Rattle.definitions.specs.Values.{Text}
use Rattle.request_heads.specs.Methods.{method_text}
use Rattle.service_forms.specs.declared.log.Counts.{Counts}
use Rattle.service_forms.specs.declared.log.Line.{Line}

-- how many there were
abbrev pub counts_text : Counts → Text
counts_text counts =
    codes "connections: " ++ (decimal counts.connections ++ (codes ", requests: " ++ (decimal counts.requests
    ++ (codes ", refusals: " ++ (decimal counts.refusals ++ line_feed ∷ [])))))

-- the tenant at this place of the tenants' file, counted from 1
abbrev pub tenant_text : Option ℕ → Text
tenant_text (Some place) = decimal (place + 1)
tenant_text None = codes "-"

-- a request, behind the time
abbrev pub line_text : Line → Text
line_text line =
    decimal line.connection ++ (space ∷ (tenant_text line.place ++ (space ∷ (method_text line.method ++ (space ∷ (line.path.now
    ++ (space ∷ (line.status.now ++ (space ∷ (decimal line.bytes ++ (space ∷ (decimal line.microseconds ++ line_feed ∷ []))))))))))))
