-- What hubs stand for that answer the requests of connections.
use Rattle.std.specs.Prelude.{List}
use Rattle.definitions.specs.Services.{KeyedRegistry}
use Rattle.http_front.specs.declared.hub_handler.HubHandler.{HubHandler}
use Rattle.http_front.specs.declared.noted_hub.NotedHub.{NotedHub}
use Rattle.tenant_hub.specs.Hubs.{hub_view}

abbrev pub handler_view : HubHandler → List KeyedRegistry
handler_view h = hub_view h.hub

-- what answers, of a hub that has each request noted
abbrev pub noted_handler : {H J : Type 0} → NotedHub H J → H
noted_handler h = h.handler
