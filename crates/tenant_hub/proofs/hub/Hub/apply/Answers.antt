use Rattle.requests.specs.Views.{request_view, reply_view}
use Rattle.tenant_hub.specs.Hubs.{hub_view}
use Rattle.tenant_hub.proofs.Positions.{refused_stay}
use Rattle.tenant_hub.proofs.KeptRegistries.{all_kept}
use Rattle.tenant_hub.proofs.ServedBundles.{answers_alone}
use Rattle.tenant_hub.proofs.hub.Hub.apply.Goals as goal

pub returns-clause-refused : goal.returns-clause-refused
returns-clause-refused c = refused_stay _ _ c.args.key.now (request_view c.args.request.now) _ c.answer.ensures

pub returns-clause-kept : goal.returns-clause-kept
unfolding hub_view
returns-clause-kept c = all_kept c.answer.new.self.registries.items

pub returns-clause-alone : goal.returns-clause-alone
unfolding hub_view
returns-clause-alone c = answers_alone c.args.self.now.registries.items _ c.args.key.now (request_view c.args.request.now) (reply_view c.answer.result) c.answer.ensures
