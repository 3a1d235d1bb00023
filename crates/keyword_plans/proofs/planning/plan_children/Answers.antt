use Rattle.keyword_plans.proofs.planning.plan_children.Goals as goal

pub returns-in-UnevaluatedProperties : goal.returns-in-UnevaluatedProperties
returns-in-UnevaluatedProperties c a run shows beside = rw c.in-UnevaluatedProperties.is (c.plan_unevaluated_properties.ensures a _ shows.instance)
