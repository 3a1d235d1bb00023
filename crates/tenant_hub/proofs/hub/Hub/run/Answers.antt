use Rattle.std.proofs.lemmas.Result.{IfOk-weaker}
use Rattle.definitions.specs.Patterns.{regular_search}
use Rattle.tenant_hub.specs.Isolation.{HaveOwnCourses, HaveOwnReplies, RefuseUnknownKeys}
use Rattle.tenant_hub.proofs.hub.Hub.run.Goals as goal

pub returns-clause-own_courses : goal.returns-clause-own_courses
unfolding HaveOwnCourses
returns-clause-own_courses c =
    IfOk-weaker c.replies_of.result _ _ (λ rs course key g is. c.tenants_have_their_courses.ensures regular_search _ _ _ _ key g course is) c.replies_of.ensures.course

pub returns-clause-own_replies : goal.returns-clause-own_replies
unfolding HaveOwnReplies
returns-clause-own_replies c =
    IfOk-weaker c.replies_of.result _ _ (λ rs course key g is none. c.tenants_have_their_replies.ensures regular_search _ _ _ _ key g course is none) c.replies_of.ensures.course

pub returns-clause-unknown : goal.returns-clause-unknown
unfolding RefuseUnknownKeys
returns-clause-unknown c =
    IfOk-weaker c.replies_of.result _ _ (λ rs course key is. (c.unknown_keys_stay_unknown.ensures regular_search _ _ _ _ key course is).0) c.replies_of.ensures.course
