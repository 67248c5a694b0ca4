use Rattle.kind_parts.proofs.{PageSteps.{claimed, given_up, class_stored, latched}, DyingSteps.{frees, links}}
use Rattle.kind_parts.proofs.{Allocated.allocates, Prepared.{tag_prepares, body_prepares}}
use Rattle.kind_parts.proofs.preparing.preparing_steps.Goals as goal

pub returns-clause-claim : goal.returns-clause-claim
returns-clause-claim c = claimed

pub returns-clause-give : goal.returns-clause-give
returns-clause-give c = given_up

pub returns-clause-class : goal.returns-clause-class
returns-clause-class c = class_stored

pub returns-clause-latch : goal.returns-clause-latch
returns-clause-latch c = latched

pub returns-clause-tag : goal.returns-clause-tag
returns-clause-tag c = tag_prepares

pub returns-clause-body : goal.returns-clause-body
returns-clause-body c = body_prepares

pub returns-clause-alloc : goal.returns-clause-alloc
returns-clause-alloc c = allocates

pub returns-clause-free : goal.returns-clause-free
returns-clause-free c = frees

pub returns-clause-link : goal.returns-clause-link
returns-clause-link c = links
