use Rattle.std.proofs.Common.{inl, inr}
use Rattle.shm_table.proofs.RefusedCommands.{kept}
use Rattle.shm_table.proofs.refusals.command_refusals.Goals as goal

pub returns-clause-map : goal.returns-clause-map
returns-clause-map c me l r0 r tr es a is h = (kept me r0 r tr es l a is h).map

pub returns-clause-latch : goal.returns-clause-latch
returns-clause-latch c me l r0 r tr es a is h = (kept me r0 r tr es l a is h).latch

pub returns-clause-queues : goal.returns-clause-queues
returns-clause-queues c me l r0 r tr es a is h = let k = kept me r0 r tr es l a is h in (k.sent, k.received, k.unsent, k.untaken)

pub returns-clause-words : goal.returns-clause-words
returns-clause-words c me l r0 r tr es a is h = (kept me r0 r tr es l a is h).own

pub returns-clause-roots : goal.returns-clause-roots
returns-clause-roots c me l r0 r tr es a is h j some = elim ((kept me r0 r tr es l a is h).roots j) [ inl e ↦ e | inr z ↦ absurd (some z) ]

pub returns-clause-cleared : goal.returns-clause-cleared
returns-clause-cleared c me l r0 r tr es a is h spent = let k = (kept me r0 r tr es l a is h).cleared spent in (k.roots, k.dying)

pub returns-clause-dying : goal.returns-clause-dying
returns-clause-dying c me l r0 r tr es a is h = (kept me r0 r tr es l a is h).still

pub returns-clause-home : goal.returns-clause-home
returns-clause-home c me l r0 r tr es a is h = (kept me r0 r tr es l a is h).home

pub returns-clause-events : goal.returns-clause-events
returns-clause-events c me l r0 r tr es a is h = (kept me r0 r tr es l a is h).events
