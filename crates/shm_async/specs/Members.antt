-- the identities of a trace, each of which is polled until all is done of it
use Rattle.std.specs.Prelude.{◌≡◌, ℕ, ◌<◌, Option, Some, None, List, length, slice_index_or}
use Rattle.shm_agents.specs.Turns.{script_in}
use Rattle.shm_pool.specs.Tokens.{Its}
use Rattle.shm_script.specs.Values.{Traced}
use Rattle.shm_team.specs.Dones.{IsDone}
use Rattle.shm_async.specs.{declared.members.Member.{Member, TheVariants.{Works, Finished}}, Polled.{AtPost, Course}}

-- the agents of the script of the identity c, which are at their post in the pool p
pub record MemberAtWork (t : Traced) (p : Its) (c : ℕ) (f : Course) : Type 0 where
  pub script : script_in t.scripts c ≡ Some f.script
  pub site : AtPost
  pub is : f.site ≡ Some site
  pub of : site.post.of ≡ p

abbrev pub IsMember : {A : Type 0} → Traced → Its → ℕ → Member A → Type 0
IsMember t p c (Works f) = MemberAtWork t p c f
IsMember t p c (Finished d) = IsDone t p c d

-- none of them is out
abbrev pub MemberHere : {A : Type 0} → Traced → Its → ℕ → Option (Member A) → Type 0
MemberHere t p c None = ⊥
MemberHere t p c (Some m) = IsMember t p c m

-- all identities of the trace, by number
pub record AreMembers {A : Type 0} (t : Traced) (p : Its) (ms : List (Option (Member A))) : Type 0 where
  pub many : length ms ≡ t.clients
  pub here : (c : ℕ) → c < t.clients → MemberHere t p c (slice_index_or ms c None)
