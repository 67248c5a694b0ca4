-- identities that begin, and that come to their end, one by one
use Rattle.std.proofs.{Common.{◌≡◌, ℕ, suc, ◌*◌, ◌<◌, ◌≤◌, List, [], ◌∷◌, length, ◌∙◌, arith}, lemmas.List.length-set}
use Rattle.std.specs.Prelude.{IfOk, Option, None, Result, Ok, Err, slice_index_or, slice_set}
use Rattle.shm_pool.specs.Tokens.{Its}
use Rattle.shm_script.specs.Values.{Traced}
use Rattle.shm_team.specs.{declared.{done.Done.Done, jobs.Job.Job}, Dones.{AreDones, IsDone}, Jobs.{AreJobs, IsJob}}
use Rattle.shm_async.specs.{declared.members.Member.Member, Each.EachFrom, LimitedMembers.{HasRoom, MayStart}}
use Rattle.shm_async.specs.Members.{AreMembers, MemberHere}
use Rattle.shm_async.proofs.Listed.{at_first, each_set, first_at}

pub limited_starts : {A : Type 0} (t : Traced) (p : Its) (q limit c : ℕ) (js : List (Job A)) → 1 ≤ q → 1 ≤ limit → HasRoom p (q * limit) → AreJobs t p c js → EachFrom (λ (k : ℕ) (j : Job A). MayStart t p q limit k j) c js
limited_starts t p q limit c [] turns polls room h = tt
limited_starts t p q limit c (j ∷ js) turns polls room h = (record { turns = turns; polls = polls; room = room; who = h.0; job = h.1 }, limited_starts t p q limit (suc c) js turns polls room h.2)

pub starts : {A : Type 0} (t : Traced) (p : Its) (q c : ℕ) (js : List (Job A)) → 1 ≤ q → AreJobs t p c js → EachFrom (λ (k : ℕ) (j : Job A). (1 ≤ q) × (j.token.account.who ≡ k) × IsJob t p k j) c js
starts t p q c [] turns h = tt
starts t p q c (j ∷ js) turns h = ((turns, h.0, h.1), starts t p q (suc c) js turns h.2)

pub members_here : {A : Type 0} (t : Traced) (p : Its) (ms : List (Option (Member A))) → length ms ≡ t.clients → EachFrom (λ (k : ℕ) (m : Option (Member A)). MemberHere t p k m) 0 ms → AreMembers t p ms
members_here {A} t p ms many h = record { many = many; here = λ c l. first_at (λ (k : ℕ) (m : Option (Member A)). MemberHere t p k m) c ms None h (omega (arith, many)) }

pub here_each : {A : Type 0} (t : Traced) (p : Its) (ms : List (Option (Member A))) → AreMembers t p ms → EachFrom (λ (k : ℕ) (m : Option (Member A)). MemberHere t p k m) 0 ms
here_each {A} t p ms h = at_first (λ (k : ℕ) (m : Option (Member A)). MemberHere t p k m) ms None (λ k l. h.here k (let many = h.many in omega arith))

-- one of them is polled
pub members_set : {A : Type 0} (t : Traced) (p : Its) (ms : List (Option (Member A))) (i : ℕ) (x m : Option (Member A)) → AreMembers t p ms → i < length ms → x ≡ slice_index_or ms i x → ((k : ℕ) → MemberHere t p k x → MemberHere t p k m) → AreMembers t p (slice_set ms i m)
members_set {A} t p ms i x m h l is go = members_here t p (slice_set ms i m) (length-set ms i m ∙ h.many) (each_set (λ (k : ℕ) (z : Option (Member A)). MemberHere t p k z) 0 ms i x m (here_each t p ms h) l is go)

pub dones_each : (t : Traced) (p : Its) (c : ℕ) (ds : List Done) → EachFrom (λ (k : ℕ) (d : Done). IsDone t p k d) c ds → AreDones t p c ds
dones_each t p c [] h = tt
dones_each t p c (d ∷ ds) h = (h.0, dones_each t p (suc c) ds h.1)

-- what is said of a value that is there
pub both_ok : {A E : Type 0} (r : Result A E) (P Q R : A → Type 0) → ((x : A) → P x → Q x → R x) → IfOk r P → IfOk r Q → IfOk r R
both_ok (Ok x) P Q R f a b = f x a b
both_ok (Err e) P Q R f a b = b
