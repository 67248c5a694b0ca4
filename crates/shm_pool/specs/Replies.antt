-- what a call answers
use Rattle.std.specs.Prelude.{Bool, true, false}
use Rattle.shm_pool.specs.declared.reply.Reply.{Reply, TheVariants.{Done, Died}}

-- the client died
abbrev pub IsLost : {A : Type 0} → Reply A → Type 0
IsLost (Done a) = ⊥
IsLost Died = Unit {0}

-- what is said of the answer, where there is one
abbrev pub IfReply : {A : Type 0} → Reply A → (A → Type 0) → Type 0
IfReply (Done a) P = P a
IfReply Died P = Unit {0}

-- whether there is an answer
abbrev pub is_reply : {A : Type 0} → Reply A → Bool
is_reply (Done a) = true
is_reply Died = false
