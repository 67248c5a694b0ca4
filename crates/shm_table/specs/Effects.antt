-- whether the deciding step of a machine over tables was made, and what a command will answer from then on: by their controls alone
use Rattle.std.specs.Prelude.{ℕ, Bool, true, false, ◌&&◌, is_ok, Option, Some, None}
use Rattle.plans.specs.Deciding.{either, where_decided}
use Rattle.shm_count.specs.Step.ExchangeMade.{step_exchanged, step_exchanging}
use Rattle.shm_queue.specs.Machines.{send}
use Rattle.shm_script.specs.declared.log.Answer.{Answer}
use Rattle.shm_script.specs.declared.log.Answer.TheVariants as answer
use Rattle.shm_table.specs.declared.{answer.PutFault.PutFault, copy.CopyState.CopyState, del.DelState.DelState}
use Rattle.shm_table.specs.declared.enter.{Entered.{Entered, TheVariants.Linked}, EnterPoint.EnterPoint}
use Rattle.shm_table.specs.declared.enter.{EnterPoint.TheVariants.{Value, Next}, EnterState.EnterState}
use Rattle.shm_table.specs.declared.{put.PutState.PutState, put_root.PutRootState.PutRootState}
use Rattle.shm_table.specs.declared.{recv.RecvState.RecvState, replace.ReplaceState.ReplaceState}
use Rattle.shm_table.specs.declared.{send_key.SendKeyState.SendKeyState, unlink.UnlinkState.UnlinkState}
use Rattle.shm_table.specs.CopyKey.Control.{CopyCalls, CopyAnswer, CopyCall}
use Rattle.shm_table.specs.{Del.Control.{DelCalls, DelCall, DelCallAnswer}, Enter.Control.{EnterAnswer, EnterCall}}
use Rattle.shm_table.specs.{Get.Control.GetCalls, Put.Control.{PutCalls, PutAnswer, PutCall}}
use Rattle.shm_table.specs.PutRoot.Control.{EnterCalls, PutRootAnswer, PutRootCall, PutRootCalls, ReplaceCalls, decided_of}
use Rattle.shm_table.specs.RecvKey.Control.{RecvCalls, RecvAnswer, RecvCall}
use Rattle.shm_table.specs.Replace.Control.{ReplaceAnswer, ReplaceCall}
use Rattle.shm_table.specs.SendKey.Control.{SendKeyCalls, SendKeyAnswer, SendKeyCall}
use Rattle.shm_table.specs.Unlink.Control.{UnlinkAnswer, UnlinkCall, UnlinkCalls}

-- Of each plan: by its call in progress whether the deciding step was made, whether the word step that finds n is that step, and whether an answer of a call tells that it was made

-- ---- an entry has another value block: by the change, after which comes the tear-down

abbrev pub replace_at : ReplaceState → ReplaceCall → Bool
replace_at m = either (λ c. false) (either step_exchanged (λ c. true))

abbrev pub replace_by : ReplaceState → ReplaceCall → ℕ → Bool
replace_by m = either (λ c n. false) (either step_exchanging (λ c n. false))

abbrev pub replace_says : ReplaceState → ReplaceAnswer → Bool
replace_says m = either (λ n. false) (either is_ok (λ a. true))

abbrev pub replace_decided : ReplaceCalls → Bool
replace_decided m = replace_at m.plan m.call

-- ---- a new entry begins the chain of its bucket: by the step up at the bucket, or by the change there

-- whether a step up is the one at the bucket, and not one at the entry's own words
abbrev pub links : EnterPoint → Bool
links Value = false
links Next = false
links y = true

abbrev pub enter_at : EnterState → EnterCall → Bool
enter_at m = either (λ c. false) (either (λ c. links m.point && step_exchanged c) step_exchanged)

abbrev pub enter_by : EnterState → EnterCall → ℕ → Bool
enter_by m = either (λ c n. false) (either (λ c n. links m.point && step_exchanging c n) step_exchanging)

abbrev pub enter_says : EnterState → EnterAnswer → Bool
enter_says m = either (λ a. false) (either (λ a. links m.point && is_ok a) is_ok)

abbrev pub is_linked : Entered → Bool
is_linked (Linked k) = true
is_linked e = false

abbrev pub enter_decided : EnterCalls → Bool
enter_decided m = enter_at m.plan m.call

-- ---- an entry is taken out: by the step down or the change at the word that leads to it, after which comes the tear-down

abbrev pub unlink_at : UnlinkState → UnlinkCall → Bool
unlink_at m = either (λ c. false) (either step_exchanged (either step_exchanged (λ c. true)))

abbrev pub unlink_by : UnlinkState → UnlinkCall → ℕ → Bool
unlink_by m = either (λ c n. false) (either step_exchanging (either step_exchanging (λ c n. false)))

abbrev pub unlink_says : UnlinkState → UnlinkAnswer → Bool
unlink_says m = either (λ n. false) (either is_ok (either is_ok (λ a. true)))

abbrev pub unlink_decided : UnlinkCalls → Bool
unlink_decided m = unlink_at m.plan m.call

-- ---- a value block comes into the own table: by its entry's other value, or by its new entry

-- where it was refused the step wasn't made
abbrev pub settled : Bool → Option PutFault → Bool
settled z None = z
settled z (Some f) = false

abbrev pub put_root_at : PutRootState → PutRootCall → Bool
put_root_at m = either (λ c. false) (either (either replace_decided enter_decided) (λ c. settled m.decided m.refused))

abbrev pub put_root_by : PutRootState → PutRootCall → ℕ → Bool
put_root_by m = either (λ c n. false) (either (either (λ c. replace_by c.plan c.call) (λ c. enter_by c.plan c.call)) (λ c n. false))

abbrev pub put_root_says : PutRootState → PutRootAnswer → Bool
put_root_says m = either (λ a. false) (either (either decided_of is_linked) (λ a. settled m.decided m.refused))

abbrev pub put_root_decided : PutRootCalls → Bool
put_root_decided m = put_root_at m.plan m.call

-- the directory that a put, a copy or a receive has found, while a value block comes into the own table
abbrev pub put_home : PutCall → ℕ
put_home = either (λ c. 0) (either (λ c. c.plan.home) (λ c. 0))

abbrev pub copy_home : CopyCall → ℕ
copy_home = either (λ c. 0) (either (λ c. c.plan.home) (λ c. 0))

abbrev pub recv_home : RecvCall → ℕ
recv_home = either (λ c. 0) (either (λ c. c.plan.home) (λ c. 0))

-- ---- commands: what they will answer, where the deciding step was made

abbrev pub put_at : PutState → PutCall → Bool
put_at m = either (λ c. false) (either put_root_decided (λ c. settled m.decided m.refused))

abbrev pub put_by : PutState → PutCall → ℕ → Bool
put_by m = either (λ c n. false) (either (λ c. put_root_by c.plan c.call) (λ c n. false))

abbrev pub put_says : PutState → PutAnswer → Bool
put_says m = either (λ a. false) (either decided_of (λ a. settled m.decided m.refused))

abbrev pub put_effect : PutCalls → Option Answer
put_effect m = where_decided (put_at m.plan m.call) (answer.Stored m.plan.block)

abbrev pub copy_at : CopyState → CopyCall → Bool
copy_at m = either (λ c. false) (either put_root_decided (λ c. settled m.decided m.refused))

abbrev pub copy_by : CopyState → CopyCall → ℕ → Bool
copy_by m = either (λ c n. false) (either (λ c. put_root_by c.plan c.call) (λ c n. false))

abbrev pub copy_says : CopyState → CopyAnswer → Bool
copy_says m = either (λ a. false) (either decided_of (λ a. settled m.decided m.refused))

abbrev pub copy_effect : CopyCalls → Option Answer
copy_effect m = where_decided (copy_at m.plan m.call) (answer.Value m.plan.number m.plan.block)

-- the entry was taken out
abbrev pub is_removed : Answer → Bool
is_removed answer.Ok = true
is_removed a = false

abbrev pub del_at : DelState → DelCall → Bool
del_at m = either (λ c. false) (either unlink_decided (λ c. is_removed m.answer))

abbrev pub del_by : DelState → DelCall → ℕ → Bool
del_by m = either (λ c n. false) (either (λ c. unlink_by c.plan c.call) (λ c n. false))

abbrev pub del_says : DelState → DelCallAnswer → Bool
del_says m = either (λ a. false) (either is_ok (λ a. is_removed m.answer))

abbrev pub del_effect : DelCalls → Option Answer
del_effect m = where_decided (del_at m.plan m.call) answer.Ok

-- a machine whose deciding step is its last one, by which it answers so
abbrev pub ends_with : {A : Type 0} → (A → Bool) → Option A → Bool
ends_with says None = false
ends_with says (Some a) = says a

-- ---- what a key has is sent: by the last step of the send, the store of the tail, after which comes the latch

abbrev pub is_sent : Answer → Bool
is_sent answer.Ok = true
is_sent a = false

abbrev pub send_key_at : SendKeyState → SendKeyCall → Bool
send_key_at m = either (λ c. false) (either (λ c. false) (either (λ c. false) (λ c. is_sent m.outcome)))

abbrev pub send_key_by : SendKeyState → SendKeyCall → ℕ → Bool
send_key_by m = either (λ c n. false) (either (λ c n. false) (either (λ c n. ends_with is_ok (send.turns c n)) (λ c n. false)))

abbrev pub send_key_says : SendKeyState → SendKeyAnswer → Bool
send_key_says m = either (λ a. false) (either (λ n. false) (either is_ok (λ a. is_sent m.outcome)))

abbrev pub send_key_effect : SendKeyCalls → Option Answer
send_key_effect m = where_decided (send_key_at m.plan m.call) answer.Ok

-- ---- the head of a queue is received: by the step by which the key comes to have it, before the item is taken

abbrev pub recv_at : RecvState → RecvCall → Bool
recv_at m = either (either (λ c. false) (λ c. settled m.decided m.refused)) (either put_root_decided (λ c. settled m.decided m.refused))

abbrev pub recv_by : RecvState → RecvCall → ℕ → Bool
recv_by m = either (either (λ c n. false) (λ c n. false)) (either (λ c. put_root_by c.plan c.call) (λ c n. false))

abbrev pub recv_says : RecvState → RecvAnswer → Bool
recv_says m = either (either (λ a. false) (λ a. settled m.decided m.refused)) (either decided_of (λ a. settled m.decided m.refused))

abbrev pub recv_effect : RecvCalls → Option Answer
recv_effect m = where_decided (recv_at m.plan m.call) (answer.Value m.plan.number m.plan.block)

-- ---- reading what a key has decides nothing

abbrev pub get_effect : GetCalls → Option Answer
get_effect m = None
