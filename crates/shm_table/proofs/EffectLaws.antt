-- each state of a command after its deciding step shows what it will answer, and no state before that step shows anything
use Rattle.std.proofs.Common.{◌≡◌, ℕ, ◌%◌, Bool, true, false, refl, sym, ap, ◌∙◌}
use Rattle.std.specs.Prelude.{◌&&◌, ◌==◌, if◌then◌else◌, is_ok, Option, Some, None, Result, Ok, Err}
use Rattle.shm_words.specs.Layout.{address_limit}
use Rattle.plans.specs.{declared.or.Or.TheVariants.{First, Second}, CallsControl.calls_control}
use Rattle.plans.specs.Deciding.{Decides, Foretells, calls_decides, calls_foretell, either}
use Rattle.plans.specs.Proved.Deciding.{decides_where, keeps_decided, mapped_foretells, or_decides, or_foretells}
use Rattle.plans.specs.{Either.or_control, Words.word_control}
use Rattle.shm_graph.specs.Laws.{Control}
use Rattle.shm_count.specs.declared.answer.{EraSpent.EraSpent as AnEraSpent, UpFault.UpFault}
use Rattle.shm_count.specs.{declared.answer.UpFault.TheVariants.{CountFull, EraSpent}, Step.Control.step_control}
use Rattle.shm_count.specs.Step.{ExchangeMade.{step_exchanged, step_exchanging}, Machines.{down_control, up_control}}
use Rattle.shm_count.specs.{Proved.Step.Decides.{down_decides, step_decides, up_decides}, Tear.Control.tear_control}
use Rattle.shm_alloc.specs.Alloc.Control.{alloc_control}
use Rattle.shm_queue.specs.{declared.answer.SendFault.SendFault, Machines.send}
use Rattle.shm_queue.specs.declared.answer.SendFault.TheVariants as send_fault
use Rattle.shm_ref.specs.DropRoots.Control.{drop_root}
use Rattle.shm_script.specs.declared.log.Answer.{Answer}
use Rattle.shm_script.specs.declared.log.Answer.TheVariants as answer
use Rattle.shm_table.specs.declared.{answer.PutFault.PutFault, copy.CopyState.CopyState, del.DelState.DelState}
use Rattle.shm_table.specs.declared.enter.Entered.{Entered, TheVariants.{Linked, Unlinked, Unmade}}
use Rattle.shm_table.specs.declared.enter.{EnterPoint.EnterPoint, EnterState.EnterState}
use Rattle.shm_table.specs.declared.{find.Found.TheVariants.{Absent, At}, fetch.Fetched.TheVariants.Rooted}
use Rattle.shm_table.specs.declared.{put.PutState.PutState, put_root.PutRootState.PutRootState}
use Rattle.shm_table.specs.declared.{recv.RecvState.RecvState, replace.ReplaceState.ReplaceState}
use Rattle.shm_table.specs.declared.{send_key.SendKeyState.SendKeyState, unlink.UnlinkPoint.UnlinkPoint}
use Rattle.shm_table.specs.{declared.unlink.UnlinkState.UnlinkState, Answers.{fault_answer, made_fault, raised_fault}}
use Rattle.shm_table.specs.Machines.{Change.del, Copy.copy_control, Put.put, Get.get, Recv.recv_control, Send.send_key}
use Rattle.shm_table.specs.Command.{command_by, command_control, command_effect, command_parts, given}
use Rattle.shm_table.specs.CopyKey.{Control.{CopyAnswer, CopyCalls, copy_parts, fetch_control, copy_steered}, copy_plan}
use Rattle.shm_table.specs.Del.{Control.{DelCallAnswer, del_parts, del_steered}, del_plan}
use Rattle.shm_table.specs.Effects.{copy_at, copy_by, copy_effect, copy_says, del_at, del_by, del_effect, del_says, enter_at, enter_by, ends_with, enter_decided, enter_says, get_effect, is_linked, is_removed, is_sent, links, put_at, put_by, put_effect, put_root_at, put_root_by, put_root_decided, put_root_says, put_says, recv_at, recv_by, recv_effect, recv_says, replace_at, replace_by, replace_decided, replace_says, send_key_at, send_key_by, send_key_effect, send_key_says, settled, unlink_at, unlink_by, unlink_decided, unlink_says}
use Rattle.shm_table.specs.Enter.Control.{EnterAnswer, enter_call_at, enter_parts, raised_after, raised_turns, valued_by, enter_steered}
use Rattle.shm_table.specs.{Enter.enter_plan, Get.Control.{get_parts, get_steered}}
use Rattle.shm_table.specs.Put.{Control.{PutAnswer, PutCalls, put_parts, put_steered}, put_plan}
use Rattle.shm_table.specs.PutRoot.Control.{PutRootAnswer, decided_of, enter_control, fault_of, freed_turns, open_control, put_answer, put_root_parts, replace_control, stuck_answer, put_root_steered, put_root_control}
use Rattle.shm_table.specs.PutRoot.{put_root_plan}
use Rattle.shm_table.specs.RecvKey.Control.{RecvAnswer, fetch_head_control, recv_parts, take_head_control, recv_steered}
use Rattle.shm_table.specs.{RecvKey.recv_plan, Replace.Control.{ReplaceAnswer, replace_parts, replace_steered}}
use Rattle.shm_table.specs.Replace.{replace_plan}
use Rattle.shm_table.specs.SendKey.Control.{SendKeyAnswer, send_key_parts, sent_answer, send_key_steered}
use Rattle.shm_table.specs.{SendKey.send_key_plan, Unlatch.Control.unlatch_control}
use Rattle.shm_table.specs.Unlink.Control.{UnlinkAnswer, unlink_call_at, unlink_parts, unlink_steered, unlink_control}
use Rattle.shm_table.specs.{Unlink.unlink_plan, Locate.Control.locate_control}
use Rattle.shm_table.specs.declared.enter.EnterPoint.TheVariants as enter
use Rattle.shm_table.specs.declared.fetch_head.FetchedHead.TheVariants as head
use Rattle.shm_table.specs.declared.unlink.UnlinkPoint.TheVariants as unlink
use Rattle.shm_table.specs.CopyKey.Control as copying
use Rattle.shm_table.specs.Put.Control as putting

-- what is told of an answer is told of the one that it is
same_told : {A : Type 0} (tells : A → Bool) (x a : A) → Some x ≡ Some a → tells a ≡ tells x
same_told {A} tells x a e = let i : a ≡ x = cc in ap tells i

-- ---- machines by how they decide

-- whether the deciding step was made, whether the word step that finds n is that step, and whether an answer tells that it was made
record Decider {S A : Type 0} (k : Control S A) : Type 0 where
  made : S → Bool
  making : S → ℕ → Bool
  says : A → Bool
  holds : Decides k made making says

-- one of two
abbrev one_of : {S T A B : Type 0} {j : Control S A} {k : Control T B} → Decider j → Decider k → Decider (or_control j k)
one_of {S} {T} {A} {B} {j} {k} d e = record { made = either d.made e.made; making = either d.making e.making; says = either d.says e.says; holds = or_decides j k d.made e.made d.making e.making d.says e.says d.holds e.holds }

-- one that isn't the one with the deciding step, before which it was made or not
abbrev idle : {S A : Type 0} (k : Control S A) → Bool → Decider k
idle k z = record { made = λ m. z; making = λ m n. false; says = λ a. z; holds = keeps_decided k z }

-- count steps
abbrev stepping : Decider step_control
stepping = record { made = step_exchanged; making = step_exchanging; says = is_ok; holds = step_decides }

abbrev lowering : Decider down_control
lowering = record { made = step_exchanged; making = step_exchanging; says = is_ok; holds = down_decides }

-- a step up decides where it is the one at the bucket
abbrev linking : EnterPoint → Decider up_control
linking y = record { made = λ c. links y && step_exchanged c; making = λ c n. links y && step_exchanging c n; says = λ a. links y && is_ok a; holds = decides_where up_control (links y) step_exchanged step_exchanging is_ok up_decides }

-- ---- an entry has another value block

pub replace_decides : Decides replace_control replace_decided (λ m n. replace_by m.plan m.call n) decided_of
replace_decides = calls_decides replace_parts replace_plan replace_at replace_by replace_says decided_of (record { calls = λ m. (one_of (idle word_control false) (one_of stepping (idle tear_control true))).holds; goes = goes }) ends
  where
    goes : (m : ReplaceState) (b : ReplaceAnswer) → replace_steered.turns m b ≡ None → replace_at (replace_steered.after m b) (replace_steered.call (replace_steered.after m b)) ≡ replace_says m b
    goes m (First n) e = refl
    goes m (Second (First (Ok true))) e = refl
    goes m (Second _) e = cc

    there : (t : Bool) (a : Result Bool PutFault) → (if t then Some (Ok false) else None) ≡ Some a → decided_of a ≡ false
    there true a e = same_told decided_of (Ok false) a e
    there false a e = cc

    ends : (m : ReplaceState) (b : ReplaceAnswer) (a : Result Bool PutFault) → replace_steered.turns m b ≡ Some a → decided_of a ≡ replace_says m b
    ends m (First n) a e = there (n % address_limit == m.to) a e
    ends m (Second (First (Ok true))) a e = cc
    ends m (Second (First (Err f))) a e = same_told decided_of (Err (raised_fault f)) a e
    ends m (Second _) a e = same_told decided_of (Ok true) a e

-- ---- a new entry begins the chain of its bucket

pub enter_decides : Decides enter_control enter_decided (λ m n. enter_by m.plan m.call n) is_linked
enter_decides = calls_decides enter_parts enter_plan enter_at enter_by enter_says is_linked (record { calls = λ m. (one_of (idle alloc_control false) (one_of (linking m.point) stepping)).holds; goes = goes }) ends
  where
    -- once a word has come to name a block
    valued : (m : EnterState) (t : Bool) → enter_at (record m { point = valued_by t }) (enter_call_at (record m { point = valued_by t }) (valued_by t)) ≡ false
    valued m true = refl
    valued m false = refl

    raised : (m : EnterState) (y : EnterPoint) → raised_turns m y ≡ None → enter_at (raised_after m y) (enter_call_at (raised_after m y) (raised_after m y).point) ≡ (links y && true)
    raised m enter.Value e = valued m (m.first == 0)
    raised m enter.Next e = refl
    raised m y e = cc

    goes : (m : EnterState) (b : EnterAnswer) → enter_steered.turns m b ≡ None → enter_at (enter_steered.after m b) (enter_steered.call (enter_steered.after m b)) ≡ enter_says m b
    goes m (First (Ok made)) e = refl
    goes m (Second (First (Ok done))) e = raised m m.point e
    goes m (Second (Second (Ok z))) e = cc
    goes m _ e = cc

    raised_ends : (m : EnterState) (y : EnterPoint) (a : Entered) → raised_turns m y ≡ Some a → is_linked a ≡ (links y && true)
    raised_ends m enter.Value a e = cc
    raised_ends m enter.Next a e = cc
    raised_ends m y a e = same_told is_linked (Linked m.root) a e

    no_link : (z : Bool) → (z && false) ≡ false
    no_link true = refl
    no_link false = refl

    ends : (m : EnterState) (b : EnterAnswer) (a : Entered) → enter_steered.turns m b ≡ Some a → is_linked a ≡ enter_says m b
    ends m (First (Ok made)) a e = cc
    ends m (First (Err f)) a e = same_told is_linked (Unmade (made_fault f)) a e
    ends m (Second (First (Ok done))) a e = raised_ends m m.point a e
    ends m (Second (First (Err f))) a e = same_told is_linked (Unlinked m.root (raised_fault f)) a e ∙ sym (no_link (links m.point))
    ends m (Second (Second (Ok z))) a e = same_told is_linked (Linked m.root) a e
    ends m (Second (Second (Err f))) a e = same_told is_linked (Unlinked m.root (raised_fault f)) a e

-- ---- an entry is taken out

pub unlink_decides : Decides unlink_control unlink_decided (λ m n. unlink_by m.plan m.call n) is_ok
unlink_decides = calls_decides unlink_parts unlink_plan unlink_at unlink_by unlink_says is_ok (record { calls = λ m. (one_of (idle word_control false) (one_of lowering (one_of stepping (idle tear_control true)))).holds; goes = goes }) ends
  where
    looked : (m : UnlinkState) (t : Bool) → let y : UnlinkPoint = if t then unlink.Lower else unlink.Change in unlink_at m (unlink_call_at m y) ≡ false
    looked m true = refl
    looked m false = refl

    goes : (m : UnlinkState) (b : UnlinkAnswer) → unlink_steered.turns m b ≡ None → unlink_at (unlink_steered.after m b) (unlink_steered.call (unlink_steered.after m b)) ≡ unlink_says m b
    goes m (First n) e = looked (unlink_steered.after m (First n)) (n % address_limit == 0)
    goes m (Second (First (Ok true))) e = refl
    goes m (Second (Second (First (Ok true)))) e = refl
    goes m (Second _) e = cc

    ends : (m : UnlinkState) (b : UnlinkAnswer) (a : Result (Unit {0}) UpFault) → unlink_steered.turns m b ≡ Some a → is_ok a ≡ unlink_says m b
    ends m (Second (First (Ok false))) a e = same_told is_ok (Ok tt) a e
    ends m (Second (First (Err f))) a e = same_told is_ok (Err (EraSpent f.era)) a e
    ends m (Second (Second (First (Ok false)))) a e = same_told is_ok (Ok tt) a e
    ends m (Second (Second (First (Err f)))) a e = same_told is_ok (Err f) a e
    ends m (Second (Second (Second b))) a e = same_told is_ok (Ok tt) a e
    ends m _ a e = cc

-- ---- a value block comes into the own table

abbrev replaces : Decider replace_control
replaces = record { made = replace_decided; making = λ c. replace_by c.plan c.call; says = decided_of; holds = replace_decides }

abbrev enters : Decider enter_control
enters = record { made = enter_decided; making = λ c. enter_by c.plan c.call; says = is_linked; holds = enter_decides }

pub put_root_decides : Decides put_root_control put_root_decided (λ m n. put_root_by m.plan m.call n) decided_of
put_root_decides = calls_decides put_root_parts put_root_plan put_root_at put_root_by put_root_says decided_of (record { calls = λ m. (one_of (idle (or_control open_control locate_control) false) (one_of (one_of replaces enters) (idle (or_control unlatch_control drop_root) (settled m.decided m.refused)))).holds; goes = goes }) ends
  where
    goes : (m : PutRootState) (b : PutRootAnswer) → put_root_steered.turns m b ≡ None → put_root_at (put_root_steered.after m b) (put_root_steered.call (put_root_steered.after m b)) ≡ put_root_says m b
    goes m (First (First (Err f))) e = cc
    goes m (First (Second (At entry before word))) e = refl
    goes m (Second (First (First (Ok z)))) e = refl
    goes m (Second (First (Second (Linked k)))) e = refl
    goes m (Second (Second (Second (Ok z)))) e = cc
    goes m (Second (Second (Second (Err x)))) e = cc
    goes m _ e = refl

    answers : (z : Bool) (f : Option PutFault) → decided_of (put_answer z f) ≡ settled z f
    answers z None = refl
    answers z (Some f) = refl

    freed_ends : (m : PutRootState) (o : Option ℕ) (a : Result Bool PutFault) → freed_turns m o ≡ Some a → decided_of a ≡ settled m.decided m.refused
    freed_ends m None a e = same_told decided_of (put_answer m.decided m.refused) a e ∙ answers m.decided m.refused
    freed_ends m (Some k) a e = cc

    stuck : (z : Bool) (f : Option PutFault) (x : AnEraSpent) → decided_of (stuck_answer z f x) ≡ settled z f
    stuck z None x = refl
    stuck z (Some f) x = refl

    ends : (m : PutRootState) (b : PutRootAnswer) (a : Result Bool PutFault) → put_root_steered.turns m b ≡ Some a → decided_of a ≡ put_root_says m b
    ends m (First (First (Err f))) a e = same_told decided_of (Err f) a e
    ends m (Second (Second (First done))) a e = freed_ends m m.root a e
    ends m (Second (Second (Second (Ok z)))) a e = same_told decided_of (put_answer m.decided m.refused) a e ∙ answers m.decided m.refused
    ends m (Second (Second (Second (Err x)))) a e = same_told decided_of (stuck_answer m.decided m.refused x) a e ∙ stuck m.decided m.refused x
    ends m _ a e = cc

-- ---- a put

-- a value block comes into the table, and then its root is dropped
abbrev brings : Bool → Option PutFault → Decider (or_control put_root_control drop_root)
brings z f = one_of (record { made = put_root_decided; making = λ c. put_root_by c.plan c.call; says = decided_of; holds = put_root_decides }) (idle drop_root (settled z f))

-- after the call of PutRoot what it told stays
told_settled : (a : Result Bool PutFault) → settled (decided_of a) (fault_of a) ≡ decided_of a
told_settled (Ok z) = refl
told_settled (Err f) = refl

pub put_foretells : Foretells (calls_control put_parts put_steered) (λ a. a) put_effect (λ m n. put_by m.plan m.call n)
put_foretells = calls_foretell put_parts put_plan put_at put_by put_says (λ a. a) (λ m. answer.Stored m.block) (record { decides = record { calls = λ m. (one_of (idle alloc_control false) (brings m.decided m.refused)).holds; goes = goes }; same = same; ends = ends })
  where
    goes : (m : PutState) (b : PutAnswer) → put_steered.turns m b ≡ None → put_at (put_steered.after m b) (put_steered.call (put_steered.after m b)) ≡ put_says m b
    goes m (First (Ok made)) e = refl
    goes m (Second (First done)) e = told_settled done
    goes m (Second (Second (Ok z))) e = cc
    goes m _ e = cc

    same : (m : PutState) (b : PutAnswer) → put_says m b ≡ true → put_steered.turns m b ≡ None → answer.Stored (put_steered.after m b).block ≡ answer.Stored m.block
    same m (First a) d e = cc
    same m (Second (First done)) d e = refl
    same m (Second (Second a)) d e = refl

    given : (z : Bool) (f : Option PutFault) (b : ℕ) → settled z f ≡ true → putting.put_answer b f ≡ answer.Stored b
    given z None b d = refl
    given z (Some f) b d = cc

    stuck : (z : Bool) (f : Option PutFault) (b : ℕ) (x : AnEraSpent) → settled z f ≡ true → putting.stuck_answer b f x ≡ answer.Stored b
    stuck z None b x d = refl
    stuck z (Some f) b x d = cc

    ends : (m : PutState) (b : PutAnswer) (a : Answer) → put_says m b ≡ true → put_steered.turns m b ≡ Some a → a ≡ answer.Stored m.block
    ends m (Second (Second (Ok z))) a d e = let i : a ≡ putting.put_answer m.block m.refused = cc in i ∙ given m.decided m.refused m.block d
    ends m (Second (Second (Err x))) a d e = let i : a ≡ putting.stuck_answer m.block m.refused x = cc in i ∙ stuck m.decided m.refused m.block x d
    ends m _ a d e = cc

-- ---- a copy

-- what it and a receive answer where the step was made, whether the root was dropped or not
settled_given : (z : Bool) (f : Option PutFault) (n b : ℕ) → settled z f ≡ true → copying.copy_answer n b f ≡ answer.Value n b
settled_given z None n b d = refl
settled_given z (Some f) n b d = cc

settled_stuck : (z : Bool) (f : Option PutFault) (n b : ℕ) (x : AnEraSpent) → settled z f ≡ true → copying.stuck_answer n b f x ≡ answer.Value n b
settled_stuck z None n b x d = refl
settled_stuck z (Some f) n b x d = cc

pub copy_foretells : Foretells (calls_control copy_parts copy_steered) (λ a. a) copy_effect (λ m n. copy_by m.plan m.call n)
copy_foretells = calls_foretell copy_parts copy_plan copy_at copy_by copy_says (λ a. a) (λ m. answer.Value m.number m.block) (record { decides = record { calls = λ m. (one_of (idle fetch_control false) (brings m.decided m.refused)).holds; goes = goes }; same = same; ends = ends })
  where
    goes : (m : CopyState) (b : CopyAnswer) → copy_steered.turns m b ≡ None → copy_at (copy_steered.after m b) (copy_steered.call (copy_steered.after m b)) ≡ copy_says m b
    goes m (First (Rooted k b n)) e = refl
    goes m (Second (First done)) e = told_settled done
    goes m (Second (Second (Ok z))) e = cc
    goes m _ e = cc

    same : (m : CopyState) (b : CopyAnswer) → copy_says m b ≡ true → copy_steered.turns m b ≡ None → answer.Value (copy_steered.after m b).number (copy_steered.after m b).block ≡ answer.Value m.number m.block
    same m (First a) d e = cc
    same m (Second (First done)) d e = refl
    same m (Second (Second a)) d e = refl

    ends : (m : CopyState) (b : CopyAnswer) (a : Answer) → copy_says m b ≡ true → copy_steered.turns m b ≡ Some a → a ≡ answer.Value m.number m.block
    ends m (Second (Second (Ok z))) a d e = let i : a ≡ copying.copy_answer m.number m.block m.refused = cc in i ∙ settled_given m.decided m.refused m.number m.block d
    ends m (Second (Second (Err x))) a d e = let i : a ≡ copying.stuck_answer m.number m.block m.refused x = cc in i ∙ settled_stuck m.decided m.refused m.number m.block x d
    ends m _ a d e = cc

-- ---- a removal

abbrev unlinks : Decider unlink_control
unlinks = record { made = unlink_decided; making = λ c. unlink_by c.plan c.call; says = is_ok; holds = unlink_decides }

pub del_foretells : Foretells (calls_control del_parts del_steered) (λ a. a) del_effect (λ m n. del_by m.plan m.call n)
del_foretells = calls_foretell del_parts del_plan del_at del_by del_says (λ a. a) (λ m. answer.Ok) (record { decides = record { calls = λ m. (one_of (idle locate_control false) (one_of unlinks (idle unlatch_control (is_removed m.answer)))).holds; goes = goes }; same = λ m b d e. refl; ends = ends })
  where
    refused : (f : UpFault) → is_removed (fault_answer (raised_fault f)) ≡ false
    refused (EraSpent e) = refl
    refused (CountFull b n) = refl

    goes : (m : DelState) (b : DelCallAnswer) → del_steered.turns m b ≡ None → del_at (del_steered.after m b) (del_steered.call (del_steered.after m b)) ≡ del_says m b
    goes m (First (Absent home first)) e = refl
    goes m (Second (First (Err f))) e = refused f
    goes m (Second (Second done)) e = cc
    goes m _ e = refl

    is_gone : (a : Answer) → is_removed a ≡ true → a ≡ answer.Ok
    is_gone answer.Ok d = refl
    is_gone a d = cc

    ends : (m : DelState) (b : DelCallAnswer) (a : Answer) → del_says m b ≡ true → del_steered.turns m b ≡ Some a → a ≡ answer.Ok
    ends m (Second (Second done)) a d e = let i : a ≡ m.answer = cc in i ∙ is_gone m.answer d
    ends m _ a d e = cc

-- ---- what a key has is sent

-- a machine whose last step decides, by the answer of that step
last_decides : {S A : Type 0} (k : Control S A) (says : A → Bool) → Decides k (λ m. false) (λ m n. ends_with says (k.turns m n)) says
last_decides k says = record { goes = λ m n e. sym (ap (ends_with says) e); ends = λ m n a e. sym (ap (ends_with says) e) }

abbrev sends : Decider send
sends = record { made = λ m. false; making = λ m n. ends_with is_ok (send.turns m n); says = is_ok; holds = last_decides send is_ok }

pub send_key_foretells : Foretells (calls_control send_key_parts send_key_steered) (λ a. a) send_key_effect (λ m n. send_key_by m.plan m.call n)
send_key_foretells = calls_foretell send_key_parts send_key_plan send_key_at send_key_by send_key_says (λ a. a) (λ m. answer.Ok) (record { decides = record { calls = λ m. (one_of (idle locate_control false) (one_of (idle word_control false) (one_of sends (idle unlatch_control (is_sent m.outcome))))).holds; goes = goes }; same = λ m b d e. refl; ends = ends })
  where
    refused : (f : SendFault) → is_sent (sent_answer (Err f)) ≡ false
    refused (send_fault.QueueFull h n) = refl
    refused _ = refl

    goes : (m : SendKeyState) (b : SendKeyAnswer) → send_key_steered.turns m b ≡ None → send_key_at (send_key_steered.after m b) (send_key_steered.call (send_key_steered.after m b)) ≡ send_key_says m b
    goes m (First (Absent home first)) e = refl
    goes m (Second (Second (First (Err f)))) e = refused f
    goes m (Second (Second (Second done))) e = cc
    goes m _ e = refl

    is_gone : (a : Answer) → is_sent a ≡ true → a ≡ answer.Ok
    is_gone answer.Ok d = refl
    is_gone a d = cc

    ends : (m : SendKeyState) (b : SendKeyAnswer) (a : Answer) → send_key_says m b ≡ true → send_key_steered.turns m b ≡ Some a → a ≡ answer.Ok
    ends m (Second (Second (Second done))) a d e = let i : a ≡ m.outcome = cc in i ∙ is_gone m.outcome d
    ends m _ a d e = cc

-- ---- a receive

pub recv_foretells : Foretells (calls_control recv_parts recv_steered) (λ a. a) recv_effect (λ m n. recv_by m.plan m.call n)
recv_foretells = calls_foretell recv_parts recv_plan recv_at recv_by recv_says (λ a. a) (λ m. answer.Value m.number m.block) (record { decides = record { calls = λ m. (one_of (one_of (idle fetch_head_control false) (idle take_head_control (settled m.decided m.refused))) (brings m.decided m.refused)).holds; goes = goes }; same = same; ends = ends })
  where
    goes : (m : RecvState) (b : RecvAnswer) → recv_steered.turns m b ≡ None → recv_at (recv_steered.after m b) (recv_steered.call (recv_steered.after m b)) ≡ recv_says m b
    goes m (First (First (head.Rooted k b v n))) e = refl
    goes m (First (Second a)) e = refl
    goes m (Second (First (Ok z))) e = refl
    goes m (Second (First (Err f))) e = refl
    goes m (Second (Second (Ok z))) e = cc
    goes m _ e = cc

    same : (m : RecvState) (b : RecvAnswer) → recv_says m b ≡ true → recv_steered.turns m b ≡ None → answer.Value (recv_steered.after m b).number (recv_steered.after m b).block ≡ answer.Value m.number m.block
    same m (First (First a)) d e = cc
    same m (Second (First (Ok z))) d e = refl
    same m _ d e = refl

    ends : (m : RecvState) (b : RecvAnswer) (a : Answer) → recv_says m b ≡ true → recv_steered.turns m b ≡ Some a → a ≡ answer.Value m.number m.block
    ends m (First (First b)) a d e = cc
    ends m (Second (Second (Ok z))) a d e = let i : a ≡ copying.copy_answer m.number m.block m.refused = cc in i ∙ settled_given m.decided m.refused m.number m.block d
    ends m (Second (Second (Err x))) a d e = let i : a ≡ copying.stuck_answer m.number m.block m.refused x = cc in i ∙ settled_stuck m.decided m.refused m.number m.block x d
    ends m _ a d e = cc

-- ---- reading what a key has

pub get_foretells : Foretells (calls_control get_parts get_steered) (λ a. a) get_effect (λ m n. false)
get_foretells = record { goes = λ m n e. refl; stays = λ m n x i e. cc; answers = λ m n x a i e. cc }

-- ---- a command of a line

-- what a command will answer, by what its state shows
record Foreteller {S A : Type 0} (k : Control S A) : Type 0 where
  told : A → Answer
  effect : S → Option Answer
  by : S → ℕ → Bool
  holds : Foretells k told effect by

-- one of two
abbrev either_of : {S T A B : Type 0} {j : Control S A} {k : Control T B} → Foreteller j → Foreteller k → Foreteller (or_control j k)
either_of {S} {T} {A} {B} {j} {k} d e = record { told = either d.told e.told; effect = either d.effect e.effect; by = either d.by e.by; holds = or_foretells j k d.told e.told d.effect e.effect d.by e.by d.holds e.holds }

-- a command by itself
abbrev alone : {S : Type 0} (k : Control S Answer) (effect : S → Option Answer) (by : S → ℕ → Bool) → Foretells k (λ a. a) effect by → Foreteller k
alone k effect by h = record { told = λ a. a; effect = effect; by = by; holds = h }

pub command_foretells : Foretells command_control (λ a. a) command_effect command_by
command_foretells =
    mapped_foretells given command_parts (λ a. a) command_effect command_by
    (either_of (either_of (alone put put_effect (λ c n. put_by c.plan c.call n) put_foretells) (alone copy_control copy_effect (λ c n. copy_by c.plan c.call n) copy_foretells))
    (either_of (either_of (alone del del_effect (λ c n. del_by c.plan c.call n) del_foretells) (alone get get_effect (λ c n. false) get_foretells))
    (either_of (alone send_key send_key_effect (λ c n. send_key_by c.plan c.call n) send_key_foretells) (alone recv_control recv_effect (λ c n. recv_by c.plan c.call n) recv_foretells)))).holds
