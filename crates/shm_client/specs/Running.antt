-- commands on a table as calls: when the one of a line may begin, and what it leaves
use Rattle.std.specs.Prelude.{◌≡◌, ℕ, ◌^◌, ◌<◌, ◌⊎◌, false, None, [], List, slice_index}
use Rattle.shm_words.specs.{declared.geometry.Geometry.Geometry, Layout.GeometryFits}
use Rattle.shm_graph.specs.{declared.{ask.Me.Me, memo.Memo.Memo}, Agents.recovers, Asks.Trail, Events.Event}
use Rattle.shm_graph.specs.Held.{is_loose}
use Rattle.shm_plain.specs.{Calls.IsAtWork, Pools.{Pool, memo_of}}
use Rattle.shm_script.specs.declared.{line.Line.Line, log.Answer.Answer}
use Rattle.shm_script.specs.declared.line.Line.TheVariants as line
use Rattle.shm_script.specs.declared.log.Answer.TheVariants as answer
use Rattle.shm_table.specs.{Commands.MayCommand, CopyKey.{Control.copying, CopyLeaves, MayCopy}, Del.Control.deleting}
use Rattle.shm_table.specs.{Del.{DelLeaves, MayDel}, Get.{Control.getting, GetLeaves}, Locate.MayLocate}
use Rattle.shm_table.specs.{Put.{Control.putting, PutLeaves}, RecvKey.{Control.receiving_key, MayRecv, RecvLeaves}}
use Rattle.shm_table.specs.{SendKey.{Control.sending_key, MaySendKey, SendKeyLeaves}, Staying.{MapCut, MapSet, SameMap}}

-- ---- a command

-- what the command of a line asks of the memo before it
abbrev pub MayRun : Me → Line → Memo → Type 0
MayRun me (line.Put key n) r = MayCommand me key r × (n < 2 ^ 64)
MayRun me (line.Copy key a other) r = MayCopy me key a r
MayRun me (line.Del key) r = MayDel me r
MayRun me (line.Get a key) r = MayLocate me a r
MayRun me (line.Send to key) r = MaySendKey me to r
MayRun me (line.Recv from key) r = MayRecv me from key r

-- what it leaves of the memo r0, by its answer
abbrev pub RunLeaves : Me → Line → Memo → Memo → Trail → List Event → Answer → Type 0
RunLeaves me (line.Put key n) = PutLeaves (putting me key n)
RunLeaves me (line.Copy key a other) = CopyLeaves (copying me key a other)
RunLeaves me (line.Del key) = DelLeaves (deleting me key)
RunLeaves me (line.Get a key) = GetLeaves (getting me a key)
RunLeaves me (line.Send to key) = SendKeyLeaves (sending_key me to key)
RunLeaves me (line.Recv from key) = RecvLeaves (receiving_key me from key)

-- what the command of a line does to the own map, by its answer; where it isn't told here, nothing
abbrev pub MapSo : Line → Answer → Memo → Memo → Type 0
MapSo (line.Put key n) (answer.Stored b) m r = MapSet key n b m r
MapSo (line.Copy key a other) (answer.Value n b) m r = MapSet key n b m r
MapSo (line.Del key) answer.Ok m r = MapCut key m r
MapSo (line.Recv from key) (answer.Value n b) m r = MapSet key n b m r
MapSo l a m r = SameMap m r

-- whatever is answered, no latch is held; whether the pool is for tables, and which blocks wait for a tail and which items for a head, are as they were
pub record LeavesOpen (m r : Memo) : Type 0 where
  pub latch : r.latch ≡ None
  pub loose : is_loose r.part ≡ is_loose m.part
  pub unsent : (j : ℕ) → slice_index r.unsent j ≡ slice_index m.unsent j
  pub untaken : (j : ℕ) → slice_index r.untaken j ≡ slice_index m.untaken j

-- ---- one after the other

-- c is between two calls and a client, in a pool for tables, with no latch; no count came to 0, and no block waits for a tail and no item for a head: each command may begin, and it may leave
pub record IsOpen (c : ℕ) (p : Pool) : Type 0 where
  pub work : IsAtWork c p
  pub client : recovers (memo_of p c) ≡ false
  pub table : is_loose (memo_of p c).part ≡ false
  pub latch : (memo_of p c).latch ≡ None
  pub dying : (memo_of p c).dying ≡ []
  pub unsent : (j : ℕ) → slice_index (memo_of p c).unsent j ≡ 0
  pub untaken : (j : ℕ) → slice_index (memo_of p c).untaken j ≡ 0

-- each identity of the pool is so
abbrev pub AreOpen : Pool → Type 0
AreOpen p = (c : ℕ) → c < p.start.geometry.clients → IsOpen c p

-- a pool of one or two identities
pub record IsFew (g : Geometry) : Type 0 where
  pub fits : GeometryFits g
  pub some : (g.clients ≡ 1) ⊎ (g.clients ≡ 2)
