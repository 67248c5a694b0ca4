-- commands on tables as operations: when they may begin between two calls
use Rattle.std.proofs.Common.{◌≡◌, ◌≢◌, ◌^◌, ◌<◌, false}
use Rattle.std.specs.Prelude.{None, slice_index}
use Rattle.shm_graph.specs.{declared.{ask.Me.Me, memo.Memo.Memo}, Agents.recovers, Held.is_loose}
use Rattle.shm_script.specs.declared.line.Line.{Line}
use Rattle.shm_script.specs.declared.line.Line.TheVariants as line
use Rattle.shm_table.specs.declared.{copy.CopyState.CopyState, del.DelState.DelState, get.GetState.GetState}
use Rattle.shm_table.specs.declared.{put.PutState.PutState, recv.RecvState.RecvState}
use Rattle.shm_table.specs.{declared.send_key.SendKeyState.SendKeyState, CopyKey.Control.copying, Del.Control.deleting}
use Rattle.shm_table.specs.{Get.Control.getting, Put.Control.putting, RecvKey.Control.receiving_key}
use Rattle.shm_table.specs.SendKey.Control.{sending_key}

-- ---- what the command of a line needs, but that its identity is between two calls

-- a client that holds no latch, in a pool for tables
pub record IsAtTable (r : Memo) : Type 0 where
  pub client : recovers r ≡ false
  pub none : r.latch ≡ None
  pub table : is_loose r.part ≡ false

-- keys and numbers are in range, so are identities, and no block waits at the tail to the one that is sent to, no item for the head from the one that is received from
abbrev pub LineMay : Me → Line → Memo → Type 0
LineMay me (line.Put key n) r = IsAtTable r × (key < 2 ^ 32) × (n < 2 ^ 64)
LineMay me (line.Copy key a other) r = IsAtTable r × (key < 2 ^ 32) × (a < me.geometry.clients)
LineMay me (line.Del key) r = IsAtTable r
LineMay me (line.Get a key) r = (r.latch ≡ None) × (is_loose r.part ≡ false) × (a < me.geometry.clients)
LineMay me (line.Send to key) r = IsAtTable r × (to < me.geometry.clients) × (me.who ≢ to) × (slice_index r.unsent to ≡ 0)
LineMay me (line.Recv from key) r = IsAtTable r × (key < 2 ^ 32) × (from < me.geometry.clients) × (from ≢ me.who) × (slice_index r.untaken from ≡ 0)

-- ---- a put

-- a put that was just made, where the memo shows what its line needs
abbrev pub PutMay : PutState → Memo → Type 0
PutMay m r = (m ≡ putting m.me m.key m.number) × LineMay m.me (line.Put m.key m.number) r

-- ---- a copy

-- a copy that was just made, where the memo shows what its line needs
abbrev pub CopyMay : CopyState → Memo → Type 0
CopyMay m r = (m ≡ copying m.me m.key m.author m.other) × LineMay m.me (line.Copy m.key m.author m.other) r

-- ---- a removal

-- a removal that was just made, where the memo shows what its line needs
abbrev pub DelMay : DelState → Memo → Type 0
DelMay m r = (m ≡ deleting m.me m.key) × LineMay m.me (line.Del m.key) r

-- ---- a reading

-- a reading that was just made, where the memo shows what its line needs
abbrev pub GetMay : GetState → Memo → Type 0
GetMay m r = (m ≡ getting m.me m.author m.key) × LineMay m.me (line.Get m.author m.key) r

-- ---- a send

-- a send that was just made, where the memo shows what its line needs
abbrev pub SendKeyMay : SendKeyState → Memo → Type 0
SendKeyMay m r = (m ≡ sending_key m.me m.to m.key) × LineMay m.me (line.Send m.to m.key) r

-- ---- a receive

-- a receive that was just made, where the memo shows what its line needs
abbrev pub RecvMay : RecvState → Memo → Type 0
RecvMay m r = (m ≡ receiving_key m.me m.from m.key) × LineMay m.me (line.Recv m.from m.key) r
