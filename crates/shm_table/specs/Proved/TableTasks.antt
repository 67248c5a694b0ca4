-- commands on tables as operations: when they may begin between two calls: what is proved of it
use Rattle.std.proofs.Common.{◌≡◌, ℕ, ◌^◌, ◌<◌, false, List, [], refl, sym, subst, inl, inr}
use Rattle.std.specs.Prelude.{None}
use Rattle.shm_graph.specs.{declared.{ask.Me.Me, memo.Memo.Memo}, Asks.Trail, Events.Event, Held.is_loose, Idle.IsIdle}
use Rattle.shm_graph.specs.Operations.{IsReady}
use Rattle.shm_graph.proofs.Idles.{idle_core}
use Rattle.plans.specs.Tasks.{IsNew, TaskLaws}
use Rattle.shm_script.specs.declared.log.Answer.{Answer}
use Rattle.shm_script.specs.declared.line.Line.TheVariants as line
use Rattle.shm_script.specs.declared.log.Answer.TheVariants as answer
use Rattle.shm_table.specs.declared.{copy.CopyState.CopyState, del.DelState.DelState, get.GetState.GetState}
use Rattle.shm_table.specs.declared.{put.PutState.PutState, recv.RecvState.RecvState}
use Rattle.shm_table.specs.{declared.send_key.SendKeyState.SendKeyState, Commands.MayCommand}
use Rattle.shm_table.specs.CopyKey.{Control.{copy_parts, copying}, CopyKnows, CopyLeaves, copy_plan}
use Rattle.shm_table.specs.Proved.{CopyKey.Laws.copy_begin, Del.Laws.del_begin, Get.Laws.get_begin}
use Rattle.shm_table.specs.Proved.{RecvKey.Laws.recv_begin, SendKey.Laws.send_key_begin}
use Rattle.shm_table.specs.Del.{Control.{del_parts, deleting}, DelKnows, DelLeaves, del_plan}
use Rattle.shm_table.specs.{Get.{Control.{get_parts, getting}, GetKnows, GetLeaves, get_plan}, Locate.MayLocate}
use Rattle.shm_table.specs.Put.{Control.{put_parts, putting}, PutKnows, PutLeaves, put_plan}
use Rattle.shm_table.specs.RecvKey.{Control.{receiving_key, recv_parts}, RecvKnows, RecvLeaves, recv_plan}
use Rattle.shm_table.specs.SendKey.{Control.{send_key_parts, sending_key}, SendKeyKnows, SendKeyLeaves, send_key_plan}
use Rattle.shm_table.specs.TableTasks.{IsAtTable, LineMay, PutMay, CopyMay, DelMay, GetMay, SendKeyMay, RecvMay}

-- ---- what the command of a line needs, but that its identity is between two calls

may_command : (me : Me) (key : ℕ) (r : Memo) → IsReady me r → IsAtTable r → key < 2 ^ 32 → MayCommand me key r
may_command me key r ready at small = record { geometry = ready.geometry; who = ready.who; idle = ready.idle; client = at.client; none = at.none; table = at.table; small = small }

may_locate : (me : Me) (a : ℕ) (r : Memo) → IsReady me r → r.latch ≡ None → is_loose r.part ≡ false → a < me.geometry.clients → MayLocate me a r
may_locate me a r ready none table author = record { geometry = ready.geometry; who = ready.who; author = author; idle = ready.idle; none = none; table = table }

-- ---- a put

put_knows : (me : Me) (key n : ℕ) (r : Memo) → IsReady me r → LineMay me (line.Put key n) r → let m : PutState = putting me key n in PutKnows m m.point r r [] []
put_knows me key n r ready (at, small, number) = (may_command me key r ready at small, number, refl, refl, refl)

pub put_rests : (m : PutState) (r0 r : Memo) (tr : Trail) (es : List Event) (a : Answer) → PutLeaves m r0 r tr es a → IsIdle m.me.who r
put_rests m r0 r tr es (answer.Stored b) h = h.keeps.idle
put_rests m r0 r tr es (answer.EraSpent e) h = h.keeps.idle
put_rests m r0 r tr es answer.RootsFull h = h.keeps.idle
put_rests m r0 r tr es (answer.Full s b) h = h.keeps.idle
put_rests m r0 r tr es (answer.CountFull b n) h = h.keeps.idle
put_rests m r0 r tr es a h = absurd h

pub put_task : TaskLaws put_parts put_plan PutMay (λ m a. Unit {0})
put_task =
    record {
      new = λ m r h. subst (IsNew put_parts put_plan) (sym h.0) (record { first = refl; start = refl; fresh = refl });
      begins = λ m r ready h. subst (λ (x : PutState). PutKnows x x.point r r [] []) (sym h.0) (put_knows m.me m.key m.number r ready h.1);
      rests = λ m r0 r tr es a ready h l e. put_rests m r0 r tr es a l;
    }

-- ---- a copy

copy_knows : (me : Me) (key a other : ℕ) (r : Memo) → IsReady me r → LineMay me (line.Copy key a other) r → let m : CopyState = copying me key a other in CopyKnows m m.point r r [] []
copy_knows me key a other r ready (at, small, author) = copy_begin me key a other r (record { command = may_command me key r ready at small; author = author })

pub copy_rests : (m : CopyState) (r0 r : Memo) (tr : Trail) (es : List Event) (a : Answer) → CopyLeaves m r0 r tr es a → IsIdle m.me.who r
copy_rests m r0 r tr es (answer.Value n b) h = h.keeps.idle
copy_rests m r0 r tr es answer.Missing h = h.visited.keeps.idle
copy_rests m r0 r tr es (answer.EraSpent e) h = h.keeps.idle
copy_rests m r0 r tr es answer.RootsFull h = h.keeps.idle
copy_rests m r0 r tr es (answer.Full s b) h = h.keeps.idle
copy_rests m r0 r tr es (answer.CountFull b n) h = h.keeps.idle
copy_rests m r0 r tr es a h = absurd h

pub copy_task : TaskLaws copy_parts copy_plan CopyMay (λ m a. Unit {0})
copy_task =
    record {
      new = λ m r h. subst (IsNew copy_parts copy_plan) (sym h.0) (record { first = refl; start = refl; fresh = refl });
      begins = λ m r ready h. subst (λ (x : CopyState). CopyKnows x x.point r r [] []) (sym h.0) (copy_knows m.me m.key m.author m.other r ready h.1);
      rests = λ m r0 r tr es a ready h l e. copy_rests m r0 r tr es a l;
    }

-- ---- a removal

del_knows : (me : Me) (key : ℕ) (r : Memo) → IsReady me r → IsAtTable r → let m : DelState = deleting me key in DelKnows m m.point r r [] []
del_knows me key r ready at = del_begin me key r (record { geometry = ready.geometry; who = ready.who; idle = ready.idle; none = at.none; table = at.table; client = at.client })

pub del_rests : (m : DelState) (r0 r : Memo) (tr : Trail) (es : List Event) (a : Answer) → DelLeaves m r0 r tr es a → IsIdle m.me.who r
del_rests m r0 r tr es answer.Ok h = h.1.keeps.idle
del_rests m r0 r tr es answer.Missing h = h.1.keeps.idle
del_rests m r0 r tr es (answer.EraSpent e) h = h.1.keeps.idle
del_rests m r0 r tr es (answer.CountFull b n) h = h.1.keeps.idle
del_rests m r0 r tr es a h = absurd h.1

pub del_task : TaskLaws del_parts del_plan DelMay (λ m a. Unit {0})
del_task =
    record {
      new = λ m r h. subst (IsNew del_parts del_plan) (sym h.0) (record { first = refl; start = refl; fresh = refl });
      begins = λ m r ready h. subst (λ (x : DelState). DelKnows x x.point r r [] []) (sym h.0) (del_knows m.me m.key r ready h.1);
      rests = λ m r0 r tr es a ready h l e. del_rests m r0 r tr es a l;
    }

-- ---- a reading

get_knows : (me : Me) (a key : ℕ) (r : Memo) → IsReady me r → LineMay me (line.Get a key) r → let m : GetState = getting me a key in GetKnows m m.point r r [] []
get_knows me a key r ready (none, table, author) = get_begin me a key r (may_locate me a r ready none table author)

pub get_rests : (m : GetState) (r0 r : Memo) (tr : Trail) (es : List Event) (a : Answer) → GetLeaves m r0 r tr es a → IsIdle m.me.who r
get_rests m r0 r tr es (answer.Value n v) h = h.visited.keeps.idle
get_rests m r0 r tr es answer.Missing h = h.visited.keeps.idle
get_rests m r0 r tr es a h = absurd h

pub get_task : TaskLaws get_parts get_plan GetMay (λ m a. Unit {0})
get_task =
    record {
      new = λ m r h. subst (IsNew get_parts get_plan) (sym h.0) (record { first = refl; start = refl; fresh = refl });
      begins = λ m r ready h. subst (λ (x : GetState). GetKnows x x.point r r [] []) (sym h.0) (get_knows m.me m.author m.key r ready h.1);
      rests = λ m r0 r tr es a ready h l e. get_rests m r0 r tr es a l;
    }

-- ---- a send

send_key_knows : (me : Me) (i key : ℕ) (r : Memo) → IsReady me r → LineMay me (line.Send i key) r → let m : SendKeyState = sending_key me i key in SendKeyKnows m m.point r r [] []
send_key_knows me i key r ready (at, to, other, none) =
    send_key_begin me i key r (record { locate = may_locate me me.who r ready at.none at.table ready.who; client = at.client; to = to; other = other; none = none })

pub send_key_rests : (m : SendKeyState) (r0 r : Memo) (tr : Trail) (es : List Event) (a : Answer) → SendKeyLeaves m r0 r tr es a → IsIdle m.me.who r
send_key_rests m r0 r tr es answer.Missing h = h.visited.keeps.idle
send_key_rests m r0 r tr es answer.Ok h = h.2.keeps.idle
send_key_rests m r0 r tr es (answer.QueueFull d n) h = h.1.keeps.idle
send_key_rests m r0 r tr es (answer.EraSpent e) h = h.1.keeps.idle
send_key_rests m r0 r tr es (answer.CountFull d n) h = h.1.keeps.idle
send_key_rests m r0 r tr es a h = absurd h

pub send_key_task : TaskLaws send_key_parts send_key_plan SendKeyMay (λ m a. Unit {0})
send_key_task =
    record {
      new = λ m r h. subst (IsNew send_key_parts send_key_plan) (sym h.0) (record { first = refl; start = refl; fresh = refl });
      begins = λ m r ready h. subst (λ (x : SendKeyState). SendKeyKnows x x.point r r [] []) (sym h.0) (send_key_knows m.me m.to m.key r ready h.1);
      rests = λ m r0 r tr es a ready h l e. send_key_rests m r0 r tr es a l;
    }

-- ---- a receive

recv_knows : (me : Me) (s key : ℕ) (r : Memo) → IsReady me r → LineMay me (line.Recv s key) r → let m : RecvState = receiving_key me s key in RecvKnows m m.point r r [] []
recv_knows me s key r ready (at, small, from, other, none) = recv_begin me s key r (record { command = may_command me key r ready at small; from = from; other = other; none = none })

pub recv_rests : (m : RecvState) (r0 r : Memo) (tr : Trail) (es : List Event) (a : Answer) → IsIdle m.me.who r0 → RecvLeaves m r0 r tr es a → IsIdle m.me.who r
recv_rests m r0 r tr es (answer.Value v b) idle h = elim h.item [ inl y ↦ y.passed.keeps.idle | inr y ↦ y.0.idle ]
recv_rests m r0 r tr es (answer.Empty n) idle h = idle_core m.me.who r0 r h.same idle
recv_rests m r0 r tr es (answer.EraSpent e) idle h = h.keeps.idle
recv_rests m r0 r tr es answer.RootsFull idle h = h.keeps.idle
recv_rests m r0 r tr es (answer.Full s b) idle h = h.keeps.idle
recv_rests m r0 r tr es (answer.CountFull b n) idle h = h.keeps.idle
recv_rests m r0 r tr es a idle h = absurd h

pub recv_task : TaskLaws recv_parts recv_plan RecvMay (λ m a. Unit {0})
recv_task =
    record {
      new = λ m r h. subst (IsNew recv_parts recv_plan) (sym h.0) (record { first = refl; start = refl; fresh = refl });
      begins = λ m r ready h. subst (λ (x : RecvState). RecvKnows x x.point r r [] []) (sym h.0) (recv_knows m.me m.from m.key r ready h.1);
      rests = λ m r0 r tr es a ready h l e. recv_rests m r0 r tr es a ready.idle l;
    }
