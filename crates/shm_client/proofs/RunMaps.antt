-- what every command does to the own map, by its answer
use Rattle.std.proofs.Common.{ℕ, ap, List}
use Rattle.shm_graph.specs.{declared.{ask.Me.Me, memo.Memo.Memo}, Asks.Trail, Events.Event}
use Rattle.shm_script.specs.declared.{line.Line.Line, log.Answer.Answer}
use Rattle.shm_script.specs.declared.line.Line.TheVariants as line
use Rattle.shm_script.specs.declared.log.Answer.TheVariants as answer
use Rattle.kind_parts.specs.Reparting.{map_in}
use Rattle.shm_table.specs.{CopyKey.{Control.copying, CopyLeaves}, Del.{Control.deleting, DelLeaves}}
use Rattle.shm_table.specs.{Get.{Control.getting, GetLeaves}, Put.{Control.putting, PutLeaves}}
use Rattle.shm_table.specs.{RecvKey.{Control.receiving_key, RecvLeaves}, SendKey.{Control.sending_key, SendKeyLeaves}}
use Rattle.shm_client.specs.Running.{MapSo, RunLeaves}

module _ (me : Me) (r0 r : Memo) (tr : Trail) (es : List Event) where
  put_maps : (key n : ℕ) (a : Answer) → PutLeaves (putting me key n) r0 r tr es a → MapSo (line.Put key n) a r0 r
  put_maps key n (answer.Stored b) h = h.map
  put_maps key n (answer.EraSpent e) h = h.map
  put_maps key n answer.RootsFull h = h.map
  put_maps key n (answer.Full s b) h = h.map
  put_maps key n (answer.CountFull b i) h = h.map
  put_maps key n a h = absurd h

  copy_maps : (key b other : ℕ) (a : Answer) → CopyLeaves (copying me key b other) r0 r tr es a → MapSo (line.Copy key b other) a r0 r
  copy_maps key b other (answer.Value n v) h = h.map
  copy_maps key b other answer.Missing h = h.visited.map
  copy_maps key b other (answer.EraSpent e) h = h.map
  copy_maps key b other answer.RootsFull h = h.map
  copy_maps key b other (answer.Full s i) h = h.map
  copy_maps key b other (answer.CountFull v n) h = h.map
  copy_maps key b other a h = absurd h

  del_maps : (key : ℕ) (a : Answer) → DelLeaves (deleting me key) r0 r tr es a → MapSo (line.Del key) a r0 r
  del_maps key answer.Ok h = h.1.map
  del_maps key answer.Missing h = h.1.map
  del_maps key (answer.EraSpent e) h = h.1.map
  del_maps key (answer.CountFull b n) h = h.1.map
  del_maps key a h = absurd h.1

  get_maps : (b key : ℕ) (a : Answer) → GetLeaves (getting me b key) r0 r tr es a → MapSo (line.Get b key) a r0 r
  get_maps b key (answer.Value n v) h = h.visited.map
  get_maps b key answer.Missing h = h.visited.map
  get_maps b key a h = absurd h

  send_maps : (to key : ℕ) (a : Answer) → SendKeyLeaves (sending_key me to key) r0 r tr es a → MapSo (line.Send to key) a r0 r
  send_maps to key answer.Missing h = h.visited.map
  send_maps to key answer.Ok (b, n, h) = h.map
  send_maps to key (answer.QueueFull i t) (b, h) = h.map
  send_maps to key (answer.EraSpent e) (b, h) = h.map
  send_maps to key (answer.CountFull d n) (b, h) = h.map
  send_maps to key a h = absurd h

  recv_maps : (from key : ℕ) (a : Answer) → RecvLeaves (receiving_key me from key) r0 r tr es a → MapSo (line.Recv from key) a r0 r
  recv_maps from key (answer.Value v b) h = h.map
  recv_maps from key (answer.Empty n) h = λ k. ap (λ (x : Memo). map_in x.part k) h.same
  recv_maps from key (answer.EraSpent e) h = h.map
  recv_maps from key answer.RootsFull h = h.map
  recv_maps from key (answer.Full s n) h = h.map
  recv_maps from key (answer.CountFull b n) h = h.map
  recv_maps from key a h = absurd h

  pub run_maps : (l : Line) (a : Answer) → RunLeaves me l r0 r tr es a → MapSo l a r0 r
  run_maps (line.Put key n) a h = put_maps key n a h
  run_maps (line.Copy key b other) a h = copy_maps key b other a h
  run_maps (line.Del key) a h = del_maps key a h
  run_maps (line.Get b key) a h = get_maps b key a h
  run_maps (line.Send to key) a h = send_maps to key a h
  run_maps (line.Recv from key) a h = recv_maps from key a h
