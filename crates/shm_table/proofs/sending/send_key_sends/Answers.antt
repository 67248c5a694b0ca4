use Rattle.shm_table.specs.Proved.SendKey.Steps.{sent_joins}
use Rattle.shm_table.proofs.sending.send_key_sends.Goals as goal

pub returns : goal.returns
returns c me i key r0 r tr es h = sent_joins me i key r0 r tr es h
