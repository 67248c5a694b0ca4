use Rattle.shm_graph.proofs.States.SoundStates.{sound_front, sound_waiting, sound_room, sound_apart}
use Rattle.shm_graph.proofs.sound.queues_keep_their_items.Goals as goal

pub returns-clause-queue_head : goal.returns-clause-queue_head
returns-clause-queue_head c g w v h s r ls = sound_front g w v h s r ls

pub returns-clause-waiting : goal.returns-clause-waiting
returns-clause-waiting c g w v h s r n ls = sound_waiting g w v h s r ls n

pub returns-clause-room : goal.returns-clause-room
returns-clause-room c g w v h s r ls = sound_room g w v h s r ls

pub returns-clause-apart : goal.returns-clause-apart
returns-clause-apart c g w v h s r k ls = sound_apart g w v h s r ls k
