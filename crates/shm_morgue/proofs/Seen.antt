-- porters and medics as contracts see them
use Rattle.std.proofs.{Common.{◌≡◌, ℕ, List, [], length, subst}, lemmas.List.Elements.All-head}
use Rattle.crossbeam_queue.specs.Passes.{view}
use Rattle.shm_pool.specs.Tokens.{Its}
use Rattle.shm_morgue.specs.{declared.rule.{Desk.Desk, Hands.Hands, Taken.Taken}, Entries.MayHold}
use Rattle.shm_morgue.specs.{Hands.{IsPorter, Place, desk, first_entries, puts_of}, Keeps.MayWait}

pub same_puts : (p q : Place) (client : ℕ) → p.table_id ≡ q.table_id → view p ≡ view q → puts_of p client ≡ puts_of q client
same_puts p q client t v = λ j. record { of = record { queue = t j; clients = (v j).clients; medics = (v j).doctors }; client = client; entries = first_entries (v j).porters }

pub waits_alone : (pools : List Its) (p : Place) (client n : ℕ) (items : List Taken) → IsPorter p client n → MayWait pools (view p) items → MayHold pools client (length (first_entries (view p).porters)) items
waits_alone pools p client n items h w =
    let d : Desk = desk client (first_entries (view p).porters) in
    All-head (λ (e : Desk). MayHold pools e.client (length e.entries) items) d [] (subst (λ (u : Hands). MayWait pools u items) h.view_is w)
