-- what a command leaves of a client that may begin any command: it may again, and its map is the fold of one more entry
use Rattle.std.proofs.Common.{◌≡◌, ℕ, ◌⊎◌, Bool, false, cond, List, [], ◌∷◌, ◌++◌, refl, sym, ap, ◌∙◌, inl, inr}
use Rattle.std.proofs.lemmas.Cmp.{eq_by_cmp_equiv, nat_cmp_total}
use Rattle.std.specs.{Prelude.{◌==◌, Some, None, slice_index}, Cmp.unsigned_ties, FinMap.{get-insert, get-remove}}
use Rattle.std.specs.Ordering.{eq_by_cmp, nat_cmp}
use Rattle.std.specs.FinMap as finmap
use Rattle.shm_graph.specs.{declared.{ask.Me.Me, memo.Memo.Memo, spot.Spot.TheVariants.Hold}, Agents.recovers}
use Rattle.shm_graph.specs.{Asks.Trail, Events.Event, Core.core, Held.is_loose, Idle.hold_word, Views.own_word}
use Rattle.kind_parts.specs.Reparting.{map_in}
use Rattle.shm_script.specs.declared.{log.{Answer.Answer, Entry.Entry}, line.Line.Line}
use Rattle.shm_script.specs.Logged.{Table, folded, table_after}
use Rattle.shm_script.specs.declared.log.Answer.TheVariants as answer
use Rattle.shm_script.specs.declared.line.Line.TheVariants as line
use Rattle.shm_table.specs.{declared.answer.PutFault.PutFault, Command.{CommandGives, command_of}}
use Rattle.shm_table.specs.Proved.Command.Laws.{copies_give, dels_give, gets_give, puts_give, recvs_give, sends_give}
use Rattle.shm_table.specs.{Commands.CommandCause, CopyKey.{Control.copying, CopyLeaves}, Del.Control.deleting}
use Rattle.shm_table.specs.{Del.DelLeaves, Get.{Control.getting, GetLeaves, Visited}, Put.{Control.putting, PutLeaves}}
use Rattle.shm_table.specs.{PutRoot.IsEraSpent, RecvKey.{Control.receiving_key, ItemTaken, ReceivedIn, RecvLeaves}}
use Rattle.shm_table.specs.SendKey.{Control.sending_key, IsSent, IsUnsent, SendKeyLeaves, send_key_steps}
use Rattle.shm_table.specs.Staying.{Cleared, Ended, IsSpent, Keeps, MapCut, MapSet, SameMap}
use Rattle.shm_table.specs.declared.answer.PutFault.TheVariants as fault
use Rattle.shm_queue.specs.declared.answer.SendFault.{SendFault}
use Rattle.shm_queue.specs.declared.answer.SendFault.TheVariants as sendfault
use Rattle.shm_agents.specs.Agents.{IsFold, IsReady}

-- ---- folds

folded-append : (es ds : List Entry) (t : Table) → folded (es ++ ds) t ≡ folded ds (folded es t)
folded-append [] ds t = refl
folded-append (e ∷ es) ds t = folded-append es ds (table_after e.line e.answer t)

-- what the memo has at each key
abbrev HasMap : Memo → Table → Type 0
HasMap m t = (key : ℕ) → map_in m.part key ≡ finmap.get t key

fold_more : (es : List Entry) (x : Entry) (r : Memo) → HasMap r (table_after x.line x.answer (folded es finmap.empty)) → IsFold (es ++ x ∷ []) r
fold_more es x r h key = h key ∙ ap (λ (t : Table). finmap.get t key) (sym (folded-append es (x ∷ []) finmap.empty))

same_test : (key q : ℕ) → (key == q) ≡ eq_by_cmp nat_cmp q key
same_test key q = unsigned_ties key q ∙ (eq_by_cmp_equiv nat_cmp_total).symm key q

map_set : (t : Table) (key n v : ℕ) (m r : Memo) → HasMap m t → MapSet key n v m r → HasMap r (finmap.insert t key (n, v))
map_set t key n v m r h set q =
    set q
    ∙ (ap (λ (b : Bool). cond b (Some (n, v)) (map_in m.part q)) (same_test key q)
    ∙ (ap (λ z. cond (eq_by_cmp nat_cmp q key) (Some (n, v)) z) (h q)
    ∙ sym (get-insert nat_cmp_total t key (n, v) q)))

map_cut : (t : Table) (key : ℕ) (m r : Memo) → HasMap m t → MapCut key m r → HasMap r (finmap.remove t key)
map_cut t key m r h cut q =
    cut q
    ∙ (ap (λ (b : Bool). cond b None (map_in m.part q)) (same_test key q)
    ∙ (ap (λ z. cond (eq_by_cmp nat_cmp q key) None z) (h q)
    ∙ sym (get-remove nat_cmp_total t key q)))

map_same : (t : Table) (m r : Memo) → HasMap m t → SameMap m r → HasMap r t
map_same t m r h same q = same q ∙ h q

-- ---- the rest

-- the own era never came to be spent
abbrev pub HasRoom : ℕ → Memo → Type 0
HasRoom c r = (e : ℕ) → IsSpent c e r → ⊥

module _ (me : Me) (es : List Entry) (m r : Memo) (h : IsReady me.who es m) (client : recovers r ≡ false) where
  -- the table that the entries leave
  abbrev before : Table
  before = folded es finmap.empty

  abbrev Then : Entry → Type 0
  Then x = IsReady me.who (es ++ x ∷ []) r

  abbrev Map : Entry → Type 0
  Map x = HasMap r (table_after x.line x.answer before)

  kept : (x : Entry) → Keeps me.who m r → r.latch ≡ None → Cleared me.who m r → Map x → Then x
  kept x k latch cleared map =
      record {
        idle = k.idle;
        client = client;
        latch = latch;
        dying = cleared.dying ∙ h.dying;
        table = k.loose ∙ h.table;
        unsent = λ i. ap (λ xs. slice_index xs i) k.unsent ∙ h.unsent i;
        untaken = λ i. ap (λ xs. slice_index xs i) k.untaken ∙ h.untaken i;
        fold = fold_more es x r map;
      }

  -- nothing that it speaks of changed
  core_kept : (x : Entry) → core r ≡ core m → Map x → Then x
  core_kept x e map =
      record {
        idle = record {
          live = ap (λ (y : Memo). y.status) e ∙ h.idle.live;
          op = ap (λ (y : Memo). y.op) e ∙ h.idle.op;
          making = ap (λ (y : Memo). y.making) e ∙ h.idle.making;
          hold = ap (λ (y : Memo). own_word y.own (Hold me.who)) e ∙ (h.idle.hold ∙ ap (λ (y : Memo). hold_word y.latch) (sym e));
        };
        client = client;
        latch = ap (λ (y : Memo). y.latch) e ∙ h.latch;
        dying = ap (λ (y : Memo). y.dying) e ∙ h.dying;
        table = ap (λ (y : Memo). is_loose y.part) e ∙ h.table;
        unsent = λ i. ap (λ (y : Memo). slice_index y.unsent i) e ∙ h.unsent i;
        untaken = λ i. ap (λ (y : Memo). slice_index y.untaken i) e ∙ h.untaken i;
        fold = fold_more es x r map;
      }

  -- the map is the one before
  same_map : SameMap m r → HasMap r before
  same_map = map_same before m r h.fold

  visited : (x : Entry) → Visited me m r → Map x → Then x
  visited x v map = kept x v.keeps (ap (λ (y : Memo). y.latch) v.memo) v.cleared map

  module _ (room : HasRoom me.who r) where
    ended : Ended me.who m r → Cleared me.who m r
    ended (inl d) = d
    ended (inr s) = absurd (room s.0 s.1)

    either : Cleared me.who m r ⊎ ⊥ → Cleared me.who m r
    either (inl d) = d
    either (inr z) = absurd z

    refused : (f : PutFault) → Cleared me.who m r ⊎ IsEraSpent f → CommandCause me m r f → Cleared me.who m r
    refused (fault.EraSpent e) d cause = absurd (room e cause)
    refused fault.RootsFull d cause = either d
    refused (fault.Full s b) d cause = either d
    refused (fault.CountFull b n) d cause = either d

    -- ---- the commands

    put_leaves : (key n : ℕ) (tr : Trail) (ds : List Event) (a : Answer) → PutLeaves (putting me key n) m r tr ds a → Then (record { line = line.Put key n; answer = a })
    put_leaves key n tr ds (answer.Stored b) g = kept (record { line = line.Put key n; answer = answer.Stored b }) g.keeps g.latch (ended g.ended) (map_set before key n b m r h.fold g.map)
    put_leaves key n tr ds (answer.EraSpent e) g = kept (record { line = line.Put key n; answer = answer.EraSpent e }) g.keeps g.latch (refused (fault.EraSpent e) g.cleared g.cause) (same_map g.map)
    put_leaves key n tr ds answer.RootsFull g = kept (record { line = line.Put key n; answer = answer.RootsFull }) g.keeps g.latch (refused fault.RootsFull g.cleared g.cause) (same_map g.map)
    put_leaves key n tr ds (answer.Full s b) g = kept (record { line = line.Put key n; answer = answer.Full s b }) g.keeps g.latch (refused (fault.Full s b) g.cleared g.cause) (same_map g.map)
    put_leaves key n tr ds (answer.CountFull b k) g = kept (record { line = line.Put key n; answer = answer.CountFull b k }) g.keeps g.latch (refused (fault.CountFull b k) g.cleared g.cause) (same_map g.map)
    put_leaves key n tr ds a g = absurd g

    copy_leaves : (key a other : ℕ) (tr : Trail) (ds : List Event) (b : Answer) → CopyLeaves (copying me key a other) m r tr ds b → Then (record { line = line.Copy key a other; answer = b })
    copy_leaves key a other tr ds (answer.Value n b) g = kept (record { line = line.Copy key a other; answer = answer.Value n b }) g.keeps g.latch (ended g.ended) (map_set before key n b m r h.fold g.map)
    copy_leaves key a other tr ds answer.Missing g = visited (record { line = line.Copy key a other; answer = answer.Missing }) g.visited (same_map g.visited.map)
    copy_leaves key a other tr ds (answer.EraSpent e) g = kept (record { line = line.Copy key a other; answer = answer.EraSpent e }) g.keeps g.latch (refused (fault.EraSpent e) g.cleared g.cause) (same_map g.map)
    copy_leaves key a other tr ds answer.RootsFull g = kept (record { line = line.Copy key a other; answer = answer.RootsFull }) g.keeps g.latch (refused fault.RootsFull g.cleared g.cause) (same_map g.map)
    copy_leaves key a other tr ds (answer.Full s b) g = kept (record { line = line.Copy key a other; answer = answer.Full s b }) g.keeps g.latch (refused (fault.Full s b) g.cleared g.cause) (same_map g.map)
    copy_leaves key a other tr ds (answer.CountFull b k) g = kept (record { line = line.Copy key a other; answer = answer.CountFull b k }) g.keeps g.latch (refused (fault.CountFull b k) g.cleared g.cause) (same_map g.map)
    copy_leaves key a other tr ds b g = absurd g

    del_leaves : (key : ℕ) (tr : Trail) (ds : List Event) (a : Answer) → DelLeaves (deleting me key) m r tr ds a → Then (record { line = line.Del key; answer = a })
    del_leaves key tr ds answer.Ok g = kept (record { line = line.Del key; answer = answer.Ok }) g.1.keeps g.0 (ended g.1.ended) (map_cut before key m r h.fold g.1.map)
    del_leaves key tr ds answer.Missing g = kept (record { line = line.Del key; answer = answer.Missing }) g.1.keeps g.0 g.1.cleared (same_map g.1.map)
    del_leaves key tr ds (answer.EraSpent e) g = kept (record { line = line.Del key; answer = answer.EraSpent e }) g.1.keeps g.0 g.1.cleared (same_map g.1.map)
    del_leaves key tr ds (answer.CountFull b n) g = kept (record { line = line.Del key; answer = answer.CountFull b n }) g.1.keeps g.0 g.1.cleared (same_map g.1.map)
    del_leaves key tr ds a g = absurd g.1

    get_leaves : (a key : ℕ) (tr : Trail) (ds : List Event) (b : Answer) → GetLeaves (getting me a key) m r tr ds b → Then (record { line = line.Get a key; answer = b })
    get_leaves a key tr ds (answer.Value n v) g = visited (record { line = line.Get a key; answer = answer.Value n v }) g.visited (same_map g.visited.map)
    get_leaves a key tr ds answer.Missing g = visited (record { line = line.Get a key; answer = answer.Missing }) g.visited (same_map g.visited.map)
    get_leaves a key tr ds b g = absurd g

    sent : (i key b n : ℕ) (tr : Trail) (ds : List Event) (x : Entry) → IsSent me i key b n None (send_key_steps me.geometry.wide) m r tr ds → Map x → Then x
    sent i key b n tr ds x g map =
        record {
          idle = g.keeps.idle;
          client = client;
          latch = g.latch;
          dying = g.cleared.dying ∙ h.dying;
          table = g.keeps.loose ∙ h.table;
          unsent = λ j. g.waits j ∙ h.unsent j;
          untaken = λ j. ap (λ xs. slice_index xs j) g.keeps.untaken ∙ h.untaken j;
          fold = fold_more es x r map;
        }

    unsent : (i key b : ℕ) (f : SendFault) (tr : Trail) (ds : List Event) (x : Entry) → IsUnsent me i key b f None (send_key_steps me.geometry.wide) m r tr ds → Map x → Then x
    unsent i key b f tr ds x g map = kept x g.keeps g.latch g.cleared map

    send_leaves : (i key : ℕ) (tr : Trail) (ds : List Event) (a : Answer) → SendKeyLeaves (sending_key me i key) m r tr ds a → Then (record { line = line.Send i key; answer = a })
    send_leaves i key tr ds answer.Missing g = visited (record { line = line.Send i key; answer = answer.Missing }) g.visited (same_map g.visited.map)
    send_leaves i key tr ds answer.Ok g = sent i key g.0 g.1 tr ds (record { line = line.Send i key; answer = answer.Ok }) g.2 (same_map g.2.map)
    send_leaves i key tr ds (answer.QueueFull hd n) g = unsent i key g.0 (sendfault.QueueFull hd n) tr ds (record { line = line.Send i key; answer = answer.QueueFull hd n }) g.1 (same_map g.1.map)
    send_leaves i key tr ds (answer.EraSpent e) g = unsent i key g.0 (sendfault.EraSpent e) tr ds (record { line = line.Send i key; answer = answer.EraSpent e }) g.1 (same_map g.1.map)
    send_leaves i key tr ds (answer.CountFull d n) g = unsent i key g.0 (sendfault.CountFull d n) tr ds (record { line = line.Send i key; answer = answer.CountFull d n }) g.1 (same_map g.1.map)
    send_leaves i key tr ds a g = absurd g

    received : (s key v b n : ℕ) (tr : Trail) (ds : List Event) (x : Entry) → ReceivedIn me s key v b m r tr ds → (ItemTaken me s n b m r ds ⊎ (Keeps me.who m r × ((e : ℕ) × IsSpent me.who e r))) → Map x → Then x
    received s key v b n tr ds x g (inl t) map =
        record {
          idle = t.passed.keeps.idle;
          client = client;
          latch = g.latch;
          dying = (ended g.ended).dying ∙ h.dying;
          table = t.passed.keeps.loose ∙ h.table;
          unsent = λ j. ap (λ xs. slice_index xs j) t.passed.keeps.unsent ∙ h.unsent j;
          untaken = λ j. t.untaken j ∙ h.untaken j;
          fold = fold_more es x r map;
        }
    received s key v b n tr ds x g (inr (k, s2)) map = absurd (room s2.0 s2.1)

    recv_leaves : (s key : ℕ) (tr : Trail) (ds : List Event) (a : Answer) → RecvLeaves (receiving_key me s key) m r tr ds a → Then (record { line = line.Recv s key; answer = a })
    recv_leaves s key tr ds (answer.Value v b) g = received s key v b g.place tr ds (record { line = line.Recv s key; answer = answer.Value v b }) g g.item (map_set before key v b m r h.fold g.map)
    recv_leaves s key tr ds (answer.Empty n) g = core_kept (record { line = line.Recv s key; answer = answer.Empty n }) g.same (same_map (λ key. ap (λ (y : Memo). map_in y.part key) g.same))
    recv_leaves s key tr ds (answer.EraSpent e) g = kept (record { line = line.Recv s key; answer = answer.EraSpent e }) g.keeps g.latch (refused (fault.EraSpent e) g.cleared g.cause) (same_map g.map)
    recv_leaves s key tr ds answer.RootsFull g = kept (record { line = line.Recv s key; answer = answer.RootsFull }) g.keeps g.latch (refused fault.RootsFull g.cleared g.cause) (same_map g.map)
    recv_leaves s key tr ds (answer.Full t b) g = kept (record { line = line.Recv s key; answer = answer.Full t b }) g.keeps g.latch (refused (fault.Full t b) g.cleared g.cause) (same_map g.map)
    recv_leaves s key tr ds (answer.CountFull b n) g = kept (record { line = line.Recv s key; answer = answer.CountFull b n }) g.keeps g.latch (refused (fault.CountFull b n) g.cleared g.cause) (same_map g.map)
    recv_leaves s key tr ds a g = absurd g

    -- whatever the command
    pub command_leaves : (l : Line) (tr : Trail) (a : Answer) → CommandGives (command_of me l) m r tr a → IsReady me.who (es ++ record { line = l; answer = a } ∷ []) r
    command_leaves (line.Put key n) tr a g = put_leaves key n tr _ a (puts_give me key n m r tr a g).leaves
    command_leaves (line.Copy key b other) tr a g = copy_leaves key b other tr _ a (copies_give me key b other m r tr a g).leaves
    command_leaves (line.Del key) tr a g = del_leaves key tr _ a (dels_give me key m r tr a g).leaves
    command_leaves (line.Get b key) tr a g = get_leaves b key tr _ a (gets_give me b key m r tr a g).leaves
    command_leaves (line.Send i key) tr a g = send_leaves i key tr _ a (sends_give me i key m r tr a g).leaves
    command_leaves (line.Recv s key) tr a g = recv_leaves s key tr _ a (recvs_give me s key m r tr a g).leaves
