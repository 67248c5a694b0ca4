-- what the whole trails of commands show of why they were refused
use Rattle.std.proofs.Common.{◌≡◌, ℕ, refl, subst, Bool, false, [], ◌++◌, Option, Some, None}
use Rattle.std.specs.Prelude.{Result, Ok, Err, ◌==◌, ◌-◌}
use Rattle.shm_graph.specs.{declared.ask.Me.Me, Asks.Trail, Laws.Outcome}
use Rattle.plans.specs.{declared.or.Or.TheVariants.{First, Second}, Plans.plan_trail}
use Rattle.shm_count.specs.{declared.answer.{EraSpent.EraSpent, UpFault.UpFault}, UpRoot.Control.rooting}
use Rattle.shm_count.specs.declared.answer.UpFault.TheVariants as up
use Rattle.shm_count.specs.declared.point.Aim.TheVariants as aims
use Rattle.shm_queue.specs.declared.{answer.SendFault.SendFault, send.{SendPoint.SendPoint, SendState.SendState}}
use Rattle.shm_queue.specs.Answers.{send_fault}
use Rattle.shm_queue.specs.Send.Control.{SendAnswer, send_after, send_call_at, send_turns, sending, slot_at}
use Rattle.shm_queue.specs.Send.{send_part, send_plan}
use Rattle.shm_queue.specs.declared.answer.SendFault.TheVariants as sent_fault
use Rattle.shm_queue.specs.declared.send.SendPoint.TheVariants as send
use Rattle.shm_ref.specs.DropRoot.{Control.dropping, drop_plan}
use Rattle.shm_script.specs.declared.log.Answer.{Answer}
use Rattle.shm_script.specs.declared.log.Answer.TheVariants as answer
use Rattle.shm_table.specs.declared.{answer.PutFault.PutFault, copy.{CopyPoint.CopyPoint, CopyState.CopyState}}
use Rattle.shm_table.specs.declared.{del.{DelPoint.DelPoint, DelState.DelState}, enter.Entered.Entered}
use Rattle.shm_table.specs.declared.{enter.Entered.TheVariants.{Unlinked, Unmade}, fetch.Fetched.Fetched}
use Rattle.shm_table.specs.declared.fetch.{FetchPoint.FetchPoint, FetchState.FetchState}
use Rattle.shm_table.specs.declared.fetch_head.{FetchedHead.FetchedHead, FetchHeadPoint.FetchHeadPoint}
use Rattle.shm_table.specs.declared.{fetch_head.FetchHeadState.FetchHeadState, find.Found.TheVariants.{Absent, At}}
use Rattle.shm_table.specs.declared.{put.{PutPoint.PutPoint, PutState.PutState}, put_root.PutRootPoint.PutRootPoint}
use Rattle.shm_table.specs.declared.{put_root.PutRootState.PutRootState, recv.RecvPoint.RecvPoint}
use Rattle.shm_table.specs.declared.{recv.RecvState.RecvState, send_key.SendKeyPoint.SendKeyPoint}
use Rattle.shm_table.specs.declared.{send_key.SendKeyState.SendKeyState, unlink.UnlinkPoint.UnlinkPoint}
use Rattle.shm_table.specs.{declared.unlink.UnlinkState.UnlinkState, Answers.{fault_answer, made_fault, raised_fault}}
use Rattle.shm_table.specs.Causes.{LoadsEra, Shows}
use Rattle.shm_table.specs.CopyKey.Control.{CopyAnswer, copy_after, copy_answer, copy_call_at, copy_turns}
use Rattle.shm_table.specs.CopyKey.{copy_part, copy_plan}
use Rattle.shm_table.specs.Del.{Control.{DelCallAnswer, del_after, del_call_at, del_turns}, del_part, del_plan}
use Rattle.shm_table.specs.Enter.Control.{entering}
use Rattle.shm_table.specs.Fetch.Control.{FetchAnswer, fetch_after, fetch_call, fetch_turns, fetching, shared_fault}
use Rattle.shm_table.specs.Fetch.{fetch_part, fetch_plan}
use Rattle.shm_table.specs.FetchHead.Control.{FetchHeadAnswer, fetch_head_call, fetch_head_after, fetch_head_turns, fetching_head, read_after, read_turns}
use Rattle.shm_table.specs.{FetchHead.{fetch_head_part, fetch_head_plan}, OpenTable.Control.opening}
use Rattle.shm_table.specs.Put.Control.{PutAnswer, put_after, put_call_at, put_turns, value_request}
use Rattle.shm_table.specs.Put.{put_part, put_plan}
use Rattle.shm_table.specs.PutRoot.Control.{PutRootAnswer, fault_of, freed_turns, put_answer, put_root_after, put_root_call, put_root_turns, putting_root, root_or, stuck_answer}
use Rattle.shm_table.specs.PutRoot.{put_root_part, put_root_plan}
use Rattle.shm_table.specs.RecvKey.{Control.{RecvAnswer, recv_after, recv_call_at, recv_turns}, recv_part, recv_plan}
use Rattle.shm_table.specs.Replace.Control.{replacing}
use Rattle.shm_table.specs.SendKey.Control.{SendKeyAnswer, send_key_after, send_key_call, send_key_turns, sent_answer}
use Rattle.shm_table.specs.SendKey.{send_key_part, send_key_plan}
use Rattle.shm_table.specs.Unlink.Control.{UnlinkAnswer, link_at, unlink_after, unlink_call_at, unlink_turns, unlinking}
use Rattle.shm_table.specs.Unlink.{unlink_plan}
use Rattle.shm_table.specs.declared.copy.CopyPoint.TheVariants as copy
use Rattle.shm_table.specs.declared.del.DelPoint.TheVariants as del
use Rattle.shm_table.specs.declared.fetch.Fetched.TheVariants as fetched
use Rattle.shm_table.specs.declared.fetch.FetchPoint.TheVariants as fetch
use Rattle.shm_table.specs.declared.fetch_head.FetchedHead.TheVariants as head
use Rattle.shm_table.specs.declared.fetch_head.FetchHeadPoint.TheVariants as fetch_head
use Rattle.shm_table.specs.declared.put.PutPoint.TheVariants as put
use Rattle.shm_table.specs.declared.put_root.PutRootPoint.TheVariants as root
use Rattle.shm_table.specs.declared.recv.RecvPoint.TheVariants as recv
use Rattle.shm_table.specs.declared.send_key.SendKeyPoint.TheVariants as send_key
use Rattle.shm_table.specs.declared.unlink.UnlinkPoint.TheVariants as unlink
use Rattle.shm_table.specs.CopyKey.Control as copies
use Rattle.shm_table.specs.Put.Control as puts
use Rattle.shm_table.proofs.CauseTrails.{Faulty, along_plan, alloc_shows, either_way, faulty_more, shows_later, shows_more, step_shows}
use Rattle.shm_table.proofs.CauseTrails.Parts.{EnteredSo, drop_shows, enter_shows, open_shows, replace_shows, rooting_shows}

module _ (me : Me) where
  -- the drop of a root
  spent_drop : (own : Me) (k : ℕ) (e : EraSpent) (tr t : Trail) → own ≡ me → plan_trail drop_plan (dropping own k) t (Err e) → LoadsEra me e.era (tr ++ t)
  spent_drop own k e tr t is h = shows_later me (answer.EraSpent e.era) tr t (drop_shows me (dropping own k) t (Err e) is h)

  -- ---- a value block comes into the table

  put_root_shows : (p : PutRootState) (t : Trail) (a : Result Bool PutFault) → (p.me ≡ me) × Faulty me p.refused [] → plan_trail put_root_plan p t a → Faulty me (fault_of a) t
  put_root_shows p t a = along_plan put_root_plan (λ p tr. (p.me ≡ me) × Faulty me p.refused tr) (λ a. Faulty me (fault_of a)) (λ p tr t b k h. go p p.point tr t b k h) p t a
    where
      entered : (p : PutRootState) (y : PutRootPoint) (a : Entered) (t : Trail) → p.me ≡ me → put_root_part.asks (put_root_call p y) t (Second (First (Second a))) → EnteredSo me a t
      entered p root.Enter a t k h = enter_shows me (entering p.me p.key p.value p.home p.first) t a k h
      entered p _ a t k h = absurd h

      dropped : (p : PutRootState) (y : PutRootPoint) (e : EraSpent) (tr t : Trail) → p.me ≡ me → put_root_part.asks (put_root_call p y) t (Second (Second (Second (Err e)))) → LoadsEra me e.era (tr ++ t)
      dropped p root.Drop e tr t k h = spent_drop p.me (root_or p.root) e tr t k h
      dropped p _ e tr t k h = absurd h

      answered : (z : Bool) (o : Option PutFault) (u : Trail) → Faulty me o u → Faulty me (fault_of (put_answer z o)) u
      answered z None u h = tt
      answered z (Some f) u h = h

      freed : (p : PutRootState) (o : Option ℕ) (tr t : Trail) → (p.me ≡ me) × Faulty me p.refused tr → Outcome (freed_turns p o) ((p.me ≡ me) × Faulty me p.refused (tr ++ t)) (λ a. Faulty me (fault_of a) (tr ++ t))
      freed p None tr t k = answered p.decided p.refused (tr ++ t) (faulty_more me p.refused tr t k.1)
      freed p (Some j) tr t k = (k.0, faulty_more me p.refused tr t k.1)

      go : (p : PutRootState) (y : PutRootPoint) (tr t : Trail) (b : PutRootAnswer) → (p.me ≡ me) × Faulty me p.refused tr → put_root_part.asks (put_root_call p y) t b
          → Outcome (put_root_turns p b) (((put_root_after p b).me ≡ me) × Faulty me (put_root_after p b).refused (tr ++ t)) (λ a. Faulty me (fault_of a) (tr ++ t))
      go p y tr t (First (Second (At e b w))) k h = (k.0, faulty_more me p.refused tr t k.1)
      go p root.Open tr t (First (First (Err f))) k h = shows_later me (fault_answer f) tr t (open_shows me (opening p.me) t (Err f) k.0 h)
      go p _ tr t (First (First (Err f))) k h = absurd h
      go p root.Replace tr t (Second (First (First (Err f)))) k h = (k.0, shows_later me (fault_answer f) tr t (replace_shows me (replacing p.me p.entry p.value) t (Err f) k.0 h))
      go p _ tr t (Second (First (First (Err f)))) k h = absurd h
      go p y tr t (Second (First (Second (Unlinked j f)))) k h = (k.0, shows_later me (fault_answer f) tr t (entered p y (Unlinked j f) t k.0 h))
      go p y tr t (Second (First (Second (Unmade f)))) k h = (k.0, shows_later me (fault_answer f) tr t (entered p y (Unmade f) t k.0 h))
      go p y tr t (Second (Second (First done))) k h = freed p p.root tr t k
      go p y tr t (Second (Second (Second (Ok z)))) k h = answered p.decided p.refused (tr ++ t) (faulty_more me p.refused tr t k.1)
      go p y tr t (Second (Second (Second (Err e)))) k h = stuck p.decided p.refused
        where
          stuck : (z : Bool) (o : Option PutFault) → Faulty me (fault_of (stuck_answer z o e)) (tr ++ t)
          stuck z None = tt
          stuck z (Some f) = dropped p y e tr t k.0 h
      go p y tr t (First _) k h = (k.0, faulty_more me p.refused tr t k.1)
      go p y tr t (Second (First _)) k h = (k.0, tt)

  -- as a call
  root_shows : (own : Me) (key b : ℕ) (f : PutFault) (tr t : Trail) → own ≡ me → plan_trail put_root_plan (putting_root own key b) t (Err f) → Shows me (fault_answer f) (tr ++ t)
  root_shows own key b f tr t k h = shows_later me (fault_answer f) tr t (put_root_shows (putting_root own key b) t (Err f) (k, tt) h)

  -- ---- what a key has, and the head of a queue

  abbrev FetchedSo : Fetched → Trail → Type 0
  FetchedSo (fetched.Refused f) tr = Shows me (fault_answer f) tr
  FetchedSo a tr = Unit {0}

  fetched_more : (a : Fetched) (tr t : Trail) → FetchedSo a tr → FetchedSo a (tr ++ t)
  fetched_more (fetched.Refused f) tr t h = shows_more me (fault_answer f) tr t h
  fetched_more _ tr t h = tt

  fetch_shows : (p : FetchState) (t : Trail) (a : Fetched) → (p.me ≡ me) × FetchedSo p.outcome [] → plan_trail fetch_plan p t a → FetchedSo a t
  fetch_shows p t a = along_plan fetch_plan (λ p tr. (p.me ≡ me) × FetchedSo p.outcome tr) FetchedSo (λ p tr t b k h. go p p.point tr t b k h) p t a
    where
      read : (p : FetchState) (y : FetchPoint) (n : ℕ) (tr t : Trail) → (p.me ≡ me) × FetchedSo p.outcome tr → let x = fetch_after (record p { point = y }) (Second (First n)) in (x.me ≡ me) × FetchedSo x.outcome (tr ++ t)
      read p fetch.Value n tr t k = (k.0, fetched_more p.outcome tr t k.1)
      read p _ n tr t k = (k.0, fetched_more p.outcome tr t k.1)

      go : (p : FetchState) (y : FetchPoint) (tr t : Trail) (b : FetchAnswer) → (p.me ≡ me) × FetchedSo p.outcome tr → (fetch_part p y).asks (fetch_call p y) t b
          → Outcome (fetch_turns (record p { point = y }) b) (((fetch_after (record p { point = y }) b).me ≡ me) × FetchedSo (fetch_after (record p { point = y }) b).outcome (tr ++ t)) (λ a. FetchedSo a (tr ++ t))
      go p y tr t (First (At e b w)) k h = (k.0, fetched_more p.outcome tr t k.1)
      go p y tr t (Second (First n)) k h = read p y n tr t k
      go p fetch.Share tr t (Second (Second (First (Err f)))) k h = (k.0, shows_later me (fault_answer (shared_fault f)) tr t (rooting_shows me (rooting p.me p.block) t (Err f) k.0 refl h))
      go p _ tr t (Second (Second (First (Err f)))) k h = absurd h
      go p y tr t (Second (Second (Second done))) k h = fetched_more p.outcome tr t k.1
      go p y tr t _ k h = (k.0, tt)

  abbrev HeadSo : FetchedHead → Trail → Type 0
  HeadSo (head.Refused f) tr = Shows me (fault_answer f) tr
  HeadSo a tr = Unit {0}

  fetch_head_shows : (p : FetchHeadState) (t : Trail) (a : FetchedHead) → p.me ≡ me → plan_trail fetch_head_plan p t a → HeadSo a t
  fetch_head_shows p t a is = along_plan fetch_head_plan (λ p tr. p.me ≡ me) HeadSo (λ p tr t b k h. go p p.point tr t b k h) p t a is
    where
      read : (p : FetchHeadState) (y : FetchHeadPoint) (n : ℕ) (u : Trail) → p.me ≡ me → Outcome (read_turns p y n) ((read_after p y n).me ≡ me) (λ a. HeadSo a u)
      read p fetch_head.Tail n u k = either_way (n == p.at) (Some (head.Empty p.at)) None (p.me ≡ me) (λ a. HeadSo a u) tt k
      read p _ n u k = k

      go : (p : FetchHeadState) (y : FetchHeadPoint) (tr t : Trail) (b : FetchHeadAnswer) → p.me ≡ me → (fetch_head_part p y).asks (fetch_head_call p y) t b
          → Outcome (fetch_head_turns (record p { point = y }) b) ((fetch_head_after (record p { point = y }) b).me ≡ me) (λ a. HeadSo a (tr ++ t))
      go p y tr t (First n) k h = read (record p { point = y }) y n (tr ++ t) k
      go p y tr t (Second (Ok j)) k h = tt
      go p fetch_head.Share tr t (Second (Err f)) k h = shows_later me (fault_answer (shared_fault f)) tr t (rooting_shows me (rooting p.me p.block) t (Err f) k refl h)
      go p _ tr t (Second (Err f)) k h = absurd h

  -- ---- put, copy and receive

  pub put_shows : (p : PutState) (t : Trail) (a : Answer) → (p.me ≡ me) × Faulty me p.refused [] → plan_trail put_plan p t a → Shows me a t
  put_shows p t a = along_plan put_plan (λ p tr. (p.me ≡ me) × Faulty me p.refused tr) (Shows me) (λ p tr t b k h. go p p.point tr t b k h) p t a
    where
      dropped : (p : PutState) (y : PutPoint) (e : EraSpent) (tr t : Trail) → p.me ≡ me → put_part.asks (put_call_at p y) t (Second (Second (Err e))) → LoadsEra me e.era (tr ++ t)
      dropped p put.Drop e tr t k h = spent_drop p.me p.root e tr t k h
      dropped p _ e tr t k h = absurd h

      answered : (b : ℕ) (o : Option PutFault) (u : Trail) → Faulty me o u → Shows me (puts.put_answer b o) u
      answered b None u h = tt
      answered b (Some f) u h = h

      go : (p : PutState) (y : PutPoint) (tr t : Trail) (b : PutAnswer) → (p.me ≡ me) × Faulty me p.refused tr → put_part.asks (put_call_at p y) t b
          → Outcome (put_turns p b) (((put_after p b).me ≡ me) × Faulty me (put_after p b).refused (tr ++ t)) (λ a. Shows me a (tr ++ t))
      go p y tr t (First (Ok b)) k h = (k.0, faulty_more me p.refused tr t k.1)
      go p put.Make tr t (First (Err f)) k h = subst (λ x. Shows x (fault_answer (made_fault f)) (tr ++ t)) k.0 (alloc_shows p.me (value_request p.number) f tr t refl h)
      go p _ tr t (First (Err f)) k h = absurd h
      go p y tr t (Second (First (Ok z))) k h = (k.0, tt)
      go p put.Put tr t (Second (First (Err f))) k h = (k.0, root_shows p.me p.key p.block f tr t k.0 h)
      go p _ tr t (Second (First (Err f))) k h = absurd h
      go p y tr t (Second (Second (Ok z))) k h = answered p.block p.refused (tr ++ t) (faulty_more me p.refused tr t k.1)
      go p y tr t (Second (Second (Err e))) k h = stuck p.refused
        where
          stuck : (o : Option PutFault) → Shows me (puts.stuck_answer p.block o e) (tr ++ t)
          stuck None = tt
          stuck (Some f) = dropped p y e tr t k.0 h

  copied : (n b : ℕ) (o : Option PutFault) (u : Trail) → Faulty me o u → Shows me (copy_answer n b o) u
  copied n b None u h = tt
  copied n b (Some f) u h = h

  pub copy_shows : (p : CopyState) (t : Trail) (a : Answer) → (p.me ≡ me) × Faulty me p.refused [] → plan_trail copy_plan p t a → Shows me a t
  copy_shows p t a = along_plan copy_plan (λ p tr. (p.me ≡ me) × Faulty me p.refused tr) (Shows me) (λ p tr t b k h. go p p.point tr t b k h) p t a
    where
      dropped : (p : CopyState) (y : CopyPoint) (e : EraSpent) (tr t : Trail) → p.me ≡ me → copy_part.asks (copy_call_at p y) t (Second (Second (Err e))) → LoadsEra me e.era (tr ++ t)
      dropped p copy.Drop e tr t k h = spent_drop p.me p.root e tr t k h
      dropped p _ e tr t k h = absurd h

      go : (p : CopyState) (y : CopyPoint) (tr t : Trail) (b : CopyAnswer) → (p.me ≡ me) × Faulty me p.refused tr → copy_part.asks (copy_call_at p y) t b
          → Outcome (copy_turns p b) (((copy_after p b).me ≡ me) × Faulty me (copy_after p b).refused (tr ++ t)) (λ a. Shows me a (tr ++ t))
      go p y tr t (First fetched.Missing) k h = tt
      go p copy.Fetch tr t (First (fetched.Refused f)) k h = shows_later me (fault_answer f) tr t (fetch_shows (fetching p.me p.author p.other) t (fetched.Refused f) (k.0, tt) h)
      go p _ tr t (First (fetched.Refused f)) k h = absurd h
      go p y tr t (First (fetched.Rooted j b n)) k h = (k.0, faulty_more me p.refused tr t k.1)
      go p y tr t (Second (First (Ok z))) k h = (k.0, tt)
      go p copy.Put tr t (Second (First (Err f))) k h = (k.0, root_shows p.me p.key p.block f tr t k.0 h)
      go p _ tr t (Second (First (Err f))) k h = absurd h
      go p y tr t (Second (Second (Ok z))) k h = copied p.number p.block p.refused (tr ++ t) (faulty_more me p.refused tr t k.1)
      go p y tr t (Second (Second (Err e))) k h = stuck p.refused
        where
          stuck : (o : Option PutFault) → Shows me (copies.stuck_answer p.number p.block o e) (tr ++ t)
          stuck None = tt
          stuck (Some f) = dropped p y e tr t k.0 h

  pub recv_shows : (p : RecvState) (t : Trail) (a : Answer) → (p.me ≡ me) × Faulty me p.refused [] → plan_trail recv_plan p t a → Shows me a t
  recv_shows p t a = along_plan recv_plan (λ p tr. (p.me ≡ me) × Faulty me p.refused tr) (Shows me) (λ p tr t b k h. go p p.point tr t b k h) p t a
    where
      dropped : (p : RecvState) (y : RecvPoint) (e : EraSpent) (tr t : Trail) → p.me ≡ me → recv_part.asks (recv_call_at p y) t (Second (Second (Err e))) → LoadsEra me e.era (tr ++ t)
      dropped p recv.Drop e tr t k h = spent_drop p.me p.root e tr t k h
      dropped p _ e tr t k h = absurd h

      go : (p : RecvState) (y : RecvPoint) (tr t : Trail) (b : RecvAnswer) → (p.me ≡ me) × Faulty me p.refused tr → recv_part.asks (recv_call_at p y) t b
          → Outcome (recv_turns p b) (((recv_after p b).me ≡ me) × Faulty me (recv_after p b).refused (tr ++ t)) (λ a. Shows me a (tr ++ t))
      go p y tr t (First (First (head.Empty n))) k h = tt
      go p recv.Fetch tr t (First (First (head.Refused f))) k h = shows_later me (fault_answer f) tr t (fetch_head_shows (fetching_head p.me p.from) t (head.Refused f) k.0 h)
      go p _ tr t (First (First (head.Refused f))) k h = absurd h
      go p y tr t (Second (First (Ok z))) k h = (k.0, tt)
      go p recv.Put tr t (Second (First (Err f))) k h = (k.0, root_shows p.me p.key p.block f tr t k.0 h)
      go p _ tr t (Second (First (Err f))) k h = absurd h
      go p y tr t (Second (Second (Ok z))) k h = copied p.number p.block p.refused (tr ++ t) (faulty_more me p.refused tr t k.1)
      go p y tr t (Second (Second (Err e))) k h = stuck p.refused
        where
          stuck : (o : Option PutFault) → Shows me (copies.stuck_answer p.number p.block o e) (tr ++ t)
          stuck None = tt
          stuck (Some f) = dropped p y e tr t k.0 h
      go p y tr t (First _) k h = (k.0, faulty_more me p.refused tr t k.1)

  -- ---- send

  send_shows : (p : SendState) (t : Trail) (a : Result ℕ SendFault) → p.me ≡ me → plan_trail send_plan p t a → Shows me (sent_answer a) t
  send_shows p t a is = along_plan send_plan (λ p tr. p.me ≡ me) (λ a. Shows me (sent_answer a)) (λ p tr t b k h. go p p.point tr t b k h) p t a is
    where
      raised : (p : SendState) (f : UpFault) (tr t : Trail) → p.me ≡ me → (send_part p send.Up).asks (send_call_at p send.Up) t (Second (Err f)) → Shows me (sent_answer (Err (send_fault f))) (tr ++ t)
      raised p (up.EraSpent e) tr t k h = step_shows me p.me (slot_at p) (aims.Up p.block) (up.EraSpent e) tr t k h
      raised p (up.CountFull b n) tr t k h = step_shows me p.me (slot_at p) (aims.Up p.block) (up.CountFull b n) tr t k h

      go : (p : SendState) (y : SendPoint) (tr t : Trail) (b : SendAnswer) → p.me ≡ me → (send_part p y).asks (send_call_at p y) t b → Outcome (send_turns p y b) ((send_after p y b).me ≡ me) (λ a. Shows me (sent_answer a) (tr ++ t))
      go p send.Tail tr t (First n) k h = k
      go p send.Head tr t (First n) k h = either_way (p.tail - n == 8) (Some (Err (sent_fault.QueueFull n p.tail))) None (p.me ≡ me) (λ a. Shows me (sent_answer a) (tr ++ t)) tt k
      go p send.Store tr t (First n) k h = tt
      go p send.Up tr t (Second (Ok done)) k h = k
      go p send.Up tr t (Second (Err f)) k h = raised p f tr t k h
      go p _ tr t _ k h = absurd h

  pub send_key_shows : (p : SendKeyState) (t : Trail) (a : Answer) → (p.me ≡ me) × Shows me p.outcome [] → plan_trail send_key_plan p t a → Shows me a t
  send_key_shows p t a = along_plan send_key_plan (λ p tr. (p.me ≡ me) × Shows me p.outcome tr) (Shows me) (λ p tr t b k h. go p p.point tr t b k h) p t a
    where
      go : (p : SendKeyState) (y : SendKeyPoint) (tr t : Trail) (b : SendKeyAnswer) → (p.me ≡ me) × Shows me p.outcome tr → (send_key_part p y).asks (send_key_call p y) t b
          → Outcome (send_key_turns p b) (((send_key_after p b).me ≡ me) × Shows me (send_key_after p b).outcome (tr ++ t)) (λ a. Shows me a (tr ++ t))
      go p y tr t (First (Absent x b)) k h = (k.0, tt)
      go p send_key.Send tr t (Second (Second (First a))) k h = (k.0, shows_later me (sent_answer a) tr t (send_shows (sending p.me p.to p.block) t a k.0 h))
      go p _ tr t (Second (Second (First a))) k h = absurd h
      go p y tr t (Second (Second (Second done))) k h = shows_more me p.outcome tr t k.1
      go p y tr t _ k h = (k.0, shows_more me p.outcome tr t k.1)

  -- ---- removal

  abbrev Cut : Result (Unit {0}) UpFault → Trail → Type 0
  Cut (Ok done) tr = Unit {0}
  Cut (Err f) tr = Shows me (fault_answer (raised_fault f)) tr

  unlink_shows : (p : UnlinkState) (t : Trail) (a : Result (Unit {0}) UpFault) → p.me ≡ me → plan_trail unlink_plan p t a → Cut a t
  unlink_shows p t a is = along_plan unlink_plan (λ p tr. p.me ≡ me) Cut (λ p tr t b k h. go p p.point tr t b k h) p t a is
    where
      go : (p : UnlinkState) (y : UnlinkPoint) (tr t : Trail) (b : UnlinkAnswer) → p.me ≡ me → (unlink_plan.part (record p { point = y })).asks (unlink_call_at p y) t b → Outcome (unlink_turns p b) ((unlink_after p b).me ≡ me) (λ a. Cut a (tr ++ t))
      go p y tr t (Second (First (Ok false))) k h = tt
      go p unlink.Lower tr t (Second (First (Err e))) k h = step_shows me p.me (link_at p) (aims.Down p.entry) (up.EraSpent e.era) tr t k h
      go p _ tr t (Second (First (Err e))) k h = absurd h
      go p y tr t (Second (Second (First (Ok false)))) k h = tt
      go p unlink.Change tr t (Second (Second (First (Err f)))) k h = step_shows me p.me (link_at p) (aims.Change p.entry p.next) f tr t k h
      go p _ tr t (Second (Second (First (Err f)))) k h = absurd h
      go p y tr t (Second (Second (Second a))) k h = tt
      go p y tr t _ k h = k

  pub del_shows : (p : DelState) (t : Trail) (a : Answer) → (p.me ≡ me) × Shows me p.answer [] → plan_trail del_plan p t a → Shows me a t
  del_shows p t a = along_plan del_plan (λ p tr. (p.me ≡ me) × Shows me p.answer tr) (Shows me) (λ p tr t b k h. go p p.point tr t b k h) p t a
    where
      go : (p : DelState) (y : DelPoint) (tr t : Trail) (b : DelCallAnswer) → (p.me ≡ me) × Shows me p.answer tr → del_part.asks (del_call_at p y) t b
          → Outcome (del_turns p b) (((del_after p b).me ≡ me) × Shows me (del_after p b).answer (tr ++ t)) (λ a. Shows me a (tr ++ t))
      go p y tr t (First (At e b w)) k h = (k.0, shows_more me p.answer tr t k.1)
      go p del.Cut tr t (Second (First (Err f))) k h = (k.0, shows_later me (fault_answer (raised_fault f)) tr t (unlink_shows (unlinking p.me p.entry p.before p.word) t (Err f) k.0 h))
      go p _ tr t (Second (First (Err f))) k h = absurd h
      go p y tr t (Second (Second done)) k h = shows_more me p.answer tr t k.1
      go p y tr t _ k h = (k.0, tt)
