-- agents that are polled under a limit, until they are cut
use Rattle.std.proofs.Common.{◌≡◌, ℕ, zero, suc, ◌+◌, ◌*◌, ◌-◌, ◌^◌, ◌<◌, ◌≤◌, Bool, true, false, cond, zero-add, inl, refl, sym, ap, ◌∙◌, subst, arith}
use Rattle.std.specs.Prelude.{Option, Some, None}
use Rattle.shm_graph.specs.{declared.{ask.Life.Life, run.Account.Account}, Agents.acts, Held.is_loose}
use Rattle.shm_graph.specs.Runs.{account_died, first_account}
use Rattle.shm_replay.proofs.Starting.{script_client}
use Rattle.shm_script.specs.{Logged.Logged, Values.{Scripted, Traced}}
use Rattle.shm_agents.specs.{Agents.IsFold, Cuts.account_cut, Turns.script_in, TurnsLeft.turns_given}
use Rattle.shm_pool.specs.Tokens.{Its, Token}
use Rattle.shm_team.specs.declared.{done.{Done.Done, Finish.Finish}, left.Left.TheVariants.{Vacant, Corpse}}
use Rattle.shm_team.specs.{Dones.IsDone, Lefts.account_in}
use Rattle.shm_async.specs.Cancelled.{HasCancelled, IsCancelled, IsCutLog}
use Rattle.shm_async.specs.LimitedMembers.{HasRoom, IsDue, IsLimitedDone, IsMending, IsPending, IsSpent, LimitedBy, WasCut}
use Rattle.shm_async.specs.{Members.MemberAtWork, Polled.{AtPost, Course, HasTurned, IsNew, IsPolled}}
use Rattle.shm_async.specs.Rescued.{HasStepped, IsStarted, Rescue, rescuing_first}
use Rattle.shm_async.proofs.{Gathering.{given_done, some_of}, Giving.may_give, Recovering.none_stepped}

some_none : (a : Finish) → ◌≡◌ {A = Option Finish} (Some a) None → ⊥
some_none a e = cc

same_some : (a b : Finish) → ◌≡◌ {A = Option Finish} (Some a) (Some b) → a ≡ b
same_some a b e = cc

-- ---- an identity that isn't cut

-- what is done of it is within the limit
pub done_within : (t : Traced) (p : Its) (c turns : ℕ) (d : Done) → IsDone t p c d → turns_given (account_in d.left) ≤ turns → IsLimitedDone t p c turns d
done_within t p c turns d h few =
    record {
      left = h.left;
      who = h.who;
      script = script_in t.scripts c;
      limited = within (script_in t.scripts c);
      by = h.by;
    }
  where
    within : (o : Option Scripted) → LimitedBy turns (account_in d.left) o o
    within None = refl
    within (Some s) = inl (refl, few)

-- nobody has joined it, and it has no script
pub none_within : (t : Traced) (p : Its) (c turns : ℕ) (d : Done) → IsDone t p c d → script_in t.scripts c ≡ None → IsLimitedDone t p c turns d
none_within t p c turns d h none =
    record {
      left = h.left;
      who = h.who;
      script = script_in t.scripts c;
      limited = subst (λ (o : Option Scripted). LimitedBy turns (account_in d.left) o (script_in t.scripts c)) (sym none) none;
      by = h.by;
    }

-- ---- polls

none_yet : (given all turns : ℕ) → given ≡ 0 → all ≡ turns → given + all ≡ turns
none_yet given all turns none same = ap (λ (n : ℕ). n + all) none ∙ (zero-add all ∙ same)

-- the first of so many polls, and the others
split_polls : (given q n turns : ℕ) → 0 < n → given + q * n ≡ turns → given + (q + q * (n - 1)) ≡ turns
split_polls given q zero turns some all = absurd (omega arith)
split_polls given q (suc n) turns some all = ap (λ (k : ℕ). given + k) (mul-by-suc q n) ∙ all
  where
    mul-by-suc : (a b : ℕ) → a + a * (suc b - 1) ≡ a * suc b
    mul-by-suc a b = let one : suc b - 1 ≡ b = omega arith in ap (λ (k : ℕ). a + a * k) one ∙ (let same : a + a * b ≡ a * suc b = omega arith in same)

-- before the first of them
pub new_due : (t : Traced) (p : Its) (c : ℕ) (k : Token) (s : Scripted) (q limit : ℕ) (f : Course) → IsNew k s q f → script_in t.scripts c ≡ Some s → k.of ≡ p → k.account ≡ first_account p.start c → 1 ≤ q → 0 < limit → HasRoom p (q * limit) → IsDue t p c (q * limit) limit f
new_due t p c k s q limit f n is of first quota some room =
    record {
      work = record { script = is ∙ some_of s f.script (sym n.script); site = record { agents = n.agents; post = k }; is = n.site; of = of };
      quota = subst (λ (z : ℕ). 1 ≤ z) (sym n.quota) quota;
      some = some;
      due = none_yet (turns_given k.account) (f.quota * limit) (q * limit) (ap turns_given first) (ap (λ (z : ℕ). z * limit) n.quota);
      room = room;
    }

-- so many turns were given, another poll's are q, and those of further polls are `rest`
poll_on : (given q rest after rest' turns : ℕ) → given + (q + rest) ≡ turns → after ≡ given + q → rest' ≡ rest → after + rest' ≡ turns
poll_on given q rest after rest' turns all one same = omega arith

poll_last : (given q rest after turns : ℕ) → given + (q + rest) ≡ turns → after ≡ given + q → rest ≡ 0 → after ≡ turns
poll_last given q rest after turns all one none = omega arith

poll_few : (given q rest after n turns : ℕ) → given + (q + rest) ≡ turns → after ≡ given + n → n ≤ q → after ≤ turns
poll_few given q rest after n turns all one few = omega arith

by_none : (q : ℕ) → q * 0 ≡ 0
by_none q = omega arith

some_more : (n : ℕ) → 1 < n → 0 < n - 1
some_more n more = omega arith

none_more : (n : ℕ) → n ≤ 1 → n - 1 ≡ 0
none_more n few = omega arith

not_none : (n turns : ℕ) → n ≡ 0 → n ≡ turns → 0 < turns → ⊥
not_none n turns none all some = omega arith

some_quota : (n q : ℕ) → n ≡ q → 1 ≤ q → 1 ≤ n
some_quota n q same some = omega arith

turns_some : (given q rest turns : ℕ) → given + (q + rest) ≡ turns → 1 ≤ q → 0 < turns
turns_some given q rest turns all some = omega arith

-- the agents after a poll that is pending
pending_given : (q : ℕ) (s : Scripted) (o b : Option AtPost) (w : AtPost) → o ≡ Some w → HasTurned q s o None b → (v : AtPost) × (b ≡ Some v) × (v.post.of ≡ w.post.of) × (turns_given v.post.account ≡ turns_given w.post.account + q)
pending_given q s o b w at h = let (v, is, went, given, less) = subst (λ (x : Option AtPost). HasTurned q s x None b) at h in (v, is, went.of, given)

module _ (t : Traced) (p : Its) (c turns left : ℕ) (f g : Course) (h : IsDue t p c turns left f) where
  abbrev w : AtPost
  w = h.work.site

  -- one poll's turns and those of the others
  one_poll : turns_given w.post.account + (f.quota + f.quota * (left - 1)) ≡ turns
  one_poll = split_polls (turns_given w.post.account) f.quota left turns h.some h.due

  module _ (polled : IsPolled f None g) where
    abbrev site : (v : AtPost) × (g.site ≡ Some v) × (v.post.of ≡ w.post.of) × (turns_given v.post.account ≡ turns_given w.post.account + f.quota)
    site = pending_given f.quota f.script f.site g.site w h.work.is polled.turned

    abbrev work : MemberAtWork t p c g
    work =
        let (v, is, of, given) = site in
        record { script = h.work.script ∙ some_of f.script g.script (sym polled.script); site = v; is = is; of = of ∙ h.work.of }

    due_on : 1 < left → IsDue t p c turns (left - 1) g
    due_on more =
        record {
          work = work;
          quota = subst (λ (z : ℕ). 1 ≤ z) (sym polled.quota) h.quota;
          some = some_more left more;
          due =
              let (v, is, of, given) = site in
              poll_on (turns_given w.post.account) f.quota (f.quota * (left - 1)) (turns_given v.post.account) (g.quota * (left - 1)) turns one_poll given (ap (λ (q : ℕ). q * (left - 1)) polled.quota);
          room = h.room;
        }

    due_spent : left ≤ 1 → IsSpent t p c turns g
    due_spent few =
        let (v, is, of, given) = site in
        let none : left - 1 ≡ 0 = none_more left few in
        record {
          work = work;
          all = poll_last (turns_given w.post.account) f.quota (f.quota * (left - 1)) (turns_given v.post.account) turns one_poll given (ap (λ (n : ℕ). f.quota * n) none ∙ by_none f.quota);
          some = turns_some (turns_given w.post.account) f.quota (f.quota * (left - 1)) turns one_poll h.quota;
          room = h.room;
        }

    pub due_pending : IsPending t p c turns left g
    due_pending = record { due = due_on; spent = due_spent }

  pub due_done : (x : Finish) → IsPolled f (Some x) g → IsLimitedDone t p c turns (record { log = Some x.log; left = x.token })
  due_done x polled =
      let (n, some, few, given) = ready_given f.quota f.script f.site g.site w x h.work.is polled.turned in
      done_within t p c turns (record { log = Some x.log; left = x.token }) (given_done t p c f x h.work (may_give f g x polled))
      (poll_few (turns_given w.post.account) f.quota (f.quota * (left - 1)) (turns_given (account_in x.token)) n turns one_poll given few)
    where
      ready_given : (q : ℕ) (s : Scripted) (o b : Option AtPost) (v : AtPost) (y : Finish) → o ≡ Some v → HasTurned q s o (Some y) b → (n : ℕ) × (0 < n) × (n ≤ q) × (turns_given (account_in y.token) ≡ turns_given v.post.account + n)
      ready_given q s o b v y at turned = (subst (λ (z : Option AtPost). HasTurned q s z (Some y) b) at turned).2

-- ---- the cut

module _ (t : Traced) (p : Its) (c turns : ℕ) (f : Course) (h : IsSpent t p c turns f) where
  abbrev its : AtPost
  its = h.work.site

  -- what is given where they are cancelled
  pub cancel_gives : (r : Option Finish) → IsCancelled f.script f.site r → (x : Finish) × (r ≡ Some x) × HasCancelled its.post.of f.script its.post.account x
  cancel_gives r x = subst (λ (o : Option AtPost). IsCancelled f.script o r) h.work.is x

  pub cancel_some : (r : Option Finish) → IsCancelled f.script f.site r → r ≡ None → ⊥
  cancel_some r x none = let (y, is, cancelled) = cancel_gives r x in some_none y (sym is ∙ none)

  pub cancel_is : (r : Option Finish) (x : Finish) → IsCancelled f.script f.site r → r ≡ Some x → HasCancelled its.post.of f.script its.post.account x
  cancel_is r x cancelled is =
      let (y, at, z) = cancel_gives r cancelled in
      let same : y ≡ x = same_some y x (sym at ∙ is) in
      subst (HasCancelled its.post.of f.script its.post.account) same z

  -- one of them had made a word step
  pub never_vacant : (l : Logged) (k : Token) → HasCancelled its.post.of f.script its.post.account (record { log = l; token = Vacant k }) → ⊥
  never_vacant l k x = not_none (turns_given its.post.account) turns x.log.0 h.all h.some

  pub was_cut : (l : Logged) (k : Token) → HasCancelled its.post.of f.script its.post.account (record { log = l; token = Corpse k }) → WasCut t p c turns l k
  was_cut l k x =
      let account : account_died k.account ≡ account_cut its.post.account = x.account in
      let whose : its.post.account.who ≡ c = x.who ∙ script_client t.scripts c f.script h.work.script in
      let log : IsCutLog p f.script turns (account_died k.account) l =
      subst (λ (q : Its). IsCutLog q f.script turns (account_died k.account) l) h.work.of
      (subst (λ (n : ℕ). IsCutLog its.post.of f.script n (account_died k.account) l) h.all
      (subst (λ (e : Account). IsCutLog its.post.of f.script (turns_given its.post.account) e l) (sym account) x.log)) in
      record {
        script = f.script;
        is = h.work.script;
        of = x.token.0 ∙ h.work.of;
        acts = x.token.1;
        who = ap (λ (e : Account). e.who) account ∙ (cut_who its.post.account ∙ whose);
        log = log;
        unspent = x.unspent;
        fold = subst (λ (e : Account). IsFold l.entries e.memo) (sym account) x.fold;
        table = ap (λ (e : Account). is_loose e.memo.part) account ∙ x.table;
      }
    where
      cut_who : (e : Account) → (account_cut e).who ≡ e.who
      cut_who e = go (acts e.memo)
        where
          go : (b : Bool) → (cond b (account_died e) e).who ≡ e.who
          go true = refl
          go false = refl

  -- its recovery begins
  pub mending_first : (q : ℕ) (l : Logged) (k : Token) (r : Rescue) → 1 ≤ q → HasCancelled its.post.of f.script its.post.account (record { log = l; token = Corpse k }) → IsStarted k q (2 ^ 40) r → IsMending t p c turns (record { log = l; recovery = r })
  mending_first q l k r some x started =
      let life : r.life ≡ record { left = 2 ^ 40 } = (λ i. record { left = started.life i }) in
      record {
        corpse = k;
        cut = was_cut l k x;
        rescuer = rescuing_first k;
        is = started.rescuer;
        quota = some_quota r.quota q started.quota some;
        steps = 0;
        stepped = subst (λ (z : Life). HasStepped false 0 (rescuing_first k) (rescuing_first k) (record { left = 2 ^ 40 }) z) (sym life) (none_stepped (rescuing_first k) (record { left = 2 ^ 40 }));
        room = h.room;
      }
