-- a call of a client over the operation that it runs: made by one plan for the identity of the client, or, of a client that has died, none
use Rattle.std.proofs.Common.{◌≡◌, ◌≢◌, ◌+◌, ◌<◌, ◌≤◌, ℕ, true, false, List, refl, sym, ap, ◌∙◌, subst, arith}
use Rattle.std.proofs.lemmas.Bool.{true≢false}
use mathlib.Core.Logic.{dite}
use native.Mathlib.Decide.{ℕ_discrete}
use Rattle.shm_words.specs.Layout.{address_limit, total_of}
use Rattle.shm_words.proofs.Placing.{total_small}
use Rattle.shm_graph.specs.{declared.{ask.Me.Me, memo.Memo.Memo}, Asks.Trail, Events.Event, Laws.Control}
use Rattle.shm_graph.specs.{Operations.IsReady, Reach.is_reached, Runs.Stood}
use Rattle.plans.specs.{declared.calls.Calls.Calls, CallsControl.{calls_control, calls_does, calls_of}, Plans.Planned}
use Rattle.plans.specs.Tasks.{CallsLeave}
use Rattle.shm_ref.specs.Proved.ReadParts.{reached_room}
use Rattle.shm_pool.specs.{declared.reply.Reply.{Reply, TheVariants.{Died, Done}}, Called.{HasCalled, IsAlive, Rests}}
use Rattle.shm_pool.specs.{Calls.IsBetween, Doing.HasDone, Replies.IfReply, Tokens.{Acting, me_of}}
use Rattle.shm_pool.proofs.{Calling.live_here, Replied.ready}

-- a client of which a call has died does nothing
pub done_dead : {M A : Type 0} (k : Control M A) (does : M → ℕ → Event) (leaves : M → Memo → Memo → Trail → List Event → A → Type 0) (ends : M → A → Type 0) (m : M) (t : Acting) (left : ℕ) → Stood t.of.start t.account → t.dead ≡ true → HasDone k does leaves ends m t t left left Died
done_dead k does leaves ends m t left stood dead =
    record {
      same = (refl, refl);
      stood = stood;
      died = ((λ _. dead), λ _. tt);
      again = λ _. (tt, refl, refl);
      spent = λ alive. absurd (true≢false (sym dead ∙ alive));
      call = λ alive. absurd (true≢false (sym dead ∙ alive));
      events = λ alive. absurd (true≢false (sym dead ∙ alive));
      asked = λ alive. absurd (true≢false (sym dead ∙ alive));
      told = tt;
      left_so = tt;
      between = tt;
    }

-- a call of which each answer rests
pub done_rests : {M A : Type 0} (k : Control M A) (does : M → ℕ → Event) (leaves : M → Memo → Memo → Trail → List Event → A → Type 0) (ends : M → A → Type 0) → ((m : M) (a : A) → ends m a) → (m : M) (t t' : Acting) (before left : ℕ) (o : Reply A) → HasDone k does leaves ends m t t' before left o → HasDone k does leaves (λ x a. Unit {0}) m t t' before left o
done_rests {A = A} k does leaves ends all m t t' before left o h =
    record {
      same = h.same;
      stood = h.stood;
      died = h.died;
      again = h.again;
      spent = h.spent;
      call = h.call;
      events = h.events;
      asked = h.asked;
      told = h.told;
      left_so = h.left_so;
      between = by o h.between;
    }
  where
    by : (o : Reply A) → IfReply o (λ a. ends m a → IsBetween t'.account) → IfReply o (λ a. Unit {0} → IsBetween t'.account)
    by Died b = tt
    by (Done a) b = λ _. b (all m a)

-- where each answer rests, so does the client
pub rests_by : {M A : Type 0} (k : Control M A) (does : M → ℕ → Event) (leaves : M → Memo → Memo → Trail → List Event → A → Type 0) (m : M) (t t' : Acting) (before left : ℕ) (o : Reply A) → HasDone k does leaves (λ x a. Unit {0}) m t t' before left o → Rests t'
rests_by k does leaves m t t' before left Died h = let dead = h.died.0 tt in record { between = λ alive. absurd (true≢false (sym dead ∙ alive)); here = λ alive. absurd (true≢false (sym dead ∙ alive)) }
rests_by k does leaves m t t' before left (Done a) h = let b = h.between tt in record { between = λ alive. b; here = λ alive. live_here t'.account.memo b.idle.live }

-- nor does a call of it
pub called_dead : {P C B A : Type 0} (k : Control C B) (q : Planned P C B A) (p : P) (t : Acting) (left : ℕ) → Stood t.of.start t.account → t.dead ≡ true → HasCalled k q p t t left left Died
called_dead k q p t left stood dead =
    let d = done_dead (calls_control k q.steered) (calls_does k q) (CallsLeave q) (λ m a. Unit {0}) (calls_of q.steered p) t left stood dead in
    record { done = d; rests = rests_by (calls_control k q.steered) (calls_does k q) (CallsLeave q) (calls_of q.steered p) t t left left Died d; effect = refl }

-- a block in reach of a client that lives lies in the pool, and has an address
module _ (t : Acting) (me : Me) (stood : Stood t.of.start t.account) (between : t.dead ≡ false → IsBetween t.account) (x : IsAlive t me) (b : ℕ) (reach : t.dead ≡ false → is_reached t.account.who t.account.memo b ≡ true) where
  is_ready : IsReady (me_of t.of t.account) t.account.memo
  is_ready = ready t.of t.account stood (between x.alive).idle (me_of t.of t.account) refl

  inside : b + 2 ≤ total_of (me_of t.of t.account).geometry
  inside = reached_room (me_of t.of t.account) b t.account.memo is_ready.who is_ready.held (reach x.alive)

  pub reach_room : b + 2 ≤ total_of me.geometry
  reach_room = subst (λ (z : Me). b + 2 ≤ total_of z.geometry) (sym x.is) inside

  pub reach_small : b < address_limit
  reach_small = let most = total_small me.geometry x.fits in let room = reach_room in omega arith

-- a client that ran the machine of a plan
pub called_by : {P C B A : Type 0} (k : Control C B) (q : Planned P C B A) (ends : Calls P C → A → Type 0) → ((m : Calls P C) (a : A) → ends m a) → (p : P) (m : Calls P C) (t t' : Acting) (before left : ℕ) (o : Reply A) → m ≡ calls_of q.steered p → HasDone (calls_control k q.steered) (calls_does k q) (CallsLeave q) ends m t t' before left o → t'.effect ≡ t.effect → HasCalled k q p t t' before left o
called_by k q ends all p m t t' before left o is done same =
    let d = done_rests (calls_control k q.steered) (calls_does k q) (CallsLeave q) ends all (calls_of q.steered p) t t' before left o (subst (λ x. HasDone (calls_control k q.steered) (calls_does k q) (CallsLeave q) ends x t t' before left o) is done) in
    record { done = d; rests = rests_by (calls_control k q.steered) (calls_does k q) (CallsLeave q) (calls_of q.steered p) t t' before left o d; effect = same }

-- a plan that was made for a client that lives may begin where one made for its identity may, and what a call of it left is what one of that leaves
pub may_as : {P : Type 0} (may : P → Memo → Type 0) (make : Me → P) {t : Acting} {me : Me} {p : P} → IsAlive t me → p ≡ make me → may (make (me_of t.of t.account)) t.account.memo → may p t.account.memo
may_as may make {t = t} x made h = subst (λ z. may z t.account.memo) (sym (made ∙ ap make x.is)) h

pub called_as : {P C B A : Type 0} (k : Control C B) (q : Planned P C B A) (make : Me → P) {t t' : Acting} {me : Me} {p : P} {before left : ℕ} {o : Reply A} → IsAlive t me → p ≡ make me → HasCalled k q p t t' before left o → HasCalled k q (make (me_of t.of t.account)) t t' before left o
called_as k q make {t = t} {t' = t'} {before = before} {left = left} {o = o} x made h = subst (λ z. HasCalled k q z t t' before left o) (made ∙ ap make x.is) h

-- a block that is to be named, or none
pub target_small : (t : Acting) (me : Me) → Stood t.of.start t.account → (t.dead ≡ false → IsBetween t.account) → IsAlive t me → (b : ℕ) → (t.dead ≡ false → b ≢ 0 → is_reached t.account.who t.account.memo b ≡ true) → b < address_limit
target_small t me stood between x b reach =
    dite (ℕ_discrete b 0) (λ e. let none : b ≡ 0 = e in omega arith) (λ some. reach_small t me stood between x b (λ alive. reach alive some))
