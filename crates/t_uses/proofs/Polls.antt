-- clients that are polled and given up, and recoveries that are polled
use Rattle.std.proofs.Common.{◌≡◌, ℕ, ◌+◌, ◌<◌, ◌≤◌, Option, Some, None, false, refl, ap, ◌∙◌, subst, arith}
use Rattle.std.specs.Prelude.{IfErr, IfOk, Result, Ok, Err, MatchOption}
use Rattle.shm_graph.specs.declared.{ask.Life.Life, memo.Status.TheVariants.Gone}
use Rattle.shm_agents.specs.TurnsLeft.{turns_given}
use Rattle.shm_pool.specs.{declared.token.Stopped.Stopped, Rescues.Rescuing, Tokens.{Its, Token, token_first}}
use Rattle.shm_script.specs.Values.{Scripted}
use Rattle.shm_team.specs.declared.done.Finish.{Finish}
use Rattle.shm_async.specs.{Cancelled.{HasCancelled, IsCancelled}, Finished.HasFinished}
use Rattle.shm_async.specs.Polled.{AtPost, Course, HasTurned, IsNew, IsPolled, WentOn}
use Rattle.shm_async.specs.Rescued.{HasPolled, HasRescued, HasStepped, IsOver, IsStarted, MayRescue, Rescue, answered_by, rescuing_first as started}
use Rattle.t_uses.specs.Polling.{IsCutAfter, IsGone}

-- ---- clients

-- the agents of the script s, in the pool p, to which n turns were given by polls of q
pub record IsPolling (p : Its) (s : Scripted) (q n : ℕ) (f : Course) : Type 0 where
  pub script : f.script ≡ s
  pub quota : f.quota ≡ q
  pub site : AtPost
  pub is : f.site ≡ Some site
  pub of : site.post.of ≡ p
  pub given : turns_given site.post.account ≡ n

-- before the first poll
pub polling_first : (p : Its) (t : Token) (s : Scripted) (q n : ℕ) (f : Course) → n ≡ 0 → t ≡ token_first p t.account.who → IsNew t s q f → IsPolling p s q n f
polling_first p t s q n f none first h =
    let zero : turns_given t.account ≡ 0 = ap (λ (x : Token). turns_given x.account) first in
    record {
      script = h.script;
      quota = h.quota;
      site = record { agents = h.agents; post = t };
      is = h.site;
      of = ap (λ (x : Token). x.of) first;
      given = omega arith;
    }

turned_on : (q : ℕ) (s : Scripted) (w : AtPost) (o b : Option AtPost) → o ≡ Some w → HasTurned q s o None b → (v : AtPost) × (b ≡ Some v) × WentOn w v × (turns_given v.post.account ≡ turns_given w.post.account + q)
turned_on q s w None b e h = absurd (cc)
turned_on q s w (Some u) b e (v, is, went, given, left) =
    let same : u ≡ w = cc in
    subst (λ (z : AtPost). (v : AtPost) × (b ≡ Some v) × WentOn z v × (turns_given v.post.account ≡ turns_given z.post.account + q)) same (v, is, went, given)

polling_then : (p : Its) (s : Scripted) (q n m : ℕ) (f g : Course) → m ≡ n + q → IsPolling p s q n f → IsPolled f None g → IsPolling p s q m g
polling_then p s q n m f g more h t =
    let (v, is, went, given) = turned_on f.quota f.script h.site f.site g.site h.is t.turned in
    let was = h.given in
    let quota = h.quota in
    record {
      script = t.script ∙ h.script;
      quota = t.quota ∙ h.quota;
      site = v;
      is = is;
      of = went.of ∙ h.of;
      given = omega arith;
    }

-- behind a poll that is pending
pub polling_on : (p : Its) (s : Scripted) (q n m : ℕ) (f : Course) (r : Option Finish) (g : Course) → m ≡ n + q → IsPolling p s q n f → IsPolled f r g → ((x : Finish) → r ≡ Some x → ⊥) → IsPolling p s q m g
polling_on p s q n m f None g more h t pending = polling_then p s q n m f g more h t
polling_on p s q n m f (Some x) g more h t pending = absurd (pending x refl)

finished_on : (q : ℕ) (s : Scripted) (w : AtPost) (o b : Option AtPost) (x : Finish) → o ≡ Some w → HasTurned q s o (Some x) b → HasFinished w.post.of s x
finished_on q s w None b x e h = absurd (cc)
finished_on q s w (Some u) b x e h = let same : u ≡ w = cc in subst (λ (z : AtPost). HasFinished z.post.of s x) same h.1

-- where a poll is ready
pub polling_done : (p : Its) (s : Scripted) (q n : ℕ) (f g : Course) (x : Finish) → IsPolling p s q n f → IsPolled f (Some x) g → HasFinished p s x
polling_done p s q n f g x h t =
    subst (λ (r : Scripted). HasFinished p r x) h.script
    (subst (λ (z : Its). HasFinished z f.script x) h.of (finished_on f.quota f.script h.site f.site g.site x h.is t.turned))

-- where they are given up: none of them had ended
cancelled_on : (s : Scripted) (w : AtPost) (o : Option AtPost) (x : Finish) → o ≡ Some w → IsCancelled s o (Some x) → HasCancelled w.post.of s w.post.account x
cancelled_on s w None x e h = absurd (cc)
cancelled_on s w (Some u) x e (y, is, h) =
    let same : u ≡ w = cc in
    let this : y ≡ x = cc in
    subst (λ (z : AtPost). HasCancelled z.post.of s z.post.account x) same (subst (λ (z : Finish). HasCancelled u.post.of s u.post.account z) this h)

pub polling_cut : (p : Its) (s : Scripted) (q n m : ℕ) (f : Course) (x : Finish) → n ≡ m → IsPolling p s q n f → IsCancelled f.script f.site (Some x) → IsCutAfter p s m x
polling_cut p s q n m f x same h c =
    record {
      account = h.site.post.account;
      given = h.given ∙ same;
      cut = subst (λ (r : Scripted). HasCancelled p r h.site.post.account x) h.script
          (subst (λ (z : Its). HasCancelled z f.script h.site.post.account x) h.of (cancelled_on f.script h.site f.site x h.is c));
    }

-- ---- recoveries

-- the identity c of the pool p is recovered by polls
pub record IsRescuing (p : Its) (c : ℕ) (f : Rescue) : Type 0 where
  pub some : 1 ≤ f.quota
  pub rescuer : Rescuing
  pub is : f.rescuer ≡ Some rescuer
  pub of : rescuer.of ≡ p
  pub who : rescuer.seat.who ≡ c

-- before the first poll
pub rescuing_first : (p : Its) (t : Token) (q n : ℕ) (f : Rescue) → 1 ≤ q → t.of ≡ p → IsStarted t q n f → IsRescuing p t.account.who f
rescuing_first p t q n f some of h =
    let quota = h.quota in
    record {
      some = omega arith;
      rescuer = started t;
      is = h.rescuer;
      of = of;
      who = refl;
    }

stepped_on : (q : ℕ) (u : Rescuing) (o b : Option Rescuing) (before left : Life) → o ≡ Some u → HasPolled q o before None b left → (v : Rescuing) × (b ≡ Some v) × HasStepped false q u v before left
stepped_on q u None b before left e h = absurd (cc)
stepped_on q u (Some r) b before left e h = let same : r ≡ u = cc in subst (λ (z : Rescuing). (v : Rescuing) × (b ≡ Some v) × HasStepped false q z v before left) same h

rescuing_then : (p : Its) (c : ℕ) (f g : Rescue) → IsRescuing p c f → HasRescued f None g → IsRescuing p c g × (g.life.left < f.life.left)
rescuing_then p c f g h t =
    let (v, is, stepped) = stepped_on f.quota h.rescuer f.rescuer g.rescuer f.life g.life h.is t.polled in
    let some = h.some in
    let quota = t.quota in
    let life = stepped.life in (
      record {
        some = omega arith;
        rescuer = v;
        is = is;
        of = stepped.of ∙ h.of;
        who = stepped.who ∙ h.who;
      },
      omega arith,
    )

-- behind a poll that is pending
pub rescuing_on : (p : Its) (c : ℕ) (f : Rescue) (r : Option (Result Token Stopped)) (g : Rescue) → IsRescuing p c f → HasRescued f r g → ((x : Result Token Stopped) → r ≡ Some x → ⊥) → IsRescuing p c g × (g.life.left < f.life.left)
rescuing_on p c f None g h t pending = rescuing_then p c f g h t
rescuing_on p c f (Some x) g h t pending = absurd (pending x refl)

-- what a recovery gives
pub record HasGivenBack (p : Its) (c : ℕ) (r : Result Token Stopped) : Type 0 where
  pub gone : IfOk r (IsGone p)
  pub same : IfOk r (λ t. t.account.who ≡ c)
  pub stopped : IfErr r (λ s. (s.corpse.of ≡ p) × (s.corpse.account.who ≡ c))

given_back : (p : Its) (c q n : ℕ) (u v : Rescuing) (before left : Life) (r : Result Token Stopped) → u.of ≡ p → u.seat.who ≡ c → HasStepped (answered_by r) n u v before left → IsOver q n v left r → HasGivenBack p c r
given_back p c q n u v before left (Ok t) of who h o =
    record {
      gone = (ap (λ (x : Token). x.of) o.1 ∙ (h.of ∙ of), o.2);
      same = ap (λ (x : Token). x.account.who) o.1 ∙ (h.who ∙ who);
      stopped = tt;
    }
given_back p c q n u v before left (Err s) of who h o =
    record {
      gone = tt;
      same = tt;
      stopped = (ap (λ (x : Token). x.of) o.0 ∙ (h.of ∙ of), ap (λ (x : Token). x.account.who) o.0 ∙ (h.who ∙ who));
    }

over_on : (p : Its) (c q : ℕ) (u : Rescuing) (o b : Option Rescuing) (before left : Life) (r : Result Token Stopped) → u.of ≡ p → u.seat.who ≡ c → o ≡ Some u → HasPolled q o before (Some r) b left → HasGivenBack p c r
over_on p c q u None b before left r of who e h = absurd (cc)
over_on p c q u (Some z) b before left r of who e (none, (n, v, stepped, over)) =
    let same : z ≡ u = cc in
    given_back p c q n u v before left r of who (subst (λ (y : Rescuing). HasStepped (answered_by r) n y v before left) same stepped) over

-- where a poll is ready
pub rescuing_over : (p : Its) (c : ℕ) (f g : Rescue) (r : Result Token Stopped) → IsRescuing p c f → HasRescued f (Some r) g → HasGivenBack p c r
rescuing_over p c f g r h t = over_on p c f.quota h.rescuer f.rescuer g.rescuer f.life g.life r h.of h.who h.is t.polled

gives_on : (p : Its) (u : Rescuing) (o : Option Rescuing) (r : Result Token Stopped) → o ≡ Some u → u.of ≡ p → MatchOption o ⊥ (λ z. IfOk r (λ t. (t.of ≡ z.of) × (t.account.memo.status ≡ Gone))) → IfOk r (IsGone p)
gives_on p u None r e of h = absurd h
gives_on p u (Some z) (Ok t) e of h = let same : z ≡ u = cc in (h.0 ∙ (ap (λ (y : Rescuing). y.of) same ∙ of), h.1)
gives_on p u (Some z) (Err s) e of h = tt

-- what an executor has of it
pub started_gives : {E : Type 0} (p : Its) (t : Token) (q n : ℕ) (f : Rescue) (x : Result (Result Token Stopped) E) → t.of ≡ p → IsStarted t q n f → IfOk x (MayRescue f) → IfOk x (λ r. IfOk r (IsGone p))
started_gives p t q n f (Ok r) of h g = gives_on p (started t) f.rescuer r h.rescuer of g
started_gives p t q n f (Err e) of h g = tt
