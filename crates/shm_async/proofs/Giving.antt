-- turns that are given to the agents at a post
use Rattle.std.proofs.Common.{◌≡◌, ◌≢◌, ℕ, zero, suc, ◌+◌, ◌<◌, ◌≤◌, Option, Some, None, refl, sym, ap, ◌∙◌, subst, arith}
use Rattle.std.specs.Prelude.{MatchOption}
use Rattle.shm_graph.specs.declared.ask.Me.{Me}
use Rattle.shm_agents.specs.{declared.agents.Standing.TheVariants.AtWork, Agents.{Playing, AgentsStand}}
use Rattle.shm_agents.specs.TurnsLeft.{turns_by, turns_given}
use Rattle.shm_pool.specs.{Posts.IsPosted, Tokens.{Its, Token}}
use Rattle.shm_script.specs.Values.{Scripted}
use Rattle.shm_team.specs.{declared.done.Finish.Finish, Lefts.account_in}
use Rattle.shm_async.specs.Finished.{HasFinished}
use Rattle.shm_async.specs.Polled.{AtPost, Course, HasGiven, HasTurned, IsPolled, MayGive, StandAt, WentOn, course_of}

-- agents at their post
abbrev pub at : Playing → Token → AtPost
at x t = record { agents = x; post = t }

-- the agents w of the script after n turns are v
pub record AreGiven (s : Scripted) (w v : AtPost) (n : ℕ) : Type 0 where
  pub went : WentOn w v
  pub stand : StandAt s v
  pub given : turns_given v.post.account ≡ turns_given w.post.account + n
  pub left : turns_by v.agents (Some s) + n ≤ turns_by w.agents (Some s)

pub none_given : (s : Scripted) (w : AtPost) → StandAt s w → AreGiven s w w 0
none_given s w h = record { went = record { of = refl; who = refl; me = refl }; stand = h; given = omega arith; left = omega arith }

-- what a turn says of the pool, whether it was a word step or a death
by_life : (left : ℕ) (P : Type 0) → (0 < left → (k : ℕ) × P) → (left ≡ 0 → P) → P
by_life zero P stepped fell = fell refl
by_life (suc n) P stepped fell = (stepped (omega arith)).1

-- one turn more
pub one_given : (s : Scripted) (w v u : AtPost) (n : ℕ) → AreGiven s w v n → (0 < v.agents.life.left → (k : ℕ) × (u.post.of ≡ v.post.of)) → (v.agents.life.left ≡ 0 → u.post.of ≡ v.post.of) → IsPosted u.post v.agents.me.who → u.agents.me ≡ v.agents.me → AgentsStand u.post.of.start s u.agents u.post.account → turns_given u.post.account ≡ turns_given v.post.account + 1 → turns_by u.agents (Some s) < turns_by v.agents (Some s) → AreGiven s w u (n + 1)
one_given s w v u n h stepped fell posted me stands given less =
    record {
      went = record {
        of = by_life v.agents.life.left (u.post.of ≡ v.post.of) stepped fell ∙ h.went.of;
        who = posted.named ∙ (sym h.stand.posted.named ∙ h.went.who);
        me = me ∙ h.went.me;
      };
      stand = record { posted = subst (λ (m : Me). IsPosted u.post m.who) (sym me) posted; stands = stands };
      given = (let z = h.given in omega arith);
      left = (let z = h.left in omega arith);
    }

-- none of them is left
pub given_rest : (q n : ℕ) (s : Scripted) (w v : AtPost) → AreGiven s w v n → n ≤ q → (n ≡ 0 → v.agents.standing ≡ AtWork) → v.agents.standing ≢ AtWork → HasGiven q s w v
given_rest q zero s w v h few first rest = absurd (rest (first refl))
given_rest q (suc n) s w v h few first rest =
    record {
      went = h.went;
      stand = h.stand;
      turns = suc n;
      some = omega arith;
      few = few;
      all = λ here. absurd (rest here);
      given = h.given;
      less = (let z = h.left in omega arith);
    }

-- all of them were given
pub given_all : (q n : ℕ) (s : Scripted) (w v : AtPost) → AreGiven s w v n → 1 ≤ q → n ≡ q → HasGiven q s w v
given_all q n s w v h some is =
    record {
      went = h.went;
      stand = h.stand;
      turns = n;
      some = omega arith;
      few = omega arith;
      all = λ here. is;
      given = h.given;
      less = (let z = h.left in omega arith);
    }

-- and the poll is ready
pub ready : (q : ℕ) (s : Scripted) (w v : AtPost) (b : Option AtPost) (x : Finish) → HasGiven q s w v → HasFinished v.post.of s x → account_in x.token ≡ v.post.account → b ≡ None → IsPolled (course_of s q (Some w)) (Some x) (course_of s q b)
ready q s w v b x h finished account none =
    record {
      script = refl;
      quota = refl;
      turned = (none, subst (λ (p : Its). HasFinished p s x) h.went.of finished, (h.turns, h.some, h.few, ap turns_given account ∙ h.given));
    }

-- ---- what a future may give

given_on : (q : ℕ) (s : Scripted) (o b : Option AtPost) (x : Finish) → HasTurned q s o (Some x) b → MatchOption o ⊥ (λ w. HasFinished w.post.of s x)
given_on q s None b x h = absurd (let z : Some x ≡ None = h.0 in cc)
given_on q s (Some w) b x h = h.1

-- it gave that
pub may_give : (f g : Course) (x : Finish) → IsPolled f (Some x) g → MayGive f x
may_give f g x h = given_on f.quota f.script f.site g.site x h.turned

still_on : (q : ℕ) (s s2 : Scripted) (o b : Option AtPost) (x : Finish) → s2 ≡ s → HasTurned q s o None b → MatchOption b ⊥ (λ w. HasFinished w.post.of s2 x) → MatchOption o ⊥ (λ w. HasFinished w.post.of s x)
still_on q s s2 None b x same h g = subst (λ (c : Option AtPost). MatchOption c ⊥ (λ w. HasFinished w.post.of s2 x)) h.1 g
still_on q s s2 (Some w) b x same (v, is, went, given, left) g =
    let at : HasFinished v.post.of s2 x = subst (λ (c : Option AtPost). MatchOption c ⊥ (λ w. HasFinished w.post.of s2 x)) is g in
    subst (λ (r : Scripted). HasFinished w.post.of r x) same (subst (λ (p : Its). HasFinished p s2 x) went.of at)

-- while it is pending nothing more is given
pub may_still : (f g : Course) (x : Finish) → IsPolled f None g → MayGive g x → MayGive f x
may_still f g x h = still_on f.quota f.script g.script f.site g.site x h.script h.turned
