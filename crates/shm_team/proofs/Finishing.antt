-- what is given where none of the agents of a script has anything left to do
use Rattle.std.proofs.Common.{◌≡◌, ◌≢◌, Bool, true, false, List, [], inl, inr, refl, sym, ap, ◌∙◌, subst}
use Rattle.std.specs.Prelude.{slice_index}
use Rattle.shm_graph.specs.{declared.{ask.Me.Me, run.Account.Account}, Agents.{acts, last_agent}, Held.is_loose}
use Rattle.shm_graph.specs.Runs.{fell_by, first_account, told_left}
use Rattle.shm_count.specs.Roots.{member}
use Rattle.shm_script.specs.{Logged.Logged, declared.log.Entry.Entry, Values.Scripted}
use Rattle.shm_agents.specs.declared.agents.Standing.{Standing, TheVariants.{AtWork, Dead, Gone}}
use Rattle.shm_agents.specs.Agents.{IsFold, Playing, AgentsStand, is_standing_dead, logged}
use Rattle.shm_agents.specs.{Courses.{AreCommandsTold, AreScriptAgents}, Logs.{AreUnspent, IsLogOf}, Taken.HasTaken}
use Rattle.shm_agents.specs.Turns.{lives_of}
use Rattle.shm_agents.proofs.Over.{IsOver, is_over, over_fell, over_fold, over_gone, over_log, over_table, over_unspent}
use Rattle.shm_agents.proofs.Rested.{stands_agents, stands_told}
use Rattle.shm_pool.specs.{Posts.IsPosted, Tokens.{IsOut, Token}}
use Rattle.shm_team.specs.{declared.left.Left.Left, Dones.IsFinished, Lefts.{IsGivenBack, account_in, is_corpse}}
use Rattle.shm_team.proofs.Resting.{stood_quiet}

pub alive_is : (st : Standing) → st ≢ Dead → is_standing_dead st ≡ false
alive_is Dead n = absurd (n refl)
alive_is _ n = refl

pub dead_is : (st : Standing) → st ≢ AtWork → st ≢ Gone → st ≡ Dead
dead_is AtWork rests left = absurd (rests refl)
dead_is Gone rests left = absurd (left refl)
dead_is Dead rests left = refl

not_dead : (st : Standing) → is_standing_dead st ≡ false → st ≢ Dead
not_dead st e dead = absurd (let z : true ≡ false = ap is_standing_dead (sym dead) ∙ e in cc)

over_done : (s : Scripted) (x : Playing) (e : Account) → IsOver s x e → x.standing ≢ Dead → e.memo.over ≡ true
over_done s x e h alive = elim h [ inl p ↦ p.done | inr r ↦ elim r [ inl m ↦ m.0.done | inr d ↦ absurd (alive d.0) ] ]

-- whose agents they are
pub is_me : (t : Token) (s : Scripted) (x : Playing) → AgentsStand t.of.start s x t.account → x.me ≡ member t.of.start.geometry s.client
is_me t s x h = let a = h.may.me in let b = sym h.may.client in (λ i. record { geometry = a i; who = b i })

module _ (s : Scripted) (x : Playing) (t : Token) (posted : IsPosted t x.me.who) (h : AgentsStand t.of.start s x t.account) (rests : x.standing ≢ AtWork) where
  abbrev e : Account
  e = t.account

  abbrev me : Me
  me = member t.of.start.geometry s.client

  over : IsOver s x e
  over = is_over t.of.start s x e h.stage rests

  -- ---- what the post asks before it gives a token

  pub rests_out : x.standing ≢ Dead → IsOut e.memo
  rests_out alive = inr (over_gone s x e over alive).0

  pub rests_still : x.standing ≢ Dead → acts e.memo ≡ false
  rests_still alive = (over_gone s x e over alive).1.0

  pub rests_whole : x.standing ≢ Dead → fell_by (last_agent e.memo.agents) ≡ false
  rests_whole alive = (over_gone s x e over alive).1.1

  pub rests_fell : x.standing ≡ Dead → fell_by (last_agent e.memo.agents) ≡ true
  rests_fell dead = over_fell s x e over dead

  pub rests_quiet : x.standing ≢ Dead → e.running ≡ []
  rests_quiet alive = stood_quiet t.of.start e posted.stood (over_done s x e over alive)

  -- ---- what is given

  module _ (l : Logged) (log : l ≡ logged x) (k : Left) (token : IsGivenBack t.of k) (account : account_in k ≡ e) (dead : is_corpse k ≡ is_standing_dead x.standing) where
    -- what is said of the account and of whether the last agent died, of those that are given back
    given : (P : Bool → Account → Type 0) → P (is_standing_dead x.standing) e → P (is_corpse k) (account_in k)
    given P p = subst (λ (b : Bool). P b (account_in k)) (sym dead) (subst (P (is_standing_dead x.standing)) (sym account) p)

    entries : l.entries ≡ x.entries
    entries = ap (λ (z : Logged). z.entries) log

    pub finished : IsFinished t.of s l k
    finished =
        record {
          token = token;
          who = ap (λ (a : Account). a.who) account ∙ (posted.named ∙ sym h.may.client);
          log = given (λ (b : Bool) (a : Account). IsLogOf me s (slice_index (lives_of s.life) 0) a.memo.agents a.begun (told_left b a) l)
              (subst (λ (z : Logged). IsLogOf me s (slice_index (lives_of s.life) 0) e.memo.agents e.begun (told_left (is_standing_dead x.standing) e) z) (sym log)
              (subst (λ (m : Me). IsLogOf m s (slice_index (lives_of s.life) 0) e.memo.agents e.begun (told_left (is_standing_dead x.standing) e) (logged x)) (is_me t s x h) (over_log s x e h.may.client over)));
          agents = given (λ (b : Bool) (a : Account). AreScriptAgents s a.memo.agents a.begun b) (stands_agents t.of.start s x e h rests);
          only = given (λ (b : Bool) (a : Account). AreCommandsTold me (told_left b a) l.entries)
              (subst (λ (es : List Entry). AreCommandsTold me (told_left (is_standing_dead x.standing) e) es) (sym entries)
              (subst (λ (m : Me). AreCommandsTold m (told_left (is_standing_dead x.standing) e) x.entries) (is_me t s x h) (stands_told t.of.start s x e h rests)));
          unspent = subst AreUnspent (sym entries) (over_unspent s x e over);
          fold = subst (λ (a : Account). IsFold l.entries a.memo) (sym account) (subst (λ (es : List Entry). IsFold es e.memo) (sym entries) (over_fold s x e over));
          table = ap (λ (a : Account). is_loose a.memo.part) account ∙ over_table s x e over;
          gone = λ vacant. ap (λ (a : Account). a.memo.status) account ∙ (over_gone s x e over (not_dead x.standing (sym dead ∙ vacant))).0;
          taken = subst (λ (a : Account). HasTaken me s.lines (first_account t.of.start s.client) a) (sym account) (subst (λ (m : Me). HasTaken m s.lines (first_account t.of.start m.who) e) (is_me t s x h) h.taken);
        }
