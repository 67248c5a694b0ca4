-- what a worker leaves of its identity
use Rattle.std.proofs.Common.{◌≡◌, ℕ, true, List, [], ◌∷◌, ◌++◌, length, length-append, refl, sym, ap, ◌∙◌, subst, arith}
use Rattle.std.specs.Prelude.{MatchOption, None, Option, Some}
use Rattle.shm_graph.specs.declared.{ask.Me.Me, memo.{Agent.Agent, Fate.TheVariants.{Acts, Ended}}}
use Rattle.shm_graph.specs.declared.{memo.Kind.TheVariants.Recoverer, run.{Account.Account, Start.Start}}
use Rattle.shm_agents.specs.Agents.{Playing, Stage, AgentsStand, is_client}
use Rattle.shm_agents.specs.{Agents.Stage.{Fresh, Plays, Parted, Fallen, Mending, Mended}, Turns.script_in}
use Rattle.shm_pool.specs.{Posts.IsPosted, Tokens.{Its, Token}}
use Rattle.shm_script.specs.{Logged.Logged, Values.{Scripted, Traced}}
use Rattle.shm_team.specs.{declared.left.Left.Left, Dones.{IsDoneBy, IsFinished}, Working.AreAtWork}
use Rattle.shm_replay.proofs.Starting.{script_client}
use Rattle.shm_morgue.specs.{declared.rule.Taken.Taken, Crew.WasLeft, Dead.{AreDead, IsRescue}, Entries.entry}
use Rattle.shm_morgue.proofs.Parting.{client_is}

module _ (t : Traced) (p : Its) (c : ℕ) (s : Scripted) (l : Logged) (is : script_in t.scripts c ≡ Some s) where
  -- all is done of the identity, and nothing was put
  pub left_done : (xs : List Taken) (k : Left) → xs ≡ [] → IsFinished p s l k → WasLeft t p c xs (Some l) (Some k)
  left_done xs k none f = (
    none,
    record {
      left = f.token;
      who = f.who ∙ script_client t.scripts c s is;
      by = subst (λ (o : Option Scripted). IsDoneBy o p c (Some l) k) (sym is) (l, refl, f);
    },
  )

  -- the client died: its corpse was put, or its identity was recovered
  pub left_dead : (xs : List Taken) (u : Token) (o : Option Left) → AreDead p s 1 l u → MatchOption o (xs ≡ entry u 0 ∷ []) (λ k. (xs ≡ []) × IsRescue t p u k) → WasLeft t p c xs (Some l) o
  left_dead xs u None dead h = record { script = s; is = is; log = l; logged = refl; corpse = u; put = h; dead = dead }
  left_dead xs u (Some k) dead h = left_done xs k h.0 (h.1 s l (ap (script_in t.scripts) (dead.who ∙ script_client t.scripts c s is) ∙ is) dead)

-- ---- at a post

module _ (s : Scripted) (k u : Token) (x y : Playing) (w : AreAtWork s k x u y) where
  pub stands_now : AgentsStand u.of.start s y u.account
  stands_now = subst (λ (q : Its). AgentsStand q.start s y u.account) (sym w.of) w.stands

  pub posted_now : IsPosted u y.me.who
  posted_now = subst (λ (m : Me). IsPosted u m.who) (sym w.me) w.posted

-- ---- at the beginning

-- whose identity nobody has joined begins with its client
pub begins_client : (start : Start) (s : Scripted) (x : Playing) (e : Account) → AgentsStand start s x e → e.memo.agents ≡ [] → is_client x ≡ true
begins_client start s x e h none = go h.stage
  where
    go : Stage start s x e → is_client x ≡ true
    go (Fresh a) = client_is x a.here a.agent
    go (Plays a) = client_is x a.here a.agent
    go (Parted a) = absurd (let n : 1 ≡ 0 = ap length (sym a.agents ∙ none) in omega arith)
    go (Fallen a l) = absurd (let n : length e.memo.agents ≡ 0 = ap length none in let m = a.many in let o = a.some in omega arith)
    go (Mending a l) =
        let it : Agent = record { kind = Recoverer; steps = a.steps; fate = Acts } in
        absurd (let n : length (a.before ++ it ∷ []) ≡ 0 = ap length (sym a.agents ∙ none) in let m = length-append a.before (it ∷ []) in omega arith)
    go (Mended a l) =
        let it : Agent = record { kind = Recoverer; steps = a.steps; fate = Ended } in
        absurd (let n : length (a.before ++ it ∷ []) ≡ 0 = ap length (sym a.agents ∙ none) in let m = length-append a.before (it ∷ []) in omega arith)
