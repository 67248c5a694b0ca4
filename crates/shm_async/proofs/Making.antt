-- the agents of a script before their first turn
use Rattle.std.proofs.Common.{◌≡◌, ◌^◌, ◌<◌, true, [], ◌∷◌, length, length-append, sym, ap, ◌∙◌, subst, arith}
use Rattle.shm_words.specs.declared.geometry.Geometry.{Geometry}
use Rattle.shm_graph.specs.declared.{ask.Me.Me, memo.{Fate.TheVariants.Ended, Kind.TheVariants.Recoverer}}
use Rattle.shm_graph.specs.{declared.run.{Account.Account, Start.Start}, Runs.first_account}
use Rattle.shm_script.specs.{Ranges.ScriptFits, Values.Scripted}
use Rattle.shm_agents.specs.declared.agents.Standing.TheVariants.{AtWork}
use Rattle.shm_agents.specs.Agents.{Fallen, Fresh, Mended, Mending, Parted, Playing, Plays, Stage, AgentsStand, one_agent}
use Rattle.shm_pool.specs.{Posts.IsPosted, Tokens.{Its, Token}}
use Rattle.shm_async.specs.Polled.{StandAt}

-- what is said of agents that have been made for a script
abbrev pub NewStands : Me → Scripted → Playing → Type 0
NewStands me s x = (start : Start) → start.geometry ≡ me.geometry → start.first_era < 2 ^ 46 → start.tables ≡ true → s.client ≡ me.who → ScriptFits me.geometry.clients s → AgentsStand start s x (first_account start me.who)

-- they stand where nobody has joined the identity of the token t
pub new_stands : (p : Its) (t : Token) (s : Scripted) (me : Me) (x : Playing) → t.of ≡ p → t.account ≡ first_account t.of.start t.account.who → t.of.start.first_era < 2 ^ 46 → t.of.start.tables ≡ true → s.client ≡ t.account.who → ScriptFits t.of.start.geometry.clients s
    → me.geometry ≡ p.start.geometry → me.who ≡ t.account.who → NewStands me s x → AgentsStand t.of.start s x t.account
new_stands p t s me x of first era tables client script geometry who new =
    let sizes : t.of.start.geometry ≡ me.geometry = ap (λ (z : Its). z.start.geometry) of ∙ sym geometry in
    let fits : ScriptFits me.geometry.clients s = subst (λ (g : Geometry). ScriptFits g.clients s) sizes script in
    let here : AgentsStand t.of.start s x (first_account t.of.start me.who) = new t.of.start sizes era tables (client ∙ sym who) fits in
    let account : first_account t.of.start me.who ≡ t.account = ap (first_account t.of.start) who ∙ sym first in
    subst (AgentsStand t.of.start s x) account here

-- agents that stand with a token stand at its post
pub post_stand : (t u : Token) (s : Scripted) (x : Playing) → x.me.who ≡ t.account.who → AgentsStand t.of.start s x t.account → u ≡ t → IsPosted u t.account.who → StandAt s (record { agents = x; post = u })
post_stand t u s x mine stands same posted =
    record {
      posted = subst (IsPosted u) (sym mine) posted;
      stands = subst (λ (z : Token). AgentsStand z.of.start s x z.account) (sym same) stands;
    }

-- where nobody has begun one of them is left
pub first_here : (start : Start) (s : Scripted) (x : Playing) (e : Account) → AgentsStand start s x e → e.memo.agents ≡ [] → x.standing ≡ AtWork
first_here start s x e h none = go h.stage
  where
    go : Stage start s x e → x.standing ≡ AtWork
    go (Fresh f) = f.here
    go (Plays p) = p.here
    go (Mending m l) = m.here
    go (Parted p) = let z : one_agent p.steps Ended ≡ [] = sym p.agents ∙ none in absurd (cc)
    go (Fallen f l) = absurd (let many = f.many in let some = f.some in let zero = ap length none in omega arith)
    go (Mended m l) = absurd (let both = ap length (sym m.agents ∙ none) in let sum = length-append m.before (record { kind = Recoverer; steps = m.steps; fate = Ended } ∷ []) in omega arith)
