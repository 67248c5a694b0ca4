-- identities that are polled, until all is done of them
use Rattle.std.proofs.Common.{◌≡◌, ◌≢◌, ℕ, ◌<◌, refl, sym, ap, ◌∙◌, subst}
use Rattle.std.specs.Prelude.{MatchOption, Option, Some, None}
use Rattle.shm_agents.specs.{Turns.script_in, TurnsLeft.turns_by}
use Rattle.shm_pool.specs.Tokens.{Its, Token}
use Rattle.shm_script.specs.Values.{Scripted, Traced}
use Rattle.shm_team.specs.{declared.done.Finish.Finish, Dones.{IsDone, IsDoneBy, IsFinished}}
use Rattle.shm_replay.proofs.Starting.{script_client}
use Rattle.shm_async.specs.{Finished.HasFinished, Members.MemberAtWork}
use Rattle.shm_async.specs.Polled.{AtPost, Course, HasTurned, IsNew, IsPolled, MayGive}

pub some_of : {A : Type 0} (a b : A) → a ≡ b → ◌≡◌ {A = Option A} (Some a) (Some b)
some_of a b e = ap (λ x. let o : Option _ = Some x in o) e

-- before its first turn
pub new_working : (t : Traced) (p : Its) (c : ℕ) (k : Token) (s : Scripted) (q : ℕ) (f : Course) → IsNew k s q f → script_in t.scripts c ≡ Some s → k.of ≡ p → MemberAtWork t p c f
new_working t p c k s q f n is of = record { script = is ∙ some_of s f.script (sym n.script); site = record { agents = n.agents; post = k }; is = n.site; of = of }

-- the site of the identity after a poll that is pending
pub pending_site : (q : ℕ) (s : Scripted) (o b : Option AtPost) (w : AtPost) → o ≡ Some w → HasTurned q s o None b → (v : AtPost) × (b ≡ Some v) × (v.post.of ≡ w.post.of) × (turns_by v.agents (Some s) < turns_by w.agents (Some s))
pending_site q s o b w at h = let (v, is, went, given, less) = subst (λ (x : Option AtPost). HasTurned q s x None b) at h in (v, is, went.of, less)

pub still_working : (t : Traced) (p : Its) (c : ℕ) (f g : Course) → MemberAtWork t p c f → IsPolled f None g → MemberAtWork t p c g
still_working t p c f g w h =
    let (v, is, of, less) = pending_site f.quota f.script f.site g.site w.site w.is h.turned in
    record { script = w.script ∙ some_of f.script g.script (sym h.script); site = v; is = is; of = of ∙ w.of }

-- what its future gives
pub given_done : (t : Traced) (p : Its) (c : ℕ) (f : Course) (x : Finish) → MemberAtWork t p c f → MayGive f x → IsDone t p c (record { log = Some x.log; left = x.token })
given_done t p c f x w m =
    let at : HasFinished w.site.post.of f.script x = subst (λ (o : Option AtPost). MatchOption o ⊥ (λ z. HasFinished z.post.of f.script x)) w.is m in
    let fin : IsFinished p f.script x.log x.token = subst (λ (q : Its). IsFinished q f.script x.log x.token) w.of at in
    record {
      left = fin.token;
      who = fin.who ∙ script_client t.scripts c f.script w.script;
      by = subst (λ (o : Option Scripted). IsDoneBy o p c (Some x.log) x.token) (sym w.script) (x.log, refl, fin);
    }

-- the turns that are left of a future at most
abbrev pub turns_site : Scripted → Option AtPost → ℕ
turns_site s None = 0
turns_site s (Some w) = turns_by w.agents (Some s)

-- a site that is there
pub site_left : (o : Option AtPost) (w : AtPost) → o ≡ Some w → o ≢ None
site_left o w is none = let z : ◌≡◌ {A = Option AtPost} (Some w) None = sym is ∙ none in cc

pub site_some : (o : Option AtPost) → o ≢ None → (w : AtPost) × (o ≡ Some w)
site_some None left = absurd (left refl)
site_some (Some w) left = (w, refl)

-- and still is after a poll that is pending
pub still_left : (f g : Course) → f.site ≢ None → IsPolled f None g → g.site ≢ None
still_left f g left h =
    let (w, at) = site_some f.site left in
    let (v, is, of, less) = pending_site f.quota f.script f.site g.site w at h.turned in
    site_left g.site v is

pub fewer_left : (f g : Course) (w : AtPost) → f.site ≡ Some w → IsPolled f None g → turns_site g.script g.site < turns_site f.script f.site
fewer_left f g w at h =
    let (v, is, of, less) = pending_site f.quota f.script f.site g.site w at h.turned in
    subst (λ (s : Scripted). turns_site s g.site < turns_site f.script f.site) (sym h.script)
    (subst (λ (o : Option AtPost). turns_site f.script o < turns_site f.script f.site) (sym is)
    (subst (λ (o : Option AtPost). turns_by v.agents (Some f.script) < turns_site f.script o) (sym at) less))
