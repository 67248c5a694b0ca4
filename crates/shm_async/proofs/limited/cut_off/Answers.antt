use Rattle.std.proofs.Common.{◌≡◌, ℕ, refl, ◌∙◌, subst}
use Rattle.std.specs.Prelude.{Some, None}
use Rattle.shm_script.specs.Values.{Traced}
use Rattle.shm_pool.specs.Tokens.{Its, Token}
use Rattle.shm_team.specs.declared.{done.Finish.Finish, left.Left.{Left, TheVariants.{Vacant, Corpse}}}
use Rattle.shm_async.specs.{Cancelled.{HasCancelled, IsCancelled}, LimitedMembers.IsSpent, Polled.Course}
use Rattle.shm_async.proofs.Due.{cancel_is, cancel_some, mending_first, never_vacant}
use Rattle.shm_async.proofs.limited.cut_off.Goals as goal

-- what is given where the agents are cancelled that have had all their turns
module _ (t : Traced) (p : Its) (c turns : ℕ) (f : Course) (h : IsSpent t p c turns f) (x : Finish) (gave : IsCancelled f.script f.site (Some x)) where
  abbrev Cut : Left → Type 0
  Cut left = HasCancelled h.work.site.post.of f.script h.work.site.post.account (record { log = x.log; token = left })

  cut : Cut x.token
  cut = cancel_is t p c turns f h (Some x) x gave refl

  -- it leaves a corpse
  not_vacant : (left : Left) → Cut left → ((k : Token) → left ≡ Corpse k → ⊥) → ⊥
  not_vacant (Vacant k) it none = never_vacant t p c turns f h x.log k it
  not_vacant (Corpse k) it none = none k refl

  corpse_left : (k : Token) → x.token ≡ Corpse k → Cut (Corpse k)
  corpse_left k is = subst Cut is cut

pub unreachable-requires : goal.unreachable-requires
unreachable-requires g c =
    let (t, k, n, h) = c.requires.spent in
    cancel_some t c.args.pool.now k n c.args.future h None c.in_default.ensures refl

pub unreachable-requires-in_default-token : goal.unreachable-requires-in_default-token
unreachable-requires-in_default-token g c =
    let (t, k, n, h) = c.requires.spent in
    let x = c.in-Some.field-0 in
    not_vacant t c.args.pool.now k n c.args.future h x c.in-Some.ensures x.token (cut t c.args.pool.now k n c.args.future h x c.in-Some.ensures) c.in_default-token.not-Corpse

pub new-requires-clause-of : goal.new-requires-clause-of
new-requires-clause-of g c =
    let (t, k, n, h) = c.requires.spent in
    (corpse_left t c.args.pool.now k n c.args.future h c.in-Some.field-0 c.in-Some.ensures c.in-Corpse.corpse c.in-Corpse.is).token.0 ∙ h.work.of

pub returns-clause-mending : goal.returns-clause-mending
returns-clause-mending g c = λ t k n h.
    mending_first t c.args.pool.now k n c.args.future h c.args.q c.in-Some.field-0.log c.in-Corpse.corpse c.new.result c.requires.turns
    (corpse_left t c.args.pool.now k n c.args.future h c.in-Some.field-0 c.in-Some.ensures c.in-Corpse.corpse c.in-Corpse.is) c.new.ensures

pub returns-clause-life : goal.returns-clause-life
returns-clause-life g c = c.new.ensures.life
