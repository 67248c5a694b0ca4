use Rattle.std.proofs.Common.{◌≡◌, ℕ, ◌<◌, true, false, sym, ap, ◌∙◌, subst, arith}
use Rattle.shm_graph.specs.{declared.run.{Account.Account, Start.Start}, Laws.step_of, Runs.{Stood, account_after}}
use Rattle.shm_graph.specs.Whole.{Learns, fits_now, gives_now}
use Rattle.shm_plain.specs.Working.{ready_account}
use Rattle.shm_pool.specs.{Calls.ClientStepped, Posts.{PostKnows, account_seen}, Rules.alone, Tokens.{Its, Token}}
use Rattle.shm_pool.proofs.{Posting.{ready_who, seen_who, stepped_knows}, Seating.seated_on}
use Rattle.shm_pool.proofs.post.PostWorkplace.step.{Given.Over, Goals.{After-top-2, After-step_place}}
use Rattle.shm_pool.proofs.post.PostWorkplace.step.Goals as goal

-- the account that is seen before
seen : (g : Over) (c : After-top-2 g) → account_seen c.self.inside.fallen (alone c.self.inside.place) ≡ c.args.self.now.account
seen g c = ap (λ (t : Token). t.account) c.self.view_is

-- the number of the account once an agent acts
number : (g : Over) (c : After-top-2 g) → (alone c.note_ready.new.place).who ≡ c.args.who
number g c =
    ap (λ (e : Account). e.who) c.note_ready.ensures.account
    ∙ (ready_who (account_seen c.self.inside.fallen (alone c.self.inside.place))
    ∙ (ap (λ (e : Account). e.who) (seen g c) ∙ c.requires.has.named))

key : (g : Over) (c : After-top-2 g) → c.top-2.result.now.key ≡ c.args.self.now.of.start
key g c = c.top-2.ensures.1 ∙ (ap (λ (p : Its). p.start) (sym c.self.invariant.2) ∙ ap (λ (t : Token). t.of.start) c.self.view_is)

key_inside : (g : Over) (c : After-top-2 g) → c.top-2.result.now.key ≡ c.self.inside.start
key_inside g c = c.top-2.ensures.1 ∙ ap (λ (p : Its). p.start) (sym c.self.invariant.2)

key_first : (g : Over) (c : After-top-2 g) → c.top.result.now.key ≡ c.self.inside.start
key_first g c = c.top.ensures.1 ∙ ap (λ (p : Its). p.start) (sym c.self.invariant.2)

pub step_place-requires-clause-me : goal.step_place-requires-clause-me
step_place-requires-clause-me g c = let h = (goal.at.step_place-requires-clause-me g c).After-top-2 in
    let k = key g h in let w = number g h in let m = c.requires.machine in (
      m.0 ∙ (λ i. record { geometry = (sym k i).geometry; who = sym w i }),
      subst (λ (n : ℕ). n < c.top-2.result.now.key.geometry.clients) (sym w) (subst (λ (z : Start). c.args.who < z.geometry.clients) (sym k) m.1),
      m.2,
      c.note_ready.ensures.acts,
    )

stood_ready : (g : Over) (c : After-top-2 g) → Stood c.self.inside.start (alone c.note_ready.new.place)
stood_ready g c =
    subst (λ (z : Start). Stood z (alone c.note_ready.new.place)) (key_first g c)
    (c.note_ready.ensures.stood (subst (λ (z : Start). Stood z (alone c.self.inside.place)) (sym (key_first g c)) c.self.invariant.0.stood))

pub step_place-requires-clause-stood : goal.step_place-requires-clause-stood
step_place-requires-clause-stood g c = let h = (goal.at.step_place-requires-clause-stood g c).After-top-2 in
    subst (λ (z : Start). Stood z (alone c.note_ready.new.place)) (sym (key_inside g h)) (stood_ready g h)

module _ (g : Over) (c : After-step_place g) where
  abbrev h : After-top-2 g
  h = (goal.at.After-step_place g c).After-top-2

  some : 0 < c.args.life.now.left
  some = let z = c.if-life-eq0.false in omega arith

  stepped : ClientStepped g.M.Machine.control (fits_now g.M.Machine.control g.M.Machine.fits) (gives_now g.M.Machine.gives) c.args.m.now (alone c.note_ready.new.place) (alone c.step_place.new.place) c.step_place.result c.step_place.new.m
  stepped = (c.step_place.ensures.turn some).1

  stood : Stood c.self.inside.start (alone c.step_place.new.place)
  stood = subst (λ (z : Start). Stood z (alone c.step_place.new.place)) (key_inside g h) c.step_place.ensures.stood

  named : (alone c.step_place.new.place).who ≡ c.args.who
  named = c.step_place.ensures.who ∙ number g h

  before : (alone c.self.inside.place).who ≡ c.args.who
  before = sym (seen_who c.self.inside.fallen (alone c.self.inside.place)) ∙ (ap (λ (e : Account). e.who) (seen g h) ∙ c.requires.has.named)

  knows : PostKnows true false (alone c.step_place.new.place).memo
  knows = subst (λ (e : Account). PostKnows true false e.memo) (sym stepped.account) (stepped_knows (alone c.note_ready.new.place) (step_of g.M.Machine.control c.args.m.now stepped.seen) c.note_ready.ensures.acts)

pub invariant_of-self : goal.invariant_of-self
invariant_of-self g c = let d = (goal.at.invariant_of-self g c).After-step_place in (
  seated_on c.self.inside.start c.self.inside.who c.self.inside.place c.step_place.new.place c.self.invariant.0 c.step_place.ensures.place.2 (named g d ∙ sym (before g d)) (stood g d),
  knows g d,
  ap (λ t. record { table = t; start = c.self.inside.start }) (c.step_place.ensures.place.0 ∙ c.note_ready.ensures.place.0) ∙ c.self.invariant.2,
)

pub returns-clause-has : goal.returns-clause-has
returns-clause-has g c = let d = (goal.at.returns-clause-has g c).After-step_place in record {
  named = named g d;
  below = subst (λ (n : ℕ). n < c.self.inside.start.geometry.clients) (c.self.invariant.0.who ∙ before g d) c.self.invariant.0.below;
  stood = stood g d;
}

pub returns-clause-turn : goal.returns-clause-turn
returns-clause-turn g c = λ _. let d = (goal.at.returns-clause-turn g c).After-step_place in
    let x = stepped g d in
    let r = c.note_ready.ensures.account ∙ ap ready_account (seen g (h g d)) in (
      (c.step_place.ensures.turn (some g d)).0,
      record {
        seen = x.seen;
        account = x.account ∙ ap (λ (e : Account). account_after e (step_of g.M.Machine.control c.args.m.now x.seen)) r;
        next = x.next;
        turn = x.turn;
        learns = subst (λ (e : Account). Learns g.M.Machine.control (fits_now g.M.Machine.control g.M.Machine.fits) (gives_now g.M.Machine.gives) c.args.m.now x.seen e.memo (alone c.step_place.new.place).memo) r x.suits;
      },
      ap (λ t. record { table = t; start = c.self.inside.start }) (c.step_place.ensures.place.0 ∙ c.note_ready.ensures.place.0) ∙ ap (λ (t : Token). t.of) c.self.view_is,
    )
