use Rattle.std.proofs.{Common.{◌≡◌, ℕ, ◌<◌, true, [], ◌∷◌, sym, ap, ◌∙◌, subst}, lemmas.Bool.lt-ltb}
use Rattle.shm_words.specs.{declared.geometry.Geometry.Geometry, Layout.{is_in, total_of}}
use Rattle.shm_words.specs.declared.place.Place.TheVariants as place
use Rattle.shm_words.proofs.Placing.{address_below}
use Rattle.shm_graph.specs.declared.run.Account.{Account}
use Rattle.shm_pool.specs.Rules.{alone, head_account}
use Rattle.shm_pool.proofs.Reading.{read_at}
use Rattle.shm_pool.proofs.steps.load_status.Goals as goal

pub load-requires : goal.load-requires
load-requires c =
    let g : Geometry = c.args.top.now.key.geometry in
    let e : Account = alone c.args.place.now in
    let low : e.who < g.clients = c.requires.at.0 in
    let within : is_in g (place.Status e.who) ≡ true = lt-ltb e.who g.clients low in (
      c.requires.table.0,
      subst (λ (n : ℕ). c.args.at < n) (sym c.requires.table.1) (subst (λ (a : ℕ). a < total_of g) (sym c.requires.at.1) (address_below g (place.Status e.who) within c.requires.fits)),
      read_at c.args.top.now.key _ _ e _ c.requires.table.2 c.requires.at.0 c.args.at c.requires.at.1,
    )

pub returns-clause-place : goal.returns-clause-place
returns-clause-place c =
    let h = c.load.ensures in
    (h.0, h.1, (λ i. (h.2.0 i, h.2.1 i)) ∙ (c.requires.table.2 ∙ (λ i. (head_account (sym h.2.0 i) ∷ [], []))))

pub returns-clause-account : goal.returns-clause-account
returns-clause-account c = ap head_account c.load.ensures.2.0

pub returns-clause-is : goal.returns-clause-is
returns-clause-is c = c.load.ensures.2.2
