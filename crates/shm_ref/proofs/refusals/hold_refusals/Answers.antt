use Rattle.std.proofs.{Common.{refl, sym, ap, ◌∙◌, subst, arith, ◌+◌, List}, lemmas.Bool.{cond-false, cond-true}}
use Rattle.std.specs.List.{Contains}
use Rattle.shm_words.specs.Layout.{address}
use Rattle.shm_words.specs.declared.place.Place.TheVariants as place
use Rattle.shm_graph.specs.declared.{ask.Ask.TheVariants.Exchange, memo.{Memo.Memo, Stored.Stored}}
use Rattle.shm_graph.specs.{declared.spot.Spot.TheVariants.Hold, Asks.{Trail, pair}, Core.core, Views.own_word}
use Rattle.shm_graph.proofs.Spots.Spotting.{same_spot_self}
use Rattle.shm_ref.proofs.refusals.hold_refusals.Goals as goal

pub returns-clause-busy : goal.returns-clause-busy
returns-clause-busy c me a r0 r tr es e g =
    (g.holder, subst (λ (t : Trail). Contains t (pair (Exchange (address me.geometry (place.Latch a)) 0 (me.who + 1)) (e.holder + 1))) (sym g.trail) (1, omega arith, refl), g.none)

pub returns-clause-stays : goal.returns-clause-stays
returns-clause-stays c me a r0 r tr es e g = (
  ap (λ (x : Memo). own_word x.own (Hold me.who)) g.memo ∙ cond-true _ _ _ (same_spot_self (Hold me.who)),
  λ p n. ap (λ (x : Memo). own_word x.own p) g.memo ∙ (cond-false _ _ _ n ∙ cond-false _ _ _ n),
  g.memo ∙ ap (λ (o : List Stored). core (record r0 { own = o })) (sym (ap (λ (x : Memo). x.own) g.memo)),
)
