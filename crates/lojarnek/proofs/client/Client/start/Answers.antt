use Rattle.std.proofs.Common.{◌≡◌, refl, sym, ap, ◌∙◌, subst}
use Rattle.shm_script.specs.Ranges.{LineFits}
use Rattle.lojarnek.specs.{Pending.IsAmidLine, Standing.{Acts, IsReadyForCall, acts_of}}
use Rattle.lojarnek.proofs.client.Client.start.Goals as goal

pub begin-machine-requires-clause-alive : goal.begin-machine-requires-clause-alive
begin-machine-requires-clause-alive c = ap (λ (a : Acts). a.token.dead) (c.into_parts-token.ensures.client ∙ sym c.self.view_is) ∙ (sym c.self.invariant.1 ∙ c.if-self.false)

pub begin-machine-requires-clause-tables : goal.begin-machine-requires-clause-tables
begin-machine-requires-clause-tables c = ap (λ (a : Acts). a.token.of.start.tables) c.into_parts-token.ensures.client ∙ c.in_default.ensures.tables refl

pub begin-machine-requires-clause-fits : goal.begin-machine-requires-clause-fits
begin-machine-requires-clause-fits c =
    subst (λ (a : Acts). LineFits a.token.of.start.geometry.clients a.token.account.who c.args.command) (sym c.into_parts-token.ensures.client) (c.in_default.ensures.fits refl c.in_range.ensures.fits)

pub invariant_of-result : goal.invariant_of-result
invariant_of-result c =
    let p = c.into_parts-token in
    let now = acts_of p.result.1 p.result.2.left in
    let from : c.of-from.result.value ≡ c.args.self = c.of-from.ensures in
    let same : now ≡ c.of-from.result.value = p.ensures.client ∙ sym from in (
      p.ensures.home,
      subst (λ (a : Acts). IsReadyForCall a.token) same p.ensures.ready,
      ap (λ (a : Acts). a.token.of.start.tables) from ∙ c.in_default.ensures.tables refl,
      subst (λ (a : Acts). IsAmidLine c.args.command c.begin-machine.result a now) same (c.begin-machine.ensures p.result.2.left),
    )
