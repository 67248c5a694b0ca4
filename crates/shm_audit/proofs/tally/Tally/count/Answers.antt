use Rattle.std.proofs.{Common.{◌≡◌, get_or, refl, sym, ap, ◌∙◌}, lemmas.List.get_or_default}
use Rattle.shm_audit.specs.Tallies.{unseen}
use Rattle.shm_audit.proofs.Tallying.{tally_head}
use Rattle.shm_audit.proofs.tally.Tally.count.Goals as goal

pub returns-in-Some : goal.returns-in-Some
returns-in-Some c = λ g ws fits l head t.
    let p = c.in-Some.ensures.is g t.start t.places in
    let e : c.index.result.now ≡ get_or c.args.self.now.places.items c.in-Some.place unseen = c.index.ensures ∙ get_or_default c.args.self.now.places.items c.in-Some.place _ unseen c.in-Some.ensures.within in
    tally_head g ws c.args.at c.in-Some.place c.args.count c.args.self.now _ c.counted.result fits l head p.0 (sym c.from.ensures ∙ p.1) t refl refl
    (ap (λ f. f.times) c.counted.ensures ∙ ap (λ f. f.times) e) (ap (λ f. f.namer) c.counted.ensures ∙ ap (λ f. f.namer) e) (ap (λ f. f.count) c.counted.ensures) refl refl refl
