use Rattle.std.proofs.Common.{◌≡◌, ℕ, ◌+◌, ◌<◌, List, [], ◌∷◌, ◌++◌, length, get_or, subst, ap, sym, arith, length-append}
use Rattle.shm_audit.specs.Images.{numbers}
use Rattle.shm_view.specs.{declared.identity.Identity.Identity, Figures.{IsIdentity, nobody}}
use Rattle.shm_view.proofs.Listing.{each_pushed}
use Rattle.shm_view.proofs.stats.identities.Goals as goal

pub loop-c-preserved : goal.loop-c-preserved
loop-c-preserved c =
    let old = c.loop-c.identities.items in
    let is : c.push.new.self.items ≡ old ++ c.read_identity.result ∷ [] = c.in_ok-push.ensures.items in
    let longer = length-append old (c.read_identity.result ∷ []) in
    let count = ap length is in
    let before = c.loop-c.invariant.count in
    record {
      count = omega arith;
      each = subst (λ (xs : List Identity). (k : ℕ) → k < c.loop-c.c + 1 → IsIdentity c.args.geometry (numbers c.args.words.now) k (get_or xs k nobody)) (sym is)
          (each_pushed (λ k i. IsIdentity c.args.geometry (numbers c.args.words.now) k i) old c.read_identity.result nobody c.loop-c.c before c.loop-c.invariant.each c.read_identity.ensures);
    }
