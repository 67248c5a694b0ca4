use Rattle.std.proofs.Common.{◌≡◌, ℕ, ◌+◌, ◌*◌, ◌<◌, true, false, get_or, length, sym, ap, subst, ◌∙◌, arith}
use Rattle.std.proofs.lemmas.List.{get_or_default}
use Rattle.std.specs.Prelude.{Option}
use Rattle.shm_words.specs.Layout.{total_of}
use Rattle.shm_audit.specs.declared.tally.Reference.{Reference}
use Rattle.shm_audit.specs.Tallies.{earlier, is_bad_place, place_address, places_in, unseen}
use Rattle.shm_audit.proofs.Ends.{IsFirstIn, bad_below, bad_end, bad_more, bad_same, bad_start}
use Rattle.shm_audit.proofs.tally.Tally.bad_reference.Goals.{then-is_bad, else-is_bad}
use Rattle.shm_audit.proofs.tally.Tally.bad_reference.Goals as goal

pub loop-found-init : goal.loop-found-init
loop-found-init c = record {
  block = omega arith;
  first = λ g ws fits pages t. subst (λ b. IsFirstIn g ws (bad_below g ws b) c.args.self.now.stray) (sym t.start) (bad_start g ws c.args.self.now.stray t.stray);
}

pub loop-found-preserved : goal.loop-found-preserved
loop-found-preserved c =
    let items = c.args.self.now.places.items in
    let i = c.loop-found.found-index in
    let block = c.loop-found.block in
    let l : i < length items = (let e = ap length c.deref-found-items.ensures.value in let k = c.loop-found-test.true in omega arith) in
    let same = get_or_default c.deref-found-items.result.now i _ unseen (c.loop-found-test.true) ∙ ap (λ xs. get_or xs i unseen) c.deref-found-items.ensures.value in
    record {
      block = let e = c.loop-found.invariant.block in omega arith;
      first = λ g ws fits pages t.
          let at : block ≡ place_address g i = c.loop-found.invariant.block ∙ ap (λ s. s + 4 * i) t.start in
          let q : i < places_in g = (let e = t.places in omega arith) in
          let before = subst (λ b. IsFirstIn g ws (bad_below g ws b) c.loop-found.least) at (c.loop-found.invariant.first g ws fits pages t) in
          let x = get_or items i unseen in
          let P : ℕ → Option Reference → Type 0 = λ b o. IsFirstIn g ws (bad_below g ws (b + 4)) o in
          elim c.if-is_bad.branch [
            | then-is_bad w ↦ (
                let bad : is_bad_place x.times x.count ≡ true = sym (c.is_bad.ensures ∙ ap (λ f. is_bad_place f.times f.count) same) ∙ w.if-is_bad.true in
                let now : c.if-is_bad.least ≡ earlier c.loop-found.least x.namer w.from.result = w.least-is ∙ (w.earlier-least.ensures ∙ ap (λ f. earlier c.loop-found.least f.namer w.from.result) same) in
                subst (λ b. P b c.if-is_bad.least) (sym at) (subst (P (place_address g i)) (sym now) (bad_more g ws i x q (t.found i q) c.loop-found.least w.from.result bad (w.from.ensures ∙ at) before)))
            | else-is_bad w ↦ (
                let good : is_bad_place x.times x.count ≡ false = sym (c.is_bad.ensures ∙ ap (λ f. is_bad_place f.times f.count) same) ∙ w.if-is_bad.false in
                subst (λ b. P b c.if-is_bad.least) (sym at) (subst (P (place_address g i)) (sym w.least-is) (bad_same g ws i x q (t.found i q) c.loop-found.least good before)))
          ];
    }

pub returns : goal.returns
returns c = λ g ws fits pages t.
    let e = ap length c.deref-found-items.ensures.value in
    let x : c.loop-found.block ≡ total_of g = omega (arith, c.loop-found.invariant.block, t.start, t.places, c.loop-found-test.false, c.loop-found.auto.found-index-end, e) in
    bad_end g ws fits pages c.loop-found.least c.loop-found.block x (c.loop-found.invariant.first g ws fits pages t)
