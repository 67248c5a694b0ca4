use Rattle.std.proofs.Common.{◌≡◌, ◌+◌, ◌*◌, ◌<◌, get_or, length, below_more, refl, sym, ap, subst, ◌∙◌, arith}
use Rattle.std.proofs.lemmas.List.{get_or_default}
use Rattle.std.specs.Prelude.{Option, None, Some}
use Rattle.shm_graph.specs.Spots.{see}
use Rattle.shm_audit.specs.{declared.verdict.Verdict.Verdict, Tallies.{place_address, place_verdict, unseen}}
use Rattle.shm_audit.proofs.Ends.{Judges, judge_clean, judge_wrong, judges}
use Rattle.shm_audit.proofs.tally.Tally.judge.Goals as goal

none_of : (o : Option Verdict) → ((v : Verdict) → o ≡ Some v → ⊥) → o ≡ None
none_of None h = refl
none_of (Some v) h = absurd (h v refl)

pub returns-in-Some : goal.returns-in-Some
returns-in-Some c = λ g ws fits pages t.
    let items = c.args.self.now.places.items in
    let i = c.loop-found.found-index in
    let x = get_or items i unseen in
    let at : c.loop-found.block ≡ place_address g i = c.loop-found.invariant.block ∙ ap (λ s. s + 4 * i) t.start in
    let e = ap length c.deref-found-items.ensures.value in
    let l : i < length items = (let k = c.loop-found-test.true in omega arith) in
    let is : place_verdict x.times x.count (place_address g i) ≡ Some c.in-Some.verdict =
    sym (c.verdict.ensures ∙ (ap (λ f. place_verdict f.times f.count c.loop-found.block) (get_or_default c.deref-found-items.result.now i _ unseen (c.loop-found-test.true) ∙ ap (λ xs. get_or xs i unseen) c.deref-found-items.ensures.value) ∙ ap (place_verdict x.times x.count) at)) ∙ c.in-Some.is in
    let j = subst (Judges g (see g ws) (place_address g i)) is (judges g ws c.args.self.now fits pages t i (omega (arith, l, t.places))) in
    judge_wrong g ws c.args.self.now fits pages t i (place_address g i) c.in-Some.verdict refl (omega (arith, l, t.places)) (c.loop-found.invariant.right g ws fits pages t) j.0 j.1

pub loop-found-preserved : goal.loop-found-preserved
loop-found-preserved c =
    let items = c.args.self.now.places.items in
    let i = c.loop-found.found-index in
    record {
      block = let e = c.loop-found.invariant.block in omega arith;
      right = λ g ws fits pages t.
          let x = get_or items i unseen in
          let at : c.loop-found.block ≡ place_address g i = c.loop-found.invariant.block ∙ ap (λ s. s + 4 * i) t.start in
          let e = ap length c.deref-found-items.ensures.value in
          let l : i < length items = (let k = c.loop-found-test.true in omega arith) in
          let is : place_verdict x.times x.count (place_address g i) ≡ None =
          sym (c.verdict.ensures ∙ (ap (λ f. place_verdict f.times f.count c.loop-found.block) (get_or_default c.deref-found-items.result.now i _ unseen (c.loop-found-test.true) ∙ ap (λ xs. get_or xs i unseen) c.deref-found-items.ensures.value) ∙ ap (place_verdict x.times x.count) at)) ∙ none_of c.verdict.result c.in_default.not-Some in
          let j = subst (Judges g (see g ws) (place_address g i)) is (judges g ws c.args.self.now fits pages t i (omega (arith, l, t.places))) in
          below_more _ _ (c.loop-found.invariant.right g ws fits pages t) j;
    }

pub returns : goal.returns
returns c = λ g ws fits pages t.
    let e = ap length c.deref-found-items.ensures.value in
    judge_clean g ws c.args.self.now fits pages t c.loop-found.found-index (omega (arith, t.places, c.loop-found-test.false, c.loop-found.auto.found-index-end, e)) (c.loop-found.invariant.right g ws fits pages t)
