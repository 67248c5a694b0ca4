use Rattle.std.proofs.{Common.{◌≡◌, length, refl, sym, ap, ◌∙◌, arith, inl, inr}, lemmas.Bool.cases_eq}
use Rattle.std.proofs.lemmas.Option.{slice_get_read, slice_get_within}
use Rattle.std.specs.Prelude.{Some, slice_get}
use Rattle.shm_script.specs.Values.{Scripted}
use Rattle.shm_replay.proofs.Gathering.{same_some, script_first, script_none}
use Rattle.shm_replay.proofs.replaying.script_of.Goals as goal

pub returns-then-script-who : goal.returns-then-script-who
returns-then-script-who c =
    let ss = c.args.scripts.now in
    let s = c.index-scripts-at.result in
    let has : slice_get ss c.loop-at.at ≡ Some s = slice_get_read ss (length ss) c.loop-at.at s refl c.loop-at-test.true c.index-scripts-at.is in
    (s, has, script_first ss c.args.who c.loop-at.at s c.loop-at.invariant.before has (let v = ap (λ (x : Scripted). x.client) c.script.view_is in let e = c.if-script-who.true in cc))

pub loop-at-preserved : goal.loop-at-preserved
loop-at-preserved c = record {
  before = λ j r l g.
      let ss = c.args.scripts.now in
      let s = c.index-scripts-at.result in
      let has : slice_get ss c.loop-at.at ≡ Some s = slice_get_read ss (length ss) c.loop-at.at s refl c.loop-at-test.true c.index-scripts-at.is in
      elim (cases_eq j c.loop-at.at) [
        | inl e ↦ (λ f. c.if-script-who.false (let v = ap (λ (x : Scripted). x.client) c.script.view_is in let same : s.client ≡ r.client = ap (λ (x : Scripted). x.client) (same_some s r (sym has ∙ (ap (slice_get ss) (sym e) ∙ g))) in cc))
        | inr o ↦ c.loop-at.invariant.before j r (omega arith) g
      ];
}

pub returns : goal.returns
returns c = script_none c.args.scripts.now c.args.who (λ j r g. c.loop-at.invariant.before j r (let l = slice_get_within c.args.scripts.now j r g in omega arith) g)
