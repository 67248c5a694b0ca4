use Rattle.std.proofs.{Common.{◌≡◌, length, refl, sym, ap, ◌∙◌, arith, inl, inr}, lemmas.Bool.cases_eq}
use Rattle.std.proofs.lemmas.Option.{slice_get_read, slice_get_within}
use Rattle.std.specs.Prelude.{Some, slice_get}
use Rattle.shm_script.specs.Values.{Scripted}
use Rattle.shm_replay.proofs.Gathering.{same_some, script_first, script_none}
use Rattle.shm_morgue.proofs.rescue.script_of.Goals as goal

pub returns-then-script-client : goal.returns-then-script-client
returns-then-script-client c =
    let ss = c.args.scripts.now in
    let at = c.loop-script.script-index in
    let s = c.script-item.result in
    let has : slice_get ss at ≡ Some s = slice_get_read ss (length ss) at s refl c.loop-script-test.true c.script-item.is in
    script_first ss c.args.client at s c.loop-script.invariant.before has (let v = ap (λ (x : Scripted). x.client) c.script.view_is in let e = c.if-script-client.true in cc)

pub loop-script-preserved : goal.loop-script-preserved
loop-script-preserved c = record {
  before = λ j r l g.
      let ss = c.args.scripts.now in
      let at = c.loop-script.script-index in
      let s = c.script-item.result in
      let has : slice_get ss at ≡ Some s = slice_get_read ss (length ss) at s refl c.loop-script-test.true c.script-item.is in
      elim (cases_eq j at) [
        | inl e ↦ (λ f. c.if-script-client.false (let v = ap (λ (x : Scripted). x.client) c.script.view_is in let same : s.client ≡ r.client = ap (λ (x : Scripted). x.client) (same_some s r (sym has ∙ (ap (slice_get ss) (sym e) ∙ g))) in cc))
        | inr o ↦ c.loop-script.invariant.before j r (omega arith) g
      ];
}

pub returns : goal.returns
returns c = script_none c.args.scripts.now c.args.client (λ j r g. c.loop-script.invariant.before j r (let l = slice_get_within c.args.scripts.now j r g in omega arith) g)
