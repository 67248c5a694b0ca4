use Rattle.std.proofs.Common.{◌≡◌, ◌≢◌, ◌+◌, ◌++◌, [], ◌∷◌, length, take, refl, sym, ap, ◌∙◌, arith}
use Rattle.std.proofs.lemmas.{List.{get_or-set_other, length-set, take_more}, Option.slice_get_read}
use Rattle.std.specs.Prelude.{Some, None, slice_get, slice_index_or}
use Rattle.shm_script.specs.Values.{Scripted, Traced}
use Rattle.shm_replay.specs.Gathered.{log_at, logs_by}
use Rattle.shm_replay.proofs.{Gathering.logs_more, WholeRun.apart_at}
use Rattle.shm_replay.proofs.replaying.take_logs.Goals as goal

pub take_log-requires-clause-room : goal.take_log-requires-clause-room
take_log-requires-clause-room g c =
    let scripts : c.args.trace.now.scripts ≡ c.as_slice-script-items.result.now = (let v = ap (λ (t : Traced). t.scripts) c.trace.view_is in cc) in
    let n = ap length scripts in
    let few = c.loop-script.invariant.few in
    let room = c.loop-script.invariant.room in
    omega arith

pub loop-script-preserved : goal.loop-script-preserved
loop-script-preserved g c =
    let l = c.loop-script in
    let h = l.invariant in
    let got = c.take_log.ensures in
    let ss = c.as_slice-script-items.result.now in
    let scripts : c.args.trace.now.scripts ≡ ss = (let v = ap (λ (t : Traced). t.scripts) c.trace.view_is in cc) in
    let s = c.script-item.result in
    let has : slice_get ss l.script-index ≡ Some s = slice_get_read ss (length ss) l.script-index s refl c.loop-script-test.true c.script-item.is in
    let there : slice_get c.args.trace.now.scripts l.script-index ≡ Some s = ap (λ xs. slice_get xs l.script-index) scripts ∙ has in
    let who : s.client ≡ c.script.inside.client = (let v = ap (λ (x : Scripted). x.client) c.script.view_is in cc) in
    let few = h.few in
    let count = got.count in
    let xs = c.args.agents.now in
    let at : slice_index_or l.agents s.client None ≡ slice_index_or xs s.client None = h.left s.client (λ j r lt f. apart_at c.args.trace.now.scripts j l.script-index r s c.in_grammar.ensures.apart lt f there) in
    let more : take (l.script-index + 1) c.args.trace.now.scripts ≡ take l.script-index c.args.trace.now.scripts ++ s ∷ [] =
    ap (take (l.script-index + 1)) scripts ∙ (take_more ss l.script-index s c.loop-script-test.true ∙ (ap (λ r. take l.script-index ss ++ r ∷ []) (sym c.script-item.is) ∙ ap (λ ys. take l.script-index ys ++ s ∷ []) (sym scripts))) in
    record {
      many = ap length got.taken ∙ (length-set l.agents c.script.inside.client None ∙ h.many);
      logs =
          got.logs
          ∙ (ap (λ ys. ys ++ log_at (slice_index_or l.agents c.script.inside.client None)) h.logs
          ∙ (ap (λ n. logs_by (take l.script-index c.args.trace.now.scripts) xs ++ log_at (slice_index_or l.agents n None)) (sym who)
          ∙ (ap (λ o. logs_by (take l.script-index c.args.trace.now.scripts) xs ++ log_at o) at
          ∙ (sym (logs_more (take l.script-index c.args.trace.now.scripts) s xs) ∙ ap (λ ys. logs_by ys xs) (sym more)))));
      few = omega arith;
      room = got.room ∙ h.room;
      left = λ k f.
          let other : k ≢ c.script.inside.client = (λ e. f l.script-index s (omega arith) there (who ∙ sym e)) in
          ap (λ ys. slice_index_or ys k None) got.taken ∙ (get_or-set_other l.agents c.script.inside.client k None None other ∙ h.left k (λ j r lt e. f j r (omega arith) e));
    }
